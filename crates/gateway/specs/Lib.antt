-- The gateway's calls in the forms of the code.
pub mod PriceAndRate
pub mod LimitCalls
pub mod GatewayLaws
