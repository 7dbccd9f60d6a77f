-- What the rule of a level's rate is asked, and what it makes, in the forms of the code.
pub mod RateStatics
pub mod Level
