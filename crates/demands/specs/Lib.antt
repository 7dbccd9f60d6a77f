-- The customer's demands, the place of a live record's bands and its order over every sequence of calls, cases of
-- them, and document 01's own cases as proved tables.
pub mod Demands
pub mod Beside
pub mod Inside
pub mod NotKept
pub mod Order
pub mod OrderCases
pub mod WorkedWeek
pub mod Cases
pub mod CaseCalls
