pub mod Days
pub mod EachDay
pub mod Orders
pub mod DayTexts
pub mod DistinctSums
