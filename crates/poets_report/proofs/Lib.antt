pub mod KeyOrder
pub mod RisingRows
pub mod FoldsByKey
pub mod OneAnswers
pub mod KeyedRows
pub mod ParameterPairs
pub mod Steps
pub mod Existence
