mod Statuses
mod Deserved
mod Unkept
mod Fewness
