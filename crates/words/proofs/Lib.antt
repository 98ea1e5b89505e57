pub mod Proved
pub mod RateWords
pub mod JudgeWord
