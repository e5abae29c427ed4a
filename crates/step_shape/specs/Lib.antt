pub mod RuleFit
pub mod TakenPremises
pub mod EntryChecks
pub mod RuleLines
pub mod Meanings
