-- Laws of checks 12 to 16.
pub mod SpanWalks
pub mod PremiseTurns
pub mod EarlierPremises
pub mod ShapeTests
pub mod CitationLaws
pub mod RuleTable
