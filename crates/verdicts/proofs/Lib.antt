pub mod VerdictSets
pub mod VerdictTexts
pub mod VerdictSizes
