pub mod EntryRuns
pub mod VerdictCalls
pub mod MoveCalls
