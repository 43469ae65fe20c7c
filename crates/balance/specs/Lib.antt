pub mod EntryClaims
pub mod VerdictClaims
pub mod MoveClaims
