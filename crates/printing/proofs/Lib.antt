pub mod WroteLaws
pub mod SizeLaws
pub mod PrintLaws
pub mod RoundTrip
