pub mod BodyLaws
pub mod CredLaws
pub mod InitResLaws
