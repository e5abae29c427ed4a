-- Laws of the duties' checks.
pub mod DoneDuties
pub mod NamedRows
