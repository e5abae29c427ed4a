pub mod Policies
pub mod PremiseFormulas
pub mod Misfits
