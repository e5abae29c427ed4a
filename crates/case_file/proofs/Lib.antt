-- Laws of case files. Callers cite Laws and LentCaseLaws alone.
pub mod AdmissionBranches
pub mod NumberAnswers
pub mod BookOfFile
pub mod ObserverLists
pub mod SeenTable
pub mod NamedFormulas
pub mod Laws
pub mod LentCaseLaws
