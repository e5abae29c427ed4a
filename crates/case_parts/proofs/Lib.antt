-- Laws of the layout.
pub mod LayoutLaws
