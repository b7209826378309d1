pub mod Pages
pub mod RowRefs
pub mod Selections
