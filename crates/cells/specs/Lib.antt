pub mod Cells
pub mod Headings
pub mod Rows
