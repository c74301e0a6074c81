pub mod Keys
pub mod Orders
pub mod CodeOrder
pub mod Lex
pub mod CellOrder
