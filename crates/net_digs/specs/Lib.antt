pub mod Digs
pub mod Linked
