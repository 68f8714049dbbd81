pub mod Logical
