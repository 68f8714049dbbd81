pub mod Lines
pub mod Tokens
pub mod Places
pub mod Laws
