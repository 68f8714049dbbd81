pub mod Civil
pub mod Laws
pub mod Made
