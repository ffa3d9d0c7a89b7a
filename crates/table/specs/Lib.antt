pub mod Laws
pub mod Places
pub mod Records
pub mod Rising
pub mod View
