pub mod Table
pub mod Cases
pub mod Truth
pub mod Each
pub mod Lists
