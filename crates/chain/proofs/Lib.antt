-- Laws of chains.
pub mod Lists
pub mod Along
pub mod Chains
pub mod Drivers
