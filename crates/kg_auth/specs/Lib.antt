pub mod AclRule
pub mod Authentication
pub mod KeyAuth
pub mod KeyPlaces
pub mod Senders
pub mod Single
