pub mod CommaLists
pub mod GatewayMessage
pub mod HeaderLists
pub mod HopByHop
