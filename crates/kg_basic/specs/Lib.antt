pub mod BasicAuth
pub mod Logins
