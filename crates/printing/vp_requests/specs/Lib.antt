-- A request.
pub mod Request
-- Which bytes ask.
pub mod RealTime
pub mod Units
pub mod Labels
pub mod Requests
-- What the readers hold.
pub mod Standing
-- What the laws say.
pub mod Laws
