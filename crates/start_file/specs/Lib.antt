pub mod Start
pub mod StartText
pub mod StartReading
pub mod StartSaid
pub mod StartMade
pub mod StartState
pub mod StartRefusal
pub mod StartLaws
