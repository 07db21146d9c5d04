pub mod Outside
pub mod Outages
pub mod MemSink
pub mod MemStore
pub mod Host
