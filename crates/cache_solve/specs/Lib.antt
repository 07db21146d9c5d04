pub mod Systems
pub mod Orders
