pub mod Table
pub mod Grammar
pub mod Machine
pub mod Reading
