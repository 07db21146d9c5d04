pub mod NodeExits
