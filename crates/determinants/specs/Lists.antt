-- Laws of lists: statements of each, members, order, what stays without some.
pub mod Members
pub mod Each
pub mod Order
pub mod Without
pub mod Among
