pub mod Named
pub mod Order
pub mod GoodOrder
pub mod Graph
pub mod Walk
