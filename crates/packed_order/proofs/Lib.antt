-- Laws of packed orders.
pub mod WholeLaws
