-- Numbers in decimal, and bytes written into a lent slice.
pub mod Decimal
pub mod Written
