pub mod Eager
