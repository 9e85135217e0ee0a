pub mod ToldLine
