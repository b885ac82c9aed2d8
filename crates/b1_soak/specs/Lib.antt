pub mod Soaks
