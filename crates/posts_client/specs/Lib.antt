pub mod Procedure
