pub mod Courses
pub mod Desks
