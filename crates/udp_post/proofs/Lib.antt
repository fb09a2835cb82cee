mod Noting
mod Walks
