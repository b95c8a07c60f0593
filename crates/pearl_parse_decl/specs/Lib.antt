-- with which tokens the parts of declarations go on, and what is told of a part that is not read
pub mod Readings
