mod BitsLaws
pub mod Offered
