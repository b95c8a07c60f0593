-- what is offered, as the rules name it
pub mod Offers
-- what is heard, as the rules name it
pub mod Heard
