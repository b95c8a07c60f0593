mod NextMoments
mod TimetableLaws
mod PlaceLaws
mod WheelLaws
mod KeptLaws
mod TaskLaws
pub mod Offered
