-- which moment comes next, and which number is the first one for which something holds
pub mod Next
-- which series a timer keeps, and when one of them fires
pub mod Timetable
-- that one series is changed alone
pub mod Laws
-- in which place each key of a wheel is
pub mod Places
-- where a wheel keeps each key
pub mod Wheel
-- what a timer's wheel keeps of its series
pub mod Kept
