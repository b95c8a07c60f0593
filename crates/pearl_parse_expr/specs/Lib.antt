-- with which tokens a part goes on, and what is known of all tokens that begin alike: where a part ends, or that
-- none begins
pub mod Stops
-- that a stop is the least one: some part begins with the tokens before it
pub mod Least
-- what becomes of a reading with tokens more, and of a list with parts more
pub mod Readings
-- what is known where a part is read, or isn't
pub mod Reads
-- the expressions that begin at a token have one stop
pub mod Laws
