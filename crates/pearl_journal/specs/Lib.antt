-- which lines the bytes of a journal have
pub mod Lines
-- which words a line has, and which of them are numbers and names
pub mod Words
-- how far a journal was read
pub mod Readings
-- which devices the numbers in lines name
pub mod Devices
-- which texts stand between apostrophes
pub mod Texts
-- which values literals spell, and where they can come in
pub mod Values
-- what one line of a journal means
pub mod Meaning
-- which entries a journal has, read from left to right
pub mod Entries
-- how a journal is read in pieces, and which entries are still to come
pub mod Pieces
-- journals that come in pieces, and how they are read from the first piece to the last
pub mod Cuts
-- what lines say that are written otherwise, which lines are skipped, and how texts are written
pub mod Laws
