-- Which names a task may have.
use Rattle.std.specs.Prelude.{ℕ, Bool, ◌&&◌, ◌||◌, ◌==◌, nat_le, List, length, slice_index}
use Rattle.std.specs.Char.{is_ascii_alphabetic, is_ascii_digit}
use Rattle.std.specs.List.{list_all}

-- a letter, a digit or `_`
abbrev pub is_name_byte : ℕ → Bool
is_name_byte b = is_ascii_alphabetic b || is_ascii_digit b || b == 95

-- an id begins with a letter, goes on with letters, digits and `_`, and has at most 63 bytes; that it is also none of the
-- language's words isn't asked here
abbrev pub is_id : List ℕ → Bool
is_id name = is_ascii_alphabetic (slice_index name 0) && list_all is_name_byte name && nat_le (length name) 63
