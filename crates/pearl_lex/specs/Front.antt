-- Which token begins some bytes, and how long it is. A byte past the end reads as 0.
use Rattle.std.specs.Prelude.{ℕ, ◌==◌, if◌then◌else◌, List, take, drop, slice_index, Option}
use Rattle.std.specs.Char.{is_ascii_alphabetic, is_ascii_digit}
use Rattle.std.specs.List.{prefix_len}
use Rattle.pearl_tree.specs.Words.{words}
use Rattle.pearl_lex.specs.declared.front.Front.{Front}
use Rattle.pearl_lex.specs.Spelling.{is_id_byte, sized, meaning, word_or_id, symbol_front}
use Rattle.pearl_lex.specs.Literals.{numeral}
use Rattle.pearl_lex.specs.Quoted.{quoted}

abbrev pub word_front : List ℕ → ℕ → Option Front
word_front bytes size = sized (word_or_id (meaning words (take size bytes)) (take size bytes)) size

-- the longest token that begins the bytes, if one does, unless they begin a form that is no token
unfoldable pub front : List ℕ → Option Front
front bytes =
    if is_ascii_alphabetic (slice_index bytes 0) then word_front bytes (prefix_len is_id_byte bytes) else
    (if is_ascii_digit (slice_index bytes 0) then numeral bytes else
    (if slice_index bytes 0 == 39 then quoted (drop 1 bytes) else symbol_front (slice_index bytes 0) (slice_index bytes 1)))
