-- Which lines the bytes of a journal have.
use Rattle.std.specs.Prelude.{ℕ, ◌+◌, List, [], ◌∷◌, ◌==◌, if◌then◌else◌}

abbrev pub in_front : ℕ → List (List ℕ) → List (List ℕ)
in_front byte [] = (byte ∷ []) ∷ []
in_front byte (line ∷ lines) = (byte ∷ line) ∷ lines

-- all lines: each is ended by byte 10, and the last one by the end of the bytes, if some stand behind the last byte 10
abbrev pub journal_lines : List ℕ → List (List ℕ)
journal_lines [] = []
journal_lines (byte ∷ bytes) = if byte == 10 then [] ∷ journal_lines bytes else in_front byte (journal_lines bytes)

abbrev pub in_front_of_some : ℕ → List (List ℕ) → List (List ℕ)
in_front_of_some byte [] = []
in_front_of_some byte (line ∷ lines) = (byte ∷ line) ∷ lines

-- the lines that are ended by byte 10
abbrev pub ended_lines : List ℕ → List (List ℕ)
ended_lines [] = []
ended_lines (byte ∷ bytes) = if byte == 10 then [] ∷ ended_lines bytes else in_front_of_some byte (ended_lines bytes)

-- how many bytes come before the first byte 10
abbrev pub line_end : List ℕ → ℕ
line_end [] = 0
line_end (byte ∷ bytes) = if byte == 10 then 0 else line_end bytes + 1

-- a byte 13 directly before a line's end is dropped
abbrev pub without_return : List ℕ → List ℕ
without_return [] = []
without_return (byte ∷ []) = if byte == 13 then [] else byte ∷ []
without_return (byte ∷ next ∷ rest) = byte ∷ without_return (next ∷ rest)
