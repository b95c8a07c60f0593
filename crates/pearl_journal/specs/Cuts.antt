-- Journals that come in pieces, and how they are read from the first piece to the last.
use Rattle.std.specs.Prelude.{ℕ, List, [], ◌∷◌, ◌++◌, take}
use Rattle.pearl_rules.specs.declared.setup.Setup.{Setup}
use Rattle.pearl_journal.specs.Entries.{Entries, All}
use Rattle.pearl_journal.specs.Pieces.{Kept, answer_of, fed, finished, kept_after, moment_said, said, taken}

-- what is kept after one piece and another
abbrev pub fed_each : Kept → (pieces : List (List ℕ)) → Kept
fed_each kept [] = kept
fed_each kept (piece ∷ pieces) = fed_each (fed kept piece) pieces

-- the bytes that are taken of these pieces
abbrev pub taken_of : (pieces : List (List ℕ)) → List ℕ
taken_of [] = []
taken_of (piece ∷ pieces) = take (taken piece) piece ++ taken_of pieces

-- what is answered once a piece was fed, or at the end of the journal, and then what comes later
abbrev pub told_first : Setup → Kept → (now : ℕ) → (Kept → ℕ → Entries) → Entries
told_first setup kept now later =
    let answer = answer_of setup kept now in said answer (later (kept_after kept answer) (moment_said now answer))

-- the entries that are told where behind each piece, and behind the end of the journal, one answer is taken
abbrev pub read_pieces : Setup → Kept → (now : ℕ) → (pieces : List (List ℕ)) → Entries
read_pieces setup kept now [] = told_first setup (finished kept) now (λ _ _. record { accepted = []; ending = All })
read_pieces setup kept now (piece ∷ pieces) = told_first setup (fed kept piece) now (λ next later. read_pieces setup next later pieces)
