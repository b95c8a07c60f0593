-- How far a journal was read.
use Rattle.std.specs.Prelude.{ℕ, List, [], ◌∷◌}
use Rattle.pearl_rules.specs.declared.setup.Setup.{Setup}
use Rattle.pearl_journal.specs.Entries.{after}
use Rattle.pearl_journal.specs.Meaning.{meaning}
use Rattle.pearl_journal.specs.Readings.{Reading}

-- how far it was read behind these lines, each of which means what it does behind those before it
abbrev pub behind_lines : Setup → Reading → List (List ℕ) → Reading
behind_lines setup reading [] = reading
behind_lines setup reading (line ∷ lines) = behind_lines setup (after reading (meaning setup reading line)) lines
