-- What a sink has taken of the lines that a run tells, where it didn't take all.
use Rattle.std.specs.Prelude.{◌≡◌, ℕ, ◌<◌, List, [], ◌∷◌, ◌++◌, Option, Some, None, length, take}
use Rattle.pearl_rules.specs.declared.entry.Entry.{Entry}
use Rattle.pearl_rules.specs.declared.setup.Setup.{Setup}
use Rattle.pearl_rules.specs.Core.{Report}
use Rattle.pearl_rules.specs.Runs.{Mark, next_mark, unsettled}
use Rattle.pearl_instructions.specs.Setups.{setup_of}
use Rattle.pearl_io.specs.Outside.{Takes, TakesFront}
use Rattle.pearl_script.specs.Lines.{report_line, lines_of}
use Rattle.pearl_machine.specs.Seen.{Seen, Handles, Makes, picked, retold}

-- some lines were taken whole, of the next one less than all, and none of the later ones
pub record IsCutOff (setup : Setup) (old new : Option (List ℕ)) (told later : List (ℕ × Report)) : Type 0 where
  pub before : List (ℕ × Report)
  pub cut : ℕ × Report
  pub all : told ≡ before ++ cut ∷ later
  pub count : ℕ
  pub short : count < length (report_line setup cut)
  pub taken : Takes old new (lines_of setup before ++ take count (report_line setup cut))

-- all lines were taken whole, of the bytes behind them less than all, and no line is left
pub record IsCutBehind (setup : Setup) (old new : Option (List ℕ)) (told later : List (ℕ × Report)) (last : List ℕ) :
    Type 0 where
  pub between : Option (List ℕ)
  pub whole : Takes old between (lines_of setup told)
  pub front : TakesFront between new last
  pub none : later ≡ []

-- The line that was cut is one of the last mark's, and no mark was made behind it. Over these entries the run comes to
-- where the mark is next; the lines of all that was told up to there were taken whole, and those of what the mark tells
-- are cut off. The mark leads to where the machine stands.
pub record IsCutInLastMark (old : Seen) (entries : List Entry) (new : Seen) (before after : Option (List ℕ)) :
    Type 0 where
  pub stood : Seen
  pub coming : List Entry
  pub earlier : List (ℕ × Report)
  pub object : stood.object ≡ old.object
  pub comes : Handles old entries coming stood earlier
  pub between : Option (List ℕ)
  pub whole : Takes before between (lines_of (setup_of old.object) earlier)
  pub mark : Mark
  pub left : List Entry
  pub settled : unsettled stood.state ≡ None
  pub next : (rest : List Entry) →
      next_mark (picked stood) (coming ++ rest) ≡ Some (record { mark = mark; rest = left ++ rest })
  pub told : List (ℕ × Report)
  pub makes : Makes stood mark (retold new told)
  pub cut : IsCutOff (setup_of old.object) between after told new.state.core.told
