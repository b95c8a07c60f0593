-- That a run comes to its end, and within which bound.
use Rattle.std.specs.Prelude.{ℕ, ◌+◌, ◌*◌, ◌≤◌, List, length}
use Rattle.pearl_rules.specs.declared.entry.Entry.{Entry}
use Rattle.pearl_rules.specs.Laws.{HasEnded}
use Rattle.pearl_instructions.specs.declared.object.Parts.{Parts as Object}
use Rattle.pearl_instructions.specs.Engines.{engine, total_rows, marked}
use Rattle.pearl_instructions.specs.Setups.{setup_of}

-- The run is at its end after so many steps. For each mark made, and once more, there are at most as many as the object
-- has instructions, for each task, and one.
pub record ComesToItsEnd (o : Object) (es : List Entry) : Type 0 where
  pub at : ℕ
  pub within : at ≤ (marked o es at + 1) * (length o.tasks * total_rows o + 1)
  pub has_ended : HasEnded (engine o) (setup_of o) es at
