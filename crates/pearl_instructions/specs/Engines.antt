-- How an object's code runs, and how the object runs over a journal's entries, one instruction or one mark at a time.
use Rattle.std.specs.Prelude.{ℕ, ◌+◌, List, [], length}
use Rattle.pearl_rules.specs.declared.entry.Entry.{Entry}
use Rattle.pearl_rules.specs.Runs as runs
use Rattle.pearl_rules.specs.Runs.{Stepped, Engine, Machine}
use Rattle.pearl_stack.specs.Frames.{Frame}
use Rattle.pearl_instructions.specs.declared.object.Parts.{Parts as Object}
use Rattle.pearl_instructions.specs.Objects.{routines}
use Rattle.pearl_instructions.specs.Steps.{Step, Silent, Offers, Missing}
use Rattle.pearl_instructions.specs.Rows.{row, after, begun}
use Rattle.pearl_instructions.specs.Stacks.{all_rows}
use Rattle.pearl_instructions.specs.Setups.{setup_of}

-- what a row does with its task's stack; where there is no row nothing is left of it, and no action is offered any more
abbrev pub stepped_by : Step → Stepped (List Frame)
stepped_by (Silent frames) = runs.Silent frames
stepped_by (Offers action go) = runs.Offers action
stepped_by Missing = runs.Silent []

-- how an object's code runs; the routine of task t comes behind those of the procedures
abbrev pub engine : Object → Engine (List Frame)
engine o = record {
  begin = λ t. begun o (length o.procedures + t);
  step = λ t frames. stepped_by (row o frames);
  answer = λ t frames answer. after (row o frames) answer;
}

-- the state after so many machine steps
abbrev pub machine_run : Object → List Entry → ℕ → Machine (List Frame)
machine_run o entries n = runs.machine_run (engine o) (setup_of o) entries n

-- how many of these steps are marks
abbrev pub marked : Object → List Entry → ℕ → ℕ
marked o entries n = runs.marked (engine o) (setup_of o) entries n

-- the number of all instructions
abbrev pub total_rows : Object → ℕ
total_rows o = all_rows (routines o)
