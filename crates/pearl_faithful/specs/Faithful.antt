-- When an object does what a program means, and how both run over the same entries.
use Rattle.std.specs.Prelude.{◌≡◌, ℕ, ◌+◌, ◌*◌, ◌≤◌, List, map, Some, None, length}
use Rattle.pearl_rules.specs.declared.action.Action.{Action}
use Rattle.pearl_rules.specs.declared.entry.Entry.{Entry}
use Rattle.pearl_rules.specs.Entries.{AreFitting}
use Rattle.pearl_rules.specs.Laws.{HasEnded, Comes}
use Rattle.pearl_rules.specs.Pick.{states}
use Rattle.pearl_rules.specs.Runs.{source_next, source_offers, machine_next, machine_offers, unsettled, told_at_end}
use Rattle.pearl_program.specs.PlainPrograms.{PlainProg}
use Rattle.pearl_instructions.specs.declared.object.Parts.{Parts as Object}
use Rattle.pearl_instructions.specs.Lawful.{IsObject}
use Rattle.pearl_instructions.specs.Valid.{IsValid}
use Rattle.pearl_meaning.specs.Programs.{offer}
use Rattle.pearl_meaning.specs.ProgramRuns as program
use Rattle.pearl_meaning.specs.ProgramRuns.{entry_of, source_run}
use Rattle.pearl_instructions.specs.Setups.{setup_of}
use Rattle.pearl_instructions.specs.Engines.{engine, total_rows, machine_run, marked}
use Rattle.pearl_gen_expr.specs.Tables.{plain_leaf, code_entry}
use Rattle.pearl_faithful.specs.Said.{said, all_said, without_formats}

-- the object has the program's tasks, leaves, semaphores and devices: names, priorities, kinds, numbers and first values
pub record SharesTables (p : PlainProg) (o : Object) : Type 0 where
  pub tasks : map code_entry o.tasks ≡ map entry_of p.tasks
  pub leaves : map plain_leaf o.leaves ≡ p.leaves
  pub semaphores : o.semaphores ≡ p.semaphores
  pub devices : o.devices ≡ p.devices

-- after n machine steps the object's run is where the program's is after the marks among them
pub record RunsAlike (p : PlainProg) (o : Object) (es : List Entry) (n : ℕ) : Type 0 where
  pub same_core : without_formats (machine_run o es n).core ≡ without_formats (source_run p es (marked o es n)).core
  pub same_entries : (machine_run o es n).entries ≡ (source_run p es (marked o es n)).entries
  -- an action that a task has offered is what the program's task does next
  pub same_offers : (t : ℕ) (action : Action) → machine_offers (machine_run o es n) t ≡ Some action →
      all_said (source_run p es (marked o es n)).core (source_offers (offer p) (source_run p es (marked o es n))) t
      ≡ Some (said (machine_run o es n).core action)
  -- where every active task has offered, the offers are what the program's tasks do next
  pub all_offers : unsettled (machine_run o es n) ≡ None → (t : ℕ) →
      all_said (machine_run o es n).core (machine_offers (machine_run o es n)) t
      ≡ all_said (source_run p es (marked o es n)).core (source_offers (offer p) (source_run p es (marked o es n))) t

-- the object makes m marks within so many steps
pub record Makes (o : Object) (es : List Entry) (m : ℕ) : Type 0 where
  pub steps : ℕ
  pub within : steps ≤ (m + 1) * (length o.tasks * total_rows o + 1)
  pub made : marked o es steps ≡ m

-- The object is valid and has the program's tables, and over any entries that fit it runs as the program's task rules say
-- and goes on from mark to mark. Which formats and which instructions it has is free.
pub record IsFaithfulTo (p : PlainProg) (o : Object) : Type 0 where
  pub lawful : IsObject o
  pub valid : IsValid o
  pub tables : SharesTables p o
  pub runs : (es : List Entry) → AreFitting (setup_of o) es → (n : ℕ) → RunsAlike p o es n
  pub goes_on : (es : List Entry) → AreFitting (setup_of o) es → (m : ℕ) → Comes (offer p) (program.setup_of p) es m → Makes o es m

-- what both tell by then: the same at the same moment, and where every active task has offered, the same mark comes next
-- and the tasks stand alike
pub record TellsAlike (p : PlainProg) (o : Object) (es : List Entry) (n : ℕ) : Type 0 where
  pub same_told : (machine_run o es n).core.told ≡ (source_run p es (marked o es n)).core.told
  pub same_moment : (machine_run o es n).core.moment ≡ (source_run p es (marked o es n)).core.moment
  pub same_next : unsettled (machine_run o es n) ≡ None →
      machine_next (machine_run o es n) ≡ source_next (offer p) (source_run p es (marked o es n))
  pub same_states : unsettled (machine_run o es n) ≡ None →
      states (machine_run o es n).core (machine_offers (machine_run o es n))
      ≡ states (source_run p es (marked o es n)).core (source_offers (offer p) (source_run p es (marked o es n)))

-- where the object's run is at its end the program's is too, and both have told the same, down to how each task
-- stands, at the same moment
pub record EndsAlike (p : PlainProg) (o : Object) (es : List Entry) (n : ℕ) : Type 0 where
  pub ended : source_next (offer p) (source_run p es (marked o es n)) ≡ None
  pub same_told : told_at_end (machine_run o es n).core (machine_offers (machine_run o es n))
      ≡ told_at_end (source_run p es (marked o es n)).core (source_offers (offer p) (source_run p es (marked o es n)))
  pub same_moment : (machine_run o es n).core.moment ≡ (source_run p es (marked o es n)).core.moment

-- The object's run over these entries comes to its end, as the program's does, from each mark to the next within as
-- many steps as the object has instructions, for each of its tasks, and one more.
pub record Finishes (p : PlainProg) (o : Object) (es : List Entry) : Type 0 where
  pub at : ℕ
  pub within : at ≤ (marked o es at + 1) * (length o.tasks * total_rows o + 1)
  pub has_ended : HasEnded (engine o) (setup_of o) es at
  pub alike : EndsAlike p o es at
