-- How the state of a run is spelled.
use Rattle.std.specs.Prelude.{◌≡◌, ℕ, Bool, List, [], ◌∷◌, map, Option, None, Result, Ok, Err}
use Rattle.pearl_value.specs.declared.cell.Cell.{Cell}
use Rattle.pearl_fields.specs.declared.fault.ReadFault.{ReadFault}
use Rattle.pearl_fields.specs.Codec.{Seen, Codec, number, shaped, pair}
use Rattle.pearl_fields.specs.Reads.{Fails}
use Rattle.pearl_object.specs.Literals.{literal}
use Rattle.pearl_object.specs.Operands.{flag}
use Rattle.pearl_records.specs.declared.record.TaskRecord.{TaskRecord}
use Rattle.pearl_saved.specs.declared.saved.FrameRecord.{FrameRecord}
use Rattle.pearl_saved.specs.declared.saved.Saved.{Saved}
use Rattle.pearl_snap.specs.declared.states.SavedTask.{SavedTask}
use Rattle.pearl_snap.specs.declared.states.TaskLists.{TaskLists}
use Rattle.pearl_snap.specs.Lists.{each_in, any_byte, maybe_number}
use Rattle.pearl_snap.specs.Tasks.{task}

-- each task with its stack
abbrev pub tasks_of : List TaskRecord → List (List FrameRecord) → List SavedTask
tasks_of [] stacks = []
tasks_of (row ∷ rows) [] = []
tasks_of (row ∷ rows) (frames ∷ stacks) = record { row = row; frames = frames } ∷ tasks_of rows stacks

abbrev pub rows_of : List SavedTask → List TaskRecord
rows_of tasks = map (λ t. t.row) tasks

abbrev pub stacks_of : List SavedTask → List (List FrameRecord)
stacks_of tasks = map (λ t. t.frames) tasks

abbrev pub slots : Codec (List Cell)
slots = each_in 0 65536 (literal None)

abbrev pub counts : Codec (List ℕ)
counts = each_in 0 1000 number

abbrev pub switches : Codec (List Bool)
switches = each_in 0 99 flag

-- what waits at one terminal, and at one input
abbrev pub typed : Codec (List ℕ)
typed = each_in 0 4096 any_byte

abbrev pub values : Codec (List Cell)
values = each_in 0 256 (literal None)

abbrev pub terminals : Codec (List (List ℕ))
terminals = each_in 0 99 typed

abbrev pub inputs : Codec (List (List Cell))
inputs = each_in 0 99 values

abbrev pub tasks : Codec (List SavedTask)
tasks = each_in 0 200 task

abbrev pub Fields : Type 0
Fields = ℕ × (ℕ × (Option ℕ × (List Cell × (List ℕ × (List Bool × (List (List ℕ) × (List (List Cell) × List SavedTask)))))))

abbrev pub saved_fields : Saved → Fields
saved_fields s =
    let c = s.core in
    (c.moment, (c.clock, (c.last, (c.slots, (c.counts, (c.switches, (c.terminals, (c.inputs, tasks_of c.tasks s.stacks))))))))

abbrev pub made_saved : Fields → Saved
made_saved p = record {
  core = record {
    moment = p.0;
    clock = p.1.0;
    last = p.1.1.0;
    slots = p.1.1.1.0;
    counts = p.1.1.1.1.0;
    switches = p.1.1.1.1.1.0;
    terminals = p.1.1.1.1.1.1.0;
    inputs = p.1.1.1.1.1.1.1.0;
    tasks = rows_of p.1.1.1.1.1.1.1.1;
  };
  stacks = stacks_of p.1.1.1.1.1.1.1.1;
}

unfoldable pub saved : Codec Saved
saved =
    shaped saved_fields made_saved
    (pair number (λ moment. pair number (λ clock. pair maybe_number (λ last. pair slots (λ held. pair counts (λ free.
    pair switches (λ on. pair terminals (λ bytes. pair inputs (λ waiting. tasks)))))))))

-- what the reading of tasks gives, in two lists
abbrev pub GivesTasks : Seen (List SavedTask) → List ℕ → Result TaskLists ReadFault → Type 0
GivesTasks seen new (Ok lists) = (xs : List SavedTask) × (seen ≡ Ok (xs, new)) × (lists.rows ≡ rows_of xs) × (lists.stacks ≡ stacks_of xs)
GivesTasks seen new (Err fault) = Fails seen fault
