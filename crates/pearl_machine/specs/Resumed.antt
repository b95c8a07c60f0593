-- What is saved of a machine, and the machine that goes on from what was saved.
use Rattle.std.specs.Prelude.{◌≡◌, ℕ, List, [], ◌∷◌, Bool, true, false, Option, Some, None, map, option_map, slice_get}
use Rattle.pearl_rules.specs.Runs.{Running, Machine}
use Rattle.pearl_stack.specs.Frames.{Frame}
use Rattle.pearl_instructions.specs.declared.object.Parts.{Parts as Object}
use Rattle.pearl_instructions.specs.Setups.{setup_of}
use Rattle.pearl_records.specs.declared.record.Standing.{Standing}
use Rattle.pearl_records.specs.declared.record.Standing.TheVariants.{Dormant, Active}
use Rattle.pearl_records.specs.declared.record.TaskRecord.{TaskRecord}
use Rattle.pearl_records.specs.Records.{record_of, core_made}
use Rattle.pearl_saved.specs.declared.saved.FrameRecord.{FrameRecord}
use Rattle.pearl_saved.specs.declared.saved.Saved.{Saved}
use Rattle.pearl_saved.specs.Stacks.{stack_record, frames_made}
use Rattle.pearl_machine.specs.declared.part.Part.{Part}
use Rattle.pearl_machine.specs.Seen.{Seen}

-- WHAT IS SAVED

abbrev pub frames_in : Option (Running (List Frame)) → List FrameRecord
frames_in None = []
frames_in (Some running) = stack_record running.stack

-- of a state of a run its core, and for each task its stack
abbrev pub saved_of : Machine (List Frame) → Saved
saved_of m = record { core = record_of m.core; stacks = map frames_in m.running }

-- WHAT GOES ON FROM IT

abbrev pub running_made : Standing → List FrameRecord → Option (Running (List Frame))
running_made Dormant frames = None
running_made (Active priority suspended kept) frames = Some (record { stack = frames_made frames; offer = None })

abbrev pub all_made : List TaskRecord → List (List FrameRecord) → List (Option (Running (List Frame)))
all_made [] stacks = []
all_made (row ∷ rows) [] = []
all_made (row ∷ rows) (frames ∷ stacks) = running_made row.standing frames ∷ all_made rows stacks

-- each active task stands with its stack, and has offered nothing
abbrev pub resumed : Object → Saved → Seen
resumed o s = record {
  object = o;
  state = record { core = core_made (setup_of o) s.core; running = all_made s.core.tasks s.stacks; entries = [] };
}

abbrev pub unoffered : Running (List Frame) → Running (List Frame)
unoffered running = record { stack = running.stack; offer = None }

-- the same machine, of which no task has offered anything
abbrev pub before_offers : Seen → Seen
before_offers seen = record seen { state = record seen.state { running = map (option_map unoffered) seen.state.running } }

-- THE ROW OF STACKS

-- a dormant task has no stack
abbrev pub saved_frames : Standing → List Frame → List FrameRecord
saved_frames Dormant frames = []
saved_frames (Active priority suspended kept) frames = stack_record frames

abbrev pub stacks_of : List TaskRecord → List Part → List (List FrameRecord)
stacks_of [] parts = []
stacks_of (row ∷ rows) [] = []
stacks_of (row ∷ rows) (part ∷ parts) = saved_frames row.standing part.stack.frames ∷ stacks_of rows parts

-- an active task is under way with its stack, and a dormant one isn't
abbrev pub is_standing : Standing → Bool
is_standing Dormant = false
is_standing (Active priority suspended kept) = true

abbrev pub filled : Standing → List FrameRecord → Part → Part
filled Dormant frames part = part
filled (Active priority suspended kept) frames part = record { stack = record part.stack { frames = frames_made frames }; going = true }

abbrev pub IsFilled : Standing → List FrameRecord → Part → Type 0
IsFilled Dormant frames part = part.going ≡ false
IsFilled (Active priority suspended kept) frames part = (part.going ≡ true) × (part.stack.frames ≡ frames_made frames)

abbrev pub AreFilled : List TaskRecord → List (List FrameRecord) → List Part → Type 0
AreFilled rows stacks parts =
    (t : ℕ) (row : TaskRecord) (frames : List FrameRecord) → slice_get rows t ≡ Some row → slice_get stacks t ≡ Some frames →
    (part : Part) × (slice_get parts t ≡ Some part) × IsFilled row.standing frames part
