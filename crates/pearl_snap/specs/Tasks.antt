-- How tasks are spelled, with their stacks.
use Rattle.std.specs.Prelude.{ℕ, ◌-◌, Bool, true, false, List, [], ◌∷◌, length, Option}
use Rattle.pearl_fields.specs.Codec.{Codec, number, shaped, pair, tagged, counted}
use Rattle.pearl_records.specs.declared.record.Standing.{Standing}
use Rattle.pearl_records.specs.declared.record.Standing.TheVariants.{Dormant, Active}
use Rattle.pearl_records.specs.declared.record.PlanRecord.{PlanRecord}
use Rattle.pearl_records.specs.declared.record.ActivationRecord.{ActivationRecord}
use Rattle.pearl_saved.specs.declared.saved.SavedCell.{SavedCell}
use Rattle.pearl_saved.specs.declared.saved.FrameRecord.{FrameRecord}
use Rattle.pearl_snap.specs.declared.states.CellRoom.{CellRoom}
use Rattle.pearl_snap.specs.declared.states.SavedTask.{SavedTask}
use Rattle.pearl_snap.specs.Lists.{each_in, any_byte}
use Rattle.pearl_snap.specs.Cells.{cell}
use Rattle.pearl_snap.specs.Plans.{continuation, activation}

-- ---- frames

abbrev pub frame_fields : FrameRecord → ℕ × (ℕ × (List SavedCell × List SavedCell))
frame_fields f = (f.routine, (f.place, (f.cells, f.operands)))

abbrev pub made_frame : ℕ × (ℕ × (List SavedCell × List SavedCell)) → FrameRecord
made_frame p = record { routine = p.0; place = p.1.0; cells = p.1.1.0; operands = p.1.1.1 }

-- so many cells and operands may still come
unfoldable pub frame : CellRoom → Codec FrameRecord
frame room =
    shaped frame_fields made_frame
    (pair number (λ routine. pair number (λ place. pair (each_in 0 room.left cell) (λ cells. each_in 0 (room.left - length cells) cell))))

abbrev pub all_cells : CellRoom
all_cells = record { left = 4096 }

abbrev pub after_frame : CellRoom → FrameRecord → CellRoom
after_frame room f = record { left = room.left - length f.cells - length f.operands }

-- a task's frames have at most 4,096 cells and operands together
abbrev pub frames : Codec (List FrameRecord)
frames = counted 0 201 (frame all_cells).bytes frame after_frame all_cells

-- ---- tasks

abbrev pub active_tag : Bool → ℕ
active_tag false = 1
active_tag true = 2

abbrev pub standing_tag : Standing → ℕ
standing_tag Dormant = 0
standing_tag (Active priority suspended kept) = active_tag suspended

abbrev pub task_tag : SavedTask → ℕ
task_tag t = standing_tag t.row.standing

abbrev pub Planned : Type 0
Planned = Option PlanRecord × Option ActivationRecord

abbrev pub dormant_fields : SavedTask → Planned
dormant_fields t = (t.row.continuation, t.row.activation)

-- a dormant task has no stack
abbrev pub made_dormant : Planned → SavedTask
made_dormant p = record { row = record { standing = Dormant; continuation = p.0; activation = p.1 }; frames = [] }

abbrev pub urgency : Standing → ℕ
urgency Dormant = 0
urgency (Active priority suspended kept) = priority

abbrev pub kept_starts : Standing → List ℕ
kept_starts Dormant = []
kept_starts (Active priority suspended kept) = kept

abbrev pub Acting : Type 0
Acting = ℕ × (List ℕ × (Option PlanRecord × (Option ActivationRecord × List FrameRecord)))

abbrev pub active_fields : SavedTask → Acting
active_fields t =
    (urgency t.row.standing, (kept_starts t.row.standing, (t.row.continuation, (t.row.activation, t.frames))))

abbrev pub made_active : Bool → Acting → SavedTask
made_active suspended p = record {
  row = record { standing = Active p.0 suspended p.1.0; continuation = p.1.1.0; activation = p.1.1.1.0 };
  frames = p.1.1.1.1;
}

unfoldable pub acting : Codec Acting
acting =
    pair any_byte (λ priority. pair (each_in 0 3 any_byte) (λ kept. pair continuation (λ on. pair activation (λ starts. frames))))

abbrev pub task_arms : List (Codec SavedTask)
task_arms =
    shaped dormant_fields made_dormant (pair continuation (λ on. activation))
    ∷ shaped active_fields (made_active false) acting
    ∷ shaped active_fields (made_active true) acting
    ∷ []

-- byte 0 where the task is dormant, 1 where it is active, 2 where it is suspended
unfoldable pub task : Codec SavedTask
task = tagged 0 task_tag task_arms
