-- What the instructions on cells and variables do.
use Rattle.std.specs.Prelude.{ℕ, ◌+◌, nat_le, List, ◌∷◌, ◌++◌, length, take, drop, replicate, slice_get, slice_set, option_and_then}
use Rattle.pearl_value.specs.declared.kind.Kind.{Kind}
use Rattle.pearl_value.specs.declared.cell.Cell.{Cell}
use Rattle.pearl_value.specs.declared.cell.Cell.TheVariants.{Ref}
use Rattle.pearl_value.specs.declared.cell.Place.TheVariants as place
use Rattle.pearl_value.specs.Blanks.{blank_of}
use Rattle.pearl_rules.specs.declared.action.Action.TheVariants.{Read, Write}
use Rattle.pearl_stack.specs.Frames.{Frame, cell_at, with_cell}
use Rattle.pearl_instructions.specs.declared.object.Parts.{Parts as Object}
use Rattle.pearl_instructions.specs.declared.object.Leaf.{Leaf}
use Rattle.pearl_instructions.specs.Objects.{first_slot}
use Rattle.pearl_instructions.specs.Steps.{Step, Silent, Missing, given, needed, popped, value_kind, next, leaves, acts, asks, within}

-- the frame in which cell c is x
abbrev pub put : Frame → ℕ → Cell → Frame
put f c x = record f { cells = slice_set f.cells c x }

-- the cells in which n from c on are what is unset of the kind
abbrev pub filled : List Cell → ℕ → ℕ → Kind → List Cell
filled cells c n kind = take c cells ++ replicate n (blank_of kind) ++ drop (c + n) cells

abbrev pub load : ℕ → Frame → List Frame → List Cell → Step
load c f lower left = given (slice_get f.cells c) (λ x. leaves f lower (x ∷ left))

abbrev pub store : ℕ → Cell → Frame → List Frame → List Cell → Step
store c x f lower left = given (slice_get f.cells c) (λ old. leaves (put f c x) lower left)

abbrev pub fill : ℕ → ℕ → Kind → Frame → List Frame → Step
fill c n kind f lower =
    needed (nat_le (c + n) (length f.cells)) (leaves (record f { cells = filled f.cells c n kind }) lower f.operands)

abbrev pub load_at : ℕ → ℕ → Frame → List Frame → Step
load_at c n f lower = popped f.operands (λ o left. within n o f lower (λ o. load (c + o) f lower left))

abbrev pub store_at : ℕ → ℕ → Frame → List Frame → Step
store_at c n f lower = popped f.operands (λ x more. popped more (λ o left. within n o f lower (λ o. store (c + o) x f lower left)))

-- a reference to a cell of the top frame
abbrev pub cell_reference : ℕ → Frame → List Frame → List Cell → Step
cell_reference c f lower left = given (option_and_then value_kind (slice_get f.cells c)) (λ kind. leaves f lower (Ref kind (place.Cell (length lower) c) ∷ left))

-- the action that reads slot o of leaf v, and the one that writes it
abbrev pub reads : Object → ℕ → ℕ → Frame → List Frame → List Cell → Step
reads o v offset f lower left = asks (Read (first_slot o.leaves v + offset)) f lower left

abbrev pub writes : Object → ℕ → ℕ → Cell → Frame → List Frame → List Cell → Step
writes o v offset x f lower left = acts (Write (first_slot o.leaves v + offset) x) f lower left

-- a reference to slot o of leaf v
abbrev pub slot_reference : Object → ℕ → Leaf → ℕ → Frame → List Frame → List Cell → Step
slot_reference o v leaf offset f lower left = leaves f lower (Ref leaf.kind (place.Slot (first_slot o.leaves v + offset)) ∷ left)

-- the value of the variable that a reference names
abbrev pub read_reference : Frame → List Frame → List Cell → Cell → Step
read_reference f lower left (Ref kind (place.Slot slot)) = asks (Read slot) f lower left
read_reference f lower left (Ref kind (place.Cell n c)) = given (cell_at (f ∷ lower) n c) (λ x. leaves f lower (x ∷ left))
read_reference f lower left x = Missing

abbrev pub write_reference : Cell → Frame → List Frame → List Cell → Cell → Step
write_reference x f lower left (Ref kind (place.Slot slot)) = acts (Write slot x) f lower left
write_reference x f lower left (Ref kind (place.Cell n c)) = given (cell_at (f ∷ lower) n c) (λ old. Silent (with_cell (next f left ∷ lower) n c x))
write_reference x f lower left r = Missing
