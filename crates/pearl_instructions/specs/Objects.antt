-- What the numbers in an object name.
use Rattle.std.specs.Prelude.{ℕ, zero, suc, ◌+◌, ◌-◌, Bool, nat_lt, nat_le, if◌then◌else◌, List, [], ◌∷◌, ◌++◌, Option, Some, None, option_and_then, length, map, slice_get}
use Rattle.pearl_value.specs.declared.kind.Kind.{Kind}
use Rattle.pearl_format.specs.declared.item.Item.{Item}
use Rattle.pearl_instructions.specs.declared.object.Leaf.{Leaf}
use Rattle.pearl_instructions.specs.declared.object.Code.{Code}
use Rattle.pearl_instructions.specs.declared.object.Parts.{Parts as Object}

-- the routines: the procedures, then the tasks
abbrev pub routines : Object → List Code
routines o = map (λ p. p.code) o.procedures ++ map (λ t. t.code) o.tasks

abbrev pub routine_at : Object → ℕ → Option Code
routine_at o r = slice_get (routines o) r

abbrev pub is_task : Object → ℕ → Bool
is_task o r = nat_le (length o.procedures) r

-- the kind of a routine's result, where it has one
abbrev pub result_of : Object → ℕ → Option Kind
result_of o r = option_and_then (λ p. p.result) (slice_get o.procedures r)

abbrev pub items_at : Object → ℕ → Option (List Item)
items_at o format = slice_get o.formats format

-- the number of a leaf's first slot: as many as the leaves before it have
abbrev pub first_slot : List Leaf → ℕ → ℕ
first_slot [] v = 0
first_slot (leaf ∷ leaves) zero = 0
first_slot (leaf ∷ leaves) (suc v) = leaf.slots + first_slot leaves v

-- the kind of a slot
abbrev pub slot_kind : List Leaf → ℕ → Option Kind
slot_kind [] s = None
slot_kind (leaf ∷ leaves) s = if nat_lt s leaf.slots then Some leaf.kind else slot_kind leaves (s - leaf.slots)
