-- How what a cell holds is spelled: a value, a reference to a variable, or one to an array.
use Rattle.std.specs.Prelude.{ℕ, ◌-◌, ◌^◌, List, [], ◌∷◌, None}
use Rattle.pearl_value.specs.declared.kind.Kind.TheVariants as kinds
use Rattle.pearl_value.specs.declared.cell.Cell.{Cell}
use Rattle.pearl_value.specs.declared.cell.Cell.TheVariants as cells
use Rattle.pearl_fields.specs.Codec.{Codec, number, shaped, pair, tagged}
use Rattle.pearl_object.specs.Kinds.{kind}
use Rattle.pearl_object.specs.Literals.{literal}
use Rattle.pearl_object.specs.Operands.{bounds}
use Rattle.pearl_saved.specs.declared.saved.Target.{Target}
use Rattle.pearl_saved.specs.declared.saved.Target.TheVariants.{Slot, Own}
use Rattle.pearl_saved.specs.declared.saved.Reference.{Reference}
use Rattle.pearl_saved.specs.declared.saved.ArrayReference.{ArrayReference}
use Rattle.pearl_saved.specs.declared.saved.SavedCell.{SavedCell}
use Rattle.pearl_saved.specs.declared.saved.SavedCell.TheVariants.{Value, Variable, Array}
use Rattle.pearl_snap.specs.Lists.{each_in}

-- ---- references

abbrev pub target_tag : Target → ℕ
target_tag (Slot slot) = 0
target_tag (Own frame cell) = 1

abbrev pub target_slot : Target → ℕ
target_slot (Slot slot) = slot
target_slot (Own frame cell) = 0

abbrev pub target_own : Target → ℕ × ℕ
target_own (Slot slot) = (0, 0)
target_own (Own frame cell) = (frame, cell)

abbrev pub target_arms : List (Codec Target)
target_arms = shaped target_slot Slot number ∷ shaped target_own (λ p. Own p.0 p.1) (pair number (λ frame. number)) ∷ []

unfoldable pub target : Codec Target
target = tagged 0 target_tag target_arms

unfoldable pub reference : Codec Reference
reference = shaped (λ r. (r.kind, r.target)) (λ p. record { kind = p.0; target = p.1 }) (pair (kind None) (λ of. target))

unfoldable pub array : Codec ArrayReference
array =
    shaped (λ a. (a.first, a.bounds)) (λ p. record { first = p.0; bounds = p.1 })
    (pair reference (λ first. each_in 0 (2 ^ 64 - 1) bounds))

-- ---- cells

abbrev pub cell_tag : SavedCell → ℕ
cell_tag (Value x) = 0
cell_tag (Variable r) = 1
cell_tag (Array a) = 2

abbrev pub nowhere : Reference
nowhere = record { kind = kinds.Clock; target = Slot 0 }

abbrev pub cell_value : SavedCell → Cell
cell_value (Value x) = x
cell_value _ = cells.Clock 0

abbrev pub cell_variable : SavedCell → Reference
cell_variable (Variable r) = r
cell_variable _ = nowhere

abbrev pub cell_array : SavedCell → ArrayReference
cell_array (Array a) = a
cell_array _ = record { first = nowhere; bounds = [] }

abbrev pub cell_arms : List (Codec SavedCell)
cell_arms =
    shaped cell_value Value (literal None)
    ∷ shaped cell_variable Variable reference
    ∷ shaped cell_array Array array
    ∷ []

unfoldable pub cell : Codec SavedCell
cell = tagged 0 cell_tag cell_arms
