-- What references lead to, among the values that slots hold and those that cells of frames hold. Where a state keeps N2 each slot
-- holds a value of its kind, and where it keeps N5 no frame holds an array.
use Rattle.std.specs.Prelude.{◌≡◌, List, [], ◌∷◌, ◌++◌, Option, Some, option_map, slice_get}
use Rattle.std.specs.List.{AllByRecursion}
use Rattle.pearl_value.specs.declared.kind.Kind.{Kind}
use Rattle.pearl_value.specs.declared.cell.Cell.{Cell}
use Rattle.pearl_value.specs.Cells.{kind_of}
use Rattle.pearl_saved.specs.declared.saved.Target.{Target}
use Rattle.pearl_saved.specs.declared.saved.Target.TheVariants.{Slot, Own}
use Rattle.pearl_saved.specs.declared.saved.SavedCell.{SavedCell}
use Rattle.pearl_saved.specs.declared.saved.SavedCell.TheVariants.{Value, Variable, Array}
use Rattle.pearl_saved.specs.declared.saved.FrameRecord.{FrameRecord}
use Rattle.pearl_saved.specs.Rules.{own_kind}

-- the kind of the value there
abbrev pub kind_at : List Cell → List FrameRecord → Target → Option Kind
kind_at slots frames (Slot slot) = option_map kind_of (slice_get slots slot)
kind_at slots frames (Own n c) = own_kind frames n c

abbrev pub Leads : List Cell → List FrameRecord → SavedCell → Type 0
Leads slots frames (Value x) = Unit {0}
Leads slots frames (Variable reference) = kind_at slots frames reference.target ≡ Some reference.kind
Leads slots frames (Array array) = ⊥

-- over these lower frames, the lowest first: cells lead to cells of lower frames, operands to those of their own as well
abbrev pub AllLead : List Cell → List FrameRecord → List FrameRecord → Type 0
AllLead slots lower [] = Unit {0}
AllLead slots lower (f ∷ more) =
    AllByRecursion (Leads slots lower) f.cells × AllByRecursion (Leads slots (lower ++ f ∷ [])) f.operands
    × AllLead slots (lower ++ f ∷ []) more
