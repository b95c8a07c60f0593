-- The slots of a shape, and of the last fields of a STRUCT.
use Rattle.std.specs.Prelude.{ℕ, zero, suc, ◌*◌, ◌<◌, ◌^◌, List, [], ◌∷◌, ◌++◌, replicate}
use Rattle.pearl_value.specs.declared.kind.Kind.{Kind}
use Rattle.pearl_names.specs.Shapes.{Shape, OfKind, OfFields, Fields, NoField, MoreField}
use Rattle.pearl_names.specs.Layout.{elements}
use Rattle.pearl_names.specs.declared.kinds.Kinds.{Kinds}
use Rattle.pearl_names.specs.Kinds.{no_kinds, kinds_among}

abbrev mutual
  -- the kinds of the slots of so many elements, leaf by leaf
  pub shape_slots : ℕ → Shape → List Kind
  shape_slots count (OfKind kind) = replicate count kind
  shape_slots count (OfFields fields) = field_slots count fields

  pub field_slots : ℕ → Fields → List Kind
  field_slots count NoField = []
  field_slots count (MoreField name bounds shape rest) = shape_slots (count * elements bounds) shape ++ field_slots count rest

abbrev mutual
  -- each leaf has fewer elements than the limit of counts
  pub AreFew : ℕ → Shape → Type 0
  AreFew count (OfKind kind) = count < 2 ^ 31
  AreFew count (OfFields fields) = AreFewIn count fields

  pub AreFewIn : ℕ → Fields → Type 0
  AreFewIn count NoField = Unit {0}
  AreFewIn count (MoreField name bounds shape rest) = AreFew (count * elements bounds) shape × AreFewIn count rest

abbrev pub drop_fields : ℕ → Fields → Fields
drop_fields zero fields = fields
drop_fields (suc n) NoField = NoField
drop_fields (suc n) (MoreField name bounds shape rest) = drop_fields n rest

-- the kinds among the last fields: among none, among one, and so on up to all
abbrev pub tails_of : Fields → List Kinds
tails_of NoField = no_kinds ∷ []
tails_of (MoreField name bounds shape rest) = tails_of rest ++ kinds_among (field_slots 1 (MoreField name bounds shape rest)) ∷ []
