-- When what a name stands for is sound: kinds have lengths in their ranges, and of a variable all bounds are in theirs, and its
-- leaves are small.
use Rattle.std.specs.Prelude.{◌≡◌, ℤ, true, List, [], map, Option, Some, None}
use Rattle.std.specs.List.{AllByRecursion, list_all}
use Rattle.pearl_value.specs.declared.kind.Kind.{Kind}
use Rattle.pearl_value.specs.Kinds.{IsKind}
use Rattle.pearl_names.specs.Shapes.{Shape, OfKind, OfFields, Fields, NoField, MoreField}
use Rattle.pearl_names.specs.Layout.{leaves_of, is_sound_leaf}
use Rattle.pearl_names.specs.Tables.{Form, Parameter, Sense, Variable, Control, OwnParameter, BasicDation, Procedure}
use Rattle.pearl_program.specs.Typing.{IsBound}
use Rattle.pearl_resolve.specs.Expressions.{bound_of}

abbrev pub AreBounds : List (ℤ × ℤ) → Type 0
AreBounds pairs = AllByRecursion IsBound (map bound_of pairs)

-- so are those of all fields, and the kinds
abbrev mutual
  pub HasBounds : Shape → Type 0
  HasBounds (OfKind kind) = IsKind kind
  HasBounds (OfFields fields) = FieldsHaveBounds fields

  pub FieldsHaveBounds : Fields → Type 0
  FieldsHaveBounds NoField = Unit {0}
  FieldsHaveBounds (MoreField name bounds shape rest) = AreBounds bounds × HasBounds shape × FieldsHaveBounds rest

pub record IsSoundForm (form : Form) : Type 0 where
  pub bounds : AreBounds form.bounds
  pub shape : HasBounds form.shape
  pub leaves : list_all is_sound_leaf (leaves_of [] form.bounds form.shape) ≡ true

abbrev pub HasSoundForm : Option Form → Type 0
HasSoundForm None = Unit {0}
HasSoundForm (Some form) = IsSoundForm form

abbrev pub IsKindIf : Option Kind → Type 0
IsKindIf None = Unit {0}
IsKindIf (Some kind) = IsKind kind

abbrev pub IsResultIf : Option (Option Kind) → Type 0
IsResultIf None = Unit {0}
IsResultIf (Some result) = IsKindIf result

abbrev pub IsSoundSense : Sense → Type 0
IsSoundSense (Variable form inv) = HasSoundForm form
IsSoundSense (Control kind) = IsKind kind
IsSoundSense (OwnParameter parameter) = IsKindIf parameter.kind
IsSoundSense (BasicDation direction kind) = IsKindIf kind
IsSoundSense (Procedure parameters result) =
    AllByRecursion (λ (parameter : Parameter). IsKindIf parameter.kind) parameters × IsResultIf result
IsSoundSense sense = Unit {0}
