-- What a STRUCT with one field comes to: what that field's type comes to, as many times as the field has elements. A
-- basic type and a STRUCT with more fields stay.
use Rattle.std.specs.Prelude.{ℕ, ◌*◌, List, [], ◌∷◌, Option, Some, None, slice_get, unwrap_or}
use Rattle.std.specs.Option.{option_and_then}
use Rattle.arrayvec.specs.ArrayVec.{ArrayVec}
use Rattle.pearl_names.specs.declared.types.Elements.{Elements}
use Rattle.pearl_names.specs.declared.types.TypeRef.{TypeRef}
use Rattle.pearl_names.specs.declared.types.TypeRef.TheVariants.{Basic, Struct}
use Rattle.pearl_names.specs.declared.types.FieldForm.{FieldForm}
use Rattle.pearl_names.specs.declared.types.StructForm.{StructForm}
use Rattle.pearl_names.specs.Counts.{cut}

abbrev pub one_of : TypeRef → Elements
one_of part = record { part = part; count = 1 }

abbrev pub end_of : List StructForm → TypeRef → Elements
end_of forms (Basic kind) = one_of (Basic kind)
end_of forms (Struct number) = unwrap_or (option_and_then (λ form. form.end) (slice_get forms number)) (one_of (Struct number))

abbrev pub end_of_field : List StructForm → FieldForm → Elements
end_of_field forms field = record { part = (end_of forms field.part).part; count = cut (field.elements * (end_of forms field.part).count) }

-- of these fields, where there is one
abbrev pub only_end : List StructForm → List (ArrayVec ℕ × FieldForm) → Option Elements
only_end forms [] = None
only_end forms (entry ∷ []) = Some (end_of_field forms entry.1)
only_end forms (entry ∷ other ∷ rest) = None
