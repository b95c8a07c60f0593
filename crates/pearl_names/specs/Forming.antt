-- How forms are made of written types.
use Rattle.std.specs.Prelude.{◌≡◌, ℕ, ℤ, false, List, [], ◌∷◌, ◌++◌, length, Option, Some, None}
use Rattle.pearl_tree.specs.declared.typing.Field.{Field}
use Rattle.pearl_tree.specs.ShownDeclarations.{ShownFields, NoFields, MoreFields, OfStruct, shown_names, shown_typing}
use Rattle.pearl_names.specs.ScopeNames.{ScopeNames}
use Rattle.pearl_names.specs.declared.length.DefaultLength.{DefaultLength}
use Rattle.pearl_tree.specs.Names.{has_repeats}
use Rattle.pearl_names.specs.Shapes.{Shape, Fields, Around, shape_of, fields_of, field_names}
use Rattle.pearl_names.specs.Layout.{elements}
use Rattle.pearl_names.specs.declared.types.TypeRef.{TypeRef}
use Rattle.pearl_names.specs.declared.types.StructForm.{StructForm}
use Rattle.pearl_names.specs.declared.types.Sizes.{Sizes}
use Rattle.pearl_names.specs.declared.forms.Types.{Types}
use Rattle.pearl_names.specs.declared.layout.Laid.{Laid}
use Rattle.pearl_names.specs.Counts.{cut}
use Rattle.pearl_names.specs.Forms.{StandsFor, Matches, IsForm, AreNamed}

abbrev pub fields_shown : List Field → ShownFields
fields_shown [] = NoFields
fields_shown (field ∷ rest) =
    MoreFields (shown_names field.names) field.bounds.items.items (shown_typing field.typing) field.place (fields_shown rest)

-- the forms of TYPEs match their shapes
abbrev pub AllMatch : List StructForm → List (Option TypeRef) → List (Option Shape) → Type 0
AllMatch forms [] [] = Unit {0}
AllMatch forms (part ∷ parts) (shape ∷ shapes) = Matches forms part shape × AllMatch forms parts shapes
AllMatch forms parts shapes = ⊥

pub record Grows (old new : List StructForm) : Type 0 where
  pub more : List StructForm
  pub is : new ≡ old ++ more

-- the TYPEs stay, and so do the forms that stood before
pub record Keeps (old new : Types) : Type 0 where
  pub grows : Grows old.forms.items new.forms.items
  pub named : new.named.items ≡ old.named.items

abbrev pub around_of : List ScopeNames → List DefaultLength → ℕ → List (Option Shape) → Around
around_of scopes lengths scope shapes = record { scopes = scopes; lengths = lengths; shapes = shapes; scope = scope }

-- the fields, where each part has one
pub record Has (around : Around) (forms : List StructForm) (form : StructForm) (fields : List Field) : Type 0 where
  pub shape : Fields
  pub is : fields_of around (fields_shown fields) ≡ Some shape
  pub stands : IsForm forms form shape

-- what was made of some fields
pub record Made (old now : List StructForm) (named : List (Option TypeRef)) (around : List (Option Shape) → Around) (built : StructForm) (fields : List Field) : Type 0 where
  pub grows : Grows old now
  pub named_so : AreNamed built.fields.entries (field_names (fields_shown fields))
  pub once : has_repeats [] (field_names (fields_shown fields)) ≡ false
  pub has : (shapes : List (Option Shape)) → AllMatch old named shapes → Has (around shapes) now built fields

abbrev pub sizes_of : List (ℤ × ℤ) → Sizes
sizes_of bounds = record { dimensions = cut (length bounds); elements = cut (elements bounds) }

-- the shape of a STRUCT with these fields
abbrev pub struct_shape : Around → List Field → Option Shape
struct_shape around fields = shape_of around (OfStruct (fields_shown fields) 0)

-- what an item's variables are, where they have bounds and a shape
abbrev pub IsLaid : List StructForm → Option Laid → Option (List (ℤ × ℤ)) → Option Shape → Type 0
IsLaid forms (Some laid) (Some bounds) (Some shape) = (laid.sizes ≡ sizes_of bounds) × StandsFor forms laid.part shape
IsLaid forms None (Some bounds) (Some shape) = ⊥
IsLaid forms None bounds shape = Unit {0}
IsLaid forms laid bounds shape = ⊥
