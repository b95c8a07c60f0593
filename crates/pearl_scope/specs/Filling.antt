-- How constants are put into slots that are listed as runs.
use Rattle.std.specs.Prelude.{◌≡◌, ◌⊎◌, ℕ, ℤ, zero, suc, ◌+◌, ◌^◌, nat_lt, if◌then◌else◌, ◌≤◌, ◌<◌, Bool, true, false, not, ◌||◌, List, [], ◌++◌, length, take, drop, Option, Some, None, slice_get}
use Rattle.std.specs.List.{All, flat_map}
use Rattle.pearl_value.specs.declared.kind.Kind.{Kind}
use Rattle.pearl_value.specs.declared.kind.Kind.TheVariants as kind
use Rattle.pearl_value.specs.Conversions.{fits_fixed}
use Rattle.pearl_tree.specs.declared.literal.Sign.{Sign}
use Rattle.pearl_tree.specs.declared.typing.Sort.{Sort}
use Rattle.pearl_tree.specs.ShownLiterals.{ShownConst}
use Rattle.pearl_scope.specs.declared.init.Spot.{Spot}
use Rattle.pearl_names.specs.declared.layout.Laid.{Laid}
use Rattle.pearl_names.specs.declared.slots.Run.{Run}
use Rattle.pearl_names.specs.declared.types.StructForm.{StructForm}
use Rattle.pearl_scope.specs.Constants.{signed, fits_kind}
use Rattle.pearl_names.specs.Forming.{sizes_of}
use Rattle.pearl_names.specs.Forms.{StandsFor}
use Rattle.pearl_names.specs.Layout.{Leaf, leaves_of}
use Rattle.pearl_names.specs.Lengths.{kind_of_length}
use Rattle.pearl_names.specs.Shapes.{Shape}
use Rattle.pearl_names.specs.Walks.{run_slots}

-- 2 to the power of a length, and no more than 2 to the power 64
abbrev pub end_of_fixed : ℕ → ℕ
end_of_fixed len = if nat_lt len 64 then 2 ^ len else 2 ^ 64

abbrev pub fits_number : Option Sign → ℕ → Kind → Bool
fits_number sign value (kind.Fixed len) = fits_fixed len (signed sign value)
fits_number sign value to = false

-- whether a constant fits the kind of this length, if there is one
abbrev pub fits_length : ShownConst → Sort → Option ℕ → Bool
fits_length constant sort None = true
fits_length constant sort (Some len) = fits_kind constant (kind_of_length sort len)

abbrev pub fits_if : ShownConst → Bool → Kind → Bool
fits_if constant is_asked kind = not is_asked || fits_kind constant kind

-- the slots of so many variables in turn
abbrev pub repeated : ℕ → List Kind → List Kind
repeated zero slots = []
repeated (suc n) slots = slots ++ repeated n slots

abbrev pub AreFull : List Run → Type 0
AreFull runs = All (λ (run : Run). 1 ≤ run.count) runs

-- the slots from a spot on
abbrev pub ahead : List Run → Spot → List Kind → List Kind
ahead runs spot rest = drop spot.used (flat_map run_slots (drop spot.at runs)) ++ rest

abbrev pub IsWithin : ℕ → Option Run → Type 0
IsWithin used None = Unit {0}
IsWithin used (Some run) = used < run.count

-- the spot is within a run, and there are runs enough for so many slots
pub record IsAhead (runs : List Run) (spot : Spot) (rest : List Kind) (most : ℕ) : Type 0 where
  pub within : IsWithin spot.used (slice_get runs spot.at)
  pub enough : (spot.at + most ≤ length runs) ⊎ (rest ≡ [])

-- all of these slots, or the first of them
abbrev pub taken : Bool → List Kind → List Kind
taken true slots = slots
taken false slots = take 1 slots

-- a variable of this form has these leaves
pub record HasLeaves (forms : List StructForm) (form : Laid) (leaves : Option (List Leaf)) : Type 0 where
  pub bounds : List (ℤ × ℤ)
  pub shape : Shape
  pub stands : StandsFor forms form.part shape
  pub sized : form.sizes ≡ sizes_of bounds
  pub is : leaves ≡ Some (leaves_of [] bounds shape)

abbrev pub MatchesLeaves : List StructForm → Option Laid → Option (List Leaf) → Type 0
MatchesLeaves forms None leaves = leaves ≡ None
MatchesLeaves forms (Some form) leaves = HasLeaves forms form leaves
