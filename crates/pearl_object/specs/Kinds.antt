-- How kinds are spelled: of values and of cells.
use Rattle.std.specs.Prelude.{ℕ, Bool, true, false, ◌||◌, nat_le, nat_lt, ◌-◌, ◌==◌, if◌then◌else◌, List, [], ◌∷◌, Option, Some, None}
use Rattle.pearl_value.specs.declared.kind.Kind.{Kind}
use Rattle.pearl_value.specs.declared.kind.Kind.TheVariants.{Fixed, Bits, Chars, Clock, Span}
use Rattle.pearl_value.specs.declared.kind.CellKind.{CellKind}
use Rattle.pearl_value.specs.declared.kind.CellKind.TheVariants.{Plain, RefTo}
use Rattle.pearl_fields.specs.Codec.{Codec, byte_in, nothing, shaped, guarded, keyed, arm_at}
use Rattle.pearl_object.specs.declared.states.Parameters.{Parameters}

abbrev pub same_kind : Kind → Kind → Bool
same_kind (Fixed m) (Fixed n) = m == n
same_kind (Bits m) (Bits n) = m == n
same_kind (Chars m) (Chars n) = m == n
same_kind Clock Clock = true
same_kind Span Span = true
same_kind _ _ = false

-- a kind is the wanted one, if one is wanted
abbrev pub suits : Option Kind → Kind → Bool
suits None k = true
suits (Some w) k = same_kind w k

abbrev pub kind_tag : Kind → ℕ
kind_tag (Fixed n) = 0
kind_tag (Bits n) = 1
kind_tag (Chars n) = 2
kind_tag Clock = 3
kind_tag Span = 4

abbrev pub kind_len : Kind → ℕ
kind_len (Fixed n) = n
kind_len (Bits n) = n
kind_len (Chars n) = n
kind_len _ = 0

-- the kind that a byte says where no length follows
abbrev pub bare : ℕ → Kind
bare t = if t == 3 then Clock else Span

abbrev pub len_in : Option Kind → ℕ → (ℕ → Kind) → Codec Kind
len_in wanted most of = guarded (suits wanted) (shaped kind_len of (byte_in 1 most))

abbrev pub kind_arms : Option Kind → List (Codec Kind)
kind_arms wanted =
    len_in wanted 63 Fixed ∷ len_in wanted 64 Bits ∷ len_in wanted 255 Chars ∷ nothing Clock ∷ nothing Span ∷ []

-- another kind than the wanted one is refused at its last byte
unfoldable pub kind : Option Kind → Codec Kind
kind wanted = keyed kind_tag (guarded (λ t. nat_le t 2 || suits wanted (bare t)) (byte_in 0 4)) (arm_at (kind_arms wanted))

abbrev pub cell_kind_tag : CellKind → ℕ
cell_kind_tag (Plain of) = kind_tag of
cell_kind_tag (RefTo of) = 5

abbrev pub kind_in_cell : CellKind → Kind
kind_in_cell (Plain of) = of
kind_in_cell (RefTo of) = of

abbrev pub plain_len_in : ℕ → (ℕ → Kind) → Codec CellKind
plain_len_in most of = shaped (λ k. kind_len (kind_in_cell k)) (λ len. Plain (of len)) (byte_in 1 most)

abbrev pub cell_kind_arms : List (Codec CellKind)
cell_kind_arms =
    plain_len_in 63 Fixed
    ∷ plain_len_in 64 Bits
    ∷ plain_len_in 255 Chars
    ∷ nothing (Plain Clock)
    ∷ nothing (Plain Span)
    ∷ shaped kind_in_cell RefTo (kind None)
    ∷ []

abbrev pub most_cell_tag : Bool → ℕ
most_cell_tag free = if free then 5 else 4

-- a reference, only where it may be one, is byte 5 and the kind of what it refers to
unfoldable pub cell_kind : Bool → Codec CellKind
cell_kind free = keyed cell_kind_tag (byte_in 0 (most_cell_tag free)) (arm_at cell_kind_arms)

-- a cell, behind which so many parameters less are left; only a parameter may be a reference
abbrev pub cell_of : Parameters → Codec CellKind
cell_of state = cell_kind (nat_lt 0 state.left)

abbrev pub after_cell : Parameters → CellKind → Parameters
after_cell state k = record { left = state.left - 1 }
