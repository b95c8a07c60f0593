-- How literals are spelled: a kind and a value of that kind.
use Rattle.std.specs.Prelude.{◌≡◌, ℕ, ◌-◌, ◌^◌, List, [], length, Option, ℤ, pos, negsuc, Result, Ok, Err}
use Rattle.arrayvec.specs.ArrayVec.{ArrayVec}
use Rattle.pearl_value.specs.declared.kind.Kind.{Kind}
use Rattle.pearl_value.specs.declared.kind.Kind.TheVariants as kind
use Rattle.pearl_value.specs.declared.cell.Cell.{Cell}
use Rattle.pearl_value.specs.declared.cell.Cell.TheVariants.{Fixed, Bits, Chars, Clock, Span, Ref}
use Rattle.pearl_fields.specs.declared.fault.ReadFault.{ReadFault}
use Rattle.pearl_fields.specs.Reads.{Fails}
use Rattle.pearl_fields.specs.Codec.{Seen, Codec, shaped, keyed, number_in, signed_in, bytes_in}
use Rattle.pearl_object.specs.Kinds as kinds

-- a reference is none: it is spelled as a text without letters, which no text is
abbrev pub literal_kind : Cell → Kind
literal_kind (Fixed len value) = kind.Fixed len
literal_kind (Bits len value) = kind.Bits len
literal_kind (Chars text) = kind.Chars (length text.items)
literal_kind (Clock time) = kind.Clock
literal_kind (Span time) = kind.Span
literal_kind (Ref of place) = kind.Chars 0

abbrev pub signed_of : Cell → ℤ
signed_of (Fixed len value) = value
signed_of (Span value) = value
signed_of _ = pos 0

abbrev pub number_of : Cell → ℕ
number_of (Bits len value) = value
number_of (Clock value) = value
number_of _ = 0

abbrev pub text_of : Cell → List ℕ
text_of (Chars text) = text.items
text_of _ = []

unfoldable pub value_of : Kind → Codec Cell
value_of (kind.Fixed len) = shaped signed_of (Fixed len) (signed_in (negsuc (2 ^ len - 1)) (pos (2 ^ len - 1)))
value_of (kind.Bits len) = shaped number_of (Bits len) (number_in 0 (2 ^ len - 1))
value_of (kind.Chars len) = shaped text_of (λ text. Chars (record { items = text })) (bytes_in 32 126 len)
value_of kind.Clock = shaped number_of Clock (number_in 0 86399999)
value_of kind.Span = shaped signed_of Span (signed_in (negsuc (2 ^ 40 - 1)) (pos (2 ^ 40)))

-- a literal, of the wanted kind if one is wanted
unfoldable pub literal : Option Kind → Codec Cell
literal wanted = keyed literal_kind (kinds.kind wanted) value_of

-- what the reading of a text gives
abbrev pub ReadsText : Seen (List ℕ) → List ℕ → Result (ArrayVec ℕ) ReadFault → Type 0
ReadsText seen new (Ok text) = seen ≡ Ok (text.items, new)
ReadsText seen new (Err fault) = Fails seen fault
