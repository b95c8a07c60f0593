-- How GET reads values from the pending bytes of a terminal.
use Rattle.std.specs.Prelude.{ℕ, zero, suc, ◌+◌, Bool, ◌||◌, ◌==◌, nat_lt, if◌then◌else◌, List, [], ◌∷◌, ◌++◌, length, take, drop, position, Option, Some, None, option_map}
use Rattle.std.specs.List.{before_first}
use Rattle.pearl_value.specs.declared.kind.Kind.{Kind}
use Rattle.pearl_value.specs.declared.kind.Kind.TheVariants as kind
use Rattle.pearl_value.specs.declared.cell.Cell.{Cell}
use Rattle.pearl_value.specs.declared.cell.Cell.TheVariants.{Fixed, Bits, Chars, Clock, Span}
use Rattle.pearl_value.specs.Arithmetic.{fits_span}
use Rattle.pearl_value.specs.Conversions.{fits_fixed}
use Rattle.pearl_format.specs.declared.item.ItemCode.{ItemCode}
use Rattle.pearl_format.specs.declared.item.ItemCode.TheVariants.{A, B1, B2, B3, B4, F, T, D, X, Skip}
use Rattle.pearl_format.specs.declared.item.Item.{Item}
use Rattle.pearl_format.specs.Fields.{cut_field}
use Rattle.pearl_format.specs.Items.{skip_count, data_here, width_over}
use Rattle.pearl_rules.specs.Literals.{bare, signed_number, bits_literal, clock_literal, span_literal}

-- What the items find in the bytes: a field or a SKIP isn't complete, and no field before it is bad; or the first bad
-- field ends behind so many bytes; or else so many bytes are used, for these values.
pub data Scanned : Type 0 where
  Short : Scanned
  Bad : (used : ℕ) → Scanned
  Got : (used : ℕ) (values : List Cell) → Scanned

abbrev pub is_line_end : ℕ → Bool
is_line_end byte = byte == 10

abbrev pub is_blank : ℕ → Bool
is_blank byte = byte == 32

-- FIELDS

-- the field at the front: so many bytes, or those before a byte 10 that comes first; none where neither is there yet
abbrev pub field : (width : ℕ) → List ℕ → Option (List ℕ)
field width bytes =
    let near = take width bytes in
    let text = before_first is_line_end near in
    if nat_lt (length text) (length near) || length near == width then Some text else None

abbrev pub behind_line : Option ℕ → (ℕ → Option ℕ) → Option ℕ
behind_line None more = None
behind_line (Some place) more = option_map (λ n. place + 1 + n) (more (place + 1))

-- how many bytes come up to and with so many bytes 10; none where these aren't all there yet
abbrev pub lines_length : (count : ℕ) → List ℕ → Option ℕ
lines_length zero bytes = Some 0
lines_length (suc count) bytes = behind_line (position is_line_end bytes) (λ used. lines_length count (drop used bytes))

-- VALUES

abbrev pub if_fits : {X : Type 0} → (X → Bool) → Option X → Option X
if_fits fits None = None
if_fits fits (Some x) = if fits x then Some x else None

-- the value of a complete field for a target of a kind; none where the field is bad. A field of A is cut, or filled
-- with blanks, to the target's length; the others lose the blanks at both ends
abbrev pub field_value : ItemCode → Kind → List ℕ → Option Cell
field_value A (kind.Chars len) text = Some (Chars (record { items = cut_field len text }))
field_value B1 (kind.Bits len) text = option_map (Bits len) (bits_literal 1 len (bare is_blank text))
field_value B2 (kind.Bits len) text = option_map (Bits len) (bits_literal 2 len (bare is_blank text))
field_value B3 (kind.Bits len) text = option_map (Bits len) (bits_literal 3 len (bare is_blank text))
field_value B4 (kind.Bits len) text = option_map (Bits len) (bits_literal 4 len (bare is_blank text))
field_value F (kind.Fixed len) text =
    option_map (Fixed len) (if_fits (fits_fixed len) (signed_number (bare is_blank text)))
field_value T kind.Clock text = option_map Clock (clock_literal (bare is_blank text))
field_value D kind.Span text = option_map Span (if_fits fits_span (span_literal is_blank (bare is_blank text)))
field_value code kind text = None

-- the values that an item reads in its field, for the targets that are left: X none, each other one
abbrev pub field_values : ItemCode → List Kind → List ℕ → Option (List Cell)
field_values X kinds text = Some []
field_values code [] text = None
field_values code (kind ∷ kinds) text = option_map (λ value. value ∷ []) (field_value code kind text)

-- ITEMS

abbrev pub good_or_bad : (used : ℕ) → Option (List Cell) → Scanned
good_or_bad used None = Bad used
good_or_bad used (Some values) = Got used values

abbrev pub if_complete : Option (List ℕ) → (List ℕ → Option (List Cell)) → Scanned
if_complete None read = Short
if_complete (Some text) read = good_or_bad (length text) (read text)

abbrev pub if_skipped : Option ℕ → Scanned
if_skipped None = Short
if_skipped (Some used) = Got used []

-- one item alone, for the targets that are left. SKIP uses all bytes up to and with its last byte 10; no field uses one
abbrev pub scan_item : ItemCode → (width : ℕ) → List Kind → List ℕ → Scanned
scan_item Skip width kinds bytes = if_skipped (lines_length (skip_count width) bytes)
scan_item code width kinds bytes =
    if_complete (field (width_over code width kinds) bytes) (λ text. field_values code kinds text)

abbrev pub behind : (used : ℕ) → List Cell → Scanned → Scanned
behind used values Short = Short
behind used values (Bad more) = Bad (used + more)
behind used values (Got more others) = Got (used + more) (values ++ others)

-- where the first is Got, what comes behind the bytes that it uses
abbrev pub followed_by : Scanned → (later : (used : ℕ) → Scanned) → Scanned
followed_by Short later = Short
followed_by (Bad used) later = Bad used
followed_by (Got used values) later = behind used values (later used)

-- the items one after the other, for targets of these kinds, over the pending bytes
unfoldable pub scan : List Item → List Kind → List ℕ → Scanned
scan [] kinds bytes = Got 0 []
scan (item ∷ items) kinds bytes =
    followed_by (scan_item item.code item.width kinds bytes)
    (λ used. scan items (drop (data_here item.code) kinds) (drop used bytes))
