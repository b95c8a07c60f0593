-- Formats in which S33 isn't broken fit their values.
use Rattle.std.specs.Prelude.{◌≡◌, ℕ, zero, suc, ◌+◌, ◌≤◌, ◌==◌, Bool, true, not, ◌||◌, ◌&&◌, nat_le, nat_lt, if◌then◌else◌, List, [], ◌∷◌, ◌++◌, length, map, drop, filter, Option, Some, None}
use Rattle.std.proofs.Common.{refl, ap, ◌∙◌, sym, subst, arith, true≢false}
use Rattle.std.proofs.lemmas.Bool.{leb-true, ltb-false, eqb-true}
use Rattle.pearl_value.specs.declared.kind.Kind.{Kind}
use Rattle.pearl_value.specs.declared.kind.Kind.TheVariants.{Fixed, Bits, Chars, Clock, Span}
use Rattle.pearl_format.specs.declared.item.ItemCode.{ItemCode}
use Rattle.pearl_format.specs.declared.item.ItemCode.TheVariants as code
use Rattle.pearl_format.specs.Fields.{width_or, digit_count}
use Rattle.pearl_format.specs.Items.{data_here, width_over, text_width, TakesKind, SuitsItem, Suits, FitsFormat}
use Rattle.pearl_tree.specs.declared.name.Number.{Number}
use Rattle.pearl_tree.specs.declared.format.Fmt.{Fmt}
use Rattle.pearl_tree.specs.declared.format.Fmt.TheVariants.{Free, Wide}
use Rattle.pearl_tree.specs.declared.format.FreeCode.{FreeCode}
use Rattle.pearl_tree.specs.declared.format.FreeCode.TheVariants.{A, B, B1, B2, B3, B4, X, Skip}
use Rattle.pearl_tree.specs.declared.format.WideCode.TheVariants.{F, T, D}
use Rattle.pearl_tree.specs.declared.rule.TheConstants as rule
use Rattle.pearl_tree.specs.Faults.{fault_if}
use Rattle.pearl_check.specs.Formats.{place_of_item, is_data, is_free_for, is_for, has_width, counted_width, is_for_other, item_faults, sum_of_widths, data_count, is_ill_sized, format_faults}
use Rattle.pearl_resolve.specs.Resolve.{item_of, width_of}
use Rattle.pearl_sound.proofs.ModuleEntries.{no_fault, neither}
use Rattle.pearl_sound.proofs.SimpleStatements.{left_none, right_none, not_broken, really}
use Rattle.pearl_sound.proofs.Subscripting.{both}

-- an item for a kind takes it, and counts as much
record IsTaken (item : Fmt) (kind : Kind) (kinds : List Kind) : Type 0 where
  pub takes : TakesKind (item_of item).code (item_of item).width kind
  pub counts : width_over (item_of item).code (item_of item).width (kind ∷ kinds) ≡ counted_width item (Some kind)

written : (own : ℕ) (width : ℕ) → (nat_le 1 width && nat_le width 255) ≡ true → width_or width own ≡ width
written own zero is = absurd (true≢false (sym is))
written own (suc width) is = refl

free_taken : (word : FreeCode) (width : Option Number) (place : ℕ) (kind : Kind) (kinds : List Kind) → is_free_for word kind ≡ true →
    has_width (Free word width place) ≡ true → IsTaken (Free word width place) kind kinds
free_taken A None place (Chars len) kinds is has = record { takes = tt; counts = refl }
free_taken A (Some width) place (Chars len) kinds is has = record { takes = tt; counts = written len width.value has }
free_taken B None place (Bits len) kinds is has = record { takes = tt; counts = omega arith }
free_taken B (Some width) place (Bits len) kinds is has = record { takes = tt; counts = written (digit_count 1 len) width.value has }
free_taken B1 None place (Bits len) kinds is has = record { takes = tt; counts = omega arith }
free_taken B1 (Some width) place (Bits len) kinds is has = record { takes = tt; counts = written (digit_count 1 len) width.value has }
free_taken B2 None place (Bits len) kinds is has = record { takes = tt; counts = omega arith }
free_taken B2 (Some width) place (Bits len) kinds is has = record { takes = tt; counts = written (digit_count 2 len) width.value has }
free_taken B3 None place (Bits len) kinds is has = record { takes = tt; counts = omega arith }
free_taken B3 (Some width) place (Bits len) kinds is has = record { takes = tt; counts = written (digit_count 3 len) width.value has }
free_taken B4 None place (Bits len) kinds is has = record { takes = tt; counts = omega arith }
free_taken B4 (Some width) place (Bits len) kinds is has = record { takes = tt; counts = written (digit_count 4 len) width.value has }
free_taken word width place kind kinds is has = absurd (true≢false (sym is))

at_least : (least width : ℕ) → (nat_le least width && nat_le width 255) ≡ true → least ≤ width
at_least least width is = leb-true least width (both (nat_le least width) (nat_le width 255) is).0

item_taken : (item : Fmt) (kind : Kind) (kinds : List Kind) → is_for item kind ≡ true → has_width item ≡ true → IsTaken item kind kinds
item_taken (Free word width place) kind kinds is has = free_taken word width place kind kinds is has
item_taken (Wide F width place) (Fixed len) kinds is has =
    record { takes = (let low = at_least 1 width.value has in omega (arith, low)); counts = refl }
item_taken (Wide T width place) Clock kinds is has = record { takes = at_least 8 width.value has; counts = refl }
item_taken (Wide D width place) Span kinds is has =
    record { takes = (let low = at_least 1 width.value has in omega (arith, low)); counts = refl }
item_taken (Wide word width place) kind kinds is has = absurd (true≢false (sym is))

data_item : (of : ItemCode) (width : ℕ) (kind : Kind) (kinds : List Kind) (rest : List Kind → Type 0) → TakesKind of width kind → rest kinds →
    SuitsItem of width (kind ∷ kinds) rest
data_item code.X width kind kinds rest takes more = absurd takes
data_item code.Skip width kind kinds rest takes more = absurd takes
data_item other width kind kinds rest takes more = (takes, more)

one_here : (of : ItemCode) (width : ℕ) (kind : Kind) → TakesKind of width kind → data_here of ≡ 1
one_here code.X width kind takes = absurd takes
one_here code.Skip width kind takes = absurd takes
one_here other width kind takes = refl

-- the items suit these kinds, and their widths are those that are counted
record AreTaken (items : List Fmt) (kinds : List Kind) : Type 0 where
  pub suit : Suits (map item_of items) kinds
  pub wide : text_width (map item_of items) kinds ≡ sum_of_widths items (map Some kinds)

one_taken : (item : Fmt) (rest : List Fmt) (kinds : List Kind) → is_data item ≡ true → item_faults (item ∷ rest) (map Some kinds) ≡ [] →
    data_count (item ∷ rest) ≡ length kinds →
    ((left : List Kind) → item_faults rest (map Some left) ≡ [] → data_count rest ≡ length left → AreTaken rest left) → AreTaken (item ∷ rest) kinds
one_taken item rest [] given none count more =
    let own = ap (λ (b : Bool). length (if b then item ∷ filter is_data rest else filter is_data rest)) given in
    absurd (omega (arith, own, count))
one_taken item rest (kind ∷ kinds) given none count more =
    let faults = λ (b : Bool). fault_if (is_for_other item (if b then Some kind else None) || not (has_width item)) (place_of_item item) rule.S33 ++
    item_faults rest (if b then map Some kinds else Some kind ∷ map Some kinds) in
    let parts = no_fault (not (is_for item kind) || not (has_width item)) (place_of_item item) rule.S33 (item_faults rest (map Some kinds))
    (subst (λ b. faults b ≡ []) given none) in
    let tests = neither (not (is_for item kind)) (not (has_width item)) parts.0 in
    let taken = item_taken item kind kinds (really (is_for item kind) tests.0) (really (has_width item) tests.1) in
    let own = ap (λ (b : Bool). length (if b then item ∷ filter is_data rest else filter is_data rest)) given in
    let others = more kinds parts.1 (omega (arith, own, count)) in
    record {
      suit = data_item (item_of item).code (item_of item).width kind kinds (λ left. Suits (map item_of rest) left) taken.takes others.suit;
      wide = ap (λ n. width_over (item_of item).code (item_of item).width (kind ∷ kinds) + text_width (map item_of rest) (drop n (kind ∷ kinds)))
          (one_here (item_of item).code (item_of item).width kind taken.takes) ∙
          (λ i. taken.counts i + others.wide i) ∙
          ap (λ (b : Bool). counted_width item (if b then Some kind else None) + sum_of_widths rest (if b then map Some kinds else Some kind ∷ map Some kinds)) (sym given);
    }

skip_width : (word : FreeCode) (width : Option Number) (place : ℕ) (own : ℕ) → has_width (Free word width place) ≡ true → counted_width (Free word None place) None ≡ own →
    width_or (width_of width) own ≡ counted_width (Free word width place) None
skip_width word None place own has is = sym is
skip_width word (Some width) place own has is = written own width.value has

all_taken : (items : List Fmt) (kinds : List Kind) → item_faults items (map Some kinds) ≡ [] → data_count items ≡ length kinds → AreTaken items kinds
all_taken [] [] none count = record { suit = tt; wide = refl }
all_taken [] (kind ∷ kinds) none count = absurd (omega (arith, count))
all_taken (Free X width place ∷ rest) kinds none count =
    let parts = no_fault (not (has_width (Free X width place))) place rule.S33 (item_faults rest (map Some kinds)) none in
    let others = all_taken rest kinds parts.1 count in
    record {
      suit = others.suit;
      wide = λ i. skip_width X width place 1 (really (has_width (Free X width place)) parts.0) refl i + others.wide i;
    }
all_taken (Free Skip width place ∷ rest) kinds none count =
    let parts = no_fault (not (has_width (Free Skip width place))) place rule.S33 (item_faults rest (map Some kinds)) none in
    let others = all_taken rest kinds parts.1 count in
    record {
      suit = others.suit;
      wide = λ i. skip_width Skip width place 1 (really (has_width (Free Skip width place)) parts.0) refl i + others.wide i;
    }
all_taken (Free A width place ∷ rest) kinds none count = one_taken (Free A width place) rest kinds refl none count (λ left none count. all_taken rest left none count)
all_taken (Free B width place ∷ rest) kinds none count = one_taken (Free B width place) rest kinds refl none count (λ left none count. all_taken rest left none count)
all_taken (Free B1 width place ∷ rest) kinds none count = one_taken (Free B1 width place) rest kinds refl none count (λ left none count. all_taken rest left none count)
all_taken (Free B2 width place ∷ rest) kinds none count = one_taken (Free B2 width place) rest kinds refl none count (λ left none count. all_taken rest left none count)
all_taken (Free B3 width place ∷ rest) kinds none count = one_taken (Free B3 width place) rest kinds refl none count (λ left none count. all_taken rest left none count)
all_taken (Free B4 width place ∷ rest) kinds none count = one_taken (Free B4 width place) rest kinds refl none count (λ left none count. all_taken rest left none count)
all_taken (Wide word width place ∷ rest) kinds none count = one_taken (Wide word width place) rest kinds refl none count (λ left none count. all_taken rest left none count)

so_many : (kinds : List Kind) → length (map Some kinds) ≡ length kinds
so_many [] = refl
so_many (kind ∷ kinds) = ap suc (so_many kinds)

pub formats_fit : (place : ℕ) (items : List Fmt) (kinds : List Kind) → format_faults place items (map Some kinds) ≡ [] → FitsFormat (map item_of items) kinds
formats_fit place items kinds none =
    let ill = is_ill_sized items (map Some kinds) in
    let sized = not_broken ill place rule.S33 (right_none (item_faults items (map Some kinds)) (fault_if ill place rule.S33) none) in
    let one = neither (not (data_count items == length (map Some kinds))) (nat_lt 64 (data_count items) || nat_lt 1024 (sum_of_widths items (map Some kinds))) sized in
    let two = neither (nat_lt 64 (data_count items)) (nat_lt 1024 (sum_of_widths items (map Some kinds))) one.1 in
    let count = eqb-true (data_count items) (length (map Some kinds)) (really (data_count items == length (map Some kinds)) one.0) ∙ so_many kinds in
    let few = ltb-false 64 (data_count items) two.0 in
    let short = ltb-false 1024 (sum_of_widths items (map Some kinds)) two.1 in
    let taken = all_taken items kinds (left_none (item_faults items (map Some kinds)) (fault_if ill place rule.S33) none) count in
    let wide = taken.wide in
    record { suits = taken.suit; few = omega (arith, few, count); short = omega (arith, short, wide) }
