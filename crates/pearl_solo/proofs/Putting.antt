-- Values that suit a format.
use Rattle.std.proofs.Common.{◌≡◌, ℕ, zero, suc, ◌+◌, ◌≤◌, List, [], ◌∷◌, Option, Some, None, length, map, reverse, take, drop, slice_get, refl, sym, ap, ◌∙◌, subst, arith, true, leb-true}
use Rattle.std.specs.Prelude.{◌&&◌, nat_le, option_map, option_and_then}
use Rattle.std.specs.List.{AllByRecursion, AllZip}
use Rattle.std.proofs.lemmas.List.Elements.{All-from_recursion}
use Rattle.std.proofs.lemmas.Option.{same_Some}
use Rattle.pearl_value.specs.declared.kind.Kind.{Kind}
use Rattle.pearl_value.specs.declared.kind.Kind.TheVariants as kind
use Rattle.pearl_value.specs.declared.kind.CellKind.TheVariants.{Plain, RefTo}
use Rattle.pearl_value.specs.declared.cell.Cell.{Cell}
use Rattle.pearl_value.specs.declared.cell.Cell.TheVariants.{Fixed, Bits, Chars, Clock, Span, Ref}
use Rattle.pearl_value.specs.Cells.{kind_of}
use Rattle.pearl_value.specs.WellFormed.{IsValue, IsValueOf}
use Rattle.pearl_format.specs.declared.item.Item.{Item}
use Rattle.pearl_format.specs.declared.item.ItemCode.{ItemCode}
use Rattle.pearl_format.specs.declared.item.ItemCode.TheVariants.{A, B1, B2, B3, B4, F, T, D, X, Skip}
use Rattle.pearl_format.specs.Items.{HasWidth, TakesKind, SuitsItem, Suits, data_here, data_count, text_width, IsFormat}
use Rattle.pearl_rules.specs.declared.action.Action.TheVariants as action
use Rattle.pearl_rules.specs.declared.action.Answer.{Answer}
use Rattle.pearl_format.specs.Texts.{text_of}
use Rattle.pearl_stack.specs.Frames.{Frame, top_operands}
use Rattle.pearl_instructions.specs.declared.object.Parts.{Parts as Object}
use Rattle.pearl_instructions.specs.Objects.{items_at}
use Rattle.pearl_instructions.specs.Offers.{takes_kind, item_suits, items_suit, value_kinds, put_text, put_values}
use Rattle.pearl_instructions.specs.Operands.{Shape}
use Rattle.pearl_instructions.specs.Stacks.{Suits as SuitsCell}
use Rattle.pearl_instructions.specs.Steps.{Offers, given, needed, taken, value_kind}
use Rattle.pearl_instructions.specs.Valid.{plain_kinds, suits_format, values_suit}
use Rattle.pearl_silent.specs.Steps.{on_top, Applies}
use Rattle.pearl_solo.specs.Texts.{text_offered, MakesText}
use Rattle.pearl_silent.proofs.Offered.{given_some, needed_true, and_true, all_given}
use mathlib.Core.List.{reverse_aux}

-- an item of lawful width takes the kind that it suits

taken_kind : (code : ItemCode) (width : ℕ) (of : Kind) → HasWidth code width → takes_kind code of ≡ true → TakesKind code width of
taken_kind A width (kind.Chars len) w e = w
taken_kind B1 width (kind.Bits len) w e = w
taken_kind B2 width (kind.Bits len) w e = w
taken_kind B3 width (kind.Bits len) w e = w
taken_kind B4 width (kind.Bits len) w e = w
taken_kind F width (kind.Fixed len) w e = w
taken_kind T width kind.Clock w e = w
taken_kind D width kind.Span w e = w
taken_kind code width of w e = cc

items_suited : (items : List Item) (kinds : List Kind) → IsFormat items → items_suit items kinds ≡ true → Suits items kinds
items_suited [] [] w e = tt
items_suited [] (of ∷ kinds) w e = cc
items_suited (item ∷ items) kinds w e =
    let both = and_true (item_suits item.code kinds) (items_suit items (drop (data_here item.code) kinds)) e in
    by item.code kinds w.0.0 both.0 (items_suited items (drop (data_here item.code) kinds) w.1 both.1)
  where
    by : (code : ItemCode) (kinds : List Kind) → HasWidth code item.width → item_suits code kinds ≡ true → Suits items (drop (data_here code) kinds) →
        SuitsItem code item.width kinds (λ rest. Suits items rest)
    by X kinds w e more = more
    by Skip kinds w e more = more
    by A [] w e more = cc
    by A (of ∷ kinds) w e more = (taken_kind A item.width of w e, more)
    by B1 [] w e more = cc
    by B1 (of ∷ kinds) w e more = (taken_kind B1 item.width of w e, more)
    by B2 [] w e more = cc
    by B2 (of ∷ kinds) w e more = (taken_kind B2 item.width of w e, more)
    by B3 [] w e more = cc
    by B3 (of ∷ kinds) w e more = (taken_kind B3 item.width of w e, more)
    by B4 [] w e more = cc
    by B4 (of ∷ kinds) w e more = (taken_kind B4 item.width of w e, more)
    by F [] w e more = cc
    by F (of ∷ kinds) w e more = (taken_kind F item.width of w e, more)
    by T [] w e more = cc
    by T (of ∷ kinds) w e more = (taken_kind T item.width of w e, more)
    by D [] w e more = cc
    by D (of ∷ kinds) w e more = (taken_kind D item.width of w e, more)

-- the items take as many values as there are kinds

one_less : (kinds : List Kind) (n : ℕ) (of : Kind) → n ≡ length kinds → 1 + n ≡ length (of ∷ kinds)
one_less kinds n of e = omega (arith, e)

pub suits_count : (items : List Item) (kinds : List Kind) → items_suit items kinds ≡ true → data_count items ≡ length kinds
suits_count [] [] e = refl
suits_count [] (of ∷ kinds) e = cc
suits_count (item ∷ items) kinds e =
    let both = and_true (item_suits item.code kinds) (items_suit items (drop (data_here item.code) kinds)) e in
    by item.code kinds both.0 (suits_count items (drop (data_here item.code) kinds) both.1)
  where
    by : (code : ItemCode) (kinds : List Kind) → item_suits code kinds ≡ true → data_count items ≡ length (drop (data_here code) kinds) →
        data_here code + data_count items ≡ length kinds
    by X kinds e h = omega (arith, h)
    by Skip kinds e h = omega (arith, h)
    by A [] e h = cc
    by A (of ∷ kinds) e h = one_less kinds (data_count items) of h
    by B1 [] e h = cc
    by B1 (of ∷ kinds) e h = one_less kinds (data_count items) of h
    by B2 [] e h = cc
    by B2 (of ∷ kinds) e h = one_less kinds (data_count items) of h
    by B3 [] e h = cc
    by B3 (of ∷ kinds) e h = one_less kinds (data_count items) of h
    by B4 [] e h = cc
    by B4 (of ∷ kinds) e h = one_less kinds (data_count items) of h
    by F [] e h = cc
    by F (of ∷ kinds) e h = one_less kinds (data_count items) of h
    by T [] e h = cc
    by T (of ∷ kinds) e h = one_less kinds (data_count items) of h
    by D [] e h = cc
    by D (of ∷ kinds) e h = one_less kinds (data_count items) of h

-- the kinds of values that suit plain kinds

value_kind_is : (k : Kind) (x : Cell) → IsValueOf k x → value_kind x ≡ Some k
value_kind_is k (Fixed len value) w = ap Some w.same_kind
value_kind_is k (Bits len value) w = ap Some w.same_kind
value_kind_is k (Chars text) w = ap Some w.same_kind
value_kind_is k (Clock time) w = ap Some w.same_kind
value_kind_is k (Span time) w = ap Some w.same_kind
value_kind_is k (Ref of at) w = absurd w.is_value

mapped_is : (k : Kind) (rest : Option (List Kind)) (kinds : List Kind) → option_map (λ ks. k ∷ ks) rest ≡ Some kinds →
    (more : List Kind) × (rest ≡ Some more) × (k ∷ more ≡ kinds)
mapped_is k None kinds e = cc
mapped_is k (Some more) kinds e = (more, refl, same_Some (k ∷ more) kinds e)

-- of a list, the values with their kinds
record AreOf (kinds : List Kind) (xs : List Cell) : Type 0 where
  pub told : value_kinds xs ≡ Some kinds
  pub mapped : map kind_of xs ≡ kinds
  pub are : AllByRecursion IsValue xs

values_of : (o : Object) (rs : List ℕ) (s : Shape) (xs : List Cell) (kinds : List Kind) → plain_kinds s ≡ Some kinds → AllZip (SuitsCell o rs) s xs → AreOf kinds xs
values_of o rs [] [] kinds e z = record { told = e; mapped = same_Some [] kinds e; are = tt }
values_of o rs [] (x ∷ xs) kinds e z = absurd z
values_of o rs (k ∷ s) [] kinds e z = absurd z
values_of o rs (RefTo k ∷ s) (x ∷ xs) kinds e z = cc
values_of o rs (Plain k ∷ s) (x ∷ xs) kinds e z =
    let m = mapped_is k (plain_kinds s) kinds e in
    let more = values_of o rs s xs m.0 m.1 z.1 in
    record {
      told = ap (λ of. option_and_then (λ of. option_map (λ kinds. of ∷ kinds) (value_kinds xs)) of) (value_kind_is k x z.0)
          ∙ (ap (option_map (λ kinds. k ∷ kinds)) more.told ∙ ap Some m.2);
      mapped = ap (λ k. k ∷ map kind_of xs) z.0.same_kind ∙ (ap (λ ks. k ∷ ks) more.mapped ∙ m.2);
      are = (z.0.is_value, more.are);
    }

zip_take : {X Y : Type 0} (R : X → Y → Type 0) (n : ℕ) (ks : List X) (xs : List Y) → AllZip R ks xs → AllZip R (take n ks) (take n xs)
zip_take R zero ks xs z = tt
zip_take R (suc n) [] [] z = tt
zip_take R (suc n) [] (x ∷ xs) z = absurd z
zip_take R (suc n) (k ∷ ks) [] z = absurd z
zip_take R (suc n) (k ∷ ks) (x ∷ xs) z = (z.0, zip_take R n ks xs z.1)

zip_reverse_onto : {X Y : Type 0} (R : X → Y → Type 0) (ks ls : List X) (xs ys : List Y) → AllZip R ks xs → AllZip R ls ys → AllZip R (reverse_aux ks ls) (reverse_aux xs ys)
zip_reverse_onto R [] ls [] ys z w = w
zip_reverse_onto R [] ls (x ∷ xs) ys z w = absurd z
zip_reverse_onto R (k ∷ ks) ls [] ys z w = absurd z
zip_reverse_onto R (k ∷ ks) ls (x ∷ xs) ys z w = zip_reverse_onto R ks (k ∷ ls) xs (x ∷ ys) z.1 (z.0, w)

zip_reverse : {X Y : Type 0} (R : X → Y → Type 0) (ks : List X) (xs : List Y) → AllZip R ks xs → AllZip R (reverse ks) (reverse xs)
zip_reverse R ks xs z = zip_reverse_onto R ks [] xs [] z tt

-- what a format's rule says of kinds
record Formatted (items : List Item) (option : Option (List Kind)) : Type 0 where
  pub kinds : List Kind
  pub is : option ≡ Some kinds
  pub suit : items_suit items kinds ≡ true
  pub few : length kinds ≤ 64
  pub short : text_width items kinds ≤ 1024

format_kinds : (items : List Item) (kinds : Option (List Kind)) → suits_format items kinds ≡ true → Formatted items kinds
format_kinds items None e = cc
format_kinds items (Some ks) e =
    let last = and_true (items_suit items ks && nat_le (length ks) 64) (nat_le (text_width items ks) 1024) e in
    let both = and_true (items_suit items ks) (nat_le (length ks) 64) last.0 in
    record { kinds = ks; is = refl; suit = both.0; few = leb-true (length ks) 64 both.1; short = leb-true (text_width items ks) 1024 last.1 }

pub format_few : (items : List Item) (kinds : Option (List Kind)) → suits_format items kinds ≡ true → data_count items ≤ 64
format_few items kinds e =
    let f = format_kinds items kinds e in
    let count = suits_count items f.kinds f.suit in
    let few = f.few in
    omega (arith, count, few)

-- the operands on top make the text

makes_by : (o : Object) (rs : List ℕ) (items : List Item) (s : Shape) (xs : List Cell) → IsFormat items → AllZip (SuitsCell o rs) s xs → data_count items ≤ length xs →
    values_suit (Some items) s ≡ true → MakesText (Some items) xs
makes_by o rs items s xs w z there e =
    let n = data_count items in
    let f = format_kinds items (plain_kinds (reverse (take n s))) e in
    let v = values_of o rs (reverse (take n s)) (reverse (take n xs)) f.kinds f.is (zip_reverse (SuitsCell o rs) (take n s) (take n xs) (zip_take (SuitsCell o rs) n s xs z)) in
    let count = suits_count items f.kinds f.suit in
    let few = f.few in (
      omega (arith, count, few),
      there,
      record {
        suits = subst (Suits items) (sym v.mapped) (items_suited items f.kinds w f.suit);
        are = All-from_recursion IsValue (reverse (take n xs)) v.are;
        short = subst (λ ks. text_width items ks ≤ 1024) (sym v.mapped) f.short;
      },
    )

pub makes_text : (o : Object) (rs : List ℕ) (format : ℕ) (s : Shape) (xs : List Cell) (items : List Item) → AllByRecursion IsFormat o.formats → items_at o format ≡ Some items →
    AllZip (SuitsCell o rs) s xs → data_count items ≤ length xs → values_suit (items_at o format) s ≡ true → MakesText (items_at o format) xs
makes_text o rs format s xs items w e z there h =
    subst (λ i. MakesText i xs) (sym e)
    (makes_by o rs items s xs (all_given IsFormat o.formats format items w e) z there (ap (λ i. values_suit i s) (sym e) ∙ h))

-- the row, by the text of the values
pub puts_row : (o : Object) (d format : ℕ) (frames : List Frame) (room : ℕ) (items : List Item) → items_at o format ≡ Some items →
    Applies (on_top (λ f lower. put_values o d format f lower) frames) room →
    (go : Answer → List Frame) × (on_top (λ f lower. put_values o d format f lower) frames ≡ Offers (text_offered d (text_of items (reverse (take (data_count items) (top_operands frames))))) go)
puts_row o d format [] room items e a = absurd a
puts_row o d format (f ∷ lower) room items e a =
    let n = data_count items in
    let values = reverse (take n f.operands) in
    let left = drop n f.operands in
    let whole : given (items_at o format) (λ items. taken (data_count items) f.operands (λ values left. given (value_kinds values) (λ kinds. needed (items_suit items kinds) (put_text d (text_of items values) f lower left))))
    ≡ needed (nat_le n (length f.operands)) (given (value_kinds values) (λ kinds. needed (items_suit items kinds) (put_text d (text_of items values) f lower left))) =
    ap (λ i. given i (λ items. taken (data_count items) f.operands (λ values left. given (value_kinds values) (λ kinds. needed (items_suit items kinds) (put_text d (text_of items values) f lower left))))) e in
    let there = needed_true (nat_le n (length f.operands)) _ room (subst (λ r. Applies r room) whole a) in
    let kinds = given_some (value_kinds values) _ room there.1 in
    let suits = needed_true (items_suit items kinds.0) _ room kinds.2 in
    let offers = texted d (text_of items values) f lower left in (
      offers.0,
      whole
          ∙ (ap (λ b. needed b (given (value_kinds values) (λ kinds. needed (items_suit items kinds) (put_text d (text_of items values) f lower left)))) there.0
          ∙ (ap (λ k. given k (λ kinds. needed (items_suit items kinds) (put_text d (text_of items values) f lower left))) kinds.1
          ∙ (ap (λ b. needed b (put_text d (text_of items values) f lower left)) suits.0 ∙ offers.1))),
    )
  where
    texted : (d : ℕ) (text : Option (List ℕ)) (f : Frame) (lower : List Frame) (left : List Cell) → (go : Answer → List Frame) × (put_text d text f lower left ≡ Offers (text_offered d text) go)
    texted d None f lower left = (_, refl)
    texted d (Some text) f lower left = (_, refl)

-- one operand in a row
pub one_operand : (xs : List Cell) (n : ℕ) (x : Cell) → n ≡ 1 → slice_get xs 0 ≡ Some x → x ∷ [] ≡ reverse (take n xs)
one_operand [] n x one e = cc
one_operand (y ∷ xs) n x one e = ap (λ z. z ∷ []) (sym (same_Some y x e)) ∙ ap (λ k. reverse (take k (y ∷ xs))) (sym one)

-- what the operands make, where these are the items
pub texts_are : (items : Option (List Item)) (all : List Item) (xs : List Cell) → items ≡ Some all → MakesText items xs → MakesText (Some all) xs
texts_are items all xs e h = subst (λ i. MakesText i xs) e h
