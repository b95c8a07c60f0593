-- Items over the kinds that are left, and lists of bounds.
use Rattle.std.proofs.Common.{◌≡◌, ℕ, zero, suc, ◌+◌, ◌*◌, ◌<◌, ◌≤◌, List, [], ◌∷◌, Option, Some, None, length, drop, get_or, refl, sym, ap, ◌∙◌, arith, Bool, true, false, eq-eqb}
use Rattle.std.specs.Prelude.{◌&&◌, ◌==◌, ◌++◌, nat_le, option_map, if◌then◌else◌}
use Rattle.std.proofs.lemmas.Bool.{lt-leb, le-leb}
use Rattle.std.proofs.Common.{ne_eqb}
use Rattle.std.proofs.Math.Dec.{eqb-suc-suc}
use Rattle.std.proofs.Math.Nat.{mul_assoc, le-mul_of_pos_right}
use Rattle.std.proofs.Math.ListN.{drop_of_length-le}
use Rattle.std.proofs.lemmas.List.{drop_more}
use Rattle.std.proofs.lemmas.Option.{same_Some}
use Rattle.pearl_value.specs.declared.kind.Kind.{Kind}
use Rattle.pearl_value.specs.declared.kind.CellKind.{CellKind}
use Rattle.pearl_value.specs.declared.kind.CellKind.TheVariants.{Plain, RefTo}
use Rattle.pearl_format.specs.declared.item.Item.{Item}
use Rattle.pearl_format.specs.declared.item.ItemCode.{ItemCode}
use Rattle.pearl_format.specs.declared.item.ItemCode.TheVariants as code
use Rattle.pearl_format.specs.Items.{data_here, width_over, text_width}
use Rattle.pearl_instructions.specs.Offers.{item_suits, items_suit}
use Rattle.pearl_verify.specs.declared.formats.FormatRow.{FormatRow}
use Rattle.pearl_verify.specs.Formats.{blank_here, blank_width, takes_value, value_items, format_row, row_fits}
use Rattle.pearl_instructions.specs.Valid.{plain_kinds, suits_format, extent, elements}
use Rattle.pearl_instructions.specs.declared.instr.Bounds.{Bounds}

and_false : (b : Bool) → b && false ≡ false
and_false true = refl
and_false false = refl

-- one item of a format's row further: n items are behind, with so many kinds and so much width
pub record Further (row : FormatRow) (kinds : List Kind) (n at width : ℕ) : Type 0 where
  pub within : at ≤ length kinds
  pub small : width ≤ 1024
  pub suits : items_suit row.values kinds ≡ items_suit (drop n row.values) (drop at kinds)
  pub wide : row.blank + text_width row.values kinds ≡ width + text_width (drop n row.values) (drop at kinds)

suits_none : (kinds : List Kind) (at : ℕ) → at ≤ length kinds → items_suit [] (drop at kinds) ≡ (at == length kinds)
suits_none [] zero h = sym (eq-eqb 0 0 refl)
suits_none [] (suc at) h = absurd (omega (arith, h))
suits_none (k ∷ kinds) zero h = sym (ne_eqb 0 (suc (length kinds)) (λ e. omega (arith, e)))
suits_none (k ∷ kinds) (suc at) h = suits_none kinds at (omega (arith, h)) ∙ sym (suc_same at (length kinds))
  where
    suc_same : (a b : ℕ) → (suc a == suc b) ≡ (a == b)
    suc_same a b = eqb-suc-suc a b

pub at_end : (row : FormatRow) (kinds : List Kind) (n at width : ℕ) → Further row kinds n at width → length row.values ≤ n → (at == length kinds) ≡ row_fits row kinds
at_end row kinds n at width h less =
    let none : drop n row.values ≡ [] = drop_of_length-le row.values less in
    let suits : items_suit row.values kinds ≡ (at == length kinds) = h.suits ∙ ap (λ is. items_suit is (drop at kinds)) none ∙ suits_none kinds at h.within in
    let wide : row.blank + text_width row.values kinds ≡ width + 0 = h.wide ∙ ap (λ is. width + text_width is (drop at kinds)) none in
    let small : row.blank + text_width row.values kinds ≤ 1024 = omega (arith, wide, h.small) in
    sym (ap (λ b. b && nat_le (row.blank + text_width row.values kinds) 1024) suits
    ∙ ap (λ b. (at == length kinds) && b) (le-leb (row.blank + text_width row.values kinds) 1024 small) ∙ and_more (at == length kinds))
  where
    and_more : (b : Bool) → b && true ≡ b
    and_more true = refl
    and_more false = refl

-- a row suits the kinds that its format suits
suits_values : (items : List Item) (kinds : List Kind) → items_suit items kinds ≡ items_suit (value_items items) kinds
suits_values [] kinds = refl
suits_values (item ∷ items) kinds = by item.code item.width (suits_values items)
  where
    by : (code : ItemCode) (width : ℕ) → ((kinds : List Kind) → items_suit items kinds ≡ items_suit (value_items items) kinds) →
        item_suits code kinds && items_suit items (drop (data_here code) kinds)
        ≡ items_suit ((if takes_value code then record { code = code; width = width } ∷ [] else []) ++ value_items items) kinds
    by code.X width rest = rest kinds
    by code.Skip width rest = rest kinds
    by code.A width rest = ap (λ b. item_suits code.A kinds && b) (rest (drop 1 kinds))
    by code.B1 width rest = ap (λ b. item_suits code.B1 kinds && b) (rest (drop 1 kinds))
    by code.B2 width rest = ap (λ b. item_suits code.B2 kinds && b) (rest (drop 1 kinds))
    by code.B3 width rest = ap (λ b. item_suits code.B3 kinds && b) (rest (drop 1 kinds))
    by code.B4 width rest = ap (λ b. item_suits code.B4 kinds && b) (rest (drop 1 kinds))
    by code.F width rest = ap (λ b. item_suits code.F kinds && b) (rest (drop 1 kinds))
    by code.T width rest = ap (λ b. item_suits code.T kinds && b) (rest (drop 1 kinds))
    by code.D width rest = ap (λ b. item_suits code.D kinds && b) (rest (drop 1 kinds))

swap : (a b c : ℕ) → a + (b + c) ≡ b + (a + c)
swap a b c = omega arith

wide_values : (items : List Item) (kinds : List Kind) → text_width items kinds ≡ blank_width items + text_width (value_items items) kinds
wide_values [] kinds = refl
wide_values (item ∷ items) kinds = by item.code item.width (wide_values items)
  where
    by : (code : ItemCode) (width : ℕ) → ((kinds : List Kind) → text_width items kinds ≡ blank_width items + text_width (value_items items) kinds) →
        width_over code width kinds + text_width items (drop (data_here code) kinds)
        ≡ blank_here code width + blank_width items + text_width ((if takes_value code then record { code = code; width = width } ∷ [] else []) ++ value_items items) kinds
    by code.X width rest = let e = rest kinds in omega (arith, e)
    by code.Skip width rest = let e = rest kinds in omega (arith, e)
    by code.A width rest = let e = rest (drop 1 kinds) in omega (arith, e)
    by code.B1 width rest = let e = rest (drop 1 kinds) in omega (arith, e)
    by code.B2 width rest = let e = rest (drop 1 kinds) in omega (arith, e)
    by code.B3 width rest = let e = rest (drop 1 kinds) in omega (arith, e)
    by code.B4 width rest = let e = rest (drop 1 kinds) in omega (arith, e)
    by code.F width rest = let e = rest (drop 1 kinds) in omega (arith, e)
    by code.T width rest = let e = rest (drop 1 kinds) in omega (arith, e)
    by code.D width rest = let e = rest (drop 1 kinds) in omega (arith, e)

-- the row's answer is the format's, where there are few kinds
pub fits_few : (row : FormatRow) (items : List Item) (kinds : List Kind) → row ≡ format_row items → length kinds ≤ 64 → row_fits row kinds ≡ suits_format items (Some kinds)
fits_few row items kinds is few =
    let whole : row_fits row kinds ≡ items_suit items kinds && nat_le (text_width items kinds) 1024 =
    ap (λ r. row_fits r kinds) is ∙ ap (λ b. b && nat_le (blank_width items + text_width (value_items items) kinds) 1024) (sym (suits_values items kinds))
    ∙ ap (λ w. items_suit items kinds && nat_le w 1024) (sym (wide_values items kinds)) in
    whole ∙ sym (ap (λ b. (items_suit items kinds && b) && nat_le (text_width items kinds) 1024) (le-leb (length kinds) 64 few)
    ∙ ap (λ b. b && nat_le (text_width items kinds) 1024) (and_on (items_suit items kinds)))
  where
    and_on : (b : Bool) → b && true ≡ b
    and_on true = refl
    and_on false = refl

-- bounds
extent_some : (b : Bounds) → 0 < extent b
extent_some b = omega arith

pub elements_some : (bounds : List Bounds) → 0 < elements bounds
elements_some [] = omega arith
elements_some (b ∷ bounds) =
    let least : extent b ≤ extent b * elements bounds = le-mul_of_pos_right (extent b) (elements_some bounds) in
    let some = extent_some b in
    omega (arith, least, some)

pub too_many : (bounds rest : List Bounds) (size : ℕ) → elements bounds ≡ size * elements rest → 65536 < size → false ≡ nat_le (elements bounds) 65536
too_many bounds rest size h more =
    let some = elements_some rest in
    let enough : size ≤ size * elements rest = le-mul_of_pos_right size some in
    sym (lt-leb (elements bounds) 65536 (omega (arith, h, enough, more)))

-- kinds of which none is a reference
mapped_long : (of : Kind) (cells : List CellKind) (o : Option (List Kind)) (kinds : List Kind) → plain_kinds cells ≡ o →
    ((kinds : List Kind) → plain_kinds cells ≡ Some kinds → length kinds ≡ length cells) → option_map (λ kinds. of ∷ kinds) o ≡ Some kinds → length kinds ≡ suc (length cells)
mapped_long of cells None kinds is long e = cc
mapped_long of cells (Some rest) kinds is long e =
    let same : of ∷ rest ≡ kinds = same_Some (of ∷ rest) kinds e in
    ap length (sym same) ∙ ap suc (long rest is)

pub plain_long : (cells : List CellKind) (kinds : List Kind) → plain_kinds cells ≡ Some kinds → length kinds ≡ length cells
plain_long [] kinds e = let same : [] ≡ kinds = same_Some [] kinds e in ap length (sym same)
plain_long (Plain of ∷ cells) kinds e = mapped_long of cells (plain_kinds cells) kinds refl (plain_long cells) e
plain_long (RefTo of ∷ cells) kinds e = cc

refused : (items : List Item) (cells : List CellKind) (o : Option (List Kind)) → 64 < length cells → plain_kinds cells ≡ o → false ≡ suits_format items o
refused items cells None more e = refl
refused items cells (Some kinds) more e =
    let long = plain_long cells kinds e in
    let a : nat_le (length kinds) 64 ≡ false = lt-leb (length kinds) 64 (omega (arith, long, more)) in
    sym (ap (λ b. (items_suit items kinds && b) && nat_le (text_width items kinds) 1024) a
    ∙ ap (λ b. b && nat_le (text_width items kinds) 1024) (and_false (items_suit items kinds)))

pub long_refused : (items : List Item) (cells : List CellKind) → 64 < length cells → false ≡ suits_format items (plain_kinds cells)
long_refused items cells more = refused items cells (plain_kinds cells) more refl

pub too_many_at : (bounds : List Bounds) (n size wide : ℕ) (d : Bounds) → n < length bounds → elements bounds ≡ size * elements (drop n bounds) →
    wide ≡ extent (get_or bounds n d) → 65536 < size * wide → false ≡ nat_le (elements bounds) 65536
too_many_at bounds n size wide d less e is more =
    let a : drop n bounds ≡ get_or bounds n d ∷ drop (n + 1) bounds = drop_more bounds n d less in
    let all : elements bounds ≡ size * wide * elements (drop (n + 1) bounds) =
    e ∙ ap (λ bs. size * elements bs) a ∙ ap (λ w. size * (w * elements (drop (n + 1) bounds))) (sym is) ∙ sym (mul_assoc size wide (elements (drop (n + 1) bounds))) in
    too_many bounds (drop (n + 1) bounds) (size * wide) all more

pub row_is : (row : FormatRow) (items : List Item) (cells : List CellKind) (kinds : List Kind) → row ≡ format_row items → plain_kinds cells ≡ Some kinds → length cells ≤ 64 →
    row_fits row kinds ≡ suits_format items (plain_kinds cells)
row_is row items cells kinds is e few =
    let long = plain_long cells kinds e in
    fits_few row items kinds is (omega (arith, long, few)) ∙ ap (suits_format items) (sym e)
