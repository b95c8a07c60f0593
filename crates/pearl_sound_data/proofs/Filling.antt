-- The slots of variables hold at first what INIT puts into them, and where S7 isn't broken these are the constants' own values.
use Rattle.std.specs.Prelude.{◌≡◌, ℕ, zero, suc, ◌-◌, ℤ, min, Bool, true, false, not, if◌then◌else◌, List, [], ◌∷◌, ◌++◌, length, map, take, drop, replicate, Option, Some, None, Ok}
use Rattle.std.specs.List.{AllByRecursion, flat_map, list_all}
use Rattle.std.proofs.Common.{refl, ap, ◌∙◌, sym, subst, arith, true≢false}
use Rattle.std.proofs.Math.Seq.{take-nil, drop-nil}
use Rattle.std.proofs.lemmas.List.{length-replicate}
use Rattle.std.proofs.lemmas.List.Concat.{flat_map-append}
use Rattle.std.proofs.lemmas.Option.{none-some}
use Rattle.pearl_value.specs.declared.kind.Kind.{Kind}
use Rattle.pearl_value.specs.declared.cell.Cell.{Cell}
use Rattle.pearl_value.specs.Blanks.{blank_of, last_or}
use Rattle.pearl_tree.specs.declared.rule.TheConstants as rule
use Rattle.pearl_tree.specs.declared.literal.Sign.{Sign}
use Rattle.pearl_tree.specs.declared.literal.Sign.TheVariants.{Plus, Minus}
use Rattle.pearl_tree.specs.Names.{name_text, names_of}
use Rattle.pearl_tree.specs.ShownLiterals.{ShownLiteral, OfNumber, OfBits, OfText, OfClock, OfDuration, ShownConst}
use Rattle.pearl_tree.specs.ShownDeclarations.{ShownItem}
use Rattle.pearl_tree.specs.declared.name.Name.{Name}
use Rattle.pearl_names.specs.declared.scope.View.TheVariants.{Within}
use Rattle.pearl_names.specs.Known.{Known, around}
use Rattle.pearl_names.specs.Layout.{Leaf, elements, leaf_slots, slots_of, leaves_of, leaves_within, is_sound_leaf, item_leaves}
use Rattle.pearl_names.specs.Shapes.{Shape, shape_of, sound_bounds}
use Rattle.pearl_names.specs.Tables.{Form, sound_form, form_of, leaves_in}
use Rattle.pearl_scope.specs.Constants.{fits_kind, is_empty, misses, missing_slots, wrong_signs}
use Rattle.pearl_scope.specs.Laws as law
use Rattle.pearl_scope.specs.Laws.{Becomes}
use Rattle.pearl_scope.specs.Parts.{Item}
use Rattle.pearl_scope.specs.Rules.{slots_of_names, missing_of, s7}
use Rattle.pearl_scope.proofs.Offered.{fits_where_put}
use Rattle.pearl_program.specs.PlainPrograms.{PlainLeaf}
use Rattle.pearl_program.specs.FirstCells.{first_cells}
use Rattle.pearl_resolve_tables.specs.Laying.{value_of, or_blank, constant_in, values_of_leaf, slots, left_behind, filled_leaves}
use Rattle.pearl_resolve_tables.proofs.Offered.{slot_count}
use Rattle.pearl_sound_data.specs.Constants.{IsConstant}
use Rattle.pearl_resolve.specs.Expressions.{Numbered, meant}
use Rattle.pearl_resolve.specs.Statements.{slots_of_meant}
use Rattle.pearl_resolve.specs.Resolve.{variable_leaves, names_leaves}
use Rattle.pearl_sound_data.specs.Laws.{HasLeaves}
use Rattle.pearl_sound_data.specs.Filling.{filled, IsPut, ArePut}
use Rattle.pearl_sound_data.proofs.Faults.{right_none, no_fault, neither, both, really}

-- what is left behind some slots
left_none : (n : ℕ) → left_behind n [] ≡ []
left_none n = drop-nil (min n (0 - 1))

left_last : (n : ℕ) (last : ShownConst) → left_behind n (last ∷ []) ≡ last ∷ []
left_last n last = let none : min n (1 - 1) ≡ 0 = omega arith in ap (λ k. drop k (last ∷ [])) none

left_more : (n : ℕ) (constant next : ShownConst) (rest : List ShownConst) →
    left_behind (suc n) (constant ∷ next ∷ rest) ≡ left_behind n (next ∷ rest)
left_more n constant next rest =
    let same : min (suc n) (suc (suc (length rest)) - 1) ≡ suc (min n (suc (length rest) - 1)) = omega arith in
    ap (λ k. drop k (constant ∷ next ∷ rest)) same

left_all : (constants : List ShownConst) → left_behind 0 constants ≡ constants
left_all constants = let none : min 0 (length constants - 1) ≡ 0 = omega arith in ap (λ k. drop k constants) none

pub slots_go_on : (slots more : List Kind) (constants : List ShownConst) →
    filled (slots ++ more) constants ≡ filled slots constants ++ filled more (left_behind (length slots) constants)
slots_go_on [] more constants = ap (filled more) (sym (left_all constants))
slots_go_on (kind ∷ slots) more [] =
    ap (λ cells. blank_of kind ∷ cells) (slots_go_on slots more [] ∙ ap (λ left. filled slots [] ++ filled more left) (left_none (length slots) ∙ sym (left_none (suc (length slots)))))
slots_go_on (kind ∷ slots) more (last ∷ []) =
    ap (λ cells. constant_in kind last ∷ cells)
    (slots_go_on slots more (last ∷ []) ∙
    ap (λ left. filled slots (last ∷ []) ++ filled more left) (left_last (length slots) last ∙ sym (left_last (suc (length slots)) last)))
slots_go_on (kind ∷ slots) more (constant ∷ next ∷ rest) =
    ap (λ cells. constant_in kind constant ∷ cells)
    (slots_go_on slots more (next ∷ rest) ∙
    ap (λ left. filled slots (next ∷ rest) ++ filled more left) (sym (left_more (length slots) constant next rest)))

-- so many slots of one kind, where this cell stands in those behind the constants
abbrev run : Kind → Cell → ℕ → List ShownConst → List Cell
run kind last n constants =
    map (constant_in kind) (take n constants) ++
    replicate (n - length (map (constant_in kind) (take n constants))) (last_or last (map (constant_in kind) (take n constants)))

run_none : (kind : Kind) (last : Cell) (n : ℕ) → run kind last n [] ≡ replicate n last
run_none kind last n =
    let all : n - 0 ≡ n = omega arith in
    ap (λ constants. map (constant_in kind) constants ++ replicate (n - length (map (constant_in kind) constants)) (last_or last (map (constant_in kind) constants))) (take-nil n) ∙
    ap (λ k. replicate k last) all

run_more : (kind : Kind) (last : Cell) (n : ℕ) (constant : ShownConst) (rest : List ShownConst) →
    run kind last (suc n) (constant ∷ rest) ≡ constant_in kind constant ∷ run kind (constant_in kind constant) n rest
run_more kind last n constant rest =
    let cells = map (constant_in kind) (take n rest) in
    let left : suc n - suc (length cells) ≡ n - length cells = omega arith in
    ap (λ k. constant_in kind constant ∷ cells ++ replicate k (last_or (constant_in kind constant) cells)) left

run_last : (kind : Kind) (n : ℕ) (last : ShownConst) → filled (replicate n kind) (last ∷ []) ≡ replicate n (constant_in kind last)
run_last kind zero last = refl
run_last kind (suc n) last = ap (λ cells. constant_in kind last ∷ cells) (run_last kind n last)

run_blank : (kind : Kind) (n : ℕ) → filled (replicate n kind) [] ≡ replicate n (blank_of kind)
run_blank kind zero = refl
run_blank kind (suc n) = ap (λ cells. blank_of kind ∷ cells) (run_blank kind n)

run_is : (kind : Kind) (last : Cell) (n : ℕ) (constant : ShownConst) (rest : List ShownConst) →
    run kind last n (constant ∷ rest) ≡ filled (replicate n kind) (constant ∷ rest)
run_is kind last zero constant rest = refl
run_is kind last (suc n) constant [] =
    run_more kind last n constant [] ∙
    ap (λ cells. constant_in kind constant ∷ cells) (run_none kind (constant_in kind constant) n ∙ sym (run_last kind n constant))
run_is kind last (suc n) constant (next ∷ rest) =
    run_more kind last n constant (next ∷ rest) ∙
    ap (λ cells. constant_in kind constant ∷ cells) (run_is kind (constant_in kind constant) n next rest)

pub leaf_filled : (constants : List ShownConst) (leaf : Leaf) → first_cells (values_of_leaf constants leaf) ≡ filled (leaf_slots leaf) constants
leaf_filled [] leaf = run_none leaf.kind (blank_of leaf.kind) (elements leaf.bounds) ∙ sym (run_blank leaf.kind (elements leaf.bounds))
leaf_filled (constant ∷ rest) leaf = run_is leaf.kind (blank_of leaf.kind) (elements leaf.bounds) constant rest

pub init_fills : (name : List ℕ) (constants : List ShownConst) (leaves : List Leaf) →
    flat_map (λ (leaf : PlainLeaf). first_cells leaf.values) (filled_leaves name constants leaves) ≡ filled (slots_of leaves) constants
init_fills name constants [] = refl
init_fills name constants (leaf ∷ rest) =
    let behind = left_behind (elements leaf.bounds) constants in
    (λ i. leaf_filled constants leaf i ++ init_fills name behind rest i) ∙
    ap (λ n. filled (leaf_slots leaf) constants ++ filled (slots_of rest) (left_behind n constants)) (sym (length-replicate (elements leaf.bounds) leaf.kind)) ∙
    sym (slots_go_on (leaf_slots leaf) (slots_of rest) constants)

cells_append : (one two : List PlainLeaf) → flat_map (λ (leaf : PlainLeaf). first_cells leaf.values) (one ++ two) ≡
    flat_map (λ (leaf : PlainLeaf). first_cells leaf.values) one ++ flat_map (λ (leaf : PlainLeaf). first_cells leaf.values) two
cells_append one two = flat_map-append (λ (leaf : PlainLeaf). first_cells leaf.values) one two

pub names_fill : (numbered : Numbered) (constants : List ShownConst) (names : List Name) (leaves : List Leaf) →
    AllByRecursion (HasLeaves numbered 0 leaves) names →
    flat_map (λ (leaf : PlainLeaf). first_cells leaf.values) (names_leaves numbered constants names) ≡ filled (slots_of_names names leaves) constants
names_fill numbered constants [] leaves all = refl
names_fill numbered constants (name ∷ rest) leaves all =
    let found = meant numbered (Within 0) name in
    let behind = left_behind (slots_of_meant found) constants in
    let means = all.0.1 in
    let same : variable_leaves name constants found ≡ filled_leaves (name_text name) constants leaves =
    ap (variable_leaves name constants) means ∙ ap (filled_leaves (name_text name) constants) all.0.2 in
    let count : slots_of_meant found ≡ length (slots_of leaves) = ap slots_of_meant means ∙ ap slots all.0.2 ∙ sym (slot_count leaves) in
    cells_append (variable_leaves name constants found) (names_leaves numbered behind rest) ∙
    (λ i. flat_map (λ (leaf : PlainLeaf). first_cells leaf.values) (same i) ++ names_fill numbered behind rest leaves all.1 i) ∙
    (λ i. init_fills (name_text name) constants leaves i ++ filled (slots_of_names rest leaves) (left_behind (count i) constants)) ∙
    sym (slots_go_on (slots_of leaves) (slots_of_names rest leaves) constants)

-- where a constant fits, it is put
same_value : (constant : ShownConst) → law.value_of 63 constant ≡ value_of constant
same_value constant = by constant.sign constant.literal
  where
    by : (sign : Option Sign) (literal : ShownLiteral) →
        law.value_of 63 (record { sign = sign; literal = literal; place = constant.place }) ≡
        value_of (record { sign = sign; literal = literal; place = constant.place })
    by (Some Minus) (OfNumber number) = refl
    by (Some Plus) (OfNumber number) = refl
    by None (OfNumber number) = refl
    by sign (OfBits len value place) = refl
    by sign (OfText text place) = refl
    by sign (OfClock milliseconds place) = refl
    by (Some Minus) (OfDuration duration) = refl
    by (Some Plus) (OfDuration duration) = refl
    by None (OfDuration duration) = refl

fit_put : (constant : ShownConst) (kind : Kind) → IsConstant constant → fits_kind constant kind ≡ true → IsPut constant kind
fit_put constant kind is fits =
    let put = (fits_where_put constant 63 kind is.valued).0 fits in
    let becomes = subst (λ x. Becomes x kind put.0) (same_value constant) put.1 in
    let own : constant_in kind constant ≡ put.0 = ap (or_blank kind) becomes.is in
    record { suits = becomes.suits; is = becomes.is ∙ ap Ok (sym own) }

fit_all : (constant : ShownConst) → IsConstant constant → (kinds : List Kind) → list_all (fits_kind constant) kinds ≡ true →
    AllByRecursion (IsPut constant) kinds
fit_all constant is [] fits = tt
fit_all constant is (kind ∷ kinds) fits =
    let tests = both (fits_kind constant kind) (list_all (fits_kind constant) kinds) fits in
    (fit_put constant kind is tests.0, fit_all constant is kinds tests.1)

-- it doesn't miss its slots
all_fit : (constant : ShownConst) (kinds : List Kind) → misses constant kinds ≡ false → list_all (fits_kind constant) kinds ≡ true
all_fit constant kinds hits =
    really (list_all (fits_kind constant) kinds) (neither (is_empty kinds) (not (list_all (fits_kind constant) kinds)) hits).1

pub constants_put : (kinds : List Kind) (constants : List ShownConst) → AllByRecursion IsConstant constants →
    missing_slots kinds constants ≡ [] → ArePut kinds constants
constants_put kinds [] all none = tt
constants_put [] (last ∷ []) all none =
    absurd (true≢false (no_fault (misses last []) last.place rule.S7 [] none).0)
constants_put [] (constant ∷ next ∷ rest) all none =
    absurd (true≢false (no_fault (misses constant []) constant.place rule.S7 (missing_slots [] (next ∷ rest)) none).0)
constants_put (kind ∷ kinds) (last ∷ []) all none =
    fit_all last all.0 (kind ∷ kinds) (all_fit last (kind ∷ kinds) (no_fault (misses last (kind ∷ kinds)) last.place rule.S7 [] none).0)
constants_put (kind ∷ kinds) (constant ∷ next ∷ rest) all none =
    let parts = no_fault (misses constant (kind ∷ [])) constant.place rule.S7 (missing_slots kinds (next ∷ rest)) none in
    ((fit_all constant all.0 (kind ∷ []) (all_fit constant (kind ∷ []) parts.0)).0, constants_put kinds (next ∷ rest) all.1 parts.1)

-- of an item whose variables have a form
pub item_put : (known : Known) (scope types : ℕ) (item : ShownItem) (form : Form) → s7 known (Item scope types item) ≡ [] →
    AllByRecursion IsConstant item.init → form_of (around known scope types) item ≡ Some form →
    ArePut (slots_of_names (names_of item.names) (leaves_in (Some form))) item.init
item_put known scope types item form none all formed =
    by (sound_bounds item.bounds) (shape_of (around known scope types) item.part)
    (right_none (wrong_signs item.init) (missing_of (names_of item.names) item.init (item_leaves (around known scope types) item)) none) formed
  where
    sound : (bounds : List (ℤ × ℤ)) (shape : Shape) (test : Bool) → list_all is_sound_leaf (leaves_of [] bounds shape) ≡ test →
        missing_of (names_of item.names) item.init (Some (leaves_of [] bounds shape)) ≡ [] →
        (if test then Some (record { bounds = bounds; shape = shape }) else None) ≡ Some form →
        ArePut (slots_of_names (names_of item.names) (leaves_in (Some form))) item.init
    sound bounds shape true e none formed =
        let same : record { bounds = bounds; shape = shape } ≡ form = cc in
        subst (λ (form : Form). ArePut (slots_of_names (names_of item.names) (leaves_in (Some form))) item.init) same
        (constants_put (slots_of_names (names_of item.names) (leaves_of [] bounds shape)) item.init all (rw e at none))
    sound bounds shape false e none formed = absurd (none-some form formed)

    by : (bounds : Option (List (ℤ × ℤ))) (shape : Option Shape) → missing_of (names_of item.names) item.init (leaves_within bounds shape) ≡ [] →
        sound_form bounds shape ≡ Some form → ArePut (slots_of_names (names_of item.names) (leaves_in (Some form))) item.init
    by None shape none formed = absurd (none-some form formed)
    by (Some bounds) None none formed = absurd (none-some form formed)
    by (Some bounds) (Some shape) none formed = sound bounds shape (list_all is_sound_leaf (leaves_of [] bounds shape)) refl none formed
