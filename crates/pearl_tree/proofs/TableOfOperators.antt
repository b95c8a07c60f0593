-- The table of operators has the rows of the definition and no others.
use Rattle.std.proofs.Common.{◌≡◌, ◌<◌, ℕ, ◌+◌, Bool, true, false, ◌&&◌, ◌||◌, eqb, nat_le, if◌then◌else◌, List, [], ◌∷◌, ◌++◌, Option, Some, None, is_some, IsSome, ◌⊎◌, inl, inr, refl, sym, subst, ap, ◌∙◌, arith, lit<}
use Rattle.std.specs.List.{All, Any, Contains, flat_map, list_any, list_all}
use Rattle.std.proofs.lemmas.Bool.{eqb-true, eq-eqb, false≢true}
use Rattle.std.proofs.lemmas.Bool.Decides.{nat_tests}
use Rattle.std.proofs.lemmas.List.Elements.{All-nil, All-cons, All-append, All-contains}
use Rattle.std.proofs.lemmas.List.Folds.{Any-from_list_any, list_any_at}
use Rattle.pearl_value.specs.declared.kind.Kind.{Kind}
use Rattle.pearl_value.specs.declared.kind.Kind.TheVariants.{Fixed, Bits, Chars, Clock, Span}
use Rattle.pearl_value.specs.declared.operator.Monad.{Monad}
use Rattle.pearl_value.specs.declared.operator.Monad.TheVariants.{Plus, Minus, Abs, Sign, Not}
use Rattle.pearl_value.specs.declared.operator.Dyad.{Dyad}
use Rattle.pearl_value.specs.declared.operator.Dyad.TheVariants.{Pow, Mul, Div, Rem, Cat, Add, Sub, Cshift, Shift, Lt, Gt, Le, Ge, Eq, Ne, And, Or, Exor}
use Rattle.pearl_value.specs.Rows.{row1, row2}
use Rattle.pearl_tree.specs.declared.operator.OpRow.{OpRow}
use Rattle.pearl_tree.specs.declared.operator.TheConstants.{OPS}
use Rattle.pearl_tree.specs.declared.family.TheConstants.{ABSENT}
use Rattle.pearl_tree.specs.Operators.{family_of, monad_code, dyad_code, monadic_row, dyadic_row, IsMonadicRow, IsDyadicRow, IsRow, IsTooLong, HasKey}
use Rattle.pearl_tree.specs.TableLaws.{AreTheOperators, HaveTheKinds, HaveBothKinds}
use Rattle.pearl_tree.proofs.Rising.{and_front, and_back}
use Rattle.pearl_tree.proofs.TableOfWords.{list_all-Contains}

-- a kind of each family, of this length where it has one
abbrev kinds : ℕ → List Kind
kinds len = Fixed len ∷ Bits len ∷ Chars len ∷ Clock ∷ Span ∷ []

abbrev monads : List Monad
monads = Plus ∷ Minus ∷ Abs ∷ Sign ∷ Not ∷ []

abbrev dyads : List Dyad
dyads = Pow ∷ Mul ∷ Div ∷ Rem ∷ Cat ∷ Add ∷ Sub ∷ Cshift ∷ Shift ∷ Lt ∷ Gt ∷ Le ∷ Ge ∷ Eq ∷ Ne ∷ And ∷ Or ∷ Exor ∷ []

-- each row of the table is one of the definition

-- one row where there is a result
abbrev row_list : Option Kind → (Kind → OpRow) → List OpRow
row_list None row = []
row_list (Some result) row = row result ∷ []

abbrev monadic_rows : Monad → List OpRow
monadic_rows op = flat_map (λ right. row_list (row1 op right) (monadic_row op right)) (kinds 1)

abbrev dyadic_rows : Dyad → List OpRow
dyadic_rows op = flat_map (λ left. flat_map (λ right. row_list (row2 op left right) (dyadic_row op left right)) (kinds 1)) (kinds 1)

-- the rows for kinds of length 1
abbrev all_rows : List OpRow
all_rows = flat_map monadic_rows monads ++ flat_map dyadic_rows dyads

same_rows : OPS ≡ all_rows
same_rows = refl

All-row_list : (P : OpRow → Type 0) (result : Option Kind) (row : Kind → OpRow) → ((x : Kind) → result ≡ Some x → P (row x)) → All P (row_list result row)
All-row_list P None row each = All-nil P
All-row_list P (Some x) row each = All-cons P (row x) [] (each x refl) (All-nil P)

All-flat_map : {X : Type 0} (P : OpRow → Type 0) (f : X → List OpRow) (xs : List X) → ((x : X) → All P (f x)) → All P (flat_map f xs)
All-flat_map P f [] each = All-nil P
All-flat_map P f (x ∷ xs) each = All-append P (f x) (flat_map f xs) (each x) (All-flat_map P f xs each)

monadic_are_rows : (op : Monad) → All IsRow (monadic_rows op)
monadic_are_rows op = All-flat_map IsRow _ (kinds 1) (λ right. All-row_list IsRow (row1 op right) (monadic_row op right) (λ result takes.
    inl (record { op = op; right = right; result = result; takes = takes; written = refl })))

dyadic_are_rows : (op : Dyad) → All IsRow (dyadic_rows op)
dyadic_are_rows op = All-flat_map IsRow _ (kinds 1) (λ left. All-flat_map IsRow _ (kinds 1) (λ right. All-row_list IsRow (row2 op left right) (dyadic_row op left right) (λ result takes.
    inr (record { op = op; left = left; right = right; result = result; takes = takes; written = refl }))))

all_are_rows : All IsRow all_rows
all_are_rows = All-append IsRow (flat_map monadic_rows monads) (flat_map dyadic_rows dyads)
    (All-flat_map IsRow monadic_rows monads monadic_are_rows) (All-flat_map IsRow dyadic_rows dyads dyadic_are_rows)

-- the table agrees with what the operators give for kinds of any length

abbrev row_eq : OpRow → OpRow → Bool
row_eq a b = eqb a.code b.code && (eqb a.rank b.rank && (eqb a.left b.left && (eqb a.right b.right && eqb a.result b.result)))

abbrev has_row : OpRow → Bool
has_row row = list_any (λ other. row_eq other row) OPS

abbrev has_key : ℕ → ℕ → ℕ → Bool
has_key code left right = list_any (λ row. eqb row.code code && (eqb row.left left && eqb row.right right)) OPS

abbrev result_has_row : Option Kind → (Kind → OpRow) → Bool
result_has_row None row = true
result_has_row (Some result) row = has_row (row result)

abbrev is_too_long : Dyad → Kind → Kind → Bool
is_too_long Cat (Chars len) (Chars other) = if nat_le (len + other) 255 then false else true
is_too_long Cat (Bits len) (Bits other) = if nat_le (len + other) 64 then false else true
is_too_long _ _ _ = false

abbrev same : Bool → Bool → Bool
same true b = b
same false true = false
same false false = true

-- what the operator gives has its row, and the families have a row where the operator gives a kind or `long` says so
abbrev agrees : Option Kind → (Kind → OpRow) → Bool → Bool → Bool
agrees result row key long = result_has_row result row && same key (is_some result || long)

abbrev monad_agrees : Monad → Kind → Bool
monad_agrees op x = agrees (row1 op x) (monadic_row op x) (has_key (monad_code op) ABSENT (family_of x)) false

abbrev dyad_agrees : Dyad → Kind → Kind → Bool
dyad_agrees op x y = agrees (row2 op x y) (dyadic_row op x y) (has_key (dyad_code op) (family_of x) (family_of y)) (is_too_long op x y)

in_kinds : (x : Kind) → (len : ℕ) × Contains (kinds len) x
in_kinds (Fixed len) = (len, (0, lit< tt, refl))
in_kinds (Bits len) = (len, (1, lit< tt, refl))
in_kinds (Chars len) = (len, (2, lit< tt, refl))
in_kinds Clock = (0, (3, lit< tt, refl))
in_kinds Span = (0, (4, lit< tt, refl))

by_kind : (test : Kind → Bool) → ((len : ℕ) → list_all test (kinds len) ≡ true) → (x : Kind) → test x ≡ true
by_kind test each x = let at = in_kinds x in list_all-Contains test (kinds at.0) x (each at.0) at.1

-- the test holds of a kind of each family with this length, and another with that length
abbrev all_pairs : (Kind → Kind → Bool) → ℕ → ℕ → Bool
all_pairs test len other = list_all (λ x. list_all (test x) (kinds other)) (kinds len)

by_kinds : (test : Kind → Kind → Bool) → ((len other : ℕ) → all_pairs test len other ≡ true) → (x y : Kind) → test x y ≡ true
by_kinds test each x y =
    let at = in_kinds x in let to = in_kinds y in
    list_all-Contains (test x) (kinds to.0) y (list_all-Contains (λ x. list_all (test x) (kinds to.0)) (kinds at.0) x (each at.0 to.0) at.1) to.1

-- the same for CAT, with the two tests of lengths as parameters
abbrev joined : Bool → Bool → Kind → Kind → Option Kind
joined chars bits (Chars len) (Chars other) = if chars then Some (Chars (len + other)) else None
joined chars bits (Bits len) (Bits other) = if bits then Some (Bits (len + other)) else None
joined chars bits _ _ = None

abbrev joined_long : Bool → Bool → Kind → Kind → Bool
joined_long chars bits (Chars len) (Chars other) = if chars then false else true
joined_long chars bits (Bits len) (Bits other) = if bits then false else true
joined_long chars bits _ _ = false

abbrev cat_agrees : Bool → Bool → Kind → Kind → Bool
cat_agrees chars bits x y = agrees (joined chars bits x y) (dyadic_row Cat x y) (has_key (dyad_code Cat) (family_of x) (family_of y)) (joined_long chars bits x y)

cat_pairs : (chars bits : Bool) (len other : ℕ) → all_pairs (cat_agrees chars bits) len other ≡ true
cat_pairs true true len other = refl
cat_pairs true false len other = refl
cat_pairs false true len other = refl
cat_pairs false false len other = refl

monads_agree : (op : Monad) (x : Kind) → monad_agrees op x ≡ true
monads_agree Plus x = by_kind (monad_agrees Plus) (λ _. refl) x
monads_agree Minus x = by_kind (monad_agrees Minus) (λ _. refl) x
monads_agree Abs x = by_kind (monad_agrees Abs) (λ _. refl) x
monads_agree Sign x = by_kind (monad_agrees Sign) (λ _. refl) x
monads_agree Not x = by_kind (monad_agrees Not) (λ _. refl) x

dyads_agree : (op : Dyad) (x y : Kind) → dyad_agrees op x y ≡ true
dyads_agree Cat x y = by_kinds (dyad_agrees Cat) (λ len other. cat_pairs (nat_le (len + other) 255) (nat_le (len + other) 64) len other) x y
dyads_agree Pow x y = by_kinds (dyad_agrees Pow) (λ _ _. refl) x y
dyads_agree Mul x y = by_kinds (dyad_agrees Mul) (λ _ _. refl) x y
dyads_agree Div x y = by_kinds (dyad_agrees Div) (λ _ _. refl) x y
dyads_agree Rem x y = by_kinds (dyad_agrees Rem) (λ _ _. refl) x y
dyads_agree Add x y = by_kinds (dyad_agrees Add) (λ _ _. refl) x y
dyads_agree Sub x y = by_kinds (dyad_agrees Sub) (λ _ _. refl) x y
dyads_agree Cshift x y = by_kinds (dyad_agrees Cshift) (λ _ _. refl) x y
dyads_agree Shift x y = by_kinds (dyad_agrees Shift) (λ _ _. refl) x y
dyads_agree Lt x y = by_kinds (dyad_agrees Lt) (λ _ _. refl) x y
dyads_agree Gt x y = by_kinds (dyad_agrees Gt) (λ _ _. refl) x y
dyads_agree Le x y = by_kinds (dyad_agrees Le) (λ _ _. refl) x y
dyads_agree Ge x y = by_kinds (dyad_agrees Ge) (λ _ _. refl) x y
dyads_agree Eq x y = by_kinds (dyad_agrees Eq) (λ _ _. refl) x y
dyads_agree Ne x y = by_kinds (dyad_agrees Ne) (λ _ _. refl) x y
dyads_agree And x y = by_kinds (dyad_agrees And) (λ _ _. refl) x y
dyads_agree Or x y = by_kinds (dyad_agrees Or) (λ _ _. refl) x y
dyads_agree Exor x y = by_kinds (dyad_agrees Exor) (λ _ _. refl) x y

-- what the tests say

row_eq-same : (a b : OpRow) → row_eq a b ≡ true → a ≡ b
row_eq-same a b h =
    let h1 = and_back (eqb a.code b.code) _ h in
    let h2 = and_back (eqb a.rank b.rank) _ h1 in
    let h3 = and_back (eqb a.left b.left) _ h2 in
    let code = eqb-true a.code b.code (and_front (eqb a.code b.code) _ h) in
    let rank = eqb-true a.rank b.rank (and_front (eqb a.rank b.rank) _ h1) in
    let left = eqb-true a.left b.left (and_front (eqb a.left b.left) _ h2) in
    let right = eqb-true a.right b.right (and_front (eqb a.right b.right) _ h3) in
    let result = eqb-true a.result b.result (and_back (eqb a.right b.right) _ h3) in
    ap (λ n. record a { code = n }) code ∙ ap (λ n. record a { code = b.code; rank = n }) rank ∙ ap (λ n. record a { code = b.code; rank = b.rank; left = n }) left ∙
    ap (λ n. record { code = b.code; rank = b.rank; left = b.left; right = n; result = a.result }) right ∙
    ap (λ n. record { code = b.code; rank = b.rank; left = b.left; right = b.right; result = n }) result

in_table : (row : OpRow) → has_row row ≡ true → Contains OPS row
in_table row h =
    let found = Any-from_list_any (λ other. row_eq other row) OPS h in
    let P : OpRow → Type 0 = Contains OPS in
    subst P (row_eq-same found.1 row found.4) (found.0, found.2, found.3)

abbrev has_this_key : ℕ → ℕ → ℕ → OpRow → Bool
has_this_key code left right row = eqb row.code code && (eqb row.left left && eqb row.right right)

both : (a b : Bool) → a ≡ true → b ≡ true → a && b ≡ true
both true b e f = f
both false b e f = e

key_found : (code left right : ℕ) → has_key code left right ≡ true → Any (λ row. HasKey row code left right) OPS
key_found code left right h =
    let found = Any-from_list_any (has_this_key code left right) OPS h in
    let row = found.1 in
    let rest = and_back (eqb row.code code) (eqb row.left left && eqb row.right right) found.4 in (
      found.0,
      row,
      found.2,
      found.3,
      (
        eqb-true row.code code (and_front (eqb row.code code) (eqb row.left left && eqb row.right right) found.4),
        eqb-true row.left left (and_front (eqb row.left left) (eqb row.right right) rest),
        eqb-true row.right right (and_back (eqb row.left left) (eqb row.right right) rest),
      ),
    )

key_tested : (code left right : ℕ) → Any (λ row. HasKey row code left right) OPS → has_key code left right ≡ true
key_tested code left right (k, row, inside, at, key) = list_any_at (has_this_key code left right) OPS k row inside
    (ap (has_this_key code left right) at ∙ both (eqb row.code code) _ (eq-eqb row.code code key.0) (both (eqb row.left left) _ (eq-eqb row.left left key.1) (eq-eqb row.right right key.2)))

same-is : (a b : Bool) → same a b ≡ true → a ≡ b
same-is true b h = sym h
same-is false true h = absurd (false≢true h)
same-is false false h = refl

either : (a b : Bool) → a || b ≡ true → (a ≡ true) ⊎ (b ≡ true)
either true b h = inl refl
either false b h = inr h

or_left : (a b : Bool) → a ≡ true → a || b ≡ true
or_left a b e = ap (λ x. x || b) e

or_right : (a b : Bool) → b ≡ true → a || b ≡ true
or_right true b e = refl
or_right false b e = e

too_long : (n most : ℕ) → (if nat_le n most then false else true) ≡ true → most < n
too_long n most h = grind (arith, nat_tests)

is_too_long-is : (op : Dyad) (x y : Kind) → is_too_long op x y ≡ true → IsTooLong op x y
is_too_long-is Cat (Chars len) (Chars other) h = too_long (len + other) 255 h
is_too_long-is Cat (Bits len) (Bits other) h = too_long (len + other) 64 h
is_too_long-is _ _ _ h = absurd (false≢true h)

long_tested : (n most : ℕ) → most < n → (if nat_le n most then false else true) ≡ true
long_tested n most h = grind (arith, nat_tests)

is_too_long-tested : (op : Dyad) (x y : Kind) → IsTooLong op x y → is_too_long op x y ≡ true
is_too_long-tested Cat (Chars len) (Chars other) h = long_tested (len + other) 255 h
is_too_long-tested Cat (Bits len) (Bits other) h = long_tested (len + other) 64 h
is_too_long-tested _ _ _ h = absurd h

-- the laws

monad_key : (op : Monad) (x : Kind) → has_key (monad_code op) ABSENT (family_of x) ≡ (is_some (row1 op x) || false)
monad_key op x = same-is _ _ (and_back (result_has_row (row1 op x) (monadic_row op x)) _ (monads_agree op x))

dyad_key : (op : Dyad) (x y : Kind) → has_key (dyad_code op) (family_of x) (family_of y) ≡ (is_some (row2 op x y) || is_too_long op x y)
dyad_key op x y = same-is _ _ (and_back (result_has_row (row2 op x y) (dyadic_row op x y)) _ (dyads_agree op x y))

or_false : (a : Bool) → a || false ≡ true → a ≡ true
or_false true h = refl
or_false false h = h

pub ops_have_the_kinds : HaveTheKinds OPS
ops_have_the_kinds op x = (
  λ any. or_false _ (sym (monad_key op x) ∙ key_tested (monad_code op) ABSENT (family_of x) any),
  λ some. key_found (monad_code op) ABSENT (family_of x) (monad_key op x ∙ or_left _ false some),
)

takes_or_long : (op : Dyad) (x y : Kind) → (is_some (row2 op x y) || is_too_long op x y) ≡ true → IsSome (row2 op x y) ⊎ IsTooLong op x y
takes_or_long op x y h = elim (either (is_some (row2 op x y)) (is_too_long op x y) h) [
  | inl some ↦ inl some
  | inr long ↦ inr (is_too_long-is op x y long)
]

taken_or_long : (op : Dyad) (x y : Kind) → IsSome (row2 op x y) ⊎ IsTooLong op x y → (is_some (row2 op x y) || is_too_long op x y) ≡ true
taken_or_long op x y (inl some) = or_left _ _ some
taken_or_long op x y (inr long) = or_right (is_some (row2 op x y)) _ (is_too_long-tested op x y long)

pub ops_have_both_kinds : HaveBothKinds OPS
ops_have_both_kinds op x y = (
  λ any. takes_or_long op x y (sym (dyad_key op x y) ∙ key_tested (dyad_code op) (family_of x) (family_of y) any),
  λ takes. key_found (dyad_code op) (family_of x) (family_of y) (dyad_key op x y ∙ taken_or_long op x y takes),
)

given_row : (given : Option Kind) (row : Kind → OpRow) (result : Kind) → given ≡ Some result → result_has_row given row ≡ true → has_row (row result) ≡ true
given_row given row result e h = let P : Option Kind → Type 0 = λ x. result_has_row x row ≡ true in subst P e h

has_monadic : (row : OpRow) → IsMonadicRow row → Contains OPS row
has_monadic row is = let P : OpRow → Type 0 = Contains OPS in subst P (sym is.written) (in_table _
    (given_row (row1 is.op is.right) (monadic_row is.op is.right) is.result is.takes (and_front _ _ (monads_agree is.op is.right))))

has_dyadic : (row : OpRow) → IsDyadicRow row → Contains OPS row
has_dyadic row is = let P : OpRow → Type 0 = Contains OPS in subst P (sym is.written) (in_table _
    (given_row (row2 is.op is.left is.right) (dyadic_row is.op is.left is.right) is.result is.takes (and_front _ _ (dyads_agree is.op is.left is.right))))

is_in_table : (row : OpRow) → IsRow row → Contains OPS row
is_in_table row (inl is) = has_monadic row is
is_in_table row (inr is) = has_dyadic row is

table_is : (row : OpRow) → Contains OPS row → IsRow row
table_is row in_rows = let P : List OpRow → Type 0 = λ rows. Contains rows row in All-contains IsRow all_rows row all_are_rows (subst P same_rows in_rows)

pub ops_are_the_operators : AreTheOperators OPS
ops_are_the_operators row = (table_is row, is_in_table row)
