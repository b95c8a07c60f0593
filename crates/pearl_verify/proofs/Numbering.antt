-- How shapes get their numbers, and that shapes of one number are one.
use Rattle.std.proofs.Common.{◌≡◌, ℕ, zero, suc, ◌+◌, ◌<◌, ◌≤◌, List, [], ◌∷◌, ◌++◌, Option, Some, None, refl, sym, ap, ◌∙◌, arith, true, false, inl, inr, eqb-true, eq-eqb, length, take, drop, reverse, get_or, slice_get}
use Rattle.std.specs.Prelude.{◌⊎◌, is_some, ◌==◌, if◌then◌else◌, option_and_then, unwrap_or}
use Rattle.std.specs.Cmp.{unsigned_ties, tied_then}
use Rattle.std.specs.Ordering.{nat_cmp, ordering_then, is_eq}
use Rattle.std.specs.BTreeMap.{get, btree_map_len, Updates}
use Rattle.std.proofs.lemmas.Bool.{cases_Bool}
use Rattle.std.proofs.lemmas.Option.{same_Some}
use Rattle.std.proofs.lemmas.List.{reverse-append}
use Rattle.std.proofs.lemmas.Grind.{take_at_read}
use Rattle.pearl_value.specs.declared.kind.Kind.TheVariants as kind
use Rattle.pearl_value.specs.declared.kind.CellKind.{CellKind}
use Rattle.pearl_value.specs.declared.kind.CellKind.TheVariants.{Plain, RefTo}
use Rattle.pearl_verify.specs.declared.tree.Edge.{Edge}
use Rattle.pearl_instructions.specs.Operands.{Shape, same_shape}
use Rattle.pearl_verify.proofs.Shapes.{and_true, same_shape_true, same_shape_refl}
use Rattle.pearl_verify.specs.Numbers.{Edges, sort_of, length_of, edge_on, order, child, number_of, numbers_of, IsTree, Grows}

-- edges that the order doesn't tell apart are one
same_part : (a b : ℕ) → is_eq (nat_cmp a b) ≡ true → a ≡ b
same_part a b e = eqb-true a b (unsigned_ties a b ∙ e)

same_edge : (e f : Edge) → is_eq (order e f) ≡ true → e ≡ f
same_edge e f h =
    let first = and_true (is_eq (nat_cmp e.below f.below)) (is_eq (ordering_then (nat_cmp e.sort f.sort) (nat_cmp e.length f.length)))
    (tied_then (nat_cmp e.below f.below) (ordering_then (nat_cmp e.sort f.sort) (nat_cmp e.length f.length)) ∙ h) in
    let rest = and_true (is_eq (nat_cmp e.sort f.sort)) (is_eq (nat_cmp e.length f.length)) (tied_then (nat_cmp e.sort f.sort) (nat_cmp e.length f.length) ∙ first.1) in
    let below : e.below ≡ f.below = same_part e.below f.below first.0 in
    let sort : e.sort ≡ f.sort = same_part e.sort f.sort rest.0 in
    let long : e.length ≡ f.length = same_part e.length f.length rest.1 in
    λ i. record { below = below i; sort = sort i; length = long i }

-- the kind of a sort and a length
kind_from : ℕ → ℕ → CellKind
kind_from sort len =
    if sort == 0 then Plain (kind.Fixed len) else
    if sort == 1 then Plain (kind.Bits len) else
    if sort == 2 then Plain (kind.Chars len) else
    if sort == 3 then Plain kind.Clock else
    if sort == 4 then Plain kind.Span else
    if sort == 5 then RefTo (kind.Fixed len) else
    if sort == 6 then RefTo (kind.Bits len) else
    if sort == 7 then RefTo (kind.Chars len) else
    if sort == 8 then RefTo kind.Clock else RefTo kind.Span

kind_back : (k : CellKind) → kind_from (sort_of k) (length_of k) ≡ k
unfolding kind_from
kind_back (Plain (kind.Fixed len)) = refl
kind_back (Plain (kind.Bits len)) = refl
kind_back (Plain (kind.Chars len)) = refl
kind_back (Plain kind.Clock) = refl
kind_back (Plain kind.Span) = refl
kind_back (RefTo (kind.Fixed len)) = refl
kind_back (RefTo (kind.Bits len)) = refl
kind_back (RefTo (kind.Chars len)) = refl
kind_back (RefTo kind.Clock) = refl
kind_back (RefTo kind.Span) = refl

kind_of : (a b : ℕ) (k l : CellKind) → edge_on a k ≡ edge_on b l → k ≡ l
kind_of a b k l e = sym (kind_back k) ∙ ap (λ x. kind_from x.sort x.length) e ∙ kind_back l

-- a new edge with a new number
at_new : (m n : Edges) (k e : Edge) (w x : ℕ) → get order n e ≡ (if is_eq (order k e) then Some w else get order m e) → get order n e ≡ Some x →
    ((k ≡ e) × (x ≡ w)) ⊎ (get order m e ≡ Some x)
at_new m n k e w x is h = elim (cases_Bool (is_eq (order k e))) [
  | inl same ↦ inl (same_edge k e same, sym (same_Some w x (sym (is ∙ ap (λ b. if b then Some w else get order m e) same) ∙ h)))
  | inr other ↦ inr (sym (is ∙ ap (λ b. if b then Some w else get order m e) other) ∙ h)
]

pub tree_more : (m n : Edges) (k : Edge) (w : ℕ) (was : Option ℕ) → IsTree m → k.below ≤ btree_map_len m → get order m k ≡ None → w ≡ btree_map_len m + 1 → was ≡ get order m k →
    btree_map_len n ≡ btree_map_len m + (if is_some was then 0 else 1) → Updates order m n k (Some w) → IsTree n
tree_more m n k w was tree known none is old_is longer updates = let long : btree_map_len n ≡ btree_map_len m + 1 = longer ∙ ap (λ o. btree_map_len m + (if is_some o then 0 else 1)) (old_is ∙ none) in record {
  some = λ e x h. elim (at_new m n k e w x (updates.0 e) h) [
    | inl new ↦ omega (arith, new.1, is, long)
    | inr old ↦ (let p = tree.some e x old in (p.0, omega (arith, p.1, long)))
  ];
  apart = λ e f x h g. elim (at_new m n k e w x (updates.0 e) h) [
    | inl new ↦ elim (at_new m n k f w x (updates.0 f) g) [
      | inl also ↦ sym new.0 ∙ also.0
      | inr old ↦ absurd (let p = tree.some f x old in omega (arith, p.1, new.1, is))
    ]
    | inr old ↦ elim (at_new m n k f w x (updates.0 f) g) [
      | inl new ↦ absurd (let p = tree.some e x old in omega (arith, p.1, new.1, is))
      | inr also ↦ tree.apart e f x old also
    ]
  ];
  rises = λ e x h. elim (at_new m n k e w x (updates.0 e) h) [
    | inl new ↦ (let same : k.below ≡ e.below = ap (λ z. z.below) new.0 in omega (arith, new.1, is, known, same))
    | inr old ↦ tree.rises e x old
  ];
}

-- nothing stands on the shape with the last number
pub none_on_last : (m : Edges) (below : ℕ) (k : CellKind) → IsTree m → btree_map_len m ≤ below → None ≡ child m below k
none_on_last m below k tree past = by (child m below k) refl
  where
    by : (found : Option ℕ) → child m below k ≡ found → None ≡ child m below k
    by None e = sym e
    by (Some n) e = absurd (let rises = tree.rises (edge_on below k) n e in let few = (tree.some (edge_on below k) n e).1 in omega (arith, rises, few, past))

pub grows_more : (m n : Edges) (k : Edge) (w : ℕ) → get order m k ≡ None → Updates order m n k (Some w) → Grows m n
grows_more m n k w none updates e x h = elim (cases_Bool (is_eq (order k e))) [
  | inl same ↦ absurd (let there : None ≡ Some x = sym none ∙ ap (get order m) (same_edge k e same) ∙ h in cc)
  | inr other ↦ updates.0 e ∙ ap (λ b. if b then Some w else get order m e) other ∙ h
]

-- a shape keeps its number
on_known : (m : Edges) (k : CellKind) (o : Option ℕ) (n : ℕ) → option_and_then (λ below. child m below k) o ≡ Some n →
    (below : ℕ) × (o ≡ Some below) × (child m below k ≡ Some n)
on_known m k None n e = cc
on_known m k (Some below) n e = (below, refl, e)

pub still_numbered : (m n : Edges) (s : Shape) (x : ℕ) → Grows m n → number_of m s ≡ Some x → number_of n s ≡ Some x
still_numbered m n [] x grows e = e
still_numbered m n (k ∷ s) x grows e =
    let on = on_known m k (number_of m s) x e in
    ap (option_and_then (λ below. child n below k)) (still_numbered m n s on.0 grows on.1) ∙ grows (edge_on on.0 k) x on.2

-- one kind further up
pub number_more : (m n : Edges) (kinds : List CellKind) (i below x : ℕ) (d k : CellKind) → i < length kinds → k ≡ get_or kinds i d → Grows m n →
    number_of m (reverse (take i kinds)) ≡ Some below → child n below k ≡ Some x → number_of n (reverse (take (i + 1) kinds)) ≡ Some x
number_more m n kinds i below x d k less is grows before on =
    let longer : take (i + 1) kinds ≡ take i kinds ++ k ∷ [] = (take_at_read kinds i d less).1 ∙ ap (λ y. take i kinds ++ y ∷ []) (sym is) in
    let whole : reverse (take (i + 1) kinds) ≡ k ∷ reverse (take i kinds) = ap reverse longer ∙ reverse-append (take i kinds) (k ∷ []) in
    ap (number_of n) whole ∙ ap (option_and_then (λ below. child n below k)) (still_numbered m n (reverse (take i kinds)) below grows before) ∙ on

-- shapes of one number are one
pub one_shape : (m : Edges) (s t : Shape) (x : ℕ) → IsTree m → number_of m s ≡ Some x → number_of m t ≡ Some x → s ≡ t
one_shape m [] [] x tree e h = refl
one_shape m [] (l ∷ t) x tree e h =
    let on = on_known m l (number_of m t) x h in
    let some = (tree.some (edge_on on.0 l) x on.2).0 in
    let none : 0 ≡ x = same_Some 0 x e in
    absurd (omega (arith, some, none))
one_shape m (k ∷ s) [] x tree e h =
    let on = on_known m k (number_of m s) x e in
    let some = (tree.some (edge_on on.0 k) x on.2).0 in
    let none : 0 ≡ x = same_Some 0 x h in
    absurd (omega (arith, some, none))
one_shape m (k ∷ s) (l ∷ t) x tree e h =
    let one = on_known m k (number_of m s) x e in
    let other = on_known m l (number_of m t) x h in
    let edges : edge_on one.0 k ≡ edge_on other.0 l = tree.apart (edge_on one.0 k) (edge_on other.0 l) x one.2 other.2 in
    let same : k ≡ l = kind_of one.0 other.0 k l edges in
    let below : one.0 ≡ other.0 = ap (λ z. z.below) edges in
    let rest : s ≡ t = one_shape m s t one.0 tree one.1 (other.1 ∙ ap Some (sym below)) in
    rw (same, rest) refl

-- so shapes are compared by their numbers
other_number : (m : Edges) (s t : Shape) (n x : ℕ) → IsTree m → number_of m s ≡ Some n → number_of m t ≡ Some x → same_shape s t ≡ false → (x == n) ≡ false
other_number m s t n x tree e h other = elim (cases_Bool (x == n)) [
  | inl same ↦ absurd (let shapes : s ≡ t = one_shape m s t n tree e (h ∙ ap Some (eqb-true x n same)) in
      let alike : same_shape s t ≡ true = ap (same_shape s) (sym shapes) ∙ same_shape_refl s in
      let both : true ≡ false = sym alike ∙ other in
      cc)
  | inr apart ↦ apart
]

pub same_number : (m : Edges) (s t : Shape) (n x : ℕ) → IsTree m → number_of m s ≡ Some n → Some x ≡ number_of m t → (x == n) ≡ same_shape s t
same_number m s t n x tree e h = elim (cases_Bool (same_shape s t)) [
  | inl same ↦ (let shapes : s ≡ t = same_shape_true s t same in
      let number : x ≡ n = same_Some x n (h ∙ ap (number_of m) (sym shapes) ∙ e) in
      eq-eqb x n number ∙ sym same)
  | inr other ↦ other_number m s t n x tree e (sym h) other ∙ sym other
]

pub no_number : (m : Edges) (s t : Shape) (n : ℕ) → number_of m s ≡ Some n → None ≡ number_of m t → false ≡ same_shape s t
no_number m s t n e h = elim (cases_Bool (same_shape s t)) [
  | inl same ↦ absurd (let there : None ≡ Some n = h ∙ ap (number_of m) (sym (same_shape_true s t same)) ∙ e in cc)
  | inr other ↦ sym other
]

-- the number of the whole shape is the first one
pub first_number : (m : Edges) (s : Shape) → number_of m s ≡ unwrap_or (slice_get (numbers_of m s) 0) (Some 0)
first_number m [] = refl
first_number m (k ∷ s) = refl

pub fewer_numbers : (m : Edges) (s : Shape) (n : ℕ) → drop n (numbers_of m s) ≡ numbers_of m (drop n s)
fewer_numbers m s zero = refl
fewer_numbers m [] (suc n) = refl
fewer_numbers m (k ∷ s) (suc n) = fewer_numbers m s n

-- one number further up
pub number_on_top : (m : Edges) (s : Shape) (k : CellKind) (o : Option ℕ) → o ≡ number_of m s → option_and_then (λ below. child m below k) o ≡ number_of m (k ∷ s)
number_on_top m s k o e = ap (option_and_then (λ below. child m below k)) e
