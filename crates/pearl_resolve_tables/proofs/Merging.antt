-- Neighbouring leaves of one kind as one leaf: the slots and kinds of merged leaves, and walks that go past such leaves.
use Rattle.std.proofs.Common.{◌≡◌, ℕ, ◌+◌, ◌-◌, ◌*◌, ◌≤◌, Bool, true, false, List, [], ◌∷◌, ◌++◌, length, length-append, replicate, Option, Some, None, refl, sym, ap, subst, ◌∙◌, append_assoc, arith, eqb-true, eq-eqb}
use Rattle.std.specs.Prelude.{if◌then◌else◌}
use Rattle.std.specs.List.{AllByRecursion}
use Rattle.std.proofs.lemmas.List.{length-replicate, replicate-append-replicate}
use Rattle.std.proofs.lemmas.List.Sums.{sum_by-cons}
use Rattle.pearl_value.specs.declared.kind.Kind.{Kind}
use Rattle.pearl_value.specs.declared.kind.Kind.TheVariants as kinds
use Rattle.pearl_names.specs.declared.types.StructForm.{StructForm}
use Rattle.pearl_names.specs.Layout.{Leaf, elements, leaf_slots, slots_of}
use Rattle.pearl_names.proofs.Offered.{elements_some}
use Rattle.pearl_resolve_tables.specs.declared.walk.Frame.{Frame}
use Rattle.pearl_resolve_tables.specs.declared.walk.Found.{Found}
use Rattle.pearl_resolve_tables.specs.Laying.{slots, same_kind, together, merged_behind, merged}
use Rattle.pearl_resolve_tables.specs.Walks.{AllLeft, GoesOn, PassesAlike}

same_true : (a b : Kind) → same_kind a b ≡ true → a ≡ b
same_true (kinds.Fixed a) (kinds.Fixed b) e = ap kinds.Fixed (eqb-true a b e)
same_true (kinds.Bits a) (kinds.Bits b) e = ap kinds.Bits (eqb-true a b e)
same_true (kinds.Chars a) (kinds.Chars b) e = ap kinds.Chars (eqb-true a b e)
same_true kinds.Clock kinds.Clock e = refl
same_true kinds.Span kinds.Span e = refl
same_true a b e = cc

same_self : (a : Kind) → same_kind a a ≡ true
same_self (kinds.Fixed a) = eq-eqb a a refl
same_self (kinds.Bits a) = eq-eqb a a refl
same_self (kinds.Chars a) = eq-eqb a a refl
same_self kinds.Clock = refl
same_self kinds.Span = refl

same_is : (a b : Kind) → a ≡ b → same_kind a b ≡ true
same_is a b e = subst (λ (k : Kind). same_kind a k ≡ true) e (same_self a)

same_not : (a b : Kind) → (a ≡ b → ⊥) → same_kind a b ≡ false
same_not a b other = by (same_kind a b) refl
  where
    by : (test : Bool) → same_kind a b ≡ test → same_kind a b ≡ false
    by true e = absurd (other (same_true a b e))
    by false e = e

both_elements : (own leaf : Leaf) → elements (together own leaf).bounds ≡ elements own.bounds + elements leaf.bounds
both_elements own leaf = let some = elements_some own.bounds in omega (arith, some)

both_slots : (own leaf : Leaf) → own.kind ≡ leaf.kind → leaf_slots (together own leaf) ≡ leaf_slots own ++ leaf_slots leaf
both_slots own leaf same =
    ap (λ n. replicate n own.kind) (both_elements own leaf)
    ∙ sym (replicate-append-replicate (elements own.bounds) (elements leaf.bounds) own.kind)
    ∙ ap (λ kind. leaf_slots own ++ replicate (elements leaf.bounds) kind) same

behind_slots : (own : Leaf) (leaves : List Leaf) → slots_of (merged_behind own leaves) ≡ leaf_slots own ++ slots_of leaves
behind_slots own [] = refl
behind_slots own (leaf ∷ rest) =
    by (same_kind own.kind leaf.kind) refl (behind_slots (together own leaf) rest) (behind_slots leaf rest)
  where
    by : (test : Bool) → same_kind own.kind leaf.kind ≡ test →
        slots_of (merged_behind (together own leaf) rest) ≡ leaf_slots (together own leaf) ++ slots_of rest →
        slots_of (merged_behind leaf rest) ≡ leaf_slots leaf ++ slots_of rest →
        slots_of (if test then merged_behind (together own leaf) rest else own ∷ merged_behind leaf rest) ≡
        leaf_slots own ++ (leaf_slots leaf ++ slots_of rest)
    by true e one two =
        one
        ∙ ap (λ l. l ++ slots_of rest) (both_slots own leaf (same_true own.kind leaf.kind e))
        ∙ append_assoc (leaf_slots own) (leaf_slots leaf) (slots_of rest)
    by false e one two = ap (λ l. leaf_slots own ++ l) two

-- merged leaves have the same slots
pub merged_slots : (leaves : List Leaf) → slots_of (merged leaves) ≡ slots_of leaves
merged_slots [] = refl
merged_slots (leaf ∷ rest) = behind_slots leaf rest

pub slot_count : (leaves : List Leaf) → length (slots_of leaves) ≡ slots leaves
slot_count [] = refl
slot_count (leaf ∷ rest) =
    let own = length-append (leaf_slots leaf) (slots_of rest) in
    let each = length-replicate (elements leaf.bounds) leaf.kind in
    let more = slot_count rest in
    let sum = sum_by-cons (λ (leaf : Leaf). elements leaf.bounds) leaf rest in
    omega (arith, own, each, more, sum)

-- and as many
pub merged_count : (leaves : List Leaf) → slots (merged leaves) ≡ slots leaves
merged_count leaves = sym (slot_count (merged leaves)) ∙ ap length (merged_slots leaves) ∙ slot_count leaves

behind_kinds : (P : Kind → Type 0) (own : Leaf) (leaves : List Leaf) → P own.kind → AllByRecursion (λ (leaf : Leaf). P leaf.kind) leaves →
    AllByRecursion (λ (leaf : Leaf). P leaf.kind) (merged_behind own leaves)
behind_kinds P own [] is all = (is, tt)
behind_kinds P own (leaf ∷ rest) is all =
    by (same_kind own.kind leaf.kind) (behind_kinds P (together own leaf) rest is all.1) (behind_kinds P leaf rest all.0 all.1)
  where
    by : (test : Bool) → AllByRecursion (λ (leaf : Leaf). P leaf.kind) (merged_behind (together own leaf) rest) →
        AllByRecursion (λ (leaf : Leaf). P leaf.kind) (merged_behind leaf rest) →
        AllByRecursion (λ (leaf : Leaf). P leaf.kind) (if test then merged_behind (together own leaf) rest else own ∷ merged_behind leaf rest)
    by true one two = one
    by false one two = (is, two)

-- what holds of the kinds of leaves holds of those of merged ones
pub merged_kinds : (P : Kind → Type 0) (leaves : List Leaf) → AllByRecursion (λ (leaf : Leaf). P leaf.kind) leaves →
    AllByRecursion (λ (leaf : Leaf). P leaf.kind) (merged leaves)
merged_kinds P [] all = tt
merged_kinds P (leaf ∷ rest) all = behind_kinds P leaf rest all.0 all.1

-- a walk has gone past leaves of one kind, to which those behind them may belong
pub record Alike (forms : List StructForm) (of : Kind) (many : ℕ) (next : Option Found) (frames : List Frame) (text : List ℕ) (leaves : List Leaf) : Type 0 where
  pub own : Leaf
  pub rest : List Leaf
  pub kind : of ≡ own.kind
  pub count : many ≡ elements own.bounds
  pub goes : GoesOn forms false [] next frames text rest
  pub merges : merged leaves ≡ merged_behind own rest
  pub counted : slots leaves ≡ many + slots rest

pub alike_first : (forms : List StructForm) (found : Found) (next : Option Found) (frames after : List Frame) (text new : List ℕ) (leaves : List Leaf) →
    GoesOn forms false [] (Some found) frames text leaves →
    ((left : List Leaf) → AllLeft forms false [] frames text left → GoesOn forms false [] next after new left) →
    Alike forms found.kind found.count next after new leaves
alike_first forms found next frames after text new leaves at goes =
    let leaf = at.0 in
    let rest = at.1 in
    let is = at.2 in
    record {
      own = leaf;
      rest = rest;
      kind = is.kind;
      count = is.count;
      goes = goes rest at.3;
      merges = ap merged at.4;
      counted = ap slots at.4 ∙ sum_by-cons (λ (leaf : Leaf). elements leaf.bounds) leaf rest ∙ ap (λ n. n + slots rest) (sym is.count);
    }

pub alike_more : (forms : List StructForm) (of : Kind) (many total : ℕ) (found : Found) (next : Option Found) (frames after : List Frame) (text new : List ℕ) (leaves : List Leaf) →
    Alike forms of many (Some found) frames text leaves → found.kind ≡ of → total ≡ many + found.count →
    ((left : List Leaf) → AllLeft forms false [] frames text left → GoesOn forms false [] next after new left) →
    Alike forms of total next after new leaves
alike_more forms of many total found next frames after text new leaves so same sums goes =
    let leaf = so.goes.0 in
    let rest = so.goes.1 in
    let is = so.goes.2 in
    let here : slots so.rest ≡ elements leaf.bounds + slots rest = ap slots so.goes.4 ∙ sum_by-cons (λ (leaf : Leaf). elements leaf.bounds) leaf rest in
    let each = is.count in
    let whole = so.counted in
    let kind : so.own.kind ≡ leaf.kind = sym so.kind ∙ sym same ∙ is.kind in
    record {
      own = together so.own leaf;
      rest = rest;
      kind = so.kind;
      count = sums ∙ (λ i. so.count i + is.count i) ∙ sym (both_elements so.own leaf);
      goes = goes rest so.goes.3;
      merges = so.merges ∙ ap (merged_behind so.own) so.goes.4
          ∙ ap (λ test. if test then merged_behind (together so.own leaf) rest else so.own ∷ merged_behind leaf rest) (same_is so.own.kind leaf.kind kind);
      counted = omega (arith, sums, here, each, whole);
    }

-- no leaf is left
pub alike_all : (forms : List StructForm) (of : Kind) (many : ℕ) (frames : List Frame) (text : List ℕ) (leaves : List Leaf) →
    Alike forms of many None frames text leaves → PassesAlike forms of many None frames text leaves
alike_all forms of many frames text leaves so = record {
  own = so.own;
  rest = [];
  kind = so.kind;
  count = so.count;
  goes = refl;
  merges = so.merges ∙ ap (merged_behind so.own) so.goes;
  counted = so.counted ∙ ap (λ l. many + slots l) so.goes;
}

-- the next leaf has another kind
pub alike_apart : (forms : List StructForm) (of : Kind) (many : ℕ) (found : Found) (frames : List Frame) (text : List ℕ) (leaves : List Leaf) →
    Alike forms of many (Some found) frames text leaves → (found.kind ≡ of → ⊥) → PassesAlike forms of many (Some found) frames text leaves
alike_apart forms of many found frames text leaves so other =
    let leaf = so.goes.0 in
    let rest = so.goes.1 in
    let is = so.goes.2 in
    let apart : so.own.kind ≡ leaf.kind → ⊥ = λ same. other (is.kind ∙ sym same ∙ sym so.kind) in
    record {
      own = so.own;
      rest = so.rest;
      kind = so.kind;
      count = so.count;
      goes = so.goes;
      merges = so.merges ∙ ap (merged_behind so.own) so.goes.4
          ∙ ap (λ test. if test then merged_behind (together so.own leaf) rest else so.own ∷ merged_behind leaf rest) (same_not so.own.kind leaf.kind apart)
          ∙ ap (λ l. so.own ∷ merged l) (sym so.goes.4);
      counted = so.counted;
    }
