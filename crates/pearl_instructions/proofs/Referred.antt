-- Cells of frames that references name.
use Rattle.std.proofs.Common.{◌≡◌, ℕ, zero, suc, ◌<◌, List, [], ◌∷◌, Option, Some, length, slice_get, slice_set, refl, sym, ap, ◌∙◌, subst, arith, Bool, true, false, cond, inl, inr, ne_eqb, eqb-true}
use Rattle.std.specs.Prelude.{◌⊎◌, ◌==◌, if◌then◌else◌}
use Rattle.std.specs.List.{AllZip}
use Rattle.std.proofs.lemmas.List.{length-map}
use Rattle.std.proofs.lemmas.Option.{same_Some}
use Rattle.pearl_value.specs.declared.kind.Kind.{Kind}
use Rattle.pearl_value.specs.declared.kind.CellKind.{CellKind}
use Rattle.pearl_value.specs.declared.kind.CellKind.TheVariants.{Plain, RefTo}
use Rattle.pearl_value.specs.declared.cell.Place.TheVariants as place
use Rattle.pearl_value.specs.declared.cell.Cell.{Cell}
use Rattle.pearl_value.specs.declared.cell.Cell.TheVariants as cell
use Rattle.pearl_value.specs.WellFormed.{IsValueOf}
use Rattle.pearl_stack.specs.Frames.{Frame, cell_at, with_cell}
use Rattle.pearl_instructions.specs.declared.object.Code.{Code}
use Rattle.pearl_instructions.specs.declared.object.Parts.{Parts as Object}
use Rattle.pearl_instructions.specs.Objects.{routine_at}
use Rattle.pearl_instructions.specs.Valid.{shape_before}
use Rattle.pearl_instructions.specs.Stacks.{routines_of, cells_or_none, cell_kinds, plain_at, cell_kind, Refers, Suits, Stands, IsCalling, Below, IsTop, IsStack}
use Rattle.pearl_instructions.proofs.Zips.{zip_get, zip_set}

pub if_either : {A : Type 0} (b : Bool) (x y : Option A) (k : A) → (if b then x else y) ≡ Some k → ((b ≡ true) × (x ≡ Some k)) ⊎ ((b ≡ false) × (y ≡ Some k))
if_either true x y k e = inl (refl, e)
if_either false x y k e = inr (refl, e)

pub plain_at_is : (ks : List CellKind) (c : ℕ) (k : Kind) → plain_at ks c ≡ Some k → slice_get ks c ≡ Some (Plain k)
plain_at_is [] c k e = cc
plain_at_is (Plain a ∷ ks) zero k e = ap (λ k. Some (Plain k)) (same_Some a k e)
plain_at_is (RefTo a ∷ ks) zero k e = cc
plain_at_is (a ∷ ks) (suc c) k e = plain_at_is ks c k e

pub is_plain_at : (ks : List CellKind) (c : ℕ) (k : Kind) → slice_get ks c ≡ Some (Plain k) → plain_at ks c ≡ Some k
is_plain_at [] c k e = cc
is_plain_at (Plain a ∷ ks) zero k e = cc
is_plain_at (RefTo a ∷ ks) zero k e = cc
is_plain_at (a ∷ ks) (suc c) k e = is_plain_at ks c k e

pub kind_bound : (o : Object) (rs : List ℕ) (n c : ℕ) (k : Kind) → cell_kind o rs n c ≡ Some k → n < length rs
kind_bound o [] n c k e = cc
kind_bound o (r ∷ rs) n c k e =
    elim (if_either (n == length rs) (plain_at (cell_kinds o r) c) (cell_kind o rs n c) k e) [
      | inl h ↦ (let same = eqb-true n (length rs) h.0 in omega (arith, same))
      | inr h ↦ (let less = kind_bound o rs n c k h.1 in omega (arith, less))
    ]

pub kind_grown : (o : Object) (r : ℕ) (rs : List ℕ) (n c : ℕ) (k : Kind) → cell_kind o rs n c ≡ Some k → cell_kind o (r ∷ rs) n c ≡ Some k
kind_grown o r rs n c k e =
    let less = kind_bound o rs n c k e in
    let other : (n == length rs) ≡ false = ne_eqb n (length rs) (λ same. omega (arith, less, same)) in
    rw other e

pub refers_grown : (o : Object) (r : ℕ) (rs : List ℕ) (k : Kind) (x : Cell) → Refers o rs k x → Refers o (r ∷ rs) k x
refers_grown o r rs k (cell.Ref of (place.Slot v)) h = h
refers_grown o r rs k (cell.Ref of (place.Cell n c)) h = (h.0, kind_grown o r rs n c k h.1)
refers_grown o r rs k x h = absurd h

pub suits_grown : (o : Object) (r : ℕ) (rs : List ℕ) (k : CellKind) (x : Cell) → Suits o rs k x → Suits o (r ∷ rs) k x
suits_grown o r rs (Plain k) x h = h
suits_grown o r rs (RefTo k) x h = refers_grown o r rs k x h

-- each frame's cells suit its routine's kinds
abbrev pub Housed : Object → List Frame → Type 0
Housed o [] = Unit {0}
Housed o (f ∷ fs) = AllZip (Suits o (routines_of fs)) (cell_kinds o f.routine) f.cells × Housed o fs

pub kinds_is : (o : Object) (r : ℕ) (code : Code) → routine_at o r ≡ Some code → cell_kinds o r ≡ code.cells
kinds_is o r code e = ap cells_or_none e

pub below_housed : (o : Object) (p : ℕ) (fs : List Frame) → Below o p fs → Housed o fs
below_housed o p [] b = tt
below_housed o p (g ∷ gs) b =
    (subst (λ ks. AllZip (Suits o (routines_of gs)) ks g.cells) (sym (kinds_is o g.routine b.0.code b.0.routine)) b.0.stands.cells, below_housed o g.routine gs b.1)

-- a cell that a reference names is there, and of its kind
pub cell_there : (o : Object) (fs : List Frame) (n c : ℕ) (k : Kind) → Housed o fs → cell_kind o (routines_of fs) n c ≡ Some k →
    (x : Cell) × (cell_at fs n c ≡ Some x) × IsValueOf k x
cell_there o [] n c k h e = cc
cell_there o (f ∷ fs) n c k h e =
    let long : length (routines_of fs) ≡ length fs = length-map fs (λ f. f.routine) in
    elim (if_either (n == length (routines_of fs)) (plain_at (cell_kinds o f.routine) c) (cell_kind o (routines_of fs) n c) k e) [
      | inl w ↦ (let here : (n == length fs) ≡ true = ap (λ m. n == m) (sym long) ∙ w.0 in
          let got = zip_get (Suits o (routines_of fs)) (cell_kinds o f.routine) f.cells c (Plain k) h.0 (plain_at_is (cell_kinds o f.routine) c k w.1) in
          (got.0, rw here got.1, got.2))
      | inr w ↦ (let here : (n == length fs) ≡ false = ap (λ m. n == m) (sym long) ∙ w.0 in
          let got = cell_there o fs n c k h.1 w.1 in
          (got.0, rw here got.1, got.2))
    ]

pub routines_set : (fs : List Frame) (n c : ℕ) (x : Cell) → routines_of (with_cell fs n c x) ≡ routines_of fs
routines_set [] n c x = refl
routines_set (f ∷ fs) n c x = by_test (n == length fs) (routines_set fs n c x)
  where
    by_test : (b : Bool) → routines_of (with_cell fs n c x) ≡ routines_of fs →
        routines_of (cond b (record f { cells = slice_set f.cells c x } ∷ fs) (f ∷ with_cell fs n c x)) ≡ f.routine ∷ routines_of fs
    by_test true e = refl
    by_test false e = ap (λ rs. f.routine ∷ rs) e

-- writing a cell that a reference names leaves the frames what they were
pub below_set : (o : Object) (p : ℕ) (fs : List Frame) (n c : ℕ) (k : Kind) (x : Cell) → Below o p fs → cell_kind o (routines_of fs) n c ≡ Some k →
    IsValueOf k x → Below o p (with_cell fs n c x)
below_set o p [] n c k x b e s = b
below_set o p (g ∷ gs) n c k x b e s =
    let long : length (routines_of gs) ≡ length gs = length-map gs (λ f. f.routine) in
    elim (if_either (n == length (routines_of gs)) (plain_at (cell_kinds o g.routine) c) (cell_kind o (routines_of gs) n c) k e) [
      | inl w ↦ (let here : (n == length gs) ≡ true = ap (λ m. n == m) (sym long) ∙ w.0 in
          let kind : slice_get b.0.code.cells c ≡ Some (Plain k) =
          plain_at_is _ c k (ap (λ ks. plain_at ks c) (sym (kinds_is o g.routine b.0.code b.0.routine)) ∙ w.1) in
          rw here (
            record {
              callee = b.0.callee;
              called = b.0.called;
              code = b.0.code;
              routine = b.0.routine;
              place = b.0.place;
              stands = record {
                cells = zip_set (Suits o (routines_of gs)) b.0.code.cells g.cells c (Plain k) x b.0.stands.cells kind s;
                operands = b.0.stands.operands;
              };
            },
            b.1,
          ))
      | inr w ↦ (let here : (n == length gs) ≡ false = ap (λ m. n == m) (sym long) ∙ w.0 in
          rw here (subst (IsCalling o p g) (sym (routines_set gs n c x)) b.0, below_set o g.routine gs n c k x b.1 w.1 s))
    ]

pub top_set : (o : Object) (f : Frame) (fs : List Frame) (n c : ℕ) (k : Kind) (x : Cell) → IsTop o f fs → cell_kind o (routines_of (f ∷ fs)) n c ≡ Some k →
    IsValueOf k x → IsStack o (with_cell (f ∷ fs) n c x)
top_set o f fs n c k x t e s =
    let long : length (routines_of fs) ≡ length fs = length-map fs (λ f. f.routine) in
    elim (if_either (n == length (routines_of fs)) (plain_at (cell_kinds o f.routine) c) (cell_kind o (routines_of fs) n c) k e) [
      | inl w ↦ (let here : (n == length fs) ≡ true = ap (λ m. n == m) (sym long) ∙ w.0 in
          let kind : slice_get t.code.cells c ≡ Some (Plain k) =
          plain_at_is _ c k (ap (λ ks. plain_at ks c) (sym (kinds_is o f.routine t.code t.routine)) ∙ w.1) in
          rw here (record {
            code = t.code;
            routine = t.routine;
            place = t.place;
            below = t.below;
            stands = record {
              cells = zip_set (Suits o (routines_of fs)) t.code.cells f.cells c (Plain k) x t.stands.cells kind s;
              operands = t.stands.operands;
            };
          }))
      | inr w ↦ (let here : (n == length fs) ≡ false = ap (λ m. n == m) (sym long) ∙ w.0 in
          rw here (record {
            code = t.code;
            routine = t.routine;
            place = t.place;
            stands = subst (Stands o t.code f (shape_before o f.routine t.code f.place)) (sym (routines_set fs n c x)) t.stands;
            below = below_set o f.routine fs n c k x t.below w.1 s;
          }))
    ]
