-- Cells that are written one after the other.
use Rattle.std.proofs.Common.{◌≡◌, ℕ, zero, suc, ◌+◌, ◌-◌, ◌<◌, ◌≤◌, List, [], ◌∷◌, ◌++◌, Some, length, take, drop, map, replicate, slice_get, slice_set, refl, sym, ap, ◌∙◌, subst, arith, length-set}
use Rattle.std.specs.List.{AllByRecursion}
use Rattle.std.proofs.lemmas.List.{take-append-drop, take_all, drop_all, append-nil}
use Rattle.std.proofs.lemmas.Option.{same_Some}
use Rattle.pearl_value.specs.declared.kind.Kind.{Kind}
use Rattle.pearl_value.specs.declared.kind.CellKind.{CellKind}
use Rattle.pearl_value.specs.declared.cell.Cell.{Cell}
use Rattle.pearl_value.specs.Blanks.{blank_of}
use Rattle.pearl_stack.specs.Frames.{Frame, Stack}
use Rattle.pearl_instructions.specs.Cells.{filled}
use Rattle.pearl_instructions.specs.Flow as flow
use Rattle.pearl_silent.specs.Steps.{top_cells, with_top_cell, with_cells}

-- only the cells of the top frame became others
pub record KeepsRest (old now : Stack) : Type 0 where
  pub frames : now.frames ≡ with_cells (top_cells now.frames) old.frames
  pub room : now.room ≡ old.room
  pub most : now.most ≡ old.most

same_cells : (frames : List Frame) → frames ≡ with_cells (top_cells frames) frames
same_cells [] = refl
same_cells (f ∷ lower) = refl

pub keeps_first : (s : Stack) → KeepsRest s s
keeps_first s = record { frames = same_cells s.frames; room = refl; most = refl }

set_keeps : (c : ℕ) (x : Cell) (old now : List Frame) → now ≡ with_cells (top_cells now) old → with_top_cell c x now ≡ with_cells (top_cells (with_top_cell c x now)) old
set_keeps c x [] [] e = refl
set_keeps c x [] (f ∷ lower) e = cc
set_keeps c x (g ∷ more) [] e = cc
set_keeps c x (g ∷ more) (f ∷ lower) e = ap (with_top_cell c x) e

pub keeps_set : (c : ℕ) (x : Cell) (old now next : Stack) → KeepsRest old now → next ≡ record now { frames = with_top_cell c x now.frames } → KeepsRest old next
keeps_set c x old now next k e = record {
  frames = ap (λ s. s.frames) e ∙ (set_keeps c x old.frames now.frames k.frames ∙ ap (λ (s : Stack). with_cells (top_cells s.frames) old.frames) (sym e));
  room = ap (λ s. s.room) e ∙ k.room;
  most = ap (λ s. s.most) e ∙ k.most;
}

pub keeps_is : (old now : Stack) (cells : List Cell) → KeepsRest old now → top_cells now.frames ≡ cells → now ≡ record old { frames = with_cells cells old.frames }
keeps_is old now cells k e = let frames : now.frames ≡ with_cells cells old.frames = k.frames ∙ ap (λ cells. with_cells cells old.frames) e in rw (frames, k.room, k.most) refl

pub cells_set : (c : ℕ) (x : Cell) (frames : List Frame) → top_cells (with_top_cell c x frames) ≡ slice_set (top_cells frames) c x
cells_set c x [] = refl
cells_set c x (f ∷ lower) = refl

-- a range

filled_by : (cells : List Cell) (c n m : ℕ) (b : Cell) → c < length cells → c < m →
    take (suc c) (slice_set cells c b) ++ replicate n b ++ drop m (slice_set cells c b) ≡ take c cells ++ replicate (suc n) b ++ drop m cells
filled_by [] c n m b less more = absurd (omega (arith, less))
filled_by (x ∷ xs) zero n zero b less more = absurd (omega (arith, more))
filled_by (x ∷ xs) zero n (suc m) b less more = refl
filled_by (x ∷ xs) (suc c) n zero b less more = absurd (omega (arith, more))
filled_by (x ∷ xs) (suc c) n (suc m) b less more = ap (λ ys. x ∷ ys) (filled_by xs c n m b (omega (arith, less)) (omega (arith, more)))

-- what is still to be filled
pub record Fills (cells : List Cell) (first count i : ℕ) (kind : Kind) (now : List Cell) : Type 0 where
  pub long : length now ≡ length cells
  pub same : filled now (first + i) (count - i) kind ≡ filled cells first count kind

pub fills_first : (cells : List Cell) (first count : ℕ) (kind : Kind) → Fills cells first count 0 kind cells
fills_first cells first count kind =
    let a : first + 0 ≡ first = omega arith in
    let b : count - 0 ≡ count = omega arith in
    record { long = refl; same = ap (λ c. filled cells c (count - 0) kind) a ∙ ap (λ n. filled cells first n kind) b }

pub fills_more : (cells : List Cell) (first count i : ℕ) (kind : Kind) (now : List Cell) → Fills cells first count i kind now → i < count → first + count ≤ length cells →
    Fills cells first count (i + 1) kind (slice_set now (first + i) (blank_of kind))
fills_more cells first count i kind now f less fits =
    let b : Cell = blank_of kind in
    let n : ℕ = count - (i + 1) in
    let a : first + (i + 1) ≡ suc (first + i) = omega arith in
    let k : count - i ≡ suc n = omega (arith, less) in
    let m : first + i + (count - i) ≡ first + (i + 1) + n = omega (arith, less) in
    let here : first + i < length now = omega (arith, less, fits, f.long) in
    let past : first + i < first + i + (count - i) = omega (arith, less) in
    let next : List Cell = slice_set now (first + i) b in
    let by = filled_by now (first + i) n (first + i + (count - i)) b here past in
    let one : filled next (first + (i + 1)) n kind ≡ take (suc (first + i)) next ++ replicate n b ++ drop (first + i + (count - i)) next =
    ap (λ j. take j next ++ replicate n b ++ drop (first + (i + 1) + n) next) a
    ∙ ap (λ j. take (suc (first + i)) next ++ replicate n b ++ drop j next) (sym m) in
    let two : take (first + i) now ++ replicate (suc n) b ++ drop (first + i + (count - i)) now ≡ filled now (first + i) (count - i) kind =
    ap (λ j. take (first + i) now ++ replicate j b ++ drop (first + i + (count - i)) now) (sym k) in
    record { long = length-set now (first + i) b ∙ f.long; same = one ∙ (by ∙ (two ∙ f.same)) }

pub fills_all : (cells : List Cell) (first count : ℕ) (kind : Kind) (now : List Cell) → Fills cells first count count kind now → now ≡ filled cells first count kind
fills_all cells first count kind now f =
    let n : ℕ = first + count in
    let a : count - count ≡ 0 = omega arith in
    let b : n + 0 ≡ n = omega arith in
    let none : now ≡ filled now n 0 kind =
    sym (take-append-drop n now) ∙ (ap (λ m. take n now ++ drop m now) (sym b) ∙ ap (λ xs. xs ++ drop (n + 0) now) (sym (append-nil (take n now)))) in
    none ∙ (ap (λ k. filled now n k kind) (sym a) ∙ f.same)

-- what is unset of their kinds

fresh_by : (kinds : List CellKind) (cells : List Cell) (i : ℕ) (k : CellKind) → slice_get kinds i ≡ Some k → i < length cells →
    take (suc i) (slice_set cells i (flow.fresh k)) ++ map flow.fresh (drop (suc i) kinds) ≡ take i cells ++ map flow.fresh (drop i kinds)
fresh_by [] cells i k e less = cc
fresh_by (h ∷ kinds) [] i k e less = absurd (omega (arith, less))
fresh_by (h ∷ kinds) (x ∷ xs) zero k e less = ap (λ k. flow.fresh k ∷ map flow.fresh kinds) (sym (same_Some h k e))
fresh_by (h ∷ kinds) (x ∷ xs) (suc i) k e less = ap (λ ys. x ∷ ys) (fresh_by kinds xs i k e (omega (arith, less)))

-- what is still to be set
pub record Freshens (cells : List Cell) (kinds : List CellKind) (from i : ℕ) (now : List Cell) : Type 0 where
  pub long : length now ≡ length cells
  pub same : take i now ++ map flow.fresh (drop i kinds) ≡ take from cells ++ map flow.fresh (drop from kinds)

pub freshens_first : (cells : List Cell) (kinds : List CellKind) (from : ℕ) → Freshens cells kinds from from cells
freshens_first cells kinds from = record { long = refl; same = refl }

pub freshens_more : (cells : List Cell) (kinds : List CellKind) (from i : ℕ) (now : List Cell) (k : CellKind) → Freshens cells kinds from i now → slice_get kinds i ≡ Some k →
    i < length cells → Freshens cells kinds from (i + 1) (slice_set now i (flow.fresh k))
freshens_more cells kinds from i now k f e less =
    let a : i + 1 ≡ suc i = omega arith in
    let next : List Cell = slice_set now i (flow.fresh k) in
    record {
      long = length-set now i (flow.fresh k) ∙ f.long;
      same = ap (λ n. take n next ++ map flow.fresh (drop n kinds)) a ∙ (fresh_by kinds now i k e (omega (arith, less, f.long)) ∙ f.same);
    }

pub freshens_all : (cells : List Cell) (kinds : List CellKind) (from : ℕ) (now : List Cell) → length cells ≡ length kinds → Freshens cells kinds from (length kinds) now →
    now ≡ take from cells ++ map flow.fresh (drop from kinds)
freshens_all cells kinds from now same f =
    let none : drop (length kinds) kinds ≡ [] = drop_all (length kinds) kinds (omega arith) in
    let all : take (length kinds) now ≡ now = take_all (length kinds) now (omega (arith, f.long, same)) in
    sym (append-nil now) ∙ (ap (λ xs. xs ++ []) (sym all) ∙ (ap (λ ks. take (length kinds) now ++ map flow.fresh ks) (sym none) ∙ f.same))

pub all_given : {A : Type 0} (P : A → Type 0) (xs : List A) (n : ℕ) (x : A) → AllByRecursion P xs → slice_get xs n ≡ Some x → P x
all_given P [] n x all e = cc
all_given P (y ∷ ys) zero x all e = subst P (same_Some y x e) all.0
all_given P (y ∷ ys) (suc n) x all e = all_given P ys n x all.1 e
