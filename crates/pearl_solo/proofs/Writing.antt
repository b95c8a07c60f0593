-- Values that are written into cells, from the last one on.
use Rattle.std.proofs.Common.{◌≡◌, ℕ, zero, suc, ◌+◌, ◌-◌, ◌<◌, ◌≤◌, List, [], ◌∷◌, ◌++◌, Some, length, take, drop, slice_get, slice_set, refl, sym, ap, ◌∙◌, subst, arith, length-set, length-append, length-take-le}
use Rattle.std.proofs.lemmas.List.{take-append-drop, take_all, append-nil}
use Rattle.pearl_value.specs.declared.cell.Cell.{Cell}
use Rattle.pearl_instructions.specs.Offers.{with_values}
use Rattle.pearl_silent.proofs.Offered.{take_last}

drop_set : (xs : List Cell) (m : ℕ) (x : Cell) → m < length xs → drop m (slice_set xs m x) ≡ x ∷ drop (suc m) xs
drop_set [] m x less = absurd (omega (arith, less))
drop_set (y ∷ xs) zero x less = refl
drop_set (y ∷ xs) (suc m) x less = drop_set xs m x (omega (arith, less))

append_one : (xs ys : List Cell) (x : Cell) → xs ++ (x ∷ ys) ≡ (xs ++ (x ∷ [])) ++ ys
append_one [] ys x = refl
append_one (y ∷ xs) ys x = ap (λ zs. y ∷ zs) (append_one xs ys x)

last_put : (cells : List Cell) (c m : ℕ) (ys : List Cell) (x : Cell) → m ≡ c + length ys → m < length cells →
    (take c (slice_set cells m x) ++ ys) ++ drop m (slice_set cells m x) ≡ (take c cells ++ (ys ++ (x ∷ []))) ++ drop (suc m) cells
last_put [] c m ys x e less = absurd (omega (arith, less))
last_put (z ∷ cells) zero m ys x e less = ap (λ t. ys ++ t) (drop_set (z ∷ cells) m x less) ∙ append_one ys (drop (suc m) (z ∷ cells)) x
last_put (z ∷ cells) (suc c) zero ys x e less = absurd (omega (arith, e))
last_put (z ∷ cells) (suc c) (suc m) ys x e less = ap (λ t. z ∷ t) (last_put cells c m ys x (omega (arith, e)) (omega (arith, less)))

-- what is still to be written
pub record Writes (cells : List Cell) (first : ℕ) (all left now : List Cell) : Type 0 where
  pub long : length now ≡ length cells
  pub fits : 0 < length left → first + length left ≤ length cells
  pub same : with_values now first left ≡ with_values cells first all

writes_more : (cells : List Cell) (first c : ℕ) (all left more now : List Cell) (x : Cell) → Writes cells first all left now → left ≡ more ++ (x ∷ []) → c ≡ first + length more →
    Writes cells first all more (slice_set now c x)
writes_more cells first c all left more now x w e at =
    let long : length left ≡ length more + 1 = ap length e ∙ length-append more (x ∷ []) in
    let fits = w.fits (omega (arith, long)) in
    let less : c < length now = omega (arith, fits, w.long, long, at) in
    let next : List Cell = slice_set now c x in
    let behind : suc c ≡ first + length left = omega (arith, at, long) in
    record {
      long = length-set now c x ∙ w.long;
      fits = λ some. omega (arith, fits, long);
      same = ap (λ n. (take first next ++ more) ++ drop n next) (sym at) ∙ (last_put now first c more x at less
          ∙ (ap (λ n. (take first now ++ (more ++ (x ∷ []))) ++ drop n now) behind ∙ (ap (λ ys. (take first now ++ ys) ++ drop (first + length left) now) (sym e) ∙ w.same)));
    }

-- the values that are left, where so many are done

pub writes_first : (cells : List Cell) (first : ℕ) (all : List Cell) → (0 < length all → first + length all ≤ length cells) →
    Writes cells first all (take (length all - 0) all) cells
writes_first cells first all fits =
    let whole : take (length all - 0) all ≡ all = take_all (length all - 0) all (omega arith) in
    subst (λ left. Writes cells first all left cells) (sym whole) (record { long = refl; fits = fits; same = refl })

left_long : (all : List Cell) (done : ℕ) → length (take (length all - done) all) ≡ length all - done
left_long all done = length-take-le (length all - done) all (omega arith)

pub writes_fit : (cells : List Cell) (first done : ℕ) (all now : List Cell) → done < length all → Writes cells first all (take (length all - done) all) now →
    first + (length all - done) ≤ length cells
writes_fit cells first done all now less w =
    let long = left_long all done in
    let fits = w.fits (omega (arith, long, less)) in
    omega (arith, fits, long)

pub writes_next : (cells : List Cell) (first done c : ℕ) (all now : List Cell) (x : Cell) → done < length all → Writes cells first all (take (length all - done) all) now →
    slice_get all (length all - 1 - done) ≡ Some x → c ≡ first + (length all - 1 - done) → Writes cells first all (take (length all - (done + 1)) all) (slice_set now c x)
writes_next cells first done c all now x less w e at =
    let k : ℕ = length all - 1 - done in
    let one : length all - done ≡ suc k = omega (arith, less) in
    let next : length all - (done + 1) ≡ k = omega (arith, less) in
    let whole : take (length all - done) all ≡ take k all ++ (x ∷ []) = ap (λ n. take n all) one ∙ take_last all k x e in
    let long : length (take k all) ≡ k = length-take-le k all (omega (arith, less)) in
    subst (λ n. Writes cells first all (take n all) (slice_set now c x)) (sym next)
    (writes_more cells first c all (take (length all - done) all) (take k all) now x w whole (omega (arith, at, long)))

pub writes_all : (cells : List Cell) (first done : ℕ) (all now : List Cell) → length all ≤ done → Writes cells first all (take (length all - done) all) now → now ≡ with_values cells first all
writes_all cells first done all now past w =
    let none : first + 0 ≡ first = omega arith in
    let zero_left : length all - done ≡ 0 = omega (arith, past) in
    let one : now ≡ (take first now ++ []) ++ drop (first + 0) now =
    sym (take-append-drop first now) ∙ (ap (λ t. t ++ drop first now) (sym (append-nil (take first now))) ∙ ap (λ n. (take first now ++ []) ++ drop n now) (sym none)) in
    one ∙ (ap (λ n. with_values now first (take n all)) (sym zero_left) ∙ w.same)
