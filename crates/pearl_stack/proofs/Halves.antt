-- A copy of one value over another, in a list that is divided between the two.
use Rattle.std.proofs.Common.{◌≡◌, ℕ, ◌-◌, ◌<◌, List, [], ◌∷◌, ◌++◌, Some, length, take, drop, get_or, set, slice_get, sym, ap, ◌∙◌, arith, length-append, length-set}
use Rattle.std.specs.Prelude.{option_map}
use Rattle.std.proofs.lemmas.List.{take_all, take-append-le, get_or_append_left, get_or-append_right, set-append_left, set-append_right, set-get_or}
use Rattle.std.proofs.lemmas.Option.{slice_get-get_or}
use Rattle.pearl_value.specs.declared.cell.Cell.{Cell}

rejoined : (xs parts : List Cell) (n : ℕ) → n ≡ length xs → length parts ≡ n → take n (parts ++ drop (length parts) xs) ≡ parts
rejoined xs parts n long same =
    take-append-le n parts (drop (length parts) xs) (omega (arith, same)) ∙ take_all n parts (omega (arith, same))

pub copied_up : (xs slice low high : List Cell) (n from to : ℕ) (x y : Cell) → n ≡ length xs → slice ≡ xs → slice ≡ low ++ high → length low ≡ to → from < to → to < length xs →
    x ≡ get_or low from x → y ≡ get_or low from x →
    option_map (λ x. set xs to x) (slice_get xs from) ≡ Some (take n (low ++ set high 0 y ++ drop (length (low ++ set high 0 y)) xs))
copied_up xs slice low high n from to x y all same parts long less within read is =
    let whole : xs ≡ low ++ high = sym same ∙ parts in
    let none : to - to ≡ 0 = omega arith in
    let got : slice_get xs from ≡ Some y =
    slice_get-get_or xs from x (omega (arith, less, within))
    ∙ ap Some (ap (λ l. get_or l from x) whole ∙ (get_or_append_left low high x from (omega (arith, less, long)) ∙ sym is)) in
    let written : set xs to y ≡ low ++ set high 0 y =
    ap (λ l. set l to y) whole ∙ (set-append_right low high to to y long (omega arith) ∙ ap (λ k. low ++ set high k y) none) in
    let back = rejoined xs (low ++ set high 0 y) n all
    (omega (arith, all, ap length whole, length-append low high, length-append low (set high 0 y), length-set high 0 y)) in
    ap (option_map (λ x. set xs to x)) got ∙ ap Some (written ∙ sym back)

pub copied_down : (xs slice low high : List Cell) (n from to : ℕ) (x y : Cell) → n ≡ length xs → slice ≡ xs → slice ≡ low ++ high → length low ≡ from → to < from → from < length xs →
    x ≡ get_or high 0 x → y ≡ get_or high 0 x →
    option_map (λ x. set xs to x) (slice_get xs from) ≡ Some (take n (set low to y ++ high ++ drop (length (set low to y ++ high)) xs))
copied_down xs slice low high n from to x y all same parts long less within read is =
    let whole : xs ≡ low ++ high = sym same ∙ parts in
    let none : from - from ≡ 0 = omega arith in
    let got : slice_get xs from ≡ Some y =
    slice_get-get_or xs from x within
    ∙ ap Some (ap (λ l. get_or l from x) whole ∙ (get_or-append_right low high from from x long (omega arith) ∙ (ap (λ k. get_or high k x) none ∙ sym is))) in
    let written : set xs to y ≡ set low to y ++ high =
    ap (λ l. set l to y) whole ∙ set-append_left low high to y (omega (arith, less, long)) in
    let back = rejoined xs (set low to y ++ high) n all
    (omega (arith, all, ap length whole, length-append low high, length-append (set low to y) high, length-set low to y)) in
    ap (option_map (λ x. set xs to x)) got ∙ ap Some (written ∙ sym back)

pub copied_there : (xs : List Cell) (from to : ℕ) → from ≡ to → from < length xs → option_map (λ x. set xs to x) (slice_get xs from) ≡ Some xs
copied_there [] from to same within = absurd (omega (arith, within))
copied_there (x ∷ xs) from to same within =
    ap (option_map (λ y. set (x ∷ xs) to y)) (slice_get-get_or (x ∷ xs) from x within)
    ∙ ap Some (ap (λ k. set (x ∷ xs) to (get_or (x ∷ xs) k x)) same ∙ set-get_or (x ∷ xs) to x)
