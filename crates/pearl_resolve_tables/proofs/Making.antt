-- Lists that are made one part after the other: what is made so far, joined with what is still to be made, stays the same.
use Rattle.std.proofs.Common.{◌≡◌, ℕ, zero, suc, ◌+◌, ◌<◌, ◌≤◌, List, [], ◌∷◌, ◌++◌, length, drop, drop-cons, get_or, slice_get, option_map, unwrap_or, refl, sym, ap, ◌∙◌, append_assoc, append-nil, arith}
use Rattle.std.proofs.lemmas.List.{drop_all}
use Rattle.pearl_tree.specs.declared.name.Name.{Name}
use Rattle.pearl_tree.specs.declared.name.Number.{Number}
use Rattle.pearl_resolve_tables.specs.Presets.{presets}

-- what is left of a list from an element on
pub one_left : {X : Type 0} (xs : List X) (i : ℕ) (x : X) → i < length xs → x ≡ get_or xs i x → drop i xs ≡ x ∷ drop (i + 1) xs
one_left xs i x inside is =
    let next : suc i ≡ i + 1 = omega arith in
    drop-cons xs i x inside ∙ (λ j. sym is j ∷ drop (next j) xs)

-- one part more
pub made_more : {X Y : Type 0} (all : List X → List Y) (one : X → List Y) → ((x : X) (rest : List X) → all (x ∷ rest) ≡ one x ++ all rest) →
    (xs : List X) (i : ℕ) (x : X) (made new total : List Y) → i < length xs → x ≡ get_or xs i x → new ≡ made ++ one x →
    made ++ all (drop i xs) ≡ total → new ++ all (drop (i + 1) xs) ≡ total
made_more all one step xs i x made new total inside is added so =
    ap (λ l. l ++ all (drop (i + 1) xs)) added
    ∙ append_assoc made (one x) (all (drop (i + 1) xs))
    ∙ ap (λ l. made ++ l) (sym (ap all (one_left xs i x inside is) ∙ step x (drop (i + 1) xs)))
    ∙ so

-- all parts
pub made_all : {X Y : Type 0} (all : List X → List Y) → all [] ≡ [] → (xs : List X) (i : ℕ) (made total : List Y) → length xs ≤ i →
    made ++ all (drop i xs) ≡ total → made ≡ total
made_all all none xs i made total past so =
    sym (append-nil made) ∙ ap (λ l. made ++ l) (sym (ap all (drop_all i xs past) ∙ none)) ∙ so

-- the number of the next name
abbrev pub preset_at : List Number → ℕ → ℕ
preset_at numbers i = unwrap_or (option_map (λ (number : Number). number.value) (slice_get numbers i)) 0

none_left : (names : List Name) (i : ℕ) → i < length names → presets (drop i names) [] ≡ 0 ∷ presets (drop (suc i) names) []
none_left [] i inside = absurd (omega (arith, inside))
none_left (name ∷ names) zero inside = refl
none_left (name ∷ names) (suc i) inside = none_left names i (omega (arith, inside))

next_preset : (names : List Name) (numbers : List Number) (i : ℕ) → i < length names →
    presets (drop i names) (drop i numbers) ≡ preset_at numbers i ∷ presets (drop (suc i) names) (drop (suc i) numbers)
next_preset [] numbers i inside = absurd (omega (arith, inside))
next_preset (name ∷ names) [] zero inside = refl
next_preset (name ∷ names) (number ∷ numbers) zero inside = refl
next_preset (name ∷ names) [] (suc i) inside = none_left names i (omega (arith, inside))
next_preset (name ∷ names) (number ∷ numbers) (suc i) inside = next_preset names numbers i (omega (arith, inside))

-- the preset of one name more
pub presets_more : (names : List Name) (numbers : List Number) (i value : ℕ) (made new total : List ℕ) → i < length names → value ≡ preset_at numbers i →
    new ≡ made ++ value ∷ [] → made ++ presets (drop i names) (drop i numbers) ≡ total → new ++ presets (drop (i + 1) names) (drop (i + 1) numbers) ≡ total
presets_more names numbers i value made new total inside is added so =
    let next : i + 1 ≡ suc i = omega arith in
    (λ j. added j ++ presets (drop (next j) names) (drop (next j) numbers))
    ∙ append_assoc made (value ∷ []) (presets (drop (suc i) names) (drop (suc i) numbers))
    ∙ (λ j. made ++ is j ∷ presets (drop (suc i) names) (drop (suc i) numbers))
    ∙ ap (λ l. made ++ l) (sym (next_preset names numbers i inside))
    ∙ so
