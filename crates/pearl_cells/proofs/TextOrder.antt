-- The order of two texts, by the bytes that both have and by those that one alone has.
use Rattle.std.proofs.Common.{◌≡◌, ℕ, ◌-◌, List, [], ◌∷◌, ◌++◌, length, take, drop, replicate, refl, sym, ap, ◌∙◌, arith, length-append}
use Rattle.std.proofs.lemmas.List.{append-nil, take-append-drop}
use Rattle.std.specs.declared.cmp.Ordering.{Ordering}
use Rattle.std.specs.declared.cmp.Ordering.TheVariants.{Less, Equal, Greater}
use Rattle.std.specs.Ordering.{nat_cmp, ordering_then}
use Rattle.std.specs.Cmp.Lexicographic.{slice_cmp}
use Rattle.pearl_value.specs.Blanks.{filled_to}
use Rattle.pearl_value.specs.Comparisons.{text_cmp}

then_assoc : (a b c : Ordering) → ordering_then (ordering_then a b) c ≡ ordering_then a (ordering_then b c)
then_assoc Less b c = refl
then_assoc Equal b c = refl
then_assoc Greater b c = refl

-- the first part of one list is as long as that of the other
cmp_append : (p q x y : List ℕ) → length p ≡ length q → slice_cmp nat_cmp (p ++ x) (q ++ y) ≡ ordering_then (slice_cmp nat_cmp p q) (slice_cmp nat_cmp x y)
cmp_append [] [] x y e = refl
cmp_append [] (b ∷ q) x y e = absurd (omega (arith, e))
cmp_append (a ∷ p) [] x y e = absurd (omega (arith, e))
cmp_append (a ∷ p) (b ∷ q) x y e =
    ap (ordering_then (nat_cmp a b)) (cmp_append p q x y (omega (arith, e)))
    ∙ sym (then_assoc (nat_cmp a b) (slice_cmp nat_cmp p q) (slice_cmp nat_cmp x y))

-- the second text is `front`, which is as long as the first one, and `rest`
shorter : (text other front rest : List ℕ) → other ≡ front ++ rest → length front ≡ length text →
    text_cmp text other ≡ ordering_then (slice_cmp nat_cmp text front) (slice_cmp nat_cmp (replicate (length rest) 32) rest)
shorter text other front rest parts same =
    let long = ap length parts ∙ length-append front rest in
    let more : length other - length text ≡ length rest = omega (arith, long, same) in
    let none : length text - length other ≡ 0 = omega (arith, long, same) in
    let whole : filled_to (length text) other ≡ front ++ rest = ap (λ n. other ++ replicate n 32) none ∙ (append-nil other ∙ parts) in
    ap (λ n. slice_cmp nat_cmp (text ++ replicate n 32) (filled_to (length text) other)) more
    ∙ (ap (slice_cmp nat_cmp (text ++ replicate (length rest) 32)) whole ∙ cmp_append text front (replicate (length rest) 32) rest (sym same))

-- the first text is `front`, which is as long as the second one, and `rest`
longer : (text other front rest : List ℕ) → text ≡ front ++ rest → length front ≡ length other →
    text_cmp text other ≡ ordering_then (slice_cmp nat_cmp front other) (slice_cmp nat_cmp rest (replicate (length rest) 32))
longer text other front rest parts same =
    let long = ap length parts ∙ length-append front rest in
    let more : length text - length other ≡ length rest = omega (arith, long, same) in
    let none : length other - length text ≡ 0 = omega (arith, long, same) in
    let whole : filled_to (length other) text ≡ front ++ rest = ap (λ n. text ++ replicate n 32) none ∙ (append-nil text ∙ parts) in
    ap (λ n. slice_cmp nat_cmp (filled_to (length other) text) (other ++ replicate n 32)) more
    ∙ (ap (λ whole. slice_cmp nat_cmp whole (other ++ replicate (length rest) 32)) whole ∙ cmp_append front other rest (replicate (length rest) 32) same)

then_first : (o p : Ordering) → (o ≡ Equal → ⊥) → ordering_then o p ≡ o
then_first Less p unequal = refl
then_first Equal p unequal = absurd (unequal refl)
then_first Greater p unequal = refl

then_second : (o p : Ordering) → o ≡ Equal → ordering_then o p ≡ p
then_second o p tied = ap (λ o. ordering_then o p) tied

parts_of : (whole front rest : List ℕ) (n : ℕ) → front ≡ take n whole → rest ≡ drop n whole → whole ≡ front ++ rest
parts_of whole front rest n front_is rest_is =
    sym (take-append-drop n whole) ∙ (ap (λ xs. xs ++ drop n whole) (sym front_is) ∙ ap (λ xs. front ++ xs) (sym rest_is))

pub shorter_told : (text other front rest : List ℕ) (first : Ordering) → front ≡ take (length text) other → rest ≡ drop (length text) other → length front ≡ length text →
    first ≡ slice_cmp nat_cmp text front → (first ≡ Equal → ⊥) → first ≡ text_cmp text other
shorter_told text other front rest first front_is rest_is long is unequal =
    let whole = parts_of other front rest (length text) front_is rest_is in
    is ∙ sym (shorter text other front rest whole long ∙ then_first (slice_cmp nat_cmp text front) _ (λ e. unequal (is ∙ e)))

pub shorter_tied : (text other front rest blanks : List ℕ) (first second : Ordering) → front ≡ take (length text) other → rest ≡ drop (length text) other → length front ≡ length text →
    first ≡ slice_cmp nat_cmp text front → first ≡ Equal → blanks ≡ replicate (length rest) 32 → second ≡ slice_cmp nat_cmp blanks rest → second ≡ text_cmp text other
shorter_tied text other front rest blanks first second front_is rest_is long is tied blank last =
    let whole = parts_of other front rest (length text) front_is rest_is in
    last ∙ (ap (λ b. slice_cmp nat_cmp b rest) blank
    ∙ sym (shorter text other front rest whole long ∙ then_second (slice_cmp nat_cmp text front) _ (sym is ∙ tied)))

pub longer_told : (text other front rest : List ℕ) (first : Ordering) → front ≡ take (length other) text → rest ≡ drop (length other) text → length front ≡ length other →
    first ≡ slice_cmp nat_cmp front other → (first ≡ Equal → ⊥) → first ≡ text_cmp text other
longer_told text other front rest first front_is rest_is long is unequal =
    let whole = parts_of text front rest (length other) front_is rest_is in
    is ∙ sym (longer text other front rest whole long ∙ then_first (slice_cmp nat_cmp front other) _ (λ e. unequal (is ∙ e)))

pub longer_tied : (text other front rest blanks : List ℕ) (first second : Ordering) → front ≡ take (length other) text → rest ≡ drop (length other) text → length front ≡ length other →
    first ≡ slice_cmp nat_cmp front other → first ≡ Equal → blanks ≡ replicate (length rest) 32 → second ≡ slice_cmp nat_cmp rest blanks → second ≡ text_cmp text other
longer_tied text other front rest blanks first second front_is rest_is long is tied blank last =
    let whole = parts_of text front rest (length other) front_is rest_is in
    last ∙ (ap (slice_cmp nat_cmp rest) blank
    ∙ sym (longer text other front rest whole long ∙ then_second (slice_cmp nat_cmp front other) _ (sym is ∙ tied)))
