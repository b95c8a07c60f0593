-- What becomes of the rows of waiting tasks.
use Rattle.std.proofs.Common.{◌≡◌, ◌≢◌, ℕ, zero, suc, ◌+◌, ◌-◌, ◌*◌, ◌/◌, ◌%◌, ◌<◌, ◌≤◌, ◌⊎◌, inl, inr, Bool, true, false, ◌||◌, nat_eq, List, [], ◌∷◌, length, get_or, set, replicate, refl, sym, ap, subst, ◌∙◌, arith, eqb-true, eq-eqb, length-set, get_or-set_same, get_or-set_other}
use Rattle.std.specs.Prelude.{map}
use Rattle.std.specs.Int.{bit_at}
use Rattle.std.specs.List.{AllByRecursion}
use Rattle.std.proofs.lemmas.Bool.{cases_eq, cases_lt, false≢true, or_cases}
use Rattle.std.proofs.lemmas.List.{get_or_past, get_or-replicate, length-replicate, length-map, get_or-map}
use Rattle.std.proofs.lemmas.Nat.Bits.{bit_at-zero}
use Rattle.pearl_bits.specs.Bits.{bit}
use Rattle.pearl_bits.proofs.Offered.{bit_small}
use Rattle.pearl_rules.specs.Counts.{count_at, lowered, raised}
use Rattle.pearl_sema.proofs.Counting.{there_at}
use Rattle.pearl_sema.specs.Waiting.{AreCounts, names, Waits}
use Rattle.pearl_sema.specs.Rows.{AreRows, IsSound, AreMarked}

place_is : (p t q u : ℕ) → t < 256 → u < 256 → p * 256 + t ≡ q * 256 + u → (p ≡ q) × (t ≡ u)
place_is p t q u a b e = (omega arith, omega arith)

-- MARKS

pub marked_at_first : (rows list : List ℕ) (task b : ℕ) → AreMarked rows rows list task b 0
marked_at_first rows list task b = record {
  words = refl;
  these = λ k less. absurd (omega arith);
  others = λ j apart. refl;
}

-- a list names what stands at a place of it
pub named_at : (list : List ℕ) (k : ℕ) → k < length list → names list (get_or list k 0) ≡ true
named_at [] k less = let no : ⊥ = omega (arith, less) in absurd no
named_at (x ∷ list) zero less = ap (λ b. b || names list x) (eq-eqb x x refl)
named_at (x ∷ list) (suc k) less = or_right (nat_eq x (get_or list k 0)) (names list (get_or list k 0)) (named_at list k (omega (arith, less)))
  where
    or_right : (a b : Bool) → b ≡ true → (a || b) ≡ true
    or_right true b is = refl
    or_right false b is = is

pub place_of_named : (list : List ℕ) (s : ℕ) → names list s ≡ true → (k : ℕ) × (k < length list) × (get_or list k 0 ≡ s)
place_of_named [] s is = absurd (false≢true is)
place_of_named (x ∷ list) s is = elim (or_cases (nat_eq x s) (names list s) is) [
  | inl here ↦ (0, omega arith, eqb-true x s here)
  | inr later ↦ let found = place_of_named list s later in (suc found.0, omega (arith, found.1), found.2)
]

-- the bits of a task after its marks
module _ (old new list : List ℕ) (task b : ℕ) (small : task < 256) (are : AreMarked old new list task b (length list)) where
  pub mark_named : (s : ℕ) → names list s ≡ true → bit new (s * 256 + task) ≡ b
  mark_named s is = let found = place_of_named list s is in ap (λ s. bit new (s * 256 + task)) (sym found.2) ∙ are.these found.0 found.1

  pub mark_other : (s t : ℕ) → t < 256 → (t ≢ task) ⊎ (names list s ≡ false) → bit new (s * 256 + t) ≡ bit old (s * 256 + t)
  mark_other s t low (inl differs) = are.others (s * 256 + t) (λ k less e. differs (place_is s t (get_or list k 0) task low small e).1)
  mark_other s t low (inr out) = are.others (s * 256 + t) (λ k less e.
      let same = (place_is s t (get_or list k 0) task low small e).0 in
      false≢true (sym out ∙ (ap (names list) same ∙ named_at list k less)))

-- THE START

no_bit : (n i : ℕ) → bit (replicate n 0) i ≡ 0
unfolding bit
no_bit n i = elim (cases_lt (i / 64) n) [
  | inl less ↦ ap (λ word. bit_at word (i % 64)) (get_or-replicate n (i / 64) 0 0 less) ∙ bit_at-zero (i % 64)
  | inr past ↦ ap (λ word. bit_at word (i % 64)) (get_or_past (replicate n 0) (i / 64) 0 (omega (arith, past, length-replicate {A = ℕ} n 0))) ∙ bit_at-zero (i % 64)
]

none_waits_there : (n t : ℕ) → get_or (replicate {A = List ℕ} n []) t [] ≡ []
none_waits_there zero t = refl
none_waits_there (suc n) zero = refl
none_waits_there (suc n) (suc t) = none_waits_there n t

pub rows_of_none : (counts tasks : ℕ) → tasks ≤ 200 → AreRows counts (replicate tasks []) (replicate (counts * 4) 0)
rows_of_none counts tasks small = record {
  few = omega (arith, length-replicate {A = List ℕ} tasks [], small);
  words = length-replicate {A = ℕ} (counts * 4) 0;
  there = λ t s is. absurd (never t s is);
  member = λ t s is. absurd (never t s is);
  real = λ t s few within is. let no = no_bit (counts * 4) (s * 256 + t) in absurd (omega (arith, is, no));
}
  where
    never : (t s : ℕ) → Waits (replicate tasks []) s t → ⊥
    never t s is = false≢true (ap (λ list. names list s) (sym (none_waits_there tasks t)) ∙ is)

-- COUNTS

lowered_length : (counts list : List ℕ) → length (lowered counts list) ≡ length counts
lowered_length counts [] = refl
lowered_length counts (s ∷ list) = lowered_length (set counts s (count_at counts s - 1)) list ∙ length-set counts s (count_at counts s - 1)

raised_length : (counts list : List ℕ) → length (raised counts list) ≡ length counts
raised_length counts [] = refl
raised_length counts (s ∷ list) = raised_length (set counts s (count_at counts s + 1)) list ∙ length-set counts s (count_at counts s + 1)

pub sound_lowered : (counts list : List ℕ) (waiting : List (List ℕ)) (rows : List ℕ) → IsSound counts waiting rows → AreCounts (lowered counts list) → IsSound (lowered counts list) waiting rows
sound_lowered counts list waiting rows is small = record { small = small; marks = subst (λ n. AreRows n waiting rows) (sym (lowered_length counts list)) is.marks }

pub sound_raised : (counts list : List ℕ) (waiting : List (List ℕ)) (rows : List ℕ) → IsSound counts waiting rows → AreCounts (raised counts list) → IsSound (raised counts list) waiting rows
sound_raised counts list waiting rows is small = record { small = small; marks = subst (λ n. AreRows n waiting rows) (sym (raised_length counts list)) is.marks }

-- where the marks of a list are
pub within_rows : (counts : ℕ) (waiting : List (List ℕ)) (rows list : List ℕ) (task : ℕ) → AreRows counts waiting rows → list ≡ get_or waiting task [] → (k : ℕ) → k < length list → get_or list k 0 * 4 + 3 < length rows
within_rows counts waiting rows list task are is k less =
    let there = are.there task (get_or list k 0) (ap (λ l. names l (get_or list k 0)) (sym is) ∙ named_at list k less) in
    omega (arith, there.1, are.words)

pub named_within : (counts : ℕ) (list : List ℕ) → AllByRecursion (λ s. s < counts) list → (s : ℕ) → names list s ≡ true → s < counts
named_within counts list there s is = let found = place_of_named list s is in let h = there_at counts list found.0 there found.1 in omega (arith, h, found.2)

-- WHO WAITS

waits_here : (waiting : List (List ℕ)) (task : ℕ) (list : List ℕ) (s t : ℕ) → task < length waiting → t ≡ task → Waits (set waiting task list) s t → names list s ≡ true
waits_here waiting task list s t there same is = ap (λ list. names list s) (sym (get_or-set_same waiting task list [] there)) ∙ subst (λ t. names (get_or (set waiting task list) t []) s ≡ true) same is

waits_other : (waiting : List (List ℕ)) (task : ℕ) (list : List ℕ) (s t : ℕ) → t ≢ task → get_or (set waiting task list) t [] ≡ get_or waiting t []
waits_other waiting task list s t differs = get_or-set_other waiting task t list [] differs

-- a task's marks are lowered, and then those of another list are raised
pub rows_waiting : (counts : ℕ) (waiting : List (List ℕ)) (rows low new list : List ℕ) (task : ℕ) → AreRows counts waiting rows → task < length waiting → ((s : ℕ) → names list s ≡ true → s < counts) →
    AreMarked rows low (get_or waiting task []) task 0 (length (get_or waiting task [])) → AreMarked low new list task 1 (length list) → AreRows counts (set waiting task list) new
rows_waiting counts waiting rows low new list task are there named lowered raised = record {
  few = omega (arith, length-set waiting task list, are.few);
  words = raised.words ∙ (lowered.words ∙ are.words);
  there = λ t s is. elim (cases_eq t task) [
    | inl same ↦ (omega (arith, same, there, are.few), named s (waits_here waiting task list s t there same is))
    | inr differs ↦ are.there t s (old t s differs is)
  ];
  member = λ t s is. elim (cases_eq t task) [
    | inl same ↦ ap (λ t. bit new (s * 256 + t)) same ∙ mark_named low new list task 1 small raised s (waits_here waiting task list s t there same is)
    | inr differs ↦
        let was = are.there t s (old t s differs is) in
        let few : t < 256 = omega (arith, was.0) in
        mark_other low new list task 1 small raised s t few (inl differs) ∙ (mark_other rows low (get_or waiting task []) task 0 small lowered s t few (inl differs) ∙ are.member t s (old t s differs is))
  ];
  real = λ t s few within is. elim (cases_eq t task) [
    | inl same ↦ by_name t s few within is same (names list s) refl
    | inr differs ↦
        ap (λ list. names list s) (waits_other waiting task list s t differs)
        ∙ are.real t s few within (sym (mark_other rows low (get_or waiting task []) task 0 small lowered s t few (inl differs)) ∙ (sym (mark_other low new list task 1 small raised s t few (inl differs)) ∙ is))
  ];
}
  where
    small : task < 256
    small = omega (arith, there, are.few)

    old : (t s : ℕ) → t ≢ task → Waits (set waiting task list) s t → Waits waiting s t
    old t s differs is = ap (λ list. names list s) (sym (waits_other waiting task list s t differs)) ∙ is

    none_left : (s : ℕ) → s < counts → bit low (s * 256 + task) ≡ 0
    none_left s within = by_old (names (get_or waiting task []) s) refl
      where
        by_old : (b : Bool) → names (get_or waiting task []) s ≡ b → bit low (s * 256 + task) ≡ 0
        by_old true e = mark_named rows low (get_or waiting task []) task 0 small lowered s e
        by_old false e =
            mark_other rows low (get_or waiting task []) task 0 small lowered s task small (inr e)
            ∙ elim (cases_eq (bit rows (s * 256 + task)) 1) [
              | inl set_ ↦ absurd (false≢true (sym e ∙ are.real task s small within set_))
              | inr not ↦ let low = bit_small rows (s * 256 + task) in omega arith
            ]

    by_name : (t s : ℕ) → t < 256 → s < counts → bit new (s * 256 + t) ≡ 1 → t ≡ task → (b : Bool) → names list s ≡ b → Waits (set waiting task list) s t
    by_name t s few within is same true e = ap (λ t. names (get_or (set waiting task list) t []) s) same ∙ (ap (λ list. names list s) (get_or-set_same waiting task list [] there) ∙ e)
    by_name t s few within is same false e =
        let is' : bit new (s * 256 + task) ≡ 1 = ap (λ t. bit new (s * 256 + t)) (sym same) ∙ is in
        let no = mark_other low new list task 1 small raised s task small (inr e) ∙ none_left s within in
        absurd (omega (arith, is', no))

-- marks of no list change nothing
pub marked_none : (rows : List ℕ) (task b : ℕ) → AreMarked rows rows [] task b 0
marked_none rows task b = marked_at_first rows [] task b

-- LISTS IN A VECTOR

pub mapped_length : {X : Type 0} (f : X → List ℕ) (xs : List X) (t : ℕ) → t < length (map f xs) → t < length xs
mapped_length f xs t less = omega (arith, less, length-map xs f)

pub list_at : {X : Type 0} (f : X → List ℕ) (xs : List X) (t : ℕ) (x : X) → t < length xs → x ≡ get_or xs t x → f x ≡ get_or (map f xs) t []
list_at f xs t x less is = ap f is ∙ sym (get_or-map f xs t x [] less)
