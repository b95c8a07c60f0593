-- Lists of entries of which the same marks come: entries and their parts, and what comes of a list with more behind it.
use Rattle.std.proofs.Common.{◌≡◌, ℕ, zero, suc, ◌+◌, List, [], ◌∷◌, ◌++◌, Option, Some, None, refl, sym, subst}
use Rattle.std.proofs.Common.{zero-add, arith}
use Rattle.pearl_rules.specs.declared.entry.Entry.{Entry}
use Rattle.pearl_rules.specs.declared.entry.Entry.TheVariants.{Run, Tick, Pass}
use Rattle.pearl_rules.specs.Runs.{Coming, next_mark}
use Rattle.pearl_run_laws.specs.Parts.{IsParted, RunParts, TickParts, PassParts, FirstPass}

-- ENTRIES IN PARTS

-- an entry, or what makes the same marks in its place; what is left of an entry may make none
pub data IsInParts (one : Entry) (parts : List Entry) : Type 0 where
  Whole : parts ≡ one ∷ [] → IsInParts one parts
  Left : (picks : ℕ) → one ≡ Pass 0 picks → parts ≡ [] → IsInParts one parts
  Behind : (picks : ℕ) → one ≡ Run picks → parts ≡ Tick 0 ∷ Run picks ∷ [] → IsInParts one parts
  InTwo : IsParted one parts → IsInParts one parts

-- the second list has for each entry of the first its parts
abbrev pub AreParts : List Entry → List Entry → Type 0
AreParts [] ys = ys ≡ []
AreParts (one ∷ xs) ys =
    (parts : List Entry) × (rest : List Entry) × IsInParts one parts × (ys ≡ parts ++ rest) × AreParts xs rest

-- the same mark comes, or none, and what remains is in parts again
abbrev pub ComeAlike : Option Coming → Option Coming → Type 0
ComeAlike None None = Unit {0}
ComeAlike (Some a) (Some b) = (b.mark ≡ a.mark) × AreParts a.rest b.rest
ComeAlike a b = ⊥

-- one more entry before both
before_both : (one : Entry) (xs ys : List Entry) → AreParts xs ys → AreParts (one ∷ xs) (one ∷ ys)
before_both one xs ys are = (one ∷ [], ys, Whole refl, refl, are)

before_parts : (one : Entry) (parts xs ys : List Entry) → IsParted one parts → AreParts xs ys →
    AreParts (one ∷ xs) (parts ++ ys)
before_parts one parts xs ys is are = (parts, ys, InTwo is, refl, are)

pub same_parts : (xs : List Entry) → AreParts xs xs
same_parts [] = refl
same_parts (one ∷ xs) = before_both one xs xs (same_parts xs)

-- an entry in two parts, wherever it stands
pub parted_at : (before after : List Entry) (one : Entry) (parts : List Entry) → IsParted one parts →
    AreParts (before ++ one ∷ after) (before ++ (parts ++ after))
parted_at [] after one parts is = before_parts one parts after after is (same_parts after)
parted_at (first ∷ before) after one parts is =
    before_both first (before ++ one ∷ after) (before ++ (parts ++ after)) (parted_at before after one parts is)

pub come_same : (coming : Option Coming) → ComeAlike coming coming
come_same None = tt
come_same (Some coming) = (refl, same_parts coming.rest)

module _ (picked : Option ℕ) where
  -- before these entries the same marks come
  abbrev NextAlike : List Entry → List Entry → Type 0
  NextAlike xs ys = ComeAlike (next_mark picked xs) (next_mark picked ys)

-- of one more entry before both
whole_next : (picked : Option ℕ) (one : Entry) (xs ys : List Entry) → AreParts xs ys → NextAlike picked xs ys →
    NextAlike picked (one ∷ xs) (one ∷ ys)
whole_next None (Run n) xs ys are alike = alike
whole_next (Some t) (Run zero) xs ys are alike = alike
whole_next (Some t) (Run (suc n)) xs ys are alike = (refl, before_both (Run n) xs ys are)
whole_next picked (Tick zero) xs ys are alike = alike
whole_next picked (Tick (suc n)) xs ys are alike = (refl, before_both (Tick n) xs ys are)
whole_next picked (Pass zero picks) xs ys are alike = alike
whole_next picked (Pass (suc n) picks) xs ys are alike =
    (refl, before_both (Run picks) (Pass n picks ∷ xs) (Pass n picks ∷ ys) (before_both (Pass n picks) xs ys are))
whole_next picked other xs ys are alike = (refl, are)

run_next : (picked : Option ℕ) (a b : ℕ) (xs ys : List Entry) → AreParts xs ys → NextAlike picked xs ys →
    NextAlike picked (Run (a + b) ∷ xs) (Run a ∷ Run b ∷ ys)
run_next None a b xs ys are alike = alike
run_next (Some t) zero b xs ys are alike =
    subst (λ n. NextAlike (Some t) (Run n ∷ xs) (Run b ∷ ys)) (sym (zero-add b))
    (whole_next (Some t) (Run b) xs ys are alike)
run_next (Some t) (suc a) b xs ys are alike =
    let one : suc a + b ≡ suc (a + b) = omega arith in
    subst (λ n. NextAlike (Some t) (Run n ∷ xs) (Run (suc a) ∷ Run b ∷ ys)) (sym one)
    (refl, before_parts (Run (a + b)) (Run a ∷ Run b ∷ []) xs ys (RunParts a b refl refl) are)

tick_next : (picked : Option ℕ) (a b : ℕ) (xs ys : List Entry) → AreParts xs ys → NextAlike picked xs ys →
    NextAlike picked (Tick (a + b) ∷ xs) (Tick a ∷ Tick b ∷ ys)
tick_next picked zero b xs ys are alike =
    subst (λ n. NextAlike picked (Tick n ∷ xs) (Tick b ∷ ys)) (sym (zero-add b))
    (whole_next picked (Tick b) xs ys are alike)
tick_next picked (suc a) b xs ys are alike =
    let one : suc a + b ≡ suc (a + b) = omega arith in
    subst (λ n. NextAlike picked (Tick n ∷ xs) (Tick (suc a) ∷ Tick b ∷ ys)) (sym one)
    (refl, before_parts (Tick (a + b)) (Tick a ∷ Tick b ∷ []) xs ys (TickParts a b refl refl) are)

pass_next : (picked : Option ℕ) (a b picks : ℕ) (xs ys : List Entry) → AreParts xs ys → NextAlike picked xs ys →
    NextAlike picked (Pass (a + b) picks ∷ xs) (Pass a picks ∷ Pass b picks ∷ ys)
pass_next picked zero b picks xs ys are alike =
    subst (λ n. NextAlike picked (Pass n picks ∷ xs) (Pass b picks ∷ ys)) (sym (zero-add b))
    (whole_next picked (Pass b picks) xs ys are alike)
pass_next picked (suc a) b picks xs ys are alike =
    let one : suc a + b ≡ suc (a + b) = omega arith in
    subst (λ n. NextAlike picked (Pass n picks ∷ xs) (Pass (suc a) picks ∷ Pass b picks ∷ ys)) (sym one) (
      refl,
      before_both (Run picks) (Pass (a + b) picks ∷ xs) (Pass a picks ∷ Pass b picks ∷ ys)
          (before_parts (Pass (a + b) picks) (Pass a picks ∷ Pass b picks ∷ []) xs ys (PassParts a b picks refl refl)
          are),
    )

-- the millisecond of `tick 1` leaves `tick 0`, and that of `pass 1` leaves `pass 0`
first_next : (picked : Option ℕ) (picks : ℕ) (xs ys : List Entry) → AreParts xs ys →
    NextAlike picked (Pass 1 picks ∷ xs) (Tick 1 ∷ Run picks ∷ ys)
first_next picked picks xs ys are =
    (refl, (Tick 0 ∷ Run picks ∷ [], ys, Behind picks refl refl, refl, ([], ys, Left picks refl refl, refl, are)))

parted_next : (picked : Option ℕ) (one : Entry) (parts xs ys : List Entry) → IsParted one parts → AreParts xs ys →
    NextAlike picked xs ys →
    NextAlike picked (one ∷ xs) (parts ++ ys)
parted_next picked one parts xs ys (RunParts a b is are_two) are alike =
    rw (is, are_two) (run_next picked a b xs ys are alike)
parted_next picked one parts xs ys (TickParts a b is are_two) are alike =
    rw (is, are_two) (tick_next picked a b xs ys are alike)
parted_next picked one parts xs ys (PassParts a b picks is are_two) are alike =
    rw (is, are_two) (pass_next picked a b picks xs ys are alike)
parted_next picked one parts xs ys (FirstPass picks is are_two) are alike =
    rw (is, are_two) (first_next picked picks xs ys are)

first_in_parts : (picked : Option ℕ) (one : Entry) (parts xs ys : List Entry) → IsInParts one parts → AreParts xs ys →
    NextAlike picked xs ys → NextAlike picked (one ∷ xs) (parts ++ ys)
first_in_parts picked one parts xs ys (Whole is) are alike = rw is (whole_next picked one xs ys are alike)
first_in_parts picked one parts xs ys (Left picks is none) are alike = rw (is, none) alike
first_in_parts picked one parts xs ys (Behind picks is two) are alike =
    rw (is, two) (whole_next picked (Run picks) xs ys are alike)
first_in_parts picked one parts xs ys (InTwo is) are alike = parted_next picked one parts xs ys is are alike

-- of entries in parts the same marks come
pub parts_next : (picked : Option ℕ) (xs ys : List Entry) → AreParts xs ys → NextAlike picked xs ys
parts_next picked [] ys none = rw none tt
parts_next picked (one ∷ xs) ys (parts, rest, is, split, later) =
    rw split (first_in_parts picked one parts xs rest is later (parts_next picked xs rest later))

-- MORE ENTRIES

-- where a mark comes of the first entries, the same mark comes, and the others still remain; else what comes of the
-- others
abbrev pub ComesBefore : Option ℕ → List Entry → (first all : Option Coming) → Type 0
ComesBefore picked more None all = all ≡ next_mark picked more
ComesBefore picked more (Some coming) all = all ≡ Some (record { mark = coming.mark; rest = coming.rest ++ more })

pub next_before : (picked : Option ℕ) (es more : List Entry) →
    ComesBefore picked more (next_mark picked es) (next_mark picked (es ++ more))
next_before picked [] more = refl
next_before None (Run n ∷ es) more = next_before None es more
next_before (Some t) (Run zero ∷ es) more = next_before (Some t) es more
next_before (Some t) (Run (suc n) ∷ es) more = refl
next_before picked (Tick zero ∷ es) more = next_before picked es more
next_before picked (Tick (suc n) ∷ es) more = refl
next_before picked (Pass zero picks ∷ es) more = next_before picked es more
next_before picked (Pass (suc n) picks ∷ es) more = refl
next_before picked (other ∷ es) more = refl
