-- What the tests of bytes and lists say.
use Rattle.std.proofs.Common.{◌≡◌, ◌⊎◌, inl, inr, ◌<◌, ◌≤◌, ◌+◌, ℕ, suc, Bool, true, false, ◌&&◌, ◌||◌, nat_le, nat_lt, List, [], ◌∷◌, take, eqb, All, Option, IfSome, if◌then◌else◌, refl, subst, arith}
use Rattle.std.specs.Char.{is_ascii_alphabetic, is_ascii_digit}
use Rattle.std.specs.List.{prefix_len}
use Rattle.std.proofs.lemmas.Bool.Decides.{nat_tests}
use Rattle.std.proofs.lemmas.List.Elements.{All-nil, All-cons}
use Rattle.pearl_tree.specs.Tokens.{IsLetter, IsDigit, IsIdByte}
use Rattle.pearl_lex.specs.Spelling.{is_id_byte}

pub and_front : (a b : Bool) → (a && b) ≡ true → a ≡ true
and_front true b e = refl
and_front false b e = e

pub and_back : (a b : Bool) → (a && b) ≡ true → b ≡ true
and_back true b e = e
and_back false b e = absurd (let f = e in cc f)

pub or_cases : (a b : Bool) → (a || b) ≡ true → (a ≡ true) ⊎ (b ≡ true)
or_cases true b e = inl refl
or_cases false b e = inr e

pub at_most : (a b : ℕ) → nat_le a b ≡ true → a ≤ b
at_most a b h = grind (arith, nat_tests)

pub less : (a b : ℕ) → nat_lt a b ≡ true → a < b
less a b h = grind (arith, nat_tests)

pub equal : (a b : ℕ) → eqb a b ≡ true → a ≡ b
equal a b h = grind (arith, nat_tests)

pub range : (low high b : ℕ) → (nat_le low b && nat_le b high) ≡ true → (low ≤ b) × (b ≤ high)
range low high b h = (at_most low b (and_front (nat_le low b) (nat_le b high) h), at_most b high (and_back (nat_le low b) (nat_le b high) h))

pub digit : (b : ℕ) → is_ascii_digit b ≡ true → IsDigit b
digit b h = range 48 57 b h

pub letter : (b : ℕ) → is_ascii_alphabetic b ≡ true → IsLetter b
letter b h = by (or_cases (nat_le 65 b && nat_le b 90) (nat_le 97 b && nat_le b 122) h)
  where
    by : ((nat_le 65 b && nat_le b 90) ≡ true) ⊎ ((nat_le 97 b && nat_le b 122) ≡ true) → IsLetter b
    by (inl h) = inl (range 65 90 b h)
    by (inr h) = inr (range 97 122 b h)

letter_or_digit : (b : ℕ) → (is_ascii_alphabetic b ≡ true) ⊎ (is_ascii_digit b ≡ true) → IsIdByte b
letter_or_digit b (inl h) = inl (letter b h)
letter_or_digit b (inr h) = inr (inl (digit b h))

pub id_byte : (b : ℕ) → is_id_byte b ≡ true → IsIdByte b
id_byte b h = by (or_cases (is_ascii_alphabetic b || is_ascii_digit b) (eqb b 95) h)
  where
    by : ((is_ascii_alphabetic b || is_ascii_digit b) ≡ true) ⊎ (eqb b 95 ≡ true) → IsIdByte b
    by (inl h) = letter_or_digit b (or_cases (is_ascii_alphabetic b) (is_ascii_digit b) h)
    by (inr h) = inr (inr (equal b 95 h))

pub one_more : (n : ℕ) → suc n ≡ 1 + n
one_more n = omega arith

-- the bytes of a run that pass the test have what the test tells
pub all_prefix : (p : ℕ → Bool) (P : ℕ → Type 0) (xs : List ℕ) → ((x : ℕ) → p x ≡ true → P x) → All P (take (prefix_len p xs) xs)
all_prefix p P [] tells = All-nil P
all_prefix p P (x ∷ xs) tells = by (p x) refl (all_prefix p P xs tells)
  where
    by : (b : Bool) → p x ≡ b → All P (take (prefix_len p xs) xs) → All P (take (if b then 1 + prefix_len p xs else 0) (x ∷ xs))
    by true e all = subst (λ n. All P (take n (x ∷ xs))) (one_more (prefix_len p xs)) (All-cons P x (take (prefix_len p xs) xs) (tells x e) all)
    by false e all = All-nil P

-- what both branches have
pub choose : {X : Type 0} (P : X → Type 0) (b : Bool) (x y : Option X) → (b ≡ true → IfSome x P) → (b ≡ false → IfSome y P) → IfSome (if b then x else y) P
choose P true x y here there = here refl
choose P false x y here there = there refl
