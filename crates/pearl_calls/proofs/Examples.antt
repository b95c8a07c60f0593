-- Calls that lead back, the numbers of five procedures, and what they weigh.
use Rattle.std.specs.Prelude.{◌≡◌, ℕ, zero, suc, ◌<◌, Bool, true, false, List, [], ◌∷◌, nat_eq}
use Rattle.std.specs.List.{list_any}
use Rattle.std.proofs.Common.{refl, arith}
use Rattle.pearl_calls.specs.Callers.{Caller}
use Rattle.pearl_calls.specs.Cycles.{calls_itself}
use Rattle.pearl_calls.specs.Numberings.{is_ready, IsNumbering}
use Rattle.pearl_calls.specs.Weights.{capped, whole_weight, weights_of}

abbrev caller : ℕ → List ℕ → Caller
caller own calls = record { own = own; calls = calls }

-- the second, the third and the fourth call each other in turn; the first calls the second
abbrev turning : List Caller
turning = caller 1 (1 ∷ []) ∷ caller 1 (2 ∷ 7 ∷ []) ∷ caller 1 (3 ∷ []) ∷ caller 1 (1 ∷ []) ∷ []

leads_to_a_turn : calls_itself turning 0 ≡ false
leads_to_a_turn = refl

turns_in_three : calls_itself turning 1 ≡ true
turns_in_three = refl

turns_too : calls_itself turning 3 ≡ true
turns_too = refl

names_none : calls_itself turning 7 ≡ false
names_none = refl

calls_itself_at_once : calls_itself (caller 1 (0 ∷ []) ∷ []) 0 ≡ true
calls_itself_at_once = refl

turning_is_not_ready : is_ready turning [] 0 ≡ false
turning_is_not_ready = refl

-- the first calls the fourth, and a number that names none; the third calls the fifth twice, and the second
abbrev source : List Caller
source = caller 1 (3 ∷ 9 ∷ []) ∷ caller 20 [] ∷ caller 300 (4 ∷ 4 ∷ 1 ∷ []) ∷ caller 4000 [] ∷ caller 50000 (0 ∷ []) ∷ []

below_one : (test : ℕ → Bool) → test 0 ≡ false → (n : ℕ) → n < 1 → test n ≡ false
below_one test a zero less = a
below_one test a (suc n) less = absurd (omega (arith, less))

below_three : (test : ℕ → Bool) → test 0 ≡ false → test 1 ≡ false → test 2 ≡ false → (n : ℕ) → n < 3 → test n ≡ false
below_three test a b c zero less = a
below_three test a b c (suc zero) less = b
below_three test a b c (suc (suc zero)) less = c
below_three test a b c (suc (suc (suc n))) less = absurd (omega (arith, less))

below_four : (test : ℕ → Bool) → test 0 ≡ false → test 1 ≡ false → test 2 ≡ false → test 3 ≡ false → (n : ℕ) → n < 4 → test n ≡ false
below_four test a b c d zero less = a
below_four test a b c d (suc zero) less = b
below_four test a b c d (suc (suc zero)) less = c
below_four test a b c d (suc (suc (suc zero))) less = d
below_four test a b c d (suc (suc (suc (suc n)))) less = absurd (omega (arith, less))

all_five : (n : ℕ) → n < 5 → list_any (nat_eq n) (1 ∷ 3 ∷ 0 ∷ 4 ∷ 2 ∷ []) ≡ true
all_five zero less = refl
all_five (suc zero) less = refl
all_five (suc (suc zero)) less = refl
all_five (suc (suc (suc zero))) less = refl
all_five (suc (suc (suc (suc zero)))) less = refl
all_five (suc (suc (suc (suc (suc n))))) less = absurd (omega (arith, less))

-- the first is numbered before the fifth as soon as the fourth has a number
numbers_of_source : IsNumbering source (1 ∷ 3 ∷ 0 ∷ 4 ∷ 2 ∷ [])
numbers_of_source = record {
  by_rule = (
    record { ready = refl; first = below_one (is_ready source []) refl },
    (
      record { ready = refl; first = below_three (is_ready source (1 ∷ [])) refl refl refl },
      (
        record { ready = refl; first = λ n less. absurd (omega (arith, less)) },
        (
          record { ready = refl; first = below_four (is_ready source (1 ∷ 3 ∷ 0 ∷ [])) refl refl refl refl },
          (record { ready = refl; first = λ n less. only_last n less }, tt),
        ),
      ),
    ),
  );
  whole = all_five;
}
  where
    only_last : (n : ℕ) → n < 2 → is_ready source (1 ∷ 3 ∷ 0 ∷ 4 ∷ []) n ≡ false
    only_last zero less = refl
    only_last (suc zero) less = refl
    only_last (suc (suc n)) less = absurd (omega (arith, less))

weights_of_source : weights_of source ≡ 4001 ∷ 20 ∷ 54301 ∷ 4000 ∷ 54001 ∷ []
weights_of_source = refl

-- a task that calls the second and none
weight_of_task : whole_weight source (caller 7 (1 ∷ 9 ∷ [])) ≡ 27
weight_of_task = refl

weight_at_the_limit : capped (whole_weight source (caller 4294967276 (1 ∷ []))) ≡ 4294967295
weight_at_the_limit = refl
