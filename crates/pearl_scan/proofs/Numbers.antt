-- What digits are that are read one after another.
use Rattle.std.proofs.Common.{◌≡◌, ◌<◌, ◌≤◌, ℕ, ◌+◌, ◌*◌, List, [], ◌∷◌, Bool, true, false, ◌&&◌, length, refl, arith, nat_le, sym, ◌∙◌}
use Rattle.std.proofs.lemmas.Bool.{leb-true, leb-false, le-leb, lt-leb}
use Rattle.std.specs.Prelude.{Option, Some, None, if◌then◌else◌}
use Rattle.std.specs.Char.{digit_value, is_ascii_digit}
use Rattle.std.specs.Str.{all_ascii_digits}
use Rattle.std.specs.Str.Parse.{digits_value, digits_value_after}
use Rattle.pearl_rules.specs.Literals.{at_most, number_up_to}
use Rattle.pearl_scan.specs.Digits.{followed}

abbrev pub and_then : Option ℕ → (ℕ → Option ℕ) → Option ℕ
and_then None go = None
and_then (Some n) go = go n

-- the number of these digits behind those of a number
abbrev pub number_from : ℕ → ℕ → List ℕ → Option ℕ
number_from limit n [] = Some n
number_from limit n (byte ∷ bytes) = and_then (followed limit n byte) (λ m. number_from limit m bytes)

more_digits : (n : ℕ) (bytes : List ℕ) → n ≤ digits_value_after 10 n bytes
more_digits n [] = omega arith
more_digits n (byte ∷ bytes) =
    let more : n * 10 + digit_value byte ≤ digits_value_after 10 (n * 10 + digit_value byte) bytes = more_digits (n * 10 + digit_value byte) bytes in omega arith

within : (limit n : ℕ) → n ≤ limit → at_most limit (Some n) ≡ Some n
within limit n below = rw (le-leb n limit below) refl

beyond : (limit n : ℕ) → limit < n → at_most limit (Some n) ≡ None
beyond limit n above = rw (lt-leb n limit above) refl

from_if : (digit below rest : Bool) (m : ℕ) (go : ℕ → Option ℕ) (o : Option ℕ) → (below ≡ true → go m ≡ (if rest then o else None)) → (below ≡ false → o ≡ None) →
    and_then (if digit then (if below then Some m else None) else None) go ≡ (if digit && rest then o else None)
from_if false below rest m go o small large = refl
from_if true true rest m go o small large = small refl
from_if true false true m go o small large = sym (large refl)
from_if true false false m go o small large = refl

-- it is the value of all digits, where they are digits and it is within the limit
number_from-value : (limit n : ℕ) (bytes : List ℕ) → n ≤ limit →
    number_from limit n bytes ≡ (if all_ascii_digits bytes then at_most limit (Some (digits_value_after 10 n bytes)) else None)
number_from-value limit n [] below = sym (within limit n below)
number_from-value limit n (byte ∷ bytes) below =
    let m = n * 10 + digit_value byte in
    from_if (is_ascii_digit byte) (nat_le m limit) (all_ascii_digits bytes) m (λ k. number_from limit k bytes) (at_most limit (Some (digits_value_after 10 m bytes)))
    (λ small. number_from-value limit m bytes (leb-true m limit small))
    (λ large. let above : limit < m = leb-false m limit large in beyond limit (digits_value_after 10 m bytes) (let more : m ≤ digits_value_after 10 m bytes = more_digits m bytes in omega arith))

at_most-if : (limit n : ℕ) (b : Bool) → (if b then at_most limit (Some n) else None) ≡ at_most limit (if b then Some n else None)
at_most-if limit n true = refl
at_most-if limit n false = refl

-- from the first digit on it is the number
pub number_from-start : (limit : ℕ) (bytes : List ℕ) → 0 < length bytes → number_from limit 0 bytes ≡ number_up_to limit bytes
number_from-start limit [] some = absurd (omega arith)
number_from-start limit (byte ∷ bytes) some =
    number_from-value limit 0 (byte ∷ bytes) (omega arith) ∙ at_most-if limit (digits_value 10 (byte ∷ bytes)) (all_ascii_digits (byte ∷ bytes))
