-- What digits are that are read one after another.
use Rattle.std.proofs.Common.{◌≡◌, ◌<◌, ◌≤◌, ◌^◌, ℕ, ◌+◌, ◌*◌, List, [], ◌∷◌, Bool, true, false, ◌&&◌, length, refl, arith, nat_lt, lit<, sym}
use Rattle.std.proofs.lemmas.Bool.{lt-ltb, le-ltb, ltb-true, ltb-false}
use Rattle.std.specs.Prelude.{Option, Some, None, if◌then◌else◌}
use Rattle.std.specs.Char.{digit_value, is_ascii_digit}
use Rattle.std.specs.Str.{all_ascii_digits}
use Rattle.std.specs.Str.Parse.{digits_value_after}
use Rattle.pearl_journal.specs.Words.{followed, limited, number}

abbrev pub and_then : Option ℕ → (ℕ → Option ℕ) → Option ℕ
and_then None go = None
and_then (Some n) go = go n

-- the number of these digits behind those of a number
abbrev pub number_from : ℕ → List ℕ → Option ℕ
number_from n [] = Some n
number_from n (byte ∷ bytes) = and_then (followed n byte) (λ m. number_from m bytes)

more_digits : (n : ℕ) (bytes : List ℕ) → n ≤ digits_value_after 10 n bytes
more_digits n [] = omega arith
more_digits n (byte ∷ bytes) =
    let more : n * 10 + digit_value byte ≤ digits_value_after 10 (n * 10 + digit_value byte) bytes = more_digits (n * 10 + digit_value byte) bytes in omega arith

limited-below : (n : ℕ) → n < 2 ^ 63 → limited n ≡ Some n
limited-below n below = rw (lt-ltb n (2 ^ 63) below) refl

limited-above : (n : ℕ) → 2 ^ 63 ≤ n → limited n ≡ None
limited-above n above = rw (le-ltb n (2 ^ 63) above) refl

from_if : (digit below rest : Bool) (m : ℕ) (go : ℕ → Option ℕ) (o : Option ℕ) → (below ≡ true → go m ≡ (if rest then o else None)) → (below ≡ false → o ≡ None) →
    and_then (if digit then (if below then Some m else None) else None) go ≡ (if digit && rest then o else None)
from_if false below rest m go o small large = refl
from_if true true rest m go o small large = small refl
from_if true false true m go o small large = sym (large refl)
from_if true false false m go o small large = refl

-- it is the value of all digits, where they are digits and it is below 2^63
pub number_from-value : (n : ℕ) (bytes : List ℕ) → n < 2 ^ 63 →
    number_from n bytes ≡ (if all_ascii_digits bytes then limited (digits_value_after 10 n bytes) else None)
number_from-value n [] below = sym (limited-below n below)
number_from-value n (byte ∷ bytes) below =
    let m = n * 10 + digit_value byte in
    from_if (is_ascii_digit byte) (nat_lt m (2 ^ 63)) (all_ascii_digits bytes) m (λ k. number_from k bytes) (limited (digits_value_after 10 m bytes))
    (λ small. number_from-value m bytes (ltb-true m (2 ^ 63) small))
    (λ large. let above : 2 ^ 63 ≤ m = ltb-false m (2 ^ 63) large in limited-above (digits_value_after 10 m bytes) (let more : m ≤ digits_value_after 10 m bytes = more_digits m bytes in omega arith))

-- from the first digit on it is the number
pub number_from-start : (bytes : List ℕ) → 0 < length bytes → number_from 0 bytes ≡ number bytes
number_from-start [] some = absurd (omega arith)
number_from-start (byte ∷ bytes) some = number_from-value 0 (byte ∷ bytes) (lit< tt)
