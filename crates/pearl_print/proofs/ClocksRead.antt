-- Clocks are read back as they are written.
use Rattle.std.proofs.Common.{◌≡◌, ◌<◌, ◌≤◌, ◌+◌, ◌*◌, ◌/◌, ◌%◌, ℕ, Bool, true, false, ◌==◌, nat_le, if◌then◌else◌, List, [], ◌∷◌, ◌++◌, length, Some, None, codes, refl, sym, ap, ◌∙◌, arith}
use Rattle.std.specs.Char.{is_ascii_alphabetic, is_ascii_digit}
use Rattle.std.proofs.lemmas.Bool.{eqb-true}
use Rattle.std.proofs.Math.Nat.{div-div-eq-div-mul}
use Rattle.pearl_tree.specs.declared.token.What.TheVariants as what
use Rattle.pearl_tree.specs.Tokens.{IsClock}
use Rattle.pearl_lex.specs.Spelling.{sized}
use Rattle.pearl_lex.specs.Literals.{value_of, value_within, thousandths, milliseconds, clock_of}
use Rattle.pearl_lex.specs.Front.{front}
use Rattle.pearl_print.specs.Spelled.{digit, two_digits, three_digits, fraction, spelled}
use Rattle.pearl_print.specs.Reading.{IsReadBack}
use Rattle.pearl_print.proofs.NumbersRead.{digit_is_no_letter, digit_is_no_space, digit_written, three_worth, within_limit}

-- a clock without thousandths, and one with them
whole_front : (rest : List ℕ) (a b c d e f : ℕ) → is_ascii_alphabetic a ≡ false → is_ascii_digit a ≡ true → is_ascii_digit b ≡ true → is_ascii_digit c ≡ true →
    is_ascii_digit d ≡ true → is_ascii_digit e ≡ true → is_ascii_digit f ≡ true →
    front (a ∷ b ∷ 58 ∷ c ∷ d ∷ 58 ∷ e ∷ f ∷ 32 ∷ rest) ≡ sized (clock_of (a ∷ b ∷ []) (c ∷ d ∷ []) (e ∷ f ∷ []) []) 8
unfolding front
whole_front rest a b c d e f no_letter da db dc dd de df = rw (no_letter, da, db, dc, dd, de, df)

parts_front : (rest : List ℕ) (a b c d e f g h i : ℕ) → is_ascii_alphabetic a ≡ false → is_ascii_digit a ≡ true → is_ascii_digit b ≡ true → is_ascii_digit c ≡ true →
    is_ascii_digit d ≡ true → is_ascii_digit e ≡ true → is_ascii_digit f ≡ true → is_ascii_digit g ≡ true → is_ascii_digit h ≡ true → is_ascii_digit i ≡ true →
    front (a ∷ b ∷ 58 ∷ c ∷ d ∷ 58 ∷ e ∷ f ∷ 46 ∷ g ∷ h ∷ i ∷ 32 ∷ rest) ≡ sized (clock_of (a ∷ b ∷ []) (c ∷ d ∷ []) (e ∷ f ∷ []) (g ∷ h ∷ i ∷ [])) 12
unfolding front
parts_front rest a b c d e f g h i no_letter da db dc dd de df dg dh di = rw (no_letter, da, db, dc, dd, de, df, dg, dh, di)

two_worth : (n : ℕ) → n < 100 → value_of (two_digits n) ≡ n
two_worth n small = omega arith

two_within : (n max : ℕ) → n < 100 → n ≤ max → value_within (two_digits n) max ≡ Some n
two_within n max small low = ap (λ (v : ℕ). if nat_le v max then Some v else None) (two_worth n small) ∙ within_limit n max low

clock_is : (h m s part : ℕ) (decimals : List ℕ) → h ≤ 23 → m ≤ 59 → s ≤ 59 → thousandths decimals ≡ Some part →
    clock_of (two_digits h) (two_digits m) (two_digits s) decimals ≡ Some (what.Clock (1000 * (60 * (60 * h + m) + s) + part))
clock_is h m s part decimals hours minutes seconds parts =
    ap (λ x. milliseconds x (value_within (two_digits m) 59) (value_within (two_digits s) 59) (thousandths decimals)) (two_within h 23 (omega arith) hours) ∙
    ap (λ x. milliseconds (Some h) x (value_within (two_digits s) 59) (thousandths decimals)) (two_within m 59 (omega arith) minutes) ∙
    ap (λ x. milliseconds (Some h) (Some m) x (thousandths decimals)) (two_within s 59 (omega arith) seconds) ∙
    ap (λ x. milliseconds (Some h) (Some m) (Some s) x) parts

worth : (ms : ℕ) → 1000 * (60 * (60 * (ms / 3600000) + ms / 60000 % 60) + ms / 1000 % 60) + ms % 1000 ≡ ms
worth ms =
    let minutes : ms / 1000 / 60 ≡ ms / 60000 = div-div-eq-div-mul ms 1000 60 in
    let hours : ms / 60000 / 60 ≡ ms / 3600000 = div-div-eq-div-mul ms 60000 60 in
    omega arith

no_letter : (n : ℕ) → is_ascii_alphabetic (digit n) ≡ false
no_letter n = digit_is_no_letter (digit n) (record { low = omega arith; high = omega arith })

clock_front : (ms : ℕ) (rest : List ℕ) → ms < 24 * 60 * 60 * 1000 → (test : Bool) → (ms % 1000 == 0) ≡ test →
    front (two_digits (ms / 3600000) ++ (58 ∷ two_digits (ms / 60000 % 60)) ++ (58 ∷ two_digits (ms / 1000 % 60)) ++ (((if test then [] else codes "." ++ three_digits (ms % 1000)) ++ 32 ∷ []) ++ rest)) ≡
    Some (record { what = what.Clock ms; size = length (two_digits (ms / 3600000) ++ (58 ∷ two_digits (ms / 60000 % 60)) ++ (58 ∷ two_digits (ms / 1000 % 60)) ++ (if test then [] else codes "." ++ three_digits (ms % 1000))) })
clock_front ms rest small true e =
    let none : ms % 1000 ≡ 0 = eqb-true (ms % 1000) 0 e in
    let is : clock_of (two_digits (ms / 3600000)) (two_digits (ms / 60000 % 60)) (two_digits (ms / 1000 % 60)) [] ≡ Some (what.Clock ms) =
    clock_is (ms / 3600000) (ms / 60000 % 60) (ms / 1000 % 60) 0 [] (omega arith) (omega arith) (omega arith) refl ∙
    ap (λ (n : ℕ). Some (what.Clock (1000 * (60 * (60 * (ms / 3600000) + ms / 60000 % 60) + ms / 1000 % 60) + n))) (sym none) ∙ ap (λ (n : ℕ). Some (what.Clock n)) (worth ms) in
    whole_front rest _ _ _ _ _ _ (no_letter (ms / 3600000 / 10)) (digit_written (ms / 3600000 / 10)) (digit_written (ms / 3600000)) (digit_written (ms / 60000 % 60 / 10)) (digit_written (ms / 60000 % 60))
    (digit_written (ms / 1000 % 60 / 10)) (digit_written (ms / 1000 % 60)) ∙
    ap (λ what. sized what 8) is
clock_front ms rest small false e =
    let is : clock_of (two_digits (ms / 3600000)) (two_digits (ms / 60000 % 60)) (two_digits (ms / 1000 % 60)) (three_digits (ms % 1000)) ≡ Some (what.Clock ms) =
    clock_is (ms / 3600000) (ms / 60000 % 60) (ms / 1000 % 60) (ms % 1000) (three_digits (ms % 1000)) (omega arith) (omega arith) (omega arith) (ap (λ (n : ℕ). Some n) (three_worth (ms % 1000) (omega arith))) ∙
    ap (λ (n : ℕ). Some (what.Clock n)) (worth ms) in
    parts_front rest _ _ _ _ _ _ _ _ _ (no_letter (ms / 3600000 / 10)) (digit_written (ms / 3600000 / 10)) (digit_written (ms / 3600000)) (digit_written (ms / 60000 % 60 / 10)) (digit_written (ms / 60000 % 60))
    (digit_written (ms / 1000 % 60 / 10)) (digit_written (ms / 1000 % 60)) (digit_written (ms % 1000 / 100)) (digit_written (ms % 1000 / 10)) (digit_written (ms % 1000)) ∙
    ap (λ what. sized what 12) is

-- a clock is read back
pub clock_reads : (ms : ℕ) → IsClock ms → IsReadBack (what.Clock ms)
unfolding spelled
clock_reads ms small = record {
  begins = λ rest. clock_front ms rest small (ms % 1000 == 0) refl;
  no_space = λ rest. digit_is_no_space (digit (ms / 3600000 / 10))
      (digit (ms / 3600000) ∷ (codes ":" ++ two_digits (ms / 60000 % 60) ++ codes ":" ++ two_digits (ms / 1000 % 60) ++ fraction (ms % 1000) ++ codes " " ++ rest)) (record { low = omega arith; high = omega arith });
}
