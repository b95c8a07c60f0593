-- What is read as a number with a sign is one, and each is read.
use Rattle.std.proofs.Common.{◌≡◌, ◌<◌, ◌+◌, ◌-◌, ◌^◌, ℕ, ℤ, pos, List, [], ◌∷◌, ◌++◌, inl, inr, Bool, true, false, cond, ◌==◌, drop, Option, Some, None, option_map, refl, ap, sym, ◌∙◌, subst, arith, add-one}
use Rattle.std.proofs.lemmas.Bool.{eqb-true, ne_eqb}
use Rattle.std.specs.Prelude.{slice_index, if◌then◌else◌}
use Rattle.std.specs.List.{prefix_len}
use Rattle.pearl_rules.specs.Literals.{fixed_literal, minus, number_literal}
use Rattle.pearl_journal.specs.Laws.{IsGap}
use Rattle.pearl_journal.specs.Words.{behind_blanks, is_blank}
use Rattle.pearl_journal.proofs.Offered.{behind_blanks-bare, behind_blanks-gap}
use Rattle.pearl_journal_laws.specs.Literals.{IsSigned}
use Rattle.pearl_journal_laws.specs.Says.{IsNumber}
use Rattle.pearl_journal_laws.proofs.Numbers.{limit_is, was_limit}

pub read_number : (digits : List ℕ) (n : ℕ) → IsNumber digits n → number_literal digits ≡ Some n
read_number digits n is = limit_is (2 ^ 63 - 1) digits n is (let small = is.small in omega (arith, small))

-- the first byte of a number is no byte below the digits
begins_with_digit : (digits : List ℕ) (n other : ℕ) → IsNumber digits n → other < 48 →
    (slice_index digits 0 == other) ≡ false
begins_with_digit [] n other is low = absurd (is.some refl)
begins_with_digit (byte ∷ bytes) n other is low =
    let high = is.are_digits.0.0 in ne_eqb byte other (λ e. omega (arith, e, high, low))

no_blank : (digits : List ℕ) (n : ℕ) → IsNumber digits n → (byte : ℕ) (rest : List ℕ) → digits ≡ byte ∷ rest →
    is_blank byte ≡ false
no_blank [] n is byte rest e = absurd (is.some refl)
no_blank (b ∷ bytes) n is byte rest e =
    let same : b ≡ byte = cc in
    let high = is.are_digits.0.0 in
    subst (λ c. is_blank c ≡ false) same
    (rw (ne_eqb b 32 (λ e. omega (arith, e, high)), ne_eqb b 9 (λ e. omega (arith, e, high))) refl)

pub reads_signed : (bytes : List ℕ) (value : ℤ) → IsSigned bytes value → fixed_literal is_blank bytes ≡ Some value
reads_signed bytes value (inl is) =
    let other = begins_with_digit bytes is.0 45 is.1 (omega arith) in
    rw (other) (ap (option_map pos) (read_number bytes is.0 is.1) ∙ ap Some (sym is.2))
reads_signed bytes value (inr is) =
    let behind : behind_blanks (is.1.gap ++ is.1.digits) ≡ is.1.digits =
    behind_blanks-gap is.1.gap is.1.digits is.1.is_gap
    ∙ behind_blanks-bare is.1.digits (no_blank is.1.digits is.0 is.1.is_number) in
    ap (fixed_literal is_blank) is.1.spelled ∙ ap (λ t. option_map minus (number_literal t)) behind
    ∙ ap (option_map minus) (read_number is.1.digits is.0 is.1.is_number) ∙ ap Some (sym is.2)

-- blanks and tabs, and what is behind them
pub parted : (text : List ℕ) → (gap : List ℕ) × IsGap gap × (text ≡ gap ++ behind_blanks text)
parted [] = ([], tt, refl)
parted (byte ∷ text) = by (is_blank byte) refl (parted text)
  where
    drop-more : (n : ℕ) → drop (1 + n) (byte ∷ text) ≡ drop n text
    drop-more n = let e : 1 + n ≡ n + 1 = omega arith in rw (e, add-one n) refl

    by : (blank : Bool) → is_blank byte ≡ blank → (gap : List ℕ) × IsGap gap × (text ≡ gap ++ behind_blanks text) →
        (gap : List ℕ) × IsGap gap × (byte ∷ text ≡ gap ++ behind_blanks (byte ∷ text))
    by true e p =
        let behind : behind_blanks (byte ∷ text) ≡ behind_blanks text =
        ap (λ b. drop (cond b (1 + prefix_len is_blank text) 0) (byte ∷ text)) e
        ∙ drop-more (prefix_len is_blank text) in
        (byte ∷ p.0, (e, p.1), ap (λ t. byte ∷ t) p.2 ∙ ap (λ t. byte ∷ p.0 ++ t) (sym behind))
    by false e p =
        ([], tt, sym (ap (λ b. drop (cond b (1 + prefix_len is_blank text) 0) (byte ∷ text)) e))

pub was_some : (sign : ℕ → ℤ) (o : Option ℕ) (value : ℤ) → option_map sign o ≡ Some value →
    (n : ℕ) × (o ≡ Some n) × (value ≡ sign n)
was_some sign None value e = let no : ⊥ = cc in absurd no
was_some sign (Some n) value e = (n, refl, cc)

pub was_signed : (bytes : List ℕ) (value : ℤ) → fixed_literal is_blank bytes ≡ Some value → IsSigned bytes value
was_signed bytes value e = by bytes (slice_index bytes 0 == 45) refl e
  where
    by : (b : List ℕ) (negative : Bool) → (slice_index b 0 == 45) ≡ negative →
        (if negative then option_map minus (number_literal (behind_blanks (drop 1 b))) else option_map pos
        (number_literal b)) ≡ Some value →
        IsSigned b value
    by b false s e =
        let h = was_some pos (number_literal b) value e in
        inl (h.0, (was_limit (2 ^ 63 - 1) b h.0 (omega arith) h.1).0, h.2)
    by [] true s e = let no : ⊥ = cc in absurd no
    by (byte ∷ rest) true s e =
        let h = was_some minus (number_literal (behind_blanks rest)) value e in
        let p = parted rest in
        inr (
          h.0,
          record {
            gap = p.0;
            digits = behind_blanks rest;
            spelled = ap (λ b. b ∷ rest) (eqb-true byte 45 s) ∙ ap (λ t. 45 ∷ t) p.2;
            is_gap = p.1;
            is_number = (was_limit (2 ^ 63 - 1) (behind_blanks rest) h.0 (omega arith) h.1).0;
          },
          h.2,
        )
