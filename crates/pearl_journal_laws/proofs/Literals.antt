-- What is read as a literal is what it spells.
use Rattle.std.proofs.Common.{◌≡◌, ◌≢◌, ℕ, ℤ, List, [], ◌∷◌, ◌++◌, inl, inr, Bool, true, false, ◌==◌, Option, Some, None, Result, Ok, Err, refl, ap, sym, ◌∙◌, arith}
use Rattle.std.proofs.lemmas.Bool.{false≢true}
use Rattle.std.proofs.lemmas.Bool.Decides.{nat_tests}
use Rattle.std.proofs.lemmas.Int.{ints}
use Rattle.std.specs.Prelude.{IfSome, option_and_then, slice_index, if◌then◌else◌}
use Rattle.std.specs.List.{after_first, before_first}
use Rattle.pearl_value.specs.declared.kind.Kind.{Kind}
use Rattle.pearl_value.specs.declared.kind.Kind.TheVariants as kind
use Rattle.pearl_value.specs.declared.cell.Cell.{Cell}
use Rattle.pearl_value.specs.declared.cell.Cell.TheVariants.{Fixed, Bits, Chars, Clock, Span, Ref}
use Rattle.pearl_value.specs.Arithmetic.{fits_span}
use Rattle.pearl_value.specs.Conversions.{fits_fixed}
use Rattle.pearl_value.specs.WellFormed.{FitsSpan, IsValue}
use Rattle.pearl_rules.specs.Literals.{clock_literal, fixed_literal, span_literal}
use Rattle.pearl_rules.specs.declared.entry.Entry.{Entry}
use Rattle.pearl_rules.specs.declared.entry.Entry.TheVariants as entry
use Rattle.pearl_journal.specs.Laws.{doubled}
use Rattle.pearl_journal.specs.Meaning.{needing}
use Rattle.pearl_journal.specs.Texts.{is_apostrophe, text_literal}
use Rattle.pearl_journal.specs.Values.{bits_literal, bits_of, coming_in, digit_width, literal, may_come_in}
use Rattle.pearl_journal.specs.Words.{is_blank}
use Rattle.pearl_journal.proofs.Offered.{LiteralIs, literal-is}
use Rattle.pearl_journal_laws.specs.Literals.{AreBits, IsLiteral, Spells, SpellsTooMuch}
use Rattle.pearl_journal_laws.specs.Says.{IsText}
use Rattle.pearl_journal_laws.proofs.BitDigits.{after_no, reads_bits, were_bits}
use Rattle.pearl_journal_laws.proofs.Signs.{reads_signed, was_signed}
use Rattle.pearl_journal_laws.proofs.Durations.{reads_length, was_length}
use Rattle.pearl_journal_laws.proofs.Clocks.{coloned, coloned_begins, coloned_number, coloned_span, number_begins, span_begins, span_number}
use Rattle.pearl_journal_laws.specs.Times.{IsTimeOfDay}
use Rattle.pearl_journal_laws.proofs.TimesOfDay.{reads_time, was_time}
use Rattle.pearl_journal_laws.proofs.Texts.{literal_is, no_literal}

-- APOSTROPHES

no_bits : (bytes : List ℕ) → (slice_index bytes 0 == 39) ≡ false → bits_literal bytes ≡ None
no_bits bytes other = rw (other) refl

no_quote : (bytes : List ℕ) → (slice_index bytes 0 == 39) ≡ false → text_literal bytes ≡ None
no_quote [] other = refl
no_quote (byte ∷ rest) other = rw (other) refl

-- no word says behind a text how many bits digits have
no_width : (text : List ℕ) → digit_width (after_first is_apostrophe (doubled text ++ 39 ∷ [])) ≡ None
no_width [] = refl
no_width (byte ∷ text) = by (byte == 39) refl (no_width text)
  where
    by : (is : Bool) → (byte == 39) ≡ is → digit_width (after_first is_apostrophe (doubled text ++ 39 ∷ [])) ≡ None →
        digit_width (after_first is_apostrophe
        ((if is then 39 ∷ 39 ∷ doubled text else byte ∷ doubled text) ++ 39 ∷ [])) ≡ None
    by true e later = refl
    by false e later = ap digit_width (after_no byte (doubled text ++ 39 ∷ []) e) ∙ later

text_no_bits : (bytes text : List ℕ) → IsText bytes text → bits_literal bytes ≡ None
text_no_bits bytes text is =
    ap bits_literal is.written
    ∙ ap (option_and_then (λ group. bits_of group (before_first is_apostrophe (doubled text ++ 39 ∷ []))))
    (no_width text)

-- VALUES

fits_is : (time : ℤ) → FitsSpan time → fits_span time ≡ true
fits_is time fits = let low = fits.low in let high = fits.high in grind (arith, ints, nat_tests)

is_fit : (time : ℤ) → fits_span time ≡ true → FitsSpan time
is_fit time e = record { low = grind (arith, ints); high = grind (arith, ints) }

not_fit : (time : ℤ) → (FitsSpan time → ⊥) → fits_span time ≡ false
not_fit time never = by (fits_span time) refl
  where
    by : (fits : Bool) → fits_span time ≡ fits → fits ≡ false
    by true e = absurd (never (is_fit time e))
    by false e = refl

-- an entry of a value, or the code where it can't come in
abbrev pub value_at : (d : ℕ) → Kind → List ℕ → Result Entry ℕ
value_at d of bytes =
    needing 1 (literal bytes) (λ said. needing 4 (coming_in (Some of) said) (λ x. Ok (entry.Value d x)))

-- the same of a value that is spelled
abbrev pub coming_at : (d : ℕ) → Kind → Cell → Result Entry ℕ
coming_at d of x = needing 4 (if may_come_in of x then Some x else None) (λ x. Ok (entry.Value d x))

-- what is read of bytes that spell this value: it comes in, or has code 4; and it is a value
record IsRead (bytes : List ℕ) (x : Cell) : Type 0 where
  comes : (d : ℕ) (of : Kind) → value_at d of bytes ≡ coming_at d of x
  is_value : IsValue x

number_read : (bytes : List ℕ) (len : ℕ) (value : ℤ) → Spells bytes (Fixed len value) → IsRead bytes (Fixed len value)
number_read bytes len value is =
    let said = reads_signed bytes value is.0 in
    let begins = number_begins bytes value said in
    let bits = no_bits bytes begins in
    let text = no_quote bytes begins in
    let clock = no_clock (clock_literal bytes) refl in
    let value : IfSome (literal bytes) LiteralIs → IsValue (Fixed len value) =
    rw (bits, text, clock, said, is.1) (λ h. h) in
    record { comes = λ d of. rw (bits, text, clock, said, is.1) refl; is_value = value (literal-is bytes) }
  where
    no_clock : (o : Option ℕ) → clock_literal bytes ≡ o → clock_literal bytes ≡ None
    no_clock None e = e
    no_clock (Some time) e =
        let none = coloned_number bytes (coloned bytes time (was_time bytes time e)) in
        let said = reads_signed bytes value is.0 in
        let no : ⊥ = cc in
        absurd no

bits_read : (bytes : List ℕ) (len value : ℕ) → AreBits bytes len value → IsRead bytes (Bits len value)
bits_read bytes len value are =
    let is = reads_bits bytes len value are in
    let value : IfSome (literal bytes) LiteralIs → IsValue (Bits len value) = rw (is) (λ h. h) in
    record { comes = λ d of. rw (is) refl; is_value = value (literal-is bytes) }

text_read : (bytes text : List ℕ) → IsText bytes text → text ≢ [] → IsRead bytes (Chars (record { items = text }))
text_read bytes text is some =
    let bits = text_no_bits bytes text is in
    let said = literal_is bytes text is some in
    let value : IfSome (literal bytes) LiteralIs → IsValue (Chars (record { items = text })) =
    rw (bits, said) (λ h. h) in
    record { comes = λ d of. rw (bits, said) refl; is_value = value (literal-is bytes) }

clock_read : (bytes : List ℕ) (time : ℕ) → IsTimeOfDay bytes time → IsRead bytes (Clock time)
clock_read bytes time of =
    let is = reads_time bytes time of in
    let begins = coloned_begins bytes 39 (coloned bytes time of) (omega arith) in
    let bits = no_bits bytes begins in
    let text = no_quote bytes begins in
    let value : IfSome (literal bytes) LiteralIs → IsValue (Clock time) = rw (bits, text, is) (λ h. h) in
    record { comes = λ d of. rw (bits, text, is) refl; is_value = value (literal-is bytes) }

module _ (bytes : List ℕ) (time : ℤ) (is : span_literal is_blank bytes ≡ Some time) where
  no_others : (bits_literal bytes ≡ None) × (text_literal bytes ≡ None) × (clock_literal bytes ≡ None)
  no_others =
      let begins = span_begins bytes time is in
      (no_bits bytes begins, no_quote bytes begins, no_clock (clock_literal bytes) refl)
    where
      no_clock : (o : Option ℕ) → clock_literal bytes ≡ o → clock_literal bytes ≡ None
      no_clock None e = e
      no_clock (Some at) e =
          let none = coloned_span bytes (coloned bytes at (was_time bytes at e)) in
          let no : ⊥ = cc in
          absurd no

  span_read : FitsSpan time → IsRead bytes (Span time)
  span_read fits =
      let others = no_others in
      let number = span_number bytes time is in
      let fit = fits_is time fits in
      record { comes = λ d of. rw (others.0, others.1, others.2, number, is, fit) refl; is_value = fits }

  too_long : (d : ℕ) (of : Kind) → (FitsSpan time → ⊥) → value_at d of bytes ≡ Err 4
  too_long d of never =
      let others = no_others in
      let number = span_number bytes time is in
      let fit = not_fit time never in
      rw (others.0, others.1, others.2, number, is, fit) refl

spelled_read : (bytes : List ℕ) (x : Cell) → Spells bytes x → IsRead bytes x
spelled_read bytes (Fixed len value) is = number_read bytes len value is
spelled_read bytes (Bits len value) is = bits_read bytes len value is
spelled_read bytes (Chars text) is = text_read bytes text.items is.0 is.1
spelled_read bytes (Clock time) is = clock_read bytes time is
spelled_read bytes (Span time) is = span_read bytes time (reads_length bytes time is.0) is.1
spelled_read bytes (Ref of place) is = absurd is

pub comes_at : (bytes : List ℕ) (x : Cell) (d : ℕ) (of : Kind) → Spells bytes x → value_at d of bytes ≡ coming_at d of x
comes_at bytes x d of is = (spelled_read bytes x is).comes d of

pub spells_value : (bytes : List ℕ) (x : Cell) → Spells bytes x → IsValue x
spells_value bytes x is = (spelled_read bytes x is).is_value

pub stays_at : (bytes : List ℕ) (d : ℕ) (of : Kind) → SpellsTooMuch bytes → value_at d of bytes ≡ Err 4
stays_at bytes d of is = too_long bytes is.0 (reads_length bytes is.0 is.1) d of is.2

-- LITERALS OR NONE

not_missing : (bytes : List ℕ) → (literal bytes ≡ None → value_at 0 kind.Clock bytes ≡ Err 1)
not_missing bytes none =
    ap (λ o. needing 1 o (λ said. needing 4 (coming_in (Some kind.Clock) said) (λ x. Ok (entry.Value 0 x)))) none

no_one : (o : Option Cell) → needing 4 o (λ x. Ok (entry.Value 0 x)) ≡ Err 1 → ⊥
no_one None e = cc
no_one (Some x) e = cc

pub some_literal : (bytes : List ℕ) → IsLiteral bytes → literal bytes ≡ None → ⊥
some_literal bytes (inl is) none =
    no_one (if may_come_in kind.Clock is.0 then Some is.0 else None)
    (sym (comes_at bytes is.0 0 kind.Clock is.1) ∙ not_missing bytes none)
some_literal bytes (inr is) none = no_one None (sym (stays_at bytes 0 kind.Clock is) ∙ not_missing bytes none)

module _ (bytes : List ℕ) (never : IsLiteral bytes → ⊥) where
  never_bits : bits_literal bytes ≡ None
  never_bits = by (bits_literal bytes) refl
    where
      by : (o : Option Cell) → bits_literal bytes ≡ o → o ≡ None
      by None e = refl
      by (Some x) e = let was = were_bits bytes x e in absurd (never (inl (Bits was.len was.value, was.are)))

  never_text : (text : List ℕ) → IsText bytes text → text ≡ []
  never_text [] is = refl
  never_text (byte ∷ text) is = absurd (never (inl (Chars (record { items = byte ∷ text }), (is, λ e. cc))))

  never_clock : clock_literal bytes ≡ None
  never_clock = by (clock_literal bytes) refl
    where
      by : (o : Option ℕ) → clock_literal bytes ≡ o → o ≡ None
      by None e = refl
      by (Some time) e = absurd (never (inl (Clock time, was_time bytes time e)))

  never_number : fixed_literal is_blank bytes ≡ None
  never_number = by (fixed_literal is_blank bytes) refl
    where
      by : (o : Option ℤ) → fixed_literal is_blank bytes ≡ o → o ≡ None
      by None e = refl
      by (Some n) e = absurd (never (inl (Fixed (if fits_fixed 31 n then 31 else 63) n, (was_signed bytes n e, refl))))

  never_span : span_literal is_blank bytes ≡ None
  never_span = by (span_literal is_blank bytes) refl
    where
      by_fit : (time : ℤ) (fits : Bool) → fits_span time ≡ fits → span_literal is_blank bytes ≡ Some time → ⊥
      by_fit time true fit e = never (inl (Span time, (was_length bytes time e, is_fit time fit)))
      by_fit time false fit e =
          never (inr (time, was_length bytes time e, λ fits. false≢true (sym fit ∙ fits_is time fits)))

      by : (o : Option ℤ) → span_literal is_blank bytes ≡ o → o ≡ None
      by None e = refl
      by (Some time) e = absurd (by_fit time (fits_span time) refl e)

  pub missing_literal : literal bytes ≡ None
  missing_literal =
      let bits = never_bits in
      let text = no_literal bytes never_text in
      let clock = never_clock in
      let number = never_number in
      let span = never_span in
      rw (bits, text, clock, number, span) refl
