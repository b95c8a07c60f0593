-- The bytes that a token takes have no other meaning.
use Rattle.std.proofs.Common.{◌≡◌, ◌<◌, ◌≤◌, ◌+◌, ◌-◌, ◌*◌, ◌^◌, inl, inr, ℕ, Bool, true, false, List, [], ◌∷◌, ◌++◌, length, take, drop, get_or, All, Option, Some, None, IfSome, if◌then◌else◌, refl, sym, subst, ap, ◌∙◌, arith}
use Rattle.std.specs.Char.{is_ascii_alphabetic}
use Rattle.std.specs.List.{prefix_len, list_all}
use Rattle.std.specs.Option.{option_map}
use Rattle.std.specs.Str.{bytes_eq}
use Rattle.std.proofs.Math.Seq.{take-append_seam}
use Rattle.std.proofs.lemmas.List.{take_at}
use Rattle.std.proofs.lemmas.Bool.{false≢true, true≢false}
use Rattle.std.proofs.lemmas.Bool.Decides.{nat_tests}
use Rattle.std.proofs.lemmas.List.Elements.{All-head, All-tail}
use Rattle.std.proofs.lemmas.Slice.Eq.{bytes_eq-Decides}
use Rattle.pearl_tree.specs.declared.token.What.{What}
use Rattle.pearl_tree.specs.declared.token.What.TheVariants as what
use Rattle.pearl_tree.specs.Tokens.{IsIdByte, IsId}
use Rattle.pearl_tree.specs.Words.{words, IsWord}
use Rattle.pearl_tree.specs.Symbols.{symbol_text, symbol_count}
use Rattle.pearl_lex.specs.declared.front.Front.{Front}
use Rattle.pearl_lex.specs.Spelling.{is_id_byte, sized, meaning, word_or_id, id_of, double_symbol, single_symbol, longer_symbol}
use Rattle.pearl_lex.specs.Literals.{value_of, value_within, digit_count, digits_of, after_digits, next_part, begins_part, begins_clock, decimals_of, decimals_len, thousandths, decimal_by, milliseconds, clock_of, clock_front, decimal_front, number_front, numeral}
use Rattle.pearl_lex.specs.Front.{front}
use Rattle.pearl_lex.specs.Spells.{AreDigits, AreDecimals, SpellsNumber, SpellsPart}
use Rattle.pearl_lex.proofs.Passes.{and_front, and_back}
use Rattle.pearl_lex.proofs.WordMeaning.{word_has_code}
use Rattle.pearl_lex.proofs.Runs.{either, is_letter, is_of_id, All-map, each_passes}
use Rattle.pearl_lex.proofs.Numerals.{count_append, count_stops, after_stops, digits_stop, Thousandths, thousandths_are}
use Rattle.pearl_lex.proofs.NumeralSizes.{runs, no_clock, decimals_begin, decimals_length}
use Rattle.pearl_lex.proofs.Names.{front_letter, front_other, is_other, is_named, word_named, has, has_is, is_coded, symbol_coded}

-- where so many bytes are taken, they mean this
abbrev pub Means : ℕ → What → Option Front → Type 0
Means n token o = IfSome o (λ f. f.size ≡ n → f.what ≡ token)

-- it is this, or has another size
sized_means : (w : Option What) (size n : ℕ) (token : What) → (size ≡ n → w ≡ Some token) → Means n token (sized w size)
sized_means None size n token h = tt
sized_means (Some w) size n token h = λ e. (let is = h e in cc is)

-- ---- words and names

other_rows : (rows : List (List ℕ × ℕ)) (text : List ℕ) → All (λ row. ¬ (row.0 ≡ text)) rows → meaning rows text ≡ None
other_rows [] text all = refl
other_rows (row ∷ rows) text all = by (bytes_eq row.0 text) refl (other_rows rows text (All-tail (λ row. ¬ (row.0 ≡ text)) row rows all))
  where
    by : (same : Bool) → bytes_eq row.0 text ≡ same → meaning rows text ≡ None → (if same then Some row.1 else meaning rows text) ≡ None
    by true e more = absurd (All-head (λ row. ¬ (row.0 ≡ text)) row rows all ((bytes_eq-Decides row.0 text).0 e))
    by false e more = more

short_id : (text : List ℕ) → length text ≤ 63 → id_of text ≡ Some (what.Id (record { items = text }))
short_id text few = grind (arith, nat_tests)

name_means : (b : ℕ) (text rest : List ℕ) (token : What) → is_ascii_alphabetic b ≡ true → All (λ x. is_id_byte x ≡ true) (b ∷ text)
    → word_or_id (meaning words (b ∷ text)) (b ∷ text) ≡ Some token → Means (length (b ∷ text)) token (front ((b ∷ text) ++ rest))
name_means b text rest token h all is =
    let bytes = (b ∷ text) ++ rest in
    let size = prefix_len is_id_byte bytes in
    let of = λ (t : List ℕ). word_or_id (meaning words t) t in
    subst (Means (length (b ∷ text)) token) (sym (front_letter bytes h))
    (sized_means (of (take size bytes)) size (length (b ∷ text)) token
    (λ e. ap of (ap (λ n. take n bytes) e ∙ take-append_seam (b ∷ text) rest) ∙ is))

pub id_means : (text rest : List ℕ) → IsId text → Means (length text) (what.Id (record { items = text })) (front (text ++ rest))
id_means [] rest is = absurd is.begins
id_means (b ∷ text) rest is =
    name_means b text rest _ (is_letter b is.begins) (All-map IsIdByte (λ x. is_id_byte x ≡ true) (b ∷ text) is_of_id is.bytes)
    (ap (λ m. word_or_id m (b ∷ text)) (other_rows words (b ∷ text) is.no_word) ∙ short_id (b ∷ text) is.length)

named_means : (text rest : List ℕ) (code : ℕ) → is_named text ≡ true → meaning words text ≡ Some code → Means (length text) (what.Word code) (front (text ++ rest))
named_means [] rest code h e = absurd (false≢true h)
named_means (b ∷ text) rest code h e =
    name_means b text rest (what.Word code) (and_front (is_ascii_alphabetic b) _ h) ((each_passes is_id_byte (b ∷ text)).0 (and_front (list_all is_id_byte (b ∷ text)) _ (and_back (is_ascii_alphabetic b) _ h)))
    (ap (λ m. word_or_id m (b ∷ text)) e)

pub word_means : (text rest : List ℕ) (code : ℕ) → IsWord text code → Means (length text) (what.Word code) (front (text ++ rest))
word_means text rest code is = named_means text rest code (word_named text code is) (word_has_code text code is)

-- ---- numbers, decimals and clocks

within : (digits : List ℕ) (max : ℕ) → value_of digits ≤ max → value_within digits max ≡ Some (value_of digits)
within digits max few = grind (arith, nat_tests)

-- a run that ends where the digits do is these digits
whole_run : (digits rest : List ℕ) → digit_count (digits ++ rest) ≡ length digits → digits_of (digits ++ rest) ≡ digits
whole_run digits rest e = take_at digits rest (digit_count (digits ++ rest)) (sym e)

part_length : (bytes : List ℕ) → begins_part 46 bytes ≡ true → 1 ≤ decimals_len bytes
part_length bytes h = subst (λ b. 1 ≤ (if b then 1 + digit_count (drop 1 bytes) else 0)) (sym h) (omega arith)

pub number_means : (digits rest : List ℕ) (value : ℕ) → SpellsNumber digits value → Means (length digits) (what.Number value) (numeral (digits ++ rest))
number_means digits rest value is =
    let bytes = digits ++ rest in
    let n = length digits in
    let token = what.Number value in
    let count = count_append digits rest is.digits.1 in
    either (Means n token) (begins_clock bytes) (clock_front bytes) (if begins_part 46 (after_digits bytes) then decimal_front bytes else number_front bytes)
    (λ _. sized_means _ _ n token (λ e. absurd (omega (arith, e, count))))
    (λ _. either (Means n token) (begins_part 46 (after_digits bytes)) (decimal_front bytes) (number_front bytes)
    (λ h. sized_means _ (digit_count bytes + decimals_len (after_digits bytes)) n token (λ e. absurd (let more = part_length (after_digits bytes) h in omega (arith, e, count, more))))
    (λ _. sized_means _ (digit_count bytes) n token
    (λ e. ap (λ ds. option_map what.Number (value_within ds (2 ^ 63 - 1))) (whole_run digits rest e) ∙
    ap (option_map what.Number) (within digits (2 ^ 63 - 1) (omega (arith, is.value_is, is.range))) ∙ ap (λ v. Some (what.Number v)) (sym is.value_is))))

thousandths_by : (digits : List ℕ) (part : ℕ) (o : Option ℕ) → AreDecimals digits part → Thousandths digits o → o ≡ Some part
thousandths_by digits part None is h = absurd (omega (arith, is.1, h))
thousandths_by digits part (Some p) is h = ap Some (h.1 ∙ sym is.2)

thousandths_is : (digits : List ℕ) (part : ℕ) → AreDecimals digits part → thousandths digits ≡ Some part
thousandths_is digits part is = thousandths_by digits part (thousandths digits) is (thousandths_are digits is.0.0)

-- what stands behind a period, where it ends with these digits
decimals_are : (decimals rest : List ℕ) → AreDigits decimals → digit_count rest ≡ 0 → decimals_of (46 ∷ (decimals ++ rest)) ≡ decimals
decimals_are decimals rest are none =
    ap (λ b. if b then digits_of (decimals ++ rest) else []) (decimals_begin decimals rest are) ∙ whole_run decimals rest (let e = count_append decimals rest are.1 in omega (arith, e, none))

pub decimal_means : (digits decimals rest : List ℕ) (whole part : ℕ) → SpellsNumber digits whole → AreDecimals decimals part
    → Means (length digits + (1 + length decimals)) (what.Decimal whole part) (numeral (digits ++ 46 ∷ (decimals ++ rest)))
decimal_means digits decimals rest whole part is has =
    let bytes = digits ++ 46 ∷ (decimals ++ rest) in
    let n = length digits + (1 + length decimals) in
    let token = what.Decimal whole part in
    let after : after_digits bytes ≡ 46 ∷ (decimals ++ rest) = after_stops digits 46 (decimals ++ rest) is.digits.1 refl in
    let begins : begins_part 46 (after_digits bytes) ≡ true = ap (begins_part 46) after ∙ decimals_begin decimals rest has.0 in
    let count : digit_count bytes ≡ length digits = count_stops digits 46 (decimals ++ rest) is.digits.1 refl in
    let more : decimals_len (after_digits bytes) ≡ 1 + (length decimals + digit_count rest) = ap decimals_len after ∙ decimals_length decimals rest has.0 in
    either (Means n token) (begins_clock bytes) (clock_front bytes) (if begins_part 46 (after_digits bytes) then decimal_front bytes else number_front bytes)
    (λ e. absurd (true≢false (sym e ∙ no_clock bytes (decimals ++ rest) after)))
    (λ _. either (Means n token) (begins_part 46 (after_digits bytes)) (decimal_front bytes) (number_front bytes)
    (λ _. sized_means _ (digit_count bytes + decimals_len (after_digits bytes)) n token
    (λ e. ap (λ ds. decimal_by (value_within ds (2 ^ 63 - 1)) (thousandths (decimals_of (after_digits bytes)))) (digits_stop digits 46 (decimals ++ rest) is.digits.1 refl) ∙
    ap (λ v. decimal_by v (thousandths (decimals_of (after_digits bytes)))) (within digits (2 ^ 63 - 1) (omega (arith, is.value_is, is.range)) ∙ ap Some (sym is.value_is)) ∙
    ap (λ ds. decimal_by (Some whole) (thousandths ds)) (ap decimals_of after ∙ decimals_are decimals rest has.0 (omega (arith, e, count, more))) ∙
    ap (decimal_by (Some whole)) (thousandths_is decimals part has)))
    (λ e. absurd (true≢false (sym begins ∙ e))))

-- the seconds and what follows them, where they end with these decimals
record Tail (seconds part tail : List ℕ) (thousandths_are : ℕ) : Type 0 where
  seconds_are : digits_of (seconds ++ tail) ≡ seconds
  part_is : thousandths (decimals_of (after_digits (seconds ++ tail))) ≡ Some thousandths_are

none_begins : (seconds rest : List ℕ) → AreDigits seconds → digit_count (seconds ++ rest) + decimals_len (after_digits (seconds ++ rest)) ≡ length seconds → Tail seconds [] rest 0
none_begins seconds rest are e =
    let count = count_append seconds rest are.1 in
    let end : digit_count (seconds ++ rest) ≡ length seconds = omega (arith, e, count) in
    let none : decimals_len (after_digits (seconds ++ rest)) ≡ 0 = omega (arith, e, count) in
    record {
      seconds_are = whole_run seconds rest end;
      part_is = by (begins_part 46 (after_digits (seconds ++ rest))) none;
    }
  where
    by : (b : Bool) → (if b then 1 + digit_count (drop 1 (after_digits (seconds ++ rest))) else 0) ≡ 0 → thousandths (if b then digits_of (drop 1 (after_digits (seconds ++ rest))) else []) ≡ Some 0
    by true h = absurd (omega (arith, h))
    by false h = refl

tail_is : (seconds part rest : List ℕ) (t : ℕ) → AreDigits seconds → SpellsPart part t
    → digit_count (seconds ++ (part ++ rest)) + decimals_len (after_digits (seconds ++ (part ++ rest))) ≡ length seconds + length part → Tail seconds part (part ++ rest) t
tail_is seconds part rest t are (inl none) e =
    subst (λ p. Tail seconds p (p ++ rest) t) (sym none.0) (subst (Tail seconds [] rest) (sym none.1)
    (none_begins seconds rest are (subst (λ p. digit_count (seconds ++ (p ++ rest)) + decimals_len (after_digits (seconds ++ (p ++ rest))) ≡ length seconds + length p) none.0 e ∙ omega arith)))
tail_is seconds part rest t are (inr (decimals, is, has)) e =
    subst (λ p. Tail seconds p (p ++ rest) t) (sym is)
    (let sizes : digit_count (seconds ++ 46 ∷ (decimals ++ rest)) + decimals_len (after_digits (seconds ++ 46 ∷ (decimals ++ rest))) ≡ length seconds + length (46 ∷ decimals) =
    subst (λ p. digit_count (seconds ++ (p ++ rest)) + decimals_len (after_digits (seconds ++ (p ++ rest))) ≡ length seconds + length p) is e in
    let after = after_stops seconds 46 (decimals ++ rest) are.1 refl in
    let count = count_stops seconds 46 (decimals ++ rest) are.1 refl in
    let more : decimals_len (after_digits (seconds ++ 46 ∷ (decimals ++ rest))) ≡ 1 + (length decimals + digit_count rest) = ap decimals_len after ∙ decimals_length decimals rest has.0 in
    record {
      seconds_are = digits_stop seconds 46 (decimals ++ rest) are.1 refl;
      part_is = ap (λ a. thousandths (decimals_of a)) after ∙ ap thousandths (decimals_are decimals rest has.0 (omega (arith, sizes, count, more))) ∙ thousandths_is decimals t has;
    })

pub clock_means : (hours minutes seconds part rest : List ℕ) (t ms : ℕ) → AreDigits hours → AreDigits minutes → AreDigits seconds
    → (value_of hours ≤ 23) × (value_of minutes ≤ 59) × (value_of seconds ≤ 59) → SpellsPart part t
    → ms ≡ ((value_of hours * 60 + value_of minutes) * 60 + value_of seconds) * 1000 + t
    → Means (length hours + (1 + (length minutes + (1 + (length seconds + length part))))) (what.Clock ms) (numeral (hours ++ 58 ∷ (minutes ++ 58 ∷ (seconds ++ (part ++ rest)))))
clock_means hours minutes seconds part rest t ms h m s range spells value_is =
    let bytes = hours ++ 58 ∷ (minutes ++ 58 ∷ (seconds ++ (part ++ rest))) in
    let n = length hours + (1 + (length minutes + (1 + (length seconds + length part)))) in
    let token = what.Clock ms in
    let is = runs hours minutes seconds (part ++ rest) h m s in
    let last = next_part (next_part bytes) in
    let size = digit_count bytes + digit_count (next_part bytes) + digit_count last + 2 + decimals_len (after_digits last) in
    either (Means n token) (begins_clock bytes) (clock_front bytes) (if begins_part 46 (after_digits bytes) then decimal_front bytes else number_front bytes)
    (λ _. sized_means _ size n token
    (λ e. let same : digit_count last + decimals_len (after_digits last) ≡ length seconds + length part = omega (arith, e, is.hours_count, is.minutes_count) in
    let tail = tail_is seconds part rest t s spells (subst (λ b. digit_count b + decimals_len (after_digits b) ≡ length seconds + length part) is.behind same) in
    let value : 1000 * (60 * (60 * value_of hours + value_of minutes) + value_of seconds) + t ≡ ms = omega (arith, value_is) in
    ap (λ ds. clock_of ds (digits_of (next_part bytes)) (digits_of last) (decimals_of (after_digits last))) is.hours_are ∙
    ap (λ ds. clock_of hours ds (digits_of last) (decimals_of (after_digits last))) is.minutes_are ∙
    ap (λ b. clock_of hours minutes (digits_of b) (decimals_of (after_digits b))) is.behind ∙
    ap (λ ds. clock_of hours minutes ds (decimals_of (after_digits (seconds ++ (part ++ rest))))) tail.seconds_are ∙
    ap (λ v. milliseconds v (value_within minutes 59) (value_within seconds 59) (thousandths (decimals_of (after_digits (seconds ++ (part ++ rest)))))) (within hours 23 range.0) ∙
    ap (λ v. milliseconds (Some (value_of hours)) v (value_within seconds 59) (thousandths (decimals_of (after_digits (seconds ++ (part ++ rest)))))) (within minutes 59 range.1) ∙
    ap (λ v. milliseconds (Some (value_of hours)) (Some (value_of minutes)) v (thousandths (decimals_of (after_digits (seconds ++ (part ++ rest)))))) (within seconds 59 range.2) ∙
    ap (milliseconds (Some (value_of hours)) (Some (value_of minutes)) (Some (value_of seconds))) tail.part_is ∙ ap (λ v. Some (what.Clock v)) value))
    (λ e. absurd (true≢false (sym is.begins ∙ e)))

-- ---- symbols

one_means : (double single : Option ℕ) (code : ℕ) → single ≡ Some code → Means 1 (what.Symbol code) (longer_symbol double single)
one_means (Some double) single code e = λ two. absurd (omega (arith, two))
one_means None (Some single) code e = λ _. (let f : single ≡ code = cc e in ap what.Symbol f)
one_means None None code e = tt

two_mean : (double single : Option ℕ) (code : ℕ) → double ≡ Some code → Means 2 (what.Symbol code) (longer_symbol double single)
two_mean (Some double) single code e = λ _. (let f : double ≡ code = cc e in ap what.Symbol f)
two_mean None single code e = absurd (let f = e in cc f)

coded_means : (text rest : List ℕ) (code : ℕ) → is_coded code text ≡ true → Means (length text) (what.Symbol code) (front (text ++ rest))
coded_means [] rest code h = absurd (false≢true h)
coded_means (a ∷ []) rest code h =
    subst (Means 1 (what.Symbol code)) (sym (front_other (a ∷ rest) (and_front (is_other a) _ h)))
    (one_means (double_symbol a (get_or rest 0 0)) (single_symbol a) code (has_is (single_symbol a) code (and_back (is_other a) _ h)))
coded_means (a ∷ b ∷ []) rest code h =
    subst (Means 2 (what.Symbol code)) (sym (front_other (a ∷ b ∷ rest) (and_front (is_other a) _ h)))
    (two_mean (double_symbol a b) (single_symbol a) code (has_is (double_symbol a b) code (and_back (is_other a) _ h)))
coded_means (a ∷ b ∷ c ∷ more) rest code h = absurd (false≢true h)

pub symbol_means : (text rest : List ℕ) (code : ℕ) → code < symbol_count → text ≡ symbol_text code → Means (length text) (what.Symbol code) (front (text ++ rest))
symbol_means text rest code inside e = coded_means text rest code (ap (is_coded code) e ∙ symbol_coded code inside)
