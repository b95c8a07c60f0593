-- The token that begins some bytes is lawful.
use Rattle.std.proofs.Common.{◌≡◌, ◌≢◌, ◌<◌, ◌≤◌, ◌+◌, ◌-◌, ◌*◌, ◌^◌, ℕ, zero, suc, Bool, true, false, ◌&&◌, ◌||◌, nat_le, nat_lt, List, [], ◌∷◌, length, take, drop, fold, get_or, eqb, All, Option, Some, None, IfSome, if◌then◌else◌, refl, sym, subst, ap, ◌∙◌, arith}
use Rattle.std.specs.Char.{is_ascii_alphabetic, is_ascii_digit}
use Rattle.std.specs.Option.{option_map}
use Rattle.std.specs.List.{prefix_len, list_all}
use Rattle.std.specs.Str.{bytes_eq}
use Rattle.std.proofs.Math.Nat.{add-mul, le-mul_of_pos_right}
use Rattle.std.proofs.lemmas.Bool.{false≢true}
use Rattle.std.proofs.lemmas.Nat.{mul-add-lt, pow-add}
use Rattle.std.proofs.lemmas.Slice.Eq.{bytes_eq-Decides}
use Rattle.std.proofs.lemmas.List.Elements.{All-nil, All-cons}
use Rattle.pearl_tree.specs.declared.token.What.{What}
use Rattle.pearl_tree.specs.declared.token.What.TheVariants as what
use Rattle.pearl_tree.specs.Words.{words, meanings, code_count}
use Rattle.pearl_tree.specs.Symbols.{symbol_count}
use Rattle.pearl_tree.specs.declared.symbol.TheConstants as s
use Rattle.pearl_tree.specs.Tokens.{IsDigit, IsIdByte, BeginsWithLetter, IsLawfulWhat}
use Rattle.pearl_lex.specs.declared.front.Front.{Front}
use Rattle.pearl_lex.specs.Spelling.{is_id_byte, sized, meaning, id_of, word_or_id, double_symbol, single_symbol, longer_symbol, symbol_front}
use Rattle.pearl_lex.specs.Literals.{value_of, value_within, digits_of, after_digits, next_part, begins_part, begins_clock, decimals_of, thousandths, number_of, decimal_by, decimal_of, milliseconds, clock_of, clock_front, decimal_front, number_front, numeral}
use Rattle.pearl_lex.specs.Quoted.{is_char, chars_len, chars_of, quoted_text, digit_width, digit_value, is_digit_of, bits_value, bits_of, suffix_len, closed, quoted}
use Rattle.pearl_lex.specs.Front.{word_front, front}
use Rattle.pearl_lex.proofs.Passes.{and_front, and_back, at_most, less, equal, range, digit, letter, id_byte, all_prefix, one_more, choose}

abbrev pub IsLawfulFront : Front → Type 0
IsLawfulFront f = IsLawfulWhat f.what

lawful_sized : (w : Option What) (size : ℕ) → IfSome w IsLawfulWhat → IfSome (sized w size) IsLawfulFront
lawful_sized None size h = tt
lawful_sized (Some w) size h = h

-- ---- words and names

meaning_passes : (p : ℕ → Bool) (table : List (List ℕ × ℕ)) (text : List ℕ) → list_all (λ row. p row.1) table ≡ true → IfSome (meaning table text) (λ code. p code ≡ true)
meaning_passes p [] text all = tt
meaning_passes p (row ∷ table) text all =
    choose (λ code. p code ≡ true) (bytes_eq row.0 text) (Some row.1) (meaning table text)
    (λ _. and_front (p row.1) (list_all (λ row. p row.1) table) all)
    (λ _. meaning_passes p table text (and_back (p row.1) (list_all (λ row. p row.1) table) all))

all_codes : list_all (λ row. nat_lt row.1 code_count) words ≡ true
unfolding words meanings
all_codes = refl

none_differs : (row : List ℕ × ℕ) (table : List (List ℕ × ℕ)) (text : List ℕ) (same : Bool) → bytes_eq row.0 text ≡ same → meaning (row ∷ table) text ≡ None
    → (meaning table text ≡ None → All (λ row. row.0 ≢ text) table) → All (λ row. row.0 ≢ text) (row ∷ table)
none_differs row table text true e none go = absurd (let f = sym (ap (λ b. if b then Some row.1 else meaning table text) e) ∙ none in cc f)
none_differs row table text false e none go =
    All-cons (λ row. row.0 ≢ text) row table (λ is. false≢true (sym e ∙ (bytes_eq-Decides row.0 text).1 is))
    (go (sym (ap (λ b. if b then Some row.1 else meaning table text) e) ∙ none))

pub no_meaning : (table : List (List ℕ × ℕ)) (text : List ℕ) → meaning table text ≡ None → All (λ row. row.0 ≢ text) table
no_meaning [] text none = All-nil (λ row. row.0 ≢ text)
no_meaning (row ∷ table) text none = none_differs row table text (bytes_eq row.0 text) refl none (no_meaning table text)

pub begins_name : (bytes : List ℕ) → is_ascii_alphabetic (get_or bytes 0 0) ≡ true → BeginsWithLetter (take (prefix_len is_id_byte bytes) bytes)
begins_name [] h = absurd (false≢true h)
begins_name (b ∷ bytes) h = by (is_ascii_alphabetic b) refl
  where
    by : (is : Bool) → is_ascii_alphabetic b ≡ is → BeginsWithLetter (take (if is || is_ascii_digit b || eqb b 95 then 1 + prefix_len is_id_byte bytes else 0) (b ∷ bytes))
    by true e = subst (λ n. BeginsWithLetter (take n (b ∷ bytes))) (one_more (prefix_len is_id_byte bytes)) (letter b e)
    by false e = absurd (false≢true (sym e ∙ h))

lawful_id : (text : List ℕ) → BeginsWithLetter text → All IsIdByte text → All (λ row. row.0 ≢ text) words → IfSome (id_of text) IsLawfulWhat
lawful_id text begins bytes no_word =
    choose IsLawfulWhat (nat_le (length text) 63) (Some (what.Id (record { items = text }))) None
    (λ few. record { begins = begins; bytes = bytes; length = at_most (length text) 63 few; no_word = no_word })
    (λ _. tt)

lawful_word : (code : Option ℕ) (text : List ℕ) → meaning words text ≡ code → IfSome code (λ code. nat_lt code code_count ≡ true) → BeginsWithLetter text → All IsIdByte text
    → IfSome (word_or_id code text) IsLawfulWhat
lawful_word (Some code) text e few begins bytes = less code code_count few
lawful_word None text e few begins bytes = lawful_id text begins bytes (no_meaning words text e)

lawful_word_front : (bytes : List ℕ) → is_ascii_alphabetic (get_or bytes 0 0) ≡ true → IfSome (word_front bytes (prefix_len is_id_byte bytes)) IsLawfulFront
lawful_word_front bytes h =
    let text = take (prefix_len is_id_byte bytes) bytes in
    lawful_sized (word_or_id (meaning words text) text) (prefix_len is_id_byte bytes)
    (lawful_word (meaning words text) text refl (meaning_passes (λ code. nat_lt code code_count) words text all_codes) (begins_name bytes h) (all_prefix is_id_byte IsIdByte bytes id_byte))

-- ---- numbers, decimals and clocks

within : (digits : List ℕ) (max : ℕ) → IfSome (value_within digits max) (λ value. value ≤ max)
within digits max = choose (λ value. value ≤ max) (nat_le (value_of digits) max) (Some (value_of digits)) None (λ few. at_most (value_of digits) max few) (λ _. tt)

pub digits_are : (bytes : List ℕ) → All IsDigit (digits_of bytes)
digits_are bytes = all_prefix is_ascii_digit IsDigit bytes digit

decimals_are : (bytes : List ℕ) → All IsDigit (decimals_of bytes)
decimals_are bytes = by (begins_part 46 bytes)
  where
    by : (b : Bool) → All IsDigit (if b then digits_of (drop 1 bytes) else [])
    by true = digits_are (drop 1 bytes)
    by false = All-nil IsDigit

thousand : (digits : List ℕ) → All IsDigit digits → IfSome (thousandths digits) (λ part. part < 1000)
thousand [] all = omega arith
thousand (a ∷ []) all = omega (arith, all 0 0 (omega arith))
thousand (a ∷ b ∷ []) all = omega (arith, all 0 0 (omega arith), all 1 0 (omega arith))
thousand (a ∷ b ∷ c ∷ []) all = omega (arith, all 0 0 (omega arith), all 1 0 (omega arith), all 2 0 (omega arith))
thousand (a ∷ b ∷ c ∷ d ∷ more) all = tt

lawful_number : (value : Option ℕ) → IfSome value (λ value. value ≤ 2 ^ 63 - 1) → IfSome (option_map what.Number value) IsLawfulWhat
lawful_number None h = tt
lawful_number (Some value) h = omega (arith, h)

lawful_decimal : (whole part : Option ℕ) → IfSome whole (λ value. value ≤ 2 ^ 63 - 1) → IfSome part (λ part. part < 1000) → IfSome (decimal_by whole part) IsLawfulWhat
lawful_decimal (Some whole) (Some part) h k = (omega (arith, h), k)
lawful_decimal (Some whole) None h k = tt
lawful_decimal None part h k = tt

lawful_clock : (hours minutes seconds part : Option ℕ) → IfSome hours (λ value. value ≤ 23) → IfSome minutes (λ value. value ≤ 59) → IfSome seconds (λ value. value ≤ 59)
    → IfSome part (λ part. part < 1000) → IfSome (milliseconds hours minutes seconds part) IsLawfulWhat
lawful_clock (Some hours) (Some minutes) (Some seconds) (Some part) h m s p = omega (arith, h, m, s, p)
lawful_clock (Some hours) (Some minutes) (Some seconds) None h m s p = tt
lawful_clock (Some hours) (Some minutes) None part h m s p = tt
lawful_clock (Some hours) None seconds part h m s p = tt
lawful_clock None minutes seconds part h m s p = tt

lawful_numeral : (bytes : List ℕ) → IfSome (numeral bytes) IsLawfulFront
lawful_numeral bytes =
    let after = after_digits bytes in
    let minutes = next_part bytes in
    let seconds = next_part minutes in
    choose IsLawfulFront (begins_clock bytes) (clock_front bytes) (if begins_part 46 after then decimal_front bytes else number_front bytes)
    (λ _. lawful_sized (clock_of (digits_of bytes) (digits_of minutes) (digits_of seconds) (decimals_of (after_digits seconds))) _
    (lawful_clock (value_within (digits_of bytes) 23) (value_within (digits_of minutes) 59) (value_within (digits_of seconds) 59) (thousandths (decimals_of (after_digits seconds)))
    (within (digits_of bytes) 23) (within (digits_of minutes) 59) (within (digits_of seconds) 59) (thousand (decimals_of (after_digits seconds)) (decimals_are (after_digits seconds)))))
    (λ _. choose IsLawfulFront (begins_part 46 after) (decimal_front bytes) (number_front bytes)
    (λ _. lawful_sized (decimal_of (digits_of bytes) (decimals_of after)) _
    (lawful_decimal (value_within (digits_of bytes) (2 ^ 63 - 1)) (thousandths (decimals_of after)) (within (digits_of bytes) (2 ^ 63 - 1)) (thousand (decimals_of after) (decimals_are after))))
    (λ _. lawful_sized (number_of (digits_of bytes)) _ (lawful_number (value_within (digits_of bytes) (2 ^ 63 - 1)) (within (digits_of bytes) (2 ^ 63 - 1)))))

-- ---- bits and texts

bits_below : (w : ℕ) (digits : List ℕ) (value k : ℕ) → value < 2 ^ k → list_all (is_digit_of w) digits ≡ true
    → fold (λ value digit. value * 2 ^ w + digit_value digit) value digits < 2 ^ (k + length digits * w)
bits_below w [] value k few all =
    let e : k ≡ k + 0 * w = omega arith in
    subst (λ n. value < 2 ^ n) e few
bits_below w (d ∷ digits) value k few all =
    let here : digit_value d < 2 ^ w = less (digit_value d) (2 ^ w) (and_front (is_digit_of w d) (list_all (is_digit_of w) digits) all) in
    let more = mul-add-lt value (2 ^ w) (digit_value d) (2 ^ k) few here in
    let power : 2 ^ (w + k) ≡ 2 ^ w * 2 ^ k = pow-add 2 w k in
    let next : value * 2 ^ w + digit_value d < 2 ^ (w + k) = omega (arith, more, power) in
    let count : suc (length digits) * w ≡ (1 + length digits) * w = ap (λ n. n * w) (one_more (length digits)) in
    let e : (w + k) + length digits * w ≡ k + suc (length digits) * w = omega (arith, count, add-mul 1 (length digits) w) in
    subst (λ n. fold (λ value digit. value * 2 ^ w + digit_value digit) (value * 2 ^ w + digit_value d) digits < 2 ^ n) e
    (bits_below w digits (value * 2 ^ w + digit_value d) (w + k) next (and_back (is_digit_of w d) (list_all (is_digit_of w) digits) all))

pub some_bits : (w n : ℕ) → 1 ≤ w → 1 ≤ n → 1 ≤ n * w
some_bits w n some many = let up : n ≤ n * w = le-mul_of_pos_right n some in omega (arith, up, many)

lawful_bits : (w : ℕ) (digits : List ℕ) → 1 ≤ w → IfSome (bits_of w digits) IsLawfulWhat
lawful_bits w digits some =
    let a = nat_le 1 (length digits) in
    let b = nat_le (length digits * w) 64 in
    let c = list_all (is_digit_of w) digits in
    let none : 0 < 2 ^ 0 = omega arith in
    let none_more : 0 + length digits * w ≡ length digits * w = omega arith in
    choose IsLawfulWhat ((a && b) && c) (Some (what.Bits (length digits * w) (bits_value w digits))) None
    (λ h. (
      some_bits w (length digits) some (at_most 1 (length digits) (and_front a b (and_front (a && b) c h))),
      at_most (length digits * w) 64 (and_back a b (and_front (a && b) c h)),
      subst (λ n. bits_value w digits < 2 ^ n) none_more (bits_below w digits 0 0 none (and_back (a && b) c h)),
    ))
    (λ _. tt)

abbrev pub IsChar : ℕ → Type 0
IsChar b = (32 ≤ b) × (b ≤ 126)

pub chars_cons : (a : ℕ) (ys : List ℕ) → eqb a 39 ≡ false → chars_of (a ∷ ys) ≡ a ∷ chars_of ys
chars_cons a [] e = refl
chars_cons a (y ∷ ys) e = ap (λ b. a ∷ (if b then chars_of ys else chars_of (y ∷ ys))) e

two_chars : (p q r : Bool) (a b : ℕ) (rest : List ℕ) → eqb a 39 ≡ p → is_char a ≡ r → All IsChar (chars_of (take (chars_len rest) rest)) → All IsChar (chars_of (take (chars_len (b ∷ rest)) (b ∷ rest)))
    → All IsChar (chars_of (take (if p then (if q then 2 + chars_len rest else 0) else (if r then 1 + chars_len (b ∷ rest) else 0)) (a ∷ b ∷ rest)))
two_chars true true r a b rest e f both one =
    let is : a ≡ 39 = equal a 39 e in
    let list : chars_of (a ∷ b ∷ take (chars_len rest) rest) ≡ a ∷ chars_of (take (chars_len rest) rest) =
    ap (λ t. a ∷ (if t then chars_of (take (chars_len rest) rest) else chars_of (b ∷ take (chars_len rest) rest))) e in
    let two : suc (suc (chars_len rest)) ≡ 2 + chars_len rest = omega arith in
    subst (λ n. All IsChar (chars_of (take n (a ∷ b ∷ rest)))) two
    (subst (All IsChar) (sym list) (All-cons IsChar a (chars_of (take (chars_len rest) rest)) (omega (arith, is), omega (arith, is)) both))
two_chars true false r a b rest e f both one = All-nil IsChar
two_chars false q true a b rest e f both one =
    subst (λ n. All IsChar (chars_of (take n (a ∷ b ∷ rest)))) (one_more (chars_len (b ∷ rest)))
    (subst (All IsChar) (sym (chars_cons a (take (chars_len (b ∷ rest)) (b ∷ rest)) e)) (All-cons IsChar a (chars_of (take (chars_len (b ∷ rest)) (b ∷ rest))) (range 32 126 a f) one))
two_chars false q false a b rest e f both one = All-nil IsChar

one_char : (p r : Bool) (a : ℕ) → is_char a ≡ r → All IsChar (chars_of (take (if p then 0 else (if r then 1 else 0)) (a ∷ [])))
one_char true r a f = All-nil IsChar
one_char false true a f = All-cons IsChar a [] (range 32 126 a f) (All-nil IsChar)
one_char false false a f = All-nil IsChar

pub chars_are : (bytes : List ℕ) → All IsChar (chars_of (take (chars_len bytes) bytes))
chars_are [] = All-nil IsChar
chars_are (a ∷ []) = one_char (eqb a 39) (is_char a) a refl
chars_are (a ∷ b ∷ rest) = two_chars (eqb a 39) (eqb b 39) (is_char a) a b rest refl refl (chars_are rest) (chars_are (b ∷ rest))

lawful_text : (text : List ℕ) → All IsChar text → IfSome (quoted_text text) IsLawfulWhat
lawful_text text all =
    choose IsLawfulWhat (nat_le 1 (length text) && nat_le (length text) 255) (Some (what.Text (record { items = text }))) None
    (λ h. let fits = range 1 255 (length text) h in (fits.0, fits.1, all))
    (λ _. tt)

pub some_width : (n : ℕ) → eqb n 0 ≡ false → 1 ≤ n
some_width n h = by n h
  where
    by : (n : ℕ) → eqb n 0 ≡ false → 1 ≤ n
    by zero h = absurd (false≢true (sym h))
    by (suc n) h = omega arith

lawful_quoted : (bytes : List ℕ) → IfSome (quoted bytes) IsLawfulFront
lawful_quoted bytes =
    let size = chars_len bytes in
    let after = drop (size + 1) bytes in
    choose IsLawfulFront (eqb (get_or bytes size 0) 39) (closed bytes size after) None
    (λ _. choose IsLawfulFront (eqb (digit_width after) 0) (sized (quoted_text (chars_of (take size bytes))) (size + 2)) (sized (bits_of (digit_width after) (take size bytes)) (size + 2 + suffix_len after))
    (λ _. lawful_sized (quoted_text (chars_of (take size bytes))) (size + 2) (lawful_text (chars_of (take size bytes)) (chars_are bytes)))
    (λ h. lawful_sized (bits_of (digit_width after) (take size bytes)) (size + 2 + suffix_len after) (lawful_bits (digit_width after) (take size bytes) (some_width (digit_width after) h))))
    (λ _. tt)

-- ---- symbols

-- the number behind the first test that holds
abbrev pick : List (Bool × ℕ) → Option ℕ
pick [] = None
pick (row ∷ rows) = if row.0 then Some row.1 else pick rows

picks_below : (rows : List (Bool × ℕ)) → list_all (λ row. nat_lt row.1 symbol_count) rows ≡ true → IfSome (pick rows) (λ s. s < symbol_count)
picks_below [] all = tt
picks_below (row ∷ rows) all =
    choose (λ s. s < symbol_count) row.0 (Some row.1) (pick rows)
    (λ _. less row.1 symbol_count (and_front (nat_lt row.1 symbol_count) (list_all (λ row. nat_lt row.1 symbol_count) rows) all))
    (λ _. picks_below rows (and_back (nat_lt row.1 symbol_count) (list_all (λ row. nat_lt row.1 symbol_count) rows) all))

double_below : (a b : ℕ) → IfSome (double_symbol a b) (λ s. s < symbol_count)
double_below a b =
    picks_below (
    (eqb a 58 && eqb b 61, s.BECOMES) ∷
    (eqb a 61 && eqb b 61, s.EQUAL) ∷
    (eqb a 47 && eqb b 61, s.UNEQUAL) ∷
    (eqb a 60 && eqb b 61, s.AT_MOST) ∷
    (eqb a 62 && eqb b 61, s.AT_LEAST) ∷
    (eqb a 62 && eqb b 60, s.CONCATENATE) ∷
    (eqb a 60 && eqb b 62, s.ROTATE) ∷
    (eqb a 47 && eqb b 47, s.DIVIDE) ∷
    (eqb a 42 && eqb b 42, s.POWER) ∷ []
    ) refl

single_below : (a : ℕ) → IfSome (single_symbol a) (λ s. s < symbol_count)
single_below a =
    picks_below (
    (eqb a 40, s.LEFT_ROUND) ∷ (eqb a 41, s.RIGHT_ROUND) ∷ (eqb a 91, s.LEFT_SQUARE) ∷ (eqb a 93, s.RIGHT_SQUARE) ∷ (eqb a 44, s.COMMA) ∷ (eqb a 59, s.SEMICOLON) ∷ (eqb a 58, s.COLON) ∷ (eqb a 46, s.PERIOD) ∷ (eqb a 61, s.EQUALS_SIGN) ∷ (eqb a 60, s.LESS) ∷ (eqb a 62, s.GREATER) ∷ (eqb a 43, s.PLUS) ∷ (eqb a 45, s.MINUS) ∷ (eqb a 42, s.TIMES) ∷ []
    ) refl

lawful_longer : (double single : Option ℕ) → IfSome double (λ s. s < symbol_count) → IfSome single (λ s. s < symbol_count) → IfSome (longer_symbol double single) IsLawfulFront
lawful_longer (Some double) single h k = h
lawful_longer None (Some single) h k = k
lawful_longer None None h k = tt

-- ---- all of them

pub lawful_front : (bytes : List ℕ) → IfSome (front bytes) IsLawfulFront
unfolding front
lawful_front bytes =
    let a = get_or bytes 0 0 in
    let b = get_or bytes 1 0 in
    choose IsLawfulFront (is_ascii_alphabetic a) (word_front bytes (prefix_len is_id_byte bytes)) (if is_ascii_digit a then numeral bytes else (if eqb a 39 then quoted (drop 1 bytes) else symbol_front a b))
    (λ h. lawful_word_front bytes h)
    (λ _. choose IsLawfulFront (is_ascii_digit a) (numeral bytes) (if eqb a 39 then quoted (drop 1 bytes) else symbol_front a b)
    (λ _. lawful_numeral bytes)
    (λ _. choose IsLawfulFront (eqb a 39) (quoted (drop 1 bytes)) (symbol_front a b)
    (λ _. lawful_quoted (drop 1 bytes))
    (λ _. lawful_longer (double_symbol a b) (single_symbol a) (double_below a b) (single_below a))))
