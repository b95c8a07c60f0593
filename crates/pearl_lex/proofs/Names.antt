-- Words, names and symbols are taken as they are spelled.
use Rattle.std.proofs.Common.{zero, suc, ◌≡◌, ◌<◌, ◌≤◌, ◌+◌, inl, ℕ, Bool, true, false, ◌&&◌, List, [], ◌∷◌, ◌++◌, length, take, drop, get_or, eqb, nat_le, nat_lt, All, Option, Some, None, IfSome, if◌then◌else◌, refl, sym, subst, ap, ◌∙◌, arith}
use Rattle.std.specs.Char.{is_ascii_alphabetic, is_ascii_digit}
use Rattle.std.specs.List.{prefix_len, list_all}
use Rattle.std.specs.Str.{bytes_eq}
use Rattle.std.proofs.lemmas.Bool.{false≢true}
use Rattle.std.proofs.lemmas.Bool.Decides.{nat_tests}
use Rattle.std.proofs.lemmas.Slice.Eq.{bytes_eq-Decides}
use Rattle.std.proofs.lemmas.List.Folds.{length-prefix_len}
use Rattle.pearl_tree.specs.declared.token.What.TheVariants as what
use Rattle.pearl_tree.specs.Tokens.{IsIdByte, BeginsWithLetter}
use Rattle.pearl_tree.specs.declared.symbol.TheConstants as s
use Rattle.pearl_tree.specs.Symbols.{symbol_texts, symbol_text, symbol_count}
use Rattle.pearl_tree.specs.Words.{words, meanings, IsWord}
use Rattle.pearl_lex.specs.Spelling.{is_id_byte, sized, meaning, word_or_id, id_of, double_symbol, single_symbol, longer_symbol, symbol_front}
use Rattle.pearl_lex.specs.Literals.{numeral}
use Rattle.pearl_lex.specs.Quoted.{quoted}
use Rattle.pearl_lex.specs.Front.{word_front, front}
use Rattle.pearl_lex.proofs.Passes.{and_front, and_back, at_most, less, equal, id_byte, all_prefix, choose}
use Rattle.pearl_lex.proofs.Lawful.{begins_name, no_meaning}
use Rattle.pearl_lex.proofs.WordMeaning.{each_word, each_word-at, code_has_word}
use Rattle.pearl_lex.proofs.Runs.{Outcome, AtLeast, Meets, meets_from, either, sized_least, is_letter, is_of_id, run_append, run_split, All-map, Sound, none_sized, each_passes}

-- ---- which definition a first byte leads to

pub front_letter : (bytes : List ℕ) → is_ascii_alphabetic (get_or bytes 0 0) ≡ true → front bytes ≡ word_front bytes (prefix_len is_id_byte bytes)
unfolding front
front_letter bytes h =
    let a = get_or bytes 0 0 in
    ap (λ b. if b then word_front bytes (prefix_len is_id_byte bytes) else (if is_ascii_digit a then numeral bytes else (if eqb a 39 then quoted (drop 1 bytes) else symbol_front a (get_or bytes 1 0)))) h

pub front_digit : (bytes : List ℕ) → is_ascii_alphabetic (get_or bytes 0 0) ≡ false → is_ascii_digit (get_or bytes 0 0) ≡ true → front bytes ≡ numeral bytes
unfolding front
front_digit bytes g h =
    let a = get_or bytes 0 0 in
    ap (λ b. if b then word_front bytes (prefix_len is_id_byte bytes) else (if is_ascii_digit a then numeral bytes else (if eqb a 39 then quoted (drop 1 bytes) else symbol_front a (get_or bytes 1 0)))) g ∙
    ap (λ b. if b then numeral bytes else (if eqb a 39 then quoted (drop 1 bytes) else symbol_front a (get_or bytes 1 0))) h

pub front_quote : (rest : List ℕ) → front (39 ∷ rest) ≡ quoted rest
unfolding front
front_quote rest = refl

-- a byte that begins no name, no number and nothing quoted
abbrev pub is_other : ℕ → Bool
is_other a = if is_ascii_alphabetic a then false else (if is_ascii_digit a then false else (if eqb a 39 then false else true))

pub front_other : (bytes : List ℕ) → is_other (get_or bytes 0 0) ≡ true → front bytes ≡ symbol_front (get_or bytes 0 0) (get_or bytes 1 0)
unfolding front
front_other bytes h = by (is_ascii_alphabetic (get_or bytes 0 0)) (is_ascii_digit (get_or bytes 0 0)) (eqb (get_or bytes 0 0) 39) h
  where
    by : (letter digit quote : Bool) → (if letter then false else (if digit then false else (if quote then false else true))) ≡ true
        → (if letter then word_front bytes (prefix_len is_id_byte bytes) else (if digit then numeral bytes else (if quote then quoted (drop 1 bytes) else symbol_front (get_or bytes 0 0) (get_or bytes 1 0)))) ≡ symbol_front (get_or bytes 0 0) (get_or bytes 1 0)
    by true digit quote h = absurd (false≢true h)
    by false true quote h = absurd (false≢true h)
    by false false true h = absurd (false≢true h)
    by false false false h = refl

-- ---- words and names

-- a word is spelled as a name would be
abbrev pub is_named : List ℕ → Bool
is_named [] = false
is_named (b ∷ bytes) = is_ascii_alphabetic b && (list_all is_id_byte (b ∷ bytes) && nat_le (length (b ∷ bytes)) 63)

words_named : each_word (λ code text. is_named text) meanings ≡ true
unfolding meanings
words_named = refl

pub word_named : (text : List ℕ) (code : ℕ) → IsWord text code → is_named text ≡ true
word_named text code is = each_word-at (λ code text. is_named text) meanings words_named code text is

short_word : (text : List ℕ) → is_named text ≡ true → length text ≤ 63
short_word [] h = omega arith
short_word (b ∷ bytes) h = at_most (length (b ∷ bytes)) 63 (and_back (list_all is_id_byte (b ∷ bytes)) _ (and_back (is_ascii_alphabetic b) _ h))

name_by : (bytes : List ℕ) (code : Option ℕ) → is_ascii_alphabetic (get_or bytes 0 0) ≡ true → meaning words (take (prefix_len is_id_byte bytes) bytes) ≡ code
    → Outcome bytes (sized (word_or_id code (take (prefix_len is_id_byte bytes) bytes)) (prefix_len is_id_byte bytes))
name_by bytes (Some code) h e = record {
  text = take (prefix_len is_id_byte bytes) bytes;
  rest = drop (prefix_len is_id_byte bytes) bytes;
  written = run_split is_id_byte bytes;
  size_is = sym (length-prefix_len is_id_byte bytes);
  spells = code_has_word (take (prefix_len is_id_byte bytes) bytes) code e;
  follows = tt;
}
name_by bytes None h e =
    let size = prefix_len is_id_byte bytes in
    let text = take size bytes in
    let all : All IsIdByte text = all_prefix is_id_byte IsIdByte bytes id_byte in
    either (λ o. Outcome bytes (sized o size)) (nat_le (length text) 63) (Some (what.Id (record { items = text }))) None
    (λ few. record {
      text = text;
      rest = drop size bytes;
      written = run_split is_id_byte bytes;
      size_is = sym (length-prefix_len is_id_byte bytes);
      spells = (record { begins = begins_name bytes h; bytes = all; length = at_most (length text) 63 few; no_word = no_meaning words text e }, refl);
      follows = tt;
    })
    (λ many. inl (record { text = text; rest = drop size bytes; written = run_split is_id_byte bytes; begins = begins_name bytes h; each = all; long = above (length text) many }))
  where
    above : (n : ℕ) → nat_le n 63 ≡ false → 63 < n
    above n h = grind (arith, nat_tests)

pub name_outcome : (bytes : List ℕ) → is_ascii_alphabetic (get_or bytes 0 0) ≡ true → Outcome bytes (front bytes)
name_outcome bytes h = subst (Outcome bytes) (sym (front_letter bytes h)) (name_by bytes _ h refl)

-- a word or a name of more bytes is taken, or the bytes begin a name that is too long
name_meets : (b : ℕ) (text rest : List ℕ) → is_ascii_alphabetic b ≡ true → All (λ x. is_id_byte x ≡ true) (b ∷ text) → Meets (length (b ∷ text)) ((b ∷ text) ++ rest) (front ((b ∷ text) ++ rest))
name_meets b text rest h all =
    let bytes = (b ∷ text) ++ rest in
    let run : prefix_len is_id_byte bytes ≡ length (b ∷ text) + prefix_len is_id_byte rest = run_append is_id_byte (b ∷ text) rest all in
    meets_from (length (b ∷ text)) bytes (front bytes)
    (subst (AtLeast (length (b ∷ text))) (sym (front_letter bytes h)) (sized_least _ (length (b ∷ text)) (prefix_len is_id_byte bytes) (omega (arith, run))))
    (name_outcome bytes h)

pub id_meets : (text rest : List ℕ) → BeginsWithLetter text → All IsIdByte text → Meets (length text) (text ++ rest) (front (text ++ rest))
id_meets [] rest begins all = absurd begins
id_meets (b ∷ text) rest begins all = name_meets b text rest (is_letter b begins) (All-map IsIdByte (λ x. is_id_byte x ≡ true) (b ∷ text) is_of_id all)

named_meets : (text rest : List ℕ) → is_named text ≡ true → Meets (length text) (text ++ rest) (front (text ++ rest))
named_meets [] rest h = absurd (false≢true h)
named_meets (b ∷ text) rest h =
    name_meets b text rest (and_front (is_ascii_alphabetic b) _ h) ((each_passes is_id_byte (b ∷ text)).0 (and_front (list_all is_id_byte (b ∷ text)) _ (and_back (is_ascii_alphabetic b) _ h)))

pub word_meets : (text rest : List ℕ) (code : ℕ) → IsWord text code → Meets (length text) (text ++ rest) (front (text ++ rest))
word_meets text rest code is = named_meets text rest (word_named text code is)

no_id : (text : List ℕ) → 63 < length text → id_of text ≡ None
no_id text long = grind (arith, nat_tests)

long_by : (text : List ℕ) (code : Option ℕ) → 63 < length text → meaning words text ≡ code → word_or_id code text ≡ None
long_by text None long e = no_id text long
long_by text (Some code) long e = absurd (let few = short_word text (word_named text code (code_has_word text code e)) in omega (arith, few, long))

pub no_long_name : (text rest : List ℕ) → BeginsWithLetter text → All IsIdByte text → 63 < length text → front (text ++ rest) ≡ None
no_long_name [] rest begins all long = absurd begins
no_long_name (b ∷ text) rest begins all long =
    let bytes = (b ∷ text) ++ rest in
    let size = prefix_len is_id_byte bytes in
    let run : size ≡ length (b ∷ text) + prefix_len is_id_byte rest = run_append is_id_byte (b ∷ text) rest (All-map IsIdByte (λ x. is_id_byte x ≡ true) (b ∷ text) is_of_id all) in
    let many : 63 < length (take size bytes) = omega (arith, run, long, length-prefix_len is_id_byte bytes) in
    front_letter bytes (is_letter b begins) ∙ none_sized _ size (long_by (take size bytes) _ many refl)

-- ---- symbols

-- the number behind the first pair of these bytes
abbrev pick : ℕ → ℕ → List (ℕ × ℕ × ℕ) → Option ℕ
pick a b [] = None
pick a b (row ∷ rows) = if eqb a row.0 && eqb b row.1 then Some row.2 else pick a b rows

abbrev IsSymbolText : List ℕ → ℕ → Type 0
IsSymbolText text code = (code < symbol_count) × (text ≡ symbol_text code)

text_is : (code : ℕ) (text : List ℕ) → (nat_lt code symbol_count && bytes_eq text (symbol_text code)) ≡ true → IsSymbolText text code
text_is code text h = (less code symbol_count (and_front (nat_lt code symbol_count) _ h), (bytes_eq-Decides text (symbol_text code)).0 (and_back (nat_lt code symbol_count) _ h))

picked : (a b : ℕ) (rows : List (ℕ × ℕ × ℕ)) → list_all (λ row. nat_lt row.2 symbol_count && bytes_eq (row.0 ∷ row.1 ∷ []) (symbol_text row.2)) rows ≡ true
    → IfSome (pick a b rows) (IsSymbolText (a ∷ b ∷ []))
picked a b [] h = tt
picked a b (row ∷ rows) h =
    choose (IsSymbolText (a ∷ b ∷ [])) (eqb a row.0 && eqb b row.1) (Some row.2) (pick a b rows)
    (λ e. let is = text_is row.2 (row.0 ∷ row.1 ∷ []) (and_front (nat_lt row.2 symbol_count && bytes_eq (row.0 ∷ row.1 ∷ []) (symbol_text row.2)) _ h) in
    (is.0, ap (λ x. x ∷ b ∷ []) (equal a row.0 (and_front (eqb a row.0) _ e)) ∙ ap (λ y. row.0 ∷ y ∷ []) (equal b row.1 (and_back (eqb a row.0) _ e)) ∙ is.1))
    (λ _. picked a b rows (and_back (nat_lt row.2 symbol_count && bytes_eq (row.0 ∷ row.1 ∷ []) (symbol_text row.2)) _ h))

-- the rows of the symbols of two bytes
abbrev doubles : List (ℕ × ℕ × ℕ)
doubles =
    (58, 61, s.BECOMES) ∷ (61, 61, s.EQUAL) ∷ (47, 61, s.UNEQUAL) ∷ (60, 61, s.AT_MOST) ∷ (62, 61, s.AT_LEAST) ∷ (62, 60, s.CONCATENATE) ∷ (60, 62, s.ROTATE) ∷ (47, 47, s.DIVIDE) ∷ (42, 42, s.POWER) ∷ []

double_is : (a b : ℕ) → IfSome (double_symbol a b) (IsSymbolText (a ∷ b ∷ []))
unfolding symbol_text symbol_texts
double_is a b = picked a b doubles refl

no_pair : (a b : ℕ) (rows : List (ℕ × ℕ × ℕ)) → list_all (λ row. if eqb b row.1 then false else true) rows ≡ true → pick a b rows ≡ None
no_pair a b [] h = refl
no_pair a b (row ∷ rows) h = by (eqb a row.0) (eqb b row.1) (and_front (if eqb b row.1 then false else true) _ h) (no_pair a b rows (and_back (if eqb b row.1 then false else true) _ h))
  where
    by : (x y : Bool) → (if y then false else true) ≡ true → pick a b rows ≡ None → (if x && y then Some row.2 else pick a b rows) ≡ None
    by x true g e = absurd (false≢true g)
    by true false g e = e
    by false false g e = e

-- the end of the bytes is no byte of a symbol
no_double : (a : ℕ) → double_symbol a 0 ≡ None
no_double a = no_pair a 0 doubles refl

abbrev pick_one : ℕ → List (ℕ × ℕ) → Option ℕ
pick_one a [] = None
pick_one a (row ∷ rows) = if eqb a row.0 then Some row.1 else pick_one a rows

picked_one : (a : ℕ) (rows : List (ℕ × ℕ)) → list_all (λ row. nat_lt row.1 symbol_count && bytes_eq (row.0 ∷ []) (symbol_text row.1)) rows ≡ true
    → IfSome (pick_one a rows) (IsSymbolText (a ∷ []))
picked_one a [] h = tt
picked_one a (row ∷ rows) h =
    choose (IsSymbolText (a ∷ [])) (eqb a row.0) (Some row.1) (pick_one a rows)
    (λ e. let is = text_is row.1 (row.0 ∷ []) (and_front (nat_lt row.1 symbol_count && bytes_eq (row.0 ∷ []) (symbol_text row.1)) _ h) in
    (is.0, ap (λ x. x ∷ []) (equal a row.0 e) ∙ is.1))
    (λ _. picked_one a rows (and_back (nat_lt row.1 symbol_count && bytes_eq (row.0 ∷ []) (symbol_text row.1)) _ h))

single_is : (a : ℕ) → IfSome (single_symbol a) (IsSymbolText (a ∷ []))
unfolding symbol_text symbol_texts
single_is a =
    picked_one a (
    (40, s.LEFT_ROUND) ∷ (41, s.RIGHT_ROUND) ∷ (91, s.LEFT_SQUARE) ∷ (93, s.RIGHT_SQUARE) ∷ (44, s.COMMA) ∷ (59, s.SEMICOLON) ∷ (58, s.COLON) ∷ (46, s.PERIOD) ∷ (61, s.EQUALS_SIGN) ∷ (60, s.LESS) ∷ (62, s.GREATER) ∷ (43, s.PLUS) ∷ (45, s.MINUS) ∷ (42, s.TIMES) ∷ []
    ) refl

longer_sound : (bytes text one : List ℕ) (tail rest : List ℕ) (double single : Option ℕ) → IfSome double (IsSymbolText text) → IfSome single (IsSymbolText one)
    → (IfSome double (λ _. (bytes ≡ text ++ tail) × (length text ≡ 2))) → (bytes ≡ one ++ rest) → length one ≡ 1 → Sound bytes (longer_symbol double single)
longer_sound bytes text one tail rest (Some double) single d g two e n =
    record { text = text; rest = tail; written = two.0; size_is = sym two.1; spells = d; follows = tt }
longer_sound bytes text one tail rest None (Some single) d g two e n =
    record { text = one; rest = rest; written = e; size_is = sym n; spells = g; follows = tt }
longer_sound bytes text one tail rest None None d g two e n = tt

pub symbol_sound : (bytes : List ℕ) → Sound bytes (symbol_front (get_or bytes 0 0) (get_or bytes 1 0))
symbol_sound [] = tt
symbol_sound (a ∷ []) = longer_sound (a ∷ []) (a ∷ 0 ∷ []) (a ∷ []) [] [] (double_symbol a 0) (single_symbol a) (double_is a 0) (single_is a)
    (let P : Option ℕ → Type 0 = λ o. IfSome o (λ _. (◌≡◌ {A = List ℕ} (a ∷ []) (a ∷ 0 ∷ [])) × (◌≡◌ {A = ℕ} 2 2)) in subst P (sym (no_double a)) tt) refl refl
symbol_sound (a ∷ b ∷ rest) =
    longer_sound (a ∷ b ∷ rest) (a ∷ b ∷ []) (a ∷ []) rest (b ∷ rest) (double_symbol a b) (single_symbol a) (double_is a b) (single_is a) (two (double_symbol a b)) refl refl
  where
    two : (o : Option ℕ) → IfSome o (λ _. (◌≡◌ {A = List ℕ} (a ∷ b ∷ rest) (a ∷ b ∷ rest)) × (◌≡◌ {A = ℕ} 2 2))
    two None = tt
    two (Some d) = (refl, refl)

-- each symbol is found by its bytes
abbrev pub has : Option ℕ → ℕ → Bool
has None code = false
has (Some found) code = eqb found code

pub has_is : (o : Option ℕ) (code : ℕ) → has o code ≡ true → o ≡ Some code
has_is None code h = absurd (false≢true h)
has_is (Some found) code h = ap Some (equal found code h)

abbrev pub is_coded : ℕ → List ℕ → Bool
is_coded code [] = false
is_coded code (a ∷ []) = is_other a && has (single_symbol a) code
is_coded code (a ∷ b ∷ []) = is_other a && has (double_symbol a b) code
is_coded code (a ∷ b ∷ c ∷ more) = false

-- each text passes the test for its number
abbrev each_text : (ℕ → List ℕ → Bool) → List (List ℕ) → Bool
each_text test [] = true
each_text test (text ∷ texts) = test 0 text && each_text (λ code. test (suc code)) texts

each_text-at : (test : ℕ → List ℕ → Bool) (texts : List (List ℕ)) (code : ℕ) → each_text test texts ≡ true → code < length texts → test code (get_or texts code []) ≡ true
each_text-at test [] code e inside = absurd (omega (arith, inside))
each_text-at test (text ∷ texts) zero e inside = and_front (test 0 text) (each_text (λ code. test (suc code)) texts) e
each_text-at test (text ∷ texts) (suc code) e inside =
    each_text-at (λ n. test (suc n)) texts code (and_back (test 0 text) (each_text (λ n. test (suc n)) texts) e) (omega (arith, inside))

symbols_coded : each_text is_coded symbol_texts ≡ true
unfolding symbol_texts
symbols_coded = refl

symbols_count : length symbol_texts ≡ symbol_count
unfolding symbol_texts
symbols_count = refl

pub symbol_coded : (code : ℕ) → code < symbol_count → is_coded code (symbol_text code) ≡ true
unfolding symbol_text
symbol_coded code inside = each_text-at is_coded symbol_texts code symbols_coded (omega (arith, inside, symbols_count))

one_meets : (bytes : List ℕ) (double single : Option ℕ) (code : ℕ) → single ≡ Some code → Meets 1 bytes (longer_symbol double single)
one_meets bytes (Some double) single code e = omega arith
one_meets bytes None (Some single) code e = omega arith
one_meets bytes None None code e = absurd (let f = e in cc f)

two_meet : (bytes : List ℕ) (double single : Option ℕ) (code : ℕ) → double ≡ Some code → Meets 2 bytes (longer_symbol double single)
two_meet bytes (Some double) single code e = omega arith
two_meet bytes None single code e = absurd (let f = e in cc f)

coded_meets : (text rest : List ℕ) (code : ℕ) → is_coded code text ≡ true → Meets (length text) (text ++ rest) (front (text ++ rest))
coded_meets [] rest code h = absurd (false≢true h)
coded_meets (a ∷ []) rest code h =
    subst (Meets 1 (a ∷ rest)) (sym (front_other (a ∷ rest) (and_front (is_other a) _ h)))
    (one_meets (a ∷ rest) (double_symbol a (get_or rest 0 0)) (single_symbol a) code (has_is (single_symbol a) code (and_back (is_other a) _ h)))
coded_meets (a ∷ b ∷ []) rest code h =
    subst (Meets 2 (a ∷ b ∷ rest)) (sym (front_other (a ∷ b ∷ rest) (and_front (is_other a) _ h)))
    (two_meet (a ∷ b ∷ rest) (double_symbol a b) (single_symbol a) code (has_is (double_symbol a b) code (and_back (is_other a) _ h)))
coded_meets (a ∷ b ∷ c ∷ more) rest code h = absurd (false≢true h)

pub symbol_meets : (text rest : List ℕ) (code : ℕ) → code < symbol_count → text ≡ symbol_text code → Meets (length text) (text ++ rest) (front (text ++ rest))
symbol_meets text rest code inside e = coded_meets text rest code (ap (is_coded code) e ∙ symbol_coded code inside)
