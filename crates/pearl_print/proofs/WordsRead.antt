-- Words and names are read back as they are written.
use Rattle.std.proofs.Common.{◌≡◌, ◌≢◌, ◌<◌, ◌≤◌, ℕ, zero, suc, Bool, true, false, ◌&&◌, ◌==◌, eqb, if◌then◌else◌, List, [], ◌∷◌, ◌++◌, length, take, get_or, Option, Some, None, All, refl, ap, ◌∙◌, append_assoc, arith}
use Rattle.std.specs.Char.{is_ascii_alphabetic}
use Rattle.std.specs.List.{prefix_len, list_all}
use Rattle.std.specs.Str.{bytes_eq}
use Rattle.std.proofs.lemmas.Bool.{eqb-true}
use Rattle.std.proofs.lemmas.Slice.Eq.{bytes_eq-Decides}
use Rattle.std.proofs.lemmas.List.Elements.{All-head, All-tail}
use Rattle.pearl_tree.specs.Words.{words, meanings, word_texts, word_text, code_count}
use Rattle.pearl_tree.specs.declared.token.What.TheVariants as what
use Rattle.pearl_lex.specs.declared.front.Front.{Front}
use Rattle.pearl_lex.specs.Spelling.{is_id_byte, is_blank, space_len, sized, meaning, word_or_id, id_of}
use Rattle.pearl_lex.specs.Front.{front}
use Rattle.pearl_lex.proofs.Offered.{and_front, and_back}
use Rattle.pearl_print.specs.Spelled.{spelled}
use Rattle.pearl_print.specs.Reading.{IsReadBack}
use Rattle.pearl_tree.specs.Tokens.{IsLetter, IsIdByte, IsId, BeginsWithLetter}
use Rattle.std.proofs.lemmas.Grind.{common_steps}
use Rattle.std.proofs.lemmas.Bool.Decides.{nat_tests}

-- a byte that begins no blank and no comment
abbrev is_solid : ℕ → Bool
is_solid b = if is_blank b then false else (if b == 33 then false else (if b == 47 then false else true))

-- a letter, then letters, digits and `_`
abbrev pub is_name_text : List ℕ → Bool
is_name_text [] = false
is_name_text (b ∷ bytes) = is_solid b && (is_ascii_alphabetic b && (is_id_byte b && list_all is_id_byte bytes))

all_taken : (bytes rest : List ℕ) → list_all is_id_byte bytes ≡ true → prefix_len is_id_byte (bytes ++ 32 ∷ rest) ≡ length bytes
all_taken [] rest e = refl
all_taken (b ∷ bytes) rest e =
    let h : is_id_byte b ≡ true = and_front (is_id_byte b) (list_all is_id_byte bytes) e in
    let others : prefix_len is_id_byte (bytes ++ 32 ∷ rest) ≡ length bytes = all_taken bytes rest (and_back (is_id_byte b) (list_all is_id_byte bytes) e) in
    rw h (omega arith)

taken_front : (bytes rest : List ℕ) → take (length bytes) (bytes ++ rest) ≡ bytes
taken_front [] rest = refl
taken_front (b ∷ bytes) rest = ap (λ t. b ∷ t) (taken_front bytes rest)

solid_is_no_space : (b : ℕ) (rest : List ℕ) (blank mark slash : Bool) → is_blank b ≡ blank → (b == 33) ≡ mark → (b == 47) ≡ slash →
    (if blank then false else (if mark then false else (if slash then false else true))) ≡ true → space_len (b ∷ rest) ≡ 0
solid_is_no_space b rest true mark slash e1 e2 e3 e = absurd (let f = e in cc f)
solid_is_no_space b rest false true slash e1 e2 e3 e = absurd (let f = e in cc f)
solid_is_no_space b rest false false true e1 e2 e3 e = absurd (let f = e in cc f)
solid_is_no_space b rest false false false e1 e2 e3 e = rw (e1, e2, e3)

chosen : (test : Bool) (x y : Option Front) → test ≡ true → (if test then x else y) ≡ x
chosen true x y e = refl
chosen false x y e = absurd (let f = e in cc f)

-- such a text before a blank
pub name_no_space : (text rest : List ℕ) → is_name_text text ≡ true → space_len (text ++ rest) ≡ 0
name_no_space [] rest e = absurd (let f = e in cc f)
name_no_space (b ∷ bytes) rest e =
    solid_is_no_space b (bytes ++ rest) _ _ _ refl refl refl (and_front (is_solid b) (is_ascii_alphabetic b && (is_id_byte b && list_all is_id_byte bytes)) e)

pub name_front : (text rest : List ℕ) → is_name_text text ≡ true → front (text ++ 32 ∷ rest) ≡ sized (word_or_id (meaning words text) text) (length text)
unfolding front
name_front [] rest e = absurd (let f = e in cc f)
name_front (b ∷ bytes) rest e =
    let h = and_back (is_solid b) (is_ascii_alphabetic b && (is_id_byte b && list_all is_id_byte bytes)) e in
    let letter : is_ascii_alphabetic b ≡ true = and_front (is_ascii_alphabetic b) (is_id_byte b && list_all is_id_byte bytes) h in
    let all : prefix_len is_id_byte ((b ∷ bytes) ++ 32 ∷ rest) ≡ length (b ∷ bytes) = all_taken (b ∷ bytes) rest (and_back (is_ascii_alphabetic b) (is_id_byte b && list_all is_id_byte bytes) h) in
    let text : take (length (b ∷ bytes)) ((b ∷ bytes) ++ 32 ∷ rest) ≡ b ∷ bytes = taken_front (b ∷ bytes) (32 ∷ rest) in
    let word = λ (bytes : List ℕ) (size : ℕ). sized (word_or_id (meaning words (take size bytes)) (take size bytes)) size in
    chosen (is_ascii_alphabetic b) _ _ letter ∙
    ap (λ n. word ((b ∷ bytes) ++ 32 ∷ rest) n) all ∙ ap (λ t. sized (word_or_id (meaning words t) t) (length (b ∷ bytes))) text

-- the text of each word passes this test
abbrev has_code : Option ℕ → ℕ → Bool
has_code None code = false
has_code (Some found) code = eqb found code

has_code-is : (found : Option ℕ) (code : ℕ) → has_code found code ≡ true → found ≡ Some code
has_code-is None code e = absurd (let f = e in cc f)
has_code-is (Some found) code e = ap Some (eqb-true found code e)

abbrev is_word_text : ℕ → List ℕ → Bool
is_word_text code text = is_name_text text && has_code (meaning words text) code

-- each row passes the test for its number
abbrev each_row : (ℕ → List ℕ → Bool) → List (List ℕ) → Bool
each_row test [] = true
each_row test (text ∷ texts) = test 0 text && each_row (λ code. test (suc code)) texts

each_row-at : (test : ℕ → List ℕ → Bool) (texts : List (List ℕ)) (code : ℕ) → each_row test texts ≡ true → code < length texts → test code (get_or texts code []) ≡ true
each_row-at test [] code e inside = absurd (omega arith)
each_row-at test (text ∷ texts) zero e inside = and_front (test 0 text) (each_row (λ code. test (suc code)) texts) e
each_row-at test (text ∷ texts) (suc code) e inside =
    each_row-at (λ n. test (suc n)) texts code (and_back (test 0 text) (each_row (λ n. test (suc n)) texts) e) (omega arith)

words_pass : each_row is_word_text word_texts ≡ true
unfolding words word_texts meanings
words_pass = refl

words_length : length word_texts ≡ code_count
unfolding word_texts meanings
words_length = refl

word_passes : (code : ℕ) → code < code_count → is_word_text code (word_text code) ≡ true
unfolding word_text
word_passes code inside = each_row-at is_word_text word_texts code words_pass (omega (arith, words_length))

-- a word is read back
pub word_reads : (code : ℕ) → code < code_count → IsReadBack (what.Word code)
unfolding spelled
word_reads code inside =
    let text = word_text code in
    let e = word_passes code inside in
    let plain : is_name_text text ≡ true = and_front (is_name_text text) (has_code (meaning words text) code) e in
    let means : meaning words text ≡ Some code = has_code-is (meaning words text) code (and_back (is_name_text text) (has_code (meaning words text) code) e) in
    record {
      begins = λ rest. ap front (append_assoc text (32 ∷ []) rest) ∙ name_front text rest plain ∙ ap (λ m. sized (word_or_id m text) (length text)) means;
      no_space = λ rest. ap space_len (append_assoc text (32 ∷ []) rest) ∙ name_no_space text (32 ∷ rest) plain;
    }

and_true : (a b : Bool) → a ≡ true → b ≡ true → a && b ≡ true
and_true true true e f = refl
and_true true false e f = f
and_true false b e f = e

letter_is_solid : (b : ℕ) → IsLetter b → is_solid b ≡ true
letter_is_solid b h = grind (arith, common_steps, nat_tests)

letter_is_letter : (b : ℕ) → IsLetter b → is_ascii_alphabetic b ≡ true
letter_is_letter b h = grind (arith, common_steps, nat_tests)

id_byte_is : (b : ℕ) → IsIdByte b → is_id_byte b ≡ true
id_byte_is b h = grind (arith, common_steps, nat_tests)

id_bytes_are : (bytes : List ℕ) → All IsIdByte bytes → list_all is_id_byte bytes ≡ true
id_bytes_are [] each = refl
id_bytes_are (b ∷ bytes) each =
    and_true (is_id_byte b) (list_all is_id_byte bytes) (id_byte_is b (All-head IsIdByte b bytes each)) (id_bytes_are bytes (All-tail IsIdByte b bytes each))

id_is_name_text : (text : List ℕ) → BeginsWithLetter text → All IsIdByte text → is_name_text text ≡ true
id_is_name_text [] begins each = absurd begins
id_is_name_text (b ∷ bytes) begins each =
    and_true (is_solid b) _ (letter_is_solid b begins) (and_true (is_ascii_alphabetic b) _ (letter_is_letter b begins) (id_bytes_are (b ∷ bytes) each))

no_meaning : (rows : List (List ℕ × ℕ)) (text : List ℕ) → All (λ row. row.0 ≢ text) rows → meaning rows text ≡ None
no_meaning [] text each = refl
no_meaning (row ∷ rows) text each = other (bytes_eq row.0 text) refl (no_meaning rows text (All-tail (λ row. row.0 ≢ text) row rows each)) where
  other : (same : Bool) → bytes_eq row.0 text ≡ same → meaning rows text ≡ None → (if same then Some row.1 else meaning rows text) ≡ None
  other true e later = absurd (All-head (λ row. row.0 ≢ text) row rows each ((bytes_eq-Decides row.0 text).0 e))
  other false e later = later

short_id : (text : List ℕ) → length text ≤ 63 → id_of text ≡ Some (what.Id (record { items = text }))
short_id text h = grind (arith, nat_tests)

-- a name is read back
pub id_reads : (text : List ℕ) → IsId text → IsReadBack (what.Id (record { items = text }))
unfolding spelled
id_reads text is =
    let plain : is_name_text text ≡ true = id_is_name_text text is.begins is.bytes in
    let means : meaning words text ≡ None = no_meaning words text is.no_word in
    record {
      begins = λ rest. ap front (append_assoc text (32 ∷ []) rest) ∙ name_front text rest plain ∙
          ap (λ m. sized (word_or_id m text) (length text)) means ∙ ap (λ what. sized what (length text)) (short_id text is.length);
      no_space = λ rest. ap space_len (append_assoc text (32 ∷ []) rest) ∙ name_no_space text (32 ∷ rest) plain;
    }
