-- Texts are read back as they are written.
use Rattle.std.proofs.Common.{◌≡◌, ◌<◌, ◌≤◌, ◌+◌, ℕ, suc, Bool, true, false, ◌==◌, if◌then◌else◌, List, [], ◌∷◌, ◌++◌, length, take, drop, slice_index, Some, All, refl, sym, ap, ◌∙◌, append_assoc, arith, length-append}
use Rattle.std.proofs.lemmas.Grind.{common_steps}
use Rattle.std.proofs.lemmas.Bool.Decides.{nat_tests}
use Rattle.std.proofs.lemmas.List.Elements.{All-head, All-tail}
use Rattle.pearl_tree.specs.declared.token.What.TheVariants as what
use Rattle.pearl_tree.specs.Tokens.{IsText}
use Rattle.pearl_lex.specs.Spelling.{sized}
use Rattle.pearl_lex.specs.Quoted.{is_char, chars_len, chars_of, quoted_text, quoted}
use Rattle.pearl_lex.specs.Front.{front}
use Rattle.pearl_lex.specs.Spells.{doubled}
use Rattle.pearl_print.specs.Spelled.{spelled}
use Rattle.pearl_print.specs.Reading.{IsReadBack}

abbrev IsChar : ℕ → Type 0
IsChar b = (32 ≤ b) × (b ≤ 126)

char_is : (b : ℕ) → IsChar b → is_char b ≡ true
char_is b h = grind (arith, common_steps, nat_tests)

pub len_plain : (c : ℕ) (xs : List ℕ) → (c == 39) ≡ false → is_char c ≡ true → 0 < length xs → chars_len (c ∷ xs) ≡ 1 + chars_len xs
len_plain c [] plain char some = absurd (omega arith)
len_plain c (b ∷ xs) plain char some = rw (plain, char)

chars_plain : (c : ℕ) (xs : List ℕ) → (c == 39) ≡ false → chars_of (c ∷ xs) ≡ c ∷ chars_of xs
chars_plain c [] plain = refl
chars_plain c (b ∷ xs) plain = rw plain

pub some_left : (xs rest : List ℕ) (b : ℕ) → 0 < length (xs ++ b ∷ rest)
some_left xs rest b = omega (arith, length-append xs (b ∷ rest))

-- the closing apostrophe ends the characters
len_doubled : (text rest : List ℕ) → All IsChar text → chars_len (doubled text ++ 39 ∷ 32 ∷ rest) ≡ length (doubled text)
len_doubled [] rest each = refl
len_doubled (c ∷ text) rest each = by_test (c == 39) refl (len_doubled text rest (All-tail IsChar c text each)) where
  by_test : (test : Bool) → (c == 39) ≡ test → chars_len (doubled text ++ 39 ∷ 32 ∷ rest) ≡ length (doubled text) →
      chars_len (((if test then c ∷ c ∷ [] else c ∷ []) ++ doubled text) ++ 39 ∷ 32 ∷ rest) ≡ length ((if test then c ∷ c ∷ [] else c ∷ []) ++ doubled text)
  by_test true e others = rw (e, others) (omega arith)
  by_test false e others =
      len_plain c (doubled text ++ 39 ∷ 32 ∷ rest) e (char_is c (All-head IsChar c text each)) (some_left (doubled text) (32 ∷ rest) 39) ∙ omega (arith, others)

chars_doubled : (text : List ℕ) → chars_of (doubled text) ≡ text
chars_doubled [] = refl
chars_doubled (c ∷ text) = by_test (c == 39) refl (chars_doubled text) where
  by_test : (test : Bool) → (c == 39) ≡ test → chars_of (doubled text) ≡ text → chars_of ((if test then c ∷ c ∷ [] else c ∷ []) ++ doubled text) ≡ c ∷ text
  by_test true e others = rw (e, others)
  by_test false e others = chars_plain c (doubled text) e ∙ ap (λ t. c ∷ t) others

pub taken_front : (bytes rest : List ℕ) → take (length bytes) (bytes ++ rest) ≡ bytes
taken_front [] rest = refl
taken_front (b ∷ bytes) rest = ap (λ t. b ∷ t) (taken_front bytes rest)

pub index_front : (before rest : List ℕ) (b : ℕ) → slice_index (before ++ b ∷ rest) (length before) ≡ b
index_front [] rest b = refl
index_front (c ∷ before) rest b = index_front before rest b

drop_suc : (before rest : List ℕ) (b : ℕ) → drop (suc (length before)) (before ++ b ∷ rest) ≡ rest
drop_suc [] rest b = refl
drop_suc (c ∷ before) rest b = drop_suc before rest b

pub drop_more : (before rest : List ℕ) (b : ℕ) → drop (length before + 1) (before ++ b ∷ rest) ≡ rest
drop_more before rest b =
    let next : length before + 1 ≡ suc (length before) = omega arith in
    ap (λ n. drop n (before ++ b ∷ rest)) next ∙ drop_suc before rest b

fits : (text : List ℕ) → 1 ≤ length text → length text ≤ 255 → quoted_text text ≡ Some (what.Text (record { items = text }))
fits text low high = grind (arith, nat_tests)

quoted_front : (bytes text rest : List ℕ) (n : ℕ) → chars_len bytes ≡ n → slice_index bytes n ≡ 39 → drop (n + 1) bytes ≡ 32 ∷ rest → chars_of (take n bytes) ≡ text →
    quoted bytes ≡ sized (quoted_text text) (n + 2)
quoted_front bytes text rest n len close after chars = rw (len, close, after, chars)

-- a text is read back
pub text_reads_back : (text : List ℕ) → IsText text → IsReadBack (what.Text (record { items = text }))
unfolding spelled front
text_reads_back text is =
    let inner = doubled text in
    let spelling : (rest : List ℕ) → ((39 ∷ inner) ++ 39 ∷ []) ++ 32 ∷ rest ≡ 39 ∷ (inner ++ 39 ∷ 32 ∷ rest) = λ rest. append_assoc (39 ∷ inner) (39 ∷ []) (32 ∷ rest) in
    let size : length ((39 ∷ inner) ++ 39 ∷ []) ≡ length inner + 2 = omega (arith, length-append (39 ∷ inner) (39 ∷ [])) in
    record {
      begins = λ rest. ap front (append_assoc ((39 ∷ inner) ++ 39 ∷ []) (32 ∷ []) rest ∙ spelling rest) ∙
          quoted_front (inner ++ 39 ∷ 32 ∷ rest) text rest (length inner) (len_doubled text rest is.2) (index_front inner (32 ∷ rest) 39) (drop_more inner (32 ∷ rest) 39)
          (ap chars_of (taken_front inner (39 ∷ 32 ∷ rest)) ∙ chars_doubled text) ∙
          ap (λ what. sized what (length inner + 2)) (fits text is.0 is.1) ∙
          ap (λ n. Some (record { what = what.Text (record { items = text }); size = n })) (sym size);
      no_space = λ rest. refl;
    }
