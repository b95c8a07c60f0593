-- The table of words gives each word the code by which the grammar names it.
use Rattle.std.proofs.Common.{◌≡◌, ◌↔◌, ℕ, zero, suc, Bool, true, false, ◌&&◌, List, [], ◌∷◌, Option, Some, None, IfSome, All, refl, sym, subst, ap, ◌∙◌, Decides, eqb, get_or, arith, if◌then◌else◌}
use Rattle.std.specs.List.{Any, Contains, list_all, list_any}
use Rattle.std.specs.Str.{bytes_eq}
use Rattle.std.proofs.lemmas.Bool.{eqb-true}
use Rattle.std.proofs.lemmas.Bool.Decides.{Decides-by_and, Decides-by_or}
use Rattle.std.proofs.lemmas.Slice.Eq.{bytes_eq-Decides}
use Rattle.std.proofs.lemmas.List.Elements.{All-contains, Decides-contains}
use Rattle.pearl_tree.specs.declared.word.WordRow.{WordRow}
use Rattle.pearl_tree.specs.Words.{meanings, IsWord, AreTheWords}
use Rattle.pearl_tree.specs.Words.{words}
use Rattle.pearl_lex.specs.Spelling.{meaning}
use Rattle.pearl_lex.proofs.Passes.{and_front, and_back}

abbrev is_word : List ℕ → ℕ → Bool
is_word text code = list_any (λ word. bytes_eq word text) (get_or meanings code [])

is_word-Decides : (text : List ℕ) (code : ℕ) → Decides (is_word text code) (IsWord text code)
is_word-Decides text code =
    let group = get_or meanings code [] in
    Decides-contains group text _ (Decides-by_or (λ word. bytes_eq word text) (λ word. word ≡ text) (list_any (λ word. bytes_eq word text)) (λ word. bytes_eq-Decides word text) refl (λ _ _. refl) group)

abbrev is_code : Option ℕ → ℕ → Bool
is_code None code = false
is_code (Some found) code = eqb found code

code_is : (found : Option ℕ) (code : ℕ) → is_code found code ≡ true → found ≡ Some code
code_is None code e = absurd (let f = e in cc f)
code_is (Some found) code e = ap Some (eqb-true found code e)

-- every word of these groups passes the test for the number of its group
abbrev pub each_word : (ℕ → List ℕ → Bool) → List (List (List ℕ)) → Bool
each_word test [] = true
each_word test (group ∷ groups) = list_all (test 0) group && each_word (λ code. test (suc code)) groups

list_all-Contains : {X : Type 0} (p : X → Bool) (xs : List X) (x : X) → list_all p xs ≡ true → Contains xs x → p x ≡ true
list_all-Contains p xs x h = All-contains (λ y. p y ≡ true) xs x ((Decides-by_and p (λ y. p y ≡ true) (list_all p) (λ y. (λ e. e, λ e. e)) refl (λ _ _. refl) xs).0 h)

pub each_word-at : (test : ℕ → List ℕ → Bool) (groups : List (List (List ℕ))) → each_word test groups ≡ true → (code : ℕ) (text : List ℕ) → Contains (get_or groups code []) text → test code text ≡ true
each_word-at test [] h code text in_group = absurd (omega (arith, in_group.1))
each_word-at test (group ∷ groups) h zero text in_group =
    list_all-Contains (test 0) group text (and_front (list_all (test 0) group) (each_word (λ code. test (suc code)) groups) h) in_group
each_word-at test (group ∷ groups) h (suc code) text in_group =
    each_word-at (λ n. test (suc n)) groups (and_back (list_all (test 0) group) (each_word (λ n. test (suc n)) groups) h) code text in_group

words_have_codes : each_word (λ code text. is_code (meaning words text) code) meanings ≡ true
unfolding words meanings
words_have_codes = refl

codes_have_words : list_all (λ row. is_word row.0 row.1) words ≡ true
unfolding words meanings
codes_have_words = refl

pub word_has_code : (text : List ℕ) (code : ℕ) → IsWord text code → meaning words text ≡ Some code
word_has_code text code is = code_is (meaning words text) code (each_word-at (λ code text. is_code (meaning words text) code) meanings words_have_codes code text is)

from_row : (row : List ℕ × ℕ) (table : List (List ℕ × ℕ)) (text : List ℕ) (code : ℕ) (same : Bool) → bytes_eq row.0 text ≡ same → is_word row.0 row.1 ≡ true
    → meaning (row ∷ table) text ≡ Some code → (meaning table text ≡ Some code → is_word text code ≡ true) → is_word text code ≡ true
from_row row table text code true e first has go =
    let here : Some row.1 ≡ Some code = sym (ap (λ b. if b then Some row.1 else meaning table text) e) ∙ has in
    let number : row.1 ≡ code = cc here in
    let word : row.0 ≡ text = (bytes_eq-Decides row.0 text).0 e in
    subst (λ n. is_word text n ≡ true) number (subst (λ t. is_word t row.1 ≡ true) word first)
from_row row table text code false e first has go = go (sym (ap (λ b. if b then Some row.1 else meaning table text) e) ∙ has)

from_table : (table : List (List ℕ × ℕ)) (text : List ℕ) (code : ℕ) → list_all (λ row. is_word row.0 row.1) table ≡ true → meaning table text ≡ Some code → is_word text code ≡ true
from_table [] text code all has = absurd (let f = has in cc f)
from_table (row ∷ table) text code all has =
    from_row row table text code (bytes_eq row.0 text) refl (and_front (is_word row.0 row.1) (list_all (λ row. is_word row.0 row.1) table) all) has
    (from_table table text code (and_back (is_word row.0 row.1) (list_all (λ row. is_word row.0 row.1) table) all))

pub code_has_word : (text : List ℕ) (code : ℕ) → meaning words text ≡ Some code → IsWord text code
code_has_word text code has = (is_word-Decides text code).0 (from_table words text code codes_have_words has)

pub word_meaning : (rows : List WordRow) (text : List ℕ) (result : Option ℕ) → AreTheWords rows
    → IfSome result (λ code. Any (λ (row : WordRow). (row.text.now ≡ text) × (row.code ≡ code)) rows)
    → ((result ≡ None) ↔ All (λ (row : WordRow). ¬ (row.text.now ≡ text)) rows) → result ≡ meaning words text
word_meaning rows text (Some code) are found none = sym (word_has_code text code ((are.exactly text code).0 found))
word_meaning rows text None are found none = by (meaning words text) refl
  where
    by : (m : Option ℕ) → meaning words text ≡ m → None ≡ m
    by None e = refl
    by (Some code) e =
        let any = (are.exactly text code).1 (code_has_word text code e) in
        absurd (All-contains (λ (row : WordRow). ¬ (row.text.now ≡ text)) rows any.1 (none.0 refl) (any.0, any.2, any.3) any.4.0)
