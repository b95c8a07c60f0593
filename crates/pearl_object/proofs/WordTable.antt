-- What the table of words hasn't is none of the language's words.
use Rattle.std.proofs.Common.{◌≡◌, ◌↔◌, ℕ, zero, suc, Bool, true, false, List, [], ◌∷◌, Option, Some, None, IfSome, All, Decides, refl, sym, ◌∙◌, subst}
use Rattle.std.specs.Prelude.{◌≢◌, not, is_some, slice_index_or}
use Rattle.std.specs.List.{Any, list_all, list_any}
use Rattle.std.specs.Str.{bytes_eq}
use Rattle.std.proofs.lemmas.Bool.Decides.{Decides-by_or}
use Rattle.std.proofs.lemmas.Slice.Eq.{bytes_eq-Decides}
use Rattle.std.proofs.lemmas.List.Elements.{All-contains, Decides-contains}
use Rattle.std.proofs.lemmas.List.Sums.{AllPass-from_list_all}
use Rattle.pearl_tree.specs.declared.word.WordRow.{WordRow}
use Rattle.pearl_tree.specs.Words.{meanings, words, IsWord, AreTheWords}
use Rattle.pearl_object.specs.Objects.{is_no_word}
use Rattle.pearl_object.proofs.Ranges.{both_true}
use Rattle.pearl_object.proofs.Identifiers.{word_decides}

abbrev is_word : List ℕ → ℕ → Bool
is_word text code = list_any (λ word. bytes_eq word text) (slice_index_or meanings code [])

is_word_decides : (text : List ℕ) (code : ℕ) → Decides (is_word text code) (IsWord text code)
is_word_decides text code =
    let group = slice_index_or meanings code [] in
    Decides-contains group text _ (Decides-by_or (λ word. bytes_eq word text) (λ word. word ≡ text) (list_any (λ word. bytes_eq word text)) (λ word. bytes_eq-Decides word text) refl (λ _ _. refl) group)

rows_are_words : list_all (λ (row : List ℕ × ℕ). is_word row.0 row.1) words ≡ true
unfolding words meanings
rows_are_words = refl

abbrev have_rows : List (List ℕ) → Bool
have_rows group = list_all (λ word. not (is_no_word word)) group

words_have_rows : list_all have_rows meanings ≡ true
unfolding words meanings is_no_word
words_have_rows = refl

group_at : (groups : List (List (List ℕ))) (code : ℕ) → list_all have_rows groups ≡ true → have_rows (slice_index_or groups code []) ≡ true
group_at [] code all = refl
group_at (group ∷ groups) zero all = (both_true (have_rows group) (list_all have_rows groups) all).0
group_at (group ∷ groups) (suc code) all = group_at groups code (both_true (have_rows group) (list_all have_rows groups) all).1

word_has_row : (text : List ℕ) (code : ℕ) → IsWord text code → not (is_no_word text) ≡ true
word_has_row text code is =
    let group = slice_index_or meanings code [] in
    All-contains (λ word. not (is_no_word word) ≡ true) group text
    (AllPass-from_list_all (λ word. not (is_no_word word)) group (group_at meanings code words_have_rows)) is

none_are : (rows : List WordRow) (text : List ℕ) → AreTheWords rows → All (λ (row : WordRow). ¬ (row.text.now ≡ text)) rows →
    All (λ (row : List ℕ × ℕ). row.0 ≢ text) words
none_are rows text are none k row within same =
    let here = slice_index_or words k row in
    let is = (is_word_decides here.0 here.1).0 (AllPass-from_list_all (λ (row : List ℕ × ℕ). is_word row.0 row.1) words rows_are_words k row within) in
    let any = (are.exactly text here.1).1 (subst (λ text. IsWord text here.1) same is) in
    All-contains (λ (row : WordRow). ¬ (row.text.now ≡ text)) rows any.1 none (any.0, any.2, any.3) any.4.0

not_so : (b : Bool) → not b ≡ true → false ≡ b
not_so false e = refl
not_so true e = absurd (let no = e in cc no)

turned : (a b : Bool) → a ≡ not b → b ≡ not a
turned true true e = absurd (let no = e in cc no)
turned true false e = refl
turned false true e = refl
turned false false e = absurd (let no = e in cc no)

pub no_word_found : (rows : List WordRow) (text : List ℕ) (found : Option ℕ) (none : Bool) → AreTheWords rows →
    IfSome found (λ code. Any (λ (row : WordRow). (row.text.now ≡ text) × (row.code ≡ code)) rows) →
    ((found ≡ None) ↔ All (λ (row : WordRow). ¬ (row.text.now ≡ text)) rows) → is_some found ≡ not none → none ≡ is_no_word text
no_word_found rows text (Some code) none are some nowhere e =
    turned true none e ∙ not_so (is_no_word text) (word_has_row text code ((are.exactly text code).0 some))
no_word_found rows text None none are some nowhere e = turned false none e ∙ sym ((word_decides text).1 (none_are rows text are (nowhere.0 refl)))
