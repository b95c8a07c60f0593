-- A table of words that passes a test has exactly the words of the language.
use Rattle.std.proofs.Common.{◌≡◌, ◌↔◌, ℕ, zero, suc, Bool, true, ◌&&◌, List, [], ◌∷◌, refl, subst, Decides, eqb, arith}
use Rattle.std.specs.List.{Any, Contains, list_all, list_any}
use Rattle.std.specs.Str.{bytes_eq}
use Rattle.std.proofs.Common.{get_or}
use Rattle.std.proofs.lemmas.Bool.{eqb-true}
use Rattle.std.proofs.lemmas.Bool.Decides.{Decides-by_and, Decides-by_or}
use Rattle.std.proofs.lemmas.Slice.Eq.{bytes_eq-Decides}
use Rattle.std.proofs.lemmas.List.Folds.{Any-from_list_any}
use Rattle.std.proofs.lemmas.List.Elements.{All-contains, Decides-contains}
use Rattle.pearl_tree.specs.declared.word.WordRow.{WordRow}
use Rattle.pearl_tree.specs.Words.{meanings, IsWord, AreTheWords}
use Rattle.pearl_tree.proofs.Rising.{and_front, and_back}

abbrev is_word : List ℕ → ℕ → Bool
is_word text code = list_any (λ word. bytes_eq word text) (get_or meanings code [])

is_word-Decides : (text : List ℕ) (code : ℕ) → Decides (is_word text code) (IsWord text code)
is_word-Decides text code =
    let group = get_or meanings code [] in
    Decides-contains group text _ (Decides-by_or (λ word. bytes_eq word text) (λ word. word ≡ text) (list_any (λ word. bytes_eq word text)) (λ word. bytes_eq-Decides word text) refl (λ _ _. refl) group)

abbrev has_row : List WordRow → ℕ → List ℕ → Bool
has_row rows code text = list_any (λ row. bytes_eq row.text.now text && eqb row.code code) rows

-- every word of these groups passes the test for the number of its group
abbrev each_word : (ℕ → List ℕ → Bool) → List (List (List ℕ)) → Bool
each_word test [] = true
each_word test (group ∷ groups) = list_all (test 0) group && each_word (λ code. test (suc code)) groups

pub list_all-Contains : {X : Type 0} (p : X → Bool) (xs : List X) (x : X) → list_all p xs ≡ true → Contains xs x → p x ≡ true
list_all-Contains p xs x h = All-contains (λ y. p y ≡ true) xs x ((Decides-by_and p (λ y. p y ≡ true) (list_all p) (λ y. (λ e. e, λ e. e)) refl (λ _ _. refl) xs).0 h)

each_word-at : (test : ℕ → List ℕ → Bool) (groups : List (List (List ℕ))) → each_word test groups ≡ true → (code : ℕ) (text : List ℕ) → Contains (get_or groups code []) text → test code text ≡ true
each_word-at test [] h code text in_group = absurd (omega (arith, in_group.1))
each_word-at test (group ∷ groups) h zero text in_group =
    list_all-Contains (test 0) group text (and_front (list_all (test 0) group) (each_word (λ code. test (suc code)) groups) h) in_group
each_word-at test (group ∷ groups) h (suc code) text in_group =
    each_word-at (λ n. test (suc n)) groups (and_back (list_all (test 0) group) (each_word (λ n. test (suc n)) groups) h) code text in_group

-- the test: each row is a word, and each word has its row
abbrev pub is_exact : List WordRow → Bool
is_exact rows = list_all (λ row. is_word row.text.now row.code) rows && each_word (has_row rows) meanings

exactly_the_words : (rows : List WordRow) → is_exact rows ≡ true → (text : List ℕ) (code : ℕ) → Any (λ row. (row.text.now ≡ text) × (row.code ≡ code)) rows ↔ IsWord text code
exactly_the_words rows h text code =
    let rows_pass = and_front (list_all (λ row. is_word row.text.now row.code) rows) (each_word (has_row rows) meanings) h in
    let words_pass = and_back (list_all (λ row. is_word row.text.now row.code) rows) (each_word (has_row rows) meanings) h in (
      λ (k, row, in_rows, at, same).
          let is = (is_word-Decides row.text.now row.code).0 (list_all-Contains (λ r. is_word r.text.now r.code) rows row rows_pass (k, in_rows, at)) in
          let P : List ℕ → Type 0 = λ t. IsWord t code in
          let Q : ℕ → Type 0 = λ n. IsWord row.text.now n in
          subst P same.0 (subst Q same.1 is),
      λ in_group.
          let test = λ (row : WordRow). bytes_eq row.text.now text && eqb row.code code in
          let found = Any-from_list_any test rows (each_word-at (has_row rows) meanings words_pass code text in_group) in
          let row = found.1 in (
            found.0,
            row,
            found.2,
            found.3,
            (
              (bytes_eq-Decides row.text.now text).0 (and_front (bytes_eq row.text.now text) (eqb row.code code) found.4),
              eqb-true row.code code (and_back (bytes_eq row.text.now text) (eqb row.code code) found.4),
            ),
          ),
    )

pub exact_are_the_words : (rows : List WordRow) → is_exact rows ≡ true → AreTheWords rows
exact_are_the_words rows h = record { exactly = exactly_the_words rows h }
