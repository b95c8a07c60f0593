-- Tokens that are one of some words.
use Rattle.std.proofs.Common.{◌≡◌, ℕ, ◌==◌, ◌||◌, Bool, true, false, List, [], ◌∷◌, Option, Some, None, refl, sym}
use Rattle.std.proofs.Common.{subst, true≢false}
use Rattle.std.proofs.lemmas.Bool.{eqb-true}
use Rattle.pearl_tree.specs.declared.token.What.{What}
use Rattle.pearl_tree.specs.declared.token.What.TheVariants as what
use Rattle.pearl_parse_expr.specs.Stops.{is_word}
use Rattle.pearl_parse_expr.proofs.Offered.{or_first}
use Rattle.pearl_parse.specs.Stops.{is_among}
use Rattle.pearl_parse.specs.Bodies.{is_one}

-- what holds of each of some words
abbrev pub OfEach : (ℕ → Type 0) → List ℕ → Type 0
OfEach holds [] = Unit {0}
OfEach holds (word ∷ words) = holds word × OfEach holds words

among_holds : (holds : ℕ → Type 0) (words : List ℕ) (code : ℕ) → OfEach holds words → is_among words code ≡ true →
    holds code
among_holds holds [] code all h = absurd (true≢false (sym h))
among_holds holds (word ∷ words) code all h = by (code == word) refl h (λ e. among_holds holds words code all.1 e)
  where
    by : (same : Bool) → (code == word) ≡ same → (same || is_among words code) ≡ true →
        (is_among words code ≡ true → holds code) → holds code
    by true is e rest = subst holds (sym (eqb-true code word is)) all.0
    by false is e rest = rest e

-- what holds of each of some words as tokens
pub one_holds : (holds : Option What → Type 0) (words : List ℕ) (token : Option What) →
    OfEach (λ word. holds (Some (what.Word word))) words → is_one words token ≡ true → holds token
one_holds holds words (Some (what.Word code)) all h = among_holds (λ word. holds (Some (what.Word word))) words code all
    h
one_holds holds words (Some (what.Id text)) all h = absurd (true≢false (sym h))
one_holds holds words (Some (what.Number value)) all h = absurd (true≢false (sym h))
one_holds holds words (Some (what.Decimal whole thousandths)) all h = absurd (true≢false (sym h))
one_holds holds words (Some (what.Clock milliseconds)) all h = absurd (true≢false (sym h))
one_holds holds words (Some (what.Bits len value)) all h = absurd (true≢false (sym h))
one_holds holds words (Some (what.Text text)) all h = absurd (true≢false (sym h))
one_holds holds words (Some (what.Symbol symbol)) all h = absurd (true≢false (sym h))
one_holds holds words None all h = absurd (true≢false (sym h))

-- a word is one word only
pub word_holds : (holds : Option What → Type 0) (word : ℕ) (token : Option What) → holds (Some (what.Word word)) →
    is_word word token ≡ true → holds token
word_holds holds word token this h = one_holds holds (word ∷ []) token (this, tt) (by token h)
  where
    by : (token : Option What) → is_word word token ≡ true → is_one (word ∷ []) token ≡ true
    by (Some (what.Word code)) h = or_first (code == word) false h
    by (Some (what.Id text)) h = absurd (true≢false (sym h))
    by (Some (what.Number value)) h = absurd (true≢false (sym h))
    by (Some (what.Decimal whole thousandths)) h = absurd (true≢false (sym h))
    by (Some (what.Clock milliseconds)) h = absurd (true≢false (sym h))
    by (Some (what.Bits len value)) h = absurd (true≢false (sym h))
    by (Some (what.Text text)) h = absurd (true≢false (sym h))
    by (Some (what.Symbol symbol)) h = absurd (true≢false (sym h))
    by None h = absurd (true≢false (sym h))
