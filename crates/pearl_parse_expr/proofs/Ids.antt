-- The ids that stand where one is missing: one letter is no word.
use Rattle.std.proofs.Common.{◌≡◌, ◌≢◌, ℕ, zero, suc, Bool, true, false, true≢false, if◌then◌else◌, List, [], ◌∷◌, All}
use Rattle.std.proofs.Common.{inl, inr, refl, sym, ap, ◌∙◌, arith}
use Rattle.pearl_tree.specs.Words.{words, meanings}
use Rattle.pearl_tree.specs.Tokens.{IsLetter, IsIdByte, IsLawfulWhat}
use Rattle.pearl_tree.specs.declared.name.Name.{Name}
use Rattle.pearl_tree.specs.declared.token.What.TheVariants as what
use Rattle.pearl_tree.specs.declared.token.Token.{Token}
use Rattle.pearl_parse_expr.proofs.Reaching.{Lawful, none_lawful, one_lawful}

-- the id that this letter is
abbrev pub letter_token : ℕ → Token
letter_token letter = record { place = 0; what = what.Id (record { items = letter ∷ [] }) }

-- x
abbrev pub x_name : Name
x_name = record { text = record { items = 120 ∷ [] }; place = 0 }

abbrev pub x_token : Token
x_token = letter_token 120

-- each word has two letters or more
abbrev two : List ℕ → Bool
two [] = false
two (_ ∷ []) = false
two (_ ∷ (_ ∷ _)) = true

abbrev all_long : List (List ℕ × ℕ) → Bool
all_long [] = true
all_long (row ∷ rows) = if two row.0 then all_long rows else false

both : (b c : Bool) → (if b then c else false) ≡ true → (b ≡ true) × (c ≡ true)
both true c h = (refl, h)
both false c h = absurd (true≢false (sym h))

unlike : (letter : ℕ) (rows : List (List ℕ × ℕ)) → all_long rows ≡ true → All (λ row. row.0 ≢ letter ∷ []) rows
unlike letter [] h k d below = absurd (omega arith)
unlike letter (row ∷ rows) h zero d below =
    λ same. true≢false (sym (both (two row.0) (all_long rows) h).0 ∙ ap two same)
unlike letter (row ∷ rows) h (suc k) d below = unlike letter rows (both (two row.0) (all_long rows) h).1 k d
    (omega arith)

words_are_long : all_long words ≡ true
unfolding words meanings
words_are_long = refl

letter_bytes : (letter : ℕ) → IsLetter letter → All IsIdByte (letter ∷ [])
letter_bytes letter is zero d below = inl is
letter_bytes letter is (suc k) d below = absurd (omega arith)

pub letter_lawful : (letter : ℕ) → IsLetter letter → IsLawfulWhat (letter_token letter).what
letter_lawful letter is = record {
  begins = is;
  bytes = letter_bytes letter is;
  length = omega arith;
  no_word = unlike letter words words_are_long;
}

pub x_lawful : Lawful (x_token ∷ [])
x_lawful = one_lawful x_token [] (letter_lawful 120 (inr (omega arith, omega arith))) none_lawful
