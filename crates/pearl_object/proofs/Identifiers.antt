-- What passes the tests of a task's name is an identifier, and the other way round.
use Rattle.std.proofs.Common.{◌≡◌, ℕ, Bool, true, false, List, [], ◌∷◌, All, Decides, refl, inl, inr}
use Rattle.std.specs.Prelude.{◌⊎◌, ◌≢◌, ◌&&◌, ◌||◌, ◌==◌, not, nat_le, length}
use Rattle.std.specs.List.{list_all}
use Rattle.std.specs.Char.{is_ascii_alphabetic, is_ascii_digit}
use Rattle.std.specs.Str.{bytes_eq}
use Rattle.std.proofs.lemmas.Bool.{leb-true, eqb-true}
use Rattle.std.proofs.lemmas.Bool.Decides.{Decides-not, Decides-by_and}
use Rattle.std.proofs.lemmas.Slice.Eq.{bytes_eq-Decides}
use Rattle.std.proofs.lemmas.List.Elements.{All-weaker}
use Rattle.std.proofs.lemmas.List.Sums.{AllPass-from_list_all}
use Rattle.pearl_value.specs.Names.{is_name_byte, is_id}
use Rattle.pearl_tree.specs.Words.{words}
use Rattle.pearl_tree.specs.Tokens.{IsLetter, IsIdByte, IsId}
use Rattle.pearl_fields.specs.Codec.{within}
use Rattle.pearl_object.specs.Objects.{is_no_word}
use Rattle.pearl_object.proofs.Ranges.{both_true, within_is}

either : (a b : Bool) → (a || b) ≡ true → (a ≡ true) ⊎ (b ≡ true)
either true b h = inl refl
either false b h = inr h

letter_is : (b : ℕ) → is_ascii_alphabetic b ≡ true → IsLetter b
letter_is b h = by (either (within 65 90 b) (within 97 122 b) h)
  where
    by : (within 65 90 b ≡ true) ⊎ (within 97 122 b ≡ true) → IsLetter b
    by (inl upper) = inl (within_is 65 90 b upper)
    by (inr lower) = inr (within_is 97 122 b lower)

byte_is : (b : ℕ) → is_name_byte b ≡ true → IsIdByte b
byte_is b h = by (either (is_ascii_alphabetic b || is_ascii_digit b) (b == 95) h)
  where
    known : (is_ascii_alphabetic b ≡ true) ⊎ (is_ascii_digit b ≡ true) → IsIdByte b
    known (inl letter) = inl (letter_is b letter)
    known (inr digit) = inr (inl (within_is 48 57 b digit))

    by : ((is_ascii_alphabetic b || is_ascii_digit b) ≡ true) ⊎ ((b == 95) ≡ true) → IsIdByte b
    by (inl other) = known (either (is_ascii_alphabetic b) (is_ascii_digit b) other)
    by (inr underline) = inr (inr (eqb-true b 95 underline))

pub word_decides : (text : List ℕ) → Decides (is_no_word text) (All (λ row. row.0 ≢ text) words)
unfolding is_no_word
word_decides text =
    Decides-by_and (λ (row : List ℕ × ℕ). not (bytes_eq row.0 text)) (λ row. row.0 ≢ text) (list_all (λ (row : List ℕ × ℕ). not (bytes_eq row.0 text)))
    (λ row. Decides-not (bytes_eq row.0 text) (bytes_eq-Decides row.0 text)) refl (λ _ _. refl) words

pub id_is : (text : List ℕ) → is_id text ≡ true → is_no_word text ≡ true → IsId text
id_is [] named other =
    absurd (let long = both_true (is_ascii_alphabetic 0 && true) (nat_le 0 63) named in let none : is_ascii_alphabetic 0 ≡ true = (both_true (is_ascii_alphabetic 0) true long.0).0 in cc)
id_is (b ∷ rest) named other =
    let long = both_true (is_ascii_alphabetic b && list_all is_name_byte (b ∷ rest)) (nat_le (length (b ∷ rest)) 63) named in
    let letters = both_true (is_ascii_alphabetic b) (list_all is_name_byte (b ∷ rest)) long.0 in
    record {
      begins = letter_is b letters.0;
      bytes = All-weaker (λ x. is_name_byte x ≡ true) IsIdByte byte_is (b ∷ rest) (AllPass-from_list_all is_name_byte (b ∷ rest) letters.1);
      length = leb-true (length (b ∷ rest)) 63 long.1;
      no_word = (word_decides (b ∷ rest)).0 other;
    }

pub no_word_is : (text : List ℕ) → IsId text → is_no_word text ≡ true
no_word_is text id = (word_decides text).1 id.no_word
