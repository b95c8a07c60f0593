-- The name of an identifier is an id as tables have it.
use Rattle.std.specs.Prelude.{◌≡◌, ℕ, ◌&&◌, nat_le, Bool, true, false, IsTrue, List, [], ◌∷◌, length, All}
use Rattle.std.specs.Char.{is_ascii_alphabetic}
use Rattle.std.specs.List.{list_all}
use Rattle.std.proofs.Common.{refl, ap, ◌∙◌, arith, inl, inr}
use Rattle.std.proofs.lemmas.Bool.{le-leb}
use Rattle.std.proofs.lemmas.Bool.Decides.{nat_tests}
use Rattle.std.proofs.lemmas.List.Elements.{All-head, All-tail}
use Rattle.pearl_value.specs.Names.{is_name_byte, is_id}
use Rattle.pearl_tree.specs.Tokens.{IsLetter, IsIdByte, IsId}

letter : (b : ℕ) → IsLetter b → is_ascii_alphabetic b ≡ true
letter b (inl low) = let a = low.0 in let c = low.1 in grind (arith, nat_tests)
letter b (inr high) = let a = high.0 in let c = high.1 in grind (arith, nat_tests)

name_byte : (b : ℕ) → IsIdByte b → is_name_byte b ≡ true
name_byte b (inl is) = let a = letter b is in grind (arith, nat_tests)
name_byte b (inr (inl is)) = let a = is.0 in let c = is.1 in grind (arith, nat_tests)
name_byte b (inr (inr is)) = grind (arith, nat_tests)

name_bytes : (text : List ℕ) → All IsIdByte text → list_all is_name_byte text ≡ true
name_bytes [] all = refl
name_bytes (b ∷ rest) all =
    ap (λ test. test && list_all is_name_byte rest) (name_byte b (All-head IsIdByte b rest all)) ∙ name_bytes rest (All-tail IsIdByte b rest all)

all_three : (a b c : Bool) → a ≡ true → b ≡ true → c ≡ true → (a && b && c) ≡ true
all_three true true true one two three = refl
all_three false b c one two three = one
all_three true false c one two three = two
all_three true true false one two three = three

pub ids_are_names : (text : List ℕ) → IsId text → IsTrue (is_id text)
ids_are_names [] id = absurd id.begins
ids_are_names (b ∷ rest) id =
    all_three (is_ascii_alphabetic b) (list_all is_name_byte (b ∷ rest)) (nat_le (length (b ∷ rest)) 63) (letter b id.begins) (name_bytes (b ∷ rest) id.bytes)
    (le-leb (length (b ∷ rest)) 63 id.length)
