-- A letter alone is an identifier, since no word is as short.
use Rattle.std.specs.Prelude.{◌≡◌, ℕ, nat_lt, true, List, [], ◌∷◌, length, slice_index_or}
use Rattle.std.specs.List.{list_all}
use Rattle.std.proofs.Common.{refl, ap, inl, ltb-true, arith}
use Rattle.std.proofs.lemmas.List.Elements.{All-nil, All-cons}
use Rattle.std.proofs.lemmas.List.Sums.{AllPass-from_list_all}
use Rattle.pearl_tree.specs.Words.{meanings, words}
use Rattle.pearl_tree.specs.Tokens.{IsLetter, IsIdByte, IsId}

all_long : list_all (λ (row : List ℕ × ℕ). nat_lt 1 (length row.0)) words ≡ true
unfolding words meanings
all_long = refl

pub letter_is_id : (b : ℕ) → IsLetter b → IsId (b ∷ [])
letter_is_id b is = record {
  begins = is;
  bytes = All-cons IsIdByte b [] (inl is) (All-nil IsIdByte);
  length = omega arith;
  no_word = λ k row within same.
      let long = ltb-true 1 (length (slice_index_or words k row).0) (AllPass-from_list_all (λ (row : List ℕ × ℕ). nat_lt 1 (length row.0)) words all_long k row within) in
      let one = ap length same in
      omega (arith, long, one);
}
