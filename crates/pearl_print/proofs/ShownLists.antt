-- The tokens of lists whose parts have the tokens of what they show.
use Rattle.std.proofs.Common.{◌≡◌, ℕ, List, [], ◌∷◌, ◌++◌, Option, Some, None, map, option_map, refl}
use Rattle.std.specs.List.{flat_map}
use Rattle.pearl_tree.specs.declared.token.What.{What}
use Rattle.pearl_tree.specs.declared.symbol.TheConstants as s
use Rattle.pearl_print.specs.Lists.{word, symbol, after_commas, listed, bracketed, maybe_bracketed, maybe_headed, maybe}

module _ {X S : Type 0} (show : X → S) (said : S → List What) (tokens : X → List What) (same : (x : X) → said (show x) ≡ tokens x) where
  pub each_same : (xs : List X) → flat_map said (map show xs) ≡ flat_map tokens xs
  each_same [] = refl
  each_same (x ∷ xs) = λ i. same x i ++ each_same xs i

  after_commas_same : (xs : List X) → after_commas said (map show xs) ≡ after_commas tokens xs
  after_commas_same [] = refl
  after_commas_same (x ∷ xs) = λ i. (symbol s.COMMA ++ same x i) ++ after_commas_same xs i

  pub listed_same : (xs : List X) → listed said (map show xs) ≡ listed tokens xs
  listed_same [] = refl
  listed_same (x ∷ xs) = λ i. same x i ++ after_commas_same xs i

  pub bracketed_same : (xs : List X) → bracketed said (map show xs) ≡ bracketed tokens xs
  bracketed_same xs = λ i. symbol s.LEFT_ROUND ++ listed_same xs i ++ symbol s.RIGHT_ROUND

  pub maybe_bracketed_same : (xs : List X) → maybe_bracketed said (map show xs) ≡ maybe_bracketed tokens xs
  maybe_bracketed_same [] = refl
  maybe_bracketed_same (x ∷ xs) = bracketed_same (x ∷ xs)

  pub maybe_headed_same : (code : ℕ) (xs : List X) → maybe_headed code said (map show xs) ≡ maybe_headed code tokens xs
  maybe_headed_same code [] = refl
  maybe_headed_same code (x ∷ xs) = λ i. word code ++ bracketed_same (x ∷ xs) i

  pub maybe_same : (part : Option X) → maybe said (option_map show part) ≡ maybe tokens part
  maybe_same None = refl
  maybe_same (Some x) = same x
