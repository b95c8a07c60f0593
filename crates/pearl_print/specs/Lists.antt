-- The tokens that the rules of the grammar share: words and symbols, a list with commas, and a part that may be missing.
use Rattle.std.specs.Prelude.{ℕ, Bool, true, false, List, [], ◌∷◌, ◌++◌, Option, Some, None}
use Rattle.std.specs.List.{flat_map}
use Rattle.pearl_tree.specs.declared.name.Name.{Name}
use Rattle.pearl_tree.specs.declared.name.Number.{Number}
use Rattle.pearl_tree.specs.declared.token.What.{What}
use Rattle.pearl_tree.specs.declared.token.What.TheVariants as what
use Rattle.pearl_tree.specs.declared.symbol.TheConstants as s

abbrev pub word : ℕ → List What
word code = what.Word code ∷ []

abbrev pub symbol : ℕ → List What
symbol code = what.Symbol code ∷ []

abbrev pub id : List ℕ → List What
id text = what.Id (record { items = text }) ∷ []

abbrev pub name_tokens : Name → List What
name_tokens name = id name.text.items

abbrev pub number_tokens : Number → List What
number_tokens number = what.Number number.value ∷ []

-- { "," part }
abbrev pub after_commas : {X : Type 0} → (X → List What) → List X → List What
after_commas each parts = flat_map (λ part. symbol s.COMMA ++ each part) parts

-- part { "," part }
abbrev pub listed : {X : Type 0} → (X → List What) → List X → List What
listed each [] = []
listed each (first ∷ rest) = each first ++ after_commas each rest

-- "(" part { "," part } ")"
abbrev pub bracketed : {X : Type 0} → (X → List What) → List X → List What
bracketed each parts = symbol s.LEFT_ROUND ++ listed each parts ++ symbol s.RIGHT_ROUND

-- [ "(" part { "," part } ")" ]
abbrev pub maybe_bracketed : {X : Type 0} → (X → List What) → List X → List What
maybe_bracketed each [] = []
maybe_bracketed each (first ∷ rest) = bracketed each (first ∷ rest)

-- [ word "(" part { "," part } ")" ]
abbrev pub maybe_headed : {X : Type 0} → ℕ → (X → List What) → List X → List What
maybe_headed code each [] = []
maybe_headed code each (first ∷ rest) = word code ++ bracketed each (first ∷ rest)

-- [ part ]
abbrev pub maybe : {X : Type 0} → (X → List What) → Option X → List What
maybe each None = []
maybe each (Some part) = each part

-- [ word ]
abbrev pub flag : ℕ → Bool → List What
flag code false = []
flag code true = word code

-- "(" number ")"
abbrev pub bracketed_number : Number → List What
bracketed_number number = symbol s.LEFT_ROUND ++ number_tokens number ++ symbol s.RIGHT_ROUND
