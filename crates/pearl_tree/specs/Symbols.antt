-- The symbols of the language.
use Rattle.std.specs.Prelude.{ℕ, List, [], ◌∷◌, codes, slice_index_or}
use Rattle.pearl_tree.specs.declared.symbol.TheConstants.{SYMBOL_COUNT}

-- the symbols in the order of their codes
unfoldable pub symbol_texts : List (List ℕ)
symbol_texts =
    codes "(" ∷ codes ")" ∷ codes "[" ∷ codes "]" ∷ codes "," ∷ codes ";" ∷ codes ":" ∷ codes "." ∷ codes ":=" ∷
    codes "=" ∷ codes "==" ∷ codes "/=" ∷ codes "<" ∷ codes ">" ∷ codes "<=" ∷ codes ">=" ∷ codes "><" ∷ codes "<>" ∷
    codes "+" ∷ codes "-" ∷ codes "*" ∷ codes "//" ∷ codes "**" ∷ []

unfoldable pub symbol_text : ℕ → List ℕ
symbol_text code = slice_index_or symbol_texts code []

-- how many symbols there are
abbrev pub symbol_count : ℕ
symbol_count = SYMBOL_COUNT
