-- Rows of a table and the texts that they show.
use Rattle.std.proofs.Common.{◌≡◌, ℕ, List, sym, ap, ◌∙◌, get_or, length, map}
use Rattle.std.proofs.Math.ListN.{get_or-map}
use Rattle.std.proofs.lemmas.List.{length-map}

-- a table has as many rows as texts that they show
pub shown_length : {X : Type 0} (show : X → List ℕ) (rows : List X) (texts : List (List ℕ)) → map show rows ≡ texts → length rows ≡ length texts
shown_length show rows texts same = sym (length-map rows show) ∙ ap length same

-- a row of a table shows the text with the row's number
pub shown_text : {X : Type 0} (show : X → List ℕ) (rows : List X) (texts : List (List ℕ)) → map show rows ≡ texts → (k : ℕ) (d : X) → show (get_or rows k d) ≡ get_or texts k (show d)
shown_text show rows texts same k d = sym (get_or-map show rows k d) ∙ ap (λ xs. get_or xs k (show d)) same
