-- What stands between tokens, in plain words: blanks, and comments of two forms.
use Rattle.std.specs.Prelude.{◌≡◌, ◌≢◌, ℕ, ◌≤◌, ◌⊎◌, List, [], ◌∷◌, ◌++◌, length, codes, All}

-- tab, line end, form feed, carriage return or space
abbrev pub IsBlank : List ℕ → Type 0
IsBlank text = (text ≡ 9 ∷ []) ⊎ ((text ≡ 10 ∷ []) ⊎ ((text ≡ 12 ∷ []) ⊎ ((text ≡ 13 ∷ []) ⊎ (text ≡ 32 ∷ []))))

-- `/*` up to and with the first `*/`
pub record IsEnclosed (text : List ℕ) : Type 0 where
  pub inner : List ℕ
  pub written : text ≡ codes "/*" ++ (inner ++ codes "*/")
  pub first : (before after : List ℕ) → inner ++ codes "*/" ≡ before ++ (codes "*/" ++ after) → length inner ≤ length before

-- nothing, or a line end first
abbrev pub EndsLine : List ℕ → Type 0
EndsLine [] = Unit {0}
EndsLine (byte ∷ _) = byte ≡ 10

-- `!` up to the line end or the end of the source
pub record IsLineComment (text : List ℕ) (rest : List ℕ) : Type 0 where
  pub inner : List ℕ
  pub written : text ≡ codes "!" ++ inner
  pub in_line : All (λ byte. byte ≢ 10) inner
  pub ends : EndsLine rest

-- the first `size` of the bytes are a blank or a comment
pub record BeginsSpace (bytes : List ℕ) (size : ℕ) : Type 0 where
  pub text : List ℕ
  pub rest : List ℕ
  pub written : bytes ≡ text ++ rest
  pub size_is : size ≡ length text
  pub is : IsBlank text ⊎ (IsEnclosed text ⊎ IsLineComment text rest)
