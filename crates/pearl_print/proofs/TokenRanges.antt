-- The tokens from one number up to another, with one more behind them.
use Rattle.std.proofs.Common.{◌≡◌, ℕ, ◌+◌, List, [], ◌∷◌, ◌++◌, Option, Some, None, option_map, slice_get, refl, subst, arith}
use Rattle.pearl_tree.specs.declared.token.What.{What}
use Rattle.pearl_tree.specs.declared.token.Token.{Token}
use Rattle.pearl_tree.specs.Standing.{what_at, place_at, IsAt}

abbrev place_or_zero : Option ℕ → ℕ
place_or_zero None = 0
place_or_zero (Some place) = place

-- where a token stands
abbrev pub place_of : List Token → ℕ → ℕ
place_of tokens k = place_or_zero (place_at tokens k)

-- there is such a token
abbrev pub IsHere : List Token → ℕ → Type 0
IsHere tokens k = IsAt tokens k (place_of tokens k)

-- these are the tokens from one number up to another, and one stands behind them
abbrev pub HasTokens : List Token → ℕ → List What → ℕ → Type 0
HasTokens tokens from [] to = (to ≡ from) × IsHere tokens from
HasTokens tokens from (x ∷ xs) to = (what_at tokens from ≡ Some x) × HasTokens tokens (from + 1) xs to

here_in : (o : Option Token) (x : What) → option_map (λ token. token.what) o ≡ Some x →
    option_map (λ token. token.place) o ≡ Some (place_or_zero (option_map (λ token. token.place) o))
here_in None x e = absurd (let f = e in cc f)
here_in (Some token) x e = refl

pub here : (tokens : List Token) (k : ℕ) (x : What) → what_at tokens k ≡ Some x → IsHere tokens k
here tokens k x e = here_in (slice_get tokens k) x e

pub starts : (tokens : List Token) (from : ℕ) (xs : List What) (to : ℕ) → HasTokens tokens from xs to → IsHere tokens from
starts tokens from [] to g = g.1
starts tokens from (x ∷ xs) to g = here tokens from x g.0

pub cut : (tokens : List Token) (from : ℕ) (xs ys : List What) (to : ℕ) → HasTokens tokens from (xs ++ ys) to →
    (m : ℕ) × HasTokens tokens from xs m × HasTokens tokens m ys to
cut tokens from [] ys to g = (from, (refl, starts tokens from ys to g), g)
cut tokens from (x ∷ xs) ys to g = let p = cut tokens (from + 1) xs ys to g.1 in (p.0, (g.0, p.1), p.2)

pub cut3 : (tokens : List Token) (from : ℕ) (xs ys zs : List What) (to : ℕ) → HasTokens tokens from (xs ++ ys ++ zs) to →
    (a : ℕ) × (b : ℕ) × HasTokens tokens from xs a × HasTokens tokens a ys b × HasTokens tokens b zs to
cut3 tokens from xs ys zs to g =
    let p = cut tokens from (xs ++ ys) zs to g in
    let q = cut tokens from xs ys p.0 p.1 in
    (q.0, p.0, q.1, q.2, p.2)

pub cut4 : (tokens : List Token) (from : ℕ) (xs ys zs ws : List What) (to : ℕ) → HasTokens tokens from (xs ++ ys ++ zs ++ ws) to →
    (a : ℕ) × (b : ℕ) × (c : ℕ) × HasTokens tokens from xs a × HasTokens tokens a ys b × HasTokens tokens b zs c × HasTokens tokens c ws to
cut4 tokens from xs ys zs ws to g =
    let p = cut tokens from (xs ++ ys ++ zs) ws to g in
    let q = cut3 tokens from xs ys zs p.0 p.1 in
    (q.0, q.1, p.0, q.2, q.3, q.4, p.2)

pub cut5 : (tokens : List Token) (from : ℕ) (xs ys zs ws vs : List What) (to : ℕ) → HasTokens tokens from (xs ++ ys ++ zs ++ ws ++ vs) to →
    (a : ℕ) × (b : ℕ) × (c : ℕ) × (d : ℕ) × HasTokens tokens from xs a × HasTokens tokens a ys b × HasTokens tokens b zs c × HasTokens tokens c ws d ×
    HasTokens tokens d vs to
cut5 tokens from xs ys zs ws vs to g =
    let p = cut tokens from (xs ++ ys ++ zs ++ ws) vs to g in
    let q = cut4 tokens from xs ys zs ws p.0 p.1 in
    (q.0, q.1, q.2, p.0, q.3, q.4, q.5, q.6, p.2)

-- numbers of tokens
pub plus_two : (P : ℕ → Type 0) (k : ℕ) → P (k + 1 + 1) → P (k + 2)
plus_two P k h = subst P (omega arith) h

pub plus_three : (P : ℕ → Type 0) (k : ℕ) → P (k + 1 + 1 + 1) → P (k + 3)
plus_three P k h = subst P (omega arith) h

-- a part, one token and another part
pub cut_token : (tokens : List Token) (from : ℕ) (xs : List What) (y : What) (zs : List What) (to : ℕ) → HasTokens tokens from (xs ++ (y ∷ []) ++ zs) to →
    (m : ℕ) × HasTokens tokens from xs m × (what_at tokens m ≡ Some y) × HasTokens tokens (m + 1) zs to
cut_token tokens from xs y zs to g =
    let p = cut3 tokens from xs (y ∷ []) zs to g in
    (p.0, p.2, p.3.0, subst (λ k. HasTokens tokens k zs to) p.3.1.0 p.4)

-- a part, plus_two tokens and another part
pub cut_two : (tokens : List Token) (from : ℕ) (xs : List What) (y z : What) (ws : List What) (to : ℕ) → HasTokens tokens from (xs ++ (y ∷ []) ++ (z ∷ []) ++ ws) to →
    (m : ℕ) × HasTokens tokens from xs m × (what_at tokens m ≡ Some y) × (what_at tokens (m + 1) ≡ Some z) × HasTokens tokens (m + 1 + 1) ws to
cut_two tokens from xs y z ws to g =
    let p = cut_token tokens from (xs ++ (y ∷ [])) z ws to g in
    let q = cut tokens from xs (y ∷ []) p.0 p.1 in
    (q.0, q.1, q.2.0, subst (λ k. what_at tokens k ≡ Some z) q.2.1.0 p.2, subst (λ k. HasTokens tokens (k + 1) ws to) q.2.1.0 p.3)
