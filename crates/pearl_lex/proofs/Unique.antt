-- The tokens of a source, or the place at which it has none, are determined.
use Rattle.std.proofs.Common.{◌≡◌, ◌+◌, ℕ, List, [], ◌∷◌, length, drop, Option, Some, None, refl, sym, ap, subst, ◌∙◌, arith}
use Rattle.std.proofs.Math.ListN.{drop_of_length-le}
use Rattle.pearl_tree.specs.declared.token.Token.{Token}
use Rattle.pearl_lex.specs.declared.front.Front.{Front}
use Rattle.pearl_lex.specs.Spelling.{space_len}
use Rattle.pearl_lex.specs.Front.{front}
use Rattle.pearl_lex.specs.Lexes.{AreSpaces, IsSpace, AreTokens, Lexes, IsStuck}
use Rattle.pearl_lex.specs.Laws.{HasOneReading, HasOnePlace, IsNeverBoth}

-- no blank and no comment begins here
abbrev HasNoSpace : List ℕ → ℕ → Type 0
HasNoSpace bytes at = space_len (drop at bytes) ≡ 0

same_end : (bytes : List ℕ) (from : ℕ) (sizes : List ℕ) (to : ℕ) (others : List ℕ) (end : ℕ) → AreSpaces bytes from sizes to → HasNoSpace bytes to
    → AreSpaces bytes from others end → HasNoSpace bytes end → to ≡ end
same_end bytes from [] to [] end are stops alike halts = sym are ∙ alike
same_end bytes from [] to (other ∷ others) end are stops alike halts =
    let here : space_len (drop from bytes) ≡ 0 = ap (λ at. space_len (drop at bytes)) are ∙ stops in
    absurd (omega (arith, here, alike.0, alike.1))
same_end bytes from (size ∷ sizes) to [] end are stops alike halts =
    let here : space_len (drop from bytes) ≡ 0 = ap (λ at. space_len (drop at bytes)) alike ∙ halts in
    absurd (omega (arith, here, are.0, are.1))
same_end bytes from (size ∷ sizes) to (other ∷ others) end are stops alike halts =
    let next : from + other ≡ from + size = ap (λ n. from + n) (sym alike.1 ∙ are.1) in
    same_end bytes (from + size) sizes to others end are.2 stops (subst (λ at. AreSpaces bytes at others end) next alike.2) halts

same_space : (bytes : List ℕ) (from to end : ℕ) → IsSpace bytes from to → HasNoSpace bytes to → IsSpace bytes from end → HasNoSpace bytes end → to ≡ end
same_space bytes from to end space stops other halts = same_end bytes from space.sizes to other.sizes end space.are stops other.are halts

-- no token follows `end`: behind blanks and comments, none begins at this place
record Stops (bytes : List ℕ) (end : ℕ) (place : ℕ) : Type 0 where
  space : IsSpace bytes end place
  no_space : HasNoSpace bytes place
  none : front (drop place bytes) ≡ None

same_token : (a b : Token) → a.place ≡ b.place → a.what ≡ b.what → a ≡ b
same_token a b p w = λ i. record { place = p i; what = w i }

same_tokens : (bytes : List ℕ) (from : ℕ) (tokens : List Token) (to place : ℕ) (others : List Token) (end halt : ℕ) → AreTokens bytes from tokens to → Stops bytes to place
    → AreTokens bytes from others end → Stops bytes end halt → (tokens ≡ others) × (to ≡ end)
same_tokens bytes from [] to place [] end halt are stops alike halts = (refl, sym are ∙ alike)
same_tokens bytes from [] to place (other ∷ others) end halt are stops alike halts =
    let is = alike.1 in
    let at = same_space bytes from place other.place (subst (λ n. IsSpace bytes n place) (sym are) stops.space) stops.no_space is.place is.no_space in
    let here : front (drop other.place bytes) ≡ None = ap (λ n. front (drop n bytes)) (sym at) ∙ stops.none in
    absurd (let e = sym here ∙ is.begins in cc e)
same_tokens bytes from (token ∷ tokens) to place [] end halt are stops alike halts =
    let is = are.1 in
    let at = same_space bytes from halt token.place (subst (λ n. IsSpace bytes n halt) (sym alike) halts.space) halts.no_space is.place is.no_space in
    let here : front (drop token.place bytes) ≡ None = ap (λ n. front (drop n bytes)) (sym at) ∙ halts.none in
    absurd (let e = sym here ∙ is.begins in cc e)
same_tokens bytes from (token ∷ tokens) to place (other ∷ others) end halt are stops alike halts =
    let is = are.1 in
    let its = alike.1 in
    let at : token.place ≡ other.place = same_space bytes from token.place other.place is.place is.no_space its.place its.no_space in
    let fronts : ◌≡◌ {A = Option Front} (Some (record { what = token.what; size = is.size })) (Some (record { what = other.what; size = its.size })) =
    sym is.begins ∙ ap (λ n. front (drop n bytes)) at ∙ its.begins in
    let both : ◌≡◌ {A = Front} (record { what = token.what; size = is.size }) (record { what = other.what; size = its.size }) = cc fronts in
    let what : token.what ≡ other.what = ap (λ (f : Front). f.what) both in
    let size : is.size ≡ its.size = ap (λ (f : Front). f.size) both in
    let next : are.0 ≡ alike.0 = omega (arith, is.end, its.end, at, size) in
    let rest = same_tokens bytes are.0 tokens to place others end halt are.2 stops (subst (λ n. AreTokens bytes n others end) (sym next) alike.2) halts in
    (λ i. same_token token other at what i ∷ rest.0 i, rest.1)

none_at_end : front [] ≡ None
unfolding front
none_at_end = refl

no_bytes : (bytes : List ℕ) → drop (length bytes) bytes ≡ []
no_bytes bytes = drop_of_length-le bytes (omega arith)

lexes_stops : (bytes : List ℕ) (tokens : List Token) (lexes : Lexes bytes tokens) → Stops bytes lexes.end (length bytes)
lexes_stops bytes tokens lexes = record { space = lexes.rest; no_space = ap space_len (no_bytes bytes); none = ap front (no_bytes bytes) ∙ none_at_end }

stuck_stops : (bytes : List ℕ) (place : ℕ) (stuck : IsStuck bytes place) → Stops bytes stuck.end place
stuck_stops bytes place stuck = record { space = stuck.here; no_space = stuck.no_space; none = stuck.none }

pub one_reading : HasOneReading
one_reading bytes tokens others lexes also =
    (same_tokens bytes 0 tokens lexes.end _ others also.end _ lexes.tokens_are (lexes_stops bytes tokens lexes) also.tokens_are (lexes_stops bytes others also)).0

pub one_place : HasOnePlace
one_place bytes place other stuck also =
    let same = same_tokens bytes 0 stuck.before stuck.end place also.before also.end other stuck.tokens_are (stuck_stops bytes place stuck) also.tokens_are (stuck_stops bytes other also) in
    same_space bytes stuck.end place other stuck.here stuck.no_space (subst (λ n. IsSpace bytes n other) (sym same.1) also.here) also.no_space

pub never_both : IsNeverBoth
never_both bytes tokens place lexes stuck =
    let same = same_tokens bytes 0 stuck.before stuck.end place tokens lexes.end (length bytes) stuck.tokens_are (stuck_stops bytes place stuck) lexes.tokens_are (lexes_stops bytes tokens lexes) in
    let at : place ≡ length bytes =
    same_space bytes stuck.end place (length bytes) stuck.here stuck.no_space (subst (λ n. IsSpace bytes n (length bytes)) (sym same.1) lexes.rest) (ap space_len (no_bytes bytes)) in
    omega (arith, at, stuck.inside)
