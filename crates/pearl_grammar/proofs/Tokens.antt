-- Kinds of tokens, and which of them begin a part.
use Rattle.std.proofs.Common.{◌≡◌, ℕ, zero, suc, ◌<◌, ◌⊎◌, inl, inr, Bool, true, false, ◌||◌, List, [], ◌∷◌, ◌++◌, length}
use Rattle.std.proofs.Common.{Option, Some, None, true≢false, refl, subst, ap, ◌∙◌, sym, arith}
use Rattle.pearl_tree.specs.declared.name.Name.{Name}
use Rattle.pearl_tree.specs.declared.token.What.{What}
use Rattle.pearl_tree.specs.declared.token.What.TheVariants as what
use Rattle.pearl_tree.specs.declared.token.Token.{Token}
use Rattle.pearl_tree.specs.Standing.{Spelling, what_at}
use Rattle.pearl_parse_expr.specs.Stops.{is_literal}

pub data Kind : Type 0 where
  AWord : (code : ℕ) → Kind
  ASymbol : (code : ℕ) → Kind
  AnId : Kind
  ANumber : Kind
  -- the first token of a literal
  ALiteral : Kind
  -- a token, and nothing more is known of it
  AnyToken : Kind

abbrev pub IsOf : Kind → Option What → Type 0
IsOf (AWord code) token = token ≡ Some (what.Word code)
IsOf (ASymbol code) token = token ≡ Some (what.Symbol code)
IsOf AnId token = (name : Name) × (token ≡ Some (what.Id name.text))
IsOf ANumber token = (value : ℕ) × (token ≡ Some (what.Number value))
IsOf ALiteral token = is_literal token ≡ true
IsOf AnyToken token = (here : What) × (token ≡ Some here)

abbrev pub Among : List Kind → Option What → Type 0
Among [] token = ⊥
Among (kind ∷ kinds) token = IsOf kind token ⊎ Among kinds token

abbrev pub kind_of : What → Kind
kind_of (what.Word code) = AWord code
kind_of (what.Symbol code) = ASymbol code
kind_of (what.Id text) = AnId
kind_of _ = AnyToken

pub is_kind : (here : What) (token : Option What) → token ≡ Some here → IsOf (kind_of here) token
is_kind (what.Word code) token h = h
is_kind (what.Symbol code) token h = h
is_kind (what.Id text) token h = (record { text = text; place = 0 }, h)
is_kind here token h = (here, h)

-- a test has this answer at each token of a kind, or of some kinds
abbrev pub Answers : Bool → (Option What → Bool) → Kind → Type 0
Answers answer test (AWord code) = test (Some (what.Word code)) ≡ answer
Answers answer test (ASymbol code) = test (Some (what.Symbol code)) ≡ answer
Answers answer test AnId = (name : Name) → test (Some (what.Id name.text)) ≡ answer
Answers answer test ANumber = (value : ℕ) → test (Some (what.Number value)) ≡ answer
Answers answer test ALiteral = (token : Option What) → is_literal token ≡ true → test token ≡ answer
Answers answer test AnyToken = (here : What) → test (Some here) ≡ answer

abbrev pub AllAnswer : Bool → (Option What → Bool) → List Kind → Type 0
AllAnswer answer test [] = Unit {0}
AllAnswer answer test (kind ∷ kinds) = Answers answer test kind × AllAnswer answer test kinds

one_answers : (answer : Bool) (test : Option What → Bool) (kind : Kind) (token : Option What) →
    Answers answer test kind → IsOf kind token → test token ≡ answer
one_answers answer test (AWord code) token a h = ap test h ∙ a
one_answers answer test (ASymbol code) token a h = ap test h ∙ a
one_answers answer test AnId token a h = ap test h.1 ∙ a h.0
one_answers answer test ANumber token a h = ap test h.1 ∙ a h.0
one_answers answer test ALiteral token a h = a token h
one_answers answer test AnyToken token a h = ap test h.1 ∙ a h.0

pub answers : (answer : Bool) (test : Option What → Bool) (kinds : List Kind) (token : Option What) →
    AllAnswer answer test kinds → Among kinds token → test token ≡ answer
answers answer test [] token a h = absurd h
answers answer test (kind ∷ kinds) token a (inl h) = one_answers answer test kind token a.0 h
answers answer test (kind ∷ kinds) token a (inr h) = answers answer test kinds token a.1 h

pub neither : (a b : Bool) → a ≡ false → b ≡ false → (a || b) ≡ false
neither false b none h = h
neither true b none h = none

-- ---- a token of some kind stands within the tokens

literal_there : (token : Option What) → is_literal token ≡ true → (here : What) × (token ≡ Some here)
literal_there None h = absurd (true≢false (sym h))
literal_there (Some here) h = (here, refl)

token_there : (kind : Kind) (token : Option What) → IsOf kind token → (here : What) × (token ≡ Some here)
token_there (AWord code) token h = (what.Word code, h)
token_there (ASymbol code) token h = (what.Symbol code, h)
token_there AnId token h = (what.Id h.0.text, h.1)
token_there ANumber token h = (what.Number h.0, h.1)
token_there ALiteral token h = literal_there token h
token_there AnyToken token h = h

pub some_there : (kinds : List Kind) (token : Option What) → Among kinds token → (here : What) × (token ≡ Some here)
some_there [] token h = absurd h
some_there (kind ∷ kinds) token (inl h) = token_there kind token h
some_there (kind ∷ kinds) token (inr h) = some_there kinds token h

pub what_within : (others : List Token) (k : ℕ) (here : What) → what_at others k ≡ Some here → k < length others
what_within [] k here h = cc
what_within (x ∷ xs) zero here h = omega arith
what_within (x ∷ xs) (suc k) here h = omega (arith, what_within xs k here h)

-- ---- which begin a part

pub among_first : (a b : List Kind) (token : Option What) → Among a token → Among (a ++ b) token
among_first [] b token h = absurd h
among_first (kind ∷ kinds) b token (inl h) = inl h
among_first (kind ∷ kinds) b token (inr h) = inr (among_first kinds b token h)

pub among_second : (a b : List Kind) (token : Option What) → Among b token → Among (a ++ b) token
among_second [] b token h = h
among_second (kind ∷ kinds) b token h = inr (among_second kinds b token h)

-- of a part that is n tokens long at least, and what stands behind it
abbrev pub front : ℕ → List Kind → List Kind → List Kind
front zero a b = a ++ b
front (suc n) a b = a

pub front_first : (n : ℕ) (a b : List Kind) (token : Option What) → Among a token → Among (front n a b) token
front_first zero a b token h = among_first a b token h
front_first (suc n) a b token h = h

pub front_second : (n : ℕ) (a b : List Kind) (token : Option What) → n ≡ 0 → Among b token → Among (front n a b) token
front_second zero a b token none h = among_second a b token h
front_second (suc n) a b token none h = absurd (omega (arith, none))

-- a part is empty, or begins with a token of these kinds
abbrev pub Leads : {X : Type 0} → (List Token → Spelling X) → List Kind → Type 0
Leads {X} spells kinds = (others : List Token) (from : ℕ) (x : X) (to : ℕ) → spells others from x to →
    (to ≡ from) ⊎ Among kinds (what_at others from)

-- the same token
pub some_kind : (kinds : List Kind) (token other : Option What) → token ≡ other → Among kinds other → Among kinds token
some_kind kinds token other same h = subst (λ token. Among kinds token) (sym same) h
