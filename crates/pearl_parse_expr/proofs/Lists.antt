-- One part more at the end of a list.
use Rattle.std.proofs.Common.{ℕ, ◌+◌, List, [], ◌∷◌, ◌++◌, Vec, refl, sym, subst}
use Rattle.pearl_tree.specs.declared.token.Token.{Token}
use Rattle.pearl_tree.specs.Standing.{Spelling, HasSymbol, SpellsEach, SpellsMore, SpellsList}
use Rattle.pearl_tree.specs.declared.symbol.TheConstants as s
use Rattle.pearl_parse_expr.specs.declared.reading.Reading.{Reading}
use Rattle.pearl_parse_expr.specs.Readings.{IsList}

-- what holds of the parts, the end and the stop of a list
pub listed : {X A : Type 0} (holds : List X → ℕ → ℕ → Type 0) {xs : List X} {to last : ℕ} {list : Reading (Vec X A)} →
    IsList xs to last list → holds xs to last → holds list.part.items list.end list.stop
listed holds {xs} {to} {last} {list} is h =
    subst (λ xs. holds xs list.end list.stop) (sym is.parts)
    (subst (λ to. holds xs to list.stop) (sym is.end) (subst (holds xs to) (sym is.stop) h))

pub each_one_more : {X : Type 0} (spells : Spelling X) (xs : List X) (from m to : ℕ) (x : X) →
    SpellsEach spells from xs m → spells m x to → SpellsEach spells from (xs ++ x ∷ []) to
each_one_more spells [] from m to x h last = (to, subst (λ k. spells k x to) h last, refl)
each_one_more spells (y ∷ ys) from m to x h last = (h.0, h.1, each_one_more spells ys h.0 m to x h.2 last)

more_one_more : {X : Type 0} (tokens : List Token) (spells : Spelling X) (xs : List X) (from m to : ℕ) (x : X) →
    SpellsMore tokens spells from xs m → HasSymbol tokens m s.COMMA → spells (m + 1) x to →
    SpellsMore tokens spells from (xs ++ x ∷ []) to
more_one_more tokens spells [] from m to x h comma last =
    (to, subst (λ k. HasSymbol tokens k s.COMMA) h comma, subst (λ k. spells (k + 1) x to) h last, refl)
more_one_more tokens spells (y ∷ ys) from m to x h comma last =
    (h.0, h.1, h.2, more_one_more tokens spells ys h.0 m to x h.3 comma last)

pub list_one_more : {X : Type 0} (tokens : List Token) (spells : Spelling X) (xs : List X) (from m to : ℕ) (x : X) →
    SpellsList tokens spells from xs m → HasSymbol tokens m s.COMMA → spells (m + 1) x to →
    SpellsList tokens spells from (xs ++ x ∷ []) to
list_one_more tokens spells [] from m to x h comma last = absurd h
list_one_more tokens spells (y ∷ ys) from m to x h comma last =
    (h.0, h.1, more_one_more tokens spells ys h.0 m to x h.2 comma last)
