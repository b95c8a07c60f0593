-- Lists that go on as far as a stop: the parts that were read, and one that goes on so far.
use Rattle.std.proofs.Common.{ℕ, ◌+◌, ◌<◌, ◌≤◌, List, [], ◌∷◌, ◌++◌, length, refl, ◌∙◌, arith}
use Rattle.pearl_tree.specs.declared.token.Token.{Token}
use Rattle.pearl_tree.specs.Standing.{Spelling, HasSymbol, SpellsEach, SpellsSome, SpellsList}
use Rattle.pearl_tree.specs.declared.symbol.TheConstants as s
use Rattle.pearl_parse_expr.specs.Least.{ReachesIn}
use Rattle.pearl_parse_expr.proofs.Lists.{each_one_more, list_one_more}
use Rattle.pearl_parse_expr.proofs.Local as local
use Rattle.pearl_parse_expr.proofs.LocalLists.{Kept, after_of, each_keeps, list_keeps}
use Rattle.pearl_parse_expr.proofs.Reaching.{reaches_as_in}

module _ {X : Type 0} (n room : ℕ) (spells : List Token → Spelling X) (kept : Kept n spells) (tokens : List Token)
    (from stop : ℕ) where
  pub each_goes_on : (xs : List X) (end : ℕ) → SpellsEach (spells tokens) from xs end → end ≤ stop →
      ReachesIn room spells tokens end stop →
      ReachesIn room (λ tokens. SpellsEach (spells tokens)) tokens from stop
  each_goes_on xs end h near r =
      let each : Kept 0 (λ tokens. SpellsEach (spells tokens)) =
      λ tokens others k alike. each_keeps tokens others k alike n spells (kept tokens others k alike) in
      reaches_as_in spells (λ tokens. SpellsEach (spells tokens)) tokens from end room room stop
      (omega (arith, after_of 0 (λ tokens. SpellsEach (spells tokens)) each tokens from xs end h))
      (λ others alike long short x g. (
        xs ++ x ∷ [],
        each_one_more (spells others) xs from end (length others) x (each tokens others stop alike from xs end h near).1
            g,
      )) r

  -- the first part of a list
  pub list_goes : ReachesIn room spells tokens from stop →
      ReachesIn room (λ tokens. SpellsList tokens (spells tokens)) tokens from stop
  list_goes r =
      reaches_as_in spells (λ tokens. SpellsList tokens (spells tokens)) tokens from from room room stop (omega arith)
      (λ others alike long short x g. (x ∷ [], (length others, g, refl))) r

  pub some_goes : ReachesIn room spells tokens from stop →
      ReachesIn room (λ tokens. SpellsSome (spells tokens)) tokens from stop
  some_goes r =
      reaches_as_in spells (λ tokens. SpellsSome (spells tokens)) tokens from from room room stop (omega arith)
      (λ others alike long short x g. (x ∷ [], (length others, g, refl))) r

  -- a part behind a comma
  pub list_goes_on : (xs : List X) (end : ℕ) → SpellsList tokens (spells tokens) from xs end →
      HasSymbol tokens end s.COMMA → end < stop →
      ReachesIn room spells tokens (end + 1) stop →
      ReachesIn room (λ tokens. SpellsList tokens (spells tokens)) tokens from stop
  list_goes_on xs end h comma near r =
      let list : Kept n (λ tokens. SpellsList tokens (spells tokens)) =
      λ tokens others k alike. list_keeps tokens others k alike n spells (kept tokens others k alike) in
      reaches_as_in spells (λ tokens. SpellsList tokens (spells tokens)) tokens from (end + 1) room room stop
      (omega (arith, after_of n (λ tokens. SpellsList tokens (spells tokens)) list tokens from xs end h))
      (λ others alike long short x g. (
        xs ++ x ∷ [],
        list_one_more others (spells others) xs from end (length others) x
            (list tokens others stop alike from xs end h (omega arith)).1
            (local.what tokens others stop alike end near ∙ comma) g,
      )) r
