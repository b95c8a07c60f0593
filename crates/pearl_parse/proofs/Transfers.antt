-- What stands behind TO or FROM, as statements hold it.
use Rattle.std.proofs.Common.{◌≡◌, ℕ, ◌+◌, List, subst, arith}
use Rattle.pearl_tree.specs.declared.name.Name.{Name}
use Rattle.pearl_tree.specs.declared.format.Fmt.{Fmt}
use Rattle.pearl_tree.specs.declared.token.Token.{Token}
use Rattle.pearl_tree.specs.Standing.{HasWord, HasSymbol, IsName, SpellsList}
use Rattle.pearl_tree.specs.Formats.{SpellsFmt}
use Rattle.pearl_tree.specs.declared.symbol.TheConstants as s
use Rattle.pearl_tree.specs.declared.word_code.TheConstants as w
use Rattle.pearl_grammar.specs.Rules.{Spells}
use Rattle.pearl_grammar.specs.Statements.{transfer_rule}

-- id BY fmt { "," fmt } ";"
module _ (tokens : List Token) (a : ℕ) (name : Name) (formats : List Fmt) (to : ℕ) where
  pub transferred : Spells transfer_rule tokens (a + 1) (name, (formats, tt)) to →
      (b : ℕ) × IsName tokens (a + 1) name × HasWord tokens (a + 2) w.BY ×
      SpellsList tokens (SpellsFmt tokens) (a + 3) formats b × HasSymbol tokens b s.SEMICOLON × (to ≡ b + 1)
  transferred h =
      let word : h.0 ≡ a + 2 = omega (arith, h.1.1) in
      let behind : h.0 + 1 ≡ a + 3 = omega (arith, h.1.1) in
      let last = h.2.1 in (
        last.0,
        h.1.0,
        subst (λ k. HasWord tokens k w.BY) word h.2.0,
        subst (λ k. SpellsList tokens (SpellsFmt tokens) k formats last.0) behind last.1,
        last.2.0,
        last.2.1,
      )
