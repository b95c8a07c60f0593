-- Where no first token of a declaration stands, one begins all the same: the shortest one.
use Rattle.std.proofs.Common.{ℕ, ◌+◌, ◌<◌, ◌≤◌, ◌^◌, List, [], ◌∷◌, length, refl, arith}
use Rattle.pearl_tree.specs.declared.name.Names.TheVariants.{One}
use Rattle.pearl_tree.specs.declared.declaration.Spec.TheVariants as spec
use Rattle.pearl_tree.specs.declared.token.Token.{Token}
use Rattle.pearl_tree.specs.Standing.{SpellsName, SpellsList}
use Rattle.pearl_tree.specs.Declarations.{SpellsSpec}
use Rattle.pearl_tree.specs.Modules.{SpellsDecl}
use Rattle.pearl_tree.specs.declared.word_code.TheConstants as w
use Rattle.pearl_parse_expr.specs.Least.{ReachesIn}
use Rattle.pearl_grammar.proofs.Offered.{Rest, Next, Fills, fills_as, state_reaches}
use Rattle.pearl_parse.proofs.Comes.{BehindWord, fills_word, fills_name}
use Rattle.pearl_parse.proofs.Comes.{come_made}
use Rattle.pearl_parse.proofs.Made.{semicolon}
use Rattle.pearl_parse.proofs.ModulesMade.{specify_made}
use Rattle.pearl_parse.proofs.Tails.{semicolon_fills}

-- id INTERRUPT ";"
specification_fills : Fills 3 (Next (λ tokens. SpellsList tokens (SpellsSpec tokens)) semicolon)
specification_fills =
    fills_as 3 (Next SpellsName (BehindWord w.INTERRUPT semicolon))
    (fills_name 2 (BehindWord w.INTERRUPT semicolon) (fills_word 1 semicolon semicolon_fills w.INTERRUPT (omega arith)))
    (Next (λ tokens. SpellsList tokens (SpellsSpec tokens)) semicolon)
    (λ others k to h. (
      spec.Interrupt (One h.0) h.0.place ∷ [],
      h.1 + 1,
      (h.1 + 1, (h.1, h.2.0.1, h.2, h.3.0, refl), refl),
      h.3.1,
    ))

module _ (tokens : List Token) (from : ℕ) (within : from ≤ length tokens) (few : length tokens < 2 ^ 55) where
  -- SPC id INTERRUPT ";"
  pub declaration_begins : ReachesIn 16 SpellsDecl tokens from from
  declaration_begins =
      let rest : Rest = BehindWord w.SPC (Next (λ tokens. SpellsList tokens (SpellsSpec tokens)) semicolon) in
      state_reaches SpellsDecl tokens from 16 4 rest from
      (fills_word 3 (Next (λ tokens. SpellsList tokens (SpellsSpec tokens)) semicolon) specification_fills w.SPC
      (omega arith)) (omega arith) (omega arith) (omega arith) within few
      (come_made SpellsDecl tokens from rest specify_made)
