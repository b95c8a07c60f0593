-- What `own_reference` answers: what was read as a name with selectors is a reference.
use Rattle.std.proofs.Common.{rules}
use Rattle.pearl_tree.specs.Expressions.{SpellsOwnRef}
use Rattle.pearl_tree.specs.declared.limit.TheConstants as limit
use Rattle.pearl_parse_expr.specs.Stops.{SpellsNamed}
use Rattle.pearl_parse_decl.proofs.Behind.{least_as}
use Rattle.pearl_parse_decl.proofs.Leaves.{own_ref_reaches}
use Rattle.pearl_parse_decl.proofs.expression.own_reference.Goals as goal

pub returns-clause-reads : goal.returns-clause-reads
returns-clause-reads c =
    let read = c.reference.ensures in
    record {
      spells = read.spells;
      longest = search rules;
      ahead = read.ahead;
      refused = search rules;
      least =
          least_as (λ tokens. SpellsNamed tokens limit.OWN_BRACKETS_MAX) SpellsOwnRef c.args.tokens.now c.args.from
          c.reference.result
          (λ stop within r. own_ref_reaches c.args.tokens.now c.args.from stop (search rules) within r)
          read.ahead read.refused read.least;
    }

pub returns-clause-named : goal.returns-clause-named
returns-clause-named c = c.reference.ensures
