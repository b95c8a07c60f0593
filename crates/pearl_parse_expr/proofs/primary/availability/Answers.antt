-- TRY has a name behind it, as a period has.
use Rattle.std.proofs.Common.{refl, rules}
use Rattle.pearl_tree.specs.declared.token.What.TheVariants as what
use Rattle.pearl_tree.specs.declared.expression.Primary as primary
use Rattle.pearl_tree.specs.declared.word_code.TheConstants as w
use Rattle.pearl_tree.specs.Expressions.{SpellsPrimary}
use Rattle.pearl_parse_expr.proofs.Ids.{x_name}
use Rattle.pearl_parse_expr.proofs.Primaries.{only_try}
use Rattle.pearl_parse_expr.proofs.Readings.{longest_read, name_read, name_missing}
use Rattle.pearl_parse_expr.proofs.primary.availability.Goals as goal

pub returns-in-Some-clause-reads : goal.returns-in-Some-clause-reads
returns-in-Some-clause-reads c = λ depth. longest_read _
    (name_read (λ tokens. SpellsPrimary tokens depth) c.args.tokens.now c.args.from (what.Word w.TRY)
    c.requires.word (λ others. only_try others depth c.args.from) _ (search rules) c.in-Some.ensures.within)

pub returns-in-None-clause-reads : goal.returns-in-None-clause-reads
returns-in-None-clause-reads c = λ depth. longest_read _
    (name_missing (λ tokens. SpellsPrimary tokens depth) c.args.tokens.now c.args.from (what.Word w.TRY)
    c.requires.word (λ others. only_try others depth c.args.from) (c.in-None.ensures.none refl)
    (λ place. primary.Try x_name place) (λ others place at word name. (at, word, name, refl)))
