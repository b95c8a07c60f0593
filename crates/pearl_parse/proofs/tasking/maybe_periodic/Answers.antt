-- That a period and an activation are read, or the least stop is told.
use Rattle.std.proofs.Common.{ℕ, ◌<◌, ◌≤◌, ◌^◌, List, length, rules, arith}
use Rattle.pearl_tree.specs.declared.token.Token.{Token}
use Rattle.pearl_parse_expr.proofs.Offered.{reading_is}
use Rattle.pearl_grammar.specs.Rules.{Spells}
use Rattle.pearl_grammar.specs.Reached.{never}
use Rattle.pearl_grammar.specs.Statements.{begun_rule}
use Rattle.pearl_grammar.proofs.Offered.{Walk, as_one, only_read, part_missing}
use Rattle.pearl_parse.proofs.Along.{parts_begun, took_only_behind, lacks_only_behind, only_behind, lacking_behind}
use Rattle.pearl_parse.proofs.Scheduled.{begun_facts, activated_parts}
use Rattle.pearl_parse.proofs.ScheduledReads.{past_maybe_period, maybe_period_missing}
use Rattle.pearl_parse.proofs.tasking.maybe_periodic.Goals as goal

begun : (tokens : List Token) (from low : ℕ) → from ≤ length tokens → length tokens < 2 ^ 55 → from ≤ low →
    low ≤ length tokens → Walk 24 (Spells begun_rule) tokens from low begun_rule begun_facts never from low
begun tokens from low inside few near within =
    parts_begun begun_rule begun_facts tt inside within (omega arith) few (omega arith)

pub returns-in_err-period : goal.returns-in_err-period
returns-in_err-period c =
    let few : length c.args.tokens.now < 2 ^ 55 = search rules in
    lacking_behind c.in_err-period.field-0.0 c.from_residual.result c.from_residual.ensures
    (maybe_period_missing (begun c.args.tokens.now c.args.from c.args.least_stop c.requires.from few
    c.requires.least_stop.0 c.requires.least_stop.1) (omega arith) (omega arith) c.in_err-period.field-0.0
    c.in_err-period.ensures)

pub returns-in_err-activation : goal.returns-in_err-activation
returns-in_err-activation c =
    let few : length c.args.tokens.now < 2 ^ 55 = search rules in
    let read = c.in_ok-period.ensures in
    lacking_behind c.in_err-activation.field-0.0 c.from_residual-in_err-activation.result
    c.from_residual-in_err-activation.ensures
    (part_missing (as_one (past_maybe_period (begun c.args.tokens.now c.args.from c.args.least_stop c.requires.from few
    c.requires.least_stop.0 c.requires.least_stop.1) (omega arith) (omega arith) read))
    (lacks_only_behind c.in_err-activation.ensures) (omega (arith, read.bounds)) (omega arith))

pub returns : goal.returns
returns c =
    let few : length c.args.tokens.now < 2 ^ 55 = search rules in
    let period = c.in_ok-period.period in
    let read = c.in_ok-period.ensures in
    let activation = c.in_ok-activation.activation in
    let last = c.in_ok-activation.ensures in
    rw (reading_is c.map.result (record { period = period.part; activation = activation.part }) activation.end
    activation.stop (search rules) (search rules) (search rules))
    (only_behind _ (only_read (as_one (past_maybe_period (begun c.args.tokens.now c.args.from c.args.least_stop
    c.requires.from few c.requires.least_stop.0 c.requires.least_stop.1) (omega arith) (omega arith) read))
    (took_only_behind last (omega arith) (activation.part.task, (activation.part.priority, tt))
    (activated_parts c.args.tokens.now period.end activation.part activation.end last.spells))
    (omega (arith, read.bounds)) (omega arith)) (omega (arith, last.bounds)) (omega (arith, read.bounds, last.bounds))
    (period.end, read.spells, last.spells))
