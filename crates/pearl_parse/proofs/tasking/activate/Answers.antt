-- That ACTIVATE is read with its task and priority, or the least stop is told.
use Rattle.std.proofs.Common.{ℕ, ◌+◌, ◌<◌, ◌≤◌, ◌^◌, max, List, length, rules, refl, arith}
use Rattle.pearl_tree.specs.declared.name.Name.{Name}
use Rattle.pearl_tree.specs.declared.token.Token.{Token}
use Rattle.pearl_tree.specs.Standing.{HasWord, IsName}
use Rattle.pearl_tree.specs.declared.symbol.TheConstants as s
use Rattle.pearl_tree.specs.declared.word_code.TheConstants as w
use Rattle.pearl_parse_expr.specs.Stops.{is_symbol, is_word, is_name}
use Rattle.pearl_parse_expr.proofs.Offered.{reading_is}
use Rattle.pearl_grammar.specs.Rules.{Maybe, Then, Spells}
use Rattle.pearl_grammar.specs.Declarations.{close}
use Rattle.pearl_grammar.specs.Reached.{never}
use Rattle.pearl_grammar.specs.Statements.{after, activation_rule}
use Rattle.pearl_grammar.proofs.Offered.{Walk, token_read}
use Rattle.pearl_parse.proofs.Along.{parts_begun, name_read, took_as, optional_read, optional_stopped, only_behind}
use Rattle.pearl_parse.proofs.Along.{lacking_behind, token_missing_behind}
use Rattle.pearl_parse.proofs.Scheduled.{activation_facts}
use Rattle.pearl_parse.proofs.tasking.activate.Goals as goal

module _ (tokens : List Token) (from low : ℕ) (inside : from ≤ length tokens) (few : length tokens < 2 ^ 55)
    (near : from ≤ low) (within : low ≤ length tokens) where
  begun : Walk 16 (Spells activation_rule) tokens from low activation_rule activation_facts never from low
  begun = parts_begun activation_rule activation_facts tt inside within (omega arith) few (omega arith)

  -- ACTIVATE id
  named : HasWord tokens from w.ACTIVATE → from < length tokens → (name : Name) → IsName tokens (from + 1) name →
      from + 1 < length tokens →
      Walk 16 (Spells activation_rule) tokens from low (Then (Maybe (after w.PRIO)) close) activation_facts.1.1 never
      (from + 2) low
  named here stands name next there = name_read (token_read begun refl here stands) (omega arith) next there

pub returns-in_err-word : goal.returns-in_err-word
returns-in_err-word c =
    let few : length c.args.tokens.now < 2 ^ 55 = search rules in
    token_missing_behind c.in_err-word.field-0.0 c.from_residual.result c.from_residual.ensures (is_word w.ACTIVATE)
    (begun c.args.tokens.now c.args.from c.args.least_stop c.requires.from few c.requires.least_stop.0
    c.requires.least_stop.1) c.in_err-word.ensures.missing (refl, tt) (omega arith) (omega arith)

pub returns-in_err-task : goal.returns-in_err-task
returns-in_err-task c =
    let few : length c.args.tokens.now < 2 ^ 55 = search rules in
    let word = c.in_ok-word.ensures in
    token_missing_behind c.in_err-task.field-0.0 c.from_residual-in_err-task.result c.from_residual-in_err-task.ensures
    is_name (token_read (begun c.args.tokens.now c.args.from c.args.least_stop c.requires.from few
    c.requires.least_stop.0 c.requires.least_stop.1) refl word.stands word.within) c.in_err-task.ensures.missing
    ((λ name. refl), tt) (omega arith) (omega arith)

pub returns-in_err-priority : goal.returns-in_err-priority
returns-in_err-priority c =
    let few : length c.args.tokens.now < 2 ^ 55 = search rules in
    let word = c.in_ok-word.ensures in
    let task = c.in_ok-task.ensures in
    let none = c.in_err-priority.ensures in
    lacking_behind c.in_err-priority.field-0.0 c.from_residual-in_err-priority.result
    c.from_residual-in_err-priority.ensures (optional_stopped (is_word w.PRIO) (named c.args.tokens.now c.args.from
    c.args.least_stop c.requires.from few c.requires.least_stop.0 c.requires.least_stop.1 word.stands word.within
    c.in_ok-task.task task.stands task.within) (refl, tt) (omega arith) 8 c.in_err-priority.field-0.0 none.refused
    none.least (omega arith) (omega arith))

pub returns-in_err-symbol : goal.returns-in_err-symbol
returns-in_err-symbol c =
    let few : length c.args.tokens.now < 2 ^ 55 = search rules in
    let word = c.in_ok-word.ensures in
    let task = c.in_ok-task.ensures in
    token_missing_behind c.in_err-symbol.field-0.0 c.from_residual-in_err-symbol.result
    c.from_residual-in_err-symbol.ensures (is_symbol s.SEMICOLON)
    (optional_read (is_word w.PRIO) (named c.args.tokens.now c.args.from c.args.least_stop c.requires.from few
    c.requires.least_stop.0 c.requires.least_stop.1 word.stands word.within c.in_ok-task.task task.stands task.within)
    (refl, tt) (omega arith) (took_as (omega arith) c.in_ok-priority.ensures) (refl, tt) (omega arith) (omega arith))
    c.in_err-symbol.ensures.missing (refl, tt) (omega arith) (omega arith)

pub returns : goal.returns
returns c =
    let few : length c.args.tokens.now < 2 ^ 55 = search rules in
    let word = c.in_ok-word.ensures in
    let task = c.in_ok-task.ensures in
    let symbol = c.in_ok-symbol.ensures in
    let priority = c.in_ok-priority.priority in
    let read = c.in_ok-priority.ensures in
    let to : ℕ = priority.end + 1 in
    rw (reading_is c.map.result (record { task = c.in_ok-task.task; priority = priority.part }) to (max priority.stop
    to) (search rules) (search rules) (search rules))
    (only_behind _ (token_read (optional_read (is_word w.PRIO) (named c.args.tokens.now c.args.from c.args.least_stop
    c.requires.from few c.requires.least_stop.0 c.requires.least_stop.1 word.stands word.within c.in_ok-task.task
    task.stands task.within) (refl, tt) (omega arith) (took_as (omega arith) read) (refl, tt) (omega arith)
    (omega arith)) refl symbol.stands symbol.within) refl (omega (arith, read.bounds))
    (priority.end, word.stands, task.stands, read.spells, symbol.stands, refl))
