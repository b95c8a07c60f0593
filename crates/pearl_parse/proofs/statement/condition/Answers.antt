-- That an expression is read between IF and THEN, or the least stop is told.
use Rattle.std.proofs.Common.{ℕ, ◌+◌, ◌<◌, ◌≤◌, ◌^◌, List, length, Ok, rules, refl, arith}
use Rattle.pearl_tree.specs.declared.expression.Expr.{Expr}
use Rattle.pearl_tree.specs.declared.token.Token.{Token}
use Rattle.pearl_tree.specs.Statements.{SpellsAfter}
use Rattle.pearl_tree.specs.declared.word_code.TheConstants as w
use Rattle.pearl_parse_expr.specs.declared.reading.Reading.{Reading}
use Rattle.pearl_parse_expr.specs.Stops.{extends_expression, is_word}
use Rattle.pearl_grammar.specs.Rules.{Rule, End, Then, word}
use Rattle.pearl_grammar.specs.Reached.{never}
use Rattle.pearl_grammar.specs.Statements as rule
use Rattle.pearl_grammar.proofs.Offered.{Facts, Walk, after, opened, token_read, part_read, part_missing, only}
use Rattle.pearl_parse.specs.Bodies.{SpellsCondition}
use Rattle.pearl_parse.specs.Reads.{ReadsBehind}
use Rattle.pearl_parse.proofs.Along.{took_as, lacks_behind, lacking, token_missing}
use Rattle.pearl_parse.proofs.statement.condition.Goals as goal

abbrev condition_rule : Rule
condition_rule = Then (rule.after w.IF) (word w.THEN End)

abbrev condition_facts : Facts condition_rule
condition_facts = (after w.IF (omega arith), (omega arith, tt))

module _ (tokens : List Token) (from : ℕ) (inside : from ≤ length tokens) (few : length tokens < 2 ^ 55) where
  begun : Walk 16 SpellsCondition tokens from 0 condition_rule condition_facts never from from
  begun = opened {rule = condition_rule} {facts = condition_facts} tt
      (λ others from to small h. (h.0.0, (h.1.0, h.1.1, h.1.2.0, h.1.2.1)))
      (λ others agree x to h. ((x, tt), (h.0, h.1, (h.2, h.3)))) inside (omega arith) (omega arith) few (omega arith)

  behind_if : {x : Reading Expr} →
      ReadsBehind 8 (λ tokens. SpellsAfter tokens w.IF) (λ tokens. SpellsAfter tokens w.IF) (λ tokens. SpellsAfter tokens w.IF)
      extends_expression tokens from (from + 1) from (Ok x) →
      Walk 16 SpellsCondition tokens from 0 (word w.THEN End) condition_facts.1 never x.end x.stop
  behind_if read = part_read begun (took_as (omega arith) read) (refl, tt) (omega arith) (omega arith) (omega arith)

pub returns-in_err-condition : goal.returns-in_err-condition
returns-in_err-condition c =
    lacking c.in_err-condition.field-0.0 c.from_residual.result c.from_residual.ensures
    (part_missing (begun c.args.tokens.now c.args.from (omega (arith, c.requires.within)) (search rules))
    (lacks_behind c.in_err-condition.ensures) (omega arith) (omega arith))

pub returns-in_err-word : goal.returns-in_err-word
returns-in_err-word c =
    token_missing c.in_err-word.field-0.0 c.from_residual-in_err-word.result c.from_residual-in_err-word.ensures
    (is_word w.THEN) (behind_if c.args.tokens.now c.args.from (omega (arith, c.requires.within)) (search rules)
    c.in_ok-condition.ensures) c.in_err-word.ensures.missing (refl, tt) (omega arith) (omega arith)

pub returns : goal.returns
returns c =
    let condition = c.in_ok-condition.condition in
    let read = c.in_ok-condition.ensures in
    let word = c.in_ok-word.ensures in
    rw c.past.ensures (only _ (token_read (behind_if c.args.tokens.now c.args.from (omega (arith, c.requires.within))
    (search rules) read) refl word.stands word.within) refl (omega (arith, read.bounds))
    (condition.end, read.spells, word.stands, refl))
