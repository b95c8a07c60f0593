-- The heads of a loop as one rule, and how far their reader comes.
use Rattle.std.proofs.Common.{ℕ, ◌+◌, ◌<◌, ◌≤◌, ◌^◌, List, Option, length, Some, Ok, refl, arith}
use Rattle.pearl_tree.specs.declared.name.Name.{Name}
use Rattle.pearl_tree.specs.declared.expression.Expr.{Expr}
use Rattle.pearl_tree.specs.declared.token.Token.{Token}
use Rattle.pearl_tree.specs.Standing.{HasWord, SpellsMaybe, SpellsName}
use Rattle.pearl_tree.specs.Statements.{SpellsAfter, SpellsFor}
use Rattle.pearl_tree.specs.declared.word_code.TheConstants as w
use Rattle.pearl_parse_expr.specs.declared.reading.Halt.{Halt}
use Rattle.pearl_parse_expr.specs.declared.reading.Reading.{Reading}
use Rattle.pearl_parse_expr.specs.Stops.{extends_expression, is_name, is_word}
use Rattle.pearl_parse_expr.specs.Reads.{ReadsOnlyMaybe}
use Rattle.pearl_grammar.specs.Rules.{One, Maybe, Rule, End, Then, word}
use Rattle.pearl_grammar.specs.Statements.{after}
use Rattle.pearl_grammar.specs.Reached.{HaltsBehind, never}
use Rattle.pearl_grammar.proofs.Offered as fact
use Rattle.pearl_grammar.proofs.Offered.{Facts, Walk, Ends, Next, Makes, ends_fill, first, opened}
use Rattle.pearl_parse.specs.Stops.{IsMissing, SpellsOptional}
use Rattle.pearl_parse.specs.Bodies.{SpellsOptionalFor, SpellsHeads}
use Rattle.pearl_parse.specs.Reads.{ReadsBehind}
use Rattle.pearl_parse.proofs.Along.{took_as, took_optional, optional_read}
use Rattle.pearl_parse.proofs.Comes as comes
use Rattle.pearl_parse.proofs.Comes.{BehindWord, fills_name}
use Rattle.pearl_parse.proofs.States.{past_word, halt_token}

-- [ WHILE expr ] REPEAT, and so on to the front
abbrev pub repeat_rule : Rule
repeat_rule = word w.REPEAT End

abbrev pub while_rule : Rule
while_rule = Then (Maybe (after w.WHILE)) repeat_rule

abbrev pub to_rule : Rule
to_rule = Then (Maybe (after w.TO)) while_rule

abbrev pub by_rule : Rule
by_rule = Then (Maybe (after w.BY)) to_rule

abbrev pub from_rule : Rule
from_rule = Then (Maybe (after w.FROM)) by_rule

abbrev pub heads_rule : Rule
heads_rule = Then (Maybe (One Name SpellsFor)) from_rule

abbrev pub heads_facts : Facts heads_rule
heads_facts = (
  fact.for_name,
  (
    fact.after w.FROM (omega arith),
    (
      fact.after w.BY (omega arith),
      (fact.after w.TO (omega arith), (fact.after w.WHILE (omega arith), (omega arith, tt))),
    ),
  ),
)

-- ---- FOR and its name

for_made : Makes (comes.Maybe SpellsFor) (BehindWord w.FOR (Next SpellsName Ends))
for_made others from to small h = (Some h.1.0, (h.0, h.1.2.0, omega (arith, h.1.2.1, h.1.3)))

pub no_control : (tokens : List Token) (from : ℕ) → length tokens < 2 ^ 55 → HasWord tokens from w.FOR →
    from < length tokens → (halt : Halt) → IsMissing tokens is_name (from + 1) from halt →
    HaltsBehind 8 (comes.Maybe SpellsFor) tokens from 0 halt
no_control tokens from few here within halt h =
    halt_token 8 (comes.Maybe SpellsFor) tokens from 0 1 (Next SpellsName Ends) (fills_name 0 Ends ends_fill) (omega arith)
    is_name (from + 1) from halt
    (past_word 8 (comes.Maybe SpellsFor) tokens from 0 w.FOR (Next SpellsName Ends) from from (from + 1) (omega arith)
    (first 8 (comes.Maybe SpellsFor) tokens from 0 (BehindWord w.FOR (Next SpellsName Ends)) from from for_made (omega arith)
    (omega arith) (omega arith) (omega arith) few) here within) h

-- ---- all that were read so far

module _ (tokens : List Token) (from : ℕ) (inside : from ≤ length tokens) (few : length tokens < 2 ^ 55) where
  abbrev pub At : (rule : Rule) → Facts rule → ℕ → ℕ → Type 0
  At rule facts = Walk 16 SpellsHeads tokens from 0 rule facts never

  abbrev pub OptionalRead : ℕ → ℕ → ℕ → Reading (Option Expr) → Type 0
  OptionalRead code at stop x = ReadsBehind 8 (λ tokens. SpellsMaybe (SpellsAfter tokens code))
      (SpellsOptional (is_word code) (λ tokens. SpellsAfter tokens code)) (λ tokens. SpellsMaybe (SpellsAfter tokens code))
      extends_expression tokens at at stop (Ok x)

  pub heads_begun : At heads_rule heads_facts from from
  heads_begun = opened {rule = heads_rule} {facts = heads_facts} tt
      (λ others from to small h.
      let x = h.0 in
      let begin = h.1.2 in
      let step = begin.2 in
      let end = step.2 in
      let condition = end.2 in (
        record {
          control = x.0;
          begin = x.1.0;
          step = x.1.1.0;
          end = x.1.1.1.0;
          condition = x.1.1.1.1.0;
        },
        (
          h.1.0,
          begin.0,
          step.0,
          end.0,
          condition.0,
          h.1.1,
          begin.1,
          step.1,
          end.1,
          condition.1,
          condition.2.0,
          condition.2.1,
        ),
      ))
      (λ others agree x to h. (
        (x.control, (x.begin, (x.step, (x.end, (x.condition, tt))))),
        (h.0, h.5, (h.1, h.6, (h.2, h.7, (h.3, h.8, (h.4, h.9, (h.10, h.11)))))),
      ))
      inside (omega arith) (omega arith) few (omega arith)

  module _ (control : Reading (Option Name))
      (named : ReadsOnlyMaybe 8 (λ tokens. SpellsMaybe (SpellsFor tokens)) SpellsOptionalFor
      (λ tokens. SpellsMaybe (SpellsFor tokens)) tokens from (Ok control)) where
    pub behind_for : At from_rule heads_facts.1 control.end control.stop
    behind_for = optional_read (is_word w.FOR) heads_begun (refl, (refl, (refl, (refl, (refl, tt))))) (omega arith)
        (took_optional {new = control.stop} named (omega (arith, named.bounds)) inside)
        (refl, (refl, (refl, (refl, (refl, tt))))) (omega arith) (omega arith)

    module _ (begin : Reading (Option Expr)) (beginning : OptionalRead w.FROM control.end control.stop begin) where
      pub behind_from : At by_rule heads_facts.1.1 begin.end begin.stop
      behind_from = optional_read (is_word w.FROM) behind_for (refl, (refl, (refl, (refl, tt)))) (omega arith)
          (took_as (omega arith) beginning) (refl, (refl, (refl, (refl, tt)))) (omega (arith, behind_for.level.near))
          (omega arith)

      module _ (step : Reading (Option Expr)) (stepping : OptionalRead w.BY begin.end begin.stop step) where
        pub behind_by : At to_rule heads_facts.1.1.1 step.end step.stop
        behind_by = optional_read (is_word w.BY) behind_from (refl, (refl, (refl, tt))) (omega arith)
            (took_as (omega arith) stepping) (refl, (refl, (refl, tt))) (omega (arith, behind_from.level.near)) (omega arith)

        module _ (end : Reading (Option Expr)) (ending : OptionalRead w.TO step.end step.stop end) where
          pub behind_to : At while_rule heads_facts.1.1.1.1 end.end end.stop
          behind_to = optional_read (is_word w.TO) behind_by (refl, (refl, tt)) (omega arith)
              (took_as (omega arith) ending) (refl, (refl, tt)) (omega (arith, behind_by.level.near)) (omega arith)

          module _ (condition : Reading (Option Expr)) (holding : OptionalRead w.WHILE end.end end.stop condition) where
            pub behind_while : At repeat_rule heads_facts.1.1.1.1.1 condition.end condition.stop
            behind_while = optional_read (is_word w.WHILE) behind_to (refl, tt) (omega arith)
                (took_as (omega arith) holding) (refl, tt) (omega (arith, behind_to.level.near)) (omega arith)
