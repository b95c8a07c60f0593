-- Where the readers of statements that may begin with a time stand: behind the words and parts that were read.
use Rattle.std.proofs.Common.{◌≡◌, ℕ, ◌+◌, ◌*◌, ◌<◌, ◌≤◌, ◌^◌, max, Bool, true, false, List, Option, length, Some, Result}
use Rattle.std.proofs.Common.{Ok, Err, refl, sym, ap, subst, ◌∙◌, arith}
use Rattle.pearl_tree.specs.declared.expression.Expr.{Expr}
use Rattle.pearl_tree.specs.declared.statement.Period.{Period}
use Rattle.pearl_tree.specs.declared.token.What.TheVariants as what
use Rattle.pearl_tree.specs.declared.token.Token.{Token}
use Rattle.pearl_tree.specs.Standing.{Spelling, what_at, HasWord, SpellsMaybe}
use Rattle.pearl_tree.specs.Statements.{SpellsAfter, SpellsPeriod, SpellsStmt}
use Rattle.pearl_tree.specs.declared.word_code.TheConstants as w
use Rattle.pearl_tree.proofs.Offered.{group_of}
use Rattle.pearl_parse_expr.specs.declared.reading.Halt.{Halt}
use Rattle.pearl_parse_expr.specs.declared.reading.Reading.{Reading}
use Rattle.pearl_parse_expr.specs.Stops.{extends_expression, is_word}
use Rattle.pearl_grammar.specs.Rules.{Rule, Then, Or, word}
use Rattle.pearl_grammar.specs.Declarations.{id, close}
use Rattle.pearl_grammar.specs.Statements.{activation_rule, begun_rule, station}
use Rattle.pearl_grammar.specs.Reached.{never}
use Rattle.pearl_grammar.proofs.Offered.{Facts, AllAnswer, least_of, firsts_of, Walk, Lacks, opened, token_read}
use Rattle.pearl_grammar.proofs.Offered.{part_read, part_read_as, first_chosen, second_chosen, part_missing, continue_facts}
use Rattle.pearl_grammar.proofs.Offered.{part_missing_as}
use Rattle.pearl_parse.specs.Schedules.{time_word, SpellsLongPeriod, SpellsOptionalPeriod}
use Rattle.pearl_parse.specs.Reads.{ReadsBehind}
use Rattle.pearl_parse.proofs.Along.{took_as, lacks_behind}
use Rattle.pearl_parse.proofs.ByFirst.{of_kind}
use Rattle.pearl_parse.proofs.Scheduled.{on_time, time_rule, late_rule, when_rule, periodic_rule, scheduled_rule}
use Rattle.pearl_parse.proofs.Scheduled.{activation_facts, begun_facts, on_time_facts, time_facts, when_facts}
use Rattle.pearl_parse.proofs.Scheduled.{periodic_facts, scheduled_facts, scheduled, scheduled_made, long_period}
use Rattle.pearl_parse.proofs.Scheduled.{optional_period}

-- what is known of an expression behind a word, at that word
read_at : (tokens : List Token) (from : ℕ) (later : Bool) (code : ℕ) → code ≡ time_word later → (r : Result (Reading Expr) Halt) →
    ReadsBehind 8 (λ tokens. SpellsAfter tokens code) (λ tokens. SpellsAfter tokens code) (λ tokens. SpellsAfter tokens code)
    extends_expression tokens from (from + 1) from r →
    ReadsBehind 8 (λ tokens. SpellsAfter tokens (time_word later)) (λ tokens. SpellsAfter tokens (time_word later))
    (λ tokens. SpellsAfter tokens (time_word later)) extends_expression tokens from (from + 1) from r
read_at tokens from later code is r read =
    subst (λ code. ReadsBehind 8 (λ tokens. SpellsAfter tokens code) (λ tokens. SpellsAfter tokens code)
    (λ tokens. SpellsAfter tokens code) extends_expression tokens from (from + 1) from r) is read

module _ (tokens : List Token) (depth from : ℕ) (inside : from < length tokens) (few : length tokens < 2 ^ 55) where
  abbrev pub At : (rule : Rule) → Facts rule → ℕ → ℕ → Type 0
  At rule facts = Walk 24 (λ tokens. SpellsStmt tokens depth) tokens from 0 rule facts never

  -- ---- by the first word

  any : (code : ℕ) → HasWord tokens from code → group_of (what.Word code) ≡ Some 9 → At scheduled_rule scheduled_facts from from
  any code here kind = opened {rule = scheduled_rule} {facts = scheduled_facts}
      ((tt, (tt, tt)), ((tt, (tt, tt)), ((tt, (tt, tt)), (tt, (tt, tt))))) (scheduled_made depth)
      (λ others agree a to h. scheduled others depth from a to
      (of_kind others depth from 9 (what.Word code) (sym (agree from (omega arith)) ∙ here) kind a to h) h)
      (omega arith) (omega arith) (omega arith) few (omega arith)

  no_at : (code : ℕ) → HasWord tokens from code → group_of (what.Word code) ≡ Some 9 →
      is_word w.AT (Some (what.Word code)) ≡ false →
      At (Or (time_rule true) (Or when_rule (Or periodic_rule (Or activation_rule (word w.CONTINUE station)))))
      scheduled_facts.1 from from
  no_at code here kind other = second_chosen {new = from} false (is_word w.AT) (any code here kind) (omega arith)
      (ap (is_word w.AT) here ∙ other) (refl, tt) (omega arith)

  no_time : (code : ℕ) → HasWord tokens from code → group_of (what.Word code) ≡ Some 9 →
      is_word w.AT (Some (what.Word code)) ≡ false → is_word w.AFTER (Some (what.Word code)) ≡ false →
      At (Or when_rule (Or periodic_rule (Or activation_rule (word w.CONTINUE station)))) scheduled_facts.1.1 from from
  no_time code here kind at after = second_chosen {new = from} false (is_word w.AFTER) (no_at code here kind at)
      (omega arith) (ap (is_word w.AFTER) here ∙ after) (refl, tt) (omega arith)

  no_interrupt : (code : ℕ) → HasWord tokens from code → group_of (what.Word code) ≡ Some 9 →
      is_word w.AT (Some (what.Word code)) ≡ false → is_word w.AFTER (Some (what.Word code)) ≡ false →
      is_word w.WHEN (Some (what.Word code)) ≡ false →
      At (Or periodic_rule (Or activation_rule (word w.CONTINUE station))) scheduled_facts.1.1.1 from from
  no_interrupt code here kind at after when = second_chosen {new = from} false (is_word w.WHEN)
      (no_time code here kind at after) (omega arith) (ap (is_word w.WHEN) here ∙ when) (refl, tt) (omega arith)

  no_period : (code : ℕ) → HasWord tokens from code → group_of (what.Word code) ≡ Some 9 →
      is_word w.AT (Some (what.Word code)) ≡ false → is_word w.AFTER (Some (what.Word code)) ≡ false →
      is_word w.WHEN (Some (what.Word code)) ≡ false → is_word w.ALL (Some (what.Word code)) ≡ false →
      At (Or activation_rule (word w.CONTINUE station)) scheduled_facts.1.1.1.1 from from
  no_period code here kind at after when all = second_chosen {new = from} false (is_word w.ALL)
      (no_interrupt code here kind at after when) (omega arith) (ap (is_word w.ALL) here ∙ all) (refl, tt) (omega arith)

  -- AT or AFTER
  pub time_begun : (later : Bool) → HasWord tokens from (time_word later) → At (time_rule later) (time_facts later) from from
  time_begun false here = first_chosen {new = from} true (is_word w.AT) (any w.AT here refl) (omega arith)
      (ap (is_word w.AT) here) (refl, (refl, (refl, (refl, (refl, tt))))) (omega arith)
  time_begun true here = first_chosen {new = from} true (is_word w.AFTER) (no_at w.AFTER here refl refl) (omega arith)
      (ap (is_word w.AFTER) here) (refl, (refl, (refl, (refl, tt)))) (omega arith)

  pub interrupt_begun : HasWord tokens from w.WHEN → At (Then id (on_time late_rule)) when_facts.1 (from + 1) from
  interrupt_begun here = token_read (first_chosen {new = from} true (is_word w.WHEN) (no_time w.WHEN here refl refl refl)
      (omega arith) (ap (is_word w.WHEN) here) (refl, (refl, (refl, tt))) (omega arith)) refl here inside

  pub period_begun : HasWord tokens from w.ALL → At periodic_rule periodic_facts from from
  period_begun here = first_chosen {new = from} true (is_word w.ALL) (no_interrupt w.ALL here refl refl refl refl)
      (omega arith) (ap (is_word w.ALL) here) (refl, (refl, tt)) (omega arith)

  pub activation_begun : HasWord tokens from w.ACTIVATE → At activation_rule activation_facts from from
  activation_begun here = first_chosen {new = from} true (is_word w.ACTIVATE)
      (no_period w.ACTIVATE here refl refl refl refl refl) (omega arith) (ap (is_word w.ACTIVATE) here) (refl, tt)
      (omega arith)

  pub continuation_begun : HasWord tokens from w.CONTINUE → At station continue_facts.1.1 (from + 1) from
  continuation_begun here = token_read (second_chosen {new = from} false (is_word w.ACTIVATE)
      (no_period w.CONTINUE here refl refl refl refl refl) (omega arith) (ap (is_word w.ACTIVATE) here) (refl, tt)
      (omega arith)) refl here inside

  -- ---- ( AT | AFTER ) expr

  module _ (later : Bool) (code : ℕ) (is : code ≡ time_word later) (here : HasWord tokens from (time_word later)) where
    pub past_time : {x : Reading Expr} → ReadsBehind 8 (λ tokens. SpellsAfter tokens code) (λ tokens. SpellsAfter tokens code)
        (λ tokens. SpellsAfter tokens code) extends_expression tokens from (from + 1) from (Ok x) →
        At (on_time begun_rule) (time_facts later).1 x.end x.stop
    past_time {x} read = part_read (time_begun later here) (took_as (omega arith) (read_at tokens from later code is (Ok x) read))
        (refl, (refl, (refl, (refl, tt)))) (omega arith) (omega arith) (omega arith)

    pub time_missing : (halt : Halt) → ReadsBehind 8 (λ tokens. SpellsAfter tokens code) (λ tokens. SpellsAfter tokens code)
        (λ tokens. SpellsAfter tokens code) extends_expression tokens from (from + 1) from (Err halt) →
        Lacks 24 (λ tokens. SpellsStmt tokens depth) tokens from 0 halt
    time_missing halt read = part_missing (time_begun later here)
        (lacks_behind (read_at tokens from later code is (Err halt) read)) (omega arith) (omega arith)

  -- ---- behind a time or an interrupt

  module _ {begin : Rule} {facts : Facts begin} {at stop new : ℕ} (a : At (on_time begin) (on_time_facts begin facts) at stop)
      (is : new ≡ max stop at) where
    pub continued : {next : ℕ} → next ≡ at + 1 → HasWord tokens at w.CONTINUE → at < length tokens →
        AllAnswer false (is_word w.CONTINUE) (firsts_of (Or (word w.RESUME close) begin) (on_time_facts begin facts).1) →
        1 ≤ least_of (Or (word w.RESUME close) begin) (on_time_facts begin facts).1 → At station continue_facts.1.1 next new
    continued follows here within none solid = token_read (first_chosen true (is_word w.CONTINUE) a is
        (ap (is_word w.CONTINUE) here) none solid) follows here within

    module _ (no_continue : is_word w.CONTINUE (what_at tokens at) ≡ false) where
      uncontinued : At (Or (word w.RESUME close) begin) (on_time_facts begin facts).1 at new
      uncontinued = second_chosen false (is_word w.CONTINUE) a is no_continue (refl, tt) (omega arith)

      pub resumed : {next : ℕ} → next ≡ at + 1 → HasWord tokens at w.RESUME → at < length tokens →
          AllAnswer false (is_word w.RESUME) (firsts_of begin facts) → 1 ≤ least_of begin facts →
          At close (on_time_facts begin facts).1.0.1 next new
      resumed follows here within none solid = token_read (first_chosen {new = new} true (is_word w.RESUME) uncontinued
          (omega (arith, is)) (ap (is_word w.RESUME) here) none solid) follows here within

      pub begins : is_word w.RESUME (what_at tokens at) ≡ false → At begin facts at new
      begins no_resume = second_chosen {new = new} false (is_word w.RESUME) uncontinued (omega (arith, is)) no_resume (refl, tt)
          (omega arith)

-- ---- a period

module _ {X : Type 0} {room : ℕ} {whole : List Token → Spelling X} {tokens : List Token} {from low at stop : ℕ} where
  -- one that may be missing
  module _ (a : Walk room whole tokens from low begun_rule begun_facts never at stop) (fits : 19 + 8 * from ≤ room + 8 * at)
      (few : 3 ≤ room) where
    pub past_maybe_period : {x : Reading (Option Period)} →
        ReadsBehind 16 (λ tokens. SpellsMaybe (SpellsPeriod tokens)) SpellsOptionalPeriod
        (λ tokens. SpellsMaybe (SpellsPeriod tokens)) extends_expression tokens at at stop (Ok x) →
        Walk room whole tokens from low activation_rule activation_facts never x.end x.stop
    past_maybe_period {x} read = part_read_as a (took_as (omega arith) read)
        (λ others x m to h g. optional_period others x at m to h g) (refl, tt) (omega arith) (omega (arith, fits))
        (omega (arith, few))

    pub maybe_period_missing : (halt : Halt) →
        ReadsBehind 16 (λ tokens. SpellsMaybe (SpellsPeriod tokens)) SpellsOptionalPeriod
        (λ tokens. SpellsMaybe (SpellsPeriod tokens)) extends_expression tokens at at stop (Err halt) →
        Lacks room whole tokens from low halt
    maybe_period_missing halt read = part_missing_as SpellsOptionalPeriod 16 a
        (λ others x m to h g. let part = optional_period others x at m to h g in (part.0, m, part.1)) read.refused read.least
        (omega (arith, fits)) (omega (arith, few))

  -- one that stands there
  module _ (a : Walk room whole tokens from low periodic_rule periodic_facts never at stop) (fits : 19 + 8 * from ≤ room + 8 * at)
      (few : 3 ≤ room) where
    pub past_period : {x : Reading Period} →
        ReadsBehind 16 SpellsPeriod SpellsLongPeriod SpellsPeriod extends_expression tokens at (at + 1) stop (Ok x) →
        Walk room whole tokens from low activation_rule activation_facts never x.end x.stop
    past_period {x} read = part_read_as a (took_as (omega arith) read) (λ others x m to h g. long_period others x at m to h g)
        (refl, tt) (omega arith) (omega (arith, fits)) (omega (arith, few))

    pub period_missing : (halt : Halt) →
        ReadsBehind 16 SpellsPeriod SpellsLongPeriod SpellsPeriod extends_expression tokens at (at + 1) stop (Err halt) →
        Lacks room whole tokens from low halt
    period_missing halt read = part_missing_as SpellsLongPeriod 16 a
        (λ others x m to h g. let part = long_period others x at m to h g in (part.0, m, part.1)) read.refused read.least
        (omega (arith, fits)) (omega (arith, few))
