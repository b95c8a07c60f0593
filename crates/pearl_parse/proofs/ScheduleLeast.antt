-- Expressions behind words and periods: on which tokens they depend, and how far a period's reader comes.
use Rattle.std.proofs.Common.{ℕ, ◌<◌, ◌≤◌, ◌^◌, List, length, Some, subst, arith}
use Rattle.pearl_tree.specs.declared.expression.Expr.{Expr}
use Rattle.pearl_tree.specs.declared.statement.PeriodEnd.TheVariants.{Until, During}
use Rattle.pearl_tree.specs.declared.token.What.TheVariants as what
use Rattle.pearl_tree.specs.declared.token.Token.{Token}
use Rattle.pearl_tree.specs.Standing.{Spelling}
use Rattle.pearl_tree.specs.Statements.{SpellsAfter, SpellsPeriodEnd, SpellsPeriod}
use Rattle.pearl_tree.specs.declared.word_code.TheConstants as w
use Rattle.pearl_parse_expr.specs.declared.reading.Halt.{Halt}
use Rattle.pearl_parse_expr.specs.declared.reading.Halt.TheVariants.{Refused, NoMemory}
use Rattle.pearl_parse_expr.specs.Stops.{IsLongest, extends_expression}
use Rattle.pearl_parse_expr.specs.Least.{ReachesIn}
use Rattle.pearl_parse_expr.proofs.Offered.{IsLocal, placed, shorter}
use Rattle.pearl_parse_decl.proofs.Offered.{local_of, maybe_keeps, settled}
use Rattle.pearl_grammar.specs.Reached.{GoesBehind, HaltsBehind, IsStopped}
use Rattle.pearl_grammar.proofs.Offered.{Ends, Next, Fills, ends_fill, State, first, past_part}
use Rattle.pearl_parse.specs.Schedules.{SpellsOptionalEnd, SpellsLongPeriod}
use Rattle.pearl_parse.proofs.LocalStatements.{after_keeps, period_end_keeps}
use Rattle.pearl_parse.proofs.Comes.{Maybe, fills_maybe}
use Rattle.pearl_parse.proofs.ScheduleMade.{After, period_made}
use Rattle.pearl_parse.proofs.States.{told_as, halts_behind_as, some_reaches}

-- ---- the end of a period

module _ (tokens : List Token) (from : ℕ) where
  pub until_reaches : (stop : ℕ) → from ≤ stop → ReachesIn 8 (After w.UNTIL) tokens from stop →
      ReachesIn 8 (Maybe SpellsPeriodEnd) tokens from stop
  until_reaches stop near r =
      let at = placed r.others from (what.Word w.UNTIL) r.spelled.0 in
      record {
        others = r.others;
        alike = r.alike;
        long = r.long;
        short = r.short;
        lawful = r.lawful;
        part =
            Some (Until r.part at.0);
        spelled = (at.1, r.spelled);
      }

  pub during_reaches : (stop : ℕ) → from ≤ stop → ReachesIn 8 (After w.DURING) tokens from stop →
      ReachesIn 8 (Maybe SpellsPeriodEnd) tokens from stop
  during_reaches stop near r =
      let at = placed r.others from (what.Word w.DURING) r.spelled.0 in
      record {
        others = r.others;
        alike = r.alike;
        long = r.long;
        short = r.short;
        lawful = r.lawful;
        part =
            Some (During r.part at.0);
        spelled = (at.1, r.spelled);
      }

-- ---- what the parts depend on

pub after_is_local : (word : ℕ) → IsLocal (After word)
after_is_local word = local_of 2 (After word) (λ tokens others k alike. after_keeps tokens others k alike word)

pub maybe_end_is_local : IsLocal (Maybe SpellsPeriodEnd)
maybe_end_is_local = local_of 0 (Maybe SpellsPeriodEnd) (λ tokens others k alike.
    maybe_keeps tokens others k alike 2 SpellsPeriodEnd (period_end_keeps tokens others k alike))

-- ---- how far a period's reader comes

module _ (tokens : List Token) (from : ℕ) where
  pub period_stopped : (least_stop end stop : ℕ) (halt : Halt) →
      IsLongest (λ tokens. SpellsAfter tokens w.ALL) extends_expression tokens from end stop → from ≤ end →
      least_stop ≤ stop →
      IsStopped SpellsOptionalEnd tokens end stop halt → IsStopped SpellsLongPeriod tokens from least_stop halt
  period_stopped least_stop end stop NoMemory longest ahead behind h = tt
  period_stopped least_stop end stop (Refused k) longest ahead behind h = (
    λ others agree x to read.
        let same = settled extends_expression others end read.0 (longest others (shorter tokens others stop k h.2 agree)
        x.duration read.0 read.2) read.3 in
        h.0 others agree x.end to (subst (λ m. SpellsOptionalEnd others m x.end to) same read.4),
    omega (arith, h.1, ahead),
    omega (arith, h.2, behind),
    h.3,
  )

pub end_fills : Fills 0 (Next (Maybe SpellsPeriodEnd) Ends)
end_fills = fills_maybe 0 Ends ends_fill SpellsPeriodEnd

module _ (tokens : List Token) (from low : ℕ) (inside : from ≤ length tokens) (few : length tokens < 2 ^ 55) where
  pub period_first : State 16 SpellsPeriod tokens from low (Next (After w.ALL) (Next (Maybe SpellsPeriodEnd) Ends)) from
      low
  period_first = first 16 SpellsPeriod tokens from low (Next (After w.ALL) (Next (Maybe SpellsPeriodEnd) Ends)) 0 low
      period_made (omega arith) (omega arith) (omega arith) inside few

  pub period_past : (x : Expr) (end stop : ℕ) → After w.ALL tokens from x end → from ≤ end → stop ≤ length tokens →
      GoesBehind 8 (After w.ALL) tokens from low end stop →
      State 16 SpellsPeriod tokens from low (Next (Maybe SpellsPeriodEnd) Ends) end stop
  period_past = past_part 16 SpellsPeriod tokens from low 0 8 (After w.ALL) (Next (Maybe SpellsPeriodEnd) Ends)
      (after_is_local w.ALL) end_fills (omega arith) from low (omega arith) period_first

-- a part that may be missing
module _ {X : Type 0} (spells : List Token → Spelling X) (tokens : List Token) (from low : ℕ) where
  pub told_some : (end stop : ℕ) → from ≤ end → GoesBehind 16 spells tokens from low end stop →
      GoesBehind 16 (Maybe spells) tokens from low end stop
  told_some = told_as 16 16 spells (Maybe spells) tokens from from (omega arith) (some_reaches 16 spells tokens from)
      low

  pub halts_some : (halt : Halt) → HaltsBehind 16 spells tokens from low halt →
      HaltsBehind 16 (Maybe spells) tokens from low halt
  halts_some = halts_behind_as 16 16 spells (Maybe spells) tokens from from (omega arith)
      (some_reaches 16 spells tokens from) low
