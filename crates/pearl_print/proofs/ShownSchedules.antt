-- The tokens of what schedules say, and that they are those of the schedules.
use Rattle.std.proofs.Common.{◌≡◌, ℕ, List, ◌++◌, refl}
use Rattle.pearl_tree.specs.declared.expression.Expr.{Expr}
use Rattle.pearl_tree.specs.declared.statement.PeriodEnd.{PeriodEnd}
use Rattle.pearl_tree.specs.declared.statement.PeriodEnd.TheVariants.{Until, During}
use Rattle.pearl_tree.specs.declared.statement.Period.{Period}
use Rattle.pearl_tree.specs.declared.statement.Start.{Start}
use Rattle.pearl_tree.specs.declared.statement.Start.TheVariants as start
use Rattle.pearl_tree.specs.declared.statement.Once.{Once}
use Rattle.pearl_tree.specs.declared.statement.Once.TheVariants as once
use Rattle.pearl_tree.specs.declared.token.What.{What}
use Rattle.pearl_tree.specs.ShownExpressions.{ShownExpr, shown_expr}
use Rattle.pearl_tree.specs.ShownStatements.{ShownPeriodEnd, OfUntil, OfDuring, shown_period_end, ShownPeriod, shown_period, ShownStart, OfAt, OfAfter, OfWhen, OfAll, shown_start, ShownOnce, OnceAt, OnceAfter, OnceWhen, shown_once}
use Rattle.pearl_tree.specs.declared.word_code.TheConstants as w
use Rattle.pearl_print.specs.Lists.{word, name_tokens, maybe}
use Rattle.pearl_print.specs.Schedules.{after_tokens, period_end_tokens, period_tokens, start_tokens, once_tokens}
use Rattle.pearl_print.proofs.ShownLists.{maybe_same}
use Rattle.pearl_print.proofs.ShownExpressions.{said_expr, expr_same}

abbrev pub said_after : ℕ → ShownExpr → List What
said_after code expr = word code ++ said_expr expr

pub after_same : (code : ℕ) (expr : Expr) → said_after code (shown_expr expr) ≡ after_tokens code expr
after_same code expr = λ i. word code ++ expr_same expr i

abbrev pub said_period_end : ShownPeriodEnd → List What
said_period_end (OfUntil time place) = said_after w.UNTIL time
said_period_end (OfDuring duration place) = said_after w.DURING duration

period_end_same : (end : PeriodEnd) → said_period_end (shown_period_end end) ≡ period_end_tokens end
period_end_same (Until time place) = after_same w.UNTIL time
period_end_same (During duration place) = after_same w.DURING duration

abbrev pub said_period : ShownPeriod → List What
said_period period = said_after w.ALL period.duration ++ maybe said_period_end period.end

period_same : (period : Period) → said_period (shown_period period) ≡ period_tokens period
period_same period =
    λ i. after_same w.ALL period.duration i ++
    maybe_same shown_period_end said_period_end period_end_tokens period_end_same period.end i

abbrev pub said_start : ShownStart → List What
said_start (OfAt time period place) = said_after w.AT time ++ maybe said_period period
said_start (OfAfter duration period place) = said_after w.AFTER duration ++ maybe said_period period
said_start (OfWhen interrupt after period place) =
    word w.WHEN ++ name_tokens interrupt ++ maybe (said_after w.AFTER) after ++ maybe said_period period
said_start (OfAll period) = said_period period

pub start_same : (start : Start) → said_start (shown_start start) ≡ start_tokens start
start_same (start.At time period place) =
    λ i. after_same w.AT time i ++ maybe_same shown_period said_period period_tokens period_same period i
start_same (start.After duration period place) =
    λ i. after_same w.AFTER duration i ++ maybe_same shown_period said_period period_tokens period_same period i
start_same (start.When interrupt after period place) =
    λ i. word w.WHEN ++ name_tokens interrupt ++
    maybe_same shown_expr (said_after w.AFTER) (after_tokens w.AFTER) (after_same w.AFTER) after i ++
    maybe_same shown_period said_period period_tokens period_same period i
start_same (start.All period) = period_same period

abbrev pub said_once : ShownOnce → List What
said_once (OnceAt time place) = said_after w.AT time
said_once (OnceAfter duration place) = said_after w.AFTER duration
said_once (OnceWhen interrupt place) = word w.WHEN ++ name_tokens interrupt

pub once_same : (once : Once) → said_once (shown_once once) ≡ once_tokens once
once_same (once.At time place) = after_same w.AT time
once_same (once.After duration place) = after_same w.AFTER duration
once_same (once.When interrupt place) = refl
