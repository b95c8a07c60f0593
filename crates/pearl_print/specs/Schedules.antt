-- The tokens of schedules, and of an expression behind a word.
use Rattle.std.specs.Prelude.{ℕ, List, ◌++◌}
use Rattle.pearl_tree.specs.declared.expression.Expr.{Expr}
use Rattle.pearl_tree.specs.declared.statement.PeriodEnd.{PeriodEnd}
use Rattle.pearl_tree.specs.declared.statement.PeriodEnd.TheVariants.{Until, During}
use Rattle.pearl_tree.specs.declared.statement.Period.{Period}
use Rattle.pearl_tree.specs.declared.statement.Start.{Start}
use Rattle.pearl_tree.specs.declared.statement.Start.TheVariants as start
use Rattle.pearl_tree.specs.declared.statement.Once.{Once}
use Rattle.pearl_tree.specs.declared.statement.Once.TheVariants as once
use Rattle.pearl_tree.specs.declared.token.What.{What}
use Rattle.pearl_tree.specs.declared.word_code.TheConstants as w
use Rattle.pearl_print.specs.Lists.{word, name_tokens, maybe}
use Rattle.pearl_print.specs.Expressions.{expr_tokens}

-- word expr
abbrev pub after_tokens : ℕ → Expr → List What
after_tokens code expr = word code ++ expr_tokens expr

-- UNTIL expr | DURING expr
abbrev pub period_end_tokens : PeriodEnd → List What
period_end_tokens (Until time place) = after_tokens w.UNTIL time
period_end_tokens (During duration place) = after_tokens w.DURING duration

-- all = ALL expr [ UNTIL expr | DURING expr ]
abbrev pub period_tokens : Period → List What
period_tokens period = after_tokens w.ALL period.duration ++ maybe period_end_tokens period.end

-- start = AT expr [ all ] | AFTER expr [ all ] | WHEN id [ AFTER expr ] [ all ] | all
abbrev pub start_tokens : Start → List What
start_tokens (start.At time period place) = after_tokens w.AT time ++ maybe period_tokens period
start_tokens (start.After duration period place) = after_tokens w.AFTER duration ++ maybe period_tokens period
start_tokens (start.When interrupt after period place) =
    word w.WHEN ++ name_tokens interrupt ++ maybe (after_tokens w.AFTER) after ++ maybe period_tokens period
start_tokens (start.All period) = period_tokens period

-- once = AT expr | AFTER expr | WHEN id
abbrev pub once_tokens : Once → List What
once_tokens (once.At time place) = after_tokens w.AT time
once_tokens (once.After duration place) = after_tokens w.AFTER duration
once_tokens (once.When interrupt place) = word w.WHEN ++ name_tokens interrupt
