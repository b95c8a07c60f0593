-- What ACTIVATE, CONTINUE and RESUME do.
use Rattle.std.specs.Prelude.{ℕ, pos, ℤ, int_le, Bool, true, ◌&&◌, if◌then◌else◌, unsigned_abs, Option, Some, None, option_map}
use Rattle.pearl_value.specs.declared.cell.Cell.{Cell}
use Rattle.pearl_value.specs.declared.cell.Cell.TheVariants.{Clock, Span}
use Rattle.pearl_value.specs.declared.trap.Trap.TheVariants.{Range}
use Rattle.pearl_rules.specs.declared.action.Action.{Action}
use Rattle.pearl_rules.specs.declared.action.Action.TheVariants.{Activate, Continue, Resume}
use Rattle.pearl_rules.specs.declared.action.Start.{Start}
use Rattle.pearl_rules.specs.declared.action.Start.TheVariants.{Free, At, After, When, WhenAfter}
use Rattle.pearl_rules.specs.declared.action.Repeat.{Repeat}
use Rattle.pearl_rules.specs.declared.action.Repeat.TheVariants.{Once, All, Until, During}
use Rattle.pearl_program.specs.PlainExpressions.{PlainExpr}
use Rattle.pearl_program.specs.PlainStatements.{PlainPeriodEnd, OfUntil, OfDuring, PlainPeriod, PlainStart, OfAt, OfAfter, OfWhen, OfWhenAfter, PlainOnce, OnceAt, OnceAfter, OnceWhen}
use Rattle.pearl_meaning.specs.Evaluation.{Does, gives, fails, bind, next, ask}
use Rattle.pearl_meaning.specs.Setting.{Setting}
use Rattle.pearl_meaning.specs.Variables.{number_of}
use Rattle.pearl_meaning.specs.Values.{eval}
use Rattle.pearl_meaning.specs.Loops.{Flow, Normal}

-- an action after which the next statement follows
abbrev pub acts : Action → Does Flow
acts action = next (ask action) (gives Normal)

-- the milliseconds of a CLOCK and of a DURATION
abbrev pub moment_of : Cell → ℕ
moment_of (Clock time) = time
moment_of x = 0

abbrev pub lapse_of : Cell → ℤ
lapse_of (Span time) = time
lapse_of x = pos 0

module _ (setting : Setting) where
  abbrev pub moment : PlainExpr → Does ℕ
  moment e = bind (eval setting e) (λ x. gives (moment_of x))

  abbrev pub lapse : PlainExpr → Does ℤ
  lapse e = bind (eval setting e) (λ x. gives (lapse_of x))

  -- the values of a schedule in the order in which they are written: the start, ALL, UNTIL or DURING, PRIO
  abbrev pub start_of : Option PlainStart → Does Start
  start_of None = gives Free
  start_of (Some (OfAt time)) = bind (moment time) (λ t. gives (At t))
  start_of (Some (OfAfter duration)) = bind (lapse duration) (λ d. gives (After d))
  start_of (Some (OfWhen interrupt)) = gives (When interrupt)
  start_of (Some (OfWhenAfter interrupt duration)) = bind (lapse duration) (λ d. gives (WhenAfter interrupt d))

  abbrev pub once_of : Option PlainOnce → Does Start
  once_of None = gives Free
  once_of (Some (OnceAt time)) = bind (moment time) (λ t. gives (At t))
  once_of (Some (OnceAfter duration)) = bind (lapse duration) (λ d. gives (After d))
  once_of (Some (OnceWhen interrupt)) = gives (When interrupt)

  abbrev pub with_end : Option PlainPeriodEnd → ℤ → Does Repeat
  with_end None period = gives (All period)
  with_end (Some (OfUntil time)) period = bind (moment time) (λ t. gives (Until period t))
  with_end (Some (OfDuring duration)) period = bind (lapse duration) (λ d. gives (During period d))

  abbrev pub repeat_of : Option PlainPeriod → Does Repeat
  repeat_of None = gives Once
  repeat_of (Some period) = bind (lapse period.duration) (λ p. with_end period.end p)

  abbrev pub priority_of : Option PlainExpr → Does (Option ℤ)
  priority_of None = gives None
  priority_of (Some e) = bind (eval setting e) (λ x. gives (Some (number_of x)))

-- no AFTER or DURING is negative, no ALL is below 1 millisecond, and a PRIO is from 1 to 255
abbrev pub is_start : Start → Bool
is_start (After time) = int_le (pos 0) time
is_start (WhenAfter interrupt time) = int_le (pos 0) time
is_start when = true

abbrev pub is_repeat : Repeat → Bool
is_repeat Once = true
is_repeat (All period) = int_le (pos 1) period
is_repeat (Until period time) = int_le (pos 1) period
is_repeat (During period time) = int_le (pos 1) period && int_le (pos 0) time

abbrev pub is_priority : Option ℤ → Bool
is_priority None = true
is_priority (Some priority) = int_le (pos 1) priority && int_le priority (pos 255)

-- where a value is out of its range, Range is trapped in place of the action
abbrev pub acts_if : Bool → Action → Does Flow
acts_if lawful action = if lawful then acts action else fails Range

module _ (setting : Setting) where
  abbrev pub activates : ℕ → Option PlainStart → Option PlainPeriod → Option PlainExpr → Does Flow
  activates task start period priority =
      bind (start_of setting start) (λ when. bind (repeat_of setting period) (λ how. bind (priority_of setting priority) (λ urgent.
      acts_if (is_start when && is_repeat how && is_priority urgent) (Activate task when how (option_map unsigned_abs urgent)))))

  abbrev pub continues : ℕ → Option PlainOnce → Does Flow
  continues task once = bind (once_of setting once) (λ when. acts_if (is_start when) (Continue task when))

  abbrev pub resumes : PlainOnce → Does Flow
  resumes once = bind (once_of setting (Some once)) (λ when. acts_if (is_start when) (Resume when))
