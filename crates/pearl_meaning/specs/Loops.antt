-- How REPEAT goes: its counter, its turns, and its end.
use Rattle.std.specs.Prelude.{ℕ, zero, suc, ◌+◌, pos, ℤ, ◌+ℤ◌, int_lt, ◌==◌, not, Bool, true, false, if◌then◌else◌, length, Option, Some, None, Result, Ok, Err, is_some}
use Rattle.std.specs.Ordering.{int_eq}
use Rattle.pearl_value.specs.declared.cell.Cell.{Cell}
use Rattle.pearl_value.specs.declared.cell.Cell.TheVariants.{Fixed, Bits}
use Rattle.pearl_value.specs.declared.trap.Trap.{Trap}
use Rattle.pearl_value.specs.declared.trap.Trap.TheVariants.{Range}
use Rattle.pearl_value.specs.Conversions.{fixed_of}
use Rattle.pearl_rules.specs.declared.action.Action.TheVariants as action
use Rattle.pearl_program.specs.PlainExpressions.{PlainExpr}
use Rattle.pearl_program.specs.PlainStatements.{PlainCounter}
use Rattle.pearl_meaning.specs.Evaluation.{Does, gives, fails, bind, next, ask, stop, own_cell, put_cell}
use Rattle.pearl_meaning.specs.Setting.{Setting, cell_kind}
use Rattle.pearl_meaning.specs.Variables.{number_of}
use Rattle.pearl_meaning.specs.Values.{convert, eval}

-- how a statement ends: the next one follows, the innermost loop is left, or the procedure is left, with its result if it has one
pub data Flow : Type 0 where
  Normal : Flow
  Exit : Flow
  Return : (result : Option Cell) → Flow

-- a BIT that isn't '0'B
abbrev pub holds : Cell → Bool
holds (Bits len value) = not (value == 0)
holds x = false

-- THE COUNTER: the control variable, the step and the limit are own variables, in the counter's cell and the two behind it

module _ (setting : Setting) where
  -- FROM, BY or TO, which is 1 where it isn't written, converted to the kind of the control variable
  abbrev pub counted : PlainCounter → Option PlainExpr → Does Cell
  counted counter None = convert (cell_kind setting counter.cell) (Fixed 31 (pos 1))
  counted counter (Some e) = bind (eval setting e) (λ x. convert (cell_kind setting counter.cell) x)

  -- the limit is there only where TO is written
  abbrev pub limited : PlainCounter → Option PlainExpr → Does (Unit {0})
  limited counter None = gives tt
  limited counter (Some e) = bind (counted counter (Some e)) (λ limit. put_cell (counter.cell + 2) limit)

  -- FROM, then BY, which may not be 0, then TO: each is converted before the next is evaluated
  abbrev pub begins : Option PlainCounter → Does (Unit {0})
  begins None = gives tt
  begins (Some counter) =
      bind (counted counter counter.begin) (λ control. next (put_cell counter.cell control)
      (bind (counted counter counter.step) (λ step. if int_eq (number_of step) (pos 0) then fails Range
      else next (put_cell (counter.cell + 1) step) (limited counter counter.end))))

-- the control variable is past the limit in the direction of the step
abbrev pub is_past : (control step limit : ℤ) → Bool
is_past control step limit = if int_lt step (pos 0) then int_lt control limit else int_lt limit control

-- where there is TO, the loop goes on as long as the control variable isn't past it
abbrev pub is_within : PlainCounter → Option PlainExpr → Does Bool
is_within counter None = gives true
is_within counter (Some end) =
    bind (own_cell counter.cell) (λ control. bind (own_cell (counter.cell + 1)) (λ step. bind (own_cell (counter.cell + 2)) (λ limit.
    gives (not (is_past (number_of control) (number_of step) (number_of limit))))))

abbrev pub counts_on : Option PlainCounter → Does Bool
counts_on None = gives true
counts_on (Some counter) = is_within counter counter.end

-- the control variable and the step together, or Overflow where the sum is outside the control variable's kind
abbrev pub stepped : Cell → Cell → Result Cell Trap
stepped (Fixed len control) (Fixed other step) = fixed_of len (control +ℤ step)
stepped control step = Err Range

-- a sum outside ends the loop where there is TO, and else it is a trap
abbrev pub advance_to : PlainCounter → Result Cell Trap → Does Bool
advance_to counter (Ok x) = next (put_cell counter.cell x) (gives true)
advance_to counter (Err trap) = if is_some counter.end then gives false else fails trap

-- BY is added; whether the loop goes on
abbrev pub advances : Option PlainCounter → Does Bool
advances None = gives true
advances (Some counter) =
    bind (own_cell counter.cell) (λ control. bind (own_cell (counter.cell + 1)) (λ step. advance_to counter (stepped control step)))

-- THE TURNS

-- where there is WHILE, the loop goes on as long as it isn't '0'B
abbrev pub asks_while : Setting → Option PlainExpr → Does Bool
asks_while setting None = gives true
asks_while setting (Some condition) = bind (eval setting condition) (λ x. gives (holds x))

-- TO is asked first, and WHILE only where that doesn't end the loop
abbrev pub goes_on : Setting → Option PlainCounter → Option PlainExpr → Does Bool
goes_on setting counter condition = bind (counts_on counter) (λ inside. if inside then asks_while setting condition else gives false)

-- EXIT leaves the loop, and RETURN the procedure
abbrev pub after_turn : Flow → Does Flow → Does Flow
after_turn Normal on = on
after_turn Exit on = gives Normal
after_turn (Return result) on = gives (Return result)

-- a turn, and what comes behind it where the loop goes on: the action Turn, whether the loop goes on, its statements, and BY
abbrev pub turn : (more : Does Bool) (statements : Does Flow) (advance : Does Bool) (again : Does Flow) → Does Flow
turn more statements advance again =
    next (ask action.Turn) (bind more (λ going.
    if going then bind statements (λ flow. after_turn flow (bind advance (λ on. if on then again else gives Normal)))
    else gives Normal))

-- at most so many turns are begun
abbrev pub turns : ℕ → (more : Does Bool) (statements : Does Flow) (advance : Does Bool) → Does Flow
turns zero more statements advance = stop action.Turn
turns (suc n) more statements advance = turn more statements advance (turns n more statements advance)

-- each turn uses an answer, so as many as there are answers are enough
abbrev pub repeats : (more : Does Bool) (statements : Does Flow) (advance : Does Bool) → Does Flow
repeats more statements advance store rest = turns (length rest) more statements advance store rest
