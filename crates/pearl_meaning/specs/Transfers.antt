-- What PUT, GET, SEND and TAKE do, and assignment.
use Rattle.std.specs.Prelude.{ℕ, ◌+◌, List, [], ◌∷◌, length, map, Option, Some, None, option_map, option_and_then}
use Rattle.pearl_value.specs.declared.kind.Kind.{Kind}
use Rattle.pearl_value.specs.declared.cell.Cell.{Cell}
use Rattle.pearl_value.specs.declared.trap.Trap.TheVariants.{Format}
use Rattle.pearl_value.specs.Blanks.{blank_of}
use Rattle.pearl_format.specs.Texts.{text_of}
use Rattle.pearl_rules.specs.declared.action.Action.TheVariants as action
use Rattle.pearl_rules.specs.declared.action.Answer.{Answer}
use Rattle.pearl_rules.specs.declared.action.Answer.TheVariants.{Nothing, One, Many}
use Rattle.pearl_program.specs.PlainExpressions.{PlainExpr, PlainVariable, OfVariable, PlainExprs}
use Rattle.pearl_meaning.specs.Evaluation.{Does, gives, fails, bind, next, ask, ask_value, given, own_cell, put_cell, put_cells}
use Rattle.pearl_meaning.specs.Setting.{Setting, variable_kind, sent_kind, items_of}
use Rattle.pearl_meaning.specs.Variables.{elements_before, offset_of, reference, write_reference}
use Rattle.pearl_meaning.specs.Values.{convert, eval, taken, eval_all}
use Rattle.pearl_meaning.specs.Loops.{Flow, Normal}
use Rattle.pearl_meaning.specs.Schedules.{acts}

-- the text goes to the device; where a value doesn't fit its item, Format is trapped and nothing is written
abbrev pub puts_text : ℕ → Option (List ℕ) → Does Flow
puts_text device None = fails Format
puts_text device (Some text) = acts (action.Put device (record { items = text }))

-- the values of a GET's answer
abbrev pub heard_values : Answer → List Cell
heard_values Nothing = []
heard_values (One x) = []
heard_values (Many xs) = xs.items

module _ (setting : Setting) where
  -- a value is converted to the target's kind and written where the reference leads
  abbrev pub delivers : PlainVariable → (to x : Cell) → Does Flow
  delivers target to x = bind (convert (variable_kind setting target) x) (λ y. next (write_reference to y) (gives Normal))

  -- the target is taken, then the value is evaluated, and then it is written
  abbrev pub assigns : PlainVariable → PlainExpr → Does Flow
  assigns target e = bind (taken setting target) (λ to. bind (eval setting e) (λ x. delivers target to x))

  -- all values, from left to right, and then their text
  abbrev pub puts : PlainExprs → (device format : ℕ) → Does Flow
  puts values device format = bind (eval_all setting values) (λ xs. puts_text device (text_of (items_of setting format) xs))

  abbrev pub sends : PlainExpr → ℕ → Does Flow
  sends e device = bind (eval setting e) (λ x. bind (convert (sent_kind setting device) x) (λ y. acts (action.Send device y)))

  -- the target is taken, then the action is done, and then the value is written
  abbrev pub takes : PlainVariable → ℕ → Does Flow
  takes target device = bind (taken setting target) (λ to. bind (ask_value (action.Take device)) (λ x. delivers target to x))

  -- how far a target's element lies behind the first one: its subscripts are evaluated and checked
  abbrev pub offset : PlainVariable → Does Cell
  offset (OfVariable target bounds subscripts) = bind (eval_all setting subscripts) (λ xs. offset_of (elements_before bounds xs))

  -- the targets from left to right; what was found is kept in cells from this one on
  abbrev pub keep_offsets : ℕ → List PlainVariable → Does (Unit {0})
  keep_offsets cell [] = gives tt
  keep_offsets cell (target ∷ targets) = bind (offset target) (λ at. next (put_cell cell at) (keep_offsets (cell + 1) targets))

  abbrev pub kept_reference : PlainVariable → Cell → Does Cell
  kept_reference (OfVariable target bounds subscripts) at = reference setting target bounds at

  -- the targets get the values that lie in cells from `from` on, from left to right
  abbrev pub write_targets : (from at : ℕ) → List PlainVariable → Does Flow
  write_targets from at [] = gives Normal
  write_targets from at (target ∷ targets) =
      bind (own_cell at) (λ found. bind (kept_reference target found) (λ to. bind (own_cell from) (λ x.
      next (write_reference to x) (write_targets (from + 1) (at + 1) targets))))

  abbrev pub kinds_of : List PlainVariable → Option (List Kind)
  kinds_of [] = Some []
  kinds_of (target ∷ targets) = option_and_then (λ kind. option_map (λ kinds. kind ∷ kinds) (kinds_of targets)) (variable_kind setting target)

  -- All targets' subscripts are checked, then the action is done, and then the values are written. The cells into which these
  -- come are new at each GET.
  abbrev pub gets : List PlainVariable → (device format cell : ℕ) → Does Flow
  gets targets device format cell = given (kinds_of targets) (λ kinds.
      next (keep_offsets (cell + length targets) targets) (next (put_cells cell (map blank_of kinds))
      (bind (ask (action.Get device format (record { items = kinds }))) (λ answer.
      next (put_cells cell (heard_values answer)) (write_targets cell (cell + length targets) targets)))))
