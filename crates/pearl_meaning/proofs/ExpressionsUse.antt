-- No expression and no variable gives back more answers than there were.
use Rattle.std.specs.Prelude.{ℕ, ◌+◌, pos, negsuc, nat_lt, List, Option, Some, None, option_and_then, slice_get, drop}
use Rattle.pearl_value.specs.declared.kind.Kind.{Kind}
use Rattle.pearl_value.specs.declared.kind.CellKind.{CellKind}
use Rattle.pearl_value.specs.declared.cell.Cell.{Cell}
use Rattle.pearl_value.specs.declared.cell.Cell.TheVariants.{Fixed, Bits, Chars, Clock, Span, Ref}
use Rattle.pearl_value.specs.declared.cell.Place.{Place}
use Rattle.pearl_value.specs.declared.cell.Place.TheVariants as place
use Rattle.pearl_value.specs.Cells.{kind_of}
use Rattle.pearl_value.specs.Applied.{applied1, applied2}
use Rattle.pearl_value.specs.Conversions.{converted}
use Rattle.pearl_program.specs.declared.expression.Bound.{Bound}
use Rattle.pearl_program.specs.declared.expression.Target.{Target}
use Rattle.pearl_program.specs.declared.expression.Target.TheVariants.{Leaf, Own, Param}
use Rattle.pearl_program.specs.Typing.{elements}
use Rattle.pearl_program.specs.PlainExpressions.{PlainExpr, OfLiteral, OfRead, OfMonadic, OfDyadic, OfCall, OfNow, OfTry, PlainVariable, OfVariable, PlainExprs, NoExprs, MoreExprs, PlainArgument, OfValue, OfIdent, PlainArguments, NoArguments, MoreArguments}
use Rattle.pearl_meaning.specs.Evaluation.{Does}
use Rattle.pearl_meaning.specs.Setting.{Setting, plain_kind, params_of}
use Rattle.pearl_meaning.specs.Variables.{elements_before, offset_of, within, own_reference, reference, read_place, read_reference, write_place, write_reference}
use Rattle.pearl_meaning.specs.Values.{convert, calls, eval, taken, eval_all, hand_over, handed}
use Rattle.pearl_meaning.specs.Laws.{UsesUp}
use Rattle.pearl_meaning.proofs.Uses.{bind_uses, next_uses, gives_uses, fails_uses, ask_uses, value_uses, result_uses, given_uses, either_uses, own_frame_uses, own_cell_uses, cell_of_frame_uses, put_cell_of_frame_uses}

-- no call does
abbrev pub CallsUse : Setting → Type 0
CallsUse setting = (procedure : ℕ) (arguments : List Cell) → UsesUp (setting.call procedure arguments)

pub convert_uses : (kind : Option Kind) (x : Cell) → UsesUp (convert kind x)
convert_uses kind x = given_uses kind (λ to. result_uses (converted x to))

pub offset_uses : (before : Option ℕ) → UsesUp (offset_of before)
offset_uses None = fails_uses
offset_uses (Some before) = gives_uses

within_uses : {go : ℕ → Does Cell} (count : ℕ) (offset : Cell) → ((before : ℕ) → UsesUp (go before)) → UsesUp (within count offset go)
within_uses count (Fixed len (pos offset)) uses = either_uses (nat_lt offset count) (uses offset) fails_uses
within_uses count (Fixed len (negsuc offset)) uses = fails_uses
within_uses count (Bits len value) uses = fails_uses
within_uses count (Chars text) uses = fails_uses
within_uses count (Clock time) uses = fails_uses
within_uses count (Span time) uses = fails_uses
within_uses count (Ref kind place) uses = fails_uses

own_reference_uses : (cell : ℕ) → UsesUp (own_reference cell)
own_reference_uses cell = bind_uses own_cell_uses (λ x. bind_uses own_frame_uses (λ frame. gives_uses {x = Ref (kind_of x) (place.Cell frame cell)}))

pub reference_uses : (setting : Setting) (target : Target) (bounds : List Bound) (offset : Cell) → UsesUp (reference setting target bounds offset)
reference_uses setting (Leaf number) bounds offset = given_uses (slice_get setting.program.leaves number) (λ leaf.
    within_uses leaf.values.count offset (λ before. gives_uses))
reference_uses setting (Own cell) bounds offset = within_uses (elements bounds) offset (λ before. own_reference_uses (cell + before))
reference_uses setting (Param cell) bounds offset = own_cell_uses

read_place_uses : (at : Place) → UsesUp (read_place at)
read_place_uses (place.Slot slot) = value_uses
read_place_uses (place.Cell frame cell) = cell_of_frame_uses

pub read_uses : (r : Cell) → UsesUp (read_reference r)
read_uses (Ref kind at) = read_place_uses at
read_uses (Fixed len value) = fails_uses
read_uses (Bits len value) = fails_uses
read_uses (Chars text) = fails_uses
read_uses (Clock time) = fails_uses
read_uses (Span time) = fails_uses

write_place_uses : (at : Place) (x : Cell) → UsesUp (write_place at x)
write_place_uses (place.Slot slot) x = next_uses ask_uses gives_uses
write_place_uses (place.Cell frame cell) x = put_cell_of_frame_uses

pub write_uses : (r x : Cell) → UsesUp (write_reference r x)
write_uses (Ref kind at) x = write_place_uses at x
write_uses (Fixed len value) x = fails_uses
write_uses (Bits len value) x = fails_uses
write_uses (Chars text) x = fails_uses
write_uses (Clock time) x = fails_uses
write_uses (Span time) x = fails_uses

module _ (setting : Setting) (calls_use : CallsUse setting) where
  pub calls_uses : (number : ℕ) {arguments : List CellKind → Does (List Cell)} → ((params : List CellKind) → UsesUp (arguments params)) →
      UsesUp (calls setting number arguments)
  calls_uses number uses = given_uses (slice_get setting.program.procedures number) (λ procedure.
      bind_uses (uses (params_of procedure)) (λ xs. calls_use number xs))

  mutual
    pub eval_uses : (e : PlainExpr) → UsesUp (eval setting e)
    eval_uses (OfLiteral value) = gives_uses
    eval_uses (OfRead variable) = bind_uses (taken_uses variable) read_uses
    eval_uses (OfMonadic op operand) = bind_uses (eval_uses operand) (λ x. result_uses (applied1 op x))
    eval_uses (OfDyadic op left right) = bind_uses (eval_uses left) (λ x. bind_uses (eval_uses right) (λ y. result_uses (applied2 op x y)))
    eval_uses (OfCall procedure arguments) =
        bind_uses (calls_uses procedure (λ params. hand_over_uses params arguments)) (λ result. given_uses result (λ x. gives_uses))
    eval_uses OfNow = value_uses
    eval_uses (OfTry semaphore) = value_uses

    pub taken_uses : (variable : PlainVariable) → UsesUp (taken setting variable)
    taken_uses (OfVariable target bounds subscripts) =
        bind_uses (all_use subscripts) (λ xs. bind_uses (offset_uses (elements_before bounds xs)) (λ offset. reference_uses setting target bounds offset))

    pub all_use : (es : PlainExprs) → UsesUp (eval_all setting es)
    all_use NoExprs = gives_uses
    all_use (MoreExprs e rest) = bind_uses (eval_uses e) (λ x. bind_uses (all_use rest) (λ xs. gives_uses))

    pub hand_over_uses : (params : List CellKind) (arguments : PlainArguments) → UsesUp (hand_over setting params arguments)
    hand_over_uses params NoArguments = gives_uses
    hand_over_uses params (MoreArguments argument rest) =
        bind_uses (handed_uses (slice_get params 0) argument) (λ x. bind_uses (hand_over_uses (drop 1 params) rest) (λ xs. gives_uses))

    handed_uses : (param : Option CellKind) (argument : PlainArgument) → UsesUp (handed setting param argument)
    handed_uses param (OfValue e) = bind_uses (eval_uses e) (λ x. convert_uses (option_and_then plain_kind param) x)
    handed_uses param (OfIdent variable) = taken_uses variable
