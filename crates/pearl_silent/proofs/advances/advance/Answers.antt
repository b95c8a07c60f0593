use Rattle.std.proofs.Common.{◌≡◌, ◌+◌, Some, slice_get, sym, ap, ◌∙◌, arith}
use Rattle.std.specs.Prelude.{option_map}
use Rattle.std.proofs.lemmas.Int.{ints}
use Rattle.pearl_value.specs.declared.cell.Cell.TheVariants.{Fixed}
use Rattle.pearl_stack.specs.Frames.{Stack}
use Rattle.pearl_silent.specs.Advances.{fixed_of, advanced}
use Rattle.pearl_silent.specs.Steps.{next_of, top_cells, with_top_cell}
use Rattle.pearl_silent.proofs.Made.{silent_does}
use Rattle.pearl_silent.proofs.Tops.{some_within, next_at, next_with_cell}
use Rattle.pearl_silent.proofs.LoopRows.{loop_there}
use Rattle.pearl_silent.proofs.AdvanceRows.{control_value, advances}
use Rattle.pearl_silent.proofs.advances.advance.Goals as goal

pub behind-second-requires : goal.behind-second-requires
behind-second-requires c = some_within (top_cells c.args.stack.now.frames) (c.args.first + 1) (loop_there c.args.stack.now.frames c.args.first c.requires.numbers).1

pub own-control-requires : goal.own-control-requires
own-control-requires c = (loop_there c.args.stack.now.frames c.args.first c.requires.numbers).0

pub own-step-requires : goal.own-step-requires
own-step-requires c = rw c.behind-second.ensures (loop_there c.args.stack.now.frames c.args.first c.requires.numbers).1

pub next_control-requires : goal.next_control-requires
next_control-requires c = control_value c.args.stack.now.frames c.args.first c.own-control.result.now c.requires.numbers c.requires.formed c.own-control.ensures

pub set_own_number-requires : goal.set_own_number-requires
set_own_number-requires c = (loop_there c.args.stack.now.frames c.args.first c.requires.numbers).0

pub go_on-requires-clause-some : goal.go_on-requires-clause-some
go_on-requires-clause-some c =
    let old : Stack = c.args.stack.now in
    let set : c.set_own_number.new.stack ≡ record old { frames = with_top_cell c.args.first (fixed_of c.in-Some.x) old.frames } =
    c.set_own_number.ensures ∙ ap (λ v. record old { frames = with_top_cell c.args.first (Fixed c.in-Some.x.len v) old.frames }) (omega (arith, ints)) in
    (next_at c.set_own_number.new.stack _ set (next_with_cell c.args.first (fixed_of c.in-Some.x) old.frames c.requires.next)).some

pub go_on-requires-clause-next : goal.go_on-requires-clause-next
go_on-requires-clause-next c =
    let old : Stack = c.args.stack.now in
    let set : c.set_own_number.new.stack ≡ record old { frames = with_top_cell c.args.first (fixed_of c.in-Some.x) old.frames } =
    c.set_own_number.ensures ∙ ap (λ v. record old { frames = with_top_cell c.args.first (Fixed c.in-Some.x.len v) old.frames }) (omega (arith, ints)) in
    (next_at c.set_own_number.new.stack _ set (next_with_cell c.args.first (fixed_of c.in-Some.x) old.frames c.requires.next)).next

pub returns-in-Some : goal.returns-in-Some
returns-in-Some c =
    let old : Stack = c.args.stack.now in
    let set : c.set_own_number.new.stack ≡ record old { frames = with_top_cell c.args.first (fixed_of c.in-Some.x) old.frames } =
    c.set_own_number.ensures ∙ ap (λ v. record old { frames = with_top_cell c.args.first (Fixed c.in-Some.x.len v) old.frames }) (omega (arith, ints)) in
    let at = advances old.frames c.args.first c.args.past c.own-control.result.now c.own-step.result.now c.requires.numbers
    c.own-control.ensures (ap (slice_get (top_cells old.frames)) (sym c.behind-second.ensures) ∙ c.own-step.ensures) in
    let next : advanced c.own-control.result.now c.own-step.result.now ≡ Some (fixed_of c.in-Some.x) = sym c.next_control.ensures ∙ ap (option_map fixed_of) c.in-Some.is in
    silent_does _ old c.go_on.new.self _ (at.some (fixed_of c.in-Some.x) next) (c.go_on.ensures ∙ ap (λ (s : Stack). record s { frames = next_of s.frames }) set)

pub returns-in-None : goal.returns-in-None
returns-in-None c =
    let old : Stack = c.args.stack.now in
    let at = advances old.frames c.args.first c.args.past c.own-control.result.now c.own-step.result.now c.requires.numbers
    c.own-control.ensures (ap (slice_get (top_cells old.frames)) (sym c.behind-second.ensures) ∙ c.own-step.ensures) in
    silent_does _ old c.go.new.self _ (at.none (sym c.next_control.ensures ∙ ap (option_map fixed_of) c.in-None.is)) c.go.ensures
