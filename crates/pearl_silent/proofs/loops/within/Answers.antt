use Rattle.std.proofs.Common.{◌+◌, Ok, slice_get, sym, ap, ◌∙◌}
use Rattle.pearl_silent.specs.Steps.{told, made_on, top_cells}
use Rattle.pearl_silent.proofs.Made.{same_applies, same_does}
use Rattle.pearl_silent.proofs.Tops.{some_within}
use Rattle.pearl_silent.proofs.LoopRows.{loop_there, within_is, not_if}
use Rattle.pearl_silent.proofs.loops.within.Goals as goal

pub own-control-requires : goal.own-control-requires
own-control-requires c = (loop_there c.args.stack.now.frames c.args.first c.requires.numbers).0

pub own-step-requires : goal.own-step-requires
own-step-requires c = rw c.behind-second.ensures (loop_there c.args.stack.now.frames c.args.first c.requires.numbers).1

pub own-limit-requires : goal.own-limit-requires
own-limit-requires c = rw c.behind-third.ensures (loop_there c.args.stack.now.frames c.args.first c.requires.numbers).2

pub behind-second-requires : goal.behind-second-requires
behind-second-requires c = some_within (top_cells c.args.stack.now.frames) (c.args.first + 1) (loop_there c.args.stack.now.frames c.args.first c.requires.numbers).1

pub behind-third-requires : goal.behind-third-requires
behind-third-requires c = some_within (top_cells c.args.stack.now.frames) (c.args.first + 2) (loop_there c.args.stack.now.frames c.args.first c.requires.numbers).2

pub leave_truth-requires-clause-ready : goal.leave_truth-requires-clause-ready
leave_truth-requires-clause-ready c =
    let frames = c.args.stack.now.frames in
    let is = within_is frames c.args.first c.own-control.result.now c.own-step.result.now c.own-limit.result.now c.requires.numbers c.own-control.ensures
    (ap (slice_get (top_cells frames)) (sym c.behind-second.ensures) ∙ c.own-step.ensures) (ap (slice_get (top_cells frames)) (sym c.behind-third.ensures) ∙ c.own-limit.ensures) in
    let told_so = ap (λ x. made_on 0 (Ok x) frames) (not_if _ _ c.is_past-past.ensures) in
    same_applies _ _ c.args.stack.now.room (is ∙ told_so) c.requires.ready

pub returns : goal.returns
returns c =
    let frames = c.args.stack.now.frames in
    let is = within_is frames c.args.first c.own-control.result.now c.own-step.result.now c.own-limit.result.now c.requires.numbers c.own-control.ensures
    (ap (slice_get (top_cells frames)) (sym c.behind-second.ensures) ∙ c.own-step.ensures) (ap (slice_get (top_cells frames)) (sym c.behind-third.ensures) ∙ c.own-limit.ensures) in
    let told_so = ap (λ x. made_on 0 (Ok x) frames) (not_if _ _ c.is_past-past.ensures) in
    same_does _ _ c.args.stack.now c.leave_truth.new.stack (told c.leave_truth.result) (is ∙ told_so) c.leave_truth.ensures
