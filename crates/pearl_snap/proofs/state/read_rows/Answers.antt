use Rattle.std.proofs.Common.{◌++◌, [], ◌∷◌, sym, ap, ◌∙◌}
use Rattle.std.proofs.lemmas.List.{map-append}
use Rattle.std.proofs.lemmas.Result.{err_from_is_err_and}
use Rattle.pearl_fields.proofs.Offered.{goes_on, ends, is_done}
use Rattle.pearl_snap.specs.declared.states.Free.{Free}
use Rattle.pearl_snap.specs.Lists.{free}
use Rattle.pearl_snap.specs.Tasks.{task}
use Rattle.pearl_snap.proofs.state.read_rows.Goals as goal

pub returns-in_err-task : goal.returns-in_err-task
returns-in_err-task c =
    let p = err_from_is_err_and c.from_residual.result c.from_residual.ensures.1 in
    rw (p.1, p.2) (ends (λ (s : Free). task) (λ s x. s) free c.in_err-task.field-0.0 c.loop.invariant.0 c.args.count c.loop.counter c.loop.reader _ c.loop-test.true c.in_err-task.ensures c.loop.invariant.3)

pub loop-preserved : goal.loop-preserved
loop-preserved c =
    let xs = c.loop.invariant.0 in
    let t = c.in_ok-task.task in (
      xs ++ t ∷ [],
      c.in_ok-push.ensures.items ∙ ap (λ ys. ys ++ t.row ∷ []) c.loop.invariant.1 ∙ sym (map-append (λ u. u.row) xs (t ∷ [])),
      c.in_ok-push-2.ensures.items ∙ ap (λ ys. ys ++ t.frames ∷ []) c.loop.invariant.2 ∙ sym (map-append (λ u. u.frames) xs (t ∷ [])),
      goes_on (λ (s : Free). task) (λ s x. s) free xs c.args.count c.loop.counter c.loop.reader t c.read_task.new.reader _ c.loop-test.true c.in_ok-task.ensures c.loop.invariant.3,
    )

pub returns : goal.returns
returns c = (
  c.loop.invariant.0,
  is_done (λ (s : Free). task) (λ s x. s) free c.loop.invariant.0 c.args.count c.loop.counter c.loop.reader _ c.loop-test.false c.loop.invariant.3,
  c.new.ensures ∙ c.loop.invariant.1,
  c.new-2.ensures ∙ c.loop.invariant.2,
)
