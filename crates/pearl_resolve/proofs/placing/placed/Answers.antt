use Rattle.std.proofs.Common.{◌≡◌, length, slice_get, ap, ◌∙◌, arith}
use Rattle.pearl_resolve.specs.Placing.{put_at}
use Rattle.pearl_resolve.proofs.PlacingSteps.{begins, placed_all, placed_next}
use Rattle.pearl_resolve.proofs.Renewing.{nothing_left}
use Rattle.pearl_resolve.proofs.placing.placed.Goals as goal

pub loop-procedure-init : goal.loop-procedure-init
loop-procedure-init c = begins c.args.numbers.now c.args.procedures.items c.in_ok-places.places.items (length c.args.numbers.now) c.in_ok-places.ensures

pub loop-procedure-preserved : goal.loop-procedure-preserved
loop-procedure-preserved c =
    let fits = c.pop.new.self.ok.0 in
    let count : c.len.result ≡ length c.pop.new.self.items = omega arith in
    placed_next c.args.numbers.now c.args.procedures.items c.pop.new.self.items c.loop-procedure.left.items c.loop-procedure.places.items _
    (length c.args.numbers.now) c.in-Some.procedure c.loop-procedure.invariant c.in-Some.ensures.items
    (c.put_by_number.ensures ∙ ap (λ n. put_at c.loop-procedure.places.items (slice_get c.args.numbers.now n) c.in-Some.procedure) count)

pub returns-in-None : goal.returns-in-None
returns-in-None c =
    let left = c.loop-procedure.left in
    let fits = left.ok.0 in
    let gone = c.in-None.ensures.cases.0 in
    placed_all c.args.numbers.now c.args.procedures.items left.items c.loop-procedure.places.items (length c.args.numbers.now) c.loop-procedure.invariant
    (nothing_left left.items (omega arith))
