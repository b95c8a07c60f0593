use Rattle.std.proofs.Common.{◌+◌, ◌≤◌, length, sym, subst, arith}
use Rattle.pearl_kernel.specs.Eligible.{Stand, IsStandOf}
use Rattle.pearl_kernel.proofs.Serving.{next-there, next-low, next-room, next-served, all-served, stand-served}
use Rattle.pearl_kernel.proofs.due.serve_due.Goals as goal

pub overflow_cast-task : goal.overflow_cast-task
overflow_cast-task c =
    let l = c.loop-task in
    let low = next-low c.args.state.now l.state l.from l.invariant.same l.invariant.low c.in-Some.task c.in-Some.ensures in
    let few = c.requires.few in omega (arith, low, few)

pub overflow_cast-task-in-Some : goal.overflow_cast-task-in-Some
overflow_cast-task-in-Some c =
    let l = c.loop-task in
    let low = next-low c.args.state.now l.state l.from l.invariant.same l.invariant.low c.in-Some.task c.in-Some.ensures in
    let few = c.requires.few in omega (arith, low, few)

pub overflow_add-from : goal.overflow_add-from
overflow_add-from c =
    let l = c.loop-task in
    let low = next-low c.args.state.now l.state l.from l.invariant.same l.invariant.low c.in-Some.task c.in-Some.ensures in
    let few = c.requires.few in omega (arith, low, few)

pub loop-task-smaller : goal.loop-task-smaller
loop-task-smaller c =
    let l = c.loop-task in
    let low = next-low c.args.state.now l.state l.from l.invariant.same l.invariant.low c.in-Some.task c.in-Some.ensures in
    let few = c.requires.few in
    let up = c.in-Some.ensures.from in omega (arith, low, few, up)

pub serve-requires-clause-there : goal.serve-requires-clause-there
serve-requires-clause-there c =
    let l = c.loop-task in
    next-there c.args.state.now l.state l.from l.invariant.same l.invariant.low c.in-Some.task c.in-Some.ensures

pub serve-requires-clause-room : goal.serve-requires-clause-room
serve-requires-clause-room c =
    let l = c.loop-task in
    next-room c.args.state.now l.state l.from l.invariant.same l.invariant.low c.in-Some.task c.in-Some.ensures
    c.requires.few c.requires.told

pub loop-task-preserved : goal.loop-task-preserved
loop-task-preserved c =
    let l = c.loop-task in
    let t = c.in-Some.task in
    let first = c.args.state.now in
    let there = next-there first l.state l.from l.invariant.same l.invariant.low t c.in-Some.ensures in
    let low : t + 1 ≤ length first.core.tasks = let below = next-low first l.state l.from l.invariant.same l.invariant.low t c.in-Some.ensures in omega arith in
    record {
      same = next-served first l.state l.from l.invariant.same l.invariant.low t c.in-Some.ensures c.serve.new.self c.serve.ensures;
      low = low;
      stand = subst (λ (s : Stand). IsStandOf c.serve.new.self s) (sym c.moved.ensures)
          (stand-served l.state c.serve.new.self l.standing t there c.serve.ensures l.invariant.stand);
    }

pub returns-clause-served : goal.returns-clause-served
returns-clause-served c =
    let l = c.loop-task in
    all-served c.args.state.now l.state l.from l.invariant.same l.invariant.low c.in_default.ensures
