use Rattle.std.proofs.Common.{◌≤◌, length, arith}
use Rattle.pearl_kernel.proofs.Renewing.{renewed-next, renewed-all}
use Rattle.pearl_kernel.proofs.standing.Standing.renew_all.Goals as goal

pub loop-task-preserved : goal.loop-task-preserved
loop-task-preserved c =
    let l = c.loop-task in
    record {
      to = renewed-next c.args.state.now c.args.changed c.args.self.now l.self c.renew_one.new.self l.task
          c.renew_one.ensures l.invariant.to;
      all = c.tasks-count.ensures;
    }

pub returns : goal.returns
returns c =
    let l = c.loop-task in
    let k = c.args.state.now in
    let test = c.loop-task-test.false in
    let all = l.invariant.all in
    let count : length k.core.tasks ≤ l.task = omega (arith, test, all) in
    renewed-all k c.args.changed c.args.self.now l.self l.task count l.invariant.to
