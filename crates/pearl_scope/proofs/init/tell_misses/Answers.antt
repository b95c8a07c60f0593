use Rattle.std.proofs.Common.{◌≡◌, ◌+◌, ◌-◌, ◌<◌, length, arith}
use Rattle.pearl_scope.proofs.Filled.{told_none, told_more, told_all}
use Rattle.pearl_scope.proofs.init.tell_misses.Goals as goal

pub loop-constant-init : goal.loop-constant-init
loop-constant-init c = (omega arith, λ rest behind full is. told_none c.args.runs.now rest c.args.init.now c.args.faults.now.items is)

pub loop-constant-preserved : goal.loop-constant-preserved
loop-constant-preserved c =
    let left = c.loop-constant.left in
    let less = c.saturating_sub-left.result in
    let i = c.loop-constant.constant-index in
    let init = c.args.init.now in
    let all : left + i ≡ length init = c.loop-constant.invariant.0 in
    let sub : less ≡ left - 1 = c.saturating_sub-left.ensures in
    let inside : i < length init = c.loop-constant-test.true in (
      omega (arith, all, sub, inside),
      λ rest behind full is.
          told_more c.args.runs.now c.args.behind rest init c.args.faults.now.items c.loop-constant.faults.items c.fault_if.new.faults.items c.loop-constant.spot c.after_one-spot.result i left less
          c.constant-item.result c.misses-missed.result sub behind full all inside c.constant-item.is c.in_ok-fault_if.ensures c.misses-missed.ensures c.after_one-spot.ensures
          (c.loop-constant.invariant.1 rest behind full is),
    )

pub returns : goal.returns
returns c = λ rest behind full is.
    told_all c.args.runs.now rest c.args.init.now c.args.faults.now.items c.loop-constant.faults.items c.loop-constant.spot c.loop-constant.constant-index c.loop-constant.left c.loop-constant-test.false
    (c.loop-constant.invariant.1 rest behind full is)
