use Rattle.std.proofs.Common.{true, false, refl}
use Rattle.pearl_verify.proofs.Judging.{told_first, told_flow, told_last}
use Rattle.pearl_verify.proofs.judge.judge.Goals as goal

pub returns-in-Some-clause-rule : goal.returns-in-Some-clause-rule
returns-in-Some-clause-rule c =
    told_first c.args.object.now c.args.routine c.args.code.now c.args.i c.args.instr.now _ c.args.running.now.kinds c.in-Some.rule c.requires.before c.in-Some.ensures

pub returns-then-not-flows-clause-rule : goal.returns-then-not-flows-clause-rule
returns-then-not-flows-clause-rule c =
    told_flow c.args.object.now c.args.routine c.args.code.now c.args.i c.args.instr.now _ c.args.running.now.kinds c.carry_out.new.running.kinds false c.requires.before
    c.in_default.ensures c.in_ok-carry_out.ensures.kinds c.if-not-flows.ensures refl

pub returns-in_ok-advance-clause-rule : goal.returns-in_ok-advance-clause-rule
returns-in_ok-advance-clause-rule c =
    told_last c.args.object.now c.args.routine c.args.code.now c.args.i c.args.instr.now _ c.args.running.now.kinds c.carry_out.new.running.kinds true c.last_rule-last.result
    c.requires.before c.in_default.ensures c.in_ok-carry_out.ensures.kinds c.if-not-flows.ensures refl c.last_rule-last.ensures

pub returns-else-i-as_slice-clause-rule : goal.returns-else-i-as_slice-clause-rule
returns-else-i-as_slice-clause-rule c =
    told_last c.args.object.now c.args.routine c.args.code.now c.args.i c.args.instr.now _ c.args.running.now.kinds c.carry_out.new.running.kinds true c.last_rule-last.result
    c.requires.before c.in_default.ensures c.in_ok-carry_out.ensures.kinds c.if-not-flows.ensures refl c.last_rule-last.ensures
