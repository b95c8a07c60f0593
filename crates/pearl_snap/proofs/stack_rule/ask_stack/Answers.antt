use Rattle.std.proofs.Common.{rules, arith, ◌≡◌, ◌+◌, true, get_or, subst}
use Rattle.std.proofs.lemmas.Result.{IfOk-weaker}
use Rattle.pearl_snap.specs.Asking.{Asks}
use Rattle.pearl_saved.specs.Rules.{IsAtPlace, IsAtCall, IsStackOf}
use Rattle.pearl_snap.proofs.Asking.{climbs_on, climbs_up}
use Rattle.pearl_snap.proofs.stack_rule.ask_stack.Goals as goal

pub returns-then-at-frames : goal.returns-then-at-frames
returns-then-at-frames c =
    let o = c.args.object.now in let old = c.args.asked.now.items in let now = c.loop-at.asked.items in let new = c.ask_top.new.asked.items in
    let frames = c.args.frames.now in let at = c.loop-at.at in let f = c.index-frames-at.result in
    IfOk-weaker c.ask_top.result (Asks o now new (IsAtPlace o f)) (Asks o old new (IsStackOf o c.args.routine frames))
    (climbs_up o old now new c.args.routine c.loop-at.wanted frames at f (search rules) (search rules) (search rules) c.loop-at.invariant (search rules))
    c.ask_top.ensures

pub loop-at-preserved : goal.loop-at-preserved
loop-at-preserved c =
    let o = c.args.object.now in let old = c.args.asked.now.items in let now = c.loop-at.asked.items in let new = c.ask_call.new.asked.items in
    let frames = c.args.frames.now in let at = c.loop-at.at in let f = c.index-frames-at.result in
    let above = c.index-frames-at-in-loop-at.result in
    let yes : c.in_ok-ask_call.field-0 ≡ true = search rules in
    climbs_on o old now new c.args.routine c.loop-at.wanted frames at f (search rules) (search rules) (search rules) c.loop-at.invariant above (search (rules, arith)) (search rules)
    (subst (Asks o now new (IsAtCall o (get_or frames (at + 1) above).routine f)) yes c.in_ok-ask_call.ensures)
