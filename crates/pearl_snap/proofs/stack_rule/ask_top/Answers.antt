use Rattle.std.proofs.Common.{subst}
use Rattle.pearl_saved.specs.Rules.{AreOf, IsAtPlace}
use Rattle.pearl_snap.proofs.Asking.{top_asks, asks_one}
use Rattle.pearl_snap.proofs.stack_rule.ask_top.Goals as goal

pub returns : goal.returns
returns c =
    let o = c.args.object.now in let f = c.args.frame.now in let code = c.in-Some.code.now in
    let cells =
    subst (λ ks. AreOf ks f.cells) c.as_slice.ensures
    (subst (AreOf c.as_slice.result.now) c.as_slice-2.ensures (c.are_of.ensures.0 c.if-not-are_of.false)) in
    asks_one o c.args.asked.now.items c.push.new.self.items (record { frame = c.args.frame; arguments = 0 }) (IsAtPlace o f) c.in_ok-push.ensures.items
    (top_asks o f code c.in-Some.ensures.code cells c.requires)
