use Rattle.std.proofs.Common.{rules, ◌≡◌, ◌+◌, ◌<◌, length, take, get_or, sym, subst}
use Rattle.std.specs.List.{AllByRecursion}
use Rattle.pearl_snap.specs.Leads.{Leads}
use Rattle.pearl_snap.proofs.Climbing.{at_frame, climbed}
use Rattle.pearl_snap.proofs.reference_rule.stack_leads.Goals as goal

pub returns-then-not-all_lead-2 : goal.returns-then-not-all_lead-2
returns-then-not-all_lead-2 c =
    let slots = c.args.slots.now in let frames = c.args.frames.now in let at = c.loop-at.at in let f = c.index-frames-at.result in
    let less : at < length frames = search rules in
    let is : f ≡ get_or frames at f = search rules in (
      λ e. cc,
      λ h.
          let operands = (at_frame slots frames at f less is c.loop-at.invariant h).operands in
          let yes = c.all_lead-in-loop-at.ensures.1 (subst (AllByRecursion (Leads slots (take (at + 1) frames))) (sym c.as_slice-in-loop-at.ensures) operands) in
          absurd cc,
    )

pub loop-at-preserved : goal.loop-at-preserved
loop-at-preserved c =
    let slots = c.args.slots.now in let frames = c.args.frames.now in let at = c.loop-at.at in let f = c.index-frames-at.result in
    let less : at < length frames = search rules in
    let is : f ≡ get_or frames at f = search rules in
    climbed slots frames at f less is c.loop-at.invariant
    (subst (AllByRecursion (Leads slots (take at frames))) c.as_slice.ensures (c.all_lead.ensures.0 c.if-not-all_lead.false))
    (subst (AllByRecursion (Leads slots (take (at + 1) frames))) c.as_slice-in-loop-at.ensures (c.all_lead-in-loop-at.ensures.0 c.if-not-all_lead-2.false))
