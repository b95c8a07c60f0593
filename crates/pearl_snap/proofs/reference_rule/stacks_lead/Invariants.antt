use Rattle.std.specs.Prelude.{[]}
use Rattle.pearl_snap.specs.Leads.{AllLead}
use Rattle.pearl_snap.proofs.Alls.{Left}
use Rattle.pearl_snap.proofs.reference_rule.stacks_lead.Given as goal

abbrev pub invariant-loop-frames : goal.invariant-loop-frames
invariant-loop-frames l = Left (AllLead l.slots []) l.stacks l.frames-index
