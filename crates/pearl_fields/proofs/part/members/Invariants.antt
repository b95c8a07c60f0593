use Rattle.std.proofs.Common.{◌≡◌, ◌-◌}
use Rattle.pearl_fields.specs.Codec.{rolled_read}
use Rattle.pearl_fields.proofs.Loop.{with_front}
use Rattle.pearl_fields.proofs.part.members.Given as goal

abbrev pub invariant-loop : goal.invariant-loop
invariant-loop g l = with_front l.items.items (rolled_read g.T.Part.part g.T.Part.after l.now (l.count - l.counter) l.reader) ≡ rolled_read g.T.Part.part g.T.Part.after l.fn.state l.count l.fn.reader
