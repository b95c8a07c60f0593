use Rattle.std.proofs.Common.{◌++◌, drop}
use Rattle.pearl_object.specs.Listing.{numbered}
use Rattle.pearl_object.proofs.Lines.{AreLeft}
use Rattle.pearl_object.proofs.listing.put_numbered.Given as goal

abbrev pub invariant-loop-number : goal.invariant-loop-number
invariant-loop-number g l = AreLeft g.T.Lined.lawful g.T.Lined.lines l.number (drop l.number l.items) l.out.items (l.fn.out.items ++ numbered g.T.Lined.lines 0 l.items)
