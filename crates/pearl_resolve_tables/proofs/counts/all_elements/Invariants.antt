use Rattle.std.proofs.Common.{◌≡◌, ◌*◌, map, drop}
use Rattle.pearl_names.specs.Forms.{pair_of}
use Rattle.pearl_names.specs.Layout.{elements}
use Rattle.pearl_resolve_tables.proofs.counts.all_elements.Given as goal

abbrev pub invariant-loop-own : goal.invariant-loop-own
invariant-loop-own l = l.count * elements (map pair_of (drop l.own-index l.bounds)) ≡ elements (map pair_of l.bounds)
