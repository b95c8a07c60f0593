use Rattle.std.proofs.Common.{◌≡◌, map, take}
use Rattle.pearl_names.specs.Forming.{sizes_of}
use Rattle.pearl_names.specs.Forms.{pair_of}
use Rattle.pearl_names.proofs.forms.sizes_within.Given as goal

abbrev pub invariant-loop-own : goal.invariant-loop-own
invariant-loop-own l = l.sizes ≡ sizes_of (map pair_of (take l.own-index l.bounds))
