use Rattle.std.proofs.Common.{◌≡◌, take}
use Rattle.pearl_generate.proofs.tables.formats_of.Given as goal

abbrev pub invariant-loop-format : goal.invariant-loop-format
invariant-loop-format l = l.made.items ≡ take l.format-index l.formats
