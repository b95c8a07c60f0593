use Rattle.std.proofs.Common.{◌≡◌, take}
use Rattle.pearl_kernel.proofs.opening.copied_formats.Given as goal

abbrev pub invariant-loop-format : goal.invariant-loop-format
invariant-loop-format l = l.copied.items ≡ take l.format-index l.formats
