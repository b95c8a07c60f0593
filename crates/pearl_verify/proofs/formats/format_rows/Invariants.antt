use Rattle.std.proofs.Common.{◌≡◌, map, take}
use Rattle.pearl_verify.specs.Formats.{format_row}
use Rattle.pearl_verify.proofs.formats.format_rows.Given as goal

abbrev pub invariant-loop-items : goal.invariant-loop-items
invariant-loop-items l = l.rows.items ≡ map format_row (take l.items-index l.formats)
