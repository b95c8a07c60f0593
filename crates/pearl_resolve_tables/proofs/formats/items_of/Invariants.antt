use Rattle.std.proofs.Common.{◌≡◌, ◌++◌, map, drop}
use Rattle.pearl_resolve_tables.specs.Formats.{item_of}
use Rattle.pearl_resolve_tables.proofs.formats.items_of.Given as goal

abbrev pub invariant-loop-fmt : goal.invariant-loop-fmt
invariant-loop-fmt l = l.made.items ++ map item_of (drop l.fmt-index l.formats) ≡ map item_of l.formats
