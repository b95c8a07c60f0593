use Rattle.std.proofs.Common.{◌≡◌, ◌++◌, take}
use Rattle.std.specs.List.{flat_map}
use Rattle.pearl_print.specs.Spelled.{text_of_tokens}
use Rattle.pearl_print.proofs.lists.put_each.Given as goal

abbrev pub invariant-loop-part : goal.invariant-loop-part
invariant-loop-part g l = l.into.items ≡ l.fn.into.items ++ text_of_tokens (flat_map g.T.Part.tokens (take l.part-index l.parts))
