use Rattle.std.proofs.Common.{◌≡◌, ◌++◌, take}
use Rattle.pearl_print.specs.Spelled.{text_of_tokens}
use Rattle.pearl_print.specs.Lists.{after_commas}
use Rattle.pearl_print.proofs.lists.put_listed.Given as goal

abbrev pub invariant-loop-part : goal.invariant-loop-part
invariant-loop-part g l = l.into.items ≡ l.initial.into.items ++ text_of_tokens (after_commas g.T.Part.tokens (take l.part-index l.rest))
