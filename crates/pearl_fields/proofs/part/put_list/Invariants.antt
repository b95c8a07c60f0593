use Rattle.std.proofs.Common.{◌≡◌, ◌++◌, length, take}
use Rattle.pearl_fields.specs.Codec.{number_bytes, all_bytes}
use Rattle.pearl_fields.proofs.part.put_list.Given as goal

abbrev pub invariant-loop-item : goal.invariant-loop-item
invariant-loop-item g l = l.out.items ≡ (l.fn.out.items ++ number_bytes (length l.items)) ++ all_bytes g.T.Part.spelled (take l.item-index l.items)
