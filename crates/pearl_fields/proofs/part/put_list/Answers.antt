use Rattle.std.proofs.Common.{◌++◌, length, ap, ◌∙◌, append_assoc}
use Rattle.std.proofs.lemmas.List.{take_all}
use Rattle.pearl_fields.specs.Codec.{number_bytes, all_bytes}
use Rattle.pearl_fields.proofs.Loop.{put_on}
use Rattle.pearl_fields.proofs.part.put_list.Goals as goal

pub loop-item-preserved : goal.loop-item-preserved
loop-item-preserved g c = put_on g.T.Part.spelled _ c.args.items.now c.loop-item.item-index c.item-item.result c.loop-item.out.items c.put.new.out.items c.loop-item-test.true c.item-item.is c.loop-item.invariant c.in_ok-put.ensures

pub returns : goal.returns
returns g c = c.loop-item.invariant ∙ ap (λ xs. (c.args.out.now.items ++ number_bytes (length c.args.items.now)) ++ all_bytes g.T.Part.spelled xs) (take_all c.loop-item.item-index c.args.items.now c.loop-item-test.false) ∙ append_assoc c.args.out.now.items (number_bytes (length c.args.items.now)) (all_bytes g.T.Part.spelled c.args.items.now)
