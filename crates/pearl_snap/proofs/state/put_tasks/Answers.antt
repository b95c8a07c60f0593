use Rattle.std.proofs.Common.{◌++◌, ap, ◌∙◌, arith}
use Rattle.pearl_fields.specs.Codec.{number_bytes}
use Rattle.pearl_snap.specs.Tasks.{task}
use Rattle.pearl_snap.proofs.Puts.{put_on, all_put}
use Rattle.pearl_snap.proofs.state.put_tasks.Goals as goal

pub loop-i-preserved : goal.loop-i-preserved
loop-i-preserved c =
    put_on c.args.rows.now c.args.stacks.now (c.args.out.now.items ++ number_bytes c.min-count.result) c.loop-i.i c.index-rows-i.result c.index-stacks-i.result c.loop-i.out.items c.put_task.new.out.items
    (omega (arith, c.loop-i-test.true, c.min-count.ensures)) (omega (arith, c.loop-i-test.true, c.min-count.ensures)) c.index-rows-i.is c.index-stacks-i.is c.loop-i.invariant
    (c.in_ok-put_task.ensures ∙ ap (λ frames. c.loop-i.out.items ++ task.bytes (record { row = c.index-rows-i.result; frames = frames })) c.as_slice.ensures)

pub returns : goal.returns
returns c = all_put c.args.rows.now c.args.stacks.now c.args.out.now.items c.loop-i.out.items c.min-count.result c.loop-i.i (omega (arith, c.min-count.ensures)) c.loop-i-test.false c.loop-i.invariant
