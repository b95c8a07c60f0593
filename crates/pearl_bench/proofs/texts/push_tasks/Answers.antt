use Rattle.std.proofs.Common.{append-nil, sym}
use Rattle.pearl_bench.specs.Texts.{task_line}
use Rattle.pearl_bench.proofs.TextLaws.{behind, more}
use Rattle.pearl_bench.proofs.texts.push_tasks.Goals as goal

pub loop-i-init : goal.loop-i-init
loop-i-init c = sym (append-nil c.args.text.now.items)

pub loop-i-preserved : goal.loop-i-preserved
loop-i-preserved c =
    more task_line c.loop-i.i c.args.text.now.items c.loop-i.text.items c.extend_from_slice.new.self.items c.loop-i.invariant
    (behind c.loop-i.text.items c.push_head.new.text.items c.extend_from_slice.new.self.items _ _ c.in_ok-push_head.ensures c.in_ok-extend_from_slice.ensures.items)
