use Rattle.std.proofs.Common.{append-nil, sym}
use Rattle.pearl_bench.specs.Texts.{start_line}
use Rattle.pearl_bench.proofs.TextLaws.{more}
use Rattle.pearl_bench.proofs.texts.push_starts.Goals as goal

pub loop-i-init : goal.loop-i-init
loop-i-init c = sym (append-nil c.args.text.now.items)

pub loop-i-preserved : goal.loop-i-preserved
loop-i-preserved c = more start_line c.loop-i.i c.args.text.now.items c.loop-i.text.items c.push_start.new.text.items c.loop-i.invariant c.in_ok-push_start.ensures
