use Rattle.std.proofs.Common.{arith}
use Rattle.pearl_stack.proofs.Halves.{copied_up, copied_down, copied_there}
use Rattle.pearl_stack.proofs.values.copy_at.Goals as goal

pub returns-then-from-to : goal.returns-then-from-to
returns-then-from-to c =
    copied_up c.args.cells.now.items c.deref_mut.result.now c.split_at_mut-low.result.0.now c.split_at_mut-low.result.1.now c.args.cells.now.len c.args.from c.args.to
    c.index-low-from.result c.put_copy.new.place (omega arith) c.deref_mut.ensures.value c.split_at_mut-low.ensures.value c.split_at_mut-low.ensures.front_len c.if-from-to.true c.requires.to
    c.index-low-from.is c.put_copy.ensures

pub returns-then-to-from : goal.returns-then-to-from
returns-then-to-from c =
    copied_down c.args.cells.now.items c.deref_mut-then-to-from.result.now c.split_at_mut-low-then-to-from.result.0.now c.split_at_mut-low-then-to-from.result.1.now c.args.cells.now.len
    c.args.from c.args.to c.index-high-0-then-to-from.result c.put_copy-then-to-from.new.place (omega arith) c.deref_mut-then-to-from.ensures.value
    c.split_at_mut-low-then-to-from.ensures.value c.split_at_mut-low-then-to-from.ensures.front_len c.if-to-from.true c.requires.from
    c.index-high-0-then-to-from.is c.put_copy-then-to-from.ensures

pub returns-else-to-from : goal.returns-else-to-from
returns-else-to-from c = copied_there c.args.cells.now.items c.args.from c.args.to (omega arith) c.requires.from
