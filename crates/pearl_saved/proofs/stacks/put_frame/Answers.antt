use Rattle.pearl_saved.proofs.Reading.{put_chain}
use Rattle.pearl_saved.proofs.stacks.put_frame.Goals as goal

pub returns : goal.returns
returns c =
    put_chain c.args.frame.now c.as_slice-cells.result.now c.as_slice.result.now c.args.stack.now c.enter.new.self c.set_cells.new.stack c.go.new.self c.push_all.new.stack
    c.as_slice-cells.ensures c.as_slice.ensures c.enter.ensures c.set_cells.ensures c.go.ensures c.push_all.ensures
