use Rattle.pearl_cells.specs.Filled.{filled}
use Rattle.pearl_stack.proofs.Written.{changed_shown}
use Rattle.pearl_stack.proofs.values.Values.fill_chars.Goals as goal

pub returns : goal.returns
returns c =
    changed_shown c.self.inside.cells.items c.self.inside.used c.args.i (filled c.args.len) c.index_mut.result.now c.fill_chars.new.place c.args.self.now c.self.view_is c.self.invariant c.requires
    c.index_mut.ensures.value c.fill_chars.ensures
