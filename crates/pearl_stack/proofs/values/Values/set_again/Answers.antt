use Rattle.pearl_stack.proofs.Written.{set_again_shown}
use Rattle.pearl_stack.proofs.values.Values.set_again.Goals as goal

pub returns : goal.returns
returns c =
    set_again_shown c.self.inside.cells.items c.copy_at.new.cells.items c.self.inside.used c.args.i c.args.from c.args.self.now c.self.view_is c.self.invariant c.requires.there c.requires.from
    c.copy_at.ensures
