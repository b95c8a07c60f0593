use Rattle.pearl_stack.proofs.Written.{push_again_shown}
use Rattle.pearl_stack.proofs.values.Values.push_again.Goals as goal

pub returns : goal.returns
returns c =
    push_again_shown c.self.inside.cells.items c.copy_at.new.cells.items c.self.inside.used c.args.from c.args.self.now c.self.view_is c.self.invariant c.requires.room c.requires.there
    c.copy_at.ensures
