use Rattle.std.proofs.Common.{set, ap, ◌∙◌, arith}
use Rattle.std.proofs.lemmas.Int.{ints}
use Rattle.pearl_value.specs.declared.cell.Cell.TheVariants.{Fixed}
use Rattle.pearl_stack.proofs.Written.{held, set_shown}
use Rattle.pearl_stack.proofs.values.Values.set_fixed.Goals as goal

pub returns : goal.returns
returns c =
    set_shown c.self.inside.cells.items c.self.inside.used c.args.i c.put_fixed.new.place c.args.self.now c.self.view_is c.self.invariant c.requires
    ∙ ap (λ x. held (set c.args.self.now.items c.args.i x) c.args.self.now.room) (c.put_fixed.ensures ∙ ap (Fixed c.args.len) (omega (arith, ints)))
