use Rattle.std.proofs.Common.{sym, ap, ◌∙◌}
use Rattle.pearl_instructions.specs.Operands.{same_shape}
use Rattle.pearl_verify.proofs.Shapes.{same_shape_refl}
use Rattle.pearl_verify.proofs.flow.follows.Goals as goal

pub returns-else-is_named : goal.returns-else-is_named
returns-else-is_named c =
    sym (ap (λ s. same_shape s c.args.running.now.kinds) (c.requires.after c.in-None.ensures (sym c.if-is_named.ensures)) ∙ same_shape_refl c.args.running.now.kinds)
