use Rattle.std.proofs.Common.{List, reverse, ap, ◌∙◌}
use Rattle.pearl_value.specs.declared.kind.CellKind.{CellKind}
use Rattle.pearl_instructions.specs.Operands.{same_shape}
use Rattle.pearl_verify.proofs.Shapes.{same_reversed}
use Rattle.pearl_verify.proofs.kinds.Kinds.are.Goals as goal

pub returns : goal.returns
returns c =
    let items : List CellKind = c.self.inside.kinds.items in
    c.same_list.ensures ∙ (ap (same_shape c.args.kinds.now) c.as_slice.ensures.value ∙ (same_reversed c.args.kinds.now items ∙ ap (same_shape (reverse c.args.kinds.now)) c.self.view_is))
