use Rattle.std.proofs.Common.{false, [], map, Some}
use Rattle.pearl_tree.specs.ShownLiterals.{shown_const}
use Rattle.pearl_names.specs.Holding.{HoldsForm}
use Rattle.pearl_names.specs.Layout.{leaves_of}
use Rattle.pearl_names.specs.Tables.{Form}
use Rattle.pearl_program.specs.PlainPrograms.{PlainLeaf}
use Rattle.pearl_program.specs.PlainStatements.{plain_values}
use Rattle.pearl_resolve_tables.specs.Laying.{merged}
use Rattle.pearl_resolve_tables.proofs.Fills.{Fills}
use Rattle.pearl_resolve_tables.proofs.leaves.add_form_values.Given as goal

abbrev pub invariant-loop-leaf : goal.invariant-loop-leaf
invariant-loop-leaf l = (of : Form) → HoldsForm l.forms (Some l.form) (Some of) →
    Fills (λ (leaf : PlainLeaf). leaf.values) merged l.forms false [] l.filling.next l.filling.frames.items l.filling.name.items
    (map plain_values l.into.items) (map plain_values l.fn.into.items)
    (map shown_const l.left) (map shown_const l.constants) l.filling.slots (leaves_of [] of.bounds of.shape)
