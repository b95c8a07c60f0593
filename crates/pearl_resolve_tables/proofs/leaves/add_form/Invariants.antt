use Rattle.std.proofs.Common.{true, [], map, Some}
use Rattle.pearl_tree.specs.ShownLiterals.{shown_const}
use Rattle.pearl_names.specs.Holding.{HoldsForm}
use Rattle.pearl_names.specs.Layout.{leaves_of}
use Rattle.pearl_names.specs.Tables.{Form}
use Rattle.pearl_program.specs.PlainPrograms.{PlainLeaf, plain_leaf}
use Rattle.pearl_resolve_tables.proofs.Fills.{Fills}
use Rattle.pearl_resolve_tables.proofs.leaves.add_form.Given as goal

abbrev pub invariant-loop-leaf : goal.invariant-loop-leaf
invariant-loop-leaf l = (of : Form) → HoldsForm l.forms (Some l.form) (Some of) →
    Fills (λ (leaf : PlainLeaf). leaf) (λ leaves. leaves) l.forms true l.name l.filling.next l.filling.frames.items l.filling.name.items
    (map plain_leaf l.into.items) (map plain_leaf l.fn.into.items)
    (map shown_const l.filling.constants.now) (map shown_const l.constants) l.filling.slots (leaves_of [] of.bounds of.shape)
