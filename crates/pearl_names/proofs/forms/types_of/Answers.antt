use Rattle.pearl_names.proofs.TypesMade.{types_more}
use Rattle.pearl_names.proofs.forms.types_of.Goals as goal

pub loop-decl-preserved : goal.loop-decl-preserved
loop-decl-preserved c =
    types_more c.args.scopes.now c.args.lengths.now _ _ _ _ c.args.decls.now c.loop-decl.decl-index c.decl-item.result c.loop-decl-test.true c.decl-item.is
    c.loop-decl.invariant c.in_ok-add_type.ensures
