use Rattle.pearl_names.proofs.DeclLists.{one_more_type, one_more_entries}
use Rattle.pearl_names.proofs.collect.declare_decls.Goals as goal

pub loop-decl-preserved : goal.loop-decl-preserved
loop-decl-preserved c = (
  one_more_type _ _ _ _ c.decl-item.result c.loop-decl-test.true c.decl-item.is c.loop-decl.invariant.0 c.in_ok-types.ensures,
  one_more_entries _ _ _ _ _ _ c.decl-item.result c.loop-decl-test.true c.decl-item.is c.loop-decl.invariant.0
      c.loop-decl.invariant.1 c.in_ok-declare_decl.ensures,
)
