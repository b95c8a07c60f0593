use Rattle.pearl_names.proofs.DeclLists.{one_more_type, one_more_scopes}
use Rattle.pearl_names.proofs.collect.collect_decls.Goals as goal

pub loop-decl-preserved : goal.loop-decl-preserved
loop-decl-preserved c = (
  one_more_type _ _ _ _ c.decl-item.result c.loop-decl-test.true c.decl-item.is c.loop-decl.invariant.0 c.in_ok-types.ensures,
  one_more_scopes _ _ _ _ _ _ c.decl-item.result c.loop-decl-test.true c.decl-item.is c.loop-decl.invariant.0
      c.loop-decl.invariant.1 c.in_ok-collect_decl.ensures,
)
