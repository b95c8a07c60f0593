use Rattle.std.proofs.Common.{ap, inl}
use Rattle.std.proofs.lemmas.Result.{err_from_is_err_and}
use Rattle.pearl_top.specs.CheckDue.{IsAccepted, IsUnaccepted, accepted_line}
use Rattle.pearl_top.proofs.SourceEnds.{broken, unspelled}
use Rattle.pearl_top.proofs.check.sizes_of.Goals as goal

pub returns-in_err-tree-clause-err : goal.returns-in_err-tree-clause-err
returns-in_err-tree-clause-err c =
    let source = c.args.source.now in
    let p = err_from_is_err_and c.from_residual.result c.from_residual.ensures.1 in
    rw (p.1, p.2) (unspelled source (IsAccepted source) (IsUnaccepted source) c.in_err-tree.field-0.0 (λ bytes h. inl h) c.in_err-tree.ensures.err)

pub returns-in_err-sizes-clause-err : goal.returns-in_err-sizes-clause-err
returns-in_err-sizes-clause-err c =
    let source = c.args.source.now in
    let p = err_from_is_err_and c.from_residual-in_err-sizes.result c.from_residual-in_err-sizes.ensures.1 in
    rw (p.1, p.2) (broken source (IsAccepted source) c.in_err-sizes.field-0.0 c.in_ok-tree.tree c.in_ok-tree.ensures.tree c.in_err-sizes.ensures.refused)

pub returns-clause-ok : goal.returns-clause-ok
returns-clause-ok c = record {
  is = record { tree = c.in_ok-tree.tree; is = c.in_ok-tree.ensures.tree; none = c.in_ok-sizes.ensures.accepted };
  text = ap accepted_line c.in_ok-sizes.ensures.sizes;
}
