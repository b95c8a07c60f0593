use Rattle.std.proofs.Common.{inl}
use Rattle.std.proofs.lemmas.Result.{err_from_is_err_and}
use Rattle.pearl_top.specs.CheckDue.{IsUnaccepted}
use Rattle.pearl_top.proofs.SourceEnds.{broken, unspelled}
use Rattle.pearl_top.proofs.compile.program.Goals as goal

pub returns-in_err-tree-clause-err : goal.returns-in_err-tree-clause-err
returns-in_err-tree-clause-err c =
    let source = c.args.source.now in
    let p = err_from_is_err_and c.from_residual.result c.from_residual.ensures.1 in
    rw (p.1, p.2) (unspelled source (λ bytes. ⊥) (IsUnaccepted source) c.in_err-tree.field-0.0 (λ bytes h. inl h) c.in_err-tree.ensures.err)

pub returns-in_err-program-clause-err : goal.returns-in_err-program-clause-err
returns-in_err-program-clause-err c =
    let source = c.args.source.now in
    let p = err_from_is_err_and c.from_residual-in_err-program.result c.from_residual-in_err-program.ensures.1 in
    rw (p.1, p.2) (broken source (λ bytes. ⊥) c.in_err-program.field-0.0 c.in_ok-tree.tree c.in_ok-tree.ensures.tree c.in_err-program.ensures.refused)

pub returns-clause-source : goal.returns-clause-source
returns-clause-source c = record {
  is = record { tree = c.in_ok-tree.tree; is = c.in_ok-tree.ensures.tree; none = c.in_ok-program.ensures.accepted };
  program = c.in_ok-program.ensures.program;
}
