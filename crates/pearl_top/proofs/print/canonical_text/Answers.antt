use Rattle.std.proofs.lemmas.Result.{err_from_is_err_and}
use Rattle.pearl_top.specs.PrintDue.{IsPrinted}
use Rattle.pearl_top.specs.Sources.{IsUnspelled}
use Rattle.pearl_top.proofs.SourceEnds.{unspelled}
use Rattle.pearl_top.proofs.print.canonical_text.Goals as goal

pub returns-in_err-tree-clause-err : goal.returns-in_err-tree-clause-err
returns-in_err-tree-clause-err c =
    let source = c.args.source.now in
    let p = err_from_is_err_and c.from_residual.result c.from_residual.ensures.1 in
    rw (p.1, p.2) (unspelled source (IsPrinted source) (IsUnspelled source) c.in_err-tree.field-0.0 (λ bytes h. h) c.in_err-tree.ensures.err)

pub returns-clause-ok : goal.returns-clause-ok
returns-clause-ok c = record { tree = c.in_ok-tree.tree; is = c.in_ok-tree.ensures.tree; text = c.in_ok-text.ensures.spells }
