use Rattle.std.proofs.Common.{subst, arith}
use Rattle.std.proofs.lemmas.Result.{err_from_is_err_and}
use Rattle.pearl_instructions.specs.Lawful.{IsObject}
use Rattle.pearl_top.proofs.ObjectEnds.{unreadable}
use Rattle.pearl_top.proofs.object.object_in.Goals as goal

pub returns-in_err-object-clause-err : goal.returns-in_err-object-clause-err
returns-in_err-object-clause-err c =
    let e = err_from_is_err_and c.from_residual.result c.from_residual.ensures.1 in
    rw (e.1, e.2) (unreadable c.args.file.now c.in_err-object.field-0.0 c.requires c.in_err-object.ensures.only c.in_err-object.ensures.bad)

pub returns-clause-ok : goal.returns-clause-ok
returns-clause-ok c = record {
  within = c.requires;
  in_bytes = λ i. omega (arith, c.type_inv.file i);
  lawful = subst IsObject c.parts-parts.ensures.value c.parts-parts.ensures.object;
  spelled = c.in_ok-object.ensures.read;
}
