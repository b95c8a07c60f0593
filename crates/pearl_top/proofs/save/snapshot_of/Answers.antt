use Rattle.std.proofs.Common.{refl, subst, sym}
use Rattle.std.proofs.lemmas.Result.{err_from_is_err_and}
use Rattle.pearl_saved.specs.Rules.{IsMachineState}
use Rattle.pearl_top.proofs.SaveEnds.{is_snapshot_of}
use Rattle.pearl_top.proofs.save.snapshot_of.Goals as goal

pub saved-requires : goal.saved-requires
saved-requires c = record { taken = c.requires }

pub save-requires : goal.save-requires
save-requires c = subst (λ o. IsMachineState o c.in_ok-saved.saved) (sym c.object.ensures) c.in_ok-saved.ensures.state

pub returns-in_err-saved-clause-ok : goal.returns-in_err-saved-clause-ok
returns-in_err-saved-clause-ok c = let e = err_from_is_err_and c.from_residual.result c.from_residual.ensures.1 in rw e.1 tt

pub returns-in_err-saved-clause-err : goal.returns-in_err-saved-clause-err
returns-in_err-saved-clause-err c = let e = err_from_is_err_and c.from_residual.result c.from_residual.ensures.1 in rw (e.1, e.2) refl

pub returns-in_err-text-clause-ok : goal.returns-in_err-text-clause-ok
returns-in_err-text-clause-ok c = let e = err_from_is_err_and c.from_residual-in_err-text.result c.from_residual-in_err-text.ensures.1 in rw e.1 tt

pub returns-in_err-text-clause-err : goal.returns-in_err-text-clause-err
returns-in_err-text-clause-err c = let e = err_from_is_err_and c.from_residual-in_err-text.result c.from_residual-in_err-text.ensures.1 in rw (e.1, e.2) refl

pub returns-clause-ok : goal.returns-clause-ok
returns-clause-ok c =
    is_snapshot_of c.args.machine.now c.saved.new.self c.object.result.now c.in_ok-saved.saved c.in_ok-text.text.items c.saved.ensures.handles
    c.saved.ensures.settled c.saved.ensures.object c.object.ensures c.in_ok-saved.ensures.saved c.in_ok-saved.ensures.state
    (c.in_ok-text.ensures.snapshot c.in_ok-saved.ensures.ends)

pub returns-clause-err : goal.returns-clause-err
returns-clause-err c = tt
