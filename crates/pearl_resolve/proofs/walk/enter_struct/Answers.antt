use Rattle.std.proofs.Common.{sym, subst}
use Rattle.pearl_resolve.specs.Expressions.{to_field}
use Rattle.pearl_resolve.specs.Holding.{HoldsWalk}
use Rattle.pearl_resolve.proofs.Reached.{found, on_ok}
use Rattle.pearl_resolve.proofs.walk.enter_struct.Goals as goal

pub returns-in-Some-field_of : goal.returns-in-Some-field_of
returns-in-Some-field_of c = on_ok c.enter.result (λ entered from walks stands.
    let forms = c.args.forms.now in
    let it = found forms c.args.number from.shape c.args.name.now c.in-Some-field_of.field c.in-Some.bounds.now stands c.in-Some.ensures c.in-Some-field_of.ensures in
    subst (λ o. HoldsWalk forms c.enter.new.walk (to_field from o)) (sym it.is) (entered forms from it.of walks it.part it.pairs)) c.enter.ensures
