use Rattle.std.proofs.Common.{sym, subst}
use Rattle.pearl_names.specs.Forms.{StandsFor}
use Rattle.pearl_resolve.specs.Expressions.{to_field}
use Rattle.pearl_resolve.specs.Holding.{HoldsWalk}
use Rattle.pearl_resolve.proofs.Reached.{no_field_of_kind}
use Rattle.pearl_resolve.proofs.walk.select.Goals as goal

pub returns-in-Basic : goal.returns-in-Basic
returns-in-Basic c = λ from h.
    let forms = c.args.forms.now in
    let none = no_field_of_kind forms c.in-Basic.field-0 from.shape c.args.name.now (subst (λ part. StandsFor forms part from.shape) c.in-Basic.is h.part) in
    subst (λ o. HoldsWalk forms c.args.walk.now (to_field from o)) (sym none) h
