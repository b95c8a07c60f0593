use Rattle.std.proofs.Common.{◌≡◌, [], Some, None, refl, sym, ap, subst, ◌∙◌, slice_get, unwrap_or}
use Rattle.std.proofs.lemmas.Option.{slice_get_read, slice_get_past}
use Rattle.pearl_names.specs.Holding.{HoldsAll}
use Rattle.pearl_names.proofs.HeldAt.{scope_held, scope_past}
use Rattle.pearl_names.proofs.table.SenseTable.senses_in.Goals as goal

pub returns-in-Some : goal.returns-in-Some
returns-in-Some c = λ t holds.
    let table = c.args.self.now in
    let items = c.deref.result.now in
    let n = c.args.scope in
    let at : slice_get items n ≡ Some c.in-Some.scope.now = slice_get_read items _ n c.in-Some.scope.now refl c.in-Some.ensures.lookup.3.0 c.in-Some.ensures.lookup.1 in
    subst (λ l. HoldsAll table.forms.items l (unwrap_or (slice_get t.senses n) [])) (sym c.as_slice.ensures.value)
    (scope_held table.forms.items table.senses.items t.senses n c.in-Some.scope.now holds.senses (ap (λ l. slice_get l n) (sym c.deref.ensures.value) ∙ at))

pub returns-in-None : goal.returns-in-None
returns-in-None c = λ t holds.
    let table = c.args.self.now in
    let items = c.deref.result.now in
    let n = c.args.scope in
    let at : slice_get items n ≡ None = slice_get_past items n c.in-None.ensures.lookup.3 in
    scope_past table.forms.items table.senses.items t.senses n holds.senses (ap (λ l. slice_get l n) (sym c.deref.ensures.value) ∙ at)
