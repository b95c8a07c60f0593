use Rattle.std.proofs.Common.{◌≡◌, Some, refl, sym, ap, ◌∙◌, slice_get}
use Rattle.std.proofs.lemmas.Option.{slice_get_read}
use Rattle.pearl_names.specs.Found.{names_in}
use Rattle.pearl_names.proofs.table.SenseTable.names_in.Goals as goal

pub returns-in-Some : goal.returns-in-Some
returns-in-Some c =
    let items = c.deref.result.now in
    let n = c.args.scope in
    let at : slice_get items n ≡ Some c.in-Some.scope.now = slice_get_read items _ n c.in-Some.scope.now refl c.in-Some.ensures.lookup.3.0 c.in-Some.ensures.lookup.1 in
    c.names.ensures ∙ sym (ap names_in at) ∙ ap (λ l. names_in (slice_get l n)) c.deref.ensures.value
