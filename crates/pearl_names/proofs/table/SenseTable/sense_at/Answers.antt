use Rattle.std.proofs.Common.{◌≡◌, option_copied, sym, ap, subst, ◌∙◌}
use Rattle.pearl_names.specs.Holding.{HoldsFound, held_at}
use Rattle.pearl_names.specs.Tables.{sense_at}
use Rattle.pearl_names.proofs.HeldAt.{found_held}
use Rattle.pearl_names.proofs.table.SenseTable.sense_at.Goals as goal

pub returns : goal.returns
returns c = λ t holds.
    let table = c.args.self.now in
    let found = c.args.found in
    let is : option_copied c.sense_in.result ≡ held_at table.senses.items found =
    c.sense_in.ensures ∙ ap (λ scopes. held_at scopes found) c.as_slice.ensures.value in
    subst (λ o. HoldsFound table.forms.items o (sense_at t.senses found)) (sym is)
    (found_held table.forms.items table.senses.items t.senses found.scope found.entry holds.senses)
