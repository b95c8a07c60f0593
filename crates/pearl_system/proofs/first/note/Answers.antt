use Rattle.std.proofs.Common.{is_some, sym, ◌∙◌, ap}
use Rattle.pearl_system.proofs.FirstDevices.{noted_new, none_since, same_updates}
use Rattle.pearl_system.proofs.first.note.Goals as goal

pub returns-in-Ok-clause-noted : goal.returns-in-Ok-clause-noted
returns-in-Ok-clause-noted c =
    noted_new c.copy_of.result c.args.text.now.items c.args.at _ _ (ap (λ k. k.items) c.copy_of.ensures)
    (none_since _ (sym (c.is_some.ensures ∙ ap is_some c.place_of.ensures) ∙ c.if-is_some.false))
    (same_updates c.copy_of.result c.args.at c.args.first.now.entries c.insert.new.self.entries c.in-Ok.ensures.updates.0)
