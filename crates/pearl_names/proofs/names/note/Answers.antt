use Rattle.std.proofs.Common.{is_some, sym, ◌∙◌, ap}
use Rattle.pearl_names.proofs.FirstNames.{noted_new, none_since, same_updates}
use Rattle.pearl_names.proofs.names.note.Goals as goal

pub returns-in-Ok-clause-noted : goal.returns-in-Ok-clause-noted
returns-in-Ok-clause-noted c =
    noted_new c.in_ok-key.key c.args.text.now.items c.args.number _ _ (ap (λ k. k.items) c.in_ok-key.ensures)
    (none_since _ (sym (c.is_some.ensures ∙ ap is_some c.number_at.ensures) ∙ c.if-is_some.false))
    (same_updates c.in_ok-key.key c.args.number c.args.first.now.entries c.insert.new.self.entries c.in-Ok.ensures.updates.0)
