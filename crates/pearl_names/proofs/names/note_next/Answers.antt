use Rattle.std.proofs.Common.{refl, sym, ◌∙◌}
use Rattle.pearl_names.proofs.Repeating.{new_name, old_name}
use Rattle.pearl_names.proofs.names.note_next.Goals as goal

pub returns-then-not-branch-clause-noted : goal.returns-then-not-branch-clause-noted
returns-then-not-branch-clause-noted c = λ names counted has.
    new_name names c.args.entry.now c.args.entry.now.name c.args.number _ _ _ has c.in_ok-after.ensures.few counted refl c.in_ok-note.ensures.noted
    (sym c.if-not-branch.true ∙ c.in_ok-note.ensures.twice) _ refl

pub returns-clause-noted : goal.returns-clause-noted
returns-clause-noted c = λ names counted has.
    old_name names c.args.entry.now c.args.entry.now.name c.args.number _ _ _ has c.in_ok-after.ensures.few counted refl c.in_ok-note.ensures.noted
    (sym c.if-not-branch.false ∙ c.in_ok-note.ensures.twice) _ c.in_ok-push.ensures.items
