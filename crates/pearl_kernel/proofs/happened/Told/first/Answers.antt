use Rattle.std.proofs.Common.{box_value, ap, sym, ◌∷◌, ◌∙◌}
use Rattle.pearl_kernel.proofs.Events.{first-none, first-some}
use Rattle.pearl_kernel.proofs.happened.Told.first.Goals as goal

pub returns-in-None : goal.returns-in-None
returns-in-None c = sym c.self.view_is ∙ first-none box_value c.self.inside.events.items c.in-None.ensures

pub returns-in-Some : goal.returns-in-Some
returns-in-Some c =
    let first = first-some box_value c.self.inside.events.items c.in-Some.place.now c.in-Some.ensures in
    (first.0, sym c.self.view_is ∙ (first.1 ∙ ap (λ e. e ∷ first.0) (sym c.deref.ensures)))
