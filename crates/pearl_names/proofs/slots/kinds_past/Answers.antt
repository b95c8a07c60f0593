use Rattle.std.proofs.Common.{ap, sym, ◌∙◌}
use Rattle.std.proofs.lemmas.Option.{same_Some, none-some}
use Rattle.pearl_names.specs.declared.types.Leap.{Leap}
use Rattle.pearl_names.proofs.slots.kinds_past.Goals as goal

pub returns-in-Some : goal.returns-in-Some
returns-in-Some c = λ leap is. ap (λ (l : Leap). l.behind) (same_Some c.in-Some.leap leap (sym c.in-Some.is ∙ c.leap_at.ensures ∙ is))

pub returns-in-None : goal.returns-in-None
returns-in-None c = λ leap is. absurd (none-some leap (sym c.in-None.is ∙ c.leap_at.ensures ∙ is))
