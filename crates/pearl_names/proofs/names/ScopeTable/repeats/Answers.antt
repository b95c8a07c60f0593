use Rattle.std.proofs.Common.{ap, ◌∙◌}
use Rattle.pearl_names.specs.FirstNames.{repeated}
use Rattle.pearl_names.proofs.names.ScopeTable.repeats.Goals as goal

pub returns : goal.returns
returns c = c.as_slice.ensures.value ∙ c.self.invariant.repeats ∙ ap (λ scope. repeated scope.names) c.self.view_is
