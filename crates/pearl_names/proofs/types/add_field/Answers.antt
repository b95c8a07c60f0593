use Rattle.std.proofs.Common.{refl, ◌∙◌, ap}
use Rattle.pearl_names.specs.Counts.{joined}
use Rattle.pearl_names.proofs.types.add_field.Goals as goal

pub returns-clause-added : goal.returns-clause-added
returns-clause-added c = λ _. (
  c.in_ok-add.ensures.added c.if-not-branch.false,
  c.joined-form.ensures ∙ ap (joined c.args.form.now.counts) c.behind_field.ensures,
  refl,
)
