use Rattle.std.proofs.Common.{◌∙◌}
use Rattle.pearl_names.proofs.FirstNames.{same_found}
use Rattle.pearl_names.proofs.names.number_at.Goals as goal

pub returns : goal.returns
returns c = c.copied.ensures ∙ c.get.ensures.value ∙ same_found c.args.first.now.entries c.args.text.now.items
