use Rattle.std.proofs.Common.{◌∙◌}
use Rattle.pearl_system.proofs.FirstDevices.{same_found}
use Rattle.pearl_system.proofs.first.place_of.Goals as goal

pub returns : goal.returns
returns c = c.copied.ensures ∙ c.get.ensures.value ∙ same_found c.args.first.now.entries c.args.text.now.items
