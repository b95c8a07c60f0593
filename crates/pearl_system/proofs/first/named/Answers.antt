use Rattle.std.proofs.Common.{sym, ◌∙◌, None, Some}
use Rattle.pearl_system.proofs.FirstDevices.{named_found}
use Rattle.pearl_system.proofs.first.named.Goals as goal

pub returns-in-None : goal.returns-in-None
returns-in-None c = sym (named_found c.args.devices.now c.args.first.now.entries c.args.text.now.items None c.requires c.in-None.ensures)

pub returns-in-Some : goal.returns-in-Some
returns-in-Some c =
    c.device_at.ensures
    ∙ sym (named_found c.args.devices.now c.args.first.now.entries c.args.text.now.items (Some c.in-Some.at) c.requires c.in-Some.ensures)
