use Rattle.std.proofs.Common.{ℕ, not, ap, ◌∙◌}
use Rattle.arrayvec.specs.ArrayVec.{ArrayVec}
use Rattle.pearl_system.specs.Devices.{spelling}
use Rattle.pearl_system.specs.FirstDevices.{has_pair}
use Rattle.pearl_system.proofs.FirstDevices.{added_pair, not_not, same_added, same_has}
use Rattle.pearl_system.proofs.first.add_twin.Goals as goal

pub returns-in-Ok-clause-twice : goal.returns-in-Ok-clause-twice
returns-in-Ok-clause-twice c =
    let pair : ArrayVec ℕ × ℕ = (c.in_ok-text.text, c.args.device.now.number.value) in
    ap not c.in-Ok.ensures.added ∙ not_not _ ∙ same_has c.args.twins.now.keys pair
    ∙ ap (λ word. has_pair c.args.twins.now.keys word c.args.device.now.number.value) c.in_ok-text.ensures

pub returns-in-Ok-clause-added : goal.returns-in-Ok-clause-added
returns-in-Ok-clause-added c =
    let pair : ArrayVec ℕ × ℕ = (c.in_ok-text.text, c.args.device.now.number.value) in
    added_pair c.in_ok-text.text (spelling c.args.device.now.word) c.args.device.now.number.value _ _ c.in_ok-text.ensures
    (same_added pair c.args.twins.now.keys c.insert.new.self.keys c.in-Ok.ensures.updates.0)
