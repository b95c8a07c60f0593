use Rattle.std.proofs.Common.{◌≡◌, ◌+◌, ◌++◌, ◌∷◌, [], take, append_assoc, ap, sym, subst, ◌∙◌}
use Rattle.std.proofs.lemmas.List.{take_more}
use Rattle.std.specs.List.{list_any}
use Rattle.pearl_tree.specs.declared.rule.TheConstants as rule
use Rattle.pearl_tree.specs.Faults.{fault_if}
use Rattle.pearl_system.specs.Devices.{spelling}
use Rattle.pearl_system.specs.FirstDevices.{HoldsTwins}
use Rattle.pearl_system.specs.Rules.{is_twin, s12}
use Rattle.pearl_system.proofs.FirstDevices.{twins_push}
use Rattle.pearl_system.proofs.Walks.{s12_push}
use Rattle.pearl_system.proofs.rules.add_s12.Goals as goal

pub loop-device-preserved : goal.loop-device-preserved
loop-device-preserved c =
    let i = c.loop-device.device-index in
    let devices = c.args.devices.now in
    let device = c.device-item.result in
    let before = take i devices in
    let old = c.args.faults.now.items in
    let place = device.name.place in
    let cut : take (i + 1) devices ≡ before ++ device ∷ [] =
    take_more devices i device c.loop-device-test.true ∙ ap (λ d. before ++ d ∷ []) (sym c.device-item.is) in
    let twice : c.in_ok-twice.twice ≡ list_any (is_twin device) before =
    c.in_ok-twice.ensures.twice ∙ c.loop-device.invariant.0 (spelling device.word) device.number.value in (
      subst (λ ds. HoldsTwins ds c.add_twin.new.twins.keys) (sym cut)
          (twins_push before device c.loop-device.twins.keys c.add_twin.new.twins.keys c.loop-device.invariant.0 c.in_ok-twice.ensures.added),
      c.in_ok-push_if.ensures
          ∙ ap (λ faults. faults ++ fault_if c.in_ok-twice.twice place rule.S12) c.loop-device.invariant.1
          ∙ append_assoc old (s12 before) (fault_if c.in_ok-twice.twice place rule.S12)
          ∙ ap (λ faults. old ++ faults)
          (ap (λ b. s12 before ++ fault_if b place rule.S12) twice ∙ sym (s12_push before device) ∙ ap s12 (sym cut)),
    )
