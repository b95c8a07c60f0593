use Rattle.std.proofs.Common.{◌≡◌, ◌+◌, ◌++◌, ◌∷◌, [], take, ap, sym, subst, ◌∙◌}
use Rattle.std.proofs.lemmas.List.{take_more}
use Rattle.std.proofs.lemmas.List.Elements.{filter_map-append}
use Rattle.std.specs.List.{cons_option, filter_map}
use Rattle.pearl_system.specs.Devices.{device_key, meant, IsFirstIn}
use Rattle.pearl_system.specs.Rising.{Lists}
use Rattle.pearl_system.proofs.Found.{lists_meant}
use Rattle.pearl_system.proofs.device.found_devices.Goals as goal

pub loop-at-preserved : goal.loop-at-preserved
loop-at-preserved c =
    let i = c.loop-at.at in
    let names = c.args.names.now in
    let name = c.index-names-at.result in
    let devices = c.args.devices.now in
    let before = filter_map (meant devices) (take i names) in
    let cut : take (i + 1) names ≡ take i names ++ name ∷ [] = take_more names i name c.loop-at-test.true ∙ ap (λ s. take i names ++ s ∷ []) (sym c.index-names-at.is) in
    let more : filter_map (meant devices) (take (i + 1) names) ≡ before ++ cons_option (meant devices name) [] =
    ap (filter_map (meant devices)) cut ∙ filter_map-append (meant devices) (take i names) (name ∷ []) in
    subst (λ all. Lists device_key (IsFirstIn all) c.add_meant.new.found.items) (sym more)
    (lists_meant before c.loop-at.found.items c.add_meant.new.found.items (meant devices name) c.loop-at.invariant c.in_ok-add_meant.ensures.rising c.in_ok-add_meant.ensures.joins)
