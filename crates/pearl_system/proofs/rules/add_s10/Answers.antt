use Rattle.std.proofs.Common.{◌≡◌, ◌+◌, ◌++◌, ◌∷◌, [], length, get_or, map, min, take, is_some, append_assoc, ap, sym, subst, ◌∙◌, arith}
use Rattle.std.proofs.lemmas.List.{length-take, take_more}
use Rattle.pearl_tree.specs.declared.rule.TheConstants as rule
use Rattle.pearl_tree.specs.Faults.{fault_if}
use Rattle.pearl_tree.specs.Names.{is_among}
use Rattle.pearl_system.specs.FirstDevices.{IsIndex}
use Rattle.pearl_system.specs.Rules.{s10}
use Rattle.pearl_system.proofs.FirstDevices.{among_found, index_push}
use Rattle.pearl_system.proofs.Walks.{s10_push}
use Rattle.pearl_system.proofs.rules.add_s10.Goals as goal

pub loop-at-preserved : goal.loop-at-preserved
loop-at-preserved c =
    let i = c.loop-at.at in
    let devices = c.args.devices.now in
    let device = get_or devices i c.index-devices-at.result in
    let before = take i devices in
    let old = c.args.faults.now.items in
    let text = device.name.text.items in
    let place = device.name.place in
    let cut : take (i + 1) devices ≡ before ++ device ∷ [] = take_more devices i c.index-devices-at.result c.loop-at-test.true in
    let length_is : length before ≡ min i (length devices) = length-take i devices in
    let last : i ≡ length before = omega arith in
    let twice : c.in_ok-twice.twice ≡ is_among (map (λ d. d.name) before) text =
    c.in_ok-twice.ensures.twice ∙ ap is_some (c.loop-at.invariant.0 text) ∙ sym (among_found before text) in (
      subst (λ ds. IsIndex ds c.note.new.first.entries) (sym cut)
          (index_push before device i c.loop-at.first.entries c.note.new.first.entries c.loop-at.invariant.0 last c.in_ok-twice.ensures.noted),
      c.in_ok-push_if.ensures
          ∙ ap (λ faults. faults ++ fault_if c.in_ok-twice.twice place rule.S10) c.loop-at.invariant.1
          ∙ append_assoc old (s10 before) (fault_if c.in_ok-twice.twice place rule.S10)
          ∙ ap (λ faults. old ++ faults)
          (ap (λ b. s10 before ++ fault_if b place rule.S10) twice ∙ sym (s10_push before device) ∙ ap s10 (sym cut)),
    )
