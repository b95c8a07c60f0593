use Rattle.std.proofs.Common.{◌++◌, ◌∷◌, [], map, refl, ap, ◌∙◌}
use Rattle.pearl_resolve_tables.specs.Devices.{device_of}
use Rattle.pearl_resolve_tables.proofs.Making.{made_more, made_all}
use Rattle.pearl_resolve_tables.proofs.devices.program_devices.Goals as goal

pub loop-one-preserved : goal.loop-one-preserved
loop-one-preserved c =
    let lengths = c.args.lengths.now in
    let made = c.loop-one.made.items in
    made_more (map (device_of lengths)) (λ x. device_of lengths x ∷ []) (λ x rest. refl) c.args.specified.now c.loop-one.one-index c.one-item.result made c.push.new.self.items _
    c.loop-one-test.true c.one-item.is (c.in_ok-push.ensures.items ∙ ap (λ d. made ++ d ∷ []) c.device_of.ensures) c.loop-one.invariant

pub returns : goal.returns
returns c =
    c.new.ensures ∙ made_all (map (device_of c.args.lengths.now)) refl c.args.specified.now c.loop-one.one-index c.loop-one.made.items _ c.loop-one-test.false c.loop-one.invariant
