use Rattle.std.proofs.Common.{◌≡◌, ◌<◌, length, subst}
use Rattle.pearl_tree.specs.Names.{names_of}
use Rattle.pearl_tree.specs.ShownDeclarations.{shown_names}
use Rattle.pearl_resolve_tables.proofs.Making.{preset_at, presets_more}
use Rattle.pearl_resolve_tables.proofs.presets.add_presets.Goals as goal

pub loop-index-preserved : goal.loop-index-preserved
loop-index-preserved c =
    let names = names_of (shown_names c.args.sema.now.names) in
    let numbers = c.args.sema.now.preset.items.items in
    let i = c.loop-index.index in
    let inside : i < length names = subst (λ l. i < length l) c.as_slice-names.ensures c.loop-index-test.true in
    presets_more names numbers i c.in_ok-preset_at.field-0 c.loop-index.into.items c.push.new.self.items _ inside
    (subst (λ l. c.in_ok-preset_at.field-0 ≡ preset_at l i) c.as_slice.ensures c.in_ok-preset_at.ensures) c.in_ok-push.ensures.items c.loop-index.invariant
