use Rattle.std.proofs.Common.{◌≡◌, ◌++◌, drop}
use Rattle.pearl_tree.specs.Names.{names_of}
use Rattle.pearl_tree.specs.ShownDeclarations.{shown_names}
use Rattle.pearl_resolve_tables.specs.Presets.{presets}
use Rattle.pearl_resolve_tables.proofs.presets.add_presets.Given as goal

abbrev pub invariant-loop-index : goal.invariant-loop-index
invariant-loop-index l =
    l.into.items ++ presets (drop l.index (names_of (shown_names l.sema.names))) (drop l.index l.sema.preset.items.items) ≡
    l.fn.into.items ++ presets (names_of (shown_names l.sema.names)) l.sema.preset.items.items
