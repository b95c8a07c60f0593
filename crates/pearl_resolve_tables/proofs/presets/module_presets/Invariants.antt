use Rattle.std.proofs.Common.{◌≡◌, ◌++◌, map, drop}
use Rattle.std.specs.List.{flat_map}
use Rattle.pearl_tree.specs.ShownModules.{shown_decl}
use Rattle.pearl_resolve_tables.specs.Presets.{decl_presets}
use Rattle.pearl_resolve_tables.proofs.presets.module_presets.Given as goal

abbrev pub invariant-loop-decl : goal.invariant-loop-decl
invariant-loop-decl l =
    l.made.items ++ flat_map decl_presets (map shown_decl (drop l.decl-index l.tree.declarations.items.items)) ≡
    flat_map decl_presets (map shown_decl l.tree.declarations.items.items)
