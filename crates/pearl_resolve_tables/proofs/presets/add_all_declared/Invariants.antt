use Rattle.std.proofs.Common.{◌≡◌, ◌++◌, map, drop}
use Rattle.std.specs.List.{flat_map}
use Rattle.pearl_tree.specs.ShownDeclarations.{shown_declared}
use Rattle.pearl_resolve_tables.specs.Presets.{declared_presets}
use Rattle.pearl_resolve_tables.proofs.presets.add_all_declared.Given as goal

abbrev pub invariant-loop-one : goal.invariant-loop-one
invariant-loop-one l =
    l.into.items ++ flat_map declared_presets (map shown_declared (drop l.one-index l.declared)) ≡
    l.fn.into.items ++ flat_map declared_presets (map shown_declared l.declared)
