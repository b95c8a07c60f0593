use Rattle.std.proofs.Common.{List, map, refl, ◌∙◌}
use Rattle.std.specs.List.{flat_map}
use Rattle.pearl_tree.specs.declared.tree.Decl.{Decl}
use Rattle.pearl_tree.specs.ShownModules.{shown_decl}
use Rattle.pearl_resolve_tables.specs.Formats.{decl_formats}
use Rattle.pearl_resolve_tables.proofs.Making.{made_more, made_all}
use Rattle.pearl_resolve_tables.proofs.formats.module_formats.Goals as goal

pub loop-decl-preserved : goal.loop-decl-preserved
loop-decl-preserved c =
    let xs = c.args.tree.now.declarations.items.items in
    made_more (λ (l : List Decl). flat_map decl_formats (map shown_decl l)) (λ (x : Decl). decl_formats (shown_decl x)) (λ x rest. refl) xs c.loop-decl.decl-index c.decl-item.result
    c.loop-decl.made.items c.add_decl.new.into.items _ (rw c.as_slice-decl-items.ensures at c.loop-decl-test.true) (rw c.as_slice-decl-items.ensures at c.decl-item.is)
    c.in_ok-add_decl.ensures c.loop-decl.invariant

pub returns : goal.returns
returns c =
    let xs = c.args.tree.now.declarations.items.items in
    c.new.ensures ∙ made_all (λ (l : List Decl). flat_map decl_formats (map shown_decl l)) refl xs c.loop-decl.decl-index c.loop-decl.made.items _
    (rw c.as_slice-decl-items.ensures at c.loop-decl-test.false) c.loop-decl.invariant
