use Rattle.std.proofs.Common.{◌++◌, map, ap}
use Rattle.std.specs.List.{flat_map}
use Rattle.pearl_tree.specs.ShownModules.{shown_decl}
use Rattle.pearl_program.specs.PlainPrograms.{plain_leaf}
use Rattle.pearl_resolve.specs.Resolve.{decl_leaves}
use Rattle.pearl_resolve.proofs.ModuleLeaves.{flat_more, flat_all}
use Rattle.pearl_resolve.proofs.module_leaves.module_leaves.Goals as goal

pub loop-decl-init : goal.loop-decl-init
loop-decl-init c = λ of holds. ap (λ l. map plain_leaf l ++ flat_map (decl_leaves of) (map shown_decl c.args.decls.now)) c.new-leaves.ensures.items

pub loop-decl-preserved : goal.loop-decl-preserved
loop-decl-preserved c = λ of holds.
    flat_more shown_decl (decl_leaves of) c.args.decls.now c.loop-decl.decl-index c.decl-item.result _ _ _ c.loop-decl-test.true c.decl-item.is
    (c.in_ok-add_decl_leaves.ensures of holds) (c.loop-decl.invariant of holds)

pub returns : goal.returns
returns c = λ of holds. flat_all shown_decl (decl_leaves of) c.args.decls.now c.loop-decl.decl-index _ _ c.loop-decl-test.false (c.loop-decl.invariant of holds)
