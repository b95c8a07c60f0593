use Rattle.std.proofs.Common.{false, ◌++◌, ◌∷◌, [], map, refl, ap, subst, ◌∙◌}
use Rattle.std.proofs.lemmas.List.{map-append}
use Rattle.pearl_tree.specs.ShownLiterals.{shown_const}
use Rattle.pearl_names.specs.Layout.{leaves_of}
use Rattle.pearl_program.specs.PlainPrograms.{PlainLeaf}
use Rattle.pearl_program.specs.PlainStatements.{plain_values}
use Rattle.pearl_resolve_tables.specs.Laying.{merged}
use Rattle.pearl_resolve_tables.proofs.Fills.{Fills, fills_first, fills_past, fills_all}
use Rattle.pearl_resolve_tables.proofs.leaves.add_form_values.Goals as goal

pub loop-leaf-init : goal.loop-leaf-init
loop-leaf-init c = λ of h.
    let begun = c.in_ok-filling.filling in
    let constants = map shown_const c.args.constants.now in
    fills_first (λ (leaf : PlainLeaf). leaf.values) merged c.args.forms.now false [] begun.next begun.frames.items begun.name.items (map plain_values c.args.into.now.items) constants constants begun.slots
    (leaves_of [] of.bounds of.shape) refl c.in_ok-filling.ensures.slots (c.in_ok-filling.ensures.goes of h)

pub loop-leaf-preserved : goal.loop-leaf-preserved
loop-leaf-preserved c = λ of h.
    let forms = c.args.forms.now in
    let all = leaves_of [] of.bounds of.shape in
    let found = c.in-Some.found in
    let before = c.loop-leaf.filling in
    let after = c.pass_alike.new.self in
    let constants = map shown_const c.loop-leaf.left.now in
    let first = map shown_const c.args.constants.now in
    let made = map plain_values c.loop-leaf.into.items in
    let begun = map plain_values c.args.into.now.items in
    fills_past forms found after.next before.frames.items after.frames.items before.name.items after.name.items made (map plain_values c.push.new.self.items) begun constants
    _ first before.slots c.in_ok-count.count after.slots all
    (subst (λ n. Fills (λ (leaf : PlainLeaf). leaf.values) merged forms false [] n before.frames.items before.name.items made begun constants first before.slots all) c.in-Some.is (c.loop-leaf.invariant of h))
    (ap (map plain_values) c.in_ok-push.ensures.items ∙ map-append plain_values c.loop-leaf.into.items (c.in_ok-values.values ∷ [])
    ∙ ap (λ x. made ++ x ∷ []) c.in_ok-values.ensures)
    c.left_behind-left.ensures c.in_ok-count.ensures.slots c.in_ok-count.ensures.passes
