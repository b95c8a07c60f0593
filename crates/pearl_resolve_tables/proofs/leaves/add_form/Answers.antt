use Rattle.std.proofs.Common.{true, ◌++◌, ◌∷◌, [], map, refl, ap, subst, ◌∙◌}
use Rattle.std.proofs.lemmas.List.{map-append, map-id}
use Rattle.pearl_tree.specs.ShownLiterals.{shown_const}
use Rattle.pearl_names.specs.Layout.{leaves_of}
use Rattle.pearl_program.specs.PlainPrograms.{PlainLeaf, plain_leaf}
use Rattle.pearl_resolve_tables.specs.Laying.{filled_leaves}
use Rattle.pearl_resolve_tables.proofs.Fills.{Fills, fills_first, fills_more, fills_all, found_leaf, plain_of}
use Rattle.pearl_resolve_tables.proofs.leaves.add_form.Goals as goal

pub loop-leaf-init : goal.loop-leaf-init
loop-leaf-init c = λ of h.
    let begun = c.in_ok-filling.filling in
    fills_first (λ (leaf : PlainLeaf). leaf) (λ leaves. leaves) c.args.forms.now true c.args.name.now begun.next begun.frames.items begun.name.items (map plain_leaf c.args.into.now.items) _ _ begun.slots
    (leaves_of [] of.bounds of.shape) (ap (map shown_const) c.in_ok-filling.ensures.constants) c.in_ok-filling.ensures.slots (c.in_ok-filling.ensures.goes of h)

pub loop-leaf-preserved : goal.loop-leaf-preserved
loop-leaf-preserved c = λ of h.
    let forms = c.args.forms.now in
    let base = c.args.name.now in
    let all = leaves_of [] of.bounds of.shape in
    let found = c.in-Some.found in
    let before = c.loop-leaf.filling in
    let after = c.pass.new.self in
    let constants = map shown_const before.constants.now in
    let first = map shown_const c.args.constants.now in
    let made = map plain_leaf c.loop-leaf.into.items in
    let begun = map plain_leaf c.args.into.now.items in
    fills_more (λ (leaf : PlainLeaf). leaf) forms true base found after.next before.frames.items after.frames.items before.name.items after.name.items made (map plain_leaf c.push.new.self.items) begun constants
    (map shown_const after.constants.now) first before.slots after.slots all
    (subst (λ n. Fills (λ (leaf : PlainLeaf). leaf) (λ leaves. leaves) forms true base n before.frames.items before.name.items made begun constants first before.slots all) c.in-Some.is (c.loop-leaf.invariant of h))
    (ap (map plain_leaf) c.in_ok-push.ensures.items ∙ map-append plain_leaf c.loop-leaf.into.items (c.in_ok-leaf.leaf ∷ [])
    ∙ ap (λ x. made ++ x ∷ []) (c.in_ok-leaf.ensures ∙ ap (λ l. plain_of l found constants) c.as_slice.ensures.value))
    c.in_ok-pass.ensures.constants c.in_ok-pass.ensures.slots (c.in_ok-pass.ensures.goes base) (λ leaf is. found_leaf base found before.name.items leaf constants is)

pub returns-in-None-clause-leaves : goal.returns-in-None-clause-leaves
returns-in-None-clause-leaves c = λ of h.
    let forms = c.args.forms.now in
    let base = c.args.name.now in
    let all = leaves_of [] of.bounds of.shape in
    let at = c.loop-leaf.filling in
    let constants = map shown_const at.constants.now in
    let first = map shown_const c.args.constants.now in
    let made = map plain_leaf c.loop-leaf.into.items in
    let begun = map plain_leaf c.args.into.now.items in
    (fills_all (λ (leaf : PlainLeaf). leaf) (λ leaves. leaves) refl forms true base at.frames.items at.name.items made begun constants first at.slots all
    (subst (λ n. Fills (λ (leaf : PlainLeaf). leaf) (λ leaves. leaves) forms true base n at.frames.items at.name.items made begun constants first at.slots all) c.in-None.is (c.loop-leaf.invariant of h))).0
    ∙ ap (λ l. begun ++ l) (map-id (filled_leaves base first all))
