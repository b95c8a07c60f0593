use Rattle.std.proofs.Common.{◌≡◌, ◌++◌, subst, ap, sym, ◌∙◌, map, append_assoc}
use Rattle.std.specs.List.{flat_map}
use Rattle.std.specs.Result.{OnOk}
use Rattle.pearl_tree.specs.declared.expression.Ref.{Ref}
use Rattle.pearl_tree.specs.ShownExpressions.{shown_expr, shown_primary, shown_selector, shown_selector_list, shown_ref}
use Rattle.pearl_scope.specs.Parts.{expr_parts, primary_parts, selectors_parts, selector_parts, ref_parts, name_part}
use Rattle.pearl_scope.specs.PartLists.{parts_in, selector_list_parts}
use Rattle.pearl_scope.proofs.PartLists.{subscripts_shown, ref_shown, limit_shown, selector_list_each}
use Rattle.pearl_scope.proofs.part.«+expression».Goals as goal

pub add_primary-returns-in-Ref : goal.add_primary-returns-in-Ref
add_primary-returns-in-Ref t c =
    let view = c.args.view in
    let e : primary_parts view (shown_primary c.args.primary.now) ≡ ref_parts view (shown_ref c.in-Ref.reference) =
    ap (λ p. primary_parts view (shown_primary p)) c.in-Ref.is ∙ ref_shown view c.in-Ref.reference in
    rw e c.add_ref.ensures

pub add_primary-returns-in-Limit : goal.add_primary-returns-in-Limit
add_primary-returns-in-Limit t c =
    let view = c.args.view in
    let e : primary_parts view (shown_primary c.args.primary.now) ≡ ref_parts view (shown_ref c.in-Limit.array.value) =
    ap (λ p. primary_parts view (shown_primary p)) c.in-Limit.is ∙ limit_shown view c.in-Limit.dimension c.in-Limit.side c.in-Limit.array c.in-Limit.place in
    rw e (subst (λ (array : Ref). OnOk c.add_ref-in-Limit.result (parts_in c.add_ref-in-Limit.new.parts.items ≡ parts_in c.args.parts.now.items ++ ref_parts view (shown_ref array)))
    c.deref-in-Limit.ensures c.add_ref-in-Limit.ensures)

pub add_selector-returns-in-Subscripts : goal.add_selector-returns-in-Subscripts
add_selector-returns-in-Subscripts t c =
    let view = c.args.view in
    let e : selector_parts view (shown_selector c.args.selector.now) ≡ flat_map (expr_parts view) (map shown_expr c.as_slice.result.now) =
    ap (λ s. selector_parts view (shown_selector s)) c.in-Subscripts.is ∙ subscripts_shown view c.in-Subscripts.subscripts c.in-Subscripts.place
    ∙ ap (λ xs. flat_map (expr_parts view) (map shown_expr xs)) (sym c.as_slice.ensures) in
    rw e c.add_exprs.ensures

pub add_ref-returns : goal.add_ref-returns
add_ref-returns t c =
    let view = c.args.view in
    let reference = c.args.reference.now in
    let old = parts_in c.args.parts.now.items in
    let selectors : selector_list_parts view c.as_slice.result.now ≡ selectors_parts view (shown_selector_list reference.selectors.items.items) =
    ap (selector_list_parts view) c.as_slice.ensures ∙ sym (selector_list_each view reference.selectors.items.items) in
    c.in_ok-add_selectors.ensures ∙ (λ i. c.in_ok-use_name.ensures i ++ selectors i)
    ∙ append_assoc old (name_part view reference.name) (selectors_parts view (shown_selector_list reference.selectors.items.items))
