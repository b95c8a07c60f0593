use Rattle.std.proofs.Common.{◌≡◌, ◌++◌, ◌∷◌, [], subst, ap, sym, ◌∙◌, map, append_assoc}
use Rattle.std.specs.List.{flat_map}
use Rattle.std.specs.Result.{OnOk}
use Rattle.pearl_tree.specs.declared.expression.Ref.{Ref}
use Rattle.pearl_tree.specs.ShownExpressions.{shown_expr, shown_primary, shown_selector, shown_selector_list, shown_ref}
use Rattle.pearl_check.specs.Pieces.{Reference, Other, expr_pieces, primary_pieces, selectors_pieces, selector_pieces}
use Rattle.pearl_check.specs.PieceLists.{pieces_in, selector_list_pieces, ref_pieces, limit_pieces}
use Rattle.pearl_check.proofs.PieceLists.{subscripts_shown, ref_shown, limit_shown, selector_list_each}
use Rattle.pearl_check.proofs.pieces.«+expression».Goals as goal

pub add_primary-returns-in-Ref : goal.add_primary-returns-in-Ref
add_primary-returns-in-Ref t c =
    let e : primary_pieces (shown_primary c.args.primary.now) ≡ ref_pieces (shown_ref c.in-Ref.reference) =
    ap (λ p. primary_pieces (shown_primary p)) c.in-Ref.is ∙ ref_shown c.in-Ref.reference in
    rw e c.add_ref.ensures

pub add_primary-returns-in-Limit : goal.add_primary-returns-in-Limit
add_primary-returns-in-Limit t c =
    let e : primary_pieces (shown_primary c.args.primary.now) ≡ limit_pieces (shown_ref c.in-Limit.array.value) =
    ap (λ p. primary_pieces (shown_primary p)) c.in-Limit.is ∙ limit_shown c.in-Limit.dimension c.in-Limit.side c.in-Limit.array c.in-Limit.place in
    rw e (subst (λ (array : Ref). OnOk c.add_limit.result (pieces_in c.add_limit.new.pieces.items ≡ pieces_in c.args.pieces.now.items ++ limit_pieces (shown_ref array)))
    c.deref-in-Limit.ensures c.add_limit.ensures)

pub add_selector-returns-in-Subscripts : goal.add_selector-returns-in-Subscripts
add_selector-returns-in-Subscripts t c =
    let e : selector_pieces (shown_selector c.args.selector.now) ≡ flat_map expr_pieces (map shown_expr c.as_slice.result.now) =
    ap (λ s. selector_pieces (shown_selector s)) c.in-Subscripts.is ∙ subscripts_shown c.in-Subscripts.subscripts c.in-Subscripts.place
    ∙ ap (λ xs. flat_map expr_pieces (map shown_expr xs)) (sym c.as_slice.ensures) in
    rw e c.add_exprs.ensures

pub add_ref-returns : goal.add_ref-returns
add_ref-returns t c =
    let reference = c.args.reference.now in
    let old = pieces_in c.args.pieces.now.items in
    let selectors : selector_list_pieces c.as_slice.result.now ≡ selectors_pieces (shown_selector_list reference.selectors.items.items) =
    ap selector_list_pieces c.as_slice.ensures ∙ sym (selector_list_each reference.selectors.items.items) in
    c.in_ok-add_selectors.ensures ∙ (λ i. c.in_ok-add_reference.ensures i ++ selectors i)
    ∙ append_assoc old (Reference reference.name ∷ []) (selectors_pieces (shown_selector_list reference.selectors.items.items))

pub add_limit-returns : goal.add_limit-returns
add_limit-returns t c =
    let array = c.args.array.now in
    let old = pieces_in c.args.pieces.now.items in
    let selectors : selector_list_pieces c.as_slice.result.now ≡ selectors_pieces (shown_selector_list array.selectors.items.items) =
    ap selector_list_pieces c.as_slice.ensures ∙ sym (selector_list_each array.selectors.items.items) in
    c.in_ok-add_selectors.ensures ∙ (λ i. c.in_ok-add_others.ensures i ++ selectors i)
    ∙ append_assoc old (Other ∷ Other ∷ []) (selectors_pieces (shown_selector_list array.selectors.items.items))
