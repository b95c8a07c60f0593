use Rattle.std.proofs.Common.{◌≡◌, ◌++◌, ap, sym, ◌∙◌}
use Rattle.pearl_tree.specs.ShownExpressions.{shown_selector_list}
use Rattle.pearl_check.specs.Pieces.{selectors_pieces}
use Rattle.pearl_check.specs.PieceLists.{pieces_in, selector_list_pieces}
use Rattle.pearl_check.proofs.PieceLists.{selector_list_each}
use Rattle.pearl_check.proofs.pieces.add_target.Goals as goal

pub returns : goal.returns
returns c =
    let target = c.args.target.now in
    let selectors : selector_list_pieces c.as_slice.result.now ≡ selectors_pieces (shown_selector_list target.selectors.items.items) =
    ap selector_list_pieces c.as_slice.ensures ∙ sym (selector_list_each target.selectors.items.items) in
    c.in_ok-add_selectors.ensures ∙ ap (λ t. pieces_in c.args.pieces.now.items ++ t) selectors
