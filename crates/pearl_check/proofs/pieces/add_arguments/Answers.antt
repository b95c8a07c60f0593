use Rattle.std.proofs.Common.{◌++◌, ap, sym, ◌∙◌, map}
use Rattle.std.specs.List.{flat_map}
use Rattle.pearl_tree.specs.ShownExpressions.{shown_expr}
use Rattle.pearl_check.specs.Pieces.{expr_pieces}
use Rattle.pearl_check.specs.PieceLists.{pieces_in}
use Rattle.pearl_check.proofs.PieceLists.{arguments_each}
use Rattle.pearl_check.proofs.pieces.add_arguments.Goals as goal

pub returns : goal.returns
returns c =
    let arguments = c.args.call.now.arguments.items.items in
    c.in_ok-add_exprs.ensures ∙ ap (λ t. pieces_in c.args.pieces.now.items ++ t)
    (ap (λ xs. flat_map expr_pieces (map shown_expr xs)) c.as_slice.ensures ∙ sym (arguments_each arguments))
