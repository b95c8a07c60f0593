use Rattle.std.proofs.Common.{length, ap, refl, sym, ◌∙◌}
use Rattle.std.proofs.lemmas.List.{length-map}
use Rattle.pearl_tree.specs.ShownExpressions.{shown_ref}
use Rattle.pearl_resolve.specs.Holding.{at_in}
use Rattle.pearl_resolve.specs.Parts.{shown_get}
use Rattle.pearl_resolve.proofs.Adding.{ok_map}
use Rattle.pearl_resolve.proofs.Resolving.{get_goes, moved_as}
use Rattle.pearl_resolve.proofs.statements.add_get.Goals as goal

pub returns : goal.returns
returns c = ok_map _ _ c.past_format.result (λ now goes. λ of holds.
    let count = ap length c.as_slice.ensures ∙ sym (length-map c.args.part.now.targets.items.items shown_ref) in
    moved_as of c.args.scope (at_in c.args.at) (at_in now) c.args.cells.now.items _ c.args.into.now.items _ _ _ (shown_get c.args.part.now) refl
    (get_goes (at_in c.args.at) _ _ _ goes count) (c.in_ok-made.ensures.cells of holds) c.in_ok-push.ensures.items
    (c.in_ok-made.ensures.made of holds)) c.past_format.ensures
