use Rattle.std.proofs.Common.{refl, sym, append-nil}
use Rattle.pearl_resolve.specs.Holding.{at_in}
use Rattle.pearl_resolve.specs.Parts.{shown_put}
use Rattle.pearl_resolve.proofs.Adding.{ok_map}
use Rattle.pearl_resolve.proofs.Resolving.{moved_as, put_goes}
use Rattle.pearl_resolve.proofs.statements.add_put.Goals as goal

pub returns : goal.returns
returns c = ok_map _ _ c.past_format.result (λ now goes. λ cells of holds.
    moved_as of c.args.scope (at_in c.args.at) (at_in now) cells cells c.args.into.now.items _ _ _ (shown_put c.args.part.now) refl
    (put_goes (at_in c.args.at) _ goes) (sym (append-nil cells)) c.in_ok-push.ensures.items (c.in_ok-made.ensures of holds)) c.past_format.ensures
