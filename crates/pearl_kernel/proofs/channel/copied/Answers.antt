use Rattle.std.proofs.Common.{◌∷◌, [], ◌++◌, ap, ◌∙◌}
use Rattle.pearl_kernel.proofs.Made.{one-more-taken}
use Rattle.pearl_kernel.proofs.channel.copied.Goals as goal

pub loop-at-preserved : goal.loop-at-preserved
loop-at-preserved c =
    let l = c.loop-at in
    c.in_ok-push.ensures.items ∙ ap (λ xs. xs ++ c.item.result ∷ []) l.invariant
    ∙ one-more-taken c.args.input.now.items l.at c.item.result c.item.ensures
