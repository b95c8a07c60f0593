use Rattle.std.proofs.Common.{◌≡◌, length, drop, sym, ap, ◌∙◌}
use Rattle.pearl_resolve.specs.Expressions.{count}
use Rattle.pearl_resolve.proofs.PlainNodes.{count_plain}
use Rattle.pearl_resolve.proofs.walk.open_bounds.Goals as goal

pub returns : goal.returns
returns c = λ forms of h.
    let given : length c.as_slice-2.result.now ≡ count of.subscripts =
    ap length c.as_slice-2.ensures.value ∙ sym (count_plain c.args.walk.now.subscripts.items) ∙ ap count h.subscripts in
    c.behind.ensures ∙ (λ i. drop (given i) ((c.as_slice.ensures.value ∙ h.bounds) i))
