use Rattle.std.proofs.Common.{◌≤◌, ◌+◌, length, nat_lt, ap, ◌∙◌, arith}
use Rattle.pearl_names.proofs.Counting.{long_counts}
use Rattle.pearl_names.proofs.layout.has_long_leaf.Goals as goal

pub returns : goal.returns
returns c = λ leaves same.
    let bytes = length c.args.name.now.items in
    let few : bytes ≤ 1024 = omega (arith, c.len.ensures.value, c.len.ensures.fits) in
    (λ i. nat_lt 1024 (c.len.ensures.value i + c.from.ensures i)) ∙ ap (λ own. nat_lt 1024 (bytes + own.longest)) same ∙ long_counts bytes leaves few
