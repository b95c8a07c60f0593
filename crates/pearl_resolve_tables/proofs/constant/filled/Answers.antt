use Rattle.std.proofs.Common.{◌≡◌, ◌-◌, ap, ◌∙◌, length, ◌++◌, replicate, arith}
use Rattle.pearl_resolve_tables.proofs.constant.filled.Goals as goal

pub returns : goal.returns
returns c =
    let count : c.loop-index._index - c.len-from.result ≡ c.args.len - length c.args.text.now.items = omega arith in
    c.loop-index.invariant.filled ∙ ap (λ n. c.args.text.now.items ++ replicate n 32) count
