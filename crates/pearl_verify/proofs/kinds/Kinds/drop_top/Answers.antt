use Rattle.std.proofs.Common.{◌≡◌, ◌-◌, List, length, take, drop, reverse, ap, ◌∙◌, arith}
use Rattle.pearl_value.specs.declared.kind.CellKind.{CellKind}
use Rattle.pearl_verify.proofs.Shapes.{rest_is}
use Rattle.pearl_verify.proofs.kinds.Kinds.drop_top.Goals as goal

pub returns : goal.returns
returns c =
    let items : List CellKind = c.self.inside.kinds.items in
    let n : c.saturating_sub.result ≡ length items - c.args.count = omega (arith, c.saturating_sub.ensures, c.len.ensures, c.self.inside.kinds.ok.0) in
    ap reverse (c.truncate.ensures.items ∙ ap (λ m. take m items) n) ∙ (rest_is c.args.count items ∙ ap (drop c.args.count) c.self.view_is)
