use Rattle.std.proofs.Common.{◌≡◌, ◌-◌, List, length, take, drop, reverse, ap, ◌∙◌, arith}
use Rattle.std.proofs.lemmas.List.{take_rest}
use Rattle.pearl_value.specs.declared.kind.CellKind.{CellKind}
use Rattle.pearl_verify.proofs.Shapes.{top_is}
use Rattle.pearl_verify.proofs.kinds.Kinds.top.Goals as goal

pub returns : goal.returns
returns c =
    let items : List CellKind = c.self.inside.kinds.items in
    let n : c.saturating_sub.result ≡ length items - c.args.count = omega (arith, c.saturating_sub.ensures, c.len.ensures, c.self.inside.kinds.ok.0) in
    take_rest c.deref.result.now c.saturating_sub.result
    ∙ (ap (drop c.saturating_sub.result) c.deref.ensures.value
    ∙ (ap (λ m. drop m items) n
    ∙ (top_is c.args.count items ∙ ap (λ ks. reverse (take c.args.count ks)) c.self.view_is)))
