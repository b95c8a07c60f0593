use Rattle.std.proofs.Common.{◌≡◌, ◌-◌, List, length, take, drop, reverse, ap, sym, ◌∙◌, arith}
use Rattle.std.proofs.lemmas.List.{reverse-reverse}
use Rattle.pearl_value.specs.declared.kind.CellKind.{CellKind}
use Rattle.pearl_verify.proofs.Shapes.{rest_is}
use Rattle.pearl_verify.proofs.kinds.Kinds.below.Goals as goal

pub returns : goal.returns
returns c =
    let items : List CellKind = c.self.inside.kinds.items in
    let n : c.saturating_sub.result ≡ length items - c.args.count = omega (arith, c.saturating_sub.ensures, c.len.ensures, c.self.inside.kinds.ok.0) in
    ap (take c.saturating_sub.result) c.deref.ensures.value
    ∙ (ap (λ m. take m items) n
    ∙ (sym (reverse-reverse (take (length items - c.args.count) items))
    ∙ (ap reverse (rest_is c.args.count items) ∙ ap (λ ks. reverse (drop c.args.count ks)) c.self.view_is)))
