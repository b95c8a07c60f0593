use Rattle.std.proofs.Common.{◌≡◌, ◌-◌, ℕ, Option, List, length, take, drop, reverse, sym, ap, ◌∙◌, arith}
use Rattle.pearl_verify.specs.Numbers.{numbers_of}
use Rattle.pearl_verify.proofs.Numbering.{fewer_numbers}
use Rattle.pearl_verify.proofs.Shapes.{rest_is}
use Rattle.pearl_verify.proofs.running.Running.drop_top.Goals as goal

pub returns-clause-numbers : goal.returns-clause-numbers
returns-clause-numbers c = λ edges numbered.
    let items : List (Option ℕ) = c.args.self.now.numbers.items in
    let n : c.saturating_sub.result ≡ length items - c.args.count = omega (arith, c.saturating_sub.ensures, c.len.ensures, c.args.self.now.numbers.ok.0) in
    ap reverse (c.truncate.ensures.items ∙ ap (λ m. take m items) n) ∙ rest_is c.args.count items ∙ ap (drop c.args.count) numbered
    ∙ fewer_numbers edges c.args.self.now.kinds c.args.count ∙ ap (numbers_of edges) (sym c.drop_top.ensures)
