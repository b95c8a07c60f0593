use Rattle.std.proofs.Common.{◌≡◌, ◌∙◌, ◌-◌, sym, ap, refl, arith}
use Rattle.pearl_top.specs.Commands.{bench_upto}
use Rattle.pearl_top.proofs.Numbers.{below, found}
use Rattle.pearl_top.proofs.command.bench_of.Goals as goal

pub numbers-init : goal.numbers-init
numbers-init c = record { few = omega arith; same = refl }

pub returns-then-spells : goal.returns-then-spells
returns-then-spells c =
    let digits = c.args.digits.now in (
      c.numbers.invariant.same
          ∙ found c.numbers.n (c.numbers.n - 1) digits (omega (arith, c.numbers-test.true)) (sym c.spells.ensures ∙ c.if-spells.true),
      omega (arith, c.numbers-test.true),
      c.numbers.invariant.few,
    )

pub numbers-preserved : goal.numbers-preserved
numbers-preserved c =
    let digits = c.args.digits.now in record {
      few = omega (arith, c.numbers.invariant.few);
      same = c.numbers.invariant.same
          ∙ below c.numbers.n (c.numbers.n - 1) digits (omega (arith, c.numbers-test.true)) (sym c.spells.ensures ∙ c.if-spells.false);
    }

pub returns : goal.returns
returns c =
    let none : c.numbers.n ≡ 0 = omega (arith, c.numbers-test.false) in
    c.numbers.invariant.same ∙ ap (λ n. bench_upto n c.args.digits.now) none
