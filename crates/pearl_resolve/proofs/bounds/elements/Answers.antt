use Rattle.std.proofs.Common.{◌≡◌, suc, ◌+◌, ◌*◌, ◌-ℤ◌, pos, ◌∷◌, unsigned_abs, drop, get_or, sym, ap, ◌∙◌, arith, drop-cons}
use Rattle.std.proofs.Math.Nat.{mul_assoc}
use Rattle.pearl_program.specs.declared.expression.Bound.{Bound}
use Rattle.pearl_program.specs.Typing.{elements}
use Rattle.pearl_resolve.proofs.bounds.elements.Goals as goal

pub loop-bound-preserved : goal.loop-bound-preserved
loop-bound-preserved c =
    let xs = c.args.bounds.now in
    let i = c.loop-bound.bound-index in
    let x : Bound = get_or xs i (record { lower = pos 0; upper = pos 0 }) in
    let count = c.loop-bound.count in
    let next : suc i ≡ i + 1 = omega arith in
    let left : drop i xs ≡ x ∷ drop (i + 1) xs = drop-cons xs i _ c.loop-bound-test.true ∙ ap (λ n. x ∷ drop n xs) next in
    let rest = elements (drop (i + 1) xs) in
    ap (λ n. n * rest) (c.in_ok-count.ensures ∙ ap (λ n. count * n) c.extent.ensures)
    ∙ mul_assoc count (unsigned_abs (x.upper -ℤ x.lower) + 1) rest
    ∙ ap (λ l. count * elements l) (sym left)
    ∙ c.loop-bound.invariant
