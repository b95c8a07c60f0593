use Rattle.std.proofs.Common.{◌≡◌, ◌⊎◌, inl, inr, ℕ, ◌+◌, ◌<◌, arith}
use Rattle.std.proofs.lemmas.Bool.{cases_eq}
use Rattle.pearl_gen_stmt.proofs.Settling.{none_settled, led}
use Rattle.pearl_gen_stmt.proofs.pending.settle_between.Goals as goal

pub loop-index-init : goal.loop-index-init
loop-index-init c = none_settled c.args.kind c.args.from c.args.to (λ k. k < c.args.from) c.args.code.now.items (λ k more less. omega (arith, more, less))

pub loop-index-preserved : goal.loop-index-preserved
loop-index-preserved c =
    let index = c.loop-index.index in let one = c.settle_one.ensures in
    let which : (k : ℕ) → k < index + 1 → (k ≡ index) ⊎ (k < index) = λ k less. elim (cases_eq k index) [
      | inl same ↦ inl same
      | inr apart ↦ inr (let other = apart in omega (arith, less, other))
    ] in
    led c.args.kind c.args.from c.args.to (λ k. k < index) (λ k. k < index + 1) c.args.code.now.items c.loop-index.code.items c.loop-index.invariant
    index c.settle_one.new.code.items (λ k more. which k) (omega arith) one.settled one.kept one.elsewhere one.long

pub returns-clause-settled : goal.returns-clause-settled
returns-clause-settled c k more less is = c.loop-index.invariant.settled k more (omega (arith, less, c.loop-index-test.false)) is

pub returns-clause-kept : goal.returns-clause-kept
returns-clause-kept c = c.loop-index.invariant.kept

pub returns-clause-before : goal.returns-clause-before
returns-clause-before c = c.loop-index.invariant.before
