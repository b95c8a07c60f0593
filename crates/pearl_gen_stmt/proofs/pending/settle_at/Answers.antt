use Rattle.std.proofs.Common.{inl, inr, ◌+◌, ◌<◌, get_or, Vec, Global, sym, subst, arith}
use Rattle.pearl_instructions.specs.declared.instr.Instr.{Instr}
use Rattle.pearl_gen_stmt.proofs.Settling.{IsSettled, UpTo, none_settled, passed_over, led, all_of, one_further}
use Rattle.pearl_gen_stmt.proofs.pending.settle_at.Goals as goal
use Rattle.pearl_gen_stmt.proofs.pending.settle_at.Goals.{then-from-place, else-from-place}

pub loop-place-init : goal.loop-place-init
loop-place-init c = none_settled c.args.kind c.args.from c.args.to (UpTo c.args.places.now 0) c.args.code.now.items (λ k more at. (let less = at.1 in omega (arith, less)))

pub loop-place-preserved : goal.loop-place-preserved
loop-place-preserved c =
    let kind = c.args.kind in let from = c.args.from in let to = c.args.to in
    let old = c.args.code.now.items in let now = c.loop-place.code.items in
    let places = c.args.places.now in let index = c.loop-place.place-index in let place = get_or places index 0 in
    elim c.if-from-place.branch [
      | then-from-place w ↦
          let one = w.settle_one.ensures in
          subst (λ (code : Vec Instr Global). IsSettled kind from to (UpTo places (index + 1)) old code.items) (sym w.code-is)
          (led kind from to (UpTo places index) (UpTo places (index + 1)) old now c.loop-place.invariant place w.settle_one.new.code.items
          (λ k more at. one_further places index k c.loop-place-test.true at)
          w.if-from-place.true one.settled one.kept one.elsewhere one.long)
      | else-from-place w ↦
          let short : place < from = w.if-from-place.false in
          subst (λ (code : Vec Instr Global). IsSettled kind from to (UpTo places (index + 1)) old code.items) (sym w.code-is)
          (passed_over kind from to (UpTo places index) (UpTo places (index + 1)) old now c.loop-place.invariant
          (λ k more at. elim (one_further places index k c.loop-place-test.true at) [
            | inl same ↦ absurd (omega (arith, same, more, short))
            | inr earlier ↦ earlier
          ]))
    ]

pub returns-clause-settled : goal.returns-clause-settled
returns-clause-settled c k more at is =
    c.loop-place.invariant.settled k more (all_of c.args.places.now c.loop-place.place-index k c.loop-place-test.false at) is

pub returns-clause-kept : goal.returns-clause-kept
returns-clause-kept c = c.loop-place.invariant.kept

pub returns-clause-before : goal.returns-clause-before
returns-clause-before c = c.loop-place.invariant.before
