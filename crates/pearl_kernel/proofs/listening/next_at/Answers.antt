use Rattle.std.proofs.Common.{◌<◌, sym, subst, arith}
use Rattle.pearl_kernel.proofs.Listeners.{IsFrom, from-behind, behind-from, none-found, first-found}
use Rattle.pearl_kernel.proofs.listening.next_at.Goals as goal
use Rattle.pearl_kernel.proofs.listening.next_at.Goals.{in-None, in-Some}

pub returns-in-None-first_from : goal.returns-in-None-first_from
returns-in-None-first_from c = λ devices offers are.
    let few = c.if-from-ge256.false in
    let is : IsFrom c.args.after c.match-after.from = elim c.match-after.branch [
      | in-None w ↦ subst (λ o. IsFrom o c.match-after.from) (sym w.in-None.is) w.from-is
      | in-Some w ↦ subst (λ o. IsFrom o c.match-after.from) (sym w.in-Some.is) (let sum = w.saturating_add-from.ensures in let e = w.from-is in omega (arith, sum, e, few))
    ] in
    none-found devices offers c.args.rows.now c.args.device c.args.after c.match-after.from
    (from-behind c.args.after c.match-after.from is) are c.in-None-first_from.ensures

pub returns-in-Some-first_from : goal.returns-in-Some-first_from
returns-in-Some-first_from c = λ devices offers are.
    let few = c.if-from-ge256.false in
    let test = c.if-device-rows.false in
    let there : c.args.device < devices = omega (arith, test, are.words) in
    let is : IsFrom c.args.after c.match-after.from = elim c.match-after.branch [
      | in-None w ↦ subst (λ o. IsFrom o c.match-after.from) (sym w.in-None.is) w.from-is
      | in-Some w ↦ subst (λ o. IsFrom o c.match-after.from) (sym w.in-Some.is) (let sum = w.saturating_add-from.ensures in let e = w.from-is in omega (arith, sum, e, few))
    ] in
    first-found devices offers c.args.rows.now c.args.device c.args.after c.match-after.from
    (from-behind c.args.after c.match-after.from is) are there c.in-Some-first_from.bit c.in-Some-first_from.ensures
    (behind-from c.args.after c.match-after.from is)
