use Rattle.std.proofs.Common.{[], ◌∷◌, sym, subst}
use Rattle.pearl_kernel.specs.declared.changes.Touched.{Touched}
use Rattle.pearl_kernel.specs.Touched.{Waiters, After, reach_of, IsRenewed}
use Rattle.pearl_kernel.proofs.Renewing.{touched-own, touched-other, touched-many}
use Rattle.pearl_kernel.proofs.standing.Standing.renew.Goals as goal

pub returns-in-Own : goal.returns-in-Own
returns-in-Own c =
    let k = c.args.state.now in
    subst (λ (x : Touched). IsRenewed k c.args.own (reach_of c.args.list.now x) c.args.self.now c.renew_one.new.self) (sym c.in-Own.is)
    (touched-own k c.args.own c.args.self.now c.renew_one.new.self c.renew_one.ensures)

pub returns-in-Other : goal.returns-in-Other
returns-in-Other c =
    let k = c.args.state.now in
    subst (λ (x : Touched). IsRenewed k c.args.own (reach_of c.args.list.now x) c.args.self.now c.renew_one-in-Other-2.new.self)
    (sym c.in-Other.is)
    (touched-other k c.args.own c.in-Other.task c.args.self.now c.renew_one-in-Other.new.self
    c.renew_one-in-Other-2.new.self c.renew_one-in-Other.ensures c.renew_one-in-Other-2.ensures)

pub returns-in-One : goal.returns-in-One
returns-in-One c =
    let k = c.args.state.now in
    subst (λ (x : Touched). IsRenewed k c.args.own (reach_of c.args.list.now x) c.args.self.now c.renew_one-in-One.new.self)
    (sym c.in-One.is)
    (touched-many k c.args.own (Waiters (c.in-One.semaphore ∷ [])) c.args.self.now c.renew_each.new.self
    c.renew_one-in-One.new.self c.renew_each.ensures c.renew_one-in-One.ensures)

pub returns-in-Named : goal.returns-in-Named
returns-in-Named c =
    let k = c.args.state.now in
    subst (λ (x : Touched). IsRenewed k c.args.own (reach_of c.args.list.now x) c.args.self.now c.renew_one-in-Named.new.self)
    (sym c.in-Named.is)
    (touched-many k c.args.own (Waiters c.args.list.now) c.args.self.now c.renew_each-in-Named.new.self
    c.renew_one-in-Named.new.self c.renew_each-in-Named.ensures c.renew_one-in-Named.ensures)

pub returns-in-After : goal.returns-in-After
returns-in-After c =
    let k = c.args.state.now in
    subst (λ (x : Touched). IsRenewed k c.args.own (reach_of c.args.list.now x) c.args.self.now c.renew_one-in-After.new.self)
    (sym c.in-After.is)
    (touched-many k c.args.own (After c.in-After.changed) c.args.self.now c.renew_after.new.self
    c.renew_one-in-After.new.self c.renew_after.ensures c.renew_one-in-After.ensures)
