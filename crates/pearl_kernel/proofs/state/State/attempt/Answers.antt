use Rattle.std.proofs.Common.{◌≡◌, List, ℕ, [], ◌∷◌, ◌++◌, ap, subst, ◌∙◌}
use Rattle.pearl_rules.specs.Counts.{lowered}
use Rattle.pearl_sema.specs.Waiting.{AreThere}
use Rattle.pearl_kernel.proofs.Naming.{one-there}
use Rattle.pearl_kernel.proofs.Touching.{leaves-lowered}
use Rattle.pearl_kernel.proofs.state.State.attempt.Goals as goal

pub is_free-requires : goal.is_free-requires
is_free-requires c =
    one-there c.args.self.now.core.counts c.new-list.result.items c.push.new.self.items c.args.semaphore c.requires
    c.new-list.ensures c.push.ensures.items

pub lower-requires-clause-list : goal.lower-requires-clause-list
lower-requires-clause-list c =
    one-there c.args.self.now.core.counts c.new-list.result.items c.push.new.self.items c.args.semaphore c.requires
    c.new-list.ensures c.push.ensures.items

pub returns-clause-leaves : goal.returns-clause-leaves
returns-clause-leaves c = λ list.
    let k = c.args.self.now in
    let one : c.push.new.self.items ≡ c.args.semaphore ∷ [] =
    c.push.ensures.items ∙ ap (λ xs. xs ++ c.args.semaphore ∷ []) c.new-list.ensures in
    let there = one-there k.core.counts c.new-list.result.items c.push.new.self.items c.args.semaphore c.requires
    c.new-list.ensures c.push.ensures.items in
    rw c.hears-2.ensures
    (leaves-lowered c.args.own k c.lower.new.self (c.args.semaphore ∷ [])
    (subst (λ (xs : List ℕ). AreThere k.core.counts xs) one there)
    (subst (λ (xs : List ℕ). c.lower.new.self ≡ record k { core = record k.core { counts = lowered k.core.counts xs } }) one
    c.lower.ensures))
