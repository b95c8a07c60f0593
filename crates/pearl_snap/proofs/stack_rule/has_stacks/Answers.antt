use Rattle.std.proofs.Common.{rules, subst}
use Rattle.std.specs.Prelude.{◌↔◌, IsTrue, IfOk}
use Rattle.std.proofs.lemmas.Result.{IfOk-weaker}
use Rattle.pearl_snap.specs.Asking.{AreMet, Asks}
use Rattle.pearl_saved.specs.Rules.{HasStacks}
use Rattle.pearl_snap.proofs.Asking.{told_stacks}
use Rattle.pearl_snap.proofs.stack_rule.has_stacks.Goals as goal

pub returns : goal.returns
returns c =
    let o = c.args.object.now in let s = c.args.saved.now in
    let none = c.new-asked.result.items in let asked = c.ask_tasks.new.asked.items in let sorted = c.sort_unstable_by_key.new.self.items in
    let asks =
    subst (λ rows. Asks o none asked (HasStacks o 0 rows s.stacks) c.in_ok-ask_tasks.field-0) c.as_slice-rows.ensures
    (subst (λ stacks. Asks o none asked (HasStacks o 0 c.as_slice-rows.result.now stacks) c.in_ok-ask_tasks.field-0) c.as_slice.ensures c.in_ok-ask_tasks.ensures) in
    let told = subst (λ xs. IfOk c.are_met.result (λ met. IsTrue met ↔ AreMet o xs)) c.as_slice-2.ensures.value c.are_met.ensures in
    IfOk-weaker c.are_met.result (λ met. IsTrue met ↔ AreMet o sorted) (λ met. IsTrue met ↔ HasStacks o 0 s.core.tasks s.stacks)
    (told_stacks o none asked sorted s.core.tasks s.stacks c.in_ok-ask_tasks.field-0 c.new-asked.ensures.items asks (search rules) c.sort_unstable_by_key.ensures.permutation) told
