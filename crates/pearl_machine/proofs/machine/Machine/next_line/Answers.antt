use Rattle.std.proofs.Common.{◌≡◌, ◌+◌, ℕ, Option, refl, sym, subst, ◌∙◌, arith}
use Rattle.std.specs.Prelude.{IfSome}
use Rattle.pearl_rules.specs.Pick.{pick}
use Rattle.pearl_kernel.specs.Kept.{offered}
use Rattle.pearl_machine.specs.Ready.{seen_of}
use Rattle.pearl_machine.specs.Seen.{picked}
use Rattle.pearl_instructions.specs.Setups.{setup_of}
use Rattle.pearl_machine.proofs.Acting.{ready_due, ready_taken, due_next}
use Rattle.pearl_machine.proofs.Calls.{known_as, picked_call, picked_at, picked_taken, event_call, state_call, nothing_call, taken_next, taken_same}
use Rattle.pearl_machine.proofs.machine.Machine.next_line.Goals as goal

pub invariant_of-self : goal.invariant_of-self
invariant_of-self c =
    let m = c.self.inside in
    ready_taken m.code m.setup m.kernel c.drop_event.new.self m.parts.items m.due c.self.invariant
    (taken_same m.kernel c.drop_event.new.self c.drop_event.ensures.taken)
    (c.drop_event.ensures.lawful (setup_of m.code) c.self.invariant.lawful)

pub invariant_of-self-in-None : goal.invariant_of-self-in-None
invariant_of-self-in-None c =
    let m = c.self.inside in
    ready_due m.code m.setup m.kernel m.parts.items m.due _ c.self.invariant (due_next m.kernel m.due c.self.invariant.owes)

pub returns-then-self-tasks-clause-next : goal.returns-then-self-tasks-clause-next
returns-then-self-tasks-clause-next c =
    let m = c.self.inside in
    let nothing = nothing_call m.code m.setup m.kernel m.parts.items m.due c.self.invariant c.args.self.now c.self.view_is m.kernel
    c.in-None.ensures.next refl (omega (arith, c.tasks.ensures, c.if-self-tasks.true)) in
    (nothing.0, refl)

pub returns-in-Some-clause-next : goal.returns-in-Some-clause-next
returns-in-Some-clause-next c =
    let m = c.self.inside in
    event_call m.code m.setup m.kernel m.parts.items m.due c.self.invariant c.args.self.now c.self.view_is c.drop_event.new.self c.in-Some.event.now
    c.now.result c.event_line.new.into.items
    (taken_next m.kernel c.drop_event.new.self c.in-Some.event.now c.in-Some.ensures.next c.drop_event.ensures.taken)
    (taken_same m.kernel c.drop_event.new.self c.drop_event.ensures.taken) c.now.ensures c.event_line.ensures

pub returns-else-self-tasks-clause-next : goal.returns-else-self-tasks-clause-next
returns-else-self-tasks-clause-next c =
    let m = c.self.inside in
    state_call m.code m.setup m.kernel m.parts.items m.due c.self.invariant c.args.self.now c.self.view_is m.kernel
    c.state_of.new.into.items c.in-None.ensures.next refl (omega (arith, c.tasks.ensures, c.if-self-tasks.false)) c.state_of.ensures

pub known_pick-picked-requires : goal.known_pick-picked-requires
known_pick-picked-requires c =
    let m = c.self.inside in
    known_as c.args.known.now (picked c.args.self.now) (pick m.kernel.core (offered m.kernel))
    (picked_call m.code m.setup m.kernel m.parts.items m.due c.self.invariant c.args.self.now c.self.view_is) c.requires

pub returns-then-self-tasks-clause-known : goal.returns-then-self-tasks-clause-known
returns-then-self-tasks-clause-known c = c.requires

pub returns-in-Some-clause-known : goal.returns-in-Some-clause-known
returns-in-Some-clause-known c =
    let m = c.self.inside in
    known_as c.args.known.now _ _ (sym (picked_taken m.code m.setup m.kernel m.parts.items m.due c.self.invariant c.args.self.now c.self.view_is c.drop_event.new.self
    (taken_same m.kernel c.drop_event.new.self c.drop_event.ensures.taken))) c.requires

pub returns-else-self-tasks-clause-known : goal.returns-else-self-tasks-clause-known
returns-else-self-tasks-clause-known c =
    let m = c.self.inside in
    let here = picked_call m.code m.setup m.kernel m.parts.items m.due c.self.invariant c.args.self.now c.self.view_is in
    let later = picked_at m.code m.setup m.kernel m.parts.items m.due c.self.invariant c.args.self.now c.self.view_is (m.due + 1) in
    subst (λ (known : Option (Option ℕ)). IfSome known (λ t. t ≡ picked (seen_of m.code m.kernel m.parts.items (m.due + 1)))) (sym c.known_pick-picked.ensures.known)
    (c.known_pick-picked.ensures.picked ∙ sym here ∙ sym later)
