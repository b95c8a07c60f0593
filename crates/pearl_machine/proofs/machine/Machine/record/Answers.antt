use Rattle.std.proofs.Common.{◌≡◌, ap₂, ◌∙◌}
use Rattle.pearl_saved.specs.declared.saved.Saved.{Saved}
use Rattle.pearl_machine.specs.Resumed.{stacks_of}
use Rattle.pearl_machine.proofs.Recording.{saved_call, state_call, ends_call, again_call}
use Rattle.pearl_machine.proofs.machine.Machine.record.Goals as goal

pub returns-clause-saved : goal.returns-clause-saved
returns-clause-saved c =
    let m = c.self.inside in
    let saved : Saved = record { core = c.in_ok-core.core; stacks = c.in_ok-stacks.stacks } in
    let frames : saved.stacks ≡ stacks_of saved.core.tasks m.parts.items = c.in_ok-stacks.ensures ∙ ap₂ stacks_of c.as_slice-2.ensures c.as_slice.ensures.value in
    saved_call m.code m.setup m.kernel m.parts.items m.due c.self.invariant c.args.self.now c.self.view_is c.requires.settled
    c.stacks_are_split.ensures.stacks c.stacks_come_back.ensures saved c.in_ok-core.ensures.record frames c.in_ok-core.ensures.lawful

pub returns-clause-state : goal.returns-clause-state
returns-clause-state c =
    let m = c.self.inside in
    let saved : Saved = record { core = c.in_ok-core.core; stacks = c.in_ok-stacks.stacks } in
    let frames : saved.stacks ≡ stacks_of saved.core.tasks m.parts.items = c.in_ok-stacks.ensures ∙ ap₂ stacks_of c.as_slice-2.ensures c.as_slice.ensures.value in
    state_call m.code m.setup m.kernel m.parts.items m.due c.self.invariant c.args.self.now c.self.view_is c.requires.settled
    c.stacks_are_split.ensures.stacks c.stacks_come_back.ensures saved c.in_ok-core.ensures.record frames c.in_ok-core.ensures.lawful

pub returns-clause-ends : goal.returns-clause-ends
returns-clause-ends c =
    let m = c.self.inside in
    let saved : Saved = record { core = c.in_ok-core.core; stacks = c.in_ok-stacks.stacks } in
    let frames : saved.stacks ≡ stacks_of saved.core.tasks m.parts.items = c.in_ok-stacks.ensures ∙ ap₂ stacks_of c.as_slice-2.ensures c.as_slice.ensures.value in
    ends_call m.code m.setup m.kernel m.parts.items m.due c.self.invariant c.args.self.now c.self.view_is c.requires.settled
    c.stacks_are_split.ensures.stacks c.stacks_come_back.ensures saved c.in_ok-core.ensures.record frames c.in_ok-core.ensures.lawful

pub returns-clause-again : goal.returns-clause-again
returns-clause-again c =
    let m = c.self.inside in
    let saved : Saved = record { core = c.in_ok-core.core; stacks = c.in_ok-stacks.stacks } in
    let frames : saved.stacks ≡ stacks_of saved.core.tasks m.parts.items = c.in_ok-stacks.ensures ∙ ap₂ stacks_of c.as_slice-2.ensures c.as_slice.ensures.value in
    again_call m.code m.setup m.kernel m.parts.items m.due c.self.invariant c.args.self.now c.self.view_is c.requires.settled
    c.stacks_are_split.ensures.stacks c.stacks_come_back.ensures saved c.in_ok-core.ensures.record frames c.in_ok-core.ensures.lawful c.requires.taken
