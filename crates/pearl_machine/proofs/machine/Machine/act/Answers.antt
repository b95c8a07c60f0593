use Rattle.std.proofs.Common.{refl, ap, ◌∙◌, sym, subst, slice_get, arith}
use Rattle.pearl_rules.specs.declared.action.Answer.{Answer}
use Rattle.pearl_rules.specs.Effect.{Hears, Ends}
use Rattle.pearl_exchange.specs.Heard.{answer_of}
use Rattle.pearl_instructions.specs.Setups.{setup_of}
use Rattle.pearl_instructions.specs.Engines.{engine}
use Rattle.pearl_instructions.specs.Owners.{IsStackOf}
use Rattle.pearl_machine.specs.Parts.{HasMemories, stack_in}
use Rattle.pearl_machine.specs.Ready.{IsReady}
use Rattle.pearl_machine.proofs.ReadyLaws.{tasks_are}
use Rattle.pearl_machine.proofs.Acting.{acts_there, acts_own, acts_hears, ready_acts, same_answer, ends_unheard}
use Rattle.pearl_kernel.specs.Kept.{Kept}
use Rattle.pearl_machine.proofs.Moments.{effect-moment}
use Rattle.pearl_machine.proofs.Calls.{moment_call, all_settled, no_event, none_due, idle_call, acts_call}
use Rattle.pearl_machine.proofs.machine.Machine.act.Goals as goal

pub act-requires : goal.act-requires
act-requires c =
    let m = c.self.inside in
    no_event m.code m.setup m.kernel m.parts.items m.due c.self.invariant c.args.self.now c.self.view_is c.requires.taken

pub answer_part-requires-clause-there : goal.answer_part-requires-clause-there
answer_part-requires-clause-there c =
    let m = c.self.inside in
    let all = all_settled m.code m.setup m.kernel m.parts.items m.due c.self.invariant c.args.self.now c.self.view_is c.requires.settled in
    let past = none_due m.code m.setup m.kernel m.parts.items m.due c.self.invariant c.args.self.now c.self.view_is c.requires.taken in
    let there = acts_there m.code m.setup m.kernel c.act.new.self m.parts.items m.due c.self.invariant all c.laws_hold.ensures.laws past
    c.in-Went.task (Hears (answer_of c.in-Went.heard c.act.new.beside)) c.in-Went.ensures.acted in
    let size = tasks_are m.code m.setup m.kernel m.parts.items m.due c.self.invariant in
    omega (arith, there, size, c.self.invariant.each)

pub answer_part-requires-clause-own : goal.answer_part-requires-clause-own
answer_part-requires-clause-own c =
    let m = c.self.inside in
    let all = all_settled m.code m.setup m.kernel m.parts.items m.due c.self.invariant c.args.self.now c.self.view_is c.requires.settled in
    let past = none_due m.code m.setup m.kernel m.parts.items m.due c.self.invariant c.args.self.now c.self.view_is c.requires.taken in
    acts_own m.code m.setup m.kernel c.act.new.self m.parts.items m.due c.self.invariant all c.laws_hold.ensures.laws past
    c.in-Went.task (Hears (answer_of c.in-Went.heard c.act.new.beside)) c.in-Went.ensures.acted

pub answer_part-requires-clause-suits : goal.answer_part-requires-clause-suits
answer_part-requires-clause-suits c =
    let m = c.self.inside in
    let all = all_settled m.code m.setup m.kernel m.parts.items m.due c.self.invariant c.args.self.now c.self.view_is c.requires.settled in
    let past = none_due m.code m.setup m.kernel m.parts.items m.due c.self.invariant c.args.self.now c.self.view_is c.requires.taken in
    acts_hears m.code m.setup m.kernel c.act.new.self m.parts.items m.due c.self.invariant all c.laws_hold.ensures.laws past
    c.in-Went.task (Hears (answer_of c.in-Went.heard c.act.new.beside)) c.in-Went.ensures.acted (answer_of c.in-Went.heard c.act.new.beside) refl

pub invariant_of-self-in-Went : goal.invariant_of-self-in-Went
invariant_of-self-in-Went c =
    let m = c.self.inside in
    let all = all_settled m.code m.setup m.kernel m.parts.items m.due c.self.invariant c.args.self.now c.self.view_is c.requires.settled in
    let past = none_due m.code m.setup m.kernel m.parts.items m.due c.self.invariant c.args.self.now c.self.view_is c.requires.taken in
    subst (λ parts. IsReady m.code m.setup c.act.new.self parts m.due) (sym c.answer_part.ensures.heard)
    (ready_acts m.code m.setup m.kernel c.act.new.self m.parts.items m.due c.self.invariant all c.laws_hold.ensures.laws past
    c.in-Went.task (Hears (answer_of c.in-Went.heard c.act.new.beside)) c.in-Went.ensures.acted (c.act.ensures.lawful (setup_of m.code) c.self.invariant.lawful)
    (subst (λ parts. HasMemories m.code parts) c.answer_part.ensures.heard c.answer_part.ensures.memory)
    (λ answer e. subst (λ (x : Answer). IsStackOf m.code c.in-Went.task ((engine m.code).answer c.in-Went.task
    (stack_in (slice_get m.parts.items c.in-Went.task)).frames x)) (same_answer (answer_of c.in-Went.heard c.act.new.beside) answer e) c.answer_part.ensures.own))

pub invariant_of-self-in-Ended : goal.invariant_of-self-in-Ended
invariant_of-self-in-Ended c =
    let m = c.self.inside in
    let all = all_settled m.code m.setup m.kernel m.parts.items m.due c.self.invariant c.args.self.now c.self.view_is c.requires.settled in
    let past = none_due m.code m.setup m.kernel m.parts.items m.due c.self.invariant c.args.self.now c.self.view_is c.requires.taken in
    ready_acts m.code m.setup m.kernel c.act.new.self m.parts.items m.due c.self.invariant all c.laws_hold.ensures.laws past
    c.in-Ended.field-0 Ends c.in-Ended.ensures.acted (c.act.ensures.lawful (setup_of m.code) c.self.invariant.lawful) c.self.invariant.memory
    (λ answer e. absurd (ends_unheard answer e))

pub returns-in-Idle-clause-acted : goal.returns-in-Idle-clause-acted
returns-in-Idle-clause-acted c =
    let m = c.self.inside in
    idle_call m.code m.setup m.kernel m.parts.items m.due c.self.invariant c.args.self.now c.self.view_is c.act.new.self
    c.in-Idle.ensures.acted.0 c.in-Idle.ensures.acted.1

pub returns-in-Went-clause-acted : goal.returns-in-Went-clause-acted
returns-in-Went-clause-acted c =
    let m = c.self.inside in
    acts_call m.code m.setup m.kernel m.parts.items m.due c.self.invariant c.args.self.now c.self.view_is c.act.new.self c.answer_part.new.parts.items
    c.in-Went.task (Hears (answer_of c.in-Went.heard c.act.new.beside)) c.requires.settled c.requires.taken c.laws_hold.ensures.laws c.in-Went.ensures.acted c.answer_part.ensures.heard

pub returns-in-Ended-clause-acted : goal.returns-in-Ended-clause-acted
returns-in-Ended-clause-acted c =
    let m = c.self.inside in
    acts_call m.code m.setup m.kernel m.parts.items m.due c.self.invariant c.args.self.now c.self.view_is c.act.new.self m.parts.items
    c.in-Ended.field-0 Ends c.requires.settled c.requires.taken c.laws_hold.ensures.laws c.in-Ended.ensures.acted refl

pub returns-in-Went-clause-moment : goal.returns-in-Went-clause-moment
returns-in-Went-clause-moment c =
    let m = c.self.inside in
    let acted = c.in-Went.ensures.acted in
    ap (λ (x : Kept). x.core.moment) acted.same
    ∙ (effect-moment m.kernel.core c.in-Went.task acted.action ∙ sym (moment_call m.code m.setup m.kernel m.parts.items m.due c.self.invariant c.args.self.now c.self.view_is))

pub returns-in-Ended-clause-moment : goal.returns-in-Ended-clause-moment
returns-in-Ended-clause-moment c =
    let m = c.self.inside in
    let acted = c.in-Ended.ensures.acted in
    ap (λ (x : Kept). x.core.moment) acted.same
    ∙ (effect-moment m.kernel.core c.in-Ended.field-0 acted.action ∙ sym (moment_call m.code m.setup m.kernel m.parts.items m.due c.self.invariant c.args.self.now c.self.view_is))
