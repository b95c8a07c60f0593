use Rattle.std.proofs.Common.{arith, sym, ap, subst, ◌∙◌, slice_set, Option}
use Rattle.pearl_exchange.specs.Heard.{answer_of}
use Rattle.pearl_instructions.specs.Rows.{row}
use Rattle.pearl_instructions.specs.Owners.{IsStackOf}
use Rattle.pearl_solo.specs.Answered.{CanHear}
use Rattle.pearl_machine.specs.declared.part.Part.{Part}
use Rattle.pearl_machine.specs.Parts.{heard_by, stack_in}
use Rattle.pearl_machine.proofs.Owned.{memory_back, part_is}
use Rattle.pearl_machine.proofs.part.answer_part.Goals as goal

pub answer_here-requires-clause-memory : goal.answer_here-requires-clause-memory
answer_here-requires-clause-memory c = c.requires.memory c.args.task c.index_mut.result.now (part_is c.args.parts.now.items c.args.task c.index_mut.result.now
    (omega (arith, c.requires.same, c.requires.there)) c.index_mut.ensures.value)

pub answer_here-requires-clause-own : goal.answer_here-requires-clause-own
answer_here-requires-clause-own c =
    subst (λ (x : Option Part). IsStackOf c.args.code.now c.args.task (stack_in x).frames) (part_is c.args.parts.now.items c.args.task c.index_mut.result.now
    (omega (arith, c.requires.same, c.requires.there)) c.index_mut.ensures.value) c.requires.own

pub answer_here-requires-clause-suits : goal.answer_here-requires-clause-suits
answer_here-requires-clause-suits c =
    subst (λ (x : Option Part). CanHear c.args.code.now c.args.task (row c.args.code.now (stack_in x).frames)
    (answer_of c.args.heard c.args.beside.now)) (part_is c.args.parts.now.items c.args.task c.index_mut.result.now
    (omega (arith, c.requires.same, c.requires.there)) c.index_mut.ensures.value) c.requires.suits

pub returns-clause-heard : goal.returns-clause-heard
returns-clause-heard c =
    let same = c.answer_here.ensures.heard
    ∙ sym (ap (λ (x : Option Part). heard_by c.args.code.now c.args.task (stack_in x)
    (answer_of c.args.heard c.args.beside.now))
    (part_is c.args.parts.now.items c.args.task c.index_mut.result.now
    (omega (arith, c.requires.same, c.requires.there)) c.index_mut.ensures.value)) in
    ap (λ (p : Part). slice_set c.args.parts.now.items c.args.task p) same

pub returns-clause-own : goal.returns-clause-own
returns-clause-own c =
    let same = c.answer_here.ensures.heard
    ∙ sym (ap (λ (x : Option Part). heard_by c.args.code.now c.args.task (stack_in x)
    (answer_of c.args.heard c.args.beside.now))
    (part_is c.args.parts.now.items c.args.task c.index_mut.result.now
    (omega (arith, c.requires.same, c.requires.there)) c.index_mut.ensures.value)) in
    subst (λ (p : Part). IsStackOf c.args.code.now c.args.task p.stack.frames) same c.answer_here.ensures.own

pub returns-clause-memory : goal.returns-clause-memory
returns-clause-memory c =
    memory_back c.args.code.now c.args.parts.now.items c.args.task c.answer_here.new.part c.requires.memory
    c.answer_here.ensures.memory
