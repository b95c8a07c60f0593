use Rattle.std.proofs.Common.{arith, sym, ap, subst, slice_set, Bool, Option}
use Rattle.pearl_instructions.specs.Owners.{IsStackOf}
use Rattle.pearl_machine.specs.declared.part.Part.{Part}
use Rattle.pearl_machine.specs.Parts.{going_frames, start_of, Does, offered_by}
use Rattle.pearl_machine.proofs.Owned.{memory_back, part_is}
use Rattle.pearl_machine.proofs.part.step_part.Goals as goal

pub step_here-requires-clause-memory : goal.step_here-requires-clause-memory
step_here-requires-clause-memory c =
    c.requires.memory c.args.task c.index_mut.result.now (part_is c.args.parts.now.items c.args.task c.index_mut.result.now
    (omega (arith, c.requires.same, c.requires.there)) c.index_mut.ensures.value)

pub step_here-requires-clause-own : goal.step_here-requires-clause-own
step_here-requires-clause-own c =
    subst (λ (x : Option Part). IsStackOf c.args.code.now c.args.task
    (going_frames (start_of c.args.code.now c.args.task) x)) (part_is c.args.parts.now.items c.args.task c.index_mut.result.now
    (omega (arith, c.requires.same, c.requires.there)) c.index_mut.ensures.value) c.requires.own

pub returns-clause-steps : goal.returns-clause-steps
returns-clause-steps c = record {
  after = c.step_here.new.part.stack;
  does = subst (λ (x : Option Part). Does c.args.code.now c.args.task
      (going_frames (start_of c.args.code.now c.args.task) x) c.step_here.new.part.stack.frames
      (offered_by c.step_here.result c.step_here.new.into))
      (sym (part_is c.args.parts.now.items c.args.task c.index_mut.result.now
      (omega (arith, c.requires.same, c.requires.there)) c.index_mut.ensures.value))
      c.step_here.ensures.does;
  own = c.step_here.ensures.own;
  same = ap (λ (going : Bool). slice_set c.args.parts.now.items c.args.task
      (record { stack = c.step_here.new.part.stack; going = going })) c.step_here.ensures.going;
}

pub returns-clause-memory : goal.returns-clause-memory
returns-clause-memory c =
    memory_back c.args.code.now c.args.parts.now.items c.args.task c.step_here.new.part c.requires.memory
    c.step_here.ensures.memory
