use Rattle.std.proofs.Common.{arith, sym, ap, subst, slice_set, Bool, Option}
use Rattle.pearl_exchange.specs.Offers.{action_of}
use Rattle.pearl_instructions.specs.Owners.{IsStackOf}
use Rattle.pearl_solo.specs.Settling.{Settles}
use Rattle.pearl_machine.specs.declared.part.Part.{Part}
use Rattle.pearl_machine.specs.Parts.{going_frames, start_of}
use Rattle.pearl_machine.proofs.Owned.{memory_back, part_is}
use Rattle.pearl_machine.proofs.part.settle_part.Goals as goal

pub settle_here-requires-clause-memory : goal.settle_here-requires-clause-memory
settle_here-requires-clause-memory c =
    c.requires.memory c.args.task c.index_mut.result.now (part_is c.args.parts.now.items c.args.task c.index_mut.result.now
    (omega (arith, c.requires.same, c.requires.there)) c.index_mut.ensures.value)

pub settle_here-requires-clause-own : goal.settle_here-requires-clause-own
settle_here-requires-clause-own c =
    subst (λ (x : Option Part). IsStackOf c.args.code.now c.args.task
    (going_frames (start_of c.args.code.now c.args.task) x)) (part_is c.args.parts.now.items c.args.task c.index_mut.result.now
    (omega (arith, c.requires.same, c.requires.there)) c.index_mut.ensures.value) c.requires.own

pub returns-clause-settles : goal.returns-clause-settles
returns-clause-settles c = record {
  after = c.settle_here.new.part.stack;
  settles = subst (λ (x : Option Part). Settles c.args.code.now (going_frames (start_of c.args.code.now c.args.task) x)
      c.settle_here.new.part.stack.frames (action_of c.settle_here.new.into))
      (sym (part_is c.args.parts.now.items c.args.task c.index_mut.result.now
      (omega (arith, c.requires.same, c.requires.there)) c.index_mut.ensures.value))
      c.settle_here.ensures.settles;
  own = c.settle_here.ensures.own;
  same = ap (λ (going : Bool). slice_set c.args.parts.now.items c.args.task
      (record { stack = c.settle_here.new.part.stack; going = going })) c.settle_here.ensures.still;
}

pub returns-clause-memory : goal.returns-clause-memory
returns-clause-memory c =
    memory_back c.args.code.now c.args.parts.now.items c.args.task c.settle_here.new.part c.requires.memory
    c.settle_here.ensures.memory
