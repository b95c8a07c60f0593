-- What holds where a stack stands at an instruction.
use Rattle.std.proofs.Common.{◌≡◌, sym, subst}
use Rattle.pearl_stack.specs.declared.stack.Frame as size
use Rattle.pearl_stack.specs.Frames.{Stack}
use Rattle.pearl_instructions.specs.declared.instr.Instr.{Instr}
use Rattle.pearl_instructions.specs.declared.object.Parts.{Parts as Object}
use Rattle.pearl_silent.specs.Steps.{Stepped}
use Rattle.pearl_silent.specs.Steps.{Does, Applies}
use Rattle.pearl_silent.specs.Standing.{act_on, StandsAt}

-- the instruction is told to be another one

pub at_is : (o : Object) (instr other : Instr) (sizes : size.Frame) (s : Stack) → instr ≡ other → StandsAt o instr sizes s → StandsAt o other sizes s
at_is o instr other sizes s e h = subst (λ i. StandsAt o i sizes s) e h

pub does_as : (o : Object) (instr other : Instr) (old now : Stack) (result : Stepped) → instr ≡ other → Does (act_on o other old.frames) old now result →
    Does (act_on o instr old.frames) old now result
does_as o instr other old now result e d = subst (λ i. Does (act_on o i old.frames) old now result) (sym e) d

pub ready_at : (o : Object) (instr other : Instr) (sizes : size.Frame) (s : Stack) → instr ≡ other → StandsAt o instr sizes s → Applies (act_on o other s.frames) s.room
ready_at o instr other sizes s e h = subst (λ i. Applies (act_on o i s.frames) s.room) e h.ready
