use Rattle.pearl_program.specs.PlainPrograms.{plain_prog}
use Rattle.pearl_generate.specs.Routines.{IsProcedure}
use Rattle.pearl_generate.proofs.Zips.{zip_more}
use Rattle.pearl_generate.proofs.Routines.{has_weight, its_weight}
use Rattle.pearl_generate.proofs.routine.procedures_of.Goals as goal

pub bounds-weights-number : goal.bounds-weights-number
bounds-weights-number c =
    has_weight c.args.program.now c.args.weights.now c.as_slice-procedures.result.now c.as_slice-procedures.ensures c.requires.weights
    c.loop-number.number c.loop-number-test.true

pub procedure_of-requires : goal.procedure_of-requires
procedure_of-requires c =
    its_weight c.args.program.now c.args.weights.now c.as_slice-procedures.result.now c.as_slice-procedures.ensures c.requires.weights
    c.loop-number.number c.loop-number-test.true c.index-procedures-number.result c.requires.smaller c.index-procedures-number.is

pub loop-number-preserved : goal.loop-number-preserved
loop-number-preserved c =
    zip_more (IsProcedure (plain_prog c.args.program.now)) c.as_slice-procedures.result.now c.loop-number.made.items c.push.new.self.items
    c.loop-number.number c.index-procedures-number.result c.in_ok-procedure_of.field-0 c.loop-number-test.true c.index-procedures-number.is
    c.in_ok-push.ensures.items c.loop-number.invariant c.in_ok-procedure_of.ensures
