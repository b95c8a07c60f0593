use Rattle.std.proofs.Common.{take}
use Rattle.std.specs.List.{AllZip}
use Rattle.pearl_program.specs.PlainPrograms.{plain_prog}
use Rattle.pearl_generate.specs.Routines.{IsProcedure}
use Rattle.pearl_generate.proofs.routine.procedures_of.Given as goal

abbrev pub invariant-loop-number : goal.invariant-loop-number
invariant-loop-number l = AllZip (IsProcedure (plain_prog l.program)) (take l.number l.procedures) l.made.items
