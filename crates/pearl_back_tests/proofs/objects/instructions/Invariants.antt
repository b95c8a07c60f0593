use Rattle.std.specs.List.{AllByRecursion}
use Rattle.pearl_instructions.specs.Lawful.{IsInstr}
use Rattle.pearl_back_tests.proofs.objects.instructions.Given as goal

abbrev pub invariant-loop-line : goal.invariant-loop-line
invariant-loop-line l = AllByRecursion IsInstr l.list.items

abbrev pub invariant-loop : goal.invariant-loop
invariant-loop l = AllByRecursion IsInstr l.list.items
