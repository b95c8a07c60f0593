use Rattle.std.proofs.Common.{◌≡◌, map, take}
use Rattle.pearl_names.specs.declared.scope.View.TheVariants.{Within}
use Rattle.pearl_resolve.specs.Expressions.{Numbered, number_of}
use Rattle.pearl_resolve.specs.Holding.{HoldsNumbered}
use Rattle.pearl_resolve.proofs.simple.semaphores_in.Given as goal

abbrev pub invariant-loop-name : goal.invariant-loop-name
invariant-loop-name l = (of : Numbered) → HoldsNumbered l.numbered of →
    l.semaphores.items ≡ map (number_of of (Within l.scope)) (take l.name-index l.names)
