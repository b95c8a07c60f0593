use Rattle.std.specs.List.{AllByRecursion}
use Rattle.std.specs.Prelude.{replicate}
use Rattle.pearl_value.specs.WellFormed.{IsValue, IsValueOf}
use Rattle.pearl_snap.proofs.Zips.{Suits}
use Rattle.pearl_snap.proofs.core_rules.has_slots.Given as goal

abbrev pub invariant-loop-leaf : goal.invariant-loop-leaf
invariant-loop-leaf l = record {
  are : AllByRecursion IsValue l.rest;
  suits : Suits (λ leaf. replicate leaf.slots leaf.kind) IsValueOf l.object.leaves l.slots l.leaf-index l.rest;
}
