use Rattle.std.specs.List.{AllByRecursion}
use Rattle.pearl_value.specs.WellFormed.{IsValue}
use Rattle.pearl_records.specs.States.{kind_coming_in, WaitsOf}
use Rattle.pearl_snap.proofs.Zips.{Suits}
use Rattle.pearl_snap.proofs.core_rules.has_inputs.Given as goal

abbrev pub invariant-loop-device : goal.invariant-loop-device
invariant-loop-device l = record {
  are : AllByRecursion (AllByRecursion IsValue) l.rest;
  suits : Suits kind_coming_in WaitsOf l.object.devices l.inputs l.device-index l.rest;
}
