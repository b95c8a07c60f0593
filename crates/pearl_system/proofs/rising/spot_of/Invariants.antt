use Rattle.std.proofs.Common.{◌-◌, ◌≤◌, length, take, drop, All}
use Rattle.pearl_system.specs.Devices.{device_key}
use Rattle.pearl_system.specs.Rising.{IsLess}
use Rattle.pearl_system.proofs.rising.spot_of.Given as goal

abbrev pub invariant-loop-low : goal.invariant-loop-low
invariant-loop-low l =
    (l.low ≤ l.high) × (l.high ≤ length l.items) × All (λ x. IsLess (device_key x) l.key) (take l.low l.items)
    × All (λ x. IsLess l.key (device_key x)) (drop l.high l.items)

abbrev pub decreases-loop-low : goal.decreases-loop-low
decreases-loop-low l = l.high - l.low
