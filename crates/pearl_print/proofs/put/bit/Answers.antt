use Rattle.std.proofs.Common.{◌≡◌, ◌≤◌, ◌/◌, ◌^◌, arith}
use Rattle.std.proofs.Math.Pow.{pow_mono}
use Rattle.std.proofs.Math.Nat.{div-eq_of_lt}
use Rattle.pearl_print.proofs.put.bit.Goals as goal

pub returns-else-below-lt64 : goal.returns-else-below-lt64
returns-else-below-lt64 c =
    let h : 64 ≤ c.args.below = omega arith in
    let p : 2 ^ 64 ≤ 2 ^ c.args.below = pow_mono h in
    let z : c.args.value / 2 ^ c.args.below ≡ 0 = div-eq_of_lt (omega arith) in
    rw z
