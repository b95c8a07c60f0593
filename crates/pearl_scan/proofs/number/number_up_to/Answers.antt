use Rattle.std.proofs.Common.{rules}
use Rattle.pearl_scan.proofs.Numbers.{number_from-start}
use Rattle.pearl_scan.proofs.number.number_up_to.Goals as goal

pub loop-digit-init : goal.loop-digit-init
loop-digit-init c = search (rules, number_from-start)
