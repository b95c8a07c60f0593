use Rattle.std.proofs.Common.{sym, ap, ◌∙◌}
use Rattle.std.specs.Prelude.{nat_le}
use Rattle.pearl_verify.proofs.Asking.{asked_any}
use Rattle.pearl_verify.proofs.operands.has.Goals as goal

pub returns : goal.returns
returns c = ap (nat_le c.args.count) c.len.ensures ∙ sym (asked_any c.args.count c.args.kinds.now)
