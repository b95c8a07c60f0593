use Rattle.std.proofs.Common.{◌≡◌, drop, sym, subst}
use Rattle.pearl_rules.specs.Core.{Bytes}
use Rattle.pearl_rules.specs.Devices.{bytes_at, without_bytes}
use Rattle.pearl_kernel.proofs.Changing.{stirs-channel}
use Rattle.pearl_kernel.proofs.Waiting.{none-used}
use Rattle.pearl_kernel.proofs.state.State.use_up.Goals as goal

pub returns-then-used-eq0-clause-used : goal.returns-then-used-eq0-clause-used
returns-then-used-eq0-clause-used c =
    let k = c.args.self.now in
    subst (λ n. k ≡ record k { core = without_bytes k.core c.args.device n }) (sym c.if-used-eq0.true)
    (none-used k c.args.device c.requires)

pub returns-clause-stirs : goal.returns-clause-stirs
returns-clause-stirs c =
    let k = c.args.self.now in
    stirs-channel k c.drop_bytes.new.self c.args.device (Bytes (drop c.args.used (bytes_at k.core c.args.device)))
    c.drop_bytes.ensures
