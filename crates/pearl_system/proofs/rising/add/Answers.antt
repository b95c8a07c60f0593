use Rattle.std.proofs.Common.{sym, subst}
use Rattle.pearl_system.specs.Devices.{device_key}
use Rattle.pearl_system.specs.Rising.{IsRising}
use Rattle.pearl_system.proofs.Lists.{joins_found, rising_found}
use Rattle.pearl_system.proofs.rising.add.Goals as goal

pub spot_of-requires : goal.spot_of-requires
spot_of-requires c = subst (λ s. IsRising device_key s) (sym c.as_slice.ensures.value) c.requires

pub returns-in_ok-insert-in-Some-clause-rising : goal.returns-in_ok-insert-in-Some-clause-rising
returns-in_ok-insert-in-Some-clause-rising c =
    rising_found device_key c.args.device c.args.items.now.items c.as_slice.result.now c.insert.new.self.items c.in-Some.at c.key_of.result
    c.as_slice.ensures.value c.key_of.ensures c.in_ok-insert-in-Some.ensures.items c.requires c.in-Some.ensures.above c.in-Some.ensures.below

pub returns-in_ok-insert-in-Some-clause-joins : goal.returns-in_ok-insert-in-Some-clause-joins
returns-in_ok-insert-in-Some-clause-joins c =
    joins_found device_key c.args.device c.args.items.now.items c.as_slice.result.now c.insert.new.self.items c.in-Some.at c.key_of.result
    c.as_slice.ensures.value c.key_of.ensures c.in_ok-insert-in-Some.ensures.items c.in-Some.ensures.above c.in-Some.ensures.below
