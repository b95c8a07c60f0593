use Rattle.std.proofs.Common.{subst}
use Rattle.pearl_scan.specs.Progress.{CanGoOn}
use Rattle.pearl_scan.proofs.Going.{now, waits_yet}
use Rattle.pearl_scan.proofs.progress.Progress.go_on.Goals as goal

pub returns-in-Complete : goal.returns-in-Complete
returns-in-Complete c =
    let always = subst (CanGoOn c.args.items.now c.args.kinds.now c.args.bytes.now) c.in-Complete.is c.requires.goes_on in
    record { goes_on = always; tells = now c.args.items.now c.args.kinds.now c.args.bytes.now always }

pub returns-then-waits : goal.returns-then-waits
returns-then-waits c =
    let has = subst (CanGoOn c.args.items.now c.args.kinds.now c.args.bytes.now) c.in-Short.is c.requires.goes_on in
    let few = c.waits.ensures c.if-waits.true in
    record {
      goes_on = has;
      tells = waits_yet c.args.items.now c.args.kinds.now c.args.bytes.now c.in-Short.reached c.args.lines has c.requires.lines few.0 few.1 few.2;
    }
