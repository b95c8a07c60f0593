use Rattle.std.proofs.Common.{arith}
use Rattle.pearl_snap.proofs.Reading.{snapshot_takes, saved_fits, seen_of, same_snapshot, never_both, none_before, begins_none, whole_bad}
use Rattle.pearl_snap.proofs.snapshot.read.Goals as goal

pub returns-in-Ok-clause-read : goal.returns-in-Ok-clause-read
returns-in-Ok-clause-read c =
    let t = snapshot_takes c.args.bytes.now c.in-Ok.snapshot (λ i. omega (arith, c.type_inv.bytes i)) c.in-Ok.ensures in
    (t.0, saved_fits c.in-Ok.snapshot t.1)

pub returns-in-Ok-clause-only : goal.returns-in-Ok-clause-only
returns-in-Ok-clause-only c = λ s is fits same. same_snapshot _ c.in-Ok.snapshot s c.in-Ok.ensures (seen_of c.args.bytes.now s (λ i. omega (arith, c.type_inv.bytes i)) is fits same)

pub returns-in-Err-Bad-clause-only : goal.returns-in-Err-Bad-clause-only
returns-in-Err-Bad-clause-only c = λ s is fits same. never_both _ s c.in-Err-Bad.left (seen_of c.args.bytes.now s (λ i. omega (arith, c.type_inv.bytes i)) is fits same) (whole_bad _ c.in-Err-Bad.field-0 c.in-Err-Bad.left c.in-Err-Bad.field-0-is c.in-Err-Bad.ensures)

pub returns-in-Err-Bad-clause-bad : goal.returns-in-Err-Bad-clause-bad
returns-in-Err-Bad-clause-bad c =
    let seen = whole_bad _ c.in-Err-Bad.field-0 c.in-Err-Bad.left c.in-Err-Bad.field-0-is c.in-Err-Bad.ensures in
    let place = c.saturating_sub.ensures in
    (c.in-Err-Bad.left, seen, place, rw place (none_before c.args.bytes.now c.in-Err-Bad.left (λ i. omega (arith, c.type_inv.bytes i)) seen), λ some s more is fits small same. begins_none c.args.bytes.now c.in-Err-Bad.left (λ i. omega (arith, c.type_inv.bytes i)) seen some s more is fits small same)
