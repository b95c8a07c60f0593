use Rattle.std.proofs.Common.{arith}
use Rattle.pearl_object.proofs.Reading.{object_takes, is_object, seen_of, same_object, never_both, none_before, begins_none, whole_bad}
use Rattle.pearl_object.proofs.object.read.Goals as goal

pub new-requires : goal.new-requires
new-requires c = is_object c.args.bytes.now c.in-Ok.parts (λ i. omega (arith, c.type_inv.bytes i)) c.requires c.in-Ok.ensures

pub returns-in-Ok-clause-read : goal.returns-in-Ok-clause-read
returns-in-Ok-clause-read c = rw c.new.ensures (object_takes c.args.bytes.now c.in-Ok.parts (λ i. omega (arith, c.type_inv.bytes i)) c.in-Ok.ensures).0

pub returns-in-Ok-clause-only : goal.returns-in-Ok-clause-only
returns-in-Ok-clause-only c = λ o is same. rw c.new.ensures (same_object _ c.in-Ok.parts o c.in-Ok.ensures (seen_of c.args.bytes.now o (λ i. omega (arith, c.type_inv.bytes i)) is same))

pub returns-in-Err-Bad-clause-only : goal.returns-in-Err-Bad-clause-only
returns-in-Err-Bad-clause-only c = λ o is same. never_both _ o c.in-Err-Bad.left (seen_of c.args.bytes.now o (λ i. omega (arith, c.type_inv.bytes i)) is same) (whole_bad _ c.in-Err-Bad.field-0 c.in-Err-Bad.left c.in-Err-Bad.field-0-is c.in-Err-Bad.ensures)

pub returns-in-Err-Bad-clause-bad : goal.returns-in-Err-Bad-clause-bad
returns-in-Err-Bad-clause-bad c =
    let seen = whole_bad _ c.in-Err-Bad.field-0 c.in-Err-Bad.left c.in-Err-Bad.field-0-is c.in-Err-Bad.ensures in
    let place = c.saturating_sub.ensures in
    (c.in-Err-Bad.left, seen, place, rw place (none_before c.args.bytes.now c.in-Err-Bad.left (λ i. omega (arith, c.type_inv.bytes i)) seen), λ some o more is small same. begins_none c.args.bytes.now c.in-Err-Bad.left (λ i. omega (arith, c.type_inv.bytes i)) seen some o more is small same)
