use Rattle.std.proofs.Common.{subst}
use Rattle.pearl_instructions.specs.Lawful.{IsObject}
use Rattle.pearl_snap.proofs.Restored.{snapshot_is, joined, comes_back, still_ends, has_cause, comes_to, unread, only_unread}
use Rattle.pearl_snap.proofs.restore.restore.Goals as goal

pub returns-in-Ok-clause-ok : goal.returns-in-Ok-clause-ok
returns-in-Ok-clause-ok c =
    let is = snapshot_is c.args.bytes.now c.in-Ok.snapshot (subst IsObject c.parts-parts.ensures.value c.parts-parts.ensures.object) c.in-Ok.ensures.read in
    comes_back c.args.bytes.now c.in-Ok.snapshot.object c.in-Ok.snapshot.saved is c.judged.result c.judged.ensures

pub returns-in-Ok-clause-ends : goal.returns-in-Ok-clause-ends
returns-in-Ok-clause-ends c =
    let is = snapshot_is c.args.bytes.now c.in-Ok.snapshot (subst IsObject c.parts-parts.ensures.value c.parts-parts.ensures.object) c.in-Ok.ensures.read in
    still_ends c.args.bytes.now c.in-Ok.snapshot.object c.in-Ok.snapshot.saved is c.judged.result c.judged.ensures

pub returns-in-Ok-clause-err : goal.returns-in-Ok-clause-err
returns-in-Ok-clause-err c =
    let is = snapshot_is c.args.bytes.now c.in-Ok.snapshot (subst IsObject c.parts-parts.ensures.value c.parts-parts.ensures.object) c.in-Ok.ensures.read in
    has_cause c.args.bytes.now c.in-Ok.snapshot.object c.in-Ok.snapshot.saved is c.judged.result c.judged.ensures

pub returns-in-Ok-clause-only : goal.returns-in-Ok-clause-only
returns-in-Ok-clause-only c = λ o s is. comes_to c.in-Ok.snapshot c.judged.result c.judged.ensures o s (c.in-Ok.ensures.only (joined o s) is.object is.state is.same)

pub returns-in-Err-clause-err : goal.returns-in-Err-clause-err
returns-in-Err-clause-err c = unread c.args.bytes.now c.in-Err.fail c.cause.result c.cause.ensures c.in-Err.ensures.only c.in-Err.ensures.bad

pub returns-in-Err-clause-only : goal.returns-in-Err-clause-only
returns-in-Err-clause-only c = only_unread c.args.bytes.now c.in-Err.fail c.cause.result c.cause.ensures c.in-Err.ensures.only
