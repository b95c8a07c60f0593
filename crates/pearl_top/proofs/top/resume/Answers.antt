use Rattle.std.proofs.Common.{[], refl, ◌∙◌}
use Rattle.std.proofs.lemmas.Result.{err_from_is_err_and}
use Rattle.pearl_io.specs.Outside.{CountRose, WriteFailed}
use Rattle.pearl_io.proofs.Offered.{rose_since}
use Rattle.pearl_script.specs.declared.refusal.Refusal.TheVariants as refusal
use Rattle.pearl_script.specs.Refusals.{refusal_line}
use Rattle.pearl_top.specs.declared.failure.Failure.TheVariants as failure
use Rattle.pearl_top.specs.declared.status.Status.TheVariants.{NoMemory}
use Rattle.pearl_top.specs.declared.limits.TheConstants.{SNAPSHOT_LIMIT}
use Rattle.pearl_top.specs.JournalDue.{JournalDue}
use Rattle.pearl_top.specs.Reading.{UnreadDue}
use Rattle.pearl_top.specs.Resumed.{by_seen}
use Rattle.pearl_top.specs.ResumeDue.{ResumeDue, SnapshotDue}
use Rattle.pearl_top.proofs.Explained.{explained, may_have}
use Rattle.pearl_top.proofs.ResumeLaws.{is_resumed, later_first, later_unread, resume_accepted, resume_refused}
use Rattle.pearl_top.proofs.ResumeLaws.{resume_unread}
use Rattle.pearl_top.proofs.TakenLaws.{is_due_as, leaves_as, leaves_due}
use Rattle.pearl_top.proofs.WordLaws.{may_have_before}
use Rattle.pearl_top.proofs.top.resume.Goals as goal

pub returns-in_err-bytes-clause-ends : goal.returns-in_err-bytes-clause-ends
returns-in_err-bytes-clause-ends g c =
    let held = g.S.Shelf.holds c.args.shelf.now in
    let snapshot_rose : Type 0 = CountRose (g.S.Shelf.faults c.args.shelf.now c.args.snapshot.now)
    (g.S.Shelf.faults c.read_whole.new.shelf c.args.snapshot.now) in
    let journal_rose : Type 0 = CountRose (g.S.Shelf.faults c.args.shelf.now c.args.journal.now)
    (g.S.Shelf.faults c.read_whole.new.shelf c.args.journal.now) in
    let failed : Type 0 = WriteFailed (g.K.Sink.faults c.args.sink.now) (g.K.Sink.faults c.args.sink.now)
    (g.K.Sink.full c.args.sink.now) in
    let read = c.in_err-bytes.ensures.read in
    let journal = explained held c.args.journal.now [] in
    let why = c.in_err-bytes.field-0.0 in
    let e = err_from_is_err_and c.from_residual.result c.from_residual.ensures.1 in (
      read.0,
      journal,
      read.1,
      may_have held c.args.journal.now [],
      rw (e.1, e.2) (leaves_due (g.K.Sink.taken c.args.sink.now) failed
          (ResumeDue read.0 journal snapshot_rose journal_rose) why
          (is_due_as (UnreadDue read.0 SNAPSHOT_LIMIT snapshot_rose)
          (ResumeDue read.0 journal snapshot_rose journal_rose) why
          (resume_unread read.0 journal snapshot_rose journal_rose) read.2)),
    )

pub returns-in_err-machine-clause-ends : goal.returns-in_err-machine-clause-ends
returns-in_err-machine-clause-ends g c =
    let held = g.S.Shelf.holds c.args.shelf.now in
    let snapshot_rose : Type 0 = CountRose (g.S.Shelf.faults c.args.shelf.now c.args.snapshot.now)
    (g.S.Shelf.faults c.read_whole.new.shelf c.args.snapshot.now) in
    let journal_rose : Type 0 = CountRose (g.S.Shelf.faults c.args.shelf.now c.args.journal.now)
    (g.S.Shelf.faults c.read_whole.new.shelf c.args.journal.now) in
    let failed : Type 0 = WriteFailed (g.K.Sink.faults c.args.sink.now) (g.K.Sink.faults c.args.sink.now)
    (g.K.Sink.full c.args.sink.now) in
    let read = c.in_ok-bytes.ensures.read in
    let journal = explained held c.args.journal.now [] in
    let why = c.in_err-machine.field-0.0 in
    let e = err_from_is_err_and c.from_residual-in_err-machine.result c.from_residual-in_err-machine.ensures.1 in (
      read.0,
      journal,
      read.1,
      may_have held c.args.journal.now [],
      rw (e.1, e.2) (leaves_due (g.K.Sink.taken c.args.sink.now) failed
          (ResumeDue read.0 journal snapshot_rose journal_rose) why
          (is_due_as (SnapshotDue c.as_slice.result.now ⊥) (ResumeDue read.0 journal snapshot_rose journal_rose) why
          (λ s bytes. resume_refused c.as_slice.result.now read.0 journal snapshot_rose journal_rose s bytes
          (c.as_slice.ensures.value ∙ read.2.0))
          c.in_err-machine.ensures.err)),
    )

pub returns-in_err-lines-clause-ends : goal.returns-in_err-lines-clause-ends
returns-in_err-lines-clause-ends g c =
    let held = g.S.Shelf.holds c.args.shelf.now in
    let snapshot_rose : Type 0 = CountRose (g.S.Shelf.faults c.args.shelf.now c.args.snapshot.now)
    (g.S.Shelf.faults c.read_whole.new.shelf c.args.snapshot.now) in
    let journal_rose : Type 0 = CountRose (g.S.Shelf.faults c.args.shelf.now c.args.journal.now)
    (g.S.Shelf.faults c.read_whole.new.shelf c.args.journal.now) in
    let failed : Type 0 = WriteFailed (g.K.Sink.faults c.args.sink.now) (g.K.Sink.faults c.args.sink.now)
    (g.K.Sink.full c.args.sink.now) in
    let read = c.in_ok-bytes.ensures.read in
    let journal = explained held c.args.journal.now [] in
    let e = err_from_is_err_and c.from_residual-in_err-lines.result c.from_residual-in_err-lines.ensures.1 in (
      read.0,
      journal,
      read.1,
      may_have held c.args.journal.now [],
      rw (e.1, e.2) (leaves_due (g.K.Sink.taken c.args.sink.now) failed
          (ResumeDue read.0 journal snapshot_rose journal_rose) (failure.Refused refusal.Memory)
          (resume_unread read.0 journal snapshot_rose journal_rose NoMemory (refusal_line refusal.Memory) refl)),
    )

pub replay-requires-clause-starts : goal.replay-requires-clause-starts
replay-requires-clause-starts g c = is_resumed c.as_slice.result.now c.in_ok-machine.machine c.in_ok-machine.ensures.ok

pub replay-requires-clause-unread : goal.replay-requires-clause-unread
replay-requires-clause-unread g c = later_unread c.in_ok-lines.lines c.in_ok-lines.ensures

pub replay-requires-clause-first : goal.replay-requires-clause-first
replay-requires-clause-first g c = later_first c.in_ok-lines.lines c.in_ok-machine.machine c.in_ok-lines.ensures

pub returns-clause-ends : goal.returns-clause-ends
returns-clause-ends g c =
    let held = g.S.Shelf.holds c.args.shelf.now in
    let snapshot_rose : Type 0 = CountRose (g.S.Shelf.faults c.args.shelf.now c.args.snapshot.now)
    (g.S.Shelf.faults c.replay.new.shelf c.args.snapshot.now) in
    let also : Type 0 = CountRose (g.S.Shelf.faults c.read_whole.new.shelf c.args.journal.now)
    (g.S.Shelf.faults c.replay.new.shelf c.args.journal.now) in
    let journal_rose : Type 0 = CountRose (g.S.Shelf.faults c.args.shelf.now c.args.journal.now)
    (g.S.Shelf.faults c.replay.new.shelf c.args.journal.now) in
    let failed : Type 0 = WriteFailed (g.K.Sink.faults c.args.sink.now) (g.K.Sink.faults c.replay.new.sink)
    (g.K.Sink.full c.replay.new.sink) in
    let read = c.in_ok-bytes.ensures.read in
    let ends = c.replay.ensures.ends in (
      read.0,
      ends.0,
      read.1,
      may_have_before held _ c.args.journal.now ends.0 c.read_whole.ensures.held ends.1,
      leaves_as (g.K.Sink.taken c.args.sink.now) (g.K.Sink.taken c.replay.new.sink) failed
          (JournalDue (by_seen c.in_ok-machine.machine) ends.0 also)
          (ResumeDue read.0 ends.0 snapshot_rose journal_rose) c.replay.result
          (λ s bytes. resume_accepted c.as_slice.result.now read.0 ends.0 snapshot_rose also journal_rose
          c.in_ok-machine.machine s bytes (c.as_slice.ensures.value ∙ read.2.0)
          (rose_since _ _ _ (c.read_whole.ensures.later c.args.journal.now)) c.in_ok-machine.ensures.ok) ends.2,
    )
