use Rattle.std.proofs.Common.{[], refl, ap, ◌∙◌, map, string_bytes}
use Rattle.std.proofs.lemmas.Result.{err_from_is_err_and}
use Rattle.pearl_io.specs.Outside.{CountRose, WriteFailed}
use Rattle.pearl_io.proofs.Offered.{rose_since}
use Rattle.pearl_rules.specs.Core.{Core}
use Rattle.pearl_script.specs.declared.refusal.Refusal.TheVariants as refusal
use Rattle.pearl_script.specs.Refusals.{refusal_line}
use Rattle.pearl_top.specs.declared.failure.Failure.TheVariants as failure
use Rattle.pearl_top.specs.declared.status.Status.TheVariants.{NoMemory}
use Rattle.pearl_top.specs.declared.limits.TheConstants.{OBJECT_LIMIT}
use Rattle.pearl_top.specs.JournalDue.{JournalDue}
use Rattle.pearl_top.specs.Reading.{UnreadDue}
use Rattle.pearl_top.specs.WatchDue.{NamesOrObjectDue, WatchDue, by_watch}
use Rattle.pearl_top.proofs.Explained.{explained, may_have}
use Rattle.pearl_top.proofs.LineLaws.{new_first, new_unread}
use Rattle.pearl_top.proofs.TakenLaws.{is_due_as, leaves_as, leaves_due}
use Rattle.pearl_top.proofs.WatchLaws.{watch_accepted, watch_refused, watch_unread}
use Rattle.pearl_top.proofs.WordLaws.{may_have_before}
use Rattle.pearl_top.proofs.top.watch.Goals as goal

pub returns-in_err-bytes-clause-ends : goal.returns-in_err-bytes-clause-ends
returns-in_err-bytes-clause-ends g c =
    let held = g.S.Shelf.holds c.args.shelf.now in
    let object_rose : Type 0 = CountRose (g.S.Shelf.faults c.args.shelf.now c.args.object.now) (g.S.Shelf.faults c.read_whole.new.shelf c.args.object.now) in
    let journal_rose : Type 0 = CountRose (g.S.Shelf.faults c.args.shelf.now c.args.journal.now) (g.S.Shelf.faults c.read_whole.new.shelf c.args.journal.now) in
    let failed : Type 0 = WriteFailed (g.K.Sink.faults c.args.sink.now) (g.K.Sink.faults c.args.sink.now) (g.K.Sink.full c.args.sink.now) in
    let read = c.in_err-bytes.ensures.read in
    let journal = explained held c.args.journal.now [] in
    let why = c.in_err-bytes.field-0.0 in
    let e = err_from_is_err_and c.from_residual.result c.from_residual.ensures.1 in (
      read.0,
      journal,
      read.1,
      may_have held c.args.journal.now [],
      rw (e.1, e.2) (leaves_due (g.K.Sink.taken c.args.sink.now) failed (WatchDue read.0 (map string_bytes c.args.names.now) journal object_rose journal_rose) why
          (is_due_as (UnreadDue read.0 OBJECT_LIMIT object_rose) (WatchDue read.0 (map string_bytes c.args.names.now) journal object_rose journal_rose) why
          (watch_unread read.0 (map string_bytes c.args.names.now) journal object_rose journal_rose) read.2)),
    )

pub returns-in_err-monitor-clause-ends : goal.returns-in_err-monitor-clause-ends
returns-in_err-monitor-clause-ends g c =
    let held = g.S.Shelf.holds c.args.shelf.now in
    let object_rose : Type 0 = CountRose (g.S.Shelf.faults c.args.shelf.now c.args.object.now) (g.S.Shelf.faults c.read_whole.new.shelf c.args.object.now) in
    let journal_rose : Type 0 = CountRose (g.S.Shelf.faults c.args.shelf.now c.args.journal.now) (g.S.Shelf.faults c.read_whole.new.shelf c.args.journal.now) in
    let failed : Type 0 = WriteFailed (g.K.Sink.faults c.args.sink.now) (g.K.Sink.faults c.args.sink.now) (g.K.Sink.full c.args.sink.now) in
    let read = c.in_ok-bytes.ensures.read in
    let journal = explained held c.args.journal.now [] in
    let why = c.in_err-monitor.field-0.0 in
    let e = err_from_is_err_and c.from_residual-in_err-monitor.result c.from_residual-in_err-monitor.ensures.1 in (
      read.0,
      journal,
      read.1,
      may_have held c.args.journal.now [],
      rw (e.1, e.2) (leaves_due (g.K.Sink.taken c.args.sink.now) failed (WatchDue read.0 (map string_bytes c.args.names.now) journal object_rose journal_rose) why
          (is_due_as (NamesOrObjectDue c.as_slice.result.now (map string_bytes c.args.names.now)) (WatchDue read.0 (map string_bytes c.args.names.now) journal object_rose journal_rose) why
          (λ s bytes. watch_refused c.as_slice.result.now read.0 (map string_bytes c.args.names.now) journal object_rose journal_rose s bytes (c.as_slice.ensures.value ∙ read.2.0))
          c.in_err-monitor.ensures.err)),
    )

pub returns-in_err-lines-clause-ends : goal.returns-in_err-lines-clause-ends
returns-in_err-lines-clause-ends g c =
    let held = g.S.Shelf.holds c.args.shelf.now in
    let object_rose : Type 0 = CountRose (g.S.Shelf.faults c.args.shelf.now c.args.object.now) (g.S.Shelf.faults c.read_whole.new.shelf c.args.object.now) in
    let journal_rose : Type 0 = CountRose (g.S.Shelf.faults c.args.shelf.now c.args.journal.now) (g.S.Shelf.faults c.read_whole.new.shelf c.args.journal.now) in
    let failed : Type 0 = WriteFailed (g.K.Sink.faults c.args.sink.now) (g.K.Sink.faults c.args.sink.now) (g.K.Sink.full c.args.sink.now) in
    let read = c.in_ok-bytes.ensures.read in
    let journal = explained held c.args.journal.now [] in
    let e = err_from_is_err_and c.from_residual-in_err-lines.result c.from_residual-in_err-lines.ensures.1 in (
      read.0,
      journal,
      read.1,
      may_have held c.args.journal.now [],
      rw (e.1, e.2) (leaves_due (g.K.Sink.taken c.args.sink.now) failed (WatchDue read.0 (map string_bytes c.args.names.now) journal object_rose journal_rose) (failure.Refused refusal.Memory)
          (watch_unread read.0 (map string_bytes c.args.names.now) journal object_rose journal_rose NoMemory (refusal_line refusal.Memory) refl)),
    )

pub replay-requires-clause-starts : goal.replay-requires-clause-starts
replay-requires-clause-starts g c = c.in_ok-monitor.ensures.ready

pub replay-requires-clause-unread : goal.replay-requires-clause-unread
replay-requires-clause-unread g c = new_unread c.in_ok-lines.lines c.in_ok-lines.ensures

pub replay-requires-clause-first : goal.replay-requires-clause-first
replay-requires-clause-first g c =
    new_first c.in_ok-lines.lines _ c.in_ok-lines.ensures (ap (λ (core : Core). core.moment) c.in_ok-monitor.ensures.ready.core)

pub returns-clause-ends : goal.returns-clause-ends
returns-clause-ends g c =
    let held = g.S.Shelf.holds c.args.shelf.now in
    let object_rose : Type 0 = CountRose (g.S.Shelf.faults c.args.shelf.now c.args.object.now) (g.S.Shelf.faults c.replay.new.shelf c.args.object.now) in
    let also : Type 0 = CountRose (g.S.Shelf.faults c.read_whole.new.shelf c.args.journal.now) (g.S.Shelf.faults c.replay.new.shelf c.args.journal.now) in
    let journal_rose : Type 0 = CountRose (g.S.Shelf.faults c.args.shelf.now c.args.journal.now) (g.S.Shelf.faults c.replay.new.shelf c.args.journal.now) in
    let failed : Type 0 = WriteFailed (g.K.Sink.faults c.args.sink.now) (g.K.Sink.faults c.replay.new.sink) (g.K.Sink.full c.replay.new.sink) in
    let read = c.in_ok-bytes.ensures.read in
    let ends = c.replay.ensures.ends in (
      read.0,
      ends.0,
      read.1,
      may_have_before held _ c.args.journal.now ends.0 c.read_whole.ensures.held ends.1,
      leaves_as (g.K.Sink.taken c.args.sink.now) (g.K.Sink.taken c.replay.new.sink) failed (JournalDue (by_watch c.in_ok-monitor.monitor.watch.names c.in_ok-monitor.monitor.machine.object) ends.0 also)
          (WatchDue read.0 (map string_bytes c.args.names.now) ends.0 object_rose journal_rose) c.replay.result
          (λ s bytes. watch_accepted c.as_slice.result.now read.0 (map string_bytes c.args.names.now) c.in_ok-monitor.monitor.watch.names ends.0 object_rose also journal_rose c.in_ok-monitor.monitor.machine.object s bytes
          (c.as_slice.ensures.value ∙ read.2.0) c.in_ok-monitor.ensures.names
          (rose_since _ _ _ (c.read_whole.ensures.later c.args.journal.now)) c.in_ok-monitor.ensures.object) ends.2,
    )
