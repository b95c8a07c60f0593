use Rattle.std.proofs.Common.{[], refl, sym, subst, ◌∙◌, Err, arith}
use Rattle.std.proofs.lemmas.Result.{err_from_is_err_and}
use Rattle.pearl_io.specs.Outside.{CountRose, WriteFailed}
use Rattle.pearl_io.proofs.Offered.{rose_since}
use Rattle.pearl_script.specs.declared.refusal.Refusal.TheVariants as refusal
use Rattle.pearl_script.specs.Refusals.{refusal_line}
use Rattle.pearl_top.specs.declared.failure.Failure.TheVariants as failure
use Rattle.pearl_top.specs.declared.status.Status.TheVariants.{NoMemory}
use Rattle.pearl_top.specs.declared.limits.TheConstants.{OBJECT_LIMIT}
use Rattle.pearl_top.specs.JournalDue.{JournalDue}
use Rattle.pearl_top.specs.ObjectDue.{ObjectDue}
use Rattle.pearl_top.specs.Reading.{UnreadDue}
use Rattle.pearl_top.specs.SaveDue.{SaveDue, by_save}
use Rattle.pearl_top.specs.Taken.{Leaves}
use Rattle.pearl_top.proofs.Explained.{explained, may_have}
use Rattle.pearl_top.proofs.SaveLaws.{save_accepted, save_refused, save_unread, saved_short, saved_whole}
use Rattle.pearl_top.proofs.TakenLaws.{is_due_as, leaves_due}
use Rattle.pearl_top.proofs.WordLaws.{may_have_before}
use Rattle.pearl_top.proofs.top.save.Goals as goal

pub returns-in_err-bytes-clause-ends : goal.returns-in_err-bytes-clause-ends
returns-in_err-bytes-clause-ends g c =
    let held = g.S.Shelf.holds c.args.shelf.now in
    let object_rose : Type 0 = CountRose (g.S.Shelf.faults c.args.shelf.now c.args.object.now) (g.S.Shelf.faults c.read_whole.new.shelf c.args.object.now) in
    let journal_rose : Type 0 = CountRose (g.S.Shelf.faults c.args.shelf.now c.args.journal.now) (g.S.Shelf.faults c.read_whole.new.shelf c.args.journal.now) in
    let failed : Type 0 = WriteFailed (g.K.Sink.faults c.args.sink.now) (g.K.Sink.faults c.args.sink.now) (g.K.Sink.full c.args.sink.now) in
    let read = c.in_err-bytes.ensures.read in
    let journal = explained held c.args.journal.now [] in
    let why = c.in_err-bytes.field-0.0 in
    let e = err_from_is_err_and c.from_residual.result c.from_residual.ensures.1 in (
      read.0,
      journal,
      read.1,
      may_have held c.args.journal.now [],
      rw (e.1, e.2) (leaves_due (g.K.Sink.taken c.args.sink.now) failed (SaveDue read.0 journal object_rose journal_rose) why
          (is_due_as (UnreadDue read.0 OBJECT_LIMIT object_rose) (SaveDue read.0 journal object_rose journal_rose) why
          (save_unread read.0 journal object_rose journal_rose) read.2)),
    )

pub returns-in_err-machine-clause-ends : goal.returns-in_err-machine-clause-ends
returns-in_err-machine-clause-ends g c =
    let held = g.S.Shelf.holds c.args.shelf.now in
    let object_rose : Type 0 = CountRose (g.S.Shelf.faults c.args.shelf.now c.args.object.now) (g.S.Shelf.faults c.read_whole.new.shelf c.args.object.now) in
    let journal_rose : Type 0 = CountRose (g.S.Shelf.faults c.args.shelf.now c.args.journal.now) (g.S.Shelf.faults c.read_whole.new.shelf c.args.journal.now) in
    let failed : Type 0 = WriteFailed (g.K.Sink.faults c.args.sink.now) (g.K.Sink.faults c.args.sink.now) (g.K.Sink.full c.args.sink.now) in
    let read = c.in_ok-bytes.ensures.read in
    let journal = explained held c.args.journal.now [] in
    let why = c.in_err-machine.field-0.0 in
    let e = err_from_is_err_and c.from_residual-in_err-machine.result c.from_residual-in_err-machine.ensures.1 in (
      read.0,
      journal,
      read.1,
      may_have held c.args.journal.now [],
      rw (e.1, e.2) (leaves_due (g.K.Sink.taken c.args.sink.now) failed (SaveDue read.0 journal object_rose journal_rose) why
          (is_due_as (ObjectDue c.as_slice.result.now ⊥) (SaveDue read.0 journal object_rose journal_rose) why
          (λ s bytes. save_refused c.as_slice.result.now read.0 journal object_rose journal_rose s bytes (c.as_slice.ensures.value ∙ read.2.0))
          c.in_err-machine.ensures.err)),
    )

pub returns-in_err-lines-clause-ends : goal.returns-in_err-lines-clause-ends
returns-in_err-lines-clause-ends g c =
    let held = g.S.Shelf.holds c.args.shelf.now in
    let object_rose : Type 0 = CountRose (g.S.Shelf.faults c.args.shelf.now c.args.object.now) (g.S.Shelf.faults c.read_whole.new.shelf c.args.object.now) in
    let journal_rose : Type 0 = CountRose (g.S.Shelf.faults c.args.shelf.now c.args.journal.now) (g.S.Shelf.faults c.read_whole.new.shelf c.args.journal.now) in
    let failed : Type 0 = WriteFailed (g.K.Sink.faults c.args.sink.now) (g.K.Sink.faults c.args.sink.now) (g.K.Sink.full c.args.sink.now) in
    let read = c.in_ok-bytes.ensures.read in
    let journal = explained held c.args.journal.now [] in
    let e = err_from_is_err_and c.from_residual-in_err-lines.result c.from_residual-in_err-lines.ensures.1 in (
      read.0,
      journal,
      read.1,
      may_have held c.args.journal.now [],
      rw (e.1, e.2) (leaves_due (g.K.Sink.taken c.args.sink.now) failed (SaveDue read.0 journal object_rose journal_rose) (failure.Refused refusal.Memory)
          (save_unread read.0 journal object_rose journal_rose NoMemory (refusal_line refusal.Memory) refl)),
    )

pub returns-in_err-go_over-clause-ends : goal.returns-in_err-go_over-clause-ends
returns-in_err-go_over-clause-ends g c =
    let held = g.S.Shelf.holds c.args.shelf.now in
    let object_rose : Type 0 = CountRose (g.S.Shelf.faults c.args.shelf.now c.args.object.now) (g.S.Shelf.faults c.go_over.new.shelf c.args.object.now) in
    let also : Type 0 = CountRose (g.S.Shelf.faults c.read_whole.new.shelf c.args.journal.now) (g.S.Shelf.faults c.go_over.new.shelf c.args.journal.now) in
    let journal_rose : Type 0 = CountRose (g.S.Shelf.faults c.args.shelf.now c.args.journal.now) (g.S.Shelf.faults c.go_over.new.shelf c.args.journal.now) in
    let failed : Type 0 = WriteFailed (g.K.Sink.faults c.args.sink.now) (g.K.Sink.faults c.args.sink.now) (g.K.Sink.full c.args.sink.now) in
    let read = c.in_ok-bytes.ensures.read in
    let short = c.in_err-go_over.ensures.err in
    let why = c.in_err-go_over.field-0.0 in
    let e = err_from_is_err_and c.from_residual-in_err-go_over.result c.from_residual-in_err-go_over.ensures.1 in (
      read.0,
      short.0,
      read.1,
      may_have_before held _ c.args.journal.now short.0 c.read_whole.ensures.held short.1,
      rw (e.1, e.2) (leaves_due (g.K.Sink.taken c.args.sink.now) failed (SaveDue read.0 short.0 object_rose journal_rose) why
          (is_due_as (JournalDue (by_save c.in_ok-machine.machine.object) short.0 also) (SaveDue read.0 short.0 object_rose journal_rose) why
          (λ s bytes. save_accepted c.as_slice.result.now read.0 short.0 object_rose also journal_rose c.in_ok-machine.machine.object s bytes
          (c.as_slice.ensures.value ∙ read.2.0) (rose_since _ _ _ (c.read_whole.ensures.later c.args.journal.now)) c.in_ok-machine.ensures.code) short.2)),
    )

pub returns-in_err-text-clause-ends : goal.returns-in_err-text-clause-ends
returns-in_err-text-clause-ends g c =
    let held = g.S.Shelf.holds c.args.shelf.now in
    let object_rose : Type 0 = CountRose (g.S.Shelf.faults c.args.shelf.now c.args.object.now) (g.S.Shelf.faults c.go_over.new.shelf c.args.object.now) in
    let journal_rose : Type 0 = CountRose (g.S.Shelf.faults c.args.shelf.now c.args.journal.now) (g.S.Shelf.faults c.go_over.new.shelf c.args.journal.now) in
    let failed : Type 0 = WriteFailed (g.K.Sink.faults c.args.sink.now) (g.K.Sink.faults c.args.sink.now) (g.K.Sink.full c.args.sink.now) in
    let read = c.in_ok-bytes.ensures.read in
    let ran = c.in_ok-go_over.ensures.ok in
    let taken = g.K.Sink.taken c.args.sink.now in
    let e = err_from_is_err_and c.from_residual-in_err-text.result c.from_residual-in_err-text.ensures.1 in (
      read.0,
      ran.0,
      read.1,
      may_have_before held _ c.args.journal.now ran.0 c.read_whole.ensures.held ran.1,
      rw (e.1, e.2) (subst (λ why. Leaves taken taken failed (SaveDue read.0 ran.0 object_rose journal_rose) (Err why)) (sym c.in_err-text.ensures.err)
          (leaves_due taken failed (SaveDue read.0 ran.0 object_rose journal_rose) (failure.Refused refusal.Memory)
          (save_unread read.0 ran.0 object_rose journal_rose NoMemory (refusal_line refusal.Memory) refl))),
    )

pub returns-in_err-put_all-clause-ends : goal.returns-in_err-put_all-clause-ends
returns-in_err-put_all-clause-ends g c =
    let held = g.S.Shelf.holds c.args.shelf.now in
    let object_rose : Type 0 = CountRose (g.S.Shelf.faults c.args.shelf.now c.args.object.now) (g.S.Shelf.faults c.go_over.new.shelf c.args.object.now) in
    let journal_rose : Type 0 = CountRose (g.S.Shelf.faults c.args.shelf.now c.args.journal.now) (g.S.Shelf.faults c.go_over.new.shelf c.args.journal.now) in
    let failed : Type 0 = WriteFailed (g.K.Sink.faults c.args.sink.now) (g.K.Sink.faults c.put_all.new.sink) (g.K.Sink.full c.put_all.new.sink) in
    let read = c.in_ok-bytes.ensures.read in
    let ran = c.in_ok-go_over.ensures.ok in
    let e = err_from_is_err_and c.from_residual-in_err-put_all.result c.from_residual-in_err-put_all.ensures.1 in (
      read.0,
      ran.0,
      read.1,
      may_have_before held _ c.args.journal.now ran.0 c.read_whole.ensures.held ran.1,
      rw (e.1, e.2) (saved_short c.as_slice.result.now read.0 ran.0 object_rose journal_rose failed c.in_ok-machine.machine c.go_over.new.machine
          c.in_ok-text.text.items c.as_slice-2.result.now (g.K.Sink.taken c.args.sink.now) (g.K.Sink.taken c.put_all.new.sink) (c.as_slice.ensures.value ∙ read.2.0)
          c.in_ok-machine.ensures.code c.in_ok-machine.ensures.ready ran.2 c.in_ok-text.ensures.ok c.as_slice-2.ensures.value c.in_err-put_all.ensures.cause c.in_err-put_all.ensures.err),
    )

pub returns-clause-ends : goal.returns-clause-ends
returns-clause-ends g c =
    let held = g.S.Shelf.holds c.args.shelf.now in
    let object_rose : Type 0 = CountRose (g.S.Shelf.faults c.args.shelf.now c.args.object.now) (g.S.Shelf.faults c.go_over.new.shelf c.args.object.now) in
    let journal_rose : Type 0 = CountRose (g.S.Shelf.faults c.args.shelf.now c.args.journal.now) (g.S.Shelf.faults c.go_over.new.shelf c.args.journal.now) in
    let failed : Type 0 = WriteFailed (g.K.Sink.faults c.args.sink.now) (g.K.Sink.faults c.put_all.new.sink) (g.K.Sink.full c.put_all.new.sink) in
    let read = c.in_ok-bytes.ensures.read in
    let ran = c.in_ok-go_over.ensures.ok in (
      read.0,
      ran.0,
      read.1,
      may_have_before held _ c.args.journal.now ran.0 c.read_whole.ensures.held ran.1,
      saved_whole c.as_slice.result.now read.0 ran.0 object_rose journal_rose failed c.in_ok-machine.machine c.go_over.new.machine
          c.in_ok-text.text.items c.as_slice-2.result.now (g.K.Sink.taken c.args.sink.now) (g.K.Sink.taken c.put_all.new.sink) (c.as_slice.ensures.value ∙ read.2.0)
          c.in_ok-machine.ensures.code c.in_ok-machine.ensures.ready ran.2 c.in_ok-text.ensures.ok c.as_slice-2.ensures.value c.in_ok-put_all.ensures.ok,
    )

pub go_over-requires-clause-ready : goal.go_over-requires-clause-ready
go_over-requires-clause-ready g c = c.in_ok-machine.ensures.ready

pub go_over-requires-clause-unread : goal.go_over-requires-clause-unread
go_over-requires-clause-unread g c = c.in_ok-lines.ensures

pub snapshot_of-requires : goal.snapshot_of-requires
snapshot_of-requires g c = c.in_ok-go_over.ensures.ok.2.rests

pub returns-in_err-bytes-clause-held : goal.returns-in_err-bytes-clause-held
returns-in_err-bytes-clause-held g c = c.read_whole.ensures.held

pub returns-in_err-bytes-clause-shelf_later : goal.returns-in_err-bytes-clause-shelf_later
returns-in_err-bytes-clause-shelf_later g c = c.read_whole.ensures.later

pub returns-in_err-bytes-clause-sink_later : goal.returns-in_err-bytes-clause-sink_later
returns-in_err-bytes-clause-sink_later g c = omega arith

pub returns-in_err-machine-clause-held : goal.returns-in_err-machine-clause-held
returns-in_err-machine-clause-held g c = c.read_whole.ensures.held

pub returns-in_err-machine-clause-shelf_later : goal.returns-in_err-machine-clause-shelf_later
returns-in_err-machine-clause-shelf_later g c = c.read_whole.ensures.later

pub returns-in_err-machine-clause-sink_later : goal.returns-in_err-machine-clause-sink_later
returns-in_err-machine-clause-sink_later g c = omega arith

pub returns-in_err-lines-clause-held : goal.returns-in_err-lines-clause-held
returns-in_err-lines-clause-held g c = c.read_whole.ensures.held

pub returns-in_err-lines-clause-shelf_later : goal.returns-in_err-lines-clause-shelf_later
returns-in_err-lines-clause-shelf_later g c = c.read_whole.ensures.later

pub returns-in_err-lines-clause-sink_later : goal.returns-in_err-lines-clause-sink_later
returns-in_err-lines-clause-sink_later g c = omega arith

pub returns-in_err-go_over-clause-held : goal.returns-in_err-go_over-clause-held
returns-in_err-go_over-clause-held g c = c.go_over.ensures.held ∙ c.read_whole.ensures.held

pub returns-in_err-go_over-clause-shelf_later : goal.returns-in_err-go_over-clause-shelf_later
returns-in_err-go_over-clause-shelf_later g c name = omega (arith, c.read_whole.ensures.later name, c.go_over.ensures.shelf_later name)

pub returns-in_err-go_over-clause-sink_later : goal.returns-in_err-go_over-clause-sink_later
returns-in_err-go_over-clause-sink_later g c = omega arith

pub returns-in_err-text-clause-held : goal.returns-in_err-text-clause-held
returns-in_err-text-clause-held g c = c.go_over.ensures.held ∙ c.read_whole.ensures.held

pub returns-in_err-text-clause-shelf_later : goal.returns-in_err-text-clause-shelf_later
returns-in_err-text-clause-shelf_later g c name = omega (arith, c.read_whole.ensures.later name, c.go_over.ensures.shelf_later name)

pub returns-in_err-text-clause-sink_later : goal.returns-in_err-text-clause-sink_later
returns-in_err-text-clause-sink_later g c = omega arith

pub returns-in_err-put_all-clause-held : goal.returns-in_err-put_all-clause-held
returns-in_err-put_all-clause-held g c = c.go_over.ensures.held ∙ c.read_whole.ensures.held

pub returns-in_err-put_all-clause-shelf_later : goal.returns-in_err-put_all-clause-shelf_later
returns-in_err-put_all-clause-shelf_later g c name = omega (arith, c.read_whole.ensures.later name, c.go_over.ensures.shelf_later name)

pub returns-in_err-put_all-clause-sink_later : goal.returns-in_err-put_all-clause-sink_later
returns-in_err-put_all-clause-sink_later g c = c.put_all.ensures.later

pub returns-clause-held : goal.returns-clause-held
returns-clause-held g c = c.go_over.ensures.held ∙ c.read_whole.ensures.held

pub returns-clause-shelf_later : goal.returns-clause-shelf_later
returns-clause-shelf_later g c name = omega (arith, c.read_whole.ensures.later name, c.go_over.ensures.shelf_later name)

pub returns-clause-sink_later : goal.returns-clause-sink_later
returns-clause-sink_later g c = c.put_all.ensures.later
