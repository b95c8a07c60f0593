use Rattle.std.proofs.Common.{[], ◌∷◌, List, ℕ, refl}
use Rattle.std.specs.Prelude.{Err, map, string_bytes}
use Rattle.pearl_io.specs.Outside.{CountRose, WriteFailed}
use Rattle.pearl_script.specs.declared.refusal.Refusal.TheVariants as refusal
use Rattle.pearl_top.specs.declared.failure.Failure.TheVariants as failure
use Rattle.pearl_top.specs.Commands.{Run, Check, Print, Compile, Exec, Listed, Bench, Watch, Save, Resume, NoCommand}
use Rattle.pearl_top.specs.Taken.{Leaves}
use Rattle.pearl_top.proofs.TakenLaws.{takes_none}
use Rattle.pearl_top.proofs.WordLaws.{due_as}
use Rattle.pearl_top.proofs.top.carry_out.Goals as goal

pub returns-in-Run-clause-ends : goal.returns-in-Run-clause-ends
returns-in-Run-clause-ends g c =
    let rose : List ℕ → Type 0 = λ name. CountRose (g.S.Shelf.faults c.args.shelf.now name) (g.S.Shelf.faults c.run.new.shelf name) in
    let failed : Type 0 = WriteFailed (g.K.Sink.faults c.args.sink.now) (g.K.Sink.faults c.run.new.sink) (g.K.Sink.full c.run.new.sink) in
    let ends = c.run.ensures.ends in
    due_as _ (Run c.in-Run.source.now c.in-Run.journal.now) (g.S.Shelf.holds c.args.shelf.now) (ends.0 ∷ ends.1 ∷ []) rose
    (λ due. Leaves (g.K.Sink.taken c.args.sink.now) (g.K.Sink.taken c.run.new.sink) failed due c.run.result) c.in-Run.ensures (ends.2, (ends.3, tt)) ends.4

pub returns-in-Check-clause-ends : goal.returns-in-Check-clause-ends
returns-in-Check-clause-ends g c =
    let rose : List ℕ → Type 0 = λ name. CountRose (g.S.Shelf.faults c.args.shelf.now name) (g.S.Shelf.faults c.check.new.shelf name) in
    let failed : Type 0 = WriteFailed (g.K.Sink.faults c.args.sink.now) (g.K.Sink.faults c.check.new.sink) (g.K.Sink.full c.check.new.sink) in
    let ends = c.check.ensures.ends in
    due_as _ (Check c.in-Check.source.now) (g.S.Shelf.holds c.args.shelf.now) (ends.0 ∷ []) rose
    (λ due. Leaves (g.K.Sink.taken c.args.sink.now) (g.K.Sink.taken c.check.new.sink) failed due c.check.result) c.in-Check.ensures (ends.1, tt) ends.2

pub returns-in-Print-clause-ends : goal.returns-in-Print-clause-ends
returns-in-Print-clause-ends g c =
    let rose : List ℕ → Type 0 = λ name. CountRose (g.S.Shelf.faults c.args.shelf.now name) (g.S.Shelf.faults c.print.new.shelf name) in
    let failed : Type 0 = WriteFailed (g.K.Sink.faults c.args.sink.now) (g.K.Sink.faults c.print.new.sink) (g.K.Sink.full c.print.new.sink) in
    let ends = c.print.ensures.ends in
    due_as _ (Print c.in-Print.source.now) (g.S.Shelf.holds c.args.shelf.now) (ends.0 ∷ []) rose
    (λ due. Leaves (g.K.Sink.taken c.args.sink.now) (g.K.Sink.taken c.print.new.sink) failed due c.print.result) c.in-Print.ensures (ends.1, tt) ends.2

pub returns-in-Compile-clause-ends : goal.returns-in-Compile-clause-ends
returns-in-Compile-clause-ends g c =
    let rose : List ℕ → Type 0 = λ name. CountRose (g.S.Shelf.faults c.args.shelf.now name) (g.S.Shelf.faults c.compile.new.shelf name) in
    let failed : Type 0 = WriteFailed (g.K.Sink.faults c.args.sink.now) (g.K.Sink.faults c.compile.new.sink) (g.K.Sink.full c.compile.new.sink) in
    let ends = c.compile.ensures.ends in
    due_as _ (Compile c.in-Compile.source.now) (g.S.Shelf.holds c.args.shelf.now) (ends.0 ∷ []) rose
    (λ due. Leaves (g.K.Sink.taken c.args.sink.now) (g.K.Sink.taken c.compile.new.sink) failed due c.compile.result) c.in-Compile.ensures (ends.1, tt) ends.2

pub returns-in-Exec-clause-ends : goal.returns-in-Exec-clause-ends
returns-in-Exec-clause-ends g c =
    let rose : List ℕ → Type 0 = λ name. CountRose (g.S.Shelf.faults c.args.shelf.now name) (g.S.Shelf.faults c.exec.new.shelf name) in
    let failed : Type 0 = WriteFailed (g.K.Sink.faults c.args.sink.now) (g.K.Sink.faults c.exec.new.sink) (g.K.Sink.full c.exec.new.sink) in
    let ends = c.exec.ensures.ends in
    due_as _ (Exec c.in-Exec.object.now c.in-Exec.journal.now) (g.S.Shelf.holds c.args.shelf.now) (ends.0 ∷ ends.1 ∷ []) rose
    (λ due. Leaves (g.K.Sink.taken c.args.sink.now) (g.K.Sink.taken c.exec.new.sink) failed due c.exec.result) c.in-Exec.ensures (ends.2, (ends.3, tt)) ends.4

pub returns-in-Watch-clause-ends : goal.returns-in-Watch-clause-ends
returns-in-Watch-clause-ends g c =
    let rose : List ℕ → Type 0 = λ name. CountRose (g.S.Shelf.faults c.args.shelf.now name) (g.S.Shelf.faults c.watch.new.shelf name) in
    let failed : Type 0 = WriteFailed (g.K.Sink.faults c.args.sink.now) (g.K.Sink.faults c.watch.new.sink) (g.K.Sink.full c.watch.new.sink) in
    let ends = c.watch.ensures.ends in
    due_as _ (Watch c.in-Watch.object.now c.in-Watch.journal.now (map string_bytes c.in-Watch.names.now)) (g.S.Shelf.holds c.args.shelf.now) (ends.0 ∷ ends.1 ∷ []) rose
    (λ due. Leaves (g.K.Sink.taken c.args.sink.now) (g.K.Sink.taken c.watch.new.sink) failed due c.watch.result) c.in-Watch.ensures (ends.2, (ends.3, tt)) ends.4

pub returns-in-Save-clause-ends : goal.returns-in-Save-clause-ends
returns-in-Save-clause-ends g c =
    let rose : List ℕ → Type 0 = λ name. CountRose (g.S.Shelf.faults c.args.shelf.now name) (g.S.Shelf.faults c.save.new.shelf name) in
    let failed : Type 0 = WriteFailed (g.K.Sink.faults c.args.sink.now) (g.K.Sink.faults c.save.new.sink) (g.K.Sink.full c.save.new.sink) in
    let ends = c.save.ensures.ends in
    due_as _ (Save c.in-Save.object.now c.in-Save.journal.now) (g.S.Shelf.holds c.args.shelf.now) (ends.0 ∷ ends.1 ∷ []) rose
    (λ due. Leaves (g.K.Sink.taken c.args.sink.now) (g.K.Sink.taken c.save.new.sink) failed due c.save.result) c.in-Save.ensures (ends.2, (ends.3, tt)) ends.4

pub returns-in-Resume-clause-ends : goal.returns-in-Resume-clause-ends
returns-in-Resume-clause-ends g c =
    let rose : List ℕ → Type 0 = λ name. CountRose (g.S.Shelf.faults c.args.shelf.now name) (g.S.Shelf.faults c.resume.new.shelf name) in
    let failed : Type 0 = WriteFailed (g.K.Sink.faults c.args.sink.now) (g.K.Sink.faults c.resume.new.sink) (g.K.Sink.full c.resume.new.sink) in
    let ends = c.resume.ensures.ends in
    due_as _ (Resume c.in-Resume.snapshot.now c.in-Resume.journal.now) (g.S.Shelf.holds c.args.shelf.now) (ends.0 ∷ ends.1 ∷ []) rose
    (λ due. Leaves (g.K.Sink.taken c.args.sink.now) (g.K.Sink.taken c.resume.new.sink) failed due c.resume.result) c.in-Resume.ensures (ends.2, (ends.3, tt)) ends.4

pub returns-in-List-clause-ends : goal.returns-in-List-clause-ends
returns-in-List-clause-ends g c =
    let rose : List ℕ → Type 0 = λ name. CountRose (g.S.Shelf.faults c.args.shelf.now name) (g.S.Shelf.faults c.list.new.shelf name) in
    let failed : Type 0 = WriteFailed (g.K.Sink.faults c.args.sink.now) (g.K.Sink.faults c.list.new.sink) (g.K.Sink.full c.list.new.sink) in
    let ends = c.list.ensures.ends in
    due_as _ (Listed c.in-List.object.now) (g.S.Shelf.holds c.args.shelf.now) (ends.0 ∷ []) rose
    (λ due. Leaves (g.K.Sink.taken c.args.sink.now) (g.K.Sink.taken c.list.new.sink) failed due c.list.result) c.in-List.ensures (ends.1, tt) ends.2

pub returns-in-Bench-clause-ends : goal.returns-in-Bench-clause-ends
returns-in-Bench-clause-ends g c =
    let rose : List ℕ → Type 0 = λ name. CountRose (g.S.Shelf.faults c.args.shelf.now name) (g.S.Shelf.faults c.args.shelf.now name) in
    let failed : Type 0 = WriteFailed (g.K.Sink.faults c.args.sink.now) (g.K.Sink.faults c.bench.new.sink) (g.K.Sink.full c.bench.new.sink) in
    due_as _ (Bench c.in-Bench.n) (g.S.Shelf.holds c.args.shelf.now) [] rose
    (λ due. Leaves (g.K.Sink.taken c.args.sink.now) (g.K.Sink.taken c.bench.new.sink) failed due c.bench.result) c.in-Bench.ensures.0 tt c.bench.ensures.ends

pub returns-in-None-clause-ends : goal.returns-in-None-clause-ends
returns-in-None-clause-ends g c =
    let rose : List ℕ → Type 0 = λ name. CountRose (g.S.Shelf.faults c.args.shelf.now name) (g.S.Shelf.faults c.args.shelf.now name) in
    let failed : Type 0 = WriteFailed (g.K.Sink.faults c.args.sink.now) (g.K.Sink.faults c.args.sink.now) (g.K.Sink.full c.args.sink.now) in
    let taken = g.K.Sink.taken c.args.sink.now in
    due_as _ NoCommand (g.S.Shelf.holds c.args.shelf.now) [] rose (λ due. Leaves taken taken failed due (Err (failure.Refused refusal.Usage))) c.in-None.ensures tt
    (record { bytes = []; is_due = (refl, refl); taken = takes_none taken })
