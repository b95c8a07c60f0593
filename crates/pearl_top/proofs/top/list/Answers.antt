use Rattle.std.proofs.Common.{subst, sym, ◌∙◌}
use Rattle.std.proofs.lemmas.Result.{err_from_is_err_and}
use Rattle.pearl_io.specs.Outside.{CountRose, WriteFailed}
use Rattle.pearl_top.specs.ObjectDue.{IsListed, IsNoObject}
use Rattle.pearl_top.specs.Reading.{AnObject}
use Rattle.pearl_top.proofs.SourceEnds.{cut_whole, refused_whole}
use Rattle.pearl_top.proofs.top.list.Goals as goal

pub returns-in_err-text-clause-ends : goal.returns-in_err-text-clause-ends
returns-in_err-text-clause-ends g c =
    let rose : Type 0 = CountRose (g.S.Shelf.faults c.args.shelf.now c.args.object.now) (g.S.Shelf.faults c.read_whole.new.shelf c.args.object.now) in
    let failed : Type 0 = WriteFailed (g.K.Sink.faults c.args.sink.now) (g.K.Sink.faults c.args.sink.now) (g.K.Sink.full c.args.sink.now) in
    let read = c.in_ok-bytes.ensures.read in
    let e = err_from_is_err_and c.from_residual-in_err-text.result c.from_residual-in_err-text.ensures.1 in (
      read.0,
      read.1,
      rw (e.1, e.2) (refused_whole AnObject c.as_slice.result.now read.0 IsListed IsNoObject rose failed (g.K.Sink.taken c.args.sink.now)
          c.in_err-text.field-0.0 (c.as_slice.ensures.value ∙ read.2.0) c.in_err-text.ensures.err),
    )

pub returns-in_err-put_all-clause-ends : goal.returns-in_err-put_all-clause-ends
returns-in_err-put_all-clause-ends g c =
    let rose : Type 0 = CountRose (g.S.Shelf.faults c.args.shelf.now c.args.object.now) (g.S.Shelf.faults c.read_whole.new.shelf c.args.object.now) in
    let read = c.in_ok-bytes.ensures.read in
    let failed : Type 0 = WriteFailed (g.K.Sink.faults c.args.sink.now) (g.K.Sink.faults c.put_all.new.sink) (g.K.Sink.full c.put_all.new.sink) in
    let e = err_from_is_err_and c.from_residual-in_err-put_all.result c.from_residual-in_err-put_all.ensures.1 in (
      read.0,
      read.1,
      rw (e.1, e.2) (cut_whole AnObject read.0 c.as_slice-2.result.now (IsListed read.0) (IsNoObject read.0) rose failed
          (g.K.Sink.taken c.args.sink.now) (g.K.Sink.taken c.put_all.new.sink) c.in_err-put_all.ensures.cause
          (subst (IsListed read.0) (sym c.as_slice-2.ensures.value)
          (subst (λ file. IsListed file c.in_ok-text.text.items) (c.as_slice.ensures.value ∙ read.2.0) c.in_ok-text.ensures.ok))
          c.in_err-put_all.ensures.err),
    )
