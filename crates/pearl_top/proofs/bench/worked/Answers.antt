use Rattle.std.proofs.Common.{refl, ap}
use Rattle.std.proofs.lemmas.Result.{err_from_is_err_and}
use Rattle.pearl_io.specs.Memory.{SinkState}
use Rattle.pearl_io.specs.Outside.{CountRose}
use Rattle.pearl_machine.specs.Seen.{Seen}
use Rattle.pearl_top.proofs.BenchEnds.{was_worked}
use Rattle.pearl_top.proofs.LineLaws.{new_first, new_unread}
use Rattle.pearl_top.proofs.bench.worked.Goals as goal

pub replay-requires-clause-starts : goal.replay-requires-clause-starts
replay-requires-clause-starts c = c.in_ok-machine.ensures.ok.2.ready

pub replay-requires-clause-unread : goal.replay-requires-clause-unread
replay-requires-clause-unread c = new_unread c.in_ok-lines.lines c.in_ok-lines.ensures

pub replay-requires-clause-first : goal.replay-requires-clause-first
replay-requires-clause-first c =
    new_first c.in_ok-lines.lines _ c.in_ok-lines.ensures (ap (λ (seen : Seen). seen.state.core.moment) c.in_ok-machine.ensures.ok.2.ready.starts)

pub returns-in-Ok-clause-ok : goal.returns-in-Ok-clause-ok
returns-in-Ok-clause-ok c =
    let ready = c.in_ok-machine.ensures.ok in
    let ends = c.in-Ok.ensures.ends in
    was_worked ready.0 c.in_ok-machine.machine.object c.args.source.now ends.0 c.new-sink.result.bytes c.replay.new.sink.bytes c.in_ok-shelf.shelf (CountRose 0 0)
    ready.1 ready.2.faithful ends.1 c.in_ok-shelf.ensures (ap (λ (sink : SinkState). sink.bytes) c.new-sink.ensures) ends.2

pub returns-in_err-shelf-clause-err : goal.returns-in_err-shelf-clause-err
returns-in_err-shelf-clause-err c =
    let e = err_from_is_err_and c.from_residual-in_err-shelf.result c.from_residual-in_err-shelf.ensures.1 in
    rw (e.1, e.2) refl
