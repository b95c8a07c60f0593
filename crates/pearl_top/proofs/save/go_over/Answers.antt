use Rattle.std.proofs.Common.{refl, ap}
use Rattle.pearl_io.specs.Outside.{CountRose}
use Rattle.pearl_journal.specs.Pieces.{reading_at}
use Rattle.pearl_machine.specs.Seen.{Seen}
use Rattle.pearl_top.specs.Reading.{MayHave}
use Rattle.pearl_top.proofs.LineLaws.{new_first, new_unread}
use Rattle.pearl_top.proofs.SaveEnds.{fell_short, never_failed, opened_at, went_over}
use Rattle.pearl_top.proofs.save.go_over.Goals as goal

pub carry_out-done-requires-clause-unread : goal.carry_out-done-requires-clause-unread
carry_out-done-requires-clause-unread g c = new_unread c.args.lines.now c.requires.unread

pub carry_out-done-requires-clause-rests : goal.carry_out-done-requires-clause-rests
carry_out-done-requires-clause-rests g c = ap (λ (s : Seen). s.state.core.told) c.pass_opening.ensures

pub returns-clause-ok : goal.returns-clause-ok
returns-clause-ok g c =
    let journal = c.args.journal.now in
    let rose : Type 0 = CountRose (g.S.Shelf.faults c.args.shelf.now journal) (g.S.Shelf.faults c.carry_out-done.new.shelf journal) in
    went_over c.args.machine.now c.pass_opening.new.machine c.requires.ready c.pass_opening.ensures _
    (new_first c.args.lines.now _ c.requires.unread (opened_at c.args.machine.now c.pass_opening.new.machine c.requires.ready c.pass_opening.ensures)) rose _
    (MayHave (g.S.Shelf.holds c.args.shelf.now) journal) c.carry_out-done.new.follower c.carry_out-done.result c.carry_out-done.ensures.ends

pub returns-clause-err : goal.returns-clause-err
returns-clause-err g c =
    let journal = c.args.journal.now in
    let rose : Type 0 = CountRose (g.S.Shelf.faults c.args.shelf.now journal) (g.S.Shelf.faults c.carry_out-done.new.shelf journal) in
    fell_short c.args.machine.now c.pass_opening.new.machine c.requires.ready c.pass_opening.ensures _
    (new_first c.args.lines.now _ c.requires.unread (opened_at c.args.machine.now c.pass_opening.new.machine c.requires.ready c.pass_opening.ensures)) rose _
    (MayHave (g.S.Shelf.holds c.args.shelf.now) journal) c.carry_out-done.new.follower c.carry_out-done.result never_failed c.carry_out-done.ensures.ends

pub returns-clause-held : goal.returns-clause-held
returns-clause-held g c = c.carry_out-done.ensures.held

pub returns-clause-shelf_later : goal.returns-clause-shelf_later
returns-clause-shelf_later g c = c.carry_out-done.ensures.shelf_later
