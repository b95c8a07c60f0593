use Rattle.std.proofs.Common.{arith, ◌∙◌}
use Rattle.pearl_journal.specs.declared.limits.TheConstants.{LINE_ROOM}
use Rattle.pearl_journal.proofs.PieceLaws.{put_cut}
use Rattle.pearl_journal.proofs.lines.put_behind.Goals as goal

pub returns-clause-items : goal.returns-clause-items
returns-clause-items c =
    let done = rw (c.unwrap.ensures) at (c.extend_from_slice.ensures.items) in
    done ∙ put_cut LINE_ROOM c.min-count.result c.args.line.now.items c.args.bytes.now (omega (arith, c.requires.short)) (omega (arith, c.min-count.ensures, c.len-room.ensures))
