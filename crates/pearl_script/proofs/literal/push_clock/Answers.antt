use Rattle.std.proofs.Common.{append_assoc}
use Rattle.pearl_script.proofs.Clocks.{clock_with_milliseconds}
use Rattle.pearl_script.proofs.literal.push_clock.Goals as goal

pub returns-then-milliseconds-gt0-clause-text : goal.returns-then-milliseconds-gt0-clause-text
returns-then-milliseconds-gt0-clause-text c =
    rw (c.push_three.ensures.text, c.push_bytes.ensures.text, c.push_seconds.ensures.text, clock_with_milliseconds c.args.time c.if-milliseconds-gt0.true) (search append_assoc)
