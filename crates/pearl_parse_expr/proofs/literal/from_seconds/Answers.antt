-- A duration that begins with no hours and no minutes begins where its seconds do.
use Rattle.std.proofs.Common.{◌+◌, arith, inl, refl}
use Rattle.pearl_parse_expr.proofs.Durations.{from_seconds_reaches, seconds_read, seconds_within, seconds_halted}
use Rattle.pearl_parse_expr.proofs.Durations.{seconds_reaches}
use Rattle.pearl_parse_expr.proofs.Literals.{no_duration, only_seconds}
use Rattle.pearl_parse_expr.proofs.literal.from_seconds.Goals as goal

pub returns-in-Some-clause-reads : goal.returns-in-Some-clause-reads
returns-in-Some-clause-reads c =
    let tokens = c.args.tokens.now in
    let from = c.args.from in
    let seconds = c.seconds_at-seconds in
    let part = c.in-Some.seconds in
    let read = seconds_read tokens from seconds.result seconds.ensures.reads part c.in-Some.is in
    record {
      spells = (c.place_at.ensures, read);
      longest = λ others agree x to h. inl (only_seconds tokens from part (from + 2) read others agree x to h);
      ahead = (
        omega arith,
        omega arith,
        seconds_within tokens from seconds.result seconds.ensures.reads part c.in-Some.is,
      );
      refused = tt;
      least = record { goes = inl refl };
    }

pub returns-in-None-clause-reads : goal.returns-in-None-clause-reads
returns-in-None-clause-reads c =
    let tokens = c.args.tokens.now in
    let from = c.args.from in
    let seconds = c.seconds_at-seconds in
    let read = seconds.ensures.reads in
    let halted = seconds_halted tokens from seconds.result read c.in-None.is in
    record {
      spells = tt;
      longest = tt;
      ahead = tt;
      refused = (
        λ others agree x to h. no_duration tokens others from seconds.result.stop agree halted.1 seconds.ensures.far
            c.requires.hours c.requires.minutes halted.0 x to h,
        halted.1,
        halted.2,
      );
      least = from_seconds_reaches tokens from seconds.result.stop
          (seconds_reaches tokens from seconds.result read c.in-None.is);
    }
