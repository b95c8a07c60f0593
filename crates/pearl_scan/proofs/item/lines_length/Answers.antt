use Rattle.std.proofs.Common.{◌<◌, arith, length, drop, take, ◌-◌}
use Rattle.std.proofs.lemmas.List.{length-drop, length-take}
use Rattle.pearl_scan.proofs.Pieces.{stop_lines, more_lines}
use Rattle.pearl_scan.proofs.item.lines_length.Goals as goal

pub returns-then-end-rest-clause-value : goal.returns-then-end-rest-clause-value
returns-then-end-rest-clause-value c =
    stop_lines c.args.count c.loop.counter c.loop.used c.place_of-end.result c.args.bytes.now c.loop-test.true c.place_of-end.ensures.value c.loop.invariant.far
    c.if-end-rest.true

pub loop-preserved : goal.loop-preserved
loop-preserved c =
    let rest = take (length c.args.bytes.now - c.loop.used) (drop c.loop.used c.args.bytes.now) in
    let inside : c.place_of-end.result < length rest = omega (arith, c.place_of-end.ensures.within, c.if-end-rest.false) in
    record {
      far = more_lines c.args.count c.loop.counter c.loop.used c.place_of-end.result c.args.bytes.now c.loop-test.true c.place_of-end.ensures.value c.loop.invariant.far inside;
      within = omega (
        arith,
        inside,
        length-take (length c.args.bytes.now - c.loop.used) (drop c.loop.used c.args.bytes.now),
        length-drop c.loop.used c.args.bytes.now,
        c.loop.invariant.within,
      );
    }
