use Rattle.std.proofs.Common.{◌-◌, arith, length, drop}
use Rattle.std.proofs.lemmas.List.{length-take, length-drop}
use Rattle.pearl_scan.proofs.Going.{passed_on, read_on, bad_on, short_now, short_on, few_ends, all_found, now}
use Rattle.pearl_scan.proofs.progress.Reached.go_on.Goals as goal
use Rattle.pearl_scan.proofs.progress.Reached.go_on.Goals.{in-Passed, in-Value}

pub overflow_add-lines : goal.overflow_add-lines
overflow_add-lines c =
    let few = few_ends c.args.bytes.now c.loop-place.used c.ends_before.result c.ends_before.ensures c.requires.near in
    omega (arith, few, c.lines_awaited.ensures.few)

pub overflow_add-result : goal.overflow_add-result
overflow_add-result c = omega (arith, c.loop-place.invariant.within, c.requires.near, c.bytes_awaited.ensures.few)

pub returns-in-Short : goal.returns-in-Short
returns-in-Short c =
    let l = c.loop-place in
    record {
      goes_on = record {
        within = l.invariant.within;
        fewer = l.invariant.fewer;
        far = l.invariant.far;
        short = short_on c.args.items.now c.args.kinds.now c.args.bytes.now l.place l.used l.targets _ c.loop-place-test.true l.invariant.within l.invariant.far
            c.ends_before.result c.bytes_awaited.result c.lines_awaited.result c.ends_before.ensures
            c.bytes_awaited.ensures.short c.lines_awaited.ensures.short;
      };
      tells = short_now c.args.items.now c.args.kinds.now c.args.bytes.now l.place l.used l.targets _ c.loop-place-test.true l.invariant.within l.invariant.far
          c.in-Short.ensures.found;
    }

pub returns-in-Bad : goal.returns-in-Bad
returns-in-Bad c =
    let l = c.loop-place in
    let bad = bad_on c.args.items.now c.args.kinds.now c.args.bytes.now l.place l.used l.targets _ c.loop-place-test.true l.invariant.within l.invariant.far
    c.in-Bad.field-0 c.in-Bad.ensures.found in
    record { goes_on = bad; tells = now c.args.items.now c.args.kinds.now c.args.bytes.now bad }

pub loop-place-preserved : goal.loop-place-preserved
loop-place-preserved c =
    let l = c.loop-place in
    elim c.match-scan_item.branch [
      | in-Passed w ↦ record {
        far = rw (w.used-is, w.targets-is) (passed_on c.args.items.now c.args.kinds.now c.args.bytes.now l.place l.used l.targets _ c.loop-place-test.true
            l.invariant.within l.invariant.far w.in-Passed.more w.in-Passed.ensures.found w.in-Passed.ensures.room.1);
        within = omega (
          arith,
          w.used-is,
          w.in-Passed.ensures.room.0,
          l.invariant.within,
          length-take (length c.args.bytes.now - l.used) (drop l.used c.args.bytes.now),
          length-drop l.used c.args.bytes.now,
        );
        fewer = rw w.targets-is l.invariant.fewer;
      }
      | in-Value w ↦ record {
        far = rw (w.used-is, w.targets-is) (read_on c.args.items.now c.args.kinds.now c.args.bytes.now l.place l.used l.targets _ c.loop-place-test.true
            l.invariant.within l.invariant.far w.in-Value.more _ w.in-Value.ensures.found w.in-Value.ensures.room.1);
        within = omega (
          arith,
          w.used-is,
          w.in-Value.ensures.room.0,
          l.invariant.within,
          length-take (length c.args.bytes.now - l.used) (drop l.used c.args.bytes.now),
          length-drop l.used c.args.bytes.now,
        );
        fewer = omega (
          arith,
          w.targets-is,
          w.in-Value.ensures.room.2,
          l.invariant.fewer,
          length-take (length c.args.kinds.now - l.targets) (drop l.targets c.args.kinds.now),
          length-drop l.targets c.args.kinds.now,
        );
      }
    ]

pub returns : goal.returns
returns c =
    let l = c.loop-place in
    let found = all_found c.args.items.now c.args.kinds.now c.args.bytes.now l.place l.used l.targets c.loop-place-test.false l.invariant.far in
    record { goes_on = found; tells = now c.args.items.now c.args.kinds.now c.args.bytes.now found }
