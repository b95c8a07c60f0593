use Rattle.std.proofs.Common.{◌≡◌, ◌-◌, ◌∷◌, [], ◌++◌, arith, ap, ◌∙◌, length, drop, length-append}
use Rattle.std.proofs.lemmas.List.{length-take, length-drop}
use Rattle.arrayvec.specs.ArrayVec.{ArrayVec}
use Rattle.pearl_value.specs.declared.cell.Cell.{Cell}
use Rattle.pearl_scan.proofs.Steps.{last_item, short_item, bad_item, passed_item, read_item}
use Rattle.pearl_scan.proofs.scan.scan.Goals as goal
use Rattle.pearl_scan.proofs.scan.scan.Goals.{in-Passed, in-Value}

pub returns-in-Short : goal.returns-in-Short
returns-in-Short c =
    short_item c.args.items.now c.args.kinds.now c.args.bytes.now c.loop-item.item-index c.loop-item.used c.len.result _ c.loop-item.values.items _ c.loop-item-test.true
    c.len.ensures.value c.loop-item.invariant.far c.in-Short.ensures.found

pub returns-in-Bad : goal.returns-in-Bad
returns-in-Bad c =
    bad_item c.args.items.now c.args.kinds.now c.args.bytes.now c.loop-item.item-index c.loop-item.used c.len.result _ c.loop-item.values.items _ c.loop-item-test.true
    c.len.ensures.value c.loop-item.invariant.far c.in-Bad.more c.in-Bad.ensures.found

pub loop-item-preserved : goal.loop-item-preserved
loop-item-preserved c = elim c.match-scan_item.branch [
  | in-Passed w ↦
      let more = w.in-Passed.ensures.room.0 in
      record {
        far = rw (w.used-is, w.values-is) (passed_item c.args.items.now c.args.kinds.now c.args.bytes.now c.loop-item.item-index c.loop-item.used c.len.result _
            c.loop-item.values.items _ c.loop-item-test.true c.len.ensures.value c.loop-item.invariant.far w.in-Passed.more w.in-Passed.ensures.found
            w.in-Passed.ensures.room.1);
        within = omega (
          arith,
          w.used-is,
          more,
          c.loop-item.invariant.within,
          length-take (length c.args.bytes.now - c.loop-item.used) (drop c.loop-item.used c.args.bytes.now),
          length-drop c.loop-item.used c.args.bytes.now,
        );
        fewer = rw w.values-is c.loop-item.invariant.fewer;
      }
  | in-Value w ↦
      let more = w.in-Value.ensures.room.0 in
      let left = w.in-Value.ensures.room.2 in
      let items-is : c.match-scan_item.values.items ≡ c.loop-item.values.items ++ w.in-Value.value ∷ [] = ap (λ (v : ArrayVec Cell). v.items) w.values-is ∙ w.push.ensures.items in
      record {
        far = rw (w.used-is, items-is) (read_item c.args.items.now c.args.kinds.now c.args.bytes.now c.loop-item.item-index c.loop-item.used c.len.result _
            c.loop-item.values.items _ c.loop-item-test.true c.len.ensures.value c.loop-item.invariant.far w.in-Value.more w.in-Value.value w.in-Value.ensures.found
            w.in-Value.ensures.room.1);
        within = omega (
          arith,
          w.used-is,
          more,
          c.loop-item.invariant.within,
          length-take (length c.args.bytes.now - c.loop-item.used) (drop c.loop-item.used c.args.bytes.now),
          length-drop c.loop-item.used c.args.bytes.now,
        );
        fewer = omega (
          arith,
          ap length items-is,
          length-append c.loop-item.values.items (w.in-Value.value ∷ []),
          left,
          c.len.ensures.value,
          length-take (length c.args.kinds.now - c.len.result) (drop c.len.result c.args.kinds.now),
          length-drop c.len.result c.args.kinds.now,
        );
      }
]

pub returns : goal.returns
returns c =
    last_item c.args.items.now c.loop-item.item-index c.loop-item.used c.loop-item.values.items _ _ _ c.loop-item-test.false c.loop-item.invariant.far
