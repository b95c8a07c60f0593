use Rattle.std.proofs.Common.{arith}
use Rattle.std.proofs.lemmas.Result.{err_from_is_err_and}
use Rattle.pearl_fields.proofs.Offered.{goes_on, ends, is_done}
use Rattle.pearl_object.specs.Objects.{letter, after_letter}
use Rattle.pearl_object.proofs.routines.read_letters.Goals as goal

pub returns-in_err-byte : goal.returns-in_err-byte
returns-in_err-byte c =
    let p = err_from_is_err_and c.from_residual.result c.from_residual.ensures.1 in
    rw (p.1, p.2) (ends letter after_letter (record { before = c.loop.text.items; count = c.args.count }) c.in_err-byte.field-0.0 c.loop.text.items c.args.count c.loop.counter c.loop.reader _ c.loop-test.true c.in_err-byte.ensures c.loop.invariant.read)

pub loop-preserved : goal.loop-preserved
loop-preserved c = record {
  read = rw c.push.ensures.items (goes_on letter after_letter (record { before = c.loop.text.items; count = c.args.count }) c.loop.text.items c.args.count c.loop.counter c.loop.reader c.in_ok-byte.byte c.read_letter.new.reader _ c.loop-test.true c.in_ok-byte.ensures c.loop.invariant.read);
  count = omega (arith, c.push.ensures.len, c.loop.invariant.count);
}

pub returns : goal.returns
returns c = is_done letter after_letter (record { before = c.loop.text.items; count = c.args.count }) c.loop.text.items c.args.count c.loop.counter c.loop.reader _ c.loop-test.false c.loop.invariant.read
