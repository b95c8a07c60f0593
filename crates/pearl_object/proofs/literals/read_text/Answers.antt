use Rattle.std.proofs.Common.{arith}
use Rattle.std.proofs.lemmas.Result.{err_from_is_err_and}
use Rattle.pearl_fields.specs.Codec.{byte_in}
use Rattle.pearl_fields.proofs.Offered.{goes_on, ends, is_done}
use Rattle.pearl_object.proofs.literals.read_text.Goals as goal

pub returns-in_err-byte : goal.returns-in_err-byte
returns-in_err-byte c =
    let p = err_from_is_err_and c.from_residual.result c.from_residual.ensures.1 in
    rw (p.1, p.2) (ends (λ (s : Unit {0}). byte_in 32 126) (λ s b. s) tt c.in_err-byte.field-0.0 c.loop.text.items c.args.len c.loop.counter c.loop.reader _ c.loop-test.true c.in_err-byte.ensures.reads c.loop.invariant.read)

pub loop-preserved : goal.loop-preserved
loop-preserved c = record {
  read = rw c.push.ensures.items (goes_on (λ (s : Unit {0}). byte_in 32 126) (λ s b. s) tt c.loop.text.items c.args.len c.loop.counter c.loop.reader c.in_ok-byte.byte c.byte_in.new.self _ c.loop-test.true c.in_ok-byte.ensures.reads c.loop.invariant.read);
  count = omega (arith, c.push.ensures.len, c.loop.invariant.count);
}

pub returns : goal.returns
returns c = is_done (λ (s : Unit {0}). byte_in 32 126) (λ s b. s) tt c.loop.text.items c.args.len c.loop.counter c.loop.reader _ c.loop-test.false c.loop.invariant.read
