use Rattle.std.proofs.Common.{◌≡◌, ℕ, List, length, Err, sym, ap, subst, ◌∙◌, arith}
use Rattle.std.proofs.lemmas.List.{length-take-le}
use Rattle.std.proofs.lemmas.Result.{err_from_is_err_and}
use Rattle.pearl_fields.specs.Codec.{whole_read}
use Rattle.pearl_object.specs.declared.fault.ReadFail.{ReadFail}
use Rattle.pearl_object.specs.declared.fault.ReadFail.TheVariants.{BadObject}
use Rattle.pearl_object.specs.Objects.{object, IsBad}
use Rattle.pearl_snap.proofs.Embedding.{front_fails, front_short, part_read, part_bad}
use Rattle.pearl_snap.proofs.Shorter.{number_shorter}
use Rattle.pearl_snap.proofs.snapshot.read_object.Goals as goal

object_bad : (inner : List ℕ) (f : ReadFail) (place : ℕ) → f ≡ BadObject place → IsBad inner (Err f) → (d : ℕ) × (whole_read object inner ≡ Err d)
object_bad inner f place is h = let b = subst (λ g. IsBad inner (Err g)) is h in (b.0, b.1)

pub returns-in_err-count : goal.returns-in_err-count
returns-in_err-count c =
    let p = err_from_is_err_and c.from_residual.result c.from_residual.ensures.1 in
    rw (p.1, p.2) (front_fails object c.args.reader.now c.in_err-count.field-0.0 c.in_err-count.ensures)

pub returns-then-left-count : goal.returns-then-left-count
returns-then-left-count c = front_short object c.args.reader.now c.number.new.self c.in_ok-count.count c.in_ok-count.ensures (omega (arith, c.left.ensures, c.if-left-count.true))

pub read-requires : goal.read-requires
read-requires c =
    let few = number_shorter c.args.reader.now c.in_ok-count.count c.number.new.self c.in_ok-count.ensures in
    let size = length-take-le c.in_ok-count.count c.number.new.self (omega (arith, c.left.ensures, c.if-left-count.false)) in
    omega (arith, few, size, ap length c.take-bytes.ensures.taken, c.left.ensures, c.if-left-count.false, c.requires)

pub returns-in-Ok : goal.returns-in-Ok
returns-in-Ok c =
    part_read object c.args.reader.now c.number.new.self c.take-bytes.result.now c.in_ok-count.count c.in_ok-count.ensures (omega (arith, c.left.ensures, c.if-left-count.false)) c.take-bytes.ensures.taken
    c.in-Ok.object c.take-bytes.new.self c.take-bytes.ensures.left c.in-Ok.ensures.whole

pub returns-in-Err-BadObject : goal.returns-in-Err-BadObject
returns-in-Err-BadObject c =
    let bad = object_bad c.take-bytes.result.now c.in-Err-BadObject.field-0 c.in-Err-BadObject.field-0-0 c.in-Err-BadObject.field-0-is c.in-Err-BadObject.ensures.bad in
    part_bad object c.args.reader.now c.number.new.self c.take-bytes.result.now c.in_ok-count.count c.in_ok-count.ensures (omega (arith, c.left.ensures, c.if-left-count.false)) c.take-bytes.ensures.taken bad.0 bad.1
    ∙ ap Err (sym c.left-field.ensures)
