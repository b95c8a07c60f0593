use Rattle.std.proofs.Common.{◌≡◌, length, Ok, subst, arith}
use Rattle.pearl_fields.specs.Codec.{exact_read}
use Rattle.pearl_snap.specs.Snapshots.{front}
use Rattle.pearl_snap.proofs.Embedding.{front_shorter}
use Rattle.pearl_snap.proofs.snapshot.whole.Goals as goal

pub read_object-requires : goal.read_object-requires
read_object-requires c =
    let first = subst (λ bytes. exact_read (length c.args.bytes.now) front bytes ≡ Ok (tt, c.exactly.new.self)) c.new-reader.ensures c.in_ok-exactly.ensures in
    let few = front_shorter c.args.bytes.now c.exactly.new.self (λ i. omega (arith, c.type_inv.bytes i)) first in
    omega (arith, few, c.requires)
