use Rattle.std.proofs.Common.{subst, arith}
use Rattle.pearl_instructions.specs.Lawful.{IsObject}
use Rattle.pearl_snap.proofs.Counted.{is_snapshot}
use Rattle.pearl_snap.proofs.restore.are_a_snapshot.Goals as goal

pub returns : goal.returns
returns c =
    is_snapshot c.args.bytes.now c.args.object.now c.args.saved.now (λ i. omega (arith, c.type_inv.bytes i))
    (subst IsObject c.object-parts.ensures.value c.object-parts.ensures.object) c.requires.same c.requires.state
