use Rattle.std.proofs.Common.{◌≡◌, ◌<◌, Some, length, slice_get, refl, arith}
use Rattle.std.proofs.lemmas.Option.{slice_get_read}
use Rattle.pearl_gen_stmt.specs.Emission.{instr_of}
use Rattle.pearl_gen_stmt.proofs.Settling.{within, none_here, others_stay}
use Rattle.pearl_gen_stmt.proofs.pending.settle_one.Goals as goal
use Rattle.pearl_gen_stmt.proofs.pending.settle_one.Goals.{else-place-len-via-then-place-len+else-is_pending, else-place-len-via-else-place-len}

pub returns-then-is_pending-clause-kept : goal.returns-then-is_pending-clause-kept
returns-then-is_pending-clause-kept c =
    let old = c.args.code.now.items in let x = c.index.result.now in
    let inside : c.args.place < length old = omega (arith, c.if-place-len.true, c.len.ensures, c.args.code.now.ok.0) in
    let here : slice_get old c.args.place ≡ Some x = slice_get_read old (length old) c.args.place x refl inside c.index.ensures in
    others_stay c.args.kind old c.put.new.code.items c.args.place x here (c.is_pending.ensures.hit c.if-is_pending.true) c.put.ensures.elsewhere

pub returns-else-place-len-clause-settled : goal.returns-else-place-len-clause-settled
returns-else-place-len-clause-settled c is =
    let old = c.args.code.now.items in
    elim c.else-place-len.branch [
      | else-place-len-via-then-place-len+else-is_pending w ↦
          let x = w.index.result.now in
          let inside : c.args.place < length old = omega (arith, w.if-place-len.true, c.len.ensures, c.args.code.now.ok.0) in
          let here : slice_get old c.args.place ≡ Some x = slice_get_read old (length old) c.args.place x refl inside w.index.ensures in
          absurd (none_here c.args.kind old c.args.place x here (w.is_pending.ensures.missed w.if-is_pending.false) is)
      | else-place-len-via-else-place-len w ↦
          let inside = within old c.args.place (instr_of c.args.kind) is in
          absurd (omega (arith, inside, w.if-place-len.false, c.len.ensures, c.args.code.now.ok.0))
    ]
