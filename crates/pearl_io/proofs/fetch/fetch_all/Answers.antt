use Rattle.std.proofs.Common.{◌≡◌, ◌+◌, length, take, ap, ◌∙◌, arith, rules}
use Rattle.std.proofs.lemmas.List.{length-append, length-take}
use Rattle.pearl_io.proofs.Pieces.{read_on}
use Rattle.pearl_io.specs.Outside.{content, IsPiece}
use Rattle.pearl_io.proofs.fetch.fetch_all.Goals as goal

pub returns-then-count-left-clause-read : goal.returns-then-count-left-clause-read
returns-then-count-left-clause-read g c = λ files told.
    let file = content files c.args.name.now in
    let piece : IsPiece file c.len-in-loop-bytes.result c.in-Ok.count c.fetch.new.into =
    c.in-Ok.ensures.piece files (c.loop-bytes.invariant.held ∙ told) in
    let longer : (c.extend_from_slice.new.self.items ≡ take (length c.extend_from_slice.new.self.items) file)
    × (length c.extend_from_slice.new.self.items ≡ length c.loop-bytes.bytes.items + c.min.result) =
    read_on file _ _ _ _ _ c.in-Ok.count _ (omega arith) (c.loop-bytes.invariant.read files told) piece (omega arith)
    c.in-Ok-extend_from_slice.ensures.items in
    let full : length c.extend_from_slice.new.self.items ≡ c.args.limit = omega arith in
    (omega (arith, piece.within), rw full at longer.0)

pub loop-bytes-preserved : goal.loop-bytes-preserved
loop-bytes-preserved g c = record {
  within = omega (arith, simp (length-append, length-take) at (ap length c.in-Ok-extend_from_slice.ensures.items));
  read = λ files told.
      (read_on (content files c.args.name.now) _ _ _ _ _ c.in-Ok.count _ (omega arith) (c.loop-bytes.invariant.read files told)
      (c.in-Ok.ensures.piece files (c.loop-bytes.invariant.held ∙ told)) (omega arith)
      c.in-Ok-extend_from_slice.ensures.items).0;
  held = search rules;
  later = λ other. omega (arith, c.loop-bytes.invariant.later other, c.in-Ok.ensures.later other);
}
