use Rattle.std.proofs.Common.{◌+◌, ◌∷◌, ◌==◌, take, ap, sym, ◌∙◌}
use Rattle.std.specs.List.{slice_split}
use Rattle.std.proofs.lemmas.List.{take_rest}
use Rattle.pearl_scan.proofs.Pieces.{cut, uncut}
use Rattle.pearl_scan.proofs.clock.cut_at.Goals as goal

pub returns-then-end-text-clause-some : goal.returns-then-end-text-clause-some
returns-then-end-text-clause-some c =
    cut (λ byte. byte == c.args.mark) c.args.text.now c.place_of-end.result c.place_of-end.ensures.value c.if-end-text.true
    ∙ ap (λ rest. take c.place_of-end.result c.args.text.now ∷ slice_split (λ byte. byte == c.args.mark) rest)
    (sym (take_rest c.args.text.now (c.place_of-end.result + 1)))

pub returns-else-end-text-clause-none : goal.returns-else-end-text-clause-none
returns-else-end-text-clause-none c =
    uncut (λ byte. byte == c.args.mark) c.args.text.now c.place_of-end.result c.place_of-end.ensures.value c.if-end-text.false
