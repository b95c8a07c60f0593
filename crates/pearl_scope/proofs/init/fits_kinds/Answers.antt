use Rattle.std.proofs.Common.{◌&&◌, ap, ◌∙◌}
use Rattle.pearl_tree.specs.ShownLiterals.{shown_const}
use Rattle.pearl_scope.proofs.Fitting.{fits_all, fits_among}
use Rattle.pearl_scope.proofs.init.fits_kinds.Goals as goal

pub returns : goal.returns
returns c = λ slots same.
    let constant = shown_const c.args.constant.now in
    (λ i. (((c.fits_length-fixed.ensures i && c.fits_length-bits.ensures i) && c.fits_length-chars.ensures i) && c.fits_if-clock.ensures i) && c.fits_if-span.ensures i)
    ∙ ap (fits_all constant) same ∙ fits_among constant slots
