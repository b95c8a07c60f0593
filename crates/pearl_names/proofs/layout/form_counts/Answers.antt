use Rattle.std.proofs.Common.{◌≡◌, map, ap, ◌∙◌}
use Rattle.pearl_names.specs.Forming.{sizes_of}
use Rattle.pearl_names.specs.Forms.{pair_of}
use Rattle.pearl_names.proofs.layout.form_counts.Goals as goal

pub returns : goal.returns
returns c = λ of holds.
    let sized : c.sizes_within.result ≡ sizes_of of.bounds =
    c.sizes_within.ensures ∙ ap (λ l. sizes_of (map pair_of l)) c.as_slice.ensures.value ∙ ap sizes_of holds.0 in
    c.counts_of_laid.ensures of.bounds of.shape sized holds.1
