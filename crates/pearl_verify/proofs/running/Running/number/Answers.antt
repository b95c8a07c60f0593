use Rattle.std.proofs.Common.{Some, reverse, slice_get, sym, ap, ◌∙◌}
use Rattle.std.specs.Prelude.{unwrap_or}
use Rattle.pearl_verify.proofs.Numbering.{first_number}
use Rattle.pearl_verify.proofs.running.Running.number.Goals as goal

pub returns : goal.returns
returns c = λ edges numbered.
    c.last_number.ensures ∙ ap (λ ns. unwrap_or (slice_get (reverse ns) 0) (Some 0)) c.as_slice.ensures.value
    ∙ ap (λ ns. unwrap_or (slice_get ns 0) (Some 0)) numbered ∙ sym (first_number edges c.args.self.now.kinds)
