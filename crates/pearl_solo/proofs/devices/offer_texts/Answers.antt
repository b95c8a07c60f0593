use Rattle.std.proofs.Common.{sym, ap, ◌∙◌, subst}
use Rattle.pearl_format.specs.Texts.{text_of}
use Rattle.pearl_solo.specs.Texts.{text_offered, HasText}
use Rattle.pearl_solo.proofs.devices.offer_texts.Goals as goal

pub offer_text-requires : goal.offer_text-requires
offer_text-requires c = subst (HasText c.args.items.now) (sym (c.as_slice.ensures.value ∙ c.top_values-values.ensures)) c.requires.text

pub returns : goal.returns
returns c =
    c.offer_text.ensures
    ∙ ap (λ xs. text_offered c.args.device (text_of c.args.items.now xs)) (c.as_slice.ensures.value ∙ c.top_values-values.ensures)
