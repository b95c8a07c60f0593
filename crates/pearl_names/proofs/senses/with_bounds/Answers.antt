use Rattle.std.proofs.Common.{◌∙◌, sym, ap, map, option_map}
use Rattle.pearl_names.specs.Forms.{pair_of}
use Rattle.pearl_names.proofs.Holding.{form_held, no_bounds}
use Rattle.pearl_names.proofs.senses.with_bounds.Goals as goal

pub returns-in-Some : goal.returns-in-Some
returns-in-Some c = λ forms own shape is matches.
    form_held forms (record { bounds = c.in-Some.bounds; part = c.args.part }) own shape
    (sym (ap (option_map (λ found. map pair_of found.items)) c.in-Some.is) ∙ is) matches

pub returns-in-None : goal.returns-in-None
returns-in-None c = λ forms own shape is matches.
    no_bounds forms c.args.part own shape (sym (ap (option_map (λ found. map pair_of found.items)) c.in-None.is) ∙ is) matches
