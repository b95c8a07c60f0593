use Rattle.std.proofs.Common.{◌∷◌, ◌==◌, ap, sym, ◌∙◌}
use Rattle.pearl_rules.specs.Literals.{with_colons, clock_literal}
use Rattle.pearl_scan.proofs.Pieces.{more_colons}
use Rattle.pearl_scan.proofs.clock.clock_literal.Goals as goal

pub returns-in-Some : goal.returns-in-Some
unfolding clock_literal
returns-in-Some c =
    sym (ap with_colons (c.in_ok-hours.ensures.some ∙ ap (λ parts. c.in_ok-hours.hours.now ∷ parts) (c.in_ok-minutes.ensures.some
    ∙ ap (λ parts. c.in_ok-minutes.minutes.now ∷ parts) c.in-Some.ensures.some))
    ∙ more_colons c.in_ok-hours.hours.now c.in_ok-minutes.minutes.now c.in-Some.field-0.0.now c.in-Some.field-0.1.now (λ byte. byte == 58))
