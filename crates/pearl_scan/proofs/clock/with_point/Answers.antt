use Rattle.std.proofs.Common.{◌∷◌, ◌==◌, ap, sym, ◌∙◌}
use Rattle.pearl_rules.specs.Literals.{with_point}
use Rattle.pearl_scan.proofs.Pieces.{more_points}
use Rattle.pearl_scan.proofs.clock.with_point.Goals as goal

pub returns-in-Some-cut_at : goal.returns-in-Some-cut_at
returns-in-Some-cut_at c =
    sym (ap (with_point c.args.hours.now c.args.minutes.now) (c.in-Some.ensures.some ∙ ap (λ parts. c.in-Some.seconds.now ∷ parts) c.in-Some-cut_at.ensures.some)
    ∙ more_points c.args.hours.now c.args.minutes.now c.in-Some.seconds.now c.in-Some-cut_at.field-0.0.now c.in-Some-cut_at.field-0.1.now (λ byte. byte == 46))
