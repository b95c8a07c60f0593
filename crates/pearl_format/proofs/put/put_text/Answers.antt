use Rattle.std.proofs.Common.{refl}
use Rattle.std.proofs.lemmas.List.Elements.{recursion_from_All}
use Rattle.pearl_value.specs.WellFormed.{IsValue}
use Rattle.pearl_format.proofs.Texts.{from_empty, put_text-is_within}
use Rattle.pearl_format.proofs.Printable.{put_text-printable}
use Rattle.pearl_format.proofs.Longer.{not_longer, longer}
use Rattle.pearl_format.proofs.put.put_text.Goals as goal

pub returns-in-Ok-clause-fits : goal.returns-in-Ok-clause-fits
returns-in-Ok-clause-fits c = put_text-is_within c.args.items.now c.args.values.now _ _ c.clear.ensures c.in-Ok.ensures.ok

pub returns-in-Ok-clause-printable : goal.returns-in-Ok-clause-printable
returns-in-Ok-clause-printable c =
    put_text-printable c.args.items.now c.args.values.now _ _ c.clear.ensures c.in-Ok.ensures.ok (recursion_from_All IsValue c.args.values.now c.requires.values)

pub returns-in-Ok-clause-trap : goal.returns-in-Ok-clause-trap
returns-in-Ok-clause-trap c =
    let text = from_empty c.args.items.now c.args.values.now _ _ c.clear.ensures c.in-Ok.ensures.ok in
    let are = recursion_from_All IsValue c.args.values.now c.requires.values in
    (λ never. cc, λ far. absurd (not_longer c.args.items.now c.args.values.now _ c.requires.suits are text far))

pub returns-in-Err-clause-trap : goal.returns-in-Err-clause-trap
returns-in-Err-clause-trap c =
    let are = recursion_from_All IsValue c.args.values.now c.requires.values in
    (λ same. longer c.args.items.now c.args.values.now c.requires.suits are c.in-Err.ensures.err.1, λ far. refl)
