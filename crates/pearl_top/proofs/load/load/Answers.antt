use Rattle.std.proofs.Common.{subst}
use Rattle.pearl_instructions.specs.Lawful.{IsObject}
use Rattle.pearl_top.proofs.WordLaws.{loaded, ready_with}
use Rattle.pearl_top.proofs.load.load.Goals as goal

pub returns-in-Ok-clause-ok : goal.returns-in-Ok-clause-ok
returns-in-Ok-clause-ok c =
    let o = c.args.object in
    let valid = c.in_ok-code.ensures.ok in
    ready_with o c.in-Ok.machine valid.1 (c.valid_objects_run.ensures o valid.1 (subst IsObject c.parts-parts.ensures.value c.parts-parts.ensures.object))
    (loaded o c.in_ok-code.code c.in-Ok.machine valid.0 c.in-Ok.ensures.object c.in-Ok.ensures.start)
