use Rattle.pearl_program.specs.PlainPrograms.{plain_prog}
use Rattle.pearl_top.proofs.compile.object_of.Goals as goal

pub returns-clause-ok : goal.returns-clause-ok
returns-clause-ok c = record {
  p = plain_prog c.in_ok-program.program;
  is_source = c.in_ok-program.ensures.source;
  faithful = c.in_ok-object.ensures.faithful;
}
