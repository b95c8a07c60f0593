-- That the tree is told that the tokens spell, or the place of the first token with which no module begins.
use Rattle.std.proofs.Common.{length, refl}
use Rattle.pearl_tree.specs.Stops.{NoneBegins}
use Rattle.pearl_tree.proofs.Offered.{spelled_lawful}
use Rattle.pearl_parse_expr.proofs.Offered.{stuck_of, reached_halt}
use Rattle.pearl_parse.specs.Modules.{SpellsSource}
use Rattle.pearl_parse.proofs.ModuleRests.{source_spells}
use Rattle.pearl_parse.proofs.ModulesMade.{begins, some_begins}
use Rattle.pearl_parse.proofs.parse.parse.Goals as goal

pub returns-in-Ok-clause-spells : goal.returns-in-Ok-clause-spells
returns-in-Ok-clause-spells c =
    let read = c.in-Ok.read in
    source_spells c.args.tokens.now read.part read.end c.in-Ok.ensures.spells

pub returns-in-Ok-clause-lawful : goal.returns-in-Ok-clause-lawful
returns-in-Ok-clause-lawful c =
    let tokens = c.args.tokens.now in
    let read = c.in-Ok.read in
    λ lawful. spelled_lawful read.part tokens lawful (source_spells tokens read.part read.end c.in-Ok.ensures.spells)

pub returns-in-Refused-clause-refused : goal.returns-in-Refused-clause-refused
returns-in-Refused-clause-refused c =
    let tokens = c.args.tokens.now in
    let stop = c.in-Refused.stop in
    let halt = c.in-Err.halt in
    let stuck = stuck_of SpellsSource tokens 0 stop halt c.in-Refused.is c.in-Err.ensures.refused in
    let none : NoneBegins tokens stop =
    λ tree others agree h. stuck.0 others agree tree (length others) (h.spells, refl) in
    let reached = reached_halt SpellsSource tokens 0 stop halt c.in-Refused.is c.in-Err.ensures.least in
    record {
      token = stop;
      within = stuck.2;
      stands = c.place_or_end.ensures;
      none = none;
      begins = begins tokens 24 stop reached;
      first = λ lawful. record { none = none; some = some_begins tokens 24 stop lawful reached };
    }
