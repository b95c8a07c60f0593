-- A run that goes on from what was saved offers again what was offered.
use Rattle.std.proofs.Common.{◌≡◌, List, [], sym, ap, ◌∙◌}
use Rattle.pearl_rules.specs.declared.entry.Entry.{Entry}
use Rattle.pearl_rules.specs.Runs.{Machine, machine_after, unsettled}
use Rattle.pearl_stack.specs.Frames.{Frame}
use Rattle.pearl_instructions.specs.declared.object.Parts.{Parts as Object}
use Rattle.pearl_instructions.specs.Engines.{engine, stepped_by, machine_run}
use Rattle.pearl_instructions_laws.specs.Laws.{OffersAreNext}
use Rattle.pearl_records.specs.Records.{untold}
use Rattle.pearl_machine.specs.Resumed.{saved_of, resumed}
use Rattle.pearl_saved_laws.specs.Going.{going_on, come_back, ComesBack}
use Rattle.pearl_saved_laws.specs.Laws.{StatesComeBack, OffersComeAgain}
use Rattle.pearl_saved_laws.proofs.OfferedAgain.{OfferAtOnce, offer_at_once, come_again}

-- with these entries to come
abbrev with_entries : Machine (List Frame) → List Entry → Machine (List Frame)
with_entries m es = record m { entries = es }

from_there : (o : Object) (m : Machine (List Frame)) (more : List Entry) →
    (resumed o (saved_of m)).state ≡ come_back m → going_on o (saved_of m) more ≡ with_entries (come_back m) more
from_there o m more back = ap (λ x. with_entries x more) back

comes_back : (o : Object) (m : Machine (List Frame)) (more : List Entry) →
    (resumed o (saved_of m)).state ≡ come_back m → OfferAtOnce (engine o) 0 m.running → ComesBack o m more
comes_back o m more back once =
    let again = come_again (engine o) (untold m.core) more [] m.running tt once in
    let from = from_there o m more back in
    record {
      steps = again.steps;
      is = ap (λ x. machine_after (engine o) x again.steps) from ∙ again.is;
      each = λ i less none. again.each i less (ap (λ x. unsettled (machine_after (engine o) x i)) (sym from) ∙ none);
    }

pub offers_come_again : StatesComeBack → OffersAreNext → OffersComeAgain
offers_come_again back next o valid lawful es fits n near settled more =
    let m = machine_run o es n in
    comes_back o m more (back o valid lawful es fits n near)
    (offer_at_once (engine o) 0 m.running settled (λ i running action here offered.
    let row = next o es n i running action here offered in ap stepped_by row.1))
