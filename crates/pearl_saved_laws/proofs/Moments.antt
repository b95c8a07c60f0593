-- Over entries that fit one after the other no run comes to a moment behind the last that there is.
use Rattle.std.proofs.Common.{ℕ, ◌≤◌, List, sym, subst}
use Rattle.pearl_rules.specs.declared.entry.Entry.{Entry}
use Rattle.pearl_rules.specs.declared.setup.Setup.{Setup}
use Rattle.pearl_rules.specs.Core.{Core}
use Rattle.pearl_rules.specs.Entries.{last_moment_of_all, AreFitting, FitInTurn}
use Rattle.pearl_rules.specs.Runs.{Supplier, source_run}
use Rattle.pearl_instructions.specs.Engines.{marked}
use Rattle.pearl_instructions.specs.OwnOffers.{RunsAsOffered, own_offer}
use Rattle.pearl_instructions.specs.Setups.{setup_of}
use Rattle.pearl_saved_laws.specs.Laws.{MomentsStay}

pub moments_stay : RunsAsOffered → ((setup : Setup) (es : List Entry) → FitInTurn setup es → AreFitting setup es) →
    ((offer : Supplier) (setup : Setup) (es : List Entry) (m : ℕ) → FitInTurn setup es →
    (source_run offer setup es m).core.moment ≤ last_moment_of_all) → MomentsStay
moments_stay alike each within o valid lawful es fit n =
    let same = (alike o valid lawful).same_core es (each (setup_of o) es fit) n in
    subst (λ (core : Core). core.moment ≤ last_moment_of_all) (sym same)
    (within (own_offer o) (setup_of o) es (marked o es n) fit)
