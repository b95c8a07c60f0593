-- Where a machine's run has come to, its own run ends, or goes on to its end.
use Rattle.std.proofs.Common.{◌≡◌, ℕ, List, [], ◌++◌, Option, Some, None, refl, ap, sym, ◌∙◌, subst, append-nil}
use Rattle.std.proofs.lemmas.Option.{none-some}
use Rattle.pearl_rules.specs.declared.entry.Entry.{Entry}
use Rattle.pearl_rules.specs.Entries.{AreFitting}
use Rattle.pearl_rules.specs.Core.{Core, Report, first_events}
use Rattle.pearl_rules.specs.Pick.{pick}
use Rattle.pearl_rules.specs.Runs.{Source, source_run, source_next, source_offers, Machine, machine_after, machine_offers, machine_next, next_mark, unsettled, marked}
use Rattle.pearl_rules.specs.Laws as laws
use Rattle.pearl_rules.specs.Laws.{EndsAlike}
use Rattle.pearl_rules.proofs.Offered.{ends_alike, last_tells, one_end, pick-offers}
use Rattle.pearl_instructions.specs.declared.object.Parts.{Parts as Object}
use Rattle.pearl_stack.specs.Frames.{Frame}
use Rattle.pearl_instructions.specs.Engines.{engine}
use Rattle.pearl_instructions.specs.Setups.{setup_of}
use Rattle.pearl_machine.specs.Seen.{Seen, Goes, Handles}
use Rattle.pearl_top.specs.Ready.{RunsByRules, start_of, started}
use Rattle.pearl_top.specs.Runners.{EndsByCode}
use Rattle.pearl_top.specs.Transcript.{Ended, ended_of}

-- what opens a run
abbrev pub opening : Object → List (ℕ × Report)
opening o = first_events 0 (setup_of o).tasks

-- where the machine stands in the run over just these entries
pub stands : (o : Object) (es left : List Entry) (seen : Seen) (told : List (ℕ × Report)) → Handles (started o) es left seen told →
    Goes (started o) (opening o) es (left ++ []) seen told
stands o es left seen told handles = handles (opening o) es [] (λ p known. ap (next_mark p) (sym (append-nil es)))

-- a state after so many steps
abbrev pub after : Object → List Entry → ℕ → Machine (List Frame)
after o es n = machine_after (engine o) (start_of o es) n

-- where nothing is unsettled and no mark comes, the run has ended
pub ends_here : (o : Object) (es : List Entry) (n : ℕ) → unsettled (after o es n) ≡ None → machine_next (after o es n) ≡ None →
    EndsByCode (engine o) (start_of o es) (ended_of (after o es n).core (machine_offers (after o es n)))
ends_here o es n settled no_mark = record { steps = n; settled = settled; no_mark = no_mark; is = refl }

-- the run ends, and has told just this
pub record EndsTelling (o : Object) (es : List Entry) (told : List (ℕ × Report)) : Type 0 where
  pub end : Ended
  pub ends : EndsByCode (engine o) (start_of o es) end
  pub told_is : end.told ≡ told

-- what the rules' run has told where it ends
ends_with : (o : Object) (rules : RunsByRules o) (es : List Entry) (k : ℕ) → AreFitting (setup_of o) es →
    source_next rules.offer (source_run rules.offer (setup_of o) es k) ≡ None → EndsTelling o es (source_run rules.offer (setup_of o) es k).core.told
ends_with o rules es k fit none =
    let end = rules.finishes es fit in
    let alike : EndsAlike rules.offer (engine o) (setup_of o) es end.0 = ends_alike rules.offer (engine o) (setup_of o) _ _ rules.runs es fit end.0 end.1 in record {
      end = ended_of (after o es end.0).core (machine_offers (after o es end.0));
      ends = ends_here o es end.0 end.1.settled end.1.no_mark;
      told_is = ap (λ (c : Core). c.told) (rules.runs.same_core es fit end.0)
          ∙ ap (λ (s : Source). s.core.told) (one_end rules.offer (setup_of o) es (marked (engine o) (setup_of o) es end.0) k alike.ended none);
    }

-- no mark comes any more of the entries that are left, whoever acts next, as far as that is known
abbrev pub IsDone : Machine (List Frame) → Type 0
IsDone m = (q : Option ℕ) → (unsettled m ≡ None → q ≡ pick m.core (machine_offers m)) → next_mark q m.entries ≡ None

-- where the machine is done, also while it isn't settled, the run ends and has told the same
pub ends_when_done : (o : Object) (rules : RunsByRules o) (es : List Entry) (n : ℕ) → AreFitting (setup_of o) es → IsDone (after o es n) →
    EndsTelling o es (after o es n).core.told
ends_when_done o rules es n fit done =
    subst (λ (c : Core). EndsTelling o es c.told) (sym (rules.runs.same_core es fit n)) (ends_with o rules es (marked (engine o) (setup_of o) es n) fit (by_unsettled (unsettled m) refl))
  where
    m : Machine (List Frame)
    m = after o es n

    source : Source
    source = source_run rules.offer (setup_of o) es (marked (engine o) (setup_of o) es n)

    same_next : (q : Option ℕ) → next_mark q source.entries ≡ next_mark q m.entries
    same_next q = ap (next_mark q) (sym (rules.runs.same_entries es fit n))

    by_unsettled : (found : Option (ℕ × List Frame)) → unsettled m ≡ found → source_next rules.offer source ≡ None
    by_unsettled None is =
        let core : m.core ≡ source.core = rules.runs.same_core es fit n in
        let picks : pick source.core (source_offers rules.offer source) ≡ pick m.core (machine_offers m) =
        sym (pick-offers m.core source.core (machine_offers m) (source_offers rules.offer source) (ap (λ c. c.tasks) core) (ap (λ c. c.last) core)
        (ap (λ c. c.counts) core) (ap (λ c. c.channels) core) (ap (λ c. c.formats) core) (rules.runs.all_offers es fit n is)) in
        same_next (pick source.core (source_offers rules.offer source)) ∙ done (pick source.core (source_offers rules.offer source)) (λ settled. picks)
    by_unsettled (Some x) is =
        same_next (pick source.core (source_offers rules.offer source))
        ∙ done (pick source.core (source_offers rules.offer source)) (λ settled. absurd (none-some x (sym settled ∙ is)))

-- what the machine has told, its run has told at its end, and more behind it
pub ends_behind : (o : Object) (rules : RunsByRules o) (es left : List Entry) (seen : Seen) (told : List (ℕ × Report)) → AreFitting (setup_of o) es →
    Handles (started o) es left seen told →
    (more : List (ℕ × Report)) × EndsTelling o es ((opening o ++ told) ++ more)
ends_behind o rules es left seen told fit handles =
    let goes : Goes (started o) (opening o) es (left ++ []) seen told = stands o es left seen told handles in
    let says : (after o es goes.steps).core.told ≡ opening o ++ told = ap (λ m. m.core.told) goes.is in
    let k = marked (engine o) (setup_of o) es goes.steps in
    let ends : laws.EndsTelling rules.offer (setup_of o) es k = last_tells rules.offer (setup_of o) es k in (
      ends.more,
      subst (EndsTelling o es) (ends.told ∙ ap (λ x. x ++ ends.more) (ap (λ c. c.told) (sym (rules.runs.same_core es fit goes.steps)) ∙ says))
          (ends_with o rules es ends.last fit ends.no_mark),
    )
