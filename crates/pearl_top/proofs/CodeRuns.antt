-- The run of a valid object's own machine: it writes something, and one thing alone.
use Rattle.std.proofs.Common.{◌≡◌, ℕ, List, ◌++◌, None, refl, ap, ap₂, sym, ◌∙◌, subst}
use Rattle.std.proofs.Math.Path.{fun_ext}
use Rattle.pearl_rules.specs.declared.entry.Entry.{Entry}
use Rattle.pearl_rules.specs.Entries.{AreFitting}
use Rattle.pearl_rules.specs.Laws.{EndsAlike}
use Rattle.pearl_rules.specs.Runs.{Source, machine_next, machine_offers, marked, source_next, source_offers, source_run, unsettled}
use Rattle.pearl_rules.proofs.Offered.{ends_alike, one_end}
use Rattle.pearl_instructions.specs.declared.object.Parts.{Parts as Object}
use Rattle.pearl_instructions.specs.Engines.{engine}
use Rattle.pearl_instructions.specs.Setups.{setup_of}
use Rattle.pearl_journal.specs.Entries.{Ending, Entries, entries_from}
use Rattle.pearl_journal.specs.Readings as readings
use Rattle.pearl_journal.proofs.Offered.{entries-fit}
use Rattle.pearl_script.specs.Lines.{lines_of}
use Rattle.pearl_top.specs.Ready.{RunsByRules}
use Rattle.pearl_top.specs.Ready.{start_of}
use Rattle.pearl_top.specs.Runners.{EndsByCode, by_code}
use Rattle.pearl_top.specs.Transcript.{Close, Ended, closing, ended_of}
use Rattle.pearl_top.proofs.JournalLaws.{WritesOnce}
use Rattle.pearl_top.proofs.RunEnds.{after, ends_here}

-- where the machine is settled, it and the rules' run stand alike
stands_alike : (o : Object) (rules : RunsByRules o) (es : List Entry) → AreFitting (setup_of o) es → (n : ℕ) → unsettled (after o es n) ≡ None →
    ended_of (after o es n).core (machine_offers (after o es n))
    ≡ ended_of (source_run rules.offer (setup_of o) es (marked (engine o) (setup_of o) es n)).core
    (source_offers rules.offer (source_run rules.offer (setup_of o) es (marked (engine o) (setup_of o) es n)))
stands_alike o rules es fit n settled = ap₂ (λ core offers. ended_of core offers) (rules.runs.same_core es fit n) (fun_ext (rules.runs.all_offers es fit n settled))

-- and where it has ended, so has that
rules_end : (o : Object) (rules : RunsByRules o) (es : List Entry) → AreFitting (setup_of o) es → (n : ℕ) → unsettled (after o es n) ≡ None →
    machine_next (after o es n) ≡ None → source_next rules.offer (source_run rules.offer (setup_of o) es (marked (engine o) (setup_of o) es n)) ≡ None
rules_end o rules es fit n settled no_mark =
    let alike : EndsAlike rules.offer (engine o) (setup_of o) es n =
    ends_alike rules.offer (engine o) (setup_of o) _ _ rules.runs es fit n (record { settled = settled; no_mark = no_mark }) in alike.ended

-- its run ends in one way
ends_once : (o : Object) (rules : RunsByRules o) (es : List Entry) → AreFitting (setup_of o) es → (end other : Ended) →
    EndsByCode (engine o) (start_of o es) end → EndsByCode (engine o) (start_of o es) other → end ≡ other
ends_once o rules es fit end other one two =
    one.is ∙ stands_alike o rules es fit one.steps one.settled
    ∙ ap (λ (s : Source). ended_of s.core (source_offers rules.offer s))
    (one_end rules.offer (setup_of o) es (marked (engine o) (setup_of o) es one.steps) (marked (engine o) (setup_of o) es two.steps)
    (rules_end o rules es fit one.steps one.settled one.no_mark) (rules_end o rules es fit two.steps two.settled two.no_mark))
    ∙ sym (stands_alike o rules es fit two.steps two.settled) ∙ sym two.is

-- the entries that some lines have by its tables fit them
pub read_fit : (o : Object) (lines : List (List ℕ)) (es : List Entry) (ending : Ending) →
    entries_from (setup_of o) readings.start lines ≡ record { accepted = es; ending = ending } → AreFitting (setup_of o) es
read_fit o lines es ending read =
    subst (λ (found : Entries). AreFitting (setup_of o) found.accepted) read (entries-fit (setup_of o) readings.start lines)

-- over these its machine writes one thing
pub code_once : (o : Object) → RunsByRules o → WritesOnce (by_code o)
code_once o rules lines es ending read close bytes others one two =
    let fit = read_fit o lines es ending read in
    one.text ∙ ap (λ (end : Ended). lines_of (setup_of o) end.told ++ closing (setup_of o) end close) (ends_once o rules es fit one.end two.end one.ends two.ends)
    ∙ sym two.text

-- and it writes something
pub has_written : (o : Object) (rules : RunsByRules o) (es : List Entry) (closes : Close) → AreFitting (setup_of o) es →
    (bytes : List ℕ) × (by_code o).writes es closes bytes
has_written o rules es how fit =
    let end = rules.finishes es fit in
    (_, record { end = ended_of (after o es end.0).core (machine_offers (after o es end.0)); ends = ends_here o es end.0 end.1.settled end.1.no_mark; text = refl })
