-- A run that goes on from a saved state writes something, over the entries of a journal of which no line is refused.
use Rattle.std.proofs.Common.{ℕ, List, refl, subst, inr}
use Rattle.pearl_rules.specs.Entries.{AreFitting}
use Rattle.pearl_rules.specs.Runs.{machine_after, machine_offers}
use Rattle.pearl_instructions.specs.Engines.{engine}
use Rattle.pearl_instructions.specs.Setups.{setup_of}
use Rattle.pearl_journal.specs.Entries.{Entries}
use Rattle.pearl_journal.specs.Lines.{journal_lines}
use Rattle.pearl_journal.proofs.Offered.{entries-fit}
use Rattle.pearl_saved_laws.specs.Going.{ComesToItsEnd, going_on}
use Rattle.pearl_saved_laws.specs.Laws.{RestoredRunsEnd}
use Rattle.pearl_top.specs.declared.status.Status.TheVariants.{Done}
use Rattle.pearl_top.specs.Complete.{CanResume}
use Rattle.pearl_top.specs.ResumeDue.{ResumeDue}
use Rattle.pearl_top.specs.Runners.{by_state}
use Rattle.pearl_top.specs.Transcript.{ended_of}

pub has_resumed : RestoredRunsEnd → (file journal : List ℕ) → CanResume file journal →
    (bytes : List ℕ) × ResumeDue file journal ⊥ ⊥ Done bytes
has_resumed runs_end file journal order =
    let o = order.state.0 in
    let s = order.state.1 in
    let fit : AreFitting (setup_of o) order.es =
    subst (λ (found : Entries). AreFitting (setup_of o) found.accepted) order.read
    (entries-fit (setup_of o) (by_state o s).first (journal_lines journal)) in
    let end : ComesToItsEnd o s order.es = runs_end o s order.is.is.spelled.object order.is.lawful order.es fit in
    let last = machine_after (engine o) (going_on o s order.es) end.steps in (
      _,
      inr (
        order.state,
        order.is,
        (
          order.within,
          record {
            es = order.es;
            read = order.read;
            written = record {
              end = ended_of last.core (machine_offers last);
              ends = record { steps = end.steps; settled = end.settled; no_mark = end.no_mark; is = refl };
              text = refl;
            };
          },
        ),
      ),
    )
