-- The run over two journals is that over the first one, and then that which goes on from its saved state.
use Rattle.std.proofs.Common.{◌≡◌, ◌≢◌, ◌↔◌, ◌+◌, ◌-◌, ◌<◌, ◌≤◌, ◌⊎◌, ℕ, List, [], ◌∷◌, ◌++◌, Option, Some, None, inl}
use Rattle.std.proofs.Common.{inr, refl, ap, sym, ◌∙◌, subst, append_assoc, arith}
use Rattle.std.proofs.lemmas.Bool.{cases_lt}
use Rattle.std.proofs.lemmas.Option.{none-some}
use Rattle.pearl_rules.specs.declared.entry.Entry.{Entry}
use Rattle.pearl_rules.specs.Core.{Core, Report, told_before}
use Rattle.pearl_rules.specs.Runs.{Coming, Machine, mapped, machine_after, machine_next, machine_offers, offer_of}
use Rattle.pearl_rules.specs.Runs.{kept_at, unsettled, unsettled_from}
use Rattle.pearl_rules.proofs.Offered.{states-offers}
use Rattle.pearl_run_laws.specs.Parts.{IsParted}
use Rattle.pearl_run_laws.specs.GoingOn.{EndsAfter, StandAlike, gone_on, over}
use Rattle.pearl_run_laws.proofs.Offered.{after_after, entries_part, runs_go_on}
use Rattle.pearl_stack.specs.Frames.{Frame}
use Rattle.pearl_instructions.specs.declared.object.Parts.{Parts as Object}
use Rattle.pearl_instructions.specs.Engines.{engine}
use Rattle.pearl_instructions.specs.Setups.{setup_of}
use Rattle.pearl_machine.specs.Resumed.{saved_of}
use Rattle.pearl_script.specs.Lines.{lines_of}
use Rattle.pearl_top.specs.Ready.{start_of}
use Rattle.pearl_saved_laws.specs.Going.{going_on}
use Rattle.pearl_top.specs.Runners.{CodeEnds, EndsByCode, by_code}
use Rattle.pearl_top.specs.SavedRuns.{PartsWriteAlike}
use Rattle.pearl_top.specs.Transcript.{Close, Closed, Cut, Ended, IsTranscript, closing, ended_of}
use Rattle.pearl_top.proofs.TranscriptLaws.{lines_of-append}

-- what goes on from the saved state of a machine, after so many steps
abbrev pub on_after : Object → Machine (List Frame) → List Entry → ℕ → Machine (List Frame)
on_after o m more n = machine_after (engine o) (going_on o (saved_of m) more) n

-- after some steps it stands where the machine stood, before any mark
abbrev pub ComesAgain : Object → Machine (List Frame) → List Entry → Type 0
ComesAgain o m more =
    (steps : ℕ) × (on_after o m more steps ≡ gone_on m more)
    × ((i : ℕ) → i < steps → unsettled (on_after o m more i) ≢ None)

-- the end of what goes on, with what was told before
abbrev pub told_first : List (ℕ × Report) → Ended → Ended
told_first told end = record { told = told ++ end.told; stand = end.stand; moment = end.moment }

-- where the same mark comes next, none comes of the one where none comes of the other
none_comes : (x y : Option Coming) → mapped (λ c. c.mark) x ≡ mapped (λ c. c.mark) y → y ≡ None → x ≡ None
none_comes None y same none = refl
none_comes (Some x) None same none = absurd (none-some x.mark (sym same))
none_comes (Some x) (Some y) same none = absurd (none-some y (sym none))

-- two that stand alike end alike
ends_alike : (before : List (ℕ × Report)) (a b : Machine (List Frame)) → StandAlike before a b →
    ended_of b.core (machine_offers b) ≡ told_first before (ended_of a.core (machine_offers a))
ends_alike before a b alike =
    ap (λ (c : Core). ended_of c (machine_offers b)) alike.core
    ∙ ap (λ stand. told_first before (record { told = a.core.told; stand = stand; moment = a.core.moment }))
    (states-offers (told_before before a.core) a.core (machine_offers b)
    (machine_offers a) refl refl refl refl refl refl
    (λ t. ap (λ running. offer_of (kept_at running t)) alike.running))

module _ (o : Object) (es : List Entry) (n : ℕ)
    (settled : unsettled (machine_after (engine o) (start_of o es) n) ≡ None)
    (no_mark : machine_next (machine_after (engine o) (start_of o es) n) ≡ None)
  where
    -- the state that is saved
    abbrev pub last : Machine (List Frame)
    last = machine_after (engine o) (start_of o es) n

    ends : EndsAfter (engine o) (over (start_of o []) es) n
    ends = record { settled = settled; no_mark = no_mark }

    -- the run over all entries comes where that over the further ones is at its end
    pub whole_ends : (more : List Entry) (end : Ended) → ComesAgain o last more →
        EndsByCode (engine o) (going_on o (saved_of last) more) end →
        CodeEnds o (es ++ more) (told_first last.core.told end)
    whole_ends more end again ended =
        let later : again.0 ≤ ended.steps = by_order (cases_lt ended.steps again.0) in
        let k = ended.steps - again.0 in
        let split : ended.steps ≡ again.0 + k = omega (arith, later) in
        let same : on_after o last more ended.steps ≡ machine_after (engine o) (gone_on last more) k =
        ap (on_after o last more) split ∙ after_after (engine o) (going_on o (saved_of last) more) again.0 k
        ∙ ap (λ m. machine_after (engine o) m k) again.1 in
        let on = runs_go_on (engine o) (start_of o []) es more n ends k in
        as_told end ended.is on.0 (subst
        (λ m. StandAlike last.core.told m (machine_after (engine o) (start_of o (es ++ more)) on.0)) (sym same) on.1)
      where
        by_order : (ended.steps < again.0) ⊎ (again.0 ≤ ended.steps) → again.0 ≤ ended.steps
        by_order (inl less) = absurd (again.2 ended.steps less ended.settled)
        by_order (inr later) = later

        as_told : (told : Ended) →
            told ≡ ended_of (on_after o last more ended.steps).core
            (machine_offers (on_after o last more ended.steps)) →
            (j : ℕ) →
            StandAlike last.core.told (on_after o last more ended.steps)
            (machine_after (engine o) (start_of o (es ++ more)) j) →
            CodeEnds o (es ++ more) (told_first last.core.told told)
        as_told told is j alike = record {
          steps = j;
          settled = ap (unsettled_from 0) alike.running ∙ ended.settled;
          no_mark = none_comes _ _ alike.next ended.no_mark;
          is = ap (told_first last.core.told) is ∙ sym (ends_alike last.core.told _ _ alike);
        }

    -- what closes a run is the same behind what was told before
    closing_same : (end : Ended) (close : Close) →
        closing (setup_of o) (told_first last.core.told end) close ≡ closing (setup_of o) end close
    closing_same end Closed = refl
    closing_same end (Cut refusal) = refl

    -- so its transcript is the lines told up to the state that is saved, and then those of what goes on from it
    pub whole_text : (more : List Entry) (end : Ended) → ComesAgain o last more →
        EndsByCode (engine o) (going_on o (saved_of last) more) end → (close : Close) →
        IsTranscript (setup_of o) (CodeEnds o (es ++ more)) close
        (lines_of (setup_of o) last.core.told ++ (lines_of (setup_of o) end.told ++ closing (setup_of o) end close))
    whole_text more end again ended close =
        let front = lines_of (setup_of o) last.core.told in
        let behind = lines_of (setup_of o) end.told in
        record {
          end = told_first last.core.told end;
          ends = whole_ends more end again ended;
          text = sym (append_assoc front behind (closing (setup_of o) end close))
              ∙ ap (λ x. x ++ closing (setup_of o) end close)
              (sym (lines_of-append (setup_of o) last.core.told end.told))
              ∙ ap (λ x. lines_of (setup_of o) (last.core.told ++ end.told) ++ x) (sym (closing_same end close));
        }

-- ENTRIES IN PARTS

module _ (o : Object) (before after : List Entry) (one : Entry) (parts : List Entry) (is : IsParted one parts) where
  abbrev whole : Machine (List Frame)
  whole = start_of o (before ++ one ∷ after)

  abbrev parted : Machine (List Frame)
  parted = start_of o (before ++ (parts ++ after))

  alike : (n : ℕ) → StandAlike [] (machine_after (engine o) whole n) (machine_after (engine o) parted n)
  alike n = entries_part (engine o) (start_of o []) before after one parts is n

  to_parts : (end : Ended) → EndsByCode (engine o) whole end → EndsByCode (engine o) parted end
  to_parts end ended =
      let same = alike ended.steps in
      record {
        steps = ended.steps;
        settled = ap (unsettled_from 0) same.running ∙ ended.settled;
        no_mark = none_comes _ _ same.next ended.no_mark;
        is = ended.is ∙ sym (ends_alike [] _ _ same);
      }

  from_parts : (end : Ended) → EndsByCode (engine o) parted end → EndsByCode (engine o) whole end
  from_parts end ended =
      let same = alike ended.steps in
      record {
        steps = ended.steps;
        settled = ap (unsettled_from 0) (sym same.running) ∙ ended.settled;
        no_mark = none_comes _ _ (sym same.next) ended.no_mark;
        is = ended.is ∙ ends_alike [] _ _ same;
      }

  write_alike : (close : Close) (bytes : List ℕ) →
      (by_code o).writes (before ++ one ∷ after) close bytes ↔ (by_code o).writes (before ++ (parts ++ after)) close bytes
  write_alike closes bytes = (
    λ written. record { end = written.end; ends = to_parts written.end written.ends; text = written.text },
    λ written. record { end = written.end; ends = from_parts written.end written.ends; text = written.text },
  )

pub parts_write_alike : PartsWriteAlike
parts_write_alike o before after one parts is close bytes = write_alike o before after one parts is close bytes
