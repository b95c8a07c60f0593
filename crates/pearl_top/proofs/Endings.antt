-- What closes a transcript, written by a machine that has come to the end of its entries.
use Rattle.std.proofs.Common.{◌≡◌, ℕ, List, [], ◌++◌, None, refl, ap, sym, ◌∙◌, subst, append_assoc}
use Rattle.pearl_rules.specs.declared.entry.Entry.{Entry}
use Rattle.pearl_rules.specs.Entries.{AreFitting}
use Rattle.pearl_rules.specs.Core.{Report, first_events}
use Rattle.pearl_rules.specs.Pick.{pick, states}
use Rattle.pearl_rules.specs.Runs.{Machine, machine_next, machine_offers, unsettled}
use Rattle.pearl_rules.proofs.Offered.{pick-offers, states-offers}
use Rattle.pearl_instructions.specs.declared.object.Parts.{Parts as Object}
use Rattle.pearl_stack.specs.Frames.{Frame}
use Rattle.pearl_instructions.specs.Setups.{setup_of}
use Rattle.pearl_script.specs.declared.refusal.Refusal.{Refusal}
use Rattle.pearl_script.specs.Lines.{lines_of, close_line}
use Rattle.pearl_script.specs.Refusals.{refusal_line}
use Rattle.pearl_machine.specs.Seen.{Seen, at, picked, SameNext, Goes, Handles}
use Rattle.pearl_top.specs.Ready.{RunsByRules, started}
use Rattle.pearl_top.specs.Runners.{by_code}
use Rattle.pearl_top.specs.Transcript.{Close, Closed, Cut}
use Rattle.pearl_top.proofs.RunEnds.{after, opening, stands, IsDone}
use Rattle.pearl_top.proofs.TranscriptLaws.{lines_of-append, machine_closing, closed_text, cut_text, HasRest, front_text}

-- the lines with which a run opens
abbrev pub opening_lines : Object → List ℕ
opening_lines o = lines_of (setup_of o) (first_events 0 (setup_of o).tasks)

-- who acts next, whatever was told
picked_at : (seen : Seen) (told : List (ℕ × Report)) (left : List Entry) → pick (at seen told left).core (machine_offers (at seen told left)) ≡ picked seen
picked_at seen told left =
    pick-offers (at seen told left).core seen.state.core (machine_offers (at seen told left)) (machine_offers seen.state) refl refl refl refl refl (λ t. refl)

-- how the tasks stand, whatever was told
pub states_at : (seen : Seen) (told : List (ℕ × Report)) (left : List Entry) →
    states (at seen told left).core (machine_offers (at seen told left)) ≡ states seen.state.core (machine_offers seen.state)
states_at seen told left =
    states-offers (at seen told left).core seen.state.core (machine_offers (at seen told left)) (machine_offers seen.state) refl refl refl refl refl refl (λ t. refl)

-- no mark comes any more
pub is_done : (seen : Seen) (told : List (ℕ × Report)) (left : List Entry) → SameNext seen left [] → IsDone (at seen told left)
is_done seen told left same q chosen = same q (λ settled. chosen settled ∙ picked_at seen told left)

-- the lines of what was told so far, with the opening lines
told_lines : (o : Object) (told : List (ℕ × Report)) → lines_of (setup_of o) (opening o ++ told) ≡ opening_lines o ++ lines_of (setup_of o) told
told_lines o told = lines_of-append (setup_of o) (first_events 0 (setup_of o).tasks) told

regroup : (a b c : List ℕ) (all : List ℕ) → all ≡ a ++ b → all ++ c ≡ a ++ (b ++ c)
regroup a b c all e = ap (λ x. x ++ c) e ∙ append_assoc a b c

-- the whole transcript, behind the opening lines, where the machine is settled
pub closes : (o : Object) (es : List Entry) (seen : Seen) (told : List (ℕ × Report)) → Handles (started o) es [] seen told → unsettled seen.state ≡ None →
    (by_code o).writes es Closed (opening_lines o ++ (lines_of (setup_of o) told ++ machine_closing (setup_of o) seen.state))
closes o es seen told ran settled =
    let end : Goes (started o) (opening o) es [] seen told = stands o es [] seen told ran in
    let there : Machine (List Frame) = at seen (opening o ++ told) end.left in
    let m : Machine (List Frame) = after o es end.steps in
    let done : IsDone there = is_done seen (opening o ++ told) end.left end.same in
    let closing : machine_closing (setup_of o) m ≡ machine_closing (setup_of o) seen.state =
    ap (machine_closing (setup_of o)) end.is ∙ ap (λ x. lines_of (setup_of o) x ++ close_line seen.state.core.moment) (states_at seen (opening o ++ told) end.left) in
    subst (λ last. (by_code o).writes es Closed (opening_lines o ++ (lines_of (setup_of o) told ++ last))) closing
    (subst ((by_code o).writes es Closed)
    (regroup (opening_lines o) (lines_of (setup_of o) told) (machine_closing (setup_of o) m) (lines_of (setup_of o) m.core.told)
    (ap (λ x. lines_of (setup_of o) x.core.told) end.is ∙ told_lines o told))
    (closed_text o es end.steps (ap unsettled end.is ∙ settled)
    (ap machine_next end.is ∙ done (pick there.core (machine_offers there)) (λ known. refl))))

-- the transcript that a refusal cuts short
pub cuts : (o : Object) (rules : RunsByRules o) (es : List Entry) (seen : Seen) (told : List (ℕ × Report)) (refusal : Refusal) → AreFitting (setup_of o) es →
    Handles (started o) es [] seen told →
    (by_code o).writes es (Cut refusal) (opening_lines o ++ (lines_of (setup_of o) told ++ refusal_line refusal))
cuts o rules es seen told refusal fit ran =
    let end : Goes (started o) (opening o) es [] seen told = stands o es [] seen told ran in
    let m : Machine (List Frame) = after o es end.steps in
    subst ((by_code o).writes es (Cut refusal))
    (regroup (opening_lines o) (lines_of (setup_of o) told) (refusal_line refusal) (lines_of (setup_of o) m.core.told)
    (ap (λ x. lines_of (setup_of o) x.core.told) end.is ∙ told_lines o told))
    (cut_text o rules es end.steps refusal fit (subst IsDone (sym end.is) (is_done seen (opening o ++ told) end.left end.same)))

-- what was told so far, and what follows it
pub breaks_off : (o : Object) (rules : RunsByRules o) (es left : List Entry) (seen : Seen) (told : List (ℕ × Report)) (close : Close) → AreFitting (setup_of o) es →
    Handles (started o) es left seen told → (rest : List ℕ) × (by_code o).writes es close (opening_lines o ++ (lines_of (setup_of o) told ++ rest))
breaks_off o rules es left seen told close fit handles =
    let front : HasRest o es close (lines_of (setup_of o) (opening o ++ told)) = front_text o rules es left seen told close fit handles in (
      front.rest,
      subst ((by_code o).writes es close) (regroup (opening_lines o) (lines_of (setup_of o) told) front.rest _ (told_lines o told)) front.whole,
    )
