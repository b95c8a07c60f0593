-- What a monitor's calls do, part by part.
use Rattle.std.proofs.Common.{◌≡◌, ℕ, ◌+◌, ◌<◌, List, [], ◌∷◌, ◌++◌, Option, Some, None, length, slice_get, refl, ap, ap₂, sym, subst, ◌∙◌, arith}
use Rattle.pearl_rules.specs.declared.entry.Entry.{Entry}
use Rattle.pearl_rules.specs.declared.entry.Entry.TheVariants.{Tick}
use Rattle.pearl_rules.specs.Core.{Core, Report, value_at}
use Rattle.pearl_rules.specs.Entries.{EntryFits, moment_after, time_in}
use Rattle.pearl_rules.specs.Runs.{Coming, Machine, Passes, machine_start, next_mark, unsettled}
use Rattle.pearl_io.specs.Outside.{Takes, TakesFront}
use Rattle.pearl_io.proofs.Offered.{takes_more, takes_front_more}
use Rattle.pearl_stack.specs.Frames.{Frame}
use Rattle.pearl_instructions.specs.declared.object.Parts.{Parts as Object}
use Rattle.pearl_instructions.specs.Actions.{IsSlotNumber}
use Rattle.pearl_instructions.specs.Engines.{engine}
use Rattle.pearl_instructions.specs.Setups.{setup_of}
use Rattle.pearl_machine.specs.Seen.{Seen, Handles, at, picked, retold}
use Rattle.pearl_machine.specs.Marked.{MakesOne, MakesWhatComes, SettlesAlone}
use Rattle.pearl_watch.specs.Changes.{shown, change_lines}
use Rattle.pearl_watch.specs.Handing.{IsAlone}
use Rattle.pearl_watch.specs.Lines.{Watching, begun}
use Rattle.pearl_watch.specs.Marks.{Gives, alone}
use Rattle.pearl_watch.specs.Monitored.{AreSlots, IsAtRest, IsTold, Monitored, Watches, started}
use Rattle.pearl_watch.proofs.Fitting.{Cuts, FitOn, cuts, most_marks, moment_of, no_time}
use Rattle.pearl_watch.proofs.OneMark.{is_alone}
use Rattle.pearl_watch.proofs.Showing.{watches_mark, watches_none, watches_on, watches_over, watches_settled, watches_then}
use Rattle.pearl_watch.proofs.Slots.{watched_slots_there}
use Rattle.pearl_watch.proofs.StepLines.{shown_lines}
use Rattle.pearl_watch.proofs.Still.{passed_slots, same_slots}
use Rattle.pearl_watch.proofs.Telling.{takes_nothing}

-- THE START

-- a loaded machine of which nothing is to be told any more
opened_is : (o : Object) (names : List (List ℕ)) (first opened : Seen) → first.object ≡ o → first.state ≡ machine_start (engine o) (setup_of o) [] →
    opened ≡ retold first [] → opened ≡ (started o names).machine
opened_is o names first opened object state is =
    is ∙ ap₂ (λ held stands. retold (record { object = held; state = stands }) []) object state

module _ (o : Object) (names : List (List ℕ)) (first opened machine : Seen) (watch : Watching) (object : first.object ≡ o)
    (state : first.state ≡ machine_start (engine o) (setup_of o) []) (is : opened ≡ retold first []) (kept : machine.object ≡ opened.object)
    (core : machine.state.core ≡ opened.state.core) (watched : watch ≡ begun o.leaves names) where
  same : opened ≡ (started o names).machine
  same = opened_is o names first opened object state is

  pub object_is : machine.object ≡ o
  object_is = kept ∙ ap (λ (s : Seen). s.object) same

  pub core_is : machine.state.core ≡ (started o names).machine.state.core
  core_is = core ∙ ap (λ (s : Seen). s.state.core) same

  pub rests_first : unsettled machine.state ≡ None → IsAtRest (record { machine = machine; watch = watch; marks = 0 })
  rests_first settled = record {
    settled = settled;
    taken = ap (λ (c : Core). c.told) core_is;
    slots = λ place s there.
        subst (λ (held : Object). IsSlotNumber held s.slot) (sym object_is)
        (watched_slots_there o.leaves names (length names) place s (ap (λ (w : Watching). slice_get w.watched place) (sym watched) ∙ there));
  }

  pub starts : SettlesAlone → ((from : List Entry) → Handles opened from from machine []) → (unsettled opened.state ≡ None → machine ≡ opened) →
      (from : List Entry) → Watches (started o names) from from (record { machine = machine; watch = watch; marks = 0 }) []
  starts silent handles still from =
      watches_settled (started o names) (record { machine = machine; watch = watch; marks = 0 }) from
      (silent (started o names).machine machine (subst (λ s. Handles s [] [] machine []) same (handles [])))
      (λ settled. still (ap (λ (s : Seen). unsettled s.state) same ∙ settled) ∙ same)
      (record { object = object_is; names = ap (λ (w : Watching). w.names) watched; watched = ap (λ (w : Watching). w.watched) watched }) refl

-- AT REST

-- it stays at rest where what was told last alone is another
pub rests_on : (old new : Monitored) → new.machine ≡ old.machine → new.watch.watched ≡ old.watch.watched → IsAtRest old → IsAtRest new
rests_on old new machine watched rests = record {
  settled = ap (λ (s : Seen). unsettled s.state) machine ∙ rests.settled;
  taken = ap (λ (s : Seen). s.state.core.told) machine ∙ rests.taken;
  slots = subst (λ (s : Seen). AreSlots s.object new.watch.watched) (sym machine) (subst (λ ws. AreSlots old.machine.object ws) (sym watched) rests.slots);
}

-- and where another machine of the same object is
pub rests_after : (old new : Monitored) → new.machine.object ≡ old.machine.object → new.watch ≡ old.watch → unsettled new.machine.state ≡ None →
    new.machine.state.core.told ≡ [] → IsAtRest old → IsAtRest new
rests_after old new object watch settled taken rests = record {
  settled = settled;
  taken = taken;
  slots = subst (λ (w : Watching). AreSlots new.machine.object w.watched) (sym watch)
      (subst (λ (o : Object). AreSlots o old.watch.watched) (sym object) rests.slots);
}

-- ONE MARK

pub step_watches : (old new : Monitored) (one : Entry) (told : List (ℕ × Report)) → MakesWhatComes → unsettled old.machine.state ≡ None →
    Handles old.machine (one ∷ []) [] new.machine told → new.machine.object ≡ old.machine.object → new.watch ≡ old.watch → new.marks ≡ shown (old.marks + 1) →
    (from : List Entry) (coming : Coming) → next_mark (picked old.machine) from ≡ Some coming → one ≡ alone coming.mark →
    Watches old from coming.rest new
    (change_lines old.watch.names old.watch.watched (old.marks + 1) (Some old.machine.state.core) new.machine.state.core)
step_watches old new one told makes settled handles object watch marks from coming comes is =
    let only : IsAlone (picked old.machine) coming.mark (alone coming.mark) = is_alone (picked old.machine) from coming comes in
    watches_mark old new from coming told _ settled comes
    (λ before entries left next.
    makes old.machine new.machine (alone coming.mark) coming.mark only.left told settled only.comes only.last
    (subst (λ e. Handles old.machine (e ∷ []) [] new.machine told) is handles) before entries left next)
    (record { object = object; names = ap (λ (w : Watching). w.names) watch; watched = ap (λ (w : Watching). w.watched) watch })
    (ap shown marks ∙ omega arith) refl

-- a millisecond changes no slot
pub step_slots : (old new : Seen) (one : Entry) (told : List (ℕ × Report)) → MakesWhatComes → unsettled old.state ≡ None → Handles old (one ∷ []) [] new told →
    one ≡ Tick 1 → new.state.core.slots ≡ old.state.core.slots
step_slots old new one told makes settled handles is =
    let over : List Entry = Tick 0 ∷ [] in
    let made : MakesOne old new told [] (Tick 1 ∷ []) over =
    makes old new (Tick 1) Passes over told settled refl (λ other. refl) (subst (λ e. Handles old (e ∷ []) [] new told) is handles) [] (Tick 1 ∷ []) over refl in
    ap (λ (m : Machine (List Frame)). m.core.slots) (sym made.is)
    ∙ passed_slots (engine old.object) (at old [] (Tick 1 ∷ [])) made.settling (record { mark = Passes; rest = over }) settled refl refl made.each

-- what was told last is still so
pub still_told : (old new : Monitored) → new.watch ≡ old.watch → new.machine.state.core.slots ≡ old.machine.state.core.slots →
    IsTold old.watch (Some old.machine.state.core) → IsTold new.watch (Some new.machine.state.core)
still_told old new watch slots told =
    subst (λ w. IsTold w (Some new.machine.state.core)) (sym watch)
    (λ place s there. told place s there ∙ ap (λ cells. Some (Some (value_at cells s.slot))) (sym slots))

-- nothing is written of it
pub takes_still : (old new : Monitored) (marks : ℕ) (taken : Option (List ℕ)) → new.machine.state.core.slots ≡ old.machine.state.core.slots →
    Takes taken taken (change_lines old.watch.names old.watch.watched marks (Some old.machine.state.core) new.machine.state.core)
takes_still old new marks taken slots =
    subst (λ text. Takes taken taken text)
    (sym (same_slots old.watch.names old.watch.watched marks old.machine.state.core new.machine.state.core slots)) (takes_nothing taken)

-- a mark, and then the lines of what it changed
module _ (old mid new : Monitored) (watch : mid.watch ≡ old.watch) (marks : mid.marks ≡ shown (old.marks + 1)) (machine : new.machine ≡ mid.machine) where
  pub told_text : change_lines mid.watch.names mid.watch.watched mid.marks (Some old.machine.state.core) mid.machine.state.core
      ≡ change_lines old.watch.names old.watch.watched (old.marks + 1) (Some old.machine.state.core) new.machine.state.core
  told_text =
      ap (λ (w : Watching). change_lines w.names w.watched mid.marks (Some old.machine.state.core) mid.machine.state.core) watch
      ∙ shown_lines old.watch.names old.watch.watched mid.marks (old.marks + 1) (Some old.machine.state.core) mid.machine.state.core
      (ap shown marks ∙ omega arith)
      ∙ ap (λ (s : Seen). change_lines old.watch.names old.watch.watched (old.marks + 1) (Some old.machine.state.core) s.state.core) (sym machine)

  pub told_before : IsTold old.watch (Some old.machine.state.core) → IsTold mid.watch (Some old.machine.state.core)
  told_before told = subst (λ w. IsTold w (Some old.machine.state.core)) (sym watch) told

  pub mark_watches : new.marks ≡ mid.marks → new.watch.names ≡ mid.watch.names → new.watch.watched ≡ mid.watch.watched → (from left : List Entry) →
      Watches old from left mid (change_lines old.watch.names old.watch.watched (old.marks + 1) (Some old.machine.state.core) mid.machine.state.core) →
      Watches old from left new (change_lines old.watch.names old.watch.watched (old.marks + 1) (Some old.machine.state.core) new.machine.state.core)
  mark_watches counted names watched from left watches =
      watches_on old mid new from left _
      (subst (λ (s : Seen). Watches old from left mid (change_lines old.watch.names old.watch.watched (old.marks + 1) (Some old.machine.state.core) s.state.core))
      (sym machine) watches) machine counted names watched

-- ALL MARKS OF AN ENTRY

-- what holds between two marks of an entry: the entries that are left fit, and end at the moment at which the entry ends; so much was
-- written
pub record IsBetween (start : Monitored) (entry : Entry) (left : List Entry) (now : Monitored) (old new : Option (List ℕ)) : Type 0 where
  pub text : List ℕ
  pub watches : Watches start (entry ∷ []) left now text
  pub taken : Takes old new text
  pub fit : FitOn (setup_of now.machine.object) now.machine.state.core.moment left
  pub time : now.machine.state.core.moment + time_in left ≡ start.machine.state.core.moment + time_in (entry ∷ [])
  pub told : IsTold now.watch (Some now.machine.state.core)

pub between_first : (start : Monitored) (entry : Entry) (old : Option (List ℕ)) → IsTold start.watch (Some start.machine.state.core) →
    EntryFits (setup_of start.machine.object) start.machine.state.core.moment entry → IsBetween start entry (entry ∷ []) start old old
between_first start entry old told fits = record {
  text = [];
  watches = watches_none start (entry ∷ []);
  taken = takes_nothing old;
  fit = (fits, tt);
  time = refl;
  told = told;
}

-- an entry of one mark was given: it makes the mark that comes next, and what remains is left
pub record IsNext (now : Monitored) (left rest : List Entry) (one : Entry) : Type 0 where
  pub coming : Coming
  pub comes : next_mark (picked now.machine) left ≡ Some coming
  pub is : one ≡ alone coming.mark
  pub remains : rest ≡ coming.rest

pub is_next : (now : Monitored) (left rest : List Entry) (one : Entry) → Gives (next_mark (picked now.machine) left) (Some one) left rest → IsNext now left rest one
is_next now left rest one gives = by_next (next_mark (picked now.machine) left) refl gives
  where
    by_next : (next : Option Coming) → next_mark (picked now.machine) left ≡ next → Gives next (Some one) left rest → IsNext now left rest one
    by_next None is none = absurd none
    by_next (Some coming) is given = record { coming = coming; comes = is; is = given.0; remains = given.1 }

pub is_over : (now : Monitored) (left rest : List Entry) → Gives (next_mark (picked now.machine) left) None left rest → next_mark (picked now.machine) left ≡ None
is_over now left rest gives = by_next (next_mark (picked now.machine) left) refl gives
  where
    by_next : (next : Option Coming) → next_mark (picked now.machine) left ≡ next → Gives next None left rest → next_mark (picked now.machine) left ≡ None
    by_next None is given = is
    by_next (Some coming) is none = absurd none

module _ (start now : Monitored) (entry : Entry) (left rest : List Entry) (one : Entry) (old mid : Option (List ℕ)) (so_far : IsBetween start entry left now old mid)
    (next : IsNext now left rest one) where
  part : Cuts (setup_of now.machine.object) now.machine.state.core.moment left next.coming
  part = cuts (setup_of now.machine.object) now.machine.state.core.moment (picked now.machine) left next.coming so_far.fit next.comes

  pub next_fits : EntryFits (setup_of now.machine.object) now.machine.state.core.moment one
  next_fits = subst (λ e. EntryFits (setup_of now.machine.object) now.machine.state.core.moment e) (sym next.is) part.fits

  pub fewer_left : most_marks rest < most_marks left
  fewer_left = subst (λ es. most_marks es < most_marks left) (sym next.remains) part.fewer

  module _ (after : Monitored) (text : List ℕ)
      (watches : (from : List Entry) (coming : Coming) → next_mark (picked now.machine) from ≡ Some coming → one ≡ alone coming.mark →
      Watches now from coming.rest after text) where
    pub all_so_far : Watches start (entry ∷ []) rest after (so_far.text ++ text)
    all_so_far =
        subst (λ es. Watches start (entry ∷ []) es after (so_far.text ++ text)) (sym next.remains)
        (watches_then start now after (entry ∷ []) left next.coming.rest so_far.text text so_far.watches (watches left next.coming next.comes next.is))

    pub between_next : (new : Option (List ℕ)) → after.machine.state.core.moment ≡ moment_after now.machine.state.core.moment one → Takes mid new text →
        IsTold after.watch (Some after.machine.state.core) → IsBetween start entry rest after old new
    between_next new moment taken told =
        let ends : after.machine.state.core.moment ≡ moment_after now.machine.state.core.moment (alone next.coming.mark) =
        moment ∙ ap (moment_after now.machine.state.core.moment) next.is in
        let kept : after.machine.object ≡ now.machine.object = (watches left next.coming next.comes next.is).stays.object in
        record {
          text = so_far.text ++ text;
          watches = all_so_far;
          taken = takes_more old mid new so_far.text text so_far.taken taken;
          fit = subst (λ es. FitOn (setup_of after.machine.object) after.machine.state.core.moment es) (sym next.remains)
              (subst (λ o. FitOn (setup_of o) after.machine.state.core.moment next.coming.rest) (sym kept)
              (subst (λ m. FitOn (setup_of now.machine.object) m next.coming.rest) (sym ends) part.rest));
          time = ap (λ es. after.machine.state.core.moment + time_in es) next.remains ∙ ap (λ m. m + time_in next.coming.rest) ends ∙ part.time ∙ so_far.time;
          told = told;
        }

    pub cut_next : (new : Option (List ℕ)) → TakesFront mid new text →
        (text : List ℕ) × (left : List Entry) × Watches start (entry ∷ []) left after text × TakesFront old new text
    cut_next new front = (so_far.text ++ text, rest, all_so_far, takes_front_more old mid new so_far.text text so_far.taken front)

-- a machine that has gone on to each task's next action stays as it is where it goes on
pub same_after : (inside now : Monitored) (machine : Seen) → inside ≡ now → unsettled inside.machine.state ≡ None →
    (unsettled inside.machine.state ≡ None → machine ≡ inside.machine) → record { machine = machine; watch = inside.watch; marks = inside.marks } ≡ now
same_after inside now machine is settled still =
    ap (λ (s : Seen). let m : Monitored = record { machine = s; watch = inside.watch; marks = inside.marks } in m) (still settled) ∙ is

-- no mark of the entry is left
module _ (start now : Monitored) (entry : Entry) (left : List Entry) (old new : Option (List ℕ)) (so_far : IsBetween start entry left now old new)
    (settled : unsettled now.machine.state ≡ None) (none : next_mark (picked now.machine) left ≡ None) where
  pub over_watches : (text : List ℕ) × Watches start (entry ∷ []) [] now text × Takes old new text
  over_watches = (so_far.text, watches_over start now (entry ∷ []) left so_far.text so_far.watches settled none, so_far.taken)

  pub over_moment : now.machine.state.core.moment ≡ moment_after start.machine.state.core.moment entry
  over_moment =
      let gone = no_time (picked now.machine) left none in
      let all = so_far.time in
      let ends = moment_of start.machine.state.core.moment entry in
      omega (arith, gone, all, ends)
