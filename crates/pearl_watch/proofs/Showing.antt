-- What a monitor shows, one part after another.
use Rattle.std.proofs.Common.{◌≡◌, ℕ, suc, ◌+◌, List, [], ◌++◌, Some, None, refl, ap, ap₂, sym, subst, ◌∙◌, append-nil, append_assoc, arith}
use Rattle.pearl_rules.specs.declared.entry.Entry.{Entry}
use Rattle.pearl_rules.specs.Core.{Report}
use Rattle.pearl_rules.specs.Runs.{Coming, Engine, Machine, next_mark, machine_next, machine_offers, machine_after, marked_after, marks_by, marks_in_step, count_if, unsettled}
use Rattle.pearl_rules.specs.Pick.{pick}
use Rattle.pearl_rules.proofs.Offered.{pick-offers}
use Rattle.pearl_stack.specs.Frames.{Frame}
use Rattle.pearl_instructions.specs.declared.object.Parts.{Parts as Object}
use Rattle.pearl_instructions.specs.Engines.{engine}
use Rattle.pearl_machine.specs.Seen.{Seen, at, picked, SameNext}
use Rattle.pearl_machine.specs.Marked.{MakesOne, MakesNone}
use Rattle.pearl_watch.specs.Changes.{shown, change_lines, step_lines}
use Rattle.pearl_watch.specs.Handing.{with_more}
use Rattle.pearl_watch.specs.Monitored.{Monitored, StaysOn, Shows, Watches, WatchesBehind, WatchesInTurn, WatchesNothing}
use Rattle.pearl_watch.proofs.OneMark.{comes_behind}
use Rattle.pearl_watch.proofs.StepLines.{no_marks, one_mark, steps_add, marked_add, lines_add, lines_shown, quiet_lines, one_mark_lines}

pub stays_none : (m : Monitored) → StaysOn m m
stays_none m = record { object = refl; names = refl; watched = refl }

pub stays_then : (a b c : Monitored) → StaysOn a b → StaysOn b c → StaysOn a c
stays_then a b c first second = record {
  object = second.object ∙ first.object;
  names = second.names ∙ first.names;
  watched = second.watched ∙ first.watched;
}

-- nothing yet
pub watches_none : WatchesNothing
watches_none m from = record {
  stays = stays_none m;
  told = [];
  made = 0;
  counted = ap shown (omega arith);
  shows = λ before entries rest same. record {
    steps = 0;
    left = entries;
    is = ap (λ told. at m.machine told entries) (sym (append-nil before));
    same = same;
    marks = refl;
    lines = refl;
  };
}

-- marks behind marks, as they are written
counts_then : (a b c first second : ℕ) → shown b ≡ shown (a + first) → shown c ≡ shown (b + second) → shown c ≡ shown (a + (first + second))
counts_then a b c first second one two = omega (arith, one, two)

-- what an object's engine does from a state, another with the same object does from the same state
alike : {X : Type 0} (o p : Object) (m n : Machine (List Frame)) (f : Engine (List Frame) → Machine (List Frame) → X) → m ≡ n → p ≡ o → f (engine o) m ≡ f (engine p) n
alike o p m n f same of = ap (f (engine o)) same ∙ ap (λ q. f (engine q) n) (sym of)

-- one part after the other
pub watches_then : WatchesInTurn
watches_then a b c from mid left text more first second = record {
  stays = stays_then a b c first.stays second.stays;
  told = first.told ++ second.told;
  made = first.made + second.made;
  counted = counts_then a.marks b.marks c.marks first.made second.made first.counted second.counted;
  shows = λ before entries rest same.
      let g : Shows a before entries (mid ++ rest) b.machine first.told first.made text = first.shows before entries rest same in
      let h : Shows b (before ++ first.told) g.left (left ++ rest) c.machine second.told second.made more = second.shows (before ++ first.told) g.left rest g.same in
      let e : Engine (List Frame) = engine a.machine.object in
      let start : Machine (List Frame) = at a.machine before entries in
      let there : machine_after e start g.steps ≡ at b.machine (before ++ first.told) g.left = g.is in
      let offset : shown (a.marks + marked_after e start g.steps) ≡ shown b.marks = ap (λ n. shown (a.marks + n)) g.marks ∙ sym first.counted in
      record {
        steps = g.steps + h.steps;
        left = h.left;
        is = steps_add e start g.steps h.steps ∙ alike a.machine.object b.machine.object _ _ (λ e m. machine_after e m h.steps) there first.stays.object ∙ h.is
            ∙ ap (λ all. at c.machine all h.left) (append_assoc before first.told second.told);
        same = h.same;
        marks = marked_add e start g.steps h.steps ∙ ap₂ (λ x y. x + y) g.marks (alike a.machine.object b.machine.object _ _ (λ e m. marked_after e m h.steps) there first.stays.object ∙ h.marks);
        lines = ap₂ (λ x y. x ++ y) g.lines (
            h.lines
            ∙ ap₂ (λ names watched. step_lines names watched b.marks (engine b.machine.object) (at b.machine (before ++ first.told) g.left) h.steps) first.stays.names first.stays.watched
            ∙ sym (alike a.machine.object b.machine.object _ _ (λ e m. step_lines a.watch.names a.watch.watched b.marks e m h.steps) there first.stays.object)
            ∙ sym (lines_shown e a.watch.names a.watch.watched b.marks (machine_after e start g.steps) h.steps)
            ∙ ap (λ n. step_lines a.watch.names a.watch.watched n e (machine_after e start g.steps) h.steps) (sym offset)
            ∙ lines_shown e a.watch.names a.watch.watched (a.marks + marked_after e start g.steps) (machine_after e start g.steps) h.steps)
            ∙ sym (lines_add e a.watch.names a.watch.watched a.marks start g.steps h.steps);
      };
}

-- entries behind others
pub watches_behind : WatchesBehind
watches_behind a b from left more text watches = record {
  stays = watches.stays;
  told = watches.told;
  made = watches.made;
  counted = watches.counted;
  shows = λ before entries rest same.
      subst (λ all. Shows a before entries all b.machine watches.told watches.made text) (sym (append_assoc left more rest))
      (watches.shows before entries (more ++ rest)
      (subst (λ all. SameNext a.machine entries all) (append_assoc from more rest) same));
}

-- what was told last doesn't matter
pub watches_on : (old mid new : Monitored) (from left : List Entry) (text : List ℕ) → Watches old from left mid text → new.machine ≡ mid.machine → new.marks ≡ mid.marks →
    new.watch.names ≡ mid.watch.names → new.watch.watched ≡ mid.watch.watched → Watches old from left new text
watches_on old mid new from left text watches machine marks names watched = record {
  stays = record {
    object = ap (λ (seen : Seen). seen.object) machine ∙ watches.stays.object;
    names = names ∙ watches.stays.names;
    watched = watched ∙ watches.stays.watched;
  };
  told = watches.told;
  made = watches.made;
  counted = ap shown marks ∙ watches.counted;
  shows = λ before entries rest same.
      subst (λ seen. Shows old before entries (left ++ rest) seen watches.told watches.made text) (sym machine) (watches.shows before entries rest same);
}

-- what was told doesn't tell who acts next
pub picked_at : (seen : Seen) (told : List (ℕ × Report)) (entries : List Entry) → pick (at seen told entries).core (machine_offers (at seen told entries)) ≡ picked seen
picked_at seen told entries =
    pick-offers (at seen told entries).core seen.state.core (machine_offers (at seen told entries)) (machine_offers seen.state) refl refl refl refl refl (λ t. refl)

-- every active task goes on to its next action
pub watches_settled : (old new : Monitored) (from : List Entry) → ((before : List (ℕ × Report)) (entries : List Entry) → MakesNone old.machine new.machine before entries) →
    (unsettled old.machine.state ≡ None → new.machine ≡ old.machine) → StaysOn old new → new.marks ≡ old.marks → Watches old from from new []
watches_settled old new from settles still stays counted = record {
  stays = stays;
  told = [];
  made = 0;
  counted = ap shown (omega (arith, counted));
  shows = λ before entries rest same.
      let goes : MakesNone old.machine new.machine before entries = settles before entries in
      let none : marked_after (engine old.machine.object) (at old.machine before entries) goes.settling ≡ 0 =
      no_marks (engine old.machine.object) (at old.machine before entries) goes.settling goes.each in
      record {
        steps = goes.settling;
        left = entries;
        is = goes.is ∙ ap (λ told. at new.machine told entries) (sym (append-nil before));
        same = λ p known. same p (λ settled. let as_before = still settled in known (ap (λ s. unsettled s.state) as_before ∙ settled) ∙ ap picked as_before);
        marks = none;
        lines = sym (quiet_lines (engine old.machine.object) old.watch.names old.watch.watched old.marks (at old.machine before entries) goes.settling none);
      };
}

-- one mark, which comes next of these entries
pub watches_mark : (old new : Monitored) (from : List Entry) (coming : Coming) (told : List (ℕ × Report)) (text : List ℕ) →
    unsettled old.machine.state ≡ None → next_mark (picked old.machine) from ≡ Some coming →
    ((before : List (ℕ × Report)) (entries left : List Entry) → next_mark (picked old.machine) entries ≡ Some (record { mark = coming.mark; rest = left }) →
    MakesOne old.machine new.machine told before entries left) →
    StaysOn old new → shown new.marks ≡ shown (old.marks + 1) →
    text ≡ change_lines old.watch.names old.watch.watched (old.marks + 1) (Some old.machine.state.core) new.machine.state.core →
    Watches old from coming.rest new text
watches_mark old new from coming told text settled comes one stays counted lines = record {
  stays = stays;
  told = told;
  made = 1;
  counted = counted;
  shows = λ before entries rest same.
      let e : Engine (List Frame) = engine old.machine.object in
      let start : Machine (List Frame) = at old.machine before entries in
      let next : next_mark (picked old.machine) entries ≡ Some (record { mark = coming.mark; rest = coming.rest ++ rest }) =
      same (picked old.machine) (λ known. refl)
      ∙ comes_behind (picked old.machine) from rest ∙ ap (λ c. with_more c rest (next_mark (picked old.machine) rest)) comes in
      let goes : MakesOne old.machine new.machine told before entries (coming.rest ++ rest) = one before entries (coming.rest ++ rest) next in
      let here : machine_next start ≡ Some (record { mark = coming.mark; rest = coming.rest ++ rest }) =
      ap (λ p. next_mark p entries) (picked_at old.machine before entries) ∙ next in
      let first : marks_in_step start ≡ 1 = ap (marks_by start) settled ∙ ap count_if here in
      let alone : marked_after e start (suc goes.settling) ≡ 1 = one_mark e start goes.settling first goes.each in
      record {
        steps = suc goes.settling;
        left = coming.rest ++ rest;
        is = goes.is;
        same = λ p known. refl;
        marks = alone;
        lines = lines
            ∙ ap (λ (m : Machine (List Frame)). change_lines old.watch.names old.watch.watched (old.marks + 1) (Some start.core) m.core) (sym goes.is)
            ∙ sym (one_mark_lines e old.watch.names old.watch.watched old.marks start first goes.settling alone);
      };
}

-- what is left makes no mark any more
pub watches_over : (old new : Monitored) (from left : List Entry) (text : List ℕ) → Watches old from left new text → unsettled new.machine.state ≡ None →
    next_mark (picked new.machine) left ≡ None → Watches old from [] new text
watches_over old new from left text watches settled none = record {
  stays = watches.stays;
  told = watches.told;
  made = watches.made;
  counted = watches.counted;
  shows = λ before entries rest same.
      let g : Shows old before entries (left ++ rest) new.machine watches.told watches.made text = watches.shows before entries rest same in
      record {
        steps = g.steps;
        left = g.left;
        is = g.is;
        same = λ p known. g.same p known ∙ ap (λ q. next_mark q (left ++ rest)) (known settled)
            ∙ comes_behind (picked new.machine) left rest ∙ ap (λ c. with_more c rest (next_mark (picked new.machine) rest)) none
            ∙ ap (λ q. next_mark q rest) (sym (known settled));
        marks = g.marks;
        lines = g.lines;
      };
}
