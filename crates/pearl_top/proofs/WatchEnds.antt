-- The end of an object's run, at which its changes are written: a machine stays there, and what is written is one thing.
use Rattle.std.proofs.Common.{◌≡◌, ℕ, zero, suc, ◌+◌, List, ◌++◌, None, length, replicate, refl, ap, sym, ◌∙◌, append-nil, add-zero, add-suc, arith}
use Rattle.pearl_rules.specs.declared.entry.Entry.{Entry}
use Rattle.pearl_rules.specs.Entries.{AreFitting}
use Rattle.pearl_rules.specs.Runs.{Engine, Machine, machine_after, machine_mark_by, machine_next, machine_run, machine_start, machine_step, machine_step_by, marked, marked_after, marks_by, marks_in_step, count_if, unsettled}
use Rattle.pearl_stack.specs.Frames.{Frame}
use Rattle.pearl_instructions.specs.declared.object.Parts.{Parts as Object}
use Rattle.pearl_instructions.specs.Engines.{engine}
use Rattle.pearl_instructions.specs.Setups.{setup_of}
use Rattle.pearl_watch.specs.Changes.{core_lines, mark_cores}
use Rattle.pearl_watch.specs.Monitored.{IsWatchText}
use Rattle.pearl_watch.specs.Watched.{watched_by}
use Rattle.pearl_watch.proofs.Offered.{steps_add}
use Rattle.pearl_top.specs.Ready.{RunsByRules}
use Rattle.pearl_top.specs.Transcript.{Close}
use Rattle.pearl_top.specs.WatchDue.{IsWatched, by_watch, watch_closing}
use Rattle.pearl_top.proofs.JournalLaws.{WritesOnce}

-- a step leads nowhere where each active task has offered, and no mark comes
pub record IsOver {S : Type 0} (m : Machine S) : Type 0 where
  pub settled : unsettled m ≡ None
  pub no_mark : machine_next m ≡ None

module _ {S : Type 0} (e : Engine S) where
  stays_one : (m : Machine S) → IsOver m → machine_step e m ≡ m
  unfolding machine_step
  stays_one m over = ap (machine_step_by e m) over.settled ∙ ap (machine_mark_by e m) over.no_mark

  stays : (m : Machine S) (k : ℕ) → IsOver m → machine_after e m k ≡ m
  stays m zero over = refl
  stays m (suc k) over = ap (machine_step e) (stays m k over) ∙ stays_one m over

  -- so many steps later it is still there
  pub same_later : (start : Machine S) (n k : ℕ) → IsOver (machine_after e start n) → machine_after e start (n + k) ≡ machine_after e start n
  same_later start n k over = steps_add e start n k ∙ stays (machine_after e start n) k over

  no_mark_later : (start : Machine S) (n k : ℕ) → IsOver (machine_after e start n) → marks_in_step (machine_after e start (n + k)) ≡ 0
  no_mark_later start n k over =
      ap marks_in_step (same_later start n k over) ∙ ap (marks_by (machine_after e start n)) over.settled ∙ ap count_if over.no_mark

  -- no core comes behind
  pub cores_later : (start : Machine S) (n k : ℕ) → IsOver (machine_after e start n) → mark_cores e start (n + k) ≡ mark_cores e start n
  cores_later start n zero over = rw add-zero refl
  cores_later start n (suc k) over =
      rw add-suc (
      ap (λ j. mark_cores e start (n + k) ++ replicate j (machine_after e start (suc (n + k))).core) (no_mark_later start n k over)
      ∙ append-nil (mark_cores e start (n + k)) ∙ cores_later start n k over
      )

  -- nor a mark
  marked_later : (start : Machine S) (n k : ℕ) → IsOver (machine_after e start n) → marked_after e start (n + k) ≡ marked_after e start n
  marked_later start n zero over = rw add-zero refl
  marked_later start n (suc k) over =
      let before = marked_later start n k over in
      let last = no_mark_later start n k over in
      rw add-suc (omega (arith, before, last))

  -- what is the same from the end on is the same at each end
  one_end : {Y : Type 0} (f : ℕ → Y) (start : Machine S) (a b : ℕ) → ((n k : ℕ) → IsOver (machine_after e start n) → f (n + k) ≡ f n) →
      IsOver (machine_after e start a) → IsOver (machine_after e start b) → f a ≡ f b
  one_end f start a b later first second =
      let swapped : a + b ≡ b + a = omega arith in
      sym (later a b first) ∙ ap f swapped ∙ later b a second

  pub one_cores : (start : Machine S) (a b : ℕ) → IsOver (machine_after e start a) → IsOver (machine_after e start b) →
      mark_cores e start a ≡ mark_cores e start b
  one_cores start a b = one_end (mark_cores e start) start a b (cores_later start)

  pub one_marked : (start : Machine S) (a b : ℕ) → IsOver (machine_after e start a) → IsOver (machine_after e start b) →
      marked_after e start a ≡ marked_after e start b
  one_marked start a b = one_end (marked_after e start) start a b (marked_later start)

  pub one_machine : (start : Machine S) (a b : ℕ) → IsOver (machine_after e start a) → IsOver (machine_after e start b) →
      machine_after e start a ≡ machine_after e start b
  one_machine start a b = one_end (machine_after e start) start a b (same_later start)

-- WHAT IS WRITTEN

over : (o : Object) (names : List (List ℕ)) (es : List Entry) (text : List ℕ) (marks moment : ℕ) (is : IsWatchText o names es text marks moment) →
    IsOver (machine_run (engine o) (setup_of o) es is.steps)
over o names es text marks moment is = record { settled = is.settled; no_mark = is.no_mark }

-- changes are one text, after one number of marks, at one moment
text_once : (o : Object) (names : List (List ℕ)) (es : List Entry) (one two : List ℕ) (m n s t : ℕ) → IsWatchText o names es one m s → IsWatchText o names es two n t →
    (one ≡ two) × (m ≡ n) × (s ≡ t)
text_once o names es one two m n s t is its =
    let start : Machine (List Frame) = machine_start (engine o) (setup_of o) es in
    let first = over o names es one m s is in
    let second = over o names es two n t its in (
      is.lines ∙ ap (core_lines names (watched_by o.leaves names (length names)) 0 None) (one_cores (engine o) start is.steps its.steps first second) ∙ sym its.lines,
      is.counted ∙ one_marked (engine o) start is.steps its.steps first second ∙ sym its.counted,
      is.now ∙ ap (λ (x : Machine (List Frame)). x.core.moment) (one_machine (engine o) start is.steps its.steps first second) ∙ sym its.now,
    )

-- with what closes them they are one list of bytes
pub watched_once : (names : List (List ℕ)) (o : Object) (es : List Entry) (close : Close) (bytes others : List ℕ) → IsWatched names o es close bytes →
    IsWatched names o es close others → bytes ≡ others
watched_once names o es close bytes others one two =
    let same = text_once o names es one.changes two.changes one.marks two.marks one.moment two.moment one.is two.is in
    one.text ∙ (λ i. same.0 i ++ watch_closing (same.1 i) (same.2 i) close) ∙ sym two.text

pub watch_once : (names : List (List ℕ)) (o : Object) → WritesOnce (by_watch names o)
watch_once names o lines es ending read close bytes others one two = watched_once names o es close bytes others one two

-- and there is something to be written
pub has_watched : (names : List (List ℕ)) (o : Object) (rules : RunsByRules o) (es : List Entry) (closes : Close) → AreFitting (setup_of o) es →
    (bytes : List ℕ) × IsWatched names o es closes bytes
has_watched names o rules es how fit =
    let end = rules.finishes es fit in (
      _,
      record {
        changes = core_lines names (watched_by o.leaves names (length names)) 0 None (mark_cores (engine o) (machine_start (engine o) (setup_of o) es) end.0);
        marks = marked (engine o) (setup_of o) es end.0;
        moment = (machine_run (engine o) (setup_of o) es end.0).core.moment;
        is = record { steps = end.0; settled = end.1.settled; no_mark = end.1.no_mark; lines = refl; counted = refl; now = refl };
        text = refl;
      },
    )
