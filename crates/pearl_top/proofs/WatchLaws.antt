-- What is due for an object of which some leaves are watched: how it comes to be due, and that it is one thing.
use Rattle.std.proofs.Common.{◌≡◌, ◌≢◌, ◌<◌, ◌≤◌, ◌⊎◌, ℕ, List, [], refl, ap, ap₂, sym, ◌∙◌, subst, inl, inr, arith, true≢false}
use Rattle.std.proofs.lemmas.Bool.{cases_lt}
use Rattle.pearl_rules.specs.declared.entry.Entry.{Entry}
use Rattle.pearl_rules.specs.Runs.{unsettled}
use Rattle.std.specs.Prelude.{None}
use Rattle.pearl_instructions.specs.declared.object.Leaf.{Leaf}
use Rattle.pearl_instructions.specs.declared.object.Parts.{Parts as Object}
use Rattle.pearl_instructions.specs.Setups.{setup_of}
use Rattle.pearl_instructions.specs.Valid.{IsValid}
use Rattle.pearl_journal.specs.Entries.{entries}
use Rattle.pearl_script.specs.declared.refusal.Refusal.TheVariants as refusal
use Rattle.pearl_script.specs.Refusals.{refusal_line}
use Rattle.pearl_watch.specs.declared.fault.WatchFault.{WatchFault}
use Rattle.pearl_watch.specs.declared.fault.WatchFault.TheVariants as fault
use Rattle.pearl_watch.specs.Lines.{begun}
use Rattle.pearl_watch.specs.Monitored.{Monitored, Watches}
use Rattle.pearl_watch.specs.Monitored as monitored
use Rattle.pearl_watch.specs.Watched.{AreAccepted, IsCause, IsFirstRefused}
use Rattle.pearl_top.specs.declared.failure.Failure.{Failure}
use Rattle.pearl_top.specs.declared.failure.Failure.TheVariants as failure
use Rattle.pearl_top.specs.declared.limits.TheConstants.{OBJECT_LIMIT}
use Rattle.pearl_top.specs.declared.status.Status.{Status}
use Rattle.pearl_top.specs.declared.status.Status.TheVariants.{Done, Usage, Refused, BadObject, BadJournal, ReadFault, WriteFault, NoMemory, TooLong, BadName}
use Rattle.pearl_top.specs.Complete.{CanWatch}
use Rattle.pearl_top.specs.Failures.{IsDue, watch_refusal}
use Rattle.pearl_top.specs.Followers.{IsWatching}
use Rattle.pearl_top.specs.JournalDue.{IsBadJournal, JournalDue}
use Rattle.pearl_top.specs.Laws.{ValidObjectsRun}
use Rattle.pearl_top.specs.ObjectDue.{IsCodeOf, IsFileOf, IsRefused, ObjectDue}
use Rattle.pearl_top.specs.Reading.{AnObject, UnreadDue}
use Rattle.pearl_top.specs.Ready.{RunsByRules}
use Rattle.pearl_top.specs.Runners.{by_code}
use Rattle.pearl_top.specs.WatchDue.{CanBeWatched, HasBadName, NamesDue, NamesOrObjectDue, WatchDue, by_watch}
use Rattle.pearl_top.proofs.DueLaws.{handled-whole}
use Rattle.pearl_top.proofs.FromLaws.{IsLoaded, from_completes, from_held, from_once, from_read, from_refused, from_unread, from_unrisen, from_usage, held_or_refused}
use Rattle.pearl_top.proofs.JournalLaws.{not_bad}
use Rattle.pearl_top.proofs.Loaded.{object_loaded}
use Rattle.pearl_top.proofs.ObjectLaws.{never_refused, one_code, refused_once, refused_within}
use Rattle.pearl_top.proofs.TakenLaws.{is_due_as}
use Rattle.pearl_top.proofs.WatchEnds.{watch_once}

-- A LOADED MONITOR

pub is_watching : (code : Object) (names : List (List ℕ)) (m : Monitored) → RunsByRules code → m.watch ≡ begun code.leaves names →
    m.machine.state.core ≡ (monitored.started code names).machine.state.core → m.marks ≡ 0 → unsettled m.machine.state ≡ None →
    ((from : List Entry) → Watches (monitored.started code names) from from m []) → IsWatching m
is_watching code names m rules watch core marks settled starts =
    let kept : code ≡ m.machine.object = sym (starts []).stays.object in
    let same : names ≡ m.watch.names = sym (ap (λ w. w.names) watch) in record {
      rules = subst RunsByRules kept rules;
      settled = settled;
      watch = watch ∙ ap₂ (λ (o : Object) all. begun o.leaves all) kept same;
      core = core ∙ ap₂ (λ o all. (monitored.started o all).machine.state.core) kept same;
      marks = marks;
      starts = λ from. subst (λ o. Watches (monitored.started o m.watch.names) from from m []) kept
          (subst (λ all. Watches (monitored.started code all) from from m []) same (starts from));
    }

pub can_be_watched : (file : List ℕ) (names : List (List ℕ)) (o code : Object) (m : Monitored) → IsFileOf file o → IsValid o → code ≡ o →
    AreAccepted code.leaves names → ((from : List Entry) → Watches (monitored.started code names) from from m []) → CanBeWatched file names m.machine.object
can_be_watched file names o code m is valid same accepted starts =
    subst (CanBeWatched file names) (sym ((starts []).stays.object ∙ same)) (record {
      code = record { is = is; valid = valid };
      accepted = subst (λ (p : Object). AreAccepted p.leaves names) same accepted;
    })

-- WHERE NOTHING WAS WRITTEN YET

-- at the object
pub at_object : (file : List ℕ) (names : List (List ℕ)) (why : Failure) → IsDue (ObjectDue file ⊥) why → IsDue (NamesOrObjectDue file names) why
at_object file names why = is_due_as (ObjectDue file ⊥) (NamesOrObjectDue file names) why (λ s bytes due. inr due)

-- at the names
pub at_names : (file : List ℕ) (names : List (List ℕ)) (o code : Object) (why : WatchFault) → IsFileOf file o → IsValid o → code ≡ o →
    IsCause code.leaves names why → IsDue (NamesOrObjectDue file names) (failure.Refused (watch_refusal why))
at_names file names o code (fault.BadName number) is valid same cause =
    inl (record {
      o = o;
      code = record { is = is; valid = valid };
      number = number;
      first = subst (λ (p : Object). IsFirstRefused p.leaves names number) same cause;
      text = refl;
    })
at_names file names o code fault.NoMemory is valid same cause = inr refl

pub watch_unread : (file : List ℕ) (names : List (List ℕ)) (journal : List ℕ) (rose also : Type 0) (status : Status) (bytes : List ℕ) →
    UnreadDue file OBJECT_LIMIT rose status bytes → WatchDue file names journal rose also status bytes
watch_unread file names journal rose also status bytes due =
    inr (from_unread AnObject file (IsRefused file) (CanBeWatched file names) (by_watch names) journal rose also status bytes due)

-- the names or the object
refused_as : (file : List ℕ) (names : List (List ℕ)) (journal : List ℕ) (rose also : Type 0) (status : Status) (bytes : List ℕ) →
    NamesOrObjectDue file names status bytes → WatchDue file names journal rose also status bytes
refused_as file names journal rose also status bytes (inl due) = inl due
refused_as file names journal rose also status bytes (inr due) =
    inr (from_refused AnObject file (IsRefused file) (CanBeWatched file names) (by_watch names) journal rose also status bytes due)

pub watch_refused : (read file : List ℕ) (names : List (List ℕ)) (journal : List ℕ) (rose also : Type 0) (status : Status) (bytes : List ℕ) → read ≡ file →
    NamesOrObjectDue read names status bytes → WatchDue file names journal rose also status bytes
watch_refused read file names journal rose also status bytes same due =
    refused_as file names journal rose also status bytes (subst (λ f. NamesOrObjectDue f names status bytes) same due)

pub watch_accepted : (read file : List ℕ) (names all : List (List ℕ)) (journal : List ℕ) (rose also later : Type 0) (o : Object) (status : Status) (bytes : List ℕ) →
    read ≡ file → all ≡ names → (also → later) → CanBeWatched read names o → JournalDue (by_watch all o) journal also status bytes →
    WatchDue file names journal rose later status bytes
watch_accepted read file names all journal rose also later o status bytes same names_are on can due =
    inr (from_held AnObject file (IsRefused file) (CanBeWatched file names) (by_watch names) journal o rose also later status bytes on
    (subst (λ f. CanBeWatched f names o) same can) (subst (λ n. JournalDue (by_watch n o) journal also status bytes) names_are due))

-- FOR ALL WORDS

pub watch_unrisen : (file : List ℕ) (names : List (List ℕ)) (journal : List ℕ) (rose also : Type 0) (status : Status) (bytes : List ℕ) → status ≢ ReadFault →
    WatchDue file names journal rose also status bytes → WatchDue file names journal ⊥ ⊥ status bytes
watch_unrisen file names journal rose also status bytes free (inl due) = inl due
watch_unrisen file names journal rose also status bytes free (inr due) =
    inr (from_unrisen AnObject file (IsRefused file) (CanBeWatched file names) (by_watch names) journal rose also status bytes free due)

pub watch_usage : (file : List ℕ) (names : List (List ℕ)) (journal : List ℕ) (a b : Type 0) (bytes : List ℕ) → WatchDue file names journal a b Usage bytes → ⊥
watch_usage file names journal a b bytes (inl due) = due
watch_usage file names journal a b bytes (inr due) = from_usage AnObject file (IsRefused file) (CanBeWatched file names) (by_watch names) journal a b bytes due

pub watch_read : (file : List ℕ) (names : List (List ℕ)) (journal : List ℕ) (a b : Type 0) (bytes : List ℕ) → WatchDue file names journal a b ReadFault bytes → a ⊎ b
watch_read file names journal a b bytes (inl due) = absurd due
watch_read file names journal a b bytes (inr due) = from_read AnObject file (IsRefused file) (CanBeWatched file names) (by_watch names) journal a b bytes due

pub watch_unread_free : (file : List ℕ) (names : List (List ℕ)) (journal bytes : List ℕ) → WatchDue file names journal ⊥ ⊥ ReadFault bytes → ⊥
watch_unread_free file names journal bytes due = by (watch_read file names journal ⊥ ⊥ bytes due)
  where
    by : ⊥ ⊎ ⊥ → ⊥
    by (inl none) = none
    by (inr none) = none

-- ONE THING

-- at the names just BadName is due
record IsNamed (file : List ℕ) (names : List (List ℕ)) (status : Status) (bytes : List ℕ) : Type 0 where
  is : status ≡ BadName
  bad : HasBadName file names bytes

named : (file : List ℕ) (names : List (List ℕ)) (status : Status) (bytes : List ℕ) → NamesDue file names status bytes → IsNamed file names status bytes
named file names Done bytes due = absurd due
named file names Usage bytes due = absurd due
named file names Refused bytes due = absurd due
named file names BadObject bytes due = absurd due
named file names BadJournal bytes due = absurd due
named file names ReadFault bytes due = absurd due
named file names WriteFault bytes due = absurd due
named file names NoMemory bytes due = absurd due
named file names TooLong bytes due = absurd due
named file names BadName bytes due = record { is = refl; bad = due }

-- one name is the first that is refused
one_number : (leaves : List Leaf) (names : List (List ℕ)) (m n : ℕ) → IsFirstRefused leaves names m → IsFirstRefused leaves names n → m ≡ n
one_number leaves names m n one two = by (cases_lt one.name two.name) (cases_lt two.name one.name)
  where
    by : (one.name < two.name) ⊎ (two.name ≤ one.name) → (two.name < one.name) ⊎ (one.name ≤ two.name) → m ≡ n
    by (inl less) more = absurd (true≢false (sym one.refused ∙ two.first one.name less))
    by (inr least) (inl less) = absurd (true≢false (sym two.refused ∙ one.first two.name less))
    by (inr least) (inr most) =
        let a = one.counted in
        let b = two.counted in
        omega (arith, a, b, least, most)

bad_once : (file : List ℕ) (names : List (List ℕ)) (bytes others : List ℕ) → HasBadName file names bytes → HasBadName file names others → bytes ≡ others
bad_once file names bytes others one two =
    let same : one.o ≡ two.o = one_code file one.o two.o one.code two.code in
    let number : one.number ≡ two.number =
    one_number two.o.leaves names one.number two.number (subst (λ (o : Object). IsFirstRefused o.leaves names one.number) same one.first) two.first in
    one.text ∙ ap (λ n. refusal_line (refusal.Name n)) number ∙ sym two.text

-- a name isn't refused where all are accepted
never_bad : (file : List ℕ) (names : List (List ℕ)) (bytes : List ℕ) (o : Object) → CanBeWatched file names o → HasBadName file names bytes → ⊥
never_bad file names bytes o can bad =
    let same : bad.o ≡ o = one_code file bad.o o bad.code can.code in
    let first : IsFirstRefused o.leaves names bad.number = subst (λ (p : Object). IsFirstRefused p.leaves names bad.number) same bad.first in
    true≢false (sym first.refused ∙ can.accepted first.name first.within)

watch_loaded : (file : List ℕ) (names : List (List ℕ)) → IsLoaded AnObject file (IsRefused file) (CanBeWatched file names) (by_watch names)
watch_loaded file names = record {
  within = λ o can. can.code.is.within;
  refused_within = refused_within file;
  never_both = λ o bytes can. never_refused file bytes o can.code;
  refused_once = refused_once file;
  one = λ o p can also. one_code file o p can.code also.code;
  writes_once = λ o can. watch_once names o;
}

module _ (run : ValidObjectsRun) (file : List ℕ) (names : List (List ℕ)) (journal : List ℕ) where
  -- where a name is refused nothing else is due
  only_named : (status other : Status) (bytes others : List ℕ) → other ≢ NoMemory → IsNamed file names status bytes → WatchDue file names journal ⊥ ⊥ other others →
      (status ≡ other) × (bytes ≡ others)
  only_named status other bytes others known bad (inl due) =
      let also : IsNamed file names other others = named file names other others due in
      (bad.is ∙ sym also.is, bad_once file names bytes others bad.bad also.bad)
  only_named status other bytes others known bad (inr (inl due)) =
      absurd (held_or_refused AnObject file (IsRefused file) (IsCodeOf file) by_code journal bad.bad.o other others (object_loaded run file) bad.bad.code known due)
  only_named status other bytes others known bad (inr (inr (o, can, due))) = absurd (never_bad file names bytes o can bad.bad)

  pub watch_due_once : (status other : Status) (bytes others : List ℕ) → status ≢ NoMemory → other ≢ NoMemory → WatchDue file names journal ⊥ ⊥ status bytes →
      WatchDue file names journal ⊥ ⊥ other others → (status ≡ other) × (bytes ≡ others)
  watch_due_once status other bytes others known also (inl due) too = only_named status other bytes others also (named file names status bytes due) too
  watch_due_once status other bytes others known also (inr due) (inl too) =
      let same = only_named other status others bytes known (named file names other others too) (inr due) in (sym same.0, sym same.1)
  watch_due_once status other bytes others known also (inr due) (inr too) =
      from_once AnObject file (IsRefused file) (CanBeWatched file names) (by_watch names) journal status other bytes others (watch_loaded file names) known also due too

-- TO ITS END

can_watch : (file : List ℕ) (names : List (List ℕ)) (journal : List ℕ) (order : CanWatch file journal names) → CanBeWatched file names order.can.o
can_watch file names journal order = record { code = order.can.is; accepted = order.accepted }

watch_not_bad : (o : Object) (file : List ℕ) (names : List (List ℕ)) (journal bytes : List ℕ) → CanBeWatched file names o → CanWatch file journal names →
    IsBadJournal (by_watch names o) journal bytes → ⊥
watch_not_bad o file names journal bytes can order bad =
    let same : order.can.o ≡ o = one_code file order.can.o o order.can.is can.code in
    not_bad (by_watch names o) journal bytes order.can.es
    (ap₂ (λ q lines. entries (setup_of q) lines) (sym same) (handled-whole journal order.can.within) ∙ order.can.read) bad

pub watch_completes : (file : List ℕ) (names : List (List ℕ)) (journal : List ℕ) (rose also : Type 0) (status : Status) (bytes : List ℕ) →
    CanWatch file journal names → WatchDue file names journal rose also status bytes → status ≢ NoMemory → status ≢ ReadFault → status ≡ Done
watch_completes file names journal rose also status bytes order (inl due) no_memory no_read =
    let bad : IsNamed file names status bytes = named file names status bytes due in
    absurd (never_bad file names bytes order.can.o (can_watch file names journal order) bad.bad)
watch_completes file names journal rose also status bytes order (inr due) no_memory no_read =
    from_completes AnObject file (IsRefused file) (CanBeWatched file names) (by_watch names) journal rose also status bytes
    order.can.is.is.within (λ line. never_refused file line order.can.o order.can.is) order.can.within
    (λ o line can. watch_not_bad o file names journal line can order) due no_memory no_read
