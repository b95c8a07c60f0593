-- Which tasks wait at a device: what becomes of the rows of bits, and who comes next.
use Rattle.std.proofs.Common.{◌≡◌, ◌≢◌, ℕ, ◌+◌, ◌-◌, ◌*◌, ◌<◌, ◌≤◌, List, Option, Some, None, length, replicate, slice_get, slice_set}
use Rattle.std.proofs.Common.{refl, sym, ap, subst, ◌∙◌, arith, inl, inr, length-set}
use Rattle.std.specs.Prelude.{IfSome}
use Rattle.std.proofs.lemmas.Bool.{cases_lt}
use Rattle.std.proofs.lemmas.List.{length-replicate}
use Rattle.std.proofs.lemmas.Option.{none-some, same_Some}
use Rattle.pearl_bits.specs.Bits.{bit, IsFirst, NoneIsSet}
use Rattle.pearl_rules.specs.declared.action.Action.{Action}
use Rattle.pearl_rules.specs.declared.action.Action.TheVariants.{Get, Take}
use Rattle.pearl_rules.specs.Core.{Core}
use Rattle.pearl_rules.specs.Runs.{flattened, kept_at}
use Rattle.pearl_sema.specs.Waiting.{IsBehind}
use Rattle.pearl_kernel.specs.Listening.{device_of, awaited, Listens, place, AreListening, Marks}
use Rattle.pearl_kernel.specs.Listening.{IsNextListener, NoneListens}
use Rattle.pearl_kernel.specs.Names.{Names}
use Rattle.pearl_kernel.proofs.Places.{by_task, kept-other, get-same}
use Rattle.pearl_kernel.proofs.Entries.{none_past}
use Rattle.pearl_kernel.proofs.Unsettling.{no-bit, none_offered}
use Rattle.pearl_kernel.proofs.Waiting.{bytes-there}

place_is : (d t e u : ℕ) → t < 256 → u < 256 → place d t ≡ place e u → (d ≡ e) × (t ≡ u)
place_is d t e u a b same = (omega (arith, a, b, same), omega (arith, a, b, same))

-- a task that waits is there
pub listener-there : (offers : List (Option Action)) (d t : ℕ) → Listens offers d t → t < length offers
listener-there offers d t listens = elim (cases_lt t (length offers)) [
  | inl within ↦ within
  | inr past ↦ absurd (none-some d (sym (ap awaited (none_past offers t past)) ∙ listens))
]

-- THE START

pub listening-opening : (devices n : ℕ) (offers : List (Option Action)) (rows : List ℕ) → devices ≤ 396 → n ≤ 200 →
    offers ≡ replicate n None → rows ≡ replicate (devices * 4) 0 → AreListening devices offers rows
listening-opening devices n offers rows few_devices few none clear = record {
  few = omega (arith, few, ap length none, length-replicate {A = Option Action} n None);
  few_devices = few_devices;
  words = ap length clear ∙ length-replicate {A = ℕ} (devices * 4) 0;
  there = λ d t is. absurd (never d t is);
  member = λ d t is. absurd (never d t is);
  real = λ d t near within is.
      let no : bit rows (place d t) ≡ 0 = ap (λ ws. bit ws (place d t)) clear ∙ no-bit (devices * 4) (place d t) in
      absurd (omega (arith, is, no));
}
  where
    never : (d t : ℕ) → Listens offers d t → ⊥
    never d t is =
        none-some d (sym (ap (λ xs. awaited (kept_at xs t)) none ∙ ap awaited (none_offered n t)) ∙ is)

-- A CHANGE

-- a task waits at this device now, or at none, and of the other tasks nothing changed
record IsMoved (devices : ℕ) (old new : List ℕ) (task : ℕ) (to : Option ℕ) : Type 0 where
  words : length new ≡ length old
  set : (d : ℕ) → to ≡ Some d → bit new (place d task) ≡ 1
  only : (d : ℕ) → d < devices → bit new (place d task) ≡ 1 → to ≡ Some d
  others : (d t : ℕ) → t < 256 → t ≢ task → bit new (place d t) ≡ bit old (place d t)

-- it waits there no more
left : (devices : ℕ) (offers : List (Option Action)) (rows low : List ℕ) (task : ℕ) → AreListening devices offers rows →
    task < length offers → Marks rows low task 0 (awaited (kept_at offers task)) → IsMoved devices rows low task None
left devices offers rows low task are there marks = by_from (awaited (kept_at offers task)) refl marks
  where
    small : task < 256
    small = omega (arith, there, are.few)

    by_from : (from : Option ℕ) → awaited (kept_at offers task) ≡ from → Marks rows low task 0 from →
        IsMoved devices rows low task None
    by_from None is same = subst (λ ws. IsMoved devices rows ws task None) (sym same) (record {
      words = refl;
      set = λ d no. absurd (none-some d no);
      only = λ d within one. sym is ∙ are.real d task small within one;
      others = λ d t near other. refl;
    })
    by_from (Some e) is marks = record {
      words = marks.1;
      set = λ d no. absurd (none-some d no);
      only = λ d within one. absurd (by_task d e ⊥
          (λ same.
          let zero : bit low (place d task) ≡ 0 = ap (λ x. bit low (place x task)) same ∙ marks.0.this in
          omega (arith, one, zero))
          (λ other. other (same_Some d e (sym (are.real d task small within
          (sym (marks.0.others (place d task) (λ p. other (place_is d task e task small small p).0)) ∙ one)) ∙ is))));
      others = λ d t near other. marks.0.others (place d t) (λ p. other (place_is d t e task near small p).1);
    }

-- it waits there from now on
entered : (devices : ℕ) (rows low new : List ℕ) (task : ℕ) (to : Option ℕ) → task < 256 →
    IsMoved devices rows low task None → Marks low new task 1 to → IsMoved devices rows new task to
entered devices rows low new task None small moved same =
    subst (λ ws. IsMoved devices rows ws task None) (sym same) moved
entered devices rows low new task (Some e) small moved marks = record {
  words = marks.1 ∙ moved.words;
  set = λ d is. ap (λ x. bit new (place x task)) (sym (same_Some e d is)) ∙ marks.0.this;
  only = λ d within one. by_task d e (Some e ≡ Some d) (λ same. ap (λ x. Some x) (sym same))
      (λ other. absurd (none-some d (moved.only d within
      (sym (marks.0.others (place d task) (λ p. other (place_is d task e task small small p).0)) ∙ one))));
  others = λ d t near other.
      marks.0.others (place d t) (λ p. other (place_is d t e task near small p).1) ∙ moved.others d t near other;
}

moved_on : (devices : ℕ) (offers : List (Option Action)) (rows new : List ℕ) (task : ℕ) (offer : Option Action) →
    AreListening devices offers rows → task < length offers → ((d : ℕ) → awaited offer ≡ Some d → d < devices) →
    IsMoved devices rows new task (awaited offer) → AreListening devices (slice_set offers task offer) new
moved_on devices offers rows new task offer are there within moved = record {
  few = omega (arith, are.few, length-set offers task offer);
  few_devices = are.few_devices;
  words = moved.words ∙ are.words;
  there = λ d t is. by_task t task (d < devices) (λ e. within d (sym (here t e) ∙ is))
      (λ other. are.there d t (before d t other is));
  member = λ d t is. by_task t task (bit new (place d t) ≡ 1)
      (λ e. ap (λ u. bit new (place d u)) e ∙ moved.set d (sym (here t e) ∙ is))
      (λ other. moved.others d t (near d t (before d t other is)) other ∙ are.member d t (before d t other is));
  real = λ d t small there one. by_task t task (Listens (slice_set offers task offer) d t)
      (λ e. here t e ∙ moved.only d there (ap (λ u. bit new (place d u)) (sym e) ∙ one))
      (λ other. ap awaited (kept-other offers task t offer other)
      ∙ are.real d t small there (sym (moved.others d t small other) ∙ one));
}
  where
    here : (t : ℕ) → t ≡ task → awaited (kept_at (slice_set offers task offer) t) ≡ awaited offer
    here t e = ap (λ u. awaited (kept_at (slice_set offers task offer) u)) e
        ∙ ap (λ o. awaited (flattened o)) (get-same offers task offer there)

    before : (d t : ℕ) → t ≢ task → Listens (slice_set offers task offer) d t → Listens offers d t
    before d t other is = sym (ap awaited (kept-other offers task t offer other)) ∙ is

    near : (d t : ℕ) → Listens offers d t → t < 256
    near d t is = let less = listener-there offers d t is in omega (arith, less, are.few)

-- what a task offered is gone
pub listening-gone : (devices : ℕ) (offers : List (Option Action)) (rows new : List ℕ) (task : ℕ)
    (offer : Option Action) → AreListening devices offers rows → task < length offers →
    Marks rows new task 0 (awaited (kept_at offers task)) → offer ≡ None →
    AreListening devices (slice_set offers task offer) new
listening-gone devices offers rows new task offer are there marks gone =
    subst (λ o. AreListening devices (slice_set offers task o) new) (sym gone)
    (moved_on devices offers rows new task None are there (λ d no. absurd (none-some d no))
    (left devices offers rows new task are there marks))

-- a task offers an action
pub listening-offer : (devices : ℕ) (offers : List (Option Action)) (rows low new : List ℕ) (task : ℕ) (action : Action)
    (offer : Option Action) → AreListening devices offers rows → task < length offers →
    Marks rows low task 0 (awaited (kept_at offers task)) → Marks low new task 1 (device_of action) →
    ((d : ℕ) → device_of action ≡ Some d → d < devices) → offer ≡ Some action →
    AreListening devices (slice_set offers task offer) new
listening-offer devices offers rows low new task action offer are there lowered raised within is =
    subst (λ o. AreListening devices (slice_set offers task o) new) (sym is)
    (moved_on devices offers rows new task (Some action) are there within
    (entered devices rows low new task (device_of action) (omega (arith, there, are.few))
    (left devices offers rows low task are there lowered) raised))

-- WHERE THE BITS ARE

pub bit-there : (devices : ℕ) (rows : List ℕ) (device : Option ℕ) → length rows ≡ devices * 4 →
    ((d : ℕ) → device ≡ Some d → d < devices) → IfSome device (λ d. d * 4 + 3 < length rows)
bit-there devices rows None words within = tt
bit-there devices rows (Some d) words within = let less = within d refl in omega (arith, less, words)

-- the task's place was read
pub marks-there : (devices : ℕ) (offers : List (Option Action)) (rows : List ℕ) (task : ℕ) (bid : Option Action)
    (device : Option ℕ) → AreListening devices offers rows → slice_get offers task ≡ Some bid → device ≡ awaited bid →
    IfSome device (λ d. d * 4 + 3 < length rows)
marks-there devices offers rows task bid device are read is =
    bit-there devices rows device are.words
    (λ d e. are.there d task (ap (λ o. awaited (flattened o)) read ∙ sym is ∙ e))

pub marks-of : (offers : List (Option Action)) (old new : List ℕ) (task b : ℕ) (bid : Option Action)
    (device : Option ℕ) → slice_get offers task ≡ Some bid → device ≡ awaited bid → Marks old new task b device →
    Marks old new task b (awaited (kept_at offers task))
marks-of offers old new task b bid device read is marks =
    subst (Marks old new task b) (is ∙ sym (ap (λ o. awaited (flattened o)) read)) marks

-- an action that names what is there
pub named-there : (core : Core) (action : Action) → Names core action → (d : ℕ) → device_of action ≡ Some d →
    d < length core.channels
named-there core (Get device format kinds) names d is =
    subst (λ n. n < length core.channels) (same_Some device d is) (bytes-there core device names.0)
named-there core (Take device) names d is = subst (λ n. n < length core.channels) (same_Some device d is) names
named-there core other names d is = absurd (none-some d is)

pub low-length : (rows new : List ℕ) (task b : ℕ) (device : Option ℕ) → Marks rows new task b device →
    length new ≡ length rows
low-length rows new task b None same = ap length same
low-length rows new task b (Some d) marks = marks.1

-- WHO COMES NEXT

-- the first place behind another one, or the first one
abbrev pub IsFrom : Option ℕ → ℕ → Type 0
IsFrom None from = from ≡ 0
IsFrom (Some t) from = from ≡ t + 1

pub from-behind : (after : Option ℕ) (from : ℕ) → IsFrom after from → (u : ℕ) → IsBehind after u → from ≤ u
from-behind None from is u behind = omega (arith, is)
from-behind (Some t) from is u behind = omega (arith, is, behind)

pub behind-from : (after : Option ℕ) (from : ℕ) → IsFrom after from → (u : ℕ) → from ≤ u → IsBehind after u
behind-from None from is u above = tt
behind-from (Some t) from is u above = omega (arith, is, above)

module _ (devices : ℕ) (offers : List (Option Action)) (rows : List ℕ) (device : ℕ) (after : Option ℕ) where
  pub none-there : AreListening devices offers rows → devices ≤ device → NoneListens offers device after
  none-there are past = λ u behind listens. let there = are.there device u listens in absurd (omega (arith, there, past))

  module _ (from : ℕ) (starts : (u : ℕ) → IsBehind after u → from ≤ u) where
    pub none-behind : AreListening devices offers rows → 256 ≤ from → NoneListens offers device after
    none-behind are past = λ u behind listens.
        let there = listener-there offers device u listens in
        let above = starts u behind in
        absurd (omega (arith, there, are.few, above, past))

    pub none-found : AreListening devices offers rows →
        NoneIsSet rows (device * 256 + from) ((device * 4 + 4) * 64) → NoneListens offers device after
    none-found are none = λ u behind listens.
        let there = listener-there offers device u listens in
        let above = starts u behind in
        let one = are.member device u listens in
        let zero = none (place device u) (omega (arith, above)) (omega (arith, there, are.few)) in
        absurd (omega (arith, one, zero))

    pub first-found : AreListening devices offers rows → device < devices → (i : ℕ) →
        IsFirst rows (device * 256 + from) ((device * 4 + 4) * 64) i → ((u : ℕ) → from ≤ u → IsBehind after u) →
        IsNextListener offers device after (i - device * 256)
    first-found are there i first behind =
        let t = i - device * 256 in
        let low = first.from in
        let high = first.before in
        let is : place device t ≡ i = omega (arith, low) in
        let listens = are.real device t (omega (arith, low, high)) there (ap (λ j. bit rows j) is ∙ first.set) in
        record {
          behind = behind t (omega (arith, low));
          listens = listens;
          first = λ u is_behind waits. elim (cases_lt u t) [
            | inl less ↦
                let above = starts u is_behind in
                let one = are.member device u waits in
                let zero = first.least (place device u) (omega (arith, above)) (omega (arith, less, is)) in
                absurd (omega (arith, one, zero))
            | inr past ↦ past
          ];
        }
