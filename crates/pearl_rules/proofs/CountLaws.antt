-- Semaphores: when an action on counts can be done, and which counts it changes.
use Rattle.std.proofs.Common.{◌≡◌, ◌≢◌, ◌↔◌, ℕ, ◌+◌, ◌-◌, ◌^◌, ◌<◌, ◌≤◌, ◌⊎◌, inl, inr, List, [], ◌∷◌, ◌++◌, Bool, true, false, if◌then◌else◌, ◌&&◌, nat_eq, nat_lt, nat_le, Result, Ok, Err, IsTrue, Option, Some, None, length, slice_get, slice_set, refl, sym, ap, subst, ◌∙◌, length-set, arith, ltb-true}
use Rattle.std.specs.List.{AllByRecursion, Contains, IsDistinct}
use Rattle.std.proofs.lemmas.Map.Keys.{IsDistinct-head, IsDistinct-tail}
use Rattle.std.proofs.lemmas.Bool.{and_parts, lt-ltb}
use Rattle.arrayvec.specs.ArrayVec.{ArrayVec}
use Rattle.pearl_value.specs.declared.cell.Cell.TheVariants.{Bits}
use Rattle.pearl_value.specs.declared.trap.Trap.TheVariants.{SemaLimit}
use Rattle.pearl_rules.specs.declared.action.Action.{Action}
use Rattle.pearl_rules.specs.declared.action.Action.TheVariants as action
use Rattle.pearl_rules.specs.declared.action.Answer.{Answer}
use Rattle.pearl_rules.specs.declared.action.Answer.TheVariants.{Nothing, One}
use Rattle.pearl_rules.specs.declared.event.Event.TheVariants as event
use Rattle.pearl_rules.specs.declared.setup.Setup.{Setup}
use Rattle.pearl_value.specs.Counts.{IsPreset}
use Rattle.pearl_rules.specs.declared.entry.Entry.{Entry}
use Rattle.pearl_rules.specs.declared.entry.Entry.TheVariants as entry
use Rattle.pearl_rules.specs.declared.row.Mode.TheVariants.{Dormant}
use Rattle.pearl_rules.specs.declared.row.Kept.TheVariants as kept
use Rattle.pearl_value.specs.declared.cell.Cell.{Cell}
use Rattle.pearl_value.specs.declared.kind.Kind.{Kind}
use Rattle.pearl_value.specs.declared.trap.Trap.{Trap}
use Rattle.pearl_value.specs.Conversions.{converted}
use Rattle.pearl_rules.specs.Core.{Core, Channel, Switch, Bytes, Values, Outward, note, with_row, opening}
use Rattle.pearl_rules.specs.Plans.{millisecond}
use Rattle.pearl_rules.specs.Devices.{channel_of, with_channel, bytes_at, terminal_room, with_bytes, input_room, joined, with_value_by, with_value, without_value_by, without_value, arrived}
use Rattle.pearl_rules.specs.Counts.{count_or_zero, count_at, all_free, all_below_most, lowered, raised}
use Rattle.pearl_rules.specs.Effect.{answering, releasing, trying, effect}
use Rattle.pearl_rules.specs.Pick.{Offered, guard, turned}
use Rattle.pearl_rules.specs.Slots.{AreNamed, Fits, HasCounts}
use Rattle.pearl_rules.specs.Laws.{ChangesCounts}
use Rattle.pearl_rules.proofs.Places.{here, there, where_is, no_member, only_member, each_at, all_set, first_once, set-same, set-other, there_at}
use Rattle.pearl_rules.proofs.PickLaws.{turned-is}
use Rattle.pearl_rules.proofs.EffectLaws.{AnyPriority, AnyPlan, any_continuation, any_activation, any_kept, any_brings, later}
use Rattle.pearl_rules.proofs.Serving.{Closed, ClosedAtEnds, KeepsValues, lowered-length, raised-length, either, effect-kept, millisecond-kept, interrupted-kept}

-- ONE COUNT

-- a count that is there and is written
count-same : (counts : List ℕ) (s n : ℕ) → s < length counts → count_at (slice_set counts s n) s ≡ n
count-same counts s n less = let at = there_at counts s less in ap count_or_zero (set-same counts s at.0 n at.1)

-- another count
count-other : (counts : List ℕ) (s u n : ℕ) → u ≢ s → count_at (slice_set counts s n) u ≡ count_at counts u
count-other counts s u n differ = ap count_or_zero (set-other counts s u n differ)

-- a count below the greatest there is
count-small : (counts : List ℕ) → AllByRecursion IsPreset counts → (s : ℕ) → count_at counts s < 2 ^ 31
count-small counts small s = by_count (slice_get counts s) refl
  where
    by_count : (count : Option ℕ) → slice_get counts s ≡ count → count_or_zero count < 2 ^ 31
    by_count None e = omega arith
    by_count (Some n) e = each_at IsPreset counts small s n e

-- ALL THAT ARE NAMED

-- each is above 0
free_all : (counts list : List ℕ) → all_free counts list ≡ true → (s : ℕ) → Contains list s → 0 < count_at counts s
free_all counts [] e s inside = absurd (no_member s inside)
free_all counts (first ∷ list) e s inside = by_place (where_is first s list inside) (λ later. free_all counts list parts.1 s later)
  where
    parts : (nat_lt 0 (count_at counts first) ≡ true) × (all_free counts list ≡ true)
    parts = and_parts (nat_lt 0 (count_at counts first)) (all_free counts list) e

    by_place : (first ≡ s) ⊎ Contains list s → (Contains list s → 0 < count_at counts s) → 0 < count_at counts s
    by_place (inl same) rest = subst (λ u. 0 < count_at counts u) same (ltb-true 0 (count_at counts first) parts.0)
    by_place (inr later) rest = rest later

-- two tests that are passed
both : (a b : Bool) → a ≡ true → b ≡ true → (a && b) ≡ true
both a b x y = cc

-- and where each is above 0 they are free
all_free_from : (counts list : List ℕ) → ((s : ℕ) → Contains list s → 0 < count_at counts s) → all_free counts list ≡ true
all_free_from counts [] above = refl
all_free_from counts (first ∷ list) above =
    both (nat_lt 0 (count_at counts first)) (all_free counts list) (lt-ltb 0 (count_at counts first) (above first (here first list)))
    (all_free_from counts list (λ s inside. above s (there first s list inside)))

-- a request can be done exactly where all that it names are above 0
pub request_possible : (core : Core) (list : ArrayVec ℕ) → IsTrue (guard core (action.Request list)) ↔ ((s : ℕ) → Contains list.items s → 0 < count_at core.counts s)
request_possible core list = (free_all core.counts list.items, all_free_from core.counts list.items)

-- each is below the greatest
below_all : (counts list : List ℕ) → all_below_most counts list ≡ true → (s : ℕ) → Contains list s → count_at counts s < 2 ^ 31 - 1
below_all counts [] e s inside = absurd (no_member s inside)
below_all counts (first ∷ list) e s inside = by_place (where_is first s list inside) (λ later. below_all counts list parts.1 s later)
  where
    parts : (nat_lt (count_at counts first) (2 ^ 31 - 1) ≡ true) × (all_below_most counts list ≡ true)
    parts = and_parts (nat_lt (count_at counts first) (2 ^ 31 - 1)) (all_below_most counts list) e

    by_place : (first ≡ s) ⊎ Contains list s → (Contains list s → count_at counts s < 2 ^ 31 - 1) → count_at counts s < 2 ^ 31 - 1
    by_place (inl same) rest = subst (λ u. count_at counts u < 2 ^ 31 - 1) same (ltb-true (count_at counts first) (2 ^ 31 - 1) parts.0)
    by_place (inr later) rest = rest later

all_below_from : (counts list : List ℕ) → ((s : ℕ) → Contains list s → count_at counts s < 2 ^ 31 - 1) → all_below_most counts list ≡ true
all_below_from counts [] below = refl
all_below_from counts (first ∷ list) below =
    both (nat_lt (count_at counts first) (2 ^ 31 - 1)) (all_below_most counts list) (lt-ltb (count_at counts first) (2 ^ 31 - 1) (below first (here first list)))
    (all_below_from counts list (λ s inside. below s (there first s list inside)))

-- where one stands at the greatest they can't be raised
pub not_all_below : (counts list : List ℕ) (s : ℕ) → Contains list s → 2 ^ 31 - 1 ≤ count_at counts s → all_below_most counts list ≡ false
not_all_below counts list s inside most = by_test (all_below_most counts list) refl
  where
    by_test : (b : Bool) → all_below_most counts list ≡ b → all_below_most counts list ≡ false
    by_test false e = e
    by_test true e = let less = below_all counts list e s inside in let no : ⊥ = omega (arith, less, most) in absurd no

-- COUNTS THAT CHANGE

-- a change of each named count by f
module _ (f : ℕ → ℕ) where
  -- each of these counts is changed
  abbrev changed : List ℕ → List ℕ → List ℕ
  changed counts [] = counts
  changed counts (s ∷ others) = changed (slice_set counts s (f (count_at counts s))) others

  -- a count that isn't named stays
  changed_other : (counts list : List ℕ) (u : ℕ) → (Contains list u → ⊥) → count_at (changed counts list) u ≡ count_at counts u
  changed_other counts [] u outside = refl
  changed_other counts (s ∷ others) u outside =
      changed_other (slice_set counts s (f (count_at counts s))) others u (λ inside. outside (there s u others inside))
      ∙ count-other counts s u (f (count_at counts s)) (λ same. outside (subst (λ v. Contains (s ∷ others) v) (sym same) (here s others)))

  -- one that is named is changed once
  changed_named : (many : ℕ) (counts list : List ℕ) → length counts ≡ many → AllByRecursion (λ s. s < many) list → IsDistinct nat_eq list →
      (u : ℕ) → Contains list u → count_at (changed counts list) u ≡ f (count_at counts u)
  changed_named many counts [] same within distinct u inside = absurd (no_member u inside)
  changed_named many counts (s ∷ others) same within distinct u inside =
      by_place (where_is s u others inside) (λ later. changed_named many after others (length-set counts s (f (count_at counts s)) ∙ same) within.1
      (IsDistinct-tail nat_eq s others distinct) u later)
    where
      after : List ℕ
      after = slice_set counts s (f (count_at counts s))

      apart : AllByRecursion (λ m. nat_eq s m ≡ false) others
      apart = IsDistinct-head nat_eq s others distinct

      first : count_at (changed after others) s ≡ f (count_at counts s)
      first = changed_other after others s (first_once s others apart)
          ∙ count-same counts s (f (count_at counts s)) (subst (λ n. s < n) (sym same) within.0)

      differ : Contains others u → u ≢ s
      differ later e = first_once s others apart (subst (λ v. Contains others v) e later)

      by_place : (s ≡ u) ⊎ Contains others u → (Contains others u → count_at (changed after others) u ≡ f (count_at after u)) →
          count_at (changed after others) u ≡ f (count_at counts u)
      by_place (inl e) rest = subst (λ v. count_at (changed after others) v ≡ f (count_at counts v)) e first
      by_place (inr later) rest = rest later ∙ ap f (count-other counts s u (f (count_at counts s)) (differ later))

-- lower counts
lowered_is : (counts list : List ℕ) → lowered counts list ≡ changed (λ n. n - 1) counts list
lowered_is counts [] = refl
lowered_is counts (s ∷ others) = lowered_is (slice_set counts s (count_at counts s - 1)) others

-- higher counts
raised_is : (counts list : List ℕ) → raised counts list ≡ changed (λ n. n + 1) counts list
raised_is counts [] = refl
raised_is counts (s ∷ others) = raised_is (slice_set counts s (count_at counts s + 1)) others

-- each named count is lower by 1, and no other changes
lowers : (setup : Setup) (core : Core) (own : ℕ) (list : List ℕ) (answer : Answer) → HasCounts setup core → AreNamed setup list →
    ((s : ℕ) → Contains list s → 0 < count_at core.counts s) →
    ChangesCounts core own list (λ before after. before ≡ after + 1) answer (answering (record core { last = Some own; counts = lowered core.counts list }) answer)
lowers setup core own list answer has names above = record {
  named = λ s inside.
      let less = above s inside in
      let is : count_at (lowered core.counts list) s ≡ count_at core.counts s - 1 = ap (λ cs. count_at cs s) (lowered_is core.counts list)
      ∙ changed_named (λ n. n - 1) (length setup.semaphores) core.counts list has.as_many names.there names.distinct s inside in
      omega arith;
  others = λ s outside. ap (λ cs. count_at cs s) (lowered_is core.counts list) ∙ changed_other (λ n. n - 1) core.counts list s outside;
  rest = refl;
}

-- each named count is higher by 1, and no other changes
raises : (setup : Setup) (core : Core) (own : ℕ) (list : List ℕ) → HasCounts setup core → AreNamed setup list →
    ChangesCounts core own list (λ before after. after ≡ before + 1) Nothing (answering (record core { last = Some own; counts = raised core.counts list }) Nothing)
raises setup core own list has names = record {
  named = λ s inside. ap (λ cs. count_at cs s) (raised_is core.counts list)
      ∙ changed_named (λ n. n + 1) (length setup.semaphores) core.counts list has.as_many names.there names.distinct s inside;
  others = λ s outside. ap (λ cs. count_at cs s) (raised_is core.counts list) ∙ changed_other (λ n. n + 1) core.counts list s outside;
  rest = refl;
}

-- a request
pub request_lowers : (setup : Setup) (core : Core) (own : ℕ) (list : ArrayVec ℕ) → HasCounts setup core → Fits setup (action.Request list) →
    IsTrue (guard core (action.Request list)) →
    ChangesCounts core own list.items (λ before after. before ≡ after + 1) Nothing (effect core own (action.Request list))
unfolding effect
request_lowers setup core own list has fits able = lowers setup core own list.items Nothing has fits (free_all core.counts list.items able)

-- a release
pub release_raises : (setup : Setup) (core : Core) (own : ℕ) (list : ArrayVec ℕ) → HasCounts setup core → Fits setup (action.Release list) →
    ((s : ℕ) → Contains list.items s → count_at core.counts s < 2 ^ 31 - 1) →
    ChangesCounts core own list.items (λ before after. after ≡ before + 1) Nothing (effect core own (action.Release list))
unfolding effect
release_raises setup core own list has fits below =
    subst (λ b. ChangesCounts core own list.items (λ before after. after ≡ before + 1) Nothing (releasing (record core { last = Some own }) own list.items b))
    (sym (all_below_from core.counts list.items below)) (raises setup core own list.items has fits)

-- a release that can't raise
pub release_breaks : (core : Core) (own s : ℕ) (list : ArrayVec ℕ) → Contains list.items s → 2 ^ 31 - 1 ≤ count_at core.counts s →
    effect core own (action.Release list) ≡ effect core own (action.Trap SemaLimit)
unfolding effect
release_breaks core own s list inside most =
    ap (λ b. releasing (record core { last = Some own }) own list.items b) (not_all_below core.counts list.items s inside most)

-- a try of a count above 0
pub try_lowers : (setup : Setup) (core : Core) (own s : ℕ) → HasCounts setup core → Fits setup (action.Try s) → 0 < count_at core.counts s →
    ChangesCounts core own (s ∷ []) (λ before after. before ≡ after + 1) (One (Bits 1 1)) (effect core own (action.Try s))
unfolding effect IsDistinct
try_lowers setup core own s has fits above =
    subst (λ b. ChangesCounts core own (s ∷ []) (λ before after. before ≡ after + 1) (One (Bits 1 1)) (trying (record core { last = Some own }) s b))
    (sym (lt-ltb 0 (count_at core.counts s) above))
    (lowers setup core own (s ∷ []) (One (Bits 1 1)) has (record { there = (fits, tt); distinct = (tt, tt) })
    (λ u inside. subst (λ v. 0 < count_at core.counts v) (sym (only_member s u inside)) above))

-- a try of a count that is 0
pub try_fails : (core : Core) (own s : ℕ) → count_at core.counts s ≡ 0 →
    effect core own (action.Try s) ≡ answering (record core { last = Some own }) (One (Bits 1 0))
unfolding effect
try_fails core own s none = ap (λ n. trying (record core { last = Some own }) s (nat_lt 0 n)) none

-- COUNTS STAY COUNTS

-- lower counts are small
lowered-small : (counts list : List ℕ) → AllByRecursion IsPreset counts → AllByRecursion IsPreset (lowered counts list)
lowered-small counts [] small = small
lowered-small counts (s ∷ others) small =
    let less = count-small counts small s in
    lowered-small (slice_set counts s (count_at counts s - 1)) others (all_set IsPreset counts small s (count_at counts s - 1) (omega (arith, less)))

-- higher ones are small where each was below the greatest
raised-small : (counts list : List ℕ) → AllByRecursion IsPreset counts → IsDistinct nat_eq list →
    ((s : ℕ) → Contains list s → count_at counts s < 2 ^ 31 - 1) → AllByRecursion IsPreset (raised counts list)
raised-small counts [] small distinct below = small
raised-small counts (s ∷ others) small distinct below =
    let less = below s (here s others) in
    raised-small (slice_set counts s (count_at counts s + 1)) others (all_set IsPreset counts small s (count_at counts s + 1) (omega (arith, less)))
    (IsDistinct-tail nat_eq s others distinct)
    (λ u inside. subst (λ n. n < 2 ^ 31 - 1)
    (sym (count-other counts s u (count_at counts s + 1) (λ same. first_once s others (IsDistinct-head nat_eq s others distinct) (subst (λ v. Contains others v) same inside))))
    (below u (there s u others inside)))

module _ (setup : Setup) where
  -- another core with the same counts
  counts_moved : (core other : Core) → other.counts ≡ core.counts → HasCounts setup core → HasCounts setup other
  counts_moved core other same has = record {
    as_many = ap length same ∙ has.as_many;
    small = subst (λ cs. AllByRecursion IsPreset cs) (sym same) has.small;
  }

  counts_closed : Closed AnyPriority AnyPlan (HasCounts setup)
  counts_closed = record {
    told = λ core e has. counts_moved core (note core e) refl has;
    stands = λ core t row mode kept at stays keeps has.
        counts_moved core (with_row core t (record row { mode = mode; kept = kept })) refl has;
    goes_on = λ core t row plan at lawful has. counts_moved core (with_row core t (record row { continuation = plan })) refl has;
    starts = λ core t row plan at lawful has. counts_moved core (with_row core t (record row { activation = Some plan })) refl has;
    going = λ core t row at has. any_continuation row.continuation;
    starting = λ core t row at has. any_activation row.activation;
    keeping = λ core t row at has. any_kept row.kept;
    begins = λ core plan lawful. tt;
  }

  counts_at_ends : ClosedAtEnds (HasCounts setup)
  counts_at_ends = record {
    ends = λ core t row at has.
        counts_moved core (with_row core t (record row { mode = Dormant; kept = kept.Nothing; continuation = None })) refl has;
    prevents = λ core t row at has.
        counts_moved core (with_row core t (record row { kept = kept.Nothing; continuation = None; activation = None })) refl has;
  }

  -- the oldest value of an input
  value_counts : (core : Core) (device : ℕ) → (without_value core device).counts ≡ core.counts
  value_counts core device = by_channel (channel_of core device)
    where
      by_channel : (channel : Option Channel) → (without_value_by channel core device).counts ≡ core.counts
      by_channel None = refl
      by_channel (Some (Switch enabled)) = refl
      by_channel (Some (Bytes pending)) = refl
      by_channel (Some (Values kind pending)) = refl
      by_channel (Some Outward) = refl

  -- lower and higher counts
  counts_lowered : (core : Core) (list : List ℕ) → HasCounts setup core → HasCounts setup (record core { counts = lowered core.counts list })
  counts_lowered core list has =
      record { as_many = lowered-length core.counts list ∙ has.as_many; small = lowered-small core.counts list has.small }

  counts_raised : (core : Core) (list : List ℕ) → HasCounts setup core → AreNamed setup list → all_below_most core.counts list ≡ true →
      HasCounts setup (record core { counts = raised core.counts list })
  counts_raised core list has names below = record {
    as_many = raised-length core.counts list ∙ has.as_many;
    small = raised-small core.counts list has.small names.distinct (below_all core.counts list below);
  }

  -- what an action does to counts
  counts_values : (core : Core) (asked : Action) → HasCounts setup core → Fits setup asked → KeepsValues (HasCounts setup) core asked
  counts_values core (action.Write slot value) has fits = counts_moved core _ refl has
  counts_values core (action.Request list) has fits = counts_lowered core list.items has
  counts_values core (action.Release list) has fits = λ below. counts_raised core list.items has fits below
  counts_values core (action.Try s) has fits = counts_lowered core (s ∷ []) has
  counts_values core (action.Enable device) has fits = counts_moved core _ refl has
  counts_values core (action.Disable device) has fits = counts_moved core _ refl has
  counts_values core (action.Get device format kinds) has fits = λ used. counts_moved core _ refl has
  counts_values core (action.Take device) has fits = counts_moved core (without_value core device) (value_counts core device) has
  counts_values core other has fits = tt

  -- bytes that come in
  bytes_counts : (core : Core) (device : ℕ) (text : List ℕ) → HasCounts setup core → HasCounts setup (with_bytes core device text)
  bytes_counts core device text has =
      either (HasCounts setup) (nat_le (length (bytes_at core device ++ text)) terminal_room)
      (with_channel core device (Bytes (bytes_at core device ++ text))) (note core (event.Lost device))
      (counts_moved core _ refl has) (counts_moved core _ refl has)

-- a value that comes in
come_counts : (core : Core) (device : ℕ) (x : Cell) → (with_value core device x).counts ≡ core.counts
come_counts core device x = by_channel (channel_of core device)
  where
    by_value : (kind : Kind) (pending : List Cell) (value : Result Cell Trap) → (joined core device kind pending value).counts ≡ core.counts
    by_value kind pending (Err trap) = refl
    by_value kind pending (Ok y) = refl

    by_channel : (channel : Option Channel) → (with_value_by channel core device x).counts ≡ core.counts
    by_channel None = refl
    by_channel (Some (Switch enabled)) = refl
    by_channel (Some (Bytes pending)) = refl
    by_channel (Some Outward) = refl
    by_channel (Some (Values kind pending)) = by_room (nat_lt (length pending) input_room)
      where
        by_room : (b : Bool) → (if b then joined core device kind pending (converted x kind) else note core (event.Lost device)).counts ≡ core.counts
        by_room true = by_value kind pending (converted x kind)
        by_room false = refl

-- every action
pub effect-counts : (setup : Setup) (core : Core) (own : ℕ) (action : Action) → HasCounts setup core → Fits setup action → HasCounts setup (effect core own action).core
effect-counts setup core own asked has fits =
    let acted : Core = record core { last = Some own } in
    let last : HasCounts setup acted = counts_moved setup core acted refl has in
    effect-kept AnyPriority AnyPlan (HasCounts setup) (counts_closed setup) (counts_at_ends setup) core own asked (any_brings core asked)
    (counts_values setup acted asked last fits) last

-- a millisecond
pub millisecond-counts : (setup : Setup) (core : Core) → HasCounts setup core → HasCounts setup (millisecond core)
millisecond-counts setup core has =
    millisecond-kept AnyPriority AnyPlan (HasCounts setup) (counts_closed setup) core (counts_moved setup core (later core) refl has)

-- and whatever comes in
pub arrived-counts : (setup : Setup) (core : Core) (come : Entry) → HasCounts setup core → HasCounts setup (arrived core come)
arrived-counts setup core (entry.Clock time) has = counts_moved setup core (record core { clock = time }) refl has
arrived-counts setup core (entry.Run picks) has = has
arrived-counts setup core (entry.Tick milliseconds) has = has
arrived-counts setup core (entry.Pass times picks) has = has
arrived-counts setup core (entry.Irpt device) has =
    interrupted-kept AnyPriority AnyPlan (HasCounts setup) (counts_closed setup) core device has
arrived-counts setup core (entry.Chars device text) has = bytes_counts setup core device text.items has
arrived-counts setup core (entry.Line device text) has = bytes_counts setup core device (text.items ++ 10 ∷ []) has
arrived-counts setup core (entry.Value device x) has = counts_moved setup core (with_value core device x) (come_counts core device x) has
arrived-counts setup core (entry.Turn task) has = has
arrived-counts setup core entry.State has = has

-- the first counts
pub opening-counts : (setup : Setup) → AllByRecursion IsPreset setup.semaphores → HasCounts setup (opening setup)
opening-counts setup small = record { as_many = refl; small = small }

-- a turn
pub turned-counts : (setup : Setup) (core : Core) (offers : Offered) (t : ℕ) → HasCounts setup core → HasCounts setup (turned core offers t)
turned-counts setup core offers t has =
    let same = ap (λ c. c.counts) (turned-is core offers t) in
    record { as_many = ap length same ∙ has.as_many; small = subst (λ cs. AllByRecursion IsPreset cs) (sym same) has.small }
