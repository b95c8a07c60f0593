-- Constants and the runs that they are put into.
use Rattle.std.proofs.Common.{◌≡◌, ℕ, ℤ, zero, suc, ◌+◌, ◌-◌, ◌<◌, ◌≤◌, ◌⊎◌, ⊎_elim, inl, inr, min, Bool, true, false, cond, ◌&&◌, ◌||◌, not, nat_lt, nat_eq, List, [], ◌∷◌, ◌++◌, map, replicate, length, length-append, drop, get_or, slice_get, Option, Some, None, refl, sym, ap, subst, ◌∙◌, true≢false, append_assoc, append-nil, arith}
use Rattle.std.proofs.lemmas.List.Elements.{All-nil, All-append}
use Rattle.std.proofs.lemmas.List.Folds.{list_all-append}
use Rattle.std.proofs.lemmas.Grind.{flat_map-append}
use Rattle.std.proofs.lemmas.Bool.{cases_lt, lt-ltb, ltb-true}
use Rattle.std.proofs.lemmas.Bool.Decides.{nat_tests}
use Rattle.std.proofs.lemmas.Option.{same_Some, none-some, slice_get_within}
use Rattle.std.specs.List.{list_all, flat_map}
use Rattle.pearl_value.specs.declared.kind.Kind.{Kind}
use Rattle.pearl_tree.specs.declared.rule.TheConstants as rule
use Rattle.pearl_tree.specs.declared.fault.RuleFault.{RuleFault}
use Rattle.pearl_tree.specs.declared.literal.Const.{Const}
use Rattle.pearl_tree.specs.declared.name.Name.{Name}
use Rattle.pearl_tree.specs.Faults.{fault_if}
use Rattle.pearl_tree.specs.ShownLiterals.{ShownConst, shown_const}
use Rattle.pearl_scope.specs.declared.init.Spot.{Spot}
use Rattle.pearl_names.specs.declared.kinds.Kinds.{Kinds}
use Rattle.pearl_names.specs.declared.layout.Laid.{Laid}
use Rattle.pearl_names.specs.declared.slots.Run.{Run}
use Rattle.pearl_names.specs.declared.slots.Slots.{Slots}
use Rattle.pearl_names.specs.declared.types.Counts.{Counts}
use Rattle.pearl_names.specs.declared.types.StructForm.{StructForm}
use Rattle.pearl_scope.specs.Constants.{fits_kind, misses, missing_slots, slots_taken, is_empty}
use Rattle.pearl_names.specs.Counts.{within, counts_of, has_sound_leaves}
use Rattle.pearl_scope.specs.Filling.{AreFull, ahead, taken, repeated, IsWithin, IsAhead, HasLeaves, MatchesLeaves}
use Rattle.pearl_names.specs.Forming.{IsLaid}
use Rattle.pearl_names.specs.Forms.{StandsFor}
use Rattle.pearl_names.specs.Kinds.{least, no_kinds, joined_kinds, kinds_among}
use Rattle.pearl_names.specs.Layout.{Leaf, leaves_of, elements, slots_of, is_sound_leaf, leaves_within}
use Rattle.pearl_scope.specs.Rules.{slots_of_names, missing_of}
use Rattle.pearl_names.specs.Runs.{shape_slots}
use Rattle.pearl_names.specs.Shapes.{Shape}
use Rattle.pearl_names.specs.Walks.{run_slots, HasSlots, Lists}
use Rattle.pearl_names.proofs.Offered.{counts_of_variable, sound_counts, kinds-append, slots_of_shape, few_in_shape}
use Rattle.pearl_names.proofs.Offered.{elements_some, same_kinds}

and_same : (x : Bool) → (x && x) ≡ x
and_same true = refl
and_same false = refl

and_assoc : (x y z : Bool) → ((x && y) && z) ≡ (x && (y && z))
and_assoc true y z = refl
and_assoc false y z = refl

and_true : (x : Bool) → (x && true) ≡ x
and_true true = refl
and_true false = refl

run_fits : (f : Kind → Bool) (n : ℕ) (k : Kind) → list_all f (replicate (suc n) k) ≡ f k
run_fits f zero k = and_true (f k)
run_fits f (suc n) k = ap (λ b. f k && b) (run_fits f n k) ∙ and_same (f k)

-- the slots of full runs
pub runs_fit : (f : Kind → Bool) (runs : List Run) → AreFull runs → list_all f (flat_map run_slots runs) ≡ list_all (λ (run : Run). f run.kind) runs
runs_fit f [] full = refl
runs_fit f (run ∷ runs) full =
    list_all-append f (run_slots run) (flat_map run_slots runs)
    ∙ (λ i. one run.count (full 0 run (omega arith)) i && runs_fit f runs (λ j d inside. full (suc j) d (omega (arith, inside))) i)
  where
    one : (n : ℕ) → 1 ≤ n → list_all f (replicate n run.kind) ≡ f run.kind
    one zero h = absurd (omega (arith, h))
    one (suc n) h = run_fits f n run.kind

full_behind : (runs : List Run) (n : ℕ) → AreFull runs → AreFull (drop n runs)
full_behind runs zero full = full
full_behind [] (suc n) full = full
full_behind (run ∷ runs) (suc n) full = full_behind runs n (λ j d inside. full (suc j) d (omega (arith, inside)))

-- the run at a spot and those behind it
drop_at : {X : Type 0} (xs : List X) (i : ℕ) (x : X) → slice_get xs i ≡ Some x → drop i xs ≡ x ∷ drop (suc i) xs
drop_at [] i x h = absurd (none-some x h)
drop_at (y ∷ xs) zero x h = ap (λ z. z ∷ xs) (same_Some y x h)
drop_at (y ∷ xs) (suc i) x h = drop_at xs i x h

cons_at : (used count : ℕ) (k : Kind) (tail : List Kind) → used < count → drop used (replicate count k ++ tail) ≡ k ∷ drop (suc used) (replicate count k ++ tail)
cons_at used zero k tail h = absurd (omega (arith, h))
cons_at zero (suc count) k tail h = refl
cons_at (suc used) (suc count) k tail h = cons_at used count k tail (omega (arith, h))

past_run : (count : ℕ) (k : Kind) (tail : List Kind) → drop count (replicate count k ++ tail) ≡ tail
past_run zero k tail = refl
past_run (suc count) k tail = past_run count k tail

abbrev behind_run : List Run → Spot → List Kind
behind_run runs spot = flat_map run_slots (drop (suc spot.at) runs)

ahead_at : (runs : List Run) (spot : Spot) (rest : List Kind) (run : Run) → slice_get runs spot.at ≡ Some run →
    ahead runs spot rest ≡ drop spot.used (run_slots run ++ behind_run runs spot) ++ rest
ahead_at runs spot rest run at = ap (λ l. drop spot.used (flat_map run_slots l) ++ rest) (drop_at runs spot.at run at)

ahead_cons : (runs : List Run) (spot : Spot) (rest : List Kind) (run : Run) → slice_get runs spot.at ≡ Some run → spot.used < run.count →
    ahead runs spot rest ≡ run.kind ∷ (drop (suc spot.used) (run_slots run ++ behind_run runs spot) ++ rest)
ahead_cons runs spot rest run at inside = ahead_at runs spot rest run at ∙ ap (λ l. l ++ rest) (cons_at spot.used run.count run.kind (behind_run runs spot) inside)

used_within : (runs : List Run) (spot : Spot) (rest : List Kind) (most : ℕ) (run : Run) → slice_get runs spot.at ≡ Some run → IsAhead runs spot rest most → spot.used < run.count
used_within runs spot rest most run at is = subst (IsWithin spot.used) at is.within

-- the next slot of the same run
pub same_run : (runs : List Run) (spot : Spot) (used most : ℕ) (rest : List Kind) (run : Run) → slice_get runs spot.at ≡ Some run → used ≡ spot.used + 1 → used < run.count →
    IsAhead runs spot rest (most + 1) →
    IsAhead runs (record { at = spot.at; used = used }) rest most × (ahead runs (record { at = spot.at; used = used }) rest ≡ drop 1 (ahead runs spot rest))
same_run runs spot used most rest run at next inside is =
    let e : used ≡ suc spot.used = omega (arith, next) in (
      record { within = subst (IsWithin used) (sym at) inside; enough = by is.enough },
      ahead_at runs (record { at = spot.at; used = used }) rest run at
          ∙ ap (λ n. drop n (run_slots run ++ behind_run runs spot) ++ rest) e
          ∙ sym (ap (drop 1) (ahead_cons runs spot rest run at (used_within runs spot rest (most + 1) run at is))),
    )
  where
    by : (spot.at + (most + 1) ≤ length runs) ⊎ (rest ≡ []) → (spot.at + most ≤ length runs) ⊎ (rest ≡ [])
    by (inl h) = inl (omega (arith, h))
    by (inr h) = inr h

-- the first slot of the next run
pub next_run : (runs : List Run) (spot : Spot) (used most : ℕ) (rest : List Kind) (run : Run) → AreFull runs → slice_get runs spot.at ≡ Some run → used ≡ spot.used + 1 → run.count ≤ used →
    IsAhead runs spot rest (most + 1) →
    IsAhead runs (record { at = spot.at + 1; used = 0 }) rest most × (ahead runs (record { at = spot.at + 1; used = 0 }) rest ≡ drop 1 (ahead runs spot rest))
next_run runs spot used most rest run full at next past is =
    let inside = used_within runs spot rest (most + 1) run at is in
    let e : suc spot.used ≡ run.count = omega (arith, next, past, inside) in
    let after : spot.at + 1 ≡ suc spot.at = omega arith in (
      record { within = begins (slice_get runs (spot.at + 1)) refl; enough = by is.enough },
      ap (λ n. flat_map run_slots (drop n runs) ++ rest) after
          ∙ ap (λ l. l ++ rest) (sym (past_run run.count run.kind (behind_run runs spot)))
          ∙ ap (λ n. drop n (run_slots run ++ behind_run runs spot) ++ rest) (sym e)
          ∙ sym (ap (drop 1) (ahead_cons runs spot rest run at inside)),
    )
  where
    by : (spot.at + (most + 1) ≤ length runs) ⊎ (rest ≡ []) → (spot.at + 1 + most ≤ length runs) ⊎ (rest ≡ [])
    by (inl h) = inl (omega (arith, h))
    by (inr h) = inr h

    begins : (o : Option Run) → slice_get runs (spot.at + 1) ≡ o → IsWithin 0 o
    begins None h = tt
    begins (Some r) h =
        let within = slice_get_within runs (spot.at + 1) r h in
        let is_full = full_at runs full (spot.at + 1) r h in omega (arith, is_full)
      where
        full_at : (rs : List Run) → AreFull rs → (i : ℕ) (x : Run) → slice_get rs i ≡ Some x → 1 ≤ x.count
        full_at [] f i x h = absurd (none-some x h)
        full_at (y ∷ rs) f zero x h = subst (λ (z : Run). 1 ≤ z.count) (same_Some y x h) (f 0 y (omega arith))
        full_at (y ∷ rs) f (suc i) x h = full_at rs (λ j d inside. f (suc j) d (omega (arith, inside))) i x h

-- a constant that misses the slot at a spot
pub misses_first : (c : ShownConst) (is_last : Bool) (runs : List Run) (spot : Spot) (rest : List Kind) (run : Run) → slice_get runs spot.at ≡ Some run → IsAhead runs spot rest 1 →
    fits_kind c run.kind ≡ false → true ≡ misses c (taken is_last (ahead runs spot rest))
misses_first c is_last runs spot rest run at is miss =
    by is_last ∙ ap (λ l. misses c (taken is_last l)) (sym (ahead_cons runs spot rest run at (used_within runs spot rest 1 run at is)))
  where
    tail : List Kind
    tail = drop (suc spot.used) (run_slots run ++ behind_run runs spot) ++ rest

    by : (b : Bool) → true ≡ misses c (taken b (run.kind ∷ tail))
    by true = ap (λ b. not (b && list_all (fits_kind c) tail)) (sym miss)
    by false = ap (λ b. not (b && true)) (sym miss)

-- one that fits it, with others behind it
pub fits_first : (c : ShownConst) (runs : List Run) (spot : Spot) (rest : List Kind) (run : Run) → slice_get runs spot.at ≡ Some run → IsAhead runs spot rest 1 →
    fits_kind c run.kind ≡ true → false ≡ misses c (taken false (ahead runs spot rest))
fits_first c runs spot rest run at is fit =
    ap (λ b. not (b && true)) (sym fit) ∙ ap (λ l. misses c (taken false l)) (sym (ahead_cons runs spot rest run at (used_within runs spot rest 1 run at is)))

fits_within : (f : Kind → Bool) (used count : ℕ) (k : Kind) (tail : List Kind) → f k ≡ true → used ≤ count → list_all f (drop used (replicate count k ++ tail)) ≡ list_all f tail
fits_within f zero zero k tail h less = refl
fits_within f zero (suc count) k tail h less = ap (λ b. b && list_all f (replicate count k ++ tail)) h ∙ fits_within f zero count k tail h (omega arith)
fits_within f (suc used) zero k tail h less = absurd (omega (arith, less))
fits_within f (suc used) (suc count) k tail h less = fits_within f used count k tail h (omega (arith, less))

-- and the last constant
pub fits_last : (c : ShownConst) (runs : List Run) (spot : Spot) (behind : Kinds) (rest : List Kind) (run : Run) (in_runs in_rest : Bool) → AreFull runs → slice_get runs spot.at ≡ Some run →
    IsAhead runs spot rest 1 → fits_kind c run.kind ≡ true → in_runs ≡ list_all (λ (r : Run). fits_kind c r.kind) (drop (spot.at + 1) runs) → in_rest ≡ list_all (fits_kind c) rest →
    not (in_runs && in_rest) ≡ misses c (taken true (ahead runs spot rest))
fits_last c runs spot behind rest run in_runs in_rest full at is fit runs_so rest_so =
    let inside = used_within runs spot rest 1 run at is in
    let after : spot.at + 1 ≡ suc spot.at = omega arith in
    let f = fits_kind c in
    let slots = drop spot.used (run_slots run ++ behind_run runs spot) in
    let in_slots : list_all f slots ≡ in_runs =
    fits_within f spot.used run.count run.kind (behind_run runs spot) fit (omega (arith, inside))
    ∙ runs_fit f (drop (suc spot.at) runs) (full_behind runs (suc spot.at) full)
    ∙ ap (λ n. list_all (λ (r : Run). f r.kind) (drop n runs)) (sym after) ∙ sym runs_so in
    let all : list_all f (ahead runs spot rest) ≡ (in_runs && in_rest) =
    ap (list_all f) (ahead_at runs spot rest run at) ∙ list_all-append f slots rest ∙ (λ i. in_slots i && sym rest_so i) in
    let some : is_empty (ahead runs spot rest) ≡ false = ap is_empty (ahead_cons runs spot rest run at inside) in
    λ i. sym some i || not (sym all i)

-- no run is left
pub misses_none : (c : ShownConst) (is_last : Bool) (runs : List Run) (spot : Spot) (rest : List Kind) → slice_get runs spot.at ≡ None → length runs ≤ spot.at → IsAhead runs spot rest 1 →
    true ≡ misses c (taken is_last (ahead runs spot rest))
misses_none c is_last runs spot rest none past is = by is.enough
  where
    drop_past : {X : Type 0} (xs : List X) (i : ℕ) → length xs ≤ i → drop i xs ≡ []
    drop_past [] zero h = refl
    drop_past [] (suc i) h = refl
    drop_past (x ∷ xs) zero h = absurd (omega (arith, h))
    drop_past (x ∷ xs) (suc i) h = drop_past xs i (omega (arith, h))

    drop_nil : (n : ℕ) → drop {A = Kind} n [] ≡ []
    drop_nil zero = refl
    drop_nil (suc n) = refl

    empty : (b : Bool) → true ≡ misses c (taken b [])
    empty true = refl
    empty false = refl

    by : (spot.at + 1 ≤ length runs) ⊎ (rest ≡ []) → true ≡ misses c (taken is_last (ahead runs spot rest))
    by (inl h) = absurd (omega (arith, h, past))
    by (inr h) =
        let nothing : ahead runs spot rest ≡ [] =
        (λ i. drop spot.used (flat_map run_slots (drop_past runs spot.at past i)) ++ h i) ∙ ap (λ l. l ++ []) (drop_nil spot.used) in
        empty is_last ∙ ap (λ l. misses c (taken is_last l)) (sym nothing)

-- where the slot behind one is
pub used_next : (used count next : ℕ) → Some next ≡ cond (nat_lt (used + 1) count) (Some (used + 1)) None → (next ≡ used + 1) × (used + 1 < count)
used_next used count next h = by (nat_lt (used + 1) count) refl h
  where
    by : (b : Bool) → nat_lt (used + 1) count ≡ b → Some next ≡ cond b (Some (used + 1)) None → (next ≡ used + 1) × (used + 1 < count)
    by true less e = (same_Some next (used + 1) e, ltb-true (used + 1) count less)
    by false less e = absurd (none-some next (sym e))

pub used_none : (used count : ℕ) → None ≡ cond (nat_lt (used + 1) count) (Some (used + 1)) None → count ≤ used + 1
used_none used count h = by (nat_lt (used + 1) count) refl h
  where
    by : (b : Bool) → nat_lt (used + 1) count ≡ b → None ≡ cond b (Some (used + 1)) None → count ≤ used + 1
    by true less e = absurd (none-some (used + 1) e)
    by false less e = ⊎_elim (λ k. absurd (true≢false (sym (lt-ltb (used + 1) count k) ∙ less))) (λ k. k) (cases_lt (used + 1) count)

-- the constants that were asked, from the first on
pub record Told (runs : List Run) (rest : List Kind) (init : List Const) (before now : List RuleFault) (spot : Spot) (i left : ℕ) : Type 0 where
  pub told : now ++ missing_slots (ahead runs spot rest) (map shown_const (drop i init)) ≡
      before ++ missing_slots (ahead runs (record { at = 0; used = 0 }) rest) (map shown_const init)
  pub is : IsAhead runs spot rest left

pub told_none : (runs : List Run) (rest : List Kind) (init : List Const) (before : List RuleFault) → IsAhead runs (record { at = 0; used = 0 }) rest (length init) →
    Told runs rest init before before (record { at = 0; used = 0 }) 0 (length init)
told_none runs rest init before is = record { told = refl; is = is }

drop_const : (xs : List Const) (i : ℕ) (x : Const) → i < length xs → x ≡ get_or xs i x → drop i xs ≡ x ∷ drop (i + 1) xs
drop_const [] i x inside is = absurd (omega (arith, inside))
drop_const (y ∷ xs) zero x inside is = ap (λ z. z ∷ xs) (sym is)
drop_const (y ∷ xs) (suc i) x inside is =
    let e : suc i + 1 ≡ suc (i + 1) = omega arith in
    drop_const xs i x (omega (arith, inside)) is ∙ ap (λ n. x ∷ drop n (y ∷ xs)) (sym e)

length_dropped : (xs : List Const) (i : ℕ) → i ≤ length xs → length (drop i xs) + i ≡ length xs
length_dropped xs zero h = omega arith
length_dropped [] (suc i) h = absurd (omega (arith, h))
length_dropped (x ∷ xs) (suc i) h = let e : _ = length_dropped xs i (omega (arith, h)) in omega (arith, e)

taken_so : (cs : List Const) (left : ℕ) (slots : List Kind) → length cs ≡ left → taken (nat_eq left 0) slots ≡ slots_taken (map shown_const cs) slots
taken_so [] left slots h = ap (λ n. taken (nat_eq n 0) slots) (sym h)
taken_so (c ∷ cs) left slots h = ap (λ n. taken (nat_eq n 0) slots) (sym h) ∙ ap (λ b. taken b slots) (some (length cs))
  where
    some : (n : ℕ) → nat_eq (suc n) 0 ≡ false
    some n = grind (arith, nat_tests)

ahead_fewer : (runs : List Run) (spot : Spot) (rest : List Kind) (most fewer : ℕ) → fewer ≤ most → IsAhead runs spot rest most → IsAhead runs spot rest fewer
ahead_fewer runs spot rest most fewer h is = record { within = is.within; enough = by is.enough }
  where
    by : (spot.at + most ≤ length runs) ⊎ (rest ≡ []) → (spot.at + fewer ≤ length runs) ⊎ (rest ≡ [])
    by (inl k) = inl (omega (arith, h, k))
    by (inr k) = inr k

pub told_more : (runs : List Run) (behind : Kinds) (rest : List Kind) (init : List Const) (before now new : List RuleFault) (spot after : Spot) (i left less : ℕ) (x : Const) (missed : Bool) → less ≡ left - 1 →
    behind ≡ kinds_among rest → AreFull runs → left + i ≡ length init → i < length init → x ≡ get_or init i x → new ≡ now ++ fault_if missed x.place rule.S7 →
    ((others : List Kind) → behind ≡ kinds_among others → AreFull runs → IsAhead runs spot others 1 → missed ≡ misses (shown_const x) (taken (nat_eq less 0) (ahead runs spot others))) →
    ((others : List Kind) (most : ℕ) → AreFull runs → IsAhead runs spot others (most + 1) →
    IsAhead runs after others most × (ahead runs after others ≡ drop 1 (ahead runs spot others))) →
    Told runs rest init before now spot i left → Told runs rest init before new after (i + 1) less
told_more runs behind rest init before now new spot after i left less x missed sub kinds full all inside same faults asks goes so =
    let next : left ≡ less + 1 = omega (arith, sub, all, inside) in
    let here = drop_const init i x inside same in
    let cs = drop (i + 1) init in
    let counted : length cs ≡ less = let e : _ = length_dropped init (i + 1) (omega (arith, inside)) in omega (arith, e, all, inside, sub) in
    let slots = ahead runs spot rest in
    let is_missed = asks rest kinds full (ahead_fewer runs spot rest left 1 (omega (arith, next)) so.is) ∙ ap (misses (shown_const x)) (taken_so cs less slots counted) in
    let gone = goes rest less full (subst (IsAhead runs spot rest) next so.is) in record {
      told = (λ k. faults k ++ missing_slots (gone.1 k) (map shown_const cs))
          ∙ append_assoc now (fault_if missed x.place rule.S7) (missing_slots (drop 1 slots) (map shown_const cs))
          ∙ ap (λ b. now ++ (fault_if b x.place rule.S7 ++ missing_slots (drop 1 slots) (map shown_const cs))) is_missed
          ∙ ap (λ l. now ++ missing_slots slots (map shown_const l)) (sym here) ∙ so.told;
      is = gone.0;
    }

pub told_all : (runs : List Run) (rest : List Kind) (init : List Const) (before now : List RuleFault) (spot : Spot) (i left : ℕ) → length init ≤ i → Told runs rest init before now spot i left →
    now ≡ before ++ missing_slots (ahead runs (record { at = 0; used = 0 }) rest) (map shown_const init)
told_all runs rest init before now spot i left past so =
    sym (append-nil now) ∙ ap (λ l. now ++ missing_slots (ahead runs spot rest) (map shown_const l)) (sym (none init i past)) ∙ so.told
  where
    none : (xs : List Const) (j : ℕ) → length xs ≤ j → drop j xs ≡ []
    none [] zero h = refl
    none [] (suc j) h = refl
    none (y ∷ xs) zero h = absurd (omega (arith, h))
    none (y ∷ xs) (suc j) h = none xs j (omega (arith, h))

-- the slots of so many variables
joined-self : (a : Kinds) → joined_kinds a a ≡ a
joined-self a = λ i. record { fixed = by a.fixed i; bits = by a.bits i; chars = by a.chars i; clock = or_self a.clock i; span = or_self a.span i }
  where
    by : (o : Option ℕ) → least o o ≡ o
    by None = refl
    by (Some n) = let e : min n n ≡ n = omega arith in ap Some e

    or_self : (b : Bool) → (b || b) ≡ b
    or_self true = refl
    or_self false = refl

repeated_kinds : (n : ℕ) (slots : List Kind) → kinds_among (repeated (suc n) slots) ≡ kinds_among slots
repeated_kinds zero slots = ap kinds_among (append-nil slots)
repeated_kinds (suc n) slots =
    kinds-append slots (repeated (suc n) slots) ∙ ap (joined_kinds (kinds_among slots)) (repeated_kinds n slots) ∙ joined-self (kinds_among slots)

repeated_some : (n : ℕ) (slots : List Kind) → 1 ≤ n → kinds_among (repeated n slots) ≡ kinds_among slots
repeated_some zero slots h = absurd (omega (arith, h))
repeated_some (suc n) slots h = repeated_kinds n slots

pub record Repeats (names left : ℕ) (runs : List Run) (behind : Kinds) (slots : List Kind) (most : ℕ) : Type 0 where
  pub rest : List Kind
  pub is : repeated names slots ≡ (flat_map run_slots runs ++ rest) ++ repeated left slots
  pub kinds : behind ≡ kinds_among rest
  pub full : AreFull runs
  pub enough : (most ≤ length runs) ⊎ (rest ≡ [])

pub repeats_none : (names : ℕ) (slots : List Kind) (most : ℕ) → Repeats names names [] no_kinds slots most
repeats_none names slots most = record { rest = []; is = refl; kinds = refl; full = All-nil (λ (run : Run). 1 ≤ run.count); enough = inr refl }

pub repeats_more : (names left : ℕ) (runs : List Run) (behind : Kinds) (slots : List Kind) (most : ℕ) (one : Slots) → Repeats names left runs behind slots most → 0 < left → length runs < most →
    Lists one slots most → Repeats names (left - 1) (runs ++ one.runs.items) one.behind slots most
repeats_more names left runs behind slots most one so some few lists = record {
  rest = lists.rest;
  is = so.is ∙ (λ i. (flat_map run_slots runs ++ none so.enough i) ++ repeated (next i) slots)
      ∙ ap (λ l. l ++ repeated (suc (left - 1)) slots) (append-nil (flat_map run_slots runs))
      ∙ sym (append_assoc (flat_map run_slots runs) slots (repeated (left - 1) slots))
      ∙ ap (λ l. l ++ repeated (left - 1) slots)
      (ap (λ l. flat_map run_slots runs ++ l) lists.is
      ∙ sym (append_assoc (flat_map run_slots runs) (flat_map run_slots one.runs.items) lists.rest)
      ∙ ap (λ l. l ++ lists.rest) (sym (flat_map-append run_slots runs one.runs.items)));
  kinds = lists.behind;
  full = All-append (λ (run : Run). 1 ≤ run.count) runs one.runs.items so.full lists.full;
  enough = by lists.enough;
}
  where
    next : left ≡ suc (left - 1)
    next = omega (arith, some)

    none : (most ≤ length runs) ⊎ (so.rest ≡ []) → so.rest ≡ []
    none (inl h) = absurd (omega (arith, h, few))
    none (inr h) = h

    by : (most ≤ length one.runs.items) ⊎ (lists.rest ≡ []) → (most ≤ length (runs ++ one.runs.items)) ⊎ (lists.rest ≡ [])
    by (inl h) = inl (let e : _ = length-append runs one.runs.items in omega (arith, e, h))
    by (inr h) = inr h

pub repeats_enough : (names left : ℕ) (found : Slots) (behind whole : Kinds) (slots : List Kind) (most : ℕ) → Repeats names left found.runs.items behind slots most → 0 < left →
    most ≤ length found.runs.items → whole ≡ kinds_among slots → found.behind ≡ joined_kinds behind whole → Lists found (repeated names slots) most
repeats_enough names left found behind whole slots most so some enough kinds is = record {
  rest = so.rest ++ repeated left slots;
  is = so.is ∙ append_assoc (flat_map run_slots found.runs.items) so.rest (repeated left slots);
  behind = is ∙ (λ i. joined_kinds (so.kinds i) ((kinds ∙ sym (repeated_some left slots (omega (arith, some)))) i)) ∙ sym (kinds-append so.rest (repeated left slots));
  full = so.full;
  enough = inl enough;
}

pub repeats_all : (names left : ℕ) (found : Slots) (slots : List Kind) (most : ℕ) → Repeats names left found.runs.items found.behind slots most → left ≤ 0 → Lists found (repeated names slots) most
repeats_all names left found slots most so none = record {
  rest = so.rest;
  is = so.is ∙ ap (λ n. (flat_map run_slots found.runs.items ++ so.rest) ++ repeated n slots) zero_left ∙ append-nil (flat_map run_slots found.runs.items ++ so.rest);
  behind = so.kinds;
  full = so.full;
  enough = so.enough;
}
  where
    zero_left : left ≡ 0
    zero_left = omega (arith, none)

repeated_names : (names : List Name) (slots : List Kind) → repeated (length names) slots ≡ flat_map (λ name. slots) names
repeated_names [] slots = refl
repeated_names (name ∷ names) slots = ap (λ l. slots ++ l) (repeated_names names slots)

-- the slots of a variable of an item
some_of : (leaves own : List Leaf) → Some leaves ≡ Some own → leaves ≡ own
some_of leaves own h = same_Some leaves own h

pub item_slots : (forms : List StructForm) (form : Laid) (leaves : List Leaf) → HasLeaves forms form (Some leaves) → list_all is_sound_leaf leaves ≡ true →
    HasSlots forms form.part form.sizes.elements (slots_of leaves)
item_slots forms form leaves has sound =
    let own = some_of leaves (leaves_of [] has.bounds has.shape) has.is in record {
      shape = has.shape;
      many = elements has.bounds;
      stands = has.stands;
      counted = ap (λ s. s.elements) has.sized;
      some = elements_some has.bounds;
      few = few_in_shape [] has.bounds has.shape (ap (list_all is_sound_leaf) (sym own) ∙ sound);
      is = ap slots_of own ∙ slots_of_shape [] has.bounds has.shape;
    }

pub item_kinds : (forms : List StructForm) (form : Laid) (leaves : List Leaf) (whole : Kinds) → HasLeaves forms form (Some leaves) →
    ((shape : Shape) → StandsFor forms form.part shape → whole ≡ kinds_among (shape_slots 1 shape)) → whole ≡ kinds_among (slots_of leaves)
item_kinds forms form leaves whole has tells =
    let own = some_of leaves (leaves_of [] has.bounds has.shape) has.is in
    tells has.shape has.stands ∙ same_kinds 1 (elements has.bounds) has.shape (omega arith) (elements_some has.bounds)
    ∙ ap kinds_among (sym (ap slots_of own ∙ slots_of_shape [] has.bounds has.shape))

pub item_told : (names : List Name) (leaves : List Leaf) (init : List Const) (all : Slots) (old new : List RuleFault) → Lists all (repeated (length names) (slots_of leaves)) (length init) →
    ((rest : List Kind) → all.behind ≡ kinds_among rest → AreFull all.runs.items → IsAhead all.runs.items (record { at = 0; used = 0 }) rest (length init) →
    new ≡ old ++ missing_slots (ahead all.runs.items (record { at = 0; used = 0 }) rest) (map shown_const init)) →
    new ≡ old ++ missing_slots (slots_of_names names leaves) (map shown_const init)
item_told names leaves init all old new lists tells =
    tells lists.rest lists.behind lists.full (record { within = begins all.runs.items lists.full; enough = by lists.enough })
    ∙ ap (λ l. old ++ missing_slots l (map shown_const init)) (sym lists.is ∙ repeated_names names (slots_of leaves))
  where
    begins : (runs : List Run) → AreFull runs → IsWithin 0 (slice_get runs 0)
    begins [] full = tt
    begins (run ∷ runs) full = let one = full 0 run (omega arith) in omega (arith, one)

    by : (length init ≤ length all.runs.items) ⊎ (lists.rest ≡ []) → (0 + length init ≤ length all.runs.items) ⊎ (lists.rest ≡ [])
    by (inl h) = inl (omega (arith, h))
    by (inr h) = inr h

pub item_sound : (forms : List StructForm) (form : Laid) (leaves : List Leaf) (each : Counts) → HasLeaves forms form (Some leaves) → ((shape : Shape) → StandsFor forms form.part shape → each ≡ counts_of shape) →
    has_sound_leaves (within form.sizes.dimensions form.sizes.elements each) ≡ list_all is_sound_leaf leaves
item_sound forms form leaves each has tells =
    let own = some_of leaves (leaves_of [] has.bounds has.shape) has.is in
    (λ i. has_sound_leaves (within (has.sized i).dimensions (has.sized i).elements (tells has.shape has.stands i)))
    ∙ ap has_sound_leaves (sym (counts_of_variable has.bounds has.shape)) ∙ sound_counts (leaves_of [] has.bounds has.shape) ∙ ap (list_all is_sound_leaf) (sym own)

-- the faults of an item, where its leaves are sound, and where not
pub item_missing : (names : List Name) (init : List ShownConst) (leaves : List Leaf) (sound : Bool) → sound ≡ list_all is_sound_leaf leaves →
    missing_of names init (Some leaves) ≡ cond sound (missing_slots (slots_of_names names leaves) init) []
item_missing names init leaves true h = rw (← h) refl
item_missing names init leaves false h = rw (← h) refl

-- the leaves of a variable
pub laid_leaves : (forms : List StructForm) (laid : Option Laid) (bounds : Option (List (ℤ × ℤ))) (shape : Option Shape) → IsLaid forms laid bounds shape →
    MatchesLeaves forms laid (leaves_within bounds shape)
laid_leaves forms (Some laid) (Some bounds) (Some shape) h = record { bounds = bounds; shape = shape; stands = h.1; sized = h.0; is = refl }
laid_leaves forms None (Some bounds) (Some shape) h = absurd h
laid_leaves forms (Some laid) None shape h = absurd h
laid_leaves forms (Some laid) (Some bounds) None h = absurd h
laid_leaves forms None None shape h = refl
laid_leaves forms None (Some bounds) None h = refl
