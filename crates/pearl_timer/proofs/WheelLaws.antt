-- Where a moment's place is, and which moments the wheel may move to.
use Rattle.std.proofs.Common.{◌≡◌, ◌≢◌, ℕ, ◌+◌, ◌-◌, ◌*◌, ◌/◌, ◌%◌, ◌^◌, ◌<◌, ◌≤◌, min, List, length, get_or, set, Option, Some, None, bit_xor, refl, sym, ap, ◌∙◌, subst, inl, inr, ◌⊎◌, arith, pow_pos, pow_mono, le_trans, div-mul-le_self, length-set, get_or-set_same, get_or-set_other}
use Rattle.std.specs.Int.Bits.{xor_self}
use Rattle.std.proofs.lemmas.Bool.{cases_eq, cases_lt}
use Rattle.std.proofs.lemmas.Grind.{pow_more}
use Rattle.std.proofs.lemmas.Nat.{shr-shr, shl-shr, xor_shr, le-div, div_below}
use Rattle.std.proofs.lemmas.Nat.Bits.{same_from_bits, bit_at_xor, bit_at-zero, bit_at-lt}
use Rattle.std.proofs.lemmas.List.{get_or_past}
use Rattle.std.proofs.lemmas.Option.{same_Some, none-some}
use Rattle.pearl_timer.specs.Places.{place_of, IsEmpty, IsNextIn, IsFirstPlace}
use Rattle.pearl_timer.specs.Wheel.{tick, IsLevelFor, IsAheadAt, IsPlaceFor, start_of, Agree, IsLaidOut, IsSound, IsWheel, IsSoundBut, IsLeastIn}

-- LEVELS

same_from_xor : (a b : ℕ) → bit_xor a b ≡ 0 → a ≡ b
same_from_xor a b none =
    same_from_bits a b (λ i. omega (arith, sym (bit_at_xor a b i) ∙ ap (λ n. n / 2 ^ i % 2) none ∙ bit_at-zero i, bit_at-lt a i, bit_at-lt b i))

tick-le : (level a b : ℕ) → a ≤ b → tick level a ≤ tick level b
unfolding tick
tick-le level a b below = le-div _ b _ (pow_pos (level * 6)) (le_trans (div-mul-le_self a _) below)

lt_from_tick : (level a b : ℕ) → tick level a < tick level b → a < b
lt_from_tick level a b below =
    elim (cases_lt a b) [ inl before ↦ before | inr after ↦ absurd (omega (arith, tick-le level b a after)) ]

tick-start : (level count : ℕ) → tick level (count * 2 ^ (level * 6)) ≡ count
unfolding tick
tick-start level count = shl-shr count (level * 6)

start_le : (level time : ℕ) → tick level time * 2 ^ (level * 6) ≤ time
unfolding tick
start_le level time = div-mul-le_self time _

tick_below : (level time count : ℕ) → time < count * 2 ^ (level * 6) → tick level time < count
unfolding tick
tick_below level time count before = div_below time _ count (pow_pos (level * 6)) before

-- a tick of a higher level follows from the window of a lower one
tick_above : (low high time : ℕ) → low < high → tick high time ≡ tick low time / 64 / 2 ^ ((high - low - 1) * 6)
unfolding tick
tick_above low high time above =
    let sum : high * 6 ≡ low * 6 + 6 + (high - low - 1) * 6 = omega arith in
    ap (λ k. time / 2 ^ k) sum ∙ sym (shr-shr time (low * 6 + 6) _) ∙ ap (λ n. n / 2 ^ ((high - low - 1) * 6)) (sym (shr-shr time (low * 6) 6))

-- the highest bit in which two times differ tells the level
IsLevelFor-highest : (elapsed when bit : ℕ) → elapsed < when → 2 ^ bit ≤ bit_xor elapsed when → bit_xor elapsed when < 2 * 2 ^ bit → IsLevelFor elapsed when (bit / 6)
unfolding tick
IsLevelFor-highest elapsed when bit before low high =
    let shift = bit / 6 * 6 in
    let above : 2 ^ (bit + 1) ≤ 2 ^ (shift + 6) = pow_mono (omega arith) in
    let below : 2 ^ shift ≤ 2 ^ bit = pow_mono (omega arith) in
    let top : bit_xor elapsed when < 1 * 2 ^ (shift + 6) = omega (arith, pow_more 2 bit) in
    let none : bit_xor elapsed when / 2 ^ (shift + 6) ≡ 0 = omega (arith, div_below _ _ 1 (pow_pos (shift + 6)) top) in
    let same = same_from_xor (elapsed / 2 ^ (shift + 6)) (when / 2 ^ (shift + 6)) (sym (xor_shr elapsed when (shift + 6)) ∙ none) in
    let some : 1 ≤ bit_xor elapsed when / 2 ^ shift = le-div 1 _ _ (pow_pos shift) (omega arith) in
    let differ : elapsed / 2 ^ shift ≢ when / 2 ^ shift =
    λ equal. omega (arith, xor_shr elapsed when shift ∙ ap (λ n. bit_xor n (when / 2 ^ shift)) equal ∙ xor_self (when / 2 ^ shift)) in
    let order : elapsed / 2 ^ shift ≤ when / 2 ^ shift = tick-le (bit / 6) elapsed when (omega arith) in
    record {
      window = shr-shr when shift 6 ∙ sym same ∙ sym (shr-shr elapsed shift 6);
      ahead = omega arith;
    }

-- below 2 ^ 42 there are seven levels
few_levels : (elapsed when level : ℕ) → when < 2 ^ 42 → tick level elapsed < tick level when → level < 7
unfolding tick
few_levels elapsed when level fits ahead =
    elim (cases_lt level 7) [
      | inl less ↦ less
      | inr more ↦
          let up : 42 ≤ level * 6 = omega arith in
          let high : 2 ^ 42 ≤ 2 ^ (level * 6) = pow_mono up in
          let none : when / 2 ^ (level * 6) < 1 = div_below when _ 1 (pow_pos (level * 6)) (omega arith) in
          absurd (omega arith)
    ]

pub IsAheadAt-highest : (elapsed when bit : ℕ) → elapsed < when → when < 2 ^ 42 → 2 ^ bit ≤ bit_xor elapsed when → bit_xor elapsed when < 2 * 2 ^ bit → IsAheadAt elapsed when (bit / 6 * 64 + when / 2 ^ (bit / 6 * 6) % 64)
unfolding tick
IsAheadAt-highest elapsed when bit before fits low high =
    let level = IsLevelFor-highest elapsed when bit before low high in
    let few = few_levels elapsed when (bit / 6) fits level.ahead in
    let at : (bit / 6 * 64 + when / 2 ^ (bit / 6 * 6) % 64) / 64 ≡ bit / 6 = omega arith in
    record {
      within = omega arith;
      fits = fits;
      level = rw at level;
      index = rw at (omega arith);
    }

-- SLOTS

module _ {elapsed when place : ℕ} where
  start_is : IsAheadAt elapsed when place → start_of elapsed place ≡ tick (place / 64) when * 2 ^ (place / 64 * 6)
  start_is placed =
      let count : tick (place / 64) elapsed / 64 * 64 + place % 64 ≡ tick (place / 64) when = omega (arith, placed.level.window, placed.index) in
      ap (λ n. n * 2 ^ (place / 64 * 6)) count

  tick_of_start : IsAheadAt elapsed when place → tick (place / 64) (start_of elapsed place) ≡ tick (place / 64) when
  tick_of_start placed = ap (tick (place / 64)) (start_is placed) ∙ tick-start (place / 64) _

  lies_ahead : IsAheadAt elapsed when place → elapsed < when
  lies_ahead placed = lt_from_tick (place / 64) elapsed when placed.level.ahead

  start_not_late : IsAheadAt elapsed when place → start_of elapsed place ≤ when
  start_not_late placed = rw (start_is placed) (start_le (place / 64) when)

  -- the slot stays while the time has not reached it
  IsAheadAt-later : IsAheadAt elapsed when place → (later : ℕ) → elapsed ≤ later → tick (place / 64) later < tick (place / 64) when → IsAheadAt later when place
  IsAheadAt-later placed later forward short =
      record {
        within = placed.within;
        fits = placed.fits;
        level = record { window = omega (arith, placed.level.window, tick-le (place / 64) elapsed later forward); ahead = short };
        index = placed.index;
      }

module _ {elapsed first_when first when place : ℕ} where
  -- the start of a slot lies before each later slot
  start_before : IsAheadAt elapsed first_when first → IsAheadAt elapsed when place → first < place → tick (place / 64) (start_of elapsed first) < tick (place / 64) when
  start_before first_placed placed after =
      let start = tick_of_start first_placed in
      elim (cases_eq (first / 64) (place / 64)) [
        | inl same ↦
            rw (← same) (omega (arith, first_placed.level.window, first_placed.index, rw (← same) at placed.level.window, rw (← same) at placed.index))
        | inr higher ↦
            let above : first / 64 < place / 64 = omega arith in
            let kept : tick (place / 64) (start_of elapsed first) ≡ tick (place / 64) elapsed =
            tick_above (first / 64) (place / 64) (start_of elapsed first) above
            ∙ ap (λ n. n / 2 ^ ((place / 64 - first / 64 - 1) * 6)) (ap (λ n. n / 64) start ∙ first_placed.level.window)
            ∙ sym (tick_above (first / 64) (place / 64) elapsed above) in
            rw kept placed.level.ahead
      ]

  -- a time before the start of a slot lies before that slot and each later one
  before_start : IsAheadAt elapsed first_when first → IsAheadAt elapsed when place → first ≤ place → (time : ℕ) → time < start_of elapsed first → tick (place / 64) time < tick (place / 64) when
  before_start first_placed placed after time early =
      elim (cases_eq first place) [
        | inl same ↦ tick_below (place / 64) time _ (subst (λ n. time < n) (ap (start_of elapsed) same ∙ start_is placed) early)
        | inr later ↦ omega (arith, tick-le (place / 64) time (start_of elapsed first) (omega arith), start_before first_placed placed (omega arith))
      ]

-- two moments whose places differ lie in the order of the places
module _ {elapsed when other place after : ℕ} where
  pub in_order : IsAheadAt elapsed when place → IsAheadAt elapsed other after → place < after → when < other
  in_order first placed later =
      elim (cases_eq (place / 64) (after / 64)) [
        | inl same ↦
            lt_from_tick (place / 64) when other
            (omega (arith, first.level.window, first.index, rw (← same) at placed.level.window, rw (← same) at placed.index))
        | inr higher ↦
            let above : place / 64 < after / 64 = omega arith in
            let kept : tick (after / 64) when ≡ tick (after / 64) elapsed =
            tick_above (place / 64) (after / 64) when above
            ∙ ap (λ n. n / 2 ^ ((after / 64 - place / 64 - 1) * 6)) first.level.window
            ∙ sym (tick_above (place / 64) (after / 64) elapsed above) in
            lt_from_tick (after / 64) when other (rw kept placed.level.ahead)
      ]

-- a moment that lies ahead has one place
same_place : {elapsed when place other : ℕ} → IsAheadAt elapsed when place → IsAheadAt elapsed when other → place ≡ other
same_place {elapsed} {when} {place} {other} first second = elim (cases_lt place other) [
  | inl less ↦ let no : when < when = in_order first second less in absurd (omega (arith, no))
  | inr up ↦ elim (cases_lt other place) [
    | inl more ↦ let no : when < when = in_order second first more in absurd (omega (arith, no))
    | inr down ↦ omega arith
  ]
]

strictly_ahead : (elapsed when place : ℕ) → elapsed < when → IsPlaceFor elapsed when place → IsAheadAt elapsed when place
strictly_ahead elapsed when place ahead (inl due) = absurd (omega (arith, due.1, ahead))
strictly_ahead elapsed when place ahead (inr placed) = placed

pub placed_within : (places : List (Option ℕ)) (t p : ℕ) → place_of places t ≡ Some p → t < length places
placed_within places t p is = elim (cases_lt t (length places)) [
  | inl less ↦ less
  | inr past ↦ absurd (none-some p (sym (get_or_past places t None past) ∙ is))
]

-- KEYS

Agree-weaker : (R S : ℕ → ℕ → Type 0) (moment place : Option ℕ) → ((when at : ℕ) → moment ≡ Some when → place ≡ Some at → R when at → S when at) → Agree R moment place → Agree S moment place
Agree-weaker R S None None step agree = tt
Agree-weaker R S None (Some place) step agree = agree
Agree-weaker R S (Some when) None step agree = agree
Agree-weaker R S (Some when) (Some place) step agree = step when place refl refl agree

Agree-moment : (R : ℕ → ℕ → Type 0) (moment : Option ℕ) (place : ℕ) → Agree R moment (Some place) → (when : ℕ) × (moment ≡ Some when) × R when place
Agree-moment R None place agree = absurd agree
Agree-moment R (Some when) place agree = (when, refl, agree)

Agree-place : (R : ℕ → ℕ → Type 0) (when : ℕ) (place : Option ℕ) → Agree R (Some when) place → (at : ℕ) × (place ≡ Some at) × R when at
Agree-place R when None agree = absurd agree
Agree-place R when (Some at) agree = (at, refl, agree)

module _ {R : ℕ → ℕ → ℕ → Type 0} {places moments : List (Option ℕ)} where
  -- a key in a place has a moment
  pub moment_of_placed : IsLaidOut R places moments → (key place : ℕ) → place_of places key ≡ Some place → (when : ℕ) × (get_or moments key None ≡ Some when) × R key when place
  moment_of_placed laid_out key place placed = Agree-moment (R key) _ place (subst (Agree (R key) (get_or moments key None)) placed (laid_out.agree key))

  -- a key with a moment is in a place
  pub place_of_kept : IsLaidOut R places moments → (key when : ℕ) → get_or moments key None ≡ Some when → (place : ℕ) × (place_of places key ≡ Some place) × R key when place
  place_of_kept laid_out key when kept = Agree-place (R key) when _ (subst (λ o. Agree (R key) o (place_of places key)) kept (laid_out.agree key))

  IsLaidOut-weaker : IsLaidOut R places moments → (S : ℕ → ℕ → ℕ → Type 0) → ((key when place : ℕ) → get_or moments key None ≡ Some when → place_of places key ≡ Some place → R key when place → S key when place) → IsLaidOut S places moments
  IsLaidOut-weaker laid_out S step = record { room = laid_out.room; agree = λ key. Agree-weaker (R key) (S key) _ _ (step key) (laid_out.agree key) }

  -- one key gets another moment and another place
  pub IsLaidOut-set : IsLaidOut R places moments → (key : ℕ) (moment place : Option ℕ) → key < length moments → Agree (R key) moment place → IsLaidOut R (set places key place) (set moments key moment)
  IsLaidOut-set laid_out key moment place within agree =
      let there : key < length places = omega (arith, laid_out.room, within) in
      record {
        room = length-set moments key moment ∙ laid_out.room ∙ sym (length-set places key place);
        agree = λ other.
            elim (cases_eq other key) [
              | inl same ↦ rw (same, get_or-set_same moments key moment None within, get_or-set_same places key place None there) agree
              | inr differs ↦ rw (get_or-set_other moments key other moment None differs, get_or-set_other places key other place None differs) (laid_out.agree other)
            ];
      }

-- THE NEXT MOMENT

module _ (elapsed : ℕ) (places moments : List (Option ℕ)) (sound : IsSound elapsed places moments) where
  pub none_due : IsEmpty places 448 → (key when : ℕ) → get_or moments key None ≡ Some when → elapsed < when
  none_due empty key when kept =
      let found = place_of_kept sound key when kept in
      elim found.2 [ inl due ↦ absurd (empty key (found.1 ∙ ap Some due.0)) | inr placed ↦ lies_ahead placed ]

  pub past_is_due : (key : ℕ) → place_of places key ≡ Some 448 → (when : ℕ) × (get_or moments key None ≡ Some when) × (when ≤ elapsed)
  past_is_due key placed =
      let found = moment_of_placed sound key 448 placed in
      (found.0, found.1, elim found.2 [ inl due ↦ due.1 | inr ahead ↦ absurd (omega (arith, ahead.within)) ])

  -- all keys with a moment that lies ahead are in one place
  pub placed_there : (when place : ℕ) → elapsed < when → IsPlaceFor elapsed when place → (key : ℕ) → get_or moments key None ≡ Some when → place_of places key ≡ Some place
  placed_there when place ahead is key kept =
      let found = place_of_kept sound key when kept in
      found.1 ∙ ap Some (same_place (strictly_ahead elapsed when found.0 ahead found.2) (strictly_ahead elapsed when place ahead is))

  -- with no key in a place of a level, each key's moment has come
  pub all_due : ((place : ℕ) → place < 448 → IsEmpty places place) → (key when : ℕ) → get_or moments key None ≡ Some when → when ≤ elapsed
  all_due empty key when kept =
      let found = place_of_kept sound key when kept in
      elim found.2 [ inl due ↦ due.1 | inr placed ↦ absurd (empty found.0 placed.within key found.1) ]

  pub IsSound-idle : ((place : ℕ) → place < 448 → IsEmpty places place) → (later : ℕ) → elapsed ≤ later → IsSound later places moments
  IsSound-idle empty later forward =
      IsLaidOut-weaker sound _ (λ key when place kept placed is.
      elim is [ inl due ↦ inl (due.0, le_trans due.1 forward) | inr ahead ↦ absurd (empty place ahead.within key placed) ])

  module _ (first : ℕ) (is : IsFirstPlace places first) where
    waiting : (when : ℕ) × (get_or moments is.has.0 None ≡ Some when) × IsAheadAt elapsed when first
    waiting =
        let found = moment_of_placed sound is.has.0 first is.has.1 in
        (found.0, found.1, elim found.2 [ inl due ↦ absurd (omega (arith, due.0, is.within)) | inr placed ↦ placed ])

    pub start_fits : start_of elapsed first < 2 ^ 42
    start_fits = omega (arith, start_not_late waiting.2, waiting.2.fits)

    pub start_ahead : elapsed < start_of elapsed first
    start_ahead = lt_from_tick (first / 64) elapsed _ (rw (tick_of_start waiting.2) waiting.2.level.ahead)

    not_before : (key place : ℕ) → place_of places key ≡ Some place → first ≤ place
    not_before key place placed =
        elim (cases_lt place first) [ inl before ↦ absurd (is.first place before key placed) | inr after ↦ after ]

    -- a moment before the first place begins passes none
    pub none_passed : (time : ℕ) → time < start_of elapsed first → (key when : ℕ) → get_or moments key None ≡ Some when → elapsed < when → time < when
    none_passed time early key when kept ahead =
        let found = place_of_kept sound key when kept in
        elim found.2 [
          | inl due ↦ absurd (omega (arith, due.1))
          | inr placed ↦ lt_from_tick (found.0 / 64) time when (before_start waiting.2 placed (not_before key found.0 found.1) time early)
        ]

    pub IsSound-before_start : (later : ℕ) → elapsed ≤ later → later < start_of elapsed first → IsSound later places moments
    IsSound-before_start later forward early =
        IsLaidOut-weaker sound _ (λ key when place kept placed is.
        elim is [
          | inl due ↦ inl (due.0, le_trans due.1 forward)
          | inr ahead ↦ inr (IsAheadAt-later ahead later forward (before_start waiting.2 ahead (not_before key place placed) later early))
        ])

    pub IsSoundBut-start : IsSoundBut first 0 (start_of elapsed first) places moments
    IsSoundBut-start =
        let forward : elapsed ≤ start_of elapsed first = omega (arith, start_ahead) in
        IsLaidOut-weaker sound _ (λ key when place kept placed is.
        elim is [
          | inl due ↦ inl (inl (due.0, le_trans due.1 forward))
          | inr ahead ↦
              elim (cases_eq place first) [
                | inl same ↦ inr (same, omega arith, sym (tick_of_start (subst (IsAheadAt elapsed when) same ahead)))
                | inr other ↦ inl (inr (IsAheadAt-later ahead _ forward (start_before waiting.2 ahead (omega (arith, not_before key place placed, other)))))
              ]
        ])

    -- the least moment in the first place is the least of all
    pub least_is : ((key when : ℕ) → get_or moments key None ≡ Some when → elapsed < when) → (t key : ℕ) → place_of places key ≡ Some first → get_or moments key None ≡ Some t →
        ((other when : ℕ) → place_of places other ≡ Some first → get_or moments other None ≡ Some when → t ≤ when) → (other when : ℕ) → get_or moments other None ≡ Some when → t ≤ when
    least_is ahead t key here its least other when kept =
        let found = place_of_kept sound other when kept in
        let placed : IsAheadAt elapsed when found.0 = elim found.2 [ inl due ↦ absurd (omega (arith, due.1, ahead other when kept)) | inr placed ↦ placed ] in
        let mine = place_of_kept sound key t its in
        let at : IsAheadAt elapsed t mine.0 = elim mine.2 [ inl due ↦ absurd (omega (arith, due.1, ahead key t its)) | inr placed ↦ placed ] in
        let same : mine.0 ≡ first = same_Some mine.0 first (sym mine.1 ∙ here) in
        elim (cases_eq found.0 first) [
          | inl is_first ↦ least other when (found.1 ∙ ap Some is_first) kept
          | inr differs ↦
              let less = in_order (subst (IsAheadAt elapsed t) same at) placed (omega (arith, not_before other found.0 found.1, differs)) in
              omega (arith, less)
        ]

-- one more key of a place
module _ (places moments : List (Option ℕ)) (place from key : ℕ) (next : IsNextIn places place from key) where
  none_between : (other : ℕ) → other < key + 1 → place_of places other ≡ Some place → (other < from) ⊎ (other ≡ key)
  none_between other before here =
      elim (cases_lt other from) [
        | inl old ↦ inl old
        | inr later ↦ elim (cases_lt other key) [ inl between ↦ absurd (next.first other later between here) | inr up ↦ inr (omega arith) ]
      ]

  pub least_more : (least when t : ℕ) → IsLeastIn places moments place from least → get_or moments key None ≡ Some when → t ≡ min least when → IsLeastIn places moments place (key + 1) t
  least_more least when t is its same = elim (cases_lt when least) [
    | inl less ↦ record {
      key = key;
      here = next.here;
      its = its ∙ ap Some (omega arith);
      least = λ other w before here kept. bound other w before here kept (none_between other before here);
    }
    | inr up ↦ record {
      key = is.key;
      here = is.here;
      its = is.its ∙ ap Some (omega arith);
      least = λ other w before here kept. bound other w before here kept (none_between other before here);
    }
  ]
    where
      bound : (other w : ℕ) → other < key + 1 → place_of places other ≡ Some place → get_or moments other None ≡ Some w → (other < from) ⊎ (other ≡ key) → t ≤ w
      bound other w before here kept (inl old) = let least = is.least other w old here kept in omega arith
      bound other w before here kept (inr this) = let e = same_Some when w (sym its ∙ (ap (λ k. get_or moments k None) (sym this) ∙ kept)) in omega arith

-- a key's moment is taken away
pub wheel_without : (elapsed : ℕ) (places moments : List (Option ℕ)) → IsWheel elapsed places moments → (key : ℕ) → key < length moments → IsWheel elapsed (set places key None) (set moments key None)
wheel_without elapsed places moments is key there = record {
  sound = IsLaidOut-set is.sound key None None there tt;
  near = λ other when kept. elim (cases_eq other key) [
    | inl same ↦ absurd (none-some when (sym (get_or-set_same moments key None None there) ∙ (ap (λ k. get_or (set moments key None) k None) (sym same) ∙ kept)))
    | inr differs ↦ is.near other when (sym (get_or-set_other moments key other None None differs) ∙ kept)
  ];
}

pub moment_within : (moments : List (Option ℕ)) (key when : ℕ) → get_or moments key None ≡ Some when → key < length moments
moment_within = placed_within
