-- What the calls see of a wheel, and where it keeps each key. A level has 64 places. A place of level 0 spans one moment, and one
-- of each higher level spans all 64 places of the level below. Place `p` of level `l` is number `l * 64 + p`, and number 448 is
-- where keys are whose moment has come.
use Rattle.std.specs.Prelude.{◌≡◌, ◌⊎◌, ℕ, ◌+◌, ◌*◌, ◌/◌, ◌%◌, ◌^◌, ◌<◌, ◌≤◌, List, length, Option, Some, None, slice_index_or}
use Rattle.pearl_timer.specs.Places.{place_of}

-- the moment that the wheel has reached, and the moment that is kept of each key
pub record Moments : Type 0 where
  pub elapsed : ℕ
  pub moments : List (Option ℕ)

abbrev pub moment_of : Moments → ℕ → Option ℕ
moment_of w key = slice_index_or w.moments key None

-- the fact holds of the moment of each key that has one
abbrev pub EachMoment : Moments → (ℕ → Type 0) → Type 0
EachMoment w P = (key when : ℕ) → moment_of w key ≡ Some when → P when

-- t is the moment of a key, and no key has an earlier one
pub record IsLeastMoment (w : Moments) (t : ℕ) : Type 0 where
  pub key : ℕ
  pub its : moment_of w key ≡ Some t
  pub least : (other when : ℕ) → moment_of w other ≡ Some when → t ≤ when

-- a key before another one has this moment
abbrev pub HasMoment : List (Option ℕ) → ℕ → ℕ → ℕ → Type 0
HasMoment moments when stop key = (key < stop) × (slice_index_or moments key None ≡ Some when)

-- the key's moment isn't behind this one
pub record IsDueBy (w : Moments) (now key : ℕ) : Type 0 where
  pub moment : ℕ
  pub its : moment_of w key ≡ Some moment
  pub due : moment ≤ now

-- WHERE A KEY IS

-- a moment, counted in places of a level
unfoldable pub tick : ℕ → ℕ → ℕ
tick level time = time / 2 ^ (level * 6)

-- the two moments lie in different places of this level, and in one place of the level above
pub record IsLevelFor (elapsed when level : ℕ) : Type 0 where
  pub window : tick level when / 64 ≡ tick level elapsed / 64
  pub ahead : tick level elapsed < tick level when

-- the place is that of a moment that lies ahead
pub record IsAheadAt (elapsed when place : ℕ) : Type 0 where
  pub within : place < 448
  pub fits : when < 2 ^ 42
  pub level : IsLevelFor elapsed when (place / 64)
  pub index : tick (place / 64) when % 64 ≡ place % 64

-- the place is where a key with this moment belongs
abbrev pub IsPlaceFor : ℕ → ℕ → ℕ → Type 0
IsPlaceFor elapsed when place = ((place ≡ 448) × (when ≤ elapsed)) ⊎ IsAheadAt elapsed when place

-- the moment at which a place begins
abbrev pub start_of : ℕ → ℕ → ℕ
start_of elapsed place = (tick (place / 64) elapsed / 64 * 64 + place % 64) * 2 ^ (place / 64 * 6)

-- a key has a moment exactly where it has a place, and the two are related
abbrev pub Agree : (ℕ → ℕ → Type 0) → Option ℕ → Option ℕ → Type 0
Agree R None None = Unit {0}
Agree R None (Some place) = ⊥
Agree R (Some when) None = ⊥
Agree R (Some when) (Some place) = R when place

-- each key's moment and its place agree
pub record IsLaidOut (R : ℕ → ℕ → ℕ → Type 0) (places moments : List (Option ℕ)) : Type 0 where
  pub room : length moments ≡ length places
  pub agree : (key : ℕ) → Agree (R key) (slice_index_or moments key None) (place_of places key)

-- each key is where it belongs
abbrev pub IsSound : ℕ → List (Option ℕ) → List (Option ℕ) → Type 0
IsSound elapsed = IsLaidOut (λ key. IsPlaceFor elapsed)

-- and each moment is below 2 ^ 42
pub record IsWheel (elapsed : ℕ) (places moments : List (Option ℕ)) : Type 0 where
  pub sound : IsSound elapsed places moments
  pub near : (key when : ℕ) → slice_index_or moments key None ≡ Some when → when < 2 ^ 42

-- the place is the open one, whose time has come, and the key is one from `from` on; or it is where the key belongs
abbrev pub IsPlaceOrOpen : ℕ → ℕ → ℕ → ℕ → ℕ → ℕ → Type 0
IsPlaceOrOpen opened from elapsed key when place =
    IsPlaceFor elapsed when place
    ⊎ ((place ≡ opened) × (from ≤ key) × (tick (opened / 64) when ≡ tick (opened / 64) elapsed))

-- each key is where it belongs, or still in the open place
abbrev pub IsSoundBut : ℕ → ℕ → ℕ → List (Option ℕ) → List (Option ℕ) → Type 0
IsSoundBut opened from elapsed = IsLaidOut (IsPlaceOrOpen opened from elapsed)

-- what is kept of each key in a place is some moment
abbrev pub EachHasMoment : List (Option ℕ) → List (Option ℕ) → ℕ → Type 0
EachHasMoment places moments place = (key : ℕ) → place_of places key ≡ Some place → (when : ℕ) × (slice_index_or moments key None ≡ Some when)

-- t is the moment of a key in the place, and none of the keys in it that come before `from` has an earlier one
pub record IsLeastIn (places moments : List (Option ℕ)) (place start t : ℕ) : Type 0 where
  pub key : ℕ
  pub here : place_of places key ≡ Some place
  pub its : slice_index_or moments key None ≡ Some t
  pub least : (other when : ℕ) → other < start → place_of places other ≡ Some place → slice_index_or moments other None ≡ Some when → t ≤ when
