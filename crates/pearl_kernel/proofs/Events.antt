-- What was told and not taken yet.
use Rattle.std.proofs.Common.{◌≡◌, ℕ, suc, ◌<◌, List, [], ◌∷◌, ◌++◌, Option, Some, None, length, map, drop, slice_get}
use Rattle.std.proofs.Common.{refl, sym, ap, ◌∙◌, arith}
use Rattle.std.specs.Prelude.{MatchOption}
use Rattle.std.proofs.lemmas.List.{length-append}
use Rattle.std.proofs.lemmas.Option.{none-some, same_Some}
use Rattle.circular_buffer.specs.Buffer.{keep_last}
use Rattle.pearl_rules.specs.declared.event.Event.{Event}
use Rattle.pearl_rules.specs.Core.{Report, Happened}
use Rattle.pearl_kernel.specs.Kept.{stamped}

stamped-length : (moment : ℕ) (events : List Event) → length (stamped moment events) ≡ length events
stamped-length moment [] = refl
stamped-length moment (event ∷ events) = ap suc (stamped-length moment events)

pub stamped-append : (moment : ℕ) (events : List Event) (event : Event) →
    stamped moment (events ++ event ∷ []) ≡ stamped moment events ++ (moment, Happened event) ∷ []
stamped-append moment [] event = refl
stamped-append moment (first ∷ events) event = ap (λ told. (moment, Happened first) ∷ told)
    (stamped-append moment events event)

-- one more event, where there is room
pub noted : (moment : ℕ) (events : List Event) (event : Event) (room : ℕ) → length (stamped moment events) < room →
    stamped moment (keep_last room (events ++ event ∷ [])) ≡ stamped moment events ++ (moment, Happened event) ∷ []
noted moment events event room less =
    let short = stamped-length moment events in
    let all : keep_last room (events ++ event ∷ []) ≡ events ++ event ∷ [] = grind
    (arith, length-append events (event ∷ [])) in
    ap (stamped moment) all ∙ stamped-append moment events event

-- where nothing is told, nothing is at another moment
pub stamped-none : (moment other : ℕ) (events : List Event) → stamped moment events ≡ [] → stamped other events ≡ []
stamped-none moment other [] none = refl
stamped-none moment other (event ∷ events) none = absurd cc

-- the event at the first place
pub first-none : {X Y : Type 0} (f : X → Y) (xs : List X) → None ≡ slice_get xs 0 → map f xs ≡ []
first-none f [] e = refl
first-none f (x ∷ xs) e = absurd (none-some x e)

pub first-some : {X Y : Type 0} (f : X → Y) (xs : List X) (x : X) → Some x ≡ slice_get xs 0 →
    (later : List Y) × (map f xs ≡ f x ∷ later)
first-some f [] x e = absurd (none-some x (sym e))
first-some f (y ∷ xs) x e = (map f xs, ap (λ z. f z ∷ map f xs) (same_Some y x (sym e)))

-- the event that is told next
pub told-next : {R : Type 0} (now : R → Event) (moment : ℕ) (events : List Event) (found : Option R) →
    MatchOption found (events ≡ []) (λ r. (later : List Event) × (events ≡ now r ∷ later)) →
    MatchOption found (stamped moment events ≡ [])
    (λ r. (later : List (ℕ × Report)) × (stamped moment events ≡ (moment, Happened (now r)) ∷ later))
told-next now moment events None none = ap (stamped moment) none
told-next now moment events (Some r) next = (stamped moment next.0, ap (stamped moment) next.1)

-- without it
pub told-drop : (moment : ℕ) (events : List Event) → stamped moment (drop 1 events) ≡ drop 1 (stamped moment events)
told-drop moment [] = refl
told-drop moment (event ∷ events) = refl
