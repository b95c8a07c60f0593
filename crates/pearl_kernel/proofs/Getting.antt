-- How far GETs have come after something changed.
use Rattle.std.proofs.Common.{◌≡◌, ℕ, ◌<◌, ◌≤◌, List, [], ◌++◌, Bool, true, false, Option, Some, None}
use Rattle.std.proofs.Common.{length, slice_get, slice_set, replicate, set, refl, sym, ap, subst, ◌∙◌, arith, inl, inr, if◌then◌else◌, length-set, get_or-set_same, get_or-set_other}
use Rattle.std.proofs.lemmas.Bool.{cases_lt, false≢true}
use Rattle.std.proofs.lemmas.Option.{slice_get_within, none-some}
use Rattle.std.proofs.lemmas.List.{append-nil, length-replicate}
use Rattle.pearl_sema.specs.Waiting.{IsBehind}
use Rattle.std.specs.Prelude.{IfSome}
use Rattle.arrayvec.specs.ArrayVec.{ArrayVec}
use Rattle.pearl_value.specs.declared.cell.Cell.{Cell}
use Rattle.pearl_value.specs.declared.kind.Kind.{Kind}
use Rattle.pearl_format.specs.declared.item.Item.{Item}
use Rattle.pearl_rules.specs.declared.action.Action.{Action}
use Rattle.pearl_rules.specs.declared.action.Action.TheVariants.{Get}
use Rattle.pearl_rules.specs.Core.{Core, Channel, Switch, Bytes, Values, Outward}
use Rattle.pearl_rules.specs.Devices.{bytes_in, bytes_at, with_channel}
use Rattle.pearl_rules.specs.Pick.{guard}
use Rattle.pearl_rules.specs.Runs.{kept_at}
use Rattle.pearl_rules.specs.Tables.{items_or_none}
use Rattle.pearl_scan.specs.declared.progress.Progress.{Progress}
use Rattle.pearl_scan.specs.declared.progress.Progress.TheVariants.{Complete}
use Rattle.pearl_scan.specs.Progress.{CanGoOn, is_whole}
use Rattle.pearl_scan.proofs.Offered.{going_on}
use Rattle.pearl_kernel.specs.Channels.{HasBytes, HasSwitch, taken_in, without_oldest}
use Rattle.pearl_kernel.specs.Kept.{Kept}
use Rattle.pearl_kernel.specs.Gets.{IsAskedGet, IsAskedOf, IsAsked, AreAsked, IsKept, Comes, progress_at}
use Rattle.pearl_kernel.specs.Listening.{awaited, device_of, IsNextListener, Listens, NoneListens}
use Rattle.pearl_kernel.specs.Names.{Names, HasKinds}
use Rattle.pearl_kernel.proofs.Places.{by_task, kept-other, get-same, get-other}
use Rattle.pearl_kernel.proofs.Changing.{switch_same}
use Rattle.pearl_kernel.proofs.Waiting.{set_same}
use Rattle.pearl_kernel.proofs.Entries.{none_past}
use Rattle.pearl_kernel.proofs.Unsettling.{none_offered}

-- ONE OFFER

-- the same waits at its terminal
same_bytes : (items : List Item) (kinds : List Kind) (bytes others : List ℕ) (p : Progress) → others ≡ bytes → IsAskedGet items kinds bytes p →
    IsAskedGet items kinds others p
same_bytes items kinds bytes others p e asked = subst (λ bs. IsAskedGet items kinds bs p) (sym e) asked

-- the same waits at each device
still_asked : (formats : List (List Item)) (old channels : List Channel) (offer : Option Action) (p : Progress) →
    ((d : ℕ) → bytes_in (slice_get channels d) ≡ bytes_in (slice_get old d)) → IsAsked formats old offer p → IsAsked formats channels offer p
still_asked formats old channels None p same asked = tt
still_asked formats old channels (Some action) p same asked = by action asked
  where
    by : (action : Action) → IsAskedOf formats old action p → IsAskedOf formats channels action p
    by (Get device format kinds) asked =
        same_bytes (items_or_none (slice_get formats format)) kinds.items (bytes_in (slice_get old device)) (bytes_in (slice_get channels device)) p
        (same device) asked
    by action asked = tt

-- more bytes came in behind those that it went over
pub goes-on : (items : List Item) (kinds : List Kind) (bytes others : List ℕ) (p : Progress) → (text : List ℕ) × (others ≡ bytes ++ text) →
    IsAskedGet items kinds bytes p → CanGoOn items kinds others p
goes-on items kinds bytes others p comes asked =
    subst (λ bs. CanGoOn items kinds bs p) (sym comes.1) (going_on items kinds bytes comes.0 p asked.progress.goes_on)

pub asked-of-get : (formats : List (List Item)) (old : List Channel) (device format : ℕ) (kinds : ArrayVec Kind) (action : Action) (offer : Option Action) (p : Progress) →
    offer ≡ Some action → action ≡ Get device format kinds → IsAsked formats old offer p →
    IsAskedGet (items_or_none (slice_get formats format)) kinds.items (bytes_in (slice_get old device)) p
asked-of-get formats old device format kinds action offer p is get asked = subst (λ o. IsAsked formats old o p) (is ∙ ap Some get) asked

-- ALL OF THEM

pub asked-opening : (offers : List (Option Action)) (formats : List (List Item)) (channels : List Channel) (progress : List Progress) (n : ℕ) →
    offers ≡ replicate n None → length progress ≡ n → AreAsked offers formats channels progress
asked-opening offers formats channels progress n none size = record {
  size = size ∙ sym (ap length none ∙ length-replicate {A = Option Action} n None);
  each = λ t. subst (λ o. IsAsked formats channels o (progress_at progress t)) (sym (ap (λ xs. kept_at xs t) none ∙ none_offered n t)) tt;
}

-- the same bytes wait
pub asked-still : (offers : List (Option Action)) (formats : List (List Item)) (old channels : List Channel) (progress : List Progress) →
    ((d : ℕ) → bytes_in (slice_get channels d) ≡ bytes_in (slice_get old d)) → AreAsked offers formats old progress → AreAsked offers formats channels progress
asked-still offers formats old channels progress same are = record {
  size = are.size;
  each = λ t. still_asked formats old channels (kept_at offers t) (progress_at progress t) same (are.each t);
}

-- a task's offer is gone
pub asked-gone : (offers : List (Option Action)) (formats : List (List Item)) (channels : List Channel) (progress : List Progress) (task : ℕ) (offer : Option Action) →
    offer ≡ None → task < length offers → AreAsked offers formats channels progress → AreAsked (slice_set offers task offer) formats channels progress
asked-gone offers formats channels progress task offer gone there are = record {
  size = are.size ∙ sym (length-set offers task offer);
  each = λ t. by_task t task (IsAsked formats channels (kept_at (slice_set offers task offer) t) (progress_at progress t))
      (λ e. subst (λ o. IsAsked formats channels o (progress_at progress t)) (sym (ap (kept_at (slice_set offers task offer)) e ∙ here ∙ gone)) tt)
      (λ other. subst (λ o. IsAsked formats channels o (progress_at progress t)) (sym (kept-other offers task t offer other)) (are.each t));
}
  where
    here : kept_at (slice_set offers task offer) task ≡ offer
    here = ap flat (get-same offers task offer there)
      where
        flat : Option (Option Action) → Option Action
        flat None = None
        flat (Some o) = o

-- a task offers an action
pub asked-offer : (offers : List (Option Action)) (formats : List (List Item)) (channels : List Channel) (old new : List Progress) (task : ℕ) (action : Action) (offer : Option Action) →
    offer ≡ Some action → task < length offers → IsKept formats channels task action old new → AreAsked offers formats channels old →
    AreAsked (slice_set offers task offer) formats channels new
asked-offer offers formats channels old new task action offer is there kept are = record {
  size = kept.size ∙ are.size ∙ sym (length-set offers task offer);
  each = λ t. by_task t task (IsAsked formats channels (kept_at (slice_set offers task offer) t) (progress_at new t))
      (λ e. subst (λ u. IsAsked formats channels (kept_at (slice_set offers task offer) u) (progress_at new u)) (sym e)
      (subst (λ o. IsAsked formats channels o (progress_at new task)) (sym (here ∙ is)) kept.this))
      (λ other. subst (λ o. IsAsked formats channels o (progress_at new t)) (sym (kept-other offers task t offer other))
      (subst (IsAsked formats channels (kept_at offers t)) (sym (kept.others t other)) (are.each t)));
}
  where
    here : kept_at (slice_set offers task offer) task ≡ offer
    here = ap flat (get-same offers task offer there)
      where
        flat : Option (Option Action) → Option Action
        flat None = None
        flat (Some o) = o

-- THOSE THAT WAIT AT A DEVICE

-- what comes in at a device where the offer doesn't wait
elsewhere : (formats : List (List Item)) (old channels : List Channel) (device : ℕ) (anew : Bool) (offer : Option Action)
    (p : Progress) → Comes anew device old channels → (awaited offer ≡ Some device → ⊥) →
    IsAsked formats old offer p → IsAsked formats channels offer p
elsewhere formats old channels device anew None p comes away asked = tt
elsewhere formats old channels device anew (Some action) p comes away asked = by action away asked
  where
    by : (action : Action) → (device_of action ≡ Some device → ⊥) → IsAskedOf formats old action p →
        IsAskedOf formats channels action p
    by (Get d format kinds) away asked =
        same_bytes (items_or_none (slice_get formats format)) kinds.items (bytes_in (slice_get old d))
        (bytes_in (slice_get channels d)) p (comes.others d (λ e. away (ap (λ x. Some x) e))) asked
    by action away asked = tt

-- the tasks up to one, and all that don't wait at the device, are asked as things stand now, and of those behind it it is kept
-- what was before
pub record IsAskedUpTo (offers : List (Option Action)) (formats : List (List Item)) (channels : List Channel) (device : ℕ)
    (old progress : List Progress) (after : Option ℕ) : Type 0 where
  pub size : length progress ≡ length old
  pub done : (t : ℕ) → (IsBehind after t → Listens offers device t → ⊥) →
      IsAsked formats channels (kept_at offers t) (progress_at progress t)
  pub rest : (t : ℕ) → IsBehind after t → progress_at progress t ≡ progress_at old t

pub none-asked : (offers : List (Option Action)) (formats : List (List Item)) (old channels : List Channel) (device : ℕ)
    (anew : Bool) (progress : List Progress) → Comes anew device old channels → AreAsked offers formats old progress →
    IsAskedUpTo offers formats channels device progress progress None
none-asked offers formats old channels device anew progress comes are = record {
  size = refl;
  done = λ t away. elsewhere formats old channels device anew (kept_at offers t) (progress_at progress t) comes (away tt)
      (are.each t);
  rest = λ t behind. refl;
}

behind_more : (after : Option ℕ) (n t : ℕ) → IsBehind after n → n < t → IsBehind after t
behind_more None n t behind less = tt
behind_more (Some u) n t behind less = omega (arith, behind, less)

pub asked-next : (offers : List (Option Action)) (formats : List (List Item)) (channels : List Channel) (device : ℕ)
    (old progress : List Progress) (after : Option ℕ) (n : ℕ) (p : Progress) → n < length progress →
    IsNextListener offers device after n → IsAskedUpTo offers formats channels device old progress after →
    IsAsked formats channels (kept_at offers n) p →
    IsAskedUpTo offers formats channels device old (set progress n p) (Some n)
asked-next offers formats channels device old progress after n p there next to asked = record {
  size = length-set progress n p ∙ to.size;
  done = λ t away. by_task t n (IsAsked formats channels (kept_at offers t) (progress_at (set progress n p) t))
      (λ e. subst (λ u. IsAsked formats channels (kept_at offers u) (progress_at (set progress n p) u)) (sym e)
      (subst (IsAsked formats channels (kept_at offers n)) (sym (get_or-set_same progress n p Complete there)) asked))
      (λ other. subst (IsAsked formats channels (kept_at offers t)) (sym (get_or-set_other progress n t p Complete other))
      (to.done t (λ behind listens.
      let up = next.first t behind listens in away (omega (arith, up, other)) listens)));
  rest = λ t past. get_or-set_other progress n t p Complete (λ e. absurd (omega (arith, past, e)))
      ∙ to.rest t (behind_more after n t next.behind past);
}

pub asked-all : (offers : List (Option Action)) (formats : List (List Item)) (channels : List Channel) (device : ℕ)
    (old progress : List Progress) (after : Option ℕ) → length old ≡ length offers → NoneListens offers device after →
    IsAskedUpTo offers formats channels device old progress after → AreAsked offers formats channels progress
asked-all offers formats channels device old progress after same none to = record {
  size = to.size ∙ same;
  each = λ t. to.done t (none t);
}

-- each of those up to a task is before the next one
pub known-before : (known after : Option ℕ) (t : ℕ) → IfSome known (λ u. (n : ℕ) → IsBehind after n → u < n) →
    IsBehind after t → IfSome known (λ u. u < t)
known-before None after t before behind = tt
known-before (Some u) after t before behind = before t behind

pub known-next : (known : Option ℕ) (task : ℕ) → IfSome known (λ u. u ≤ task) →
    IfSome known (λ u. (n : ℕ) → IsBehind (Some task) n → u < n)
known-next None task upto = tt
known-next (Some u) task upto = λ n behind. omega (arith, upto, behind)

pub offered-there : (offers : List (Option Action)) (t : ℕ) (action : Action) → kept_at offers t ≡ Some action → t < length offers
offered-there offers t action offered = elim (cases_lt t (length offers)) [
  | inl within ↦ within
  | inr past ↦ absurd (none-some action (sym (none_past offers t past) ∙ offered))
]

-- WHAT A TASK OFFERS CAN BE DONE

pub get-tells : (core : Core) (offers : List (Option Action)) (progress : List Progress) (t device format : ℕ) (action : Action) (kinds : ArrayVec Kind) →
    AreAsked offers core.formats core.channels progress → kept_at offers t ≡ Some action → action ≡ Get device format kinds →
    is_whole (progress_at progress t) ≡ guard core action
get-tells core offers progress t device format action kinds are offered is =
    let here : IsAsked core.formats core.channels (Some (Get device format kinds)) (progress_at progress t) =
    subst (λ o. IsAsked core.formats core.channels o (progress_at progress t)) (offered ∙ ap Some is) (are.each t) in
    sym (ap (guard core) is ∙ here.progress.tells)

-- CHANNELS

-- a device stands otherwise, and the same bytes wait there
pub channel-same : (channels : List Channel) (u : ℕ) (channel old : Channel) → slice_get channels u ≡ Some old → bytes_in (Some channel) ≡ bytes_in (Some old) → (d : ℕ) →
    bytes_in (slice_get (slice_set channels u channel) d) ≡ bytes_in (slice_get channels d)
channel-same channels u channel old at same d = by_task d u _
    (λ e. ap (λ i. bytes_in (slice_get (slice_set channels u channel) i)) e ∙ ap bytes_in (get-same channels u channel (there channels u at)) ∙ same
    ∙ sym (ap bytes_in at) ∙ ap (λ i. bytes_in (slice_get channels i)) (sym e))
    (λ other. ap bytes_in (get-other channels u d channel other))
  where
    there : (channels : List Channel) (u : ℕ) → slice_get channels u ≡ Some old → u < length channels
    there channels u at = slice_get_within channels u old at

pub taken-same : (channel : Channel) (x : Cell) → bytes_in (Some (taken_in channel x)) ≡ bytes_in (Some channel)
taken-same (Switch enabled) x = refl
taken-same (Bytes pending) x = refl
taken-same (Values kind pending) x = refl
taken-same Outward x = refl

pub oldest-same : (channel : Channel) → bytes_in (Some (without_oldest channel)) ≡ bytes_in (Some channel)
oldest-same (Switch enabled) = refl
oldest-same (Bytes pending) = refl
oldest-same (Values kind pending) = refl
oldest-same Outward = refl

pub took-same : (x : Cell) (room : Bool) (old new : Channel) → new ≡ (if room then taken_in old x else old) → bytes_in (Some new) ≡ bytes_in (Some old)
took-same x true old new is = ap (λ channel. bytes_in (Some channel)) is ∙ taken-same old x
took-same x false old new is = ap (λ channel. bytes_in (Some channel)) is

pub switch-same : (channels : List Channel) (u : ℕ) (channel : Channel) (enabled : Bool) → channel ≡ Switch enabled → HasSwitch (slice_get channels u) → (d : ℕ) →
    bytes_in (slice_get (slice_set channels u channel) d) ≡ bytes_in (slice_get channels d)
switch-same channels u channel enabled is has d =
    ap (λ c. bytes_in (slice_get (slice_set channels u c) d)) is ∙ switch_same bytes_in (λ a b. refl) channels u d enabled has

-- bytes come in at a terminal, or none
pub comes-in : (channels new : List Channel) (u : ℕ) (text : List ℕ) (room : Bool) → u < length channels →
    new ≡ (if room then slice_set channels u (Bytes (bytes_in (slice_get channels u) ++ text)) else channels) → Comes false u channels new
comes-in channels new u text true there is = subst (Comes false u channels) (sym is) (record {
  here = λ e. (text, ap bytes_in (get-same channels u (Bytes (bytes_in (slice_get channels u) ++ text)) there));
  others = λ d other. ap bytes_in (get-other channels u d (Bytes (bytes_in (slice_get channels u) ++ text)) other);
})
comes-in channels new u text false there is = subst (Comes false u channels) (sym is) (record {
  here = λ e. ([], sym (append-nil (bytes_in (slice_get channels u))));
  others = λ d other. refl;
})

pub comes-anew : (channels : List Channel) (u : ℕ) (channel : Channel) → Comes true u channels (slice_set channels u channel)
comes-anew channels u channel = record {
  here = λ e. absurd (false≢true (sym e));
  others = λ d other. ap bytes_in (get-other channels u d channel other);
}

-- a GET that names what is there has kinds that there are
pub names-kinds : (core : Core) (action : Action) → Names core action → HasKinds action
names-kinds core (Get device format kinds) names = (names.1, names.2)
names-kinds core action names = tt

-- a core with these channels
pub added-at : (k : Kept) (device : ℕ) (text : List ℕ) (room : Bool) (new : List Channel) →
    new ≡ (if room then slice_set k.core.channels device (Bytes (bytes_at k.core device ++ text)) else k.core.channels) →
    record k { core = record k.core { channels = new } } ≡ (if room then record k { core = with_channel k.core device (Bytes (bytes_at k.core device ++ text)) } else k)
added-at k device text true new is = ap (λ channels. record k { core = record k.core { channels = channels } }) is
added-at k device text false new is = ap (λ channels. record k { core = record k.core { channels = channels } }) is

pub added-length : (channels new : List Channel) (u : ℕ) (channel : Channel) (room : Bool) →
    new ≡ (if room then slice_set channels u channel else channels) → length new ≡ length channels
added-length channels new u channel true is = ap length is ∙ length-set channels u channel
added-length channels new u channel false is = ap length is

-- TERMINALS

pub terminal-there : (channels : List Channel) (u : ℕ) → HasBytes (slice_get channels u) → u < length channels
terminal-there channels u has = by (slice_get channels u) refl has
  where
    by : (channel : Option Channel) → slice_get channels u ≡ channel → HasBytes channel → u < length channels
    by None e has = absurd has
    by (Some channel) e has = slice_get_within channels u channel e

pub added-here : (channels : List Channel) (u : ℕ) (text : List ℕ) (old new : Channel) (room : Bool) → slice_get channels u ≡ Some old →
    new ≡ (if room then Bytes (bytes_in (Some old) ++ text) else old) →
    slice_set channels u new ≡ (if room then slice_set channels u (Bytes (bytes_in (slice_get channels u) ++ text)) else channels)
added-here channels u text old new true at is = ap (slice_set channels u) (is ∙ ap (λ c. Bytes (bytes_in c ++ text)) (sym at))
added-here channels u text old new false at is = ap (slice_set channels u) is ∙ set_same channels u old at
