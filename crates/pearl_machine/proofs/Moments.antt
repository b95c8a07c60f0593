-- Actions and what comes from outside leave the moment as it is, and a millisecond raises it by one.
use Rattle.std.proofs.Common.{◌≡◌, ℕ, ◌+◌, Option, None, Some, IfSome, refl, ◌∙◌}
use Rattle.pearl_rules.specs.declared.action.Action.{Action}
use Rattle.pearl_rules.specs.declared.action.Action.TheVariants as action
use Rattle.pearl_rules.specs.declared.entry.Entry.{Entry}
use Rattle.pearl_rules.specs.declared.row.Plan.{Plan}
use Rattle.pearl_rules.specs.Core.{Core}
use Rattle.pearl_rules.specs.Devices.{arrived}
use Rattle.pearl_rules.specs.Effect.{effect}
use Rattle.pearl_rules.specs.Plans.{millisecond}
use Rattle.pearl_rules.proofs.Offered.{any_kept, Closed, ClosedAtEnds, IsFree, Starts, Brings, millisecond-kept, arrived-kept}
use Rattle.pearl_rules.proofs.Offered.{effect-free}

abbrev AnyPriority : ℕ → Type 0
AnyPriority priority = Unit {0}

abbrev AnyPlan : Plan → Type 0
AnyPlan plan = Unit {0}

if_any : {X : Type 0} (P : X → Type 0) → ((x : X) → P x) → (o : Option X) → IfSome o P
if_any P all None = tt
if_any P all (Some x) = all x

abbrev IsAt : ℕ → Core → Type 0
IsAt moment core = core.moment ≡ moment

at_closed : (moment : ℕ) → Closed AnyPriority AnyPlan (IsAt moment)
at_closed moment = record {
  told = λ core e at. at;
  stands = λ core t row mode kept here stays keeps at. at;
  goes_on = λ core t row plan here lawful at. at;
  starts = λ core t row plan here lawful at. at;
  going = λ core t row here at. if_any AnyPlan (λ plan. tt) row.continuation;
  starting = λ core t row here at. if_any (Starts AnyPriority AnyPlan) (λ plan. (tt, tt)) row.activation;
  keeping = λ core t row here at. any_kept row.kept;
  begins = λ core plan lawful. tt;
}

at_ends : (moment : ℕ) → ClosedAtEnds (IsAt moment)
at_ends moment = record { ends = λ core t row here at. at; prevents = λ core t row here at. at }

at_free : (moment : ℕ) → IsFree (IsAt moment)
at_free moment core other only at = only.moment ∙ at

brings : (core : Core) (a : Action) → Brings AnyPriority AnyPlan core a
brings core (action.Activate t start repeat priority) = (λ row here. tt, λ now. tt)
brings core (action.Continue t start) = λ now. tt
brings core (action.Resume start) = λ now. tt
brings core other = tt

pub effect-moment : (core : Core) (t : ℕ) (a : Action) → (effect core t a).core.moment ≡ core.moment
effect-moment core t a =
    effect-free AnyPriority AnyPlan (IsAt core.moment) (at_closed core.moment) (at_free core.moment) (at_ends core.moment) core t a (brings core a) refl

pub millisecond-moment : (core : Core) → (millisecond core).moment ≡ core.moment + 1
millisecond-moment core = millisecond-kept AnyPriority AnyPlan (IsAt (core.moment + 1)) (at_closed (core.moment + 1)) core refl

pub arrived-moment : (core : Core) (entry : Entry) → (arrived core entry).moment ≡ core.moment
arrived-moment core entry =
    arrived-kept AnyPriority AnyPlan (IsAt core.moment) (at_closed core.moment) (at_free core.moment) core entry (λ time is. refl) refl
