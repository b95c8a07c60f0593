-- Rows that offer an action.
use Rattle.std.proofs.Common.{◌≡◌, ◌≢◌, List, [], ◌∷◌, refl, sym, subst}
use Rattle.pearl_rules.specs.declared.action.Action.{Action}
use Rattle.pearl_stack.specs.Frames.{Frame, Stack}
use Rattle.pearl_exchange.specs.declared.offer.What.{What}
use Rattle.pearl_exchange.specs.declared.offer.What.TheVariants.{Read, Write, Turn, Enter, Now, Request, Release, Try, Activate, Continue, Resume, Suspend, Terminate, Prevent, Enable, Disable, Trigger, Put, Get, Take, Send, End, Trap}
use Rattle.pearl_exchange.specs.declared.offer.Offer.{Offer}
use Rattle.pearl_exchange.specs.Offers.{action_by, action_of}
use Rattle.pearl_instructions.specs.Steps.{acts, asks, stops}
use Rattle.pearl_silent.specs.Steps.{Halts, on_top, Does}

acts_offers : (s : Stack) (frames : List Frame) (a : Action) → frames ≢ [] → Does (on_top (λ f lower. acts a f lower f.operands) frames) s s (Halts a)
acts_offers s [] a some = absurd (some refl)
acts_offers s (f ∷ lower) a some = (_, refl, refl)

asks_offers : (s : Stack) (frames : List Frame) (a : Action) → frames ≢ [] → Does (on_top (λ f lower. asks a f lower f.operands) frames) s s (Halts a)
asks_offers s [] a some = absurd (some refl)
asks_offers s (f ∷ lower) a some = (_, refl, refl)

stops_offers : (s : Stack) (frames : List Frame) (a : Action) → frames ≢ [] → Does (on_top (λ f lower. stops a f lower) frames) s s (Halts a)
stops_offers s [] a some = absurd (some refl)
stops_offers s (f ∷ lower) a some = (_, refl, refl)

-- which action it is doesn't change the parts
same_parts : (what : What) (offer : Offer) → action_by what (record offer { what = what }) ≡ action_by what offer
same_parts (Read m) offer = refl
same_parts (Write m) offer = refl
same_parts Turn offer = refl
same_parts Enter offer = refl
same_parts Now offer = refl
same_parts Request offer = refl
same_parts Release offer = refl
same_parts (Try m) offer = refl
same_parts (Activate m n) offer = refl
same_parts (Continue m) offer = refl
same_parts Resume offer = refl
same_parts (Suspend m) offer = refl
same_parts (Terminate m) offer = refl
same_parts (Prevent m) offer = refl
same_parts (Enable m) offer = refl
same_parts (Disable m) offer = refl
same_parts (Trigger m) offer = refl
same_parts (Put m) offer = refl
same_parts (Get m n) offer = refl
same_parts (Take m) offer = refl
same_parts (Send m) offer = refl
same_parts End offer = refl
same_parts (Trap m) offer = refl

pub acts_by : (s : Stack) (what : What) (offer : Offer) → s.frames ≢ [] →
    Does (on_top (λ f lower. acts (action_by what offer) f lower f.operands) s.frames) s s (Halts (action_of (record offer { what = what })))
acts_by s what offer some =
    subst (λ a. Does (on_top (λ f lower. acts (action_by what offer) f lower f.operands) s.frames) s s (Halts a)) (sym (same_parts what offer))
    (acts_offers s s.frames (action_by what offer) some)

pub asks_by : (s : Stack) (what : What) (offer : Offer) → s.frames ≢ [] →
    Does (on_top (λ f lower. asks (action_by what offer) f lower f.operands) s.frames) s s (Halts (action_of (record offer { what = what })))
asks_by s what offer some =
    subst (λ a. Does (on_top (λ f lower. asks (action_by what offer) f lower f.operands) s.frames) s s (Halts a)) (sym (same_parts what offer))
    (asks_offers s s.frames (action_by what offer) some)

pub stops_by : (s : Stack) (what : What) (offer : Offer) → s.frames ≢ [] →
    Does (on_top (λ f lower. stops (action_by what offer) f lower) s.frames) s s (Halts (action_of (record offer { what = what })))
stops_by s what offer some =
    subst (λ a. Does (on_top (λ f lower. stops (action_by what offer) f lower) s.frames) s s (Halts a)) (sym (same_parts what offer))
    (stops_offers s s.frames (action_by what offer) some)
