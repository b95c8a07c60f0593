-- What is left where operands are taken off and what was made of them is pushed.
use Rattle.std.proofs.Common.{◌≡◌, ◌≢◌, ℕ, ◌<◌, List, [], ◌∷◌, Ok, Err, refl, sym, ap, ◌∙◌, subst, arith}
use Rattle.pearl_value.specs.declared.cell.Cell.{Cell}
use Rattle.pearl_value.specs.declared.trap.Trap.{Trap}
use Rattle.pearl_rules.specs.declared.action.Action.{Action}
use Rattle.pearl_rules.specs.declared.action.Action.TheVariants as action
use Rattle.pearl_rules.specs.declared.action.Answer.{Answer}
use Rattle.pearl_stack.specs.Frames.{Frame, Stack, used, pushed, without}
use Rattle.pearl_instructions.specs.Steps.{Step, Silent, Offers}
use Rattle.pearl_silent.specs.Steps.{Stepped}
use Rattle.pearl_silent.specs.Steps.{GoesOn, Halts}
use Rattle.pearl_silent.specs.Steps.{next_of, Applies, Does, made_on, left_on}

-- a row that leaves these frames
pub silent_does : (row : Step) (old now : Stack) (frames : List Frame) → row ≡ Silent frames → now ≡ record old { frames = frames } → Does row old now GoesOn
silent_does row old now frames e s = (e ∙ ap Silent (sym (ap (λ s. s.frames) s)), ap (λ s. s.room) s, ap (λ s. s.most) s)

pub made_room : (frames : List Frame) (n room : ℕ) (x : Cell) → Applies (made_on n (Ok x) frames) room → used (without n frames) < room
made_room [] n room x a = absurd a
made_room (f ∷ lower) n room x a = omega (arith, a)

pub made_silent : (frames : List Frame) (n : ℕ) (x : Cell) → frames ≢ [] → made_on n (Ok x) frames ≡ Silent (next_of (pushed x (without n frames)))
made_silent [] n x some = absurd (some refl)
made_silent (f ∷ lower) n x some = refl

pub made_traps : (frames : List Frame) (n : ℕ) (trap : Trap) → frames ≢ [] → made_on n (Err trap) frames ≡ Offers (action.Trap trap) (λ answer. frames)
made_traps [] n trap some = absurd (some refl)
made_traps (f ∷ lower) n trap some = refl

pub left_silent : (frames : List Frame) (n : ℕ) → frames ≢ [] → left_on n frames ≡ Silent (next_of (without n frames))
left_silent [] n some = absurd (some refl)
left_silent (f ∷ lower) n some = refl

pub same_applies : (a b : Step) (room : ℕ) → a ≡ b → Applies a room → Applies b room
same_applies a b room e applies = subst (λ r. Applies r room) e applies

pub same_does : (a b : Step) (old now : Stack) (result : Stepped) → a ≡ b → Does b old now result → Does a old now result
same_does a b old now result e does = subst (λ r. Does r old now result) (sym e) does

-- an action is offered, and nothing changed
pub offers_does : (row : Step) (old : Stack) (a : Action) (go : Answer → List Frame) → row ≡ Offers a go → Does row old old (Halts a)
offers_does row old a go e = (go, e, refl)
