-- When code does what a part of a program means.
use Rattle.std.specs.Prelude.{◌≡◌, ◌≤◌, List, length}
use Rattle.pearl_rules.specs.declared.action.Action.TheVariants as action
use Rattle.pearl_rules.specs.declared.action.Answer.{Answer}
use Rattle.pearl_stack.specs.Frames.{Frame}
use Rattle.pearl_instructions.specs.declared.object.Parts.{Parts as Object}
use Rattle.pearl_meaning.specs.Frames.{Store}
use Rattle.pearl_meaning.specs.Evaluation.{Outcome, Value, Needs, Fails, Does}
use Rattle.pearl_gen_expr.specs.Comes.{Aim, offers, or_lost, Comes}
use Rattle.pearl_gen_expr.specs.Contexts.{Context, IsStoreOf}

-- Where the code of a part ends: with which stack for each value that the part gives, and for which values at all.
pub record End (X : Type 0) : Type 1 where
  pub stack : X → Store → List Frame
  pub Of : X → Type 0

-- what holds where the code of a part ends with a value: it is one of those values, the store fits, and no answer has come in
pub record Arrived (o : Object) (c : Context) {X : Type 0} (end : End X) (rest : List Answer) (x : X) (store : Store) (left : List Answer) : Type 0 where
  pub of : end.Of x
  pub cells : IsStoreOf o c store
  pub fewer : length left ≤ length rest

-- this stack, with these answers left: that of the part's end
pub record IsEnd (o : Object) (c : Context) {X : Type 0} (end : End X) (rest : List Answer) (x : X) (store : Store)
    (left : List Answer) (frames : List Frame) (others : List Answer) : Type 0 where
  pub stack : frames ≡ end.stack x store
  pub answers : others ≡ left
  pub arrived : Arrived o c end rest x store left

-- What the code of a part is to come to over these answers: the part's end where it gives a value, the action where it
-- needs an answer to one, and else the trap.
abbrev pub meant : (o : Object) (c : Context) {X : Type 0} (end : End X) (rest : List Answer) → Outcome X → Aim
meant o c end rest (Value x store left) =
    record { Reached = λ frames others. IsEnd o c end rest x store left frames others; Offered = λ action. ⊥; Lost = ⊥ }
meant o c end rest (Needs action) = offers action
meant o c end rest (Fails trap) = offers (action.Trap trap)

-- it comes there, or to where there is no row
abbrev pub Meets : (o : Object) (c : Context) {X : Type 0} (end : End X) (from : List Frame) (rest : List Answer) →
    Outcome X → Type 0
Meets o c end from rest m = Comes o from rest (or_lost (meant o c end rest m))

-- from this stack on the code does what is meant, or comes to where there is no row, whatever the cells hold and whatever
-- is answered
pub record Carries (o : Object) (c : Context) {X : Type 0} (end : End X) (from : Store → List Frame) (does : Does X) : Type 0 where
  pub over : (store : Store) (rest : List Answer) → IsStoreOf o c store → Meets o c end (from store) rest (does store rest)
