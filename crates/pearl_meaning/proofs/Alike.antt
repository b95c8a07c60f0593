-- What is done one after another is the same, where each part is.
use Rattle.std.specs.Prelude.{◌≡◌, Bool, true, false, if◌then◌else◌, List, Option, Some, None}
use Rattle.std.proofs.Common.{refl}
use Rattle.pearl_rules.specs.declared.action.Answer.{Answer}
use Rattle.pearl_meaning.specs.Frames.{Store}
use Rattle.pearl_meaning.specs.Evaluation.{Outcome, Value, Needs, Fails, Does, on_value, bind, next, given, fails}
use Rattle.pearl_value.specs.declared.trap.Trap.TheVariants.{Range}

pub record Alike {X : Type 0} (does other : Does X) : Type 0 where
  pub same : (store : Store) (rest : List Answer) → does store rest ≡ other store rest

pub itself : {X : Type 0} {does : Does X} → Alike does does
itself = record { same = λ store rest. refl }

on_each : {X Y : Type 0} (go other : X → Does Y) (p : Outcome X) → ((x : X) → Alike (go x) (other x)) → on_value p go ≡ on_value p other
on_each go other (Value x store rest) alike = (alike x).same store rest
on_each go other (Needs action) alike = refl
on_each go other (Fails trap) alike = refl

on_value_alike : {X Y : Type 0} (go other : X → Does Y) (o p : Outcome X) → o ≡ p → ((x : X) → Alike (go x) (other x)) → on_value o go ≡ on_value p other
on_value_alike go other o p same alike = rw same (on_each go other p alike)

pub bind_alike : {X Y : Type 0} {first second : Does X} {go other : X → Does Y} → Alike first second → ((x : X) → Alike (go x) (other x)) →
    Alike (bind first go) (bind second other)
bind_alike {first = first} {second = second} {go = go} {other = other} one others =
    record { same = λ store rest. on_value_alike go other (first store rest) (second store rest) (one.same store rest) others }

pub after_same : {X Y : Type 0} {go other : X → Does Y} (first : Does X) → ((x : X) → Alike (go x) (other x)) → Alike (bind first go) (bind first other)
after_same first others = bind_alike {first = first} itself others

pub next_alike : {X Y : Type 0} {first second : Does X} {go other : Does Y} → Alike first second → Alike go other → Alike (next first go) (next second other)
next_alike one two = bind_alike one (λ x. two)

pub given_alike : {X Y : Type 0} {go other : X → Does Y} (option : Option X) → ((x : X) → Alike (go x) (other x)) → Alike (given option go) (given option other)
given_alike None alike = itself {does = fails Range}
given_alike (Some x) alike = alike x

pub either_alike : {X : Type 0} {one two other another : Does X} (test : Bool) → Alike one other → Alike two another →
    Alike (if test then one else two) (if test then other else another)
either_alike true one two = one
either_alike false one two = two
