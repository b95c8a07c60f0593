-- Which answers suit an action, and which a task can have since its start, or a part of a program since it began.
use Rattle.std.specs.Prelude.{◌≡◌, ◌≢◌, ℕ, ◌-◌, nat_lt, if◌then◌else◌, List, [], ◌∷◌, ◌++◌, Option, Some, None, slice_get}
use Rattle.std.specs.List.{AllZip}
use Rattle.pearl_rules.specs.Tables.{input_kind}
use Rattle.pearl_value.specs.declared.kind.Kind.{Kind}
use Rattle.pearl_value.specs.declared.kind.Kind.TheVariants.{Bits, Clock}
use Rattle.pearl_value.specs.WellFormed.{IsValueOf}
use Rattle.pearl_rules.specs.declared.action.Action.{Action}
use Rattle.pearl_rules.specs.declared.action.Action.TheVariants.{Read, Now, Try, Terminate, Get, Take, End, Trap}
use Rattle.pearl_rules.specs.declared.action.Answer.{Answer}
use Rattle.pearl_rules.specs.declared.action.Answer.TheVariants.{Nothing, One, Many}
use Rattle.pearl_program.specs.PlainPrograms.{PlainLeaf, PlainProg}
use Rattle.pearl_meaning.specs.Frames.{Store}
use Rattle.pearl_meaning.specs.Evaluation.{Outcome, Needs, Does}
use Rattle.pearl_meaning.specs.Programs.{offer}

-- the kind of a slot
abbrev pub slot_kind : List PlainLeaf → ℕ → Option Kind
slot_kind [] slot = None
slot_kind (leaf ∷ leaves) slot =
    if nat_lt slot leaf.values.count then Some leaf.values.kind else slot_kind leaves (slot - leaf.values.count)

-- a single value of this kind
abbrev pub IsOneOf : Option Kind → Answer → Type 0
IsOneOf (Some kind) (One x) = IsValueOf kind x
IsOneOf kind answer = ⊥

-- values of these kinds, in order
abbrev pub AreOf : List Kind → Answer → Type 0
AreOf kinds (Many xs) = AllZip IsValueOf kinds xs.items
AreOf kinds answer = ⊥

-- an answer suits an action of the task with this number; a task that ends, also by terminating itself, hears nothing more
abbrev pub Suits : PlainProg → (own : ℕ) → Action → Answer → Type 0
Suits p own (Read slot) answer = IsOneOf (slot_kind p.leaves slot) answer
Suits p own Now answer = IsOneOf (Some Clock) answer
Suits p own (Try semaphore) answer = IsOneOf (Some (Bits 1)) answer
Suits p own (Take device) answer = IsOneOf (input_kind (slice_get p.devices device)) answer
Suits p own (Get device format kinds) answer = AreOf kinds.items answer
Suits p own End answer = ⊥
Suits p own (Trap trap) answer = ⊥
Suits p own (Terminate task) answer = (task ≢ own) × (answer ≡ Nothing)
Suits p own action answer = answer ≡ Nothing

abbrev pub HeardAfter : PlainProg → ℕ → (before answers : List Answer) → Type 0
HeardAfter p t before [] = Unit {0}
HeardAfter p t before (answer ∷ answers) = Suits p t (offer p t before) answer × HeardAfter p t (before ++ answer ∷ []) answers

-- each answer suits the action that the answers before it offer
abbrev pub Heard : PlainProg → ℕ → List Answer → Type 0
Heard p t answers = HeardAfter p t [] answers

-- an answer suits the action that a part of a program needs; where it needs none, it hears none
abbrev pub SuitsNeed : PlainProg → (own : ℕ) → {X : Type 0} → Outcome X → Answer → Type 0
SuitsNeed p own (Needs action) answer = Suits p own action answer
SuitsNeed p own outcome answer = ⊥

abbrev pub HeardInAfter : PlainProg → {X : Type 0} → Does X → Store → (before answers : List Answer) → Type 0
HeardInAfter p does store before [] = Unit {0}
HeardInAfter p does store before (answer ∷ answers) =
    SuitsNeed p store.task (does store before) answer × HeardInAfter p does store (before ++ answer ∷ []) answers

-- each answer suits the action that the part, begun with this store, needs after the answers before it
abbrev pub HeardIn : PlainProg → {X : Type 0} → Does X → Store → List Answer → Type 0
HeardIn p does store answers = HeardInAfter p does store [] answers
