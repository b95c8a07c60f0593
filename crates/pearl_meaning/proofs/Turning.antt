-- A loop whose parts use answers up is a turn and then the same loop again.
use Rattle.std.specs.Prelude.{◌≡◌, ℕ, zero, suc, ◌≤◌, Bool, true, false, if◌then◌else◌, List, [], ◌∷◌, length}
use Rattle.std.proofs.Common.{refl, arith}
use Rattle.pearl_rules.specs.declared.action.Answer.{Answer}
use Rattle.pearl_meaning.specs.Frames.{Store}
use Rattle.pearl_meaning.specs.Evaluation.{Outcome, Value, Needs, Fails, Does, gives, on_value, bind}
use Rattle.pearl_meaning.specs.Loops.{Flow, Normal, Exit, Return, after_turn, turn, turns, repeats}
use Rattle.pearl_meaning.specs.Laws.{LeavesNoMore, UsesUp}

-- the same, wherever at most so many answers are left
abbrev SameWithin : {X : Type 0} → ℕ → Does X → Does X → Type 0
SameWithin count does other = (store : Store) (rest : List Answer) → length rest ≤ count → does store rest ≡ other store rest

same_value : {X Y : Type 0} (count : ℕ) (go other : X → Does Y) → ((x : X) → SameWithin count (go x) (other x)) →
    (rest : List Answer) (o : Outcome X) → length rest ≤ count → LeavesNoMore rest o → on_value o go ≡ on_value o other
same_value count go other same rest (Value x store left) less leaves = same x store left (omega (arith, less, leaves))
same_value count go other same rest (Needs action) less leaves = refl
same_value count go other same rest (Fails trap) less leaves = refl

same_bind : {X Y : Type 0} (count : ℕ) (first : Does X) (go other : X → Does Y) → UsesUp first → ((x : X) → SameWithin count (go x) (other x)) →
    SameWithin count (bind first go) (bind first other)
same_bind count first go other uses same store rest less =
    same_value count go other same rest (first store rest) less (uses.leaves store rest)

module _ (more : Does Bool) (statements : Does Flow) (advance : Does Bool)
    (asks : UsesUp more) (does : UsesUp statements) (counts : UsesUp advance) where
  -- what a turn does behind its action
  abbrev go_on : Does Flow → Bool → Does Flow
  go_on again on = if on then again else gives Normal

  abbrev flow_on : Does Flow → Flow → Does Flow
  flow_on again flow = after_turn flow (bind advance (go_on again))

  abbrev inside : Does Flow → Bool → Does Flow
  inside again going = if going then bind statements (flow_on again) else gives Normal

  same_go_on : (count : ℕ) (again other : Does Flow) → SameWithin count again other → (on : Bool) → SameWithin count (go_on again on) (go_on other on)
  same_go_on count again other same true = same
  same_go_on count again other same false = λ store rest less. refl

  same_flow : (count : ℕ) (again other : Does Flow) → SameWithin count again other → (flow : Flow) → SameWithin count (flow_on again flow) (flow_on other flow)
  same_flow count again other same Normal = same_bind count advance (go_on again) (go_on other) counts (same_go_on count again other same)
  same_flow count again other same Exit = λ store rest less. refl
  same_flow count again other same (Return result) = λ store rest less. refl

  same_inside : (count : ℕ) (again other : Does Flow) → SameWithin count again other → (going : Bool) → SameWithin count (inside again going) (inside other going)
  same_inside count again other same true = same_bind count statements (flow_on again) (flow_on other) does (same_flow count again other same)
  same_inside count again other same false = λ store rest less. refl

  -- a turn uses an answer itself
  same_turn : (count : ℕ) (again other : Does Flow) → SameWithin count again other →
      SameWithin (suc count) (turn more statements advance again) (turn more statements advance other)
  same_turn count again other same store [] less = refl
  same_turn count again other same store (answer ∷ rest) less =
      same_bind count more (inside again) (inside other) asks (same_inside count again other same) store rest (omega (arith, less))

  pub same_turns : (n k count : ℕ) → count ≤ n → count ≤ k → SameWithin count (turns n more statements advance) (turns k more statements advance)
  same_turns zero zero count small few store rest less = refl
  same_turns zero (suc k) count small few store [] less = refl
  same_turns zero (suc k) count small few store (answer ∷ rest) less = absurd (omega (arith, small, less))
  same_turns (suc n) zero count small few store [] less = refl
  same_turns (suc n) zero count small few store (answer ∷ rest) less = absurd (omega (arith, few, less))
  same_turns (suc n) (suc k) count small few store [] less = refl
  same_turns (suc n) (suc k) count small few store (answer ∷ rest) less =
      same_turn (length rest) (turns n more statements advance) (turns k more statements advance)
      (same_turns n k (length rest) (omega (arith, small, less)) (omega (arith, few, less))) store (answer ∷ rest) (omega arith)

  pub turns_again : (store : Store) (rest : List Answer) →
      repeats more statements advance store rest ≡ turn more statements advance (repeats more statements advance) store rest
  turns_again store [] = refl
  turns_again store (answer ∷ rest) =
      same_turn (length rest) (turns (length rest) more statements advance) (repeats more statements advance)
      (λ store left less. same_turns (length rest) (length left) (length left) less (omega arith) store left (omega arith)) store (answer ∷ rest) (omega arith)
