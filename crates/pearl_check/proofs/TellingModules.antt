-- What is told of the cycles and weights of a module, one procedure or task at a time.
use Rattle.std.proofs.Common.{◌≡◌, ℕ, ◌+◌, ◌-◌, ◌<◌, ◌≤◌, Bool, nat_lt, List, [], ◌∷◌, ◌++◌, Option, map, length, take, drop, get_or, refl, ap, sym, ◌∙◌, arith}
use Rattle.std.proofs.lemmas.Slice.{first_rest}
use Rattle.std.specs.List.{flat_map}
use Rattle.pearl_tree.specs.declared.fault.RuleFault.{RuleFault}
use Rattle.pearl_tree.specs.Faults.{fault_if}
use Rattle.pearl_calls.specs.Callers.{Caller}
use Rattle.pearl_calls.specs.Cycles.{calls_itself, SomeCallsItself}
use Rattle.pearl_calls.specs.Weights.{whole_weight, capped}
use Rattle.pearl_check.specs.Calls.{Weighed, callers_of, cycles_from, s28}
use Rattle.pearl_check.specs.Rules.{earlier_of, first}
use Rattle.pearl_check.specs.Sizes.{overweight, weights}
use Rattle.pearl_check.specs.Weighing.{held_caller, place_of}
use Rattle.pearl_check.proofs.CutWeights.{same_cycles, held_callers, heavy, none_told, some_told}
use Rattle.pearl_check.proofs.Firsts.{told_more, none_more}

rest_of : {X : Type 0} (xs : List X) (x d : X) → 1 ≤ length xs → x ≡ get_or xs 0 d → xs ≡ x ∷ take (length xs - 1) (drop 1 xs)
rest_of xs x d some is = first_rest xs d some ∙ ap (λ y. y ∷ take (length xs - 1) (drop 1 xs)) (sym is)

-- CYCLES

-- of the procedures from this number on
abbrev pub TellsCycles : (callers : List Caller) → (all left : List ℕ) → ℕ → (start told : Option RuleFault) → Type 0
TellsCycles callers all left number start told = (of : List Weighed) → callers ≡ map held_caller of → all ≡ map place_of of →
    (rest : List Weighed) × (left ≡ map place_of rest) × (earlier_of told (first (cycles_from number (callers_of of) rest)) ≡ earlier_of start (first (s28 of)))

pub cycles_begin : (callers : List Caller) (all : List ℕ) (start : Option RuleFault) → TellsCycles callers all all 0 start start
cycles_begin callers all start of held places = (of, places, refl)

pub cycles_next : (callers : List Caller) (all left : List ℕ) (place d number after : ℕ) (start told next : Option RuleFault) →
    1 ≤ length left → place ≡ get_or left 0 d → TellsCycles callers all left number start told →
    next ≡ earlier_of told (first (fault_if (calls_itself callers number) place 28)) → after ≡ number + 1 →
    TellsCycles callers all (take (length left - 1) (drop 1 left)) after start next
cycles_next callers all left place d number after start told next some is before tells goes of held places = by (before of held places)
  where
    behind : List ℕ
    behind = take (length left - 1) (drop 1 left)

    by : (rest : List Weighed) × (left ≡ map place_of rest) × (earlier_of told (first (cycles_from number (callers_of of) rest)) ≡ earlier_of start (first (s28 of))) →
        (rest : List Weighed) × (behind ≡ map place_of rest) × (earlier_of next (first (cycles_from after (callers_of of) rest)) ≡ earlier_of start (first (s28 of)))
    by ([], listed, same) = absurd (nothing left listed some)
      where
        nothing : (left : List ℕ) → left ≡ [] → 1 ≤ length left → ⊥
        nothing left none long = let e = ap length none in omega (arith, long, e)
    by (weighed ∷ rest, listed, same) =
        let split : place ∷ behind ≡ place_of weighed ∷ map place_of rest = sym (rest_of left place d some is) ∙ listed in
        let here : place ≡ place_of weighed = ap (λ l. get_or l 0 0) split in
        let others : behind ≡ map place_of rest = ap (drop 1) split in
        let own : next ≡ earlier_of told (first (fault_if (calls_itself (callers_of of) number) weighed.name.place 28)) =
        tells ∙ (λ i. earlier_of told (first (fault_if (calls_itself (held i) number) (here i) 28)))
        ∙ ap (λ b. earlier_of told (first (fault_if b weighed.name.place 28)))
        (ap (λ l. calls_itself l number) (held_callers of) ∙ same_cycles (callers_of of) number) in (
          rest,
          others,
          ap (λ n. earlier_of next (first (cycles_from n (callers_of of) rest))) goes
              ∙ sym (told_more told next (fault_if (calls_itself (callers_of of) number) weighed.name.place 28) (cycles_from (number + 1) (callers_of of) rest) own)
              ∙ same,
        )

pub cycles_end : (callers : List Caller) (all left : List ℕ) (number : ℕ) (start told : Option RuleFault) → length left < 1 →
    TellsCycles callers all left number start told → (of : List Weighed) → callers ≡ map held_caller of → all ≡ map place_of of →
    told ≡ earlier_of start (first (s28 of))
cycles_end callers all left number start told none whole of held places = by (whole of held places)
  where
    by : (rest : List Weighed) × (left ≡ map place_of rest) × (earlier_of told (first (cycles_from number (callers_of of) rest)) ≡ earlier_of start (first (s28 of))) →
        told ≡ earlier_of start (first (s28 of))
    by ([], listed, same) = sym (none_more told) ∙ same
    by (weighed ∷ rest, listed, same) = let e = ap length listed in absurd (omega (arith, none, e))

-- WEIGHTS

abbrev pub TellsWeights : (procedures : List Caller) → (places left_places : List ℕ) → (callers left_callers : List Caller) → (start told : Option RuleFault) → Type 0
TellsWeights procedures places left_places callers left_callers start told = (owners of : List Weighed) → procedures ≡ map held_caller owners →
    places ≡ map place_of of → callers ≡ map held_caller of →
    (rest : List Weighed) × (left_places ≡ map place_of rest) × (left_callers ≡ map held_caller rest) ×
    (earlier_of told (first (flat_map (overweight (callers_of owners)) rest)) ≡ earlier_of start (first (flat_map (overweight (callers_of owners)) of)))

pub weights_begin : (procedures : List Caller) (places : List ℕ) (callers : List Caller) (start : Option RuleFault) →
    TellsWeights procedures places places callers callers start start
weights_begin procedures places callers start owners of owned placed called = (of, placed, called, refl)

pub weights_next : (procedures : List Caller) (places left : List ℕ) (callers others : List Caller) (place d : ℕ) (caller : Caller)
    (start told next : Option RuleFault) (broken : Bool) → 1 ≤ length left → place ≡ get_or left 0 d → 1 ≤ length others → caller ≡ get_or others 0 caller →
    TellsWeights procedures places left callers others start told →
    broken ≡ nat_lt 4096 (capped (whole_weight procedures caller)) → next ≡ earlier_of told (first (fault_if broken place 34)) →
    TellsWeights procedures places (take (length left - 1) (drop 1 left)) callers (take (length others - 1) (drop 1 others)) start next
weights_next procedures places left callers others place d caller start told next broken some is some_callers called_is before weighs tells owners of owned placed called =
    by (before owners of owned placed called)
  where
    behind : List ℕ
    behind = take (length left - 1) (drop 1 left)

    more : List Caller
    more = take (length others - 1) (drop 1 others)

    Left : Option RuleFault → List ℕ → List Caller → Type 0
    Left told places callers = (rest : List Weighed) × (places ≡ map place_of rest) × (callers ≡ map held_caller rest) ×
        (earlier_of told (first (flat_map (overweight (callers_of owners)) rest)) ≡ earlier_of start (first (flat_map (overweight (callers_of owners)) of)))

    by : Left told left others → Left next behind more
    by ([], listed, calling, same) = absurd (nothing left listed some)
      where
        nothing : (left : List ℕ) → left ≡ [] → 1 ≤ length left → ⊥
        nothing left none long = let e = ap length none in omega (arith, long, e)
    by (weighed ∷ rest, listed, calling, same) =
        let split : place ∷ behind ≡ place_of weighed ∷ map place_of rest = sym (rest_of left place d some is) ∙ listed in
        let here : place ≡ place_of weighed = ap (λ l. get_or l 0 0) split in
        let parted : caller ∷ more ≡ held_caller weighed ∷ map held_caller rest = sym (rest_of others caller caller some_callers called_is) ∙ calling in
        let this : caller ≡ held_caller weighed = ap (λ l. get_or l 0 caller) parted in
        let all = owned ∙ held_callers owners in
        let own : next ≡ earlier_of told (first (overweight (callers_of owners) weighed)) =
        tells ∙ ap (λ b. earlier_of told (first (fault_if b place 34))) weighs
        ∙ (λ i. earlier_of told (first (fault_if (nat_lt 4096 (capped (whole_weight (all i) (this i)))) (here i) 34)))
        ∙ ap (λ b. earlier_of told (first (fault_if b weighed.name.place 34))) (heavy (callers_of owners) weighed.caller _ refl) in (
          rest,
          ap (drop 1) split,
          ap (drop 1) parted,
          sym (told_more told next (overweight (callers_of owners) weighed) (flat_map (overweight (callers_of owners)) rest) own) ∙ same,
        )

-- where one calls itself, weights aren't asked
pub no_weights : (of tasks : List Weighed) → SomeCallsItself (map held_caller of) → weights (s28 of) of tasks ≡ []
no_weights of tasks some = by (s28 of) refl
  where
    by : (cycles : List RuleFault) → s28 of ≡ cycles → weights cycles of tasks ≡ []
    by [] is = absurd (some_told of some is)
    by (cycle ∷ cycles) is = refl

pub all_weights : (of tasks : List Weighed) → (SomeCallsItself (map held_caller of) → ⊥) →
    weights (s28 of) of tasks ≡ flat_map (overweight (callers_of of)) of ++ flat_map (overweight (callers_of of)) tasks
all_weights of tasks none = ap (λ cycles. weights cycles of tasks) (none_told of none)
