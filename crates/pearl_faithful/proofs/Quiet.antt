-- In a routine whose jumps lead well no jump leads to where an operand lies.
use Rattle.std.proofs.Common.{◌≡◌, ℕ, zero, suc, ◌+◌, ◌-◌, ◌<◌, ◌⊎◌, inl, inr, Bool, true, false, [], Option, Some, None, slice_get, length, refl, sym, ap, ◌∙◌, subst, arith, lt-ltb}
use Rattle.std.specs.Prelude.{◌&&◌, ◌||◌, not, nat_lt, if◌then◌else◌}
use Rattle.std.specs.List.{list_all}
use Rattle.std.proofs.lemmas.Option.{slice_get_within}
use Rattle.pearl_instructions.specs.declared.instr.Instr.{Instr}
use Rattle.pearl_instructions.specs.declared.instr.Instr.TheVariants.{Turn}
use Rattle.pearl_instructions.specs.declared.object.Code.{Code}
use Rattle.pearl_instructions.specs.declared.object.Parts.{Parts as Object}
use Rattle.pearl_instructions.specs.Operands.{Shape, same_shape}
use Rattle.pearl_instructions.specs.Kinds.{shape_after}
use Rattle.pearl_instructions.specs.Valid.{goes_on, targets, is_named, stated, passed_on, shape_or, shape_before, is_turn, v6}
use Rattle.pearl_gen_expr.specs.Shapes.{IsQuiet, AreQuiet, IsOpen, Keeps}
use Rattle.pearl_gen_expr.proofs.Offered.{Fits, and_is, or_is, quiet_open, judged_well, here_keeps, open_keeps}
use Rattle.pearl_gen_expr.proofs.Offered.{nothing_keeps}
use Rattle.pearl_faithful.proofs.Places.{pushes, pushing_stays, Every, LeadsWell, AllLead, is_named_by, not_named, each_named, each_leads}
use Rattle.pearl_faithful.proofs.Pushing.{Adds}

-- where there is no code nothing changes
pub stays : (o : Object) (r : ℕ) (code : Code) (from to : ℕ) (s : Shape) → to ≡ from → Keeps o r code from to s s
stays o r code from to s same = subst (λ to. Keeps o r code from to s s) (sym same) (nothing_keeps o r code from s)

-- no shapes are stated, and all jumps lead well
pub record IsWhole (o : Object) (code : Code) : Type 0 where
  pub none_stated : code.shapes ≡ []
  pub leads : Every code.instructions (AllLead code.instructions o) 0 (length code.instructions)

module _ (o : Object) (r : ℕ) (code : Code) (whole : IsWhole o code) where
  unstated : (place : ℕ) → stated code.shapes place ≡ None
  unstated place = ap (λ shapes. stated shapes place) whole.none_stated

  pub quiet_behind : (q : ℕ) → ((instr : Instr) → slice_get code.instructions q ≡ Some instr → pushes o instr ≡ true) → IsQuiet code (q + 1)
  quiet_behind q pushing = record { named = not_named o code.instructions whole.leads q pushing; stated = unstated (q + 1) }

  pub quiet_at : (place : ℕ) (here : Instr) → slice_get code.instructions place ≡ Some here → pushes o here ≡ true → IsQuiet code (place + 1)
  quiet_at place here is leaves = quiet_behind place (λ instr there. subst (λ found. pushed found ≡ true) (sym is ∙ there) leaves)
    where
      pushed : Option Instr → Bool
      pushed None = false
      pushed (Some instr) = pushes o instr

  -- behind what leaves operands it is quiet
  pub are_quiet : (from to : ℕ) → Every code.instructions (Adds o) from to → AreQuiet code from to
  are_quiet from to adds place low high =
      let next : place - 1 + 1 ≡ place = omega (arith, low) in
      subst (IsQuiet code) next (quiet_behind (place - 1) (λ instr is. (adds (place - 1) instr (omega (arith, low)) (omega (arith, low, high)) is).0))

  -- where no operand lies a jump may lead
  pub open_empty : (place : ℕ) → IsOpen code place []
  open_empty place = record { named = inr refl; stated = unstated place }

  named_empty : (t : ℕ) → is_named code.instructions t ≡ true → shape_before o r code t ≡ []
  named_empty zero named = refl
  named_empty (suc t) named = by (stated code.shapes (suc t)) (is_named code.instructions (suc t)) (unstated (suc t)) named
    where
      by : (found : Option Shape) (test : Bool) → found ≡ None → test ≡ true →
          shape_or found (if test then [] else passed_on o r code (slice_get code.instructions t) (shape_before o r code t)) ≡ []
      by (Some s) test none named = cc
      by None true none named = refl
      by None false none named = cc

  -- behind an instruction that goes on with no operand, or doesn't go on, none lies
  empty_next : (place : ℕ) (here : Instr) → slice_get code.instructions place ≡ Some here → shape_after o r code here (shape_before o r code place) ≡ [] → shape_before o r code (suc place) ≡ []
  empty_next place here is empty = by (stated code.shapes (suc place)) (is_named code.instructions (suc place)) (slice_get code.instructions place) (unstated (suc place)) is
    where
      last : (test : Bool) → (if test then shape_after o r code here (shape_before o r code place) else []) ≡ []
      last true = empty
      last false = refl

      by : (found : Option Shape) (test : Bool) (at : Option Instr) → found ≡ None → at ≡ Some here → shape_or found (if test then [] else passed_on o r code at (shape_before o r code place)) ≡ []
      by (Some s) test at none same = cc
      by None true at none same = refl
      by None false at none same = ap (λ at. passed_on o r code at (shape_before o r code place)) same ∙ last (goes_on here)

  leads_at : (place : ℕ) (here : Instr) → slice_get code.instructions place ≡ Some here → AllLead code.instructions o place here
  leads_at place here is = whole.leads place here (omega arith) (slice_get_within code.instructions place here is) is

  pub each_inside : (place : ℕ) (here : Instr) → slice_get code.instructions place ≡ Some here → list_all (λ t. nat_lt t (length code.instructions)) (targets here) ≡ true
  each_inside place here is =
      each_leads (LeadsWell code.instructions o place) (λ t. nat_lt t (length code.instructions)) (targets here) (leads_at place here is) (λ t leads. lt-ltb t (length code.instructions) leads.inside)

  forward_or_turn : (place t : ℕ) → LeadsWell code.instructions o place t → nat_lt place t || is_turn (slice_get code.instructions t) ≡ true
  forward_or_turn place t leads = by leads.onward
    where
      by : (place < t) ⊎ (slice_get code.instructions t ≡ Some Turn) → nat_lt place t || is_turn (slice_get code.instructions t) ≡ true
      by (inl less) = ap (λ test. test || is_turn (slice_get code.instructions t)) (lt-ltb place t less)
      by (inr turn) = or_is (nat_lt place t) (is_turn (slice_get code.instructions t)) (ap is_turn turn)

  -- An instruction that leaves no operand, wherever it goes.
  pub bare_keeps : (place : ℕ) (here : Instr) (s : Shape) → slice_get code.instructions place ≡ Some here → Fits o r code here s → shape_after o r code here s ≡ [] →
      Keeps o r code place (place + 1) s []
  bare_keeps place here s is fits empty =
      let one : suc place ≡ place + 1 = omega arith in
      let next : shape_before o r code place ≡ s → shape_before o r code (place + 1) ≡ [] =
      λ before. ap (shape_before o r code) (sym one) ∙ empty_next place here is (ap (shape_after o r code here) before ∙ empty) in
      here_keeps o r code place here s [] is next (λ before.
      judged_well o r code place here s fits
      (ap (v6 o r code place here) empty
      ∙ and_is (list_all (λ t. same_shape (shape_before o r code t) []) (targets here)) _
      (each_named (λ t. same_shape (shape_before o r code t) []) (targets here) (λ t any. ap (λ s. same_shape s []) (named_empty t (is_named_by code.instructions place here t is any))))
      (or_is (not (goes_on here && nat_lt (place + 1) (length code.instructions))) (same_shape (shape_before o r code (place + 1)) []) (ap (λ s. same_shape s []) (next before))))
      (each_leads (LeadsWell code.instructions o place) (λ t. nat_lt place t || is_turn (slice_get code.instructions t)) (targets here) (leads_at place here is) (forward_or_turn place)))

  -- An instruction that leaves an operand.
  pub push_keeps : (place : ℕ) (here : Instr) (s after : Shape) → slice_get code.instructions place ≡ Some here → pushes o here ≡ true → goes_on here ≡ true → Fits o r code here s →
      shape_after o r code here s ≡ after → Keeps o r code place (place + 1) s after
  push_keeps place here s after is leaves on fits same =
      open_keeps o r code place here s after is (quiet_open code (place + 1) after (quiet_at place here is leaves)) on (pushing_stays o here leaves) fits same
