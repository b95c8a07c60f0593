-- The shapes before instructions to which one goes on or jumps.
use Rattle.std.proofs.Common.{◌≡◌, ℕ, zero, suc, List, [], ◌∷◌, Some, length, slice_get, refl, ap, ◌∙◌, arith, Bool, true, false, eq-eqb}
use Rattle.std.specs.Prelude.{◌&&◌, ◌||◌, ◌==◌, not, nat_lt}
use Rattle.std.specs.List.{list_all, list_any}
use Rattle.std.proofs.lemmas.Bool.{ltb-true}
use Rattle.std.proofs.lemmas.Option.{same_Some}
use Rattle.pearl_instructions.specs.declared.instr.Instr.{Instr}
use Rattle.pearl_instructions.specs.declared.instr.Instr.TheVariants.{Jump, JumpZero, Case, Advance}
use Rattle.pearl_instructions.specs.declared.object.Code.{Code}
use Rattle.pearl_instructions.specs.declared.object.Parts.{Parts as Object}
use Rattle.pearl_instructions.specs.Named.{v1}
use Rattle.pearl_instructions.specs.Valid.{is_named, is_closed, goes_on, targets}
use Rattle.pearl_verify.specs.Jumps.{AllNamed}
use Rattle.pearl_verify.proofs.Shapes.{and_true}

-- a jump names its targets
any_at : {A : Type 0} (p : A → Bool) (xs : List A) (n : ℕ) (x : A) → slice_get xs n ≡ Some x → p x ≡ true → list_any p xs ≡ true
any_at p [] n x e h = cc
any_at p (y ∷ xs) zero x e h = ap (λ b. b || list_any p xs) (ap p (same_Some y x e) ∙ h)
any_at p (y ∷ xs) (suc n) x e h = ap (λ b. p y || b) (any_at p xs n x e h) ∙ or_true (p y)
  where
    or_true : (b : Bool) → b || true ≡ true
    or_true true = refl
    or_true false = refl

each_named : (is : List Instr) (ts : List ℕ) → ((t : ℕ) → list_any (λ u. u == t) ts ≡ true → is_named is t ≡ true) → list_all (λ t. nat_lt t (length is)) ts ≡ true → AllNamed is ts
each_named is [] named all = tt
each_named is (t ∷ ts) named all =
    let both = and_true (nat_lt t (length is)) (list_all (λ t. nat_lt t (length is)) ts) all in (
      (ltb-true t (length is) both.0, named t (ap (λ b. b || list_any (λ u. u == t) ts) (eq-eqb t t refl))),
      each_named is ts (λ u h. named u (ap (λ b. (t == u) || b) h ∙ or_true (t == u))) both.1,
    )
  where
    or_true : (b : Bool) → b || true ≡ true
    or_true true = refl
    or_true false = refl

and_more : (b : Bool) → b ≡ true → b && true ≡ true
and_more true e = refl
and_more false e = cc

targets_within : (o : Object) (code : Code) (instr : Instr) → v1 o code instr ≡ true → list_all (λ t. nat_lt t (length code.instructions)) (targets instr) ≡ true
targets_within o code (Jump i) e = and_more (nat_lt i (length code.instructions)) e
targets_within o code (JumpZero i) e = and_more (nat_lt i (length code.instructions)) e
targets_within o code (Case list) e = e
targets_within o code (Advance c i) e = and_more (nat_lt i (length code.instructions)) (and_true _ (nat_lt i (length code.instructions)) e).1
targets_within o code instr e = refl

pub targets_named : (o : Object) (code : Code) (i : ℕ) (instr : Instr) → slice_get code.instructions i ≡ Some instr → v1 o code instr ≡ true →
    AllNamed code.instructions (targets instr)
targets_named o code i instr at e =
    each_named code.instructions (targets instr)
    (λ t h. any_at (λ instr. list_any (λ u. u == t) (targets instr)) code.instructions i instr at h)
    (targets_within o code instr e)

-- the last one
pub closed_last : (is : List Instr) (n : ℕ) (x : Instr) → suc n ≡ length is → slice_get is n ≡ Some x → is_closed is ≡ not (goes_on x)
closed_last [] n x h e = cc
closed_last (a ∷ []) zero x h e = ap (λ i. not (goes_on i)) (same_Some a x e)
closed_last (a ∷ []) (suc n) x h e = cc
closed_last (a ∷ b ∷ is) zero x h e = absurd (omega (arith, h))
closed_last (a ∷ b ∷ is) (suc n) x h e = closed_last (b ∷ is) n x (omega (arith, h)) e
