-- What is asked of the operands, piece by piece, and the top operands of a shape.
use Rattle.std.proofs.Common.{◌≡◌, ℕ, zero, suc, ◌+◌, ◌-◌, ◌<◌, List, [], ◌∷◌, ◌++◌, Some, None, length, drop, replicate, slice_get, refl, sym, ap, ◌∙◌, subst, arith, Bool, true, false, add-one}
use Rattle.std.specs.Prelude.{◌&&◌, nat_le}
use Rattle.std.proofs.Math.Dec.{leb-zero, leb-suc-suc, leb-suc-zero}
use Rattle.std.proofs.lemmas.List.{drop-drop}
use Rattle.std.proofs.lemmas.Option.{same_Some}
use Rattle.pearl_value.specs.declared.kind.CellKind.{CellKind}
use Rattle.pearl_instructions.specs.declared.schedule.StartForm.{StartForm}
use Rattle.pearl_instructions.specs.declared.schedule.StartForm.TheVariants as form
use Rattle.pearl_instructions.specs.declared.schedule.RepeatForm.{RepeatForm}
use Rattle.pearl_instructions.specs.declared.schedule.RepeatForm.TheVariants as again
use Rattle.pearl_instructions.specs.Named.{all_kept}
use Rattle.pearl_instructions.specs.Offers.{start_kinds, repeat_kinds}
use Rattle.pearl_instructions.specs.Opcodes.{Asked, Anything, scheduled, priority_asked}
use Rattle.pearl_instructions.specs.Operands.{Shape, meets, v2}

and_more : (b : Bool) → b && true ≡ b
and_more true = refl
and_more false = refl

and_onto : (a b c : Bool) → a && (b && c) ≡ (a && b) && c
and_onto true b c = refl
and_onto false b c = refl

-- the tests of one list, and those of another
pub all_joined : (xs ys : List Bool) → all_kept xs && all_kept ys ≡ all_kept (xs ++ ys)
all_joined [] ys = refl
all_joined (x ∷ []) [] = and_more x
all_joined (x ∷ []) (y ∷ ys) = refl
all_joined (x ∷ z ∷ xs) ys =
    sym (and_onto x (all_kept (z ∷ xs)) (all_kept ys)) ∙ ap (λ b. x && b) (all_joined (z ∷ xs) ys)

-- one operand
pub asked_some : (want : Asked) (s : Shape) (n : ℕ) (k : CellKind) → slice_get s n ≡ Some k → meets want k ≡ v2 (want ∷ []) (drop n s)
asked_some want [] n k e = cc
asked_some want (x ∷ s) zero k e = ap (meets want) (sym (same_Some x k e)) ∙ sym (and_more (meets want x))
asked_some want (x ∷ s) (suc n) k e = asked_some want s n k e

pub asked_none : (want : Asked) (s : Shape) (n : ℕ) → slice_get s n ≡ None → false ≡ v2 (want ∷ []) (drop n s)
asked_none want [] zero e = refl
asked_none want [] (suc n) e = refl
asked_none want (x ∷ s) zero e = cc
asked_none want (x ∷ s) (suc n) e = asked_none want s n e

-- the first of several
pub asked_more : (want : Asked) (wants : List Asked) (s : Shape) (n : ℕ) → v2 (want ∷ wants) (drop n s) ≡ (v2 (want ∷ []) (drop n s) && v2 wants (drop (n + 1) s))
asked_more want wants s n = subst (λ m. v2 (want ∷ wants) (drop n s) ≡ (v2 (want ∷ []) (drop n s) && v2 wants (drop m s))) (sym (add-one n)) (unary s n)
  where
    unary : (s : Shape) (n : ℕ) → v2 (want ∷ wants) (drop n s) ≡ (v2 (want ∷ []) (drop n s) && v2 wants (drop (suc n) s))
    unary [] zero = refl
    unary [] (suc n) = refl
    unary (x ∷ s) zero = ap (λ b. b && v2 wants s) (sym (and_more (meets want x)))
    unary (x ∷ s) (suc n) = unary s n

pub asked_any : (n : ℕ) (s : Shape) → v2 (replicate n Anything) s ≡ nat_le n (length s)
asked_any zero s = sym (leb-zero (length s))
asked_any (suc n) [] = sym (leb-suc-zero n)
asked_any (suc n) (k ∷ s) = asked_any n s ∙ sym (leb-suc-suc n (length s))

pub asked_append : (ones bs : List Asked) (s : Shape) → v2 (ones ++ bs) s ≡ (v2 ones s && v2 bs (drop (length ones) s))
asked_append [] bs s = refl
asked_append (a ∷ ones) bs [] = refl
asked_append (a ∷ ones) bs (k ∷ s) = ap (λ b. meets a k && b) (asked_append ones bs s) ∙ and_onto (meets a k) (v2 ones s) (v2 bs (drop (length ones) s))

-- so many of one sort, from one on
pub asked_times : (want : Asked) (s : Shape) (n m all : ℕ) → m ≡ suc all → v2 (replicate m want) (drop n s) ≡ (v2 (want ∷ []) (drop n s) && v2 (replicate all want) (drop (n + 1) s))
asked_times want s n m all e = ap (λ m. v2 (replicate m want) (drop n s)) e ∙ asked_more want (replicate all want) s n

pub scheduled_both : (start : StartForm) (repeat : RepeatForm) → scheduled (start_kinds start ++ repeat_kinds repeat) ≡ scheduled (repeat_kinds repeat) ++ scheduled (start_kinds start)
scheduled_both form.Free again.Once = refl
scheduled_both form.Free again.All = refl
scheduled_both form.Free again.Until = refl
scheduled_both form.Free again.During = refl
scheduled_both form.At again.Once = refl
scheduled_both form.At again.All = refl
scheduled_both form.At again.Until = refl
scheduled_both form.At again.During = refl
scheduled_both form.After again.Once = refl
scheduled_both form.After again.All = refl
scheduled_both form.After again.Until = refl
scheduled_both form.After again.During = refl
scheduled_both (form.When device) again.Once = refl
scheduled_both (form.When device) again.All = refl
scheduled_both (form.When device) again.Until = refl
scheduled_both (form.When device) again.During = refl
scheduled_both (form.WhenAfter device) again.Once = refl
scheduled_both (form.WhenAfter device) again.All = refl
scheduled_both (form.WhenAfter device) again.Until = refl
scheduled_both (form.WhenAfter device) again.During = refl

scheduled_long : (start : StartForm) (repeat : RepeatForm) → length (scheduled (repeat_kinds repeat)) ≡ length (repeat_kinds repeat)
scheduled_long start again.Once = refl
scheduled_long start again.All = refl
scheduled_long start again.Until = refl
scheduled_long start again.During = refl

-- a loop over so many of one sort
pub times_more : (want : Asked) (s : Shape) (count below : ℕ) → below < count → v2 (replicate count want) s ≡ v2 (replicate (count - below) want) (drop below s) →
    true ≡ v2 (want ∷ []) (drop below s) → v2 (replicate count want) s ≡ v2 (replicate (count - (below + 1)) want) (drop (below + 1) s)
times_more want s count below less e is =
    e ∙ asked_times want s below (count - below) (count - (below + 1)) (omega (arith, less))
    ∙ ap (λ b. b && v2 (replicate (count - (below + 1)) want) (drop (below + 1) s)) (sym is)

-- a plan
pub asked_plan : (p r t : List Asked) (s : Shape) (m n : ℕ) → m ≡ length p → n ≡ m + length r →
    v2 (p ++ (r ++ t)) s ≡ (v2 p s && (v2 r (drop m s) && v2 t (drop n s)))
asked_plan p r t s m n e h =
    let rest : drop (length r) (drop (length p) s) ≡ drop n s = drop-drop (length r) (length p) s ∙ ap (λ k. drop k s) (omega (arith, e, h)) in
    asked_append p (r ++ t) s
    ∙ ap (λ b. v2 p s && b) (asked_append r t (drop (length p) s))
    ∙ ap (λ x. v2 p s && (v2 r (drop (length p) s) && v2 t x)) rest
    ∙ ap (λ k. v2 p s && (v2 r (drop k s) && v2 t (drop n s))) (sym e)

pub asked_activation : (priority : Bool) (start : StartForm) (repeat : RepeatForm) (s : Shape) (m n : ℕ) → m ≡ length (priority_asked priority) → n ≡ m + length (repeat_kinds repeat) →
    v2 (priority_asked priority ++ scheduled (start_kinds start ++ repeat_kinds repeat)) s
    ≡ (v2 (priority_asked priority) s && (v2 (scheduled (repeat_kinds repeat)) (drop m s) && v2 (scheduled (start_kinds start)) (drop n s)))
asked_activation priority start repeat s m n e h =
    ap (λ wants. v2 (priority_asked priority ++ wants) s) (scheduled_both start repeat)
    ∙ asked_plan (priority_asked priority) (scheduled (repeat_kinds repeat)) (scheduled (start_kinds start)) s m n e (h ∙ ap (λ k. m + k) (sym (scheduled_long start repeat)))

pub and_third : (a b c whole : Bool) → true ≡ a → true ≡ b → whole ≡ (a && (b && c)) → c ≡ whole
and_third a b c whole e h is = sym (is ∙ ap (λ a. a && (b && c)) (sym e) ∙ ap (λ b. b && c) (sym h))

pub and_second : (a b c whole : Bool) → true ≡ a → false ≡ b → whole ≡ (a && (b && c)) → false ≡ whole
and_second a b c whole e h is = sym (is ∙ ap (λ a. a && (b && c)) (sym e) ∙ ap (λ b. b && c) (sym h))

pub and_first : (a b whole : Bool) → false ≡ a → whole ≡ (a && b) → false ≡ whole
and_first a b whole e is = sym (is ∙ ap (λ a. a && b) (sym e))
