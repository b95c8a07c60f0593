-- Subscripts that are given for the bounds of arrays.
use Rattle.std.specs.Prelude.{◌≡◌, ℕ, zero, suc, ◌+◌, ◌≤◌, Bool, true, false, ◌&&◌, List, [], ◌∷◌, ◌++◌, length, take, drop, Option, Some, None, is_some}
use Rattle.std.specs.List.{AllByRecursion}
use Rattle.std.proofs.Common.{refl, sym, arith, true≢false}
use Rattle.pearl_value.specs.declared.kind.Kind.TheVariants.{Fixed}
use Rattle.pearl_program.specs.declared.expression.Bound.{Bound}
use Rattle.pearl_program.specs.PlainExpressions.{PlainExprs, NoExprs, MoreExprs}
use Rattle.pearl_program.specs.Typing.{Around, IsBound, HasKind, AreSubscripts}
use Rattle.pearl_names.specs.Counts.{cut}
use Rattle.pearl_resolve.specs.Expressions.{count, joined_exprs}

pub both : (a b : Bool) → (a && b) ≡ true → (a ≡ true) × (b ≡ true)
both true b is = (refl, is)
both false b is = absurd (true≢false (sym is))

pub some_of : {X : Type 0} (x : Option X) → is_some x ≡ true → (y : X) × (x ≡ Some y)
some_of None is = absurd (true≢false (sym is))
some_of (Some y) is = (y, refl)

pub cut_small : (n : ℕ) → n ≤ 3 → cut n ≡ n
cut_small n small = omega arith

pub cut_most : (n : ℕ) → cut n ≤ n
cut_most n = omega arith

abbrev pub AreAllFixed : Around → PlainExprs → Type 0
AreAllFixed around NoExprs = Unit {0}
AreAllFixed around (MoreExprs e rest) = ((len : ℕ) × HasKind around e (Fixed len)) × AreAllFixed around rest

pub count_joined : (xs ys : PlainExprs) → count (joined_exprs xs ys) ≡ count xs + count ys
count_joined NoExprs ys = omega arith
count_joined (MoreExprs e rest) ys = let a = count_joined rest ys in omega (arith, a)

-- as many that are FIXED as there are bounds
pub fixed_given : (around : Around) (bounds : List Bound) (exprs : PlainExprs) → count exprs ≡ length bounds →
    AllByRecursion IsBound bounds → AreAllFixed around exprs → AreSubscripts around bounds exprs
fixed_given around [] NoExprs same sound fixed = tt
fixed_given around [] (MoreExprs e rest) same sound fixed = absurd (omega (arith, same))
fixed_given around (bound ∷ bounds) NoExprs same sound fixed = absurd (omega (arith, same))
fixed_given around (bound ∷ bounds) (MoreExprs e rest) same sound fixed =
    (sound.0, fixed.0, fixed_given around bounds rest (omega (arith, same)) sound.1 fixed.1)

pub joined_given : (around : Around) (one two : List Bound) (xs ys : PlainExprs) →
    AreSubscripts around one xs → AreSubscripts around two ys → AreSubscripts around (one ++ two) (joined_exprs xs ys)
joined_given around [] two NoExprs ys a b = b
joined_given around [] two (MoreExprs e rest) ys a b = absurd a
joined_given around (bound ∷ one) two NoExprs ys a b = absurd a
joined_given around (bound ∷ one) two (MoreExprs e rest) ys a b = (a.0, a.1, joined_given around one two rest ys a.2 b)

pub sound_behind : (n : ℕ) (bounds : List Bound) → AllByRecursion IsBound bounds → AllByRecursion IsBound (drop n bounds)
sound_behind zero bounds sound = sound
sound_behind (suc n) [] sound = tt
sound_behind (suc n) (bound ∷ rest) sound = sound_behind n rest sound.1

pub sound_before : (n : ℕ) (bounds : List Bound) → AllByRecursion IsBound bounds → AllByRecursion IsBound (take n bounds)
sound_before zero bounds sound = tt
sound_before (suc n) [] sound = tt
sound_before (suc n) (bound ∷ rest) sound = (sound.0, sound_before n rest sound.1)
