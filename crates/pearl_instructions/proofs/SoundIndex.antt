-- The row of Index leads from a stack of a valid object to such stacks only: the offset of an element is a FIXED(31).
use Rattle.std.proofs.Common.{◌≡◌, ℕ, zero, suc, ◌+◌, ◌*◌, ◌<◌, ◌≤◌, ℤ, pos, negsuc, ◌+ℤ◌, ◌-ℤ◌, ◌*ℤ◌, List, [], ◌∷◌, Option, Some, None, length, reverse, take, drop, replicate, refl, sym, ap, ◌∙◌, subst, arith, Bool, true, false, leb-true}
use Rattle.std.specs.Prelude.{◌&&◌, nat_le, int_le, unsigned_abs, if◌then◌else◌, option_map, option_and_then}
use Rattle.std.specs.List.{AllZip, list_all}
use Rattle.std.proofs.lemmas.Int.{ints}
use Rattle.std.proofs.lemmas.List.{length-replicate}
use native.Mathlib.Nat.{mul_assoc, mul-le-mul}
use Rattle.pearl_value.specs.declared.kind.Kind.TheVariants as kind
use Rattle.pearl_value.specs.declared.kind.CellKind.TheVariants.{Plain}
use Rattle.pearl_value.specs.declared.cell.Cell.{Cell}
use Rattle.pearl_value.specs.declared.cell.Cell.TheVariants as cell
use Rattle.pearl_value.specs.WellFormed.{IsValueOf}
use Rattle.pearl_value.specs.Laws.{Gives}
use Rattle.pearl_stack.specs.Frames.{Frame}
use Rattle.pearl_instructions.specs.declared.instr.Bounds.{Bounds}
use Rattle.pearl_instructions.specs.declared.instr.Instr.TheVariants.{Index}
use Rattle.pearl_instructions.specs.declared.object.Code.{Code}
use Rattle.pearl_instructions.specs.declared.object.Parts.{Parts as Object}
use Rattle.pearl_instructions.specs.Steps.{given, makes}
use Rattle.pearl_instructions.specs.Operators.{numbers_of, offset_of, index_of}
use Rattle.pearl_instructions.specs.Rows.{act}
use Rattle.pearl_instructions.specs.Opcodes.{SomeFixed}
use Rattle.pearl_instructions.specs.Operands.{Shape, is_fixed, v2}
use Rattle.pearl_instructions.specs.Valid.{extent, elements}
use Rattle.pearl_instructions.specs.Stacks.{routines_of, Suits}
use Rattle.pearl_instructions.proofs.Tests.{and_true}
use Rattle.pearl_instructions.proofs.Lists.{all_reversed}
use Rattle.pearl_instructions.proofs.Kept.{IsSound, Here, goes, given_goes, taken_goes}
use Rattle.pearl_instructions.proofs.SoundOperators.{makes_goes, number_is}

-- how far one number is above another
above : (a b : ℤ) → int_le a b ≡ true → (d : ℕ) × (b -ℤ a ≡ pos d)
above a b e = by (b -ℤ a) refl
  where
    by : (z : ℤ) → b -ℤ a ≡ z → (d : ℕ) × (b -ℤ a ≡ pos d)
    by (pos d) h = (d, h)
    by (negsuc d) h = absurd (grind (arith, ints, e, h))

-- an element of the first dimension, and those of the others
abbrev Within : ℕ → Option ℤ → Type 0
Within room None = Unit {0}
Within room (Some offset) = (n : ℕ) × (offset ≡ pos n) × (n < room)

extent_is : (b : Bounds) (m : ℕ) → b.high -ℤ b.low ≡ pos m → extent b ≡ suc m
extent_is b m e = ap (λ z. unsigned_abs z + 1) e ∙ omega arith

further : (so_far room m d : ℕ) → so_far < room → d ≤ m → so_far * suc m + d < room * suc m
further so_far room m d less few =
    let more : suc so_far * suc m ≤ room * suc m = mul-le-mul {n₁ = suc so_far} {m₁ = suc m} {n₂ = room} {m₂ = suc m} (omega (arith, less)) (omega arith) in
    grind (arith, more, few)

offset_within : (so_far room : ℕ) (bounds : List Bounds) (xs : List ℤ) → so_far < room → list_all (λ b. int_le b.low b.high) bounds ≡ true →
    Within (room * elements bounds) (offset_of (pos so_far) bounds xs)
offset_within so_far room [] xs less ok = (so_far, refl, omega (arith, less))
offset_within so_far room (b ∷ bounds) [] less ok = tt
offset_within so_far room (b ∷ bounds) (x ∷ xs) less ok = by (int_le b.low x && int_le x b.high) refl
    (λ n room less. offset_within n room bounds xs less (and_true (int_le b.low b.high) (list_all (λ b. int_le b.low b.high) bounds) ok).1)
  where
    by : (t : Bool) → (int_le b.low x && int_le x b.high) ≡ t → ((n room : ℕ) → n < room → Within (room * elements bounds) (offset_of (pos n) bounds xs)) →
        Within (room * (extent b * elements bounds))
        (if t then offset_of (pos so_far *ℤ (b.high -ℤ b.low +ℤ pos 1) +ℤ (x -ℤ b.low)) bounds xs else None)
    by false e go = tt
    by true e go =
        let both = and_true (int_le b.low x) (int_le x b.high) e in
        let wide = above b.low b.high (and_true (int_le b.low b.high) (list_all (λ b. int_le b.low b.high) bounds) ok).0 in
        let far = above b.low x both.0 in
        let rest = above x b.high both.1 in
        let m = wide.0 in
        let d = far.0 in
        let few : d ≤ m = grind (arith, ints, wide.1, far.1, rest.1) in
        let size : b.high -ℤ b.low +ℤ pos 1 ≡ pos (suc m) = ap (λ z. z +ℤ pos 1) wide.1 ∙ grind (arith, ints) in
        let next : pos so_far *ℤ (b.high -ℤ b.low +ℤ pos 1) +ℤ (x -ℤ b.low) ≡ pos (so_far * suc m + d) =
        ap (λ z. pos so_far *ℤ z +ℤ (x -ℤ b.low)) size ∙ (ap (λ z. pos so_far *ℤ pos (suc m) +ℤ z) far.1 ∙ grind (arith, ints)) in
        let there = go (so_far * suc m + d) (room * suc m) (further so_far room m d less few) in
        let product : room * suc m * elements bounds ≡ room * (extent b * elements bounds) =
        mul_assoc room (suc m) (elements bounds) ∙ ap (λ k. room * (k * elements bounds)) (sym (extent_is b m wide.1)) in
        subst (λ z. Within (room * (extent b * elements bounds)) (offset_of z bounds xs)) (sym next)
        (subst (λ k. Within k (offset_of (pos (so_far * suc m + d)) bounds xs)) product there)

small_is : (n : ℕ) → n < 65536 → IsValueOf (kind.Fixed 31) (cell.Fixed 31 (pos n))
small_is n less = record {
  is_value = ((omega arith, omega arith), record { low = grind (arith, ints, less); high = grind (arith, ints, less) });
  same_kind = refl;
}

index_gives : (room : ℕ) (offset : Option ℤ) → room ≤ 65536 → Within room offset → Gives (kind.Fixed 31) (index_of offset)
index_gives room None few w = tt
index_gives room (Some offset) few w =
    let less = w.2 in
    subst (λ z. IsValueOf (kind.Fixed 31) (cell.Fixed 31 z)) (sym w.1) (small_is w.0 (omega (arith, few, less)))

-- as many subscripts as there are dimensions, all of them FIXED
fixed_ends : (n : ℕ) (s : Shape) → v2 (replicate n SomeFixed) s ≡ true → (n ≤ length s) × (list_all is_fixed (take n s) ≡ true)
fixed_ends zero s e = (omega arith, refl)
fixed_ends (suc n) [] e = cc
fixed_ends (suc n) (k ∷ s) e =
    let both = and_true (is_fixed k) (v2 (replicate n SomeFixed) s) e in
    let more = fixed_ends n s both.1 in
    let less = more.0 in
    (omega (arith, less), rw (both.0, more.1) refl)

numbers_are : (o : Object) (rs : List ℕ) (s : Shape) (xs : List Cell) → list_all is_fixed s ≡ true → AllZip (Suits o rs) s xs → (ns : List ℤ) × (numbers_of xs ≡ Some ns)
numbers_are o rs [] [] e z = ([], refl)
numbers_are o rs [] (x ∷ xs) e z = absurd z
numbers_are o rs (k ∷ s) [] e z = absurd z
numbers_are o rs (k ∷ s) (x ∷ xs) e z =
    let both = and_true (is_fixed k) (list_all is_fixed s) e in
    let n = number_is o rs k x both.0 z.0 in
    let more = numbers_are o rs s xs both.1 z.1 in
    (n.0 ∷ more.0, ap (option_and_then (λ n. option_map (λ ns. n ∷ ns) (numbers_of xs))) n.1 ∙ ap (option_map (λ ns. n.0 ∷ ns)) more.1)

pub index_sound : (o : Object) (f : Frame) (lower : List Frame) (code : Code) (s : Shape) (bounds : List Bounds) → Here o f lower code (Index bounds) s →
    IsSound o (act o (Index bounds) f lower)
index_sound o f lower code s bounds h =
    let rs = f.routine ∷ routines_of lower in
    let n = length bounds in
    let ends = fixed_ends n s h.keeps.ends in
    let limits = and_true _ (nat_le (elements bounds) 65536) h.keeps.limits in
    let ok = and_true _ (list_all (λ b. int_le b.low b.high) bounds) limits.0 in
    taken_goes o (Suits o rs) n s f.operands (λ xs left.
    given (numbers_of xs) (λ ns. makes f lower left (index_of (offset_of (pos 0) bounds ns)))) ends.0 h.stands.operands (λ xs left there under.
    let ns = numbers_are o rs (reverse (take n s)) xs (all_reversed is_fixed (take n s) ends.1) there in
    given_goes o ns.0 (numbers_of xs) _ ns.1
    (makes_goes o f lower left (index_of (offset_of (pos 0) bounds ns.0)) (kind.Fixed 31)
    (index_gives (1 * elements bounds) (offset_of (pos 0) bounds ns.0) (let few = leb-true (elements bounds) 65536 limits.1 in omega (arith, few))
    (offset_within 0 1 bounds ns.0 (omega arith) ok.1)) (λ x fits.
    goes o f lower code (Index bounds) s h f.cells (x ∷ left) (Plain (kind.Fixed 31) ∷ drop n s) refl
    (ap (λ n. Plain (kind.Fixed 31) ∷ drop n s) (sym (length-replicate n SomeFixed))) h.stands.cells (fits, under))))
