-- What tests that are joined by `or` say.
use Rattle.std.proofs.Common.{◌≡◌, Bool, true, false, ◌||◌, ◌&&◌, not, refl, sym, true≢false}

pub by_case : (P : Type 0) (b : Bool) → (b ≡ true → P) → (b ≡ false → P) → P
by_case P true f g = f refl
by_case P false f g = g refl

pub or_left : (a b : Bool) → a ≡ true → (a || b) ≡ true
or_left true b h = refl
or_left false b h = absurd (true≢false (sym h))

pub or_right : (a b : Bool) → b ≡ true → (a || b) ≡ true
or_right true b h = refl
or_right false b h = h

pub or_rest : (a b : Bool) → a ≡ false → (a || b) ≡ true → b ≡ true
or_rest true b h u = absurd (true≢false h)
or_rest false b h u = u

pub nor_left : (a b : Bool) → (a || b) ≡ false → a ≡ false
nor_left true b h = h
nor_left false b h = refl

pub nor_right : (a b : Bool) → (a || b) ≡ false → b ≡ false
nor_right true b h = absurd (true≢false h)
nor_right false b h = h

pub and_left : (a b : Bool) → (a && b) ≡ true → a ≡ true
and_left true b h = refl
and_left false b h = h

pub and_right : (a b : Bool) → (a && b) ≡ true → b ≡ true
and_right true b h = h
and_right false b h = absurd (true≢false (sym h))

pub nand : (a b : Bool) → (a && b) ≡ false → a ≡ true → b ≡ false
nand true b h u = h
nand false b h u = absurd (true≢false (sym u))

pub not_true : (a : Bool) → not a ≡ true → a ≡ false
not_true true h = absurd (true≢false (sym h))
not_true false h = refl

pub not_false : (a : Bool) → not a ≡ false → a ≡ true
not_false true h = refl
not_false false h = absurd (true≢false h)

pub true_not : (a : Bool) → a ≡ false → not a ≡ true
true_not true h = absurd (true≢false h)
true_not false h = refl

pub false_not : (a : Bool) → a ≡ true → not a ≡ false
false_not true h = refl
false_not false h = absurd (true≢false (sym h))

pub both : (a b : Bool) → a ≡ true → b ≡ true → (a && b) ≡ true
both true b h u = u
both false b h u = h

pub not_both : (a b : Bool) → (a ≡ true → b ≡ true → ⊥) → (a && b) ≡ false
not_both true true h = absurd (h refl refl)
not_both true false h = refl
not_both false b h = refl

pub is_false : (a : Bool) → (a ≡ true → ⊥) → a ≡ false
is_false true h = absurd (h refl)
is_false false h = refl
