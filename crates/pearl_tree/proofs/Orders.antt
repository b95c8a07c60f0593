-- The orders of the tables' keys, and that rising keys have one row each.
use Rattle.std.proofs.Common.{◌≡◌, ℕ, ◌≤◌, Bool, true, false, cond, eqb, ltb, List, [], ◌∷◌, length, take, refl, sym, ap, ◌∙◌, arith}
use Rattle.std.specs.List.{All, Contains}
use Rattle.std.proofs.lemmas.Bool.{false≢true, lt-ltb, ltb-true, le-ltb, eq-eqb}
use Rattle.std.proofs.lemmas.Bool.Decides.{nat_tests}
use Rattle.std.proofs.lemmas.List.{take_all}
use Rattle.std.proofs.lemmas.List.Elements.{All-same}
use Rattle.pearl_tree.specs.declared.word.WordRow.{WordRow}
use Rattle.pearl_tree.specs.declared.operator.OpRow.{OpRow}
use Rattle.pearl_tree.specs.Rising.{rises}
use Rattle.pearl_tree.specs.Words.{comes_before, text_before}
use Rattle.pearl_tree.specs.Operators.{key_before, HasKey}
use Rattle.pearl_tree.proofs.Rising.{IsTransitive, same_element}

ltb_trans : (a b c : ℕ) → ltb a b ≡ true → ltb b c ≡ true → ltb a c ≡ true
ltb_trans a b c p q = lt-ltb a c (omega (arith, ltb-true a b p, ltb-true b c q))

-- an order by a number first is transitive if the rest is
step_trans : (a b c : ℕ) (p q r : Bool) → (p ≡ true → q ≡ true → r ≡ true) → cond (eqb a b) p (ltb a b) ≡ true → cond (eqb b c) q (ltb b c) ≡ true → cond (eqb a c) r (ltb a c) ≡ true
step_trans a b c p q r rest ab bc = grind (arith, nat_tests)

step_same : (a b : ℕ) (p : Bool) → a ≡ b → p ≡ false → cond (eqb a b) p (ltb a b) ≡ false
step_same a b p e h = rw (eq-eqb a b e) h

comes_before-trans : (x y z : List ℕ) → comes_before x y ≡ true → comes_before y z ≡ true → comes_before x z ≡ true
comes_before-trans [] [] z p q = absurd (false≢true p)
comes_before-trans [] (b ∷ y) [] p q = absurd (false≢true q)
comes_before-trans [] (b ∷ y) (c ∷ z) p q = refl
comes_before-trans (a ∷ x) [] z p q = absurd (false≢true p)
comes_before-trans (a ∷ x) (b ∷ y) [] p q = absurd (false≢true q)
comes_before-trans (a ∷ x) (b ∷ y) (c ∷ z) p q = step_trans a b c (comes_before x y) (comes_before y z) (comes_before x z) (comes_before-trans x y z) p q

comes_before-same : (x : List ℕ) → comes_before x x ≡ false
comes_before-same [] = refl
comes_before-same (a ∷ x) = step_same a a (comes_before x x) refl (comes_before-same x)

text_before-trans : IsTransitive text_before
text_before-trans a b c p q = comes_before-trans a.text.now b.text.now c.text.now p q

text_before-same : (a b : WordRow) → a.text.now ≡ b.text.now → text_before a b ≡ false
text_before-same a b e = ap (λ t. comes_before a.text.now t) (sym e) ∙ comes_before-same a.text.now

pub one_word : (rows : List WordRow) → rises text_before rows ≡ true → (a b : WordRow) → a.text.now ≡ b.text.now → Contains rows a → Contains rows b → a ≡ b
one_word rows h a b e = same_element text_before text_before-trans rows h a b (text_before-same a b e) (text_before-same b a (sym e))

key_before-trans : IsTransitive key_before
key_before-trans a b c p q =
    step_trans a.code b.code c.code _ _ _
    (step_trans a.left b.left c.left _ _ _ (ltb_trans a.right b.right c.right)) p q

key_before-same : (a b : OpRow) → a.code ≡ b.code → a.left ≡ b.left → a.right ≡ b.right → key_before a b ≡ false
key_before-same a b same_code same_left same_right =
    step_same a.code b.code _ same_code (step_same a.left b.left _ same_left (le-ltb a.right b.right (omega (arith, same_right))))

pub one_op : (rows : List OpRow) → rises key_before rows ≡ true → (code left right : ℕ) (a b : OpRow) → HasKey a code left right → HasKey b code left right → Contains rows a → Contains rows b → a ≡ b
one_op rows h code left right a b is_a is_b =
    let same_code : a.code ≡ b.code = is_a.0 ∙ sym is_b.0 in
    let same_left : a.left ≡ b.left = is_a.1 ∙ sym is_b.1 in
    let same_right : a.right ≡ b.right = is_a.2 ∙ sym is_b.2 in
    same_element key_before key_before-trans rows h a b
    (key_before-same a b same_code same_left same_right) (key_before-same b a (sym same_code) (sym same_left) (sym same_right))

-- what holds of all that a loop has passed, when it has passed all
pub All-passed : {X : Type 0} (P : X → Type 0) (xs : List X) (i : ℕ) → length xs ≤ i → All P (take i xs) → All P xs
All-passed P xs i h all = All-same P xs (take i xs) (sym (take_all i xs h)) all
