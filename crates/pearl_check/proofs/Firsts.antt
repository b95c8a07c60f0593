-- The first of some faults, and of others behind them.
use Rattle.std.proofs.Common.{◌≡◌, ℕ, Bool, true, false, ◌&&◌, ◌||◌, ◌==◌, nat_lt, if◌then◌else◌, List, [], ◌∷◌, ◌++◌, Option, Some, None, refl, ap, sym, ◌∙◌, arith, true≢false}
use Rattle.std.proofs.lemmas.Bool.Decides.{nat_tests}
use Rattle.pearl_tree.specs.declared.fault.RuleFault.{RuleFault}
use Rattle.pearl_tree.specs.Faults.{fault_if}
use Rattle.pearl_check.specs.Weighing.{comes_before}
use Rattle.pearl_check.specs.Rules.{is_before, earlier, earlier_of, first}

through : (a b c d e f : ℕ) → (nat_lt c a || ((c == a) && nat_lt d b)) ≡ true → (nat_lt e c || ((e == c) && nat_lt f d)) ≡ true →
    (nat_lt e a || ((e == a) && nat_lt f b)) ≡ true
through a b c d e f p q = grind (arith, nat_tests)

neither : (a b c d e f : ℕ) → (nat_lt c a || ((c == a) && nat_lt d b)) ≡ false → (nat_lt e c || ((e == c) && nat_lt f d)) ≡ false →
    (nat_lt e a || ((e == a) && nat_lt f b)) ≡ false
neither a b c d e f p q = grind (arith, nat_tests)

choose : {X : Type 0} (a b c : X) (x y z : Bool) → (x ≡ true → y ≡ true → z ≡ true) → (x ≡ false → y ≡ false → z ≡ false) →
    (if y then (if z then c else a) else (if x then b else a)) ≡ (if x then (if y then c else b) else (if z then c else a))
choose a b c true true z both none = ap (λ z. if z then c else a) (both refl refl)
choose a b c true false z both none = refl
choose a b c false true z both none = refl
choose a b c false false z both none = sym (ap (λ z. if z then c else a) (none refl refl))

inner : (a b c : RuleFault) (y : Bool) → earlier a (Some (if y then c else b)) ≡ (if y then earlier a (Some c) else earlier a (Some b))
inner a b c true = refl
inner a b c false = refl

outer : (a b c : RuleFault) (x : Bool) → earlier (if x then b else a) (Some c) ≡ (if x then earlier b (Some c) else earlier a (Some c))
outer a b c true = refl
outer a b c false = refl

-- the earliest of three is found in any grouping
earlier_assoc : (a b : RuleFault) (c : Option RuleFault) → earlier a (Some (earlier b c)) ≡ earlier (earlier a (Some b)) c
earlier_assoc a b None = refl
earlier_assoc a b (Some c) =
    inner a b c (is_before c b)
    ∙ choose a b c (is_before b a) (is_before c b) (is_before c a)
    (through a.place a.rule b.place b.rule c.place c.rule) (neither a.place a.rule b.place b.rule c.place c.rule)
    ∙ sym (outer a b c (is_before b a))

pub earlier_of-assoc : (a b c : Option RuleFault) → earlier_of a (earlier_of b c) ≡ earlier_of (earlier_of a b) c
earlier_of-assoc None b c = refl
earlier_of-assoc (Some a) None c = refl
earlier_of-assoc (Some a) (Some b) c = ap Some (earlier_assoc a b c)

pub first-append : (a b : List RuleFault) → first (a ++ b) ≡ earlier_of (first a) (first b)
first-append [] b = refl
first-append (fault ∷ rest) b = ap (earlier_of (Some fault)) (first-append rest b) ∙ earlier_of-assoc (Some fault) (first rest) (first b)

-- what is told already stays where it comes before
pub stays : (told : Option RuleFault) (place rule : ℕ) (broken : Bool) → comes_before told place ≡ true →
    earlier_of told (first (fault_if broken place rule)) ≡ told
stays None place rule broken before = absurd (true≢false (sym before))
stays (Some fault) place rule false before = refl
stays (Some fault) place rule true before =
    let later : is_before (record { place = place; rule = rule }) fault ≡ false = after fault.place fault.rule place rule before in
    ap (λ b. Some (if b then record { place = place; rule = rule } else fault)) later
  where
    after : (p r place rule : ℕ) → nat_lt p place ≡ true → (nat_lt place p || ((place == p) && nat_lt rule r)) ≡ false
    after p r place rule h = grind (arith, nat_tests)

pub none_more : (told : Option RuleFault) → earlier_of told None ≡ told
none_more None = refl
none_more (Some fault) = refl

-- some faults more, the first of which are told
pub told_more : (told next : Option RuleFault) (one more : List RuleFault) → next ≡ earlier_of told (first one) →
    earlier_of told (first (one ++ more)) ≡ earlier_of next (first more)
told_more told next one more is =
    ap (earlier_of told) (first-append one more) ∙ earlier_of-assoc told (first one) (first more) ∙ ap (λ t. earlier_of t (first more)) (sym is)
