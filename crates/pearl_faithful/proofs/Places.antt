-- What holds at each place of a part of the code, and where jumps lead.
use Rattle.std.proofs.Common.{◌≡◌, ℕ, zero, suc, ◌+◌, ◌<◌, ◌≤◌, ◌⊎◌, Bool, true, false, List, [], ◌∷◌, Some, slice_get, length, refl, sym, ap, ◌∙◌, subst, arith, eq-eqb, eqb-true, ltb-true, ltb-false}
use Rattle.std.specs.Prelude.{◌||◌, ◌==◌, ◌&&◌, nat_lt, is_some}
use Rattle.std.specs.List.{AllByRecursion, list_all, list_any}
use Rattle.std.proofs.lemmas.Option.{same_Some, slice_get_within}
use Rattle.pearl_instructions.specs.declared.instr.Instr.{Instr}
use Rattle.pearl_instructions.specs.declared.instr.Instr.TheVariants.{Const, Load, Conv, Index, LoadAt, Read, ReadAt, RefSlot, RefSlotAt, RefCell, RefCellAt, ReadRef, Call, Within, NonZero, Monadic, Dyadic, Now, Try, Take, Turn}
use Rattle.pearl_instructions.specs.declared.object.Parts.{Parts as Object}
use Rattle.pearl_instructions.specs.Objects.{result_of}
use Rattle.pearl_instructions.specs.Valid.{targets, is_named}

-- an instruction leaves an operand
abbrev pub pushes : Object → Instr → Bool
pushes o (Const x) = true
pushes o (Load c) = true
pushes o (Conv to) = true
pushes o (Index bounds) = true
pushes o (LoadAt c n) = true
pushes o (Read v) = true
pushes o (ReadAt v) = true
pushes o (RefSlot v) = true
pushes o (RefSlotAt v) = true
pushes o (RefCell c) = true
pushes o (RefCellAt c n) = true
pushes o ReadRef = true
pushes o (Call p) = is_some (result_of o p)
pushes o (Within c) = true
pushes o NonZero = true
pushes o (Monadic op) = true
pushes o (Dyadic op) = true
pushes o Now = true
pushes o (Try semaphore) = true
pushes o (Take d) = true
pushes o instr = false

-- such an instruction doesn't jump
pub pushing_stays : (o : Object) (instr : Instr) → pushes o instr ≡ true → targets instr ≡ []
pushing_stays o instr is = by instr is
  where
    by : (instr : Instr) → pushes o instr ≡ true → targets instr ≡ []
    by (Const x) is = refl
    by (Load c) is = refl
    by (Conv to) is = refl
    by (Index bounds) is = refl
    by (LoadAt c n) is = refl
    by (Read v) is = refl
    by (ReadAt v) is = refl
    by (RefSlot v) is = refl
    by (RefSlotAt v) is = refl
    by (RefCell c) is = refl
    by (RefCellAt c n) is = refl
    by ReadRef is = refl
    by (Call p) is = refl
    by (Within c) is = refl
    by NonZero is = refl
    by (Monadic op) is = refl
    by (Dyadic op) is = refl
    by Now is = refl
    by (Try semaphore) is = refl
    by (Take d) is = refl
    by instr is = cc

module _ (instrs : List Instr) where
  -- this holds of each instruction from a place up to another
  abbrev pub Every : (P : ℕ → Instr → Type 0) → (from to : ℕ) → Type 0
  Every P from to = (j : ℕ) (instr : Instr) → from ≤ j → j < to → slice_get instrs j ≡ Some instr → P j instr

  -- no instruction that leaves an operand stands before a place
  abbrev pub IsBare : Object → (place : ℕ) → Type 0
  IsBare o place = (q : ℕ) (instr : Instr) → q + 1 ≡ place → slice_get instrs q ≡ Some instr → pushes o instr ≡ false

  -- A jump may lead there: forward or to a Turn, and where there is no operand.
  pub record LeadsWell (o : Object) (from place : ℕ) : Type 0 where
    pub inside : place < length instrs
    pub onward : (from < place) ⊎ (slice_get instrs place ≡ Some Turn)
    pub bare : IsBare o place

  -- all jumps of an instruction
  abbrev pub AllLead : Object → (j : ℕ) → Instr → Type 0
  AllLead o j instr = AllByRecursion (LeadsWell o j) (targets instr)

  module _ (P : ℕ → Instr → Type 0) where
    pub nowhere : (from to : ℕ) → to ≡ from → Every P from to
    nowhere from to same j instr low high is = absurd (omega (arith, same, low, high))

    pub at_one : (place to : ℕ) (here : Instr) → to ≡ place + 1 → slice_get instrs place ≡ Some here → P place here → Every P place to
    at_one place to here last is holds j instr low high there =
        let same : place ≡ j = omega (arith, last, low, high) in
        let it : here ≡ instr = same_Some here instr (sym is ∙ (ap (λ n. slice_get instrs n) same ∙ there)) in
        subst (λ j. P j instr) same (subst (P place) it holds)

    pub both : (from middle to : ℕ) → Every P from middle → Every P middle to → Every P from to
    both from middle to one two j instr low high is = by (nat_lt j middle) refl
      where
        by : (test : Bool) → nat_lt j middle ≡ test → P j instr
        by true t = one j instr low (ltb-true j middle t) is
        by false t = two j instr (ltb-false j middle t) high is

    -- and one instruction behind it
    pub then_at : (from end to : ℕ) (here : Instr) → Every P from end → to ≡ end + 1 → slice_get instrs end ≡ Some here → P end here → Every P from to
    then_at from end to here one last is holds = both from end to one (at_one end to here last is holds)

  pub all_less : (P Q : ℕ → Instr → Type 0) (from to : ℕ) → ((j : ℕ) (instr : Instr) → P j instr → Q j instr) → Every P from to → Every Q from to
  all_less P Q from to less all j instr low high is = less j instr (all j instr low high is)

-- WHAT IS NAMED

named_in : (P : ℕ → Type 0) (ts : List ℕ) (place : ℕ) → AllByRecursion P ts → list_any (λ t. t == place) ts ≡ true → P place
named_in P [] place all any = cc
named_in P (t ∷ ts) place all any = by (t == place) refl (named_in P ts place all.1) any
  where
    by : (test : Bool) → (t == place) ≡ test → (list_any (λ t. t == place) ts ≡ true → P place) → test || list_any (λ t. t == place) ts ≡ true → P place
    by true same more any = subst P (eqb-true t place same) all.0
    by false same more any = more any

named_by : (instrs : List Instr) (place : ℕ) → is_named instrs place ≡ true →
    (j : ℕ) × (instr : Instr) × (slice_get instrs j ≡ Some instr) × (list_any (λ t. t == place) (targets instr) ≡ true)
named_by [] place is = cc
named_by (here ∷ instrs) place is = by (list_any (λ t. t == place) (targets here)) refl (named_by instrs place) is
  where
    by : (test : Bool) → list_any (λ t. t == place) (targets here) ≡ test →
        (is_named instrs place ≡ true → (j : ℕ) × (instr : Instr) × (slice_get instrs j ≡ Some instr) × (list_any (λ t. t == place) (targets instr) ≡ true)) →
        test || is_named instrs place ≡ true →
        (j : ℕ) × (instr : Instr) × (slice_get (here ∷ instrs) j ≡ Some instr) × (list_any (λ t. t == place) (targets instr) ≡ true)
    by true same more is = (zero, here, refl, same)
    by false same more is = let found = more is in (suc found.0, found.1, found.2, found.3)

-- what an instruction of the code names is named
pub is_named_by : (instrs : List Instr) (j : ℕ) (instr : Instr) (place : ℕ) → slice_get instrs j ≡ Some instr → list_any (λ t. t == place) (targets instr) ≡ true → is_named instrs place ≡ true
is_named_by [] j instr place is names = cc
is_named_by (here ∷ instrs) zero instr place is names = ap (λ test. test || is_named instrs place) (ap (λ instr. list_any (λ t. t == place) (targets instr)) (same_Some here instr is) ∙ names)
is_named_by (here ∷ instrs) (suc j) instr place is names = by (list_any (λ t. t == place) (targets here)) (is_named_by instrs j instr place is names)
  where
    by : (test : Bool) → is_named instrs place ≡ true → test || is_named instrs place ≡ true
    by true is = refl
    by false is = is

is_there : (instrs : List Instr) (q : ℕ) → q < length instrs → (instr : Instr) × (slice_get instrs q ≡ Some instr)
is_there [] q less = absurd (omega (arith, less))
is_there (here ∷ instrs) zero less = (here, refl)
is_there (here ∷ instrs) (suc q) less = is_there instrs q (omega (arith, less))

-- No jump leads behind an instruction that leaves an operand.
pub not_named : (o : Object) (instrs : List Instr) → Every instrs (AllLead instrs o) 0 (length instrs) → (q : ℕ) →
    ((instr : Instr) → slice_get instrs q ≡ Some instr → pushes o instr ≡ true) → is_named instrs (q + 1) ≡ false
not_named o instrs all q pushing = by (is_named instrs (q + 1)) refl
  where
    by : (test : Bool) → is_named instrs (q + 1) ≡ test → test ≡ false
    by false same = refl
    by true same =
        let found = named_by instrs (q + 1) same in
        let leads = named_in (LeadsWell instrs o found.0) (targets found.1) (q + 1) (all found.0 found.1 (omega arith) (slice_get_within instrs found.0 found.1 found.2) found.2) found.3 in
        let less = leads.inside in
        let there = is_there instrs q (omega (arith, less)) in
        let one = pushing there.0 there.1 in
        let none = leads.bare q there.0 refl there.1 in
        cc

-- a test of all places that an instruction names
pub each_named : (test : ℕ → Bool) (ts : List ℕ) → ((t : ℕ) → list_any (λ x. x == t) ts ≡ true → test t ≡ true) → list_all test ts ≡ true
each_named test [] holds = refl
each_named test (t ∷ ts) holds = by (test t) (list_all test ts) (holds t (first t)) (each_named test ts (λ x any. holds x (later x any)))
  where
    by : (a b : Bool) → a ≡ true → b ≡ true → a && b ≡ true
    by true b e f = f
    by false b e f = cc

    first : (t : ℕ) → (t == t) || list_any (λ x. x == t) ts ≡ true
    first t = ap (λ test. test || list_any (λ x. x == t) ts) (eq-eqb t t refl)

    later : (x : ℕ) → list_any (λ y. y == x) ts ≡ true → (t == x) || list_any (λ y. y == x) ts ≡ true
    later x any = or_any (t == x) any
      where
        or_any : (a : Bool) → list_any (λ y. y == x) ts ≡ true → a || list_any (λ y. y == x) ts ≡ true
        or_any true any = refl
        or_any false any = any

-- the same of what holds of each
pub each_leads : (P : ℕ → Type 0) (test : ℕ → Bool) (ts : List ℕ) → AllByRecursion P ts → ((t : ℕ) → P t → test t ≡ true) → list_all test ts ≡ true
each_leads P test [] all holds = refl
each_leads P test (t ∷ ts) all holds = by (test t) (list_all test ts) (holds t all.0) (each_leads P test ts all.1 holds)
  where
    by : (a b : Bool) → a ≡ true → b ≡ true → a && b ≡ true
    by true b e f = f
    by false b e f = cc
