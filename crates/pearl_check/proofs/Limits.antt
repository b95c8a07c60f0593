-- A running sum passes a limit once where the whole sum is above it, and else nowhere.
use Rattle.std.proofs.Common.{◌≡◌, ◌⊎◌, inl, inr, ℕ, ◌+◌, ◌≤◌, ◌<◌, Bool, true, false, ◌&&◌, nat_le, nat_lt, List, [], ◌∷◌, ◌++◌, length, refl, sym, ap, ◌∙◌, arith}
use Rattle.std.proofs.lemmas.Bool.{cases_lt}
use Rattle.std.proofs.lemmas.Bool.Decides.{nat_tests}
use Rattle.std.proofs.lemmas.List.Sums.{sum_by-cons}
use Rattle.pearl_tree.specs.declared.fault.RuleFault.{RuleFault}
use Rattle.pearl_tree.specs.Faults.{fault_if}
use Rattle.pearl_names.specs.Tables.{Sense}
use Rattle.pearl_check.specs.Laws.{TellsOne, TellsSizes}
use Rattle.pearl_check.specs.Sizes.{Declared, size_of, passed}

pub size_of-cons : (added : Sense → ℕ) (one : Declared) (rest : List Declared) →
    size_of added (one ∷ rest) ≡ added one.sense + size_of added rest
size_of-cons added one rest = sum_by-cons (λ (one : Declared). added one.sense) one rest

-- the test at a name, of the size before it and of what the name adds
past_no_more : (limit before more : ℕ) → limit < before → (nat_le before limit && nat_lt limit (before + more)) ≡ false
past_no_more limit before more past = grind (arith, nat_tests)

passes_here : (limit before more : ℕ) → before ≤ limit → limit < before + more → (nat_le before limit && nat_lt limit (before + more)) ≡ true
passes_here limit before more within above = grind (arith, nat_tests)

fits_here : (limit before more : ℕ) → before + more ≤ limit → (nat_le before limit && nat_lt limit (before + more)) ≡ false
fits_here limit before more fits = grind (arith, nat_tests)

told_here : (added : Sense → ℕ) (limit before : ℕ) (one : Declared) (rest : List Declared) (b : Bool) (later : List RuleFault) →
    (nat_le before limit && nat_lt limit (before + added one.sense)) ≡ b → passed added limit (before + added one.sense) rest ≡ later →
    passed added limit before (one ∷ rest) ≡ fault_if b one.name.place 34 ++ later
told_here added limit before one rest b later test behind =
    (λ i. fault_if (test i) one.name.place 34 ++ behind i)

-- past the limit nothing is told
none_past : (added : Sense → ℕ) (limit before : ℕ) (declared : List Declared) → limit < before → passed added limit before declared ≡ []
none_past added limit before [] past = refl
none_past added limit before (one ∷ rest) past =
    told_here added limit before one rest false [] (past_no_more limit before (added one.sense) past)
    (none_past added limit (before + added one.sense) rest (omega (arith, past)))

-- what is told where so much comes before
record TellsOneFrom (added : Sense → ℕ) (limit start : ℕ) (declared : List Declared) : Type 0 where
  before : List Declared
  last : Declared
  others : List Declared
  parts : declared ≡ before ++ last ∷ others
  within : start + size_of added before ≤ limit
  above : limit < start + size_of added before + added last.sense
  told : passed added limit start declared ≡ fault_if true last.name.place 34

record TellsNoneFrom (added : Sense → ℕ) (limit start : ℕ) (declared : List Declared) : Type 0 where
  within : start + size_of added declared ≤ limit
  told : passed added limit start declared ≡ []

record TellsFrom (added : Sense → ℕ) (limit start : ℕ) (declared : List Declared) : Type 0 where
  above : limit < start + size_of added declared
  one : TellsOneFrom added limit start declared

tells_from : (added : Sense → ℕ) (limit start : ℕ) (declared : List Declared) → start ≤ limit →
    TellsNoneFrom added limit start declared ⊎ TellsFrom added limit start declared
tells_from added limit start [] within = inl (record { within = let e : size_of added [] ≡ 0 = refl in omega (arith, within, e); told = refl })
tells_from added limit start (one ∷ rest) within = elim (cases_lt limit (start + added one.sense)) [
  | inl past ↦ inr (record {
    above = let e = size_of-cons added one rest in omega (arith, past, e);
    one = record {
      before = [];
      last = one;
      others = rest;
      parts = refl;
      within = let e : size_of added [] ≡ 0 = refl in omega (arith, within, e);
      above = let e : size_of added [] ≡ 0 = refl in omega (arith, past, e);
      told = told_here added limit start one rest true [] (passes_here limit start (added one.sense) within past)
          (none_past added limit (start + added one.sense) rest past);
    };
  })
  | inr fits ↦ later fits (tells_from added limit (start + added one.sense) rest fits)
]
  where
    later : start + added one.sense ≤ limit →
        TellsNoneFrom added limit (start + added one.sense) rest ⊎ TellsFrom added limit (start + added one.sense) rest →
        TellsNoneFrom added limit start (one ∷ rest) ⊎ TellsFrom added limit start (one ∷ rest)
    later fits (inl none) = inl (record {
      within = let e = size_of-cons added one rest in omega (arith, none.within, e);
      told = told_here added limit start one rest false [] (fits_here limit start (added one.sense) fits) none.told;
    })
    later fits (inr some) = inr (record {
      above = let e = size_of-cons added one rest in omega (arith, some.above, e);
      one = record {
        before = one ∷ some.one.before;
        last = some.one.last;
        others = some.one.others;
        parts = ap (λ l. one ∷ l) some.one.parts;
        within = let e = size_of-cons added one some.one.before in omega (arith, some.one.within, e);
        above = let e = size_of-cons added one some.one.before in omega (arith, some.one.above, e);
        told = told_here added limit start one rest false _ (fits_here limit start (added one.sense) fits) some.one.told;
      };
    })

pub tells_sizes : TellsSizes
tells_sizes added limit declared = by (tells_from added limit 0 declared (omega arith))
  where
    by : TellsNoneFrom added limit 0 declared ⊎ TellsFrom added limit 0 declared →
        (size_of added declared ≤ limit → passed added limit 0 declared ≡ []) × (limit < size_of added declared → TellsOne added limit declared)
    by (inl none) = (λ fits. none.told, λ above. absurd (omega (arith, none.within, above)))
    by (inr some) = (
      λ fits. absurd (omega (arith, some.above, fits)),
      λ above. record {
        before = some.one.before;
        last = some.one.last;
        others = some.one.others;
        parts = some.one.parts;
        within = omega (arith, some.one.within);
        above = omega (arith, some.one.above);
        told = some.one.told;
      },
    )

-- where nothing is told, the size is within the limit
pub within_limit : (added : Sense → ℕ) (limit : ℕ) (declared : List Declared) → passed added limit 0 declared ≡ [] → size_of added declared ≤ limit
within_limit added limit declared none = by (tells_from added limit 0 declared (omega arith))
  where
    by : TellsNoneFrom added limit 0 declared ⊎ TellsFrom added limit 0 declared → size_of added declared ≤ limit
    by (inl some) = omega (arith, some.within)
    by (inr some) = absurd (some_fault (sym none ∙ some.one.told))
      where
        some_fault : {fault : RuleFault} → [] ≡ fault ∷ [] → ⊥
        some_fault is = let e = ap length is in omega (arith, e)
