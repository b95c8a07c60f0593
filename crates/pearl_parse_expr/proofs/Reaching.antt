-- Tokens that go on with a part as far as some number: those before it, and others behind them.
use Rattle.std.proofs.Common.{◌≡◌, ℕ, zero, suc, ◌+◌, ◌*◌, ◌<◌, ◌≤◌, max, List, [], ◌∷◌, length, Some, slice_get}
use Rattle.std.proofs.Common.{IfSome, refl, sym, ap, subst, ◌∙◌, arith, ◌⊎◌, inl, inr}
use Rattle.std.specs.Option.{option_map}
use Rattle.pearl_tree.specs.Tokens.{IsLawfulWhat}
use Rattle.pearl_tree.specs.declared.token.What.{What}
use Rattle.pearl_tree.specs.declared.token.Token.{Token}
use Rattle.pearl_tree.specs.Standing.{Spelling, what_at, place_at, IsAt}
use Rattle.pearl_parse_expr.specs.declared.reading.Halt.{Halt}
use Rattle.pearl_parse_expr.specs.declared.reading.Halt.TheVariants.{Refused, NoMemory}
use Rattle.pearl_parse_expr.specs.Stops.{IsHalted}
use Rattle.pearl_parse_expr.specs.Least.{AlikeBefore, LawfulFrom, ReachesIn, GoesIn, HaltsIn, Reaches}
use Rattle.pearl_parse_expr.proofs.Local as local

-- these tokens before number n, and behind them others
abbrev pub begun : List Token → ℕ → List Token → List Token
begun tokens zero more = more
begun [] (suc n) more = more
begun (x ∷ xs) (suc n) more = x ∷ begun xs n more

pub begun_alike : (tokens : List Token) (n : ℕ) (more : List Token) → n ≤ length tokens →
    AlikeBefore tokens (begun tokens n more) n
begun_alike tokens zero more within j below = absurd (omega arith)
begun_alike [] (suc n) more within j below = absurd (omega arith)
begun_alike (x ∷ xs) (suc n) more within zero below = refl
begun_alike (x ∷ xs) (suc n) more within (suc j) below = begun_alike xs n more (omega arith) j (omega arith)

begun_length : (tokens : List Token) (n : ℕ) (more : List Token) → n ≤ length tokens →
    length (begun tokens n more) ≡ n + length more
begun_length tokens zero more within = omega arith
begun_length [] (suc n) more within = absurd (omega arith)
begun_length (x ∷ xs) (suc n) more within = omega (arith, begun_length xs n more (omega arith))

-- behind them the others stand
begun_at : (tokens : List Token) (n i : ℕ) (more : List Token) → n ≤ length tokens →
    slice_get (begun tokens n more) (n + i) ≡ slice_get more i
begun_at tokens zero i more within = let same : 0 + i ≡ i = omega arith in ap (slice_get more) same
begun_at [] (suc n) i more within = absurd (omega arith)
begun_at (x ∷ xs) (suc n) i more within =
    let next : suc n + i ≡ suc (n + i) = omega arith in
    ap (slice_get (x ∷ begun xs n more)) next ∙ begun_at xs n i more (omega arith)

begun_last : (tokens : List Token) (n : ℕ) (last : Token) → n ≤ length tokens →
    slice_get (begun tokens n (last ∷ [])) n ≡ Some last
begun_last tokens n last within =
    let same : n ≡ n + 0 = omega arith in
    ap (slice_get (begun tokens n (last ∷ []))) same ∙ begun_at tokens n 0 (last ∷ []) within

module _ (tokens : List Token) (n : ℕ) (more : List Token) (within : n ≤ length tokens) where
  pub stands : (i k : ℕ) → k ≡ n + i → slice_get (begun tokens n more) k ≡ slice_get more i
  stands i k is = ap (slice_get (begun tokens n more)) is ∙ begun_at tokens n i more within

  pub what_stands : (i k : ℕ) → k ≡ n + i → what_at (begun tokens n more) k ≡ what_at more i
  what_stands i k is = ap (option_map (λ token. token.what)) (stands i k is)

  pub place_stands : (i k : ℕ) → k ≡ n + i → place_at (begun tokens n more) k ≡ place_at more i
  place_stands i k is = ap (option_map (λ token. token.place)) (stands i k is)

-- ---- lawful tokens

abbrev pub Lawful : List Token → Type 0
Lawful more = LawfulFrom more 0

pub none_lawful : Lawful []
none_lawful i within = tt

pub one_lawful : (t : Token) (more : List Token) → IsLawfulWhat t.what → Lawful more → Lawful (t ∷ more)
one_lawful t more this rest zero within = this
one_lawful t more this rest (suc i) within = rest i (omega arith)

lawful_begun : (tokens : List Token) (n : ℕ) (more : List Token) → n ≤ length tokens → Lawful more →
    LawfulFrom (begun tokens n more) n
lawful_begun tokens zero more within lawful j above = lawful j above
lawful_begun [] (suc n) more within lawful j above = absurd (omega arith)
lawful_begun (x ∷ xs) (suc n) more within lawful zero above = absurd (omega arith)
lawful_begun (x ∷ xs) (suc n) more within lawful (suc j) above = lawful_begun xs n more
    (omega arith) lawful j (omega arith)

pub order : (a b : ℕ) → (a < b) ⊎ (b ≤ a)
order a zero = inr (omega arith)
order zero (suc b) = inl (omega arith)
order (suc a) (suc b) = by (order a b)
  where
    by : (a < b) ⊎ (b ≤ a) → (suc a < suc b) ⊎ (suc b ≤ suc a)
    by (inl e) = inl (omega arith)
    by (inr e) = inr (omega arith)

-- tokens that are lawful from `stop` on, up to number m, and others behind it
kept_lawful : (tokens others : List Token) (m stop : ℕ) → AlikeBefore tokens others m → LawfulFrom others m →
    LawfulFrom tokens stop → LawfulFrom others stop
kept_lawful tokens others m stop kept behind before j above = by (order j m)
  where
    by : (j < m) ⊎ (m ≤ j) → IfSome (what_at others j) IsLawfulWhat
    by (inl below) = subst (λ token. IfSome token IsLawfulWhat) (sym (local.what tokens others m kept j below))
        (before j above)
    by (inr beyond) = behind j beyond

-- ---- a part depends on the tokens before its end alone

abbrev pub IsLocal : {X : Type 0} → (List Token → Spelling X) → Type 0
IsLocal {X} spells =
    (tokens others : List Token) (k : ℕ) → AlikeBefore tokens others k → (from : ℕ) (x : X) (to : ℕ) →
    spells tokens from x to → to ≤ k → spells others from x to

-- ---- tokens made of others

module _ {X : Type 0} (spells : List Token → Spelling X) (tokens : List Token) where
  -- these tokens, and others behind them
  pub completed_in : (room from stop : ℕ) (more : List Token) (x : X) → stop ≤ length tokens →
      8 * from + length more ≤ 8 * stop + room → Lawful more →
      (AlikeBefore tokens (begun tokens stop more) stop → spells (begun tokens stop more) from x (stop + length more)) →
      ReachesIn room spells tokens from stop
  completed_in room from stop more x within few lawful spelled =
      let size : length (begun tokens stop more) ≡ stop + length more = begun_length tokens stop more within in
      record {
        others = begun tokens stop more;
        alike = begun_alike tokens stop more within;
        long = omega arith;
        short = omega arith;
        lawful = lawful_begun tokens stop more within lawful;
        part = x;
        spelled = subst (λ k. spells (begun tokens stop more) from x k) (sym size)
            (spelled (begun_alike tokens stop more within));
      }

  pub completed : (from stop : ℕ) (more : List Token) (x : X) → stop ≤ length tokens →
      8 * from + length more ≤ 8 * stop + 16 → Lawful more →
      (AlikeBefore tokens (begun tokens stop more) stop → spells (begun tokens stop more) from x (stop + length more)) →
      Reaches spells tokens from stop
  completed = completed_in 16

  -- the part that the tokens themselves spell
  pub reached : {room : ℕ} → IsLocal spells → (from : ℕ) (x : X) (to : ℕ) → spells tokens from x to → from ≤ to →
      to ≤ length tokens → ReachesIn room spells tokens from to
  reached {room} local from x to h ahead within =
      completed_in room from to [] x within (omega arith) none_lawful
      (λ alike. let same : to ≡ to + 0 = omega arith in
      subst (λ k. spells (begun tokens to []) from x k) same (local tokens (begun tokens to []) to alike
      from x to h (omega arith)))

  -- the part that was read, or another one
  pub reach_of : {room : ℕ} → IsLocal spells → (from : ℕ) (x : X) (end stop : ℕ) → spells tokens from x end →
      from ≤ end → end ≤ length tokens →
      GoesIn room spells tokens from end stop → ReachesIn room spells tokens from stop
  reach_of {room} local from x end stop h ahead within g = by g.goes
    where
      by : (stop ≡ end) ⊎ ReachesIn room spells tokens from stop → ReachesIn room spells tokens from stop
      by (inl same) = subst (λ k. ReachesIn room spells tokens from k) (sym same)
          (reached local from x end h ahead within)
      by (inr r) = r

  pub more_room : (room more from stop : ℕ) → room ≤ more → ReachesIn room spells tokens from stop →
      ReachesIn more spells tokens from stop
  more_room room more from stop below r =
      record {
        others = r.others;
        alike = r.alike;
        long = r.long;
        short = omega (arith, r.short);
        lawful = r.lawful;
        part = r.part;
        spelled = r.spelled;
      }

  pub goes : {room : ℕ} → (from end stop : ℕ) → ReachesIn room spells tokens from stop →
      GoesIn room spells tokens from end stop
  goes from end stop r = record { goes = inr r }

larger : (a b c : ℕ) → c ≡ max a b → (c ≡ a) ⊎ (c ≡ b)
larger a b c is = by (order a b)
  where
    by : (a < b) ⊎ (b ≤ a) → (c ≡ a) ⊎ (c ≡ b)
    by (inl e) = inr (omega (arith, is))
    by (inr e) = inl (omega (arith, is))

module _ {X : Type 0} {room : ℕ} (spells : List Token → Spelling X) (tokens : List Token) (from a b c : ℕ)
    (is : c ≡ max a b) (first : ReachesIn room spells tokens from a) where
  pub reaches_max : ReachesIn room spells tokens from b → ReachesIn room spells tokens from c
  reaches_max second = by (larger a b c is)
    where
      by : (c ≡ a) ⊎ (c ≡ b) → ReachesIn room spells tokens from c
      by (inl e) = subst (λ k. ReachesIn room spells tokens from k) (sym e) first
      by (inr e) = subst (λ k. ReachesIn room spells tokens from k) (sym e) second

  -- a part that was read to b, where some part goes on as far as a
  pub goes_max : GoesIn room spells tokens from b c
  goes_max = record { goes = by (larger a b c is) }
    where
      by : (c ≡ a) ⊎ (c ≡ b) → (c ≡ b) ⊎ ReachesIn room spells tokens from c
      by (inl e) = inr (subst (λ k. ReachesIn room spells tokens from k) (sym e) first)
      by (inr e) = inl e

module _ {X Y : Type 0} (spells : List Token → Spelling X) (whole : List Token → Spelling Y)
    (tokens : List Token) (from at : ℕ) where
  -- what a part from `at` makes of the tokens before it
  abbrev pub EndsIn : ℕ → ℕ → Type 0
  EndsIn room stop =
      (others : List Token) → AlikeBefore tokens others stop → stop ≤ length others →
      length others + 8 * from ≤ 9 * stop + room →
      (x : X) → spells others at x (length others) → (y : Y) × whole others from y (length others)

  -- a part that ends with another one
  pub reaches_as_in : (inner room stop : ℕ) → inner + 8 * from ≤ room + 8 * at → EndsIn room stop →
      ReachesIn inner spells tokens at stop → ReachesIn room whole tokens from stop
  reaches_as_in inner room stop fits makes r =
      let short : length r.others + 8 * from ≤ 9 * stop + room = omega (arith, r.short) in
      let made = makes r.others r.alike r.long short r.part r.spelled in
      record {
        others = r.others;
        alike = r.alike;
        long = r.long;
        short = short;
        lawful = r.lawful;
        part = made.0;
        spelled = made.1;
      }

  pub reaches_as : (stop : ℕ) → from ≤ at → EndsIn 16 stop → Reaches spells tokens at stop →
      Reaches whole tokens from stop
  reaches_as stop before = reaches_as_in 16 16 stop (omega arith)

  pub goes_as : {inner room : ℕ} → (end stop : ℕ) →
      (ReachesIn inner spells tokens at stop → ReachesIn room whole tokens from stop) →
      GoesIn inner spells tokens at end stop →
      GoesIn room whole tokens from end stop
  goes_as {inner} {room} end stop step g = record { goes = by g.goes }
    where
      by : (stop ≡ end) ⊎ ReachesIn inner spells tokens at stop → (stop ≡ end) ⊎ ReachesIn room whole tokens from stop
      by (inl h) = inl h
      by (inr h) = inr (step h)

  pub halts_as : {inner room : ℕ} → (halt : Halt) →
      ((stop : ℕ) → at ≤ stop → stop ≤ length tokens → ReachesIn inner spells tokens at stop →
      ReachesIn room whole tokens from stop) →
      IsHalted spells tokens at halt → HaltsIn inner spells tokens at halt → HaltsIn room whole tokens from halt
  halts_as NoMemory step h r = tt
  halts_as (Refused stop) step h r = step stop h.1 h.2 r

  -- what a part from `at` and one token make of the tokens before them
  abbrev pub ClosesIn : ℕ → ℕ → Token → Type 0
  ClosesIn room stop last =
      (others : List Token) → AlikeBefore tokens others stop → length others + 8 * from ≤ 9 * stop + room →
      (m : ℕ) → length others ≡ m + 1 → slice_get others m ≡ Some last → (x : X) → spells others at x m →
      (y : Y) × whole others from y (m + 1)

  -- a part that ends with another one and one token
  pub reaches_closed_in : (inner room stop : ℕ) (last : Token) → inner + 1 + 8 * from ≤ room + 8 * at →
      IsLawfulWhat last.what → ClosesIn room stop last → IsLocal spells →
      ReachesIn inner spells tokens at stop → ReachesIn room whole tokens from stop
  reaches_closed_in inner room stop last fits known makes local r =
      let m = length r.others in
      let others = begun r.others m (last ∷ []) in
      let same : m ≤ length r.others = omega arith in
      let size : length others ≡ m + 1 = begun_length r.others m (last ∷ []) same in
      let short : length others + 8 * from ≤ 9 * stop + room = omega (arith, r.short) in
      let kept : AlikeBefore r.others others m = begun_alike r.others m (last ∷ []) same in
      let alike : AlikeBefore tokens others stop = λ j below. r.alike j below ∙ kept j (omega (arith, r.long)) in
      let made = makes others alike short m size (begun_last r.others m last same) r.part
      (local r.others others m kept at r.part m r.spelled (omega arith)) in
      record {
        others = others;
        alike = alike;
        long = omega (arith, r.long);
        short = short;
        lawful = kept_lawful r.others others m stop kept (lawful_begun r.others m (last ∷ []) same
            (one_lawful last [] known none_lawful)) r.lawful;
        part = made.0;
        spelled = subst (λ k. whole others from made.0 k) (sym size) made.1;
      }

  pub reaches_closed : (stop : ℕ) (last : Token) → from < at → IsLawfulWhat last.what → ClosesIn 16 stop last →
      IsLocal spells → Reaches spells tokens at stop → Reaches whole tokens from stop
  reaches_closed stop last before = reaches_closed_in 16 16 stop last (omega arith)

pub reached_halt : {X : Type 0} {room : ℕ} (spells : List Token → Spelling X) (tokens : List Token) (from
    stop : ℕ) (halt : Halt) → halt ≡ Refused stop →
    HaltsIn room spells tokens from halt → ReachesIn room spells tokens from stop
reached_halt {X} {room} spells tokens from stop halt is h = subst (λ halt. HaltsIn room spells tokens from halt) is h

-- ---- where a token stands

pub placed : (tokens : List Token) (k : ℕ) (token : What) → what_at tokens k ≡ Some token →
    (place : ℕ) × IsAt tokens k place
placed [] k token h = cc
placed (x ∷ xs) zero token h = (x.place, refl)
placed (x ∷ xs) (suc k) token h = placed xs k token h

pub placed_within : (tokens : List Token) (k : ℕ) → k < length tokens → (place : ℕ) × IsAt tokens k place
placed_within [] k within = absurd (omega arith)
placed_within (x ∷ xs) zero within = (x.place, refl)
placed_within (x ∷ xs) (suc k) within = placed_within xs k (omega arith)

abbrev pub token_of : What → Token
token_of what = record { place = 0; what = what }
