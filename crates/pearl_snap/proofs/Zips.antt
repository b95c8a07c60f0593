-- Values that are tested beside the kinds of a table, entry by entry.
use Rattle.std.proofs.Common.{◌≡◌, ℕ, zero, suc, ◌+◌, ◌-◌, ◌≤◌, ◌<◌, List, [], ◌∷◌, ◌++◌, length, take, drop, get_or, sym, ap, subst, arith, add-one, drop-cons, length-drop}
use Rattle.std.proofs.lemmas.List.{take_all}
use Rattle.std.specs.Prelude.{replicate}
use Rattle.std.specs.List.{AllByRecursion, AllZip, flat_map}

-- ---- members of a part

pub front_all : {X : Type 0} (P : X → Type 0) (n : ℕ) (xs : List X) → AllByRecursion P xs → AllByRecursion P (take n xs)
front_all P zero xs h = tt
front_all P (suc n) [] h = tt
front_all P (suc n) (x ∷ xs) h = (h.0, front_all P n xs h.1)

pub rest_all : {X : Type 0} (P : X → Type 0) (n : ℕ) (xs : List X) → AllByRecursion P xs → AllByRecursion P (drop n xs)
rest_all P zero xs h = h
rest_all P (suc n) [] h = tt
rest_all P (suc n) (x ∷ xs) h = rest_all P n xs h.1

-- all behind so many
pub behind : {X : Type 0} (n : ℕ) (xs : List X) → take (length xs - n) (drop n xs) ≡ drop n xs
behind n xs = take_all (length xs - n) (drop n xs) (omega (arith, length-drop n xs))

-- ---- so many of one kind, and then others

module _ {K X : Type 0} (R : K → X → Type 0) where
  -- what stands beside one kind, so many times, and then others
  pub record Front (k : K) (n : ℕ) (ks : List K) (xs : List X) : Type 0 where
    pub enough : n ≤ length xs
    pub front : AllByRecursion (R k) (take n xs)
    pub rest : AllZip R ks (drop n xs)

  pub joined : (k : K) (n : ℕ) (ks : List K) (xs : List X) → Front k n ks xs → AllZip R (replicate n k ++ ks) xs
  joined k zero ks xs h = h.rest
  joined k (suc n) ks [] h = let le = h.enough in absurd (omega (arith, le))
  joined k (suc n) ks (x ∷ xs) h =
      let le = h.enough in (h.front.0, joined k n ks xs (record { enough = omega (arith, le); front = h.front.1; rest = h.rest }))

  pub parted : (k : K) (n : ℕ) (ks : List K) (xs : List X) → AllZip R (replicate n k ++ ks) xs → Front k n ks xs
  parted k zero ks xs h = record { enough = omega arith; front = tt; rest = h }
  parted k (suc n) ks [] h = absurd h
  parted k (suc n) ks (x ∷ xs) h =
      let r = parted k n ks xs h.1 in let le = r.enough in record { enough = omega (arith, le); front = (h.0, r.front); rest = r.rest }

-- ---- a table's entries, each of which has kinds

module _ {Y K X : Type 0} (kinds : Y → List K) (R : K → X → Type 0) where
  -- the whole suits exactly if what is left suits the entries from here on
  pub record Suits (ys : List Y) (xs : List X) (i : ℕ) (rest : List X) : Type 0 where
    pub all : AllZip R (flat_map kinds (drop i ys)) rest → AllZip R (flat_map kinds ys) xs
    pub left : AllZip R (flat_map kinds ys) xs → AllZip R (flat_map kinds (drop i ys)) rest

  pub cut : (ys : List Y) (i : ℕ) (y : Y) → i < length ys → y ≡ get_or ys i y → drop i ys ≡ y ∷ drop (i + 1) ys
  cut ys i y less is = rw (add-one, drop-cons ys i y) (ap (λ z. z ∷ drop (suc i) ys) (sym is))

  -- at one entry
  pub entry : (ys : List Y) (xs : List X) (i : ℕ) (y : Y) (rest : List X) → i < length ys → y ≡ get_or ys i y → Suits ys xs i rest
      → AllZip R (flat_map kinds ys) xs → AllZip R (kinds y ++ flat_map kinds (drop (i + 1) ys)) rest
  entry ys xs i y rest less is s h = subst (λ zs. AllZip R (flat_map kinds zs) rest) (cut ys i y less is) (s.left h)

  -- behind one entry, whose values are gone
  pub suits_step : (ys : List Y) (xs : List X) (i : ℕ) (y : Y) (rest later : List X) → i < length ys → y ≡ get_or ys i y
      → (AllZip R (flat_map kinds (drop (i + 1) ys)) later → AllZip R (kinds y ++ flat_map kinds (drop (i + 1) ys)) rest)
      → (AllZip R (kinds y ++ flat_map kinds (drop (i + 1) ys)) rest → AllZip R (flat_map kinds (drop (i + 1) ys)) later)
      → Suits ys xs i rest → Suits ys xs (i + 1) later
  suits_step ys xs i y rest later less is join part s =
      let e = cut ys i y less is in
      record {
        all = λ h. s.all (subst (λ zs. AllZip R (flat_map kinds zs) rest) (sym e) (join h));
        left = λ h. part (entry ys xs i y rest less is s h);
      }

-- ---- a table's entries, each of which has one kind, so many times

module _ {Y K X : Type 0} (count : Y → ℕ) (kind : Y → K) (R : K → X → Type 0) where
  abbrev pub times : Y → List K
  times y = replicate (count y) (kind y)

  -- too few are left for an entry
  pub short : (ys : List Y) (xs : List X) (i : ℕ) (y : Y) (rest : List X) → i < length ys → y ≡ get_or ys i y → Suits times R ys xs i rest
      → length rest < count y → AllZip R (flat_map times ys) xs → ⊥
  short ys xs i y rest less is s few h =
      let f = parted R (kind y) (count y) (flat_map times (drop (i + 1) ys)) rest (entry times R ys xs i y rest less is s h) in
      let le = f.enough in omega (arith, le)

  -- those of an entry are not of its kind
  pub unlike : (ys : List Y) (xs : List X) (i : ℕ) (y : Y) (rest : List X) → i < length ys → y ≡ get_or ys i y → Suits times R ys xs i rest
      → (AllByRecursion (R (kind y)) (take (count y) rest) → ⊥) → AllZip R (flat_map times ys) xs → ⊥
  unlike ys xs i y rest less is s none h =
      none (parted R (kind y) (count y) (flat_map times (drop (i + 1) ys)) rest (entry times R ys xs i y rest less is s h)).front

  -- those of an entry are of its kind
  pub alike : (ys : List Y) (xs : List X) (i : ℕ) (y : Y) (rest : List X) → i < length ys → y ≡ get_or ys i y → Suits times R ys xs i rest
      → count y ≤ length rest → AllByRecursion (R (kind y)) (take (count y) rest) → Suits times R ys xs (i + 1) (drop (count y) rest)
  alike ys xs i y rest less is s enough front =
      let later = flat_map times (drop (i + 1) ys) in
      suits_step times R ys xs i y rest (drop (count y) rest) less is
      (λ h. joined R (kind y) (count y) later rest (record { enough = enough; front = front; rest = h }))
      (λ h. (parted R (kind y) (count y) later rest h).rest) s
