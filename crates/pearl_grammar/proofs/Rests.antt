-- What is left of a part, once its first tokens are read, told in both ways: whatever part begins as this one does goes on
-- by it, however the tokens behind a stop are replaced; and whatever tokens make it complete the part. A few make it.
use Rattle.std.specs.Option.{option_map}
use Rattle.std.proofs.Common.{◌≡◌, ℕ, zero, suc, ◌+◌, ◌*◌, ◌<◌, ◌≤◌, ◌^◌, ◌⊎◌, inl, inr, List, [], ◌∷◌}
use Rattle.std.proofs.Common.{length, Some, slice_get, IfSome, refl, sym, ap, subst, ◌∙◌, arith}
use Rattle.pearl_tree.specs.Tokens.{IsLawfulWhat}
use Rattle.pearl_tree.specs.declared.token.Token.{Token}
use Rattle.pearl_tree.specs.Standing.{Spelling, what_at}
use Rattle.pearl_parse_expr.specs.Least.{AlikeBefore, LawfulFrom, ReachesIn}
use Rattle.pearl_parse_expr.proofs.Offered as local
use Rattle.pearl_parse_expr.proofs.Offered.{begun, begun_alike, order, IsLocal, clash, shorter}

-- the rest of a part, from one token to the token after it
abbrev pub Rest : Type 1
Rest = List Token → ℕ → ℕ → Type 0

abbrev pub Ends : Rest
Ends others at to = to ≡ at

abbrev pub Next : {Y : Type 0} → (List Token → Spelling Y) → Rest → Rest
Next {Y} spells rest others at to = (y : Y) × (m : ℕ) × spells others at y m × rest others m to

-- tokens that are these before number k, and at most n lawful ones behind, which make this rest
pub record Filled (n : ℕ) (rest : Rest) (tokens : List Token) (k : ℕ) : Type 0 where
  pub others : List Token
  pub alike : AlikeBefore tokens others k
  pub long : k ≤ length others
  pub short : length others ≤ k + n
  pub lawful : LawfulFrom others k
  pub made : rest others k (length others)

-- at most n tokens make this rest, behind whatever tokens they stand
abbrev pub Fills : ℕ → Rest → Type 0
Fills n rest = (tokens : List Token) (k : ℕ) → k ≤ length tokens → Filled n rest tokens k

-- this rest makes such a part
abbrev pub Makes : {X : Type 0} → (List Token → Spelling X) → Rest → Type 0
Makes {X} whole rest = (others : List Token) (from to : ℕ) → to < 2 ^ 63 → rest others from to → (x : X) ×
    whole others from x to

-- ---- tokens that make a rest

begun_here : (tokens : List Token) (k : ℕ) (t : Token) (more : List Token) → k ≤ length tokens →
    slice_get (begun tokens k (t ∷ more)) k ≡ Some t
begun_here tokens zero t more within = refl
begun_here [] (suc k) t more within = absurd (omega arith)
begun_here (x ∷ xs) (suc k) t more within = begun_here xs k t more (omega arith)

begun_length : (tokens : List Token) (k : ℕ) (more : List Token) → k ≤ length tokens →
    length (begun tokens k more) ≡ k + length more
begun_length tokens zero more within = omega arith
begun_length [] (suc k) more within = absurd (omega arith)
begun_length (x ∷ xs) (suc k) more within = omega (arith, begun_length xs k more (omega arith))

-- lawful from number k on, where the tokens are lawful from `stop` on up to k
kept : (tokens others : List Token) (k stop : ℕ) → AlikeBefore tokens others k → LawfulFrom others k →
    LawfulFrom tokens stop → LawfulFrom others stop
kept tokens others k stop alike behind before j above = by (order j k)
  where
    by : (j < k) ⊎ (k ≤ j) → IfSome (what_at others j) IsLawfulWhat
    by (inl below) = subst (λ token. IfSome token IsLawfulWhat) (sym (local.what tokens others k alike j below))
        (before j above)
    by (inr beyond) = behind j beyond

pub ends_fill : Fills 0 Ends
ends_fill tokens k within =
    let size : length (begun tokens k []) ≡ k = omega (arith, begun_length tokens k [] within) in
    record {
      others = begun tokens k [];
      alike = begun_alike tokens k [] within;
      long = omega arith;
      short = omega arith;
      lawful = λ j above. nothing (begun tokens k []) j (omega arith);
      made = size;
    }
  where
    nothing : (others : List Token) (j : ℕ) → length others ≤ j → IfSome (what_at others j) IsLawfulWhat
    nothing [] j beyond = tt
    nothing (x ∷ xs) zero beyond = absurd (omega arith)
    nothing (x ∷ xs) (suc j) beyond = nothing xs j (omega arith)

module _ (n : ℕ) (rest : Rest) (fills : Fills n rest) where
  pub fills_as : (other : Rest) → ((others : List Token) (k to : ℕ) → rest others k to → other others k to) →
      Fills n other
  fills_as other makes tokens k within =
      let tail = fills tokens k within in
      record {
        others = tail.others;
        alike = tail.alike;
        long = tail.long;
        short = tail.short;
        lawful = tail.lawful;
        made = makes tail.others k (length tail.others) tail.made;
      }

  pub fills_token : (t : Token) (whole : Rest) → IsLawfulWhat t.what →
      ((others : List Token) (k to : ℕ) → slice_get others k ≡ Some t → rest others (k + 1) to → whole others k to) →
      Fills (n + 1) whole
  fills_token t whole known makes tokens k within =
      let one = begun tokens k (t ∷ []) in
      let size : length one ≡ k + 1 = begun_length tokens k (t ∷ []) within in
      let tail = fills one (k + 1) (omega arith) in
      let here : slice_get tail.others k ≡ Some t = sym (tail.alike k (omega arith)) ∙
      begun_here tokens k t [] within in
      let first : what_at tail.others k ≡ Some t.what = ap (option_map (λ token. token.what)) here in
      record {
        others = tail.others;
        alike = λ j below. begun_alike tokens k (t ∷ []) within j below ∙ tail.alike j (omega arith);
        long = omega (arith, tail.long);
        short = omega (arith, tail.short);
        lawful = λ j above. by tail.others first tail.lawful j above (order j (k + 1));
        made = makes tail.others k (length tail.others) here tail.made;
      }
    where
      by : (others : List Token) → what_at others k ≡ Some t.what → LawfulFrom others (k + 1) → (j : ℕ) → k ≤ j →
          (j < k + 1) ⊎ (k + 1 ≤ j) → IfSome (what_at others j) IsLawfulWhat
      by others first behind j above (inl below) =
          let same : k ≡ j = omega arith in
          subst (λ i. IfSome (what_at others i) IsLawfulWhat) same (subst (λ token. IfSome token IsLawfulWhat)
          (sym first) known)
      by others first behind j above (inr beyond) = behind j beyond

-- ---- a part, and a rest behind it

module _ {X : Type 0} (spells : List Token → Spelling X) (is_local : IsLocal spells) (n m : ℕ) (rest : Rest)
    (part : Fills n (λ others at to. (x : X) × spells others at x to)) (behind : Fills m rest) where
  pub fills_then : Fills (n + m) (λ others at to. (x : X) × (j : ℕ) × spells others at x j × rest others j to)
  fills_then tokens k within =
      let first = part tokens k within in
      let j = length first.others in
      let same : j ≤ length first.others = omega arith in
      let tail = behind first.others j same in
      record {
        others = tail.others;
        alike = λ i below. first.alike i below ∙ tail.alike i (omega (arith, first.long));
        long = omega (arith, first.long, tail.long);
        short = omega (arith, first.short, tail.short);
        lawful = kept first.others tail.others j k tail.alike tail.lawful first.lawful;
        made = (
          first.made.0,
          j,
          is_local first.others tail.others j tail.alike k first.made.0 j first.made.1 same,
          tail.made,
        );
      }

-- ---- whole parts

module _ {X : Type 0} (whole : List Token → Spelling X) (tokens : List Token) (from : ℕ) where
  -- whatever makes this rest behind the tokens before number `at` makes a whole part from `from`
  abbrev pub Comes : Rest → ℕ → Type 0
  Comes rest at =
      (others : List Token) → AlikeBefore tokens others at → (to : ℕ) → to < 2 ^ 63 → rest others at to → (x : X) ×
      whole others from x to

  -- behind a part that was read
  pub come_past : {Y : Type 0} (spells : List Token → Spelling Y) (rest : Rest) (at end : ℕ) (y : Y) → IsLocal spells →
      at ≤ end →
      spells tokens at y end → Comes (Next spells rest) at → Comes rest end
  come_past spells rest at end y is_local near h comes others alike to small g =
      comes others (λ j below. alike j (omega arith)) to small (
        y,
        end,
        is_local tokens others end alike at y end h (omega arith),
        g,
      )

  -- the tokens before `at`, and a few that complete them
  pub state_reaches : (room n : ℕ) (rest : Rest) (at : ℕ) → Fills n rest → n ≤ room → room ≤ 2 ^ 55 → from ≤ at →
      at ≤ length tokens → length tokens < 2 ^ 55 →
      Comes rest at → ReachesIn room whole tokens from at
  state_reaches room n rest at fills few small_room near within size comes =
      let tail = fills tokens at within in
      let made = comes tail.others tail.alike (length tail.others) (omega (arith, tail.short)) tail.made in
      record {
        others = tail.others;
        alike = tail.alike;
        long = tail.long;
        short = omega (arith, tail.short);
        lawful = tail.lawful;
        part = made.0;
        spelled = made.1;
      }

  -- a part that goes on as far as a stop, and a few tokens that complete the whole behind it
  pub part_reaches : {Y : Type 0} (room n inner : ℕ) (spells : List Token → Spelling Y) (rest : Rest) (at stop : ℕ) →
      IsLocal spells → Fills n rest →
      inner + n + 8 * from ≤ room + 8 * at → room ≤ 2 ^ 55 → at ≤ stop → stop ≤ length tokens → length tokens < 2 ^ 55 →
      Comes (Next spells rest) at →
      ReachesIn inner spells tokens at stop → ReachesIn room whole tokens from stop
  part_reaches room n inner spells rest at stop is_local fills fits small_room near within size comes r =
      let m = length r.others in
      let same : m ≤ length r.others = omega arith in
      let tail = fills r.others m same in
      let reach : stop ≤ m = r.long in
      let total : m + n + 8 * from ≤ 9 * stop + room = omega (arith, r.short) in
      let alike : AlikeBefore tokens tail.others stop = λ j below. r.alike j below ∙ tail.alike j (omega arith) in
      let part = is_local r.others tail.others m tail.alike at r.part m r.spelled same in
      let made = comes tail.others (λ j below. alike j (omega arith)) (length tail.others) (omega (arith, tail.short))
      (r.part, m, part, tail.made) in
      record {
        others = tail.others;
        alike = alike;
        long = omega (arith, tail.long);
        short = omega (arith, tail.short);
        lawful = kept r.others tail.others m stop tail.alike tail.lawful r.lawful;
        part = made.0;
        spelled = made.1;
      }

  -- behind a part that was read: some whole goes on as far as its stop
  pub read_reaches : {Y : Type 0} (room n inner : ℕ) (spells : List Token → Spelling Y) (rest : Rest) (at end stop : ℕ)
      (y : Y) → IsLocal spells → Fills n rest →
      inner + n + 8 * from ≤ room + 8 * at → n ≤ room → room ≤ 2 ^ 55 → from ≤ at → at ≤ end → end ≤ stop →
      stop ≤ length tokens → length tokens < 2 ^ 55 →
      Comes (Next spells rest) at → spells tokens at y end → (stop ≡ end) ⊎ ReachesIn inner spells tokens at stop →
      ReachesIn room whole tokens from stop
  read_reaches room n inner spells rest at end stop y is_local fills fits few small_room before ahead near within size
      comes h (inl same) =
      subst (λ k. ReachesIn room whole tokens from k) (sym same)
      (state_reaches room n rest end fills few small_room (omega arith) (omega arith) size
      (come_past spells rest at end y is_local ahead h comes))
  read_reaches room n inner spells rest at end stop y is_local fills fits few small_room before ahead near within size
      comes h (inr r) =
      part_reaches room n inner spells rest at stop is_local fills fits small_room (omega arith) within size comes r
