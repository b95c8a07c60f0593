-- What is read as bits are bits, and all are read.
use Rattle.std.proofs.Common.{◌≡◌, ◌≢◌, ◌≤◌, ◌<◌, ◌+◌, ◌*◌, ◌^◌, ℕ, List, [], ◌∷◌, ◌++◌, ◌⊎◌, inl, inr, Bool, true, false, not, ◌&&◌, nat_le, nat_lt, length, drop, take, codes, bytes_eq, Option, Some, None, option_map, refl, ap, ap₂, sym, ◌∙◌, subst, arith, add-one, le-leb}
use Rattle.std.proofs.lemmas.Bool.{cases_lt, eqb-true, false≢true, leb-true, lt-leb, lt-ltb, ltb-true, ne_eqb}
use Rattle.std.proofs.lemmas.Slice.Eq.{bytes_eq-Decides}
use Rattle.std.specs.Prelude.{option_and_then, slice_index, if◌then◌else◌}
use Rattle.std.specs.Char.{digit_value, is_ascii_lowercase}
use Rattle.std.specs.List.{AllByRecursion, after_first, before_first, list_all, position_or_len}
use Rattle.std.specs.Str.Parse.{digits_value}
use Rattle.pearl_rules.specs.Literals.{bits_number, is_bit_digit}
use Rattle.pearl_scan.proofs.Offered.{other_byte}
use Rattle.pearl_value.specs.declared.cell.Cell.{Cell}
use Rattle.pearl_value.specs.declared.cell.Cell.TheVariants.{Bits}
use Rattle.pearl_journal.specs.Texts.{is_apostrophe}
use Rattle.pearl_journal.specs.Values.{bits_literal, bits_of, digit_width}
use Rattle.pearl_journal_laws.specs.Literals.{AreBits, IsBitDigit, SaysGroup}

-- APOSTROPHES

before_no : (byte : ℕ) (bytes : List ℕ) → is_apostrophe byte ≡ false →
    before_first is_apostrophe (byte ∷ bytes) ≡ byte ∷ before_first is_apostrophe bytes
before_no byte bytes other =
    let n = position_or_len is_apostrophe bytes in
    let e : 1 + n ≡ n + 1 = omega arith in
    rw (other) (ap (λ k. take k (byte ∷ bytes)) e ∙ rw (add-one n) refl)

pub after_no : (byte : ℕ) (bytes : List ℕ) → is_apostrophe byte ≡ false →
    after_first is_apostrophe (byte ∷ bytes) ≡ after_first is_apostrophe bytes
after_no byte bytes other =
    let n = position_or_len is_apostrophe bytes in
    let e : 1 + n + 1 ≡ (n + 1) + 1 = omega arith in
    rw (other) (ap (λ k. drop k (byte ∷ bytes)) e ∙ rw (add-one (n + 1)) refl)

-- digits hold no apostrophe
digit_other : (group byte : ℕ) → IsBitDigit group byte → is_apostrophe byte ≡ false
digit_other group byte (inl is, less) = let low = is.0 in ne_eqb byte 39 (λ e. omega (arith, e, low))
digit_other group byte (inr is, less) = let low = is.0 in ne_eqb byte 39 (λ e. omega (arith, e, low))

before_digits : (group : ℕ) (digits word : List ℕ) → AllByRecursion (IsBitDigit group) digits →
    before_first is_apostrophe (digits ++ 39 ∷ word) ≡ digits
before_digits group [] word are = refl
before_digits group (byte ∷ digits) word are =
    before_no byte (digits ++ 39 ∷ word) (digit_other group byte are.0)
    ∙ ap (λ t. byte ∷ t) (before_digits group digits word are.1)

behind_digits : (group : ℕ) (digits word : List ℕ) → AllByRecursion (IsBitDigit group) digits →
    after_first is_apostrophe (digits ++ 39 ∷ word) ≡ word
behind_digits group [] word are = refl
behind_digits group (byte ∷ digits) word are =
    after_no byte (digits ++ 39 ∷ word) (digit_other group byte are.0) ∙ behind_digits group digits word are.1

-- no apostrophe, or what stands before and behind the first
first_quote : (bytes : List ℕ) → (after_first is_apostrophe bytes ≡ [])
    ⊎ (bytes ≡ before_first is_apostrophe bytes ++ 39 ∷ after_first is_apostrophe bytes)
first_quote [] = inl refl
first_quote (byte ∷ bytes) = by (is_apostrophe byte) refl (first_quote bytes)
  where
    by : (is : Bool) → is_apostrophe byte ≡ is → (after_first is_apostrophe bytes ≡ [])
        ⊎ (bytes ≡ before_first is_apostrophe bytes ++ 39 ∷ after_first is_apostrophe bytes) →
        (after_first is_apostrophe (byte ∷ bytes) ≡ [])
        ⊎ (byte ∷ bytes ≡ before_first is_apostrophe (byte ∷ bytes) ++ 39 ∷ after_first is_apostrophe (byte ∷ bytes))
    by true e later = inr (rw (e) (ap (λ b. b ∷ bytes) (eqb-true byte 39 e)))
    by false e (inl none) = inl (after_no byte bytes e ∙ none)
    by false e (inr whole) =
        inr
        (ap (λ t. byte ∷ t) whole
        ∙ ap₂ (λ a b. a ++ 39 ∷ b) (sym (before_no byte bytes e)) (sym (after_no byte bytes e)))

-- WORDS

group_is : (word : List ℕ) (group : ℕ) → SaysGroup word group → digit_width word ≡ Some group
group_is word group (inl is) = ap digit_width is.0 ∙ ap Some (sym is.1)
group_is word group (inr (inl is)) = ap digit_width is.0 ∙ ap Some (sym is.1)
group_is word group (inr (inr (inl is))) = ap digit_width is.0 ∙ ap Some (sym is.1)
group_is word group (inr (inr (inr (inl is)))) = ap digit_width is.0 ∙ ap Some (sym is.1)
group_is word group (inr (inr (inr (inr is)))) = ap digit_width is.0 ∙ ap Some (sym is.1)

one_of : (word other : List ℕ) (n group : ℕ) (o : Option ℕ) → (if bytes_eq word other then Some n else o) ≡ Some group →
    ((word ≡ other) × (group ≡ n)) ⊎ (o ≡ Some group)
one_of word other n group o e = by (bytes_eq word other) refl e
  where
    by : (is : Bool) → bytes_eq word other ≡ is → (if is then Some n else o) ≡ Some group →
        ((word ≡ other) × (group ≡ n)) ⊎ (o ≡ Some group)
    by true same e = inl ((bytes_eq-Decides word other).0 same, cc)
    by false same e = inr e

was_group : (word : List ℕ) (group : ℕ) → digit_width word ≡ Some group → SaysGroup word group
was_group word group e = elim (one_of word (codes "B") 1 group _ e) [
  | inl is ↦ inl is
  | inr e ↦ elim (one_of word (codes "B1") 1 group _ e) [
    | inl is ↦ inr (inl is)
    | inr e ↦ elim (one_of word (codes "B2") 2 group _ e) [
      | inl is ↦ inr (inr (inl is))
      | inr e ↦ elim (one_of word (codes "B3") 3 group _ e) [
        | inl is ↦ inr (inr (inr (inl is)))
        | inr e ↦ elim (one_of word (codes "B4") 4 group _ e) [
          | inl is ↦ inr (inr (inr (inr is)))
          | inr none ↦ (let no : ⊥ = cc in absurd no)
        ]
      ]
    ]
  ]
]

few_bits : (word : List ℕ) (group : ℕ) → SaysGroup word group → group ≤ 4
few_bits word group (inl is) = let e = is.1 in omega (arith, e)
few_bits word group (inr (inl is)) = let e = is.1 in omega (arith, e)
few_bits word group (inr (inr (inl is))) = let e = is.1 in omega (arith, e)
few_bits word group (inr (inr (inr (inl is)))) = let e = is.1 in omega (arith, e)
few_bits word group (inr (inr (inr (inr is)))) = let e = is.1 in omega (arith, e)

-- DIGITS

no_lowercase : (byte : ℕ) → byte ≤ 70 → is_ascii_lowercase byte ≡ false
no_lowercase byte high = rw (lt-leb 97 byte (omega (arith, high))) refl

digit_is : (group byte : ℕ) → IsBitDigit group byte → is_bit_digit group byte ≡ true
digit_is group byte (inl is, less) =
    let high = is.1 in rw (lt-ltb (digit_value byte) (2 ^ group) less, no_lowercase byte (omega (arith, high))) refl
digit_is group byte (inr is, less) =
    rw (lt-ltb (digit_value byte) (2 ^ group) less, no_lowercase byte is.1) refl

digits_are : (group : ℕ) (digits : List ℕ) → AllByRecursion (IsBitDigit group) digits →
    list_all (is_bit_digit group) digits ≡ true
digits_are group [] are = refl
digits_are group (byte ∷ digits) are = rw (digit_is group byte are.0) (digits_are group digits are.1)

and_parts : (a b : Bool) → a && b ≡ true → (a ≡ true) × (b ≡ true)
and_parts true b e = (refl, e)
and_parts false b e = absurd (false≢true e)

was_digit : (group byte : ℕ) → group ≤ 4 → is_bit_digit group byte ≡ true → IsBitDigit group byte
was_digit group byte few e =
    let less = ltb-true (digit_value byte) (2 ^ group) (and_parts (nat_lt (digit_value byte) (2 ^ group)) (not
    (is_ascii_lowercase byte)) e).0 in
    elim (in_range 48 57) [
      | inl is ↦ (inl is, less)
      | inr no_digit ↦ elim (in_range 65 70) [
        | inl is ↦ (inr is, less)
        | inr no_letter ↦ absurd (false≢true (sym (other_byte group byte few no_digit no_letter) ∙ e))
      ]
    ]
  where
    in_range : (low high : ℕ) → ((low ≤ byte) × (byte ≤ high)) ⊎ (low ≤ byte → byte ≤ high → ⊥)
    in_range low high = by (cases_lt byte low) (cases_lt high byte)
      where
        by : (byte < low) ⊎ (low ≤ byte) → (high < byte) ⊎ (byte ≤ high) →
            ((low ≤ byte) × (byte ≤ high)) ⊎ (low ≤ byte → byte ≤ high → ⊥)
        by (inl below) other = inr (λ a b. omega (arith, below, a))
        by (inr up) (inl above) = inr (λ a b. omega (arith, above, b))
        by (inr up) (inr down) = inl (up, down)

were_digits : (group : ℕ) (digits : List ℕ) → group ≤ 4 → list_all (is_bit_digit group) digits ≡ true →
    AllByRecursion (IsBitDigit group) digits
were_digits group [] few e = tt
were_digits group (byte ∷ digits) few e =
    let h = and_parts (is_bit_digit group byte) (list_all (is_bit_digit group) digits) e in
    (was_digit group byte few h.0, were_digits group digits few h.1)

-- BITS

number_is : (group : ℕ) (digits : List ℕ) → digits ≢ [] → AllByRecursion (IsBitDigit group) digits →
    bits_number group digits ≡ Some (digits_value (2 ^ group) digits)
number_is group [] some are = absurd (some refl)
number_is group (byte ∷ bytes) some are =
    ap (λ b. if b then Some (digits_value (2 ^ group) (byte ∷ bytes)) else None) (digits_are group (byte ∷ bytes) are)

pub reads_bits : (bytes : List ℕ) (len value : ℕ) → AreBits bytes len value → bits_literal bytes ≡ Some (Bits len value)
reads_bits bytes len value are =
    let width = ap digit_width (behind_digits are.group are.digits are.word are.are_digits)
    ∙ group_is are.word are.group are.says_group in
    let count = are.count in
    let few : nat_le (are.group * length are.digits) 64 ≡ true =
    le-leb (are.group * length are.digits) 64 (subst (λ n. n ≤ 64) count are.few) in
    ap bits_literal are.spelled
    ∙ ap (option_and_then (λ group. bits_of group (before_first is_apostrophe (are.digits ++ 39 ∷ are.word)))) width
    ∙ ap (bits_of are.group) (before_digits are.group are.digits are.word are.are_digits)
    ∙ ap (λ b. if b then option_map (Bits (are.group * length are.digits))
    (bits_number are.group are.digits) else None) few
    ∙ ap (option_map (Bits (are.group * length are.digits))) (number_is are.group are.digits are.some are.are_digits)
    ∙ ap₂ (λ l v. Some (Bits l v)) (sym count) (sym are.number)

-- what digits of a group come to
record Counted (group : ℕ) (digits : List ℕ) (x : Cell) : Type 0 where
  some : digits ≢ []
  all : list_all (is_bit_digit group) digits ≡ true
  few : group * length digits ≤ 64
  is : x ≡ Bits (group * length digits) (digits_value (2 ^ group) digits)

was_counted : (group : ℕ) (digits : List ℕ) (x : Cell) → bits_of group digits ≡ Some x → Counted group digits x
was_counted group digits x e = by_count (nat_le (group * length digits) 64) refl e
  where
    by_digits : (d : List ℕ) (len : ℕ) (all : Bool) → list_all (is_bit_digit group) d ≡ all →
        option_map (Bits len) (bits_number group d) ≡ Some x →
        (d ≢ []) × (list_all (is_bit_digit group) d ≡ true) × (x ≡ Bits len (digits_value (2 ^ group) d))
    by_digits [] len all a e = let no : ⊥ = cc in absurd no
    by_digits (byte ∷ bytes) len true a e =
        let read : bits_number group (byte ∷ bytes) ≡ Some (digits_value (2 ^ group) (byte ∷ bytes)) =
        ap (λ b. if b then Some (digits_value (2 ^ group) (byte ∷ bytes)) else None) a in
        let said : Some (Bits len (digits_value (2 ^ group) (byte ∷ bytes))) ≡ Some x =
        sym (ap (option_map (Bits len)) read) ∙ e in
        ((λ e. cc), a, cc)
    by_digits (byte ∷ bytes) len false a e =
        let read : bits_number group (byte ∷ bytes) ≡ None =
        ap (λ b. if b then Some (digits_value (2 ^ group) (byte ∷ bytes)) else None) a in
        let said : None ≡ Some x = sym (ap (option_map (Bits len)) read) ∙ e in
        let no : ⊥ = cc in
        absurd no

    by_count : (few : Bool) → nat_le (group * length digits) 64 ≡ few →
        (if few then option_map (Bits (group * length digits)) (bits_number group digits) else None) ≡ Some x →
        Counted group digits x
    by_count true f e =
        let h = by_digits digits (group * length digits) (list_all (is_bit_digit group) digits) refl e in
        record { some = h.0; all = h.1; few = leb-true (group * length digits) 64 f; is = h.2 }
    by_count false f e = let no : ⊥ = cc in absurd no

-- a value of bits is one of some length and number
pub record WasBits (bytes : List ℕ) (x : Cell) : Type 0 where
  pub len : ℕ
  pub value : ℕ
  pub is : x ≡ Bits len value
  pub are : AreBits bytes len value

pub were_bits : (bytes : List ℕ) (x : Cell) → bits_literal bytes ≡ Some x → WasBits bytes x
were_bits bytes x e = by bytes (is_apostrophe (slice_index bytes 0)) refl e
  where
    by_group : (first : ℕ) (inner : List ℕ) (o : Option ℕ) → is_apostrophe first ≡ true →
        digit_width (after_first is_apostrophe inner) ≡ o →
        option_and_then (λ group. bits_of group (before_first is_apostrophe inner)) o ≡ Some x →
        WasBits (first ∷ inner) x
    by_group first inner None q w e = let no : ⊥ = cc in absurd no
    by_group first inner (Some group) q w e =
        let digits = before_first is_apostrophe inner in
        let word = after_first is_apostrophe inner in
        let says = was_group word group w in
        let c = was_counted group digits x e in
        let whole : inner ≡ digits ++ 39 ∷ word = elim (first_quote inner) [
          | inl none ↦
              let nothing : None ≡ Some group = sym (ap digit_width none) ∙ w in
              let no : ⊥ = cc in
              absurd no
          | inr whole ↦ whole
        ] in
        record {
          len = group * length digits;
          value = digits_value (2 ^ group) digits;
          is = c.is;
          are = record {
            digits = digits;
            word = word;
            group = group;
            spelled = ap (λ b. b ∷ inner) (eqb-true first 39 q) ∙ ap (λ t. 39 ∷ t) whole;
            says_group = says;
            some = c.some;
            are_digits = were_digits group digits (few_bits word group says) c.all;
            count = refl;
            few = c.few;
            number = refl;
          };
        }

    by : (b : List ℕ) (quote : Bool) → is_apostrophe (slice_index b 0) ≡ quote →
        (if quote then option_and_then (λ group. bits_of group (before_first is_apostrophe (drop 1 b)))
        (digit_width (after_first is_apostrophe (drop 1 b))) else None) ≡ Some x → WasBits b x
    by b false q e = let no : ⊥ = cc in absurd no
    by [] true q e = let no : ⊥ = cc in absurd no
    by (first ∷ inner) true q e = by_group first inner (digit_width (after_first is_apostrophe inner)) q refl e
