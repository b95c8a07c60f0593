-- Parts that are made of lawful parts are lawful.
use Rattle.std.proofs.Common.{◌≡◌, ℕ, zero, suc, ◌+◌, ◌<◌, Bool, true, false, cond, eqb, List, [], ◌∷◌, ◌++◌, length, get_or, Result, Ok, Err, refl, sym, ap, subst, ◌∙◌, append_assoc, arith, rules, inl, inr, length-append, ◌⊎◌}
use Rattle.std.proofs.lemmas.List.{append-nil, nil_from_length}
use Rattle.std.proofs.lemmas.Bool.{eqb-true, eqb-false}
use Rattle.pearl_fields.specs.Codec.{◌>>=◌, Codec, byte, byte_read, guarded, pair, nothing, shaped, spelled_if, unspelled, rolled, all_bytes, rolled_fit, rolled_read, keyed, never, exact_read, exactly, whole_read, IsBytes, IsLawful}

-- ---- tools

pub bind_ok : {A B : Type 0} (r : Result A ℕ) (f : A → Result B ℕ) (y : B) → (r >>= f) ≡ Ok y → (x : A) × (r ≡ Ok x) × (f x ≡ Ok y)
bind_ok (Ok x) f y e = (x, refl, e)
bind_ok (Err d) f y e = absurd cc

pub bind_err : {A B : Type 0} (r : Result A ℕ) (f : A → Result B ℕ) (d : ℕ) → (r >>= f) ≡ Err d → (r ≡ Err d) ⊎ ((x : A) × (r ≡ Ok x) × (f x ≡ Err d))
bind_err (Ok x) f d e = inr (x, refl, e)
bind_err (Err c) f d e = inl (search rules)

abbrev done : {A : Type 0} → A → Result A ℕ
done x = Ok x

pub ok_is : {A : Type 0} (x y : A) → done x ≡ done y → x ≡ y
ok_is x y e = cc

abbrev pub bad : (A : Type 0) → ℕ → Result A ℕ
bad A n = Err n

pub err_is : (A : Type 0) (m n : ℕ) → bad A m ≡ bad A n → m ≡ n
err_is A m n e = cc

pub guard_ok : {A : Type 0} (b : Bool) (d : ℕ) (x y : A) → cond b (Ok x) (Err d) ≡ Ok y → (b ≡ true) × (x ≡ y)
guard_ok true d x y e = (refl, cc)
guard_ok false d x y e = absurd cc

pub guard_err : {A : Type 0} (b : Bool) (d e : ℕ) (x : A) → cond b (Ok x) (Err d) ≡ Err e → (b ≡ false) × (d ≡ e)
guard_err true d e x h = absurd cc
guard_err false d e x h = (refl, cc)

pub bytes_before : (xs ys : List ℕ) → IsBytes (xs ++ ys) → (i : ℕ) → get_or xs i 0 < 256
bytes_before [] ys h i = omega arith
bytes_before (x ∷ xs) ys h zero = h 0
bytes_before (x ∷ xs) ys h (suc i) = bytes_before xs ys (λ j. h (suc j)) i

pub bytes_behind : (xs ys : List ℕ) → IsBytes (xs ++ ys) → IsBytes ys
bytes_behind [] ys h = h
bytes_behind (x ∷ xs) ys h = bytes_behind xs ys (λ i. h (suc i))

-- what was read is read again where more follows
pub local : {X : Type 0} (c : Codec X) → IsLawful c → (bytes : List ℕ) (x : X) (rest more : List ℕ) → IsBytes bytes → c.read bytes ≡ Ok (x, rest) → c.read (bytes ++ more) ≡ Ok (x, rest ++ more)
local c l bytes x rest more fits e =
    let t = l.takes bytes x rest fits e in
    ap c.read (ap (λ (bs : List ℕ). bs ++ more) t.0 ∙ append_assoc (c.bytes x) rest more) ∙ l.again x (rest ++ more) t.1

pub rest_bytes : {X : Type 0} (c : Codec X) → IsLawful c → (bytes : List ℕ) (x : X) (rest : List ℕ) → IsBytes bytes → c.read bytes ≡ Ok (x, rest) → IsBytes rest
rest_bytes c l bytes x rest fits e = bytes_behind (c.bytes x) rest (subst IsBytes (l.takes bytes x rest fits e).0 fits)

-- ---- a byte

byte_takes : (ok : ℕ → Bool) (bytes : List ℕ) (x : ℕ) (rest : List ℕ) → IsBytes bytes → byte_read ok bytes ≡ Ok (x, rest) → (bytes ≡ x ∷ rest) × ((x < 256) × (ok x ≡ true))
byte_takes ok [] x rest fits e = absurd cc
byte_takes ok (b ∷ bs) x rest fits e =
    let g = guard_ok (ok b) (suc (length bs)) (b, bs) (x, rest) e in
    subst (λ (p : ℕ × List ℕ). (b ∷ bs ≡ p.0 ∷ p.1) × ((p.0 < 256) × (ok p.0 ≡ true))) g.1 (refl, (fits 0, g.0))

byte_stays : (ok : ℕ → Bool) (bytes more : List ℕ) (left : ℕ) → byte_read ok bytes ≡ Err (suc left) → byte_read ok (bytes ++ more) ≡ Err (suc left + length more)
byte_stays ok [] more left e = absurd cc
byte_stays ok (b ∷ bs) more left e =
    let g = guard_err (ok b) (suc (length bs)) (suc left) (b, bs) e in
    rw g.0 (ap Err (omega (arith, length-append bs more, g.1)))

pub byte_lawful : (ok : ℕ → Bool) → IsLawful (byte ok)
byte_lawful ok = record {
  takes = byte_takes ok;
  again = λ x rest h. rw h.1 refl;
  stays = λ bytes more left fits e. byte_stays ok bytes more left e;
}

-- ---- nothing

pub nothing_lawful : {X : Type 0} (x : X) → IsLawful (nothing x)
nothing_lawful x = record {
  takes = λ bytes y rest fits e. let h = ok_is (x, bytes) (y, rest) e in (ap (λ p. p.1) h, sym (ap (λ p. p.0) h));
  again = λ y rest h. rw h refl;
  stays = λ bytes more left fits e. absurd cc;
}

-- ---- a part with a test

pub guarded_lawful : {X : Type 0} (ok : X → Bool) (c : Codec X) → IsLawful c → ((x : X) → c.fits x → 0 < length (c.bytes x)) → IsLawful (guarded ok c)
guarded_lawful ok c l some = record {
  takes = λ bytes x rest fits e.
      let b = bind_ok (c.read bytes) (λ x. cond (ok x.0) (Ok x) (Err (length bytes))) (x, rest) e in
      let g = guard_ok (ok b.0.0) (length bytes) b.0 (x, rest) b.2 in
      subst (λ p. (bytes ≡ c.bytes p.0 ++ p.1) × (c.fits p.0 × (ok p.0 ≡ true))) g.1
      (let t = l.takes bytes b.0.0 b.0.1 fits b.1 in (t.0, (t.1, g.0)));
  again = λ x rest h. rw (l.again x rest h.0, h.1) refl;
  stays = λ bytes more left fits e. elim (bind_err (c.read bytes) (λ x. cond (ok x.0) (Ok x) (Err (length bytes))) (suc left) e) [
    | inl f ↦ rw (l.stays bytes more left fits f) refl
    | inr b ↦
        let g = guard_err (ok b.0.0) (length bytes) (suc left) b.0 b.2 in
        rw (local c l bytes b.0.0 b.0.1 more fits b.1, g.0) (ap Err (omega (arith, length-append bytes more, g.1)))
  ];
}

pub spelled_lawful : {X : Type 0} (ok : X → Bool) (c : Codec X) → IsLawful c → ((x : X) → c.fits x → ok x ≡ true) → IsLawful (spelled_if ok c)
spelled_lawful ok c l known = record {
  takes = λ bytes x rest fits e.
      let t = l.takes bytes x rest fits e in
      let same : cond (ok x) (c.bytes x) unspelled ≡ c.bytes x = rw (known x t.1) refl in
      (t.0 ∙ ap (λ bs. bs ++ rest) (sym same), t.1);
  again = λ x rest h. rw (known x h) (l.again x rest h);
  stays = l.stays;
}

-- a value of such a part that has bytes passes the test
pub spelled_in_bytes : {X : Type 0} (ok : X → Bool) (c : Codec X) (x : X) → IsBytes ((spelled_if ok c).bytes x) → ok x ≡ true
spelled_in_bytes ok c x are = by_test (ok x) refl
  where
    by_test : (t : Bool) → ok x ≡ t → ok x ≡ true
    by_test true p = p
    by_test false p = absurd (let none : cond (ok x) (c.bytes x) unspelled ≡ 256 ∷ [] = rw p refl in let here : 256 < 256 = subst IsBytes none are 0 in omega (arith, here))

-- ---- one part behind another

pub pair_lawful : {X Y : Type 0} (c : Codec X) (d : X → Codec Y) → IsLawful c → ((x : X) → IsLawful (d x)) → IsLawful (pair c d)
pair_lawful c d l m = record {
  takes = λ bytes p rest fits e.
      let a = bind_ok (c.read bytes) (λ x. (d x.0).read x.1 >>= λ y. Ok ((x.0, y.0), y.1)) (p, rest) e in
      let b = bind_ok ((d a.0.0).read a.0.1) (λ y. Ok ((a.0.0, y.0), y.1)) (p, rest) a.2 in
      let t = l.takes bytes a.0.0 a.0.1 fits a.1 in
      let u = (m a.0.0).takes a.0.1 b.0.0 b.0.1 (rest_bytes c l bytes a.0.0 a.0.1 fits a.1) b.1 in
      subst (λ q. (bytes ≡ (c.bytes q.0.0 ++ (d q.0.0).bytes q.0.1) ++ q.1) × (c.fits q.0.0 × (d q.0.0).fits q.0.1)) (ok_is ((a.0.0, b.0.0), b.0.1) (p, rest) b.2)
      (t.0 ∙ ap (λ bs. c.bytes a.0.0 ++ bs) u.0 ∙ sym (append_assoc (c.bytes a.0.0) ((d a.0.0).bytes b.0.0) b.0.1), (t.1, u.1));
  again = λ p rest h.
      rw (append_assoc (c.bytes p.0) ((d p.0).bytes p.1) rest, l.again p.0 ((d p.0).bytes p.1 ++ rest) h.0, (m p.0).again p.1 rest h.1) refl;
  stays = λ bytes more left fits e. elim (bind_err (c.read bytes) (λ x. (d x.0).read x.1 >>= λ y. Ok ((x.0, y.0), y.1)) (suc left) e) [
    | inl f ↦ rw (l.stays bytes more left fits f) refl
    | inr a ↦ elim (bind_err ((d a.0.0).read a.0.1) (λ y. Ok ((a.0.0, y.0), y.1)) (suc left) a.2) [
      | inl f ↦ rw (local c l bytes a.0.0 a.0.1 more fits a.1, (m a.0.0).stays a.0.1 more left (rest_bytes c l bytes a.0.0 a.0.1 fits a.1) f) refl
      | inr b ↦ absurd (let h = b.2 in cc)
    ]
  ];
}

-- ---- a part under another form

pub shaped_lawful : {A X : Type 0} (split : X → A) (make : A → X) (c : Codec A) → IsLawful c → ((a : A) → c.fits a → split (make a) ≡ a) → IsLawful (shaped split make c)
shaped_lawful split make c l back = record {
  takes = λ bytes x rest fits e.
      let a = bind_ok (c.read bytes) (λ a. Ok (make a.0, a.1)) (x, rest) e in
      let t = l.takes bytes a.0.0 a.0.1 fits a.1 in
      let same = back a.0.0 t.1 in
      subst (λ q. (bytes ≡ c.bytes (split q.0) ++ q.1) × (c.fits (split q.0) × (make (split q.0) ≡ q.0))) (ok_is (make a.0.0, a.0.1) (x, rest) a.2)
      (t.0 ∙ ap (λ b. c.bytes b ++ a.0.1) (sym same), (subst c.fits (sym same) t.1, ap make same));
  again = λ x rest h. rw (l.again (split x) rest h.0) (ap (λ y. Ok (y, rest)) h.1);
  stays = λ bytes more left fits e. elim (bind_err (c.read bytes) (λ a. Ok (make a.0, a.1)) (suc left) e) [
    | inl f ↦ rw (l.stays bytes more left fits f) refl
    | inr a ↦ absurd (let h = a.2 in cc)
  ];
}

-- ---- so many parts

module _ {S X : Type 0} (c : S → Codec X) (next : S → X → S) (l : (s : S) → IsLawful (c s)) (spelled : X → List ℕ) (same : (s : S) (x : X) → (c s).bytes x ≡ spelled x) where
  many_takes : (s : S) (n : ℕ) (bytes : List ℕ) (xs : List X) (rest : List ℕ) → IsBytes bytes → rolled_read c next s n bytes ≡ Ok (xs, rest) → (bytes ≡ all_bytes spelled xs ++ rest) × ((length xs ≡ n) × rolled_fit c next s xs)
  unfolding rolled_read
  many_takes s zero bytes xs rest fits e =
      subst (λ q. (bytes ≡ all_bytes spelled q.0 ++ q.1) × ((length q.0 ≡ 0) × rolled_fit c next s q.0)) (ok_is ([], bytes) (xs, rest) e) (refl, (refl, tt))
  many_takes s (suc n) bytes xs rest fits e =
      let a = bind_ok ((c s).read bytes) (λ x. rolled_read c next (next s x.0) n x.1 >>= λ xs. Ok (x.0 ∷ xs.0, xs.1)) (xs, rest) e in
      let b = bind_ok (rolled_read c next (next s a.0.0) n a.0.1) (λ xs. Ok (a.0.0 ∷ xs.0, xs.1)) (xs, rest) a.2 in
      let t = (l s).takes bytes a.0.0 a.0.1 fits a.1 in
      let u = many_takes (next s a.0.0) n a.0.1 b.0.0 b.0.1 (rest_bytes (c s) (l s) bytes a.0.0 a.0.1 fits a.1) b.1 in
      subst (λ q. (bytes ≡ all_bytes spelled q.0 ++ q.1) × ((length q.0 ≡ suc n) × rolled_fit c next s q.0)) (ok_is (a.0.0 ∷ b.0.0, b.0.1) (xs, rest) b.2)
      (t.0 ∙ ap (λ bs. bs ++ a.0.1) (same s a.0.0) ∙ ap (λ bs. spelled a.0.0 ++ bs) u.0 ∙ sym (append_assoc (spelled a.0.0) (all_bytes spelled b.0.0) b.0.1), (ap suc u.1.0, (t.1, u.1.1)))

  many_again : (s : S) (xs : List X) (rest : List ℕ) → rolled_fit c next s xs → rolled_read c next s (length xs) (all_bytes spelled xs ++ rest) ≡ Ok (xs, rest)
  unfolding rolled_read
  many_again s [] rest h = refl
  many_again s (x ∷ xs) rest h =
      rw (append_assoc (spelled x) (all_bytes spelled xs) rest, ← same s x, (l s).again x (all_bytes spelled xs ++ rest) h.0, many_again (next s x) xs rest h.1) refl

  many_stays : (s : S) (n : ℕ) (bytes more : List ℕ) (left : ℕ) → IsBytes bytes → rolled_read c next s n bytes ≡ Err (suc left) → rolled_read c next s n (bytes ++ more) ≡ Err (suc left + length more)
  unfolding rolled_read
  many_stays s zero bytes more left fits e = absurd cc
  many_stays s (suc n) bytes more left fits e = elim (bind_err ((c s).read bytes) (λ x. rolled_read c next (next s x.0) n x.1 >>= λ xs. Ok (x.0 ∷ xs.0, xs.1)) (suc left) e) [
    | inl f ↦ rw ((l s).stays bytes more left fits f) refl
    | inr a ↦ elim (bind_err (rolled_read c next (next s a.0.0) n a.0.1) (λ xs. Ok (a.0.0 ∷ xs.0, xs.1)) (suc left) a.2) [
      | inl f ↦ rw (local (c s) (l s) bytes a.0.0 a.0.1 more fits a.1, many_stays (next s a.0.0) n a.0.1 more left (rest_bytes (c s) (l s) bytes a.0.0 a.0.1 fits a.1) f) refl
      | inr b ↦ absurd (let h = b.2 in cc)
    ]
  ]

pub rolled_lawful : {S X : Type 0} (spelled : X → List ℕ) (c : S → Codec X) (next : S → X → S) (s : S) (n : ℕ) → ((s : S) → IsLawful (c s)) → ((s : S) (x : X) → (c s).bytes x ≡ spelled x) → IsLawful (rolled spelled c next s n)
rolled_lawful spelled c next s n l same = record {
  takes = many_takes c next l spelled same s n;
  again = λ xs rest h. subst (λ k. rolled_read c next s k (all_bytes spelled xs ++ rest) ≡ Ok (xs, rest)) h.0 (many_again c next l spelled same s xs rest h.1);
  stays = many_stays c next l spelled same s n;
}

-- ---- a part with a key

pub keyed_lawful : {K X : Type 0} (key : X → K) (k : Codec K) (arm : K → Codec X) → IsLawful k → ((t : K) → IsLawful (arm t)) → ((t : K) (x : X) → (arm t).fits x → key x ≡ t) → IsLawful (keyed key k arm)
keyed_lawful key k arm l m known = record {
  takes = λ bytes x rest fits e.
      let a = bind_ok (k.read bytes) (λ t. (arm t.0).read t.1) (x, rest) e in
      let t = l.takes bytes a.0.0 a.0.1 fits a.1 in
      let u = (m a.0.0).takes a.0.1 x rest (rest_bytes k l bytes a.0.0 a.0.1 fits a.1) a.2 in
      let same = known a.0.0 x u.1 in
      subst (λ s. (bytes ≡ (k.bytes s ++ (arm s).bytes x) ++ rest) × (k.fits s × (arm s).fits x)) (sym same)
      (t.0 ∙ ap (λ bs. k.bytes a.0.0 ++ bs) u.0 ∙ sym (append_assoc (k.bytes a.0.0) ((arm a.0.0).bytes x) rest), (t.1, u.1));
  again = λ x rest h.
      rw (append_assoc (k.bytes (key x)) ((arm (key x)).bytes x) rest, l.again (key x) ((arm (key x)).bytes x ++ rest) h.0) ((m (key x)).again x rest h.1);
  stays = λ bytes more left fits e. elim (bind_err (k.read bytes) (λ t. (arm t.0).read t.1) (suc left) e) [
    | inl f ↦ rw (l.stays bytes more left fits f) refl
    | inr a ↦ rw (local k l bytes a.0.0 a.0.1 more fits a.1) ((m a.0.0).stays a.0.1 more left (rest_bytes k l bytes a.0.0 a.0.1 fits a.1) a.2)
  ];
}

pub never_lawful : {X : Type 0} → IsLawful (never {X = X})
never_lawful = record {
  takes = λ bytes x rest fits e. absurd cc;
  again = λ x rest h. absurd h;
  stays = λ bytes more left fits e. absurd cc;
}

-- ---- bytes that are one field

exact_takes : (field : ℕ) (wanted bytes : List ℕ) (x : Unit {0}) (rest : List ℕ) → exact_read field wanted bytes ≡ Ok (x, rest) → bytes ≡ wanted ++ rest
unfolding exact_read
exact_takes field [] bytes x rest e = ap (λ p. p.1) (ok_is (tt, bytes) (x, rest) e)
exact_takes field (w ∷ wanted) [] x rest e = absurd cc
exact_takes field (w ∷ wanted) (b ∷ bytes) x rest e = by_test (λ q. exact_takes field wanted bytes x rest q) (eqb b w) refl
  where
    by_test : (exact_read field wanted bytes ≡ Ok (x, rest) → bytes ≡ wanted ++ rest) → (t : Bool) → eqb b w ≡ t → b ∷ bytes ≡ w ∷ (wanted ++ rest)
    by_test later true p = let q : exact_read field wanted bytes ≡ Ok (x, rest) = subst (λ t. cond t (exact_read field wanted bytes) (Err field) ≡ Ok (x, rest)) p e in ap (λ c. c ∷ bytes) (eqb-true b w p) ∙ ap (λ bs. w ∷ bs) (later q)
    by_test later false p = absurd (let q : cond false (exact_read field wanted bytes) (Err field) ≡ Ok (x, rest) = subst (λ t. cond t (exact_read field wanted bytes) (Err field) ≡ Ok (x, rest)) p e in cc)

eqb_same : (n : ℕ) → eqb n n ≡ true
eqb_same n = by_test (eqb n n) refl
  where
    by_test : (t : Bool) → eqb n n ≡ t → eqb n n ≡ true
    by_test true p = p
    by_test false p = absurd (eqb-false n n p refl)

exact_again : (field : ℕ) (wanted rest : List ℕ) → exact_read field wanted (wanted ++ rest) ≡ Ok (tt, rest)
unfolding exact_read
exact_again field [] rest = refl
exact_again field (w ∷ wanted) rest = rw (eqb_same w) (exact_again field wanted rest)

exact_stays : (field other : ℕ) (wanted bytes more : List ℕ) (left : ℕ) → exact_read field wanted bytes ≡ Err (suc left) → (field ≡ suc left) × (exact_read other wanted (bytes ++ more) ≡ Err other)
unfolding exact_read
exact_stays field other [] bytes more left e = absurd cc
exact_stays field other (w ∷ wanted) [] more left e = absurd cc
exact_stays field other (w ∷ wanted) (b ∷ bytes) more left e = by_test (λ q. exact_stays field other wanted bytes more left q) (eqb b w) refl
  where
    by_test : (exact_read field wanted bytes ≡ Err (suc left) → (field ≡ suc left) × (exact_read other wanted (bytes ++ more) ≡ Err other)) → (t : Bool) → eqb b w ≡ t → (field ≡ suc left) × (cond (eqb b w) (exact_read other wanted (bytes ++ more)) (Err other) ≡ Err other)
    by_test later true p = let q : exact_read field wanted bytes ≡ Err (suc left) = subst (λ t. cond t (exact_read field wanted bytes) (Err field) ≡ Err (suc left)) p e in let r = later q in (r.0, rw (p, r.1) refl)
    by_test later false p = let q : cond false (exact_read field wanted bytes) (Err field) ≡ Err (suc left) = subst (λ t. cond t (exact_read field wanted bytes) (Err field) ≡ Err (suc left)) p e in (err_is (Unit {0} × List ℕ) field (suc left) q, rw p refl)

pub exactly_lawful : (wanted : List ℕ) → IsLawful (exactly wanted)
exactly_lawful wanted = record {
  takes = λ bytes x rest fits e. (exact_takes (length bytes) wanted bytes x rest e, tt);
  again = λ x rest h. exact_again (length (wanted ++ rest)) wanted rest;
  stays = λ bytes more left fits e. let s = exact_stays (length bytes) (length (bytes ++ more)) wanted bytes more left e in s.1 ∙ ap Err (omega (arith, length-append bytes more, s.0));
}

-- ---- all of the bytes

pub whole_takes : {X : Type 0} (c : Codec X) → IsLawful c → (bytes : List ℕ) (x : X) → IsBytes bytes → whole_read c bytes ≡ Ok x → (bytes ≡ c.bytes x) × c.fits x
whole_takes c l bytes x fits e =
    let a = bind_ok (c.read bytes) (λ x. cond (eqb (length x.1) 0) (Ok x.0) (Err (length x.1))) x e in
    let g = guard_ok (eqb (length a.0.1) 0) (length a.0.1) a.0.0 x a.2 in
    let none : a.0.1 ≡ [] = nil_from_length a.0.1 (eqb-true _ _ g.0) in
    let t = l.takes bytes a.0.0 a.0.1 fits a.1 in
    subst (λ y. (bytes ≡ c.bytes y) × c.fits y) g.1 (t.0 ∙ ap (λ bs. c.bytes a.0.0 ++ bs) none ∙ append-nil (c.bytes a.0.0), t.1)

pub whole_again : {X : Type 0} (c : Codec X) → IsLawful c → (x : X) → c.fits x → whole_read c (c.bytes x) ≡ Ok x
whole_again c l x h = let e : c.read (c.bytes x) ≡ Ok (x, []) = ap c.read (sym (append-nil (c.bytes x))) ∙ l.again x [] h in rw e refl

-- a bad field before the end: no value's bytes begin so
pub none_begins : {X : Type 0} (c : Codec X) → IsLawful c → (bytes more : List ℕ) (left : ℕ) (x : X) → IsBytes bytes → c.read bytes ≡ Err (suc left) → c.fits x → c.bytes x ≡ bytes ++ more → ⊥
none_begins c l bytes more left x fits e h same =
    let ok : c.read (bytes ++ more) ≡ Ok (x, []) = ap c.read (sym same ∙ sym (append-nil (c.bytes x))) ∙ l.again x [] h in
    let bad_there = l.stays bytes more left fits e in
    absurd (let both = sym bad_there ∙ ok in cc)

-- the bytes of no value begin those of another
pub one_value : {X : Type 0} (c : Codec X) → IsLawful c → (x y : X) (more rest : List ℕ) → c.fits x → c.fits y → c.bytes x ++ more ≡ c.bytes y ++ rest → (x ≡ y) × (more ≡ rest)
one_value c l x y more rest h k same =
    let e = ok_is (x, more) (y, rest) (sym (l.again x more h) ∙ ap c.read same ∙ l.again y rest k) in
    (ap (λ p. p.0) e, ap (λ p. p.1) e)
