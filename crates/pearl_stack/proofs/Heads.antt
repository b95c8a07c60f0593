-- Heads by their numbers, the lowest one's being 0, and the last of a list.
use Rattle.std.proofs.Common.{◌≡◌, ◌≢◌, ℕ, zero, suc, ◌-◌, ◌<◌, ◌≤◌, List, [], ◌∷◌, ◌++◌, Option, Some, None, length, take, reverse, get_or, set, slice_get, refl, sym, ap, ◌∙◌, arith, false, cond, eqb, ne_eqb, take_at}
use Rattle.std.proofs.Math.Dec.{eqb-suc-suc}
use Rattle.std.proofs.lemmas.List.{reverse-append, reverse-reverse, length-reverse, get_or_at, set_at}
use Rattle.std.proofs.lemmas.Option.{slice_get_past, slice_get-get_or, slice_get_within}
use Rattle.pearl_stack.specs.declared.stack.Head.{Head}

unfoldable pub head_at : List Head → ℕ → Option Head
head_at [] n = None
head_at (h ∷ heads) n = cond (eqb n (length heads)) (Some h) (head_at heads n)

slice_get_last : {A : Type 0} (xs : List A) (y : A) (n : ℕ) → slice_get (xs ++ y ∷ []) n ≡ cond (eqb n (length xs)) (Some y) (slice_get xs n)
slice_get_last [] y zero = refl
slice_get_last [] y (suc n) = let apart : eqb (suc n) 0 ≡ false = ne_eqb (suc n) 0 (λ e. omega (arith, e)) in rw apart refl
slice_get_last (x ∷ xs) y zero = let apart : eqb 0 (suc (length xs)) ≡ false = ne_eqb 0 (suc (length xs)) (λ e. omega (arith, e)) in rw apart refl
slice_get_last (x ∷ xs) y (suc n) = slice_get_last xs y n ∙ ap (λ b. cond b (Some y) (slice_get xs n)) (sym (eqb-suc-suc n (length xs)))

head_reverse : (heads : List Head) (n : ℕ) → head_at heads n ≡ slice_get (reverse heads) n
unfolding head_at
head_reverse [] n = refl
head_reverse (h ∷ heads) n =
    let last : slice_get (reverse (h ∷ heads)) n ≡ cond (eqb n (length (reverse heads))) (Some h) (slice_get (reverse heads) n) =
    ap (λ xs. slice_get xs n) (reverse-append (h ∷ []) heads) ∙ slice_get_last (reverse heads) h n in
    let long : length (reverse heads) ≡ length heads = length-reverse heads in
    let more : head_at heads n ≡ slice_get (reverse heads) n = head_reverse heads n in
    sym (last ∙ (ap (λ m. cond (eqb n m) (Some h) (slice_get (reverse heads) n)) long ∙ ap (λ o. cond (eqb n (length heads)) (Some h) o) (sym more)))

pub heads_get : (heads : List Head) (n : ℕ) → head_at (reverse heads) n ≡ slice_get heads n
heads_get heads n = head_reverse (reverse heads) n ∙ ap (λ xs. slice_get xs n) (reverse-reverse heads)

pub head_past : (heads : List Head) (n : ℕ) → length heads ≤ n → head_at heads n ≡ None
head_past heads n past = head_reverse heads n ∙ slice_get_past (reverse heads) n (omega (arith, past, length-reverse heads))

pub head_within : (heads : List Head) (n : ℕ) (d : Head) → n < length heads → head_at heads n ≡ Some (get_or (reverse heads) n d)
head_within heads n d within = head_reverse heads n ∙ slice_get-get_or (reverse heads) n d (omega (arith, within, length-reverse heads))

pub head_there : (heads : List Head) (n : ℕ) (h : Head) → head_at heads n ≡ Some h → n < length heads
head_there heads n h e = let within = slice_get_within (reverse heads) n h (sym (head_reverse heads n) ∙ e) in omega (arith, within, length-reverse heads)

-- the last head is the top one
pub record Last (heads : List Head) : Type 0 where
  pub init : List Head
  pub last : Head
  pub is : heads ≡ init ++ last ∷ []
  pub long : length init ≡ length heads - 1
  pub some : 0 < length heads

pub last_of : (heads : List Head) → heads ≢ [] → Last heads
last_of [] some = absurd (some refl)
last_of (h ∷ []) some = record { init = []; last = h; is = refl; long = refl; some = omega arith }
last_of (h ∷ g ∷ heads) some =
    let more = last_of (g ∷ heads) (λ e. cc) in
    record { init = h ∷ more.init; last = more.last; is = ap (λ hs. h ∷ hs) more.is; long = omega (arith, more.long, more.some); some = omega arith }

pub reverse_last : (heads : List Head) (l : Last heads) → reverse heads ≡ l.last ∷ reverse l.init
reverse_last heads l = ap reverse l.is ∙ reverse-append l.init (l.last ∷ [])

pub last_is : (heads : List Head) (l : Last heads) (d : Head) → get_or heads (length heads - 1) d ≡ l.last
last_is heads l d = ap (λ hs. get_or hs (length heads - 1) d) l.is ∙ get_or_at l.init l.last [] d (length heads - 1) l.long

pub set_last : (heads : List Head) (l : Last heads) (h : Head) → reverse (set heads (length heads - 1) h) ≡ h ∷ reverse l.init
set_last heads l h = ap (λ hs. reverse (set hs (length heads - 1) h)) l.is
    ∙ (ap reverse (set_at l.init l.last [] h (length heads - 1) l.long) ∙ reverse-append l.init (h ∷ []))

pub cut_last : (heads : List Head) (l : Last heads) → take (length heads - 1) heads ≡ l.init
cut_last heads l = ap (take (length heads - 1)) l.is ∙ take_at l.init (l.last ∷ []) (length heads - 1) l.long
