-- Reading members one after the other, as a loop does.
use Rattle.std.proofs.Common.{◌≡◌, ℕ, suc, ◌-◌, ◌+◌, ◌≤◌, ◌<◌, List, [], ◌∷◌, ◌++◌, Ok, Err, refl, sym, ap, ◌∙◌, append_assoc, arith, length, take, get_or}
use Rattle.std.proofs.Math.Seq.{take-suc}
use Rattle.std.proofs.lemmas.List.{append-nil}
use Rattle.pearl_fields.specs.declared.fault.ReadFault.{ReadFault}
use Rattle.pearl_fields.specs.declared.fault.ReadFault.TheVariants as fault
use Rattle.pearl_fields.specs.Codec.{◌>>=◌, Seen, Codec, rolled_read, all_bytes}
use Rattle.pearl_fields.specs.Reads.{Fails}

-- what was read before, and what is still read
abbrev pub with_front : {X : Type 0} → List X → Seen (List X) → Seen (List X)
with_front front seen = seen >>= λ x. Ok (front ++ x.0, x.1)

regroup : {X : Type 0} (front : List X) (x : X) (seen : Seen (List X)) → with_front front (seen >>= λ xs. Ok (x ∷ xs.0, xs.1)) ≡ with_front (front ++ x ∷ []) seen
regroup front x (Ok xs) = ap (λ ys. Ok (ys, xs.1)) (sym (append_assoc front (x ∷ []) xs.0))
regroup front x (Err left) = refl

pub goes_on : {S X : Type 0} (c : S → Codec X) (next : S → X → S) (s : S) (front : List X) (count i : ℕ) (bytes : List ℕ) (x : X) (rest : List ℕ) (total : Seen (List X)) → i < count → (c s).read bytes ≡ Ok (x, rest)
    → with_front front (rolled_read c next s (count - i) bytes) ≡ total → with_front (front ++ x ∷ []) (rolled_read c next (next s x) (count - (i + 1)) rest) ≡ total
unfolding rolled_read
goes_on c next s front count i bytes x rest total lt h so_far =
    let k : count - i ≡ suc (count - (i + 1)) = omega arith in
    let one : with_front front (rolled_read c next s (count - i) bytes) ≡ with_front (front ++ x ∷ []) (rolled_read c next (next s x) (count - (i + 1)) rest) = rw (k, h) (regroup front x (rolled_read c next (next s x) (count - (i + 1)) rest)) in
    sym one ∙ so_far

pub ends : {S X : Type 0} (c : S → Codec X) (next : S → X → S) (s : S) (e : ReadFault) (front : List X) (count i : ℕ) (bytes : List ℕ) (total : Seen (List X)) → i < count → Fails ((c s).read bytes) e
    → with_front front (rolled_read c next s (count - i) bytes) ≡ total → Fails total e
unfolding rolled_read
ends c next s fault.NoMemory front count i bytes total lt h so_far = tt
ends c next s (fault.Bad left) front count i bytes total lt h so_far =
    let k : count - i ≡ suc (count - (i + 1)) = omega arith in
    let one : with_front front (rolled_read c next s (count - i) bytes) ≡ Err left = rw (k, h) refl in
    sym so_far ∙ one

pub is_done : {S X : Type 0} (c : S → Codec X) (next : S → X → S) (s : S) (front : List X) (count i : ℕ) (bytes : List ℕ) (total : Seen (List X)) → count ≤ i → with_front front (rolled_read c next s (count - i) bytes) ≡ total → total ≡ Ok (front, bytes)
unfolding rolled_read
is_done c next s front count i bytes total le so_far =
    let k : count - i ≡ 0 = omega arith in
    let one : with_front front (rolled_read c next s (count - i) bytes) ≡ Ok (front, bytes) = rw k (ap (λ ys. Ok (ys, bytes)) (append-nil front)) in
    sym so_far ∙ one

pub all_push : {X : Type 0} (spelled : X → List ℕ) (xs : List X) (x : X) → all_bytes spelled (xs ++ x ∷ []) ≡ all_bytes spelled xs ++ spelled x
all_push spelled [] x = append-nil (spelled x)
all_push spelled (y ∷ ys) x = ap (λ bs. spelled y ++ bs) (all_push spelled ys x) ∙ sym (append_assoc (spelled y) (all_bytes spelled ys) (spelled x))

-- one member more is put
pub put_on : {X : Type 0} (spelled : X → List ℕ) (front : List ℕ) (xs : List X) (i : ℕ) (x : X) (old new : List ℕ) → i < length xs → x ≡ get_or xs i x
    → old ≡ front ++ all_bytes spelled (take i xs) → new ≡ old ++ spelled x → new ≡ front ++ all_bytes spelled (take (i + 1) xs)
put_on spelled front xs i x old new lt is so_far put =
    let more : take (i + 1) xs ≡ take i xs ++ x ∷ [] = let one : i + 1 ≡ suc i = omega arith in rw one (take-suc xs i x lt ∙ ap (λ y. take i xs ++ y ∷ []) (sym is)) in
    rw (more, all_push spelled (take i xs) x) (put ∙ ap (λ bs. bs ++ spelled x) so_far ∙ append_assoc front (all_bytes spelled (take i xs)) (spelled x))
