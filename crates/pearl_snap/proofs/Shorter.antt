-- What is left behind a number is no more than there was.
use Rattle.std.proofs.Common.{◌≡◌, ℕ, zero, suc, ◌+◌, ◌*◌, ◌%◌, ◌≤◌, Bool, true, false, cond, ltb, eqb, List, [], ◌∷◌, length, Ok, Err, refl, ap, arith}
use Rattle.pearl_fields.specs.Codec.{◌>>=◌, Seen, more_read, number_read}
use Rattle.pearl_fields.proofs.Offered.{ok_is}

-- no more is left than was there
abbrev LeavesNoMore : Seen ℕ → ℕ → Type 0
LeavesNoMore seen n = (x : ℕ) (rest : List ℕ) → seen ≡ Ok (x, rest) → length rest ≤ n

chosen_by : (test : Bool) (a b : Seen ℕ) (n : ℕ) → LeavesNoMore a n → LeavesNoMore b n → LeavesNoMore (cond test a b) n
chosen_by true a b n f g = f
chosen_by false a b n f g = g

bad : (left n : ℕ) → LeavesNoMore (Err left) n
bad left n x rest e = absurd cc

good : (y : ℕ) (bytes : List ℕ) (n : ℕ) → length bytes ≤ n → LeavesNoMore (Ok (y, bytes)) n
good y bytes n le x rest e = let same = ok_is (y, bytes) (x, rest) e in omega (arith, le, ap (λ p. length p.1) same)

high_part : (b : ℕ) (seen : Seen ℕ) (n : ℕ) → LeavesNoMore seen n → LeavesNoMore (seen >>= λ high. Ok (b % 128 + 128 * high.0, high.1)) n
high_part b (Ok y) n h = good (b % 128 + 128 * y.0) y.1 n (h y.0 y.1 refl)
high_part b (Err left) n h = bad left n

more_shorter : (field k : ℕ) (bytes : List ℕ) → LeavesNoMore (more_read field k bytes) (length bytes)
unfolding more_read
more_shorter field k [] = bad 0 0
more_shorter field zero (b ∷ bs) = chosen_by (eqb b 1) (Ok (1, bs)) (Err field) (suc (length bs)) (good 1 bs (suc (length bs)) (omega arith)) (bad field (suc (length bs)))
more_shorter field (suc k) (b ∷ bs) =
    chosen_by (ltb b 128) (cond (eqb b 0) (Err field) (Ok (b, bs))) (more_read field k bs >>= λ high. Ok (b % 128 + 128 * high.0, high.1)) (suc (length bs))
    (chosen_by (eqb b 0) (Err field) (Ok (b, bs)) (suc (length bs)) (bad field (suc (length bs))) (good b bs (suc (length bs)) (omega arith)))
    (high_part b (more_read field k bs) (suc (length bs)) (λ x rest e. let le = more_shorter field k bs x rest e in omega (arith, le)))

pub number_shorter : (bytes : List ℕ) (x : ℕ) (rest : List ℕ) → number_read bytes ≡ Ok (x, rest) → length rest ≤ length bytes
unfolding number_read
number_shorter [] = bad 0 0
number_shorter (b ∷ bs) =
    chosen_by (ltb b 128) (Ok (b, bs)) (more_read (suc (length bs)) 8 bs >>= λ high. Ok (b % 128 + 128 * high.0, high.1)) (suc (length bs)) (good b bs (suc (length bs)) (omega arith))
    (high_part b (more_read (suc (length bs)) 8 bs) (suc (length bs)) (λ x rest e. let le = more_shorter (suc (length bs)) 8 bs x rest e in omega (arith, le)))
