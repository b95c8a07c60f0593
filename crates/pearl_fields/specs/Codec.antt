-- What a part of a format is: its bytes, which values have some, and what is read from the front of some bytes.
use Rattle.std.specs.Prelude.{◌≡◌, ℕ, zero, suc, ◌+◌, ◌*◌, ◌-◌, ◌/◌, ◌%◌, ◌<◌, ◌≤◌, ◌^◌, Bool, true, ◌&&◌, nat_lt, nat_le, ◌==◌, if◌then◌else◌, List, [], ◌∷◌, ◌++◌, length, take, get_or, Result, Ok, Err, ℤ, pos, negsuc, int_le}

-- what is read from the front of some bytes: a value and the bytes behind it, or how many bytes there are from the first byte
-- of the first bad field on, which is 0 where the bytes end before a field or within one
abbrev pub Seen : Type 0 → Type 0
Seen X = Result (X × List ℕ) ℕ

infixl 10 ◌>>=◌
abbrev pub ◌>>=◌ : {A B : Type 0} → Result A ℕ → (A → Result B ℕ) → Result B ℕ
(Ok x) >>= f = f x
(Err left) >>= f = Err left

pub record Codec (X : Type 0) : Type 1 where
  pub bytes : X → List ℕ
  pub fits : X → Type 0
  pub read : List ℕ → Seen X

-- a test of bounds
abbrev pub within : ℕ → ℕ → ℕ → Bool
within low high n = nat_le low n && nat_le n high

-- ---- fields

-- one byte that passes a test
abbrev pub byte_read : (ℕ → Bool) → List ℕ → Seen ℕ
byte_read ok [] = Err 0
byte_read ok (b ∷ rest) = if ok b then Ok (b, rest) else Err (suc (length rest))

abbrev pub byte : (ℕ → Bool) → Codec ℕ
byte ok = record { bytes = λ b. b ∷ []; fits = λ b. (b < 256) × (ok b ≡ true); read = byte_read ok }

-- seven bits in each byte, the lowest first, and 128 more in each byte but the last; at most k + 1 bytes
unfoldable pub digits : ℕ → ℕ → List ℕ
digits zero n = n ∷ []
digits (suc k) n = if nat_lt n 128 then n ∷ [] else (n % 128 + 128) ∷ digits k (n / 128)

-- what has no bytes: 256 is none
abbrev pub unspelled : List ℕ
unspelled = 256 ∷ []

-- a number below 2 ^ 64 has at most ten bytes
unfoldable pub number_bytes : ℕ → List ℕ
number_bytes n = if nat_lt n (2 ^ 64) then digits 9 n else unspelled

-- the bytes behind a first one that is not the last: the last one is not 0, and the tenth of all is 1
unfoldable pub more_read : ℕ → ℕ → List ℕ → Seen ℕ
more_read field k [] = Err 0
more_read field zero (b ∷ rest) = if b == 1 then Ok (1, rest) else Err field
more_read field (suc k) (b ∷ rest) =
    if nat_lt b 128 then (if b == 0 then Err field else Ok (b, rest)) else
    (more_read field k rest >>= λ high. Ok (b % 128 + 128 * high.0, high.1))

unfoldable pub number_read : List ℕ → Seen ℕ
number_read [] = Err 0
number_read (b ∷ rest) =
    if nat_lt b 128 then Ok (b, rest) else
    (more_read (suc (length rest)) 8 rest >>= λ high. Ok (b % 128 + 128 * high.0, high.1))

-- a number below 2 ^ 64 in its shortest spelling
abbrev pub number : Codec ℕ
number = record { bytes = number_bytes; fits = λ n. n < 2 ^ 64; read = number_read }

-- these bytes, which are one field
unfoldable pub exact_read : ℕ → List ℕ → List ℕ → Seen (Unit {0})
exact_read field [] bytes = Ok (tt, bytes)
exact_read field (w ∷ wanted) [] = Err 0
exact_read field (w ∷ wanted) (b ∷ bytes) = if b == w then exact_read field wanted bytes else Err field

abbrev pub exactly : List ℕ → Codec (Unit {0})
exactly wanted = record { bytes = λ x. wanted; fits = λ x. Unit {0}; read = λ bytes. exact_read (length bytes) wanted bytes }

-- ---- parts of parts

-- a part that also passes a test, which its first byte is blamed for
abbrev pub guarded : {X : Type 0} → (X → Bool) → Codec X → Codec X
guarded ok c = record {
  bytes = c.bytes;
  fits = λ x. c.fits x × (ok x ≡ true);
  read = λ bytes. c.read bytes >>= λ x. if ok x.0 then Ok x else Err (length bytes);
}

-- a part of which only those values have bytes that pass a test
abbrev pub spelled_if : {X : Type 0} → (X → Bool) → Codec X → Codec X
spelled_if ok c = record {
  bytes = λ x. if ok x then c.bytes x else unspelled;
  fits = c.fits;
  read = c.read;
}

abbrev pub number_part : ℕ → ℕ → Codec ℕ
number_part low high = guarded (within low high) number

unfoldable pub number_in_read : ℕ → ℕ → List ℕ → Seen ℕ
number_in_read low high = (number_part low high).read

abbrev pub number_in : ℕ → ℕ → Codec ℕ
number_in low high = record { bytes = number_bytes; fits = (number_part low high).fits; read = number_in_read low high }

-- one part behind another, which may depend on it
abbrev pub pair : {X Y : Type 0} → Codec X → (X → Codec Y) → Codec (X × Y)
pair c d = record {
  bytes = λ p. c.bytes p.0 ++ (d p.0).bytes p.1;
  fits = λ p. c.fits p.0 × (d p.0).fits p.1;
  read = λ bytes. c.read bytes >>= λ x. (d x.0).read x.1 >>= λ y. Ok ((x.0, y.0), y.1);
}

-- nothing at all
abbrev pub nothing : {X : Type 0} → X → Codec X
nothing x = record { bytes = λ y. []; fits = λ y. y ≡ x; read = λ bytes. Ok (x, bytes) }

-- a part under another form
abbrev pub shaped : {A X : Type 0} → (X → A) → (A → X) → Codec A → Codec X
shaped split make c = record {
  bytes = λ x. c.bytes (split x);
  fits = λ x. c.fits (split x) × (make (split x) ≡ x);
  read = λ bytes. c.read bytes >>= λ a. Ok (make a.0, a.1);
}

-- so many parts, one behind another, each of which may depend on what is known of those before it
abbrev pub all_bytes : {X : Type 0} → (X → List ℕ) → List X → List ℕ
all_bytes spelled [] = []
all_bytes spelled (x ∷ xs) = spelled x ++ all_bytes spelled xs

abbrev pub rolled_fit : {S X : Type 0} → (S → Codec X) → (S → X → S) → S → List X → Type 0
rolled_fit c next s [] = Unit {0}
rolled_fit c next s (x ∷ xs) = (c s).fits x × rolled_fit c next (next s x) xs

unfoldable pub rolled_read : {S X : Type 0} → (S → Codec X) → (S → X → S) → S → ℕ → List ℕ → Seen (List X)
rolled_read c next s zero bytes = Ok ([], bytes)
rolled_read c next s (suc n) bytes =
    (c s).read bytes >>= λ x. rolled_read c next (next s x.0) n x.1 >>= λ xs. Ok (x.0 ∷ xs.0, xs.1)

abbrev pub rolled : {S X : Type 0} → (X → List ℕ) → (S → Codec X) → (S → X → S) → S → ℕ → Codec (List X)
rolled spelled c next s n = record {
  bytes = all_bytes spelled;
  fits = λ xs. (length xs ≡ n) × rolled_fit c next s xs;
  read = rolled_read c next s n;
}

-- the length of a list, and its members
abbrev pub counted : {S X : Type 0} → ℕ → ℕ → (X → List ℕ) → (S → Codec X) → (S → X → S) → S → Codec (List X)
counted low high spelled c next s = shaped (λ xs. (length xs, xs)) (λ p. p.1) (pair (number_in low high) (λ n. rolled spelled c next s n))

-- the same where nothing need be known of the members before
abbrev pub list_of : {X : Type 0} → Codec X → Codec (List X)
list_of c = counted 0 (2 ^ 64 - 1) c.bytes (λ (s : Unit {0}). c) (λ s x. s) tt

-- ---- laws

abbrev pub IsBytes : List ℕ → Type 0
IsBytes bytes = (i : ℕ) → get_or bytes i 0 < 256

pub record IsLawful {X : Type 0} (c : Codec X) : Type 0 where
  -- what is read has a spelling, and the bytes begin with it
  pub takes : (bytes : List ℕ) (x : X) (rest : List ℕ) → IsBytes bytes → c.read bytes ≡ Ok (x, rest) → (bytes ≡ c.bytes x ++ rest) × c.fits x
  -- what is spelled is read again, whatever follows
  pub again : (x : X) (rest : List ℕ) → c.fits x → c.read (c.bytes x ++ rest) ≡ Ok (x, rest)
  -- a bad field stays bad, whatever follows
  pub stays : (bytes more : List ℕ) (left : ℕ) → IsBytes bytes → c.read bytes ≡ Err (suc left) → c.read (bytes ++ more) ≡ Err (suc left + length more)

-- what k + 1 bytes behind a first one can spell at most
abbrev pub room : ℕ → ℕ
room zero = 2
room (suc k) = 128 * room k

abbrev pub byte_in : ℕ → ℕ → Codec ℕ
byte_in low high = byte (within low high)

-- 0, -1, 1, -2, 2 .. as 0, 1, 2, 3, 4 ..
abbrev pub zigzag : ℤ → ℕ
zigzag (pos n) = 2 * n
zigzag (negsuc n) = 2 * n + 1

abbrev pub unzigzag : ℕ → ℤ
unzigzag n = if n % 2 == 0 then pos (n / 2) else negsuc (n / 2)

abbrev pub within_signed : ℤ → ℤ → ℤ → Bool
within_signed low high n = int_le low n && int_le n high

abbrev pub signed_part : ℤ → ℤ → Codec ℤ
signed_part low high = guarded (within_signed low high) (shaped zigzag unzigzag number)

unfoldable pub signed_read : ℤ → ℤ → List ℕ → Seen ℤ
signed_read low high = (signed_part low high).read

-- what is read stays folded up where the part is used
abbrev pub signed_in : ℤ → ℤ → Codec ℤ
signed_in low high = record { bytes = (signed_part low high).bytes; fits = (signed_part low high).fits; read = signed_read low high }

-- so many bytes, each of which passes a test
abbrev pub bytes_in : ℕ → ℕ → ℕ → Codec (List ℕ)
bytes_in low high n = rolled (λ b. b ∷ []) (λ (s : Unit {0}). byte_in low high) (λ s b. s) tt n

-- a part whose form depends on its key, which stands before it
abbrev pub keyed : {K X : Type 0} → (X → K) → Codec K → (K → Codec X) → Codec X
keyed key k arm = record {
  bytes = λ x. k.bytes (key x) ++ (arm (key x)).bytes x;
  fits = λ x. k.fits (key x) × (arm (key x)).fits x;
  read = λ bytes. k.read bytes >>= λ t. (arm t.0).read t.1;
}

-- what nothing is
abbrev pub never : {X : Type 0} → Codec X
never = record { bytes = λ x. []; fits = λ x. ⊥; read = λ bytes. Err 0 }

abbrev pub arm_at : {X : Type 0} → List (Codec X) → ℕ → Codec X
arm_at [] t = never
arm_at (c ∷ arms) zero = c
arm_at (c ∷ arms) (suc t) = arm_at arms t

-- a byte, from a least one on, that says which of the arms stands behind it
abbrev pub tagged : {X : Type 0} → ℕ → (X → ℕ) → List (Codec X) → Codec X
tagged low tag arms = keyed tag (byte_in low (length arms - 1)) (arm_at arms)

-- all of the bytes are read
abbrev pub whole_read : {X : Type 0} → Codec X → List ℕ → Result X ℕ
whole_read c bytes = c.read bytes >>= λ x. if length x.1 == 0 then Ok x.0 else Err (length x.1)

-- what stands before a bad field is read without a fault, up to its end
pub record IsOrdered {X : Type 0} (c : Codec X) : Type 0 where
  pub before : (bytes : List ℕ) (left : ℕ) → IsBytes bytes → c.read bytes ≡ Err left → (left ≤ length bytes) × (c.read (take (length bytes - left) bytes) ≡ Err 0)
