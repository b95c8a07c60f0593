-- Bytes of a file that explain what was read of it, whether the shelf tells what it holds or not.
use Rattle.std.proofs.Common.{◌≡◌, ◌<◌, ℕ, List, [], ◌∷◌, ◌++◌, Option, Some, None, refl, sym, subst, length, take, arith, length-append}
use Rattle.std.proofs.lemmas.List.{take_all}
use Rattle.std.proofs.Math.Seq.{take-append_seam}
use Rattle.pearl_io.specs.Outside.{Files, content}
use Rattle.pearl_top.specs.Reading.{MayHave}

-- the bytes held, where they are told, and else a guess
pub explained : Option Files → List ℕ → List ℕ → List ℕ
explained None name guess = guess
explained (Some files) name guess = content files name

pub may_have : (held : Option Files) (name guess : List ℕ) → MayHave held name (explained held name guess)
unfolding explained
may_have None name guess = tt
may_have (Some files) name guess = refl

-- what holds of the guess, and of the bytes held, holds of the bytes that explain
explains : (held : Option Files) (name guess : List ℕ) (P : List ℕ → Type 0) → P guess → ((files : Files) → held ≡ Some files → P (content files name)) →
    P (explained held name guess)
unfolding explained
explains None name guess P guessed told = guessed
explains (Some files) name guess P guessed told = told files refl

-- all was read
pub explains_whole : (held : Option Files) (name bytes : List ℕ) → ((files : Files) → held ≡ Some files → bytes ≡ content files name) →
    bytes ≡ explained held name bytes
explains_whole held name bytes told = explains held name bytes (λ file. bytes ≡ file) refl told

-- a front was read of a file that is too long
pub explains_long : (held : Option Files) (name bytes : List ℕ) (limit : ℕ) → length bytes ≡ limit →
    ((files : Files) → held ≡ Some files → (limit < length (content files name)) × (bytes ≡ take limit (content files name))) →
    (limit < length (explained held name (bytes ++ 0 ∷ []))) × (bytes ≡ take limit (explained held name (bytes ++ 0 ∷ [])))
explains_long held name bytes limit within told =
    explains held name (bytes ++ 0 ∷ []) (λ file. (limit < length file) × (bytes ≡ take limit file))
    (omega (arith, length-append bytes (0 ∷ []), within), sym (subst (λ n. take n (bytes ++ 0 ∷ []) ≡ bytes) within (take-append_seam bytes (0 ∷ []))))
    told

-- a front was read before a fault
pub explains_fault : (held : Option Files) (name bytes : List ℕ) → ((files : Files) → held ≡ Some files → bytes ≡ take (length bytes) (content files name)) →
    bytes ≡ take (length bytes) (explained held name bytes)
explains_fault held name bytes told =
    explains held name bytes (λ file. bytes ≡ take (length bytes) file) (sym (take_all (length bytes) bytes (omega arith))) told

-- what is told stays what is told
pub may_have_later : (held later : Option Files) (name bytes : List ℕ) → later ≡ held → MayHave later name bytes → MayHave held name bytes
may_have_later held later name bytes same has = subst (λ h. MayHave h name bytes) same has
