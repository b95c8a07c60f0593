-- Lists without faults, and what is known of lists part by part.
use Rattle.std.specs.Prelude.{ℕ, zero, suc, List, [], ◌∷◌, drop}
use Rattle.std.specs.List.{AllByRecursion}
pub use Rattle.pearl_sound.proofs.Offered.{left_none, right_none, no_fault, really, neither, both, split_all, all_append, all_taken}

pub all_dropped : {X : Type 0} (P : X → Type 0) (n : ℕ) (xs : List X) → AllByRecursion P xs → AllByRecursion P (drop n xs)
all_dropped P zero xs all = all
all_dropped P (suc n) [] all = tt
all_dropped P (suc n) (x ∷ xs) all = all_dropped P n xs all.1

pub all_weaker : {X : Type 0} (P Q : X → Type 0) → ((x : X) → P x → Q x) → (xs : List X) → AllByRecursion P xs → AllByRecursion Q xs
all_weaker P Q more [] all = tt
all_weaker P Q more (x ∷ xs) all = (more x all.0, all_weaker P Q more xs all.1)
