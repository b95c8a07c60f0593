-- The slots of a variable in memory, and whether one of its leaves has too long a name.
use Rattle.std.proofs.Common.{◌≡◌, ℕ, suc, ◌+◌, ◌==◌, Bool, true, false, ◌&&◌, ◌||◌, not, nat_lt, List, [], ◌∷◌, Some, None, length, max, refl, ap, sym, ◌∙◌, arith}
use Rattle.std.proofs.lemmas.Bool.Decides.{nat_tests}
use Rattle.std.specs.List.{list_any}
use Rattle.pearl_tree.specs.declared.name.Name.{Name}
use Rattle.pearl_tree.specs.Names.{name_text}
use Rattle.pearl_names.specs.declared.sense.Form.{Form as HeldForm}
use Rattle.pearl_names.specs.declared.sense.Sense.TheVariants as held
use Rattle.pearl_names.specs.declared.types.Counts.{Counts}
use Rattle.pearl_names.specs.declared.types.StructForm.{StructForm}
use Rattle.pearl_names.specs.Counts.{cut, counts, most, bytes_behind}
use Rattle.pearl_names.specs.Holding.{HoldsForm, HoldsSense}
use Rattle.pearl_names.specs.Layout.{Leaf, leaves_of, slots_of}
use Rattle.pearl_names.specs.Tables.{Form, Sense, Variable, Control, OwnParameter, NewType, Semaphore, Interrupt, AlphicDation, BasicDation, Task, Procedure}
use Rattle.pearl_check.specs.Sizes.{slot_count, has_long_leaf}
use Rattle.pearl_check.specs.SizeSorts.{is_long}

-- these are the counts of what the form stands for
abbrev pub AreCounts : List StructForm → HeldForm → Counts → Type 0
AreCounts forms form told = (of : Form) → HoldsForm forms (Some form) (Some of) → told ≡ counts (leaves_of [] of.bounds of.shape)

counted_slots : (leaves : List Leaf) → (counts leaves).slots ≡ cut (length (slots_of leaves))
unfolding counts
counted_slots leaves = refl

counted_leaves : (leaves : List Leaf) → (counts leaves).leaves ≡ cut (length leaves)
unfolding counts
counted_leaves leaves = refl

counted_longest : (leaves : List Leaf) → (counts leaves).longest ≡ cut (most bytes_behind leaves)
unfolding counts
counted_longest leaves = refl

pub slots_told : (forms : List StructForm) (form : HeldForm) (inv : Bool) (told : Counts) → AreCounts forms form told →
    (of : Sense) → HoldsSense forms (held.Variable (Some form) inv) of → told.slots ≡ cut (slot_count of)
slots_told forms form inv told is (Variable (Some of) fixed) holds =
    ap (λ (c : Counts). c.slots) (is of holds.0) ∙ counted_slots (leaves_of [] of.bounds of.shape)
slots_told forms form inv told is (Variable None fixed) holds = absurd holds.0
slots_told forms form inv told is (Control kind) holds = absurd holds
slots_told forms form inv told is (OwnParameter parameter) holds = absurd holds
slots_told forms form inv told is NewType holds = absurd holds
slots_told forms form inv told is Semaphore holds = absurd holds
slots_told forms form inv told is Interrupt holds = absurd holds
slots_told forms form inv told is (AlphicDation direction) holds = absurd holds
slots_told forms form inv told is (BasicDation direction kind) holds = absurd holds
slots_told forms form inv told is Task holds = absurd holds
slots_told forms form inv told is (Procedure parameters result) holds = absurd holds

-- some of these names are long exactly where the longest is
longest : (bytes : ℕ) (f : Leaf → ℕ) (leaf : Leaf) (leaves : List Leaf) →
    list_any (λ leaf. nat_lt 1024 (bytes + f leaf)) (leaf ∷ leaves) ≡ nat_lt 1024 (bytes + most f (leaf ∷ leaves))
longest bytes f leaf [] = one (f leaf)
  where
    one : (a : ℕ) → (nat_lt 1024 (bytes + a) || false) ≡ nat_lt 1024 (bytes + max a 0)
    one a = grind (arith, nat_tests)
longest bytes f leaf (next ∷ rest) = ap (λ b. nat_lt 1024 (bytes + f leaf) || b) (longest bytes f next rest) ∙ joins (f leaf) (most f (next ∷ rest))
  where
    joins : (a b : ℕ) → (nat_lt 1024 (bytes + a) || nat_lt 1024 (bytes + b)) ≡ nat_lt 1024 (bytes + max a b)
    joins a b = grind (arith, nat_tests)

cut_long : (bytes n : ℕ) → nat_lt 1024 (bytes + cut n) ≡ nat_lt 1024 (bytes + n)
cut_long bytes n = grind (arith, nat_tests)

some_leaf : (n : ℕ) → not (cut (suc n) == 0) ≡ true
some_leaf n = grind (arith, nat_tests)

is_long_of : (bytes : ℕ) (leaves : List Leaf) → is_long bytes (counts leaves) ≡ list_any (λ leaf. nat_lt 1024 (bytes + bytes_behind leaf)) leaves
is_long_of bytes [] = ap (λ n. not (n == 0) && nat_lt 1024 (bytes + (counts []).longest)) (counted_leaves [])
is_long_of bytes (leaf ∷ rest) =
    (λ i. not (counted_leaves (leaf ∷ rest) i == 0) && nat_lt 1024 (bytes + counted_longest (leaf ∷ rest) i))
    ∙ ap (λ b. b && nat_lt 1024 (bytes + cut (most bytes_behind (leaf ∷ rest)))) (some_leaf (length rest))
    ∙ cut_long bytes (most bytes_behind (leaf ∷ rest))
    ∙ sym (longest bytes bytes_behind leaf rest)

pub long_told : (forms : List StructForm) (form : HeldForm) (inv : Bool) (told : Counts) (name : Name) → AreCounts forms form told →
    (of : Sense) → HoldsSense forms (held.Variable (Some form) inv) of → is_long (length (name_text name)) told ≡ has_long_leaf name of
long_told forms form inv told name is (Variable (Some of) fixed) holds =
    ap (is_long (length (name_text name))) (is of holds.0) ∙ is_long_of (length (name_text name)) (leaves_of [] of.bounds of.shape)
long_told forms form inv told name is (Variable None fixed) holds = absurd holds.0
long_told forms form inv told name is (Control kind) holds = absurd holds
long_told forms form inv told name is (OwnParameter parameter) holds = absurd holds
long_told forms form inv told name is NewType holds = absurd holds
long_told forms form inv told name is Semaphore holds = absurd holds
long_told forms form inv told name is Interrupt holds = absurd holds
long_told forms form inv told name is (AlphicDation direction) holds = absurd holds
long_told forms form inv told name is (BasicDation direction kind) holds = absurd holds
long_told forms form inv told name is Task holds = absurd holds
long_told forms form inv told name is (Procedure parameters result) holds = absurd holds
