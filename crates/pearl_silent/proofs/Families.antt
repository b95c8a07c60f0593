-- Which instructions are left where those of the families before are not it.
use Rattle.std.proofs.Common.{◌≡◌, ℕ, ◌≤◌, List, refl, arith}
use Rattle.pearl_value.specs.declared.cell.Cell.{Cell}
use Rattle.pearl_value.specs.declared.kind.Kind.{Kind}
use Rattle.pearl_value.specs.declared.operator.Dyad.{Dyad}
use Rattle.pearl_value.specs.declared.operator.Monad.{Monad}
use Rattle.pearl_instructions.specs.declared.instr.Bounds.{Bounds}
use Rattle.pearl_instructions.specs.declared.instr.Instr.{Instr}
use Rattle.pearl_instructions.specs.declared.instr.Instr.TheVariants.{Const, Load, Store, Fill, Drop, LoadAt, StoreAt, RefCell, RefCellAt, Conv, Index, NonZero, Monadic, Dyadic, Jump, JumpZero, Case, Return, Within, Advance}
use Rattle.pearl_silent.specs.Standing.{family}

pub beyond_cells : (i : Instr) → ((x : Cell) → i ≡ Const x → ⊥) → ((x : ℕ) → i ≡ Load x → ⊥) → ((x : ℕ) → i ≡ Store x → ⊥) → ((x : ℕ) (y : ℕ) (z : Kind) → i ≡ Fill x y z → ⊥) → (i ≡ Drop → ⊥) → ((x : ℕ) (y : ℕ) → i ≡ LoadAt x y → ⊥) → ((x : ℕ) (y : ℕ) → i ≡ StoreAt x y → ⊥) → ((x : ℕ) → i ≡ RefCell x → ⊥) → ((x : ℕ) (y : ℕ) → i ≡ RefCellAt x y → ⊥) → ((x : Kind) → i ≡ Conv x → ⊥) → ((x : List Bounds) → i ≡ Index x → ⊥) → (i ≡ NonZero → ⊥) → ((x : Monad) → i ≡ Monadic x → ⊥) → ((x : Dyad) → i ≡ Dyadic x → ⊥) →
    1 ≤ family i
beyond_cells (Const x) n0 n1 n2 n3 n4 n5 n6 n7 n8 n9 n10 n11 n12 n13 = absurd (n0 x refl)
beyond_cells (Load x) n0 n1 n2 n3 n4 n5 n6 n7 n8 n9 n10 n11 n12 n13 = absurd (n1 x refl)
beyond_cells (Store x) n0 n1 n2 n3 n4 n5 n6 n7 n8 n9 n10 n11 n12 n13 = absurd (n2 x refl)
beyond_cells (Fill x y z) n0 n1 n2 n3 n4 n5 n6 n7 n8 n9 n10 n11 n12 n13 = absurd (n3 x y z refl)
beyond_cells Drop n0 n1 n2 n3 n4 n5 n6 n7 n8 n9 n10 n11 n12 n13 = absurd (n4 refl)
beyond_cells (LoadAt x y) n0 n1 n2 n3 n4 n5 n6 n7 n8 n9 n10 n11 n12 n13 = absurd (n5 x y refl)
beyond_cells (StoreAt x y) n0 n1 n2 n3 n4 n5 n6 n7 n8 n9 n10 n11 n12 n13 = absurd (n6 x y refl)
beyond_cells (RefCell x) n0 n1 n2 n3 n4 n5 n6 n7 n8 n9 n10 n11 n12 n13 = absurd (n7 x refl)
beyond_cells (RefCellAt x y) n0 n1 n2 n3 n4 n5 n6 n7 n8 n9 n10 n11 n12 n13 = absurd (n8 x y refl)
beyond_cells (Conv x) n0 n1 n2 n3 n4 n5 n6 n7 n8 n9 n10 n11 n12 n13 = absurd (n9 x refl)
beyond_cells (Index x) n0 n1 n2 n3 n4 n5 n6 n7 n8 n9 n10 n11 n12 n13 = absurd (n10 x refl)
beyond_cells NonZero n0 n1 n2 n3 n4 n5 n6 n7 n8 n9 n10 n11 n12 n13 = absurd (n11 refl)
beyond_cells (Monadic x) n0 n1 n2 n3 n4 n5 n6 n7 n8 n9 n10 n11 n12 n13 = absurd (n12 x refl)
beyond_cells (Dyadic x) n0 n1 n2 n3 n4 n5 n6 n7 n8 n9 n10 n11 n12 n13 = absurd (n13 x refl)
beyond_cells i n0 n1 n2 n3 n4 n5 n6 n7 n8 n9 n10 n11 n12 n13 = omega arith

pub beyond_jumps : (i : Instr) → 1 ≤ family i → ((x : ℕ) → i ≡ Jump x → ⊥) → ((x : ℕ) → i ≡ JumpZero x → ⊥) → ((x : List ℕ) → i ≡ Case x → ⊥) → (i ≡ Return → ⊥) → ((x : ℕ) → i ≡ Within x → ⊥) → ((x : ℕ) (y : ℕ) → i ≡ Advance x y → ⊥) →
    2 ≤ family i
beyond_jumps (Jump x) h n0 n1 n2 n3 n4 n5 = absurd (n0 x refl)
beyond_jumps (JumpZero x) h n0 n1 n2 n3 n4 n5 = absurd (n1 x refl)
beyond_jumps (Case x) h n0 n1 n2 n3 n4 n5 = absurd (n2 x refl)
beyond_jumps Return h n0 n1 n2 n3 n4 n5 = absurd (n3 refl)
beyond_jumps (Within x) h n0 n1 n2 n3 n4 n5 = absurd (n4 x refl)
beyond_jumps (Advance x y) h n0 n1 n2 n3 n4 n5 = absurd (n5 x y refl)
beyond_jumps i h n0 n1 n2 n3 n4 n5 = omega (arith, h)
