-- No rule of the validator fails at instructions of expressions, where the operands have the kinds that are needed.
use Rattle.std.proofs.Common.{◌≡◌, ℕ, zero, suc, ◌+◌, ◌<◌, ◌≤◌, true, List, [], ◌∷◌, ◌++◌, Some, slice_get, length, replicate, refl, ap, ◌∙◌, subst, arith, le-leb, lt-ltb}
use Rattle.std.specs.Prelude.{is_some, not, nat_lt, nat_le, option_map, option_to_list, take, drop}
use Rattle.std.specs.List.{list_all}
use Rattle.std.proofs.lemmas.Option.{slice_get_within}
use Rattle.std.proofs.lemmas.List.{append-nil, length-take, length-drop, length-replicate}
use Rattle.pearl_value.specs.declared.kind.Kind.{Kind}
use Rattle.pearl_value.specs.declared.kind.Kind.TheVariants as kind_
use Rattle.pearl_value.specs.declared.kind.CellKind.{CellKind}
use Rattle.pearl_value.specs.declared.kind.CellKind.TheVariants.{Plain, RefTo}
use Rattle.pearl_value.specs.declared.cell.Cell.{Cell}
use Rattle.pearl_value.specs.declared.operator.Monad.{Monad}
use Rattle.pearl_value.specs.declared.operator.Dyad.{Dyad}
use Rattle.pearl_value.specs.Cells.{cell_kind_of}
use Rattle.pearl_value.specs.Rows.{row1, row2}
use Rattle.pearl_value.specs.Conversions.{SuitsKind, suits_kind}
use Rattle.pearl_value.proofs.Offered.{suits_both}
use Rattle.pearl_instructions.specs.declared.instr.Instr.{Instr}
use Rattle.pearl_instructions.specs.declared.instr.Instr.TheVariants as instr
use Rattle.pearl_instructions.specs.declared.object.Leaf.{Leaf}
use Rattle.pearl_instructions.specs.declared.object.Code.{Code}
use Rattle.pearl_instructions.specs.declared.object.Parts.{Parts as Object}
use Rattle.pearl_instructions.specs.Operands.{Shape, same_cell, is_reference}
use Rattle.pearl_instructions.specs.Named.{has_cells, cells_at}
use Rattle.pearl_instructions.specs.Kinds.{is_uniform, shape_after, leaf_kind, reference_to}
use Rattle.pearl_gen_expr.specs.Shapes.{IsQuiet, Keeps}
use Rattle.pearl_gen_expr.proofs.Shapes.{and_is, same_cell_self, one_keeps}

pub suits : (from to : Kind) → SuitsKind from to → suits_kind from to ≡ true
suits from to = (suits_both from to).1

module _ (o : Object) (r : ℕ) (code : Code) (place : ℕ) (quiet : IsQuiet code (place + 1)) where
  -- what an instruction makes of the shape, told in another way
  pub told : (instr : Instr) (s after : Shape) → shape_after o r code instr s ≡ after → Keeps o r code place (place + 1) s (shape_after o r code instr s) →
      Keeps o r code place (place + 1) s after
  told instr s after same keeps = subst (Keeps o r code place (place + 1) s) same keeps

  pub const_keeps : (x : Cell) (kind : Kind) (s : Shape) → slice_get code.instructions place ≡ Some (instr.Const x) → cell_kind_of x ≡ Plain kind →
      length code.cells + length s ≤ code.depth → Keeps o r code place (place + 1) s (Plain kind ∷ s)
  const_keeps x kind s is of room =
      told (instr.Const x) s (Plain kind ∷ s) (ap (λ k. k ∷ s) of) (one_keeps o r code place (instr.Const x) s is quiet refl refl
      (record { one = refl; two = refl; three = refl; four = refl; five = refl; eight = refl; ten = refl; eleven = le-leb (length code.cells + length s) code.depth room; twelve = refl }))

  pub now_keeps : (s : Shape) → slice_get code.instructions place ≡ Some instr.Now → length code.cells + length s ≤ code.depth →
      Keeps o r code place (place + 1) s (Plain kind_.Clock ∷ s)
  now_keeps s is room = one_keeps o r code place instr.Now s is quiet refl refl
      (record { one = refl; two = refl; three = refl; four = refl; five = refl; eight = refl; ten = refl; eleven = le-leb (length code.cells + length s) code.depth room; twelve = refl })

  pub try_keeps : (semaphore : ℕ) (s : Shape) → slice_get code.instructions place ≡ Some (instr.Try semaphore) → semaphore < length o.semaphores →
      length code.cells + length s ≤ code.depth → Keeps o r code place (place + 1) s (Plain (kind_.Bits 1) ∷ s)
  try_keeps semaphore s is less room = one_keeps o r code place (instr.Try semaphore) s is quiet refl refl
      (record {
        one = lt-ltb semaphore (length o.semaphores) less;
        two = refl;
        three = refl;
        four = refl;
        five = refl;
        eight = refl;
        ten = refl;
        eleven = le-leb (length code.cells + length s) code.depth room;
        twelve = refl;
      })

  pub conv_keeps : (from to : Kind) (s : Shape) → slice_get code.instructions place ≡ Some (instr.Conv to) → SuitsKind from to →
      length code.cells + length (Plain from ∷ s) ≤ code.depth → Keeps o r code place (place + 1) (Plain from ∷ s) (Plain to ∷ s)
  conv_keeps from to s is fits room = one_keeps o r code place (instr.Conv to) (Plain from ∷ s) is quiet refl refl
      (record {
        one = refl;
        two = refl;
        three = suits from to fits;
        four = refl;
        five = refl;
        eight = refl;
        ten = refl;
        eleven = le-leb (length code.cells + length (Plain from ∷ s)) code.depth room;
        twelve = refl;
      })

  pub monadic_keeps : (op : Monad) (one made : Kind) (s : Shape) → slice_get code.instructions place ≡ Some (instr.Monadic op) → row1 op one ≡ Some made →
      length code.cells + length (Plain one ∷ s) ≤ code.depth → Keeps o r code place (place + 1) (Plain one ∷ s) (Plain made ∷ s)
  monadic_keeps op one made s is row room =
      told (instr.Monadic op) (Plain one ∷ s) (Plain made ∷ s) (ap (λ found. option_to_list (option_map Plain found) ++ s) row)
      (one_keeps o r code place (instr.Monadic op) (Plain one ∷ s) is quiet refl refl
      (record {
        one = refl;
        two = refl;
        three = ap is_some row;
        four = refl;
        five = refl;
        eight = refl;
        ten = refl;
        eleven = le-leb (length code.cells + length (Plain one ∷ s)) code.depth room;
        twelve = refl;
      }))

  pub dyadic_keeps : (op : Dyad) (one two made : Kind) (s : Shape) → slice_get code.instructions place ≡ Some (instr.Dyadic op) → row2 op one two ≡ Some made →
      length code.cells + length (Plain two ∷ Plain one ∷ s) ≤ code.depth → Keeps o r code place (place + 1) (Plain two ∷ Plain one ∷ s) (Plain made ∷ s)
  dyadic_keeps op one two made s is row room =
      told (instr.Dyadic op) (Plain two ∷ Plain one ∷ s) (Plain made ∷ s) (ap (λ found. option_to_list (option_map Plain found) ++ s) row)
      (one_keeps o r code place (instr.Dyadic op) (Plain two ∷ Plain one ∷ s) is quiet refl refl
      (record {
        one = refl;
        two = refl;
        three = ap is_some row;
        four = refl;
        five = refl;
        eight = refl;
        ten = refl;
        eleven = le-leb (length code.cells + length (Plain two ∷ Plain one ∷ s)) code.depth room;
        twelve = refl;
      }))

  pub load_keeps : (cell : ℕ) (k : CellKind) (s : Shape) → slice_get code.instructions place ≡ Some (instr.Load cell) → slice_get code.cells cell ≡ Some k →
      length code.cells + length s ≤ code.depth → Keeps o r code place (place + 1) s (k ∷ s)
  load_keeps cell k s is there room =
      told (instr.Load cell) s (k ∷ s) (ap (λ found. option_to_list found ++ s) there)
      (one_keeps o r code place (instr.Load cell) s is quiet refl refl
      (record {
        one = lt-ltb cell (length code.cells) (slice_get_within code.cells cell k there);
        two = refl;
        three = refl;
        four = refl;
        five = refl;
        eight = refl;
        ten = refl;
        eleven = le-leb (length code.cells + length s) code.depth room;
        twelve = refl;
      }))

  pub read_keeps : (number : ℕ) (leaf : Leaf) (s : Shape) → slice_get code.instructions place ≡ Some (instr.Read number) → slice_get o.leaves number ≡ Some leaf →
      length code.cells + length s ≤ code.depth → Keeps o r code place (place + 1) s (Plain leaf.kind ∷ s)
  read_keeps number leaf s is there room =
      told (instr.Read number) s (Plain leaf.kind ∷ s) (ap (λ found. option_to_list (leaf_kind found) ++ s) there)
      (one_keeps o r code place (instr.Read number) s is quiet refl refl
      (record {
        one = lt-ltb number (length o.leaves) (slice_get_within o.leaves number leaf there);
        two = refl;
        three = refl;
        four = refl;
        five = refl;
        eight = refl;
        ten = refl;
        eleven = le-leb (length code.cells + length s) code.depth room;
        twelve = refl;
      }))

  pub read_at_keeps : (number : ℕ) (leaf : Leaf) (s : Shape) → slice_get code.instructions place ≡ Some (instr.ReadAt number) → slice_get o.leaves number ≡ Some leaf →
      length code.cells + length (Plain (kind_.Fixed 31) ∷ s) ≤ code.depth → Keeps o r code place (place + 1) (Plain (kind_.Fixed 31) ∷ s) (Plain leaf.kind ∷ s)
  read_at_keeps number leaf s is there room =
      told (instr.ReadAt number) (Plain (kind_.Fixed 31) ∷ s) (Plain leaf.kind ∷ s) (ap (λ found. option_to_list (leaf_kind found) ++ s) there)
      (one_keeps o r code place (instr.ReadAt number) (Plain (kind_.Fixed 31) ∷ s) is quiet refl refl
      (record {
        one = lt-ltb number (length o.leaves) (slice_get_within o.leaves number leaf there);
        two = refl;
        three = refl;
        four = refl;
        five = refl;
        eight = refl;
        ten = refl;
        eleven = le-leb (length code.cells + length (Plain (kind_.Fixed 31) ∷ s)) code.depth room;
        twelve = refl;
      }))

  pub read_ref_keeps : (of : Kind) (s : Shape) → slice_get code.instructions place ≡ Some instr.ReadRef → length code.cells + length (RefTo of ∷ s) ≤ code.depth →
      Keeps o r code place (place + 1) (RefTo of ∷ s) (Plain of ∷ s)
  read_ref_keeps of s is room = one_keeps o r code place instr.ReadRef (RefTo of ∷ s) is quiet refl refl
      (record {
        one = refl;
        two = refl;
        three = refl;
        four = refl;
        five = refl;
        eight = refl;
        ten = refl;
        eleven = le-leb (length code.cells + length (RefTo of ∷ s)) code.depth room;
        twelve = refl;
      })

  pub ref_slot_keeps : (number : ℕ) (leaf : Leaf) (s : Shape) → slice_get code.instructions place ≡ Some (instr.RefSlot number) → slice_get o.leaves number ≡ Some leaf →
      length code.cells + length s ≤ code.depth → Keeps o r code place (place + 1) s (RefTo leaf.kind ∷ s)
  ref_slot_keeps number leaf s is there room =
      told (instr.RefSlot number) s (RefTo leaf.kind ∷ s) (ap (λ found. option_to_list (option_map reference_to (leaf_kind found)) ++ s) there)
      (one_keeps o r code place (instr.RefSlot number) s is quiet refl refl
      (record {
        one = lt-ltb number (length o.leaves) (slice_get_within o.leaves number leaf there);
        two = refl;
        three = refl;
        four = refl;
        five = refl;
        eight = refl;
        ten = refl;
        eleven = le-leb (length code.cells + length s) code.depth room;
        twelve = refl;
      }))

  pub ref_slot_at_keeps : (number : ℕ) (leaf : Leaf) (s : Shape) → slice_get code.instructions place ≡ Some (instr.RefSlotAt number) → slice_get o.leaves number ≡ Some leaf →
      length code.cells + length (Plain (kind_.Fixed 31) ∷ s) ≤ code.depth → Keeps o r code place (place + 1) (Plain (kind_.Fixed 31) ∷ s) (RefTo leaf.kind ∷ s)
  ref_slot_at_keeps number leaf s is there room =
      told (instr.RefSlotAt number) (Plain (kind_.Fixed 31) ∷ s) (RefTo leaf.kind ∷ s) (ap (λ found. option_to_list (option_map reference_to (leaf_kind found)) ++ s) there)
      (one_keeps o r code place (instr.RefSlotAt number) (Plain (kind_.Fixed 31) ∷ s) is quiet refl refl
      (record {
        one = lt-ltb number (length o.leaves) (slice_get_within o.leaves number leaf there);
        two = refl;
        three = refl;
        four = refl;
        five = refl;
        eight = refl;
        ten = refl;
        eleven = le-leb (length code.cells + length (Plain (kind_.Fixed 31) ∷ s)) code.depth room;
        twelve = refl;
      }))

-- RANGES OF CELLS

uniform_from : (k : CellKind) (n : ℕ) → list_all (same_cell k) (replicate n k) ≡ true
uniform_from k zero = refl
uniform_from k (suc n) = and_is (same_cell k k) (list_all (same_cell k) (replicate n k)) (same_cell_self k) (uniform_from k n)

pub uniform : (k : CellKind) (n : ℕ) → is_uniform (replicate n k) ≡ true
uniform k zero = refl
uniform k (suc n) = uniform_from k n

pub plain_all : (kind : Kind) (n : ℕ) → list_all (λ k. not (is_reference k)) (replicate n (Plain kind)) ≡ true
plain_all kind zero = refl
plain_all kind (suc n) = plain_all kind n

first_kind_is : (cells : List CellKind) (c n : ℕ) (k : CellKind) → take (suc n) (drop c cells) ≡ replicate (suc n) k → slice_get cells c ≡ Some k
first_kind_is [] zero n k are = cc
first_kind_is [] (suc c) n k are = cc
first_kind_is (x ∷ cells) zero n k are = ap (λ all. slice_get all 0) are
first_kind_is (x ∷ cells) (suc c) n k are = first_kind_is cells c n k are

-- so many cells of this kind are the routine's
module _ (code : Code) (c n : ℕ) (kind : Kind) (some : 0 < n) (are : take n (drop c code.cells) ≡ replicate n (Plain kind)) where
  pub cells_are_there : has_cells code c n ≡ true
  cells_are_there =
      let long : length (take n (drop c code.cells)) ≡ n = ap length are ∙ length-replicate n (Plain kind) in
      let taken = length-take n (drop c code.cells) in
      let dropped = length-drop c code.cells in
      and_is (nat_lt 0 n) (nat_le (c + n) (length code.cells)) (lt-ltb 0 n some) (le-leb (c + n) (length code.cells) (omega (arith, long, taken, dropped, some)))

  pub cells_are_uniform : is_uniform (cells_at code c n) ≡ true
  cells_are_uniform = ap is_uniform are ∙ uniform (Plain kind) n

  pub cells_are_plain : list_all (λ k. not (is_reference k)) (cells_at code c n ++ []) ≡ true
  cells_are_plain = ap (list_all (λ k. not (is_reference k))) (append-nil (cells_at code c n) ∙ are) ∙ plain_all kind n

  pub first_is_plain : slice_get code.cells c ≡ Some (Plain kind)
  first_is_plain = by n some are
    where
      by : (n : ℕ) → 0 < n → take n (drop c code.cells) ≡ replicate n (Plain kind) → slice_get code.cells c ≡ Some (Plain kind)
      by zero some are = absurd (omega (arith, some))
      by (suc n) some are = first_kind_is code.cells c n (Plain kind) are

module _ (o : Object) (r : ℕ) (code : Code) (place : ℕ) (quiet : IsQuiet code (place + 1)) (c n : ℕ) (kind : Kind)
    (some : 0 < n) (are : take n (drop c code.cells) ≡ replicate n (Plain kind)) where
  pub load_at_keeps : (s : Shape) → slice_get code.instructions place ≡ Some (instr.LoadAt c n) → length code.cells + length (Plain (kind_.Fixed 31) ∷ s) ≤ code.depth →
      Keeps o r code place (place + 1) (Plain (kind_.Fixed 31) ∷ s) (Plain kind ∷ s)
  load_at_keeps s is room =
      told o r code place quiet (instr.LoadAt c n) (Plain (kind_.Fixed 31) ∷ s) (Plain kind ∷ s) (ap (λ found. option_to_list found ++ s) (first_is_plain code c n kind some are))
      (one_keeps o r code place (instr.LoadAt c n) (Plain (kind_.Fixed 31) ∷ s) is quiet refl refl
      (record {
        one = cells_are_there code c n kind some are;
        two = refl;
        three = refl;
        four = and_is (is_uniform (cells_at code c n)) true (cells_are_uniform code c n kind some are) refl;
        five = cells_are_plain code c n kind some are;
        eight = refl;
        ten = refl;
        eleven = le-leb (length code.cells + length (Plain (kind_.Fixed 31) ∷ s)) code.depth room;
        twelve = refl;
      }))

  pub ref_cell_at_keeps : (s : Shape) → slice_get code.instructions place ≡ Some (instr.RefCellAt c n) → length code.cells + length (Plain (kind_.Fixed 31) ∷ s) ≤ code.depth →
      Keeps o r code place (place + 1) (Plain (kind_.Fixed 31) ∷ s) (RefTo kind ∷ s)
  ref_cell_at_keeps s is room =
      told o r code place quiet (instr.RefCellAt c n) (Plain (kind_.Fixed 31) ∷ s) (RefTo kind ∷ s)
      (ap (λ found. option_to_list (option_map reference_to found) ++ s) (first_is_plain code c n kind some are))
      (one_keeps o r code place (instr.RefCellAt c n) (Plain (kind_.Fixed 31) ∷ s) is quiet refl refl
      (record {
        one = cells_are_there code c n kind some are;
        two = refl;
        three = refl;
        four = and_is (is_uniform (cells_at code c n)) true (cells_are_uniform code c n kind some are) refl;
        five = cells_are_plain code c n kind some are;
        eight = refl;
        ten = refl;
        eleven = le-leb (length code.cells + length (Plain (kind_.Fixed 31) ∷ s)) code.depth room;
        twelve = refl;
      }))

-- a reference to one cell
pub ref_cell_keeps : (o : Object) (r : ℕ) (code : Code) (place : ℕ) → IsQuiet code (place + 1) → (c : ℕ) (kind : Kind) (s : Shape) →
    slice_get code.instructions place ≡ Some (instr.RefCell c) → take 1 (drop c code.cells) ≡ replicate 1 (Plain kind) → length code.cells + length s ≤ code.depth →
    Keeps o r code place (place + 1) s (RefTo kind ∷ s)
ref_cell_keeps o r code place quiet c kind s is are room =
    let some : 0 < 1 = omega arith in
    let there = first_is_plain code c 1 kind some are in
    told o r code place quiet (instr.RefCell c) s (RefTo kind ∷ s) (ap (λ found. option_to_list (option_map reference_to found) ++ s) there)
    (one_keeps o r code place (instr.RefCell c) s is quiet refl refl
    (record {
      one = lt-ltb c (length code.cells) (slice_get_within code.cells c (Plain kind) there);
      two = refl;
      three = refl;
      four = and_is (is_uniform (cells_at code c 1)) true (cells_are_uniform code c 1 kind some are) refl;
      five = cells_are_plain code c 1 kind some are;
      eight = refl;
      ten = refl;
      eleven = le-leb (length code.cells + length s) code.depth room;
      twelve = refl;
    }))
