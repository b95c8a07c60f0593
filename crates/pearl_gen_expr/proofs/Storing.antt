-- No rule of the validator fails at the instructions that write a value to a variable.
use Rattle.std.proofs.Common.{◌≡◌, ℕ, zero, suc, ◌+◌, ◌<◌, ◌≤◌, ◌∷◌, Option, Some, slice_get, length, replicate, refl, ap, ◌∙◌, arith, le-leb, lt-ltb}
use Rattle.std.specs.Prelude.{take, drop}
use Rattle.std.proofs.lemmas.Option.{slice_get_within}
use Rattle.pearl_value.specs.declared.kind.Kind.{Kind}
use Rattle.pearl_value.specs.declared.kind.Kind.TheVariants as kind_
use Rattle.pearl_value.specs.declared.kind.CellKind.{CellKind}
use Rattle.pearl_value.specs.declared.kind.CellKind.TheVariants.{Plain, RefTo}
use Rattle.pearl_instructions.specs.declared.instr.Instr.TheVariants as instr
use Rattle.pearl_instructions.specs.declared.object.Leaf.{Leaf}
use Rattle.pearl_instructions.specs.declared.object.Code.{Code}
use Rattle.pearl_instructions.specs.declared.object.Parts.{Parts as Object}
use Rattle.pearl_instructions.specs.Operands.{Shape}
use Rattle.pearl_instructions.specs.Named.{cells_at}
use Rattle.pearl_instructions.specs.Kinds.{is_uniform, is_kind, first_kind, leaf_kind}
use Rattle.pearl_gen_expr.specs.Shapes.{IsOpen, Keeps}
use Rattle.pearl_gen_expr.proofs.Shapes.{and_is, same_cell_self, open_keeps}
use Rattle.pearl_gen_expr.proofs.Fitting.{cells_are_there, cells_are_uniform, cells_are_plain, first_is_plain}

first_of : (n : ℕ) (k : CellKind) → 0 < n → first_kind (replicate n k) ≡ Some k
first_of zero k some = absurd (omega (arith, some))
first_of (suc n) k some = refl

module _ (o : Object) (r : ℕ) (code : Code) (place : ℕ) where
  module _ (number : ℕ) (leaf : Leaf) (s : Shape) (clear : IsOpen code (place + 1) s) (there : slice_get o.leaves number ≡ Some leaf) where
    pub write_keeps : slice_get code.instructions place ≡ Some (instr.Write number) → length code.cells + length (Plain leaf.kind ∷ s) ≤ code.depth →
        Keeps o r code place (place + 1) (Plain leaf.kind ∷ s) s
    write_keeps is room = open_keeps o r code place (instr.Write number) (Plain leaf.kind ∷ s) s is clear refl refl
        (record {
          one = lt-ltb number (length o.leaves) (slice_get_within o.leaves number leaf there);
          two = refl;
          three = refl;
          four = ap (λ (found : Option Leaf). is_kind (Plain leaf.kind) (leaf_kind found)) there ∙ same_cell_self (Plain leaf.kind);
          five = refl;
          eight = refl;
          ten = refl;
          eleven = le-leb (length code.cells + length (Plain leaf.kind ∷ s)) code.depth room;
          twelve = refl;
        }) refl

    pub write_at_keeps : slice_get code.instructions place ≡ Some (instr.WriteAt number) → length code.cells + length (Plain leaf.kind ∷ Plain (kind_.Fixed 31) ∷ s) ≤ code.depth →
        Keeps o r code place (place + 1) (Plain leaf.kind ∷ Plain (kind_.Fixed 31) ∷ s) s
    write_at_keeps is room = open_keeps o r code place (instr.WriteAt number) (Plain leaf.kind ∷ Plain (kind_.Fixed 31) ∷ s) s is clear refl refl
        (record {
          one = lt-ltb number (length o.leaves) (slice_get_within o.leaves number leaf there);
          two = refl;
          three = refl;
          four = ap (λ (found : Option Leaf). is_kind (Plain leaf.kind) (leaf_kind found)) there ∙ same_cell_self (Plain leaf.kind);
          five = refl;
          eight = refl;
          ten = refl;
          eleven = le-leb (length code.cells + length (Plain leaf.kind ∷ Plain (kind_.Fixed 31) ∷ s)) code.depth room;
          twelve = refl;
        }) refl

  pub write_ref_keeps : (kind : Kind) (s : Shape) → IsOpen code (place + 1) s → slice_get code.instructions place ≡ Some instr.WriteRef → length code.cells + length (Plain kind ∷ RefTo kind ∷ s) ≤ code.depth →
      Keeps o r code place (place + 1) (Plain kind ∷ RefTo kind ∷ s) s
  write_ref_keeps kind s clear is room = open_keeps o r code place instr.WriteRef (Plain kind ∷ RefTo kind ∷ s) s is clear refl refl
      (record {
        one = refl;
        two = refl;
        three = refl;
        four = same_cell_self (Plain kind);
        five = refl;
        eight = refl;
        ten = refl;
        eleven = le-leb (length code.cells + length (Plain kind ∷ RefTo kind ∷ s)) code.depth room;
        twelve = refl;
      }) refl

  pub store_keeps : (c : ℕ) (kind : Kind) (s : Shape) → IsOpen code (place + 1) s → slice_get code.instructions place ≡ Some (instr.Store c) → take 1 (drop c code.cells) ≡ replicate 1 (Plain kind) →
      length code.cells + length (Plain kind ∷ s) ≤ code.depth → Keeps o r code place (place + 1) (Plain kind ∷ s) s
  store_keeps c kind s clear is are room =
      let some : 0 < 1 = omega arith in
      open_keeps o r code place (instr.Store c) (Plain kind ∷ s) s is clear refl refl
      (record {
        one = lt-ltb c (length code.cells) (slice_get_within code.cells c (Plain kind) (first_is_plain code c 1 kind some are));
        two = refl;
        three = refl;
        four = and_is (is_uniform (cells_at code c 1)) _ (cells_are_uniform code c 1 kind some are)
            (ap (λ cells. is_kind (Plain kind) (first_kind cells)) are ∙ same_cell_self (Plain kind));
        five = cells_are_plain code c 1 kind some are;
        eight = refl;
        ten = refl;
        eleven = le-leb (length code.cells + length (Plain kind ∷ s)) code.depth room;
        twelve = refl;
      }) refl

  pub store_at_keeps : (c n : ℕ) (kind : Kind) (s : Shape) → IsOpen code (place + 1) s → slice_get code.instructions place ≡ Some (instr.StoreAt c n) → 0 < n → take n (drop c code.cells) ≡ replicate n (Plain kind) →
      length code.cells + length (Plain kind ∷ Plain (kind_.Fixed 31) ∷ s) ≤ code.depth → Keeps o r code place (place + 1) (Plain kind ∷ Plain (kind_.Fixed 31) ∷ s) s
  store_at_keeps c n kind s clear is some are room =
      open_keeps o r code place (instr.StoreAt c n) (Plain kind ∷ Plain (kind_.Fixed 31) ∷ s) s is clear refl refl
      (record {
        one = cells_are_there code c n kind some are;
        two = refl;
        three = refl;
        four = and_is (is_uniform (cells_at code c n)) _ (cells_are_uniform code c n kind some are)
            (ap (λ cells. is_kind (Plain kind) (first_kind cells)) are ∙ (ap (is_kind (Plain kind)) (first_of n (Plain kind) some) ∙ same_cell_self (Plain kind)));
        five = cells_are_plain code c n kind some are;
        eight = refl;
        ten = refl;
        eleven = le-leb (length code.cells + length (Plain kind ∷ Plain (kind_.Fixed 31) ∷ s)) code.depth room;
        twelve = refl;
      }) refl
