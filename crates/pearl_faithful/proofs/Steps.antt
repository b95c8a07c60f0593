-- No rule of the validator fails at the instructions of statements, where the operands have the kinds that are needed.
use Rattle.std.proofs.Common.{◌≡◌, ℕ, zero, suc, ◌+◌, ◌<◌, ◌≤◌, Bool, true, false, List, [], ◌∷◌, ◌++◌, Option, Some, None, slice_get, length, replicate, refl, sym, ap, ◌∙◌, arith, le-leb, lt-ltb, eq-eqb, eqb-true}
use Rattle.std.specs.Prelude.{◌&&◌, ◌||◌, ◌==◌, not, nat_lt, nat_le, nat_eq, option_to_list, take, drop}
use Rattle.std.specs.List.{AllByRecursion, IsDistinct, list_all}
use Rattle.pearl_value.specs.declared.kind.Kind.{Kind}
use Rattle.pearl_value.specs.declared.kind.Kind.TheVariants as kind_
use Rattle.pearl_value.specs.declared.kind.CellKind.{CellKind}
use Rattle.pearl_value.specs.declared.kind.CellKind.TheVariants.{Plain}
use Rattle.pearl_value.specs.declared.listing.Listing.{Listing}
use Rattle.pearl_value.specs.declared.trap.Trap.{Trap as TrapOf}
use Rattle.pearl_value.specs.declared.device.Device.TheVariants.{Input, Output}
use Rattle.pearl_instructions.specs.declared.instr.Instr.{Instr}
use Rattle.pearl_instructions.specs.declared.instr.Instr.TheVariants as instr
use Rattle.pearl_instructions.specs.declared.object.Code.{Code}
use Rattle.pearl_instructions.specs.declared.object.Parts.{Parts as Object}
use Rattle.pearl_instructions.specs.Objects.{is_task, result_of}
use Rattle.pearl_instructions.specs.Operands.{Shape, v2, result_asked, same_shape}
use Rattle.pearl_instructions.specs.Named.{has_cells, cells_at, is_interrupt, is_input, is_output}
use Rattle.pearl_instructions.specs.Kinds.{is_uniform, is_kind, first_kind, are_fixed, kind_taken, kind_sent, has_on_top}
use Rattle.pearl_instructions.specs.Valid.{result_shape, is_repeated, are_different, is_semaphore_list}
use Rattle.pearl_gen_expr.specs.Shapes.{Keeps}
use Rattle.pearl_gen_expr.proofs.Offered.{and_is, same_cell_self, same_shape_self, cells_are_there, cells_are_uniform}
use Rattle.pearl_gen_expr.proofs.Offered.{cells_are_plain}
use Rattle.pearl_faithful.proofs.Quiet.{IsWhole, each_inside, bare_keeps, push_keeps}

first_of : (n : ℕ) (k : CellKind) → 0 < n → first_kind (replicate n k) ≡ Some k
first_of zero k some = absurd (omega (arith, some))
first_of (suc n) k some = refl

all_fixed : (n len : ℕ) → are_fixed (replicate n (Plain (kind_.Fixed len))) ≡ true
all_fixed zero len = refl
all_fixed (suc n) len = all_fixed n len

first_inside : (a : Bool) → a && true ≡ true → a ≡ true
first_inside true e = refl
first_inside false e = e

-- SEMAPHORES

not_repeated : (n : ℕ) (ns : List ℕ) → AllByRecursion (λ m. nat_eq n m ≡ false) ns → is_repeated n ns ≡ false
not_repeated n [] apart = refl
not_repeated n (m ∷ ns) apart = by (m == n) (turned m n apart.0) (not_repeated n ns apart.1)
  where
    by : (test : Bool) → test ≡ false → is_repeated n ns ≡ false → test || is_repeated n ns ≡ false
    by true is rest = cc
    by false is rest = rest

    turned : (m n : ℕ) → nat_eq n m ≡ false → m == n ≡ false
    turned m n apart = differ (m == n) refl
      where
        differ : (test : Bool) → (m == n) ≡ test → test ≡ false
        differ false same = refl
        differ true same = let one = eqb-true m n same in let other = eq-eqb n m (sym one) in cc

different : (ns : List ℕ) → IsDistinct nat_eq ns → are_different ns ≡ true
unfolding IsDistinct
different [] apart = refl
different (n ∷ ns) apart = and_is (not (is_repeated n ns)) (are_different ns) (ap not (not_repeated n ns apart.0)) (different ns apart.1)

pub semaphore_list : (ns : List ℕ) → 0 < length ns → length ns ≤ 16 → IsDistinct nat_eq ns → is_semaphore_list ns ≡ true
semaphore_list ns some few apart =
    and_is (nat_le 1 (length ns) && nat_le (length ns) 16) (are_different ns)
    (and_is (nat_le 1 (length ns)) (nat_le (length ns) 16) (le-leb 1 (length ns) some) (le-leb (length ns) 16 few)) (different ns apart)

all_small : (ns : List ℕ) (bound : ℕ) → AllByRecursion (λ n. n < bound) ns → list_all (λ n. nat_lt n bound) ns ≡ true
all_small [] bound all = refl
all_small (n ∷ ns) bound all = and_is (nat_lt n bound) (list_all (λ n. nat_lt n bound) ns) (lt-ltb n bound all.0) (all_small ns bound all.1)

module _ (o : Object) (r : ℕ) (code : Code) (whole : IsWhole o code) (place : ℕ) where
  -- there is room for these operands
  abbrev pub HasFor : Shape → Type 0
  HasFor s = length code.cells + length s ≤ code.depth

  abbrev Here : Instr → Type 0
  Here here = slice_get code.instructions place ≡ Some here

  abbrev Passes : (before after : Shape) → Type 0
  Passes before after = Keeps o r code place (place + 1) before after

  deep : (s : Shape) → HasFor s → nat_le (length code.cells + length s) code.depth ≡ true
  deep s room = le-leb (length code.cells + length s) code.depth room

  -- CELLS

  pub fill_keeps : (c n : ℕ) (kind : Kind) → Here (instr.Fill c n kind) → 0 < n → take n (drop c code.cells) ≡ replicate n (Plain kind) → HasFor [] → Passes [] []
  fill_keeps c n kind is some are room = bare_keeps o r code whole place (instr.Fill c n kind) [] is
      (record {
        one = cells_are_there code c n kind some are;
        two = refl;
        three = refl;
        four = and_is (is_uniform (cells_at code c n)) _ (cells_are_uniform code c n kind some are)
            (ap (λ cells. is_kind (Plain kind) (first_kind cells)) are ∙ (ap (is_kind (Plain kind)) (first_of n (Plain kind) some) ∙ same_cell_self (Plain kind)));
        five = cells_are_plain code c n kind some are;
        eight = refl;
        ten = refl;
        eleven = deep [] room;
        twelve = refl;
      }) refl

  -- WHAT ASKS FOR LITTLE

  pub drop_keeps : (k : CellKind) → Here instr.Drop → HasFor (k ∷ []) → Passes (k ∷ []) []
  drop_keeps k is room = bare_keeps o r code whole place instr.Drop (k ∷ []) is
      (record { one = refl; two = refl; three = refl; four = refl; five = refl; eight = refl; ten = refl; eleven = deep (k ∷ []) room; twelve = refl }) refl

  pub turn_keeps : Here instr.Turn → HasFor [] → Passes [] []
  turn_keeps is room = bare_keeps o r code whole place instr.Turn [] is
      (record { one = refl; two = refl; three = refl; four = refl; five = refl; eight = refl; ten = refl; eleven = deep [] room; twelve = refl }) refl

  pub trap_keeps : (trap : TrapOf) → Here (instr.Trap trap) → HasFor [] → Passes [] []
  trap_keeps trap is room = bare_keeps o r code whole place (instr.Trap trap) [] is
      (record { one = refl; two = refl; three = refl; four = refl; five = refl; eight = refl; ten = refl; eleven = deep [] room; twelve = refl }) refl

  pub nonzero_keeps : (len : ℕ) → Here instr.NonZero → HasFor (Plain (kind_.Fixed len) ∷ []) → Passes (Plain (kind_.Fixed len) ∷ []) (Plain (kind_.Fixed len) ∷ [])
  nonzero_keeps len is room = push_keeps o r code whole place instr.NonZero (Plain (kind_.Fixed len) ∷ []) (Plain (kind_.Fixed len) ∷ []) is refl refl
      (record { one = refl; two = refl; three = refl; four = refl; five = refl; eight = refl; ten = refl; eleven = deep (Plain (kind_.Fixed len) ∷ []) room; twelve = refl }) refl

  -- JUMPS

  pub jump_keeps : (t : ℕ) → Here (instr.Jump t) → HasFor [] → Passes [] []
  jump_keeps t is room = bare_keeps o r code whole place (instr.Jump t) [] is
      (record {
        one = first_inside (nat_lt t (length code.instructions)) (each_inside o r code whole place (instr.Jump t) is);
        two = refl;
        three = refl;
        four = refl;
        five = refl;
        eight = refl;
        ten = refl;
        eleven = deep [] room;
        twelve = refl;
      }) refl

  pub jump_zero_keeps : (t : ℕ) → Here (instr.JumpZero t) → HasFor (Plain (kind_.Bits 1) ∷ []) → Passes (Plain (kind_.Bits 1) ∷ []) []
  jump_zero_keeps t is room = bare_keeps o r code whole place (instr.JumpZero t) (Plain (kind_.Bits 1) ∷ []) is
      (record {
        one = first_inside (nat_lt t (length code.instructions)) (each_inside o r code whole place (instr.JumpZero t) is);
        two = refl;
        three = refl;
        four = refl;
        five = refl;
        eight = refl;
        ten = refl;
        eleven = deep (Plain (kind_.Bits 1) ∷ []) room;
        twelve = refl;
      }) refl

  pub case_keeps : (list : List ℕ) (len : ℕ) → Here (instr.Case list) → HasFor (Plain (kind_.Fixed len) ∷ []) → Passes (Plain (kind_.Fixed len) ∷ []) []
  case_keeps list len is room = bare_keeps o r code whole place (instr.Case list) (Plain (kind_.Fixed len) ∷ []) is
      (record {
        one = each_inside o r code whole place (instr.Case list) is;
        two = refl;
        three = refl;
        four = refl;
        five = refl;
        eight = refl;
        ten = refl;
        eleven = deep (Plain (kind_.Fixed len) ∷ []) room;
        twelve = refl;
      }) refl

  -- LOOPS

  module _ (c len : ℕ) (are : take 3 (drop c code.cells) ≡ replicate 3 (Plain (kind_.Fixed len))) where
    three : 0 < 3
    three = omega arith

    pub within_keeps : Here (instr.Within c) → HasFor [] → Passes [] (Plain (kind_.Bits 1) ∷ [])
    within_keeps is room = push_keeps o r code whole place (instr.Within c) [] (Plain (kind_.Bits 1) ∷ []) is refl refl
        (record {
          one = cells_are_there code c 3 (kind_.Fixed len) three are;
          two = refl;
          three = refl;
          four = and_is (is_uniform (cells_at code c 3)) _ (cells_are_uniform code c 3 (kind_.Fixed len) three are) (ap are_fixed are ∙ all_fixed 3 len);
          five = cells_are_plain code c 3 (kind_.Fixed len) three are;
          eight = refl;
          ten = refl;
          eleven = deep [] room;
          twelve = refl;
        }) refl

    pub advance_keeps : (t : ℕ) → Here (instr.Advance c t) → HasFor [] → Passes [] []
    advance_keeps t is room = bare_keeps o r code whole place (instr.Advance c t) [] is
        (record {
          one = and_is (has_cells code c 3) (nat_lt t (length code.instructions)) (cells_are_there code c 3 (kind_.Fixed len) three are)
              (first_inside (nat_lt t (length code.instructions)) (each_inside o r code whole place (instr.Advance c t) is));
          two = refl;
          three = refl;
          four = and_is (is_uniform (cells_at code c 3)) _ (cells_are_uniform code c 3 (kind_.Fixed len) three are) (ap are_fixed are ∙ all_fixed 3 len);
          five = cells_are_plain code c 3 (kind_.Fixed len) three are;
          eight = refl;
          ten = refl;
          eleven = deep [] room;
          twelve = refl;
        }) refl

  -- DEVICES

  pub take_keeps : (device number : ℕ) (of : Kind) (s : Shape) → Here (instr.Take device) → slice_get o.devices device ≡ Some (Input number of) → HasFor s → Passes s (Plain of ∷ s)
  take_keeps device number of s is there room = push_keeps o r code whole place (instr.Take device) s (Plain of ∷ s) is refl refl
      (record { one = ap is_input there; two = refl; three = refl; four = refl; five = refl; eight = refl; ten = refl; eleven = deep s room; twelve = refl })
      (ap (λ found. option_to_list (kind_taken found) ++ s) there)

  pub send_keeps : (device number : ℕ) (of : Kind) → Here (instr.Send device) → slice_get o.devices device ≡ Some (Output number of) → HasFor (Plain of ∷ []) → Passes (Plain of ∷ []) []
  send_keeps device number of is there room = bare_keeps o r code whole place (instr.Send device) (Plain of ∷ []) is
      (record {
        one = ap is_output there;
        two = refl;
        three = refl;
        four = ap (λ found. has_on_top (Plain of ∷ []) (kind_sent found)) there ∙ same_cell_self (Plain of);
        five = refl;
        eight = refl;
        ten = refl;
        eleven = deep (Plain of ∷ []) room;
        twelve = refl;
      }) refl

  pub enable_keeps : (device : ℕ) → Here (instr.Enable device) → is_interrupt (slice_get o.devices device) ≡ true → HasFor [] → Passes [] []
  enable_keeps device is there room = bare_keeps o r code whole place (instr.Enable device) [] is
      (record { one = there; two = refl; three = refl; four = refl; five = refl; eight = refl; ten = refl; eleven = deep [] room; twelve = refl }) refl

  pub disable_keeps : (device : ℕ) → Here (instr.Disable device) → is_interrupt (slice_get o.devices device) ≡ true → HasFor [] → Passes [] []
  disable_keeps device is there room = bare_keeps o r code whole place (instr.Disable device) [] is
      (record { one = there; two = refl; three = refl; four = refl; five = refl; eight = refl; ten = refl; eleven = deep [] room; twelve = refl }) refl

  pub trigger_keeps : (device : ℕ) → Here (instr.Trigger device) → is_interrupt (slice_get o.devices device) ≡ true → HasFor [] → Passes [] []
  trigger_keeps device is there room = bare_keeps o r code whole place (instr.Trigger device) [] is
      (record { one = there; two = refl; three = refl; four = refl; five = refl; eight = refl; ten = refl; eleven = deep [] room; twelve = refl }) refl

  -- TASKS

  pub suspend_keeps : (task : ℕ) → Here (instr.Suspend task) → task < length o.tasks → HasFor [] → Passes [] []
  suspend_keeps task is there room = bare_keeps o r code whole place (instr.Suspend task) [] is
      (record { one = lt-ltb task (length o.tasks) there; two = refl; three = refl; four = refl; five = refl; eight = refl; ten = refl; eleven = deep [] room; twelve = refl }) refl

  pub suspend_own_keeps : Here instr.SuspendOwn → HasFor [] → Passes [] []
  suspend_own_keeps is room = bare_keeps o r code whole place instr.SuspendOwn [] is
      (record { one = refl; two = refl; three = refl; four = refl; five = refl; eight = refl; ten = refl; eleven = deep [] room; twelve = refl }) refl

  pub terminate_keeps : (task : ℕ) → Here (instr.Terminate task) → task < length o.tasks → HasFor [] → Passes [] []
  terminate_keeps task is there room = bare_keeps o r code whole place (instr.Terminate task) [] is
      (record { one = lt-ltb task (length o.tasks) there; two = refl; three = refl; four = refl; five = refl; eight = refl; ten = refl; eleven = deep [] room; twelve = refl }) refl

  pub terminate_own_keeps : Here instr.TerminateOwn → HasFor [] → Passes [] []
  terminate_own_keeps is room = bare_keeps o r code whole place instr.TerminateOwn [] is
      (record { one = refl; two = refl; three = refl; four = refl; five = refl; eight = refl; ten = refl; eleven = deep [] room; twelve = refl }) refl

  pub prevent_keeps : (task : ℕ) → Here (instr.Prevent task) → task < length o.tasks → HasFor [] → Passes [] []
  prevent_keeps task is there room = bare_keeps o r code whole place (instr.Prevent task) [] is
      (record { one = lt-ltb task (length o.tasks) there; two = refl; three = refl; four = refl; five = refl; eight = refl; ten = refl; eleven = deep [] room; twelve = refl }) refl

  pub prevent_own_keeps : Here instr.PreventOwn → HasFor [] → Passes [] []
  prevent_own_keeps is room = bare_keeps o r code whole place instr.PreventOwn [] is
      (record { one = refl; two = refl; three = refl; four = refl; five = refl; eight = refl; ten = refl; eleven = deep [] room; twelve = refl }) refl

  -- ENDS

  pub return_keeps : (result : Option Kind) → Here instr.Return → is_task o r ≡ false → result_of o r ≡ result → HasFor (result_shape result) → Passes (result_shape result) []
  return_keeps result is procedure known room = bare_keeps o r code whole place instr.Return (result_shape result) is
      (record {
        one = refl;
        two = ap (λ found. v2 (result_asked found) (result_shape result)) known ∙ asked result;
        three = refl;
        four = refl;
        five = refl;
        eight = refl;
        ten = and_is (not (is_task o r)) _ (ap not procedure) (ap (λ found. same_shape (result_shape result) (result_shape found)) known ∙ same_shape_self (result_shape result));
        eleven = deep (result_shape result) room;
        twelve = refl;
      })
      (ap (λ found. drop (length (result_asked found)) (result_shape result)) known ∙ left result)
    where
      asked : (result : Option Kind) → v2 (result_asked result) (result_shape result) ≡ true
      asked None = refl
      asked (Some kind) = refl

      left : (result : Option Kind) → drop (length (result_asked result)) (result_shape result) ≡ []
      left None = refl
      left (Some kind) = refl

  pub end_keeps : Here instr.End → is_task o r ≡ true → HasFor [] → Passes [] []
  end_keeps is task room = bare_keeps o r code whole place instr.End [] is
      (record {
        one = refl;
        two = refl;
        three = refl;
        four = refl;
        five = refl;
        eight = refl;
        ten = and_is (is_task o r) true task refl;
        eleven = deep [] room;
        twelve = refl;
      }) refl

  -- SEMAPHORES

  pub request_keeps : (list : List ℕ) → Here (instr.Request list) → is_semaphore_list list ≡ true → AllByRecursion (λ s. s < length o.semaphores) list → HasFor [] →
      Passes [] []
  request_keeps list is fine there room = bare_keeps o r code whole place (instr.Request list) [] is
      (record {
        one = all_small list (length o.semaphores) there;
        two = refl;
        three = refl;
        four = refl;
        five = refl;
        eight = refl;
        ten = refl;
        eleven = deep [] room;
        twelve = fine;
      }) refl

  pub release_keeps : (list : List ℕ) → Here (instr.Release list) → is_semaphore_list list ≡ true → AllByRecursion (λ s. s < length o.semaphores) list → HasFor [] →
      Passes [] []
  release_keeps list is fine there room = bare_keeps o r code whole place (instr.Release list) [] is
      (record {
        one = all_small list (length o.semaphores) there;
        two = refl;
        three = refl;
        four = refl;
        five = refl;
        eight = refl;
        ten = refl;
        eleven = deep [] room;
        twelve = fine;
      }) refl
