-- A whole object that is lawful and valid: FOR I FROM 1 TO 3 REPEAT GET V; CALL P(V); PUT V; END, where P adds 1 to its parameter.
use Rattle.std.proofs.Common.{◌≡◌, ℕ, zero, suc, ◌<◌, ◌^◌, pos, List, [], ◌∷◌, Option, Some, None, length, slice_get, inl, refl, ap, ◌∙◌, arith, Bool, true, false, ne_eqb, ltb-true, ltb-false}
use Rattle.std.specs.Prelude.{◌&&◌, ◌==◌, nat_lt, is_none, if◌then◌else◌}
use Rattle.std.proofs.lemmas.Int.{ints}
use Rattle.pearl_value.specs.declared.kind.Kind.TheVariants as kind
use Rattle.pearl_value.specs.declared.kind.CellKind.TheVariants.{RefTo}
use Rattle.pearl_value.specs.declared.cell.Cell.TheVariants.{Fixed}
use Rattle.pearl_value.specs.Kinds.{IsKind}
use Rattle.pearl_value.specs.WellFormed.{IsValue}
use Rattle.pearl_value.specs.declared.operator.Dyad.TheVariants.{Add}
use Rattle.pearl_format.specs.declared.item.ItemCode.TheVariants.{F, Skip}
use Rattle.pearl_value.specs.declared.device.Device.TheVariants.{Terminal}
use Rattle.pearl_value.specs.declared.device.Direction.TheVariants.{InOut}
use Rattle.pearl_instructions.specs.declared.instr.Instr.{Instr}
use Rattle.pearl_instructions.specs.declared.instr.Instr.TheVariants.{Const, Load, Store, RefCell, ReadRef, WriteRef, Jump, JumpZero, Turn, Call, Return, End, Within, Advance, Dyadic, Put, Get}
use Rattle.pearl_instructions.specs.declared.object.Code.{Code}
use Rattle.pearl_instructions.specs.declared.object.Parts.{Parts as Object}
use Rattle.pearl_instructions.specs.Objects.{routine_at}
use Rattle.pearl_instructions.specs.Lawful.{IsCode, IsObject}
use Rattle.pearl_instructions.specs.Valid.{judged_at, judged_whole, unsound_in, unsound, IsValid}
use Rattle.pearl_instructions.proofs.Tests.{and_true}
use Rattle.pearl_instructions.proofs.Letters.{letter_is_id}
use Rattle.pearl_instructions.proofs.Examples.{fixed, code, item}

abbrev pub number : ℕ → Instr
number n = Const (Fixed 31 (pos n))

abbrev adding : Code
adding = code (RefTo (kind.Fixed 31) ∷ []) 4 (Load 0 ∷ Load 0 ∷ ReadRef ∷ number 1 ∷ Dyadic Add ∷ WriteRef ∷ Return ∷ []) []

-- its cells are V, the control, the step and the limit
abbrev looping : Code
looping = code (fixed ∷ fixed ∷ fixed ∷ fixed ∷ []) 8 (
    number 1 ∷ Store 1 ∷ number 1 ∷ Store 2 ∷ number 3 ∷ Store 3 ∷ Turn ∷ Within 1 ∷ JumpZero 16 ∷ Get (record { device = 0; format = 0; first = 0 }) ∷
    RefCell 0 ∷ Call 0 ∷ Load 0 ∷ Put 0 0 ∷ Advance 1 16 ∷ Jump 6 ∷ End ∷ []) []

abbrev whole : Object
whole = record {
  devices = Terminal 1 InOut ∷ [];
  semaphores = [];
  leaves = [];
  formats = (item F 5 ∷ item Skip 0 ∷ []) ∷ [];
  procedures = record { params = 1; result = None; code = adding } ∷ [];
  tasks = record { name = record { items = 84 ∷ [] }; priority = 1; main = true; code = looping } ∷ [];
}

-- no rule fails at the first n instructions
abbrev is_clean : Object → ℕ → ℕ → Bool
is_clean o r zero = true
is_clean o r (suc n) = is_none (unsound o r n) && is_clean o r n

none_is : {A : Type 0} (x : Option A) → is_none x ≡ true → x ≡ None
none_is None e = refl
none_is (Some x) e = cc

clean_at : (o : Object) (r n i : ℕ) → is_clean o r n ≡ true → i < n → unsound o r i ≡ None
clean_at o r zero i e less = absurd (omega (arith, less))
clean_at o r (suc n) i e less = by (nat_lt i n) refl (and_true (is_none (unsound o r n)) (is_clean o r n) e) (clean_at o r n i)
  where
    by : (b : Bool) → nat_lt i n ≡ b → (is_none (unsound o r n) ≡ true) × (is_clean o r n ≡ true) → (is_clean o r n ≡ true → i < n → unsound o r i ≡ None) → unsound o r i ≡ None
    by true h both go = go both.1 (ltb-true i n h)
    by false h both go =
        let low = ltb-false i n h in
        let same : i ≡ n = omega (arith, low, less) in
        ap (unsound o r) same ∙ none_is (unsound o r n) both.0

past : {A : Type 0} (xs : List A) (i : ℕ) → length xs < i → slice_get xs i ≡ None
past [] i less = refl
past (x ∷ xs) zero less = absurd (omega (arith, less))
past (x ∷ xs) (suc i) less = past xs i (omega (arith, less))

-- behind a routine nothing fails
behind : (o : Object) (r i : ℕ) (code : Code) → routine_at o r ≡ Some code → length code.instructions < i → unsound o r i ≡ None
behind o r i code at less =
    let other : (i == length code.instructions) ≡ false = ne_eqb i (length code.instructions) (λ same. omega (arith, same, less)) in
    ap (λ c. unsound_in o r c i) at ∙ (ap (judged_at o r code i) (past code.instructions i less) ∙ ap (λ b. if b then judged_whole code else None) other)

-- so nothing fails anywhere in it
pub nowhere : (o : Object) (r : ℕ) (code : Code) → routine_at o r ≡ Some code → is_clean o r (suc (length code.instructions)) ≡ true → (i : ℕ) → unsound o r i ≡ None
nowhere o r code at clean i = by (nat_lt i (suc (length code.instructions))) refl
  where
    by : (b : Bool) → nat_lt i (suc (length code.instructions)) ≡ b → unsound o r i ≡ None
    by true h = clean_at o r (suc (length code.instructions)) i clean (ltb-true i (suc (length code.instructions)) h)
    by false h = let low = ltb-false i (suc (length code.instructions)) h in behind o r i code at (omega (arith, low))

an_object_is_valid : IsValid whole
an_object_is_valid = record { sound = sound }
  where
    sound : (r i : ℕ) → unsound whole r i ≡ None
    sound zero i = nowhere whole 0 adding refl refl i
    sound (suc zero) i = nowhere whole 1 looping refl refl i
    sound (suc (suc r)) i = refl

-- literals of FIXED(31)
pub small : (n : ℕ) → n < 2 ^ 31 → IsValue (Fixed 31 (pos n))
small n less = ((omega arith, omega arith), record { low = grind (arith, ints); high = grind (arith, ints, less) })

it_is_lawful : IsObject whole
it_is_lawful = record {
  devices = ((omega arith, omega arith, tt), tt);
  rising = tt;
  leaves = tt;
  formats = (((omega arith, omega arith), ((tt, omega arith), tt)), tt);
  procedures = (record { code = is_adding; result = tt }, tt);
  tasks = (record { code = is_looping; named = letter_is_id 84 (inl (omega arith, omega arith)); urgent = (omega arith, omega arith) }, tt);
  semaphores = tt;
  few_formats = omega arith;
  few_slots = omega arith;
  few_procedures = omega arith;
  few_tasks = omega arith;
  few_semaphores = omega arith;
  few_devices = omega arith;
}
  where
    fixed_is : IsKind (kind.Fixed 31)
    fixed_is = (omega arith, omega arith)

    is_adding : IsCode 1 adding
    is_adding = record {
      kinds = (fixed_is, tt);
      plain = tt;
      few = omega arith;
      instructions = (tt, (tt, (tt, (small 1 (omega arith), (tt, (tt, (tt, tt)))))));
      shapes = tt;
      rising = tt;
    }

    is_looping : IsCode 0 looping
    is_looping = record {
      kinds = (fixed_is, (fixed_is, (fixed_is, (fixed_is, tt))));
      plain = (tt, (tt, (tt, (tt, tt))));
      few = omega arith;
      instructions = (small 1 (omega arith), (tt, (small 1 (omega arith), (tt, (small 3 (omega arith), (tt, (tt, (tt, (tt, (tt, (tt, (tt, (tt, (tt, (tt, (tt, (tt, tt)))))))))))))))));
      shapes = tt;
      rising = tt;
    }
