-- The rows on operators, conversions and subscripts lead from a stack of a valid object to such stacks only.
use Rattle.std.proofs.Common.{◌≡◌, ℕ, ℤ, pos, List, [], ◌∷◌, ◌++◌, Option, Some, None, length, refl, sym, ap, ◌∙◌, subst, true}
use Rattle.std.specs.Prelude.{option_to_list, option_map, option_and_then, Result, Ok, Err}
use Rattle.std.specs.Ordering.{int_eq}
use Rattle.std.proofs.lemmas.Option.{same_Some}
use Rattle.pearl_value.specs.declared.kind.Kind.{Kind}
use Rattle.pearl_value.specs.declared.kind.Kind.TheVariants as kind
use Rattle.pearl_value.specs.declared.kind.CellKind.{CellKind}
use Rattle.pearl_value.specs.declared.kind.CellKind.TheVariants.{Plain, RefTo}
use Rattle.pearl_value.specs.declared.cell.Cell.{Cell}
use Rattle.pearl_value.specs.declared.cell.Cell.TheVariants as cell
use Rattle.pearl_value.specs.declared.operator.Monad.{Monad}
use Rattle.pearl_value.specs.declared.operator.Dyad.{Dyad}
use Rattle.pearl_value.specs.declared.trap.Trap.{Trap}
use Rattle.pearl_value.specs.declared.trap.Trap.TheVariants.{Range}
use Rattle.pearl_value.specs.Cells.{kind_of}
use Rattle.pearl_value.specs.Kinds.{IsKind}
use Rattle.pearl_value.specs.WellFormed.{IsValueOf}
use Rattle.pearl_value.specs.Rows.{row1, row2}
use Rattle.pearl_value.specs.Applied.{applied1, applied2}
use Rattle.pearl_value.specs.Conversions.{converted, suits_kind}
use Rattle.pearl_value.specs.Laws.{Gives}
use Rattle.pearl_value.proofs.Offered.{keeps_rows1, keeps_rows2, keeps_kinds}
use Rattle.pearl_stack.specs.Frames.{Frame}
use Rattle.pearl_instructions.specs.declared.instr.Instr.TheVariants.{Conv, NonZero, Monadic, Dyadic}
use Rattle.pearl_instructions.specs.declared.object.Code.{Code}
use Rattle.pearl_instructions.specs.declared.object.Parts.{Parts as Object}
use Rattle.pearl_instructions.specs.Steps.{value_kind, next, traps, leaves, makes}
use Rattle.pearl_instructions.specs.Operators.{number_of}
use Rattle.pearl_instructions.specs.Rows.{act}
use Rattle.pearl_instructions.specs.Operands.{Shape, is_fixed, v2}
use Rattle.pearl_instructions.specs.Kinds.{plain_kind}
use Rattle.pearl_instructions.specs.Stacks.{routines_of, Suits, IsTop}
use Rattle.pearl_instructions.proofs.Tests.{and_true, is_some_true}
use Rattle.pearl_instructions.proofs.Kept.{IsSound, Here, goes, given_goes, needed_goes, popped_goes, traps_goes}
use Rattle.pearl_instructions.proofs.SoundCells.{if_goes, value_kind_is}

-- what was made is of a kind, or a trap is offered
pub makes_goes : (o : Object) (f : Frame) (lower : List Frame) (left : List Cell) (made : Result Cell Trap) (k : Kind) → Gives k made →
    ((x : Cell) → IsValueOf k x → IsTop o (next f (x ∷ left)) lower) → IsSound o (makes f lower left made)
makes_goes o f lower left (Ok x) k g h = h x g
makes_goes o f lower left (Err trap) k g h = traps_goes o trap f lower

bound_is : {A B : Type 0} (x : Option A) (go : A → Option B) (y : B) → option_and_then go x ≡ Some y → (a : A) × (x ≡ Some a) × (go a ≡ Some y)
bound_is None go y e = cc
bound_is (Some a) go y e = (a, refl, e)

plain_kind_is : (k : CellKind) (of : Kind) → plain_kind k ≡ Some of → k ≡ Plain of
plain_kind_is (Plain a) of e = ap Plain (same_Some a of e)
plain_kind_is (RefTo a) of e = cc

pub conv_sound : (o : Object) (f : Frame) (lower : List Frame) (code : Code) (s : Shape) (to : Kind) → IsKind to → Here o f lower code (Conv to) s → IsSound o (act o (Conv to) f lower)
conv_sound o f lower code [] to w h = let e = h.keeps.ends in cc
conv_sound o f lower code (RefTo k ∷ ks) to w h = let e = h.keeps.fits in cc
conv_sound o f lower code (Plain k ∷ ks) to w h =
    popped_goes o (Suits o (f.routine ∷ routines_of lower)) (Plain k) ks f.operands _ h.stands.operands (λ x left suits rest.
    given_goes o k (value_kind x) _ (value_kind_is k x suits)
    (needed_goes o (suits_kind k to) _ h.keeps.fits
    (makes_goes o f lower left (converted x to) to (keeps_kinds x to suits.is_value w) (λ y fits.
    goes o f lower code (Conv to) (Plain k ∷ ks) h f.cells (y ∷ left) (Plain to ∷ ks) refl refl h.stands.cells (fits, rest)))))

pub monadic_sound : (o : Object) (f : Frame) (lower : List Frame) (code : Code) (s : Shape) (op : Monad) → Here o f lower code (Monadic op) s →
    IsSound o (act o (Monadic op) f lower)
monadic_sound o f lower code [] op h = let e = h.keeps.ends in cc
monadic_sound o f lower code (RefTo k ∷ ks) op h = let e = h.keeps.fits in cc
monadic_sound o f lower code (Plain k ∷ ks) op h =
    let row = is_some_true (row1 op k) h.keeps.fits in
    popped_goes o (Suits o (f.routine ∷ routines_of lower)) (Plain k) ks f.operands _ h.stands.operands (λ x left suits rest.
    let there : option_and_then (row1 op) (value_kind x) ≡ Some row.0 = ap (option_and_then (row1 op)) (value_kind_is k x suits) ∙ row.1 in
    given_goes o row.0 (option_and_then (row1 op) (value_kind x)) _ there
    (makes_goes o f lower left (applied1 op x) row.0 (keeps_rows1 op x row.0 suits.is_value (ap (row1 op) suits.same_kind ∙ row.1)) (λ y fits.
    goes o f lower code (Monadic op) (Plain k ∷ ks) h f.cells (y ∷ left) (Plain row.0 ∷ ks) refl
    (ap (λ k. option_to_list (option_map Plain k) ++ ks) (sym row.1)) h.stands.cells (fits, rest))))

pub dyadic_sound : (o : Object) (f : Frame) (lower : List Frame) (code : Code) (s : Shape) (op : Dyad) → Here o f lower code (Dyadic op) s →
    IsSound o (act o (Dyadic op) f lower)
dyadic_sound o f lower code [] op h = let e = h.keeps.ends in cc
dyadic_sound o f lower code (k ∷ []) op h = let e = h.keeps.fits in cc
dyadic_sound o f lower code (RefTo k ∷ Plain l ∷ ks) op h = let e = h.keeps.fits in cc
dyadic_sound o f lower code (RefTo k ∷ RefTo l ∷ ks) op h = let e = h.keeps.fits in cc
dyadic_sound o f lower code (Plain k ∷ RefTo l ∷ ks) op h = let e = h.keeps.fits in cc
dyadic_sound o f lower code (Plain k ∷ Plain l ∷ ks) op h =
    let rs = f.routine ∷ routines_of lower in
    let row = is_some_true (row2 op l k) h.keeps.fits in
    popped_goes o (Suits o rs) (Plain k) (Plain l ∷ ks) f.operands _ h.stands.operands (λ y more suits_y under.
    popped_goes o (Suits o rs) (Plain l) ks more _ under (λ x left suits_x rest.
    let same : row2 op (kind_of x) (kind_of y) ≡ Some row.0 =
    ap (λ a. row2 op a (kind_of y)) suits_x.same_kind ∙ (ap (row2 op l) suits_y.same_kind ∙ row.1) in
    given_goes o l (value_kind x) _ (value_kind_is l x suits_x)
    (given_goes o k (value_kind y) _ (value_kind_is k y suits_y)
    (given_goes o row.0 (row2 op l k) _ row.1
    (makes_goes o f lower left (applied2 op x y) row.0 (keeps_rows2 op x y row.0 suits_x.is_value suits_y.is_value same) (λ z fits.
    goes o f lower code (Dyadic op) (Plain k ∷ Plain l ∷ ks) h f.cells (z ∷ left) (Plain row.0 ∷ ks) refl
    (ap (λ k. option_to_list (option_map Plain k) ++ ks) (sym row.1)) h.stands.cells (fits, rest)))))))

-- a value of a FIXED kind is a number
pub fixed_is : (len : ℕ) (x : Cell) → IsValueOf (kind.Fixed len) x → (value : ℤ) × (x ≡ cell.Fixed len value)
fixed_is len (cell.Fixed other value) w = (value, ap (λ n. cell.Fixed n value) (same_length other len w.same_kind))
  where
    same_length : (a b : ℕ) → kind.Fixed a ≡ kind.Fixed b → a ≡ b
    same_length a b e = cc
fixed_is len (cell.Bits other value) w = let e : kind.Bits other ≡ kind.Fixed len = w.same_kind in absurd (never other len e)
  where
    never : (a b : ℕ) → kind.Bits a ≡ kind.Fixed b → ⊥
    never a b e = cc
fixed_is len (cell.Chars text) w = absurd (never (length text.items) len w.same_kind)
  where
    never : (a b : ℕ) → kind.Chars a ≡ kind.Fixed b → ⊥
    never a b e = cc
fixed_is len (cell.Clock time) w = absurd (never len w.same_kind)
  where
    never : (b : ℕ) → kind.Clock ≡ kind.Fixed b → ⊥
    never b e = cc
fixed_is len (cell.Span time) w = absurd (never len w.same_kind)
  where
    never : (b : ℕ) → kind.Span ≡ kind.Fixed b → ⊥
    never b e = cc
fixed_is len (cell.Ref of at) w = absurd w.is_value

-- where a FIXED is asked for, there is one
pub fixed_kind : (k : CellKind) → is_fixed k ≡ true → (len : ℕ) × (k ≡ Plain (kind.Fixed len))
fixed_kind (Plain (kind.Fixed len)) e = (len, refl)
fixed_kind (Plain (kind.Bits len)) e = cc
fixed_kind (Plain (kind.Chars len)) e = cc
fixed_kind (Plain kind.Clock) e = cc
fixed_kind (Plain kind.Span) e = cc
fixed_kind (RefTo k) e = cc

pub number_is : (o : Object) (rs : List ℕ) (k : CellKind) (x : Cell) → is_fixed k ≡ true → Suits o rs k x → (n : ℤ) × (number_of x ≡ Some n)
number_is o rs k x e suits =
    let of = fixed_kind k e in
    let value = fixed_is of.0 x (subst (λ k. Suits o rs k x) of.1 suits) in
    (value.0, ap number_of value.1)

pub non_zero_sound : (o : Object) (f : Frame) (lower : List Frame) (code : Code) (s : Shape) → Here o f lower code NonZero s → IsSound o (act o NonZero f lower)
non_zero_sound o f lower code [] h = let e = h.keeps.ends in cc
non_zero_sound o f lower code (k ∷ ks) h =
    let fixed = and_true (is_fixed k) (v2 [] ks) h.keeps.ends in
    popped_goes o (Suits o (f.routine ∷ routines_of lower)) k ks f.operands _ h.stands.operands (λ x left suits rest.
    let n = number_is o (f.routine ∷ routines_of lower) k x fixed.0 suits in
    given_goes o n.0 (number_of x) _ n.1
    (if_goes o (int_eq n.0 (pos 0)) (traps Range f lower) (leaves f lower f.operands) (λ e. traps_goes o Range f lower) (λ e.
    goes o f lower code NonZero (k ∷ ks) h f.cells f.operands (k ∷ ks) refl refl h.stands.cells h.stands.operands)))
