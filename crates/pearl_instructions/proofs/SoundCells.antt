-- The rows on cells lead from a stack of a valid object to such stacks only.
use Rattle.std.proofs.Common.{◌≡◌, ℕ, ◌+◌, ◌<◌, pos, negsuc, List, [], ◌∷◌, ◌++◌, Option, Some, None, length, slice_get, slice_set, refl, sym, ap, ◌∙◌, subst, arith, Bool, true, false, ltb-true, le-leb, eq-eqb}
use Rattle.std.specs.Prelude.{◌==◌, nat_lt, nat_le, if◌then◌else◌, option_to_list, option_map, option_and_then}
use Rattle.std.specs.List.{AllZip}
use Rattle.std.proofs.lemmas.List.{length-map}
use Rattle.std.proofs.lemmas.Option.{same_Some}
use Rattle.pearl_value.specs.declared.kind.Kind.{Kind}
use Rattle.pearl_value.specs.declared.kind.Kind.TheVariants as kind
use Rattle.pearl_value.specs.declared.kind.CellKind.{CellKind}
use Rattle.pearl_value.specs.declared.kind.CellKind.TheVariants.{Plain, RefTo}
use Rattle.pearl_value.specs.declared.cell.Place.TheVariants as place
use Rattle.pearl_value.specs.declared.cell.Cell.{Cell}
use Rattle.pearl_value.specs.declared.cell.Cell.TheVariants as cell
use Rattle.pearl_value.specs.declared.trap.Trap.TheVariants.{Index}
use Rattle.pearl_value.specs.Cells.{cell_kind_of}
use Rattle.pearl_value.specs.WellFormed.{IsValue, IsValueOf}
use Rattle.pearl_value.specs.Blanks.{blank_of}
use Rattle.pearl_stack.specs.Frames.{Frame}
use Rattle.pearl_instructions.specs.declared.instr.Instr.{Instr}
use Rattle.pearl_instructions.specs.declared.instr.Instr.TheVariants.{Const, Load, Store, Fill, Drop, LoadAt, StoreAt, RefCell, RefCellAt}
use Rattle.pearl_instructions.specs.declared.object.Code.{Code}
use Rattle.pearl_instructions.specs.declared.object.Parts.{Parts as Object}
use Rattle.pearl_instructions.specs.Steps.{Step, value_kind, traps, within}
use Rattle.pearl_instructions.specs.Cells.{store, filled, cell_reference}
use Rattle.pearl_instructions.specs.Rows.{act}
use Rattle.pearl_instructions.specs.Opcodes.{offset}
use Rattle.pearl_instructions.specs.Operands.{Shape, meets, v2}
use Rattle.pearl_instructions.specs.Named.{has_cells, cells_at}
use Rattle.pearl_instructions.specs.Kinds.{is_kind, has_on_top, first_kind, is_uniform, reference_to}
use Rattle.pearl_instructions.specs.Stacks.{routines_of, cell_kinds, plain_at, cell_kind, Suits, IsTop}
use Rattle.pearl_instructions.proofs.Tests.{and_true, same_cell_true}
use Rattle.pearl_instructions.proofs.Zips.{some_at, zip_get, zip_set, zip_length}
use Rattle.pearl_instructions.proofs.Ranges.{all_front, Range, range_is, zip_fill}
use Rattle.pearl_instructions.proofs.Referred.{is_plain_at, suits_grown, kinds_is}
use Rattle.pearl_instructions.proofs.Kept.{IsSound, Here, goes, given_goes, needed_goes, popped_goes, traps_goes}

pub if_goes : (o : Object) (b : Bool) (x y : Step) → (b ≡ true → IsSound o x) → (b ≡ false → IsSound o y) → IsSound o (if b then x else y)
if_goes o true x y h g = h refl
if_goes o false x y h g = g refl

pub value_suits : (o : Object) (rs : List ℕ) (x : Cell) → IsValue x → Suits o rs (cell_kind_of x) x
value_suits o rs (cell.Fixed len value) w = record { is_value = w; same_kind = refl }
value_suits o rs (cell.Bits len value) w = record { is_value = w; same_kind = refl }
value_suits o rs (cell.Chars text) w = record { is_value = w; same_kind = refl }
value_suits o rs (cell.Clock time) w = record { is_value = w; same_kind = refl }
value_suits o rs (cell.Span time) w = record { is_value = w; same_kind = refl }
value_suits o rs (cell.Ref of at) w = absurd w

same_length : (a b : ℕ) → kind.Fixed a ≡ kind.Fixed b → a ≡ b
same_length a b e = cc

-- an offset of the right kind lies in the range, or Index is trapped
pub within_goes : (o : Object) (n : ℕ) (x : Cell) (f : Frame) (lower : List Frame) (go : ℕ → Step) → IsValueOf (kind.Fixed 31) x →
    ((i : ℕ) → i < n → IsSound o (go i)) → IsSound o (within n x f lower go)
within_goes o n (cell.Fixed len (pos i)) f lower go w h =
    needed_goes o (len == 31) _ (eq-eqb len 31 (same_length len 31 w.same_kind))
    (if_goes o (nat_lt i n) (go i) (traps Index f lower) (λ e. h i (ltb-true i n e)) (λ e. traps_goes o Index f lower))
within_goes o n (cell.Fixed len (negsuc i)) f lower go w h =
    needed_goes o (len == 31) _ (eq-eqb len 31 (same_length len 31 w.same_kind)) (traps_goes o Index f lower)
within_goes o n (cell.Bits len value) f lower go w h = let e = w.same_kind in cc
within_goes o n (cell.Chars text) f lower go w h = let e = w.same_kind in cc
within_goes o n (cell.Clock time) f lower go w h = let e = w.same_kind in cc
within_goes o n (cell.Span time) f lower go w h = let e = w.same_kind in cc
within_goes o n (cell.Ref of at) f lower go w h = absurd w.is_value

-- the kind of a value of this kind
pub value_kind_is : (k : Kind) (x : Cell) → IsValueOf k x → value_kind x ≡ Some k
value_kind_is k (cell.Fixed len value) w = ap Some w.same_kind
value_kind_is k (cell.Bits len value) w = ap Some w.same_kind
value_kind_is k (cell.Chars text) w = ap Some w.same_kind
value_kind_is k (cell.Clock time) w = ap Some w.same_kind
value_kind_is k (cell.Span time) w = ap Some w.same_kind
value_kind_is k (cell.Ref of at) w = absurd w.is_value

-- an offset on top of a shape
pub offset_on_top : (k : CellKind) (ks : Shape) → v2 (offset ∷ []) (k ∷ ks) ≡ true → Plain (kind.Fixed 31) ≡ k
offset_on_top k ks e = same_cell_true (Plain (kind.Fixed 31)) k (and_true (meets offset k) (v2 [] ks) e).0

pub const_sound : (o : Object) (f : Frame) (lower : List Frame) (code : Code) (s : Shape) (x : Cell) → IsValue x → Here o f lower code (Const x) s →
    IsSound o (act o (Const x) f lower)
const_sound o f lower code s x w h =
    goes o f lower code (Const x) s h f.cells (x ∷ f.operands) (cell_kind_of x ∷ s) refl refl h.stands.cells
    (value_suits o (f.routine ∷ routines_of lower) x w, h.stands.operands)

pub load_sound : (o : Object) (f : Frame) (lower : List Frame) (code : Code) (s : Shape) (c : ℕ) → Here o f lower code (Load c) s → IsSound o (act o (Load c) f lower)
load_sound o f lower code s c h =
    let held = some_at code.cells c (ltb-true c (length code.cells) h.keeps.named) in
    let got = zip_get (Suits o (routines_of lower)) code.cells f.cells c held.0 h.stands.cells held.1 in
    given_goes o got.0 (slice_get f.cells c) _ got.1
    (goes o f lower code (Load c) s h f.cells (got.0 ∷ f.operands) (held.0 ∷ s) refl (ap (λ k. option_to_list k ++ s) (sym held.1)) h.stands.cells
    (suits_grown o f.routine (routines_of lower) held.0 got.0 got.2, h.stands.operands))

pub drop_sound : (o : Object) (f : Frame) (lower : List Frame) (code : Code) (s : Shape) → Here o f lower code Drop s → IsSound o (act o Drop f lower)
drop_sound o f lower code [] h = let e = h.keeps.ends in cc
drop_sound o f lower code (k ∷ ks) h =
    popped_goes o (Suits o (f.routine ∷ routines_of lower)) k ks f.operands _ h.stands.operands (λ x left suits rest.
    goes o f lower code Drop (k ∷ ks) h f.cells left ks refl refl h.stands.cells rest)

-- the one cell that Store or RefCell names
one_cell : (code : Code) (c : ℕ) → c < length code.cells → has_cells code c 1 ≡ true
one_cell code c less = rw (le-leb (c + 1) (length code.cells) (omega (arith, less))) refl

on_top_is : (k : CellKind) (ks : Shape) (want : Option CellKind) (other : CellKind) → has_on_top (k ∷ ks) want ≡ true → want ≡ Some other → k ≡ other
on_top_is k ks None other e h = cc
on_top_is k ks (Some want) other e h = same_cell_true k want e ∙ same_Some want other h

-- a value of the kind of a range's cells is put into one of them
put_goes : (o : Object) (f : Frame) (lower : List Frame) (code : Code) (instr : Instr) (s : Shape) (h : Here o f lower code instr s) (c n i m : ℕ) (r : Range code c n)
    (x : Cell) (left : List Cell) (ks : Shape) → m ≡ c + i → i < n → Suits o (f.routine ∷ routines_of lower) (Plain r.kind) x →
    ((cells : List Cell) → AllZip (Suits o (routines_of lower)) code.cells cells →
    IsTop o (record { routine = f.routine; place = f.place + 1; cells = cells; operands = left }) lower) →
    IsSound o (store m x f lower left)
put_goes o f lower code instr s h c n i m r x left ks e less suits go =
    let at : slice_get code.cells m ≡ Some (Plain r.kind) = r.each i m e less in
    let got = zip_get (Suits o (routines_of lower)) code.cells f.cells m (Plain r.kind) h.stands.cells at in
    given_goes o got.0 (slice_get f.cells m) _ got.1
    (go (slice_set f.cells m x) (zip_set (Suits o (routines_of lower)) code.cells f.cells m (Plain r.kind) x h.stands.cells at suits))

pub store_sound : (o : Object) (f : Frame) (lower : List Frame) (code : Code) (s : Shape) (c : ℕ) → Here o f lower code (Store c) s → IsSound o (act o (Store c) f lower)
store_sound o f lower code [] c h = let e = h.keeps.ends in cc
store_sound o f lower code (k ∷ ks) c h =
    let rs = f.routine ∷ routines_of lower in
    let exact = and_true (is_uniform (cells_at code c 1)) (has_on_top (k ∷ ks) (first_kind (cells_at code c 1))) h.keeps.exact in
    let r = range_is code c 1 (one_cell code c (ltb-true c (length code.cells) h.keeps.named)) exact.0 (all_front _ (cells_at code c 1) [] h.keeps.plain) in
    let same : k ≡ Plain r.kind = on_top_is k ks (first_kind (cells_at code c 1)) (Plain r.kind) exact.1 r.head in
    popped_goes o (Suits o rs) k ks f.operands _ h.stands.operands (λ x left suits rest.
    put_goes o f lower code (Store c) (k ∷ ks) h c 1 0 c r x left ks (omega arith) (omega arith) (subst (λ k. Suits o rs k x) same suits) (λ cells z.
    goes o f lower code (Store c) (k ∷ ks) h cells left ks refl refl z rest))

pub fill_sound : (o : Object) (f : Frame) (lower : List Frame) (code : Code) (s : Shape) (c n : ℕ) (of : Kind) →
    IsValueOf of (blank_of of) → Here o f lower code (Fill c n of) s → IsSound o (act o (Fill c n of) f lower)
fill_sound o f lower code s c n of blank h =
    let exact = and_true (is_uniform (cells_at code c n)) (is_kind (Plain of) (first_kind (cells_at code c n))) h.keeps.exact in
    let r = range_is code c n h.keeps.named exact.0 (all_front _ (cells_at code c n) [] h.keeps.plain) in
    let same : Plain of ≡ Plain r.kind = on_top_is (Plain of) [] (first_kind (cells_at code c n)) (Plain r.kind) exact.1 r.head in
    let long = zip_length (Suits o (routines_of lower)) code.cells f.cells h.stands.cells in
    let within = r.within in
    needed_goes o (nat_le (c + n) (length f.cells)) _ (le-leb (c + n) (length f.cells) (omega (arith, long, within)))
    (goes o f lower code (Fill c n of) s h (filled f.cells c n of) f.operands s refl refl
    (zip_fill (Suits o (routines_of lower)) code.cells f.cells c n (c + n) (Plain r.kind) (blank_of of) refl r.within r.each
    (subst (λ k. Suits o (routines_of lower) k (blank_of of)) same blank) h.stands.cells) h.stands.operands)

pub load_at_sound : (o : Object) (f : Frame) (lower : List Frame) (code : Code) (s : Shape) (c n : ℕ) → Here o f lower code (LoadAt c n) s → IsSound o (act o (LoadAt c n) f lower)
load_at_sound o f lower code [] c n h = let e = h.keeps.ends in cc
load_at_sound o f lower code (k ∷ ks) c n h =
    let rs = f.routine ∷ routines_of lower in
    let exact = and_true (is_uniform (cells_at code c n)) true h.keeps.exact in
    let r = range_is code c n h.keeps.named exact.0 (all_front _ (cells_at code c n) [] h.keeps.plain) in
    popped_goes o (Suits o rs) k ks f.operands _ h.stands.operands (λ x left suits rest.
    within_goes o n x f lower _ (subst (λ k. Suits o rs k x) (sym (offset_on_top k ks h.keeps.ends)) suits) (λ i less.
    let at : slice_get code.cells (c + i) ≡ Some (Plain r.kind) = r.each i (c + i) refl less in
    let got = zip_get (Suits o (routines_of lower)) code.cells f.cells (c + i) (Plain r.kind) h.stands.cells at in
    given_goes o got.0 (slice_get f.cells (c + i)) _ got.1
    (goes o f lower code (LoadAt c n) (k ∷ ks) h f.cells (got.0 ∷ left) (Plain r.kind ∷ ks) refl (ap (λ k. option_to_list k ++ ks) (sym r.first)) h.stands.cells
    (got.2, rest))))

pub store_at_sound : (o : Object) (f : Frame) (lower : List Frame) (code : Code) (s : Shape) (c n : ℕ) → Here o f lower code (StoreAt c n) s → IsSound o (act o (StoreAt c n) f lower)
store_at_sound o f lower code [] c n h = let e = h.keeps.ends in cc
store_at_sound o f lower code (k ∷ []) c n h = let e = h.keeps.ends in cc
store_at_sound o f lower code (k ∷ l ∷ ks) c n h =
    let rs = f.routine ∷ routines_of lower in
    let exact = and_true (is_uniform (cells_at code c n)) (has_on_top (k ∷ l ∷ ks) (first_kind (cells_at code c n))) h.keeps.exact in
    let r = range_is code c n h.keeps.named exact.0 (all_front _ (cells_at code c n) [] h.keeps.plain) in
    let same : k ≡ Plain r.kind = on_top_is k (l ∷ ks) (first_kind (cells_at code c n)) (Plain r.kind) exact.1 r.head in
    popped_goes o (Suits o rs) k (l ∷ ks) f.operands _ h.stands.operands (λ x more suits rest.
    popped_goes o (Suits o rs) l ks more _ rest (λ at left suits_at under.
    within_goes o n at f lower _ (subst (λ k. Suits o rs k at) (sym (offset_on_top l ks h.keeps.ends)) suits_at) (λ i less.
    put_goes o f lower code (StoreAt c n) (k ∷ l ∷ ks) h c n i (c + i) r x left ks refl less (subst (λ k. Suits o rs k x) same suits) (λ cells z.
    goes o f lower code (StoreAt c n) (k ∷ l ∷ ks) h cells left ks refl refl z under))))

-- a reference to a cell of a range is pushed
reference_goes : (o : Object) (f : Frame) (lower : List Frame) (code : Code) (instr : Instr) (s : Shape) (h : Here o f lower code instr s) (c n i m : ℕ) (r : Range code c n)
    (left : List Cell) → m ≡ c + i → i < n →
    ((x : Cell) → Suits o (f.routine ∷ routines_of lower) (RefTo r.kind) x → IsTop o (record { routine = f.routine; place = f.place + 1; cells = f.cells; operands = x ∷ left }) lower) →
    IsSound o (cell_reference m f lower left)
reference_goes o f lower code instr s h c n i m r left e less go =
    let at : slice_get code.cells m ≡ Some (Plain r.kind) = r.each i m e less in
    let got = zip_get (Suits o (routines_of lower)) code.cells f.cells m (Plain r.kind) h.stands.cells at in
    let there : option_and_then value_kind (slice_get f.cells m) ≡ Some r.kind = ap (option_and_then value_kind) got.1 ∙ value_kind_is r.kind got.0 got.2 in
    let plain : plain_at (cell_kinds o f.routine) m ≡ Some r.kind =
    ap (λ ks. plain_at ks m) (kinds_is o f.routine code h.routine) ∙ is_plain_at code.cells m r.kind at in
    let long : length lower ≡ length (routines_of lower) = sym (length-map lower (λ f. f.routine)) in
    let own : (length lower == length (routines_of lower)) ≡ true = eq-eqb (length lower) (length (routines_of lower)) long in
    let named : cell_kind o (f.routine ∷ routines_of lower) (length lower) m ≡ Some r.kind =
    ap (λ b. if b then plain_at (cell_kinds o f.routine) m else cell_kind o (routines_of lower) (length lower) m) own ∙ plain in
    given_goes o r.kind (option_and_then value_kind (slice_get f.cells m)) _ there (go (cell.Ref r.kind (place.Cell (length lower) m)) (refl, named))

pub ref_cell_sound : (o : Object) (f : Frame) (lower : List Frame) (code : Code) (s : Shape) (c : ℕ) → Here o f lower code (RefCell c) s → IsSound o (act o (RefCell c) f lower)
ref_cell_sound o f lower code s c h =
    let exact = and_true (is_uniform (cells_at code c 1)) true h.keeps.exact in
    let r = range_is code c 1 (one_cell code c (ltb-true c (length code.cells) h.keeps.named)) exact.0 (all_front _ (cells_at code c 1) [] h.keeps.plain) in
    reference_goes o f lower code (RefCell c) s h c 1 0 c r f.operands (omega arith) (omega arith) (λ x suits.
    goes o f lower code (RefCell c) s h f.cells (x ∷ f.operands) (RefTo r.kind ∷ s) refl (ap (λ k. option_to_list (option_map reference_to k) ++ s) (sym r.first))
    h.stands.cells (suits, h.stands.operands))

pub ref_cell_at_sound : (o : Object) (f : Frame) (lower : List Frame) (code : Code) (s : Shape) (c n : ℕ) → Here o f lower code (RefCellAt c n) s →
    IsSound o (act o (RefCellAt c n) f lower)
ref_cell_at_sound o f lower code [] c n h = let e = h.keeps.ends in cc
ref_cell_at_sound o f lower code (k ∷ ks) c n h =
    let rs = f.routine ∷ routines_of lower in
    let exact = and_true (is_uniform (cells_at code c n)) true h.keeps.exact in
    let r = range_is code c n h.keeps.named exact.0 (all_front _ (cells_at code c n) [] h.keeps.plain) in
    popped_goes o (Suits o rs) k ks f.operands _ h.stands.operands (λ x left suits rest.
    within_goes o n x f lower _ (subst (λ k. Suits o rs k x) (sym (offset_on_top k ks h.keeps.ends)) suits) (λ i less.
    reference_goes o f lower code (RefCellAt c n) (k ∷ ks) h c n i (c + i) r left refl less (λ y suits_y.
    goes o f lower code (RefCellAt c n) (k ∷ ks) h f.cells (y ∷ left) (RefTo r.kind ∷ ks) refl (ap (λ k. option_to_list (option_map reference_to k) ++ ks) (sym r.first))
    h.stands.cells (suits_y, rest))))
