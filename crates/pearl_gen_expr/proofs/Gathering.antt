-- No rule of the validator fails at Index behind its subscripts, and at Call behind its arguments.
use Rattle.std.proofs.Common.{◌≡◌, ℕ, zero, suc, ◌+◌, ◌*◌, ◌<◌, ◌≤◌, ◌⊎◌, inl, inr, Bool, true, false, T, List, [], ◌∷◌, ◌++◌, Option, Some, slice_get, length, replicate, map, refl, sym, ap, ◌∙◌, subst, arith, le-leb, lt-ltb}
use Rattle.std.specs.Prelude.{◌⊎◌, ◌||◌, int_le, nat_lt, nat_le, option_map, option_and_then, option_to_list, take, drop, reverse}
use Rattle.std.specs.List.{list_all}
use Rattle.std.proofs.lemmas.Option.{slice_get_within}
use Rattle.std.proofs.lemmas.List.{append_assoc, take_at, reverse-reverse, length-reverse, length-drop, length-map, length-replicate, length-take-le}
use Rattle.std.proofs.lemmas.Grind.{reverse_onto}
use Rattle.std.proofs.Math.Seq.{drop-append_seam}
use Rattle.pearl_value.specs.declared.kind.Kind.TheVariants as kind_
use Rattle.pearl_value.specs.declared.kind.CellKind.{CellKind}
use Rattle.pearl_value.specs.declared.kind.CellKind.TheVariants.{Plain}
use Rattle.pearl_program.specs.declared.expression.Bound.{Bound}
use Rattle.pearl_program.specs.Typing as typing
use Rattle.pearl_program.specs.Typing.{IsBound}
use Rattle.pearl_instructions.specs.declared.instr.Bounds.{Bounds}
use Rattle.pearl_instructions.specs.declared.instr.Instr.TheVariants as instr
use Rattle.pearl_instructions.specs.declared.object.Code.{Code}
use Rattle.pearl_instructions.specs.declared.object.Procedure.{Procedure}
use Rattle.pearl_instructions.specs.declared.object.Parts.{Parts as Object}
use Rattle.pearl_instructions.specs.Objects.{is_task}
use Rattle.pearl_instructions.specs.Opcodes.{Anything, SomeFixed}
use Rattle.pearl_instructions.specs.Operands.{Shape, v2, arguments_asked, same_shape}
use Rattle.pearl_instructions.specs.Kinds.{suits_parameters}
use Rattle.pearl_instructions.specs.Valid.{extent, elements, is_array, call_fits, result_shape}
use Rattle.pearl_gen_expr.specs.ExprCode.{bounds_of}
use Rattle.pearl_gen_expr.specs.Shapes.{IsQuiet, IsOpen, Keeps, handed}
use Rattle.pearl_gen_expr.proofs.Fitting.{told}
use Rattle.pearl_gen_expr.proofs.Shapes.{and_is, same_shape_self, one_keeps, open_keeps}

-- SUBSCRIPTS

-- so many FIXED lie on a shape
abbrev pub FixedOn : ℕ → Shape → Shape → Type 0
FixedOn zero shape s = shape ≡ s
FixedOn (suc n) (Plain (kind_.Fixed len) ∷ shape) s = FixedOn n shape s
FixedOn (suc n) shape s = ⊥

-- and one more where one lies below them
pub fixed_more : (n : ℕ) (shape s : Shape) (len : ℕ) → FixedOn n shape (Plain (kind_.Fixed len) ∷ s) → FixedOn (suc n) shape s
fixed_more zero shape s len on = subst (λ shape. FixedOn 1 shape s) (sym on) refl
fixed_more (suc n) (Plain (kind_.Fixed other) ∷ shape) s len on = fixed_more n shape s len on
fixed_more (suc n) shape s len on = absurd on

fixed_asked : (n : ℕ) (shape s : Shape) → FixedOn n shape s → v2 (replicate n SomeFixed) shape ≡ true
fixed_asked zero shape s on = refl
fixed_asked (suc n) (Plain (kind_.Fixed len) ∷ shape) s on = fixed_asked n shape s on
fixed_asked (suc n) shape s on = absurd on

fixed_below : (n : ℕ) (shape s : Shape) → FixedOn n shape s → drop (length (replicate n SomeFixed)) shape ≡ s
fixed_below zero shape s on = on
fixed_below (suc n) (Plain (kind_.Fixed len) ∷ shape) s on = fixed_below n shape s on
fixed_below (suc n) shape s on = absurd on

pub fixed_length : (n : ℕ) (shape s : Shape) → FixedOn n shape s → length shape ≡ n + length s
fixed_length zero shape s on = let same = ap length on in omega (arith, same)
fixed_length (suc n) (Plain (kind_.Fixed len) ∷ shape) s on = let less = fixed_length n shape s on in omega (arith, less)
fixed_length (suc n) shape s on = absurd on

-- BOUNDS

is_true : (b : Bool) → T b → b ≡ true
is_true true t = refl
is_true false t = absurd t

-- each dimension has an element
abbrev pub AreBounds : List Bound → Type 0
AreBounds [] = Unit {0}
AreBounds (bound ∷ bounds) = IsBound bound × AreBounds bounds

are_rising : (bounds : List Bound) → AreBounds bounds → list_all (λ (b : Bounds). int_le b.low b.high) (map bounds_of bounds) ≡ true
are_rising [] are = refl
are_rising (bound ∷ bounds) are = and_is (int_le bound.lower bound.upper) _ (is_true (int_le bound.lower bound.upper) are.0.rising.le) (are_rising bounds are.1)

elements_are : (bounds : List Bound) → elements (map bounds_of bounds) ≡ typing.elements bounds
elements_are [] = refl
elements_are (bound ∷ bounds) = ap (λ n. extent (bounds_of bound) * n) (elements_are bounds)

three : (bounds : List Bound) → drop 3 bounds ≡ [] → length bounds ≤ 3
three bounds none = let dropped = length-drop 3 bounds in let empty : length (drop 3 bounds) ≡ 0 = ap length none in omega (arith, dropped, empty)

-- at most three dimensions of at most 65,536 elements, none empty, are what Index needs
array : (bound : Bound) (bounds : List Bound) → AreBounds (bound ∷ bounds) → drop 3 (bound ∷ bounds) ≡ [] → typing.elements (bound ∷ bounds) ≤ 65536 →
    is_array (map bounds_of (bound ∷ bounds)) ≡ true
array bound bounds are few small =
    let all = bound ∷ bounds in
    let long : length (map bounds_of all) ≡ length all = length-map all bounds_of in
    let some : 1 ≤ length (map bounds_of all) = omega arith in
    let less : length (map bounds_of all) ≤ 3 = subst (λ n. n ≤ 3) (sym long) (three all few) in
    let fits : elements (map bounds_of all) ≤ 65536 = subst (λ n. n ≤ 65536) (sym (elements_are all)) small in
    and_is _ (nat_le (elements (map bounds_of all)) 65536)
    (and_is _ (list_all (λ (b : Bounds). int_le b.low b.high) (map bounds_of all))
    (and_is (nat_le 1 (length (map bounds_of all))) (nat_le (length (map bounds_of all)) 3) (le-leb 1 (length (map bounds_of all)) some)
    (le-leb (length (map bounds_of all)) 3 less)) (are_rising all are)) (le-leb (elements (map bounds_of all)) 65536 fits)

pub index_keeps : (o : Object) (r : ℕ) (code : Code) (place : ℕ) → IsQuiet code (place + 1) → (bound : Bound) (bounds : List Bound) (shape s : Shape) →
    slice_get code.instructions place ≡ Some (instr.Index (map bounds_of (bound ∷ bounds))) → AreBounds (bound ∷ bounds) → drop 3 (bound ∷ bounds) ≡ [] →
    typing.elements (bound ∷ bounds) ≤ 65536 → FixedOn (length (bound ∷ bounds)) shape s → length code.cells + length shape ≤ code.depth →
    Keeps o r code place (place + 1) shape (Plain (kind_.Fixed 31) ∷ s)
index_keeps o r code place quiet bound bounds shape s is are few small on room =
    let list = map bounds_of (bound ∷ bounds) in
    let many : length list ≡ length (bound ∷ bounds) = length-map (bound ∷ bounds) bounds_of in
    let on : FixedOn (length list) shape s = subst (λ n. FixedOn n shape s) (sym many) on in
    told o r code place quiet (instr.Index list) shape (Plain (kind_.Fixed 31) ∷ s) (ap (λ left. Plain (kind_.Fixed 31) ∷ left) (fixed_below (length list) shape s on))
    (one_keeps o r code place (instr.Index list) shape is quiet refl refl
    (record {
      one = refl;
      two = fixed_asked (length list) shape s on;
      three = refl;
      four = refl;
      five = refl;
      eight = refl;
      ten = refl;
      eleven = le-leb (length code.cells + length shape) code.depth room;
      twelve = array bound bounds are few small;
    }))

-- ARGUMENTS

pub handed_is : (kinds s : List CellKind) → handed kinds s ≡ reverse kinds ++ s
handed_is [] s = refl
handed_is (k ∷ kinds) s = handed_is kinds (k ∷ s) ∙ (sym (append_assoc (reverse kinds) (k ∷ []) s) ∙ ap (λ all. all ++ s) (sym (reverse_onto kinds k [])))

pub handed_back : (kinds s : List CellKind) (n : ℕ) → length kinds ≡ n → reverse (take n (handed kinds s)) ≡ kinds
handed_back kinds s n long =
    ap (λ all. reverse (take n all)) (handed_is kinds s) ∙ (ap reverse (take_at (reverse kinds) s n (length-reverse kinds ∙ long)) ∙ reverse-reverse kinds)

pub handed_below : (kinds s : List CellKind) (n : ℕ) → length kinds ≡ n → drop n (handed kinds s) ≡ s
handed_below kinds s n long =
    ap (drop n) (handed_is kinds s) ∙ (ap (λ n. drop n (reverse kinds ++ s)) (sym (length-reverse kinds ∙ long)) ∙ drop-append_seam (reverse kinds) s)

pub handed_length : (kinds s : List CellKind) → length (handed kinds s) ≡ length kinds + length s
handed_length [] s = omega arith
handed_length (k ∷ kinds) s = let more = handed_length kinds (k ∷ s) in omega (arith, more)

pub anything_asked : (n : ℕ) (shape : Shape) → n ≤ length shape → v2 (replicate n Anything) shape ≡ true
anything_asked zero shape less = refl
anything_asked (suc n) [] less = absurd (omega (arith, less))
anything_asked (suc n) (k ∷ shape) less = anything_asked n shape (omega (arith, less))

smaller : (test : Bool) (p r : ℕ) → (test ≡ true) ⊎ (p < r) → test || nat_lt p r ≡ true
smaller true p r is = refl
smaller false p r (inl task) = cc
smaller false p r (inr less) = lt-ltb p r less

module _ (o : Object) (r : ℕ) (code : Code) (place : ℕ) (number : ℕ) (callee : Procedure)
    (there : slice_get o.procedures number ≡ Some callee) (few : callee.params ≤ length callee.code.cells) (s : Shape) where
  abbrev params : List CellKind
  params = take callee.params callee.code.cells

  abbrev shape : Shape
  shape = handed params s

  long : length params ≡ callee.params
  long = length-take-le callee.params callee.code.cells few

  same_params : suits_parameters (slice_get o.procedures number) shape ≡ true
  same_params =
      ap (λ found. suits_parameters found shape) there
      ∙ (ap (λ kinds. same_shape kinds params) (handed_back params s callee.params long) ∙ same_shape_self params)

  enough : v2 (arguments_asked (slice_get o.procedures number)) shape ≡ true
  enough =
      ap (λ found. v2 (arguments_asked found) shape) there
      ∙ anything_asked callee.params shape (let total = handed_length params s in omega (arith, total, long))

  room_for_callee : length code.cells + length s + callee.code.depth ≤ code.depth → call_fits code (slice_get o.procedures number) shape ≡ true
  room_for_callee room =
      ap (λ found. call_fits code found shape) there
      ∙ le-leb (length code.cells + length (drop callee.params shape) + callee.code.depth) code.depth
      (subst (λ left. length code.cells + length left + callee.code.depth ≤ code.depth) (sym (handed_below params s callee.params long)) room)

  after : option_to_list (option_map Plain (option_and_then (λ (callee : Procedure). callee.result) (slice_get o.procedures number)))
      ++ drop (length (arguments_asked (slice_get o.procedures number))) shape ≡ result_shape callee.result ++ s
  after =
      ap (λ (found : Option Procedure). option_to_list (option_map Plain (option_and_then (λ (callee : Procedure). callee.result) found)) ++ drop (length (arguments_asked found)) shape) there
      ∙ (ap (λ n. result_shape callee.result ++ drop n shape) (length-replicate callee.params Anything)
      ∙ ap (λ left. result_shape callee.result ++ left) (handed_below params s callee.params long))

  pub call_keeps : IsOpen code (place + 1) (result_shape callee.result ++ s) → slice_get code.instructions place ≡ Some (instr.Call number) → (is_task o r ≡ true) ⊎ (number < r) →
      length code.cells + length (handed (take callee.params callee.code.cells) s) ≤ code.depth → length code.cells + length s + callee.code.depth ≤ code.depth →
      Keeps o r code place (place + 1) (handed (take callee.params callee.code.cells) s) (result_shape callee.result ++ s)
  call_keeps clear is below room more =
      open_keeps o r code place (instr.Call number) shape (result_shape callee.result ++ s) is clear refl refl
      (record {
        one = lt-ltb number (length o.procedures) (slice_get_within o.procedures number callee there);
        two = enough;
        three = refl;
        four = same_params;
        five = refl;
        eight = smaller (is_task o r) number r below;
        ten = refl;
        eleven = and_is (nat_le (length code.cells + length shape) code.depth) _ (le-leb (length code.cells + length shape) code.depth room) (room_for_callee more);
        twelve = refl;
      }) after
