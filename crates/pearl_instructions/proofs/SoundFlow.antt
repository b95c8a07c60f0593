-- The rows on jumps, loops and calls lead from a stack of a valid object to such stacks only.
use Rattle.std.proofs.Common.{◌≡◌, ℕ, zero, suc, ◌+◌, ◌<◌, ◌≤◌, ℤ, pos, negsuc, ◌+ℤ◌, List, [], ◌∷◌, ◌++◌, Option, Some, None, length, map, reverse, take, drop, replicate, slice_get, slice_set, refl, sym, ap, ◌∙◌, subst, arith, Bool, true, false, ltb-true, leb-false, le-leb, eq-eqb, take-append-drop}
use Rattle.std.specs.Prelude.{◌==◌, not, nat_lt, nat_le, if◌then◌else◌, option_to_list, option_map, option_and_then}
use Rattle.std.specs.List.{AllZip, AllByRecursion, list_all}
use Rattle.std.proofs.lemmas.Int.{ints}
use Rattle.std.proofs.lemmas.List.{length-replicate}
use Rattle.std.proofs.lemmas.Option.{same_Some}
use Rattle.pearl_value.specs.declared.kind.Kind.{Kind}
use Rattle.pearl_value.specs.declared.kind.Kind.TheVariants as kind
use Rattle.pearl_value.specs.declared.kind.CellKind.{CellKind}
use Rattle.pearl_value.specs.declared.kind.CellKind.TheVariants.{Plain, RefTo}
use Rattle.pearl_value.specs.declared.cell.Cell.{Cell}
use Rattle.pearl_value.specs.declared.cell.Cell.TheVariants as cell
use Rattle.pearl_value.specs.Kinds.{IsKind}
use Rattle.pearl_value.specs.WellFormed.{IsValueOf}
use Rattle.pearl_value.specs.Conversions.{fits_fixed}
use Rattle.pearl_value.proofs.Offered.{blank_gives}
use Rattle.pearl_stack.specs.Frames.{Frame}
use Rattle.pearl_instructions.specs.declared.instr.Instr.TheVariants.{Jump, JumpZero, Case, Turn, Call, Return, Within, Advance}
use Rattle.pearl_instructions.specs.declared.object.Code.{Code}
use Rattle.pearl_instructions.specs.declared.object.Procedure.{Procedure}
use Rattle.pearl_instructions.specs.declared.object.Parts.{Parts as Object}
use Rattle.pearl_instructions.specs.Objects.{routine_at, is_task, result_of}
use Rattle.pearl_instructions.specs.Lawful.{IsCellKind, IsPlain, IsProcedure, IsObject}
use Rattle.pearl_instructions.specs.Steps.{Step, at, next}
use Rattle.pearl_instructions.specs.Flow as flow
use Rattle.pearl_instructions.specs.Rows.{act}
use Rattle.pearl_instructions.specs.Opcodes.{Anything, Exactly}
use Rattle.pearl_instructions.specs.Operands.{Shape, is_fixed, meets, same_shape, arguments_asked, v2}
use Rattle.pearl_instructions.specs.Named.{cells_at}
use Rattle.pearl_instructions.specs.Kinds.{is_uniform, are_fixed, suits_parameters, shape_after}
use Rattle.pearl_instructions.specs.Valid.{shape_before, result_shape, IsValid}
use Rattle.pearl_instructions.specs.Stacks.{routines_of, Suits, IsCalling, Below, IsTop}
use Rattle.pearl_instructions.proofs.Tests.{and_true, not_true, same_cell_true, same_shape_true, all_at, closed_some}
use Rattle.pearl_instructions.proofs.Zips.{some_at, zip_get, zip_set, zip_length, zip_take, zip_drop, zip_reverse, zip_append}
use Rattle.pearl_instructions.proofs.Ranges.{all_front, Range, range_is}
use Rattle.pearl_instructions.proofs.Kept.{keeps_at, whole_at, onward, jumped, IsSound, Here, lands, goes, given_goes, needed_goes, popped_goes}
use Rattle.pearl_instructions.proofs.SoundCells.{if_goes}
use Rattle.pearl_instructions.proofs.SoundOperators.{fixed_is, fixed_kind}
use Rattle.pearl_instructions.proofs.SoundVariables.{all_of}

pub jump_sound : (o : Object) (f : Frame) (lower : List Frame) (code : Code) (s : Shape) (i : ℕ) → Here o f lower code (Jump i) s → IsSound o (act o (Jump i) f lower)
jump_sound o f lower code s i h =
    lands o f lower code (Jump i) s h i f.cells f.operands (ltb-true i (length code.instructions) h.keeps.named)
    (jumped o f.routine code f.place (Jump i) (shape_after o f.routine code (Jump i) s) 0 i h.keeps.flows refl) h.stands.cells h.stands.operands

same_bits : (a b : ℕ) → kind.Bits a ≡ kind.Bits b → a ≡ b
same_bits a b e = cc

jump_zero_goes : (o : Object) (f : Frame) (lower : List Frame) (left : List Cell) (i : ℕ) (x : Cell) → IsValueOf (kind.Bits 1) x →
    IsTop o (at i f left) lower → IsTop o (next f left) lower → IsSound o (flow.jump_zero i f lower left x)
jump_zero_goes o f lower left i (cell.Bits len value) w t n =
    needed_goes o (len == 1) _ (eq-eqb len 1 (same_bits len 1 w.same_kind)) (by_bit (value == 0))
  where
    by_bit : (b : Bool) → IsTop o (at (if b then i else f.place + 1) f left) lower
    by_bit true = t
    by_bit false = n
jump_zero_goes o f lower left i (cell.Fixed len value) w t n = let e = w.same_kind in cc
jump_zero_goes o f lower left i (cell.Chars text) w t n = let e = w.same_kind in cc
jump_zero_goes o f lower left i (cell.Clock time) w t n = let e = w.same_kind in cc
jump_zero_goes o f lower left i (cell.Span time) w t n = let e = w.same_kind in cc
jump_zero_goes o f lower left i (cell.Ref of place) w t n = absurd w.is_value

pub jump_zero_sound : (o : Object) (f : Frame) (lower : List Frame) (code : Code) (s : Shape) (i : ℕ) → Here o f lower code (JumpZero i) s → IsSound o (act o (JumpZero i) f lower)
jump_zero_sound o f lower code [] i h = let e = h.keeps.ends in cc
jump_zero_sound o f lower code (k ∷ ks) i h =
    let rs = f.routine ∷ routines_of lower in
    let bit : Plain (kind.Bits 1) ≡ k = same_cell_true (Plain (kind.Bits 1)) k (and_true (meets (Exactly (kind.Bits 1)) k) (v2 [] ks) h.keeps.ends).0 in
    popped_goes o (Suits o rs) k ks f.operands _ h.stands.operands (λ x left suits rest.
    jump_zero_goes o f lower left i x (subst (λ k. Suits o rs k x) (sym bit) suits)
    (lands o f lower code (JumpZero i) (k ∷ ks) h i f.cells left (ltb-true i (length code.instructions) h.keeps.named)
    (jumped o f.routine code f.place (JumpZero i) (shape_after o f.routine code (JumpZero i) (k ∷ ks)) 0 i h.keeps.flows refl) h.stands.cells rest)
    (goes o f lower code (JumpZero i) (k ∷ ks) h f.cells left ks refl refl h.stands.cells rest))

pub target_is : (targets : List ℕ) (x : ℤ) (t : ℕ) → flow.target_of targets x ≡ Some t → (n : ℕ) × (slice_get targets n ≡ Some t)
target_is targets (pos zero) t e = cc
target_is targets (pos (suc n)) t e = (n, e)
target_is targets (negsuc n) t e = cc

pub case_sound : (o : Object) (f : Frame) (lower : List Frame) (code : Code) (s : Shape) (targets : List ℕ) → Here o f lower code (Case targets) s →
    IsSound o (act o (Case targets) f lower)
case_sound o f lower code [] targets h = let e = h.keeps.ends in cc
case_sound o f lower code (k ∷ ks) targets h =
    let rs = f.routine ∷ routines_of lower in
    let fixed = fixed_kind k (and_true (is_fixed k) (v2 [] ks) h.keeps.ends).0 in
    popped_goes o (Suits o rs) k ks f.operands _ h.stands.operands (λ x left suits rest.
    let number = fixed_is fixed.0 x (subst (λ k. Suits o rs k x) fixed.1 suits) in
    subst (λ x. IsSound o (flow.branch targets f lower left x)) (sym number.1)
    (by_target left rest (flow.target_of targets number.0) (λ t e. target_is targets number.0 t e)))
  where
    by_target : (left : List Cell) → AllZip (Suits o (f.routine ∷ routines_of lower)) ks left → (target : Option ℕ) →
        ((t : ℕ) → target ≡ Some t → (n : ℕ) × (slice_get targets n ≡ Some t)) → IsSound o (flow.goes_or_on target f lower left)
    by_target left rest None is = goes o f lower code (Case targets) (k ∷ ks) h f.cells left ks refl refl h.stands.cells rest
    by_target left rest (Some t) is =
        let there = is t refl in
        lands o f lower code (Case targets) (k ∷ ks) h t f.cells left
        (ltb-true t (length code.instructions) (all_at (λ i. nat_lt i (length code.instructions)) targets there.0 t h.keeps.named there.1))
        (jumped o f.routine code f.place (Case targets) (shape_after o f.routine code (Case targets) (k ∷ ks)) there.0 t h.keeps.flows there.1) h.stands.cells rest

pub turn_sound : (o : Object) (f : Frame) (lower : List Frame) (code : Code) (s : Shape) → Here o f lower code Turn s → IsSound o (act o Turn f lower)
turn_sound o f lower code s h = (tt, λ answer own e. goes o f lower code Turn s h f.cells f.operands s refl refl h.stands.cells h.stands.operands)

pub fits_is : (len : ℕ) (value : ℤ) → IsKind (kind.Fixed len) → fits_fixed len value ≡ true → IsValueOf (kind.Fixed len) (cell.Fixed len value)
fits_is len value is e = record { is_value = (is, record { low = grind (arith, ints, e); high = grind (arith, ints, e) }); same_kind = refl }

pub bit_is : (b : Bool) → IsValueOf (kind.Bits 1) (cell.Bits 1 (if b then 0 else 1))
bit_is true = record { is_value = ((omega arith, omega arith), omega arith); same_kind = refl }
bit_is false = record { is_value = ((omega arith, omega arith), omega arith); same_kind = refl }

-- the three cells of a loop are FIXED of one length
pub record Loop (o : Object) (f : Frame) (code : Code) (c : ℕ) (rs : List ℕ) : Type 0 where
  pub len : ℕ
  pub control : ℤ
  pub step : ℤ
  pub limit : ℤ
  pub held : slice_get code.cells c ≡ Some (Plain (kind.Fixed len))
  pub first : slice_get f.cells c ≡ Some (cell.Fixed len control)
  pub second : slice_get f.cells (c + 1) ≡ Some (cell.Fixed len step)
  pub third : slice_get f.cells (c + 2) ≡ Some (cell.Fixed len limit)
  pub value : IsValueOf (kind.Fixed len) (cell.Fixed len control)

loop_is : (o : Object) (f : Frame) (code : Code) (c : ℕ) (rs : List ℕ) → Range code c 3 → list_all is_fixed (cells_at code c 3) ≡ true →
    AllZip (Suits o rs) code.cells f.cells → Loop o f code c rs
loop_is o f code c rs r fixed z =
    let of = fixed_kind (Plain r.kind) (all_at is_fixed (cells_at code c 3) 0 (Plain r.kind) fixed r.head) in
    let at : (i m : ℕ) → m ≡ c + i → i < 3 → (value : ℤ) × (slice_get f.cells m ≡ Some (cell.Fixed of.0 value)) × IsValueOf (kind.Fixed of.0) (cell.Fixed of.0 value) =
    λ i m e less.
    let got = zip_get (Suits o rs) code.cells f.cells m (Plain r.kind) z (r.each i m e less) in
    let fits : IsValueOf (kind.Fixed of.0) got.0 = subst (λ k. Suits o rs k got.0) of.1 got.2 in
    let number = fixed_is of.0 got.0 fits in
    (number.0, got.1 ∙ ap Some number.1, subst (IsValueOf (kind.Fixed of.0)) number.1 fits) in
    let a = at 0 c (omega arith) (omega arith) in
    let b = at 1 (c + 1) refl (omega arith) in
    let d = at 2 (c + 2) refl (omega arith) in
    record { len = of.0; control = a.0; step = b.0; limit = d.0; held = r.first ∙ ap Some of.1; first = a.1; second = b.1; third = d.1; value = a.2 }

loop_goes : (o : Object) (f : Frame) (code : Code) (c : ℕ) (rs : List ℕ) (l : Loop o f code c rs) (go : ℕ → ℤ → ℤ → ℤ → Step) →
    IsSound o (go l.len l.control l.step l.limit) → IsSound o (flow.loop_cells f c go)
loop_goes o f code c rs l go h =
    given_goes o (cell.Fixed l.len l.control) (slice_get f.cells c) _ l.first
    (given_goes o (cell.Fixed l.len l.step) (slice_get f.cells (c + 1)) _ l.second
    (given_goes o (cell.Fixed l.len l.limit) (slice_get f.cells (c + 2)) _ l.third h))

-- the loop of a Within, and of an Advance
pub loop_within : (o : Object) (f : Frame) (lower : List Frame) (code : Code) (s : Shape) (c : ℕ) → Here o f lower code (Within c) s → Loop o f code c (routines_of lower)
loop_within o f lower code s c h =
    let exact = and_true (is_uniform (cells_at code c 3)) (are_fixed (cells_at code c 3)) h.keeps.exact in
    let r = range_is code c 3 h.keeps.named exact.0 (all_front _ (cells_at code c 3) [] h.keeps.plain) in
    loop_is o f code c (routines_of lower) r exact.1 h.stands.cells

pub loop_past : (o : Object) (f : Frame) (lower : List Frame) (code : Code) (s : Shape) (c i : ℕ) → Here o f lower code (Advance c i) s → Loop o f code c (routines_of lower)
loop_past o f lower code s c i h =
    let named = and_true _ (nat_lt i (length code.instructions)) h.keeps.named in
    let exact = and_true (is_uniform (cells_at code c 3)) (are_fixed (cells_at code c 3)) h.keeps.exact in
    let r = range_is code c 3 named.0 exact.0 (all_front _ (cells_at code c 3) [] h.keeps.plain) in
    loop_is o f code c (routines_of lower) r exact.1 h.stands.cells

pub within_sound : (o : Object) (f : Frame) (lower : List Frame) (code : Code) (s : Shape) (c : ℕ) → Here o f lower code (Within c) s → IsSound o (act o (Within c) f lower)
within_sound o f lower code s c h =
    let l = loop_within o f lower code s c h in
    loop_goes o f code c (routines_of lower) l _
    (goes o f lower code (Within c) s h f.cells (cell.Bits 1 (if flow.is_past l.control l.step l.limit then 0 else 1) ∷ f.operands) (Plain (kind.Bits 1) ∷ s) refl refl
    h.stands.cells (bit_is (flow.is_past l.control l.step l.limit), h.stands.operands))

pub advance_sound : (o : Object) (f : Frame) (lower : List Frame) (code : Code) (s : Shape) (c i : ℕ) → Here o f lower code (Advance c i) s →
    IsSound o (act o (Advance c i) f lower)
advance_sound o f lower code s c i h =
    let rs = routines_of lower in
    let named = and_true _ (nat_lt i (length code.instructions)) h.keeps.named in
    let l = loop_past o f lower code s c i h in
    let sum = cell.Fixed l.len (l.control +ℤ l.step) in
    loop_goes o f code c rs l _
    (if_goes o (fits_fixed l.len (l.control +ℤ l.step)) _ _
    (λ e. goes o f lower code (Advance c i) s h (slice_set f.cells c sum) f.operands s refl refl
    (zip_set (Suits o rs) code.cells f.cells c (Plain (kind.Fixed l.len)) sum h.stands.cells l.held (fits_is l.len (l.control +ℤ l.step) l.value.is_value.0 e))
    h.stands.operands)
    (λ e. lands o f lower code (Advance c i) s h i f.cells f.operands (ltb-true i (length code.instructions) named.1)
    (jumped o f.routine code f.place (Advance c i) (shape_after o f.routine code (Advance c i) s) 0 i h.keeps.flows refl) h.stands.cells h.stands.operands))

pub any_ends : (n : ℕ) (s : Shape) → v2 (replicate n Anything) s ≡ true → n ≤ length s
any_ends zero s e = omega arith
any_ends (suc n) [] e = cc
any_ends (suc n) (k ∷ ks) e = let more = any_ends n ks e in omega (arith, more)

front_at : {A B : Type 0} (f : A → B) (xs : List A) (ys : List B) (n : ℕ) (x : A) → slice_get xs n ≡ Some x → slice_get (map f xs ++ ys) n ≡ Some (f x)
front_at f [] ys n x e = cc
front_at f (a ∷ xs) ys zero x e = ap (λ a. Some (f a)) (same_Some a x e)
front_at f (a ∷ xs) ys (suc n) x e = front_at f xs ys n x e

pub procedure_code : (o : Object) (p : ℕ) (callee : Procedure) → slice_get o.procedures p ≡ Some callee → routine_at o p ≡ Some callee.code
procedure_code o p callee e = front_at (λ p. p.code) o.procedures (map (λ t. t.code) o.tasks) p callee e

pub all_drop : {A : Type 0} (P : A → Type 0) (n : ℕ) (xs : List A) → AllByRecursion P xs → AllByRecursion P (drop n xs)
all_drop P zero xs all = all
all_drop P (suc n) [] all = tt
all_drop P (suc n) (x ∷ xs) all = all_drop P n xs all.1

pub all_take : {A : Type 0} (P : A → Type 0) (n : ℕ) (xs : List A) → AllByRecursion P xs → AllByRecursion P (take n xs)
all_take P zero xs all = tt
all_take P (suc n) [] all = tt
all_take P (suc n) (x ∷ xs) all = (all.0, all_take P n xs all.1)

pub fresh_suits : (o : Object) (rs : List ℕ) (ks : List CellKind) → AllByRecursion IsPlain ks → AllByRecursion IsCellKind ks → AllZip (Suits o rs) ks (map flow.fresh ks)
fresh_suits o rs [] p k = tt
fresh_suits o rs (Plain of ∷ ks) p k = (blank_gives of k.0, fresh_suits o rs ks p.1 k.1)
fresh_suits o rs (RefTo of ∷ ks) p k = absurd p.0

pub call_sound : (o : Object) (v : IsValid o) (w : IsObject o) (f : Frame) (lower : List Frame) (code : Code) (s : Shape) (p : ℕ) → Here o f lower code (Call p) s →
    IsSound o (act o (Call p) f lower)
call_sound o v w f lower code s p h =
    let rs = f.routine ∷ routines_of lower in
    let callee = some_at o.procedures p (ltb-true p (length o.procedures) h.keeps.named) in
    let d : Procedure = callee.0 in
    let is = (all_of IsProcedure o.procedures p d w.procedures callee.1).code in
    let few : d.params ≤ length s = any_ends d.params s (ap (λ c. v2 (arguments_asked c) s) (sym callee.1) ∙ h.keeps.ends) in
    let exact : same_shape (reverse (take d.params s)) (take d.params d.code.cells) ≡ true =
    ap (λ c. suits_parameters c s) (sym callee.1) ∙ h.keeps.exact in
    let params : reverse (take d.params s) ≡ take d.params d.code.cells = same_shape_true _ _ exact in
    let operands : AllZip (Suits o rs) s f.operands = h.stands.operands in
    let long = zip_length (Suits o rs) s f.operands operands in
    let args : AllZip (Suits o rs) (take d.params d.code.cells) (reverse (take d.params f.operands)) =
    subst (λ ks. AllZip (Suits o rs) ks (reverse (take d.params f.operands))) params
    (zip_reverse (Suits o rs) (take d.params s) (take d.params f.operands) (zip_take (Suits o rs) d.params s f.operands operands)) in
    let fresh = map flow.fresh (drop d.params d.code.cells) in
    let cells : AllZip (Suits o rs) d.code.cells (reverse (take d.params f.operands) ++ fresh) =
    subst (λ ks. AllZip (Suits o rs) ks (reverse (take d.params f.operands) ++ fresh)) (take-append-drop d.params d.code.cells)
    (zip_append (Suits o rs) (take d.params d.code.cells) (drop d.params d.code.cells) (reverse (take d.params f.operands)) fresh
    args (fresh_suits o rs (drop d.params d.code.cells) is.plain (all_drop IsCellKind d.params d.code.cells is.kinds))) in
    let kinds : drop d.params s ≡ drop d.params (shape_before o f.routine code f.place) = ap (drop d.params) h.is in
    given_goes o d (slice_get o.procedures p) _ callee.1
    (needed_goes o (nat_le d.params (length f.operands)) _ (le-leb d.params (length f.operands) (omega (arith, few, long))) (
      tt,
      λ answer own suits. record {
        code = d.code;
        routine = procedure_code o p d callee.1;
        place = closed_some d.code.instructions (whole_at o p d.code v (procedure_code o p d callee.1)).closed;
        stands = record { cells = cells; operands = tt };
        below = (
          record {
            callee = d;
            called = callee.1;
            code = code;
            routine = h.routine;
            place = h.at;
            stands = record {
              cells = h.stands.cells;
              operands = subst (λ ks. AllZip (Suits o rs) ks (drop d.params f.operands)) kinds
                  (zip_drop (Suits o rs) d.params s f.operands operands);
            };
          },
          h.below,
        );
      },
    ))

-- the caller goes on with the results
back_sound : (o : Object) (v : IsValid o) (g : Frame) (lower : List Frame) (p : ℕ) (results : List Cell) (call : IsCalling o p g (routines_of lower)) →
    Below o g.routine lower → AllZip (Suits o (g.routine ∷ routines_of lower)) (result_shape call.callee.result) results →
    IsTop o (next g (results ++ g.operands)) lower
back_sound o v g lower p results call below fits =
    let code : Code = call.code in
    let d : Procedure = call.callee in
    let rs = g.routine ∷ routines_of lower in
    let s : Shape = shape_before o g.routine code g.place in
    let keeps = keeps_at o g.routine code g.place (Call p) v call.routine call.place in
    let after : shape_after o g.routine code (Call p) s ≡ result_shape d.result ++ drop d.params s =
    ap (λ c. option_to_list (option_map Plain (option_and_then (λ c. c.result) c)) ++ drop (length (arguments_asked c)) s) call.called
    ∙ ap (λ n. result_shape d.result ++ drop n s) (length-replicate d.params Anything) in
    let on = onward o g.routine code g.place (Call p) (shape_after o g.routine code (Call p) s) (whole_at o g.routine code v call.routine) call.place keeps.flows refl in
    record {
      code = code;
      routine = call.routine;
      place = on.0;
      below = below;
      stands = record {
        cells = call.stands.cells;
        operands = subst (λ ks. AllZip (Suits o rs) ks (results ++ g.operands)) (sym after ∙ sym on.1)
            (zip_append (Suits o rs) (result_shape d.result) (drop d.params s) results g.operands fits call.stands.operands);
      };
    }

returned_goes : (o : Object) (v : IsValid o) (r : ℕ) (lower : List Frame) (results : List Cell) → r < length o.procedures → Below o r lower →
    ((rs : List ℕ) → AllZip (Suits o rs) (result_shape (result_of o r)) results) → IsSound o (flow.returned lower results)
returned_goes o v r [] results less b fits = absurd (omega (arith, less, b))
returned_goes o v r (g ∷ lower) results less b fits =
    let same : result_of o r ≡ b.0.callee.result = ap (option_and_then (λ p. p.result)) b.0.called in
    back_sound o v g lower r results b.0 b.1 (subst (λ k. AllZip (Suits o (g.routine ∷ routines_of lower)) (result_shape k) results) same (fits (g.routine ∷ routines_of lower)))

returns_goes : (o : Object) (v : IsValid o) (f : Frame) (lower : List Frame) (result : Option Kind) → f.routine < length o.procedures → Below o f.routine lower →
    result ≡ result_of o f.routine → AllZip (Suits o (f.routine ∷ routines_of lower)) (result_shape result) f.operands → IsSound o (flow.returns result f lower)
returns_goes o v f lower None less b same z =
    returned_goes o v f.routine lower [] less b (λ rs. subst (λ k. AllZip (Suits o rs) (result_shape k) []) same tt)
returns_goes o v f lower (Some k) less b same z =
    popped_goes o (Suits o (f.routine ∷ routines_of lower)) (Plain k) [] f.operands _ z (λ x left suits rest.
    returned_goes o v f.routine lower (x ∷ []) less b (λ rs. subst (λ k. AllZip (Suits o rs) (result_shape k) (x ∷ [])) same (suits, tt)))

pub return_sound : (o : Object) (v : IsValid o) (f : Frame) (lower : List Frame) (code : Code) (s : Shape) → Here o f lower code Return s → IsSound o (act o Return f lower)
return_sound o v f lower code s h =
    let closes = and_true (not (is_task o f.routine)) (same_shape s (result_shape (result_of o f.routine))) h.keeps.closes in
    let less : f.routine < length o.procedures = leb-false (length o.procedures) f.routine (not_true (is_task o f.routine) closes.0) in
    let shape = same_shape_true s (result_shape (result_of o f.routine)) closes.1 in
    returns_goes o v f lower (result_of o f.routine) less h.below refl (subst (λ s. AllZip (Suits o (f.routine ∷ routines_of lower)) s f.operands) shape h.stands.operands)
