-- What holds at an instruction of a valid object, and where a row that goes on or jumps leads.
use Rattle.std.proofs.Common.{◌≡◌, ℕ, ◌+◌, ◌<◌, ◌≤◌, List, [], ◌∷◌, Option, Some, None, length, reverse, take, drop, slice_get, refl, sym, ap, ◌∙◌, subst, arith, Bool, true, false, eq-eqb, leb-true, lt-ltb, le-leb}
use Rattle.std.specs.Prelude.{◌&&◌, ◌||◌, ◌==◌, not, nat_lt, nat_le, if◌then◌else◌, option_and_then}
use Rattle.std.specs.List.{AllZip, list_all}
use Rattle.std.proofs.lemmas.Option.{same_Some}
use Rattle.pearl_value.specs.declared.kind.CellKind.{CellKind}
use Rattle.pearl_value.specs.declared.cell.Cell.{Cell}
use Rattle.pearl_value.specs.declared.trap.Trap.{Trap}
use Rattle.pearl_rules.specs.declared.action.Answer.{Answer}
use Rattle.pearl_stack.specs.Frames.{Frame}
use Rattle.pearl_instructions.specs.declared.instr.Instr.{Instr}
use Rattle.pearl_instructions.specs.declared.object.Code.{Code}
use Rattle.pearl_instructions.specs.declared.object.Parts.{Parts as Object}
use Rattle.pearl_instructions.specs.Objects.{routine_at}
use Rattle.pearl_instructions.specs.Steps.{Step, Silent, Offers, Missing, given, needed, popped, taken, traps}
use Rattle.pearl_instructions.specs.Rows.{instr_at}
use Rattle.pearl_instructions.specs.Operands.{Shape, same_shape, asked, v2}
use Rattle.pearl_instructions.specs.Named.{v1}
use Rattle.pearl_instructions.specs.Kinds.{v3, v4, v5, shape_after}
use Rattle.pearl_instructions.specs.Valid.{shape_before, goes_on, targets, v6, v7, v8, v10, v11, v12, judged, judged_at, judged_whole, is_closed, unsound_in, IsValid}
use Rattle.pearl_instructions.specs.Stacks.{routines_of, Suits, Stands, Below, IsTop, IsStack, Answers}
use Rattle.pearl_instructions.specs.Actions.{IsOffered}
use Rattle.pearl_instructions.proofs.Tests.{and_true, or_true, same_shape_true, keep_none, all_at, closed_more}
use Rattle.pearl_instructions.proofs.Zips.{some_at, none_past, zip_length, zip_take, zip_drop, zip_reverse}

-- an instruction at which no rule fails
pub record Keeps (o : Object) (r : ℕ) (code : Code) (i : ℕ) (instr : Instr) (s : Shape) : Type 0 where
  pub named : v1 o code instr ≡ true
  pub ends : v2 (asked o r instr) s ≡ true
  pub fits : v3 instr s ≡ true
  pub exact : v4 o code instr s ≡ true
  pub plain : v5 o code instr ≡ true
  pub flows : v6 o r code i instr (shape_after o r code instr s) ≡ true
  pub back : v7 code i instr ≡ true
  pub smaller : v8 o r instr ≡ true
  pub closes : v10 o r instr s ≡ true
  pub deep : v11 o code instr s ≡ true
  pub limits : v12 o code instr s ≡ true

pub judged_none : (o : Object) (r : ℕ) (code : Code) (i : ℕ) (instr : Instr) (s : Shape) → judged o r code i instr s ≡ None → Keeps o r code i instr s
judged_none o r code i instr s e =
    let a = keep_none (v1 o code instr) 1 _ e in
    let b = keep_none (v2 (asked o r instr) s) 2 _ a.1 in
    let c = keep_none (v3 instr s) 3 _ b.1 in
    let d = keep_none (v4 o code instr s) 4 _ c.1 in
    let f = keep_none (v5 o code instr) 5 _ d.1 in
    let g = keep_none (v6 o r code i instr (shape_after o r code instr s)) 6 _ f.1 in
    let h = keep_none (v7 code i instr) 7 _ g.1 in
    let j = keep_none (v8 o r instr) 8 _ h.1 in
    let k = keep_none (v10 o r instr s) 10 _ j.1 in
    let l = keep_none (v11 o code instr s) 11 _ k.1 in
    let m = keep_none (v12 o code instr s) 12 _ l.1 in
    record { named = a.0; ends = b.0; fits = c.0; exact = d.0; plain = f.0; flows = g.0; back = h.0; smaller = j.0; closes = k.0; deep = l.0; limits = m.0 }

pub keeps_at : (o : Object) (r : ℕ) (code : Code) (i : ℕ) (instr : Instr) → IsValid o → routine_at o r ≡ Some code → slice_get code.instructions i ≡ Some instr →
    Keeps o r code i instr (shape_before o r code i)
keeps_at o r code i instr v e h =
    let a : judged_at o r code i (slice_get code.instructions i) ≡ None = ap (λ x. unsound_in o r x i) (sym e) ∙ v.sound r i in
    let b : judged_at o r code i (Some instr) ≡ None = ap (judged_at o r code i) (sym h) ∙ a in
    judged_none o r code i instr (shape_before o r code i) b

pub record Whole (code : Code) : Type 0 where
  pub closed : is_closed code.instructions ≡ true
  pub depth : code.depth ≤ 4096

pub whole_at : (o : Object) (r : ℕ) (code : Code) → IsValid o → routine_at o r ≡ Some code → Whole code
whole_at o r code v e =
    let n = length code.instructions in
    let a : judged_at o r code n (slice_get code.instructions n) ≡ None = ap (λ x. unsound_in o r x n) (sym e) ∙ v.sound r n in
    let b : judged_at o r code n None ≡ None = ap (judged_at o r code n) (sym (none_past code.instructions)) ∙ a in
    let same : (n == n) ≡ true = eq-eqb n n refl in
    let d : judged_whole code ≡ None = ap (λ t. if t then judged_whole code else None) (sym same) ∙ b in
    let g = keep_none (list_all (λ s. nat_lt s.instruction n) code.shapes) 1 _ d in
    let h = keep_none (is_closed code.instructions) 9 _ g.1 in
    let k = keep_none (nat_le code.depth 4096) 11 _ h.1 in
    record { closed = h.0; depth = leb-true code.depth 4096 k.0 }

-- where an instruction that goes on goes
pub onward : (o : Object) (r : ℕ) (code : Code) (i : ℕ) (instr : Instr) (left : Shape) → Whole code → slice_get code.instructions i ≡ Some instr →
    v6 o r code i instr left ≡ true → goes_on instr ≡ true → (i + 1 < length code.instructions) × (shape_before o r code (i + 1) ≡ left)
onward o r code i instr left w e f g =
    let more = closed_more code.instructions i instr w.closed e g in
    let on : i + 1 < length code.instructions = omega (arith, more) in
    let t : Bool = list_all (λ t. same_shape (shape_before o r code t) left) (targets instr) in
    let u : Bool = goes_on instr && nat_lt (i + 1) (length code.instructions) in
    let both = and_true t (not u || same_shape (shape_before o r code (i + 1)) left) f in (
      on,
      same_shape_true _ left (or_true (not u) (same_shape (shape_before o r code (i + 1)) left) both.1
          (both_then (goes_on instr) (nat_lt (i + 1) (length code.instructions)) g (lt-ltb (i + 1) (length code.instructions) on))),
    )
  where
    both_then : (a b : Bool) → a ≡ true → b ≡ true → not (a && b) ≡ false
    both_then true true e h = refl
    both_then true false e h = cc
    both_then false b e h = cc

-- the shape before an instruction to which one jumps
pub jumped : (o : Object) (r : ℕ) (code : Code) (i : ℕ) (instr : Instr) (left : Shape) (n t : ℕ) → v6 o r code i instr left ≡ true →
    slice_get (targets instr) n ≡ Some t → shape_before o r code t ≡ left
jumped o r code i instr left n t f e =
    let all : Bool = list_all (λ t. same_shape (shape_before o r code t) left) (targets instr) in
    let both = and_true all (not (goes_on instr && nat_lt (i + 1) (length code.instructions)) || same_shape (shape_before o r code (i + 1)) left) f in
    same_shape_true _ left (all_at (λ t. same_shape (shape_before o r code t) left) (targets instr) n t both.0 e)

-- an instruction of a valid object at which the top frame stands; s is the shape before it
pub record Here (o : Object) (f : Frame) (lower : List Frame) (code : Code) (instr : Instr) (s : Shape) : Type 0 where
  pub routine : routine_at o f.routine ≡ Some code
  pub at : slice_get code.instructions f.place ≡ Some instr
  pub whole : Whole code
  pub is : s ≡ shape_before o f.routine code f.place
  pub keeps : Keeps o f.routine code f.place instr s
  pub stands : Stands o code f s (routines_of lower)
  pub below : Below o f.routine lower

module _ (o : Object) (f : Frame) (lower : List Frame) (code : Code) (instr : Instr) (s : Shape) (h : Here o f lower code instr s) where
  pub lands : (i : ℕ) (cells operands : List Cell) → i < length code.instructions → shape_before o f.routine code i ≡ shape_after o f.routine code instr s →
      AllZip (Suits o (routines_of lower)) code.cells cells → AllZip (Suits o (f.routine ∷ routines_of lower)) (shape_after o f.routine code instr s) operands →
      IsTop o (record { routine = f.routine; place = i; cells = cells; operands = operands }) lower
  lands i cells operands less same z w = record {
    code = code;
    routine = h.routine;
    place = less;
    below = h.below;
    stands = record { cells = z; operands = subst (λ k. AllZip (Suits o (f.routine ∷ routines_of lower)) k operands) (sym same) w };
  }

  -- it goes on with other cells and operands
  pub goes : (cells operands : List Cell) (left : Shape) → goes_on instr ≡ true → left ≡ shape_after o f.routine code instr s →
      AllZip (Suits o (routines_of lower)) code.cells cells → AllZip (Suits o (f.routine ∷ routines_of lower)) left operands →
      IsTop o (record { routine = f.routine; place = f.place + 1; cells = cells; operands = operands }) lower
  goes cells operands left g e z w =
      let on = onward o f.routine code f.place instr (shape_after o f.routine code instr s) h.whole h.at h.keeps.flows g in
      lands (f.place + 1) cells operands on.0 on.1 z
      (subst (λ k. AllZip (Suits o (f.routine ∷ routines_of lower)) k operands) e w)

-- the instruction at which a stack of a valid object stands, with all that holds there
pub here : (o : Object) (v : IsValid o) (f : Frame) (lower : List Frame) (t : IsTop o f lower) →
    (instr : Instr) × (instr_at o f ≡ Some instr) × Here o f lower t.code instr (shape_before o f.routine t.code f.place)
here o v f lower t =
    let at = some_at t.code.instructions f.place t.place in (
      at.0,
      ap (λ c. option_and_then (λ code. slice_get code.instructions f.place) c) t.routine ∙ at.1,
      record {
        routine = t.routine;
        at = at.1;
        whole = whole_at o f.routine t.code v t.routine;
        is = refl;
        keeps = keeps_at o f.routine t.code f.place at.0 v t.routine at.1;
        stands = t.stands;
        below = t.below;
      },
    )

-- a row is there, leads to stacks of the object only, whose ever it is, and offers only what the object has
abbrev pub IsSound : Object → Step → Type 0
IsSound o (Silent frames) = IsStack o frames
IsSound o (Offers action go) = IsOffered o action × ((answer : Answer) (own : ℕ) → Answers o own action answer → IsStack o (go answer))
IsSound o Missing = ⊥

pub given_goes : {A : Type 0} (o : Object) (x : A) (option : Option A) (go : A → Step) → option ≡ Some x → IsSound o (go x) → IsSound o (given option go)
given_goes o x None go e h = cc
given_goes o x (Some y) go e h = subst (λ y. IsSound o (go y)) (sym (same_Some y x e)) h

pub needed_goes : (o : Object) (b : Bool) (step : Step) → b ≡ true → IsSound o step → IsSound o (needed b step)
needed_goes o true step e h = h
needed_goes o false step e h = cc

-- the top operand is there
pub popped_goes : (o : Object) (R : CellKind → Cell → Type 0) (k : CellKind) (ks : Shape) (operands : List Cell) (go : Cell → List Cell → Step) →
    AllZip R (k ∷ ks) operands → ((x : Cell) (left : List Cell) → R k x → AllZip R ks left → IsSound o (go x left)) → IsSound o (popped operands go)
popped_goes o R k ks [] go z h = absurd z
popped_goes o R k ks (x ∷ left) go z h = h x left z.0 z.1

-- so are the top n operands
pub taken_goes : (o : Object) (R : CellKind → Cell → Type 0) (n : ℕ) (s : Shape) (operands : List Cell) (go : List Cell → List Cell → Step) →
    n ≤ length s → AllZip R s operands → ((xs left : List Cell) → AllZip R (reverse (take n s)) xs → AllZip R (drop n s) left → IsSound o (go xs left)) →
    IsSound o (taken n operands go)
taken_goes o R n s operands go less z h =
    let long = zip_length R s operands z in
    let there : n ≤ length operands = omega (arith, less, long) in
    needed_goes o (nat_le n (length operands)) _ (le-leb n (length operands) there)
    (h (reverse (take n operands)) (drop n operands) (zip_reverse R (take n s) (take n operands) (zip_take R n s operands z)) (zip_drop R n s operands z))

-- a trap is answered by nothing
pub traps_goes : (o : Object) (trap : Trap) (f : Frame) (lower : List Frame) → IsSound o (traps trap f lower)
traps_goes o trap f lower = (tt, λ answer own never. absurd never)
