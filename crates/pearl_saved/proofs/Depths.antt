-- How many frames a stack has in a state that keeps N5, and how many cells and operands these have together.
use Rattle.std.proofs.Common.{◌≡◌, inl, inr, ℕ, zero, suc, ◌+◌, ◌≤◌, ◌<◌, Bool, true, false, List, [], ◌∷◌, ◌++◌, length, drop, Option, Some, None, refl, sym, ap, ◌∙◌, arith}
use Rattle.std.specs.Prelude.{◌&&◌, ◌||◌, ◌==◌, nat_lt, nat_le, map, reverse, slice_get, if◌then◌else◌}
use Rattle.std.specs.List.{list_all}
use Rattle.std.proofs.lemmas.Bool.{eq-eqb, leb-true, ltb-true, lt-leb}
use Rattle.std.proofs.lemmas.List.{length-map, length-reverse}
use Rattle.std.proofs.lemmas.Option.{slice_get_cases, slice_get_within, slice_get_past}
use Rattle.pearl_value.specs.declared.kind.CellKind.{CellKind}
use Rattle.pearl_instructions.specs.declared.instr.Instr.{Instr}
use Rattle.pearl_instructions.specs.declared.instr.Instr.TheVariants.{Call}
use Rattle.pearl_instructions.specs.declared.object.Code.{Code}
use Rattle.pearl_instructions.specs.declared.object.Procedure.{Procedure}
use Rattle.pearl_instructions.specs.declared.object.Parts.{Parts as Object}
use Rattle.pearl_instructions.specs.Objects.{routine_at, is_task}
use Rattle.pearl_instructions.specs.Operands.{Shape, asked, v2}
use Rattle.pearl_instructions.specs.Named.{v1}
use Rattle.pearl_instructions.specs.Kinds.{v3, v4, v5, shape_after}
use Rattle.pearl_instructions.specs.Valid.{shape_before, v6, v7, v8, v10, v11, call_fits, keep, is_closed, judged, judged_at, judged_whole, unsound_in, IsValid}
use Rattle.pearl_saved.specs.declared.saved.SavedCell.{SavedCell}
use Rattle.pearl_saved.specs.declared.saved.FrameRecord.{FrameRecord}
use Rattle.pearl_saved.specs.Rules.{kind_held, AreOf, IsAtPlace, IsAtCall, IsStackOf}

-- ---- what holds at an instruction of a valid object

kept : (b : Bool) (rule : ℕ) (later : Option ℕ) → keep b rule later ≡ None → (b ≡ true) × (later ≡ None)
kept true rule later e = (refl, e)
kept false rule later e = absurd cc

both_true : (a b : Bool) → (a && b) ≡ true → (a ≡ true) × (b ≡ true)
both_true true b h = (refl, h)
both_true false b h = absurd cc

second_true : (a b : Bool) → (a || b) ≡ true → a ≡ false → b ≡ true
second_true true b h e = absurd cc
second_true false b h e = h

-- V8 and V11
record Keeps (o : Object) (r : ℕ) (code : Code) (instr : Instr) (s : Shape) : Type 0 where
  smaller : v8 o r instr ≡ true
  deep : v11 o code instr s ≡ true

keeps : (o : Object) (r : ℕ) (code : Code) (i : ℕ) (instr : Instr) (s : Shape) → judged o r code i instr s ≡ None → Keeps o r code instr s
keeps o r code i instr s e =
    let a = kept (v1 o code instr) 1 _ e in
    let b = kept (v2 (asked o r instr) s) 2 _ a.1 in
    let c = kept (v3 instr s) 3 _ b.1 in
    let d = kept (v4 o code instr s) 4 _ c.1 in
    let f = kept (v5 o code instr) 5 _ d.1 in
    let g = kept (v6 o r code i instr (shape_after o r code instr s)) 6 _ f.1 in
    let h = kept (v7 code i instr) 7 _ g.1 in
    let j = kept (v8 o r instr) 8 _ h.1 in
    let k = kept (v10 o r instr s) 10 _ j.1 in
    let l = kept (v11 o code instr s) 11 _ k.1 in
    record { smaller = j.0; deep = l.0 }

keeps_at : (o : Object) (r : ℕ) (code : Code) (i : ℕ) (instr : Instr) → IsValid o → routine_at o r ≡ Some code → slice_get code.instructions i ≡ Some instr
    → Keeps o r code instr (shape_before o r code i)
keeps_at o r code i instr v e h =
    let a : judged_at o r code i (slice_get code.instructions i) ≡ None = ap (λ x. unsound_in o r x i) (sym e) ∙ v.sound r i in
    keeps o r code i instr (shape_before o r code i) (ap (judged_at o r code i) (sym h) ∙ a)

-- the stated depth of a routine is at most 4,096
pub depth_few : (o : Object) (r : ℕ) (code : Code) → IsValid o → routine_at o r ≡ Some code → code.depth ≤ 4096
depth_few o r code v e =
    let n = length code.instructions in
    let a : judged_at o r code n (slice_get code.instructions n) ≡ None = ap (λ x. unsound_in o r x n) (sym e) ∙ v.sound r n in
    let b : judged_at o r code n None ≡ None = ap (judged_at o r code n) (sym (slice_get_past code.instructions n (omega arith))) ∙ a in
    let same : (n == n) ≡ true = eq-eqb n n refl in
    let d : judged_whole code ≡ None = ap (λ t. if t then judged_whole code else None) (sym same) ∙ b in
    let g = kept (list_all (λ s. nat_lt s.instruction n) code.shapes) 1 _ d in
    let h = kept (is_closed code.instructions) 9 _ g.1 in
    leb-true code.depth 4096 (kept (nat_le code.depth 4096) 11 _ h.1).0

deep_any : (o : Object) (code : Code) (instr : Instr) (s : Shape) → v11 o code instr s ≡ true → length code.cells + length s ≤ code.depth
deep_any o code (Call p) s e =
    leb-true _ code.depth (both_true (nat_le (length code.cells + length s) code.depth) (call_fits code (slice_get o.procedures p) s) e).0
deep_any o code instr s e = leb-true _ code.depth e

deep_call : (o : Object) (code : Code) (callee : Procedure) (p : ℕ) (s : Shape) → v11 o code (Call p) s ≡ true → slice_get o.procedures p ≡ Some callee
    → length code.cells + length (drop callee.params s) + callee.code.depth ≤ code.depth
deep_call o code callee p s e q =
    let b = both_true (nat_le (length code.cells + length s) code.depth) (call_fits code (slice_get o.procedures p) s) e in
    leb-true _ code.depth (ap (λ x. call_fits code x s) (sym q) ∙ b.1)

code_in : (ps : List Procedure) (rest : List Code) (p : ℕ) (callee : Procedure) → slice_get ps p ≡ Some callee → slice_get (map (λ q. q.code) ps ++ rest) p ≡ Some callee.code
code_in [] rest p callee e = absurd cc
code_in (q ∷ ps) rest zero callee e = let s : q ≡ callee = cc in ap (λ x. Some x.code) s
code_in (q ∷ ps) rest (suc p) callee e = code_in ps rest p callee e

-- ---- cells and operands

as_many : (kinds : List CellKind) (cells : List SavedCell) → AreOf kinds cells → length cells ≡ length kinds
as_many kinds cells h = sym (length-map cells kind_held) ∙ ap length h ∙ length-map kinds Some

as_many_back : (kinds : List CellKind) (cells : List SavedCell) → AreOf kinds (reverse cells) → length cells ≡ length kinds
as_many_back kinds cells h = sym (length-reverse cells) ∙ as_many kinds (reverse cells) h

-- how many cells and operands frames have
abbrev pub used : List FrameRecord → ℕ
used [] = 0
used (f ∷ frames) = length f.cells + length f.operands + used frames

same_code : (o : Object) (r s : ℕ) (c d : Code) → r ≡ s → routine_at o r ≡ Some c → routine_at o s ≡ Some d → c ≡ d
same_code o r s c d e f g = let two : Some c ≡ Some d = sym f ∙ ap (routine_at o) e ∙ g in cc

top_used : (o : Object) → IsValid o → (f : FrameRecord) (at : IsAtPlace o f) → length f.cells + length f.operands ≤ at.code.depth
top_used o v f at =
    let c : Code = at.code in
    let s = shape_before o f.routine c f.place in
    let cells = as_many c.cells f.cells at.stands.cells in
    let operands = as_many_back s f.operands at.stands.operands in
    elim (slice_get_cases c.instructions f.place).1 [
      | inl w ↦ (let deep = deep_any o c w.0 s (keeps_at o f.routine c f.place w.0 v at.routine w.2).deep in omega (arith, cells, operands, deep))
      | inr none ↦ (let past = none.0 in let less = at.place in absurd (omega (arith, past, less)))
    ]

-- a stack has no more than its lowest routine's depth
pub used_few : (o : Object) → IsValid o → (routine : ℕ) (frames : List FrameRecord) → IsStackOf o routine frames → (code : Code) → routine_at o routine ≡ Some code → used frames ≤ code.depth
used_few o v routine [] h code is = absurd h
used_few o v routine (f ∷ []) h code is =
    let same = same_code o f.routine routine h.1.code code h.0 h.1.routine is in
    let top = top_used o v f h.1 in
    omega (arith, top, ap (λ c. c.depth) same)
used_few o v routine (f ∷ above ∷ more) h code is =
    let call = h.1 in
    let c : Code = call.code in
    let d : Procedure = call.callee in
    let p : ℕ = above.routine in
    let s = shape_before o f.routine c f.place in
    let same = same_code o f.routine routine c code h.0 call.routine is in
    let cells = as_many c.cells f.cells call.stands.cells in
    let operands = as_many_back (drop d.params s) f.operands call.stands.operands in
    let deep = deep_call o c d p s (keeps_at o f.routine c f.place (Call p) v call.routine call.place).deep call.called in
    let rest = used_few o v p (above ∷ more) h.2 d.code (code_in o.procedures _ p d call.called) in
    omega (arith, cells, operands, deep, rest, ap (λ c. c.depth) same)

-- ---- frames

-- a procedure's frame has called one with a smaller number
smaller : (o : Object) → IsValid o → (p : ℕ) (f : FrameRecord) → IsAtCall o p f → f.routine < length o.procedures → p < f.routine
smaller o v p f call less =
    let k = keeps_at o f.routine call.code f.place (Call p) v call.routine call.place in
    ltb-true p f.routine (second_true (is_task o f.routine) (nat_lt p f.routine) k.smaller (lt-leb (length o.procedures) f.routine less))

frames_of : (o : Object) → IsValid o → (routine : ℕ) (frames : List FrameRecord) → IsStackOf o routine frames → routine < length o.procedures → length frames ≤ routine + 1
frames_of o v routine [] h less = absurd h
frames_of o v routine (f ∷ []) h less = omega arith
frames_of o v routine (f ∷ above ∷ more) h less =
    let here : f.routine < length o.procedures = omega (arith, h.0, less) in
    let down = smaller o v above.routine f h.1 here in
    let rest = frames_of o v above.routine (above ∷ more) h.2 (omega (arith, down, here)) in
    omega (arith, rest, down, h.0)

-- a stack has at most one frame more than there are procedures
pub frames_few : (o : Object) → IsValid o → (routine : ℕ) (frames : List FrameRecord) → IsStackOf o routine frames → length frames ≤ length o.procedures + 1
frames_few o v routine [] h = absurd h
frames_few o v routine (f ∷ []) h = omega arith
frames_few o v routine (f ∷ above ∷ more) h =
    let there = slice_get_within o.procedures above.routine h.1.callee h.1.called in
    let rest = frames_of o v above.routine (above ∷ more) h.2 there in
    omega (arith, rest, there)

pub used_all : (o : Object) → IsValid o → (routine : ℕ) (frames : List FrameRecord) → IsStackOf o routine frames → used frames ≤ 4096
used_all o v routine [] h = absurd h
used_all o v routine (f ∷ []) h =
    let is = ap (routine_at o) (sym h.0) ∙ h.1.routine in
    let most = used_few o v routine (f ∷ []) h h.1.code is in
    let few = depth_few o routine h.1.code v is in
    omega (arith, most, few)
used_all o v routine (f ∷ above ∷ more) h =
    let is = ap (routine_at o) (sym h.0) ∙ h.1.routine in
    let most = used_few o v routine (f ∷ above ∷ more) h h.1.code is in
    let few = depth_few o routine h.1.code v is in
    omega (arith, most, few)
