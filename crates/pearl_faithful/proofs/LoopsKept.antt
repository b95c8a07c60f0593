-- No rule of the validator fails in what stands in a loop beside its statements.
use Rattle.std.proofs.Common.{◌≡◌, ℕ, ◌+◌, ◌<◌, ◌≤◌, pos, List, [], ◌∷◌, Option, Some, None, slice_get, length, replicate, refl, sym, ap, ◌∙◌, subst, arith}
use Rattle.std.proofs.lemmas.Option.{same_Some}
use Rattle.pearl_value.specs.declared.kind.Kind.{Kind}
use Rattle.pearl_value.specs.declared.cell.Cell.TheVariants.{Fixed}
use Rattle.pearl_value.specs.declared.kind.Kind.TheVariants as kind_
use Rattle.pearl_value.specs.declared.kind.CellKind.TheVariants.{Plain}
use Rattle.pearl_value.specs.Cells.{cell_kind_of}
use Rattle.pearl_program.specs.PlainExpressions.{PlainExpr}
use Rattle.pearl_program.specs.PlainStatements.{PlainCounter}
use Rattle.pearl_program.specs.Typing.{Around, AreCells, HasKind}
use Rattle.pearl_program.specs.Weights.{Sizes, values, of_expr, of_if}
use Rattle.pearl_meaning.specs.Setting.{Setting}
use Rattle.pearl_instructions.specs.declared.instr.Instr.{Instr}
use Rattle.pearl_instructions.specs.declared.instr.Instr.TheVariants as instr
use Rattle.pearl_instructions.specs.declared.object.Code.{Code}
use Rattle.pearl_instructions.specs.declared.object.Parts.{Parts as Object}
use Rattle.pearl_instructions.specs.Operands.{Shape}
use Rattle.pearl_gen_expr.specs.ExprCode.{Is, ExprAt}
use Rattle.pearl_gen_expr.specs.Shapes.{Keeps}
use Rattle.pearl_gen_expr.proofs.Offered.{both_keep, const_keeps, conv_keeps, then_one, just_one}
use Rattle.pearl_faithful.proofs.StatementsStand.{Stands}
use Rattle.pearl_faithful.proofs.Quiet.{stays, IsWhole, quiet_at}
use Rattle.pearl_faithful.proofs.Small.{IsSmall, left, right}
use Rattle.pearl_faithful.proofs.Lists.{part_is, get_copied}
use Rattle.pearl_faithful.proofs.Kept.{expr_keep, converted_keep, store_keep}
use Rattle.pearl_value.specs.declared.trap.Trap.TheVariants.{Overflow}
use Rattle.pearl_program.specs.Typing.{IsFixed}
use Rattle.pearl_program.specs.SoundStatements.{IsIf, IsCounter, IsCondition}
use Rattle.pearl_program.specs.Weights.{of_counter}
use Rattle.pearl_meaning.specs.Setting.{cell_kind}
use Rattle.pearl_gen_stmt.specs.StmtCode.{CountedAt, LimitAt, BeginsAt, WithinAt, CountsAt, WhileAt, PassedAt, AdvanceAt}
use Rattle.pearl_faithful.proofs.StatementsStand.{own_kind_is}
use Rattle.pearl_faithful.proofs.Steps.{jump_keeps, jump_zero_keeps, nonzero_keeps, trap_keeps, within_keeps, advance_keeps}

module _ (o : Object) (r : ℕ) (code : Code) (setting : Setting) (below most need : ℕ) (whole : IsWhole o code) (room : length code.cells + (need + 2) + most ≤ code.depth)
    (around : Around) (stands : Stands o r code setting around below) where
  abbrev instrs : List Instr
  instrs = code.instructions

  abbrev Fit : (Sizes → ℕ) → Type 0
  Fit of = IsSmall o below most need of

  abbrev Goes : (from to : ℕ) (before after : Shape) → Type 0
  Goes from to before after = Keeps o r code from to before after

  expr : (e : PlainExpr) (kind : Kind) (from to : ℕ) (s : Shape) → HasKind around e kind → Fit (λ z. of_expr z e) → length s + of_expr values e ≤ need + 2 →
      ExprAt setting.program instrs from e to → Goes from to s (Plain kind ∷ s)
  expr = expr_keep o r code setting below most need whole room around stands

  -- FROM, BY or TO
  counted_keep : (counter : PlainCounter) (len : ℕ) (e : Option PlainExpr) (from to : ℕ) → cell_kind setting counter.cell ≡ Some (kind_.Fixed len) → IsIf (IsFixed around) e →
      Fit (λ z. of_if z (of_expr z) e) → CountedAt setting instrs from counter e to → Goes from to [] (Plain (kind_.Fixed len) ∷ [])
  counted_keep counter len None from to known typed small is =
      let two : to ≡ from + 1 + 1 = let last = is.4 in omega (arith, last) in
      let same : is.0 ≡ kind_.Fixed len = same_Some is.0 (kind_.Fixed len) (sym is.1 ∙ known) in
      then_one o r code from (from + 1) to [] (Plain (kind_.Fixed 31) ∷ []) (Plain (kind_.Fixed len) ∷ []) two
      (const_keeps o r code from (quiet_at o r code whole from (instr.Const (Fixed 31 (pos 1))) is.2 refl) (Fixed 31 (pos 1)) (kind_.Fixed 31) [] is.2 refl (omega (arith, room)))
      (conv_keeps o r code (from + 1) (quiet_at o r code whole (from + 1) (instr.Conv is.0) is.3 refl) (kind_.Fixed 31) (kind_.Fixed len) []
      (subst (λ kind. Is instrs (from + 1) (instr.Conv kind)) same is.3) tt (omega (arith, room)))
  counted_keep counter len (Some e) from to known typed small is =
      let sizes = small.2 in
      converted_keep o r code setting below most need whole room around stands e (kind_.Fixed len) (cell_kind setting counter.cell) from to [] (kind_.Fixed typed.0, typed.1, tt) known small
      (omega (arith, sizes)) is

  store : (c : ℕ) (len place : ℕ) → Is instrs place (instr.Store c) → slice_get code.cells c ≡ Some (Plain (kind_.Fixed len)) → Goes place (place + 1) (Plain (kind_.Fixed len) ∷ []) []
  store c len place is there = store_keep o r code setting below most need whole room around stands c (kind_.Fixed len) place is there

  -- the three cells of a loop
  their_cells : (counter : PlainCounter) (typed : IsCounter around counter) → AreCells code.cells counter.cell 3 (Plain (kind_.Fixed typed.cells.0))
  their_cells counter typed = subst (λ cells. AreCells cells counter.cell 3 (Plain (kind_.Fixed typed.cells.0))) stands.placed.cells typed.cells.1

  cell_there : (counter : PlainCounter) (typed : IsCounter around counter) (i : ℕ) → i < 3 → slice_get code.cells (counter.cell + i) ≡ Some (Plain (kind_.Fixed typed.cells.0))
  cell_there counter typed i less =
      part_is code.cells (replicate 3 (Plain (kind_.Fixed typed.cells.0))) counter.cell 3 i (Plain (kind_.Fixed typed.cells.0)) (their_cells counter typed) (get_copied 3 i (Plain (kind_.Fixed typed.cells.0)) less)

  limit_keep : (counter : PlainCounter) (typed : IsCounter around counter) (e : Option PlainExpr) (from to : ℕ) → cell_kind setting counter.cell ≡ Some (kind_.Fixed typed.cells.0) → IsIf (IsFixed around) e →
      Fit (λ z. of_if z (of_expr z) e) → LimitAt setting instrs from counter e to → Goes from to [] []
  limit_keep counter typed None from to known fixed small is = stays o r code from to [] is
  limit_keep counter typed (Some e) from to known fixed small is =
      then_one o r code from is.0 to [] (Plain (kind_.Fixed typed.cells.0) ∷ []) [] is.3 (counted_keep counter typed.cells.0 (Some e) from is.0 known fixed small is.1)
      (store (counter.cell + 2) typed.cells.0 is.0 is.2 (cell_there counter typed 2 (omega arith)))

  pub begins_keep : (counter : Option PlainCounter) (from to : ℕ) → IsIf (IsCounter around) counter → Fit (λ z. of_if z (of_counter z) counter) → BeginsAt setting code.instructions from counter to →
      Goes from to [] []
  begins_keep None from to typed small is = stays o r code from to [] is
  begins_keep (Some counter) from to typed small is =
      let f : Sizes → ℕ = λ z. of_if z (of_expr z) counter.begin in
      let g : Sizes → ℕ = λ z. of_if z (of_expr z) counter.step in
      let h : Sizes → ℕ = λ z. of_if z (of_expr z) counter.end in
      let rest = right o below most need f (λ z. z.both (g z) (h z)) small in
      let len = typed.cells.0 in let k = Plain (kind_.Fixed len) in
      let three : 0 < 3 = omega arith in
      let known = own_kind_is o r code setting around below stands counter.cell (kind_.Fixed len) 3 three typed.cells.1 in
      let first : slice_get code.cells counter.cell ≡ Some k =
      let same : counter.cell ≡ counter.cell + 0 = omega arith in ap (λ n. slice_get code.cells n) same ∙ cell_there counter typed 0 (omega arith) in
      let one = then_one o r code from is.0 (is.0 + 1) [] (k ∷ []) [] refl (counted_keep counter len counter.begin from is.0 known typed.begin (left o below most need f (λ z. z.both (g z) (h z)) small) is.2)
      (store counter.cell len is.0 is.3 first) in
      let last : is.1 + 2 ≡ is.1 + 1 + 1 = omega arith in
      let two = then_one o r code (is.0 + 1) (is.1 + 1) (is.1 + 2) [] (k ∷ []) [] last
      (then_one o r code (is.0 + 1) is.1 (is.1 + 1) [] (k ∷ []) (k ∷ []) refl (counted_keep counter len counter.step (is.0 + 1) is.1 known typed.step (left o below most need g h rest) is.4)
      (nonzero_keeps o r code whole is.1 len is.5 (omega (arith, room))))
      (store (counter.cell + 1) len (is.1 + 1) is.6 (cell_there counter typed 1 (omega arith))) in
      both_keep o r code from (is.0 + 1) to [] [] [] one (both_keep o r code (is.0 + 1) (is.1 + 2) to [] [] [] two
      (limit_keep counter typed counter.end (is.1 + 2) to known typed.end (right o below most need g h rest) is.7))

  pub counts_keep : (counter : Option PlainCounter) (past from to : ℕ) → IsIf (IsCounter around) counter → CountsAt setting code.instructions from past counter to → Goes from to [] []
  counts_keep None past from to typed is = stays o r code from to [] is
  counts_keep (Some counter) past from to typed is = by counter.end is
    where
      by : (end : Option PlainExpr) → WithinAt setting instrs from past counter end to → Goes from to [] []
      by None is = stays o r code from to [] is
      by (Some e) is =
          then_one o r code from (from + 1) to [] (Plain (kind_.Bits 1) ∷ []) [] is.1.1
          (within_keeps o r code whole from counter.cell typed.cells.0 (their_cells counter typed) is.0 (omega (arith, room)))
          (jump_zero_keeps o r code whole (from + 1) past is.1.0 (omega (arith, room)))

  pub while_keep : (condition : Option PlainExpr) (past from to : ℕ) → IsIf (IsCondition around) condition → Fit (λ z. of_if z (of_expr z) condition) →
      WhileAt setting code.instructions from past condition to → Goes from to [] []
  while_keep None past from to typed small is = stays o r code from to [] is
  while_keep (Some e) past from to typed small is =
      let sizes = small.2 in
      then_one o r code from is.0 to [] (Plain (kind_.Bits 1) ∷ []) [] is.2.1 (expr e (kind_.Bits 1) from is.0 [] typed small (omega (arith, sizes)) is.1)
      (jump_zero_keeps o r code whole is.0 past is.2.0 (omega (arith, room)))

  pub back_keep : (counter : Option PlainCounter) (top from past : ℕ) → IsIf (IsCounter around) counter → AdvanceAt setting code.instructions from top counter past → Goes from past [] []
  back_keep None top from past typed is = just_one o r code from past [] [] is.1 (jump_keeps o r code whole from top is.0 (omega (arith, room)))
  back_keep (Some counter) top from past typed is = by counter.end is
    where
      by : (end : Option PlainExpr) → PassedAt setting instrs from top counter end past → Goes from past [] []
      by None is =
          let two : from + 2 ≡ from + 1 + 1 = omega arith in
          let last : past ≡ from + 2 + 1 = let e = is.3 in omega (arith, e) in
          then_one o r code from (from + 2) past [] [] [] last
          (then_one o r code from (from + 1) (from + 2) [] [] [] two
          (advance_keeps o r code whole from counter.cell typed.cells.0 (their_cells counter typed) (from + 2) is.0 (omega (arith, room)))
          (jump_keeps o r code whole (from + 1) top is.1 (omega (arith, room))))
          (trap_keeps o r code whole (from + 2) Overflow is.2 (omega (arith, room)))
      by (Some e) is =
          let last : past ≡ from + 1 + 1 = let e = is.2 in omega (arith, e) in
          then_one o r code from (from + 1) past [] [] [] last
          (advance_keeps o r code whole from counter.cell typed.cells.0 (their_cells counter typed) past is.0 (omega (arith, room)))
          (jump_keeps o r code whole (from + 1) top is.1 (omega (arith, room)))
