-- Part behind part: the code of loops around their statements.
use Rattle.std.proofs.Common.{◌≡◌, ℕ, ◌+◌, ◌≤◌, pos, List, [], ◌∷◌, ◌++◌, length, Some, None, refl, sym, ap, ◌∙◌, subst, arith}
use Rattle.pearl_value.specs.declared.kind.Kind.{Kind}
use Rattle.pearl_value.specs.declared.cell.Cell.{Cell}
use Rattle.pearl_value.specs.declared.cell.Cell.TheVariants.{Fixed}
use Rattle.pearl_value.specs.declared.trap.Trap.TheVariants.{Overflow, Index}
use Rattle.pearl_program.specs.PlainExpressions.{PlainExpr}
use Rattle.pearl_program.specs.PlainStatements.{PlainCounter}
use Rattle.pearl_meaning.specs.Setting.{Setting, cell_kind}
use Rattle.pearl_instructions.specs.declared.instr.Instr.{Instr}
use Rattle.pearl_instructions.specs.declared.instr.Instr.TheVariants as instr
use Rattle.pearl_gen_expr.specs.ExprCode.{Is}
use Rattle.pearl_gen_expr.specs.Emitting.{Extends, EmitsExpr}
use Rattle.pearl_gen_expr.proofs.Offered.{last_is, one_longer}
use Rattle.pearl_gen_stmt.specs.StmtCode.{ConvertedAt, CountedAt, LimitAt, BeginsAt, WithinAt, WhileAt, PassedAt, AdvanceAt}
use Rattle.pearl_gen_stmt.specs.Emission.{Adds, AddsTest}
use Rattle.pearl_gen_stmt.proofs.Adding.{stays_on, stays_one, last_stays}
use Rattle.pearl_gen_stmt.proofs.Keeping.{kept_expr}

module _ (setting : Setting) (old one two : List Instr) where
  pub one_counted_adds : (counter : PlainCounter) (of : Kind) (box : Cell) → cell_kind setting counter.cell ≡ Some of →
      box ≡ Fixed 31 (pos 1) → one ≡ old ++ instr.Const box ∷ [] → two ≡ one ++ instr.Conv of ∷ [] →
      Adds (λ code from to. CountedAt setting code from counter None to) old two
  one_counted_adds counter of box kind same const conv final stays =
      let number = instr.Const (Fixed 31 (pos 1)) in
      let const : one ≡ old ++ number ∷ [] = const ∙ ap (λ x. old ++ instr.Const x ∷ []) same in
      let first = stays_one one two (instr.Conv of) conv final stays in
      let long = one_longer old one number const in (
        of,
        kind,
        last_stays old one number const final first refl,
        subst (λ place. Is final place (instr.Conv of)) long (last_stays one two (instr.Conv of) conv final stays refl),
        (let more = one_longer one two (instr.Conv of) conv in omega (arith, more, long)),
      )

  pub counted_adds : (counter : PlainCounter) (e : PlainExpr) (of : Kind) → cell_kind setting counter.cell ≡ Some of →
      Adds (λ code from to. ConvertedAt setting code from e (Some of) to) old one → Adds (λ code from to. CountedAt setting code from counter (Some e) to) old one
  counted_adds counter e of kind adds final stays =
      subst (λ kind. ConvertedAt setting final (length old) e kind (length one)) (sym kind) (adds final stays)

  pub limit_adds : (counter : PlainCounter) (e : PlainExpr) → Adds (λ code from to. CountedAt setting code from counter (Some e) to) old one →
      two ≡ one ++ instr.Store (counter.cell + 2) ∷ [] → Adds (λ code from to. LimitAt setting code from counter (Some e) to) old two
  limit_adds counter e counted last final stays = (
    length one,
    counted final (stays_one one two (instr.Store (counter.cell + 2)) last final stays),
    last_stays one two (instr.Store (counter.cell + 2)) last final stays refl,
    one_longer one two (instr.Store (counter.cell + 2)) last,
  )

  pub begins_adds : (three four five six : List Instr) (counter : PlainCounter) →
      Adds (λ code from to. CountedAt setting code from counter counter.begin to) old one → two ≡ one ++ instr.Store counter.cell ∷ [] →
      Extends two three → Adds (λ code from to. CountedAt setting code from counter counter.step to) two three → four ≡ three ++ instr.NonZero ∷ [] →
      five ≡ four ++ instr.Store (counter.cell + 1) ∷ [] → Extends five six → Adds (λ code from to. LimitAt setting code from counter counter.end to) five six →
      Adds (λ code from to. BeginsAt setting code from (Some counter) to) old six
  begins_adds three four five six counter begin stored kept step checked again more limit final stays =
      let fifth = stays_on five six final more stays in
      let fourth = stays_one four five (instr.Store (counter.cell + 1)) again final fifth in
      let third = stays_one three four instr.NonZero checked final fourth in
      let second = stays_on two three final kept third in
      let first = stays_one one two (instr.Store counter.cell) stored final second in
      let long_two = one_longer one two (instr.Store counter.cell) stored in
      let long_four = one_longer three four instr.NonZero checked in
      let long_five : length five ≡ length three + 2 = let l = one_longer four five (instr.Store (counter.cell + 1)) again in omega (arith, l, long_four) in (
        length one,
        length three,
        begin final first,
        last_stays one two (instr.Store counter.cell) stored final second refl,
        subst (λ from. CountedAt setting final from counter counter.step (length three)) long_two (step final third),
        last_stays three four instr.NonZero checked final fourth refl,
        subst (λ place. Is final place (instr.Store (counter.cell + 1))) long_four (last_stays four five (instr.Store (counter.cell + 1)) again final fifth refl),
        subst (λ from. LimitAt setting final from counter counter.end (length six)) long_five (limit final stays),
      )

  pub within_adds : (counter : PlainCounter) (e : PlainExpr) → one ≡ old ++ instr.Within counter.cell ∷ [] → two ≡ one ++ instr.Trap Index ∷ [] →
      AddsTest (λ past code from to. WithinAt setting code from past counter (Some e) to) old two
  within_adds counter e first last final past stays leave =
      let long = one_longer old one (instr.Within counter.cell) first in (
        last_stays old one (instr.Within counter.cell) first final (stays_one one two (instr.Trap Index) last final stays) refl,
        (
          subst (λ place. Is final place (instr.JumpZero past)) long (leave (length one) (omega (arith, long)) (last_is one two (instr.Trap Index) last)),
          (let more = one_longer one two (instr.Trap Index) last in omega (arith, more, long)),
        ),
      )

  pub while_adds : (e : PlainExpr) → EmitsExpr setting.program e old one → length old ≤ length one → two ≡ one ++ instr.Trap Index ∷ [] →
      AddsTest (λ past code from to. WhileAt setting code from past (Some e) to) old two
  while_adds e is more last final past stays leave = (
    length one,
    kept_expr setting.program one final (stays_one one two (instr.Trap Index) last final stays) e (length old) (length one) is,
    (leave (length one) more (last_is one two (instr.Trap Index) last), one_longer one two (instr.Trap Index) last),
  )

  pub passed_adds : (counter : PlainCounter) (top : ℕ) (e : PlainExpr) → one ≡ old ++ instr.Advance counter.cell (length old + 2) ∷ [] →
      two ≡ one ++ instr.Jump top ∷ [] → Adds (λ code from to. PassedAt setting code from top counter (Some e) to) old two
  passed_adds counter top e first last final stays =
      let long = one_longer old one (instr.Advance counter.cell (length old + 2)) first in
      let more : length two ≡ length old + 2 = let l = one_longer one two (instr.Jump top) last in omega (arith, l, long) in (
        subst (λ past. Is final (length old) (instr.Advance counter.cell past)) (sym more)
            (last_stays old one (instr.Advance counter.cell (length old + 2)) first final (stays_one one two (instr.Jump top) last final stays) refl),
        subst (λ place. Is final place (instr.Jump top)) long (last_stays one two (instr.Jump top) last final stays refl),
        more,
      )

  pub endless_adds : (three : List Instr) (counter : PlainCounter) (top : ℕ) → one ≡ old ++ instr.Advance counter.cell (length old + 2) ∷ [] →
      two ≡ one ++ instr.Jump top ∷ [] → three ≡ two ++ instr.Trap Overflow ∷ [] → Adds (λ code from to. PassedAt setting code from top counter None to) old three
  endless_adds three counter top first next last final stays =
      let second = stays_one two three (instr.Trap Overflow) last final stays in
      let long = one_longer old one (instr.Advance counter.cell (length old + 2)) first in
      let more : length two ≡ length old + 2 = let l = one_longer one two (instr.Jump top) next in omega (arith, l, long) in (
        last_stays old one (instr.Advance counter.cell (length old + 2)) first final (stays_one one two (instr.Jump top) next final second) refl,
        subst (λ place. Is final place (instr.Jump top)) long (last_stays one two (instr.Jump top) next final second refl),
        subst (λ place. Is final place (instr.Trap Overflow)) more (last_stays two three (instr.Trap Overflow) last final stays refl),
        (let l = one_longer two three (instr.Trap Overflow) last in omega (arith, l, more)),
      )

  pub endless_turn_adds : (top : ℕ) → one ≡ old ++ instr.Jump top ∷ [] → Adds (λ code from to. AdvanceAt setting code from top None to) old one
  endless_turn_adds top last final stays = (last_stays old one (instr.Jump top) last final stays refl, one_longer old one (instr.Jump top) last)
