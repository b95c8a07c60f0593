-- Part behind part: the code of assignments, calls, RETURN, PUT, SEND and TAKE.
use Rattle.std.proofs.Common.{◌≡◌, ℕ, ◌+◌, List, [], ◌∷◌, ◌++◌, length, Option, Some, None, refl, sym, ap, ◌∙◌, subst, arith}
use Rattle.pearl_value.specs.declared.kind.Kind.{Kind}
use Rattle.pearl_program.specs.PlainExpressions.{PlainExpr, PlainVariable, PlainExprs, PlainArguments}
use Rattle.pearl_program.specs.PlainPrograms.{PlainProcedure}
use Rattle.pearl_meaning.specs.Setting.{Setting, variable_kind, sent_kind}
use Rattle.pearl_instructions.specs.declared.instr.Instr.{Instr}
use Rattle.pearl_instructions.specs.declared.instr.Instr.TheVariants as instr
use Rattle.pearl_gen_expr.specs.ExprCode.{writing_to, Is}
use Rattle.pearl_gen_expr.specs.Emitting.{Extends, EmitsExpr, EmitsAll, EmitsWay, EmitsCall}
use Rattle.pearl_gen_expr.proofs.Offered.{still_is, last_is, one_longer, extends_one}
use Rattle.pearl_gen_stmt.specs.StmtCode.{ConvertedAt, AssignAt, TakeAt, DroppedAt, CallOfAt, ReturnAt, PutAt, SendAt, Alone}
use Rattle.pearl_gen_stmt.specs.Emission.{pending, Stays, Adds}
use Rattle.pearl_gen_stmt.proofs.Keeping.{kept_expr, kept_all, kept_way, kept_call, writing_to_known}

pub stays_self : (code : List Instr) → Stays code code
stays_self code place instr is known = is

-- what stands still when more is emitted, and then all but pending jumps stays
pub stays_on : (one two final : List Instr) → Extends one two → Stays two final → Stays one final
stays_on one two final more stays place instr is known = stays place instr (still_is one two place instr more is) known

module _ (old new : List Instr) (instr : Instr) (last : new ≡ old ++ instr ∷ []) where
  pub stays_one : (final : List Instr) → Stays new final → Stays old final
  stays_one final stays = stays_on old new final (extends_one old new instr last) stays

  pub last_stays : (final : List Instr) → Stays new final → pending instr ≡ None → Is final (length old) instr
  last_stays final stays known = stays (length old) instr (last_is old new instr last) known

  -- one instruction by itself
  pub alone_adds : (setting : Setting) → pending instr ≡ None → Adds (λ code from to. Alone setting code from instr to) old new
  alone_adds setting known final stays = (last_stays final stays known, one_longer old new instr last)

module _ (setting : Setting) (old one two : List Instr) where
  pub converted_adds : (e : PlainExpr) (kind : Kind) → EmitsExpr setting.program e old one → two ≡ one ++ instr.Conv kind ∷ [] →
      Adds (λ code from to. ConvertedAt setting code from e (Some kind) to) old two
  converted_adds e kind is last final stays = (
    length one,
    kind,
    refl,
    kept_expr setting.program one final (stays_one one two (instr.Conv kind) last final stays) e (length old) (length one) is,
    last_stays one two (instr.Conv kind) last final stays refl,
    one_longer one two (instr.Conv kind) last,
  )

  pub assign_adds : (three : List Instr) (target : PlainVariable) (e : PlainExpr) (kind : Kind) (write : Instr) →
      variable_kind setting target ≡ Some kind → write ≡ writing_to target → EmitsWay setting.program target old one → Extends one two →
      Adds (λ code from to. ConvertedAt setting code from e (Some kind) to) one two → three ≡ two ++ write ∷ [] →
      Adds (λ code from to. AssignAt setting code from target e to) old three
  assign_adds three target e kind write kind_is same way kept value last final stays =
      let here = stays_one two three write last final stays in (
        length one,
        length two,
        kept_way setting.program one final (stays_on one two final kept here) target (length old) (length one) way,
        subst (λ kind. ConvertedAt setting final (length one) e kind (length two)) (sym kind_is) (value final here),
        subst (λ instr. Is final (length two) instr) same (last_stays two three write last final stays (ap pending same ∙ writing_to_known target)),
        one_longer two three write last,
      )

  pub take_adds : (three four : List Instr) (target : PlainVariable) (device : ℕ) (kind : Kind) (write : Instr) →
      variable_kind setting target ≡ Some kind → write ≡ writing_to target → EmitsWay setting.program target old one →
      two ≡ one ++ instr.Take device ∷ [] → three ≡ two ++ instr.Conv kind ∷ [] → four ≡ three ++ write ∷ [] →
      Adds (λ code from to. TakeAt setting code from target device to) old four
  take_adds three four target device kind write kind_is same way taken converted last final stays =
      let third = stays_one three four write last final stays in
      let second = stays_one two three (instr.Conv kind) converted final third in
      let first = stays_one one two (instr.Take device) taken final second in
      let long_2 = one_longer one two (instr.Take device) taken in
      let long_3 : length three ≡ length one + 2 = let l = one_longer two three (instr.Conv kind) converted in omega (arith, l, long_2) in (
        length one,
        kind,
        kind_is,
        kept_way setting.program one final first target (length old) (length one) way,
        last_stays one two (instr.Take device) taken final second refl,
        subst (λ place. Is final place (instr.Conv kind)) long_2 (last_stays two three (instr.Conv kind) converted final third refl),
        subst (λ place. Is final place (writing_to target)) long_3
            (subst (λ instr. Is final (length three) instr) same (last_stays three four write last final stays (ap pending same ∙ writing_to_known target))),
        (let l = one_longer three four write last in omega (arith, l, long_3)),
      )

  pub call_of_adds : (number : ℕ) (found : Option PlainProcedure) (procedure : PlainProcedure) (arguments : PlainArguments) → found ≡ Some procedure →
      EmitsCall setting.program number arguments old one → Extends one two → Adds (λ code from to. DroppedAt setting code from procedure.result to) one two →
      Adds (λ code from to. CallOfAt setting code from number found arguments to) old two
  call_of_adds number found procedure arguments there call kept dropped final stays =
      subst (λ found. CallOfAt setting final (length old) number found arguments (length two)) (sym there)
      (length one, kept_call setting.program one final (stays_on one two final kept stays) number arguments (length old) (length one) call, dropped final stays)

  pub return_adds : (e : PlainExpr) (kind : Kind) → setting.result ≡ Some kind → Adds (λ code from to. ConvertedAt setting code from e (Some kind) to) old one →
      two ≡ one ++ instr.Return ∷ [] → Adds (λ code from to. ReturnAt setting code from (Some e) to) old two
  return_adds e kind returns value last final stays = (
    length one,
    subst (λ kind. ConvertedAt setting final (length old) e kind (length one)) (sym returns) (value final (stays_one one two instr.Return last final stays)),
    alone_adds one two instr.Return last setting refl final stays,
  )

  pub put_adds : (es : PlainExprs) (device format : ℕ) → EmitsAll setting.program es old one → two ≡ one ++ instr.Put device format ∷ [] →
      Adds (λ code from to. PutAt setting code from es device format to) old two
  put_adds es device format are last final stays = (
    length one,
    kept_all setting.program one final (stays_one one two (instr.Put device format) last final stays) es (length old) (length one) are,
    alone_adds one two (instr.Put device format) last setting refl final stays,
  )

  pub send_adds : (e : PlainExpr) (device : ℕ) (kind : Kind) → sent_kind setting device ≡ Some kind →
      Adds (λ code from to. ConvertedAt setting code from e (Some kind) to) old one → two ≡ one ++ instr.Send device ∷ [] →
      Adds (λ code from to. SendAt setting code from e device to) old two
  send_adds e device kind kind_is value last final stays = (
    length one,
    subst (λ kind. ConvertedAt setting final (length old) e kind (length one)) (sym kind_is) (value final (stays_one one two (instr.Send device) last final stays)),
    alone_adds one two (instr.Send device) last setting refl final stays,
  )
