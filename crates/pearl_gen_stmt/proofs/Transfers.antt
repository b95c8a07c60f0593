-- Assignment, PUT, SEND, TAKE, RETURN with a value, and calls: their code does what they mean.
use Rattle.std.specs.Prelude.{◌≡◌, ℕ, ◌+◌, ◌≤◌, nat_le, true, List, [], ◌∷◌, ◌++◌, length, take, drop, reverse, Option, Some, None, option_to_list, slice_get}
use Rattle.std.proofs.Common.{refl, sym, subst, ap, ◌∙◌, arith, append_assoc}
use Rattle.std.proofs.lemmas.Bool.{le-leb}
use Rattle.std.proofs.lemmas.List.{length-append, length-reverse, reverse-reverse, reverse-append}
use Rattle.std.proofs.Math.Seq.{take-append_seam, drop-append_seam}
use Rattle.pearl_value.specs.declared.kind.Kind.{Kind}
use Rattle.pearl_value.specs.declared.cell.Cell.{Cell}
use Rattle.pearl_value.specs.declared.trap.Trap.TheVariants.{Format}
use Rattle.pearl_format.specs.Items.{data_count, FitsSome}
use Rattle.pearl_format.specs.Texts.{text_of}
use Rattle.pearl_format.proofs.Offered.{suits-length}
use Rattle.pearl_rules.specs.declared.action.Action.TheVariants as action
use Rattle.pearl_rules.specs.declared.action.Answer.{Answer}
use Rattle.pearl_rules.specs.Tables.{items_or_none}
use Rattle.pearl_stack.specs.Frames.{Frame}
use Rattle.pearl_program.specs.PlainExpressions.{PlainExpr, PlainVariable, PlainExprs, PlainArguments}
use Rattle.pearl_program.specs.PlainPrograms.{PlainProcedure}
use Rattle.pearl_program.specs.Typing.{Around, HasKind, IsVariable, Suit, HaveKinds}
use Rattle.pearl_program.specs.Weights.{calls, of_expr, of_exprs, of_variable, of_arguments}
use Rattle.pearl_instructions.specs.declared.instr.Instr.TheVariants as instr
use Rattle.pearl_instructions.specs.declared.object.Parts.{Parts as Object}
use Rattle.pearl_instructions.specs.Objects.{items_at, result_of}
use Rattle.pearl_instructions.specs.Steps.{Step, Offers, given, needed, taken}
use Rattle.pearl_instructions.specs.Offers.{value_kinds, items_suit, put_text}
use Rattle.pearl_meaning.specs.Frames.{Store}
use Rattle.pearl_meaning.specs.Evaluation.{Outcome, Value, Needs, Fails, Does, gives, on_value, bind, next, ask_value}
use Rattle.pearl_meaning.specs.Setting.{Setting, variable_kind, sent_kind, items_of, params_of}
use Rattle.pearl_meaning.specs.Variables.{write_reference}
use Rattle.pearl_meaning.specs.Values as values
use Rattle.pearl_meaning.specs.Values.{convert, eval, taken as take_variable, eval_all, hand_over}
use Rattle.pearl_meaning.specs.Loops.{Flow, Normal, Return}
use Rattle.pearl_meaning.specs.Schedules.{acts}
use Rattle.pearl_meaning.specs.Transfers.{puts_text, delivers, assigns, puts, sends, takes}
use Rattle.pearl_meaning.specs.Execution.{returns}
use Rattle.pearl_meaning.proofs.Offered.{Alike, after_same}
use Rattle.pearl_gen_expr.specs.Contexts.{stack, Context, at, IsStoreOf, pushed}
use Rattle.pearl_gen_expr.specs.Carrying.{End, Carries}
use Rattle.pearl_gen_expr.specs.ExprCode.{code_of, Is, ExprAt, WayAt, writing_to}
use Rattle.pearl_gen_expr.specs.Ends.{on_top, all_on_top, done, IsResult, result_on_top, ways}
use Rattle.pearl_gen_expr.specs.Laws.{CodeCarries}
use Rattle.pearl_gen_expr.proofs.Offered.{frame_at, RowMeets, bind_carries, instr_carries, same_carries, stops_meets}
use Rattle.pearl_gen_expr.proofs.Offered.{given_meets, needed_meets, asks_meets}
use Rattle.pearl_gen_stmt.specs.StmtCode.{ConvertedAt, AssignAt, TakeAt, DroppedAt, CallOfAt, ReturnAt, PutAt, SendAt}
use Rattle.pearl_gen_stmt.proofs.Single.{silent_carries, asked_meets, conv_carries}
use Rattle.pearl_gen_stmt.proofs.Flows.{normal_carries, acts_carries, return_value_carries}
use Rattle.pearl_gen_stmt.proofs.Counters.{converted_carries}

-- THE SAME, PUT TOGETHER OTHERWISE

nested : {X Y Z : Type 0} (first : Does X) (go : X → Does Y) (on : Y → Does Z) → Alike (bind (bind first go) on) (bind first (λ x. bind (go x) on))
nested first go on = record { same = λ store rest. on_each (first store rest) }
  where
    on_each : (m : Outcome _) → on_value (on_value m go) on ≡ on_value m (λ x. bind (go x) on)
    on_each (Value x store rest) = refl
    on_each (Needs action) = refl
    on_each (Fails trap) = refl

both : {X : Type 0} {one two three : Does X} → Alike one two → Alike two three → Alike one three
both a b = record { same = λ store rest. a.same store rest ∙ b.same store rest }

-- a variable is taken, a value is made and converted, and then it is written
delivered : (target : Does Cell) (value : Does Cell) (kind : Option Kind) →
    Alike (next (bind target (λ r. bind (bind value (λ x. convert kind x)) (λ y. write_reference r y))) (gives Normal))
    (bind target (λ r. bind value (λ x. bind (convert kind x) (λ y. next (write_reference r y) (gives Normal)))))
delivered target value kind =
    both (nested target (λ r. bind (bind value (λ x. convert kind x)) (λ y. write_reference r y)) (λ it. gives Normal))
    (after_same target (λ r.
    both (nested (bind value (λ x. convert kind x)) (λ y. write_reference r y) (λ it. gives Normal))
    (nested value (λ x. convert kind x) (λ y. next (write_reference r y) (gives Normal)))))

-- OPERANDS

pub pushed_is : (xs operands : List Cell) → pushed xs operands ≡ reverse xs ++ operands
pushed_is [] operands = refl
pushed_is (x ∷ xs) operands =
    let turned : reverse (x ∷ xs) ≡ reverse xs ++ (x ∷ []) = reverse-append (x ∷ []) xs in
    pushed_is xs (x ∷ operands) ∙ sym (append_assoc (reverse xs) (x ∷ []) operands) ∙ ap (λ front. front ++ operands) (sym turned)

-- what was pushed is taken off in the same order
pub taken_pushed : (n : ℕ) (xs operands : List Cell) (go : List Cell → List Cell → Step) → n ≡ length xs → taken n (pushed xs operands) go ≡ go xs operands
taken_pushed n xs operands go is =
    let long : n ≡ length (reverse xs) = is ∙ sym (length-reverse xs) in
    let all = length-append (reverse xs) operands in
    let enough : nat_le (length (reverse xs)) (length (reverse xs ++ operands)) ≡ true = le-leb (length (reverse xs)) (length (reverse xs ++ operands)) (omega (arith, all)) in
    ap (λ all. taken n all go) (pushed_is xs operands) ∙ ap (λ n. taken n (reverse xs ++ operands) go) long
    ∙ ap (λ test. needed test (go (reverse (take (length (reverse xs)) (reverse xs ++ operands))) (drop (length (reverse xs)) (reverse xs ++ operands)))) enough
    ∙ ap (λ front. go (reverse front) (drop (length (reverse xs)) (reverse xs ++ operands))) (take-append_seam (reverse xs) operands)
    ∙ ap (λ behind. go (reverse (reverse xs)) behind) (drop-append_seam (reverse xs) operands)
    ∙ ap (λ front. go front operands) (reverse-reverse xs)

module _ (o : Object) (c : Context) where
  pub alike_carries : {X : Type 0} (end : End X) (from : Store → List Frame) (does other : Does X) → Alike does other → Carries o c end from does → Carries o c end from other
  alike_carries end from does other alike carries = same_carries o c end from does other (λ store rest. alike.same store rest) carries

  take_carries : (place device : ℕ) (operands : List Cell) → Is (code_of o c.routine) place (instr.Take device) →
      Carries o c (on_top c (place + 1) operands) (at c place operands) (ask_value (action.Take device))
  take_carries place device operands is = instr_carries o c (on_top c (place + 1) operands) place operands (instr.Take device) (ask_value (action.Take device)) is
      (λ task cells more rest of. asks_meets o c place operands operands cells more task (action.Take device) rest of)

  put_meets : (to leave : ℕ) (returns : Option Kind) (device : ℕ) (place : ℕ) (operands : List Cell) (text : Option (List ℕ)) →
      to ≡ place + 1 → (task : ℕ) (cells : List Cell) (more : List (List Cell)) (rest : List Answer) → IsStoreOf o c (record { task = task; frames = cells ∷ more }) →
      let f = frame_at c place operands cells in let lower = stack c.callers more in
      RowMeets o c (ways c to leave returns) (f ∷ lower) (put_text device text f lower []) rest (puts_text device text (record { task = task; frames = cells ∷ more }) rest)
  put_meets to leave returns device place operands None is task cells more rest of =
      stops_meets o c (ways c to leave returns) (frame_at c place operands cells ∷ stack c.callers more) Format rest
  put_meets to leave returns device place operands (Some text) is task cells more rest of =
      let f = frame_at c place operands cells in let lower = stack c.callers more in let store : Store = record { task = task; frames = cells ∷ more } in
      subst (λ next. RowMeets o c (ways c to leave returns) (f ∷ lower) (Offers (action.Put device (record { items = text })) (λ answer. frame_at c next [] cells ∷ lower)) rest
      (acts (action.Put device (record { items = text })) store rest)) is
      (asked_meets o c (ways c to leave returns) (f ∷ lower) (action.Put device (record { items = text })) (λ answer. frame_at c to [] cells ∷ lower) store (λ answer. gives Normal) rest
      (λ answer left. (normal_carries o c to leave returns).over store left of))

  module _ (setting : Setting) (around : Around) (below : ℕ) (code : CodeCarries o c setting around below) (to leave : ℕ) where
    -- an expression has a kind, and calls what is known
    abbrev pub Fine : PlainExpr → Type 0
    Fine e = (kind : Kind) × HasKind around e kind × (of_expr calls e ≤ below)

    pub fine_carries : (e : PlainExpr) (from end : ℕ) (operands : List Cell) → Fine e → ExprAt setting.program (code_of o c.routine) from e end →
        Carries o c (on_top c end operands) (at c from operands) (eval setting e)
    fine_carries e from end operands fine stands = code.expr from end e fine.0 operands fine.1 fine.2 stands

    converted_code : (from end : ℕ) (e : PlainExpr) (kind : Option Kind) (operands : List Cell) → Fine e → ConvertedAt setting (code_of o c.routine) from e kind end →
        Carries o c (on_top c end operands) (at c from operands) (bind (eval setting e) (λ x. convert kind x))
    converted_code = converted_carries o c setting Fine fine_carries

    abbrev ending : End Flow
    ending = ways c to leave setting.result

    -- ASSIGNMENT AND TAKE

    written_carries : (from middle end : ℕ) (target : PlainVariable) (kind : Kind) (value : Does Cell) → IsVariable around target kind → of_variable calls target ≤ below →
        WayAt setting.program (code_of o c.routine) from target middle →
        ((operands : List Cell) → Carries o c (on_top c end operands) (at c middle operands) (bind value (λ x. convert (variable_kind setting target) x))) →
        Is (code_of o c.routine) end (writing_to target) → to ≡ end + 1 →
        Carries o c ending (at c from []) (bind (take_variable setting target) (λ r. bind value (λ x. delivers setting target r x)))
    written_carries from middle end target kind value is less way value_carries writes to_is =
        alike_carries ending (at c from []) (next (bind (take_variable setting target) (λ r. bind (bind value (λ x. convert (variable_kind setting target) x)) (λ y. write_reference r y))) (gives Normal))
        (bind (take_variable setting target) (λ r. bind value (λ x. delivers setting target r x)))
        (delivered (take_variable setting target) value (variable_kind setting target))
        (bind_carries o c (done c (end + 1) []) ending (at c from []) (bind (take_variable setting target) (λ r. bind (bind value (λ x. convert (variable_kind setting target) x)) (λ y. write_reference r y)))
        (λ it. gives Normal) (code.write from middle end target kind (bind value (λ x. convert (variable_kind setting target) x)) [] is less way value_carries writes)
        (λ it of. subst (λ place. Carries o c ending (at c place []) (gives Normal)) to_is (normal_carries o c to leave setting.result)))

    pub assign_carries : (from : ℕ) (target : PlainVariable) (kind : Kind) (e : PlainExpr) → IsVariable around target kind → of_variable calls target ≤ below → Fine e →
        AssignAt setting (code_of o c.routine) from target e to → Carries o c ending (at c from []) (assigns setting target e)
    assign_carries from target kind e is less fine stands =
        written_carries from stands.0 stands.1 target kind (eval setting e) is less stands.2
        (λ operands. converted_code stands.0 stands.1 e (variable_kind setting target) operands fine stands.3) stands.4 stands.5

    pub takes_carries : (from : ℕ) (target : PlainVariable) (kind : Kind) (device : ℕ) → IsVariable around target kind → of_variable calls target ≤ below →
        TakeAt setting (code_of o c.routine) from target device to → Carries o c ending (at c from []) (takes setting target device)
    takes_carries from target kind device is less stands =
        let value = stands.0 in
        let three : to ≡ value + 1 + 1 + 1 = let e = stands.7 in omega (arith, e) in
        let two : value + 2 ≡ value + 1 + 1 = omega arith in
        written_carries from value (value + 1 + 1) target kind (ask_value (action.Take device)) is less stands.3
        (λ operands. bind_carries o c (on_top c (value + 1) operands) (on_top c (value + 1 + 1) operands) (at c value operands) (ask_value (action.Take device))
        (λ x. convert (variable_kind setting target) x) (take_carries value device operands stands.4) (λ x of.
        conv_carries o c (value + 1) stands.1 (variable_kind setting target) x operands stands.2 stands.5))
        (subst (λ place. Is (code_of o c.routine) place (writing_to target)) two stands.6) three

    -- SEND AND RETURN

    pub sends_carries : (from : ℕ) (e : PlainExpr) (device : ℕ) → Fine e → SendAt setting (code_of o c.routine) from e device to →
        Carries o c ending (at c from []) (sends setting e device)
    sends_carries from e device fine stands =
        alike_carries ending (at c from []) (bind (bind (eval setting e) (λ x. convert (sent_kind setting device) x)) (λ y. acts (action.Send device y))) (sends setting e device)
        (nested (eval setting e) (λ x. convert (sent_kind setting device) x) (λ y. acts (action.Send device y)))
        (bind_carries o c (on_top c stands.0 []) ending (at c from []) (bind (eval setting e) (λ x. convert (sent_kind setting device) x)) (λ y. acts (action.Send device y))
        (converted_code from stands.0 e (sent_kind setting device) [] fine stands.1) (λ y of.
        acts_carries o c to leave setting.result stands.0 (y ∷ []) (instr.Send device) (action.Send device y) stands.2.0
        (λ cells low. ap (λ place. Offers (action.Send device y) (λ answer. frame_at c place [] cells ∷ low)) (sym stands.2.1))))

    pub returns_carries : (from : ℕ) (e : PlainExpr) (kind : Kind) → setting.result ≡ Some kind → result_of o c.routine ≡ setting.result → Fine e →
        ReturnAt setting (code_of o c.routine) from (Some e) to → Carries o c ending (at c from []) (returns setting (Some e))
    returns_carries from e kind some known fine stands =
        alike_carries ending (at c from []) (bind (bind (eval setting e) (λ x. convert setting.result x)) (λ y. gives (Return (Some y)))) (returns setting (Some e))
        (nested (eval setting e) (λ x. convert setting.result x) (λ y. gives (Return (Some y))))
        (bind_carries o c (on_top c stands.0 []) ending (at c from []) (bind (eval setting e) (λ x. convert setting.result x)) (λ y. gives (Return (Some y)))
        (converted_code from stands.0 e setting.result [] fine stands.1) (λ y of.
        return_value_carries o c to leave setting.result stands.0 kind y some known stands.2.0))

    -- CALLS

    drop_carries : (end : ℕ) (result : Option Kind) (y : Option Cell) → IsResult result y → DroppedAt setting (code_of o c.routine) end result to →
        Carries o c ending (at c end (option_to_list y ++ [])) (gives Normal)
    drop_carries end None None of stands = subst (λ place. Carries o c ending (at c place []) (gives Normal)) stands (normal_carries o c to leave setting.result)
    drop_carries end (Some kind) None of stands = absurd of
    drop_carries end None (Some x) of stands = absurd of
    drop_carries end (Some kind) (Some x) of stands =
        silent_carries o c ending end (end + 1) (x ∷ []) [] instr.Drop (gives Normal) stands.0 (λ cells low. refl)
        (subst (λ place. Carries o c ending (at c place []) (gives Normal)) stands.1 (normal_carries o c to leave setting.result))

    pub call_of_carries : (from number : ℕ) (found : Option PlainProcedure) (arguments : PlainArguments) → slice_get setting.program.procedures number ≡ found →
        ((procedure : PlainProcedure) → found ≡ Some procedure → Suit around (params_of procedure) arguments) → number + 1 ≤ below → of_arguments calls arguments ≤ below →
        CallOfAt setting (code_of o c.routine) from number found arguments to →
        Carries o c ending (at c from []) (next (values.calls setting number (λ params. hand_over setting params arguments)) (gives Normal))
    call_of_carries from number None handed found suit less few stands = absurd stands
    call_of_carries from number (Some procedure) handed found suit less few stands =
        bind_carries o c (result_on_top c stands.0 [] procedure.result) ending (at c from []) (values.calls setting number (λ params. hand_over setting params handed)) (λ it. gives Normal)
        (code.call from stands.0 number procedure handed [] found (suit procedure refl) less few stands.1)
        (λ y of. drop_carries stands.0 procedure.result y of stands.2)

    -- PUT

    pub puts_carries : (from : ℕ) (es : PlainExprs) (kinds : List Kind) (device format : ℕ) → HaveKinds around es kinds → of_exprs calls es ≤ below →
        FitsSome (slice_get setting.program.formats format) kinds → o.formats ≡ setting.program.formats →
        PutAt setting (code_of o c.routine) from es device format to → Carries o c ending (at c from []) (puts setting es device format)
    puts_carries from es kinds device format have less fits tables stands =
        let end = stands.0 in
        bind_carries o c (all_on_top c end (length kinds) []) ending (at c from []) (eval_all setting es) (λ xs. puts_text device (text_of (items_of setting format) xs))
        (code.all from end es kinds [] have less stands.1) (λ xs long.
        instr_carries o c ending end (pushed xs []) (instr.Put device format) (puts_text device (text_of (items_of setting format) xs)) stands.2.0 (λ task cells more rest of.
        let f = frame_at c end (pushed xs []) cells in let lower = stack c.callers more in let store : Store = record { task = task; frames = cells ∷ more } in
        given_meets o c ending (f ∷ lower) (items_at o format) (λ items. taken (data_count items) (pushed xs []) (λ values left.
        given (value_kinds values) (λ kinds. needed (items_suit items kinds) (put_text device (text_of items values) f lower left)))) rest
        (puts_text device (text_of (items_of setting format) xs) store rest) (λ items found.
        let there : slice_get setting.program.formats format ≡ Some items = ap (λ formats. slice_get formats format) (sym tables) ∙ found in
        let fit : FitsSome (Some items) kinds = subst (λ found. FitsSome found kinds) there fits in
        let count : data_count items ≡ length xs = sym (suits-length items kinds fit.suits) ∙ sym long in
        subst (λ step. RowMeets o c ending (f ∷ lower) step rest (puts_text device (text_of (items_of setting format) xs) store rest))
        (sym (taken_pushed (data_count items) xs [] (λ values left. given (value_kinds values) (λ kinds. needed (items_suit items kinds) (put_text device (text_of items values) f lower left))) count))
        (given_meets o c ending (f ∷ lower) (value_kinds xs) (λ kinds. needed (items_suit items kinds) (put_text device (text_of items xs) f lower [])) rest
        (puts_text device (text_of (items_of setting format) xs) store rest) (λ kinds known.
        needed_meets o c ending (f ∷ lower) (items_suit items kinds) (put_text device (text_of items xs) f lower []) rest (puts_text device (text_of (items_of setting format) xs) store rest) (λ suits.
        subst (λ known. RowMeets o c ending (f ∷ lower) (put_text device (text_of items xs) f lower []) rest (puts_text device (text_of (items_or_none known) xs) store rest)) (sym there)
        (put_meets to leave setting.result device end (pushed xs []) (text_of items xs) stands.2.1 task cells more rest of)))))))
