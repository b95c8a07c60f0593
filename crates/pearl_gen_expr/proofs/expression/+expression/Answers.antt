use Rattle.std.proofs.Common.{◌≡◌, ◌++◌, [], ◌∷◌, map, sym, subst, ap, ◌∙◌, arith}
use Rattle.std.specs.Vec.{vec_len}
use Rattle.pearl_value.specs.declared.kind.CellKind.TheVariants.{Plain, RefTo}
use Rattle.pearl_program.specs.PlainExpressions.{plain_expr, plain_exprs, plain_argument, plain_arguments, plain_variable}
use Rattle.pearl_program.specs.PlainPrograms.{plain_prog}
use Rattle.pearl_program.specs.declared.expression.Variable.{Variable}
use Rattle.pearl_program.specs.declared.expression.Call.{Call}
use Rattle.pearl_instructions.specs.declared.instr.Instr.TheVariants as instr
use Rattle.pearl_gen_expr.specs.Emitting.{EmitsExpr, EmitsAll, EmitsRead, EmitsCall, EmitsArguments, EmitsArgument}
use Rattle.pearl_gen_expr.specs.ExprCode.{bounds_of}
use Rattle.pearl_gen_expr.proofs.Emitted.{now_emits, try_emits, monadic_emits, dyadic_emits, read_emits, element_emits, index_emits, call_emits, conv_emits, some_are, extends_more}
use Rattle.pearl_gen_expr.proofs.Nodes.{read_plain, call_plain, ident_plain, all_more, all_done, arguments_more, arguments_done}
use Rattle.pearl_gen_expr.proofs.expression.«+expression».Goals as goal

pub emit_expr-returns-in_ok-emit_const-in-Literal-clause-added : goal.emit_expr-returns-in_ok-emit_const-in-Literal-clause-added
emit_expr-returns-in_ok-emit_const-in-Literal-clause-added t c =
    let p = plain_prog c.args.program.now in
    subst (λ e. EmitsExpr p (plain_expr e) c.args.code.now.items c.emit_const.new.code.items) (sym c.in-Literal.is) (c.in_ok-emit_const-in-Literal.ensures.added p)

pub emit_expr-returns-in_ok-emit_read-in-Read-clause-added : goal.emit_expr-returns-in_ok-emit_read-in-Read-clause-added
emit_expr-returns-in_ok-emit_read-in-Read-clause-added t c =
    let p = plain_prog c.args.program.now in
    let old = c.args.code.now.items in let new = c.emit_read.new.code.items in
    subst (λ e. EmitsExpr p (plain_expr e) old new) (sym c.in-Read.is) (subst (λ e. EmitsExpr p e old new) (sym (read_plain c.in-Read.variable))
    (subst (λ (v : Variable). EmitsRead p (plain_variable v) old new) c.deref.ensures c.in_ok-emit_read-in-Read.ensures.added))

pub emit_expr-returns-in_ok-emit-in-Monadic-clause-added : goal.emit_expr-returns-in_ok-emit-in-Monadic-clause-added
emit_expr-returns-in_ok-emit-in-Monadic-clause-added t c =
    let p = plain_prog c.args.program.now in
    let old = c.args.code.now.items in let one = c.emit_expr.new.code.items in let two = c.emit.new.code.items in
    subst (λ e. EmitsExpr p (plain_expr e) old two) (sym c.in-Monadic.is) (monadic_emits p old one two c.in-Monadic.op (plain_expr c.in-Monadic.operand.value)
    (subst (λ e. EmitsExpr p (plain_expr e) old one) c.deref-in-Monadic.ensures c.in_ok-emit_expr-in-Monadic.ensures.added) c.in_ok-emit-in-Monadic.ensures.added)

pub emit_expr-returns-in_ok-emit-in-Dyadic-clause-added : goal.emit_expr-returns-in_ok-emit-in-Dyadic-clause-added
emit_expr-returns-in_ok-emit-in-Dyadic-clause-added t c =
    let p = plain_prog c.args.program.now in
    let old = c.args.code.now.items in let one = c.emit_expr-in-Dyadic.new.code.items in let two = c.emit_expr-in-Dyadic-2.new.code.items in
    let three = c.emit-in-Dyadic.new.code.items in
    subst (λ e. EmitsExpr p (plain_expr e) old three) (sym c.in-Dyadic.is)
    (dyadic_emits p old one two three c.in-Dyadic.op (plain_expr c.in-Dyadic.left.value) (plain_expr c.in-Dyadic.right.value)
    (subst (λ e. EmitsExpr p (plain_expr e) old one) c.deref-in-Dyadic.ensures c.in_ok-emit_expr-in-Dyadic.ensures.added) c.in_ok-emit_expr-in-Dyadic-2.ensures.kept
    (subst (λ e. EmitsExpr p (plain_expr e) one two) c.deref-in-Dyadic-2.ensures c.in_ok-emit_expr-in-Dyadic-2.ensures.added) c.in_ok-emit-in-Dyadic.ensures.added)

pub emit_expr-returns-in_ok-emit_call-in-Call-clause-added : goal.emit_expr-returns-in_ok-emit_call-in-Call-clause-added
emit_expr-returns-in_ok-emit_call-in-Call-clause-added t c =
    let p = plain_prog c.args.program.now in
    let old = c.args.code.now.items in let new = c.emit_call.new.code.items in
    subst (λ e. EmitsExpr p (plain_expr e) old new) (sym c.in-Call.is) (subst (λ e. EmitsExpr p e old new) (sym (call_plain c.in-Call.call))
    (subst (λ (call : Call). EmitsCall p call.procedure (plain_arguments call.arguments.items) old new) c.deref-in-Call.ensures c.in_ok-emit_call-in-Call.ensures.added))

pub emit_expr-returns-in_ok-emit-in-Now-clause-added : goal.emit_expr-returns-in_ok-emit-in-Now-clause-added
emit_expr-returns-in_ok-emit-in-Now-clause-added t c =
    let p = plain_prog c.args.program.now in
    let old = c.args.code.now.items in let new = c.emit-in-Now.new.code.items in
    subst (λ e. EmitsExpr p (plain_expr e) old new) (sym c.in-Now.is) (now_emits p old new new c.in_ok-emit-in-Now.ensures.added)

pub emit_expr-returns-in_ok-emit-in-Try-clause-added : goal.emit_expr-returns-in_ok-emit-in-Try-clause-added
emit_expr-returns-in_ok-emit-in-Try-clause-added t c =
    let p = plain_prog c.args.program.now in
    let old = c.args.code.now.items in let new = c.emit-in-Try.new.code.items in
    subst (λ e. EmitsExpr p (plain_expr e) old new) (sym c.in-Try.is) (try_emits p old new new c.in-Try.semaphore
    (subst (λ n. new ≡ old ++ instr.Try n ∷ []) c.from.ensures c.in_ok-emit-in-Try.ensures.added))

pub emit_offset-returns-clause-added : goal.emit_offset-returns-clause-added
emit_offset-returns-clause-added t c =
    let p = plain_prog c.args.program.now in let v = c.args.variable.now in
    let old = c.args.code.now.items in let one = c.emit_all.new.code.items in
    index_emits p old one c.emit.new.code.items v.target v.bounds.items (plain_exprs v.subscripts.items) c.in_ok-bounds.bounds
    (subst (λ xs. EmitsAll p (plain_exprs xs) old one) c.as_slice.ensures.value c.in_ok-emit_all.ensures.added)
    (c.in_ok-bounds.ensures ∙ (c.new-list.ensures ∙ (c.in_ok-index_bounds.ensures ∙ ap (map bounds_of) c.as_slice-2.ensures.value)))
    c.in_ok-emit.ensures.added (some_are (vec_len v.bounds) v.bounds.items c.if-is_empty.ensures (omega (arith, v.bounds.ok.0)))

pub emit_read-returns-clause-added : goal.emit_read-returns-clause-added
emit_read-returns-clause-added t c =
    let p = plain_prog c.args.program.now in let v = c.args.variable.now in
    read_emits p c.args.code.now.items c.emit_way.new.code.items c.emit.new.code.items v.target v.bounds.items (plain_exprs v.subscripts.items) c.in_ok-instr.instr
    c.in_ok-emit_way.ensures.added c.in_ok-emit.ensures.added c.in_ok-instr.ensures

pub emit_element-returns-clause-added : goal.emit_element-returns-clause-added
emit_element-returns-clause-added t c =
    let p = plain_prog c.args.program.now in let v = c.args.variable.now in
    element_emits p c.args.code.now.items c.emit_offset.new.code.items c.emit.new.code.items v.target v.bounds.items (plain_exprs v.subscripts.items) c.in_ok-instr.instr
    c.in_ok-emit_offset.ensures.added c.in_ok-emit.ensures.added c.in_ok-instr.ensures

pub emit_call-returns-clause-added : goal.emit_call-returns-clause-added
emit_call-returns-clause-added t c =
    let p = plain_prog c.args.program.now in
    let old = c.args.code.now.items in let one = c.emit_arguments.new.code.items in let two = c.emit.new.code.items in
    let has = c.in_ok-params.ensures in let number = c.args.call.now.procedure in
    call_emits p old one two number has.0 (plain_arguments c.args.call.now.arguments.items) has.1
    (subst (λ params. EmitsArguments p params (plain_arguments c.args.call.now.arguments.items) old one) (sym has.2)
    (subst (λ xs. EmitsArguments p c.in_ok-params.params.now (plain_arguments xs) old one) c.as_slice.ensures.value c.in_ok-emit_arguments.ensures.added))
    (subst (λ n. two ≡ one ++ instr.Call n ∷ []) c.from.ensures c.in_ok-emit.ensures.added)

pub emit_all-loop-expr-preserved : goal.emit_all-loop-expr-preserved
emit_all-loop-expr-preserved t c =
    let p = plain_prog c.args.program.now in
    let old = c.args.code.now.items in let now = c.loop-expr.code.items in let next = c.emit_expr.new.code.items in (
      extends_more old now next c.loop-expr.invariant.0 c.in_ok-emit_expr.ensures.kept,
      all_more p old now next c.args.exprs.now c.loop-expr.expr-index c.expr-item.result c.loop-expr-test.true c.expr-item.is c.loop-expr.invariant.1
          c.in_ok-emit_expr.ensures.kept c.in_ok-emit_expr.ensures.added,
    )

pub emit_arguments-loop-index-preserved : goal.emit_arguments-loop-index-preserved
emit_arguments-loop-index-preserved t c =
    let p = plain_prog c.args.program.now in let same = c.if-params-arguments.false in
    let old = c.args.code.now.items in let now = c.loop-index.code.items in let next = c.emit_argument.new.code.items in (
      extends_more old now next c.loop-index.invariant.0 c.in_ok-emit_argument.ensures.kept,
      arguments_more p old now next c.args.params.now c.args.arguments.now c.loop-index.index _ c.index-arguments-index.result same c.loop-index-test.true
          c.index-arguments-index.is c.loop-index.invariant.1 c.in_ok-emit_argument.ensures.kept c.in_ok-emit_argument.ensures.added,
    )

pub emit_all-returns-clause-added : goal.emit_all-returns-clause-added
emit_all-returns-clause-added t c =
    all_done (plain_prog c.args.program.now) c.args.code.now.items c.loop-expr.code.items c.args.exprs.now c.loop-expr.expr-index c.loop-expr-test.false c.loop-expr.invariant.1

pub emit_arguments-returns-clause-added : goal.emit_arguments-returns-clause-added
emit_arguments-returns-clause-added t c =
    arguments_done (plain_prog c.args.program.now) c.args.code.now.items c.loop-index.code.items c.args.params.now c.args.arguments.now c.loop-index.index
    c.if-params-arguments.false c.loop-index-test.false c.loop-index.invariant.1

pub emit_argument-returns-in_ok-emit-in-Value-Plain-clause-added : goal.emit_argument-returns-in_ok-emit-in-Value-Plain-clause-added
emit_argument-returns-in_ok-emit-in-Value-Plain-clause-added t c =
    let p = plain_prog c.args.program.now in
    let old = c.args.code.now.items in let one = c.emit_expr.new.code.items in let two = c.emit.new.code.items in
    subst (λ param. EmitsArgument p param (plain_argument c.args.argument.now) old two) (sym c.in-Value-Plain.is-1)
    (subst (λ a. EmitsArgument p (Plain c.in-Value-Plain.kind) (plain_argument a) old two) (sym c.in-Value-Plain.is-0)
    (conv_emits p old one two c.in-Value-Plain.kind (plain_expr c.in-Value-Plain.expr) c.in_ok-emit_expr-in-Value-Plain.ensures.added c.in_ok-emit-in-Value-Plain.ensures.added))

pub emit_argument-returns-in_ok-emit_reference-in-Ident-RefTo-clause-added : goal.emit_argument-returns-in_ok-emit_reference-in-Ident-RefTo-clause-added
emit_argument-returns-in_ok-emit_reference-in-Ident-RefTo-clause-added t c =
    let p = plain_prog c.args.program.now in
    let old = c.args.code.now.items in let new = c.emit_reference.new.code.items in
    subst (λ param. EmitsArgument p param (plain_argument c.args.argument.now) old new) (sym c.in-Ident-RefTo.is-1)
    (subst (λ a. EmitsArgument p (RefTo c.in-Ident-RefTo.field-0-1) (plain_argument a) old new) (sym c.in-Ident-RefTo.is-0)
    (subst (λ a. EmitsArgument p (RefTo c.in-Ident-RefTo.field-0-1) a old new) (sym (ident_plain c.in-Ident-RefTo.variable))
    c.in_ok-emit_reference-in-Ident-RefTo.ensures.added))
