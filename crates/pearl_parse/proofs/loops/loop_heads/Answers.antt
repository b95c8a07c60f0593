-- That the heads of a loop are read up to REPEAT, or the least stop is told.
use Rattle.std.proofs.Common.{ℕ, ◌+◌, max, rules, refl, arith}
use Rattle.pearl_tree.specs.declared.word_code.TheConstants as w
use Rattle.pearl_parse_expr.specs.Stops.{is_word}
use Rattle.pearl_parse_expr.proofs.Offered.{reading_is}
use Rattle.pearl_grammar.proofs.Offered.{token_read, only}
use Rattle.pearl_parse.proofs.Along.{optional_missing, optional_stopped, lacking, token_missing}
use Rattle.pearl_parse.proofs.LoopHeads.{heads_begun, behind_for, behind_from, behind_by, behind_to, behind_while}
use Rattle.pearl_parse.proofs.loops.loop_heads.Goals as goal

pub returns-in_err-control : goal.returns-in_err-control
returns-in_err-control c =
    lacking c.in_err-control.field-0.0 c.from_residual.result c.from_residual.ensures
    (optional_missing (is_word w.FOR) c.in_err-control.field-0.0 (heads_begun c.args.tokens.now c.args.from c.requires
    (search rules)) c.in_err-control.ensures.reads (omega arith) (refl, (refl, (refl, (refl, (refl, tt))))) (omega arith)
    (omega arith) (omega arith))

pub returns-in_err-begin : goal.returns-in_err-begin
returns-in_err-begin c =
    let none = c.in_err-begin.ensures in
    let at = behind_for c.args.tokens.now c.args.from c.requires (search rules) c.in_ok-control.control
    c.in_ok-control.ensures.reads in
    lacking c.in_err-begin.field-0.0 c.from_residual-in_err-begin.result c.from_residual-in_err-begin.ensures
    (optional_stopped (is_word w.FROM) at (refl, (refl, (refl, (refl, tt)))) (omega arith) 8 c.in_err-begin.field-0.0
    none.refused none.least (omega (arith, at.level.near)) (omega arith))

pub returns-in_err-step : goal.returns-in_err-step
returns-in_err-step c =
    let none = c.in_err-step.ensures in
    let at = behind_from c.args.tokens.now c.args.from c.requires (search rules) c.in_ok-control.control
    c.in_ok-control.ensures.reads c.in_ok-begin.begin c.in_ok-begin.ensures in
    lacking c.in_err-step.field-0.0 c.from_residual-in_err-step.result c.from_residual-in_err-step.ensures
    (optional_stopped (is_word w.BY) at (refl, (refl, (refl, tt))) (omega arith) 8 c.in_err-step.field-0.0 none.refused
    none.least (omega (arith, at.level.near)) (omega arith))

pub returns-in_err-end : goal.returns-in_err-end
returns-in_err-end c =
    let none = c.in_err-end.ensures in
    let at = behind_by c.args.tokens.now c.args.from c.requires (search rules) c.in_ok-control.control
    c.in_ok-control.ensures.reads c.in_ok-begin.begin c.in_ok-begin.ensures c.in_ok-step.step c.in_ok-step.ensures in
    lacking c.in_err-end.field-0.0 c.from_residual-in_err-end.result c.from_residual-in_err-end.ensures
    (optional_stopped (is_word w.TO) at (refl, (refl, tt)) (omega arith) 8 c.in_err-end.field-0.0 none.refused none.least
    (omega (arith, at.level.near)) (omega arith))

pub returns-in_err-condition : goal.returns-in_err-condition
returns-in_err-condition c =
    let none = c.in_err-condition.ensures in
    let at = behind_to c.args.tokens.now c.args.from c.requires (search rules) c.in_ok-control.control
    c.in_ok-control.ensures.reads c.in_ok-begin.begin c.in_ok-begin.ensures c.in_ok-step.step c.in_ok-step.ensures
    c.in_ok-end.end c.in_ok-end.ensures in
    lacking c.in_err-condition.field-0.0 c.from_residual-in_err-condition.result c.from_residual-in_err-condition.ensures
    (optional_stopped (is_word w.WHILE) at (refl, tt) (omega arith) 8 c.in_err-condition.field-0.0 none.refused none.least
    (omega (arith, at.level.near)) (omega arith))

pub returns-in_err-word : goal.returns-in_err-word
returns-in_err-word c =
    token_missing c.in_err-word.field-0.0 c.from_residual-in_err-word.result c.from_residual-in_err-word.ensures
    (is_word w.REPEAT) (behind_while c.args.tokens.now c.args.from c.requires (search rules) c.in_ok-control.control
    c.in_ok-control.ensures.reads c.in_ok-begin.begin c.in_ok-begin.ensures c.in_ok-step.step c.in_ok-step.ensures
    c.in_ok-end.end c.in_ok-end.ensures c.in_ok-condition.condition c.in_ok-condition.ensures)
    c.in_err-word.ensures.missing (refl, tt) (omega arith) (omega arith)

pub returns : goal.returns
returns c =
    let condition = c.in_ok-condition.condition in
    let word = c.in_ok-word.ensures in
    let at = behind_while c.args.tokens.now c.args.from c.requires (search rules) c.in_ok-control.control
    c.in_ok-control.ensures.reads c.in_ok-begin.begin c.in_ok-begin.ensures c.in_ok-step.step c.in_ok-step.ensures
    c.in_ok-end.end c.in_ok-end.ensures condition c.in_ok-condition.ensures in
    let to : ℕ = condition.end + 1 in
    rw (reading_is c.map.result (record {
      control = c.in_ok-control.control.part;
      begin = c.in_ok-begin.begin.part;
      step = c.in_ok-step.step.part;
      end = c.in_ok-end.end.part;
      condition = condition.part;
    }) to (max condition.stop to) (search rules) (search rules) (search rules))
    (only _ (token_read at refl word.stands word.within) refl (omega (arith, at.level.near)) (search rules))
