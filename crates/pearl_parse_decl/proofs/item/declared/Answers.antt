-- What `declared` answers: no names, or behind them a semaphore or a variable that is read, or isn't.
use Rattle.std.proofs.Common.{rules, Err, sym, arith}
use Rattle.pearl_tree.specs.Declarations.{SpellsItem}
use Rattle.pearl_parse_expr.specs.Reads.{Reads}
use Rattle.pearl_parse_expr.proofs.Offered.{residual}
use Rattle.pearl_grammar.proofs.Offered.{item_start, mark_read, part_missing, lacks_first, none_longest}
use Rattle.pearl_parse_decl.specs.Readings.{extends_item}
use Rattle.pearl_parse_decl.proofs.Behind.{none_read}
use Rattle.pearl_parse_decl.proofs.DeclaredKinds.{declared_halts, item_kind, kind_read, kind_unread, sema_kind}
use Rattle.pearl_parse_decl.proofs.item.declared.Goals as goal

pub returns-in-Ok : goal.returns-in-Ok
returns-in-Ok c =
    let read = c.in-Ok in
    kind_read
    (sema_kind c.args.tokens.now c.args.from c.in_ok-names.names c.in_ok-names.ensures (sym c.if-is_word.ensures.value))
    read.sema read.ensures.far read.ensures.reads

pub returns-in-Err : goal.returns-in-Err
returns-in-Err c =
    let none = c.in-Err in
    kind_unread
    (sema_kind c.args.tokens.now c.args.from c.in_ok-names.names c.in_ok-names.ensures (sym c.if-is_word.ensures.value))
    none.halt none.ensures.past none.ensures.reads

pub returns-in-Ok-item_behind : goal.returns-in-Ok-item_behind
returns-in-Ok-item_behind c =
    let read = c.in-Ok-item_behind in
    kind_read
    (item_kind c.args.tokens.now c.args.from c.in_ok-names.names c.in_ok-names.ensures (sym c.if-is_word.ensures.value))
    read.item read.ensures.far read.ensures.reads

pub returns-in-Err-item_behind : goal.returns-in-Err-item_behind
returns-in-Err-item_behind c =
    let none = c.in-Err-item_behind in
    kind_unread
    (item_kind c.args.tokens.now c.args.from c.in_ok-names.names c.in_ok-names.ensures (sym c.if-is_word.ensures.value))
    none.halt none.ensures.past none.ensures.reads

pub returns-in_err-names : goal.returns-in_err-names
returns-in_err-names c =
    rw (residual c.in_err-names.field-0.0 c.from_residual.result c.from_residual.ensures)
    (let names = c.in_err-names.ensures in
    let none : Reads 16 SpellsItem extends_item c.args.tokens.now c.args.from (Err c.in_err-names.field-0.0) =
    none_longest _ (part_missing (mark_read (item_start c.args.tokens.now c.args.from c.requires (search rules)))
    (lacks_first c.in_err-names.field-0.0 names.refused names.least (omega arith)) (omega arith) (omega arith)) in
    none_read (search rules)
    (declared_halts c.args.tokens.now c.args.from c.in_err-names.field-0.0 none.refused none.least))
