-- That each reader of statements reads what it names, or tells the least stop: lists of statements and of branches, IF,
-- CASE, loops, BEGIN and bodies, which read one another.
use Rattle.std.proofs.Common.{◌+◌, ◌-◌, ◌<◌, ◌≤◌, ◌^◌, length, refl, sym, ap, subst, ◌∙◌, rules, arith}
use Rattle.pearl_tree.specs.Standing.{SpellsEach, SpellsSome, SpellsMaybe}
use Rattle.pearl_tree.specs.Statements.{SpellsAfter, SpellsBranch, SpellsBodyDecl}
use Rattle.pearl_tree.specs.declared.word_code.TheConstants as w
use Rattle.pearl_parse_expr.specs.Stops.{is_word}
use Rattle.pearl_parse_expr.proofs.Offered.{listed}
use Rattle.pearl_parse.specs.Stops.{begins_statement}
use Rattle.pearl_parse.specs.Bodies.{SpellsStatements, SpellsHeaded, SpellsOptionalHeaded, SpellsBlock, SpellsCondition}
use Rattle.pearl_parse.specs.Bodies.{SpellsHeads, SpellsInner}
use Rattle.pearl_parse.proofs.Steps.{no_first, no_part, itself, optional_is_none, optional_is_longest, only_is_longest}
use Rattle.pearl_parse.proofs.ByFirst.{stmt_begins}
use Rattle.pearl_parse.proofs.StatementRests.{Spelled}
use Rattle.pearl_parse.proofs.EachReads.{EachRead, each_none, each_more, each_ended}
use Rattle.pearl_parse.proofs.EachReads.{ChoicesRead, choices_none, choices_more}
use Rattle.pearl_parse.proofs.Choices.{some_of, choices_end, no_choice}
use Rattle.pearl_parse.proofs.Blocks.{block_is_longest, no_block}
use Rattle.pearl_parse.proofs.NestedRests.{then_rest, choices_rest, block_rest, if_goes, case_goes, repeat_goes}
use Rattle.pearl_parse.proofs.NestedRests.{if_spelled, case_spelled, begin_spelled, repeat_spelled}
use Rattle.pearl_parse.proofs.NestedRests.{no_if, no_case, no_begin, no_repeat, no_statement, out_of_memory_behind}
use Rattle.pearl_parse.proofs.NestedLeast.{stmt_kept, branch_read, maybe_branch_read, no_choice_least}
use Rattle.pearl_parse.proofs.NestedLeast.{choices_read}
use Rattle.pearl_parse.proofs.NestedLeast.{no_inner, inner_read, some_statement, no_memory, if_halts, case_halts}
use Rattle.pearl_parse.proofs.NestedLeast.{repeat_halts}
use Rattle.pearl_parse.proofs.NestedReads.{past_if, past_thens, past_branch, past_case, past_alternatives, past_loop}
use Rattle.pearl_parse.proofs.NestedReads.{begun}
use Rattle.pearl_parse.proofs.NestedReads.{past_body, no_alternatives, no_body, not_closed, one_end, goes_so_far}
use Rattle.pearl_parse.proofs.States.{told_none}
use Rattle.pearl_parse.proofs.Unread.{none_read, unread, no_memory_read, unread_behind, no_memory_behind}
use Rattle.pearl_parse.proofs.statement.+statement.Goals as goal

pub statements-each-init : goal.statements-each-init
statements-each-init t c =
    let tokens = c.args.tokens.now in
    let depth = c.args.depth in
    let from = c.args.from in
    let low = c.args.least_stop in
    listed (EachRead (Spelled depth) begins_statement tokens from low) c.none-list.ensures
    (each_none (Spelled depth) begins_statement tokens from low c.requires.0 c.requires.1)

pub statements-each-preserved : goal.statements-each-preserved
statements-each-preserved t c =
    let tokens = c.args.tokens.now in
    let depth = c.args.depth in
    let from = c.args.from in
    let low = c.args.least_stop in
    let list = c.each.list in
    listed (EachRead (Spelled depth) begins_statement tokens from low) c.in_ok-add-in-Ok.ensures.added
    (each_more (Spelled depth) begins_statement tokens from low (stmt_kept depth)
    (λ tokens from x to h. stmt_begins tokens depth from x to h) list.part.items list.end list.stop c.each.invariant
    c.in-Ok.next c.in-Ok.ensures)

pub statements-returns-in-Err-clause-reads : goal.statements-returns-in-Err-clause-reads
statements-returns-in-Err-clause-reads t c =
    let depth = c.args.depth in
    rw c.ended.ensures.value (each_ended (Spelled depth) begins_statement c.args.tokens.now c.args.from
    c.args.least_stop (stmt_kept depth) c.each.list c.each.invariant c.in-Err.halt c.in-Err.ensures)

pub branch-returns-in-Ok-clause-reads : goal.branch-returns-in-Ok-clause-reads
branch-returns-in-Ok-clause-reads t c =
    let tokens = c.args.tokens.now in
    let depth = c.args.depth in
    let few : length tokens < 2 ^ 55 = search rules in
    let statements = c.in-Ok.statements in
    let read = c.in-Ok.ensures.reads in
    record {
      spells = (
        c.place_at.ensures,
        c.requires.word,
        subst (λ xs. SpellsStatements depth tokens (c.args.from + 1) xs statements.end) (sym c.new.ensures) read.spells,
      );
      longest = λ others agree xs to h. read.longest others agree xs to h.1;
      bounds = search rules;
      refused = tt;
      least = branch_read tokens depth c.args.word c.args.from c.args.least_stop c.requires.within few c.requires.word
          c.max.result c.max.ensures statements.part.items statements.end statements.stop read.spells
          (omega (arith, read.bounds)) (omega (arith, read.bounds)) (omega (arith, read.bounds)) read.least;
    }

pub branch-returns-in-Err-clause-reads : goal.branch-returns-in-Err-clause-reads
branch-returns-in-Err-clause-reads t c = no_memory_behind c.in-Err.halt c.in-Err.ensures.memory

pub maybe_branch-returns-then-not-is_word-clause-reads : goal.maybe_branch-returns-then-not-is_word-clause-reads
maybe_branch-returns-then-not-is_word-clause-reads t c =
    let tokens = c.args.tokens.now in
    let depth = c.args.depth in
    let from = c.args.from in
    let word = c.args.word in
    let low = c.args.least_stop in
    record {
      spells = search rules;
      longest = only_is_longest (SpellsOptionalHeaded depth word) begins_statement tokens from from low
          (optional_is_none (is_word word) (SpellsHeaded depth word) tokens from low
          (sym c.if-not-is_word.ensures.value)
          (omega (arith, c.requires)) (λ others x to h. ap (is_word word) h.0 ∙ itself word));
      bounds = search rules;
      refused = tt;
      least = told_none 24 (λ tokens. SpellsMaybe (SpellsBranch tokens depth word)) tokens from low low
          (omega (arith, c.requires));
    }

pub maybe_branch-returns-in_Ok-branch-clause-reads : goal.maybe_branch-returns-in_Ok-branch-clause-reads
maybe_branch-returns-in_Ok-branch-clause-reads t c =
    let tokens = c.args.tokens.now in
    let depth = c.args.depth in
    let from = c.args.from in
    let word = c.args.word in
    let branch = c.in_Ok-branch.branch in
    let read = c.in_Ok-branch.ensures.reads in
    record {
      spells = search rules;
      longest = optional_is_longest (is_word word) (SpellsHeaded depth word) tokens from begins_statement branch.end
          branch.stop (sym c.if-not-is_word.ensures.value) (omega (arith, read.bounds)) read.longest;
      bounds = search rules;
      refused = tt;
      least = maybe_branch_read tokens depth word from c.args.least_stop branch.end branch.stop
          (omega (arith, read.bounds))
          read.least;
    }

pub maybe_branch-returns-in_Err-branch-clause-reads : goal.maybe_branch-returns-in_Err-branch-clause-reads
maybe_branch-returns-in_Err-branch-clause-reads t c = no_memory_behind c.in_Err-branch.halt
    c.in_Err-branch.ensures.memory

pub alternatives-returns-then-not-is_word : goal.alternatives-returns-then-not-is_word
alternatives-returns-then-not-is_word t c =
    let tokens = c.args.tokens.now in
    let few : length tokens < 2 ^ 55 = search rules in
    record {
      spells = tt;
      longest = tt;
      bounds = tt;
      refused = no_choice tokens c.args.depth c.args.from c.args.least_stop c.requires.0 c.requires.1
          (sym c.if-not-is_word.ensures.value);
      least = no_choice_least tokens c.args.depth c.args.from (omega (arith, c.requires)) few c.args.least_stop
          c.requires.0;
    }

pub alternatives-each-init : goal.alternatives-each-init
alternatives-each-init t c =
    let tokens = c.args.tokens.now in
    let depth = c.args.depth in
    let from = c.args.from in
    let low = c.args.least_stop in
    listed (ChoicesRead tokens depth from low) c.none-list.ensures
    (choices_none tokens depth from low c.requires.0 c.requires.1)

pub alternatives-each-preserved : goal.alternatives-each-preserved
alternatives-each-preserved t c =
    let tokens = c.args.tokens.now in
    let depth = c.args.depth in
    let from = c.args.from in
    let low = c.args.least_stop in
    let list = c.each.list in
    listed (ChoicesRead tokens depth from low) c.in_ok-add-in_Ok-next.ensures.added
    (choices_more tokens depth from low list.part.items list.end list.stop c.each.invariant
    (c.each-test.ensures.stands refl) c.in_Ok-next.next c.in_Ok-next.ensures.reads)

pub alternatives-returns-in_Err-next : goal.alternatives-returns-in_Err-next
alternatives-returns-in_Err-next t c = no_memory_behind c.in_Err-next.halt c.in_Err-next.ensures.memory

pub alternatives-returns : goal.alternatives-returns
alternatives-returns t c =
    let tokens = c.args.tokens.now in
    let depth = c.args.depth in
    let from = c.args.from in
    let few : length tokens < 2 ^ 55 = search rules in
    let list = c.each.list in
    let kept = c.each.invariant in
    let other = sym c.each-test.ensures.value in
    record {
      spells = some_of tokens depth from list.part.items list.end (c.if-not-is_word.ensures.stands refl) other
          kept.spells;
      longest = choices_end tokens depth from list.end list.stop kept.goes (omega (arith, kept.bounds)) other;
      bounds = kept.bounds;
      refused = tt;
      least = choices_read tokens depth from (omega (arith, c.requires)) few c.args.least_stop list.end list.stop
          (omega (arith, kept.bounds)) kept.least;
    }

pub if_-returns-then-depth-eq0 : goal.if_-returns-then-depth-eq0
if_-returns-then-depth-eq0 t c =
    let tokens = c.args.tokens.now in
    let depth = c.args.depth in
    let from = c.args.from in
    let few : length tokens < 2 ^ 55 = search rules in
    let inside : from ≤ length tokens = omega (arith, c.requires.within) in
    none_read 24 (Spelled depth) tokens from _ (no_if tokens depth from c.if-depth-eq0.true inside c.requires.word)
    (some_statement tokens depth from inside few)

pub if_-returns-in_err-condition : goal.if_-returns-in_err-condition
if_-returns-in_err-condition t c =
    let tokens = c.args.tokens.now in
    let depth = c.args.depth in
    let from = c.args.from in
    let few : length tokens < 2 ^ 55 = search rules in
    let deep : 0 < depth = omega (arith, c.if-depth-eq0.false) in
    let inside : from < length tokens = omega (arith, c.requires.within) in
    let halt = c.in_err-condition.field-0.0 in
    unread 24 (Spelled depth) tokens from _ halt c.from_residual.result c.from_residual.ensures (λ e is. is)
    (no_first (Spelled depth) tokens from SpellsCondition (then_rest (depth - 1)) from from halt
    (if_goes tokens depth from c.requires.word) (omega arith) (omega arith) c.in_err-condition.ensures.refused)
    (if_halts tokens depth from inside few deep halt c.in_err-condition.ensures.refused
    c.in_err-condition.ensures.least)

pub if_-returns-in_err-statements : goal.if_-returns-in_err-statements
if_-returns-in_err-statements t c =
    no_memory_read 24 (Spelled c.args.depth) c.args.tokens.now c.args.from _ c.in_err-statements.field-0.0
    c.from_residual-in_err-statements.result c.from_residual-in_err-statements.ensures (λ e is. is)
    c.in_err-statements.ensures.memory

pub if_-returns-in_err-otherwise : goal.if_-returns-in_err-otherwise
if_-returns-in_err-otherwise t c =
    no_memory_read 24 (Spelled c.args.depth) c.args.tokens.now c.args.from _ c.in_err-otherwise.field-0.0
    c.from_residual-in_err-otherwise.result c.from_residual-in_err-otherwise.ensures (λ e is. is)
    c.in_err-otherwise.ensures.memory

pub if_-returns-in_err-closing : goal.if_-returns-in_err-closing
if_-returns-in_err-closing t c =
    let tokens = c.args.tokens.now in
    let depth = c.args.depth in
    let from = c.args.from in
    let few : length tokens < 2 ^ 55 = search rules in
    let deep : 0 < depth = omega (arith, c.if-depth-eq0.false) in
    let inside : from < length tokens = omega (arith, c.requires.within) in
    let condition = c.in_ok-condition.condition in
    let statements = c.in_ok-statements.statements in
    let otherwise = c.in_ok-otherwise.otherwise in
    let head = past_if tokens depth from inside few deep c.requires.word condition c.in_ok-condition.ensures in
    let body = past_thens tokens depth from condition.end condition.stop statements head
    c.in_ok-statements.ensures.reads in
    let read = past_branch tokens depth from w.ELSE statements.end statements.stop otherwise body
    c.in_ok-otherwise.ensures.reads in
    not_closed tokens depth from c.in_err-closing.field-0.0 c.from_residual-in_err-closing.result
    c.from_residual-in_err-closing.ensures (λ e is. is) w.FIN otherwise.end otherwise.stop read
    c.in_err-closing.ensures.refused (c.in_err-closing.ensures.least (omega arith))

pub if_-returns-in_err-boxed : goal.if_-returns-in_err-boxed
if_-returns-in_err-boxed t c =
    no_memory_read 24 (Spelled c.args.depth) c.args.tokens.now c.args.from _ c.in_err-boxed.field-0.0
    c.from_residual-in_err-boxed.result c.from_residual-in_err-boxed.ensures (λ e is. is) c.in_err-boxed.ensures.fault

pub if_-returns : goal.if_-returns
if_-returns t c =
    let tokens = c.args.tokens.now in
    let depth = c.args.depth in
    let from = c.args.from in
    let few : length tokens < 2 ^ 55 = search rules in
    let deep : 0 < depth = omega (arith, c.if-depth-eq0.false) in
    let inside : from < length tokens = omega (arith, c.requires.within) in
    let condition = c.in_ok-condition.condition in
    let statements = c.in_ok-statements.statements in
    let otherwise = c.in_ok-otherwise.otherwise in
    let head = past_if tokens depth from inside few deep c.requires.word condition c.in_ok-condition.ensures in
    let body = past_thens tokens depth from condition.end condition.stop statements head
    c.in_ok-statements.ensures.reads in
    let read = past_branch tokens depth from w.ELSE statements.end statements.stop otherwise body
    c.in_ok-otherwise.ensures.reads in
    let closed = c.in_ok-closing.ensures in
    record {
      spells = if_spelled tokens depth from c.place_at.result c.place_at.ensures deep c.in_ok-boxed.field-0
          condition.part
          c.new.result otherwise.part c.in_ok-boxed.ensures.value condition.end statements.end otherwise.end
          c.in_ok-condition.ensures.spells
          (subst (λ xs. SpellsStatements (depth - 1) tokens condition.end xs statements.end) (sym c.new.ensures)
          c.in_ok-statements.ensures.reads.spells) c.in_ok-otherwise.ensures.reads.spells closed.stands;
      only = one_end tokens depth from w.FIN otherwise.end otherwise.stop c.max.result read c.max.ensures;
      ahead = search rules;
      refused = tt;
      least = goes_so_far tokens depth from w.FIN otherwise.end otherwise.stop c.max.result read c.max.ensures
          closed.stands
          closed.within;
    }

pub case-returns-then-depth-eq0 : goal.case-returns-then-depth-eq0
case-returns-then-depth-eq0 t c =
    let tokens = c.args.tokens.now in
    let depth = c.args.depth in
    let from = c.args.from in
    let few : length tokens < 2 ^ 55 = search rules in
    let inside : from ≤ length tokens = omega (arith, c.requires.within) in
    none_read 24 (Spelled depth) tokens from _ (no_case tokens depth from c.if-depth-eq0.true inside c.requires.word)
    (some_statement tokens depth from inside few)

pub case-returns-in_err-selector : goal.case-returns-in_err-selector
case-returns-in_err-selector t c =
    let tokens = c.args.tokens.now in
    let depth = c.args.depth in
    let from = c.args.from in
    let few : length tokens < 2 ^ 55 = search rules in
    let deep : 0 < depth = omega (arith, c.if-depth-eq0.false) in
    let inside : from < length tokens = omega (arith, c.requires.within) in
    let halt = c.in_err-selector.field-0.0 in
    unread 24 (Spelled depth) tokens from _ halt c.from_residual.result c.from_residual.ensures (λ e is. is)
    (no_part (Spelled depth) tokens from (λ tokens. SpellsAfter tokens w.CASE) (choices_rest (depth - 1)) from from halt
    (case_goes tokens depth from c.requires.word) (omega arith) c.in_err-selector.ensures.refused)
    (case_halts tokens depth from inside few deep halt c.in_err-selector.ensures.least)

pub case-returns-in_err-alternatives : goal.case-returns-in_err-alternatives
case-returns-in_err-alternatives t c =
    let tokens = c.args.tokens.now in
    let depth = c.args.depth in
    let from = c.args.from in
    let few : length tokens < 2 ^ 55 = search rules in
    let deep : 0 < depth = omega (arith, c.if-depth-eq0.false) in
    let inside : from < length tokens = omega (arith, c.requires.within) in
    let selector = c.in_ok-selector.selector in
    let head = past_case tokens depth from inside few deep c.requires.word selector c.in_ok-selector.ensures in
    no_alternatives tokens depth from c.in_err-alternatives.field-0.0 c.from_residual-in_err-alternatives.result
    c.from_residual-in_err-alternatives.ensures (λ e is. is) selector.end selector.stop head
    c.in_err-alternatives.ensures.refused c.in_err-alternatives.ensures.least

pub case-returns-in_err-otherwise : goal.case-returns-in_err-otherwise
case-returns-in_err-otherwise t c =
    no_memory_read 24 (Spelled c.args.depth) c.args.tokens.now c.args.from _ c.in_err-otherwise.field-0.0
    c.from_residual-in_err-otherwise.result c.from_residual-in_err-otherwise.ensures (λ e is. is)
    c.in_err-otherwise.ensures.memory

pub case-returns-in_err-closing : goal.case-returns-in_err-closing
case-returns-in_err-closing t c =
    let tokens = c.args.tokens.now in
    let depth = c.args.depth in
    let from = c.args.from in
    let few : length tokens < 2 ^ 55 = search rules in
    let deep : 0 < depth = omega (arith, c.if-depth-eq0.false) in
    let inside : from < length tokens = omega (arith, c.requires.within) in
    let selector = c.in_ok-selector.selector in
    let alternatives = c.in_ok-alternatives.alternatives in
    let otherwise = c.in_ok-otherwise.otherwise in
    let head = past_case tokens depth from inside few deep c.requires.word selector c.in_ok-selector.ensures in
    let chosen = past_alternatives tokens depth from selector.end selector.stop alternatives head
    c.in_ok-alternatives.ensures in
    let read = past_branch tokens depth from w.OUT alternatives.end alternatives.stop otherwise chosen
    c.in_ok-otherwise.ensures.reads in
    not_closed tokens depth from c.in_err-closing.field-0.0 c.from_residual-in_err-closing.result
    c.from_residual-in_err-closing.ensures (λ e is. is) w.FIN otherwise.end otherwise.stop read
    c.in_err-closing.ensures.refused (c.in_err-closing.ensures.least (omega arith))

pub case-returns-in_err-boxed : goal.case-returns-in_err-boxed
case-returns-in_err-boxed t c =
    no_memory_read 24 (Spelled c.args.depth) c.args.tokens.now c.args.from _ c.in_err-boxed.field-0.0
    c.from_residual-in_err-boxed.result c.from_residual-in_err-boxed.ensures (λ e is. is) c.in_err-boxed.ensures.fault

pub case-returns : goal.case-returns
case-returns t c =
    let tokens = c.args.tokens.now in
    let depth = c.args.depth in
    let from = c.args.from in
    let few : length tokens < 2 ^ 55 = search rules in
    let deep : 0 < depth = omega (arith, c.if-depth-eq0.false) in
    let inside : from < length tokens = omega (arith, c.requires.within) in
    let selector = c.in_ok-selector.selector in
    let alternatives = c.in_ok-alternatives.alternatives in
    let otherwise = c.in_ok-otherwise.otherwise in
    let head = past_case tokens depth from inside few deep c.requires.word selector c.in_ok-selector.ensures in
    let chosen = past_alternatives tokens depth from selector.end selector.stop alternatives head
    c.in_ok-alternatives.ensures in
    let read = past_branch tokens depth from w.OUT alternatives.end alternatives.stop otherwise chosen
    c.in_ok-otherwise.ensures.reads in
    let closed = c.in_ok-closing.ensures in
    record {
      spells = case_spelled tokens depth from c.place_at.result c.place_at.ensures deep c.in_ok-boxed.field-0
          selector.part
          c.new.result otherwise.part c.in_ok-boxed.ensures.value selector.end alternatives.end otherwise.end
          c.in_ok-selector.ensures.spells
          (subst (λ xs. SpellsSome (SpellsBranch tokens (depth - 1) w.ALT) selector.end xs alternatives.end)
          (sym c.new.ensures) c.in_ok-alternatives.ensures.spells) c.in_ok-otherwise.ensures.reads.spells closed.stands;
      only = one_end tokens depth from w.FIN otherwise.end otherwise.stop c.max.result read c.max.ensures;
      ahead = search rules;
      refused = tt;
      least = goes_so_far tokens depth from w.FIN otherwise.end otherwise.stop c.max.result read c.max.ensures
          closed.stands
          closed.within;
    }

pub repeat-returns-then-depth-eq0 : goal.repeat-returns-then-depth-eq0
repeat-returns-then-depth-eq0 t c =
    let tokens = c.args.tokens.now in
    let depth = c.args.depth in
    let from = c.args.from in
    let few : length tokens < 2 ^ 55 = search rules in
    let inside : from ≤ length tokens = omega (arith, c.requires.within) in
    none_read 24 (Spelled depth) tokens from _ (no_repeat tokens depth from c.if-depth-eq0.true inside c.requires.word)
    (some_statement tokens depth from inside few)

pub repeat-returns-in_err-heads : goal.repeat-returns-in_err-heads
repeat-returns-in_err-heads t c =
    let tokens = c.args.tokens.now in
    let depth = c.args.depth in
    let from = c.args.from in
    let few : length tokens < 2 ^ 55 = search rules in
    let deep : 0 < depth = omega (arith, c.if-depth-eq0.false) in
    let inside : from < length tokens = omega (arith, c.requires.within) in
    let halt = c.in_err-heads.field-0.0 in
    unread 24 (Spelled depth) tokens from _ halt c.from_residual.result c.from_residual.ensures (λ e is. is)
    (no_first (Spelled depth) tokens from SpellsHeads (block_rest (depth - 1)) from from halt
    (repeat_goes tokens depth from c.requires.word) (omega arith) (omega arith) c.in_err-heads.ensures.refused)
    (repeat_halts tokens depth from inside few deep halt c.in_err-heads.ensures.refused c.in_err-heads.ensures.least)

pub repeat-returns-in_err-body : goal.repeat-returns-in_err-body
repeat-returns-in_err-body t c =
    let tokens = c.args.tokens.now in
    let depth = c.args.depth in
    let from = c.args.from in
    let few : length tokens < 2 ^ 55 = search rules in
    let deep : 0 < depth = omega (arith, c.if-depth-eq0.false) in
    let inside : from < length tokens = omega (arith, c.requires.within) in
    let heads = c.in_ok-heads.heads in
    let head = past_loop tokens depth from inside few deep c.requires.word heads c.in_ok-heads.ensures in
    no_body tokens depth from c.in_err-body.field-0.0 c.from_residual-in_err-body.result
    c.from_residual-in_err-body.ensures (λ e is. is) heads.end heads.stop head
    c.in_err-body.ensures.refused c.in_err-body.ensures.least

pub repeat-returns-in_err-closing : goal.repeat-returns-in_err-closing
repeat-returns-in_err-closing t c =
    let tokens = c.args.tokens.now in
    let depth = c.args.depth in
    let from = c.args.from in
    let few : length tokens < 2 ^ 55 = search rules in
    let deep : 0 < depth = omega (arith, c.if-depth-eq0.false) in
    let inside : from < length tokens = omega (arith, c.requires.within) in
    let heads = c.in_ok-heads.heads in
    let body = c.in_ok-body.body in
    let head = past_loop tokens depth from inside few deep c.requires.word heads c.in_ok-heads.ensures in
    let read = past_body tokens depth from heads.end heads.stop body head c.in_ok-body.ensures in
    not_closed tokens depth from c.in_err-closing.field-0.0 c.from_residual-in_err-closing.result
    c.from_residual-in_err-closing.ensures (λ e is. is) w.END body.end body.stop read
    c.in_err-closing.ensures.refused (c.in_err-closing.ensures.least (omega arith))

pub repeat-returns-in_err-boxed : goal.repeat-returns-in_err-boxed
repeat-returns-in_err-boxed t c =
    no_memory_read 24 (Spelled c.args.depth) c.args.tokens.now c.args.from _ c.in_err-boxed.field-0.0
    c.from_residual-in_err-boxed.result c.from_residual-in_err-boxed.ensures (λ e is. is) c.in_err-boxed.ensures.fault

pub repeat-returns : goal.repeat-returns
repeat-returns t c =
    let tokens = c.args.tokens.now in
    let depth = c.args.depth in
    let from = c.args.from in
    let few : length tokens < 2 ^ 55 = search rules in
    let deep : 0 < depth = omega (arith, c.if-depth-eq0.false) in
    let inside : from < length tokens = omega (arith, c.requires.within) in
    let heads = c.in_ok-heads.heads in
    let body = c.in_ok-body.body in
    let head = past_loop tokens depth from inside few deep c.requires.word heads c.in_ok-heads.ensures in
    let read = past_body tokens depth from heads.end heads.stop body head c.in_ok-body.ensures in
    let closed = c.in_ok-closing.ensures in
    record {
      spells = repeat_spelled tokens depth from c.place_at.result c.place_at.ensures deep c.in_ok-boxed.field-0
          heads.part body.part c.in_ok-boxed.ensures.value heads.end body.end c.in_ok-heads.ensures.spells
          c.in_ok-body.ensures.spells closed.stands;
      only = one_end tokens depth from w.END body.end body.stop c.max.result read c.max.ensures;
      ahead = search rules;
      refused = tt;
      least = goes_so_far tokens depth from w.END body.end body.stop c.max.result read c.max.ensures closed.stands
          closed.within;
    }

pub begin-returns-then-depth-eq0 : goal.begin-returns-then-depth-eq0
begin-returns-then-depth-eq0 t c =
    let tokens = c.args.tokens.now in
    let depth = c.args.depth in
    let from = c.args.from in
    let few : length tokens < 2 ^ 55 = search rules in
    let inside : from ≤ length tokens = omega (arith, c.requires.within) in
    none_read 24 (Spelled depth) tokens from _ (no_begin tokens depth from c.if-depth-eq0.true inside c.requires.word)
    (some_statement tokens depth from inside few)

pub begin-returns-in_err-body : goal.begin-returns-in_err-body
begin-returns-in_err-body t c =
    let tokens = c.args.tokens.now in
    let depth = c.args.depth in
    let from = c.args.from in
    let few : length tokens < 2 ^ 55 = search rules in
    let deep : 0 < depth = omega (arith, c.if-depth-eq0.false) in
    let inside : from < length tokens = omega (arith, c.requires.within) in
    let head = begun tokens depth from inside few deep c.requires.word in
    no_body tokens depth from c.in_err-body.field-0.0 c.from_residual.result c.from_residual.ensures (λ e is. is)
    (from + 1) (from + 1) head
    c.in_err-body.ensures.refused c.in_err-body.ensures.least

pub begin-returns-in_err-closing : goal.begin-returns-in_err-closing
begin-returns-in_err-closing t c =
    let tokens = c.args.tokens.now in
    let depth = c.args.depth in
    let from = c.args.from in
    let few : length tokens < 2 ^ 55 = search rules in
    let deep : 0 < depth = omega (arith, c.if-depth-eq0.false) in
    let inside : from < length tokens = omega (arith, c.requires.within) in
    let body = c.in_ok-body.body in
    let head = begun tokens depth from inside few deep c.requires.word in
    let read = past_body tokens depth from (from + 1) (from + 1) body head c.in_ok-body.ensures in
    not_closed tokens depth from c.in_err-closing.field-0.0 c.from_residual-in_err-closing.result
    c.from_residual-in_err-closing.ensures (λ e is. is) w.END body.end body.stop read
    c.in_err-closing.ensures.refused (c.in_err-closing.ensures.least (omega arith))

pub begin-returns-in_err-boxed : goal.begin-returns-in_err-boxed
begin-returns-in_err-boxed t c =
    no_memory_read 24 (Spelled c.args.depth) c.args.tokens.now c.args.from _ c.in_err-boxed.field-0.0
    c.from_residual-in_err-boxed.result c.from_residual-in_err-boxed.ensures (λ e is. is) c.in_err-boxed.ensures.fault

pub begin-returns : goal.begin-returns
begin-returns t c =
    let tokens = c.args.tokens.now in
    let depth = c.args.depth in
    let from = c.args.from in
    let few : length tokens < 2 ^ 55 = search rules in
    let deep : 0 < depth = omega (arith, c.if-depth-eq0.false) in
    let inside : from < length tokens = omega (arith, c.requires.within) in
    let body = c.in_ok-body.body in
    let head = begun tokens depth from inside few deep c.requires.word in
    let read = past_body tokens depth from (from + 1) (from + 1) body head c.in_ok-body.ensures in
    let closed = c.in_ok-closing.ensures in
    record {
      spells = begin_spelled tokens depth from c.place_at.result c.place_at.ensures deep c.in_ok-boxed.field-0 body.part
          c.in_ok-boxed.ensures.value body.end c.requires.word c.in_ok-body.ensures.spells closed.stands;
      only = one_end tokens depth from w.END body.end body.stop c.max.result read c.max.ensures;
      ahead = search rules;
      refused = tt;
      least = goes_so_far tokens depth from w.END body.end body.stop c.max.result read c.max.ensures closed.stands
          closed.within;
    }

pub body-returns-then-from-tokens : goal.body-returns-then-from-tokens
body-returns-then-from-tokens t c =
    let few : length c.args.tokens.now < 2 ^ 55 = search rules in
    record {
      spells = tt;
      longest = tt;
      bounds = tt;
      refused = no_block c.args.tokens.now c.args.depth c.args.from c.args.least_stop
          (omega (arith, c.if-from-tokens.true)) c.requires.0 c.requires.1;
      least = no_inner c.args.tokens.now c.args.depth c.args.from c.args.least_stop (omega (arith, c.requires)) few
          c.requires.0;
    }

pub body-returns-in_err-declarations : goal.body-returns-in_err-declarations
body-returns-in_err-declarations t c =
    unread_behind _ c.in_err-declarations.field-0.0 c.from_residual.result c.from_residual.ensures (λ e is. is)
    (out_of_memory_behind (SpellsBlock c.args.depth) c.args.tokens.now c.args.from c.args.least_stop
    c.in_err-declarations.field-0.0 c.in_err-declarations.ensures.memory)
    (no_memory 24 (SpellsInner c.args.depth) c.args.tokens.now c.args.from c.args.least_stop
    c.in_err-declarations.field-0.0 c.in_err-declarations.ensures.memory)

pub body-returns-in_err-statements : goal.body-returns-in_err-statements
body-returns-in_err-statements t c =
    unread_behind _ c.in_err-statements.field-0.0 c.from_residual-in_err-statements.result
    c.from_residual-in_err-statements.ensures (λ e is. is)
    (out_of_memory_behind (SpellsBlock c.args.depth) c.args.tokens.now c.args.from c.args.least_stop
    c.in_err-statements.field-0.0 c.in_err-statements.ensures.memory)
    (no_memory 24 (SpellsInner c.args.depth) c.args.tokens.now c.args.from c.args.least_stop
    c.in_err-statements.field-0.0 c.in_err-statements.ensures.memory)

pub body-returns : goal.body-returns
body-returns t c =
    let tokens = c.args.tokens.now in
    let from = c.args.from in
    let depth = c.args.depth in
    let few : length tokens < 2 ^ 55 = search rules in
    let declarations = c.in_ok-declarations.declarations in
    let statements = c.in_ok-statements.statements in
    let first = c.in_ok-declarations.ensures.reads in
    let inner = c.in_ok-statements.ensures.reads in
    record {
      spells = (
        declarations.end,
        c.place_at.ensures,
        subst (λ xs. SpellsEach (SpellsBodyDecl tokens) c.args.from xs declarations.end) (sym c.new.ensures)
            c.in_ok-declarations.ensures.reads.spells,
        subst (λ xs. SpellsStatements c.args.depth tokens declarations.end xs statements.end) (sym c.new-2.ensures)
            c.in_ok-statements.ensures.reads.spells,
      );
      longest = block_is_longest c.args.tokens.now c.args.depth c.args.from declarations.end declarations.stop
          statements.end statements.stop
          (omega (arith, c.max-least_stop.ensures, c.in_ok-statements.ensures.reads.bounds))
          (omega (arith, c.in_ok-statements.ensures.reads.bounds)) c.in_ok-declarations.ensures.reads.longest
          c.in_ok-statements.ensures.reads.longest;
      bounds = search rules;
      refused = tt;
      least = inner_read tokens depth from c.args.least_stop (omega (arith, c.requires)) few declarations.part.items
          declarations.end declarations.stop c.max-least_stop.result first.spells (omega (arith, first.bounds))
          (omega (arith, first.bounds))
          (omega (arith, first.bounds, c.requires, c.max-least_stop.ensures)) first.least c.max-least_stop.ensures
          statements.part.items statements.end statements.stop inner.spells (omega (arith, inner.bounds))
          (omega (arith, inner.bounds))
          (omega (arith, inner.bounds)) inner.least;
    }

pub statement-returns-in-None : goal.statement-returns-in-None
statement-returns-in-None t c =
    let few : length c.args.tokens.now < 2 ^ 55 = search rules in
    none_read 24 (Spelled c.args.depth) c.args.tokens.now c.args.from _
    (no_statement c.args.tokens.now c.args.depth c.args.from c.requires (c.in-None.ensures.none refl))
    (some_statement c.args.tokens.now c.args.depth c.args.from (omega (arith, c.requires)) few)

pub statement-returns-in-Simple : goal.statement-returns-in-Simple
statement-returns-in-Simple t c = c.simple_statement.ensures c.args.depth
