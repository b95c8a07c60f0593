-- That the module is read that the tokens are, or the least stop is told.
use Rattle.std.proofs.Common.{◌≡◌, sym, subst, ◌<◌, ◌^◌, inl, length, rules, arith}
use Rattle.pearl_tree.specs.declared.tree.Tree.{Tree}
use Rattle.pearl_parse.specs.Modules.{SpellsHead, SpellsOpening, SpellsEnding, SpellsSource}
use Rattle.pearl_grammar.proofs.Offered.{Ends}
use Rattle.pearl_parse.proofs.Steps.{past_only, no_part, no_first, ends}
use Rattle.pearl_parse.proofs.ModuleRests.{problems_rest, list_rest, source_goes, last_goes, Declarations, as_tree}
use Rattle.pearl_parse.proofs.ModuleLeast.{head_halts, past_title, opening_halts, past_opening, past_decls, close_halts}
use Rattle.pearl_parse.proofs.ModuleLeast.{source_halts}
use Rattle.pearl_parse.proofs.Unread.{unread}
use Rattle.pearl_parse.proofs.module.module.Goals as goal

pub returns-in_err-head : goal.returns-in_err-head
returns-in_err-head c =
    let tokens = c.args.tokens.now in
    let few : length tokens < 2 ^ 55 = search rules in
    let halt = c.in_err-head.field-0.0 in
    let head = c.in_err-head.ensures.reads in
    unread 24 SpellsSource tokens 0 _ halt c.from_residual.result c.from_residual.ensures (λ e is. is)
    (no_first SpellsSource tokens 0 SpellsHead problems_rest 0 0 halt (source_goes tokens) (omega arith) (omega arith)
    head.refused)
    (source_halts tokens few halt (head_halts tokens few halt head.refused head.least))

pub returns-in_err-opening : goal.returns-in_err-opening
returns-in_err-opening c =
    let tokens = c.args.tokens.now in
    let few : length tokens < 2 ^ 55 = search rules in
    let head = c.in_ok-head.head in
    let first = c.in_ok-head.ensures in
    let halt = c.in_err-opening.field-0.0 in
    let opening = c.in_err-opening.ensures in
    let at = past_title tokens few head.part head.end head.stop first.reads.spells (omega arith) first.close
    (omega (arith, first.reads.ahead)) in
    unread 24 SpellsSource tokens 0 _ halt c.from_residual-in_err-opening.result c.from_residual-in_err-opening.ensures
    (λ e is. is)
    (no_first SpellsSource tokens 0 SpellsOpening list_rest head.end head.stop halt
    (past_only SpellsSource tokens 0 SpellsHead problems_rest 0 0 head.end head.stop (source_goes tokens) (omega arith)
    first.reads.only) (omega arith) (omega (arith, first.close)) opening.refused)
    (source_halts tokens few halt
    (opening_halts tokens few head.end head.stop (omega (arith, first.reads.ahead)) (omega (arith, first.close)) at halt
    opening.refused opening.least))

pub returns-in_err-ending : goal.returns-in_err-ending
returns-in_err-ending c =
    let tokens = c.args.tokens.now in
    let few : length tokens < 2 ^ 55 = search rules in
    let head = c.in_ok-head.head in
    let first = c.in_ok-head.ensures in
    let opening = c.in_ok-opening.opening in
    let second = c.in_ok-opening.ensures in
    let list = c.in-Ok.list in
    let third = c.in-Ok.ensures.reads in
    let stop = c.max.result in
    let halt = c.in_err-ending.field-0.0 in
    let ending = c.in_err-ending.ensures.reads in
    let at_0 = past_title tokens few head.part head.end head.stop first.reads.spells (omega arith) first.close
    (omega (arith, first.reads.ahead)) in
    let at_1 = past_opening tokens few head.end head.stop (omega (arith, first.reads.ahead))
    (omega (arith, first.close))
    at_0 opening.part opening.end opening.stop second.spells (omega (arith, second.ahead))
    (omega (arith, second.ahead)) (omega (arith, second.ahead)) second.least in
    let at = past_decls tokens few opening.end opening.stop (omega (arith, first.reads.ahead, second.ahead)) at_1
    list.part.items list.end list.stop stop third.spells (omega (arith, third.bounds)) (omega (arith, third.bounds))
    (omega (arith, third.bounds, second.ahead, c.max.ensures)) third.least c.max.ensures in
    unread 24 SpellsSource tokens 0 _ halt c.from_residual-in_err-ending.result c.from_residual-in_err-ending.ensures
    (λ e is. is)
    (no_part SpellsSource tokens 0 SpellsEnding Ends list.end stop halt
    (last_goes tokens head.end head.stop opening.end opening.stop list.end list.stop stop
    (omega (arith, first.close, second.ahead)) (omega (arith, c.max.ensures)) (omega (arith, c.max.ensures))
    first.reads.only second.only third.longest) (omega arith) ending.refused)
    (source_halts tokens few halt (close_halts tokens few list.end stop at halt ending.least))

pub returns : goal.returns
returns c =
    let tokens = c.args.tokens.now in
    let head = c.in_ok-head.head in
    let first = c.in_ok-head.ensures in
    let opening = c.in_ok-opening.opening in
    let second = c.in_ok-opening.ensures in
    let list = c.in-Ok.list in
    let third = c.in-Ok.ensures.reads in
    let stop = c.max.result in
    let ending = c.in_ok-ending.ending in
    let last = c.in_ok-ending.ensures.reads in
    let all : ending.end ≡ length tokens = last.spells.2 in
    let tree : Tree = record {
      name = head.part;
      system = opening.part;
      declarations = c.new.result;
      modend = c.place_at.result;
      semicolon = ending.part;
      place = c.place_at-2.result;
    } in
    record {
      spells = as_tree tokens tree head.end opening.end list.end c.place_at-2.ensures c.place_at.ensures
          first.reads.spells second.spells
          (subst (λ xs. Declarations tokens opening.end xs list.end) (sym c.new.ensures) third.spells) ending.end
          last.spells;
      only = ends SpellsSource tokens 0 Ends ending.end ending.stop ending.stop ending.end
          (past_only SpellsSource tokens 0 SpellsEnding Ends list.end stop ending.end ending.stop
          (last_goes tokens head.end head.stop opening.end opening.stop list.end list.stop stop
          (omega (arith, first.close, second.ahead)) (omega (arith, c.max.ensures)) (omega (arith, c.max.ensures))
          first.reads.only second.only third.longest) (omega (arith, last.bounds)) last.only)
          (omega arith) (λ others to h. h);
      ahead = (omega (arith, last.bounds), omega (arith, last.bounds), omega (arith, last.bounds));
      refused = tt;
      least = record { goes = inl (omega (arith, last.bounds, all)) };
    }
