-- That MODULE is read with its name and semicolon, or the least stop is told.
use Rattle.std.proofs.Common.{◌+◌, ap, inl, ◌<◌, ◌^◌, length, rules, refl, arith}
use Rattle.pearl_tree.specs.declared.symbol.TheConstants as s
use Rattle.pearl_tree.specs.declared.word_code.TheConstants as w
use Rattle.pearl_tree.specs.Modules.{SpellsModuleName}
use Rattle.pearl_parse_expr.specs.Stops.{is_symbol, is_word}
use Rattle.pearl_parse_expr.proofs.Offered.{reading_is}
use Rattle.pearl_parse.specs.Modules.{SpellsOptionalName, SpellsHead, begins_module_name}
use Rattle.pearl_parse.proofs.Steps.{err_told, missing_is_refused, past_only, missing, no_first, ends}
use Rattle.pearl_parse.proofs.Optional.{maybe_of}
use Rattle.pearl_parse.proofs.StatementRests.{exit_rest}
use Rattle.pearl_parse.proofs.ModuleRests.{head_rest, head_goes, name_goes}
use Rattle.pearl_parse.proofs.ModuleLeast.{no_module, no_title, no_title_end}
use Rattle.pearl_parse.proofs.Unread.{unread}
use Rattle.pearl_parse.proofs.module.head.Goals as goal

pub returns-in_err-word-clause-reads : goal.returns-in_err-word-clause-reads
returns-in_err-word-clause-reads c =
    let tokens = c.args.tokens.now in
    let from = c.args.from in
    let few : length tokens < 2 ^ 55 = search rules in
    let told = c.in_err-word.field-0.0 in
    unread 16 SpellsHead tokens from _ told c.from_residual.result c.from_residual.ensures (λ e is. is)
    (missing SpellsHead tokens from (is_word w.MODULE) head_rest from from from told (head_goes tokens from)
    (λ others to h. ap (is_word w.MODULE) h.0) (omega arith) c.requires c.requires c.in_err-word.ensures.missing)
    (no_module tokens from c.requires few told c.in_err-word.ensures.missing)

pub returns-in_err-name-clause-reads : goal.returns-in_err-name-clause-reads
returns-in_err-name-clause-reads c =
    let tokens = c.args.tokens.now in
    let from = c.args.from in
    let few : length tokens < 2 ^ 55 = search rules in
    let word = c.in_ok-word.ensures in
    let told = c.in_err-name.field-0.0 in
    let none = c.in_err-name.ensures.reads in
    unread 16 SpellsHead tokens from _ told c.from_residual-in_err-name.result c.from_residual-in_err-name.ensures
    (λ e is. is)
    (no_first SpellsHead tokens from SpellsOptionalName exit_rest (from + 1) from told (name_goes tokens from)
    (omega arith) (omega arith) none.refused)
    (no_title tokens from c.requires few word.stands word.within told none.refused none.least)

pub returns-in_err-symbol-clause-reads : goal.returns-in_err-symbol-clause-reads
returns-in_err-symbol-clause-reads c =
    let tokens = c.args.tokens.now in
    let from = c.args.from in
    let few : length tokens < 2 ^ 55 = search rules in
    let word = c.in_ok-word.ensures in
    let name = c.in_ok-name.name in
    let read = c.in_ok-name.ensures.reads in
    let told = c.in_err-symbol.field-0.0 in
    let go = past_only SpellsHead tokens from SpellsOptionalName exit_rest (from + 1) from name.end name.stop
    (name_goes tokens from) (omega (arith, read.bounds)) read.only in
    unread 16 SpellsHead tokens from _ told c.from_residual-in_err-symbol.result c.from_residual-in_err-symbol.ensures
    (λ e is. is)
    (missing SpellsHead tokens from (is_symbol s.SEMICOLON) exit_rest name.end name.stop name.end told go
    (λ others to h. ap (is_symbol s.SEMICOLON) h.0) (omega (arith, read.bounds)) (omega (arith, read.bounds))
    read.bounds.3 c.in_err-symbol.ensures.missing)
    (no_title_end tokens from c.requires few word.stands word.within name.part name.end name.stop read.spells
    (omega (arith, read.bounds)) c.in_ok-name.ensures.close (omega (arith, read.bounds)) told
    c.in_err-symbol.ensures.missing)

pub returns-clause-reads : goal.returns-clause-reads
returns-clause-reads c =
    let tokens = c.args.tokens.now in
    let from = c.args.from in
    let name = c.in_ok-name.name in
    let read = c.in_ok-name.ensures.reads in
    let go = past_only SpellsHead tokens from SpellsOptionalName exit_rest (from + 1) from name.end name.stop
    (name_goes tokens from) (omega (arith, read.bounds)) read.only in
    rw (reading_is c.past.result name.part (name.end + 1) (name.end + 1) (search rules) (search rules) (omega (
      arith,
      ap
          (λ reading. reading.stop) c.past.ensures,
      c.in_ok-name.ensures.close,
    )))
    (record {
      spells = (
        name.end,
        c.in_ok-word.ensures.stands,
        maybe_of begins_module_name SpellsModuleName tokens (from + 1) name.part name.end read.spells,
        c.in_ok-symbol.ensures.stands,
        refl,
      );
      only = ends SpellsHead tokens from exit_rest name.end name.stop (name.end + 1) (name.end + 1) go
          (omega (arith, c.in_ok-name.ensures.close)) (λ others to h. h.1);
      ahead = (omega (arith, read.bounds), omega arith, omega (arith, c.in_ok-symbol.ensures.within));
      refused = tt;
      least = record { goes = inl refl };
    })

pub returns-in_err-word-clause-memory : goal.returns-in_err-word-clause-memory
returns-in_err-word-clause-memory c =
    err_told _ _ c.in_err-word.field-0.0 c.from_residual.result c.from_residual.ensures (λ e is. is)
    (missing_is_refused c.args.tokens.now (is_word w.MODULE) c.args.from c.args.from c.in_err-word.field-0.0
    c.in_err-word.ensures.missing)

pub returns-in_err-name-clause-memory : goal.returns-in_err-name-clause-memory
returns-in_err-name-clause-memory c =
    err_told _ _ c.in_err-name.field-0.0 c.from_residual-in_err-name.result c.from_residual-in_err-name.ensures
    (λ e is. is) c.in_err-name.ensures.memory

pub returns-in_err-symbol-clause-memory : goal.returns-in_err-symbol-clause-memory
returns-in_err-symbol-clause-memory c =
    let name = c.in_ok-name.name in
    err_told _ _ c.in_err-symbol.field-0.0 c.from_residual-in_err-symbol.result c.from_residual-in_err-symbol.ensures
    (λ e is. is)
    (missing_is_refused c.args.tokens.now (is_symbol s.SEMICOLON) name.end name.stop c.in_err-symbol.field-0.0
    c.in_err-symbol.ensures.missing)

pub returns-clause-close : goal.returns-clause-close
returns-clause-close c = rw c.past.ensures (omega (arith, c.in_ok-name.ensures.close))
