-- What `device` answers: what is missing of a name, a colon, a word, a number in brackets and a semicolon.
use Rattle.std.proofs.Common.{rules, ℕ, ◌≡◌, ◌+◌, ◌≤◌, ◌<◌, ◌^◌, List, length, false, refl, sym, subst, arith}
use Rattle.pearl_tree.specs.declared.name.Name.{Name}
use Rattle.pearl_tree.specs.declared.declaration.DeviceWord.{DeviceWord}
use Rattle.pearl_tree.specs.declared.token.Token.{Token}
use Rattle.pearl_tree.specs.declared.symbol.TheConstants as s
use Rattle.pearl_tree.specs.Standing.{what_at, IsName, HasSymbol}
use Rattle.pearl_tree.specs.Declarations.{IsDeviceWord, SpellsDevice}
use Rattle.pearl_parse_expr.specs.Stops.{is_name, is_symbol}
use Rattle.pearl_parse_expr.proofs.Offered.{residual}
use Rattle.pearl_parse_decl.specs.Readings.{is_device_word}
use Rattle.pearl_grammar.specs.Rules.{One, Then}
use Rattle.pearl_grammar.specs.Declarations as rule
use Rattle.pearl_grammar.specs.Reached.{never}
use Rattle.pearl_grammar.proofs.Offered.{device_word, bracketed_number, close_facts, device_start, Walk, mark_read}
use Rattle.pearl_grammar.proofs.Offered.{token_read, one_read, only_read, missing, part_missing, took_only, lacks_first}
use Rattle.pearl_grammar.proofs.Offered.{none_only}
use Rattle.pearl_parse_decl.proofs.specification.device.Goals as goal

module _ (tokens : List Token) (from : ℕ) (within : from ≤ length tokens) (few : length tokens < 2 ^ 55)
    (name : Name) (named : IsName tokens from name) (there : from < length tokens)
    (colon : HasSymbol tokens (from + 1) s.COLON) (next : from + 1 < length tokens) where
  -- behind the colon
  opened : Walk 16 SpellsDevice tokens from 0 (Then (One DeviceWord rule.SpellsDeviceWord) (Then rule.bracketed_number
      rule.close)) (device_word, (bracketed_number, close_facts)) never (from + 2) from
  opened =
      token_read (one_read {next = from + 1} (mark_read (device_start tokens from within few)) (λ others k x to h. h.1) refl
      (named, refl) there) (omega arith) colon next

  -- and the word
  worded : (word : DeviceWord) → IsDeviceWord tokens (from + 2) word → from + 2 < length tokens →
      Walk 16 SpellsDevice tokens from 0 (Then rule.bracketed_number rule.close) (bracketed_number, close_facts) never
      (from + 3) from
  worded word is inside = one_read opened (λ others k x to h. h.1) (omega arith) (is, refl) inside

pub returns-in-None-clause-reads : goal.returns-in-None-clause-reads
returns-in-None-clause-reads c =
    none_only _ (missing is_name (device_start c.args.tokens.now c.args.from c.requires (search rules))
    (c.in-None.ensures.none refl) ((λ name. refl), tt) (omega arith) (omega arith) (omega arith))

pub returns-then-not-is_symbol-clause-reads : goal.returns-then-not-is_symbol-clause-reads
returns-then-not-is_symbol-clause-reads c =
    none_only _ (missing (is_symbol s.COLON)
    (one_read {next = c.args.from + 1} (mark_read (device_start c.args.tokens.now c.args.from c.requires (search rules)))
    (λ others k x to h. h.1) refl (c.in-Some.ensures.some, refl) c.in-Some.ensures.within)
    (sym c.if-not-is_symbol.ensures.value) (refl, tt) (omega arith) (omega arith) (omega arith))

pub returns-in-None-device_word-clause-reads : goal.returns-in-None-device_word-clause-reads
returns-in-None-device_word-clause-reads c =
    none_only _ (missing is_device_word
    (opened c.args.tokens.now c.args.from c.requires (search rules) c.in-Some.name c.in-Some.ensures.some
    c.in-Some.ensures.within (c.if-not-is_symbol.ensures.stands refl) (c.if-not-is_symbol.ensures.within refl))
    (c.in-None-device_word.ensures.none refl) ((λ name. refl), (refl, tt)) (omega arith) (omega arith) (omega arith))

pub returns-in_err-number-clause-reads : goal.returns-in_err-number-clause-reads
returns-in_err-number-clause-reads c =
    rw (residual c.in_err-number.field-0.0 c.from_residual.result c.from_residual.ensures)
    (let none = c.in_err-number.ensures.reads in
    none_only _ (part_missing
    (worded c.args.tokens.now c.args.from c.requires (search rules) c.in-Some.name c.in-Some.ensures.some
    c.in-Some.ensures.within (c.if-not-is_symbol.ensures.stands refl) (c.if-not-is_symbol.ensures.within refl)
    c.in-Some-device_word.word c.in-Some-device_word.ensures.some c.in-Some-device_word.ensures.within)
    (lacks_first c.in_err-number.field-0.0 none.refused none.least (omega arith)) (omega arith) (omega arith)))

pub returns-then-not-is_symbol-2-clause-reads : goal.returns-then-not-is_symbol-2-clause-reads
returns-then-not-is_symbol-2-clause-reads c =
    let number = c.in_ok-number.number in
    let read = c.in_ok-number.ensures in
    let same : c.args.from + 6 ≡ number.end = omega (arith, read.reads.spells.3) in
    none_only _ (missing (is_symbol s.SEMICOLON) (only_read
    (worded c.args.tokens.now c.args.from c.requires (search rules) c.in-Some.name c.in-Some.ensures.some
    c.in-Some.ensures.within (c.if-not-is_symbol.ensures.stands refl) (c.if-not-is_symbol.ensures.within refl)
    c.in-Some-device_word.word c.in-Some-device_word.ensures.some c.in-Some-device_word.ensures.within)
    (took_only {new = number.stop} read.reads (omega (arith, read.reads.ahead)) c.requires) (omega arith) (omega arith))
    (subst (λ k. is_symbol s.SEMICOLON (what_at c.args.tokens.now k) ≡ false) same (sym c.if-not-is_symbol-2.ensures.value))
    (refl, tt) (omega arith) (omega arith) (omega (arith, same, read.once)))

pub returns-in_err-number-clause-memory : goal.returns-in_err-number-clause-memory
returns-in_err-number-clause-memory c =
    rw (residual c.in_err-number.field-0.0 c.from_residual.result c.from_residual.ensures)
    c.in_err-number.ensures.memory
