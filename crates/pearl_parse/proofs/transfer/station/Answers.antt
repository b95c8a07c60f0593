-- That a station is read with its formats, or the least stop is told.
use Rattle.std.proofs.Common.{◌≡◌, ℕ, ◌+◌, ◌<◌, ◌≤◌, ◌^◌, max, List, Vec, length, Ok, rules, refl, ap, subst, arith}
use Rattle.pearl_tree.specs.declared.format.Fmt.{Fmt}
use Rattle.pearl_tree.specs.declared.name.Name.{Name}
use Rattle.pearl_tree.specs.declared.token.Token.{Token}
use Rattle.pearl_tree.specs.declared.symbol.TheConstants as s
use Rattle.pearl_tree.specs.declared.word_code.TheConstants as w
use Rattle.pearl_tree.specs.Standing.{HasWord, HasSymbol, IsName, SpellsList}
use Rattle.pearl_tree.specs.Formats.{SpellsFmt}
use Rattle.pearl_parse_expr.specs.declared.reading.Reading.{Reading}
use Rattle.pearl_parse_expr.specs.Stops.{is_name, is_word, is_symbol}
use Rattle.pearl_parse_expr.specs.Reads.{ReadsList}
use Rattle.pearl_parse_expr.proofs.Offered.{reading_is}
use Rattle.pearl_parse_decl.specs.Readings.{by_comma, by_bracket}
use Rattle.pearl_grammar.specs.Rules.{Listed, Then, Spells}
use Rattle.pearl_grammar.specs.Declarations.{close}
use Rattle.pearl_grammar.specs.Reached.{never}
use Rattle.pearl_grammar.specs.Statements.{fmt, transfer_rule}
use Rattle.pearl_grammar.proofs.Offered.{Walk, token_read, part_read, part_missing, took_list, lacks_past, transfer_facts}
use Rattle.pearl_parse.specs.Stops.{IsMissing}
use Rattle.pearl_parse.proofs.Along.{parts_begun, name_read, lacks_token, lacks_token_at, lacking_behind, only_behind}
use Rattle.pearl_parse.proofs.transfer.station.Goals as goal

module _ (tokens : List Token) (from low : ℕ) (inside : from ≤ length tokens) (few : length tokens < 2 ^ 55)
    (within : low ≤ length tokens) where
  begun : Walk 24 (Spells transfer_rule) tokens from low transfer_rule transfer_facts never from (max from low)
  begun = parts_begun transfer_rule transfer_facts tt inside within refl few (omega arith)

  -- id BY
  past_by : (name : Name) → IsName tokens from name → from < length tokens → HasWord tokens (from + 1) w.BY →
      from + 1 < length tokens →
      Walk 24 (Spells transfer_rule) tokens from low (Then (Listed fmt) close) transfer_facts.1.1 never (from + 2)
      (max from low)
  past_by name here stands next there =
      token_read (name_read begun refl here stands) (omega arith) next there

-- id BY fmt { "," fmt }
past_formats : {tokens : List Token} {from low at stop new : ℕ} →
    Walk 24 (Spells transfer_rule) tokens from low (Then (Listed fmt) close) transfer_facts.1.1 never at stop →
    {A : Type 0} {x : Reading (Vec Fmt A)} →
    ReadsList 16 (λ tokens. SpellsList tokens (SpellsFmt tokens)) (by_comma by_bracket) tokens at (Ok x) →
    new ≡ max x.stop stop → from ≤ at →
    Walk 24 (Spells transfer_rule) tokens from low close transfer_facts.1.1.1 never x.end new
past_formats {new = new} a read is near =
    part_read a (took_list {new = new} read is a.inside) (refl, tt) (omega arith) (omega (arith, near)) (omega arith)

pub returns-in_err-dation : goal.returns-in_err-dation
returns-in_err-dation c =
    let few : length c.args.tokens.now < 2 ^ 55 = search rules in
    lacking_behind c.in_err-dation.field-0.0 c.from_residual.result c.from_residual.ensures
    (lacks_token_at c.args.least_stop c.in_err-dation.field-0.0 is_name
    (begun c.args.tokens.now c.args.from c.args.least_stop c.requires.from few c.requires.least_stop)
    c.in_err-dation.ensures.missing (omega arith) ((λ name. refl), tt) (omega arith) (omega arith))

pub returns-in_err-word : goal.returns-in_err-word
returns-in_err-word c =
    let few : length c.args.tokens.now < 2 ^ 55 = search rules in
    let name = c.in_ok-dation.ensures in
    lacking_behind c.in_err-word.field-0.0 c.from_residual-in_err-word.result c.from_residual-in_err-word.ensures
    (lacks_token_at c.args.least_stop c.in_err-word.field-0.0 (is_word w.BY)
    (name_read (begun c.args.tokens.now c.args.from c.args.least_stop c.requires.from few c.requires.least_stop) refl
    name.stands name.within) c.in_err-word.ensures.missing (omega arith) (refl, tt) (omega arith) (omega arith))

pub returns-in-Err : goal.returns-in-Err
returns-in-Err c =
    let few : length c.args.tokens.now < 2 ^ 55 = search rules in
    let name = c.in_ok-dation.ensures in
    let word = c.in_ok-word.ensures in
    let read = c.in-Err.ensures.reads in
    let at = past_by c.args.tokens.now c.args.from c.args.least_stop c.requires.from few c.requires.least_stop
    c.in_ok-dation.dation name.stands name.within word.stands word.within in
    let none = part_missing at (lacks_past c.args.least_stop c.in-Err.halt c.behind.result read.refused read.least
    c.behind.ensures.same (omega arith) at.inside) (omega arith) (omega arith) in
    record { spells = tt; only = tt; bounds = tt; refused = none.refused; least = none.least }

pub returns-in_err-symbol-in-Ok : goal.returns-in_err-symbol-in-Ok
returns-in_err-symbol-in-Ok c =
    let few : length c.args.tokens.now < 2 ^ 55 = search rules in
    let name = c.in_ok-dation.ensures in
    let word = c.in_ok-word.ensures in
    let read = c.in-Ok.ensures.reads in
    let missing = subst (λ formats. IsMissing c.args.tokens.now (is_symbol s.SEMICOLON) formats.end formats.stop
    c.in_err-symbol-in-Ok.field-0.0) c.no_earlier-formats.ensures c.in_err-symbol-in-Ok.ensures.missing in
    lacking_behind c.in_err-symbol-in-Ok.field-0.0 c.from_residual-in_err-symbol-in-Ok.result
    c.from_residual-in_err-symbol-in-Ok.ensures (lacks_token c.in_err-symbol-in-Ok.field-0.0 (is_symbol s.SEMICOLON)
    (past_formats {new = max c.in-Ok.list.stop c.args.least_stop} (past_by c.args.tokens.now c.args.from
    c.args.least_stop c.requires.from few c.requires.least_stop c.in_ok-dation.dation name.stands name.within word.stands
    word.within) read (omega (arith, read.ahead)) (omega arith)) missing (refl, tt) (omega arith) (omega arith))

pub returns-in_ok-symbol-in-Ok : goal.returns-in_ok-symbol-in-Ok
returns-in_ok-symbol-in-Ok c =
    let tokens = c.args.tokens.now in
    let from = c.args.from in
    let few : length tokens < 2 ^ 55 = search rules in
    let name = c.in_ok-dation.ensures in
    let word = c.in_ok-word.ensures in
    let list = c.in-Ok.list in
    let read = c.in-Ok.ensures.reads in
    let raised = c.no_earlier-formats.ensures in
    let symbol = c.in_ok-symbol-in-Ok.ensures in
    let stands = subst (λ formats. HasSymbol tokens formats.end s.SEMICOLON) raised symbol.stands in
    let within = subst (λ formats. formats.end < length tokens) raised symbol.within in
    let stop : ℕ = max list.stop c.args.least_stop in
    let to : ℕ = list.end + 1 in
    let behind : from + 2 ≡ from + 1 + 1 = omega arith in
    rw (reading_is c.map.result (record { dation = c.in_ok-dation.dation; formats = list.part }) to (max stop to)
    (search rules) (omega (
      arith,
      c.map.ensures.end,
      ap (λ reading. reading.end) c.past.ensures,
      ap
          (λ reading. reading.end) raised,
    )) (omega (
      arith,
      c.map.ensures.stop,
      ap (λ reading. reading.stop) c.past.ensures,
      ap (λ reading. reading.end) raised,
      ap (λ reading. reading.stop) raised,
    )))
    (only_behind _ (token_read (past_formats {new = stop} (past_by tokens from c.args.least_stop c.requires.from few
    c.requires.least_stop c.in_ok-dation.dation name.stands name.within word.stands word.within) read
    (omega (arith, read.ahead)) (omega arith)) refl stands within) refl (omega (arith, read.ahead)) (
      from + 1,
      (name.stands, refl),
      (
        word.stands,
        (
          list.end,
          subst (λ k. SpellsList tokens (SpellsFmt tokens) k list.part.items list.end) behind read.spells,
          (stands, refl),
        ),
      ),
    ))
