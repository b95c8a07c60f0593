-- What `dation_behind` answers: no direction, no class behind it, or a dation with CONTROL or without it.
use Rattle.std.proofs.Common.{rules, ℕ, ◌≡◌, ◌+◌, ◌≤◌, ◌<◌, ◌^◌, inl, inr, false, List, length, Option, Some, Ok, refl, ap, arith}
use Rattle.pearl_tree.specs.declared.name.Names.{Names}
use Rattle.pearl_tree.specs.declared.token.Token.{Token}
use Rattle.pearl_tree.specs.declared.token.What.{What}
use Rattle.pearl_tree.specs.declared.token.What.TheVariants as what
use Rattle.pearl_value.specs.declared.device.Direction.{Direction}
use Rattle.pearl_value.specs.declared.device.Direction.TheVariants.{In, Out, InOut}
use Rattle.pearl_tree.specs.declared.word_code.TheConstants as w
use Rattle.pearl_tree.specs.Standing.{HasWord}
use Rattle.pearl_tree.specs.Types.{SpellsNames}
use Rattle.pearl_tree.specs.Declarations.{SpellsClass, SpellsControl, SpellsSpec, direction_word}
use Rattle.pearl_parse_expr.specs.declared.reading.Reading.{Reading}
use Rattle.pearl_parse_expr.specs.Reads.{ReadsOnly}
use Rattle.pearl_parse_expr.specs.Stops.{is_word}
use Rattle.pearl_parse_expr.proofs.Offered.{word_within}
use Rattle.std.proofs.Common.{Bool}
use Rattle.pearl_tree.specs.declared.declaration.Class.{Class}
use Rattle.pearl_grammar.specs.Rules.{One, Rule, Then, End}
use Rattle.pearl_grammar.specs.Declarations as rule
use Rattle.pearl_grammar.specs.Reached.{never}
use Rattle.pearl_grammar.proofs.Offered.{Among, class, control, direction, spec_start, Walk, mark_read, token_read}
use Rattle.pearl_grammar.proofs.Offered.{one_read, only_read, second_chosen, part_taken, lacking, part_missing}
use Rattle.pearl_grammar.proofs.Offered.{took_only, took_longest, took_maybe, lacks_past, longest, none_longest}
use Rattle.pearl_parse_decl.proofs.specification.dation_behind.Goals as goal

abbrev class_rest : Rule
class_rest = Then (One Class SpellsClass) (Then (One Bool SpellsControl) End)

-- behind DATION
module _ (tokens : List Token) (from : ℕ) (within : from ≤ length tokens) (few : length tokens < 2 ^ 55)
    (names : Reading Names) (read : ReadsOnly 9 SpellsNames tokens from (Ok names))
    (dation : HasWord tokens names.end w.DATION) where
  opened : Walk 16 SpellsSpec tokens from 0 (Then rule.direction class_rest) (direction, (class, (control, tt))) never
      (names.end + 1) names.stop
  opened =
      token_read (second_chosen {new = names.stop} false (is_word w.INTERRUPT)
      (only_read (mark_read (spec_start tokens from within few))
      (took_only {new = names.stop} read (omega (arith, read.ahead)) within) (omega arith) (omega arith))
      (omega (arith, read.ahead)) (ap (is_word w.INTERRUPT) dation) (refl, tt) (omega arith)) refl dation
      (word_within tokens names.end w.DATION dation)

  -- and the direction
  directed : (x : Direction) → HasWord tokens (names.end + 1) (direction_word x) → names.end + 1 < length tokens →
      Walk 16 SpellsSpec tokens from 0 class_rest (class, (control, tt)) never (names.end + 2) names.stop
  directed x here there = one_read opened (λ others k x to h. h.1) (omega arith) (here, refl) there

no_direction : (token : Option What) → ((x : Direction) → token ≡ Some (what.Word (direction_word x)) → ⊥) →
    Among direction.firsts token → ⊥
no_direction token none (inl h) = none In h
no_direction token none (inr (inl h)) = none Out h
no_direction token none (inr (inr (inl h))) = none InOut h
no_direction token none (inr (inr (inr h))) = h

pub returns-in-None-clause-reads : goal.returns-in-None-clause-reads
returns-in-None-clause-reads c =
    none_longest _ (lacking
    (opened c.args.tokens.now c.args.from c.requires.within (search rules) c.args.names c.requires.names c.requires.word)
    (no_direction _ (λ x h. c.in-None.ensures.none refl x h)) (omega arith) (omega arith)
    (omega (arith, c.max.ensures)))

pub returns-in-Err-clause-reads : goal.returns-in-Err-clause-reads
returns-in-Err-clause-reads c =
    let read = c.requires.names in
    let none = c.in-Err.ensures.reads in
    none_longest _ (part_missing
    (directed c.args.tokens.now c.args.from c.requires.within (search rules) c.args.names read c.requires.word
    c.in-Some.direction c.in-Some.ensures.some c.in-Some.ensures.within)
    (lacks_past c.max-before.result c.in-Err.halt c.behind.result none.refused none.least c.behind.ensures.same
    (omega (arith, c.max-before.ensures)) (omega (arith, read.ahead)))
    (omega (arith, read.ahead)) (omega arith))

pub returns-clause-reads : goal.returns-clause-reads
returns-clause-reads c =
    let read = c.requires.names in
    let kind = c.in-Ok.ensures.reads in
    let last = c.control-control.ensures in
    longest _ (part_taken (part_taken
    (directed c.args.tokens.now c.args.from c.requires.within (search rules) c.args.names read c.requires.word
    c.in-Some.direction c.in-Some.ensures.some c.in-Some.ensures.within)
    (took_longest {new = c.max-2.result} kind (omega (arith, c.max-2.ensures, c.max-before.ensures, kind.ahead))
    (omega (arith, read.ahead))) ((λ name. refl), tt) (omega (arith, read.ahead)) (omega arith))
    (took_maybe {new = c.max-3.result} last c.max-3.ensures
    (omega (arith, c.max-2.ensures, c.max-before.ensures, read.ahead, kind.ahead))) tt (omega (arith, read.ahead, kind.ahead))
    (omega arith)) (omega (arith, c.max-3.ensures, last.bounds)) (λ token h. h)
    (omega (arith, read.ahead, kind.ahead, last.bounds)) (search rules)
