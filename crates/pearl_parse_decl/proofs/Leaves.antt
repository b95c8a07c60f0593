-- Basic types, items of formats, heads of tasks and references that go on as far as a stop.
use Rattle.std.proofs.Common.{◌≡◌, ℕ, ◌+◌, ◌<◌, ◌≤◌, ◌^◌, ◌⊎◌, inl, inr, max, Bool, true, false}
use Rattle.std.proofs.Common.{List, [], ◌∷◌, length, Option, Some, None, Result, Ok, refl, sym, subst, ap, ◌∙◌}
use Rattle.std.proofs.Common.{arith}
use Rattle.pearl_tree.specs.declared.name.Number.{Number}
use Rattle.pearl_tree.specs.declared.typing.Sort.{Sort}
use Rattle.pearl_tree.specs.declared.typing.Basic.TheVariants as basic
use Rattle.pearl_tree.specs.declared.format.Fmt.TheVariants.{Free, Wide}
use Rattle.pearl_tree.specs.declared.format.FreeCode.{FreeCode}
use Rattle.pearl_tree.specs.declared.format.FreeCode.TheVariants.{A}
use Rattle.pearl_tree.specs.declared.format.WideCode.{WideCode}
use Rattle.pearl_tree.specs.declared.declaration.Prio.{Prio}
use Rattle.pearl_tree.specs.declared.tree.TaskHead.TheVariants.{PrioFirst, MainFirst}
use Rattle.pearl_tree.specs.declared.token.What.TheVariants as what
use Rattle.pearl_tree.specs.declared.token.Token.{Token}
use Rattle.pearl_tree.specs.Standing.{Spelling, what_at, HasWord, HasId}
use Rattle.pearl_tree.specs.Standing.{SpellsMaybe, SpellsFlag, SpellsBracketedNumber}
use Rattle.pearl_tree.specs.Expressions.{SpellsOwnRef}
use Rattle.pearl_tree.specs.Types.{SpellsBasic, sort_word}
use Rattle.pearl_tree.specs.Formats.{SpellsFmt, free_text, wide_text}
use Rattle.pearl_tree.specs.Declarations.{SpellsPrio}
use Rattle.pearl_tree.specs.Modules.{SpellsTaskHead}
use Rattle.pearl_tree.specs.declared.word_code.TheConstants as w
use Rattle.pearl_tree.specs.Stops.{BeginAlike}
use Rattle.pearl_tree.specs.declared.limit.TheConstants as limit
use Rattle.pearl_tree.specs.declared.format.Fmt.{Fmt}
use Rattle.pearl_tree.specs.declared.tree.TaskHead.{TaskHead}
use Rattle.pearl_parse_expr.specs.declared.reading.Halt.{Halt}
use Rattle.pearl_parse_expr.specs.declared.reading.Reading.{Reading}
use Rattle.pearl_parse_expr.specs.Stops.{IsLongest, EndsEarly, SpellsNamed, is_word}
use Rattle.pearl_parse_expr.specs.Least.{Reaches, GoesTo}
use Rattle.pearl_parse_expr.specs.Reads.{ReadsOnly}
use Rattle.pearl_parse_decl.specs.Readings.{IsOptional, ReadsMaybePart, extends_head}
use Rattle.pearl_parse_expr.proofs.Offered.{clash, shorter, or_first, named, selectors_after, x_name, x_token, x_lawful}
use Rattle.pearl_parse_expr.proofs.Offered.{letter_token, letter_lawful, IsLocal, Lawful, begun, completed, goes_as}
use Rattle.pearl_parse_expr.proofs.Offered.{goes_max, local_of, reach_of, reaches_as, one_lawful, none_lawful, placed_within}
use Rattle.pearl_parse_expr.proofs.Offered.{token_of, what_stands, place_stands, unread}
use Rattle.pearl_parse_decl.proofs.Behind.{Holds, ends_as, ends_with, last, maybe_reads, no_flag}
use Rattle.pearl_parse_expr.proofs.Offered as local
use Rattle.pearl_grammar.proofs.Offered.{maybe_keeps}
use Rattle.pearl_parse_decl.proofs.Kept.{prio_keeps}

abbrev pub symbol : ℕ → Token
symbol code = token_of (what.Symbol code)

-- ---- basic types

pub sized_holds : (tokens : List Token) (from : ℕ) (sort : Sort) → HasWord tokens from (sort_word sort) →
    Holds 16 16 (λ tokens. SpellsMaybe (SpellsBracketedNumber tokens)) SpellsBasic tokens from (from + 1)
sized_holds tokens from sort stands =
    ends_with (λ tokens. SpellsMaybe (SpellsBracketedNumber tokens)) SpellsBasic tokens from (from + 1) (omega arith)
    (λ others stop near long alike x h.
    let at = placed_within others from (omega (arith, near, long)) in
    (basic.Sized sort x at.0, (at.1, local.what tokens others stop alike from (omega (arith, near)) ∙ stands, h)))

-- ---- items of formats

abbrev A_token : Token
A_token = letter_token 65

pub fmt_begins : (tokens : List Token) (from : ℕ) → from ≤ length tokens → Reaches SpellsFmt tokens from from
fmt_begins tokens from within =
    completed SpellsFmt tokens from from (A_token ∷ []) (Free A None 0) within (omega arith)
    (one_lawful A_token [] (letter_lawful 65 (inl (omega arith, omega arith))) none_lawful)
    (λ alike. (
      place_stands tokens from (A_token ∷ []) within 0 from (omega arith),
      what_stands tokens from (A_token ∷ []) within 0 from (omega arith),
      refl,
    ))

module _ (tokens : List Token) (from : ℕ) where
  pub free_holds : (code : FreeCode) → HasId tokens from (free_text code) →
      Holds 16 16 (λ tokens. SpellsMaybe (SpellsBracketedNumber tokens)) SpellsFmt tokens from (from + 1)
  free_holds code stands =
      ends_with (λ tokens. SpellsMaybe (SpellsBracketedNumber tokens)) SpellsFmt tokens from (from + 1) (omega arith)
      (λ others stop near long alike x h.
      let at = placed_within others from (omega (arith, near, long)) in
      (Free code x at.0, (at.1, local.what tokens others stop alike from (omega (arith, near)) ∙ stands, h)))

  pub wide_holds : (code : WideCode) → HasId tokens from (wide_text code) →
      Holds 16 16 SpellsBracketedNumber SpellsFmt tokens from (from + 1)
  wide_holds code stands =
      ends_with SpellsBracketedNumber SpellsFmt tokens from (from + 1) (omega arith)
      (λ others stop near long alike x h.
      let at = placed_within others from (omega (arith, near, long)) in
      (Wide code x at.0, (at.1, local.what tokens others stop alike from (omega (arith, near)) ∙ stands, h)))

pub only_wide : (tokens : List Token) (from : ℕ) →
    ((code : FreeCode) → HasId tokens from (free_text code) → ⊥) → (x : Fmt) (to : ℕ) →
    SpellsFmt tokens from x to →
    (number : Number) × SpellsBracketedNumber tokens (from + 1) number to
only_wide tokens from none (Free code width place) to h = absurd (none code h.1)
only_wide tokens from none (Wide code width place) to h = (width, h.2)

-- ---- a priority that may be missing

abbrev pub maybe_prio : List Token → Spelling (Option Prio)
maybe_prio tokens = SpellsMaybe (SpellsPrio tokens)

maybe_prio_is_local : IsLocal maybe_prio
maybe_prio_is_local = local_of 0 maybe_prio
    (λ tokens others k alike. maybe_keeps tokens others k alike 2 SpellsPrio (prio_keeps tokens others k alike))

module _ (tokens : List Token) (from : ℕ) where
  abbrev pub PrioRead : Reading (Option Prio) → Type 0
  PrioRead prio = ReadsMaybePart 16 maybe_prio (is_word w.PRIO) tokens from (Ok prio)

  pub prio_reads : (read : Result (Reading Prio) Halt) (maybe : Reading (Option Prio)) → IsOptional from read maybe →
      ReadsOnly 16 SpellsPrio tokens from read → PrioRead maybe
  prio_reads = maybe_reads SpellsPrio (is_word w.PRIO) tokens from (λ x to h. ap (is_word w.PRIO) h.1)

-- behind MAIN
module _ (tokens : List Token) (from : ℕ) (main : HasWord tokens from w.MAIN) (prio : Reading (Option Prio))
    (read : PrioRead tokens (from + 1) prio) where
  main_longest : IsLongest SpellsTaskHead extends_head tokens from prio.end prio.stop
  main_longest = λ others agree x to h. by others agree x to h
    where
      stands : (others : List Token) → BeginAlike tokens others prio.stop → HasWord others from w.MAIN
      stands others agree = sym (agree from (omega (arith, read.bounds))) ∙ main

      as_head : (others : List Token) (to : ℕ) → (to ≡ prio.end) ⊎ EndsEarly (is_word w.PRIO) others prio.end to →
          (to ≡ prio.end) ⊎ EndsEarly extends_head others prio.end to
      as_head others to = ends_as (is_word w.PRIO) extends_head others prio.end to
          (λ token h. or_first (is_word w.PRIO token) (is_word w.MAIN token) h)

      by : (others : List Token) → BeginAlike tokens others prio.stop → (x : TaskHead) (to : ℕ) →
          SpellsTaskHead others from x to → (to ≡ prio.end) ⊎ EndsEarly extends_head others prio.end to
      by others agree (PrioFirst None false) to h =
          let same : to ≡ from = omega (arith, h.1, h.2) in
          inr (
            omega (arith, same, read.bounds),
            subst (λ k. extends_head (what_at others k) ≡ true) (sym same) (ap extends_head (stands others agree)),
          )
      by others agree (PrioFirst None true) to h =
          let next : to ≡ from + 1 = omega (arith, h.1, h.2.1) in
          as_head others to (read.longest others agree None to next)
      by others agree (PrioFirst (Some part) main) to h =
          absurd (clash _ (ap (is_word w.PRIO) h.1.1) (ap (is_word w.PRIO) (stands others agree)))
      by others agree (MainFirst part) to h = as_head others to (read.longest others agree (Some part) to h.1)

  main_goes : GoesTo SpellsTaskHead tokens from prio.end prio.stop
  main_goes =
      goes_as maybe_prio SpellsTaskHead tokens from (from + 1) prio.end prio.stop
      (reaches_as maybe_prio SpellsTaskHead tokens from (from + 1) prio.stop (omega arith)
      (λ others alike long short x h. made others (local.what tokens others prio.stop alike from
      (omega (arith, read.bounds)) ∙ main) x h)) read.least
    where
      made : (others : List Token) → HasWord others from w.MAIN → (x : Option Prio) →
          maybe_prio others (from + 1) x (length others) →
          (head : TaskHead) × SpellsTaskHead others from head (length others)
      made others stands None h = (PrioFirst None true, (from, refl, (stands, h)))
      made others stands (Some x) h = (MainFirst x, (stands, h))

  pub main_reads : (head : TaskHead) → SpellsTaskHead tokens from head prio.end →
      ReadsMaybePart 16 SpellsTaskHead extends_head tokens from
      (Ok (record { part = head; end = prio.end; stop = prio.stop }))
  main_reads head spells = record {
    spells = spells;
    longest = main_longest;
    bounds = (
      omega (arith, read.bounds),
      omega (arith, read.bounds),
      omega (arith, read.bounds),
      omega (arith, read.bounds),
    );
    refused = tt;
    least = main_goes;
  }

-- before MAIN, which may be missing
module _ (tokens : List Token) (from : ℕ) (none : is_word w.MAIN (what_at tokens from) ≡ false)
    (prio : Reading (Option Prio)) (read : PrioRead tokens from prio) (main : Reading Bool)
    (flag : ReadsMaybePart 16 (λ tokens. SpellsFlag tokens w.MAIN) (is_word w.MAIN) tokens prio.end (Ok main))
    (stop : ℕ) (is : stop ≡ max main.stop prio.stop) where
  head_longest : IsLongest SpellsTaskHead extends_head tokens from main.end stop
  head_longest = λ others agree x to h. by others agree x to h
    where
      by : (others : List Token) → BeginAlike tokens others stop → (x : TaskHead) (to : ℕ) →
          SpellsTaskHead others from x to → (to ≡ main.end) ⊎ EndsEarly extends_head others main.end to
      by others agree (PrioFirst part stands) to h =
          last (is_word w.PRIO) (is_word w.MAIN) others h.0 prio.end main.end to (omega (arith, flag.bounds))
          (no_flag (is_word w.PRIO) w.MAIN refl others h.0 stands to h.2)
          (read.longest others (shorter tokens others prio.stop stop (omega (arith, is)) agree) part h.0 h.1)
          (λ here. flag.longest others (shorter tokens others main.stop stop (omega (arith, is)) agree) stands to
          (subst (λ k. SpellsFlag others w.MAIN k stands to) here h.2))
      by others agree (MainFirst part) to h =
          absurd (clash _ (ap (is_word w.MAIN) h.0)
          (ap (is_word w.MAIN) (sym (agree from (omega (arith, is, read.bounds)))) ∙ none))

  head_goes : main.stop ≡ main.end → GoesTo SpellsTaskHead tokens from main.end stop
  head_goes once =
      goes_max SpellsTaskHead tokens from prio.stop main.end stop (omega (arith, is, once))
      (reaches_as maybe_prio SpellsTaskHead tokens from from prio.stop (omega arith)
      (λ others alike long short x h. (PrioFirst x false, (length others, h, refl)))
      (reach_of maybe_prio tokens maybe_prio_is_local from prio.part prio.end prio.stop read.spells
      (omega (arith, read.bounds)) (omega (arith, read.bounds)) read.least))

  pub head_reads : main.stop ≡ main.end →
      ReadsMaybePart 16 SpellsTaskHead extends_head tokens from
      (Ok (record { part = PrioFirst prio.part main.part; end = main.end; stop = stop }))
  head_reads once = record {
    spells = (prio.end, read.spells, flag.spells);
    longest = head_longest;
    bounds = (
      omega (arith, read.bounds, flag.bounds),
      omega (arith, flag.bounds, is),
      omega (arith, read.bounds, is),
      omega (arith, read.bounds, flag.bounds, is),
    );
    refused = tt;
    least = head_goes once;
  }

-- ---- references of statements

pub own_ref_reaches : (tokens : List Token) (from stop : ℕ) → length tokens < 2 ^ 55 → stop ≤ length tokens →
    Reaches (λ tokens. SpellsNamed tokens limit.OWN_BRACKETS_MAX) tokens from stop →
    Reaches SpellsOwnRef tokens from stop
own_ref_reaches tokens from stop few within r =
    reaches_as (λ tokens. SpellsNamed tokens limit.OWN_BRACKETS_MAX) SpellsOwnRef tokens from from stop (omega arith)
    (λ others alike long short xs h.
    let small : length xs < 2 ^ 63 =
    omega (arith, selectors_after others limit.OWN_BRACKETS_MAX (from + 1) xs (length others) h.1) in
    named others limit.OWN_BRACKETS_MAX from xs (length others) h small) r
