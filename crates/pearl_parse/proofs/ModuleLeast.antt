-- What stands around the declarations of a module, and the module: what completes them behind their first parts.
use Rattle.std.proofs.Common.{◌≡◌, ℕ, ◌+◌, ◌<◌, ◌≤◌, ◌^◌, inl, max, true, false, List, length, Option, Some, None, refl}
use Rattle.std.proofs.Common.{sym, subst, ◌∙◌, arith}
use Rattle.pearl_tree.specs.declared.declaration.Device.{Device}
use Rattle.pearl_tree.specs.declared.name.Name.{Name}
use Rattle.pearl_tree.specs.declared.parts.Parts.{Parts}
use Rattle.pearl_tree.specs.declared.tree.Decl.{Decl}
use Rattle.pearl_tree.specs.declared.tree.ModuleName.{ModuleName}
use Rattle.pearl_tree.specs.declared.tree.ModuleName.TheVariants.{Bracketed}
use Rattle.pearl_tree.specs.declared.token.Token.{Token}
use Rattle.pearl_tree.specs.Standing.{Spelling, HasWord, HasSymbol, IsName, SpellsName, SpellsMaybe, SpellsEach}
use Rattle.pearl_tree.specs.Standing.{SpellsSymbolFlag}
use Rattle.pearl_tree.specs.Modules.{SpellsDecl, SpellsModuleName, SpellsSystem, SpellsTree}
use Rattle.pearl_tree.specs.declared.symbol.TheConstants as s
use Rattle.pearl_tree.specs.declared.word_code.TheConstants as w
use Rattle.pearl_parse_expr.specs.declared.reading.Halt.{Halt}
use Rattle.pearl_parse_expr.specs.Stops.{IsHalted, is_word, is_symbol, is_name}
use Rattle.pearl_parse_expr.specs.Least.{ReachesIn, GoesIn, HaltsIn}
use Rattle.pearl_parse_expr.proofs.Offered as local
use Rattle.pearl_parse_expr.proofs.Offered.{IsLocal}
use Rattle.pearl_parse_decl.proofs.Offered.{Kept, local_of, each_keeps, maybe_keeps, symbol_flag_keeps}
use Rattle.pearl_parse.specs.Stops.{IsMissing}
use Rattle.pearl_parse.specs.Modules.{SpellsOptionalName, SpellsHead, SpellsOpening, SpellsClose, SpellsSource, is_end}
use Rattle.pearl_parse.specs.Modules.{begins_module_name}
use Rattle.pearl_grammar.specs.Reached.{GoesBehind, HaltsBehind}
use Rattle.pearl_grammar.proofs.Offered.{Rest, Ends, Next, Fills, Makes, ends_fill, fills_as, State, first, past_part}
use Rattle.pearl_grammar.proofs.Offered.{halt_part}
use Rattle.pearl_parse.proofs.LocalModules.{module_name_keeps, system_keeps, decl_keeps}
use Rattle.pearl_parse.proofs.Comes.{BehindWord, BehindSymbol, Maybe, fills_word}
use Rattle.pearl_parse.proofs.Comes.{fills_symbol, fills_name, fills_maybe}
use Rattle.pearl_parse.proofs.ModulesMade.{module_made}
use Rattle.pearl_parse.proofs.Made.{semicolon}
use Rattle.pearl_parse.proofs.Tails.{fills_each, semicolon_fills, bracket_fills}
use Rattle.pearl_parse.proofs.NestedLeast.{told_from}
use Rattle.pearl_parse.proofs.DeclarationLeast.{as_rest}
use Rattle.pearl_parse.proofs.Optional.{maybe_of}
use Rattle.pearl_parse.proofs.States.{past_word, past_symbol, past_name, past_first}
use Rattle.pearl_parse.proofs.States.{halt_token, halt_first, halts_behind_as}

-- ---- "(" id ")"

abbrev closing : Rest
closing = BehindSymbol s.RIGHT_ROUND Ends

bracketed_made : Makes (Maybe SpellsModuleName) (BehindSymbol s.LEFT_ROUND (Next SpellsName closing))
bracketed_made others from to small h =
    let name = h.1 in
    let two : name.1 ≡ from + 2 = omega (arith, name.2.1) in (
      Some (Bracketed name.0),
      (
        h.0,
        name.2.0,
        subst (λ k. HasSymbol others k s.RIGHT_ROUND) two name.3.0,
        omega (arith, two, name.3.1),
      ),
    )

module _ (tokens : List Token) (from : ℕ) (here : HasSymbol tokens from s.LEFT_ROUND) (inside : from < length tokens)
    (few : length tokens < 2 ^ 55) where
  bracket_begun : State 16 (Maybe SpellsModuleName) tokens from 0 (Next SpellsName closing) (from + 1) from
  bracket_begun =
      past_symbol 16 (Maybe SpellsModuleName) tokens from 0 s.LEFT_ROUND (Next SpellsName closing) from from (from + 1)
      (omega arith)
      (first 16 (Maybe SpellsModuleName) tokens from 0 (BehindSymbol s.LEFT_ROUND (Next SpellsName closing)) from from
      bracketed_made (omega arith) (omega arith) (omega arith) (omega arith) few) here inside

  pub no_bracketed : (halt : Halt) → IsMissing tokens is_name (from + 1) from halt → HaltsBehind 16
      (Maybe SpellsModuleName) tokens from 0 halt
  no_bracketed halt h =
      halt_token 16 (Maybe SpellsModuleName) tokens from 0 2 (Next SpellsName closing)
      (fills_name 1 closing bracket_fills) (omega arith) is_name (from + 1) from halt bracket_begun h

  pub no_bracket : (name : Name) → IsName tokens (from + 1) name → from + 1 < length tokens → (halt : Halt) →
      IsMissing tokens (is_symbol s.RIGHT_ROUND) (from + 2) from halt →
      HaltsBehind 16 (Maybe SpellsModuleName) tokens from 0 halt
  no_bracket name named within halt h =
      halt_token 16 (Maybe SpellsModuleName) tokens from 0 1 closing bracket_fills (omega arith)
      (is_symbol s.RIGHT_ROUND) (from + 2) from halt
      (past_name 16 (Maybe SpellsModuleName) tokens from 0 name closing (from + 1) from (from + 2) (omega arith)
      bracket_begun named within) h

-- ---- MODULE [ name ] ";"

name_is_local : IsLocal (Maybe SpellsModuleName)
name_is_local = local_of 0 (Maybe SpellsModuleName) (λ tokens others k alike. maybe_keeps tokens others k alike 1
    SpellsModuleName (module_name_keeps tokens others k alike))

abbrev named : Rest
named = Next (Maybe SpellsModuleName) semicolon

title_made : Makes SpellsHead (BehindWord w.MODULE named)
title_made others from to small h = (h.1.0, (h.1.1, h.0, h.1.2, h.1.3.0, h.1.3.1))

module _ (tokens : List Token) (from : ℕ) (inside : from ≤ length tokens) (few : length tokens < 2 ^ 55) where
  title_first : State 16 SpellsHead tokens from 0 (BehindWord w.MODULE named) from from
  title_first = first 16 SpellsHead tokens from 0 (BehindWord w.MODULE named) from from title_made (omega arith)
      (omega arith) (omega arith) inside few

  pub no_module : (halt : Halt) → IsMissing tokens (is_word w.MODULE) from from halt → HaltsBehind 16 SpellsHead tokens
      from 0 halt
  no_module halt h =
      halt_token 16 SpellsHead tokens from 0 2 (BehindWord w.MODULE named)
      (fills_word 1 named (fills_maybe 1 semicolon semicolon_fills SpellsModuleName) w.MODULE (omega arith))
      (omega arith) (is_word w.MODULE) from from halt
      title_first h

  module _ (here : HasWord tokens from w.MODULE) (within : from < length tokens) where
    title_begun : State 16 SpellsHead tokens from 0 named (from + 1) from
    title_begun = past_word 16 SpellsHead tokens from 0 w.MODULE named from from (from + 1) (omega arith) title_first
        here within

    pub no_title : (halt : Halt) → IsHalted SpellsOptionalName tokens (from + 1) halt → HaltsIn 16
        (Maybe SpellsModuleName) tokens (from + 1) halt → HaltsBehind 16 SpellsHead tokens from 0 halt
    no_title halt h r =
        halt_first 16 SpellsHead tokens from 0 1 16 (Maybe SpellsModuleName) semicolon name_is_local semicolon_fills
        (omega arith) (from + 1) from (omega arith) title_begun SpellsOptionalName halt (omega arith) h r

    pub no_title_end : (x : Option ModuleName) (end stop : ℕ) → SpellsOptionalName tokens (from + 1) x end →
        from + 1 ≤ end → stop ≡ end → stop ≤ length tokens → (halt : Halt) →
        IsMissing tokens (is_symbol s.SEMICOLON) end stop halt → HaltsBehind 16 SpellsHead tokens from 0 halt
    no_title_end x end stop h ahead close reach halt missing =
        halt_token 16 SpellsHead tokens from 0 1 semicolon semicolon_fills (omega arith) (is_symbol s.SEMICOLON) end
        stop
        halt
        (past_first 16 SpellsHead tokens from 0 1 16 (Maybe SpellsModuleName) semicolon name_is_local semicolon_fills
        (omega arith) (from + 1) from (omega arith) title_begun x end stop
        (maybe_of begins_module_name SpellsModuleName tokens (from + 1) x end h)
        ahead reach (omega arith) (omega arith) (record { goes = inl close })) missing

-- ---- MODEND [ ";" ]

abbrev flagged : Rest
flagged = Next (λ tokens. SpellsSymbolFlag tokens s.SEMICOLON) Ends

flag_fills : Fills 0 flagged
flag_fills = fills_as 0 Ends ends_fill flagged (λ others k to h. (false, k, refl, h))

close_made : Makes SpellsClose (BehindWord w.MODEND flagged)
close_made others from to small h =
    (h.1.0, (h.0, subst (λ k. SpellsSymbolFlag others s.SEMICOLON (from + 1) h.1.0 k) (sym h.1.3) h.1.2))

module _ (tokens : List Token) (from low : ℕ) (inside : from ≤ length tokens) (few : length tokens < 2 ^ 55) where
  close_first : State 8 SpellsClose tokens from low (BehindWord w.MODEND flagged) from low
  close_first = first 8 SpellsClose tokens from low (BehindWord w.MODEND flagged) 0 low close_made (omega arith)
      (omega arith) (omega arith) inside few

  pub no_modend : (halt : Halt) → IsMissing tokens (is_word w.MODEND) from low halt → HaltsBehind 8 SpellsClose tokens
      from low halt
  no_modend halt h = halt_token 8 SpellsClose tokens from low 1 (BehindWord w.MODEND flagged)
      (fills_word 0 flagged flag_fills w.MODEND (omega arith)) (omega arith) (is_word w.MODEND) from low halt
      close_first h

  module _ (here : HasWord tokens from w.MODEND) (within : from < length tokens) (new : ℕ)
      (is : new ≡ max low (from + 1)) where
    close_begun : State 8 SpellsClose tokens from low flagged (from + 1) new
    close_begun =
        told_from 8 SpellsClose tokens from low flagged (from + 1) low (from + 1) new
        (past_word 8 SpellsClose tokens from low w.MODEND flagged from low (from + 1) (omega arith) close_first here
        within) (omega (arith, is)) (omega arith)

    pub no_source_end : (halt : Halt) → IsMissing tokens is_end (from + 1) new halt → HaltsBehind 8 SpellsClose tokens
        from low halt
    no_source_end halt h =
        halt_token 8 SpellsClose tokens from low 0 Ends ends_fill (omega arith) is_end (from + 1) new halt
        (as_rest 8 SpellsClose tokens from low flagged Ends (from + 1) new (λ others k to h. (false, k, refl, h))
        close_begun) h

    pub no_end_behind : HasSymbol tokens (from + 1) s.SEMICOLON → from + 1 < length tokens → (halt : Halt) →
        IsMissing tokens is_end (from + 2) new halt → HaltsBehind 8 SpellsClose tokens from low halt
    no_end_behind symbol inner halt h =
        halt_token 8 SpellsClose tokens from low 0 Ends ends_fill (omega arith) is_end (from + 2) new halt
        (past_symbol 8 SpellsClose tokens from low s.SEMICOLON Ends (from + 1) new (from + 2) (omega arith)
        (as_rest 8 SpellsClose tokens from low flagged (BehindSymbol s.SEMICOLON Ends) (from + 1) new
        (λ others k to h. (true, k + 1, (h.0, refl), h.1)) close_begun) symbol inner) h

-- all tokens were read
pub close_goes : (tokens : List Token) (from low end : ℕ) → low ≤ end → GoesBehind 8 SpellsClose tokens from low end end
close_goes tokens from low end below = (end, omega arith, record { goes = inl refl }, omega (arith, below))

-- ---- the module

title_kept : Kept 2 SpellsHead
title_kept tokens others k alike from x to h near =
    let part = maybe_keeps tokens others k alike 1 SpellsModuleName (module_name_keeps tokens others k alike) (from + 1)
    x h.0 h.2 (omega (arith, h.4)) in
    let below : h.0 < k = omega (arith, h.4) in
    let behind : from < h.0 = omega (arith, part.0) in (
      omega (arith, part.0, h.4),
      (
        h.0,
        local.what tokens others k alike from (omega arith) ∙ h.1,
        part.1,
        local.what
            tokens others k alike h.0 below ∙ h.3,
        h.4,
      ),
    )

opened_kept : Kept 2 SpellsOpening
opened_kept tokens others k alike from x to h near =
    let part = maybe_keeps tokens others k alike 2 SpellsSystem (system_keeps tokens others k alike) from x h.0 h.1
    (omega (arith, h.4)) in
    let below : h.0 + 1 < k = omega (arith, h.4) in (
      omega (arith, part.0, h.4),
      (
        h.0,
        part.1,
        local.what tokens others k alike h.0 (omega arith) ∙ h.2,
        local.what
            tokens others k alike (h.0 + 1) below ∙ h.3,
        h.4,
      ),
    )

close_kept : Kept 1 SpellsClose
close_kept tokens others k alike from x to h near =
    let part = symbol_flag_keeps tokens others k alike s.SEMICOLON (from + 1) x to h.1 near in
    let below : from < k = omega (arith, part.0) in
    (omega (arith, part.0), (local.what tokens others k alike from below ∙ h.0, part.1))

abbrev Decls : List Token → Spelling (List Decl)
Decls tokens = SpellsEach (SpellsDecl tokens)

decls_are_local : IsLocal Decls
decls_are_local = local_of 0 Decls (λ tokens others k alike. each_keeps tokens others k alike 4 SpellsDecl
    (decl_keeps tokens others k alike))

abbrev close_rest : Rest
close_rest = Next SpellsClose Ends

abbrev decls_rest : Rest
decls_rest = Next Decls close_rest

abbrev opened_rest : Rest
opened_rest = Next SpellsOpening decls_rest

tree_made : Makes SpellsTree (Next SpellsHead opened_rest)
tree_made others from to small h =
    let t = h.2 in
    let o = h.3 in
    let d = o.3 in
    let e = d.3 in
    let two : o.1 ≡ o.2.0 + 1 + 1 = omega (arith, o.2.4) in
    module_made others from to small (
      t.1,
      (
        h.0,
        t.0,
        t.2,
        (
          t.3,
          (
            o.0,
            o.2.0,
            subst (λ k. SpellsMaybe (SpellsSystem others) k o.0 o.2.0) t.4 o.2.1,
            (
              o.2.2,
              (
                o.2.3,
                (
                  d.0,
                  d.1,
                  subst (λ k. SpellsEach (SpellsDecl others) k d.0 d.1) two d.2,
                  (e.2.0, (e.0, e.1, e.2.1, e.3)),
                ),
              ),
            ),
          ),
        ),
      ),
    )

close_rest_fills : Fills 1 close_rest
close_rest_fills = fills_as 1 (BehindWord w.MODEND Ends) (fills_word 0 Ends ends_fill w.MODEND (omega arith)) close_rest
    (λ others k to h. (false, k + 1, (h.0, refl), h.1))

decls_fill : Fills 1 decls_rest
decls_fill = fills_each 1 close_rest close_rest_fills SpellsDecl

opened_fills : Fills 3 opened_rest
opened_fills =
    fills_as 3 (BehindWord w.PROBLEM (BehindSymbol s.SEMICOLON decls_rest))
    (fills_word 2 (BehindSymbol s.SEMICOLON decls_rest) (fills_symbol 1 decls_rest decls_fill s.SEMICOLON
    (omega arith)) w.PROBLEM (omega arith))
    opened_rest
    (λ others k to h. let two : k + 1 + 1 ≡ k + 2 = omega arith in (
      None,
      k + 2,
      (k, refl, h.0, h.1.0, refl),
      subst (λ j. decls_rest others j to) two h.1.1,
    ))

module _ (tokens : List Token) (few : length tokens < 2 ^ 55) where
  abbrev pub Module : Rest → ℕ → ℕ → Type 0
  Module = State 24 SpellsTree tokens 0 0

  module_first : Module (Next SpellsHead opened_rest) 0 0
  module_first = first 24 SpellsTree tokens 0 0 (Next SpellsHead opened_rest) 0 0 tree_made (omega arith) (omega arith)
      (omega arith) (omega arith) few

  pub head_halts : (halt : Halt) → IsHalted SpellsHead tokens 0 halt → HaltsIn 16 SpellsHead tokens 0 halt → HaltsBehind
      24 SpellsTree tokens 0 0 halt
  head_halts halt h r =
      halt_first 24 SpellsTree tokens 0 0 3 16 SpellsHead opened_rest (local_of 2 SpellsHead title_kept) opened_fills
      (omega arith) 0 0 (omega arith) module_first SpellsHead halt (omega arith) h r

  pub past_title : (x : Option ModuleName) (end stop : ℕ) → SpellsHead tokens 0 x end → 0 ≤ end → stop ≡ end →
      stop ≤ length tokens → Module opened_rest end stop
  past_title x end stop h ahead close reach =
      past_first 24 SpellsTree tokens 0 0 3 16 SpellsHead opened_rest (local_of 2 SpellsHead title_kept) opened_fills
      (omega arith) 0 0 (omega arith) module_first x end stop h ahead reach
      (omega arith) (omega arith) (record { goes = inl close })

  module _ (at stop : ℕ) (behind : 0 < at) (below : stop ≤ at) (a : Module opened_rest at stop) where
    pub opening_halts : (halt : Halt) → IsHalted SpellsOpening tokens at halt → HaltsIn 24 SpellsOpening tokens at
        halt → HaltsBehind 24 SpellsTree tokens 0 0 halt
    opening_halts halt h r =
        halt_first 24 SpellsTree tokens 0 0 1 24 SpellsOpening decls_rest (local_of 2 SpellsOpening opened_kept)
        decls_fill (omega arith) at stop (omega arith) a SpellsOpening halt below h r

    pub past_opening : (x : Option (Parts Device)) (end new : ℕ) → SpellsOpening tokens at x end → at ≤ end →
        end ≤ new → new ≤ length tokens → GoesIn 24 SpellsOpening tokens at end new → Module decls_rest end new
    past_opening x end new h ahead near reach g =
        past_first 24 SpellsTree tokens 0 0 1 24 SpellsOpening decls_rest (local_of 2 SpellsOpening opened_kept)
        decls_fill (omega arith) at stop (omega arith) a x end new h ahead reach below near g

  pub past_decls : (at stop : ℕ) → 0 < at → Module decls_rest at stop → (xs : List Decl) (end own new : ℕ) →
      Decls tokens at xs end → at ≤ end → end ≤ own → new ≤ length tokens → GoesIn 24 Decls tokens at end own →
      new ≡ max own stop → Module close_rest end new
  past_decls at stop behind a xs end own new h ahead near reach g is =
      past_part 24 SpellsTree tokens 0 0 1 24 Decls close_rest decls_are_local close_rest_fills (omega arith) at stop
      (omega arith) a xs end new h ahead reach (own, near, g, is)

  pub close_halts : (at stop : ℕ) → Module close_rest at stop → (halt : Halt) → HaltsBehind 8 SpellsClose tokens at stop
      halt → HaltsBehind 24 SpellsTree tokens 0 0 halt
  close_halts at stop a = halt_part 24 SpellsTree tokens 0 0 0 8 SpellsClose Ends (local_of 1 SpellsClose close_kept)
      ends_fill (omega arith) at stop (omega arith) a

  -- the tokens of a module are a source
  source_reaches : (stop : ℕ) → 0 ≤ stop → ReachesIn 24 SpellsTree tokens 0 stop →
      ReachesIn 24 SpellsSource tokens 0 stop
  source_reaches stop near r = record {
    others = r.others;
    alike = r.alike;
    long = r.long;
    short = r.short;
    lawful = r.lawful;
    part = r.part;
    spelled = (r.spelled, refl);
  }

  pub source_halts : (halt : Halt) → HaltsBehind 24 SpellsTree tokens 0 0 halt →
      HaltsBehind 24 SpellsSource tokens 0 0 halt
  source_halts = halts_behind_as 24 24 SpellsTree SpellsSource tokens 0 0 (omega arith) source_reaches 0
