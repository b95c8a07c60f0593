-- What is left of a module behind its first parts.
use Rattle.std.proofs.Common.{◌≡◌, ℕ, zero, suc, ◌+◌, ◌<◌, ◌≤◌, Bool, true, false, List, [], ◌∷◌, length, Option, Some}
use Rattle.std.proofs.Common.{None, refl, sym, ap, subst, ◌∙◌, arith}
use Rattle.pearl_tree.specs.declared.declaration.Device.{Device}
use Rattle.pearl_tree.specs.declared.parts.Parts.{Parts}
use Rattle.pearl_tree.specs.declared.tree.Decl.{Decl}
use Rattle.pearl_tree.specs.declared.tree.ModuleName.{ModuleName}
use Rattle.pearl_tree.specs.declared.tree.ModuleName.TheVariants.{Bracketed, Bare}
use Rattle.pearl_tree.specs.declared.tree.Tree.{Tree}
use Rattle.pearl_tree.specs.declared.token.What.{What}
use Rattle.pearl_tree.specs.declared.token.Token.{Token}
use Rattle.pearl_tree.specs.Standing.{Spelling, what_at, IsAt, HasWord, HasSymbol, SpellsEach, SpellsMaybe}
use Rattle.pearl_tree.specs.Declarations.{SpellsDevice}
use Rattle.pearl_tree.specs.Modules.{SpellsDecl, SpellsModuleName, SpellsSystem, SpellsTree, Spells}
use Rattle.pearl_tree.specs.declared.symbol.TheConstants as s
use Rattle.pearl_tree.specs.declared.word_code.TheConstants as w
use Rattle.pearl_parse_expr.specs.Stops.{IsLongest, IsOnly, is_name, is_symbol, is_word}
use Rattle.pearl_parse_expr.proofs.Offered.{no_token, clash}
use Rattle.pearl_parse.specs.Modules.{begins_declaration, begins_module_name, SpellsOptionalName, SpellsHead}
use Rattle.pearl_parse.specs.Modules.{SpellsOptionalSystem, SpellsOpening, SpellsEnding, SpellsSource, is_end}
use Rattle.pearl_grammar.proofs.Offered.{Rest, Ends, Next}
use Rattle.pearl_parse.proofs.Steps.{Goes, Avoids, past, past_only}
use Rattle.pearl_parse.proofs.StatementRests.{exit_rest}
use Rattle.pearl_parse.proofs.BlockRests.{longest_later}

-- ---- the name

-- id ")"
abbrev pub bracketed_rest : Rest
bracketed_rest others at to =
    (is_name (what_at others at) ≡ true) × HasSymbol others (at + 1) s.RIGHT_ROUND × (to ≡ at + 2)

-- [ "(" id ")" | id ] ";"
abbrev pub name_rest : Rest
name_rest = Next SpellsOptionalName exit_rest

-- MODULE [ "(" id ")" | id ] ";"
abbrev pub head_rest : Rest
head_rest others at to = HasWord others at w.MODULE × name_rest others (at + 1) to

optional_name : (others : List Token) (from : ℕ) (name : Option ModuleName) (a : ℕ) → SpellsMaybe
    (SpellsModuleName others) from name a → HasSymbol others a s.SEMICOLON → SpellsOptionalName others from name a
optional_name others from None a h i = (h, ap begins_module_name (subst (λ k. HasSymbol others k s.SEMICOLON) h i))
optional_name others from (Some name) a h i = h

module _ (tokens : List Token) (from : ℕ) where
  pub bracketed_goes : HasSymbol tokens from s.LEFT_ROUND → Goes SpellsOptionalName tokens from bracketed_rest
      (from + 1) from
  bracketed_goes here = λ others agree x to h. by others x to (sym (agree from (omega arith)) ∙ here) h
    where
      two : from + 2 ≡ from + 1 + 1
      two = omega arith

      by : (others : List Token) (x : Option ModuleName) (to : ℕ) → HasSymbol others from s.LEFT_ROUND →
          SpellsOptionalName others from x to → bracketed_rest others (from + 1) to
      by others None to here h = absurd (clash _ (ap begins_module_name here) h.1)
      by others (Some (Bracketed name)) to here h = (
        ap is_name h.1.0,
        subst (λ k. HasSymbol others k s.RIGHT_ROUND) two
            h.2,
        omega (arith, h.3),
      )
      by others (Some (Bare name)) to here h = absurd (clash _ (ap is_name h.0.0) (ap is_name here))

  pub bracket_closes : (to : ℕ) → bracketed_rest tokens (from + 1) to → is_symbol s.RIGHT_ROUND
      (what_at tokens (from + 2)) ≡ true
  bracket_closes to h =
      let two : from + 1 + 1 ≡ from + 2 = omega arith in
      subst (λ k. is_symbol s.RIGHT_ROUND (what_at tokens k) ≡ true) two (ap (is_symbol s.RIGHT_ROUND) h.1)

  pub bare_is_only : is_symbol s.LEFT_ROUND (what_at tokens from) ≡ false → is_name (what_at tokens from) ≡ true →
      IsOnly SpellsOptionalName tokens from (from + 1) (from + 1)
  bare_is_only other here = λ others agree x to h.
      by others x to (ap (is_symbol s.LEFT_ROUND) (sym (agree from (omega arith))) ∙ other)
      (ap is_name (sym (agree from (omega arith))) ∙ here) h
    where
      by : (others : List Token) (x : Option ModuleName) (to : ℕ) → is_symbol s.LEFT_ROUND
          (what_at others from) ≡ false → is_name (what_at others from) ≡ true →
          SpellsOptionalName others from x to → to ≡ from + 1
      by others None to other here h = absurd (clash _ (rw (other, here) refl) h.1)
      by others (Some (Bracketed name)) to other here h = absurd (clash _ (ap (is_symbol s.LEFT_ROUND) h.0) other)
      by others (Some (Bare name)) to other here h = h.1

  pub head_goes : Goes SpellsHead tokens from head_rest from from
  head_goes = λ others agree x to h. (h.1, (x, h.0, optional_name others (from + 1) x h.0 h.2 h.3, (h.3, h.4)))

  pub name_goes : Goes SpellsHead tokens from name_rest (from + 1) from
  name_goes = λ others agree x to h. (x, h.0, optional_name others (from + 1) x h.0 h.2 h.3, (h.3, h.4))

pub no_name : (token : Option What) → is_symbol s.LEFT_ROUND token ≡ false → is_name token ≡ false → begins_module_name
    token ≡ false
no_name token bracket name = rw (bracket, name) refl

pub name_begins : (others : List Token) (from : ℕ) (x : ModuleName) (to : ℕ) → SpellsModuleName others from x to →
    begins_module_name (what_at others from) ≡ true
name_begins others from (Bracketed name) to h = ap begins_module_name h.0
name_begins others from (Bare name) to h = ap begins_module_name h.0.0

-- ---- the system part

abbrev pub Devices : List Token → Spelling (List Device)
Devices tokens = SpellsEach (SpellsDevice tokens)

abbrev pub devices_rest : Rest
devices_rest others at to = HasSymbol others at s.SEMICOLON × Next Devices Ends others (at + 1) to

-- PROBLEM ";"
abbrev pub problem_rest : Rest
problem_rest others at to = HasWord others at w.PROBLEM × HasSymbol others (at + 1) s.SEMICOLON × (to ≡ at + 2)

abbrev pub opening_rest : Rest
opening_rest = Next SpellsOptionalSystem problem_rest

pub problem_stops : Avoids is_name problem_rest
problem_stops others at to h = ap is_name h.0

optional_system : (others : List Token) (from : ℕ) (system : Option (Parts Device)) (a : ℕ) → SpellsMaybe
    (SpellsSystem others) from system a → HasWord others a w.PROBLEM → SpellsOptionalSystem others from system a
optional_system others from None a h i = (h, ap (is_word w.SYSTEM) (subst (λ k. HasWord others k w.PROBLEM) h i))
optional_system others from (Some system) a h i = h

module _ (tokens : List Token) (from : ℕ) where
  pub devices_go : Goes SpellsSystem tokens from devices_rest (from + 1) from
  devices_go = λ others agree x to h.
      let two : from + 2 ≡ from + 1 + 1 = omega arith in
      (h.1, (x.items.items, to, subst (λ k. Devices others k x.items.items to) two h.2, refl))

  pub system_is_longest : (end stop : ℕ) → IsLongest Devices is_name tokens (from + 2) end stop → IsLongest SpellsSystem
      is_name tokens from end stop
  system_is_longest end stop longest = λ others agree x to h. longest others agree x.items.items to h.2

  pub opening_goes : Goes SpellsOpening tokens from opening_rest from from
  opening_goes = λ others agree x to h. (x, h.0, optional_system others from x h.0 h.1 h.2, (h.2, h.3, h.4))

pub system_begins : (others : List Token) (from : ℕ) (x : Parts Device) (to : ℕ) → SpellsSystem others from x to →
    is_word w.SYSTEM (what_at others from) ≡ true
system_begins others from x to h = ap (is_word w.SYSTEM) h.0

-- ---- the end

-- no token
abbrev pub end_of_tokens_rest : Rest
end_of_tokens_rest others at to = (to ≡ at) × (to ≡ length others)

-- MODEND
abbrev pub ending_rest : Rest
ending_rest others at to = HasWord others at w.MODEND

pub is_end_of_tokens : (others : List Token) (at to : ℕ) → end_of_tokens_rest others at to →
    is_end (what_at others at) ≡ true
is_end_of_tokens others at to h = ap is_end (no_token others at (omega (arith, h.0, h.1)))

pub some_token : (tokens : List Token) (k : ℕ) → k < length tokens → is_end (what_at tokens k) ≡ false
some_token [] k within = absurd (omega arith)
some_token (x ∷ xs) zero within = refl
some_token (x ∷ xs) (suc k) within = some_token xs k (omega (arith, within))

module _ (tokens : List Token) (from : ℕ) where
  pub ending_goes : (least_stop : ℕ) → Goes SpellsEnding tokens from ending_rest from least_stop
  ending_goes least_stop = λ others agree x to h. h.0

  pub closed_goes : (stop : ℕ) → from + 1 ≤ stop → HasSymbol tokens (from + 1) s.SEMICOLON → Goes SpellsEnding tokens
      from end_of_tokens_rest (from + 2) stop
  closed_goes stop near here = λ others agree x to h. by others x to (sym (agree (from + 1) near) ∙ here) h
    where
      by : (others : List Token) (x : Bool) (to : ℕ) → HasSymbol others (from + 1) s.SEMICOLON → SpellsEnding others
          from x to → end_of_tokens_rest others (from + 2) to
      by others false to here h = absurd (let e = sym (no_token others (from + 1) (omega (arith, h.1, h.2))) ∙
          here in cc e)
      by others true to here h = (omega (arith, h.1.1), h.2)

  pub open_goes : (stop : ℕ) → from + 1 ≤ stop → is_symbol s.SEMICOLON (what_at tokens (from + 1)) ≡ false →
      Goes SpellsEnding tokens from end_of_tokens_rest (from + 1) stop
  open_goes stop near other = λ others agree x to h. by others x to
      (ap (is_symbol s.SEMICOLON) (sym (agree (from + 1) near)) ∙ other) h
    where
      by : (others : List Token) (x : Bool) (to : ℕ) → is_symbol s.SEMICOLON (what_at others (from + 1)) ≡ false →
          SpellsEnding others from x to → end_of_tokens_rest others (from + 1) to
      by others false to other h = (h.1, h.2)
      by others true to other h = absurd (clash _ (ap (is_symbol s.SEMICOLON) h.1.0) other)

-- ---- the whole module

abbrev pub Declarations : List Token → Spelling (List Decl)
Declarations tokens = SpellsEach (SpellsDecl tokens)

abbrev pub last_rest : Rest
last_rest = Next SpellsEnding Ends

abbrev pub list_rest : Rest
list_rest = Next Declarations last_rest

abbrev pub problems_rest : Rest
problems_rest = Next SpellsOpening list_rest

abbrev pub source_rest : Rest
source_rest = Next SpellsHead problems_rest

pub ending_stops : Avoids begins_declaration last_rest
ending_stops others at to h = ap begins_declaration h.2.0

module _ (others : List Token) where
  pub as_source : (from : ℕ) (tree : Tree) (to : ℕ) → SpellsSource others from tree to → source_rest others from to
  as_source from tree to h =
      let whole = h.0 in (
        tree.name,
        whole.0 + 1,
        (whole.0, whole.4, whole.5, whole.6, refl),
        (
          tree.system,
          whole.1 + 2,
          (whole.1, whole.7, whole.8, whole.9, refl),
          (tree.declarations.items.items, whole.2, whole.10, (tree.semicolon, to, (whole.11, whole.13, h.1), refl)),
        ),
      )

  pub as_tree : (tree : Tree) (a b c : ℕ) → IsAt others 0 tree.place → IsAt others c tree.modend → SpellsHead others 0
      tree.name a → SpellsOpening others a tree.system b →
      Declarations others b tree.declarations.items.items c → (to : ℕ) → SpellsEnding others c tree.semicolon to →
      SpellsSource others 0 tree to
  as_tree tree a b c place modend head opening list to ending = (
    (
      head.0,
      opening.0,
      c,
      place,
      head.1,
      head.2,
      head.3,
      subst (λ k. SpellsMaybe (SpellsSystem others) k tree.system opening.0) head.4 opening.1,
      opening.2,
      opening.3,
      subst (λ k. Declarations others k tree.declarations.items.items c) opening.4 list,
      ending.0,
      modend,
      ending.1,
    ),
    ending.2,
  )

  -- a source is the tree of all its tokens
  pub source_spells : (tree : Tree) (to : ℕ) → SpellsSource others 0 tree to → Spells tree others
  source_spells tree to h = record { spells = subst (λ k. SpellsTree others 0 tree k) h.1 h.0 }

module _ (tokens : List Token) where
  pub source_goes : Goes SpellsSource tokens 0 source_rest 0 0
  source_goes = λ others agree tree to h. as_source others 0 tree to h

  -- behind the declarations
  pub last_goes : (a first b second c third new : ℕ) → first ≤ second → second ≤ new → third ≤ new → IsOnly SpellsHead
      tokens 0 a first →
      IsOnly SpellsOpening tokens a b second → IsLongest Declarations begins_declaration tokens b c third →
      Goes SpellsSource tokens 0 last_rest c new
  last_goes a first b second c third new near below reach head opening list =
      let problems = past_only SpellsSource tokens 0 SpellsHead problems_rest 0 0 a first source_goes (omega arith) head
      in
      let listed = past_only SpellsSource tokens 0 SpellsOpening list_rest a first b second problems near opening in
      past SpellsSource tokens 0 Declarations begins_declaration last_rest b second c new listed below
      (longest_later Declarations begins_declaration tokens b c third new reach list) ending_stops
