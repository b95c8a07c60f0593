-- Declarations of bodies, tasks and procedures: what completes them behind their first parts.
use Rattle.std.proofs.Common.{◌≡◌, ℕ, ◌+◌, ◌<◌, ◌≤◌, ◌^◌, ◌⊎◌, inl, inr, max, List, [], length, Option}
use Rattle.std.proofs.Common.{Result, Ok, Err, refl, arith}
use Rattle.pearl_tree.specs.declared.declaration.Param.{Param}
use Rattle.pearl_tree.specs.declared.name.Name.{Name}
use Rattle.pearl_tree.specs.declared.statement.Body.{Body}
use Rattle.pearl_tree.specs.declared.tree.TaskHead.{TaskHead}
use Rattle.pearl_tree.specs.declared.typing.Basic.{Basic}
use Rattle.pearl_tree.specs.declared.token.Token.{Token}
use Rattle.pearl_tree.specs.declared.limit.TheConstants as limit
use Rattle.pearl_tree.specs.Standing.{Spelling, HasWord, HasSymbol, IsName, SpellsName}
use Rattle.pearl_tree.specs.Standing.{SpellsMaybeBracketed}
use Rattle.pearl_tree.specs.Declarations.{SpellsParam}
use Rattle.pearl_tree.specs.Statements.{SpellsWholeBody}
use Rattle.pearl_tree.specs.Modules.{SpellsTaskHead, SpellsReturns, SpellsBlock, SpellsDecl}
use Rattle.pearl_tree.specs.declared.symbol.TheConstants as s
use Rattle.pearl_tree.specs.declared.word_code.TheConstants as w
use Rattle.pearl_parse_expr.specs.declared.reading.Halt.{Halt}
use Rattle.pearl_parse_expr.specs.declared.reading.Halt.TheVariants.{Refused, NoMemory}
use Rattle.pearl_parse_expr.specs.declared.reading.Reading.{Reading}
use Rattle.pearl_parse_expr.specs.Stops.{IsHalted, is_word, is_symbol}
use Rattle.pearl_parse_expr.specs.Least.{ReachesIn, GoesIn, HaltsIn, IsLeastIn}
use Rattle.pearl_parse_expr.proofs.Offered.{IsLocal}
use Rattle.pearl_parse_decl.specs.Readings.{behind}
use Rattle.pearl_parse_decl.proofs.Offered.{local_of, maybe_keeps, maybe_bracketed_keeps}
use Rattle.pearl_parse_decl.proofs.Offered.{param_keeps, task_head_keeps, returns_keep}
use Rattle.pearl_parse.specs.Stops.{IsMissing}
use Rattle.pearl_parse.specs.Bodies.{SpellsInner}
use Rattle.pearl_grammar.specs.Reached.{GoesBehind, HaltsBehind}
use Rattle.pearl_grammar.proofs.Offered.{Rest, Ends, Next, Fills, Makes, fills_as, State, first, raised, past_part}
use Rattle.pearl_grammar.proofs.Offered.{halt_part, done}
use Rattle.pearl_parse.proofs.LocalModules.{block_keeps}
use Rattle.pearl_parse.proofs.LocalRests.{inner_keeps}
use Rattle.pearl_parse.proofs.Comes.{BehindWord, BehindSymbol, Maybe, fills_word}
use Rattle.pearl_parse.proofs.Comes.{fills_symbol, fills_maybe}
use Rattle.pearl_parse.proofs.Made.{semicolon}
use Rattle.pearl_parse.proofs.ModulesMade.{block_made, task_made, procedure_made}
use Rattle.pearl_parse.proofs.NestedRests.{closing_rest}
use Rattle.pearl_parse.proofs.Tails.{semicolon_fills, end_fills, inner_fills, block_fills}
use Rattle.pearl_parse.proofs.NestedLeast.{inner_of}
use Rattle.pearl_parse.proofs.States.{past_word, past_symbol, past_name, past_first}
use Rattle.pearl_parse.proofs.States.{halt_token}

-- ---- more room

module _ {X : Type 0} (room more : ℕ) (spells : List Token → Spelling X) (tokens : List Token) (from : ℕ)
    (less : room ≤ more) where
  pub reaches_wider : (stop : ℕ) → ReachesIn room spells tokens from stop → ReachesIn more spells tokens from stop
  reaches_wider stop r =
      record {
        others = r.others;
        alike = r.alike;
        long = r.long;
        short = omega (arith, r.short);
        lawful = r.lawful;
        part = r.part;
        spelled = r.spelled;
      }

  pub least_wider : {Y : Type 0} (result : Result (Reading Y) Halt) → IsLeastIn room spells tokens from result →
      IsLeastIn more spells tokens from result
  least_wider (Ok reading) g = record { goes = by g.goes }
    where
      by : (reading.stop ≡ reading.end) ⊎ ReachesIn room spells tokens from reading.stop →
          (reading.stop ≡ reading.end) ⊎ ReachesIn more spells tokens from reading.stop
      by (inl e) = inl e
      by (inr r) = inr (reaches_wider reading.stop r)
  least_wider (Err NoMemory) h = tt
  least_wider (Err (Refused stop)) h = reaches_wider stop h

-- the same part, told what may be left of it in another way
pub as_rest : {X : Type 0} (room : ℕ) (whole : List Token → Spelling X) (tokens : List Token) (from low : ℕ)
    (rest other : Rest) (at stop : ℕ) →
    ((others : List Token) (k to : ℕ) → other others k to → rest others k to) →
    State room whole tokens from low rest at stop → State room whole tokens from low other at stop
as_rest room whole tokens from low rest other at stop makes a = record {
  own = a.own;
  told = a.told;
  is = a.is;
  comes = λ others alike to small h. a.comes others alike to small (makes others at to h);
  near = a.near;
  inside = a.inside;
  reach = a.reach;
  few = a.few;
  small = a.small;
}

-- ---- ";" body END ";"

inner_is_local : IsLocal (SpellsInner limit.NESTED_MAX)
inner_is_local = local_of 0 (SpellsInner limit.NESTED_MAX) (λ tokens others k alike.
    inner_keeps tokens others k alike limit.NESTED_MAX)

-- a part that is not there, told no earlier than at `low`
behind_halts : {X Y : Type 0} (room : ℕ) (part : List Token → Spelling Y) (spells : List Token → Spelling X)
    (tokens : List Token)
    (at low : ℕ) (halt : Halt) → IsHalted part tokens at halt → HaltsIn room spells tokens at halt →
    HaltsBehind room spells tokens at low (behind halt low)
behind_halts room part spells tokens at low NoMemory h r = tt
behind_halts room part spells tokens at low (Refused k) h r = (k, h.1, h.2, r, omega arith)

module _ (tokens : List Token) (from low : ℕ) (inside : from ≤ length tokens) (few : length tokens < 2 ^ 55) where
  abbrev pub Blocking : Rest → ℕ → ℕ → Type 0
  Blocking = State 24 SpellsBlock tokens from low

  abbrev pub opened : Rest
  opened = Next (SpellsInner limit.NESTED_MAX) (closing_rest w.END)

  block_first : Blocking (BehindSymbol s.SEMICOLON opened) from low
  block_first = first 24 SpellsBlock tokens from low (BehindSymbol s.SEMICOLON opened) 0 low block_made (omega arith)
      (omega arith) (omega arith) inside few

  pub no_opening : (halt : Halt) → IsMissing tokens (is_symbol s.SEMICOLON) from low halt →
      HaltsBehind 24 SpellsBlock tokens from low halt
  no_opening halt h =
      halt_token 24 SpellsBlock tokens from low 3 (BehindSymbol s.SEMICOLON opened)
      (fills_symbol 2 opened (inner_fills limit.NESTED_MAX) s.SEMICOLON (omega arith)) (omega arith)
      (is_symbol s.SEMICOLON) from low halt
      block_first h

  module _ (here : HasSymbol tokens from s.SEMICOLON) (within : from < length tokens) where
    block_begun : Blocking opened (from + 1) low
    block_begun = past_symbol 24 SpellsBlock tokens from low s.SEMICOLON opened from low (from + 1) (omega arith)
        block_first here within

    pub block_halts : (halt : Halt) → IsHalted SpellsWholeBody tokens (from + 1) halt →
        HaltsIn 24 (SpellsInner limit.NESTED_MAX) tokens (from + 1) halt →
        HaltsBehind 24 SpellsBlock tokens from low (behind halt low)
    block_halts halt h r =
        halt_part 24 SpellsBlock tokens from low 2 24 (SpellsInner limit.NESTED_MAX) (closing_rest w.END) inner_is_local
        end_fills (omega arith) (from + 1) low (omega arith) block_begun (behind halt low)
        (behind_halts 24 SpellsWholeBody (SpellsInner limit.NESTED_MAX) tokens (from + 1) low halt h r)

    pub past_body : (body : Body) (end stop new : ℕ) → SpellsWholeBody tokens (from + 1) body end → from + 1 ≤ end →
        end ≤ stop →
        new ≤ length tokens → GoesIn 24 (SpellsInner limit.NESTED_MAX) tokens (from + 1) end stop → new ≡ max stop low →
        Blocking (closing_rest w.END) end new
    past_body body end stop new h ahead near reach g is =
        past_part 24 SpellsBlock tokens from low 2 24 (SpellsInner limit.NESTED_MAX) (closing_rest w.END) inner_is_local
        end_fills (omega arith) (from + 1) low (omega arith) block_begun
        (body.declarations.items.items, body.statements.items.items) end new
        (inner_of tokens limit.NESTED_MAX (from + 1) body end h) ahead reach (stop, near, g, is)

  module _ (at stop : ℕ) (a : Blocking (closing_rest w.END) at stop) where
    pub no_end_word : (halt : Halt) → IsMissing tokens (is_word w.END) at stop halt →
        HaltsBehind 24 SpellsBlock tokens from low halt
    no_end_word halt h = halt_token 24 SpellsBlock tokens from low 2 (closing_rest w.END) end_fills (omega arith)
        (is_word w.END) at stop halt a h

    module _ (word : HasWord tokens at w.END) (reach : at < length tokens) where
      block_ends : Blocking semicolon (at + 1) stop
      block_ends =
          past_word 24 SpellsBlock tokens from low w.END semicolon at stop (at + 1) (omega arith)
          (as_rest 24 SpellsBlock tokens from low (closing_rest w.END) (BehindWord w.END semicolon) at stop
          (λ others k to h. (tt, to, (h.0, h.1.0, omega (arith, h.1.1)), refl)) a) word reach

      pub no_last : (halt : Halt) → IsMissing tokens (is_symbol s.SEMICOLON) (at + 1) stop halt →
          HaltsBehind 24 SpellsBlock tokens from low halt
      no_last halt h = halt_token 24 SpellsBlock tokens from low 1 semicolon semicolon_fills (omega arith)
          (is_symbol s.SEMICOLON) (at + 1) stop halt block_ends h

      pub block_goes : (new : ℕ) → HasSymbol tokens (at + 1) s.SEMICOLON → at + 1 < length tokens →
          new ≡ max stop (at + 2) → GoesBehind 24 SpellsBlock tokens from low (at + 2) new
      block_goes new symbol inner is =
          done 24 SpellsBlock tokens from low (at + 2) stop new
          (past_symbol 24 SpellsBlock tokens from low s.SEMICOLON Ends (at + 1) stop (at + 2) (omega arith) block_ends
          symbol inner) is

-- ---- tasks and procedures

abbrev pub Params : List Token → Spelling (List Param)
Params tokens = SpellsMaybeBracketed tokens (SpellsParam tokens)

abbrev pub block_rest : Rest
block_rest = Next SpellsBlock Ends

abbrev pub returns_rest : Rest
returns_rest = Next (Maybe SpellsReturns) block_rest

abbrev pub proc_rest : Rest
proc_rest = BehindWord w.PROC (Next Params returns_rest)

abbrev pub task_rest : Rest
task_rest = BehindWord w.TASK (Next SpellsTaskHead block_rest)

pub block_is_local : IsLocal SpellsBlock
block_is_local = local_of 3 SpellsBlock block_keeps

head_is_local : IsLocal SpellsTaskHead
head_is_local = local_of 0 SpellsTaskHead task_head_keeps

returns_are_local : IsLocal (Maybe SpellsReturns)
returns_are_local = local_of 0 (Maybe SpellsReturns) (λ tokens others k alike.
    maybe_keeps tokens others k alike 4 SpellsReturns (returns_keep tokens others k alike))

params_are_local : IsLocal Params
params_are_local = local_of 0 Params (λ tokens others k alike. maybe_bracketed_keeps tokens others k alike 2 SpellsParam
    (param_keeps tokens others k alike))

returns_fill : Fills 3 returns_rest
returns_fill = fills_maybe 3 block_rest block_fills SpellsReturns

params_fill : Fills 3 (Next Params returns_rest)
params_fill = fills_as 3 returns_rest returns_fill (Next Params returns_rest) (λ others k to h. ([], k, refl, h))

proc_fills : Fills 4 proc_rest
proc_fills = fills_word 3 (Next Params returns_rest) params_fill w.PROC (omega arith)

module _ (tokens : List Token) (from : ℕ) (few : length tokens < 2 ^ 55) where
  abbrev pub Unit_ : Rest → ℕ → ℕ → Type 0
  Unit_ = State 24 SpellsDecl tokens from 0

  module _ (name : Name) (named : IsName tokens from name) (inside : from < length tokens) where
    colon_next : (rest : Rest) → Makes SpellsDecl (Next SpellsName (BehindSymbol s.COLON rest)) →
        Unit_ (BehindSymbol s.COLON rest) (from + 1) from
    colon_next rest makes =
        past_name 24 SpellsDecl tokens from 0 name (BehindSymbol s.COLON rest) from from (from + 1) (omega arith)
        (first 24 SpellsDecl tokens from 0 (Next SpellsName (BehindSymbol s.COLON rest)) from from makes (omega arith)
        (omega arith) (omega arith) (omega arith) few) named inside

    pub no_colon : (halt : Halt) → IsMissing tokens (is_symbol s.COLON) (from + 1) from halt →
        HaltsBehind 24 SpellsDecl tokens from 0 halt
    no_colon halt h =
        halt_token 24 SpellsDecl tokens from 0 5 (BehindSymbol s.COLON proc_rest)
        (fills_symbol 4 proc_rest proc_fills s.COLON (omega arith)) (omega arith) (is_symbol s.COLON) (from + 1) from
        halt
        (colon_next proc_rest procedure_made) h

    module _ (colon : HasSymbol tokens (from + 1) s.COLON) (within : from + 1 < length tokens) where
      word_next : (rest : Rest) → Makes SpellsDecl (Next SpellsName (BehindSymbol s.COLON rest)) →
          Unit_ rest (from + 2) from
      word_next rest makes = past_symbol 24 SpellsDecl tokens from 0 s.COLON rest (from + 1) from (from + 2)
          (omega arith) (colon_next rest makes) colon within

      pub no_proc : (halt : Halt) → IsMissing tokens (is_word w.PROC) (from + 2) (from + 2) halt →
          HaltsBehind 24 SpellsDecl tokens from 0 halt
      no_proc halt h =
          halt_token 24 SpellsDecl tokens from 0 4 proc_rest proc_fills (omega arith) (is_word w.PROC) (from + 2)
          (from + 2) halt
          (raised 24 SpellsDecl tokens from 0 proc_rest (from + 2) from (from + 2) (word_next proc_rest procedure_made)
          (omega arith) (omega arith)) h

      module _ (inner : from + 2 < length tokens) where
        pub past_head : HasWord tokens (from + 2) w.TASK → (x : TaskHead) (end stop : ℕ) →
            SpellsTaskHead tokens (from + 3) x end → from + 3 ≤ end → end ≤ stop → stop ≤ length tokens →
            GoesIn 16 SpellsTaskHead tokens (from + 3) end stop → Unit_ block_rest end stop
        past_head here x end stop h ahead near reach g =
            past_first 24 SpellsDecl tokens from 0 3 16 SpellsTaskHead block_rest head_is_local block_fills
            (omega arith) (from + 3) from (omega arith)
            (past_word 24 SpellsDecl tokens from 0 w.TASK (Next SpellsTaskHead block_rest) (from + 2) from (from + 3)
            (omega arith) (word_next task_rest task_made) here inner) x end stop h ahead reach (omega arith) near g

        pub past_params : HasWord tokens (from + 2) w.PROC → (xs : List Param) (end stop : ℕ) →
            Params tokens (from + 3) xs end → from + 3 ≤ end → end ≤ stop → stop ≤ length tokens →
            GoesIn 9 Params tokens (from + 3) end stop → Unit_ returns_rest end stop
        past_params here xs end stop h ahead near reach g =
            past_first 24 SpellsDecl tokens from 0 3 9 Params returns_rest params_are_local returns_fill (omega arith)
            (from + 3) from (omega arith)
            (past_word 24 SpellsDecl tokens from 0 w.PROC (Next Params returns_rest) (from + 2) from (from + 3)
            (omega arith) (word_next proc_rest procedure_made) here inner) xs end stop h ahead reach (omega arith)
            near g

  pub past_returns : (at stop : ℕ) → from < at → Unit_ returns_rest at stop → (x : Option Basic) (end own new : ℕ) →
      Maybe SpellsReturns tokens at x end → at ≤ end → end ≤ own → new ≤ length tokens →
      GoesIn 16 (Maybe SpellsReturns) tokens at end own → new ≡ max stop own → Unit_ block_rest end new
  past_returns at stop behind a x end own new h ahead near reach g is =
      past_part 24 SpellsDecl tokens from 0 3 16 (Maybe SpellsReturns) block_rest returns_are_local block_fills
      (omega arith) at stop (omega arith) a x end new h ahead reach (own, near, g, omega (arith, is))
