-- Statements with others in them: what completes them behind their first parts.
use Rattle.std.proofs.Common.{◌≡◌, ℕ, ◌+◌, ◌-◌, ◌<◌, ◌≤◌, ◌^◌, inl, max, List, [], ◌∷◌, length, Option, refl, sym}
use Rattle.std.proofs.Common.{subst, ◌∙◌, arith}
use Rattle.pearl_tree.specs.declared.expression.Expr.{Expr}
use Rattle.pearl_tree.specs.declared.statement.Body.{Body}
use Rattle.pearl_tree.specs.declared.statement.BodyDecl.{BodyDecl}
use Rattle.pearl_tree.specs.declared.statement.Branch.{Branch}
use Rattle.pearl_tree.specs.declared.statement.Stmt.{Stmt}
use Rattle.pearl_tree.specs.declared.token.Token.{Token}
use Rattle.pearl_tree.specs.Standing.{Spelling, HasWord, HasSymbol, SpellsEach, SpellsSome}
use Rattle.pearl_tree.specs.Statements.{SpellsBranch, SpellsBody, SpellsBodyDecl, SpellsStmt}
use Rattle.pearl_tree.specs.declared.symbol.TheConstants as s
use Rattle.pearl_tree.specs.declared.word_code.TheConstants as w
use Rattle.pearl_parse_expr.specs.declared.reading.Halt.{Halt}
use Rattle.pearl_parse_expr.specs.declared.reading.Halt.TheVariants.{Refused, NoMemory}
use Rattle.pearl_parse_expr.specs.Stops.{IsHalted}
use Rattle.pearl_parse_expr.specs.Least.{ReachesIn, GoesIn, HaltsIn}
use Rattle.pearl_parse_expr.proofs.Offered as local
use Rattle.pearl_parse_expr.proofs.Offered.{IsLocal}
use Rattle.pearl_parse_decl.proofs.Offered.{Kept, local_of, maybe_keeps, each_keeps, some_keeps}
use Rattle.pearl_parse.specs.declared.loops.Heads.{Heads}
use Rattle.pearl_parse.specs.Bodies.{SpellsStatements, SpellsCondition, SpellsClosing, SpellsHeads, SpellsInner}
use Rattle.pearl_grammar.specs.Reached.{GoesBehind, HaltsBehind}
use Rattle.pearl_grammar.proofs.Offered.{Rest, Ends, Next, Makes, ends_fill, fills_as, state_reaches, State, first}
use Rattle.pearl_grammar.proofs.Offered.{raised, past_part, halt_part, done, goes_in_told}
use Rattle.pearl_parse.proofs.StatementRests.{Spelled}
use Rattle.pearl_parse.proofs.LocalStatements.{stmt_keeps, branch_keeps, body_declaration_keeps}
use Rattle.pearl_parse.proofs.LocalRests.{statements_keep, inner_keeps, condition_keeps, heads_keep}
use Rattle.pearl_parse.proofs.Comes.{BehindWord, Maybe, come_made}
use Rattle.pearl_parse.proofs.Made.{semicolon, empty_made}
use Rattle.pearl_parse.proofs.Tails.{fills_statements, fills_choices, semicolon_fills, closing_fills, fin_fills}
use Rattle.pearl_parse.proofs.Tails.{otherwise_fills, then_fills, alternatives_fill, inner_fills}
use Rattle.pearl_parse.proofs.NestedMade.{branch_made, if_made, case_made, begin_made, repeat_made}
use Rattle.pearl_parse.proofs.NestedRests.{closing_rest}
use Rattle.pearl_parse.proofs.ScheduleMade.{After}
use Rattle.pearl_parse.proofs.ScheduleLeast.{after_is_local}
use Rattle.pearl_parse.proofs.States.{past_word, past_first, halt_first}
use Rattle.pearl_parse.proofs.States.{told_as, some_reaches}

-- ---- the beginning

module _ (tokens : List Token) (depth from : ℕ) (inside : from < length tokens) (few : length tokens < 2 ^ 55) where
  by_rule : (rest : Rest) → Makes (Spelled depth) rest → State 24 (Spelled depth) tokens from 0 rest from from
  by_rule rest makes = first 24 (Spelled depth) tokens from 0 rest from from makes (omega arith) (omega arith)
      (omega arith) (omega arith) few

-- ---- what the parts depend on

abbrev pub BranchOf : ℕ → ℕ → List Token → Spelling Branch
BranchOf depth word tokens = SpellsBranch tokens depth word

abbrev pub Choices : ℕ → List Token → Spelling (List Branch)
Choices depth tokens = SpellsSome (SpellsBranch tokens depth w.ALT)

abbrev pub Declared : List Token → Spelling (List BodyDecl)
Declared tokens = SpellsEach (SpellsBodyDecl tokens)

pub stmt_kept : (depth : ℕ) → Kept 1 (λ tokens. SpellsStmt tokens depth)
stmt_kept depth tokens others k alike = stmt_keeps tokens others k alike depth

pub branch_kept : (depth word : ℕ) → Kept 1 (BranchOf depth word)
branch_kept depth word tokens others k alike = branch_keeps tokens others k alike depth word

closing_kept : (word : ℕ) → Kept 2 (SpellsClosing word)
closing_kept word tokens others k alike from x to h near =
    let below : from + 1 < k = omega (arith, h.2) in (
      omega (arith, h.2),
      (
        local.what tokens others k alike from (omega arith) ∙ h.0,
        local.what tokens others k alike (from + 1) below ∙ h.1,
        h.2,
      ),
    )

statements_are_local : (depth : ℕ) → IsLocal (SpellsStatements depth)
statements_are_local depth = local_of 0 (SpellsStatements depth) (λ tokens others k alike.
    statements_keep tokens others k alike depth)

inner_is_local : (depth : ℕ) → IsLocal (SpellsInner depth)
inner_is_local depth = local_of 0 (SpellsInner depth) (λ tokens others k alike. inner_keeps tokens others k alike depth)

declared_are_local : IsLocal Declared
declared_are_local = local_of 0 Declared (λ tokens others k alike. each_keeps tokens others k alike 2 SpellsBodyDecl
    (body_declaration_keeps tokens others k alike))

condition_is_local : IsLocal SpellsCondition
condition_is_local = local_of 3 SpellsCondition condition_keeps

heads_are_local : IsLocal SpellsHeads
heads_are_local = local_of 1 SpellsHeads heads_keep

closing_is_local : (word : ℕ) → IsLocal (SpellsClosing word)
closing_is_local word = local_of 2 (SpellsClosing word) (closing_kept word)

maybe_branch_is_local : (depth word : ℕ) → IsLocal (Maybe (BranchOf depth word))
maybe_branch_is_local depth word =
    local_of 0 (Maybe (BranchOf depth word)) (λ tokens others k alike.
    maybe_keeps tokens others k alike 1 (BranchOf depth word) (branch_keeps tokens others k alike depth word))

choices_are_local : (depth : ℕ) → IsLocal (Choices depth)
choices_are_local depth =
    local_of 1 (Choices depth) (λ tokens others k alike. some_keeps tokens others k alike 1 (BranchOf depth w.ALT)
    (branch_keeps tokens others k alike depth w.ALT))

-- ---- what is left behind the first parts

abbrev pub Other : ℕ → ℕ → Rest
Other depth word = Next (Maybe (BranchOf depth word)) (closing_rest w.FIN)

abbrev pub Thens : ℕ → Rest
Thens depth = Next (SpellsStatements depth) (Other depth w.ELSE)

abbrev pub Chosen : ℕ → Rest
Chosen depth = Next (Choices depth) (Other depth w.OUT)

abbrev pub Inside : ℕ → Rest
Inside depth = Next (SpellsInner depth) (closing_rest w.END)

-- ---- what is told no earlier than at `low`

module _ {X : Type 0} (room : ℕ) (whole : List Token → Spelling X) (tokens : List Token) (from low : ℕ) where
  pub told_from : (rest : Rest) (at stop k new : ℕ) → State room whole tokens from low rest at stop → new ≡ max k low →
      k ≤ at → State room whole tokens from low rest at new
  told_from rest at stop k new a is below = record {
    own = k;
    told = inl below;
    is = is;
    comes = a.comes;
    near = a.near;
    inside = a.inside;
    reach = omega (arith, a.inside);
    few = a.few;
    small = a.small;
  }

  pub no_memory : (halt : Halt) → halt ≡ NoMemory → HaltsBehind room whole tokens from low halt
  no_memory halt is = subst (λ halt. HaltsBehind room whole tokens from low halt) (sym is) tt

-- ---- word { stmt }

module _ (tokens : List Token) (depth word from low : ℕ) where
  branch_begun : from < length tokens → length tokens < 2 ^ 55 → HasWord tokens from word → (new : ℕ) →
      new ≡ max low (from + 1) →
      State 24 (BranchOf depth word) tokens from low (Next (SpellsStatements depth) Ends) (from + 1) new
  branch_begun inside few here new is =
      told_from 24 (BranchOf depth word) tokens from low (Next (SpellsStatements depth) Ends) (from + 1) low (from + 1)
      new
      (past_word 24 (BranchOf depth word) tokens from low word (Next (SpellsStatements depth) Ends) from low (from + 1)
      (omega arith)
      (first 24 (BranchOf depth word) tokens from low (BehindWord word (Next (SpellsStatements depth) Ends)) 0 low
      (branch_made depth word) (omega arith) (omega arith) (omega arith) (omega arith) few) here inside)
      (omega (arith, is)) (omega arith)

  pub branch_read : from < length tokens → length tokens < 2 ^ 55 → HasWord tokens from word → (new : ℕ) →
      new ≡ max low (from + 1) → (xs : List Stmt) (end stop : ℕ) →
      SpellsStatements depth tokens (from + 1) xs end → from + 1 ≤ end → end ≤ stop → stop ≤ length tokens →
      GoesBehind 24 (SpellsStatements depth) tokens (from + 1) new end stop →
      GoesBehind 24 (BranchOf depth word) tokens from low end stop
  branch_read inside few here new is xs end stop h ahead near within t =
      done 24 (BranchOf depth word) tokens from low end stop stop
      (past_part 24 (BranchOf depth word) tokens from low 0 24 (SpellsStatements depth) Ends
      (statements_are_local depth) ends_fill (omega arith) (from + 1) new (omega arith)
      (branch_begun inside few here new is) xs end stop h ahead within t) (omega arith)

  pub maybe_branch_read : (end stop : ℕ) → from ≤ end → GoesBehind 24 (BranchOf depth word) tokens from low end stop →
      GoesBehind 24 (Maybe (BranchOf depth word)) tokens from low end stop
  maybe_branch_read end stop ahead t =
      told_as 24 24 (BranchOf depth word) (Maybe (BranchOf depth word)) tokens from from (omega arith)
      (λ stop near r. some_reaches 24 (BranchOf depth word) tokens from stop near r) low end stop ahead t

-- ---- ALT { stmt } { ALT { stmt } }

module _ (tokens : List Token) (depth from : ℕ) (inside : from ≤ length tokens) (few : length tokens < 2 ^ 55) where
  bare_choice : ReachesIn 24 (Choices depth) tokens from from
  bare_choice =
      state_reaches (Choices depth) tokens from 24 1 (Next (Choices depth) Ends) from
      (fills_choices 0 Ends ends_fill depth) (omega arith) (omega arith) (omega arith) inside few
      (come_made (Choices depth) tokens from (Next (Choices depth) Ends)
      (λ others from to small h. (h.0, subst (λ k. Choices depth others from h.0 k) (sym h.3) h.2)))

  pub no_choice_least : (low : ℕ) → from ≤ low → HaltsBehind 24 (Choices depth) tokens from low (Refused low)
  no_choice_least low near = (from, omega arith, inside, bare_choice, omega arith)

  choices_as : (stop : ℕ) → from ≤ stop → ReachesIn 24 (λ tokens. SpellsEach (SpellsBranch tokens depth w.ALT)) tokens
      from stop → ReachesIn 24 (Choices depth) tokens from stop
  choices_as stop near r = by r.part r.spelled
    where
      by : (xs : List Branch) → SpellsEach (SpellsBranch r.others depth w.ALT) from xs (length r.others) →
          ReachesIn 24 (Choices depth) tokens from stop
      by [] h = let same : from ≡ stop = omega (arith, h, r.long) in subst (λ k. ReachesIn 24 (Choices depth) tokens
          from k) same bare_choice
      by (x ∷ xs) h = record {
        others = r.others;
        alike = r.alike;
        long = r.long;
        short = r.short;
        lawful = r.lawful;
        part = x ∷ xs;
        spelled = h;
      }

  pub choices_read : (low end stop : ℕ) → from ≤ end →
      GoesBehind 24 (λ tokens. SpellsEach (SpellsBranch tokens depth w.ALT)) tokens from low end stop →
      GoesBehind 24 (Choices depth) tokens from low end stop
  choices_read low end stop ahead t =
      told_as 24 24 (λ tokens. SpellsEach (SpellsBranch tokens depth w.ALT)) (Choices depth) tokens from from
      (omega arith) choices_as low end stop ahead t

-- ---- { DCL item { "," item } ";" } { stmt }

inner_made : (depth : ℕ) → Makes (SpellsInner depth) (Next Declared (Next (SpellsStatements depth) Ends))
inner_made depth others from to small h =
    ((h.0, h.3.0), (h.1, h.2, subst (λ k. SpellsStatements depth others h.1 h.3.0 k) (sym h.3.3) h.3.2))

module _ (tokens : List Token) (depth from low : ℕ) (inside : from ≤ length tokens) (few : length tokens < 2 ^ 55) where
  pub no_inner : from ≤ low → HaltsBehind 24 (SpellsInner depth) tokens from low (Refused low)
  no_inner near = (
    from,
    omega arith,
    inside,
    state_reaches (SpellsInner depth) tokens from 24 0 (Next Declared (Next (SpellsStatements depth) Ends)) from
        (fills_as 0 Ends ends_fill (Next Declared (Next (SpellsStatements depth) Ends))
        (λ others k to h. ([], k, refl, ([], k, refl, h)))) (omega arith) (omega arith) (omega arith) inside few
        (come_made (SpellsInner depth) tokens from (Next Declared (Next (SpellsStatements depth) Ends))
        (inner_made depth)),
    omega arith,
  )

  pub inner_read : (ds : List BodyDecl) (middle own new : ℕ) → Declared tokens from ds middle → from ≤ middle →
      middle ≤ own → new ≤ length tokens → GoesIn 24 Declared tokens from middle own → new ≡ max own low →
      (xs : List Stmt) (end stop : ℕ) → SpellsStatements depth tokens middle xs end → middle ≤ end → end ≤ stop →
      stop ≤ length tokens → GoesBehind 24 (SpellsStatements depth) tokens middle new end stop →
      GoesBehind 24 (SpellsInner depth) tokens from low end stop
  inner_read ds middle own new d first_ahead first_near first_within g is xs end stop h ahead near within t =
      done 24 (SpellsInner depth) tokens from low end stop stop
      (past_part 24 (SpellsInner depth) tokens from low 0 24 (SpellsStatements depth) Ends (statements_are_local depth)
      ends_fill (omega arith) middle new (omega arith)
      (past_part 24 (SpellsInner depth) tokens from low 0 24 Declared (Next (SpellsStatements depth) Ends)
      declared_are_local (fills_statements 0 Ends ends_fill depth) (omega arith) from low (omega arith)
      (first 24 (SpellsInner depth) tokens from low (Next Declared (Next (SpellsStatements depth) Ends)) 0 low
      (inner_made depth) (omega arith) (omega arith) (omega arith) inside few)
      ds middle new d first_ahead first_within (own, first_near, g, is))
      xs end stop h ahead within t) (omega arith)

-- a body without its place
pub inner_of : (tokens : List Token) (depth from : ℕ) (body : Body) (to : ℕ) → SpellsBody tokens depth from body to →
    SpellsInner depth tokens from (body.declarations.items.items, body.statements.items.items) to
inner_of tokens depth from body to h = (h.0, h.2, h.3)

-- ---- statements

-- ";"
pub some_statement : (tokens : List Token) (depth from : ℕ) → from ≤ length tokens → length tokens < 2 ^ 55 →
    ReachesIn 24 (Spelled depth) tokens from from
some_statement tokens depth from inside few =
    state_reaches (Spelled depth) tokens from 24 1 semicolon from semicolon_fills (omega arith) (omega arith)
    (omega arith) inside few
    (come_made (Spelled depth) tokens from semicolon (empty_made depth))

module _ (tokens : List Token) (depth from : ℕ) where
  abbrev pub In : Rest → ℕ → ℕ → Type 0
  In = State 24 (Spelled depth) tokens from 0

  module _ (word at stop : ℕ) (a : In (closing_rest word) at stop) where
    pub closing_halts : (halt : Halt) → HaltsBehind 8 (SpellsClosing word) tokens at stop halt →
        HaltsBehind 24 (Spelled depth) tokens from 0 halt
    closing_halts = halt_part 24 (Spelled depth) tokens from 0 0 8 (SpellsClosing word) Ends (closing_is_local word)
        ends_fill (omega arith) at stop (omega (arith, a.near)) a

    pub closed_goes : (new : ℕ) → HasWord tokens at word × HasSymbol tokens (at + 1) s.SEMICOLON →
        at + 2 ≤ length tokens → stop ≤ length tokens → new ≡ max stop (at + 2) →
        GoesIn 24 (Spelled depth) tokens from (at + 2) new
    closed_goes new h within inner is =
        goes_in_told 24 (Spelled depth) tokens from 0 (omega arith) (at + 2) new (omega (arith, a.near))
        (done 24 (Spelled depth) tokens from 0 (at + 2) new new
        (past_part 24 (Spelled depth) tokens from 0 0 8 (SpellsClosing word) Ends (closing_is_local word) ends_fill
        (omega arith) at stop (omega (arith, a.near)) a tt (at + 2) new (h.0, h.1, refl)
        (omega arith) (omega (arith, is)) (at + 2, omega arith, record { goes = inl refl }, omega (arith, is)))
        (omega (arith, is)))

  -- the parts behind the first one
  pub past_statements : (at stop : ℕ) → from < at → In (Thens (depth - 1)) at stop → (xs : List Stmt) (end new : ℕ) →
      SpellsStatements (depth - 1) tokens at xs end → at ≤ end → new ≤ length tokens →
      GoesBehind 24 (SpellsStatements (depth - 1)) tokens at stop end new → In (Other (depth - 1) w.ELSE) end new
  past_statements at stop behind =
      past_part 24 (Spelled depth) tokens from 0 2 24 (SpellsStatements (depth - 1)) (Other (depth - 1) w.ELSE)
      (statements_are_local (depth - 1)) (otherwise_fills (depth - 1) w.ELSE) (omega arith) at stop (omega arith)

  pub past_other : (word at stop : ℕ) → from < at → In (Other (depth - 1) word) at stop →
      (x : Option Branch) (end new : ℕ) → Maybe (BranchOf (depth - 1) word) tokens at x end → at ≤ end →
      new ≤ length tokens →
      GoesBehind 24 (Maybe (BranchOf (depth - 1) word)) tokens at stop end new → In (closing_rest w.FIN) end new
  past_other word at stop behind =
      past_part 24 (Spelled depth) tokens from 0 2 24 (Maybe (BranchOf (depth - 1) word)) (closing_rest w.FIN)
      (maybe_branch_is_local (depth - 1) word) fin_fills (omega arith) at stop (omega arith)

  module _ (at stop : ℕ) (behind : from < at) (a : In (Chosen (depth - 1)) at stop) where
    pub choices_halt : (halt : Halt) → HaltsBehind 24 (Choices (depth - 1)) tokens at stop halt →
        HaltsBehind 24 (Spelled depth) tokens from 0 halt
    choices_halt =
        halt_part 24 (Spelled depth) tokens from 0 2 24 (Choices (depth - 1)) (Other (depth - 1) w.OUT)
        (choices_are_local (depth - 1)) (otherwise_fills (depth - 1) w.OUT) (omega arith) at stop (omega arith) a

    pub past_choices : (xs : List Branch) (end new : ℕ) → Choices (depth - 1) tokens at xs end → at ≤ end →
        new ≤ length tokens → GoesBehind 24 (Choices (depth - 1)) tokens at stop end new →
        In (Other (depth - 1) w.OUT) end new
    past_choices =
        past_part 24 (Spelled depth) tokens from 0 2 24 (Choices (depth - 1)) (Other (depth - 1) w.OUT)
        (choices_are_local (depth - 1)) (otherwise_fills (depth - 1) w.OUT) (omega arith) at stop (omega arith) a

  module _ (at stop : ℕ) (behind : from < at) (a : In (Inside (depth - 1)) at stop) where
    pub inner_halts : (halt : Halt) → HaltsBehind 24 (SpellsInner (depth - 1)) tokens at stop halt →
        HaltsBehind 24 (Spelled depth) tokens from 0 halt
    inner_halts =
        halt_part 24 (Spelled depth) tokens from 0 2 24 (SpellsInner (depth - 1)) (closing_rest w.END)
        (inner_is_local (depth - 1)) (closing_fills w.END (omega arith)) (omega arith) at stop (omega arith) a

    pub past_inner : (body : Body) (end new : ℕ) → SpellsBody tokens (depth - 1) at body end → at ≤ end →
        new ≤ length tokens → GoesBehind 24 (SpellsInner (depth - 1)) tokens at stop end new →
        In (closing_rest w.END) end new
    past_inner body end new h =
        past_part 24 (Spelled depth) tokens from 0 2 24 (SpellsInner (depth - 1)) (closing_rest w.END)
        (inner_is_local (depth - 1)) (closing_fills w.END (omega arith)) (omega arith) at stop (omega arith) a
        (body.declarations.items.items, body.statements.items.items) end new (inner_of tokens (depth - 1) at body end h)

  module _ (inside : from < length tokens) (few : length tokens < 2 ^ 55) (deep : 0 < depth) where
    -- IF
    if_first : In (Next SpellsCondition (Thens (depth - 1))) from from
    if_first = by_rule tokens depth from inside few (Next SpellsCondition (Thens (depth - 1))) (if_made depth deep)

    pub if_halts : (halt : Halt) → IsHalted SpellsCondition tokens from halt →
        HaltsIn 16 SpellsCondition tokens from halt → HaltsBehind 24 (Spelled depth) tokens from 0 halt
    if_halts halt h r =
        halt_first 24 (Spelled depth) tokens from 0 2 16 SpellsCondition (Thens (depth - 1)) condition_is_local
        (then_fills (depth - 1)) (omega arith) from from (omega arith) if_first SpellsCondition halt (omega arith) h r

    pub past_condition : (x : Expr) (end stop : ℕ) → SpellsCondition tokens from x end → from ≤ end → end ≤ stop →
        stop ≤ length tokens → GoesIn 16 SpellsCondition tokens from end stop → In (Thens (depth - 1)) end stop
    past_condition x end stop h ahead near within g =
        past_first 24 (Spelled depth) tokens from 0 2 16 SpellsCondition (Thens (depth - 1)) condition_is_local
        (then_fills (depth - 1)) (omega arith) from from (omega arith) if_first x end stop h ahead within (omega arith)
        near g

    -- CASE
    case_first : In (Next (After w.CASE) (Chosen (depth - 1))) from from
    case_first = by_rule tokens depth from inside few (Next (After w.CASE) (Chosen (depth - 1))) (case_made depth deep)

    pub case_halts : (halt : Halt) → HaltsBehind 8 (After w.CASE) tokens from from halt →
        HaltsBehind 24 (Spelled depth) tokens from 0 halt
    case_halts = halt_part 24 (Spelled depth) tokens from 0 3 8 (After w.CASE) (Chosen (depth - 1))
        (after_is_local w.CASE) (alternatives_fill (depth - 1)) (omega arith) from from (omega arith) case_first

    pub past_selector : (x : Expr) (end stop : ℕ) → After w.CASE tokens from x end → from ≤ end → stop ≤ length tokens →
        GoesBehind 8 (After w.CASE) tokens from from end stop → In (Chosen (depth - 1)) end stop
    past_selector = past_part 24 (Spelled depth) tokens from 0 3 8 (After w.CASE) (Chosen (depth - 1))
        (after_is_local w.CASE) (alternatives_fill (depth - 1)) (omega arith) from from (omega arith) case_first

    -- loops
    repeat_first : In (Next SpellsHeads (Inside (depth - 1))) from from
    repeat_first = by_rule tokens depth from inside few (Next SpellsHeads (Inside (depth - 1))) (repeat_made depth deep)

    pub repeat_halts : (halt : Halt) → IsHalted SpellsHeads tokens from halt → HaltsIn 16 SpellsHeads tokens from halt →
        HaltsBehind 24 (Spelled depth) tokens from 0 halt
    repeat_halts halt h r =
        halt_first 24 (Spelled depth) tokens from 0 2 16 SpellsHeads (Inside (depth - 1)) heads_are_local
        (inner_fills (depth - 1)) (omega arith) from from (omega arith) repeat_first SpellsHeads halt (omega arith) h r

    pub past_heads : (x : Heads) (end stop : ℕ) → SpellsHeads tokens from x end → from ≤ end → end ≤ stop →
        stop ≤ length tokens → GoesIn 16 SpellsHeads tokens from end stop → In (Inside (depth - 1)) end stop
    past_heads x end stop h ahead near within g =
        past_first 24 (Spelled depth) tokens from 0 2 16 SpellsHeads (Inside (depth - 1)) heads_are_local
        (inner_fills (depth - 1)) (omega arith) from from (omega arith) repeat_first x end stop h ahead within
        (omega arith) near g

    -- BEGIN
    pub begin_begun : HasWord tokens from w.BEGIN → In (Inside (depth - 1)) (from + 1) (from + 1)
    begin_begun here =
        raised 24 (Spelled depth) tokens from 0 (Inside (depth - 1)) (from + 1) from (from + 1)
        (past_word 24 (Spelled depth) tokens from 0 w.BEGIN (Inside (depth - 1)) from from (from + 1) (omega arith)
        (by_rule tokens depth from inside few (BehindWord w.BEGIN (Inside (depth - 1))) (begin_made depth deep)) here
        inside) (omega arith) (omega arith)
