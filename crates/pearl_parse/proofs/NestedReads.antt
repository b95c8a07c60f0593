-- IF, CASE, loops and BEGIN, read one part after the other: what is left of the statement behind each part.
use Rattle.std.proofs.Common.{◌≡◌, ℕ, ◌+◌, ◌-◌, ◌<◌, ◌≤◌, ◌^◌, max, length, true, List, Vec, Option, Result, Ok, refl}
use Rattle.std.proofs.Common.{arith}
use Rattle.std.specs.Result.{IsErr, IsErrAnd}
use Rattle.pearl_tree.specs.declared.expression.Expr.{Expr}
use Rattle.pearl_tree.specs.declared.statement.Body.{Body}
use Rattle.pearl_tree.specs.declared.statement.Branch.{Branch}
use Rattle.pearl_tree.specs.declared.statement.Stmt.{Stmt}
use Rattle.pearl_tree.specs.declared.token.Token.{Token}
use Rattle.pearl_tree.specs.Standing.{what_at, HasWord, HasSymbol}
use Rattle.pearl_tree.specs.Statements.{SpellsBody}
use Rattle.pearl_tree.specs.declared.symbol.TheConstants as s
use Rattle.pearl_tree.specs.declared.word_code.TheConstants as w
use Rattle.pearl_parse_expr.specs.declared.reading.Halt.{Halt}
use Rattle.pearl_parse_expr.specs.declared.reading.Reading.{Reading}
use Rattle.pearl_parse_expr.specs.Stops.{IsOnly, extends_expression}
use Rattle.pearl_parse_expr.specs.Least.{GoesIn}
use Rattle.pearl_parse_expr.specs.Reads.{ReadsOnly}
use Rattle.pearl_parse.specs.declared.loops.Heads.{Heads}
use Rattle.pearl_grammar.specs.Reached.{IsStopped, HaltsBehind}
use Rattle.pearl_parse.specs.Stops.{begins_statement}
use Rattle.pearl_parse.specs.Bodies.{is_one, loop_words, extends_body, extends_alternatives, SpellsStatements}
use Rattle.pearl_parse.specs.Bodies.{SpellsOptionalHeaded}
use Rattle.pearl_parse.specs.Bodies.{SpellsChoices, SpellsBlock, SpellsClosing, SpellsCondition, SpellsHeads}
use Rattle.pearl_parse.specs.Bodies.{SpellsInner}
use Rattle.pearl_parse.specs.Reads.{ReadsBehind, ReadsListBehind, ReadsNested}
use Rattle.pearl_grammar.proofs.Offered.{Rest, Ends}
use Rattle.pearl_parse.proofs.Steps.{goes_longer, past, past_only, no_part, ends}
use Rattle.pearl_parse.proofs.StatementRests.{Spelled}
use Rattle.pearl_parse.proofs.ScheduleMade.{After}
use Rattle.pearl_parse.proofs.Comes.{Maybe}
use Rattle.pearl_parse.proofs.NestedRests.{closing_rest, otherwise_rest, then_rest, choices_rest, block_rest}
use Rattle.pearl_parse.proofs.NestedRests.{avoids_closing, avoids_otherwise, avoids_choices}
use Rattle.pearl_parse.proofs.NestedRests.{if_goes, case_goes, begin_goes, repeat_goes}
use Rattle.pearl_parse.proofs.NestedLeast.{BranchOf, Choices, Other, Thens, Chosen, Inside, closing_halts}
use Rattle.pearl_parse.proofs.NestedLeast.{closed_goes}
use Rattle.pearl_parse.proofs.NestedLeast.{past_statements, past_other, choices_halt, past_choices, inner_halts}
use Rattle.pearl_parse.proofs.NestedLeast.{past_inner}
use Rattle.pearl_parse.proofs.NestedLeast.{past_condition, past_selector, past_heads, begin_begun}
use Rattle.pearl_parse.proofs.Stands.{Stands}
use Rattle.pearl_parse.proofs.Unread.{unread}

module _ (tokens : List Token) (depth from : ℕ) where
  abbrev pub StandsAt : Rest → Rest → ℕ → ℕ → Type 0
  StandsAt = Stands 24 (Spelled depth) tokens from 0 (from + 1)

  -- ---- the parts behind the first one

  pub past_thens : {A : Type 0} (at stop : ℕ) (x : Reading (Vec Stmt A)) →
      StandsAt (then_rest (depth - 1)) (Thens (depth - 1)) at stop →
      ReadsListBehind 24 (SpellsStatements (depth - 1)) (SpellsStatements (depth - 1)) begins_statement tokens at at
      stop (Ok x) →
      StandsAt (otherwise_rest (depth - 1) w.ELSE) (Other (depth - 1) w.ELSE) x.end x.stop
  past_thens {A} at stop x a read = record {
    goes = past (Spelled depth) tokens from (SpellsStatements (depth - 1)) begins_statement
        (otherwise_rest (depth - 1) w.ELSE)
        at stop x.end x.stop a.goes (omega (arith, read.bounds)) read.longest
        (avoids_otherwise begins_statement (depth - 1) w.ELSE refl refl);
    level = past_statements tokens depth from at stop (omega (arith, a.ahead)) a.level x.part.items x.end x.stop
        read.spells
        (omega (arith, read.bounds)) (omega (arith, read.bounds)) read.least;
    ahead = omega (arith, a.ahead, read.bounds);
    near = omega (arith, a.ahead, read.bounds);
    inside = omega (arith, read.bounds);
  }

  pub past_branch : (word at stop : ℕ) (x : Reading (Option Branch)) →
      StandsAt (otherwise_rest (depth - 1) word) (Other (depth - 1) word) at stop →
      ReadsBehind 24 (Maybe (BranchOf (depth - 1) word)) (SpellsOptionalHeaded (depth - 1) word)
      (Maybe (BranchOf (depth - 1) word))
      begins_statement tokens at at stop (Ok x) → StandsAt (closing_rest w.FIN) (closing_rest w.FIN) x.end x.stop
  past_branch word at stop x a read = record {
    goes = past (Spelled depth) tokens from (SpellsOptionalHeaded (depth - 1) word) begins_statement
        (closing_rest w.FIN)
        at stop x.end x.stop a.goes (omega (arith, read.bounds)) read.longest
        (avoids_closing begins_statement w.FIN refl);
    level = past_other tokens depth from word at stop (omega (arith, a.ahead)) a.level x.part x.end x.stop read.spells
        (omega (arith, read.bounds)) (omega (arith, read.bounds)) read.least;
    ahead = omega (arith, a.ahead, read.bounds);
    near = omega (arith, a.ahead, read.bounds);
    inside = omega (arith, read.bounds);
  }

  pub past_alternatives : {A : Type 0} (at stop : ℕ) (x : Reading (Vec Branch A)) →
      StandsAt (choices_rest (depth - 1)) (Chosen (depth - 1)) at stop →
      ReadsListBehind 24 (Choices (depth - 1)) (SpellsChoices (depth - 1)) extends_alternatives tokens at at stop
      (Ok x) →
      StandsAt (otherwise_rest (depth - 1) w.OUT) (Other (depth - 1) w.OUT) x.end x.stop
  past_alternatives {A} at stop x a read = record {
    goes = past (Spelled depth) tokens from (SpellsChoices (depth - 1)) extends_alternatives
        (otherwise_rest (depth - 1) w.OUT)
        at stop x.end x.stop a.goes (omega (arith, read.bounds)) read.longest
        (avoids_otherwise extends_alternatives (depth - 1) w.OUT refl refl);
    level = past_choices tokens depth from at stop (omega (arith, a.ahead)) a.level x.part.items x.end x.stop
        read.spells
        (omega (arith, read.bounds)) (omega (arith, read.bounds)) read.least;
    ahead = omega (arith, a.ahead, read.bounds);
    near = omega (arith, a.ahead, read.bounds);
    inside = omega (arith, read.bounds);
  }

  pub past_body : (at stop : ℕ) (x : Reading Body) → StandsAt (block_rest (depth - 1)) (Inside (depth - 1)) at stop →
      ReadsBehind 24 (λ tokens. SpellsBody tokens (depth - 1)) (SpellsBlock (depth - 1)) (SpellsInner (depth - 1))
      extends_body
      tokens at at stop (Ok x) → StandsAt (closing_rest w.END) (closing_rest w.END) x.end x.stop
  past_body at stop x a read = record {
    goes = past (Spelled depth) tokens from (SpellsBlock (depth - 1)) extends_body (closing_rest w.END)
        at stop x.end x.stop a.goes (omega (arith, read.bounds)) read.longest (avoids_closing extends_body w.END refl);
    level = past_inner tokens depth from at stop (omega (arith, a.ahead)) a.level x.part x.end x.stop read.spells
        (omega (arith, read.bounds)) (omega (arith, read.bounds)) read.least;
    ahead = omega (arith, a.ahead, read.bounds);
    near = omega (arith, a.ahead, read.bounds);
    inside = omega (arith, read.bounds);
  }

  -- ---- a part that is missing

  module _ {Q : Halt → Type 0} (halt : Halt) (result : Result (Reading Stmt) Halt)
      (h : IsErr result × IsErrAnd result Q)
      (step : (e : Halt) → Q e → e ≡ halt) where
    pub no_alternatives : (at stop : ℕ) → StandsAt (choices_rest (depth - 1)) (Chosen (depth - 1)) at stop →
        IsStopped (SpellsChoices (depth - 1)) tokens at stop halt →
        HaltsBehind 24 (Choices (depth - 1)) tokens at stop halt →
        ReadsNested depth tokens from result
    no_alternatives at stop a refused least =
        unread 24 (Spelled depth) tokens from Q halt result h step
        (no_part (Spelled depth) tokens from (SpellsChoices (depth - 1)) (otherwise_rest (depth - 1) w.OUT) at stop halt
        a.goes
        a.near refused)
        (choices_halt tokens depth from at stop (omega (arith, a.ahead)) a.level halt least)

    pub no_body : (at stop : ℕ) → StandsAt (block_rest (depth - 1)) (Inside (depth - 1)) at stop →
        IsStopped (SpellsBlock (depth - 1)) tokens at stop halt →
        HaltsBehind 24 (SpellsInner (depth - 1)) tokens at stop halt →
        ReadsNested depth tokens from result
    no_body at stop a refused least =
        unread 24 (Spelled depth) tokens from Q halt result h step
        (no_part (Spelled depth) tokens from (SpellsBlock (depth - 1)) (closing_rest w.END) at stop halt a.goes
        a.near refused)
        (inner_halts tokens depth from at stop (omega (arith, a.ahead)) a.level halt least)

    pub not_closed : (word at stop : ℕ) → StandsAt (closing_rest word) (closing_rest word) at stop →
        IsStopped (SpellsClosing word) tokens at stop halt → HaltsBehind 8 (SpellsClosing word) tokens at stop halt →
        ReadsNested depth tokens from result
    not_closed word at stop a refused least =
        unread 24 (Spelled depth) tokens from Q halt result h step
        (no_part (Spelled depth) tokens from (SpellsClosing word) Ends at stop halt a.goes
        a.near refused)
        (closing_halts tokens depth from word at stop a.level halt least)

  -- ---- the end

  module _ (word at stop new : ℕ) (a : StandsAt (closing_rest word) (closing_rest word) at stop)
      (is : new ≡ max stop (at + 2)) where
    pub one_end : IsOnly (Spelled depth) tokens from (at + 2) new
    one_end = ends (Spelled depth) tokens from (closing_rest word) at stop new (at + 2) a.goes (omega (arith, is))
        (λ others to h. omega (arith, h.2.2, h.3))

    pub goes_so_far : HasWord tokens at word × HasSymbol tokens (at + 1) s.SEMICOLON → at + 2 ≤ length tokens →
        GoesIn 24 (Spelled depth) tokens from (at + 2) new
    goes_so_far stands within = closed_goes tokens depth from word at stop a.level new stands within a.inside is

  -- ---- the first parts

  module _ (inside : from < length tokens) (few : length tokens < 2 ^ 55) (deep : 0 < depth) where
    pub past_if : HasWord tokens from w.IF → (x : Reading Expr) → ReadsOnly 16 SpellsCondition tokens from (Ok x) →
        StandsAt (then_rest (depth - 1)) (Thens (depth - 1)) x.end x.stop
    past_if here x read = record {
      goes = past_only (Spelled depth) tokens from SpellsCondition (then_rest (depth - 1)) from from x.end x.stop
          (if_goes tokens depth from here) (omega (arith, read.ahead)) read.only;
      level = past_condition tokens depth from inside few deep x.part x.end x.stop read.spells
          (omega (arith, read.ahead))
          (omega (arith, read.ahead)) (omega (arith, read.ahead)) read.least;
      ahead = omega (arith, read.ahead);
      near = omega (arith, read.ahead);
      inside = omega (arith, read.ahead);
    }

    pub past_case : HasWord tokens from w.CASE → (x : Reading Expr) →
        ReadsBehind 8 (After w.CASE) (After w.CASE) (After w.CASE) extends_expression tokens from (from + 1) from
        (Ok x) →
        StandsAt (choices_rest (depth - 1)) (Chosen (depth - 1)) x.end x.stop
    past_case here x read = record {
      goes = past (Spelled depth) tokens from (After w.CASE) extends_expression (choices_rest (depth - 1)) from from
          x.end x.stop
          (case_goes tokens depth from here) (omega (arith, read.bounds)) read.longest
          (avoids_choices extends_expression (depth - 1) refl);
      level = past_selector tokens depth from inside few deep x.part x.end x.stop read.spells
          (omega (arith, read.bounds))
          (omega (arith, read.bounds)) read.least;
      ahead = omega (arith, read.bounds);
      near = omega (arith, read.bounds);
      inside = omega (arith, read.bounds);
    }

    pub begun : HasWord tokens from w.BEGIN →
        StandsAt (block_rest (depth - 1)) (Inside (depth - 1)) (from + 1) (from + 1)
    begun here = record {
      goes = goes_longer (Spelled depth) tokens from (block_rest (depth - 1)) (from + 1) from (from + 1)
          (begin_goes tokens depth from here) (omega arith);
      level = begin_begun tokens depth from inside few deep here;
      ahead = omega arith;
      near = omega arith;
      inside = omega (arith, inside);
    }

    pub past_loop : is_one loop_words (what_at tokens from) ≡ true → (x : Reading Heads) →
        ReadsOnly 16 SpellsHeads tokens from (Ok x) →
        StandsAt (block_rest (depth - 1)) (Inside (depth - 1)) x.end x.stop
    past_loop here x read = record {
      goes = past_only (Spelled depth) tokens from SpellsHeads (block_rest (depth - 1)) from from x.end x.stop
          (repeat_goes tokens depth from here) (omega (arith, read.ahead)) read.only;
      level = past_heads tokens depth from inside few deep x.part x.end x.stop read.spells (omega (arith, read.ahead))
          (omega (arith, read.ahead)) (omega (arith, read.ahead)) read.least;
      ahead = omega (arith, read.ahead);
      near = omega (arith, read.ahead);
      inside = omega (arith, read.ahead);
    }
