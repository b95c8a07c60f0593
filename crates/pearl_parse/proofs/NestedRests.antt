-- What is left of IF, CASE, a loop or BEGIN, and what it says of the levels that may still stand.
use Rattle.std.specs.Option.{option_and_then}
use Rattle.std.proofs.Common.{◌≡◌, ℕ, ◌+◌, ◌-◌, ◌<◌, ◌≤◌, Bool, true, false, List, [], ◌∷◌, Option, Some, None, length}
use Rattle.std.proofs.Common.{T, eqb, refl, sym, ap, subst, ◌∙◌, arith, true≢false, Box, Global}
use Rattle.pearl_tree.specs.declared.parts.Parts.{Parts}
use Rattle.pearl_tree.specs.declared.expression.Expr.{Expr}
use Rattle.pearl_tree.specs.declared.statement.Body.{Body}
use Rattle.pearl_tree.specs.declared.statement.Branch.{Branch}
use Rattle.pearl_tree.specs.declared.statement.Stmt.{Stmt, If', Case', Repeat', Begin', items-the_row-Stmt}
use Rattle.pearl_tree.specs.declared.statement.Stmt as stmt
use Rattle.pearl_tree.specs.declared.statement.Repeat.{Repeat}
use Rattle.pearl_tree.specs.declared.statement.Begin.{Begin}
use Rattle.pearl_tree.specs.declared.statement.If.{out-If, roll-If, out-roll-If}
use Rattle.pearl_tree.specs.declared.statement.Case.{out-Case, roll-Case, out-roll-Case}
use Rattle.pearl_tree.specs.declared.statement.If as if_
use Rattle.pearl_tree.specs.declared.statement.Case as case_
use Rattle.pearl_tree.specs.declared.token.What.{What}
use Rattle.pearl_tree.specs.declared.token.What.TheVariants as what
use Rattle.pearl_tree.specs.declared.token.Token.{Token}
use Rattle.pearl_tree.specs.Standing.{Spelling, what_at, IsAt, HasWord, HasSymbol, SpellsMaybe, SpellsSome}
use Rattle.pearl_tree.specs.Statements.{SpellsStmt, SpellsBranch, SpellsBody, SpellsAfter}
use Rattle.pearl_tree.specs.declared.symbol.TheConstants as s
use Rattle.pearl_tree.specs.declared.word_code.TheConstants as w
use Rattle.pearl_tree.proofs.Offered.{group_of, spells_if, spells_case, spells_begin, spells_repeat}
use Rattle.pearl_parse_expr.specs.declared.reading.Halt.{Halt}
use Rattle.pearl_parse_expr.specs.declared.reading.Halt.TheVariants.{Refused, NoMemory}
use Rattle.pearl_parse_expr.specs.Stops.{IsHalted, is_word}
use Rattle.pearl_parse_expr.proofs.Offered.{clash}
use Rattle.pearl_parse.specs.declared.loops.Heads.{Heads}
use Rattle.pearl_grammar.specs.Reached.{IsStopped}
use Rattle.pearl_parse.specs.Stops.{begins_statement}
use Rattle.pearl_parse.specs.Bodies.{is_one, loop_words, SpellsStatements, SpellsOptionalHeaded, SpellsChoices}
use Rattle.pearl_parse.specs.Bodies.{SpellsBlock, SpellsClosing, SpellsCondition, SpellsHeads}
use Rattle.pearl_parse.proofs.ByFirst.{group, of_kind, stmt_begins}
use Rattle.pearl_grammar.proofs.Offered.{Rest, Ends, Next}
use Rattle.pearl_parse.proofs.Steps.{Avoids, Goes}
use Rattle.pearl_parse.proofs.StatementRests.{Spelled}
use Rattle.pearl_parse.proofs.Words.{one_holds}
use Rattle.pearl_parse.proofs.RowLists.{statements_listed, choices_listed, otherwise_listed}

-- word ";"
abbrev pub closing_rest : ℕ → Rest
closing_rest word = Next (SpellsClosing word) Ends

-- [ word { stmt } ] FIN ";"
abbrev pub otherwise_rest : ℕ → ℕ → Rest
otherwise_rest depth word = Next (SpellsOptionalHeaded depth word) (closing_rest w.FIN)

-- { stmt } [ ELSE { stmt } ] FIN ";"
abbrev pub then_rest : ℕ → Rest
then_rest depth = Next (SpellsStatements depth) (otherwise_rest depth w.ELSE)

abbrev pub if_rest : ℕ → Rest
if_rest depth = Next SpellsCondition (then_rest depth)

-- ALT { stmt } { ALT { stmt } } [ OUT { stmt } ] FIN ";"
abbrev pub choices_rest : ℕ → Rest
choices_rest depth = Next (SpellsChoices depth) (otherwise_rest depth w.OUT)

abbrev pub case_rest : ℕ → Rest
case_rest depth = Next (λ tokens. SpellsAfter tokens w.CASE) (choices_rest depth)

-- body END ";"
abbrev pub block_rest : ℕ → Rest
block_rest depth = Next (SpellsBlock depth) (closing_rest w.END)

abbrev pub repeat_rest : ℕ → Rest
repeat_rest depth = Next SpellsHeads (block_rest depth)

-- with which tokens none of these goes on
pub avoids_closing : (extends : Option What → Bool) (word : ℕ) → extends (Some (what.Word word)) ≡ false →
    Avoids extends (closing_rest word)
avoids_closing extends word stops = λ others at to h. ap extends h.2.0 ∙ stops

pub avoids_otherwise : (extends : Option What → Bool) (depth word : ℕ) → extends (Some (what.Word word)) ≡ false →
    extends (Some (what.Word w.FIN)) ≡ false → Avoids extends (otherwise_rest depth word)
avoids_otherwise extends depth word stops ends = λ others at to h. by others at to h.0 h.1 h.2 h.3
  where
    by : (others : List Token) (at to : ℕ) (x : Option (List Stmt)) (m : ℕ) →
        SpellsOptionalHeaded depth word others at x m → closing_rest w.FIN others m to →
        extends (what_at others at) ≡ false
    by others at to None m h i = subst (λ k. extends (what_at others k) ≡ false) h.0
        (avoids_closing extends w.FIN ends others m to i)
    by others at to (Some xs) m h i = ap extends h.0 ∙ stops

pub avoids_choices : (extends : Option What → Bool) (depth : ℕ) → extends (Some (what.Word w.ALT)) ≡ false →
    Avoids extends (choices_rest depth)
avoids_choices extends depth stops = λ others at to h. by others at h.0 h.1 h.2
  where
    by : (others : List Token) (at : ℕ) (xs : List (List Stmt)) (m : ℕ) → SpellsChoices depth others at xs m →
        extends (what_at others at) ≡ false
    by others at [] m h = absurd h
    by others at (x ∷ xs) m h = ap extends h.1.0 ∙ stops

module _ (others : List Token) (depth from : ℕ) where
  pub only_if : HasWord others from w.IF → (a : Stmt) (to : ℕ) → SpellsStmt others depth from a to → (0 < depth) ×
      if_rest (depth - 1) others from to
  only_if here a to h = by a (of_kind others depth from 3 (what.Word w.IF) here refl a to h) h
    where
      by : (a : Stmt) → T (eqb (group a) 3) → SpellsStmt others depth from a to → (0 < depth) ×
          if_rest (depth - 1) others from to
      by (If' _ (if_.If' x _ row o p)) e h =
          let otherwise = otherwise_listed others (depth - 1) w.ELSE h.1 o h.2 (ap (is_word w.ELSE) h.9) h.8 in (
            h.4,
            (
              x,
              h.0 + 1,
              (h.0, h.5, h.6, refl),
              (
                items-the_row-Stmt _ row,
                h.1,
                statements_listed others (depth - 1) (h.0 + 1) _ row h.1 h.7,
                (otherwise.0, h.2, otherwise.1, (tt, to, (h.9, h.10, h.11), refl)),
              ),
            ),
          )
      by a e h = absurd e

  pub only_case : HasWord others from w.CASE → (a : Stmt) (to : ℕ) → SpellsStmt others depth from a to → (0 < depth) ×
      case_rest (depth - 1) others from to
  only_case here a to h = by a (of_kind others depth from 4 (what.Word w.CASE) here refl a to h) h
    where
      by : (a : Stmt) → T (eqb (group a) 4) → SpellsStmt others depth from a to → (0 < depth) ×
          case_rest (depth - 1) others from to
      by (Case' _ (case_.Case' x _ row o p)) e h =
          let otherwise = otherwise_listed others (depth - 1) w.OUT h.1 o h.2 (ap (is_word w.OUT) h.8) h.7 in
          let choices = choices_listed others (depth - 1) h.0 _ row h.1 h.6 in (
            h.4,
            (
              x,
              h.0,
              h.5,
              (
                choices.0,
                h.1,
                choices.1,
                (
                  otherwise.0,
                  h.2,
                  otherwise.1,
                  (tt, to, (h.8, h.9, h.10), refl),
                ),
              ),
            ),
          )
      by a e h = absurd e

  pub only_begin : HasWord others from w.BEGIN → (a : Stmt) (to : ℕ) → SpellsStmt others depth from a to → (0 < depth) ×
      block_rest (depth - 1) others (from + 1) to
  only_begin here a to h = by a (of_kind others depth from 7 (what.Word w.BEGIN) here refl a to h) h
    where
      by : (a : Stmt) → T (eqb (group a) 7) → SpellsStmt others depth from a to → (0 < depth) ×
          block_rest (depth - 1) others (from + 1) to
      by (Begin' _ ds _ row q p) e h = (
        h.2,
        (
          (q, (ds.items.items, items-the_row-Stmt _ row)),
          h.0,
          (h.4.0, h.4.1, h.4.2, statements_listed others (depth - 1) h.4.0 _ row h.0 h.4.3),
          (tt, to, (h.5, h.6, h.7), refl),
        ),
      )
      by a e h = absurd e

  pub only_repeat : is_one loop_words (what_at others from) ≡ true → (a : Stmt) (to : ℕ) →
      SpellsStmt others depth from a to → (0 < depth) × repeat_rest (depth - 1) others from to
  only_repeat here a to h = by a (kind (what_at others from) refl here) h
    where
      kind : (token : Option What) → what_at others from ≡ token → is_one loop_words token ≡ true → T (eqb (group a) 5)
      kind (Some token) is one =
          of_kind others depth from 5 token is
          (one_holds (λ token. option_and_then group_of token ≡ Some 5) loop_words (Some token)
          (refl, (refl, (refl, (refl, (refl, (refl, tt)))))) one) a to h
      kind None is one = absurd (true≢false (sym one))

      by : (a : Stmt) → T (eqb (group a) 5) → SpellsStmt others depth from a to → (0 < depth) ×
          repeat_rest (depth - 1) others from to
      by (Repeat' _ a b c d e ds _ row q p) k h = (
        h.7,
        (
          record { control = a; begin = b; step = c; end = d; condition = e },
          h.4 + 1,
          (h.0, h.1, h.2, h.3, h.4, h.8, h.9, h.10, h.11, h.12, h.13, refl),
          (
            (q, (ds.items.items, items-the_row-Stmt _ row)),
            h.5,
            (h.14.0, h.14.1, h.14.2, statements_listed others (depth - 1) h.14.0 _ row h.5 h.14.3),
            (tt, to, (h.15, h.16, h.17), refl),
          ),
        ),
      )
      by a k h = absurd k

module _ (tokens : List Token) (depth from : ℕ) where
  pub if_goes : HasWord tokens from w.IF → Goes (Spelled depth) tokens from (if_rest (depth - 1)) from from
  if_goes here = λ others agree a to h. (only_if others depth from (sym (agree from (omega arith)) ∙ here) a to h).1

  pub case_goes : HasWord tokens from w.CASE → Goes (Spelled depth) tokens from (case_rest (depth - 1)) from from
  case_goes here = λ others agree a to h. (only_case others depth from (sym (agree from (omega arith)) ∙ here) a to h).1

  pub begin_goes : HasWord tokens from w.BEGIN →
      Goes (Spelled depth) tokens from (block_rest (depth - 1)) (from + 1) from
  begin_goes here = λ others agree a to h. (only_begin others depth from (sym (agree from (omega arith)) ∙ here) a to
      h).1

  pub repeat_goes : is_one loop_words (what_at tokens from) ≡ true →
      Goes (Spelled depth) tokens from (repeat_rest (depth - 1)) from from
  repeat_goes here = λ others agree a to h.
      (only_repeat others depth from (ap (is_one loop_words) (sym (agree from (omega arith))) ∙ here) a to h).1

-- what was read, put together
module _ (tokens : List Token) (depth from place : ℕ) (here : IsAt tokens from place) (deep : 0 < depth) where
  abbrev Closes : ℕ → ℕ → Type 0
  Closes word k = HasWord tokens k word × HasSymbol tokens (k + 1) s.SEMICOLON

  pub if_spelled : (box : Box if_.If Global) (condition : Expr) (statements : Parts Stmt) (otherwise : Option Branch) →
      box.value ≡ roll-If (record {
        condition = condition;
        statements = statements;
        otherwise = otherwise;
        place =
            place;
      }) → (a b c : ℕ) → SpellsCondition tokens from condition a →
      SpellsStatements (depth - 1) tokens a statements.items.items b →
      SpellsMaybe (SpellsBranch tokens (depth - 1) w.ELSE) b otherwise c → Closes w.FIN c →
      SpellsStmt tokens depth from (stmt.If box) (c + 2)
  if_spelled box condition statements otherwise is a b c head inner other closes =
      let shown = ap out-If is ∙ out-roll-If (record {
        condition = condition;
        statements = statements;
        otherwise =
            otherwise;
        place = place;
      }) in
      subst (λ X. X) (sym (spells_if tokens depth from box (c + 2))) (rw shown (
        head.0,
        b,
        c,
        here,
        deep,
        head.1,
        head.2,
        subst (λ k. SpellsStatements (depth - 1) tokens k statements.items.items b) head.3 inner,
        other,
        closes.0,
        closes.1,
        refl,
      ))

  pub case_spelled : (box : Box case_.Case Global) (selector : Expr) (alternatives : Parts Branch)
      (otherwise : Option Branch) →
      box.value ≡ roll-Case (record {
        selector = selector;
        alternatives = alternatives;
        otherwise = otherwise;
        place =
            place;
      }) → (a b c : ℕ) → SpellsAfter tokens w.CASE from selector a →
      SpellsSome (SpellsBranch tokens (depth - 1) w.ALT) a alternatives.items.items b →
      SpellsMaybe (SpellsBranch tokens (depth - 1) w.OUT) b otherwise c → Closes w.FIN c →
      SpellsStmt tokens depth from (stmt.Case box) (c + 2)
  case_spelled box selector alternatives otherwise is a b c head inner other closes =
      let shown = ap out-Case is ∙ out-roll-Case
      (record { selector = selector; alternatives = alternatives; otherwise = otherwise; place = place }) in
      subst (λ X. X) (sym (spells_case tokens depth from box (c + 2)))
      (rw shown (a, b, c, here, deep, head, inner, other, closes.0, closes.1, refl))

  pub begin_spelled : (box : Box Begin Global) (body : Body) → box.value ≡ record { body = body; place = place } →
      (a : ℕ) → HasWord tokens from w.BEGIN → SpellsBody tokens (depth - 1) (from + 1) body a → Closes w.END a →
      SpellsStmt tokens depth from (stmt.Begin box) (a + 2)
  begin_spelled box body is a word inner closes =
      subst (λ X. X) (sym (spells_begin tokens depth from box (a + 2)))
      (rw is (a, here, deep, word, inner, closes.0, closes.1, refl))

  pub repeat_spelled : (box : Box Repeat Global) (heads : Heads) (body : Body) →
      box.value ≡ record {
        control = heads.control;
        begin = heads.begin;
        step = heads.step;
        end = heads.end;
        condition = heads.condition;
        body = body;
        place = place;
      } → (a b : ℕ) → SpellsHeads tokens from heads a → SpellsBody tokens (depth - 1) a body b → Closes w.END b →
      SpellsStmt tokens depth from (stmt.Repeat box) (b + 2)
  repeat_spelled box heads body is a b head inner closes =
      subst (λ X. X) (sym (spells_repeat tokens depth from box (b + 2))) (rw is (
        head.0,
        head.1,
        head.2,
        head.3,
        head.4,
        b,
        here,
        deep,
        head.5,
        head.6,
        head.7,
        head.8,
        head.9,
        head.10,
        subst (λ k. SpellsBody tokens (depth - 1) k body b) head.11 inner,
        closes.0,
        closes.1,
        refl,
      ))

-- where no level may stand
module _ (tokens : List Token) (depth from : ℕ) (none : depth ≡ 0) (within : from ≤ length tokens) where
  refused_here : ((others : List Token) → what_at tokens from ≡ what_at others from → (a : Stmt) (to : ℕ) →
      SpellsStmt others depth from a to → 0 < depth) →
      IsHalted (Spelled depth) tokens from (Refused from)
  refused_here deep = (
    λ others agree a to h. absurd
        (omega (arith, none, deep others (agree from (omega arith)) a to h)),
    omega arith,
    within,
  )

  pub no_if : HasWord tokens from w.IF → IsHalted (Spelled depth) tokens from (Refused from)
  no_if here = refused_here (λ others same a to h. (only_if others depth from (sym same ∙ here) a to h).0)

  pub no_case : HasWord tokens from w.CASE → IsHalted (Spelled depth) tokens from (Refused from)
  no_case here = refused_here (λ others same a to h. (only_case others depth from (sym same ∙ here) a to h).0)

  pub no_begin : HasWord tokens from w.BEGIN → IsHalted (Spelled depth) tokens from (Refused from)
  no_begin here = refused_here (λ others same a to h. (only_begin others depth from (sym same ∙ here) a to h).0)

  pub no_repeat : is_one loop_words (what_at tokens from) ≡ true → IsHalted (Spelled depth) tokens from (Refused from)
  no_repeat here = refused_here (λ others same a to h. (only_repeat others depth from
      (ap (is_one loop_words) (sym same) ∙ here) a to h).0)

-- no statement begins with the token
pub no_statement : (tokens : List Token) (depth from : ℕ) → from ≤ length tokens →
    begins_statement (what_at tokens from) ≡ false → IsHalted (Spelled depth) tokens from (Refused from)
no_statement tokens depth from within none = (
  λ others agree a to h. clash _ (stmt_begins others depth from a to h)
      (ap begins_statement (sym (agree from (omega arith))) ∙ none),
  omega arith,
  within,
)

pub out_of_memory_behind : {X : Type 0} (spells : List Token → Spelling X) (tokens : List Token) (from least_stop : ℕ)
    (halt : Halt) → halt ≡ NoMemory → IsStopped spells tokens from least_stop halt
out_of_memory_behind spells tokens from least_stop halt is = subst (λ halt.
    IsStopped spells tokens from least_stop halt) (sym is) tt
