-- Statements with others in them, made of what their rules say, one token or part after the other.
use Rattle.std.proofs.Common.{◌≡◌, ℕ, ◌+◌, ◌-◌, ◌<◌, ◌≤◌, ◌^◌, List, [], ◌∷◌, length, Option, refl, sym, subst, arith}
use Rattle.pearl_tree.specs.declared.statement.BodyDecl.{BodyDecl}
use Rattle.pearl_tree.specs.declared.statement.Branch.{Branch}
use Rattle.pearl_tree.specs.declared.statement.Body.{Body}
use Rattle.pearl_tree.specs.declared.statement.Stmt.{Stmt}
use Rattle.pearl_tree.specs.declared.statement.Stmt as stmt
use Rattle.pearl_tree.specs.declared.statement.If.{roll-If}
use Rattle.pearl_tree.specs.declared.statement.Case.{roll-Case}
use Rattle.pearl_tree.specs.declared.token.What.TheVariants as what
use Rattle.pearl_tree.specs.declared.token.Token.{Token}
use Rattle.pearl_tree.specs.Standing.{Spelling, IsAt, SpellsEach, SpellsSome, SpellsMaybe}
use Rattle.pearl_tree.specs.Statements.{SpellsAfter, SpellsBodyDecl, SpellsStmt, SpellsBranch, SpellsBody}
use Rattle.pearl_tree.specs.declared.word_code.TheConstants as w
use Rattle.pearl_parse_expr.proofs.Offered.{placed, placed_within, boxed, parts_of}
use Rattle.pearl_parse_decl.proofs.Offered.{after_of, each_long}
use Rattle.pearl_parse_decl.proofs.Offered as lists
use Rattle.pearl_parse.specs.Bodies.{SpellsStatements, SpellsCondition, SpellsHeads, SpellsInner}
use Rattle.pearl_grammar.proofs.Offered.{Ends, Next, Makes}
use Rattle.pearl_parse.proofs.Comes.{BehindWord, Maybe}
use Rattle.pearl_parse.proofs.Made.{word_within}
use Rattle.pearl_parse.proofs.NestedRests.{closing_rest, if_spelled, case_spelled, begin_spelled, repeat_spelled}
use Rattle.pearl_parse.proofs.LocalStatements.{body_declaration_keeps, stmt_keeps, branch_keeps}
use Rattle.pearl_parse.proofs.LocalRests.{heads_keep, inner_keeps}

module _ (others : List Token) (depth : ℕ) where
  statements_long : (from : ℕ) (xs : List Stmt) (to : ℕ) → SpellsStatements depth others from xs to →
      from + length xs ≤ to
  statements_long = each_long others (SpellsStmt others depth)
      (after_of 1 (λ tokens. SpellsStmt tokens depth) (λ tokens others k alike. stmt_keeps tokens others k alike depth)
      others)

  branch_after : (from : ℕ) (x : Branch) (to : ℕ) → SpellsBranch others depth w.ALT from x to → from + 1 ≤ to
  branch_after = after_of 1 (λ tokens. SpellsBranch tokens depth w.ALT)
      (λ tokens others k alike. branch_keeps tokens others k alike depth w.ALT) others

  branches_long : (from : ℕ) (xs : List Branch) (to : ℕ) → SpellsSome (SpellsBranch others depth w.ALT) from xs to →
      from + length xs ≤ to
  branches_long from [] to h = absurd h
  branches_long from (x ∷ xs) to h =
      omega (
        arith,
        branch_after from x h.0 h.1,
        each_long others (SpellsBranch others depth w.ALT) branch_after h.0 xs
            to h.2,
      )

  declarations_long : (from : ℕ) (xs : List BodyDecl) (to : ℕ) → SpellsEach (SpellsBodyDecl others) from xs to →
      from + length xs ≤ to
  declarations_long = each_long others (SpellsBodyDecl others)
      (λ from x to h. let far = after_of 2 SpellsBodyDecl body_declaration_keeps others from x to h in
      omega (arith, far))

  -- a body, where its place is that of the token with which it begins or that stands behind it
  pub body_made : (from to place : ℕ) → to < 2 ^ 63 → IsAt others from place → (x : List BodyDecl × List Stmt) →
      SpellsInner depth others from x to →
      (body : Body) × SpellsBody others depth from body to
  body_made from to place small at x h =
      let after = after_of 0 (SpellsInner depth) (λ tokens others k alike. inner_keeps tokens others k alike depth)
      others from x to h in
      let second = statements_long h.0 x.1 to h.2 in
      let first = declarations_long from x.0 h.0 h.1 in
      let few : length x.1 < 2 ^ 63 = omega arith in
      let few_declarations : length x.0 < 2 ^ 63 = omega arith in (
        record { declarations = parts_of x.0 few_declarations; statements = parts_of x.1 few; place = place },
        (h.0, at, h.1, h.2),
      )

-- word { stmt }
pub branch_made : (depth word : ℕ) → Makes (λ tokens. SpellsBranch tokens depth word)
    (BehindWord word (Next (SpellsStatements depth) Ends))
branch_made depth word others from to small h =
    let at = placed others from (what.Word word) h.0 in
    let long = statements_long others depth (from + 1) h.1.0 h.1.1 h.1.2 in
    let few : length h.1.0 < 2 ^ 63 = omega (arith, long, h.1.3) in (
      record { statements = parts_of h.1.0 few; place = at.0 },
      (at.1, h.0, subst (λ k. SpellsStatements depth others (from + 1) h.1.0 k) (sym h.1.3) h.1.2),
    )

-- a branch that may be missing ends no earlier than it begins
branch_end : (others : List Token) (depth word from : ℕ) (x : Option Branch) (to : ℕ) →
    SpellsMaybe (SpellsBranch others depth word) from x to → from ≤ to
branch_end others depth word from x to h =
    let far = lists.maybe_keeps others others to (λ j below. refl) 1 (λ tokens. SpellsBranch tokens depth word)
    (branch_keeps others others to (λ j below. refl) depth word) from x to h (omega arith) in
    omega (arith, far.0)

module _ (depth : ℕ) (deep : 0 < depth) where
  abbrev Spelled : List Token → Spelling Stmt
  Spelled tokens = SpellsStmt tokens depth

  abbrev pub OtherBranch : ℕ → List Token → Spelling (Option Branch)
  OtherBranch word = Maybe (λ tokens. SpellsBranch tokens (depth - 1) word)

  pub if_made : Makes Spelled (Next SpellsCondition (Next (SpellsStatements (depth - 1))
      (Next (OtherBranch w.ELSE) (closing_rest w.FIN))))
  if_made others from to small h =
      let at = placed others from (what.Word w.IF) h.2.1.0 in
      let inner = h.3 in
      let other = inner.3 in
      let close = other.3 in
      let end : other.1 + 2 ≡ to = omega (arith, close.2.2, close.3) in
      let long = statements_long others (depth - 1) h.1 inner.0 inner.1 inner.2 in
      let few : length inner.0 < 2 ^ 63 = omega (
        arith,
        small,
        long,
        end,
        branch_end others (depth - 1) w.ELSE inner.1 other.0 other.1 other.2,
      ) in
      let list = parts_of inner.0 few in
      let box = boxed (roll-If (record { condition = h.0; statements = list; otherwise = other.0; place = at.0 })) in (
        stmt.If box,
        subst (λ k. SpellsStmt others depth from (stmt.If box) k) end
            (if_spelled others depth from at.0 at.1 deep box h.0 list other.0 refl h.1 inner.1 other.1 h.2 inner.2
            other.2 (close.2.0, close.2.1)),
      )

  pub case_made : Makes Spelled (Next (λ tokens. SpellsAfter tokens w.CASE)
      (Next (λ tokens. SpellsSome (SpellsBranch tokens (depth - 1) w.ALT))
      (Next (OtherBranch w.OUT) (closing_rest w.FIN))))
  case_made others from to small h =
      let at = placed others from (what.Word w.CASE) h.2.0 in
      let inner = h.3 in
      let other = inner.3 in
      let close = other.3 in
      let end : other.1 + 2 ≡ to = omega (arith, close.2.2, close.3) in
      let long = branches_long others (depth - 1) h.1 inner.0 inner.1 inner.2 in
      let few : length inner.0 < 2 ^ 63 = omega (
        arith,
        small,
        long,
        end,
        branch_end others (depth - 1) w.OUT inner.1 other.0 other.1 other.2,
      ) in
      let xs = parts_of inner.0 few in
      let box = boxed (roll-Case (record { selector = h.0; alternatives = xs; otherwise = other.0; place = at.0 })) in (
        stmt.Case box,
        subst (λ k. SpellsStmt others depth from (stmt.Case box) k) end
            (case_spelled others depth from at.0 at.1 deep box h.0 xs other.0 refl h.1 inner.1 other.1 h.2 inner.2
            other.2 (close.2.0, close.2.1)),
      )

  inner_after : (others : List Token) (from : ℕ) (x : List BodyDecl × List Stmt) (to : ℕ) →
      SpellsInner (depth - 1) others from x to → from ≤ to
  inner_after others from x to h =
      let far = inner_keeps others others to (λ j below. refl) (depth - 1) from x to h (omega arith) in
      omega (arith, far.0)

  pub begin_made : Makes Spelled (BehindWord w.BEGIN (Next (SpellsInner (depth - 1)) (closing_rest w.END)))
  begin_made others from to small h =
      let at = placed others from (what.Word w.BEGIN) h.0 in
      let a = h.1.1 in
      let close = h.1.3 in
      let end : a + 2 ≡ to = omega (arith, close.2.2, close.3) in
      let inside = placed_within others (from + 1)
      (omega (
        arith,
        inner_after others (from + 1) h.1.0 a h.1.2,
        word_within others a (what.Word w.END)
            close.2.0,
      )) in
      let body = body_made others (depth - 1) (from + 1) a inside.0 (omega arith) inside.1 h.1.0 h.1.2 in
      let box = boxed (record { body = body.0; place = at.0 }) in (
        stmt.Begin box,
        subst (λ k. SpellsStmt others depth from (stmt.Begin box) k) end
            (begin_spelled others depth from at.0 at.1 deep box body.0 refl a h.0 body.1 (close.2.0, close.2.1)),
      )

  pub repeat_made : Makes Spelled (Next SpellsHeads (Next (SpellsInner (depth - 1)) (closing_rest w.END)))
  repeat_made others from to small h =
      let a = h.3.1 in
      let close = h.3.3 in
      let end : a + 2 ≡ to = omega (arith, close.2.2, close.3) in
      let last = word_within others a (what.Word w.END) close.2.0 in
      let ahead = heads_keep others others h.1 (λ j below. refl) from h.0 h.1 h.2 (omega arith) in
      let within = inner_after others h.1 h.3.0 a h.3.2 in
      let at = placed_within others from (omega (arith, ahead.0)) in
      let inside = placed_within others h.1 (omega arith) in
      let body = body_made others (depth - 1) h.1 a inside.0 (omega arith) inside.1 h.3.0 h.3.2 in
      let heads = h.0 in
      let box = boxed (record {
        control = heads.control;
        begin = heads.begin;
        step = heads.step;
        end = heads.end;
        condition = heads.condition;
        body = body.0;
        place = at.0;
      }) in (
        stmt.Repeat box,
        subst (λ k. SpellsStmt others depth from (stmt.Repeat box) k) end
            (repeat_spelled others depth from at.0 at.1 deep box heads body.0 refl h.1 a h.2 body.1
            (close.2.0, close.2.1)),
      )
