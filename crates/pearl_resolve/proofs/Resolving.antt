-- What statements become, one after the other and within others.
use Rattle.std.proofs.Common.{◌≡◌, ℕ, ◌+◌, ◌*◌, Option, option_map, List, [], ◌∷◌, ◌++◌, refl, sym, ap, subst, ◌∙◌, append_assoc, append-nil, arith}
use Rattle.std.specs.List.{sum_by}
use Rattle.pearl_value.specs.declared.kind.CellKind.{CellKind}
use Rattle.pearl_tree.specs.declared.name.Name.{Name}
use Rattle.pearl_tree.specs.declared.typing.Sort.TheVariants as sort
use Rattle.pearl_tree.specs.ShownExpressions.{ShownExpr}
use Rattle.pearl_tree.specs.ShownStatements.{ShownBodyDecl, ShownStmt, ShownStmts, ShownBranches, ShownOtherwise}
use Rattle.pearl_tree.specs.ShownStatements as shown
use Rattle.pearl_names.specs.declared.scope.View.TheVariants.{WhileOf}
use Rattle.pearl_names.specs.Lengths.{length_at}
use Rattle.pearl_names.specs.Tables.{Table}
use Rattle.pearl_program.specs.declared.statement.Branch.{Branch}
use Rattle.pearl_program.specs.declared.statement.Stmt.{Stmt}
use Rattle.pearl_program.specs.PlainExpressions.{PlainExpr}
use Rattle.pearl_program.specs.PlainStatements.{PlainCounter, PlainStmt, OfIf, OfCase, OfRepeat, PlainStmts, NoStmts, MoreStmts, PlainBranches, NoBranches, MoreBranches, plain_stmt, plain_stmts, plain_branches}
use Rattle.pearl_resolve.specs.Cells.{counter_cells, scope_cells, cells_in, cells_in_all, cells_in_branches, cells_in_otherwise}
use Rattle.pearl_resolve.specs.Expressions.{Numbered, resolve_expr}
use Rattle.pearl_resolve.specs.Holding.{Resolves, joined_branches}
use Rattle.pearl_resolve.specs.Laying.{cells_of_sense}
use Rattle.pearl_resolve.specs.Numbers.{At, counts, entered, loop_cells, senses_at, after, after_all, after_branches, after_otherwise}
use Rattle.pearl_resolve.specs.Statements.{alone, counter_in, declared_renewals, joined, resolve_stmt, resolve_all, resolve_branches, resolve_otherwise, value_in}

pub joined_none : (made : PlainStmts) → joined made NoStmts ≡ made
joined_none NoStmts = refl
joined_none (MoreStmts s rest) = ap (λ t. MoreStmts s t) (joined_none rest)

pub joined_joined : (a b c : PlainStmts) → joined (joined a b) c ≡ joined a (joined b c)
joined_joined NoStmts b c = refl
joined_joined (MoreStmts s rest) b c = ap (λ t. MoreStmts s t) (joined_joined rest b c)

stmts_push : (made : List Stmt) (s : Stmt) → plain_stmts (made ++ s ∷ []) ≡ joined (plain_stmts made) (alone (plain_stmt s))
stmts_push [] s = refl
stmts_push (x ∷ made) s = ap (λ t. MoreStmts (plain_stmt x) t) (stmts_push made s)

-- one statement more
pub pushed : (made new : List Stmt) (s : Stmt) (meant : PlainStmt) → new ≡ made ++ s ∷ [] → plain_stmt s ≡ meant →
    plain_stmts new ≡ joined (plain_stmts made) (alone meant)
pushed made new s meant more is = ap plain_stmts more ∙ stmts_push made s ∙ ap (λ m. joined (plain_stmts made) (alone m)) is

pub none_added : (here : At) (cells : List CellKind) (made : List Stmt) →
    Resolves here cells cells (plain_stmts made) here [] (joined (plain_stmts made) NoStmts)
none_added here cells made = record { goes = refl; adds = sym (append-nil cells); makes = sym (joined_none (plain_stmts made)) }

-- behind no others
pub from_none : {now after : At} {cells more own : List CellKind} {new : PlainStmts} (made : List Stmt) (is : PlainStmts) → made ≡ [] →
    Resolves now cells more new after own (joined (plain_stmts made) is) → Resolves now cells more new after own is
from_none made is none h = record { goes = h.goes; adds = h.adds; makes = h.makes ∙ ap (λ l. joined (plain_stmts l) is) none }

pub from_no_branches : {now after : At} {cells more own : List CellKind} {new : PlainBranches} (made : List Branch) (is : PlainBranches) → made ≡ [] →
    Resolves now cells more new after own (joined_branches (plain_branches made) is) → Resolves now cells more new after own is
from_no_branches made is none h = record { goes = h.goes; adds = h.adds; makes = h.makes ∙ ap (λ l. joined_branches (plain_branches l) is) none }

-- behind PUT and GET
pub put_goes : (here now : At) → now ≡ record { next = here.next; cell = here.cell + 2 * 0; format = here.format + 1 } →
    now ≡ record here { format = here.format + 1 }
put_goes here now is =
    let none : here.cell + 2 * 0 ≡ here.cell = omega arith in
    is ∙ (λ i. record { next = here.next; cell = none i; format = here.format + 1 })

pub get_goes : (here now : At) (count targets : ℕ) → now ≡ record { next = here.next; cell = here.cell + 2 * count; format = here.format + 1 } →
    count ≡ targets → now ≡ record here { cell = here.cell + 2 * targets; format = here.format + 1 }
get_goes here now count targets is so = is ∙ (λ i. record { next = here.next; cell = here.cell + 2 * so i; format = here.format + 1 })

-- in one scope, for one numbered table
module _ (of : Numbered) (scope : ℕ) where
  -- statements one after the other
  pub record Going (here start : At) (cells begun : List CellKind) (made first : PlainStmts) (left all : ShownStmts) : Type 0 where
    pub goes : after_all of.table here left ≡ after_all of.table start all
    pub adds : cells ++ cells_in_all of scope here left ≡ begun ++ cells_in_all of scope start all
    pub makes : joined made (resolve_all of scope here left) ≡ joined first (resolve_all of scope start all)

  pub going_more : (here start next : At) (cells begun more : List CellKind) (made first new : PlainStmts) (s : ShownStmt) (rest all : ShownStmts) →
      Going here start cells begun made first (shown.MoreStmts s rest) all →
      Resolves next cells more new (after of.table here s) (cells_in of scope here s) (joined made (resolve_stmt of scope here s)) →
      Going next start more begun new first rest all
  going_more here start next cells begun more made first new s rest all p g = record {
    goes = ap (λ a. after_all of.table a rest) g.goes ∙ p.goes;
    adds = (λ i. g.adds i ++ cells_in_all of scope (g.goes i) rest) ∙ append_assoc cells (cells_in of scope here s) _ ∙ p.adds;
    makes = (λ i. joined (g.makes i) (resolve_all of scope (g.goes i) rest)) ∙ joined_joined made (resolve_stmt of scope here s) _ ∙ p.makes;
  }

  pub going_all : (here start : At) (cells begun : List CellKind) (made first : PlainStmts) (all : ShownStmts) →
      Going here start cells begun made first shown.NoStmts all →
      Resolves here begun cells made (after_all of.table start all) (cells_in_all of scope start all) (joined first (resolve_all of scope start all))
  going_all here start cells begun made first all p =
      record { goes = p.goes; adds = sym (append-nil cells) ∙ p.adds; makes = sym (joined_none made) ∙ p.makes }

  -- branches one after the other
  pub record GoingBranches (here start : At) (cells begun : List CellKind) (made first : PlainBranches) (left all : ShownBranches) : Type 0 where
    pub goes : after_branches of.table here left ≡ after_branches of.table start all
    pub adds : cells ++ cells_in_branches of scope here left ≡ begun ++ cells_in_branches of scope start all
    pub makes : joined_branches made (resolve_branches of scope here left) ≡ joined_branches first (resolve_branches of scope start all)

joined_no_branches : (made : PlainBranches) → joined_branches made NoBranches ≡ made
joined_no_branches NoBranches = refl
joined_no_branches (MoreBranches s rest) = ap (λ t. MoreBranches s t) (joined_no_branches rest)

branches_push : (made : List Branch) (branch : Branch) (rest : PlainBranches) →
    joined_branches (plain_branches (made ++ branch ∷ [])) rest ≡
    joined_branches (plain_branches made) (MoreBranches (plain_stmts branch.statements.items) rest)
branches_push [] branch rest = refl
branches_push (x ∷ made) branch rest = ap (λ t. MoreBranches (plain_stmts x.statements.items) t) (branches_push made branch rest)

module _ (of : Numbered) (scope : ℕ) where
  pub branches_more : (here start next : At) (cells begun more : List CellKind) (made new : List Branch) (first : PlainBranches) (branch : Branch)
      (s : ShownStmts) (place : ℕ) (rest all : ShownBranches) →
      GoingBranches of scope here start cells begun (plain_branches made) first (shown.MoreBranches s place rest) all → new ≡ made ++ branch ∷ [] →
      Resolves next cells more (plain_stmts branch.statements.items) (after_all of.table here s) (cells_in_all of scope here s) (resolve_all of scope here s) →
      GoingBranches of scope next start more begun (plain_branches new) first rest all
  branches_more here start next cells begun more made new first branch s place rest all p is g = record {
    goes = ap (λ a. after_branches of.table a rest) g.goes ∙ p.goes;
    adds = (λ i. g.adds i ++ cells_in_branches of scope (g.goes i) rest) ∙ append_assoc cells (cells_in_all of scope here s) _ ∙ p.adds;
    makes = ap (λ l. joined_branches (plain_branches l) (resolve_branches of scope next rest)) is
        ∙ branches_push made branch (resolve_branches of scope next rest)
        ∙ (λ i. joined_branches (plain_branches made) (MoreBranches (g.makes i) (resolve_branches of scope (g.goes i) rest))) ∙ p.makes;
  }

  pub branches_all : (here start : At) (cells begun : List CellKind) (made first : PlainBranches) (all : ShownBranches) →
      GoingBranches of scope here start cells begun made first shown.NoBranches all →
      Resolves here begun cells made (after_branches of.table start all) (cells_in_branches of scope start all)
      (joined_branches first (resolve_branches of scope start all))
  branches_all here start cells begun made first all p =
      record { goes = p.goes; adds = sym (append-nil cells) ∙ p.adds; makes = sym (joined_no_branches made) ∙ p.makes }

  pub if_added : (here first second : At) (cells mid more : List CellKind) (made new : List Stmt) (s : Stmt) (condition : PlainExpr)
      (statements others : PlainStmts) (c : ShownExpr) (ss : ShownStmts) (otherwise : ShownOtherwise) (place : ℕ) →
      condition ≡ value_in of scope c →
      Resolves first cells mid statements (after_all of.table here ss) (cells_in_all of scope here ss) (resolve_all of scope here ss) →
      Resolves second mid more others (after_otherwise of.table first otherwise) (cells_in_otherwise of scope first otherwise) (resolve_otherwise of scope first otherwise) →
      plain_stmt s ≡ OfIf condition statements others → new ≡ made ++ s ∷ [] →
      Resolves second cells more (plain_stmts new) (after of.table here (shown.OfIf c ss otherwise place)) (cells_in of scope here (shown.OfIf c ss otherwise place))
      (joined (plain_stmts made) (resolve_stmt of scope here (shown.OfIf c ss otherwise place)))
  if_added here first second cells mid more made new s condition statements others c ss otherwise place tests a b is pushes = record {
    goes = b.goes ∙ ap (λ at. after_otherwise of.table at otherwise) a.goes;
    adds = b.adds ∙ ap (λ l. l ++ cells_in_otherwise of scope first otherwise) a.adds
        ∙ append_assoc cells (cells_in_all of scope here ss) _
        ∙ ap (λ at. cells ++ (cells_in_all of scope here ss ++ cells_in_otherwise of scope at otherwise)) a.goes;
    makes = pushed made new s _ pushes
        (is ∙ (λ i. OfIf (tests i) (a.makes i) ((b.makes ∙ ap (λ at. resolve_otherwise of scope at otherwise) a.goes) i)));
  }

  pub case_added : (here first second : At) (cells mid more : List CellKind) (made new : List Stmt) (s : Stmt) (selector : PlainExpr)
      (alternatives : PlainBranches) (others : PlainStmts) (c : ShownExpr) (bs : ShownBranches) (otherwise : ShownOtherwise) (place : ℕ) →
      selector ≡ value_in of scope c →
      Resolves first cells mid alternatives (after_branches of.table here bs) (cells_in_branches of scope here bs) (resolve_branches of scope here bs) →
      Resolves second mid more others (after_otherwise of.table first otherwise) (cells_in_otherwise of scope first otherwise) (resolve_otherwise of scope first otherwise) →
      plain_stmt s ≡ OfCase selector alternatives others → new ≡ made ++ s ∷ [] →
      Resolves second cells more (plain_stmts new) (after of.table here (shown.OfCase c bs otherwise place)) (cells_in of scope here (shown.OfCase c bs otherwise place))
      (joined (plain_stmts made) (resolve_stmt of scope here (shown.OfCase c bs otherwise place)))
  case_added here first second cells mid more made new s selector alternatives others c bs otherwise place tests a b is pushes = record {
    goes = b.goes ∙ ap (λ at. after_otherwise of.table at otherwise) a.goes;
    adds = b.adds ∙ ap (λ l. l ++ cells_in_otherwise of scope first otherwise) a.adds
        ∙ append_assoc cells (cells_in_branches of scope here bs) _
        ∙ ap (λ at. cells ++ (cells_in_branches of scope here bs ++ cells_in_otherwise of scope at otherwise)) a.goes;
    makes = pushed made new s _ pushes
        (is ∙ (λ i. OfCase (tests i) (a.makes i) ((b.makes ∙ ap (λ at. resolve_otherwise of scope at otherwise) a.goes) i)));
  }

  -- a statement that shows something else
  pub shown_as : (here now : At) (cells more : List CellKind) (made new : PlainStmts) (s t : ShownStmt) → s ≡ t →
      Resolves now cells more new (after of.table here t) (cells_in of scope here t) (joined made (resolve_stmt of scope here t)) →
      Resolves now cells more new (after of.table here s) (cells_in of scope here s) (joined made (resolve_stmt of scope here s))
  shown_as here now cells more made new s t is h =
      subst (λ u. Resolves now cells more new (after of.table here u) (cells_in of scope here u) (joined made (resolve_stmt of scope here u))) (sym is) h

  -- one that goes past nothing and has no cells, and becomes one statement
  pub added_as : (here : At) (cells : List CellKind) (made new : List Stmt) (one : Stmt) (s t : ShownStmt) → s ≡ t →
      after of.table here t ≡ here → cells_in of scope here t ≡ [] → new ≡ made ++ one ∷ [] → alone (plain_stmt one) ≡ resolve_stmt of scope here t →
      Resolves here cells cells (plain_stmts new) (after of.table here s) (cells_in of scope here s) (joined (plain_stmts made) (resolve_stmt of scope here s))
  added_as here cells made new one s t is goes adds more makes = shown_as here here cells cells (plain_stmts made) (plain_stmts new) s t is (record {
    goes = sym goes;
    adds = sym (append-nil cells) ∙ ap (λ l. cells ++ l) (sym adds);
    makes = pushed made new one _ more refl ∙ ap (joined (plain_stmts made)) makes;
  })

  -- one that goes on in the text, and becomes one statement
  pub moved_as : (here now : At) (cells more : List CellKind) (made new : List Stmt) (one : Stmt) (s t : ShownStmt) → s ≡ t →
      now ≡ after of.table here t → more ≡ cells ++ cells_in of scope here t → new ≡ made ++ one ∷ [] → alone (plain_stmt one) ≡ resolve_stmt of scope here t →
      Resolves now cells more (plain_stmts new) (after of.table here s) (cells_in of scope here s) (joined (plain_stmts made) (resolve_stmt of scope here s))
  moved_as here now cells more made new one s t is goes adds pushes makes = shown_as here now cells more (plain_stmts made) (plain_stmts new) s t is (record {
    goes = goes;
    adds = adds;
    makes = pushed made new one _ pushes refl ∙ ap (joined (plain_stmts made)) makes;
  })

-- within a scope that begins here
pub entered_is : (table : Table) (hidden own : ℕ) (here inner : At) →
    inner ≡ record { next = here.next + 1; cell = here.cell + hidden + own; format = here.format } →
    own ≡ sum_by cells_of_sense (senses_at table here.next) → inner ≡ entered table hidden here
entered_is table hidden own here inner is counted = is ∙ with_own counted
  where
    with_own : {n m : ℕ} → n ≡ m →
        ◌≡◌ {A = At} (record { next = here.next + 1; cell = here.cell + hidden + n; format = here.format })
        (record { next = here.next + 1; cell = here.cell + hidden + m; format = here.format })
    with_own e = λ i. record { next = here.next + 1; cell = here.cell + hidden + e i; format = here.format }

module _ (of : Numbered) (hidden : ℕ) (here : At) where
  pub body_added : (inner now : At) (cells mid more : List CellKind) (made renewed new : PlainStmts) (declarations : List ShownBodyDecl) (ss : ShownStmts) →
      mid ≡ cells ++ scope_cells of.table here.next → renewed ≡ joined made (declared_renewals of here.next declarations) →
      inner ≡ entered of.table hidden here →
      Resolves now mid more new (after_all of.table inner ss) (cells_in_all of here.next inner ss) (joined renewed (resolve_all of here.next inner ss)) →
      Resolves now cells more new (after_all of.table (entered of.table hidden here) ss)
      (scope_cells of.table here.next ++ cells_in_all of here.next (entered of.table hidden here) ss)
      (joined made (joined (declared_renewals of here.next declarations) (resolve_all of here.next (entered of.table hidden here) ss)))
  body_added inner now cells mid more made renewed new declarations ss owns renews enters h = record {
    goes = h.goes ∙ ap (λ at. after_all of.table at ss) enters;
    adds = h.adds ∙ ap (λ l. l ++ cells_in_all of here.next inner ss) owns
        ∙ append_assoc cells (scope_cells of.table here.next) _
        ∙ ap (λ at. cells ++ (scope_cells of.table here.next ++ cells_in_all of here.next at ss)) enters;
    makes = h.makes ∙ ap (λ m. joined m (resolve_all of here.next inner ss)) renews
        ∙ joined_joined made (declared_renewals of here.next declarations) _
        ∙ ap (λ at. joined made (joined (declared_renewals of here.next declarations) (resolve_all of here.next at ss))) enters;
  }

  pub repeat_added : (scope : ℕ) (now : At) (cells mid more : List CellKind) (made new : List Stmt) (s : Stmt) (counter : Option PlainCounter)
      (test : Option PlainExpr) (statements : PlainStmts) (control : Option Name) (begin step end condition : Option ShownExpr)
      (declarations : List ShownBodyDecl) (ss : ShownStmts) (body_place place : ℕ) →
      hidden ≡ loop_cells control begin step end → counter ≡ counter_in of scope here control begin step end →
      test ≡ option_map (resolve_expr of (WhileOf here.next)) condition →
      mid ≡ cells ++ counter_cells (counts control begin step end) (length_at of.table.lengths sort.Fixed place) →
      Resolves now mid more statements (after_all of.table (entered of.table hidden here) ss)
      (scope_cells of.table here.next ++ cells_in_all of here.next (entered of.table hidden here) ss)
      (joined (declared_renewals of here.next declarations) (resolve_all of here.next (entered of.table hidden here) ss)) →
      plain_stmt s ≡ OfRepeat counter test statements → new ≡ made ++ s ∷ [] →
      Resolves now cells more (plain_stmts new) (after of.table here (shown.OfRepeat control begin step end condition declarations ss body_place place))
      (cells_in of scope here (shown.OfRepeat control begin step end condition declarations ss body_place place))
      (joined (plain_stmts made) (resolve_stmt of scope here (shown.OfRepeat control begin step end condition declarations ss body_place place)))
  repeat_added scope now cells mid more made new s counter test statements control begin step end condition declarations ss body_place place
      hides counted tests own h is pushes = record {
        goes = h.goes ∙ ap (λ n. after_all of.table (entered of.table n here) ss) hides;
        adds = h.adds ∙ ap (λ l. l ++ (scope_cells of.table here.next ++ cells_in_all of here.next (entered of.table hidden here) ss)) own
            ∙ append_assoc cells _ _
            ∙ ap (λ n. cells ++ (counter_cells (counts control begin step end) (length_at of.table.lengths sort.Fixed place) ++
            (scope_cells of.table here.next ++ cells_in_all of here.next (entered of.table n here) ss))) hides;
        makes = pushed made new s _ pushes (is ∙ (λ i. OfRepeat (counted i) (tests i)
            ((h.makes ∙ ap (λ n. joined (declared_renewals of here.next declarations) (resolve_all of here.next (entered of.table n here) ss)) hides) i)));
      }
