-- The numbers of names, one after the other.
use Rattle.std.proofs.Common.{◌≡◌, ◌||◌, if◌then◌else◌, Box, Global, Option, Some, None, option_map, is_some, ℕ, zero, suc, ◌+◌, ◌<◌, List, [], ◌∷◌, ◌++◌, length, drop, get_or, refl, sym, ap, subst, ◌∙◌, append_assoc, append-nil, arith}
use Rattle.std.specs.List.{sum_by}
use Rattle.std.proofs.lemmas.List.Sums.{sum_by-cons}
use Rattle.pearl_names.specs.declared.sense.Sense.{Sense as HeldSense}
use Rattle.pearl_names.specs.declared.types.StructForm.{StructForm}
use Rattle.pearl_names.specs.Holding.{HoldsSense, HoldsAll}
use Rattle.pearl_names.specs.Tables.{Sense, Table}
use Rattle.pearl_tree.specs.declared.expression.Expr.{Expr}
use Rattle.pearl_tree.specs.declared.name.Name.{Name}
use Rattle.pearl_tree.specs.declared.statement.Stmt as stmt
use Rattle.pearl_tree.specs.declared.statement.Repeat.{Repeat}
use Rattle.pearl_tree.specs.declared.statement.Begin.{Begin}
use Rattle.pearl_tree.specs.declared.statement.If as if_
use Rattle.pearl_tree.specs.declared.statement.If.{out-If}
use Rattle.pearl_tree.specs.declared.statement.Case as case_
use Rattle.pearl_tree.specs.declared.statement.Case.{out-Case}
use Rattle.pearl_tree.specs.ShownExpressions.{shown_expr}
use Rattle.pearl_names.specs.Listed.{stmts_shown, branches_shown, otherwise_shown}
use Rattle.pearl_names.proofs.Offered.{if_shown, case_shown, repeat_shown, begin_shown}
use Rattle.pearl_tree.specs.ShownStatements.{shown_stmt, ShownStmt, ShownStmts, NoStmts, MoreStmts, ShownBranches, NoBranches, MoreBranches}
use Rattle.pearl_tree.specs.ShownModules.{ShownDecl}
use Rattle.pearl_resolve.specs.Laying.{cells_of_sense}
use Rattle.pearl_resolve.specs.Holding.{GoesPast}
use Rattle.pearl_resolve.specs.Numbers.{At, counts, loop_cells, entered, scope_numbers, after, after_all, after_branches, after_otherwise, after_decl, numbers_in_otherwise, numbers_in, numbers_in_all, numbers_in_branches, decl_numbers, decls_numbers, own_number, own_numbers}

-- what the next name stands for
pub record Next (forms : List StructForm) (of : List Sense) (i : ℕ) (x : HeldSense) : Type 0 where
  pub sense : Sense
  pub holds : HoldsSense forms x sense
  pub left : drop i of ≡ sense ∷ drop (suc i) of

pub next_held : (forms : List StructForm) (senses : List HeldSense) (of : List Sense) (i : ℕ) (x : HeldSense) →
    i < length senses → x ≡ get_or senses i x → HoldsAll forms senses of → Next forms of i x
next_held forms [] [] i x inside is h = absurd (omega (arith, inside))
next_held forms [] (sense ∷ of) i x inside is h = absurd h
next_held forms (s ∷ senses) [] i x inside is h = absurd h
next_held forms (s ∷ senses) (sense ∷ of) zero x inside is h =
    record { sense = sense; holds = subst (λ s. HoldsSense forms s sense) (sym is) h.0; left = refl }
next_held forms (s ∷ senses) (sense ∷ of) (suc i) x inside is h =
    let n = next_held forms senses of i x (omega (arith, inside)) is h.1 in
    record { sense = n.sense; holds = n.holds; left = n.left }

pub held_length : (forms : List StructForm) (senses : List HeldSense) (of : List Sense) → HoldsAll forms senses of → length senses ≡ length of
held_length forms [] [] h = refl
held_length forms [] (sense ∷ of) h = absurd h
held_length forms (s ∷ senses) [] h = absurd h
held_length forms (s ∷ senses) (sense ∷ of) h = ap suc (held_length forms senses of h.1)

-- so far the numbers of some names are made, and these cells are gone past
pub record NumberedSo (made all : List ℕ) (control cell first : ℕ) (left of : List Sense) : Type 0 where
  pub numbers : made ++ own_numbers control cell left ≡ all
  pub cells : cell + sum_by cells_of_sense left ≡ first + sum_by cells_of_sense of

-- one name more
pub numbered_more : (made all : List ℕ) (control cell first own count next : ℕ) (sense : Sense) (left of : List Sense) →
    own ≡ own_number control cell sense → count ≡ cells_of_sense sense → next ≡ cell + count →
    NumberedSo made all control cell first (sense ∷ left) of → NumberedSo (made ++ own ∷ []) all control next first left of
numbered_more made all control cell first own count next sense left of is counted sums so =
    let after : next ≡ cell + cells_of_sense sense = sums ∙ ap (λ n. cell + n) counted in
    let total : cell + (cells_of_sense sense + sum_by cells_of_sense left) ≡ first + sum_by cells_of_sense of =
    ap (λ n. cell + n) (sym (sum_by-cons cells_of_sense sense left)) ∙ so.cells in
    let moved : (cell + cells_of_sense sense) + sum_by cells_of_sense left ≡ first + sum_by cells_of_sense of = omega (arith, total) in
    record {
      numbers = append_assoc made (own ∷ []) (own_numbers control next left)
          ∙ (λ i. made ++ is i ∷ own_numbers control (after i) left) ∙ so.numbers;
      cells = ap (λ n. n + sum_by cells_of_sense left) after ∙ moved;
    }

pub numbered_all : (made all : List ℕ) (control cell first : ℕ) (of : List Sense) → NumberedSo made all control cell first [] of →
    (made ≡ all) × (cell ≡ first + sum_by cells_of_sense of)
numbered_all made all control cell first of so =
    let none : sum_by cells_of_sense [] ≡ 0 = refl in
    let same : cell ≡ cell + sum_by cells_of_sense [] = omega (arith, none) in
    (sym (append-nil made) ∙ so.numbers, same ∙ so.cells)

-- statements one after the other
pub record Past (t : Table) (here start : At) (made begun : List (List ℕ)) (left all : ShownStmts) : Type 0 where
  pub at : after_all t here left ≡ after_all t start all
  pub numbers : made ++ numbers_in_all t here left ≡ begun ++ numbers_in_all t start all

pub past_more : (t : Table) (here start next : At) (made begun new : List (List ℕ)) (s : ShownStmt) (rest all : ShownStmts) →
    Past t here start made begun (MoreStmts s rest) all → GoesPast next made new (after t here s) (numbers_in t here s) →
    Past t next start new begun rest all
past_more t here start next made begun new s rest all p g = record {
  at = ap (λ a. after_all t a rest) g.at ∙ p.at;
  numbers = (λ i. g.added i ++ numbers_in_all t (g.at i) rest) ∙ append_assoc made (numbers_in t here s) _ ∙ p.numbers;
}

pub past_all : (t : Table) (here start : At) (made begun : List (List ℕ)) (all : ShownStmts) →
    Past t here start made begun NoStmts all → GoesPast here begun made (after_all t start all) (numbers_in_all t start all)
past_all t here start made begun all p = record { at = p.at; added = sym (append-nil made) ∙ p.numbers }

-- branches one after the other
pub record PastBranches (t : Table) (here start : At) (made begun : List (List ℕ)) (left all : ShownBranches) : Type 0 where
  pub at : after_branches t here left ≡ after_branches t start all
  pub numbers : made ++ numbers_in_branches t here left ≡ begun ++ numbers_in_branches t start all

pub branches_more : (t : Table) (here start next : At) (made begun new : List (List ℕ)) (s : ShownStmts) (place : ℕ) (rest all : ShownBranches) →
    PastBranches t here start made begun (MoreBranches s place rest) all → GoesPast next made new (after_all t here s) (numbers_in_all t here s) →
    PastBranches t next start new begun rest all
branches_more t here start next made begun new s place rest all p g = record {
  at = ap (λ a. after_branches t a rest) g.at ∙ p.at;
  numbers = (λ i. g.added i ++ numbers_in_branches t (g.at i) rest) ∙ append_assoc made (numbers_in_all t here s) _ ∙ p.numbers;
}

pub branches_all : (t : Table) (here start : At) (made begun : List (List ℕ)) (all : ShownBranches) →
    PastBranches t here start made begun NoBranches all → GoesPast here begun made (after_branches t start all) (numbers_in_branches t start all)
branches_all t here start made begun all p = record { at = p.at; added = sym (append-nil made) ∙ p.numbers }

-- two parts one after the other
pub goes_twice : (first second x : At) (old mid new numbers : List (List ℕ)) (f : At → At) (g : At → List (List ℕ)) →
    GoesPast first old mid x numbers → GoesPast second mid new (f first) (g first) → GoesPast second old new (f x) (numbers ++ g x)
goes_twice first second x old mid new numbers f g a b = record {
  at = b.at ∙ ap f a.at;
  added = b.added ∙ ap (λ l. l ++ g first) a.added ∙ append_assoc old numbers (g first) ∙ ap (λ y. old ++ (numbers ++ g y)) a.at;
}

-- declarations one after the other
pub record PastDecls (t : Table) (here start : At) (made begun : List (List ℕ)) (left all : List ShownDecl) : Type 0 where
  pub numbers : made ++ decls_numbers t here left ≡ begun ++ decls_numbers t start all

pub decls_more : (t : Table) (here start next : At) (made begun new : List (List ℕ)) (d : ShownDecl) (rest all : List ShownDecl) →
    PastDecls t here start made begun (d ∷ rest) all → GoesPast next made new (after_decl t here d) (decl_numbers t here d) →
    PastDecls t next start new begun rest all
decls_more t here start next made begun new d rest all p g = record {
  numbers = (λ i. g.added i ++ decls_numbers t (g.at i) rest) ∙ append_assoc made (decl_numbers t here d) _ ∙ p.numbers;
}

-- statements with statements within them
pub if_past : (t : Table) (box : Box if_.If Global) (here first second : At) (old mid new : List (List ℕ)) →
    GoesPast first old mid (after_all t here (stmts_shown (out-If box.value).statements.items.items)) (numbers_in_all t here (stmts_shown (out-If box.value).statements.items.items)) →
    GoesPast second mid new (after_otherwise t first (otherwise_shown (out-If box.value).otherwise)) (numbers_in_otherwise t first (otherwise_shown (out-If box.value).otherwise)) →
    GoesPast second old new (after t here (shown_stmt (stmt.If box))) (numbers_in t here (shown_stmt (stmt.If box)))
if_past t box here first second old mid new a b =
    let otherwise = otherwise_shown (out-If box.value).otherwise in
    rw (if_shown box) (goes_twice first second _ old mid new _ (λ at. after_otherwise t at otherwise) (λ at. numbers_in_otherwise t at otherwise) a b)

pub case_past : (t : Table) (box : Box case_.Case Global) (here first second : At) (old mid new : List (List ℕ)) →
    GoesPast first old mid (after_branches t here (branches_shown (out-Case box.value).alternatives.items.items)) (numbers_in_branches t here (branches_shown (out-Case box.value).alternatives.items.items)) →
    GoesPast second mid new (after_otherwise t first (otherwise_shown (out-Case box.value).otherwise)) (numbers_in_otherwise t first (otherwise_shown (out-Case box.value).otherwise)) →
    GoesPast second old new (after t here (shown_stmt (stmt.Case box))) (numbers_in t here (shown_stmt (stmt.Case box)))
case_past t box here first second old mid new a b =
    let otherwise = otherwise_shown (out-Case box.value).otherwise in
    rw (case_shown box) (goes_twice first second _ old mid new _ (λ at. after_otherwise t at otherwise) (λ at. numbers_in_otherwise t at otherwise) a b)

-- a body behind so many cells
abbrev pub BodyPast : Table → ℕ → At → ShownStmts → At → (old new : List (List ℕ)) → Type 0
BodyPast t hidden here statements now old new =
    GoesPast now old new (after_all t (entered t hidden here) statements) (scope_numbers t hidden here ∷ numbers_in_all t (entered t hidden here) statements)

is_there : (o : Option Expr) → is_some o ≡ is_some (option_map shown_expr o)
is_there None = refl
is_there (Some e) = refl

-- a loop counts where what it shows counts
pub counts_shown : (control : Option Name) (begin step end : Option Expr) →
    counts control begin step end ≡ counts control (option_map shown_expr begin) (option_map shown_expr step) (option_map shown_expr end)
counts_shown control begin step end = λ i. is_some control || (is_there begin i || (is_there step i || is_there end i))

pub loop_cells_shown : (control : Option Name) (begin step end : Option Expr) →
    loop_cells control begin step end ≡ loop_cells control (option_map shown_expr begin) (option_map shown_expr step) (option_map shown_expr end)
loop_cells_shown control begin step end = ap (λ b. if b then 3 else 0) (counts_shown control begin step end)

pub repeat_past : (t : Table) (box : Box Repeat Global) (here now : At) (old new : List (List ℕ)) (hidden : ℕ) →
    hidden ≡ loop_cells box.value.control box.value.begin box.value.step box.value.end →
    BodyPast t hidden here (stmts_shown box.value.body.statements.items.items) now old new →
    GoesPast now old new (after t here (shown_stmt (stmt.Repeat box))) (numbers_in t here (shown_stmt (stmt.Repeat box)))
repeat_past t box here now old new hidden is past =
    let part = box.value in
    let same : hidden ≡ loop_cells part.control (option_map shown_expr part.begin) (option_map shown_expr part.step) (option_map shown_expr part.end) =
    is ∙ loop_cells_shown part.control part.begin part.step part.end in
    subst (λ s. GoesPast now old new (after t here s) (numbers_in t here s)) (sym (repeat_shown box))
    (subst (λ n. BodyPast t n here (stmts_shown part.body.statements.items.items) now old new) same past)

pub begin_past : (t : Table) (box : Box Begin Global) (here now : At) (old new : List (List ℕ)) →
    BodyPast t 0 here (stmts_shown box.value.body.statements.items.items) now old new →
    GoesPast now old new (after t here (shown_stmt (stmt.Begin box))) (numbers_in t here (shown_stmt (stmt.Begin box)))
begin_past t box here now old new past =
    subst (λ s. GoesPast now old new (after t here s) (numbers_in t here s)) (sym (begin_shown box)) past
