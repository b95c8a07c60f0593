-- What a statement of the program has together is no more than what is asked of the one in the tree.
use Rattle.std.specs.Prelude.{◌≡◌, ℕ, ◌+◌, ◌≤◌, max, Bool, true, false, if◌then◌else◌, List, [], ◌∷◌, ◌++◌, map, Option, Some, None, option_map}
use Rattle.std.proofs.Common.{refl, ap, ◌∙◌, arith}
use Rattle.pearl_tree.specs.declared.name.Name.{Name}
use Rattle.pearl_tree.specs.declared.statement.TaskWord.{TaskWord}
use Rattle.pearl_tree.specs.declared.statement.TaskWord.TheVariants.{Suspend}
use Rattle.pearl_tree.specs.declared.statement.SemaWord.{SemaWord}
use Rattle.pearl_tree.specs.declared.statement.SemaWord.TheVariants.{Request, Release}
use Rattle.pearl_tree.specs.declared.statement.InterruptWord.{InterruptWord}
use Rattle.pearl_tree.specs.declared.statement.InterruptWord.TheVariants.{Enable}
use Rattle.pearl_tree.specs.Names.{names_of}
use Rattle.pearl_tree.specs.ShownLiterals.{ShownConst}
use Rattle.pearl_tree.specs.ShownExpressions as exprs
use Rattle.pearl_tree.specs.ShownExpressions.{ShownExpr, ShownRef}
use Rattle.pearl_tree.specs.ShownDeclarations.{ShownItem}
use Rattle.pearl_tree.specs.ShownStatements as shown
use Rattle.pearl_tree.specs.ShownStatements.{ShownPeriodEnd, ShownPeriod, ShownStart, ShownOnce, ShownBodyDecl, ShownStmt, ShownStmts, ShownBranches, ShownOtherwise}
use Rattle.pearl_names.specs.declared.scope.View.TheVariants.{Within, WhileOf}
use Rattle.pearl_names.specs.Scopes.{scopes_in, scopes_in_all, scopes_in_branches}
use Rattle.pearl_names.specs.Tables.{Parameter}
use Rattle.pearl_scope.specs.declared.places.Spot.{Spot}
use Rattle.pearl_scope.specs.Placed.{Placed, placed_stmt, placed_all, placed_branches, placed_otherwise}
use Rattle.pearl_check_expr.specs.Subjects.{ShownSubject, OfWhile, OfCallStatement}
use Rattle.pearl_check.specs.declared.asked.Role.{Role}
use Rattle.pearl_check.specs.declared.asked.Role.TheVariants.{Plain, Condition, Count, Moment, Lapse, Priority}
use Rattle.pearl_check.specs.declared.asked.NameRole.TheVariants as name_role
use Rattle.pearl_check.specs.Asked as asking
use Rattle.pearl_check.specs.Asked.{Asked, Subject, Named, value, value_if, target, as_exprs, asked_at, start_asked, period_asked, once_asked, period_end_asked}
use Rattle.pearl_check.specs.Calls.{subject_pieces}
use Rattle.pearl_check.specs.Pieces.{exprs_pieces}
use Rattle.pearl_check.specs.Views.{view_of}
use Rattle.pearl_program.specs.PlainStatements.{PlainStmts, NoStmts, MoreStmts}
use Rattle.pearl_program.specs.PlainPrograms.{PlainLeaf}
use Rattle.pearl_program.specs.Weights.{Sizes, of_expr, of_variable, of_exprs, of_arguments, of_if, of_period_end, of_period, of_start, of_once, of_counter, of_variables, greatest, greatest_of_all, greatest_of_branches}
use Rattle.pearl_resolve.specs.Laying.{leaves_of_sense, left_behind, filled_leaves, merged}
use Rattle.pearl_resolve.specs.Numbers.{At, counts, loop_cells, entered, after, after_all, after_branches}
use Rattle.pearl_resolve.specs.Expressions.{Numbered, Meant, meant, number_of, params_of, resolve_expr, resolve_variable}
use Rattle.pearl_resolve.specs.Statements.{value_in, listed, values_in, arguments_in, or_no_params, period_end_in, period_in, when_in, start_in, start_in_if, period_of, period_of_if, once_in, on_task, on_semaphores, on_interrupt, renewals, joined, variable_renewals, slots_of_meant, names_renewals, items_renewals, declared_renewals, resolve_stmt, resolve_all, resolve_branches, resolve_otherwise}
use Rattle.pearl_sound_sizes.proofs.Basics.{most, most_append}
use Rattle.pearl_sound_sizes.proofs.Measures.{IsMeasure, pieces_size, expr_size, begun_size, arguments_size}
use Rattle.pearl_sound.proofs.Offered.{One, Each, Branches, goes}

same_listed : (exprs : List ShownExpr) → listed exprs ≡ as_exprs exprs
same_listed [] = refl
same_listed (e ∷ rest) = ap (λ more. exprs.MoreExprs e more) (same_listed rest)

module _ (sizes : Sizes) (numbered : Numbered) where
  abbrev pub subject_size : ℕ → ShownSubject → ℕ
  subject_size scope (OfCallStatement name arguments) =
      sizes.both (sizes.call (number_of numbered (Within scope) name)) (pieces_size sizes numbered (Within scope) (exprs_pieces arguments))
  subject_size scope subject = pieces_size sizes numbered (view_of scope subject) (subject_pieces subject)

  abbrev pub asked_size : Asked → ℕ
  asked_size (Subject role scope subject) = subject_size scope subject
  asked_size (Named role scope name) = 0

  abbrev pub all_size : List Asked → ℕ
  all_size [] = 0
  all_size (asked ∷ rest) = sizes.both (asked_size asked) (all_size rest)

  abbrev pub place_size : Placed → ℕ
  place_size place = all_size (asked_at place)

module _ (sizes : Sizes) (is : IsMeasure sizes) (numbered : Numbered) where
  all_both : (a b : List Asked) → sizes.both (all_size sizes numbered a) (all_size sizes numbered b) ≡ all_size sizes numbered (a ++ b)
  all_both [] b = is.none (all_size sizes numbered b)
  all_both (asked ∷ rest) b =
      is.assoc (asked_size sizes numbered asked) (all_size sizes numbered rest) (all_size sizes numbered b) ∙ ap (λ n. sizes.both (asked_size sizes numbered asked) n) (all_both rest b)

  two_parts : (a b : ℕ) (one two : List Asked) → a ≤ all_size sizes numbered one → b ≤ all_size sizes numbered two → sizes.both a b ≤ all_size sizes numbered (one ++ two)
  two_parts a b one two first second =
      let c = is.grows a b (all_size sizes numbered one) (all_size sizes numbered two) first second in let d = all_both one two in omega (arith, c, d)

  value_size : (role : Role) (scope : ℕ) (e : ShownExpr) → of_expr sizes (value_in numbered scope e) ≤ all_size sizes numbered (value role scope e ∷ [])
  value_size role scope e =
      let a = expr_size sizes is numbered (Within scope) e in
      let b = is.left (asked_size sizes numbered (value role scope e)) 0 in omega (arith, a, b)

  value_if_size : (role : Role) (scope : ℕ) (e : Option ShownExpr) →
      of_if sizes (of_expr sizes) (option_map (value_in numbered scope) e) ≤ all_size sizes numbered (value_if role scope e)
  value_if_size role scope None = omega arith
  value_if_size role scope (Some e) = value_size role scope e

  while_size : (next : ℕ) (condition : Option ShownExpr) →
      of_if sizes (of_expr sizes) (option_map (resolve_expr numbered (WhileOf next)) condition) ≤
      all_size sizes numbered (asking.if_there (λ expr. Subject Condition next (OfWhile expr) ∷ []) condition)
  while_size next None = omega arith
  while_size next (Some e) =
      let a = expr_size sizes is numbered (WhileOf next) e in
      let b = is.left (asked_size sizes numbered (Subject Condition next (OfWhile e))) 0 in omega (arith, a, b)

  target_size : (scope : ℕ) (reference : ShownRef) →
      of_variable sizes (resolve_variable numbered (Within scope) reference) ≤ asked_size sizes numbered (target scope reference)
  target_size scope reference =
      begun_size sizes is numbered (Within scope) (meant numbered (Within scope) reference.name) reference.selectors

  targets_size : (scope : ℕ) (targets : List ShownRef) →
      of_variables sizes (map (resolve_variable numbered (Within scope)) targets) ≤ all_size sizes numbered (map (target scope) targets)
  targets_size scope [] = omega arith
  targets_size scope (reference ∷ rest) = is.grows _ _ _ _ (target_size scope reference) (targets_size scope rest)

  values_size : (scope : ℕ) (exprs : List ShownExpr) → of_exprs sizes (values_in numbered scope exprs) ≤ all_size sizes numbered (map (value Plain scope) exprs)
  values_size scope [] = omega arith
  values_size scope (e ∷ rest) = is.grows _ _ _ _ (expr_size sizes is numbered (Within scope) e) (values_size scope rest)

  handed_over : (scope : ℕ) (parameters : List Parameter) (exprs : List ShownExpr) →
      of_arguments sizes (arguments_in numbered scope parameters exprs) ≤ pieces_size sizes numbered (Within scope) (exprs_pieces (as_exprs exprs))
  handed_over scope parameters exprs =
      let a = arguments_size sizes is numbered (Within scope) parameters (listed exprs) in
      let b = ap (λ more. pieces_size sizes numbered (Within scope) (exprs_pieces more)) (same_listed exprs) in omega (arith, a, b)

  period_end_size : (scope : ℕ) (end : Option ShownPeriodEnd) →
      of_if sizes (of_period_end sizes) (option_map (period_end_in numbered scope) end) ≤ all_size sizes numbered (asking.if_there (period_end_asked scope) end)
  period_end_size scope None = omega arith
  period_end_size scope (Some (shown.OfUntil time place)) = value_size Moment scope time
  period_end_size scope (Some (shown.OfDuring duration place)) = value_size Lapse scope duration

  period_size : (scope : ℕ) (period : ShownPeriod) → of_period sizes (period_in numbered scope period) ≤ all_size sizes numbered (period_asked scope period)
  period_size scope period =
      is.grows _ _ _ _ (expr_size sizes is numbered (Within scope) period.duration) (period_end_size scope period.end)

  period_if_size : (scope : ℕ) (period : Option ShownPeriod) →
      of_if sizes (of_period sizes) (option_map (period_in numbered scope) period) ≤ all_size sizes numbered (asking.if_there (period_asked scope) period)
  period_if_size scope None = omega arith
  period_if_size scope (Some period) = period_size scope period

  delay_size : (scope interrupt : ℕ) (delay : Option ShownExpr) →
      of_start sizes (when_in interrupt (option_map (value_in numbered scope) delay)) ≤ all_size sizes numbered (value_if Lapse scope delay)
  delay_size scope interrupt None = omega arith
  delay_size scope interrupt (Some duration) = value_size Lapse scope duration

  start_size : (scope : ℕ) (start : ShownStart) → sizes.both (of_if sizes (of_start sizes) (start_in numbered scope start))
      (of_if sizes (of_period sizes) (option_map (period_in numbered scope) (period_of start))) ≤ all_size sizes numbered (start_asked scope start)
  start_size scope (shown.OfAt time period place) =
      is.grows _ _ _ _ (expr_size sizes is numbered (Within scope) time) (period_if_size scope period)
  start_size scope (shown.OfAfter duration period place) =
      is.grows _ _ _ _ (expr_size sizes is numbered (Within scope) duration) (period_if_size scope period)
  start_size scope (shown.OfWhen interrupt delay period place) =
      let own = value_if Lapse scope delay in
      let more = asking.if_there (period_asked scope) period in
      let a = two_parts _ _ own more (delay_size scope (number_of numbered (Within scope) interrupt) delay) (period_if_size scope period) in
      let b = is.none (all_size sizes numbered (own ++ more)) in omega (arith, a, b)
  start_size scope (shown.OfAll period) =
      let a = period_size scope period in let b = is.none (of_period sizes (period_in numbered scope period)) in omega (arith, a, b)

  start_if_size : (scope : ℕ) (start : Option ShownStart) → sizes.both (of_if sizes (of_start sizes) (start_in_if numbered scope start))
      (of_if sizes (of_period sizes) (option_map (period_in numbered scope) (period_of_if start))) ≤
      all_size sizes numbered (asking.if_there (start_asked scope) start)
  start_if_size scope None = let a = is.none 0 in omega (arith, a)
  start_if_size scope (Some start) = start_size scope start

  once_size : (scope : ℕ) (once : ShownOnce) → of_once sizes (once_in numbered scope once) ≤ all_size sizes numbered (once_asked scope once)
  once_size scope (shown.OnceAt time place) = value_size Moment scope time
  once_size scope (shown.OnceAfter duration place) = value_size Lapse scope duration
  once_size scope (shown.OnceWhen interrupt place) = omega arith

  once_if_size : (scope : ℕ) (once : Option ShownOnce) →
      of_if sizes (of_once sizes) (option_map (once_in numbered scope) once) ≤ all_size sizes numbered (asking.if_there (once_asked scope) once)
  once_if_size scope None = omega arith
  once_if_size scope (Some once) = once_size scope once

  -- FROM, BY and TO, where there are none if the loop doesn't count
  counter_size : (scope : ℕ) (at : At) (counting : Bool) (begin step end : Option ShownExpr) → (more : List Asked) (condition : ℕ) → condition ≤ all_size sizes numbered more →
      sizes.both (of_if sizes (of_counter sizes) (if counting then Some (record {
        cell = at.cell;
        begin = option_map (value_in numbered scope) begin;
        step = option_map (value_in numbered scope) step;
        end = option_map (value_in numbered scope) end;
      }) else None)) condition ≤ all_size sizes numbered (value_if Count scope begin ++ (value_if Count scope step ++ (value_if Count scope end ++ more)))
  counter_size scope at true begin step end more condition within =
      let first = of_if sizes (of_expr sizes) (option_map (value_in numbered scope) begin) in
      let second = of_if sizes (of_expr sizes) (option_map (value_in numbered scope) step) in
      let third = of_if sizes (of_expr sizes) (option_map (value_in numbered scope) end) in
      let a = is.assoc first (sizes.both second third) condition in
      let b = ap (λ n. sizes.both first n) (is.assoc second third condition) in
      let c = two_parts third condition (value_if Count scope end) more (value_if_size Count scope end) within in
      let d = two_parts second _ (value_if Count scope step) _ (value_if_size Count scope step) c in
      let e = two_parts first _ (value_if Count scope begin) _ (value_if_size Count scope begin) d in
      omega (arith, a, b, e)
  counter_size scope at false begin step end more condition within =
      let a = is.none condition in
      let c = is.right (all_size sizes numbered (value_if Count scope end)) (all_size sizes numbered more) in
      let c' = all_both (value_if Count scope end) more in
      let d = is.right (all_size sizes numbered (value_if Count scope step)) (all_size sizes numbered (value_if Count scope end ++ more)) in
      let d' = all_both (value_if Count scope step) (value_if Count scope end ++ more) in
      let e = is.right (all_size sizes numbered (value_if Count scope begin)) (all_size sizes numbered (value_if Count scope step ++ (value_if Count scope end ++ more))) in
      let e' = all_both (value_if Count scope begin) (value_if Count scope step ++ (value_if Count scope end ++ more)) in
      omega (arith, a, within, c, c', d, d', e, e')

  -- statements one behind the other
  joined_most : (one two : PlainStmts) → greatest_of_all sizes (joined one two) ≡ max (greatest_of_all sizes one) (greatest_of_all sizes two)
  joined_most NoStmts two = omega arith
  joined_most (MoreStmts s rest) two = let more = joined_most rest two in omega (arith, more)

  -- a variable's first values need nothing
  renewals_none : (cell : ℕ) (leaves : List PlainLeaf) → greatest_of_all sizes (renewals cell leaves) ≡ 0
  renewals_none cell [] = refl
  renewals_none cell (leaf ∷ rest) = let more = renewals_none (cell + leaf.values.count) rest in omega (arith, more)

  variable_none : (constants : List ShownConst) (found : Option Meant) → greatest_of_all sizes (variable_renewals constants found) ≡ 0
  variable_none constants None = refl
  variable_none constants (Some thing) = renewals_none thing.number (filled_leaves [] constants (merged (leaves_of_sense thing.sense)))

  names_none : (scope : ℕ) (constants : List ShownConst) (names : List Name) → greatest_of_all sizes (names_renewals numbered scope constants names) ≡ 0
  names_none scope constants [] = refl
  names_none scope constants (name ∷ rest) =
      let found = meant numbered (Within scope) name in
      let a = variable_none constants found in
      let b = names_none scope (left_behind (slots_of_meant found) constants) rest in
      let c = joined_most (variable_renewals constants found) (names_renewals numbered scope (left_behind (slots_of_meant found) constants) rest) in
      omega (arith, a, b, c)

  items_none : (scope : ℕ) (items : List ShownItem) → greatest_of_all sizes (items_renewals numbered scope items) ≡ 0
  items_none scope [] = refl
  items_none scope (item ∷ rest) =
      let a = names_none scope item.init (names_of item.names) in
      let b = items_none scope rest in
      let c = joined_most (names_renewals numbered scope item.init (names_of item.names)) (items_renewals numbered scope rest) in
      omega (arith, a, b, c)

  pub declared_none : (scope : ℕ) (declarations : List ShownBodyDecl) → greatest_of_all sizes (declared_renewals numbered scope declarations) ≡ 0
  declared_none scope [] = refl
  declared_none scope (declaration ∷ rest) =
      let a = items_none scope declaration.items in
      let b = declared_none scope rest in
      let c = joined_most (items_renewals numbered scope declaration.items) (declared_renewals numbered scope rest) in
      omega (arith, a, b, c)

  -- a body behind its first values
  pub body_most : (scope : ℕ) (declarations : List ShownBodyDecl) (statements : PlainStmts) →
      greatest_of_all sizes (joined (declared_renewals numbered scope declarations) statements) ≡ greatest_of_all sizes statements
  body_most scope declarations statements =
      let a = declared_none scope declarations in
      let b = joined_most (declared_renewals numbered scope declarations) statements in
      omega (arith, a, b)

  one_alone : (a b : ℕ) → a ≤ b → max a 0 ≤ max b 0
  one_alone a b less = omega (arith, less)

  on_task_none : (word : TaskWord) (task : Option ℕ) → greatest sizes (on_task word task) ≡ 0
  on_task_none Suspend task = refl
  on_task_none other task = refl

  on_semaphores_none : (word : SemaWord) (semaphores : List ℕ) → greatest sizes (on_semaphores word semaphores) ≡ 0
  on_semaphores_none Request semaphores = refl
  on_semaphores_none Release semaphores = refl

  on_interrupt_none : (word : InterruptWord) (interrupt : ℕ) → greatest sizes (on_interrupt word interrupt) ≡ 0
  on_interrupt_none Enable interrupt = refl
  on_interrupt_none other interrupt = refl

  mutual
    stmt_most : (spot : Spot) (at : At) (s : ShownStmt) →
        greatest_of_all sizes (resolve_stmt numbered spot.scope at s) ≤ most (place_size sizes numbered) (placed_stmt spot at.next s)
    stmt_most spot at (shown.OfAssign reference e place) =
        one_alone _ _ (is.grows _ _ _ _ (target_size spot.scope reference) (value_size Plain spot.scope e))
    stmt_most spot at (shown.OfCall call name arguments place) =
        let own = sizes.call (number_of numbered (Within spot.scope) name) in
        let a = handed_over spot.scope (or_no_params (params_of (meant numbered (Within spot.scope) name))) arguments in
        let b = is.grows own _ own _ (omega arith) a in
        let c = is.left (sizes.both own (pieces_size sizes numbered (Within spot.scope) (exprs_pieces (as_exprs arguments)))) 0 in
        one_alone _ _ (omega (arith, b, c))
    stmt_most spot at (shown.OfIf condition statements otherwise place) =
        let a = value_size Condition spot.scope condition in
        let b = all_most spot at statements in
        let c = otherwise_most spot (after_all numbered.table at statements) otherwise in
        let d = most_append (place_size sizes numbered) (placed_all spot at.next statements) (placed_otherwise spot (at.next + scopes_in_all statements) otherwise) in
        let e = ap (λ n. most (place_size sizes numbered) (placed_otherwise spot n otherwise)) (goes numbered (Each statements) spot.scope at).next in
        omega (arith, a, b, c, d, e)
    stmt_most spot at (shown.OfCase selector alternatives otherwise place) =
        let a = value_size Count spot.scope selector in
        let b = branches_most spot at alternatives in
        let c = otherwise_most spot (after_branches numbered.table at alternatives) otherwise in
        let d = most_append (place_size sizes numbered) (placed_branches spot at.next alternatives) (placed_otherwise spot (at.next + scopes_in_branches alternatives) otherwise) in
        let e = ap (λ n. most (place_size sizes numbered) (placed_otherwise spot n otherwise)) (goes numbered (Branches alternatives) spot.scope at).next in
        omega (arith, a, b, c, d, e)
    stmt_most spot at (shown.OfRepeat control begin step end condition declarations statements body_place place) =
        let own = asking.if_there (λ expr. Subject Condition at.next (OfWhile expr) ∷ []) condition in
        let a = counter_size spot.scope at (counts control begin step end) begin step end own _ (while_size at.next condition) in
        let inner = entered numbered.table (loop_cells control begin step end) at in
        let b = all_most (record { scope = at.next; in_loop = true }) inner statements in
        let c = body_most at.next declarations (resolve_all numbered at.next inner statements) in
        omega (arith, a, b, c)
    stmt_most spot at (shown.OfBegin declarations statements body_place place) =
        let inner = entered numbered.table 0 at in
        let b = all_most (record { scope = at.next; in_loop = spot.in_loop }) inner statements in
        let c = body_most at.next declarations (resolve_all numbered at.next inner statements) in
        omega (arith, b, c)
    stmt_most spot at (shown.OfReturn e place) = one_alone _ _ (value_if_size Plain spot.scope e)
    stmt_most spot at (shown.OfActivate start task priority place) =
        let scope = spot.scope in
        let first = of_if sizes (of_start sizes) (start_in_if numbered scope start) in
        let second = of_if sizes (of_period sizes) (option_map (period_in numbered scope) (period_of_if start)) in
        let third = of_if sizes (of_expr sizes) (option_map (value_in numbered scope) priority) in
        let a = value_if_size Priority scope priority in
        let b = is.none (all_size sizes numbered (value_if Priority scope priority)) in
        let c = two_parts (sizes.both first second) third (asking.if_there (start_asked scope) start)
        (Named name_role.Task scope task ∷ value_if Priority scope priority) (start_if_size scope start) (omega (arith, a, b)) in
        let d = is.assoc first second third in
        one_alone _ _ (omega (arith, c, d))
    stmt_most spot at (shown.OfContinue once task place) =
        let a = once_if_size spot.scope once in
        let asked = asking.if_there (once_asked spot.scope) once in
        let b = is.left (all_size sizes numbered asked) (all_size sizes numbered (Named name_role.Task spot.scope task ∷ [])) in
        let c = all_both asked (Named name_role.Task spot.scope task ∷ []) in
        one_alone _ _ (omega (arith, a, b, c))
    stmt_most spot at (shown.OfResume once place) = one_alone _ _ (once_size spot.scope once)
    stmt_most spot at (shown.OfOnTask word task place) =
        let a = on_task_none word (option_map (number_of numbered (Within spot.scope)) task) in omega (arith, a)
    stmt_most spot at (shown.OfOnSemas word names place) =
        let a = on_semaphores_none word (map (number_of numbered (Within spot.scope)) names) in omega (arith, a)
    stmt_most spot at (shown.OfOnInterrupt word name place) =
        let a = on_interrupt_none word (number_of numbered (Within spot.scope) name) in omega (arith, a)
    stmt_most spot at (shown.OfPut values dation formats place) =
        let a = values_size spot.scope values in
        let asked = map (value Plain spot.scope) values in
        let b = is.left (all_size sizes numbered asked) (all_size sizes numbered (Named name_role.Dation spot.scope dation ∷ [])) in
        let c = all_both asked (Named name_role.Dation spot.scope dation ∷ []) in
        one_alone _ _ (omega (arith, a, b, c))
    stmt_most spot at (shown.OfGet targets dation formats place) =
        let a = targets_size spot.scope targets in
        let asked = map (target spot.scope) targets in
        let b = is.left (all_size sizes numbered asked) (all_size sizes numbered (Named name_role.Dation spot.scope dation ∷ [])) in
        let c = all_both asked (Named name_role.Dation spot.scope dation ∷ []) in
        one_alone _ _ (omega (arith, a, b, c))
    stmt_most spot at (shown.OfSend e dation place) =
        let a = expr_size sizes is numbered (Within spot.scope) e in
        let b = is.left (asked_size sizes numbered (value Plain spot.scope e)) (all_size sizes numbered (Named name_role.Dation spot.scope dation ∷ [])) in
        one_alone _ _ (omega (arith, a, b))
    stmt_most spot at (shown.OfTake reference dation place) =
        let a = target_size spot.scope reference in
        let b = is.left (asked_size sizes numbered (target spot.scope reference)) (all_size sizes numbered (Named name_role.Dation spot.scope dation ∷ [])) in
        one_alone _ _ (omega (arith, a, b))
    stmt_most spot at statement = omega arith

    pub all_most : (spot : Spot) (at : At) (statements : ShownStmts) →
        greatest_of_all sizes (resolve_all numbered spot.scope at statements) ≤ most (place_size sizes numbered) (placed_all spot at.next statements)
    all_most spot at shown.NoStmts = omega arith
    all_most spot at (shown.MoreStmts s rest) =
        let a = stmt_most spot at s in
        let b = all_most spot (after numbered.table at s) rest in
        let c = joined_most (resolve_stmt numbered spot.scope at s) (resolve_all numbered spot.scope (after numbered.table at s) rest) in
        let d = most_append (place_size sizes numbered) (placed_stmt spot at.next s) (placed_all spot (at.next + scopes_in s) rest) in
        let e = ap (λ n. most (place_size sizes numbered) (placed_all spot n rest)) (goes numbered (One s) spot.scope at).next in
        omega (arith, a, b, c, d, e)

    branches_most : (spot : Spot) (at : At) (branches : ShownBranches) →
        greatest_of_branches sizes (resolve_branches numbered spot.scope at branches) ≤ most (place_size sizes numbered) (placed_branches spot at.next branches)
    branches_most spot at shown.NoBranches = omega arith
    branches_most spot at (shown.MoreBranches statements place rest) =
        let a = all_most spot at statements in
        let b = branches_most spot (after_all numbered.table at statements) rest in
        let d = most_append (place_size sizes numbered) (placed_all spot at.next statements) (placed_branches spot (at.next + scopes_in_all statements) rest) in
        let e = ap (λ n. most (place_size sizes numbered) (placed_branches spot n rest)) (goes numbered (Each statements) spot.scope at).next in
        omega (arith, a, b, d, e)

    otherwise_most : (spot : Spot) (at : At) (otherwise : ShownOtherwise) →
        greatest_of_all sizes (resolve_otherwise numbered spot.scope at otherwise) ≤ most (place_size sizes numbered) (placed_otherwise spot at.next otherwise)
    otherwise_most spot at shown.NoOtherwise = omega arith
    otherwise_most spot at (shown.OfOtherwise statements place) = all_most spot at statements
