-- References, subscripts and arguments, one after the other.
use Rattle.std.proofs.Common.{◌≡◌, suc, Bool, List, [], ◌∷◌, ◌++◌, length, slice_get, Some, None, refl, sym, ap, ◌∙◌, append-nil, append_assoc}
use Rattle.pearl_tree.specs.declared.fault.RuleFault.{RuleFault}
use Rattle.pearl_tree.specs.declared.name.Name.{Name}
use Rattle.pearl_tree.specs.declared.expression.Expr.{Expr}
use Rattle.pearl_tree.specs.declared.expression.Selector.{Selector}
use Rattle.pearl_tree.specs.ShownExpressions.{shown_expr, shown_selector, shown_expr_list, shown_selector_list}
use Rattle.pearl_names.specs.declared.scope.View.{View}
use Rattle.pearl_names.specs.Tables.{Table, Parameter}
use Rattle.pearl_check_expr.specs.Standings.{Judged, Walked, walked_on, behind, faults_of, all_fixed, all_known}
use Rattle.pearl_check_expr.specs.Judged.{judged, along, step, judged_all, beyond, beyond_one, argument_of, arguments}

pub along_push : (table : Table) (view : View) (name : Name) (before : Walked) (xs : List Selector) (x : Selector) →
    along table view name before (shown_selector_list (xs ++ x ∷ [])) ≡
    behind (along table view name before (shown_selector_list xs)).faults
    (step table view name (along table view name before (shown_selector_list xs)).standing (shown_selector x))
along_push table view name before [] x = refl
along_push table view name before (y ∷ xs) x =
    along_push table view name (behind before.faults (step table view name before.standing (shown_selector y))) xs x

-- what stands before is put before
pub along_behind : (table : Table) (view : View) (name : Name) (faults : List RuleFault) (before : Walked) (xs : List Selector) →
    along table view name (behind faults before) (shown_selector_list xs) ≡ behind faults (along table view name before (shown_selector_list xs))
along_behind table view name faults before [] = refl
along_behind table view name faults before (y ∷ xs) =
    let next = step table view name before.standing (shown_selector y) in
    ap (λ fs. along table view name (walked_on next.standing fs) (shown_selector_list xs)) (append_assoc faults before.faults next.faults)
    ∙ along_behind table view name faults (behind before.faults next) xs

pub along_from : (table : Table) (view : View) (name : Name) (start : Walked) (xs : List Selector) →
    along table view name start (shown_selector_list xs) ≡
    behind start.faults (along table view name (walked_on start.standing []) (shown_selector_list xs))
along_from table view name start xs =
    ap (λ fs. along table view name (walked_on start.standing fs) (shown_selector_list xs)) (sym (append-nil start.faults))
    ∙ along_behind table view name start.faults (walked_on start.standing []) xs

pub all_length : (table : Table) (view : View) (xs : List Expr) → length (judged_all table view (shown_expr_list xs)) ≡ length xs
all_length table view [] = refl
all_length table view (x ∷ xs) = ap suc (all_length table view xs)

pub all_push : (table : Table) (view : View) (xs : List Expr) (x : Expr) →
    judged_all table view (shown_expr_list (xs ++ x ∷ [])) ≡ judged_all table view (shown_expr_list xs) ++ judged table view (shown_expr x) ∷ []
all_push table view [] x = refl
all_push table view (y ∷ xs) x = ap (λ t. judged table view (shown_expr y) ∷ t) (all_push table view xs x)

pub beyond_push : (table : Table) (view : View) (name : Name) (xs : List Selector) (x : Selector) →
    beyond table view name (shown_selector_list (xs ++ x ∷ [])) ≡ beyond table view name (shown_selector_list xs) ++ beyond_one table view name (shown_selector x)
beyond_push table view name [] x = append-nil _
beyond_push table view name (y ∷ xs) x =
    ap (λ t. beyond_one table view name (shown_selector y) ++ t) (beyond_push table view name xs x)
    ∙ sym (append_assoc (beyond_one table view name (shown_selector y)) _ _)

pub arguments_push : (table : Table) (view : View) (parameters : List Parameter) (xs : List Expr) (x : Expr) →
    arguments table view parameters (shown_expr_list (xs ++ x ∷ [])) ≡
    arguments table view parameters (shown_expr_list xs) ++
    argument_of table view (slice_get parameters (length xs)) (shown_expr x) (judged table view (shown_expr x)) ∷ []
arguments_push table view [] [] x = refl
arguments_push table view (parameter ∷ parameters) [] x = refl
arguments_push table view [] (y ∷ xs) x =
    ap (λ t. argument_of table view None (shown_expr y) (judged table view (shown_expr y)) ∷ t) (arguments_push table view [] xs x)
arguments_push table view (parameter ∷ parameters) (y ∷ xs) x =
    ap (λ t. argument_of table view (Some parameter) (shown_expr y) (judged table view (shown_expr y)) ∷ t) (arguments_push table view parameters xs x)

pub arguments_length : (table : Table) (view : View) (parameters : List Parameter) (xs : List Expr) →
    length (arguments table view parameters (shown_expr_list xs)) ≡ length xs
arguments_length table view parameters [] = refl
arguments_length table view [] (x ∷ xs) = ap suc (arguments_length table view [] xs)
arguments_length table view (parameter ∷ parameters) (x ∷ xs) = ap suc (arguments_length table view parameters xs)

-- what is known of some subscripts, whose faults are added
pub record AreKnown (fixed known : Bool) (old new : List RuleFault) (parts : List Judged) : Type 0 where
  pub fixed_ones : fixed ≡ all_fixed parts
  pub known_ones : known ≡ all_known parts
  pub added : new ≡ old ++ faults_of parts
