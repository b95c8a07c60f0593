-- Where the rule on weights counts more than the program has: UPB v and TRY s are two pieces of a text each, and one value.
use Rattle.std.specs.Prelude.{◌≡◌, ◌-◌, [], length, Option, Some, None, slice_get}
use Rattle.std.proofs.Common.{refl}
use Rattle.pearl_tree.specs.declared.name.Name.{Name}
use Rattle.pearl_tree.specs.declared.expression.Side.TheVariants.{Upper}
use Rattle.pearl_tree.specs.ShownExpressions.{ShownExpr, OfOperand, OfTry, OfLimit, NoSelectors}
use Rattle.pearl_names.specs.declared.scope.View.{View}
use Rattle.pearl_program.specs.declared.expression.Bound.{Bound}
use Rattle.pearl_program.specs.Weights.{of_expr, values}
use Rattle.pearl_check.specs.Pieces.{expr_pieces}
use Rattle.pearl_resolve.specs.Expressions.{Numbered, meant, walk_from, open_bounds, limit_value, resolve_expr}

abbrev upper : Name → ShownExpr
upper name = OfOperand [] (OfLimit None Upper name NoSelectors 0 0) 0

abbrev taken : Name → ShownExpr
taken name = OfOperand [] (OfTry name 0) 0

upper_has_two_pieces : (name : Name) → length (expr_pieces (upper name)) ≡ 2
upper_has_two_pieces name = refl

upper_is_one_value : (numbered : Numbered) (view : View) (name : Name) → of_expr values (resolve_expr numbered view (upper name)) ≡ 1
upper_is_one_value numbered view name = by (slice_get (open_bounds (walk_from (meant numbered view name))) (1 - 1))
  where
    by : (bound : Option Bound) → of_expr values (limit_value Upper bound) ≡ 1
    by None = refl
    by (Some bound) = refl

taken_has_two_pieces : (name : Name) → length (expr_pieces (taken name)) ≡ 2
taken_has_two_pieces name = refl

taken_is_one_value : (numbered : Numbered) (view : View) (name : Name) → of_expr values (resolve_expr numbered view (taken name)) ≡ 1
taken_is_one_value numbered view name = refl
