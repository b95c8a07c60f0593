-- Which formats a module has: one for each PUT and GET, in the order of the text.
use Rattle.std.specs.Prelude.{ℕ, List, [], ◌∷◌, ◌++◌, map, Option, Some, None}
use Rattle.pearl_format.specs.declared.item.Item.{Item}
use Rattle.pearl_format.specs.declared.item.ItemCode.{ItemCode}
use Rattle.pearl_format.specs.declared.item.ItemCode.TheVariants as code
use Rattle.pearl_tree.specs.declared.name.Number.{Number}
use Rattle.pearl_tree.specs.declared.format.FreeCode.{FreeCode}
use Rattle.pearl_tree.specs.declared.format.FreeCode.TheVariants as free
use Rattle.pearl_tree.specs.declared.format.WideCode.{WideCode}
use Rattle.pearl_tree.specs.declared.format.WideCode.TheVariants as wide
use Rattle.pearl_tree.specs.declared.format.Fmt.{Fmt}
use Rattle.pearl_tree.specs.declared.format.Fmt.TheVariants.{Free, Wide}
use Rattle.pearl_tree.specs.ShownStatements.{ShownStmt, OfIf, OfCase, OfRepeat, OfBegin, OfPut, OfGet, ShownStmts, NoStmts, MoreStmts, ShownBranches, NoBranches, MoreBranches, ShownOtherwise, NoOtherwise, OfOtherwise}
use Rattle.pearl_tree.specs.ShownModules.{ShownDecl, OfTask, OfProc}
use Rattle.pearl_names.specs.Scopes.{as_stmts}

abbrev pub free_code : FreeCode → ItemCode
free_code free.A = code.A
free_code free.B = code.B1
free_code free.B1 = code.B1
free_code free.B2 = code.B2
free_code free.B3 = code.B3
free_code free.B4 = code.B4
free_code free.X = code.X
free_code free.Skip = code.Skip

abbrev pub wide_code : WideCode → ItemCode
wide_code wide.F = code.F
wide_code wide.T = code.T
wide_code wide.D = code.D

abbrev pub width_of : Option Number → ℕ
width_of None = 0
width_of (Some number) = number.value

abbrev pub item_of : Fmt → Item
item_of (Free word width place) = record { code = free_code word; width = width_of width }
item_of (Wide word width place) = record { code = wide_code word; width = width.value }

abbrev mutual
  pub formats_in : ShownStmt → List (List Item)
  formats_in (OfIf condition statements otherwise place) = formats_in_all statements ++ formats_in_otherwise otherwise
  formats_in (OfCase selector alternatives otherwise place) = formats_in_branches alternatives ++ formats_in_otherwise otherwise
  formats_in (OfRepeat control begin step end condition declarations statements body_place place) = formats_in_all statements
  formats_in (OfBegin declarations statements body_place place) = formats_in_all statements
  formats_in (OfPut values dation formats place) = map item_of formats ∷ []
  formats_in (OfGet targets dation formats place) = map item_of formats ∷ []
  formats_in statement = []

  pub formats_in_all : ShownStmts → List (List Item)
  formats_in_all NoStmts = []
  formats_in_all (MoreStmts statement rest) = formats_in statement ++ formats_in_all rest

  pub formats_in_branches : ShownBranches → List (List Item)
  formats_in_branches NoBranches = []
  formats_in_branches (MoreBranches statements place rest) = formats_in_all statements ++ formats_in_branches rest

  pub formats_in_otherwise : ShownOtherwise → List (List Item)
  formats_in_otherwise NoOtherwise = []
  formats_in_otherwise (OfOtherwise statements place) = formats_in_all statements

abbrev pub decl_formats : ShownDecl → List (List Item)
decl_formats (OfTask name head body place) = formats_in_all (as_stmts body.statements)
decl_formats (OfProc name params returns body place) = formats_in_all (as_stmts body.statements)
decl_formats decl = []
