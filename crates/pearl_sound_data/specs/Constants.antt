-- Which constants of INIT are values, and where those of statements stand.
use Rattle.std.specs.Prelude.{◌≡◌, true}
use Rattle.std.specs.List.{AllByRecursion}
use Rattle.pearl_tree.specs.Tokens.{IsClock, IsBits, IsText}
use Rattle.pearl_tree.specs.Lawful.{IsLawfulNumber, IsLawfulDuration}
use Rattle.pearl_tree.specs.ShownLiterals.{ShownLiteral, OfNumber, OfBits, OfText, OfClock, OfDuration, ShownConst}
use Rattle.pearl_tree.specs.ShownDeclarations.{ShownItem, ShownDeclared, OfItem, OfSema}
use Rattle.pearl_tree.specs.ShownStatements.{ShownBodyDecl, ShownStmt, OfIf, OfCase, OfRepeat, OfBegin, ShownStmts, NoStmts, MoreStmts, ShownBranches, NoBranches, MoreBranches, ShownOtherwise, NoOtherwise, OfOtherwise}
use Rattle.pearl_tree.specs.ShownModules.{ShownBody, ShownDecl, OfDeclare, OfTask, OfProc}
use Rattle.pearl_names.specs.Scopes.{as_stmts}
use Rattle.pearl_scope.specs.Laws.{has_value}

-- what a literal of a lawful tree says
abbrev pub IsInRange : ShownLiteral → Type 0
IsInRange (OfNumber number) = IsLawfulNumber number
IsInRange (OfBits len value place) = IsBits len value
IsInRange (OfText text place) = IsText text
IsInRange (OfClock milliseconds place) = IsClock milliseconds
IsInRange (OfDuration duration) = IsLawfulDuration duration

-- and it is no duration that is too long
pub record IsConstant (constant : ShownConst) : Type 0 where
  pub lawful : IsInRange constant.literal
  pub valued : has_value constant.literal ≡ true

abbrev pub ItemHasConstants : ShownItem → Type 0
ItemHasConstants item = AllByRecursion IsConstant item.init

abbrev pub BodyDeclHasConstants : ShownBodyDecl → Type 0
BodyDeclHasConstants declaration = AllByRecursion ItemHasConstants declaration.items

-- so are all constants of the declarations within
abbrev mutual
  pub HasConstants : ShownStmt → Type 0
  HasConstants (OfIf condition statements otherwise place) = AllHaveConstants statements × OtherwiseHasConstants otherwise
  HasConstants (OfCase selector alternatives otherwise place) = BranchesHaveConstants alternatives × OtherwiseHasConstants otherwise
  HasConstants (OfRepeat control begin step end condition declarations statements body_place place) =
      AllByRecursion BodyDeclHasConstants declarations × AllHaveConstants statements
  HasConstants (OfBegin declarations statements body_place place) =
      AllByRecursion BodyDeclHasConstants declarations × AllHaveConstants statements
  HasConstants statement = Unit {0}

  pub AllHaveConstants : ShownStmts → Type 0
  AllHaveConstants NoStmts = Unit {0}
  AllHaveConstants (MoreStmts statement rest) = HasConstants statement × AllHaveConstants rest

  pub BranchesHaveConstants : ShownBranches → Type 0
  BranchesHaveConstants NoBranches = Unit {0}
  BranchesHaveConstants (MoreBranches statements place rest) = AllHaveConstants statements × BranchesHaveConstants rest

  pub OtherwiseHasConstants : ShownOtherwise → Type 0
  OtherwiseHasConstants NoOtherwise = Unit {0}
  OtherwiseHasConstants (OfOtherwise statements place) = AllHaveConstants statements

abbrev pub BodyHasConstants : ShownBody → Type 0
BodyHasConstants body = AllByRecursion BodyDeclHasConstants body.declarations × AllHaveConstants (as_stmts body.statements)

abbrev pub DeclaredHasConstants : ShownDeclared → Type 0
DeclaredHasConstants (OfItem item) = ItemHasConstants item
DeclaredHasConstants (OfSema sema) = Unit {0}

abbrev pub DeclHasConstants : ShownDecl → Type 0
DeclHasConstants (OfDeclare parts place) = AllByRecursion DeclaredHasConstants parts
DeclHasConstants (OfTask name head body place) = BodyHasConstants body
DeclHasConstants (OfProc name params returns body place) = BodyHasConstants body
DeclHasConstants decl = Unit {0}
