-- What an expression is made of: literals, names, and the words NOW, TRY, LWB and UPB. Components aren't counted, nor is
-- the number before LWB and UPB.
use Rattle.std.specs.Prelude.{List, [], ◌∷◌, ◌++◌}
use Rattle.pearl_tree.specs.declared.name.Name.{Name}
use Rattle.pearl_tree.specs.ShownExpressions.{ShownExpr, OfOperand, OfDyadic, ShownPrimary, OfLiteral, OfRef, OfGroup, OfNow, OfTry, OfLimit, ShownSelectors, NoSelectors, MoreSelectors, ShownSelector, OfSubscripts, OfComponent, ShownExprs, NoExprs, MoreExprs}

pub data Piece : Type 0 where
  -- the name of a variable, or of a procedure that is called
  Reference : (name : Name) → Piece
  -- a literal, a word, or a name behind TRY, LWB or UPB
  Other : Piece

abbrev mutual
  pub expr_pieces : ShownExpr → List Piece
  expr_pieces (OfOperand monadics part place) = primary_pieces part
  expr_pieces (OfDyadic left dyadic right place) = expr_pieces left ++ expr_pieces right

  pub primary_pieces : ShownPrimary → List Piece
  primary_pieces (OfLiteral part) = Other ∷ []
  primary_pieces (OfRef name selectors place) = Reference name ∷ selectors_pieces selectors
  primary_pieces (OfGroup inner place) = expr_pieces inner
  primary_pieces (OfNow place) = Other ∷ []
  primary_pieces (OfTry name place) = Other ∷ Other ∷ []
  primary_pieces (OfLimit dimension side name selectors ref_place place) = Other ∷ Other ∷ selectors_pieces selectors

  pub selectors_pieces : ShownSelectors → List Piece
  selectors_pieces NoSelectors = []
  selectors_pieces (MoreSelectors selector rest) = selector_pieces selector ++ selectors_pieces rest

  pub selector_pieces : ShownSelector → List Piece
  selector_pieces (OfSubscripts subscripts place) = exprs_pieces subscripts
  selector_pieces (OfComponent name place) = []

  pub exprs_pieces : ShownExprs → List Piece
  exprs_pieces NoExprs = []
  exprs_pieces (MoreExprs expr rest) = expr_pieces expr ++ exprs_pieces rest
