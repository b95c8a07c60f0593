-- What a list of pieces in memory shows, and the pieces of lists.
use Rattle.std.specs.Prelude.{List, ◌∷◌, map}
use Rattle.std.specs.List.{flat_map}
use Rattle.pearl_tree.specs.declared.expression.Selector.{Selector}
use Rattle.pearl_tree.specs.ShownExpressions.{ShownRef, shown_selector}
use Rattle.pearl_check.specs.declared.pieces.Piece.{Piece as CodePiece}
use Rattle.pearl_check.specs.declared.pieces.Piece.TheVariants as piece
use Rattle.pearl_check.specs.Pieces.{Piece, Reference, Other, selectors_pieces, selector_pieces}

abbrev pub shown_piece : CodePiece → Piece
shown_piece (piece.Reference name) = Reference name.now
shown_piece piece.Other = Other

-- what a list of pieces in memory shows
unfoldable pub pieces_in : List CodePiece → List Piece
pieces_in pieces = map shown_piece pieces

abbrev pub selector_list_pieces : List Selector → List Piece
selector_list_pieces selectors = flat_map (λ selector. selector_pieces (shown_selector selector)) selectors

abbrev pub ref_pieces : ShownRef → List Piece
ref_pieces reference = Reference reference.name ∷ selectors_pieces reference.selectors

-- behind LWB or UPB
abbrev pub limit_pieces : ShownRef → List Piece
limit_pieces array = Other ∷ Other ∷ selectors_pieces array.selectors
