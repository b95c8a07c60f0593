-- Small modules and what their names stand for.
use Prim.Native.String.{String}
use Rattle.std.specs.Prelude.{◌≡◌, ℕ, ◌+◌, pos, false, true, List, [], ◌∷◌, Some, None, is_some, map, option_map, codes}
use Rattle.std.proofs.Common.{refl}
use Rattle.pearl_value.specs.declared.kind.Kind.TheVariants as kind
use Rattle.pearl_tree.specs.declared.name.Name.{Name}
use Rattle.pearl_tree.specs.declared.name.Number.{Number}
use Rattle.pearl_tree.specs.declared.typing.Bound.{Bound}
use Rattle.pearl_tree.specs.declared.typing.Sort.TheVariants.{Fixed, Bit, Char}
use Rattle.pearl_tree.specs.declared.typing.Basic.TheVariants.{Sized}
use Rattle.pearl_tree.specs.ShownLiterals.{OfNumber, OfBits, ShownConst}
use Rattle.pearl_tree.specs.ShownDeclarations.{ShownNames, OfOne, ShownTyping, OfBasic, OfStruct, OfNamed, NoFields, MoreFields, ShownItem, OfItem}
use Rattle.pearl_tree.specs.ShownStatements.{OfRepeat, NoStmts}
use Rattle.pearl_tree.specs.ShownModules.{ShownDecl, OfLength, OfType, OfDeclare, OfProc, ShownTree}
use Rattle.pearl_names.specs.Sorts.{sorted_names, names_of_scopes}
use Rattle.pearl_names.specs.declared.scope.View.TheVariants.{Within, WhileOf}
use Rattle.pearl_names.specs.Layout.{item_leaves}
use Rattle.pearl_names.specs.Counts.{counts}
use Rattle.pearl_names.specs.Known.{known_of, around}
use Rattle.pearl_names.specs.Shapes.{OfKind}
use Rattle.pearl_names.specs.Tables.{table_of, sense_from, NewType, Variable, Procedure, OwnParameter, Control}

abbrev pub name : String → ℕ → Name
name text place = record { text = record { items = codes text }; place = place }

abbrev pub number : ℕ → ℕ → Number
number value place = record { value = value; place = place }

abbrev pub source : List ShownDecl → ShownTree
source declarations =
    record { name = None; system = None; declarations = declarations; modend = 0; semicolon = true; place = 0 }

-- a bound with one number
abbrev pub upto : ℕ → ℕ → Bound
upto value place =
    record { first = record { minus = false; number = number value place; place = place }; second = None; place = place }

-- a bound with two numbers
abbrev pub between : ℕ → ℕ → ℕ → Bound
between low high place = record {
  first = record { minus = false; number = number low place; place = place };
  second = Some (record { minus = false; number = number high (place + 2); place = place + 2 });
  place = place;
}

abbrev pub fixed : ℕ → ShownTyping
fixed place = OfBasic (Sized Fixed None place)

abbrev pub item : ShownNames → List Bound → ShownTyping → List ShownConst → ShownItem
item names bounds part init =
    record { names = names; bounds = bounds; inv = false; part = part; init = init; place = 22 }

abbrev pub declare : ShownItem → ShownDecl
declare item = OfDeclare (OfItem item ∷ []) 18

abbrev pub constant : ℕ → ℕ → ShownConst
constant value place = record { sign = None; literal = OfNumber (number value place); place = place }

-- DCL s(2) STRUCT [n FIXED,t(3) CHAR(2)];
abbrev pub structures : ShownItem
structures =
    item (OfOne (name "s" 22)) (upto 2 24 ∷ [])
    (OfStruct (MoreFields (OfOne (name "n" 35)) [] (fixed 37) 35
    (MoreFields (OfOne (name "t" 43)) (upto 3 45 ∷ []) (OfBasic (Sized Char (Some (number 2 53)) 48)) 43 NoFields)) 27) []

-- it is laid out field by field
laid_out :
    item_leaves (around (known_of (source (declare structures ∷ []))) 0 0) structures ≡
    Some (record { path = codes "n" ∷ []; bounds = (pos 1, pos 2) ∷ []; kind = kind.Fixed 31 } ∷
    record { path = codes "t" ∷ []; bounds = (pos 1, pos 2) ∷ (pos 1, pos 3) ∷ []; kind = kind.Chars 2 } ∷ [])
unfolding names_of_scopes sorted_names
laid_out = refl

-- behind the name of s each has two bytes, of which one is a point
counted :
    option_map counts (item_leaves (around (known_of (source (declare structures ∷ []))) 0 0) structures) ≡
    Some (record { leaves = 2; slots = 8; dimensions = 2; greatest = 6; longest = 2 })
unfolding names_of_scopes sorted_names counts
counted = refl

-- LENGTH BIT(3);TYPE u BIT;DCL x u INV INIT('1'B);p:PROC(a FIXED IDENT);FOR i REPEAT END;END;
abbrev pub tabled : ShownTree
tabled = source (
    OfLength Bit (number 3 29) 18 ∷
    OfType (name "u" 37) (OfBasic (Sized Bit None 39)) 32 ∷
    declare (record (item (OfOne (name "x" 47)) [] (OfNamed (name "u" 53)) (record { sign = None; literal = OfBits 1 1 60; place = 60 } ∷ [])) { inv = true }) ∷
    OfProc (name "p" 66) (record { names = OfOne (name "a" 73); basic = Sized Fixed None 75; ident = true; place = 73 } ∷ []) None (record {
      declarations = [];
      statements = OfRepeat (Some (name "i" 94)) None None None None [] NoStmts 103 90 ∷ [];
      place = 90;
    }) 66 ∷ [])

-- what its names stand for, scope by scope
stands_for :
    (table_of tabled).senses ≡
    (NewType ∷ Variable (Some (record { bounds = []; shape = OfKind (kind.Bits 3) })) true ∷
    Procedure (record { kind = Some (kind.Fixed 31); ident = true } ∷ []) None ∷ []) ∷
    (OwnParameter (record { kind = Some (kind.Fixed 31); ident = true }) ∷ []) ∷
    (Control (kind.Fixed 31) ∷ []) ∷ []
unfolding names_of_scopes sorted_names
stands_for = refl

-- in the body of its procedure p is seen, and a; in its loop i, also in a WHILE
seen : map (λ text. is_some (sense_from (table_of tabled) (Within 1) (codes text))) ("p" ∷ "a" ∷ "i" ∷ []) ≡ true ∷ true ∷ false ∷ []
unfolding names_of_scopes sorted_names
seen = refl

seen_in_while : sense_from (table_of tabled) (WhileOf 2) (codes "i") ≡ Some (Control (kind.Fixed 31))
unfolding names_of_scopes sorted_names
seen_in_while = refl
