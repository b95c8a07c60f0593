-- What INIT and PRESET put where, in small modules: signs, several names, fewer constants than slots.
use Rattle.std.specs.Prelude.{◌≡◌, ℕ, pos, negsuc, false, [], ◌∷◌, Some, None, codes}
use Rattle.std.specs.List.{flat_map}
use Rattle.std.proofs.Common.{refl}
use Prim.Native.String.{String}
use Rattle.pearl_value.specs.declared.kind.Kind.TheVariants as kind
use Rattle.pearl_value.specs.declared.cell.Cell.TheVariants.{Fixed, Bits, Chars}
use Rattle.pearl_tree.specs.declared.name.Name.{Name}
use Rattle.pearl_tree.specs.declared.name.Number.{Number}
use Rattle.pearl_tree.specs.declared.literal.Sign.TheVariants.{Plus, Minus}
use Rattle.pearl_tree.specs.declared.typing.Bound.{Bound}
use Rattle.pearl_tree.specs.ShownLiterals.{OfNumber, OfBits, OfText, ShownConst}
use Rattle.pearl_tree.specs.ShownDeclarations.{OfSeveral, OfBasic, ShownItem, OfItem, OfSema}
use Rattle.pearl_tree.specs.ShownModules.{ShownDecl, OfDeclare, ShownTree}
use Rattle.pearl_names.specs.Sorts.{sorted_names, names_of_scopes}
use Rattle.pearl_names.specs.Tables.{table_of}
use Rattle.pearl_program.specs.PlainPrograms.{PlainLeaf, PlainProg}
use Rattle.pearl_program.specs.FirstCells.{first_cells}
use Rattle.pearl_resolve.specs.Resolve.{resolve}
use Rattle.pearl_resolve.proofs.Offered.{source, fixed}
use Rattle.pearl_sound_data.specs.Filling.{filled}

abbrev number : ℕ → Number
number value = record { value = value; place = 0 }

abbrev name : String → Name
name text = record { text = record { items = codes text }; place = 0 }

abbrev minus_one : ShownConst
minus_one = record { sign = Some Minus; literal = OfNumber (number 1); place = 0 }

abbrev two : ShownConst
two = record { sign = Some Plus; literal = OfNumber (number 2); place = 0 }

abbrev upto : ℕ → Bound
upto value = record { first = record { minus = false; number = number value; place = 0 }; second = None; place = 0 }

-- DCL (a,b)(2) FIXED INIT(-1,+2);
abbrev arrays : ShownItem
arrays = record {
  names = OfSeveral (name "a" ∷ name "b" ∷ []) 0;
  bounds = upto 2 ∷ [];
  inv = false;
  part = OfBasic fixed;
  init = minus_one ∷ two ∷ [];
  place = 0;
}

-- DCL (s,t) SEMA PRESET(3);
abbrev semaphores : ShownDecl
semaphores = OfDeclare (OfSema (record { names = OfSeveral (name "s" ∷ name "t" ∷ []) 0; preset = number 3 ∷ []; place = 0 }) ∷ []) 0

abbrev declared : ShownTree
declared = source (OfDeclare (OfItem arrays ∷ []) 0 ∷ semaphores ∷ [])

abbrev program : PlainProg
program = resolve (table_of declared) [] [] declared

-- a has -1 and 2, and b has 2 twice
arrays_begin : flat_map (λ (leaf : PlainLeaf). first_cells leaf.values) program.leaves ≡
    Fixed 31 (negsuc 0) ∷ Fixed 31 (pos 2) ∷ Fixed 31 (pos 2) ∷ Fixed 31 (pos 2) ∷ []
unfolding names_of_scopes sorted_names
arrays_begin = refl

-- s has 3, and t has 0
semaphores_begin : program.semaphores ≡ 3 ∷ 0 ∷ []
semaphores_begin = refl

-- a shorter BIT and a shorter text are filled on the right
filled_up : filled (kind.Bits 4 ∷ kind.Chars 2 ∷ [])
    (record { sign = None; literal = OfBits 2 3 0; place = 0 } ∷ record { sign = None; literal = OfText (65 ∷ []) 0; place = 0 } ∷ []) ≡
    Bits 4 12 ∷ Chars (record { items = 65 ∷ 32 ∷ [] }) ∷ []
filled_up = refl

-- without constants all is unset
nothing_put : filled (kind.Fixed 7 ∷ kind.Bits 3 ∷ []) [] ≡ Fixed 7 (pos 0) ∷ Bits 3 0 ∷ []
nothing_put = refl
