-- Which names a module specifies, and as what: the rule `spec` of the grammar.
use Rattle.std.specs.Prelude.{List, [], map}
use Rattle.std.specs.List.{flat_map}
use Rattle.pearl_tree.specs.declared.name.Name.{Name}
use Rattle.pearl_tree.specs.Names.{names_of}
use Rattle.pearl_tree.specs.ShownDeclarations.{ShownSpec, OfInterrupt, OfDation}
use Rattle.pearl_tree.specs.ShownModules.{ShownDecl, OfLength, OfType, OfDeclare, OfSpecify, OfTask, OfProc, ShownTree}
use Rattle.pearl_system.specs.declared.specified.Form.{Form}
use Rattle.pearl_system.specs.declared.specified.Form.TheVariants.{Interrupt, Dation}
use Rattle.pearl_system.specs.declared.specified.Specified.{Specified}

abbrev pub as_form : Form → Name → Specified
as_form form name = record { text = name.text; place = name.place; form = form }

abbrev pub specified_by : ShownSpec → List Specified
specified_by (OfInterrupt names place) = map (as_form Interrupt) (names_of names)
specified_by (OfDation names direction class control place) = map (as_form (Dation direction class)) (names_of names)

abbrev pub specified_in : ShownDecl → List Specified
specified_in (OfSpecify specs place) = flat_map specified_by specs
specified_in (OfLength sort number place) = []
specified_in (OfType name part place) = []
specified_in (OfDeclare declared place) = []
specified_in (OfTask name head body place) = []
specified_in (OfProc name params returns body place) = []

-- in order of text
abbrev pub specified : ShownTree → List Specified
specified tree = flat_map specified_in tree.declarations
