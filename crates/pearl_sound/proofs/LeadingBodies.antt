-- In each body of the whole module, and in the loop of its task, names lead to what is there in its program.
use Rattle.std.specs.Prelude.{◌≡◌, ℕ, Bool, true, false, if◌then◌else◌, pos, [], ◌∷◌, Option, Some, None, option_map, suc, slice_get, codes}
use Rattle.std.specs.Option.{option_and_then}
use Rattle.std.specs.Str.{bytes_eq}
use Rattle.std.proofs.Common.{refl, ap, sym, subst, arith}
use Rattle.std.proofs.lemmas.Int.{ints}
use Rattle.std.proofs.lemmas.Option.{none-some}
use Rattle.pearl_value.specs.declared.kind.CellKind.TheVariants.{RefTo}
use Rattle.pearl_value.specs.declared.device.Direction.TheVariants.{InOut}
use Rattle.pearl_tree.specs.Names.{name_text}
use Rattle.pearl_names.specs.declared.meaning.Found.{Found}
use Rattle.pearl_names.specs.declared.scope.View.TheVariants.{Within}
use Rattle.pearl_names.specs.Found.{found_in}
use Rattle.pearl_names.specs.Sorts.{sorted_names, names_of_scopes}
use Rattle.pearl_names.specs.Shapes.{OfKind}
use Rattle.pearl_names.specs.Tables.{table_of}
use Rattle.pearl_program.specs.declared.expression.Target.TheVariants.{Leaf, Own, Param}
use Rattle.pearl_program.specs.Typing.{Around, IsLeafOf}
use Rattle.pearl_program.specs.SoundStatements.{IsIf, within}
use Rattle.pearl_program.proofs.Offered.{short, program, counter, around_task, around_procedure, free}
use Rattle.pearl_resolve.specs.Expressions.{Numbered, meant_at, begun}
use Rattle.pearl_resolve.specs.Resolve.{numbered_of}
use Rattle.pearl_sound.specs.SoundNames.{IsThere, IsTerminal, LeadNames}
use Rattle.pearl_sound.proofs.Leading.{Leads, lead_all, reaches}
use Rattle.pearl_sound.proofs.WholeModule.{whole, terminal}

abbrev numbered : Numbered
numbered = numbered_of (table_of whole) (terminal ∷ []) (0 ∷ []) whole

-- what a name means in the module: tty, a, p, t, or nothing
abbrev module_if : (tty a p t : Bool) → Option Found
module_if tty a p t = found_in 0
    (if tty then Some 0 else option_map suc
    (if a then Some 0 else option_map suc
    (if p then Some 0 else option_map suc
    (if t then Some 0 else option_map suc None)))) None

abbrev alone_if : Bool → Option ℕ
alone_if own = if own then Some 0 else option_map suc None

array_there : (around : Around) → around.leaves ≡ program.leaves →
    IsThere around false (begun (Leaf 0) ((pos 1, pos 3) ∷ []) (OfKind short))
array_there around is = record {
  sound = (record { rising = omega (arith, ints); low = omega (arith, ints); high = omega (arith, ints) }, tt);
  end = (
    omega arith,
    subst (λ leaves. IsLeafOf (slice_get leaves 0) (record { lower = pos 1; upper = pos 3 } ∷ []) short) (sym is) (refl, refl),
  );
}

module_leads : (around : Around) → around.leaves ≡ program.leaves → around.devices ≡ program.devices →
    around.tasks ≡ 1 → around.procedures ≡ record { params = RefTo short ∷ []; result = None } ∷ [] →
    (tty a p t : Bool) → IsIf (Leads around) (option_and_then (meant_at numbered) (module_if tty a p t))
unfolding names_of_scopes sorted_names
module_leads around leaves devices tasks procedures true a p t =
    subst (λ given. IsTerminal InOut (slice_get given 0)) (sym devices) refl
module_leads around leaves devices tasks procedures false true p t =
    reaches around false (Leaf 0) ((pos 1, pos 3) ∷ []) short (array_there around leaves)
module_leads around leaves devices tasks procedures false false true t = record {
  signature = record { params = RefTo short ∷ []; result = None };
  there = ap (λ given. slice_get given 0) procedures;
  params = refl;
  gives = λ kind is. absurd (none-some kind is);
}
module_leads around leaves devices tasks procedures false false false true = omega (arith, tasks)
module_leads around leaves devices tasks procedures false false false false = tt

-- p sees its parameter, and itself
procedure_leads : (x tty a p t : Bool) →
    IsIf (Leads around_procedure) (option_and_then (meant_at numbered) (found_in 1 (alone_if x) (module_if tty a p t)))
unfolding names_of_scopes sorted_names
procedure_leads true tty a p t =
    reaches around_procedure false (Param 0) [] short (record { sound = tt; end = (omega arith, (refl, refl)) })
procedure_leads false true a p t = module_leads around_procedure refl refl refl refl true a p t
procedure_leads false false true p t = module_leads around_procedure refl refl refl refl false true p t
procedure_leads false false false true t = module_leads around_procedure refl refl refl refl false false true t
procedure_leads false false false false true = module_leads around_procedure refl refl refl refl false false false true
procedure_leads false false false false false = tt

in_procedure : LeadNames numbered (Within 1) around_procedure
unfolding names_of_scopes sorted_names
in_procedure = lead_all numbered (Within 1) around_procedure
    (λ name. procedure_leads (bytes_eq (name_text name) (codes "x")) (bytes_eq (name_text name) (codes "tty"))
    (bytes_eq (name_text name) (codes "a")) (bytes_eq (name_text name) (codes "p")) (bytes_eq (name_text name) (codes "t")))

abbrev around_loop : Around
around_loop = within around_task (Some counter)

-- in the loop the counter is only read
loop_leads : (i n tty a p t : Bool) → IsIf (Leads around_loop)
    (option_and_then (meant_at numbered) (found_in 3 (alone_if i) (found_in 2 (alone_if n) (module_if tty a p t))))
unfolding names_of_scopes sorted_names
loop_leads true n tty a p t =
    reaches around_loop true (Own 1) [] short (record { sound = tt; end = (omega arith, (refl, refl)) })
loop_leads false true tty a p t =
    reaches around_loop false (Own 0) [] short (record { sound = tt; end = (omega arith, (refl, free)) })
loop_leads false false true a p t = module_leads around_loop refl refl refl refl true a p t
loop_leads false false false true p t = module_leads around_loop refl refl refl refl false true p t
loop_leads false false false false true t = module_leads around_loop refl refl refl refl false false true t
loop_leads false false false false false true = module_leads around_loop refl refl refl refl false false false true
loop_leads false false false false false false = tt

in_loop : LeadNames numbered (Within 3) around_loop
unfolding names_of_scopes sorted_names
in_loop = lead_all numbered (Within 3) around_loop
    (λ name. loop_leads (bytes_eq (name_text name) (codes "i")) (bytes_eq (name_text name) (codes "n"))
    (bytes_eq (name_text name) (codes "tty")) (bytes_eq (name_text name) (codes "a")) (bytes_eq (name_text name) (codes "p"))
    (bytes_eq (name_text name) (codes "t")))
