-- The instructions of statements are such that an object may have, and their jumps lead well.
use Rattle.std.proofs.Common.{◌≡◌, ℕ, ◌+◌, ◌<◌, ◌≤◌, false, List, [], Option, Some, slice_get, length, refl, sym, ap, ◌∙◌, subst, arith}
use Rattle.std.specs.List.{AllByRecursion}
use Rattle.std.proofs.lemmas.Option.{same_Some}
use Rattle.pearl_instructions.specs.declared.instr.Instr.{Instr}
use Rattle.pearl_instructions.specs.declared.object.Parts.{Parts as Object}
use Rattle.pearl_instructions.specs.Lawful.{IsInstr}
use Rattle.pearl_instructions.specs.Valid.{targets}
use Rattle.pearl_faithful.proofs.Places.{pushes, pushing_stays, Every, IsBare, LeadsWell, AllLead, nowhere, both, then_at, all_less}
use Rattle.pearl_faithful.proofs.Pushing.{Adds}

-- an instruction that an object may have, and whose jumps lead well
abbrev pub Fine : Object → List Instr → ℕ → Instr → Type 0
Fine o instrs j instr = IsInstr instr × AllLead instrs o j instr

pub adds_fine : (o : Object) (instrs : List Instr) (j : ℕ) (instr : Instr) → Adds o j instr → Fine o instrs j instr
adds_fine o instrs j instr adds = (adds.1, subst (λ ts. AllByRecursion (LeadsWell instrs o j) ts) (sym (pushing_stays o instr adds.0)) tt)

-- EXIT leads behind a part, to where no operand lies
abbrev pub Leave : Object → List Instr → Option ℕ → (to : ℕ) → Type 0
Leave o instrs leave to = (past : ℕ) → leave ≡ Some past → (to ≤ past) × (past < length instrs) × IsBare instrs o past

-- A part of statements: it leaves no operand, and where what is behind it is in order, its jumps lead well.
pub record Sits (o : Object) (instrs : List Instr) (leave : Option ℕ) (from to : ℕ) : Type 0 where
  pub forward : from ≤ to
  pub bare : IsBare instrs o to
  pub fine : Leave o instrs leave to → to < length instrs → Every instrs (Fine o instrs) from to

module _ (o : Object) (instrs : List Instr) where
  pub bare_behind : (end to : ℕ) (here : Instr) → to ≡ end + 1 → slice_get instrs end ≡ Some here → pushes o here ≡ false → IsBare instrs o to
  bare_behind end to here last is none q instr next there =
      let same : q ≡ end = omega (arith, last, next) in
      let it : here ≡ instr = same_Some here instr (sym is ∙ (ap (λ n. slice_get instrs n) (sym same) ∙ there)) in
      subst (λ instr. pushes o instr ≡ false) it none

  pub plain : (j : ℕ) (here : Instr) → IsInstr here → targets here ≡ [] → Fine o instrs j here
  plain j here lawful none = (lawful, subst (λ ts. AllByRecursion (LeadsWell instrs o j) ts) (sym none) tt)

  module _ (leave : Option ℕ) where
    pub nothing_sits : (from to : ℕ) → IsBare instrs o from → to ≡ from → Sits o instrs leave from to
    nothing_sits from to bare same = record {
      forward = omega (arith, same);
      bare = subst (λ place. IsBare instrs o place) (sym same) bare;
      fine = λ out less. nowhere instrs (Fine o instrs) from to same;
    }

    pub both_sit : (from middle to : ℕ) → Sits o instrs leave from middle → Sits o instrs leave middle to → Sits o instrs leave from to
    both_sit from middle to one two = record {
      forward = let a = one.forward in let b = two.forward in omega (arith, a, b);
      bare = two.bare;
      fine = λ out less. let b = two.forward in
          both instrs (Fine o instrs) from middle to
          (one.fine (λ past is. let it = out past is in (let c = it.0 in omega (arith, b, c), it.1, it.2)) (omega (arith, b, less))) (two.fine out less);
    }

    -- operands, and an instruction that takes them off
    pub closes : (from end to : ℕ) (here : Instr) → from ≤ end → Every instrs (Adds o) from end → to ≡ end + 1 → slice_get instrs end ≡ Some here → IsInstr here → targets here ≡ [] →
        pushes o here ≡ false → Sits o instrs leave from to
    closes from end to here less adds last is lawful none leaves = record {
      forward = omega (arith, less, last);
      bare = bare_behind end to here last is leaves;
      fine = λ out inside. then_at instrs (Fine o instrs) from end to here (all_less instrs (Adds o) (Fine o instrs) from end (λ j instr adds. adds_fine o instrs j instr adds) adds) last is
          (plain end here lawful none);
    }

    pub alone : (from to : ℕ) (here : Instr) → (slice_get instrs from ≡ Some here) × (to ≡ from + 1) → IsInstr here → targets here ≡ [] → pushes o here ≡ false → Sits o instrs leave from to
    alone from to here is lawful none leaves = closes from from to here (omega arith) (nowhere instrs (Adds o) from from refl) is.1 is.0 lawful none leaves
