use Rattle.std.proofs.Common.{refl, sym, subst, ap, ◌∙◌}
use Rattle.pearl_tree.specs.ShownModules.{shown_tree}
use Rattle.pearl_names.specs.Tables.{table_of}
use Rattle.pearl_check.specs.Checks.{module_callers}
use Rattle.pearl_program.specs.PlainPrograms.{plain_prog}
use Rattle.pearl_program.specs.Sound.{IsSound}
use Rattle.pearl_resolve.specs.Resolve.{resolve}
use Rattle.pearl_sound_sizes.specs.ByRule.{AreByRule}
use Rattle.pearl_top.proofs.SoundPrograms.{program_sound}
use Rattle.pearl_top.proofs.program.program_of.Goals as goal

pub new-requires : goal.new-requires
new-requires c =
    let tree = shown_tree c.args.tree.now in
    let devices = c.in_ok-accepted.accepted.devices in
    let numbers = c.in_ok-procedures.procedures.items in
    let is = c.in_ok-program.ensures (table_of tree) c.in_ok-accepted.ensures.table
    ∙ (λ i. resolve (table_of tree) (c.as_slice.ensures i) (c.as_slice-2.ensures.value i) tree) in
    let rule : AreByRule tree numbers = record {
      callers = module_callers tree;
      calls = refl;
      order = c.in_ok-accepted.accepted.numbering;
      numbering = c.in_ok-accepted.ensures.numbering;
      are = c.in_ok-procedures.ensures;
    } in
    subst IsSound (sym is)
    (program_sound c.args.tree.now c.requires.named c.requires.lawful c.in_ok-accepted.ensures.accepted devices numbers
    c.in_ok-accepted.ensures.devices rule)

pub returns-clause-program : goal.returns-clause-program
returns-clause-program c =
    let tree = shown_tree c.args.tree.now in
    record {
      devices = c.in_ok-accepted.accepted.devices;
      specified = c.in_ok-accepted.ensures.devices;
      order = c.in_ok-accepted.accepted.numbering;
      by_rule = c.in_ok-accepted.ensures.numbering;
      numbers = c.in_ok-procedures.procedures.items;
      numbered = c.in_ok-procedures.ensures;
      is = ap plain_prog c.new.ensures ∙ c.in_ok-program.ensures (table_of tree) c.in_ok-accepted.ensures.table
          ∙ (λ i. resolve (table_of tree) (c.as_slice.ensures i) (c.as_slice-2.ensures.value i) tree);
    }
