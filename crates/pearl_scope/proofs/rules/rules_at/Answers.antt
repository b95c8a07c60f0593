use Rattle.std.proofs.Common.{◌++◌, sym, subst, ◌∙◌}
use Rattle.pearl_names.specs.Forming.{AllMatch}
use Rattle.pearl_scope.specs.PartLists.{shown_part}
use Rattle.pearl_scope.specs.Rules.{s2, s3, s4, s5, s6, s7, s8, s9}
use Rattle.pearl_names.specs.Known.{Known}
use Rattle.pearl_scope.proofs.Asking.{adds}
use Rattle.pearl_names.proofs.Offered.{all_match_more, grows_more}
use Rattle.pearl_scope.proofs.rules.rules_at.Goals as goal

pub returns-clause-grows : goal.returns-clause-grows
returns-clause-grows c = grows_more _ _ _ c.in_ok-s5_at.ensures.grows c.in_ok-s7_at.ensures.grows

pub returns-clause-named : goal.returns-clause-named
returns-clause-named c = c.in_ok-s7_at.ensures.named ∙ c.in_ok-s5_at.ensures.named

pub returns-clause-faults : goal.returns-clause-faults
returns-clause-faults c = λ shapes all.
    let scopes = c.args.scopes.now in
    let part = shown_part c.args.part.now in
    let known : Known = record { scopes = scopes; lengths = c.args.lengths.now; shapes = shapes } in
    let from8 = s8 part ++ s9 part in
    let from7 = s7 known part ++ from8 in
    let from6 = s6 part ++ from7 in
    let from5 = s5 known part ++ from6 in
    let from4 = s4 part ++ from5 in
    let more = all_match_more c.args.types.now.forms.items c.s5_at.new.types.forms.items c.args.types.now.named.items shapes c.in_ok-s5_at.ensures.grows all in
    let still : AllMatch c.s5_at.new.types.forms.items c.s5_at.new.types.named.items shapes =
    subst (λ n. AllMatch c.s5_at.new.types.forms.items n shapes) (sym c.in_ok-s5_at.ensures.named) more in
    adds c.args.faults.now.items c.s2_at.new.faults.items c.s9_at.new.faults.items (s2 scopes part) (s3 scopes part ++ from4) c.in_ok-s2_at.ensures
    (adds c.s2_at.new.faults.items c.s3_at.new.faults.items c.s9_at.new.faults.items (s3 scopes part) from4 c.in_ok-s3_at.ensures
    (adds c.s3_at.new.faults.items c.s4_at.new.faults.items c.s9_at.new.faults.items (s4 part) from5 c.in_ok-s4_at.ensures
    (adds c.s4_at.new.faults.items c.s5_at.new.faults.items c.s9_at.new.faults.items (s5 known part) from6 (c.in_ok-s5_at.ensures.faults shapes all)
    (adds c.s5_at.new.faults.items c.s6_at.new.faults.items c.s9_at.new.faults.items (s6 part) from7 c.in_ok-s6_at.ensures
    (adds c.s6_at.new.faults.items c.s7_at.new.faults.items c.s9_at.new.faults.items (s7 known part) from8 (c.in_ok-s7_at.ensures.faults shapes still)
    (adds c.s7_at.new.faults.items c.s8_at.new.faults.items c.s9_at.new.faults.items (s8 part) (s9 part) c.in_ok-s8_at.ensures c.in_ok-s9_at.ensures))))))
