use Rattle.std.proofs.Common.{◌≤◌, ◌^◌, length, sym, subst}
use Rattle.pearl_bench.proofs.TextLaws.{built, source-short}
use Rattle.pearl_bench.proofs.texts.source.Goals as goal

pub returns-clause-text : goal.returns-clause-text
returns-clause-text c =
    built c.args.n c.new-text.result.items c.extend_from_slice.new.self.items c.extend_from_slice-2.new.self.items c.push_starts.new.text.items
    c.extend_from_slice-3.new.self.items c.push_tasks.new.text.items c.extend_from_slice-4.new.self.items c.new-text.ensures.items
    c.in_ok-extend_from_slice.ensures.items c.in_ok-extend_from_slice-2.ensures.items c.in_ok-push_starts.ensures c.in_ok-extend_from_slice-3.ensures.items
    c.in_ok-push_tasks.ensures c.in_ok-extend_from_slice-4.ensures.items

pub returns-clause-short : goal.returns-clause-short
returns-clause-short c = subst (λ bytes. length bytes ≤ 2 ^ 20) (sym (returns-clause-text c)) (source-short c.args.n c.requires.few)
