use Rattle.std.proofs.Common.{codes}
use Rattle.pearl_bench.proofs.TextLaws.{behind}
use Rattle.pearl_bench.proofs.texts.push_head.Goals as goal

pub returns : goal.returns
returns c =
    behind c.args.text.now.items c.extend_from_slice-2.new.self.items c.push_number-2.new.text.items _ _
    (behind c.args.text.now.items c.push_number.new.text.items c.extend_from_slice-2.new.self.items _ _
    (behind c.args.text.now.items c.extend_from_slice.new.self.items c.push_number.new.text.items _ _ c.in_ok-extend_from_slice.ensures.items c.in_ok-push_number.ensures)
    c.in_ok-extend_from_slice-2.ensures.items) c.in_ok-push_number-2.ensures
