use Rattle.std.proofs.Common.{◌*◌, ◌==◌, ap, sym, ◌∙◌}
use Rattle.std.specs.List.{list_all}
use Rattle.pearl_rules.specs.Literals.{bits_number, bits_within}
use Rattle.pearl_scan.proofs.BitLaws.{cut_zeros, cut_other}
use Rattle.pearl_scan.proofs.bits.bits_literal.Goals as goal

pub returns-then-not-are_zeros : goal.returns-then-not-are_zeros
returns-then-not-are_zeros c =
    sym (cut_other c.args.group c.args.len c.count_of-count.result c.args.digits.now c.requires.some c.requires.long c.count_of-count.ensures.enough c.if-digits-count.false
    (sym (c.are_zeros.ensures ∙ ap (list_all (λ byte. byte == 48)) c.split_at.ensures.back) ∙ c.if-not-are_zeros.true))

pub returns : goal.returns
returns c =
    let zeros = sym (c.are_zeros.ensures ∙ ap (list_all (λ byte. byte == 48)) c.split_at.ensures.back) ∙ c.if-not-are_zeros.false in
    c.first_bits-2.ensures
    ∙ ap (bits_within c.args.len (c.args.group * c.count_of-count.result))
    (sym c.in_ok-value-2.was ∙ c.wide_number-2.ensures.value ∙ ap (bits_number c.args.group) c.split_at.ensures.front)
    ∙ sym (cut_zeros c.args.group c.args.len c.count_of-count.result c.args.digits.now c.requires.some c.requires.long c.count_of-count.ensures.enough c.if-digits-count.false zeros)
