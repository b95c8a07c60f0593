use Rattle.std.proofs.Common.{◌≡◌, ◌+◌, length, drop, sym, ap, ◌∙◌, arith}
use Rattle.std.proofs.lemmas.List.{length-drop}
use Rattle.pearl_lex.specs.Spelling.{space_len}
use Rattle.pearl_lex.proofs.Lexing.{more_space}
use Rattle.pearl_lex.proofs.lexer.past_space.Goals as goal

pub loop-size-preserved : goal.loop-size-preserved
loop-size-preserved c =
    let h = c.loop-size in
    let left : length c.rest_of-in-loop-size.result.now ≡ length (drop (h.place + h.size) c.args.bytes.now) = ap length c.rest_of-in-loop-size.ensures in
    record {
      space = more_space c.args.bytes.now c.args.from h.size h.place h.invariant.space c.loop-size-test.true (sym h.invariant.next);
      next = c.space_len-size-in-loop-size.ensures.value ∙ ap space_len c.rest_of-in-loop-size.ensures;
      within = omega (arith, h.invariant.within, c.space_len-size-in-loop-size.ensures.within, left, length-drop (h.place + h.size) c.args.bytes.now);
      on = omega (arith, h.invariant.on);
    }
