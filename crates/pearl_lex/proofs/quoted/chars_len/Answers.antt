use Rattle.std.proofs.Common.{◌≡◌, ◌+◌, length, drop, get_or, ap, ◌∙◌, arith}
use Rattle.std.proofs.lemmas.List.{drop-drop, length-drop}
use Rattle.pearl_lex.specs.Quoted.{char_len, chars_len}
use Rattle.pearl_lex.proofs.Chars.{chars_step}
use Rattle.pearl_lex.proofs.quoted.chars_len.Goals as goal

pub loop-size-preserved : goal.loop-size-preserved
loop-size-preserved c =
    let h = c.loop-size in
    let bytes = c.args.bytes.now in
    let step = chars_step (drop h.count bytes) h.size h.invariant.next c.loop-size-test.true in
    let on : chars_len (drop h.size (drop h.count bytes)) ≡ chars_len (drop (h.count + h.size) bytes) = ap chars_len (drop-drop h.size h.count bytes) in
    let left : length c.rest_of.result.now ≡ length (drop (h.count + h.size) bytes) = ap length c.rest_of.ensures in
    record {
      all = omega (arith, h.invariant.all, step, on);
      next = c.next_char-size-in-loop-size.ensures.value ∙ ap (λ bs. char_len (get_or bs 0 0) (get_or bs 1 0)) c.rest_of.ensures;
      within = omega (arith, h.invariant.within, c.next_char-size-in-loop-size.ensures.within, left, length-drop (h.count + h.size) bytes);
    }
