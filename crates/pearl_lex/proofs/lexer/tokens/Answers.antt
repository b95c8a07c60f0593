use Rattle.std.proofs.Common.{◌≡◌, ◌+◌, ◌++◌, ◌∷◌, [], drop, length, Some, refl, subst, sym, ap, ◌∙◌, arith}
use Rattle.pearl_lex.specs.Lexes.{AreTokens, IsSpace}
use Rattle.pearl_lex.specs.Front.{front}
use Rattle.pearl_lex.proofs.Lexing.{one_more}
use Rattle.pearl_lex.proofs.LawfulTokens.{tokens_rise, lawful_tokens}
use Rattle.pearl_lex.proofs.lexer.tokens.Goals as goal

pub loop-place-preserved : goal.loop-place-preserved
loop-place-preserved c =
    let at = c.loop-place.place in
    let begins : front (drop at c.args.bytes.now) ≡ Some c.in-Some.front = ap front (sym c.rest_of.ensures) ∙ sym c.in-Some.ensures.value in
    let more : c.append.new.tokens.items ≡ c.loop-place.tokens.items ++ record { place = at; what = c.in-Some.front.what } ∷ [] = c.in_ok-append-in-Some.ensures.more in
    record {
      tokens_are = subst (λ tokens. AreTokens c.args.bytes.now 0 tokens (at + c.in-Some.front.size)) (sym more)
          (one_more c.args.bytes.now 0 c.loop-place.tokens.items (record { place = at; what = c.in-Some.front.what }) c.loop-place.end (at + c.in-Some.front.size) c.loop-place.invariant.tokens_are
          (record { size = c.in-Some.front.size; place = c.loop-place.invariant.here; no_space = c.loop-place.invariant.no_space; begins = begins; end = refl }));
      here = c.past_space-place-in-Some.ensures.space;
      no_space = c.past_space-place-in-Some.ensures.none;
      inside = c.past_space-place-in-Some.ensures.within;
    }

pub returns-clause-lawful : goal.returns-clause-lawful
returns-clause-lawful c =
    let bytes = c.args.bytes.now in
    let at_end : c.loop-place.place ≡ length bytes = omega (arith, c.loop-place.invariant.inside) in
    lawful_tokens bytes c.loop-place.tokens.items
    (record { end = c.loop-place.end; tokens_are = c.loop-place.invariant.tokens_are; rest = subst (IsSpace bytes c.loop-place.end) at_end c.loop-place.invariant.here }) c.requires

pub returns-clause-placed : goal.returns-clause-placed
returns-clause-placed c = tokens_rise c.args.bytes.now 0 0 c.loop-place.tokens.items c.loop-place.end (omega arith) c.loop-place.invariant.tokens_are
