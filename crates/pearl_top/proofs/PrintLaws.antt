-- A source that is printed: what is due for it is determined, and comes to its end where it is spelled.
use Rattle.std.proofs.Common.{◌≡◌, ◌⊎◌, ℕ, List, length, ap, sym, ◌∙◌, subst, inl, inr, arith}
use Rattle.pearl_tree.specs.declared.tree.Tree.{Tree}
use Rattle.pearl_tree.specs.Modules.{Spells}
use Rattle.pearl_tree.specs.Stops.{NoneBegins, IsFirstStop}
use Rattle.pearl_tree.proofs.Offered.{one_stop, stops_have_no_tree}
use Rattle.pearl_lex.specs.Lexes.{IsStuck}
use Rattle.pearl_lex.proofs.Offered.{lawful_tokens, one_reading, one_place, never_both}
use Rattle.pearl_parse.specs.Refusals.{place_or_end}
use Rattle.pearl_print.specs.Spelled.{text_of_tokens}
use Rattle.pearl_print.proofs.Offered.{source_has_one_text}
use Rattle.pearl_script.specs.declared.refusal.Refusal.TheVariants as refusal
use Rattle.pearl_script.specs.Refusals.{refusal_line}
use Rattle.pearl_top.specs.PrintDue.{IsPrinted}
use Rattle.pearl_top.specs.Sources.{HasStop, IsTree, IsUnspelled}
use Rattle.pearl_top.specs.Reading.{ASource}
use Rattle.pearl_top.proofs.FileLaws.{IsSettled}

-- a source has one text
pub printed_once : (source bytes others : List ℕ) → IsPrinted source bytes → IsPrinted source others → bytes ≡ others
printed_once source bytes others one two =
    let same : two.is.tokens ≡ one.is.tokens = one_reading source two.is.tokens one.is.tokens two.is.lexes one.is.lexes in
    one.text ∙ ap text_of_tokens (source_has_one_text one.is.tokens one.tree two.tree one.is.spells (subst (Spells two.tree) same two.is.spells)) ∙ sym two.text

-- a source that a tree spells is not refused
pub never_unspelled : (source bytes : List ℕ) (tree : Tree) → IsTree source tree → IsUnspelled source bytes → ⊥
never_unspelled source bytes tree is refused = by refused.fault
  where
    by : IsStuck source refused.place ⊎ HasStop source refused.place → ⊥
    by (inl stuck) = never_both source is.tokens refused.place is.lexes stuck
    by (inr stop) =
        stops_have_no_tree is.tokens stop.refused.token tree
        (subst (λ tokens. NoneBegins tokens stop.refused.token) (one_reading source stop.tokens is.tokens stop.lexes is.lexes) stop.refused.none)
        is.spells

-- a source is refused with one line
pub unspelled_once : (source bytes others : List ℕ) → IsUnspelled source bytes → IsUnspelled source others → bytes ≡ others
unspelled_once source bytes others one two =
    one.text ∙ ap (λ place. refusal_line (refusal.Syntax place)) (by one.fault two.fault) ∙ sym two.text
  where
    first : {place : ℕ} (stop : HasStop source place) → IsFirstStop stop.tokens stop.refused.token
    first stop = stop.refused.first (lawful_tokens source stop.tokens stop.lexes (omega (arith, one.within)))

    by : IsStuck source one.place ⊎ HasStop source one.place → IsStuck source two.place ⊎ HasStop source two.place → one.place ≡ two.place
    by (inl stuck) (inl also) = one_place source one.place two.place stuck also
    by (inl stuck) (inr stop) = absurd (never_both source stop.tokens one.place stop.lexes stuck)
    by (inr stop) (inl stuck) = absurd (never_both source stop.tokens two.place stop.lexes stuck)
    by (inr stop) (inr also) =
        let same : also.tokens ≡ stop.tokens = one_reading source also.tokens stop.tokens also.lexes stop.lexes in
        let token : stop.refused.token ≡ also.refused.token =
        one_stop stop.tokens stop.refused.token also.refused.token (first stop)
        (subst (λ tokens. IsFirstStop tokens also.refused.token) same (first also)) in
        stop.refused.stands ∙ (λ i. place_or_end (sym same i) (length source) (token i)) ∙ sym also.refused.stands

-- what is due is settled by the source
pub print_settled : (source : List ℕ) → IsSettled ASource source (IsPrinted source) (IsUnspelled source)
print_settled source = record {
  done_within = λ bytes printed. printed.is.within;
  refused_within = λ bytes refused. refused.within;
  never_both = λ bytes others printed. never_unspelled source others printed.tree printed.is;
  refused_once = unspelled_once source;
}
