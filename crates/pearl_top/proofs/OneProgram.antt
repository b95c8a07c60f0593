-- A source means one program, and writes one thing.
use Rattle.std.proofs.Common.{◌≡◌, ℕ, zero, suc, ◌<◌, List, [], ◌∷◌, ◌++◌, false, Some, length, refl, ap, ap₂, sym, ◌∙◌, subst, slice_get, nat_eq, true≢false}
use Rattle.std.specs.List.{IsDistinct}
use Rattle.std.proofs.lemmas.Bool.{eq-eqb}
use Rattle.std.proofs.lemmas.List.{ext_get_or}
use Rattle.std.proofs.lemmas.Option.{get_or_from_slice_get}
use Rattle.pearl_calls.specs.Callers.{Caller}
use Rattle.pearl_calls.specs.Numberings.{IsNumbering}
use Rattle.pearl_calls.specs.Numbers.{AreNumbers}
use Rattle.pearl_calls.proofs.Offered.{agrees}
use Rattle.pearl_tree.specs.ShownModules.{ShownTree, shown_tree}
use Rattle.pearl_names.specs.Tables.{table_of}
use Rattle.pearl_system.specs.Devices.{device_key, IsDevice}
use Rattle.pearl_system.proofs.Offered.{lists_once}
use Rattle.pearl_check.specs.Checks.{module_callers}
use Rattle.pearl_rules.specs.declared.entry.Entry.{Entry}
use Rattle.pearl_rules.specs.Runs.{Source, source_offers}
use Rattle.pearl_rules.proofs.Offered.{one_end}
use Rattle.pearl_program.specs.PlainPrograms.{PlainProg}
use Rattle.pearl_resolve.specs.Resolve.{resolve}
use Rattle.pearl_sound_sizes.proofs.Offered.{all_at, some_one, something, placed, numbers_whole, order_differs}
use Rattle.pearl_top.specs.Programs.{IsProgramOf}
use Rattle.pearl_meaning.specs.Programs.{offer}
use Rattle.pearl_meaning.specs.ProgramRuns.{setup_of}
use Rattle.pearl_script.specs.Lines.{lines_of}
use Rattle.pearl_top.specs.Laws.{HasOneMeaning, HasOneTranscript}
use Rattle.pearl_top.specs.Runners.{RulesEnd, by_rules}
use Rattle.pearl_top.specs.Transcript.{Close, Ended, closing, ended_of}
use Rattle.pearl_top.proofs.CheckLaws.{shown_once}

-- THE SAME NUMBERS

-- a list of different numbers has each at one place
one_place : (xs : List ℕ) (i j x : ℕ) → IsDistinct nat_eq xs → slice_get xs i ≡ Some x → slice_get xs j ≡ Some x → i ≡ j
unfolding IsDistinct
one_place [] i j x distinct here there = cc
one_place (y ∷ xs) zero zero x distinct here there = refl
one_place (y ∷ xs) zero (suc j) x distinct here there =
    absurd (true≢false (sym (eq-eqb y x (some_one here)) ∙ all_at (λ z. nat_eq y z ≡ false) xs j x distinct.0 there))
one_place (y ∷ xs) (suc i) zero x distinct here there =
    absurd (true≢false (sym (eq-eqb y x (some_one there)) ∙ all_at (λ z. nat_eq y z ≡ false) xs i x distinct.0 here))
one_place (y ∷ xs) (suc i) (suc j) x distinct here there = ap suc (one_place xs i j x distinct.1 here there)

-- procedures have one list of numbers
numbers_agree : (callers : List Caller) (order numbers others : List ℕ) → IsNumbering callers order → AreNumbers order numbers → AreNumbers order others →
    numbers ≡ others
numbers_agree callers order numbers others numbering are also =
    let long : length numbers ≡ length others =
    numbers_whole callers order numbers numbering are ∙ sym (numbers_whole callers order others numbering also) in
    ext_get_or 0 numbers others long (λ i less.
    let one = something numbers i less in
    let two = something others i (subst (λ n. i < n) long less) in
    get_or_from_slice_get numbers i one.thing 0 one.is
    ∙ one_place order one.thing two.thing i (order_differs callers order numbering) (placed callers order numbers numbering are i one.thing one.is)
    (placed callers order others numbering also i two.thing two.is)
    ∙ sym (get_or_from_slice_get others i two.thing 0 two.is))

-- THE SAME PROGRAM

one_program : (tree : ShownTree) (p q : PlainProg) → IsProgramOf tree p → IsProgramOf tree q → p ≡ q
one_program tree p q is its =
    let order : is.order ≡ its.order = agrees (module_callers tree) is.order its.order is.by_rule its.by_rule in
    let numbers : is.numbers ≡ its.numbers =
    numbers_agree (module_callers tree) its.order is.numbers its.numbers its.by_rule (subst (λ o. AreNumbers o is.numbers) order is.numbered) its.numbered in
    let devices : is.devices ≡ its.devices = lists_once device_key (IsDevice tree) is.devices its.devices is.specified its.specified in
    is.is ∙ ap₂ (λ d n. resolve (table_of tree) d n tree) devices numbers ∙ sym its.is

pub one_meaning : HasOneMeaning
one_meaning source p q is_source also =
    one_program (shown_tree also.is.tree) p q
    (subst (λ tree. IsProgramOf tree p) (shown_once source is_source.is.tree also.is.tree is_source.is.is also.is.is) is_source.program) also.program

-- THE SAME RUN

ends_once : (p : PlainProg) (es : List Entry) (end other : Ended) → RulesEnd p es end → RulesEnd p es other → end ≡ other
ends_once p es end other one two =
    one.is
    ∙ ap (λ (s : Source). ended_of s.core (source_offers (offer p) s)) (one_end (offer p) (setup_of p) es one.marks two.marks one.no_mark two.no_mark)
    ∙ sym two.is

-- a program writes one thing
pub transcript_once : (p : PlainProg) (es : List Entry) (close : Close) (bytes others : List ℕ) →
    (by_rules p).writes es close bytes → (by_rules p).writes es close others → bytes ≡ others
transcript_once p es close bytes others is its =
    is.text
    ∙ ap (λ (end : Ended). lines_of (setup_of p) end.told ++ closing (setup_of p) end close) (ends_once p es is.end its.end is.ends its.ends)
    ∙ sym its.text

pub one_transcript : HasOneTranscript
one_transcript source p q is_source also es close bytes others one two =
    transcript_once p es close bytes others one
    (subst (λ r. (by_rules r).writes es close others) (sym (one_meaning source p q is_source also)) two)
