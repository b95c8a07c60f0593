-- Own weights that are cut off: which procedures call themselves, and which weights are above the limit, stay the same.
use Rattle.std.proofs.Common.{◌≡◌, ℕ, zero, suc, ◌+◌, ◌<◌, max, Bool, true, false, not, ◌&&◌, ◌||◌, nat_lt, nat_eq, List, [], ◌∷◌, ◌++◌, Option, Some, None, option_map, length, map, filter_map, slice_get, refl, ap, sym, subst, ◌∙◌, arith, true≢false}
use Rattle.std.proofs.lemmas.Bool.Decides.{nat_tests}
use Rattle.std.proofs.lemmas.List.{length-map}
use Rattle.std.specs.List.{list_any, cons_option}
use Rattle.std.proofs.lemmas.Option.{slice_get-map}
use Rattle.pearl_calls.proofs.Offered.{by_case, cycles, inside}
use Rattle.pearl_check.proofs.AskedLists.{map-map}
use Rattle.pearl_tree.specs.declared.fault.RuleFault.{RuleFault}
use Rattle.pearl_tree.specs.Faults.{fault_if}
use Rattle.pearl_calls.specs.Callers.{Caller, callees}
use Rattle.pearl_calls.specs.Cycles.{reaches, calls_itself, CallsItself, SomeCallsItself}
use Rattle.pearl_calls.specs.Numberings.{is_ready, GetNext, IsNumbering}
use Rattle.pearl_calls.specs.Weights.{greatest, called, weight, whole_weight, capped}
use Rattle.pearl_names.specs.Counts.{cut}
use Rattle.pearl_check.specs.Calls.{Weighed, callers_of, cycles_from, s28}
use Rattle.pearl_check.specs.Weighing.{cut_caller, held_caller}

same_callees : (procedures : List Caller) (number : ℕ) → callees (map cut_caller procedures) number ≡ callees procedures number
same_callees [] number = refl
same_callees (caller ∷ rest) zero = refl
same_callees (caller ∷ rest) (suc number) = same_callees rest number

each_any : (f g : ℕ → Bool) → ((n : ℕ) → f n ≡ g n) → (numbers : List ℕ) → list_any f numbers ≡ list_any g numbers
each_any f g same [] = refl
each_any f g same (number ∷ rest) = λ i. same number i || each_any f g same rest i

same_reach : (steps : ℕ) (procedures : List Caller) (from to : ℕ) → reaches steps (map cut_caller procedures) from to ≡ reaches steps procedures from to
same_reach zero procedures from to = refl
same_reach (suc steps) procedures from to =
    ap (list_any (λ called. nat_eq to called || reaches steps (map cut_caller procedures) called to)) (same_callees procedures from)
    ∙ each_any _ _ (λ number. ap (λ b. nat_eq to number || b) (same_reach steps procedures number to)) (callees procedures from)

pub same_cycles : (procedures : List Caller) (number : ℕ) → calls_itself (map cut_caller procedures) number ≡ calls_itself procedures number
same_cycles procedures number =
    ap (λ steps. reaches steps (map cut_caller procedures) number number) (length-map procedures cut_caller)
    ∙ same_reach (length procedures) procedures number number

pub held_callers : (of : List Weighed) → map held_caller of ≡ map cut_caller (callers_of of)
held_callers [] = refl
held_callers (weighed ∷ rest) = ap (λ l. held_caller weighed ∷ l) (held_callers rest)

-- NUMBERS

same_ready : (procedures : List Caller) (numbered : List ℕ) (procedure : ℕ) →
    is_ready (map cut_caller procedures) numbered procedure ≡ is_ready procedures numbered procedure
same_ready procedures numbered procedure =
    (λ i. (nat_lt procedure (length-map procedures cut_caller i) && not (list_any (nat_eq procedure) numbered))
    && not (list_any (λ callee. nat_lt callee (length-map procedures cut_caller i) && not (list_any (nat_eq callee) numbered))
    (same_callees procedures procedure i)))

same_next : (procedures : List Caller) (numbered order : List ℕ) → GetNext (map cut_caller procedures) numbered order →
    GetNext procedures numbered order
same_next procedures numbered [] next = next
same_next procedures numbered (procedure ∷ order) (gets, next) = (
  record {
    ready = sym (same_ready procedures numbered procedure) ∙ gets.ready;
    first = λ other before. sym (same_ready procedures numbered other) ∙ gets.first other before;
  },
  same_next procedures (numbered ++ procedure ∷ []) order next,
)

pub same_numbering : (of : List Weighed) (order : List ℕ) → IsNumbering (map held_caller of) order → IsNumbering (callers_of of) order
same_numbering of order held =
    let cut_off = subst (λ l. IsNumbering l order) (held_callers of) held in
    record {
      by_rule = same_next (callers_of of) [] order cut_off.by_rule;
      whole = λ procedure below. cut_off.whole procedure (subst (λ n. procedure < n) (sym (length-map (callers_of of) cut_caller)) below);
    }

-- WEIGHTS

same_called : (procedures : List Caller) (numbers : List ℕ) →
    filter_map (slice_get (map cut_caller procedures)) numbers ≡ map cut_caller (filter_map (slice_get procedures) numbers)
same_called procedures [] = refl
same_called procedures (number ∷ rest) =
    (λ i. cons_option (slice_get-map cut_caller procedures number i) (same_called procedures rest i))
    ∙ consed (slice_get procedures number) (filter_map (slice_get procedures) rest)
  where
    consed : (found : Option Caller) (callers : List Caller) →
        cons_option (option_map cut_caller found) (map cut_caller callers) ≡ map cut_caller (cons_option found callers)
    consed None callers = refl
    consed (Some caller) callers = refl

cut_greatest : (f g : Caller → ℕ) → ((caller : Caller) → cut (f caller) ≡ cut (g caller)) → (callers : List Caller) →
    cut (greatest (map f callers)) ≡ cut (greatest (map g callers))
cut_greatest f g same [] = refl
cut_greatest f g same (caller ∷ rest) =
    let one = same caller in
    let others = cut_greatest f g same rest in
    both (f caller) (greatest (map f rest)) (g caller) (greatest (map g rest)) one others
  where
    both : (a b c d : ℕ) → cut a ≡ cut c → cut b ≡ cut d → cut (max a b) ≡ cut (max c d)
    both a b c d p q = omega arith

cut_weight : (depth : ℕ) (procedures : List Caller) (caller : Caller) →
    cut (weight depth (map cut_caller procedures) (cut_caller caller)) ≡ cut (weight depth procedures caller)
cut_weight zero procedures caller = omega arith
cut_weight (suc depth) procedures caller =
    let others : greatest (map (weight depth (map cut_caller procedures)) (called (map cut_caller procedures) (cut_caller caller))) ≡
    greatest (map (λ other. weight depth (map cut_caller procedures) (cut_caller other)) (called procedures caller)) =
    ap (λ callers. greatest (map (weight depth (map cut_caller procedures)) callers)) (same_called procedures caller.calls)
    ∙ ap greatest (map-map (weight depth (map cut_caller procedures)) cut_caller (called procedures caller)) in
    let same = cut_greatest (λ other. weight depth (map cut_caller procedures) (cut_caller other)) (weight depth procedures) (cut_weight depth procedures)
    (called procedures caller) in
    whole caller.own _ _ _ others same
  where
    whole : (own a b c : ℕ) → a ≡ b → cut b ≡ cut c → cut (cut own + a) ≡ cut (own + c)
    whole own a b c p q = omega arith

-- a weight is above the limit, or not, by what is told of cut-off weights
pub heavy : (procedures : List Caller) (caller : Caller) (told : ℕ) →
    told ≡ capped (whole_weight (map cut_caller procedures) (cut_caller caller)) → nat_lt 4096 told ≡ nat_lt 4096 (whole_weight procedures caller)
heavy procedures caller told is =
    let same : cut (whole_weight (map cut_caller procedures) (cut_caller caller)) ≡ cut (whole_weight procedures caller) =
    ap (λ depth. cut (weight depth (map cut_caller procedures) (cut_caller caller))) (length-map procedures cut_caller)
    ∙ cut_weight (length procedures) procedures caller in
    tested _ _ told is same
  where
    tested : (a b told : ℕ) → told ≡ capped a → cut a ≡ cut b → nat_lt 4096 told ≡ nat_lt 4096 b
    tested a b told p q = grind (arith, nat_tests)

-- CYCLES

all_quiet : (all : List Caller) (start : ℕ) (left : List Weighed) → ((number : ℕ) → calls_itself all number ≡ false) → cycles_from start all left ≡ []
all_quiet all start [] quiet = refl
all_quiet all start (weighed ∷ rest) quiet =
    λ i. fault_if (quiet start i) weighed.name.place 28 ++ all_quiet all (start + 1) rest quiet i

-- none calls itself
pub none_told : (of : List Weighed) → (SomeCallsItself (map held_caller of) → ⊥) → s28 of ≡ []
none_told of none = all_quiet (callers_of of) 0 of quiet
  where
    quiet : (number : ℕ) → calls_itself (callers_of of) number ≡ false
    quiet number = by_case _ (calls_itself (callers_of of) number)
        (λ does. absurd (none (subst SomeCallsItself (sym (held_callers of))
        (number, (cycles (map cut_caller (callers_of of)) number).0 (same_cycles (callers_of of) number ∙ does)))))
        (λ does_not. does_not)

not_told : (b : Bool) (place rule : ℕ) (rest : List RuleFault) → fault_if b place rule ++ rest ≡ [] → (b ≡ false) × (rest ≡ [])
not_told true place rule rest h = absurd (cc)
not_told false place rule rest h = (refl, h)

no_cycle : (all : List Caller) (left : List Weighed) (start i : ℕ) → cycles_from start all left ≡ [] → i < length left → calls_itself all (start + i) ≡ false
no_cycle all [] start i h less = absurd (omega (arith, less))
no_cycle all (weighed ∷ rest) start zero h less =
    let quiet = not_told (calls_itself all start) weighed.name.place 28 (cycles_from (start + 1) all rest) h in
    let e : start + zero ≡ start = omega arith in
    subst (λ n. calls_itself all n ≡ false) (sym e) quiet.0
no_cycle all (weighed ∷ rest) start (suc i) h less =
    let quiet = not_told (calls_itself all start) weighed.name.place 28 (cycles_from (start + 1) all rest) h in
    let e : (start + 1) + i ≡ start + suc i = omega arith in
    subst (λ n. calls_itself all n ≡ false) e (no_cycle all rest (start + 1) i quiet.1 (omega (arith, less)))

begins_inside : (procedures : List Caller) (number : ℕ) → CallsItself procedures number → number < length procedures
begins_inside procedures number ([], way) = inside procedures number number way
begins_inside procedures number (next ∷ through, way) = inside procedures number next way.0

-- where one calls itself, S28 is broken
pub some_told : (of : List Weighed) → SomeCallsItself (map held_caller of) → s28 of ≡ [] → ⊥
some_told of some quiet =
    let all = callers_of of in
    let held = subst SomeCallsItself (held_callers of) some in
    let within : held.0 < length of =
    let a = begins_inside (map cut_caller all) held.0 held.1 in
    let b = length-map all cut_caller in let c = length-map of (λ (weighed : Weighed). weighed.caller) in omega (arith, a, b, c) in
    let e : 0 + held.0 ≡ held.0 = omega arith in
    true≢false (sym ((cycles (map cut_caller all) held.0).1 held.1) ∙ same_cycles all held.0 ∙ subst (λ n. calls_itself all n ≡ false) e (no_cycle all of 0 held.0 quiet within))
