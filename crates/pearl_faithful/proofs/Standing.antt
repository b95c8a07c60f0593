-- Where the code of a task stands after the answers that it had, and that it offers there what the task does next.
use Rattle.std.proofs.Common.{◌≡◌, ◌⊎◌, inl, inr, ℕ, ◌<◌, List, [], ◌∷◌, ◌++◌, Some, length, map, slice_get, sym, ap, subst, append_assoc, append-nil, arith}
use Rattle.std.proofs.lemmas.List.{length-map}
use Rattle.std.proofs.lemmas.Option.{slice_get-get_or}
use Rattle.pearl_rules.specs.declared.action.Action.{Action}
use Rattle.pearl_rules.specs.declared.action.Answer.{Answer}
use Rattle.pearl_rules.specs.Runs as runs
use Rattle.pearl_rules.specs.Slots as rules
use Rattle.pearl_stack.specs.Frames.{Frame}
use Rattle.pearl_program.specs.PlainPrograms.{PlainProg}
use Rattle.pearl_program.specs.Sound.{IsSound}
use Rattle.pearl_instructions.specs.declared.object.Parts.{Parts as Object}
use Rattle.pearl_instructions.specs.Lawful.{IsObject}
use Rattle.pearl_instructions.specs.Rows.{row, after}
use Rattle.pearl_instructions.specs.Steps.{Silent, Offers, Missing}
use Rattle.pearl_instructions.specs.Valid.{IsValid}
use Rattle.pearl_meaning.specs.Programs.{offer}
use Rattle.pearl_meaning.specs.ProgramRuns as program
use Rattle.pearl_meaning.specs.Hearing.{Suits, Heard}
use Rattle.pearl_instructions.specs.Setups.{entry_of, setup_of}
use Rattle.pearl_instructions.specs.Engines.{engine}
use Rattle.pearl_instructions.specs.RunLaws.{Begins, GoesOn, GoesOnAfter, HearsWhatSuits, OffersWhatIsThere, FitsTables, OffersSoon}
use Rattle.pearl_instructions.proofs.Offered.{silent_is, offers_is}
use Rattle.pearl_gen_stmt.specs.Generated.{IsGenerated}
use Rattle.pearl_gen_stmt.specs.Offering.{OffersAfter, TasksOffer}
use Rattle.pearl_faithful.specs.Standing.{Stands}
use Rattle.pearl_faithful.specs.Laws.{TasksStand, TasksOfferSoon}
use Rattle.pearl_faithful.proofs.Offering.{offers_next, offers_now, offers_behind, offers_somewhere}
use Rattle.pearl_faithful.proofs.Answers.{suits, heard_more}

there_is : {X : Type 0} (xs : List X) (n : ℕ) → n < length xs → (x : X) × (slice_get xs n ≡ Some x)
there_is [] n less = absurd (omega (arith, less))
there_is (x ∷ xs) n less = let found = slice_get-get_or (x ∷ xs) n x less in (_, found)

module _ (p : PlainProg) (o : Object) (sound : IsSound p) (generated : IsGenerated p o) (lawful : IsObject o) (valid : IsValid o) where
  begins : TasksOffer → Begins → (t : ℕ) → t < length (map entry_of o.tasks) → Stands p o t [] ((engine o).begin t)
  begins law begin t less =
      let same = ap length generated.tables.tasks in
      let long = length-map p.tasks program.entry_of in
      let task = there_is p.tasks t (omega (arith, less, same, long)) in
      record { own = begin o t valid lawful; can = tt; offers = λ more heard. law p o sound generated valid lawful t task.0 task.1 more heard }

  goes : GoesOn → (t : ℕ) (heard : List Answer) (frames next : List Frame) → Stands p o t heard frames →
      (engine o).step t frames ≡ runs.Silent next → Stands p o t heard next
  goes law t heard frames next stands e = record {
    own = law o t frames next valid lawful stands.own e;
    can = stands.can;
    offers = λ more can. by (heard ++ more) more (stands.offers more can) (silent_is (row o frames) next e);
  }
    where
      by : (all more : List Answer) → OffersAfter o frames more (offer p t all) → (row o frames ≡ Silent next) ⊎ ((row o frames ≡ Missing) × (next ≡ [])) →
          OffersAfter o next more (offer p t all)
      by all more comes (inl same) = offers_next o frames next more (offer p t all) same comes
      by all more comes (inr none) = absurd (offers_somewhere o frames more (offer p t all) none.0 comes)

  -- the row at which an action is offered, which is what the task does next
  record Offering (t : ℕ) (heard : List Answer) (frames : List Frame) (action : Action) : Type 0 where
    go : Answer → List Frame
    here : row o frames ≡ Offers action go
    meant : action ≡ offer p t heard

  offering : (t : ℕ) (heard : List Answer) (frames : List Frame) (action : Action) → Stands p o t heard frames →
      (engine o).step t frames ≡ runs.Offers action → Offering t heard frames action
  offering t heard frames action stands e =
      let found = offers_is (row o frames) action e in
      let now : OffersAfter o frames [] (offer p t heard) = subst (λ answers. OffersAfter o frames [] (offer p t answers)) (append-nil heard)
      (stands.offers [] (subst (λ answers. Heard p t answers) (sym (append-nil heard)) stands.can)) in
      record { go = found.0; here = found.1; meant = offers_now o frames action found.0 (offer p t heard) found.1 now }

  answered : GoesOnAfter → OffersWhatIsThere → HearsWhatSuits → (t : ℕ) (heard : List Answer) (frames : List Frame) (action : Action) (answer : Answer) →
      Stands p o t heard frames → (engine o).step t frames ≡ runs.Offers action → rules.Suits (setup_of o) t action answer →
      Stands p o t (heard ++ answer ∷ []) ((engine o).answer t frames answer)
  answered goes_on names hears t heard frames action answer stands e suit =
      let at = offering t heard frames action stands e in
      let fit = hears o t action answer lawful (names o t frames action valid lawful stands.own e) suit in
      record {
        own = goes_on o t frames action answer valid lawful stands.own e fit;
        can = heard_more p t [] heard answer stands.can (subst (λ action. Suits p t action answer) at.meant (suits p o generated.tables t action answer fit));
        offers = λ more can.
            subst (λ step. OffersAfter o (after step answer) more (offer p t ((heard ++ answer ∷ []) ++ more))) (sym at.here)
            (subst (λ answers. OffersAfter o (at.go answer) more (offer p t answers)) (sym (append_assoc heard (answer ∷ []) more))
            (offers_behind o frames action at.go answer more (offer p t (heard ++ (answer ∷ more))) at.here
            (stands.offers (answer ∷ more) (subst (λ answers. Heard p t answers) (append_assoc heard (answer ∷ []) more) can))));
      }

pub tasks_stand : TasksOffer → Begins → GoesOn → GoesOnAfter → OffersWhatIsThere → HearsWhatSuits → FitsTables → TasksStand
tasks_stand law begin goes_on goes_on_after names hears fit p o sound generated lawful valid = record {
  begins = begins p o sound generated lawful valid law begin;
  goes = goes p o sound generated lawful valid goes_on;
  offers = λ t heard frames action stands e. (offering p o sound generated lawful valid t heard frames action stands e).meant;
  fits = λ t heard frames action stands e. fit o t frames action valid lawful stands.own e;
  answered = answered p o sound generated lawful valid goes_on_after names hears;
}

pub tasks_offer_soon : OffersSoon → TasksOfferSoon
tasks_offer_soon law p o sound generated lawful valid = let soon = law o valid lawful in record {
  bounded = λ t heard frames less stands. soon.bounded t heard frames less stands.own;
  falls = λ t heard frames next less stands e. soon.falls t heard frames next less stands.own e;
}
