use Rattle.std.proofs.Common.{ℕ, List, ◌≡◌, [], refl, subst, sym}
use Rattle.std.specs.Prelude.{OnErr, OnOk}
use Rattle.pearl_io.specs.Outside.{Takes, TakesFront}
use Rattle.pearl_instructions.specs.Setups.{setup_of}
use Rattle.pearl_machine.specs.Seen.{Seen}
use Rattle.pearl_top.specs.Followers.{TellsLast}
use Rattle.pearl_top.proofs.TakenLaws.{on_err, on_ok}
use Rattle.pearl_top.proofs.TranscriptLaws.{machine_closing}
use Rattle.pearl_top.proofs.resumed.ResumedFollower.finish.Goals as goal

pub returns-clause-ok : goal.returns-clause-ok
returns-clause-ok g c =
    let old = g.K.Sink.taken c.args.sink.now in
    let new = g.K.Sink.taken c.close.new.sink in
    subst (λ (s : Seen). OnOk c.close.result ((text : List ℕ) × TellsLast s text × Takes old new text)) c.self.view_is
    (on_ok c.close.result _ _ (λ taken. (
      machine_closing (setup_of c.self.inside.machine.object) c.close.new.self.state,
      record {
        last = c.close.new.self;
        handles = c.close.ensures.handles;
        settled = c.close.ensures.settled;
        lines = refl;
      },
      taken,
    )) c.close.ensures.ok)

pub returns-clause-err : goal.returns-clause-err
returns-clause-err g c =
    let old = g.K.Sink.taken c.args.sink.now in
    let new = g.K.Sink.taken c.close.new.sink in
    subst (λ (s : Seen). OnErr c.close.result ((text : List ℕ) × TellsLast s text × TakesFront old new text))
    c.self.view_is
    (on_err c.close.result _ _ (λ front. (
      machine_closing (setup_of c.self.inside.machine.object) c.close.new.self.state,
      record {
        last = c.close.new.self;
        handles = c.close.ensures.handles;
        settled = c.close.ensures.settled;
        lines = refl;
      },
      front,
    )) c.close.ensures.err)

pub close-requires : goal.close-requires
close-requires g c = record { taken = subst (λ (s : Seen). s.state.core.told ≡ []) (sym c.self.view_is) c.requires }

pub returns-clause-cause : goal.returns-clause-cause
returns-clause-cause g c = c.close.ensures.cause

pub returns-clause-later : goal.returns-clause-later
returns-clause-later g c = c.close.ensures.later
