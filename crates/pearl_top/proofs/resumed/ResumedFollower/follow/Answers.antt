use Rattle.std.proofs.Common.{ℕ, List, ◌≡◌, [], ◌∷◌, refl, subst, sym}
use Rattle.std.specs.Prelude.{OnErr, OnOk}
use Rattle.pearl_io.specs.Outside.{Takes, TakesFront}
use Rattle.pearl_rules.specs.declared.entry.Entry.{Entry}
use Rattle.pearl_rules.specs.Entries.{EntryFits, moment_after}
use Rattle.pearl_instructions.specs.Setups.{setup_of}
use Rattle.pearl_machine.specs.Seen.{Seen}
use Rattle.pearl_script.specs.Lines.{lines_of}
use Rattle.pearl_top.specs.Followers.{Tells}
use Rattle.pearl_top.proofs.MachineRuns.{cut_off}
use Rattle.pearl_top.proofs.TakenLaws.{on_err, on_ok}
use Rattle.pearl_top.proofs.resumed.ResumedFollower.follow.Goals as goal

pub returns-clause-ok : goal.returns-clause-ok
returns-clause-ok g c =
    let old = g.K.Sink.taken c.args.sink.now in
    let new = g.K.Sink.taken c.entry.new.sink in
    subst (λ (s : Seen). OnOk c.entry.result ((text : List ℕ) × Tells s (c.args.entry ∷ []) [] c.entry.new.self text
    × Takes old new text)) c.self.view_is
    (on_ok c.entry.result _ _ (λ done. (
      lines_of (setup_of c.self.inside.machine.object) done.0,
      record { told = done.0; object = c.entry.ensures.object; handles = done.1; lines = refl },
      done.2,
    )) c.entry.ensures.ok)

pub returns-clause-err : goal.returns-clause-err
returns-clause-err g c =
    let old = g.K.Sink.taken c.args.sink.now in
    let new = g.K.Sink.taken c.entry.new.sink in
    subst (λ (s : Seen). OnErr c.entry.result ((text : List ℕ) × (left : List Entry) ×
    Tells s (c.args.entry ∷ []) left c.entry.new.self text
    × TakesFront old new text)) c.self.view_is
    (on_err c.entry.result _ _ (λ cut. (
      lines_of (setup_of c.self.inside.machine.object) cut.0,
      cut.1,
      record { told = cut.0; object = c.entry.ensures.object; handles = cut.2; lines = refl },
      cut_off _ _ _ _ _ cut.3,
    )) c.entry.ensures.err)

pub entry-requires-clause-taken : goal.entry-requires-clause-taken
entry-requires-clause-taken g c = subst (λ (s : Seen). s.state.core.told ≡ []) (sym c.self.view_is) c.requires.rests

pub entry-requires-clause-fits : goal.entry-requires-clause-fits
entry-requires-clause-fits g c =
    subst (λ (s : Seen). EntryFits (setup_of s.object) s.state.core.moment c.args.entry) (sym c.self.view_is)
    c.requires.fits

pub returns-clause-rests : goal.returns-clause-rests
returns-clause-rests g c = c.entry.ensures.all

pub returns-clause-moment : goal.returns-clause-moment
returns-clause-moment g c =
    subst (λ (s : Seen). OnOk c.entry.result
    (c.entry.new.self.state.core.moment ≡ moment_after s.state.core.moment c.args.entry)) c.self.view_is
    c.entry.ensures.moment

pub returns-clause-cause : goal.returns-clause-cause
returns-clause-cause g c = c.entry.ensures.cause

pub returns-clause-later : goal.returns-clause-later
returns-clause-later g c = c.entry.ensures.later
