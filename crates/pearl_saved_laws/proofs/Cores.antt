-- Each core of a run can be recorded, up to the last moment that there is.
use Rattle.std.proofs.Common.{◌≡◌, ℕ, ◌+◌, ◌<◌, ◌≤◌, List, IsTrue, length, ap, subst, arith}
use Rattle.pearl_rules.specs.declared.action.Action.{Action}
use Rattle.pearl_rules.specs.declared.entry.Entry.{Entry}
use Rattle.pearl_rules.specs.declared.setup.Setup.{Setup}
use Rattle.pearl_rules.specs.Core.{Core, Report, is_active, opening}
use Rattle.pearl_rules.specs.Devices.{arrived}
use Rattle.pearl_rules.specs.Effect.{effect}
use Rattle.pearl_rules.specs.Entries.{last_moment_of_all, IsFitting}
use Rattle.pearl_rules.specs.Pick.{Offered, turned}
use Rattle.pearl_rules.specs.Plans.{millisecond}
use Rattle.pearl_rules.specs.Slots.{Fits}
use Rattle.pearl_rules.specs.Tables.{IsSetup}
use Rattle.pearl_rules.proofs.Offered.{turned-is}
use Rattle.pearl_records.specs.Records.{IsRecordable}
use Rattle.pearl_saved_laws.proofs.Sound.{Keeps}

-- what is known of cores that can be recorded
pub record StayRecordable : Type 0 where
  pub opens : (setup : Setup) → IsSetup setup → IsRecordable setup (opening setup)
  pub acts : (setup : Setup) (core : Core) (own : ℕ) (action : Action) → own < length core.tasks →
      IsTrue (is_active core own) →
      Fits setup action → IsRecordable setup core → IsRecordable setup (effect core own action).core
  pub turns : (setup : Setup) (core : Core) (offers : Offered) (t : ℕ) → IsRecordable setup core →
      IsRecordable setup (turned core offers t)
  pub passes : (setup : Setup) (core : Core) → core.moment + 1 ≤ last_moment_of_all → IsRecordable setup core →
      IsRecordable setup (millisecond core)
  pub arrives : (setup : Setup) (core : Core) (entry : Entry) → IsFitting setup entry → IsRecordable setup core →
      IsRecordable setup (arrived core entry)

-- what is known of moments
pub record TimePasses : Type 0 where
  pub acts : (core : Core) (own : ℕ) (action : Action) → (effect core own action).core.moment ≡ core.moment
  pub passes : (core : Core) → (millisecond core).moment ≡ core.moment + 1
  pub arrives : (core : Core) (entry : Entry) → (arrived core entry).moment ≡ core.moment

abbrev pub IsNear : ℕ → Type 0
IsNear moment = moment ≤ last_moment_of_all

-- a core can be recorded, if its moment is one that there is
abbrev pub UpToLast : Setup → Core → Type 0
UpToLast setup core = IsNear core.moment → IsRecordable setup core

retold : (setup : Setup) (core : Core) (told : List (ℕ × Report)) → IsRecordable setup core →
    IsRecordable setup (record core { told = told })
retold setup core told is = record {
  kinds = record { slots = is.kinds.slots; channels = is.kinds.channels; formats = is.kinds.formats };
  counts = record { as_many = is.counts.as_many; small = is.counts.small };
  declared = is.declared;
  urgent = is.urgent;
  times = record {
    moment = is.times.moment;
    lawful = record { plans = is.times.lawful.plans; clock = is.times.lawful.clock };
    rows = is.times.rows;
  };
  last = is.last;
}

pub recordable_kept : StayRecordable → TimePasses → (setup : Setup) → Keeps setup (UpToLast setup)
recordable_kept stay time setup = record {
  acts = λ core own action there active fits is near.
      stay.acts setup core own action there active fits (is (subst IsNear (time.acts core own action) near));
  turns = λ core offers t is near.
      stay.turns setup core offers t (is (subst IsNear (ap (λ (c : Core). c.moment) (turned-is core offers t)) near));
  tells = λ core told is near. retold setup core told (is near);
  passes = λ core is near.
      let next : core.moment + 1 ≤ last_moment_of_all = subst IsNear (time.passes core) near in
      stay.passes setup core next (is (omega (arith, next)));
  arrives = λ core entry fits is near.
      stay.arrives setup core entry fits (is (subst IsNear (time.arrives core entry) near));
}
