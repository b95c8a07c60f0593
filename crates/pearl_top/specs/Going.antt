-- What goes over the entries of a journal and writes what comes of them: how contracts see it, and which laws it keeps.
use Rattle.std.specs.Prelude.{◌≡◌, ℕ, List, [], ◌++◌}
use Rattle.pearl_rules.specs.declared.entry.Entry.{Entry}
use Rattle.pearl_rules.specs.declared.setup.Setup.{Setup}
use Rattle.pearl_rules.specs.Entries.{AreFitting}
use Rattle.pearl_script.specs.declared.refusal.Refusal.{Refusal}
use Rattle.pearl_script.specs.Refusals.{refusal_line}
use Rattle.pearl_top.specs.Runners.{Runner}
use Rattle.pearl_top.specs.Transcript.{Close, Closed, Cut}

-- what is seen of such a one
pub record Going (X : Type 0) : Type 1 where
  -- the tables by which the journal is read, and the moment
  pub tables : X → Setup
  pub moment : X → ℕ
  -- an entry may come
  pub rests : X → Type 0
  -- it goes over these entries up to those that are left, and this is what is to be written of that
  pub writes : X → (from left : List Entry) → X → List ℕ → Type 0
  -- no entry came yet, and nothing was written
  pub starts : X → Type 0
  -- what is to be written first
  pub opening : X → List ℕ
  -- what is to be written last, where no entry is left
  pub closes : X → List ℕ → Type 0
  -- whose run it is
  pub runner : X → Runner

-- it goes over one part of the entries after another, by the same tables
pub record GoesInTurn {X : Type 0} (g : Going X) : Type 0 where
  pub nothing : (a : X) (from : List Entry) → g.writes a from from a []
  pub behind : (a b : X) (from left more : List Entry) (text : List ℕ) → g.writes a from left b text → g.writes a (from ++ more) (left ++ more) b text
  pub in_turn : (a b c : X) (from mid left : List Entry) (text more : List ℕ) → g.writes a from mid b text → g.writes b mid left c more →
      g.writes a from left c (text ++ more)
  pub same_tables : (a b : X) (from left : List Entry) (text : List ℕ) → g.writes a from left b text → g.tables b ≡ g.tables a

-- What it writes from its start on is what is to be written of its run: with the line of a refusal behind it, with what is to be
-- written last, or with something behind it, where it stands on the way.
pub record WritesItsRun {X : Type 0} (g : Going X) : Type 0 where
  pub cut : (a b : X) (es : List Entry) (text : List ℕ) (why : Refusal) → g.starts a → AreFitting (g.runner a).setup es → g.writes a es [] b text → g.rests b →
      (g.runner a).writes es (Cut why) (g.opening a ++ (text ++ refusal_line why))
  pub closed : (a b : X) (es : List Entry) (text last : List ℕ) → g.starts a → AreFitting (g.runner a).setup es → g.writes a es [] b text → g.rests b → g.closes b last →
      (g.runner a).writes es Closed (g.opening a ++ (text ++ last))
  pub front : (a b : X) (es left : List Entry) (text : List ℕ) (close : Close) → g.starts a → AreFitting (g.runner a).setup es → g.writes a es left b text →
      (rest : List ℕ) × (g.runner a).writes es close (g.opening a ++ (text ++ rest))
  pub by_tables : (a : X) → g.starts a → (g.runner a).setup ≡ g.tables a
