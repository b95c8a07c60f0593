-- What a source holds, and what an object's file holds.
use Rattle.std.proofs.Common.{ℕ, List}
use Rattle.pearl_program.specs.PlainPrograms.{PlainProg}
use Rattle.pearl_top.specs.CheckDue.{IsUnaccepted}
use Rattle.pearl_top.specs.CompileDue.{IsCompiled}
use Rattle.pearl_top.specs.Laws.{ValidObjectsRun}
use Rattle.pearl_top.specs.ObjectDue.{IsCodeOf, IsRefused}
use Rattle.pearl_top.specs.Reading.{ASource, AnObject}
use Rattle.pearl_top.specs.RunDue.{IsSource}
use Rattle.pearl_top.specs.Runners.{by_code, by_rules}
use Rattle.pearl_top.proofs.CheckLaws.{never_unaccepted, unaccepted_once, unaccepted_within}
use Rattle.pearl_top.proofs.CodeRuns.{code_once}
use Rattle.pearl_top.proofs.FileLaws.{IsSettled}
use Rattle.pearl_top.proofs.FromLaws.{IsLoaded}
use Rattle.pearl_top.proofs.ObjectLaws.{never_refused, one_code, refused_once, refused_within}
use Rattle.pearl_top.proofs.OneProgram.{one_meaning, transcript_once}

-- an accepted source is not refused
pub not_refused : (source bytes : List ℕ) (p : PlainProg) → IsSource source p → IsUnaccepted source bytes → ⊥
not_refused source bytes p is_source unaccepted = never_unaccepted source bytes is_source.is unaccepted

pub source_loaded : (source : List ℕ) → IsLoaded ASource source (IsUnaccepted source) (IsSource source) by_rules
source_loaded source = record {
  within = λ p is. is.is.is.within;
  refused_within = unaccepted_within source;
  never_both = λ p bytes is. not_refused source bytes p is;
  refused_once = unaccepted_once source;
  one = one_meaning source;
  writes_once = λ p is lines es ending read close bytes others. transcript_once p es close bytes others;
}

pub object_loaded : ValidObjectsRun → (file : List ℕ) → IsLoaded AnObject file (IsRefused file) (IsCodeOf file) by_code
object_loaded run file = record {
  within = λ o code. code.is.within;
  refused_within = refused_within file;
  never_both = λ o bytes code. never_refused file bytes o code;
  refused_once = refused_once file;
  one = one_code file;
  writes_once = λ o code. code_once o (run o code.valid code.is.lawful);
}

pub compile_settled : (source : List ℕ) → IsSettled ASource source (IsCompiled source) (IsUnaccepted source)
compile_settled source = record {
  done_within = λ bytes made. made.is.is_source.is.is.within;
  refused_within = unaccepted_within source;
  never_both = λ bytes others made. not_refused source others made.is.p made.is.is_source;
  refused_once = unaccepted_once source;
}
