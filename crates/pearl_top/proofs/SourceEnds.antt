-- What is due at a source, from what was read of it and written.
use Rattle.std.proofs.Common.{◌≡◌, ◌≤◌, ℕ, List, [], Option, Err, length, refl, sym, subst, inl, inr}
use Rattle.pearl_io.specs.Outside.{TakesFront}
use Rattle.pearl_tree.specs.declared.token.Token.{Token}
use Rattle.pearl_tree.specs.declared.tree.Tree.{Tree}
use Rattle.pearl_tree.specs.ShownModules.{shown_tree}
use Rattle.pearl_lex.specs.declared.fault.LexFault.{LexFault}
use Rattle.pearl_lex.specs.declared.fault.LexFault.TheVariants as lex
use Rattle.pearl_lex.specs.Lexes.{Lexes}
use Rattle.pearl_lex.specs.Lexes as lexes
use Rattle.pearl_parse_expr.specs.declared.fault.ParseFault.{ParseFault}
use Rattle.pearl_parse_expr.specs.declared.fault.ParseFault.TheVariants as parse
use Rattle.pearl_parse.specs.Refusals.{IsRefused}
use Rattle.pearl_check.specs.declared.fault.CheckFault.{CheckFault}
use Rattle.pearl_check.specs.declared.fault.CheckFault.TheVariants as check
use Rattle.pearl_check.specs.Checks as checks
use Rattle.pearl_top.specs.declared.failure.Failure.{Failure}
use Rattle.pearl_top.specs.declared.failure.Failure.TheVariants as failure
use Rattle.pearl_top.specs.declared.limits.TheConstants.{SOURCE_LIMIT}
use Rattle.pearl_top.specs.declared.status.Status.TheVariants.{Done}
use Rattle.pearl_top.specs.CheckDue.{IsUnaccepted}
use Rattle.pearl_top.specs.CompileDue.{CompileDue, IsCompiled}
use Rattle.pearl_top.specs.Failures.{IsDue, check_refusal, lex_refusal, parse_refusal}
use Rattle.pearl_top.specs.Reading.{Sort, ASource, DueAt, DueAtSource}
use Rattle.pearl_top.specs.RunDue.{SourceDue}
use Rattle.pearl_top.specs.Sources.{IsTree, IsUnspelled, SyntaxDue}
use Rattle.pearl_top.specs.Taken.{Leaves}
use Rattle.pearl_top.proofs.FileLaws.{at_file_as}
use Rattle.pearl_top.proofs.TakenLaws.{append_nil, is_due_as, leaves_due, stops_short}

-- the source has no tokens
pub stuck : (source : List ℕ) (fault : LexFault) → length source ≤ SOURCE_LIMIT → lexes.IsRefusedAt source fault →
    IsDue (SyntaxDue source) (failure.Refused (lex_refusal fault))
stuck source (lex.Refused place) within is = record { within = within; place = place; fault = inl is; text = refl }
stuck source lex.NoMemory within is = refl

-- its tokens have no tree
pub stopped : (source : List ℕ) (tokens : List Token) (end : ℕ) (fault : ParseFault) → length source ≤ SOURCE_LIMIT → end ≡ length source →
    Lexes source tokens → IsRefused tokens end fault → IsDue (SyntaxDue source) (failure.Refused (parse_refusal fault))
stopped source tokens end (parse.Refused place) within ended lexes refused = record {
  within = within;
  place = place;
  fault = inr (record { tokens = tokens; lexes = lexes; refused = subst (λ n. IsRefused tokens n (parse.Refused place)) ended refused });
  text = refl;
}
stopped source tokens end parse.NoMemory within ended lexes refused = refl

-- a source that no tree spells is refused, whatever is asked of its module
pub unspelled : (source : List ℕ) (done refused : List ℕ → Type 0) (why : Failure) → ((bytes : List ℕ) → IsUnspelled source bytes → refused bytes) →
    IsDue (SyntaxDue source) why → IsDue (DueAtSource source done refused ⊥) why
unspelled source done refused why otherwise =
    is_due_as (SyntaxDue source) (DueAtSource source done refused ⊥) why
    (λ s bytes. at_file_as ASource source (λ b. ⊥) (IsUnspelled source) done refused ⊥ ⊥ s bytes (λ b h. absurd h) otherwise (λ h. h))

-- its tree breaks a rule
pub broken : (source : List ℕ) (done : List ℕ → Type 0) (fault : CheckFault) (tree : Tree) → IsTree source tree → checks.IsRefused (shown_tree tree) fault →
    IsDue (DueAtSource source done (IsUnaccepted source) ⊥) (failure.Refused (check_refusal fault))
broken source done (check.Refused fault) tree is refused = inr (record { tree = tree; is = is; fault = fault; is_first = refused; text = refl })
broken source done check.NoMemory tree is refused = refl

-- an unaccepted source is refused, whatever it is to become
pub uncompiled : (source : List ℕ) (why : Failure) → IsDue (SourceDue source ⊥) why → IsDue (CompileDue source ⊥) why
uncompiled source why =
    is_due_as (SourceDue source ⊥) (CompileDue source ⊥) why
    (λ s bytes. at_file_as ASource source (λ b. ⊥) (IsUnaccepted source) (IsCompiled source) (IsUnaccepted source) ⊥ ⊥ s bytes (λ b h. absurd h) (λ b h. h) (λ h. h))

-- a file that was read whole is refused before anything was written
pub refused_whole : (sort : Sort) (read file : List ℕ) (done refused : List ℕ → List ℕ → Type 0) (rose failed : Type 0) (old : Option (List ℕ)) (why : Failure) →
    read ≡ file → IsDue (DueAt sort read (done read) (refused read) ⊥) why → Leaves old old failed (DueAt sort file (done file) (refused file) rose) (Err why)
refused_whole sort read file done refused rose failed old why same is =
    leaves_due old failed (DueAt sort file (done file) (refused file) rose) why
    (is_due_as (DueAt sort file (done file) (refused file) ⊥) (DueAt sort file (done file) (refused file) rose) why
    (λ s bytes. at_file_as sort file (done file) (refused file) (done file) (refused file) ⊥ rose s bytes (λ b h. h) (λ b h. h) (λ h. absurd h))
    (subst (λ f. IsDue (DueAt sort f (done f) (refused f) ⊥) why) same is))

-- a front of what is due for it was taken
pub cut_whole : (sort : Sort) (file text : List ℕ) (done refused : List ℕ → Type 0) (rose failed : Type 0) (old new : Option (List ℕ)) → failed → done text →
    TakesFront old new text → Leaves old new failed (DueAt sort file done refused rose) (Err failure.WriteFault)
cut_whole sort file text done refused rose failed old new cause is front =
    (cause, stops_short old new (DueAt sort file done refused rose) Done text [] (subst done (sym (append_nil text)) is) front)
