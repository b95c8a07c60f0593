use Rattle.std.proofs.Common.{◌≡◌, subst}
use Rattle.std.specs.Prelude.{IfSome}
use Rattle.pearl_scan.specs.Progress.{line_ends}
use Rattle.pearl_scan.proofs.Going.{fewer_ends, front_ends}
use Rattle.pearl_scan.proofs.progress.ends_before.Goals as goal

pub overflow_sub-result : goal.overflow_sub-result
overflow_sub-result c =
    let told = subst (λ o. IfSome o (λ n. n ≡ line_ends c.args.bytes.now)) c.in-Some.is c.requires.lines in
    fewer_ends c.args.bytes.now c.args.used c.in-Some.lines c.line_ends.result told c.line_ends.ensures

pub returns-in-Some : goal.returns-in-Some
returns-in-Some c =
    let told = subst (λ o. IfSome o (λ n. n ≡ line_ends c.args.bytes.now)) c.in-Some.is c.requires.lines in
    front_ends c.args.bytes.now c.args.used c.in-Some.lines c.line_ends.result told c.line_ends.ensures
