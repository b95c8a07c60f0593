-- Part behind part: the code of statements with statements within them, once their jumps have got their places.
use Rattle.std.proofs.Common.{◌≡◌, ◌≢◌, ℕ, ◌+◌, ◌<◌, ◌≤◌, Bool, true, List, [], ◌∷◌, ◌++◌, length, drop, get_or, Option, Some, None, slice_get, refl, sym, ◌∙◌, subst, arith}
use Rattle.std.specs.Prelude.{Contains}
use Rattle.std.proofs.Math.ListN.{drop_of_length-le}
use Rattle.std.proofs.lemmas.List.{append-nil, append_assoc}
use Rattle.pearl_value.specs.declared.trap.Trap.TheVariants.{Index, Range}
use Rattle.pearl_program.specs.declared.statement.Stmt.{Stmt}
use Rattle.pearl_program.specs.declared.statement.Branch.{Branch}
use Rattle.pearl_program.specs.PlainExpressions.{PlainExpr}
use Rattle.pearl_program.specs.PlainStatements.{PlainCounter, OfIf, OfCase, OfRepeat, OfExit, PlainStmts, NoStmts, PlainBranches, plain_stmt, plain_stmts, plain_branches}
use Rattle.pearl_meaning.specs.Setting.{Setting}
use Rattle.pearl_instructions.specs.declared.instr.Instr.{Instr}
use Rattle.pearl_instructions.specs.declared.instr.Instr.TheVariants as instr
use Rattle.pearl_gen_expr.specs.ExprCode.{Is}
use Rattle.pearl_gen_expr.specs.Emitting.{Extends, EmitsExpr}
use Rattle.pearl_gen_expr.proofs.Offered.{still_is, last_is, one_longer, extends_one, extends_more}
use Rattle.pearl_gen_stmt.specs.StmtCode.{on_task, Alone, BeginsAt, CountsAt, WhileAt, AdvanceAt, StmtAt, StmtsAt, ElseAt, BranchesAt}
use Rattle.pearl_gen_stmt.specs.Emission.{pending, Stays, Notes, Exits, GoBehind, Adds, AddsTest, AddsStmt, AddsStmts, AddsElse, AddsBranches}
use Rattle.pearl_gen_stmt.specs.declared.pending.Pending.TheVariants.{Exit, Test, Branch as Behind}
use Rattle.pearl_gen_stmt.proofs.Adding.{stays_on, stays_one, last_stays, alone_adds}
use Rattle.pearl_gen_stmt.proofs.Settling.{within, one_left, extends_longer, stays_then}
use Rattle.pearl_gen_stmt.proofs.Keeping.{kept_expr}

-- EXITS

pub exits_on : (leave : Option ℕ) (before after : List ℕ) (from : ℕ) (one two final : List Instr) → Notes before after → Extends one two →
    Exits leave after from two final → Exits leave before from one final
exits_on leave before after from one two final noted kept exits place more at is = exits place more (noted place at) (still_is one two place instr.End kept is)

pub exits_from : (leave : Option ℕ) (noted : List ℕ) (early late : ℕ) (code final : List Instr) → early ≤ late → Exits leave noted early code final →
    Exits leave noted late code final
exits_from leave noted early late code final order exits place more at is = exits place (omega (arith, order, more)) at is

pub exit_adds : (setting : Setting) (in_loop : Bool) (noted : List ℕ) (old one : List Instr) → in_loop ≡ true → Contains noted (length old) →
    one ≡ old ++ instr.End ∷ [] → AddsStmt setting in_loop noted OfExit old one
exit_adds setting in_loop noted old one within at last final leave stays exits =
    let jump = exits within (length old) (omega arith) at (last_is old one instr.End last) in
    (jump.0, jump.1, (jump.2, one_longer old one instr.End last))

pub suspend_known : (task : Option ℕ) → pending (on_task instr.Suspend instr.SuspendOwn task) ≡ None
suspend_known None = refl
suspend_known (Some task) = refl

pub terminate_known : (task : Option ℕ) → pending (on_task instr.Terminate instr.TerminateOwn task) ≡ None
terminate_known None = refl
terminate_known (Some task) = refl

pub prevent_known : (task : Option ℕ) → pending (on_task instr.Prevent instr.PreventOwn task) ≡ None
prevent_known None = refl
prevent_known (Some task) = refl

pub listed_adds : (setting : Setting) (old one : List Instr) (make : List ℕ → Instr) (numbers list : List ℕ) →
    list ≡ numbers → pending (make list) ≡ None → one ≡ old ++ make list ∷ [] → Adds (λ code from to. Alone setting code from (make numbers) to) old one
listed_adds setting old one make numbers list same known last final stays =
    subst (λ numbers. Alone setting final (length old) (make numbers) (length one)) same (alone_adds old one (make list) last setting known final stays)

module _ (setting : Setting) (in_loop : Bool) (old : List Instr) where
  -- LISTS

  -- where the code of those that are left follows, all of the code stands
  abbrev pub StmtsSoFar : (noted : List ℕ) (now : List Instr) (left all : PlainStmts) → Type 0
  StmtsSoFar noted now left all = (final : List Instr) (leave : Option ℕ) (to : ℕ) → Stays now final → (in_loop ≡ true → Exits leave noted (length old) now final) →
      StmtsAt setting final leave (length now) left to → StmtsAt setting final leave (length old) all to

  pub stmts_more : (before after : List ℕ) (now next : List Instr) (xs : List Stmt) (i : ℕ) (x : Stmt) → i < length xs → x ≡ get_or xs i x → Extends old now →
      Notes before after → Extends now next → AddsStmt setting in_loop after (plain_stmt x) now next →
      StmtsSoFar before now (plain_stmts (drop i xs)) (plain_stmts xs) → StmtsSoFar after next (plain_stmts (drop (i + 1) xs)) (plain_stmts xs)
  stmts_more before after now next xs i x inside is kept noted more added first final leave to stays exits rest =
      (subst (λ left. StmtsSoFar before now (plain_stmts left) (plain_stmts xs)) (one_left xs i x inside is) first)
      final leave to (stays_on now next final more stays) (λ within. exits_on leave before after (length old) now next final noted more (exits within)) (
        length next,
        added final leave stays (λ within. exits_from leave after (length old) (length now) next final (extends_longer old now kept) (exits within)),
        rest,
      )

  pub stmts_done : (noted : List ℕ) (now : List Instr) (xs : List Stmt) (i : ℕ) → length xs ≤ i → StmtsSoFar noted now (plain_stmts (drop i xs)) (plain_stmts xs) →
      AddsStmts setting in_loop noted (plain_stmts xs) old now
  stmts_done noted now xs i past before final leave stays exits =
      (subst (λ left. StmtsSoFar noted now (plain_stmts left) (plain_stmts xs)) (drop_of_length-le xs past) before) final leave (length now) stays exits refl

  abbrev pub BranchesSoFar : (noted ends : List ℕ) (now : List Instr) (places : List ℕ) (left all : PlainBranches) → Type 0
  BranchesSoFar noted ends now places left all = (final : List Instr) (leave : Option ℕ) (to : ℕ) (rest : List ℕ) → Stays now final →
      (in_loop ≡ true → Exits leave noted (length old) now final) → GoBehind to ends (length old) now final →
      BranchesAt setting final leave (length now) rest left to → BranchesAt setting final leave (length old) (places ++ rest) all to

  pub branches_more : (before after ends ended : List ℕ) (now one two : List Instr) (places : List ℕ) (xs : List Branch) (i : ℕ) (x : Branch) →
      i < length xs → x ≡ get_or xs i x → Extends old now → Notes before after → Notes ends ended → Contains ended (length one) →
      Extends now one → AddsStmts setting in_loop after (plain_stmts x.statements.items) now one → two ≡ one ++ instr.Trap Range ∷ [] →
      BranchesSoFar before ends now places (plain_branches (drop i xs)) (plain_branches xs) →
      BranchesSoFar after ended two (places ++ length now ∷ []) (plain_branches (drop (i + 1) xs)) (plain_branches xs)
  branches_more before after ends ended now one two places xs i x inside is kept noted ends_noted end_at more added last first_ones final leave to rest stays exits behind follows =
      let longer = extends_longer old now kept in
      let longest = extends_longer now one more in
      let extra = extends_one one two (instr.Trap Range) last in
      let first = stays_on one two final extra stays in
      let left = plain_branches (drop (i + 1) xs) in
      subst (λ places. BranchesAt setting final leave (length old) places (plain_branches xs) to) (sym (append_assoc places (length now ∷ []) rest))
      ((subst (λ left. BranchesSoFar before ends now places (plain_branches left) (plain_branches xs)) (one_left xs i x inside is) first_ones)
      final leave to (length now ∷ rest) (stays_on now one final more first)
      (λ within. exits_on leave before after (length old) now two final noted (extends_more now one two more extra) (exits within))
      (λ place from at is. behind place from (ends_noted place at)
      (still_is now two place (instr.Trap Range) (extends_more now one two more extra) is)) (
        length one,
        refl,
        added final leave first (λ within. exits_from leave after (length old) (length now) one final longer
            (exits_on leave after after (length old) one two final (λ place at. at) extra (exits within))),
        behind (length one) (omega (arith, longer, longest)) end_at (last_is one two (instr.Trap Range) last),
        subst (λ from. BranchesAt setting final leave from rest left to) (one_longer one two (instr.Trap Range) last) follows,
      ))

  pub branches_done : (noted ends : List ℕ) (now : List Instr) (places : List ℕ) (xs : List Branch) (i : ℕ) → length xs ≤ i →
      BranchesSoFar noted ends now places (plain_branches (drop i xs)) (plain_branches xs) → AddsBranches setting in_loop noted places ends (plain_branches xs) old now
  branches_done noted ends now places xs i past before final leave stays exits behind =
      subst (λ places. BranchesAt setting final leave (length old) places (plain_branches xs) (length now)) (append-nil places)
      ((subst (λ left. BranchesSoFar noted ends now places (plain_branches left) (plain_branches xs)) (drop_of_length-le xs past) before)
      final leave (length now) [] stays exits behind refl)

  -- IF

  pub no_else_adds : (noted : List ℕ) (otherwise : PlainStmts) (other : ℕ) → otherwise ≡ NoStmts → other ≡ length old →
      AddsElse setting in_loop noted other otherwise old old
  no_else_adds noted otherwise other none same =
      subst (λ otherwise. AddsElse setting in_loop noted other otherwise old old) (sym none) (λ final leave stays exits. (same, refl))

  pub else_adds : (noted : List ℕ) (one two three : List Instr) (xs : List Stmt) (other : ℕ) → xs ≢ [] → other ≡ length old + 1 → one ≡ old ++ instr.Trap Range ∷ [] → Extends one two →
      AddsStmts setting in_loop noted (plain_stmts xs) one two → Is three (length old) (instr.Jump (length two)) →
      ((k : ℕ) → k ≢ length old → slice_get three k ≡ slice_get two k) → length three ≡ length two → AddsElse setting in_loop noted other (plain_stmts xs) old three
  else_adds noted one two three [] other some same first kept added there elsewhere long final leave stays exits = absurd (some refl)
  else_adds noted one two three (x ∷ xs) other some same first kept added there elsewhere long final leave stays exits =
      let begin = one_longer old one (instr.Trap Range) first in
      let hole = still_is one two (length old) (instr.Trap Range) kept (last_is old one (instr.Trap Range) first) in
      let here = stays_then two three final (length old) (instr.Trap Range) Behind hole refl elsewhere stays in
      let of = added final leave here (λ within place more at is.
      exits within place (omega (arith, more, begin)) at (elsewhere place (λ same. omega (arith, more, begin, same)) ∙ is)) in (
        of.0,
        subst (λ to. Is final (length old) (instr.Jump to)) (sym long) (stays (length old) (instr.Jump (length two)) there refl),
        same,
        subst (λ from. StmtAt setting final leave from (plain_stmt x) of.0) begin of.1,
        subst (λ to. StmtsAt setting final leave of.0 (plain_stmts xs) to) (sym long) of.2,
      )

  pub if_adds : (before after : List ℕ) (one two three four five : List Instr) (condition : PlainExpr) (statements otherwise : PlainStmts) (other : ℕ) →
      EmitsExpr setting.program condition old one → Extends old one → two ≡ one ++ instr.Trap Range ∷ [] → Extends two three →
      AddsStmts setting in_loop before statements two three → Notes before after → Extends three four → AddsElse setting in_loop after other otherwise three four →
      Is five (length one) (instr.JumpZero other) → ((k : ℕ) → k ≢ length one → slice_get five k ≡ slice_get four k) → length five ≡ length four →
      AddsStmt setting in_loop after (OfIf condition statements otherwise) old five
  if_adds before after one two three four five condition statements otherwise other tests longer first kept added noted more others there elsewhere long final leave stays exits =
      let begin = one_longer one two (instr.Trap Range) first in
      let longest = extends_longer old one longer in
      let beyond = extends_longer two three kept in
      let hole = still_is two four (length one) (instr.Trap Range) (extends_more two three four kept more) (last_is one two (instr.Trap Range) first) in
      let fourth = stays_then four five final (length one) (instr.Trap Range) Behind hole refl elsewhere stays in
      let third = stays_on three four final more fourth in
      let second = stays_on two three final kept third in
      let out : in_loop ≡ true → Exits leave after (length two) four final = λ within place far at is.
      exits within place (omega (arith, far, begin, longest)) at (elsewhere place (λ same. omega (arith, far, begin, same)) ∙ is) in (
        length one,
        other,
        length three,
        kept_expr setting.program one final (stays_one one two (instr.Trap Range) first final second) condition (length old) (length one) tests,
        stays (length one) (instr.JumpZero other) there refl,
        subst (λ from. StmtsAt setting final leave from statements (length three)) begin
            (added final leave third (λ within. exits_on leave before after (length two) three four final noted more (out within))),
        subst (λ to. ElseAt setting final leave (length three) other otherwise to) (sym long)
            (others final leave fourth (λ within. exits_from leave after (length two) (length three) four final beyond (out within))),
      )

  -- CASE

  pub case_adds : (before after ends : List ℕ) (one two three four five six seven : List Instr) (selector : PlainExpr) (alternatives : PlainBranches) (otherwise : PlainStmts)
      (targets : List ℕ) (to : ℕ) → to ≡ length five → EmitsExpr setting.program selector old one → Extends old one → two ≡ one ++ instr.Trap Range ∷ [] →
      Extends two three → AddsStmts setting in_loop before otherwise two three → four ≡ three ++ instr.Trap Range ∷ [] → Extends four five →
      Notes before after → Contains ends (length three) → AddsBranches setting in_loop after targets ends alternatives four five →
      ((k : ℕ) → length three ≤ k → Contains ends k → Is five k (instr.Trap Range) → Is six k (instr.Jump to)) → ((k : ℕ) (i : Instr) → Is five k i → pending i ≢ Some Behind → Is six k i) →
      ((k : ℕ) → k < length three → slice_get six k ≡ slice_get five k) → length six ≡ length five → Is seven (length one) (instr.Case targets) →
      ((k : ℕ) → k ≢ length one → slice_get seven k ≡ slice_get six k) → length seven ≡ length six →
      AddsStmt setting in_loop after (OfCase selector alternatives otherwise) old seven
  case_adds before after ends one two three four five six seven selector alternatives otherwise targets to to_is tests longer first kept added last more
      noted end_at branches settled held same_before long there elsewhere again final leave stays exits =
      let begin = one_longer one two (instr.Trap Range) first in
      let behind = one_longer three four (instr.Trap Range) last in
      let longest = extends_longer old one longer in
      let beyond = extends_longer two three kept in
      let all = extends_more three four five (extends_one three four (instr.Trap Range) last) more in
      let whole : length seven ≡ to = again ∙ (long ∙ sym to_is) in
      let hole_five = still_is two five (length one) (instr.Trap Range) (extends_more two three five kept all) (last_is one two (instr.Trap Range) first) in
      let hole : Is six (length one) (instr.Trap Range) = same_before (length one) (omega (arith, begin, beyond)) ∙ hole_five in
      let sixth = stays_then six seven final (length one) (instr.Trap Range) Behind hole refl elsewhere stays in
      let fifth : Stays five final = λ place instr is known. sixth place instr (held place instr is (λ same. cc)) known in
      let fourth = stays_on four five final more fifth in
      let third = stays_one three four (instr.Trap Range) last final fourth in
      let second = stays_on two three final kept third in
      let jumps : (k : ℕ) → length three ≤ k → Contains ends k → Is five k (instr.Trap Range) → Is final k (instr.Jump to) = λ k far at is.
      sixth k (instr.Jump to) (settled k far at is) refl in
      let out : in_loop ≡ true → Exits leave after (length two) five final = λ within place far at is.
      exits within place (omega (arith, far, begin, longest)) at
      (elsewhere place (λ same. omega (arith, far, begin, same)) ∙ held place instr.End is (λ same. cc)) in (
        length one,
        length three,
        targets,
        kept_expr setting.program one final (stays_one one two (instr.Trap Range) first final second) selector (length old) (length one) tests,
        stays (length one) (instr.Case targets) there refl,
        subst (λ from. StmtsAt setting final leave from otherwise (length three)) begin
            (added final leave third (λ within. exits_on leave before after (length two) three five final noted all (out within))),
        subst (λ to. Is final (length three) (instr.Jump to)) (sym whole)
            (jumps (length three) (omega arith) end_at (still_is four five (length three) (instr.Trap Range) more (last_is three four (instr.Trap Range) last))),
        subst (λ from. BranchesAt setting final leave from targets alternatives (length seven)) behind
            (subst (λ to. BranchesAt setting final leave (length four) targets alternatives to) (to_is' to_is whole)
            (branches final leave fifth (λ within. exits_from leave after (length two) (length four) five final (omega (arith, beyond, behind)) (out within))
            (λ place far at is. subst (λ to. Is final place (instr.Jump to)) to_is (jumps place (omega (arith, far, behind)) at is)))),
      )
    where
      to_is' : to ≡ length five → length seven ≡ to → length five ≡ length seven
      to_is' one two = sym (two ∙ one)

-- REPEAT

pub repeat_adds : (setting : Setting) (in_loop : Bool) (exits : List ℕ) (old one two three four five six seven eight : List Instr) (counter : Option PlainCounter) (condition : Option PlainExpr)
    (statements : PlainStmts) (past : ℕ) → past ≡ length six → Adds (λ code from to. BeginsAt setting code from counter to) old one → two ≡ one ++ instr.Turn ∷ [] →
    AddsTest (λ past code from to. CountsAt setting code from past counter to) two three → Extends two three →
    AddsTest (λ past code from to. WhileAt setting code from past condition to) three four → Extends three four →
    AddsStmts setting true exits statements four five → Extends four five → Adds (λ code from to. AdvanceAt setting code from (length one) counter to) five six → Extends five six →
    ((k : ℕ) → length one ≤ k → Contains exits k → Is six k instr.End → Is seven k (instr.Jump past)) → ((k : ℕ) (i : Instr) → Is six k i → pending i ≢ Some Exit → Is seven k i) →
    length seven ≡ length six → ((k : ℕ) → length one ≤ k → k < length four → Is seven k (instr.Trap Index) → Is eight k (instr.JumpZero past)) →
    ((k : ℕ) (i : Instr) → Is seven k i → pending i ≢ Some Test → Is eight k i) → length eight ≡ length seven →
    (noted : List ℕ) → AddsStmt setting in_loop noted (OfRepeat counter condition statements) old eight
repeat_adds setting in_loop exits old one two three four five six seven eight counter condition statements past past_is begins turn counts kept_three tests kept_four body kept_five
    advances kept_six left held long tested held_again again noted final leave stays outer =
    let begin = one_longer one two instr.Turn turn in
    let beyond = extends_longer two three kept_three in
    let far_four = extends_longer three four kept_four in
    let five_six = kept_six in
    let four_six = extends_more four five six kept_five five_six in
    let three_six = extends_more three four six kept_four four_six in
    let whole : length eight ≡ past = again ∙ (long ∙ sym past_is) in
    let seventh : Stays seven final = λ place instr is known. stays place instr (held_again place instr is (λ same. cc)) known in
    let sixth : Stays six final = λ place instr is known. seventh place instr (held place instr is (λ same. cc)) known in
    let fifth = stays_on five six final five_six sixth in
    let fourth = stays_on four five final kept_five fifth in
    let third = stays_on three four final kept_four fourth in
    let second = stays_on two three final kept_three third in
    let leaves : (k : ℕ) → length one ≤ k → k < length four → Is six k (instr.Trap Index) → Is final k (instr.JumpZero past) = λ k far near is.
    stays k (instr.JumpZero past) (tested k far near (held k (instr.Trap Index) is (λ same. cc))) refl in
    let first = stays_one one two instr.Turn turn final second in (
      length one,
      length three,
      length four,
      length five,
      begins final first,
      last_stays one two instr.Turn turn final second refl,
      subst (λ from. CountsAt setting final from (length eight) counter (length three)) begin
          (subst (λ past. CountsAt setting final (length two) past counter (length three)) (sym whole)
          (counts final past third (λ k far is. leaves k (omega (arith, far, begin)) (let inside = within three k (instr.Trap Index) is in omega (arith, inside, far_four)) (still_is three six k (instr.Trap Index) three_six is)))),
      subst (λ past. WhileAt setting final (length three) past condition (length four)) (sym whole)
          (tests final past fourth (λ k far is. leaves k (omega (arith, far, begin, beyond)) (within four k (instr.Trap Index) is) (still_is four six k (instr.Trap Index) four_six is))),
      body final (Some (length eight)) fifth (λ inside k far at is. (
        length eight,
        refl,
        subst (λ past. Is final k (instr.Jump past)) (sym whole)
            (seventh k (instr.Jump past) (left k (omega (arith, far, begin, beyond, far_four)) at (still_is five six k instr.End five_six is)) refl),
      )),
      subst (λ to. AdvanceAt setting final (length five) (length one) counter to) (sym (again ∙ long)) (advances final sixth),
    )
