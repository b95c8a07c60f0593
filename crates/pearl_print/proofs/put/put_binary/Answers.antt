use Rattle.std.proofs.Common.{◌≡◌, ◌+◌, ◌-◌, ◌/◌, ◌%◌, ◌^◌, ℕ, suc, List, [], ◌∷◌, ◌++◌, ap, ◌∙◌, append_assoc, arith}
use Rattle.pearl_print.specs.Spelled.{binary}
use Rattle.pearl_print.proofs.put.put_binary.Goals as goal

-- one more bit
step : (before after old all : List ℕ) (n left value : ℕ) → suc left ≡ n → after ≡ before ++ (48 + value / 2 ^ left % 2) ∷ [] → before ++ binary n value ≡ old ++ all → after ++ binary left value ≡ old ++ all
step before after old all n left value next pushed h =
    ap (λ t. t ++ binary left value) pushed ∙ append_assoc before ((48 + value / 2 ^ left % 2) ∷ []) (binary left value) ∙
    ap (λ t. before ++ binary t value) next ∙ h

pub loop-left-preserved : goal.loop-left-preserved
loop-left-preserved c =
    let pushed : c.push.new.self.items ≡ c.loop-left.into.items ++ (48 + c.args.value / 2 ^ (c.loop-left.left - 1) % 2) ∷ [] = rw (← c.bit.ensures) c.in_ok-push.ensures.items in
    step c.loop-left.into.items c.push.new.self.items c.args.into.now.items (binary c.args.len c.args.value) c.loop-left.left (c.loop-left.left - 1) c.args.value (omega arith) pushed c.loop-left.invariant
