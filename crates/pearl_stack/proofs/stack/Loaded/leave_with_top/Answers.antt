use Rattle.std.proofs.Common.{◌≡◌, ◌-◌, List, length, take, get_or, Some, sym, ap, ◌∙◌, subst, arith, vec_capacity}
use Rattle.pearl_stack.specs.declared.stack.Head.{Head}
use Rattle.pearl_stack.proofs.Keeps.{Kept, leaves_with, shown}
use Rattle.pearl_stack.proofs.stack.Loaded.leave_with_top.Goals as goal

pub invariant_of-self : goal.invariant_of-self
invariant_of-self c =
    let heads : List Head = c.self.inside.heads.items in
    let head : Head = c.index.result.now in
    let n : c.len-below.result ≡ length heads = omega (arith, c.len-below.ensures, c.self.inside.heads.ok.0) in
    let at : head ≡ get_or heads (length heads - 1) head = c.index.ensures ∙ ap (λ n. get_or heads (n - 1) head) n in
    let left = leaves_with c.self.inside.heads.items (vec_capacity c.self.inside.heads) c.self.inside.values c.self.inside.room c.self.inside.most c.args.self.now c.self.view_is c.self.invariant
    c.requires.operand c.requires.below head head.first (c.len-last.result - 1) (ap (λ h. h.first) at) (ap (λ n. n - 1) c.len-last.ensures)
    c.set_again.new.self c.truncate.new.self c.set_again.ensures c.truncate.ensures in
    let fewer : c.truncate-2.new.self.items ≡ take (length heads - 1) heads = c.truncate-2.ensures.items ∙ ap (λ n. take (n - 1) heads) n in
    let kept = subst (λ hs. Kept hs (vec_capacity c.self.inside.heads) c.truncate.new.self c.self.inside.room c.self.inside.most) (sym fewer) left.kept in
    (kept.0, omega (arith, kept.1, c.truncate-2.ensures.capacity), kept.2, kept.3, kept.4, kept.5, kept.6)

pub returns : goal.returns
returns c =
    let heads : List Head = c.self.inside.heads.items in
    let head : Head = c.index.result.now in
    let n : c.len-below.result ≡ length heads = omega (arith, c.len-below.ensures, c.self.inside.heads.ok.0) in
    let at : head ≡ get_or heads (length heads - 1) head = c.index.ensures ∙ ap (λ n. get_or heads (n - 1) head) n in
    let left = leaves_with c.self.inside.heads.items (vec_capacity c.self.inside.heads) c.self.inside.values c.self.inside.room c.self.inside.most c.args.self.now c.self.view_is c.self.invariant
    c.requires.operand c.requires.below head head.first (c.len-last.result - 1) (ap (λ h. h.first) at) (ap (λ n. n - 1) c.len-last.ensures)
    c.set_again.new.self c.truncate.new.self c.set_again.ensures c.truncate.ensures in
    let fewer : c.truncate-2.new.self.items ≡ take (length heads - 1) heads = c.truncate-2.ensures.items ∙ ap (λ n. take (n - 1) heads) n in
    left.shows ∙ ap (λ hs. Some (shown hs c.truncate.new.self c.self.inside.room c.self.inside.most)) (sym fewer)
