use Rattle.std.proofs.Common.{◌∙◌, map, ap₂, subst, ◌+◌, ◌<◌, ◌≤◌, sym, string_bytes}
use Rattle.pearl_watch.proofs.Refusing.{unknown, repeated, too_many, accepted, among, bytes_at, there, within, is_named}
use Rattle.pearl_watch.proofs.watched.accepted_leaf.Goals as goal

pub returns-in_default-clause-leaf : goal.returns-in_default-clause-leaf
returns-in_default-clause-leaf c =
    let same = c.as_bytes-text.ensures.value
    ∙ bytes_at string_bytes c.args.names.now c.args.name c.index-names-name.result c.requires.within c.index-names-name.is in
    unknown c.args.leaves.now (map string_bytes c.args.names.now) c.args.name
    (is_named c.args.leaves.now _ _ _ same (sym c.leaf_named.ensures ∙ c.in_default.is))

pub returns-then-is_among-clause-leaf : goal.returns-then-is_among-clause-leaf
returns-then-is_among-clause-leaf c =
    let same = c.as_bytes-text.ensures.value
    ∙ bytes_at string_bytes c.args.names.now c.args.name c.index-names-name.result c.requires.within c.index-names-name.is in
    repeated c.args.leaves.now (map string_bytes c.args.names.now) c.args.name
    (among string_bytes c.args.names.now c.args.name _ c.is_among.result same c.is_among.ensures ∙ c.if-is_among.true)

pub returns-then-watched-leaves-gt1024-clause-leaf : goal.returns-then-watched-leaves-gt1024-clause-leaf
returns-then-watched-leaves-gt1024-clause-leaf c =
    let same = c.as_bytes-text.ensures.value
    ∙ bytes_at string_bytes c.args.names.now c.args.name c.index-names-name.result c.requires.within c.index-names-name.is in
    let named = is_named c.args.leaves.now _ _ _ same (sym c.leaf_named.ensures ∙ c.in-Some.is) in
    let here = there c.args.leaves.now c.in-Some.leaf c.index-leaves-leaf.result (within c.args.leaves.now _ _ c.index-leaves-leaf.result named)
    c.index-leaves-leaf.is in
    too_many c.args.leaves.now (map string_bytes c.args.names.now) c.args.name c.in-Some.leaf c.index-leaves-leaf.result named here
    (subst (λ n. 1024 < n) (ap₂ (λ n leaf. n + leaf.slots) c.requires.watched (sym c.index-leaves-leaf.is)) c.if-watched-leaves-gt1024.true)

pub returns-clause-leaf : goal.returns-clause-leaf
returns-clause-leaf c =
    let same = c.as_bytes-text.ensures.value
    ∙ bytes_at string_bytes c.args.names.now c.args.name c.index-names-name.result c.requires.within c.index-names-name.is in
    let named = is_named c.args.leaves.now _ _ _ same (sym c.leaf_named.ensures ∙ c.in-Some.is) in
    let within_here = within c.args.leaves.now _ _ c.index-leaves-leaf.result named in
    let here = there c.args.leaves.now c.in-Some.leaf c.index-leaves-leaf.result within_here c.index-leaves-leaf.is in (
      accepted c.args.leaves.now (map string_bytes c.args.names.now) c.args.name c.in-Some.leaf c.index-leaves-leaf.result named here
          (among string_bytes c.args.names.now c.args.name _ c.is_among.result same c.is_among.ensures ∙ c.if-is_among.false)
          (subst (λ n. n ≤ 1024) (ap₂ (λ n leaf. n + leaf.slots) c.requires.watched (sym c.index-leaves-leaf.is)) c.if-watched-leaves-gt1024.false),
      within_here,
      named,
    )
