use Rattle.std.proofs.Common.{◌≡◌, ◌+◌, ◌++◌, length, vec_len, sym, ap, ◌∙◌, refl, arith}
use Rattle.pearl_tree.specs.ShownDeclarations.{shown_names}
use Rattle.pearl_tree.specs.Names.{names_of}
use Rattle.pearl_names.specs.Counts.{within}
use Rattle.pearl_names.specs.Forming.{sizes_of}
use Rattle.pearl_names.proofs.Building.{form_wider, bounds_behind}
use Rattle.pearl_names.proofs.forms.add_written.Goals as goal

pub returns-clause-added : goal.returns-clause-added
returns-clause-added c = λ fields bounds shape fresh is same stands.
    let form = c.args.form.now in
    let own = c.args.own.now in
    let sized : c.sizes_within-sizes.result ≡ sizes_of bounds = c.sizes_within-sizes.ensures ∙ ap sizes_of same in
    let long : vec_len form.bounds ≡ length form.bounds.items = omega (arith, form.bounds.ok.0) in
    let wider : c.extend_from_slice.new.self.items ≡ form.bounds.items ++ own = c.in_ok-extend_from_slice.ensures.items in
    let names : names_of (shown_names c.args.names.now) ≡ c.as_slice.result.now = sym c.as_slice.ensures in
    rw names (c.in_ok-fresh.ensures.added c.args.forms.now fields bounds shape fresh
    (form_wider c.args.forms.now form _ own fields refl refl wider is)
    (record {
      part = stands;
      dimensions = ap (λ s. s.dimensions) sized;
      count = ap (λ s. s.elements) sized;
      each = c.within-each.ensures ∙ ap (within c.sizes_within-sizes.result.dimensions c.sizes_within-sizes.result.elements) (c.counts_of.ensures shape stands);
      bounded = bounds_behind form.bounds.items _ own _ bounds wider (c.len-first.ensures ∙ long) (c.len.ensures ∙ c.in_ok-extend_from_slice.ensures.len ∙ ap (λ n. n + length own) long) same;
    }))
