use Rattle.std.proofs.Common.{◌≡◌, ◌+◌, length, map, sym, ap, ◌∙◌}
use Rattle.std.proofs.lemmas.List.{length-map}
use Rattle.pearl_program.specs.PlainExpressions.{plain_variable}
use Rattle.pearl_gen_stmt.specs.Emission.{setting_of}
use Rattle.pearl_gen_stmt.proofs.Getting.{get_adds, kept_same, filled_same, written_same}
use Rattle.pearl_gen_stmt.proofs.get.emit_get.Goals as goal

pub returns-clause-added : goal.returns-clause-added
returns-clause-added c =
    let get = c.args.get.now in let setting = setting_of c.args.site.program.now c.args.site.result c.args.site.routine.now in
    let xs = c.as_slice-targets.result.now in
    let at : c.from.result + length xs ≡ get.cell + length (map plain_variable get.targets.items) =
    ap (λ n. n + length xs) c.from.ensures ∙ ap (λ n. get.cell + n) (ap length c.as_slice-targets.ensures.value ∙ sym (length-map get.targets.items plain_variable)) in
    let kinds = filled_same setting c.emit_kept.new.code.items c.emit_filled.new.code.items get.cell xs get.targets.items c.as_slice-targets.ensures.value c.in_ok-emit_filled.ensures.added in
    get_adds setting c.args.code.now.items c.emit_kept.new.code.items c.emit_filled.new.code.items c.emit.new.code.items c.emit_written.new.code.items
    (map plain_variable get.targets.items) get.device get.format get.cell kinds.0 c.in_ok-boxed.boxed
    (kept_same setting c.args.code.now.items c.emit_kept.new.code.items (c.from.result + length xs) (get.cell + length (map plain_variable get.targets.items)) xs get.targets.items c.as_slice-targets.ensures.value at c.in_ok-emit_kept.ensures.added)
    c.in_ok-emit_filled.ensures.kept kinds.1 kinds.2
    (c.in_ok-boxed.ensures ∙ (ap (λ n. record { device = n; format = c.from-3.result; first = c.from-4.result }) c.from-2.ensures
    ∙ (ap (λ n. record { device = get.device; format = n; first = c.from-4.result }) c.from-3.ensures
    ∙ ap (λ n. record { device = get.device; format = get.format; first = n }) c.from-4.ensures)))
    c.in_ok-emit.ensures.added c.in_ok-emit_written.ensures.kept
    (written_same setting c.emit.new.code.items c.emit_written.new.code.items (c.from.result + length xs) (get.cell + length (map plain_variable get.targets.items)) get.cell xs get.targets.items c.as_slice-targets.ensures.value at (c.in_ok-emit_written.ensures.added setting))
