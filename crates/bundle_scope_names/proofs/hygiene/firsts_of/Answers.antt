-- One more occurrence was gone over.
use Rattle.std.proofs.Common.{◌≡◌, ◌+◌, suc, Some, None, false, get_or, ap, sym, ◌∙◌, arith, take}
use Rattle.std.specs.Option.{option_map}
use Rattle.std.proofs.lemmas.Option.{slice_get-get_or}
use Rattle.bundle_scope_denote.specs.declared.table.Denoted.{Denoted}
use Rattle.bundle_scope_names.specs.Turns.{first_of, first_after}
use Rattle.bundle_scope_names.proofs.ListLemmas.{first-more}
use Rattle.bundle_scope_names.proofs.hygiene.firsts_of.Goals as goal

pub loop-occurrence-preserved : goal.loop-occurrence-preserved
loop-occurrence-preserved c = λ number lt.
    let one : c.loop-occurrence.occurrence-index + 1 ≡ suc c.loop-occurrence.occurrence-index = omega arith in
    let o : Denoted = get_or c.args.occurrences.now c.loop-occurrence.occurrence-index (record { place = 0; scope = 0; binding = None; declares = false }) in
    c.add_first.ensures number ∙ ap (option_map (first_after o number)) (c.loop-occurrence.invariant number lt)
    ∙ ap (λ x. Some x) (sym (first-more c.args.occurrences.now c.loop-occurrence.occurrence-index number o (slice_get-get_or c.args.occurrences.now c.loop-occurrence.occurrence-index _ c.loop-occurrence-test.true)) ∙ ap (λ n. first_of (take n c.args.occurrences.now) number) (sym one))
