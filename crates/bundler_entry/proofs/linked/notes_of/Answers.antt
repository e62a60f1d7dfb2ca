-- What is noted of each is there, and goes last.
use Rattle.std.proofs.Common.{◌≡◌, ◌<◌, ℕ, List, Some, get_or, length, refl, ap, sym, ◌∙◌, subst, arith}
use Rattle.std.specs.Prelude.{slice_get}
use Rattle.std.proofs.lemmas.Option.{same_Some, slice_get-get_or, slice_get_read, slice_get_within}
use Rattle.bundler_entry.proofs.SourceLemmas.{notes_more}
use Rattle.bundler_entry.proofs.linked.notes_of.Goals as goal
use Rattle.bundler_entry.proofs.linked.notes_of.Goals.{in-Some+in_ok-push, in_default}

pub loop-place-preserved : goal.loop-place-preserved
loop-place-preserved c = λ there.
    let sources = c.args.sources.now in
    let reached = c.args.reached.now in
    let places = c.deref-place-items.result.now in
    let same = c.deref-place-items.ensures.value in
    let i = c.loop-place.place-index in
    let place = get_or places i 0 in
    let at : slice_get reached.places.items i ≡ Some place = subst (λ (l : List ℕ). slice_get l i ≡ Some place) same (slice_get-get_or places i 0 c.loop-place-test.true) in
    elim c.match-get.branch [
      | in-Some+in_ok-push w ↦
          let found = rw w.in-Some.is at c.get.ensures.lookup.3 in
          let source = w.in-Some.source.now in
          notes_more sources reached i c.loop-place.notes.items c.match-get.notes.items source.noted (ap (λ v. v.items) w.notes-is ∙ w.in_ok-push.ensures.items)
          (record { place = place; source = source; its_place = at; its_source = slice_get_read sources (length sources) place source refl found.0 (found.1 source); same = refl })
          (c.loop-place.invariant there)
      | in_default w ↦ (
          let past = rw w.in_default.is at c.get.ensures.lookup.3 in
          let within : i < length reached.places.items = let long = ap length same in let inside = c.loop-place-test.true in omega (arith, long, inside) in
          let its = there i within in
          let here = same_Some its.place place (sym its.its_place ∙ at) in
          let inside = slice_get_within sources its.place its.source its.its_source in
          let no : ⊥ = omega (arith, past, here, inside) in
          absurd no)
    ]
