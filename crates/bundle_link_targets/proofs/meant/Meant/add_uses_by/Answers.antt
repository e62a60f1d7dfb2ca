use Rattle.std.specs.Prelude.{slice_set}
use Rattle.std.proofs.Common.{◌≡◌, ◌≤◌, length, map, sym, ◌∙◌, subst, arith}
use Rattle.std.proofs.lemmas.List.{take_all}
use Rattle.bundle_link_index.specs.Given.{AddsMissing}
use Rattle.bundle_link_index.specs.Outside.{IsIndexOf}
use Rattle.bundle_link_tables.specs.Used.{use_entry_of}
use Rattle.bundle_link_targets.specs.Handed.{AreMeanings, AreMeaningsOf}
use Rattle.bundle_link_targets.specs.Meant.{AnyMeans}
use Rattle.bundle_link_targets.specs.Found.{targets_in}
use Rattle.bundle_link_targets.proofs.CallPlaceLemmas.{fills-put}
use Rattle.bundle_link_targets.proofs.UseLemmas.{found-step, use-found, use-step}
use Rattle.bundle_link_targets.proofs.meant.Meant.add_uses_by.Goals as goal

pub loop-its-preserved : goal.loop-its-preserved
loop-its-preserved c =
    let inv = c.loop-its.invariant in
    record {
      index = c.in_ok-meaning.ensures.same ∙ inv.index;
      adds = λ p is are table finds. use-step p c.args.which c.args.tables.now table c.deref-its-items.result.now c.deref-its-items.ensures.value c.loop-its.its-index _ c.loop-its-test.true
          c.args.locals.now c.copied-import.result c.deref.result.now c.reads_of-reads.result.now c.in_ok-meaning.meaning (targets_in c.args.self.now.targets) (targets_in c.loop-its.self.targets) (targets_in c.add_meant.new.targets)
          finds (c.copied-import.ensures ∙ c.get.ensures.value) c.deref.ensures.value c.reads_of-reads.ensures
          (c.in_ok-meaning.ensures.right p (subst (IsIndexOf p) (sym inv.index) is) are) (inv.adds p is are table finds) c.in_ok-add_meant.ensures;
      found = λ p is are table finds.
          subst (AreMeanings p c.args.which _) (sym c.in_ok-push.ensures.items)
          (found-step p c.args.which c.args.tables.now table c.deref-its-items.result.now c.deref-its-items.ensures.value c.loop-its.its-index _ c.loop-its-test.true c.loop-its.meanings.items c.in_ok-meaning.meaning
          (use-found p c.args.which c.args.tables.now table c.deref-its-items.result.now c.deref-its-items.ensures.value c.loop-its.its-index _ c.loop-its-test.true
          c.args.locals.now c.copied-import.result c.deref.result.now c.reads_of-reads.result.now c.in_ok-meaning.meaning
          finds (c.copied-import.ensures ∙ c.get.ensures.value) c.deref.ensures.value c.reads_of-reads.ensures
          (c.in_ok-meaning.ensures.right p (subst (IsIndexOf p) (sym inv.index) is) are))
          (inv.found p is are table finds));
      lists = inv.lists;
      linked = inv.linked;
    }

pub returns-clause-right : goal.returns-clause-right
returns-clause-right c = λ p is are table finds.
    subst (λ l. AddsMissing (targets_in c.args.self.now.targets) (AnyMeans p c.args.which (map (use_entry_of c.args.tables.now.reads.items) l)) (targets_in c.loop-its.self.targets))
    (take_all c.loop-its.its-index c.args.tables.now.uses.items (subst (λ l. length l ≤ c.loop-its.its-index) c.deref-its-items.ensures.value c.loop-its-test.false))
    (c.loop-its.invariant.adds p is are table finds)

pub returns-clause-meanings : goal.returns-clause-meanings
returns-clause-meanings c = λ p is are table finds within.
    let old = c.args.self.now.meanings.items in
    let all = subst (λ l. AreMeanings p c.args.which (map (use_entry_of c.args.tables.now.reads.items) l) c.loop-its.meanings.items)
    (take_all c.loop-its.its-index c.args.tables.now.uses.items (subst (λ l. length l ≤ c.loop-its.its-index) c.deref-its-items.ensures.value c.loop-its-test.false))
    (c.loop-its.invariant.found p is are table finds) in
    let whole = subst (λ l. AreMeanings p c.args.which l c.loop-its.meanings.items) table.uses all in
    fills-put (AreMeaningsOf p) c.args.which old c.put_at.new.lists.items c.loop-its.meanings
    (subst (λ l. c.put_at.new.lists.items ≡ slice_set l.items c.args.which c.loop-its.meanings) c.loop-its.invariant.lists c.put_at.ensures)
    (λ h. whole) (λ past. absurd (omega (arith, within, past)))
