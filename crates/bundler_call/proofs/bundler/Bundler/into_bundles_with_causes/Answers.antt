-- A bundler that is let go of ends as the headline says, whatever it did keep, and what is told beside the bundles explains them.
use Rattle.std.proofs.Common.{eqb-true, sym, map, subst, ◌∙◌}
use Rattle.std.proofs.lemmas.List.{nil_from_length}
use Rattle.std.specs.List.{AllZip}
use Rattle.bundler_entry.specs.Unlinked.{error_of}
use Rattle.bundle_tree_names.specs.declared.error.Error.TheVariants.{OutOfMemory}
use Rattle.bundle_rules.specs.Judging.{Completes}
use Rattle.bundler_call.specs.Judged.{parties_asked, IsBundledFor, IsRefusalTold}
use Rattle.bundler_call.specs.Kept.{entry_of, kept_of, parties_of, settings_of}
use Rattle.bundler_call.specs.Linking.{IsListLoaded, IsNumberedOn, IsRefusalOfEntries}
use Rattle.bundler_call.specs.Loading.{files_on, AreFilesSound}
use Rattle.bundler_call.proofs.Sources.{all_finished, along, grows_along_entries, all_bundled_as, refusal_as}
use Rattle.bundler_call.proofs.Leading.{answers_none, bundled_headline, completed_stops, empty_headline, refused_linking, some_entry, IsRefusedBy}
use Rattle.bundler_call.specs.Caused.{AreCausesToldFor}
use Rattle.bundler_call.proofs.Explained.{all_explained, none_explained, refused_beside_causes, untold}
use Rattle.bundler_call.proofs.Growing.{handed_on}
use Rattle.bundler_call.proofs.Unasked.{completes_beside, refused_beside}
use Rattle.bundler_call.proofs.bundler.Bundler.into_bundles_with_causes.Goals as goal

-- No entry.

pub returns-then-is_empty-clause-headline : goal.returns-then-is_empty-clause-headline
returns-then-is_empty-clause-headline g c = (
  kept_of c.args.self.library.kept,
  empty_headline _ (settings_of c.args.self.config) c.args.entries.items _ (kept_of c.args.self.library.kept)
      (nil_from_length c.args.entries.items (sym c.args.entries.ok.0 ∙ eqb-true _ 0 (sym c.is_empty.ensures ∙ c.if-is_empty.true)))
      c.new.ensures.items,
  none_explained _ (settings_of c.args.self.config) (kept_of c.args.self.library.kept) c.args.entries.items _ _
      (nil_from_length c.args.entries.items (sym c.args.entries.ok.0 ∙ eqb-true _ 0 (sym c.is_empty.ensures ∙ c.if-is_empty.true)))
      c.new.ensures.items c.new-then-is_empty.ensures.items,
)

pub returns-then-is_empty-clause-no_entry : goal.returns-then-is_empty-clause-no_entry
returns-then-is_empty-clause-no_entry g c = λ none. answers_none _ (kept_of c.args.self.library.kept) c.new.ensures.items

pub loaded-requires : goal.loaded-requires
loaded-requires g c = some_entry c.args.entries.items c.as_slice.result.now _ _ c.args.entries.ok.0 c.is_empty.ensures c.if-is_empty.false c.as_slice.ensures.value

-- What was loaded is kept where the loader is let go of.

pub caused_bundles-requires : goal.caused_bundles-requires
caused_bundles-requires g c = subst (λ k. AreFilesSound (kept_of k) (files_on c.in_ok-list.list)) (sym c.into_kept-kept.ensures) c.in_ok-list.ensures.sound

-- Refusals.

pub returns-in_err-list-clause-headline : goal.returns-in_err-list-clause-headline
returns-in_err-list-clause-headline g c =
    let settings = settings_of c.args.self.config in
    let old = kept_of c.args.self.library.kept in
    let new = kept_of c.loaded.new.library.kept in (
      new,
      refused_beside_causes _ settings c.args.entries.items old new c.from_residual.result c.in_err-list.field-0.0 c.from_residual.ensures.1
          (grows_along_entries _ settings c.as_slice.result.now c.args.entries.items old new c.as_slice.ensures.value c.in_err-list.ensures.grows.grows)
          (refused_beside g.L.Load.may_load g.L.Load.may_fail_load g.R.Resolve.may_resolve g.R.Resolve.may_fail_resolve _ _ settings c.args.self.library.loader c.args.self.library.resolver c.from_residual.result c.in_err-list.field-0.0 c.from_residual.ensures.1 (map entry_of c.args.entries.items) old new
          (subst (λ xs. IsRefusalTold (parties_asked g.L.Load.may_load g.L.Load.may_fail_load g.R.Resolve.may_resolve g.R.Resolve.may_fail_resolve c.args.self.library.loader c.args.self.library.resolver) settings (map entry_of xs) old new c.in_err-list.field-0.0) c.as_slice.ensures.value c.in_err-list.ensures.refused)),
      untold c.from_residual.result c.in_err-list.field-0.0 _ c.from_residual.ensures.1,
    )

pub returns-in_err-merged-clause-headline : goal.returns-in_err-merged-clause-headline
returns-in_err-merged-clause-headline g c =
    let settings = settings_of c.args.self.config in
    let old = kept_of c.args.self.library.kept in
    let new = kept_of c.loaded.new.library.kept in
    let may_load = g.L.Load.may_load c.args.self.library.loader in
    let may_fail_load = g.L.Load.may_fail_load c.args.self.library.loader in
    let may_resolve = g.R.Resolve.may_resolve c.args.self.library.resolver in
    let may_fail_resolve = g.R.Resolve.may_fail_resolve c.args.self.library.resolver in (
      new,
      refused_beside_causes _ settings c.args.entries.items old new c.from_residual-in_err-merged.result (error_of c.in_err-merged.field-0.0) c.from_residual-in_err-merged.ensures.1
          (grows_along_entries _ settings c.as_slice.result.now c.args.entries.items old new c.as_slice.ensures.value c.in_ok-list.ensures.grows.grows)
          (refused_linking _ settings _ (map entry_of c.args.entries.items) old new c.in_err-merged.field-0.0 c.from_residual-in_err-merged.ensures.1
          (completes_beside g.L.Load.may_load g.L.Load.may_fail_load g.R.Resolve.may_resolve g.R.Resolve.may_fail_resolve _ _ settings c.args.self.library.loader c.args.self.library.resolver (map entry_of c.args.entries.items) old new
          (subst (λ xs. Completes (parties_asked g.L.Load.may_load g.L.Load.may_fail_load g.R.Resolve.may_resolve g.R.Resolve.may_fail_resolve c.args.self.library.loader c.args.self.library.resolver) settings (map entry_of xs) old new) c.as_slice.ensures.value c.in_ok-list.ensures.completes))
          (along c.into_kept-kept.ensures (λ k. IsRefusalOfEntries (parties_of may_load may_fail_load may_resolve may_fail_resolve ((goal.Hook-dyn g (c.args.self.hook.vtable, c.args.self.hook.value)).may_give c.args.self.hook.value) ((goal.Hook-dyn g (c.args.self.hook.vtable, c.args.self.hook.value)).may_fail_hook c.args.self.hook.value)) settings (kept_of k) (map entry_of c.args.entries.items) c.in_err-merged.field-0.0)
          (along c.deref_box-1.ensures.1 (λ v. IsRefusalOfEntries (parties_of may_load may_fail_load may_resolve may_fail_resolve ((goal.Hook-dyn g v).may_give v.1) ((goal.Hook-dyn g v).may_fail_hook v.1)) settings (kept_of c.into_kept-kept.result) (map entry_of c.args.entries.items) c.in_err-merged.field-0.0)
          (refusal_as may_load may_fail_load may_resolve may_fail_resolve _ _ (kept_of c.into_kept-kept.result) settings (map entry_of c.args.entries.items) c.in_err-merged.field-0.0
          (c.in_err-merged.ensures.refused
          (subst (λ k. IsListLoaded settings (kept_of k) c.in_ok-list.list) (sym c.into_kept-kept.ensures) c.in_ok-list.ensures.loaded)
          (subst (λ k. AllZip (IsNumberedOn (kept_of k) c.in_ok-list.list) c.args.entries.items c.in_ok-list.ids.items) (sym c.into_kept-kept.ensures) (subst (λ xs. AllZip (IsNumberedOn new c.in_ok-list.list) xs c.in_ok-list.ids.items) c.as_slice.ensures.value c.in_ok-list.ensures.numbered))))))),
      untold c.from_residual-in_err-merged.result (error_of c.in_err-merged.field-0.0) _ c.from_residual-in_err-merged.ensures.1,
    )

pub returns-in_err-bundles-clause-headline : goal.returns-in_err-bundles-clause-headline
returns-in_err-bundles-clause-headline g c =
    let settings = settings_of c.args.self.config in
    let old = kept_of c.args.self.library.kept in
    let new = kept_of c.loaded.new.library.kept in (
      new,
      refused_beside_causes _ settings c.args.entries.items old new c.from_residual-in_err-bundles.result OutOfMemory c.from_residual-in_err-bundles.ensures.1
          (grows_along_entries _ settings c.as_slice.result.now c.args.entries.items old new c.as_slice.ensures.value c.in_ok-list.ensures.grows.grows)
          (handed_on c.from_residual-in_err-bundles.result OutOfMemory (IsRefusedBy _ settings (map entry_of c.args.entries.items) old new) c.from_residual-in_err-bundles.ensures.1
          (completed_stops _ settings (map entry_of c.args.entries.items) old new
          (completes_beside g.L.Load.may_load g.L.Load.may_fail_load g.R.Resolve.may_resolve g.R.Resolve.may_fail_resolve _ _ settings c.args.self.library.loader c.args.self.library.resolver (map entry_of c.args.entries.items) old new
          (subst (λ xs. Completes (parties_asked g.L.Load.may_load g.L.Load.may_fail_load g.R.Resolve.may_resolve g.R.Resolve.may_fail_resolve c.args.self.library.loader c.args.self.library.resolver) settings (map entry_of xs) old new) c.as_slice.ensures.value c.in_ok-list.ensures.completes)))),
      untold c.from_residual-in_err-bundles.result OutOfMemory _ c.from_residual-in_err-bundles.ensures.1,
    )

-- Bundles.

pub returns-clause-headline : goal.returns-clause-headline
returns-clause-headline g c =
    let settings = settings_of c.args.self.config in
    let old = kept_of c.args.self.library.kept in
    let new = kept_of c.loaded.new.library.kept in
    let may_load = g.L.Load.may_load c.args.self.library.loader in
    let may_fail_load = g.L.Load.may_fail_load c.args.self.library.loader in
    let may_resolve = g.R.Resolve.may_resolve c.args.self.library.resolver in
    let may_fail_resolve = g.R.Resolve.may_fail_resolve c.args.self.library.resolver in
    let read = subst (λ k. IsListLoaded settings (kept_of k) c.in_ok-list.list) (sym c.into_kept-kept.ensures) c.in_ok-list.ensures.loaded in
    let numbered = subst (λ k. AllZip (IsNumberedOn (kept_of k) c.in_ok-list.list) c.args.entries.items c.in_ok-list.ids.items) (sym c.into_kept-kept.ensures) (subst (λ xs. AllZip (IsNumberedOn new c.in_ok-list.list) xs c.in_ok-list.ids.items) c.as_slice.ensures.value c.in_ok-list.ensures.numbered) in
    let bundled = along c.into_kept-kept.ensures (λ k. AllZip (IsBundledFor (parties_of may_load may_fail_load may_resolve may_fail_resolve ((goal.Hook-dyn g (c.args.self.hook.vtable, c.args.self.hook.value)).may_give c.args.self.hook.value) ((goal.Hook-dyn g (c.args.self.hook.vtable, c.args.self.hook.value)).may_fail_hook c.args.self.hook.value)) settings (kept_of k)) c.args.entries.items c.in_ok-bundles.bundles.items)
    (along c.deref_box-1.ensures.1 (λ v. AllZip (IsBundledFor (parties_of may_load may_fail_load may_resolve may_fail_resolve ((goal.Hook-dyn g v).may_give v.1) ((goal.Hook-dyn g v).may_fail_hook v.1)) settings (kept_of c.into_kept-kept.result)) c.args.entries.items c.in_ok-bundles.bundles.items)
    (all_bundled_as may_load may_fail_load may_resolve may_fail_resolve _ _ settings (kept_of c.into_kept-kept.result) c.args.entries.items c.in_ok-bundles.bundles.items
    (all_finished c.args.self.config _ (kept_of c.into_kept-kept.result) c.args.entries.items c.in_ok-merged.merged.items c.in_ok-bundles.bundles.items (c.in_ok-merged.ensures.bundles read numbered) c.in_ok-bundles.ensures))) in (
      new,
      bundled_headline _ settings c.args.entries.items old new c.in_ok-bundles.bundles.items
          (grows_along_entries _ settings c.as_slice.result.now c.args.entries.items old new c.as_slice.ensures.value c.in_ok-list.ensures.grows.grows)
          (completes_beside g.L.Load.may_load g.L.Load.may_fail_load g.R.Resolve.may_resolve g.R.Resolve.may_fail_resolve _ _ settings c.args.self.library.loader c.args.self.library.resolver (map entry_of c.args.entries.items) old new
          (subst (λ xs. Completes (parties_asked g.L.Load.may_load g.L.Load.may_fail_load g.R.Resolve.may_resolve g.R.Resolve.may_fail_resolve c.args.self.library.loader c.args.self.library.resolver) settings (map entry_of xs) old new) c.as_slice.ensures.value c.in_ok-list.ensures.completes)) bundled,
      all_explained _ settings new c.args.entries.items c.in_ok-bundles.bundles.items c.in_ok-merged.causes.items bundled
          (along c.into_kept-kept.ensures (λ k. AllZip (AreCausesToldFor settings (kept_of k)) c.args.entries.items c.in_ok-merged.causes.items) (c.in_ok-merged.ensures.causes read numbered)),
    )
