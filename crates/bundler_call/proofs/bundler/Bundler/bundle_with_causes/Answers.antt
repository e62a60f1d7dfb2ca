-- A call ends as the headline says, and what is told beside the bundles explains them.
use Rattle.std.proofs.Common.{eqb-true, refl, sym, map, subst, ◌∙◌}
use Rattle.std.proofs.lemmas.List.{nil_from_length}
use Rattle.std.specs.List.{AllZip}
use Rattle.bundler_entry.specs.Unlinked.{error_of}
use Rattle.bundle_tree_names.specs.declared.error.Error.TheVariants.{OutOfMemory}
use Rattle.bundle_rules.specs.Judging.{Completes}
use Rattle.bundler_call.specs.Judged.{parties_asked, IsBundledFor, IsRefusalTold}
use Rattle.bundler_call.specs.Kept.{entry_of, kept_of, parties_of, settings_of}
use Rattle.bundler_call.specs.Linking.{IsNumberedOn, IsRefusalOfEntries}
use Rattle.bundler_call.proofs.Sources.{all_finished, along, grows_along_entries, all_bundled_as, refusal_as}
use Rattle.bundler_call.proofs.Leading.{answers_none, bundled_headline, completed_stops, empty_headline, refused_linking, some_entry, IsRefusedBy}
use Rattle.bundler_call.proofs.Calls.{with_call}
use Rattle.bundler_call.proofs.Explained.{all_explained, none_explained, refused_beside_causes}
use Rattle.bundler_call.proofs.Growing.{handed_on}
use Rattle.bundler_call.proofs.Unasked.{completes_beside, refused_beside}
use Rattle.bundler_call.proofs.bundler.Bundler.bundle_with_causes.Goals as goal

-- No entry.

pub returns-then-is_empty-clause-headline : goal.returns-then-is_empty-clause-headline
returns-then-is_empty-clause-headline g c =
    empty_headline _ (settings_of c.args.self.now.config) c.args.entries.items _ (kept_of c.args.self.now.library.kept)
    (nil_from_length c.args.entries.items (sym c.args.entries.ok.0 ∙ eqb-true _ 0 (sym c.is_empty.ensures ∙ c.if-is_empty.true)))
    c.new.ensures.items

pub returns-then-is_empty-clause-no_entry : goal.returns-then-is_empty-clause-no_entry
returns-then-is_empty-clause-no_entry g c = λ none. (answers_none _ (kept_of c.args.self.now.library.kept) c.new.ensures.items, refl)

pub loaded-requires : goal.loaded-requires
loaded-requires g c = some_entry c.args.entries.items c.as_slice.result.now _ _ c.args.entries.ok.0 c.is_empty.ensures c.if-is_empty.false c.as_slice.ensures.value

-- Refusals.

pub returns-in_err-list-clause-loader : goal.returns-in_err-list-clause-loader
returns-in_err-list-clause-loader g c = c.in_err-list.ensures.lent refl

pub returns-in_err-list-clause-resolver : goal.returns-in_err-list-clause-resolver
returns-in_err-list-clause-resolver g c = c.in_err-list.ensures.grows.resolver

pub returns-in_err-merged-clause-loader : goal.returns-in_err-merged-clause-loader
returns-in_err-merged-clause-loader g c = c.in_ok-list.ensures.lent refl

pub returns-in_err-merged-clause-resolver : goal.returns-in_err-merged-clause-resolver
returns-in_err-merged-clause-resolver g c = c.in_ok-list.ensures.grows.resolver

pub returns-in_err-bundles-clause-loader : goal.returns-in_err-bundles-clause-loader
returns-in_err-bundles-clause-loader g c = c.in_ok-list.ensures.lent refl

pub returns-in_err-bundles-clause-resolver : goal.returns-in_err-bundles-clause-resolver
returns-in_err-bundles-clause-resolver g c = c.in_ok-list.ensures.grows.resolver

pub returns-clause-loader : goal.returns-clause-loader
returns-clause-loader g c = c.in_ok-list.ensures.lent refl

pub returns-clause-resolver : goal.returns-clause-resolver
returns-clause-resolver g c = c.in_ok-list.ensures.grows.resolver

pub returns-in_err-list-clause-headline : goal.returns-in_err-list-clause-headline
returns-in_err-list-clause-headline g c =
    let settings = settings_of c.args.self.now.config in
    let old = kept_of c.args.self.now.library.kept in
    let new = kept_of c.loaded.new.library.kept in
    refused_beside_causes _ settings c.args.entries.items old new c.from_residual.result c.in_err-list.field-0.0 c.from_residual.ensures.1
    (grows_along_entries _ settings c.as_slice.result.now c.args.entries.items old new c.as_slice.ensures.value c.in_err-list.ensures.grows.grows)
    (refused_beside g.L.Load.may_load g.L.Load.may_fail_load g.R.Resolve.may_resolve g.R.Resolve.may_fail_resolve _ _ settings c.args.self.now.library.loader c.args.self.now.library.resolver c.from_residual.result c.in_err-list.field-0.0 c.from_residual.ensures.1 (map entry_of c.args.entries.items) old new
    (subst (λ xs. IsRefusalTold (parties_asked g.L.Load.may_load g.L.Load.may_fail_load g.R.Resolve.may_resolve g.R.Resolve.may_fail_resolve c.args.self.now.library.loader c.args.self.now.library.resolver) settings (map entry_of xs) old new c.in_err-list.field-0.0) c.as_slice.ensures.value c.in_err-list.ensures.refused))

pub returns-in_err-merged-clause-headline : goal.returns-in_err-merged-clause-headline
returns-in_err-merged-clause-headline g c =
    let settings = settings_of c.args.self.now.config in
    let old = kept_of c.args.self.now.library.kept in
    let new = kept_of c.loaded.new.library.kept in
    let may_load = g.L.Load.may_load c.args.self.now.library.loader in
    let may_fail_load = g.L.Load.may_fail_load c.args.self.now.library.loader in
    let may_resolve = g.R.Resolve.may_resolve c.args.self.now.library.resolver in
    let may_fail_resolve = g.R.Resolve.may_fail_resolve c.args.self.now.library.resolver in
    refused_beside_causes _ settings c.args.entries.items old new c.from_residual-in_err-merged.result (error_of c.in_err-merged.field-0.0) c.from_residual-in_err-merged.ensures.1
    (grows_along_entries _ settings c.as_slice.result.now c.args.entries.items old new c.as_slice.ensures.value c.in_ok-list.ensures.grows.grows)
    (refused_linking _ settings _ (map entry_of c.args.entries.items) old new c.in_err-merged.field-0.0 c.from_residual-in_err-merged.ensures.1
    (completes_beside g.L.Load.may_load g.L.Load.may_fail_load g.R.Resolve.may_resolve g.R.Resolve.may_fail_resolve _ _ settings c.args.self.now.library.loader c.args.self.now.library.resolver (map entry_of c.args.entries.items) old new
    (subst (λ xs. Completes (parties_asked g.L.Load.may_load g.L.Load.may_fail_load g.R.Resolve.may_resolve g.R.Resolve.may_fail_resolve c.args.self.now.library.loader c.args.self.now.library.resolver) settings (map entry_of xs) old new) c.as_slice.ensures.value c.in_ok-list.ensures.completes))
    (along c.deref_box-1.ensures.1 (λ v. IsRefusalOfEntries (parties_of may_load may_fail_load may_resolve may_fail_resolve ((goal.Hook-dyn g v).may_give v.1) ((goal.Hook-dyn g v).may_fail_hook v.1)) settings new (map entry_of c.args.entries.items) c.in_err-merged.field-0.0)
    (refusal_as may_load may_fail_load may_resolve may_fail_resolve _ _ new settings (map entry_of c.args.entries.items) c.in_err-merged.field-0.0
    (c.in_err-merged.ensures.refused c.in_ok-list.ensures.loaded
    (subst (λ xs. AllZip (IsNumberedOn new c.in_ok-list.list) xs c.in_ok-list.ids.items) c.as_slice.ensures.value c.in_ok-list.ensures.numbered)))))

pub returns-in_err-bundles-clause-headline : goal.returns-in_err-bundles-clause-headline
returns-in_err-bundles-clause-headline g c =
    let settings = settings_of c.args.self.now.config in
    let old = kept_of c.args.self.now.library.kept in
    let new = kept_of c.loaded.new.library.kept in
    refused_beside_causes _ settings c.args.entries.items old new c.from_residual-in_err-bundles.result OutOfMemory c.from_residual-in_err-bundles.ensures.1
    (grows_along_entries _ settings c.as_slice.result.now c.args.entries.items old new c.as_slice.ensures.value c.in_ok-list.ensures.grows.grows)
    (handed_on c.from_residual-in_err-bundles.result OutOfMemory (IsRefusedBy _ settings (map entry_of c.args.entries.items) old new) c.from_residual-in_err-bundles.ensures.1
    (completed_stops _ settings (map entry_of c.args.entries.items) old new
    (completes_beside g.L.Load.may_load g.L.Load.may_fail_load g.R.Resolve.may_resolve g.R.Resolve.may_fail_resolve _ _ settings c.args.self.now.library.loader c.args.self.now.library.resolver (map entry_of c.args.entries.items) old new
    (subst (λ xs. Completes (parties_asked g.L.Load.may_load g.L.Load.may_fail_load g.R.Resolve.may_resolve g.R.Resolve.may_fail_resolve c.args.self.now.library.loader c.args.self.now.library.resolver) settings (map entry_of xs) old new) c.as_slice.ensures.value c.in_ok-list.ensures.completes))))

-- Bundles.

pub returns-clause-headline : goal.returns-clause-headline
returns-clause-headline g c =
    let settings = settings_of c.args.self.now.config in
    let old = kept_of c.args.self.now.library.kept in
    let new = kept_of c.loaded.new.library.kept in
    let may_load = g.L.Load.may_load c.args.self.now.library.loader in
    let may_fail_load = g.L.Load.may_fail_load c.args.self.now.library.loader in
    let may_resolve = g.R.Resolve.may_resolve c.args.self.now.library.resolver in
    let may_fail_resolve = g.R.Resolve.may_fail_resolve c.args.self.now.library.resolver in
    bundled_headline _ settings c.args.entries.items old new c.in_ok-bundles.bundles.items
    (grows_along_entries _ settings c.as_slice.result.now c.args.entries.items old new c.as_slice.ensures.value c.in_ok-list.ensures.grows.grows)
    (completes_beside g.L.Load.may_load g.L.Load.may_fail_load g.R.Resolve.may_resolve g.R.Resolve.may_fail_resolve _ _ settings c.args.self.now.library.loader c.args.self.now.library.resolver (map entry_of c.args.entries.items) old new
    (subst (λ xs. Completes (parties_asked g.L.Load.may_load g.L.Load.may_fail_load g.R.Resolve.may_resolve g.R.Resolve.may_fail_resolve c.args.self.now.library.loader c.args.self.now.library.resolver) settings (map entry_of xs) old new) c.as_slice.ensures.value c.in_ok-list.ensures.completes))
    (along c.deref_box-1.ensures.1 (λ v. AllZip (IsBundledFor (parties_of may_load may_fail_load may_resolve may_fail_resolve ((goal.Hook-dyn g v).may_give v.1) ((goal.Hook-dyn g v).may_fail_hook v.1)) settings new) c.args.entries.items c.in_ok-bundles.bundles.items)
    (all_bundled_as may_load may_fail_load may_resolve may_fail_resolve _ _ settings new c.args.entries.items c.in_ok-bundles.bundles.items
    (all_finished c.args.self.now.config _ new c.args.entries.items c.in_ok-merged.merged.items c.in_ok-bundles.bundles.items (c.in_ok-merged.ensures.bundles c.in_ok-list.ensures.loaded
    (subst (λ xs. AllZip (IsNumberedOn new c.in_ok-list.list) xs c.in_ok-list.ids.items) c.as_slice.ensures.value c.in_ok-list.ensures.numbered)) c.in_ok-bundles.ensures)))

-- What is told of items.

pub returns-then-is_empty-clause-causes : goal.returns-then-is_empty-clause-causes
returns-then-is_empty-clause-causes g c =
    none_explained _ (settings_of c.args.self.now.config) (kept_of c.args.self.now.library.kept) c.args.entries.items _ _
    (nil_from_length c.args.entries.items (sym c.args.entries.ok.0 ∙ eqb-true _ 0 (sym c.is_empty.ensures ∙ c.if-is_empty.true)))
    c.new.ensures.items c.new-then-is_empty.ensures.items

pub returns-clause-causes : goal.returns-clause-causes
returns-clause-causes g c =
    let settings = settings_of c.args.self.now.config in
    let new = kept_of c.loaded.new.library.kept in
    let may_load = g.L.Load.may_load c.args.self.now.library.loader in
    let may_fail_load = g.L.Load.may_fail_load c.args.self.now.library.loader in
    let may_resolve = g.R.Resolve.may_resolve c.args.self.now.library.resolver in
    let may_fail_resolve = g.R.Resolve.may_fail_resolve c.args.self.now.library.resolver in
    all_explained _ settings new c.args.entries.items c.in_ok-bundles.bundles.items c.in_ok-merged.causes.items
    (along c.deref_box-1.ensures.1 (λ v. AllZip (IsBundledFor (parties_of may_load may_fail_load may_resolve may_fail_resolve ((goal.Hook-dyn g v).may_give v.1) ((goal.Hook-dyn g v).may_fail_hook v.1)) settings new) c.args.entries.items c.in_ok-bundles.bundles.items)
    (all_bundled_as may_load may_fail_load may_resolve may_fail_resolve _ _ settings new c.args.entries.items c.in_ok-bundles.bundles.items
    (all_finished c.args.self.now.config _ new c.args.entries.items c.in_ok-merged.merged.items c.in_ok-bundles.bundles.items (c.in_ok-merged.ensures.bundles c.in_ok-list.ensures.loaded
    (subst (λ xs. AllZip (IsNumberedOn new c.in_ok-list.list) xs c.in_ok-list.ids.items) c.as_slice.ensures.value c.in_ok-list.ensures.numbered)) c.in_ok-bundles.ensures)))
    (c.in_ok-merged.ensures.causes c.in_ok-list.ensures.loaded
    (subst (λ xs. AllZip (IsNumberedOn new c.in_ok-list.list) xs c.in_ok-list.ids.items) c.as_slice.ensures.value c.in_ok-list.ensures.numbered))

-- Many calls.

pub returns-then-is_empty-clause-calls : goal.returns-then-is_empty-clause-calls
returns-then-is_empty-clause-calls g c = λ first calls before. with_call (returns-then-is_empty-clause-headline g c) before

pub returns-in_err-list-clause-calls : goal.returns-in_err-list-clause-calls
returns-in_err-list-clause-calls g c = λ first calls before. with_call (returns-in_err-list-clause-headline g c) before

pub returns-in_err-merged-clause-calls : goal.returns-in_err-merged-clause-calls
returns-in_err-merged-clause-calls g c = λ first calls before. with_call (returns-in_err-merged-clause-headline g c) before

pub returns-in_err-bundles-clause-calls : goal.returns-in_err-bundles-clause-calls
returns-in_err-bundles-clause-calls g c = λ first calls before. with_call (returns-in_err-bundles-clause-headline g c) before

pub returns-clause-calls : goal.returns-clause-calls
returns-clause-calls g c = λ first calls before. with_call (returns-clause-headline g c) before
