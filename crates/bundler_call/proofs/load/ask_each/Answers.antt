-- What is kept grows by the answers to each request, and the list grows at its end.
use Rattle.std.proofs.Common.{◌≡◌, [], ◌∷◌, ◌++◌, ap, map, refl, rules, sym, ◌∙◌}
use Rattle.std.specs.String.{string_bytes}
use Rattle.std.proofs.lemmas.List.{nil_from_length}
use Rattle.bundle_tree_names.specs.FileName.{name_of}
use Rattle.bundle_tree_names.specs.declared.error.Error.TheVariants.{OutOfMemory}
use Rattle.bundle_rules.specs.Faults.{fault_of}
use Rattle.bundle_rules.specs.Judging as j
use Rattle.bundle_rules.specs.Judging.{Asks, GoesOn, Stopped}
use Rattle.bundler_call.specs.Judged.{parties_asked, refused_by}
use Rattle.bundler_call.specs.Kept.{kept_of}
use Rattle.bundler_call.specs.Loading.{files_on, ids_on}
use Rattle.bundler_call.proofs.Growing.{advances_refl, advances_trans, remains_refl, remains_trans, still_kept, as_before, ends_handed, goes_not_on, asks_end, asks_from_start, asks_next, asks_stop, requested_along, requested_first, requested_rest}
use Rattle.bundler_call.proofs.Leading.{all_lead_more, all_lead_none, texts_all, texts_more, texts_of, begins_refl, begins_trans}
use Rattle.bundler_call.proofs.load.ask_each.Goals as goal

pub loop-specifier-init : goal.loop-specifier-init
loop-specifier-init g c =
    let same : c.into_iter-specifier-iterator.result.rest.items ≡ c.args.specifiers.items = search rules in (
      remains_refl _ _ (kept_of c.args.library.now.kept),
      c.requires.met,
      begins_refl _,
      c.requires.loaded,
      asks_from_start (parties_asked g.L.Load.may_load g.L.Load.may_fail_load g.R.Resolve.may_resolve g.R.Resolve.may_fail_resolve c.args.library.now.loader c.args.library.now.resolver) (name_of c.args.file.now) (map string_bytes c.args.specifiers.items) (map string_bytes c.into_iter-specifier-iterator.result.rest.items) (kept_of c.args.library.now.kept) (files_on c.args.list.now) (ap (map string_bytes) same),
      λ numbered. (numbered, all_lead_none (kept_of c.args.library.now.kept) (ids_on c.args.list.now) (name_of c.args.file.now) c.new-deps.result.items c.new-deps.ensures.items),
      sym (ap (map string_bytes) same) ∙ ap (λ l. texts_of l ++ map string_bytes c.into_iter-specifier-iterator.result.rest.items) (sym c.new-deps.ensures.items),
      refl,
      λ settings are. (requested_along settings (kept_of c.args.library.now.kept) (name_of c.args.file.now) _ _ (ap (map string_bytes) same) are, λ entries. advances_refl _ _ settings entries _ _ (kept_of c.args.library.now.kept)),
    )

pub returns-in_err-id-clause-grows : goal.returns-in_err-id-clause-grows
returns-in_err-id-clause-grows g c = λ settings entries are.
    let so_far = c.loop-specifier.invariant.8 settings are in
    advances_trans _ _ settings entries _ _ _ _ _ _ _ _ _ (so_far.1 entries) (c.in_err-id.ensures.grows settings entries (requested_first settings (kept_of c.loop-specifier.library.kept) (name_of c.args.file.now) _ (map string_bytes c.next.new.self.rest.items) _ (ap (map string_bytes) c.in-Some.ensures.steps.0) so_far.0))

pub returns-in_err-id-clause-keeps : goal.returns-in_err-id-clause-keeps
returns-in_err-id-clause-keeps g c = remains_trans _ _ _ _ _ _ _ _ _ c.loop-specifier.invariant.0 c.in_err-id.ensures.keeps

pub returns-in_err-id-clause-judged : goal.returns-in_err-id-clause-judged
returns-in_err-id-clause-judged g c =
    let outcome = refused_by (fault_of c.in_err-id.field-0.0) in
    ends_handed _ c.in_err-id.field-0.0 _ c.from_residual.ensures.1
    (asks_stop (parties_asked g.L.Load.may_load g.L.Load.may_fail_load g.R.Resolve.may_resolve g.R.Resolve.may_fail_resolve c.args.library.now.loader c.args.library.now.resolver) (name_of c.args.file.now) (map string_bytes c.args.specifiers.items) (map string_bytes c.loop-specifier.specifier-iterator.rest.items) (map string_bytes c.next.new.self.rest.items) (string_bytes c.in-Some.specifier) (kept_of c.args.library.now.kept) (kept_of c.loop-specifier.library.kept) (kept_of c.id_of.new.library.kept) (files_on c.args.list.now) (files_on c.loop-specifier.list) (files_on c.id_of.new.list) outcome (goes_not_on (fault_of c.in_err-id.field-0.0)) (ap (map string_bytes) c.in-Some.ensures.steps.0) c.loop-specifier.invariant.4
    (as_before (λ l r. Asks (parties_asked g.L.Load.may_load g.L.Load.may_fail_load g.R.Resolve.may_resolve g.R.Resolve.may_fail_resolve l r) (name_of c.args.file.now) (string_bytes c.in-Some.specifier ∷ []) (kept_of c.loop-specifier.library.kept) (files_on c.loop-specifier.list) outcome (kept_of c.id_of.new.library.kept) (files_on c.id_of.new.list)) _ _ _ _ c.loop-specifier.invariant.0.loader c.loop-specifier.invariant.0.resolver c.in_err-id.ensures.judged))

pub returns-in_err-push-clause-judged : goal.returns-in_err-push-clause-judged
returns-in_err-push-clause-judged g c =
    ends_handed _ OutOfMemory _ c.from_residual-in_err-push.ensures.1
    (asks_next (parties_asked g.L.Load.may_load g.L.Load.may_fail_load g.R.Resolve.may_resolve g.R.Resolve.may_fail_resolve c.args.library.now.loader c.args.library.now.resolver) (name_of c.args.file.now) (map string_bytes c.args.specifiers.items) (map string_bytes c.loop-specifier.specifier-iterator.rest.items) (map string_bytes c.next.new.self.rest.items) (string_bytes c.in-Some.specifier) (kept_of c.args.library.now.kept) (kept_of c.loop-specifier.library.kept) (kept_of c.id_of.new.library.kept) (files_on c.args.list.now) (files_on c.loop-specifier.list) (files_on c.id_of.new.list) (ap (map string_bytes) c.in-Some.ensures.steps.0) c.loop-specifier.invariant.4
    (as_before (λ l r. Asks (parties_asked g.L.Load.may_load g.L.Load.may_fail_load g.R.Resolve.may_resolve g.R.Resolve.may_fail_resolve l r) (name_of c.args.file.now) (string_bytes c.in-Some.specifier ∷ []) (kept_of c.loop-specifier.library.kept) (files_on c.loop-specifier.list) GoesOn (kept_of c.id_of.new.library.kept) (files_on c.id_of.new.list)) _ _ _ _ c.loop-specifier.invariant.0.loader c.loop-specifier.invariant.0.resolver c.in_ok-id.ensures.judged)
    Stopped (kept_of c.id_of.new.library.kept) (files_on c.id_of.new.list) j.Asks.stopped)

pub id_of-requires-clause-numbered : goal.id_of-requires-clause-numbered
id_of-requires-clause-numbered g c = (c.loop-specifier.invariant.5 c.requires.numbered).0

pub loop-specifier-preserved : goal.loop-specifier-preserved
loop-specifier-preserved g c = (
  remains_trans _ _ _ _ _ _ _ _ _ c.loop-specifier.invariant.0 c.in_ok-id.ensures.keeps,
  c.in_ok-id.ensures.met,
  begins_trans _ _ _ c.loop-specifier.invariant.2 c.in_ok-id.ensures.begins,
  still_kept _ _ c.in_ok-id.ensures.keeps.stays (name_of c.args.file.now) c.loop-specifier.invariant.3,
  asks_next (parties_asked g.L.Load.may_load g.L.Load.may_fail_load g.R.Resolve.may_resolve g.R.Resolve.may_fail_resolve c.args.library.now.loader c.args.library.now.resolver) (name_of c.args.file.now) (map string_bytes c.args.specifiers.items) (map string_bytes c.loop-specifier.specifier-iterator.rest.items) (map string_bytes c.next.new.self.rest.items) (string_bytes c.in-Some.specifier) (kept_of c.args.library.now.kept) (kept_of c.loop-specifier.library.kept) (kept_of c.id_of.new.library.kept) (files_on c.args.list.now) (files_on c.loop-specifier.list) (files_on c.id_of.new.list) (ap (map string_bytes) c.in-Some.ensures.steps.0) c.loop-specifier.invariant.4
      (as_before (λ l r. Asks (parties_asked g.L.Load.may_load g.L.Load.may_fail_load g.R.Resolve.may_resolve g.R.Resolve.may_fail_resolve l r) (name_of c.args.file.now) (string_bytes c.in-Some.specifier ∷ []) (kept_of c.loop-specifier.library.kept) (files_on c.loop-specifier.list) GoesOn (kept_of c.id_of.new.library.kept) (files_on c.id_of.new.list)) _ _ _ _ c.loop-specifier.invariant.0.loader c.loop-specifier.invariant.0.resolver c.in_ok-id.ensures.judged),
  λ numbered.
      let before = c.loop-specifier.invariant.5 numbered in
      let after = c.in_ok-id.ensures.numbered before.0 in (
        after,
        all_lead_more (kept_of c.loop-specifier.library.kept) (kept_of c.id_of.new.library.kept) c.loop-specifier.list.files c.id_of.new.list.files
            (record { stays = c.in_ok-id.ensures.keeps.stays; begins = c.in_ok-id.ensures.begins; before = before.0; after = after })
            (name_of c.args.file.now) c.loop-specifier.deps.items c.push.new.self.items (c.in-Some.specifier, c.in_ok-id.id) c.in_ok-push.ensures.items before.1 (c.in_ok-id.ensures.leads before.0),
      ),
  texts_more (map string_bytes c.args.specifiers.items) c.loop-specifier.deps.items c.push.new.self.items (c.in-Some.specifier, c.in_ok-id.id) (map string_bytes c.loop-specifier.specifier-iterator.rest.items) (map string_bytes c.next.new.self.rest.items) c.in_ok-push.ensures.items (ap (map string_bytes) c.in-Some.ensures.steps.0) c.loop-specifier.invariant.6,
  c.in_ok-id.ensures.deps ∙ c.loop-specifier.invariant.7,
  λ settings are.
      let so_far = c.loop-specifier.invariant.8 settings are in (
        requested_rest settings (kept_of c.loop-specifier.library.kept) (kept_of c.id_of.new.library.kept) c.in_ok-id.ensures.keeps.stays (name_of c.args.file.now) _ (map string_bytes c.next.new.self.rest.items) _ (ap (map string_bytes) c.in-Some.ensures.steps.0) so_far.0,
        λ entries. advances_trans _ _ settings entries _ _ _ _ _ _ _ _ _ (so_far.1 entries) (c.in_ok-id.ensures.grows settings entries (requested_first settings (kept_of c.loop-specifier.library.kept) (name_of c.args.file.now) _ (map string_bytes c.next.new.self.rest.items) _ (ap (map string_bytes) c.in-Some.ensures.steps.0) so_far.0)),
      ),
)

pub returns-in_err-push-clause-grows : goal.returns-in_err-push-clause-grows
returns-in_err-push-clause-grows g c = λ settings entries are.
    let so_far = c.loop-specifier.invariant.8 settings are in
    advances_trans _ _ settings entries _ _ _ _ _ _ _ _ _ (so_far.1 entries) (c.in_ok-id.ensures.grows settings entries (requested_first settings (kept_of c.loop-specifier.library.kept) (name_of c.args.file.now) _ (map string_bytes c.next.new.self.rest.items) _ (ap (map string_bytes) c.in-Some.ensures.steps.0) so_far.0))

pub returns-in_err-push-clause-keeps : goal.returns-in_err-push-clause-keeps
returns-in_err-push-clause-keeps g c = remains_trans _ _ _ _ _ _ _ _ _ c.loop-specifier.invariant.0 c.in_ok-id.ensures.keeps

pub returns-clause-grows : goal.returns-clause-grows
returns-clause-grows g c = λ settings entries are. (c.loop-specifier.invariant.8 settings are).1 entries

pub returns-clause-judged : goal.returns-clause-judged
returns-clause-judged g c =
    let rest = c.loop-specifier.specifier-iterator.rest in
    asks_end (parties_asked g.L.Load.may_load g.L.Load.may_fail_load g.R.Resolve.may_resolve g.R.Resolve.may_fail_resolve c.args.library.now.loader c.args.library.now.resolver) (name_of c.args.file.now) (map string_bytes c.args.specifiers.items) (map string_bytes rest.items) (kept_of c.args.library.now.kept) (kept_of c.loop-specifier.library.kept) (files_on c.args.list.now) (files_on c.loop-specifier.list) (ap (map string_bytes) (nil_from_length rest.items (sym rest.ok.0 ∙ c.in-None.ensures.steps.0))) c.loop-specifier.invariant.4

pub returns-clause-asked : goal.returns-clause-asked
returns-clause-asked g c =
    let rest = c.loop-specifier.specifier-iterator.rest in
    texts_all (map string_bytes c.args.specifiers.items) c.loop-specifier.deps.items (map string_bytes rest.items) (ap (map string_bytes) (nil_from_length rest.items (sym rest.ok.0 ∙ c.in-None.ensures.steps.0))) c.loop-specifier.invariant.6

pub returns-clause-numbered : goal.returns-clause-numbered
returns-clause-numbered g c = λ numbered. (c.loop-specifier.invariant.5 numbered).0

pub returns-clause-leads : goal.returns-clause-leads
returns-clause-leads g c = λ numbered. (c.loop-specifier.invariant.5 numbered).1

pub returns-in_err-id-clause-deps : goal.returns-in_err-id-clause-deps
returns-in_err-id-clause-deps g c = c.in_err-id.ensures.deps ∙ c.loop-specifier.invariant.7
