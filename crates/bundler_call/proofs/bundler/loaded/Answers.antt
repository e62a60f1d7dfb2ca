-- The files of the entries get their numbers, and then all that they need is loaded, or the first fault on that way is told.
use Rattle.std.proofs.Common.{◌∙◌}
use Rattle.bundle_rules.specs.Faults.{fault_of}
use Rattle.bundle_rules.specs.Judging.{GoesOn, LoadsAll}
use Rattle.bundler_call.specs.Bundler.{entry_files}
use Rattle.bundler_call.specs.Judged.{parties_asked, refused_by}
use Rattle.bundler_call.specs.Kept.{kept_of, settings_of}
use Rattle.bundler_call.specs.Loading.{files_on}
use Rattle.bundler_call.proofs.Sources.{all_on, proceeds_lent, proceeds_refl, proceeds_stays, proceeds_trans, stands_as}
use Rattle.bundler_call.proofs.Leading.{completes, refused_list, refused_loading, refused_number, all_still_numbered}
use Rattle.bundler_call.proofs.Growing.{still_bounded, as_before}
use Rattle.bundler_call.proofs.bundler.loaded.Goals as goal

-- Refusals.

pub returns-in_err-refuse_doubled_entry-clause-grows : goal.returns-in_err-refuse_doubled_entry-clause-grows
returns-in_err-refuse_doubled_entry-clause-grows g c =
    proceeds_refl _ _ (settings_of c.args.config.now) (entry_files c.args.entries.now) _ _ (kept_of c.args.library.now.kept)

pub returns-in_err-refuse_doubled_entry-clause-refused : goal.returns-in_err-refuse_doubled_entry-clause-refused
returns-in_err-refuse_doubled_entry-clause-refused g c =
    refused_list (parties_asked g.L.Load.may_load g.L.Load.may_fail_load g.R.Resolve.may_resolve g.R.Resolve.may_fail_resolve c.args.library.now.loader c.args.library.now.resolver)
    (settings_of c.args.config.now) c.from_residual.result c.in_err-refuse_doubled_entry.field-0.0 c.args.entries.now (kept_of c.args.library.now.kept) c.from_residual.ensures.1
    c.in_err-refuse_doubled_entry.ensures.doubled

pub returns-in_err-list-clause-grows : goal.returns-in_err-list-clause-grows
returns-in_err-list-clause-grows g c =
    proceeds_lent _ _ (settings_of c.args.config.now) (entry_files c.args.entries.now) _ _ _ _ _ _ (c.in_err-list.ensures.grows (settings_of c.args.config.now))

pub returns-in_err-list-clause-refused : goal.returns-in_err-list-clause-refused
returns-in_err-list-clause-refused g c =
    let old = kept_of c.args.library.now.kept in
    refused_number (parties_asked g.L.Load.may_load g.L.Load.may_fail_load g.R.Resolve.may_resolve g.R.Resolve.may_fail_resolve c.args.library.now.loader c.args.library.now.resolver)
    (settings_of c.args.config.now) c.args.entries.now c.in_ok-refuse_doubled_entry.ensures.apart old old (kept_of c.numbered.new.library.kept) _ _ c.from_residual-in_err-list.ensures.1
    c.in_err-list.ensures.judged

pub returns-in_err-list-2-clause-grows : goal.returns-in_err-list-2-clause-grows
returns-in_err-list-2-clause-grows g c =
    let settings = settings_of c.args.config.now in
    let files = entry_files c.args.entries.now in
    let first = c.in_ok-list.ensures.grows settings in
    proceeds_trans _ g.L.Load.may_fail_load _ settings files _ _ _ _ _ _ _ _ (proceeds_lent _ _ settings files _ _ _ _ _ _ first)
    (stands_as g.L.Load.may_load g.L.Load.may_fail_load c.args.library.now.loader c.numbered.new.library.loader (kept_of c.numbered.new.library.kept) first.loader) (c.in_err-list-2.ensures.grows files)

pub returns-in_err-list-2-clause-refused : goal.returns-in_err-list-2-clause-refused
returns-in_err-list-2-clause-refused g c =
    let settings = settings_of c.args.config.now in
    let old = kept_of c.args.library.now.kept in
    let mid = kept_of c.numbered.new.library.kept in
    let new = kept_of c.load_all.new.library.kept in
    let first = c.in_ok-list.ensures.grows settings in
    let apart = c.in_ok-refuse_doubled_entry.ensures.apart in
    refused_loading (parties_asked g.L.Load.may_load g.L.Load.may_fail_load g.R.Resolve.may_resolve g.R.Resolve.may_fail_resolve c.args.library.now.loader c.args.library.now.resolver)
    settings c.args.entries.now apart old mid new _ c.in_err-list-2.field-0.0 c.from_residual-in_err-list-2.ensures.1 (files_on c.in_ok-list.list) c.in_ok-list.ensures.judged (c.in_ok-list.ensures.all apart)
    (as_before (λ l r. LoadsAll (parties_asked g.L.Load.may_load g.L.Load.may_fail_load g.R.Resolve.may_resolve g.R.Resolve.may_fail_resolve l r) settings (files_on c.in_ok-list.list) 0 mid (refused_by (fault_of c.in_err-list-2.field-0.0)) new)
    _ _ _ _ first.loader first.resolver c.in_err-list-2.ensures.judged)

-- All is loaded.

pub returns-clause-grows : goal.returns-clause-grows
returns-clause-grows g c =
    let settings = settings_of c.args.config.now in
    let files = entry_files c.args.entries.now in
    let first = c.in_ok-list.ensures.grows settings in
    proceeds_trans _ g.L.Load.may_fail_load _ settings files _ _ _ _ _ _ _ _ (proceeds_lent _ _ settings files _ _ _ _ _ _ first)
    (stands_as g.L.Load.may_load g.L.Load.may_fail_load c.args.library.now.loader c.numbered.new.library.loader (kept_of c.numbered.new.library.kept) first.loader) (c.in_ok-list-2.ensures.grows files)

pub returns-clause-loaded : goal.returns-clause-loaded
returns-clause-loaded g c =
    let settings = settings_of c.args.config.now in
    let files = entry_files c.args.entries.now in
    let asked = c.in_ok-list-2.ensures.asked c.in_ok-list.ensures.unasked c.in_ok-list.ensures.listed in
    record {
      once = c.in_ok-list-2.ensures.once;
      numbered = c.in_ok-list-2.ensures.numbered c.in_ok-list.ensures.listed;
      bounded = still_bounded _ settings files (kept_of c.numbered.new.library.kept) (kept_of c.load_all.new.library.kept) (c.in_ok-list-2.ensures.grows files).grows (c.in_ok-list.ensures.bounded c.requires);
      asked = asked.0;
      long = asked.1;
    }

pub returns-clause-numbered : goal.returns-clause-numbered
returns-clause-numbered g c =
    let settings = settings_of c.args.config.now in
    let files = entry_files c.args.entries.now in
    let mid = kept_of c.numbered.new.library.kept in
    let new = kept_of c.load_all.new.library.kept in
    all_on new c.in_ok-list-2.list (c.in_ok-list-2.ensures.numbered c.in_ok-list.ensures.listed) c.args.entries.now c.in_ok-list.ids.items (files_on c.in_ok-list.list) c.in_ok-list-2.ensures.begins
    (c.in_ok-list.ensures.all c.in_ok-refuse_doubled_entry.ensures.apart)
    (all_still_numbered mid new (proceeds_stays _ _ settings files _ _ _ _ _ (c.in_ok-list-2.ensures.grows files)) c.args.entries.now c.in_ok-list.ids.items c.in_ok-list.ensures.numbered)

pub returns-clause-completes : goal.returns-clause-completes
returns-clause-completes g c =
    let settings = settings_of c.args.config.now in
    let old = kept_of c.args.library.now.kept in
    let mid = kept_of c.numbered.new.library.kept in
    let new = kept_of c.load_all.new.library.kept in
    let first = c.in_ok-list.ensures.grows settings in
    let apart = c.in_ok-refuse_doubled_entry.ensures.apart in
    completes (parties_asked g.L.Load.may_load g.L.Load.may_fail_load g.R.Resolve.may_resolve g.R.Resolve.may_fail_resolve c.args.library.now.loader c.args.library.now.resolver)
    settings c.args.entries.now apart old mid new (files_on c.in_ok-list.list) c.in_ok-list.ensures.judged (c.in_ok-list.ensures.all apart)
    (as_before (λ l r. LoadsAll (parties_asked g.L.Load.may_load g.L.Load.may_fail_load g.R.Resolve.may_resolve g.R.Resolve.may_fail_resolve l r) settings (files_on c.in_ok-list.list) 0 mid GoesOn new)
    _ _ _ _ first.loader first.resolver c.in_ok-list-2.ensures.judged)

pub returns-in_err-list-clause-lent : goal.returns-in_err-list-clause-lent
returns-in_err-list-clause-lent g c = λ lent. (c.in_err-list.ensures.grows (settings_of c.args.config.now)).loader

pub returns-in_err-list-2-clause-lent : goal.returns-in_err-list-2-clause-lent
returns-in_err-list-2-clause-lent g c = λ lent. c.in_err-list-2.ensures.lent lent ∙ (c.in_ok-list.ensures.grows (settings_of c.args.config.now)).loader

pub returns-clause-lent : goal.returns-clause-lent
returns-clause-lent g c = λ lent. c.in_ok-list-2.ensures.lent lent ∙ (c.in_ok-list.ensures.grows (settings_of c.args.config.now)).loader
