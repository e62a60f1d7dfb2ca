-- What is kept grows by the loader's answer, and then by those to each request; the list grows at its end.
use Rattle.std.proofs.Common.{[], ap, map, subst, sym, ◌∙◌}
use Rattle.std.specs.String.{string_bytes}
use Rattle.bundle_tree_names.specs.FileName.{name_of}
use Rattle.bundle_tree_names.specs.declared.error.Error.TheVariants.{OutOfMemory}
use Rattle.bundle_rules.specs.Faults.{fault_of}
use Rattle.bundle_rules.specs.Judging as j
use Rattle.bundle_rules.specs.Judging.{GoesOn, Stopped}
use Rattle.bundler_call.specs.Judged.{parties_asked, refused_by}
use Rattle.bundler_call.specs.Kept.{kept_of, settings_of}
use Rattle.bundler_call.specs.Loading.{files_on, ids_on}
use Rattle.bundler_call.proofs.Growing.{still_sound, leads_handed, leads_told}
use Rattle.bundler_call.proofs.Sources.{asks_for, loads_for, proceeds_lent, proceeds_stays, proceeds_trans, stands_kept, told_for}
use Rattle.bundler_call.proofs.Leading.{all_asked, noted_last, still_all_numbered, AreNumberedIn, begins_along, names_of_entries, still_all_met}
use Rattle.bundler_call.proofs.Programs.{requested, sound, work_done, work_faulty, work_stopped, work_unloaded}
use Rattle.bundler_call.proofs.load.work_on.Goals as goal

pub kept_requests-requires : goal.kept_requests-requires
kept_requests-requires g c = record { external = c.requires.external; kept = c.in_ok-load.ensures.there }

pub ask_each-requires : goal.ask_each-requires
ask_each-requires g c = record { met = still_all_met _ (kept_of c.load.new.self.kept) (proceeds_stays _ _ (settings_of c.args.config.now) [] _ _ _ _ _ (c.in_ok-load.ensures.grows [])) _ c.requires.met; numbered = still_all_numbered (kept_of c.args.library.now.kept) (kept_of c.load.new.self.kept) (proceeds_stays _ _ (settings_of c.args.config.now) [] _ _ _ _ _ (c.in_ok-load.ensures.grows [])) c.args.list.now.files c.requires.numbered; loaded = c.in_ok-load.ensures.there }

pub returns-in_err-load-clause-judged : goal.returns-in_err-load-clause-judged
returns-in_err-load-clause-judged g c = λ first place stands there.
    leads_told _ _ _ _ _ _ c.from_residual.ensures.1 (λ f its. j.not_loaded there its)
    (work_unloaded (parties_asked g.L.Load.may_load g.L.Load.may_fail_load g.R.Resolve.may_resolve g.R.Resolve.may_fail_resolve first c.args.library.now.resolver) (settings_of c.args.config.now) (files_on c.args.list.now) place (kept_of c.args.library.now.kept) (kept_of c.load.new.self.kept) c.in_err-load.ensures.unchanged)
    (told_for g.L.Load.may_load g.L.Load.may_fail_load g.R.Resolve.may_resolve g.R.Resolve.may_fail_resolve first c.args.library.now.loader (fault_of c.in_err-load.field-0.0) (settings_of c.args.config.now) c.args.library.now.resolver (kept_of c.args.library.now.kept) (kept_of c.load.new.self.kept) (name_of c.args.file.now) stands c.in_err-load.ensures.judged)

pub returns-in_err-specifiers-clause-judged : goal.returns-in_err-specifiers-clause-judged
returns-in_err-specifiers-clause-judged g c = λ first place stands there. work_faulty (parties_asked g.L.Load.may_load g.L.Load.may_fail_load g.R.Resolve.may_resolve g.R.Resolve.may_fail_resolve first c.args.library.now.resolver) (settings_of c.args.config.now) (files_on c.args.list.now) place (name_of c.args.file.now) there (kept_of c.args.library.now.kept) (kept_of c.load.new.self.kept) (loads_for g.L.Load.may_load g.L.Load.may_fail_load g.R.Resolve.may_resolve g.R.Resolve.may_fail_resolve first c.args.library.now.loader (settings_of c.args.config.now) c.args.library.now.resolver (kept_of c.args.library.now.kept) (kept_of c.load.new.self.kept) (name_of c.args.file.now) GoesOn stands c.in_ok-load.ensures.judged) c.in_ok-load.ensures.there _ _ _ c.from_residual-in_err-specifiers.ensures.1 c.in_err-specifiers.ensures.faulty

pub returns-in_err-deps-clause-grows : goal.returns-in_err-deps-clause-grows
returns-in_err-deps-clause-grows g c = λ entries.
    proceeds_trans _ g.L.Load.may_fail_load _ (settings_of c.args.config.now) entries _ _ _ _ _ _ _ _ (c.in_ok-load.ensures.grows entries) c.in_ok-load.ensures.stands
    (proceeds_lent _ _ (settings_of c.args.config.now) entries _ _ _ _ _ _ (c.in_err-deps.ensures.grows (settings_of c.args.config.now) entries (requested (kept_of c.load.new.self.kept) (name_of c.args.file.now) (map string_bytes c.in_ok-specifiers.specifiers.items) (settings_of c.args.config.now) c.in_ok-load.ensures.there c.in_ok-specifiers.ensures.faultless)))

pub returns-in_err-deps-clause-judged : goal.returns-in_err-deps-clause-judged
returns-in_err-deps-clause-judged g c = λ first place stands there.
    let told = fault_of c.in_err-deps.field-0.0 in
    leads_handed _ c.in_err-deps.field-0.0 _ _ _ c.from_residual-in_err-deps.ensures.1
    (work_stopped (parties_asked g.L.Load.may_load g.L.Load.may_fail_load g.R.Resolve.may_resolve g.R.Resolve.may_fail_resolve first c.args.library.now.resolver) (settings_of c.args.config.now) (files_on c.args.list.now) place (name_of c.args.file.now) there (kept_of c.args.library.now.kept) (kept_of c.load.new.self.kept) (loads_for g.L.Load.may_load g.L.Load.may_fail_load g.R.Resolve.may_resolve g.R.Resolve.may_fail_resolve first c.args.library.now.loader (settings_of c.args.config.now) c.args.library.now.resolver (kept_of c.args.library.now.kept) (kept_of c.load.new.self.kept) (name_of c.args.file.now) GoesOn stands c.in_ok-load.ensures.judged) c.in_ok-load.ensures.there (map string_bytes c.in_ok-specifiers.specifiers.items) c.in_ok-specifiers.ensures.faultless (kept_of c.ask_each.new.library.kept) (files_on c.ask_each.new.list) told
    (asks_for g.L.Load.may_load g.L.Load.may_fail_load g.R.Resolve.may_resolve g.R.Resolve.may_fail_resolve first c.load.new.self.loader c.args.library.now.resolver c.load.new.self.resolver (name_of c.args.file.now) (map string_bytes c.in_ok-specifiers.specifiers.items) (kept_of c.load.new.self.kept) (kept_of c.ask_each.new.library.kept) (files_on c.args.list.now) (files_on c.ask_each.new.list) (refused_by told) (c.in_ok-load.ensures.grows []).resolver c.in_err-deps.ensures.judged))

pub returns-in_err-add_deps-clause-judged : goal.returns-in_err-add_deps-clause-judged
returns-in_err-add_deps-clause-judged g c = λ first place stands there.
    leads_handed _ OutOfMemory _ _ _ c.from_residual-in_err-add_deps.ensures.1
    (work_done (parties_asked g.L.Load.may_load g.L.Load.may_fail_load g.R.Resolve.may_resolve g.R.Resolve.may_fail_resolve first c.args.library.now.resolver) (settings_of c.args.config.now) (files_on c.args.list.now) place (name_of c.args.file.now) there (kept_of c.args.library.now.kept) (kept_of c.load.new.self.kept) (loads_for g.L.Load.may_load g.L.Load.may_fail_load g.R.Resolve.may_resolve g.R.Resolve.may_fail_resolve first c.args.library.now.loader (settings_of c.args.config.now) c.args.library.now.resolver (kept_of c.args.library.now.kept) (kept_of c.load.new.self.kept) (name_of c.args.file.now) GoesOn stands c.in_ok-load.ensures.judged) c.in_ok-load.ensures.there (map string_bytes c.in_ok-specifiers.specifiers.items) c.in_ok-specifiers.ensures.faultless (kept_of c.ask_each.new.library.kept) (files_on c.ask_each.new.list) (files_on c.add_deps.new.self)
    (asks_for g.L.Load.may_load g.L.Load.may_fail_load g.R.Resolve.may_resolve g.R.Resolve.may_fail_resolve first c.load.new.self.loader c.args.library.now.resolver c.load.new.self.resolver (name_of c.args.file.now) (map string_bytes c.in_ok-specifiers.specifiers.items) (kept_of c.load.new.self.kept) (kept_of c.ask_each.new.library.kept) (files_on c.args.list.now) (files_on c.ask_each.new.list) GoesOn (c.in_ok-load.ensures.grows []).resolver c.in_ok-deps.ensures.judged)
    (ap names_of_entries c.in_err-add_deps.ensures.files) Stopped (kept_of c.ask_each.new.library.kept) j.LoadsAll.stopped)

pub returns-in_err-add_deps-clause-grows : goal.returns-in_err-add_deps-clause-grows
returns-in_err-add_deps-clause-grows g c = λ entries.
    proceeds_trans _ g.L.Load.may_fail_load _ (settings_of c.args.config.now) entries _ _ _ _ _ _ _ _ (c.in_ok-load.ensures.grows entries) c.in_ok-load.ensures.stands
    (proceeds_lent _ _ (settings_of c.args.config.now) entries _ _ _ _ _ _ (c.in_ok-deps.ensures.grows (settings_of c.args.config.now) entries (requested (kept_of c.load.new.self.kept) (name_of c.args.file.now) (map string_bytes c.in_ok-specifiers.specifiers.items) (settings_of c.args.config.now) c.in_ok-load.ensures.there c.in_ok-specifiers.ensures.faultless)))

pub returns-clause-grows : goal.returns-clause-grows
returns-clause-grows g c = λ entries.
    proceeds_trans _ g.L.Load.may_fail_load _ (settings_of c.args.config.now) entries _ _ _ _ _ _ _ _ (c.in_ok-load.ensures.grows entries) c.in_ok-load.ensures.stands
    (proceeds_lent _ _ (settings_of c.args.config.now) entries _ _ _ _ _ _ (c.in_ok-deps.ensures.grows (settings_of c.args.config.now) entries (requested (kept_of c.load.new.self.kept) (name_of c.args.file.now) (map string_bytes c.in_ok-specifiers.specifiers.items) (settings_of c.args.config.now) c.in_ok-load.ensures.there c.in_ok-specifiers.ensures.faultless)))

pub returns-clause-loaded : goal.returns-clause-loaded
returns-clause-loaded g c =
    still_sound (kept_of c.load.new.self.kept) (kept_of c.ask_each.new.library.kept) c.in_ok-deps.ensures.keeps.stays (name_of c.args.file.now)
    (sound (kept_of c.load.new.self.kept) (name_of c.args.file.now) (map string_bytes c.in_ok-specifiers.specifiers.items) (settings_of c.args.config.now) c.in_ok-load.ensures.there c.in_ok-specifiers.ensures.faultless)

pub returns-clause-begins : goal.returns-clause-begins
returns-clause-begins g c = begins_along _ _ _ c.in_ok-deps.ensures.begins (ap names_of_entries c.in_ok-add_deps.ensures.files)

pub returns-clause-judged : goal.returns-clause-judged
returns-clause-judged g c = λ first place stands there.
    work_done (parties_asked g.L.Load.may_load g.L.Load.may_fail_load g.R.Resolve.may_resolve g.R.Resolve.may_fail_resolve first c.args.library.now.resolver) (settings_of c.args.config.now) (files_on c.args.list.now) place (name_of c.args.file.now) there (kept_of c.args.library.now.kept) (kept_of c.load.new.self.kept) (loads_for g.L.Load.may_load g.L.Load.may_fail_load g.R.Resolve.may_resolve g.R.Resolve.may_fail_resolve first c.args.library.now.loader (settings_of c.args.config.now) c.args.library.now.resolver (kept_of c.args.library.now.kept) (kept_of c.load.new.self.kept) (name_of c.args.file.now) GoesOn stands c.in_ok-load.ensures.judged) c.in_ok-load.ensures.there (map string_bytes c.in_ok-specifiers.specifiers.items) c.in_ok-specifiers.ensures.faultless (kept_of c.ask_each.new.library.kept) (files_on c.ask_each.new.list) (files_on c.add_deps.new.self)
    (asks_for g.L.Load.may_load g.L.Load.may_fail_load g.R.Resolve.may_resolve g.R.Resolve.may_fail_resolve first c.load.new.self.loader c.args.library.now.resolver c.load.new.self.resolver (name_of c.args.file.now) (map string_bytes c.in_ok-specifiers.specifiers.items) (kept_of c.load.new.self.kept) (kept_of c.ask_each.new.library.kept) (files_on c.args.list.now) (files_on c.ask_each.new.list) GoesOn (c.in_ok-load.ensures.grows []).resolver c.in_ok-deps.ensures.judged)
    (ap names_of_entries c.in_ok-add_deps.ensures.files)

pub returns-clause-numbered : goal.returns-clause-numbered
returns-clause-numbered g c = λ numbered.
    subst (AreNumberedIn (kept_of c.ask_each.new.library.kept)) (sym c.in_ok-add_deps.ensures.files)
    (c.in_ok-deps.ensures.numbered (still_all_numbered (kept_of c.args.library.now.kept) (kept_of c.load.new.self.kept) (proceeds_stays _ _ (settings_of c.args.config.now) [] _ _ _ _ _ (c.in_ok-load.ensures.grows [])) c.args.list.now.files numbered))

pub returns-clause-asked : goal.returns-clause-asked
returns-clause-asked g c = λ numbered.
    let leads = c.in_ok-deps.ensures.leads (still_all_numbered (kept_of c.args.library.now.kept) (kept_of c.load.new.self.kept) (proceeds_stays _ _ (settings_of c.args.config.now) [] _ _ _ _ _ (c.in_ok-load.ensures.grows [])) c.args.list.now.files numbered) in
    noted_last (settings_of c.args.config.now) (kept_of c.ask_each.new.library.kept) c.ask_each.new.list.files c.add_deps.new.self.files (ap (λ files. files) c.in_ok-add_deps.ensures.files) (name_of c.args.file.now)
    c.args.list.now.deps.items c.ask_each.new.list.deps.items c.add_deps.new.self.deps.items c.in_ok-deps.deps (ap (λ deps. deps.items) c.in_ok-deps.ensures.deps) c.in_ok-add_deps.ensures.deps
    (all_asked (settings_of c.args.config.now) (kept_of c.load.new.self.kept) (kept_of c.ask_each.new.library.kept) c.in_ok-deps.ensures.keeps.stays (ids_on c.ask_each.new.list) (name_of c.args.file.now) (map string_bytes c.in_ok-specifiers.specifiers.items) c.in_ok-deps.deps.items
    c.in_ok-load.ensures.there c.in_ok-specifiers.ensures.faultless c.in_ok-deps.ensures.asked leads)

pub returns-in_err-deps-clause-lent : goal.returns-in_err-deps-clause-lent
returns-in_err-deps-clause-lent g c = λ lent. c.in_err-deps.ensures.keeps.loader ∙ c.in_ok-load.ensures.lent lent

pub returns-in_err-add_deps-clause-lent : goal.returns-in_err-add_deps-clause-lent
returns-in_err-add_deps-clause-lent g c = λ lent. c.in_ok-deps.ensures.keeps.loader ∙ c.in_ok-load.ensures.lent lent

pub returns-clause-lent : goal.returns-clause-lent
returns-clause-lent g c = λ lent. c.in_ok-deps.ensures.keeps.loader ∙ c.in_ok-load.ensures.lent lent

pub returns-clause-stands : goal.returns-clause-stands
returns-clause-stands g c =
    stands_kept g.L.Load.may_load g.L.Load.may_fail_load c.args.library.now.loader c.load.new.self.loader c.ask_each.new.library.loader (kept_of c.load.new.self.kept) (kept_of c.ask_each.new.library.kept)
    c.in_ok-deps.ensures.keeps.stays c.in_ok-deps.ensures.keeps.loader c.in_ok-load.ensures.stands
