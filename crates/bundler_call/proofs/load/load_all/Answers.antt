-- What is kept grows with each file that is worked on, and that file is kept from then on.
use Rattle.std.proofs.Common.{[], suc, refl, sym, ap, subst, ◌∙◌}
use Rattle.std.specs.Option.{option_map}
use Rattle.bundle_tree_names.specs.FileName.{name_of}
use Rattle.bundle_tree_names.specs.declared.error.Error.TheVariants.{OutOfMemory}
use Rattle.bundle_rules.specs.Faults.{fault_of}
use Rattle.bundle_rules.specs.Judging as j
use Rattle.bundle_rules.specs.Judging.{LoadsAll, Outcome, Stopped}
use Rattle.bundle_rules.specs.Kept.{Kept}
use Rattle.bundler_call.specs.Judged.{parties_asked, refused_by}
use Rattle.bundler_call.specs.Kept.{kept_of, settings_of}
use Rattle.bundler_call.specs.Loading.{files_on}
use Rattle.bundler_call.proofs.Sources.{proceeds_refl, proceeds_stays, proceeds_trans, stands_refl, stands_trans}
use Rattle.bundler_call.proofs.Leading.{asked_all, asked_first, asked_next, once_listed, all_kept, all_kept_within, begins_refl, begins_trans, kept_before_more, none_before, short_enough}
use Rattle.bundler_call.proofs.Growing.{ends_handed}
use Rattle.bundler_call.proofs.Programs.{begins_longer, loads_end, loads_next, loads_over, none_before_all, none_past, within_grown}
use Rattle.bundler_call.proofs.load.load_all.Goals as goal

pub loop-place-init : goal.loop-place-init
loop-place-init g c = (λ entries. proceeds_refl _ _ (settings_of c.args.config.now) entries _ _ (kept_of c.args.library.now.kept), c.requires.met, none_before (kept_of c.args.library.now.kept) _, none_before_all _, λ outcome last all. all, begins_refl _, λ numbered. numbered, λ none numbered. asked_first (settings_of c.args.config.now) (kept_of c.args.library.now.kept) c.args.list.files c.args.list.deps.items none, stands_refl g.L.Load.may_load g.L.Load.may_fail_load c.args.library.now.loader (kept_of c.args.library.now.kept), λ lent. refl)

pub work_on-requires : goal.work_on-requires
work_on-requires g c = record { external = c.in_ok-external.ensures; met = c.loop-place.invariant.1; numbered = c.loop-place.invariant.6 c.requires.numbered; listed = c.loop-place.invariant.1 c.loop-place.place (name_of c.in-Some.file) (sym c.in_ok-file.ensures.file ∙ ap (option_map name_of) c.in-Some.is) }

pub returns-in_err-work_on-clause-grows : goal.returns-in_err-work_on-clause-grows
returns-in_err-work_on-clause-grows g c = λ entries. proceeds_trans _ g.L.Load.may_fail_load _ (settings_of c.args.config.now) entries _ _ _ _ _ _ _ _ (c.loop-place.invariant.0 entries) c.loop-place.invariant.8 (c.in_err-work_on.ensures.grows entries)

pub returns-in_default-clause-loaded : goal.returns-in_default-clause-loaded
returns-in_default-clause-loaded g c =
    all_kept (kept_of c.loop-place.library.kept) (files_on c.loop-place.list) c.loop-place.place (sym c.in_ok-file.ensures.file ∙ ap (option_map name_of) c.in_default.is) c.loop-place.invariant.2

pub loop-place-preserved : goal.loop-place-preserved
loop-place-preserved g c = (
  λ entries. proceeds_trans _ g.L.Load.may_fail_load _ (settings_of c.args.config.now) entries _ _ _ _ _ _ _ _ (c.loop-place.invariant.0 entries) c.loop-place.invariant.8 (c.in_ok-work_on.ensures.grows entries),
  c.in_ok-work_on.ensures.met,
  kept_before_more (kept_of c.loop-place.library.kept) (kept_of c.work_on.new.library.kept) (proceeds_stays _ _ (settings_of c.args.config.now) [] _ _ _ _ _ (c.in_ok-work_on.ensures.grows [])) (files_on c.loop-place.list) (files_on c.work_on.new.list) c.in_ok-work_on.ensures.begins
      c.loop-place.place (name_of c.in-Some.file) (sym c.in_ok-file.ensures.file ∙ ap (option_map name_of) c.in-Some.is) c.in_ok-work_on.ensures.loaded c.loop-place.invariant.2,
  within_grown (files_on c.loop-place.list) (files_on c.work_on.new.list) c.loop-place.place (name_of c.in-Some.file) (sym c.in_ok-file.ensures.file ∙ ap (option_map name_of) c.in-Some.is) (begins_longer (files_on c.loop-place.list) (files_on c.work_on.new.list) c.in_ok-work_on.ensures.begins),
  loads_next (parties_asked g.L.Load.may_load g.L.Load.may_fail_load g.R.Resolve.may_resolve g.R.Resolve.may_fail_resolve c.args.library.now.loader c.args.library.now.resolver) (settings_of c.args.config.now) (files_on c.args.list) (files_on c.loop-place.list) (files_on c.work_on.new.list) c.loop-place.place (kept_of c.args.library.now.kept) (kept_of c.loop-place.library.kept) (kept_of c.work_on.new.library.kept) c.loop-place.invariant.4
      (subst (λ r. (outcome : Outcome) (last : Kept) → LoadsAll (parties_asked g.L.Load.may_load g.L.Load.may_fail_load g.R.Resolve.may_resolve g.R.Resolve.may_fail_resolve c.args.library.now.loader r) (settings_of c.args.config.now) (files_on c.work_on.new.list) (suc c.loop-place.place) (kept_of c.work_on.new.library.kept) outcome last → LoadsAll (parties_asked g.L.Load.may_load g.L.Load.may_fail_load g.R.Resolve.may_resolve g.R.Resolve.may_fail_resolve c.args.library.now.loader r) (settings_of c.args.config.now) (files_on c.loop-place.list) c.loop-place.place (kept_of c.loop-place.library.kept) outcome last) (c.loop-place.invariant.0 []).resolver (c.in_ok-work_on.ensures.judged c.args.library.now.loader c.loop-place.place c.loop-place.invariant.8 (sym c.in_ok-file.ensures.file ∙ ap (option_map name_of) c.in-Some.is))),
  begins_trans _ _ _ c.loop-place.invariant.5 c.in_ok-work_on.ensures.begins,
  λ numbered. c.in_ok-work_on.ensures.numbered (c.loop-place.invariant.6 numbered),
  λ none numbered.
      let before = c.loop-place.invariant.6 numbered in
      asked_next (settings_of c.args.config.now) (kept_of c.loop-place.library.kept) (kept_of c.work_on.new.library.kept) c.loop-place.list.files c.work_on.new.list.files
      (record { stays = proceeds_stays _ _ (settings_of c.args.config.now) [] _ _ _ _ _ (c.in_ok-work_on.ensures.grows []); begins = c.in_ok-work_on.ensures.begins; before = before; after = c.in_ok-work_on.ensures.numbered before })
      c.loop-place.list.deps.items c.work_on.new.list.deps.items c.loop-place.place (name_of c.in-Some.file) (sym c.in_ok-file.ensures.file ∙ ap (option_map name_of) c.in-Some.is) (c.in_ok-work_on.ensures.asked before) (c.loop-place.invariant.7 none numbered),
  stands_trans g.L.Load.may_load g.L.Load.may_fail_load c.args.library.now.loader c.loop-place.library.loader c.work_on.new.library.loader (kept_of c.loop-place.library.kept) (kept_of c.work_on.new.library.kept)
      (proceeds_stays _ _ (settings_of c.args.config.now) [] _ _ _ _ _ (c.in_ok-work_on.ensures.grows [])) c.loop-place.invariant.8 c.in_ok-work_on.ensures.stands,
  λ lent. c.in_ok-work_on.ensures.lent lent ∙ c.loop-place.invariant.9 lent,
)

pub returns-clause-loaded : goal.returns-clause-loaded
returns-clause-loaded g c =
    all_kept_within (kept_of c.loop-place.library.kept) (files_on c.loop-place.list) c.loop-place.place (short_enough c.loop-place.list.files c.len-count.result c.loop-place.place c.len-count.ensures.len c.len-count.ensures.small c.loop-place-test.false) c.loop-place.invariant.2

pub returns-in_err-external-clause-grows : goal.returns-in_err-external-clause-grows
returns-in_err-external-clause-grows g c = λ entries. proceeds_refl _ _ (settings_of c.args.config.now) entries _ _ (kept_of c.args.library.now.kept)

pub returns-in_err-external-clause-judged : goal.returns-in_err-external-clause-judged
returns-in_err-external-clause-judged g c = ends_handed _ OutOfMemory _ c.from_residual.ensures.1 j.LoadsAll.stopped

pub returns-in_err-file-clause-judged : goal.returns-in_err-file-clause-judged
returns-in_err-file-clause-judged g c =
    ends_handed _ OutOfMemory _ c.from_residual-in_err-file.ensures.1 (c.loop-place.invariant.4 Stopped (kept_of c.loop-place.library.kept) j.LoadsAll.stopped)

pub returns-in_err-work_on-clause-judged : goal.returns-in_err-work_on-clause-judged
returns-in_err-work_on-clause-judged g c =
    let outcome = refused_by (fault_of c.in_err-work_on.field-0.0) in
    ends_handed _ c.in_err-work_on.field-0.0 _ c.from_residual-in_err-work_on.ensures.1
    (c.loop-place.invariant.4 outcome (kept_of c.work_on.new.library.kept) (subst (λ r. LoadsAll (parties_asked g.L.Load.may_load g.L.Load.may_fail_load g.R.Resolve.may_resolve g.R.Resolve.may_fail_resolve c.args.library.now.loader r) (settings_of c.args.config.now) (files_on c.loop-place.list) c.loop-place.place (kept_of c.loop-place.library.kept) outcome (kept_of c.work_on.new.library.kept)) (c.loop-place.invariant.0 []).resolver (c.in_err-work_on.ensures.judged c.args.library.now.loader c.loop-place.place c.loop-place.invariant.8 (sym c.in_ok-file.ensures.file ∙ ap (option_map name_of) c.in-Some.is))))

pub returns-in_default-clause-judged : goal.returns-in_default-clause-judged
returns-in_default-clause-judged g c =
    loads_over (parties_asked g.L.Load.may_load g.L.Load.may_fail_load g.R.Resolve.may_resolve g.R.Resolve.may_fail_resolve c.args.library.now.loader c.args.library.now.resolver) (settings_of c.args.config.now) (files_on c.args.list) (files_on c.loop-place.list) c.loop-place.place (kept_of c.args.library.now.kept) (kept_of c.loop-place.library.kept) (sym c.in_ok-file.ensures.file ∙ ap (option_map name_of) c.in_default.is) c.loop-place.invariant.3 c.loop-place.invariant.4

pub returns-clause-judged : goal.returns-clause-judged
returns-clause-judged g c =
    loads_end (parties_asked g.L.Load.may_load g.L.Load.may_fail_load g.R.Resolve.may_resolve g.R.Resolve.may_fail_resolve c.args.library.now.loader c.args.library.now.resolver) (settings_of c.args.config.now) (files_on c.args.list) (files_on c.loop-place.list) c.loop-place.place (kept_of c.args.library.now.kept) (kept_of c.loop-place.library.kept) (short_enough c.loop-place.list.files c.len-count.result c.loop-place.place c.len-count.ensures.len c.len-count.ensures.small c.loop-place-test.false) c.loop-place.invariant.3 c.loop-place.invariant.4

pub returns-in_default-clause-begins : goal.returns-in_default-clause-begins
returns-in_default-clause-begins g c = c.loop-place.invariant.5

pub returns-in_default-clause-once : goal.returns-in_default-clause-once
returns-in_default-clause-once g c = c.in_ok-file.ensures.once (kept_of c.loop-place.library.kept) (c.loop-place.invariant.6 c.requires.numbered)

pub returns-in_default-clause-numbered : goal.returns-in_default-clause-numbered
returns-in_default-clause-numbered g c = c.loop-place.invariant.6

pub returns-in_default-clause-asked : goal.returns-in_default-clause-asked
returns-in_default-clause-asked g c = λ none numbered.
    asked_all (settings_of c.args.config.now) (kept_of c.loop-place.library.kept) c.loop-place.list.files c.loop-place.list.deps.items c.loop-place.place (none_past (files_on c.loop-place.list) c.loop-place.place (sym c.in_ok-file.ensures.file ∙ ap (option_map name_of) c.in_default.is)) c.loop-place.invariant.3 (c.loop-place.invariant.7 none numbered)

pub returns-clause-begins : goal.returns-clause-begins
returns-clause-begins g c = c.loop-place.invariant.5

pub returns-clause-once : goal.returns-clause-once
returns-clause-once g c = once_listed (kept_of c.loop-place.library.kept) c.loop-place.list.files c.len-count.ensures.once (c.loop-place.invariant.6 c.requires.numbered)

pub returns-clause-numbered : goal.returns-clause-numbered
returns-clause-numbered g c = c.loop-place.invariant.6

pub returns-clause-asked : goal.returns-clause-asked
returns-clause-asked g c = λ none numbered.
    asked_all (settings_of c.args.config.now) (kept_of c.loop-place.library.kept) c.loop-place.list.files c.loop-place.list.deps.items c.loop-place.place (short_enough c.loop-place.list.files c.len-count.result c.loop-place.place c.len-count.ensures.len c.len-count.ensures.small c.loop-place-test.false) c.loop-place.invariant.3 (c.loop-place.invariant.7 none numbered)

pub returns-in_err-work_on-clause-lent : goal.returns-in_err-work_on-clause-lent
returns-in_err-work_on-clause-lent g c = λ lent. c.in_err-work_on.ensures.lent lent ∙ c.loop-place.invariant.9 lent
