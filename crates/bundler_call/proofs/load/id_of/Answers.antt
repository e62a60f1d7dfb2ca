-- What is kept grows by the resolver's answer, and then by the number of the file.
use Rattle.std.proofs.Common.{inr, refl}
use Rattle.bundle_tree_names.specs.FileName.{name_of}
use Rattle.bundle_tree_names.specs.declared.error.Error.TheVariants.{OutOfMemory}
use Rattle.bundle_rules.specs.Judging as j
use Rattle.bundle_rules.specs.Kept.{kept_file}
use Rattle.std.specs.String.{string_bytes}
use Rattle.bundler_call.specs.KeptFiles.{asked_of}
use Rattle.bundler_call.specs.Judged.{parties_asked}
use Rattle.bundler_call.specs.Kept.{kept_of}
use Rattle.bundler_call.specs.Loading.{files_on}
use Rattle.bundler_call.proofs.Leading.{leads_placed, still_all_numbered, all_met_placed, begins_placed, still_all_met}
use Rattle.bundler_call.proofs.Growing.{advances_refl, advances_trans, found, remains_refl, remains_trans, stays_trans, ends_handed, ends_told, ask_failed, ask_placed, ask_resolved, ask_stopped, ask_unplaced, ask_used_up, requested_as}
use Rattle.bundler_call.proofs.load.id_of.Goals as goal

pub place-requires : goal.place-requires
place-requires g c =
    let stays = stays_trans _ _ _ c.in_ok-resolve.ensures.keeps.stays c.in_ok-id.ensures.keeps.stays in
    (kept_of c.id.new.self.kept, c.in_ok-id.ensures.numbered, still_all_numbered _ _ stays c.args.list.now.files c.requires.numbered)

pub returns-in_err-request-clause-grows : goal.returns-in_err-request-clause-grows
returns-in_err-request-clause-grows g c = λ settings entries its. advances_refl _ _ settings entries _ _ (kept_of c.args.library.now.kept)

pub returns-in_err-request-clause-keeps : goal.returns-in_err-request-clause-keeps
returns-in_err-request-clause-keeps g c = remains_refl _ _ (kept_of c.args.library.now.kept)

pub returns-in_err-resolve-clause-grows : goal.returns-in_err-resolve-clause-grows
returns-in_err-resolve-clause-grows g c = λ settings entries its.
    c.in_err-resolve.ensures.grows settings entries (requested_as _ (kept_of c.args.library.now.kept) _ _ c.in_ok-request.request c.in_ok-request.ensures.file c.in_ok-request.ensures.specifier its)

pub returns-in_err-target-clause-grows : goal.returns-in_err-target-clause-grows
returns-in_err-target-clause-grows g c = λ settings entries its.
    c.in_ok-resolve.ensures.grows settings entries (requested_as _ (kept_of c.args.library.now.kept) _ _ c.in_ok-request.request c.in_ok-request.ensures.file c.in_ok-request.ensures.specifier its)

pub returns-in_err-id-clause-keeps : goal.returns-in_err-id-clause-keeps
returns-in_err-id-clause-keeps g c = remains_trans _ _ _ _ _ _ _ _ _ c.in_ok-resolve.ensures.keeps c.in_err-id.ensures.keeps

pub returns-in_err-id-clause-grows : goal.returns-in_err-id-clause-grows
returns-in_err-id-clause-grows g c = λ settings entries its.
    advances_trans _ _ settings entries _ _ _ _ _ _ _ _ _ (c.in_ok-resolve.ensures.grows settings entries (requested_as _ (kept_of c.args.library.now.kept) _ _ c.in_ok-request.request c.in_ok-request.ensures.file c.in_ok-request.ensures.specifier its))
    (c.in_err-id.ensures.grows settings entries (inr (asked_of c.in_ok-request.request, c.in_ok-target.ensures)))

pub returns-in_err-place-clause-keeps : goal.returns-in_err-place-clause-keeps
returns-in_err-place-clause-keeps g c = remains_trans _ _ _ _ _ _ _ _ _ c.in_ok-resolve.ensures.keeps c.in_ok-id.ensures.keeps

pub returns-in_err-place-clause-grows : goal.returns-in_err-place-clause-grows
returns-in_err-place-clause-grows g c = λ settings entries its.
    advances_trans _ _ settings entries _ _ _ _ _ _ _ _ _ (c.in_ok-resolve.ensures.grows settings entries (requested_as _ (kept_of c.args.library.now.kept) _ _ c.in_ok-request.request c.in_ok-request.ensures.file c.in_ok-request.ensures.specifier its))
    (c.in_ok-id.ensures.grows settings entries (inr (asked_of c.in_ok-request.request, c.in_ok-target.ensures)))

pub returns-clause-keeps : goal.returns-clause-keeps
returns-clause-keeps g c = remains_trans _ _ _ _ _ _ _ _ _ c.in_ok-resolve.ensures.keeps c.in_ok-id.ensures.keeps

pub returns-clause-grows : goal.returns-clause-grows
returns-clause-grows g c = λ settings entries its.
    advances_trans _ _ settings entries _ _ _ _ _ _ _ _ _ (c.in_ok-resolve.ensures.grows settings entries (requested_as _ (kept_of c.args.library.now.kept) _ _ c.in_ok-request.request c.in_ok-request.ensures.file c.in_ok-request.ensures.specifier its))
    (c.in_ok-id.ensures.grows settings entries (inr (asked_of c.in_ok-request.request, c.in_ok-target.ensures)))

pub returns-clause-met : goal.returns-clause-met
returns-clause-met g c =
    let stays = stays_trans _ _ _ c.in_ok-resolve.ensures.keeps.stays c.in_ok-id.ensures.keeps.stays in
    all_met_placed (kept_of c.id.new.self.kept) (files_on c.args.list.now) (files_on c.place.new.self) (name_of c.in_ok-target.target) c.in_ok-place.ensures.placed (still_all_met _ _ stays (files_on c.args.list.now) c.requires.met) c.in_ok-id.ensures.met

pub returns-clause-begins : goal.returns-clause-begins
returns-clause-begins g c = begins_placed _ _ _ c.in_ok-place.ensures.placed

pub returns-in_err-request-clause-judged : goal.returns-in_err-request-clause-judged
returns-in_err-request-clause-judged g c = ends_handed _ OutOfMemory _ c.from_residual.ensures.1 j.Asks.stopped

pub returns-in_err-resolve-clause-judged : goal.returns-in_err-resolve-clause-judged
returns-in_err-resolve-clause-judged g c =
    ends_told _ _ _ _ c.from_residual-in_err-resolve.ensures.1
    (ask_failed (parties_asked g.L.Load.may_load g.L.Load.may_fail_load g.R.Resolve.may_resolve g.R.Resolve.may_fail_resolve c.args.library.now.loader c.args.library.now.resolver) (name_of c.args.file.now) (string_bytes c.args.specifier.now) c.in_ok-request.request c.in_ok-request.ensures.file c.in_ok-request.ensures.specifier (kept_of c.args.library.now.kept) (kept_of c.resolve.new.self.kept) (files_on c.args.list.now))
    (ask_stopped (parties_asked g.L.Load.may_load g.L.Load.may_fail_load g.R.Resolve.may_resolve g.R.Resolve.may_fail_resolve c.args.library.now.loader c.args.library.now.resolver) (name_of c.args.file.now) (string_bytes c.args.specifier.now) c.in_ok-request.request c.in_ok-request.ensures.file c.in_ok-request.ensures.specifier (kept_of c.args.library.now.kept) (kept_of c.resolve.new.self.kept) (files_on c.args.list.now) c.in_err-resolve.ensures.unchanged)
    c.in_err-resolve.ensures.failed

pub returns-in_err-target-clause-judged : goal.returns-in_err-target-clause-judged
returns-in_err-target-clause-judged g c =
    let to = found (kept_file (kept_of c.resolve.new.self.kept) (asked_of c.in_ok-request.request)) c.in_ok-resolve.ensures.there in
    ends_handed _ OutOfMemory _ c.from_residual-in_err-target.ensures.1
    (ask_resolved (parties_asked g.L.Load.may_load g.L.Load.may_fail_load g.R.Resolve.may_resolve g.R.Resolve.may_fail_resolve c.args.library.now.loader c.args.library.now.resolver) (name_of c.args.file.now) (string_bytes c.args.specifier.now) c.in_ok-request.request c.in_ok-request.ensures.file c.in_ok-request.ensures.specifier (kept_of c.args.library.now.kept) (kept_of c.resolve.new.self.kept) (kept_of c.resolve.new.self.kept) (files_on c.args.list.now) to.0 (c.in_ok-resolve.ensures.resolved to.0 to.1) refl)

pub returns-in_err-id-clause-judged : goal.returns-in_err-id-clause-judged
returns-in_err-id-clause-judged g c =
    ends_told _ _ _ _ c.from_residual-in_err-id.ensures.1
    (λ f. ask_used_up (parties_asked g.L.Load.may_load g.L.Load.may_fail_load g.R.Resolve.may_resolve g.R.Resolve.may_fail_resolve c.args.library.now.loader c.args.library.now.resolver) (name_of c.args.file.now) (string_bytes c.args.specifier.now) c.in_ok-request.request c.in_ok-request.ensures.file c.in_ok-request.ensures.specifier (kept_of c.args.library.now.kept) (kept_of c.resolve.new.self.kept) (kept_of c.id.new.self.kept) (files_on c.args.list.now) (name_of c.in_ok-target.target) f (c.in_ok-resolve.ensures.resolved (name_of c.in_ok-target.target) c.in_ok-target.ensures) (still_all_met _ _ c.in_ok-resolve.ensures.keeps.stays (files_on c.args.list.now) c.requires.met) c.in_err-id.ensures.absent)
    (ask_resolved (parties_asked g.L.Load.may_load g.L.Load.may_fail_load g.R.Resolve.may_resolve g.R.Resolve.may_fail_resolve c.args.library.now.loader c.args.library.now.resolver) (name_of c.args.file.now) (string_bytes c.args.specifier.now) c.in_ok-request.request c.in_ok-request.ensures.file c.in_ok-request.ensures.specifier (kept_of c.args.library.now.kept) (kept_of c.resolve.new.self.kept) (kept_of c.id.new.self.kept) (files_on c.args.list.now) (name_of c.in_ok-target.target) (c.in_ok-resolve.ensures.resolved (name_of c.in_ok-target.target) c.in_ok-target.ensures) c.in_err-id.ensures.unchanged)
    c.in_err-id.ensures.judged

pub returns-in_err-place-clause-judged : goal.returns-in_err-place-clause-judged
returns-in_err-place-clause-judged g c =
    ends_handed _ OutOfMemory _ c.from_residual-in_err-place.ensures.1
    (ask_unplaced (parties_asked g.L.Load.may_load g.L.Load.may_fail_load g.R.Resolve.may_resolve g.R.Resolve.may_fail_resolve c.args.library.now.loader c.args.library.now.resolver) (name_of c.args.file.now) (string_bytes c.args.specifier.now) c.in_ok-request.request c.in_ok-request.ensures.file c.in_ok-request.ensures.specifier (kept_of c.args.library.now.kept) (kept_of c.resolve.new.self.kept) (kept_of c.id.new.self.kept) (files_on c.args.list.now) (files_on c.place.new.self) (name_of c.in_ok-target.target) (c.in_ok-resolve.ensures.resolved (name_of c.in_ok-target.target) c.in_ok-target.ensures) c.in_err-place.ensures.absent c.in_ok-id.ensures.judged c.in_err-place.ensures.unchanged)

pub returns-clause-judged : goal.returns-clause-judged
returns-clause-judged g c =
    ask_placed (parties_asked g.L.Load.may_load g.L.Load.may_fail_load g.R.Resolve.may_resolve g.R.Resolve.may_fail_resolve c.args.library.now.loader c.args.library.now.resolver) (name_of c.args.file.now) (string_bytes c.args.specifier.now) c.in_ok-request.request c.in_ok-request.ensures.file c.in_ok-request.ensures.specifier (kept_of c.args.library.now.kept) (kept_of c.resolve.new.self.kept) (kept_of c.id.new.self.kept) (files_on c.args.list.now) (files_on c.place.new.self) (name_of c.in_ok-target.target) (c.in_ok-resolve.ensures.resolved (name_of c.in_ok-target.target) c.in_ok-target.ensures) (still_all_met _ _ c.in_ok-resolve.ensures.keeps.stays (files_on c.args.list.now) c.requires.met) c.in_ok-id.ensures.known c.in_ok-id.ensures.judged c.in_ok-place.ensures.placed

pub returns-clause-numbered : goal.returns-clause-numbered
returns-clause-numbered g c = λ numbered.
    let stays = stays_trans _ _ _ c.in_ok-resolve.ensures.keeps.stays c.in_ok-id.ensures.keeps.stays in
    c.in_ok-place.ensures.numbered (kept_of c.id.new.self.kept) c.in_ok-id.ensures.numbered (still_all_numbered _ _ stays c.args.list.now.files numbered)

pub returns-clause-leads : goal.returns-clause-leads
returns-clause-leads g c = λ numbered.
    let stays = stays_trans _ _ _ c.in_ok-resolve.ensures.keeps.stays c.in_ok-id.ensures.keeps.stays in
    leads_placed (kept_of c.resolve.new.self.kept) (kept_of c.id.new.self.kept) c.in_ok-id.ensures.keeps.stays c.args.list.now.files c.place.new.self.files (name_of c.args.file.now) (name_of c.in_ok-target.target) c.args.specifier.now c.in_ok-id.id c.in_ok-request.request c.in_ok-request.ensures.file c.in_ok-request.ensures.specifier c.in_ok-target.ensures c.in_ok-id.ensures.numbered c.in_ok-place.ensures.placed
    (c.in_ok-place.ensures.numbered (kept_of c.id.new.self.kept) c.in_ok-id.ensures.numbered (still_all_numbered _ _ stays c.args.list.now.files numbered))
