-- The file that was just kept for a request is found, and what is kept has grown by it.
use Rattle.std.proofs.Common.{refl, subst, sym}
use Rattle.bundle_tree_names.specs.FileName.{name_eq, name_of}
use Rattle.bundler_call.specs.KeptFiles.{asked_of, trees_in, HasRoomFor}
use Rattle.bundler_call.specs.Kept.{kept_of}
use Rattle.bundler_call.proofs.Growing.{resolve_failed, resolve_judged, resolve_kept, asked_same, handed, target_found, advances_along, advances_refl, remains_along, remains_refl, resolve_grows, resolve_stays, resolve_unchanged}
use Rattle.bundle_order_graph.proofs.NodeLemmas.{on_err as holds_refused}
use Rattle.bundler_call.proofs.library.Library.resolve.Goals as goal

pub reserve_target-requires : goal.reserve_target-requires
reserve_target-requires g c =
    let file = name_of c.args.request.now.file in
    c.leads.ensures.met file (handed (name_eq file) (trees_in c.args.self.now.kept) c.requires)

pub keep_resolved-requires-clause-room : goal.keep_resolved-requires-clause-room
keep_resolved-requires-clause-room g c =
    subst (HasRoomFor c.reserve_target.new.kept) (sym (asked_same _ _ _ _ c.in_ok-clone.ensures.cases c.in_ok-clone-2.ensures.cases)) c.in_ok-reserve_target.ensures.room

pub returns-clause-there : goal.returns-clause-there
returns-clause-there g c =
    target_found _ _ (asked_of c.args.request.now) _ _ _ (asked_same _ _ _ _ c.in_ok-clone.ensures.cases c.in_ok-clone-2.ensures.cases) c.keep_resolved.ensures.given c.keep_resolved.ensures.refused

pub returns-clause-grows : goal.returns-clause-grows
returns-clause-grows g c = λ settings entries its. record {
  loader = refl;
  resolver = refl;
  grows = resolve_grows _ _ settings entries _ _ _ (asked_of c.args.request.now) _ _ _ _ its (c.leads.ensures.none c.if-leads.false) (asked_same _ _ _ _ c.in_ok-clone.ensures.cases c.in_ok-clone-2.ensures.cases) c.in_ok-reserve_target.ensures.same c.as_str.ensures.value c.resolve-resolved.ensures.answer c.keep_resolved.ensures.given c.keep_resolved.ensures.refused;
}

pub returns-clause-keeps : goal.returns-clause-keeps
returns-clause-keeps g c = record {
  loader = refl;
  resolver = refl;
  stays = resolve_stays _ _ _ _ _ _ c.in_ok-reserve_target.ensures.same c.keep_resolved.ensures.given c.keep_resolved.ensures.refused;
}

pub returns-then-leads-clause-grows : goal.returns-then-leads-clause-grows
returns-then-leads-clause-grows g c = λ settings entries its. advances_refl _ _ settings entries _ _ (kept_of c.args.self.now.kept)

pub returns-then-leads-clause-keeps : goal.returns-then-leads-clause-keeps
returns-then-leads-clause-keeps g c = remains_refl _ _ (kept_of c.args.self.now.kept)

pub returns-in_err-clone-clause-grows : goal.returns-in_err-clone-clause-grows
returns-in_err-clone-clause-grows g c = λ settings entries its. advances_refl _ _ settings entries _ _ (kept_of c.args.self.now.kept)

pub returns-in_err-clone-clause-keeps : goal.returns-in_err-clone-clause-keeps
returns-in_err-clone-clause-keeps g c = remains_refl _ _ (kept_of c.args.self.now.kept)

pub returns-in_err-clone-2-clause-grows : goal.returns-in_err-clone-2-clause-grows
returns-in_err-clone-2-clause-grows g c = λ settings entries its. advances_refl _ _ settings entries _ _ (kept_of c.args.self.now.kept)

pub returns-in_err-clone-2-clause-keeps : goal.returns-in_err-clone-2-clause-keeps
returns-in_err-clone-2-clause-keeps g c = remains_refl _ _ (kept_of c.args.self.now.kept)

pub returns-in_err-reserve_target-clause-grows : goal.returns-in_err-reserve_target-clause-grows
returns-in_err-reserve_target-clause-grows g c = λ settings entries its. advances_along _ _ settings entries _ _ (kept_of c.args.self.now.kept) (kept_of c.reserve_target.new.kept) c.in_err-reserve_target.ensures.same

pub returns-in_err-reserve_target-clause-keeps : goal.returns-in_err-reserve_target-clause-keeps
returns-in_err-reserve_target-clause-keeps g c = remains_along _ _ (kept_of c.args.self.now.kept) (kept_of c.reserve_target.new.kept) c.in_err-reserve_target.ensures.same

pub returns-clause-resolved : goal.returns-clause-resolved
returns-clause-resolved g c =
    resolve_judged (g.L.Load.may_load c.args.self.now.loader) (g.L.Load.may_fail_load c.args.self.now.loader) (g.R.Resolve.may_resolve c.args.self.now.resolver) (g.R.Resolve.may_fail_resolve c.args.self.now.resolver) _ _ (kept_of c.args.self.now.kept) _ _ (asked_of c.args.request.now) _ _ _ _ (c.leads.ensures.none c.if-leads.false) (asked_same _ _ _ _ c.in_ok-clone.ensures.cases c.in_ok-clone-2.ensures.cases) c.in_ok-reserve_target.ensures.same c.as_str.ensures.value c.resolve-resolved.ensures.answer c.keep_resolved.ensures.given c.keep_resolved.ensures.refused

pub returns-clause-failed : goal.returns-clause-failed
returns-clause-failed g c =
    resolve_failed (g.L.Load.may_load c.args.self.now.loader) (g.L.Load.may_fail_load c.args.self.now.loader) (g.R.Resolve.may_resolve c.args.self.now.resolver) (g.R.Resolve.may_fail_resolve c.args.self.now.resolver) _ _ (kept_of c.args.self.now.kept) _ _ (asked_of c.args.request.now) _ _ _ _ (c.leads.ensures.none c.if-leads.false) (asked_same _ _ _ _ c.in_ok-clone.ensures.cases c.in_ok-clone-2.ensures.cases) c.in_ok-reserve_target.ensures.same c.as_str.ensures.value c.resolve-resolved.ensures.failure c.keep_resolved.ensures.given c.keep_resolved.ensures.refused

pub returns-then-leads-clause-resolved : goal.returns-then-leads-clause-resolved
returns-then-leads-clause-resolved g c = λ found is.
    resolve_kept (g.L.Load.may_load c.args.self.now.loader) (g.L.Load.may_fail_load c.args.self.now.loader) (g.R.Resolve.may_resolve c.args.self.now.resolver) (g.R.Resolve.may_fail_resolve c.args.self.now.resolver) _ _ (kept_of c.args.self.now.kept) (asked_of c.args.request.now) found is

pub returns-in_err-reserve_target-clause-unchanged : goal.returns-in_err-reserve_target-clause-unchanged
returns-in_err-reserve_target-clause-unchanged g c = holds_refused _ _ c.in_err-reserve_target.ensures.same

pub returns-clause-unchanged : goal.returns-clause-unchanged
returns-clause-unchanged g c = resolve_unchanged (kept_of c.args.self.now.kept) _ _ _ _ _ c.in_ok-reserve_target.ensures.same c.keep_resolved.ensures.given c.keep_resolved.ensures.refused
