-- The tree that was just kept is found, and what is kept has grown by it.
use Rattle.std.proofs.Common.{Contains, refl, subst, sym}
use Rattle.bundle_tree_names.specs.FileName.{name_of}
use Rattle.bundler_call.specs.KeptFiles.{names_in, trees_in}
use Rattle.bundler_call.specs.Kept.{kept_of, settings_of}
use Rattle.bundler_call.proofs.Growing.{load_full, load_judged, load_kept, tree_found, has_room, is_full, load_grows, load_unchanged}
use Rattle.bundle_order_graph.proofs.NodeLemmas.{on_err as holds_refused}
use Rattle.bundler_call.proofs.Sources.{proceeds_along, proceeds_refl, stands_loaded, stands_refl}
use Rattle.bundler_call.proofs.library.Library.load.Goals as goal

pub keep_loaded-requires-clause-met : goal.keep_loaded-requires-clause-met
keep_loaded-requires-clause-met g c =
    subst (λ l. Contains l (name_of c.in_ok-name.name)) (sym c.in_ok-reserve_tree.ensures.names) (subst (Contains (names_in c.args.self.now.kept)) (sym c.in_ok-name.ensures.cases) c.requires)

pub returns-clause-there : goal.returns-clause-there
returns-clause-there g c = tree_found _ _ (name_of c.args.file.now) _ _ _ c.in_ok-name.ensures.cases c.keep_loaded.ensures.given c.keep_loaded.ensures.refused

pub returns-clause-grows : goal.returns-clause-grows
returns-clause-grows g c = λ entries. record {
  resolver = refl;
  grows = load_grows _ _ (settings_of c.args.config.now) entries _ _ _ (name_of c.args.file.now) _ _ _ c.requires (c.has.ensures.none c.if-has.false)
      (has_room (trees_in c.args.self.now.kept) _ _ c.count.ensures c.if-count-config.false) c.in_ok-name.ensures.cases c.in_ok-reserve_tree.ensures.same c.asked-loaded.ensures.answer c.keep_loaded.ensures.given c.keep_loaded.ensures.refused;
}

pub returns-then-has-clause-grows : goal.returns-then-has-clause-grows
returns-then-has-clause-grows g c = λ entries. proceeds_refl _ _ (settings_of c.args.config.now) entries _ _ (kept_of c.args.self.now.kept)

pub returns-in_err-name-clause-grows : goal.returns-in_err-name-clause-grows
returns-in_err-name-clause-grows g c = λ entries. proceeds_refl _ _ (settings_of c.args.config.now) entries _ _ (kept_of c.args.self.now.kept)

pub returns-then-count-config-clause-grows : goal.returns-then-count-config-clause-grows
returns-then-count-config-clause-grows g c = λ entries. proceeds_refl _ _ (settings_of c.args.config.now) entries _ _ (kept_of c.args.self.now.kept)

pub returns-in_err-reserve_tree-clause-grows : goal.returns-in_err-reserve_tree-clause-grows
returns-in_err-reserve_tree-clause-grows g c = λ entries. proceeds_along _ _ (settings_of c.args.config.now) entries _ _ (kept_of c.args.self.now.kept) (kept_of c.reserve_tree.new.kept) c.in_err-reserve_tree.ensures.same

pub returns-clause-judged : goal.returns-clause-judged
returns-clause-judged g c =
    load_judged (g.L.Load.may_load c.args.self.now.loader) (g.L.Load.may_fail_load c.args.self.now.loader) (g.R.Resolve.may_resolve c.args.self.now.resolver) (g.R.Resolve.may_fail_resolve c.args.self.now.resolver) _ _ (settings_of c.args.config.now) (kept_of c.args.self.now.kept) _ _ (name_of c.args.file.now) _ _ _ (c.has.ensures.none c.if-has.false)
    (has_room (trees_in c.args.self.now.kept) _ _ c.count.ensures c.if-count-config.false) c.in_ok-name.ensures.cases c.in_ok-reserve_tree.ensures.same c.asked-loaded.ensures.answer c.asked-loaded.ensures.failure c.keep_loaded.ensures.given c.keep_loaded.ensures.refused

pub returns-then-has-clause-judged : goal.returns-then-has-clause-judged
returns-then-has-clause-judged g c =
    load_kept (g.L.Load.may_load c.args.self.now.loader) (g.L.Load.may_fail_load c.args.self.now.loader) (g.R.Resolve.may_resolve c.args.self.now.resolver) (g.R.Resolve.may_fail_resolve c.args.self.now.resolver) _ _ (settings_of c.args.config.now) (kept_of c.args.self.now.kept) (name_of c.args.file.now) (c.has.ensures.kept c.if-has.true)

pub returns-then-count-config-clause-judged : goal.returns-then-count-config-clause-judged
returns-then-count-config-clause-judged g c =
    load_full (g.L.Load.may_load c.args.self.now.loader) (g.L.Load.may_fail_load c.args.self.now.loader) (g.R.Resolve.may_resolve c.args.self.now.resolver) (g.R.Resolve.may_fail_resolve c.args.self.now.resolver) _ _ (settings_of c.args.config.now) (kept_of c.args.self.now.kept) (name_of c.args.file.now) c.in_ok-name.name (c.has.ensures.none c.if-has.false)
    (is_full (trees_in c.args.self.now.kept) _ _ c.count.ensures c.if-count-config.true) c.in_ok-name.ensures.cases

pub returns-in_err-reserve_tree-clause-unchanged : goal.returns-in_err-reserve_tree-clause-unchanged
returns-in_err-reserve_tree-clause-unchanged g c = holds_refused _ _ c.in_err-reserve_tree.ensures.same

pub returns-clause-unchanged : goal.returns-clause-unchanged
returns-clause-unchanged g c = load_unchanged (kept_of c.args.self.now.kept) _ _ _ _ _ c.in_ok-reserve_tree.ensures.same c.keep_loaded.ensures.given c.keep_loaded.ensures.refused

pub returns-then-has-clause-stands : goal.returns-then-has-clause-stands
returns-then-has-clause-stands g c = stands_refl g.L.Load.may_load g.L.Load.may_fail_load c.args.self.now.loader (kept_of c.args.self.now.kept)

pub returns-clause-stands : goal.returns-clause-stands
returns-clause-stands g c =
    stands_loaded g.L.Load.may_load g.L.Load.may_fail_load c.keep_loaded.result _ _ (name_of c.args.file.now) _ c.asked-loaded.ensures.others c.asked-loaded.ensures.other_failures
    (tree_found _ _ (name_of c.args.file.now) _ _ _ c.in_ok-name.ensures.cases c.keep_loaded.ensures.given c.keep_loaded.ensures.refused)
