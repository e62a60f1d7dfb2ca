-- The file that a request leads to is that with the number of the request; each file whose tree is kept was met.
use Rattle.std.proofs.Common.{◌≡◌, ◌∙◌, Bor, None, Some, ap, map, position, subst, sym}
use Rattle.std.specs.Map.{lookup}
use Rattle.std.specs.Option.{option_map}
use Rattle.bundle_tree_names.specs.FileName.{name_of}
use Rattle.bundle_tree_names.specs.declared.file_name.FileName.{FileName}
use Rattle.bundle_rules.specs.Kept.{asked_eq}
use Rattle.bundler_call.specs.Held.{asked_by, file_named, HeldFiles}
use Rattle.bundler_call.specs.KeptFiles.{asked_of}
use Rattle.bundler_call.specs.Placed.{StandOnce}
use Rattle.bundler_call.proofs.Holding.{are_met, below_asked, below_names, target_by, target_never, option_map-step}
use Rattle.bundler_call.proofs.kept.Kept.target.Goals as goal

pub returns-in-Some-clause-target : goal.returns-in-Some-clause-target
returns-in-Some-clause-target g c =
    let names = map file_named c.self.inside.files in
    let asked = map (asked_by names) c.self.inside.requests in
    let targets = c.self.inside.targets.entries in
    let its = asked_of c.args.request.now in
    let found : position (asked_eq its) asked ≡ Some c.in-Some.number = ap (λ (h : HeldFiles g.row.M.Denot). position (asked_eq its) h.asked) c.self.view_is ∙ sym c.in-Some.ensures.number in
    let once : StandOnce asked_eq asked = subst (λ (h : HeldFiles g.row.M.Denot). StandOnce asked_eq h.asked) (sym c.self.view_is) c.in-Some.ensures.once in
    option_map-step (λ (file : Bor FileName). file.now) name_of c.get.result ∙ ap (option_map name_of) c.get.ensures.value
    ∙ sym (target_by asked targets (below_asked names c.self.inside.requests targets c.self.invariant.led) its c.in-Some.number once found)
    ∙ ap (λ (h : HeldFiles g.row.M.Denot). lookup (asked_eq its) h.resolved) c.self.view_is

pub returns-in-Some-clause-met : goal.returns-in-Some-clause-met
returns-in-Some-clause-met g c =
    let files = c.self.inside.files in
    let trees = c.self.inside.trees.entries in
    are_met (map file_named files) trees c.args.self.now.names c.args.self.now.trees (below_names files trees c.self.invariant.loaded)
    (ap (λ (h : HeldFiles g.row.M.Denot). h.names) c.self.view_is) (ap (λ (h : HeldFiles g.row.M.Denot). h.trees) c.self.view_is)

pub returns-in-None-clause-target : goal.returns-in-None-clause-target
returns-in-None-clause-target g c =
    let names = map file_named c.self.inside.files in
    let asked = map (asked_by names) c.self.inside.requests in
    let targets = c.self.inside.targets.entries in
    let its = asked_of c.args.request.now in
    let none : position (asked_eq its) asked ≡ None = ap (λ (h : HeldFiles g.row.M.Denot). position (asked_eq its) h.asked) c.self.view_is ∙ sym c.in-None.ensures.number in
    sym (target_never asked targets (below_asked names c.self.inside.requests targets c.self.invariant.led) its none)
    ∙ ap (λ (h : HeldFiles g.row.M.Denot). lookup (asked_eq its) h.resolved) c.self.view_is

pub returns-in-None-clause-met : goal.returns-in-None-clause-met
returns-in-None-clause-met g c =
    let files = c.self.inside.files in
    let trees = c.self.inside.trees.entries in
    are_met (map file_named files) trees c.args.self.now.names c.args.self.now.trees (below_names files trees c.self.invariant.loaded)
    (ap (λ (h : HeldFiles g.row.M.Denot). h.names) c.self.view_is) (ap (λ (h : HeldFiles g.row.M.Denot). h.trees) c.self.view_is)
