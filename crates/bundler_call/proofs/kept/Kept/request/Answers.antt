-- A request has the number with which its specifier is marked by the number of its file.
use Rattle.std.proofs.Common.{◌∙◌, OnSome, ap, map, position, subst, sym}
use Rattle.bundle_rules.specs.Kept.{asked_eq}
use Rattle.bundler_call.specs.Held.{file_named, HeldFiles}
use Rattle.bundler_call.specs.KeptFiles.{asked_of}
use Rattle.bundler_call.specs.Placed.{StandOnce}
use Rattle.bundler_call.proofs.Holding.{below_names, request_by, request_never, requests_found_once}
use Rattle.bundler_call.proofs.kept.Kept.request.Goals as goal

pub returns-in-Some-clause-number : goal.returns-in-Some-clause-number
returns-in-Some-clause-number g c =
    let files = c.self.inside.files in
    let requests = c.self.inside.requests in
    let asked = asked_of c.args.request.now in
    c.get.ensures.place
    ∙ sym (request_by (map file_named files) requests (below_names files requests c.self.invariant.asking) asked c.in-Some.file c.in-Some.ensures.once (sym c.in-Some.ensures.number))
    ∙ ap (λ (h : HeldFiles g.row.M.Denot). position (asked_eq asked) h.asked) c.self.view_is

pub returns-in-Some-clause-once : goal.returns-in-Some-clause-once
returns-in-Some-clause-once g c =
    let files = c.self.inside.files in
    let requests = c.self.inside.requests in
    subst (λ (h : HeldFiles g.row.M.Denot). OnSome c.get.result (StandOnce asked_eq h.asked)) c.self.view_is
    (requests_found_once (map file_named files) requests (below_names files requests c.self.invariant.asking) c.get.result c.in-Some.ensures.once c.get.ensures.once)

pub returns-in-None-clause-number : goal.returns-in-None-clause-number
returns-in-None-clause-number g c =
    let files = c.self.inside.files in
    let requests = c.self.inside.requests in
    let asked = asked_of c.args.request.now in
    sym (request_never (map file_named files) requests (below_names files requests c.self.invariant.asking) asked (sym c.in-None.ensures.number))
    ∙ ap (λ (h : HeldFiles g.row.M.Denot). position (asked_eq asked) h.asked) c.self.view_is
