-- A request that has no number gets the next, and what others lead to stays.
use Rattle.std.proofs.Common.{◌≡◌, ◌<◌, ◌∙◌, ◌++◌, ◌∷◌, [], Contains, List, Some, ap, arith, length, map, position, subst, sym}
use Rattle.std.proofs.lemmas.List.{length-append, length-map}
use Rattle.std.proofs.lemmas.List.Elements.{Contains-push}
use Rattle.std.proofs.lemmas.Option.{slice_get_within}
use Rattle.bundle_tree_names.specs.FileName.{name_eq, name_of}
use Rattle.bundle_rules.specs.Kept.{Asked, asked_eq}
use Rattle.bundler_call.specs.Held.{asked_by, file_named, resolved_by, AreBelow, HeldFiles}
use Rattle.bundler_call.specs.KeptFiles.{asked_of}
use Rattle.bundler_call.proofs.Holding.{asked_laws, asked_more, asked_there, below_asked, below_longer, below_names, below_push, keys_stay, name_found_at, nobody, request_by, there_found, some_of}
use Rattle.bundler_call.proofs.kept.Kept.reserve_target.Goals as goal

pub unwrap-file-requires : goal.unwrap-file-requires
unwrap-file-requires g c =
    let name = name_of c.args.request.now.file in
    there_found (map file_named c.self.inside.files) name c.number_in.result (sym c.number_in.ensures.number)
    (subst (λ (h : HeldFiles g.row.M.Denot). Contains h.names name) (sym c.self.view_is) c.requires)

pub returns-in-Some-clause-room : goal.returns-in-Some-clause-room
returns-in-Some-clause-room g c =
    let files = c.self.inside.files in
    let requests = c.self.inside.requests in
    let names = map file_named files in
    let its = asked_of c.args.request.now in
    let n = c.unwrap-file.result in
    let found : position (name_eq its.file) names ≡ Some n = sym c.number_in.ensures.number ∙ c.unwrap-file.ensures in
    let once = some_of c.number_in.result n c.unwrap-file.ensures c.number_in.ensures.once in (
      omega (arith, c.in_ok-reserve.ensures.ok),
      asked_there (map (asked_by names) requests) its c.in-Some._number (request_by names requests (below_names files requests c.self.invariant.asking) its n once found ∙ sym c.in-Some.ensures.place),
    )

pub invariant_of-self-in-None : goal.invariant_of-self-in-None
invariant_of-self-in-None g c =
    let files = c.self.inside.files in
    let requests = c.self.inside.requests in
    let names = map file_named files in
    let targets = c.self.inside.targets.entries in
    let its = asked_of c.args.request.now in
    let n = c.unwrap-file.result in
    let found : position (name_eq its.file) names ≡ Some n = sym c.number_in.ensures.number ∙ c.unwrap-file.ensures in
    let less : n < length files = subst (λ k. n < k) (length-map files file_named) (slice_get_within names n its.file (name_found_at names its.file n found)) in
    let longer = below_longer (length requests) (length (requests ++ (n, its.specifier) ∷ [])) targets (omega (arith, length-append requests ((n, its.specifier) ∷ []))) c.self.invariant.led in
    record {
      bounded = c.self.invariant.bounded;
      loaded = c.self.invariant.loaded;
      asking = subst (AreBelow (length files)) (sym c.in_ok-add-in-None.ensures.added) (below_push (length files) requests n its.specifier c.self.invariant.asking less);
      led = subst (AreBelow (length c.add.new.self)) (sym c.in_ok-reserve.ensures.entries) (subst (λ r. AreBelow (length r) targets) (sym c.in_ok-add-in-None.ensures.added) longer);
    }

pub returns-in_ok-add-in-None-clause-room : goal.returns-in_ok-add-in-None-clause-room
returns-in_ok-add-in-None-clause-room g c =
    let requests = c.self.inside.requests in
    let names = map file_named c.self.inside.files in
    let its = asked_of c.args.request.now in
    let n = c.unwrap-file.result in
    let found : position (name_eq its.file) names ≡ Some n = sym c.number_in.ensures.number ∙ c.unwrap-file.ensures in
    let more = ap (map (asked_by names)) c.in_ok-add-in-None.ensures.added ∙ asked_more names requests its n found in
    (omega (arith, c.in_ok-reserve.ensures.ok), subst (λ (l : List Asked). Contains l its) (sym more) (Contains-push (map (asked_by names) requests) its))

pub returns-in_ok-add-in-None-clause-resolved : goal.returns-in_ok-add-in-None-clause-resolved
returns-in_ok-add-in-None-clause-resolved g c =
    let requests = c.self.inside.requests in
    let names = map file_named c.self.inside.files in
    let targets = c.self.inside.targets.entries in
    let asked = map (asked_by names) requests in
    let its = asked_of c.args.request.now in
    let n = c.unwrap-file.result in
    let found : position (name_eq its.file) names ≡ Some n = sym c.number_in.ensures.number ∙ c.unwrap-file.ensures in
    let more = ap (map (asked_by names)) c.in_ok-add-in-None.ensures.added ∙ asked_more names requests its n found in
    ap (λ l. resolved_by l c.reserve.new.self.entries) more
    ∙ ap (resolved_by (asked ++ its ∷ [])) c.in_ok-reserve.ensures.entries
    ∙ keys_stay asked_eq asked_laws nobody asked targets (below_asked names requests targets c.self.invariant.led) name_of (its ∷ [])
    ∙ ap (λ (h : HeldFiles g.row.M.Denot). h.resolved) c.self.view_is
