-- The file that a request leads to goes last, with the number of the request.
use Rattle.std.proofs.Common.{◌≡◌, ◌<◌, ◌∙◌, ◌++◌, ◌∷◌, [], None, Some, ap, eqb, length, map, position, subst, sym}
use Rattle.std.specs.Map.{lookup}
use Rattle.std.proofs.lemmas.List.{length-map}
use Rattle.std.proofs.lemmas.Option.{slice_get_within}
use Rattle.indexmap.proofs.CallerLemmas.{insert_entry-new}
use Rattle.bundle_tree_names.specs.FileName.{name_of}
use Rattle.bundle_rules.specs.Kept.{asked_eq}
use Rattle.bundler_call.specs.Held.{asked_by, file_named, resolved_by, AreBelow, HeldFiles}
use Rattle.bundler_call.specs.KeptFiles.{asked_of}
use Rattle.bundler_call.specs.Placed.{StandOnce}
use Rattle.bundler_call.proofs.Holding.{asked_found, asked_found_at, below_asked, below_push, resolved_more, target_by, none_from_said, on_ok, some_of}
use Rattle.bundler_call.proofs.kept.Kept.keep_target.Goals as goal

pub unwrap-number-requires : goal.unwrap-number-requires
unwrap-number-requires g c = asked_found c.args.self.now.asked (asked_of c.args.request) c.request.result (sym c.request.ensures.number) c.requires.room.1

pub invariant_of-self : goal.invariant_of-self
invariant_of-self g c =
    let names = map file_named c.self.inside.files in
    let requests = c.self.inside.requests in
    let asked = map (asked_by names) requests in
    let targets = c.self.inside.targets in
    let its = asked_of c.args.request in
    let n = c.unwrap-number.result in
    let is : c.request.result ≡ Some n = c.unwrap-number.ensures in
    let found : position (asked_eq its) asked ≡ Some n = ap (λ (h : HeldFiles g.row.M.Denot). position (asked_eq its) h.asked) c.self.view_is ∙ sym c.request.ensures.number ∙ is in
    let once : StandOnce asked_eq asked = subst (λ (h : HeldFiles g.row.M.Denot). StandOnce asked_eq h.asked) (sym c.self.view_is) (some_of c.request.result n is c.request.ensures.once) in
    let none : lookup (eqb n) targets.entries ≡ None
    = none_from_said name_of (lookup (eqb n) targets.entries) (
    sym (target_by asked targets.entries (below_asked names requests targets.entries c.self.invariant.led) its n once found)
    ∙ ap (λ (h : HeldFiles g.row.M.Denot). lookup (asked_eq its) h.resolved) c.self.view_is ∙ c.requires.absent
    ) in
    let room = subst (λ (h : HeldFiles g.row.M.Denot). 0 < h.target_room) (sym c.self.view_is) c.requires.room.0 in
    let entries : c.insert.new.self.entries ≡ targets.entries ++ (n, c.args.file) ∷ []
    = on_ok c.insert.result _ (c.insert.ensures.succeeds room) c.insert.ensures.entries ∙ insert_entry-new eqb targets n c.args.file none in
    let less : n < length requests = subst (λ k. n < k) (length-map requests (asked_by names)) (slice_get_within asked n its (asked_found_at asked its n found)) in
    record {
      bounded = c.self.invariant.bounded;
      loaded = c.self.invariant.loaded;
      asking = c.self.invariant.asking;
      led = subst (AreBelow (length requests)) (sym entries) (below_push (length requests) targets.entries n c.args.file c.self.invariant.led less);
    }

pub returns-clause-resolved : goal.returns-clause-resolved
returns-clause-resolved g c =
    let names = map file_named c.self.inside.files in
    let requests = c.self.inside.requests in
    let asked = map (asked_by names) requests in
    let targets = c.self.inside.targets in
    let its = asked_of c.args.request in
    let n = c.unwrap-number.result in
    let is : c.request.result ≡ Some n = c.unwrap-number.ensures in
    let found : position (asked_eq its) asked ≡ Some n = ap (λ (h : HeldFiles g.row.M.Denot). position (asked_eq its) h.asked) c.self.view_is ∙ sym c.request.ensures.number ∙ is in
    let once : StandOnce asked_eq asked = subst (λ (h : HeldFiles g.row.M.Denot). StandOnce asked_eq h.asked) (sym c.self.view_is) (some_of c.request.result n is c.request.ensures.once) in
    let none : lookup (eqb n) targets.entries ≡ None
    = none_from_said name_of (lookup (eqb n) targets.entries) (
    sym (target_by asked targets.entries (below_asked names requests targets.entries c.self.invariant.led) its n once found)
    ∙ ap (λ (h : HeldFiles g.row.M.Denot). lookup (asked_eq its) h.resolved) c.self.view_is ∙ c.requires.absent
    ) in
    let room = subst (λ (h : HeldFiles g.row.M.Denot). 0 < h.target_room) (sym c.self.view_is) c.requires.room.0 in
    let entries : c.insert.new.self.entries ≡ targets.entries ++ (n, c.args.file) ∷ []
    = on_ok c.insert.result _ (c.insert.ensures.succeeds room) c.insert.ensures.entries ∙ insert_entry-new eqb targets n c.args.file none in
    ap (resolved_by asked) entries ∙ resolved_more asked targets.entries its n c.args.file found
    ∙ ap (λ (h : HeldFiles g.row.M.Denot). h.resolved ++ (its, name_of c.args.file) ∷ []) c.self.view_is
