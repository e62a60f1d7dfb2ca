-- A file that has no number gets the next, and what is kept of the others stays.
use Rattle.std.proofs.Common.{◌≡◌, ◌∙◌, ◌++◌, ◌∷◌, [], Contains, Some, ap, map, position, subst, sym}
use Rattle.std.proofs.lemmas.List.{length-map}
use Rattle.bundle_tree_names.specs.FileName.{custom, name_eq, name_of}
use Rattle.bundle_tree_names.specs.FileNameLaws.{name_eq_equiv}
use Rattle.bundler_call.specs.Held.{asked_by, file_named, resolved_by, trees_by, HeldFiles}
use Rattle.bundler_call.proofs.Holding.{absent_from, asked_stay, below_names, found_there, keys_stay, on_err_of, position-last}
use Rattle.bundler_call.proofs.kept.Kept.id.Goals as goal

pub returns-in-Some-clause-numbered : goal.returns-in-Some-clause-numbered
returns-in-Some-clause-numbered g c =
    let name = name_of c.args.file.now in
    rw c.from_u32.ensures (subst (λ (h : HeldFiles g.row.M.Denot). position (name_eq name) h.names ≡ Some c.in-Some.number) c.self.view_is (sym c.in-Some.ensures.number))

pub returns-in-Some-clause-added : goal.returns-in-Some-clause-added
returns-in-Some-clause-added g c = λ absent.
    let name = name_of c.args.file.now in
    absurd (absent (subst (λ (h : HeldFiles g.row.M.Denot). Contains h.names name) c.self.view_is (found_there (map file_named c.self.inside.files) name c.in-Some.number (sym c.in-Some.ensures.number))))

pub returns-in_err-number-in-None-clause-absent : goal.returns-in_err-number-in-None-clause-absent
returns-in_err-number-in-None-clause-absent g c =
    let name = name_of c.args.file.now in
    let absent : Contains (map file_named c.add_file.new.files) name → ⊥
    = λ there. absent_from (map file_named c.self.inside.files) name (sym c.in-None.ensures.number) (subst (λ l. Contains (map file_named l) name) c.in_err-number-in-None.ensures.unchanged there) in
    on_err_of _ absent

pub returns-in_ok-number-in-None-clause-numbered : goal.returns-in_ok-number-in-None-clause-numbered
returns-in_ok-number-in-None-clause-numbered g c =
    let name = name_of c.args.file.now in
    let files = c.self.inside.files in
    let at : position (name_eq name) (map file_named c.add_file.new.files) ≡ Some c.in_ok-number-in-None.number
    = ap (position (name_eq name)) c.in_ok-number-in-None.ensures.added ∙ position-last (name_eq name) (map file_named files) name (sym c.in-None.ensures.number) (name_eq_equiv.refl name)
    ∙ ap Some (length-map files file_named ∙ sym c.in_ok-number-in-None.ensures.last) in
    rw c.from_u32-in-None.ensures at

pub returns-in_ok-number-in-None-clause-known : goal.returns-in_ok-number-in-None-clause-known
returns-in_ok-number-in-None-clause-known g c = λ there.
    let name = name_of c.args.file.now in
    absurd (absent_from (map file_named c.self.inside.files) name (sym c.in-None.ensures.number) (subst (λ (h : HeldFiles g.row.M.Denot). Contains h.names name) (sym c.self.view_is) there))

pub returns-in_ok-number-in-None-clause-added : goal.returns-in_ok-number-in-None-clause-added
returns-in_ok-number-in-None-clause-added g c = λ absent.
    c.in_ok-number-in-None.ensures.added ∙ ap (λ (h : HeldFiles g.row.M.Denot). h.names ++ name_of c.args.file.now ∷ []) c.self.view_is

pub returns-in_ok-number-in-None-clause-trees : goal.returns-in_ok-number-in-None-clause-trees
returns-in_ok-number-in-None-clause-trees g c =
    let files = c.self.inside.files in
    let trees = c.self.inside.trees.entries in
    ap (λ names. trees_by names trees) c.in_ok-number-in-None.ensures.added
    ∙ keys_stay name_eq name_eq_equiv (custom []) (map file_named files) trees (below_names files trees c.self.invariant.loaded) (λ (x : g.row.M.Denot). x) (name_of c.args.file.now ∷ [])
    ∙ ap (λ (h : HeldFiles g.row.M.Denot). h.trees) c.self.view_is

pub returns-in_ok-number-in-None-clause-resolved : goal.returns-in_ok-number-in-None-clause-resolved
returns-in_ok-number-in-None-clause-resolved g c =
    let files = c.self.inside.files in
    let requests = c.self.inside.requests in
    let targets = c.self.inside.targets.entries in
    ap (λ names. resolved_by (map (asked_by names) requests) targets) c.in_ok-number-in-None.ensures.added
    ∙ ap (λ asked. resolved_by asked targets) (asked_stay (map file_named files) requests (below_names files requests c.self.invariant.asking) (name_of c.args.file.now ∷ []))
    ∙ ap (λ (h : HeldFiles g.row.M.Denot). h.resolved) c.self.view_is
