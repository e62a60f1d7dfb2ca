-- A tree goes last, with the number of its file.
use Rattle.std.proofs.Common.{◌≡◌, ◌<◌, ◌∙◌, ◌++◌, ◌∷◌, [], Contains, None, Some, ap, eqb, length, map, position, subst, sym}
use Rattle.std.specs.Map.{lookup}
use Rattle.std.proofs.lemmas.List.{length-map}
use Rattle.std.proofs.lemmas.Option.{slice_get_within}
use Rattle.indexmap.proofs.CallerLemmas.{insert_entry-new}
use Rattle.bundle_tree_names.specs.FileName.{name_eq, name_of}
use Rattle.bundler_call.specs.Held.{file_named, trees_by, AreBelow, HeldFiles}
use Rattle.bundler_call.proofs.Holding.{below_names, below_push, name_found_at, there_found, tree_by, trees_more, on_ok, some_of}
use Rattle.bundler_call.proofs.kept.Kept.keep_tree.Goals as goal

pub unwrap-number-requires : goal.unwrap-number-requires
unwrap-number-requires g c =
    there_found (map file_named c.self.inside.files) (name_of c.args.file) c.number_in.result (sym c.number_in.ensures.number)
    (subst (λ (h : HeldFiles g.row.M.Denot). Contains h.names (name_of c.args.file)) (sym c.self.view_is) c.requires.met)

pub invariant_of-self : goal.invariant_of-self
invariant_of-self g c =
    let files = c.self.inside.files in
    let names = map file_named files in
    let trees = c.self.inside.trees in
    let name = name_of c.args.file in
    let n = c.unwrap-number.result in
    let is : c.number_in.result ≡ Some n = c.unwrap-number.ensures in
    let found : position (name_eq name) names ≡ Some n = sym c.number_in.ensures.number ∙ is in
    let once = some_of c.number_in.result n is c.number_in.ensures.once in
    let none : lookup (eqb n) trees.entries ≡ None
    = sym (tree_by names trees.entries (below_names files trees.entries c.self.invariant.loaded) name n once found) ∙ ap (λ (h : HeldFiles g.row.M.Denot). lookup (name_eq name) h.trees) c.self.view_is ∙ c.requires.absent in
    let room = subst (λ (h : HeldFiles g.row.M.Denot). 0 < h.tree_room) (sym c.self.view_is) c.requires.room in
    let entries : c.insert.new.self.entries ≡ trees.entries ++ (n, c.args.tree) ∷ []
    = on_ok c.insert.result _ (c.insert.ensures.succeeds room) c.insert.ensures.entries ∙ insert_entry-new eqb trees n c.args.tree none in
    let less : n < length files = subst (λ k. n < k) (length-map files file_named) (slice_get_within names n name (name_found_at names name n found)) in
    record {
      bounded = c.self.invariant.bounded;
      loaded = subst (AreBelow (length files)) (sym entries) (below_push (length files) trees.entries n c.args.tree c.self.invariant.loaded less);
      asking = c.self.invariant.asking;
      led = c.self.invariant.led;
    }

pub returns-clause-trees : goal.returns-clause-trees
returns-clause-trees g c =
    let files = c.self.inside.files in
    let names = map file_named files in
    let trees = c.self.inside.trees in
    let name = name_of c.args.file in
    let n = c.unwrap-number.result in
    let is : c.number_in.result ≡ Some n = c.unwrap-number.ensures in
    let found : position (name_eq name) names ≡ Some n = sym c.number_in.ensures.number ∙ is in
    let once = some_of c.number_in.result n is c.number_in.ensures.once in
    let none : lookup (eqb n) trees.entries ≡ None
    = sym (tree_by names trees.entries (below_names files trees.entries c.self.invariant.loaded) name n once found) ∙ ap (λ (h : HeldFiles g.row.M.Denot). lookup (name_eq name) h.trees) c.self.view_is ∙ c.requires.absent in
    let room = subst (λ (h : HeldFiles g.row.M.Denot). 0 < h.tree_room) (sym c.self.view_is) c.requires.room in
    let entries : c.insert.new.self.entries ≡ trees.entries ++ (n, c.args.tree) ∷ []
    = on_ok c.insert.result _ (c.insert.ensures.succeeds room) c.insert.ensures.entries ∙ insert_entry-new eqb trees n c.args.tree none in
    ap (trees_by names) entries ∙ trees_more names trees.entries name n c.args.tree found
    ∙ ap (λ (h : HeldFiles g.row.M.Denot). h.trees ++ (name, c.args.tree) ∷ []) c.self.view_is
