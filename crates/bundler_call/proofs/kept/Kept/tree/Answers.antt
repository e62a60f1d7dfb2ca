-- The tree of a file is that with its number.
use Rattle.std.proofs.Common.{◌∙◌, ap, map, sym}
use Rattle.std.specs.Map.{lookup}
use Rattle.bundle_tree_names.specs.FileName.{name_eq, name_of}
use Rattle.bundler_call.specs.Held.{file_named, HeldFiles}
use Rattle.bundler_call.proofs.Holding.{below_names, tree_by, tree_never}
use Rattle.bundler_call.proofs.kept.Kept.tree.Goals as goal

pub returns-in-Some : goal.returns-in-Some
returns-in-Some g c =
    let files = c.self.inside.files in
    let trees = c.self.inside.trees.entries in
    let name = name_of c.args.file.now in
    c.get.ensures.value
    ∙ sym (tree_by (map file_named files) trees (below_names files trees c.self.invariant.loaded) name c.in-Some.number c.in-Some.ensures.once (sym c.in-Some.ensures.number))
    ∙ ap (λ (h : HeldFiles g.row.M.Denot). lookup (name_eq name) h.trees) c.self.view_is

pub returns-in-None : goal.returns-in-None
returns-in-None g c =
    let files = c.self.inside.files in
    let trees = c.self.inside.trees.entries in
    let name = name_of c.args.file.now in
    sym (tree_never (map file_named files) trees (below_names files trees c.self.invariant.loaded) name (sym c.in-None.ensures.number))
    ∙ ap (λ (h : HeldFiles g.row.M.Denot). lookup (name_eq name) h.trees) c.self.view_is
