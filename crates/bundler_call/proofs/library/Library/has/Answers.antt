-- What a look-up among trees finds is kept.
use Rattle.bundle_tree_names.specs.FileName.{name_of, name_eq}
use Rattle.bundler_call.specs.KeptFiles.{trees_in}
use Rattle.bundler_call.proofs.Growing.{kept_if, none_if, seen_same}
use Rattle.bundler_call.proofs.library.Library.has.Goals as goal

pub returns : goal.returns
returns g c = record {
  kept = λ is. kept_if (name_eq (name_of c.args.file.now)) (trees_in c.args.self.now.kept) c.tree.result c.is_some.result c.tree.ensures c.is_some.ensures is;
  none = λ is. none_if (name_eq (name_of c.args.file.now)) (trees_in c.args.self.now.kept) (seen_same (name_eq (name_of c.args.file.now)) (trees_in c.args.self.now.kept) c.tree.result c.is_some.result c.tree.ensures c.is_some.ensures is);
  absent = λ is. seen_same (name_eq (name_of c.args.file.now)) (trees_in c.args.self.now.kept) c.tree.result c.is_some.result c.tree.ensures c.is_some.ensures is;
}
