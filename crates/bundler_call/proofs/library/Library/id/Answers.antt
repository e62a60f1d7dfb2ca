-- A file that gets its number was met, and what is kept grows by it.
use Rattle.std.proofs.Common.{refl, ap}
use Rattle.bundle_tree_names.specs.FileName.{name_of}
use Rattle.bundler_call.specs.Kept.{kept_of}
use Rattle.bundler_call.proofs.Growing.{id_judged, id_grows, id_stays, id_unchanged, kept_same, numbered_is_met, read_trees, unmet}
use Rattle.bundler_call.proofs.library.Library.id.Goals as goal

pub returns-clause-met : goal.returns-clause-met
returns-clause-met g c = numbered_is_met (kept_of c.id.new.self) (name_of c.args.file.now) c.id.result c.id.ensures.numbered

pub returns-clause-bounded : goal.returns-clause-bounded
returns-clause-bounded g c = c.id.ensures.bounded

pub returns-clause-grows : goal.returns-clause-grows
returns-clause-grows g c = λ settings entries due. record {
  loader = refl;
  resolver = refl;
  grows = id_grows _ _ settings entries (kept_of c.args.self.now.kept) (kept_of c.id.new.self) (name_of c.args.file.now) c.id.result c.id.ensures.known c.id.ensures.added c.id.ensures.unchanged (ap read_trees c.id.ensures.trees) c.id.ensures.resolved c.id.ensures.bounded due;
}

pub returns-clause-keeps : goal.returns-clause-keeps
returns-clause-keeps g c = record {
  loader = refl;
  resolver = refl;
  stays = id_stays (kept_of c.args.self.now.kept) (kept_of c.id.new.self) (name_of c.args.file.now) c.id.result c.id.ensures.known c.id.ensures.added c.id.ensures.unchanged (ap read_trees c.id.ensures.trees) c.id.ensures.resolved;
}

pub returns-clause-judged : goal.returns-clause-judged
returns-clause-judged g c =
    id_judged (kept_of c.args.self.now.kept) (kept_of c.id.new.self) (name_of c.args.file.now) c.id.result c.id.ensures.numbered c.id.ensures.known c.id.ensures.added c.id.ensures.unchanged (ap read_trees c.id.ensures.trees) c.id.ensures.resolved c.id.ensures.bounded c.id.ensures.refused c.id.ensures.absent

pub returns-clause-known : goal.returns-clause-known
returns-clause-known g c = λ met. kept_same (kept_of c.args.self.now.kept) (kept_of c.id.new.self) (c.id.ensures.known met) (ap read_trees c.id.ensures.trees) c.id.ensures.resolved

pub returns-clause-absent : goal.returns-clause-absent
returns-clause-absent g c = unmet (kept_of c.args.self.now.kept) (kept_of c.id.new.self) (name_of c.args.file.now) c.id.result c.id.ensures.unchanged c.id.ensures.absent

pub returns-clause-unchanged : goal.returns-clause-unchanged
returns-clause-unchanged g c = id_unchanged (kept_of c.args.self.now.kept) (kept_of c.id.new.self) c.id.result c.id.ensures.unchanged (ap read_trees c.id.ensures.trees) c.id.ensures.resolved
