-- The table of the list is one of the module, and the names are given by it.
use Rattle.std.proofs.Common.{map, ap, ◌∙◌, subst}
use Rattle.bundle_syntax.specs.Item.{item_of}
use Rattle.bundle_rules.specs.Declarations.{ByContext}
use Rattle.bundle_rules.specs.Scopes.{Es}
use Rattle.bundle_scope_denote.specs.Listed.{IsDenotationTable}
use Rattle.bundle_merge_theory.specs.finished.Ended.{AreEndNames}
use Rattle.bundler_entry.specs.Finished.{is_renaming}
use Rattle.bundler_entry.proofs.finish.end_names.Goals as goal

pub returns : goal.returns
returns c = record {
  table = c.in_ok-denoted.denoted;
  denotes = subst (λ tree. IsDenotationTable ByContext Es tree c.in_ok-denoted.denoted) (ap (map item_of) c.deref.ensures.value ∙ c.in_ok-list.ensures) c.in_ok-denoted.ensures;
  right = subst (λ tree. AreEndNames (is_renaming c.args.config.now) tree c.in_ok-denoted.denoted c.in_ok-names.names) (ap (map item_of) c.deref-2.ensures.value ∙ c.in_ok-list.ensures) c.in_ok-names.ensures;
  are = c.in_ok-bindings.ensures ∙ ap (map (λ denoted. denoted.binding)) c.deref-3.ensures.value;
}
