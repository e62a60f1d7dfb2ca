-- The tree has the names of the naming rule, and each context is 0: names alone give the same bindings.
use Rattle.std.proofs.Common.{map, ap, sym, ◌∙◌, subst}
use Rattle.bundle_syntax.specs.Item.{item_of}
use Rattle.bundle_rules.specs.Scopes.{Es}
use Rattle.bundle_rules.specs.Declarations.{ByContext}
use Rattle.bundle_rules.specs.Rebuilds.{rebuilt}
use Rattle.bundle_tree_places.specs.Changes.{change_of}
use Rattle.bundle_scope_denote.specs.Listed.{IsDenotationTable}
use Rattle.bundle_scope_names.specs.declared.names.ContextRule.TheVariants.{Clear}
use Rattle.bundle_scope_names.specs.Turns.{AreBindingsNamed}
use Rattle.bundle_marks.specs.Composed.{items_list}
use Rattle.bundle_scope.specs.Named.{words_aside}
use Rattle.bundle_scope.proofs.NamedLemmas.{called-is}
use Rattle.bundle_scope.proofs.PromisedLemmas.{tells-by-names, stays-undoubled}
use Rattle.bundle_scope.proofs.naming.hygiene.Goals as goal

pub returns-clause-renamed : goal.returns-clause-renamed
returns-clause-renamed c = record {
  table = c.in_ok-table.table;
  denotes = subst (λ tree. IsDenotationTable ByContext Es tree c.in_ok-table.table) (ap (map item_of) c.deref.ensures.value ∙ c.in_ok-list.ensures ∙ ap items_list c.as_slice-items.ensures.value) c.in_ok-table.ensures;
  kept = c.in_ok-kept.kept;
  texts_kept = c.in_ok-kept.ensures.same;
  contexts_kept = c.in_ok-kept.ensures.same_contexts;
  names = c.in_ok-names.names;
  named = subst (λ tree. AreBindingsNamed c.in_ok-table.table tree c.in_ok-kept.kept c.in_ok-names.names) (ap (map item_of) c.deref-2.ensures.value ∙ c.in_ok-list.ensures ∙ ap items_list c.as_slice-items.ensures.value) c.in_ok-names.ensures.named;
  is =
      sym c.clear_words.ensures.clear
      ∙ c.clear_words.ensures.same
      ∙ ap words_aside (c.in_ok-body.ensures
      ∙ ap (rebuilt (items_list c.as_slice-items.result.now)) (ap (map change_of) c.deref-4.ensures.value ∙ c.in_ok-changes.ensures)
      ∙ called-is _ _ (items_list c.args.tree.now.body.items) Clear c.in_ok-names.names c.in_ok-table.table (ap items_list c.as_slice-items.ensures.value) (ap (map item_of) c.deref-3.ensures.value ∙ c.in_ok-list.ensures ∙ ap items_list c.as_slice-items.ensures.value));
}

pub returns-clause-named : goal.returns-clause-named
returns-clause-named c = tells-by-names c.args.tree.now.body.items _ (returns-clause-renamed c)

pub returns-clause-undoubled : goal.returns-clause-undoubled
returns-clause-undoubled c = stays-undoubled c.args.tree.now.body.items _ (returns-clause-renamed c)
