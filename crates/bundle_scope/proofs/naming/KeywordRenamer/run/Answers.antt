-- The names are those of the keywords, and the tree has them: it is rid of keywords.
use Rattle.std.proofs.Common.{map, ap, ◌∙◌, subst, string_bytes}
use Rattle.std.specs.Option.{option_map}
use Rattle.bundle_syntax.specs.Item.{item_of}
use Rattle.bundle_rules.specs.Scopes.{Es}
use Rattle.bundle_rules.specs.Declarations.{ByContext}
use Rattle.bundle_rules.specs.Rebuilds.{rebuilt}
use Rattle.bundle_tree_places.specs.Changes.{change_of}
use Rattle.bundle_scope_denote.specs.Listed.{IsDenotationTable}
use Rattle.bundle_scope_names.specs.declared.names.ContextRule.TheVariants.{Keep}
use Rattle.bundle_scope_names.specs.Fresh.{AreContexts}
use Rattle.bundle_marks.specs.Composed.{items_list}
use Rattle.bundle_scope.proofs.NamedLemmas.{called-is}
use Rattle.bundle_scope.proofs.PromisedLemmas.{frees-of-keywords, stays-named}
use Rattle.bundle_scope.proofs.naming.KeywordRenamer.run.Goals as goal

pub returns-clause-renamed : goal.returns-clause-renamed
returns-clause-renamed c = record {
  table = c.in_ok-table.table;
  denotes = subst (λ tree. IsDenotationTable ByContext Es tree c.in_ok-table.table) (ap (map item_of) c.deref.ensures.value ∙ c.in_ok-list.ensures ∙ ap items_list c.as_slice-items.ensures.value) c.in_ok-table.ensures;
  names = c.in_ok-names.names;
  texts = c.in_ok-names.ensures.texts;
  contexts = subst (λ tree. AreContexts tree c.in_ok-table.table.bindings.items (map (option_map string_bytes) c.in_ok-names.names.texts.items) c.in_ok-names.names.contexts.items) (ap (map item_of) c.deref-2.ensures.value ∙ c.in_ok-list.ensures ∙ ap items_list c.as_slice-items.ensures.value) c.in_ok-names.ensures.kept;
  is =
      c.in_ok-body.ensures
      ∙ ap (rebuilt (items_list c.as_slice-items.result.now)) (ap (map change_of) c.deref-4.ensures.value ∙ c.in_ok-changes.ensures)
      ∙ called-is _ _ (items_list c.args.tree.now.body.items) Keep c.in_ok-names.names c.in_ok-table.table (ap items_list c.as_slice-items.ensures.value) (ap (map item_of) c.deref-3.ensures.value ∙ c.in_ok-list.ensures ∙ ap items_list c.as_slice-items.ensures.value);
}

pub returns-clause-rid : goal.returns-clause-rid
returns-clause-rid c = frees-of-keywords c.args.tree.now.body.items (items_list c.in_ok-body.body.items) (returns-clause-renamed c)

pub returns-clause-named : goal.returns-clause-named
returns-clause-named c = stays-named c.args.tree.now.body.items (items_list c.in_ok-body.body.items) (returns-clause-renamed c)
