-- The object of a namespace has what linking gives its module.
use Rattle.std.proofs.Common.{ap, map, ◌∙◌}
use Rattle.std.proofs.lemmas.Result.{IfOk-weaker}
use Rattle.bundle_rules.specs.Statements.{no_notes}
use Rattle.bundle_link_index.specs.declared.target.TargetRef.TheVariants.{Namespace}
use Rattle.bundle_merge_injected.specs.Listed.{namespace_object, pair_of}
use Rattle.bundle_merge_names.specs.Idents.{target_ident}
use Rattle.bundle_merge_items.proofs.merge.namespace_stmt.Goals as goal

pub returns : goal.returns
returns c =
    IfOk-weaker c.namespace_object.result _ _
    (λ made is. record {
      pairs = map pair_of c.in_ok-pairs.pairs.items;
      linked = c.in_ok-pairs.ensures;
      is = is
          ∙ ap (λ ident. namespace_object no_notes ident (map pair_of c.deref.result.now))
          c.target-object.ensures
          ∙ ap (λ pairs. namespace_object no_notes
          (target_ident c.args.names.now (Namespace c.args.which)) (map pair_of pairs))
          c.deref.ensures.value;
    })
    c.namespace_object.ensures
