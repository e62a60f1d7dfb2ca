-- The object is what was answered, with the names of the bundle.
use Rattle.std.proofs.Common.{◌≡◌, false, None, refl, ap, ◌∙◌}
use Rattle.std.proofs.lemmas.Result.{on_ok_weaker}
use Rattle.bundle_syntax.specs.declared.kind.ExportMetadata.{ExportMetadata}
use Rattle.bundle_tree_listed.specs.Tree.{expr_items, stmt_items}
use Rattle.bundle_tree_places.specs.Marks.{ident_of}
use Rattle.bundle_rules.specs.Statements.{no_notes}
use Rattle.bundle_merge_injected.specs.Listed.{constant}
use Rattle.bundle_merge_items.proofs.LackLemmas.{meta-adds}
use Rattle.bundle_merge_items.proofs.module.add_meta_object.Goals as goal

without-notes : (notes : ExportMetadata) → notes.injected ≡ false → notes.export_ctxt ≡ None →
    notes ≡ no_notes
without-notes notes injected context =
    λ i. record { injected = injected i; export_ctxt = context i }

pub returns : goal.returns
returns c =
    let object = expr_items 1 c.in_ok-object.object in
    on_ok_weaker c.add_stmt.result
    (meta-adds c.args.names.now c.args.which c.args.answer
    c.answered.result.now c.answered.ensures
    c.in_ok-rewrites.rewrites.items c.in_ok-rewrites.ensures
    (record { rewrites = c.deref.result; meta = None }) c.deref.ensures.value refl
    c.in_ok-object.object c.in_ok-object.ensures
    (stmt_items 0 c.in_ok-constant.field-0)
    (c.in_ok-constant.ensures
    ∙ ap (λ notes. constant notes (ident_of c.of-name.result) object)
    (without-notes c.default.result c.default.ensures.0 c.default.ensures.1)
    ∙ ap (λ ident. constant no_notes ident object) c.of-name.ensures)
    c.args.items.now c.add_stmt.new.items)
    c.add_stmt.ensures
