use Rattle.std.proofs.Common.{◌≡◌, map, ap, sym, subst, ◌∙◌}
use Rattle.bundle_syntax.specs.Item.{item_of}
use Rattle.bundle_json_form.specs.Form.{top, IsForm}
use Rattle.bundle_json_form.specs.Plain.{seen}
use Rattle.bundle_tree_listed.specs.Tree.{module_items}
use Rattle.bundle_json_document.specs.Document.{no_document_notes}
use Rattle.bundle_json_document.proofs.Turns.{no_form, no_module, no_tree}
use Rattle.bundle_json_document.proofs.Fronts.{handed_on}
use Rattle.bundle_json_document.proofs.forms.module_in.Goals as goal

pub returns-clause-ok : goal.returns-clause-ok
returns-clause-ok c =
    let d = seen c.args.value.now in
    let listed : module_items 0 c.in_ok-made.made ≡ map item_of c.in_ok-pieces.pieces.items = c.in_ok-made.ensures.made ∙ ap (map item_of) c.as_slice.ensures.value in
    subst (IsForm no_document_notes top d) (sym listed) (subst (λ notes. IsForm notes top d (map item_of c.in_ok-pieces.pieces.items)) c.requires c.in_ok-pieces.ensures.read)

pub returns-in_err-pieces-clause-refused : goal.returns-in_err-pieces-clause-refused
returns-in_err-pieces-clause-refused c =
    handed_on _ _ c.from_residual.ensures.1 (λ none. none)
    (no_form _ (λ none it is. none (module_items 0 it)
    (subst (λ notes. IsForm notes top (seen c.args.value.now) (module_items 0 it)) (sym c.requires) is))
    c.in_err-pieces.ensures.refused)

pub returns-in_err-made-clause-refused : goal.returns-in_err-made-clause-refused
returns-in_err-made-clause-refused c =
    let d = seen c.args.value.now in
    handed_on _ _ c.from_residual-in_err-made.ensures.1 (λ none. none)
    (no_tree _ (no_module d (map item_of c.as_slice.result.now)
    (λ other is. c.in_ok-pieces.ensures.only other (subst (λ notes. IsForm notes top d other) (sym c.requires) is)
    ∙ ap (map item_of) (sym c.as_slice.ensures.value)))
    c.in_err-made.ensures.refused)
