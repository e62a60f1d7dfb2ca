use Rattle.std.proofs.Common.{◌≡◌, IsSomeAnd, map, ap, sym, subst, ◌∙◌, flat_map}
use Rattle.serde_json.specs.Find.{as_array}
use Rattle.bundle_syntax.specs.Item.{item_of}
use Rattle.bundle_json_form.specs.Form.{top, AreForms}
use Rattle.bundle_json_form.specs.Plain.{seen}
use Rattle.bundle_tree_listed.specs.Tree.{key_value_prop_items}
use Rattle.bundle_json_document.specs.Document.{no_document_notes}
use Rattle.bundle_json_document.proofs.Turns.{no_form, no_properties, no_tree}
use Rattle.bundle_json_document.proofs.Fronts.{handed_on}
use Rattle.bundle_json_document.proofs.forms.properties_in.Goals as goal

pub returns-clause-ok : goal.returns-clause-ok
returns-clause-ok c =
    let d = seen c.args.value.now in
    let listed : flat_map (key_value_prop_items 0) c.in_ok-made.made.items ≡ map item_of c.in_ok-pieces.pieces.items = c.in_ok-made.ensures.made ∙ ap (map item_of) c.as_slice.ensures.value in
    subst (λ list. IsSomeAnd (as_array d) (λ ds. AreForms no_document_notes top ds list)) (sym listed)
    (subst (λ notes. IsSomeAnd (as_array d) (λ ds. AreForms notes top ds (map item_of c.in_ok-pieces.pieces.items))) c.requires c.in_ok-pieces.ensures.read)

pub returns-in_err-pieces-clause-refused : goal.returns-in_err-pieces-clause-refused
returns-in_err-pieces-clause-refused c =
    let d = seen c.args.value.now in
    handed_on _ _ c.from_residual.ensures.1 (λ none. none)
    (no_form _ (λ none them are. none (flat_map (key_value_prop_items 0) them.items)
    (subst (λ notes. IsSomeAnd (as_array d) (λ ds. AreForms notes top ds (flat_map (key_value_prop_items 0) them.items)))
    (sym c.requires) are))
    c.in_err-pieces.ensures.refused)

pub returns-in_err-made-clause-refused : goal.returns-in_err-made-clause-refused
returns-in_err-made-clause-refused c =
    let d = seen c.args.value.now in
    handed_on _ _ c.from_residual-in_err-made.ensures.1 (λ none. none)
    (no_tree _ (no_properties d (map item_of c.as_slice.result.now)
    (λ other are. c.in_ok-pieces.ensures.only other
    (subst (λ notes. IsSomeAnd (as_array d) (λ ds. AreForms notes top ds other)) (sym c.requires) are)
    ∙ ap (map item_of) (sym c.as_slice.ensures.value)))
    c.in_err-made.ensures.refused)
