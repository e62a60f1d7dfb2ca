-- The kind that may have a name has it, or none has it.
use Rattle.std.proofs.Common.{◌≡◌, ℕ, List, Option, Some, None, false, bytes_eq, option_map, sym, ap, ◌∙◌, true≢false}
use Rattle.std.proofs.lemmas.Slice.Eq.{bytes_eq-Decides}
use Rattle.bundle_syntax.specs.declared.piece.Node.{Node}
use Rattle.bundle_syntax.specs.Item.{head_of, Head}
use Rattle.bundle_json_form.specs.Form as form
use Rattle.bundle_json_form.specs.Kinds.{kind_of}
use Rattle.bundle_json_form.proofs.OfKind.{known}
use Rattle.bundle_json_form.proofs.node.kind_named.Goals as goal
use Rattle.bundle_json_form.proofs.node.kind_named.Goals.{in_default-via-in-Some+else-is_same, in_default-via-in_default}

abbrev name_in : Option Node → Option (List ℕ)
name_in found = option_map (λ kind. form.name (head_of kind)) found

guessed : (found : Option Node) (bytes it : List ℕ) → name_in found ≡ option_map form.name (kind_of bytes) → bytes ≡ it
    → (kind : Head) → form.name kind ≡ it → name_in found ≡ Some it
guessed found bytes it is same kind named =
    is ∙ ap (λ n. option_map form.name (kind_of n)) (same ∙ sym named) ∙ known kind ∙ ap Some named

another : (found : Option Node) (kind : Node) (word it : List ℕ) → found ≡ Some kind → name_in found ≡ Some it
    → word ≡ form.name (head_of kind) → false ≡ bytes_eq word it → ⊥
another found kind word it is named called other =
    let e : name_in (Some kind) ≡ Some it = sym (ap name_in is) ∙ named in
    let same : form.name (head_of kind) ≡ it = cc in
    true≢false (sym ((bytes_eq-Decides word it).1 (called ∙ same)) ∙ sym other)

none : (found : Option Node) (it : List ℕ) → found ≡ None → name_in found ≡ Some it → ⊥
none found it is named = let e : name_in None ≡ Some it = sym (ap name_in is) ∙ named in cc

pub returns-in-Some-clause-named : goal.returns-in-Some-clause-named
returns-in-Some-clause-named c = sym c.name_of.ensures ∙ (bytes_eq-Decides c.name_of.result.now c.args.name.now).0 (sym c.if-is_same.ensures)

pub returns-in_default-clause-refused : goal.returns-in_default-clause-refused
returns-in_default-clause-refused c = λ kind named.
    let e = guessed c.guess.result c.as_bytes.result.now c.args.name.now c.guess.ensures c.as_bytes.ensures.value kind named in
    elim c.in_default.branch [
      | in_default-via-in-Some+else-is_same w ↦ another c.guess.result _ w.name_of.result.now c.args.name.now w.in-Some.is e w.name_of.ensures w.if-is_same.ensures
      | in_default-via-in_default w ↦ none c.guess.result c.args.name.now w.in_default.is e
    ]
