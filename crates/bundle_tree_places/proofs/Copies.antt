-- Without changes a list that is edited stays the same.
use Rattle.std.proofs.Common.{◌≡◌, ℕ, List, [], ◌∷◌, ◌++◌, None, refl, ap, ◌∙◌, drop}
use Rattle.bundle_syntax.specs.Item as h
use Rattle.bundle_syntax.specs.Item.{Item}
use Rattle.bundle_syntax.specs.declared.piece.Role.{Role}
use Rattle.bundle_rules.specs.Nodes.{Text}
use Rattle.bundle_rules.specs.Rebuilds.{Change}
use Rattle.bundle_tree_places.specs.Edits.{Around, Anywhere, InObject, InSpecifier, Edited, Edits, Nothing, Joined, Hole, Word, Name, Inside, Shorthand, node, next, in_its_place, binding, shorthand_in_its_place}

-- an occurrence without a change
stays : (around : Around) (field : ℕ) (x : Text) (ctxt : ℕ) (role : Role) → in_its_place around None field x ctxt role ≡ h.Ident field x ctxt role ∷ []
stays Anywhere field x ctxt role = refl
stays InObject field x ctxt role = refl
stays InSpecifier field x ctxt role = refl

-- where no change is left, elements stay, and none is left behind them
copies : {around : Around} {changes rest : List Change} {before after : List Item} → Edits around changes before after rest → changes ≡ [] → (after ≡ before) × (rest ≡ [])
copies Nothing none = (refl, none)
copies (Joined {first = first} {made_second = made_second} one two) none =
    let front = copies one none in
    let back = copies two front.1 in
    (ap (λ list. list ++ made_second) front.0 ∙ ap (λ list. first ++ list) back.0, back.1)
copies (Hole field) none = (refl, none)
copies (Word field x ctxt role plain) none = (refl, none)
copies (Name around field x ctxt role occurs) none = (ap (λ list. in_its_place around (next list) field x ctxt role) none ∙ stays around field x ctxt role, ap (drop 1) none)
copies (Inside field head plain one) none =
    let inside = copies one none in
    (ap (node field head) inside.0, inside.1)
copies (Shorthand field x ctxt role {made = made} occurs one) none =
    let inside = copies one (ap (drop 1) none) in
    (ap (λ list. shorthand_in_its_place (next list) field x ctxt role made) none ∙ ap (λ list. node field h.AssignPatProp (binding None 0 x ctxt role ++ list)) inside.0, inside.1)

-- so a tree that is edited without changes is a copy of itself
pub copied : {before after : List Item} → Edited [] before after → after ≡ before
copied edited = (copies edited.by refl).0
