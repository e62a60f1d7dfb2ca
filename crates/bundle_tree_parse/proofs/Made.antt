-- What is made of the fields of a node one after another is the list of the whole.
use Rattle.std.proofs.Common.{◌≡◌, ℕ, List, [], ◌∷◌, ◌++◌, append_assoc, ap, sym, ◌∙◌}
use Rattle.bundle_syntax.specs.Item as h
use Rattle.bundle_syntax.specs.Item.{Item, Head}

-- a node's beginning, what stands in its fields, and its end
pub a_node : (field : ℕ) (head : Head) (inside list rest : List Item) → list ≡ inside ++ h.Close ∷ rest → h.Open field head ∷ list ≡ (h.Open field head ∷ (inside ++ h.Close ∷ [])) ++ rest
a_node field head inside list rest e = ap (λ (l : List Item). h.Open field head ∷ l) (e ∙ sym (append_assoc inside (h.Close ∷ []) rest))

-- one field, and then those behind it
pub a_field : (items more list next end : List Item) → list ≡ items ++ next → next ≡ more ++ end → list ≡ (items ++ more) ++ end
a_field items more list next end e is = e ∙ (ap (λ (l : List Item). items ++ l) is ∙ sym (append_assoc items more end))

-- the last field, and the end of the node
pub the_last : (items list end rest : List Item) → list ≡ items ++ end → end ≡ h.Close ∷ rest → list ≡ items ++ h.Close ∷ rest
the_last items list end rest e close = e ∙ ap (λ (l : List Item). items ++ l) close
