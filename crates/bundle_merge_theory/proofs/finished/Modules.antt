-- A bundle whose items are noted is a whole module, and so it is once its notes and the contexts of
-- its words are gone.
use Rattle.std.proofs.Common.{List, [], ◌∷◌, ap, sym, ◌∙◌, subst}
use Rattle.bundle_syntax.specs.declared.piece.Role.TheVariants as r
use Rattle.bundle_syntax.specs.Item as h
use Rattle.bundle_syntax.specs.Item.{Item}
use Rattle.bundle_rules.specs.Declarations.{Reading}
use Rattle.bundle_rules.specs.Nodes.{flat, IsWholeModule}
use Rattle.bundle_rules.specs.Cleared.{cleared_head, tidied}
use Rattle.bundle_rules.specs.Program.{Program}
use Rattle.bundle_rules.specs.Bundle.{Cause, Form, Hooks}
use Rattle.bundle_merge_theory.specs.noted.Nodes as n
use Rattle.bundle_merge_theory.specs.noted.Nodes.{AreNodesInTurn}
use Rattle.bundle_merge_theory.proofs.noted.Shapes.{join, marked_nodes}
use Rattle.bundle_merge_theory.proofs.walked.Loading.{module_whole}
use Rattle.bundle_merge_theory.specs.composed.Noted.{NotedItem, IsNotedFor, as_whole, as_function, AreNotedFor}
use Rattle.bundle_merge_theory.proofs.composed.Naming.{IsStillNoted}
use Rattle.bundle_merge_theory.proofs.finished.Twice.{tidied-append}

noted-nodes : {p : Program} {hooks : Hooks} {form : Form} {item : List Item} {one : NotedItem}
    {cause : Cause} →
    IsNotedFor p hooks form item one cause → AreNodesInTurn item
noted-nodes (as_whole marked stands) = marked_nodes marked
noted-nodes (as_function nodes is its states) = nodes

all-nodes : (p : Program) (hooks : Hooks) (form : Form) (items : List (List Item))
    (noted : List NotedItem) (causes : List Cause) →
    AreNotedFor p hooks form items noted causes → AreNodesInTurn (flat items)
all-nodes p hooks form [] [] [] each = n.nothing
all-nodes p hooks form [] [] (cause ∷ causes) each = absurd each
all-nodes p hooks form [] (one ∷ noted) causes each = absurd each
all-nodes p hooks form (item ∷ items) [] causes each = absurd each
all-nodes p hooks form (item ∷ items) (one ∷ noted) [] each = absurd each
all-nodes p hooks form (item ∷ items) (one ∷ noted) (cause ∷ causes) each =
    join (noted-nodes each.0) (all-nodes p hooks form items noted causes each.1)

tidied-nodes : {items : List Item} → AreNodesInTurn items → AreNodesInTurn (tidied items)
tidied-nodes n.nothing = n.nothing
tidied-nodes (n.name {role = r.Word} its) = n.name (tidied-nodes its)
tidied-nodes (n.name {role = r.Binding} its) = n.name (tidied-nodes its)
tidied-nodes (n.name {role = r.Reference} its) = n.name (tidied-nodes its)
tidied-nodes (n.hole its) = n.hole (tidied-nodes its)
tidied-nodes (n.node {field = field} {head = head} {inside = inside} {rest = rest} one its) =
    subst (λ l. AreNodesInTurn (h.Open field (cleared_head head) ∷ l)) (sym (tidied-append inside (h.Close ∷ rest)))
    (n.node (tidied-nodes one) (tidied-nodes its))

module _ (p : Program) (hooks : Hooks) (plan : List Cause) (reading : Reading) (tree : List Item) (still : IsStillNoted p hooks plan reading tree) where
  its-nodes : AreNodesInTurn (flat still.items)
  its-nodes = all-nodes p hooks _ still.items still.noted plan still.bundle.each

  pub still-whole : IsWholeModule tree
  still-whole = subst IsWholeModule (sym still.is) (module_whole its-nodes)

  pub tidied-whole : IsWholeModule (tidied tree)
  tidied-whole =
      subst IsWholeModule
      (sym (ap (λ l. h.Open 0 h.Module ∷ l) (tidied-append (flat still.items) (h.Close ∷ []))) ∙ ap tidied (sym still.is))
      (module_whole (tidied-nodes its-nodes))
