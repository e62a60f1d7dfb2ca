-- The way in which a walk makes a part of a tree anew, where what it is asked for fits the tree:
-- as `Becomes`, but each occurrence has a step; one that is not spelled out keeps its symbol; no
-- name stands alone in a specifier; and no name stands directly in an object literal for something
-- else.
use Rattle.std.specs.Prelude.{◌≡◌, ℕ, Bool, true, false, not, List, [], ◌∷◌, ◌++◌, Some, None}
use Rattle.std.specs.List.{list_all, AllZip}
use Rattle.bundle_syntax.specs.declared.kind.ExportMetadata.{ExportMetadata}
use Rattle.bundle_syntax.specs.declared.kind.MetaPropKind.{MetaPropKind}
use Rattle.bundle_syntax.specs.declared.kind.VarDeclKind.{VarDeclKind}
use Rattle.bundle_syntax.specs.declared.piece.Role.{Role}
use Rattle.bundle_syntax.specs.Item as h
use Rattle.bundle_syntax.specs.Item.{Item, Head}
use Rattle.bundle_rules.specs.Nodes.{Text}
use Rattle.bundle_rules.specs.Idents.{Ident}
use Rattle.bundle_rules.specs.Shape.{is_specifier}
use Rattle.bundle_tree_places.specs.Edits.{Around, Anywhere, InSpecifier, node, is_occurrence, around_in, in_its_place, binding, shorthand_in_its_place}
use Rattle.bundle_tree_rebuild.specs.Work.{Step, Work, upcoming, after, change_at, is_spelled_out_by}
use Rattle.bundle_tree_rebuild.specs.Becomes.{keeps_first, stays, kept_notes, reference, name_for_member, name_for_call, name_for_meta}
use Rattle.bundle_merge_theory.specs.walked.Names.{idents_among}

-- the next occurrence, one of `x`, has this step; where nothing is spelled out its symbol stays
pub record TakesStep (work : Work) (x : Text) (step : Step) : Type 0 where
  pub is : upcoming work ≡ Some step
  pub symbol : is_spelled_out_by step.spelling step.ident.0 x ≡ false → step.ident.0 ≡ x

-- whether a name that stands here is no only name of a specifier
abbrev pub is_in_no_specifier : Around → Bool
is_in_no_specifier InSpecifier = false
is_in_no_specifier around = true

pub data Rewrites : Around → Work → List Item → List Item → Work → Type 0 where
  Nothing : {around : Around} {work : Work} → Rewrites around work [] [] work
  Joined : {around : Around} {work between rest : Work}
      {first made_first second made_second : List Item} →
      Rewrites around work first made_first between →
      Rewrites around between second made_second rest →
      Rewrites around work (first ++ second) (made_first ++ made_second) rest
  Hole : {around : Around} {work : Work} (field : ℕ) →
      Rewrites around work (h.Hole field ∷ []) (h.Hole field ∷ []) work
  Word : {around : Around} {work : Work} (field : ℕ) (x : Text) (ctxt : ℕ) (role : Role) →
      is_occurrence role ≡ false →
      Rewrites around work (h.Ident field x ctxt role ∷ []) (h.Ident field x ctxt role ∷ []) work
  Name : (around : Around) {work : Work} (field : ℕ) (x : Text) (ctxt : ℕ) (role : Role)
      (step : Step) → is_occurrence role ≡ true → is_in_no_specifier around ≡ true →
      TakesStep work x step →
      Rewrites around work (h.Ident field x ctxt role ∷ [])
      (in_its_place around (Some (change_at x step)) field x ctxt role) (after work)
  Inside : {around : Around} {work rest : Work} (field : ℕ) (head : Head)
      {inside made : List Item} → stays work head inside ≡ true →
      Rewrites (around_in head inside) work inside made rest →
      Rewrites around work (node field head inside) (node field head made) rest
  Declaration : {around : Around} {work rest : Work} (field : ℕ) (kind : VarDeclKind)
      (notes : ExportMetadata) {inside made : List Item} →
      Rewrites Anywhere work inside made rest →
      Rewrites around work (node field (h.VarDecl kind notes) inside)
      (node field (h.VarDecl kind (kept_notes work.clears_notes notes)) made) rest
  Kept : {around : Around} {work between rest : Work} (field : ℕ) (head : Head) (first : ℕ)
      {inside made more made_more : List Item} → keeps_first head first ≡ true →
      Rewrites Anywhere work inside made between → Rewrites Anywhere between more made_more rest →
      Rewrites around work (node field head (node first h.MemberExpr inside ++ more))
      (node field head (node first h.MemberExpr made ++ made_more)) rest
  Shorthand : {around : Around} {work rest : Work} (field : ℕ) (x : Text) (ctxt : ℕ) (role : Role)
      (step : Step) {default made : List Item} → is_occurrence role ≡ true →
      TakesStep work x step → Rewrites Anywhere (after work) default made rest →
      Rewrites around work (node field h.AssignPatProp (binding None 0 x ctxt role ++ default))
      (shorthand_in_its_place (Some (change_at x step)) field x ctxt role made) rest
  OfReads : {work : Work} (field : ℕ) (name : Ident) (inside : List Item) →
      name_for_member (upcoming work) inside ≡ Some name →
      Rewrites Anywhere work (node field h.MemberExpr inside) (reference field name) (after work)
  OfCall : {around : Around} {work : Work} (field : ℕ) (name : Ident) (inside : List Item) →
      name_for_call (upcoming work) inside ≡ Some name →
      Rewrites around work (node field h.CallExpr inside)
      (node field h.CallExpr (reference 0 name)) (after work)
  OfMeta : {work : Work} (field : ℕ) (kind : MetaPropKind) (name : Ident) →
      name_for_meta work.meta kind ≡ Some name →
      Rewrites Anywhere work (node field (h.MetaPropExpr kind) []) (reference field name) work

-- What fits.

-- an own statement has no import or export specifier, and no plain word that is an identifier
abbrev pub is_own_item : Item → Bool
is_own_item (h.Open field head) = not (is_specifier head)
is_own_item (h.Ident field x ctxt role) = is_occurrence role
is_own_item (h.Hole field) = true
is_own_item h.Close = true

-- such elements
abbrev pub AreOwn : List Item → Type 0
AreOwn items = list_all is_own_item items ≡ true

-- where a step does not spell out an occurrence, its symbol stays
abbrev pub KeepsSymbol : Step → Ident → Type 0
KeepsSymbol step ident =
    is_spelled_out_by step.spelling step.ident.0 ident.0 ≡ false → step.ident.0 ≡ ident.0

-- these steps belong to the occurrences of some elements in turn
abbrev pub Cover : List Step → List Item → Type 0
Cover steps items = AllZip KeepsSymbol steps (idents_among items)
