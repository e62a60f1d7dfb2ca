-- What becomes of a part of a tree, by its list, as a relation over its nodes: the way in which a
-- walk over the tree makes it anew. With plain changes it is what `Edits` says. What stands around
-- a name and what stands in its place is taken from there.
use Rattle.std.specs.Prelude.{◌≡◌, ℕ, zero, suc, ◌==◌, Bool, true, false, not, is_none, List, [], ◌∷◌, ◌++◌, Option, Some, None, if◌then◌else◌}
use Rattle.bundle_syntax.specs.declared.kind.ExportMetadata.{ExportMetadata}
use Rattle.bundle_syntax.specs.declared.kind.MetaPropKind.{MetaPropKind}
use Rattle.bundle_syntax.specs.declared.kind.MetaPropKind.TheVariants as p
use Rattle.bundle_syntax.specs.declared.kind.VarDeclKind.{VarDeclKind}
use Rattle.bundle_syntax.specs.declared.piece.Role.{Role}
use Rattle.bundle_syntax.specs.declared.piece.Role.TheVariants as r
use Rattle.bundle_syntax.specs.Item as h
use Rattle.bundle_syntax.specs.Item.{Item, Head}
use Rattle.bundle_rules.specs.Nodes.{Text}
use Rattle.bundle_rules.specs.Idents.{Ident}
use Rattle.bundle_tree_places.specs.Edits.{Around, Anywhere, node, is_occurrence, around_in, is_plain, in_its_place, binding, shorthand_in_its_place}
use Rattle.bundle_tree_rebuild.specs.declared.rewrite.Whole.{Whole}
use Rattle.bundle_tree_rebuild.specs.declared.rewrite.Whole.TheVariants as w
use Rattle.bundle_tree_rebuild.specs.Work.{Step, Work, upcoming, after, next}

-- Which nodes a name stands for.

-- what stands behind the word and the end of a member expression
abbrev pub behind_word : Option (List Item) → Option (List Item)
behind_word (Some (h.Open field (h.IdentName word) ∷ h.Close ∷ h.Close ∷ rest)) = Some rest
behind_word _ = None

-- what stands behind an identifier that refers with so many static reads around it, as `a.b.c` with
-- 2, if these elements begin with one
abbrev pub behind_reads : ℕ → List Item → Option (List Item)
behind_reads zero (h.Ident field x ctxt r.Reference ∷ rest) = Some rest
behind_reads (suc count) (h.Open field h.MemberExpr ∷ rest) = behind_word (behind_reads count rest)
behind_reads _ _ = None

-- whether nothing stands there
abbrev pub is_end : Option (List Item) → Bool
is_end (Some []) = true
is_end _ = false

-- whether what is in a member expression makes it just so many static reads
abbrev pub are_reads : ℕ → (inside : List Item) → Bool
are_reads count inside = is_end (behind_reads count (node 0 h.MemberExpr inside))

-- whether these elements are one string as an argument, not spread
abbrev pub is_one_string : List Item → Bool
is_one_string
    (h.Open field (h.ExprOrSpread false) ∷ h.Open inner (h.Str value raw) ∷ h.Close ∷ h.Close ∷ [])
    =
    true
is_one_string _ = false

-- whether what is in a call is an identifier that refers and is called, and one string
abbrev pub is_literal_call : (inside : List Item) → Bool
is_literal_call (h.Ident field x ctxt r.Reference ∷ arguments) = is_one_string arguments
is_literal_call _ = false

-- the name that stands for a member expression, if one does: it is as many static reads around the
-- next occurrence as that asks for
abbrev pub name_of_reads : Ident → Whole → (inside : List Item) → Option Ident
name_of_reads name (w.Reads count) inside = if are_reads count inside then Some name else None
name_of_reads name w.Alone inside = None
name_of_reads name w.Call inside = None

abbrev pub name_for_member : Option Step → (inside : List Item) → Option Ident
name_for_member None inside = None
name_for_member (Some step) inside = name_of_reads step.ident step.whole inside

-- the name that is called in the place of a literal call of the next occurrence, if one is
abbrev pub name_of_call : Ident → Whole → (inside : List Item) → Option Ident
name_of_call name w.Call inside = if is_literal_call inside then Some name else None
name_of_call name w.Alone inside = None
name_of_call name (w.Reads count) inside = None

abbrev pub name_for_call : Option Step → (inside : List Item) → Option Ident
name_for_call None inside = None
name_for_call (Some step) inside = name_of_call step.ident step.whole inside

-- the name that stands for `import.meta`, if one does
abbrev pub name_for_meta : Option Ident → MetaPropKind → Option Ident
name_for_meta meta p.ImportMeta = meta
name_for_meta meta p.NewTarget = None

-- an identifier of a name, and one that refers
abbrev pub named : ℕ → Ident → Role → List Item
named field name role = h.Ident field name.0 name.1 role ∷ []

abbrev pub reference : ℕ → Ident → List Item
reference field name = named field name r.Reference

-- Which nodes stay.

-- no notes
abbrev pub no_notes : ExportMetadata
no_notes = record { injected = false; export_ctxt = None }

-- the notes of a declaration, perhaps cleared
abbrev pub kept_notes : (clears_notes : Bool) → ExportMetadata → ExportMetadata
kept_notes true notes = no_notes
kept_notes false notes = notes

-- whether no name may stand for what is first in a node, in this field: what is assigned to, and
-- what begins an optional chain
abbrev pub keeps_first : Head → ℕ → Bool
keeps_first (h.AssignExpr op) field = field == 1
keeps_first (h.OptChainExpr optional) field = field == 1
keeps_first head field = false

-- whether a member expression stands first
abbrev pub begins_with_member : List Item → Bool
begins_with_member (h.Open field h.MemberExpr ∷ rest) = true
begins_with_member _ = false

-- whether a node stays as it is, and just what is in it is made anew
abbrev pub stays : Work → Head → (inside : List Item) → Bool
stays work (h.VarDecl kind notes) inside = false
stays work h.MemberExpr inside = is_none (name_for_member (upcoming work) inside)
stays work h.CallExpr inside = is_none (name_for_call (upcoming work) inside)
stays work (h.MetaPropExpr kind) inside = is_none (name_for_meta work.meta kind)
stays work (h.AssignExpr op) inside = not (begins_with_member inside)
stays work (h.OptChainExpr optional) inside = not (begins_with_member inside)
stays work head inside = is_plain head inside

-- With this work, what stands here becomes that, and this work is left for what follows.
pub data Becomes : Around → Work → List Item → List Item → Work → Type 0 where
  -- where nothing stands
  Nothing : {around : Around} {work : Work} → Becomes around work [] [] work
  -- one after the other
  Joined :
      {around : Around} {work between rest : Work} {first made_first second made_second : List Item}
      →
      Becomes around work first made_first between →
      Becomes around between second made_second rest →
      Becomes around work (first ++ second) (made_first ++ made_second) rest
  -- an empty place of a list stays
  Hole : {around : Around} {work : Work} (field : ℕ) →
      Becomes around work (h.Hole field ∷ []) (h.Hole field ∷ []) work
  -- a plain word stays
  Word : {around : Around} {work : Work} (field : ℕ) (x : Text) (ctxt : ℕ) (role : Role) →
      is_occurrence role ≡ false →
      Becomes around work (h.Ident field x ctxt role ∷ []) (h.Ident field x ctxt role ∷ []) work
  -- an occurrence gets its name
  Name : (around : Around) {work : Work} (field : ℕ) (x : Text) (ctxt : ℕ) (role : Role) →
      is_occurrence role ≡ true →
      Becomes around work (h.Ident field x ctxt role ∷ [])
      (in_its_place around (next work x) field x ctxt role) (after work)
  -- a node stays, and what is in it is made anew
  Inside :
      {around : Around} {work rest : Work} (field : ℕ) (head : Head) {inside made : List Item} →
      stays work head inside ≡ true →
      Becomes (around_in head inside) work inside made rest →
      Becomes around work (node field head inside) (node field head made) rest
  -- the same of a declaration of variables, whose notes may be cleared
  Declaration :
      {around : Around} {work rest : Work} (field : ℕ) (kind : VarDeclKind) (notes : ExportMetadata)
      {inside made : List Item} →
      Becomes Anywhere work inside made rest →
      Becomes around work (node field (h.VarDecl kind notes) inside)
      (node field (h.VarDecl kind (kept_notes work.clears_notes notes)) made) rest
  -- the same where the first of what is in a node is a member expression for which no name may
  -- stand
  Kept :
      {around : Around} {work between rest : Work} (field : ℕ) (head : Head) (first : ℕ)
      {inside made more made_more : List Item} →
      keeps_first head first ≡ true →
      Becomes Anywhere work inside made between →
      Becomes Anywhere between more made_more rest →
      Becomes around work (node field head (node first h.MemberExpr inside ++ more))
      (node field head (node first h.MemberExpr made ++ made_more)) rest
  -- a shorthand property of a pattern gets the next name
  Shorthand :
      {around : Around} {work rest : Work} (field : ℕ) (x : Text) (ctxt : ℕ) (role : Role)
      {default made : List Item} →
      is_occurrence role ≡ true →
      Becomes Anywhere (after work) default made rest →
      Becomes around work (node field h.AssignPatProp (binding None 0 x ctxt role ++ default))
      (shorthand_in_its_place (next work x) field x ctxt role made) rest
  -- a name stands for static reads; in an object literal it would be a shorthand, but no read
  -- stands there without a key
  OfReads : {work : Work} (field : ℕ) (name : Ident) (inside : List Item) →
      name_for_member (upcoming work) inside ≡ Some name →
      Becomes Anywhere work (node field h.MemberExpr inside) (reference field name) (after work)
  -- a call of a name stands for a literal call
  OfCall : {around : Around} {work : Work} (field : ℕ) (name : Ident) (inside : List Item) →
      name_for_call (upcoming work) inside ≡ Some name →
      Becomes around work (node field h.CallExpr inside) (node field h.CallExpr (reference 0 name))
      (after work)
  -- a name stands for `import.meta`, which has a key in an object literal too
  OfMeta : {work : Work} (field : ℕ) (kind : MetaPropKind) (name : Ident) →
      name_for_meta work.meta kind ≡ Some name →
      Becomes Anywhere work (node field (h.MetaPropExpr kind) []) (reference field name) work

-- the items of a part with this work, from its first occurrence on
pub record Reworked (work : Work) (before after : List Item) : Type 0 where
  pub rest : Work
  pub by : Becomes Anywhere work before after rest
