-- Which list a part of a tree has with a name in the place of each node that a note says stands
-- for what a name means: a relation over the nodes of its list. Each clause is one of `Marked`.
use Rattle.std.specs.Prelude.{◌≡◌, ℕ, true, List, [], ◌∷◌, ◌++◌, Option, Some, None}
use Rattle.bundle_syntax.specs.declared.kind.MetaPropKind.TheVariants as p
use Rattle.bundle_syntax.specs.declared.piece.Role.{Role}
use Rattle.bundle_syntax.specs.declared.piece.Role.TheVariants as r
use Rattle.bundle_syntax.specs.Item as h
use Rattle.bundle_syntax.specs.Item.{Item, Head}
use Rattle.bundle_rules.specs.Nodes.{Text}
use Rattle.bundle_rules.specs.Cleared.{cleared_head}
use Rattle.bundle_rules.specs.Meaning.{Meant}
use Rattle.bundle_tree_rebuild.specs.declared.rewrite.Whole.TheVariants.{Reads, Call}
use Rattle.bundle_tree_rebuild.specs.Becomes.{are_reads, is_literal_call, keeps_first}
use Rattle.bundle_tree_places.specs.Edits.{node, is_occurrence, binding}
use Rattle.bundle_rules.specs.Statements.{declaration_head, default_name}
use Rattle.bundle_merge_theory.specs.noted.Marked.{Note, next_note, node_stays}
use Rattle.bundle_merge_theory.specs.noted.Stated.{node_in_field, states_itself, is_default_head}
use Rattle.bundle_merge_theory.specs.walked.Stated.{constant_declared}

-- `Bares meta notes items bare rest`: with these notes, and where `meta` is what `import.meta`
-- stands for, what stands here has this list once names stand for nodes, with no contexts and no
-- notes of its own; these notes are left
pub data Bares (meta : Option Meant) : List Note → List Item → List Item → List Note → Type 0 where
  Nothing : {notes : List Note} → Bares meta notes [] [] notes
  Joined : {notes between rest : List Note} {first second bare more : List Item} →
      Bares meta notes first bare between →
      Bares meta between second more rest →
      Bares meta notes (first ++ second) (bare ++ more) rest
  Hole : {notes : List Note} (field : ℕ) →
      Bares meta notes (h.Hole field ∷ []) (h.Hole field ∷ []) notes
  Name : {note : Note} {rest : List Note} (field : ℕ) (x : Text) (ctxt : ℕ) (role : Role) →
      is_occurrence role ≡ true →
      Bares meta (note ∷ rest) (h.Ident field x ctxt role ∷ []) (h.Ident field x 0 role ∷ []) rest
  Inside : {notes rest : List Note} (field : ℕ) (head : Head) {inside bare : List Item} →
      node_stays meta (next_note notes) head inside ≡ true →
      Bares meta notes inside bare rest →
      Bares meta notes (node field head inside) (node field (cleared_head head) bare) rest
  Kept : {notes between rest : List Note} (field : ℕ) (head : Head) (first : ℕ)
      {inside more bare bare_more : List Item} →
      keeps_first head first ≡ true →
      Bares meta notes inside bare between →
      Bares meta between more bare_more rest →
      Bares meta notes (node field head (node first h.MemberExpr inside ++ more))
      (node field (cleared_head head) (node first h.MemberExpr bare ++ bare_more)) rest
  Shorthand : {note : Note} {notes rest : List Note} (field : ℕ) (x : Text) (ctxt : ℕ) (role : Role)
      {default bare : List Item} →
      is_occurrence role ≡ true →
      Bares meta notes default bare rest →
      Bares meta (note ∷ notes) (node field h.AssignPatProp (binding None 0 x ctxt role ++ default))
      (node field h.AssignPatProp (binding None 0 x 0 role ++ bare)) rest
  OfReads : {meant : Meant} {rest : List Note} (field count : ℕ) (inside : List Item) →
      are_reads count inside ≡ true →
      Bares meta (record { meant = meant; whole = Reads count } ∷ rest)
      (node field h.MemberExpr inside) (h.Ident field [] 0 r.Reference ∷ []) rest
  OfCall : {meant : Meant} {rest : List Note} (field : ℕ) (inside : List Item) →
      is_literal_call inside ≡ true →
      Bares meta (record { meant = meant; whole = Call } ∷ rest)
      (node field h.CallExpr inside) (node field h.CallExpr (h.Ident 0 [] 0 r.Reference ∷ [])) rest
  OfMeta : {notes : List Note} (field : ℕ) (meant : Meant) →
      meta ≡ Some meant →
      Bares meta notes (node field (h.MetaPropExpr p.ImportMeta) [])
      (h.Ident field [] 0 r.Reference ∷ []) notes

-- the same of what a top item states
pub data BaresStated (meta : Option Meant) : List Note → List Item → List Item → List Note → Type 0
  where
    Itself : {notes rest : List Note} {bare : List Item} (field : ℕ) (head : Head)
        (inside : List Item) →
        states_itself head ≡ true →
        Bares meta notes (node field head inside) bare rest →
        BaresStated meta notes (node field head inside) bare rest
    Declared : {notes rest : List Note} {bare : List Item} (field : ℕ) (inside : List Item) →
        Bares meta notes inside bare rest →
        BaresStated meta notes (node field h.ExportDecl inside) bare rest
    Value : {notes rest : List Note} {bare : List Item} (field : ℕ) (value : List Item) →
        Bares meta notes (node_in_field 1 value) bare rest →
        BaresStated meta notes (node field h.ExportDefaultExpr value)
        (constant_declared (default_name, 0) bare) rest
    Named : {notes rest : List Note} {bare : List Item} (field its : ℕ) (head : Head) (own : ℕ)
        (x : Text) (ctxt : ℕ) (role : Role) (more : List Item) →
        is_default_head head ≡ true →
        Bares meta notes (h.Ident own x ctxt role ∷ more) bare rest →
        BaresStated meta notes
        (node field h.ExportDefaultDecl (node its head (h.Ident own x ctxt role ∷ more)))
        (node 0 (declaration_head head) bare) rest
    Nameless : {notes rest : List Note} {bare : List Item} (field its : ℕ) (head : Head) (own : ℕ)
        (first : Head) (more : List Item) →
        is_default_head head ≡ true →
        Bares meta notes (h.Open own first ∷ more) bare rest →
        BaresStated meta notes
        (node field h.ExportDefaultDecl (node its head (h.Open own first ∷ more)))
        (node 0 (declaration_head head) (h.Ident 0 default_name 0 r.Binding ∷ bare)) rest
