-- Contexts and notes do not matter to what is bare.
use Rattle.std.proofs.Common.{◌≡◌, ℕ, List, [], ◌∷◌, ◌++◌, Option, None, ap, sym, ◌∙◌, subst, if◌then◌else◌}
use Rattle.bundle_syntax.specs.declared.piece.Role.TheVariants as r
use Rattle.bundle_syntax.specs.Item as h
use Rattle.bundle_syntax.specs.Item.{Item, Head}
use Rattle.bundle_rules.specs.Cleared.{cleared_head, cleared}
use Rattle.bundle_rules.specs.Statements.{declaration_head}
use Rattle.bundle_rules.specs.Meaning.{Meant}
use Rattle.bundle_tree_places.specs.Edits.{node, binding}
use Rattle.bundle_tree_rebuild.specs.declared.rewrite.Whole.TheVariants.{Reads, Call}
use Rattle.bundle_link.proofs.ClearedNodes.{cleared-append}
use Rattle.bundle_merge_theory.specs.noted.Marked.{Note}
use Rattle.bundle_merge_theory.proofs.walked.Clearing.{twice, node-cleared as node_cleared, first_kept}
use Rattle.bundle_merge_theory.proofs.told.Cleared.{are_reads-cleared, literal_call-cleared, head_stays, itself_cleared, in_field-cleared, default_node}
use Rattle.bundle_merge_theory.specs.form.Bares.{Bares, Nothing, Joined, Hole, Name, Inside, Kept, Shorthand, OfReads, OfCall, OfMeta, BaresStated, Itself, Declared, Value, Named, Nameless}

-- Parts.

module _ (meta : Option Meant) where
  as_node : {notes rest : List Note} (field : ℕ) (head : Head) (inside inner : List Item) →
      Bares meta notes (node field (cleared_head head) (cleared inside)) (node field (cleared_head (cleared_head head)) inner) rest →
      Bares meta notes (cleared (node field head inside)) (node field (cleared_head head) inner) rest
  as_node {notes = notes} {rest = rest} field head inside inner one =
      subst (λ list. Bares meta notes list (node field (cleared_head head) inner) rest)
      (sym (node_cleared field head inside))
      (subst
      (λ its. Bares meta notes (node field (cleared_head head) (cleared inside)) (node field its inner) rest)
      (twice head) one)

  pub bares_cleared : {notes rest : List Note} {items bare : List Item} →
      Bares meta notes items bare rest → Bares meta notes (cleared items) bare rest
  bares_cleared Nothing = Nothing
  bares_cleared {notes = notes} {rest = rest} (Joined {first = first} {second = second} {bare = bare} {more = more} one two) =
      subst (λ list. Bares meta notes list (bare ++ more) rest) (sym (cleared-append first second))
      (Joined (bares_cleared one) (bares_cleared two))
  bares_cleared (Hole field) = Hole field
  bares_cleared (Name field x ctxt role occurs) = Name field x 0 role occurs
  bares_cleared {notes = notes} (Inside field head {inside = inside} {bare = bare} it_stays one) =
      as_node field head inside bare
      (Inside field (cleared_head head) (head_stays meta _ head inside ∙ it_stays) (bares_cleared one))
  bares_cleared {notes = notes} {rest = rest}
      (Kept field head first {inside = inside} {more = more} {bare = bare} {bare_more = bare_more} keeps one two) =
      as_node field head (node first h.MemberExpr inside ++ more) (node first h.MemberExpr bare ++ bare_more)
      (subst
      (λ list.
      Bares meta notes (node field (cleared_head head) list)
      (node field (cleared_head (cleared_head head)) (node first h.MemberExpr bare ++ bare_more)) rest)
      (sym
      (cleared-append (node first h.MemberExpr inside) more
      ∙ ap (λ list. list ++ cleared more) (node_cleared first h.MemberExpr inside)))
      (Kept field (cleared_head head) first (first_kept head first keeps) (bares_cleared one) (bares_cleared two)))
  bares_cleared
      (Shorthand {note = note} {notes = notes} {rest = rest} field x ctxt role {default = default} {bare = bare} occurs
      one) =
      subst
      (λ list.
      Bares meta (note ∷ notes) list (node field h.AssignPatProp (binding None 0 x 0 role ++ bare)) rest)
      (sym (node_cleared field h.AssignPatProp (binding None 0 x ctxt role ++ default)))
      (Shorthand field x 0 role occurs (bares_cleared one))
  bares_cleared {rest = rest} (OfReads {meant = meant} field count inside reads) =
      subst
      (λ list.
      Bares meta (record { meant = meant; whole = Reads count } ∷ rest) list (h.Ident field [] 0 r.Reference ∷ []) rest)
      (sym (node_cleared field h.MemberExpr inside))
      (OfReads field count (cleared inside) (are_reads-cleared count inside ∙ reads))
  bares_cleared {rest = rest} (OfCall {meant = meant} field inside calls) =
      subst
      (λ list.
      Bares meta (record { meant = meant; whole = Call } ∷ rest) list
      (node field h.CallExpr (h.Ident 0 [] 0 r.Reference ∷ [])) rest)
      (sym (node_cleared field h.CallExpr inside))
      (OfCall field (cleared inside) (literal_call-cleared inside ∙ calls))
  bares_cleared (OfMeta field meant is) = OfMeta field meant is

  pub stated_cleared : {notes rest : List Note} {items bare : List Item} →
      BaresStated meta notes items bare rest → BaresStated meta notes (cleared items) bare rest
  stated_cleared {notes = notes} {rest = rest} (Itself {bare = bare} field head inside is bares) =
      subst (λ list. BaresStated meta notes list bare rest) (sym (node_cleared field head inside))
      (Itself field (cleared_head head) (cleared inside) (itself_cleared meta head ∙ is)
      (subst (λ list. Bares meta notes list bare rest) (node_cleared field head inside) (bares_cleared bares)))
  stated_cleared {notes = notes} {rest = rest} (Declared {bare = bare} field inside bares) =
      subst (λ list. BaresStated meta notes list bare rest) (sym (node_cleared field h.ExportDecl inside))
      (Declared field (cleared inside) (bares_cleared bares))
  stated_cleared {notes = notes} {rest = rest} {bare = whole} (Value {bare = bare} field value bares) =
      subst (λ list. BaresStated meta notes list whole rest) (sym (node_cleared field h.ExportDefaultExpr value))
      (Value field (cleared value)
      (subst (λ list. Bares meta notes list bare rest) (in_field-cleared meta 1 value) (bares_cleared bares)))
  stated_cleared {notes = notes} {rest = rest}
      (Named {bare = bare} field its head own x ctxt role more is bares) =
      subst (λ list. BaresStated meta notes list (node 0 (declaration_head head) bare) rest)
      (sym (default_node meta field its head (h.Ident own x ctxt role ∷ more) is))
      (Named field its head own x 0 role (cleared more) is (bares_cleared bares))
  stated_cleared {notes = notes} {rest = rest} {bare = whole}
      (Nameless {bare = bare} field its head own first more is bares) =
      subst (λ list. BaresStated meta notes list whole rest)
      (sym (default_node meta field its head (h.Open own first ∷ more) is))
      (Nameless field its head own (cleared_head first) (cleared more) is (bares_cleared bares))
