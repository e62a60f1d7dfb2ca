-- The marks of one element are the same in trees that are the same once they are cleared.
use Rattle.std.proofs.Common.{◌≡◌, ℕ, ◌+◌, ◌==◌, ◌&&◌, not, List, [], ◌∷◌, ◌++◌, Option, Some, None, refl, sym, ap, ap₂, ◌∙◌, if◌then◌else◌}
use Rattle.std.specs.Prelude.{option_map, slice_get}
use Rattle.bundle_syntax.specs.Item as h
use Rattle.bundle_syntax.specs.Item.{Head, Item}
use Rattle.bundle_rules.specs.Cleared.{cleared, cleared_head, cleared_item}
use Rattle.bundle_rules.specs.Marks.{MarkOf, Begins, Ends, Name, begin_marks, end_marks, name_marks, object_key, word_key}
use Rattle.bundle_rules.specs.Nodes.{Text}
use Rattle.bundle_rules.specs.Places.{Around, path_at}
use Rattle.bundle_rules.specs.Shorthands.{ends_at, has_default, is_object, is_shorthand_in_pattern, symbol_of}
use Rattle.bundle_rules.proofs.HeadLemmas.{of_head}
use Rattle.bundle_rules.proofs.PathLemmas.{cleared_path, path_at-cleared, slice_get-cleared}
use Rattle.bundle_merge_theory.proofs.cleared.Trees.{alike}

ends-item : (o : Option Item) → ends_at (option_map cleared_item o) ≡ ends_at o
ends-item None = refl
ends-item (Some (h.Open field head)) = refl
ends-item (Some (h.Ident field sym ctxt role)) = refl
ends-item (Some (h.Hole field)) = refl
ends-item (Some h.Close) = refl

symbol-item : (o : Option Item) → symbol_of (option_map cleared_item o) ≡ symbol_of o
symbol-item None = refl
symbol-item (Some (h.Open field head)) = refl
symbol-item (Some (h.Ident field sym ctxt role)) = refl
symbol-item (Some (h.Hole field)) = refl
symbol-item (Some h.Close) = refl

default-cleared : (tree : List Item) (place : ℕ) →
    has_default (cleared tree) place ≡ has_default tree place
default-cleared tree place =
    ap (λ o. not (ends_at o)) (slice_get-cleared tree (place + 4))
    ∙ ap not (ends-item (slice_get tree (place + 4)))

symbol-cleared : (tree : List Item) (place : ℕ) →
    symbol_of (slice_get (cleared tree) place) ≡ symbol_of (slice_get tree place)
symbol-cleared tree place =
    ap symbol_of (slice_get-cleared tree place) ∙ symbol-item (slice_get tree place)

pub shorthand-cleared : (head : Head) →
    is_shorthand_in_pattern (cleared_head head) ≡ is_shorthand_in_pattern head
shorthand-cleared head =
    of_head is_shorthand_in_pattern (λ meta. (refl, refl, refl, λ kind. refl)) head

pub object-cleared : (head : Head) → is_object (cleared_head head) ≡ is_object head
object-cleared head = of_head is_object (λ meta. (refl, refl, refl, λ kind. refl)) head

module _ {N : Type 0} where
  -- where a node begins
  field-cleared : (tree : List Item) (field : ℕ) (node : Around) (head : Head) →
      (let its : List (MarkOf N) =
      Begins (if is_shorthand_in_pattern (cleared_head node.head) && (node.field == 0)
      then (if has_default (cleared tree) node.begins then 0 else 1) else field) (cleared_head head)
      ∷ [] in
      its)
      ≡ Begins (if is_shorthand_in_pattern node.head && (node.field == 0)
      then (if has_default tree node.begins then 0 else 1) else field) (cleared_head head) ∷ []
  field-cleared tree field node head =
      λ i. Begins (if shorthand-cleared node.head i && (node.field == 0)
      then (if default-cleared tree node.begins i then 0 else 1) else field) (cleared_head head)
      ∷ []

  begin-cleared : (tree : List Item) (place field : ℕ) (around : List Around) (head : Head) →
      begin_marks {N = N} (cleared tree) place field (cleared_path around) (cleared_head head)
      ≡ begin_marks tree place field around head
  begin-cleared tree place field around h.AssignPatProp =
      λ i. Begins field h.KeyValuePatProp
      ∷ (word_key (symbol-cleared tree (place + 2) i)
      ++ (if default-cleared tree place i then Begins 1 h.AssignPat ∷ [] else []))
  begin-cleared tree place field [] (h.ImportDecl meta) = refl
  begin-cleared tree place field [] (h.NamedExport meta) = refl
  begin-cleared tree place field [] (h.ExportAll meta) = refl
  begin-cleared tree place field [] (h.VarDecl kind meta) = refl
  begin-cleared tree place field [] head = refl
  begin-cleared tree place field (node ∷ outer) (h.ImportDecl meta) =
      field-cleared tree field node (h.ImportDecl meta)
  begin-cleared tree place field (node ∷ outer) (h.NamedExport meta) =
      field-cleared tree field node (h.NamedExport meta)
  begin-cleared tree place field (node ∷ outer) (h.ExportAll meta) =
      field-cleared tree field node (h.ExportAll meta)
  begin-cleared tree place field (node ∷ outer) (h.VarDecl kind meta) =
      field-cleared tree field node (h.VarDecl kind meta)
  begin-cleared tree place field (node ∷ outer) head = field-cleared tree field node head

  end-cleared : (tree : List Item) (around : List Around) →
      end_marks {N = N} (cleared tree) (cleared_path around) ≡ end_marks tree around
  end-cleared tree [] = refl
  end-cleared tree (node ∷ outer) =
      λ i. if shorthand-cleared node.head i && default-cleared tree node.begins i
      then Ends ∷ Ends ∷ [] else Ends ∷ []

  name-cleared : (field : ℕ) (around : List Around) (x : Text) (n : N) →
      name_marks field (cleared_path around) x n ≡ name_marks field around x n
  name-cleared field [] x n = refl
  name-cleared field (node ∷ outer) x n =
      λ i. if object-cleared node.head i
      then Begins field h.KeyValueProp ∷ (object_key x ++ Name 1 n ∷ Ends ∷ [])
      else Name field n ∷ []

module _ {N : Type 0} (t u : List Item) (same : cleared t ≡ cleared u) where
  begin-at : (tree : List Item) (place field : ℕ) (head : Head) →
      begin_marks {N = N} (cleared tree) place field (path_at (cleared tree) place)
      (cleared_head head)
      ≡ begin_marks tree place field (path_at tree place) head
  begin-at tree place field head =
      ap (λ around. begin_marks (cleared tree) place field around (cleared_head head))
      (path_at-cleared tree place)
      ∙ begin-cleared tree place field (path_at tree place) head

  pub same-begin : (place field : ℕ) (head other : Head) → cleared_head head ≡ cleared_head other →
      begin_marks {N = N} t place field (path_at t place) head
      ≡ begin_marks u place field (path_at u place) other
  same-begin place field head other heads =
      sym (begin-at t place field head)
      ∙ (ap₂
      (λ (tree : List Item) (top : Head). begin_marks tree place field (path_at tree place) top)
      same heads
      ∙ begin-at u place field other)

  pub same-end : (place : ℕ) →
      end_marks {N = N} t (path_at t place) ≡ end_marks u (path_at u place)
  same-end place =
      alike (λ tree. end_marks {N = N} tree (path_at tree place))
      (λ tree. ap (end_marks (cleared tree)) (path_at-cleared tree place)
      ∙ end-cleared tree (path_at tree place)) t u same

  pub same-name : (place field : ℕ) (x : Text) (n : N) →
      name_marks field (path_at t place) x n ≡ name_marks field (path_at u place) x n
  same-name place field x n =
      alike (λ tree. name_marks field (path_at tree place) x n)
      (λ tree. ap (λ around. name_marks field around x n) (path_at-cleared tree place)
      ∙ name-cleared field (path_at tree place) x n) t u same
