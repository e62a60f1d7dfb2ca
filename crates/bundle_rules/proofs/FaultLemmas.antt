-- What is wrong with a cleared tree by itself is what is wrong with the tree, at the same places.
use Rattle.std.proofs.Common.{◌≡◌, ℕ, List, Option, Some, None, slice_get, option_map, inl, inr, ap, sym, ◌∙◌}
use Rattle.bundle_syntax.specs.Item as h
use Rattle.bundle_syntax.specs.Item.{Item, Head}
use Rattle.bundle_tree_names.specs.FileName.{Name}
use Rattle.bundle_rules.specs.Nodes.{has_text}
use Rattle.bundle_rules.specs.Faults.{Fault, TreeFault, doubled_export, undeclared_export, with_statement, IsFirstTreeFault, IsFaultless}
use Rattle.bundle_rules.specs.Cleared.{cleared_head, cleared_item, cleared}
use Rattle.bundle_rules.proofs.PathLemmas.{slice_get-cleared}
use Rattle.bundle_rules.proofs.EntryLemmas.{exports_of-cleared, listed_names-cleared}
use Rattle.bundle_rules.proofs.CallLemmas.{top_names-cleared}

-- a `with` stands at the same places
cleared_with : (item : Option Item) (field : ℕ) → item ≡ Some (h.Open field h.WithStmt) → option_map cleared_item item ≡ Some (h.Open field h.WithStmt)
cleared_with item field there = ap (option_map cleared_item) there

with_of_head : (head : Head) (field other : ℕ) → Some (h.Open other (cleared_head head)) ≡ Some (h.Open field h.WithStmt) → Some (h.Open other head) ≡ Some (h.Open field h.WithStmt)
with_of_head (h.ImportDecl meta) field other there = cc
with_of_head (h.NamedExport meta) field other there = cc
with_of_head (h.ExportAll meta) field other there = cc
with_of_head (h.VarDecl kind meta) field other there = cc
with_of_head _ field other there = there

with_of_item : (item : Option Item) (field : ℕ) → option_map cleared_item item ≡ Some (h.Open field h.WithStmt) → item ≡ Some (h.Open field h.WithStmt)
with_of_item None field there = there
with_of_item (Some (h.Open other head)) field there = with_of_head head field other there
with_of_item (Some (h.Ident other symbol ctxt role)) field there = cc
with_of_item (Some (h.Hole other)) field there = there
with_of_item (Some h.Close) field there = there

-- a fault of the tree is one of the cleared tree
pub fault_cleared : (file : Name) (tree : List Item) (stage place : ℕ) (fault : Fault) → TreeFault file tree stage place fault → TreeFault file (cleared tree) stage place fault
fault_cleared file tree stage place fault (doubled_export {i = i} {j = j} first second before at_first at_second named_first named_second) =
    doubled_export first second before (ap (λ es. slice_get es i) (exports_of-cleared tree) ∙ at_first) (ap (λ es. slice_get es j) (exports_of-cleared tree) ∙ at_second) named_first named_second
fault_cleared file tree stage place fault (undeclared_export {j = j} listed at_listed (inl string)) =
    undeclared_export listed (ap (λ ls. slice_get ls j) (listed_names-cleared tree) ∙ at_listed) (inl string)
fault_cleared file tree stage place fault (undeclared_export {j = j} listed at_listed (inr unbound)) =
    undeclared_export listed (ap (λ ls. slice_get ls j) (listed_names-cleared tree) ∙ at_listed) (inr (ap (has_text listed.text) (top_names-cleared tree) ∙ unbound))
fault_cleared file tree stage place fault (with_statement {field = field} there) =
    with_statement (slice_get-cleared tree place ∙ cleared_with (slice_get tree place) field there)

-- a fault of the cleared tree is one of the tree
pub fault_of_cleared : (file : Name) (tree : List Item) (stage place : ℕ) (fault : Fault) → TreeFault file (cleared tree) stage place fault → TreeFault file tree stage place fault
fault_of_cleared file tree stage place fault (doubled_export {i = i} {j = j} first second before at_first at_second named_first named_second) =
    doubled_export first second before (ap (λ es. slice_get es i) (sym (exports_of-cleared tree)) ∙ at_first) (ap (λ es. slice_get es j) (sym (exports_of-cleared tree)) ∙ at_second) named_first named_second
fault_of_cleared file tree stage place fault (undeclared_export {j = j} listed at_listed (inl string)) =
    undeclared_export listed (ap (λ ls. slice_get ls j) (sym (listed_names-cleared tree)) ∙ at_listed) (inl string)
fault_of_cleared file tree stage place fault (undeclared_export {j = j} listed at_listed (inr unbound)) =
    undeclared_export listed (ap (λ ls. slice_get ls j) (sym (listed_names-cleared tree)) ∙ at_listed) (inr (ap (has_text listed.text) (sym (top_names-cleared tree)) ∙ unbound))
fault_of_cleared file tree stage place fault (with_statement {field = field} there) =
    with_statement (with_of_item (slice_get tree place) field (sym (slice_get-cleared tree place) ∙ there))

-- the first fault is the same
pub first_fault : (file : Name) (tree : List Item) (fault : Fault) → IsFirstTreeFault file tree fault → IsFirstTreeFault file (cleared tree) fault
first_fault file tree fault is = record {
  stage = is.stage;
  place = is.place;
  there = fault_cleared file tree is.stage is.place fault is.there;
  first = λ other its f wrong. is.first other its f (fault_of_cleared file tree other its f wrong);
}

pub first_fault_of_cleared : (file : Name) (tree : List Item) (fault : Fault) → IsFirstTreeFault file (cleared tree) fault → IsFirstTreeFault file tree fault
first_fault_of_cleared file tree fault is = record {
  stage = is.stage;
  place = is.place;
  there = fault_of_cleared file tree is.stage is.place fault is.there;
  first = λ other its f wrong. is.first other its f (fault_cleared file tree other its f wrong);
}

-- and so is whether there is one
pub faultless : (file : Name) (tree : List Item) → IsFaultless file tree → IsFaultless file (cleared tree)
faultless file tree none = λ stage place f wrong. none stage place f (fault_of_cleared file tree stage place f wrong)

pub faultless_of_cleared : (file : Name) (tree : List Item) → IsFaultless file (cleared tree) → IsFaultless file tree
faultless_of_cleared file tree none = λ stage place f wrong. none stage place f (fault_cleared file tree stage place f wrong)
