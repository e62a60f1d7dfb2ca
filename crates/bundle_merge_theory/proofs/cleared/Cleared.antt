-- Theorem of this folder (`merged-of-cleared`, `needs-of-cleared`): what is merged right for the
-- program with cleared trees is merged right for the program, and lacks contexts where it does.
-- Used by the crate `bundle_merge`.
use Rattle.std.proofs.Common.{◌≡◌, ℕ, List, [], Option, Some, None, Contains, refl, sym, ap, ◌∙◌}
use Rattle.std.specs.Prelude.{option_map, unwrap_or}
use Rattle.bundle_tree_names.specs.FileName.{Name}
use Rattle.bundle_syntax.specs.Item.{Item}
use Rattle.bundle_rules.specs.Bundle.{Hooks}
use Rattle.bundle_rules.specs.Cleared.{cleared}
use Rattle.bundle_rules.specs.Doubled.{first_doubled}
use Rattle.bundle_rules.specs.Entries.{has_import_meta}
use Rattle.bundle_rules.specs.Faults.{NeedsTooManyContexts}
use Rattle.bundle_rules.specs.Judging.{requests_in}
use Rattle.bundle_rules.specs.Meaning.{HasKind}
use Rattle.bundle_rules.specs.Merged.{IsMerged, IsMetaItem}
use Rattle.bundle_rules.specs.Nodes.{Text}
use Rattle.bundle_rules.specs.Program.{Loaded, Program, requested, tree_of, IsList, IsReached}
use Rattle.bundle_rules.specs.Scopes.{ModuleKind}
use Rattle.bundle_rules.specs.Tables.{IsChecked}
use Rattle.bundle_rules.proofs.CallLemmas.{has_import_meta-cleared}
use Rattle.bundle_scope_names.proofs.naming_rule.Theorem.{cleared-twice}
use Rattle.bundle_merge_theory.specs.cleared.Programs.{AreSameCleared, cleared_module, cleared_program}
use Rattle.bundle_merge_theory.proofs.cleared.Linking.{turned, list-on, reached-on, same-read, same-requested}
use Rattle.bundle_merge_theory.proofs.cleared.Meaning.{kind-on}
use Rattle.bundle_merge_theory.proofs.cleared.Bundle.{merged-on}
use Rattle.bundle_merge_theory.proofs.cleared.Needs.{checked-on, leads-on, undoubled-on, meta-item-on, needs-on}

-- the tree of a module, and of the cleared one
abbrev tree_of_option : Option Loaded → List Item
tree_of_option o = unwrap_or (option_map (λ (its : Loaded). its.items) o) []

abbrev name_of_option : Option Loaded → Option Name
name_of_option o = option_map (λ (its : Loaded). its.file_name) o

tree-option : (o : Option Loaded) →
    tree_of_option (option_map cleared_module o) ≡ cleared (tree_of_option o)
tree-option None = refl
tree-option (Some its) = refl

name-option : (o : Option Loaded) → name_of_option o ≡ name_of_option (option_map cleared_module o)
name-option None = refl
name-option (Some its) = refl

module _ (p : Program) where
  -- the program with cleared trees
  abbrev q : Program
  q = cleared_program p

  pub tree-of-cleared : (m : ℕ) → tree_of q m ≡ cleared (tree_of p m)
  tree-of-cleared m = tree-option (p.modules m)

  to-cleared : AreSameCleared p.modules q.modules
  to-cleared = record {
    names = λ m. name-option (p.modules m);
    trees = λ m. sym (ap cleared (tree-of-cleared m) ∙ cleared-twice (tree_of p m));
  }

  of-cleared : AreSameCleared q.modules p.modules
  of-cleared = turned to-cleared

  -- what is so of it
  pub to-cleared-reached : (m : ℕ) → IsReached p m → IsReached q m
  to-cleared-reached = reached-on p p.modules q.modules to-cleared

  pub of-cleared-reached : (m : ℕ) → IsReached q m → IsReached p m
  of-cleared-reached = reached-on p q.modules p.modules of-cleared

  pub of-cleared-kind : (m : ℕ) (kind : ModuleKind) → HasKind q m kind → HasKind p m kind
  of-cleared-kind m kind has = kind-on p q.modules p.modules of-cleared has

  pub requested-cleared : requested q ≡ requested p
  requested-cleared = same-requested p q.modules p.modules of-cleared

  pub list-cleared : (list : List ℕ) → IsList p list → IsList q list
  list-cleared = list-on p p.modules q.modules to-cleared

  pub checked-cleared : IsChecked p None → IsChecked q None
  checked-cleared = checked-on p p.modules q.modules to-cleared

  pub undoubled-cleared :
      ((m : ℕ) (kind : ModuleKind) → IsReached p m → HasKind p m kind →
      first_doubled kind (tree_of p m) ≡ None) →
      (m : ℕ) (kind : ModuleKind) → IsReached q m → HasKind q m kind →
      first_doubled kind (tree_of q m) ≡ None
  undoubled-cleared = undoubled-on p p.modules q.modules to-cleared

  pub leads-cleared :
      ((m : ℕ) (s : Text) → IsReached p m → Contains (requests_in p.settings (tree_of p m)) s →
      (d : ℕ) × (p.leads m s ≡ Some d)) →
      (m : ℕ) (s : Text) → IsReached q m → Contains (requests_in q.settings (tree_of q m)) s →
      (d : ℕ) × (q.leads m s ≡ Some d)
  leads-cleared = leads-on p p.modules q.modules to-cleared

  pub meta-cleared : (m : ℕ) → has_import_meta (tree_of q m) ≡ has_import_meta (tree_of p m)
  meta-cleared = same-read p q.modules p.modules of-cleared has_import_meta has_import_meta-cleared

  -- what holds an `import.meta`, and where contexts may be too few
  pub meta-item-cleared : (hooks : Hooks) (m : ℕ) (item : List Item) → IsMetaItem p hooks m item →
      IsMetaItem q hooks m item
  meta-item-cleared = meta-item-on p p.modules q.modules to-cleared

  pub needs-of-cleared : (hooks : Hooks) (next : ℕ) → NeedsTooManyContexts q hooks next →
      NeedsTooManyContexts p hooks next
  needs-of-cleared = needs-on p q.modules p.modules of-cleared

  -- MERGED right
  pub merged-of-cleared : (spelled : Text → Text) (local : ℕ → ℕ) (hooks : Hooks)
      (merged : List Item) → IsMerged spelled local q hooks merged →
      IsMerged spelled local p hooks merged
  merged-of-cleared = merged-on p q.modules p.modules of-cleared
