-- What the items of a module state in a bundle, in turn, with what becomes of the module's
-- occurrences.
use Rattle.std.specs.Prelude.{ℕ, Bool, true, false, List, [], ◌∷◌, ◌++◌, Option, Some, None, drop, filter, length, map}
use Rattle.bundle_syntax.specs.Item as h
use Rattle.bundle_syntax.specs.Item.{Item}
use Rattle.bundle_tree_ast.specs.declared.module.ModuleItem.{ModuleItem}
use Rattle.bundle_tree_ast.specs.declared.stmt.Stmt.{Stmt}
use Rattle.bundle_tree_listed.specs.Tree.{option_items, stmt_items}
use Rattle.bundle_tree_places.specs.Edits.{is_occurrence}
use Rattle.bundle_tree_rebuild.specs.Work.{Work, rewrite_step}
use Rattle.bundle_tree_rebuild.specs.declared.rewrite.Rewrite.{Rewrite}
use Rattle.bundle_tree_rewrite.specs.Stated.{States}
use Rattle.std.specs.List.{AllZip}
use Rattle.bundle_rules.specs.Idents.{Ident}
use Rattle.bundle_rules.specs.Program.{Program, tree_of}
use Rattle.bundle_rules.specs.Scopes.{ModuleKind}
use Rattle.bundle_rules.specs.Statements.{own_statements}
use Rattle.bundle_merge_theory.specs.made.Given.{BundleContexts}
use Rattle.bundle_merge_theory.specs.made.Made.{IsStatedAs}

-- whether an element is an occurrence
abbrev pub is_name : Item → Bool
is_name (h.Ident field sym ctxt role) = is_occurrence role
is_name _ = false

-- how many occurrences stand in a list
abbrev pub occurrence_count : List Item → ℕ
occurrence_count items = length (filter is_name items)

-- what becomes of the occurrences of a list, and of `import.meta`
abbrev pub work_by : List Rewrite → Option Ident → Work
work_by rewrites meta =
    record { steps = map rewrite_step rewrites; meta = meta; clears_notes = true }

-- the list of a statement, if there is one
abbrev pub as_list : Option Stmt → List (List Item)
as_list None = []
as_list (Some made) = stmt_items 0 made ∷ []

-- `StateInTurn meta default items parts rewrites made`: where these become the occurrences from the
-- first item on, and each item has the occurrences of its part, this is what the items state, up to
-- the last of both
pub data StateInTurn (meta : Option Ident) (default : Ident) : List ModuleItem → List (List Item) →
    List Rewrite → List (List Item) → Type 0 where
  no_item : {parts : List (List Item)} {rewrites : List Rewrite} →
      StateInTurn meta default [] parts rewrites []
  no_part : {items : List ModuleItem} {rewrites : List Rewrite} →
      StateInTurn meta default items [] rewrites []
  one_more : {item : ModuleItem} {items : List ModuleItem} {part : List Item}
      {parts : List (List Item)} {rewrites : List Rewrite} {more : List (List Item)}
      (made : Option Stmt) →
      States (work_by rewrites meta) default item (option_items (stmt_items 0) made) →
      StateInTurn meta default items parts (drop (occurrence_count part) rewrites) more →
      StateInTurn meta default (item ∷ items) (part ∷ parts) rewrites (as_list made ++ more)

-- the own statements of module m, read as this kind, become these in turn
abbrev pub AreStatedAs : Program → List ℕ → BundleContexts → ℕ → ModuleKind → List (List Item) →
    Type 0
AreStatedAs q list context m kind made =
    AllZip (λ statement one. IsStatedAs q list context m kind statement one)
    (own_statements (tree_of q m)) made
