-- What a bundle is made of: modules by their numbers, which file each is and where its specifiers
-- lead; and the graph of their requests (ECMA-262, 16.2.1.5). Numbers may have gaps, and two of
-- them may be one file.
use Rattle.std.specs.Prelude.{ℕ, Bool, List, [], ◌∷◌, Option, None, Contains, filter_map, option_map, unwrap_or, if◌then◌else◌, ◌≡◌, true}
use Rattle.bundle_syntax.specs.Item.{Item}
use Rattle.bundle_tree_names.specs.FileName.{Name}
use Rattle.bundle_order_graph.specs.Walks.{Reaches}
use Rattle.bundle_order_graph.specs.Order.{Lists}
use Rattle.bundle_order_graph.specs.Blocks.{BlocksOf}
use Rattle.bundle_rules.specs.Nodes.{Text, has_text, numbers_once}
use Rattle.bundle_rules.specs.Entries.{Settings, RequireCall, requests_of, linked_calls}
use Rattle.bundle_rules.specs.Bound.{is_free}

-- a module as a loader hands it in: the name that it gives, and the tree
pub record Loaded : Type 0 where
  pub file_name : Name
  pub items : List Item

-- the settings; the number of the entry; how many numbers there are; the file of a number, its
-- module, and which number a specifier leads to that stands in a module
pub record Program : Type 0 where
  pub settings : Settings
  pub entry : ℕ
  pub count : ℕ
  pub files : ℕ → Option Name
  pub modules : ℕ → Option Loaded
  pub leads : ℕ → Text → Option ℕ

-- the file of a module
abbrev pub file_of : Program → ℕ → Option Name
file_of p m = p.files m

-- the module as it was loaded
abbrev pub module_of : Program → ℕ → Option Loaded
module_of p m = p.modules m

-- the tree of a module; the empty list where there is none
abbrev pub tree_of : Program → ℕ → List Item
tree_of p m = unwrap_or (option_map (λ loaded. loaded.items) (module_of p m)) []

-- whether a specifier is external
abbrev pub is_external : Program → Text → Bool
is_external p s = has_text s p.settings.external

-- the module that a specifier is, in a module; an external is none
abbrev pub resolves : Program → ℕ → Text → Option ℕ
resolves p m s = if is_external p s then None else p.leads m s

-- the literal calls of `require` of a module that are linked
abbrev pub calls_of : Program → ℕ → List RequireCall
calls_of p m = linked_calls p.settings (is_free (tree_of p m)) (tree_of p m)

-- the modules that a module requests, in the order of its requests; two specifiers of one file are
-- one request
abbrev pub requested : Program → ℕ → List ℕ
requested p m =
    numbers_once
    (filter_map (resolves p m) (requests_of p.settings (is_free (tree_of p m)) (tree_of p m)))

-- a module requests another
abbrev pub Requests : Program → ℕ → ℕ → Type 0
Requests p m n = Contains (requested p m) n

-- the entry reaches the module
abbrev pub IsReached : Program → ℕ → Type 0
IsReached p m = Reaches (Requests p) p.entry m

-- the list of a program: its reached modules in depth-first post-order from the entry, requests in
-- their order
abbrev pub IsList : Program → List ℕ → Type 0
IsList p list = Lists (requested p) [] [] (p.entry ∷ []) list

-- two modules are in one block: each reaches the other, and where the standard's order is asked
-- for, they are the same
abbrev pub SharesBlock : Program → ℕ → ℕ → Type 0
SharesBlock p m n =
    Reaches (Requests p) m n
    × Reaches (Requests p) n m
    × (p.settings.in_standard_order ≡ true → m ≡ n)

-- the blocks of a program whose list is this: in the order of their last members, with the members
-- in the order of the list
abbrev pub AreBlocks : Program → List ℕ → List (List ℕ) → Type 0
AreBlocks p list blocks = BlocksOf (SharesBlock p) list list blocks
