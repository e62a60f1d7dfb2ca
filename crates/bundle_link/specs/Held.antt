-- What a linker holds, in the words that clauses use.
use Rattle.std.specs.Prelude.{◌≡◌, ℕ, false, List, Option, nat_eq}
use Rattle.indexmap.specs.IndexSet.{contains, index_of_by}
use Rattle.bundle_order_graph.specs.Modules.{Modules}
use Rattle.bundle_tree_names.specs.declared.config.Config.{Config}
use Rattle.bundle_link.specs.declared.link.Linker.{Linker}
use Rattle.bundle_link.specs.declared.transformed.TransformedModule.{TransformedModule}

-- the modules that it was handed
abbrev pub modules_of : Linker → List TransformedModule
modules_of linker = linker.modules.items

-- the number of the entry
abbrev pub entry_of : Linker → ℕ
entry_of linker = linker.entry

-- the settings
abbrev pub config_of : Linker → Config
config_of linker = linker.config

-- the numbers of the modules that the entry reaches, in post-order of their requests
abbrev pub list_of : Linker → List ℕ
list_of linker = linker.linked.list.items

-- which module requests which
abbrev pub graph_of : Linker → Modules
graph_of linker = linker.linked.graph

-- the place of the module with a number among those that it was handed
abbrev pub place_of : Linker → ℕ → Option ℕ
place_of linker id = index_of_by (nat_eq id) linker.linked.ids

-- no module has this number
abbrev pub LacksNumber : Linker → ℕ → Type 0
LacksNumber linker id = contains nat_eq linker.linked.ids id ≡ false
