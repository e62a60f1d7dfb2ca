-- How many scopes and bindings the plan of a bundle injects, and which labels.
use Rattle.std.specs.Prelude.{ℕ, ◌+◌, Bool, true, false, List, [], ◌∷◌, ◌++◌, length, map, flat_map, Option, Some, None, if◌then◌else◌}
use Rattle.std.specs.List.{list_any}
use Rattle.bundle_rules.specs.Entries.{Named, Whole}
use Rattle.bundle_rules.specs.Linking.{External, CommonJs, Namespace}
use Rattle.bundle_rules.specs.Meaning.{Label, Of, Load, Meta, Helper}
use Rattle.bundle_rules.specs.Scopes.{Es, Cjs}
use Rattle.bundle_rules.specs.Program.{Program, tree_of}
use Rattle.bundle_rules.specs.Faults.{tree_count, properties_count}
use Rattle.bundle_merge_theory.specs.made.Given.{HookAnswer, Fresh, Written}
use Rattle.bundle_merge_theory.specs.planned.Decided.{Decided, DecidedExternal, DecidedLoad, DecidedBlock}

-- the sum of what is told of each
abbrev pub sum_of : {A : Type 0} → (A → ℕ) → List A → ℕ
sum_of f [] = 0
sum_of f (x ∷ xs) = f x + sum_of f xs

-- so many, where the test says so
abbrev pub count_if : Bool → ℕ → ℕ
count_if true n = n
count_if false n = 0

abbrev pub external_count : DecidedExternal → ℕ
external_count e = length e.names + count_if e.whole 1

abbrev pub load_count : DecidedLoad → ℕ
load_count load = length load.names + count_if load.whole 1

abbrev pub module_count : Decided → ℕ → ℕ
module_count d m =
    if d.is_common_js m then 1 else count_if (d.has_meta m) 1 + sum_of load_count (d.loads m)

abbrev pub object_count : Decided → ℕ → ℕ
object_count d m = count_if (d.is_object_meant m) 4

abbrev pub block_count : Decided → DecidedBlock → ℕ
block_count d block = sum_of (module_count d) block.modules + sum_of (object_count d) block.modules

abbrev pub front_count : Decided → ℕ
front_count d = sum_of external_count d.externals + count_if (list_any d.is_common_js d.list) 10

-- the scopes and bindings of what is injected
abbrev pub injected_count : Decided → ℕ
injected_count d = front_count d + sum_of (block_count d) d.blocks

-- Labels.

-- it, where the test says so
abbrev pub label_if : Bool → Label → List Label
label_if true l = l ∷ []
label_if false l = []

abbrev pub external_labels : DecidedExternal → List Label
external_labels e =
    map (λ x. Of (External e.specifier (Named x))) e.names ++ label_if e.whole
    (Of (External e.specifier Whole))

abbrev pub load_labels : ℕ → DecidedLoad → List Label
load_labels m load =
    map (λ x. Of (CommonJs m load.which (Named x))) load.names ++ label_if load.whole
    (Of (CommonJs m load.which Whole))

abbrev pub module_labels : Decided → ℕ → List Label
module_labels d m =
    if d.is_common_js m then Load m ∷ [] else label_if (d.has_meta m) (Meta m) ++ flat_map
    (load_labels m) (d.loads m)

abbrev pub object_labels : Decided → ℕ → List Label
object_labels d m = label_if (d.is_object_meant m) (Of (Namespace m))

abbrev pub block_labels : Decided → DecidedBlock → List Label
block_labels d block =
    flat_map (module_labels d) block.modules ++ flat_map (object_labels d) block.modules

abbrev pub front_labels : Decided → List Label
front_labels d =
    flat_map external_labels d.externals ++ label_if (list_any d.is_common_js d.list) Helper

-- the labels of what is injected
abbrev pub injected_labels : Decided → List Label
injected_labels d = front_labels d ++ flat_map (block_labels d) d.blocks

-- Trees.

-- the scopes and bindings of properties that a hook answered, if it was asked; those that are
-- written already take no contexts
abbrev pub answer_count : Option HookAnswer → ℕ
answer_count None = 0
answer_count (Some (Fresh properties)) = properties_count properties
answer_count (Some (Written ctxt notes properties)) = 0

-- those of a module's tree and of what the hook answered for it
abbrev pub tree_total : Program → (ℕ → Bool) → (ℕ → Option HookAnswer) → ℕ → ℕ
tree_total p is_common_js answers m =
    if is_common_js m then tree_count Cjs (tree_of p m) else tree_count Es (tree_of p m) +
    answer_count (answers m)
