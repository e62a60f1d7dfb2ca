-- What is decided of the modules of a bundle, as linking, their tables and the plan have it, where
-- modules are numbered by their places.
use Rattle.std.specs.Prelude.{◌≡◌, ℕ, zero, suc, ◌<◌, Bool, true, false, List, [], ◌∷◌, length, map}
use Rattle.std.specs.List.{list_any}
use Rattle.bundle_rules.specs.Statements.{own_statements}
use Rattle.bundle_rules.specs.Entries.{has_import_meta}
use Rattle.bundle_rules.specs.Program.{Program, tree_of, IsList}
use Rattle.bundle_link_index.specs.Leads.{flagged}
use Rattle.bundle_link_index.specs.declared.target.TargetRef.TheVariants as t
use Rattle.bundle_link_index.specs.contracts.target.TargetRefPartialEq.TheImpl as target_impl
use Rattle.bundle_link_targets.specs.Linked.{HandsOver, IsLinkingOf}
use Rattle.bundle_link_targets.specs.Lists.{list_in}
use Rattle.bundle_link_targets.specs.Meant.{AreModules}
use Rattle.bundle_link_targets.specs.declared.linking.Linking.{Linking}
use Rattle.bundle_link_targets.specs.declared.target.External.{External}
use Rattle.bundle_link_targets.specs.declared.target.Loaded.{Loaded}
use Rattle.bundle_merge_theory.specs.planned.Decided.{Decided, DecidedExternal, DecidedLoad, DecidedBlock, numbers_from}

-- an external, with what of it is meant
abbrev pub external_of : External → DecidedExternal
external_of its = record {
  specifier = its.specifier.now;
  names = map (λ name. name.now) its.names.items;
  whole = its.whole;
}

-- a CommonJS module that a module loads, with what of it is meant there
abbrev pub load_of : Loaded → DecidedLoad
load_of its = record {
  which = its.which;
  names = map (λ name. name.now) its.names.items;
  whole = its.whole;
}

-- whether a list has something
abbrev pub has_some : {A : Type 0} → List A → Bool
has_some [] = false
has_some (x ∷ rest) = true

-- whether the last of so many modules, which is the entry, links a name
abbrev pub exports_some : Linking → ℕ → Bool
exports_some linking zero = false
exports_some linking (suc last) = has_some (list_in linking.meant.linked.items last)

-- what is decided of so many modules, where the tables tell which of them have an `import.meta` and
-- how many statements of its own each has, and these are the blocks
abbrev pub decided_by : Linking → (ℕ → Bool) → (ℕ → ℕ) → ℕ → List DecidedBlock → Decided
decided_by linking meta count n blocks = record {
  list = numbers_from zero n;
  is_common_js = λ m. flagged linking.common_js.items m;
  loads = λ m. map load_of (list_in linking.outside.loads.items m);
  has_meta = meta;
  statements = count;
  is_object_meant = λ m.
      list_any (target_impl.ghosts.eq (t.Namespace m)) linking.meant.targets.keys;
  externals = map external_of linking.outside.externals.items;
  stars = map (λ star. star.now) linking.outside.external_stars.items;
  exports = exports_some linking n;
  blocks = blocks;
}

-- the tables of the first n modules tell this
pub record AreTablesTold (q : Program) (n : ℕ) (meta : ℕ → Bool) (count : ℕ → ℕ) : Type 0 where
  pub meta_told : (k : ℕ) → k < n → meta k ≡ has_import_meta (tree_of q k)
  pub counted : (k : ℕ) → k < n → count k ≡ length (own_statements (tree_of q k))

-- the first n modules are those of the program in the order of its list, they are linked, and their
-- tables tell this
pub record AreTablesLinked (q : Program) (n : ℕ) (linking : Linking) (meta : ℕ → Bool)
    (count : ℕ → ℕ) : Type 0 where
  pub list : IsList q (numbers_from zero n)
  pub linked : IsLinkingOf q linking
  pub handed : HandsOver q (numbers_from zero n) linking
  pub modules : AreModules q
  pub told : AreTablesTold q n meta count
