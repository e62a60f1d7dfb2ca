-- What is told of the items of a bundle, in the words of the definitions, with modules by places.
use Rattle.std.specs.Prelude.{ℕ, zero, Bool, true, false, List, [], ◌∷◌, ◌++◌, map}
use Rattle.std.specs.Borrow.{Bor}
use Rattle.std.specs.String.{string_bytes}
use Rattle.bundle_rules.specs.Nodes.{Text}
use Rattle.bundle_rules.specs.Bundle.{Cause, Own, ImportsNames, ImportsWhole, ImportsNothing, Helps, Defines, Loads, HoldsMeta, HoldsNamespace, Stars, Exports}
use Rattle.bundle_link_targets.specs.declared.target.External.{External}
use Rattle.bundle_link_targets.specs.declared.target.Loaded.{Loaded}
use Rattle.bundle_merge_theory.specs.planned.Decided.{numbers_from, one_if}
use Rattle.bundle_merge_causes.specs.declared.cause.ItemCause.{ItemCause}
use Rattle.bundle_merge_causes.specs.declared.cause.ItemCause.TheVariants as c
use Rattle.bundle_merge_causes.specs.declared.shape.ModuleShape.{ModuleShape}

-- a cause
abbrev pub cause_told : ItemCause → Cause
cause_told (c.OwnStatement m k) = Own m k
cause_told (c.NamesImport specifier) = ImportsNames (string_bytes specifier)
cause_told (c.WholeImport specifier) = ImportsWhole (string_bytes specifier)
cause_told (c.BareImport specifier) = ImportsNothing (string_bytes specifier)
cause_told c.Helper = Helps
cause_told (c.LoadFunction m) = Defines m
cause_told (c.LoadStatement m loaded) = Loads m loaded
cause_told (c.MetaObject m) = HoldsMeta m
cause_told (c.NamespaceObject m) = HoldsNamespace m
cause_told (c.ExternalStar specifier) = Stars (string_bytes specifier)
cause_told c.Exports = Exports

-- causes
abbrev pub causes_told : List ItemCause → List Cause
causes_told causes = map cause_told causes

-- the import of the names of an external, where there are some
abbrev pub names_import : Text → List (Bor Text) → List Cause
names_import s [] = []
names_import s (x ∷ more) = ImportsNames s ∷ []

-- the import of the whole of an external, or of nothing where no name of it is taken
abbrev pub other_import : Text → Bool → List (Bor Text) → List Cause
other_import s true names = ImportsWhole s ∷ []
other_import s false [] = ImportsNothing s ∷ []
other_import s false (x ∷ more) = []

-- what is imported of an external
abbrev pub imports_of : External → List Cause
imports_of e =
    names_import e.specifier.now e.names.items ++
    other_import e.specifier.now e.whole e.names.items

-- the causes of an ES module by itself
abbrev pub es_causes : ℕ → ModuleShape → List Loaded → List Cause
es_causes m shape loads =
    one_if shape.has_import_meta (HoldsMeta m) ++
    (map (λ load. Loads m load.which) loads ++
    map (Own m) (numbers_from zero shape.statements))

-- the causes of a module by itself
abbrev pub own_causes : ℕ → ModuleShape → Bool → List Loaded → List Cause
own_causes m shape true loads = Defines m ∷ []
own_causes m shape false loads = es_causes m shape loads
