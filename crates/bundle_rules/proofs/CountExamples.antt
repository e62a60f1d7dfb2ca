-- What is counted where contexts may run out.
use Rattle.std.specs.Prelude.{codes}
use Rattle.std.proofs.Common.{◌≡◌, ℕ, [], ◌∷◌, ◌++◌, refl}
use Rattle.bundle_syntax.specs.declared.kind.MetaPropKind.TheVariants.{ImportMeta}
use Rattle.bundle_syntax.specs.Item as h
use Rattle.bundle_syntax.specs.Item.{Item}
use Rattle.bundle_rules.specs.Entries.{Named, Whole}
use Rattle.bundle_rules.specs.Program.{Program}
use Rattle.bundle_rules.specs.Linking.{CommonJs}
use Rattle.bundle_rules.specs.Meaning.{Of, IsMeant}
use Rattle.bundle_rules.specs.Bundle.{Hooks, Loads, AreNames}
use Rattle.bundle_rules.specs.Faults.{TreesCountTo, nothing, unanswered, properties_count, InjectedCount, loads}
use Rattle.bundle_rules.proofs.Trees.{node, word, runs, function}
use Rattle.bundle_rules.proofs.Programs.{program}

-- main: `import.meta;`
abbrev p : Program
p = program (runs (node 0 (h.MetaPropExpr ImportMeta) [])) [] [] []

-- where the hook was not asked, or only fails, the tree counts alone: it has one scope, the top
counts_alone : (hooks : Hooks) → TreesCountTo p hooks (0 ∷ []) 1
counts_alone hooks = unanswered refl nothing

-- properties that a hook answers have no top of their own: none are nothing, and `f: function () {}` has two scopes and `arguments`
no_properties : properties_count [] ≡ 0
no_properties = refl

one_function : properties_count (node 0 h.KeyValueProp (word 0 (codes "f") ++ node 1 h.FnExpr (function 1 []))) ≡ 3
one_function = refl

-- `load();` of a CommonJS module of which nothing is meant binds nothing
loads_nothing : (m c : ℕ) → AreNames (λ x. IsMeant p (Of (CommonJs m c (Named x)))) [] → (IsMeant p (Of (CommonJs m c Whole)) → ⊥) → InjectedCount p (Loads m c) 0
loads_nothing m c names whole = loads [] names whole
