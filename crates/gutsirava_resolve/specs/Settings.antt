-- What holds for a platform, and for a loader.
use Rattle.std.specs.Prelude.{ℕ, Bool, true, false, List, [], ◌∷◌, ◌++◌, codes}
use Rattle.gutsirava_path.specs.declared.specifier.Loader.{Loader}
use Rattle.gutsirava_path.specs.declared.specifier.Loader.TheVariants.{EcmaScript, CommonJs}
use Rattle.gutsirava_resolve.specs.declared.settings.MainField.{MainField}
use Rattle.gutsirava_resolve.specs.declared.settings.MainField.TheVariants as f
use Rattle.gutsirava_resolve.specs.declared.settings.TargetPlatform.{TargetPlatform}
use Rattle.gutsirava_resolve.specs.declared.settings.TargetPlatform.TheVariants.{Node, Browser}

abbrev pub is_browser : TargetPlatform → Bool
is_browser Node = false
is_browser Browser = true

-- the condition of a platform
abbrev pub runtime_of : TargetPlatform → List ℕ
runtime_of Node = codes "node"
runtime_of Browser = codes "browser"

-- the fields that name a main file, in order
abbrev pub fields_of : TargetPlatform → List MainField
fields_of Node = f.Main ∷ f.Module ∷ []
fields_of Browser = f.Browser ∷ f.Module ∷ f.Main ∷ []

-- the conditions of a loader
abbrev pub conditions_of : List ℕ → List ℕ → List (List ℕ) → List (List ℕ)
conditions_of runtime loader others = (runtime ∷ loader ∷ []) ++ others

-- what is asked for by `import`, and what by `require`
abbrev pub conditions_for : {T : Type 0} → Loader → T → T → T
conditions_for EcmaScript of_import of_require = of_import
conditions_for CommonJs of_import of_require = of_require

-- whether folders, and files by their endings, are found
abbrev pub completes : Bool → Loader → Bool
completes completes_imports EcmaScript = completes_imports
completes completes_imports CommonJs = true
