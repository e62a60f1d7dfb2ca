-- How the part of a bundler that asks loader and resolver moves on.
use Rattle.std.specs.Prelude.{ℕ, List}
use Rattle.bundle_tree_names.specs.FileName.{Name}
use Rattle.bundle_tree.specs.declared.load.ModuleData.{ModuleData}
use Rattle.bundle_rules.specs.Entries.{Settings}
use Rattle.bundler_call.specs.Kept.{kept_of, Advances, Proceeds, Remains}
use Rattle.bundler_call.specs.declared.library.Library.{Library}

-- the parties stay what they are, and what is kept stays so
abbrev pub KeepsLibrary : {L R : Type 0} → Library L R → Library L R → Type 0
KeepsLibrary old new =
    Remains old.loader new.loader old.resolver new.resolver (kept_of old.kept) (kept_of new.kept)

-- the parties stay what they are, and what is kept grows by their answers to what has to be asked,
-- where these are the settings and the files of the entries
abbrev pub MovesOn : {L R : Type 0} → (L → Name → ModuleData → Type 0) →
    (R → Name → List ℕ → Name → Type 0) → Settings → List Name → Library L R → Library L R → Type 0
MovesOn may_load may_resolve settings entries old new =
    Advances may_load may_resolve settings entries old.loader new.loader old.resolver new.resolver
    (kept_of old.kept) (kept_of new.kept)

-- the resolver stays, and what is kept grows in that way; the loader may have handed over what it
-- had
abbrev pub GoesFurther : {L R : Type 0} → (L → Name → ModuleData → Type 0) →
    (R → Name → List ℕ → Name → Type 0) → Settings → List Name → Library L R → Library L R → Type 0
GoesFurther may_load may_resolve settings entries old new =
    Proceeds may_load may_resolve settings entries old.loader old.resolver new.resolver
    (kept_of old.kept) (kept_of new.kept)
