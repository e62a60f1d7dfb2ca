-- What a bundler is made of, what its parties may do, and the numbers of entries' files.
use Rattle.std.specs.Prelude.{◌≡◌, ℕ, List, Some, map}
use Rattle.std.specs.declared.alloc.Global.{Global}
use Rattle.std.specs.declared.dyn_box.DynBox.{DynBox}
use Rattle.std.specs.declared.string.String.{String}
use Rattle.bundle_tree.specs.declared.hook.Hook.{Ghosts as HookGhosts}
use Rattle.bundle_tree.specs.declared.load.Load.{Ghosts as LoadGhosts}
use Rattle.bundle_tree.specs.declared.resolve.Resolve.{Ghosts as ResolveGhosts}
use Rattle.bundle_tree_names.specs.FileName.{Name, name_of}
use Rattle.bundle_tree_names.specs.declared.file_name.FileName.{FileName}
use Rattle.bundle_rules.specs.Kept.{Kept, number_in}
use Rattle.bundle_rules.specs.Entries.{Settings}
use Rattle.bundle_rules.specs.Faults.{Parties}
use Rattle.bundler_entry.specs.declared.call.OrderedConfig.{OrderedConfig}
use Rattle.bundler_call.specs.Kept.{kept_of, parties_of, settings_of}
use Rattle.bundler_call.specs.declared.bundler.Bundler.{Bundler}

-- what a bundler keeps
abbrev pub kept_by : {L R H : Type 0} {Is : H → Type 0} → Bundler L R H Is → Kept
kept_by bundler = kept_of bundler.library.kept

-- its loader
abbrev pub loader_of : {L R H : Type 0} {Is : H → Type 0} → Bundler L R H Is → L
loader_of bundler = bundler.library.loader

-- its resolver
abbrev pub resolver_of : {L R H : Type 0} {Is : H → Type 0} → Bundler L R H Is → R
resolver_of bundler = bundler.library.resolver

-- its settings, and the order that is asked for beside them
abbrev pub config_of : {L R H : Type 0} {Is : H → Type 0} → Bundler L R H Is → OrderedConfig
config_of bundler = bundler.config

-- its hook
abbrev pub hook_of : {L R H : Type 0} {Is : H → Type 0} → Bundler L R H Is → DynBox H Global Is
hook_of bundler = bundler.hook

-- both, in the words of the definitions
abbrev pub settings_held : {L R H : Type 0} {Is : H → Type 0} → Bundler L R H Is → Settings
settings_held bundler = settings_of (config_of bundler)

-- what its loader, its resolver and its hook may answer, and where they may fail
abbrev pub parties_held : {L R H : Type 0} {Is : H → Type 0} → LoadGhosts L → ResolveGhosts R →
    ((vtable : H) → HookGhosts (Is vtable)) → Bundler L R H Is → Parties
parties_held loads resolves hooks bundler = parties_of
    (loads.may_load (loader_of bundler))
    (loads.may_fail_load (loader_of bundler))
    (resolves.may_resolve (resolver_of bundler))
    (resolves.may_fail_resolve (resolver_of bundler))
    ((hooks (hook_of bundler).vtable).may_give (hook_of bundler).value)
    ((hooks (hook_of bundler).vtable).may_fail_hook (hook_of bundler).value)

-- the files of entries
abbrev pub entry_files : List (String Global × FileName) → List Name
entry_files entries = map (λ entry. name_of entry.1) entries

-- the number of an entry's file
abbrev pub HasFileNumber : Kept → String Global × FileName → ℕ → Type 0
HasFileNumber kept entry id = number_in kept (name_of entry.1) ≡ Some id
