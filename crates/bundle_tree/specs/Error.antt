-- The texts of the reasons why a loader, a resolver and a hook have no answer.
use Rattle.std.specs.Prelude.{ℕ, List, codes}
use Rattle.bundle_tree.specs.declared.hook.HookError.{HookError}
use Rattle.bundle_tree.specs.declared.hook.HookError.TheVariants as hook
use Rattle.bundle_tree.specs.declared.load.LoadError.{LoadError}
use Rattle.bundle_tree.specs.declared.load.LoadError.TheVariants as load
use Rattle.bundle_tree.specs.declared.resolve.ResolveError.{ResolveError}
use Rattle.bundle_tree.specs.declared.resolve.ResolveError.TheVariants as resolve

abbrev pub load_error_shown : LoadError → List ℕ
load_error_shown load.Failed = codes "the file cannot be loaded"
load_error_shown load.OutOfMemory = codes "out of memory"

abbrev pub resolve_error_shown : ResolveError → List ℕ
resolve_error_shown resolve.Failed = codes "the specifier leads to no file"
resolve_error_shown resolve.OutOfMemory = codes "out of memory"

abbrev pub hook_error_shown : HookError → List ℕ
hook_error_shown hook.Failed = codes "the hook has no answer"
hook_error_shown hook.OutOfMemory = codes "out of memory"
