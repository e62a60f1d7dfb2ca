-- The refusals of a bundle where a file is not loaded or a request not resolved.
use Rattle.bundle_tree_names.specs.declared.error.Error.{Error}
use Rattle.bundle_tree_names.specs.declared.error.Error.TheVariants.{Load, Resolve, OutOfMemory}
use Rattle.bundle_tree_names.specs.declared.file_name.FileName.{FileName}
use Rattle.bundle_tree.specs.declared.load.LoadError.{LoadError}
use Rattle.bundle_tree.specs.declared.load.LoadError.TheVariants.{Failed as LoadFailed, OutOfMemory as LoadNoMemory}
use Rattle.bundle_tree.specs.declared.resolve.ResolveError.{ResolveError}
use Rattle.bundle_tree.specs.declared.resolve.ResolveError.TheVariants.{Failed as ResolveFailed, OutOfMemory as ResolveNoMemory}
use Rattle.bundler_call.specs.declared.kept.Request.{Request}

-- the refusal of a bundle where a file is not loaded
abbrev pub load_refusal : FileName → LoadError → Error
load_refusal file LoadFailed = Load file
load_refusal file LoadNoMemory = OutOfMemory

-- the refusal of a bundle where a request is not resolved
abbrev pub resolve_refusal : Request → ResolveError → Error
resolve_refusal request ResolveFailed = Resolve request.file request.specifier
resolve_refusal request ResolveNoMemory = OutOfMemory
