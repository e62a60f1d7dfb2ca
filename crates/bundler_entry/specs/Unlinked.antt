-- What the refusals are that are no answer of the loader or the resolver.
use Rattle.bundle_tree_names.specs.declared.error.Error.{Error}
use Rattle.bundler_entry.specs.declared.unlinked.EntryError.{EntryError}
use Rattle.bundler_entry.specs.declared.unlinked.EntryError.TheVariants as u
use Rattle.bundle_tree_names.specs.declared.error.Error.TheVariants as e

-- the refusal of a bundle where trees are not linked
abbrev pub error_of : EntryError → Error
error_of u.OutOfMemory = e.OutOfMemory
error_of (u.Hook file) = e.Hook file
error_of (u.ContextsUsedUp file) = e.ContextsUsedUp file
error_of (u.DoubledDeclaration file name) = e.DoubledDeclaration file name
error_of (u.MissingExport file name) = e.MissingExport file name
error_of (u.AmbiguousExport file name) = e.AmbiguousExport file name
error_of (u.ExternalStarOnly file name) = e.ExternalStarOnly file name
error_of (u.StarOfCommonJs file specifier) = e.StarOfCommonJs file specifier
error_of (u.NamespaceOverExternalStar file) = e.NamespaceOverExternalStar file
error_of (u.With file) = e.With file
error_of (u.RequiredEsModule file specifier) = e.RequiredEsModule file specifier
error_of (u.RequiredEntry file specifier) = e.RequiredEntry file specifier
error_of (u.AwaitInCommonJs file) = e.AwaitInCommonJs file
error_of (u.ExternalUnderIife file specifier) = e.ExternalUnderIife file specifier
error_of (u.ArgumentsUnderIife file) = e.ArgumentsUnderIife file
