-- The number and the name of each refusal of a bundle.
use Rattle.std.specs.Prelude.{ℕ, List, codes}
use Rattle.bundle_tree_names.specs.declared.error.Error.{Error}
use Rattle.bundle_tree_names.specs.declared.error.Error.TheVariants.{Load, Resolve, Hook, TooManyModules, ContextsUsedUp, DoubledDeclaration, DoubledExport, UndeclaredExport, MissingExport, AmbiguousExport, ExternalStarOnly, StarOfCommonJs, NamespaceOverExternalStar, With, RequiredEsModule, RequiredEntry, AwaitInCommonJs, DoubledEntry, ExternalUnderIife, ArgumentsUnderIife, OutOfMemory}

-- the number of each kind of refusal; 0 and 6 are no refusal's
abbrev pub number_of : Error → ℕ
number_of (Load file) = 1
number_of (Resolve file specifier) = 2
number_of (Hook file) = 3
number_of (TooManyModules file) = 4
number_of (ContextsUsedUp file) = 5
number_of (DoubledDeclaration file name) = 7
number_of (DoubledExport file name) = 8
number_of (UndeclaredExport file name) = 9
number_of (MissingExport file name) = 10
number_of (AmbiguousExport file name) = 11
number_of (ExternalStarOnly file name) = 12
number_of (StarOfCommonJs file specifier) = 13
number_of (NamespaceOverExternalStar file) = 14
number_of (With file) = 15
number_of (RequiredEsModule file specifier) = 16
number_of (RequiredEntry file specifier) = 17
number_of (AwaitInCommonJs file) = 18
number_of (DoubledEntry file name) = 19
number_of (ExternalUnderIife file specifier) = 20
number_of (ArgumentsUnderIife file) = 21
number_of OutOfMemory = 22

-- the name of each kind of refusal
abbrev pub variant_name : Error → List ℕ
variant_name (Load file) = codes "Load"
variant_name (Resolve file specifier) = codes "Resolve"
variant_name (Hook file) = codes "Hook"
variant_name (TooManyModules file) = codes "TooManyModules"
variant_name (ContextsUsedUp file) = codes "ContextsUsedUp"
variant_name (DoubledDeclaration file name) = codes "DoubledDeclaration"
variant_name (DoubledExport file name) = codes "DoubledExport"
variant_name (UndeclaredExport file name) = codes "UndeclaredExport"
variant_name (MissingExport file name) = codes "MissingExport"
variant_name (AmbiguousExport file name) = codes "AmbiguousExport"
variant_name (ExternalStarOnly file name) = codes "ExternalStarOnly"
variant_name (StarOfCommonJs file specifier) = codes "StarOfCommonJs"
variant_name (NamespaceOverExternalStar file) = codes "NamespaceOverExternalStar"
variant_name (With file) = codes "With"
variant_name (RequiredEsModule file specifier) = codes "RequiredEsModule"
variant_name (RequiredEntry file specifier) = codes "RequiredEntry"
variant_name (AwaitInCommonJs file) = codes "AwaitInCommonJs"
variant_name (DoubledEntry file name) = codes "DoubledEntry"
variant_name (ExternalUnderIife file specifier) = codes "ExternalUnderIife"
variant_name (ArgumentsUnderIife file) = codes "ArgumentsUnderIife"
variant_name OutOfMemory = codes "OutOfMemory"
