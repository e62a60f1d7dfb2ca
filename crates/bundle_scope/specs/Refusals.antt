-- Why a module is not resolved.
use Rattle.std.specs.Prelude.{◌≡◌, List, Option, Some, string_bytes}
use Rattle.std.specs.Option.{option_map}
use Rattle.std.specs.declared.alloc.Global.{Global}
use Rattle.std.specs.declared.string.String.{String}
use Rattle.bundle_syntax.specs.Item.{Item}
use Rattle.bundle_rules.specs.Scopes.{ModuleKind}
use Rattle.bundle_rules.specs.Doubled.{first_doubled}
use Rattle.bundle_rules.specs.Nodes.{Text}
use Rattle.bundle_rules.specs.Renamed.{MayLackContexts}
use Rattle.bundle_tree_names.specs.FileName.{Name, name_of}
use Rattle.bundle_tree_names.specs.declared.file_name.FileName.{FileName}
use Rattle.bundle_tree_names.specs.declared.error.Error.{Error}
use Rattle.bundle_tree_names.specs.declared.error.Error.TheVariants.{ContextsUsedUp, DoubledDeclaration, OutOfMemory}
use Rattle.bundle_scope_names.specs.Resolution.{AreContextsFit}
use Rattle.bundle_scope.specs.Contexts.{HeldContexts}

-- the first name of a tree that is declared where it may not be declared again
abbrev pub doubled_name : ModuleKind → List Item → Option Text
doubled_name kind tree = option_map (λ declared. declared.name.sym) (first_doubled kind tree)

-- it says of this file that the name is declared in it where it may not be
pub record IsDoubled (file : Name) (name : Text) (refusal : Error) : Type 0 where
  pub its : FileName
  pub text : String Global
  pub is : refusal ≡ DoubledDeclaration its text
  pub of : name_of its ≡ file
  pub says : string_bytes text ≡ name

-- it says of this file that its contexts do not suffice
pub record IsUsedUp (file : Name) (refusal : Error) : Type 0 where
  pub its : FileName
  pub is : refusal ≡ ContextsUsedUp its
  pub of : name_of its ≡ file

-- memory ran out; or the first name that is doubled is told; or none is, and the contexts, where
-- they are fit, do not suffice
pub data MayRefuse
    (kind : ModuleKind) (held : HeldContexts) (tree : List Item) (refusal : Error) : Type 0 where
  no_memory : refusal ≡ OutOfMemory → MayRefuse kind held tree refusal
  doubled : (name : Text) →
      doubled_name kind tree ≡ Some name →
      IsDoubled held.file name refusal →
      MayRefuse kind held tree refusal
  used_up : (AreContextsFit held.local held.next → MayLackContexts kind tree held.next) →
      IsUsedUp held.file refusal →
      MayRefuse kind held tree refusal
