-- A CommonJS module and the item of its load function: what is asked of the names in it.
use Rattle.std.specs.Prelude.{◌≡◌, zero, List, ◌∷◌, codes}
use Rattle.bundle_syntax.specs.Item.{Item}
use Rattle.bundle_rules.specs.Places.{Occurrence, occurrences_from}
use Rattle.bundle_rules.specs.Scopes.{Es, Cjs}
use Rattle.bundle_rules.specs.Declarations.{BySymbol, Declared, declared}
use Rattle.bundle_rules.specs.Idents.{Ident}
use Rattle.bundle_rules.specs.Parts.{tree_of_items}
use Rattle.bundle_scope_names.proofs.Numbering.{Numbering}
use Rattle.bundle_scope_names.proofs.HomesLemmas.{Each}
use Rattle.bundle_scope_names.proofs.FoundLemmas.{with}
use Rattle.bundle_merge_theory.specs.loaded.Framed.{load_parameter}
use Rattle.bundle_merge_theory.specs.loaded.Kept.{IsDeclarationTaken, TellsApart}
use Rattle.bundle_merge_theory.specs.loaded.Turned.{Turned, HasTurnedContexts}
use Rattle.bundle_merge_theory.specs.loaded.Item.{body_start, module_start, declared_by_names}

-- all declarations of the module whose items are these
abbrev pub module_declared : List Item → List Declared
module_declared xs = declared BySymbol Cjs (tree_of_items xs)

-- the occurrences of the module, and of the body
abbrev pub module_names : List Item → List Occurrence
module_names xs = occurrences_from module_start xs

abbrev pub body_names : List Item → List Occurrence
body_names ys = occurrences_from body_start ys

-- what the function declares, by symbol
abbrev pub function_declared : List Item → List Declared
function_declared ys =
    load_parameter 13 (codes "module") ∷ load_parameter 18 (codes "exports")
    ∷ declared_by_names BySymbol Es (body_names ys)

-- the contexts that the names get: those of the bindings that they denote in the module, by a
-- numbering of its bindings; the parameters get theirs too; each declaration has a scope that
-- takes it; and the contexts tell bindings apart
pub record IsLoadedItem (g : Numbering) {L : Ident → Type 0} {xs ys : List Item}
    (w : Turned L zero xs ys) (load m e : Ident) : Type 0 where
  pub has : HasTurnedContexts g (module_declared xs) w module_start
  pub taken : Each IsDeclarationTaken (module_declared xs)
  pub its_module : m ≡ (codes "module", g 0 (codes "module"))
  pub its_exports : e ≡ (codes "exports", g 0 (codes "exports"))
  pub apart : TellsApart g (tree_of_items xs) (with load.0 load.1)
