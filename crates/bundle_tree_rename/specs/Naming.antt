-- What identifiers are called from now on.
use Rattle.std.specs.Prelude.{ℕ, List, [], ◌∷◌, Option, slice_get, option_map, unwrap_or}
use Rattle.bundle_rules.specs.Idents.{Ident}
use Rattle.bundle_rules.specs.Nodes.{Text}
use Rattle.bundle_rules.specs.Rebuilds.{Change, change_to}
use Rattle.bundle_tree_rename.specs.declared.new_name.NewName as r_new_name

-- the new symbol and the new context of an identifier, where it does not keep its own
pub record Naming : Type 0 where
  pub sym : Option Text
  pub ctxt : Option ℕ

-- the naming that a `NewName` stands for
abbrev pub naming_of : r_new_name.NewName → Naming
naming_of name = record { sym = option_map (λ sym. sym.now) name.sym; ctxt = name.ctxt }

-- what becomes of an identifier, as a change: what is short is spelled out where the symbol changes
abbrev pub change_at : Ident → Naming → Change
change_at ident naming =
    change_to ident (unwrap_or naming.sym ident.0, unwrap_or naming.ctxt ident.1)

-- the change of the next occurrence, which is this identifier
abbrev pub next : List Naming → Text → ℕ → Option Change
next namings x ctxt = option_map (change_at (x, ctxt)) (slice_get namings 0)

-- the changes of identifiers in turn
abbrev pub changes_at : List Naming → List Ident → List Change
changes_at (naming ∷ namings) (ident ∷ idents) = change_at ident naming ∷ changes_at namings idents
changes_at [] idents = []
changes_at namings [] = []
