-- The item of a load function by itself: what stands before the statements, and behind them.
use Rattle.std.specs.Prelude.{ℕ, false, List, [], ◌∷◌, ◌++◌, filter_map, Some}
use Rattle.bundle_syntax.specs.declared.kind.VarDeclKind.TheVariants.{Var}
use Rattle.bundle_syntax.specs.declared.piece.Role.TheVariants.{Binding, Reference}
use Rattle.bundle_syntax.specs.Item as h
use Rattle.bundle_syntax.specs.Item.{Item}
use Rattle.bundle_rules.specs.Places.{Around, Spot, Occurrence}
use Rattle.bundle_rules.specs.Scopes.{ModuleKind, Top, Inner, Parameters, FunctionName}
use Rattle.bundle_rules.specs.Declarations.{Reading, ByParameter, Declared, declaration_of}
use Rattle.bundle_rules.specs.Idents.{Ident}
use Rattle.bundle_rules.specs.Statements.{no_notes}
use Rattle.bundle_merge_theory.specs.noted.Spots.{around_spot}
pub use Rattle.bundle_merge_theory.specs.walked.Loaded.{load_front_items as front_items}

-- `});`
abbrev pub back_items : List Item
back_items = h.Close ∷ h.Close ∷ h.Close ∷ h.Close ∷ h.Close ∷ h.Close ∷ h.Close ∷ []

abbrev pub load_item : (load helper m e : Ident) → List Item → List Item
load_item load helper m e made = front_items load helper m e ++ (made ++ back_items)

-- the nodes around the statements, in this field of the body
abbrev pub body_path : ℕ → List Around
body_path field =
    around_spot h.BlockStmt 21 field ∷ around_spot (h.Function false false) 10 1
    ∷ around_spot h.FnExpr 9 1
    ∷ around_spot (h.ExprOrSpread false) 8 1 ∷ around_spot h.CallExpr 6 1
    ∷ around_spot h.VarDeclarator 2 1
    ∷ around_spot (h.VarDecl Var no_notes) 1 1 ∷ around_spot h.Module 0 0 ∷ []

-- where the statements begin
abbrev pub body_start : Spot
body_start = record { place = 22; path = body_path 0 }

abbrev pub module_start : Spot
module_start = record { place = 1; path = around_spot h.Module 0 0 ∷ [] }

-- a parameter of the function, by symbol and context
abbrev pub parameter_named : ℕ → Ident → Declared
parameter_named place name =
    record {
      place = place;
      name = record { sym = name.0; ctxt = Some name.1 };
      by = ByParameter;
      scopes = Inner Parameters 10 ∷ Inner FunctionName 9 ∷ Top ∷ [];
    }

-- what identifiers declare
abbrev pub declared_by_names : Reading → ModuleKind → List Occurrence → List Declared
declared_by_names reading kind os = filter_map (declaration_of reading kind) os

-- the names in front
abbrev pub load_name : Ident → Occurrence
load_name load =
    record {
      place = 4;
      sym = load.0;
      ctxt = load.1;
      role = Binding;
      path = around_spot h.BindingIdent 3 0 ∷ around_spot h.VarDeclarator 2 0
          ∷ around_spot (h.VarDecl Var no_notes) 1 1 ∷ around_spot h.Module 0 0 ∷ [];
    }

abbrev pub helper_name : Ident → Occurrence
helper_name helper =
    record {
      place = 7;
      sym = helper.0;
      ctxt = helper.1;
      role = Reference;
      path = around_spot h.CallExpr 6 0 ∷ around_spot h.VarDeclarator 2 1
          ∷ around_spot (h.VarDecl Var no_notes) 1 1 ∷ around_spot h.Module 0 0 ∷ [];
    }

-- a parameter, whose pattern begins at this place in a node that begins at that
abbrev pub parameter_name : (place pattern begins : ℕ) → Ident → Occurrence
parameter_name place pattern begins name =
    record {
      place = place;
      sym = name.0;
      ctxt = name.1;
      role = Binding;
      path = around_spot h.BindingIdent pattern 0 ∷ around_spot h.Param begins 0
          ∷ around_spot (h.Function false false) 10 0 ∷ around_spot h.FnExpr 9 1
          ∷ around_spot (h.ExprOrSpread false) 8 1 ∷ around_spot h.CallExpr 6 1
          ∷ around_spot h.VarDeclarator 2 1
          ∷ around_spot (h.VarDecl Var no_notes) 1 1 ∷ around_spot h.Module 0 0 ∷ [];
    }
