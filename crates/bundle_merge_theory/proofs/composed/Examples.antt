-- Items that are noted by their identifiers: `const a#5;`, `{ let b#7; b#7; a#5; f#1; }`, the
-- helper, and the function of a
-- CommonJS module `var load#2 = helper#3(function (module#9, exports#10) { exports#10; let c#11;
-- })`.
use Rattle.std.proofs.Common.{false, List, [], ◌∷◌, ◌++◌, codes, refl, arith}
use Rattle.bundle_syntax.specs.declared.kind.VarDeclKind.TheVariants.{Let, Const}
use Rattle.bundle_syntax.specs.declared.piece.Role.TheVariants.{Binding, Reference}
use Rattle.bundle_syntax.specs.Item as h
use Rattle.bundle_syntax.specs.Item.{Item}
use Rattle.bundle_rules.specs.Statements.{no_notes}
use Rattle.bundle_rules.specs.Linking.{Declared}
use Rattle.bundle_rules.specs.Meaning.{Of, Parameter, Load, Helper, Inside, Known, Unbound}
use Rattle.bundle_tree_places.specs.Edits.{node}
use Rattle.bundle_merge_theory.specs.composed.Noted.{AsWhole, AsFunction}
use Rattle.bundle_merge_theory.specs.composed.Names.{LabelTable, ItemNoted, labelled_top, labelled_inner, is_one_inside, is_known, is_free}
use Rattle.bundle_merge_theory.specs.composed.Functions.{load_function_front, load_function_items, function_names}

abbrev a_constant : List Item
a_constant =
    node 0 (h.VarDecl Const no_notes)
    (node 1 h.VarDeclarator (node 0 h.BindingIdent (h.Ident 0 (codes "a") 5 Binding ∷ [])))

abbrev a_block : List Item
a_block =
    node 0 h.BlockStmt (node 0 (h.VarDecl Let no_notes) (node 1 h.VarDeclarator (node 0 h.BindingIdent (h.Ident 0 (codes "b") 7 Binding ∷ [])))
    ++ (node 0 h.ExprStmt (h.Ident 0 (codes "b") 7 Reference ∷ []) ++ (node 0 h.ExprStmt (h.Ident 0 (codes "a") 5 Reference ∷ []) ++ node 0 h.ExprStmt (h.Ident 0 (codes "f") 1 Reference ∷ []))))

abbrev a_helper : List Item
a_helper =
    node 0 h.FnDecl
    (h.Ident 0 (codes "helper") 3 Binding ∷ node 1 (h.Function false false)
    (node 1 h.BlockStmt []))

abbrev its_first : List Item
its_first = node 0 h.ExprStmt (h.Ident 0 (codes "exports") 10 Reference ∷ [])

abbrev its_second : List Item
its_second =
    node 0 (h.VarDecl Let no_notes)
    (node 1 h.VarDeclarator (node 0 h.BindingIdent (h.Ident 0 (codes "c") 11 Binding ∷ [])))

abbrev a_function : List Item
a_function =
    load_function_items no_notes (codes "load", 2) (codes "helper", 3) (codes "module", 9)
    (codes "exports", 10) (its_first ++ (its_second ++ []))

abbrev items : List (List Item)
items = a_constant ∷ a_block ∷ a_helper ∷ a_function ∷ []

abbrev table : LabelTable
table =
    ((codes "a", 5), Of (Declared 0 (codes "a"))) ∷ ((codes "load", 2), Load 1) ∷
    ((codes "helper", 3), Helper)
    ∷ ((codes "module", 9), Parameter 1 (codes "module")) ∷
    ((codes "exports", 10), Parameter 1 (codes "exports")) ∷
    ((codes "c", 11), Of (Declared 1 (codes "c"))) ∷ []

-- the constant is a name of the top
constant_noted : ItemNoted items table a_constant
    (AsWhole (Known (Of (Declared 0 (codes "a"))) ∷ [], []))
constant_noted = (is_known refl (labelled_top refl refl (0, omega arith, refl)), tt)

-- in the block there are an inner binding, a name of the top and a global
block_noted : ItemNoted items table a_block
    (AsWhole (
      Inside 0 ∷ Inside 0 ∷ Known (Of (Declared 0 (codes "a"))) ∷ Unbound (codes "f") ∷ [],
      [],
    ))
block_noted = (
  is_one_inside refl (λ e. absurd cc) refl refl,
  (
    is_one_inside refl (λ e. absurd cc) refl refl,
    (
      is_known refl (labelled_top refl refl (0, omega arith, refl)),
      (is_free refl refl refl, tt),
    ),
  ),
)

-- in the function the names in front are of the top and inner ones; those of its statements that
-- its body declares, and its parameters, are outside them
function_noted : ItemNoted items table a_function
    (AsFunction
    (load_function_front no_notes (codes "load", 2) (codes "helper", 3) (codes "module", 9)
    (codes "exports", 10)) (function_names 1) (its_first ∷ its_second ∷ [])
    ((Known (Parameter 1 (codes "exports")) ∷ [], []) ∷
    (Known (Of (Declared 1 (codes "c"))) ∷ [], []) ∷ []))
function_noted = (
  (
    labelled_top refl refl (1, omega arith, refl),
    (
      labelled_top refl refl (2, omega arith, refl),
      (
        labelled_inner refl (λ e. absurd cc) (3, omega arith, refl),
        (labelled_inner refl (λ e. absurd cc) (4, omega arith, refl), tt),
      ),
    ),
  ),
  (
    (is_known refl (labelled_inner refl (λ e. absurd cc) (4, omega arith, refl)), tt),
    ((is_known refl (labelled_inner refl (λ e. absurd cc) (5, omega arith, refl)), tt), tt),
  ),
)
