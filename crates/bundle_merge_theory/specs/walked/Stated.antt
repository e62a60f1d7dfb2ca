-- What an item of a module states in a bundle, by its list (the list form of `States` of
-- bundle_tree_rewrite), and that it has the same marks.
use Rattle.std.specs.Prelude.{◌≡◌, ◌⊎◌, ℕ, true, List, [], ◌∷◌, ◌++◌, Option, None, map}
use Rattle.bundle_syntax.specs.declared.kind.VarDeclKind.TheVariants.{Const}
use Rattle.bundle_syntax.specs.declared.piece.Role.{Role}
use Rattle.bundle_syntax.specs.declared.piece.Role.TheVariants.{Binding}
use Rattle.bundle_syntax.specs.Item as h
use Rattle.bundle_syntax.specs.Item.{Item, Head}
use Rattle.bundle_rules.specs.Nodes.{Text}
use Rattle.bundle_rules.specs.Idents.{Ident}
use Rattle.bundle_rules.specs.Meaning.{Meant, Mark}
use Rattle.bundle_rules.specs.Statements.{moved_to, declaration_head, no_notes}
use Rattle.bundle_tree_places.specs.Edits.{Anywhere, node}
use Rattle.bundle_tree_rebuild.specs.Work.{Work}
use Rattle.bundle_tree_rebuild.specs.Becomes.{Becomes, named}
use Rattle.bundle_merge_theory.specs.noted.Marked.{Note, Marked}
use Rattle.bundle_merge_theory.specs.noted.Stated.{states_itself, is_default_head, declares_default, MarkedStated}
use Rattle.bundle_merge_theory.specs.walked.Names.{idents_among}
use Rattle.bundle_merge_theory.specs.walked.Keeps.{MeantIdent, meant_ident, meant_in, steps_in, notes_in, AreOfMeta, notes_alone}

-- a declaration of a constant
abbrev pub constant_declared : Ident → (value : List Item) → List Item
constant_declared name value =
    node 0 (h.VarDecl Const no_notes)
    (node 1 h.VarDeclarator (node 0 h.BindingIdent (named 0 name Binding) ++ value))

-- What an item states with this work of its occurrences, where `default` is the name of a default
-- export that has none of its own.
pub data StatesList (work : Work) (default : Ident) : List Item → List Item → Type 0 where
  -- a statement states itself
  StatementStates : (field : ℕ) (head : Head) (inside : List Item) {made : List Item}
      {rest : Work} → states_itself head ≡ true →
      Becomes Anywhere work (node field head inside) made rest →
      StatesList work default (node field head inside) made
  -- an exported declaration is declared
  DeclarationStates : (field : ℕ) (inside : List Item) {made : List Item} {rest : Work} →
      Becomes Anywhere work inside made rest →
      StatesList work default (node field h.ExportDecl inside) made
  -- the value of a default expression is declared by the name of the default
  ValueStates : (field : ℕ) (first : Item) (more : List Item) {value : List Item} {rest : Work} →
      Becomes Anywhere work (moved_to 1 first ∷ more) value rest →
      StatesList work default (node field h.ExportDefaultExpr (first ∷ more))
      (constant_declared default value)
  -- a default function or class is declared: by its own name
  OwnStates : (field inner name_field : ℕ) (x : Text) (ctxt : ℕ) (role : Role) (head : Head)
      (body : List Item) {made : List Item} {rest : Work} → is_default_head head ≡ true →
      Becomes Anywhere work (h.Ident name_field x ctxt role ∷ body) made rest →
      StatesList work default
      (node field h.ExportDefaultDecl (node inner head (h.Ident name_field x ctxt role ∷ body)))
      (node 0 (declaration_head head) made)
  -- or by the name of the default
  DefaultStates : (field inner first_field : ℕ) (head first : Head) (more : List Item)
      {made : List Item} {rest : Work} → is_default_head head ≡ true →
      Becomes Anywhere work (h.Open first_field first ∷ more) made rest →
      StatesList work default
      (node field h.ExportDefaultDecl (node inner head (h.Open first_field first ∷ more)))
      (node 0 (declaration_head head) (named 0 default Binding ++ made))

-- What an item states has the same marks in the module and in the bundle.
pub record SameStated (work : Work) (meta : Option Meant) (notes : List Note) (name : Ident)
    (default : Meant) (item made : List Item) : Type 0 where
  pub marks : List Mark
  pub entries : List MeantIdent
  -- the name of a default that has none of its own, where it is declared
  pub front : List (Ident × Meant)
  pub front_is : (front ≡ []) ⊎ ((front ≡ (name, default) ∷ []) × (declares_default item ≡ true))
  pub source : MarkedStated meta default notes item marks []
  pub result :
      Marked None Anywhere (notes_alone (map (λ pair. pair.1) front ++ map meant_in entries))
      made marks []
  pub names : idents_among made ≡ map (λ pair. pair.0) front ++ map meant_ident entries
  pub steps_are : work.steps ≡ steps_in entries
  pub notes_are : notes ≡ notes_in entries
  pub of_meta : AreOfMeta work.meta meta entries
