-- What a statement means: its tree, in which each name is replaced by what it denotes (ECMA-262,
-- 9.4.2 ResolveBinding; 16.2.1.6.4, by which an imported name is the binding of another module;
-- 10.4.6 for reads of a namespace). Contexts and notes are left out, and shorthands are spelled out
-- (13.2.5, 14.3.3).
use Rattle.std.specs.Prelude.{◌≡◌, ℕ, zero, suc, nat_le, Bool, true, false, List, [], ◌∷◌, ◌++◌, Option, Some, None, Contains, filter, filter_map, position, slice_get}
use Rattle.bundle_syntax.specs.declared.piece.Role.{Role}
use Rattle.bundle_syntax.specs.declared.piece.Role.TheVariants.{Word as IsWord}
use Rattle.bundle_syntax.specs.Item as h
use Rattle.bundle_syntax.specs.Item.{Item, Head}
use Rattle.bundle_rules.specs.Places.{Around, path_at}
use Rattle.bundle_rules.specs.Scopes.{ModuleKind, Es, Cjs, Scope, Inner as InnerScope, Top, Wrapper}
use Rattle.bundle_rules.specs.Declarations.{Reading, BySymbol, Name as Known_as}
use Rattle.bundle_rules.specs.Denotes.{Denoted, Bound, Global, denoted_at}
use Rattle.bundle_rules.specs.Nodes.{Text}
use Rattle.bundle_rules.specs.Statements.{Element, taken, written, own_statements}
use Rattle.bundle_rules.specs.Cleared.{cleared_head}
pub use Rattle.bundle_rules.specs.Shorthands.{ends_at, has_default, is_shorthand_in_pattern, is_object, symbol_of}
pub use Rattle.bundle_rules.specs.Marks.{MarkOf, Begins, Ends, Empty, Name, Word, begin_marks, end_marks, name_marks}
use Rattle.bundle_rules.specs.Reads.{read_word}
pub use Rattle.bundle_rules.specs.Mentions.{same_denoted, each_denoted_once}
use Rattle.bundle_rules.specs.Entries.{RequireCall, is_import_meta}
use Rattle.bundle_rules.specs.Program.{Program, tree_of, resolves, calls_of, IsReached}
use Rattle.bundle_rules.specs.Linking.{IsCommonJs, Target, Namespace, Linked, StandsFor}

-- Meanings.

-- what a binding of a bundle can stand for: a target; a parameter of a CommonJS module's function;
-- the function that loads a CommonJS module; what `import.meta` is in a module; the helper of those
-- functions
pub data Label : Type 0 where
  Of : Target → Label
  Parameter : (c : ℕ) (x : Text) → Label
  Load : (c : ℕ) → Label
  Meta : (m : ℕ) → Label
  Helper : Label

-- what a name means: a binding inside the statement, by its number in the order of first mention;
-- what a binding outside stands for; a global
pub data Meant : Type 0 where
  Inside : ℕ → Meant
  Known : Label → Meant
  Unbound : Text → Meant

-- one element of a meaning: in the place of a name stands what it means
abbrev pub Mark : Type 0
Mark = MarkOf Meant

-- What names denote.

-- a tree, and how it is read
pub record View : Type 0 where
  pub tree : List Item
  pub kind : ModuleKind
  pub reading : Reading

-- a name without a context
abbrev pub plain : Text → Known_as
plain x = record { sym = x; ctxt = None }

-- what an element denotes; what is written in addition is a name of the module's top
abbrev pub denoted : View → Element → Option Denoted
denoted view (taken place x) = denoted_at view.reading view.kind view.tree place
denoted view (written (h.Ident field sym ctxt role)) = Some (Bound Top (plain sym))
denoted view (written _) = None

-- whether it is a binding of a scope that begins from this place on
abbrev pub is_inside : ℕ → Denoted → Bool
is_inside start (Bound (InnerScope kind begins) name) = nat_le start begins
is_inside start _ = false

-- the bindings inside a statement that begins at this place, in the order of first mention
abbrev pub inner_bindings : View → ℕ → List Element → List Denoted
inner_bindings view start statement =
    each_denoted_once (filter (is_inside start) (filter_map (denoted view) statement))

-- The meaning of a list of elements.

-- what a node is replaced by: a name that means the label, or a call of it without arguments
pub data Replacement : Type 0 where
  ByName : Label → Replacement
  ByCall : Label → Replacement

-- what a node in this field is replaced by
abbrev pub replacement_marks : ℕ → Replacement → List Mark
replacement_marks field (ByName l) = Name field (Known l) ∷ []
replacement_marks field (ByCall l) = Begins field h.CallExpr ∷ Name 0 (Known l) ∷ Ends ∷ []

-- how a tree gets its meaning: what the node that begins at a place is replaced by, where it is
-- replaced, and what a binding outside a statement stands for
pub record Sense : Type 1 where
  pub view : View
  pub replaced : ℕ → Replacement → Type 0
  pub Stands : Denoted → Label → Type 0

-- the element of a tree that an element of a statement is
abbrev pub item_of : Element → Item
item_of (taken place x) = x
item_of (written x) = x

-- what follows the end of the node that is open; `depth` more were opened in it
abbrev pub past_end : ℕ → List Element → List Element
past_end depth [] = []
past_end depth (e ∷ rest) = elim (item_of e) [
  | h.Open field head ↦ past_end (suc depth) rest
  | h.Ident field sym ctxt role ↦ past_end depth rest
  | h.Hole field ↦ past_end depth rest
  | h.Close ↦ elim depth [ zero ↦ rest | suc n ↦ past_end n rest ]
]

-- `NameMeans sense inner d meant`: where these are the bindings inside, what denotes d means this
pub data NameMeans (sense : Sense) (inner : List Denoted) : Denoted → Meant → Type 0 where
  inside : {d : Denoted} {n : ℕ} →
      position (same_denoted d) inner ≡ Some n →
      NameMeans sense inner d (Inside n)
  outside : {scope : Scope} {name : Known_as} {l : Label} →
      position (same_denoted (Bound scope name)) inner ≡ None →
      sense.Stands (Bound scope name) l →
      NameMeans sense inner (Bound scope name) (Known l)
  unbound : {x : Text} → NameMeans sense inner (Global x) (Unbound x)

-- `Means sense inner elements marks`: the elements, one after the other, mean these marks
pub data Means (sense : Sense) (inner : List Denoted) : List Element → List Mark → Type 0 where
  finished : Means sense inner [] []
  -- a node that is replaced; what stands in it is passed over, so that of two one in the other the
  -- outer one counts
  replaced :
      {place field : ℕ} {head : Head} {rest : List Element} {marks : List Mark} (by : Replacement) →
      sense.replaced place by →
      Means sense inner (past_end zero rest) marks →
      Means sense inner (taken place (h.Open field head) ∷ rest)
      (replacement_marks field by ++ marks)
  -- any other node begins
  begun : {place field : ℕ} {head : Head} {rest : List Element} {marks : List Mark} →
      ((by : Replacement) → sense.replaced place by → ⊥) →
      Means sense inner rest marks →
      Means sense inner (taken place (h.Open field head) ∷ rest)
      (begin_marks sense.view.tree place field (path_at sense.view.tree place) head ++ marks)
  ended : {place : ℕ} {rest : List Element} {marks : List Mark} →
      Means sense inner rest marks →
      Means sense inner (taken place h.Close ∷ rest)
      (end_marks sense.view.tree (path_at sense.view.tree place) ++ marks)
  empty : {place field : ℕ} {rest : List Element} {marks : List Mark} →
      Means sense inner rest marks →
      Means sense inner (taken place (h.Hole field) ∷ rest) (Empty field ∷ marks)
  -- a name means what it denotes
  named :
      {place field ctxt : ℕ} {sym : Text} {role : Role} {rest : List Element} {marks : List Mark}
      (d : Denoted) (meant : Meant) →
      denoted sense.view (taken place (h.Ident field sym ctxt role)) ≡ Some d →
      NameMeans sense inner d meant →
      Means sense inner rest marks →
      Means sense inner (taken place (h.Ident field sym ctxt role) ∷ rest)
      (name_marks field (path_at sense.view.tree place) sym meant ++ marks)
  -- a plain word stays
  word : {place field ctxt : ℕ} {sym : Text} {rest : List Element} {marks : List Mark} →
      Means sense inner rest marks →
      Means sense inner (taken place (h.Ident field sym ctxt IsWord) ∷ rest)
      (Word field sym ∷ marks)
  -- what is written in addition
  adds_begin : {field : ℕ} {head : Head} {rest : List Element} {marks : List Mark} →
      Means sense inner rest marks →
      Means sense inner (written (h.Open field head) ∷ rest)
      (Begins field (cleared_head head) ∷ marks)
  adds_end : {rest : List Element} {marks : List Mark} →
      Means sense inner rest marks →
      Means sense inner (written h.Close ∷ rest) (Ends ∷ marks)
  adds_name :
      {field ctxt : ℕ} {sym : Text} {role : Role} {rest : List Element} {marks : List Mark}
      (meant : Meant) →
      NameMeans sense inner (Bound Top (plain sym)) meant →
      Means sense inner rest marks →
      Means sense inner (written (h.Ident field sym ctxt role) ∷ rest) (Name field meant ∷ marks)

-- the meaning of a statement that begins at this place
abbrev pub StatementMeans : Sense → ℕ → List Element → List Mark → Type 0
StatementMeans sense start statement marks =
    Means sense (inner_bindings sense.view start statement) statement marks

-- Static reads of namespaces.

-- `ReadsAs p m place t`: the expression at this place of m is an imported name or a static read,
-- and means t
pub data ReadsAs (p : Program) (m : ℕ) : ℕ → Target → Type 0 where
  -- a name at the top of the module means what it stands for
  by_name : {place : ℕ} {x : Text} {t : Target} →
      denoted_at BySymbol Es (tree_of p m) place ≡ Some (Bound Top (plain x)) →
      StandsFor p m x t →
      ReadsAs p m place t
  -- a read of a linked name of a namespace means what that name is linked to
  by_read : {place d : ℕ} {x : Text} {t : Target} →
      read_word (tree_of p m) place ≡ Some x →
      ReadsAs p m (suc place) (Namespace d) →
      Linked p d x t →
      ReadsAs p m place t

-- The own statements of a module.

-- whether `import.meta` begins here
abbrev pub is_meta_at : Option Item → Bool
is_meta_at (Some (h.Open field head)) = is_import_meta head
is_meta_at _ = false

-- what is replaced in a module: static reads, `import.meta`, and literal calls of `require`
pub data Replaced (p : Program) (m : ℕ) : ℕ → Replacement → Type 0 where
  static_read : {place : ℕ} {x : Text} {t : Target} →
      read_word (tree_of p m) place ≡ Some x →
      ReadsAs p m place t →
      Replaced p m place (ByName (Of t))
  import_meta : {place : ℕ} →
      is_meta_at (slice_get (tree_of p m) place) ≡ true →
      Replaced p m place (ByName (Meta m))
  require_call : {place c : ℕ} (call : RequireCall) →
      Contains (calls_of p m) call →
      call.place ≡ place →
      resolves p m call.specifier ≡ Some c →
      Replaced p m place (ByCall (Load c))

-- what a binding at the top of a module stands for; a CommonJS module's `module`, `exports` and
-- `arguments` are its function's
pub data OwnName (p : Program) (m : ℕ) : Denoted → Label → Type 0 where
  at_top : {x : Text} {t : Target} → StandsFor p m x t → OwnName p m (Bound Top (plain x)) (Of t)
  parameter : {x : Text} → OwnName p m (Bound Wrapper (plain x)) (Parameter m x)

-- the kind as which a module is read
pub data HasKind (p : Program) (m : ℕ) : ModuleKind → Type 0 where
  is_es : (IsCommonJs p m → ⊥) → HasKind p m Es
  is_common_js : IsCommonJs p m → HasKind p m Cjs

-- how a module is read, by its symbols
abbrev pub own_view : Program → ℕ → ModuleKind → View
own_view p m kind = record { tree = tree_of p m; kind = kind; reading = BySymbol }

-- how a module gets its meaning
abbrev pub own_sense : Program → ℕ → ModuleKind → Sense
own_sense p m kind =
    record { view = own_view p m kind; replaced = Replaced p m; Stands = OwnName p m }

-- a statement of m means these marks
pub record OwnMeaning
    (p : Program) (m : ℕ) (statement : List Element) (marks : List Mark) : Type 0 where
  pub kind : ModuleKind
  pub has_kind : HasKind p m kind
  pub means : StatementMeans (own_sense p m kind) 0 statement marks

-- The statements of a bundle.

-- which binding of a bundle stands for what
abbrev pub Labelling : Type 0
Labelling = List (Denoted × Label)

-- no binding has two labels, and no label two bindings
pub record IsOneToOne (labels : Labelling) : Type 0 where
  pub one_label : (d : Denoted) (l other : Label) →
      Contains labels (d, l) →
      Contains labels (d, other) →
      l ≡ other
  pub one_binding : (d other : Denoted) (l : Label) →
      Contains labels (d, l) →
      Contains labels (other, l) →
      d ≡ other

-- how a bundle gets its meaning: nothing is replaced, and its bindings stand for their labels
abbrev pub bundle_sense : List Item → Reading → Labelling → Sense
bundle_sense tree reading labels =
    record {
      view = record { tree = tree; kind = Es; reading = reading };
      replaced = λ place by. ⊥;
      Stands = λ d l. Contains labels (d, l);
    }

-- What is meant.

-- the nodes of the module around an element of a statement; around what is written in addition
-- stands none
abbrev pub around_element : List Item → Element → List Around
around_element tree (taken place x) = path_at tree place
around_element tree (written x) = []

-- the element lies in no node that is replaced
abbrev pub IsLeft : Program → ℕ → Element → Type 0
IsLeft p m e =
    (node : Around) (by : Replacement) →
    Contains (around_element (tree_of p m) e) node →
    Replaced p m node.begins by →
    ⊥

-- the label that a replacement means
abbrev pub label_of : Replacement → Label
label_of (ByName l) = l
label_of (ByCall l) = l

-- `SaysAt p m e l`: at this element of a statement of m the label is meant, by a name that stands
-- for it or by a node that is replaced by it
pub data SaysAt (p : Program) (m : ℕ) : Element → Label → Type 0 where
  says_name : {kind : ModuleKind} {e : Element} {d : Denoted} {l : Label} →
      HasKind p m kind →
      denoted (own_view p m kind) e ≡ Some d →
      OwnName p m d l →
      SaysAt p m e l
  says_node : {place field : ℕ} {head : Head} {by : Replacement} →
      Replaced p m place by →
      SaysAt p m (taken place (h.Open field head)) (label_of by)

-- the least set of labels that a bundle needs: what own statements of reached modules mean, place
-- by place, what the entry's exports are linked to, and what the names of a namespace are linked to
-- that is itself meant
pub data IsMeant (p : Program) : Label → Type 0 where
  by_statement : {m : ℕ} {statement : List Element} {e : Element} {l : Label} →
      IsReached p m →
      Contains (own_statements (tree_of p m)) statement →
      Contains statement e →
      IsLeft p m e →
      SaysAt p m e l →
      IsMeant p l
  by_export : {x : Text} {t : Target} → Linked p p.entry x t → IsMeant p (Of t)
  by_namespace : {d : ℕ} {x : Text} {t : Target} →
      IsMeant p (Of (Namespace d)) →
      Linked p d x t →
      IsMeant p (Of t)
