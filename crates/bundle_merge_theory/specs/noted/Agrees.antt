-- What notes and replaced nodes have to be, by their places, so that notes beside a part of a tree
-- give its meaning.
use Rattle.std.specs.Prelude.{◌≡◌, ℕ, suc, ◌+◌, Bool as Truth, true, false, List, [], ◌∷◌, ◌++◌, Option, Some, drop, fold, slice_get}
use Rattle.bundle_syntax.specs.declared.kind.MetaPropKind.TheVariants as p
use Rattle.bundle_syntax.specs.declared.operator.AssignOp.{AssignOp}
use Rattle.bundle_syntax.specs.declared.piece.Role.{Role}
use Rattle.bundle_syntax.specs.Item as h
use Rattle.bundle_syntax.specs.Item.{Item, Head}
use Rattle.bundle_rules.specs.Places.{Around, Spot, Occurrence, past, start, path_at}
use Rattle.bundle_rules.specs.Declarations.{declared}
use Rattle.bundle_rules.specs.Denotes.{Denoted, denoted_at, denoted_of}
use Rattle.bundle_rules.specs.Nodes.{Text}
use Rattle.bundle_rules.specs.Meaning.{Sense, Replacement, ByName, ByCall, Label, Meant, Known, NameMeans, View}
use Rattle.bundle_tree_places.specs.Edits.{node}
use Rattle.bundle_merge_theory.specs.noted.Listed.{is_reference_role}
use Rattle.bundle_tree_rebuild.specs.declared.rewrite.Whole.{Whole}
use Rattle.bundle_tree_rebuild.specs.declared.rewrite.Whole.TheVariants.{Alone, Reads, Call}
use Rattle.bundle_merge_theory.specs.noted.Marked.{Note}
use Rattle.bundle_tree_rebuild.specs.Becomes.{are_reads, is_literal_call, keeps_first}

-- Where a part of a tree stands.

-- at this spot of the tree these elements stand, and they are all that is left of it
pub record IsSpotAt (tree : List Item) (s : Spot) (rest : List Item) : Type 0 where
  pub front : List Item
  pub tree_is : tree ≡ front ++ rest
  pub spot_is : s ≡ fold past start front

-- what an occurrence of a tree denotes
abbrev pub denoted_here : View → Occurrence → Denoted
denoted_here view o =
    denoted_of view.reading view.kind (declared view.reading view.kind view.tree) o

-- What is replaced.

-- none of these nodes is replaced
abbrev pub IsClear : (ℕ → Replacement → Type 0) → List Around → Type 0
IsClear replaced [] = Unit {0}
IsClear replaced (node ∷ outer) =
    (((x : Replacement) → replaced node.begins x → ⊥)) × IsClear replaced outer

-- of these nodes the outermost one that is replaced begins there, and is replaced by that
pub record IsReplacedAround (replaced : ℕ → Replacement → Type 0) (path : List Around) (begins : ℕ)
    (by : Replacement) : Type 0 where
  pub inner : List Around
  pub node : Around
  pub outer : List Around
  pub path_is : path ≡ inner ++ node ∷ outer
  pub here : node.begins ≡ begins
  pub its : replaced begins by
  pub clear : IsClear replaced outer

-- a node of which a note can tell, or `import.meta`
pub data IsNotable (meta : Option Meant) : Head → List Item → Replacement → Type 0 where
  by_reads : {inside : List Item} {l : Label} (count : ℕ) → are_reads count inside ≡ true →
      IsNotable meta h.MemberExpr inside (ByName l)
  by_call : {inside : List Item} {l : Label} → is_literal_call inside ≡ true →
      IsNotable meta h.CallExpr inside (ByCall l)
  by_meta : {l : Label} → meta ≡ Some (Known l) →
      IsNotable meta (h.MetaPropExpr p.ImportMeta) [] (ByName l)

-- a node that is replaced, where none around it is
pub record IsNotedNode (tree : List Item) (meta : Option Meant) (place field : ℕ) (head : Head)
    (by : Replacement) : Type 0 where
  pub inside : List Item
  pub behind : List Item
  pub there : drop place tree ≡ node field head inside ++ behind
  pub notable : IsNotable meta head inside by
  -- it is no member expression that is assigned to or begins an optional chain
  pub unkept : (around : Around) (outer : List Around) → head ≡ h.MemberExpr →
      path_at tree place ≡ around ∷ outer → keeps_first around.head around.field ≡ true →
      place ≡ suc around.begins → ⊥

-- Notes.

-- the occurrence stands for itself: no node around it is replaced, and what it denotes means that
pub record StandsAlone (sense : Sense) (inner : List Denoted) (o : Occurrence)
    (meant : Meant) : Type 0 where
  pub d : Denoted
  pub denotes : denoted_at sense.view.reading sense.view.kind sense.view.tree o.place ≡ Some d
  pub means : NameMeans sense inner d meant
  pub clear : IsClear sense.replaced o.path

-- the node that begins so many places before it is replaced by a name of the label
pub record StandsForReads (sense : Sense) (o : Occurrence) (meant : Meant) (count : ℕ) : Type 0
  where
    pub begins : ℕ
    pub far : begins + count ≡ o.place
    pub label : Label
    pub meant_is : meant ≡ Known label
    pub replaced : IsReplacedAround sense.replaced o.path begins (ByName label)

-- the call that begins right before it is replaced by a call of the label
pub record StandsForCall (sense : Sense) (o : Occurrence) (meant : Meant) : Type 0 where
  pub begins : ℕ
  pub far : suc begins ≡ o.place
  pub label : Label
  pub meant_is : meant ≡ Known label
  pub replaced : IsReplacedAround sense.replaced o.path begins (ByCall label)

-- what is noted of an occurrence is so
abbrev pub Agrees : Sense → List Denoted → Occurrence → Meant → Whole → Type 0
Agrees sense inner o meant Alone = StandsAlone sense inner o meant
Agrees sense inner o meant (Reads count) = StandsForReads sense o meant count
Agrees sense inner o meant Call = StandsForCall sense o meant

-- each occurrence has its note in turn, and what is noted of it is so; more notes may be left
abbrev pub AgreeInTurn : Sense → List Denoted → List Occurrence → List Note → Type 0
AgreeInTurn sense inner [] notes = Unit {0}
AgreeInTurn sense inner (o ∷ more) [] = ⊥
AgreeInTurn sense inner (o ∷ more) (note ∷ notes) =
    Agrees sense inner o note.meant note.whole × AgreeInTurn sense inner more notes

-- the same where nothing is replaced: the occurrence stands for itself, and what it denotes means
-- that
pub record MeansAlone (sense : Sense) (inner : List Denoted) (o : Occurrence)
    (note : Note) : Type 0 where
  pub alone : note.whole ≡ Alone
  pub d : Denoted
  pub denotes : denoted_at sense.view.reading sense.view.kind sense.view.tree o.place ≡ Some d
  pub means : NameMeans sense inner d note.meant

-- so it is of each occurrence in turn; more notes may be left
abbrev pub EachMeans : Sense → List Denoted → List Occurrence → List Note → Type 0
EachMeans sense inner [] notes = Unit {0}
EachMeans sense inner (o ∷ more) [] = ⊥
EachMeans sense inner (o ∷ more) (note ∷ notes) =
    MeansAlone sense inner o note × EachMeans sense inner more notes

-- What is so in the list of each tree.

-- whether such a node reads a member or is a call
abbrev pub is_read_or_call : Head → Truth
is_read_or_call h.MemberExpr = true
is_read_or_call h.CallExpr = true
is_read_or_call head = false

-- a name right in a member expression or a call refers; what is assigned to stands first in an
-- assignment, in its field
pub record IsListing (tree : List Item) : Type 0 where
  pub names : (place field ctxt : ℕ) (x : Text) (role : Role) (around : Around)
      (outer : List Around) → slice_get tree place ≡ Some (h.Ident field x ctxt role) →
      path_at tree place ≡ around ∷ outer → is_read_or_call around.head ≡ true →
      is_reference_role role ≡ true
  pub targets : (place field : ℕ) (head : Head) (around : Around) (outer : List Around)
      (op : AssignOp) → slice_get tree place ≡ Some (h.Open field head) →
      path_at tree place ≡ around ∷ outer → around.head ≡ h.AssignExpr op →
      place ≡ suc around.begins → around.field ≡ 1

-- what is replaced in a tree, where `meta` is what `import.meta` stands for
pub record ReplacesNotable (sense : Sense) (meta : Option Meant) : Type 0 where
  pub nodes : (place field : ℕ) (head : Head) (by : Replacement) →
      slice_get sense.view.tree place ≡ Some (h.Open field head) →
      IsClear sense.replaced (path_at sense.view.tree place) → sense.replaced place by →
      IsNotedNode sense.view.tree meta place field head by
  pub metas : (place field : ℕ) (meant : Meant) →
      slice_get sense.view.tree place ≡ Some (h.Open field (h.MetaPropExpr p.ImportMeta)) →
      meta ≡ Some meant →
      (label : Label) × (meant ≡ Known label) × (sense.replaced place (ByName label))
