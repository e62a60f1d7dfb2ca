-- A bundle in the form of a module whose items are noted right: what each item's names mean and its
-- marks, and what its
-- names have to denote, in whatever reading.
use Rattle.std.specs.Prelude.{◌≡◌, ℕ, Bool, true, false, ◌&&◌, not, ◌↔◌, List, [], ◌∷◌, ◌++◌, Some, Contains, filter, length, map, slice_get, position, fold, IsTrue, ⊤}
use Rattle.std.specs.List.{AllZip}
use Rattle.bundle_syntax.specs.declared.piece.Role.TheVariants.{Word as IsWord}
use Rattle.bundle_syntax.specs.Item as h
use Rattle.bundle_syntax.specs.Item.{Item}
use Rattle.bundle_rules.specs.Places.{Spot, past, start, occurrences_from}
use Rattle.bundle_rules.specs.Scopes.{Es, Top}
use Rattle.bundle_rules.specs.Declarations.{Reading}
use Rattle.bundle_rules.specs.Denotes.{Denoted, Global}
use Rattle.bundle_rules.specs.Nodes.{Text}
use Rattle.bundle_rules.specs.Shorthands.{is_shorthand_in_pattern, is_object}
use Rattle.bundle_rules.specs.Cleared.{cleared_head}
use Rattle.bundle_rules.specs.Statements.{Element, own_statements, top_items}
use Rattle.bundle_rules.specs.Sorting.{flat}
use Rattle.bundle_rules.specs.Entries.{Named, Whole as AllOfIt}
use Rattle.bundle_rules.specs.Program.{Program, tree_of}
use Rattle.bundle_rules.specs.Linking.{CommonJs}
use Rattle.bundle_rules.specs.Mentions.{same_denoted, each_denoted_once}
use Rattle.bundle_rules.specs.Marks as k
use Rattle.bundle_rules.specs.Meaning.{Of, Label, Meant, Mark, Inside, Known, Unbound, Labelling, View, is_inside, IsMeant, OwnMeaning}
use Rattle.bundle_rules.specs.Injected.{NamedTarget, import_names, import_whole, import_bare, export_star, export_list, return_object, namespace_object, meta_object, load_statement, load_front, helper_function}
use Rattle.bundle_rules.specs.Bundle.{Cause, Own, ImportsNames, ImportsWhole, ImportsNothing, Helps, Defines, Loads, HoldsMeta, HoldsNamespace, Stars, Exports, Form, AsModule, AsCall, MeansName, AreNames, AreLinked, Hooks, MayHold, AreFaultless, PropertiesMean, IsDue, Pairing}
use Rattle.bundle_merge_theory.specs.noted.Nodes.{AreNodesInTurn}
use Rattle.bundle_merge_theory.specs.noted.Agrees.{IsListing}
use Rattle.bundle_merge_theory.specs.joined.Joined.{joined_items, AllOf}
use Rattle.bundle_merge_theory.specs.joined.Picked.{IsSingle}
use Rattle.bundle_merge_theory.specs.walked.Together.{IsBoundAs}
use Rattle.bundle_merge_theory.specs.walked.Renaming.{ItemMeaning, HasMarks}
pub use Rattle.bundle_merge_theory.specs.noted.Agrees.{denoted_here}

-- What an item is told to mean.

-- these marks stand for the cause, in a bundle of this form; the function of a CommonJS module is
-- more than marks
pub data MarksStandFor (p : Program) (hooks : Hooks) (form : Form) : List Mark → Cause →
    Type 0 where
  own : {m k : ℕ} {marks : List Mark} (statement : List Element) →
      slice_get (own_statements (tree_of p m)) k ≡ Some statement →
      OwnMeaning p m statement marks →
      MarksStandFor p hooks form marks (Own m k)
  imports_names : {s : Text} (names : List Text) →
      AreNames (MeansName p s) names →
      MarksStandFor p hooks form (import_names s names) (ImportsNames s)
  imports_whole : {s : Text} → MarksStandFor p hooks form (import_whole s) (ImportsWhole s)
  imports_nothing : {s : Text} → MarksStandFor p hooks form (import_bare s) (ImportsNothing s)
  helps : MarksStandFor p hooks form helper_function Helps
  loads : {m c : ℕ} (whole : Bool) (names : List Text) →
      AreNames (λ x. IsMeant p (Of (CommonJs m c (Named x)))) names →
      (IsTrue whole ↔ IsMeant p (Of (CommonJs m c AllOfIt))) →
      MarksStandFor p hooks form (load_statement m c whole names) (Loads m c)
  holds_meta : {m : ℕ} (properties : List Item) (marks : List Mark) →
      MayHold p hooks m properties →
      AreFaultless p properties →
      PropertiesMean properties marks →
      MarksStandFor p hooks form (meta_object m marks) (HoldsMeta m)
  holds_namespace : {d : ℕ} (pairs : List NamedTarget) →
      AreLinked p d pairs →
      MarksStandFor p hooks form (namespace_object d pairs) (HoldsNamespace d)
  stars : {s : Text} → MarksStandFor p hooks form (export_star s) (Stars s)
  exports : (pairs : List NamedTarget) →
      form ≡ AsModule →
      AreLinked p p.entry pairs →
      MarksStandFor p hooks form (export_list pairs) Exports
  returns : (pairs : List NamedTarget) →
      form ≡ AsCall →
      AreLinked p p.entry pairs →
      MarksStandFor p hooks form (return_object pairs) Exports

-- what is told of an item: what its names mean in turn, and its marks; or, where it is the function
-- of a CommonJS module, its parts: what stands in front of the statements, with what its names
-- stand for, and the statements, each with what is told of it
pub data NotedItem : Type 0 where
  AsWhole : ItemMeaning → NotedItem
  AsFunction : (front : List Item) (names : List Label) (insides : List (List Item))
      (tolds : List ItemMeaning) →
      NotedItem

-- whether these elements have no node in which names are spelled out
abbrev pub are_plain : List Item → Bool
are_plain [] = true
are_plain (h.Open field head ∷ rest) =
    not (is_shorthand_in_pattern head) && (not (is_object head) && are_plain rest)
are_plain (x ∷ rest) = are_plain rest

-- the marks of such elements, where their names stand for these labels in turn
abbrev pub plain_marks : List Item → List Label → List Mark
plain_marks [] names = []
plain_marks (h.Open field head ∷ rest) names =
    k.Begins field (cleared_head head) ∷ plain_marks rest names
plain_marks (h.Ident field x ctxt IsWord ∷ rest) names = k.Word field x ∷ plain_marks rest names
plain_marks (h.Ident field x ctxt role ∷ rest) [] = []
plain_marks (h.Ident field x ctxt role ∷ rest) (l ∷ names) =
    k.Name field (Known l) ∷ plain_marks rest names
plain_marks (h.Hole field ∷ rest) names = k.Empty field ∷ plain_marks rest names
plain_marks (h.Close ∷ rest) names = k.Ends ∷ plain_marks rest names

-- in these elements nothing is spelled out, and they have these marks, one each
pub record HasPlainMarks (items : List Item) (names : List Label) (marks : List Mark) : Type 0 where
  pub plain : are_plain items ≡ true
  pub its : plain_marks items names ≡ marks
  pub long : length items ≡ length marks

-- the statements of a CommonJS module, each with what is told of it
pub record StateAll (p : Program) (c : ℕ) (insides : List (List Item))
    (tolds : List ItemMeaning) : Type
    0 where
  pub single : AllOf IsSingle insides
  pub marked : AllZip HasMarks insides tolds
  pub means : AllZip (λ (told : ItemMeaning) statement. OwnMeaning p c statement told.1) tolds
      (own_statements (tree_of p c))

-- an item is made of the parts that are told of it, and something behind them
abbrev pub IsMadeOfNoted : List Item → NotedItem → Type 0
IsMadeOfNoted item (AsWhole told) = ⊤
IsMadeOfNoted item (AsFunction front names insides tolds) =
    (back : List Item) × (item ≡ front ++ (flat insides ++ back))

-- the ends that stand behind the statements of a CommonJS module
abbrev pub function_ends : List Item
function_ends = h.Close ∷ h.Close ∷ h.Close ∷ h.Close ∷ h.Close ∷ h.Close ∷ h.Close ∷ []

-- an item has the marks that it is told to have, and these stand for its cause
pub data IsNotedFor (p : Program) (hooks : Hooks) (form : Form) : List Item → NotedItem → Cause →
    Type 0 where
  as_whole : {item : List Item} {told : ItemMeaning} {cause : Cause} →
      HasMarks item told →
      MarksStandFor p hooks form told.1 cause →
      IsNotedFor p hooks form item (AsWhole told) cause
  as_function : {c : ℕ} {item front : List Item} {names : List Label} {insides : List (List Item)}
      {tolds : List ItemMeaning} →
      AreNodesInTurn item →
      item ≡ front ++ (flat insides ++ function_ends) →
      HasPlainMarks front names (load_front c) →
      StateAll p c insides tolds →
      IsNotedFor p hooks form item (AsFunction front names insides tolds) (Defines c)

-- each item is noted for its cause
abbrev pub AreNotedFor : Program → Hooks → Form → List (List Item) → List NotedItem → List Cause →
    Type 0
AreNotedFor p hooks form [] [] [] = ⊤
AreNotedFor p hooks form (item ∷ items) (noted ∷ all) (cause ∷ causes) =
    IsNotedFor p hooks form item noted cause × AreNotedFor p hooks form items all causes
AreNotedFor p hooks form _ _ _ = ⊥

-- What names denote.

-- what denotes this means that, where these are the bindings inside a statement that begins at this
-- place
abbrev pub AgreesWith : Labelling → (inner : List Denoted) → (begins : ℕ) → Denoted → Meant → Type 0
AgreesWith labels inner begins d (Inside n) = position (same_denoted d) inner ≡ Some n
AgreesWith labels inner begins d (Known l) = (is_inside begins d ≡ false) × IsBoundAs labels l d
AgreesWith labels inner begins d (Unbound x) = d ≡ Global x

-- the same of all that the names of such a statement denote, in turn
abbrev pub MeantInTurn : Labelling → (begins : ℕ) → List Denoted → List Meant → Type 0
MeantInTurn labels begins ds meants =
    AllZip (AgreesWith labels (each_denoted_once (filter (is_inside begins) ds)) begins) ds meants

-- what the names in these elements at a spot denote, in turn
abbrev pub denoted_from : View → Spot → List Item → List Denoted
denoted_from view s items = map (denoted_here view) (occurrences_from s items)

-- statements one after another, from a spot on, agree each with what is told of it
abbrev pub StatementsAgree : View → Labelling → Spot → List (List Item) → List ItemMeaning → Type 0
StatementsAgree view labels s [] [] = ⊤
StatementsAgree view labels s (item ∷ items) (told ∷ tolds) =
    MeantInTurn labels s.place (denoted_from view s item) told.0 × StatementsAgree view labels
    (fold past s item) items tolds
StatementsAgree view labels s _ _ = ⊥

-- a name denotes a binding that stands for the label
abbrev pub StandsForLabel : Labelling → Denoted → Label → Type 0
StandsForLabel labels d l = IsBoundAs labels l d

-- an item at a spot agrees with what is told of it
abbrev pub ItemAgrees : View → Labelling → Spot → List Item → NotedItem → Type 0
ItemAgrees view labels s item (AsWhole told) =
    MeantInTurn labels s.place (denoted_from view s item) told.0
ItemAgrees view labels s item (AsFunction front names insides tolds) =
    AllZip (StandsForLabel labels) (denoted_from view s front) names × StatementsAgree view labels
    (fold past s front) insides tolds

-- items one after another, from a spot on
abbrev pub ItemsAgree : View → Labelling → Spot → List (List Item) → List NotedItem → Type 0
ItemsAgree view labels s [] [] = ⊤
ItemsAgree view labels s (item ∷ items) (noted ∷ all) =
    ItemAgrees view labels s item noted × ItemsAgree view labels (fold past s item) items all
ItemsAgree view labels s _ _ = ⊥

-- the spot behind the beginning of a module
abbrev pub first_spot : Spot
first_spot = past start (h.Open 0 h.Module)

-- a bundle of these items, read so
abbrev pub view_of : Reading → List (List Item) → View
view_of reading items = record { tree = joined_items items; kind = Es; reading = reading }

-- in the bundle of these items, read so, each name denotes what is told of it
abbrev pub BundleAgrees : Reading → Labelling → List (List Item) → List NotedItem → Type 0
BundleAgrees reading labels items all =
    ItemsAgree (view_of reading items) labels first_spot items all

-- The bundle.

-- the items of a bundle: each is one node and is noted for its cause, and the causes are those that
-- are due, each once
pub record IsNotedBundle (p : Program) (hooks : Hooks) (items : List (List Item))
    (noted : List NotedItem) (plan : List Cause) : Type 0 where
  pub single : AllOf IsSingle items
  pub listing : IsListing (joined_items items)
  pub each : AreNotedFor p hooks AsModule items noted plan
  pub due : (cause : Cause) → Contains plan cause ↔ IsDue p AsModule cause
  pub once : (i j : ℕ) (cause : Cause) →
      slice_get plan i ≡ Some cause →
      slice_get plan j ≡ Some cause →
      i ≡ j

-- the pairing of such a bundle
abbrev pub pairing_of : Labelling → List (List Item) → List Cause → Pairing
pairing_of labels items plan = record {
  labels = labels;
  top = Top;
  body = top_items (joined_items items);
  plan = plan;
}
