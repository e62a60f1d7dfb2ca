-- Naming keeps bundles: where names are given by the naming rule, what is told of the items of a
-- bundle stays.
-- The merged modules are a bundle by symbol and context: all that is known of them, and that it
-- serves naming.
use Rattle.std.proofs.Common.{◌≡◌, ◌⊎◌, inl, inr, ℕ, List, [], ◌∷◌, ◌++◌, append-nil, length, map, ap, ap₂, sym, ◌∙◌, subst, arith, refl}
use Rattle.std.proofs.lemmas.List.{length-map}
use Rattle.std.proofs.Math.Path.{subst_refl}
use Rattle.std.specs.Prelude.{Contains, bytes_eq}
use Rattle.std.specs.List.{AllZip}
use Rattle.std.proofs.lemmas.Slice.Eq.{bytes_eq-Decides}
use Rattle.std.proofs.lemmas.Option.{slice_get_within, get_or_from_slice_get}
use Rattle.bundle_syntax.specs.declared.kind.ExportMetadata.{ExportMetadata}
use Rattle.bundle_syntax.specs.declared.kind.VarDeclKind.TheVariants.{Var}
use Rattle.bundle_syntax.specs.Item as h
use Rattle.bundle_syntax.specs.Item.{Item, Head}
use Rattle.bundle_rules.specs.Places.{occurrences}
use Rattle.bundle_rules.specs.Scopes.{Es}
use Rattle.bundle_rules.specs.Declarations.{Reading, BySymbol, ByContext}
use Rattle.bundle_rules.specs.Denotes.{Denoted, denotations, IsResolved}
use Rattle.bundle_rules.specs.Cleared.{cleared, without_notes}
use Rattle.bundle_rules.specs.Idents.{Ident, ident_of, idents}
use Rattle.bundle_rules.specs.Rebuilds.{Change, changes_to, with_idents}
use Rattle.bundle_rules.specs.Renamed.{HasNamesOnly, IsRebuilt, IsNamed}
use Rattle.bundle_rules.specs.Sorting.{flat}
use Rattle.bundle_rules.specs.Statements.{no_notes}
use Rattle.bundle_rules.specs.Meaning.{Label, Labelling, IsOneToOne}
use Rattle.bundle_rules.specs.Program.{Program}
use Rattle.bundle_rules.specs.Bundle.{Cause, Form, AsModule, Hooks, IsPaired}
use Rattle.bundle_tree_places.specs.Edits.{Anywhere, Edits, node}
use Rattle.bundle_scope_names.proofs.naming_rule.Rebuilt.{ArePlain}
use Rattle.bundle_merge_theory.specs.noted.Nodes
use Rattle.bundle_merge_theory.specs.noted.Nodes.{AreNodesInTurn}
use Rattle.bundle_merge_theory.specs.noted.Agrees.{IsListing}
use Rattle.bundle_merge_theory.proofs.noted.Shapes.{join, one_node, marked_nodes}
use Rattle.bundle_merge_theory.specs.joined.Joined.{joined_items, AllOf, IsWholeItem}
use Rattle.bundle_merge_theory.specs.joined.Picked.{IsSingle}
use Rattle.bundle_merge_theory.proofs.joined.Bindings.{Contains-cons, Contains-none}
use Rattle.bundle_merge_theory.specs.walked.Names.{idents_among}
use Rattle.bundle_merge_theory.specs.walked.Renaming.{KeepsText, ItemMeaning, HasMarks}
use Rattle.bundle_merge_theory.proofs.walked.NameLemmas.{names_of-append, idents-names}
use Rattle.bundle_merge_theory.proofs.walked.Renewing.{not_false}
use Rattle.bundle_merge_theory.specs.joined.Notes.{AreItemsApart}
use Rattle.bundle_merge_theory.proofs.joined.Declarations.{IsNamed as IsNamed_whole}
use Rattle.bundle_merge_theory.proofs.joined.Notes.{resolved}
use Rattle.bundle_merge_theory.specs.composed.Noted.{NotedItem, AsFunction, function_ends, IsNotedFor, as_whole, as_function, AreNotedFor, BundleAgrees, IsNotedBundle, pairing_of, IsMadeOfNoted}
use Rattle.bundle_merge_theory.specs.composed.Becoming.{Becoming, AllOccur, labels_of}
use Rattle.bundle_merge_theory.specs.composed.Turned.{PartTurned, ItemTurned, whole_turned, function_turned, ItemsTurned}
use Rattle.bundle_merge_theory.specs.composed.Functions.{load_function_front, function_declarator, load_function_items, IsOfForm, whole_form, function_form}
use Rattle.bundle_merge_theory.proofs.composed.Unique.{flat_nodes, is_paired}
use Rattle.bundle_merge_theory.proofs.composed.Among.{zip-length, names-append, flat-names, contains-map, bundle_turns}
use Rattle.bundle_merge_theory.proofs.composed.Becomings.{becoming_named, merged_agrees}
use Rattle.bundle_merge_theory.proofs.composed.Counting.{told-names, nodes_in, item-node, nodes-many, same-count, one-single, nodes-whole, ModuleRemade, module_unnoted, nodes-blank, blanks-append, nodes_in-blank}
use Rattle.bundle_merge_theory.proofs.composed.Fronts.{blanks, skeleton, front-blank, fronts-turned, function-parts, same-names, same-marks, label-from, labels-one}
use Rattle.bundle_merge_theory.proofs.composed.Remade.{Remade, remade_whole, remade_function, NoLone, AllOfForm, AllRemade, renewed}
pub use Rattle.bundle_merge_theory.specs.composed.Single.{OneNode}
use Rattle.bundle_merge_theory.specs.composed.Names.{LabelTable, IsLabelTable, denoted_in_tree, labels_in, ItemNoted}

-- ---- naming

-- Functions.

pub declarator-nodes : (load helper own its : Ident) (body : List Item) → AreNodesInTurn body →
    AreNodesInTurn (function_declarator load helper own its body)
declarator-nodes load helper own its body are =
    one_node _ _ (join (one_node _ _ (Nodes.name Nodes.nothing))
    (one_node _ _ (Nodes.name (one_node _ _ (one_node _ _ (one_node _ _
    (join (one_node _ _ (one_node _ _ (Nodes.name Nodes.nothing))) (join (one_node _ _ (one_node _ _ (Nodes.name Nodes.nothing))) (one_node _ _ are)))))))))

pub function-nodes : (meta : ExportMetadata) (load helper own its : Ident) (body : List Item) →
    AreNodesInTurn body → AreNodesInTurn (load_function_items meta load helper own its body)
function-nodes meta load helper own its body are =
    one_node 0 (h.VarDecl Var meta) (declarator-nodes load helper own its body are)

pub node-count : (field : ℕ) (head : Head) (inside : List Item) → AreNodesInTurn inside →
    nodes_in 0 (node field head inside) ≡ 1
node-count field head inside are =
    ap (nodes_in 0) (sym (append-nil (node field head inside)))
    ∙ (let all = (item-node field head inside (nodes-many are).1).here [] in all)

pub function-count : (meta : ExportMetadata) (load helper own its : Ident) (body : List Item) →
    AreNodesInTurn body → nodes_in 0 (load_function_items meta load helper own its body) ≡ 1
function-count meta load helper own its body are =
    node-count 0 (h.VarDecl Var meta) (function_declarator load helper own its body)
    (declarator-nodes load helper own its body are)

-- what is a function but for its names
pub record IsFunction (item : List Item) : Type 0 where
  pub nodes : AreNodesInTurn item
  pub one : nodes_in 0 item ≡ 1

pub like-function : (item front : List Item) (insides : List (List Item)) (tolds : List ItemMeaning) →
    item ≡ front ++ (flat insides ++ function_ends) → blanks front ≡ skeleton →
    AllZip HasMarks insides tolds → IsFunction item
like-function item front insides tolds is blank marked =
    let none : Ident = ([], 0) in
    let body : List Item = flat insides in
    let model : List Item = load_function_items no_notes none none none none body in
    let are : AreNodesInTurn model =
    function-nodes no_notes none none none none body (flat_nodes insides tolds marked) in
    let model_is : blanks model ≡ skeleton ++ (blanks body ++ function_ends) =
    ap blanks (function-parts no_notes none none none none body)
    ∙ blanks-append (load_function_front no_notes none none none none) (body ++ function_ends)
    ∙ ap (λ l. skeleton ++ l) (blanks-append body function_ends) in
    let item_is : blanks item ≡ skeleton ++ (blanks body ++ function_ends) =
    ap blanks is
    ∙ blanks-append front (body ++ function_ends)
    ∙ ap₂ (λ l m. l ++ m) blank (blanks-append body function_ends) in
    let same : blanks model ≡ blanks item = model_is ∙ sym item_is in
    record {
      nodes = nodes-blank are item same;
      one =
          sym (nodes_in-blank 0 item)
          ∙ ap (nodes_in 0) (sym same)
          ∙ nodes_in-blank 0 model
          ∙ function-count no_notes none none none none body (flat_nodes insides tolds marked);
    }

-- Items.

pub part-turned : (part renamed : List Item) (told : ItemMeaning) → HasMarks part told →
    HasMarks renamed told → PartTurned part renamed
part-turned part renamed told one two = record {
  nodes = marked_nodes one;
  its_nodes = marked_nodes two;
  names = told-names part told one ∙ sym (told-names renamed told two);
}

pub parts-turned : (parts others : List (List Item)) (tolds : List ItemMeaning) →
    AllZip HasMarks parts tolds → AllZip HasMarks others tolds → AllZip PartTurned parts others
parts-turned [] [] [] one two = tt
parts-turned [] [] (told ∷ tolds) one two = absurd one
parts-turned [] (other ∷ others) [] one two = absurd two
parts-turned [] (other ∷ others) (told ∷ tolds) one two = absurd one
parts-turned (part ∷ parts) others [] one two = absurd one
parts-turned (part ∷ parts) [] (told ∷ tolds) one two = absurd two
parts-turned (part ∷ parts) (other ∷ others) (told ∷ tolds) one two =
    (part-turned part other told one.0 two.0, parts-turned parts others tolds one.1 two.1)

pub function-turned : (item renamed front its_front : List Item) (names : List Label)
    (insides its : List (List Item)) (tolds : List ItemMeaning) →
    item ≡ front ++ (flat insides ++ function_ends) →
    renamed ≡ its_front ++ (flat its ++ function_ends) → blanks front ≡ skeleton →
    blanks its_front ≡ skeleton → AllZip HasMarks insides tolds → AllZip HasMarks its tolds →
    ItemTurned item (AsFunction front names insides tolds) renamed
    (AsFunction its_front names its tolds)
function-turned item renamed front its_front names insides its tolds is its_is blank its_blank
    marked its_marked =
    let parts = parts-turned insides its tolds marked its_marked in
    let a = ap (λ l. length (idents_among l)) is ∙ names-append front (flat insides ++ function_ends) in
    let b = names-append (flat insides) function_ends in
    let c =
    ap (λ l. length (idents_among l)) its_is ∙ names-append its_front (flat its ++ function_ends) in
    let d = names-append (flat its) function_ends in
    let e = same-names front its_front (blank ∙ sym its_blank) in
    let f = flat-names insides its parts in
    function_turned function_ends function_ends
    (record {
      nodes = (like-function item front insides tolds is blank marked).nodes;
      its_nodes = (like-function renamed its_front its tolds its_is its_blank its_marked).nodes;
      names = omega (arith, a, b, c, d, e, f);
    })
    is its_is (fronts-turned front its_front blank its_blank) parts

pub item-turned : {item renamed : List Item} {one other : NotedItem} → IsOfForm item one →
    Remade one renamed other → ItemTurned item one renamed other
item-turned {item = item} {renamed = renamed} (whole_form {told = told} marked) (remade_whole its) =
    whole_turned (part-turned item renamed told marked its)
item-turned {item = item} {renamed = renamed}
    (function_form {insides = insides} {tolds = tolds} meta load helper own exports marked)
    (remade_function {front = front} {names = names} {insides = its} is blank its_marked) =
    function-turned item renamed (load_function_front meta load helper own exports) front names insides
    its tolds (function-parts meta load helper own exports (flat insides)) is
    (front-blank meta load helper own exports) blank marked its_marked

pub ones-again : (parts others : List (List Item)) (tolds : List ItemMeaning) →
    AllZip HasMarks parts tolds → AllZip HasMarks others tolds →
    AllOf (λ part. nodes_in 0 part ≡ 1) parts → AllOf (λ part. nodes_in 0 part ≡ 1) others
ones-again [] [] [] one two all = tt
ones-again [] [] (told ∷ tolds) one two all = absurd one
ones-again [] (other ∷ others) [] one two all = absurd two
ones-again [] (other ∷ others) (told ∷ tolds) one two all = absurd one
ones-again (part ∷ parts) others [] one two all = absurd one
ones-again (part ∷ parts) [] (told ∷ tolds) one two all = absurd two
ones-again (part ∷ parts) (other ∷ others) (told ∷ tolds) one two all = (
  sym (same-count part other told one.0 two.0) ∙ all.0,
  ones-again parts others tolds one.1 two.1 all.1,
)

pub singles : (parts : List (List Item)) (tolds : List ItemMeaning) → AllZip HasMarks parts tolds →
    AllOf (λ part. nodes_in 0 part ≡ 1) parts → AllOf IsSingle parts
singles [] [] marked all = tt
singles [] (told ∷ tolds) marked all = absurd marked
singles (part ∷ parts) [] marked all = absurd marked
singles (part ∷ parts) (told ∷ tolds) marked all =
    (one-single (marked_nodes marked.0) all.0, singles parts tolds marked.1 all.1)

-- an item stays one node
pub one-again : {item renamed : List Item} {one other : NotedItem} → IsOfForm item one →
    Remade one renamed other → OneNode item one → OneNode renamed other
one-again {item = item} {renamed = renamed} (whole_form {told = told} marked) (remade_whole its) count = sym (same-count item renamed told marked its) ∙ count
one-again (function_form {insides = insides} {tolds = tolds} meta load helper own exports marked) (remade_function {insides = its} is blank its_marked) count = ones-again insides its tolds marked its_marked count

pub single-again : {item renamed : List Item} {one other : NotedItem} → IsOfForm item one →
    Remade one renamed other → OneNode item one → IsSingle renamed
single-again {item = item} {renamed = renamed} (whole_form {told = told} marked) (remade_whole its) count = one-single (marked_nodes its) (sym (same-count item renamed told marked its) ∙ count)
single-again {renamed = renamed} (function_form {tolds = tolds} meta load helper own exports marked)
    (remade_function {front = front} {insides = its} is blank its_marked) count =
    let like = like-function renamed front its tolds is blank its_marked in
    one-single like.nodes like.one

-- it stands for its cause
pub form-blank : {item front : List Item} {names : List Label} {insides : List (List Item)}
    {tolds : List ItemMeaning} → IsOfForm item (AsFunction front names insides tolds) →
    blanks front ≡ skeleton
form-blank (function_form meta load helper own exports marked) =
    front-blank meta load helper own exports

pub noted-again : (p : Program) (hooks : Hooks) (form : Form) {item renamed : List Item}
    {one other : NotedItem} {cause : Cause} → IsNotedFor p hooks form item one cause →
    IsOfForm item one → Remade one renamed other → OneNode item one →
    IsNotedFor p hooks form renamed other cause
noted-again p hooks form (as_whole marked stand) its (remade_whole again) count =
    as_whole again stand
noted-again p hooks form {renamed = renamed}
    (as_function {c = c} {front = front} {names = names} {insides = insides} {tolds = tolds} are is
    plain states) its
    (remade_function {front = its_front} {insides = others} its_is blank again) count =
    as_function (like-function renamed its_front others tolds its_is blank again).nodes its_is
    (same-marks front its_front names _ (form-blank its ∙ sym blank) plain)
    (record {
      single =
          singles others tolds again (ones-again insides others tolds states.marked again count);
      marked = again;
      means = states.means;
    })

-- All items.

pub all-turned : (items : List (List Item)) (noted : List NotedItem) (renamed : List (List Item))
    (others : List NotedItem) → AllOfForm items noted → AllRemade noted renamed others →
    ItemsTurned items noted renamed others
all-turned [] [] [] [] forms remade = tt
all-turned [] [] [] (other ∷ others) forms remade = absurd remade
all-turned [] [] (item ∷ renamed) others forms remade = absurd remade
all-turned [] (one ∷ noted) renamed others forms remade = absurd forms
all-turned (item ∷ items) [] renamed others forms remade = absurd forms
all-turned (item ∷ items) (one ∷ noted) [] others forms remade = absurd remade
all-turned (item ∷ items) (one ∷ noted) (made ∷ renamed) [] forms remade = absurd remade
all-turned (item ∷ items) (one ∷ noted) (made ∷ renamed) (other ∷ others) forms remade =
    (item-turned forms.0 remade.0, all-turned items noted renamed others forms.1 remade.1)

pub all-single : (items : List (List Item)) (noted : List NotedItem) (renamed : List (List Item))
    (others : List NotedItem) → AllOfForm items noted → AllRemade noted renamed others →
    AllZip OneNode items noted → AllOf IsSingle renamed
all-single [] [] [] [] forms remade count = tt
all-single [] [] [] (other ∷ others) forms remade count = absurd remade
all-single [] [] (item ∷ renamed) others forms remade count = absurd remade
all-single [] (one ∷ noted) renamed others forms remade count = absurd forms
all-single (item ∷ items) [] renamed others forms remade count = absurd forms
all-single (item ∷ items) (one ∷ noted) [] others forms remade count = absurd remade
all-single (item ∷ items) (one ∷ noted) (made ∷ renamed) [] forms remade count = absurd remade
all-single (item ∷ items) (one ∷ noted) (made ∷ renamed) (other ∷ others) forms remade count = (
  single-again forms.0 remade.0 count.0,
  all-single items noted renamed others forms.1 remade.1 count.1,
)

pub all-one : (items : List (List Item)) (noted : List NotedItem) (renamed : List (List Item))
    (others : List NotedItem) → AllOfForm items noted → AllRemade noted renamed others →
    AllZip OneNode items noted → AllZip OneNode renamed others
all-one [] [] [] [] forms remade count = tt
all-one [] [] [] (other ∷ others) forms remade count = absurd remade
all-one [] [] (item ∷ renamed) others forms remade count = absurd remade
all-one [] (one ∷ noted) renamed others forms remade count = absurd forms
all-one (item ∷ items) [] renamed others forms remade count = absurd forms
all-one (item ∷ items) (one ∷ noted) [] others forms remade count = absurd remade
all-one (item ∷ items) (one ∷ noted) (made ∷ renamed) [] forms remade count = absurd remade
all-one (item ∷ items) (one ∷ noted) (made ∷ renamed) (other ∷ others) forms remade count = (
  one-again forms.0 remade.0 count.0,
  all-one items noted renamed others forms.1 remade.1 count.1,
)

pub all-noted : (p : Program) (hooks : Hooks) (form : Form) (items : List (List Item))
    (noted : List NotedItem) (causes : List Cause) (renamed : List (List Item))
    (others : List NotedItem) → AreNotedFor p hooks form items noted causes →
    AllOfForm items noted → AllRemade noted renamed others → AllZip OneNode items noted →
    AreNotedFor p hooks form renamed others causes
all-noted p hooks form [] [] [] [] [] each forms remade count = tt
all-noted p hooks form [] [] (cause ∷ causes) renamed others each forms remade count = absurd each
all-noted p hooks form [] [] [] [] (other ∷ others) each forms remade count = absurd remade
all-noted p hooks form [] [] [] (item ∷ renamed) others each forms remade count = absurd remade
all-noted p hooks form [] (one ∷ noted) causes renamed others each forms remade count = absurd forms
all-noted p hooks form (item ∷ items) [] causes renamed others each forms remade count =
    absurd forms
all-noted p hooks form (item ∷ items) (one ∷ noted) [] renamed others each forms remade count =
    absurd each
all-noted p hooks form (item ∷ items) (one ∷ noted) (cause ∷ causes) [] others each forms remade count = absurd remade
all-noted p hooks form (item ∷ items) (one ∷ noted) (cause ∷ causes) (made ∷ renamed) [] each forms remade count = absurd remade
all-noted p hooks form (item ∷ items) (one ∷ noted) (cause ∷ causes) (made ∷ renamed) (other ∷ others) each forms remade count = (noted-again p hooks form each.0 forms.0 remade.0 count.0, all-noted p hooks form items noted causes renamed others each.1 forms.1 remade.1 count.1)

-- Labels.

module _ (reading other : Reading) (before after : List Item)
    (b : Becoming reading before other after) where
  -- what is labelled afterwards
  pub record WasLabelled (labels : Labelling) (d : Denoted) (l : Label) : Type 0 where
    pub old : Denoted
    pub labelled : Contains labels (old, l)
    pub is : d ≡ b.becomes old

  pub was-labelled : (labels : Labelling) (d : Denoted) (l : Label) →
      Contains (labels_of b.becomes labels) (d, l) → WasLabelled labels d l
  was-labelled [] d l c = absurd (Contains-none (d, l) c)
  was-labelled (pair ∷ labels) d l c =
      by_case (was-labelled labels d l)
      ((Contains-cons (b.becomes pair.0, pair.1) (labels_of b.becomes labels) (d, l)).0 c)
    where
      by_case : (Contains (labels_of b.becomes labels) (d, l) → WasLabelled labels d l) →
          (◌≡◌ {A = Denoted × Label} (b.becomes pair.0, pair.1) (d, l)) ⊎ Contains
          (labels_of b.becomes labels) (d, l) → WasLabelled (pair ∷ labels) d l
      by_case ih (inl e) = record {
        old = pair.0;
        labelled = (Contains-cons pair labels (pair.0, l)).1 (inl (λ i. (pair.0, (e i).1)));
        is = sym (ap (λ (x : Denoted × Label). x.0) e);
      }
      by_case ih (inr more) =
          let it = ih more in
          record {
            old = it.old;
            labelled = (Contains-cons pair labels (it.old, l)).1 (inr it.labelled);
            is = it.is;
          }

  -- labels stay one to one
  pub labels-stay : (labels : Labelling) → AllOccur reading before labels → IsOneToOne labels →
      IsOneToOne (labels_of b.becomes labels)
  labels-stay labels occur one = record {
    one_label = λ d l k at there.
        let x = was-labelled labels d l at in
        let y = was-labelled labels d k there in
        let same =
        b.one y.old x.old (occur y.old k y.labelled) (occur x.old l x.labelled)
        (sym y.is ∙ x.is) in
        one.one_label x.old l k x.labelled (subst (λ o. Contains labels (o, k)) same y.labelled);
    one_binding = λ d e l at there.
        let x = was-labelled labels d l at in
        let y = was-labelled labels e l there in
        x.is ∙ ap b.becomes (one.one_binding x.old y.old l x.labelled y.labelled) ∙ sym y.is;
  }

  -- and each is denoted somewhere
  pub occur-again : (labels : Labelling) → AllOccur reading before labels →
      AllOccur other after (labels_of b.becomes labels)
  occur-again labels occur d l c =
      let was = was-labelled labels d l c in
      subst (λ ds. Contains ds d) (sym b.are)
      (subst (Contains (map b.becomes (denotations reading Es before))) (sym was.is)
      (contains-map b.becomes (denotations reading Es before) was.old
      (occur was.old l was.labelled)))

-- Names.

pub changes-keep : (olds news : List Ident) → length news ≡ length olds →
    AllZip KeepsText (changes_to olds news) olds
changes-keep [] [] same = tt
changes-keep [] (new ∷ news) same = tt
changes-keep (old ∷ olds) [] same = absurd (omega (arith, same))
changes-keep (old ∷ olds) (new ∷ news) same = (
  (λ is. sym ((bytes_eq-Decides old.0 new.0).0 (not_false (bytes_eq old.0 new.0) is))),
  changes-keep olds news (omega (arith, same)),
)

pub module-names : (items : List (List Item)) → idents (joined_items items) ≡ idents_among (flat items)
module-names items =
    idents-names (joined_items items)
    ∙ names_of-append (flat items) (h.Close ∷ [])
    ∙ append-nil (idents_among (flat items))

-- a tree that is the one before with other identifiers, but for notes and contexts, is of items of
-- which the same is told
pub items-renamed : (items : List (List Item)) (noted : List NotedItem) (after : List Item) →
    AllOfForm items noted → AllZip NoLone items noted →
    length (idents after) ≡ length (idents (joined_items items)) →
    without_notes after ≡ cleared (with_idents (joined_items items) (idents after)) →
    ModuleRemade noted after
items-renamed items noted after forms lone same is =
    let changes : List Change = changes_to (idents (joined_items items)) (idents after) in
    let all =
    renewed items noted changes forms lone
    (subst (AllZip KeepsText changes) (module-names items)
    (changes-keep (idents (joined_items items)) (idents after) same)) in
    module_unnoted noted all.made all.others all.remade after (is ∙ ap cleared all.is)

-- how the items are changed
pub record AreEdited (items : List (List Item)) (after : List Item) : Type 0 where
  pub made : List Item
  pub edits : Edits Anywhere (changes_to (idents (joined_items items)) (idents after)) (flat items) made
      []

pub items-edited : (items : List (List Item)) (noted : List NotedItem) (after : List Item) →
    AllOfForm items noted → AllZip NoLone items noted →
    length (idents after) ≡ length (idents (joined_items items)) → AreEdited items after
items-edited items noted after forms lone same =
    let changes : List Change = changes_to (idents (joined_items items)) (idents after) in
    let all =
    renewed items noted changes forms lone
    (subst (AllZip KeepsText changes) (module-names items)
    (changes-keep (idents (joined_items items)) (idents after) same)) in
    record { made = flat all.made; edits = all.edits }

-- as many identifiers
pub as-many : (reading other : Reading) (before after : List Item) →
    Becoming reading before other after → length (idents after) ≡ length (idents before)
as-many reading other before after b =
    length-map (occurrences after) ident_of
    ∙ sym (zip-length _ (occurrences before) (occurrences after) b.stands)
    ∙ sym (length-map (occurrences before) ident_of)

-- a bundle of items that are noted right, read so
pub record IsStillNoted (p : Program) (hooks : Hooks) (plan : List Cause) (reading : Reading)
    (tree : List Item) : Type 0 where
  pub items : List (List Item)
  pub noted : List NotedItem
  pub labels : Labelling
  pub is : tree ≡ joined_items items
  pub bundle : IsNotedBundle p hooks items noted plan
  pub one : IsOneToOne labels
  pub occur : AllOccur reading (joined_items items) labels
  pub agrees : BundleAgrees reading labels items noted
  pub paired : IsPaired p hooks AsModule reading tree (pairing_of labels items plan)

-- where what is denoted becomes what corresponds, items of which the same is told are a bundle
pub still-noted : (p : Program) (hooks : Hooks) (plan : List Cause) (reading other : Reading)
    (items : List (List Item)) (noted : List NotedItem) (labels : Labelling) (after : List Item) →
    IsNotedBundle p hooks items noted plan → AllOfForm items noted → AllZip OneNode items noted →
    IsOneToOne labels → AllOccur reading (joined_items items) labels →
    BundleAgrees reading labels items noted → Becoming reading (joined_items items) other after →
    ModuleRemade noted after → IsListing after → IsStillNoted p hooks plan other after
still-noted p hooks plan reading other items noted labels after its forms count one occur agrees
    becoming again listing =
    let b : Becoming reading (joined_items items) other (joined_items again.items) =
    subst (Becoming reading (joined_items items) other) again.is becoming in
    let bundle : IsNotedBundle p hooks again.items again.others plan = record {
      single = all-single items noted again.items again.others forms again.remade count;
      listing = subst IsListing again.is listing;
      each =
          all-noted p hooks AsModule items noted plan again.items again.others its.each forms
          again.remade count;
      due = its.due;
      once = its.once;
    } in
    let labels_stay =
    labels-stay reading other (joined_items items) (joined_items again.items) b labels occur one in
    let agree : BundleAgrees other (labels_of b.becomes labels) again.items again.others =
    bundle_turns reading other items again.items b labels noted again.others
    (all-turned items noted again.items again.others forms again.remade) agrees in
    record {
      items = again.items;
      noted = again.others;
      labels = labels_of b.becomes labels;
      is = again.is;
      bundle = bundle;
      one = labels_stay;
      occur = occur-again reading other (joined_items items) (joined_items again.items) b labels occur;
      agrees = agree;
      paired =
          subst
          (λ tree. IsPaired p hooks AsModule other tree
          (pairing_of (labels_of b.becomes labels) again.items plan)) (sym again.is)
          (is_paired p hooks other (labels_of b.becomes labels) again.items again.others plan
          bundle labels_stay agree);
    }

-- its items, what is told of them, and its labels are those that became of the old ones
module _ (p : Program) (hooks : Hooks) (plan : List Cause) (reading other : Reading) (items : List (List Item)) (noted : List NotedItem) (labels : Labelling) (made : List (List Item)) (others : List NotedItem)
    (bundle : IsNotedBundle p hooks items noted plan) (forms : AllOfForm items noted) (count : AllZip OneNode items noted) (one : IsOneToOne labels)
    (occur : AllOccur reading (joined_items items) labels) (agrees : BundleAgrees reading labels items noted)
    (b : Becoming reading (joined_items items) other (joined_items made)) (remade : AllRemade noted made others) (listing : IsListing (joined_items made)) where
  abbrev pub still : IsStillNoted p hooks plan other (joined_items made)
  still = still-noted p hooks plan reading other items noted labels (joined_items made) bundle forms count one occur agrees b (record { items = made; others = others; is = refl; remade = remade }) listing

  pub still-labels : still.labels ≡ labels_of b.becomes labels
  unfolding still-noted
  still-labels = ap (λ (c : Becoming reading (joined_items items) other (joined_items made)). labels_of c.becomes labels) (subst_refl (Becoming reading (joined_items items) other) b)

  pub still-items : still.items ≡ made
  unfolding still-noted
  still-items = refl

  pub still-told : still.noted ≡ others
  unfolding still-noted
  still-told = refl

-- a bundle by symbol and context, named by the naming rule, is a bundle by symbol
pub named-bundle : (p : Program) (hooks : Hooks) (plan : List Cause) (items : List (List Item))
    (noted : List NotedItem) (labels : Labelling) (named : List Item) →
    IsNotedBundle p hooks items noted plan → AllOfForm items noted → AllZip OneNode items noted →
    AllZip NoLone items noted → IsOneToOne labels → AllOccur ByContext (joined_items items) labels →
    BundleAgrees ByContext labels items noted → IsResolved Es (joined_items items) →
    HasNamesOnly (joined_items items) → ArePlain (joined_items items) → IsNamed (joined_items items) named →
    IsListing named → IsStillNoted p hooks plan BySymbol named
named-bundle p hooks plan items noted labels named its forms count lone one occur agrees resolved
    names plain naming listing =
    let b =
    becoming_named (joined_items items) named resolved names plain naming.renamed naming.keeps.same in
    let lengths : length (idents named) ≡ length (idents (joined_items items)) =
    length-map (occurrences named) ident_of
    ∙ sym (zip-length _ (occurrences (joined_items items)) (occurrences named) b.stands)
    ∙ sym (length-map (occurrences (joined_items items)) ident_of) in
    still-noted p hooks plan ByContext BySymbol items noted labels named its forms count one occur
    agrees b (items-renamed items noted named forms lone lengths naming.keeps.same) listing

-- a bundle that can be renamed: noted right, of such items that what is told of them stays where
-- names change
pub record IsReady (p : Program) (hooks : Hooks) (plan : List Cause) (reading : Reading)
    (tree : List Item) : Type 0 where
  pub still : IsStillNoted p hooks plan reading tree
  pub forms : AllOfForm still.items still.noted
  pub count : AllZip OneNode still.items still.noted
  pub lone : AllZip NoLone still.items still.noted

-- naming keeps bundles
pub naming-keeps : (p : Program) (hooks : Hooks) (plan : List Cause) (merged named : List Item) →
    IsReady p hooks plan ByContext merged → IsResolved Es merged → HasNamesOnly merged →
    ArePlain merged → IsNamed merged named → IsListing named →
    IsStillNoted p hooks plan BySymbol named
naming-keeps p hooks plan merged named ready resolved names plain naming listing =
    let still = ready.still in
    named-bundle p hooks plan still.items still.noted still.labels named still.bundle ready.forms
    ready.count ready.lone still.one still.occur still.agrees
    (subst (IsResolved Es) still.is resolved) (subst HasNamesOnly still.is names)
    (subst ArePlain still.is plain) (subst (λ tree. IsNamed tree named) still.is naming) listing

-- what a tree with other identifiers is made of
pub record RebuiltMade (noted : List NotedItem) (after : List Item) : Type 0 where
  pub again : ModuleRemade noted after
  pub forms : AllOfForm again.items again.others
  pub lone : AllZip NoLone again.items again.others

pub rebuilt-made : (items : List (List Item)) (noted : List NotedItem) (after : List Item) →
    AllOfForm items noted → AllZip NoLone items noted →
    length (idents after) ≡ length (idents (joined_items items)) →
    after ≡ with_idents (joined_items items) (idents after) → RebuiltMade noted after
rebuilt-made items noted after forms lone lengths is =
    let changes : List Change = changes_to (idents (joined_items items)) (idents after) in
    let all =
    renewed items noted changes forms lone
    (subst (AllZip KeepsText changes) (module-names items)
    (changes-keep (idents (joined_items items)) (idents after) lengths)) in
    record {
      again =
          record { items = all.made; others = all.others; is = is ∙ all.is; remade = all.remade };
      forms = all.forms;
      lone = all.lones;
    }

module _ (p : Program) (hooks : Hooks) (plan : List Cause) (reading other : Reading)
    (before after : List Item) (ready : IsReady p hooks plan reading before)
    (b : Becoming reading before other after) (same : IsRebuilt before after)
    (listing : IsListing after) where
  abbrev its : Becoming reading (joined_items ready.still.items) other after
  its = subst (λ tree. Becoming reading tree other after) ready.still.is b

  made_of : RebuiltMade ready.still.noted after
  made_of =
      rebuilt-made ready.still.items ready.still.noted after ready.forms ready.lone
      (as-many reading other (joined_items ready.still.items) after its)
      (same ∙ ap (λ tree. with_idents tree (idents after)) ready.still.is)

  -- a tree that is the one before with other identifiers, and denotes what corresponds, is such a
  -- bundle again
  pub rebuilt-ready : IsReady p hooks plan other after
  unfolding still-noted
  rebuilt-ready = record {
    still =
        still-noted p hooks plan reading other ready.still.items ready.still.noted
        ready.still.labels after ready.still.bundle ready.forms ready.count ready.still.one
        ready.still.occur ready.still.agrees its made_of.again listing;
    forms = made_of.forms;
    count =
        all-one ready.still.items ready.still.noted made_of.again.items made_of.again.others
        ready.forms made_of.again.remade ready.count;
    lone = made_of.lone;
  }

-- ---- whole

-- whole nodes, made of their parts
whole-one : (p : Program) (hooks : Hooks) (form : Form) {item : List Item} {one : NotedItem}
    {cause : Cause} → IsNotedFor p hooks form item one cause → IsWholeItem item
whole-one p hooks form (as_whole marked stand) = nodes-whole (marked_nodes marked)
whole-one p hooks form (as_function nodes is plain states) = nodes-whole nodes

made-one : (p : Program) (hooks : Hooks) (form : Form) {item : List Item} {one : NotedItem}
    {cause : Cause} → IsNotedFor p hooks form item one cause → IsMadeOfNoted item one
made-one p hooks form (as_whole marked stand) = tt
made-one p hooks form (as_function nodes is plain states) = (function_ends, is)

pub all-whole : (p : Program) (hooks : Hooks) (form : Form) (items : List (List Item))
    (noted : List NotedItem) (causes : List Cause) → AreNotedFor p hooks form items noted causes →
    AllOf IsWholeItem items
all-whole p hooks form [] noted causes each = tt
all-whole p hooks form (item ∷ items) [] causes each = absurd each
all-whole p hooks form (item ∷ items) (one ∷ noted) [] each = absurd each
all-whole p hooks form (item ∷ items) (one ∷ noted) (cause ∷ causes) each =
    (whole-one p hooks form each.0, all-whole p hooks form items noted causes each.1)

pub all-made : (p : Program) (hooks : Hooks) (form : Form) (items : List (List Item))
    (noted : List NotedItem) (causes : List Cause) → AreNotedFor p hooks form items noted causes →
    AllZip IsMadeOfNoted items noted
all-made p hooks form [] [] causes each = tt
all-made p hooks form [] (one ∷ noted) causes each = absurd each
all-made p hooks form (item ∷ items) [] causes each = absurd each
all-made p hooks form (item ∷ items) (one ∷ noted) [] each = absurd each
all-made p hooks form (item ∷ items) (one ∷ noted) (cause ∷ causes) each =
    (made-one p hooks form each.0, all-made p hooks form items noted causes each.1)

-- what a labelled identifier denotes is denoted somewhere
pub labels-occur : (tree : List Item) → IsResolved Es tree → (table : LabelTable) →
    AllOccur ByContext tree (labels_in tree table)
labels-occur tree resolved table d l c =
    let from = label-from tree resolved table d l c in
    subst (Contains (denotations ByContext Es tree)) from.is
    (contains-map (denoted_in_tree tree) (occurrences tree) from.o (
      from.at.0,
      slice_get_within (occurrences tree) from.at.0 from.o from.at.1,
      get_or_from_slice_get (occurrences tree) from.at.0 from.o from.o from.at.1,
    ))

-- the merged items are noted right, by symbol and context
unfoldable pub merged-bundle : (p : Program) (hooks : Hooks) (plan : List Cause)
    (items : List (List Item)) (noted : List NotedItem) (table : LabelTable) →
    IsNotedBundle p hooks items noted plan → AllOf IsNamed_whole items → AreItemsApart items → IsLabelTable table →
    AllZip (ItemNoted items table) items noted → IsStillNoted p hooks plan ByContext (joined_items items)
merged-bundle p hooks plan items noted table its named apart one names =
    let whole = all-whole p hooks AsModule items noted plan its.each in
    let is_resolved : IsResolved Es (joined_items items) = resolved items whole named apart in
    let agrees =
    merged_agrees items table whole named is_resolved noted
    (all-made p hooks AsModule items noted plan its.each) names in
    record {
      items = items;
      noted = noted;
      labels = labels_in (joined_items items) table;
      is = refl;
      bundle = its;
      one = labels-one (joined_items items) is_resolved table one;
      occur = labels-occur (joined_items items) is_resolved table;
      agrees = agrees;
      paired =
          is_paired p hooks ByContext (labels_in (joined_items items) table) items noted plan its
          (labels-one (joined_items items) is_resolved table one) agrees;
    }

-- it can be renamed
unfoldable pub merged-ready : (p : Program) (hooks : Hooks) (plan : List Cause)
    (items : List (List Item)) (noted : List NotedItem) (table : LabelTable) →
    IsNotedBundle p hooks items noted plan → AllOf IsNamed_whole items → AreItemsApart items → IsLabelTable table →
    AllZip (ItemNoted items table) items noted → AllOfForm items noted →
    AllZip OneNode items noted → AllZip NoLone items noted →
    IsReady p hooks plan ByContext (joined_items items)
unfolding merged-bundle
merged-ready p hooks plan items noted table its named apart one names forms count lone = record {
  still = merged-bundle p hooks plan items noted table its named apart one names;
  forms = forms;
  count = count;
  lone = lone;
}
