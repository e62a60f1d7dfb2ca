-- The marks that stand for a cause stand for it in a program that is one but for the numbers of its
-- modules, with the labels that are meant there.
-- What names of a bundle denote stands for the labels with other numbers of modules, and so what is
-- noted of the bundle is noted of it with these labels.
use Rattle.std.proofs.Common.{◌≡◌, ◌↔◌, ℕ, ◌==◌, Bool, true, false, List, [], ◌∷◌, Some, Contains, map, refl, sym, ap, ap₂, ◌∙◌, subst, eq-eqb, eqb-true}
use Rattle.std.specs.Prelude.{slice_get, fold}
use Rattle.std.specs.List.{AllZip}
use Rattle.std.proofs.lemmas.Bool.{false≢true}
use Rattle.bundle_syntax.specs.declared.piece.Role.TheVariants.{Word as IsWord}
use Rattle.bundle_syntax.specs.Item as h
use Rattle.bundle_syntax.specs.Item.{Item}
use Rattle.bundle_rules.specs.Nodes.{Text}
use Rattle.bundle_rules.specs.Declarations.{BySymbol, Reading}
use Rattle.bundle_rules.specs.Scopes.{Es}
use Rattle.bundle_rules.specs.Statements.{Element, own_statements, taken_from}
use Rattle.bundle_rules.specs.Entries.{Named, Whole}
use Rattle.bundle_rules.specs.Program.{Program, tree_of}
use Rattle.bundle_rules.specs.Linking.{External, CommonJs, Linked, Target, Declared, Namespace}
use Rattle.bundle_rules.specs.Cleared.{cleared_head}
use Rattle.bundle_rules.specs.Meaning.{Label, Of, Known, Mark, View, IsMeant, OwnMeaning, inner_bindings, Parameter, Load, Meta, Helper, Meant, Inside, Unbound, Labelling, IsOneToOne}
use Rattle.bundle_rules.specs.Injected.{NamedTarget, load_front}
use Rattle.bundle_rules.specs.Bundle.{Cause, Loads, HoldsMeta, HoldsNamespace, ImportsNames, Exports, Form, Hooks, MayHold, AreFaultless, PropertiesMean, AreNames, AreLinked, IsAscending, properties_tree, AsModule, IsPaired}
use Rattle.bundle_rules.specs.Places.{Spot, past}
use Rattle.bundle_rules.specs.Denotes.{Denoted}
use Rattle.bundle_rules.specs.Marks as k
use Rattle.bundle_link_index.proofs.ProgramLemmas.{map_back, map_on, later}
use Rattle.bundle_link_targets.proofs.ListLemmas.{first-there as here}
use Rattle.bundle_link.specs.Alike.{IsAlike}
use Rattle.bundle_link.proofs.AlikeLemmas.{flip, linked_on, turned}
use Rattle.bundle_merge_theory.specs.walked.Renaming.{ItemMeaning}
use Rattle.bundle_merge_theory.specs.joined.Joined.{joined_items}
use Rattle.bundle_merge_theory.specs.walked.Together.{IsBoundAs}
use Rattle.bundle_merge_theory.specs.composed.Noted as in_noted
use Rattle.bundle_merge_theory.specs.composed.Noted.{MarksStandFor, NotedItem, HasPlainMarks, plain_marks, StateAll, IsNotedFor, as_whole, as_function, AreNotedFor, AsWhole, AsFunction, AgreesWith, StandsForLabel, StatementsAgree, ItemAgrees, ItemsAgree, first_spot, view_of, IsNotedBundle, pairing_of}
use Rattle.bundle_merge_theory.proofs.planned.OrderLemmas.{no_element}
use Rattle.bundle_merge_theory.specs.moved.Renumbered.{label_by, marks_by, pair_by, cause_by, told_renumbered, noted_by, meant_by, labelled_by}
use Rattle.bundle_merge_theory.proofs.moved.Owed.{AreRenamed, EachModule, IsLabelReached, AreLabelsReached}
use Rattle.bundle_merge_theory.proofs.moved.Due.{target-is, linked-by, meant-by, named-back, reach-named, plan-due, plan-once, plan-named}
use Rattle.bundle_merge_theory.proofs.moved.Forms.{means-by, own-meaning, import-names-map, export-list-map, return-map, namespace-map, meta-map, load-map}
use Rattle.bundle_merge_theory.proofs.moved.Requested.{is-marked-by, all-marked-by}
use Rattle.bundle_merge_theory.specs.composed.Becoming.{AllOccur}
use Rattle.bundle_merge_theory.specs.composed.Functions.{IsOfForm, whole_form, function_form}
use Rattle.bundle_merge_theory.proofs.composed.Naming.{OneNode, IsStillNoted, IsReady}
use Rattle.bundle_merge_theory.proofs.composed.Unique.{is_paired}
use Rattle.bundle_merge_theory.proofs.composed.Remade.{NoLone, AllOfForm}

-- ---- stand

-- Properties.

-- the properties of `import.meta` mean nothing of a module
pub properties-by : (name : ℕ → ℕ) (properties : List Item) (marks : List Mark) →
    PropertiesMean properties marks → PropertiesMean properties (marks_by name marks)
properties-by name properties marks means =
    let view : View = record { tree = properties_tree properties; kind = Es; reading = BySymbol } in
    let elements : List Element = taken_from 3 properties in
    means-by name view (λ place by. ⊥) (λ place by. ⊥) (λ d l. Contains [] (d, l))
    (λ d l. Contains [] (d, l)) (λ place by is. is) (λ place by is none. is)
    (λ d l there. absurd (no_element there)) (inner_bindings view 0 elements) means

-- Names of the front of a load function.

module _ (name : ℕ → ℕ) where
  plain-by : (items : List Item) (names : List Label) →
      marks_by name (plain_marks items names) ≡ plain_marks items (map (label_by name) names)
  plain-by [] names = refl
  plain-by (h.Open field head ∷ rest) names =
      ap (λ more. k.Begins field (cleared_head head) ∷ more) (plain-by rest names)
  plain-by (h.Ident field x ctxt IsWord ∷ rest) names =
      ap (λ more. k.Word field x ∷ more) (plain-by rest names)
  plain-by (h.Ident field x ctxt _ ∷ rest) [] = refl
  plain-by (h.Ident field x ctxt _ ∷ rest) (l ∷ names) =
      ap (λ more. k.Name field (Known (label_by name l)) ∷ more) (plain-by rest names)
  plain-by (h.Hole field ∷ rest) names =
      ap (λ more. k.Empty field ∷ more) (plain-by rest names)
  plain-by (h.Close ∷ rest) names = ap (λ more. k.Ends ∷ more) (plain-by rest names)

  front-by : (c : ℕ) (front : List Item) (names : List Label) →
      HasPlainMarks front names (load_front c) →
      HasPlainMarks front (map (label_by name) names) (load_front (name c))
  front-by c front names its = record {
    plain = its.plain;
    its = sym (plain-by front names) ∙ ap (marks_by name) its.its;
    long = its.long;
  }

module _ (p q : Program) (R : ℕ → ℕ → Type 0) (name back : ℕ → ℕ)
    (its : AreRenamed p q R name back) where
  abbrev w : IsAlike p q R
  w = its.alike

  abbrev Has : ℕ → Type 0
  Has m = R m (name m)

  -- what is meant there, and only that
  pub meant-both : (l : Label) → label_by back (label_by name l) ≡ l →
      IsMeant p l ↔ IsMeant q (label_by name l)
  meant-both l same = (
    meant-by R name its.names p q w l,
    λ means. subst (IsMeant p) same
        (meant-by (λ a b. R b a) back (λ a b r. its.backs b a r) q p (flip w) (label_by name l)
        means),
  )

  names-by : {P Q : Text → Type 0} {names : List Text} → ((x : Text) → P x ↔ Q x) →
      AreNames P names → AreNames Q names
  names-by both are = record {
    ascending = are.ascending;
    all = λ x. (λ c. (both x).0 ((are.all x).0 c), λ h. (are.all x).1 ((both x).1 h));
  }

  -- linked names
  texts-by : (pairs : List NamedTarget) →
      map (λ (pair : NamedTarget). pair.0) (map (pair_by name) pairs)
      ≡ map (λ (pair : NamedTarget). pair.0) pairs
  texts-by [] = refl
  texts-by (pair ∷ pairs) = ap (λ more. pair.0 ∷ more) (texts-by pairs)

  pub linked-pairs : (d e : ℕ) (pairs : List NamedTarget) → R d e → AreLinked p d pairs →
      AreLinked q e (map (pair_by name) pairs)
  linked-pairs d e pairs r are = record {
    ascending = subst IsAscending (sym (texts-by pairs)) are.ascending;
    all = λ x t. (forth x t, from x t);
  }
    where
      forth : (x : Text) (t : Target) → Contains (map (pair_by name) pairs) (x, t) → Linked q e x t
      forth x t there =
          let was = map_back (pair_by name) pairs (x, t) there in
          subst (λ (pair : NamedTarget). Linked q e pair.0 pair.1) was.2
          (linked-by R name its.names p q w d e was.0.0 was.0.1 r
          ((are.all was.0.0 was.0.1).0 was.1))

      from : (x : Text) (t : Target) → Linked q e x t → Contains (map (pair_by name) pairs) (x, t)
      from x t linked =
          let on = linked_on q p (λ a b. R b a) (flip w) e d x t r linked in
          subst (λ u. Contains (map (pair_by name) pairs) (x, u))
          (sym (target-is R name its.names (turned on.1)))
          (map_on (pair_by name) pairs (x, on.0) ((are.all x on.0).1 on.2))

  -- what a hook may answer
  entry-by : (m n : ℕ) → R m n → (m == p.entry) ≡ (n == q.entry)
  entry-by m n r = by (m == p.entry) (n == q.entry) refl refl
    where
      by : (a b : Bool) → (m == p.entry) ≡ a → (n == q.entry) ≡ b → a ≡ b
      by true true e f = refl
      by false false e f = refl
      by true false e f =
          absurd
          (false≢true
          (sym f
          ∙ eq-eqb n q.entry
          (w.one m n q.entry r (subst (λ a. R a q.entry) (sym (eqb-true m p.entry e)) w.entry))))
      by false true e f =
          absurd
          (false≢true
          (sym e
          ∙ eq-eqb m p.entry
          (w.other n m p.entry r (subst (R p.entry) (sym (eqb-true n q.entry f)) w.entry))))

  pub may-hold-by : (hooks : Hooks) (m n : ℕ) (properties : List Item) → R m n →
      MayHold p hooks m properties → MayHold q hooks n properties
  may-hold-by hooks m n properties r held = record {
    loaded = held.loaded;
    kept = sym (its.modules m n r) ∙ held.kept;
    answer = held.answer;
    answered =
        subst (λ is. hooks.may_answer held.loaded.file_name is held.answer) (entry-by m n r)
        held.answered;
    cleared = held.cleared;
  }

  faultless-by : (properties : List Item) → AreFaultless p properties → AreFaultless q properties
  faultless-by properties are = record {
    undoubled = are.undoubled;
    no_with = are.no_with;
    no_arguments = λ iife. are.no_arguments (w.iife ∙ iife);
  }

  -- marks that stand for a cause
  pub stand-by : (hooks : Hooks) (form : Form) {marks : List Mark} {cause : Cause} →
      MarksStandFor p hooks form marks cause → EachModule Has cause →
      MarksStandFor q hooks form (marks_by name marks) (cause_by name cause)
  stand-by hooks form (in_noted.own {m = m} {k = i} {marks = marks} statement there means) r =
      in_noted.own statement
      (subst (λ (tree : List Item). slice_get (own_statements tree) i ≡ Some statement)
      (w.tree m (name m) r) there)
      (own-meaning R name its.names p q w m (name m) r statement marks means)
  stand-by hooks form (in_noted.imports_names {s = s} names are) r =
      subst (λ marks. MarksStandFor q hooks form marks (ImportsNames s))
      (sym (import-names-map name s names))
      (in_noted.imports_names names
      (names-by (λ x. meant-both (Of (External s (Named x))) refl) are))
  stand-by hooks form in_noted.imports_whole r = in_noted.imports_whole
  stand-by hooks form in_noted.imports_nothing r = in_noted.imports_nothing
  stand-by hooks form in_noted.helps r = in_noted.helps
  stand-by hooks form (in_noted.loads {m = m} {c = d} whole names are both) r =
      let same : (what : _) →
      label_by back (label_by name (Of (CommonJs m d what))) ≡ Of (CommonJs m d what) =
      λ what. ap₂ (λ a b. Of (CommonJs a b what)) (its.backs m (name m) r.0)
      (its.backs d (name d) r.1) in
      let also = meant-both (Of (CommonJs m d Whole)) (same Whole) in
      subst (λ marks. MarksStandFor q hooks form marks (Loads (name m) (name d)))
      (sym (load-map name m d whole names))
      (in_noted.loads whole names
      (names-by (λ x. meant-both (Of (CommonJs m d (Named x))) (same (Named x))) are)
      (λ t. also.0 (both.0 t), λ t. both.1 (also.1 t)))
  stand-by hooks form (in_noted.holds_meta {m = m} properties marks held are means) r =
      subst (λ l. MarksStandFor q hooks form l (HoldsMeta (name m)))
      (sym (meta-map name m marks))
      (in_noted.holds_meta properties (marks_by name marks)
      (may-hold-by hooks m (name m) properties r held) (faultless-by properties are)
      (properties-by name properties marks means))
  stand-by hooks form (in_noted.holds_namespace {d = d} pairs are) r =
      subst (λ l. MarksStandFor q hooks form l (HoldsNamespace (name d)))
      (sym (namespace-map name d pairs))
      (in_noted.holds_namespace (map (pair_by name) pairs) (linked-pairs d (name d) pairs r are))
  stand-by hooks form in_noted.stars r = in_noted.stars
  stand-by hooks form (in_noted.exports pairs is are) r =
      subst (λ l. MarksStandFor q hooks form l Exports) (sym (export-list-map name pairs))
      (in_noted.exports (map (pair_by name) pairs) is
      (linked-pairs p.entry q.entry pairs w.entry are))
  stand-by hooks form (in_noted.returns pairs is are) r =
      subst (λ l. MarksStandFor q hooks form l Exports) (sym (return-map name pairs))
      (in_noted.returns (map (pair_by name) pairs) is
      (linked-pairs p.entry q.entry pairs w.entry are))

  -- statements of a CommonJS module
  all-mean : (m n : ℕ) → R m n → (tolds : List ItemMeaning) (statements : List (List Element)) →
      AllZip (λ (told : ItemMeaning) statement. OwnMeaning p m statement told.1) tolds statements →
      AllZip (λ (told : ItemMeaning) statement. OwnMeaning q n statement told.1)
      (map (told_renumbered name) tolds) statements
  all-mean m n r [] [] all = tt
  all-mean m n r [] (statement ∷ statements) all = absurd all
  all-mean m n r (told ∷ tolds) [] all = absurd all
  all-mean m n r (told ∷ tolds) (statement ∷ statements) all = (
    own-meaning R name its.names p q w m n r statement told.1 all.0,
    all-mean m n r tolds statements all.1,
  )

  state-by : (m : ℕ) (insides : List (List Item)) (tolds : List ItemMeaning) → Has m →
      StateAll p m insides tolds → StateAll q (name m) insides (map (told_renumbered name) tolds)
  state-by m insides tolds r all = record {
    single = all.single;
    marked = all-marked-by name insides tolds all.marked;
    means =
        subst
        (λ (tree : List Item). AllZip
        (λ (told : ItemMeaning) statement. OwnMeaning q (name m) statement told.1)
        (map (told_renumbered name) tolds) (own_statements tree)) (w.tree m (name m) r)
        (all-mean m (name m) r tolds (own_statements (tree_of p m)) all.means);
  }

  -- an item that is noted for its cause
  pub noted-for-by : (hooks : Hooks) (form : Form) {item : List Item} {noted : NotedItem}
      {cause : Cause} → IsNotedFor p hooks form item noted cause → EachModule Has cause →
      IsNotedFor q hooks form item (noted_by name noted) (cause_by name cause)
  noted-for-by hooks form {item = item} (as_whole {told = told} marked stand) r =
      as_whole (is-marked-by name item told marked) (stand-by hooks form stand r)
  noted-for-by hooks form (as_function {c = m} {front = front} {names = names} {insides = insides}
      {tolds = tolds} nodes is plain all) r =
      as_function nodes is (front-by name m front names plain) (state-by m insides tolds r all)

  pub all-noted-by : (hooks : Hooks) (form : Form) (items : List (List Item))
      (noted : List NotedItem) (plan : List Cause) → AreNotedFor p hooks form items noted plan →
      ((cause : Cause) → Contains plan cause → EachModule Has cause) →
      AreNotedFor q hooks form items (map (noted_by name) noted) (map (cause_by name) plan)
  all-noted-by hooks form [] [] [] each named = tt
  all-noted-by hooks form [] [] (cause ∷ plan) each named = absurd each
  all-noted-by hooks form [] (one ∷ noted) plan each named = absurd each
  all-noted-by hooks form (item ∷ items) [] plan each named = absurd each
  all-noted-by hooks form (item ∷ items) (one ∷ noted) [] each named = absurd each
  all-noted-by hooks form (item ∷ items) (one ∷ noted) (cause ∷ plan) each named = (
    noted-for-by hooks form each.0 (named cause (here cause plan)),
    all-noted-by hooks form items noted plan each.1
        (λ other there. named other (later cause plan other there)),
  )

-- ---- agrees

-- Labels.

module _ (name : ℕ → ℕ) where
  -- a pair of the other labels, of what it comes
  pub record WasLabelled (labels : Labelling) (d : Denoted) (l : Label) : Type 0 where
    pub old : Label
    pub there : Contains labels (d, old)
    pub is : label_by name old ≡ l

  pub was-labelled : (labels : Labelling) (d : Denoted) (l : Label) →
      Contains (labelled_by name labels) (d, l) → WasLabelled labels d l
  was-labelled labels d l there =
      let was =
      map_back (λ (pair : Denoted × Label). (pair.0, label_by name pair.1)) labels (d, l) there in
      record {
        old = was.0.1;
        there =
            subst (λ e. Contains labels (e, was.0.1))
            (ap (λ (pair : Denoted × Label). pair.0) was.2)
            was.1;
        is = ap (λ (pair : Denoted × Label). pair.1) was.2;
      }

  pub is-labelled : (labels : Labelling) (d : Denoted) (l : Label) → Contains labels (d, l) →
      Contains (labelled_by name labels) (d, label_by name l)
  is-labelled labels d l there =
      map_on (λ (pair : Denoted × Label). (pair.0, label_by name pair.1)) labels (d, l) there

  bound-by : (labels : Labelling) (l : Label) (d : Denoted) → IsBoundAs labels l d →
      IsBoundAs (labelled_by name labels) (label_by name l) d
  bound-by labels l d its = record {
    scope = its.scope;
    name = its.name;
    is = its.is;
    labelled = is-labelled labels _ l its.labelled;
  }

  -- what is denoted agrees
  agrees-by : (labels : Labelling) (inner : List Denoted) (begins : ℕ) (d : Denoted)
      (meant : Meant) → AgreesWith labels inner begins d meant →
      AgreesWith (labelled_by name labels) inner begins d (meant_by name meant)
  agrees-by labels inner begins d (Inside n) its = its
  agrees-by labels inner begins d (Known l) its = (its.0, bound-by labels l d its.1)
  agrees-by labels inner begins d (Unbound x) its = its

  turn-by : (labels : Labelling) (inner : List Denoted) (begins : ℕ) (ds : List Denoted)
      (meants : List Meant) → AllZip (AgreesWith labels inner begins) ds meants →
      AllZip (AgreesWith (labelled_by name labels) inner begins) ds (map (meant_by name) meants)
  turn-by labels inner begins [] [] all = tt
  turn-by labels inner begins [] (meant ∷ meants) all = absurd all
  turn-by labels inner begins (d ∷ ds) [] all = absurd all
  turn-by labels inner begins (d ∷ ds) (meant ∷ meants) all =
      (agrees-by labels inner begins d meant all.0, turn-by labels inner begins ds meants all.1)

  front-agrees : (labels : Labelling) (ds : List Denoted) (names : List Label) →
      AllZip (StandsForLabel labels) ds names →
      AllZip (StandsForLabel (labelled_by name labels)) ds (map (label_by name) names)
  front-agrees labels [] [] all = tt
  front-agrees labels [] (l ∷ names) all = absurd all
  front-agrees labels (d ∷ ds) [] all = absurd all
  front-agrees labels (d ∷ ds) (l ∷ names) all =
      (bound-by labels l d all.0, front-agrees labels ds names all.1)

  statements-agree : (view : View) (labels : Labelling) (s : Spot) (insides : List (List Item))
      (tolds : List ItemMeaning) → StatementsAgree view labels s insides tolds →
      StatementsAgree view (labelled_by name labels) s insides (map (told_renumbered name) tolds)
  statements-agree view labels s [] [] all = tt
  statements-agree view labels s [] (told ∷ tolds) all = absurd all
  statements-agree view labels s (inside ∷ insides) [] all = absurd all
  statements-agree view labels s (inside ∷ insides) (told ∷ tolds) all = (
    turn-by labels _ s.place _ told.0 all.0,
    statements-agree view labels (fold past s inside) insides tolds all.1,
  )

  item-agrees : (view : View) (labels : Labelling) (s : Spot) (item : List Item) (noted : NotedItem) →
      ItemAgrees view labels s item noted →
      ItemAgrees view (labelled_by name labels) s item (noted_by name noted)
  item-agrees view labels s item (AsWhole told) its = turn-by labels _ s.place _ told.0 its
  item-agrees view labels s item (AsFunction front names insides tolds) its = (
    front-agrees labels _ names its.0,
    statements-agree view labels (fold past s front) insides tolds its.1,
  )

  pub items-agree : (view : View) (labels : Labelling) (s : Spot) (items : List (List Item))
      (noted : List NotedItem) → ItemsAgree view labels s items noted →
      ItemsAgree view (labelled_by name labels) s items (map (noted_by name) noted)
  items-agree view labels s [] [] all = tt
  items-agree view labels s [] (one ∷ noted) all = absurd all
  items-agree view labels s (item ∷ items) [] all = absurd all
  items-agree view labels s (item ∷ items) (one ∷ noted) all = (
    item-agrees view labels s item one all.0,
    items-agree view labels (fold past s item) items noted all.1,
  )

  -- forms
  form-by : {item : List Item} {noted : NotedItem} → IsOfForm item noted →
      IsOfForm item (noted_by name noted)
  form-by {item = item} (whole_form {told = told} marked) =
      whole_form (is-marked-by name item told marked)
  form-by (function_form {c = c} {insides = insides} {tolds = tolds} meta load helper its exports
      marked) =
      function_form {c = name c} meta load helper its exports
      (all-marked-by name insides tolds marked)

  pub forms-by : (items : List (List Item)) (noted : List NotedItem) → AllOfForm items noted →
      AllOfForm items (map (noted_by name) noted)
  forms-by [] [] all = tt
  forms-by [] (one ∷ noted) all = absurd all
  forms-by (item ∷ items) [] all = absurd all
  forms-by (item ∷ items) (one ∷ noted) all = (form-by all.0, forms-by items noted all.1)

  one-by : (item : List Item) (noted : NotedItem) → OneNode item noted →
      OneNode item (noted_by name noted)
  one-by item (AsWhole told) its = its
  one-by item (AsFunction front names insides tolds) its = its

  pub ones-by : (items : List (List Item)) (noted : List NotedItem) → AllZip OneNode items noted →
      AllZip OneNode items (map (noted_by name) noted)
  ones-by [] [] all = tt
  ones-by [] (one ∷ noted) all = absurd all
  ones-by (item ∷ items) [] all = absurd all
  ones-by (item ∷ items) (one ∷ noted) all = (one-by item one all.0, ones-by items noted all.1)

  lone-by : (item : List Item) (noted : NotedItem) → NoLone item noted →
      NoLone item (noted_by name noted)
  lone-by item (AsWhole told) its = its
  lone-by item (AsFunction front names insides tolds) its = its

  pub lones-by : (items : List (List Item)) (noted : List NotedItem) → AllZip NoLone items noted →
      AllZip NoLone items (map (noted_by name) noted)
  lones-by [] [] all = tt
  lones-by [] (one ∷ noted) all = absurd all
  lones-by (item ∷ items) [] all = absurd all
  lones-by (item ∷ items) (one ∷ noted) all = (lone-by item one all.0, lones-by items noted all.1)

  pub occur-by : (reading : Reading) (tree : List Item) (labels : Labelling) →
      AllOccur reading tree labels → AllOccur reading tree (labelled_by name labels)
  occur-by reading tree labels all d l there =
      let was = was-labelled labels d l there in all d was.old was.there

-- The bundle.

module _ (p q : Program) (R : ℕ → ℕ → Type 0) (name back : ℕ → ℕ)
    (its : AreRenamed p q R name back) where
  -- there and back
  pub label-back : (l : Label) → IsLabelReached p l → label_by back (label_by name l) ≡ l
  label-back (Of (Declared m x)) r =
      ap (λ n. Of (Declared n x))
      (named-back p q R name back its m (reach-named p q R name back its m r))
  label-back (Of (Namespace m)) r =
      ap (λ n. Of (Namespace n))
      (named-back p q R name back its m (reach-named p q R name back its m r))
  label-back (Of (External s what)) r = refl
  label-back (Of (CommonJs m c what)) r =
      ap₂ (λ a b. Of (CommonJs a b what))
      (named-back p q R name back its m (reach-named p q R name back its m r.0))
      (named-back p q R name back its c (reach-named p q R name back its c r.1))
  label-back (Parameter c x) r =
      ap (λ n. Parameter n x)
      (named-back p q R name back its c (reach-named p q R name back its c r))
  label-back (Load c) r =
      ap Load (named-back p q R name back its c (reach-named p q R name back its c r))
  label-back (Meta m) r =
      ap Meta (named-back p q R name back its m (reach-named p q R name back its m r))
  label-back Helper r = refl

  pub one-to-one-by : (labels : Labelling) → AreLabelsReached p labels → IsOneToOne labels →
      IsOneToOne (labelled_by name labels)
  one-to-one-by labels reached one = record {
    one_label = λ d l other at to.
        let a = was-labelled name labels d l at in
        let b = was-labelled name labels d other to in
        sym a.is ∙ ap (label_by name) (one.one_label d a.old b.old a.there b.there) ∙ b.is;
    one_binding = λ d other l at to.
        let a = was-labelled name labels d l at in
        let b = was-labelled name labels other l to in
        let same : a.old ≡ b.old =
        sym (label-back a.old (reached d a.old a.there))
        ∙ ap (label_by back) (a.is ∙ sym b.is)
        ∙ label-back b.old (reached other b.old b.there) in
        one.one_binding d other a.old a.there
        (subst (λ l. Contains labels (other, l)) (sym same) b.there);
  }

  module _ (hooks : Hooks) (plan : List Cause) (reading : Reading) where
    pub noted-bundle-by : (items : List (List Item)) (noted : List NotedItem) →
        IsNotedBundle p hooks items noted plan →
        IsNotedBundle q hooks items (map (noted_by name) noted) (map (cause_by name) plan)
    noted-bundle-by items noted bundle = record {
      single = bundle.single;
      listing = bundle.listing;
      each =
          all-noted-by p q R name back its hooks AsModule items noted plan bundle.each
          (plan-named p q R name back its AsModule plan bundle.due);
      due = plan-due p q R name back its AsModule plan bundle.due;
      once = plan-once p q R name back its AsModule plan bundle.due bundle.once;
    }

    -- what is still noted of a bundle
    unfoldable pub still-by : (tree : List Item) (still : IsStillNoted p hooks plan reading tree) →
        AreLabelsReached p still.labels →
        IsStillNoted q hooks (map (cause_by name) plan) reading tree
    still-by tree still reached =
        let labels : Labelling = labelled_by name still.labels in
        let noted : List NotedItem = map (noted_by name) still.noted in
        let bundle = noted-bundle-by still.items still.noted still.bundle in
        let one = one-to-one-by still.labels reached still.one in
        let agrees =
        items-agree name (view_of reading still.items) still.labels first_spot still.items
        still.noted still.agrees in
        record {
          items = still.items;
          noted = noted;
          labels = labels;
          is = still.is;
          bundle = bundle;
          one = one;
          occur = occur-by name reading (joined_items still.items) still.labels still.occur;
          agrees = agrees;
          paired =
              subst
              (λ t. IsPaired q hooks AsModule reading t
              (pairing_of labels still.items (map (cause_by name) plan))) (sym still.is)
              (is_paired q hooks reading labels still.items noted (map (cause_by name) plan) bundle
              one agrees);
        }

    unfoldable pub ready-by : (tree : List Item) (ready : IsReady p hooks plan reading tree) →
        AreLabelsReached p ready.still.labels →
        IsReady q hooks (map (cause_by name) plan) reading tree
    unfolding still-by
    ready-by tree ready reached = record {
      still = still-by tree ready.still reached;
      forms = forms-by name ready.still.items ready.still.noted ready.forms;
      count = ones-by name ready.still.items ready.still.noted ready.count;
      lone = lones-by name ready.still.items ready.still.noted ready.lone;
    }
