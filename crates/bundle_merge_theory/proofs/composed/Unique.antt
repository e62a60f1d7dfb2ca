-- A bundle whose items are noted right is a bundle, in whatever reading its names denote what is
-- noted of them.
-- An item of a bundle means one thing.
use Rattle.std.proofs.Common.{◌≡◌, ℕ, zero, suc, ◌+◌, ◌&&◌, true, false, not, List, [], ◌∷◌, ◌++◌, append_assoc, length, filter, refl, ap, ap₂, sym, ◌∙◌, subst, None, arith}
use Rattle.std.proofs.lemmas.Bool.{and_parts}
use Rattle.std.proofs.lemmas.Option.{none-some, same_Some}
use Rattle.std.specs.Prelude.{Some, fold, position, slice_get, filter_map, option_and_then, option_map}
use Rattle.std.specs.List.{AllZip}
use Rattle.bundle_syntax.specs.Item as h
use Rattle.bundle_syntax.specs.Item.{Item, Head}
use Rattle.bundle_order_graph.proofs.OrderLemmas.{not-true as not_is}
use Rattle.bundle_syntax.specs.declared.piece.Role.{Role}
use Rattle.bundle_syntax.specs.declared.piece.Role.TheVariants.{Word as IsWord}
use Rattle.bundle_rules.specs.Places.{Around, Spot, past, in_field, start, occurrence_of, path_at, spot_before}
use Rattle.bundle_rules.specs.Declarations.{Reading, declared}
use Rattle.bundle_rules.specs.Denotes.{Denoted, Global, denoted_at, denoted_of}
use Rattle.bundle_rules.specs.Nodes.{side_by_side, Text}
use Rattle.bundle_rules.specs.Shorthands.{is_shorthand_in_pattern, is_object}
use Rattle.bundle_rules.specs.Sorting.{flat}
use Rattle.bundle_rules.specs.Statements.{Element, TopItem, top_items, taken_from, placed, own_statements, taken, written}
use Rattle.bundle_rules.specs.Program.{Program, tree_of}
use Rattle.bundle_rules.specs.Mentions.{same_denoted, each_denoted_once}
use Rattle.bundle_rules.specs.Meaning as n
use Rattle.bundle_rules.specs.Meaning.{Label, Meant, Mark, Inside, Known, Unbound, Labelling, IsOneToOne, View, NameMeans, is_inside, inner_bindings, OwnMeaning, Means, denoted}
use Rattle.bundle_rules.specs.Injected.{load_front}
use Rattle.bundle_rules.specs.Bundle as bundle
use Rattle.bundle_rules.specs.Bundle.{Cause, Form, AsModule, Hooks, Labelled, sense_of, ItemMeans, SameMeaning, IsLoadFunction, Realises, of_module, labelled, IsPaired, elements_of}
use Rattle.bundle_rules.specs.Scopes.{Es}
use Rattle.bundle_rules.specs.Marks.{begin_marks, end_marks, name_marks, Empty, Word}
use Rattle.bundle_link.proofs.NodePaths.{fold-place, field-twice, same-field as same_field}
use Rattle.bundle_merge_theory.specs.noted.Nodes.{AreNodesInTurn, nothing}
use Rattle.bundle_merge_theory.specs.noted.Agrees.{IsSpotAt, IsListing}
use Rattle.bundle_merge_theory.proofs.noted.Spots.{around_spot, fold-path, at-first, at-past, at-behind, at-as, at-get}
use Rattle.bundle_merge_theory.proofs.noted.Shapes.{join, marked_nodes}
use Rattle.bundle_merge_theory.proofs.noted.Inner.{is_object_around}
use Rattle.bundle_merge_theory.proofs.noted.Statements.{is_in_short}
use Rattle.bundle_merge_theory.proofs.noted.Names.{StandsThere}
use Rattle.bundle_merge_theory.specs.joined.Joined.{joined_items, AllOf}
use Rattle.bundle_merge_theory.specs.joined.Picked.{IsSingle}
use Rattle.bundle_merge_theory.proofs.joined.Theorem.{top_items-joined}
use Rattle.bundle_merge_theory.specs.walked.Keeps.{notes_alone}
use Rattle.bundle_merge_theory.specs.walked.Renaming.{ItemMeaning, HasMarks}
use Rattle.bundle_merge_theory.proofs.walked.NameLemmas.{elements_denote, MeansNote, outside_position}
use Rattle.bundle_merge_theory.proofs.walked.Renewing.{marked_means}
use Rattle.bundle_merge_theory.specs.composed.Noted as w
use Rattle.bundle_merge_theory.specs.composed.Noted.{MarksStandFor, NotedItem, AsWhole, are_plain, HasPlainMarks, StateAll, function_ends, IsNotedFor, as_whole, as_function, AreNotedFor, AgreesWith, MeantInTurn, denoted_from, StatementsAgree, StandsForLabel, ItemAgrees, ItemsAgree, first_spot, BundleAgrees, IsNotedBundle, pairing_of}
use Rattle.bundle_merge_theory.proofs.composed.Fronts.{IsPlainPath, plain_field, plain_outer, plain_means}
use Rattle.bundle_merge_theory.proofs.called.Sides.{taken-append}

-- ---- paired
taken-length : (place : ℕ) (xs : List Item) → length (taken_from place xs) ≡ length xs
taken-length place [] = refl
taken-length place (x ∷ xs) = ap suc (taken-length (suc place) xs)

-- the nodes side by side
pub beside-flat : (items : List (List Item)) → AllOf IsSingle items →
    side_by_side zero (flat items) ≡ items
beside-flat [] single = refl
beside-flat (item ∷ more) single =
    single.0 (flat more) ∙ ap (λ rest. item ∷ rest) (beside-flat more single.1)

-- the same up to the end of the node around them
beside-end : (items : List (List Item)) → AllOf IsSingle items →
    side_by_side zero (flat items ++ h.Close ∷ []) ≡ items
beside-end [] single = refl
beside-end (item ∷ more) single =
    ap (side_by_side zero) (append_assoc item (flat more) (h.Close ∷ []))
    ∙ single.0 (flat more ++ h.Close ∷ [])
    ∙ ap (λ rest. item ∷ rest) (beside-end more single.1)

-- paths of plain elements
plain_behind : (s : Spot) (xs : List Item) → IsPlainPath s.path → are_plain xs ≡ true →
    IsPlainPath (fold past s xs).path
plain_behind s [] plain all = plain
plain_behind s (h.Open field head ∷ xs) plain all =
    let one =
    and_parts (not (is_shorthand_in_pattern head)) (not (is_object head) && are_plain xs) all in
    let two = and_parts (not (is_object head)) (are_plain xs) one.1 in
    plain_behind (past s (h.Open field head)) xs (
      not_is (is_shorthand_in_pattern head) one.0,
      not_is (is_object head) two.0,
      plain_field field s.path plain,
    ) two.1
plain_behind s (h.Ident field x ctxt role ∷ xs) plain all =
    plain_behind (past s (h.Ident field x ctxt role)) xs plain all
plain_behind s (h.Hole field ∷ xs) plain all = plain_behind (past s (h.Hole field)) xs plain all
plain_behind s (h.Close ∷ xs) plain all =
    plain_behind (past s h.Close) xs (plain_outer s.path plain) all

plain_object : (path : List Around) → IsPlainPath path → is_object_around path ≡ false
plain_object [] plain = refl
plain_object (node ∷ outer) plain = plain.1

plain_short : (path : List Around) → IsPlainPath path → is_in_short path ≡ false
plain_short [] plain = refl
plain_short (node ∷ outer) plain = plain.0

-- what is marked is whole nodes
pub flat_nodes : (items : List (List Item)) (tolds : List ItemMeaning) → AllZip HasMarks items tolds →
    AreNodesInTurn (flat items)
flat_nodes [] [] marked = nothing
flat_nodes [] (told ∷ tolds) marked = absurd marked
flat_nodes (item ∷ items) [] marked = absurd marked
flat_nodes (item ∷ items) (told ∷ tolds) marked =
    join (marked_nodes marked.0) (flat_nodes items tolds marked.1)

-- What agrees means it.

module _ (b : Labelled) (begins : ℕ) (all : List Denoted) where
  abbrev inner : List Denoted
  inner = each_denoted_once (filter (is_inside begins) all)

  one_means : (d : Denoted) (meant : Meant) → AgreesWith b.labels inner begins d meant →
      NameMeans (sense_of b) inner d meant
  one_means d (Inside k) its = n.inside its
  one_means d (Known l) its =
      subst (λ e. NameMeans (sense_of b) inner e (Known l)) (sym its.1.is)
      (n.outside
      (ap (λ e. position (same_denoted e) inner) (sym its.1.is)
      ∙ outside_position begins d all its.0) its.1.labelled)
  one_means d (Unbound x) its =
      subst (λ e. NameMeans (sense_of b) inner e (Unbound x)) (sym its) n.unbound

  all_mean : (ds : List Denoted) (meants : List Meant) →
      AllZip (AgreesWith b.labels inner begins) ds meants →
      AllZip (MeansNote (sense_of b) inner) ds (notes_alone meants)
  all_mean [] [] agree = tt
  all_mean [] (meant ∷ meants) agree = absurd agree
  all_mean (d ∷ ds) [] agree = absurd agree
  all_mean (d ∷ ds) (meant ∷ meants) agree =
      ((refl, one_means d meant agree.0), all_mean ds meants agree.1)

module _ (b : Labelled) (listing : IsListing b.tree) where
  abbrev view : View
  view = (sense_of b).view

  -- a statement that is marked and agrees means its marks
  pub statement_means : (s : Spot) (item tail : List Item) → IsSpotAt b.tree s (item ++ tail) →
      (field : ℕ) (path : List Around) → s.path ≡ in_field field path → IsPlainPath path →
      (told : ItemMeaning) → HasMarks item told →
      MeantInTurn b.labels s.place (denoted_from view s item) told.0 →
      ItemMeans b (record { start = s.place; items = item }) told.1
  statement_means s item tail at field path path_is plain told marked agree =
      let top : TopItem = record { start = s.place; items = item } in
      let there : StandsThere b.tree path top =
      record {
        s = s;
        tail = tail;
        at = at;
        place = refl;
        field = field;
        path_is = path_is;
        nodes = marked_nodes marked;
      } in
      let ds : List Denoted = denoted_from view s item in
      let inner_is : inner_bindings view s.place (taken_from s.place item) ≡ each_denoted_once
      (filter (is_inside s.place) ds) =
      ap (λ list. each_denoted_once (filter (is_inside s.place) list))
      (elements_denote view s item tail at) in
      marked_means b top path there listing (plain_object path plain) (plain_short path plain)
      (notes_alone told.0) told.1 marked
      (subst (λ list. AllZip (MeansNote (sense_of b) list) ds (notes_alone told.0)) (sym inner_is)
      (all_mean b s.place ds ds told.0 agree))

  -- the statements of a CommonJS module
  statements_mean : (p : Program) (c : ℕ) (s : Spot) (items : List (List Item)) (tolds : List ItemMeaning)
      (statements : List (List Element)) (tail : List Item) →
      IsSpotAt b.tree s (flat items ++ tail) → (field : ℕ) (path : List Around) →
      s.path ≡ in_field field path → IsPlainPath path → AllZip HasMarks items tolds →
      AllZip (λ (told : ItemMeaning) statement. OwnMeaning p c statement told.1) tolds statements →
      StatementsAgree view b.labels s items tolds →
      AllZip (SameMeaning p b c) (placed s.place items) statements
  statements_mean p c s [] [] [] tail at field path path_is plain marked own agree = tt
  statements_mean p c s [] [] (statement ∷ statements) tail at field path path_is plain marked own agree = absurd own
  statements_mean p c s [] (told ∷ tolds) statements tail at field path path_is plain marked own agree = absurd marked
  statements_mean p c s (item ∷ items) [] statements tail at field path path_is plain marked own agree = absurd marked
  statements_mean p c s (item ∷ items) (told ∷ tolds) [] tail at field path path_is plain marked own agree = absurd own
  statements_mean p c s (item ∷ items) (told ∷ tolds) (statement ∷ statements) tail at field path
      path_is plain marked own agree =
      let here : IsSpotAt b.tree s (item ++ (flat items ++ tail)) =
      at-as refl (append_assoc item (flat items) tail) at in
      let behind = fold-path (marked_nodes marked.0) s in (
        (
          told.1,
          own.0,
          statement_means s item (flat items ++ tail) here field path path_is plain told marked.0
              agree.0,
        ),
        subst (λ place. AllZip (SameMeaning p b c) (placed place items) statements)
            (fold-place s item)
            (statements_mean p c (fold past s item) items tolds statements tail
            (at-behind item (flat items ++ tail) here) behind.0 path
            (behind.1 ∙ ap (in_field behind.0) path_is ∙ field-twice behind.0 field path) plain
            marked.1 own.1 agree.1),
      )

  -- the function of a CommonJS module
  function_stands : (p : Program) (c : ℕ) (s : Spot) (front : List Item) (names : List Label)
      (insides : List (List Item)) (tolds : List ItemMeaning) (tail : List Item) →
      IsSpotAt b.tree s ((front ++ (flat insides ++ function_ends)) ++ tail) → IsPlainPath s.path →
      HasPlainMarks front names (load_front c) → StateAll p c insides tolds →
      AllZip (StandsForLabel b.labels) (denoted_from view s front) names →
      StatementsAgree view b.labels (fold past s front) insides tolds →
      IsLoadFunction p b c
      (record { start = s.place; items = front ++ (flat insides ++ function_ends) })
  function_stands p c s front names insides tolds tail at plain its states agree all_agree =
      let at_front : IsSpotAt b.tree s (front ++ ((flat insides ++ function_ends) ++ tail)) =
      at-as refl (append_assoc front (flat insides ++ function_ends) tail) at in
      let at_inside : IsSpotAt b.tree (fold past s front) (flat insides ++ (function_ends ++ tail)) =
      at-as refl (append_assoc (flat insides) function_ends tail)
      (at-behind front ((flat insides ++ function_ends) ++ tail) at_front) in
      let at_back : IsSpotAt b.tree (fold past (fold past s front) (flat insides))
      (function_ends ++ tail) =
      at-behind (flat insides) (function_ends ++ tail) at_inside in
      let plain_inside : IsPlainPath (fold past s front).path =
      plain_behind s front plain its.plain in
      let own = same_field (fold past s front).path in
      let behind = fold-path (flat_nodes insides tolds states.marked) (fold past s front) in
      let plain_back : IsPlainPath (fold past (fold past s front) (flat insides)).path =
      subst IsPlainPath (sym behind.1)
      (plain_field behind.0 (fold past s front).path plain_inside) in
      let place : (fold past s front).place ≡ s.place + length (taken_from s.place front) =
      fold-place s front ∙ ap (λ k. s.place + k) (sym (taken-length s.place front)) in
      let back_place : (fold past s front).place + length (flat insides) ≡
      (fold past (fold past s front) (flat insides)).place =
      sym (fold-place (fold past s front) (flat insides)) in
      record {
        front = taken_from s.place front;
        inside = flat insides;
        back = taken_from (fold past (fold past s front) (flat insides)).place function_ends;
        is = taken-append s.place front (flat insides ++ function_ends)
            ∙ ap (λ k. taken_from s.place front ++ taken_from k (flat insides ++ function_ends))
            (sym (fold-place s front))
            ∙ ap (λ l. taken_from s.place front ++ l)
            (taken-append (fold past s front).place (flat insides) function_ends)
            ∙ ap₂
            (λ k j. taken_from s.place front ++
            (taken_from k (flat insides) ++ taken_from j function_ends)) place back_place;
        front_means =
            subst (λ marks. Means (sense_of b) [] (taken_from s.place front) marks) its.its
            (plain_means b s front ((flat insides ++ function_ends) ++ tail) at_front plain
            its.plain names agree);
        back_means =
            plain_means b (fold past (fold past s front) (flat insides)) function_ends tail at_back
            plain_back refl [] tt;
        front_length = taken-length s.place front ∙ its.long;
        back_length =
            taken-length (fold past (fold past s front) (flat insides)).place function_ends;
        whole = ap flat (beside-end insides states.single);
        statements =
            subst
            (λ parts. AllZip (SameMeaning p b c)
            (placed (s.place + length (taken_from s.place front)) parts)
            (own_statements (tree_of p c))) (sym (beside-flat insides states.single))
            (subst (λ k. AllZip (SameMeaning p b c) (placed k insides) (own_statements (tree_of p c))) place
            (statements_mean p c (fold past s front) insides tolds (own_statements (tree_of p c)) (function_ends ++ tail) at_inside own.0 (fold past s front).path own.1 plain_inside states.marked states.means all_agree));
      }

  -- what an item stands for
  marks_realise : (p : Program) (hooks : Hooks) (form : Form) (top : TopItem) {marks : List Mark}
      {cause : Cause} → ItemMeans b top marks → MarksStandFor p hooks form marks cause →
      Realises p hooks form b top cause
  marks_realise p hooks form top means (w.own {marks = marks} statement at own) =
      bundle.own statement at (marks, own, means)
  marks_realise p hooks form top means (w.imports_names names are) =
      bundle.imports_names names are means
  marks_realise p hooks form top means w.imports_whole = bundle.imports_whole means
  marks_realise p hooks form top means w.imports_nothing = bundle.imports_nothing means
  marks_realise p hooks form top means w.helps = bundle.helps means
  marks_realise p hooks form top means (w.loads whole names are is) =
      bundle.loads whole names are is means
  marks_realise p hooks form top means (w.holds_meta properties marks held faultless its) =
      bundle.holds_meta properties marks held faultless its means
  marks_realise p hooks form top means (w.holds_namespace pairs are) =
      bundle.holds_namespace pairs are means
  marks_realise p hooks form top means w.stars = bundle.stars means
  marks_realise p hooks form top means (w.exports pairs is are) = bundle.exports pairs is are means
  marks_realise p hooks form top means (w.returns pairs is are) = bundle.returns pairs is are means

  item_realises : (p : Program) (hooks : Hooks) (form : Form) (s : Spot) {item : List Item}
      {noted : NotedItem} {cause : Cause} (tail : List Item) → IsSpotAt b.tree s (item ++ tail) →
      (field : ℕ) (path : List Around) → s.path ≡ in_field field path → IsPlainPath path →
      IsNotedFor p hooks form item noted cause → ItemAgrees view b.labels s item noted →
      Realises p hooks form b (record { start = s.place; items = item }) cause
  item_realises p hooks form s {item = item} tail at field path path_is plain (as_whole {told = told} marked stand) agree = marks_realise p hooks form (record { start = s.place; items = item }) (statement_means s item tail at field path path_is plain told marked agree) stand
  item_realises p hooks form s tail at field path path_is plain
      (as_function {c = c} {front = front} {names = names} {insides = insides} {tolds = tolds} nodes
      is its states) agree =
      subst
      (λ items. Realises p hooks form b (record { start = s.place; items = items })
      (bundle.Defines c)) (sym is)
      (bundle.defines
      (function_stands p c s front names insides tolds tail
      (at-as refl (ap (λ l. l ++ tail) is) at)
      (subst IsPlainPath (sym path_is) (plain_field field path plain)) its states agree.0
      agree.1))

  -- what is told of an item as a whole, it means
  item_tells : (p : Program) (hooks : Hooks) (form : Form) (s : Spot) {item : List Item}
      {noted : NotedItem} {cause : Cause} (tail : List Item) → IsSpotAt b.tree s (item ++ tail) →
      (field : ℕ) (path : List Around) → s.path ≡ in_field field path → IsPlainPath path →
      IsNotedFor p hooks form item noted cause → ItemAgrees view b.labels s item noted →
      (told : ItemMeaning) → noted ≡ AsWhole told →
      ItemMeans b (record { start = s.place; items = item }) told.1
  item_tells p hooks form s {item = item} tail at field path path_is plain (as_whole {told = its} marked stand) agree told is =
      let same : its ≡ told = cc in
      subst (λ (t : ItemMeaning). ItemMeans b (record { start = s.place; items = item }) t.1) same
      (statement_means s item tail at field path path_is plain its marked agree)
  item_tells p hooks form s tail at field path path_is plain (as_function nodes is its states) agree
      told whole =
      absurd cc

  noted_nodes : (p : Program) (hooks : Hooks) (form : Form) {item : List Item} {noted : NotedItem}
      {cause : Cause} → IsNotedFor p hooks form item noted cause → AreNodesInTurn item
  noted_nodes p hooks form (as_whole marked stand) = marked_nodes marked
  noted_nodes p hooks form (as_function nodes is its states) = nodes

  items_realise : (p : Program) (hooks : Hooks) (form : Form) (s : Spot) (items : List (List Item))
      (noted : List NotedItem) (causes : List Cause) (tail : List Item) →
      IsSpotAt b.tree s (flat items ++ tail) → (field : ℕ) (path : List Around) →
      s.path ≡ in_field field path → IsPlainPath path →
      AreNotedFor p hooks form items noted causes → ItemsAgree view b.labels s items noted →
      AllZip (Realises p hooks form b) (placed s.place items) causes
  items_realise p hooks form s [] [] [] tail at field path path_is plain each agree = tt
  items_realise p hooks form s [] [] (cause ∷ causes) tail at field path path_is plain each agree =
      absurd each
  items_realise p hooks form s [] (one ∷ noted) causes tail at field path path_is plain each agree =
      absurd each
  items_realise p hooks form s (item ∷ items) [] causes tail at field path path_is plain each agree = absurd each
  items_realise p hooks form s (item ∷ items) (one ∷ noted) [] tail at field path path_is plain each agree = absurd each
  items_realise p hooks form s (item ∷ items) (one ∷ noted) (cause ∷ causes) tail at field path
      path_is plain each agree =
      let here : IsSpotAt b.tree s (item ++ (flat items ++ tail)) =
      at-as refl (append_assoc item (flat items) tail) at in
      let behind = fold-path (noted_nodes p hooks form each.0) s in (
        item_realises p hooks form s (flat items ++ tail) here field path path_is plain each.0
            agree.0,
        subst (λ place. AllZip (Realises p hooks form b) (placed place items) causes)
            (fold-place s item)
            (items_realise p hooks form (fold past s item) items noted causes tail
            (at-behind item (flat items ++ tail) here) behind.0 path
            (behind.1 ∙ ap (in_field behind.0) path_is ∙ field-twice behind.0 field path) plain
            each.1 agree.1),
      )

module _ (b : Labelled) (listing : IsListing b.tree) (p : Program) (hooks : Hooks) (form : Form) where
  items_tell : (s : Spot) (items : List (List Item)) (noted : List NotedItem) (causes : List Cause)
      (tail : List Item) → IsSpotAt b.tree s (flat items ++ tail) → (field : ℕ) (path : List Around) →
      s.path ≡ in_field field path → IsPlainPath path →
      AreNotedFor p hooks form items noted causes →
      ItemsAgree (sense_of b).view b.labels s items noted → (i : ℕ) (top : TopItem) (told : ItemMeaning) →
      slice_get (placed s.place items) i ≡ Some top → slice_get noted i ≡ Some (AsWhole told) →
      ItemMeans b top told.1
  items_tell s [] noted causes tail at field path path_is plain each agree i top told there is =
      absurd (none-some top there)
  items_tell s (item ∷ items) [] causes tail at field path path_is plain each agree i top told there
      is =
      absurd (none-some (AsWhole told) is)
  items_tell s (item ∷ items) (one ∷ noted) [] tail at field path path_is plain each agree i top
      told there is =
      absurd each
  items_tell s (item ∷ items) (one ∷ noted) (cause ∷ causes) tail at field path path_is plain each
      agree zero top told there is =
      subst (λ t. ItemMeans b t told.1) (same_Some _ top there)
      (item_tells b listing p hooks form s (flat items ++ tail)
      (at-as refl (append_assoc item (flat items) tail) at) field path path_is plain each.0 agree.0
      told (same_Some one (AsWhole told) is))
  items_tell s (item ∷ items) (one ∷ noted) (cause ∷ causes) tail at field path path_is plain each
      agree (suc i) top told there is =
      let here : IsSpotAt b.tree s (item ++ (flat items ++ tail)) =
      at-as refl (append_assoc item (flat items) tail) at in
      let behind = fold-path (noted_nodes b listing p hooks form each.0) s in
      items_tell (fold past s item) items noted causes tail
      (at-behind item (flat items ++ tail) here) behind.0 path
      (behind.1 ∙ ap (in_field behind.0) path_is ∙ field-twice behind.0 field path) plain each.1
      agree.1 i top told
      (ap (λ place. slice_get (placed place items) i) (fold-place s item) ∙ there) is

-- what is told of the items of a bundle, they mean
pub told_means : (p : Program) (hooks : Hooks) (reading : Reading) (labels : Labelling)
    (items : List (List Item)) (noted : List NotedItem) (plan : List Cause) →
    IsNotedBundle p hooks items noted plan → BundleAgrees reading labels items noted →
    (i : ℕ) (top : TopItem) (told : ItemMeaning) → slice_get (top_items (joined_items items)) i ≡ Some top →
    slice_get noted i ≡ Some (AsWhole told) →
    ItemMeans (labelled (joined_items items) reading (pairing_of labels items plan)) top told.1
told_means p hooks reading labels items noted plan its agree i top told there is =
    items_tell (labelled (joined_items items) reading (pairing_of labels items plan)) its.listing p hooks
    AsModule first_spot items noted plan (h.Close ∷ [])
    (at-past (h.Open 0 h.Module) (flat items ++ h.Close ∷ []) (at-first (joined_items items))) 0
    (around_spot h.Module 0 0 ∷ []) refl (refl, refl, tt) its.each agree i top told
    (ap (λ l. slice_get l i) (sym (top_items-joined items its.single)) ∙ there) is

-- items that are noted right make a bundle, in each reading in which their names denote what is
-- noted of them
pub is_paired : (p : Program) (hooks : Hooks) (reading : Reading) (labels : Labelling)
    (items : List (List Item)) (noted : List NotedItem) (plan : List Cause) →
    IsNotedBundle p hooks items noted plan → IsOneToOne labels →
    BundleAgrees reading labels items noted →
    IsPaired p hooks AsModule reading (joined_items items) (pairing_of labels items plan)
is_paired p hooks reading labels items noted plan its one agree = record {
  labels = one;
  body = of_module;
  realised =
      subst
      (λ body. AllZip
      (Realises p hooks AsModule
      (labelled (joined_items items) reading (pairing_of labels items plan))) body plan)
      (sym (top_items-joined items its.single))
      (items_realise (labelled (joined_items items) reading (pairing_of labels items plan)) its.listing p
      hooks AsModule first_spot items noted plan (h.Close ∷ [])
      (at-past (h.Open 0 h.Module) (flat items ++ h.Close ∷ []) (at-first (joined_items items))) 0
      (around_spot h.Module 0 0 ∷ []) refl (refl, refl, tt) its.each agree);
  due = its.due;
  once = its.once;
}

-- ---- unique

-- each of these elements stands in the tree at its place
abbrev AllTaken : List Item → List Element → Type 0
AllTaken tree [] = Unit {0}
AllTaken tree (taken place x ∷ rest) = (slice_get tree place ≡ Some x) × AllTaken tree rest
AllTaken tree (written x ∷ rest) = ⊥

taken-there : {tree : List Item} (s : Spot) (items tail : List Item) → IsSpotAt tree s (items ++ tail) →
    AllTaken tree (taken_from s.place items)
taken-there s [] tail at = tt
taken-there {tree = tree} s (x ∷ items) tail at =
    let next : (past s x).place ≡ suc s.place =
    let one = fold-place s (x ∷ []) in omega (arith, one) in (
      at-get at s.place 0 (omega arith),
      subst (λ place. AllTaken tree (taken_from place items)) next
          (taken-there (past s x) items tail (at-past x (items ++ tail) at)),
    )

-- a plain word denotes nothing
no-word : (reading : Reading) (tree : List Item) (place field ctxt : ℕ) (x : Text) (d : Denoted) →
    slice_get tree place ≡ Some (h.Ident field x ctxt IsWord) →
    denoted_at reading Es tree place ≡ Some d → ⊥
no-word reading tree place field ctxt x d there denotes =
    none-some d
    (sym
    (ap
    (λ item. option_map (denoted_of reading Es (declared reading Es tree))
    (option_and_then (occurrence_of (spot_before tree place)) item)) there)
    ∙ denotes)

module _ (b : Labelled) (one : IsOneToOne b.labels) (inner : List Denoted)
    (out : (x : Text) → position (same_denoted (Global x)) inner ≡ None) where
  -- a name means one thing
  one-meant : {d : Denoted} {x y : Meant} → NameMeans (sense_of b) inner d x →
      NameMeans (sense_of b) inner d y → x ≡ y
  one-meant (n.inside at) (n.inside there) = ap Inside (same_Some _ _ (sym at ∙ there))
  one-meant (n.inside at) (n.outside none stands) = absurd (none-some _ (sym none ∙ at))
  one-meant (n.inside at) (n.unbound {x = x}) = absurd (none-some _ (sym (out x) ∙ at))
  one-meant (n.outside none stands) (n.inside at) = absurd (none-some _ (sym none ∙ at))
  one-meant (n.outside none stands) (n.outside also its) =
      ap Known (one.one_label _ _ _ stands its)
  one-meant (n.unbound {x = x}) (n.inside at) = absurd (none-some _ (sym (out x) ∙ at))
  one-meant n.unbound n.unbound = refl

  -- what a meaning of elements that begin so is made of
  begun-of : {place field : ℕ} {head : Head} {es : List Element} {l : List Mark} →
      Means (sense_of b) inner (taken place (h.Open field head) ∷ es) l →
      (more : List Mark) × Means (sense_of b) inner es more
      × (begin_marks b.tree place field (path_at b.tree place) head ++ more ≡ l)
  begun-of (n.replaced by is rest) = absurd is
  begun-of (n.begun none rest) = (_, rest, refl)

  ended-of : {place : ℕ} {es : List Element} {l : List Mark} →
      Means (sense_of b) inner (taken place h.Close ∷ es) l →
      (more : List Mark) × Means (sense_of b) inner es more
      × (end_marks b.tree (path_at b.tree place) ++ more ≡ l)
  ended-of (n.ended rest) = (_, rest, refl)

  empty-of : {place field : ℕ} {es : List Element} {l : List Mark} →
      Means (sense_of b) inner (taken place (h.Hole field) ∷ es) l →
      (more : List Mark) × Means (sense_of b) inner es more × (Empty field ∷ more ≡ l)
  empty-of (n.empty rest) = (_, rest, refl)

  named-of : {place field ctxt : ℕ} {x : Text} {role : Role} {es : List Element} {l : List Mark}
      (d : Denoted) (meant : Meant) →
      slice_get b.tree place ≡ Some (h.Ident field x ctxt role) →
      denoted_at b.reading Es b.tree place ≡ Some d → NameMeans (sense_of b) inner d meant →
      Means (sense_of b) inner (taken place (h.Ident field x ctxt role) ∷ es) l →
      (more : List Mark) × Means (sense_of b) inner es more
      × (name_marks field (path_at b.tree place) x meant ++ more ≡ l)
  named-of {place = place} {field = field} {x = x} d meant there denotes means
      (n.named {marks = more} e other is its rest) =
      let same : d ≡ e = same_Some d e (sym denotes ∙ is) in
      let meants =
      one-meant means (subst (λ c. NameMeans (sense_of b) inner c other) (sym same) its) in
      (more, rest, ap (λ (m : Meant). name_marks field (path_at b.tree place) x m ++ more) meants)
  named-of {place = place} {field = field} {ctxt = ctxt} {x = x} d meant there denotes means
      (n.word rest) =
      absurd (no-word b.reading b.tree place field ctxt x d there denotes)

  word-of : {place field ctxt : ℕ} {x : Text} {es : List Element} {l : List Mark} →
      slice_get b.tree place ≡ Some (h.Ident field x ctxt IsWord) →
      Means (sense_of b) inner (taken place (h.Ident field x ctxt IsWord) ∷ es) l →
      (more : List Mark) × Means (sense_of b) inner es more × (Word field x ∷ more ≡ l)
  word-of {place = place} {field = field} {ctxt = ctxt} {x = x} there
      (n.named d meant denotes means rest) =
      absurd (no-word b.reading b.tree place field ctxt x d there denotes)
  word-of there (n.word rest) = (_, rest, refl)

  nothing-of : {l : List Mark} → Means (sense_of b) inner [] l → [] ≡ l
  nothing-of n.finished = refl

  -- elements have one meaning
  one-means : {es : List Element} {k l : List Mark} → Means (sense_of b) inner es k →
      Means (sense_of b) inner es l → AllTaken b.tree es → k ≡ l
  one-means n.finished other all = nothing-of other
  one-means (n.replaced by is rest) other all = absurd is
  one-means (n.begun {place = place} {field = field} {head = head} none rest) other all =
      let its = begun-of other in
      ap (λ ms. begin_marks b.tree place field (path_at b.tree place) head ++ ms)
      (one-means rest its.1 all.1)
      ∙ its.2
  one-means (n.ended {place = place} rest) other all =
      let its = ended-of other in
      ap (λ ms. end_marks b.tree (path_at b.tree place) ++ ms) (one-means rest its.1 all.1) ∙ its.2
  one-means (n.empty {field = field} rest) other all =
      let its = empty-of other in ap (λ ms. Empty field ∷ ms) (one-means rest its.1 all.1) ∙ its.2
  one-means (n.named {place = place} {field = field} {sym = x} d meant denotes means rest) other
      all =
      let its = named-of d meant all.0 denotes means other in
      ap (λ ms. name_marks field (path_at b.tree place) x meant ++ ms)
      (one-means rest its.1 all.1)
      ∙ its.2
  one-means (n.word {field = field} {sym = x} rest) other all =
      let its = word-of all.0 other in
      ap (λ ms. Word field x ∷ ms) (one-means rest its.1 all.1) ∙ its.2
  one-means (n.adds_begin rest) other all = absurd all
  one-means (n.adds_end rest) other all = absurd all
  one-means (n.adds_name meant its rest) other all = absurd all

-- items of a list stand at their places
tops-taken : {tree : List Item} (s : Spot) (items : List (List Item)) (tail : List Item) →
    IsSpotAt tree s (flat items ++ tail) → (i : ℕ) (top : TopItem) →
    slice_get (placed s.place items) i ≡ Some top → AllTaken tree (elements_of top)
tops-taken s [] tail at i top there = absurd (none-some top there)
tops-taken {tree = tree} s (item ∷ items) tail at zero top there =
    subst (λ t. AllTaken tree (elements_of t)) (same_Some _ top there)
    (taken-there s item (flat items ++ tail)
    (at-as refl (append_assoc item (flat items) tail) at))
tops-taken s (item ∷ items) tail at (suc i) top there =
    tops-taken (fold past s item) items tail
    (at-behind item (flat items ++ tail) (at-as refl (append_assoc item (flat items) tail) at)) i
    top (ap (λ place. slice_get (placed place items) i) (fold-place s item) ∙ there)

-- ONE: an item of a bundle means one thing
pub means-one : (reading : Reading) (labels : Labelling) (items : List (List Item))
    (plan : List Cause) → IsOneToOne labels → AllOf IsSingle items → (i : ℕ) (top : TopItem) →
    slice_get (top_items (joined_items items)) i ≡ Some top → (k l : List Mark) →
    ItemMeans (labelled (joined_items items) reading (pairing_of labels items plan)) top k →
    ItemMeans (labelled (joined_items items) reading (pairing_of labels items plan)) top l → k ≡ l
means-one reading labels items plan one single i top there k l first second =
    let b : Labelled = labelled (joined_items items) reading (pairing_of labels items plan) in
    one-means b one (inner_bindings (sense_of b).view top.start (elements_of top))
    (λ x. outside_position top.start (Global x)
    (filter_map (denoted (sense_of b).view) (elements_of top)) refl) first second
    (tops-taken (past start (h.Open 0 h.Module)) items (h.Close ∷ [])
    (at-past (h.Open 0 h.Module) (flat items ++ h.Close ∷ []) (at-first (joined_items items))) i top
    (ap (λ l. slice_get l i) (sym (top_items-joined items single)) ∙ there))
