-- By symbol, items and the same items cleared correspond.
-- Items of a module of which identifiers change correspond, where names go on to denote what they
-- did.
-- The order that is found of a block's items alone is good of the same items in the merged
-- modules, and in these when they are named.
-- A good order of items of merged modules stays one when these are rid of keywords.
use Rattle.std.proofs.Common.{◌≡◌, ◌↔◌, ℕ, suc, ◌+◌, ◌&&◌, ◌||◌, ◌==◌, Bool, true, not, List, [], ◌∷◌, Option, None, codes, map, length, slice_get, option_map, refl, sym, ap, ◌∙◌, subst, false, Some, cond}
use Rattle.std.specs.Prelude.{if◌then◌else◌, IsTrue, ◌≢◌}
use Rattle.std.specs.List.{AllZip, list_any}
use Rattle.std.proofs.lemmas.Option.{same_Some, slice_get-map, none-some}
use Rattle.std.proofs.lemmas.Bool.{false≢true, and_parts, and_from, eqb-true}
use Rattle.std.proofs.lemmas.Slice.Eq.{bytes_eq-Decides}
use Rattle.std.specs.Str.{bytes_eq}
use Rattle.bundle_syntax.specs.Item as h
use Rattle.bundle_syntax.specs.Item.{Item, Head}
use Rattle.bundle_rules.specs.Places.{Around, Occurrence, occurrences, is_binding}
use Rattle.bundle_rules.specs.Scopes.{Es, Top}
use Rattle.bundle_rules.specs.Declarations.{BySymbol, Reading, declared, ByContext, Way}
use Rattle.bundle_rules.specs.Homes.{is_parameters}
use Rattle.bundle_rules.specs.Denotes.{Denoted, denoted_at, Bound, Global, denoted_of, denoted_as, DenoteAlike, denotations}
use Rattle.bundle_rules.specs.Deferred.{runs_later, is_in_initialiser, is_initialiser}
use Rattle.bundle_rules.specs.Nodes.{in_field, node_at, child, parts}
use Rattle.bundle_rules.specs.Entries.{is_call_head}
use Rattle.bundle_rules.specs.Reads.{is_member, head_plain_word, plain_word, property_of}
use Rattle.bundle_rules.specs.Statements.{TopItem, placed, top_items}
use Rattle.bundle_rules.specs.Cleared.{cleared_head, cleared, without_notes}
use Rattle.bundle_rules.specs.Order.{IsGoodOrder, group_of, passes_assignments, assigns, is_assigned, is_chain_step, is_parenthesis, ends_chain, roots_chain, is_text, is_prototype_read, is_in_assign_of, is_any_call, is_in_argument, is_declarator, is_nothing, has_no_value, is_object_at, is_global_named, denoted_in, is_of_nothing, is_of_scope}
use Rattle.bundle_rules.proofs.HeadLemmas.{of_head}
use Rattle.bundle_rules.proofs.PathLemmas.{cleared_path, cleared_occurrence, occurrences-cleared}
use Rattle.bundle_rules.proofs.NodeLemmas.{child-cleared, in_field-cleared, begins_with-cleared, parts-cleared}
use Rattle.bundle_rules.proofs.ReadLemmas.{node_at-cleared}
use Rattle.bundle_rules.proofs.DenotesLemmas.{scopes_around-cleared, denoted_at-cleared, denotations-cleared}
use Rattle.bundle_rules.specs.Mentions.{same_denoted}
use Rattle.bundle_rules.specs.Rebuilds.{Change, changes_to, with_idents}
use Rattle.bundle_rules.specs.Idents.{idents}
use Rattle.bundle_rules.specs.Renamed.{KeepsNames, IsRidOfKeywords}
use Rattle.bundle_rules.specs.Keywords.{IsKeywordFree, keyword_free_of, has_right_context, has_ident, is_unused_context}
use Rattle.bundle_tree_places.specs.Edits.{Anywhere, Edits, Inside, node}
use Rattle.bundle_tree_places.proofs.EditsLemmas.{rebuilt_so}
use Rattle.bundle_order.proofs.RenumberLemmas.{zip-at, zip-back}
use Rattle.bundle_scope_names.proofs.HomesLemmas.{iff}
use Rattle.bundle_order.proofs.EventLemmas.{is_top-of, same-top}
use Rattle.bundle_merge_theory.specs.grouped.Standing.{SameFlags, object_in, ItemsAlike, StandsInItem, Correspond}
use Rattle.bundle_merge_theory.specs.grouped.Renaming.{AtOne, HasWays, HasObjects, TopsKept}
use Rattle.bundle_merge_theory.proofs.grouped.AlikeLemmas.{owners-refl, good_order-corresponds, count_before, Listed, listed-in, denotes-listed, object-listed, as-listed}
use Rattle.bundle_merge_theory.specs.grouped.Alike.{OwnersAlike}
use Rattle.bundle_merge_theory.specs.grouped.Paths.{NameAlike}
use Rattle.bundle_merge_theory.specs.grouped.Forms.{FormAlike}
use Rattle.bundle_merge_theory.specs.grouped.Placed.{ObjectsAlike}
use Rattle.bundle_merge_theory.proofs.grouped.TopLemmas.{same-refl, same-sym}
use Rattle.bundle_merge_theory.proofs.grouped.FormLemmas.{form-path, way-alike, top_first-alike, binding-top}
use Rattle.bundle_merge_theory.proofs.grouped.PlacedLemmas.{names-edited, edited-alike}
use Rattle.bundle_merge_theory.proofs.grouped.PairLemmas.{Pair, module-paired, chosen-paired}
use Rattle.bundle_merge_theory.proofs.walked.Clearing.{twice}
use Rattle.bundle_merge_theory.specs.grouped.Contexts.{BindsOwnContexts}

-- ---- nodes
plain_word-cleared : (node : List Item) → plain_word (cleared node) ≡ plain_word node
plain_word-cleared (h.Open field head ∷ rest) =
    of_head head_plain_word (λ meta. (refl, refl, refl, λ kind. refl)) head
plain_word-cleared (h.Ident field symbol ctxt role ∷ rest) = refl
plain_word-cleared (h.Hole field ∷ rest) = refl
plain_word-cleared (h.Close ∷ rest) = refl
plain_word-cleared [] = refl

property_of-cleared : (node : List Item) → property_of (cleared node) ≡ property_of node
property_of-cleared node =
    λ i. if begins_with-cleared is_member
    (of_head is_member (λ meta. (refl, refl, refl, λ kind. refl))) node i then
    (ap plain_word (child-cleared 1 node) ∙ plain_word-cleared (child 1 node)) i else None

pub property_at : (items : List Item) (place : ℕ) →
    property_of (node_at (cleared items) place) ≡ property_of (node_at items place)
property_at items place =
    ap property_of (node_at-cleared items place) ∙ property_of-cleared (node_at items place)

nothing-map : (nodes : List (List Item)) → is_nothing (map cleared nodes) ≡ is_nothing nodes
nothing-map [] = refl
nothing-map (node ∷ more) = refl

pub nothing_at : (items : List Item) (place : ℕ) →
    is_nothing (in_field 1 (node_at (cleared items) place))
    ≡ is_nothing (in_field 1 (node_at items place))
nothing_at items place =
    ap (λ l. is_nothing (in_field 1 l)) (node_at-cleared items place)
    ∙ (ap is_nothing (in_field-cleared 1 (node_at items place))
    ∙ nothing-map (in_field 1 (node_at items place)))

-- ---- paths
assigns-cleared : (head : Head) (field : ℕ) →
    assigns (cleared_head head) field ≡ assigns head field
assigns-cleared head field =
    of_head (λ it. assigns it field) (λ meta. (refl, refl, refl, λ kind. refl)) head

passes-cleared : (head : Head) (field : ℕ) →
    passes_assignments (cleared_head head) field ≡ passes_assignments head field
passes-cleared head field =
    of_head (λ it. passes_assignments it field) (λ meta. (refl, refl, refl, λ kind. refl)) head

step-cleared : (head : Head) (field : ℕ) →
    is_chain_step (cleared_head head) field ≡ is_chain_step head field
step-cleared head field =
    of_head (λ it. is_chain_step it field) (λ meta. (refl, refl, refl, λ kind. refl)) head

parenthesis-cleared : (head : Head) → is_parenthesis (cleared_head head) ≡ is_parenthesis head
parenthesis-cleared head = of_head is_parenthesis (λ meta. (refl, refl, refl, λ kind. refl)) head

call-cleared : (head : Head) → is_any_call (cleared_head head) ≡ is_any_call head
call-cleared head = of_head is_any_call (λ meta. (refl, refl, refl, λ kind. refl)) head

call_head-cleared : (head : Head) → is_call_head (cleared_head head) ≡ is_call_head head
call_head-cleared head = of_head is_call_head (λ meta. (refl, refl, refl, λ kind. refl)) head

declarator-cleared : (head : Head) → is_declarator (cleared_head head) ≡ is_declarator head
declarator-cleared head = of_head is_declarator (λ meta. (refl, refl, refl, λ kind. refl)) head

initialiser-cleared : (head : Head) (field : ℕ) →
    is_initialiser (cleared_head head) field ≡ is_initialiser head field
initialiser-cleared head field =
    of_head (λ it. is_initialiser it field) (λ meta. (refl, refl, refl, λ kind. refl)) head

is_assigned-cleared : (path : List Around) → is_assigned (cleared_path path) ≡ is_assigned path
is_assigned-cleared [] = refl
is_assigned-cleared (node ∷ outer) =
    λ i. assigns-cleared node.head node.field i
    || (passes-cleared node.head node.field i && is_assigned-cleared outer i)

ends_chain-cleared : (path : List Around) → ends_chain (cleared_path path) ≡ ends_chain path
ends_chain-cleared [] = refl
ends_chain-cleared (node ∷ outer) =
    λ i. ((step-cleared node.head node.field i || parenthesis-cleared node.head i)
    && ends_chain-cleared outer i) || is_assigned-cleared (node ∷ outer) i

roots_chain-cleared : (path : List Around) → roots_chain (cleared_path path) ≡ roots_chain path
roots_chain-cleared [] = refl
roots_chain-cleared (node ∷ outer) =
    λ i. (step-cleared node.head node.field i && ends_chain-cleared outer i)
    || (parenthesis-cleared node.head i && roots_chain-cleared outer i)

is_in_argument-cleared : (path : List Around) →
    is_in_argument (cleared_path path) ≡ is_in_argument path
is_in_argument-cleared [] = refl
is_in_argument-cleared (node ∷ outer) =
    λ i. (call-cleared node.head i && (node.field == 1)) || is_in_argument-cleared outer i

initialiser_path-cleared : (path : List Around) →
    is_in_initialiser (cleared_path path) ≡ is_in_initialiser path
initialiser_path-cleared [] = refl
initialiser_path-cleared (node ∷ outer) =
    λ i. initialiser-cleared node.head node.field i || initialiser_path-cleared outer i

later-cleared : (path : List Around) → runs_later (cleared_path path) ≡ runs_later path
later-cleared path =
    λ i. list_any is_parameters (scopes_around-cleared Es path i)
    || initialiser_path-cleared path i

-- nodes that begin at the same places of two lists, with the same words and with a second field
-- alike
module _ (items its : List Item) (property : (place : ℕ) → property_of (node_at its place)
    ≡ property_of (node_at items place)) (nothing : (place : ℕ) →
    is_nothing (in_field 1 (node_at its place)) ≡ is_nothing (in_field 1 (node_at items place)))
  where
    has_no_value-cleared : (path : List Around) →
        has_no_value its (cleared_path path) ≡ has_no_value items path
    has_no_value-cleared [] = refl
    has_no_value-cleared (node ∷ outer) =
        λ i. (declarator-cleared node.head i && nothing node.begins i)
        || (not (declarator-cleared node.head i) && has_no_value-cleared outer i)

    prototype_read-cleared : (path : List Around) →
        is_prototype_read its (cleared_path path) ≡ is_prototype_read items path
    prototype_read-cleared [] = refl
    prototype_read-cleared (node ∷ outer) =
        λ i. (node.field == 0) && is_text (codes "prototype") (property node.begins i)

    in_assign-cleared : (test its_test : ℕ → Bool) → ((place : ℕ) → its_test place ≡ test place) →
        (path : List Around) →
        is_in_assign_of its_test its (cleared_path path) ≡ is_in_assign_of test items path
    in_assign-cleared test its_test same [] = refl
    in_assign-cleared test its_test same (node ∷ outer) =
        λ i. (((call_head-cleared node.head i && (node.field == 1))
        && is_text (codes "assign") (property (node.begins + 1) i)) && same (node.begins + 2) i)
        || in_assign-cleared test its_test same outer i

    -- an identifier with this role and the path with nothing noted
    pub flags-noted : (test its_test : ℕ → Bool) → ((place : ℕ) → its_test place ≡ test place) →
        (o p : Occurrence) → p.role ≡ o.role → p.path ≡ cleared_path o.path →
        SameFlags items its test its_test o p
    flags-noted test its_test same o p role path = record {
      declares = ap is_binding (sym role);
      later = sym (ap runs_later path ∙ later-cleared o.path);
      assigned = sym (ap is_assigned path ∙ is_assigned-cleared o.path);
      argument = sym (ap is_in_argument path ∙ is_in_argument-cleared o.path);
      chain = sym (ap roots_chain path ∙ roots_chain-cleared o.path);
      prototype =
          sym (ap (λ (q : List Around). is_prototype_read its q && is_in_assign_of its_test its q)
          path ∙ (λ i. prototype_read-cleared o.path i
          && in_assign-cleared test its_test same o.path i));
      valueless =
          sym (ap (λ (q : List Around). is_binding p.role && has_no_value its q) path
          ∙ (λ i. is_binding (role i) && has_no_value-cleared o.path i));
    }

flags-cleared : (items : List Item) (test its_test : ℕ → Bool) →
    ((place : ℕ) → its_test place ≡ test place) → (o : Occurrence) →
    SameFlags items (cleared items) test its_test o (cleared_occurrence o)
flags-cleared items test its_test same o =
    flags-noted items (cleared items) (property_at items) (nothing_at items) test its_test same o
    (cleared_occurrence o) refl refl

-- ---- items
-- the item that stands there in the cleared tree
abbrev pub cleared_top : TopItem → TopItem
cleared_top item = record { start = item.start; items = cleared item.items }

pub length-cleared : (items : List Item) → length (cleared items) ≡ length items
length-cleared [] = refl
length-cleared (x ∷ items) = ap (λ n. suc n) (length-cleared items)

placed-cleared : (start : ℕ) (nodes : List (List Item)) →
    placed start (map cleared nodes) ≡ map cleared_top (placed start nodes)
placed-cleared start [] = refl
placed-cleared start (node ∷ more) =
    λ i. record { start = start; items = cleared node }
    ∷ (ap (λ n. placed (start + n) (map cleared more)) (length-cleared node)
    ∙ placed-cleared (start + length node) more) i

pub top_items-cleared : (tree : List Item) →
    top_items (cleared tree) ≡ map cleared_top (top_items tree)
top_items-cleared tree = ap (placed 1) (parts-cleared tree) ∙ placed-cleared 1 (parts tree)

pub at_one-cleared : (tree : List Item) (item its : TopItem) → AtOne tree (cleared tree) item its →
    its ≡ cleared_top item
at_one-cleared tree item its one =
    same_Some its (cleared_top item) (sym one.there
    ∙ (ap (λ l. slice_get l one.at) (top_items-cleared tree)
    ∙ (slice_get-map cleared_top (top_items tree) one.at
    ∙ ap (λ (o : Option TopItem). option_map cleared_top o) one.here)))

object-cleared : (tree : List Item) (place : ℕ) →
    is_object_at BySymbol (cleared tree) place ≡ is_object_at BySymbol tree place
object-cleared tree place =
    ap (λ (d : Option Denoted). is_global_named (codes "Object") d && true)
    (denoted_at-cleared Es tree place)

pub zip-same : {X Y : Type 0} (R : X → Y → Type 0) (f : X → Y) → ((x : X) → R x (f x)) →
    (xs : List X) → AllZip R xs (map f xs)
zip-same R f each [] = tt
zip-same R f each (x ∷ xs) = (each x, zip-same R f each xs)

item-cleared : (tree : List Item) (item : TopItem) →
    ItemsAlike BySymbol tree BySymbol (cleared tree) item (cleared_top item)
item-cleared tree item =
    subst (λ l. AllZip (SameFlags item.items (cleared item.items) (object_in BySymbol tree item)
    (object_in BySymbol (cleared tree) (cleared_top item))) (occurrences item.items) l)
    (sym (occurrences-cleared item.items))
    (zip-same (SameFlags item.items (cleared item.items) (object_in BySymbol tree item)
    (object_in BySymbol (cleared tree) (cleared_top item))) cleared_occurrence
    (flags-cleared item.items (object_in BySymbol tree item)
    (object_in BySymbol (cleared tree) (cleared_top item))
    (λ place. object-cleared tree (item.start + place))) (occurrences item.items))

items-cleared : (tree : List Item) (items its : List TopItem) →
    AllZip (AtOne tree (cleared tree)) items its →
    AllZip (ItemsAlike BySymbol tree BySymbol (cleared tree)) items its
items-cleared tree [] [] zip = tt
items-cleared tree [] (y ∷ its) zip = absurd zip
items-cleared tree (x ∷ items) [] zip = absurd zip
items-cleared tree (x ∷ items) (y ∷ its) zip = (
  subst (λ (z : TopItem). ItemsAlike BySymbol tree BySymbol (cleared tree) x z)
      (sym (at_one-cleared tree x y zip.0)) (item-cleared tree x),
  items-cleared tree items its zip.1,
)

module _ (tree : List Item) (items its : List TopItem)
    (zip : AllZip (AtOne tree (cleared tree)) items its) where
  -- what an identifier denotes is the same
  denoted-same : (s i : ℕ) (x x' : TopItem) (o o' : Occurrence) → StandsInItem items s i x o →
      StandsInItem its s i x' o' →
      denoted_in BySymbol (cleared tree) x' o' ≡ denoted_in BySymbol tree x o
  denoted-same s i x x' o o' at at' =
      let found = zip-at (AtOne tree (cleared tree)) items its s x zip at.item_there in
      let is : x' ≡ cleared_top x = same_Some x' found.0 (sym at'.item_there ∙ found.1)
      ∙ at_one-cleared tree x found.0 found.2 in
      let name : o' ≡ cleared_occurrence o = same_Some o' (cleared_occurrence o) (sym at'.there
      ∙ (ap (λ (y : TopItem). slice_get (occurrences y.items) i) is
      ∙ (ap (λ l. slice_get l i) (occurrences-cleared x.items)
      ∙ (slice_get-map cleared_occurrence (occurrences x.items) i
      ∙ ap (λ (q : Option Occurrence). option_map cleared_occurrence q) at.there)))) in
      ap (λ (y : TopItem). denoted_at BySymbol Es (cleared tree) (y.start + o'.place)) is
      ∙ (ap (λ (q : Occurrence). denoted_at BySymbol Es (cleared tree) (x.start + q.place)) name
      ∙ denoted_at-cleared Es tree (x.start + o.place))

  pub cleared-correspond : Correspond BySymbol Top tree items BySymbol Top (cleared tree) its
  cleared-correspond = record {
    alike = items-cleared tree items its zip;
    tops = λ s i t j x y x' y' o p o' p' at_o at_p at_o' at_p' binds.
        let one = denoted-same s i x x' o o' at_o at_o' in
        let two = denoted-same t j y y' p p' at_p at_p' in (
          λ both. record {
            one = both.one;
            two = both.two;
            first = one ∙ both.first;
            second = two
                ∙ both.second;
            of_top = both.of_top;
            same = both.same;
          },
          λ both. record {
            one = both.one;
            two = both.two;
            first = sym one ∙ both.first;
            second = sym two ∙ both.second;
            of_top = both.of_top;
            same = both.same;
          },
        );
  }

  -- by symbol, an order is good exactly if it is when contexts and notes are cleared
  pub cleared-good_order : (owners : List (Option ℕ)) (order : List ℕ) →
      IsGoodOrder (group_of BySymbol Top tree items owners) order
      ↔ IsGoodOrder (group_of BySymbol Top (cleared tree) its owners) order
  cleared-good_order owners order =
      good_order-corresponds BySymbol Top tree items BySymbol Top (cleared tree) its owners owners
      (owners-refl owners) cleared-correspond order

-- ---- one binding of the top
pub one-top : (d e : Denoted) → is_of_scope Top d ≡ true → same_denoted d e ≡ true → d ≡ e
one-top d e top t =
    let it = is_top-of d top in
    it.1 ∙ sym (same-top it.0 e (ap (same_denoted e) (sym it.1) ∙ same-sym d e t))

-- ---- the global `Object`
global-is : (d : Denoted) → is_global_named (codes "Object") (Some d) ≡ true →
    d ≡ Global (codes "Object")
global-is (Bound scope name) e = absurd (false≢true e)
global-is (Global y) e =
    ap (λ (s : List ℕ). Global s) (sym ((bytes_eq-Decides (codes "Object") y).0 e))

global-from : (d : Denoted) → d ≡ Global (codes "Object") →
    is_global_named (codes "Object") (Some d) ≡ true
global-from d e =
    ap (λ (x : Denoted). is_global_named (codes "Object") (Some x)) e
    ∙ (bytes_eq-Decides (codes "Object") (codes "Object")).1 refl

-- ---- what is declared at the top
pub tops-edited : (reading its_reading : Reading) (tree its_tree : List Item)
    {changes rest : List Change} →
    Edits Anywhere changes tree its_tree rest → HasWays tree →
    TopsKept reading tree its_reading its_tree
tops-edited reading its_reading tree its_tree edits ways = record {
  top = λ n o p e e' binds.
      let never : ℕ → Bool = λ place. false in
      let zip = names-edited never never (record { none = λ place x rest at unnamed. refl })
      (record { none = λ place x rest at unnamed. refl }) edits (λ i o p at its. refl) in
      let found = zip-at (NameAlike tree its_tree never never) (occurrences tree)
      (occurrences its_tree) n o zip e in
      let alike : NameAlike tree its_tree never never o p =
      subst (λ (q : Occurrence). NameAlike tree its_tree never never o q)
      (same_Some found.0 p (sym found.1 ∙ e')) found.2 in
      let form : FormAlike o.path p.path = form-path alike.path in
      let way = ways.way n o e binds in
      binding-top reading (declared reading Es tree) o way.0 binds way.1
      ∙ (top_first-alike way.0 form
      ∙ sym (binding-top its_reading (declared its_reading Es its_tree) p way.0
      (ap is_binding (sym alike.role) ∙ binds) (sym (way-alike form) ∙ way.1)));
}

module _ (reading its_reading : Reading) (tree its_tree : List Item)
    (denote : DenoteAlike reading tree its_reading its_tree) (objects : HasObjects reading tree)
    (its_objects : HasObjects its_reading its_tree)
    (tops : TopsKept reading tree its_reading its_tree) where
  pub objects-alike : (item its : TopItem) → Pair tree its_tree item its →
      ObjectsAlike reading tree its_reading its_tree item its
  objects-alike item its pair i o p e e' =
      let here : Listed tree item i o = listed-in tree item pair.direct i o e in
      let there : Listed its_tree its i p = listed-in its_tree its pair.its_direct i p e' in
      let n : ℕ = count_before tree item.start + i in
      let same : count_before its_tree its.start + i ≡ n = ap (λ k. k + i) (sym pair.counted) in
      let at_n : slice_get (occurrences its_tree) n ≡ Some there.name =
      ap (slice_get (occurrences its_tree)) (sym same) ∙ there.there in
      let d : Denoted = denoted_of reading Es (declared reading Es tree) here.name in
      let d' : Denoted = denoted_of its_reading Es (declared its_reading Es its_tree) there.name in
      let as_d : denoted_as reading Es tree n ≡ Some d =
      as-listed reading tree n here.name here.there in
      let as_d' : denoted_as its_reading Es its_tree n ≡ Some d' =
      as-listed its_reading its_tree n there.name at_n in
      let to : (is_global_named (codes "Object") (Some d)
      && is_of_nothing reading (Some here.name)) ≡ true →
      (is_global_named (codes "Object") (Some d')
      && is_of_nothing its_reading (Some there.name)) ≡ true =
      λ t.
      let is : d ≡ Global (codes "Object") =
      global-is d (and_parts (is_global_named (codes "Object") (Some d))
      (is_of_nothing reading (Some here.name)) t).0 in
      let its_is : d' ≡ Global (codes "Object") =
      same_Some d' (Global (codes "Object")) (sym as_d'
      ∙ (denote.globals n (codes "Object")).0 (as_d ∙ ap (λ (x : Denoted). Some x) is)) in
      and_from (is_global_named (codes "Object") (Some d'))
      (is_of_nothing its_reading (Some there.name)) (global-from d' its_is)
      (its_objects.unbound n there.name at_n its_is) in
      let from : (is_global_named (codes "Object") (Some d')
      && is_of_nothing its_reading (Some there.name)) ≡ true →
      (is_global_named (codes "Object") (Some d) && is_of_nothing reading (Some here.name))
      ≡ true =
      λ t.
      let its_is : d' ≡ Global (codes "Object") =
      global-is d' (and_parts (is_global_named (codes "Object") (Some d'))
      (is_of_nothing its_reading (Some there.name)) t).0 in
      let is : d ≡ Global (codes "Object") = same_Some d (Global (codes "Object")) (sym as_d
      ∙ (denote.globals n (codes "Object")).1 (as_d'
      ∙ ap (λ (x : Denoted). Some x) its_is)) in
      and_from (is_global_named (codes "Object") (Some d))
      (is_of_nothing reading (Some here.name)) (global-from d is)
      (objects.unbound n here.name here.there is) in
      object-listed reading tree item i o here
      ∙ (iff _ _ to from ∙ sym (object-listed its_reading its_tree its i p there))

  items-alike : (items its : List TopItem) → AllZip (Pair tree its_tree) items its →
      AllZip (ItemsAlike reading tree its_reading its_tree) items its
  items-alike [] [] zip = tt
  items-alike [] (y ∷ its) zip = absurd zip
  items-alike (x ∷ items) [] zip = absurd zip
  items-alike (x ∷ items) (y ∷ its) zip = (
    edited-alike reading tree its_reading its_tree x y zip.0.edited
        (record { rest = zip.0.direct.rest; is = zip.0.direct.is })
        (record { rest = zip.0.its_direct.rest; is = zip.0.its_direct.is })
        (objects-alike x y zip.0),
    items-alike items its zip.1,
  )

  pub renamed-correspond : (items its : List TopItem) → AllZip (Pair tree its_tree) items its →
      Correspond reading Top tree items its_reading Top its_tree its
  renamed-correspond items its zip = record {
    alike = items-alike items its zip;
    tops = λ s i t j x y x' y' o p o' p' at_o at_p at_o' at_p' binds.
        let pair_at : (k : ℕ) (u u' : TopItem) → slice_get items k ≡ Some u →
        slice_get its k ≡ Some u' → Pair tree its_tree u u' =
        λ k u u' e e'. let found = zip-at (Pair tree its_tree) items its k u zip e in
        subst (λ (z : TopItem). Pair tree its_tree u z)
        (same_Some found.0 u' (sym found.1 ∙ e')) found.2 in
        let one : Pair tree its_tree x x' = pair_at s x x' at_o.item_there at_o'.item_there in
        let two : Pair tree its_tree y y' = pair_at t y y' at_p.item_there at_p'.item_there in
        let o_here : Listed tree x i o = listed-in tree x one.direct i o at_o.there in
        let o_there : Listed its_tree x' i o' = listed-in its_tree x' one.its_direct i o'
        at_o'.there in
        let p_here : Listed tree y j p = listed-in tree y two.direct j p at_p.there in
        let p_there : Listed its_tree y' j p' = listed-in its_tree y' two.its_direct j p'
        at_p'.there in
        let n : ℕ = count_before tree x.start + i in
        let m : ℕ = count_before tree y.start + j in
        let o_at_n : slice_get (occurrences its_tree) n ≡ Some o_there.name =
        ap (λ k. slice_get (occurrences its_tree) (k + i)) one.counted ∙ o_there.there in
        let p_at_m : slice_get (occurrences its_tree) m ≡ Some p_there.name =
        ap (λ k. slice_get (occurrences its_tree) (k + j)) two.counted ∙ p_there.there in
        let d_o : Denoted = denoted_of reading Es (declared reading Es tree) o_here.name in
        let d_p : Denoted = denoted_of reading Es (declared reading Es tree) p_here.name in
        let e_o : Denoted = denoted_of its_reading Es (declared its_reading Es its_tree)
        o_there.name in
        let e_p : Denoted = denoted_of its_reading Es (declared its_reading Es its_tree)
        p_there.name in
        let as_o : denoted_as reading Es tree n ≡ Some d_o =
        as-listed reading tree n o_here.name o_here.there in
        let as_p : denoted_as reading Es tree m ≡ Some d_p =
        as-listed reading tree m p_here.name p_here.there in
        let its_o : denoted_as its_reading Es its_tree n ≡ Some e_o =
        as-listed its_reading its_tree n o_there.name o_at_n in
        let its_p : denoted_as its_reading Es its_tree m ≡ Some e_p =
        as-listed its_reading its_tree m p_there.name p_at_m in
        let top : is_of_scope Top d_p ≡ is_of_scope Top e_p =
        tops.top m p_here.name p_there.name p_here.there p_at_m (ap is_binding p_here.role
        ∙ binds) in (
          λ both.
              let first : d_o ≡ both.one =
              same_Some d_o both.one (sym (denotes-listed reading tree x i o o_here)
              ∙ both.first) in
              let second : d_p ≡ both.two =
              same_Some d_p both.two (sym (denotes-listed reading tree y j p p_here)
              ∙ both.second) in
              let equal : d_o ≡ d_p = first
              ∙ (one-top both.one both.two both.of_top both.same ∙ sym second) in
              let its_equal : e_o ≡ e_p =
              same_Some e_o e_p (sym its_o
              ∙ ((denote.same n m).0 (as_o ∙ (ap (λ (z : Denoted). Some z) equal ∙ sym as_p))
              ∙ its_p)) in
              record {
                one = e_o;
                two = e_p;
                first = denotes-listed its_reading its_tree x' i o' o_there;
                second = denotes-listed its_reading its_tree y' j p' p_there;
                of_top =
                    ap (is_of_scope Top) its_equal
                    ∙ (sym top ∙ (ap (is_of_scope Top) (sym equal ∙ first) ∙ both.of_top));
                same = ap (same_denoted e_o) (sym its_equal) ∙ same-refl e_o;
              },
          λ both.
              let first : e_o ≡ both.one =
              same_Some e_o both.one (sym (denotes-listed its_reading its_tree x' i o' o_there)
              ∙ both.first) in
              let second : e_p ≡ both.two =
              same_Some e_p both.two (sym (denotes-listed its_reading its_tree y' j p' p_there)
              ∙ both.second) in
              let equal : e_o ≡ e_p = first
              ∙ (one-top both.one both.two both.of_top both.same ∙ sym second) in
              let its_equal : d_o ≡ d_p =
              same_Some d_o d_p (sym as_o
              ∙ ((denote.same n m).1 (its_o ∙ (ap (λ (z : Denoted). Some z) equal ∙ sym its_p))
              ∙ as_p)) in
              record {
                one = d_o;
                two = d_p;
                first = denotes-listed reading tree x i o o_here;
                second = denotes-listed reading tree y j p p_here;
                of_top =
                    ap (is_of_scope Top) its_equal
                    ∙ (top ∙ (ap (is_of_scope Top) (sym equal ∙ first) ∙ both.of_top));
                same = ap (same_denoted d_o) (sym its_equal) ∙ same-refl d_o;
              },
        );
  }

-- RENAMED: an order of items of a module is good exactly if it is of the same items when
-- identifiers have changed and names denote what they did
pub renamed-good_order : (reading its_reading : Reading) (f : ℕ) {changes rest : List Change}
    {inside made : List Item} →
    Edits Anywhere changes inside made rest →
    DenoteAlike reading (node f h.Module inside) its_reading (node f h.Module made) →
    HasWays (node f h.Module inside) → HasObjects reading (node f h.Module inside) →
    HasObjects its_reading (node f h.Module made) → (items its : List TopItem) →
    AllZip (AtOne (node f h.Module inside) (node f h.Module made)) items its →
    (owners its_owners : List (Option ℕ)) → OwnersAlike owners its_owners → (order : List ℕ) →
    IsGoodOrder (group_of reading Top (node f h.Module inside) items owners) order
    ↔ IsGoodOrder (group_of its_reading Top (node f h.Module made) its its_owners) order
renamed-good_order reading its_reading f {inside = inside} {made = made} edits denote ways objects
    its_objects items its chosen owners its_owners of_one order =
    good_order-corresponds reading Top (node f h.Module inside) items its_reading Top
    (node f h.Module made) its owners its_owners of_one
    (renamed-correspond reading its_reading (node f h.Module inside) (node f h.Module made) denote
    objects its_objects
    (tops-edited reading its_reading (node f h.Module inside) (node f h.Module made)
    (Inside f h.Module refl edits) ways) items its
    (chosen-paired (node f h.Module inside) (node f h.Module made) (module-paired f f edits) items
    its chosen)) order

-- ---- cleared twice
cleared-twice : (tree : List Item) → cleared (cleared tree) ≡ cleared tree
cleared-twice [] = refl
cleared-twice (h.Open field head ∷ rest) = λ i. h.Open field (twice head i) ∷ cleared-twice rest i
cleared-twice (h.Ident field x ctxt role ∷ rest) =
    λ i. h.Ident field x 0 role ∷ cleared-twice rest i
cleared-twice (h.Hole field ∷ rest) = λ i. h.Hole field ∷ cleared-twice rest i
cleared-twice (h.Close ∷ rest) = λ i. h.Close ∷ cleared-twice rest i

cleared-noteless : (tree : List Item) → cleared (without_notes tree) ≡ cleared tree
cleared-noteless [] = refl
cleared-noteless (h.Open field head ∷ rest) =
    λ i. h.Open field (twice head i) ∷ cleared-noteless rest i
cleared-noteless (h.Ident field x ctxt role ∷ rest) =
    λ i. h.Ident field x 0 role ∷ cleared-noteless rest i
cleared-noteless (h.Hole field ∷ rest) = λ i. h.Hole field ∷ cleared-noteless rest i
cleared-noteless (h.Close ∷ rest) = λ i. h.Close ∷ cleared-noteless rest i

-- ---- item by item through other trees
-- an item of the one, the edited one, the cleared one, and that of the last
record Between (whole mid named : List Item) (x z : TopItem) : Type 0 where
  one : TopItem
  two : TopItem
  edited : AtOne whole mid x one
  clear : AtOne mid (cleared mid) one two
  last : AtOne named (cleared named) z two

between : (whole mid named : List Item) →
    AllZip (Pair whole mid) (top_items whole) (top_items mid) → cleared named ≡ cleared mid →
    (x z : TopItem) → AtOne whole named x z → Between whole mid named x z
between whole mid named pairs same x z at =
    let found = zip-at (Pair whole mid) (top_items whole) (top_items mid) at.at x pairs at.here in
    let clear : slice_get (top_items (cleared mid)) at.at ≡ Some (cleared_top found.0) =
    ap (λ l. slice_get l at.at) (top_items-cleared mid)
    ∙ (slice_get-map cleared_top (top_items mid) at.at
    ∙ ap (λ (o : Option TopItem). option_map cleared_top o) found.1) in
    record {
      one = found.0;
      two = cleared_top found.0;
      edited = record { at = at.at; here = at.here; there = found.1 };
      clear = record { at = at.at; here = found.1; there = clear };
      last =
          record {
            at = at.at;
            here = at.there;
            there = ap (λ (l : List Item). slice_get (top_items l) at.at) same ∙ clear;
          };
    }

record AllBetween (whole mid named : List Item) (xs zs : List TopItem) : Type 0 where
  ones : List TopItem
  twos : List TopItem
  edited : AllZip (AtOne whole mid) xs ones
  clear : AllZip (AtOne mid (cleared mid)) ones twos
  last : AllZip (AtOne named (cleared named)) zs twos

all-between : (whole mid named : List Item) →
    ((x z : TopItem) → AtOne whole named x z → Between whole mid named x z) →
    (xs zs : List TopItem) → AllZip (AtOne whole named) xs zs → AllBetween whole mid named xs zs
all-between whole mid named each [] [] zip =
    record { ones = []; twos = []; edited = tt; clear = tt; last = tt }
all-between whole mid named each [] (z ∷ zs) zip = absurd zip
all-between whole mid named each (x ∷ xs) [] zip = absurd zip
all-between whole mid named each (x ∷ xs) (z ∷ zs) zip =
    let first : Between whole mid named x z = each x z zip.0 in
    let later : AllBetween whole mid named xs zs = all-between whole mid named each xs zs zip.1 in
    record {
      ones = first.one ∷ later.ones;
      twos = first.two ∷ later.twos;
      edited = (first.edited, later.edited);
      clear = (first.clear, later.clear);
      last = (first.last, later.last);
    }

-- ---- NAMED: a good order of items of merged modules is one of the same items when they are named
module _ (f : ℕ) {inside made : List Item} {rest : List Change} (named : List Item)
    (edits : Edits Anywhere (changes_to (idents (node f h.Module inside)) (idents named)) inside
    made rest) (keeps : KeepsNames (node f h.Module inside) named)
    (ways : HasWays (node f h.Module inside))
    (objects : HasObjects ByContext (node f h.Module inside)) where
  abbrev whole : List Item
  whole = node f h.Module inside

  abbrev mid : List Item
  mid = node f h.Module made

  mid-is : mid ≡ with_idents whole (idents named)
  mid-is = rebuilt_so (record { rest = rest; by = Inside f h.Module refl edits })

  same-cleared : cleared named ≡ cleared mid
  same-cleared =
      sym (cleared-noteless named)
      ∙ (ap cleared (keeps.same ∙ ap cleared (sym mid-is)) ∙ cleared-twice mid)

  same-denotations : denotations BySymbol Es named ≡ denotations BySymbol Es mid
  same-denotations =
      sym (denotations-cleared Es named)
      ∙ (ap (denotations BySymbol Es) same-cleared ∙ denotations-cleared Es mid)

  alike-mid : DenoteAlike ByContext whole BySymbol mid
  alike-mid = record {
    len = keeps.alike.len ∙ ap length same-denotations;
    same =
        λ i j. subst (λ (ds : List Denoted). (slice_get (denotations ByContext Es whole) i
        ≡ slice_get (denotations ByContext Es whole) j) ↔ (slice_get ds i ≡ slice_get ds j))
        same-denotations (keeps.alike.same i j);
    globals =
        λ i x. subst (λ (ds : List Denoted). (slice_get (denotations ByContext Es whole) i
        ≡ Some (Global x)) ↔ (slice_get ds i ≡ Some (Global x))) same-denotations
        (keeps.alike.globals i x);
  }

  pub named-good_order : (items its : List TopItem) → AllZip (AtOne whole named) items its →
      (owners : List (Option ℕ)) (order : List ℕ) →
      IsGoodOrder (group_of ByContext Top whole items owners) order
      ↔ IsGoodOrder (group_of BySymbol Top named its owners) order
  named-good_order items its zip owners order =
      let all : AllBetween whole mid named items its =
      all-between whole mid named
      (between whole mid named (module-paired f f edits) same-cleared) items its zip in
      let first = renamed-good_order ByContext BySymbol f edits alike-mid ways objects
      (record { unbound = λ n o e d. refl }) items all.ones all.edited owners owners
      (owners-refl owners) order in
      let second = cleared-good_order mid all.ones all.twos all.clear owners order in
      let third = cleared-good_order named its all.twos all.last owners order in (
        λ good. third.1 (subst
            (λ (t : List Item). IsGoodOrder (group_of BySymbol Top t all.twos owners) order)
            (sym same-cleared) (second.0 (first.0 good))),
        λ good. first.1 (second.1
            (subst (λ (t : List Item). IsGoodOrder (group_of BySymbol Top t all.twos owners) order)
            same-cleared (third.0 good))),
      )

-- ---- keyword

-- where names are declared, they are when identifiers have changed
pub ways-edited : (tree its_tree : List Item) {changes rest : List Change} →
    Edits Anywhere changes tree its_tree rest → HasWays tree → HasWays its_tree
ways-edited tree its_tree edits ways = record {
  way = λ n p e binds.
      let never : ℕ → Bool = λ place. false in
      let zip = names-edited never never (record { none = λ place x rest at unnamed. refl })
      (record { none = λ place x rest at unnamed. refl }) edits (λ i o q at its. refl) in
      let found = zip-back (NameAlike tree its_tree never never) (occurrences tree)
      (occurrences its_tree) n p zip e in
      same-way (way-alike (form-path found.2.path))
      (ways.way n found.0 found.1 (ap is_binding found.2.role ∙ binds));
}
  where
    same-way : {one other : Option Way} → one ≡ other → (way : Way) × (one ≡ Some way) →
        (way : Way) × (other ≡ Some way)
    same-way same (way, is) = (way, sym same ∙ is)

is-true : (b : Bool) → IsTrue b → b ≡ true
is-true b t = t

-- an identifier that keeps its symbol keeps its context
keeps-context : (all : List Occurrence) (old new : Occurrence) → new.sym ≡ old.sym →
    has_right_context all old new ≡ true → new.ctxt ≡ old.ctxt
keeps-context all old new same t =
    let kept : bytes_eq old.sym new.sym ≡ true = (bytes_eq-Decides old.sym new.sym).1 (sym same) in
    eqb-true new.ctxt old.ctxt
    (sym (ap (λ b. cond (not b && has_ident all new.sym old.ctxt)
    (is_unused_context all new.ctxt) (new.ctxt == old.ctxt)) kept) ∙ t)

pub keyword-objects : (tree after : List Item) → IsKeywordFree tree after →
    HasObjects ByContext tree → HasObjects ByContext after
keyword-objects tree after free objects = record {
  unbound = λ n o e d.
      let as_after : denoted_as ByContext Es after n ≡ Some (Global (codes "Object")) =
      as-listed ByContext after n o e ∙ ap (λ (x : Denoted). Some x) d in
      let as_before : denoted_as ByContext Es tree n ≡ Some (Global (codes "Object")) =
      (free.alike.globals n (codes "Object")).1 as_after in
      by n o e (slice_get (occurrences tree) n) refl
      (sym (slice_get-map (denoted_of ByContext Es (declared ByContext Es tree))
      (occurrences tree) n) ∙ as_before);
}
  where
    by : (n : ℕ) (o : Occurrence) → slice_get (occurrences after) n ≡ Some o →
        (p : Option Occurrence) → slice_get (occurrences tree) n ≡ p →
        option_map (denoted_of ByContext Es (declared ByContext Es tree)) p
        ≡ Some (Global (codes "Object")) →
        (o.ctxt == 1) ≡ true
    by n o e None at f = absurd (none-some (Global (codes "Object")) f)
    by n o e (Some old) at f =
        let is : denoted_of ByContext Es (declared ByContext Es tree) old
        ≡ Global (codes "Object") = same_Some _ _ f in
        let symbols : Some o.sym
        ≡ Some (keyword_free_of old.sym
        (denoted_of ByContext Es (declared ByContext Es tree) old)) =
        sym (slice_get-map (λ (q : Occurrence). q.sym) (occurrences after) n
        ∙ ap (λ (q : Option Occurrence). option_map (λ (q : Occurrence). q.sym) q) e)
        ∙ (ap (λ l. slice_get l n) free.symbols
        ∙ (slice_get-map (λ (q : Occurrence). keyword_free_of q.sym
        (denoted_of ByContext Es (declared ByContext Es tree) q)) (occurrences tree) n
        ∙ ap (λ (q : Option Occurrence). option_map
        (λ (q : Occurrence). keyword_free_of q.sym
        (denoted_of ByContext Es (declared ByContext Es tree) q)) q) at)) in
        let same : o.sym ≡ old.sym = same_Some o.sym _ symbols ∙ ap (keyword_free_of old.sym) is in
        let found = zip-at
        (λ (old new : Occurrence). IsTrue (has_right_context (occurrences tree) old new))
        (occurrences tree) (occurrences after) n old free.contexts at in
        let right : has_right_context (occurrences tree) old o ≡ true =
        ap (has_right_context (occurrences tree) old) (same_Some o found.0 (sym e ∙ found.1))
        ∙ is-true _ found.2 in
        ap (λ c. c == 1) (keeps-context (occurrences tree) old o same right)
        ∙ objects.unbound n old at is

-- KEYWORDS: a good order stays one
pub keyword-good_order : (f : ℕ) {inside made : List Item} {rest : List Change} (after : List Item)
    →
    Edits Anywhere (changes_to (idents (node f h.Module inside)) (idents after)) inside made rest →
    IsRidOfKeywords (node f h.Module inside) after → HasWays (node f h.Module inside) →
    HasObjects ByContext (node f h.Module inside) → (items its : List TopItem) →
    AllZip (AtOne (node f h.Module inside) after) items its →
    (owners its_owners : List (Option ℕ)) → OwnersAlike owners its_owners → (order : List ℕ) →
    IsGoodOrder (group_of ByContext Top (node f h.Module inside) items owners) order
    ↔ IsGoodOrder (group_of ByContext Top after its its_owners) order
keyword-good_order f {inside = inside} {made = made} {rest = rest} after edits rid ways objects
    items its zip owners its_owners of_one order =
    let is : after ≡ node f h.Module made = rid.same
    ∙ sym (rebuilt_so (record { rest = rest; by = Inside f h.Module refl edits })) in
    subst (λ (t : List Item). DenoteAlike ByContext (node f h.Module inside) ByContext t →
    HasObjects ByContext t → AllZip (AtOne (node f h.Module inside) t) items its →
    IsGoodOrder (group_of ByContext Top (node f h.Module inside) items owners) order
    ↔ IsGoodOrder (group_of ByContext Top t its its_owners) order) (sym is)
    (λ denote its_objects chosen. renamed-good_order ByContext ByContext f edits denote ways
    objects its_objects items its chosen owners its_owners of_one order)
    rid.free.alike (keyword-objects (node f h.Module inside) after rid.free objects) zip

-- and nothing that binds gets the context of globals
unused-other : (all : List Occurrence) (ctxt : ℕ) → is_unused_context all ctxt ≡ true → ctxt ≢ 1
unused-other all ctxt unused one =
    false≢true (ap (λ c. is_unused_context all c) (sym one) ∙ unused)

right-other : (all : List Occurrence) (old new : Occurrence) →
    has_right_context all old new ≡ true → old.ctxt ≢ 1 → new.ctxt ≢ 1
right-other all old new right other =
    by (not (bytes_eq old.sym new.sym) && has_ident all new.sym old.ctxt) right
  where
    by : (b : Bool) → cond b (is_unused_context all new.ctxt) (new.ctxt == old.ctxt) ≡ true →
        new.ctxt ≢ 1
    by true unused = unused-other all new.ctxt unused
    by false same = λ one. other (sym (eqb-true new.ctxt old.ctxt same) ∙ one)

pub keyword-own : (tree after : List Item) {changes rest : List Change} →
    Edits Anywhere changes tree after rest → IsKeywordFree tree after → BindsOwnContexts tree →
    BindsOwnContexts after
keyword-own tree after edits free own = record {
  own = λ n p e binds.
      let never : ℕ → Bool = λ place. false in
      let zip = names-edited never never (record { none = λ place x rest at unnamed. refl })
      (record { none = λ place x rest at unnamed. refl }) edits (λ i o q at its. refl) in
      let found = zip-back (NameAlike tree after never never) (occurrences tree)
      (occurrences after) n p zip e in
      let its = zip-at (λ (old new : Occurrence). IsTrue
      (has_right_context (occurrences tree) old new)) (occurrences tree) (occurrences after) n
      found.0 free.contexts found.1 in
      let right : has_right_context (occurrences tree) found.0 p ≡ true =
      ap (has_right_context (occurrences tree) found.0) (same_Some p its.0 (sym e ∙ its.1))
      ∙ is-true _ its.2 in
      right-other (occurrences tree) found.0 p right
      (own.own n found.0 found.1 (ap is_binding found.2.role ∙ binds));
}
