-- What renaming by the ends of chains makes of an item: its identifiers are the ends.
-- Aliases of items and pairs, and what is made of the parts.
-- What becomes of all items, once they are put into the new order.
use Rattle.std.proofs.Common.{◌≡◌, ℕ, Bool, true, false, List, [], ◌∷◌, ◌++◌, None, map, refl, ap, sym, ◌∙◌, append-nil, subst, zero, suc, ◌<◌, Option, Some, length, arith, not, cond, get_or}
use Rattle.std.specs.List.{AllZip, flat_map}
use Rattle.std.specs.Prelude.{Contains, slice_get, slice_index_or, IsPermutation, filter}
use Rattle.std.specs.Borrow.{Bor}
use Rattle.std.specs.Option.{option_map}
use Rattle.std.proofs.lemmas.List.{length-map}
use Rattle.std.proofs.lemmas.List.Sorted.{IsPermutation-map}
use Rattle.std.proofs.lemmas.Option.{get_or_from_slice_get, slice_get-map}
use Rattle.bundle_syntax.specs.declared.piece.Role.{Role}
use Rattle.bundle_syntax.specs.Item as in_item
use Rattle.bundle_syntax.specs.Item.{Item, Head}
use Rattle.bundle_order_graph.specs.Modules.{Modules}
use Rattle.bundle_syntax.specs.declared.piece.Role.TheVariants
use Rattle.bundle_tree_ast.specs.declared.module.ModuleItem.{ModuleItem}
use Rattle.bundle_rules.specs.Places as places
use Rattle.bundle_rules.specs.Places.{is_binding, occurrences}
use Rattle.bundle_rules.specs.Aliases.{ChainEnd, IsInlined, AreInlined, Chain, HasCycle, Inlines, IsAlias, MakesAlias}
use Rattle.bundle_rules.specs.Nodes.{Text}
use Rattle.bundle_rules.specs.Idents as terms
use Rattle.bundle_rules.specs.Idents.{Ident, idents}
use Rattle.bundle_rules.specs.Rebuilds.{Change, Renaming, change_by, change_to, changes_to, rebuilt, renamed_all, with_idents}
use Rattle.bundle_rules.specs.Aliases.AreInlined.{over as inlined_over, goes as inlined_goes, stays as inlined_stays}
use Rattle.bundle_rules.specs.Aliases.Chain.{one as one_alias, more as more_aliases}
use Rattle.bundle_rules.specs.Aliases.ChainEnd.{here as ends_here, further as ends_further}
use Rattle.bundle_rules.specs.Parts.{HoldsOfParts, Owned, Parts, in_order, parts_of}
use Rattle.bundle_order_sort.specs.Arranged.{IsArrangement}
use Rattle.bundle_rules.specs.Sorting.{IsSortedFrom, IsSortedInto}
use Rattle.bundle_tree_listed.specs.Tree.{module_item_items}
use Rattle.bundle_tree_places.specs.Edits.{Edited, node, is_occurrence, binding}
use Rattle.bundle_tree_places.specs.Marks.{listed_as}
use Rattle.bundle_tree_places.proofs.EditsLemmas.{rebuilt_so}
use Rattle.bundle_tree_places.proofs.MarksLemmas.{listed-each}
use Rattle.bundle_merge_modules.specs.Parts as in_parts
use Rattle.bundle_merge_modules.specs.Parts.{HeldOf, IsArrangedAs}
use Rattle.bundle_order.proofs.SortedLemmas.{list_of}
use Rattle.bundle_marks.proofs.LawLemmas.{map-map}
use Rattle.bundle_marks.proofs.Shapes.{Part, Specified, IsPlainName, Nothing, Joined, Hole, Plain, Name, Inside, Specifier, Shorthand, alone, named, plain, plains, word, text, made, names, names_specified, again, edits}
use Rattle.bundle_marks.proofs.Twice.{names-again}
use Rattle.bundle_marks.proofs.TreeParts.{items_part}
use Rattle.bundle_marks.specs.Idents.{pair_named}
use Rattle.bundle_merge_modules.specs.Pairs.{LeadsToEnds, AreOnceAliased, IsPair, AliasPair}
use Rattle.bundle_merge_modules.specs.Held.{MapsSome, PickedOwned, parts_held, trees_of}
use Rattle.bundle_merge_modules.specs.Held.PickedOwned.{over as picked_over, goes as picked_goes, stays as picked_stays}
use Rattle.bundle_merge_modules.specs.Aliased.{alias_in}
use Rattle.bundle_merge_modules.specs.Made.{AreAliasesOnce, ArePairsOf, IsItemInlined, alias_list, option_list}
use Rattle.bundle_merge_modules.proofs.AliasLemmas.{makes, told, none_some}
use Rattle.bundle_merge_modules.proofs.PairLemmas.{mapped-slice_get, slice_get-mapped}
use Rattle.bundle_merge_modules.specs.Placed.{IsNewOrder, tree_at, trees_lent}
use Rattle.bundle_merge_modules.specs.Sorted.{AreReached, IsSortedWhole}
use Rattle.bundle_merge_modules.proofs.TreeLemmas.{held_by-made, order-made, seconds-made}
use Rattle.bundle_merge_modules.proofs.PlacedLemmas.{tree_of as second_of}

-- ---- inlined

-- The identifiers of a part are those of its list.

-- those of some elements
abbrev idents_in : List Item → List Ident
idents_in tree = map (λ one. one.0) (flat_map listed_as tree)

idents-in : (tree : List Item) → idents tree ≡ idents_in tree
idents-in tree = sym (map-map (λ (one : Ident × Bool). one.0) (λ (o : places.Occurrence). (terms.ident_of o, is_binding o.role)) (occurrences tree)) ∙ ap (map (λ one. one.0)) (listed-each tree)

append-in : (xs ys : List Item) → idents_in (xs ++ ys) ≡ idents_in xs ++ idents_in ys
append-in [] ys = refl
append-in (in_item.Open field head ∷ xs) ys = append-in xs ys
append-in (in_item.Ident field sym ctxt TheVariants.Binding ∷ xs) ys = ap (λ (rest : List Ident). (sym, ctxt) ∷ rest) (append-in xs ys)
append-in (in_item.Ident field sym ctxt TheVariants.Reference ∷ xs) ys = ap (λ (rest : List Ident). (sym, ctxt) ∷ rest) (append-in xs ys)
append-in (in_item.Ident field sym ctxt TheVariants.Word ∷ xs) ys = append-in xs ys
append-in (in_item.Hole field ∷ xs) ys = append-in xs ys
append-in (in_item.Close ∷ xs) ys = append-in xs ys

node-in : (field : ℕ) (head : Head) (inside : List Item) → idents_in (node field head inside) ≡ idents_in inside
node-in field head inside = append-in inside (in_item.Close ∷ []) ∙ append-nil (idents_in inside)

name-in : (field : ℕ) (x : Text) (ctxt : ℕ) (role : Role) → is_occurrence role ≡ true → (rest : List Item) → idents_in (in_item.Ident field x ctxt role ∷ rest) ≡ (x, ctxt) ∷ idents_in rest
name-in field x ctxt TheVariants.Binding occurs rest = refl
name-in field x ctxt TheVariants.Reference occurs rest = refl
name-in field x ctxt TheVariants.Word occurs rest = cc

plain-in : {name : List Item} → IsPlainName name → idents_in name ≡ []
plain-in (word field x ctxt) = refl
plain-in (text field value raw) = refl

specified-in : {inside : List Item} (one : Specified inside) → names_specified one ≡ idents_in inside
specified-in (alone field x ctxt role occurs) = sym (name-in field x ctxt role occurs [])
specified-in (named field x ctxt role occurs {name = name} its) = ap (λ (rest : List Ident). (x, ctxt) ∷ rest) (sym (plain-in its)) ∙ sym (name-in field x ctxt role occurs name)
specified-in (plain its) = sym (plain-in its)
specified-in (plains {first = first} {second = second} one two) = sym (append-in first second ∙ ap (λ (all : List Ident). all ++ idents_in second) (plain-in one) ∙ plain-in two)

names-in : {o : Bool} {tree : List Item} (one : Part o tree) → names one ≡ idents_in tree
names-in Nothing = refl
names-in (Joined {first = first} {second = second} one two) = ap (λ (all : List Ident). all ++ names two) (names-in one) ∙ ap (λ (all : List Ident). idents_in first ++ all) (names-in two) ∙ sym (append-in first second)
names-in (Hole field) = refl
names-in (Plain its) = sym (plain-in its)
names-in (Name o field x ctxt role occurs) = sym (name-in field x ctxt role occurs [])
names-in (Inside field head {inside = inside} opens one) = names-in one ∙ sym (node-in field head inside)
names-in (Specifier field head {inside = inside} is one) = specified-in one ∙ sym (node-in field head inside)
names-in (Shorthand field x ctxt role {default = default} occurs one) =
    ap (λ (rest : List Ident). (x, ctxt) ∷ rest) (names-in one)
    ∙ sym (name-in 0 x ctxt role occurs (in_item.Close ∷ default))
    ∙ sym (node-in field in_item.AssignPatProp (binding None 0 x ctxt role ++ default))

-- A renaming of a part.

-- what a part becomes is what the definition makes of it
made-is : (F : Ident → Change) {tree : List Item} (one : Part false tree) → made F one ≡ rebuilt tree (map F (idents tree))
made-is F {tree = tree} one =
    let edited : Edited (map F (names one) ++ []) tree (made F one) = record { rest = []; by = edits F [] one } in
    rebuilt_so edited
    ∙ ap (rebuilt tree) (append-nil (map F (names one)) ∙ ap (map F) (names-in one ∙ sym (idents-in tree)))

-- the identifiers of what a part becomes
idents-made : (F : Ident → Change) {tree : List Item} (one : Part false tree) → idents (rebuilt tree (map F (idents tree))) ≡ map (λ ident. (F ident).ident) (idents tree)
idents-made F {tree = tree} one =
    ap idents (sym (made-is F one))
    ∙ idents-in (made F one)
    ∙ sym (names-in (again F one))
    ∙ names-again F one
    ∙ ap (map (λ ident. (F ident).ident)) (names-in one ∙ sym (idents-in tree))

item_part : (item : ModuleItem) → Part false (module_item_items 0 item)
item_part item = subst (λ (tree : List Item). Part false tree) (append-nil (module_item_items 0 item)) (items_part (item ∷ []))

module _ (Alias : Ident → Ident → Type 0) (renaming : Renaming) (leads : LeadsToEnds Alias renaming) where
  abbrev becomes : Ident → Ident
  becomes ident = (change_by renaming ident).ident

  end_is : (ident : Ident) → becomes ident ≡ (leads ident).0
  end_is ident = ap (λ (change : Change). change.ident) (leads ident).2

  changes_are : (all : List Ident) → map (change_by renaming) all ≡ changes_to all (map becomes all)
  changes_are [] = refl
  changes_are (ident ∷ all) =
      ap (λ (change : Change). change ∷ map (change_by renaming) all) ((leads ident).2 ∙ ap (change_to ident) (sym (end_is ident)))
      ∙ ap (λ (rest : List Change). change_to ident (becomes ident) ∷ rest) (changes_are all)

  ends_are : (all : List Ident) → AllZip (ChainEnd Alias) all (map becomes all)
  ends_are [] = tt
  ends_are (ident ∷ all) = (subst (λ (end : Ident). ChainEnd Alias ident end) (sym (end_is ident)) (leads ident).1, ends_are all)

  -- an item renamed is inlined
  pub inlined : (item : ModuleItem) → IsInlined Alias (module_item_items 0 item) (renamed_all renaming (module_item_items 0 item))
  inlined item =
      let tree = module_item_items 0 item in
      let same = idents-made (change_by renaming) (item_part item) in
      record {
        same = ap (rebuilt tree) (changes_are (idents tree)) ∙ ap (with_idents tree) (sym same);
        names = subst (λ (all : List Ident). AllZip (ChainEnd Alias) (idents tree) all) (sym same) (ends_are (idents tree));
      }

-- ---- inline

-- what some of these items make
abbrev pub made_by : List Owned → List (Ident × Ident)
made_by all = flat_map alias_list (map (λ (one : Owned). one.1) all)

later : (o : Owned) (rest : List Owned) (one : Owned) → Contains rest one → Contains (o ∷ rest) one
later o rest one is = (suc is.0, omega (arith, is.1), is.2)

-- an alias is made by an item
found_at : (all : List Owned) (i : ℕ) (p : Ident × Ident) → slice_get (made_by all) i ≡ Some p → (one : Owned) × Contains all one × (alias_in one.1 ≡ Some p)
found_at [] i p e = absurd (none_some e)
found_at (o ∷ rest) i p e = by (λ j. found_at rest j p) (alias_in o.1) refl i e
  where
    by : ((j : ℕ) → slice_get (made_by rest) j ≡ Some p → (one : Owned) × Contains rest one × (alias_in one.1 ≡ Some p)) → (x : Option (Ident × Ident)) → alias_in o.1 ≡ x → (i : ℕ) → slice_get (option_list x ++ made_by rest) i ≡ Some p → (one : Owned) × Contains (o ∷ rest) one × (alias_in one.1 ≡ Some p)
    by below None is i e = let r = below i e in (r.0, later o rest r.0 r.1, r.2)
    by below (Some q) is zero e = (o, (0, omega arith, refl), is ∙ e)
    by below (Some q) is (suc i) e = let r = below i e in (r.0, later o rest r.0 r.1, r.2)

-- an item's alias stands among them
place_at : (all : List Owned) (one : Owned) (p : Ident × Ident) (k : ℕ) → k < length all → slice_index_or all k one ≡ one → alias_in one.1 ≡ Some p → (i : ℕ) × (slice_get (made_by all) i ≡ Some p)
place_at [] one p k l at e = absurd (omega (arith, l))
place_at (o ∷ rest) one p zero l at e = (0, ap (λ (x : Option (Ident × Ident)). slice_get (option_list x ++ made_by rest) 0) (ap (λ (q : Owned). alias_in q.1) at ∙ e))
place_at (o ∷ rest) one p (suc k) l at e = by (alias_in o.1) (place_at rest one p k (omega (arith, l)) at e)
  where
    by : (x : Option (Ident × Ident)) → (i : ℕ) × (slice_get (made_by rest) i ≡ Some p) → (i : ℕ) × (slice_get (option_list x ++ made_by rest) i ≡ Some p)
    by None r = r
    by (Some q) r = (suc r.0, r.1)

module _ (parts : Parts) (pairs : List AliasPair) (are : ArePairsOf (in_order parts) pairs) where
  pub alias_from : (a b : Ident) → IsPair pairs a b → IsAlias parts a b
  alias_from a b is =
      let at : slice_get (made_by (in_order parts)) is.0 ≡ Some (pair_named is.1) = ap (λ (l : List (Ident × Ident)). slice_get l is.0) (sym are) ∙ mapped-slice_get pair_named pairs is.0 is.1 is.2 in
      let r = found_at (in_order parts) is.0 (pair_named is.1) at in
      record { one = r.0; there = r.1; makes = subst (λ (x : Ident). MakesAlias r.0.1 x b) is.3 (subst (λ (y : Ident). MakesAlias r.0.1 (pair_named is.1).0 y) is.4 (makes r.0.1 (pair_named is.1).0 (pair_named is.1).1 r.2)) }

  pub pair_from : (a b : Ident) → IsAlias parts a b → IsPair pairs a b
  pair_from a b is =
      let r = place_at (in_order parts) is.one (a, b) is.there.0 is.there.1 is.there.2 (told is.one.1 a b is.makes) in
      let p = slice_get-mapped pair_named pairs r.0 (a, b) (ap (λ (l : List (Ident × Ident)). slice_get l r.0) are ∙ r.1) in
      (r.0, p.0, p.1, ap (λ (q : Ident × Ident). q.0) p.2, ap (λ (q : Ident × Ident). q.1) p.2)

  chain_from : {a b : Ident} → Chain (IsPair pairs) a b → Chain (IsAlias parts) a b
  chain_from (one_alias {a = a} {b = b} is) = one_alias (alias_from a b is)
  chain_from (more_aliases {a = a} {b = b} is rest) = more_aliases (alias_from a b is) (chain_from rest)

  chain_to : {a b : Ident} → Chain (IsAlias parts) a b → Chain (IsPair pairs) a b
  chain_to (one_alias {a = a} {b = b} is) = one_alias (pair_from a b is)
  chain_to (more_aliases {a = a} {b = b} is rest) = more_aliases (pair_from a b is) (chain_to rest)

  end_from : {a b : Ident} → ChainEnd (IsPair pairs) a b → ChainEnd (IsAlias parts) a b
  end_from (ends_here {a = a} none) = ends_here (λ b is. none b (pair_from a b is))
  end_from (ends_further {a = a} {b = b} is rest) = ends_further (alias_from a b is) (end_from rest)

  pub cycle_from : HasCycle (IsPair pairs) → HasCycle (IsAlias parts)
  cycle_from cycle = (cycle.0, chain_from cycle.1)

  pub no_cycle_from : (AreOnceAliased pairs → HasCycle (IsPair pairs) → ⊥) → AreAliasesOnce parts → HasCycle (IsAlias parts) → ⊥
  no_cycle_from none once cycle = none (λ a b c x y. once a b c (alias_from a b x) (alias_from a c y)) (cycle.0, chain_to cycle.1)

  pub leads_from : (renaming : Renaming) → LeadsToEnds (IsPair pairs) renaming → LeadsToEnds (IsAlias parts) renaming
  leads_from renaming leads ident = let it = leads ident in (it.0, end_from it.1, it.2)

-- What is made of each item is what inlining makes of it.

module _ (Alias : Ident → Ident → Type 0) (renaming : Renaming) (leads : LeadsToEnds Alias renaming) where
  stays_inlined : (before after : List Item) → IsItemInlined renaming before (Some after) → IsInlined Alias before after
  stays_inlined before after is =
      subst (λ (l : List Item). IsInlined Alias before l) (sym is.2)
      (subst (λ (l : List Item). IsInlined Alias l (renamed_all renaming l)) is.1.1 (inlined Alias renaming leads is.1.0))

  part_inlined : {old new : List Owned} → PickedOwned (λ m item made. IsItemInlined renaming item made) old new → AreInlined Alias old new
  part_inlined picked_over = inlined_over
  part_inlined (picked_goes said rest) = inlined_goes said.2 (part_inlined rest)
  part_inlined (picked_stays {item = item} {answer = answer} said rest) = inlined_stays said.0 (stays_inlined item answer said) (part_inlined rest)

  pub parts_inlined : (before after : Parts) → MapsSome (λ m item made. IsItemInlined renaming item made) before after → HoldsOfParts (AreInlined Alias) before after
  parts_inlined before after is = record { prepended = part_inlined is.prepended; bodies = part_inlined is.bodies; appended = part_inlined is.appended }

pub inlines : (before after : Parts) (pairs : List AliasPair) (renaming : Renaming) → ArePairsOf (in_order before) pairs → LeadsToEnds (IsPair pairs) renaming
    → MapsSome (λ m item made. IsItemInlined renaming item made) before after → Inlines before after
inlines before after pairs renaming are leads is = parts_inlined (IsAlias before) renaming (leads_from before pairs are renaming leads) before after is

-- what may be answered less exactly
module _ (May Say : ℕ → List Item → Option (List Item) → Type 0) (says : (m : ℕ) (x : List Item) (y : Option (List Item)) → May m x y → Say m x y) where
  picked_says : {old new : List Owned} → PickedOwned May old new → PickedOwned Say old new
  picked_says picked_over = picked_over
  picked_says (picked_goes {m = m} {item = x} said rest) = picked_goes (says m x None said) (picked_says rest)
  picked_says (picked_stays {m = m} {item = x} {answer = y} said rest) = picked_stays (says m x (Some y) said) (picked_says rest)

  pub maps_says : (before after : Parts) → MapsSome May before after → MapsSome Say before after
  maps_says before after is = record { prepended = picked_says is.prepended; bodies = picked_says is.bodies; appended = picked_says is.appended }

-- what is answered for each item is what is made of it
pub maps_made : {May : ℕ → List Item → Option (List Item) → Type 0} (renaming : Renaming) (before after : Parts) → HoldsOfParts (PickedOwned May) before after
    → ((m : ℕ) (x : List Item) (y : Option (List Item)) → May m x y → IsItemInlined renaming x y) → MapsSome (λ m item made. IsItemInlined renaming item made) before after
maps_made {May} renaming before after is says = maps_says May (λ m item made. IsItemInlined renaming item made) says before after is

-- ---- sort

-- items that are arranged are read at the places of their order
read-arranged : (items sorted : List ModuleItem) (order : List ℕ) → AllZip (λ n value. slice_get items n ≡ Some value) order sorted → map list_of sorted ≡ map (tree_at (map list_of items)) order
read-arranged items [] [] z = refl
read-arranged items (v ∷ sorted) [] z = absurd z
read-arranged items [] (n ∷ order) z = absurd z
read-arranged items (v ∷ sorted) (n ∷ order) z =
    let here : get_or (map list_of items) n [] ≡ list_of v = get_or_from_slice_get (map list_of items) n (list_of v) [] (slice_get-map list_of items n ∙ ap (λ (o : Option ModuleItem). option_map list_of o) z.0) in
    ap (λ (l : List Item). l ∷ map list_of sorted) (sym here) ∙ ap (λ (l : List (List Item)). get_or (map list_of items) n [] ∷ l) (read-arranged items sorted order z.1)

module _ (g : Modules) (entry : ℕ) (h : HeldOf ModuleItem) (order : List ℕ) (new : HeldOf ModuleItem) (is : IsNewOrder g entry (trees_of (in_parts.all_in_order h)) order) (arranged : length order ≡ length (in_parts.items_held h) → IsArrangedAs entry order h new) where
  count : length (trees_of (in_parts.all_in_order h)) ≡ length (in_parts.items_held h)
  count = length-map (in_parts.all_in_order h) (λ pair. (pair.0, list_of pair.1)) ∙ sym (length-map (in_parts.all_in_order h) (λ pair. pair.1))

  by : IsArrangedAs entry order h new
  by = arranged (is.long ∙ count)

  seconds : map list_of (in_parts.items_held h) ≡ map second_of (trees_of (in_parts.all_in_order h))
  seconds = sym (seconds-made list_of (in_parts.all_in_order h))

  read : map list_of by.items ≡ map (tree_at (map second_of (trees_of (in_parts.all_in_order h)))) order
  read =
      read-arranged (in_parts.items_held h) by.items order (by.arranged (subst (λ n. IsArrangement order n) count is.whole))
      ∙ ap (λ (l : List (List Item)). map (tree_at l) order) seconds

  held : parts_held new ≡ parts_of entry (map list_of by.items)
  held = ap parts_held by.is ∙ held_by-made list_of entry by.items

  pub sorted-whole : IsSortedWhole g entry (parts_held h) (parts_held new)
  sorted-whole = record {
    is_reached = is.is_reached;
    reached = is.reached;
    sorted = is.sorted;
    is = held ∙ ap (parts_of entry) (read ∙ (is.reads ∙ ap (λ (l : List Owned). is.sorted ++ map second_of (filter (λ pair. not (is.is_reached pair.0)) l)) (order-made list_of h)));
    sorts = subst (λ (l : List Owned). IsSortedFrom g entry l is.sorted) (order-made list_of h) is.sorts;
  }

  pub moved : IsPermutation (map second_of (in_order (parts_held h))) (map second_of (in_order (parts_held new)))
  moved =
      subst (λ (l : List (List Item)). IsPermutation l (map second_of (in_order (parts_held new))))
      (seconds ∙ ap (map second_of) (order-made list_of h))
      (subst (λ (l : List (List Item)). IsPermutation (map list_of (in_parts.items_held h)) l)
      (last ∙ ap (λ (parts : Parts). map second_of (in_order parts)) (sym held))
      (IsPermutation-map list_of (in_parts.items_held h) by.items by.moved))
    where
      back : (items : List (List Item)) → items ≡ map second_of (in_order (parts_of entry items))
      back items = one items ∙ ap (map second_of) (sym (append-nil (map (λ (item : List Item). (entry, item)) items)))
        where
          one : (items : List (List Item)) → items ≡ map second_of (map (λ (item : List Item). (entry, item)) items)
          one [] = refl
          one (x ∷ items) = ap (λ (l : List (List Item)). x ∷ l) (one items)

      last : map list_of by.items ≡ map second_of (in_order (parts_of entry (map list_of by.items)))
      last = back (map list_of by.items)

-- ---- all items that are lent, each with its module
pub owners-made : (pairs : List (in_parts.OwnedOf ModuleItem)) → map (λ pair. pair.0) (trees_of pairs) ≡ map (λ pair. pair.0) pairs
owners-made [] = refl
owners-made (pair ∷ pairs) = ap (λ (l : List ℕ). pair.0 ∷ l) (owners-made pairs)

lent : (items : List (Bor ModuleItem)) → trees_lent items ≡ map list_of (map (λ item. item.now) items)
lent [] = refl
lent (item ∷ items) = ap (λ (l : List (List Item)). list_of item.now ∷ l) (lent items)

pub lent-made : (items : List (Bor ModuleItem)) (pairs : List (in_parts.OwnedOf ModuleItem)) → map (λ item. item.now) items ≡ map (λ pair. pair.1) pairs → trees_lent items ≡ map (λ pair. pair.1) (trees_of pairs)
lent-made items pairs e = lent items ∙ (ap (map list_of) e ∙ sym (seconds-made list_of pairs))

pub lent-long : (items : List (Bor ModuleItem)) (pairs : List (in_parts.OwnedOf ModuleItem)) → map (λ item. item.now) items ≡ map (λ pair. pair.1) pairs → length (map (λ pair. pair.1) (trees_of pairs)) ≡ length items
lent-long items pairs e = ap length (sym (lent-made items pairs e)) ∙ length-map items (λ item. list_of item.now)

-- nothing is left where each module that has an item is reached
none-left : (is_reached : ℕ → Bool) (pairs : List Owned) → ((pair : Owned) → Contains pairs pair → is_reached pair.0 ≡ true) → filter (λ pair. not (is_reached pair.0)) pairs ≡ []
none-left is_reached [] all = refl
none-left is_reached (pair ∷ pairs) all =
    ap (λ b. cond (not b) (pair ∷ filter (λ one. not (is_reached one.0)) pairs) (filter (λ one. not (is_reached one.0)) pairs)) (all pair (0, omega arith, refl))
    ∙ none-left is_reached pairs (λ one c. all one (suc c.0, omega (arith, c.1), c.2))

pub sorted-into : (g : Modules) (entry : ℕ) (before after : Parts) → IsSortedWhole g entry before after → AreReached g entry before → IsSortedInto g entry before after
sorted-into g entry before after w all = record {
  sorted = w.sorted;
  is = w.is ∙ ap (parts_of entry)
      (ap (λ (l : List Owned). w.sorted ++ map second_of l) (none-left w.is_reached (in_order before) (λ pair c. (w.reached pair.0).1 (all pair c)))
      ∙ append-nil w.sorted);
  sorts = w.sorts;
}
