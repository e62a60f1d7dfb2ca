-- The items of a block, in it alone and in the whole bundle: the groups are alike, so the same
-- orders are good for both.
use Rattle.std.proofs.Common.{◌≡◌, ◌<◌, ◌⊎◌, inl, inr, ℕ, zero, suc, ◌+◌, ◌==◌, Bool, true, false, cond, ◌&&◌, ◌||◌, List, [], ◌∷◌, Option, Some, None, option_map, option_and_then, filter, filter_map, map, slice_get, length, codes, bytes_eq, refl, ap, sym, ◌∙◌, subst, arith, eqb-true, ne_eqb, Contains}
use Rattle.std.specs.Prelude.{flat_map, position, if◌then◌else◌}
use Rattle.std.specs.List.{cons_option}
use Rattle.std.proofs.lemmas.Bool.{false≢true}
use Rattle.std.proofs.lemmas.List.Elements.{Contains-append_left, Contains-append_right}
use Rattle.std.proofs.lemmas.Option.{none-some, same_Some, slice_get_within}
use Rattle.std.proofs.lemmas.Slice.Eq.{bytes_eq-Decides}
use Rattle.std.proofs.lemmas.List.{length-map}
use Rattle.bundle_syntax.specs.Item as h
use Rattle.bundle_syntax.specs.Item.{Item}
use Rattle.bundle_rules.specs.Places.{Around, spot_before, Occurrence, occurrence_of, occurrence_at, occurrences, is_binding}
use Rattle.bundle_rules.specs.Scopes.{Es, Scope, Wrapper, Top, Inner, scopes_around}
use Rattle.bundle_rules.specs.Declarations.{Way, ByContext, Name, name_of, declared_by, way_of}
use Rattle.bundle_rules.specs.Homes.{is_top, is_function}
use Rattle.bundle_rules.specs.Denotes.{Denoted, Bound, Global, without_context, is_written_in, own_or_found, denoted_by_context, denoted_at}
use Rattle.bundle_rules.proofs.PlacesLemmas.{occurrences-at, occurrence_at-listed}
use Rattle.bundle_rules.specs.Nodes.{node_at}
use Rattle.bundle_rules.specs.Statements.{TopItem}
use Rattle.bundle_rules.specs.Entries.{is_call_head}
use Rattle.bundle_rules.specs.Reads.{is_member, property_of}
use Rattle.bundle_rules.specs.Mentions.{same_denoted}
use Rattle.bundle_rules.specs.Order.{Mention, Group, is_text, is_in_assign_of, is_prototype_read, is_global_named, is_of_nothing, is_object_at, denoted_in, is_of_scope, mentioned, mention_of, group_of, mention_at, Declares, IsGoodOrder}
use Rattle.bundle_rules.specs.Parts.{tree_of_items}
use Rattle.bundle_scope_names.proofs.HomesLemmas.{list_any-found, list_any-here}
use Rattle.bundle_order.proofs.ProvideLemmas.{Contains-cons}
use Rattle.bundle_order.proofs.EventLemmas.{is_top-of, same-top, same-refl, Contains-filter, once-from, once-keeps, position-none, position-there, position-one}
use Rattle.bundle_merge_theory.specs.joined.Joined.{joined_items, AllOf, IsWholeItem, moved_occurrence, moved_denoted, offset, own_declared, is_item_top_name, is_global_written, denoted_in_whole}
use Rattle.bundle_merge_theory.specs.joined.Notes.{its_name, own_denoted, IsListedIn}
use Rattle.bundle_merge_theory.specs.joined.Groups.{TopsAlike, same_top, loose, MentionsAlike, GroupsCorrespond}
use Rattle.bundle_merge_theory.specs.joined.Picked.{IsItemPlaced, BindsOwnNames, ArePicked}
use Rattle.bundle_merge_theory.proofs.joined.Declarations.{IsNamed, all-at}
use Rattle.bundle_merge_theory.proofs.joined.Notes.{Viewed, written, implicit, unbound, viewed, own-top, occurrence-placed, denoted-joined}
use Rattle.bundle_merge_theory.proofs.joined.Groups.{good-order}
use Rattle.bundle_merge_theory.proofs.joined.Paths.{get-map, get-left, other-spot}
use Rattle.bundle_link_targets.proofs.StageLemmas.{at_map as map-get}

-- An identifier of an item, and of the item as a module.

-- the identifier in the item as a module
pub record Housed (item : List Item) (o : Occurrence) : Type 0 where
  pub u : Occurrence
  pub at : occurrence_at (tree_of_items item) (suc o.place) ≡ Some u
  pub symbol : u.sym ≡ o.sym
  pub ctxt : u.ctxt ≡ o.ctxt
  pub role : u.role ≡ o.role
  pub below : o.place < length item

housed : (item : List Item) (i : ℕ) (o : Occurrence) → slice_get (occurrences item) i ≡ Some o →
    Housed item o
housed item i o e = by_item (slice_get item o.place) refl (occurrences-at item i o e)
  where
    by_item : (x : Option Item) → slice_get item o.place ≡ x →
        option_and_then (occurrence_of (spot_before item o.place)) x ≡ Some o → Housed item o
    by_item None at is = absurd (none-some o is)
    by_item (Some x) at is =
        let it = other-spot (spot_before item o.place)
        (spot_before (tree_of_items item) (suc o.place)) x o is in
        record {
          u = it.0;
          at =
              ap (option_and_then (occurrence_of (spot_before (tree_of_items item) (suc o.place))))
              (get-left item (h.Close ∷ []) o.place x at)
              ∙ it.1;
          symbol = it.2;
          ctxt = it.3;
          role = it.4;
          below = slice_get_within item o.place x at;
        }

listed-at : (item : List Item) (o : Occurrence) → (it : Housed item o) → IsListedIn item it.u
listed-at item o it = occurrence_at-listed (tree_of_items item) (suc o.place) it.u it.at

-- what is denoted in a whole, by the identifier in the item as a module
abbrev in_whole : List (List Item) → ℕ → List Item → Occurrence → Denoted
in_whole items m item u =
    denoted_in_whole (is_item_top_name items (its_name u)) (offset items m) (its_name u)
    (own_denoted item u)

denotes-in : (items : List (List Item)) → AllOf IsWholeItem items → AllOf IsNamed items →
    (top : TopItem) → (placed : IsItemPlaced items top) → (o : Occurrence) →
    (it : Housed top.items o) →
    denoted_in ByContext (joined_items items) top o ≡ Some (in_whole items placed.m top.items it.u)
denotes-in items whole named top placed o it =
    let start = placed.start in
    let place : top.start + o.place ≡ suc (offset items placed.m + o.place) =
    omega (arith, start) in
    ap (denoted_at ByContext Es (joined_items items)) place
    ∙ denoted-joined items whole named placed.m top.items placed.there o.place it.below
    ∙ ap (option_map (in_whole items placed.m top.items)) it.at

-- What is denoted in two wholes: one binding of both tops; of neither top; or of the second top
-- alone, where no item of the first declares the name.
data Pair (name : Name) (t : Bool) : Denoted → Denoted → Type 0 where
  both : (its : Name) → Pair name t (Bound Top its) (Bound Top its)
  neither : {d e : Denoted} → is_of_scope Top d ≡ false → is_of_scope Top e ≡ false →
      Pair name t d e
  second : {d : Denoted} → is_of_scope Top d ≡ false → t ≡ false → Pair name t d (Bound Top name)

inner-top : (k : ℕ) (scope : Scope) (name : Name) → is_function scope ≡ true →
    is_of_scope Top (moved_denoted k (Bound scope name)) ≡ false
inner-top k Wrapper name e = refl
inner-top k Top name e = absurd (false≢true e)
inner-top k (Inner kind begins) name e = ne_eqb _ _ (λ same. omega (arith, same))

top-no : (k : ℕ) (scope : Scope) (name : Name) → is_top scope ≡ false →
    is_of_scope Top (moved_denoted k (Bound scope name)) ≡ false
top-no k Wrapper name e = refl
top-no k Top name e = absurd (false≢true (sym e))
top-no k (Inner kind begins) name e = ne_eqb _ _ (λ same. omega (arith, same))

pair : (item : List Item) (o : Occurrence) (t u : Bool) (k l : ℕ) {d : Denoted} → Viewed item o d →
    (t ≡ true → u ≡ true) →
    Pair (its_name o) t (denoted_in_whole t k (its_name o) d) (denoted_in_whole u l (its_name o) d)
pair item o t u k l (written Wrapper at is) more = absurd at
pair item o t u k l (written Top at is) more = both (its_name o)
pair item o t u k l (written (Inner kind begins) at is) more =
    neither (ne_eqb _ _ (λ same. omega (arith, same))) (ne_eqb _ _ (λ same. omega (arith, same)))
pair item o true u k l (implicit scope at other fun) more =
    subst (λ u. Pair (its_name o) true
    (denoted_in_whole true k (its_name o) (Bound scope (without_context (its_name o))))
    (denoted_in_whole u l (its_name o) (Bound scope (without_context (its_name o)))))
    (sym (more refl)) (both (its_name o))
pair item o false true k l (implicit scope at other fun) more =
    second (inner-top k scope (without_context (its_name o)) fun) refl
pair item o false false k l (implicit scope at other fun) more =
    neither (inner-top k scope (without_context (its_name o)) fun)
    (inner-top l scope (without_context (its_name o)) fun)
pair item o true u k l unbound more =
    subst (λ u. Pair (its_name o) true (denoted_in_whole true k (its_name o) (Global o.sym))
    (denoted_in_whole u l (its_name o) (Global o.sym))) (sym (more refl)) (both (its_name o))
pair item o false true k l unbound more = second refl refl
pair item o false false k l unbound more = neither refl refl

-- An identifier that binds, where something declares it.
from-view : (item : List Item) (o : Occurrence) {d : Denoted} → Viewed item o d →
    is_global_written d ≡ true →
    (scope : Scope) × (d ≡ Bound scope (its_name o))
    × (is_written_in (own_declared item) scope (its_name o) ≡ true)
from-view item o (written scope at is) e = (scope, refl, is)
from-view item o (implicit scope at other fun) e = absurd (false≢true e)
from-view item o unbound e = absurd (false≢true e)

own-written : (item : List Item) → IsNamed item → (o : Occurrence) → IsListedIn item o →
    is_binding o.role ≡ true → (way_of o.path ≡ None → ⊥) →
    (scope : Scope) × (own_denoted item o ≡ Bound scope (its_name o))
    × (is_written_in (own_declared item) scope (its_name o) ≡ true)
own-written item named o listed binds some =
    from-view item o (viewed item named o listed)
    (ap (λ b. is_global_written
    (own_or_found (own_declared item)
    (denoted_by_context (own_declared item) (scopes_around Es o.path) (its_name o))
    (cond b (declared_by o.place (its_name o) (scopes_around Es o.path) (way_of o.path))
    None))) binds ∙ by_way (way_of o.path) some)
  where
    by_way : (way : Option Way) → (way ≡ None → ⊥) →
        is_global_written (own_or_found (own_declared item)
        (denoted_by_context (own_declared item) (scopes_around Es o.path) (its_name o))
        (declared_by o.place (its_name o) (scopes_around Es o.path) way)) ≡ true
    by_way None absent = absurd (absent refl)
    by_way (Some way) absent = refl

-- Mentioned bindings.
all-top : (tree : List Item) (tops : List TopItem) (x : Denoted) →
    Contains (mentioned ByContext Top tree tops) x → is_of_scope Top x ≡ true
all-top tree tops x there =
    ((Contains-filter (is_of_scope Top)
    (flat_map (λ item. filter_map (denoted_in ByContext tree item) (occurrences item.items))
    tops) x).0 (once-from
    (filter (is_of_scope Top)
    (flat_map (λ item. filter_map (denoted_in ByContext tree item) (occurrences item.items))
    tops)) x there)).1

in-filter_map : {A : Type 0} (f : A → Option Denoted) (xs : List A) (i : ℕ) (x : A) (d : Denoted) →
    slice_get xs i ≡ Some x → f x ≡ Some d → Contains (filter_map f xs) d
in-filter_map f [] i x d at is = absurd (none-some x at)
in-filter_map f (y ∷ xs) zero x d at is =
    subst (λ o. Contains (cons_option o (filter_map f xs)) d) (sym (ap f (same_Some y x at) ∙ is))
    ((Contains-cons d (filter_map f xs) d).1 (inl refl))
in-filter_map f (y ∷ xs) (suc i) x d at is = by_first (f y) (in-filter_map f xs i x d at is)
  where
    by_first : (first : Option Denoted) → Contains (filter_map f xs) d →
        Contains (cons_option first (filter_map f xs)) d
    by_first None there = there
    by_first (Some e) there = (Contains-cons e (filter_map f xs) d).1 (inr there)

in-flat_map : (f : TopItem → List Denoted) (tops : List TopItem) (s : ℕ) (top : TopItem)
    (d : Denoted) →
    slice_get tops s ≡ Some top → Contains (f top) d → Contains (flat_map f tops) d
in-flat_map f [] s top d at there = absurd (none-some top at)
in-flat_map f (x ∷ tops) zero top d at there =
    Contains-append_left (f x) (flat_map f tops) d
    (subst (λ t. Contains (f t) d) (sym (same_Some x top at)) there)
in-flat_map f (x ∷ tops) (suc s) top d at there =
    Contains-append_right (f x) (flat_map f tops) d (in-flat_map f tops s top d at there)

in-mentioned : (tree : List Item) (tops : List TopItem) (s i : ℕ) (top : TopItem) (o : Occurrence)
    (name : Name) →
    slice_get tops s ≡ Some top → slice_get (occurrences top.items) i ≡ Some o →
    denoted_in ByContext tree top o ≡ Some (Bound Top name) →
    Contains (mentioned ByContext Top tree tops) (Bound Top name)
in-mentioned tree tops s i top o name at there denotes =
    once-keeps (filter (is_of_scope Top)
    (flat_map (λ item. filter_map (denoted_in ByContext tree item) (occurrences item.items))
    tops)) name
    ((Contains-filter (is_of_scope Top)
    (flat_map (λ item. filter_map (denoted_in ByContext tree item) (occurrences item.items))
    tops) (Bound Top name)).1 (
      in-flat_map (λ item. filter_map (denoted_in ByContext tree item) (occurrences item.items))
          tops s top (Bound Top name) at
          (in-filter_map (denoted_in ByContext tree top) (occurrences top.items) i o (Bound Top name)
          there denotes),
      refl,
    ))

-- what is not of the top has no number
no-position : (tree : List Item) (tops : List TopItem) (d : Denoted) → is_of_scope Top d ≡ false →
    position (same_denoted d) (mentioned ByContext Top tree tops) ≡ None
no-position tree tops d other =
    position-none (same_denoted d) (mentioned ByContext Top tree tops) (λ x there same.
    let top = is_top-of x (all-top tree tops x there) in
    false≢true (sym other
    ∙ ap (is_of_scope Top) (same-top top.0 d (ap (same_denoted d) (sym top.1) ∙ same))))

-- A call of `Object.assign`.

none-if : {A : Type 0} (b : Bool) (y : A) (x : Option A) → x ≡ None →
    if b then x else None ≡ Some y → ⊥
none-if true y x none e = none-some y (sym none ∙ e)
none-if false y x none e = none-some y e

-- a member that is read goes on behind its beginning
property-within : (item : List Item) (q : ℕ) (y : List ℕ) → property_of (node_at item q) ≡ Some y →
    suc q < length item
property-within [] zero y e = absurd (none-some y e)
property-within [] (suc q) y e = absurd (none-some y e)
property-within (h.Open field head ∷ []) zero y e = absurd (none-if (is_member head) y None refl e)
property-within (h.Ident field symbol ctxt role ∷ []) zero y e = absurd (none-some y e)
property-within (h.Hole field ∷ []) zero y e = absurd (none-some y e)
property-within (h.Close ∷ []) zero y e = absurd (none-some y e)
property-within (x ∷ z ∷ zs) zero y e = omega arith
property-within (x ∷ item) (suc q) y e =
    let rest = property-within item q y e in omega (arith, rest)

pub assign-same : (test other : ℕ → Bool) (item : List Item) →
    ((p : ℕ) → p < length item → test p ≡ other p) → (path : List Around) →
    is_in_assign_of test item path ≡ is_in_assign_of other item path
assign-same test other item same [] = refl
assign-same test other item same (node ∷ outer) =
    ap (λ b. b || is_in_assign_of test item outer)
    (by_text (property_of (node_at item (node.begins + 1))) refl
    (is_call_head node.head && node.field == 1))
    ∙ ap (λ b. (is_call_head node.head && node.field == 1
    && is_text (codes "assign") (property_of (node_at item (node.begins + 1)))
    && other (node.begins + 2)) || b) (assign-same test other item same outer)
  where
    by_text : (x : Option (List ℕ)) → property_of (node_at item (node.begins + 1)) ≡ x →
        (front : Bool) →
        (front && is_text (codes "assign") x && test (node.begins + 2))
        ≡ (front && is_text (codes "assign") x && other (node.begins + 2))
    by_text None e true = refl
    by_text None e false = refl
    by_text (Some y) e front =
        let within = property-within item (node.begins + 1) y e in
        ap (λ b. front && bytes_eq (codes "assign") y && b)
        (same (node.begins + 2) (omega (arith, within)))

-- The global `Object`.

-- whether the global `Object` stands at a place of an item, by what stands there in the item as a
-- module
abbrev object_told : List (List Item) → ℕ → List Item → Option Occurrence → Bool
object_told items m item None = false
object_told items m item (Some u) =
    is_global_named (codes "Object") (Some (in_whole items m item u)) && (u.ctxt == 1)

object-at : (items : List (List Item)) → AllOf IsWholeItem items → AllOf IsNamed items →
    (top : TopItem) → (placed : IsItemPlaced items top) → (p : ℕ) → p < length top.items →
    is_object_at ByContext (joined_items items) (top.start + p)
    ≡ object_told items placed.m top.items (occurrence_at (tree_of_items top.items) (suc p))
object-at items whole named top placed p lt =
    ap (is_object_at ByContext (joined_items items)) place
    ∙ ap (λ d. is_global_named (codes "Object") d
    && is_of_nothing ByContext
    (occurrence_at (joined_items items) (suc (offset items placed.m + p))))
    (denoted-joined items whole named placed.m top.items placed.there p lt)
    ∙ ap (λ o. is_global_named (codes "Object")
    (option_map (in_whole items placed.m top.items)
    (occurrence_at (tree_of_items top.items) (suc p))) && is_of_nothing ByContext o)
    (occurrence-placed items whole placed.m top.items placed.there p lt)
    ∙ by_occurrence (occurrence_at (tree_of_items top.items) (suc p))
  where
    place : top.start + p ≡ suc (offset items placed.m + p)
    place = let start = placed.start in omega (arith, start)

    by_occurrence : (o : Option Occurrence) →
        (is_global_named (codes "Object") (option_map (in_whole items placed.m top.items) o)
        && is_of_nothing ByContext (option_map (moved_occurrence (offset items placed.m)) o))
        ≡ object_told items placed.m top.items o
    by_occurrence None = refl
    by_occurrence (Some u) = refl

-- it is the same in two wholes, if in both or in neither some item declares it
object-same : (items others : List (List Item)) (m n : ℕ) (item : List Item) → IsNamed item →
    is_item_top_name others (name_of ByContext (codes "Object") 1)
    ≡ is_item_top_name items (name_of ByContext (codes "Object") 1) →
    (p : ℕ) →
    object_told items m item (occurrence_at (tree_of_items item) p)
    ≡ object_told others n item (occurrence_at (tree_of_items item) p)
object-same items others m n item named object p =
    by_occurrence (occurrence_at (tree_of_items item) p) refl
  where
    never : (t : Bool) (x : Name) (s : Scope) (y : Name) (b : Bool) →
        (is_global_named (codes "Object") (Some (cond t (Bound Top x) (Bound s y))) && b) ≡ false
    never true x s y b = refl
    never false x s y b = refl

    by_view : (u : Occurrence) {d : Denoted} → Viewed item u d → (u.ctxt == 1) ≡ true →
        is_global_named (codes "Object")
        (Some (denoted_in_whole (is_item_top_name items (its_name u)) (offset items m) (its_name u)
        d)) ≡ is_global_named (codes "Object")
        (Some (denoted_in_whole (is_item_top_name others (its_name u)) (offset others n)
        (its_name u) d))
    by_view u (written scope at is) one = refl
    by_view u (implicit scope at other fun) one = absurd (false≢true (sym other ∙ one))
    by_view u unbound one = by_symbol (bytes_eq (codes "Object") u.sym) refl
      where
        is_no : (t : Bool) → bytes_eq (codes "Object") u.sym ≡ false →
            is_global_named (codes "Object")
            (Some (cond t (Bound Top (its_name u)) (Global u.sym))) ≡ false
        is_no true e = refl
        is_no false e = e

        by_symbol : (b : Bool) → bytes_eq (codes "Object") u.sym ≡ b →
            is_global_named (codes "Object")
            (Some (cond (is_item_top_name items (its_name u)) (Bound Top (its_name u))
            (Global u.sym))) ≡ is_global_named (codes "Object")
            (Some (cond (is_item_top_name others (its_name u)) (Bound Top (its_name u))
            (Global u.sym)))
        by_symbol false e =
            is_no (is_item_top_name items (its_name u)) e
            ∙ sym (is_no (is_item_top_name others (its_name u)) e)
        by_symbol true e =
            let symbol : codes "Object" ≡ u.sym = (bytes_eq-Decides (codes "Object") u.sym).0 e in
            let ctxt : 1 ≡ u.ctxt = sym (eqb-true u.ctxt 1 one) in
            let name : name_of ByContext (codes "Object") 1 ≡ its_name u =
            λ i. name_of ByContext (symbol i) (ctxt i) in
            let same : is_item_top_name items (its_name u) ≡ is_item_top_name others (its_name u) =
            ap (is_item_top_name items) (sym name) ∙ sym object ∙ ap (is_item_top_name others) name in
            ap (λ t. is_global_named (codes "Object")
            (Some (cond t (Bound Top (its_name u)) (Global u.sym)))) same

    by_context : (u : Occurrence) → IsListedIn item u → (b : Bool) → (u.ctxt == 1) ≡ b →
        (is_global_named (codes "Object") (Some (in_whole items m item u)) && b)
        ≡ (is_global_named (codes "Object") (Some (in_whole others n item u)) && b)
    by_context u listed true one = ap (λ g. g && true) (by_view u (viewed item named u listed) one)
    by_context u listed false one =
        fails (is_global_named (codes "Object") (Some (in_whole items m item u)))
        ∙ sym (fails (is_global_named (codes "Object") (Some (in_whole others n item u))))
      where
        fails : (b : Bool) → (b && false) ≡ false
        fails true = refl
        fails false = refl

    by_occurrence : (o : Option Occurrence) → occurrence_at (tree_of_items item) p ≡ o →
        object_told items m item o ≡ object_told others n item o
    by_occurrence None e = refl
    by_occurrence (Some u) e =
        by_context u (occurrence_at-listed (tree_of_items item) p u e) (u.ctxt == 1) refl

-- the top item beside one, which has the same elements
beside : (tops its : List TopItem) →
    map (λ (top : TopItem). top.items) tops ≡ map (λ (top : TopItem). top.items) its →
    (s : ℕ) (top : TopItem) → slice_get tops s ≡ Some top →
    (n : ℕ) × (slice_get its s ≡ Some (record { start = n; items = top.items }))
beside tops its same s top at =
    let found = get-map (λ (top : TopItem). top.items) its s top.items
    (ap (λ l. slice_get l s) (sym same) ∙ map-get (λ (top : TopItem). top.items) tops s top at)
    in (
      found.0.start,
      found.1
          ∙ (λ i. Some (record { start = found.0.start; items = sym found.2 i })),
    )

-- a mention of a group is one of an identifier of an item
pub record MentionOf (tree : List Item) (tops : List TopItem) (s i : ℕ) (x : Mention) : Type 0
  where
    pub top : TopItem
    pub at : slice_get tops s ≡ Some top
    pub o : Occurrence
    pub there : slice_get (occurrences top.items) i ≡ Some o
    pub is : x ≡ mention_of ByContext tree (mentioned ByContext Top tree tops) top o

mention-found : (tree : List Item) (tops : List TopItem) (owners : List (Option ℕ)) (s i : ℕ)
    (x : Mention) →
    mention_at (group_of ByContext Top tree tops owners) s i ≡ Some x → MentionOf tree tops s i x
mention-found tree tops owners s i x e =
    by_item (slice_get
    (map (λ item. map (mention_of ByContext tree (mentioned ByContext Top tree tops) item)
    (occurrences item.items)) tops) s) refl e
  where
    by_item : (mentions : Option (List Mention)) →
        slice_get (map (λ item. map
        (mention_of ByContext tree (mentioned ByContext Top tree tops) item)
        (occurrences item.items)) tops) s ≡ mentions →
        option_and_then (λ (m : List Mention). slice_get m i) mentions ≡ Some x →
        MentionOf tree tops s i x
    by_item None at is = absurd (none-some x is)
    by_item (Some mentions) at is =
        let it = get-map (λ item. map
        (mention_of ByContext tree (mentioned ByContext Top tree tops) item)
        (occurrences item.items)) tops s mentions at in
        let o = get-map (mention_of ByContext tree (mentioned ByContext Top tree tops) it.0)
        (occurrences it.0.items) i x (ap (λ m. slice_get m i) (sym it.2) ∙ is) in
        record { top = it.0; at = it.1; o = o.0; there = o.1; is = o.2 }

mention-there : (tree : List Item) (tops : List TopItem) (owners : List (Option ℕ)) (s i : ℕ)
    (top : TopItem) (o : Occurrence) →
    slice_get tops s ≡ Some top → slice_get (occurrences top.items) i ≡ Some o →
    mention_at (group_of ByContext Top tree tops owners) s i
    ≡ Some (mention_of ByContext tree (mentioned ByContext Top tree tops) top o)
mention-there tree tops owners s i top o at there =
    ap (option_and_then (λ (m : List Mention). slice_get m i))
    (map-get (λ item. map (mention_of ByContext tree (mentioned ByContext Top tree tops) item)
    (occurrences item.items)) tops s top at)
    ∙ map-get (mention_of ByContext tree (mentioned ByContext Top tree tops) top)
    (occurrences top.items) i o there

-- the number of what an identifier denotes
number-is : (tree : List Item) (tops : List TopItem) (top : TopItem) (o : Occurrence) (d : Denoted)
    →
    denoted_in ByContext tree top o ≡ Some d →
    (mention_of ByContext tree (mentioned ByContext Top tree tops) top o).top
    ≡ position (same_denoted d) (mentioned ByContext Top tree tops)
number-is tree tops top o d e =
    ap (option_and_then (λ d. position (same_denoted d) (mentioned ByContext Top tree tops))) e

abbrev name_in : Denoted → Name
name_in (Bound scope name) = name
name_in (Global x) = record { sym = x; ctxt = None }

-- what denotes a binding of the top of a whole has its name, and its item declares it or it is
-- told apart by the whole alone
top-told_by : (item : List Item) (o : Occurrence) (name : Name) (t : Bool) (k : ℕ) {d : Denoted} →
    Viewed item o d → denoted_in_whole t k (its_name o) d ≡ Bound Top name →
    (its_name o ≡ name)
    × (((is_global_written d ≡ false) × (t ≡ true))
    ⊎ (is_written_in (own_declared item) Top name ≡ true))
top-told_by item o name t k (written Wrapper at is) e = absurd at
top-told_by item o name t k (written Top at is) e =
    let same = ap name_in e in
    (same, inr (ap (is_written_in (own_declared item) Top) (sym same) ∙ is))
top-told_by item o name t k (written (Inner kind begins) at is) e =
    absurd (false≢true (sym (top-no k (Inner kind begins) (its_name o) refl)
    ∙ ap (is_of_scope Top) e))
top-told_by item o name true k (implicit scope at other fun) e = (ap name_in e, inl (refl, refl))
top-told_by item o name false k (implicit scope at other fun) e =
    absurd (false≢true (sym (inner-top k scope (without_context (its_name o)) fun)
    ∙ ap (is_of_scope Top) e))
top-told_by item o name true k unbound e = (ap name_in e, inl (refl, refl))
top-told_by item o name false k unbound e = absurd (false≢true (ap (is_of_scope Top) e))

module _ (items others : List (List Item)) (whole : AllOf IsWholeItem items)
    (named : AllOf IsNamed items) (other_whole : AllOf IsWholeItem others)
    (other_named : AllOf IsNamed others) (tops its : List TopItem)
    (picked : ArePicked items others tops its) (binds_own : (s : ℕ) (top : TopItem) →
    slice_get tops s ≡ Some top → BindsOwnNames items others top.items) (owners : List (Option ℕ)) where
  abbrev pub first_group : Group
  first_group = group_of ByContext Top (joined_items items) tops owners

  abbrev pub second_group : Group
  second_group = group_of ByContext Top (joined_items others) its owners

  abbrev ms : List Denoted
  ms = mentioned ByContext Top (joined_items items) tops

  abbrev ns : List Denoted
  ns = mentioned ByContext Top (joined_items others) its

  -- the numbers of one binding
  abbrev pub Corresponds : ℕ → ℕ → Type 0
  Corresponds b c =
      (d : Denoted) × (position (same_denoted d) ms ≡ Some b)
      × (position (same_denoted d) ns ≡ Some c)

  abbrev twin : ℕ → TopItem → TopItem
  twin n top = record { start = n; items = top.items }

  -- what the top of the first whole declares, that of the second does
  more : (name : Name) → is_item_top_name items name ≡ true → is_item_top_name others name ≡ true
  more name e =
      let found = list_any-found (λ item. is_written_in (own_declared item) Top name) items e in
      let top = picked.all found.0 found.1 found.2 in
      let other = beside tops its picked.same top.0 top.1 top.2 in
      let placed = all-at (IsItemPlaced others) its top.0 (twin other.0 top.1) picked.its_placed
      other.1 in
      list_any-here (λ item. is_written_in (own_declared item) Top name) others placed.m
      top.1.items placed.there (ap (λ item. is_written_in (own_declared item) Top name) top.3
      ∙ found.3)

  -- an identifier that binds, with the number of a binding of the second top
  module _ (t j : ℕ) (top : TopItem) (o : Occurrence) (at : slice_get its t ≡ Some top)
      (there : slice_get (occurrences top.items) j ≡ Some o) (binds : is_binding o.role ≡ true)
    where
      its_home : Housed top.items o
      its_home = housed top.items j o there

      its_place : IsItemPlaced others top
      its_place = all-at (IsItemPlaced others) its t top picked.its_placed at

      its_first : (m : ℕ) × (slice_get items m ≡ Some top.items)
      its_first =
          let back = beside its tops (sym picked.same) t top at in
          let first = all-at (IsItemPlaced items) tops t (twin back.0 top) picked.placed back.1 in
          (first.m, first.there)

      its_listed : IsListedIn top.items its_home.u
      its_listed = listed-at top.items o its_home

      its_named : IsNamed top.items
      its_named = all-at IsNamed others its_place.m top.items other_named its_place.there

      its_denoted : denoted_in ByContext (joined_items others) top o
          ≡ Some (in_whole others its_place.m top.items its_home.u)
      its_denoted = denotes-in others other_whole other_named top its_place o its_home

      its_binding : is_binding its_home.u.role ≡ true
      its_binding = ap is_binding its_home.role ∙ binds

      declared-first : (name : Name) (c : ℕ) → position (same_denoted (Bound Top name)) ns ≡ Some c →
          (mention_of ByContext (joined_items others) ns top o).top ≡ Some c →
          is_item_top_name items name ≡ false → ⊥
      declared-first name c number its_number none =
          by_kind told.1 (let back = beside its tops (sym picked.same) t top at in
          binds_own t (twin back.0 top) back.1 its_home.u its_listed its_binding)
        where
          told : (its_name its_home.u ≡ name)
              × (((is_global_written (own_denoted top.items its_home.u) ≡ false)
              × (is_item_top_name others (its_name its_home.u) ≡ true))
              ⊎ (is_written_in (own_declared top.items) Top name ≡ true))
          told =
              top-told_by top.items its_home.u name (is_item_top_name others (its_name its_home.u))
              (offset others its_place.m) (viewed top.items its_named its_home.u its_listed)
              (position-one ns (all-top (joined_items others) its)
              (in_whole others its_place.m top.items its_home.u) (Bound Top name) c
              (sym (number-is (joined_items others) its top o
              (in_whole others its_place.m top.items its_home.u) its_denoted)
              ∙ its_number) number)

          by_way : (is_global_written (own_denoted top.items its_home.u) ≡ false)
              × (is_item_top_name others (its_name its_home.u) ≡ true) →
              (way_of its_home.u.path ≡ None → ⊥)
              ⊎ (is_item_top_name others (its_name its_home.u) ≡ true →
              is_item_top_name items (its_name its_home.u) ≡ true) →
              ⊥
          by_way is (inl some) =
              let own = own-written top.items its_named its_home.u its_listed its_binding some in
              false≢true (sym is.0 ∙ ap is_global_written own.1)
          by_way is (inr own) =
              false≢true (sym none ∙ ap (is_item_top_name items) (sym told.0) ∙ own is.1)

          by_kind : ((is_global_written (own_denoted top.items its_home.u) ≡ false)
              × (is_item_top_name others (its_name its_home.u) ≡ true))
              ⊎ (is_written_in (own_declared top.items) Top name ≡ true) →
              (way_of its_home.u.path ≡ None → ⊥)
              ⊎ (is_item_top_name others (its_name its_home.u) ≡ true →
              is_item_top_name items (its_name its_home.u) ≡ true) →
              ⊥
          by_kind (inl is) way = by_way is way
          by_kind (inr is) way =
              false≢true (sym (own-top items its_first.0 top.items name its_first.1 none) ∙ is)

  -- a name that no item of the first whole declares is declared by none of these items
  loose-second : (name : Name) (c : ℕ) → is_item_top_name items name ≡ false →
      position (same_denoted (Bound Top name)) ns ≡ Some c → (t : ℕ) → Declares second_group t c →
      ⊥
  loose-second name c none number t (j, y, d) =
      let it = mention-found (joined_items others) its owners t j y d.there in
      declared-first t j it.top it.o it.at it.there (sym (ap (λ (m : Mention). m.declares) it.is)
      ∙ d.declares) name c number (sym (ap (λ (m : Mention). m.top) it.is) ∙ d.denotes) none

  -- two mentions of one identifier
  module _ (s i : ℕ) (top : TopItem) (n : ℕ) (o : Occurrence) (at : slice_get tops s ≡ Some top)
      (its_at : slice_get its s ≡ Some (twin n top)) (there : slice_get (occurrences top.items) i
      ≡ Some o) where
    placed : IsItemPlaced items top
    placed = all-at (IsItemPlaced items) tops s top picked.placed at

    other_placed : IsItemPlaced others (twin n top)
    other_placed = all-at (IsItemPlaced others) its s (twin n top) picked.its_placed its_at

    item_named : IsNamed top.items
    item_named = all-at IsNamed items placed.m top.items named placed.there

    at_home : Housed top.items o
    at_home = housed top.items i o there

    numbers : (d e : Denoted) → denoted_in ByContext (joined_items items) top o ≡ Some d →
        denoted_in ByContext (joined_items others) (twin n top) o ≡ Some e →
        Pair (its_name at_home.u) (is_item_top_name items (its_name at_home.u)) d e →
        TopsAlike Corresponds first_group second_group (position (same_denoted d) ms)
        (position (same_denoted e) ns)
    numbers d e one two (both name) =
        let first = position-there (same_denoted (Bound Top name)) ms (Bound Top name)
        (in-mentioned (joined_items items) tops s i top o name at there one) (same-refl name) in
        let second = position-there (same_denoted (Bound Top name)) ns (Bound Top name)
        (in-mentioned (joined_items others) its s i (twin n top) o name its_at there two)
        (same-refl name) in
        subst (λ x. TopsAlike Corresponds first_group second_group x
        (position (same_denoted (Bound Top name)) ns)) (sym first.1)
        (subst (TopsAlike Corresponds first_group second_group (Some first.0)) (sym second.1)
        (same_top (Bound Top name, first.1, second.1)))
    numbers d e one two (neither other its_other) =
        subst (λ x. TopsAlike Corresponds first_group second_group x
        (position (same_denoted e) ns)) (sym (no-position (joined_items items) tops d other))
        (subst (TopsAlike Corresponds first_group second_group None)
        (sym (no-position (joined_items others) its e its_other)) (loose tt tt))
    numbers d e one two (second other none) =
        let number = position-there (same_denoted (Bound Top (its_name at_home.u))) ns
        (Bound Top (its_name at_home.u))
        (in-mentioned (joined_items others) its s i (twin n top) o (its_name at_home.u) its_at there
        two) (same-refl (its_name at_home.u)) in
        subst (λ x. TopsAlike Corresponds first_group second_group x
        (position (same_denoted (Bound Top (its_name at_home.u))) ns))
        (sym (no-position (joined_items items) tops d other))
        (subst (TopsAlike Corresponds first_group second_group None) (sym number.1)
        (loose tt (loose-second (its_name at_home.u) number.0 none number.1)))

    alike : MentionsAlike Corresponds first_group second_group
        (mention_of ByContext (joined_items items) ms top o)
        (mention_of ByContext (joined_items others) ns (twin n top) o)
    alike = record {
      top =
          let one = denotes-in items whole named top placed o at_home in
          let two = denotes-in others other_whole other_named (twin n top) other_placed o at_home
          in
          subst (λ x. TopsAlike Corresponds first_group second_group x
          (mention_of ByContext (joined_items others) ns (twin n top) o).top)
          (sym (number-is (joined_items items) tops top o _ one))
          (subst (TopsAlike Corresponds first_group second_group
          (position (same_denoted (in_whole items placed.m top.items at_home.u)) ms))
          (sym (number-is (joined_items others) its (twin n top) o _ two))
          (numbers (in_whole items placed.m top.items at_home.u)
          (in_whole others other_placed.m top.items at_home.u) one two
          (pair top.items at_home.u (is_item_top_name items (its_name at_home.u))
          (is_item_top_name others (its_name at_home.u)) (offset items placed.m)
          (offset others other_placed.m)
          (viewed top.items item_named at_home.u (listed-at top.items o at_home))
          (more (its_name at_home.u)))));
      same = record {
        declares = refl;
        later = refl;
        assigned = refl;
        argument = refl;
        chain = refl;
        prototype =
            ap (λ b. is_prototype_read top.items o.path && b)
            (assign-same (λ place. is_object_at ByContext (joined_items items) (top.start + place))
            (λ place. is_object_at ByContext (joined_items others) (n + place)) top.items
            (λ p lt. object-at items whole named top placed p lt
            ∙ object-same items others placed.m other_placed.m top.items item_named
            picked.object
            (suc p) ∙ sym (object-at others other_whole other_named (twin n top) other_placed p
            lt)) o.path);
        valueless = refl;
      };
    }

  -- BLOCKS: the groups are alike.
  pub groups-alike : GroupsCorrespond Corresponds first_group second_group
  groups-alike = record {
    owners = refl;
    size =
        length-map tops (λ item. map (mention_of ByContext (joined_items items) ms item)
        (occurrences item.items))
        ∙ sym (length-map tops (λ (top : TopItem). top.items)) ∙ ap length picked.same
        ∙ length-map its (λ (top : TopItem). top.items)
        ∙ sym (length-map its
        (λ item. map (mention_of ByContext (joined_items others) ns item) (occurrences item.items)));
    there = λ s i x e.
        let it = mention-found (joined_items items) tops owners s i x e in
        let other = beside tops its picked.same s it.top it.at in (
          _,
          mention-there (joined_items others) its owners s i (twin other.0 it.top) it.o other.1
              it.there,
          subst (λ x. MentionsAlike Corresponds first_group second_group x
              (mention_of ByContext (joined_items others) ns (twin other.0 it.top) it.o)) (sym it.is)
              (alike s i it.top other.0 it.o it.at other.1 it.there),
        );
    back = λ s i y e.
        let it = mention-found (joined_items others) its owners s i y e in
        let other = beside its tops (sym picked.same) s it.top it.at in (
          _,
          mention-there (joined_items items) tops owners s i (twin other.0 it.top) it.o other.1
              it.there,
          subst (MentionsAlike Corresponds first_group second_group
              (mention_of ByContext (joined_items items) ms (twin other.0 it.top) it.o)) (sym it.is)
              (alike s i (twin other.0 it.top) it.top.start it.o other.1 it.at it.there),
        );
    one =
        λ b c d x y. same_Some c d (sym x.2
        ∙ ap (λ e. position (same_denoted e) ns)
        (position-one ms (all-top (joined_items items) tops) x.0 y.0 b x.1 y.1) ∙ y.2);
    other_one =
        λ b c d x y. same_Some c d (sym x.1
        ∙ ap (λ e. position (same_denoted e) ms)
        (position-one ns (all-top (joined_items others) its) x.0 y.0 b x.2 y.2) ∙ y.1);
  }

  -- an order that is good for the items of a block by itself is good for them in the whole bundle
  pub order-joined : (order : List ℕ) → IsGoodOrder first_group order →
      IsGoodOrder second_group order
  order-joined order good = good-order Corresponds first_group second_group groups-alike order good
