-- The elements of a statement, by the top item that states it: the nodes and names of what is
-- stated, and the name of a default that has none of its own.
use Rattle.std.proofs.Common.{◌≡◌, ◌≤◌, ◌<◌, ◌⊎◌, inl, inr, ℕ, suc, ◌+◌, Bool, true, false, List, [], ◌∷◌, ◌++◌, length, length-append, refl, ap, sym, ◌∙◌, subst, arith}
use Rattle.std.specs.Prelude.{Contains}
use Rattle.std.proofs.lemmas.Bool.{false≢true, cases_lt}
use Rattle.bundle_syntax.specs.declared.piece.Role.{Role}
use Rattle.bundle_syntax.specs.declared.piece.Role.TheVariants as r
use Rattle.bundle_syntax.specs.Item as h
use Rattle.bundle_syntax.specs.Item.{Item, Head}
use Rattle.bundle_rules.specs.Places.{Spot, past, Occurrence, occurrences_from}
use Rattle.bundle_rules.specs.Nodes.{Text, without_last}
use Rattle.bundle_rules.specs.Idents.{Ident}
use Rattle.bundle_rules.specs.Cleared.{cleared_head, cleared}
use Rattle.bundle_rules.specs.Statements.{Element, taken, written, taken_from, taken_in_field, moved_to, default_name, default_binding, default_constant, default_declaration, declaration_head, stated}
use Rattle.bundle_rules.proofs.HeadLemmas.{of_head}
use Rattle.bundle_tree_places.specs.Edits.{node}
use Rattle.bundle_tree_rebuild.specs.Work.{Work}
use Rattle.bundle_merge_theory.proofs.joined.Bindings.{Contains-cons, Contains-none}
use Rattle.bundle_merge_theory.proofs.grouped.ClearedLemmas.{length-cleared}
use Rattle.bundle_merge_theory.specs.noted.Stated.{states_itself, declares_default}
use Rattle.bundle_merge_theory.specs.walked.Stated.{StatesList}
use Rattle.bundle_merge_theory.specs.walked.Stated as t
use Rattle.bundle_merge_theory.proofs.noted.Names.{occurrences_node}
use Rattle.bundle_scope_names.proofs.Kept.{occurrences-append as occurrences_append}
use Rattle.bundle_merge_theory.proofs.noted.Statements.{itself_stated, one_statement}
use Rattle.bundle_link.proofs.StatedElements.{last-off as last_off}
use Rattle.bundle_merge_theory.specs.own.Beside.{top_spot}
use Rattle.bundle_merge_theory.proofs.own.Stated.{stated_low, stated_high, itself_default as itself-declares}
use Rattle.bundle_merge_theory.proofs.walked.Clearing.{node-cleared as cleared-node}

-- one of these
abbrev pub Has : {A : Type 0} → List A → A → Type 0
Has [] x = ⊥
Has (y ∷ ys) x = (y ≡ x) ⊎ Has ys x

pub has-contains : {A : Type 0} (xs : List A) (x : A) → Has xs x → Contains xs x
has-contains [] x has = absurd has
has-contains (y ∷ xs) x (inl e) = (Contains-cons y xs x).1 (inl e)
has-contains (y ∷ xs) x (inr later) = (Contains-cons y xs x).1 (inr (has-contains xs x later))

pub contains-has : {A : Type 0} (xs : List A) (x : A) → Contains xs x → Has xs x
contains-has [] x c = absurd (Contains-none x c)
contains-has (y ∷ xs) x c = by ((Contains-cons y xs x).0 c) (contains-has xs x)
  where
    by : (y ≡ x) ⊎ Contains xs x → (Contains xs x → Has xs x) → Has (y ∷ xs) x
    by (inl e) go = inl e
    by (inr later) go = inr (go later)

has-left : {A : Type 0} (xs ys : List A) (x : A) → Has xs x → Has (xs ++ ys) x
has-left [] ys x has = absurd has
has-left (y ∷ xs) ys x (inl e) = inl e
has-left (y ∷ xs) ys x (inr later) = inr (has-left xs ys x later)

has-either : {A : Type 0} (xs ys : List A) (x : A) → Has (xs ++ ys) x → Has xs x ⊎ Has ys x
has-either [] ys x has = inr has
has-either (y ∷ xs) ys x (inl e) = inl (inl e)
has-either (y ∷ xs) ys x (inr later) = by (has-either xs ys x later)
  where
    by : Has xs x ⊎ Has ys x → Has (y ∷ xs) x ⊎ Has ys x
    by (inl has) = inl (inr has)
    by (inr has) = inr has

-- the elements of a statement whose parts stand at these places, and whose names these are
pub record HasElements (os : List Occurrence) (has_default : Bool) (low high : ℕ)
    (statement : List Element) : Type 0 where
  pub nodes : (a : ℕ) → low ≤ a → a < high → (x : Item) × Has statement (taken a x)
  pub names : (o : Occurrence) → Has os o →
      (f : ℕ) × Has statement (taken o.place (h.Ident f o.sym o.ctxt o.role))
  pub back : (a f c : ℕ) (x : Text) → Has statement (taken a (h.Ident f x c r.Binding)) →
      (o : Occurrence) × Has os o × (o.place ≡ a) × (o.sym ≡ x) × (o.role ≡ r.Binding)
  pub front : has_default ≡ true → Has statement default_binding
  pub front_back : (y : Item) (f c : ℕ) (x : Text) (role : Role) → y ≡ h.Ident f x c role →
      Has statement (written y) → (has_default ≡ true) × (x ≡ default_name)

-- Lists of elements.

nodes-in : (place : ℕ) (xs : List Item) (a : ℕ) → place ≤ a → a < place + length xs →
    (x : Item) × Has (taken_from place xs) (taken a x)
nodes-in place [] a from to = absurd (omega (arith, from, to))
nodes-in place (x ∷ xs) a from to = by (cases_lt place a) (λ later. nodes-in (suc place) xs a later (omega (arith, to)))
  where
    by : (place < a) ⊎ (a ≤ place) →
        (suc place ≤ a → (y : Item) × Has (taken_from (suc place) xs) (taken a y)) →
        (y : Item) × Has (taken_from place (x ∷ xs)) (taken a y)
    by (inl lt) go = let it = go (omega (arith, lt)) in (it.0, inr it.1)
    by (inr le) go = let e : place ≡ a = omega (arith, from, le) in (x, inl (ap (λ n. taken n x) e))

names-in : (s : Spot) (xs : List Item) (o : Occurrence) → Has (occurrences_from s xs) o →
    (f : ℕ) × Has (taken_from s.place xs) (taken o.place (h.Ident f o.sym o.ctxt o.role))
names-in s [] o has = absurd has
names-in s (x ∷ xs) o has = by x has (names-in (past s x) xs o)
  where
    place : s.place + 1 ≡ suc s.place
    place = omega arith

    later : (x : Item) → (Has (occurrences_from (past s x) xs) o → (f : ℕ) × Has (taken_from (s.place + 1) xs) (taken o.place (h.Ident f o.sym o.ctxt o.role))) → Has (occurrences_from (past s x) xs) o →
        (f : ℕ) × Has (taken_from s.place (x ∷ xs)) (taken o.place (h.Ident f o.sym o.ctxt o.role))
    later x go its =
        let it = go its in
        (it.0, inr (subst (λ n. Has (taken_from n xs) (taken o.place (h.Ident it.0 o.sym o.ctxt o.role))) place it.1))

    by : (x : Item) → Has (occurrences_from s (x ∷ xs)) o → (Has (occurrences_from (past s x) xs) o → (f : ℕ) × Has (taken_from (s.place + 1) xs) (taken o.place (h.Ident f o.sym o.ctxt o.role))) →
        (f : ℕ) × Has (taken_from s.place (x ∷ xs)) (taken o.place (h.Ident f o.sym o.ctxt o.role))
    by (h.Open f head) its go = later (h.Open f head) go its
    by (h.Hole f) its go = later (h.Hole f) go its
    by h.Close its go = later h.Close go its
    by (h.Ident f y c r.Word) its go = later (h.Ident f y c r.Word) go its
    by (h.Ident f y c r.Binding) (inl e) go =
        (f, inl (ap (λ (o : Occurrence). taken o.place (h.Ident f o.sym o.ctxt o.role)) e))
    by (h.Ident f y c r.Binding) (inr its) go = later (h.Ident f y c r.Binding) go its
    by (h.Ident f y c r.Reference) (inl e) go =
        (f, inl (ap (λ (o : Occurrence). taken o.place (h.Ident f o.sym o.ctxt o.role)) e))
    by (h.Ident f y c r.Reference) (inr its) go = later (h.Ident f y c r.Reference) go its

-- an identifier that binds, among elements
record Back (os : List Occurrence) (a : ℕ) (x : Text) : Type 0 where
  o : Occurrence
  has : Has os o
  place : o.place ≡ a
  symbol : o.sym ≡ x
  role : o.role ≡ r.Binding

back-in : (s : Spot) (xs : List Item) (a f c : ℕ) (x : Text) →
    Has (taken_from s.place xs) (taken a (h.Ident f x c r.Binding)) → Back (occurrences_from s xs) a x
back-in s [] a f c x has = absurd has
back-in s (y ∷ xs) a f c x has = by has (back-in (past s y) xs a f c x)
  where
    place : suc s.place ≡ s.place + 1
    place = omega arith

    later : (y : Item) → Back (occurrences_from (past s y) xs) a x → Back (occurrences_from s (y ∷ xs)) a x
    later (h.Open g head) it = it
    later (h.Hole g) it = it
    later h.Close it = it
    later (h.Ident g z d r.Word) it = it
    later (h.Ident g z d r.Binding) it = record { o = it.o; has = inr it.has; place = it.place; symbol = it.symbol; role = it.role }
    later (h.Ident g z d r.Reference) it = record { o = it.o; has = inr it.has; place = it.place; symbol = it.symbol; role = it.role }

    item_of : Element → Item
    item_of (taken n z) = z
    item_of (written z) = z

    place_of : Element → ℕ
    place_of (taken n z) = n
    place_of (written z) = 0

    here : (y : Item) → y ≡ h.Ident f x c r.Binding → s.place ≡ a → Back (occurrences_from s (y ∷ xs)) a x
    here y is at =
        subst (λ z. Back (occurrences_from s (z ∷ xs)) a x) (sym is)
        (record { o = _; has = inl refl; place = at; symbol = refl; role = refl })

    by : (taken s.place y ≡ taken a (h.Ident f x c r.Binding)) ⊎ Has (taken_from (suc s.place) xs) (taken a (h.Ident f x c r.Binding)) →
        (Has (taken_from (s.place + 1) xs) (taken a (h.Ident f x c r.Binding)) → Back (occurrences_from (past s y) xs) a x) →
        Back (occurrences_from s (y ∷ xs)) a x
    by (inl e) go = here y (ap item_of e) (ap place_of e)
    by (inr its) go =
        later y (go
        (subst (λ n. Has (taken_from n xs) (taken a (h.Ident f x c r.Binding))) place its))

none-written : (place : ℕ) (xs : List Item) (y : Item) → Has (taken_from place xs) (written y) → ⊥
none-written place [] y has = has
none-written place (x ∷ xs) y (inl e) = cc
none-written place (x ∷ xs) y (inr its) = none-written (suc place) xs y its

-- Statements.

itself-elements : (s : Spot) (items : List Item) →
    HasElements (occurrences_from s items) false s.place (s.place + length items) (taken_from s.place items)
itself-elements s items = record {
  nodes = nodes-in s.place items;
  names = names-in s items;
  back =
      λ a f c x has.
      let it = back-in s items a f c x has in (it.o, it.has, it.place, it.symbol, it.role);
  front = λ e. absurd (false≢true e);
  front_back = λ y f c x role is has. absurd (none-written s.place items y has);
}

-- an element in another field
moved-has : (place : ℕ) (xs : List Item) (a : ℕ) (x : Item) → Has (taken_from place xs) (taken a x) →
    (y : Item) × Has (taken_in_field 1 place xs) (taken a y)
moved-has place [] a x has = absurd has
moved-has place (z ∷ xs) a x (inl e) =
    (moved_to 1 z, inl (ap (λ n. taken n (moved_to 1 z)) (ap place_of e)))
  where
    place_of : Element → ℕ
    place_of (taken n z) = n
    place_of (written z) = 0
moved-has place (z ∷ xs) a x (inr its) = (x, inr its)

moved-name : (place : ℕ) (xs : List Item) (a f c : ℕ) (x : Text) (role : Role) →
    Has (taken_from place xs) (taken a (h.Ident f x c role)) →
    (g : ℕ) × Has (taken_in_field 1 place xs) (taken a (h.Ident g x c role))
moved-name place [] a f c x role has = absurd has
moved-name place (z ∷ xs) a f c x role (inl e) =
    (1, inl ((λ i. taken (place_of (e i)) (moved_to 1 (item_of (e i))))))
  where
    place_of : Element → ℕ
    place_of (taken n z) = n
    place_of (written z) = 0

    item_of : Element → Item
    item_of (taken n z) = z
    item_of (written z) = z
moved-name place (z ∷ xs) a f c x role (inr its) = (f, inr its)

moved-back : (place : ℕ) (xs : List Item) (a f c : ℕ) (x : Text) →
    Has (taken_in_field 1 place xs) (taken a (h.Ident f x c r.Binding)) →
    (g d : ℕ) × Has (taken_from place xs) (taken a (h.Ident g x d r.Binding))
moved-back place [] a f c x has = absurd has
moved-back place (z ∷ xs) a f c x (inr its) = (f, c, inr its)
moved-back place (z ∷ xs) a f c x (inl e) = by z (ap item_of e) (ap place_of e)
  where
    place_of : Element → ℕ
    place_of (taken n z) = n
    place_of (written z) = 0

    item_of : Element → Item
    item_of (taken n z) = z
    item_of (written z) = z

    by : (z : Item) → moved_to 1 z ≡ h.Ident f x c r.Binding → place ≡ a →
        (g d : ℕ) × Has (taken_from place (z ∷ xs)) (taken a (h.Ident g x d r.Binding))
    by (h.Open g head) is at = absurd cc
    by (h.Hole g) is at = absurd cc
    by h.Close is at = absurd cc
    by (h.Ident g y d role) is at =
        let symbols : y ≡ x = ap symbol_of is in
        let roles : role ≡ r.Binding = ap role_of is in
        (g, d, inl (λ i. taken (at i) (h.Ident g (symbols i) d (roles i))))
      where
        symbol_of : Item → Text
        symbol_of (h.Ident n q k role) = q
        symbol_of z = []

        role_of : Item → Role
        role_of (h.Ident n q k its) = its
        role_of z = r.Word

none-moved : (place : ℕ) (xs : List Item) (y : Item) → Has (taken_in_field 1 place xs) (written y) → ⊥
none-moved place [] y has = has
none-moved place (x ∷ xs) y (inl e) = cc
none-moved place (x ∷ xs) y (inr its) = none-written (suc place) xs y its

-- what is written in addition, and what is taken
constant-elements : (s : Spot) (value : List Item) →
    HasElements (occurrences_from s value) true s.place (s.place + length value) (default_constant s.place value)
constant-elements s value = record {
  nodes =
      λ a from to.
      let it = nodes-in s.place value a from to in
      let moved = moved-has s.place value a it.0 it.1 in
      (moved.0, inr (inr (inr (inr (inr (has-left (taken_in_field 1 s.place value) _ _ moved.1))))));
  names =
      λ o has.
      let it = names-in s value o has in
      let moved = moved-name s.place value o.place it.0 o.ctxt o.sym o.role it.1 in
      (moved.0, inr (inr (inr (inr (inr (has-left (taken_in_field 1 s.place value) _ _ moved.1))))));
  back = λ a f c x has. back-here a f c x has;
  front = λ e. inr (inr (inr (inl refl)));
  front_back = λ y f c x role is has. by y f c x role is has;
}
  where
    back-here : (a f c : ℕ) (x : Text) → Has (default_constant s.place value) (taken a (h.Ident f x c r.Binding)) →
        (o : Occurrence) × Has (occurrences_from s value) o × (o.place ≡ a) × (o.sym ≡ x) × (o.role ≡ r.Binding)
    back-here a f c x (inl e) = absurd cc
    back-here a f c x (inr (inl e)) = absurd cc
    back-here a f c x (inr (inr (inl e))) = absurd cc
    back-here a f c x (inr (inr (inr (inl e)))) = absurd cc
    back-here a f c x (inr (inr (inr (inr (inl e))))) = absurd cc
    back-here a f c x (inr (inr (inr (inr (inr has))))) =
        on (has-either (taken_in_field 1 s.place value) (written h.Close ∷ written h.Close ∷ []) (taken a (h.Ident f x c r.Binding)) has)
      where
        on : Has (taken_in_field 1 s.place value) (taken a (h.Ident f x c r.Binding)) ⊎ Has (written h.Close ∷ written h.Close ∷ []) (taken a (h.Ident f x c r.Binding)) →
            (o : Occurrence) × Has (occurrences_from s value) o × (o.place ≡ a) × (o.sym ≡ x) × (o.role ≡ r.Binding)
        on (inl its) =
            let moved = moved-back s.place value a f c x its in
            let it = back-in s value a moved.0 moved.1 x moved.2 in (it.o, it.has, it.place, it.symbol, it.role)
        on (inr (inl e)) = absurd cc
        on (inr (inr (inl e))) = absurd cc
        on (inr (inr (inr none))) = absurd none

    item_of : Element → Item
    item_of (taken n z) = z
    item_of (written z) = z

    symbol_of : Item → Text
    symbol_of (h.Ident n q k role) = q
    symbol_of z = []

    no_close : (f c : ℕ) (x : Text) (role : Role) → h.Close ≡ h.Ident f x c role → ⊥
    no_close f c x role e = cc

    no_open : (n : ℕ) (head : Head) (f c : ℕ) (x : Text) (role : Role) → h.Open n head ≡ h.Ident f x c role → ⊥
    no_open n head f c x role e = cc

    by : (y : Item) (f c : ℕ) (x : Text) (role : Role) → y ≡ h.Ident f x c role →
        Has (default_constant s.place value) (written y) → (true ≡ true) × (x ≡ default_name)
    by y f c x role is (inl e) = absurd (no_open _ _ f c x role (ap item_of e ∙ is))
    by y f c x role is (inr (inl e)) = absurd (no_open _ _ f c x role (ap item_of e ∙ is))
    by y f c x role is (inr (inr (inl e))) = absurd (no_open _ _ f c x role (ap item_of e ∙ is))
    by y f c x role is (inr (inr (inr (inl e)))) = (refl, sym (ap (λ e. symbol_of (item_of e)) e ∙ ap symbol_of is))
    by y f c x role is (inr (inr (inr (inr (inl e))))) = absurd (no_close f c x role (ap item_of e ∙ is))
    by y f c x role is (inr (inr (inr (inr (inr has))))) =
        on (has-either (taken_in_field 1 s.place value) (written h.Close ∷ written h.Close ∷ []) (written y) has)
      where
        on : Has (taken_in_field 1 s.place value) (written y) ⊎ Has (written h.Close ∷ written h.Close ∷ []) (written y) →
            (true ≡ true) × (x ≡ default_name)
        on (inl its) = absurd (none-moved s.place value y its)
        on (inr (inl e)) = absurd (no_close f c x role (ap item_of e ∙ is))
        on (inr (inr (inl e))) = absurd (no_close f c x role (ap item_of e ∙ is))
        on (inr (inr (inr none))) = absurd none

-- a declaration with its own name, whose elements behind the head begin at this spot
named-elements : (s : Spot) (place : ℕ) (head : Head) (body : List Item) →
    HasElements (occurrences_from s body) false s.place (s.place + length body)
    (taken place (h.Open 0 head) ∷ taken_from s.place (body ++ h.Close ∷ []))
named-elements s place head body = record {
  nodes =
      λ a from to.
      let long = length-append body (h.Close ∷ []) in
      let it = nodes-in s.place (body ++ h.Close ∷ []) a from (omega (arith, to, long)) in (it.0, inr it.1);
  names =
      λ o has.
      let it = names-in s (body ++ h.Close ∷ []) o (subst (λ os. Has os o) (sym (occurrences_append s body (h.Close ∷ []))) (has-left (occurrences_from s body) [] o has)) in
      (it.0, inr it.1);
  back = λ a f c x has. back-here a f c x has;
  front = λ e. absurd (false≢true e);
  front_back = λ y f c x role is has. absurd (none y has);
}
  where
    back-here : (a f c : ℕ) (x : Text) → Has (taken place (h.Open 0 head) ∷ taken_from s.place (body ++ h.Close ∷ [])) (taken a (h.Ident f x c r.Binding)) →
        (o : Occurrence) × Has (occurrences_from s body) o × (o.place ≡ a) × (o.sym ≡ x) × (o.role ≡ r.Binding)
    back-here a f c x (inl e) = absurd cc
    back-here a f c x (inr has) =
        let it = back-in s (body ++ h.Close ∷ []) a f c x has in
        (it.o, on it.o (has-either (occurrences_from s body) [] it.o (subst (λ os. Has os it.o) (occurrences_append s body (h.Close ∷ [])) it.has)), it.place, it.symbol, it.role)
      where
        on : (o : Occurrence) → Has (occurrences_from s body) o ⊎ ⊥ → Has (occurrences_from s body) o
        on o (inl has) = has
        on o (inr none) = absurd none

    none : (y : Item) → Has (taken place (h.Open 0 head) ∷ taken_from s.place (body ++ h.Close ∷ [])) (written y) → ⊥
    none y (inl e) = cc
    none y (inr has) = none-written s.place (body ++ h.Close ∷ []) y has

-- and with the name of the default
nameless-elements : (s : Spot) (place : ℕ) (head : Head) (body : List Item) →
    HasElements (occurrences_from s body) true s.place (s.place + length body)
    (taken place (h.Open 0 head) ∷ default_binding ∷ taken_from s.place (body ++ h.Close ∷ []))
nameless-elements s place head body =
    let it = named-elements s place head body in
    record {
      nodes = λ a from to. let x = it.nodes a from to in (x.0, wider x.1);
      names = λ o has. let x = it.names o has in (x.0, wider x.1);
      back = λ a f c x has. it.back a f c x (narrower has);
      front = λ e. inr (inl refl);
      front_back = λ y f c x role is has. by y f c x role is has;
    }
  where
    wider : {e : Element} → Has (taken place (h.Open 0 head) ∷ taken_from s.place (body ++ h.Close ∷ [])) e →
        Has (taken place (h.Open 0 head) ∷ default_binding ∷ taken_from s.place (body ++ h.Close ∷ [])) e
    wider (inl e) = inl e
    wider (inr has) = inr (inr has)

    narrower : {a : ℕ} {x : Item} → Has (taken place (h.Open 0 head) ∷ default_binding ∷ taken_from s.place (body ++ h.Close ∷ [])) (taken a x) →
        Has (taken place (h.Open 0 head) ∷ taken_from s.place (body ++ h.Close ∷ [])) (taken a x)
    narrower (inl e) = inl e
    narrower (inr (inl e)) = absurd cc
    narrower (inr (inr has)) = inr has

    item_of : Element → Item
    item_of (taken n z) = z
    item_of (written z) = z

    symbol_of : Item → Text
    symbol_of (h.Ident n q k role) = q
    symbol_of z = []

    by : (y : Item) (f c : ℕ) (x : Text) (role : Role) → y ≡ h.Ident f x c role →
        Has (taken place (h.Open 0 head) ∷ default_binding ∷ taken_from s.place (body ++ h.Close ∷ [])) (written y) →
        (true ≡ true) × (x ≡ default_name)
    by y f c x role is (inl e) = absurd cc
    by y f c x role is (inr (inl e)) = (refl, sym (ap (λ e. symbol_of (item_of e)) e ∙ ap symbol_of is))
    by y f c x role is (inr (inr has)) = absurd (none-written s.place (body ++ h.Close ∷ []) y has)

-- By what a top item states.

elements-as : {os its : List Occurrence} {has other : Bool} {low high less more : ℕ}
    {one two : List Element} → os ≡ its → has ≡ other → low ≡ less → high ≡ more → one ≡ two →
    HasElements os has low high one → HasElements its other less more two
elements-as {os = os} {its = its} {has = has} {other = other} {low = low} {high = high} {less = less} {more = more} {one = one} {two = two} a b c d e it =
    subst (λ os. HasElements os other less more two) a
    (subst (λ has. HasElements os has less more two) b
    (subst (λ low. HasElements os has low more two) c
    (subst (λ high. HasElements os has low high two) d
    (subst (λ list. HasElements os has low high list) e it))))

-- items that are made so, and what they state
of-cleared : (place field : ℕ) {items its : List Item} {has : Bool} {low high : ℕ}
    {statement : List Element} → items ≡ its → stated place items ≡ statement ∷ [] →
    (stated place its ≡ statement ∷ [] → HasElements (occurrences_from (top_spot place field) its) has low high statement) →
    HasElements (occurrences_from (top_spot place field) items) has low high statement
of-cleared place field {has = has} {low = low} {high = high} {statement = statement} same is go =
    subst (λ l. HasElements (occurrences_from (top_spot place field) l) has low high statement) (sym same)
    (go (subst (λ l. stated place l ≡ statement ∷ []) same is))

one-more : (n : ℕ) → n + 1 ≡ suc n
one-more n = omega arith

two-more : (n : ℕ) → n + 1 + 1 ≡ suc (suc n)
two-more n = omega arith

itself-form : (place field f : ℕ) (head : Head) (inside : List Item) (statement : List Element) →
    states_itself head ≡ true → stated place (node f head inside) ≡ statement ∷ [] →
    HasElements (occurrences_from (top_spot place field) (node f head inside)) false place (place + length (node f head inside)) statement
itself-form place field f head inside statement itself is =
    elements-as refl refl refl refl
    (one_statement (taken_from place (node f head inside)) statement
    (sym (itself_stated head itself place (node f head inside)) ∙ is))
    (itself-elements (top_spot place field) (node f head inside))

declared-form : (place field f : ℕ) (inside : List Item) (statement : List Element) →
    stated place (node f h.ExportDecl inside) ≡ statement ∷ [] →
    HasElements (occurrences_from (top_spot place field) (node f h.ExportDecl inside)) false (place + 1) (place + 1 + length inside) statement
declared-form place field f inside statement is =
    elements-as (sym (occurrences_node (top_spot place field) f h.ExportDecl inside)) refl refl refl
    (ap (λ n. taken_from n inside) (one-more place)
    ∙ ap (taken_from (suc place)) (sym (last_off inside h.Close))
    ∙ one_statement (taken_from (suc place) (without_last (inside ++ h.Close ∷ []))) statement is)
    (itself-elements (past (top_spot place field) (h.Open f h.ExportDecl)) inside)

value-form : (place field f : ℕ) (value : List Item) (statement : List Element) →
    stated place (node f h.ExportDefaultExpr value) ≡ statement ∷ [] →
    HasElements (occurrences_from (top_spot place field) (node f h.ExportDefaultExpr value)) true (place + 1) (place + 1 + length value) statement
value-form place field f value statement is =
    elements-as (sym (occurrences_node (top_spot place field) f h.ExportDefaultExpr value)) refl refl refl
    (ap (λ n. default_constant n value) (one-more place)
    ∙ ap (default_constant (suc place)) (sym (last_off value h.Close))
    ∙ one_statement (default_constant (suc place) (without_last (value ++ h.Close ∷ []))) statement is)
    (constant-elements (past (top_spot place field) (h.Open f h.ExportDefaultExpr)) value)

named-form : (place field f inner name_field : ℕ) (x : Text) (ctxt : ℕ) (role : Role) (head : Head)
    (body : List Item) (statement : List Element) →
    stated place (node f h.ExportDefaultDecl (node inner head (h.Ident name_field x ctxt role ∷ body))) ≡ statement ∷ [] →
    HasElements
    (occurrences_from (top_spot place field) (node f h.ExportDefaultDecl (node inner head (h.Ident name_field x ctxt role ∷ body)))) false
    (place + 1 + 1) (place + 1 + 1 + length (h.Ident name_field x ctxt role ∷ body)) statement
named-form place field f inner name_field x ctxt role head body statement is =
    let own : List Item = h.Ident name_field x ctxt role ∷ body in
    let s1 : Spot = past (top_spot place field) (h.Open f h.ExportDefaultDecl) in
    elements-as
    (sym (occurrences_node (top_spot place field) f h.ExportDefaultDecl (node inner head own)
    ∙ occurrences_node s1 inner head own)) refl refl refl
    (ap (λ n. taken (suc place) (h.Open 0 (declaration_head head)) ∷ taken_from n (own ++ h.Close ∷ [])) (two-more place)
    ∙ ap (default_declaration (suc place)) (sym (last_off (node inner head own) h.Close))
    ∙ one_statement (default_declaration (suc place) (without_last (node inner head own ++ h.Close ∷ []))) statement is)
    (named-elements (past s1 (h.Open inner head)) (suc place) (declaration_head head) own)

nameless-form : (place field f inner first_field : ℕ) (head first : Head) (more : List Item)
    (statement : List Element) →
    stated place (node f h.ExportDefaultDecl (node inner head (h.Open first_field first ∷ more))) ≡ statement ∷ [] →
    HasElements
    (occurrences_from (top_spot place field) (node f h.ExportDefaultDecl (node inner head (h.Open first_field first ∷ more)))) true
    (place + 1 + 1) (place + 1 + 1 + length (h.Open first_field first ∷ more)) statement
nameless-form place field f inner first_field head first more statement is =
    let own : List Item = h.Open first_field first ∷ more in
    let s1 : Spot = past (top_spot place field) (h.Open f h.ExportDefaultDecl) in
    elements-as
    (sym (occurrences_node (top_spot place field) f h.ExportDefaultDecl (node inner head own)
    ∙ occurrences_node s1 inner head own)) refl refl refl
    (ap (λ n. taken (suc place) (h.Open 0 (declaration_head head)) ∷ default_binding ∷ taken_from n (own ++ h.Close ∷ [])) (two-more place)
    ∙ ap (default_declaration (suc place)) (sym (last_off (node inner head own) h.Close))
    ∙ one_statement (default_declaration (suc place) (without_last (node inner head own ++ h.Close ∷ []))) statement is)
    (nameless-elements (past s1 (h.Open inner head)) (suc place) (declaration_head head) own)

-- ELEMENTS
pub stated-elements : {work : Work} {default : Ident} {given item : List Item} →
    (d : StatesList work default given item) → (place field : ℕ) (statement : List Element) →
    stated place (cleared given) ≡ statement ∷ [] →
    HasElements (occurrences_from (top_spot place field) (cleared given)) (declares_default given)
    (stated_low d place) (stated_high d place) statement
stated-elements (t.StatementStates f head inside itself one) place field statement is =
    of-cleared place field (cleared-node f head inside) is
    (λ its.
    elements-as refl (sym (itself-declares f head (inside ++ h.Close ∷ []) itself)) refl
    (ap (λ n. place + n) (sym (ap (λ (l : List Item). length l) (cleared-node f head inside)) ∙ length-cleared (node f head inside)))
    refl
    (itself-form place field f (cleared_head head) (cleared inside) statement
    (of_head states_itself (λ meta. (refl, refl, refl, λ kind. refl)) head ∙ itself) its))
stated-elements (t.DeclarationStates f inside one) place field statement is =
    of-cleared place field (cleared-node f h.ExportDecl inside) is
    (λ its.
    elements-as refl refl refl (ap (λ n. place + 1 + n) (length-cleared inside)) refl
    (declared-form place field f (cleared inside) statement its))
stated-elements (t.ValueStates f first more one) place field statement is =
    of-cleared place field (cleared-node f h.ExportDefaultExpr (first ∷ more)) is
    (λ its.
    elements-as refl refl refl (ap (λ n. place + 1 + n) (length-cleared (first ∷ more))) refl
    (value-form place field f (cleared (first ∷ more)) statement its))
stated-elements (t.OwnStates f inner name_field x ctxt role head body is_head one) place field statement is =
    let own : List Item = h.Ident name_field x ctxt role ∷ body in
    of-cleared place field
    (cleared-node f h.ExportDefaultDecl (node inner head own)
    ∙ ap (node f h.ExportDefaultDecl) (cleared-node inner head own)) is
    (λ its.
    elements-as refl refl refl (ap (λ n. place + 1 + 1 + n) (length-cleared own)) refl
    (named-form place field f inner name_field x 0 role (cleared_head head) (cleared body) statement its))
stated-elements (t.DefaultStates f inner first_field head first more is_head one) place field statement is =
    let own : List Item = h.Open first_field first ∷ more in
    of-cleared place field
    (cleared-node f h.ExportDefaultDecl (node inner head own)
    ∙ ap (node f h.ExportDefaultDecl) (cleared-node inner head own)) is
    (λ its.
    elements-as refl refl refl (ap (λ n. place + 1 + 1 + n) (length-cleared own)) refl
    (nameless-form place field f inner first_field (cleared_head head) (cleared_head first) (cleared more) statement its))
