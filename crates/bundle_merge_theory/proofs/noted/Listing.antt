-- What is listed so is a listing.
use Rattle.std.proofs.Common.{◌≡◌, ◌⊎◌, inl, inr, ℕ, zero, suc, ◌+◌, ◌<◌, true, List, [], ◌∷◌, ◌++◌, length, Some, refl, sym, ap, ◌∙◌, subst, arith}
use Rattle.std.specs.Prelude.{slice_get}
use Rattle.std.proofs.lemmas.Bool.{false≢true}
use Rattle.std.proofs.lemmas.Option.{none-some, same_Some}
use Rattle.bundle_syntax.specs.declared.operator.AssignOp.{AssignOp}
use Rattle.bundle_syntax.specs.declared.piece.Role.{Role}
use Rattle.bundle_syntax.specs.Item as h
use Rattle.bundle_syntax.specs.Item.{Item, Head}
use Rattle.bundle_rules.specs.Places.{Around, Spot, in_field, past, start, path_at}
use Rattle.bundle_rules.specs.Nodes.{Text}
use Rattle.bundle_merge_theory.specs.noted.Nodes as n
use Rattle.bundle_merge_theory.specs.noted.Agrees.{is_read_or_call, IsListing}
use Rattle.bundle_merge_theory.specs.noted.Listed.{Stand, Other, InReadOrCall, AtTarget, first_stand, next_to, NameFits, NodeFits, AreListed, nothing, name, hole, node}
use Rattle.bundle_merge_theory.proofs.noted.Spots.{around_spot, path-behind}
use Rattle.bundle_link.proofs.NodePaths.{place-behind, spot-behind, field-twice, spot-in, seen-front, seen-behind, seen, get-front, get-behind, split}

-- ---- where the next element stands, by the nodes around it
pub record Sees (stand : Stand) (top : Around) (place : ℕ) : Type 0 where
  pub below : top.begins < place
  pub reads : is_read_or_call top.head ≡ true → stand ≡ InReadOrCall
  pub targets : (op : AssignOp) → top.head ≡ h.AssignExpr op → place ≡ suc top.begins →
      stand ≡ AtTarget

abbrev pub SeesPath : Stand → List Around → ℕ → Type 0
SeesPath stand [] place = Unit {0}
SeesPath stand (top ∷ outer) place = Sees stand top place

sees-next : (stand : Stand) (path : List Around) (place further : ℕ) → place < further →
    SeesPath stand path place → SeesPath (next_to stand) path further
sees-next stand [] place further l sees = tt
sees-next stand (top ∷ outer) place further l sees = record {
  below = let b = sees.below in omega (arith, l, b);
  reads = λ is. ap next_to (sees.reads is);
  targets = λ op is e. let b = sees.below in absurd (omega (arith, l, b, e));
}

sees-field : (stand : Stand) (path : List Around) (place : ℕ) (field : ℕ) →
    SeesPath stand path place → SeesPath stand (in_field field path) place
sees-field stand [] place field sees = tt
sees-field stand (top ∷ outer) place field sees =
    record { below = sees.below; reads = sees.reads; targets = sees.targets }

sees-in : (head : Head) (place : ℕ) (further : ℕ) → further ≡ suc place →
    Sees (first_stand head) (around_spot head place 0) further
sees-in head place further e =
    record { below = omega (arith, e); reads = reads head; targets = λ op is same. ap first_stand is }
  where
    reads : (head : Head) → is_read_or_call head ≡ true → first_stand head ≡ InReadOrCall
    reads h.MemberExpr is = refl
    reads h.CallExpr is = refl
    reads _ is = absurd (false≢true is)

pub listed_nodes : {stand : Stand} {xs : List Item} → AreListed stand xs → n.AreNodesInTurn xs
listed_nodes nothing = n.nothing
listed_nodes (name fits it) = n.name (listed_nodes it)
listed_nodes (hole it) = n.hole (listed_nodes it)
listed_nodes (node fits it more) = n.node (listed_nodes it) (listed_nodes more)

-- ---- what is so of an element at a place
-- what is seen of the nodes around it
pub record Fits (item : Item) (place : ℕ) (path : List Around) : Type 0 where
  pub stand : Stand
  pub sees : SeesPath stand path place
  pub name_fits : (field : ℕ) (x : Text) (ctxt : ℕ) (role : Role) →
      item ≡ h.Ident field x ctxt role → NameFits stand role
  pub node_fits : (field : ℕ) (head : Head) → item ≡ h.Open field head →
      NodeFits stand field × (path ≡ in_field field path)

fits_at : {item : Item} {place other : ℕ} {path same : List Around} → place ≡ other → path ≡ same →
    Fits item place path → Fits item other same
fits_at {item = item} {other = other} {path = path} e ep fits =
    subst (λ l. Fits item other l) ep (subst (λ p. Fits item p path) e fits)

-- a name, a hole and a node
name_fits_here : (stand : Stand) (s : Spot) (f c : ℕ) (y : Text) (role : Role) (item : Item) →
    NameFits stand role → SeesPath stand s.path s.place → Some (h.Ident f y c role) ≡ Some item →
    Fits item s.place (in_field f s.path)
name_fits_here stand s f c y role item fits sees e = record {
  stand = stand;
  sees = sees-field stand s.path s.place f sees;
  name_fits =
      λ field x ctxt its is.
      let same = same_Some (h.Ident f y c role) item e in
      let one : role ≡ its = cc in subst (NameFits stand) one fits;
  node_fits =
      λ field head is. absurd (differ field head (same_Some (h.Ident f y c role) item e ∙ is));
}
  where
    differ : (field : ℕ) (head : Head) → h.Ident f y c role ≡ h.Open field head → ⊥
    differ field head e = cc

hole_fits_here : (stand : Stand) (s : Spot) (f : ℕ) (item : Item) → SeesPath stand s.path s.place →
    Some (h.Hole f) ≡ Some item → Fits item s.place (in_field f s.path)
hole_fits_here stand s f item sees e = record {
  stand = stand;
  sees = sees-field stand s.path s.place f sees;
  name_fits =
      λ field x ctxt role is.
      absurd (no_name field x ctxt role (same_Some (h.Hole f) item e ∙ is));
  node_fits = λ field head is. absurd (no_node field head (same_Some (h.Hole f) item e ∙ is));
}
  where
    no_name : (field : ℕ) (x : Text) (ctxt : ℕ) (role : Role) →
        h.Hole f ≡ h.Ident field x ctxt role → ⊥
    no_name field x ctxt role e = cc

    no_node : (field : ℕ) (head : Head) → h.Hole f ≡ h.Open field head → ⊥
    no_node field head e = cc

node_fits_here : (stand : Stand) (s : Spot) (f : ℕ) (hd : Head) (item : Item) → NodeFits stand f →
    SeesPath stand s.path s.place → Some (h.Open f hd) ≡ Some item →
    Fits item s.place (in_field f s.path)
node_fits_here stand s f hd item fits sees e = record {
  stand = stand;
  sees = sees-field stand s.path s.place f sees;
  name_fits =
      λ field x ctxt role is.
      absurd (no_name field x ctxt role (same_Some (h.Open f hd) item e ∙ is));
  node_fits =
      λ field head is.
      let same = same_field (same_Some (h.Open f hd) item e ∙ is) in (
        subst (NodeFits stand) same fits,
        ap (λ n. in_field n s.path) same
            ∙ sym (field-twice field f s.path),
      );
}
  where
    no_name : (field : ℕ) (x : Text) (ctxt : ℕ) (role : Role) →
        h.Open f hd ≡ h.Ident field x ctxt role → ⊥
    no_name field x ctxt role e = cc

    same_field : {field : ℕ} {head : Head} → h.Open f hd ≡ h.Open field head → f ≡ field
    same_field e = cc

-- each element of whole nodes fits, but for their ends
pub each_fits : {stand : Stand} {xs : List Item} → AreListed stand xs → (s : Spot) →
    SeesPath stand s.path s.place → (k : ℕ) (item : Item) → slice_get xs k ≡ Some item →
    (item ≡ h.Close → ⊥) → Fits item (s.place + k) (seen s xs k)
each_fits nothing s sees k item e unended = absurd (none-some item e)
each_fits {stand = stand} (name {field = f} {ctxt = c} {sym = y} {role = role} fits it) s sees zero
    item e unended =
    fits_at (omega arith) refl (name_fits_here stand s f c y role item fits sees e)
each_fits {stand = stand}
    (name {field = f} {ctxt = c} {sym = y} {role = role} {rest = rest} fits it) s sees (suc k) item
    e unended =
    fits_at (omega arith) refl
    (each_fits it (past s (h.Ident f y c role))
    (sees-next stand s.path s.place (s.place + 1) (omega arith) sees) k item e unended)
each_fits {stand = stand} (hole {field = f} it) s sees zero item e unended =
    fits_at (omega arith) refl (hole_fits_here stand s f item sees e)
each_fits {stand = stand} (hole {field = f} {rest = rest} it) s sees (suc k) item e unended =
    fits_at (omega arith) refl
    (each_fits it (past s (h.Hole f))
    (sees-next stand s.path s.place (s.place + 1) (omega arith) sees) k item e unended)
each_fits {stand = stand} (node {field = f} {head = hd} fits it more) s sees zero item e unended =
    fits_at (omega arith) refl (node_fits_here stand s f hd item fits sees e)
each_fits {stand = stand} (node {field = f} {head = hd} {inside = ins} {rest = rest} fits it more)
    s sees (suc k) item e unended =
    by (split ins k) (each_fits it inner (sees-in hd s.place (s.place + 1) (omega arith)) k item)
    (λ j. each_fits more after after_sees j item)
  where
    inner : Spot
    inner = spot-in s f hd

    after : Spot
    after = spot-behind s f hd ins

    after_sees : SeesPath (next_to stand) (spot-behind s f hd ins).path
        (spot-behind s f hd ins).place
    after_sees =
        let place = place-behind ins s f hd in
        subst (λ l. SeesPath (next_to stand) l (spot-behind s f hd ins).place)
        (sym (path-behind (listed_nodes it) s f hd))
        (sees-field (next_to stand) s.path (spot-behind s f hd ins).place f
        (sees-next stand s.path s.place (spot-behind s f hd ins).place (omega (arith, place))
        sees))

    later : (j : ℕ) → k ≡ length ins + j →
        ((j : ℕ) → slice_get rest j ≡ Some item → (item ≡ h.Close → ⊥) →
        Fits item ((spot-behind s f hd ins).place + j) (seen (spot-behind s f hd ins) rest j)) →
        Fits item (s.place + suc k) (seen (spot-in s f hd) (ins ++ h.Close ∷ rest) k)
    later zero at in_rest =
        absurd
        (unended
        (sym (same_Some h.Close item (sym (get-behind ins (h.Close ∷ rest) k zero at) ∙ e))))
    later (suc j) at in_rest =
        let place = place-behind ins s f hd in
        fits_at (omega (arith, at, place))
        (sym (seen-behind (spot-in s f hd) ins (h.Close ∷ rest) k (suc j) at))
        (in_rest j (sym (get-behind ins (h.Close ∷ rest) k (suc j) at) ∙ e) unended)

    by : (k < length ins) ⊎ ((j : ℕ) × (k ≡ length ins + j)) →
        (slice_get ins k ≡ Some item → (item ≡ h.Close → ⊥) →
        Fits item (s.place + 1 + k) (seen (spot-in s f hd) ins k)) →
        ((j : ℕ) → slice_get rest j ≡ Some item → (item ≡ h.Close → ⊥) →
        Fits item ((spot-behind s f hd ins).place + j) (seen (spot-behind s f hd ins) rest j)) →
        Fits item (s.place + suc k) (seen (spot-in s f hd) (ins ++ h.Close ∷ rest) k)
    by (inl l) in_ins in_rest =
        fits_at (omega arith) (sym (seen-front (spot-in s f hd) ins (h.Close ∷ rest) k l))
        (in_ins (sym (get-front ins (h.Close ∷ rest) k l) ∙ e) unended)
    by (inr found) in_ins in_rest = later found.0 found.1 in_rest

-- ---- the whole
pub is_listing : {tree : List Item} → AreListed Other tree → IsListing tree
is_listing {tree = tree} listed = record {
  names = λ place field ctxt x role top outer e path is.
      let its =
      fits place (h.Ident field x ctxt role) e (λ ends. name_ends field x ctxt role ends) in
      let sees = sees_top its path in
      subst (λ stand. NameFits stand role) (sees.reads is) (its.name_fits field x ctxt role refl);
  targets = λ place field head top outer op e path is begins.
      let its = fits place (h.Open field head) e (λ ends. node_ends field head ends) in
      let sees = sees_top its path in
      let two = its.node_fits field head refl in
      ap (λ l. first_field l top.field) (sym path ∙ two.1 ∙ ap (in_field field) path)
      ∙ subst (λ stand. NodeFits stand field) (sees.targets op is begins) two.0;
}
  where
    fits : (place : ℕ) (item : Item) → slice_get tree place ≡ Some item → (item ≡ h.Close → ⊥) →
        Fits item place (path_at tree place)
    fits place item e unended =
        fits_at (omega arith) refl (each_fits listed start tt place item e unended)

    sees_top : {item : Item} {place : ℕ} {top : Around} {outer : List Around} →
        (its : Fits item place (path_at tree place)) → path_at tree place ≡ top ∷ outer →
        Sees its.stand top place
    sees_top {place = place} its path = subst (λ l. SeesPath its.stand l place) path its.sees

    name_ends : (field : ℕ) (x : Text) (ctxt : ℕ) (role : Role) →
        h.Ident field x ctxt role ≡ h.Close → ⊥
    name_ends field x ctxt role e = cc

    node_ends : (field : ℕ) (head : Head) → h.Open field head ≡ h.Close → ⊥
    node_ends field head e = cc

    first_field : List Around → ℕ → ℕ
    first_field [] n = n
    first_field (top ∷ outer) n = top.field
