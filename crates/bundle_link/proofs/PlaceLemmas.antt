-- A list that is whole nodes in a module's node is a module's tree.
-- The object of a namespace is meant by numbers exactly where it is by places.
use Rattle.std.proofs.Common.{◌≡◌, ◌⊎◌, inl, inr, ℕ, zero, suc, ◌+◌, ◌<◌, ◌≤◌, true, false, List, [], ◌∷◌, ◌++◌, length, Option, Some, None, refl, sym, ap, ◌∙◌, subst, arith, Bool}
use Rattle.std.specs.Prelude.{Contains, slice_get}
use Rattle.std.specs.Option.{option_and_then}
use Rattle.std.proofs.lemmas.Option.{none-some, same_Some}
use Rattle.std.proofs.lemmas.Bool.{false≢true}
use Rattle.bundle_syntax.specs.Item as h
use Rattle.bundle_syntax.specs.Item.{Item, Head}
use Rattle.bundle_rules.specs.Places.{Around, Spot, past, start, path_at, spot_before, Occurrence, occurrence_of, occurrence_at}
use Rattle.bundle_rules.specs.Nodes.{Text, parts, child, node_at}
use Rattle.bundle_rules.specs.Statements.{TopItem, top_items, Element, taken, stated, own_statements, written, default_name}
use Rattle.bundle_rules.specs.Reads.{read_word, plain_word}
use Rattle.bundle_rules.specs.Entries.{is_import_meta, imports_of, import_of}
use Rattle.bundle_rules.specs.Meaning.{is_meta_at}
use Rattle.bundle_rules.specs.Program.{Program, tree_of}
use Rattle.bundle_rules.specs.Tables.{TellsMeant}
use Rattle.bundle_tree_places.specs.Stated.{is_in_statement}
use Rattle.bundle_link_index.proofs.AskedLemmas.{only_one as only-one, flat_back as flat-back, flat_on as flat-on}
use Rattle.bundle_link_targets.specs.Meant.{Encloses, IsAtOrAround, StandsAt, IsModuleTree, AreModules}
use Rattle.bundle_link_targets.proofs.ListLemmas.{around, drop-first, read-opens}
use Rattle.bundle_link.specs.Nested.{AreNodes, HasParts}
use Rattle.bundle_link.proofs.NodePaths.{get-drop, get-front, get-behind, split, seen, seen-front, NameAt, IsName, name-at, Holds, Opened, around-name}
use Rattle.bundle_link.proofs.StatedElements.{is_stating, placed-from, IsIn, one-top, stated-range, Plain, a_name, a_member, has-stated}
use Rattle.bundle_link.proofs.NumberLemmas.{Begun, TopOf, top-of, read-second, node-at, no-name, InFirst, in-first, held}
use Rattle.bundle_link.specs.Alike.{IsAlike, IsModuleAt}
use Rattle.bundle_link.proofs.AlikeLemmas.{flip}
use Rattle.bundle_link.proofs.MeantLemmas.{namespace_meant, namespace_there}

-- ---- place

-- what is an occurrence is a name
occurs-name : (spot : Spot) (o : Option Item) (occurrence : Occurrence) → option_and_then (occurrence_of spot) o ≡ Some occurrence → IsName o
occurs-name spot None occurrence e = absurd (none-some occurrence e)
occurs-name spot (Some (h.Open field head)) occurrence e = absurd (none-some occurrence e)
occurs-name spot (Some (h.Ident field symbol ctxt role)) occurrence e = (field, symbol, ctxt, role, refl)
occurs-name spot (Some (h.Hole field)) occurrence e = absurd (none-some occurrence e)
occurs-name spot (Some h.Close) occurrence e = absurd (none-some occurrence e)

not-meta : (head : Head) (inside : List Item) (k : ℕ) → HasParts head inside → NameAt inside k → is_import_meta head ≡ false
not-meta (h.MetaPropExpr kind) inside k parts at = absurd (no-name at parts)
not-meta _ inside k parts at = refl

reach : (a b : ℕ) → a ≤ b → (j : ℕ) × (b ≡ a + j)
reach zero b l = (b, omega arith)
reach (suc a) zero l = absurd (omega arith)
reach (suc a) (suc b) l = let r = reach a b (omega (arith, l)) in (r.0, omega (arith, r.1))

module _ (xs : List Item) (are : AreNodes xs) where
  abbrev tree : List Item
  tree = h.Open 0 h.Module ∷ (xs ++ h.Close ∷ [])

  -- the spot behind the beginning of the module
  abbrev first : Spot
  first = past start (h.Open 0 h.Module)

  -- the place of a name in the module
  record Named (place : ℕ) : Type 0 where
    k : ℕ
    far : place ≡ suc k
    name : NameAt xs k
    item : IsName (slice_get tree place)
    path : path_at tree place ≡ seen first xs k

  named : (place : ℕ) (o : Occurrence) → occurrence_at tree place ≡ Some o → Named place
  named place o at = by place (occurs-name (spot_before tree place) (slice_get tree place) o at)
    where
      none : IsName None → ⊥
      none is = let e = is.4 in cc

      no-end : IsName (Some h.Close) → ⊥
      no-end is = let e = is.4 in cc

      no-begin : IsName (Some (h.Open 0 h.Module)) → ⊥
      no-begin is = let e = is.4 in cc

      behind : (j : ℕ) → IsName (slice_get (h.Close ∷ []) j) → ⊥
      behind zero is = no-end is
      behind (suc j) is = none is

      by : (p : ℕ) → IsName (slice_get tree p) → Named p
      by zero is = absurd (no-begin is)
      by (suc k) is = elim (split xs k) [
        | inl l ↦ record {
          k = k;
          far = refl;
          name = name-at are k (subst IsName (get-front xs (h.Close ∷ []) k l) is);
          item = is;
          path = seen-front first xs (h.Close ∷ []) k l;
        }
        | inr more ↦ absurd (behind more.0 (subst IsName (get-behind xs (h.Close ∷ []) k more.0 more.1) is))
      ]

  -- a node around a name: the module, or a node in it
  data Node (place : ℕ) (v : Named place) (n : Around) : Type 0 where
    is_module : n.begins ≡ 0 → Node place v n
    is_inner : Holds tree (1 + v.k) (seen first xs v.k) n → Node place v n

  node-of : (place : ℕ) (v : Named place) (n : Around) → Contains (path_at tree place) n → Node place v n
  node-of place v n there = by (around-name tree v.name first (h.Close ∷ []) refl n (subst (λ l. Contains l n) v.path there))
    where
      by : Opened tree first.path 1 (1 + v.k) (seen first xs v.k) n → Node place v n
      by (inl was) = is_module (sym was.3 ∙ sym (ap (λ (x : Around). x.begins) (only-one (around h.Module 0 0) was.0 was.1)))
      by (inr held) = is_inner held.1

  -- ---- no `import.meta`
  no-meta : (place begins : ℕ) (o : Occurrence) → occurrence_at tree place ≡ Some o → Encloses tree begins place → is_meta_at (slice_get tree begins) ≡ false
  no-meta place begins o at enc = by (node-of place v enc.node enc.around)
    where
      v : Named place
      v = named place o at

      by : Node place v enc.node → is_meta_at (slice_get tree begins) ≡ false
      by (is_module e) = ap (λ b. is_meta_at (slice_get tree b)) (sym enc.here ∙ e)
      by (is_inner held) =
          ap (λ b. is_meta_at (slice_get tree b)) (sym enc.here)
          ∙ ap is_meta_at (drop-first tree enc.node.begins (h.Open held.field enc.node.head) (held.inside ++ h.Close ∷ held.rest) held.at)
          ∙ not-meta enc.node.head held.inside held.k held.parts held.name

  -- ---- reads
  no-read : (begins f : ℕ) → begins ≡ 0 → slice_get tree begins ≡ Some (h.Open f h.MemberExpr) → ⊥
  no-read begins f e is = let both : Some (h.Open 0 h.Module) ≡ Some (h.Open f h.MemberExpr) = sym (ap (slice_get tree) e) ∙ is in cc

  reads-of : (place begins : ℕ) (o : Occurrence) (x : Text) → occurrence_at tree place ≡ Some o → read_word tree begins ≡ Some x → Encloses tree begins place → IsAtOrAround tree (suc begins) place
  reads-of place begins o x at word enc = by (node-of place v enc.node enc.around)
    where
      v : Named place
      v = named place o at

      n : Around
      n = enc.node

      around-it : (b : ℕ) → Begun (path_at tree place) b → IsAtOrAround tree b place
      around-it b begun = inr (record { node = begun.0; around = begun.1; here = begun.2 })

      placed : (held : Holds tree (1 + v.k) (seen first xs v.k) enc.node) → InFirst held.inside held.k → IsAtOrAround tree (suc begins) place
      placed held (inl e) = inl (let far = held.far in let near = v.far in let b = enc.here in omega (arith, e, far, near, b))
      placed held (inr begun) =
          let b : held.spot.place ≡ suc begins = held.begins ∙ ap (λ k. suc k) enc.here in
          around-it (suc begins) (subst (λ k. Begun (path_at tree place) k) b (subst (λ l. Begun l held.spot.place) (sym (v.path ∙ held.same)) (begun held.spot)))

      by : Node place v enc.node → IsAtOrAround tree (suc begins) place
      by (is_module e) = let opens = read-opens tree begins x word in absurd (no-read begins opens.0 (sym enc.here ∙ e) opens.1)
      by (is_inner held) =
          let opens = read-opens tree begins x word in
          let it : slice_get tree begins ≡ Some (h.Open held.field enc.node.head) = ap (slice_get tree) (sym enc.here) ∙ drop-first tree enc.node.begins (h.Open held.field enc.node.head) (held.inside ++ h.Close ∷ held.rest) held.at in
          let both : Some (h.Open held.field enc.node.head) ≡ Some (h.Open opens.0 h.MemberExpr) = sym it ∙ opens.1 in
          let member : enc.node.head ≡ h.MemberExpr = cc in
          let whole : node_at tree begins ≡ h.Open held.field enc.node.head ∷ (held.inside ++ h.Close ∷ []) = ap (node_at tree) (sym enc.here) ∙ node-at tree enc.node.begins held.field enc.node.head held.inside held.rest held.nodes held.at in
          let two = subst (λ k. HasParts k held.inside) member held.parts in
          let second : plain_word (child 1 (h.Open held.field enc.node.head ∷ (held.inside ++ h.Close ∷ []))) ≡ Some x = sym (ap (λ l. plain_word (child 1 l)) whole) ∙ read-second tree begins x word in
          placed held (in-first held.name held.nodes held.field enc.node.head two x second)

  -- ---- own statements
  top-item : (place : ℕ) (v : Named place) → TopOf tree 0 1 (xs ++ h.Close ∷ []) (1 + v.k) (seen first xs v.k)
  top-item place v = top-of tree 0 v.name first (h.Close ∷ []) refl (record { whole = around h.Module 0 0; only = refl; begins = refl })

  -- what is at a name or around it lies in the name's top item, but for the module
  in-top : (place begins : ℕ) (v : Named place) → (begins ≡ 0 → ⊥) → IsAtOrAround tree begins place → IsIn (top-item place v).top begins
  in-top place begins v not_module (inl e) =
      let t = top-item place v in
      let far = v.far in
      let lo = t.above in
      let hi = t.below in
      (omega (arith, e, far, lo), omega (arith, e, far, hi))
  in-top place begins v not_module (inr enc) = by (t.opened enc.node (subst (λ l. Contains l enc.node) v.path enc.around))
    where
      t : TopOf tree 0 1 (xs ++ h.Close ∷ []) (1 + v.k) (seen first xs v.k)
      t = top-item place v

      by : (enc.node.begins ≡ 0) ⊎ ((t.top.start ≤ enc.node.begins) × (enc.node.begins ≤ 1 + v.k)) → IsIn t.top begins
      by (inl e) = absurd (not_module (sym enc.here ∙ e))
      by (inr both) =
          let b = enc.here in
          let hi = t.below in
          (omega (arith, both.0, b), omega (arith, both.1, b, hi))

  lies-stated : (place begins : ℕ) (o : Occurrence) (statement : List Element) (e : Item) → occurrence_at tree place ≡ Some o → IsAtOrAround tree begins place → Contains (own_statements tree) statement → Contains statement (taken begins e) → is_in_statement (path_at tree place) ≡ true
  lies-stated place begins o statement e at around own there =
      let v = named place o at in
      let t = top-item place v in
      let back = flat-back (λ (top : TopItem). stated top.start top.items) (top_items tree) statement own in
      let u : TopItem = back.0 in
      let range = stated-range u.start u.items statement back.2 in
      let its = range.1 begins e there in
      let from = placed-from 1 (parts tree) u back.1 in
      let lies = in-top place begins v (λ z. absurd (omega (arith, z, its.0, from))) around in
      let same : t.top ≡ u = one-top 1 (parts tree) t.top u begins t.there back.1 lies its in
      ap is_in_statement v.path ∙ t.states ∙ ap (λ (x : TopItem). is_stating x.items) same ∙ range.0

  stands-there : (place begins : ℕ) (v : Named place) (item : Item) → is_in_statement (path_at tree place) ≡ true → IsIn (top-item place v).top begins → Plain item → slice_get tree begins ≡ Some item → StandsAt tree begins
  stands-there place begins v item is lies plain get =
      let t = top-item place v in
      let stating : is_stating t.top.items ≡ true = sym t.states ∙ sym (ap is_in_statement v.path) ∙ is in
      let j = reach t.top.start begins lies.0 in
      let within : j.0 < length t.top.items = omega (arith, j.1, lies.1) in
      let got : slice_get t.top.items j.0 ≡ Some item =
      sym (get-front t.top.items t.rest j.0 within)
      ∙ sym (ap (λ l. slice_get l j.0) t.at)
      ∙ sym (get-drop tree t.top.start j.0)
      ∙ sym (ap (slice_get tree) j.1)
      ∙ get in
      let its = has-stated t.top.start t.shape stating j.0 item plain got begins j.1 in
      record {
        statement = its.0;
        element = its.2.other;
        own = flat-on (λ (top : TopItem). stated top.start top.items) (top_items tree) t.top its.0 t.there its.1;
        stands = its.2.there;
        opens = λ field head e. its.2.opens field head (same_Some item (h.Open field head) (sym get ∙ e));
      }

  stands-stated : (place begins : ℕ) (o : Occurrence) → occurrence_at tree place ≡ Some o → is_in_statement (path_at tree place) ≡ true → (begins ≡ place) ⊎ (Encloses tree begins place × ((x : Text) × (read_word tree begins ≡ Some x))) → StandsAt tree begins
  stands-stated place begins o at is (inl e) =
      let v = named place o at in
      let far = v.far in
      let its = v.item in
      stands-there place begins v (h.Ident its.0 its.1 its.2 its.3) is (in-top place begins v (λ z. absurd (omega (arith, z, e, far))) (inl e)) a_name (ap (slice_get tree) e ∙ its.4)
  stands-stated place begins o at is (inr (enc, (x, word))) =
      let v = named place o at in
      let opens = read-opens tree begins x word in
      stands-there place begins v (h.Open opens.0 h.MemberExpr) is (in-top place begins v (λ z. no-read begins opens.0 z opens.1) (inr enc)) a_member opens.1

-- whole nodes in a module's node are a module's tree
pub module-tree : (inside : List Item) → AreNodes inside → IsModuleTree (h.Open 0 h.Module ∷ (inside ++ h.Close ∷ []))
module-tree inside are = record {
  stated = lies-stated inside are;
  stands = stands-stated inside are;
  meta = no-meta inside are;
  read = reads-of inside are;
}

-- so is the empty list
pub no-tree : IsModuleTree []
no-tree = record {
  stated = λ place begins o statement e at around own there. absurd (none-some o at);
  stands = λ place begins o at is where_it_is. absurd (none-some o at);
  meta = λ place begins o at enc. absurd (none-some o at);
  read = λ place begins o x at word enc. absurd (none-some o at);
}

-- ---- object

-- a tree that declares `default` without a name binds it by no import
abbrev IsUnbound : List Item → Type 0
IsUnbound tree = (statement : List Element) (e : Item) → Contains (own_statements tree) statement → Contains statement (written e) → import_of (imports_of tree) default_name ≡ None

module _ (p q : Program) (ids : List ℕ) (w : IsAlike p q (IsModuleAt ids)) where
  pub none_object : (m : ℕ) → (Contains ids m → ⊥) → TellsMeant p m false
  none_object m none = (λ is. absurd (false≢true is), λ is. absurd (let k = namespace_there p q (IsModuleAt ids) w m is in none (held ids m k.0 k.1)))

  pub object_on : (m place : ℕ) (answer : Bool) → IsModuleAt ids m place → TellsMeant q place answer → TellsMeant p m answer
  object_on m place answer at tells = (
    λ is. namespace_meant q p (λ a b. IsModuleAt ids b a) (flip w) place m at (tells.0 is),
    λ is. tells.1 (namespace_meant p q (IsModuleAt ids) w m place at is),
  )

  module _ (are : AreModules p) (bare : (i : ℕ) → slice_get ids i ≡ None → tree_of q i ≡ []) where
    -- what holds of each tree holds of each by places
    trees_on : (Holds : List Item → Type 0) → Holds [] → ((m : ℕ) → Holds (tree_of p m)) → (i : ℕ) → Holds (tree_of q i)
    trees_on Holds none all i = by (slice_get ids i) refl
      where
        by : (o : Option ℕ) → slice_get ids i ≡ o → Holds (tree_of q i)
        by None is = subst Holds (sym (bare i is)) none
        by (Some m) is = subst Holds (w.tree m i is) (all m)

    pub modules_on : AreModules q
    modules_on = record {
      trees = trees_on IsModuleTree no-tree are.trees;
      once = record { unbound = trees_on IsUnbound (λ statement e own there. refl) are.once.unbound };
    }
