-- What imports and nameless defaults declare in a module, and that a declaration beside another of
-- its name is
-- doubled.
use Rattle.std.proofs.Common.{◌≡◌, inl, inr, ℕ, zero, suc, ◌+◌, ◌<◌, true, false, cond, ◌&&◌, List, [], ◌∷◌, ◌++◌, append_assoc, Some, None, fold, nat_lt, take, lt-ltb, refl, sym, ap, ap₂, ◌∙◌, subst, arith}
use Rattle.std.specs.Prelude.{Contains, slice_get}
use Rattle.std.specs.List.{cons_option}
use Rattle.std.proofs.lemmas.Bool.{false≢true, and_from}
use Rattle.bundle_syntax.specs.declared.kind.ExportMetadata.{ExportMetadata}
use Rattle.bundle_syntax.specs.declared.piece.Role.{Role}
use Rattle.bundle_syntax.specs.declared.piece.Role.TheVariants.{Binding}
use Rattle.bundle_syntax.specs.Item as h
use Rattle.bundle_syntax.specs.Item.{Item, Head}
use Rattle.bundle_rules.specs.Places.{Around, Spot, in_field as in_field_of, past, start}
use Rattle.bundle_rules.specs.Scopes.{Es, Top, scopes_around}
use Rattle.bundle_rules.specs.Declarations.{ByImport, BySymbol, Declared, is_nameless_default, declared_by, way_of, nameless_default, declared_at, declared_from, declared}
use Rattle.bundle_rules.specs.Doubled.{clash, is_doubled, first_doubled}
use Rattle.bundle_rules.specs.Nodes.{Text, side_by_side, without_last, begins_in, begins_with, in_field}
use Rattle.bundle_rules.specs.Statements.{TopItem, top_items, Element, written, taken_from, with_name, default_declaration, stated_by, stated, own_statements}
use Rattle.bundle_rules.specs.Entries.{ImportEntry, text_in, import_entry, imports_by, imports_of_item, imports_of, is_module_declaration}
use Rattle.bundle_tree_places.specs.Stated.{is_in_statement}
use Rattle.bundle_link.specs.Nested.{AreNodes, nothing, name, hole, node, HasParts, BeginsBound, is_import_specifier}
use Rattle.bundle_link_targets.proofs.ListLemmas.{first-there}
use Rattle.bundle_link_index.proofs.AskedLemmas.{none_there as none-there, only_one as only-one, flat_back as flat-back}
use Rattle.bundle_link_index.proofs.ProgramLemmas.{first_or_later as there-cases, filter_back as filter-back, any_there as any-there}
use Rattle.bundle_merge_theory.proofs.noted.Spots.{around_spot, fold-path}
use Rattle.bundle_link.proofs.NodePaths.{spot-in}
use Rattle.bundle_merge_theory.proofs.noted.StaticReads.{plain_nodes}
use Rattle.bundle_link.proofs.DefaultLemmas.{cons-later as cons_later, found-failed, placed-there, none-written, specifier-bound, append-into}
use Rattle.bundle_link.proofs.StatedElements.{node-first, sides-end}

-- ---- one of the nodes that stand side by side
data IsWhole : List Item → Type 0 where
  a_name : {field ctxt : ℕ} {symbol : List ℕ} {role : Role} →
      IsWhole (h.Ident field symbol ctxt role ∷ [])
  a_hole : {field : ℕ} → IsWhole (h.Hole field ∷ [])
  a_node : {field : ℕ} {head : Head} {inside : List Item} → AreNodes inside → HasParts head inside →
      IsWhole (h.Open field head ∷ (inside ++ h.Close ∷ []))

record Part (xs part : List Item) : Type 0 where
  front : List Item
  back : List Item
  is : xs ≡ front ++ (part ++ back)
  before : AreNodes front
  whole : IsWhole part

part-of : {xs : List Item} → AreNodes xs → (part : List Item) →
    Contains (side_by_side zero xs) part → Part xs part
part-of nothing part c = none-there part c
part-of (name {field = f} {ctxt = t} {sym = y} {role = r} {rest = rest} are) part c =
    elim (there-cases (h.Ident f y t r ∷ []) (side_by_side zero rest) part c) [
      | inl same ↦ subst (Part (h.Ident f y t r ∷ rest)) same
          (record { front = []; back = rest; is = refl; before = nothing; whole = a_name })
      | inr more ↦ let p = part-of are part more in record {
        front = h.Ident f y t r ∷ p.front;
        back = p.back;
        is =
            ap (λ l. h.Ident f y t r ∷ l) p.is;
        before = name p.before;
        whole = p.whole;
      }
    ]
part-of (hole {field = f} {rest = rest} are) part c =
    elim (there-cases (h.Hole f ∷ []) (side_by_side zero rest) part c) [
      | inl same ↦ subst (Part (h.Hole f ∷ rest)) same
          (record { front = []; back = rest; is = refl; before = nothing; whole = a_hole })
      | inr more ↦ let p = part-of are part more in record {
        front = h.Hole f ∷ p.front;
        back = p.back;
        is = ap (λ l. h.Hole f ∷ l) p.is;
        before =
            hole p.before;
        whole = p.whole;
      }
    ]
part-of (node {field = f} {head = hd} {inside = ins} {rest = rest} in_it parts are) part c =
    elim (there-cases (h.Open f hd ∷ (ins ++ h.Close ∷ [])) (side_by_side zero rest) part
    (subst (λ l. Contains l part) (node-first in_it f hd rest) c)) [
      | inl same ↦ subst (Part (h.Open f hd ∷ (ins ++ h.Close ∷ rest))) same
          (record {
            front = [];
            back = rest;
            is = ap (λ l. h.Open f hd ∷ l)
                (sym (append_assoc ins (h.Close ∷ []) rest));
            before = nothing;
            whole = a_node in_it parts;
          })
      | inr more ↦ let p = part-of are part more in record {
        front = h.Open f hd ∷ (ins ++ h.Close ∷ p.front);
        back = p.back;
        is = ap (λ l. h.Open f hd ∷ (ins ++ h.Close ∷ l)) p.is
            ∙ ap (λ l. h.Open f hd ∷ l) (sym (append_assoc ins (h.Close ∷ p.front) (part ++ p.back)));
        before = node in_it parts p.before;
        whole = p.whole;
      }
    ]

-- ---- a top item in which something is written declares `default`
record IsNameless (items : List Item) : Type 0 where
  field : ℕ
  head : Head
  rest : List Item
  is : items ≡ h.Open field head ∷ rest
  nameless : (more : List Item) → is_nameless_default (h.Open field head) (rest ++ more) ≡ true
  declares : is_module_declaration head ≡ true

-- two nodes begin, one right inside the other
record BeginTwo (items : List Item) : Type 0 where
  field : ℕ
  head : Head
  inner : ℕ
  inner_head : Head
  rest : List Item
  is : items ≡ h.Open field head ∷ h.Open inner inner_head ∷ rest

with_name-written : (f : ℕ) (hd : Head) (place : ℕ) (xs : List Item) (e : Item) →
    Contains (with_name place xs) (written e) → BeginTwo (h.Open f hd ∷ xs)
with_name-written f hd place [] e c = absurd (none-written place [] e c)
with_name-written f hd place (h.Ident field symbol ctxt role ∷ rest) e c =
    absurd (none-written place (h.Ident field symbol ctxt role ∷ rest) e c)
with_name-written f hd place (h.Open field head ∷ rest) e c =
    record { field = f; head = hd; inner = field; inner_head = head; rest = rest; is = refl }
with_name-written f hd place (h.Hole field ∷ rest) e c =
    absurd (none-written place (h.Hole field ∷ rest) e c)
with_name-written f hd place (h.Close ∷ rest) e c = absurd (none-written place (h.Close ∷ rest) e c)

declaration-written : (place : ℕ) (xs : List Item) (e : Item) →
    Contains (default_declaration place xs) (written e) → BeginTwo xs
declaration-written place [] e c = absurd (none-written place [] e c)
declaration-written place (h.Ident field symbol ctxt role ∷ rest) e c =
    absurd (none-written place (h.Ident field symbol ctxt role ∷ rest) e c)
declaration-written place (h.Open field head ∷ rest) e c =
    elim (there-cases _ (with_name (suc place) rest) (written e) c) [
      | inl same ↦ cc
      | inr more ↦
          with_name-written field head (suc place) rest e more
    ]
declaration-written place (h.Hole field ∷ rest) e c =
    absurd (none-written place (h.Hole field ∷ rest) e c)
declaration-written place (h.Close ∷ rest) e c = absurd (none-written place (h.Close ∷ rest) e c)

begin-two : (items : List Item) → BeginTwo (without_last items) → BeginTwo items
begin-two [] two = let e = two.is in cc
begin-two (x ∷ []) two = let e = two.is in cc
begin-two (x ∷ y ∷ []) two = let e = two.is in cc
begin-two (x ∷ y ∷ z ∷ more) two =
    let e = two.is in
    let first : x ≡ h.Open two.field two.head = cc in
    let second : y ≡ h.Open two.inner two.inner_head = cc in
    record {
      field = two.field;
      head = two.head;
      inner = two.inner;
      inner_head =
          two.inner_head;
      rest = z ∷ more;
      is = ap₂ (λ a b. a ∷ b ∷ z ∷ more) first second;
    }

two-nameless : (field : ℕ) (rest : List Item) → BeginTwo rest →
    IsNameless (h.Open field h.ExportDefaultDecl ∷ rest)
two-nameless field rest two = record {
  field = field;
  head = h.ExportDefaultDecl;
  rest = rest;
  is = refl;
  nameless = λ more. ap (λ l. is_nameless_default (h.Open field h.ExportDefaultDecl) (l ++ more))
      two.is;
  declares = refl;
}

stated-written : (b : ℕ) (items : List Item) (statement : List Element) (e : Item) →
    Contains (stated b items) statement → Contains statement (written e) → IsNameless items
stated-written b [] statement e c there = none-there statement c
stated-written b (h.Ident field symbol ctxt role ∷ rest) statement e c there =
    absurd (none-written b (h.Ident field symbol ctxt role ∷ rest) e
    (subst (λ l. Contains l (written e)) (sym (only-one _ statement c)) there))
stated-written b (h.Hole field ∷ rest) statement e c there =
    absurd (none-written b (h.Hole field ∷ rest) e
    (subst (λ l. Contains l (written e)) (sym (only-one _ statement c)) there))
stated-written b (h.Close ∷ rest) statement e c there =
    absurd (none-written b (h.Close ∷ rest) e (subst (λ l. Contains l (written e))
    (sym (only-one _ statement c)) there))
stated-written b (h.Open field head ∷ rest) statement e c there = by head c
  where
    only : (st : List Element) → Contains (st ∷ []) statement → Contains st (written e)
    only st c = subst (λ l. Contains l (written e)) (sym (only-one st statement c)) there

    plain : (first : ℕ) (xs : List Item) → Contains (taken_from first xs ∷ []) statement → ⊥
    plain first xs c = none-written first xs e (only (taken_from first xs) c)

    by : (k : Head) → Contains (stated_by k b (h.Open field k ∷ rest)) statement →
        IsNameless (h.Open field k ∷ rest)
    by (h.ImportDecl meta) c = none-there statement c
    by (h.NamedExport meta) c = none-there statement c
    by (h.ExportAll meta) c = none-there statement c
    by h.EmptyStmt c = none-there statement c
    by h.ExportDecl c = absurd (plain (suc b) (without_last rest) c)
    by h.ExportDefaultExpr c = record {
      field = field;
      head = h.ExportDefaultExpr;
      rest = rest;
      is =
          refl;
      nameless = λ more. refl;
      declares = refl;
    }
    by h.ExportDefaultDecl c = two-nameless field rest
        (begin-two rest (declaration-written (suc b) (without_last rest) e
        (only (default_declaration (suc b) (without_last rest)) c)))
    by k c = absurd (plain b (h.Open field k ∷ rest) c)

-- ---- what the items from a spot on declare, and where
pub record Found (s : Spot) (xs : List Item) (x : Item) (d : Declared) (spot : Spot) : Type 0 where
  pub there : Contains (declared_from BySymbol Es s xs) d
  pub far : ℕ
  pub place : d.place ≡ s.place + far
  pub at : slice_get xs far ≡ Some x
  pub spot_is : fold past s (take far xs) ≡ spot

found-here : (x : Item) (rest : List Item) {s : Spot} {d : Declared} →
    declared_at BySymbol Es s x rest ≡ Some d → d.place ≡ s.place → Found s (x ∷ rest) x d s
found-here x rest {s = s} {d = d} e place =
    let later : List Declared = declared_from BySymbol Es (past s x) rest in
    record {
      there = subst (λ o. Contains (cons_option o later) d) (sym e) (first-there d later);
      far = 0;
      place = omega (arith, place);
      at = refl;
      spot_is = refl;
    }

found-past : (y : Item) {s : Spot} {xs : List Item} {x : Item} {d : Declared} {spot : Spot} →
    Found (past s y) xs x d spot → Found s (y ∷ xs) x d spot
found-past y {s = s} {xs = xs} {d = d} found = record {
  there = cons_later (declared_at BySymbol Es s y xs) (declared_from BySymbol Es (past s y) xs) d
      found.there;
  far = suc found.far;
  place = let p = found.place in omega (arith, p);
  at = found.at;
  spot_is = found.spot_is;
}

found-behind : (front : List Item) {s : Spot} {xs : List Item} {x : Item} {d : Declared}
    {spot : Spot} → Found (fold past s front) xs x d spot → Found s (front ++ xs) x d spot
found-behind [] found = found
found-behind (y ∷ front) found = found-past y (found-behind front found)

-- ---- what an import specifier declares
abbrev pub imported : ℕ → Text → Declared
imported place x = record {
  place = place;
  name = record { sym = x; ctxt = None };
  by =
      ByImport;
  scopes = Top ∷ [];
}

import-way : (hd : Head) → is_import_specifier hd ≡ true → (place : ℕ) (x : Text)
    (meta : ExportMetadata) (a b c d f : ℕ) → (let path : List Around =
    around_spot hd a 0 ∷ around_spot (h.ImportDecl meta) b c ∷ around_spot h.Module d f ∷ [] in declared_by place
    (record { sym = x; ctxt = None }) (scopes_around Es path) (way_of path)
    ≡ Some (imported place x))
import-way h.ImportNamedSpecifier is place x meta a b c d f = refl
import-way h.ImportDefaultSpecifier is place x meta a b c d f = refl
import-way h.ImportStarAsSpecifier is place x meta a b c d f = refl
import-way _ is place x meta a b c d f = absurd (false≢true is)

import-declares : (s : Spot) (hd : Head) → is_import_specifier hd ≡ true →
    (meta : ExportMetadata) (a b c d f g : ℕ) → s.path
    ≡ around_spot hd a g ∷ around_spot (h.ImportDecl meta) b c ∷ around_spot h.Module d f ∷ [] →
    (x : Text) (ctxt : ℕ) (rest : List Item) → declared_at BySymbol Es s (h.Ident 0 x ctxt Binding)
    rest ≡ Some (imported s.place x)
import-declares s hd is meta a b c d f g e x ctxt rest =
    ap (λ (path : List Around). declared_by s.place (record { sym = x; ctxt = None })
    (scopes_around Es (in_field_of 0 path)) (way_of (in_field_of 0 path))) e
    ∙ import-way hd is s.place x meta a b c d f

module _ (xs : List Item) (are : AreNodes xs) where
  abbrev pub tree : List Item
  tree = h.Open 0 h.Module ∷ (xs ++ h.Close ∷ [])

  abbrev pub first : Spot
  first = past start (h.Open 0 h.Module)

  -- a top item is one of the nodes
  top-part : (t : TopItem) → Contains (top_items tree) t → Part xs t.items
  top-part t there = part-of are t.items (subst (λ l. Contains l t.items) (sides-end are [])
      (placed-there 1 (side_by_side zero (xs ++ h.Close ∷ [])) t there))

  found-in : (items : List Item) (p : Part xs items) {x : Item} {d : Declared} {spot : Spot} →
      Found (fold past first p.front) (items ++ (p.back ++ h.Close ∷ [])) x d spot →
      Found start tree x d spot
  found-in items p {x = x} {d = d} {spot = spot} found =
      let whole : xs ++ h.Close ∷ [] ≡ p.front ++ (items ++ (p.back ++ h.Close ∷ [])) =
      append-into xs p.front items p.back (h.Close ∷ []) p.is in
      found-past (h.Open 0 h.Module) (subst (λ l. Found first l x d spot) (sym whole)
      (found-behind p.front found))

  -- ---- the default without a name
  pub record Defaults : Type 0 where
    pub place : ℕ
    pub field : ℕ
    pub head : Head
    pub spot : Spot
    pub found : Found start tree (h.Open field head) (nameless_default Es place) spot

  default-found : (items : List Item) → Part xs items → IsNameless items → Defaults
  default-found items p its = record {
    place = s.place;
    spot = s;
    field = its.field;
    head = its.head;
    found = found-in items p (subst (λ l. Found s (l ++ back) first_item
        (nameless_default Es s.place) s) (sym its.is) here);
  }
    where
      s : Spot
      s = fold past first p.front

      back : List Item
      back = p.back ++ h.Close ∷ []

      first_item : Item
      first_item = h.Open its.field its.head

      here : Found s (first_item ∷ (its.rest ++ back)) first_item (nameless_default Es s.place) s
      here = found-here first_item (its.rest ++ back)
          (ap (λ b. cond b (Some (nameless_default Es s.place)) None) (its.nameless back)) refl

  pub defaults : (statement : List Element) (e : Item) → Contains (own_statements tree) statement →
      Contains statement (written e) → Defaults
  defaults statement e own there =
      let back = flat-back (λ (top : TopItem). stated top.start top.items) (top_items tree)
      statement own in
      default-found back.0.items (top-part back.0 back.1)
      (stated-written back.0.start back.0.items statement e back.2 there)

  -- ---- an import of a name
  pub record Imports (x : Text) : Type 0 where
    pub place : ℕ
    pub ctxt : ℕ
    pub spot : Spot
    pub found : Found start tree (h.Ident 0 x ctxt Binding) (imported place x) spot
    -- it is in no statement
    pub apart : is_in_statement (in_field_of 0 spot.path) ≡ false

  -- a specifier in an import
  specifier-found : (f : ℕ) (meta : ExportMetadata) (ins : List Item)
      (p : Part xs (h.Open f (h.ImportDecl meta) ∷ (ins ++ h.Close ∷ []))) (g : ℕ) (hd : Head)
      (inner : List Item) (q : Part ins (h.Open g hd ∷ (inner ++ h.Close ∷ []))) →
      is_import_specifier hd ≡ true → BeginsBound inner → (x : Text) →
      text_in 0 (h.Open g hd ∷ (inner ++ h.Close ∷ [])) ≡ x → Imports x
  specifier-found f meta ins p g hd inner q is bound x text = record {
    place = in_it.place;
    ctxt = bound.ctxt;
    spot = in_it;
    apart = ap (λ (l : List Around). is_in_statement (in_field_of 0 l)) path;
    found = found-in import p (found-past (h.Open f (h.ImportDecl meta))
        (subst (λ l. Found opened l local_item its in_it) (sym whole)
        (found-behind q.front in_specifier)));
  }
    where
      import : List Item
      import = h.Open f (h.ImportDecl meta) ∷ (ins ++ h.Close ∷ [])

      specifier : List Item
      specifier = h.Open g hd ∷ (inner ++ h.Close ∷ [])

      -- behind the import's beginning, before the specifier, and behind the specifier's beginning
      before : Spot
      before = fold past first p.front

      opened : Spot
      opened = spot-in before f (h.ImportDecl meta)

      behind : Spot
      behind = fold past opened q.front

      in_it : Spot
      in_it = spot-in behind g hd

      local_item : Item
      local_item = h.Ident 0 x bound.ctxt Binding

      its : Declared
      its = imported in_it.place x

      local : bound.sym ≡ x
      local = sym (ap (λ l. text_in 0 (h.Open g hd ∷ (l ++ h.Close ∷ []))) bound.is) ∙ text

      begins : inner ≡ local_item ∷ bound.rest
      begins = bound.is ∙ ap (λ y. h.Ident 0 y bound.ctxt Binding ∷ bound.rest) local

      path : in_it.path ≡ around_spot hd behind.place 0 ∷ around_spot (h.ImportDecl meta) before.place g ∷
          around_spot h.Module 0 f ∷ []
      path =
          ap (λ (l : List Around). around_spot hd behind.place 0 ∷ in_field_of g l)
          (fold-path (plain_nodes q.before) opened).1
          ∙ ap (λ (l : List Around). around_spot hd behind.place 0 ∷ around_spot (h.ImportDecl meta)
          before.place g ∷ in_field_of f l) (fold-path (plain_nodes p.before) first).1

      here : (rest : List Item) → Found in_it (local_item ∷ rest) local_item its in_it
      here rest = found-here local_item rest (import-declares in_it hd is meta behind.place
          before.place g 0 f 0 path x bound.ctxt rest) refl

      back : List Item
      back = q.back ++ h.Close ∷ (p.back ++ h.Close ∷ [])

      in_specifier : Found behind (specifier ++ back) local_item its in_it
      in_specifier = found-past (h.Open g hd) (subst
          (λ l. Found in_it ((l ++ h.Close ∷ []) ++ back) local_item its in_it) (sym begins)
          (here ((bound.rest ++ h.Close ∷ []) ++ back)))

      whole : (ins ++ h.Close ∷ []) ++ (p.back ++ h.Close ∷ []) ≡ q.front ++ (specifier ++ back)
      whole = append_assoc ins (h.Close ∷ []) (p.back ++ h.Close ∷ [])
          ∙ append-into ins q.front specifier q.back (h.Close ∷ (p.back ++ h.Close ∷ [])) q.is

  import-found : (f : ℕ) (meta : ExportMetadata) (ins : List Item) →
      Part xs (h.Open f (h.ImportDecl meta) ∷ (ins ++ h.Close ∷ [])) → AreNodes ins →
      HasParts (h.ImportDecl meta) ins → (entry : ImportEntry) →
      Contains (imports_by (h.ImportDecl meta)
      (h.Open f (h.ImportDecl meta) ∷ (ins ++ h.Close ∷ []))) entry → Imports entry.local
  import-found f meta ins p nodes parts entry c =
      by spec.0 (part-of nodes spec.0 there) (parts spec.0 there in_zero.1) spec.2
    where
      item : List Item
      item = h.Open f (h.ImportDecl meta) ∷ (ins ++ h.Close ∷ [])

      spec : (part : List Item) × Contains (in_field 0 item) part × Contains
          (import_entry (text_in 1 item) part) entry
      spec = flat-back (import_entry (text_in 1 item)) (in_field 0 item) entry c

      in_zero : Contains (side_by_side zero (ins ++ h.Close ∷ [])) spec.0 ×
          (begins_in 0 spec.0 ≡ true)
      in_zero = filter-back (begins_in 0) (side_by_side zero (ins ++ h.Close ∷ [])) spec.0 spec.1

      there : Contains (side_by_side zero ins) spec.0
      there = subst (λ l. Contains l spec.0) (sides-end nodes []) in_zero.0

      by : (part : List Item) → Part ins part → begins_with is_import_specifier part ≡ true →
          Contains (import_entry (text_in 1 item) part) entry → Imports entry.local
      by part q is c = on q.whole q is c
        where
          on : {part : List Item} → IsWhole part → Part ins part →
              begins_with is_import_specifier part ≡ true → Contains
              (import_entry (text_in 1 item) part) entry → Imports entry.local
          on a_name q is c = absurd (false≢true is)
          on a_hole q is c = absurd (false≢true is)
          on (a_node {field = g} {head = hd} {inside = inner} nodes parts) q is c =
              specifier-found f meta ins p g hd inner q is (specifier-bound hd inner is parts)
              entry.local (ap (λ (it : ImportEntry). it.local) (only-one _ entry c))

  pub imports : (entry : ImportEntry) → Contains (imports_of tree) entry → Imports entry.local
  imports entry c = on (top-part back.0 back.1).whole (top-part back.0 back.1) back.2
    where
      back : (top : TopItem) × Contains (top_items tree) top × Contains (imports_of_item top.items)
          entry
      back = flat-back (λ (top : TopItem). imports_of_item top.items) (top_items tree) entry c

      by : (f : ℕ) (hd : Head) (ins : List Item) → Part xs (h.Open f hd ∷ (ins ++ h.Close ∷ [])) →
          AreNodes ins → HasParts hd ins → Contains
          (imports_by hd (h.Open f hd ∷ (ins ++ h.Close ∷ []))) entry → Imports entry.local
      by f (h.ImportDecl meta) ins p nodes parts c = import-found f meta ins p nodes parts entry c
      by f _ ins p nodes parts c = none-there entry c

      on : {part : List Item} → IsWhole part → Part xs part →
          Contains (imports_of_item part) entry → Imports entry.local
      on a_name p c = none-there entry c
      on a_hole p c = none-there entry c
      on (a_node {field = f} {head = hd} {inside = ins} nodes parts) p c =
          by f hd ins p nodes parts c

-- a tree in which one of these stands before the other has a doubled name
pub doubled : (tree : List Item) (a b : Declared) → first_doubled Es tree ≡ None →
    Contains (declared BySymbol Es tree) a → Contains (declared BySymbol Es tree) b →
    a.place < b.place → clash a b ≡ true → ⊥
doubled tree a b once in_a in_b before clashes =
    let all : List Declared = declared BySymbol Es tree in
    let fails : is_doubled all b ≡ false = found-failed (is_doubled all) all once b in_b in
    let holds : is_doubled all b ≡ true = any-there
    (λ (earlier : Declared). nat_lt earlier.place b.place && clash earlier b) all a in_a
    (and_from (nat_lt a.place b.place) (clash a b) (lt-ltb a.place b.place before) clashes) in
    false≢true (sym fails ∙ holds)
