-- What is denoted in a statement is of a scope inside it, or of one around it.
-- Facts of lists: two lists element by element, and what is so of each element.
-- In a tree with other names statements agree with what they agreed with, where each occurrence
-- denotes what corresponds.
use Rattle.std.proofs.Common.{◌≡◌, ◌≤◌, ℕ, Bool, true, false, cond, List, [], ◌∷◌, ◌++◌, Option, Some, None, unwrap_or, find, refl, ap, sym, ◌∙◌, subst, arith, append_assoc, zero, suc, length, ◌⊎◌, inl, inr, ◌+◌, filter, map, length-append, ap₂}
use Rattle.std.specs.Prelude.{⊤, slice_get, Contains, fold, nat_le, position}
use Rattle.std.specs.List.{list_any, AllZip}
use Rattle.std.proofs.lemmas.Option.{none-some, same_Some}
use Rattle.std.proofs.lemmas.List.{length-map, map-append}
use Rattle.std.proofs.lemmas.Bool.{le-leb, leb-true}
use Rattle.bundle_syntax.specs.declared.piece.Role.{Role}
use Rattle.bundle_syntax.specs.Item as h
use Rattle.bundle_syntax.specs.Item.{Item}
use Rattle.bundle_syntax.specs.declared.piece.Role.TheVariants as r
use Rattle.bundle_rules.specs.Places.{Around, Spot, Occurrence, past, in_field, occurrences_from, is_binding, occurrences}
use Rattle.bundle_rules.specs.Scopes.{Es, Scope, ScopeKind, Wrapper, Top, Inner, FunctionBody, kind_of_scope, scope_at, scopes_around}
use Rattle.bundle_rules.specs.Declarations.{Way, Reading, BySymbol, ByContext, Name, name_of, Declared, declared_by, way_of, declared}
use Rattle.bundle_rules.specs.Homes.{takes, from_taker, nearest, taker, parameters_of, joins_parameter, is_parameter, home_beside, home_of, binds}
use Rattle.bundle_rules.specs.Denotes.{Denoted, Bound, Global, without_context, bound_in, is_unresolved, is_written_in, is_implied_in, written_or_implied, denoted_by_context, denoted_in, own_or_found, denoted_of, denotations}
use Rattle.bundle_rules.specs.Mentions.{same_denoted, each_denoted_once}
use Rattle.bundle_rules.specs.Meaning.{Label, Meant, Inside, Known, Unbound, Labelling, View, is_inside}
use Rattle.bundle_rules.specs.Sorting.{flat}
use Rattle.bundle_scope_names.proofs.Kept.{occurrences-append as occurrences_append}
pub use Rattle.bundle_scope_names.proofs.Told.{zip-length}
pub use Rattle.bundle_link_index.proofs.ProgramLemmas.{map_on as contains-map}
use Rattle.bundle_link.proofs.NodePaths.{place-behind, spot-behind, field-twice, fold-place, same-field as same_field}
pub use Rattle.bundle_link.proofs.NumberedModuleLemmas.{zip_at as zip-at}
use Rattle.bundle_merge_theory.specs.joined.Joined.{AllOf, joined_items}
use Rattle.bundle_merge_theory.proofs.joined.Paths.{all-append, item-occurrences}
use Rattle.bundle_merge_theory.specs.noted.Nodes
use Rattle.bundle_merge_theory.specs.noted.Nodes.{AreNodesInTurn}
use Rattle.bundle_merge_theory.proofs.noted.Spots.{path-behind, fold-path}
use Rattle.bundle_merge_theory.specs.walked.Names.{idents_among}
use Rattle.bundle_merge_theory.specs.walked.Together.{IsBoundAs}
use Rattle.bundle_merge_theory.specs.walked.Numbers.{AreDenotedOneToOne}
use Rattle.bundle_merge_theory.specs.walked.Renewed.{Renews}
use Rattle.bundle_merge_theory.specs.walked.Renaming.{ItemMeaning}
use Rattle.bundle_merge_theory.proofs.walked.NameLemmas.{numbers_agree, both_filtered}
use Rattle.bundle_merge_theory.proofs.joined.Bindings.{Contains-cons}
use Rattle.bundle_merge_theory.specs.composed.Noted.{AgreesWith, MeantInTurn, denoted_here, denoted_from, view_of, StatementsAgree, StandsForLabel, NotedItem, ItemAgrees, ItemsAgree, first_spot, BundleAgrees}
use Rattle.bundle_merge_theory.specs.composed.Becoming.{placed_scope, StandsInMoved, Becoming, labels_of}
use Rattle.bundle_merge_theory.specs.composed.Turned.{IsScopeBelow, SpotsMatch, module_path, PartTurned, ItemTurned, whole_turned, function_turned, ItemsTurned}

-- ---- among

-- Homes: of one of the scopes around, or the top.
module _ (P : Scope → Type 0) (top : P Top) where
  taker-all : (way : Way) (scopes : List Scope) → AllOf P scopes → AllOf P (from_taker way scopes)
  taker-all way [] all = tt
  taker-all way (scope ∷ outer) all = by_test (takes way scope) (taker-all way outer all.1)
    where
      by_test : (b : Bool) → AllOf P (from_taker way outer) →
          AllOf P (cond b (scope ∷ outer) (from_taker way outer))
      by_test true rest = all
      by_test false rest = rest

  nearest-all : (scopes : List Scope) → AllOf P scopes → P (unwrap_or (nearest scopes) Top)
  nearest-all [] all = top
  nearest-all (scope ∷ outer) all = all.0

  taker-has : (d : Declared) → AllOf P d.scopes → P (taker d)
  taker-has d all = nearest-all (from_taker d.by d.scopes) (taker-all d.by d.scopes all)

  nearest-some : (scopes : List Scope) → AllOf P scopes → (s : Scope) → nearest scopes ≡ Some s →
      P s
  nearest-some [] all s e = absurd (none-some s e)
  nearest-some (scope ∷ outer) all s e = subst P (same_Some scope s e) all.0

  parameters-all : (scopes : List Scope) → AllOf P scopes → (s : Scope) →
      parameters_of scopes ≡ Some s → P s
  parameters-all [] all s e = absurd (none-some s e)
  parameters-all (Wrapper ∷ outer) all s e = absurd (none-some s e)
  parameters-all (Top ∷ outer) all s e = nearest-some outer all.1 s e
  parameters-all (Inner FunctionBody begins ∷ outer) all s e = nearest-some outer all.1 s e
  parameters-all (Inner _ begins ∷ outer) all s e = absurd (none-some s e)

  home-has : (every : List Declared) (d : Declared) → AllOf P d.scopes → P (home_of every d)
  home-has every d all = by_way (joins_parameter d.by)
    where
      by_parameter : (o : Option Scope) → parameters_of (from_taker d.by d.scopes) ≡ o →
          P (home_beside every d o)
      by_parameter None e = taker-has d all
      by_parameter (Some s) e = by_any (list_any (is_parameter s d.name) every)
        where
          by_any : (b : Bool) → P (cond b s (taker d))
          by_any true = parameters-all (from_taker d.by d.scopes) (taker-all d.by d.scopes all) s e
          by_any false = taker-has d all

      by_way : (b : Bool) →
          P (cond b (home_beside every d (parameters_of (from_taker d.by d.scopes))) (taker d))
      by_way true = by_parameter (parameters_of (from_taker d.by d.scopes)) refl
      by_way false = taker-has d all

  -- what is denoted
  abbrev pub OfScope : Denoted → Type 0
  OfScope (Bound scope name) = P scope
  OfScope (Global x) = ⊤

  find-all : (p : Scope → Bool) (scopes : List Scope) → AllOf P scopes → (name : Name) →
      OfScope (bound_in name (find p scopes))
  find-all p [] all name = tt
  find-all p (scope ∷ outer) all name = by_test (p scope) (find-all p outer all.1 name)
    where
      by_test : (b : Bool) → OfScope (bound_in name (find p outer)) →
          OfScope (bound_in name (cond b (Some scope) (find p outer)))
      by_test true rest = all.0
      by_test false rest = rest

  context-all : (every : List Declared) (scopes : List Scope) → AllOf P scopes → (name : Name) →
      OfScope (denoted_by_context every scopes name)
  context-all every scopes all name =
      by_found (find (λ scope. is_written_in every scope name) scopes)
      (find-all (λ scope. is_written_in every scope name) scopes all name)
    where
      by_context : (b : Bool) →
          OfScope
          (cond b (Global name.sym)
          (bound_in (without_context name)
          (find (λ scope. is_implied_in every scope name) scopes)))
      by_context true = tt
      by_context false =
          find-all (λ scope. is_implied_in every scope name) scopes all (without_context name)

      by_found : (found : Option Scope) → OfScope (bound_in name found) →
          OfScope (written_or_implied every scopes name found)
      by_found None its = by_context (is_unresolved name.ctxt)
      by_found (Some scope) its = its

  read-all : (reading : Reading) (every : List Declared) (scopes : List Scope) → AllOf P scopes →
      (name : Name) → OfScope (denoted_in reading every scopes name)
  read-all BySymbol every scopes all name =
      find-all (λ scope. binds every scope name) scopes all name
  read-all ByContext every scopes all name = context-all every scopes all name

  pub denoted-of : (reading : Reading) (every : List Declared) (o : Occurrence) →
      AllOf P (scopes_around Es o.path) → OfScope (denoted_of reading Es every o)
  denoted-of reading every o all = by_role (is_binding o.role) (way_of o.path)
    where
      found : Denoted
      found = denoted_in reading every (scopes_around Es o.path) (name_of reading o.sym o.ctxt)

      by_role : (b : Bool) (way : Option Way) →
          OfScope
          (own_or_found every found
          (cond b
          (declared_by o.place (name_of reading o.sym o.ctxt)
          (scopes_around Es o.path) way) None))
      by_role true None =
          read-all reading every (scopes_around Es o.path) all (name_of reading o.sym o.ctxt)
      by_role true (Some way) =
          home-has every
          (record {
            place = o.place;
            name = name_of reading o.sym o.ctxt;
            by = way;
            scopes = scopes_around Es o.path;
          }) all
      by_role false way =
          read-all reading every (scopes_around Es o.path) all (name_of reading o.sym o.ctxt)

-- Scopes around the occurrences of whole nodes.

-- a scope of a node that begins at this place or behind it
abbrev pub IsScopeFrom : ℕ → Scope → Type 0
IsScopeFrom low (Inner kind begins) = low ≤ begins
IsScopeFrom low Top = ⊥
IsScopeFrom low Wrapper = ⊥

-- the scopes around an occurrence: those from a place on, and these outer ones
pub record HasScopes (low : ℕ) (outer : List Scope) (o : Occurrence) : Type 0 where
  pub inner : List Scope
  pub is : scopes_around Es o.path ≡ inner ++ outer
  pub all : AllOf (IsScopeFrom low) inner

-- a path of nodes from a place on, and these outer ones
pub record IsWithin (low : ℕ) (outer : List Around) (s : Spot) : Type 0 where
  pub inner : List Around
  pub field : ℕ
  pub path_is : s.path ≡ inner ++ in_field field outer
  pub all : AllOf (λ (node : Around). low ≤ node.begins) inner
  pub above : low ≤ s.place

module _ (low : ℕ) (outer : List Around) (scopes : List Scope)
    (same : (field : ℕ) → scopes_around Es (in_field field outer) ≡ scopes) where
  kind-all : (begins : ℕ) → low ≤ begins → (kind : Option ScopeKind) →
      AllOf (IsScopeFrom low) (scope_at begins kind)
  kind-all begins le None = tt
  kind-all begins le (Some kind) = (le, tt)

  around-all : (inner : List Around) (field : ℕ) →
      AllOf (λ (node : Around). low ≤ node.begins) inner →
      (its : List Scope)
      × (scopes_around Es (inner ++ in_field field outer) ≡ its ++ scopes)
      × AllOf (IsScopeFrom low) its
  around-all [] field all = ([], same field, tt)
  around-all (node ∷ inner) field all =
      let rest = around-all inner field all.1 in
      let first : List Scope =
      scope_at node.begins
      (kind_of_scope node.head node.field (inner ++ in_field field outer)) in (
        first ++ rest.0,
        ap (λ l. first ++ l) rest.1 ∙ sym (append_assoc first rest.0 scopes),
        all-append (IsScopeFrom low) first rest.0
            (kind-all node.begins all.0
            (kind_of_scope node.head node.field (inner ++ in_field field outer))) rest.2,
      )

  -- one more field
  field-within : (field : ℕ) (path : List Around) (inner : List Around) (its : ℕ) →
      path ≡ inner ++ in_field its outer → AllOf (λ (node : Around). low ≤ node.begins) inner →
      (more : List Around)
      × (k : ℕ)
      × (in_field field path ≡ more ++ in_field k outer)
      × AllOf (λ (node : Around). low ≤ node.begins) more
  field-within field path [] its e all =
      ([], field, ap (in_field field) e ∙ field-twice field its outer, tt)
  field-within field path (node ∷ inner) its e all =
      (record node { field = field } ∷ inner, its, ap (in_field field) e, (all.0, all.1))

  name-scopes : (s : Spot) (field : ℕ) → IsWithin low outer s →
      (its : List Scope)
      × (scopes_around Es (in_field field s.path) ≡ its ++ scopes)
      × AllOf (IsScopeFrom low) its
  name-scopes s field within =
      let one = field-within field s.path within.inner within.field within.path_is within.all in
      let two = around-all one.0 one.1 one.3 in
      (two.0, ap (scopes_around Es) one.2 ∙ two.1, two.2)

  pub part-scopes : {xs : List Item} → AreNodesInTurn xs → (s : Spot) → IsWithin low outer s →
      AllOf (HasScopes low scopes) (occurrences_from s xs)
  part-scopes Nodes.nothing s within = tt
  part-scopes (Nodes.name {field = field} {ctxt = c} {sym = x} {role = role} {rest = rest} more) s within = by_role role (part-scopes more (past s (h.Ident field x c role)) (record { inner = within.inner; field = within.field; path_is = within.path_is; all = within.all; above = let le = within.above in omega (arith, le) }))
    where
      own : (role : Role) →
          HasScopes low scopes
          (record {
            place = s.place;
            sym = x;
            ctxt = c;
            role = role;
            path = in_field field s.path;
          })
      own role =
          let its = name-scopes s field within in record { inner = its.0; is = its.1; all = its.2 }

      by_role : (role : Role) →
          AllOf (HasScopes low scopes) (occurrences_from (past s (h.Ident field x c role)) rest) →
          AllOf (HasScopes low scopes) (occurrences_from s (h.Ident field x c role ∷ rest))
      by_role r.Word all = all
      by_role r.Binding all = (own r.Binding, all)
      by_role r.Reference all = (own r.Reference, all)
  part-scopes (Nodes.hole {field = field} more) s within =
      part-scopes more (past s (h.Hole field))
      (record {
        inner = within.inner;
        field = within.field;
        path_is = within.path_is;
        all = within.all;
        above = let le = within.above in omega (arith, le);
      })
  part-scopes (Nodes.node {field = field} {head = head} {inside = inside} {rest = rest} in_it more)
      s within =
      let le = within.above in
      let one = field-within field s.path within.inner within.field within.path_is within.all in
      let inner_all =
      part-scopes in_it (past s (h.Open field head))
      (record {
        inner = record { head = head; begins = s.place; field = 0 } ∷ one.0;
        field = one.1;
        path_is =
            ap (λ l. record { head = head; begins = s.place; field = 0 } ∷ l) one.2;
        all = (le, one.3);
        above = omega (arith, le);
      }) in
      let behind = place-behind inside s field head in
      let rest_all =
      part-scopes more (spot-behind s field head inside)
      (record {
        inner = one.0;
        field = one.1;
        path_is = path-behind in_it s field head ∙ one.2;
        all = one.3;
        above = omega (arith, le, behind);
      }) in
      subst (AllOf (HasScopes low scopes))
      (sym (occurrences_append (past s (h.Open field head)) inside (h.Close ∷ rest)))
      (all-append (HasScopes low scopes) (occurrences_from (past s (h.Open field head)) inside)
      (occurrences_from (spot-behind s field head inside) rest) inner_all rest_all)

-- ---- list facts

-- what is so of the element at each place is so of all
pub all-in : {A : Type 0} (P : A → Type 0) (xs : List A) →
    ((i : ℕ) (x : A) → slice_get xs i ≡ Some x → P x) → AllOf P xs
all-in P [] f = tt
all-in P (x ∷ xs) f = (f zero x refl, all-in P xs (λ i y at. f (suc i) y at))

-- an element of a list as long
pub as-long : {A B : Type 0} (xs : List A) (ys : List B) (i : ℕ) (x : A) → length xs ≡ length ys →
    slice_get xs i ≡ Some x → (y : B) × (slice_get ys i ≡ Some y)
as-long [] ys i x same e = absurd (none-some x e)
as-long (a ∷ xs) [] i x same e = absurd (omega (arith, same))
as-long (a ∷ xs) (b ∷ ys) zero x same e = (b, refl)
as-long (a ∷ xs) (b ∷ ys) (suc i) x same e = as-long xs ys i x (omega (arith, same)) e

-- one more element of each, where both pass
pub pick : {A B : Type 0} (R : A → B → Type 0) (b c : Bool) (x : A) (y : B) (xs : List A)
    (ys : List B) → b ≡ c → (b ≡ true → R x y) → AllZip R xs ys →
    AllZip R (cond b (x ∷ xs) xs) (cond c (y ∷ ys) ys)
pick R true true x y xs ys same its all = (its refl, all)
pick R false false x y xs ys same its all = all
pick R true false x y xs ys same its all = cc
pick R false true x y xs ys same its all = cc

-- ---- aligned

-- Lists.
same-parts : {A : Type 0} (xs ys others more : List A) → xs ++ ys ≡ others ++ more →
    length xs ≡ length others → (xs ≡ others) × (ys ≡ more)
same-parts [] ys [] more e same = (refl, e)
same-parts [] ys (o ∷ others) more e same = absurd (omega (arith, same))
same-parts (x ∷ xs) ys [] more e same = absurd (omega (arith, same))
same-parts (x ∷ xs) ys (o ∷ others) more e same =
    let first : x ≡ o = cc in
    let later : xs ++ ys ≡ others ++ more = cc in
    let rest = same-parts xs ys others more later (omega (arith, same)) in
    (ap₂ (λ y l. y ∷ l) first rest.0, rest.1)

pub zip-parts : {A B : Type 0} (R : A → B → Type 0) (xs ys : List A) (others more : List B) →
    length xs ≡ length others → AllZip R (xs ++ ys) (others ++ more) →
    AllZip R xs others × AllZip R ys more
zip-parts R [] ys [] more same all = (tt, all)
zip-parts R [] ys (o ∷ others) more same all = absurd (omega (arith, same))
zip-parts R (x ∷ xs) ys [] more same all = absurd (omega (arith, same))
zip-parts R (x ∷ xs) ys (o ∷ others) more same all =
    let rest = zip-parts R xs ys others more (omega (arith, same)) all.1 in
    ((all.0, rest.0), rest.1)

-- no name of these scopes is inside
abbrev pub AreOutside : ℕ → List Scope → Type 0
AreOutside low scopes =
    AllOf (λ scope. (name : Name) → is_inside low (Bound scope name) ≡ false) scopes

scope-inside : (low : ℕ) (scope : Scope) → IsScopeFrom low scope → (name : Name) →
    is_inside low (Bound scope name) ≡ true
scope-inside low (Inner kind begins) le name = le-leb low begins le
scope-inside low Top le name = absurd le
scope-inside low Wrapper le name = absurd le

outside-from : (low place : ℕ) → low ≤ place → (scope : Scope) → IsScopeBelow low scope →
    (name : Name) → is_inside place (Bound scope name) ≡ false
outside-from low place le (Inner kind begins) less name = by_test (nat_le place begins) refl
  where
    by_test : (c : Bool) → nat_le place begins ≡ c → c ≡ false
    by_test false e = refl
    by_test true e = let l = leb-true place begins e in absurd (omega (arith, l, le, less))
outside-from low place le Top less name = refl
outside-from low place le Wrapper less name = refl

pub all-outside : (low place : ℕ) → low ≤ place → (scopes : List Scope) →
    AllOf (IsScopeBelow low) scopes → AreOutside place scopes
all-outside low place le [] all = tt
all-outside low place le (scope ∷ scopes) all =
    (outside-from low place le scope all.0, all-outside low place le scopes all.1)

-- names and occurrences are as many
pub names-count : (xs : List Item) (s : Spot) →
    length (occurrences_from s xs) ≡ length (idents_among xs)
names-count [] s = refl
names-count (h.Open field head ∷ xs) s = names-count xs (past s (h.Open field head))
names-count (h.Ident field x c r.Word ∷ xs) s = names-count xs (past s (h.Ident field x c r.Word))
names-count (h.Ident field x c r.Binding ∷ xs) s =
    ap suc (names-count xs (past s (h.Ident field x c r.Binding)))
names-count (h.Ident field x c r.Reference ∷ xs) s =
    ap suc (names-count xs (past s (h.Ident field x c r.Reference)))
names-count (h.Hole field ∷ xs) s = names-count xs (past s (h.Hole field))
names-count (h.Close ∷ xs) s = names-count xs (past s h.Close)

pub names-append : (xs ys : List Item) →
    length (idents_among (xs ++ ys)) ≡ length (idents_among xs) + length (idents_among ys)
names-append [] ys = omega arith
names-append (h.Open field head ∷ xs) ys = names-append xs ys
names-append (h.Ident field x c r.Word ∷ xs) ys = names-append xs ys
names-append (h.Ident field x c r.Binding ∷ xs) ys =
    let rest = names-append xs ys in omega (arith, rest)
names-append (h.Ident field x c r.Reference ∷ xs) ys =
    let rest = names-append xs ys in omega (arith, rest)
names-append (h.Hole field ∷ xs) ys = names-append xs ys
names-append (h.Close ∷ xs) ys = names-append xs ys

pub flat-names : (parts others : List (List Item)) → AllZip PartTurned parts others →
    length (idents_among (flat parts)) ≡ length (idents_among (flat others))
flat-names [] [] turned = refl
flat-names [] (other ∷ others) turned = absurd turned
flat-names (part ∷ parts) [] turned = absurd turned
flat-names (part ∷ parts) (other ∷ others) turned =
    let one : PartTurned part other = turned.0 in
    let rest = flat-names parts others turned.1 in
    let first = one.names in
    let a = names-append part (flat parts) in
    let c = names-append other (flat others) in
    omega (arith, rest, first, a, c)

-- in a module
pub module-scopes : (path : List Around) (field : ℕ) → path ≡ in_field field module_path →
    scopes_around Es path ≡ Top ∷ []
module-scopes path field e = ap (scopes_around Es) e

pub field-scopes : (path : List Around) (field f : ℕ) → path ≡ in_field field module_path →
    scopes_around Es (in_field f path) ≡ Top ∷ []
field-scopes path field f e = ap (λ p. scopes_around Es (in_field f p)) e

pub module-match : (s t : Spot) (field its : ℕ) → s.path ≡ in_field field module_path →
    t.path ≡ in_field its module_path → SpotsMatch s t
module-match s t field its path_is its_is = record {
  same = λ f. field-scopes s.path field f path_is ∙ sym (module-scopes s.path field path_is);
  its_same = λ f. field-scopes t.path its f its_is ∙ sym (module-scopes t.path its its_is);
  size = ap length (module-scopes s.path field path_is ∙ sym (module-scopes t.path its its_is));
  below = subst (AllOf (IsScopeBelow s.place)) (sym (module-scopes s.path field path_is)) (tt, tt);
  its_below = subst (AllOf (IsScopeBelow t.place)) (sym (module-scopes t.path its its_is)) (tt, tt);
}

module _ (reading other : Reading) (items others : List (List Item))
    (b : Becoming reading (joined_items items) other (joined_items others)) (labels : Labelling) where
  abbrev here : View
  here = view_of reading items

  abbrev there : View
  there = view_of other others

  abbrev its_labels : Labelling
  its_labels = labels_of b.becomes labels

  -- what an occurrence denotes corresponds to what one of the tree before denotes
  pub record Corresponds (o p : Occurrence) : Type 0 where
    pub scopes : StandsInMoved b.move o p
    pub is : denoted_here there p ≡ b.becomes (denoted_here here o)
    pub denoted : Contains (denotations reading Es (joined_items items)) (denoted_here here o)

  -- Inside.

  -- inside in the one and in the other
  abbrev Aligned : ℕ → ℕ → Scope → Type 0
  Aligned low high scope =
      (name its : Name) → is_inside low (Bound scope name) ≡ is_inside high
      (Bound (placed_scope b.move scope) its)

  inner-aligned : (low high : ℕ) (scopes : List Scope) → AllOf (IsScopeFrom low) scopes →
      AllOf (IsScopeFrom high) (map (placed_scope b.move) scopes) → AllOf (Aligned low high) scopes
  inner-aligned low high [] all its = tt
  inner-aligned low high (scope ∷ scopes) all its = (
    λ name other. scope-inside low scope all.0 name
        ∙ sym (scope-inside high (placed_scope b.move scope) its.0 other),
    inner-aligned low high scopes all.1 its.1,
  )

  outer-aligned : (low high : ℕ) (scopes : List Scope) → AreOutside low scopes →
      AreOutside high (map (placed_scope b.move) scopes) → AllOf (Aligned low high) scopes
  outer-aligned low high [] all its = tt
  outer-aligned low high (scope ∷ scopes) all its =
      (λ name other. all.0 name ∙ sym (its.0 other), outer-aligned low high scopes all.1 its.1)

  abbrev IsAligned : ℕ → ℕ → Denoted → Type 0
  IsAligned low high d = is_inside low d ≡ is_inside high (b.becomes d)

  of-aligned : (low high : ℕ) (d : Denoted) → OfScope (Aligned low high) (λ name its. refl) d →
      IsAligned low high d
  of-aligned low high (Global x) its = ap (is_inside high) (sym (b.globals x))
  of-aligned low high (Bound scope name) its =
      let bound = b.bindings scope name in its name bound.0 ∙ ap (is_inside high) (sym bound.1)

  pub aligned : (low high : ℕ) (outer its : List Scope) → length outer ≡ length its →
      AreOutside low outer → AreOutside high its → (o p : Occurrence) → HasScopes low outer o →
      HasScopes high its p → StandsInMoved b.move o p → IsAligned low high (denoted_here here o)
  aligned low high outer its same out its_out o p one two stands =
      let whole : map (placed_scope b.move) one.inner ++ map (placed_scope b.move) outer ≡ two.inner
      ++ its =
      sym (map-append (placed_scope b.move) one.inner outer)
      ∙ ap (map (placed_scope b.move)) (sym one.is)
      ∙ sym stands
      ∙ two.is in
      let lengths = ap length whole in
      let first =
      length-append (map (placed_scope b.move) one.inner) (map (placed_scope b.move) outer) in
      let second = length-append two.inner its in
      let mapped = length-map outer (placed_scope b.move) in
      let parts =
      same-parts (map (placed_scope b.move) one.inner) (map (placed_scope b.move) outer)
      two.inner its whole (omega (arith, lengths, first, second, mapped, same)) in
      of-aligned low high (denoted_here here o)
      (denoted-of (Aligned low high) (λ name other. refl) reading (declared reading Es (joined_items items)) o
      (subst (AllOf (Aligned low high)) (sym one.is) (all-append (Aligned low high) one.inner outer
      (inner-aligned low high one.inner one.all
      (subst (AllOf (IsScopeFrom high)) (sym parts.0) two.all))
      (outer-aligned low high outer out (subst (AreOutside high) (sym parts.1) its_out)))))

  -- parts, by their names
  split : (s t : Spot) (xs ys others more : List Item) →
      length (idents_among xs) ≡ length (idents_among others) →
      AllZip Corresponds (occurrences_from s (xs ++ ys)) (occurrences_from t (others ++ more)) →
      AllZip Corresponds (occurrences_from s xs) (occurrences_from t others)
      × AllZip Corresponds (occurrences_from (fold past s xs) ys)
      (occurrences_from (fold past t others) more)
  split s t xs ys others more same all =
      zip-parts Corresponds (occurrences_from s xs) (occurrences_from (fold past s xs) ys)
      (occurrences_from t others) (occurrences_from (fold past t others) more)
      (names-count xs s ∙ same ∙ sym (names-count others t))
      (subst (λ os. AllZip Corresponds os (occurrences_from t others ++ occurrences_from (fold past t others) more)) (occurrences_append s xs ys)
      (subst (AllZip Corresponds (occurrences_from s (xs ++ ys))) (occurrences_append t others more) all))

  -- Statements.

  abbrev pub Turns : Denoted → Denoted → Type 0
  Turns d e = Contains (denotations reading Es (joined_items items)) d × (e ≡ b.becomes d)

  pub turns-one : AreDenotedOneToOne Turns
  turns-one x y d e one two = b.same x y one.0 two.0 ∙ ap₂ same_denoted (sym one.1) (sym two.1)

  label-turns : (l : Label) (d : Denoted) → Contains labels (d, l) →
      Contains its_labels (b.becomes d, l)
  label-turns l d c = by_list labels c
    where
      by_list : (list : Labelling) → Contains list (d, l) →
          Contains (labels_of b.becomes list) (b.becomes d, l)
      by_list [] c = absurd (omega (arith, c.1))
      by_list (pair ∷ rest) c = by_case (by_list rest) ((Contains-cons pair rest (d, l)).0 c)
        where
          by_case : (Contains rest (d, l) → Contains (labels_of b.becomes rest) (b.becomes d, l)) →
              (◌≡◌ {A = Denoted × Label} pair (d, l)) ⊎ Contains rest (d, l) →
              Contains (labels_of b.becomes (pair ∷ rest)) (b.becomes d, l)
          by_case ih (inl e) =
              (Contains-cons (b.becomes pair.0, pair.1) (labels_of b.becomes rest) (b.becomes d, l)).1
              (inl (λ i. (b.becomes (e i).0, (e i).1)))
          by_case ih (inr more) =
              (Contains-cons (b.becomes pair.0, pair.1) (labels_of b.becomes rest) (b.becomes d, l)).1
              (inr (ih more))

  bound-turns : (l : Label) (d e : Denoted) → e ≡ b.becomes d → IsBoundAs labels l d →
      IsBoundAs its_labels l e
  bound-turns l d e is its =
      let bound = b.bindings its.scope its.name in
      let same : b.becomes d ≡ Bound (placed_scope b.move its.scope) bound.0 =
      ap b.becomes its.is ∙ bound.1 in
      record {
        scope = placed_scope b.move its.scope;
        name = bound.0;
        is = is ∙ same;
        labelled =
            subst (λ x. Contains its_labels (x, l)) bound.1
            (label-turns l (Bound its.scope its.name) its.labelled);
      }

  module _ (low high : ℕ) (ds es : List Denoted) (all : AllZip (Renews Turns low high) ds es) where
    abbrev inner : List Denoted
    inner = each_denoted_once (filter (is_inside low) ds)

    abbrev its_inner : List Denoted
    its_inner = each_denoted_once (filter (is_inside high) es)

    same_number : (d e : Denoted) → Renews Turns low high d e →
        position (same_denoted d) inner ≡ position (same_denoted e) its_inner
    same_number d e its =
        numbers_agree (Renews Turns low high) (λ x y v w one two. turns-one x y v w one.0 two.0)
        (filter (is_inside low) ds) (filter (is_inside high) es)
        (both_filtered (Renews Turns low high) (is_inside low) (is_inside high)
        (λ x y one. one.1) ds es all) d e its

    one_turns : (d e : Denoted) (meant : Meant) → Renews Turns low high d e →
        AgreesWith labels inner low d meant → AgreesWith its_labels its_inner high e meant
    one_turns d e (Inside k) its agree = sym (same_number d e its) ∙ agree
    one_turns d e (Known l) its agree = (sym its.1 ∙ agree.0, bound-turns l d e its.0.1 agree.1)
    one_turns d e (Unbound x) its agree = its.0.1 ∙ ap b.becomes agree ∙ b.globals x

    all_turn : (xs ys : List Denoted) (meants : List Meant) → AllZip (Renews Turns low high) xs ys →
        AllZip (AgreesWith labels inner low) xs meants →
        AllZip (AgreesWith its_labels its_inner high) ys meants
    all_turn [] [] [] its agree = tt
    all_turn [] [] (meant ∷ meants) its agree = absurd agree
    all_turn [] (y ∷ ys) meants its agree = absurd its
    all_turn (x ∷ xs) [] meants its agree = absurd its
    all_turn (x ∷ xs) (y ∷ ys) [] its agree = absurd agree
    all_turn (x ∷ xs) (y ∷ ys) (meant ∷ meants) its agree =
        (one_turns x y meant its.0 agree.0, all_turn xs ys meants its.1 agree.1)

  pub renews : (low high : ℕ) (outer its : List Scope) → length outer ≡ length its →
      AreOutside low outer → AreOutside high its → (os ps : List Occurrence) →
      AllOf (HasScopes low outer) os → AllOf (HasScopes high its) ps → AllZip Corresponds os ps →
      AllZip (Renews Turns low high) (map (denoted_here here) os) (map (denoted_here there) ps)
  renews low high outer its same out its_out [] [] one two all = tt
  renews low high outer its same out its_out [] (p ∷ ps) one two all = absurd all
  renews low high outer its same out its_out (o ∷ os) [] one two all = absurd all
  renews low high outer its same out its_out (o ∷ os) (p ∷ ps) one two all = (
    (
      (all.0.denoted, all.0.is),
      aligned low high outer its same out its_out o p one.0 two.0 all.0.scopes
          ∙ ap (is_inside high) (sym all.0.is),
    ),
    renews low high outer its same out its_out os ps one.1 two.1 all.1,
  )

  -- a statement agrees after it as before
  pub statement_turns : (base its_base s t : Spot) → SpotsMatch base its_base →
      (field its_field : ℕ) → s.path ≡ in_field field base.path →
      t.path ≡ in_field its_field its_base.path → base.place ≤ s.place → its_base.place ≤ t.place →
      (part renamed : List Item) → PartTurned part renamed →
      AllZip Corresponds (occurrences_from s part) (occurrences_from t renamed) → (told : ItemMeaning) →
      MeantInTurn labels s.place (denoted_from here s part) told.0 →
      MeantInTurn its_labels t.place (denoted_from there t renamed) told.0
  statement_turns base its_base s t match field its_field path_is its_is low high part renamed
      turned all told agree =
      let outer : List Scope = scopes_around Es base.path in
      let its : List Scope = scopes_around Es its_base.path in
      let os =
      part-scopes s.place base.path outer match.same turned.nodes s
      (record {
        inner = [];
        field = field;
        path_is = path_is;
        all = tt;
        above = omega arith;
      }) in
      let ps =
      part-scopes t.place its_base.path its match.its_same turned.its_nodes t
      (record {
        inner = [];
        field = its_field;
        path_is = its_is;
        all = tt;
        above = omega arith;
      }) in
      let zip =
      renews s.place t.place outer its match.size
      (all-outside base.place s.place low outer match.below)
      (all-outside its_base.place t.place high its match.its_below)
      (occurrences_from s part) (occurrences_from t renamed) os ps all in
      all_turn s.place t.place (denoted_from here s part) (denoted_from there t renamed) zip
      (denoted_from here s part) (denoted_from there t renamed) told.0 zip agree

  -- so do statements, one after another
  pub statements_turn : (base its_base s t : Spot) → SpotsMatch base its_base →
      (field its_field : ℕ) → s.path ≡ in_field field base.path →
      t.path ≡ in_field its_field its_base.path → base.place ≤ s.place → its_base.place ≤ t.place →
      (parts others : List (List Item)) → AllZip PartTurned parts others →
      AllZip Corresponds (occurrences_from s (flat parts)) (occurrences_from t (flat others)) →
      (tolds : List ItemMeaning) → StatementsAgree here labels s parts tolds →
      StatementsAgree there its_labels t others tolds
  statements_turn base its_base s t match field its_field path_is its_is low high [] [] turned all [] agree = tt
  statements_turn base its_base s t match field its_field path_is its_is low high [] [] turned all (told ∷ tolds) agree = absurd agree
  statements_turn base its_base s t match field its_field path_is its_is low high [] (other ∷ others) turned all tolds agree = absurd turned
  statements_turn base its_base s t match field its_field path_is its_is low high (part ∷ parts) [] turned all tolds agree = absurd turned
  statements_turn base its_base s t match field its_field path_is its_is low high (part ∷ parts) (other ∷ others) turned all [] agree = absurd agree
  statements_turn base its_base s t match field its_field path_is its_is low high (part ∷ parts)
      (other ∷ others) turned all (told ∷ tolds) agree =
      let one : PartTurned part other = turned.0 in
      let both = split s t part (flat parts) other (flat others) one.names all in
      let behind = fold-path one.nodes s in
      let its_behind = fold-path one.its_nodes t in
      let place = fold-place s part in
      let its_place = fold-place t other in (
        statement_turns base its_base s t match field its_field path_is its_is low high part other
            one both.0 told agree.0,
        statements_turn base its_base (fold past s part) (fold past t other) match behind.0
            its_behind.0
            (behind.1 ∙ ap (in_field behind.0) path_is ∙ field-twice behind.0 field base.path)
            (its_behind.1
            ∙ ap (in_field its_behind.0) its_is
            ∙ field-twice its_behind.0 its_field its_base.path) (omega (arith, low, place))
            (omega (arith, high, its_place)) parts others turned.1 both.1 tolds agree.1,
      )

  -- names in front
  fronts_turn : (os ps : List Occurrence) → AllZip Corresponds os ps → (names : List Label) →
      AllZip (StandsForLabel labels) (map (denoted_here here) os) names →
      AllZip (StandsForLabel its_labels) (map (denoted_here there) ps) names
  fronts_turn [] [] all [] agree = tt
  fronts_turn [] [] all (l ∷ names) agree = absurd agree
  fronts_turn [] (p ∷ ps) all names agree = absurd all
  fronts_turn (o ∷ os) [] all names agree = absurd all
  fronts_turn (o ∷ os) (p ∷ ps) all [] agree = absurd agree
  fronts_turn (o ∷ os) (p ∷ ps) all (l ∷ names) agree = (
    bound-turns l (denoted_here here o) (denoted_here there p) all.0.is agree.0,
    fronts_turn os ps all.1 names agree.1,
  )

  -- an item
  item_turns : (s t : Spot) (field its_field : ℕ) → s.path ≡ in_field field module_path →
      t.path ≡ in_field its_field module_path → {item renamed : List Item} {one other : NotedItem} →
      ItemTurned item one renamed other →
      AllZip Corresponds (occurrences_from s item) (occurrences_from t renamed) →
      ItemAgrees here labels s item one → ItemAgrees there its_labels t renamed other
  item_turns s t field its_field path_is its_is {item = item} {renamed = renamed}
      (whole_turned {told = told} turned) all agree =
      let own = same_field s.path in
      let its = same_field t.path in
      statement_turns s t s t (module-match s t field its_field path_is its_is) own.0 its.0 own.1
      its.1 (omega arith) (omega arith) item renamed turned all told agree
  item_turns s t field its_field path_is its_is {item = item} {renamed = renamed}
      (function_turned {front = front} {its_front = its_front} {names = names} {insides = insides}
      {its = its} {tolds = tolds} back its_back turned is its_made fronts parts) all agree =
      let made =
      subst
      (λ (l : List Item). AllZip Corresponds
      (occurrences_from s (front ++ (flat insides ++ back))) (occurrences_from t l))
      its_made
      (subst
      (λ (l : List Item). AllZip Corresponds (occurrences_from s l)
      (occurrences_from t renamed)) is all) in
      let one =
      split s t front (flat insides ++ back) its_front (flat its ++ its_back) fronts.names
      made in
      let two =
      split (fold past s front) (fold past t its_front) (flat insides) back (flat its) its_back
      (flat-names insides its parts) one.1 in
      let own = same_field (fold past s front).path in
      let other = same_field (fold past t its_front).path in (
        fronts_turn (occurrences_from s front) (occurrences_from t its_front) one.0 names agree.0,
        statements_turn (fold past s front) (fold past t its_front) (fold past s front)
            (fold past t its_front) (fronts.spots s t field its_field path_is its_is) own.0 other.0
            own.1 other.1 (omega arith) (omega arith) insides its parts two.0 tolds agree.1,
      )

  pub turned-nodes : {item renamed : List Item} {one other : NotedItem} →
      ItemTurned item one renamed other → PartTurned item renamed
  turned-nodes (whole_turned turned) = turned
  turned-nodes (function_turned back its_back turned is its_made fronts parts) = turned

  -- all items
  items_turn : (s t : Spot) (field its_field : ℕ) → s.path ≡ in_field field module_path →
      t.path ≡ in_field its_field module_path →
      (parts : List (List Item)) (noted : List NotedItem) (renamed : List (List Item))
      (its : List NotedItem) → ItemsTurned parts noted renamed its →
      AllZip Corresponds (occurrences_from s (flat parts)) (occurrences_from t (flat renamed)) →
      ItemsAgree here labels s parts noted → ItemsAgree there its_labels t renamed its
  items_turn s t field its_field path_is its_is [] [] [] [] turned all agree = tt
  items_turn s t field its_field path_is its_is [] [] [] (other ∷ its) turned all agree =
      absurd turned
  items_turn s t field its_field path_is its_is [] [] (item ∷ renamed) its turned all agree =
      absurd turned
  items_turn s t field its_field path_is its_is [] (one ∷ noted) renamed its turned all agree =
      absurd turned
  items_turn s t field its_field path_is its_is (part ∷ parts) [] renamed its turned all agree =
      absurd turned
  items_turn s t field its_field path_is its_is (part ∷ parts) (one ∷ noted) [] its turned all agree = absurd turned
  items_turn s t field its_field path_is its_is (part ∷ parts) (one ∷ noted) (item ∷ renamed) [] turned all agree = absurd turned
  items_turn s t field its_field path_is its_is (part ∷ parts) (one ∷ noted) (item ∷ renamed)
      (other ∷ its) turned all agree =
      let nodes : PartTurned part item = turned-nodes turned.0 in
      let both = split s t part (flat parts) item (flat renamed) nodes.names all in
      let behind = fold-path nodes.nodes s in
      let its_behind = fold-path nodes.its_nodes t in (
        item_turns s t field its_field path_is its_is turned.0 both.0 agree.0,
        items_turn (fold past s part) (fold past t item) behind.0 its_behind.0
            (behind.1 ∙ ap (in_field behind.0) path_is ∙ field-twice behind.0 field module_path)
            (its_behind.1
            ∙ ap (in_field its_behind.0) its_is
            ∙ field-twice its_behind.0 its_field module_path) parts noted renamed its turned.1
            both.1 agree.1,
      )

  -- what all occurrences denote
  each-corresponds : (os ps : List Occurrence) → AllZip (StandsInMoved b.move) os ps →
      map (denoted_here there) ps ≡ map b.becomes (map (denoted_here here) os) →
      ((o : Occurrence) → Contains os o → Contains (denotations reading Es (joined_items items))
      (denoted_here here o)) → AllZip Corresponds os ps
  each-corresponds [] [] stands are in_it = tt
  each-corresponds [] (p ∷ ps) stands are in_it = absurd stands
  each-corresponds (o ∷ os) [] stands are in_it = absurd stands
  each-corresponds (o ∷ os) (p ∷ ps) stands are in_it =
      let first : denoted_here there p ≡ b.becomes (denoted_here here o) = cc in
      let later : map (denoted_here there) ps ≡ map b.becomes (map (denoted_here here) os) = cc in (
        record {
          scopes = stands.0;
          is = first;
          denoted = in_it o ((Contains-cons o os o).1 (inl refl));
        },
        each-corresponds os ps stands.1 later
            (λ x c. in_it x ((Contains-cons o os x).1 (inr c))),
      )

  -- a bundle: where names change and denote what corresponds, they agree with what is told of them
  pub bundle_turns : (noted its : List NotedItem) → ItemsTurned items noted others its →
      BundleAgrees reading labels items noted → BundleAgrees other its_labels others its
  bundle_turns noted its turned agree =
      items_turn first_spot first_spot 0 0 refl refl items noted others its turned
      (subst (λ os. AllZip Corresponds os (occurrences_from first_spot (flat others))) (item-occurrences (flat items))
      (subst (AllZip Corresponds (occurrences (joined_items items))) (item-occurrences (flat others))
      (each-corresponds (occurrences (joined_items items)) (occurrences (joined_items others)) b.stands b.are (λ o c. contains-map (denoted_here here) (occurrences (joined_items items)) o c))))
      agree
