-- Nodes around a place.
-- Elements of lists.
-- Chains of reads: what an expression reads as is what the name in it stands for, read on by the words around it.
-- What a name of the top stands for.
-- Reads of namespaces, one after the other.
use Rattle.std.proofs.Common.{◌≡◌, ℕ, zero, suc, ◌<◌, Bool, true, false, List, [], ◌∷◌, Option, Some, None, take, drop, refl, sym, ap, ◌∙◌, subst, arith, inl, inr, ◌+◌, ◌≤◌, ◌==◌, ◌++◌, append_assoc, length-append, length, eqb-true, eq-eqb, not, ◌&&◌, cond, get_or, map}
use Rattle.std.specs.Prelude.{Contains, fold, slice_get, if◌then◌else◌, option_map, IsTrue, bytes_eq, find}
use Rattle.std.proofs.lemmas.Option.{none-some, same_Some}
use Rattle.std.proofs.lemmas.Bool.{false≢true}
use Rattle.std.specs.Option.{option_and_then}
use Rattle.std.proofs.lemmas.List.{drop-map, length-map, take-map}
use Rattle.bundle_syntax.specs.Item as in_item
use Rattle.bundle_syntax.specs.Item.{Item, Head}
use Rattle.bundle_syntax.specs.declared.piece.Role.{Role}
use Rattle.bundle_syntax.specs.declared.piece.Role.TheVariants.{Binding, Reference, Word as IsWord}
use Rattle.bundle_rules.specs.Places.{Around, Spot, in_field, outer_path, past, path_past, start, spot_before, path_to_option, path_at, Occurrence, occurrence_of, occurrence_at, is_binding}
use Rattle.bundle_rules.proofs.PlacesLemmas.{fold_past-take}
use Rattle.bundle_rules.specs.Nodes.{Text, child, begins_with, node_at, put_first, side_by_side, first_or_nothing}
use Rattle.bundle_rules.specs.Reads.{is_member, plain_word, property_of, read_word}
use Rattle.bundle_rules.specs.Scopes.{Es, Top, Scope, scopes_around}
use Rattle.bundle_rules.specs.Declarations.{BySymbol, Way, Name, Declared, declared, declared_by, declaration_of, way_of}
use Rattle.bundle_rules.specs.Denotes.{Bound, denoted_at, bound_in, own_or_found, denoted_of}
use Rattle.bundle_rules.specs.Program.{Program, tree_of, resolves, is_external}
use Rattle.bundle_rules.specs.Linking.{Target, Namespace, Linked, StandsFor, imports, IsCommonJs, IsModule, CommonJs, Takes, of_external, of_common_js, of_module, declared as is_declared, imported, taken_whole}
use Rattle.bundle_rules.specs.Meaning.{plain, ReadsAs, by_name, by_read}
use Rattle.bundle_rules.specs.Homes.{binds}
use Rattle.bundle_rules.specs.Statements.{TopItem, top_items}
use Rattle.bundle_rules.specs.Entries.{Taken, Named, ImportEntry, imports_by, imports_of_item, import_of, is_module_declaration, has_import_meta}
use Rattle.bundle_link_tables.proofs.CallLemmas.{fold_past-place as spots-place}
use Rattle.bundle_link_tables.specs.Used.{words_around, name_read, use_entry_of}
use Rattle.bundle_link_tables.specs.declared.table.MemberRead.{MemberRead}
use Rattle.bundle_link_tables.specs.declared.table.Use.{Use}
pub use Rattle.bundle_link_index.proofs.ProgramLemmas.{map_on as map-on}
use Rattle.bundle_link_index.proofs.ProgramLemmas.{later as later-there, any_there as any-there}
use Rattle.bundle_link_index.proofs.AskedLemmas.{none_there as none-there, flat_back as flat-back, found as found-there}
use Rattle.bundle_link_index.specs.Says.{target_of}
use Rattle.bundle_link_index.specs.declared.target.TargetRef.{TargetRef as Found}
use Rattle.bundle_link_targets.specs.Meant.{EndsReads, ReadsOn, done, on, Encloses, IsAtOrAround, IsModuleTree, IsShared, WordsMean}
use Rattle.bundle_link_targets.specs.Names.{IsLinkedTo}
use Rattle.bundle_link_targets.specs.declared.target.Meaning.{Meaning}
use Rattle.bundle_link_targets.specs.Found.{IsMeaning, IsReadTarget, MeansSome, reads_by}

-- ---- around
abbrev pub around : Head → ℕ → ℕ → Around
around head begins field = record { head = head; begins = begins; field = field }

-- ---- what follows the beginning of a node lies in it

seen : (node : Around) (outer : List Around) (o : Option Item) → (f : ℕ) × (path_to_option (node ∷ outer) o ≡ around node.head node.begins f ∷ outer)
seen node outer None = (node.field, refl)
seen node outer (Some (in_item.Open field head)) = (field, refl)
seen node outer (Some (in_item.Ident field symbol ctxt role)) = (field, refl)
seen node outer (Some (in_item.Hole field)) = (field, refl)
seen node outer (Some in_item.Close) = (node.field, refl)

pub path_at-inside : (tree : List Item) (q field : ℕ) (head : Head) → slice_get tree q ≡ Some (in_item.Open field head) → (f : ℕ) × (path_at tree (suc q) ≡ around head q f ∷ path_at tree q)
path_at-inside tree q field head e =
    let next : Option Item = slice_get tree (suc q) in
    let at = fold_past-take start tree q (in_item.Open field head) e in
    let place : (spot_before tree q).place ≡ q = let n = spots-place start tree q (in_item.Open field head) e in omega (arith, n) in
    let here : path_at tree q ≡ in_field field (spot_before tree q).path = ap (path_to_option (spot_before tree q).path) e in
    let its = seen (around head q 0) (path_at tree q) next in (
      its.0,
      ap (λ (s : Spot). path_to_option s.path next) at
          ∙ ap (λ b. path_to_option (around head b 0 ∷ in_field field (spot_before tree q).path) next) place
          ∙ ap (λ (l : List Around). path_to_option (around head q 0 ∷ l) next) (sym here)
          ∙ its.1,
    )

-- ---- nodes around a place begin before it
abbrev pub AreReal : List Item → ℕ → List Around → Type 0
AreReal tree k [] = Unit {0}
AreReal tree k (node ∷ outer) = (node.begins < k) × ((f : ℕ) × (slice_get tree node.begins ≡ Some (in_item.Open f node.head))) × AreReal tree k outer

real-more : (tree : List Item) (k : ℕ) (path : List Around) → AreReal tree k path → AreReal tree (suc k) path
real-more tree k [] are = tt
real-more tree k (node ∷ outer) are = (omega (arith, are.0), are.1, real-more tree k outer are.2)

real-field : (tree : List Item) (k field : ℕ) (path : List Around) → AreReal tree k path → AreReal tree k (in_field field path)
real-field tree k field [] are = tt
real-field tree k field (node ∷ outer) are = are

real-outer : (tree : List Item) (k : ℕ) (path : List Around) → AreReal tree k path → AreReal tree k (outer_path path)
real-outer tree k [] are = tt
real-outer tree k (node ∷ outer) are = are.2

pub take-none : (xs : List Item) (k : ℕ) → slice_get xs k ≡ None → take (suc k) xs ≡ take k xs
take-none [] zero e = refl
take-none [] (suc k) e = refl
take-none (x ∷ xs) zero e = absurd (none-some x (sym e))
take-none (x ∷ xs) (suc k) e = ap (λ l. x ∷ l) (take-none xs k e)

real-past : (tree : List Item) (k place : ℕ) (path : List Around) (item : Item) → place ≡ k → slice_get tree k ≡ Some item → AreReal tree k path → AreReal tree (suc k) (path_past place path item)
real-past tree k place path (in_item.Open field head) is e are = (omega (arith, is), (field, ap (slice_get tree) is ∙ e), real-field tree (suc k) field path (real-more tree k path are))
real-past tree k place path (in_item.Ident field symbol ctxt role) is e are = real-more tree k path are
real-past tree k place path (in_item.Hole field) is e are = real-more tree k path are
real-past tree k place path in_item.Close is e are = real-outer tree (suc k) path (real-more tree k path are)

pub real : (tree : List Item) (k : ℕ) → AreReal tree k (spot_before tree k).path
real tree zero = tt
real tree (suc k) = by (slice_get tree k) refl (real tree k)
  where
    by : (o : Option Item) → slice_get tree k ≡ o → AreReal tree k (spot_before tree k).path → AreReal tree (suc k) (spot_before tree (suc k)).path
    by None e are = subst (λ l. AreReal tree (suc k) (fold past start l).path) (sym (take-none tree k e)) (real-more tree k (spot_before tree k).path are)
    by (Some item) e are =
        let place : (spot_before tree k).place ≡ k = let n = spots-place start tree k item e in omega (arith, n) in
        subst (λ (s : Spot). AreReal tree (suc k) s.path) (sym (fold_past-take start tree k item e)) (real-past tree k (spot_before tree k).place (spot_before tree k).path item place e are)

real-seen : (tree : List Item) (k : ℕ) (path : List Around) (o : Option Item) → AreReal tree k path → AreReal tree k (path_to_option path o)
real-seen tree k path None are = are
real-seen tree k path (Some (in_item.Open field head)) are = real-field tree k field path are
real-seen tree k path (Some (in_item.Ident field symbol ctxt role)) are = real-field tree k field path are
real-seen tree k path (Some (in_item.Hole field)) are = real-field tree k field path are
real-seen tree k path (Some in_item.Close) are = are

-- a node around a place
abbrev pub IsBegun : List Item → ℕ → Around → Type 0
IsBegun tree k node = (node.begins < k) × ((f : ℕ) × (slice_get tree node.begins ≡ Some (in_item.Open f node.head)))

real-one : (tree : List Item) (k : ℕ) (path : List Around) (node : Around) → AreReal tree k path → Contains path node → IsBegun tree k node
real-one tree k [] node are (i, l, e) = absurd (omega arith)
real-one tree k (x ∷ outer) node are (zero, l, e) = subst (IsBegun tree k) e (are.0, are.1)
real-one tree k (x ∷ outer) node are (suc i, l, e) = real-one tree k outer node are.2 (i, omega arith, e)

pub node-begun : (tree : List Item) (k : ℕ) (node : Around) → Contains (path_at tree k) node → IsBegun tree k node
node-begun tree k node there = real-one tree k (path_at tree k) node (real-seen tree k (spot_before tree k).path (slice_get tree k) (real tree k)) there

-- ---- a read begins a node
pub first-put : (x : Item) (nodes : List (List Item)) → first_or_nothing (put_first x nodes) ≡ x ∷ first_or_nothing nodes
first-put x [] = refl
first-put x (node ∷ more) = refl

pub drop-first : (xs : List Item) (k : ℕ) (x : Item) (rest : List Item) → drop k xs ≡ x ∷ rest → slice_get xs k ≡ Some x
drop-first [] zero x rest e = cc
drop-first [] (suc k) x rest e = cc
drop-first (y ∷ ys) zero x rest e = let same : y ≡ x = cc in ap (λ z. Some z) same
drop-first (y ∷ ys) (suc k) x rest e = drop-first ys k x rest e

pub member-head : (head : Head) → is_member head ≡ true → head ≡ in_item.MemberExpr
member-head in_item.MemberExpr e = refl
member-head _ e = absurd (false≢true e)

pub member-first : (tree items : List Item) (k : ℕ) → drop k tree ≡ items → begins_with is_member (first_or_nothing (side_by_side zero items)) ≡ true → (f : ℕ) × (slice_get tree k ≡ Some (in_item.Open f in_item.MemberExpr))
member-first tree [] k at e = absurd (false≢true e)
member-first tree (in_item.Open field head ∷ rest) k at e =
    let is : is_member head ≡ true = sym (ap (begins_with is_member) (first-put (in_item.Open field head) (side_by_side (suc zero) rest))) ∙ e in
    (field, drop-first tree k (in_item.Open field head) rest at ∙ ap (λ x. Some (in_item.Open field x)) (member-head head is))
member-first tree (in_item.Ident field symbol ctxt role ∷ rest) k at e = absurd (false≢true e)
member-first tree (in_item.Hole field ∷ rest) k at e = absurd (false≢true e)
member-first tree (in_item.Close ∷ rest) k at e = absurd (false≢true e)

pub if-some : {A : Type 0} (b : Bool) (o : Option A) (x : A) → (if b then None else o) ≡ Some x → o ≡ Some x
if-some true o x e = absurd (none-some x e)
if-some false o x e = e

pub if-there : {A : Type 0} (b : Bool) (o : Option A) (x : A) → (if b then o else None) ≡ Some x → b ≡ true
if-there true o x e = refl
if-there false o x e = absurd (none-some x e)

pub read-opens : (tree : List Item) (q : ℕ) (x : Text) → read_word tree q ≡ Some x → (f : ℕ) × (slice_get tree q ≡ Some (in_item.Open f in_item.MemberExpr))
read-opens tree q x e =
    let property = if-some _ (property_of (node_at tree q)) x e in
    member-first tree (drop q tree) q refl (if-there (begins_with is_member (node_at tree q)) (plain_word (child 1 (node_at tree q))) x property)

-- ---- list
pub first-there : {A : Type 0} (x : A) (xs : List A) → Contains (x ∷ xs) x
first-there x xs = (0, omega arith, refl)

-- ---- chain

-- reads of these words in turn lead from one target to another
pub data Along (p : Program) : Target → List Text → Target → Type 0 where
  nothing : {t : Target} → Along p t [] t
  step : {d : ℕ} {x : Text} {words : List Text} {t u : Target} → Linked p d x t → Along p t words u → Along p (Namespace d) (x ∷ words) u

pub one-linked : {p : Program} {d : ℕ} {x : Text} {t u : Target} → Linked p d x t → Linked p d x u → t ≡ u
one-linked {t = t} a b = (b.only t a.origin a.given).0

pub along-more : {p : Program} {s u : Target} {words : List Text} → Along p s words u → (d : ℕ) (x : Text) (t : Target) → u ≡ Namespace d → Linked p d x t → Along p s (words ++ x ∷ []) t
along-more {p = p} nothing d x t e linked = subst (λ s. Along p s (x ∷ []) t) (sym e) (step linked nothing)
along-more (step first more) d x t e linked = step first (along-more more d x t e linked)

pub along-reads : {p : Program} {s u : Target} {words : List Text} → Along p s words u → (more : List Text) → EndsReads p u more → ReadsOn p s (words ++ more) (length words) u
along-reads nothing more is = done is
along-reads (step first rest) more is = on first (along-reads rest more is)

pub along-bound : {p : Program} {s u : Target} {words : List Text} → Along p s words u → {n : ℕ} {t : Target} (from : Target) (all more : List Text) → ReadsOn p from all n t → from ≡ s → all ≡ words ++ more → length words ≤ n
along-bound nothing from all more reads es ea = omega arith
along-bound (step {d = d} {x = x} {words = words} {t = t} linked rest) from all more (done is) es ea = absurd (is d x (words ++ more) t es ea linked)
along-bound {p = p} (step {d = d} {x = x} {words = words} {t = t} linked rest) from all more (on {d = k} {x = y} {words = ys} {t = s} first reads) es ea =
    let same_module : k ≡ d = cc in
    let same_name : y ≡ x = cc in
    let same_rest : ys ≡ words ++ more = cc in
    let same : s ≡ t = one-linked (subst (λ z. Linked p d z s) same_name (subst (λ z. Linked p z y s) same_module first)) linked in
    let its = along-bound rest s ys more reads same same_rest in
    omega (arith, its)

-- ---- words around a place
pub words-read : (tree : List Item) (q f : ℕ) (head : Head) (outer : List Around) (x : Text) → read_word tree q ≡ Some x → words_around tree (suc q) (around head q f ∷ outer) ≡ x ∷ words_around tree q outer
words-read tree q f head outer x e =
    ap (λ b. if b then (elim (read_word tree q) [ None ↦ [] | Some y ↦ y ∷ words_around tree q outer ]) else []) (eq-eqb (q + 1) (suc q) (omega arith))
    ∙ ap (λ (o : Option Text). elim o [ None ↦ [] | Some y ↦ y ∷ words_around tree q outer ]) e

-- the read right around a place
pub record ReadAt (tree : List Item) (q : ℕ) (x : Text) (words : List Text) : Type 0 where
  pub begins : ℕ
  pub next : suc begins ≡ q
  pub word : read_word tree begins ≡ Some x
  pub others : words_around tree begins (path_at tree begins) ≡ words
  pub inner : (node : Around) → Contains (path_at tree begins) node → Contains (path_at tree q) node
  pub around : Encloses tree begins q

pub words-back : (tree : List Item) (q : ℕ) (x : Text) (words : List Text) → words_around tree q (path_at tree q) ≡ x ∷ words → ReadAt tree q x words
words-back tree q x words e = by (path_at tree q) refl e
  where
    made : (node : Around) (outer : List Around) (y : Text) → path_at tree q ≡ node ∷ outer → suc node.begins ≡ q → read_word tree node.begins ≡ Some y → y ≡ x → words_around tree node.begins outer ≡ words → ReadAt tree q x words
    made node outer y is next word same others =
        let opens = read-opens tree node.begins y word in
        let inside = path_at-inside tree node.begins opens.0 in_item.MemberExpr opens.1 in
        let whole : path_at tree q ≡ around in_item.MemberExpr node.begins inside.0 ∷ path_at tree node.begins = sym (ap (path_at tree) next) ∙ inside.1 in
        let tails : node ∷ outer ≡ around in_item.MemberExpr node.begins inside.0 ∷ path_at tree node.begins = sym is ∙ whole in
        let rest : outer ≡ path_at tree node.begins = cc in
        record {
          begins = node.begins;
          next = next;
          word = word ∙ ap (λ z. Some z) same;
          others = sym (ap (words_around tree node.begins) rest) ∙ others;
          inner = λ other there. subst (λ l. Contains l other) (sym whole) (later-there (around in_item.MemberExpr node.begins inside.0) (path_at tree node.begins) other there);
          around = record { node = node; around = subst (λ l. Contains l node) (sym is) (first-there node outer); here = refl };
        }

    inv : (node : Around) (outer : List Around) → path_at tree q ≡ node ∷ outer → (b : Bool) → (node.begins + 1 == q) ≡ b → (o : Option Text) → read_word tree node.begins ≡ o → (if b then (elim o [ None ↦ [] | Some y ↦ y ∷ words_around tree node.begins outer ]) else []) ≡ x ∷ words → ReadAt tree q x words
    inv node outer is true eb None eo e = cc
    inv node outer is true eb (Some y) eo e =
        let same : y ≡ x = cc in
        let others : words_around tree node.begins outer ≡ words = cc in
        let next : node.begins + 1 ≡ q = eqb-true (node.begins + 1) q eb in
        made node outer y is (omega (arith, next)) eo same others
    inv node outer is false eb o eo e = cc

    by : (path : List Around) → path_at tree q ≡ path → words_around tree q path ≡ x ∷ words → ReadAt tree q x words
    by [] is e = cc
    by (node ∷ outer) is e = inv node outer is (node.begins + 1 == q) refl (read_word tree node.begins) refl e

-- ---- where names stand
pub ident-of : (spot : Spot) (o : Option Item) (occurrence : Occurrence) → option_and_then (occurrence_of spot) o ≡ Some occurrence → (field : ℕ) × (symbol : Text) × (ctxt : ℕ) × (role : Role) × (o ≡ Some (in_item.Ident field symbol ctxt role))
ident-of spot None occurrence e = absurd (none-some occurrence e)
ident-of spot (Some (in_item.Open field head)) occurrence e = absurd (none-some occurrence e)
ident-of spot (Some (in_item.Ident field symbol ctxt role)) occurrence e = (field, symbol, ctxt, role, refl)
ident-of spot (Some (in_item.Hole field)) occurrence e = absurd (none-some occurrence e)
ident-of spot (Some in_item.Close) occurrence e = absurd (none-some occurrence e)

occurrence-place : (spot : Spot) (field ctxt : ℕ) (symbol : Text) (role : Role) (o : Occurrence) → occurrence_of spot (in_item.Ident field symbol ctxt role) ≡ Some o → o.place ≡ spot.place
occurrence-place spot field ctxt symbol Binding o e = sym (ap (λ (x : Occurrence). x.place) (same_Some _ o e))
occurrence-place spot field ctxt symbol Reference o e = sym (ap (λ (x : Occurrence). x.place) (same_Some _ o e))
occurrence-place spot field ctxt symbol IsWord o e = absurd (none-some o e)

pub placed-at : (tree : List Item) (q : ℕ) (o : Occurrence) → occurrence_at tree q ≡ Some o → o.place ≡ q
placed-at tree q o at =
    let its = ident-of (spot_before tree q) (slice_get tree q) o at in
    let spot = spots-place start tree q (in_item.Ident its.0 its.1 its.2 its.3) its.4 in
    let place = occurrence-place (spot_before tree q) its.0 its.2 its.1 its.3 o (sym (ap (option_and_then (occurrence_of (spot_before tree q))) its.4) ∙ at) in
    omega (arith, spot, place)

pub not-open : (tree : List Item) (q : ℕ) (o : Occurrence) → occurrence_at tree q ≡ Some o → (field : ℕ) (head : Head) → slice_get tree q ≡ Some (in_item.Open field head) → ⊥
not-open tree q o at field head opens =
    let its = ident-of (spot_before tree q) (slice_get tree q) o at in
    let both : Some (in_item.Open field head) ≡ Some (in_item.Ident its.0 its.1 its.2 its.3) = sym opens ∙ its.4 in
    cc

pub map-some : {A B : Type 0} (f : A → B) (o : Option A) (y : B) → option_map f o ≡ Some y → (x : A) × (o ≡ Some x) × (f x ≡ y)
map-some f None y e = absurd (none-some y e)
map-some f (Some x) y e = (x, refl, same_Some (f x) y e)

-- ---- chains
module _ (p : Program) (m : ℕ) where
  abbrev tree : List Item
  tree = tree_of p m

  -- an expression at a place is a chain of reads of a name
  pub record Chain (q : ℕ) (t : Target) : Type 0 where
    pub place : ℕ
    pub name : Text
    pub first : Target
    pub words : List Text
    pub denoted : denoted_at BySymbol Es tree place ≡ Some (Bound Top (plain name))
    pub stands : StandsFor p m name first
    pub far : place ≡ q + length words
    pub read : words_around tree place (path_at tree place) ≡ words ++ words_around tree q (path_at tree q)
    pub along : Along p first words t
    pub inner : (node : Around) → Contains (path_at tree q) node → Contains (path_at tree place) node
    pub enclosed : IsAtOrAround tree q place

  chain-name : (q : ℕ) (x : Text) (t : Target) → denoted_at BySymbol Es tree q ≡ Some (Bound Top (plain x)) → StandsFor p m x t → (c : Chain q t) × (c.place ≡ q)
  chain-name q x t at stands = (
    record {
      place = q;
      name = x;
      first = t;
      words = [];
      denoted = at;
      stands = stands;
      far = omega arith;
      read = refl;
      along = nothing;
      inner = λ node there. there;
      enclosed = inl refl;
    },
    refl,
  )

  chain-read : (q d : ℕ) (x : Text) (t : Target) → read_word tree q ≡ Some x → (c : Chain (suc q) (Namespace d)) → Linked p d x t → (more : Chain q t) × (more.place ≡ c.place)
  chain-read q d x t word c linked =
      let opens = read-opens tree q x word in
      let inside = path_at-inside tree q opens.0 in_item.MemberExpr opens.1 in
      let node : Around = around in_item.MemberExpr q inside.0 in
      let there : (other : Around) → Contains (node ∷ path_at tree q) other → Contains (path_at tree c.place) other = λ other in_it. c.inner other (subst (λ l. Contains l other) (sym inside.1) in_it) in (
        record {
          place = c.place;
          name = c.name;
          first = c.first;
          words = c.words ++ x ∷ [];
          denoted = c.denoted;
          stands = c.stands;
          far = let long = length-append c.words (x ∷ []) in omega (arith, c.far, long);
          read = c.read
              ∙ ap (λ l. c.words ++ words_around tree (suc q) l) inside.1
              ∙ ap (λ l. c.words ++ l) (words-read tree q inside.0 in_item.MemberExpr (path_at tree q) x word)
              ∙ sym (append_assoc c.words (x ∷ []) (words_around tree q (path_at tree q)));
          along = along-more c.along d x t refl linked;
          inner = λ other in_it. there other (later-there node (path_at tree q) other in_it);
          enclosed = inr (record { node = node; around = there node (first-there node (path_at tree q)); here = refl });
        },
        refl,
      )

  pub chain : {q : ℕ} {t : Target} → ReadsAs p m q t → Chain q t
  chain (by_name {place = q} {x = x} {t = t} at stands) = (chain-name q x t at stands).0
  chain (by_read {place = q} {d = d} {x = x} {t = t} word of linked) = (chain-read q d x t word (chain of) linked).0

  -- the name of a chain is the one that stands in it
  module _ (its : IsModuleTree tree) (place : ℕ) (o : Occurrence) (at : occurrence_at tree place ≡ Some o) where
    pub chain-at : {q : ℕ} {t : Target} → ReadsAs p m q t → IsAtOrAround tree q place → (c : Chain q t) × (c.place ≡ place)
    chain-at (by_name {place = q} {x = x} {t = t} is stands) (inl e) = let c = chain-name q x t is stands in (c.0, c.1 ∙ e)
    chain-at (by_name {place = q} {x = x} {t = t} is stands) (inr inside) =
        let begun = node-begun tree place inside.node inside.around in
        let there = map-some _ (occurrence_at tree q) (Bound Top (plain x)) is in
        absurd (not-open tree q there.0 there.1 begun.1.0 inside.node.head (sym (ap (slice_get tree) inside.here) ∙ begun.1.1))
    chain-at (by_read {place = q} {x = x} word of linked) (inl e) =
        let opens = read-opens tree q x word in
        absurd (not-open tree place o at opens.0 in_item.MemberExpr (sym (ap (slice_get tree) e) ∙ opens.1))
    chain-at (by_read {place = q} {d = d} {x = x} {t = t} word of linked) (inr inside) =
        let c = chain-at of (its.read place q o x at word inside) in
        let more = chain-read q d x t word c.0 linked in
        (more.0, more.1 ∙ c.1)

-- ---- what is denoted goes by the symbol of the name

found-name : (name : Name) (found : Option Scope) (d : Name) (scope : Scope) → bound_in name found ≡ Bound scope d → name ≡ d
found-name name None d scope e = cc
found-name name (Some s) d scope e = let same : name ≡ d = cc in same

pub declares-name : (place : ℕ) (name : Name) (scopes : List Scope) (way : Option Way) (d : Declared) → declared_by place name scopes way ≡ Some d → name ≡ d.name
declares-name place name scopes None d e = absurd (none-some d e)
declares-name place name scopes (Some way) d e = ap (λ (x : Declared). x.name) (same_Some _ d e)

declaration-name : (o : Occurrence) (d : Declared) → declaration_of BySymbol Es o ≡ Some d → plain o.sym ≡ d.name
declaration-name o d e = by (is_binding o.role) e
  where
    by : (b : Bool) → cond b (declared_by o.place (plain o.sym) (scopes_around Es o.path) (way_of o.path)) None ≡ Some d → plain o.sym ≡ d.name
    by true f = declares-name o.place (plain o.sym) (scopes_around Es o.path) (way_of o.path) d f
    by false f = absurd (none-some d f)

pub denoted-name : (tree : List Item) (place : ℕ) (o : Occurrence) (scope : Scope) (name : Name) → occurrence_at tree place ≡ Some o → denoted_at BySymbol Es tree place ≡ Some (Bound scope name) → plain o.sym ≡ name
denoted-name tree place o scope name at is =
    let r = map-some (denoted_of BySymbol Es (declared BySymbol Es tree)) (occurrence_at tree place) (Bound scope name) is in
    let same : r.0 ≡ o = same_Some r.0 o (sym r.1 ∙ at) in
    by (declaration_of BySymbol Es o) refl (sym (ap (denoted_of BySymbol Es (declared BySymbol Es tree)) same) ∙ r.2)
  where
    all : List Declared
    all = declared BySymbol Es tree

    by : (d : Option Declared) → declaration_of BySymbol Es o ≡ d → own_or_found all (bound_in (plain o.sym) (find (λ s. binds all s (plain o.sym)) (scopes_around Es o.path))) d ≡ Bound scope name → plain o.sym ≡ name
    by None e f = found-name (plain o.sym) (find (λ s. binds all s (plain o.sym)) (scopes_around Es o.path)) name scope f
    by (Some d) e f = let same : d.name ≡ name = cc in declaration-name o d e ∙ same

-- ---- a name stands for one target
module _ (p : Program) (m : ℕ) where
  outside-none : (s : Text) → IsTrue (is_external p s) → resolves p m s ≡ None
  outside-none s e = ap (λ b. if b then None else p.leads m s) e

  one-module : (s : Text) (a b : ℕ) → resolves p m s ≡ Some a → resolves p m s ≡ Some b → a ≡ b
  one-module s a b e f = same_Some a b (sym e ∙ f)

  one-taken : {s : Text} {what : Taken} {t u : Target} → Takes p m s what t → Takes p m s what u → t ≡ u
  one-taken (of_external e) (of_external f) = refl
  one-taken {s = s} (of_external e) (of_common_js {c = c} is common) = absurd (none-some c (sym (outside-none s e) ∙ is))
  one-taken {s = s} (of_external e) (of_module {d = d} is) = absurd (none-some d (sym (outside-none s e) ∙ is.resolved))
  one-taken {s = s} (of_common_js {c = c} is common) (of_external f) = absurd (none-some c (sym (outside-none s f) ∙ is))
  one-taken {s = s} {what = what} (of_common_js {c = c} is common) (of_common_js {c = k} other its) = ap (λ n. CommonJs m n what) (one-module s c k is other)
  one-taken {s = s} (of_common_js {c = c} is common) (of_module {d = d} other) = absurd (other.es (subst (IsCommonJs p) (one-module s c d is other.resolved) common))
  one-taken {s = s} (of_module {d = d} is) (of_external f) = absurd (none-some d (sym (outside-none s f) ∙ is.resolved))
  one-taken {s = s} (of_module {d = d} is) (of_common_js {c = c} other common) = absurd (is.es (subst (IsCommonJs p) (one-module s c d other is.resolved) common))
  one-taken {s = s} (of_module {d = d} is) (of_module {d = k} other) = ap Namespace (one-module s d k is.resolved other.resolved)

  named-not-taken : {s : Text} {what : Taken} {t : Target} {y : Text} {d : ℕ} → Takes p m s what t → what ≡ Named y → IsModule p m s d → ⊥
  named-not-taken {s = s} {d = d} (of_external e) named is = none-some d (sym (outside-none s e) ∙ is.resolved)
  named-not-taken {s = s} {d = d} (of_common_js {c = c} other common) named is = is.es (subst (IsCommonJs p) (one-module s c d other is.resolved) common)
  named-not-taken (of_module other) named is = cc

  pub one-stands : {x : Text} {t u : Target} → StandsFor p m x t → StandsFor p m x u → t ≡ u
  one-stands (is_declared there none) (is_declared other not) = refl
  one-stands (is_declared there none) (imported entry bound named is linked) = absurd (none-some entry (sym none ∙ bound))
  one-stands (is_declared there none) (taken_whole entry bound takes) = absurd (none-some entry (sym none ∙ bound))
  one-stands (imported entry bound named is linked) (is_declared there none) = absurd (none-some entry (sym none ∙ bound))
  one-stands {t = t} (imported {y = y} {d = d} entry bound named is linked) (imported {y = z} {d = k} its found called other meant) =
      let same : entry ≡ its = same_Some entry its (sym bound ∙ found) in
      let names : Named y ≡ Named z = sym named ∙ ap (λ (i : ImportEntry). i.taken) same ∙ called in
      let name : y ≡ z = cc in
      let modules : d ≡ k = one-module entry.specifier d k is.resolved (subst (λ (i : ImportEntry). resolves p m i.specifier ≡ Some k) (sym same) other.resolved) in
      one-linked (subst (λ x. Linked p k x t) name (subst (λ n. Linked p n y t) modules linked)) meant
  one-stands (imported {y = y} {d = d} entry bound named is linked) (taken_whole its found takes) =
      let same : entry ≡ its = same_Some entry its (sym bound ∙ found) in
      absurd (named-not-taken takes (ap (λ (i : ImportEntry). i.taken) (sym same) ∙ named) (subst (λ (i : ImportEntry). IsModule p m i.specifier d) same is))
  one-stands (taken_whole entry bound takes) (is_declared there none) = absurd (none-some entry (sym none ∙ bound))
  one-stands (taken_whole its found takes) (imported {y = y} {d = d} entry bound named is linked) =
      let same : entry ≡ its = same_Some entry its (sym bound ∙ found) in
      absurd (named-not-taken takes (ap (λ (i : ImportEntry). i.taken) (sym same) ∙ named) (subst (λ (i : ImportEntry). IsModule p m i.specifier d) same is))
  one-stands {t = t} {u = u} (taken_whole entry bound takes) (taken_whole its found other) =
      let same : its ≡ entry = same_Some its entry (sym found ∙ bound) in
      one-taken takes (subst (λ (i : ImportEntry). Takes p m i.specifier i.taken u) same other)

  -- what stands for more than a declaration is imported
  pub stands-import : {x : Text} {t : Target} → StandsFor p m x t → IsShared t → (entry : ImportEntry) × (import_of (imports p m) x ≡ Some entry)
  stands-import (is_declared there none) shared = absurd shared
  stands-import (imported entry bound named is linked) shared = (entry, bound)
  stands-import (taken_whole entry bound takes) shared = (entry, bound)

  -- a module with imports is no CommonJS module
  import-declares : (head : Head) (item : List Item) (entry : ImportEntry) → Contains (imports_by head item) entry → is_module_declaration head ≡ true
  import-declares (in_item.ImportDecl meta) item entry there = refl
  import-declares _ item entry there = none-there entry there

  import-begins : (item : List Item) (entry : ImportEntry) → Contains (imports_of_item item) entry → begins_with is_module_declaration item ≡ true
  import-begins (in_item.Open field head ∷ rest) entry there = import-declares head (in_item.Open field head ∷ rest) entry there
  import-begins _ entry there = none-there entry there

  pub imports-es : (x : Text) (entry : ImportEntry) → import_of (imports p m) x ≡ Some entry → IsCommonJs p m → ⊥
  imports-es x entry bound common =
      let found = flat-back (λ (top : TopItem). imports_of_item top.items) (top_items (tree_of p m)) entry (found-there (λ (e : ImportEntry). bytes_eq e.local x) (imports p m) entry bound) in
      let declares = any-there (λ (top : TopItem). begins_with is_module_declaration top.items) (top_items (tree_of p m)) found.0 found.1 (import-begins found.0.items entry found.2) in
      false≢true (sym (ap (λ b. not b && not (has_import_meta (tree_of p m))) declares) ∙ common.script)

-- ---- read

-- what reads from the i-th on mean reads mean
abbrev pub Onward : Program → Target → List Text → ℕ → Target → Type 0
Onward p from words i at = (n : ℕ) (u : Target) → ReadsOn p at (drop i words) n u → ReadsOn p from words (i + n) u

pub Onward-next : (p : Program) (from at u : Target) (words : List Text) (i : ℕ) (x : Text) → drop i words ≡ x ∷ drop (i + 1) words → IsReadTarget p at x (Some u) → Onward p from words i at → Onward p from words (i + 1) u
Onward-next p from at u words i x here next before n v reads =
    let one : ReadsOn p at (x ∷ drop (i + 1) words) (suc n) v = subst (λ t. ReadsOn p t (x ∷ drop (i + 1) words) (suc n) v) (sym next.1) (on next.2 reads) in
    subst (λ k. ReadsOn p from words k v) (omega arith) (before (suc n) v (subst (λ l. ReadsOn p at l (suc n) v) (sym here) one))

pub Onward-stops : (p : Program) (from at : Target) (words : List Text) (i : ℕ) (x : Text) → drop i words ≡ x ∷ drop (i + 1) words → IsReadTarget p at x None → Onward p from words i at → ReadsOn p from words i at
Onward-stops p from at words i x here next before =
    subst (λ k. ReadsOn p from words k at) (omega arith) (before 0 at (done (λ d y rest u is there linked.
    let both : x ∷ drop (i + 1) words ≡ y ∷ rest = sym here ∙ there in
    let same : y ≡ x = cc in
    next d u is (subst (λ z. Linked p d z u) same linked))))

drop-all : (words : List Text) (i : ℕ) → length words ≤ i → drop i words ≡ []
drop-all [] zero h = refl
drop-all [] (suc i) h = refl
drop-all (x ∷ xs) zero h = absurd (omega (arith, h))
drop-all (x ∷ xs) (suc i) h = drop-all xs i (omega (arith, h))

pub Onward-ends : (p : Program) (from at : Target) (words : List Text) (i : ℕ) → length words ≤ i → Onward p from words i at → ReadsOn p from words i at
Onward-ends p from at words i h before =
    subst (λ k. ReadsOn p from words k at) (omega arith) (before 0 at (done (λ d y rest u is there linked.
    let none : [] ≡ y ∷ rest = sym (drop-all words i h) ∙ there in
    cc)))

-- the word of the i-th read
pub word-at : (reads : List MemberRead) (i : ℕ) (d : MemberRead) → i < length reads → drop i (map name_read reads) ≡ name_read (get_or reads i d) ∷ drop (i + 1) (map name_read reads)
word-at [] zero d h = absurd (omega (arith, h))
word-at [] (suc i) d h = absurd (omega (arith, h))
word-at (x ∷ xs) zero d h = refl
word-at (x ∷ xs) (suc i) d h = let next : suc (i + 1) ≡ suc i + 1 = omega arith in word-at xs i d (omega (arith, h)) ∙ ap (λ n. name_read (get_or xs i d) ∷ drop n (map name_read (x ∷ xs))) next

pub words-by : (reads : List MemberRead) (its : Use) → map name_read (reads_by reads its) ≡ (use_entry_of reads its).words
words-by reads its = sym (take-map name_read its.count (drop its.first_read reads)) ∙ ap (take its.count) (sym (drop-map name_read its.first_read reads))

-- ---- the same, as it is found
pub next-of : (p : Program) (t : Target) (m : ℕ) (x : Text) (found : Option Target) → t ≡ Namespace m → IsLinkedTo p m x found → IsReadTarget p t x found
next-of p t m x None e missing = λ d u is linked.
    let both : Namespace m ≡ Namespace d = sym e ∙ is in
    let same : d ≡ m = cc in
    missing u (subst (λ k. Linked p k x u) same linked)
next-of p t m x (Some u) e linked = (m, e, linked)

module _ (p : Program) (from at : Target) (reads : List MemberRead) (i : ℕ) (d : MemberRead) (h : i < length reads) (found : Option Found) (next : IsReadTarget p at (name_read (get_or reads i d)) (option_map target_of found)) (before : Onward p from (map name_read reads) i at) where
  pub read-next : (u : Found) → found ≡ Some u → Onward p from (map name_read reads) (i + 1) (target_of u)
  read-next u e = Onward-next p from at (target_of u) (map name_read reads) i (name_read (get_or reads i d)) (word-at reads i d h) (subst (λ o. IsReadTarget p at (name_read (get_or reads i d)) (option_map target_of o)) e next) before

  pub read-stops : found ≡ None → ReadsOn p from (map name_read reads) i at
  read-stops e = Onward-stops p from at (map name_read reads) i (name_read (get_or reads i d)) (word-at reads i d h) (subst (λ o. IsReadTarget p at (name_read (get_or reads i d)) (option_map target_of o)) e next) before

pub read-ends : (p : Program) (from at : Target) (reads : List MemberRead) (i : ℕ) → length reads ≤ i → Onward p from (map name_read reads) i at → ReadsOn p from (map name_read reads) i at
read-ends p from at reads i h before = let long : length (map name_read reads) ≡ length reads = length-map reads name_read in Onward-ends p from at (map name_read reads) i (omega (arith, h, long)) before

-- ---- one meaning
pub one-read : {p : Program} {s t : Target} {words : List Text} {n : ℕ} → ReadsOn p s words n t → (k : ℕ) (from u : Target) (all : List Text) → ReadsOn p from all k u → from ≡ s → all ≡ words → u ≡ t
one-read (done is) k from u all (done other) es ea = es
one-read (done is) k from u all (on {d = d} {x = x} {words = words} {t = t} linked more) es ea = absurd (is d x words t (sym es) (sym ea) linked)
one-read (on {d = d} {x = x} {words = words} {t = t} linked more) k from u all (done is) es ea = absurd (is d x words t es ea linked)
one-read {p = p} (on {d = d} {x = x} {words = words} {t = t} linked more) k from u all (on {d = e} {n = n} {x = y} {words = ys} {t = v} first reads) es ea =
    let same_module : e ≡ d = cc in
    let same_name : y ≡ x = cc in
    let same_rest : ys ≡ words = cc in
    one-read more n v u ys reads (one-linked (subst (λ z. Linked p d z v) same_name (subst (λ z. Linked p z y v) same_module first)) linked) same_rest

-- what is found of a name is what it means
pub found-means : (p : Program) (m : ℕ) (x : Text) (words : List Text) (meaning : Option Meaning) → IsMeaning p m x words meaning → (t : Target) → MeansSome meaning t → (n : ℕ) × WordsMean p m x words n t
found-means p m x words None right t is = absurd is
found-means p m x words (Some meaning) right t is = (meaning.steps, subst (WordsMean p m x words meaning.steps) (sym is) right)

pub means-found : (p : Program) (m : ℕ) (x : Text) (words : List Text) (meaning : Option Meaning) → IsMeaning p m x words meaning → (t : Target) → (n : ℕ) × WordsMean p m x words n t → MeansSome meaning t
means-found p m x words None right t means = right means.1.named means.1.stands
means-found p m x words (Some meaning) right t means =
    one-read right.reads means.0 means.1.named t words means.1.reads (one-stands p m means.1.stands right.stands) refl
