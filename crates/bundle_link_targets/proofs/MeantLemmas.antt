-- What is written in an own statement in addition.
-- What is meant is what uses mean, what the entry's names are linked to, and what the names of namespaces in it are.
use Rattle.std.proofs.Common.{◌≡◌, ℕ, zero, suc, List, [], ◌∷◌, ◌++◌, refl, subst, arith, ◌⊎◌, inl, inr, ◌+◌, ◌<◌, true, ◌&&◌, length, Option, Some, None, sym, ap, ◌∙◌}
use Rattle.std.specs.Prelude.{Contains, filter, is_some}
use Rattle.std.proofs.lemmas.Bool.{false≢true, true≢false, and_parts, and_from}
use Rattle.std.proofs.lemmas.Option.{none-some}
use Rattle.bundle_syntax.specs.declared.piece.Role.{Role}
use Rattle.bundle_syntax.specs.Item as h
use Rattle.bundle_syntax.specs.Item.{Item, Head}
use Rattle.bundle_rules.specs.Nodes.{Text, inside}
use Rattle.bundle_rules.specs.Statements.{TopItem, top_items, Element, taken, written, taken_from, taken_in_field, default_name, default_constant, with_name, default_declaration, stated_by, stated, own_statements}
use Rattle.bundle_rules.specs.Places.{Around, path_at, Occurrence, occurrence_at, occurrences}
use Rattle.bundle_rules.specs.Scopes.{ModuleKind, Es, Top, Wrapper, Inner}
use Rattle.bundle_rules.specs.Declarations.{BySymbol, Name, declared}
use Rattle.bundle_rules.specs.Denotes.{Denoted, Bound, Global, denoted_at, denoted_of}
use Rattle.bundle_rules.proofs.PlacesLemmas.{occurrences-at, occurrence_at-listed}
use Rattle.bundle_rules.specs.Entries.{ImportEntry, imports_of, import_of}
use Rattle.bundle_rules.specs.Program.{Program, tree_of, IsReached}
use Rattle.bundle_rules.specs.Linking.{imports, Target, Namespace, Linked, StandsFor}
use Rattle.bundle_rules.specs.Reads.{read_word}
use Rattle.bundle_rules.specs.Meaning.{Label, Of, plain, denoted, own_view, Replacement, ByName, ReadsAs, by_name, by_read, Replaced, static_read, import_meta, require_call, OwnName, at_top, parameter, HasKind, is_es, is_common_js, IsLeft, label_of, SaysAt, says_name, says_node, IsMeant, by_statement, by_export, by_namespace}
use Rattle.bundle_tree_places.specs.Stated.{is_in_statement}
use Rattle.bundle_link_tables.specs.Used.{words_around, UseEntry, is_bound_at_top, is_use, use_of, uses_of}
use Rattle.bundle_link_index.proofs.AskedLemmas.{none_there as none-there, flat_back as flat-back}
use Rattle.bundle_link_index.proofs.ProgramLemmas.{got_there as place-there, got as there-place, map_back as map-back, map_on as map-on, filter_back as filter-back, filter_on as filter-on}
use Rattle.bundle_link_targets.specs.Meant.{EndsReads, ReadsOn, done, on, IsTargetTaken, by_use, by_entry, by_names, IsShared, Encloses, StandsAt, IsModuleTree, AreModules}
use Rattle.bundle_link_targets.proofs.CallPlaceLemmas.{free-calls}
use Rattle.bundle_link_targets.proofs.ListLemmas.{node-begun, read-opens, Along, nothing, step, along-reads, along-bound, words-back, placed-at, map-some, chain, chain-at, denoted-name, one-stands, stands-import, imports-es}

-- ---- written

-- a name that is written is `default`
abbrev IsNamed : Element → Type 0
IsNamed (taken place x) = Unit {0}
IsNamed (written (h.Open field head)) = Unit {0}
IsNamed (written (h.Ident field symbol ctxt role)) = symbol ≡ default_name
IsNamed (written (h.Hole field)) = Unit {0}
IsNamed (written h.Close) = Unit {0}

abbrev AreNamed : List Element → Type 0
AreNamed [] = Unit {0}
AreNamed (e ∷ rest) = IsNamed e × AreNamed rest

all-named : (es more : List Element) → AreNamed es → AreNamed more → AreNamed (es ++ more)
all-named [] more are others = others
all-named (e ∷ es) more are others = (are.0, all-named es more are.1 others)

from-named : (place : ℕ) (items : List Item) → AreNamed (taken_from place items)
from-named place [] = tt
from-named place (x ∷ rest) = (tt, from-named (suc place) rest)

field-named : (field place : ℕ) (items : List Item) → AreNamed (taken_in_field field place items)
field-named field place [] = tt
field-named field place (x ∷ rest) = (tt, from-named (suc place) rest)

constant-named : (place : ℕ) (items : List Item) → AreNamed (default_constant place items)
constant-named place items = (tt, (tt, (tt, (refl, (tt, all-named (taken_in_field 1 place items) (written h.Close ∷ written h.Close ∷ []) (field-named 1 place items) (tt, (tt, tt)))))))

name-named : (place : ℕ) (items : List Item) → AreNamed (with_name place items)
name-named place (h.Ident field symbol ctxt role ∷ rest) = from-named place (h.Ident field symbol ctxt role ∷ rest)
name-named place (h.Open field head ∷ rest) = (refl, from-named place (h.Open field head ∷ rest))
name-named place [] = tt
name-named place (h.Hole field ∷ rest) = from-named place (h.Hole field ∷ rest)
name-named place (h.Close ∷ rest) = from-named place (h.Close ∷ rest)

declaration-named : (place : ℕ) (items : List Item) → AreNamed (default_declaration place items)
declaration-named place (h.Open field head ∷ rest) = (tt, name-named (suc place) rest)
declaration-named place [] = tt
declaration-named place (h.Ident field symbol ctxt role ∷ rest) = from-named place (h.Ident field symbol ctxt role ∷ rest)
declaration-named place (h.Hole field ∷ rest) = from-named place (h.Hole field ∷ rest)
declaration-named place (h.Close ∷ rest) = from-named place (h.Close ∷ rest)

one : (st es : List Element) → AreNamed es → Contains (es ∷ []) st → AreNamed st
one st es are (zero, l, e) = subst AreNamed e are
one st es are (suc i, l, e) = absurd (omega arith)

by-head : (head : Head) (start : ℕ) (items : List Item) (st : List Element) → Contains (stated_by head start items) st → AreNamed st
by-head (h.ImportDecl meta) start items st there = none-there st there
by-head (h.NamedExport meta) start items st there = none-there st there
by-head (h.ExportAll meta) start items st there = none-there st there
by-head h.EmptyStmt start items st there = none-there st there
by-head h.ExportDecl start items st there = one st (taken_from (suc start) (inside items)) (from-named (suc start) (inside items)) there
by-head h.ExportDefaultExpr start items st there = one st (default_constant (suc start) (inside items)) (constant-named (suc start) (inside items)) there
by-head h.ExportDefaultDecl start items st there = one st (default_declaration (suc start) (inside items)) (declaration-named (suc start) (inside items)) there
by-head _ start items st there = one st (taken_from start items) (from-named start items) there

by-top : (start : ℕ) (items : List Item) (st : List Element) → Contains (stated start items) st → AreNamed st
by-top start [] st there = none-there st there
by-top start (h.Open field head ∷ rest) st there = by-head head start (h.Open field head ∷ rest) st there
by-top start (h.Ident field symbol ctxt role ∷ rest) st there = one st (taken_from start (h.Ident field symbol ctxt role ∷ rest)) (from-named start (h.Ident field symbol ctxt role ∷ rest)) there
by-top start (h.Hole field ∷ rest) st there = one st (taken_from start (h.Hole field ∷ rest)) (from-named start (h.Hole field ∷ rest)) there
by-top start (h.Close ∷ rest) st there = one st (taken_from start (h.Close ∷ rest)) (from-named start (h.Close ∷ rest)) there

element-named : (es : List Element) (e : Element) → AreNamed es → Contains es e → IsNamed e
element-named [] e are there = none-there e there
element-named (x ∷ es) e are (zero, l, is) = subst IsNamed is are.0
element-named (x ∷ es) e are (suc i, l, is) = element-named es e are.1 (i, omega arith, is)

pub written-default : (tree : List Item) (st : List Element) (field ctxt : ℕ) (symbol : Text) (role : Role) → Contains (own_statements tree) st → Contains st (written (h.Ident field symbol ctxt role)) → symbol ≡ default_name
written-default tree st field ctxt symbol role own there =
    let top = flat-back (λ (t : TopItem). stated t.start t.items) (top_items tree) st own in
    element-named st (written (h.Ident field symbol ctxt role)) (by-top top.0.start top.0.items st top.2) there

-- ---- labels

same-target : (t u : Target) → Of t ≡ Of u → t ≡ u
same-target t u e = let same : t ≡ u = cc in same

abbrev symbol-in : Option Denoted → Text
symbol-in (Some (Bound scope name)) = name.sym
symbol-in _ = []

pub top-name : (x y : Text) → Some (Bound Top (plain x)) ≡ Some (Bound Top (plain y)) → x ≡ y
top-name x y e = ap symbol-in e

-- ---- uses
-- a use of a name, and what it denotes
pub record IsUseAt (tree : List Item) (place : ℕ) (x : Text) (words : List Text) : Type 0 where
  pub o : Occurrence
  pub at : occurrence_at tree place ≡ Some o
  pub denotes : denoted_at BySymbol Es tree place ≡ Some (Bound Top (plain x))
  pub in_statement : is_in_statement (path_at tree place) ≡ true
  pub read : words_around tree place (path_at tree place) ≡ words

bound-top : (d : Option Denoted) → is_bound_at_top d ≡ true → (name : Name) × (d ≡ Some (Bound Top name))
bound-top None e = absurd (false≢true e)
bound-top (Some (Bound Wrapper name)) e = absurd (false≢true e)
bound-top (Some (Bound Top name)) e = (name, refl)
bound-top (Some (Bound (Inner kind begins) name)) e = absurd (false≢true e)
bound-top (Some (Global x)) e = absurd (false≢true e)

pub is-some : {A : Type 0} (o : Option A) → is_some o ≡ true → (x : A) × (o ≡ Some x)
is-some None e = absurd (false≢true e)
is-some (Some x) e = (x, refl)

-- a use, and the import of its name
abbrev pub IsUse : List Item → UseEntry → Type 0
IsUse tree its = IsUseAt tree its.place its.local its.words × ((entry : ImportEntry) × (import_of (imports_of tree) its.local ≡ Some entry))

pub use-at : (tree : List Item) (its : UseEntry) → Contains (uses_of tree) its → IsUse tree its
use-at tree its there =
    let back = map-back (use_of tree) (filter (is_use tree) (occurrences tree)) its there in
    let o = back.0 in
    let kept = filter-back (is_use tree) (occurrences tree) o back.1 in
    let place = there-place (occurrences tree) o kept.0 in
    let at : occurrence_at tree o.place ≡ Some o = occurrences-at tree place.0 o place.1 in
    let parts = and_parts (is_bound_at_top (denoted_at BySymbol Es tree o.place)) (is_some (import_of (imports_of tree) o.sym) && is_in_statement (path_at tree o.place)) kept.1 in
    let others = and_parts (is_some (import_of (imports_of tree) o.sym)) (is_in_statement (path_at tree o.place)) parts.1 in
    let top = bound-top (denoted_at BySymbol Es tree o.place) parts.0 in
    let name = denoted-name tree o.place o Top top.0 at top.1 in
    subst (IsUse tree) back.2 (
      record {
        o = o;
        at = at;
        denotes = top.1 ∙ ap (λ n. Some (Bound Top n)) (sym name);
        in_statement = others.1;
        read = refl;
      },
      is-some (import_of (imports_of tree) o.sym) others.0,
    )

some-is : {A : Type 0} (o : Option A) (x : A) → o ≡ Some x → is_some o ≡ true
some-is o x e = ap is_some e

pub use-there : (tree : List Item) (place : ℕ) (x : Text) (words : List Text) (entry : ImportEntry) → IsUseAt tree place x words → import_of (imports_of tree) x ≡ Some entry → (its : UseEntry) × Contains (uses_of tree) its × (its.local ≡ x) × (its.words ≡ words)
use-there tree place x words entry its imported =
    let o = its.o in
    let listed = occurrence_at-listed tree place o its.at in
    let same_place : o.place ≡ place = placed-of in
    let name : o.sym ≡ x = ap (λ (n : Name). n.sym) (denoted-name tree place o Top (plain x) its.at its.denotes) in
    let test = and_from (is_bound_at_top (denoted_at BySymbol Es tree o.place)) (is_some (import_of (imports_of tree) o.sym) && is_in_statement (path_at tree o.place))
    (ap (λ q. is_bound_at_top (denoted_at BySymbol Es tree q)) same_place ∙ ap is_bound_at_top its.denotes)
    (and_from (is_some (import_of (imports_of tree) o.sym)) (is_in_statement (path_at tree o.place))
    (ap (λ s. is_some (import_of (imports_of tree) s)) name ∙ some-is _ entry imported)
    (ap (λ q. is_in_statement (path_at tree q)) same_place ∙ its.in_statement)) in (
      use_of tree o,
      map-on (use_of tree) (filter (is_use tree) (occurrences tree)) o (filter-on (is_use tree) (occurrences tree) o (place-there (occurrences tree) listed.0 o listed.1) test),
      name,
      ap (λ q. words_around tree q (path_at tree q)) same_place ∙ its.read,
    )
  where
    placed-of : its.o.place ≡ place
    placed-of = placed-at tree place its.o its.at

module _ (p : Program) (m : ℕ) (whole : IsModuleTree (tree_of p m)) where
  abbrev tree : List Item
  tree = tree_of p m

  -- ---- what a use means is meant
  -- reads on from an expression end at one
  record EndsAt (q n : ℕ) (from t : Target) : Type 0 where
    begins : ℕ
    reads : ReadsAs p m begins t
    far : begins + n ≡ q
    inner : (node : Around) → Contains (path_at tree begins) node → Contains (path_at tree q) node
    kind : ((begins ≡ q) × (from ≡ t)) ⊎ (Encloses tree begins q × ((x : Text) × (read_word tree begins ≡ Some x)))

  ends-at : {from t : Target} {words : List Text} {n : ℕ} → ReadsOn p from words n t → (q : ℕ) → ReadsAs p m q from → words_around tree q (path_at tree q) ≡ words → EndsAt q n from t
  ends-at (done is) q reads e = record { begins = q; reads = reads; far = omega arith; inner = λ node there. there; kind = inl (refl, refl) }
  ends-at {from = from} {t = u} (on {d = d} {n = n} {x = x} {words = words} {t = t} linked more) q reads e =
      let r = words-back tree q x words e in
      let next : ReadsAs p m r.begins t = by_read r.word (subst (λ k. ReadsAs p m k (Namespace d)) (sym r.next) reads) linked in
      let rest = ends-at more r.begins next r.others in
      record {
        begins = rest.begins;
        reads = rest.reads;
        far = omega (arith, rest.far, r.next);
        inner = λ node there. r.inner node (rest.inner node there);
        kind = inr (elim rest.kind [
          | inl same ↦ (subst (λ k. Encloses tree k q) (sym same.0) r.around, (x, ap (read_word tree) same.0 ∙ r.word))
          | inr inside ↦ (record { node = inside.0.node; around = r.inner inside.0.node inside.0.around; here = inside.0.here }, inside.1)
        ]);
      }

  -- ---- a node around the expression is not replaced
  module _ (place n : ℕ) (x : Text) (words : List Text) (from t : Target) (its : IsUseAt tree place x words) (stands : StandsFor p m x from) (reads : ReadsOn p from words n t) where
    not-replaced : {q : ℕ} {by : Replacement} → Replaced p m q by → Encloses tree q place → (begins : ℕ) → begins + n ≡ place → q < begins → ⊥
    not-replaced (static_read {place = q} word expression) inside begins far before =
        let c = chain-at p m whole place its.o its.at expression (inr inside) in
        let name : c.0.name ≡ x = top-name c.0.name x (sym c.0.denoted ∙ ap (denoted_at BySymbol Es tree) c.1 ∙ its.denotes) in
        let same : c.0.first ≡ from = one-stands p m (subst (λ y. StandsFor p m y c.0.first) name c.0.stands) stands in
        let all : words ≡ c.0.words ++ words_around tree q (path_at tree q) = sym its.read ∙ sym (ap (λ k. words_around tree k (path_at tree k)) c.1) ∙ c.0.read in
        let bound = along-bound c.0.along from words (words_around tree q (path_at tree q)) reads (sym same) all in
        let there = c.0.far in
        let it = c.1 in
        absurd (omega (arith, bound, there, it, far, before))
    not-replaced (import_meta {place = q} is) inside begins far before = true≢false (sym is ∙ whole.meta place q its.o its.at inside)
    not-replaced (require_call {place = q} call is_call at resolved) inside begins far before = free-calls p m place x call its.denotes is_call (subst (λ k. Encloses tree k place) (sym at) inside)

    is-left : (begins : ℕ) → begins + n ≡ place → ((node : Around) → Contains (path_at tree begins) node → Contains (path_at tree place) node) → (e : Item) → IsLeft p m (taken begins e)
    is-left begins far inner e node by there replaced =
        not-replaced replaced (record { node = node; around = inner node there; here = refl }) begins far (node-begun tree begins node there).0

    pub says : (entry : ImportEntry) → import_of (imports p m) x ≡ Some entry → IsReached p m → IsMeant p (Of t)
    says entry bound reached =
        let ends = ends-at reads place (by_name its.denotes stands) its.read in
        let left = is-left ends.begins ends.far ends.inner in
        elim ends.kind [
          | inl same ↦
              let at = whole.stands place ends.begins its.o its.at its.in_statement (inl same.0) in
              by_statement reached at.own at.stands (left at.element) (says_name (is_es (imports-es p m x entry bound)) (ap (denoted_at BySymbol Es tree) same.0 ∙ its.denotes) (at_top (subst (StandsFor p m x) same.1 stands)))
          | inr inside ↦
              let at = whole.stands place ends.begins its.o its.at its.in_statement (inr inside) in
              node-says reached ends.begins at (left at.element) inside.1.0 inside.1.1 ends.reads
        ]
      where
        node-says : IsReached p m → (begins : ℕ) → (at : StandsAt tree begins) → IsLeft p m (taken begins at.element) → (y : Text) → read_word tree begins ≡ Some y → ReadsAs p m begins t → IsMeant p (Of t)
        node-says reached begins at left y word expression =
            let opens = read-opens tree begins y word in
            let its_own = at.opens opens.0 h.MemberExpr opens.1 in
            by_statement {statement = at.statement} {e = taken begins (h.Open its_own.0 its_own.1)} reached at.own (subst (λ e. Contains at.statement (taken begins e)) its_own.2 at.stands) (subst (λ e. IsLeft p m (taken begins e)) its_own.2 left) (says_node (static_read word expression))

  -- ---- what is meant at a place is what a use means
  unread : (place q : ℕ) (e : Item) (t : Target) → IsLeft p m (taken q e) → ReadsAs p m q t → EndsReads p t (words_around tree q (path_at tree q))
  unread place q e t left reads d x rest u is words linked =
      let r = words-back tree q x rest words in
      let outer : ReadsAs p m r.begins u = by_read r.word (subst (ReadsAs p m (suc r.begins)) is (subst (λ k. ReadsAs p m k t) (sym r.next) reads)) linked in
      left r.around.node (ByName (Of u)) r.around.around (subst (λ k. Replaced p m k (ByName (Of u))) (sym r.around.here) (static_read r.word outer))

  -- a name that is left, or an expression that is left, is read on no further
  pub name-use : (place : ℕ) (e : Item) (x : Text) (t : Target) (entry : ImportEntry) (o : Occurrence) → occurrence_at tree place ≡ Some o → denoted_at BySymbol Es tree place ≡ Some (Bound Top (plain x)) → is_in_statement (path_at tree place) ≡ true → StandsFor p m x t → import_of (imports p m) x ≡ Some entry → IsLeft p m (taken place e) → IsReached p m → IsTargetTaken p t
  name-use place e x t entry o at denotes inside stands bound left reached =
      let u = use-there tree place x (words_around tree place (path_at tree place)) entry (record { o = o; at = at; denotes = denotes; in_statement = inside; read = refl }) bound in
      let unread_here = unread place place e t left (by_name denotes stands) in
      by_use reached u.1 (record { named = t; stands = subst (λ y. StandsFor p m y t) (sym u.2) stands; reads = subst (λ l. ReadsOn p t l zero t) (sym u.3) (done unread_here) })

  pub node-use : (q : ℕ) (e : Item) (statement : List Element) (t : Target) → IsShared t → Contains (own_statements tree) statement → Contains statement (taken q e) → ReadsAs p m q t → IsLeft p m (taken q e) → IsReached p m → IsTargetTaken p t
  node-use q e statement t shared own there reads left reached =
      let c = chain p m reads in
      let o = map-some (denoted_of BySymbol Es (declared BySymbol Es tree)) (occurrence_at tree c.place) (Bound Top (plain c.name)) c.denoted in
      let inside = whole.stated c.place q o.0 statement e o.1 c.enclosed own there in
      let entry = stands-import p m c.stands (shared-first c.along shared) in
      let u = use-there tree c.place c.name (words_around tree c.place (path_at tree c.place)) entry.0 (record { o = o.0; at = o.1; denotes = c.denoted; in_statement = inside; read = refl }) entry.1 in
      let unread_here = unread c.place q e t left reads in
      let all : ReadsOn p c.first (c.words ++ words_around tree q (path_at tree q)) (length c.words) t = along-reads c.along (words_around tree q (path_at tree q)) unread_here in
      by_use reached u.1 (record { named = c.first; stands = subst (λ y. StandsFor p m y c.first) (sym u.2) c.stands; reads = subst (λ l. ReadsOn p c.first l (length c.words) t) (sym c.read ∙ sym u.3) all })
    where
      shared-first : {s u : Target} {words : List Text} → Along p s words u → IsShared u → IsShared s
      shared-first nothing is = is
      shared-first (step linked more) is = tt

module _ (p : Program) (are : AreModules p) where
  -- ---- what is taken is meant
  pub taken-meant : {t : Target} → IsTargetTaken p t → IsMeant p (Of t)
  taken-meant (by_use {m = m} {n = n} {its = its} {t = t} reached there means) =
      let at = use-at (tree_of p m) its there in
      says p m (are.trees m) its.place n its.local its.words means.named t at.0 means.stands means.reads at.1.0 at.1.1 reached
  taken-meant (by_entry linked) = by_export linked
  taken-meant (by_names more linked) = by_namespace (taken-meant more) linked

  -- ---- what is meant is taken
  named-taken : (m : ℕ) (statement : List Element) (e : Element) (kind : ModuleKind) (x : Text) (t : Target) → IsReached p m → Contains (own_statements (tree_of p m)) statement → Contains statement e → IsLeft p m e → HasKind p m kind → denoted (own_view p m kind) e ≡ Some (Bound Top (plain x)) → StandsFor p m x t → IsShared t → IsTargetTaken p t
  named-taken m statement e kind x t reached own there left its denotes stands shared = by e own there left its denotes
    where
      entry : (i : ImportEntry) × (import_of (imports p m) x ≡ Some i)
      entry = stands-import p m stands shared

      by-kind : (place : ℕ) (item : Item) (k : ModuleKind) → Contains statement (taken place item) → IsLeft p m (taken place item) → HasKind p m k → denoted_at BySymbol k (tree_of p m) place ≡ Some (Bound Top (plain x)) → IsTargetTaken p t
      by-kind place item k there left (is_common_js common) denotes = absurd (imports-es p m x entry.0 entry.1 common)
      by-kind place item k there left (is_es es) denotes =
          let o = map-some (denoted_of BySymbol Es (declared BySymbol Es (tree_of p m))) (occurrence_at (tree_of p m) place) (Bound Top (plain x)) denotes in
          let inside = (are.trees m).stated place place o.0 statement item o.1 (inl refl) own there in
          name-use p m (are.trees m) place item x t entry.0 o.0 o.1 denotes inside stands entry.1 left reached

      by : (e : Element) → Contains (own_statements (tree_of p m)) statement → Contains statement e → IsLeft p m e → HasKind p m kind → denoted (own_view p m kind) e ≡ Some (Bound Top (plain x)) → IsTargetTaken p t
      by (taken place item) own there left its denotes = by-kind place item kind there left its denotes
      by (written (h.Open field head)) own there left its denotes = absurd (none-some (Bound Top (plain x)) denotes)
      by (written (h.Ident field symbol ctxt role)) own there left its denotes =
          let same : symbol ≡ x = top-name symbol x denotes in
          let is = written-default (tree_of p m) statement field ctxt symbol role own there in
          absurd (none-some entry.0 (sym (are.once.unbound m statement (h.Ident field symbol ctxt role) own there) ∙ ap (import_of (imports p m)) (sym is ∙ same) ∙ entry.1))
      by (written (h.Hole field)) own there left its denotes = absurd (none-some (Bound Top (plain x)) denotes)
      by (written h.Close) own there left its denotes = absurd (none-some (Bound Top (plain x)) denotes)

  said-taken : (m : ℕ) (statement : List Element) (e : Element) (l : Label) (t : Target) → IsReached p m → Contains (own_statements (tree_of p m)) statement → Contains statement e → IsLeft p m e → SaysAt p m e l → l ≡ Of t → IsShared t → IsTargetTaken p t
  said-taken m statement e l t reached own there left (says_name {kind = kind} {d = d} {l = its} has denotes name) is shared = by name denotes is
    where
      by : {d : Denoted} {l : Label} → OwnName p m d l → denoted (own_view p m kind) e ≡ Some d → l ≡ Of t → IsTargetTaken p t
      by (at_top {x = x} {t = u} stands) denotes is = named-taken m statement e kind x t reached own there left has denotes (subst (StandsFor p m x) (same-target u t is) stands) shared
      by (parameter {x = x}) denotes is = cc
  said-taken m statement e l t reached own there left (says_node {place = q} {field = field} {head = head} {by = by} replaced) is shared = from replaced there left is
    where
      from : {place : ℕ} {b : Replacement} → Replaced p m place b → Contains statement (taken place (h.Open field head)) → IsLeft p m (taken place (h.Open field head)) → label_of b ≡ Of t → IsTargetTaken p t
      from (static_read {place = place} {t = u} word reads) there left is = node-use p m (are.trees m) place (h.Open field head) statement t shared own there (subst (ReadsAs p m place) (same-target u t is) reads) left reached
      from (import_meta at) there left is = cc
      from (require_call call stands at resolved) there left is = cc

  pub meant-taken : {l : Label} → IsMeant p l → (t : Target) → l ≡ Of t → IsShared t → IsTargetTaken p t
  meant-taken (by_statement {m = m} {statement = statement} {e = e} {l = l} reached own there left says_it) t is shared = said-taken m statement e l t reached own there left says_it is shared
  meant-taken (by_export {x = x} {t = u} linked) t is shared = by_entry (subst (Linked p p.entry x) (same-target u t is) linked)
  meant-taken (by_namespace {d = d} {x = x} {t = u} more linked) t is shared = by_names (meant-taken more (Namespace d) refl tt) (subst (Linked p d x) (same-target u t is) linked)
