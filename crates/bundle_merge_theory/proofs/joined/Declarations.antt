-- What an item declares, by itself and in the module of which it is a part.
-- The items of a whole by their numbers, and of which of them an occurrence is.
use Rattle.std.proofs.Common.{append_assoc, ◌≡◌, ℕ, zero, suc, ◌+◌, Bool, true, false, cond, List, [], ◌∷◌, ◌++◌, Option, Some, None, option_map, option_and_then, filter_map, map, fold, length, refl, ap, sym, ◌∙◌, subst, arith, ◌≤◌, ◌<◌, ◌⊎◌, inl, inr, take, drop, slice_get}
use Rattle.std.specs.List.{cons_option}
use Rattle.std.proofs.lemmas.Bool.{false≢true}
use Rattle.std.proofs.lemmas.Option.{none-some, same_Some}
use Rattle.std.proofs.lemmas.List.{length-append}
use Rattle.bundle_syntax.specs.declared.kind.VarDeclKind.{VarDeclKind}
use Rattle.bundle_syntax.specs.Item as h
use Rattle.bundle_syntax.specs.Item.{Item, Head}
use Rattle.bundle_syntax.specs.declared.kind.VarDeclKind.TheVariants as v
use Rattle.bundle_rules.specs.Places.{Around, Spot, past, start, Occurrence, occurrence_of, occurrences_from, occurrences, is_binding, occurrence_at}
use Rattle.bundle_rules.specs.Scopes.{ModuleKind, Es, Cjs, Scope, ScopeKind, FunctionName, ClassName, block_kind, is_default, kind_of_scope, scope_at, scopes_around}
use Rattle.bundle_rules.specs.Declarations.{Way, ByLet, ByConst, ByLoop, ByFunction, ByFunctionName, ByClass, ByClassName, is_pattern, heads_loop, way_of_kind, way_of_variable, way_of_declarator, way_in, way_of, ByContext, name_of, Declared, declared_by, declaration_of, is_nameless_default, nameless_default, declared_from}
use Rattle.bundle_rules.specs.Parts.{tree_of_items}
use Rattle.bundle_rules.specs.Sorting.{flat}
use Rattle.bundle_rules.proofs.PlacesLemmas.{occurrences-at, occurrence_at-listed}
use Rattle.bundle_link_targets.proofs.StageLemmas.{at_map as map-get}
use Rattle.bundle_merge_theory.specs.joined.Joined.{open_behind, AllOf, IsWholeItem, moved, moved_path, moved_occurrence, moved_scope, moved_declared, each_moved, own_declared, joined_items, offset}
pub use Rattle.bundle_merge_theory.specs.joined.Joined.{AreNamed, IsNamed}
use Rattle.bundle_merge_theory.proofs.joined.Paths.{inside, AreMoved, moved-past, moved-occurrence, IsAt, moved-start, at-behind, first-at, occurrences-joined, get-left, get-right, get-append, get-map}

-- ---- declarations

-- Scopes.

block_kind-moved : (k : ℕ) (path : List Around) → block_kind (moved_path k path) ≡ block_kind path
block_kind-moved k [] = refl
block_kind-moved k (node ∷ outer) = refl

is_default-moved : (k : ℕ) (path : List Around) → is_default (moved_path k path) ≡ is_default path
is_default-moved k [] = refl
is_default-moved k (node ∷ outer) = refl

kind_of_scope-moved : (k : ℕ) (head : Head) (field : ℕ) (outer : List Around) →
    kind_of_scope head field (moved_path k outer) ≡ kind_of_scope head field outer
kind_of_scope-moved k h.BlockStmt field outer = λ i. Some (block_kind-moved k outer i)
kind_of_scope-moved k h.FnExpr field outer =
    λ i. cond (is_default-moved k outer i) None (Some FunctionName)
kind_of_scope-moved k h.ClassExpr field outer =
    λ i. cond (is_default-moved k outer i) None (Some ClassName)
kind_of_scope-moved k _ field outer = refl

scope_at-moved : (k begins : ℕ) (kind : Option ScopeKind) (rest : List Scope) →
    scope_at (moved k begins) kind ++ map (moved_scope k) rest
    ≡ map (moved_scope k) (scope_at begins kind ++ rest)
scope_at-moved k begins None rest = refl
scope_at-moved k begins (Some kind) rest = refl

outermost-moved : (k : ℕ) (kind : ModuleKind) →
    scopes_around kind [] ≡ map (moved_scope k) (scopes_around kind [])
outermost-moved k Es = refl
outermost-moved k Cjs = refl

-- the scopes around a place
pub scopes_around-moved : (k : ℕ) (kind : ModuleKind) (path : List Around) →
    scopes_around kind (moved_path k path) ≡ map (moved_scope k) (scopes_around kind path)
scopes_around-moved k kind [] = outermost-moved k kind
scopes_around-moved k kind (node ∷ outer) =
    (λ i. scope_at (moved k node.begins) (kind_of_scope-moved k node.head node.field outer i)
    ++ scopes_around-moved k kind outer i)
    ∙ scope_at-moved k node.begins (kind_of_scope node.head node.field outer)
    (scopes_around kind outer)

-- Ways.

heads_loop-moved : (k : ℕ) (path : List Around) → heads_loop (moved_path k path) ≡ heads_loop path
heads_loop-moved k [] = refl
heads_loop-moved k (node ∷ outer) = refl

way_of_kind-moved : (k : ℕ) (kind : VarDeclKind) (outer : List Around) →
    way_of_kind kind (moved_path k outer) ≡ way_of_kind kind outer
way_of_kind-moved k v.Var outer = refl
way_of_kind-moved k v.Let outer = λ i. cond (heads_loop-moved k outer i) ByLoop ByLet
way_of_kind-moved k v.Const outer = λ i. cond (heads_loop-moved k outer i) ByLoop ByConst

way_of_variable-moved : (k : ℕ) (head : Head) (outer : List Around) →
    way_of_variable head (moved_path k outer) ≡ way_of_variable head outer
way_of_variable-moved k (h.VarDecl kind meta) outer = λ i. Some (way_of_kind-moved k kind outer i)
way_of_variable-moved k _ outer = refl

way_of_declarator-moved : (k : ℕ) (path : List Around) →
    way_of_declarator (moved_path k path) ≡ way_of_declarator path
way_of_declarator-moved k [] = refl
way_of_declarator-moved k (node ∷ outer) = way_of_variable-moved k node.head outer

way_in-moved : (k : ℕ) (head : Head) (outer : List Around) →
    way_in head (moved_path k outer) ≡ way_in head outer
way_in-moved k h.VarDeclarator outer = way_of_declarator-moved k outer
way_in-moved k h.FnExpr outer =
    λ i. Some (cond (is_default-moved k outer i) ByFunction ByFunctionName)
way_in-moved k h.ClassExpr outer =
    λ i. Some (cond (is_default-moved k outer i) ByClass ByClassName)
way_in-moved k _ outer = refl

pub way_of-moved : (k : ℕ) (path : List Around) → way_of (moved_path k path) ≡ way_of path
way_of-moved k [] = refl
way_of-moved k (node ∷ outer) =
    λ i. cond (is_pattern node.head) (way_of-moved k outer i) (way_in-moved k node.head outer i)

-- what an identifier declares
pub declaration-moved : (k : ℕ) (o : Occurrence) →
    declaration_of ByContext Es (moved_occurrence k o)
    ≡ option_map (moved_declared k) (declaration_of ByContext Es o)
declaration-moved k o =
    (λ i. cond (is_binding o.role)
    (declared_by (o.place + k) (name_of ByContext o.sym o.ctxt)
    (scopes_around-moved k Es o.path i) (way_of-moved k o.path i)) None)
    ∙ by_role (is_binding o.role) (way_of o.path)
  where
    by_role : (b : Bool) (way : Option Way) →
        cond b (declared_by (o.place + k) (name_of ByContext o.sym o.ctxt)
        (map (moved_scope k) (scopes_around Es o.path)) way) None
        ≡ option_map (moved_declared k)
        (cond b (declared_by o.place (name_of ByContext o.sym o.ctxt) (scopes_around Es o.path)
        way) None)
    by_role true None = refl
    by_role true (Some way) = refl
    by_role false way = refl

-- Where no default export is without a name, it is identifiers that declare.

-- what identifiers declare
abbrev pub declared_by_names : List Occurrence → List Declared
declared_by_names os = filter_map (declaration_of ByContext Es) os

pub declared-named : (s : Spot) (xs : List Item) → AreNamed xs →
    declared_from ByContext Es s xs ≡ declared_by_names (occurrences_from s xs)
declared-named s [] named = refl
declared-named s (x ∷ xs) named =
    ap (λ b. cons_option
    (cond b (Some (nameless_default Es s.place))
    (option_and_then (declaration_of ByContext Es) (occurrence_of s x)))
    (declared_from ByContext Es (past s x) xs)) named.0
    ∙ ap (cons_option (option_and_then (declaration_of ByContext Es) (occurrence_of s x)))
    (declared-named (past s x) xs named.1)
    ∙ by_occurrence (occurrence_of s x) (occurrences_from (past s x) xs)
  where
    by_occurrence : (o : Option Occurrence) (os : List Occurrence) →
        cons_option (option_and_then (declaration_of ByContext Es) o) (declared_by_names os)
        ≡ declared_by_names (cons_option o os)
    by_occurrence None os = refl
    by_occurrence (Some o) os = refl

-- whatever stands behind an item that is named by itself, it is named
named-first : (x : Item) (xs zs : List Item) → is_nameless_default x (xs ++ h.Close ∷ []) ≡ false →
    is_nameless_default x (xs ++ zs) ≡ false
named-first (h.Open field h.ExportDefaultExpr) xs zs e = absurd (false≢true (sym e))
named-first (h.Open field h.ExportDefaultDecl) [] zs e = absurd (false≢true (sym e))
named-first (h.Open field h.ExportDefaultDecl) (h.Ident a b c d ∷ xs) zs e =
    absurd (false≢true (sym e))
named-first (h.Open field h.ExportDefaultDecl) (h.Hole a ∷ xs) zs e = absurd (false≢true (sym e))
named-first (h.Open field h.ExportDefaultDecl) (h.Close ∷ xs) zs e = absurd (false≢true (sym e))
named-first (h.Open field h.ExportDefaultDecl) (h.Open a b ∷ []) zs e = absurd (false≢true (sym e))
named-first (h.Open field h.ExportDefaultDecl) (h.Open a b ∷ h.Ident c d f g ∷ xs) zs e = refl
named-first (h.Open field h.ExportDefaultDecl) (h.Open a b ∷ h.Open c d ∷ xs) zs e =
    absurd (false≢true (sym e))
named-first (h.Open field h.ExportDefaultDecl) (h.Open a b ∷ h.Hole c ∷ xs) zs e =
    absurd (false≢true (sym e))
named-first (h.Open field h.ExportDefaultDecl) (h.Open a b ∷ h.Close ∷ xs) zs e =
    absurd (false≢true (sym e))
named-first x xs zs e = refl

named-append : (xs zs : List Item) → AreNamed (xs ++ h.Close ∷ []) → AreNamed zs →
    AreNamed (xs ++ zs)
named-append [] zs named rest = rest
named-append (x ∷ xs) zs named rest =
    (named-first x xs zs named.0, named-append xs zs named.1 rest)

pub named-flat : (items : List (List Item)) → AllOf IsNamed items →
    AreNamed (flat items ++ h.Close ∷ [])
named-flat [] named = (refl, tt)
named-flat (item ∷ more) named =
    subst AreNamed (sym (append_assoc item (flat more) (h.Close ∷ [])))
    (named-append item (flat more ++ h.Close ∷ []) named.0 (named-flat more named.1))

pub declared-item : (item : List Item) → IsNamed item →
    own_declared item ≡ declared_by_names (occurrences (tree_of_items item))
declared-item item named = declared-named start (tree_of_items item) (refl, named)

-- Whether a default export has a name does not depend on what stands behind the item.
default-first : (x : Item) (xs ys zs : List Item) (depth : ℕ) →
    open_behind depth (x ∷ xs) ≡ Some 0 →
    is_nameless_default x (xs ++ ys) ≡ is_nameless_default x (xs ++ zs)
default-first (h.Open field h.ExportDefaultDecl) [] ys zs depth e =
    absurd (suc-zero depth (same_Some (suc depth) 0 e))
  where
    suc-zero : (n : ℕ) → suc n ≡ 0 → ⊥
    suc-zero n is = omega (arith, is)
default-first (h.Open field h.ExportDefaultDecl) (h.Ident a b c d ∷ xs) ys zs depth e = refl
default-first (h.Open field h.ExportDefaultDecl) (h.Hole a ∷ xs) ys zs depth e = refl
default-first (h.Open field h.ExportDefaultDecl) (h.Close ∷ xs) ys zs depth e = refl
default-first (h.Open field h.ExportDefaultDecl) (h.Open a b ∷ []) ys zs depth e =
    absurd (suc-zero (suc depth) (same_Some (suc (suc depth)) 0 e))
  where
    suc-zero : (n : ℕ) → suc n ≡ 0 → ⊥
    suc-zero n is = omega (arith, is)
default-first (h.Open field h.ExportDefaultDecl) (h.Open a b ∷ h.Ident c d f g ∷ xs) ys zs depth e
    =
    refl
default-first (h.Open field h.ExportDefaultDecl) (h.Open a b ∷ h.Open c d ∷ xs) ys zs depth e =
    refl
default-first (h.Open field h.ExportDefaultDecl) (h.Open a b ∷ h.Hole c ∷ xs) ys zs depth e = refl
default-first (h.Open field h.ExportDefaultDecl) (h.Open a b ∷ h.Close ∷ xs) ys zs depth e = refl
default-first x xs ys zs depth e = refl

-- how many nodes are open behind the first element
rest-open : (x : Item) (xs : List Item) (depth last : ℕ) → open_behind depth (x ∷ xs) ≡ Some last →
    (next : ℕ) × (open_behind next xs ≡ Some last)
rest-open (h.Open field head) xs depth last e = (suc depth, e)
rest-open (h.Ident field symbol ctxt role) xs depth last e = (depth, e)
rest-open (h.Hole field) xs depth last e = (depth, e)
rest-open h.Close xs zero last e = absurd (none-some last e)
rest-open h.Close xs (suc depth) last e = (depth, e)

default-moved : (k : ℕ) (a b : Spot) → AreMoved k a b →
    nameless_default Es b.place ≡ moved_declared k (nameless_default Es a.place)
default-moved k a b m = λ i. nameless_default Es (m.place i)

-- what the elements of an item declare, in front of others
moved-declarations : (k depth : ℕ) (xs ys : List Item) (a b : Spot) → AreMoved k a b →
    open_behind depth xs ≡ Some 0 →
    declared_from ByContext Es b (xs ++ ys)
    ≡ map (moved_declared k) (declared_from ByContext Es a (xs ++ h.Close ∷ []))
    ++ declared_from ByContext Es (fold past b xs) ys
moved-declarations k depth [] ys a b m e = refl
moved-declarations k depth (x ∷ xs) ys a b m e =
    let next = rest-open x xs depth 0 e in
    ap (λ t. cons_option
    (cond t (Some (nameless_default Es b.place))
    (option_and_then (declaration_of ByContext Es) (occurrence_of b x)))
    (declared_from ByContext Es (past b x) (xs ++ ys)))
    (default-first x xs ys (h.Close ∷ []) depth e)
    ∙ ap (λ o. cons_option o (declared_from ByContext Es (past b x) (xs ++ ys)))
    (first (is_nameless_default x (xs ++ h.Close ∷ [])) (occurrence_of a x))
    ∙ ap (cons_option (option_map (moved_declared k)
    (cond (is_nameless_default x (xs ++ h.Close ∷ [])) (Some (nameless_default Es a.place))
    (option_and_then (declaration_of ByContext Es) (occurrence_of a x)))))
    (moved-declarations k next.0 xs ys (past a x) (past b x) (moved-past k a b m x) next.1)
    ∙ joins (cond (is_nameless_default x (xs ++ h.Close ∷ [])) (Some (nameless_default Es a.place))
    (option_and_then (declaration_of ByContext Es) (occurrence_of a x)))
    (declared_from ByContext Es (past a x) (xs ++ h.Close ∷ []))
    (declared_from ByContext Es (fold past (past b x) xs) ys)
  where
    first : (t : Bool) (o : Option Occurrence) →
        cond t (Some (nameless_default Es b.place))
        (option_and_then (declaration_of ByContext Es) (occurrence_of b x))
        ≡ option_map (moved_declared k)
        (cond t (Some (nameless_default Es a.place))
        (option_and_then (declaration_of ByContext Es) (occurrence_of a x)))
    first true o = ap Some (default-moved k a b m)
    first false o =
        ap (option_and_then (declaration_of ByContext Es)) (moved-occurrence k a b m x)
        ∙ by_occurrence (occurrence_of a x)
      where
        by_occurrence : (o : Option Occurrence) →
            option_and_then (declaration_of ByContext Es) (option_map (moved_occurrence k) o)
            ≡ option_map (moved_declared k) (option_and_then (declaration_of ByContext Es) o)
        by_occurrence None = refl
        by_occurrence (Some o) = declaration-moved k o

    joins : (o : Option Declared) (xs ys : List Declared) →
        cons_option (option_map (moved_declared k) o) (map (moved_declared k) xs ++ ys)
        ≡ map (moved_declared k) (cons_option o xs) ++ ys
    joins None xs ys = refl
    joins (Some d) xs ys = refl

-- DECLARATIONS: those of the whole are those of the items in turn, each moved.
all-declarations : (k : ℕ) (s : Spot) → IsAt k s → (items : List (List Item)) →
    AllOf IsWholeItem items →
    declared_from ByContext Es s (flat items ++ h.Close ∷ [])
    ≡ each_moved moved_declared own_declared k items
all-declarations k s at [] whole = refl
all-declarations k s at (item ∷ more) whole =
    ap (declared_from ByContext Es s) (append_assoc item (flat more) (h.Close ∷ []))
    ∙ moved-declarations k 0 item (flat more ++ h.Close ∷ []) inside s (moved-start k s at) whole.0
    ∙ ap (λ rest. map (moved_declared k) (own_declared item) ++ rest)
    (all-declarations (k + length item) (fold past s item) (at-behind k s at item whole.0) more
    whole.1)

pub declared-joined : (items : List (List Item)) → AllOf IsWholeItem items →
    own_declared (flat items) ≡ each_moved moved_declared own_declared 0 items
declared-joined items whole = all-declarations 0 inside first-at items whole

-- ---- items
pub all-at : {A : Type 0} (P : A → Type 0) (xs : List A) (i : ℕ) (x : A) → AllOf P xs →
    slice_get xs i ≡ Some x → P x
all-at P [] i x all e = absurd (none-some x e)
all-at P (y ∷ xs) zero x all e = subst P (same_Some y x e) all.0
all-at P (y ∷ xs) (suc i) x all e = all-at P xs i x all.1 e

-- a list by one of its elements
pub split-at : {A : Type 0} (xs : List A) (i : ℕ) (x : A) → slice_get xs i ≡ Some x →
    take i xs ++ x ∷ drop (suc i) xs ≡ xs
split-at [] i x e = absurd (none-some x e)
split-at (y ∷ xs) zero x e = ap (λ z. z ∷ xs) (sym (same_Some y x e))
split-at (y ∷ xs) (suc i) x e = ap (λ rest. y ∷ rest) (split-at xs i x e)

-- later items stand behind earlier ones
pub offset-later : (items : List (List Item)) (m n : ℕ) (item other : List Item) → m < n →
    slice_get items m ≡ Some item → slice_get items n ≡ Some other →
    offset items m + length item ≤ offset items n
offset-later [] m n item other lt at there = absurd (none-some item at)
offset-later (x ∷ items) m zero item other lt at there = absurd (omega (arith, lt))
offset-later (x ∷ items) zero (suc n) item other lt at there =
    let same = ap length (same_Some x item at) in
    let both = length-append x (flat (take n items)) in
    omega (arith, same, both)
offset-later (x ∷ items) (suc m) (suc n) item other lt at there =
    let rest = offset-later items m n item other (omega (arith, lt)) at there in
    let first = length-append x (flat (take m items)) in
    let second = length-append x (flat (take n items)) in
    omega (arith, rest, first, second)

-- an occurrence of the whole is one of an item, moved
pub record IsOfItem (items : List (List Item)) (a : Occurrence) : Type 0 where
  pub m : ℕ
  pub item : List Item
  pub there : slice_get items m ≡ Some item
  pub j : ℕ
  pub o : Occurrence
  pub at : slice_get (occurrences (tree_of_items item)) j ≡ Some o
  pub is : a ≡ moved_occurrence (offset items m) o

found-in : (k : ℕ) (items : List (List Item)) (i : ℕ) (a : Occurrence) →
    slice_get (each_moved moved_occurrence (λ item. occurrences (tree_of_items item)) k items) i
    ≡ Some a →
    (m : ℕ) × (item : List Item) × (slice_get items m ≡ Some item) × (j : ℕ) × (o : Occurrence)
    × (slice_get (occurrences (tree_of_items item)) j ≡ Some o)
    × (a ≡ moved_occurrence (k + offset items m) o)
found-in k [] i a e = absurd (none-some a e)
found-in k (item ∷ more) i a e =
    by_side (get-append (map (moved_occurrence k) (occurrences (tree_of_items item)))
    (each_moved moved_occurrence (λ i. occurrences (tree_of_items i)) (k + length item) more) i
    a e) (λ j f. found-in (k + length item) more j a f)
  where
    by_side : (slice_get (map (moved_occurrence k) (occurrences (tree_of_items item))) i ≡ Some a)
        ⊎ ((j : ℕ) × (slice_get
        (each_moved moved_occurrence (λ i. occurrences (tree_of_items i)) (k + length item)
        more) j ≡ Some a))
        → ((j : ℕ) → slice_get (each_moved moved_occurrence (λ i. occurrences (tree_of_items i))
        (k + length item) more) j ≡ Some a → (m : ℕ) × (one : List Item)
        × (slice_get more m ≡ Some one) × (j : ℕ) × (o : Occurrence)
        × (slice_get (occurrences (tree_of_items one)) j ≡ Some o)
        × (a ≡ moved_occurrence (k + length item + offset more m) o))
        → (m : ℕ) × (one : List Item) × (slice_get (item ∷ more) m ≡ Some one) × (j : ℕ)
        × (o : Occurrence) × (slice_get (occurrences (tree_of_items one)) j ≡ Some o)
        × (a ≡ moved_occurrence (k + offset (item ∷ more) m) o)
    by_side (inl here) ih =
        let found = get-map (moved_occurrence k) (occurrences (tree_of_items item)) i a here in
        let n : k ≡ k + 0 = omega arith in
        (0, item, refl, i, found.0, found.1, found.2 ∙ ap (λ n. moved_occurrence n found.0) n)
    by_side (inr later) ih =
        let found = ih later.0 later.1 in
        let both = length-append item (flat (take found.0 more)) in
        let n : k + length item + offset more found.0 ≡ k + offset (item ∷ more) (suc found.0) =
        omega (arith, both) in (
          suc found.0,
          found.1,
          found.2,
          found.3,
          found.4,
          found.5,
          found.6
              ∙ ap (λ n. moved_occurrence n found.4) n,
        )

pub occurrence-of-item : (items : List (List Item)) → AllOf IsWholeItem items →
    (p : ℕ) (a : Occurrence) → occurrence_at (joined_items items) p ≡ Some a → IsOfItem items a
occurrence-of-item items whole p a e =
    let listed = occurrence_at-listed (joined_items items) p a e in
    let found = found-in 0 items listed.0 a
    (ap (λ os. slice_get os listed.0) (sym (occurrences-joined items whole)) ∙ listed.1) in
    let n : 0 + offset items found.0 ≡ offset items found.0 = omega arith in
    record {
      m = found.0;
      item = found.1;
      there = found.2;
      j = found.3;
      o = found.4;
      at = found.5;
      is = found.6 ∙ ap (λ n. moved_occurrence n found.4) n;
    }

-- and an occurrence of an item is one of the whole
listed-in : (k : ℕ) (items : List (List Item)) (m : ℕ) (item : List Item) (j : ℕ) (o : Occurrence)
    →
    slice_get items m ≡ Some item → slice_get (occurrences (tree_of_items item)) j ≡ Some o →
    (i : ℕ) × (slice_get (each_moved moved_occurrence (λ item. occurrences (tree_of_items item)) k
    items) i ≡ Some (moved_occurrence (k + offset items m) o))
listed-in k [] m item j o at there = absurd (none-some item at)
listed-in k (x ∷ items) zero item j o at there =
    let n : k ≡ k + 0 = omega arith in (
      j,
      get-left (map (moved_occurrence k) (occurrences (tree_of_items x)))
          (each_moved moved_occurrence (λ i. occurrences (tree_of_items i)) (k + length x) items) j
          (moved_occurrence k o) (map-get (moved_occurrence k) (occurrences (tree_of_items x)) j o
          (ap (λ i. slice_get (occurrences (tree_of_items i)) j) (same_Some x item at) ∙ there))
          ∙ ap (λ n. Some (moved_occurrence n o)) n,
    )
listed-in k (x ∷ items) (suc m) item j o at there =
    let rest = listed-in (k + length x) items m item j o at there in
    let more = get-right (map (moved_occurrence k) (occurrences (tree_of_items x)))
    (each_moved moved_occurrence (λ i. occurrences (tree_of_items i)) (k + length x) items)
    rest.0 (moved_occurrence (k + length x + offset items m) o) rest.1 in
    let both = length-append x (flat (take m items)) in
    let n : k + length x + offset items m ≡ k + offset (x ∷ items) (suc m) = omega (arith, both) in
    (more.0, more.1 ∙ ap (λ n. Some (moved_occurrence n o)) n)

pub occurrence-in-whole : (items : List (List Item)) → AllOf IsWholeItem items →
    (m : ℕ) (item : List Item) (j : ℕ) (o : Occurrence) → slice_get items m ≡ Some item →
    slice_get (occurrences (tree_of_items item)) j ≡ Some o →
    (p : ℕ) × (occurrence_at (joined_items items) p ≡ Some (moved_occurrence (offset items m) o))
occurrence-in-whole items whole m item j o at there =
    let found = listed-in 0 items m item j o at there in
    let n : 0 + offset items m ≡ offset items m = omega arith in (
      _,
      occurrences-at (joined_items items) found.0 (moved_occurrence (offset items m) o)
          (ap (λ os. slice_get os found.0) (occurrences-joined items whole) ∙ found.1
          ∙ ap (λ n. Some (moved_occurrence n o)) n),
    )
