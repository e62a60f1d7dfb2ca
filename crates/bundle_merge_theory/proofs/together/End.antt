-- What is made of the modules of a bundle, item by item, is merged right.
-- Which identifiers stand in the table of a bundle, and with which labels.
-- In a CommonJS module no identifier has two labels, and no label two identifiers.
use Rattle.std.proofs.Common.{◌⊎◌, ℕ, List, Option, refl, inl, inr, ◌≡◌, suc, [], ◌∷◌, ◌++◌, Some, ap, subst, zero, ◌+◌, Bool, true, false, not, None, append_assoc, length, sym, ◌∙◌}
use Rattle.std.specs.Prelude.{Contains, slice_get}
use Rattle.std.specs.List.{AllZip, list_any}
use Rattle.std.proofs.lemmas.List.Elements.{Contains-append_left, Contains-append_right}
use Rattle.std.proofs.lemmas.Bool.{false≢true, and_parts, or_parts, not-true}
use Rattle.bundle_syntax.specs.Item as h
use Rattle.bundle_syntax.specs.Item.{Item, Head}
use Rattle.bundle_rules.specs.Program.{Program, tree_of, IsReached}
use Rattle.bundle_rules.specs.Meaning.{Label, IsMeant, Meant, Inside, Known, Unbound, is_common_js}
use Rattle.bundle_rules.specs.Bundle.{Cause, Own, ImportsNames, ImportsWhole, ImportsNothing, Helps, Defines, Loads, HoldsMeta, HoldsNamespace, Stars, Exports, AsModule, Hooks, IsDue}
use Rattle.bundle_rules.specs.Places.{Occurrence}
use Rattle.bundle_rules.specs.Idents.{Ident, ident_of}
use Rattle.bundle_rules.specs.Scopes.{Cjs}
use Rattle.bundle_rules.specs.Doubled.{first_doubled}
use Rattle.bundle_rules.specs.Nodes.{side_by_side, begins_with}
use Rattle.bundle_rules.specs.Entries.{is_module_declaration, has_import_meta, is_script}
use Rattle.bundle_rules.specs.Statements.{TopItem, placed, top_items}
use Rattle.bundle_rules.specs.Parts.{tree_of_items}
use Rattle.bundle_rules.specs.Linking.{IsCommonJs}
use Rattle.bundle_scope_names.proofs.HomesLemmas.{Each}
use Rattle.bundle_scope_names.specs.fit.Sorts.{NodeSort, AModule, AnItem, AStmt, NodeSlot, takes_head, names_of_sort, slots}
use Rattle.bundle_scope_names.specs.fit.Fits.{AreFit, no_more, over, a_name as a_name_modules, a_hole, a_node, IsFit, name, node, AreEach, ended, next}
use Rattle.bundle_scope_names.specs.fit.Seen.{each_slot}
use Rattle.bundle_scope_names.proofs.fit.Rows.{is_own, own_head, own_slots, occurs, last}
use Rattle.bundle_scope_names.proofs.fit.Keys.{after_slot}
use Rattle.bundle_merge_theory.proofs.joined.Paths.{get-left, get-right}
use Rattle.bundle_merge_theory.proofs.joined.Bindings.{Contains-cons, Contains-none}
use Rattle.bundle_merge_theory.specs.loaded.Contexts.{OwnEntry}
use Rattle.bundle_merge_theory.specs.loaded.Kept.{IsDeclarationTaken}
use Rattle.bundle_merge_theory.specs.loaded.Loaded.{module_declared}
use Rattle.bundle_merge_theory.specs.loaded.Turned.{Turned, over as turned_over, begun, ended as turned_ended, named, empty}
use Rattle.bundle_merge_theory.proofs.loaded.Parameters.{one-label, one-ident}
use Rattle.bundle_merge_theory.proofs.loaded.Noted.{taken-by-es}
use Rattle.bundle_merge_theory.specs.made.Given.{HookAnswer, BundleContexts, numbers_in}
use Rattle.bundle_merge_theory.specs.made.Made.{IsMade}
use Rattle.bundle_merge_theory.specs.made.Alone.{AreTreesSound, TellApart, IsTopLabel, IsItemAlone}
use Rattle.bundle_merge_theory.specs.own.Functions.{IsInFunction}
use Rattle.bundle_merge_theory.specs.labels.Functions.{IsOfFunction, a_name, a_parameter}
use Rattle.bundle_merge_theory.proofs.labels.Theorem.{meant-top, export-top, namespace-top}
use Rattle.bundle_merge_theory.proofs.told.Theorem.{told}
use Rattle.bundle_merge_theory.proofs.own.Theorem.{own-made}
use Rattle.bundle_merge_theory.proofs.function.Theorem.{function-made}
use Rattle.bundle_merge_theory.proofs.added.Theorem.{AreLinkedTop, added-alone}
use Rattle.bundle_merge_theory.proofs.answered.Meta.{answered-alone}
use Rattle.bundle_merge_theory.specs.composed.Names.{LabelTable}
use Rattle.bundle_merge_theory.specs.together.Table.{known_entries, front_entries, HasOneEntries}
use Rattle.bundle_merge_theory.proofs.fit.Clearing.{beside, each_of, no_name as no-module-name}
use Rattle.bundle_merge_theory.proofs.together.Taken.{all-seated, taken-es}
use Rattle.bundle_merge_theory.proofs.labels.Modules.{no-item as no-name, module-head as module-slots}

-- ---- end
module _ (p : Program) (hooks : Hooks) (list : List ℕ) (context : BundleContexts) (answers : ℕ → Option HookAnswer) (sound : AreTreesSound p list) (apart : TellApart p answers context) where
  in-function : (l : Label) → IsOfFunction p l → IsInFunction p l
  in-function l (a_name {c = c} {x = x} reached common) =
      record { c = c; x = x; reached = reached; common_js = common; is = inl refl }
  in-function l (a_parameter {c = c} {x = x} reached common) =
      record { c = c; x = x; reached = reached; common_js = common; is = inr refl }

  its-label : (l : Label) → IsMeant p l → IsTopLabel p l ⊎ IsInFunction p l
  its-label l meant =
      elim (meant-top p list sound {l = l} meant) [ inl top ↦ inl top | inr own ↦ inr (in-function l own) ]

  linked : AreLinkedTop p
  linked = record {
    exports = λ x t. export-top p list sound {x = x} {t = t};
    namespaces = λ d x t. namespace-top p list sound {d = d} {x = x} {t = t};
  }

  -- what is made for a due cause is right by itself
  pub made-alone : (cause : Cause) (item : List Item) → IsDue p AsModule cause →
      IsMade p hooks list context answers cause item →
      IsItemAlone p hooks list context answers cause item
  made-alone (Own m k) item due made =
      own-made p hooks list context answers sound apart m k item due
      (λ n kind statement its reached has there stated. told p list context sound reached has statement there stated)
      its-label made
  made-alone (Defines c) item due made =
      function-made p hooks list context answers c item sound apart due
      (λ n kind statement its reached has there stated. told p list context sound reached has statement there stated)
      made
  made-alone (HoldsMeta m) item due made =
      answered-alone p hooks list context answers apart m item due made
  made-alone (ImportsNames s) item due made = added-alone p hooks list context answers sound linked (ImportsNames s) item refl due made
  made-alone (ImportsWhole s) item due made = added-alone p hooks list context answers sound linked (ImportsWhole s) item refl due made
  made-alone (ImportsNothing s) item due made = added-alone p hooks list context answers sound linked (ImportsNothing s) item refl due made
  made-alone Helps item due made = added-alone p hooks list context answers sound linked Helps item refl due made
  made-alone (Loads m c) item due made = added-alone p hooks list context answers sound linked (Loads m c) item refl due made
  made-alone (HoldsNamespace d) item due made = added-alone p hooks list context answers sound linked (HoldsNamespace d) item refl due made
  made-alone (Stars s) item due made = added-alone p hooks list context answers sound linked (Stars s) item refl due made
  made-alone Exports item due made = added-alone p hooks list context answers sound linked Exports item refl due made

-- ---- entries

-- the table holds what the other does
abbrev pub Includes : LabelTable → LabelTable → Type 0
Includes table sub = (e : Ident × Label) → Contains sub e → Contains table e

pub includes-left : (table first second : LabelTable) → Includes table (first ++ second) →
    Includes table first
includes-left table first second has e c = has e (Contains-append_left first second e c)

pub includes-right : (table first second : LabelTable) → Includes table (first ++ second) →
    Includes table second
includes-right table first second has e c = has e (Contains-append_right first second e c)

pub includes-next : (table : LabelTable) (e : Ident × Label) (rest : LabelTable) → Includes table (e ∷ rest) →
    Contains table e × Includes table rest
includes-next table e rest has = (
  has e ((Contains-cons e rest e).1 (inl refl)),
  λ d c. has d ((Contains-cons e rest d).1 (inr c)),
)

-- Each name in turn.

-- what is so of names that are in the table is so of all in turn
pub zip-known : {R S : Occurrence → Meant → Type 0} (table : LabelTable) →
    ((o : Occurrence) (meant : Meant) → R o meant →
    ((l : Label) → meant ≡ Known l → Contains table (ident_of o, l)) → S o meant) →
    (os : List Occurrence) (meants : List Meant) → AllZip R os meants →
    Includes table (known_entries os meants) → AllZip S os meants
zip-known table step [] [] all has = tt
zip-known table step [] (meant ∷ meants) all has = absurd all
zip-known table step (o ∷ os) [] all has = absurd all
zip-known table step (o ∷ os) (Known l ∷ meants) all has =
    let both = includes-next table (ident_of o, l) (known_entries os meants) has in (
      step o (Known l) all.0
          (λ k same. subst (λ k. Contains table (ident_of o, k)) (label-same same) both.0),
      zip-known table step os meants all.1 both.1,
    )
  where
    label-same : {l k : Label} → Known l ≡ Known k → l ≡ k
    label-same e = cc
zip-known table step (o ∷ os) (Inside n ∷ meants) all has = (
  step o (Inside n) all.0 (λ k same. absurd cc),
  zip-known table step os meants all.1 has,
)
zip-known table step (o ∷ os) (Unbound x ∷ meants) all has = (
  step o (Unbound x) all.0 (λ k same. absurd cc),
  zip-known table step os meants all.1 has,
)

pub zip-front : {R S : Occurrence → Label → Type 0} (table : LabelTable) →
    ((o : Occurrence) (l : Label) → R o l → Contains table (ident_of o, l) → S o l) →
    (os : List Occurrence) (names : List Label) → AllZip R os names →
    Includes table (front_entries os names) → AllZip S os names
zip-front table step [] [] all has = tt
zip-front table step [] (l ∷ names) all has = absurd all
zip-front table step (o ∷ os) [] all has = absurd all
zip-front table step (o ∷ os) (l ∷ names) all has =
    let both = includes-next table (ident_of o, l) (front_entries os names) has in
    (step o l all.0 both.0, zip-front table step os names all.1 both.1)

-- From an entry.

-- an entry comes from an occurrence of these
pub record ComesFrom (R : Occurrence → Meant → Type 0) (os : List Occurrence) (e : Ident × Label) :
    Type 0 where
  pub o : Occurrence
  pub at : ℕ
  pub there : slice_get os at ≡ Some o
  pub is : R o (Known e.1)
  pub same : ident_of o ≡ e.0

next-from : {R : Occurrence → Meant → Type 0} (o : Occurrence) (os : List Occurrence)
    (e : Ident × Label) → ComesFrom R os e → ComesFrom R (o ∷ os) e
next-from o os e from = record {
  o = from.o;
  at = suc from.at;
  there = from.there;
  is = from.is;
  same = from.same;
}

pub known-from : (R : Occurrence → Meant → Type 0) (os : List Occurrence) (meants : List Meant) →
    AllZip R os meants → (e : Ident × Label) → Contains (known_entries os meants) e →
    ComesFrom R os e
known-from R [] [] all e c = absurd (Contains-none e c)
known-from R [] (meant ∷ meants) all e c = absurd all
known-from R (o ∷ os) [] all e c = absurd all
known-from R (o ∷ os) (Inside n ∷ meants) all e c =
    next-from o os e (known-from R os meants all.1 e c)
known-from R (o ∷ os) (Unbound x ∷ meants) all e c =
    next-from o os e (known-from R os meants all.1 e c)
known-from R (o ∷ os) (Known l ∷ meants) all e c =
    by ((Contains-cons (ident_of o, l) (known_entries os meants) e).0 c)
    (λ later. known-from R os meants all.1 e later)
  where
    by : ((ident_of o, l) ≡ e) ⊎ Contains (known_entries os meants) e →
        (Contains (known_entries os meants) e → ComesFrom R os e) → ComesFrom R (o ∷ os) e
    by (inl here) ih = record {
      o = o;
      at = 0;
      there = refl;
      is = subst (λ (x : Ident × Label). R o (Known x.1)) here all.0;
      same = ap (λ (x : Ident × Label). x.0) here;
    }
    by (inr later) ih = next-from o os e (ih later)

pub front-from : (R : Occurrence → Meant → Type 0) (os : List Occurrence) (names : List Label) →
    AllZip (λ o l. R o (Known l)) os names → (e : Ident × Label) →
    Contains (front_entries os names) e → ComesFrom R os e
front-from R [] [] all e c = absurd (Contains-none e c)
front-from R [] (l ∷ names) all e c = absurd all
front-from R (o ∷ os) [] all e c = absurd all
front-from R (o ∷ os) (l ∷ names) all e c =
    by ((Contains-cons (ident_of o, l) (front_entries os names) e).0 c)
    (λ later. front-from R os names all.1 e later)
  where
    by : ((ident_of o, l) ≡ e) ⊎ Contains (front_entries os names) e →
        (Contains (front_entries os names) e → ComesFrom R os e) → ComesFrom R (o ∷ os) e
    by (inl here) ih = record {
      o = o;
      at = 0;
      there = refl;
      is = subst (λ (x : Ident × Label). R o (Known x.1)) here all.0;
      same = ap (λ (x : Ident × Label). x.0) here;
    }
    by (inr later) ih = next-from o os e (ih later)

-- among more occurrences, and with less said
pub from-left : {R : Occurrence → Meant → Type 0} (os more : List Occurrence) (e : Ident × Label) →
    ComesFrom R os e → ComesFrom R (os ++ more) e
from-left os more e from = record {
  o = from.o;
  at = from.at;
  there = get-left os more from.at from.o from.there;
  is = from.is;
  same = from.same;
}

pub from-right : {R : Occurrence → Meant → Type 0} (os more : List Occurrence) (e : Ident × Label) →
    ComesFrom R more e → ComesFrom R (os ++ more) e
from-right os more e from =
    let there = get-right os more from.at from.o from.there in
    record {
      o = from.o;
      at = there.0;
      there = there.1;
      is = from.is;
      same = from.same;
    }

pub from-more : {R S : Occurrence → Meant → Type 0} (os : List Occurrence) (e : Ident × Label) →
    ((o : Occurrence) (meant : Meant) → R o meant → S o meant) → ComesFrom R os e →
    ComesFrom S os e
from-more os e more from = record {
  o = from.o;
  at = from.at;
  there = from.there;
  is = more from.o (Known e.1) from.is;
  same = from.same;
}

-- ---- modules

-- Scripts.

abbrev test_own : ℕ → NodeSort → Bool
test_own number sort = is_own sort

-- what is own stays as it is
turned-own : (L : Ident → Type 0) {list : List NodeSlot} {items : List Item} → AreFit list items →
    each_slot test_own list ≡ true → {depth : ℕ} (xs ys : List Item) → Turned L depth xs ys →
    Turned L depth (items ++ xs) (items ++ ys)
turned-own L no_more ok xs ys v = v
turned-own L (over {sort = k} {more = more} e fit) ok xs ys v =
    turned-own L fit (and_parts (is_own k) (each_slot test_own more) ok).1 xs ys v
turned-own L (a_name_modules {number = n} {count = c} {sort = k} {more = more} {x = x} {ctxt = t}
    {role = role} takes_it fit) ok xs ys v =
    named (occurs role k takes_it (and_parts (is_own k) (each_slot test_own more) ok).0)
    (turned-own L fit (after_slot test_own n c k more ok) xs ys v)
turned-own L (a_hole {number = n} {sort = k} {more = more} fit) ok xs ys v =
    empty (turned-own L fit ok xs ys v)
turned-own L (a_node {number = n} {count = c} {sort = k} {more = more} {head = head}
    {inside = ins} {rest = rest} takes_it in_it fit) ok {depth = depth} xs ys v =
    let own = (and_parts (is_own k) (each_slot test_own more) ok).0 in
    subst
    (λ l. Turned L depth (h.Open n head ∷ l) (h.Open n head ∷ ((ins ++ h.Close ∷ rest) ++ ys)))
    (sym (append_assoc ins (h.Close ∷ rest) xs))
    (subst
    (λ l. Turned L depth (h.Open n head ∷ (ins ++ h.Close ∷ (rest ++ xs))) (h.Open n head ∷ l))
    (sym (append_assoc ins (h.Close ∷ rest) ys))
    (begun (own_head head k takes_it own)
    (turned-own L in_it (own_slots head k takes_it own) (h.Close ∷ (rest ++ xs))
    (h.Close ∷ (rest ++ ys))
    (turned_ended (turned-own L fit (after_slot test_own n c k more ok) xs ys v)))))

-- what is an item and no declaration of a module is a statement
is-statement : (head : Head) → takes_head head AnItem ≡ true → is_module_declaration head ≡ false →
    takes_head head AStmt ≡ true
is-statement (h.ImportDecl meta) is other = absurd (false≢true (sym other))
is-statement h.ExportDecl is other = absurd (false≢true (sym other))
is-statement (h.NamedExport meta) is other = absurd (false≢true (sym other))
is-statement h.ExportDefaultDecl is other = absurd (false≢true (sym other))
is-statement h.ExportDefaultExpr is other = absurd (false≢true (sym other))
is-statement (h.ExportAll meta) is other = absurd (false≢true (sym other))
is-statement _ is other = is

as-statement : {items : List Item} → IsFit AnItem 0 items →
    begins_with is_module_declaration items ≡ false → IsFit AStmt 0 items
as-statement (name {role = role} it) other = absurd (no-name role it)
as-statement (node {head = head} it in_it) other =
    node (is-statement head it other) in_it

-- the items of a script
items-turned : (L : Ident → Type 0) {sort : NodeSort} {field : ℕ} {items : List Item} →
    AreEach sort field items → sort ≡ AnItem → field ≡ 0 → (n : ℕ) →
    list_any (λ (top : TopItem). begins_with is_module_declaration top.items)
    (placed n (side_by_side zero (items ++ h.Close ∷ []))) ≡ false → Turned L zero items items
items-turned L ended is at n none = turned_over
items-turned L (next {sort = sort} {field = field} {items = items} {rest = rest} it them) is at n
    none =
    let its : IsFit AnItem 0 items = subst (λ s. IsFit s 0 items) is
    (subst (λ f. IsFit sort f items) at it) in
    let split = or_parts (begins_with is_module_declaration items)
    (list_any (λ (top : TopItem). begins_with is_module_declaration top.items)
    (placed (n + length items) (side_by_side zero (rest ++ h.Close ∷ []))))
    (sym (ap (λ l. list_any (λ (top : TopItem). begins_with is_module_declaration top.items)
    (placed n l))
    (ap (side_by_side zero) (append_assoc items rest (h.Close ∷ []))
    ∙ beside its (rest ++ h.Close ∷ [])))
    ∙ none) in
    turned-own L (last (as-statement its split.0)) refl rest rest
    (items-turned L them is at (n + length items) split.1)

-- a module's tree
pub record IsScriptTree (L : Ident → Type 0) (tree : List Item) : Type 0 where
  pub items : List Item
  pub is : tree ≡ tree_of_items items
  pub turned : Turned L zero items items
  pub taken : Each IsDeclarationTaken (module_declared items)

-- a script that is fit stays as it is, and its declarations are taken
pub script-tree : (L : Ident → Type 0) {tree : List Item} → IsFit AModule 0 tree →
    is_script tree ≡ true → IsScriptTree L tree
script-tree L (name {role = role} it) script = absurd (no-module-name role it)
script-tree L (node {head = head} {inside = ins} it in_it) script =
    by head (module-slots head it) it in_it script
  where
    by : (k : Head) → k ≡ h.Module → takes_head k AModule ≡ true →
        AreFit (slots k (names_of_sort AModule)) ins →
        is_script (h.Open 0 k ∷ (ins ++ h.Close ∷ [])) ≡ true →
        IsScriptTree L (h.Open 0 k ∷ (ins ++ h.Close ∷ []))
    by h.Module same takes_it fits is = record {
      items = ins;
      is = refl;
      turned =
          items-turned L (each_of fits) refl refl 1
          (not-true
          (list_any (λ (top : TopItem). begins_with is_module_declaration top.items)
          (top_items (tree_of_items ins)))
          (and_parts
          (not (list_any (λ (top : TopItem). begins_with is_module_declaration top.items)
          (top_items (tree_of_items ins)))) (not (has_import_meta (tree_of_items ins))) is).0);
      taken =
          taken-by-es ins
          (taken-es (tree_of_items ins)
          (all-seated (last (node {sort = AModule} {field = 0} takes_it fits)) refl));
    }
    by _ same takes_it fits is = absurd (false≢true takes_it)

-- ONE ENTRY
module _ (p : Program) (list : List ℕ) (sound : AreTreesSound p list) (context : BundleContexts) where
  script-of : (c : ℕ) → IsReached p c → IsCommonJs p c → IsScriptTree (λ i. ⊥) (tree_of p c)
  script-of c reached its = script-tree (λ i. ⊥) (sound.fit.each c reached) its.script

  undoubled-of : (c : ℕ) (reached : IsReached p c) (its : IsCommonJs p c) →
      first_doubled Cjs (tree_of_items (script-of c reached its).items) ≡ None
  undoubled-of c reached its =
      ap (first_doubled Cjs) (sym (script-of c reached its).is)
      ∙ sound.undoubled c Cjs reached (is_common_js its)

  pub one-entries : HasOneEntries p context
  one-entries = record {
    one_label = λ c i l other reached its one two.
        let script = script-of c reached its in
        one-label script.turned script.taken (undoubled-of c reached its) c (numbers_in context c) i
        l other
        (subst (λ t. OwnEntry c (numbers_in context c) t i l) script.is one)
        (subst (λ t. OwnEntry c (numbers_in context c) t i other) script.is two);
    one_ident = λ c i other l reached its one two.
        let script = script-of c reached its in
        one-ident script.turned script.taken (undoubled-of c reached its) c (numbers_in context c) i
        other l
        (subst (λ t. OwnEntry c (numbers_in context c) t i l) script.is one)
        (subst (λ t. OwnEntry c (numbers_in context c) t other l) script.is two);
  }
