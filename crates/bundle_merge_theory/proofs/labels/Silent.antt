-- Which fields of a tree declare nothing, and which have no default export.
-- What imports declare are the names of their entries.
use Rattle.std.proofs.Common.{◌≡◌, inl, inr, ℕ, Bool, true, false, not, List, [], ◌∷◌, ◌++◌, Some, Contains, refl, ◌⊎◌, zero, append_assoc, sym, ap, ◌∙◌, subst}
use Rattle.std.specs.Prelude.{fold, filter, flat_map}
use Rattle.std.proofs.lemmas.Bool.{false≢true, true≢false, and_parts}
use Rattle.std.proofs.lemmas.Option.{none-some}
use Rattle.bundle_syntax.specs.declared.piece.Role.{Role}
use Rattle.bundle_syntax.specs.Item as h
use Rattle.bundle_syntax.specs.Item.{Item, Head}
use Rattle.bundle_syntax.specs.declared.piece.Role.TheVariants as r
use Rattle.bundle_rules.specs.Places.{Spot, past, is_binding}
use Rattle.bundle_rules.specs.Scopes.{Es}
use Rattle.bundle_rules.specs.Declarations.{BySymbol, Declared, declared_at, declared_from}
use Rattle.bundle_rules.specs.Callable.{is_module_head}
use Rattle.bundle_rules.specs.Nodes.{Text, begins_in, side_by_side}
use Rattle.bundle_rules.specs.Entries.{ImportEntry, taken_by, import_entry}
use Rattle.bundle_scope_names.specs.fit.Sorts.{NodeSort, AnExport, AnOuter, AnInner, ASource, NodeSlot, takes_head, takes_name, names_of_sort, slots, One, Many, Optional, slot, ALocal, AnImport}
use Rattle.bundle_scope_names.specs.fit.Fits.{AreFit, no_more, over, a_name, a_hole, a_node, node}
use Rattle.bundle_scope_names.specs.fit.Seen.{each_slot}
use Rattle.bundle_scope_names.proofs.fit.Keys.{after_slot}
use Rattle.bundle_scope_names.proofs.fit.Rows.{is_own, own_head, own_slots}
use Rattle.bundle_link_index.proofs.ProgramLemmas.{later as later-there, filter_on as filter-on}
use Rattle.bundle_link_index.proofs.AskedLemmas.{flat_on}
use Rattle.bundle_link_targets.proofs.ListLemmas.{first-there}
use Rattle.bundle_link.proofs.NodePaths.{fold-append}
use Rattle.bundle_merge_theory.proofs.labels.Walked as w
use Rattle.bundle_merge_theory.proofs.labels.Walked.{exports_default, HasNoDefault, no-default-join, put-cases, declared-here}
use Rattle.bundle_merge_theory.proofs.fit.Clearing.{beside}

-- ---- no default export stands in statements
head-plain : (n : ℕ) (head : Head) → is_module_head head ≡ false →
    exports_default (h.Open n head) ≡ false
head-plain n h.ExportDefaultExpr e = absurd (true≢false e)
head-plain n h.ExportDefaultDecl e = absurd (true≢false e)
head-plain n _ e = refl

pub own-plain : {list : List NodeSlot} {items : List Item} → AreFit list items →
    each_slot (λ number sort. is_own sort) list ≡ true → HasNoDefault items
own-plain no_more own = w.over
own-plain (over {number = n} {sort = k} {more = more} e fit) own =
    own-plain fit (and_parts (is_own k) (each_slot (λ number sort. is_own sort) more) own).1
own-plain (a_name {number = n} {count = c} {sort = k} {more = more} it fit) own =
    w.next refl (own-plain fit (after_slot (λ number sort. is_own sort) n c k more own))
own-plain (a_hole fit) own = w.next refl (own-plain fit own)
own-plain
    (a_node {number = n} {count = c} {sort = k} {more = more} {head = hd} {inside = ins}
    {rest = rest} it in_it fit) own =
    let here = (and_parts (is_own k) (each_slot (λ number sort. is_own sort) more) own).0 in
    w.next (head-plain n hd (own_head hd k it here))
    (no-default-join ins (h.Close ∷ rest) (own-plain in_it (own_slots hd k it here))
    (w.next refl (own-plain fit (after_slot (λ number sort. is_own sort) n c k more own))))

-- ---- what lists of exports name is not declared there
-- whether an element declares nothing
abbrev pub is_silent : Item → Bool
is_silent (h.Open field h.ExportDefaultExpr) = false
is_silent (h.Open field h.ExportDefaultDecl) = false
is_silent (h.Open field head) = true
is_silent (h.Ident field x ctxt role) = not (is_binding role)
is_silent (h.Hole field) = true
is_silent h.Close = true

pub data AreSilent : List Item → Type 0 where
  ended : AreSilent []
  more : {x : Item} {rest : List Item} → is_silent x ≡ true → AreSilent rest → AreSilent (x ∷ rest)

pub silent-join : (xs ys : List Item) → AreSilent xs → AreSilent ys → AreSilent (xs ++ ys)
silent-join [] ys ended them = them
silent-join (x ∷ xs) ys (more e rest) them = more e (silent-join xs ys rest them)

silent-here : (s : Spot) (x : Item) (rest : List Item) (d : Declared) → is_silent x ≡ true →
    declared_at BySymbol Es s x rest ≡ Some d → ⊥
silent-here s (h.Ident field x ctxt r.Binding) rest d is e = false≢true is
silent-here s (h.Ident field x ctxt r.Reference) rest d is e = none-some d e
silent-here s (h.Ident field x ctxt r.Word) rest d is e = none-some d e
silent-here s (h.Hole field) rest d is e = none-some d e
silent-here s h.Close rest d is e = none-some d e
silent-here s (h.Open field head) rest d is e = by head is e
  where
    by : (k : Head) → is_silent (h.Open field k) ≡ true →
        declared_at BySymbol Es s (h.Open field k) rest ≡ Some d → ⊥
    by h.ExportDefaultExpr is e = false≢true is
    by h.ExportDefaultDecl is e = false≢true is
    by _ is e = none-some d e

pub silent-behind : (items : List Item) → AreSilent items → (s : Spot) (tail : List Item)
    (d : Declared) → Contains (declared_from BySymbol Es s (items ++ tail)) d →
    Contains (declared_from BySymbol Es (fold past s items) tail) d
silent-behind [] ended s tail d c = c
silent-behind (x ∷ items) (more e rest) s tail d c =
    elim
    (put-cases (declared_at BySymbol Es s x (items ++ tail))
    (declared_from BySymbol Es (past s x) (items ++ tail)) d c) [
      | inl first ↦ absurd (silent-here s x (items ++ tail) d e first)
      | inr later ↦ silent-behind items rest (past s x) tail d later
    ]

-- the sorts of what export lists and sources hold
abbrev pub is_listed : NodeSort → Bool
is_listed AnExport = true
is_listed AnOuter = true
is_listed AnInner = true
is_listed ASource = true
is_listed _ = false

listed-name : (role : Role) (sort : NodeSort) → takes_name role sort ≡ true → is_listed sort ≡ true →
    not (is_binding role) ≡ true
listed-name r.Reference sort is ok = refl
listed-name r.Word sort is ok = refl
listed-name r.Binding AnExport is ok = absurd (false≢true is)
listed-name r.Binding AnOuter is ok = absurd (false≢true is)
listed-name r.Binding AnInner is ok = absurd (false≢true is)
listed-name r.Binding ASource is ok = absurd (false≢true is)
listed-name r.Binding _ is ok = absurd (false≢true ok)

abbrev Listed : ℕ → Head → Role → Type 0
Listed n head names =
    (is_silent (h.Open n head) ≡ true) ×
    (each_slot (λ number sort. is_listed sort) (slots head names) ≡ true)

in-export : (n : ℕ) (head : Head) → takes_head head AnExport ≡ true → Listed n head r.Reference
in-export n h.ExportNamespaceSpecifier is = (refl, refl)
in-export n h.ExportNamedSpecifier is = (refl, refl)
in-export n _ is = absurd (false≢true is)

in-outer : (n : ℕ) (head : Head) → takes_head head AnOuter ≡ true → Listed n head r.Reference
in-outer n (h.Str value raw) is = (refl, refl)
in-outer n _ is = absurd (false≢true is)

in-inner : (n : ℕ) (head : Head) → takes_head head AnInner ≡ true → Listed n head r.Reference
in-inner n (h.Str value raw) is = (refl, refl)
in-inner n _ is = absurd (false≢true is)

in-source : (n : ℕ) (head : Head) → takes_head head ASource ≡ true → Listed n head r.Reference
in-source n (h.Str value raw) is = (refl, refl)
in-source n _ is = absurd (false≢true is)

listed-head : (n : ℕ) (head : Head) (sort : NodeSort) → takes_head head sort ≡ true → is_listed sort ≡ true →
    Listed n head (names_of_sort sort)
listed-head n head AnExport is ok = in-export n head is
listed-head n head AnOuter is ok = in-outer n head is
listed-head n head AnInner is ok = in-inner n head is
listed-head n head ASource is ok = in-source n head is
listed-head n head _ is ok = absurd (false≢true ok)

pub listed-silent : {list : List NodeSlot} {items : List Item} → AreFit list items →
    each_slot (λ number sort. is_listed sort) list ≡ true → AreSilent items
listed-silent no_more ok = ended
listed-silent (over {number = n} {sort = k} {more = rest} e fit) ok =
    listed-silent fit
    (and_parts (is_listed k) (each_slot (λ number sort. is_listed sort) rest) ok).1
listed-silent (a_name {number = n} {count = c} {sort = k} {more = rest} {role = role} it fit) ok =
    more
    (listed-name role k it
    (and_parts (is_listed k) (each_slot (λ number sort. is_listed sort) rest) ok).0)
    (listed-silent fit (after_slot (λ number sort. is_listed sort) n c k rest ok))
listed-silent (a_hole fit) ok = more refl (listed-silent fit ok)
listed-silent
    (a_node {number = n} {count = c} {sort = k} {more = rest} {head = hd} {inside = ins}
    {rest = behind} it in_it fit) ok =
    let here =
    listed-head n hd k it
    (and_parts (is_listed k) (each_slot (λ number sort. is_listed sort) rest) ok).0 in
    more here.0
    (silent-join ins (h.Close ∷ behind) (listed-silent in_it here.1)
    (more refl (listed-silent fit (after_slot (λ number sort. is_listed sort) n c k rest ok))))

-- ---- a local name
pub record IsLocal (field : ℕ) (items : List Item) (others : List NodeSlot) : Type 0 where
  pub name : Text
  pub ctxt : ℕ
  pub rest : List Item
  pub is : items ≡ h.Ident field name ctxt r.Binding ∷ rest
  pub fits : AreFit others rest

pub local-role : (role : Role) → takes_name role ALocal ≡ true → role ≡ r.Binding
local-role r.Binding is = refl
local-role r.Reference is = absurd (false≢true is)
local-role r.Word is = absurd (false≢true is)

pub local-head : (head : Head) → takes_head head ALocal ≡ true → ⊥
local-head h.Module is = false≢true is
local-head _ is = false≢true is

pub local-first : (n : ℕ) (others : List NodeSlot) {items : List Item} →
    AreFit (slot n One ALocal ∷ others) items → IsLocal n items others
local-first n others (over e fit) = absurd (true≢false e)
local-first n others (a_name {x = x} {ctxt = t} {role = role} {rest = rest} it fit) = record {
  name = x;
  ctxt = t;
  rest = rest;
  is = ap (λ k. h.Ident n x t k ∷ rest) (local-role role it);
  fits = fit;
}
local-first n others (a_node {head = hd} it in_it fit) = absurd (local-head hd it)

pub local-maybe : (n : ℕ) (others : List NodeSlot) {items : List Item} →
    AreFit (slot n Optional ALocal ∷ others) items → IsLocal n items others ⊎ AreFit others items
local-maybe n others (over e fit) = inr fit
local-maybe n others (a_name {x = x} {ctxt = t} {role = role} {rest = rest} it fit) = inl (record {
  name = x;
  ctxt = t;
  rest = rest;
  is = ap (λ k. h.Ident n x t k ∷ rest) (local-role role it);
  fits = fit;
})
local-maybe n others (a_node {head = hd} it in_it fit) = absurd (local-head hd it)

-- ---- a specifier
-- it begins with a local name, which is that of its entry, and declares no other
pub record IsSpecifier (head : Head) (inside : List Item) : Type 0 where
  pub name : Text
  pub ctxt : ℕ
  pub rest : List Item
  pub is : inside ≡ h.Ident 0 name ctxt r.Binding ∷ rest
  pub silent : AreSilent rest
  pub none : (s : Spot) (behind : List Item) (d : Declared) →
      declared_at BySymbol Es s (h.Open 0 head) behind ≡ Some d → ⊥

specifier-by : (head : Head) (others : List NodeSlot) {inside : List Item} →
    AreFit (slot 0 One ALocal ∷ others) inside →
    each_slot (λ number sort. is_listed sort) others ≡ true →
    ((s : Spot) (b : List Item) (d : Declared) →
    declared_at BySymbol Es s (h.Open 0 head) b ≡ Some d → ⊥) →
    IsSpecifier head inside
specifier-by head others (over e fit) ok alone = absurd (true≢false e)
specifier-by head others (a_name {x = x} {ctxt = t} {role = role} {rest = rest} it fit) ok alone =
    record {
      name = x;
      ctxt = t;
      rest = rest;
      is = ap (λ k. h.Ident 0 x t k ∷ rest) (local-role role it);
      silent = listed-silent fit ok;
      none = alone;
    }
specifier-by head others (a_node {head = hd} it in_it fit) ok alone = absurd (local-head hd it)

specifier : (head : Head) → takes_head head AnImport ≡ true → {inside : List Item} →
    AreFit (slots head (names_of_sort AnImport)) inside → IsSpecifier head inside
specifier h.ImportNamedSpecifier is fit =
    specifier-by h.ImportNamedSpecifier (slot 1 Optional AnOuter ∷ []) fit refl
    (λ s b d e. none-some d e)
specifier h.ImportDefaultSpecifier is fit =
    specifier-by h.ImportDefaultSpecifier [] fit refl (λ s b d e. none-some d e)
specifier h.ImportStarAsSpecifier is fit =
    specifier-by h.ImportStarAsSpecifier [] fit refl (λ s b d e. none-some d e)
specifier _ is fit = absurd (false≢true is)

pub no-import : (role : Role) → takes_name role AnImport ≡ true → ⊥
no-import r.Binding is = false≢true is
no-import r.Reference is = false≢true is
no-import r.Word is = false≢true is

-- ---- the specifiers of an import, and its source
-- an entry of that name
pub record IsEntryOf (source : Text) (nodes : List (List Item)) (x : Text) : Type 0 where
  pub node : List Item
  pub there : Contains nodes node
  pub begins : begins_in 0 node ≡ true
  pub entry : ImportEntry
  pub of : Contains (import_entry source node) entry
  pub local : entry.local ≡ x

pub entry-there : (source : Text) (nodes : List (List Item)) (x : Text) → IsEntryOf source nodes x →
    (entry : ImportEntry) × Contains (flat_map (import_entry source) (filter (begins_in 0) nodes))
    entry × (entry.local ≡ x)
entry-there source nodes x its = (
  its.entry,
  flat_on (import_entry source) (filter (begins_in 0) nodes) its.node its.entry
      (filter-on (begins_in 0) nodes its.node its.there its.begins) its.of,
  its.local,
)

-- what is declared in a specifier is its local name
specifier-declares : (head : Head) (inside : List Item) → IsSpecifier head inside → (source : Text)
    (others : List (List Item)) (s : Spot) (tail : List Item) (d : Declared) →
    Contains (declared_from BySymbol Es s (h.Open 0 head ∷ (inside ++ h.Close ∷ tail))) d →
    IsEntryOf source ((h.Open 0 head ∷ (inside ++ h.Close ∷ [])) ∷ others) d.name.sym
    ⊎ Contains
    (declared_from BySymbol Es (past (fold past (past s (h.Open 0 head)) inside) h.Close) tail)
    d
specifier-declares head inside its source others s tail d c =
    elim
    (put-cases (declared_at BySymbol Es s (h.Open 0 head) (inside ++ h.Close ∷ tail))
    (declared_from BySymbol Es (past s (h.Open 0 head)) (inside ++ h.Close ∷ tail)) d c) [
      | inl first ↦ absurd (its.none s (inside ++ h.Close ∷ tail) d first)
      | inr later ↦ by inside its.is later
    ]
  where
    first : Spot
    first = past s (h.Open 0 head)

    by : (ins : List Item) → ins ≡ h.Ident 0 its.name its.ctxt r.Binding ∷ its.rest →
        Contains (declared_from BySymbol Es first (ins ++ h.Close ∷ tail)) d →
        IsEntryOf source ((h.Open 0 head ∷ (ins ++ h.Close ∷ [])) ∷ others) d.name.sym
        ⊎ Contains (declared_from BySymbol Es (past (fold past first ins) h.Close) tail) d
    by ins e c =
        let one : Item = h.Ident 0 its.name its.ctxt r.Binding in
        subst
        (λ ins. IsEntryOf source ((h.Open 0 head ∷ (ins ++ h.Close ∷ [])) ∷ others) d.name.sym
        ⊎ Contains (declared_from BySymbol Es (past (fold past first ins) h.Close) tail) d) (sym e)
        (elim
        (put-cases (declared_at BySymbol Es first one (its.rest ++ h.Close ∷ tail))
        (declared_from BySymbol Es (past first one) (its.rest ++ h.Close ∷ tail)) d
        (subst (λ ins. Contains (declared_from BySymbol Es first (ins ++ h.Close ∷ tail)) d) e c)) [
          | inl here ↦
              let found = declared-here first one (its.rest ++ h.Close ∷ tail) d refl here in
              let name : its.name ≡ d.name.sym =
              name-of one (h.Ident found.field d.name.sym found.ctxt r.Binding) found.is in
              inl (record {
                node = h.Open 0 head ∷ ((one ∷ its.rest) ++ h.Close ∷ []);
                there = first-there _ others;
                begins = refl;
                entry =
                    record {
                      local = its.name;
                      specifier = source;
                      taken =
                          taken_by head (h.Open 0 head ∷ ((one ∷ its.rest) ++ h.Close ∷ []));
                    };
                of = first-there _ [];
                local = name;
              })
          | inr behind ↦
              inr (silent-behind its.rest its.silent (past first one) (h.Close ∷ tail) d behind)
        ])
      where
        symbol-of : Item → Text
        symbol-of (h.Ident field x ctxt role) = x
        symbol-of _ = []

        name-of : (x y : Item) → x ≡ y → symbol-of x ≡ symbol-of y
        name-of x y e = ap symbol-of e

-- what an import declares is the name of an entry
pub import-declares : {ins : List Item} →
    AreFit (slot 0 Many AnImport ∷ slot 1 One ASource ∷ []) ins →
    (source : Text) (s : Spot) (tail : List Item) (d : Declared) →
    Contains (declared_from BySymbol Es s (ins ++ tail)) d →
    IsEntryOf source (side_by_side zero (ins ++ h.Close ∷ [])) d.name.sym
    ⊎ Contains (declared_from BySymbol Es (fold past s ins) tail) d
import-declares {ins = ins} (over e fit) source s tail d c =
    inr (silent-behind ins (listed-silent fit refl) s tail d c)
import-declares (a_name {role = role} it fit) source s tail d c = absurd (no-import role it)
import-declares (a_node {head = hd} {inside = ins} {rest = rest} it in_it fit) source s tail d c =
    let whole : List Item = h.Open 0 hd ∷ (ins ++ h.Close ∷ []) in
    let sides : side_by_side zero (h.Open 0 hd ∷ ((ins ++ h.Close ∷ rest) ++ h.Close ∷ [])) ≡
    whole ∷ side_by_side zero (rest ++ h.Close ∷ []) =
    ap (λ l. side_by_side zero (h.Open 0 hd ∷ l))
    (append_assoc ins (h.Close ∷ rest) (h.Close ∷ [])
    ∙ sym (append_assoc ins (h.Close ∷ []) (rest ++ h.Close ∷ [])))
    ∙ beside (node {sort = AnImport} {field = 0} {head = hd} {inside = ins} it in_it)
    (rest ++ h.Close ∷ []) in
    let spots : fold past s (h.Open 0 hd ∷ (ins ++ h.Close ∷ rest)) ≡ fold past
    (past (fold past (past s (h.Open 0 hd)) ins) h.Close) rest =
    fold-append (past s (h.Open 0 hd)) ins (h.Close ∷ rest) in
    elim
    (specifier-declares hd ins (specifier hd it in_it) source
    (side_by_side zero (rest ++ h.Close ∷ [])) s (rest ++ tail) d
    (subst (λ l. Contains (declared_from BySymbol Es s (h.Open 0 hd ∷ l)) d)
    (append_assoc ins (h.Close ∷ rest) tail) c)) [
      | inl here ↦ inl (subst (λ l. IsEntryOf source l d.name.sym) (sym sides) here)
      | inr later ↦
          elim
          (import-declares fit source (past (fold past (past s (h.Open 0 hd)) ins) h.Close) tail d
          later) [
            | inl here ↦
                inl
                (subst (λ l. IsEntryOf source l d.name.sym) (sym sides)
                (record {
                  node = here.node;
                  there =
                      later-there whole (side_by_side zero (rest ++ h.Close ∷ [])) here.node here.there;
                  begins = here.begins;
                  entry = here.entry;
                  of = here.of;
                  local = here.local;
                }))
            | inr behind ↦
                inr
                (subst (λ (t : Spot). Contains (declared_from BySymbol Es t tail) d) (sym spots) behind)
          ]
    ]
