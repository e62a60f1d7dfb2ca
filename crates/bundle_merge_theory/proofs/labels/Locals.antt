-- Each local name that a module without faults exports is one that its top binds.
use Rattle.std.proofs.Common.{◌≡◌, inl, inr, ℕ, zero, Bool, true, false, List, [], ◌∷◌, ◌++◌, append_assoc, Option, Some, None, Contains, refl, sym, ap, ◌∙◌, subst, if◌then◌else◌}
use Rattle.std.specs.Prelude.{filter, slice_get, unwrap_or}
use Rattle.std.proofs.lemmas.Bool.{false≢true, true≢false}
use Rattle.bundle_tree_names.specs.FileName.{Name as FileName}
use Rattle.bundle_syntax.specs.declared.kind.ExportMetadata.{ExportMetadata}
use Rattle.bundle_syntax.specs.declared.piece.Role.{Role}
use Rattle.bundle_syntax.specs.declared.piece.Role.TheVariants as r
use Rattle.bundle_syntax.specs.Item as h
use Rattle.bundle_syntax.specs.Item.{Item, Head}
use Rattle.bundle_rules.specs.Nodes.{Text, has_text, begins_in, begins_with, side_by_side, in_field as nodes_in, child, first_or_nothing, name_of, string_of}
use Rattle.bundle_rules.specs.Places.{Spot, past, start}
use Rattle.bundle_rules.specs.Scopes.{Es, Top}
use Rattle.bundle_rules.specs.Declarations.{BySymbol, Declared, declared_at, nameless_default}
use Rattle.bundle_rules.specs.Bound.{top_names}
use Rattle.bundle_rules.specs.Entries.{Taken, Named, Whole, ImportEntry, ExportEntry, Local, Indirect, Star, imports_of, import_of, names_declared, text_in, renamed_text, given_on, entry_from, entry_here, entries_of_list, default_declared, exports_of_item, exports_of}
use Rattle.bundle_rules.specs.Faults.{IsFaultless, undeclared_export, ListedName, is_named_specifier, is_string_head, listed_text, listed_name, names_in_list, names_listed, listed_names}
use Rattle.bundle_rules.specs.Statements.{TopItem, top_items, default_name}
use Rattle.bundle_scope_names.specs.fit.Sorts.{NodeSort, One, Many, Optional, slot, AModule, AnItem, AnExport, AnInner, AnOuter, ASource, takes_head, takes_name, names_of_sort, slots}
use Rattle.bundle_scope_names.specs.fit.Fits.{AreFit, no_more, over, a_name, a_node, IsFit, name, node}
use Rattle.bundle_merge_theory.specs.grouped.Renaming.{HasWays}
use Rattle.bundle_merge_theory.proofs.fit.Facts.{one_ways}
use Rattle.bundle_merge_theory.proofs.fit.Clearing.{beside, ends}
use Rattle.bundle_link_targets.proofs.ListLemmas.{first-there}
use Rattle.bundle_link_index.proofs.AskedLemmas.{none_there as none-there, only_one as only-one, flat_back as flat-back, flat_on}
use Rattle.bundle_link_index.proofs.ProgramLemmas.{first_or_later as there-cases, map_back as map-back, filter_back as filter-back, filter_on as filter-on, got as there-place}
use Rattle.bundle_merge_theory.proofs.labels.Modules.{module-list}
use Rattle.bundle_merge_theory.proofs.labels.Bound.{IsBound, bound-later, bound-front}
use Rattle.bundle_merge_theory.proofs.labels.Entries.{IsTopAt, top-at, bound-top, top-name, has-there, node_of, exported-bound, default-bound}

-- ---- entries
-- of what an entry is, if it is local
entry-of : ExportEntry → Text
entry-of (Local x y) = y
entry-of (Indirect x s taken) = []
entry-of (Star s) = []

same-of : (x y z w : Text) → Local x y ≡ Local z w → y ≡ w
unfolding entry-of
same-of x y z w e = ap entry-of e

given-local : (its of x y : Text) (found : Option ImportEntry) → given_on its of found ≡ Local x y →
    of ≡ y
given-local its of x y None e = same-of its of x y e
given-local its of x y (Some entry) e = by entry.taken e
  where
    by : (taken : Taken) →
        (elim taken [ Named z ↦ Indirect its entry.specifier (Named z) | Whole ↦ Local its of ]) ≡
        Local x y → of ≡ y
    by (Named z) e = cc
    by Whole e = same-of its of x y e

-- ---- the specifiers of a list of exports
no-export : (role : Role) → takes_name role AnExport ≡ true → ⊥
no-export r.Binding is = false≢true is
no-export r.Reference is = false≢true is
no-export r.Word is = false≢true is

no-source : (role : Role) → takes_name role ASource ≡ true → ⊥
no-source r.Binding is = false≢true is
no-source r.Reference is = false≢true is
no-source r.Word is = false≢true is

sides-first : (sort : NodeSort) (n : ℕ) (hd : Head) (ins rest : List Item) → takes_head hd sort ≡ true →
    AreFit (slots hd (names_of_sort sort)) ins →
    side_by_side zero (h.Open n hd ∷ ((ins ++ h.Close ∷ rest) ++ h.Close ∷ [])) ≡ node_of n hd ins ∷
    side_by_side zero (rest ++ h.Close ∷ [])
sides-first sort n hd ins rest it in_it =
    ap (λ l. side_by_side zero (h.Open n hd ∷ l))
    (append_assoc ins (h.Close ∷ rest) (h.Close ∷ [])
    ∙ sym (append_assoc ins (h.Close ∷ []) (rest ++ h.Close ∷ [])))
    ∙ beside (node {sort = sort} {field = n} {head = hd} {inside = ins} it in_it)
    (rest ++ h.Close ∷ [])

source-last : {items : List Item} → AreFit (slot 1 Optional ASource ∷ []) items →
    (spec : List Item) →
    Contains (side_by_side zero (items ++ h.Close ∷ [])) spec → begins_in 0 spec ≡ true → ⊥
source-last (over e no_more) spec c is = none-there spec c
source-last (a_name {role = role} it fit) spec c is = no-source role it
source-last (a_node {head = hd} {inside = ins} {rest = rest} it in_it fit) spec c is =
    let none : rest ≡ [] = ends fit in
    let sides : side_by_side zero (h.Open 1 hd ∷ ((ins ++ h.Close ∷ rest) ++ h.Close ∷ [])) ≡
    node_of 1 hd ins ∷ [] =
    sides-first ASource 1 hd ins rest it in_it
    ∙ ap (λ l. node_of 1 hd ins ∷ side_by_side zero (l ++ h.Close ∷ [])) none in
    false≢true
    (ap (begins_in 0) (only-one (node_of 1 hd ins) spec (subst (λ l. Contains l spec) sides c))
    ∙ is)

specifier-fit : {items : List Item} →
    AreFit (slot 0 Many AnExport ∷ slot 1 Optional ASource ∷ []) items →
    (spec : List Item) → Contains (side_by_side zero (items ++ h.Close ∷ [])) spec →
    begins_in 0 spec ≡ true → IsFit AnExport 0 spec
specifier-fit (over e fit) spec c is = absurd (source-last fit spec c is)
specifier-fit (a_name {role = role} it fit) spec c is = absurd (no-export role it)
specifier-fit (a_node {head = hd} {inside = ins} {rest = rest} it in_it fit) spec c is =
    elim
    (there-cases (node_of 0 hd ins) (side_by_side zero (rest ++ h.Close ∷ [])) spec
    (subst (λ l. Contains l spec) (sides-first AnExport 0 hd ins rest it in_it) c)) [
      | inl e ↦
          subst (IsFit AnExport 0) e
          (node {sort = AnExport} {field = 0} {head = hd} {inside = ins} it in_it)
      | inr later ↦ specifier-fit fit spec later is
    ]

-- the name that a specifier exports
inner-head : (k : Head) → takes_head k AnInner ≡ true →
    (value : Text) × ((rest : List Item) → name_of (h.Open 0 k ∷ rest) ≡ Some value)
inner-head (h.Str value raw) is = (value, λ rest. refl)
inner-head _ is = absurd (false≢true is)

specifier-name : {ins : List Item} →
    AreFit (slot 0 One AnInner ∷ slot 1 Optional AnOuter ∷ []) ins →
    (x : Text) × (name_of (child 0 (node_of 0 h.ExportNamedSpecifier ins)) ≡ Some x)
specifier-name (over e fit) = absurd (true≢false e)
specifier-name (a_name {x = x} it fit) = (x, refl)
specifier-name (a_node {head = k} {inside = ins} {rest = rest} it in_it fit) =
    let its = inner-head k it in (
      its.0,
      ap (λ l. name_of (first_or_nothing (filter (begins_in 0) l)))
          (sides-first AnInner 0 k ins rest it in_it)
          ∙ its.1 (ins ++ h.Close ∷ []),
    )

-- a local entry of a specifier is of a name that is listed
module _ (imports : List ImportEntry) (x y : Text) where
  listed-of : (ins : List Item) → AreFit (slot 0 One AnInner ∷ slot 1 Optional AnOuter ∷ []) ins →
      text_in 0 (node_of 0 h.ExportNamedSpecifier ins) ≡ y →
      (listed : ListedName) × Contains (listed_name (node_of 0 h.ExportNamedSpecifier ins)) listed ×
      (listed.text ≡ y)
  listed-of ins fit e =
      let its = specifier-name fit in
      let spec = node_of 0 h.ExportNamedSpecifier ins in
      let one : ListedName =
      record { text = its.0; is_string = begins_with is_string_head (child 0 spec) } in (
        one,
        subst (λ l. Contains l one)
            (sym (ap (listed_text spec (begins_with is_string_head (child 0 spec))) its.1))
            (first-there one []),
        ap (λ n. unwrap_or n []) (sym its.1) ∙ e,
      )

  specifier-listed : (spec : List Item) → IsFit AnExport 0 spec →
      Contains (entry_here imports spec) (Local x y) →
      (begins_with is_named_specifier spec ≡ true) ×
      ((listed : ListedName) × Contains (listed_name spec) listed × (listed.text ≡ y))
  specifier-listed _ (name {role = role} it) c = absurd (no-export role it)
  specifier-listed _ (node {head = hd} {inside = ins} it in_it) c = by hd it in_it c
    where
      by : (k : Head) → takes_head k AnExport ≡ true → AreFit (slots k r.Reference) ins →
          Contains (entry_here imports (node_of 0 k ins)) (Local x y) →
          (begins_with is_named_specifier (node_of 0 k ins) ≡ true) ×
          ((listed : ListedName) × Contains (listed_name (node_of 0 k ins)) listed ×
          (listed.text ≡ y))
      by h.ExportNamedSpecifier is fit c =
          let spec = node_of 0 h.ExportNamedSpecifier ins in (
            refl,
            listed-of ins fit
                (given-local (renamed_text spec) (text_in 0 spec) x y
                (import_of imports (text_in 0 spec)) (only-one _ (Local x y) c)),
          )
      by h.ExportNamespaceSpecifier is fit c = none-there (Local x y) c
      by _ is fit c = absurd (false≢true is)

  from-none : (source : Text) (b : Bool) (one two : Text) →
      (if b then Indirect one source Whole else Indirect two source (Named one)) ≡ Local x y → ⊥
  from-none source true one two e = cc
  from-none source false one two e = cc

  list-listed : (meta : ExportMetadata) (ins : List Item) →
      AreFit (slot 0 Many AnExport ∷ slot 1 Optional ASource ∷ []) ins →
      Contains
      (entries_of_list imports (string_of (child 1 (node_of 0 (h.NamedExport meta) ins)))
      (node_of 0 (h.NamedExport meta) ins)) (Local x y) →
      (listed : ListedName) × Contains (names_listed (node_of 0 (h.NamedExport meta) ins)) listed ×
      (listed.text ≡ y)
  list-listed meta ins fit c = by (string_of (child 1 (node_of 0 (h.NamedExport meta) ins))) c
    where
      list : List Item
      list = node_of 0 (h.NamedExport meta) ins

      by : (source : Option Text) →
          Contains (entries_of_list imports source (node_of 0 (h.NamedExport meta) ins))
          (Local x y) →
          (listed : ListedName) × Contains
          (names_in_list source (node_of 0 (h.NamedExport meta) ins)) listed × (listed.text ≡ y)
      by (Some source) c =
          let back = map-back (entry_from source) (nodes_in 0 list) (Local x y) c in
          absurd (from-none source _ (text_in 0 back.0) (renamed_text back.0) back.2)
      by None c =
          let back = flat-back (entry_here imports) (nodes_in 0 list) (Local x y) c in
          let kept =
          filter-back (begins_in 0) (side_by_side zero (ins ++ h.Close ∷ [])) back.0 back.1 in
          let its = specifier-listed back.0 (specifier-fit fit back.0 kept.0 kept.1) back.2 in (
            its.1.0,
            flat_on listed_name (filter (begins_with is_named_specifier) (nodes_in 0 list)) back.0
                its.1.0
                (filter-on (begins_with is_named_specifier) (nodes_in 0 list) back.0 back.1 its.0)
                its.1.1,
            its.1.2,
          )

-- ---- a module
module _ (ins : List Item) (fit : AreFit (slot 0 Many AnItem ∷ []) ins) where
  abbrev whole : List Item
  whole = h.Open 0 h.Module ∷ (ins ++ h.Close ∷ [])

  module _ (ways : HasWays (h.Open 0 h.Module ∷ (ins ++ h.Close ∷ []))) (file : FileName)
      (sound : IsFaultless file (h.Open 0 h.Module ∷ (ins ++ h.Close ∷ []))) where
    abbrev top_spot : Spot
    top_spot = past start (h.Open 0 h.Module)

    bound-whole : (y : Text) → IsBound top_spot ins y → Contains (top_names whole) y
    bound-whole y its =
        bound-top whole ways y
        (bound-later start (h.Open 0 h.Module) (ins ++ h.Close ∷ []) y
        (bound-front top_spot ins (h.Close ∷ []) y its))

    listed-top : (listed : ListedName) → Contains (listed_names whole) listed →
        Contains (top_names whole) listed.text
    listed-top listed c =
        let at = there-place (listed_names whole) listed c in
        by (has_text listed.text (top_names whole)) refl at.0 at.1
      where
        by : (b : Bool) → has_text listed.text (top_names whole) ≡ b → (j : ℕ) →
            slice_get (listed_names whole) j ≡ Some listed → Contains (top_names whole) listed.text
        by true is j at = has-there listed.text (top_names whole) is
        by false is j at = absurd (sound 1 j _ (undeclared_export listed at (inr is)))

    default-whole : (top : TopItem) (its : IsTopAt top_spot ins top) → (d : Declared) →
        d.scopes ≡ Top ∷ [] →
        d.name.sym ≡ default_name →
        ((rest : List Item) →
        declared_at BySymbol Es its.spot (h.Open 0 its.head) (its.inside ++ h.Close ∷ rest) ≡
        Some d) →
        Contains (top_names whole) default_name
    default-whole top its d scopes named says =
        subst (Contains (top_names whole)) named
        (top-name whole d (its.first (h.Close ∷ []) d says) scopes)

    local-of : (top : TopItem) → Contains (top_items whole) top → (x y : Text) →
        Contains (exports_of_item (imports_of whole) top.items) (Local x y) →
        Contains (top_names whole) y
    local-of top there x y c =
        let its = top-at fit top_spot (λ field. refl) 1 top there in
        by its its.head its.inside refl refl its.is its.fits
        (subst (λ l. Contains (exports_of_item (imports_of whole) l) (Local x y)) its.is c)
      where
        imports : List ImportEntry
        imports = imports_of whole

        by : (its : IsTopAt top_spot ins top) → (k : Head) (body : List Item) → its.head ≡ k →
            its.inside ≡ body →
            top.items ≡ node_of 0 k body → AreFit (slots k r.Reference) body →
            Contains (exports_of_item (imports_of whole) (node_of 0 k body)) (Local x y) →
            Contains (top_names whole) y
        by its h.ExportDecl body ek eb is fits c =
            let back =
            map-back (λ z. Local z z) (names_declared (child 0 (node_of 0 h.ExportDecl body)))
            (Local x y) c in
            let same : back.0 ≡ y = same-of back.0 back.0 x y back.2 in
            bound-whole y (its.bound y (subst (λ l. IsBound its.spot l y) (sym is)
            (subst (IsBound its.spot (node_of 0 h.ExportDecl body)) same
            (exported-bound fits its.spot its.at_top back.0 back.1))))
        by its (h.NamedExport meta) body ek eb is fits c =
            let found = list-listed imports x y meta body fits c in
            subst (Contains (top_names whole)) found.2
            (listed-top found.0
            (flat_on (λ (t : TopItem). names_listed t.items) (top_items whole) top found.0 there
            (subst (λ l. Contains (names_listed l) found.0) (sym is) found.1)))
        by its h.ExportDefaultDecl body ek eb is fits c =
            let same : default_declared (child 0 (node_of 0 h.ExportDefaultDecl body)) ≡ y =
            same-of default_name _ x y (only-one _ (Local x y) c) in
            elim (default-bound fits its.spot its.at_top) [
              | inl bound ↦
                  bound-whole y
                  (its.bound y
                  (subst (λ l. IsBound its.spot l y) (sym is)
                  (subst (IsBound its.spot (node_of 0 h.ExportDefaultDecl body)) same bound)))
              | inr named ↦ subst (Contains (top_names whole)) (sym named.0 ∙ same)
                  (default-whole top its named.1.0 named.1.1 named.1.2
                  (λ rest. ap
                  (λ k. declared_at BySymbol Es its.spot (h.Open 0 k)
                  (its.inside ++ h.Close ∷ rest)) ek
                  ∙ ap
                  (λ l. declared_at BySymbol Es its.spot (h.Open 0 h.ExportDefaultDecl)
                  (l ++ h.Close ∷ rest)) eb
                  ∙ named.1.3 rest))
            ]
        by its h.ExportDefaultExpr body ek eb is fits c =
            let same : default_name ≡ y =
            same-of default_name default_name x y (only-one _ (Local x y) c) in
            subst (Contains (top_names whole)) same
            (default-whole top its (nameless_default Es its.spot.place) refl refl
            (λ rest. ap
            (λ k. declared_at BySymbol Es its.spot (h.Open 0 k) (its.inside ++ h.Close ∷ rest))
            ek))
        by its (h.ExportAll meta) body ek eb is fits c = let e = only-one _ (Local x y) c in cc
        by its _ body ek eb is fits c = none-there (Local x y) c

    pub local-inside : (x y : Text) → Contains (exports_of whole) (Local x y) →
        Contains (top_names whole) y
    local-inside x y c =
        let back =
        flat-back (λ (top : TopItem). exports_of_item (imports_of whole) top.items)
        (top_items whole) (Local x y) c in
        local-of back.0 back.1 x y back.2

-- a local entry is of a name that the top binds
pub local-top : (list : List Item) → IsFit AModule 0 list → (file : FileName) →
    IsFaultless file list →
    (x y : Text) → Contains (exports_of list) (Local x y) → Contains (top_names list) y
local-top list fit file sound x y c =
    let its = module-list fit in
    subst (λ l. Contains (top_names l) y) (sym its.is)
    (local-inside its.inside its.fits (subst HasWays its.is (one_ways fit refl)) file
    (subst (IsFaultless file) its.is sound) x y
    (subst (λ l. Contains (exports_of l) (Local x y)) its.is c))
