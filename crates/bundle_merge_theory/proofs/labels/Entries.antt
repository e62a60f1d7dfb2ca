-- A local name that a module exports is one that its top binds, entry by entry.
-- A local name that a module exports is one that its top binds.
use Rattle.std.proofs.Common.{◌≡◌, ◌⊎◌, inl, inr, ℕ, zero, ◌||◌, Bool, true, false, List, [], ◌∷◌, ◌++◌, append_assoc, append-nil, Some, Contains, refl, sym, ap, ◌∙◌, subst, bytes_eq, ◌+◌, length, None, cond}
use Rattle.std.specs.Prelude.{fold, filter, unwrap_or}
use Rattle.std.proofs.lemmas.Bool.{false≢true, true≢false}
use Rattle.std.proofs.lemmas.Slice.Eq.{bytes_eq-Decides}
use Rattle.bundle_syntax.specs.declared.piece.Role.{Role}
use Rattle.bundle_syntax.specs.Item as h
use Rattle.bundle_syntax.specs.Item.{Item, Head}
use Rattle.bundle_syntax.specs.declared.piece.Role.TheVariants as r
use Rattle.bundle_rules.specs.Nodes.{Text, has_text, begins_in, side_by_side, in_field as nodes_in, child, first_or_nothing, name_of}
use Rattle.bundle_rules.specs.Places.{Spot, past, start, Occurrence, occurrences, occurrences_from}
use Rattle.bundle_rules.specs.Scopes.{Es, Top, scopes_around}
use Rattle.bundle_rules.specs.Declarations.{BySymbol, Declared, declared_at, nameless_default, declared, declared_from, declared_by as declared_by_exported, declaration_of, way_of}
use Rattle.bundle_rules.specs.Entries.{names_bound, names_declared, declared_by, text_in, default_declared}
use Rattle.bundle_rules.specs.Statements.{default_name, TopItem, placed}
use Rattle.bundle_rules.specs.Homes.{takes as takes_way, from_taker, nearest, taker, parameters_of, joins_parameter, home_beside, home_of, is_top, is_wrapper}
use Rattle.bundle_rules.specs.Bound.{top_names}
use Rattle.bundle_rules.specs.Meaning.{plain}
use Rattle.bundle_scope_names.specs.fit.Sorts.{NodeSort, One, Many, Optional, slot, ADecl, ADefault, ADeclarator, ALocal, AFunction, AClass, takes_head, takes_name, names_of_sort, slots, AnItem}
use Rattle.bundle_scope_names.specs.fit.Fits.{AreFit, no_more, over, a_name, a_node, node}
use Rattle.bundle_link_index.proofs.AskedLemmas.{none_there as none-there, only_one as only-one, flat_back as flat-back}
use Rattle.bundle_link_index.proofs.ProgramLemmas.{later as later-there, first_or_later as there-cases, filter_back as filter-back, map_on as map-on, filter_on as filter-on, got as there-place}
use Rattle.bundle_link_targets.proofs.ListLemmas.{first-there}
use Rattle.bundle_merge_theory.specs.grouped.Renaming.{HasWays}
use Rattle.bundle_merge_theory.proofs.fit.Clearing.{beside, ends}
use Rattle.bundle_merge_theory.proofs.labels.Silent.{local-first, local-maybe}
use Rattle.bundle_merge_theory.proofs.labels.Bound.{IsAtTop, IsBound, top-behind, bound-later, bound-first, bound-front, bound-behind, names-bound}
use Rattle.bundle_merge_theory.proofs.labels.Stated.{no-default-name as no-default}
use Rattle.bundle_merge_theory.proofs.labels.Walked.{put-later, put-first}
use Rattle.bundle_merge_theory.proofs.labels.Modules.{no-item}

-- ---- texts
pub has-there : (x : Text) (xs : List Text) → has_text x xs ≡ true → Contains xs x
has-there x [] e = absurd (false≢true e)
has-there x (y ∷ xs) e = by (bytes_eq x y) refl e (has-there x xs)
  where
    by : (b : Bool) → bytes_eq x y ≡ b → (b || has_text x xs) ≡ true →
        (has_text x xs ≡ true → Contains xs x) → Contains (y ∷ xs) x
    by true is e ih =
        subst (λ z. Contains (y ∷ xs) z) (sym ((bytes_eq-Decides x y).0 is)) (first-there y xs)
    by false is e ih = later-there y xs x (ih e)

-- ---- a node that stands first in its field
abbrev pub node_of : ℕ → Head → List Item → List Item
node_of n head ins = h.Open n head ∷ (ins ++ h.Close ∷ [])

child-first : (sort : NodeSort) (k : Head) (ins : List Item) → takes_head k sort ≡ true →
    AreFit (slots k (names_of_sort sort)) ins → (head : Head) →
    child 0 (h.Open 0 head ∷ (node_of 0 k ins ++ h.Close ∷ [])) ≡ node_of 0 k ins
child-first sort k ins it in_it head =
    ap (λ l. first_or_nothing (filter (begins_in 0) l))
    (beside (node {sort = sort} {field = 0} {head = k} {inside = ins} it in_it) (h.Close ∷ []))

-- ---- a declaration that is exported
-- a declarator binds its names
declarators : {items : List Item} → AreFit (slot 1 Many ADeclarator ∷ []) items → (s : Spot) →
    IsAtTop s → (node : List Item) → Contains (side_by_side zero (items ++ h.Close ∷ [])) node →
    (x : Text) → Contains (names_bound zero node) x → IsBound s items x
declarators (over e no_more) s top its c x there = none-there its c
declarators (a_name {role = role} it fit) s top its c x there = absurd (no-declarator role it)
  where
    no-declarator : (role : Role) → takes_name role ADeclarator ≡ true → ⊥
    no-declarator r.Binding is = false≢true is
    no-declarator r.Reference is = false≢true is
    no-declarator r.Word is = false≢true is
declarators (a_node {head = hd} {inside = ins} {rest = rest} it in_it fit) s top its c x there =
    by
    (there-cases whole (side_by_side zero (rest ++ h.Close ∷ [])) its
    (subst (λ l. Contains l its) sides c))
    (λ later. declarators fit (fold past s whole) (top-behind one s top) its later x there)
  where
    whole : List Item
    whole = h.Open 1 hd ∷ (ins ++ h.Close ∷ [])

    one : AreFit (slot 1 One ADeclarator ∷ []) (h.Open 1 hd ∷ (ins ++ h.Close ∷ []))
    one = a_node it in_it no_more

    split : (h.Open 1 hd ∷ (ins ++ h.Close ∷ [])) ++ rest ≡ h.Open 1 hd ∷ (ins ++ h.Close ∷ rest)
    split = ap (λ l. h.Open 1 hd ∷ l) (append_assoc ins (h.Close ∷ []) rest)

    sides : side_by_side zero (h.Open 1 hd ∷ ((ins ++ h.Close ∷ rest) ++ h.Close ∷ [])) ≡
        (h.Open 1 hd ∷ (ins ++ h.Close ∷ [])) ∷ side_by_side zero (rest ++ h.Close ∷ [])
    sides =
        ap (λ l. side_by_side zero (h.Open 1 hd ∷ l))
        (append_assoc ins (h.Close ∷ rest) (h.Close ∷ [])
        ∙ sym (append_assoc ins (h.Close ∷ []) (rest ++ h.Close ∷ [])))
        ∙ beside (node {sort = ADeclarator} {field = 1} {head = hd} {inside = ins} it in_it)
        (rest ++ h.Close ∷ [])

    here : IsBound s whole x → IsBound s (h.Open 1 hd ∷ (ins ++ h.Close ∷ rest)) x
    here b = subst (λ l. IsBound s l x) split (bound-front s whole rest x b)

    by : (h.Open 1 hd ∷ (ins ++ h.Close ∷ []) ≡ its) ⊎ Contains
        (side_by_side zero (rest ++ h.Close ∷ [])) its →
        (Contains (side_by_side zero (rest ++ h.Close ∷ [])) its →
        IsBound (fold past s (h.Open 1 hd ∷ (ins ++ h.Close ∷ []))) rest x) →
        IsBound s (h.Open 1 hd ∷ (ins ++ h.Close ∷ rest)) x
    by (inl e) ih =
        elim
        (names-bound one s top [] x
        (subst (λ l. Contains (names_bound zero l) x) (sym e ∙ sym (append-nil whole)) there)) [
          | inl b ↦ here b
          | inr none ↦ none-there x none
        ]
    by (inr later) ih = subst (λ l. IsBound s l x) split (bound-behind s whole rest x (ih later))

-- the name that stands first in a declaration
first-bound : (k : Head) (sort : NodeSort) (ins : List Item) →
    AreFit (slot 0 One ALocal ∷ slot 1 One sort ∷ []) ins →
    (s : Spot) → IsAtTop (past s (h.Open 0 k)) → (x : Text) →
    Contains (text_in 0 (node_of 0 k ins) ∷ []) x → IsBound s (node_of 0 k ins) x
first-bound k sort ins fit s top x c =
    let its = local-first 0 (slot 1 One sort ∷ []) fit in
    let list : ins ++ h.Close ∷ [] ≡ h.Ident 0 its.name its.ctxt r.Binding ∷
    (its.rest ++ h.Close ∷ []) = ap (λ l. l ++ h.Close ∷ []) its.is in
    let text : text_in 0 (node_of 0 k ins) ≡ its.name = ap (λ l. text_in 0 (h.Open 0 k ∷ l)) list in
    let same : its.name ≡ x = sym text ∙ only-one (text_in 0 (node_of 0 k ins)) x c in
    bound-later s (h.Open 0 k) (ins ++ h.Close ∷ []) x
    (subst (λ l. IsBound (past s (h.Open 0 k)) l x) (sym list)
    (subst
    (IsBound (past s (h.Open 0 k))
    (h.Ident 0 its.name its.ctxt r.Binding ∷ (its.rest ++ h.Close ∷ []))) same
    (bound-first (past s (h.Open 0 k)) 0 its.name its.ctxt (its.rest ++ h.Close ∷ []) top)))

-- the names of a declaration are bound
declaration-bound : (k : Head) (ins : List Item) → takes_head k ADecl ≡ true →
    AreFit (slots k r.Reference) ins →
    (s : Spot) → IsAtTop s → (x : Text) → Contains (declared_by k (node_of 0 k ins)) x →
    IsBound s (node_of 0 k ins) x
declaration-bound h.FnDecl ins is fit s top x c =
    first-bound h.FnDecl AFunction ins fit s (λ field. top 0) x c
declaration-bound h.ClassDecl ins is fit s top x c =
    first-bound h.ClassDecl AClass ins fit s (λ field. top 0) x c
declaration-bound (h.VarDecl kind meta) ins is fit s top x c =
    let back =
    flat-back (names_bound zero) (nodes_in 1 (node_of 0 (h.VarDecl kind meta) ins)) x c in
    let kept = filter-back (begins_in 1) (side_by_side zero (ins ++ h.Close ∷ [])) back.0 back.1 in
    bound-later s (h.Open 0 (h.VarDecl kind meta)) (ins ++ h.Close ∷ []) x
    (bound-front (past s (h.Open 0 (h.VarDecl kind meta))) ins (h.Close ∷ []) x
    (declarators fit (past s (h.Open 0 (h.VarDecl kind meta))) (λ field. top 0) back.0 kept.0 x
    back.2))
declaration-bound _ ins is fit s top x c = absurd (false≢true is)

-- ---- what a top item exports
-- a name that is bound in the item, or `default`, which is declared where the item begins
abbrev pub DeclaresDefault : Spot → Head → List Item → Type 0
DeclaresDefault s head ins =
    (d : Declared) × (d.scopes ≡ Top ∷ []) × (d.name.sym ≡ default_name) × ((rest : List Item) →
    declared_at BySymbol Es s (h.Open 0 head) (ins ++ h.Close ∷ rest) ≡ Some d)

no-decl : (role : Role) → takes_name role ADecl ≡ true → ⊥
no-decl r.Binding is = false≢true is
no-decl r.Reference is = false≢true is
no-decl r.Word is = false≢true is

-- an exported declaration
pub exported-bound : {ins : List Item} → AreFit (slot 0 One ADecl ∷ []) ins → (s : Spot) →
    IsAtTop s →
    (x : Text) → Contains (names_declared (child 0 (node_of 0 h.ExportDecl ins))) x →
    IsBound s (node_of 0 h.ExportDecl ins) x
exported-bound (over e fit) s top x c = absurd (true≢false e)
exported-bound (a_name {role = role} it fit) s top x c = absurd (no-decl role it)
exported-bound (a_node {head = k} {inside = ins} {rest = rest} it in_it fit) s top x c =
    let none : rest ≡ [] = ends fit in
    let list : h.Open 0 k ∷ (ins ++ h.Close ∷ rest) ≡ node_of 0 k ins =
    ap (λ l. h.Open 0 k ∷ (ins ++ h.Close ∷ l)) none in
    let first : child 0 (node_of 0 h.ExportDecl (h.Open 0 k ∷ (ins ++ h.Close ∷ rest))) ≡ node_of 0
    k ins =
    ap (λ l. child 0 (node_of 0 h.ExportDecl l)) list
    ∙ child-first ADecl k ins it in_it h.ExportDecl in
    subst (λ l. IsBound s (node_of 0 h.ExportDecl l) x) (sym list)
    (bound-later s (h.Open 0 h.ExportDecl) (node_of 0 k ins ++ h.Close ∷ []) x
    (bound-front (past s (h.Open 0 h.ExportDecl)) (node_of 0 k ins) (h.Close ∷ []) x
    (declaration-bound k ins it in_it (past s (h.Open 0 h.ExportDecl)) (λ field. top 0) x
    (subst (λ l. Contains (names_declared l) x) first c))))

-- a default function or class, by its name if it has one
abbrev pub DefaultBound : Spot → List Item → Type 0
DefaultBound s ins =
    IsBound s (node_of 0 h.ExportDefaultDecl ins)
    (default_declared (child 0 (node_of 0 h.ExportDefaultDecl ins)))
    ⊎
    ((default_declared (child 0 (node_of 0 h.ExportDefaultDecl ins)) ≡ default_name) ×
    DeclaresDefault s h.ExportDefaultDecl ins)

no-sort : (sort : NodeSort) → ((role : Role) → takes_name role sort ≡ true → ⊥) → {items : List Item} →
    AreFit (slot 1 One sort ∷ []) items →
    (k : Head) × (ins : List Item) × (items ≡ node_of 1 k ins) × (takes_head k sort ≡ true) × AreFit
    (slots k (names_of_sort sort)) ins
no-sort sort none (over e fit) = absurd (true≢false e)
no-sort sort none (a_name {role = role} it fit) = absurd (none role it)
no-sort sort none (a_node {head = k} {inside = ins} {rest = rest} it in_it fit) =
    (k, ins, ap (λ l. h.Open 1 k ∷ (ins ++ h.Close ∷ l)) (ends fit), it, in_it)

default-body : (k : Head) (sort : NodeSort) → ((role : Role) → takes_name role sort ≡ true → ⊥) →
    (ins : List Item) → AreFit (slot 0 Optional ALocal ∷ slot 1 One sort ∷ []) ins →
    child 0 (node_of 0 h.ExportDefaultDecl (node_of 0 k ins)) ≡ node_of 0 k ins → (s : Spot) →
    IsAtTop (past (past s (h.Open 0 h.ExportDefaultDecl)) (h.Open 0 k)) →
    DefaultBound s (node_of 0 k ins)
default-body k sort none ins fit first s top = elim (local-maybe 0 (slot 1 One sort ∷ []) fit) [
  | inl its ↦ (
      let list : ins ++ h.Close ∷ [] ≡ h.Ident 0 its.name its.ctxt r.Binding ∷
      (its.rest ++ h.Close ∷ []) = ap (λ l. l ++ h.Close ∷ []) its.is in
      let text : default_declared (child 0 (node_of 0 h.ExportDefaultDecl (node_of 0 k ins))) ≡
      its.name =
      ap default_declared first ∙ ap (λ l. default_declared (h.Open 0 k ∷ l)) list in
      inl (bound-later s (h.Open 0 h.ExportDefaultDecl) (node_of 0 k ins ++ h.Close ∷ []) _
      (bound-front (past s (h.Open 0 h.ExportDefaultDecl)) (node_of 0 k ins) (h.Close ∷ []) _
      (bound-later (past s (h.Open 0 h.ExportDefaultDecl)) (h.Open 0 k) (ins ++ h.Close ∷ []) _
      (subst
      (λ l. IsBound (past (past s (h.Open 0 h.ExportDefaultDecl)) (h.Open 0 k)) l
      (default_declared (child 0 (node_of 0 h.ExportDefaultDecl (node_of 0 k ins))))) (sym list)
      (subst
      (IsBound (past (past s (h.Open 0 h.ExportDefaultDecl)) (h.Open 0 k))
      (h.Ident 0 its.name its.ctxt r.Binding ∷ (its.rest ++ h.Close ∷ []))) (sym text)
      (bound-first (past (past s (h.Open 0 h.ExportDefaultDecl)) (h.Open 0 k)) 0 its.name its.ctxt
      (its.rest ++ h.Close ∷ []) top)))))))
  | inr more ↦ (
      let its = no-sort sort none more in
      let sides : side_by_side zero (ins ++ h.Close ∷ []) ≡ node_of 1 its.0 its.1 ∷ [] =
      ap (λ l. side_by_side zero (l ++ h.Close ∷ [])) its.2
      ∙ beside (node {sort = sort} {field = 1} {head = its.0} {inside = its.1} its.3 its.4)
      (h.Close ∷ []) in
      inr (
        ap default_declared first
            ∙ ap (λ l. unwrap_or (name_of (first_or_nothing (filter (begins_in 0) l))) default_name)
            sides,
        (
          nameless_default Es s.place,
          refl,
          refl,
          λ rest. ap
              (λ l. declared_at BySymbol Es s (h.Open 0 h.ExportDefaultDecl)
              ((h.Open 0 k ∷ (l ++ h.Close ∷ [])) ++ h.Close ∷ rest)) its.2,
        ),
      ))
]

no-function : (role : Role) → takes_name role AFunction ≡ true → ⊥
no-function r.Binding is = false≢true is
no-function r.Reference is = false≢true is
no-function r.Word is = false≢true is

no-class : (role : Role) → takes_name role AClass ≡ true → ⊥
no-class r.Binding is = false≢true is
no-class r.Reference is = false≢true is
no-class r.Word is = false≢true is

default-head : (k : Head) (ins : List Item) → takes_head k ADefault ≡ true →
    AreFit (slots k r.Reference) ins →
    child 0 (node_of 0 h.ExportDefaultDecl (node_of 0 k ins)) ≡ node_of 0 k ins → (s : Spot) →
    IsAtTop s →
    DefaultBound s (node_of 0 k ins)
default-head h.FnExpr ins is fit first s top =
    default-body h.FnExpr AFunction no-function ins fit first s (λ field. top 0)
default-head h.ClassExpr ins is fit first s top =
    default-body h.ClassExpr AClass no-class ins fit first s (λ field. top 0)
default-head _ ins is fit first s top = absurd (false≢true is)

pub default-bound : {ins : List Item} → AreFit (slot 0 One ADefault ∷ []) ins → (s : Spot) →
    IsAtTop s →
    DefaultBound s ins
default-bound (over e fit) s top = absurd (true≢false e)
default-bound (a_name {role = role} it fit) s top = absurd (no-default role it)
default-bound (a_node {head = k} {inside = ins} {rest = rest} it in_it fit) s top =
    subst (DefaultBound s) (sym (ap (λ l. h.Open 0 k ∷ (ins ++ h.Close ∷ l)) (ends fit)))
    (default-head k ins it in_it (child-first ADefault k ins it in_it h.ExportDefaultDecl) s top)

-- ---- names that are bound at the top
-- what is declared with only the top around it is a name of the top
home-top : (all : List Declared) (d : Declared) → d.scopes ≡ Top ∷ [] → home_of all d ≡ Top
home-top all d e = by (joins_parameter d.by)
  where
    taken_by : (b : Bool) →
        (unwrap_or (nearest (cond b (Top ∷ []) [])) Top ≡ Top) ×
        (parameters_of (cond b (Top ∷ []) []) ≡ None)
    taken_by true = (refl, refl)
    taken_by false = (refl, refl)

    own : taker d ≡ Top
    own =
        ap (λ l. unwrap_or (nearest (from_taker d.by l)) Top) e ∙ (taken_by (takes_way d.by Top)).0

    alone : parameters_of (from_taker d.by d.scopes) ≡ None
    alone = ap (λ l. parameters_of (from_taker d.by l)) e ∙ (taken_by (takes_way d.by Top)).1

    by : (b : Bool) →
        cond b (home_beside all d (parameters_of (from_taker d.by d.scopes))) (taker d) ≡ Top
    by true = ap (home_beside all d) alone ∙ own
    by false = own

pub top-name : (tree : List Item) (d : Declared) → Contains (declared BySymbol Es tree) d →
    d.scopes ≡ Top ∷ [] →
    Contains (top_names tree) d.name.sym
top-name tree d c e =
    let all = declared BySymbol Es tree in
    map-on (λ (d : Declared). d.name.sym) _ d
    (filter-on (λ d. is_top (home_of all d) || is_wrapper (home_of all d)) all d c
    (ap (λ s. is_top s || is_wrapper s) (home-top all d e)))

-- what an occurrence declares is among what its list declares
pub occurrence-declares : (items : List Item) (s : Spot) (o : Occurrence) (d : Declared) →
    Contains (occurrences_from s items) o → declaration_of BySymbol Es o ≡ Some d →
    Contains (declared_from BySymbol Es s items) d
occurrence-declares [] s o d c e = none-there o c
occurrence-declares (h.Open field head ∷ rest) s o d c e =
    put-later (declared_at BySymbol Es s (h.Open field head) rest)
    (declared_from BySymbol Es (past s (h.Open field head)) rest) d
    (occurrence-declares rest (past s (h.Open field head)) o d c e)
occurrence-declares (h.Hole field ∷ rest) s o d c e =
    occurrence-declares rest (past s (h.Hole field)) o d c e
occurrence-declares (h.Close ∷ rest) s o d c e = occurrence-declares rest (past s h.Close) o d c e
occurrence-declares (h.Ident field x ctxt r.Word ∷ rest) s o d c e =
    occurrence-declares rest (past s (h.Ident field x ctxt r.Word)) o d c e
occurrence-declares (h.Ident field x ctxt r.Reference ∷ rest) s o d c e =
    elim (there-cases _ (occurrences_from (past s (h.Ident field x ctxt r.Reference)) rest) o c) [
      | inl same ↦
          put-first (declared_at BySymbol Es s (h.Ident field x ctxt r.Reference) rest)
          (declared_from BySymbol Es (past s (h.Ident field x ctxt r.Reference)) rest) d
          (ap (declaration_of BySymbol Es) same ∙ e)
      | inr later ↦
          put-later (declared_at BySymbol Es s (h.Ident field x ctxt r.Reference) rest)
          (declared_from BySymbol Es (past s (h.Ident field x ctxt r.Reference)) rest) d
          (occurrence-declares rest (past s (h.Ident field x ctxt r.Reference)) o d later e)
    ]
occurrence-declares (h.Ident field x ctxt r.Binding ∷ rest) s o d c e =
    elim (there-cases _ (occurrences_from (past s (h.Ident field x ctxt r.Binding)) rest) o c) [
      | inl same ↦
          put-first (declared_at BySymbol Es s (h.Ident field x ctxt r.Binding) rest)
          (declared_from BySymbol Es (past s (h.Ident field x ctxt r.Binding)) rest) d
          (ap (declaration_of BySymbol Es) same ∙ e)
      | inr later ↦
          put-later (declared_at BySymbol Es s (h.Ident field x ctxt r.Binding) rest)
          (declared_from BySymbol Es (past s (h.Ident field x ctxt r.Binding)) rest) d
          (occurrence-declares rest (past s (h.Ident field x ctxt r.Binding)) o d later e)
    ]

pub bound-top : (tree : List Item) → HasWays tree → (x : Text) → IsBound start tree x →
    Contains (top_names tree) x
bound-top tree ways x its =
    let at = there-place (occurrences tree) its.o its.there in
    let way = ways.way at.0 its.o at.1 its.binds in
    let d : Declared =
    record {
      place = its.o.place;
      name = plain its.o.sym;
      by = way.0;
      scopes =
          scopes_around Es its.o.path;
    } in
    let says : declaration_of BySymbol Es its.o ≡ Some d =
    ap
    (λ b. cond b
    (declared_by_exported its.o.place (plain its.o.sym) (scopes_around Es its.o.path)
    (way_of its.o.path)) None) its.binds
    ∙ ap (declared_by_exported its.o.place (plain its.o.sym) (scopes_around Es its.o.path)) way.1 in
    subst (Contains (top_names tree)) its.symbol
    (top-name tree d (occurrence-declares tree start its.o d its.there says) its.scopes)

-- ---- the top items of a module
declared-behind : (xs ys : List Item) (s : Spot) (d : Declared) →
    Contains (declared_from BySymbol Es (fold past s xs) ys) d →
    Contains (declared_from BySymbol Es s (xs ++ ys)) d
declared-behind [] ys s d c = c
declared-behind (x ∷ xs) ys s d c =
    put-later (declared_at BySymbol Es s x (xs ++ ys))
    (declared_from BySymbol Es (past s x) (xs ++ ys)) d (declared-behind xs ys (past s x) d c)

-- a top item of these elements, where it stands
pub record IsTopAt (s : Spot) (items : List Item) (top : TopItem) : Type 0 where
  pub spot : Spot
  pub head : Head
  pub inside : List Item
  pub is : top.items ≡ h.Open 0 head ∷ (inside ++ h.Close ∷ [])
  pub taken_so : takes_head head AnItem ≡ true
  pub fits : AreFit (slots head r.Reference) inside
  pub at_top : IsAtTop spot
  pub bound : (x : Text) → IsBound spot top.items x → IsBound s items x
  pub first : (tail : List Item) (d : Declared) →
      ((rest : List Item) →
      declared_at BySymbol Es spot (h.Open 0 head) (inside ++ h.Close ∷ rest) ≡ Some d) →
      Contains (declared_from BySymbol Es s (items ++ tail)) d

pub top-at : {items : List Item} → AreFit (slot 0 Many AnItem ∷ []) items → (s : Spot) → IsAtTop s →
    (b : ℕ) (top : TopItem) → Contains (placed b (side_by_side zero (items ++ h.Close ∷ []))) top →
    IsTopAt s items top
top-at (over e no_more) s at_top b top c = none-there top c
top-at (a_name {role = role} it fit) s at_top b top c = absurd (no-item role it)
top-at (a_node {head = hd} {inside = ins} {rest = rest} it in_it fit) s at_top b top c =
    by
    (there-cases (record { start = b; items = item })
    (placed (b + length item) (side_by_side zero (rest ++ h.Close ∷ []))) top
    (subst (λ l. Contains (placed b l) top) sides c))
    (top-at fit (fold past s item)
    (top-behind (a_node {number = 0} {count = One} {sort = AnItem} {more = []} it in_it no_more)
    s at_top) (b + length item) top)
  where
    item : List Item
    item = h.Open 0 hd ∷ (ins ++ h.Close ∷ [])

    split : (h.Open 0 hd ∷ (ins ++ h.Close ∷ [])) ++ rest ≡ h.Open 0 hd ∷ (ins ++ h.Close ∷ rest)
    split = ap (λ l. h.Open 0 hd ∷ l) (append_assoc ins (h.Close ∷ []) rest)

    sides : side_by_side zero (h.Open 0 hd ∷ ((ins ++ h.Close ∷ rest) ++ h.Close ∷ [])) ≡
        (h.Open 0 hd ∷ (ins ++ h.Close ∷ [])) ∷ side_by_side zero (rest ++ h.Close ∷ [])
    sides =
        ap (λ l. side_by_side zero (h.Open 0 hd ∷ l))
        (append_assoc ins (h.Close ∷ rest) (h.Close ∷ [])
        ∙ sym (append_assoc ins (h.Close ∷ []) (rest ++ h.Close ∷ [])))
        ∙ beside (node {sort = AnItem} {field = 0} {head = hd} {inside = ins} it in_it)
        (rest ++ h.Close ∷ [])

    by : (record { start = b; items = h.Open 0 hd ∷ (ins ++ h.Close ∷ []) } ≡ top) ⊎ Contains
        (placed (b + length (h.Open 0 hd ∷ (ins ++ h.Close ∷ [])))
        (side_by_side zero (rest ++ h.Close ∷ []))) top →
        (Contains
        (placed (b + length (h.Open 0 hd ∷ (ins ++ h.Close ∷ [])))
        (side_by_side zero (rest ++ h.Close ∷ []))) top →
        IsTopAt (fold past s (h.Open 0 hd ∷ (ins ++ h.Close ∷ []))) rest top) →
        IsTopAt s (h.Open 0 hd ∷ (ins ++ h.Close ∷ rest)) top
    by (inl e) ih =
        let same : top.items ≡ item = ap (λ (t : TopItem). t.items) (sym e) in
        record {
          spot = s;
          head = hd;
          inside = ins;
          is = same;
          taken_so = it;
          fits = in_it;
          at_top = at_top;
          bound =
              λ x its. subst (λ l. IsBound s l x) split
              (bound-front s item rest x (subst (λ l. IsBound s l x) same its));
          first = λ tail d says.
              put-first (declared_at BySymbol Es s (h.Open 0 hd) ((ins ++ h.Close ∷ rest) ++ tail))
              (declared_from BySymbol Es (past s (h.Open 0 hd))
              ((ins ++ h.Close ∷ rest) ++ tail)) d
              (ap (declared_at BySymbol Es s (h.Open 0 hd)) (append_assoc ins (h.Close ∷ rest) tail)
              ∙ says (rest ++ tail));
        }
    by (inr later) ih =
        let its = ih later in
        record {
          spot = its.spot;
          head = its.head;
          inside = its.inside;
          is = its.is;
          taken_so = its.taken_so;
          fits = its.fits;
          at_top = its.at_top;
          bound =
              λ x b. subst (λ l. IsBound s l x) split (bound-behind s item rest x (its.bound x b));
          first = λ tail d says.
              subst (λ l. Contains (declared_from BySymbol Es s l) d)
              (sym (append_assoc item rest tail) ∙ ap (λ l. l ++ tail) split)
              (declared-behind item (rest ++ tail) s d (its.first tail d says));
        }
