-- The names of literal calls and of reads: what is so of them where they stand.
-- Which names of a module are left: no node around them is replaced.
-- What a name denotes in its module goes by its symbol; what denotes a binding of the top is a name
-- of it; and what
-- nothing binds denotes nothing inside.
use Rattle.std.proofs.Common.{◌≡◌, inl, inr, ℕ, suc, Bool, true, false, not, List, [], ◌∷◌, ◌++◌, Option, Some, None, option_and_then, refl, sym, ap, ◌∙◌, subst, if◌then◌else◌, arith, zero, cond, ◌&&◌, ◌||◌, take}
use Rattle.std.specs.Prelude.{Contains, filter, slice_get, bytes_eq, codes, find, fold}
use Rattle.std.proofs.lemmas.Bool.{false≢true, true≢false, and_parts}
use Rattle.std.proofs.lemmas.List.Elements.{Contains-append_cases}
use Rattle.std.proofs.lemmas.Option.{none-some, same_Some}
use Rattle.std.specs.List.{cons_option}
use Rattle.std.proofs.lemmas.Slice.Eq.{bytes_eq-Decides}
use Rattle.bundle_syntax.specs.declared.piece.Role.{Role}
use Rattle.bundle_syntax.specs.Item as h
use Rattle.bundle_syntax.specs.Item.{Item, Head}
use Rattle.bundle_syntax.specs.declared.piece.Role.TheVariants as r
use Rattle.bundle_rules.specs.Places.{Around, Occurrence, path_at, spot_before, occurrence_of, occurrence_at, is_binding, Spot, past, start}
use Rattle.bundle_rules.specs.Nodes.{Text, has_text}
use Rattle.bundle_rules.specs.Statements.{taken}
use Rattle.bundle_rules.specs.Entries.{RequireCall, call_at, required_at, require_calls_from, require_calls}
use Rattle.bundle_rules.specs.Bound.{is_free, top_names}
use Rattle.bundle_rules.specs.Program.{Program, tree_of, calls_of}
use Rattle.bundle_rules.specs.Linking.{Target, StandsFor}
use Rattle.bundle_rules.specs.Meaning.{Replacement, ByCall, Load, Replaced, require_call, IsLeft, Meant, NameMeans, static_read, import_meta, plain, own_sense, is_inside}
use Rattle.bundle_rules.specs.Scopes.{ModuleKind, Es, Top, Cjs, Scope, Wrapper, scopes_around}
use Rattle.bundle_rules.specs.Declarations.{BySymbol, Name, names_agree, Declared, declared_by, declaration_of, way_of, declared_at, declared_from, wrapper_parameter, declared}
use Rattle.bundle_rules.specs.Denotes.{Denoted, Bound, denoted_at, Global, bound_in, own_or_found, denoted_of}
use Rattle.bundle_rules.specs.Homes.{home_of, is_top, is_arguments, has_implicit_arguments, declares, binds}
use Rattle.bundle_link_tables.specs.Used.{words_around}
use Rattle.bundle_scope_names.proofs.HomesLemmas.{find-passes as found_passes}
use Rattle.bundle_link_index.proofs.AskedLemmas.{none_there as none-there, only_one as only-one}
use Rattle.bundle_link_index.proofs.ProgramLemmas.{filter_back as filter-back, first_or_later as there-cases, later as later-there_named}
use Rattle.bundle_link_targets.specs.Meant.{ReadsOn, done, on, WordsMean, Encloses, IsModuleTree}
use Rattle.bundle_link_targets.proofs.ListLemmas.{node-begun, read-opens, words-back, along-bound, chain-at, first-there, one-stands, declares-name as declares_name}
use Rattle.bundle_link_targets.proofs.CallPlaceLemmas.{free-calls}
use Rattle.bundle_link_targets.proofs.MeantLemmas.{top-name as same_name}
use Rattle.bundle_link.proofs.DefaultLemmas.{cons-later as cons_later}
use Rattle.bundle_link.specs.Nested as nested
use Rattle.bundle_merge_theory.specs.noted.Agrees.{IsClear, IsReplacedAround, IsListing, is_read_or_call, StandsAlone}
use Rattle.bundle_merge_theory.specs.noted.Listed.{is_reference_role}
use Rattle.bundle_merge_theory.proofs.noted.UsesAgree.{path_next}
use Rattle.bundle_merge_theory.proofs.noted.ListFacts.{later-there}
use Rattle.bundle_merge_theory.proofs.noted.Agreements.{IsThere, Replaces, by_call_of, replaced_around}
use Rattle.bundle_merge_theory.specs.made.Steps.{IsCalled}
use Rattle.bundle_merge_theory.proofs.told.Kinds.{MayBeTwins, no_twins, both, inner_scopes, es_scopes, cjs_scopes, are_inner, found_outside, twin_home, declares_top, declared_top, named_top, declaration_twins, twins_from}

-- ---- the name of a linked call is free
pub call_free : (free : ℕ → Bool) (place : ℕ) (items : List Item) (call : RequireCall) →
    Contains (require_calls_from free place items) call → free (suc call.place) ≡ true
call_free free place [] call c = none-there call c
call_free free place (x ∷ rest) call c = elim (Contains-append_cases
    (call_at free place (required_at (x ∷ rest))) (require_calls_from free (suc place) rest) call
    c) [
      | inl here ↦ by (required_at (x ∷ rest)) here
      | inr more ↦ call_free free (suc place) rest call more
    ]
  where
    found : (text : Text) (b : Bool) → free (suc place) ≡ b →
        Contains (if b then record { place = place; specifier = text } ∷ [] else []) call →
        free (suc call.place) ≡ true
    found text true is c =
        let one : RequireCall = record { place = place; specifier = text } in
        ap (λ (k : RequireCall). free (suc k.place)) (sym (only-one one call c)) ∙ is
    found text false is c = none-there call c

    by : (o : Option Text) → Contains (call_at free place o) call → free (suc call.place) ≡ true
    by None c = none-there call c
    by (Some text) c = found text (free (suc place)) refl c

linked_from : (p : Program) (b : Bool) (calls : List RequireCall) (call : RequireCall) →
    Contains (if b then filter (λ k. not (has_text k.specifier p.settings.external)) calls else [])
    call → Contains calls call
linked_from p true calls call c = (filter-back
    (λ (k : RequireCall). not (has_text k.specifier p.settings.external)) calls call c).0
linked_from p false calls call c = none-there call c

pub linked_free : (p : Program) (m : ℕ) (call : RequireCall) → Contains (calls_of p m) call →
    is_free (tree_of p m) (suc call.place) ≡ true
linked_free p m call c =
    call_free (is_free (tree_of p m)) 0 (tree_of p m) call
    (linked_from p p.settings.require (require_calls (is_free (tree_of p m)) (tree_of p m)) call c)

-- a replaced call right before a name is the literal call of it
pub called_by : (p : Program) (m : ℕ) (o : Occurrence) (begins c : ℕ) → suc begins ≡ o.place →
    Replaced p m begins (ByCall (Load c)) → IsCalled p m o c
called_by p m o begins c far (require_call {place = place} call listed at leads) =
    record { call = call; linked = listed; here = ap suc at ∙ far; leads = leads }

-- ---- roles
role_there : (tree : List Item) (o : Occurrence) → occurrence_at tree o.place ≡ Some o →
    (field : ℕ) × (ctxt : ℕ) × (x : Text) × (slice_get tree o.place
    ≡ Some (h.Ident field x ctxt o.role))
role_there tree o at = by (slice_get tree o.place) refl at
  where
    is_role : (field ctxt : ℕ) (x : Text) (role other : Role) →
        slice_get tree o.place ≡ Some (h.Ident field x ctxt role) → role ≡ other →
        slice_get tree o.place ≡ Some (h.Ident field x ctxt other)
    is_role field ctxt x role other is same = is ∙ ap (λ k. Some (h.Ident field x ctxt k)) same

    by : (item : Option Item) → slice_get tree o.place ≡ item →
        option_and_then (occurrence_of (spot_before tree o.place)) item ≡ Some o →
        (field : ℕ) × (ctxt : ℕ) × (x : Text) ×
        (slice_get tree o.place ≡ Some (h.Ident field x ctxt o.role))
    by None is e = absurd (none-some o e)
    by (Some (h.Open field head)) is e = absurd (none-some o e)
    by (Some (h.Hole field)) is e = absurd (none-some o e)
    by (Some h.Close) is e = absurd (none-some o e)
    by (Some (h.Ident field x ctxt r.Word)) is e = absurd (none-some o e)
    by (Some (h.Ident field x ctxt r.Binding)) is e = (
      field,
      ctxt,
      x,
      is_role field ctxt x r.Binding o.role is
          (ap (λ (q : Occurrence). q.role) (same_Some _ o e)),
    )
    by (Some (h.Ident field x ctxt r.Reference)) is e = (
      field,
      ctxt,
      x,
      is_role field ctxt x r.Reference o.role is
          (ap (λ (q : Occurrence). q.role) (same_Some _ o e)),
    )

no_binding : (role : Role) → is_reference_role role ≡ true → is_binding role ≡ false
no_binding r.Reference is = refl
no_binding r.Binding is = absurd (false≢true is)
no_binding r.Word is = refl

-- a name right in a read or a call binds nothing
pub refers_in : (tree : List Item) → IsListing tree → (o : Occurrence) →
    occurrence_at tree o.place ≡ Some o →
    (begins field : ℕ) (head : Head) → suc begins ≡ o.place →
    slice_get tree begins ≡ Some (h.Open field head) →
    is_read_or_call head ≡ true → is_binding o.role ≡ false
refers_in tree listing o at begins field head next opens reads =
    let ident = role_there tree o at in
    let path = path_next tree begins field head opens in
    no_binding o.role
    (listing.names o.place ident.0 ident.1 ident.2 o.role
    (record { head = head; begins = begins; field = path.0 }) (path_at tree begins)
    ident.3 (ap (path_at tree) (sym next) ∙ path.1) reads)

-- a name that is read on is right in a read
pub read_begins : {p : Program} {s t : Target} {words : List Text} {n : ℕ} →
    ReadsOn p s words (suc n) t → (tree : List Item) (place : ℕ) →
    words ≡ words_around tree place (path_at tree place) →
    (begins : ℕ) × (field : ℕ) × (suc begins ≡ place) ×
    (slice_get tree begins ≡ Some (h.Open field h.MemberExpr))
read_begins (on {x = x} {words = words} linked more) tree place e =
    let back = words-back tree place x words (sym e) in
    let opens = read-opens tree back.begins x back.word in
    (back.begins, opens.0, back.next, opens.1)

pub read_none : {p : Program} {s t : Target} {words : List Text} → ReadsOn p s words 0 t → s ≡ t
read_none (done is) = refl

-- ---- what is clear
pub clear_left : (p : Program) (m : ℕ) (path : List Around) → IsClear (Replaced p m) path →
    (node : Around) →
    Contains path node → (by : Replacement) → Replaced p m node.begins by → ⊥
clear_left p m [] clear node c by is = none-there node c
clear_left p m (x ∷ outer) clear node c by is = elim (there-cases x outer node c) [
  | inl same ↦ clear.0 by (subst (λ (k : Around). Replaced p m k.begins by) (sym same) is)
  | inr more ↦ clear_left p m outer clear.1 node more by is
]

behind_there : (inner : List Around) (node : Around) (outer : List Around) →
    Contains (inner ++ node ∷ outer) node
behind_there [] node outer = first-there node outer
behind_there (x ∷ inner) node outer = let its =
    behind_there inner node outer in (suc its.0, let l = its.1 in omega (arith, l), its.2)

-- around a node that is the outermost of a name's that are replaced, nothing is
pub outer_left : (p : Program) (m : ℕ) (begins field : ℕ) (head : Head) (place : ℕ)
    (path : List Around) (by : Replacement) →
    slice_get (tree_of p m) begins ≡ Some (h.Open field head) → suc begins ≡ place →
    path ≡ path_at (tree_of p m) place →
    IsReplacedAround (Replaced p m) path begins by → (x : Item) → IsLeft p m (taken begins x)
outer_left p m begins field head place path by opens next path_is its x node replacement c is =
    split its.inner (sym its.path_is ∙ path_is ∙ ap (path_at (tree_of p m)) (sym next) ∙ inside.1)
  where
    inside : (g : ℕ) × (path_at (tree_of p m) (suc begins)
        ≡ record { head = head; begins = begins; field = g } ∷ path_at (tree_of p m) begins)
    inside = path_next (tree_of p m) begins field head opens

    tails : {a b : Around} {xs ys : List Around} → a ∷ xs ≡ b ∷ ys → xs ≡ ys
    tails e = cc

    split : (inner : List Around) →
        inner ++ its.node ∷ its.outer ≡ record { head = head; begins = begins; field = inside.0 } ∷
        path_at (tree_of p m) begins → ⊥
    split [] e =
        clear_left p m its.outer its.clear node (subst (λ l. Contains l node) (sym (tails e)) c)
        replacement is
    split (y ∷ inner) e =
        let there : Contains (path_at (tree_of p m) begins) its.node =
        subst (λ l. Contains l its.node) (tails e) (behind_there inner its.node its.outer) in
        let begun = (node-begun (tree_of p m) begins its.node there).0 in
        let here = its.here in
        omega (arith, begun, here)

-- ---- left
module _ (p : Program) (m : ℕ) (whole : IsModuleTree (tree_of p m)) where
  -- a name of the top with no read of it around
  pub top_left : (o : Occurrence) → occurrence_at (tree_of p m) o.place ≡ Some o → (x : Text) →
      denoted_at BySymbol Es (tree_of p m) o.place ≡ Some (Bound Top (plain x)) → (t : Target) →
      WordsMean p m x (words_around (tree_of p m) o.place (path_at (tree_of p m) o.place)) 0 t →
      (e : Item) → IsLeft p m (taken o.place e)
  top_left o at x denotes t its e node by there replaced =
      not_replaced replaced (record { node = node; around = there; here = refl })
    where
      not_replaced : {q : ℕ} {by : Replacement} → Replaced p m q by →
          Encloses (tree_of p m) q o.place → ⊥
      not_replaced (static_read {place = q} word expression) inside =
          let begun = (node-begun (tree_of p m) o.place inside.node inside.around).0 in
          let here = inside.here in
          let c = chain-at p m whole o.place o at expression (inr inside) in
          let name : c.0.name ≡ x =
          same_name c.0.name x
          (sym c.0.denoted ∙ ap (denoted_at BySymbol Es (tree_of p m)) c.1 ∙ denotes) in
          let same : c.0.first ≡ its.named =
          one-stands p m (subst (λ y. StandsFor p m y c.0.first) name c.0.stands) its.stands in
          let all : words_around (tree_of p m) o.place (path_at (tree_of p m) o.place)
          ≡ c.0.words ++ words_around (tree_of p m) q (path_at (tree_of p m) q) =
          sym (ap (λ k. words_around (tree_of p m) k (path_at (tree_of p m) k)) c.1) ∙ c.0.read in
          let bound =
          along-bound c.0.along its.named
          (words_around (tree_of p m) o.place (path_at (tree_of p m) o.place))
          (words_around (tree_of p m) q (path_at (tree_of p m) q)) its.reads (sym same) all in
          let far = c.0.far in
          let it = c.1 in
          absurd (omega (arith, bound, far, it, begun, here))
      not_replaced (import_meta {place = q} is) inside =
          true≢false (sym is ∙ whole.meta o.place q o at inside)
      not_replaced (require_call call listed here resolved) inside =
          free-calls p m o.place x call denotes listed
          (subst (λ k. Encloses (tree_of p m) k o.place) (sym here) inside)

  module _ (nodes : nested.AreNodes (tree_of p m)) where
    -- a name that is none of the top, and is not that of a literal call
    pub other_left : (o : Occurrence) → occurrence_at (tree_of p m) o.place ≡ Some o →
        IsThere p m nodes o →
        ((x : Text) →
        denoted_at BySymbol Es (tree_of p m) o.place ≡ Some (Bound Top (plain x)) → (t : Target) →
        StandsFor p m x t → ⊥) →
        ((begins c : ℕ) → suc begins ≡ o.place → Replaced p m begins (ByCall (Load c)) → ⊥) →
        (e : Item) → IsLeft p m (taken o.place e)
    other_left o at there no_top no_call e node by around replaced = not_replaced replaced refl
      where
        call_here : {l : ℕ} → Replaces p m nodes o.place node.begins (ByCall (Load l)) →
            suc node.begins ≡ o.place
        call_here (by_call_of far) = far

        not_replaced : {q : ℕ} {by : Replacement} → Replaced p m q by → node.begins ≡ q → ⊥
        not_replaced (static_read {place = q} word expression) here =
            let c =
            chain-at p m whole o.place o at expression
            (inr (record { node = node; around = around; here = here })) in
            no_top c.0.name
            (sym (ap (denoted_at BySymbol Es (tree_of p m)) c.1) ∙ c.0.denoted) c.0.first
            c.0.stands
        not_replaced (import_meta {place = q} is) here =
            true≢false
            (sym is ∙ whole.meta o.place q o at
            (record { node = node; around = around; here = here }))
        not_replaced (require_call {place = q} {c = c} call listed at_call resolved) here =
            let is : Replaced p m node.begins (ByCall (Load c)) =
            subst (λ k. Replaced p m k (ByCall (Load c))) (sym here)
            (require_call call listed at_call resolved) in
            no_call node.begins c
            (call_here (replaced_around p m nodes o.place there.at node around (ByCall (Load c))
            is))
            is

    clear_if : (path : List Around) →
        ((node : Around) → Contains path node → (by : Replacement) → Replaced p m node.begins by →
        ⊥) → IsClear (Replaced p m) path
    clear_if [] none = tt
    clear_if (node ∷ outer) none = (
      λ by is. none node (first-there node outer) by is,
      clear_if outer (λ other c. none other (later-there node outer other c)),
    )

    -- a name that is left stands alone
    pub left_alone : (kind : ModuleKind) (inner : List Denoted) (o : Occurrence) →
        IsThere p m nodes o → ((e : Item) → IsLeft p m (taken o.place e)) → (e : Item) →
        (d : Denoted) (meant : Meant) →
        denoted_at BySymbol kind (tree_of p m) o.place ≡ Some d →
        NameMeans (own_sense p m kind) inner d meant →
        StandsAlone (own_sense p m kind) inner o meant
    left_alone kind inner o there left e d meant denotes means = record {
      d = d;
      denotes = denotes;
      means = means;
      clear =
          subst (IsClear (Replaced p m)) (sym there.path_is)
          (clear_if (path_at (tree_of p m) o.place) (λ node c by is. left e node by c is));
    }

-- ---- what an occurrence declares is declared

here_declared : (kind : ModuleKind) (s : Spot) (x : Item) (rest : List Item) (o : Occurrence)
    (d : Declared) →
    occurrence_of s x ≡ Some o → declaration_of BySymbol kind o ≡ Some d →
    declared_at BySymbol kind s x rest ≡ Some d
here_declared kind s (h.Ident field sym ctxt role) rest o d is declares =
    ap (option_and_then (declaration_of BySymbol kind)) is ∙ declares
here_declared kind s (h.Open field head) rest o d is declares = absurd (none-some o is)
here_declared kind s (h.Hole field) rest o d is declares = absurd (none-some o is)
here_declared kind s h.Close rest o d is declares = absurd (none-some o is)

declared_on : (kind : ModuleKind) (s : Spot) (items : List Item) (k : ℕ) (x : Item) (o : Occurrence)
    (d : Declared) →
    slice_get items k ≡ Some x → occurrence_of (fold past s (take k items)) x ≡ Some o →
    declaration_of BySymbol kind o ≡ Some d → Contains (declared_from BySymbol kind s items) d
declared_on kind s [] k x o d at is declares = absurd (none-some x at)
declared_on kind s (y ∷ items) zero x o d at is declares =
    let same : y ≡ x = same_Some y x at in
    subst (λ its. Contains (cons_option its (declared_from BySymbol kind (past s y) items)) d)
    (sym (here_declared kind s y items o d (ap (occurrence_of s) same ∙ is) declares))
    (first-there d (declared_from BySymbol kind (past s y) items))
declared_on kind s (y ∷ items) (suc k) x o d at is declares =
    cons_later (declared_at BySymbol kind s y items) (declared_from BySymbol kind (past s y) items)
    d
    (declared_on kind (past s y) items k x o d at is declares)

behind_parameters : (kind : ModuleKind) (tree : List Item) (d : Declared) →
    Contains (declared_from BySymbol kind start tree) d → Contains (declared BySymbol kind tree) d
behind_parameters Es tree d c = c
behind_parameters Cjs tree d c =
    later-there_named (wrapper_parameter (codes "module"))
    (wrapper_parameter (codes "exports") ∷ declared_from BySymbol Cjs start tree) d
    (later-there_named (wrapper_parameter (codes "exports")) (declared_from BySymbol Cjs start tree) d c)

pub declared_there : (kind : ModuleKind) (tree : List Item) (place : ℕ) (o : Occurrence)
    (d : Declared) →
    occurrence_at tree place ≡ Some o → declaration_of BySymbol kind o ≡ Some d →
    Contains (declared BySymbol kind tree) d
declared_there kind tree place o d at declares =
    behind_parameters kind tree d (by (slice_get tree place) refl at)
  where
    by : (x : Option Item) → slice_get tree place ≡ x →
        option_and_then (occurrence_of (spot_before tree place)) x ≡ Some o →
        Contains (declared_from BySymbol kind start tree) d
    by None is e = absurd (none-some o e)
    by (Some x) is e = declared_on kind start tree place x o d is e declares

-- ---- names

pub declaration_name : (kind : ModuleKind) (o : Occurrence) (d : Declared) →
    declaration_of BySymbol kind o ≡ Some d → d.name ≡ plain o.sym
declaration_name kind o d e = by (is_binding o.role) e
  where
    by : (b : Bool) → cond b (declared_by o.place (plain o.sym) (scopes_around kind o.path)
        (way_of o.path)) None ≡ Some d →
        d.name ≡ plain o.sym
    by true f = sym (declares_name o.place (plain o.sym) (scopes_around kind o.path) (way_of o.path)
        d f)
    by false f = absurd (none-some d f)

-- what is denoted is called so
abbrev pub IsCalledSo : Denoted → Text → Type 0
IsCalledSo (Bound scope name) x = name ≡ plain x
IsCalledSo (Global y) x = y ≡ x

pub called_so : (kind : ModuleKind) (tree : List Item) (o : Occurrence) →
    IsCalledSo (denoted_of BySymbol kind (declared BySymbol kind tree) o) o.sym
called_so kind tree o = by (declaration_of BySymbol kind o) refl
  where
    all : List Declared
    all = declared BySymbol kind tree

    found : (f : Option Scope) → IsCalledSo (bound_in (plain o.sym) f) o.sym
    found None = refl
    found (Some scope) = refl

    by : (d : Option Declared) → declaration_of BySymbol kind o ≡ d →
        IsCalledSo (own_or_found (declared BySymbol kind tree) (bound_in (plain o.sym)
        (find (λ s. binds (declared BySymbol kind tree) s (plain o.sym))
        (scopes_around kind o.path))) d) o.sym
    by None is = found (find (λ s. binds (declared BySymbol kind tree) s (plain o.sym))
        (scopes_around kind o.path))
    by (Some d) is = declaration_name kind o d is

-- ---- the top
-- what is found at the top is declared there
binds_top : (all : List Declared) (name : Name) → binds all Top name ≡ true →
    declares all Top name ≡ true
binds_top all name e = by (declares all Top name) refl (is_arguments name.sym) e
  where
    by : (b : Bool) → declares all Top name ≡ b → (c : Bool) →
        (b || (c && has_implicit_arguments all Top)) ≡ true → declares all Top name ≡ true
    by true is c e = is
    by false is true e = absurd (false≢true e)
    by false is false e = absurd (false≢true e)

name_same : (d : Declared) (x : Text) → names_agree d.name (plain x) ≡ true → d.name.sym ≡ x
name_same d x e = (bytes_eq-Decides d.name.sym x).0 (and_parts (bytes_eq d.name.sym x) _ e).0

pub declares_named : (kind : ModuleKind) (tree : List Item) (x : Text) →
    declares (declared BySymbol kind tree) Top (plain x) ≡ true → Contains (top_names tree) x
declares_named Es tree x any =
    let its = declared_top (declared BySymbol Es tree) (plain x) (declared BySymbol Es tree)
    (λ d c. c) any in
    subst (Contains (top_names tree)) (name_same its.0 x its.3) (named_top tree its.0 its.1 its.2)
declares_named Cjs tree x any =
    let its = declares_top (declared_from BySymbol Es start tree)
    (declared_from BySymbol Cjs start tree) (twins_from start tree) (plain x) any in
    subst (Contains (top_names tree)) (name_same its.d x its.agree)
    (named_top tree its.d its.there (ap is_top its.home))

es_named : (tree : List Item) (o : Occurrence) (d : Declared) →
    occurrence_at tree o.place ≡ Some o → declaration_of BySymbol Es o ≡ Some d →
    home_of (declared BySymbol Es tree) d ≡ Top → Contains (top_names tree) o.sym
es_named tree o d at declares home =
    subst (Contains (top_names tree)) (ap (λ (n : Name). n.sym) (declaration_name Es o d declares))
    (named_top tree d (declared_there Es tree o.place o d at declares) (ap is_top home))

own_named : (kind : ModuleKind) (tree : List Item) (o : Occurrence) (d : Declared) →
    occurrence_at tree o.place ≡ Some o → declaration_of BySymbol kind o ≡ Some d →
    home_of (declared BySymbol kind tree) d ≡ Top → Contains (top_names tree) o.sym
own_named Es tree o d at declares home = es_named tree o d at declares home
own_named Cjs tree o d at declares home =
    by (declaration_of BySymbol Es o) refl (declaration_of BySymbol Cjs o) refl
    (declaration_twins o)
  where
    by : (p : Option Declared) → declaration_of BySymbol Es o ≡ p → (q : Option Declared) →
        declaration_of BySymbol Cjs o ≡ q → MayBeTwins p q → Contains (top_names tree) o.sym
    by None is None so no_twins = absurd (none-some d (sym so ∙ declares))
    by None is (Some f) so twins = elim twins [ ]
    by (Some e) is None so twins = elim twins [ ]
    by (Some e) is (Some f) so (both twins) =
        let same : f ≡ d = same_Some f d (sym so ∙ declares) in
        es_named tree o e at is
        (twin_home (declared_from BySymbol Es start tree) (declared_from BySymbol Cjs start tree)
        (twins_from start tree) e f twins
        (ap (home_of (declared BySymbol Cjs tree)) same ∙ home))

-- what denotes a binding of the top is a name of it
pub top_named : (kind : ModuleKind) (tree : List Item) (o : Occurrence) (name : Name) →
    occurrence_at tree o.place ≡ Some o →
    denoted_of BySymbol kind (declared BySymbol kind tree) o ≡ Bound Top name →
    Contains (top_names tree) o.sym
top_named kind tree o name at denotes = by (declaration_of BySymbol kind o) refl denotes
  where
    scope_is : (s t : Scope) (n k : Name) → Bound s n ≡ Bound t k → s ≡ t
    scope_is s t n k e = cc

    found : (f : Option Scope) → find (λ s. binds (declared BySymbol kind tree) s (plain o.sym))
        (scopes_around kind o.path) ≡ f →
        bound_in (plain o.sym) f ≡ Bound Top name → Contains (top_names tree) o.sym
    found None is e = cc
    found (Some s) is e =
        let top : s ≡ Top = scope_is s Top (plain o.sym) name e in
        declares_named kind tree o.sym
        (binds_top (declared BySymbol kind tree) (plain o.sym)
        (ap (λ t. binds (declared BySymbol kind tree) t (plain o.sym)) (sym top)
        ∙ found_passes (λ t. binds (declared BySymbol kind tree) t (plain o.sym))
        (scopes_around kind o.path) s is))

    by : (d : Option Declared) → declaration_of BySymbol kind o ≡ d →
        own_or_found (declared BySymbol kind tree) (bound_in (plain o.sym)
        (find (λ s. binds (declared BySymbol kind tree) s (plain o.sym))
        (scopes_around kind o.path))) d ≡ Bound Top name →
        Contains (top_names tree) o.sym
    by None is e = found (find (λ s. binds (declared BySymbol kind tree) s (plain o.sym))
        (scopes_around kind o.path)) refl e
    by (Some d) is e = own_named kind tree o d at is
        (scope_is (home_of (declared BySymbol kind tree) d) Top d.name name e)

-- ---- what nothing binds
no_declaration : (kind : ModuleKind) (o : Occurrence) → is_binding o.role ≡ false →
    declaration_of BySymbol kind o ≡ None
no_declaration kind o role =
    ap (λ b. cond b (declared_by o.place (plain o.sym) (scopes_around kind o.path) (way_of o.path))
    None) role

pub free_outside : (kind : ModuleKind) (tree : List Item) (o : Occurrence) (x : Text) →
    is_binding o.role ≡ false →
    denoted_of BySymbol Es (declared BySymbol Es tree) o ≡ Global x →
    is_inside 0 (denoted_of BySymbol kind (declared BySymbol kind tree) o) ≡ false
free_outside Es tree o x role free = ap (is_inside 0) free
free_outside Cjs tree o x role free =
    ap (λ d. is_inside 0 (own_or_found all (bound_in (plain o.sym)
    (find (λ s. binds all s (plain o.sym)) (scopes_around Cjs o.path))) d))
    (no_declaration Cjs o role)
    ∙ ap (λ l. is_inside 0 (bound_in (plain o.sym) (find (λ s. binds all s (plain o.sym)) l)))
    (cjs_scopes o.path)
    ∙ ap (λ f. is_inside 0 (bound_in (plain o.sym) f))
    (found_outside ds (declared_from BySymbol Cjs start tree) (twins_from start tree)
    (inner_scopes o.path) (are_inner o.path) (plain o.sym) none)
    ∙ outside (binds all Top (plain o.sym)) (binds all Wrapper (plain o.sym))
  where
    ds : List Declared
    ds = declared_from BySymbol Es start tree

    all : List Declared
    all = declared BySymbol Cjs tree

    is_none : (f : Option Scope) → bound_in (plain o.sym) f ≡ Global x → f ≡ None
    is_none None e = refl
    is_none (Some s) e = cc

    none : find (λ s. binds (declared BySymbol Es tree) s (plain o.sym))
        (inner_scopes o.path ++ Top ∷ []) ≡ None
    none =
        is_none (find (λ s. binds (declared BySymbol Es tree) s (plain o.sym))
        (inner_scopes o.path ++ Top ∷ []))
        (ap (λ l. bound_in (plain o.sym) (find
        (λ s. binds (declared BySymbol Es tree) s (plain o.sym)) l)) (sym (es_scopes o.path))
        ∙ ap (λ d. own_or_found (declared BySymbol Es tree)
        (bound_in (plain o.sym) (find (λ s. binds (declared BySymbol Es tree) s (plain o.sym))
        (scopes_around Es o.path))) d) (sym (no_declaration Es o role))
        ∙ free)

    outside : (b c : Bool) → is_inside 0 (bound_in (plain o.sym)
        (cond b (Some Top) (cond c (Some Wrapper) None))) ≡ false
    outside true c = refl
    outside false true = refl
    outside false false = refl
