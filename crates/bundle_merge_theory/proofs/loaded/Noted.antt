-- What each name of a CommonJS module denotes in the item of its load function, by itself.
-- The names of the item of a load function, as those of an item of a bundle.
-- What some scope takes in a tree that is read as an ES module, some scope takes where it is read
-- as a CommonJS module.
use Rattle.std.proofs.Common.{◌≡◌, ℕ, zero, suc, ◌⊎◌, inl, inr, Bool, true, false, cond, List, [], ◌∷◌, ◌++◌, Option, Some, None, filter_map, slice_get, refl, ap, sym, ◌∙◌, subst, append-nil, append_assoc, codes, bytes_eq, not, ◌&&◌, find, is_some}
use Rattle.std.specs.List.{cons_option}
use Rattle.std.proofs.lemmas.Bool.{and_parts, false≢true, false_from_ne_true}
use Rattle.std.proofs.lemmas.Option.{none-some, same_Some}
use Rattle.bundle_syntax.specs.Item as h
use Rattle.bundle_syntax.specs.Item.{Item}
use Rattle.bundle_rules.specs.Places.{Occurrence, occurrences, is_binding, occurrences_from, Around}
use Rattle.bundle_rules.specs.Scopes.{Es, Cjs, Scope, Wrapper, scope_order, same_scope, scopes_around, Top, Inner, ModuleKind, ScopeKind, kind_of_scope, scope_at}
use Rattle.bundle_rules.specs.Declarations.{BySymbol, ByContext, Way, Name, name_of, names_agree, Declared, declared_by, declaration_of, declared_from, wrapper_parameter, declared, way_of}
use Rattle.bundle_rules.specs.Homes.{home_of, is_declared_in, declares, is_top, is_arguments, is_function, takes, from_taker, nearest}
use Rattle.bundle_rules.specs.Denotes.{Denoted, Bound, Global, denoted_in, own_or_found, denoted_of, denotations, bound_in, is_unresolved, is_written_in, is_implied_in, written_or_implied, denoted_by_context}
use Rattle.bundle_rules.specs.Idents.{Ident}
use Rattle.bundle_rules.specs.Parts.{tree_of_items}
use Rattle.bundle_rules.specs.Symbols.{denoted_symbol}
use Rattle.bundle_scope_names.proofs.Numbering.{Numbering, context_of}
use Rattle.bundle_scope_names.proofs.HomesLemmas.{Each, list_any-found, find-passes, find-none, IsBySymbol, names_agree-by_symbol, same_order, bytes_same as same_symbol}
use Rattle.bundle_scope_names.proofs.FoundLemmas.{plain, with}
use Rattle.bundle_scope_names.proofs.TreeLemmas.{each-occurrence, each-declared, denotation-at, IsFor, denoted-for}
use Rattle.bundle_merge_theory.specs.joined.Joined.{own_declared, is_item_top_name}
use Rattle.bundle_merge_theory.specs.joined.Notes
use Rattle.bundle_merge_theory.specs.joined.Notes.{own_denoted, its_name, is_inner_denoted, is_inner_name, IsOccurrenceNoted, IsListedIn}
use Rattle.bundle_merge_theory.proofs.joined.Paths.{item-occurrences, occurrences-append}
use Rattle.bundle_merge_theory.specs.loaded.Framed.{AllBeside, more, of_wrapper, Beside, top, wrapper, inner}
use Rattle.bundle_merge_theory.specs.loaded.Kept.{load_declared, item_declared, DenotedBeside, StandsBeside, IsDeclarationTaken, IsOccurrenceKnown, IsToldApart, KeepsName, globals, bindings}
use Rattle.bundle_merge_theory.specs.loaded.Turned.{Turned, NodeGoes, FollowsTurned, done, kept, changed}
use Rattle.bundle_merge_theory.specs.loaded.Item.{parameter_named, back_items, load_item, body_start, module_start, declared_by_names, load_name, helper_name, parameter_name}
use Rattle.bundle_merge_theory.specs.loaded.Paths.{at_top}
use Rattle.bundle_merge_theory.specs.loaded.Loaded.{module_declared, module_names, body_names, function_declared, IsLoadedItem}
use Rattle.bundle_merge_theory.proofs.loaded.Beside.{kept-beside}
use Rattle.bundle_merge_theory.proofs.loaded.Pieces.{turned-frame}
use Rattle.bundle_merge_theory.proofs.loaded.Parts.{follows-turned}
use Rattle.bundle_merge_theory.proofs.loaded.Declaring.{AreTaken, own-before, own-after, declared-own, declared-follow, lifts-follow, AreOwn, not-default}
use Rattle.bundle_merge_theory.proofs.joined.Declarations.{AreNamed, IsNamed}
use Rattle.bundle_merge_theory.proofs.joined.Denotes.{nothing-implied, identified}
use Rattle.bundle_merge_theory.proofs.joined.Notes.{inner-declared}
use Rattle.bundle_merge_theory.proofs.joined.Bindings.{bound-global}

-- ---- whole

-- Lists.

pub picked : {A B : Type 0} (f : A → Option B) (xs : List A) (j : ℕ) (y : B) →
    slice_get (filter_map f xs) j ≡ Some y →
    (i : ℕ) × (x : A) × (slice_get xs i ≡ Some x) × (f x ≡ Some y)
picked f [] j y at = absurd (none-some y at)
picked {B = B} f (x ∷ xs) j y at = by (f x) refl j at (picked f xs)
  where
    by : (p : Option B) → f x ≡ p → (j : ℕ) →
        slice_get (cons_option p (filter_map f xs)) j ≡ Some y →
        ((j : ℕ) (y : B) → slice_get (filter_map f xs) j ≡ Some y → (i : ℕ) × (z : _)
        × (slice_get xs i ≡ Some z) × (f z ≡ Some y)) →
        (i : ℕ) × (z : _) × (slice_get (x ∷ xs) i ≡ Some z) × (f z ≡ Some y)
    by None is j at rest = let it = rest j y at in (suc it.0, it.1, it.2, it.3)
    by (Some z) is zero at rest = (zero, x, refl, is ∙ at)
    by (Some z) is (suc j) at rest = let it = rest j y at in (suc it.0, it.1, it.2, it.3)

-- Both sides.

names-plain : (os : List Occurrence) → Each IsBySymbol (declared_by_names BySymbol Es os)
names-plain os j d at =
    let it = picked (declaration_of BySymbol Es) os j d at in
    by it.1 d it.3 (is_binding it.1.role) refl (way_of it.1.path) refl
  where
    by : (o : Occurrence) (d : Declared) → declaration_of BySymbol Es o ≡ Some d → (b : Bool) →
        is_binding o.role ≡ b → (w : Option Way) → way_of o.path ≡ w → d.name.ctxt ≡ None
    by o d is true role (Some way) at =
        ap (λ (e : Declared). e.name.ctxt)
        (sym (same_Some _ d
        (sym (ap (λ b. cond b
        (declared_by o.place (plain o.sym) (scopes_around Es o.path) (way_of o.path)) None)
        role ∙ ap (declared_by o.place (plain o.sym) (scopes_around Es o.path)) at) ∙ is)))
    by o d is true role None at =
        absurd (none-some d
        (sym (ap (λ b. cond b
        (declared_by o.place (plain o.sym) (scopes_around Es o.path) (way_of o.path)) None)
        role ∙ ap (declared_by o.place (plain o.sym) (scopes_around Es o.path)) at) ∙ is))
    by o d is false role w at =
        absurd (none-some d
        (sym (ap (λ b. cond b
        (declared_by o.place (plain o.sym) (scopes_around Es o.path) (way_of o.path)) None)
        role) ∙ is))

module _ {L : Ident → Type 0} {xs ys : List Item} (w : Turned L zero xs ys) where
  pub declared-module : module_declared xs ≡ wrapper_parameter (codes "module")
      ∷ wrapper_parameter (codes "exports") ∷ declared_by_names BySymbol Cjs (module_names xs)
  declared-module =
      ap (λ ds. wrapper_parameter (codes "module") ∷ wrapper_parameter (codes "exports") ∷ ds)
      (declared-own BySymbol Cjs module_start xs (h.Close ∷ []) (own-before w)
      ∙ append-nil (declared_by_names BySymbol Cjs (module_names xs)))

  occurrences-module : occurrences (tree_of_items xs) ≡ module_names xs
  occurrences-module = item-occurrences xs

  -- what the item declares
  pub declared-body : (load helper m e : Ident) →
      own_declared (load_item load helper m e ys) ≡ load_declared load.0 load.1
      ∷ parameter_named 13 m ∷ parameter_named 18 e
      ∷ declared_by_names ByContext Es (body_names ys)
  declared-body load helper m e =
      ap (λ ds. load_declared load.0 load.1 ∷ parameter_named 13 m ∷ parameter_named 18 e ∷ ds)
      (ap (declared_from ByContext Es body_start) (append_assoc ys back_items (h.Close ∷ []))
      ∙ (declared-own ByContext Es body_start ys (back_items ++ h.Close ∷ []) (own-after w)
      ∙ append-nil (declared_by_names ByContext Es (body_names ys))))

  module _ (g : Numbering) (load helper m e : Ident) (its : IsLoadedItem g w load m e) where
    abbrev ds : List Declared
    ds = module_declared xs

    abbrev es : List Declared
    es = function_declared ys

    abbrev R : ℕ → ℕ → Type 0
    R = NodeGoes w 1 22

    abbrev item : List Item
    item = load_item load helper m e ys

    pub follows : FollowsTurned L R g ds (module_names xs) (body_names ys)
    follows =
        follows-turned R g ds w module_start body_start (at_top 0 0) (λ a b there. there) its.has

    known : Each (IsOccurrenceKnown ds) (module_names xs)
    known = subst (Each (IsOccurrenceKnown ds)) occurrences-module (λ i o at d is. record {
      taken = each-occurrence IsDeclarationTaken BySymbol Cjs (tree_of_items xs) its.taken i o at d is;
      at =
          (each-occurrence (λ d. (j : ℕ) × (slice_get ds j ≡ Some d)) BySymbol Cjs
          (tree_of_items xs) (λ j d at. (j, at)) i o at d is).0;
      listed =
          (each-occurrence (λ d. (j : ℕ) × (slice_get ds j ≡ Some d)) BySymbol Cjs
          (tree_of_items xs) (λ j d at. (j, at)) i o at d is).1;
    })

    takens : AreTaken (module_names xs)
    takens i o at d is = (known i o at d is).taken

    pub all-beside : AllBeside R ds es
    all-beside =
        subst (λ list. AllBeside R list es) (sym declared-module)
        (more (of_wrapper 13 (codes "module"))
        (more (of_wrapper 18 (codes "exports")) (declared-follow R g ds follows takens)))

    pub plainly : Each IsBySymbol es
    plainly zero d at = ap (λ (e : Declared). e.name.ctxt) (sym (same_Some _ d at))
    plainly (suc zero) d at = ap (λ (e : Declared). e.name.ctxt) (sym (same_Some _ d at))
    plainly (suc (suc j)) d at = names-plain (body_names ys) j d at

    pub declared-item : own_declared item ≡ item_declared (turned-frame w).from g load.0 load.1 es
    declared-item =
        declared-body load helper m e
        ∙ (λ i. load_declared load.0 load.1 ∷ parameter_named 13 (its.its_module i)
        ∷ parameter_named 18 (its.its_exports i)
        ∷ lifts-follow R (turned-frame w) g all-beside plainly follows takens i)

    -- where each declaration comes from
    sources : (j : ℕ) (d : Declared) → slice_get ds j ≡ Some d →
        (d ≡ wrapper_parameter (codes "module"))
        ⊎ ((d ≡ wrapper_parameter (codes "exports"))
        ⊎ ((i : ℕ) × (q : Occurrence) × (slice_get (module_names xs) i ≡ Some q)
        × (declaration_of BySymbol Cjs q ≡ Some d)))
    sources j d at = by j (sym (ap (λ list. slice_get list j) declared-module) ∙ at)
      where
        by : (j : ℕ) →
            slice_get (wrapper_parameter (codes "module") ∷ wrapper_parameter (codes "exports")
            ∷ declared_by_names BySymbol Cjs (module_names xs)) j ≡ Some d →
            (d ≡ wrapper_parameter (codes "module"))
            ⊎ ((d ≡ wrapper_parameter (codes "exports"))
            ⊎ ((i : ℕ) × (q : Occurrence) × (slice_get (module_names xs) i ≡ Some q)
            × (declaration_of BySymbol Cjs q ≡ Some d)))
        by zero at = inl (sym (same_Some _ d at))
        by (suc zero) at = inr (inl (sym (same_Some _ d at)))
        by (suc (suc j)) at =
            inr (inr (picked (declaration_of BySymbol Cjs) (module_names xs) j d at))

    denotes-listed : (i : ℕ) (o : Occurrence) → slice_get (module_names xs) i ≡ Some o →
        slice_get (denotations BySymbol Cjs (tree_of_items xs)) i
        ≡ Some (denoted_of BySymbol Cjs ds o)
    denotes-listed i o at =
        denotation-at Cjs (tree_of_items xs) i o (ap (λ os. slice_get os i) occurrences-module
        ∙ at)

    told : (i : ℕ) (o : Occurrence) → slice_get (module_names xs) i ≡ Some o → (s : Scope) →
        denoted_of BySymbol Cjs ds o ≡ Bound s (plain o.sym) → IsToldApart g ds s o.sym
    told i o at s is = record { own = its.apart.own i s (plain o.sym) listed; apart = apart }
      where
        listed : slice_get (denotations BySymbol Cjs (tree_of_items xs)) i
            ≡ Some (Bound s (plain o.sym))
        listed = denotes-listed i o at ∙ ap Some is

        of_parameter : (x : List ℕ) → (x ≡ codes "module") ⊎ (x ≡ codes "exports") →
            (other : Scope) → same_scope Wrapper other ≡ true → bytes_eq x o.sym ≡ true →
            g (scope_order other) o.sym ≡ g (scope_order s) o.sym →
            scope_order other ≡ scope_order s
        of_parameter x which other home symbol numbers =
            let zero_is : 0 ≡ scope_order other = same_order Wrapper other home in
            let name : x ≡ o.sym = same_symbol x o.sym symbol in
            let wrapped : s ≡ Wrapper =
            its.apart.parameters i s (plain o.sym) listed
            (subst (λ y. (y ≡ codes "module") ⊎ (y ≡ codes "exports")) name which)
            (ap (λ n. g n o.sym) zero_is ∙ numbers) in
            sym zero_is ∙ sym (ap scope_order wrapped)

        apart : (other : Scope) → declares ds other (plain o.sym) ≡ true →
            g (scope_order other) o.sym ≡ g (scope_order s) o.sym →
            scope_order other ≡ scope_order s
        apart other declared numbers =
            let it = list_any-found (is_declared_in ds other (plain o.sym)) ds declared in
            let parts = and_parts (same_scope (home_of ds it.1) other) _ it.3 in
            let symbol : bytes_eq it.1.name.sym o.sym ≡ true =
            sym (names_agree-by_symbol it.1.name (plain o.sym) refl) ∙ parts.1 in
            by it.1 parts.0 symbol (sources it.0 it.1 it.2)
          where
            by : (d : Declared) → same_scope (home_of ds d) other ≡ true →
                bytes_eq d.name.sym o.sym ≡ true →
                (d ≡ wrapper_parameter (codes "module"))
                ⊎ ((d ≡ wrapper_parameter (codes "exports"))
                ⊎ ((j : ℕ) × (q : Occurrence) × (slice_get (module_names xs) j ≡ Some q)
                × (declaration_of BySymbol Cjs q ≡ Some d))) →
                scope_order other ≡ scope_order s
            by d home symbol (inl same) =
                of_parameter (codes "module") (inl refl) other
                (sym (ap (λ e. same_scope (home_of ds e) other) same) ∙ home)
                (sym (ap (λ (e : Declared). bytes_eq e.name.sym o.sym) same) ∙ symbol) numbers
            by d home symbol (inr (inl same)) =
                of_parameter (codes "exports") (inr refl) other
                (sym (ap (λ e. same_scope (home_of ds e) other) same) ∙ home)
                (sym (ap (λ (e : Declared). bytes_eq e.name.sym o.sym) same) ∙ symbol) numbers
            by d home symbol (inr (inr (j, q, there, is_own))) =
                let order : scope_order (home_of ds d) ≡ scope_order other =
                same_order (home_of ds d) other home in
                let name : d.name.sym ≡ o.sym = same_symbol d.name.sym o.sym symbol in
                let its_listed : slice_get (denotations BySymbol Cjs (tree_of_items xs)) j
                ≡ Some (Bound (home_of ds d) d.name) = denotes-listed j q there
                ∙ ap (λ p. Some (own_or_found ds
                (denoted_in BySymbol ds (scopes_around Cjs q.path)
                (name_of BySymbol q.sym q.ctxt)) p)) is_own in
                sym order
                ∙ its.apart.apart j i (home_of ds d) s d.name (plain o.sym) its_listed listed name
                (ap (g (scope_order (home_of ds d))) name
                ∙ (ap (λ n. g n o.sym) order ∙ numbers))

    -- no name is that of the load function
    not_load : (i : ℕ) (o : Occurrence) → slice_get (module_names xs) i ≡ Some o →
        names_agree (with load.0 load.1) (with o.sym (context_of g (denoted_of BySymbol Cjs ds o)))
        ≡ false
    not_load i o at = by (denoted_of BySymbol Cjs ds o) refl (denoted-for Cjs ds o)
      where
        by : (d : Denoted) → denoted_of BySymbol Cjs ds o ≡ d → IsFor o.sym d →
            names_agree (with load.0 load.1) (with o.sym (context_of g d)) ≡ false
        by (Global x) is its_name = its.apart.load_other o.sym
        by (Bound s n) is its_name =
            ap (λ (k : Name). names_agree (with load.0 load.1)
            (with k.sym (g (scope_order s) n.sym))) (sym its_name)
            ∙ its.apart.not_load i s n (denotes-listed i o at ∙ ap Some is)

    pub kept-there : (i : ℕ) (o u : Occurrence) → slice_get (module_names xs) i ≡ Some o →
        StandsBeside R o u → KeepsName g ds o u →
        DenotedBeside R g ds (denoted_of BySymbol Cjs ds o) (own_denoted item u)
    kept-there i o u at stands keeps =
        subst (λ list. DenotedBeside R g ds (denoted_of BySymbol Cjs ds o)
        (denoted_of ByContext Es list u)) (sym declared-item)
        (kept-beside R (turned-frame w) g all-beside plainly load.0 load.1 o u stands keeps
        (known i o at) (told i o at)
        ((λ k. names_agree (with load.0 load.1) (with (keeps.symbol k) (keeps.ctxt k)))
        ∙ not_load i o at))

-- ---- noted

-- what an identifier declares has its name
declared-name : (u : Occurrence) (d : Declared) → declaration_of ByContext Es u ≡ Some d →
    d.name ≡ with u.sym u.ctxt
declared-name u d is = by (is_binding u.role) refl (way_of u.path) refl
  where
    by : (b : Bool) → is_binding u.role ≡ b → (w : Option Way) → way_of u.path ≡ w →
        d.name ≡ with u.sym u.ctxt
    by true role (Some way) at =
        ap (λ (q : Declared). q.name)
        (sym (same_Some _ d
        (sym (ap (λ b. cond b
        (declared_by u.place (with u.sym u.ctxt) (scopes_around Es u.path) (way_of u.path))
        None) role ∙ ap (declared_by u.place (with u.sym u.ctxt) (scopes_around Es u.path)) at)
        ∙ is)))
    by true role None at =
        absurd (none-some d
        (sym (ap (λ b. cond b
        (declared_by u.place (with u.sym u.ctxt) (scopes_around Es u.path) (way_of u.path))
        None) role ∙ ap (declared_by u.place (with u.sym u.ctxt) (scopes_around Es u.path)) at)
        ∙ is))
    by false role w at =
        absurd (none-some d
        (sym (ap (λ b. cond b
        (declared_by u.place (with u.sym u.ctxt) (scopes_around Es u.path) (way_of u.path))
        None) role) ∙ is))

module _ {L : Ident → Type 0} {xs ys : List Item} (w : Turned L zero xs ys) (g : Numbering)
    (load helper m e : Ident) (its : IsLoadedItem g w load m e) where
  abbrev item_noted : List Item
  item_noted = load_item load helper m e ys

  pub occurrences-item : occurrences (tree_of_items item_noted) ≡ load_name load ∷ helper_name helper
      ∷ parameter_name 13 12 11 m ∷ parameter_name 18 17 16 e ∷ body_names ys
  occurrences-item =
      ap (λ os. load_name load ∷ helper_name helper ∷ parameter_name 13 12 11 m
      ∷ parameter_name 18 17 16 e ∷ os)
      (ap (occurrences_from body_start) (append_assoc ys back_items (h.Close ∷ []))
      ∙ (occurrences-append body_start ys (back_items ++ h.Close ∷ [])
      ∙ append-nil (body_names ys)))

  -- each name of the body is one of the module's
  pub data NamedHere (u : Occurrence) : Type 0 where
    of_kept : (i : ℕ) (o : Occurrence) → slice_get (module_names xs) i ≡ Some o →
        StandsBeside (NodeGoes w 1 22) o u → KeepsName g (module_declared xs) o u →
        DenotedBeside (NodeGoes w 1 22) g (module_declared xs)
        (denoted_of BySymbol Cjs (module_declared xs) o) (own_denoted item_noted u) →
        NamedHere u
    of_changed : (o : Occurrence) → StandsBeside (NodeGoes w 1 22) o u → is_binding o.role ≡ false →
        L (u.sym, u.ctxt) → NamedHere u

  pub named-here : (j : ℕ) (u : Occurrence) → slice_get (body_names ys) j ≡ Some u → NamedHere u
  named-here j u at = by (follows w g load helper m e its) j at (λ i o there. (i, there))
    where
      by : {os us : List Occurrence} → FollowsTurned L (NodeGoes w 1 22) g (module_declared xs) os us →
          (j : ℕ) → slice_get us j ≡ Some u →
          ((i : ℕ) (o : Occurrence) → slice_get os i ≡ Some o →
          (k : ℕ) × (slice_get (module_names xs) k ≡ Some o)) →
          NamedHere u
      by done j at there = absurd (none-some u at)
      by (kept {o = o} {u = first} stands keeps rest) zero at there =
          let same : first ≡ u = same_Some first u at in
          let its_stands = subst (StandsBeside (NodeGoes w 1 22) o) same stands in
          let its_keeps = subst (KeepsName g (module_declared xs) o) same keeps in
          let listed = there zero o refl in
          of_kept listed.0 o listed.1 its_stands its_keeps
          (kept-there w g load helper m e its listed.0 o u listed.1 its_stands its_keeps)
      by (kept stands keeps rest) (suc j) at there = by rest j at (λ i o is. there (suc i) o is)
      by (changed {o = o} {u = first} stands refers is rest) zero at there =
          of_changed o (subst (StandsBeside (NodeGoes w 1 22) o) (same_Some first u at) stands) refers
          (subst (λ (q : Occurrence). L (q.sym, q.ctxt)) (same_Some first u at) is)
      by (changed stands refers is rest) (suc j) at there =
          by rest j at (λ i o is. there (suc i) o is)

  -- a name with a context that no binding of the module has
  pub record IsStrange (x : List ℕ) (c : ℕ) : Type 0 where
    pub bindings : (i : ℕ) (o : Occurrence) (s : Scope) (k : Name) →
        slice_get (module_names xs) i ≡ Some o →
        denoted_of BySymbol Cjs (module_declared xs) o ≡ Bound s k →
        names_agree (with k.sym (g (scope_order s) k.sym)) (with x c) ≡ false
    pub its_module : names_agree (with m.0 m.1) (with x c) ≡ false
    pub its_exports : names_agree (with e.0 e.1) (with x c) ≡ false

  -- is no inner name of the item
  pub strange-outside : (x : List ℕ) (c : ℕ) → IsStrange x c →
      is_inner_name (own_declared item_noted) (with x c) ≡ false
  strange-outside x c strange =
      false_from_ne_true (is_inner_name (own_declared item_noted) (with x c)) found
    where
      test : Declared → Bool
      test d = not (is_top (home_of (own_declared item_noted) d)) && names_agree d.name (with x c)

      found : is_inner_name (own_declared item_noted) (with x c) ≡ true → ⊥
      found is =
          let it = list_any-found (λ d. not (is_top (home_of (own_declared item_noted) d))
          && names_agree d.name (with x c)) (own_declared item_noted) is in
          let parts = and_parts (not (is_top (home_of (own_declared item_noted) it.1))) _ it.3 in
          by it.0 it.1 (sym (ap (λ ds. slice_get ds it.0) (declared-body w load helper m e))
          ∙ it.2) parts.0 parts.1
        where
          by : (j : ℕ) (d : Declared) →
              slice_get (load_declared load.0 load.1 ∷ parameter_named 13 m ∷ parameter_named 18 e
              ∷ declared_by_names ByContext Es (body_names ys)) j ≡ Some d →
              not (is_top (home_of (own_declared item_noted) d)) ≡ true →
              names_agree d.name (with x c) ≡ true → ⊥
          by zero d at inside agrees =
              false≢true (ap (λ e. not (is_top (home_of (own_declared item_noted) e)))
              (same_Some (load_declared load.0 load.1) d at) ∙ inside)
          by (suc zero) d at inside agrees =
              false≢true (sym strange.its_module
              ∙ (ap (λ (q : Declared). names_agree q.name (with x c))
              (same_Some (parameter_named 13 m) d at) ∙ agrees))
          by (suc (suc zero)) d at inside agrees =
              false≢true (sym strange.its_exports
              ∙ (ap (λ (q : Declared). names_agree q.name (with x c))
              (same_Some (parameter_named 18 e) d at) ∙ agrees))
          by (suc (suc (suc j))) d at inside agrees =
              let it = picked (declaration_of ByContext Es) (body_names ys) j d at in
              of_name it.1 d it.3 (named-here it.0 it.1 it.2) agrees
            where
              of_name : (u : Occurrence) (d : Declared) → declaration_of ByContext Es u ≡ Some d →
                  NamedHere u → names_agree d.name (with x c) ≡ true → ⊥
              of_name u d is (of_changed o stands refers calls) agrees =
                  none-some d (sym (ap
                  (λ b. cond b (declared_by u.place (with u.sym u.ctxt)
                  (scopes_around Es u.path) (way_of u.path)) None) (ap is_binding stands.role
                  ∙ refers)) ∙ is)
              of_name u d is (of_kept i o there stands keeps beside) agrees =
                  go (denoted_of BySymbol Cjs (module_declared xs) o) (own_denoted item_noted u) refl
                  refl beside
                where
                  its_own : own_denoted item_noted u ≡ Bound (home_of (own_declared item_noted) d) d.name
                  its_own =
                      ap (own_or_found (own_declared item_noted)
                      (denoted_in ByContext (own_declared item_noted) (scopes_around Es u.path)
                      (with u.sym u.ctxt))) is

                  go : (a b : Denoted) → denoted_of BySymbol Cjs (module_declared xs) o ≡ a →
                      own_denoted item_noted u ≡ b →
                      DenotedBeside (NodeGoes w 1 22) g (module_declared xs) a b → ⊥
                  go a b first second globals = bound-global (sym its_own ∙ second)
                  go a b first second (bindings {s = s} {t = t} {x = y} near) =
                      let symbol : y ≡ d.name.sym = ap denoted_symbol (sym second ∙ its_own) in
                      let name : d.name ≡ with u.sym u.ctxt = declared-name u d is in
                      let number : u.ctxt ≡ g (scope_order s) y = keeps.ctxt
                      ∙ ap (context_of g) first in
                      false≢true (sym (strange.bindings i o s (plain y) there first)
                      ∙ (ap (λ (k : Name). names_agree k (with x c))
                      (λ k. with ((symbol ∙ ap (λ (q : Name). q.sym) name) k) (sym number k))
                      ∙ (ap (λ (k : Name). names_agree k (with x c)) (sym name) ∙ agrees)))

  -- NOTED: where the items of a bundle know the function and what it calls at their tops, and none
  -- of the module's own names there
  pub record AreKnown (items : List (List Item)) : Type 0 where
    pub load_known : is_item_top_name items (with load.0 load.1) ≡ true
    pub load_strange : IsStrange load.0 load.1
    pub helper_known : is_item_top_name items (with helper.0 helper.1) ≡ true
    pub helper_strange : IsStrange helper.0 helper.1
    pub helper_other : is_arguments helper.0 ≡ false
    pub called_known : (name : Ident) → L name →
        (is_item_top_name items (with name.0 name.1) ≡ true) × IsStrange name.0 name.1
        × (is_arguments name.0 ≡ false)
    pub own_names : (i : ℕ) (o : Occurrence) → slice_get (module_names xs) i ≡ Some o →
        is_item_top_name items (with o.sym
        (context_of g (denoted_of BySymbol Cjs (module_declared xs) o))) ≡ false
    pub global_strange : (x : List ℕ) → IsStrange x 1

  pub beside-inner : {s t : Scope} → (k : Name) → Beside (NodeGoes w 1 22) s t →
      is_inner_denoted (Bound t k) ≡ true
  beside-inner k top = refl
  beside-inner k wrapper = refl
  beside-inner k (inner r) = refl

  module _ (items : List (List Item)) (known : AreKnown items) where
    note-parameter : (place pattern begins : ℕ) (name : Ident) →
        IsOccurrenceNoted items item_noted (parameter_name place pattern begins name)
    note-parameter place pattern begins name =
        Notes.inner refl (λ unwritten. absurd (false≢true (sym unwritten)))

    note-kept : (i : ℕ) (o u : Occurrence) → slice_get (module_names xs) i ≡ Some o →
        KeepsName g (module_declared xs) o u →
        DenotedBeside (NodeGoes w 1 22) g (module_declared xs)
        (denoted_of BySymbol Cjs (module_declared xs) o) (own_denoted item_noted u) →
        IsOccurrenceNoted items item_noted u
    note-kept i o u at keeps beside =
        by (denoted_of BySymbol Cjs (module_declared xs) o) (own_denoted item_noted u) refl refl beside
      where
        not_top : is_item_top_name items (its_name u) ≡ false
        not_top =
            (λ k. is_item_top_name items (with (keeps.symbol k) (keeps.ctxt k)))
            ∙ known.own_names i o at

        by : (a b : Denoted) → denoted_of BySymbol Cjs (module_declared xs) o ≡ a →
            own_denoted item_noted u ≡ b → DenotedBeside (NodeGoes w 1 22) g (module_declared xs) a b →
            IsOccurrenceNoted items item_noted u
        by a b first second globals =
            let one : u.ctxt ≡ 1 = keeps.ctxt ∙ ap (context_of g) first in
            Notes.free one not_top (ap (λ c. is_inner_name (own_declared item_noted) (with u.sym c)) one
            ∙ strange-outside u.sym 1 (known.global_strange u.sym))
        by a b first second (bindings near) =
            Notes.inner (ap is_inner_denoted second ∙ beside-inner _ near) (λ unwritten. not_top)

    -- EACH NAME of the item
    pub all-noted : (o : Occurrence) → IsListedIn item_noted o → IsOccurrenceNoted items item_noted o
    all-noted o (i, at) = by i (sym (ap (λ os. slice_get os i) occurrences-item) ∙ at)
      where
        by : (i : ℕ) →
            slice_get (load_name load ∷ helper_name helper ∷ parameter_name 13 12 11 m
            ∷ parameter_name 18 17 16 e ∷ body_names ys) i ≡ Some o →
            IsOccurrenceNoted items item_noted o
        by zero at =
            subst (IsOccurrenceNoted items item_noted) (same_Some (load_name load) o at)
            (Notes.top_name known.load_known (strange-outside load.0 load.1 known.load_strange))
        by (suc zero) at =
            subst (IsOccurrenceNoted items item_noted) (same_Some (helper_name helper) o at)
            (Notes.top_name known.helper_known
            (strange-outside helper.0 helper.1 known.helper_strange))
        by (suc (suc zero)) at =
            subst (IsOccurrenceNoted items item_noted) (same_Some (parameter_name 13 12 11 m) o at)
            (note-parameter 13 12 11 m)
        by (suc (suc (suc zero))) at =
            subst (IsOccurrenceNoted items item_noted) (same_Some (parameter_name 18 17 16 e) o at)
            (note-parameter 18 17 16 e)
        by (suc (suc (suc (suc j)))) at = of_name (named-here j o at)
          where
            of_name : NamedHere o → IsOccurrenceNoted items item_noted o
            of_name (of_kept i q there stands keeps beside) = note-kept i q o there keeps beside
            of_name (of_changed q stands refers calls) =
                let its = known.called_known (o.sym, o.ctxt) calls in
                Notes.top_name its.0 (strange-outside o.sym o.ctxt its.1)

  named-own : (zs tail : List Item) → AreOwn zs → AreNamed tail → AreNamed (zs ++ tail)
  named-own [] tail own rest = rest
  named-own (h.Open field head ∷ zs) tail own rest =
      (not-default head field (zs ++ tail) own.0, named-own zs tail own.1 rest)
  named-own (h.Ident field x ctxt role ∷ zs) tail own rest = (refl, named-own zs tail own rest)
  named-own (h.Hole field ∷ zs) tail own rest = (refl, named-own zs tail own rest)
  named-own (h.Close ∷ zs) tail own rest = (refl, named-own zs tail own rest)

  -- no default without a name
  pub item-named : IsNamed item_noted
  item-named = (
    refl,
    (
      refl,
      (
        refl,
        (
          refl,
          (
            refl,
            (
              refl,
              (
                refl,
                (
                  refl,
                  (
                    refl,
                    (
                      refl,
                      (
                        refl,
                        (
                          refl,
                          (
                            refl,
                            (
                              refl,
                              (
                                refl,
                                (
                                  refl,
                                  (
                                    refl,
                                    (
                                      refl,
                                      (
                                        refl,
                                        (
                                          refl,
                                          (
                                            refl,
                                            subst AreNamed (sym (append_assoc ys back_items (h.Close ∷ [])))
                                                (named-own ys (back_items ++ h.Close ∷ []) (own-after w)
                                                (refl, (refl, (refl, (refl, (refl, (refl, (refl, (refl, tt))))))))),
                                          ),
                                        ),
                                      ),
                                    ),
                                  ),
                                ),
                              ),
                            ),
                          ),
                        ),
                      ),
                    ),
                  ),
                ),
              ),
            ),
          ),
        ),
      ),
    ),
  )

  -- a strange name that refers denotes nothing inside
  pub strange-own : (x : List ℕ) (c : ℕ) → IsStrange x c → is_arguments x ≡ false →
      (u : Occurrence) → u.sym ≡ x → u.ctxt ≡ c → is_binding u.role ≡ false →
      is_inner_denoted (own_denoted item_noted u) ≡ false
  strange-own x c strange other u symbol ctxt refers =
      ap (λ d. is_inner_denoted (own_or_found (own_declared item_noted)
      (denoted_by_context (own_declared item_noted) (scopes_around Es u.path) (with u.sym u.ctxt))
      d)) (ap (λ b. cond b (declared_by u.place (with u.sym u.ctxt) (scopes_around Es u.path)
      (way_of u.path)) None) refers)
      ∙ ((λ k. is_inner_denoted (denoted_by_context (own_declared item_noted) (scopes_around Es u.path)
      (with (symbol k) (ctxt k))))
      ∙ by (find (λ scope. is_written_in (own_declared item_noted) scope (with x c))
      (scopes_around Es u.path)) refl)
    where
      none_implied : (scope : Scope) → is_implied_in (own_declared item_noted) scope (with x c) ≡ false
      none_implied scope =
          nothing-implied (own_declared item_noted) (identified item_noted item-named) scope (with x c)
          ∙ ap (λ b. b && is_function scope) other

      unbound : (b : Bool) →
          is_inner_denoted (cond b (Global x)
          (bound_in (plain x)
          (find (λ scope. is_implied_in (own_declared item_noted) scope (with x c))
          (scopes_around Es u.path)))) ≡ false
      unbound true = refl
      unbound false =
          ap (λ o. is_inner_denoted (bound_in (plain x) o))
          (find-none (λ scope. is_implied_in (own_declared item_noted) scope (with x c)) none_implied
          (scopes_around Es u.path))

      by : (o : Option Scope) →
          find (λ scope. is_written_in (own_declared item_noted) scope (with x c))
          (scopes_around Es u.path) ≡ o →
          is_inner_denoted (written_or_implied (own_declared item_noted) (scopes_around Es u.path) (with x c) o)
          ≡ false
      by None is = unbound (is_unresolved (Some c))
      by (Some Wrapper) is = refl
      by (Some Top) is = refl
      by (Some (Inner kind begins)) is =
          let written = find-passes (λ scope. is_written_in (own_declared item_noted) scope (with x c))
          (scopes_around Es u.path) (Inner kind begins) is in
          absurd (false≢true (sym (strange-outside x c strange)
          ∙ inner-declared (own_declared item_noted) kind begins (with x c) written))

-- ---- taking
taken-more : (way : Way) (path : List Around) →
    is_some (nearest (from_taker way (scopes_around Es path))) ≡ true →
    is_some (nearest (from_taker way (scopes_around Cjs path))) ≡ true
taken-more way [] taken = by (takes way Top) taken
  where
    by : (b : Bool) → is_some (nearest (cond b (Top ∷ []) [])) ≡ true →
        is_some (nearest (cond b (Top ∷ Wrapper ∷ []) (from_taker way (Wrapper ∷ [])))) ≡ true
    by true is = refl
    by false is = absurd (false≢true is)
taken-more way (node ∷ outer) taken =
    by (kind_of_scope node.head node.field outer) taken (λ further. taken-more way outer further)
  where
    one : (b : Bool) (s : Scope) →
        is_some (nearest (cond b (s ∷ scopes_around Es outer)
        (from_taker way (scopes_around Es outer)))) ≡ true →
        (is_some (nearest (from_taker way (scopes_around Es outer))) ≡ true →
        is_some (nearest (from_taker way (scopes_around Cjs outer))) ≡ true) →
        is_some (nearest (cond b (s ∷ scopes_around Cjs outer)
        (from_taker way (scopes_around Cjs outer)))) ≡ true
    one true s is rest = refl
    one false s is rest = rest is

    by : (k : Option ScopeKind) →
        is_some (nearest (from_taker way (scope_at node.begins k ++ scopes_around Es outer)))
        ≡ true →
        (is_some (nearest (from_taker way (scopes_around Es outer))) ≡ true →
        is_some (nearest (from_taker way (scopes_around Cjs outer))) ≡ true) →
        is_some (nearest (from_taker way (scope_at node.begins k ++ scopes_around Cjs outer)))
        ≡ true
    by None is rest = rest is
    by (Some kind) is rest =
        one (takes way (Inner kind node.begins)) (Inner kind node.begins) is rest

-- what an occurrence declares
taken-name : (o : Occurrence) (d : Declared) →
    ((d : Declared) → declaration_of BySymbol Es o ≡ Some d → IsDeclarationTaken d) →
    declaration_of BySymbol Cjs o ≡ Some d → IsDeclarationTaken d
taken-name o d taken is = by (is_binding o.role) refl (way_of o.path) refl
  where
    declares : (kind : ModuleKind) → is_binding o.role ≡ true → (w : Option Way) →
        way_of o.path ≡ w →
        declaration_of BySymbol kind o
        ≡ declared_by o.place (plain o.sym) (scopes_around kind o.path) w
    declares kind role w at =
        ap (λ b. cond b (declared_by o.place (plain o.sym) (scopes_around kind o.path)
        (way_of o.path)) None) role
        ∙ ap (declared_by o.place (plain o.sym) (scopes_around kind o.path)) at

    by : (b : Bool) → is_binding o.role ≡ b → (w : Option Way) → way_of o.path ≡ w → IsDeclarationTaken d
    by false role w at =
        absurd (none-some d
        (sym (ap (λ b. cond b
        (declared_by o.place (plain o.sym) (scopes_around Cjs o.path) (way_of o.path)) None)
        role) ∙ is))
    by true role None at = absurd (none-some d (sym (declares Cjs role None at) ∙ is))
    by true role (Some way) at =
        subst IsDeclarationTaken (same_Some _ d (sym (declares Cjs role (Some way) at) ∙ is))
        (taken-more way o.path
        (taken (record {
          place = o.place;
          name = plain o.sym;
          by = way;
          scopes = scopes_around Es o.path;
        }) (declares Es role (Some way) at)))

-- TAKEN
pub taken-by-es : (xs : List Item) → Each IsDeclarationTaken (declared BySymbol Es (tree_of_items xs)) →
    Each IsDeclarationTaken (module_declared xs)
taken-by-es xs taken =
    each-declared IsDeclarationTaken (λ (o : Occurrence). (d : Declared) → declaration_of BySymbol Es o
    ≡ Some d → IsDeclarationTaken d) BySymbol Cjs (λ x. refl) (λ place. refl)
    (λ o d its is. taken-name o d its is) (tree_of_items xs)
    (each-occurrence IsDeclarationTaken BySymbol Es (tree_of_items xs) taken)
