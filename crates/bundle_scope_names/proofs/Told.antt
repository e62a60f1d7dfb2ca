-- Numbers for bindings tell them apart.
use Rattle.std.proofs.Common.{◌≡◌, ◌≢◌, ◌≤◌, ℕ, zero, suc, ◌==◌, ◌&&◌, Bool, true, false, cond, List, [], ◌∷◌, Option, Some, None, option_map, length, map, bytes_eq, refl, ap, sym, ◌∙◌, subst, eqb-true, eq-eqb, arith}
use Rattle.std.specs.Prelude.{slice_get, unwrap_or}
use Rattle.std.specs.List.{AllZip}
use Rattle.std.proofs.lemmas.Bool.{and_from, and_parts}
use Rattle.std.proofs.lemmas.Option.{none-some, same_Some, slice_get-map, slice_get_within}
use Rattle.std.proofs.lemmas.Slice.Eq.{bytes_eq-Decides}
use Rattle.bundle_syntax.specs.Item.{Item}
use Rattle.bundle_rules.specs.Places.{start, Occurrence, occurrences}
use Rattle.bundle_rules.specs.Scopes.{ModuleKind, Scope, Wrapper, Top, Inner, scope_order}
use Rattle.bundle_rules.specs.Declarations.{BySymbol, Name, declared}
use Rattle.bundle_rules.specs.Homes.{is_top}
use Rattle.bundle_rules.specs.Denotes.{Denoted, Bound, Global, denoted_of, denotations}
use Rattle.bundle_scope_denote.specs.declared.table.Binding.{Binding}
use Rattle.bundle_scope_denote.specs.declared.table.Denoted.{Denoted as Entry}
use Rattle.bundle_scope_denote.specs.declared.table.Denotations.{Denotations}
use Rattle.bundle_scope_denote.specs.Numbers.{numbered_scope}
use Rattle.bundle_scope_denote.specs.Chains.{numbered_scope_at, passes}
use Rattle.bundle_scope_denote.specs.Listed.{IsBinding, IsDenoted, TellsDenoted, IsDenotationTable}
use Rattle.bundle_scope_denote.proofs.ZipLemmas.{AllZip-at, AllZip-at_second}
use Rattle.bundle_scope_names.specs.Numbering.{is_of_top, binding_number, HasContext}
use Rattle.bundle_scope_names.specs.Resolution.{AreContextsFit}
use Rattle.bundle_scope_names.proofs.Numbering.{context_of}
use Rattle.bundle_scope_names.proofs.FoundLemmas.{plain}
use Rattle.bundle_scope_names.proofs.TreeLemmas.{DenotesOf, denoted-known, same-of, kind_in, occurrences-known, IsFor, denoted-for}
use Rattle.bundle_scope_names.proofs.KnowsLemmas.{number-within, number-one}

-- Contexts beside what is denoted, as a function of scope and symbol.

-- whether this is the binding of the symbol in the scope of this order
abbrev pub is_bound_at : ℕ → List ℕ → Denoted → Bool
is_bound_at order sym (Bound s m) = (scope_order s == order) && bytes_eq m.sym sym
is_bound_at order sym (Global x) = false

-- the first context that stands beside it
abbrev pub context_beside : List Denoted → List ℕ → ℕ → List ℕ → ℕ
context_beside [] cs order sym = 0
context_beside (d ∷ ds) [] order sym = 0
context_beside (d ∷ ds) (c ∷ cs) order sym = cond (is_bound_at order sym d) c (context_beside ds cs order sym)

-- it stands beside such a one
pub record Beside (ds : List Denoted) (cs : List ℕ) (order : ℕ) (sym : List ℕ) (c : ℕ) : Type 0 where
  pub at : ℕ
  pub denoted : Denoted
  pub denoted_at : slice_get ds at ≡ Some denoted
  pub context_at : slice_get cs at ≡ Some c
  pub is : is_bound_at order sym denoted ≡ true

later : {ds : List Denoted} {cs : List ℕ} {order : ℕ} {sym : List ℕ} {c : ℕ} (d : Denoted) (x : ℕ) → Beside ds cs order sym c → Beside (d ∷ ds) (x ∷ cs) order sym c
later d x b = record { at = suc b.at; denoted = b.denoted; denoted_at = b.denoted_at; context_at = b.context_at; is = b.is }

beside-first : (order : ℕ) (x : List ℕ) (ds : List Denoted) (cs : List ℕ) (i : ℕ) (d : Denoted) (c : ℕ) → slice_get ds i ≡ Some d → slice_get cs i ≡ Some c → is_bound_at order x d ≡ true → Beside ds cs order x (context_beside ds cs order x)
beside-first order x [] cs i d c at there is = absurd (none-some d at)
beside-first order x (e ∷ ds) [] i d c at there is = absurd (none-some c there)
beside-first order x (e ∷ ds) (k ∷ cs) i d c at there is = by_test (λ j one two. beside-first order x ds cs j d c one two is) (is_bound_at order x e) refl i at there
  where
    by_test : ((j : ℕ) → slice_get ds j ≡ Some d → slice_get cs j ≡ Some c → Beside ds cs order x (context_beside ds cs order x)) → (t : Bool) → is_bound_at order x e ≡ t → (j : ℕ) → slice_get (e ∷ ds) j ≡ Some d → slice_get (k ∷ cs) j ≡ Some c → Beside (e ∷ ds) (k ∷ cs) order x (cond t k (context_beside ds cs order x))
    by_test rest true here j one two = record { at = 0; denoted = e; denoted_at = refl; context_at = refl; is = here }
    by_test rest false here zero one two = absurd (both (sym here ∙ ap (is_bound_at order x) (same_Some e d one) ∙ is))
      where
        both : false ≡ true → ⊥
        both e = absurd cc
    by_test rest false here (suc j) one two = later e k (rest j one two)

-- nothing stands past a list
slice_get-none : {X : Type 0} (xs : List X) (i : ℕ) → slice_get xs i ≡ None → length xs ≤ i
slice_get-none [] i none = omega arith
slice_get-none (x ∷ xs) zero none = absurd (none-some x (sym none))
slice_get-none (x ∷ xs) (suc i) none = let rest = slice_get-none xs i none in omega (arith, rest)

-- two lists with the same elements are one
pub same-lists : {X : Type 0} (xs ys : List X) → ((i : ℕ) → slice_get xs i ≡ slice_get ys i) → xs ≡ ys
same-lists [] [] same = refl
same-lists [] (y ∷ ys) same = absurd (none-some y (same 0))
same-lists (x ∷ xs) [] same = absurd (none-some x (sym (same 0)))
same-lists (x ∷ xs) (y ∷ ys) same = ap (λ z. z ∷ xs) (same_Some x y (same 0)) ∙ ap (λ zs. y ∷ zs) (same-lists xs ys (λ i. same (suc i)))

-- what is true of two lists place by place
pub zip-from : {A B : Type 0} (R : A → B → Type 0) (xs : List A) (ys : List B) → length xs ≡ length ys → ((i : ℕ) (x : A) (y : B) → slice_get xs i ≡ Some x → slice_get ys i ≡ Some y → R x y) → AllZip R xs ys
zip-from R [] [] len each = tt
zip-from R [] (y ∷ ys) len each = absurd (omega (arith, len))
zip-from R (x ∷ xs) [] len each = absurd (omega (arith, len))
zip-from R (x ∷ xs) (y ∷ ys) len each = (each 0 x y refl refl, zip-from R xs ys (omega (arith, len)) (λ i a b. each (suc i) a b))

pub zip-length : {A B : Type 0} (R : A → B → Type 0) (xs : List A) (ys : List B) → AllZip R xs ys → length xs ≡ length ys
zip-length R [] [] all = refl
zip-length R [] (y ∷ ys) all = absurd all
zip-length R (x ∷ xs) [] all = absurd all
zip-length R (x ∷ xs) (y ∷ ys) all = ap suc (zip-length R xs ys all.1)

-- An occurrence of a tree with its entry in the table.

-- what stands in a scope that passes no test of the top
top-only : (s : Scope) → is_top s ≡ true → s ≡ Top
top-only Top e = refl
top-only Wrapper e = absurd cc
top-only (Inner k b) e = absurd cc

module _ (kind : ModuleKind) (items : List Item) (table : Denotations) (t : IsDenotationTable BySymbol kind items table) where
  abbrev Is : ℕ → Scope → Name → Type 0
  Is number scope name = IsBinding (map numbered_scope table.scopes.items) table.bindings.items number scope name

  -- whether a binding is of the top is whether its scope is
  pub top-of : (number : ℕ) (scope : Scope) (name : Name) → Is number scope name → is_of_top table number ≡ is_top scope
  top-of number scope name b =
      ap (λ o. unwrap_or (option_map (λ (binding : Binding). passes is_top (map numbered_scope table.scopes.items) binding.scope) o) false) b.at
      ∙ ap (λ o. unwrap_or (option_map is_top o) false) b.in_scope

  -- one binding is of one scope
  pub scope-of : (number : ℕ) (s r : Scope) (m n : Name) → Is number s m → Is number r n → s ≡ r
  scope-of number s r m n a b = same_Some s r (sym a.in_scope ∙ ap (λ (x : Binding). numbered_scope_at (map numbered_scope table.scopes.items) x.scope) (same_Some a.binding b.binding (sym a.at ∙ b.at)) ∙ b.in_scope)

  -- what is denoted is known, and has a plain name
  pub record IsSound (d : Denoted) : Type 0 where
    pub known : DenotesOf (kind_in start items) d
    pub symbol : List ℕ
    pub for : IsFor symbol d

  pub sound-at : (i : ℕ) (d : Denoted) → slice_get (denotations BySymbol kind items) i ≡ Some d → IsSound d
  sound-at i d at = by_occurrence (slice_get (occurrences items) i) refl (sym (slice_get-map (denoted_of BySymbol kind (declared BySymbol kind items)) (occurrences items) i) ∙ at)
    where
      by_occurrence : (o : Option Occurrence) → slice_get (occurrences items) i ≡ o → option_map (denoted_of BySymbol kind (declared BySymbol kind items)) o ≡ Some d → IsSound d
      by_occurrence None there is = absurd (none-some d is)
      by_occurrence (Some o) there is =
          let same : denoted_of BySymbol kind (declared BySymbol kind items) o ≡ d = same_Some _ d is in
          record {
            known = subst (DenotesOf (kind_in start items)) same (denoted-known (kind_in start items) kind (declared BySymbol kind items) o (occurrences-known items i o there));
            symbol = o.sym;
            for = subst (IsFor o.sym) same (denoted-for kind (declared BySymbol kind items) o);
          }

  -- two bindings of one order and symbol are one
  pub same-bound : (s r : Scope) (m n : Name) → IsSound (Bound s m) → IsSound (Bound r n) → scope_order s ≡ scope_order r → m.sym ≡ n.sym → (s ≡ r) × (m ≡ n)
  same-bound s r m n a b order symbol =
      let first : m ≡ plain a.symbol = a.for in
      let second : n ≡ plain b.symbol = b.for in
      let symbols : a.symbol ≡ b.symbol = sym (ap (λ (k : Name). k.sym) first) ∙ symbol ∙ ap (λ (k : Name). k.sym) second in
      (same-of (kind_in start items) s r a.known b.known order, first ∙ ap plain symbols ∙ sym second)

  -- Contexts that follow a numbering.
  module _ (local next later : ℕ) (given : List ℕ) (cs : List ℕ) (fit : AreContextsFit local next) (each : AllZip (λ (entry : Entry) (context : ℕ). HasContext table local next given entry.binding context) table.occurrences.items cs) where
    abbrev ds : List Denoted
    ds = denotations BySymbol kind items

    abbrev number : ℕ → List ℕ → ℕ
    number order x = context_beside (denotations BySymbol kind items) cs order x

    -- what a context follows from
    abbrev pub Follows : Denoted → ℕ → Type 0
    Follows (Global x) c = c ≡ 1
    Follows (Bound s m) c = (b : ℕ) × Is b s m × (cond (is_top s) (Some local) (binding_number next given b) ≡ Some c)

    follows-by : (entry : Entry) (binding : Option ℕ) (d : Denoted) (c : ℕ) → entry.binding ≡ binding → TellsDenoted (map numbered_scope table.scopes.items) table.bindings.items entry d → HasContext table local next given entry.binding c → Follows d c
    follows-by entry None (Global x) c is tells has = subst (λ b. HasContext table local next given b c) is has
    follows-by entry None (Bound s m) c is tells has = absurd (subst (λ b. IsDenoted (map numbered_scope table.scopes.items) table.bindings.items b (Bound s m)) is tells)
    follows-by entry (Some b) (Global x) c is tells has = absurd (subst (λ b. IsDenoted (map numbered_scope table.scopes.items) table.bindings.items b (Global x)) is tells)
    follows-by entry (Some b) (Bound s m) c is tells has =
        let bound : Is b s m = subst (λ b. IsDenoted (map numbered_scope table.scopes.items) table.bindings.items b (Bound s m)) is tells in
        (b, bound, ap (λ o. cond o (Some local) (binding_number next given b)) (sym (top-of b s m bound)) ∙ subst (λ b. HasContext table local next given b c) is has)

    -- at each place
    pub follows-at : (i : ℕ) (d : Denoted) (c : ℕ) → slice_get (denotations BySymbol kind items) i ≡ Some d → slice_get cs i ≡ Some c → Follows d c
    follows-at i d c at there =
        let entry = AllZip-at_second (TellsDenoted (map numbered_scope table.scopes.items) table.bindings.items) table.occurrences.items (denotations BySymbol kind items) i d t.denotes at in
        let context = AllZip-at (λ (entry : Entry) (context : ℕ). HasContext table local next given entry.binding context) table.occurrences.items cs i entry.0 each entry.1 in
        follows-by entry.0 entry.0.binding d c refl entry.2 (subst (λ k. HasContext table local next given entry.0.binding k) (same_Some context.0 c (sym context.1 ∙ there)) context.2)

    pub as-many : length cs ≡ length (denotations BySymbol kind items)
    as-many = sym (zip-length (λ (entry : Entry) (context : ℕ). HasContext table local next given entry.binding context) table.occurrences.items cs each) ∙ zip-length (TellsDenoted (map numbered_scope table.scopes.items) table.bindings.items) table.occurrences.items (denotations BySymbol kind items) t.denotes

    -- so each place has a context
    pub context-at : (i : ℕ) (d : Denoted) → slice_get (denotations BySymbol kind items) i ≡ Some d → (c : ℕ) × (slice_get cs i ≡ Some c) × Follows d c
    context-at i d at =
        let entry = AllZip-at_second (TellsDenoted (map numbered_scope table.scopes.items) table.bindings.items) table.occurrences.items (denotations BySymbol kind items) i d t.denotes at in
        let context = AllZip-at (λ (entry : Entry) (context : ℕ). HasContext table local next given entry.binding context) table.occurrences.items cs i entry.0 each entry.1 in
        (context.0, context.1, follows-at i d context.0 at context.1)

    -- one binding has one context
    follows-one : (s : Scope) (m : Name) (c e : ℕ) → Follows (Bound s m) c → Follows (Bound s m) e → c ≡ e
    follows-one s m c e a b =
        let same : a.0 ≡ b.0 = t.one a.0 b.0 s m a.1 b.1 in
        same_Some c e (sym a.2 ∙ ap (λ k. cond (is_top s) (Some local) (binding_number next given k)) same ∙ b.2)

    -- the function gives it
    pub number-is : (i : ℕ) (s : Scope) (m : Name) (c : ℕ) → slice_get (denotations BySymbol kind items) i ≡ Some (Bound s m) → slice_get cs i ≡ Some c → number (scope_order s) m.sym ≡ c
    number-is i s m c at there = by_denoted first.denoted refl
      where
        here : is_bound_at (scope_order s) m.sym (Bound s m) ≡ true
        here = and_from (scope_order s == scope_order s) (bytes_eq m.sym m.sym) (eq-eqb (scope_order s) (scope_order s) refl) ((bytes_eq-Decides m.sym m.sym).1 refl)

        first : Beside (denotations BySymbol kind items) cs (scope_order s) m.sym (number (scope_order s) m.sym)
        first = beside-first (scope_order s) m.sym (denotations BySymbol kind items) cs i (Bound s m) c at there here

        by_denoted : (d : Denoted) → first.denoted ≡ d → number (scope_order s) m.sym ≡ c
        by_denoted (Global x) is = absurd (both (sym (ap (is_bound_at (scope_order s) m.sym) is) ∙ first.is))
          where
            both : false ≡ true → ⊥
            both e = absurd cc
        by_denoted (Bound r n) is =
            let tests : is_bound_at (scope_order s) m.sym (Bound r n) ≡ true = ap (is_bound_at (scope_order s) m.sym) (sym is) ∙ first.is in
            let order : scope_order r ≡ scope_order s = eqb-true (scope_order r) (scope_order s) ((and_parts (scope_order r == scope_order s) (bytes_eq n.sym m.sym) tests).0) in
            let symbol : n.sym ≡ m.sym = (bytes_eq-Decides n.sym m.sym).0 (and_parts (scope_order r == scope_order s) (bytes_eq n.sym m.sym) tests).1 in
            let it : slice_get (denotations BySymbol kind items) first.at ≡ Some (Bound r n) = first.denoted_at ∙ ap (λ d. Some d) is in
            let same = same-bound r s n m (sound-at first.at (Bound r n) it) (sound-at i (Bound s m) at) order symbol in
            let one : Bound r n ≡ Bound s m = ap (λ k. Bound k n) same.0 ∙ ap (Bound s) same.1 in
            follows-one s m (number (scope_order s) m.sym) c (subst (λ d. Follows d (number (scope_order s) m.sym)) one (follows-at first.at (Bound r n) (number (scope_order s) m.sym) it first.context_at)) (follows-at i (Bound s m) c at there)

    -- all contexts are those of the numbering
    pub contexts-are : cs ≡ map (context_of number) (denotations BySymbol kind items)
    contexts-are = same-lists cs (map (context_of number) (denotations BySymbol kind items)) (λ i. by_place i (slice_get (denotations BySymbol kind items) i) refl)
      where
        by_place : (i : ℕ) (o : Option Denoted) → slice_get (denotations BySymbol kind items) i ≡ o → slice_get cs i ≡ slice_get (map (context_of number) (denotations BySymbol kind items)) i
        by_place i None at = past cs (slice_get cs i) refl ∙ sym (slice_get-map (context_of number) (denotations BySymbol kind items) i ∙ ap (option_map (context_of number)) at)
          where
            past : (l : List ℕ) (o : Option ℕ) → slice_get cs i ≡ o → slice_get cs i ≡ None
            past l None is = is
            past l (Some c) is = absurd (omega (arith, slice_get_within cs i c is, as-many, slice_get-none (denotations BySymbol kind items) i at))
        by_place i (Some (Global x)) at = let found = context-at i (Global x) at in found.1 ∙ ap (λ c. Some c) found.2 ∙ sym (slice_get-map (context_of number) (denotations BySymbol kind items) i ∙ ap (option_map (context_of number)) at)
        by_place i (Some (Bound s m)) at = let found = context-at i (Bound s m) at in found.1 ∙ ap (λ c. Some c) (sym (number-is i s m found.0 at found.1)) ∙ sym (slice_get-map (context_of number) (denotations BySymbol kind items) i ∙ ap (option_map (context_of number)) at)

    -- none of a binding is 1
    follows-own : (s : Scope) (m : Name) (c : ℕ) → Follows (Bound s m) c → c ≢ 1
    follows-own s m c follows = by_top (is_top s) follows.2
      where
        by_top : (b : Bool) → cond b (Some local) (binding_number next given follows.0) ≡ Some c → c ≢ 1
        by_top true is = λ e. fit.apart (same_Some local c is ∙ e)
        by_top false is = λ e. let within = number-within next given follows.0 c is in omega (arith, within.0, fit.above, e)

    pub own : (i : ℕ) (s : Scope) (m : Name) → slice_get (denotations BySymbol kind items) i ≡ Some (Bound s m) → number (scope_order s) m.sym ≢ 1
    own i s m at = let found = context-at i (Bound s m) at in λ e. follows-own s m found.0 found.2 (sym (number-is i s m found.0 at found.1) ∙ e)

    -- one context is of one scope
    follows-apart : (s r : Scope) (m n : Name) (c : ℕ) → Follows (Bound s m) c → Follows (Bound r n) c → s ≡ r
    follows-apart s r m n c a b = by_tops (is_top s) (is_top r) refl refl a.2 b.2
      where
        by_tops : (x y : Bool) → is_top s ≡ x → is_top r ≡ y → cond x (Some local) (binding_number next given a.0) ≡ Some c → cond y (Some local) (binding_number next given b.0) ≡ Some c → s ≡ r
        by_tops true true top other one two = top-only s top ∙ sym (top-only r other)
        by_tops true false top other one two = let within = number-within next given b.0 c two in let same : local ≡ c = same_Some local c one in absurd (omega (arith, within.0, fit.beyond, same))
        by_tops false true top other one two = let within = number-within next given a.0 c one in let same : local ≡ c = same_Some local c two in absurd (omega (arith, within.0, fit.beyond, same))
        by_tops false false top other one two = let same : a.0 ≡ b.0 = number-one next given a.0 b.0 c one two in scope-of b.0 s r m n (subst (λ k. Is k s m) same a.1) b.1

    pub apart : (i j : ℕ) (s r : Scope) (m n : Name) → slice_get (denotations BySymbol kind items) i ≡ Some (Bound s m) → slice_get (denotations BySymbol kind items) j ≡ Some (Bound r n) → m.sym ≡ n.sym → number (scope_order s) m.sym ≡ number (scope_order r) n.sym → scope_order s ≡ scope_order r
    apart i j s r m n at there symbols same =
        let one = context-at i (Bound s m) at in
        let two = context-at j (Bound r n) there in
        let equal : one.0 ≡ two.0 = sym (number-is i s m one.0 at one.1) ∙ same ∙ number-is j r n two.0 there two.1 in
        ap scope_order (follows-apart s r m n two.0 (subst (Follows (Bound s m)) equal one.2) two.2)
