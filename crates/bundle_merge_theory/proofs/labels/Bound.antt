-- The names that a declaration of the top binds are bound there by occurrences.
use Rattle.std.proofs.Common.{◌≡◌, ◌⊎◌, inl, inr, ℕ, zero, suc, Bool, true, false, List, [], ◌∷◌, ◌++◌, append_assoc, None, Contains, refl, ap, ◌∙◌, subst}
use Rattle.std.specs.Prelude.{fold}
use Rattle.std.proofs.lemmas.Bool.{false≢true}
use Rattle.bundle_syntax.specs.declared.piece.Role.TheVariants as r
use Rattle.bundle_syntax.specs.Item as h
use Rattle.bundle_syntax.specs.Item.{Item, Head}
use Rattle.bundle_rules.specs.Nodes.{Text}
use Rattle.bundle_rules.specs.Places.{Around, Spot, past, in_field, Occurrence, occurrence_of, occurrences_from, is_binding}
use Rattle.bundle_rules.specs.Scopes.{Es, Top, kind_of_scope, scope_at, scopes_around}
use Rattle.bundle_rules.specs.Entries.{is_in_pattern, names_bound}
use Rattle.bundle_scope_names.specs.fit.Sorts.{One, NodeSlot}
use Rattle.bundle_scope_names.specs.fit.Fits.{AreFit, no_more, over, a_name, a_hole, a_node}
use Rattle.bundle_scope_names.proofs.fit.Keys.{field_twice}
use Rattle.bundle_merge_theory.proofs.noted.Spots.{fold-path}
use Rattle.bundle_merge_theory.proofs.fit.Facts.{fit_nodes}
use Rattle.bundle_link_targets.proofs.ListLemmas.{first-there}
use Rattle.bundle_link_index.proofs.ProgramLemmas.{first_or_later as there-cases}
use Rattle.bundle_merge_theory.proofs.labels.Walked.{put-later}
use Rattle.bundle_merge_theory.proofs.labels.Modules.{occurs-front, occurs-behind}

-- a spot around which is the top of a module
abbrev pub IsAtTop : Spot → Type 0
IsAtTop s = (field : ℕ) → scopes_around Es (in_field field s.path) ≡ Top ∷ []

-- a name is bound at the top by an occurrence among these elements
pub record IsBound (s : Spot) (items : List Item) (x : Text) : Type 0 where
  pub o : Occurrence
  pub there : Contains (occurrences_from s items) o
  pub binds : is_binding o.role ≡ true
  pub symbol : o.sym ≡ x
  pub scopes : scopes_around Es o.path ≡ Top ∷ []

-- the top is around what follows whole nodes
pub top-behind : {list : List NodeSlot} {items : List Item} → AreFit list items → (s : Spot) →
    IsAtTop s →
    IsAtTop (fold past s items)
top-behind fit s top field =
    let p = fold-path (fit_nodes fit) s in
    ap (λ l. scopes_around Es (in_field field l)) p.1
    ∙ (ap (scopes_around Es) (field_twice field p.0 s.path) ∙ top field)

-- ---- patterns
pattern-scope : (head : Head) → is_in_pattern head ≡ true → (field : ℕ) (outer : List Around) →
    kind_of_scope head field outer ≡ None
pattern-scope h.VarDeclarator is field outer = refl
pattern-scope h.BindingIdent is field outer = refl
pattern-scope h.ArrayPat is field outer = refl
pattern-scope h.ObjectPat is field outer = refl
pattern-scope h.RestPat is field outer = refl
pattern-scope h.AssignPat is field outer = refl
pattern-scope h.KeyValuePatProp is field outer = refl
pattern-scope h.AssignPatProp is field outer = refl
pattern-scope _ is field outer = absurd (false≢true is)

top-in : (s : Spot) (n : ℕ) (head : Head) → IsAtTop s →
    ((field : ℕ) (outer : List Around) → kind_of_scope head field outer ≡ None) →
    IsAtTop (past s (h.Open n head))
top-in s n head top none field =
    ap (λ k. scope_at s.place k ++ scopes_around Es (in_field n s.path))
    (none field (in_field n s.path)) ∙ top n

-- what is no pattern binds none of the names
skipped : {list : List NodeSlot} {items : List Item} → AreFit list items →
    (depth : ℕ) (rest : List Item) →
    names_bound (suc depth) (items ++ rest) ≡ names_bound (suc depth) rest
skipped no_more depth rest = refl
skipped (over e fit) depth rest = skipped fit depth rest
skipped (a_name it fit) depth rest = skipped fit depth rest
skipped (a_hole fit) depth rest = skipped fit depth rest
skipped (a_node {inside = ins} {rest = after} it in_it fit) depth rest =
    ap (names_bound (suc (suc depth))) (append_assoc ins (h.Close ∷ after) rest)
    ∙ (skipped in_it (suc depth) (h.Close ∷ (after ++ rest)) ∙ skipped fit depth rest)

pub bound-front : (s : Spot) (xs ys : List Item) (x : Text) → IsBound s xs x →
    IsBound s (xs ++ ys) x
bound-front s xs ys x its = record {
  o = its.o;
  there = occurs-front xs ys s its.o its.there;
  binds = its.binds;
  symbol = its.symbol;
  scopes = its.scopes;
}

pub bound-behind : (s : Spot) (xs ys : List Item) (x : Text) → IsBound (fold past s xs) ys x →
    IsBound s (xs ++ ys) x
bound-behind s xs ys x its = record {
  o = its.o;
  there = occurs-behind xs ys s its.o its.there;
  binds = its.binds;
  symbol = its.symbol;
  scopes = its.scopes;
}

pub bound-later : (s : Spot) (y : Item) (ys : List Item) (x : Text) → IsBound (past s y) ys x →
    IsBound s (y ∷ ys) x
bound-later s y ys x its = record {
  o = its.o;
  there = put-later (occurrence_of s y) (occurrences_from (past s y) ys) its.o its.there;
  binds = its.binds;
  symbol = its.symbol;
  scopes = its.scopes;
}

-- a name that is written first
pub bound-first : (s : Spot) (n : ℕ) (x : Text) (ctxt : ℕ) (rest : List Item) → IsAtTop s →
    IsBound s (h.Ident n x ctxt r.Binding ∷ rest) x
bound-first s n x ctxt rest top = record {
  o = record { place = s.place; sym = x; ctxt = ctxt; role = r.Binding; path = in_field n s.path };
  there = first-there _ _;
  binds = refl;
  symbol = refl;
  scopes = top n;
}

-- each name that patterns bind
pub names-bound : {list : List NodeSlot} {items : List Item} → AreFit list items → (s : Spot) →
    IsAtTop s →
    (rest : List Item) (x : Text) → Contains (names_bound zero (items ++ rest)) x →
    IsBound s items x ⊎ Contains (names_bound zero rest) x
names-bound no_more s top rest x c = inr c
names-bound (over e fit) s top rest x c = names-bound fit s top rest x c
names-bound (a_name {number = n} {x = y} {ctxt = t} {role = r.Binding} {rest = after} it fit) s top
    rest x c =
    elim (there-cases y (names_bound zero (after ++ rest)) x c) [
      | inl e ↦
          inl
          (subst (IsBound s (h.Ident n y t r.Binding ∷ after)) e (bound-first s n y t after top))
      | inr later ↦ elim (names-bound fit (past s (h.Ident n y t r.Binding)) top rest x later) [
        | inl its ↦ inl (bound-later s (h.Ident n y t r.Binding) after x its)
        | inr behind ↦ inr behind
      ]
    ]
names-bound (a_name {number = n} {x = y} {ctxt = t} {role = r.Reference} {rest = after} it fit) s
    top rest x c =
    elim (names-bound fit (past s (h.Ident n y t r.Reference)) top rest x c) [
      | inl its ↦ inl (bound-later s (h.Ident n y t r.Reference) after x its)
      | inr behind ↦ inr behind
    ]
names-bound (a_name {number = n} {x = y} {ctxt = t} {role = r.Word} {rest = after} it fit) s top
    rest x c =
    elim (names-bound fit (past s (h.Ident n y t r.Word)) top rest x c) [
      | inl its ↦ inl (bound-later s (h.Ident n y t r.Word) after x its)
      | inr behind ↦ inr behind
    ]
names-bound (a_hole {number = n} {rest = after} fit) s top rest x c =
    elim (names-bound fit (past s (h.Hole n)) top rest x c) [
      | inl its ↦ inl (bound-later s (h.Hole n) after x its)
      | inr behind ↦ inr behind
    ]
names-bound (a_node {number = n} {sort = k} {head = hd} {inside = ins} {rest = after} it in_it fit)
    s top rest x c =
    by (is_in_pattern hd) refl
    (λ is c. names-bound in_it (past s (h.Open n hd)) (top-in s n hd top (pattern-scope hd is))
    (h.Close ∷ (after ++ rest)) x c)
    (λ c. names-bound fit (fold past s whole)
    (top-behind (a_node {count = One} {more = []} it in_it no_more) s top) rest x c)
    (subst (λ l. Contains (names_bound zero (h.Open n hd ∷ l)) x)
    (append_assoc ins (h.Close ∷ after) rest) c)
  where
    whole : List Item
    whole = h.Open n hd ∷ (ins ++ h.Close ∷ [])

    split : (h.Open n hd ∷ (ins ++ h.Close ∷ [])) ++ after ≡ h.Open n hd ∷ (ins ++ h.Close ∷ after)
    split = ap (λ l. h.Open n hd ∷ l) (append_assoc ins (h.Close ∷ []) after)

    behind : (Contains (names_bound zero (after ++ rest)) x →
        IsBound (fold past s (h.Open n hd ∷ (ins ++ h.Close ∷ []))) after x ⊎ Contains
        (names_bound zero rest) x) →
        Contains (names_bound zero (after ++ rest)) x →
        IsBound s (h.Open n hd ∷ (ins ++ h.Close ∷ after)) x ⊎ Contains (names_bound zero rest) x
    behind ih c = elim (ih c) [
      | inl its ↦ inl (subst (λ l. IsBound s l x) split (bound-behind s whole after x its))
      | inr more ↦ inr more
    ]

    by : (b : Bool) → is_in_pattern hd ≡ b →
        (is_in_pattern hd ≡ true →
        Contains (names_bound zero (ins ++ h.Close ∷ (after ++ rest))) x →
        IsBound (past s (h.Open n hd)) ins x ⊎ Contains (names_bound zero (after ++ rest)) x) →
        (Contains (names_bound zero (after ++ rest)) x →
        IsBound (fold past s (h.Open n hd ∷ (ins ++ h.Close ∷ []))) after x ⊎ Contains
        (names_bound zero rest) x) →
        Contains
        (elim b [
          | true ↦ names_bound zero (ins ++ h.Close ∷ (after ++ rest))
          | false ↦
              names_bound 1 (ins ++ h.Close ∷ (after ++ rest))
        ]) x →
        IsBound s (h.Open n hd ∷ (ins ++ h.Close ∷ after)) x ⊎ Contains (names_bound zero rest) x
    by true is ih_in ih c = elim (ih_in is c) [
      | inl its ↦
          inl
          (bound-later s (h.Open n hd) (ins ++ h.Close ∷ after) x
          (bound-front (past s (h.Open n hd)) ins (h.Close ∷ after) x its))
      | inr more ↦ behind ih more
    ]
    by false is ih_in ih c =
        behind ih (subst (λ l. Contains l x) (skipped in_it zero (h.Close ∷ (after ++ rest))) c)
