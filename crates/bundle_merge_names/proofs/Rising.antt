-- What is meant in a bundle has a context, and literal calls lead to load functions that have one.
-- The names of a list, by its table, have the contexts of a numbering.
-- The places of occurrences rise, and so do those of what stands at some of them.
use Rattle.std.proofs.Common.{◌≡◌, inl, inr, ℕ, List, Option, Some, refl, subst, zero, suc, [], ◌∷◌, None, map, ap, ◌∙◌, ◌≤◌, ◌<◌, ◌+◌, Bool, true, false, not, cond, ◌++◌, if◌then◌else◌, arith}
use Rattle.std.specs.Prelude.{Contains, option_and_then, slice_get, filter, option_map}
use Rattle.std.specs.List.{AllZip}
use Rattle.std.proofs.lemmas.Option.{none-some, same_Some}
use Rattle.std.proofs.lemmas.Bool.{false≢true}
use Rattle.bundle_syntax.specs.Item as in_item
use Rattle.bundle_syntax.specs.Item.{Item}
use Rattle.bundle_syntax.specs.declared.piece.Role.TheVariants as r
use Rattle.bundle_rules.specs.Bundle.{Cause}
use Rattle.bundle_rules.specs.Linking
use Rattle.bundle_rules.specs.Linking.{IsCommonJs}
use Rattle.bundle_rules.specs.Meaning.{Label, IsMeant, Of}
use Rattle.bundle_rules.specs.Nodes.{Text, has_text}
use Rattle.bundle_rules.specs.Program.{Program, calls_of, resolves, IsReached, tree_of}
use Rattle.bundle_rules.specs.Places.{Spot, spot_before, Occurrence, occurrence_of, occurrences, past, occurrence_at, occurrences_from}
use Rattle.bundle_rules.specs.Scopes.{ModuleKind, Es}
use Rattle.bundle_rules.specs.Declarations.{BySymbol, declared}
use Rattle.bundle_rules.specs.Denotes
use Rattle.bundle_rules.specs.Denotes.{denotations, denoted_of}
use Rattle.bundle_rules.proofs.PlacesLemmas.{occurrences-at}
use Rattle.bundle_rules.specs.Bound.{is_free, is_global}
use Rattle.bundle_rules.specs.Entries
use Rattle.bundle_rules.specs.Entries.{RequireCall, call_at, require_calls_from, require_calls, required_at}
use Rattle.bundle_scope_denote.specs.declared.table.Denoted.{Denoted}
use Rattle.bundle_scope_denote.specs.declared.table.Denotations.{Denotations}
use Rattle.bundle_scope_denote.specs.Listed.{IsDenotationTable, IsTableEntry, IsDenoted, TellsDenoted}
use Rattle.bundle_scope_denote.specs.Numbers.{numbered_scope}
use Rattle.bundle_scope_names.proofs.Numbering.{Numbering, context_of}
use Rattle.bundle_link_index.proofs.AskedLemmas.{none_there as none-there}
use Rattle.bundle_link_index.proofs.ProgramLemmas.{filter_back as filter-back}
use Rattle.bundle_link_targets.specs.Meant.{IsShared}
use Rattle.bundle_merge_theory.specs.labels.Functions.{IsOfFunction, a_name, a_parameter}
use Rattle.bundle_merge_theory.specs.made.Alone
use Rattle.bundle_merge_theory.specs.made.Alone.{AreTreesSound, AddsLabel, IsHolder, added}
use Rattle.bundle_merge_theory.proofs.labels.Theorem.{call-given, meant-top}
use Rattle.bundle_merge_theory.proofs.together.Tables.{HoldsLabel, by_module, by_name, holds}
use Rattle.bundle_merge_theory.specs.made.Given.{HookAnswer, Holder, NameOf}
use Rattle.bundle_merge_theory.proofs.told.Calls.{call_free as call-free}
use Rattle.bundle_merge_names.specs.Numbers.{AreNumbersOf}
use Rattle.bundle_merge_names.specs.Own.{ident_symbol, or_global, binding_in, context_by}

-- ---- holding

-- declarations that are meant are of reached modules, all else that is meant has a context, and literal calls lead to
-- reached CommonJS modules
pub record AreHolders (p : Program) (answers : ℕ → Option HookAnswer) : Type 0 where
  pub declared : (k : ℕ) (x : Text) → IsMeant p (Of (Linking.Declared k x)) → IsReached p k
  pub shared : (t : Linking.Target) → IsShared t → IsMeant p (Of t) → IsHolder p answers (NameOf (Of t))
  pub called : (k c : ℕ) (call : Entries.RequireCall) →
      IsReached p k →
      Contains (calls_of p k) call →
      resolves p k call.specifier ≡ Some c →
      IsReached p c × IsCommonJs p c

-- nothing that is added declares a name of a module
no-declaration : {p : Program} {cause : Cause} {label : Label} → AddsLabel p cause label → (k : ℕ) (x : Text) → label ≡ Of (Linking.Declared k x) → ⊥
no-declaration (Alone.imports_name means) k x same = cc
no-declaration Alone.imports_whole k x same = cc
no-declaration Alone.helps k x same = cc
no-declaration Alone.defines k x same = cc
no-declaration (Alone.loads means) k x same = cc
no-declaration Alone.holds_meta k x same = cc
no-declaration Alone.holds_namespace k x same = cc

module _ (p : Program) (answers : ℕ → Option HookAnswer) where
  -- a declaration at the top of a bundle is of a reached module
  top-reached : {label : Label} {h : Holder} → HoldsLabel p label h → (k : ℕ) (x : Text) → label ≡ Of (Linking.Declared k x) → IsReached p k
  top-reached (by_module {m = m} reached es) k x same = let one : m ≡ k = cc in subst (IsReached p) one reached
  top-reached (by_name cause due adds) k x same = absurd (no-declaration adds k x same)

  -- what is declared at the top of a bundle and is no declaration of a module is added
  top-holder : {label : Label} {h : Holder} → HoldsLabel p label h → (t : Linking.Target) → label ≡ Of t → IsShared t → IsHolder p answers (NameOf label)
  top-holder (by_module {m = m} {x = x} reached es) t same shared = let one : t ≡ Linking.Declared m x = cc in absurd (subst IsShared one shared)
  top-holder (by_name cause due adds) t same shared = added cause due adds

  -- a name of the function of a CommonJS module is of a reached one
  function-reached : {label : Label} → IsOfFunction p label → (k : ℕ) (x : Text) → label ≡ Of (Linking.Declared k x) → IsReached p k
  function-reached (a_name {c = c} reached cjs) k x same = let one : c ≡ k = cc in subst (IsReached p) one reached
  function-reached (a_parameter reached cjs) k x same = cc

  -- and is a declaration, if it is a target
  function-declared : {label : Label} → IsOfFunction p label → (t : Linking.Target) → label ≡ Of t → IsShared t → ⊥
  function-declared (a_name {c = c} {x = x} reached cjs) t same shared = let one : t ≡ Linking.Declared c x = cc in subst IsShared one shared
  function-declared (a_parameter reached cjs) t same shared = cc

  pub are-holders : (list : List ℕ) → AreTreesSound p list → AreHolders p answers
  are-holders list sound = record {
    declared = λ k x meant. elim (meant-top p list sound meant) [
      | inl top ↦ top-reached (holds p (Of (Linking.Declared k x)) top).1 k x refl
      | inr own ↦ function-reached own k x refl
    ];
    shared = λ t shared meant. elim (meant-top p list sound meant) [
      | inl top ↦ top-holder (holds p (Of t) top).1 t refl shared
      | inr own ↦ absurd (function-declared own t refl shared)
    ];
    called = call-given p list sound;
  }

-- ---- keeping

-- what holds place by place holds at a place
pub zip-at : {A B : Type 0} (R : A → B → Type 0) (xs : List A) (ys : List B) (k : ℕ) (x : A) (y : B) → AllZip R xs ys → slice_get xs k ≡ Some x → slice_get ys k ≡ Some y → R x y
zip-at R [] ys k x y all ex ey = absurd (none-some x ex)
zip-at R (a ∷ xs) [] k x y all ex ey = absurd (none-some y ey)
zip-at R (a ∷ xs) (b ∷ ys) zero x y all ex ey = subst (λ z. R x z) (same_Some b y ey) (subst (λ z. R z b) (same_Some a x ex) all.0)
zip-at R (a ∷ xs) (b ∷ ys) (suc k) x y all ex ey = zip-at R xs ys k x y all.1 ex ey

-- the symbol of an occurrence is that of the element
pub symbol-of : (spot : Spot) (item : Option Item) (o : Occurrence) → option_and_then (occurrence_of spot) item ≡ Some o → ident_symbol item ≡ o.sym
symbol-of spot None o is = absurd (none-some o is)
symbol-of spot (Some (in_item.Ident field symbol ctxt r.Binding)) o is = ap (λ (q : Occurrence). q.sym) (same_Some _ o is)
symbol-of spot (Some (in_item.Ident field symbol ctxt r.Reference)) o is = ap (λ (q : Occurrence). q.sym) (same_Some _ o is)
symbol-of spot (Some (in_item.Ident field symbol ctxt r.Word)) o is = absurd (none-some o is)
symbol-of spot (Some (in_item.Open field head)) o is = absurd (none-some o is)
symbol-of spot (Some (in_item.Hole field)) o is = absurd (none-some o is)
symbol-of spot (Some in_item.Close) o is = absurd (none-some o is)

module _ (kind : ModuleKind) (items : List Item) (table : Denotations) (is : IsDenotationTable BySymbol kind items table) (i : ℕ) (entry : Denoted) (there : slice_get table.occurrences.items i ≡ Some entry) where
  pub entry-place : (o : Occurrence) → slice_get (occurrences items) i ≡ Some o → entry.place ≡ o.place
  entry-place o at = (zip-at (IsTableEntry (map numbered_scope table.scopes.items) BySymbol kind) table.occurrences.items (occurrences items) i entry o is.occurrences there at).place

  pub entry-symbol : (o : Occurrence) → slice_get (occurrences items) i ≡ Some o → ident_symbol (slice_get items entry.place) ≡ o.sym
  entry-symbol o at = ap (λ place. ident_symbol (slice_get items place)) (entry-place o at) ∙ symbol-of (spot_before items o.place) (slice_get items o.place) o (occurrences-at items i o at)

  pub entry-context : (g : Numbering) (contexts : List (Option ℕ)) → AreNumbersOf kind items table g contexts → (d : Denotes.Denoted) → slice_get (denotations BySymbol kind items) i ≡ Some d → context_by contexts (binding_in table.bindings.items entry.binding) ≡ context_of g d
  entry-context g contexts numbers d at = by entry.binding d at (zip-at (TellsDenoted (map numbered_scope table.scopes.items) table.bindings.items) table.occurrences.items (denotations BySymbol kind items) i entry d is.denotes there at)
    where
      by : (number : Option ℕ) (d : Denotes.Denoted) → slice_get (denotations BySymbol kind items) i ≡ Some d → IsDenoted (map numbered_scope table.scopes.items) table.bindings.items number d → context_by contexts (binding_in table.bindings.items number) ≡ context_of g d
      by None (Denotes.Global symbol) at t = refl
      by None (Denotes.Bound scope name) at t = absurd t
      by (Some number) (Denotes.Global symbol) at t = absurd t
      by (Some number) (Denotes.Bound scope name) at t = ap (context_by contexts) t.at ∙ ap or_global (numbers.each t.binding.scope scope name i t.in_scope at)

-- ---- rising

-- the places of a list rise, from this one on
abbrev pub Rises : {A : Type 0} → (A → ℕ) → ℕ → List A → Type 0
Rises place from [] = Unit {0}
Rises place from (x ∷ xs) = (from ≤ place x) × Rises place (suc (place x)) xs

pub rises-from : {A : Type 0} (place : A → ℕ) (m n : ℕ) (xs : List A) → m ≤ n → Rises place n xs → Rises place m xs
rises-from place m n [] less rises = tt
rises-from place m n (x ∷ xs) less rises = let first = rises.0 in (omega (arith, less, first), rises.1)

pub rises-filter : {A : Type 0} (place : A → ℕ) (test : A → Bool) (from : ℕ) (xs : List A) → Rises place from xs → Rises place from (filter test xs)
rises-filter place test from [] rises = tt
rises-filter {A = A} place test from (x ∷ xs) rises = by (test x) (rises-filter place test (suc (place x)) xs rises.1)
  where
    by : (b : Bool) → Rises place (suc (place x)) (filter test xs) → Rises place from (cond b (x ∷ filter test xs) (filter test xs))
    by true rest = (rises.0, rest)
    by false rest = let first = rises.0 in rises-from place from (suc (place x)) (filter test xs) (omega (arith, first)) rest

rises-above : {A : Type 0} (place : A → ℕ) (from : ℕ) (xs : List A) (k : ℕ) (x : A) → Rises place from xs → slice_get xs k ≡ Some x → from ≤ place x
rises-above place from [] k x rises e = absurd (none-some x e)
rises-above place from (y ∷ xs) zero x rises e = subst (λ z. from ≤ place z) (same_Some y x e) rises.0
rises-above place from (y ∷ xs) (suc k) x rises e = let first = rises.0 in let rest = rises-above place (suc (place y)) xs k x rises.1 e in omega (arith, first, rest)

-- what stands later has a place that is greater
pub rises-order : {A : Type 0} (place : A → ℕ) (from : ℕ) (xs : List A) (k l : ℕ) (x y : A) → Rises place from xs → k < l → slice_get xs k ≡ Some x → slice_get xs l ≡ Some y → place x < place y
rises-order place from [] k l x y rises less ex ey = absurd (none-some x ex)
rises-order place from (z ∷ xs) zero zero x y rises less ex ey = absurd (omega (arith, less))
rises-order place from (z ∷ xs) zero (suc l) x y rises less ex ey = let rest = rises-above place (suc (place z)) xs l y rises.1 ey in subst (λ w. place w < place y) (same_Some z x ex) (omega (arith, rest))
rises-order place from (z ∷ xs) (suc k) zero x y rises less ex ey = absurd (omega (arith, less))
rises-order place from (z ∷ xs) (suc k) (suc l) x y rises less ex ey = rises-order place (suc (place z)) xs k l x y rises.1 (omega (arith, less)) ex ey

-- the place of an occurrence
abbrev pub place_of : Occurrence → ℕ
place_of o = o.place

pub occurrences-rise : (spot : Spot) (items : List Item) → Rises place_of spot.place (occurrences_from spot items)
occurrences-rise spot [] = tt
occurrences-rise spot (x ∷ items) = by (λ item. occurrences-rise (past spot item) items) x
  where
    Rest : Type 0
    Rest = (item : Item) → Rises place_of (spot.place + 1) (occurrences_from (past spot item) items)

    later : Rest → (item : Item) → Rises place_of (suc spot.place) (occurrences_from (past spot item) items)
    later rest item = rises-from place_of (suc spot.place) (spot.place + 1) (occurrences_from (past spot item) items) (omega arith) (rest item)

    over : Rest → (item : Item) → Rises place_of spot.place (occurrences_from (past spot item) items)
    over rest item = rises-from place_of spot.place (spot.place + 1) (occurrences_from (past spot item) items) (omega arith) (rest item)

    by : Rest → (item : Item) → Rises place_of spot.place (occurrences_from spot (item ∷ items))
    by rest (in_item.Open field head) = over rest (in_item.Open field head)
    by rest (in_item.Ident field symbol ctxt r.Binding) = (omega arith, later rest (in_item.Ident field symbol ctxt r.Binding))
    by rest (in_item.Ident field symbol ctxt r.Reference) = (omega arith, later rest (in_item.Ident field symbol ctxt r.Reference))
    by rest (in_item.Ident field symbol ctxt r.Word) = over rest (in_item.Ident field symbol ctxt r.Word)
    by rest (in_item.Hole field) = over rest (in_item.Hole field)
    by rest in_item.Close = over rest in_item.Close

-- the place of the name of a literal call
abbrev pub name_place : RequireCall → ℕ
name_place call = suc call.place

calls-rise : (free : ℕ → Bool) (place : ℕ) (items : List Item) → Rises name_place (suc place) (require_calls_from free place items)
calls-rise free place [] = tt
calls-rise free place (x ∷ rest) = by (require_calls_from free (suc place) rest) (calls-rise free (suc place) rest) (required_at (x ∷ rest))
  where
    if-free : (more : List RequireCall) → Rises name_place (suc (suc place)) more → (text : Text) (b : Bool) → Rises name_place (suc place) ((if b then record { place = place; specifier = text } ∷ [] else []) ++ more)
    if-free more rests text true = (omega arith, rests)
    if-free more rests text false = rises-from name_place (suc place) (suc (suc place)) more (omega arith) rests

    by : (more : List RequireCall) → Rises name_place (suc (suc place)) more → (text : Option Text) → Rises name_place (suc place) (call_at free place text ++ more)
    by more rests None = rises-from name_place (suc place) (suc (suc place)) more (omega arith) rests
    by more rests (Some text) = if-free more rests text (free (suc place))

-- the linked calls of a module rise
pub linked-rise : (p : Program) (m : ℕ) → Rises name_place 0 (calls_of p m)
linked-rise p m = by p.settings.require
  where
    test : RequireCall → Bool
    test call = not (has_text call.specifier p.settings.external)

    by : (b : Bool) → Rises name_place 0 (if b then filter test (require_calls (is_free (tree_of p m)) (tree_of p m)) else [])
    by true = rises-filter name_place test 0 (require_calls (is_free (tree_of p m)) (tree_of p m)) (rises-from name_place 0 1 (require_calls (is_free (tree_of p m)) (tree_of p m)) (omega arith) (calls-rise (is_free (tree_of p m)) 0 (tree_of p m)))
    by false = tt

-- an occurrence stands where a name is free
free-stands : (tree : List Item) (place : ℕ) → is_free tree place ≡ true → (o : Occurrence) × (occurrence_at tree place ≡ Some o)
free-stands tree place free = by (occurrence_at tree place) refl free
  where
    by : (found : Option Occurrence) → occurrence_at tree place ≡ found → is_global (option_map (denoted_of BySymbol Es (declared BySymbol Es tree)) found) ≡ true → (o : Occurrence) × (occurrence_at tree place ≡ Some o)
    by None e is = absurd (false≢true is)
    by (Some o) e is = (o, e)

-- the name of a linked call stands in the module
pub linked-stands : (p : Program) (m : ℕ) (call : RequireCall) → Contains (calls_of p m) call → (o : Occurrence) × (occurrence_at (tree_of p m) (suc call.place) ≡ Some o)
linked-stands p m call there = by p.settings.require there
  where
    test : RequireCall → Bool
    test it = not (has_text it.specifier p.settings.external)

    by : (b : Bool) → Contains (if b then filter test (require_calls (is_free (tree_of p m)) (tree_of p m)) else []) call → (o : Occurrence) × (occurrence_at (tree_of p m) (suc call.place) ≡ Some o)
    by true is = free-stands (tree_of p m) (suc call.place) (call-free (is_free (tree_of p m)) 0 (tree_of p m) call (filter-back test (require_calls (is_free (tree_of p m)) (tree_of p m)) call is).0)
    by false is = none-there call is
