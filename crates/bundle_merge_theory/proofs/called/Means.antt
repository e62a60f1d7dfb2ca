-- Statements mean the same in the function.
-- What a name denotes in the function, also where it is an `arguments` that nothing binds.
use Rattle.std.proofs.Common.{◌≡◌, ℕ, suc, ◌+◌, ◌<◌, ◌≤◌, Bool, true, false, not, ◌&&◌, cond, List, [], ◌∷◌, ◌++◌, Option, Some, None, option_map, option_and_then, map, length, filter, find, bytes_eq, refl, ap, ap₂, sym, ◌∙◌, subst, arith, codes, ◌||◌}
use Rattle.std.specs.Prelude.{slice_get, if◌then◌else◌, nat_le, nat_lt, Contains, filter_map, position}
use Rattle.std.specs.List.{cons_option, position_or_len}
use Rattle.std.specs.Bool.{Decides}
use Rattle.std.proofs.lemmas.Bool.{le-leb, leb-true, lt-leb, and_parts}
use Rattle.std.proofs.lemmas.Bool.Decides.{same_from_decides, Decides-ltb}
use Rattle.std.proofs.lemmas.Option.{none-some, same_Some, slice_get_within}
use Rattle.std.proofs.lemmas.List.{length-map}
use Rattle.std.proofs.lemmas.Slice.Eq.{bytes_eq-Decides}
use Rattle.bundle_syntax.specs.Item as h
use Rattle.bundle_syntax.specs.Item.{Item, Head}
use Rattle.bundle_syntax.specs.declared.piece.Role.TheVariants as r
use Rattle.bundle_rules.specs.Places.{Around, Spot, spot_before, Occurrence, occurrence_of, occurrence_at, path_at}
use Rattle.bundle_rules.specs.Scopes.{Es, Scope, Wrapper, Top, Inner, scopes_around, Parameters, FunctionBody, FunctionName}
use Rattle.bundle_rules.specs.Declarations.{Reading, BySymbol, ByContext, Name as Known_as, name_of, Declared, declared, declaration_of}
use Rattle.bundle_rules.specs.Homes.{binds, declares, is_arguments, is_function, has_implicit_arguments}
use Rattle.bundle_rules.specs.Denotes.{Denoted, Bound, Global, bound_in, without_context, is_unresolved, is_written_in, is_implied_in, written_or_implied, denoted_in, own_or_found, denoted_of, denoted_by_symbol, implied, denoted_by_context, denoted_at}
use Rattle.bundle_rules.specs.Nodes.{Text}
use Rattle.bundle_rules.specs.Statements.{Element, taken, written}
use Rattle.bundle_rules.specs.Mentions.{same_context, same_denoted, each_denoted_once}
use Rattle.bundle_rules.specs.Meaning as m
use Rattle.bundle_rules.specs.Meaning.{Label, Meant, Mark, View, denoted, is_inside, inner_bindings, Sense, NameMeans, Means, StatementMeans, Labelling, bundle_sense}
use Rattle.bundle_rules.specs.Marks.{Begins, Ends, Name, computed_key, word_key, object_key, begin_marks, end_marks, name_marks}
use Rattle.bundle_rules.specs.Shorthands.{is_object}
use Rattle.bundle_rules.specs.Callable.{Every, none, more, AreStatements, module_with}
use Rattle.bundle_scope_names.proofs.TreeLemmas.{cons_option-map}
use Rattle.bundle_link_tables.proofs.MarkLemmas.{and_false as and_no}
use Rattle.bundle_link_index.proofs.ProgramLemmas.{map_on as contains-map, filter_on as contains-filter}
use Rattle.bundle_merge_theory.specs.called.Moved.{called_denoted, AreFair, top, inner, IsFair, IsSeated, called_scope, moved_scopes, called_declared, CorrespondInBody, followed, astray}
use Rattle.bundle_merge_theory.specs.called.Called.{call_with, AreTwins}
use Rattle.bundle_merge_theory.proofs.called.Homes.{same-moved, home-fair, home-moved, find-there, IsOuter, at_parameters, at_name, at_top, declares-outer, written-moved, written-outer, binds-moved, implied-moved}
use Rattle.bundle_merge_theory.proofs.called.Paths.{scopes-fair, scopes-moved, declaration-moved}
use Rattle.bundle_merge_theory.proofs.called.Lists.{AreAlike, neither, both, declared-there, module-spot, module-item, occurrences-alike, seats-twins, denoted-twins, start-moved, shows, declared-twins}
use Rattle.bundle_merge_theory.proofs.called.MarksMoved.{begin_marks-moved, end_marks-moved, name_marks-moved, Stands, stands, own-shorthand}

-- ---- means

-- Bindings have scopes of the module.

-- what is denoted is a binding of such a scope, or a global
abbrev pub IsFairly : Denoted → Type 0
IsFairly (Bound scope name) = IsFair scope
IsFairly (Global x) = Unit {0}

find-fair : (q : Scope → Bool) {scopes : List Scope} → AreFair scopes → (s : Scope) →
    find q scopes ≡ Some s → IsFair s
find-fair q top s e = by (q Top) e
  where
    by : (t : Bool) → ◌≡◌ {A = Option Scope} (cond t (Some Top) None) (Some s) → IsFair s
    by true is = subst IsFair (same_Some Top s is) tt
    by false is = absurd (none-some s is)
find-fair q (inner {kind} {begins} {outer} positive fair) s e =
    by (q (Inner kind begins)) e (λ further. find-fair q fair s further)
  where
    by : (t : Bool) → cond t (Some (Inner kind begins)) (find q outer) ≡ Some s →
        (find q outer ≡ Some s → IsFair s) → IsFair s
    by true is rest = subst IsFair (same_Some (Inner kind begins) s is) positive
    by false is rest = rest is

bound_in-fair : (name : Known_as) (o : Option Scope) → ((s : Scope) → o ≡ Some s → IsFair s) →
    IsFairly (bound_in name o)
bound_in-fair name None fair = tt
bound_in-fair name (Some s) fair = fair s refl

denoted_in-fair : (reading : Reading) (all : List Declared) {scopes : List Scope} → AreFair scopes →
    (name : Known_as) → IsFairly (denoted_in reading all scopes name)
denoted_in-fair BySymbol all {scopes} fair name =
    bound_in-fair name (find (λ scope. binds all scope name) scopes)
    (λ s e. find-fair (λ scope. binds all scope name) fair s e)
denoted_in-fair ByContext all {scopes} fair name =
    by (find (λ scope. is_written_in all scope name) scopes)
    (λ s e. find-fair (λ scope. is_written_in all scope name) fair s e)
  where
    unresolved : (t : Bool) →
        IsFairly
        (cond t (Global name.sym) (bound_in (without_context name) (find (λ scope. is_implied_in all scope name) scopes)))
    unresolved true = tt
    unresolved false =
        bound_in-fair (without_context name) (find (λ scope. is_implied_in all scope name) scopes)
        (λ s e. find-fair (λ scope. is_implied_in all scope name) fair s e)

    by : (o : Option Scope) → ((s : Scope) → o ≡ Some s → IsFair s) →
        IsFairly (written_or_implied all scopes name o)
    by None fairly = unresolved (is_unresolved name.ctxt)
    by (Some s) fairly = fairly s refl

pub denoted-fairly : {is_async : Bool} (reading : Reading) (all : List Declared)
    {o its : Option Occurrence} →
    AreAlike is_async o its →
    ((d : Declared) → option_and_then (declaration_of reading Es) o ≡ Some d → IsSeated d) →
    (d : Denoted) → option_map (denoted_of reading Es all) o ≡ Some d → IsFairly d
denoted-fairly reading all neither seated d e = absurd (none-some d e)
denoted-fairly reading all (both {old} place its x ctxt role at moved) seated d e =
    subst IsFairly (same_Some _ d e)
    (by (declaration_of reading Es (record { place = place; sym = x; ctxt = ctxt; role = role; path = old })) seated)
  where
    by : (o : Option Declared) → ((d : Declared) → o ≡ Some d → IsSeated d) →
        IsFairly
        (own_or_found all (denoted_in reading all (scopes_around Es old) (name_of reading x ctxt)) o)
    by None seats = denoted_in-fair reading all (scopes-fair moved) (name_of reading x ctxt)
    by (Some d) seats = home-fair all d (seats d refl)

-- Elements in their places.

-- an element that stands at its place among the statements
pub data IsPlaced (stmts : List Item) : Element → Type 0 where
  placed_at : (k : ℕ) (x : Item) → slice_get stmts k ≡ Some x → IsPlaced stmts (taken (suc k) x)

abbrev pub moved_element : Element → Element
moved_element (taken place x) = taken (place + 6) x
moved_element (written x) = written x

-- whether a binding has a scope of the module
abbrev pub is_fair : Denoted → Bool
is_fair (Bound Wrapper name) = false
is_fair (Bound Top name) = true
is_fair (Bound (Inner kind begins) name) = nat_lt 0 begins
is_fair (Global x) = false

abbrev pub moved_label : Denoted × Label → Denoted × Label
moved_label pair = (called_denoted pair.0, pair.1)

-- the labels in the function, of the bindings that have scopes of the module
abbrev pub moved_labels : Labelling → Labelling
moved_labels labels = map moved_label (filter (λ (pair : Denoted × Label). is_fair pair.0) labels)

-- how the statements are seen in the module and in the function
abbrev pub old_view : Reading → List Item → List Item → View
old_view reading stmts after = record { tree = module_with stmts after; kind = Es; reading = reading }

abbrev pub new_view : Reading → Bool → List Item → List Item → View
new_view reading is_async stmts its = record { tree = call_with is_async stmts its; kind = Es; reading = reading }

-- an element's name is no free `arguments`
abbrev pub IsPlain : View → Element → Type 0
IsPlain view e = denoted view e ≡ Some (Global (codes "arguments")) → ⊥

pub occurrence-seated : {reading : Reading} {is_async : Bool} {stmts after its : List Item} →
    AreTwins reading is_async stmts after its → (k : ℕ) → k < length stmts → (d : Declared) →
    option_and_then (declaration_of reading Es) (occurrence_at (module_with stmts after) (suc k)) ≡
    Some d →
    IsSeated d
occurrence-seated {reading} {is_async} {stmts} {after} {its} twins k l d e =
    declared-there reading twins.statements (start-moved is_async) after (seats-twins twins) k d
    (sym (ap₂ (λ (spot : Spot) (x : Option Item). option_and_then (declaration_of reading Es) (option_and_then (occurrence_of spot) x)) (module-spot stmts after k (omega arith)) (module-item stmts after k l)) ∙ e)

pub element-fair : {reading : Reading} {is_async : Bool} {stmts after its : List Item} →
    AreTwins reading is_async stmts after its → (e : Element) → IsPlaced stmts e → (d : Denoted) →
    denoted (old_view reading stmts after) e ≡ Some d → IsFairly d
element-fair {reading} {is_async} {stmts} {after} {its} twins e (placed_at k x there) d is =
    let l : k < length stmts = slice_get_within stmts k x there in
    let s : Stands is_async stmts after its k = stands is_async twins.statements after its k l in
    denoted-fairly reading (declared reading Es (module_with stmts after)) (occurrences-alike s.shows) (occurrence-seated twins k l) d is

element-moved : {reading : Reading} {is_async : Bool} {stmts after its : List Item} →
    AreTwins reading is_async stmts after its → (e : Element) → IsPlaced stmts e →
    IsPlain (old_view reading stmts after) e →
    denoted (new_view reading is_async stmts its) (moved_element e) ≡
    option_map called_denoted (denoted (old_view reading stmts after) e)
element-moved {stmts} twins e (placed_at k x there) plain =
    denoted-twins twins k (slice_get_within stmts k x there) plain

-- Bindings inside a statement.

pub same_denoted-moved : (d other : Denoted) → IsFairly d → IsFairly other →
    same_denoted (called_denoted d) (called_denoted other) ≡ same_denoted d other
same_denoted-moved (Bound s name) (Bound t its) fair fairly =
    ap (λ b. b && bytes_eq name.sym its.sym && same_context name.ctxt its.ctxt)
    (same-moved s t fair fairly)
same_denoted-moved (Bound s name) (Global x) fair fairly = refl
same_denoted-moved (Global x) (Bound t its) fair fairly = refl
same_denoted-moved (Global x) (Global y) fair fairly = refl

pub filter-map : {A B : Type 0} (p : B → Bool) (q : A → Bool) (f : A → B) (P : A → Type 0) →
    ((x : A) → P x → p (f x) ≡ q x) → {xs : List A} → Every P xs →
    filter p (map f xs) ≡ map f (filter q xs)
filter-map p q f P same none = refl
filter-map {A} {B} p q f P same (more {x} {xs} here later) =
    ap₂ (λ (t : Bool) (l : List B). cond t (f x ∷ l) l) (same x here) (filter-map p q f P same later)
    ∙ by (q x)
  where
    by : (t : Bool) →
        cond t (f x ∷ map f (filter q xs)) (map f (filter q xs)) ≡
        map f (cond t (x ∷ filter q xs) (filter q xs))
    by true = refl
    by false = refl

pub every-filter : {A : Type 0} {P : A → Type 0} (q : A → Bool) {xs : List A} → Every P xs →
    Every P (filter q xs)
every-filter q none = none
every-filter {P = P} q (more {x} {xs} here later) = by (q x) (every-filter q later)
  where
    by : (t : Bool) → Every P (filter q xs) → Every P (cond t (x ∷ filter q xs) (filter q xs))
    by true rest = more here rest
    by false rest = rest

pub every-once : {P : Denoted → Type 0} {ds : List Denoted} → Every P ds →
    Every P (each_denoted_once ds)
every-once none = none
every-once (more {x} here later) =
    more here (every-filter (λ other. not (same_denoted x other)) (every-once later))

pub once-moved : {ds : List Denoted} → Every IsFairly ds →
    each_denoted_once (map called_denoted ds) ≡ map called_denoted (each_denoted_once ds)
once-moved none = refl
once-moved (more {x} {xs} here later) = ap (λ l. called_denoted x ∷ l) (
    ap (filter (λ other. not (same_denoted (called_denoted x) other))) (once-moved later)
    ∙ filter-map (λ other. not (same_denoted (called_denoted x) other)) (λ other. not (same_denoted x other)) called_denoted IsFairly (λ other fair. ap not (same_denoted-moved x other here fair)) (every-once later))

at_or_len-map : {A B : Type 0} (p : B → Bool) (q : A → Bool) (f : A → B) (P : A → Type 0) →
    ((x : A) → P x → p (f x) ≡ q x) → {xs : List A} → Every P xs →
    position_or_len p (map f xs) ≡ position_or_len q xs
at_or_len-map p q f P same none = refl
at_or_len-map p q f P same (more {x} {xs} here later) =
    ap₂ (λ (t : Bool) (n : ℕ). cond (not t) (1 + n) 0) (same x here)
    (at_or_len-map p q f P same later)

pub position-map : {A B : Type 0} (p : B → Bool) (q : A → Bool) (f : A → B) (P : A → Type 0) →
    ((x : A) → P x → p (f x) ≡ q x) → {xs : List A} → Every P xs →
    position p (map f xs) ≡ position q xs
position-map p q f P same {xs} each =
    ap₂ (λ (n : ℕ) (k : ℕ). cond (nat_lt n k) (Some n) None) (at_or_len-map p q f P same each)
    (length-map xs f)

-- what is denoted by an element that is moved
abbrev pub IsFollowed : (f g : Element → Option Denoted) → Element → Type 0
IsFollowed f g e = g (moved_element e) ≡ option_map called_denoted (f e)

filter_map-moved : (f g : Element → Option Denoted) {es : List Element} →
    Every (IsFollowed f g) es →
    filter_map g (map moved_element es) ≡ map called_denoted (filter_map f es)
filter_map-moved f g none = refl
filter_map-moved f g (more {x} {xs} here later) =
    ap₂ (λ (o : Option Denoted) (l : List Denoted). cons_option o l) here (filter_map-moved f g later)
    ∙ cons_option-map called_denoted (f x) (filter_map f xs)

every-filter_map : {A : Type 0} {P : Denoted → Type 0} (f : A → Option Denoted) {es : List A} →
    Every (λ e. (d : Denoted) → f e ≡ Some d → P d) es → Every P (filter_map f es)
every-filter_map f none = none
every-filter_map {P = P} f (more {x} {xs} here later) = by (f x) here (every-filter_map f later)
  where
    by : (o : Option Denoted) → ((d : Denoted) → o ≡ Some d → P d) → Every P (filter_map f xs) →
        Every P (cons_option o (filter_map f xs))
    by None here rest = rest
    by (Some d) here rest = more (here d refl) rest

inside-moved : (start : ℕ) → 0 < start → (d : Denoted) → IsFairly d →
    is_inside (start + 6) (called_denoted d) ≡ is_inside start d
inside-moved start positive (Bound Wrapper name) fair = refl
inside-moved start positive (Bound Top name) fair = lt-leb (start + 6) 6 (omega arith)
inside-moved start positive (Bound (Inner kind begins) name) fair =
    same_from_decides (nat_le (start + 6) (begins + 6)) (nat_le start begins)
    (λ e. back (leb-true (start + 6) (begins + 6) e), λ l. le-leb (start + 6) (begins + 6) (on l))
    (λ e. leb-true start begins e, λ l. le-leb start begins l)
  where
    on : start ≤ begins → start + 6 ≤ begins + 6
    on l = omega arith

    back : start + 6 ≤ begins + 6 → start ≤ begins
    back l = omega arith
inside-moved start positive (Global x) fair = refl

pub every-both : {A : Type 0} {P Q R : A → Type 0} → ((x : A) → P x → Q x → R x) → {xs : List A} →
    Every P xs → Every Q xs → Every R xs
every-both join none others = none
every-both join (more {x} here later) (more its others) =
    more (join x here its) (every-both join later others)

pub every-map : {A : Type 0} {P Q : A → Type 0} → ((x : A) → P x → Q x) → {xs : List A} →
    Every P xs → Every Q xs
every-map on none = none
every-map on (more {x} here later) = more (on x here) (every-map on later)

each-fairly : {reading : Reading} {is_async : Bool} {stmts after its : List Item} →
    AreTwins reading is_async stmts after its → {es : List Element} → Every (IsPlaced stmts) es →
    Every IsFairly (filter_map (denoted (old_view reading stmts after)) es)
each-fairly {reading} {is_async} {stmts} {after} twins placed =
    every-filter_map (denoted (old_view reading stmts after))
    (every-map (λ e p. element-fair twins e p) placed)

-- the bindings inside
pub inner-moved : {reading : Reading} {is_async : Bool} {stmts after its : List Item} →
    AreTwins reading is_async stmts after its → (start : ℕ) → 0 < start → {es : List Element} →
    Every (IsPlaced stmts) es → Every (IsPlain (old_view reading stmts after)) es →
    inner_bindings (new_view reading is_async stmts its) (start + 6) (map moved_element es) ≡
    map called_denoted (inner_bindings (old_view reading stmts after) start es)
inner-moved {reading} {is_async} {stmts} {after} {its} twins start positive {es} placed plain =
    let fair = each-fairly twins placed in
    ap (λ l. each_denoted_once (filter (is_inside (start + 6)) l)) (filter_map-moved (denoted (old_view reading stmts after)) (denoted (new_view reading is_async stmts its)) (every-both (λ e p q. element-moved twins e p q) placed plain))
    ∙ ap each_denoted_once (filter-map (is_inside (start + 6)) (is_inside start) called_denoted IsFairly (inside-moved start positive) fair)
    ∙ once-moved (every-filter (is_inside start) fair)

pub inner-fairly : {reading : Reading} {is_async : Bool} {stmts after its : List Item} →
    AreTwins reading is_async stmts after its → (start : ℕ) → {es : List Element} →
    Every (IsPlaced stmts) es →
    Every IsFairly (inner_bindings (old_view reading stmts after) start es)
inner-fairly twins start placed =
    every-once (every-filter (is_inside start) (each-fairly twins placed))

-- no global is among them
abbrev pub IsNoGlobal : Denoted → Type 0
IsNoGlobal (Bound scope name) = Unit {0}
IsNoGlobal (Global x) = ⊥

inside-binding : (start : ℕ) (ds : List Denoted) → Every IsNoGlobal (filter (is_inside start) ds)
inside-binding start [] = none
inside-binding start (Global x ∷ ds) = inside-binding start ds
inside-binding start (Bound scope name ∷ ds) =
    by (is_inside start (Bound scope name)) (inside-binding start ds)
  where
    by : (t : Bool) → Every IsNoGlobal (filter (is_inside start) ds) →
        Every IsNoGlobal
        (cond t (Bound scope name ∷ filter (is_inside start) ds) (filter (is_inside start) ds))
    by true rest = more tt rest
    by false rest = rest

pub inner-bound : (view : View) (start : ℕ) (es : List Element) →
    Every IsNoGlobal (inner_bindings view start es)
inner-bound view start es = every-once (inside-binding start (filter_map (denoted view) es))

-- Meanings.

-- what is meant is no free `arguments`
abbrev pub IsPlainMeant : Meant → Type 0
IsPlainMeant (m.Unbound x) = x ≡ codes "arguments" → ⊥
IsPlainMeant _ = Unit {0}

-- a mark is no free `arguments`
abbrev pub IsPlainMark : Mark → Type 0
IsPlainMark (Name field meant) = IsPlainMeant meant
IsPlainMark _ = Unit {0}

pub every-rest : {A : Type 0} {P : A → Type 0} (xs ys : List A) → Every P (xs ++ ys) → Every P ys
every-rest [] ys each = each
every-rest (x ∷ xs) ys (more here later) = every-rest xs ys later

name_mark-plain : (field : ℕ) (path : List Around) (x : Text) (meant : Meant) (rest : List Mark) →
    Every IsPlainMark (name_marks field path x meant ++ rest) → IsPlainMeant meant
name_mark-plain field [] x meant rest (more here later) = here
name_mark-plain field (node ∷ outer) x meant rest each = by (is_object node.head) each
  where
    keyed : (t : Bool) →
        Every IsPlainMark
        (((if t then computed_key x else word_key x) ++ Name 1 meant ∷ Ends ∷ []) ++ rest) →
        IsPlainMeant meant
    keyed true (more _ (more _ (more _ (more _ (more here later))))) = here
    keyed false (more _ (more _ (more here later))) = here

    by : (t : Bool) →
        Every IsPlainMark
        ((if t then Begins field h.KeyValueProp ∷ (object_key x ++ Name 1 meant ∷ Ends ∷ []) else Name field meant ∷ []) ++ rest)
        →
        IsPlainMeant meant
    by true (more _ later) = keyed (bytes_eq x (codes "__proto__")) later
    by false (more here later) = here

none-passes : {A : Type 0} (p : A → Bool) {xs : List A} → Every (λ x. p x ≡ false) xs →
    position_or_len p xs ≡ length xs
none-passes p none = refl
none-passes p (more {x} {xs} here later) = let n : 1 + position_or_len p xs ≡ suc (length xs) = omega (arith, none-passes p later) in ap (λ t. cond (not t) (1 + position_or_len p xs) 0) here ∙ n

not-less : (n : ℕ) → nat_lt n n ≡ false
not-less n = by (nat_lt n n) (Decides-ltb n n)
  where
    by : (t : Bool) → Decides t (n < n) → t ≡ false
    by true is = let l : n < n = is.0 refl in absurd (omega arith)
    by false is = refl

pub position-none : {A : Type 0} (p : A → Bool) {xs : List A} → Every (λ x. p x ≡ false) xs →
    position p xs ≡ None
position-none p {xs} each =
    ap (λ n. cond (nat_lt n (length xs)) (Some n) None) (none-passes p each)
    ∙ ap (λ t. cond t (Some (length xs)) None) (not-less (length xs))

not-inside : (x : Text) {inner : List Denoted} → Every IsNoGlobal inner → (n : ℕ) →
    position (same_denoted (Global x)) inner ≡ Some n → ⊥
not-inside x each n e =
    none-some n (sym (position-none (same_denoted (Global x)) (every-map differs each)) ∙ e)
  where
    differs : (d : Denoted) → IsNoGlobal d → same_denoted (Global x) d ≡ false
    differs (Bound scope name) is = refl
    differs (Global y) is = absurd is

-- what is no name denotes nothing
no-name : (reading : Reading) {stmts : List Item} (after : List Item) (e : Element) →
    IsPlaced stmts e → ((spot : Spot) → occurrence_of spot (m.item_of e) ≡ None) →
    denoted (old_view reading stmts after) e ≡ None
no-name reading {stmts} after e (placed_at k x there) is =
    ap (λ o. option_map (denoted_of reading Es (declared reading Es (module_with stmts after))) (option_and_then (occurrence_of (spot_before (module_with stmts after) (suc k))) o)) (module-item stmts after k (slice_get_within stmts k x there) ∙ there)
    ∙ ap (option_map (denoted_of reading Es (declared reading Es (module_with stmts after)))) (is (spot_before (module_with stmts after) (suc k)))

plain-none : {o : Option Denoted} → o ≡ None → o ≡ Some (Global (codes "arguments")) → ⊥
plain-none e is = none-some _ (sym e ∙ is)

plain-name : {sense : Sense} {inner : List Denoted} → Every IsNoGlobal inner →
    {d : Denoted} {meant : Meant} → NameMeans sense inner d meant → IsPlainMeant meant →
    d ≡ Global (codes "arguments") → ⊥
plain-name {inner} each (m.inside {d} {n} e) apart is =
    not-inside (codes "arguments") each n
    (subst (λ d. position (same_denoted d) inner ≡ Some n) is e)
plain-name each (m.outside e stands) apart is = absurd cc
plain-name each (m.unbound {x}) apart is = apart cc

-- where the marks are plain the elements are
pub plain-elements : (reading : Reading) (stmts after : List Item) (labels : Labelling)
    {inner : List Denoted} →
    Every IsNoGlobal inner → {es : List Element} {marks : List Mark} →
    Means (bundle_sense (module_with stmts after) reading labels) inner es marks →
    Every (IsPlaced stmts) es → Every IsPlainMark marks →
    Every (IsPlain (old_view reading stmts after)) es
plain-elements reading stmts after labels each m.finished placed marks = none
plain-elements reading stmts after labels each (m.replaced by e rest) placed marks = absurd e
plain-elements reading stmts after labels each (m.begun {place} {field} {head} {marks = others} e rest) (more here placed) marks = more (plain-none (no-name reading after (taken place (h.Open field head)) here (λ spot. refl))) (plain-elements reading stmts after labels each rest placed (every-rest (begin_marks (module_with stmts after) place field (path_at (module_with stmts after) place) head) others marks))
plain-elements reading stmts after labels each (m.ended {place} {marks = others} rest) (more here placed) marks = more (plain-none (no-name reading after (taken place h.Close) here (λ spot. refl))) (plain-elements reading stmts after labels each rest placed (every-rest (end_marks (module_with stmts after) (path_at (module_with stmts after) place)) others marks))
plain-elements reading stmts after labels each (m.empty {place} {field} rest) (more here placed) (more _ marks) = more (plain-none (no-name reading after (taken place (h.Hole field)) here (λ spot. refl))) (plain-elements reading stmts after labels each rest placed marks)
plain-elements reading stmts after labels each (m.named {place} {field} {ctxt} {sym = x} {marks = others} d meant e means rest) (more here placed) marks =
    more (λ is. plain-name each means (name_mark-plain field (path_at (module_with stmts after) place) x meant others marks) (same_Some d _ (sym e ∙ is)))
    (plain-elements reading stmts after labels each rest placed (every-rest (name_marks field (path_at (module_with stmts after) place) x meant) others marks))
plain-elements reading stmts after labels each (m.word {place} {field} {ctxt} {sym = x} rest) (more here placed) (more _ marks) = more (plain-none (no-name reading after (taken place (h.Ident field x ctxt r.Word)) here (λ spot. refl))) (plain-elements reading stmts after labels each rest placed marks)
plain-elements reading stmts after labels each (m.adds_begin rest) (more here placed) marks =
    elim here [ ]
plain-elements reading stmts after labels each (m.adds_end rest) (more here placed) marks =
    elim here [ ]
plain-elements reading stmts after labels each (m.adds_name meant means rest) (more here placed) marks = elim here [ ]

fair-true : (scope : Scope) (name : Known_as) → IsFair scope → is_fair (Bound scope name) ≡ true
fair-true Wrapper name fair = absurd fair
fair-true Top name fair = refl
fair-true (Inner kind begins) name fair = (Decides-ltb 0 begins).1 fair

pub labels-moved : (labels : Labelling) (scope : Scope) (name : Known_as) (l : Label) →
    IsFair scope → Contains labels (Bound scope name, l) →
    Contains (moved_labels labels) (called_denoted (Bound scope name), l)
labels-moved labels scope name l fair there =
    contains-map moved_label (filter (λ (pair : Denoted × Label). is_fair pair.0) labels)
    (Bound scope name, l)
    (contains-filter (λ (pair : Denoted × Label). is_fair pair.0) labels (Bound scope name, l) there (fair-true scope name fair))

name-moved : (reading : Reading) (is_async : Bool) (stmts after its : List Item)
    (labels : Labelling) {inner : List Denoted} →
    Every IsFairly inner → {d : Denoted} {meant : Meant} → IsFairly d →
    NameMeans (bundle_sense (module_with stmts after) reading labels) inner d meant →
    NameMeans (bundle_sense (call_with is_async stmts its) reading (moved_labels labels))
    (map called_denoted inner) (called_denoted d) meant
name-moved reading is_async stmts after its labels each {d} fair (m.inside e) =
    m.inside
    (position-map (same_denoted (called_denoted d)) (same_denoted d) called_denoted IsFairly (λ other its. same_denoted-moved d other fair its) each ∙ e)
name-moved reading is_async stmts after its labels each fair (m.outside {scope} {name} {l} e stands) = m.outside (position-map (same_denoted (called_denoted (Bound scope name))) (same_denoted (Bound scope name)) called_denoted IsFairly (λ other its. same_denoted-moved (Bound scope name) other fair its) each ∙ e) (labels-moved labels scope name l fair stands)
name-moved reading is_async stmts after its labels each fair m.unbound = m.unbound

begin-same : {reading : Reading} {is_async : Bool} {stmts after its : List Item} →
    AreTwins reading is_async stmts after its → (place field : ℕ) (head : Head) →
    IsPlaced stmts (taken place (h.Open field head)) →
    begin_marks {N = Meant} (call_with is_async stmts its) (place + 6) field
    (path_at (call_with is_async stmts its) (place + 6)) head ≡
    begin_marks {N = Meant} (module_with stmts after) place field
    (path_at (module_with stmts after) place) head
begin-same {reading} {is_async} {stmts} {after} {its} twins _ field head (placed_at k _ there) =
    let st = stands is_async twins.statements after its k (slice_get_within stmts k (h.Open field head) there) in
    let is : st.shows.here.x ≡ h.Open field head = same_Some _ _ (sym st.shows.here.there ∙ there) in
    begin_marks-moved is_async stmts after its (suc k) field st.path st.roots head
    (own-shorthand is_async stmts after its k st.shows.here.depth field head st.shows.here.rest (st.shows.here.left ∙ ap (λ x. x ∷ st.shows.here.rest) is) (subst (λ x. AreStatements st.shows.here.depth (x ∷ st.shows.here.rest)) is st.shows.here.inside))

end-same : {reading : Reading} {is_async : Bool} {stmts after its : List Item} →
    AreTwins reading is_async stmts after its → (place : ℕ) (x : Item) →
    IsPlaced stmts (taken place x) →
    end_marks {N = Meant} (call_with is_async stmts its)
    (path_at (call_with is_async stmts its) (place + 6)) ≡
    end_marks {N = Meant} (module_with stmts after) (path_at (module_with stmts after) place)
end-same {reading} {is_async} {stmts} {after} {its} twins _ x (placed_at k _ there) =
    let st = stands is_async twins.statements after its k (slice_get_within stmts k x there) in
    end_marks-moved is_async stmts after its st.path st.roots

name-same : {reading : Reading} {is_async : Bool} {stmts after its : List Item} →
    AreTwins reading is_async stmts after its → (place : ℕ) (x : Item) →
    IsPlaced stmts (taken place x) → (field : ℕ) (sym : Text) (meant : Meant) →
    name_marks field (path_at (call_with is_async stmts its) (place + 6)) sym meant ≡
    name_marks field (path_at (module_with stmts after) place) sym meant
name-same {reading} {is_async} {stmts} {after} {its} twins _ x (placed_at k _ there) field sym meant =
    let st = stands is_async twins.statements after its k (slice_get_within stmts k x there) in
    name_marks-moved st.path field sym meant

-- elements mean the same in the function
pub means-moved : {reading : Reading} {is_async : Bool} {stmts after its : List Item} →
    AreTwins reading is_async stmts after its → (labels : Labelling) {inner : List Denoted} →
    Every IsFairly inner → {es : List Element} {marks : List Mark} →
    Means (bundle_sense (module_with stmts after) reading labels) inner es marks →
    Every (IsPlaced stmts) es → Every (IsPlain (old_view reading stmts after)) es →
    Means (bundle_sense (call_with is_async stmts its) reading (moved_labels labels))
    (map called_denoted inner) (map moved_element es) marks
means-moved twins labels each m.finished placed plain = m.finished
means-moved twins labels each (m.replaced by e rest) placed plain = absurd e
means-moved {reading} {is_async} {stmts} {after} {its} twins labels {inner} each (m.begun {place} {field} {head} {rest = others} {marks} e rest) (more here placed) (more _ plain) =
    subst (λ front. Means (bundle_sense (call_with is_async stmts its) reading (moved_labels labels)) (map called_denoted inner) (taken (place + 6) (h.Open field head) ∷ map moved_element others) (front ++ marks)) (begin-same twins place field head here) (m.begun (λ by none. none) (means-moved twins labels each rest placed plain))
means-moved {reading} {is_async} {stmts} {after} {its} twins labels {inner} each (m.ended {place} {rest = others} {marks} rest) (more here placed) (more _ plain) =
    subst (λ front. Means (bundle_sense (call_with is_async stmts its) reading (moved_labels labels)) (map called_denoted inner) (taken (place + 6) h.Close ∷ map moved_element others) (front ++ marks)) (end-same twins place h.Close here) (m.ended (means-moved twins labels each rest placed plain))
means-moved twins labels each (m.empty rest) (more here placed) (more _ plain) =
    m.empty (means-moved twins labels each rest placed plain)
means-moved {reading} {is_async} {stmts} {after} {its} twins labels {inner} each (m.named {place} {field} {ctxt} {sym = x} {role} {rest = others} {marks} d meant e means rest) (more here placed) (more is plain) =
    subst (λ front. Means (bundle_sense (call_with is_async stmts its) reading (moved_labels labels)) (map called_denoted inner) (taken (place + 6) (h.Ident field x ctxt role) ∷ map moved_element others) (front ++ marks)) (name-same twins place (h.Ident field x ctxt role) here field x meant)
    (m.named (called_denoted d) meant (element-moved twins (taken place (h.Ident field x ctxt role)) here is ∙ ap (option_map called_denoted) e) (name-moved reading is_async stmts after its labels each (element-fair twins (taken place (h.Ident field x ctxt role)) here d e) means) (means-moved twins labels each rest placed plain))
means-moved twins labels each (m.word rest) (more here placed) (more _ plain) =
    m.word (means-moved twins labels each rest placed plain)
means-moved twins labels each (m.adds_begin rest) (more here placed) plain = elim here [ ]
means-moved twins labels each (m.adds_end rest) (more here placed) plain = elim here [ ]
means-moved twins labels each (m.adds_name meant means rest) (more here placed) plain =
    elim here [ ]

-- where no free `arguments` is meant
pub statement-moved : {reading : Reading} {is_async : Bool} {stmts after its : List Item} →
    AreTwins reading is_async stmts after its → (labels : Labelling) (start : ℕ) → 0 < start →
    {es : List Element} {marks : List Mark} →
    StatementMeans (bundle_sense (module_with stmts after) reading labels) start es marks →
    Every (IsPlaced stmts) es → Every IsPlainMark marks →
    StatementMeans (bundle_sense (call_with is_async stmts its) reading (moved_labels labels))
    (start + 6) (map moved_element es) marks
statement-moved {reading} {is_async} {stmts} {after} {its} twins labels start positive {es} {marks} means placed plain =
    let plainly = plain-elements reading stmts after labels (inner-bound (old_view reading stmts after) start es) means placed plain in
    subst (λ inner. Means (bundle_sense (call_with is_async stmts its) reading (moved_labels labels)) inner (map moved_element es) marks) (sym (inner-moved twins start positive placed plainly)) (means-moved twins labels (inner-fairly twins start placed) means placed plainly)

-- ---- astray
find-beside : (p q : Scope → Bool) → ((s : Scope) → IsFair s → p (called_scope s) ≡ q s) →
    p (Inner FunctionName 4) ≡ false → p Top ≡ false → {scopes : List Scope} → AreFair scopes →
    find q scopes ≡ None →
    find p (moved_scopes scopes) ≡ cond (p (Inner Parameters 5)) (Some (Inner Parameters 5)) None
find-beside p q same named topped top e =
    ap₂ (λ (t : Bool) (u : Bool). cond t (Some (Inner FunctionBody 6)) (cond (p (Inner Parameters 5)) (Some (Inner Parameters 5)) (cond u (Some (Inner FunctionName 4)) (cond (p Top) (Some Top) None)))) (same Top tt) named
    ∙ ap (λ (u : Bool). cond (q Top) (Some (Inner FunctionBody 6)) (cond (p (Inner Parameters 5)) (Some (Inner Parameters 5)) (cond u (Some Top) None))) topped
    ∙ by (q Top) e
  where
    by : (t : Bool) → ◌≡◌ {A = Option Scope} (cond t (Some Top) None) None →
        ◌≡◌ {A = Option Scope}
        (cond t (Some (Inner FunctionBody 6)) (cond (p (Inner Parameters 5)) (Some (Inner Parameters 5)) None))
        (cond (p (Inner Parameters 5)) (Some (Inner Parameters 5)) None)
    by true is = absurd (none-some Top (sym is))
    by false is = refl
find-beside p q same named topped (inner {kind} {begins} {outer} positive fair) e =
    ap (λ (t : Bool). cond t (Some (Inner kind (begins + 6))) (find p (moved_scopes outer)))
    (same (Inner kind begins) positive)
    ∙ by (q (Inner kind begins)) e (λ further. find-beside p q same named topped fair further)
  where
    by : (t : Bool) → cond t (Some (Inner kind begins)) (find q outer) ≡ None →
        (find q outer ≡ None → find p (moved_scopes outer) ≡ cond (p (Inner Parameters 5)) (Some (Inner Parameters 5)) None)
        →
        cond t (Some (Inner kind (begins + 6))) (find p (moved_scopes outer)) ≡
        cond (p (Inner Parameters 5)) (Some (Inner Parameters 5)) None
    by true is rest = absurd (none-some (Inner kind begins) (sym is))
    by false is rest = rest is

-- the scopes around the body bind nothing but `arguments` in the parameters
binds-side : {all : List Declared} → Every IsSeated all → (s : Scope) → IsOuter s →
    is_function s ≡ false → (name : Known_as) → binds (map called_declared all) s name ≡ false
binds-side {all} seats s outer not_function name =
    ap₂ (λ (a : Bool) (b : Bool). a || (is_arguments name.sym && (b && not (declares (map called_declared all) s (record { sym = codes "arguments"; ctxt = None }))))) (declares-outer seats s outer name) not_function
    ∙ and_no (is_arguments name.sym)

implied-side : {all : List Declared} → Every IsSeated all → (s : Scope) → IsOuter s →
    is_function s ≡ false → (name : Known_as) → is_implied_in (map called_declared all) s name ≡ false
implied-side {all} seats s outer not_function name =
    ap₂ (λ (a : Bool) (b : Bool). (a && not (is_written_in (map called_declared all) s (without_context name))) || (is_arguments name.sym && b)) (declares-outer seats s outer (without_context name)) not_function
    ∙ and_no (is_arguments name.sym)

binds-own : {all : List Declared} → Every IsSeated all → (name : Known_as) →
    binds (map called_declared all) (Inner Parameters 5) name ≡ true → is_arguments name.sym ≡ true
binds-own {all} seats name e =
    (and_parts (is_arguments name.sym) (has_implicit_arguments (map called_declared all) (Inner Parameters 5)) (sym (ap (λ a. a || (is_arguments name.sym && has_implicit_arguments (map called_declared all) (Inner Parameters 5))) (declares-outer seats (Inner Parameters 5) at_parameters name)) ∙ e)).0

implied-own : {all : List Declared} → Every IsSeated all → (name : Known_as) →
    is_implied_in (map called_declared all) (Inner Parameters 5) name ≡ true →
    is_arguments name.sym ≡ true
implied-own {all} seats name e =
    (and_parts (is_arguments name.sym) true (sym (ap (λ a. (a && not (is_written_in (map called_declared all) (Inner Parameters 5) (without_context name))) || (is_arguments name.sym && true)) (declares-outer seats (Inner Parameters 5) at_parameters (without_context name))) ∙ e)).0

is_astray : (name : Known_as) → is_arguments name.sym ≡ true →
    Global name.sym ≡ Global (codes "arguments")
is_astray name e = ap Global ((bytes_eq-Decides name.sym (codes "arguments")).0 e)

-- a name that nothing binds
nowhere : (name : Known_as) (t : Bool) → (t ≡ true → is_arguments name.sym ≡ true) →
    CorrespondInBody (Global name.sym) (bound_in name (cond t (Some (Inner Parameters 5)) None))
nowhere name true is =
    subst (λ d. CorrespondInBody d (Bound (Inner Parameters 5) name)) (sym (is_astray name (is refl)))
    (astray name)
nowhere name false is = followed (Global name.sym)

met-at : {d other : Denoted} {d2 other2 : Denoted} → d2 ≡ d → other2 ≡ other → CorrespondInBody d other →
    CorrespondInBody d2 other2
met-at e f met = subst (λ x. x) (λ i. CorrespondInBody (sym e i) (sym f i)) met

by_symbol-met : {all : List Declared} → Every IsSeated all → {scopes : List Scope} →
    AreFair scopes → (name : Known_as) →
    CorrespondInBody (denoted_by_symbol all scopes name)
    (denoted_by_symbol (map called_declared all) (moved_scopes scopes) name)
by_symbol-met {all} seats {scopes} fair name = by (find (λ scope. binds all scope name) scopes) refl
  where
    by : (o : Option Scope) → find (λ scope. binds all scope name) scopes ≡ o →
        CorrespondInBody (denoted_by_symbol all scopes name)
        (denoted_by_symbol (map called_declared all) (moved_scopes scopes) name)
    by None e =
        met-at (ap (bound_in name) e) (ap (bound_in name) (find-beside (λ scope. binds (map called_declared all) scope name) (λ scope. binds all scope name) (λ s f. binds-moved seats s f name) (binds-side seats (Inner FunctionName 4) at_name refl name) (binds-side seats Top at_top refl name) fair e))
        (nowhere name (binds (map called_declared all) (Inner Parameters 5) name) (binds-own seats name))
    by (Some s) e =
        met-at (ap (bound_in name) e)
        (ap (bound_in name) (find-there (λ scope. binds (map called_declared all) scope name) (λ scope. binds all scope name) (λ s f. binds-moved seats s f name) fair s e))
        (followed (Bound s name))

implied-met : {all : List Declared} → Every IsSeated all → {scopes : List Scope} → AreFair scopes →
    (name : Known_as) →
    CorrespondInBody (implied all scopes name) (implied (map called_declared all) (moved_scopes scopes) name)
implied-met {all} seats {scopes} fair name = unresolved (is_unresolved name.ctxt)
  where
    by : (o : Option Scope) → find (λ scope. is_implied_in all scope name) scopes ≡ o →
        CorrespondInBody
        (bound_in (without_context name) (find (λ scope. is_implied_in all scope name) scopes))
        (bound_in (without_context name) (find (λ scope. is_implied_in (map called_declared all) scope name) (moved_scopes scopes)))
    by None e =
        met-at (ap (bound_in (without_context name)) e) (ap (bound_in (without_context name)) (find-beside (λ scope. is_implied_in (map called_declared all) scope name) (λ scope. is_implied_in all scope name) (λ s f. implied-moved seats s f name) (implied-side seats (Inner FunctionName 4) at_name refl name) (implied-side seats Top at_top refl name) fair e))
        (nowhere (without_context name) (is_implied_in (map called_declared all) (Inner Parameters 5) name) (implied-own seats name))
    by (Some s) e =
        met-at (ap (bound_in (without_context name)) e)
        (ap (bound_in (without_context name)) (find-there (λ scope. is_implied_in (map called_declared all) scope name) (λ scope. is_implied_in all scope name) (λ s f. implied-moved seats s f name) fair s e))
        (followed (Bound s (without_context name)))

    unresolved : (t : Bool) →
        CorrespondInBody
        (cond t (Global name.sym) (bound_in (without_context name) (find (λ scope. is_implied_in all scope name) scopes)))
        (cond t (Global name.sym) (bound_in (without_context name) (find (λ scope. is_implied_in (map called_declared all) scope name) (moved_scopes scopes))))
    unresolved true = followed (Global name.sym)
    unresolved false = by (find (λ scope. is_implied_in all scope name) scopes) refl

by_context-met : {all : List Declared} → Every IsSeated all → {scopes : List Scope} →
    AreFair scopes → (name : Known_as) →
    CorrespondInBody (denoted_by_context all scopes name)
    (denoted_by_context (map called_declared all) (moved_scopes scopes) name)
by_context-met {all} seats {scopes} fair name =
    by (find (λ scope. is_written_in all scope name) scopes) refl
  where
    by : (o : Option Scope) → find (λ scope. is_written_in all scope name) scopes ≡ o →
        CorrespondInBody (denoted_by_context all scopes name)
        (denoted_by_context (map called_declared all) (moved_scopes scopes) name)
    by None e =
        met-at (ap (written_or_implied all scopes name) e) (ap (written_or_implied (map called_declared all) (moved_scopes scopes) name) (find-beside (λ scope. is_written_in (map called_declared all) scope name) (λ scope. is_written_in all scope name) (λ s f. written-moved seats s f name) (written-outer seats (Inner FunctionName 4) at_name name) (written-outer seats Top at_top name) fair e ∙ ap (λ t. cond t (Some (Inner Parameters 5)) None) (written-outer seats (Inner Parameters 5) at_parameters name)))
        (implied-met seats fair name)
    by (Some s) e =
        met-at (ap (written_or_implied all scopes name) e)
        (ap (written_or_implied (map called_declared all) (moved_scopes scopes) name) (find-there (λ scope. is_written_in (map called_declared all) scope name) (λ scope. is_written_in all scope name) (λ s f. written-moved seats s f name) fair s e))
        (followed (Bound s name))

denoted_in-met : (reading : Reading) {all : List Declared} → Every IsSeated all →
    {scopes : List Scope} → AreFair scopes → (name : Known_as) →
    CorrespondInBody (denoted_in reading all scopes name)
    (denoted_in reading (map called_declared all) (moved_scopes scopes) name)
denoted_in-met BySymbol seats fair name = by_symbol-met seats fair name
denoted_in-met ByContext seats fair name = by_context-met seats fair name

-- the same where nothing may be denoted
pub data AreMetAt : Option Denoted → Option Denoted → Type 0 where
  nothing_met : AreMetAt None None
  met : {d other : Denoted} → CorrespondInBody d other → AreMetAt (Some d) (Some other)

met-alike : {is_async : Bool} (reading : Reading) {all : List Declared} → Every IsSeated all →
    {o its : Option Occurrence} → AreAlike is_async o its →
    ((d : Declared) → option_and_then (declaration_of reading Es) o ≡ Some d → IsSeated d) →
    AreMetAt (option_map (denoted_of reading Es all) o)
    (option_map (denoted_of reading Es (map called_declared all)) its)
met-alike reading seats neither seated = nothing_met
met-alike reading {all} seats (both {old} {new} place its x ctxt role at moved) seated =
    met
    (by (declaration_of reading Es (record { place = place; sym = x; ctxt = ctxt; role = role; path = old })) refl)
  where
    by : (o : Option Declared) →
        declaration_of reading Es
        (record { place = place; sym = x; ctxt = ctxt; role = role; path = old }) ≡
        o →
        CorrespondInBody
        (denoted_of reading Es all (record { place = place; sym = x; ctxt = ctxt; role = role; path = old }))
        (denoted_of reading Es (map called_declared all) (record { place = its; sym = x; ctxt = ctxt; role = role; path = new }))
    by None e =
        met-at (ap (own_or_found all (denoted_in reading all (scopes_around Es old) (name_of reading x ctxt))) e)
        (ap (own_or_found (map called_declared all) (denoted_in reading (map called_declared all) (scopes_around Es new) (name_of reading x ctxt))) (declaration-moved moved reading place its x ctxt role at ∙ ap (option_map called_declared) e) ∙ ap (λ scopes. denoted_in reading (map called_declared all) scopes (name_of reading x ctxt)) (scopes-moved moved))
        (denoted_in-met reading seats (scopes-fair moved) (name_of reading x ctxt))
    by (Some d) e =
        met-at (ap (own_or_found all (denoted_in reading all (scopes_around Es old) (name_of reading x ctxt))) e)
        (ap (own_or_found (map called_declared all) (denoted_in reading (map called_declared all) (scopes_around Es new) (name_of reading x ctxt))) (declaration-moved moved reading place its x ctxt role at ∙ ap (option_map called_declared) e) ∙ ap (λ s. Bound s d.name) (home-moved seats d (seated d e)))
        (followed _)

-- what a name of a statement denotes in the function
pub met-twins : {reading : Reading} {is_async : Bool} {stmts after its : List Item} →
    AreTwins reading is_async stmts after its → (k : ℕ) → k < length stmts →
    AreMetAt (denoted_at reading Es (module_with stmts after) (suc k))
    (denoted_at reading Es (call_with is_async stmts its) (suc k + 6))
met-twins {reading} {is_async} {stmts} {after} {its} twins k l =
    let s = shows is_async twins.statements after its k l in
    subst (λ x. x) (λ i. AreMetAt (denoted_at reading Es (module_with stmts after) (suc k)) (option_map (denoted_of reading Es (sym (declared-twins twins) i)) (occurrence_at (call_with is_async stmts its) (suc k + 6))))
    (met-alike reading (seats-twins twins) (occurrences-alike s) (occurrence-seated twins k l))
