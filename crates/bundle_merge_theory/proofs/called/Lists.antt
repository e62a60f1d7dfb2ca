-- Declarations and occurrences of statements are the same in the function.
-- Places of statements in a module, and in the call of one function.
use Rattle.std.proofs.Common.{◌≡◌, ℕ, zero, suc, ◌+◌, ◌<◌, Bool, true, false, cond, List, [], ◌∷◌, ◌++◌, Option, Some, None, option_map, option_and_then, map, length, take, drop, refl, ap, ap₂, sym, ◌∙◌, subst, arith, codes, ◌≤◌}
use Rattle.std.specs.Prelude.{fold, slice_get}
use Rattle.std.specs.List.{cons_option}
use Rattle.std.proofs.lemmas.Bool.{false≢true}
use Rattle.std.proofs.lemmas.Option.{none-some, same_Some}
use Rattle.bundle_syntax.specs.declared.piece.Role.{Role}
use Rattle.bundle_syntax.specs.Item as h
use Rattle.bundle_syntax.specs.Item.{Item, Head}
use Rattle.bundle_syntax.specs.declared.piece.Role.TheVariants
use Rattle.bundle_rules.specs.Places.{Around, Spot, in_field, outer_path, past, Occurrence, occurrence_of, is_binding, spot_before, occurrence_at}
use Rattle.bundle_rules.specs.Scopes.{Es, scopes_around}
use Rattle.bundle_rules.specs.Declarations.{Way, Reading, name_of, Declared, way_of, is_nameless_default, declared_by, declaration_of, nameless_default, declared_at, declared_from, declared}
use Rattle.bundle_rules.specs.Denotes.{Denoted, Bound, Global, denoted_in, own_or_found, denoted_of, denoted_at}
use Rattle.bundle_rules.specs.Callable.{Every, none, more, IsTaken, is_module_head, AreStatements, over, begun, ended, named, empty, module_with}
use Rattle.bundle_scope_names.proofs.TreeLemmas.{cons_option-map}
use Rattle.bundle_link.proofs.NodePaths.{get-front}
use Rattle.bundle_merge_theory.specs.called.Moved.{called_denoted, called_declared, is_module_way, AreFair, IsSeated}
use Rattle.bundle_merge_theory.specs.called.Called.{around_place, IsPathMoved, within, IsMovedSpot, outside, call_with, statements_start, call_start, AreTwins}
use Rattle.bundle_merge_theory.proofs.called.Homes.{home-moved, denoted_in-moved}
use Rattle.bundle_merge_theory.proofs.called.Paths.{IsPlainWay, in_field-moved, scopes-moved, scopes-fair, way-plain, declaration-moved}

-- ---- lists

-- Spots.

outer-moved : {is_async : Bool} {depth : ℕ} {old new : List Around} →
    IsPathMoved is_async (suc depth) old new → IsPathMoved is_async depth (outer_path old) (outer_path new)
outer-moved (within node known moved) = moved

pub past-open : {is_async : Bool} {depth : ℕ} {s t : Spot} → IsMovedSpot is_async depth s t →
    (field : ℕ) (head : Head) → is_module_head head ≡ false →
    IsMovedSpot is_async (suc depth) (past s (h.Open field head)) (past t (h.Open field head))
past-open {is_async} {depth} {s} {t} moved field head plain = record {
  at = omega (arith, moved.at);
  positive = omega arith;
  path = subst (λ p. IsPathMoved is_async (suc depth) (around_place head s.place 0 ∷ in_field field s.path) (around_place head p 0 ∷ in_field field t.path)) (sym moved.at) (within (around_place head s.place 0) (record { begins = moved.positive; head = plain }) (in_field-moved moved.path field));
}

pub past-close : {is_async : Bool} {depth : ℕ} {s t : Spot} → IsMovedSpot is_async (suc depth) s t →
    IsMovedSpot is_async depth (past s h.Close) (past t h.Close)
past-close moved = record { at = omega (arith, moved.at); positive = omega arith; path = outer-moved moved.path }

pub past-leaf : {is_async : Bool} {depth : ℕ} {s t : Spot} → IsMovedSpot is_async depth s t →
    IsMovedSpot is_async depth (record { place = s.place + 1; path = s.path })
    (record { place = t.place + 1; path = t.path })
past-leaf moved = record { at = omega (arith, moved.at); positive = omega arith; path = moved.path }

-- behind the statements
pub behind : {is_async : Bool} {depth : ℕ} {items : List Item} → AreStatements depth items →
    {s t : Spot} → IsMovedSpot is_async depth s t →
    IsMovedSpot is_async zero (fold past s items) (fold past t items)
behind over moved = moved
behind (begun {field} {head} plain name inner) moved =
    behind inner (past-open moved field head plain)
behind (ended inner) moved = behind inner (past-close moved)
behind (named inner) moved = behind inner (past-leaf moved)
behind (empty inner) moved = behind inner (past-leaf moved)

-- at an element
pub record At (is_async : Bool) (s t : Spot) (items : List Item) (k : ℕ) : Type 0 where
  pub depth : ℕ
  pub x : Item
  pub rest : List Item
  pub there : slice_get items k ≡ Some x
  pub left : drop k items ≡ x ∷ rest
  pub inside : AreStatements depth (x ∷ rest)
  pub spots : IsMovedSpot is_async depth (fold past s (take k items)) (fold past t (take k items))

pub at : {is_async : Bool} {depth : ℕ} {items : List Item} → AreStatements depth items →
    {s t : Spot} → IsMovedSpot is_async depth s t → (k : ℕ) → k < length items →
    At is_async s t items k
at over moved k l = absurd (omega arith)
at (begun plain name inner) moved zero l = record { depth = _; x = _; rest = _; there = refl; left = refl; inside = begun plain name inner; spots = moved }
at (ended inner) moved zero l = record { depth = _; x = _; rest = _; there = refl; left = refl; inside = ended inner; spots = moved }
at (named inner) moved zero l = record { depth = _; x = _; rest = _; there = refl; left = refl; inside = named inner; spots = moved }
at (empty inner) moved zero l = record { depth = _; x = _; rest = _; there = refl; left = refl; inside = empty inner; spots = moved }
at (begun {field} {head} plain name inner) moved (suc k) l =
    let r = at inner (past-open moved field head plain) k (omega arith) in
    record { depth = r.depth; x = r.x; rest = r.rest; there = r.there; left = r.left; inside = r.inside; spots = r.spots }
at (ended inner) moved (suc k) l =
    let r = at inner (past-close moved) k (omega arith) in
    record { depth = r.depth; x = r.x; rest = r.rest; there = r.there; left = r.left; inside = r.inside; spots = r.spots }
at (named inner) moved (suc k) l =
    let r = at inner (past-leaf moved) k (omega arith) in
    record { depth = r.depth; x = r.x; rest = r.rest; there = r.there; left = r.left; inside = r.inside; spots = r.spots }
at (empty inner) moved (suc k) l =
    let r = at inner (past-leaf moved) k (omega arith) in
    record { depth = r.depth; x = r.x; rest = r.rest; there = r.there; left = r.left; inside = r.inside; spots = r.spots }

-- Declarations.

not_default : (field : ℕ) (head : Head) → is_module_head head ≡ false → (rest : List Item) →
    is_nameless_default (h.Open field head) rest ≡ false
not_default field h.ExportDefaultExpr e rest = absurd (false≢true (sym e))
not_default field h.ExportDefaultDecl e rest = absurd (false≢true (sym e))
not_default field _ e rest = refl

pub open-declares : (reading : Reading) (s : Spot) (field : ℕ) (head : Head) →
    is_module_head head ≡ false → (rest : List Item) →
    declared_at reading Es s (h.Open field head) rest ≡ None
open-declares reading s field head e rest =
    ap (λ t. cond t (Some (nameless_default Es s.place)) None) (not_default field head e rest)

-- an occurrence and the same in the function
pub data AreAlike (is_async : Bool) : Option Occurrence → Option Occurrence → Type 0 where
  neither : AreAlike is_async None None
  both : {depth : ℕ} {old new : List Around} (place its : ℕ) (x : List ℕ) (ctxt : ℕ) (role : Role) →
      its ≡ place + 6 → IsPathMoved is_async depth old new →
      AreAlike is_async
      (Some (record { place = place; sym = x; ctxt = ctxt; role = role; path = old }))
      (Some (record { place = its; sym = x; ctxt = ctxt; role = role; path = new }))

pub occurrence-moved : {is_async : Bool} {depth : ℕ} {s t : Spot} → IsMovedSpot is_async depth s t →
    (x : Item) → AreAlike is_async (occurrence_of s x) (occurrence_of t x)
occurrence-moved {s} {t} moved (h.Ident field x ctxt TheVariants.Binding) =
    both s.place t.place x ctxt TheVariants.Binding moved.at (in_field-moved moved.path field)
occurrence-moved {s} {t} moved (h.Ident field x ctxt TheVariants.Reference) =
    both s.place t.place x ctxt TheVariants.Reference moved.at (in_field-moved moved.path field)
occurrence-moved moved (h.Ident field x ctxt TheVariants.Word) = neither
occurrence-moved moved (h.Open field head) = neither
occurrence-moved moved (h.Hole field) = neither
occurrence-moved moved h.Close = neither

declared-alike : {is_async : Bool} (reading : Reading) {o its : Option Occurrence} →
    AreAlike is_async o its →
    option_and_then (declaration_of reading Es) its ≡
    option_map called_declared (option_and_then (declaration_of reading Es) o)
declared-alike reading neither = refl
declared-alike reading (both place its x ctxt role at moved) =
    declaration-moved moved reading place its x ctxt role at

pub declared-moved : {is_async : Bool} (reading : Reading) {depth : ℕ} {items : List Item} →
    AreStatements depth items → {s t : Spot} → IsMovedSpot is_async depth s t →
    (after its : List Item) → declared_from reading Es (fold past s items) after ≡ [] →
    declared_from reading Es (fold past t items) its ≡ [] →
    declared_from reading Es t (items ++ its) ≡
    map called_declared (declared_from reading Es s (items ++ after))
declared-moved reading over moved after its e f = f ∙ sym (ap (map called_declared) e)
declared-moved reading (begun {field} {head} {rest} plain name inner) {s} {t} moved after its e f =
    ap₂ (λ (o : Option Declared) (l : List Declared). cons_option o l) (open-declares reading t field head plain (rest ++ its)) (declared-moved reading inner (past-open moved field head plain) after its e f)
    ∙ sym (ap (λ o. map called_declared (cons_option o (declared_from reading Es (past s (h.Open field head)) (rest ++ after)))) (open-declares reading s field head plain (rest ++ after)))
declared-moved reading (ended inner) moved after its e f =
    declared-moved reading inner (past-close moved) after its e f
declared-moved reading (named {field} {ctxt} {sym = x} {role} {rest} inner) {s} {t} moved after its e f =
    ap₂ (λ (o : Option Declared) (l : List Declared). cons_option o l) (declared-alike reading (occurrence-moved moved (h.Ident field x ctxt role))) (declared-moved reading inner (past-leaf moved) after its e f)
    ∙ cons_option-map called_declared (declared_at reading Es s (h.Ident field x ctxt role) (rest ++ after)) (declared_from reading Es (past s (h.Ident field x ctxt role)) (rest ++ after))
declared-moved reading (empty inner) moved after its e f =
    declared-moved reading inner (past-leaf moved) after its e f

-- Each declaration is seated.

later : {A : Type 0} {P : A → Type 0} (o : Option A) (xs : List A) → Every P (cons_option o xs) →
    Every P xs
later None xs each = each
later (Some x) xs (more here each) = each

first : {A : Type 0} {P : A → Type 0} (x : A) (xs : List A) → Every P (x ∷ xs) → P x
first x xs (more here each) = here

pub consed : {A : Type 0} {P : A → Type 0} (o : Option A) (xs : List A) → ((x : A) → o ≡ Some x → P x) →
    Every P xs → Every P (cons_option o xs)
consed None xs here each = each
consed (Some x) xs here each = more (here x refl) each

here-of : {A : Type 0} {P : A → Type 0} (o : Option A) (xs : List A) → Every P (cons_option o xs) →
    (x : A) → o ≡ Some x → P x
here-of None xs each x e = absurd (none-some x e)
here-of {P = P} (Some y) xs each x e = subst P (same_Some y x e) (first y xs each)

-- a declaration of an occurrence
seat : {is_async : Bool} {depth : ℕ} {old new : List Around} → IsPathMoved is_async depth old new →
    (reading : Reading) (place : ℕ) (x : List ℕ) (ctxt : ℕ) (role : Role) (d : Declared) →
    declaration_of reading Es
    (record { place = place; sym = x; ctxt = ctxt; role = role; path = old }) ≡
    Some d →
    IsTaken d → IsSeated d
seat {old} moved reading place x ctxt role d e taken =
    by (is_binding role) (way_of old) (way-plain moved) e
  where
    by : (t : Bool) (way : Option Way) → IsPlainWay way →
        cond t (declared_by place (name_of reading x ctxt) (scopes_around Es old) way) None ≡
        Some d →
        IsSeated d
    by false way plain is = absurd (none-some d is)
    by true None plain is = absurd (none-some d is)
    by true (Some way) plain is = record {
      fair = subst (λ (z : Declared). AreFair z.scopes) (same_Some _ d is) (scopes-fair moved);
      way = subst (λ (z : Declared). is_module_way z.by ≡ false) (same_Some _ d is) plain;
      taken = taken.taken;
    }

seat-alike : {is_async : Bool} (reading : Reading) {o its : Option Occurrence} →
    AreAlike is_async o its → (d : Declared) →
    option_and_then (declaration_of reading Es) o ≡ Some d → IsTaken d → IsSeated d
seat-alike reading neither d e taken = absurd (none-some d e)
seat-alike reading (both place its x ctxt role at moved) d e taken =
    seat moved reading place x ctxt role d e taken

pub seats : {is_async : Bool} (reading : Reading) {depth : ℕ} {items : List Item} →
    AreStatements depth items → {s t : Spot} → IsMovedSpot is_async depth s t →
    (after : List Item) → declared_from reading Es (fold past s items) after ≡ [] →
    Every IsTaken (declared_from reading Es s (items ++ after)) →
    Every IsSeated (declared_from reading Es s (items ++ after))
seats reading over moved after e taken = subst (Every IsSeated) (sym e) none
seats reading (begun {field} {head} {rest} plain name inner) {s} moved after e taken =
    subst (λ o. Every IsSeated (cons_option o (declared_from reading Es (past s (h.Open field head)) (rest ++ after)))) (sym (open-declares reading s field head plain (rest ++ after)))
    (seats reading inner (past-open moved field head plain) after e (later (declared_at reading Es s (h.Open field head) (rest ++ after)) (declared_from reading Es (past s (h.Open field head)) (rest ++ after)) taken))
seats reading (ended inner) moved after e taken =
    seats reading inner (past-close moved) after e taken
seats reading (named {field} {ctxt} {sym = x} {role} {rest} inner) {s} moved after e taken =
    consed (declared_at reading Es s (h.Ident field x ctxt role) (rest ++ after)) (declared_from reading Es (past s (h.Ident field x ctxt role)) (rest ++ after))
    (λ d is. seat-alike reading (occurrence-moved moved (h.Ident field x ctxt role)) d is (here-of (declared_at reading Es s (h.Ident field x ctxt role) (rest ++ after)) (declared_from reading Es (past s (h.Ident field x ctxt role)) (rest ++ after)) taken d is))
    (seats reading inner (past-leaf moved) after e (later (declared_at reading Es s (h.Ident field x ctxt role) (rest ++ after)) (declared_from reading Es (past s (h.Ident field x ctxt role)) (rest ++ after)) taken))
seats reading (empty inner) moved after e taken =
    seats reading inner (past-leaf moved) after e taken

-- what an occurrence of the statements declares is among the declarations
pub declared-there : {is_async : Bool} (reading : Reading) {P : Declared → Type 0} {depth : ℕ}
    {items : List Item} →
    AreStatements depth items → {s t : Spot} → IsMovedSpot is_async depth s t →
    (after : List Item) → Every P (declared_from reading Es s (items ++ after)) →
    (k : ℕ) (d : Declared) →
    option_and_then (declaration_of reading Es)
    (option_and_then (occurrence_of (fold past s (take k items))) (slice_get items k)) ≡
    Some d →
    P d
declared-there reading over moved after each k d e = absurd (none-some d e)
declared-there reading (begun {field} {head} {rest} plain name inner) {s} moved after each zero d e = absurd (none-some d e)
declared-there reading (ended inner) moved after each zero d e = absurd (none-some d e)
declared-there reading (named {field} {ctxt} {sym = x} {role} {rest} inner) {s} moved after each zero d e = here-of (declared_at reading Es s (h.Ident field x ctxt role) (rest ++ after)) (declared_from reading Es (past s (h.Ident field x ctxt role)) (rest ++ after)) each d e
declared-there reading (empty inner) moved after each zero d e = absurd (none-some d e)
declared-there reading (begun {field} {head} {rest} plain name inner) {s} moved after each (suc k) d e = declared-there reading inner (past-open moved field head plain) after (later (declared_at reading Es s (h.Open field head) (rest ++ after)) (declared_from reading Es (past s (h.Open field head)) (rest ++ after)) each) k d e
declared-there reading (ended inner) moved after each (suc k) d e =
    declared-there reading inner (past-close moved) after each k d e
declared-there reading (named {field} {ctxt} {sym = x} {role} {rest} inner) {s} moved after each (suc k) d e = declared-there reading inner (past-leaf moved) after (later (declared_at reading Es s (h.Ident field x ctxt role) (rest ++ after)) (declared_from reading Es (past s (h.Ident field x ctxt role)) (rest ++ after)) each) k d e
declared-there reading (empty inner) moved after each (suc k) d e =
    declared-there reading inner (past-leaf moved) after each k d e

-- What occurrences denote.

-- a global `arguments`
abbrev pub Strays : Denoted → Type 0
Strays d = d ≡ Global (codes "arguments")

denoted_of-moved : {is_async : Bool} {depth : ℕ} {old new : List Around} →
    IsPathMoved is_async depth old new → (reading : Reading) {all : List Declared} →
    Every IsSeated all → (place its : ℕ) (x : List ℕ) (ctxt : ℕ) (role : Role) → its ≡ place + 6 →
    ((d : Declared) → declaration_of reading Es (record { place = place; sym = x; ctxt = ctxt; role = role; path = old }) ≡ Some d → IsSeated d)
    →
    (Strays (denoted_of reading Es all (record { place = place; sym = x; ctxt = ctxt; role = role; path = old })) → ⊥)
    →
    denoted_of reading Es (map called_declared all)
    (record { place = its; sym = x; ctxt = ctxt; role = role; path = new }) ≡
    called_denoted
    (denoted_of reading Es all (record { place = place; sym = x; ctxt = ctxt; role = role; path = old }))
denoted_of-moved {old} {new} moved reading {all} seats place its x ctxt role at seated apart =
    by (declaration_of reading Es old_one) refl
  where
    old_one : Occurrence
    old_one = record { place = place; sym = x; ctxt = ctxt; role = role; path = old }

    by : (o : Option Declared) →
        declaration_of reading Es
        (record { place = place; sym = x; ctxt = ctxt; role = role; path = old }) ≡
        o →
        denoted_of reading Es (map called_declared all)
        (record { place = its; sym = x; ctxt = ctxt; role = role; path = new }) ≡
        called_denoted
        (denoted_of reading Es all (record { place = place; sym = x; ctxt = ctxt; role = role; path = old }))
    by None e =
        ap (own_or_found (map called_declared all) (denoted_in reading (map called_declared all) (scopes_around Es new) (name_of reading x ctxt))) (declaration-moved moved reading place its x ctxt role at ∙ ap (option_map called_declared) e)
        ∙ ap (λ scopes. denoted_in reading (map called_declared all) scopes (name_of reading x ctxt)) (scopes-moved moved)
        ∙ denoted_in-moved reading seats (scopes-fair moved) (name_of reading x ctxt) (λ strays. apart (ap (own_or_found all (denoted_in reading all (scopes_around Es old) (name_of reading x ctxt))) e ∙ strays))
        ∙ sym (ap (λ o. called_denoted (own_or_found all (denoted_in reading all (scopes_around Es old) (name_of reading x ctxt)) o)) e)
    by (Some d) e =
        ap (own_or_found (map called_declared all) (denoted_in reading (map called_declared all) (scopes_around Es new) (name_of reading x ctxt))) (declaration-moved moved reading place its x ctxt role at ∙ ap (option_map called_declared) e)
        ∙ ap (λ s. Bound s d.name) (home-moved seats d (seated d e))
        ∙ sym (ap (λ o. called_denoted (own_or_found all (denoted_in reading all (scopes_around Es old) (name_of reading x ctxt)) o)) e)

pub denoted-alike : {is_async : Bool} (reading : Reading) {all : List Declared} →
    Every IsSeated all → {o its : Option Occurrence} → AreAlike is_async o its →
    ((d : Declared) → option_and_then (declaration_of reading Es) o ≡ Some d → IsSeated d) →
    (option_map (denoted_of reading Es all) o ≡ Some (Global (codes "arguments")) → ⊥) →
    option_map (denoted_of reading Es (map called_declared all)) its ≡
    option_map called_denoted (option_map (denoted_of reading Es all) o)
denoted-alike reading seats neither seated apart = refl
denoted-alike reading seats (both place its x ctxt role at moved) seated apart =
    ap Some
    (denoted_of-moved moved reading seats place its x ctxt role at seated (λ strays. apart (ap Some strays)))

-- ---- trees
pub take-front : {A : Type 0} (xs ys : List A) (k : ℕ) → k ≤ length xs →
    take k (xs ++ ys) ≡ take k xs
take-front xs ys zero l = refl
take-front [] ys (suc k) l = absurd (omega arith)
take-front (x ∷ xs) ys (suc k) l = ap (λ r. x ∷ r) (take-front xs ys k (omega arith))

-- the first statement is at the same spot
pub start-moved : (is_async : Bool) → IsMovedSpot is_async zero statements_start (call_start is_async)
start-moved is_async = record { at = refl; positive = omega arith; path = outside 0 }

-- where they begin
pub module-spot : (stmts after : List Item) (k : ℕ) → k ≤ length stmts →
    spot_before (module_with stmts after) (suc k) ≡ fold past statements_start (take k stmts)
module-spot stmts after k l = ap (fold past statements_start) (take-front stmts after k l)

seven : (k : ℕ) → suc k + 6 ≡ suc (suc (suc (suc (suc (suc (suc k))))))
seven k = omega arith

pub call-spot : (is_async : Bool) (stmts its : List Item) (k : ℕ) → k ≤ length stmts →
    spot_before (call_with is_async stmts its) (suc k + 6) ≡
    fold past (call_start is_async) (take k stmts)
call-spot is_async stmts its k l =
    ap (spot_before (call_with is_async stmts its)) (seven k)
    ∙ ap (fold past (call_start is_async)) (take-front stmts its k l)

pub module-item : (stmts after : List Item) (k : ℕ) → k < length stmts →
    slice_get (module_with stmts after) (suc k) ≡ slice_get stmts k
module-item stmts after k l = get-front stmts after k l

pub call-item : (is_async : Bool) (stmts its : List Item) (k : ℕ) → k < length stmts →
    slice_get (call_with is_async stmts its) (suc k + 6) ≡ slice_get stmts k
call-item is_async stmts its k l =
    ap (slice_get (call_with is_async stmts its)) (seven k) ∙ get-front stmts its k l

-- what a place shows: its occurrence in both trees
pub record Shows (is_async : Bool) (stmts after its : List Item) (k : ℕ) : Type 0 where
  pub here : At is_async statements_start (call_start is_async) stmts k
  pub old_spot : spot_before (module_with stmts after) (suc k) ≡
      fold past statements_start (take k stmts)
  pub new_spot : spot_before (call_with is_async stmts its) (suc k + 6) ≡
      fold past (call_start is_async) (take k stmts)
  pub old_item : slice_get (module_with stmts after) (suc k) ≡ Some here.x
  pub new_item : slice_get (call_with is_async stmts its) (suc k + 6) ≡ Some here.x

pub shows : (is_async : Bool) {stmts : List Item} → AreStatements zero stmts →
    (after its : List Item) (k : ℕ) → k < length stmts → Shows is_async stmts after its k
shows is_async {stmts} statements after its k l =
    let here = at statements (start-moved is_async) k l in
    record {
      here = here;
      old_spot = module-spot stmts after k (omega arith);
      new_spot = call-spot is_async stmts its k (omega arith);
      old_item = module-item stmts after k l ∙ here.there;
      new_item = call-item is_async stmts its k l ∙ here.there;
    }

pub occurrences-alike : {is_async : Bool} {stmts after its : List Item} {k : ℕ} →
    Shows is_async stmts after its k →
    AreAlike is_async (occurrence_at (module_with stmts after) (suc k))
    (occurrence_at (call_with is_async stmts its) (suc k + 6))
occurrences-alike {is_async} {stmts} {after} {its} {k} s =
    subst (λ x. x)
    (λ i. AreAlike is_async (option_and_then (occurrence_of (sym s.old_spot i)) (sym s.old_item i)) (option_and_then (occurrence_of (sym s.new_spot i)) (sym s.new_item i)))
    (occurrence-moved s.here.spots s.here.x)

-- all declarations
pub declared-twins : {reading : Reading} {is_async : Bool} {stmts after its : List Item} →
    AreTwins reading is_async stmts after its →
    declared reading Es (call_with is_async stmts its) ≡
    map called_declared (declared reading Es (module_with stmts after))
declared-twins {reading} {is_async} {stmts} {after} {its} twins =
    declared-moved reading twins.statements (start-moved is_async) after its twins.none_after
    twins.none_its

pub seats-twins : {reading : Reading} {is_async : Bool} {stmts after its : List Item} →
    AreTwins reading is_async stmts after its →
    Every IsSeated (declared reading Es (module_with stmts after))
seats-twins {reading} {is_async} {stmts} {after} {its} twins =
    seats reading twins.statements (start-moved is_async) after twins.none_after twins.taken

-- what a name of a statement denotes in the function is what it denotes in the module, but
-- for a free `arguments`
pub denoted-twins : {reading : Reading} {is_async : Bool} {stmts after its : List Item} →
    AreTwins reading is_async stmts after its → (k : ℕ) → k < length stmts →
    (denoted_at reading Es (module_with stmts after) (suc k) ≡ Some (Global (codes "arguments")) → ⊥)
    →
    denoted_at reading Es (call_with is_async stmts its) (suc k + 6) ≡
    option_map called_denoted (denoted_at reading Es (module_with stmts after) (suc k))
denoted-twins {reading} {is_async} {stmts} {after} {its} twins k l apart =
    let s = shows is_async twins.statements after its k l in
    ap (λ all. option_map (denoted_of reading Es all) (occurrence_at (call_with is_async stmts its) (suc k + 6))) (declared-twins twins)
    ∙ denoted-alike reading (seats-twins twins) (occurrences-alike s) seated apart
  where
    seated : (d : Declared) →
        option_and_then (declaration_of reading Es)
        (occurrence_at (module_with stmts after) (suc k)) ≡
        Some d →
        IsSeated d
    seated d e =
        declared-there reading twins.statements (start-moved is_async) after (seats-twins twins) k d
        (sym (ap₂ (λ (spot : Spot) (x : Option Item). option_and_then (declaration_of reading Es) (option_and_then (occurrence_of spot) x)) (module-spot stmts after k (omega arith)) (module-item stmts after k l)) ∙ e)
