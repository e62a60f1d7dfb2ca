-- In a program without fault that is to be one function's call, no statement of a bundle means a
-- free `arguments`.
use Rattle.std.proofs.Common.{◌≡◌, ℕ, zero, suc, ◌+◌, ◌<◌, Bool, true, false, cond, not, ◌&&◌, ◌||◌, List, [], ◌∷◌, ◌++◌, Option, Some, None, option_map, option_and_then, length, take, find, bytes_eq, refl, ap, ap₂, sym, ◌∙◌, arith, codes}
use Rattle.std.specs.Prelude.{if◌then◌else◌, fold, slice_get, flat_map}
use Rattle.std.specs.List.{cons_option, list_any}
use Rattle.std.proofs.lemmas.Bool.{false≢true, and_parts}
use Rattle.std.proofs.lemmas.Option.{none-some, same_Some, slice_get_within}
use Rattle.std.proofs.lemmas.Slice.Eq.{bytes_eq-Decides}
use Rattle.bundle_syntax.specs.Item as h
use Rattle.bundle_syntax.specs.Item.{Item, Head}
use Rattle.bundle_rules.specs.Places.{Around, Spot, past, start, spot_before, Occurrence, occurrence_of, occurrence_at, occurrences_from}
use Rattle.bundle_rules.specs.Scopes.{Es, Cjs, ModuleKind, Scope, Wrapper, Top, kind_of_scope, scope_at, scopes_around}
use Rattle.bundle_rules.specs.Declarations.{BySymbol, name_of, Declared, declared, declaration_of}
use Rattle.bundle_rules.specs.Homes.{declares, binds}
use Rattle.bundle_rules.specs.Denotes.{Denoted, Global, bound_in, denoted_in, own_or_found, denoted_of, denoted_at}
use Rattle.bundle_rules.specs.Nodes.{Text}
use Rattle.bundle_rules.specs.Bound.{is_global, is_free, has_free}
use Rattle.bundle_rules.specs.Statements.{Element}
use Rattle.bundle_rules.specs.Meaning as m
use Rattle.bundle_rules.specs.Meaning.{Label, Meant, Mark, Sense, NameMeans, Means, replacement_marks, Replacement, ByName, ByCall}
use Rattle.bundle_rules.specs.Marks.{Begins, Ends, Empty, Name, Word, word_key, computed_key, begin_marks, end_marks, name_marks}
use Rattle.bundle_rules.specs.Shorthands.{has_default, is_shorthand_in_pattern, is_object}
use Rattle.bundle_rules.specs.Injected as j
use Rattle.bundle_rules.specs.Callable.{Every, none, more}
use Rattle.bundle_merge_theory.proofs.walked.NameLemmas.{occurrence_place}
use Rattle.bundle_merge_theory.proofs.called.Means.{IsPlainMeant, IsPlainMark}

-- Lists of marks.

pub every-join : {A : Type 0} {P : A → Type 0} {xs ys : List A} → Every P xs → Every P ys →
    Every P (xs ++ ys)
every-join none others = others
every-join (more here later) others = more here (every-join later others)

pub every-each : {A B : Type 0} {P : B → Type 0} (f : A → List B) → ((x : A) → Every P (f x)) →
    (xs : List A) → Every P (flat_map f xs)
every-each f each [] = none
every-each f each (x ∷ xs) = every-join (each x) (every-each f each xs)

node-plain : (field : ℕ) (head : Head) {inside : List Mark} → Every IsPlainMark inside →
    Every IsPlainMark (j.marks_node field head inside)
node-plain field head inside = more tt (every-join inside (more tt none))

string-plain : (field : ℕ) (x : Text) → Every IsPlainMark (j.string_marks field x)
string-plain field x = node-plain field (h.Str x _) none

export_name-plain : (field : ℕ) (x : Text) → Every IsPlainMark (j.export_name field x)
export_name-plain field x = by (j.is_ascii_identifier x)
  where
    by : (t : Bool) → Every IsPlainMark (if t then Word field x ∷ [] else j.string_marks field x)
    by true = more tt none
    by false = string-plain field x

key-plain : (x : Text) → Every IsPlainMark (j.key_marks x)
key-plain x = by (bytes_eq x (codes "__proto__")) (j.is_ascii_identifier x)
  where
    by : (t u : Bool) →
        Every IsPlainMark
        (if t then computed_key x else (if u then word_key x else j.string_marks 0 x))
    by true u = more tt (more tt (more tt (more tt none)))
    by false true = more tt (more tt none)
    by false false = string-plain 0 x

stands-plain : (field : ℕ) (l : Label) → Every IsPlainMark (j.stands_for field l)
stands-plain field l = more tt none

declares-plain : (field : ℕ) (l : Label) → Every IsPlainMark (j.declares field l)
declares-plain field l = node-plain field h.BindingIdent (stands-plain 0 l)

declarator-plain : {name value : List Mark} → Every IsPlainMark name → Every IsPlainMark value →
    Every IsPlainMark (j.declarator name value)
declarator-plain name value = node-plain 1 h.VarDeclarator (every-join name value)

pub import_names-plain : (s : Text) (names : List Text) → Every IsPlainMark (j.import_names s names)
import_names-plain s names =
    node-plain 0 _
    (every-join (every-each (j.import_specifier s) (λ x. node-plain 0 h.ImportNamedSpecifier (every-join (stands-plain 0 _) (export_name-plain 1 x))) names) (string-plain 1 s))

pub import_whole-plain : (s : Text) → Every IsPlainMark (j.import_whole s)
import_whole-plain s =
    node-plain 0 _
    (every-join (node-plain 0 h.ImportStarAsSpecifier (stands-plain 0 _)) (string-plain 1 s))

pub import_bare-plain : (s : Text) → Every IsPlainMark (j.import_bare s)
import_bare-plain s = node-plain 0 _ (string-plain 1 s)

pub export_star-plain : (s : Text) → Every IsPlainMark (j.export_star s)
export_star-plain s = node-plain 0 _ (string-plain 0 s)

return-plain : (pairs : List j.NamedTarget) → Every IsPlainMark (j.return_object pairs)
return-plain pairs =
    node-plain 0 h.ReturnStmt
    (node-plain 0 h.ObjectLit (every-each j.property (λ pair. node-plain 0 h.KeyValueProp (every-join (key-plain pair.0) (stands-plain 1 _))) pairs))

pub namespace-plain : (d : ℕ) (pairs : List j.NamedTarget) →
    Every IsPlainMark (j.namespace_object d pairs)
namespace-plain d pairs =
    node-plain 0 _
    (declarator-plain (declares-plain 0 _) (node-plain 1 h.CallExpr (node-plain 0 h.FnExpr (node-plain 1 (h.Function false false) (node-plain 1 h.BlockStmt (return-plain pairs))))))

pub meta-plain : (n : ℕ) {properties : List Mark} → Every IsPlainMark properties →
    Every IsPlainMark (j.meta_object n properties)
meta-plain n properties =
    node-plain 0 _ (declarator-plain (declares-plain 0 _) (node-plain 1 h.ObjectLit properties))

load_call-plain : (field c : ℕ) → Every IsPlainMark (j.load_call field c)
load_call-plain field c = node-plain field h.CallExpr (stands-plain 0 _)

pattern-plain : (taker c : ℕ) (names : List Text) → Every IsPlainMark (j.load_pattern taker c names)
pattern-plain taker c names =
    node-plain 0 h.ObjectPat
    (every-each (j.load_property taker c) (λ x. node-plain 0 h.KeyValuePatProp (every-join (key-plain x) (declares-plain 1 _))) names)

pub load-plain : (taker c : ℕ) (whole : Bool) (names : List Text) →
    Every IsPlainMark (j.load_statement taker c whole names)
load-plain taker c false [] = node-plain 0 h.ExprStmt (load_call-plain 0 c)
load-plain taker c false (x ∷ names) =
    node-plain 0 _ (declarator-plain (pattern-plain taker c (x ∷ names)) (load_call-plain 1 c))
load-plain taker c true [] =
    node-plain 0 _ (declarator-plain (declares-plain 0 _) (load_call-plain 1 c))
load-plain taker c true (x ∷ names) =
    node-plain 0 _
    (every-join (declarator-plain (declares-plain 0 _) (load_call-plain 1 c)) (declarator-plain (pattern-plain taker c (x ∷ names)) (stands-plain 1 _)))

parameter-plain : {name : List Mark} → Every IsPlainMark name → Every IsPlainMark (j.parameter name)
parameter-plain name = node-plain 0 h.Param (node-plain 0 h.BindingIdent name)

pub front-plain : (c : ℕ) → Every IsPlainMark (j.load_front c)
front-plain c =
    more tt
    (more tt (every-join (declares-plain 0 _) (more tt (every-join (stands-plain 0 _) (more tt (more tt (more tt (every-join (parameter-plain (stands-plain 0 _)) (every-join (parameter-plain (stands-plain 0 _)) (more tt none))))))))))

pub back-plain : Every IsPlainMark j.load_back
back-plain = more tt (more tt (more tt (more tt (more tt (more tt (more tt none))))))

-- a test of marks
abbrev no_global : Mark → Bool
no_global (Name field (m.Unbound x)) = false
no_global _ = true

abbrev no_globals : List Mark → Bool
no_globals [] = true
no_globals (x ∷ xs) = no_global x && no_globals xs

plain-one : (x : Mark) → no_global x ≡ true → IsPlainMark x
plain-one (Name field (m.Unbound x)) e = absurd (false≢true e)
plain-one (Name field (m.Inside n)) e = tt
plain-one (Name field (m.Known l)) e = tt
plain-one (Begins field head) e = tt
plain-one Ends e = tt
plain-one (Empty field) e = tt
plain-one (Word field x) e = tt

plain-tested : (xs : List Mark) → no_globals xs ≡ true → Every IsPlainMark xs
plain-tested [] e = none
plain-tested (x ∷ xs) e = let parts = and_parts (no_global x) (no_globals xs) e in more (plain-one x parts.0) (plain-tested xs parts.1)

pub helper-plain : Every IsPlainMark j.helper_function
helper-plain = plain-tested j.helper_function refl

-- Marks of elements.

begin-plain : (tree : List Item) (place field : ℕ) (path : List Around) (head : Head) →
    Every IsPlainMark (begin_marks {N = Meant} tree place field path head)
begin-plain tree place field path h.AssignPatProp =
    more tt (more tt (more tt (by (has_default tree place))))
  where
    by : (t : Bool) → Every IsPlainMark (if t then Begins 1 h.AssignPat ∷ [] else [])
    by true = more tt none
    by false = none
begin-plain tree place field [] _ = more tt none
begin-plain tree place field (node ∷ outer) _ = more tt none

end-plain : (tree : List Item) (path : List Around) →
    Every IsPlainMark (end_marks {N = Meant} tree path)
end-plain tree [] = more tt none
end-plain tree (node ∷ outer) =
    by (is_shorthand_in_pattern node.head && has_default tree node.begins)
  where
    by : (t : Bool) → Every IsPlainMark (if t then Ends ∷ Ends ∷ [] else Ends ∷ [])
    by true = more tt (more tt none)
    by false = more tt none

name-plain : (field : ℕ) (path : List Around) (x : Text) (meant : Meant) → IsPlainMeant meant →
    Every IsPlainMark (name_marks field path x meant)
name-plain field [] x meant plain = more plain none
name-plain field (node ∷ outer) x meant plain =
    by (is_object node.head) (bytes_eq x (codes "__proto__"))
  where
    by : (t u : Bool) →
        Every IsPlainMark
        (if t then Begins field h.KeyValueProp ∷ ((if u then computed_key x else word_key x) ++ Name 1 meant ∷ Ends ∷ []) else Name field meant ∷ [])
    by true true = more tt (more tt (more tt (more tt (more tt (more plain (more tt none))))))
    by true false = more tt (more tt (more tt (more plain (more tt none))))
    by false u = more plain none

replacement-plain : (field : ℕ) (by : Replacement) → Every IsPlainMark (replacement_marks field by)
replacement-plain field (ByName l) = more tt none
replacement-plain field (ByCall l) = more tt (more tt (more tt none))

meant-plain : {sense : Sense} {inner : List Denoted} {d : Denoted} {meant : Meant} →
    NameMeans sense inner d meant → (d ≡ Global (codes "arguments") → ⊥) → IsPlainMeant meant
meant-plain (m.inside e) apart = tt
meant-plain (m.outside e stands) apart = tt
meant-plain (m.unbound {x}) apart = λ e. apart (ap Global e)

-- where no free `arguments` is denoted none is meant
pub marks-plain : {sense : Sense} →
    ((place : ℕ) → denoted_at sense.view.reading sense.view.kind sense.view.tree place ≡ Some (Global (codes "arguments")) → ⊥)
    →
    {inner : List Denoted} {es : List Element} {marks : List Mark} → Means sense inner es marks →
    Every IsPlainMark marks
marks-plain apart m.finished = none
marks-plain apart (m.replaced {field} by e rest) =
    every-join (replacement-plain field by) (marks-plain apart rest)
marks-plain {sense} apart (m.begun {place} {field} {head} e rest) =
    every-join (begin-plain sense.view.tree place field _ head) (marks-plain apart rest)
marks-plain {sense} apart (m.ended rest) =
    every-join (end-plain sense.view.tree _) (marks-plain apart rest)
marks-plain apart (m.empty rest) = more tt (marks-plain apart rest)
marks-plain apart (m.named {place} {field} {sym = x} d meant e means rest) =
    every-join (name-plain field _ x meant (meant-plain means (λ is. apart place (e ∙ ap Some is))))
    (marks-plain apart rest)
marks-plain apart (m.word rest) = more tt (marks-plain apart rest)
marks-plain apart (m.adds_begin rest) = more tt (marks-plain apart rest)
marks-plain apart (m.adds_end rest) = more tt (marks-plain apart rest)
marks-plain apart (m.adds_name meant means rest) =
    more (meant-plain means (λ e. absurd cc)) (marks-plain apart rest)

-- Free names.

-- an occurrence at a place is one of the list
occurs : (test : Occurrence → Bool) (spot : Spot) (xs : List Item) (k : ℕ) (o : Occurrence) →
    option_and_then (occurrence_of (fold past spot (take k xs))) (slice_get xs k) ≡ Some o →
    test o ≡ true → list_any test (occurrences_from spot xs) ≡ true
occurs test spot [] k o e is = absurd (none-some o e)
occurs test spot (x ∷ xs) zero o e is =
    ap (λ it. list_any test (cons_option it (occurrences_from (past spot x) xs))) e
    ∙ ap (λ t. t || list_any test (occurrences_from (past spot x) xs)) is
occurs test spot (x ∷ xs) (suc k) o e is =
    by (occurrence_of spot x) (occurs test (past spot x) xs k o e is)
  where
    or_later : (t : Bool) → (t || true) ≡ true
    or_later true = refl
    or_later false = refl

    by : (it : Option Occurrence) → list_any test (occurrences_from (past spot x) xs) ≡ true →
        list_any test (cons_option it (occurrences_from (past spot x) xs)) ≡ true
    by None rest = rest
    by (Some it) rest = ap (λ t. test it || t) rest ∙ or_later (test it)

spot-place : (spot : Spot) (xs : List Item) (k : ℕ) → k < length xs →
    (fold past spot (take k xs)).place ≡ spot.place + k
spot-place spot [] k l = absurd (omega arith)
spot-place spot (x ∷ xs) zero l = omega arith
spot-place spot (x ∷ xs) (suc k) l = omega (arith, spot-place (past spot x) xs k (omega arith))

occurrence-place : (tree : List Item) (place : ℕ) (o : Occurrence) →
    occurrence_at tree place ≡ Some o → o.place ≡ place
occurrence-place tree place o e = by (slice_get tree place) refl e
  where
    by : (x : Option Item) → slice_get tree place ≡ x →
        option_and_then (occurrence_of (spot_before tree place)) x ≡ Some o → o.place ≡ place
    by None there is = absurd (none-some o is)
    by (Some x) there is =
        let l : place < length tree = slice_get_within tree place x there in
        let a : o.place ≡ (spot_before tree place).place = occurrence_place (spot_before tree place) x o is in
        let b : (spot_before tree place).place ≡ 0 + place = spot-place start tree place l in
        omega (arith, a, b)

-- a name that denotes a global has its symbol
global-name : (kind : ModuleKind) (all : List Declared) (o : Occurrence) (x : Text) →
    denoted_of BySymbol kind all o ≡ Global x →
    (o.sym ≡ x) ×
    (find (λ scope. binds all scope (name_of BySymbol o.sym o.ctxt)) (scopes_around kind o.path) ≡ None)
global-name kind all o x e = by (declaration_of BySymbol kind o) e
  where
    found : (s : Option Scope) → bound_in (name_of BySymbol o.sym o.ctxt) s ≡ Global x →
        (o.sym ≡ x) × (s ≡ None)
    found None is = (cc, refl)
    found (Some s) is = absurd cc

    by : (d : Option Declared) →
        own_or_found all
        (denoted_in BySymbol all (scopes_around kind o.path) (name_of BySymbol o.sym o.ctxt)) d
        ≡
        Global x →
        (o.sym ≡ x) ×
        (find (λ scope. binds all scope (name_of BySymbol o.sym o.ctxt)) (scopes_around kind o.path) ≡ None)
    by None is =
        found
        (find (λ scope. binds all scope (name_of BySymbol o.sym o.ctxt)) (scopes_around kind o.path))
        is
    by (Some d) is = absurd cc

-- what is denoted at a place, by its occurrence
denoted-occurs : (kind : ModuleKind) (tree : List Item) (place : ℕ) (d : Denoted) →
    denoted_at BySymbol kind tree place ≡ Some d →
    (o : Occurrence) × (occurrence_at tree place ≡ Some o) ×
    (denoted_of BySymbol kind (declared BySymbol kind tree) o ≡ d)
denoted-occurs kind tree place d e = by (occurrence_at tree place) refl e
  where
    by : (o : Option Occurrence) → occurrence_at tree place ≡ o →
        option_map (denoted_of BySymbol kind (declared BySymbol kind tree)) o ≡ Some d →
        (o : Occurrence) × (occurrence_at tree place ≡ Some o) ×
        (denoted_of BySymbol kind (declared BySymbol kind tree) o ≡ d)
    by None there is = absurd (none-some d is)
    by (Some o) there is = (o, there, same_Some _ d is)

-- a name that is free nowhere
pub free-nowhere : (tree : List Item) (x : Text) → has_free tree x ≡ false → (place : ℕ) →
    denoted_at BySymbol Es tree place ≡ Some (Global x) → ⊥
free-nowhere tree x none_free place e =
    let o = denoted-occurs Es tree place (Global x) e in
    let its_sym : o.0.sym ≡ x = (global-name Es (declared BySymbol Es tree) o.0 x o.2).0 in
    let its_place : o.0.place ≡ place = occurrence-place tree place o.0 o.1 in
    let test : (bytes_eq x o.0.sym && is_free tree o.0.place) ≡ true = ap₂ (λ (a : Bool) (b : Bool). a && b) ((bytes_eq-Decides x o.0.sym).1 (sym its_sym)) (ap (is_free tree) its_place ∙ ap is_global e) in
    false≢true (sym none_free ∙ occurs (λ o. bytes_eq x o.sym && is_free tree o.place) start tree place o.0 o.1 test)

-- in a CommonJS module `arguments` is its function's
find-behind : (q : Scope → Bool) (xs ys : List Scope) → find q (xs ++ ys) ≡ None → find q ys ≡ None
find-behind q [] ys e = e
find-behind q (x ∷ xs) ys e = by (q x) e (λ is. find-behind q xs ys is)
  where
    by : (t : Bool) → cond t (Some x) (find q (xs ++ ys)) ≡ None →
        (find q (xs ++ ys) ≡ None → find q ys ≡ None) → find q ys ≡ None
    by true is rest = absurd (none-some x (sym is))
    by false is rest = rest is

wrapper-passed : (q : Scope → Bool) (path : List Around) → find q (scopes_around Cjs path) ≡ None →
    q Wrapper ≡ false
wrapper-passed q [] e = by (q Top) (q Wrapper) e
  where
    by : (t u : Bool) →
        ◌≡◌ {A = Option Scope} (cond t (Some Top) (cond u (Some Wrapper) None)) None → u ≡ false
    by true u is = absurd (none-some Top (sym is))
    by false true is = absurd (none-some Wrapper (sym is))
    by false false is = refl
wrapper-passed q (node ∷ outer) e =
    wrapper-passed q outer
    (find-behind q (scope_at node.begins (kind_of_scope node.head node.field outer)) (scopes_around Cjs outer) e)

pub arguments-bound : (tree : List Item) (place : ℕ) →
    denoted_at BySymbol Cjs tree place ≡ Some (Global (codes "arguments")) → ⊥
arguments-bound tree place e =
    let o = denoted-occurs Cjs tree place (Global (codes "arguments")) e in
    let g = global-name Cjs (declared BySymbol Cjs tree) o.0 (codes "arguments") o.2 in
    let passed : binds (declared BySymbol Cjs tree) Wrapper (name_of BySymbol o.0.sym o.0.ctxt) ≡ false = wrapper-passed (λ scope. binds (declared BySymbol Cjs tree) scope (name_of BySymbol o.0.sym o.0.ctxt)) o.0.path g.1 in
    let its : binds (declared BySymbol Cjs tree) Wrapper (record { sym = codes "arguments"; ctxt = None }) ≡ false = ap (λ x. binds (declared BySymbol Cjs tree) Wrapper (record { sym = x; ctxt = None })) (sym g.0) ∙ passed in
    by (declares (declared BySymbol Cjs tree) Wrapper (record { sym = codes "arguments"; ctxt = None })) its
  where
    by : (t : Bool) → (t || (true && (true && not t))) ≡ false → ⊥
    by true is = false≢true (sym is)
    by false is = false≢true (sym is)
