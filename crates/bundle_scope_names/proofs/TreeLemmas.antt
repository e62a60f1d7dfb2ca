-- Two lists of one shape: their occurrences and declarations.
-- What each occurrence denotes once contexts are given by a numbering.
-- No node makes two scopes: among the scopes that occurrences denote, those of one order are the same.
-- A numbering that tells bindings apart makes a tree resolved, and each name denotes what it denoted by its symbol.
use Rattle.std.proofs.Common.{◌≡◌, ℕ, zero, suc, Bool, true, false, cond, not, List, [], ◌∷◌, Option, Some, None, option_map, option_and_then, map, codes, refl, ap, sym, ◌∙◌, subst, ◌≢◌, ◌&&◌, ◌++◌, slice_get, find, bytes_eq, eq-eqb, ◌≤◌, ◌==◌, unwrap_or, ne_eqb, arith, ◌↔◌}
use Rattle.std.specs.List.{cons_option}
use Rattle.std.proofs.lemmas.Option.{none-some, same_Some, slice_get-map}
use Rattle.std.proofs.lemmas.Bool.{false≢true, and_parts, and_from}
use Rattle.std.proofs.lemmas.Slice.Eq.{bytes_eq-Decides}
use Rattle.std.specs.Prelude.{⊤}
use Rattle.bundle_syntax.specs.declared.kind.VarDeclKind.{VarDeclKind}
use Rattle.bundle_syntax.specs.declared.piece.Role.{Role}
use Rattle.bundle_syntax.specs.Item as h
use Rattle.bundle_syntax.specs.Item.{Item, Head}
use Rattle.bundle_syntax.specs.declared.kind.VarDeclKind.TheVariants as v
use Rattle.bundle_syntax.specs.declared.piece.Role.TheVariants
use Rattle.bundle_rules.specs.Places.{Around, Spot, past, start, Occurrence, occurrence_of, occurrences_from, occurrences, is_binding, in_field, outer_path, occurrence_at}
use Rattle.bundle_rules.specs.Scopes.{ModuleKind, Es, Cjs, scopes_around, is_default, Scope, scope_order, same_scope, ScopeKind, Parameters, ArrowParameters, FunctionBody, Block, Loop, Catch, FunctionName, ClassName, Wrapper, Top, Inner, block_kind, kind_of_scope, scope_at}
use Rattle.bundle_rules.specs.Declarations.{Way, ByDefault, Reading, BySymbol, ByContext, name_of, Declared, is_pattern, way_of, way_in, way_of_declarator, way_of_variable, way_of_kind, heads_loop, is_nameless_default, declared_by, declaration_of, nameless_default, declared_at, declared_from, wrapper_parameter, declared, Name, wrapper_parameters}
use Rattle.bundle_rules.specs.Homes.{home_of, binds, takes, from_taker, nearest, taker, parameters_of, joins_parameter, home_beside, is_function, is_arguments}
use Rattle.bundle_rules.specs.Denotes.{Denoted, Bound, bound_in, denoted_by_symbol, denoted_by_context, denoted_in, own_or_found, denoted_of, denotations, Global, denoted_at, SameIdent, by_symbol, IsResolutionOf}
use Rattle.bundle_rules.proofs.PlacesLemmas.{occurrence_at-listed}
use Rattle.bundle_scope_names.proofs.Numbering.{is_identified, without_context, without_contexts, Numbering, context_of, lifted, lift_all, is_written, given, IsNumbered}
use Rattle.bundle_scope_names.proofs.HomesLemmas.{Each, list_any-here, list_any-found, find-nothing, IsBySymbol, home-lifted, same_order, bytes_same as same_symbol}
use Rattle.bundle_scope_names.proofs.FoundLemmas as found
use Rattle.bundle_scope_names.proofs.FoundLemmas.{plain, reference-given, arguments-bind}

-- ---- tree

-- Elements that are the same but for a context, and lists of such.
pub data IsLike : Item → Item → Type 0 where
  Same : (item : Item) → IsLike item item
  Named : (field : ℕ) (x : List ℕ) (c c2 : ℕ) (role : Role) → IsLike (h.Ident field x c role) (h.Ident field x c2 role)

pub data AreLike : List Item → List Item → Type 0 where
  Done : AreLike [] []
  More : {x y : Item} {xs ys : List Item} → IsLike x y → AreLike xs ys → AreLike (x ∷ xs) (y ∷ ys)

-- equal elements but for contexts
like_from : (x y : Item) → without_context x ≡ without_context y → IsLike x y
like_from (h.Ident field sym ctxt role) (h.Ident field2 sym2 ctxt2 role2) e = let is : h.Ident field sym ctxt2 role ≡ h.Ident field2 sym2 ctxt2 role2 = cc in subst (IsLike (h.Ident field sym ctxt role)) is (Named field sym ctxt ctxt2 role)
like_from (h.Ident field sym ctxt role) (h.Open field2 head) e = absurd cc
like_from (h.Ident field sym ctxt role) (h.Hole field2) e = absurd cc
like_from (h.Ident field sym ctxt role) h.Close e = absurd cc
like_from (h.Open field head) (h.Ident field2 sym2 ctxt2 role2) e = absurd cc
like_from (h.Hole field) (h.Ident field2 sym2 ctxt2 role2) e = absurd cc
like_from h.Close (h.Ident field2 sym2 ctxt2 role2) e = absurd cc
like_from (h.Open field head) (h.Open field2 head2) e = subst (IsLike (h.Open field head)) e (Same (h.Open field head))
like_from (h.Open field head) (h.Hole field2) e = absurd cc
like_from (h.Open field head) h.Close e = absurd cc
like_from (h.Hole field) (h.Open field2 head) e = absurd cc
like_from (h.Hole field) (h.Hole field2) e = subst (IsLike (h.Hole field)) e (Same (h.Hole field))
like_from (h.Hole field) h.Close e = absurd cc
like_from h.Close (h.Open field head) e = absurd cc
like_from h.Close (h.Hole field) e = absurd cc
like_from h.Close h.Close e = Same h.Close

pub alike_from : (xs ys : List Item) → without_contexts xs ≡ without_contexts ys → AreLike xs ys
alike_from [] [] e = Done
alike_from [] (y ∷ ys) e = absurd cc
alike_from (x ∷ xs) [] e = absurd cc
alike_from (x ∷ xs) (y ∷ ys) e = let first : without_context x ≡ without_context y = cc in let later : without_contexts xs ≡ without_contexts ys = cc in More (like_from x y first) (alike_from xs ys later)

-- an occurrence with another context
abbrev pub with_ctxt : ℕ → Occurrence → Occurrence
with_ctxt c o = record o { ctxt = c }

-- an element's occurrence
like-occurrence : {x y : Item} → IsLike x y → (spot : Spot) → (c : ℕ) × (occurrence_of spot y ≡ option_map (with_ctxt c) (occurrence_of spot x))
like-occurrence (Same item) spot = by_occurrence (occurrence_of spot item)
  where
    by_occurrence : (o : Option Occurrence) → (c : ℕ) × (o ≡ option_map (with_ctxt c) o)
    by_occurrence None = (0, refl)
    by_occurrence (Some o) = (o.ctxt, refl)
like-occurrence (Named field x c c2 TheVariants.Word) spot = (0, refl)
like-occurrence (Named field x c c2 TheVariants.Binding) spot = (c2, refl)
like-occurrence (Named field x c c2 TheVariants.Reference) spot = (c2, refl)

pub like-past : {x y : Item} → IsLike x y → (spot : Spot) → past spot y ≡ past spot x
like-past (Same item) spot = refl
like-past (Named field x c c2 role) spot = refl

-- whether these begin with a node and a name in it
abbrev starts_named : List Item → Bool
starts_named (h.Open inner head ∷ h.Ident first sym ctxt role ∷ rest) = true
starts_named _ = false

-- whether a default export has no name
abbrev nameless_by : Item → Bool → Bool
nameless_by (h.Open field h.ExportDefaultExpr) named = true
nameless_by (h.Open field h.ExportDefaultDecl) named = not named
nameless_by _ named = false

declaration_by : (field : ℕ) (rest : List Item) → is_nameless_default (h.Open field h.ExportDefaultDecl) rest ≡ not (starts_named rest)
declaration_by field [] = refl
declaration_by field (h.Ident a b c d ∷ rest) = refl
declaration_by field (h.Hole a ∷ rest) = refl
declaration_by field (h.Close ∷ rest) = refl
declaration_by field (h.Open a b ∷ []) = refl
declaration_by field (h.Open a b ∷ h.Ident c d e f ∷ rest) = refl
declaration_by field (h.Open a b ∷ h.Open c d ∷ rest) = refl
declaration_by field (h.Open a b ∷ h.Hole c ∷ rest) = refl
declaration_by field (h.Open a b ∷ h.Close ∷ rest) = refl

nameless-by : (x : Item) (rest : List Item) → is_nameless_default x rest ≡ nameless_by x (starts_named rest)
nameless-by (h.Open field h.ExportDefaultDecl) rest = declaration_by field rest
nameless-by x rest = refl

starts-like : {xs ys : List Item} → AreLike xs ys → starts_named ys ≡ starts_named xs
starts-like Done = refl
starts-like (More (Named field x c c2 role) rest) = refl
starts-like (More (Same (h.Ident a b c d)) rest) = refl
starts-like (More (Same (h.Hole a)) rest) = refl
starts-like (More (Same h.Close) rest) = refl
starts-like (More (Same (h.Open field head)) Done) = refl
starts-like (More (Same (h.Open field head)) (More (Named a b c d e) rest)) = refl
starts-like (More (Same (h.Open field head)) (More (Same (h.Ident a b c d)) rest)) = refl
starts-like (More (Same (h.Open field head)) (More (Same (h.Open a b)) rest)) = refl
starts-like (More (Same (h.Open field head)) (More (Same (h.Hole a)) rest)) = refl
starts-like (More (Same (h.Open field head)) (More (Same h.Close) rest)) = refl

first-like : {x y : Item} → IsLike x y → (named : Bool) → nameless_by y named ≡ nameless_by x named
first-like (Same item) named = refl
first-like (Named field x c c2 role) named = refl

nameless-like : {x y : Item} {xs ys : List Item} → IsLike x y → AreLike xs ys → is_nameless_default y ys ≡ is_nameless_default x xs
nameless-like {x = x} {y = y} {xs = xs} {ys = ys} first rest = nameless-by y ys ∙ ap (nameless_by y) (starts-like rest) ∙ first-like first (starts_named xs) ∙ sym (nameless-by x xs)

-- The occurrences of a list, where the contexts of the other are known.
abbrev pub ctxts : List Occurrence → List ℕ
ctxts os = map (λ (o : Occurrence). o.ctxt) os

-- an occurrence with the context that it has to have
abbrev pub set_by : (Occurrence → ℕ) → Occurrence → Occurrence
set_by g o = record o { ctxt = g o }

-- a step: the occurrence of an element, and that the rest is so too
step : (g : Occurrence → ℕ) (first second : Option Occurrence) (c : ℕ) (xs ys : List Occurrence) → second ≡ option_map (with_ctxt c) first → ctxts (cons_option second ys) ≡ map g (cons_option first xs) → (second ≡ option_map (set_by g) first) × (ctxts ys ≡ map g xs)
step g None second c xs ys e all = (e, sym (ap (λ o. ctxts (cons_option o ys)) e) ∙ all)
step g (Some o) second c xs ys e all =
    let whole : c ∷ ctxts ys ≡ g o ∷ map g xs = sym (ap (λ p. ctxts (cons_option p ys)) e) ∙ all in
    let here : c ≡ g o = cc in
    let later : ctxts ys ≡ map g xs = cc in
    (e ∙ ap (λ n. Some (with_ctxt n o)) here, later)

pub cons_option-map : {A B : Type 0} (f : A → B) (first : Option A) (xs : List A) → cons_option (option_map f first) (map f xs) ≡ map f (cons_option first xs)
cons_option-map f None xs = refl
cons_option-map f (Some x) xs = refl

pub occurrences-like : (g : Occurrence → ℕ) (spot : Spot) {xs ys : List Item} → AreLike xs ys → ctxts (occurrences_from spot ys) ≡ map g (occurrences_from spot xs) → occurrences_from spot ys ≡ map (set_by g) (occurrences_from spot xs)
occurrences-like g spot Done e = refl
occurrences-like g spot (More {x = x} {y = y} {xs = xs} {ys = ys} first rest) e =
    let behind : past spot y ≡ past spot x = like-past first spot in
    let same = like-occurrence first spot in
    let now = step g (occurrence_of spot x) (occurrence_of spot y) same.0 (occurrences_from (past spot x) xs) (occurrences_from (past spot x) ys) same.1 (sym (ap (λ s. ctxts (cons_option (occurrence_of spot y) (occurrences_from s ys))) behind) ∙ e) in
    ap (λ s. cons_option (occurrence_of spot y) (occurrences_from s ys)) behind
    ∙ ap (λ o. cons_option o (occurrences_from (past spot x) ys)) now.0
    ∙ ap (cons_option (option_map (set_by g) (occurrence_of spot x))) (occurrences-like g (past spot x) rest now.1)
    ∙ cons_option-map (set_by g) (occurrence_of spot x) (occurrences_from (past spot x) xs)

-- The declarations of a list, likewise.

-- what an element declares
declared_at-like : (g : Occurrence → ℕ) (lift : Declared → Declared) (kind : ModuleKind) → ((o : Occurrence) → declaration_of ByContext kind (set_by g o) ≡ option_map lift (declaration_of BySymbol kind o)) → ((place : ℕ) → lift (nameless_default kind place) ≡ nameless_default kind place) → (place : ℕ) (nameless : Bool) (first second : Option Occurrence) → second ≡ option_map (set_by g) first → cond nameless (Some (nameless_default kind place)) (option_and_then (declaration_of ByContext kind) second) ≡ option_map lift (cond nameless (Some (nameless_default kind place)) (option_and_then (declaration_of BySymbol kind) first))
declared_at-like g lift kind names defaults place true first second e = ap Some (sym (defaults place))
declared_at-like g lift kind names defaults place false None second e = ap (option_and_then (declaration_of ByContext kind)) e
declared_at-like g lift kind names defaults place false (Some o) second e = ap (option_and_then (declaration_of ByContext kind)) e ∙ names o

pub declared-like : (g : Occurrence → ℕ) (lift : Declared → Declared) (kind : ModuleKind) → ((o : Occurrence) → declaration_of ByContext kind (set_by g o) ≡ option_map lift (declaration_of BySymbol kind o)) → ((place : ℕ) → lift (nameless_default kind place) ≡ nameless_default kind place) → (spot : Spot) {xs ys : List Item} → AreLike xs ys → ctxts (occurrences_from spot ys) ≡ map g (occurrences_from spot xs) → declared_from ByContext kind spot ys ≡ map lift (declared_from BySymbol kind spot xs)
declared-like g lift kind names defaults spot Done e = refl
declared-like g lift kind names defaults spot (More {x = x} {y = y} {xs = xs} {ys = ys} first rest) e =
    let behind : past spot y ≡ past spot x = like-past first spot in
    let same = like-occurrence first spot in
    let now = step g (occurrence_of spot x) (occurrence_of spot y) same.0 (occurrences_from (past spot x) xs) (occurrences_from (past spot x) ys) same.1 (sym (ap (λ s. ctxts (cons_option (occurrence_of spot y) (occurrences_from s ys))) behind) ∙ e) in
    let here : declared_at ByContext kind spot y ys ≡ option_map lift (declared_at BySymbol kind spot x xs) =
    ap (λ b. cond b (Some (nameless_default kind spot.place)) (option_and_then (declaration_of ByContext kind) (occurrence_of spot y))) (nameless-like first rest)
    ∙ declared_at-like g lift kind names defaults spot.place (is_nameless_default x xs) (occurrence_of spot x) (occurrence_of spot y) now.0 in
    ap (λ s. cons_option (declared_at ByContext kind spot y ys) (declared_from ByContext kind s ys)) behind
    ∙ ap (λ d. cons_option d (declared_from ByContext kind (past spot x) ys)) here
    ∙ ap (cons_option (option_map lift (declared_at BySymbol kind spot x xs))) (declared-like g lift kind names defaults (past spot x) rest now.1)
    ∙ cons_option-map lift (declared_at BySymbol kind spot x xs) (declared_from BySymbol kind (past spot x) xs)

-- An identifier declares in the way of one.
abbrev identified : Option Way → Bool
identified None = true
identified (Some way) = is_identified way

identified-cond : (b : Bool) (one other : Way) → is_identified one ≡ true → is_identified other ≡ true → is_identified (cond b one other) ≡ true
identified-cond true one other e g = e
identified-cond false one other e g = g

kind-identified : (kind : VarDeclKind) (outer : List Around) → is_identified (way_of_kind kind outer) ≡ true
kind-identified v.Var outer = refl
kind-identified v.Let outer = identified-cond (heads_loop outer) _ _ refl refl
kind-identified v.Const outer = identified-cond (heads_loop outer) _ _ refl refl

variable-identified : (head : Head) (outer : List Around) → identified (way_of_variable head outer) ≡ true
variable-identified (h.VarDecl kind meta) outer = kind-identified kind outer
variable-identified _ outer = refl

declarator-identified : (outer : List Around) → identified (way_of_declarator outer) ≡ true
declarator-identified [] = refl
declarator-identified (node ∷ outer) = variable-identified node.head outer

way_in-identified : (head : Head) (outer : List Around) → identified (way_in head outer) ≡ true
way_in-identified h.VarDeclarator outer = declarator-identified outer
way_in-identified h.FnExpr outer = identified-cond (is_default outer) _ _ refl refl
way_in-identified h.ClassExpr outer = identified-cond (is_default outer) _ _ refl refl
way_in-identified _ outer = refl

way_of-identified : (path : List Around) → identified (way_of path) ≡ true
way_of-identified [] = refl
way_of-identified (node ∷ outer) = by_pattern (is_pattern node.head) (way_of-identified outer) (way_in-identified node.head outer)
  where
    by_pattern : (b : Bool) → identified (way_of outer) ≡ true → identified (way_in node.head outer) ≡ true → identified (cond b (way_of outer) (way_in node.head outer)) ≡ true
    by_pattern true e g = e
    by_pattern false e g = g

pub way-identified : (path : List Around) (way : Way) → way_of path ≡ Some way → is_identified way ≡ true
way-identified path way e = ap identified (sym e) ∙ way_of-identified path

-- What an identifier declares, by its way.
abbrev pub declaration_by_way : ModuleKind → Occurrence → Way → Declared
declaration_by_way kind o way = record { place = o.place; name = record { sym = o.sym; ctxt = None }; by = way; scopes = scopes_around kind o.path }

pub data DeclaresOrNot (kind : ModuleKind) (o : Occurrence) : Type 0 where
  DoesNot : ((reading : Reading) (c : ℕ) → declaration_of reading kind (with_ctxt c o) ≡ None) → DeclaresOrNot kind o
  Does : (way : Way) → is_identified way ≡ true → declaration_of BySymbol kind o ≡ Some (declaration_by_way kind o way) → ((c : ℕ) → declaration_of ByContext kind (with_ctxt c o) ≡ Some (record { place = o.place; name = record { sym = o.sym; ctxt = Some c }; by = way; scopes = scopes_around kind o.path })) → DeclaresOrNot kind o

pub declares_or_not : (kind : ModuleKind) (o : Occurrence) → DeclaresOrNot kind o
declares_or_not kind o = by_both (is_binding o.role) refl (way_of o.path) refl
  where
    by_both : (b : Bool) → is_binding o.role ≡ b → (w : Option Way) → way_of o.path ≡ w → DeclaresOrNot kind o
    by_both false e w g = DoesNot (λ reading c. ap (λ b. cond b (declared_by o.place (name_of reading o.sym c) (scopes_around kind o.path) (way_of o.path)) None) e)
    by_both true e None g = DoesNot (λ reading c. ap (λ b. cond b (declared_by o.place (name_of reading o.sym c) (scopes_around kind o.path) (way_of o.path)) None) e ∙ ap (declared_by o.place (name_of reading o.sym c) (scopes_around kind o.path)) g)
    by_both true e (Some way) g =
        Does way (way-identified o.path way g)
        (ap (λ b. cond b (declared_by o.place (name_of BySymbol o.sym o.ctxt) (scopes_around kind o.path) (way_of o.path)) None) e ∙ ap (declared_by o.place (name_of BySymbol o.sym o.ctxt) (scopes_around kind o.path)) g)
        (λ c. ap (λ b. cond b (declared_by o.place (name_of ByContext o.sym c) (scopes_around kind o.path) (way_of o.path)) None) e ∙ ap (declared_by o.place (name_of ByContext o.sym c) (scopes_around kind o.path)) g)

-- Elements that may be put first.
pub each-first : {A : Type 0} (P : A → Type 0) (first : Option A) (xs : List A) → Each P (cons_option first xs) → (x : A) → first ≡ Some x → P x
each-first P None xs each x e = absurd (none-some x e)
each-first P (Some y) xs each x e = each 0 x e

pub each-later : {A : Type 0} (P : A → Type 0) (first : Option A) (xs : List A) → Each P (cons_option first xs) → Each P xs
each-later P None xs each i x e = each i x e
each-later P (Some y) xs each i x e = each (suc i) x e

pub each-cons : {A : Type 0} (P : A → Type 0) (first : Option A) (xs : List A) → ((x : A) → first ≡ Some x → P x) → Each P xs → Each P (cons_option first xs)
each-cons P None xs here later i x e = later i x e
each-cons P (Some y) xs here later zero x e = here x e
each-cons P (Some y) xs here later (suc i) x e = later i x e

each-none : {A : Type 0} (P : A → Type 0) → Each P []
each-none P i x e = absurd (none-some x e)

-- each declaration has what an occurrence's or a nameless default's has
each-declared_from : (P : Declared → Type 0) (Q : Occurrence → Type 0) (reading : Reading) (kind : ModuleKind) → ((place : ℕ) → P (nameless_default kind place)) → ((o : Occurrence) (d : Declared) → Q o → declaration_of reading kind o ≡ Some d → P d) → (spot : Spot) (items : List Item) → Each Q (occurrences_from spot items) → Each P (declared_from reading kind spot items)
each-declared_from P Q reading kind defaults names spot [] each = each-none P
each-declared_from P Q reading kind defaults names spot (item ∷ rest) each = each-cons P (declared_at reading kind spot item rest) (declared_from reading kind (past spot item) rest) (here (is_nameless_default item rest) (occurrence_of spot item) (each-first Q (occurrence_of spot item) (occurrences_from (past spot item) rest) each)) (each-declared_from P Q reading kind defaults names (past spot item) rest (each-later Q (occurrence_of spot item) (occurrences_from (past spot item) rest) each))
  where
    here : (nameless : Bool) (first : Option Occurrence) → ((o : Occurrence) → first ≡ Some o → Q o) → (d : Declared) → cond nameless (Some (nameless_default kind spot.place)) (option_and_then (declaration_of reading kind) first) ≡ Some d → P d
    here true first has d e = subst P (same_Some _ d e) (defaults spot.place)
    here false None has d e = absurd (none-some d e)
    here false (Some o) has d e = names o d (has o refl) e

pub each-declared : (P : Declared → Type 0) (Q : Occurrence → Type 0) (reading : Reading) (kind : ModuleKind) → ((x : List ℕ) → P (wrapper_parameter x)) → ((place : ℕ) → P (nameless_default kind place)) → ((o : Occurrence) (d : Declared) → Q o → declaration_of reading kind o ≡ Some d → P d) → (items : List Item) → Each Q (occurrences items) → Each P (declared reading kind items)
each-declared P Q reading Es wrappers defaults names items each = each-declared_from P Q reading Es defaults names start items each
each-declared P Q reading Cjs wrappers defaults names items each = each-cons P (Some (wrapper_parameter (codes "module"))) (wrapper_parameter (codes "exports") ∷ declared_from reading Cjs start items) (λ d e. subst P (same_Some _ d e) (wrappers (codes "module"))) (each-cons P (Some (wrapper_parameter (codes "exports"))) (declared_from reading Cjs start items) (λ d e. subst P (same_Some _ d e) (wrappers (codes "exports"))) (each-declared_from P Q reading Cjs defaults names start items each))

-- what an occurrence declares is declared
each-occurrence_from : (P : Declared → Type 0) (reading : Reading) (kind : ModuleKind) (spot : Spot) (items : List Item) → Each P (declared_from reading kind spot items) → Each (λ (o : Occurrence). (d : Declared) → declaration_of reading kind o ≡ Some d → P d) (occurrences_from spot items)
each-occurrence_from P reading kind spot [] each = each-none (λ (o : Occurrence). (d : Declared) → declaration_of reading kind o ≡ Some d → P d)
each-occurrence_from P reading kind spot (item ∷ rest) each = each-cons (λ (o : Occurrence). (d : Declared) → declaration_of reading kind o ≡ Some d → P d) (occurrence_of spot item) (occurrences_from (past spot item) rest) (here item (each-first P (declared_at reading kind spot item rest) (declared_from reading kind (past spot item) rest) each)) (each-occurrence_from P reading kind (past spot item) rest (each-later P (declared_at reading kind spot item rest) (declared_from reading kind (past spot item) rest) each))
  where
    here : (first : Item) → ((d : Declared) → declared_at reading kind spot first rest ≡ Some d → P d) → (o : Occurrence) → occurrence_of spot first ≡ Some o → (d : Declared) → declaration_of reading kind o ≡ Some d → P d
    here (h.Open field head) has o e d g = absurd (none-some o e)
    here (h.Hole field) has o e d g = absurd (none-some o e)
    here h.Close has o e d g = absurd (none-some o e)
    here (h.Ident field x c role) has o e d g = has d (ap (option_and_then (declaration_of reading kind)) e ∙ g)

pub each-occurrence : (P : Declared → Type 0) (reading : Reading) (kind : ModuleKind) (items : List Item) → Each P (declared reading kind items) → Each (λ (o : Occurrence). (d : Declared) → declaration_of reading kind o ≡ Some d → P d) (occurrences items)
each-occurrence P reading Es items each = each-occurrence_from P reading Es start items each
each-occurrence P reading Cjs items each = each-occurrence_from P reading Cjs start items (each-later P (Some (wrapper_parameter (codes "exports"))) (declared_from reading Cjs start items) (each-later P (Some (wrapper_parameter (codes "module"))) (wrapper_parameter (codes "exports") ∷ declared_from reading Cjs start items) each))

-- declarations that are read by symbol
pub declared-by_symbol : (kind : ModuleKind) (items : List Item) → Each IsBySymbol (declared BySymbol kind items)
declared-by_symbol kind items = each-declared IsBySymbol (λ o. Way) BySymbol kind (λ x. refl) (λ place. refl) (λ o d _ e. names o d e (declares_or_not kind o)) items (λ i o e. ByDefault)
  where
    names : (o : Occurrence) (d : Declared) → declaration_of BySymbol kind o ≡ Some d → DeclaresOrNot kind o → d.name.ctxt ≡ None
    names o d e (DoesNot never) = absurd (none-some d (sym (never BySymbol o.ctxt) ∙ e))
    names o d e (Does way known is later) = ap (λ (z : Declared). z.name.ctxt) (sym (same_Some _ d (sym is ∙ e)))

-- ---- given

-- what an occurrence denotes by its symbol, and the context that it is given
abbrev pub by_its_symbol : ModuleKind → List Declared → Occurrence → Denoted
by_its_symbol kind all o = denoted_of BySymbol kind all o

abbrev pub its_context : Numbering → ModuleKind → List Declared → Occurrence → ℕ
its_context f kind all o = context_of f (denoted_of BySymbol kind all o)

-- what an identifier declares
pub declaration-given : (f : Numbering) (kind : ModuleKind) (all : List Declared) (o : Occurrence) → declaration_of ByContext kind (set_by (its_context f kind all) o) ≡ option_map (lifted f all) (declaration_of BySymbol kind o)
declaration-given f kind all o = by_cases (declares_or_not kind o)
  where
    by_cases : DeclaresOrNot kind o → declaration_of ByContext kind (set_by (its_context f kind all) o) ≡ option_map (lifted f all) (declaration_of BySymbol kind o)
    by_cases (DoesNot never) = never ByContext (its_context f kind all o) ∙ sym (ap (option_map (lifted f all)) (never BySymbol o.ctxt))
    by_cases (Does way known is later) =
        let d : Declared = declaration_by_way kind o way in
        let number : its_context f kind all o ≡ f (scope_order (home_of all d)) o.sym = ap (λ x. context_of f (own_or_found all (denoted_in BySymbol all (scopes_around kind o.path) (name_of BySymbol o.sym o.ctxt)) x)) is in
        later (its_context f kind all o)
        ∙ ap (λ (n : ℕ). Some (record d { name = record { sym = o.sym; ctxt = Some n } })) number
        ∙ ap (λ (b : Bool). Some (record d { name = record { sym = o.sym; ctxt = cond b (Some (f (scope_order (home_of all d)) o.sym)) None } })) (sym known)
        ∙ sym (ap (option_map (lifted f all)) is)

-- a list that is mapped twice
pub map-map : {A B C : Type 0} (g : B → C) (k : A → B) (xs : List A) → map g (map k xs) ≡ map (λ x. g (k x)) xs
map-map g k [] = refl
map-map g k (x ∷ xs) = ap (λ ys. g (k x) ∷ ys) (map-map g k xs)

-- a list that is mapped to the same
map-each : {A B : Type 0} (g k : A → B) (xs : List A) → Each (λ x. g x ≡ k x) xs → map g xs ≡ map k xs
map-each g k [] each = refl
map-each g k (x ∷ xs) each = ap (λ y. y ∷ map g xs) (each 0 x refl) ∙ ap (λ ys. k x ∷ ys) (map-each g k xs (λ i y at. each (suc i) y at))

-- all declarations of a tree, read by symbol
abbrev pub plain_declared : ModuleKind → List Item → List Declared
plain_declared kind items = declared BySymbol kind items

-- the identifiers among the declarations are occurrences
declared-occur : (kind : ModuleKind) (all : List Declared) (items : List Item) → Each (λ (d : Declared). is_identified d.by ≡ true → (i : ℕ) × (q : Occurrence) × (slice_get (occurrences items) i ≡ Some q) × (denoted_of BySymbol kind all q ≡ Bound (home_of all d) d.name)) (plain_declared kind items)
declared-occur kind all items = each-declared (λ (d : Declared). is_identified d.by ≡ true → (i : ℕ) × (q : Occurrence) × (slice_get (occurrences items) i ≡ Some q) × (denoted_of BySymbol kind all q ≡ Bound (home_of all d) d.name)) (λ (o : Occurrence). (i : ℕ) × (slice_get (occurrences items) i ≡ Some o)) BySymbol kind (λ x known. absurd (false≢true known)) (λ place known. absurd (false≢true known)) (λ o d at is known. (at.0, o, at.1, ap (own_or_found all (denoted_in BySymbol all (scopes_around kind o.path) (name_of BySymbol o.sym o.ctxt))) is)) items (λ i o e. (i, e))

-- what an identifier declares is written
pub declared-written : (all : List Declared) → Each (λ (d : Declared). is_identified d.by ≡ true → is_written all (home_of all d) d.name.sym ≡ true) all
declared-written all i d at known = list_any-here (λ (e : Declared). is_identified e.by && (same_scope (home_of all e) (home_of all d) && bytes_eq e.name.sym d.name.sym)) all i d at (and_from (is_identified d.by) _ known (and_from (same_scope (home_of all d) (home_of all d)) _ (eq-eqb (scope_order (home_of all d)) _ refl) ((bytes_eq-Decides d.name.sym d.name.sym).1 refl)))

-- the number of an occurrence
pub denotation-at : (kind : ModuleKind) (items : List Item) (i : ℕ) (o : Occurrence) → slice_get (occurrences items) i ≡ Some o → slice_get (denotations BySymbol kind items) i ≡ Some (denoted_of BySymbol kind (plain_declared kind items) o)
denotation-at kind items i o at = slice_get-map (denoted_of BySymbol kind (plain_declared kind items)) (occurrences items) i ∙ ap (option_map (denoted_of BySymbol kind (plain_declared kind items))) at

module _ (f : Numbering) (kind : ModuleKind) (before after : List Item) (n : IsNumbered f kind before after) where
  -- the contexts, occurrences and declarations afterwards
  contexts-are : ctxts (occurrences after) ≡ map (its_context f kind (plain_declared kind before)) (occurrences before)
  contexts-are = n.contexts ∙ map-map (context_of f) (by_its_symbol kind (plain_declared kind before)) (occurrences before)

  pub occurrences-are : occurrences after ≡ map (set_by (its_context f kind (plain_declared kind before))) (occurrences before)
  occurrences-are = occurrences-like (its_context f kind (plain_declared kind before)) start (alike_from before after n.same) contexts-are

  pub declared-are : declared ByContext kind after ≡ lift_all f (plain_declared kind before)
  declared-are = by_kind kind (declared-like (its_context f kind (plain_declared kind before)) (lifted f (plain_declared kind before)) kind (declaration-given f kind (plain_declared kind before)) (λ place. refl) start (alike_from before after n.same) contexts-are)
    where
      by_kind : (k : ModuleKind) → declared_from ByContext kind start after ≡ map (lifted f (plain_declared kind before)) (declared_from BySymbol kind start before) → (wrapper_parameters k ++ declared_from ByContext kind start after) ≡ map (lifted f (plain_declared kind before)) (wrapper_parameters k ++ declared_from BySymbol kind start before)
      by_kind Es e = e
      by_kind Cjs e = ap (λ ds. wrapper_parameter (codes "module") ∷ wrapper_parameter (codes "exports") ∷ ds) e

  -- the premises, of an occurrence
  pub own-at : (i : ℕ) (o : Occurrence) → slice_get (occurrences before) i ≡ Some o → (s : Scope) (m : Name) → by_its_symbol kind (plain_declared kind before) o ≡ Bound s m → f (scope_order s) m.sym ≢ 1
  own-at i o at s m is = n.own i s m (denotation-at kind before i o at ∙ ap Some is)

  pub apart-at : (i j : ℕ) (o q : Occurrence) → slice_get (occurrences before) i ≡ Some o → slice_get (occurrences before) j ≡ Some q → (s t : Scope) (m k : Name) → by_its_symbol kind (plain_declared kind before) o ≡ Bound s m → by_its_symbol kind (plain_declared kind before) q ≡ Bound t k → m.sym ≡ k.sym → f (scope_order s) m.sym ≡ f (scope_order t) k.sym → scope_order s ≡ scope_order t
  apart-at i j o q at there s t m k is its same numbers = n.apart i j s t m k (denotation-at kind before i o at ∙ ap Some is) (denotation-at kind before j q there ∙ ap Some its) same numbers

  -- a binding without an identifier is apart from those that have one
  apart-written : (i : ℕ) (o : Occurrence) → slice_get (occurrences before) i ≡ Some o → (s t : Scope) → by_its_symbol kind (plain_declared kind before) o ≡ Bound s (plain o.sym) → is_written (plain_declared kind before) t o.sym ≡ true → f (scope_order t) o.sym ≡ f (scope_order s) o.sym → scope_order t ≡ scope_order s
  apart-written i o at s t is written numbers =
      let it = list_any-found (λ (d : Declared). is_identified d.by && (same_scope (home_of (plain_declared kind before) d) t && bytes_eq d.name.sym o.sym)) (plain_declared kind before) written in
      let parts = and_parts (is_identified it.1.by) _ it.3 in
      let more = and_parts (same_scope (home_of (plain_declared kind before) it.1) t) _ parts.1 in
      let order : scope_order (home_of (plain_declared kind before) it.1) ≡ scope_order t = same_order (home_of (plain_declared kind before) it.1) t more.0 in
      let symbol : it.1.name.sym ≡ o.sym = same_symbol it.1.name.sym o.sym more.1 in
      let occurs = declared-occur kind (plain_declared kind before) before it.0 it.1 it.2 parts.0 in
      sym order
      ∙ apart-at occurs.0 i occurs.1 o occurs.2 at (home_of (plain_declared kind before) it.1) s it.1.name (plain o.sym) occurs.3 is symbol (ap (λ k. f k it.1.name.sym) order ∙ ap (f (scope_order t)) symbol ∙ numbers)

  -- each occurrence
  pub denoted-given : (i : ℕ) (o : Occurrence) → slice_get (occurrences before) i ≡ Some o → denoted_of ByContext kind (lift_all f (plain_declared kind before)) (set_by (its_context f kind (plain_declared kind before)) o) ≡ given f (plain_declared kind before) (by_its_symbol kind (plain_declared kind before) o)
  denoted-given i o at = by_cases (declares_or_not kind o) (own-at i o at) (apart-written i o at) (each-occurrence (λ (d : Declared). is_identified d.by ≡ true → is_written (plain_declared kind before) (home_of (plain_declared kind before) d) d.name.sym ≡ true) BySymbol kind before (declared-written (plain_declared kind before)) i o at)
    where
      by_cases : DeclaresOrNot kind o → ((s : Scope) (m : Name) → by_its_symbol kind (plain_declared kind before) o ≡ Bound s m → f (scope_order s) m.sym ≢ 1) → ((s t : Scope) → by_its_symbol kind (plain_declared kind before) o ≡ Bound s (plain o.sym) → is_written (plain_declared kind before) t o.sym ≡ true → f (scope_order t) o.sym ≡ f (scope_order s) o.sym → scope_order t ≡ scope_order s) → ((d : Declared) → declaration_of BySymbol kind o ≡ Some d → is_identified d.by ≡ true → is_written (plain_declared kind before) (home_of (plain_declared kind before) d) d.name.sym ≡ true) → denoted_of ByContext kind (lift_all f (plain_declared kind before)) (set_by (its_context f kind (plain_declared kind before)) o) ≡ given f (plain_declared kind before) (by_its_symbol kind (plain_declared kind before) o)
      by_cases (Does way known is later) own apart written =
          let all : List Declared = plain_declared kind before in
          let d : Declared = declaration_by_way kind o way in
          let out : List Scope = scopes_around kind o.path in
          let denotes : by_its_symbol kind all o ≡ Bound (home_of all d) d.name = ap (own_or_found all (denoted_in BySymbol all out (name_of BySymbol o.sym o.ctxt))) is in
          ap (own_or_found (lift_all f all) (denoted_in ByContext (lift_all f all) out (name_of ByContext o.sym (its_context f kind all o)))) (declaration-given f kind all o ∙ ap (option_map (lifted f all)) is)
          ∙ ap (λ home. Bound home (lifted f all d).name) (home-lifted f all d refl)
          ∙ ap (λ b. Bound (home_of all d) (record { sym = o.sym; ctxt = cond b (Some (f (scope_order (home_of all d)) o.sym)) None })) (known ∙ sym (written d is known))
          ∙ sym (ap (given f all) denotes)
      by_cases (DoesNot never) own apart written =
          let all : List Declared = plain_declared kind before in
          let out : List Scope = scopes_around kind o.path in
          let denotes : by_its_symbol kind all o ≡ denoted_by_symbol all out (plain o.sym) = ap (own_or_found all (denoted_in BySymbol all out (name_of BySymbol o.sym o.ctxt))) (never BySymbol o.ctxt) in
          ap (own_or_found (lift_all f all) (denoted_in ByContext (lift_all f all) out (name_of ByContext o.sym (its_context f kind all o)))) (never ByContext (its_context f kind all o))
          ∙ ap (λ x. denoted_by_context (lift_all f all) out (found.with o.sym (context_of f x))) denotes
          ∙ reference-given f all (declared-by_symbol kind before) out o.sym (find (λ s. binds all s (plain o.sym)) out) refl (λ s e. own s (plain o.sym) (denotes ∙ ap (bound_in (plain o.sym)) e)) (λ s t e. apart s t (denotes ∙ ap (bound_in (plain o.sym)) e))
          ∙ sym (ap (given f all) denotes)

  -- all of them
  pub denotations-given : denotations ByContext kind after ≡ map (given f (plain_declared kind before)) (denotations BySymbol kind before)
  denotations-given =
      ap (λ os. map (denoted_of ByContext kind (declared ByContext kind after)) os) occurrences-are
      ∙ ap (λ ds. map (denoted_of ByContext kind ds) (map (set_by (its_context f kind (plain_declared kind before))) (occurrences before))) declared-are
      ∙ map-map (denoted_of ByContext kind (lift_all f (plain_declared kind before))) (set_by (its_context f kind (plain_declared kind before))) (occurrences before)
      ∙ map-each (λ o. denoted_of ByContext kind (lift_all f (plain_declared kind before)) (set_by (its_context f kind (plain_declared kind before)) o)) (λ o. given f (plain_declared kind before) (by_its_symbol kind (plain_declared kind before) o)) (occurrences before) denoted-given
      ∙ sym (map-map (given f (plain_declared kind before)) (by_its_symbol kind (plain_declared kind before)) (occurrences before))

-- ---- kinds

-- the scope that a node may make, by what a block in its place makes
abbrev pub kind_by : Head → ScopeKind → ScopeKind
kind_by (h.Function is_generator is_async) inside = Parameters
kind_by h.Constructor inside = Parameters
kind_by h.GetterProp inside = Parameters
kind_by h.SetterProp inside = Parameters
kind_by (h.ArrowExpr is_async) inside = ArrowParameters
kind_by h.BlockStmt inside = inside
kind_by h.SwitchStmt inside = Block
kind_by h.CatchClause inside = Catch
kind_by h.FnExpr inside = FunctionName
kind_by h.ClassExpr inside = ClassName
kind_by _ inside = Loop

abbrev pub node_kind : Head → List Around → ScopeKind
node_kind head outer = kind_by head (block_kind outer)

-- where a condition gives a scope or none
pub cond-left : (b : Bool) (one k : ScopeKind) → cond b None (Some one) ≡ Some k → one ≡ k
cond-left true one k e = absurd (none-some k e)
cond-left false one k e = same_Some one k e

pub kind-known : (head : Head) (field : ℕ) (outer : List Around) (k : ScopeKind) → kind_of_scope head field outer ≡ Some k → node_kind head outer ≡ k
kind-known (h.Function is_generator is_async) field outer k e = same_Some _ k e
kind-known h.Constructor field outer k e = same_Some _ k e
kind-known h.GetterProp field outer k e = cond-left (field == 0) _ k e
kind-known h.SetterProp field outer k e = cond-left (field == 0) _ k e
kind-known (h.ArrowExpr is_async) field outer k e = same_Some _ k e
kind-known h.BlockStmt field outer k e = same_Some _ k e
kind-known h.SwitchStmt field outer k e = cond-left (field == 0) _ k e
kind-known h.ForStmt field outer k e = same_Some _ k e
kind-known h.ForInStmt field outer k e = same_Some _ k e
kind-known (h.ForOfStmt is_await) field outer k e = same_Some _ k e
kind-known h.CatchClause field outer k e = same_Some _ k e
kind-known h.FnExpr field outer k e = cond-left (is_default outer) _ k e
kind-known h.ClassExpr field outer k e = cond-left (is_default outer) _ k e
kind-known _ field outer k e = absurd (none-some k e)

-- Paths and scopes that agree with what a table says of the node at each place.
abbrev pub Table : Type 0
Table = ℕ → ScopeKind

abbrev pub IsKnown : Table → List Around → Type 0
IsKnown K [] = ⊤
IsKnown K (node ∷ outer) = (node_kind node.head outer ≡ K node.begins) × IsKnown K outer

abbrev pub IsOf : Table → Scope → Type 0
IsOf K Wrapper = ⊤
IsOf K Top = ⊤
IsOf K (Inner kind begins) = kind ≡ K begins

abbrev pub AreOf : Table → List Scope → Type 0
AreOf K [] = ⊤
AreOf K (s ∷ ss) = IsOf K s × AreOf K ss

known-in_field : (K : Table) (field : ℕ) (path : List Around) → IsKnown K path → IsKnown K (in_field field path)
known-in_field K field [] known = known
known-in_field K field (node ∷ outer) known = known

block-in_field : (field : ℕ) (path : List Around) → block_kind (in_field field path) ≡ block_kind path
block-in_field field [] = refl
block-in_field field (node ∷ outer) = refl

-- the scopes around a place
scopes-known : (K : Table) (kind : ModuleKind) (path : List Around) → IsKnown K path → AreOf K (scopes_around kind path)
scopes-known K Es [] known = (tt, tt)
scopes-known K Cjs [] known = (tt, (tt, tt))
scopes-known K kind (node ∷ outer) known = by_kind (kind_of_scope node.head node.field outer) refl (scopes-known K kind outer known.1)
  where
    by_kind : (o : Option ScopeKind) → kind_of_scope node.head node.field outer ≡ o → AreOf K (scopes_around kind outer) → AreOf K (scope_at node.begins o ++ scopes_around kind outer)
    by_kind None e rest = rest
    by_kind (Some k) e rest = (sym (kind-known node.head node.field outer k e) ∙ known.0, rest)

taker-known : (K : Table) (way : Way) (scopes : List Scope) → AreOf K scopes → AreOf K (from_taker way scopes)
taker-known K way [] known = known
taker-known K way (s ∷ ss) known = by_takes (takes way s) (taker-known K way ss known.1)
  where
    by_takes : (b : Bool) → AreOf K (from_taker way ss) → AreOf K (cond b (s ∷ ss) (from_taker way ss))
    by_takes true rest = known
    by_takes false rest = rest

nearest-known : (K : Table) (scopes : List Scope) → AreOf K scopes → IsOf K (unwrap_or (nearest scopes) Top)
nearest-known K [] known = tt
nearest-known K (s ∷ ss) known = known.0

-- what may be a scope
abbrev MayBeOf : Table → Option Scope → Type 0
MayBeOf K None = ⊤
MayBeOf K (Some s) = IsOf K s

next-known : (K : Table) (scopes : List Scope) → AreOf K scopes → MayBeOf K (nearest scopes)
next-known K [] known = tt
next-known K (s ∷ ss) known = known.0

parameters-known : (K : Table) (scopes : List Scope) → AreOf K scopes → MayBeOf K (parameters_of scopes)
parameters-known K (Top ∷ outer) known = next-known K outer known.1
parameters-known K (Inner FunctionBody begins ∷ outer) known = next-known K outer known.1
parameters-known K _ known = tt

beside-known : (K : Table) (all : List Declared) (d : Declared) (o : Option Scope) → MayBeOf K o → IsOf K (taker d) → IsOf K (home_beside all d o)
beside-known K all d None may is = is
beside-known K all d (Some s) may is = by_test _
  where
    by_test : (b : Bool) → IsOf K (cond b s (taker d))
    by_test true = may
    by_test false = is

home-known : (K : Table) (all : List Declared) (d : Declared) → AreOf K d.scopes → IsOf K (home_of all d)
home-known K all d known = by_joins (joins_parameter d.by)
  where
    by_joins : (b : Bool) → IsOf K (cond b (home_beside all d (parameters_of (from_taker d.by d.scopes))) (taker d))
    by_joins true = beside-known K all d (parameters_of (from_taker d.by d.scopes)) (parameters-known K (from_taker d.by d.scopes) (taker-known K d.by d.scopes known)) (nearest-known K (from_taker d.by d.scopes) (taker-known K d.by d.scopes known))
    by_joins false = nearest-known K (from_taker d.by d.scopes) (taker-known K d.by d.scopes known)

find-known : (K : Table) (p : Scope → Bool) (scopes : List Scope) → AreOf K scopes → MayBeOf K (find p scopes)
find-known K p [] known = tt
find-known K p (s ∷ ss) known = by_test (p s) (find-known K p ss known.1)
  where
    by_test : (b : Bool) → MayBeOf K (find p ss) → MayBeOf K (cond b (Some s) (find p ss))
    by_test true rest = known.0
    by_test false rest = rest

-- what an occurrence denotes
abbrev pub DenotesOf : Table → Denoted → Type 0
DenotesOf K (Bound s m) = IsOf K s
DenotesOf K (Global x) = ⊤

bound-known : (K : Table) (x : Name) (o : Option Scope) → MayBeOf K o → DenotesOf K (bound_in x o)
bound-known K x None may = tt
bound-known K x (Some s) may = may

pub denoted-known : (K : Table) (kind : ModuleKind) (all : List Declared) (o : Occurrence) → IsKnown K o.path → DenotesOf K (denoted_of BySymbol kind all o)
denoted-known K kind all o known = by_cases (declares_or_not kind o)
  where
    by_cases : DeclaresOrNot kind o → DenotesOf K (denoted_of BySymbol kind all o)
    by_cases (DoesNot never) = subst (λ d. DenotesOf K (own_or_found all (denoted_in BySymbol all (scopes_around kind o.path) (name_of BySymbol o.sym o.ctxt)) d)) (sym (never BySymbol o.ctxt)) (bound-known K (plain o.sym) _ (find-known K (λ s. binds all s (plain o.sym)) (scopes_around kind o.path) (scopes-known K kind o.path known)))
    by_cases (Does way is_known is later) = subst (λ d. DenotesOf K (own_or_found all (denoted_in BySymbol all (scopes_around kind o.path) (name_of BySymbol o.sym o.ctxt)) d)) (sym is) (home-known K all (declaration_by_way kind o way) (scopes-known K kind o.path known))

-- scopes of one order are the same
pub same-of : (K : Table) (s t : Scope) → IsOf K s → IsOf K t → scope_order s ≡ scope_order t → s ≡ t
same-of K Wrapper Wrapper a b e = refl
same-of K Top Top a b e = refl
same-of K (Inner k m) (Inner l n) a b e = let same : m ≡ n = omega (arith, e) in ap (λ j. Inner j m) (a ∙ ap K same ∙ sym b) ∙ ap (Inner l) same
same-of K Wrapper Top a b e = absurd (omega (arith, e))
same-of K Wrapper (Inner l n) a b e = absurd (omega (arith, e))
same-of K Top Wrapper a b e = absurd (omega (arith, e))
same-of K Top (Inner l n) a b e = absurd (omega (arith, e))
same-of K (Inner k m) Wrapper a b e = absurd (omega (arith, e))
same-of K (Inner k m) Top a b e = absurd (omega (arith, e))

-- The table of a list.
abbrev kind_here : Spot → Item → ScopeKind
kind_here spot (h.Open field head) = node_kind head spot.path
kind_here spot _ = Block

abbrev pub kind_in : Spot → List Item → Table
kind_in spot [] p = Block
kind_in spot (item ∷ rest) p = cond (spot.place == p) (kind_here spot item) (kind_in (past spot item) rest p)

abbrev Agrees : Table → Spot → List Item → Type 0
Agrees K spot [] = ⊤
Agrees K spot (item ∷ rest) = (kind_here spot item ≡ K spot.place) × Agrees K (past spot item) rest

agrees-from : (K : Table) (spot : Spot) (items : List Item) → ((p : ℕ) → spot.place ≤ p → K p ≡ kind_in spot items p) → Agrees K spot items
agrees-from K spot [] is = tt
agrees-from K spot (item ∷ rest) is = (
  sym (is spot.place (omega arith) ∙ ap (λ b. cond b (kind_here spot item) (kind_in (past spot item) rest spot.place)) (eq-eqb spot.place spot.place refl)),
  agrees-from K (past spot item) rest (λ p later. let before : spot.place ≤ p = omega (arith, later) in is p before ∙ ap (λ b. cond b (kind_here spot item) (kind_in (past spot item) rest p)) (ne_eqb spot.place p (λ e. omega (arith, e, later)))),
)

known-past : (K : Table) (spot : Spot) (item : Item) → kind_here spot item ≡ K spot.place → IsKnown K spot.path → IsKnown K (past spot item).path
known-past K spot (h.Open field head) here known = (ap (kind_by head) (block-in_field field spot.path) ∙ here, known-in_field K field spot.path known)
known-past K spot (h.Ident field x c role) here known = known
known-past K spot (h.Hole field) here known = known
known-past K spot h.Close here known = outer spot.path known
  where
    outer : (path : List Around) → IsKnown K path → IsKnown K (outer_path path)
    outer [] it = it
    outer (node ∷ rest) it = it.1

occurrence-known : (K : Table) (spot : Spot) (item : Item) → IsKnown K spot.path → (o : Occurrence) → occurrence_of spot item ≡ Some o → IsKnown K o.path
occurrence-known K spot (h.Open field head) known o e = absurd (none-some o e)
occurrence-known K spot (h.Hole field) known o e = absurd (none-some o e)
occurrence-known K spot h.Close known o e = absurd (none-some o e)
occurrence-known K spot (h.Ident field x c TheVariants.Word) known o e = absurd (none-some o e)
occurrence-known K spot (h.Ident field x c TheVariants.Binding) known o e = subst (λ (q : Occurrence). IsKnown K q.path) (same_Some _ o e) (known-in_field K field spot.path known)
occurrence-known K spot (h.Ident field x c TheVariants.Reference) known o e = subst (λ (q : Occurrence). IsKnown K q.path) (same_Some _ o e) (known-in_field K field spot.path known)

known-from : (K : Table) (spot : Spot) (items : List Item) → Agrees K spot items → IsKnown K spot.path → Each (λ (o : Occurrence). IsKnown K o.path) (occurrences_from spot items)
known-from K spot [] agrees known = λ i o e. absurd (none-some o e)
known-from K spot (item ∷ rest) agrees known = each-cons (λ (o : Occurrence). IsKnown K o.path) (occurrence_of spot item) (occurrences_from (past spot item) rest) (occurrence-known K spot item known) (known-from K (past spot item) rest agrees.1 (known-past K spot item agrees.0 known))

pub occurrences-known : (items : List Item) → Each (λ (o : Occurrence). IsKnown (kind_in start items) o.path) (occurrences items)
occurrences-known items = known-from (kind_in start items) start items (agrees-from (kind_in start items) start items (λ p later. refl)) tt

-- ---- separation

-- what is denoted has the symbol, and is read by it alone
abbrev pub IsFor : List ℕ → Denoted → Type 0
IsFor x (Bound s m) = m ≡ plain x
IsFor x (Global y) = y ≡ x

bound-for : (x : List ℕ) (o : Option Scope) → IsFor x (bound_in (plain x) o)
bound-for x None = refl
bound-for x (Some s) = refl

pub denoted-for : (kind : ModuleKind) (all : List Declared) (o : Occurrence) → IsFor o.sym (denoted_of BySymbol kind all o)
denoted-for kind all o = by_cases (declares_or_not kind o)
  where
    by_cases : DeclaresOrNot kind o → IsFor o.sym (denoted_of BySymbol kind all o)
    by_cases (DoesNot never) = subst (λ d. IsFor o.sym (own_or_found all (denoted_in BySymbol all (scopes_around kind o.path) (name_of BySymbol o.sym o.ctxt)) d)) (sym (never BySymbol o.ctxt)) (bound-for o.sym _)
    by_cases (Does way known is later) = subst (λ d. IsFor o.sym (own_or_found all (denoted_in BySymbol all (scopes_around kind o.path) (name_of BySymbol o.sym o.ctxt)) d)) (sym is) refl

-- what is given, by its symbol, is what was there
given-by_symbol : (f : Numbering) (all : List Declared) (x : List ℕ) (d : Denoted) → IsFor x d → by_symbol (given f all d) ≡ d
given-by_symbol f all x (Bound s m) is = ap (λ k. Bound s (plain k.sym)) is ∙ ap (Bound s) (sym is)
given-by_symbol f all x (Global y) is = refl

-- equal contexts on one symbol come from what is equal
contexts-tell : (f : Numbering) (K : Table) (x y : List ℕ) (d e : Denoted) → x ≡ y → IsFor x d → IsFor y e → DenotesOf K d → DenotesOf K e → ((s : Scope) (m : Name) → d ≡ Bound s m → f (scope_order s) m.sym ≢ 1) → ((s : Scope) (m : Name) → e ≡ Bound s m → f (scope_order s) m.sym ≢ 1) → ((s t : Scope) (m n : Name) → d ≡ Bound s m → e ≡ Bound t n → m.sym ≡ n.sym → f (scope_order s) m.sym ≡ f (scope_order t) n.sym → scope_order s ≡ scope_order t) → context_of f d ≡ context_of f e → d ≡ e
contexts-tell f K x y (Global z) (Global w) same is its known other own owns apart numbers = ap Global (is ∙ same ∙ sym its)
contexts-tell f K x y (Global z) (Bound t n) same is its known other own owns apart numbers = absurd (owns t n refl (sym numbers))
contexts-tell f K x y (Bound s m) (Global w) same is its known other own owns apart numbers = absurd (own s m refl numbers)
contexts-tell f K x y (Bound s m) (Bound t n) same is its known other own owns apart numbers =
    let names : m ≡ n = is ∙ ap plain same ∙ sym its in
    let order = apart s t m n refl refl (ap (λ (k : Name). k.sym) names) numbers in
    ap (λ u. Bound u m) (same-of K s t known other order) ∙ ap (Bound t) names

-- what is given alike has one symbol and one context
given-tells : (f : Numbering) (all : List Declared) (x y : List ℕ) (d e : Denoted) → IsFor x d → IsFor y e → given f all d ≡ given f all e → (x ≡ y) × (context_of f d ≡ context_of f e)
given-tells f all x y (Global z) (Global w) is its same = let names : z ≡ w = cc in (sym is ∙ names ∙ its, refl)
given-tells f all x y (Global z) (Bound t n) is its same = absurd cc
given-tells f all x y (Bound s m) (Global w) is its same = absurd cc
given-tells f all x y (Bound s m) (Bound t n) is its same =
    let symbols : m.sym ≡ n.sym = ap sym_of same in
    let orders : scope_order s ≡ scope_order t = ap order_of same in
    (ap (λ (k : Name). k.sym) (sym is) ∙ symbols ∙ ap (λ (k : Name). k.sym) its, ap (λ k. f k m.sym) orders ∙ ap (f (scope_order t)) symbols)
  where
    sym_of : Denoted → List ℕ
    sym_of (Bound u k) = k.sym
    sym_of (Global z) = []

    order_of : Denoted → ℕ
    order_of (Bound u k) = scope_order u
    order_of (Global z) = 0

-- what is given as a global was one
given-global : (f : Numbering) (all : List Declared) (d : Denoted) (x : List ℕ) → given f all d ≡ Global x → d ≡ Global x
given-global f all (Global y) x e = e
given-global f all (Bound s m) x e = absurd cc

-- where nothing binds `arguments`, no function is around
arguments-unbound : (kind : ModuleKind) (all : List Declared) (o : Occurrence) → denoted_of BySymbol kind all o ≡ Global (codes "arguments") → find is_function (scopes_around kind o.path) ≡ None
arguments-unbound kind all o e = by_cases (declares_or_not kind o) (subst (IsFor o.sym) e (denoted-for kind all o))
  where
    nothing_found : (r : Option Scope) → bound_in (plain o.sym) r ≡ Global (codes "arguments") → r ≡ None
    nothing_found None is = refl
    nothing_found (Some s) is = absurd cc

    by_cases : DeclaresOrNot kind o → codes "arguments" ≡ o.sym → find is_function (scopes_around kind o.path) ≡ None
    by_cases (Does way known is later) symbol = let bound : Bound _ _ ≡ Global (codes "arguments") = sym (ap (own_or_found all (denoted_in BySymbol all (scopes_around kind o.path) (name_of BySymbol o.sym o.ctxt))) is) ∙ e in absurd cc
    by_cases (DoesNot never) symbol =
        let none = nothing_found (find (λ s. binds all s (plain o.sym)) (scopes_around kind o.path)) (sym (ap (own_or_found all (denoted_in BySymbol all (scopes_around kind o.path) (name_of BySymbol o.sym o.ctxt))) (never BySymbol o.ctxt)) ∙ e) in
        find-nothing (λ s. binds all s (plain o.sym)) is_function (λ t fun. arguments-bind all o.sym t (and_from (is_arguments o.sym) _ ((bytes_eq-Decides o.sym (codes "arguments")).1 (sym symbol)) fun)) (scopes_around kind o.path) none

-- what is given to all, by its symbol, is what was there
all-by_symbol : (f : Numbering) (kind : ModuleKind) (all : List Declared) (os : List Occurrence) → map by_symbol (map (given f all) (map (by_its_symbol kind all) os)) ≡ map (by_its_symbol kind all) os
all-by_symbol f kind all [] = refl
all-by_symbol f kind all (o ∷ os) = ap (λ d. d ∷ map by_symbol (map (given f all) (map (by_its_symbol kind all) os))) (given-by_symbol f all o.sym (by_its_symbol kind all o) (denoted-for kind all o)) ∙ ap (λ ds. by_its_symbol kind all o ∷ ds) (all-by_symbol f kind all os)

-- an occurrence afterwards at a place is one from before with its context
pub record Before (f : Numbering) (kind : ModuleKind) (before after : List Item) (p : ℕ) (a : Occurrence) : Type 0 where
  pub i : ℕ
  pub o : Occurrence
  pub at : slice_get (occurrences before) i ≡ Some o
  pub is : a ≡ set_by (its_context f kind (plain_declared kind before)) o
  pub denotes : denoted_at ByContext kind after p ≡ Some (given f (plain_declared kind before) (by_its_symbol kind (plain_declared kind before) o))

module _ (f : Numbering) (kind : ModuleKind) (before after : List Item) (n : IsNumbered f kind before after) where
  before-of : (p : ℕ) (a : Occurrence) → occurrence_at after p ≡ Some a → Before f kind before after p a
  before-of p a e = by_old (slice_get (occurrences before) listed.0) refl (sym (ap (λ os. slice_get os listed.0) (occurrences-are f kind before after n) ∙ slice_get-map (set_by (its_context f kind (plain_declared kind before))) (occurrences before) listed.0) ∙ listed.1)
    where
      listed : (i : ℕ) × (slice_get (occurrences after) i ≡ Some a)
      listed = occurrence_at-listed after p a e

      by_old : (x : Option Occurrence) → slice_get (occurrences before) listed.0 ≡ x → option_map (set_by (its_context f kind (plain_declared kind before))) x ≡ Some a → Before f kind before after p a
      by_old None at is = absurd (none-some a is)
      by_old (Some o) at is =
          let same : a ≡ set_by (its_context f kind (plain_declared kind before)) o = sym (same_Some _ a is) in
          record {
            i = listed.0;
            o = o;
            at = at;
            is = same;
            denotes =
                ap (option_map (denoted_of ByContext kind (declared ByContext kind after))) e
                ∙ ap (λ ds. Some (denoted_of ByContext kind ds a)) (declared-are f kind before after n)
                ∙ ap (λ b. Some (denoted_of ByContext kind (lift_all f (plain_declared kind before)) b)) same
                ∙ ap Some (denoted-given f kind before after n listed.0 o at);
          }

  alike : (p q : ℕ) (a b : Occurrence) → Before f kind before after p a → Before f kind before after q b → SameIdent a b ↔ (denoted_at ByContext kind after p ≡ denoted_at ByContext kind after q)
  alike p q a b x y = (forward, backward)
    where
      forward : SameIdent a b → denoted_at ByContext kind after p ≡ denoted_at ByContext kind after q
      forward same =
          let all : List Declared = plain_declared kind before in
          let symbols : x.o.sym ≡ y.o.sym = sym (ap (λ (z : Occurrence). z.sym) x.is) ∙ same.0 ∙ ap (λ (z : Occurrence). z.sym) y.is in
          let numbers : its_context f kind all x.o ≡ its_context f kind all y.o = sym (ap (λ (z : Occurrence). z.ctxt) x.is) ∙ same.1 ∙ ap (λ (z : Occurrence). z.ctxt) y.is in
          let known = occurrences-known before in
          let equal = contexts-tell f (kind_in start before) x.o.sym y.o.sym (by_its_symbol kind all x.o) (by_its_symbol kind all y.o) symbols (denoted-for kind all x.o) (denoted-for kind all y.o) (denoted-known (kind_in start before) kind all x.o (known x.i x.o x.at)) (denoted-known (kind_in start before) kind all y.o (known y.i y.o y.at)) (own-at f kind before after n x.i x.o x.at) (own-at f kind before after n y.i y.o y.at) (apart-at f kind before after n x.i y.i x.o y.o x.at y.at) numbers in
          x.denotes ∙ ap (λ d. Some (given f all d)) equal ∙ sym y.denotes

      backward : denoted_at ByContext kind after p ≡ denoted_at ByContext kind after q → SameIdent a b
      backward same =
          let all : List Declared = plain_declared kind before in
          let tells = given-tells f all x.o.sym y.o.sym (by_its_symbol kind all x.o) (by_its_symbol kind all y.o) (denoted-for kind all x.o) (denoted-for kind all y.o) (same_Some _ _ (sym x.denotes ∙ same ∙ y.denotes)) in
          (ap (λ (z : Occurrence). z.sym) x.is ∙ tells.0 ∙ sym (ap (λ (z : Occurrence). z.sym) y.is), ap (λ (z : Occurrence). z.ctxt) x.is ∙ tells.1 ∙ sym (ap (λ (z : Occurrence). z.ctxt) y.is))

  own_arguments : (p : ℕ) (a : Occurrence) → Before f kind before after p a → denoted_at ByContext kind after p ≡ Some (Global (codes "arguments")) → find is_function (scopes_around kind a.path) ≡ None
  own_arguments p a x e =
      let all : List Declared = plain_declared kind before in
      let global = given-global f all (by_its_symbol kind all x.o) (codes "arguments") (same_Some _ _ (sym x.denotes ∙ e)) in
      ap (λ (z : Occurrence). find is_function (scopes_around kind z.path)) x.is ∙ arguments-unbound kind all x.o global

  pub separation : IsResolutionOf kind before after
  separation = record {
    resolved = record {
      same = λ p q a b at there. alike p q a b (before-of p a at) (before-of q b there);
      own_arguments = λ p a at e. own_arguments p a (before-of p a at) e;
    };
    same = ap (map by_symbol) (denotations-given f kind before after n) ∙ all-by_symbol f kind (plain_declared kind before) (occurrences before);
    one = λ i j e. given-at i ∙ ap (option_map (given f (plain_declared kind before))) e ∙ sym (given-at j);
  }
    where
      given-at : (i : ℕ) → slice_get (denotations ByContext kind after) i ≡ option_map (given f (plain_declared kind before)) (slice_get (denotations BySymbol kind before) i)
      given-at i = ap (λ ds. slice_get ds i) (denotations-given f kind before after n) ∙ slice_get-map (given f (plain_declared kind before)) (denotations BySymbol kind before) i
