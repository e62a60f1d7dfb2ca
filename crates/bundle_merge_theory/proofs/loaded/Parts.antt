-- The scopes around a place of the body, and how names are declared there, are those of the
-- module.
-- The occurrences of the body follow those of the module.
-- A body is made of statements, one after another.
use Rattle.std.proofs.Common.{◌≡◌, ℕ, zero, suc, Bool, true, false, cond, List, [], ◌∷◌, ◌++◌, Option, Some, None, refl, ap, sym, ◌∙◌, subst, ◌+◌, inl, inr, map, arith, fold, length}
use Rattle.std.proofs.lemmas.Bool.{false≢true}
use Rattle.std.specs.List.{cons_option}
use Rattle.std.proofs.lemmas.Option.{none-some}
use Rattle.bundle_syntax.specs.declared.kind.VarDeclKind.{VarDeclKind}
use Rattle.bundle_syntax.specs.Item as h
use Rattle.bundle_syntax.specs.Item.{Head, Item}
use Rattle.bundle_syntax.specs.declared.piece.Role.{Role}
use Rattle.bundle_syntax.specs.declared.kind.VarDeclKind.TheVariants
use Rattle.bundle_syntax.specs.declared.piece.Role.TheVariants as r
use Rattle.bundle_rules.specs.Places.{Around, in_field, outer_path, Spot, past, occurrence_of, occurrences_from}
use Rattle.bundle_rules.specs.Scopes.{Es, Cjs, ScopeKind, FunctionName, ClassName, block_in, block_kind, exports_default, is_default, kind_of_scope, scope_at, scopes_around}
use Rattle.bundle_rules.specs.Declarations.{Way, ByLet, ByConst, ByLoop, ByFunction, ByFunctionName, ByClass, ByClassName, is_pattern, is_loop_head, heads_loop, way_of_kind, way_of_variable, way_of_declarator, way_in, way_of, Declared}
use Rattle.bundle_rules.specs.Callable.{is_module_head}
use Rattle.bundle_rules.specs.Nodes.{Text}
use Rattle.bundle_rules.specs.Idents.{Ident, ident_of}
use Rattle.bundle_tree_places.specs.Edits.{is_occurrence}
use Rattle.bundle_scope_names.proofs.Numbering.{Numbering}
use Rattle.bundle_merge_theory.specs.loaded.Framed.{Framed, outside, within, is_wrapper_way}
use Rattle.bundle_merge_theory.specs.loaded.Paths.{SameHead, same, noted, PathBeside, at_top, in_node}
use Rattle.bundle_merge_theory.proofs.noted.Names.{occurrence_here}
use Rattle.bundle_merge_theory.specs.loaded.Kept.{StandsBeside}
use Rattle.bundle_merge_theory.specs.loaded.Turned.{Turned, over, begun, declares, ended, named, word, empty, called, skipped, NodeGoes, FitsName, FitNames, HasTurnedContexts, FollowsTurned, done, kept, changed}

-- ---- paths

-- a test of heads that does not see notes
head-same : {A : Type 0} (test : Head → A) →
    ((kind : VarDeclKind) (meta its : _) → test (h.VarDecl kind its) ≡ test (h.VarDecl kind meta))
    →
    {head other : Head} → SameHead head other → test other ≡ test head
head-same test alike same = refl
head-same test alike (noted {kind = kind} {meta = meta} {its = its}) = alike kind meta its

module _ (R : ℕ → ℕ → Type 0) where
  block_kind-beside : {depth : ℕ} {old new : List Around} → PathBeside R depth old new →
      block_kind new ≡ block_kind old
  block_kind-beside (at_top field its) = refl
  block_kind-beside (in_node own alike goes path) =
      head-same block_in (λ kind meta its. refl) alike

  is_default-beside : {depth : ℕ} {old new : List Around} → PathBeside R depth old new →
      is_default new ≡ is_default old
  is_default-beside (at_top field its) = refl
  is_default-beside (in_node own alike goes path) =
      head-same exports_default (λ kind meta its. refl) alike

  heads_loop-beside : {depth : ℕ} {old new : List Around} → PathBeside R depth old new →
      heads_loop new ≡ heads_loop old
  heads_loop-beside (at_top field its) = refl
  heads_loop-beside (in_node {field = field} own alike goes path) =
      head-same (λ head. is_loop_head head field) (λ kind meta its. refl) alike

  kind_of_scope-beside : {depth : ℕ} {old new : List Around} → PathBeside R depth old new →
      (head : Head) (field : ℕ) → kind_of_scope head field new ≡ kind_of_scope head field old
  kind_of_scope-beside path h.BlockStmt field = ap Some (block_kind-beside path)
  kind_of_scope-beside path h.FnExpr field =
      ap (λ d. cond d None (Some FunctionName)) (is_default-beside path)
  kind_of_scope-beside path h.ClassExpr field =
      ap (λ d. cond d None (Some ClassName)) (is_default-beside path)
  kind_of_scope-beside path _ field = refl

  way_of_kind-beside : {depth : ℕ} {old new : List Around} → PathBeside R depth old new →
      (kind : VarDeclKind) → way_of_kind kind new ≡ way_of_kind kind old
  way_of_kind-beside path TheVariants.Var = refl
  way_of_kind-beside path TheVariants.Let = ap (λ b. cond b ByLoop ByLet) (heads_loop-beside path)
  way_of_kind-beside path TheVariants.Const = ap (λ b. cond b ByLoop ByConst) (heads_loop-beside path)

  way_of_variable-beside : {depth : ℕ} {old new : List Around} → PathBeside R depth old new →
      (head : Head) → way_of_variable head new ≡ way_of_variable head old
  way_of_variable-beside path (h.VarDecl kind meta) = ap Some (way_of_kind-beside path kind)
  way_of_variable-beside path _ = refl

  way_of_declarator-beside : {depth : ℕ} {old new : List Around} → PathBeside R depth old new →
      way_of_declarator new ≡ way_of_declarator old
  way_of_declarator-beside (at_top field its) = refl
  way_of_declarator-beside (in_node {head = head} {new = new} own alike goes path) =
      head-same (λ head. way_of_variable head new) (λ kind meta its. refl) alike
      ∙ way_of_variable-beside path head

  way_in-beside : {depth : ℕ} {old new : List Around} → PathBeside R depth old new →
      (head : Head) → way_in head new ≡ way_in head old
  way_in-beside path h.VarDeclarator = way_of_declarator-beside path
  way_in-beside path h.FnExpr =
      ap (λ d. Some (cond d ByFunction ByFunctionName)) (is_default-beside path)
  way_in-beside path h.ClassExpr =
      ap (λ d. Some (cond d ByClass ByClassName)) (is_default-beside path)
  way_in-beside path _ = refl

  -- WAYS
  pub way_of-beside : {depth : ℕ} {old new : List Around} → PathBeside R depth old new →
      way_of new ≡ way_of old
  way_of-beside (at_top field its) = refl
  way_of-beside (in_node {head = head} {old = old} {new = new} own alike goes path) =
      head-same (λ head. cond (is_pattern head) (way_of new) (way_in head new))
      (λ kind meta its. refl) alike
      ∙ λ i. cond (is_pattern head) (way_of-beside path i) (way_in-beside path head i)

  -- SCOPES
  pub scopes-beside : {depth : ℕ} {old new : List Around} → PathBeside R depth old new →
      Framed R (scopes_around Cjs old) (scopes_around Es new)
  scopes-beside (at_top field its) = outside
  scopes-beside (in_node {field = field} {a = a} {b = b} {head = head} {other = other} {old = old}
      {new = new} own alike goes path) =
      subst (λ k. Framed R (scope_at a (kind_of_scope head field old) ++ scopes_around Cjs old)
      (scope_at b k ++ scopes_around Es new))
      (sym (head-same (λ head. kind_of_scope head field new) (λ kind meta its. refl) alike
      ∙ kind_of_scope-beside path head field))
      (by (kind_of_scope head field old) (scopes-beside path))
    where
      by : (k : Option ScopeKind) → Framed R (scopes_around Cjs old) (scopes_around Es new) →
          Framed R (scope_at a k ++ scopes_around Cjs old) (scope_at b k ++ scopes_around Es new)
      by None outer = outer
      by (Some kind) outer = within goes outer

  -- in another field, and outside the innermost node
  pub field-beside : {depth : ℕ} {old new : List Around} → PathBeside R depth old new →
      (field : ℕ) → PathBeside R depth (in_field field old) (in_field field new)
  field-beside (at_top old new) field = at_top field field
  field-beside (in_node own alike goes path) field = in_node own alike goes path

  pub outer-beside : {depth : ℕ} {old new : List Around} → PathBeside R (suc depth) old new →
      PathBeside R depth (outer_path old) (outer_path new)
  outer-beside (in_node own alike goes path) = path

  -- no way of a module
  abbrev of_module : Option Way → Bool
  of_module None = false
  of_module (Some way) = is_wrapper_way way

  kind-own : (kind : VarDeclKind) (outer : List Around) →
      is_wrapper_way (way_of_kind kind outer) ≡ false
  kind-own TheVariants.Var outer = refl
  kind-own TheVariants.Let outer = by (heads_loop outer)
    where
      by : (b : Bool) → is_wrapper_way (cond b ByLoop ByLet) ≡ false
      by true = refl
      by false = refl
  kind-own TheVariants.Const outer = by (heads_loop outer)
    where
      by : (b : Bool) → is_wrapper_way (cond b ByLoop ByConst) ≡ false
      by true = refl
      by false = refl

  variable-own : (head : Head) (outer : List Around) →
      of_module (way_of_variable head outer) ≡ false
  variable-own (h.VarDecl kind meta) outer = kind-own kind outer
  variable-own _ outer = refl

  declarator-own : (outer : List Around) → of_module (way_of_declarator outer) ≡ false
  declarator-own [] = refl
  declarator-own (node ∷ outer) = variable-own node.head outer

  way_in-own : (head : Head) (outer : List Around) → is_module_head head ≡ false →
      of_module (way_in head outer) ≡ false
  way_in-own h.VarDeclarator outer own = declarator-own outer
  way_in-own h.FnExpr outer own = by (is_default outer)
    where
      by : (b : Bool) → is_wrapper_way (cond b ByFunction ByFunctionName) ≡ false
      by true = refl
      by false = refl
  way_in-own h.ClassExpr outer own = by (is_default outer)
    where
      by : (b : Bool) → is_wrapper_way (cond b ByClass ByClassName) ≡ false
      by true = refl
      by false = refl
  way_in-own h.ImportNamedSpecifier outer own = absurd (false≢true (sym own))
  way_in-own h.ImportDefaultSpecifier outer own = absurd (false≢true (sym own))
  way_in-own h.ImportStarAsSpecifier outer own = absurd (false≢true (sym own))
  way_in-own _ outer own = refl

  way-own : {depth : ℕ} {old new : List Around} → PathBeside R depth old new →
      of_module (way_of old) ≡ false
  way-own (at_top field its) = refl
  way-own (in_node {head = head} {old = old} own alike goes path) =
      by (is_pattern head) (way-own path) (way_in-own head old own)
    where
      by : (b : Bool) → of_module (way_of old) ≡ false → of_module (way_in head old) ≡ false →
          of_module (cond b (way_of old) (way_in head old)) ≡ false
      by true outer here = outer
      by false outer here = here

  pub own-way : {depth : ℕ} {old new : List Around} → PathBeside R depth old new → (way : Way) →
      way_of old ≡ Some way → is_wrapper_way way ≡ false
  own-way path way is = ap of_module (sym is) ∙ way-own path

  -- at the top any fields go together
  pub top-field : {old new : List Around} → PathBeside R zero old new → (field : ℕ) →
      PathBeside R zero (in_field field old) new
  top-field (at_top old new) field = at_top field new

-- ---- following
taken-here : (s : Spot) (field : ℕ) (x : Text) (ctxt : ℕ) (role : Role) →
    is_occurrence role ≡ true →
    occurrence_of s (h.Ident field x ctxt role) ≡ Some (occurrence_here s field x ctxt role)
taken-here s field x ctxt r.Word is = absurd (false≢true is)
taken-here s field x ctxt r.Binding is = refl
taken-here s field x ctxt r.Reference is = refl

module _ (R : ℕ → ℕ → Type 0) (g : Numbering) (ds : List Declared) where
  -- FOLLOWS
  pub follows-turned : {L : Ident → Type 0} {depth : ℕ} {xs ys : List Item}
      (w : Turned L depth xs ys) (s t : Spot) →
      PathBeside R depth s.path t.path → ((a b : ℕ) → NodeGoes w s.place t.place a b → R a b) →
      HasTurnedContexts g ds w s → FollowsTurned L R g ds (occurrences_from s xs) (occurrences_from t ys)
  follows-turned {L = L} over s t path goes has = done
  follows-turned {L = L} (begun {field = field} {head = head} own rest) s t path goes has =
      follows-turned rest (past s (h.Open field head)) (past t (h.Open field head))
      (in_node own same (goes s.place t.place (inl (refl, refl))) (field-beside R path field))
      (λ a b there. goes a b (inr there)) has
  follows-turned {L = L} (declares {field = field} {kind = kind} {meta = meta} {its = its} rest) s
      t path goes has =
      follows-turned rest (past s (h.Open field (h.VarDecl kind meta)))
      (past t (h.Open field (h.VarDecl kind its)))
      (in_node refl noted (goes s.place t.place (inl (refl, refl)))
      (field-beside R path field)) (λ a b there. goes a b (inr there)) has
  follows-turned {L = L} (ended rest) s t path goes has =
      follows-turned rest (past s h.Close) (past t h.Close) (outer-beside R path) goes has
  follows-turned {L = L} (named {field = field} {ctxt = ctxt} {its = its} {x = x} {role = role}
      {xs = xs} {ys = ys} is rest) s t path goes has =
      let there = field-beside R path field in
      subst (λ o. FollowsTurned L R g ds
      (cons_option o (occurrences_from (past s (h.Ident field x ctxt role)) xs))
      (occurrences_from t (h.Ident field x its role ∷ ys)))
      (sym (taken-here s field x ctxt role is))
      (subst (λ u. FollowsTurned L R g ds (occurrence_here s field x ctxt role
      ∷ occurrences_from (past s (h.Ident field x ctxt role)) xs)
      (cons_option u (occurrences_from (past t (h.Ident field x its role)) ys)))
      (sym (taken-here t field x its role is))
      (by_name has.0 (record {
        role = refl;
        way = way_of-beside R there;
        scopes = scopes-beside R there;
        own = own-way R there;
      })
      (follows-turned rest (past s (h.Ident field x ctxt role)) (past t (h.Ident field x its role))
      path goes has.1)))
    where
      by_name : FitsName L g ds (occurrence_here s field x ctxt role) (x, its) →
          StandsBeside R (occurrence_here s field x ctxt role) (occurrence_here t field x its role)
          →
          FollowsTurned L R g ds (occurrences_from (past s (h.Ident field x ctxt role)) xs)
          (occurrences_from (past t (h.Ident field x its role)) ys) →
          FollowsTurned L R g ds (occurrence_here s field x ctxt role
          ∷ occurrences_from (past s (h.Ident field x ctxt role)) xs)
          (occurrence_here t field x its role
          ∷ occurrences_from (past t (h.Ident field x its role)) ys)
      by_name (inl fits) stands more = kept stands (record { symbol = refl; ctxt = fits.1 }) more
      by_name (inr calls) stands more = changed stands calls.0 calls.1 more
  follows-turned {L = L} (word {field = field} {ctxt = ctxt} {its = its} {x = x} rest) s t path
      goes has =
      follows-turned rest (past s (h.Ident field x ctxt r.Word))
      (past t (h.Ident field x its r.Word)) path goes has
  follows-turned {L = L} (empty {field = field} rest) s t path goes has =
      follows-turned rest (past s (h.Hole field)) (past t (h.Hole field)) path goes has
  follows-turned {L = L} (called {field = field} {xs = xs} {ys = ys} is rest) s t path goes has =
      let there = field-beside R path field in
      let far : s.place + 1 + 1 + 1 + 1 + 1 + 1 + 1 ≡ s.place + 7 = omega arith in
      let near : t.place + 1 + 1 + 1 ≡ t.place + 3 = omega arith in
      changed (record {
        role = refl;
        way = refl;
        scopes = scopes-beside R there;
        own = λ way at. absurd (none-some way at);
      }) refl is
      (subst (λ n. FollowsTurned L R g ds
      (occurrences_from (record { place = n; path = in_field field s.path }) xs)
      (occurrences_from (record { place = t.place + 1 + 1 + 1; path = in_field field t.path })
      ys)) (sym far)
      (subst (λ n. FollowsTurned L R g ds
      (occurrences_from (record { place = s.place + 7; path = in_field field s.path }) xs)
      (occurrences_from (record { place = n; path = in_field field t.path }) ys)) (sym near)
      (follows-turned rest (record { place = s.place + 7; path = in_field field s.path })
      (record { place = t.place + 3; path = in_field field t.path }) there
      (λ a b there. goes a b (inr there)) has)))
  follows-turned {L = L} (skipped {field = field} {xs = xs} {ys = ys} rest) s t path goes has =
      let far : s.place + 1 + 1 ≡ s.place + 2 = omega arith in
      subst (λ n. FollowsTurned L R g ds
      (occurrences_from (record { place = n; path = in_field field s.path }) xs)
      (occurrences_from t ys)) (sym far)
      (follows-turned rest (record { place = s.place + 2; path = in_field field s.path }) t
      (top-field R path field) goes
      (subst (λ n. HasTurnedContexts g ds rest (record { place = n; path = in_field field s.path })) far
      has))

-- NAMES IN TURN: where these fit, the contexts are right
module _ (L : Ident → Type 0) (g : Numbering) (ds : List Declared) where
  pub fit-names : {depth : ℕ} {xs ys : List Item} (w : Turned L depth xs ys) (s t : Spot) →
      FitNames L g ds (occurrences_from s xs) (map ident_of (occurrences_from t ys)) →
      HasTurnedContexts g ds w s
  fit-names over s t fit = tt
  fit-names (begun {field = field} {head = head} own rest) s t fit =
      fit-names rest (past s (h.Open field head)) (past t (h.Open field head)) fit
  fit-names (declares {field = field} {kind = kind} {meta = meta} {its = its} rest) s t fit =
      fit-names rest (past s (h.Open field (h.VarDecl kind meta)))
      (past t (h.Open field (h.VarDecl kind its))) fit
  fit-names (ended rest) s t fit = fit-names rest (past s h.Close) (past t h.Close) fit
  fit-names (named {field = field} {ctxt = ctxt} {its = its} {x = x} {role = role} {xs = xs}
      {ys = ys} is rest) s t fit =
      let first : FitNames L g ds (occurrence_here s field x ctxt role
      ∷ occurrences_from (past s (h.Ident field x ctxt role)) xs)
      (map ident_of (occurrences_from t (h.Ident field x its role ∷ ys))) =
      subst (λ o. FitNames L g ds
      (cons_option o (occurrences_from (past s (h.Ident field x ctxt role)) xs))
      (map ident_of (occurrences_from t (h.Ident field x its role ∷ ys))))
      (taken-here s field x ctxt role is) fit in
      let both : FitNames L g ds (occurrence_here s field x ctxt role
      ∷ occurrences_from (past s (h.Ident field x ctxt role)) xs)
      (map ident_of (occurrence_here t field x its role
      ∷ occurrences_from (past t (h.Ident field x its role)) ys)) =
      subst (λ o. FitNames L g ds (occurrence_here s field x ctxt role
      ∷ occurrences_from (past s (h.Ident field x ctxt role)) xs)
      (map ident_of (cons_option o (occurrences_from (past t (h.Ident field x its role)) ys))))
      (taken-here t field x its role is) first in (
        both.0,
        fit-names rest (past s (h.Ident field x ctxt role))
            (past t (h.Ident field x its role)) both.1,
      )
  fit-names (word {field = field} {ctxt = ctxt} {its = its} {x = x} rest) s t fit =
      fit-names rest (past s (h.Ident field x ctxt r.Word)) (past t (h.Ident field x its r.Word))
      fit
  fit-names (empty {field = field} rest) s t fit =
      fit-names rest (past s (h.Hole field)) (past t (h.Hole field)) fit
  fit-names (called {field = field} {xs = xs} {ys = ys} load rest) s t fit =
      let far : s.place + 1 + 1 + 1 + 1 + 1 + 1 + 1 ≡ s.place + 7 = omega arith in
      fit-names rest (record { place = s.place + 7; path = in_field field s.path })
      (record { place = t.place + 1 + 1 + 1; path = in_field field t.path })
      (subst (λ n. FitNames L g ds
      (occurrences_from (record { place = n; path = in_field field s.path }) xs)
      (map ident_of (occurrences_from
      (record { place = t.place + 1 + 1 + 1; path = in_field field t.path }) ys))) far fit.1)
  fit-names (skipped {field = field} rest) s t fit =
      fit-names rest (past (past s (h.Open field h.EmptyStmt)) h.Close) t fit

-- ---- parts
abbrev pub turned-append : {L : Ident → Type 0} {depth : ℕ} {xs ys more its : List Item} →
    Turned L depth xs ys → Turned L zero more its → Turned L depth (xs ++ more) (ys ++ its)
turned-append over v = v
turned-append (begun own rest) v = begun own (turned-append rest v)
turned-append (declares rest) v = declares (turned-append rest v)
turned-append (ended rest) v = ended (turned-append rest v)
turned-append (named is rest) v = named is (turned-append rest v)
turned-append (word rest) v = word (turned-append rest v)
turned-append (empty rest) v = empty (turned-append rest v)
turned-append (called is rest) v = called is (turned-append rest v)
turned-append (skipped rest) v = skipped (turned-append rest v)

-- nodes of the first part go where they go
pub goes-first : {L : Ident → Type 0} {depth : ℕ} {xs ys more its : List Item}
    (w : Turned L depth xs ys) (v : Turned L zero more its) (from to a b : ℕ) →
    NodeGoes w from to a b → NodeGoes (turned-append w v) from to a b
goes-first over v from to a b goes = absurd goes
goes-first (begun own rest) v from to a b (inl is) = inl is
goes-first (begun own rest) v from to a b (inr goes) =
    inr (goes-first rest v (from + 1) (to + 1) a b goes)
goes-first (declares rest) v from to a b (inl is) = inl is
goes-first (declares rest) v from to a b (inr goes) =
    inr (goes-first rest v (from + 1) (to + 1) a b goes)
goes-first (ended rest) v from to a b goes = goes-first rest v (from + 1) (to + 1) a b goes
goes-first (named is rest) v from to a b goes = goes-first rest v (from + 1) (to + 1) a b goes
goes-first (word rest) v from to a b goes = goes-first rest v (from + 1) (to + 1) a b goes
goes-first (empty rest) v from to a b goes = goes-first rest v (from + 1) (to + 1) a b goes
goes-first (called load rest) v from to a b (inl is) = inl is
goes-first (called load rest) v from to a b (inr goes) =
    inr (goes-first rest v (from + 7) (to + 3) a b goes)
goes-first (skipped rest) v from to a b goes = goes-first rest v (from + 2) to a b goes

moved-goes : {L : Ident → Type 0} {more its : List Item} (v : Turned L zero more its)
    (a b m n k l : ℕ) →
    m ≡ n → k ≡ l → NodeGoes v m k a b → NodeGoes v n l a b
moved-goes v a b m n k l e f goes =
    subst (λ q. NodeGoes v q l a b) e (subst (λ q. NodeGoes v m q a b) f goes)

-- and so do those of the second
pub goes-second : {L : Ident → Type 0} {depth : ℕ} {xs ys more its : List Item}
    (w : Turned L depth xs ys) (v : Turned L zero more its) (from to a b : ℕ) →
    NodeGoes v (from + length xs) (to + length ys) a b → NodeGoes (turned-append w v) from to a b
goes-second over v from to a b goes =
    moved-goes v a b (from + 0) from (to + 0) to (omega arith) (omega arith) goes
goes-second (begun {xs = xs} {ys = ys} own rest) v from to a b goes =
    inr (goes-second rest v (from + 1) (to + 1) a b
    (moved-goes v a b (from + suc (length xs)) (from + 1 + length xs) (to + suc (length ys))
    (to + 1 + length ys) (omega arith) (omega arith) goes))
goes-second (declares {xs = xs} {ys = ys} rest) v from to a b goes =
    inr (goes-second rest v (from + 1) (to + 1) a b
    (moved-goes v a b (from + suc (length xs)) (from + 1 + length xs) (to + suc (length ys))
    (to + 1 + length ys) (omega arith) (omega arith) goes))
goes-second (ended {xs = xs} {ys = ys} rest) v from to a b goes =
    goes-second rest v (from + 1) (to + 1) a b
    (moved-goes v a b (from + suc (length xs)) (from + 1 + length xs) (to + suc (length ys))
    (to + 1 + length ys) (omega arith) (omega arith) goes)
goes-second (named {xs = xs} {ys = ys} is rest) v from to a b goes =
    goes-second rest v (from + 1) (to + 1) a b
    (moved-goes v a b (from + suc (length xs)) (from + 1 + length xs) (to + suc (length ys))
    (to + 1 + length ys) (omega arith) (omega arith) goes)
goes-second (word {xs = xs} {ys = ys} rest) v from to a b goes =
    goes-second rest v (from + 1) (to + 1) a b
    (moved-goes v a b (from + suc (length xs)) (from + 1 + length xs) (to + suc (length ys))
    (to + 1 + length ys) (omega arith) (omega arith) goes)
goes-second (empty {xs = xs} {ys = ys} rest) v from to a b goes =
    goes-second rest v (from + 1) (to + 1) a b
    (moved-goes v a b (from + suc (length xs)) (from + 1 + length xs) (to + suc (length ys))
    (to + 1 + length ys) (omega arith) (omega arith) goes)
goes-second (called {xs = xs} {ys = ys} load rest) v from to a b goes =
    inr (goes-second rest v (from + 7) (to + 3) a b
    (moved-goes v a b (from + suc (suc (suc (suc (suc (suc (suc (length xs))))))))
    (from + 7 + length xs) (to + suc (suc (suc (length ys)))) (to + 3 + length ys)
    (omega arith) (omega arith) goes))
goes-second (skipped {xs = xs} {ys = ys} rest) v from to a b goes =
    goes-second rest v (from + 2) to a b
    (moved-goes v a b (from + suc (suc (length xs))) (from + 2 + length xs) (to + length ys)
    (to + length ys) (omega arith) refl goes)

module _ (g : Numbering) (ds : List Declared) where
  -- contexts of the parts
  pub has-first : {L : Ident → Type 0} {depth : ℕ} {xs ys more its : List Item}
      (w : Turned L depth xs ys) (v : Turned L zero more its) (s : Spot) →
      HasTurnedContexts g ds (turned-append w v) s → HasTurnedContexts g ds w s
  has-first over v s has = tt
  has-first (begun {field = field} {head = head} own rest) v s has =
      has-first rest v (past s (h.Open field head)) has
  has-first (declares {field = field} {kind = kind} {meta = meta} rest) v s has =
      has-first rest v (past s (h.Open field (h.VarDecl kind meta))) has
  has-first (ended rest) v s has = has-first rest v (past s h.Close) has
  has-first (named {field = field} {ctxt = ctxt} {x = x} {role = role} is rest) v s has =
      (has.0, has-first rest v (past s (h.Ident field x ctxt role)) has.1)
  has-first (word {field = field} {ctxt = ctxt} {x = x} rest) v s has =
      has-first rest v (past s (h.Ident field x ctxt r.Word)) has
  has-first (empty {field = field} rest) v s has = has-first rest v (past s (h.Hole field)) has
  has-first (called {field = field} load rest) v s has =
      has-first rest v (record { place = s.place + 7; path = in_field field s.path }) has
  has-first (skipped {field = field} rest) v s has =
      has-first rest v (past (past s (h.Open field h.EmptyStmt)) h.Close) has

  pub has-second : {L : Ident → Type 0} {depth : ℕ} {xs ys more its : List Item}
      (w : Turned L depth xs ys) (v : Turned L zero more its) (s : Spot) →
      HasTurnedContexts g ds (turned-append w v) s → HasTurnedContexts g ds v (fold past s xs)
  has-second over v s has = has
  has-second (begun {field = field} {head = head} own rest) v s has =
      has-second rest v (past s (h.Open field head)) has
  has-second (declares {field = field} {kind = kind} {meta = meta} rest) v s has =
      has-second rest v (past s (h.Open field (h.VarDecl kind meta))) has
  has-second (ended rest) v s has = has-second rest v (past s h.Close) has
  has-second (named {field = field} {ctxt = ctxt} {x = x} {role = role} is rest) v s has =
      has-second rest v (past s (h.Ident field x ctxt role)) has.1
  has-second (word {field = field} {ctxt = ctxt} {x = x} rest) v s has =
      has-second rest v (past s (h.Ident field x ctxt r.Word)) has
  has-second (empty {field = field} rest) v s has = has-second rest v (past s (h.Hole field)) has
  has-second (called {field = field} {xs = xs} load rest) v s has =
      let far : s.place + 7 ≡ s.place + 1 + 1 + 1 + 1 + 1 + 1 + 1 = omega arith in
      subst (λ n. HasTurnedContexts g ds v
      (fold past (record { place = n; path = in_field field s.path }) xs)) far
      (has-second rest v (record { place = s.place + 7; path = in_field field s.path }) has)
  has-second (skipped {field = field} rest) v s has =
      has-second rest v (past (past s (h.Open field h.EmptyStmt)) h.Close) has

module _ (R : ℕ → ℕ → Type 0) where
  -- behind a part
  pub path-behind : {L : Ident → Type 0} {depth : ℕ} {xs ys : List Item} (w : Turned L depth xs ys)
      (s t : Spot) →
      PathBeside R depth s.path t.path → ((a b : ℕ) → NodeGoes w s.place t.place a b → R a b) →
      PathBeside R zero (fold past s xs).path (fold past t ys).path
  path-behind over s t path goes = path
  path-behind (begun {field = field} {head = head} own rest) s t path goes =
      path-behind rest (past s (h.Open field head)) (past t (h.Open field head))
      (in_node own same (goes s.place t.place (inl (refl, refl))) (field-beside R path field))
      (λ a b there. goes a b (inr there))
  path-behind (declares {field = field} {kind = kind} {meta = meta} {its = its} rest) s t path goes
      =
      path-behind rest (past s (h.Open field (h.VarDecl kind meta)))
      (past t (h.Open field (h.VarDecl kind its)))
      (in_node refl noted (goes s.place t.place (inl (refl, refl)))
      (field-beside R path field)) (λ a b there. goes a b (inr there))
  path-behind (ended rest) s t path goes =
      path-behind rest (past s h.Close) (past t h.Close) (outer-beside R path) goes
  path-behind (named {field = field} {ctxt = ctxt} {its = its} {x = x} {role = role} is rest) s t
      path goes =
      path-behind rest (past s (h.Ident field x ctxt role)) (past t (h.Ident field x its role))
      path goes
  path-behind (word {field = field} {ctxt = ctxt} {its = its} {x = x} rest) s t path goes =
      path-behind rest (past s (h.Ident field x ctxt r.Word)) (past t (h.Ident field x its r.Word))
      path goes
  path-behind (empty {field = field} rest) s t path goes =
      path-behind rest (past s (h.Hole field)) (past t (h.Hole field)) path goes
  path-behind (called {field = field} {xs = xs} {ys = ys} load rest) s t path goes =
      let there = field-beside R path field in
      let far : s.place + 7 ≡ s.place + 1 + 1 + 1 + 1 + 1 + 1 + 1 = omega arith in
      let near : t.place + 3 ≡ t.place + 1 + 1 + 1 = omega arith in
      subst (λ n. PathBeside R zero (fold past (record { place = n; path = in_field field s.path })
      xs).path (fold past
      (record { place = t.place + 1 + 1 + 1; path = in_field field t.path }) ys).path) far
      (subst (λ n. PathBeside R zero
      (fold past (record { place = s.place + 7; path = in_field field s.path }) xs).path
      (fold past (record { place = n; path = in_field field t.path }) ys).path) near
      (path-behind rest (record { place = s.place + 7; path = in_field field s.path })
      (record { place = t.place + 3; path = in_field field t.path }) there
      (λ a b there. goes a b (inr there))))
  path-behind (skipped {field = field} {xs = xs} {ys = ys} rest) s t path goes =
      let far : s.place + 2 ≡ s.place + 1 + 1 = omega arith in
      subst (λ n. PathBeside R zero (fold past (record { place = n; path = in_field field s.path })
      xs).path (fold past t ys).path) far
      (path-behind rest (record { place = s.place + 2; path = in_field field s.path }) t
      (top-field R path field) goes)
