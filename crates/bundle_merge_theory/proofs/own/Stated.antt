-- Declarations of a part among all declarations of a tree: the others are of scopes outside the
-- part, so inner scopes of the part bind what they bind by its own declarations.
-- What a statement of a module becomes: its nodes and its names, one by one.
use Rattle.std.proofs.Common.{◌≡◌, ◌≤◌, ◌<◌, ◌⊎◌, inl, inr, ℕ, suc, ◌+◌, Bool, true, false, cond, not, ◌&&◌, ◌||◌, List, [], ◌∷◌, ◌++◌, Option, Some, None, find, slice_get, refl, ap, sym, ◌∙◌, arith, ne_eqb, codes, length, length-append, subst}
use Rattle.std.specs.List.{list_any, AllZip, list_all}
use Rattle.std.proofs.lemmas.Bool.{false≢true}
use Rattle.std.proofs.lemmas.Option.{none-some}
use Rattle.std.proofs.lemmas.List.{append_cancel_right}
use Rattle.bundle_syntax.specs.declared.kind.VarDeclKind.TheVariants.{Const}
use Rattle.bundle_syntax.specs.Item as h
use Rattle.bundle_syntax.specs.Item.{Item, Head}
use Rattle.bundle_syntax.specs.declared.piece.Role.TheVariants as r
use Rattle.bundle_rules.specs.Places.{Around, Spot, past, Occurrence, occurrences_from}
use Rattle.bundle_rules.specs.Scopes.{Es, Scope, ScopeKind, Wrapper, Top, Inner, same_scope, kind_of_scope, scope_at, scopes_around}
use Rattle.bundle_rules.specs.Declarations.{Name, names_agree, Declared, ByFunction, ByClass, ByConst}
use Rattle.bundle_rules.specs.Homes.{is_parameters, is_wrapper, is_function, is_arguments, from_taker, taker, parameters_of, joins_parameter, is_parameter, home_beside, home_of, is_declared_in, declares, binds}
use Rattle.bundle_rules.specs.Idents.{Ident}
use Rattle.bundle_rules.specs.Statements.{declaration_head, no_notes}
use Rattle.bundle_tree_places.specs.Edits.{Anywhere, node}
use Rattle.bundle_scope_names.proofs.HomesLemmas.{Each, list_any-found, list_any-here, iff}
use Rattle.bundle_tree_rebuild.specs.Work.{Step, Work}
use Rattle.bundle_tree_rebuild.specs.Becomes.{Becomes, named}
use Rattle.bundle_merge_theory.specs.joined.Joined.{AllOf}
use Rattle.bundle_merge_theory.proofs.joined.Paths.{IsIn, IsDeclaredIn}
use Rattle.bundle_merge_theory.proofs.joined.Denotes.{HasIn, taker-in, home-in, from_taker-in, parameters-in}
use Rattle.bundle_merge_theory.specs.joined.Alike.{tops}
use Rattle.bundle_merge_theory.specs.noted.Stated.{states_itself, is_default_head, declares_default}
use Rattle.bundle_merge_theory.specs.walked.Rewrites.{AreOwn, Cover, KeepsSymbol, is_own_item}
use Rattle.bundle_merge_theory.specs.walked.Stated as t
use Rattle.bundle_merge_theory.specs.walked.Stated.{StatesList}
use Rattle.bundle_merge_theory.proofs.noted.Spots.{around_spot}
use Rattle.bundle_merge_theory.proofs.noted.Names.{occurrences_node}
use Rattle.bundle_merge_theory.proofs.walked.NameLemmas.{node_names}
use Rattle.bundle_merge_theory.proofs.walked.Rewriting.{own_inside, fits, moved_names, moved_own, default_parts}
use Rattle.bundle_merge_theory.specs.composed.Noted.{first_spot}
use Rattle.bundle_merge_theory.specs.own.Beside.{Pairs, Paired, Rise, Below, SpotsBeside, AllMade, IsFront, AreFront, no_front, one_front, top_spot, StatedBeside}
use Rattle.bundle_merge_theory.proofs.own.Pairs.{rise-earlier, below-later, rises-from, below-all}
use Rattle.bundle_merge_theory.proofs.own.Walking.{pairs, walked}
use Rattle.bundle_merge_theory.proofs.own.Ranged.{pairs-rise, pairs-below}
use Rattle.bundle_merge_theory.proofs.finished.Statements.{node-length as node_long}
use Rattle.bundle_merge_theory.proofs.own.Like.{made-like, moved-like}

-- ---- padded

-- the scope is no inner one of this range
abbrev pub IsAway : ℕ → ℕ → Scope → Type 0
IsAway low high Wrapper = Unit {0}
IsAway low high Top = Unit {0}
IsAway low high (Inner kind begins) = (begins < low) ⊎ (high ≤ begins)

abbrev pub IsDeclaredAway : ℕ → ℕ → Declared → Type 0
IsDeclaredAway low high d = AllOf (IsAway low high) d.scopes

away-apart : (low high : ℕ) (s : Scope) (kind : ScopeKind) (a : ℕ) → IsAway low high s → low ≤ a →
    a < high → same_scope s (Inner kind a) ≡ false
away-apart low high Wrapper kind a away from to = ne_eqb 0 (a + 2) (λ e. omega (arith, e))
away-apart low high Top kind a away from to = ne_eqb 1 (a + 2) (λ e. omega (arith, e))
away-apart low high (Inner its b) kind a away from to =
    ne_eqb (b + 2) (a + 2) (λ e. by e away)
  where
    by : b + 2 ≡ a + 2 → (b < low) ⊎ (high ≤ b) → ⊥
    by e (inl lt) = omega (arith, e, lt, from)
    by e (inr le) = omega (arith, e, le, to)

pub top-parameter : (s : Scope) (b : Bool) →
    ((is_parameters s || is_wrapper s) && same_scope s Top && b) ≡ false
top-parameter Wrapper b = refl
top-parameter Top b = refl
top-parameter (Inner kind a) b =
    ap (λ same. (is_parameters (Inner kind a) || is_wrapper (Inner kind a)) && same && b)
    (ne_eqb (a + 2) 1 (λ e. omega (arith, e)))
    ∙ fails (is_parameters (Inner kind a) || is_wrapper (Inner kind a)) b
  where
    fails : (x y : Bool) → (x && false && y) ≡ false
    fails true y = refl
    fails false y = refl

fails_so : (x y : Bool) → (x && false && y) ≡ false
fails_so true y = refl
fails_so false y = refl

pub record IsPadded (low high : ℕ) (all mid : List Declared) : Type 0 where
  pub there : Each (λ d. (i : ℕ) × (slice_get all i ≡ Some d)) mid
  pub only : Each (λ d. IsDeclaredAway low high d ⊎ ((i : ℕ) × (slice_get mid i ≡ Some d))) all
  pub within : Each (IsDeclaredIn low high) mid

module _ (low high : ℕ) (all mid : List Declared) (padded : IsPadded low high all mid) where
  -- a test that those outside do not pass
  tests : (p : Declared → Bool) → ((d : Declared) → IsDeclaredAway low high d → p d ≡ false) →
      list_any p all ≡ list_any p mid
  tests p fails = iff (list_any p all) (list_any p mid) forward backward
    where
      forward : list_any p all ≡ true → list_any p mid ≡ true
      forward is =
          let it = list_any-found p all is in
          by it.1 it.3 (padded.only it.0 it.1 it.2)
        where
          by : (d : Declared) → p d ≡ true →
              IsDeclaredAway low high d ⊎ ((i : ℕ) × (slice_get mid i ≡ Some d)) →
              list_any p mid ≡ true
          by d passes (inl away) = absurd (false≢true (sym (fails d away) ∙ passes))
          by d passes (inr there) = list_any-here p mid there.0 d there.1 passes

      backward : list_any p mid ≡ true → list_any p all ≡ true
      backward is =
          let it = list_any-found p mid is in
          let there = padded.there it.0 it.1 it.2 in list_any-here p all there.0 it.1 there.1 it.3

  -- parameters
  parameter-tests : (scope : Scope) (name : Name) → IsIn low high scope →
      list_any (is_parameter scope name) all ≡ list_any (is_parameter scope name) mid
  parameter-tests Wrapper name is = absurd is
  parameter-tests Top name is =
      tests (is_parameter Top name) (λ d away. top-parameter (taker d) (names_agree d.name name))
  parameter-tests (Inner kind a) name is =
      tests (is_parameter (Inner kind a) name)
      (λ d away.
      ap (λ same. (is_parameters (taker d) || is_wrapper (taker d)) && same && names_agree d.name
      name)
      (away-apart low high (taker d) kind a (taker-in (IsAway low high) tt d away) is.0 is.1)
      ∙ fails_so (is_parameters (taker d) || is_wrapper (taker d)) (names_agree d.name name))

  beside-same : (d : Declared) (o : Option Scope) → HasIn (IsIn low high) o →
      home_beside all d o ≡ home_beside mid d o
  beside-same d None has = refl
  beside-same d (Some scope) has =
      ap (λ b. cond b scope (taker d)) (parameter-tests scope d.name has)

  -- HOMES
  pub pad-home : (d : Declared) → IsDeclaredIn low high d → home_of all d ≡ home_of mid d
  pad-home d is =
      ap (λ s. cond (joins_parameter d.by) s (taker d))
      (beside-same d (parameters_of (from_taker d.by d.scopes))
      (parameters-in (IsIn low high) (from_taker d.by d.scopes)
      (from_taker-in (IsIn low high) d.by d.scopes is)))

  -- what inner scopes declare
  pub pad-declares : (kind : ScopeKind) (a : ℕ) (name : Name) → low ≤ a → a < high →
      declares all (Inner kind a) name ≡ declares mid (Inner kind a) name
  pad-declares kind a name from to =
      tests (is_declared_in all (Inner kind a) name)
      (λ d away.
      ap (λ same. same && names_agree d.name name)
      (away-apart low high (home_of all d) kind a (home-in (IsAway low high) tt all d away) from
      to))
      ∙ same mid padded.within
    where
      same : (some : List Declared) → Each (IsDeclaredIn low high) some →
          list_any (is_declared_in all (Inner kind a) name) some
          ≡ list_any (is_declared_in mid (Inner kind a) name) some
      same [] each = refl
      same (d ∷ some) each =
          ap (λ home. (same_scope home (Inner kind a) && names_agree d.name name)
          || list_any (is_declared_in all (Inner kind a) name) some)
          (pad-home d (each 0 d refl))
          ∙ ap (λ b. is_declared_in mid (Inner kind a) name d || b)
          (same some (λ i x at. each (suc i) x at))

  pub pad-binds : (kind : ScopeKind) (a : ℕ) (name : Name) → low ≤ a → a < high →
      binds all (Inner kind a) name ≡ binds mid (Inner kind a) name
  pad-binds kind a name from to =
      λ i. pad-declares kind a name from to i
      || (is_arguments name.sym && (is_function (Inner kind a)
      && not (pad-declares kind a (record { sym = codes "arguments"; ctxt = None }) from to i)))

-- The top is the last scope around a place: what is found of inner scopes is found by any test that
-- is the same of them.
pub inner-found : (low high : ℕ) (p q : Scope → Bool) →
    ((kind : ScopeKind) (a : ℕ) → low ≤ a → a < high → q (Inner kind a) ≡ p (Inner kind a)) →
    (path : List Around) → AllOf (IsIn low high) (scopes_around Es path) → (kind : ScopeKind)
    (a : ℕ) → find p (scopes_around Es path) ≡ Some (Inner kind a) →
    find q (scopes_around Es path) ≡ Some (Inner kind a)
inner-found low high p q same [] all kind a is = by (p Top) is
  where
    by : (b : Bool) → cond b (Some Top) None ≡ Some (Inner kind a) →
        find q (Top ∷ []) ≡ Some (Inner kind a)
    by true e = cc
    by false e = absurd (none-some (Inner kind a) e)
inner-found low high p q same (node ∷ outer) all kind a is =
    by (kind_of_scope node.head node.field outer) all is
    (λ rest. inner-found low high p q same outer rest kind a)
  where
    by : (o : Option ScopeKind) →
        AllOf (IsIn low high) (scope_at node.begins o ++ scopes_around Es outer) →
        find p (scope_at node.begins o ++ scopes_around Es outer) ≡ Some (Inner kind a) →
        (AllOf (IsIn low high) (scopes_around Es outer) →
        find p (scopes_around Es outer) ≡ Some (Inner kind a) →
        find q (scopes_around Es outer) ≡ Some (Inner kind a)) →
        find q (scope_at node.begins o ++ scopes_around Es outer) ≡ Some (Inner kind a)
    by None all is go = go all is
    by (Some k) all is go =
        ap (λ b. cond b (Some (Inner k node.begins)) (find q (scopes_around Es outer)))
        (same k node.begins all.0.0 all.0.1)
        ∙ on (p (Inner k node.begins)) is
      where
        on : (b : Bool) →
            cond b (Some (Inner k node.begins)) (find p (scopes_around Es outer)) ≡ Some
            (Inner kind a) →
            cond b (Some (Inner k node.begins)) (find q (scopes_around Es outer)) ≡ Some
            (Inner kind a)
        on true e = e
        on false e = go all.1 e

-- ---- stated

-- a part of a statement and what it becomes, where they begin at these spots
record PartBeside (s t : Spot) (steps : List Step) (meta : Option Ident)
    (before within : List Item) :
    Type 0 where
  its : Pairs
  rise : Rise s.place t.place its
  below : Below (s.place + length before) (t.place + length within) its
  all : AllMade (Paired its) meta (occurrences_from s before) steps (occurrences_from t within)

same_steps : (steps behind taken rest : List Step) → steps ++ behind ≡ taken ++ rest →
    rest ≡ behind → taken ≡ steps
same_steps steps behind taken rest both same =
    append_cancel_right taken steps behind (ap (λ l. taken ++ l) (sym same) ∙ sym both)

part : {work rest : Work} {before within : List Item} →
    Becomes Anywhere work before within rest → AreOwn before → (steps behind : List Step) →
    work.steps ≡ steps ++ behind → Cover steps before → (s t : Spot) →
    ((R : ℕ → ℕ → Type 0) → SpotsBeside R s t) →
    PartBeside s t steps work.meta before within
part {work = work} {before = before} {within = within} one own steps behind is cover s t beside =
    let it = fits one refl own steps behind is cover in
    let its : Pairs = pairs it.by s.place t.place in
    let taken = walked it.by s t (Paired its) (beside (Paired its)) tt (λ a b there. there) in
    record {
      its = its;
      rise = pairs-rise it.by s.place t.place;
      below = pairs-below it.by s.place t.place;
      all =
          subst (λ l. AllMade (Paired its) work.meta (occurrences_from s before) l
          (occurrences_from t within))
          (same_steps steps behind taken.steps _ (sym is ∙ taken.are) it.left) taken.all;
    }

-- Spots.

same_tops : (R : ℕ → ℕ → Type 0) (place field its : ℕ) →
    SpotsBeside R (top_spot place field) (top_spot 1 its)
same_tops R place field its = λ inner. record {
  block = refl;
  default = refl;
  loop = refl;
  declarator = refl;
  way = λ w there. there;
  scopes = (tops, tt);
}

in_export : (R : ℕ → ℕ → Type 0) (place field f : ℕ) →
    SpotsBeside R (past (top_spot place field) (h.Open f h.ExportDecl)) first_spot
in_export R place field f = λ inner. record {
  block = refl;
  default = refl;
  loop = refl;
  declarator = refl;
  way = λ w there. absurd (none-some w there);
  scopes = (tops, tt);
}

-- behind the name of a constant
abbrev constant_spot : Spot
constant_spot =
    record {
      place = 1 + 1 + 1 + 1 + 1 + 1;
      path = around_spot h.VarDeclarator 2 0 ∷ around_spot (h.VarDecl Const no_notes) 1 1 ∷ around_spot h.Module 0
          0 ∷ [];
    }

in_constant : (R : ℕ → ℕ → Type 0) (place field f : ℕ) →
    SpotsBeside R (past (top_spot place field) (h.Open f h.ExportDefaultExpr)) constant_spot
in_constant R place field f = λ inner. record {
  block = refl;
  default = refl;
  loop = refl;
  declarator = refl;
  way = λ w there. absurd (none-some w there);
  scopes = (tops, tt);
}

-- in a declaration
abbrev declared_spot : ℕ → Head → Spot
declared_spot place head =
    record { place = place; path = around_spot (declaration_head head) 1 0 ∷ around_spot h.Module 0 0 ∷ [] }

in_declared : (R : ℕ → ℕ → Type 0) (place field f inner its : ℕ) (head : Head) →
    is_default_head head ≡ true →
    SpotsBeside R (past (past (top_spot place field) (h.Open f h.ExportDefaultDecl))
    (h.Open inner head))
    (declared_spot its head)
in_declared R place field f inner its h.FnExpr is = λ number. record {
  block = refl;
  default = refl;
  loop = refl;
  declarator = refl;
  way = λ w there. there;
  scopes = (tops, tt);
}
in_declared R place field f inner its h.ClassExpr is = λ number. record {
  block = refl;
  default = refl;
  loop = refl;
  declarator = refl;
  way = λ w there. there;
  scopes = (tops, tt);
}
in_declared R place field f inner its _ is = absurd (false≢true is)

-- Defaults.

pub itself_default : (field : ℕ) (head : Head) (more : List Item) → states_itself head ≡ true →
    declares_default (h.Open field head ∷ more) ≡ false
itself_default field h.ExportDefaultExpr more is = absurd (false≢true is)
itself_default field h.ExportDefaultDecl more is = absurd (false≢true is)
itself_default field _ more is = refl

constant_front : (default : Ident) →
    IsFront default
    (record {
      place = 1 + 1 + 1 + 1;
      sym = default.0;
      ctxt = default.1;
      role = r.Binding;
      path =
          around_spot h.BindingIdent 3 0 ∷ around_spot h.VarDeclarator 2 0 ∷ around_spot (h.VarDecl Const no_notes)
          1 1
          ∷ around_spot h.Module 0 0 ∷ [];
    })
constant_front default = record {
  ident = refl;
  role = refl;
  way = ByConst;
  way_is = refl;
  known = refl;
  home = λ all place name. refl;
  scopes = refl;
}

declared_front : (default : Ident) (head : Head) → is_default_head head ≡ true →
    IsFront default
    (record {
      place = 1 + 1;
      sym = default.0;
      ctxt = default.1;
      role = r.Binding;
      path = around_spot (declaration_head head) 1 0 ∷ around_spot h.Module 0 0 ∷ [];
    })
declared_front default h.FnExpr is = record {
  ident = refl;
  role = refl;
  way = ByFunction;
  way_is = refl;
  known = refl;
  home = λ all place name. refl;
  scopes = refl;
}
declared_front default h.ClassExpr is = record {
  ident = refl;
  role = refl;
  way = ByClass;
  way_is = refl;
  known = refl;
  home = λ all place name. refl;
  scopes = refl;
}
declared_front default _ is = absurd (false≢true is)

-- Statements.

-- what is made of a statement of which this is a part
stated_so : (s t : Spot) (place field : ℕ) {steps : List Step} {meta : Option Ident}
    {default : Ident} {given item before within : List Item} →
    PartBeside s t steps meta before within → (front : List Occurrence) →
    AreFront default given front →
    occurrences_from first_spot item ≡ front ++ occurrences_from t within →
    occurrences_from (top_spot place field) given ≡ occurrences_from s before →
    place ≤ s.place → 1 ≤ t.place → s.place + length before ≤ place + length given →
    t.place + length within ≤ 1 + length item →
    StatedBeside (top_spot place field) steps meta default given item s.place
    (s.place + length before)
stated_so s t place field {steps = steps} {meta = meta} {given = given} {item = item}
    {before = before} {within = within} it front are_front are same from to long its_long = record {
      pairs = it.its;
      rise = rise-earlier s.place t.place place 1 it.its from to it.rise;
      below =
          below-later (s.place + length before) (t.place + length within) (place + length given)
          (1 + length item) it.its long its_long it.below;
      tight =
          λ a b there. (
            (rises-from s.place t.place it.its it.rise a b there).0,
            (below-all (s.place + length before) (t.place + length within) it.its it.below a b there).0,
          );
      front = front;
      are_front = are_front;
      rest = occurrences_from t within;
      are = are;
      all =
          subst (λ os. AllMade (Paired it.its) meta os steps (occurrences_from t within)) (sym same)
          it.all;
    }

-- from where on, and up to where what is stated stands, where the item begins at this place
abbrev pub stated_low : {work : Work} {default : Ident} {given item : List Item} →
    StatesList work default given item → ℕ → ℕ
stated_low (t.StatementStates f head inside itself one) place = place
stated_low (t.DeclarationStates f inside one) place = place + 1
stated_low (t.ValueStates f first more one) place = place + 1
stated_low (t.OwnStates f inner name_field x ctxt role head body is_head one) place = place + 1 + 1
stated_low (t.DefaultStates f inner first_field head first more is_head one) place = place + 1 + 1

abbrev pub stated_high : {work : Work} {default : Ident} {given item : List Item} →
    StatesList work default given item → ℕ → ℕ
stated_high (t.StatementStates f head inside itself one) place =
    place + length (node f head inside)
stated_high (t.DeclarationStates f inside one) place = place + 1 + length inside
stated_high (t.ValueStates f first more one) place = place + 1 + length (first ∷ more)
stated_high (t.OwnStates f inner name_field x ctxt role head body is_head one) place =
    place + 1 + 1 + length (h.Ident name_field x ctxt role ∷ body)
stated_high (t.DefaultStates f inner first_field head first more is_head one) place =
    place + 1 + 1 + length (h.Open first_field first ∷ more)

pub stated-beside : {work : Work} {default : Ident} {given item : List Item} →
    (d : StatesList work default given item) → AreOwn given → (steps behind : List Step) →
    work.steps ≡ steps ++ behind → Cover steps given → (place field : ℕ) →
    StatedBeside (top_spot place field) steps work.meta default given item (stated_low d place)
    (stated_high d place)
stated-beside {item = item} (t.StatementStates f head inside itself one) own steps behind is cover
    place field =
    let it = part one own steps behind is cover (top_spot place field) first_spot
    (λ R. same_tops R place field 0) in
    stated_so (top_spot place field) first_spot place field it []
    (no_front (itself_default f head (inside ++ h.Close ∷ []) itself)) refl refl (omega arith)
    (omega arith) (omega arith) (omega arith)
stated-beside {item = item} (t.DeclarationStates f inside one) own steps behind is cover place
    field =
    let s : Spot = past (top_spot place field) (h.Open f h.ExportDecl) in
    let it =
    part one (own_inside f h.ExportDecl inside own).1 steps behind is
    (subst (λ names. AllZip KeepsSymbol steps names) (node_names f h.ExportDecl inside) cover) s
    first_spot
    (λ R. in_export R place field f) in
    let long = length-append inside (h.Close ∷ []) in
    stated_so s first_spot place field it [] (no_front refl) refl
    (occurrences_node (top_spot place field) f h.ExportDecl inside) (omega arith) (omega arith)
    (omega (arith, long)) (omega arith)
stated-beside {default = default} (t.ValueStates f first more {value = value} one) own steps behind
    is cover place field =
    let s : Spot = past (top_spot place field) (h.Open f h.ExportDefaultExpr) in
    let part_own = (own_inside f h.ExportDefaultExpr (first ∷ more) own).1 in
    let it =
    part one (ap (λ b. b && list_all is_own_item more) (moved_own 1 first) ∙ part_own) steps behind
    is
    (subst (λ names. AllZip KeepsSymbol steps names)
    (node_names f h.ExportDefaultExpr (first ∷ more) ∙ sym (moved_names 1 first more)) cover) s
    constant_spot
    (λ R. in_constant R place field f) in
    let like = moved-like (place + 1) place 0 1 (around_spot h.Module 0 f ∷ []) first more in
    let its : PartBeside s constant_spot steps _ (first ∷ more) value = record {
      its = it.its;
      rise = it.rise;
      below = it.below;
      all = made-like (Paired it.its) _ it.all like;
    } in
    let long = length-append (first ∷ more) (h.Close ∷ []) in
    let a = node_long 1 h.VarDeclarator
    (node 0 h.BindingIdent (named 0 default r.Binding) ++ value) in
    let b = node_long 0 (h.VarDecl Const no_notes)
    (node 1 h.VarDeclarator (node 0 h.BindingIdent (named 0 default r.Binding) ++ value)) in
    stated_so s constant_spot place field its
    (record {
      place = 1 + 1 + 1 + 1;
      sym = default.0;
      ctxt = default.1;
      role = r.Binding;
      path =
          around_spot h.BindingIdent 3 0 ∷ around_spot h.VarDeclarator 2 0 ∷ around_spot (h.VarDecl Const no_notes)
          1 1
          ∷ around_spot h.Module 0 0 ∷ [];
    } ∷ [])
    (one_front refl (constant_front default))
    (constant_names default value)
    (occurrences_node (top_spot place field) f h.ExportDefaultExpr (first ∷ more)) (omega arith)
    (omega arith) (omega (arith, long)) (omega (arith, a, b))
  where
    constant_names : (default : Ident) (value : List Item) →
        occurrences_from first_spot (t.constant_declared default value)
        ≡ record {
          place = 1 + 1 + 1 + 1;
          sym = default.0;
          ctxt = default.1;
          role = r.Binding;
          path =
              around_spot h.BindingIdent 3 0 ∷ around_spot h.VarDeclarator 2 0 ∷ around_spot
              (h.VarDecl Const no_notes) 1 1
              ∷ around_spot h.Module 0 0 ∷ [];
        } ∷ occurrences_from constant_spot value
    constant_names default value =
        occurrences_node first_spot 0 (h.VarDecl Const no_notes)
        (node 1 h.VarDeclarator (node 0 h.BindingIdent (named 0 default r.Binding) ++ value))
        ∙ occurrences_node (past first_spot (h.Open 0 (h.VarDecl Const no_notes))) 1 h.VarDeclarator
        (node 0 h.BindingIdent (named 0 default r.Binding) ++ value)
stated-beside (t.OwnStates f inner name_field x ctxt role head body {made = within} is_head one) own
    steps behind is cover place field =
    let s : Spot = past (past (top_spot place field) (h.Open f h.ExportDefaultDecl))
    (h.Open inner head) in
    let own_body : List Item = h.Ident name_field x ctxt role ∷ body in
    let parts = default_parts steps f inner head own_body own cover in
    let it =
    part one parts.0 steps behind is parts.1 s (declared_spot 2 head)
    (λ R. in_declared R place field f inner 2 head is_head) in
    let a = node_long inner head own_body in
    let b = node_long f h.ExportDefaultDecl (node inner head own_body) in
    let c = node_long 0 (declaration_head head) within in
    stated_so s (declared_spot 2 head) place field it [] (no_front refl)
    (occurrences_node first_spot 0 (declaration_head head) within)
    (occurrences_node (top_spot place field) f h.ExportDefaultDecl (node inner head own_body)
    ∙ occurrences_node (past (top_spot place field) (h.Open f h.ExportDefaultDecl)) inner head
    own_body)
    (omega arith) (omega arith) (omega (arith, a, b)) (omega (arith, c))
stated-beside {default = default}
    (t.DefaultStates f inner first_field head first more {made = within} is_head one) own steps
    behind is cover place field =
    let s : Spot = past (past (top_spot place field) (h.Open f h.ExportDefaultDecl))
    (h.Open inner head) in
    let body : List Item = h.Open first_field first ∷ more in
    let parts = default_parts steps f inner head body own cover in
    let it =
    part one parts.0 steps behind is parts.1 s (declared_spot 3 head)
    (λ R. in_declared R place field f inner 3 head is_head) in
    let a = node_long inner head body in
    let b = node_long f h.ExportDefaultDecl (node inner head body) in
    let c = node_long 0 (declaration_head head) (named 0 default r.Binding ++ within) in
    stated_so s (declared_spot 3 head) place field it
    (record {
      place = 1 + 1;
      sym = default.0;
      ctxt = default.1;
      role = r.Binding;
      path = around_spot (declaration_head head) 1 0 ∷ around_spot h.Module 0 0 ∷ [];
    } ∷ [])
    (one_front refl (declared_front default head is_head))
    (occurrences_node first_spot 0 (declaration_head head) (named 0 default r.Binding ++ within))
    (occurrences_node (top_spot place field) f h.ExportDefaultDecl (node inner head body)
    ∙ occurrences_node (past (top_spot place field) (h.Open f h.ExportDefaultDecl)) inner head body)
    (omega arith) (omega arith) (omega (arith, a, b)) (omega (arith, c))
