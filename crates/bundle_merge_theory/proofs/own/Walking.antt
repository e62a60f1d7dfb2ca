-- What a walk makes of the names of a part of a tree, one by one, and where its nodes go.
use Rattle.std.proofs.Common.{◌≡◌, inl, inr, ℕ, ◌+◌, Bool, true, false, List, [], ◌∷◌, ◌++◌, Option, Some, None, drop, fold, length, append_assoc, append-nil, refl, ap, sym, ◌∙◌, subst, arith, bytes_eq, codes}
use Rattle.std.specs.Prelude.{⊤, slice_get, if◌then◌else◌}
use Rattle.std.specs.List.{AllZip}
use Rattle.std.proofs.lemmas.Bool.{false≢true}
use Rattle.std.proofs.lemmas.Option.{none-some, same_Some}
use Rattle.bundle_syntax.specs.declared.kind.MetaPropKind.{MetaPropKind}
use Rattle.bundle_syntax.specs.declared.kind.MetaPropKind.TheVariants as p
use Rattle.bundle_syntax.specs.declared.piece.Role.{Role}
use Rattle.bundle_syntax.specs.declared.piece.Role.TheVariants as r
use Rattle.bundle_syntax.specs.Item as h
use Rattle.bundle_syntax.specs.Item.{Item, Head}
use Rattle.bundle_tree_places.specs.Edits.{Around, Anywhere, InObject, InSpecifier, node, is_occurrence, around_in, in_its_place, binding, shorthand_in_its_place, pattern_in_its_place}
use Rattle.bundle_rules.specs.Places as places
use Rattle.bundle_rules.specs.Places.{Spot, in_field, past, Occurrence, occurrences_from, is_binding}
use Rattle.bundle_rules.specs.Scopes.{Es, Scope, scopes_around}
use Rattle.bundle_rules.specs.Declarations.{Way, way_of}
use Rattle.bundle_rules.specs.Nodes.{Text}
use Rattle.bundle_rules.specs.Idents.{Ident, ident_of}
use Rattle.bundle_rules.specs.Rebuilds.{Change, plain_key, key_in_object}
use Rattle.bundle_tree_rebuild.specs.Work.{Step, Work, upcoming, after, change_at}
use Rattle.bundle_tree_rebuild.specs.Becomes.{reference, kept_notes, name_for_meta}
use Rattle.bundle_merge_theory.specs.joined.Alike.{ScopesAlike}
use Rattle.bundle_merge_theory.specs.noted.Nodes as n
use Rattle.bundle_merge_theory.specs.noted.Nodes.{AreNodesInTurn}
use Rattle.bundle_merge_theory.specs.walked.Rewrites.{Rewrites, is_in_no_specifier}
use Rattle.bundle_merge_theory.specs.walked.Rewrites as e
use Rattle.bundle_merge_theory.proofs.noted.Shapes.{join, one_node, IsReads, base, read, reads_nodes, reads_inside, literal_call, literal_call_nodes}
use Rattle.bundle_merge_theory.proofs.noted.Spots.{around_spot, fold-path}
use Rattle.bundle_link.proofs.NodePaths.{fold-place, field-twice}
use Rattle.bundle_merge_theory.proofs.noted.Names.{name_first, occurrence_here, occurrences_node}
use Rattle.bundle_scope_names.proofs.Kept.{occurrences-append as occurrences_append}
use Rattle.bundle_merge_theory.proofs.walked.Keeping.{reads_found, call_found}
use Rattle.bundle_merge_theory.specs.own.Beside.{Pairs, Paired, SpotsBeside, MadeOf, AllMade, done, made, added}
use Rattle.bundle_merge_theory.proofs.own.Pairs.{paired-left, paired-right}
use Rattle.bundle_merge_theory.proofs.own.Slots.{same, declaration, spots-in, spots-behind}

-- Where nodes go.

-- how many elements more stand in front of a default value where the shorthand is spelled out
abbrev pub more_in_front : Bool → ℕ
more_in_front true = 7
more_in_front false = 4

-- the nodes of a part that begins at this place, and where they go from that place on
abbrev pub pairs : {its : Around} {work rest : Work} {before made : List Item} →
    Rewrites its work before made rest → ℕ → ℕ → Pairs
pairs e.Nothing from to = []
pairs (e.Joined {first = xs} {made_first = ys} one two) from to =
    pairs one from to ++ pairs two (from + length xs) (to + length ys)
pairs (e.Hole field) from to = []
pairs (e.Word field x ctxt role plain) from to = []
pairs (e.Name its field x ctxt role step occurs free takes) from to = []
pairs (e.Inside field head stays one) from to = (from, to) ∷ pairs one (from + 1) (to + 1)
pairs (e.Declaration field kind notes one) from to = (from, to) ∷ pairs one (from + 1) (to + 1)
pairs (e.Kept field head first {inside = xs} {made = ys} keeps one two) from to =
    (from, to) ∷ (from + 1, to + 1) ∷
    (pairs one (from + 1 + 1) (to + 1 + 1) ++ pairs two (from + 1 + length (node first h.MemberExpr xs)) (to + 1 + length (node first h.MemberExpr ys)))
pairs (e.Shorthand field x ctxt role step occurs takes one) from to =
    pairs one (from + 4) (to + more_in_front (change_at x step).is_spelled_out)
pairs (e.OfReads field name inside is) from to = []
pairs (e.OfCall field name inside is) from to = []
pairs (e.OfMeta field kind name is) from to = []

pub rewrites_nodes : {its : Around} {work rest : Work} {before made : List Item} →
    Rewrites its work before made rest → AreNodesInTurn before
rewrites_nodes e.Nothing = n.nothing
rewrites_nodes (e.Joined one two) = join (rewrites_nodes one) (rewrites_nodes two)
rewrites_nodes (e.Hole field) = n.hole n.nothing
rewrites_nodes (e.Word field x ctxt role plain) = n.name n.nothing
rewrites_nodes (e.Name its field x ctxt role step occurs free takes) = n.name n.nothing
rewrites_nodes (e.Inside field head stays one) = one_node field head (rewrites_nodes one)
rewrites_nodes (e.Declaration field kind notes one) =
    one_node field (h.VarDecl kind notes) (rewrites_nodes one)
rewrites_nodes (e.Kept field head first keeps one two) =
    one_node field head
    (join (one_node first h.MemberExpr (rewrites_nodes one)) (rewrites_nodes two))
rewrites_nodes (e.Shorthand field x ctxt role step occurs takes one) =
    one_node field h.AssignPatProp
    (join (one_node 0 h.BindingIdent (n.name n.nothing)) (rewrites_nodes one))
rewrites_nodes (e.OfReads {work = work} field name inside found) =
    let its = reads_found (upcoming work) inside name found in
    let shape = reads_inside field its.count inside its.reads in
    reads_nodes shape.reads
rewrites_nodes (e.OfCall {work = work} field name inside found) =
    let its = call_found (upcoming work) inside name found in
    one_node field h.CallExpr (literal_call_nodes (literal_call inside its.calls))
rewrites_nodes (e.OfMeta field kind name found) = one_node field (h.MetaPropExpr kind) n.nothing

-- Names.

-- in these elements stands just one name, with this identifier and role, and with these scopes
-- around it
record OneName (s : Spot) (items : List Item) (ident : Ident) (role : Role)
    (scopes : List Scope) : Type 0 where
  u : Occurrence
  is : occurrences_from s items ≡ u ∷ []
  ident_is : ident_of u ≡ ident
  role_is : u.role ≡ role
  way : Option Way
  way_is : way_of u.path ≡ way
  scopes_are : scopes_around Es u.path ≡ scopes

one_here : (s : Spot) (field : ℕ) (x : Text) (ctxt : ℕ) (role : Role) →
    is_occurrence role ≡ true →
    OneName s (h.Ident field x ctxt role ∷ []) (x, ctxt) role
    (scopes_around Es (in_field field s.path))
one_here s field x ctxt role occurs = record {
  u = occurrence_here s field x ctxt role;
  is = name_first s field x ctxt role [] occurs;
  ident_is = refl;
  role_is = refl;
  way = way_of (in_field field s.path);
  way_is = refl;
  scopes_are = refl;
}

-- a shorthand of an object literal, spelled out
spelled_one : (t : Spot) (field : ℕ) (x : Text) (ident : Ident) (role : Role) →
    is_occurrence role ≡ true → (b : Bool) →
    OneName t
    (node field h.KeyValueProp ((if b then h.Open 0 h.ComputedPropName ∷ h.Open 0 (h.Str x None)
    ∷ h.Close ∷ h.Close ∷ [] else plain_key x) ++ h.Ident 1 ident.0 ident.1 role ∷ []))
    ident role (scopes_around Es (in_field field t.path))
spelled_one t field x ident r.Word occurs b = absurd (false≢true occurs)
spelled_one t field x ident r.Binding occurs true = record {
  u = _;
  is = refl;
  ident_is = refl;
  role_is = refl;
  way = None;
  way_is = refl;
  scopes_are = refl;
}
spelled_one t field x ident r.Reference occurs true = record {
  u = _;
  is = refl;
  ident_is = refl;
  role_is = refl;
  way = None;
  way_is = refl;
  scopes_are = refl;
}
spelled_one t field x ident r.Binding occurs false = record {
  u = _;
  is = refl;
  ident_is = refl;
  role_is = refl;
  way = None;
  way_is = refl;
  scopes_are = refl;
}
spelled_one t field x ident r.Reference occurs false = record {
  u = _;
  is = refl;
  ident_is = refl;
  role_is = refl;
  way = None;
  way_is = refl;
  scopes_are = refl;
}

-- static reads: the name in a member expression sees the scopes around it
record OneRead (s : Spot) (items : List Item) (scopes : List Scope) : Type 0 where
  o : Occurrence
  is : occurrences_from s items ≡ o ∷ []
  role_is : o.role ≡ r.Reference
  scopes_are : scopes_around Es o.path ≡ scopes

read_in_member : {count : ℕ} {role : Role} {xs : List Item} → IsReads count role xs →
    role ≡ r.Reference → (place begins field : ℕ) (outer : List places.Around) →
    OneRead (record { place = place; path = around_spot h.MemberExpr begins field ∷ outer }) xs
    (scopes_around Es outer)
read_in_member (base {field = f} {ctxt = ctxt} {x = x} {role = role}) is place begins field outer =
    subst (λ (role : Role). OneRead (record { place = place; path = around_spot h.MemberExpr begins field ∷ outer }) (h.Ident f x ctxt role ∷ []) (scopes_around Es outer)) (sym is)
    (record { o = _; is = refl; role_is = refl; scopes_are = refl })
read_in_member (read {field = f} {object = object} second word it) is place begins field outer =
    let inner =
    read_in_member it is (place + 1) place 0 (around_spot h.MemberExpr begins f ∷ outer) in
    record {
      o = inner.o;
      is =
          occurrences_append (record { place = place + 1; path = around_spot h.MemberExpr place 0 ∷ around_spot h.MemberExpr begins f ∷ outer }) object (h.Open second (h.IdentName word) ∷ h.Close ∷ h.Close ∷ [])
          ∙ append-nil (occurrences_from (record { place = place + 1; path = around_spot h.MemberExpr place 0 ∷ around_spot h.MemberExpr begins f ∷ outer }) object)
          ∙ inner.is;
      role_is = inner.role_is;
      scopes_are = inner.scopes_are;
    }

one_read : {count : ℕ} {role : Role} {xs : List Item} → IsReads count role xs →
    role ≡ r.Reference → (field : ℕ) (inside : List Item) →
    xs ≡ node field h.MemberExpr inside → (s : Spot) →
    OneRead s (node field h.MemberExpr inside) (scopes_around Es (in_field field s.path))
one_read base is field inside equal s = absurd cc
one_read (read {field = f} {object = object} second word it) is field inside equal s =
    subst (λ l. OneRead s l (scopes_around Es (in_field field s.path))) equal
    (subst (λ n. OneRead s (h.Open f h.MemberExpr ∷ (object ++ h.Open second (h.IdentName word) ∷ h.Close ∷ h.Close ∷ [])) (scopes_around Es (in_field n s.path))) (ap number_of equal)
    (record {
      o = inner.o;
      is =
          occurrences_append (past s (h.Open f h.MemberExpr)) object (h.Open second (h.IdentName word) ∷ h.Close ∷ h.Close ∷ [])
          ∙ append-nil (occurrences_from (past s (h.Open f h.MemberExpr)) object)
          ∙ inner.is;
      role_is = inner.role_is;
      scopes_are = inner.scopes_are;
    }))
  where
    number_of : List Item → ℕ
    number_of (h.Open m hd ∷ rest) = m
    number_of _ = 0

    inner : OneRead (past s (h.Open f h.MemberExpr)) object (scopes_around Es (in_field f s.path))
    inner = read_in_member it is (s.place + 1) s.place 0 (in_field f s.path)

-- Walks.

-- the names of a part with their steps, and what is made of them
pub record Taken (R : ℕ → ℕ → Type 0) (work rest : Work) (os us : List Occurrence) : Type 0 where
  pub steps : List Step
  pub are : work.steps ≡ steps ++ rest.steps
  pub all : AllMade R work.meta os steps us
  pub meta : rest.meta ≡ work.meta

-- in an object literal nothing is declared
abbrev pub IsFine : Around → Spot → Type 0
IsFine InObject s = (field : ℕ) → way_of (in_field field s.path) ≡ None
IsFine Anywhere s = ⊤
IsFine InSpecifier s = ⊤

all_append : (R : ℕ → ℕ → Type 0) (meta : Option Ident) {os us its others : List Occurrence}
    {steps more : List Step} → AllMade R meta os steps us → AllMade R meta its more others →
    AllMade R meta (os ++ its) (steps ++ more) (us ++ others)
all_append R meta done two = two
all_append R meta (made it one) two = made it (all_append R meta one two)
all_append R meta (added refers is one) two = added refers is (all_append R meta one two)

first_step : (steps : List Step) (step : Step) → slice_get steps 0 ≡ Some step →
    steps ≡ step ∷ drop 1 steps
first_step [] step is = absurd (none-some step is)
first_step (other ∷ steps) step is = ap (λ one. one ∷ steps) (same_Some other step is)

taken_none : (R : ℕ → ℕ → Type 0) (work : Work) {os us : List Occurrence} → os ≡ [] → us ≡ [] →
    Taken R work work os us
taken_none R work {us = us} no_os no_us =
    subst (λ os. Taken R work work os us) (sym no_os)
    (subst (λ us. Taken R work work [] us) (sym no_us)
    (record { steps = []; are = refl; all = done; meta = refl }))

taken_one : (R : ℕ → ℕ → Type 0) (work : Work) (step : Step) {os us : List Occurrence}
    (o u : Occurrence) → upcoming work ≡ Some step → os ≡ o ∷ [] → us ≡ u ∷ [] →
    MadeOf R o u step → Taken R work (after work) os us
taken_one R work step {us = us} o u is one_o one_u it =
    subst (λ os. Taken R work (after work) os us) (sym one_o)
    (subst (λ us. Taken R work (after work) (o ∷ []) us) (sym one_u)
    (record { steps = step ∷ []; are = first_step work.steps step is; all = made it done; meta = refl }))

-- one after the other
both_lists : (R : ℕ → ℕ → Type 0) {work between rest : Work} {os us its others : List Occurrence} →
    Taken R work between os us → Taken R between rest its others →
    Taken R work rest (os ++ its) (us ++ others)
both_lists R {work = work} {rest = rest} {its = its} {others = others} one two = record {
  steps = one.steps ++ two.steps;
  are =
      one.are ∙ ap (λ l. one.steps ++ l) two.are
      ∙ sym (append_assoc one.steps two.steps rest.steps);
  all =
      all_append R work.meta one.all
      (subst (λ meta. AllMade R meta its two.steps others) one.meta two.all);
  meta = two.meta ∙ one.meta;
}

-- a name made of a name
name_made : (R : ℕ → ℕ → Type 0) (work : Work) (step : Step) {s t : Spot}
    {before after_it : List Item} {i : Ident} {role : Role} {ss ts : List Scope} →
    upcoming work ≡ Some step → (a : OneName s before i role ss) →
    (b : OneName t after_it step.ident role ts) →
    ((w : Way) → is_binding role ≡ true → a.way ≡ Some w → b.way ≡ Some w) →
    AllZip (ScopesAlike R) ss ts →
    Taken R work (after work) (occurrences_from s before) (occurrences_from t after_it)
name_made R work step {ss = ss} is a b ways scopes =
    taken_one R work step a.u b.u is a.is b.is (record {
      ident = b.ident_is;
      role = b.role_is ∙ sym a.role_is;
      way =
          λ w binds there.
          b.way_is ∙ ways w (ap is_binding (sym a.role_is) ∙ binds) (sym a.way_is ∙ there);
      scopes =
          subst (λ ss. AllZip (ScopesAlike R) ss (scopes_around Es b.u.path)) (sym a.scopes_are)
          (subst (λ its. AllZip (ScopesAlike R) ss its) (sym b.scopes_are) scopes);
    })

place_made : (R : ℕ → ℕ → Type 0) (work : Work) (step : Step) (its : Around) (s t : Spot)
    (field : ℕ) (x : Text) (ctxt : ℕ) (role : Role) → is_occurrence role ≡ true →
    is_in_no_specifier its ≡ true → upcoming work ≡ Some step → SpotsBeside R s t →
    IsFine its s →
    Taken R work (after work) (occurrences_from s (h.Ident field x ctxt role ∷ []))
    (occurrences_from t (in_its_place its (Some (change_at x step)) field x ctxt role))
unfolding one_here spelled_one
place_made R work step Anywhere s t field x ctxt role occurs free is beside fine =
    name_made R work step is (one_here s field x ctxt role occurs)
    (one_here t field step.ident.0 step.ident.1 role occurs)
    (λ w binds there. (beside field).way w there) (beside field).scopes
place_made R work step InSpecifier s t field x ctxt role occurs free is beside fine =
    absurd (false≢true free)
place_made R work step InObject s t field x ctxt role occurs free is beside fine =
    by_test (change_at x step).is_spelled_out
  where
    by_test : (b : Bool) →
        Taken R work (after work) (occurrences_from s (h.Ident field x ctxt role ∷ []))
        (occurrences_from t (if b then node field h.KeyValueProp (key_in_object x ++ h.Ident 1 step.ident.0 step.ident.1 role ∷ [])
        else h.Ident field step.ident.0 step.ident.1 role ∷ []))
    by_test true =
        name_made R work step is (one_here s field x ctxt role occurs)
        (spelled_one t field x step.ident role occurs (bytes_eq x (codes "__proto__")))
        (λ w binds there. absurd (none-some w (sym (fine field) ∙ there))) (beside field).scopes
    by_test false =
        name_made R work step is (one_here s field x ctxt role occurs)
        (one_here t field step.ident.0 step.ident.1 role occurs)
        (λ w binds there. (beside field).way w there) (beside field).scopes

word_none : (s : Spot) (field : ℕ) (x : Text) (ctxt : ℕ) (role : Role) →
    is_occurrence role ≡ false → occurrences_from s (h.Ident field x ctxt role ∷ []) ≡ []
word_none s field x ctxt r.Word plain = refl
word_none s field x ctxt r.Binding plain = absurd (false≢true (sym plain))
word_none s field x ctxt r.Reference plain = absurd (false≢true (sym plain))

inner_fine : (head : Head) (inside : List Item) (s : Spot) (field : ℕ) →
    IsFine (around_in head inside) (past s (h.Open field head))
inner_fine h.ObjectLit inside s field = λ inner. refl
inner_fine h.ImportNamedSpecifier [] s field = tt
inner_fine h.ImportNamedSpecifier (x ∷ []) s field = tt
inner_fine h.ImportNamedSpecifier (x ∷ y ∷ rest) s field = tt
inner_fine h.ExportNamedSpecifier [] s field = tt
inner_fine h.ExportNamedSpecifier (x ∷ []) s field = tt
inner_fine h.ExportNamedSpecifier (x ∷ y ∷ rest) s field = tt
inner_fine _ inside s field = tt

fine_behind : (its : Around) (s : Spot) {xs : List Item} → AreNodesInTurn xs → IsFine its s →
    IsFine its (fold past s xs)
fine_behind Anywhere s are fine = tt
fine_behind InSpecifier s are fine = tt
fine_behind InObject s are fine =
    λ field.
    let a = fold-path are s in
    ap way_of (ap (in_field field) a.1 ∙ field-twice field a.0 s.path) ∙ fine field

both_taken : (R : ℕ → ℕ → Type 0) {work between rest : Work} (s t : Spot) (xs ys us vs : List Item) →
    Taken R work between (occurrences_from s xs) (occurrences_from t us) →
    Taken R between rest (occurrences_from (fold past s xs) ys) (occurrences_from (fold past t us) vs) →
    Taken R work rest (occurrences_from s (xs ++ ys)) (occurrences_from t (us ++ vs))
both_taken R {work = work} {between = between} {rest = rest} s t xs ys us vs one two =
    subst (λ os. Taken R work rest os (occurrences_from t (us ++ vs))) (sym (occurrences_append s xs ys))
    (subst (λ them. Taken R work rest (occurrences_from s xs ++ occurrences_from (fold past s xs) ys) them) (sym (occurrences_append t us vs))
    (both_lists R one two))

node_taken : (R : ℕ → ℕ → Type 0) {work rest : Work} (s t : Spot) (field : ℕ) (head its : Head)
    (inside within : List Item) →
    Taken R work rest (occurrences_from (past s (h.Open field head)) inside)
    (occurrences_from (past t (h.Open field its)) within) →
    Taken R work rest (occurrences_from s (node field head inside))
    (occurrences_from t (node field its within))
node_taken R {work = work} {rest = rest} s t field head its inside within it =
    subst (λ os. Taken R work rest os (occurrences_from t (node field its within)))
    (sym (occurrences_node s field head inside))
    (subst (λ us. Taken R work rest (occurrences_from (past s (h.Open field head)) inside) us)
    (sym (occurrences_node t field its within)) it)

-- A shorthand of a pattern.

-- in these elements stands first a name, and then what stands behind it
shorthand_name : (s : Spot) (field : ℕ) (x : Text) (ctxt : ℕ) (role : Role) →
    is_occurrence role ≡ true →
    OneName (past s (h.Open field h.AssignPatProp)) (binding None 0 x ctxt role) (x, ctxt) role
    (scopes_around Es (in_field field s.path))
shorthand_name s field x ctxt r.Word occurs = absurd (false≢true occurs)
shorthand_name s field x ctxt r.Binding occurs = record {
  u = _;
  is = refl;
  ident_is = refl;
  role_is = refl;
  way = way_of (in_field field s.path);
  way_is = refl;
  scopes_are = refl;
}
shorthand_name s field x ctxt r.Reference occurs = record {
  u = _;
  is = refl;
  ident_is = refl;
  role_is = refl;
  way = way_of (in_field field s.path);
  way_is = refl;
  scopes_are = refl;
}

-- the same where it is spelled out without a default value
spelled_pattern : (t : Spot) (field : ℕ) (x : Text) (ident : Ident) (role : Role) →
    is_occurrence role ≡ true →
    OneName t
    (node field h.KeyValuePatProp (plain_key x ++ node 1 h.BindingIdent (h.Ident 0 ident.0 ident.1 role ∷ [])))
    ident role (scopes_around Es (in_field field t.path))
spelled_pattern t field x ident r.Word occurs = absurd (false≢true occurs)
spelled_pattern t field x ident r.Binding occurs = record {
  u = _;
  is = refl;
  ident_is = refl;
  role_is = refl;
  way = way_of (in_field field t.path);
  way_is = refl;
  scopes_are = refl;
}
spelled_pattern t field x ident r.Reference occurs = record {
  u = _;
  is = refl;
  ident_is = refl;
  role_is = refl;
  way = way_of (in_field field t.path);
  way_is = refl;
  scopes_are = refl;
}

-- and in front of one
abbrev in_front : Text → Ident → Role → List Item
in_front x ident role =
    h.Open 1 h.AssignPat ∷ node 0 h.BindingIdent (h.Ident 0 ident.0 ident.1 role ∷ [])

default_front : (t : Spot) (field : ℕ) (x : Text) (ident : Ident) (role : Role) →
    is_occurrence role ≡ true →
    OneName (past t (h.Open field h.KeyValuePatProp)) (plain_key x ++ in_front x ident role) ident
    role (scopes_around Es (in_field field t.path))
default_front t field x ident r.Word occurs = absurd (false≢true occurs)
default_front t field x ident r.Binding occurs = record {
  u = _;
  is = refl;
  ident_is = refl;
  role_is = refl;
  way = way_of (in_field field t.path);
  way_is = refl;
  scopes_are = refl;
}
default_front t field x ident r.Reference occurs = record {
  u = _;
  is = refl;
  ident_is = refl;
  role_is = refl;
  way = way_of (in_field field t.path);
  way_is = refl;
  scopes_are = refl;
}

-- the spots behind the names
abbrev behind_short : Spot → ℕ → Spot
behind_short s field =
    record { place = s.place + 1 + 1 + 1 + 1; path = around_spot h.AssignPatProp s.place 0 ∷ in_field field s.path }

abbrev behind_spelled : Spot → ℕ → Spot
behind_spelled t field =
    record {
      place = t.place + 1 + 1 + 1 + 1 + 1 + 1 + 1;
      path =
          around_spot h.AssignPat (t.place + 1 + 1 + 1) 0 ∷ around_spot h.KeyValuePatProp t.place 1 ∷ in_field field t.path;
    }

short_beside : (R : ℕ → ℕ → Type 0) (s t : Spot) (field : ℕ) → SpotsBeside R s t →
    SpotsBeside R (behind_short s field) (behind_short t field)
short_beside R s t field beside = λ inner. record {
  block = refl;
  default = refl;
  loop = refl;
  declarator = refl;
  way = (beside field).way;
  scopes = (beside field).scopes;
}

spelled_beside : (R : ℕ → ℕ → Type 0) (s t : Spot) (field : ℕ) → SpotsBeside R s t →
    SpotsBeside R (behind_short s field) (behind_spelled t field)
spelled_beside R s t field beside = λ inner. record {
  block = refl;
  default = refl;
  loop = refl;
  declarator = refl;
  way = (beside field).way;
  scopes = (beside field).scopes;
}

-- what is made of a shorthand
short_front : (s : Spot) (field : ℕ) (x : Text) (ctxt : ℕ) (role : Role) (default : List Item) →
    occurrences_from s (node field h.AssignPatProp (binding None 0 x ctxt role ++ default))
    ≡ occurrences_from (past s (h.Open field h.AssignPatProp)) (binding None 0 x ctxt role)
    ++ occurrences_from (behind_short s field) default
short_front s field x ctxt role default =
    occurrences_node s field h.AssignPatProp (binding None 0 x ctxt role ++ default)
    ∙ occurrences_append (past s (h.Open field h.AssignPatProp)) (binding None 0 x ctxt role) default

spelled_front : (t : Spot) (field : ℕ) (x : Text) (ident : Ident) (role : Role)
    (within : List Item) →
    occurrences_from t (node field h.KeyValuePatProp (plain_key x ++ node 1 h.AssignPat (node 0 h.BindingIdent (h.Ident 0 ident.0 ident.1 role ∷ []) ++ within)))
    ≡ occurrences_from (past t (h.Open field h.KeyValuePatProp)) (plain_key x ++ in_front x ident role)
    ++ occurrences_from (behind_spelled t field) within
spelled_front t field x ident role within =
    occurrences_node t field h.KeyValuePatProp (plain_key x ++ node 1 h.AssignPat (node 0 h.BindingIdent (h.Ident 0 ident.0 ident.1 role ∷ []) ++ within))
    ∙ occurrences_append (past t (h.Open field h.KeyValuePatProp)) (plain_key x ++ in_front x ident role) (within ++ h.Close ∷ [])
    ∙ ap (λ l. occurrences_from (past t (h.Open field h.KeyValuePatProp)) (plain_key x ++ in_front x ident role) ++ l)
    (occurrences_append (behind_spelled t field) within (h.Close ∷ [])
    ∙ append-nil (occurrences_from (behind_spelled t field) within))

-- the place behind the names, spelled out or not
abbrev behind_names : Bool → Spot → ℕ → Spot
behind_names true t field = behind_spelled t field
behind_names false t field = behind_short t field

short_taken : (R : ℕ → ℕ → Type 0) (work rest : Work) (step : Step) (s t : Spot) (field : ℕ)
    (x : Text) (ctxt : ℕ) (role : Role) (default : List Item) →
    is_occurrence role ≡ true → upcoming work ≡ Some step → SpotsBeside R s t →
    (b : Bool) (within : List Item) →
    Taken R (after work) rest (occurrences_from (behind_short s field) default)
    (occurrences_from (behind_names b t field) within) →
    Taken R work rest
    (occurrences_from s (node field h.AssignPatProp (binding None 0 x ctxt role ++ default)))
    (occurrences_from t (if b then node field h.KeyValuePatProp (plain_key x ++ pattern_in_its_place (Some (change_at x step)) x ctxt role within)
    else node field h.AssignPatProp (binding (Some (change_at x step)) 0 x ctxt role ++ within)))
unfolding shorthand_name spelled_pattern default_front
short_taken R work rest step s t field x ctxt role default occurs is beside false within behind =
    subst (λ os. Taken R work rest os (occurrences_from t (node field h.AssignPatProp (binding (Some (change_at x step)) 0 x ctxt role ++ within))))
    (sym (short_front s field x ctxt role default))
    (subst (λ us. Taken R work rest (occurrences_from (past s (h.Open field h.AssignPatProp)) (binding None 0 x ctxt role) ++ occurrences_from (behind_short s field) default) us)
    (sym (short_front t field step.ident.0 step.ident.1 role within))
    (both_lists R
    (name_made R work step is (shorthand_name s field x ctxt role occurs)
    (shorthand_name t field step.ident.0 step.ident.1 role occurs)
    (way_so role occurs) (beside field).scopes)
    behind))
  where
    way_so : (role : Role) (occurs : is_occurrence role ≡ true) → (w : Way) →
        is_binding role ≡ true →
        (shorthand_name s field x ctxt role occurs).way ≡ Some w →
        (shorthand_name t field step.ident.0 step.ident.1 role occurs).way ≡ Some w
    way_so r.Binding occurs w binds there = (beside field).way w there
    way_so r.Reference occurs w binds there = absurd (false≢true binds)
    way_so r.Word occurs w binds there = absurd (false≢true binds)
short_taken R work rest step s t field x ctxt role default occurs is beside true [] behind =
    subst (λ os. Taken R work rest os (occurrences_from t (node field h.KeyValuePatProp (plain_key x ++ node 1 h.BindingIdent (h.Ident 0 step.ident.0 step.ident.1 role ∷ [])))))
    (sym (short_front s field x ctxt role default))
    (subst (λ us. Taken R work rest (occurrences_from (past s (h.Open field h.AssignPatProp)) (binding None 0 x ctxt role) ++ occurrences_from (behind_short s field) default) us)
    (append-nil (occurrences_from t (node field h.KeyValuePatProp (plain_key x ++ node 1 h.BindingIdent (h.Ident 0 step.ident.0 step.ident.1 role ∷ [])))))
    (both_lists R
    (name_made R work step is (shorthand_name s field x ctxt role occurs)
    (spelled_pattern t field x step.ident role occurs)
    (way_so role occurs) (beside field).scopes)
    behind))
  where
    way_so : (role : Role) (occurs : is_occurrence role ≡ true) → (w : Way) →
        is_binding role ≡ true →
        (shorthand_name s field x ctxt role occurs).way ≡ Some w →
        (spelled_pattern t field x step.ident role occurs).way ≡ Some w
    way_so r.Binding occurs w binds there = (beside field).way w there
    way_so r.Reference occurs w binds there = absurd (false≢true binds)
    way_so r.Word occurs w binds there = absurd (false≢true binds)
short_taken R work rest step s t field x ctxt role default occurs is beside true (first ∷ more) behind =
    subst (λ os. Taken R work rest os (occurrences_from t (node field h.KeyValuePatProp (plain_key x ++ node 1 h.AssignPat (node 0 h.BindingIdent (h.Ident 0 step.ident.0 step.ident.1 role ∷ []) ++ first ∷ more)))))
    (sym (short_front s field x ctxt role default))
    (subst (λ us. Taken R work rest (occurrences_from (past s (h.Open field h.AssignPatProp)) (binding None 0 x ctxt role) ++ occurrences_from (behind_short s field) default) us)
    (sym (spelled_front t field x step.ident role (first ∷ more)))
    (both_lists R
    (name_made R work step is (shorthand_name s field x ctxt role occurs)
    (default_front t field x step.ident role occurs)
    (way_so role occurs) (beside field).scopes)
    behind))
  where
    way_so : (role : Role) (occurs : is_occurrence role ≡ true) → (w : Way) →
        is_binding role ≡ true →
        (shorthand_name s field x ctxt role occurs).way ≡ Some w →
        (default_front t field x step.ident role occurs).way ≡ Some w
    way_so r.Binding occurs w binds there = (beside field).way w there
    way_so r.Reference occurs w binds there = absurd (false≢true binds)
    way_so r.Word occurs w binds there = absurd (false≢true binds)

-- what is made is whole nodes too

key_nodes : (x : Text) (b : Bool) →
    AreNodesInTurn (if b then h.Open 0 h.ComputedPropName ∷ h.Open 0 (h.Str x None) ∷ h.Close ∷ h.Close ∷ [] else plain_key x)
key_nodes x true = one_node 0 h.ComputedPropName (one_node 0 (h.Str x None) n.nothing)
key_nodes x false = one_node 0 (h.IdentName x) n.nothing

place_nodes : (its : Around) (change : Change) (field : ℕ) (x : Text) (ctxt : ℕ) (role : Role) →
    AreNodesInTurn (in_its_place its (Some change) field x ctxt role)
place_nodes Anywhere change field x ctxt role = n.name n.nothing
place_nodes InObject change field x ctxt role = by_test change.is_spelled_out
  where
    by_test : (b : Bool) →
        AreNodesInTurn (if b then node field h.KeyValueProp (key_in_object x ++ h.Ident 1 change.ident.0 change.ident.1 role ∷ [])
        else h.Ident field change.ident.0 change.ident.1 role ∷ [])
    by_test true =
        one_node field h.KeyValueProp (join (key_nodes x (bytes_eq x (codes "__proto__"))) (n.name n.nothing))
    by_test false = n.name n.nothing
place_nodes InSpecifier change field x ctxt role = by_test change.is_spelled_out
  where
    by_test : (b : Bool) →
        AreNodesInTurn (if b then h.Ident field change.ident.0 change.ident.1 role ∷ h.Ident 1 x 0 r.Word ∷ []
        else h.Ident field change.ident.0 change.ident.1 role ∷ [])
    by_test true = n.name (n.name n.nothing)
    by_test false = n.name n.nothing

pattern_nodes : (change : Change) (x : Text) (ctxt : ℕ) (role : Role) (within : List Item) →
    AreNodesInTurn within → AreNodesInTurn (pattern_in_its_place (Some change) x ctxt role within)
pattern_nodes change x ctxt role [] are = one_node 1 h.BindingIdent (n.name n.nothing)
pattern_nodes change x ctxt role (first ∷ more) are =
    one_node 1 h.AssignPat (join (one_node 0 h.BindingIdent (n.name n.nothing)) are)

short_nodes : (change : Change) (field : ℕ) (x : Text) (ctxt : ℕ) (role : Role)
    (within : List Item) → AreNodesInTurn within →
    AreNodesInTurn (shorthand_in_its_place (Some change) field x ctxt role within)
short_nodes change field x ctxt role within are = by_test change.is_spelled_out
  where
    by_test : (b : Bool) →
        AreNodesInTurn (if b then node field h.KeyValuePatProp (plain_key x ++ pattern_in_its_place (Some change) x ctxt role within)
        else node field h.AssignPatProp (binding (Some change) 0 x ctxt role ++ within))
    by_test true =
        one_node field h.KeyValuePatProp (join (one_node 0 (h.IdentName x) n.nothing) (pattern_nodes change x ctxt role within are))
    by_test false =
        one_node field h.AssignPatProp (join (one_node 0 h.BindingIdent (n.name n.nothing)) are)

pub rewritten_nodes : {its : Around} {work rest : Work} {before within : List Item} →
    Rewrites its work before within rest → AreNodesInTurn within
rewritten_nodes e.Nothing = n.nothing
rewritten_nodes (e.Joined one two) = join (rewritten_nodes one) (rewritten_nodes two)
rewritten_nodes (e.Hole field) = n.hole n.nothing
rewritten_nodes (e.Word field x ctxt role plain) = n.name n.nothing
rewritten_nodes (e.Name its field x ctxt role step occurs free takes) =
    place_nodes its (change_at x step) field x ctxt role
rewritten_nodes (e.Inside field head stays one) = one_node field head (rewritten_nodes one)
rewritten_nodes (e.Declaration {work = work} field kind notes one) =
    one_node field (h.VarDecl kind (kept_notes work.clears_notes notes)) (rewritten_nodes one)
rewritten_nodes (e.Kept field head first keeps one two) =
    one_node field head
    (join (one_node first h.MemberExpr (rewritten_nodes one)) (rewritten_nodes two))
rewritten_nodes (e.Shorthand field x ctxt role step {made = within} occurs takes one) =
    short_nodes (change_at x step) field x ctxt role within (rewritten_nodes one)
rewritten_nodes (e.OfReads field name inside found) = n.name n.nothing
rewritten_nodes (e.OfCall field name inside found) = one_node field h.CallExpr (n.name n.nothing)
rewritten_nodes (e.OfMeta field kind name found) = n.name n.nothing

-- the name of a literal call
called_one : (s : Spot) (field callee : ℕ) (x : Text) (ctxt : ℕ) (arguments : List Item) →
    ((s : Spot) → occurrences_from s arguments ≡ []) →
    occurrences_from s (node field h.CallExpr (h.Ident callee x ctxt r.Reference ∷ arguments))
    ≡ occurrence_here (past s (h.Open field h.CallExpr)) callee x ctxt r.Reference ∷ []
called_one s field callee x ctxt arguments none =
    occurrences_node s field h.CallExpr (h.Ident callee x ctxt r.Reference ∷ arguments)
    ∙ ap (λ l. occurrence_here (past s (h.Open field h.CallExpr)) callee x ctxt r.Reference ∷ l)
    (none (past (past s (h.Open field h.CallExpr)) (h.Ident callee x ctxt r.Reference)))

meta_found : (meta : Option Ident) (kind : MetaPropKind) (name : Ident) →
    name_for_meta meta kind ≡ Some name → meta ≡ Some name
meta_found meta p.ImportMeta name is = is
meta_found meta p.NewTarget name is = absurd (none-some name is)

-- the pairs of a part at other numbers
moved_pairs : (R : ℕ → ℕ → Type 0) {its : Around} {work rest : Work} {before within : List Item}
    (d : Rewrites its work before within rest) (from to new other : ℕ) → new ≡ from → other ≡ to →
    ((a b : ℕ) → Paired (pairs d from to) a b → R a b) →
    (a b : ℕ) → Paired (pairs d new other) a b → R a b
moved_pairs R d from to new other one two all a b there =
    all a b (subst (λ n. Paired (pairs d from n) a b) two
    (subst (λ n. Paired (pairs d n other) a b) one there))

-- what is made of the names of a part, one by one
pub walked : {its : Around} {work rest : Work} {before within : List Item}
    (d : Rewrites its work before within rest) (s t : Spot) (R : ℕ → ℕ → Type 0) →
    SpotsBeside R s t → IsFine its s →
    ((a b : ℕ) → Paired (pairs d s.place t.place) a b → R a b) →
    Taken R work rest (occurrences_from s before) (occurrences_from t within)
walked {work = work} e.Nothing s t R beside fine all = taken_none R work refl refl
walked {its = its} (e.Joined {first = xs} {made_first = us} {second = ys} {made_second = vs} one two) s t R beside fine all =
    let first = rewrites_nodes one in
    let made_nodes = rewritten_nodes one in
    both_taken R s t xs ys us vs
    (walked one s t R beside fine
    (λ a b there. all a b (paired-left (pairs one s.place t.place) (pairs two (s.place + length xs) (t.place + length us)) a b there)))
    (walked two (fold past s xs) (fold past t us) R (spots-behind R s t beside first made_nodes)
    (fine_behind its s first fine)
    (moved_pairs R two (s.place + length xs) (t.place + length us) (fold past s xs).place (fold past t us).place (fold-place s xs) (fold-place t us)
    (λ a b there. all a b (paired-right (pairs one s.place t.place) (pairs two (s.place + length xs) (t.place + length us)) a b there))))
walked {work = work} (e.Hole field) s t R beside fine all = taken_none R work refl refl
walked {work = work} (e.Word field x ctxt role plain) s t R beside fine all =
    taken_none R work (word_none s field x ctxt role plain) (word_none t field x ctxt role plain)
walked {work = work} (e.Name its field x ctxt role step occurs free takes) s t R beside fine all =
    place_made R work step its s t field x ctxt role occurs free takes.is beside fine
walked (e.Inside field head {inside = xs} {made = us} stays one) s t R beside fine all =
    node_taken R s t field head head xs us
    (walked one (past s (h.Open field head)) (past t (h.Open field head)) R
    (spots-in R s t beside field same (all s.place t.place (inl (refl, refl))))
    (inner_fine head xs s field) (λ a b there. all a b (inr there)))
walked (e.Declaration {work = work} field kind notes {inside = xs} {made = us} one) s t R beside fine all =
    node_taken R s t field (h.VarDecl kind notes) (h.VarDecl kind (kept_notes work.clears_notes notes)) xs us
    (walked one (past s (h.Open field (h.VarDecl kind notes))) (past t (h.Open field (h.VarDecl kind (kept_notes work.clears_notes notes)))) R
    (spots-in R s t beside field declaration (all s.place t.place (inl (refl, refl)))) tt
    (λ a b there. all a b (inr there)))
walked (e.Kept field head number {inside = xs} {made = us} {more = ys} {made_more = vs} keeps one two) s t R beside fine all =
    let s1 : Spot = past s (h.Open field head) in
    let t1 : Spot = past t (h.Open field head) in
    let object : List Item = node number h.MemberExpr xs in
    let its : List Item = node number h.MemberExpr us in
    let within = spots-in R s t beside field same (all s.place t.place (inl (refl, refl))) in
    let inner = spots-in R s1 t1 within number same (all (s.place + 1) (t.place + 1) (inr (inl (refl, refl)))) in
    node_taken R s t field head head (object ++ ys) (its ++ vs)
    (both_taken R s1 t1 object ys its vs
    (node_taken R s1 t1 number h.MemberExpr h.MemberExpr xs us
    (walked one (past s1 (h.Open number h.MemberExpr)) (past t1 (h.Open number h.MemberExpr)) R inner tt
    (λ a b there. all a b (inr (inr (paired-left (pairs one (s.place + 1 + 1) (t.place + 1 + 1)) (pairs two (s.place + 1 + length object) (t.place + 1 + length its)) a b there))))))
    (walked two (fold past s1 object) (fold past t1 its) R
    (spots-behind R s1 t1 within (one_node number h.MemberExpr (rewrites_nodes one)) (one_node number h.MemberExpr (rewritten_nodes one))) tt
    (moved_pairs R two (s.place + 1 + length object) (t.place + 1 + length its) (fold past s1 object).place (fold past t1 its).place (fold-place s1 object) (fold-place t1 its)
    (λ a b there. all a b (inr (inr (paired-right (pairs one (s.place + 1 + 1) (t.place + 1 + 1)) (pairs two (s.place + 1 + length object) (t.place + 1 + length its)) a b there)))))))
walked {rest = rest} (e.Shorthand {work = work} field x ctxt role step {default = xs} {made = us} occurs takes one) s t R beside fine all =
    short_taken R work rest step s t field x ctxt role xs occurs takes.is beside
    (change_at x step).is_spelled_out us
    (by_test (change_at x step).is_spelled_out
    (λ t1 near places. walked one (behind_short s field) t1 R near tt
    (moved_pairs R one (s.place + 4) (t.place + more_in_front (change_at x step).is_spelled_out) (behind_short s field).place t1.place (four s.place) places all)))
  where
    four : (n : ℕ) → n + 1 + 1 + 1 + 1 ≡ n + 4
    four n = omega arith

    seven : (n : ℕ) → n + 1 + 1 + 1 + 1 + 1 + 1 + 1 ≡ n + 7
    seven n = omega arith

    by_test : (b : Bool) →
        ((t1 : Spot) → SpotsBeside R (behind_short s field) t1 → t1.place ≡ t.place + more_in_front b →
        Taken R (after work) rest (occurrences_from (behind_short s field) xs) (occurrences_from t1 us)) →
        Taken R (after work) rest (occurrences_from (behind_short s field) xs) (occurrences_from (behind_names b t field) us)
    by_test true go = go (behind_spelled t field) (spelled_beside R s t field beside) (seven t.place)
    by_test false go = go (behind_short t field) (short_beside R s t field beside) (four t.place)
walked (e.OfReads {work = work} field name inside found) s t R beside fine all =
    let its = reads_found (upcoming work) inside name found in
    let shape = reads_inside field its.count inside its.reads in
    let o = one_read shape.reads refl field inside refl s in
    taken_one R work its.step o.o _ its.is o.is refl (record {
      ident = sym its.named;
      role = sym o.role_is;
      way = λ w binds there. absurd (false≢true (sym (ap is_binding o.role_is) ∙ binds));
      scopes = subst (λ ss. AllZip (ScopesAlike R) ss (scopes_around Es (in_field field t.path))) (sym o.scopes_are) (beside field).scopes;
    })
walked (e.OfCall {work = work} field name inside found) s t R beside fine all =
    let its = call_found (upcoming work) inside name found in
    let call = literal_call inside its.calls in
    subst (λ l. Taken R work (after work) (occurrences_from s (node field h.CallExpr l)) (occurrences_from t (node field h.CallExpr (reference 0 name)))) (sym call.is)
    (taken_one R work its.step _ _ its.is (called_one s field call.field call.x call.ctxt call.arguments call.no_names) refl (record {
      ident = sym its.named;
      role = refl;
      way = λ w binds there. absurd (false≢true binds);
      scopes = (beside field).scopes;
    }))
walked {work = work} (e.OfMeta field kind name found) s t R beside fine all = record {
  steps = [];
  are = refl;
  all = added refl (meta_found work.meta kind name found) done;
  meta = refl;
}
