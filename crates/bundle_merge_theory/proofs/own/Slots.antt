-- Nodes that make the same of what stands in them.
-- One node or one name in front of a list that is fit: the sort as which it stands there, what may
-- stand in its place, and the fields that are left.
use Rattle.std.proofs.Common.{◌≡◌, ℕ, Bool, true, false, cond, List, ◌∷◌, ◌++◌, Option, Some, None, fold, refl, ap, sym, ◌∙◌, subst, ◌⊎◌, inl, inr, ◌&&◌, ◌||◌, []}
use Rattle.std.specs.List.{AllZip}
use Rattle.std.proofs.lemmas.Bool.{false≢true, and_parts, and_from, or_cases, or_left}
use Rattle.bundle_syntax.specs.declared.kind.ExportMetadata.{ExportMetadata}
use Rattle.bundle_syntax.specs.declared.kind.VarDeclKind.{VarDeclKind}
use Rattle.bundle_syntax.specs.Item as h
use Rattle.bundle_syntax.specs.Item.{Item, Head}
use Rattle.bundle_syntax.specs.declared.piece.Role.{Role}
use Rattle.bundle_syntax.specs.declared.kind.VarDeclKind.TheVariants as v
use Rattle.bundle_syntax.specs.declared.piece.Role.TheVariants
use Rattle.bundle_rules.specs.Places.{Around, Spot, in_field, past}
use Rattle.bundle_rules.specs.Scopes.{Es, ScopeKind, FunctionName, ClassName, kind_of_scope, scope_at, scopes_around}
use Rattle.bundle_rules.specs.Declarations.{Way, ByFunction, ByFunctionName, ByClass, ByClassName, ByLoop, ByLet, ByConst, is_pattern, way_of_variable, way_in, way_of}
use Rattle.bundle_scope_names.specs.fit.Sorts.{NodeSort, ATarget, ALink, NodeCount, One, Optional, Many, Places, NodeSlot, slot, takes_head, takes_name, names_of_sort, slots}
use Rattle.bundle_scope_names.specs.fit.Fits.{is_count_needed, fields_after, AreFit, no_more, over, a_name, a_hole, a_node, IsFit}
use Rattle.bundle_scope_names.specs.fit.Seen.{each_slot}
use Rattle.bundle_scope_names.proofs.fit.Rows.{is_own, fit as front_of}
use Rattle.bundle_scope_names.proofs.fit.Keys.{after_slot}
use Rattle.bundle_link.proofs.NodePaths.{field-twice}
use Rattle.bundle_merge_theory.specs.joined.Alike.{ScopesAlike, inners}
use Rattle.bundle_merge_theory.specs.noted.Nodes.{AreNodesInTurn}
use Rattle.bundle_merge_theory.proofs.noted.Spots.{around_spot, fold-path}
use Rattle.bundle_merge_theory.proofs.noted.Shapes.{same_nodes, tail_same}
use Rattle.bundle_merge_theory.specs.own.Beside.{PathsBeside, SpotsBeside}
use Rattle.bundle_merge_theory.proofs.fit.Facts.{fit_nodes}
use Rattle.bundle_merge_theory.proofs.fit.Clearing.{is_one as is_once}

-- ---- paths

-- the same head, but for notes of a declaration
pub data LikeHead : Head → Head → Type 0 where
  same : {head : Head} → LikeHead head head
  declaration : {kind : VarDeclKind} {a b : ExportMetadata} →
      LikeHead (h.VarDecl kind a) (h.VarDecl kind b)

module _ (R : ℕ → ℕ → Type 0) (ps qs : List Around) (beside : PathsBeside R ps qs) where
  kind-same : (head : Head) (field : ℕ) → kind_of_scope head field qs ≡ kind_of_scope head field ps
  kind-same h.BlockStmt field = ap Some beside.block
  kind-same h.FnExpr field = ap (λ b. cond b None (Some FunctionName)) beside.default
  kind-same h.ClassExpr field = ap (λ b. cond b None (Some ClassName)) beside.default
  kind-same _ field = refl

  variable-same : (head : Head) → way_of_variable head qs ≡ way_of_variable head ps
  variable-same (h.VarDecl v.Var meta) = refl
  variable-same (h.VarDecl v.Let meta) = ap (λ b. Some (cond b ByLoop ByLet)) beside.loop
  variable-same (h.VarDecl v.Const meta) = ap (λ b. Some (cond b ByLoop ByConst)) beside.loop
  variable-same _ = refl

  way-same : (head : Head) → way_in head qs ≡ way_in head ps
  way-same h.VarDeclarator = beside.declarator
  way-same h.FnExpr = ap (λ b. Some (cond b ByFunction ByFunctionName)) beside.default
  way-same h.ClassExpr = ap (λ b. Some (cond b ByClass ByClassName)) beside.default
  way-same _ = refl

  scopes-same : (head : Head) (a b field : ℕ) → R a b →
      AllZip (ScopesAlike R)
      (scope_at a (kind_of_scope head field ps) ++ scopes_around Es ps)
      (scope_at b (kind_of_scope head field qs) ++ scopes_around Es qs)
  scopes-same head a b field r =
      subst (λ kind. AllZip (ScopesAlike R)
      (scope_at a (kind_of_scope head field ps) ++ scopes_around Es ps)
      (scope_at b kind ++ scopes_around Es qs)) (sym (kind-same head field))
      (by_kind (kind_of_scope head field ps))
    where
      by_kind : (kind : Option ScopeKind) →
          AllZip (ScopesAlike R) (scope_at a kind ++ scopes_around Es ps)
          (scope_at b kind ++ scopes_around Es qs)
      by_kind None = beside.scopes
      by_kind (Some kind) = (inners r, beside.scopes)

  pattern-same : (b : Bool) (head : Head) (w : Way) →
      cond b (way_of ps) (way_in head ps) ≡ Some w → cond b (way_of qs) (way_in head qs) ≡ Some w
  pattern-same true head w e = beside.way w e
  pattern-same false head w e = way-same head ∙ e

  pub node-same : (head : Head) (a b field : ℕ) → R a b →
      PathsBeside R (around_spot head a field ∷ ps) (around_spot head b field ∷ qs)
  node-same head a b field r = record {
    block = refl;
    default = refl;
    loop = refl;
    declarator = variable-same head;
    way = pattern-same (is_pattern head) head;
    scopes = scopes-same head a b field r;
  }

  pub node-beside : {head its : Head} → LikeHead head its → (a b field : ℕ) → R a b →
      PathsBeside R (around_spot head a field ∷ ps) (around_spot its b field ∷ qs)
  node-beside same a b field r = node-same _ a b field r
  node-beside (declaration {kind = kind} {a = one} {b = two}) a b field r =
      let it = node-same (h.VarDecl kind one) a b field r in
      record {
        block = it.block;
        default = it.default;
        loop = it.loop;
        declarator = variable_so kind;
        way = it.way;
        scopes = it.scopes;
      }
    where
      variable_so : (kind : VarDeclKind) →
          way_of_variable (h.VarDecl kind two) qs ≡ way_of_variable (h.VarDecl kind one) ps
      variable_so v.Var = refl
      variable_so v.Let = ap (λ b. Some (cond b ByLoop ByLet)) beside.loop
      variable_so v.Const = ap (λ b. Some (cond b ByLoop ByConst)) beside.loop

-- in such nodes
pub spots-in : (R : ℕ → ℕ → Type 0) (s t : Spot) → SpotsBeside R s t → (field : ℕ)
    {head its : Head} → LikeHead head its → R s.place t.place →
    SpotsBeside R (past s (h.Open field head)) (past t (h.Open field its))
spots-in R s t beside field like r =
    λ inner. node-beside R (in_field field s.path) (in_field field t.path) (beside field) like
    s.place t.place inner r

-- behind whole nodes
pub spots-behind : (R : ℕ → ℕ → Type 0) (s t : Spot) → SpotsBeside R s t → {xs ys : List Item} →
    AreNodesInTurn xs → AreNodesInTurn ys → SpotsBeside R (fold past s xs) (fold past t ys)
spots-behind R s t beside {xs = xs} {ys = ys} one two =
    λ field.
    let a = fold-path one s in
    let b = fold-path two t in
    subst (λ p. PathsBeside R p (in_field field (fold past t ys).path))
    (sym (ap (in_field field) a.1 ∙ field-twice field a.0 s.path))
    (subst (λ q. PathsBeside R (in_field field s.path) q)
    (sym (ap (in_field field) b.1 ∙ field-twice field b.0 t.path)) (beside field))

-- ---- slots

-- a sort of statements and of what stands in them, where a name may stand for a static read
abbrev pub is_fine : NodeSort → Bool
is_fine ATarget = false
is_fine ALink = false
is_fine sort = is_own sort

abbrev pub are_fine : List NodeSlot → Bool
are_fine list = each_slot (λ number sort. is_fine sort) list

-- the same but for the first field, where one is excused
abbrev pub may_do : Bool → List NodeSlot → Bool
may_do excused [] = true
may_do excused (slot number count sort ∷ more) =
    (is_fine sort || (excused && (is_once count && is_own sort))) && are_fine more

fine_own : (sort : NodeSort) → is_fine sort ≡ true → is_own sort ≡ true
fine_own ATarget e = absurd (false≢true e)
fine_own ALink e = absurd (false≢true e)
fine_own _ e = e

pub fine_do : (excused : Bool) (list : List NodeSlot) → are_fine list ≡ true →
    may_do excused list ≡ true
fine_do excused [] e = refl
fine_do excused (slot number count sort ∷ more) e =
    let parts = and_parts (is_fine sort) (are_fine more) e in
    and_from (is_fine sort || (excused && (is_once count && is_own sort))) (are_fine more)
    (or_left (is_fine sort) (excused && (is_once count && is_own sort)) parts.0) parts.1

-- where something stands in front, as which sort, and what is left
pub record Front (excused : Bool) (list : List NodeSlot) (field : ℕ) (sort : NodeSort)
    (more : List Item) : Type 0 where
  pub left : List NodeSlot
  pub fits : AreFit left more
  pub again : (made : List Item) → IsFit sort field made → (rest : List Item) →
      AreFit left rest → AreFit list (made ++ rest)
  pub keeps : (test : ℕ → NodeSort → Bool) → each_slot test list ≡ true →
      (test field sort ≡ true) × (each_slot test left ≡ true)
  pub own : is_own sort ≡ true
  pub fine : (is_fine sort ≡ true) ⊎ (excused ≡ true)
  pub behind : are_fine left ≡ true

-- the first of the fields
here : (excused : Bool) (number : ℕ) (count : NodeCount) (sort : NodeSort) (rest : List NodeSlot)
    (more : List Item) → may_do excused (slot number count sort ∷ rest) ≡ true →
    AreFit (fields_after number count sort rest) more →
    Front excused (slot number count sort ∷ rest) number sort more
here excused number count sort rest more ok fits =
    let parts =
    and_parts (is_fine sort || (excused && (is_once count && is_own sort))) (are_fine rest) ok in
    record {
      left = fields_after number count sort rest;
      fits = fits;
      again = λ made it others its. front_of it count rest others its;
      keeps =
          λ test passes. (
            (and_parts (test number sort) (each_slot test rest) passes).0,
            after_slot test number
                count sort rest passes,
          );
      own = own_by (is_fine sort) refl (or_cases (is_fine sort) _ parts.0);
      fine = fine_by (or_cases (is_fine sort) _ parts.0);
      behind = behind_by count (or_cases (is_fine sort) _ parts.0) parts.1;
    }
  where
    own_by : (b : Bool) → is_fine sort ≡ b →
        (is_fine sort ≡ true) ⊎ ((excused && (is_once count && is_own sort)) ≡ true) →
        is_own sort ≡ true
    own_by b e (inl it) = fine_own sort it
    own_by b e (inr it) =
        (and_parts (is_once count) (is_own sort)
        (and_parts excused (is_once count && is_own sort) it).1).1

    fine_by : (is_fine sort ≡ true) ⊎ ((excused && (is_once count && is_own sort)) ≡ true) →
        (is_fine sort ≡ true) ⊎ (excused ≡ true)
    fine_by (inl it) = inl it
    fine_by (inr it) = inr (and_parts excused (is_once count && is_own sort) it).0

    behind_by : (count : NodeCount) →
        (is_fine sort ≡ true) ⊎ ((excused && (is_once count && is_own sort)) ≡ true) →
        are_fine rest ≡ true → are_fine (fields_after number count sort rest) ≡ true
    behind_by One it fine = fine
    behind_by Optional it fine = fine
    behind_by Many (inl it) fine = and_from (is_fine sort) (are_fine rest) it fine
    behind_by Places (inl it) fine = and_from (is_fine sort) (are_fine rest) it fine
    behind_by Many (inr it) fine =
        absurd (false≢true (and_parts false (is_own sort)
        (and_parts excused (false && is_own sort) it).1).0)
    behind_by Places (inr it) fine =
        absurd (false≢true (and_parts false (is_own sort)
        (and_parts excused (false && is_own sort) it).1).0)

-- a field that holds nothing here
skipped : (excused : Bool) (number : ℕ) (count : NodeCount) (sort : NodeSort) (rest : List NodeSlot)
    (field : ℕ) (its : NodeSort) (more : List Item) → is_count_needed count ≡ false →
    Front false rest field its more → Front excused (slot number count sort ∷ rest) field its more
skipped excused number count sort rest field its more free it = record {
  left = it.left;
  fits = it.fits;
  again = λ made is others fits_it. over free (it.again made is others fits_it);
  keeps = λ test passes. it.keeps test
      (and_parts (test number sort) (each_slot test rest) passes).1;
  own = it.own;
  fine = fine_by it.fine;
  behind = it.behind;
}
  where
    fine_by : (is_fine its ≡ true) ⊎ (false ≡ true) → (is_fine its ≡ true) ⊎ (excused ≡ true)
    fine_by (inl e) = inl e
    fine_by (inr e) = absurd (false≢true e)

rest_fine : (excused : Bool) (number : ℕ) (count : NodeCount) (sort : NodeSort) (rest : List NodeSlot) →
    may_do excused (slot number count sort ∷ rest) ≡ true → are_fine rest ≡ true
rest_fine excused number count sort rest ok =
    (and_parts (is_fine sort || (excused && (is_once count && is_own sort))) (are_fine rest) ok).1

-- a node in front
pub record NodeFront (excused : Bool) (list : List NodeSlot) (field : ℕ) (head : Head)
    (inside more : List Item) : Type 0 where
  pub sort : NodeSort
  pub front : Front excused list field sort more
  pub takes_it : takes_head head sort ≡ true
  pub in_it : AreFit (slots head (names_of_sort sort)) inside

pub node_front : {list : List NodeSlot} {items : List Item} → AreFit list items → (excused : Bool) →
    may_do excused list ≡ true → (field : ℕ) (head : Head) (inside more : List Item) →
    AreNodesInTurn inside → items ≡ h.Open field head ∷ (inside ++ h.Close ∷ more) →
    NodeFront excused list field head inside more
node_front no_more excused ok field head inside more nodes e = absurd cc
node_front (over {number = n} {count = c} {sort = k} {more = rest} free fit) excused ok field head
    inside more nodes e =
    let it =
    node_front fit false (fine_do false rest (rest_fine excused n c k rest ok)) field head inside
    more nodes e in
    record {
      sort = it.sort;
      front = skipped excused n c k rest field it.sort more free it.front;
      takes_it = it.takes_it;
      in_it = it.in_it;
    }
node_front (a_name it fit) excused ok field head inside more nodes e = absurd cc
node_front (a_hole fit) excused ok field head inside more nodes e = absurd cc
node_front (a_node {number = n} {count = c} {sort = k} {more = rest} {head = hd} {inside = ins}
    {rest = behind} it in_it fit) excused ok field head inside more nodes e =
    let both = same_nodes (fit_nodes in_it) nodes behind more (tail_same e) in
    let number : n ≡ field = ap number_of e in
    let heads : hd ≡ head = ap head_of e in
    record {
      sort = k;
      front =
          subst (λ m. Front excused (slot n c k ∷ rest) m k more) number
          (here excused n c k rest more ok (subst (AreFit (fields_after n c k rest)) both.1 fit));
      takes_it = subst (λ hd. takes_head hd k ≡ true) heads it;
      in_it =
          subst (λ hd. AreFit (slots hd (names_of_sort k)) inside) heads
          (subst (AreFit (slots hd (names_of_sort k))) both.0 in_it);
    }
  where
    number_of : List Item → ℕ
    number_of (h.Open m hd ∷ rest) = m
    number_of _ = 0

    head_of : List Item → Head
    head_of (h.Open m hd ∷ rest) = hd
    head_of _ = h.Module

-- a name in front
pub record NameFront (excused : Bool) (list : List NodeSlot) (field : ℕ) (role : Role)
    (more : List Item) : Type 0 where
  pub sort : NodeSort
  pub front : Front excused list field sort more
  pub takes_it : takes_name role sort ≡ true

pub name_front : {list : List NodeSlot} {items : List Item} → AreFit list items → (excused : Bool) →
    may_do excused list ≡ true → (field : ℕ) (x : List ℕ) (ctxt : ℕ) (role : Role)
    (more : List Item) → items ≡ h.Ident field x ctxt role ∷ more →
    NameFront excused list field role more
name_front no_more excused ok field x ctxt role more e = absurd cc
name_front (over {number = n} {count = c} {sort = k} {more = rest} free fit) excused ok field x
    ctxt role more e =
    let it =
    name_front fit false (fine_do false rest (rest_fine excused n c k rest ok)) field x ctxt role
    more e in
    record {
      sort = it.sort;
      front = skipped excused n c k rest field it.sort more free it.front;
      takes_it = it.takes_it;
    }
name_front (a_hole fit) excused ok field x ctxt role more e = absurd cc
name_front (a_node it in_it fit) excused ok field x ctxt role more e = absurd cc
name_front (a_name {number = n} {count = c} {sort = k} {more = rest} {role = q} {rest = behind} it
    fit) excused ok field x ctxt role more e =
    record {
      sort = k;
      front =
          subst (λ m. Front excused (slot n c k ∷ rest) m k more) (ap number_of e)
          (here excused n c k rest more ok (subst (AreFit (fields_after n c k rest)) (tail_same e) fit));
      takes_it = subst (λ (q : Role). takes_name q k ≡ true) (ap role_of e) it;
    }
  where
    number_of : List Item → ℕ
    number_of (h.Ident m x ctxt q ∷ rest) = m
    number_of _ = 0

    role_of : List Item → Role
    role_of (h.Ident m x ctxt its ∷ rest) = its
    role_of _ = TheVariants.Word

-- an empty place in front
pub record HoleFront (excused : Bool) (list : List NodeSlot) (field : ℕ) (more : List Item) :
    Type 0 where
  pub left : List NodeSlot
  pub fits : AreFit left more
  pub again : (rest : List Item) → AreFit left rest → AreFit list (h.Hole field ∷ rest)
  pub keeps : (test : ℕ → NodeSort → Bool) → each_slot test list ≡ true → each_slot test left ≡ true
  pub behind : are_fine left ≡ true

pub hole_front : {list : List NodeSlot} {items : List Item} → AreFit list items → (excused : Bool) →
    may_do excused list ≡ true → (field : ℕ) (more : List Item) → items ≡ h.Hole field ∷ more →
    HoleFront excused list field more
hole_front no_more excused ok field more e = absurd cc
hole_front (over {number = n} {count = c} {sort = k} {more = rest} free fit) excused ok field more
    e =
    let it =
    hole_front fit false (fine_do false rest (rest_fine excused n c k rest ok)) field more e in
    record {
      left = it.left;
      fits = it.fits;
      again = λ others fits_it. over free (it.again others fits_it);
      keeps = λ test passes. it.keeps test (and_parts (test n k) (each_slot test rest) passes).1;
      behind = it.behind;
    }
hole_front (a_name it fit) excused ok field more e = absurd cc
hole_front (a_node it in_it fit) excused ok field more e = absurd cc
hole_front (a_hole {number = n} {sort = k} {more = rest} {rest = behind} fit) excused ok field more
    e =
    record {
      left = slot n Places k ∷ rest;
      fits = subst (AreFit (slot n Places k ∷ rest)) (tail_same e) fit;
      again =
          λ others fits_it.
          subst (λ m. AreFit (slot n Places k ∷ rest) (h.Hole m ∷ others)) (ap number_of e)
          (a_hole fits_it);
      keeps = λ test passes. passes;
      behind =
          behind_by (or_cases (is_fine k) _
          (and_parts (is_fine k || (excused && (false && is_own k))) (are_fine rest) ok).0)
          (rest_fine excused n Places k rest ok);
    }
  where
    number_of : List Item → ℕ
    number_of (h.Hole m ∷ rest) = m
    number_of _ = 0

    behind_by : (is_fine k ≡ true) ⊎ ((excused && (false && is_own k)) ≡ true) →
        are_fine rest ≡ true → are_fine (slot n Places k ∷ rest) ≡ true
    behind_by (inl it) fine = and_from (is_fine k) (are_fine rest) it fine
    behind_by (inr it) fine = absurd (false≢true (and_parts excused false it).1)
