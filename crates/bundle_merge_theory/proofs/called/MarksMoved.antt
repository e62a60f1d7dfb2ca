-- The marks of the elements of statements are the same in the function.
use Rattle.std.proofs.Common.{◌≡◌, ℕ, zero, suc, ◌+◌, ◌<◌, Bool, true, false, not, ◌&&◌, List, [], ◌∷◌, ◌++◌, Option, length, take, drop, refl, ap, ap₂, sym, ◌∙◌, subst, arith}
use Rattle.std.specs.Prelude.{fold, slice_get, ◌==◌, if◌then◌else◌}
use Rattle.std.proofs.lemmas.Bool.{false≢true}
use Rattle.std.proofs.lemmas.List.{length-drop}
use Rattle.bundle_syntax.specs.declared.piece.Role.{Role}
use Rattle.bundle_syntax.specs.Item as h
use Rattle.bundle_syntax.specs.Item.{Item, Head}
use Rattle.bundle_rules.specs.Places.{Around, Spot, in_field, outer_path, past, path_to, path_to_option, path_at}
use Rattle.bundle_rules.specs.Nodes.{Text}
use Rattle.bundle_rules.specs.Cleared.{cleared_head}
use Rattle.bundle_rules.specs.Shorthands.{ends_at, has_default, is_shorthand_in_pattern, symbol_of}
use Rattle.bundle_rules.specs.Marks.{MarkOf, Begins, Ends, word_key, begin_marks, end_marks, name_marks}
use Rattle.bundle_rules.specs.Callable.{AreStatements, over, begun, ended, named, empty, module_with}
use Rattle.bundle_link.proofs.NodePaths.{drop-next}
use Rattle.bundle_merge_theory.specs.called.Called.{around_place, called_path, moved_around, IsPathMoved, outside, within, call_with, statements_start, Roots, rooted, deeper}
use Rattle.bundle_merge_theory.proofs.called.Paths.{in_field-moved}
use Rattle.bundle_merge_theory.proofs.called.Lists.{at, module-item, call-item, Shows, shows}

-- Nodes around places.

path_to-moved : {is_async : Bool} {depth : ℕ} {old new : List Around} →
    IsPathMoved is_async depth old new → (x : Item) →
    IsPathMoved is_async depth (path_to old x) (path_to new x)
path_to-moved moved (h.Open field head) = in_field-moved moved field
path_to-moved moved (h.Ident field x ctxt role) = in_field-moved moved field
path_to-moved moved (h.Hole field) = in_field-moved moved field
path_to-moved moved h.Close = moved

pub paths-alike : {is_async : Bool} {stmts after its : List Item} {k : ℕ}
    (s : Shows is_async stmts after its k) →
    IsPathMoved is_async s.here.depth (path_at (module_with stmts after) (suc k))
    (path_at (call_with is_async stmts its) (suc k + 6))
paths-alike {is_async} s =
    subst (λ x. x)
    (λ i. IsPathMoved is_async s.here.depth (path_to_option (sym s.old_spot i).path (sym s.old_item i)) (path_to_option (sym s.new_spot i).path (sym s.new_item i)))
    (path_to-moved s.here.spots.path s.here.x)

in_field-roots : {P : Head → ℕ → Type 0} {depth : ℕ} {path : List Around} → Roots P depth path →
    (field : ℕ) → Roots P depth (in_field field path)
in_field-roots (rooted its) field = rooted field
in_field-roots (deeper node here outer) field = deeper (record node { field = field }) here outer

outer-roots : {P : Head → ℕ → Type 0} {depth : ℕ} {path : List Around} → Roots P (suc depth) path →
    Roots P depth (outer_path path)
outer-roots (deeper node here outer) = outer

path_to-roots : {P : Head → ℕ → Type 0} {depth : ℕ} {path : List Around} → Roots P depth path →
    (x : Item) → Roots P depth (path_to path x)
path_to-roots roots (h.Open field head) = in_field-roots roots field
path_to-roots roots (h.Ident field x ctxt role) = in_field-roots roots field
path_to-roots roots (h.Hole field) = in_field-roots roots field
path_to-roots roots h.Close = roots

-- what holds where each node begins holds of the nodes around each place
roots-at : {P : Head → ℕ → Type 0} (stmts : List Item) →
    ((j depth field : ℕ) (head : Head) (rest : List Item) → drop j stmts ≡ h.Open field head ∷ rest → AreStatements depth (h.Open field head ∷ rest) → P head (suc j))
    →
    {depth : ℕ} {items : List Item} → AreStatements depth items → (j : ℕ) → drop j stmts ≡ items →
    {s : Spot} → s.place ≡ suc j → Roots P depth s.path → (k : ℕ) → k < length items →
    (its : ℕ) × Roots P its (fold past s (take k items)).path × AreStatements its (drop k items)
roots-at stmts holds over j e at roots k l = absurd (omega arith)
roots-at stmts holds (begun plain name inner) j e at roots zero l =
    (_, roots, begun plain name inner)
roots-at stmts holds (ended inner) j e at roots zero l = (_, roots, ended inner)
roots-at stmts holds (named inner) j e at roots zero l = (_, roots, named inner)
roots-at stmts holds (empty inner) j e at roots zero l = (_, roots, empty inner)
roots-at {P} stmts holds (begun {depth} {field} {head} {rest} plain name inner) j e {s} at roots (suc k) l =
    let here : P head s.place = subst (P head) (sym at) (holds j depth field head rest e (begun plain name inner)) in
    let next : s.place + 1 ≡ suc (suc j) = omega (arith, at) in
    roots-at stmts holds inner (suc j) (drop-next stmts j (h.Open field head) rest e) next (deeper (around_place head s.place 0) here (in_field-roots roots field)) k (omega arith)
roots-at stmts holds (ended {rest} inner) j e {s} at roots (suc k) l =
    let next : s.place + 1 ≡ suc (suc j) = omega (arith, at) in
    roots-at stmts holds inner (suc j) (drop-next stmts j h.Close rest e) next (outer-roots roots) k (omega arith)
roots-at stmts holds (named {field} {ctxt} {sym = x} {role} {rest} inner) j e {s} at roots (suc k) l =
    let next : s.place + 1 ≡ suc (suc j) = omega (arith, at) in
    roots-at stmts holds inner (suc j) (drop-next stmts j (h.Ident field x ctxt role) rest e) next roots k (omega arith)
roots-at stmts holds (empty {field} {rest} inner) j e {s} at roots (suc k) l =
    let next : s.place + 1 ≡ suc (suc j) = omega (arith, at) in
    roots-at stmts holds inner (suc j) (drop-next stmts j (h.Hole field) rest e) next roots k (omega arith)

-- Shorthands of patterns.

-- whether a shorthand has a default is the same
abbrev pub SameDefault : Bool → List Item → List Item → List Item → Head → ℕ → Type 0
SameDefault is_async stmts after its head begins =
    is_shorthand_in_pattern head ≡ true → has_default (call_with is_async stmts its) (begins + 6) ≡ has_default (module_with stmts after) begins

further : {depth : ℕ} {items : List Item} → AreStatements (suc depth) items → 0 < length items
further (begun plain name inner) = omega arith
further (ended inner) = omega arith
further (named inner) = omega arith
further (empty inner) = omega arith

four : {depth outer its ctxt : ℕ} {head : Head} {sym : List ℕ} {role : Role} {more : List Item} →
    AreStatements (suc depth) (h.Open outer head ∷ h.Ident its sym ctxt role ∷ h.Close ∷ more) →
    0 < length more
four (begun plain name (named (ended inner))) = further inner

-- four more elements follow in the statements
named-within : (stmts : List Item) (j depth field : ℕ) (rest : List Item) →
    drop j stmts ≡ h.Open field h.AssignPatProp ∷ rest →
    AreStatements depth (h.Open field h.AssignPatProp ∷ rest) → j + 4 < length stmts
named-within stmts j depth field rest e (begun plain name inner) =
    let l : 0 < length name.more = four (subst (AreStatements (suc depth)) name.is inner) in
    let n : length rest ≡ suc (suc (suc (length name.more))) = ap length name.is in
    let m : length (drop j stmts) ≡ suc (length rest) = ap length e in
    omega (arith, length-drop j stmts, m, n, l)

items-same : (is_async : Bool) (stmts after its : List Item) (j n : ℕ) → j + n < length stmts →
    slice_get (call_with is_async stmts its) (suc j + 6 + n) ≡
    slice_get (module_with stmts after) (suc j + n)
items-same is_async stmts after its j n l =
    let new : suc j + 6 + n ≡ suc (j + n) + 6 = omega arith in
    let old : suc (j + n) ≡ suc j + n = omega arith in
    ap (slice_get (call_with is_async stmts its)) new ∙ call-item is_async stmts its (j + n) l ∙ sym (module-item stmts after (j + n) l) ∙ ap (slice_get (module_with stmts after)) old

default-same : (is_async : Bool) (stmts after its : List Item) (j depth field : ℕ) (head : Head)
    (rest : List Item) →
    drop j stmts ≡ h.Open field head ∷ rest → AreStatements depth (h.Open field head ∷ rest) →
    SameDefault is_async stmts after its head (suc j)
default-same is_async stmts after its j depth field h.AssignPatProp rest e statements is =
    ap (λ x. not (ends_at x))
    (items-same is_async stmts after its j 4 (named-within stmts j depth field rest e statements))
default-same is_async stmts after its j depth field _ rest e statements is = absurd (false≢true is)

-- Marks.

pub other-head : {N : Type 0} (tree : List Item) (place field : ℕ) (node : Around)
    (outer : List Around) (head : Head) →
    is_shorthand_in_pattern head ≡ false →
    begin_marks {N = N} tree place field (node ∷ outer) head ≡
    Begins
    (if is_shorthand_in_pattern node.head && (node.field == 0) then (if has_default tree node.begins then 0 else 1) else field)
    (cleared_head head) ∷ []
other-head tree place field node outer h.AssignPatProp is = absurd (false≢true (sym is))
other-head tree place field node outer _ is = refl

key-moved : (a b : Bool) (field : ℕ) (node : Around) →
    (is_shorthand_in_pattern node.head ≡ true → a ≡ b) →
    (if is_shorthand_in_pattern node.head && (node.field == 0) then (if a then 0 else 1) else field)
    ≡
    (if is_shorthand_in_pattern node.head && (node.field == 0) then (if b then 0 else 1) else field)
key-moved a b field node same = by (is_shorthand_in_pattern node.head) same
  where
    by : (t : Bool) → (t ≡ true → a ≡ b) →
        (if t && (node.field == 0) then (if a then 0 else 1) else field) ≡
        (if t && (node.field == 0) then (if b then 0 else 1) else field)
    by true same = ap (λ u. if (node.field == 0) then (if u then 0 else 1) else field) (same refl)
    by false same = refl

other_marks-moved : {N : Type 0} (is_async : Bool) (stmts after its : List Item) (place field : ℕ)
    {depth : ℕ} {old new : List Around} →
    IsPathMoved is_async depth old new → {other : ℕ} →
    Roots (SameDefault is_async stmts after its) other old → (head : Head) →
    is_shorthand_in_pattern head ≡ false →
    begin_marks {N = N} (call_with is_async stmts its) (place + 6) field new head ≡
    begin_marks {N = N} (module_with stmts after) place field old head
other_marks-moved {N} is_async stmts after its place field (outside at) roots head is =
    other-head {N = N} (call_with is_async stmts its) (place + 6) field (around_place h.BlockStmt 6 at) (outer_path (called_path is_async at)) head is ∙ sym (other-head {N = N} (module_with stmts after) place field (around_place h.Module 0 at) [] head is)
other_marks-moved is_async stmts after its place field (within node known moved) (rooted _) head is = elim moved [ ]
other_marks-moved {N} is_async stmts after its place field (within {old} {new} node known moved) (deeper _ here outer) head is =
    other-head {N = N} (call_with is_async stmts its) (place + 6) field (moved_around node) new head is
    ∙ ap (λ n. Begins n (cleared_head head) ∷ []) (key-moved (has_default (call_with is_async stmts its) (node.begins + 6)) (has_default (module_with stmts after) node.begins) field node here)
    ∙ sym (other-head {N = N} (module_with stmts after) place field node old head is)

pub begin_marks-moved : {N : Type 0} (is_async : Bool) (stmts after its : List Item)
    (place field : ℕ) {depth : ℕ} {old new : List Around} →
    IsPathMoved is_async depth old new → {other : ℕ} →
    Roots (SameDefault is_async stmts after its) other old → (head : Head) →
    (is_shorthand_in_pattern head ≡ true → (slice_get (call_with is_async stmts its) (place + 6 + 2) ≡ slice_get (module_with stmts after) (place + 2)) × (has_default (call_with is_async stmts its) (place + 6) ≡ has_default (module_with stmts after) place))
    →
    begin_marks {N = N} (call_with is_async stmts its) (place + 6) field new head ≡
    begin_marks {N = N} (module_with stmts after) place field old head
begin_marks-moved is_async stmts after its place field moved roots h.AssignPatProp own =
    ap₂
    (λ (x : Option Item) (t : Bool). Begins field h.KeyValuePatProp ∷ (word_key (symbol_of x) ++ (if t then Begins 1 h.AssignPat ∷ [] else [])))
    (own refl).0 (own refl).1
begin_marks-moved is_async stmts after its place field moved roots head own =
    other_marks-moved is_async stmts after its place field moved roots head refl

pub end_marks-moved : {N : Type 0} (is_async : Bool) (stmts after its : List Item) {depth : ℕ}
    {old new : List Around} →
    IsPathMoved is_async depth old new → {other : ℕ} →
    Roots (SameDefault is_async stmts after its) other old →
    end_marks {N = N} (call_with is_async stmts its) new ≡
    end_marks {N = N} (module_with stmts after) old
end_marks-moved is_async stmts after its (outside field) roots = refl
end_marks-moved is_async stmts after its (within node known moved) (rooted _) = elim moved [ ]
end_marks-moved {N} is_async stmts after its (within node known moved) (deeper _ here outer) =
    by (is_shorthand_in_pattern node.head) here
  where
    by : (t : Bool) →
        (t ≡ true → has_default (call_with is_async stmts its) (node.begins + 6) ≡ has_default (module_with stmts after) node.begins)
        →
        ◌≡◌ {A = List (MarkOf N)}
        (if t && has_default (call_with is_async stmts its) (node.begins + 6) then Ends ∷ Ends ∷ [] else Ends ∷ [])
        (if t && has_default (module_with stmts after) node.begins then Ends ∷ Ends ∷ [] else Ends ∷ [])
    by true same = ap (λ (u : Bool). if u then Ends ∷ Ends ∷ [] else Ends ∷ []) (same refl)
    by false same = refl

pub name_marks-moved : {N : Type 0} {is_async : Bool} {depth : ℕ} {old new : List Around} →
    IsPathMoved is_async depth old new → (field : ℕ) (x : Text) (meant : N) →
    name_marks field new x meant ≡ name_marks field old x meant
name_marks-moved (outside at) field x meant = refl
name_marks-moved (within node known moved) field x meant = refl

-- what a statement's element has around it
pub record Stands (is_async : Bool) (stmts after its : List Item) (k : ℕ) : Type 0 where
  pub shows : Shows is_async stmts after its k
  pub path : IsPathMoved is_async shows.here.depth (path_at (module_with stmts after) (suc k))
      (path_at (call_with is_async stmts its) (suc k + 6))
  pub depth : ℕ
  pub roots : Roots (SameDefault is_async stmts after its) depth
      (path_at (module_with stmts after) (suc k))

pub stands : (is_async : Bool) {stmts : List Item} → AreStatements zero stmts →
    (after its : List Item) (k : ℕ) → k < length stmts → Stands is_async stmts after its k
stands is_async {stmts} statements after its k l =
    let s = shows is_async statements after its k l in
    let r = roots-at {P = SameDefault is_async stmts after its} stmts (default-same is_async stmts after its) statements zero refl {s = statements_start} refl (rooted 0) k l in
    record {
      shows = s;
      path = paths-alike s;
      depth = r.0;
      roots = subst (λ x. x) (λ i. Roots (SameDefault is_async stmts after its) r.0 (path_to_option (sym s.old_spot i).path (sym s.old_item i))) (path_to-roots r.1 s.here.x);
    }

-- a shorthand of a pattern in the statements, with its name and its default
pub own-shorthand : (is_async : Bool) (stmts after its : List Item) (j depth field : ℕ)
    (head : Head) (rest : List Item) →
    drop j stmts ≡ h.Open field head ∷ rest → AreStatements depth (h.Open field head ∷ rest) →
    is_shorthand_in_pattern head ≡ true →
    (slice_get (call_with is_async stmts its) (suc j + 6 + 2) ≡ slice_get (module_with stmts after) (suc j + 2))
    ×
    (has_default (call_with is_async stmts its) (suc j + 6) ≡ has_default (module_with stmts after) (suc j))
own-shorthand is_async stmts after its j depth field h.AssignPatProp rest e statements is = let l : j + 4 < length stmts = named-within stmts j depth field rest e statements in (items-same is_async stmts after its j 2 (omega arith), ap (λ x. not (ends_at x)) (items-same is_async stmts after its j 4 l))
own-shorthand is_async stmts after its j depth field _ rest e statements is = absurd (false≢true is)
