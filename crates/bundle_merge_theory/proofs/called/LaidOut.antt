-- What is wanted of a program holds of one over what is kept.
-- The layout is kept.
use Rattle.std.proofs.Common.{◌≡◌, ℕ, suc, false, List, [], ◌∷◌, refl, ◌∙◌, zero, ◌<◌, Bool, ◌++◌, Some, length, map, ap, sym, subst, arith}
use Rattle.std.specs.Prelude.{flat_map, slice_get}
use Rattle.std.specs.List.{AllZip}
use Rattle.std.proofs.lemmas.Option.{none-some, same_Some}
use Rattle.std.proofs.lemmas.List.{length-map}
use Rattle.bundle_syntax.specs.Item as h
use Rattle.bundle_syntax.specs.Item.{Item, Head}
use Rattle.bundle_rules.specs.Nodes.{inside, begins_with, Text}
use Rattle.bundle_rules.specs.Statements.{TopItem, top_items, declaration_head, default_declaration, stated, own_statements}
use Rattle.bundle_rules.specs.Forms.{is_export_list}
use Rattle.bundle_rules.specs.Callable.{Every, none, more, begins_list, module_with}
use Rattle.bundle_rules.specs.Scopes.{Top, Inner, FunctionBody}
use Rattle.bundle_rules.specs.Declarations.{Reading}
use Rattle.bundle_rules.specs.Program.{Program, requested}
use Rattle.bundle_rules.specs.Order.{IsGoodOrder, group_of}
use Rattle.bundle_rules.specs.Bundle as b
use Rattle.bundle_rules.specs.Bundle.{Form, AsModule, AsCall, Cause, Own, Loads, Stars, Helps, Exports, HoldsNamespace, IsDue, Chosen, nothing, chosen, left, import_causes, module_causes, owner_of, StandsFor, Pairing, IsBlockLaidOut, lone, cycle, AreBlocksLaidOut, over, next}
use Rattle.bundle_link_targets.proofs.StageLemmas.{at_map as map-get}
use Rattle.bundle_merge_theory.proofs.called.Plain.{every-join, every-each}
use Rattle.bundle_merge_theory.proofs.called.Spots.{begins-item}
use Rattle.bundle_merge_theory.specs.called.Called.{AreTwins, call_with}
use Rattle.bundle_merge_theory.proofs.called.Sides.{moved_item, IsSegment, group-moved}

-- ---- filed

-- Lists of exports.

-- whether an exported declaration is a list of exports
abbrev pub IsListless : List Item → Type 0
IsListless (h.Open field h.ExportDecl ∷ rest) =
    begins_with is_export_list (inside (h.Open field h.ExportDecl ∷ rest)) ≡ false
IsListless (h.Open field h.ExportDefaultDecl ∷ rest) =
    begins_with is_export_list (inside (h.Open field h.ExportDefaultDecl ∷ rest)) ≡ false
IsListless _ = Unit {0}

declared-list : (head : Head) → is_export_list (declaration_head head) ≡ is_export_list head
declared-list h.FnExpr = refl
declared-list h.ClassExpr = refl
declared-list _ = refl

default-listless : (place : ℕ) (node : List Item) → begins_with is_export_list node ≡ false →
    begins_list (default_declaration place node) ≡ false
default-listless place [] e = refl
default-listless place (h.Open field head ∷ rest) e = declared-list head ∙ e
default-listless place (h.Ident field x ctxt role ∷ rest) e = refl
default-listless place (h.Hole field ∷ rest) e = refl
default-listless place (h.Close ∷ rest) e = refl

stated-listless : (start : ℕ) (items : List Item) → IsListless items →
    Every (λ statement. begins_list statement ≡ false) (stated start items)
stated-listless start [] is = none
stated-listless start (h.Open field h.ExportDecl ∷ rest) is =
    more (begins-item (suc start) (inside (h.Open field h.ExportDecl ∷ rest)) ∙ is) none
stated-listless start (h.Open field h.ExportDefaultDecl ∷ rest) is =
    more (default-listless (suc start) (inside (h.Open field h.ExportDefaultDecl ∷ rest)) is) none
stated-listless start (h.Open field h.ExportDefaultExpr ∷ rest) is = more refl none
stated-listless start (h.Open field (h.ImportDecl meta) ∷ rest) is = none
stated-listless start (h.Open field (h.NamedExport meta) ∷ rest) is = none
stated-listless start (h.Open field (h.ExportAll meta) ∷ rest) is = none
stated-listless start (h.Open field h.EmptyStmt ∷ rest) is = none
stated-listless start (h.Open field _ ∷ rest) is = more refl none
stated-listless start (h.Ident field x ctxt role ∷ rest) is = more refl none
stated-listless start (h.Hole field ∷ rest) is = more refl none
stated-listless start (h.Close ∷ rest) is = more refl none

all-listless : {tops : List TopItem} → Every (λ (top : TopItem). IsListless top.items) tops →
    Every (λ statement. begins_list statement ≡ false)
    (flat_map (λ (top : TopItem). stated top.start top.items) tops)
all-listless none = none
all-listless (more {x = top} here later) =
    every-join (stated-listless top.start top.items here) (all-listless later)

-- where no exported declaration is a list of exports, no own statement is one
pub listless-tree : (tree : List Item) →
    Every (λ (top : TopItem). IsListless top.items) (top_items tree) →
    Every (λ statement. begins_list statement ≡ false) (own_statements tree)
listless-tree tree each = all-listless each

-- ---- laid out

-- What is due.

-- a cause that is not the exports
abbrev pub IsOther : Cause → Type 0
IsOther cause = cause ≡ Exports → ⊥

pub due-on : {p : Program} {cause : Cause} → IsDue p AsModule cause → IsDue p AsCall cause
due-on (b.own reached es l) = b.own reached es l
due-on (b.imports_names used means) = b.imports_names used means
due-on (b.imports_whole used means) = b.imports_whole used means
due-on (b.imports_nothing used no_name no_whole) = b.imports_nothing used no_name no_whole
due-on (b.helps reached cjs) = b.helps reached cjs
due-on (b.defines reached cjs) = b.defines reached cjs
due-on (b.loads reached es asks) = b.loads reached es asks
due-on (b.holds_meta reached has) = b.holds_meta reached has
due-on (b.holds_namespace meant) = b.holds_namespace meant
due-on (b.stars star) = b.stars star
due-on (b.exports form linked) = b.returns refl
due-on (b.returns form) = b.returns refl

pub due-back : {p : Program} {cause : Cause} → IsDue p AsCall cause → IsOther cause →
    IsDue p AsModule cause
due-back (b.own reached es l) other = b.own reached es l
due-back (b.imports_names used means) other = b.imports_names used means
due-back (b.imports_whole used means) other = b.imports_whole used means
due-back (b.imports_nothing used no_name no_whole) other = b.imports_nothing used no_name no_whole
due-back (b.helps reached cjs) other = b.helps reached cjs
due-back (b.defines reached cjs) other = b.defines reached cjs
due-back (b.loads reached es asks) other = b.loads reached es asks
due-back (b.holds_meta reached has) other = b.holds_meta reached has
due-back (b.holds_namespace meant) other = b.holds_namespace meant
due-back (b.stars star) other = b.stars star
due-back (b.exports form linked) other = absurd (other refl)
due-back (b.returns form) other = absurd (other refl)

pub chosen-same : {p : Program} {list ys : List Cause} → Every IsOther list →
    Chosen (IsDue p AsModule) list ys → Chosen (IsDue p AsCall) list ys
chosen-same others nothing = nothing
chosen-same (more here others) (chosen has rest) = chosen (due-on has) (chosen-same others rest)
chosen-same (more here others) (left has_not rest) =
    left (λ due. has_not (due-back due here)) (chosen-same others rest)

-- what is chosen is in the list
chosen-other : {p : Program} {form : Form} {list ys : List Cause} → Every IsOther list →
    Chosen (IsDue p form) list ys → Every IsOther ys
chosen-other others nothing = none
chosen-other (more here others) (chosen has rest) = more here (chosen-other others rest)
chosen-other (more here others) (left has_not rest) = chosen-other others rest

-- Causes in a layout.

every-mapped : {A B : Type 0} {P : B → Type 0} (f : A → B) → ((x : A) → P (f x)) → (xs : List A) →
    Every P (map f xs)
every-mapped f each [] = none
every-mapped f each (x ∷ xs) = more (each x) (every-mapped f each xs)

imports-other : (xs : List Text) → Every IsOther (flat_map import_causes xs ++ Helps ∷ [])
imports-other xs =
    every-join
    (every-each import_causes (λ s. more (λ e. absurd cc) (more (λ e. absurd cc) (more (λ e. absurd cc) none))) xs)
    (more (λ e. absurd cc) none)

module-other : (p : Program) (m : ℕ) → Every IsOther (module_causes p m)
module-other p m =
    more (λ e. absurd cc)
    (more (λ e. absurd cc) (every-join (every-mapped (Loads m) (λ c e. absurd cc) (requested p m)) (every-mapped (Own m) (λ k e. absurd cc) _)))

lone-other : (p : Program) (m : ℕ) → Every IsOther (module_causes p m ++ HoldsNamespace m ∷ [])
lone-other p m = every-join (module-other p m) (more (λ e. absurd cc) none)

cycle-other : (p : Program) (members : List ℕ) →
    Every IsOther (flat_map (module_causes p) members ++ map HoldsNamespace members)
cycle-other p members =
    every-join (every-each (module_causes p) (module-other p) members)
    (every-mapped HoldsNamespace (λ d e. absurd cc) members)

-- behind
pub behind-due : {p : Program} (xs : List Text) {ys : List Cause} → IsDue p AsModule Exports →
    Chosen (IsDue p AsModule) (map Stars xs ++ Exports ∷ []) ys →
    Chosen (IsDue p AsCall) (map Stars xs ++ Exports ∷ []) ys
behind-due [] due (chosen has rest) = chosen (b.returns refl) (chosen-same none rest)
behind-due [] due (left has_not rest) = absurd (has_not due)
behind-due (s ∷ xs) due (chosen has rest) = chosen (due-on has) (behind-due xs due rest)
behind-due (s ∷ xs) due (left has_not rest) =
    left (λ its. has_not (due-back its (λ e. absurd cc))) (behind-due xs due rest)

pub behind-new : {p : Program} (xs : List Text) {ys : List Cause} → (IsDue p AsModule Exports → ⊥) →
    Chosen (IsDue p AsModule) (map Stars xs ++ Exports ∷ []) ys →
    Chosen (IsDue p AsCall) (map Stars xs ++ Exports ∷ []) (ys ++ Exports ∷ [])
behind-new [] no_exports (chosen has rest) = absurd (no_exports has)
behind-new [] no_exports (left has_not nothing) = chosen (b.returns refl) nothing
behind-new (s ∷ xs) no_exports (chosen has rest) =
    chosen (due-on has) (behind-new xs no_exports rest)
behind-new (s ∷ xs) no_exports (left has_not rest) =
    left (λ its. has_not (due-back its (λ e. absurd cc))) (behind-new xs no_exports rest)

-- Items in a pairing.

-- the pairing of the module, and that of the call: the items of statements are the same, and behind
-- them there are only exports
pub record AreLike (stmts : List Item) (old new : Pairing) : Type 0 where
  pub top : old.top ≡ Top
  pub new_top : new.top ≡ Inner FunctionBody 6
  pub items : List TopItem
  pub plan : List Cause
  pub old_items : List TopItem
  pub old_plan : List Cause
  pub new_items : List TopItem
  pub new_plan : List Cause
  pub body_is : old.body ≡ items ++ old_items
  pub plan_is : old.plan ≡ plan ++ old_plan
  pub new_body_is : new.body ≡ map moved_item items ++ new_items
  pub new_plan_is : new.plan ≡ plan ++ new_plan
  pub same_length : length items ≡ length plan
  pub only_exports : Every (λ cause. cause ≡ Exports) old_plan
  pub segments : Every (IsSegment stmts) items

get-front : {A : Type 0} (xs ys : List A) (k : ℕ) (x : A) → k < length xs →
    slice_get (xs ++ ys) k ≡ slice_get xs k
get-front [] ys k x l = absurd (omega arith)
get-front (y ∷ xs) ys zero x l = refl
get-front (y ∷ xs) ys (suc k) x l = get-front xs ys k x (omega arith)

-- an element of the front, if none behind passes
in-front : {A : Type 0} {P : A → Type 0} (xs ys : List A) (k : ℕ) (x : A) →
    slice_get (xs ++ ys) k ≡ Some x → Every P ys → (P x → ⊥) →
    (k < length xs) × (slice_get xs k ≡ Some x)
in-front [] [] k x e each apart = absurd (none-some x e)
in-front {P = P} [] (y ∷ ys) zero x e (more here each) apart =
    absurd (apart (subst P (same_Some y x e) here))
in-front [] (y ∷ ys) (suc k) x e (more here each) apart = let r = in-front [] ys k x e each apart in absurd (none-some x r.1)
in-front (z ∷ xs) ys zero x e each apart = (omega arith, e)
in-front (z ∷ xs) ys (suc k) x e each apart = let r = in-front xs ys k x e each apart in (omega (arith, r.0), r.1)

pub get-every : {A : Type 0} {P : A → Type 0} {xs : List A} → Every P xs → (k : ℕ) (x : A) →
    slice_get xs k ≡ Some x → P x
get-every none k x e = absurd (none-some x e)
get-every {P = P} (more {x = y} here later) zero x e = subst P (same_Some y x e) here
get-every (more here later) (suc k) x e = get-every later k x e

-- where an item of the module stands for a cause
stands-at : {stmts : List Item} {old new : Pairing} → AreLike stmts old new → (cause : Cause) →
    IsOther cause → (item : TopItem) → StandsFor old cause item →
    StandsFor new cause (moved_item item) × IsSegment stmts item
stands-at {stmts} {old} {new} like cause other item stands =
    let in_plan = in-front like.plan like.old_plan stands.at cause (sym (ap (λ l. slice_get l stands.at) like.plan_is) ∙ stands.cause_there) like.only_exports other in
    let l : stands.at < length like.items = omega (arith, like.same_length, in_plan.0) in
    let in_body : slice_get like.items stands.at ≡ Some item = sym (get-front like.items like.old_items stands.at item l) ∙ sym (ap (λ l. slice_get l stands.at) like.body_is) ∙ stands.item_there in
    let m : stands.at < length (map moved_item like.items) = omega (arith, length-map like.items moved_item, l) in (
      record {
        at = stands.at;
        cause_there = ap (λ l. slice_get l stands.at) like.new_plan_is ∙ get-front like.plan like.new_plan stands.at cause in_plan.0 ∙ in_plan.1;
        item_there = ap (λ l. slice_get l stands.at) like.new_body_is ∙ get-front (map moved_item like.items) like.new_items stands.at (moved_item item) m ∙ map-get moved_item like.items stands.at item in_body;
      },
      get-every like.segments stands.at item in_body,
    )

all-stand : {stmts : List Item} {old new : Pairing} → AreLike stmts old new →
    (causes : List Cause) → Every IsOther causes → (items : List TopItem) →
    AllZip (StandsFor old) causes items → AllZip (StandsFor new) causes (map moved_item items)
all-stand like [] others [] zip = tt
all-stand like [] others (item ∷ items) zip = absurd zip
all-stand like (cause ∷ causes) others [] zip = absurd zip
all-stand like (cause ∷ causes) (more here others) (item ∷ items) zip =
    ((stands-at like cause here item zip.0).0, all-stand like causes others items zip.1)

all-segments : {stmts : List Item} {old new : Pairing} → AreLike stmts old new →
    (causes : List Cause) → Every IsOther causes → (items : List TopItem) →
    AllZip (StandsFor old) causes items → Every (IsSegment stmts) items
all-segments like [] others [] zip = none
all-segments like [] others (item ∷ items) zip = absurd zip
all-segments like (cause ∷ causes) others [] zip = absurd zip
all-segments like (cause ∷ causes) (more here others) (item ∷ items) zip =
    more (stands-at like cause here item zip.0).1 (all-segments like causes others items zip.1)

-- Blocks.

block-moved : {p : Program} {reading : Reading} {is_async : Bool} {stmts after its : List Item}
    {old new : Pairing} →
    AreTwins reading is_async stmts after its → AreLike stmts old new →
    {members : List ℕ} {plan : List Cause} →
    IsBlockLaidOut p AsModule (module_with stmts after) reading old members plan →
    IsBlockLaidOut p AsCall (call_with is_async stmts its) reading new members plan
block-moved {p} twins like (lone {m} alone choice) =
    lone alone (chosen-same (lone-other p m) choice)
block-moved {p} {reading} {is_async} {stmts} {after} {its} {old} {new} twins like (cycle {members} numbered items order by_needs requests choice stand good there) =
    let others = chosen-other (cycle-other p members) choice in
    let same : group_of reading new.top (call_with is_async stmts its) (map moved_item items) (map owner_of numbered) ≡ group_of reading old.top (module_with stmts after) items (map owner_of numbered) =
    ap (λ t. group_of reading t (call_with is_async stmts its) (map moved_item items) (map owner_of numbered)) like.new_top
    ∙ group-moved twins (all-segments like numbered others items stand) (map owner_of numbered)
    ∙ sym (ap (λ t. group_of reading t (module_with stmts after) items (map owner_of numbered)) like.top) in
    cycle numbered (map moved_item items) order by_needs requests (chosen-same (cycle-other p members) choice) (all-stand like numbered others items stand) (subst (λ g. IsGoodOrder g order) (sym same) good) there

pub blocks-moved : {p : Program} {reading : Reading} {is_async : Bool} {stmts after its : List Item}
    {old new : Pairing} →
    AreTwins reading is_async stmts after its → AreLike stmts old new →
    {blocks : List (List ℕ)} {plan : List Cause} →
    AreBlocksLaidOut p AsModule (module_with stmts after) reading old blocks plan →
    AreBlocksLaidOut p AsCall (call_with is_async stmts its) reading new blocks plan
blocks-moved twins like over = over
blocks-moved twins like (next plan block rest) =
    next plan (block-moved twins like block) (blocks-moved twins like rest)

pub front-moved : {p : Program} (xs : List Text) {ys : List Cause} →
    Chosen (IsDue p AsModule) (flat_map import_causes xs ++ Helps ∷ []) ys →
    Chosen (IsDue p AsCall) (flat_map import_causes xs ++ Helps ∷ []) ys
front-moved xs choice = chosen-same (imports-other xs) choice
