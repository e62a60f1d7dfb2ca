-- A load function declares just itself at its top.
-- What is fit without its contexts and notes is fit with them.
-- The occurrences of a top item are those that stand in its part of the tree.
-- A statement of a CommonJS module with what is made of it, and all of them in turn.
use Rattle.std.proofs.Common.{◌≡◌, ℕ, zero, suc, ◌+◌, true, false, cond, ◌&&◌, List, ◌∷◌, Some, None, slice_get, refl, ap, sym, ◌∙◌, arith, ne_eqb, eqb-true, bytes_eq, [], ◌++◌, append-nil, subst, ◌<◌, ◌≤◌, Bool, filter, length, map, append_assoc, ◌⊎◌, inl, inr}
use Rattle.std.proofs.lemmas.Bool.{false≢true, and_parts, false_from_ne_true, le-leb, leb-true, and_from, not-true}
use Rattle.std.proofs.lemmas.Option.{none-some, same_Some}
use Rattle.std.specs.Prelude.{fold, nat_le, nat_lt, Contains, flat_map, if◌then◌else◌}
use Rattle.std.specs.List.{AllZip, AllByRecursion}
use Rattle.bundle_syntax.specs.Item as h
use Rattle.bundle_syntax.specs.Item.{Item, Head}
use Rattle.bundle_syntax.specs.declared.piece.Role.{Role}
use Rattle.bundle_syntax.specs.declared.piece.Role.TheVariants as r
use Rattle.bundle_rules.specs.Places.{Occurrence, is_binding, Spot, past, start, occurrences, occurrences_from}
use Rattle.bundle_rules.specs.Scopes.{Es, Cjs, Scope, Wrapper, Top, Inner, same_scope, scopes_around}
use Rattle.bundle_rules.specs.Declarations.{BySymbol, ByContext, Name, names_agree, Declared, declared_by, declaration_of, way_of, declared}
use Rattle.bundle_rules.specs.Homes.{home_of, is_declared_in}
use Rattle.bundle_rules.specs.Denotes.{Denoted, Bound, is_written_in, has_identifier, own_or_found, denoted_in, denoted_of}
use Rattle.bundle_rules.specs.Idents.{Ident}
use Rattle.bundle_rules.specs.Cleared.{cleared_head, cleared_item, cleared}
use Rattle.bundle_rules.specs.Statements.{TopItem, Element, taken_from, placed, stated, own_statements}
use Rattle.bundle_rules.specs.Nodes.{flat, parts}
use Rattle.bundle_rules.specs.Callable.{is_module_head}
use Rattle.bundle_rules.specs.Entries.{has_import_meta}
use Rattle.bundle_rules.specs.Program.{Program, tree_of, IsReached}
use Rattle.bundle_rules.specs.Linking.{IsCommonJs}
use Rattle.bundle_rules.specs.Meaning.{Meant, Meta, inner_bindings, is_inside, own_view}
use Rattle.bundle_rules.specs.Mentions.{each_denoted_once}
use Rattle.bundle_tree_places.specs.Edits.{Anywhere, node}
use Rattle.bundle_scope_names.proofs.Numbering.{Numbering}
use Rattle.bundle_scope_names.proofs.HomesLemmas.{list_any-found, list_any-here, bytes_same as same_symbol}
use Rattle.bundle_scope_names.proofs.FoundLemmas.{with}
use Rattle.bundle_scope_names.proofs.Kept.{occurrences-append as occurrences_append}
use Rattle.bundle_tree_rebuild.specs.Work.{Step, Work}
use Rattle.bundle_tree_rebuild.specs.Becomes.{Becomes}
use Rattle.bundle_scope_names.specs.fit.Sorts.{NodeSort, One, Places, NodeSlot, slot, takes_head, names_of_sort, slots, AStmt}
use Rattle.bundle_scope_names.specs.fit.Fits.{AreFit, no_more, over, a_name, a_hole, a_node, IsFit}
use Rattle.bundle_scope_names.proofs.fit.Rows.{last}
use Rattle.bundle_link.proofs.NodePaths.{fold-place}
use Rattle.bundle_merge_theory.specs.joined.Joined.{own_declared}
use Rattle.bundle_merge_theory.specs.joined.Notes.{own_denoted, is_inner_denoted}
use Rattle.bundle_merge_theory.specs.loaded.Kept.{load_declared, DenotedBeside, globals, bindings}
use Rattle.bundle_merge_theory.specs.loaded.Turned.{Turned, NodeGoes, over as over_piece}
use Rattle.bundle_merge_theory.specs.loaded.Item.{load_item, parameter_named, declared_by_names, module_start}
use Rattle.bundle_merge_theory.specs.loaded.Loaded.{module_declared, body_names, IsLoadedItem}
use Rattle.bundle_merge_theory.proofs.joined.Bindings.{scope_in, bound-global}
use Rattle.bundle_merge_theory.proofs.joined.Notes.{agrees-itself}
use Rattle.bundle_merge_theory.proofs.loaded.Noted.{picked, declared-body, NamedHere, of_kept, of_changed, named-here, beside-inner}
use Rattle.bundle_merge_theory.specs.noted.Agrees.{IsSpotAt}
use Rattle.bundle_merge_theory.proofs.noted.Spots.{at-place, at-drop, at-behind, at-as}
use Rattle.bundle_merge_theory.proofs.noted.Names.{occurrence_here}
use Rattle.bundle_merge_theory.specs.noted.Marked.{Note}
use Rattle.bundle_merge_theory.specs.noted.Stated.{states_itself, declares_default}
use Rattle.bundle_merge_theory.specs.walked.Names.{idents_among}
use Rattle.bundle_merge_theory.specs.walked.Rewrites.{AreOwn, KeepsSymbol, Cover}
use Rattle.bundle_merge_theory.specs.walked.Stated
use Rattle.bundle_merge_theory.specs.walked.Stated.{StatesList}
use Rattle.bundle_merge_theory.specs.walked.Keeps.{AreOfMeta, steps_in, notes_in, meant_ident, meant_in}
use Rattle.bundle_merge_theory.proofs.walked.Rewriting.{Fits, fits, own_made, own_lone}
use Rattle.bundle_merge_theory.specs.loaded.Pieces.{inner_there}
use Rattle.bundle_merge_theory.proofs.loaded.Parameters.{walk-turns}
use Rattle.bundle_merge_theory.proofs.fit.Clearing.{starts, ends, takes_cleared, slots_cleared}
use Rattle.bundle_merge_theory.proofs.function.Calls.{was_end, suits}
use Rattle.bundle_merge_theory.specs.made.Steps.{is_in, occurrences_in, IsCalled, IsStep, meta_ident}
use Rattle.bundle_merge_theory.proofs.fit.Facts.{one_own, fit_is_whole}
use Rattle.bundle_merge_theory.proofs.composed.Lone.{told_of}
use Rattle.bundle_merge_theory.specs.made.Given.{BundleContexts, ident_of_label}
use Rattle.bundle_merge_theory.specs.made.Made.{IsStatedAs}
use Rattle.bundle_merge_theory.specs.made.Told.{IsStatementTold, meta_meant, AllNoted, inner_of}
use Rattle.bundle_merge_theory.specs.function.Suited.{Suits}
use Rattle.bundle_merge_theory.specs.function.Calls.{IsLoadName, StepFor, keeps_it, calls_it, NoCall}
use Rattle.bundle_merge_theory.specs.function.Pieces.{AllNamed, IsPiece, Laid, all_laid, passed, laid}
use Rattle.bundle_merge_theory.proofs.own.Fit.{walk}
use Rattle.bundle_merge_theory.proofs.function.Strange.{turned-cleared}
use Rattle.bundle_merge_theory.proofs.function.Fine.{fine}
use Rattle.bundle_merge_theory.proofs.function.Parts.{IsOwnPart, IsOwnModule, empty_statement, part_modules, part_states, part_empty, one_part, top_part}
use Rattle.bundle_merge_theory.proofs.function.Statement.{all_names, no_meta}
use Rattle.bundle_merge_theory.proofs.own.Stated.{itself_default as itself_undeclared}

-- ---- declares
module _ {L : Ident → Type 0} {xs ys : List Item} (w : Turned L zero xs ys) (g : Numbering)
    (load helper m e : Ident) (its : IsLoadedItem g w load m e) where
  abbrev item : List Item
  item = load_item load helper m e ys

  -- ITSELF
  pub load_declares : is_written_in (own_declared item) Top (with load.0 load.1) ≡ true
  load_declares =
      list_any-here
      (λ d. has_identifier d && is_declared_in (own_declared item) Top (with load.0 load.1) d)
      (own_declared item) 0 (load_declared load.0 load.1)
      (ap (λ ds. slice_get ds 0) (declared-body w load helper m e))
      (agrees-itself load.0 load.1)

  inner_other : (s : Scope) (k : Name) → is_inner_denoted (Bound s k) ≡ true → same_scope s Top ≡ false
  inner_other Top k is = absurd (false≢true is)
  inner_other Wrapper k is = absurd (false≢true is)
  inner_other (Inner kind begins) k is = ne_eqb (begins + 2) 1 (λ same. omega (arith, same))

  -- NOTHING ELSE
  pub declares_load : (x : List ℕ) (n : ℕ) →
      is_written_in (own_declared item) Top (with x n) ≡ true →
      names_agree (with load.0 load.1) (with x n) ≡ true
  declares_load x n is =
      let found =
      list_any-found
      (λ d. has_identifier d && is_declared_in (own_declared item) Top (with x n) d)
      (own_declared item) is in
      let parts = and_parts (has_identifier found.1) _ found.3 in
      let home = and_parts (same_scope (home_of (own_declared item) found.1) Top) _ parts.1 in
      by found.0 found.1
      (sym (ap (λ ds. slice_get ds found.0) (declared-body w load helper m e)) ∙ found.2)
      home.0 home.1
    where
      of_name : (u : Occurrence) (d : Declared) → declaration_of ByContext Es u ≡ Some d →
          NamedHere w g load helper m e its u →
          same_scope (home_of (own_declared item) d) Top ≡ true → ⊥
      of_name u d is (of_changed o stands refers calls) top =
          none-some d
          (sym
          (ap
          (λ b. cond b
          (declared_by u.place (with u.sym u.ctxt) (scopes_around Es u.path) (way_of u.path)) None)
          (ap is_binding stands.role ∙ refers))
          ∙ is)
      of_name u d is (of_kept i o there stands keeps beside) top =
          go (denoted_of BySymbol Cjs (module_declared xs) o) (own_denoted item u) refl beside
        where
          its_own : own_denoted item u ≡ Bound (home_of (own_declared item) d) d.name
          its_own =
              ap
              (own_or_found (own_declared item)
              (denoted_in ByContext (own_declared item) (scopes_around Es u.path)
              (with u.sym u.ctxt)))
              is

          go : (a b : Denoted) → own_denoted item u ≡ b →
              DenotedBeside (NodeGoes w 1 22) g (module_declared xs) a b → ⊥
          go a b second globals = bound-global (sym its_own ∙ second)
          go a b second (bindings {s = s} {t = t} {x = y} near) =
              let home : home_of (own_declared item) d ≡ t = ap scope_in (sym its_own ∙ second) in
              false≢true
              (sym (inner_other t (with y 0) (beside-inner w g load helper m e its (with y 0) near))
              ∙ (ap (λ s. same_scope s Top) (sym home) ∙ top))

      by : (j : ℕ) (d : Declared) →
          slice_get
          (load_declared load.0 load.1 ∷ parameter_named 13 m ∷ parameter_named 18 e ∷
          declared_by_names ByContext Es (body_names ys))
          j ≡ Some d →
          same_scope (home_of (own_declared item) d) Top ≡ true →
          names_agree d.name (with x n) ≡ true → names_agree (with load.0 load.1) (with x n) ≡ true
      by zero d at top agrees =
          ap (λ (q : Declared). names_agree q.name (with x n))
          (same_Some (load_declared load.0 load.1) d at)
          ∙ agrees
      by (suc zero) d at top agrees =
          absurd
          (false≢true
          (ap (λ q. same_scope (home_of (own_declared item) q) Top)
          (same_Some (parameter_named 13 m) d at)
          ∙ top))
      by (suc (suc zero)) d at top agrees =
          absurd
          (false≢true
          (ap (λ q. same_scope (home_of (own_declared item) q) Top)
          (same_Some (parameter_named 18 e) d at)
          ∙ top))
      by (suc (suc (suc j))) d at top agrees =
          let it = picked (declaration_of ByContext Es) (body_names ys) j d at in
          absurd (of_name it.1 d it.3 (named-here w g load helper m e its it.0 it.1 it.2) top)

  -- so its identifier is that
  pub declares_just : (x : List ℕ) (n : ℕ) →
      is_written_in (own_declared item) Top (with x n) ≡ true → (x, n) ≡ load
  declares_just x n is =
      let parts =
      and_parts (bytes_eq load.0 x) _ (declares_load x n is) in
      let symbol : load.0 ≡ x = same_symbol load.0 x parts.0 in
      let number : load.1 ≡ n = eqb-true load.1 n parts.1 in
      λ k. (sym symbol k, sym number k)

-- ---- given

-- what was cleared to this
record WasOpen (item : Item) (field : ℕ) (head : Head) : Type 0 where
  old : Head
  is : item ≡ h.Open field old
  same : cleared_head old ≡ head

was_open : (item : Item) (field : ℕ) (head : Head) → cleared_item item ≡ h.Open field head →
    WasOpen item field head
was_open (h.Open f old) field head is =
    let fields : f ≡ field = cc in
    record { old = old; is = ap (λ n. h.Open n old) fields; same = cc }
was_open (h.Ident f x ctxt role) field head is = cc
was_open (h.Hole f) field head is = cc
was_open h.Close field head is = cc

record WasName (item : Item) (field : ℕ) (x : List ℕ) (role : Role) : Type 0 where
  old : ℕ
  is : item ≡ h.Ident field x old role

was_name : (item : Item) (field : ℕ) (x : List ℕ) (ctxt : ℕ) (role : Role) →
    cleared_item item ≡ h.Ident field x ctxt role → WasName item field x role
was_name (h.Open f old) field x ctxt role is = cc
was_name (h.Ident f y old its) field x ctxt role is =
    let fields : f ≡ field = cc in
    let symbols : y ≡ x = cc in
    let roles : its ≡ role = cc in
    record { old = old; is = λ k. h.Ident (fields k) (symbols k) old (roles k) }
was_name (h.Hole f) field x ctxt role is = cc
was_name h.Close field x ctxt role is = cc

pub was_hole : (item : Item) (field : ℕ) → cleared_item item ≡ h.Hole field → item ≡ h.Hole field
was_hole (h.Open f old) field is = cc
was_hole (h.Ident f y old its) field is = cc
was_hole (h.Hole f) field is = is
was_hole h.Close field is = cc

record WasSplit (items inside rest : List Item) : Type 0 where
  old : List Item
  behind : List Item
  is : items ≡ old ++ h.Close ∷ behind
  same : cleared old ≡ inside
  left : cleared behind ≡ rest

was_split : (items inside rest : List Item) → cleared items ≡ inside ++ h.Close ∷ rest →
    WasSplit items inside rest
was_split [] [] rest is = cc
was_split [] (y ∷ inside) rest is = cc
was_split (x ∷ items) [] rest is =
    let first : cleared_item x ≡ h.Close = cc in
    let behind : cleared items ≡ rest = cc in
    record {
      old = [];
      behind = items;
      is = ap (λ y. y ∷ items) (was_end x first);
      same = refl;
      left = behind;
    }
was_split (x ∷ items) (y ∷ inside) rest is =
    let first : cleared_item x ≡ y = cc in
    let all : cleared items ≡ inside ++ h.Close ∷ rest = cc in
    let it = was_split items inside rest all in
    record {
      old = x ∷ it.old;
      behind = it.behind;
      is = ap (λ l. x ∷ l) it.is;
      same = λ k. first k ∷ it.same k;
      left = it.left;
    }

pub fit_given : {list : List NodeSlot} {all : List Item} → AreFit list all → (items : List Item) →
    cleared items ≡ all → AreFit list items
fit_given no_more [] is = no_more
fit_given no_more (x ∷ items) is = cc
fit_given (over e fit) items is = over e (fit_given fit items is)
fit_given (a_name it fit) [] is = cc
fit_given (a_name {number = n} {count = c} {sort = k} {more = more} {x = x} {ctxt = t} {role =
    role} {rest = rest} it fit) (y ∷ items) is =
    let first : cleared_item y ≡ h.Ident n x t role = cc in
    let behind : cleared items ≡ rest = cc in
    let was = was_name y n x t role first in
    subst (λ z. AreFit (slot n c k ∷ more) (z ∷ items)) (sym was.is)
    (a_name it (fit_given fit items behind))
fit_given (a_hole fit) [] is = cc
fit_given (a_hole {number = n} {sort = k} {more = more} {rest = rest} fit) (y ∷ items) is =
    let first : cleared_item y ≡ h.Hole n = cc in
    let behind : cleared items ≡ rest = cc in
    subst (λ z. AreFit (slot n Places k ∷ more) (z ∷ items)) (sym (was_hole y n first))
    (a_hole (fit_given fit items behind))
fit_given (a_node it in_it fit) [] is = cc
fit_given (a_node {number = n} {count = c} {sort = k} {more = more} {head = hd} {inside =
    ins} {rest = rest} it in_it fit) (y ∷ items) is =
    let first : cleared_item y ≡ h.Open n hd = cc in
    let behind : cleared items ≡ ins ++ h.Close ∷ rest = cc in
    let was = was_open y n hd first in
    let split = was_split items ins rest behind in
    subst (λ l. AreFit (slot n c k ∷ more) l) (λ k. sym was.is k ∷ sym split.is k)
    (a_node
    (sym (takes_cleared was.old k) ∙ (ap (λ z. takes_head z k) was.same ∙ it))
    (subst (λ l. AreFit l split.old)
    (ap (λ z. slots z (names_of_sort k)) (sym was.same) ∙ slots_cleared was.old (names_of_sort k))
    (fit_given in_it split.old split.same))
    (fit_given fit split.behind split.left))

-- one node or name alone
pub one_alone : {sort : NodeSort} {field : ℕ} {items : List Item} →
    AreFit (slot field One sort ∷ []) items → IsFit sort field items
one_alone {sort = k} {field = n} fit =
    let it = starts fit in
    subst (IsFit k n)
    (sym (append-nil it.front) ∙ (ap (λ l. it.front ++ l) (sym (ends it.fits)) ∙ sym it.is))
    it.it

-- ---- here
pub filter_append : {A : Type 0} (test : A → Bool) (xs ys : List A) →
    filter test (xs ++ ys) ≡ filter test xs ++ filter test ys
filter_append test [] ys = refl
filter_append {A = A} test (x ∷ xs) ys = by (test x) (filter_append test xs ys)
  where
    by : (b : Bool) → filter test (xs ++ ys) ≡ filter test xs ++ filter test ys →
        cond b (x ∷ filter test (xs ++ ys)) (filter test (xs ++ ys))
        ≡ cond b (x ∷ filter test xs) (filter test xs) ++ filter test ys
    by true is = ap (λ l. x ∷ l) is
    by false is = is

-- where all occurrences pass, or none does
module _ (test : Occurrence → Bool) (lo hi : ℕ) where
  all_pass : ((o : Occurrence) → lo ≤ o.place → o.place < hi → test o ≡ true) → (s : Spot)
      (xs : List Item) → lo ≤ s.place → s.place + length xs ≤ hi →
      filter test (occurrences_from s xs) ≡ occurrences_from s xs
  all_pass passes s [] low high = refl
  all_pass passes s (x ∷ xs) low high =
      by x
      (all_pass passes (past s x) xs (omega (arith, low)) (omega (arith, high)))
    where
      one : (o : Occurrence) (os : List Occurrence) → o.place ≡ s.place → filter test os ≡ os →
          filter test (o ∷ os) ≡ o ∷ os
      one o os at rest =
          ap (λ b. cond b (o ∷ filter test os) (filter test os))
          (passes o (omega (arith, at, low)) (omega (arith, at, high)))
          ∙ ap (λ l. o ∷ l) rest

      by : (x : Item) →
          filter test (occurrences_from (past s x) xs) ≡ occurrences_from (past s x) xs →
          filter test (occurrences_from s (x ∷ xs)) ≡ occurrences_from s (x ∷ xs)
      by (h.Open field head) rest = rest
      by (h.Ident field y ctxt r.Word) rest = rest
      by (h.Ident field y ctxt r.Binding) rest =
          one (occurrence_here s field y ctxt r.Binding) _ refl rest
      by (h.Ident field y ctxt r.Reference) rest =
          one (occurrence_here s field y ctxt r.Reference) _ refl rest
      by (h.Hole field) rest = rest
      by h.Close rest = rest

  none_pass : ((o : Occurrence) → lo ≤ o.place → o.place < hi → test o ≡ false) → (s : Spot)
      (xs : List Item) → lo ≤ s.place → s.place + length xs ≤ hi →
      filter test (occurrences_from s xs) ≡ []
  none_pass fails s [] low high = refl
  none_pass fails s (x ∷ xs) low high =
      by x
      (none_pass fails (past s x) xs (omega (arith, low)) (omega (arith, high)))
    where
      one : (o : Occurrence) (os : List Occurrence) → o.place ≡ s.place → filter test os ≡ [] →
          filter test (o ∷ os) ≡ []
      one o os at rest =
          ap (λ b. cond b (o ∷ filter test os) (filter test os))
          (fails o (omega (arith, at, low)) (omega (arith, at, high)))
          ∙ rest

      by : (x : Item) → filter test (occurrences_from (past s x) xs) ≡ [] →
          filter test (occurrences_from s (x ∷ xs)) ≡ []
      by (h.Open field head) rest = rest
      by (h.Ident field y ctxt r.Word) rest = rest
      by (h.Ident field y ctxt r.Binding) rest =
          one (occurrence_here s field y ctxt r.Binding) _ refl rest
      by (h.Ident field y ctxt r.Reference) rest =
          one (occurrence_here s field y ctxt r.Reference) _ refl rest
      by (h.Hole field) rest = rest
      by h.Close rest = rest

-- THE OCCURRENCES
pub occurrences-here : {tree : List Item} {s : Spot} (x rest : List Item) →
    IsSpotAt tree s (x ++ rest) → (top : TopItem) → top.start ≡ s.place → top.items ≡ x →
    occurrences_in tree top ≡ occurrences_from s x
occurrences-here {tree = tree} {s = s} x rest at top begins items =
    ap (λ l. filter (is_in top) (occurrences l)) at.tree_is
    ∙ (ap (filter (is_in top))
    (occurrences_append start at.front (x ++ rest)
    ∙ (ap (λ t. occurrences_from start at.front ++ occurrences_from t (x ++ rest)) (sym at.spot_is)
    ∙ ap (λ l. occurrences_from start at.front ++ l) (occurrences_append s x rest)))
    ∙ (filter_append (is_in top) (occurrences_from start at.front)
    (occurrences_from s x ++ occurrences_from (fold past s x) rest)
    ∙ ((λ k. front k ++ filter (is_in top) (occurrences_from s x ++ occurrences_from
    (fold past s x) rest))
    ∙ (filter_append (is_in top) (occurrences_from s x) (occurrences_from (fold past s x) rest)
    ∙ ((λ k. middle k ++ back k) ∙ nothing (occurrences_from s x))))))
  where
    size : length top.items ≡ length x
    size = ap (λ (l : List Item). length l) items

    place : s.place ≡ length at.front
    place = at-place at

    front : filter (is_in top) (occurrences_from start at.front) ≡ []
    front =
        none_pass (is_in top) 0 s.place
        (λ o low high.
        ap (λ b. b && nat_lt o.place (top.start + length top.items))
        (false_from_ne_true (nat_le top.start o.place)
        (λ is. let le = leb-true top.start o.place is in omega (arith, le, begins, high))))
        start at.front (omega arith) (omega (arith, place))

    middle : filter (is_in top) (occurrences_from s x) ≡ occurrences_from s x
    middle =
        all_pass (is_in top) s.place (s.place + length x)
        (λ o low high.
        and_from (nat_le top.start o.place) (nat_lt o.place (top.start + length top.items))
        (le-leb top.start o.place (omega (arith, begins, low)))
        (le-leb (suc o.place) (top.start + length top.items) (omega (arith, begins, size, high))))
        s x (omega arith) (omega arith)

    behind : (fold past s x).place ≡ s.place + length x
    behind = fold-place s x

    back : filter (is_in top) (occurrences_from (fold past s x) rest) ≡ []
    back =
        none_pass (is_in top) (s.place + length x) (s.place + length x + length rest)
        (λ o low high.
        ap (λ b. nat_le top.start o.place && b)
        (false_from_ne_true (nat_lt o.place (top.start + length top.items))
        (λ is. let lt = leb-true (suc o.place) (top.start + length top.items) is in
        omega (arith, lt, begins, size, low)))
        ∙ and_false (nat_le top.start o.place))
        (fold past s x) rest (omega (arith, behind)) (omega (arith, behind))
      where
        and_false : (b : Bool) → (b && false) ≡ false
        and_false true = refl
        and_false false = refl

    nothing : (os : List Occurrence) → os ++ [] ≡ os
    nothing [] = refl
    nothing (o ∷ os) = ap (λ l. o ∷ l) (nothing os)

-- ---- piece

-- A statement states itself.

record IsMadeSo (p : Program) (c place : ℕ) (work : Work) (given made : List Item) : Type 0 where
  rest : Work
  by : Becomes Anywhere work given made rest
  undeclared : declares_default given ≡ false
  first : NoCall p c place given

made_so : (p : Program) (c place : ℕ) {work : Work} {name : Ident} {given made : List Item} →
    StatesList work name given made → (head : Head) (rest : List Item) →
    cleared given ≡ h.Open 0 head ∷ rest → is_module_head head ≡ false →
    IsMadeSo p c place work given made
made_so p c place (Stated.StatementStates field own inside {rest = left} itself one) head rest is apart =
    record {
      rest = left;
      by = one;
      undeclared = itself_undeclared field own (inside ++ h.Close ∷ []) itself;
      first = tt;
    }
made_so p c place (Stated.DeclarationStates field inside one) head rest is apart =
    let same : h.ExportDecl ≡ head = cc in
    absurd (false≢true (sym apart ∙ ap is_module_head (sym same)))
made_so p c place (Stated.ValueStates field first more one) head rest is apart =
    let same : h.ExportDefaultExpr ≡ head = cc in
    absurd (false≢true (sym apart ∙ ap is_module_head (sym same)))
made_so p c place (Stated.OwnStates field inner name_field x ctxt role own body it one) head rest is
    apart =
    let same : h.ExportDefaultDecl ≡ head = cc in
    absurd (false≢true (sym apart ∙ ap is_module_head (sym same)))
made_so p c place (Stated.DefaultStates field inner first_field own first more it one) head rest is apart
    =
    let same : h.ExportDefaultDecl ≡ head = cc in
    absurd (false≢true (sym apart ∙ ap is_module_head (sym same)))

-- The steps cover its names.

step_covers : (p : Program) (list : List ℕ) (context : BundleContexts) (c : ℕ) (o : Occurrence)
    (step : Step) (ctxt : ℕ) → StepFor p list context c o step → KeepsSymbol step (o.sym, ctxt)
step_covers p list context c o step ctxt (keeps_it none keeps alone) short = keeps.symbol
step_covers p list context c o step ctxt (calls_it its refers load whole spells) short =
    spells short

covers : (p : Program) (list : List ℕ) (context : BundleContexts) (c : ℕ) (spot : Spot)
    (given : List Item) (steps : List Step) →
    AllZip (StepFor p list context c) (occurrences_from spot (cleared given)) steps →
    Cover steps given
covers p list context c spot [] [] each = tt
covers p list context c spot [] (step ∷ steps) each = absurd each
covers p list context c spot (h.Open field head ∷ rest) steps each =
    covers p list context c (past spot (h.Open field (cleared_head head))) rest steps each
covers p list context c spot (h.Hole field ∷ rest) steps each =
    covers p list context c (past spot (h.Hole field)) rest steps each
covers p list context c spot (h.Close ∷ rest) steps each =
    covers p list context c (past spot h.Close) rest steps each
covers p list context c spot (h.Ident field x ctxt r.Word ∷ rest) steps each =
    covers p list context c (past spot (h.Ident field x 0 r.Word)) rest steps each
covers p list context c spot (h.Ident field x ctxt r.Binding ∷ rest) [] each = absurd each
covers p list context c spot (h.Ident field x ctxt r.Binding ∷ rest) (step ∷ steps) each = (
  step_covers p list context c _ step ctxt each.0,
  covers p list context c (past spot (h.Ident field x 0 r.Binding)) rest steps each.1,
)
covers p list context c spot (h.Ident field x ctxt r.Reference ∷ rest) [] each = absurd each
covers p list context c spot (h.Ident field x ctxt r.Reference ∷ rest) (step ∷ steps) each = (
  step_covers p list context c _ step ctxt each.0,
  covers p list context c (past spot (h.Ident field x 0 r.Reference)) rest steps each.1,
)

fit_made : {work rest : Work} {given made : List Item} → Becomes Anywhere work given made rest →
    AreFit (slot 0 One AStmt ∷ []) given → AreFit (slot 0 One AStmt ∷ []) made
fit_made {given = given} {made = made} one fit =
    let its =
    walk one fit [] (sym (append-nil given)) false refl (λ is. absurd (false≢true is)) tt in
    subst (AreFit (slot 0 One AStmt ∷ [])) (append-nil made) (its.again [] its.fits)

module _ (p : Program) (list : List ℕ) (context : BundleContexts) (c : ℕ) (reached : IsReached p c)
    (common : IsCommonJs p c)
    (loads : (o : Occurrence) (d : ℕ) → IsCalled p c o d → IsReached p d × IsCommonJs p d)
    (own : IsOwnModule (tree_of p c)) where
  abbrev pub ds : List Declared
  ds = declared BySymbol Cjs (tree_of p c)

  no_import_meta : has_import_meta (tree_of p c) ≡ false
  no_import_meta =
      not-true (has_import_meta (tree_of p c)) (and_parts _ _ common.script).1

  meta_is_none : meta_ident p list context c ≡ None
  meta_is_none =
      ap (λ b. if b then Some (ident_of_label p list context (Meta c)) else None) no_import_meta

  abbrev Loads : Ident → Type 0
  Loads = IsLoadName p list context

  -- where its steps and its notes are so, one by one
  piece_of : (spot : Spot) (x rest : List Item) (statement : List Element) (made : List Item) →
      IsOwnPart x → IsSpotAt (tree_of p c) spot (x ++ rest) →
      (its : IsStatedAs p list context c Cjs statement made) →
      (told : IsStatementTold p list context c Cjs statement made its) → cleared its.given ≡ x →
      AllZip (StepFor p list context c) (occurrences_from spot x) its.steps →
      AllNamed p list context c ds (inner_there ds spot x) (occurrences_from spot x)
      (map (λ (step : Step). step.ident) its.steps)
      (map (λ (note : Note). note.meant) told.notes) →
      inner_bindings (own_view p c Cjs) 0 statement ≡ inner_there ds spot x →
      IsPiece p list context c ds spot x statement made
  piece_of spot x rest statement made part at its told given_is each named inner_is = record {
    turned = turned;
    told = told_of told.same;
    marked = told.same.result;
    means = told.means;
    each =
        subst
        (λ names.
        AllNamed p list context c ds (inner_there ds spot x) (occurrences_from spot x) names
        (told_of told.same).0)
        (sym names_are)
        (subst
        (AllNamed p list context c ds (inner_there ds spot x) (occurrences_from spot x)
        (map (λ (step : Step). step.ident) its.steps))
        (sym meants_are) named);
    called = inner_is;
    lone = own_lone made (own_made rewritten.by given_own);
    fit = one_alone (fit_made so.by given_fit);
  }
    where
      given_fit : AreFit (slot 0 One AStmt ∷ []) its.given
      given_fit = fit_given (last part.fit) its.given given_is

      given_own : AreOwn its.given
      given_own = one_own (one_alone given_fit) refl

      work : Work
      work = record {
        steps = its.steps ++ its.behind;
        meta = meta_ident p list context c;
        clears_notes = true;
      }

      so : IsMadeSo p c spot.place work its.given made
      so =
          made_so p c spot.place its.by part.head (part.inside ++ h.Close ∷ [])
          (given_is ∙ part.is) part.own

      steps_there : AllZip (StepFor p list context c) (occurrences_from spot (cleared its.given))
          its.steps
      steps_there =
          subst (λ l. AllZip (StepFor p list context c) (occurrences_from spot l) its.steps)
          (sym given_is) each

      suited : Suits Loads its.given its.steps
      suited =
          suits p list context c (suc (length its.given)) 0 spot its.given rest its.steps
          (record {
            small = omega arith;
            there = at-drop at ∙ ap (λ l. l ++ rest) (sym given_is);
            closed = fit_is_whole given_fit;
            modules = part_modules (one_alone given_fit);
            first = so.first;
            each = steps_there;
          })

      rewritten : Fits Anywhere work its.given made so.rest its.behind
      rewritten =
          fits so.by refl given_own its.steps its.behind refl
          (covers p list context c spot its.given its.steps steps_there)

      turned_given : Turned Loads zero (its.given ++ []) (made ++ [])
      turned_given =
          walk-turns Loads rewritten.by
          (fine Loads rewritten.by [] its.steps its.behind refl meta_is_none
          (subst (λ l. Suits Loads l its.steps) (sym (append-nil its.given)) suited)).fine
          0 [] [] over_piece

      turned : Turned Loads zero x made
      turned =
          subst (λ l. Turned Loads zero l made) (ap cleared (append-nil its.given) ∙ given_is)
          (subst (Turned Loads zero (cleared (its.given ++ []))) (append-nil made)
          (turned-cleared turned_given))

      front_none : told.same.front ≡ []
      front_none = by told.same.front_is
        where
          by : {a : Ident × Meant} → (told.same.front ≡ [])
              ⊎ ((told.same.front ≡ a ∷ []) × (declares_default its.given ≡ true)) →
              told.same.front ≡ []
          by (inl is) = is
          by (inr is) = absurd (false≢true (sym so.undeclared ∙ is.1))

      entries_are : (map meant_ident told.same.entries
          ≡ map (λ (step : Step). step.ident) (steps_in told.same.entries))
          × (map meant_in told.same.entries
          ≡ map (λ (note : Note). note.meant) (notes_in told.same.entries))
      entries_are =
          no_meta (meta_meant p c) told.same.entries
          (subst (λ its_meta. AreOfMeta its_meta (meta_meant p c) told.same.entries) meta_is_none
          told.same.of_meta)

      names_are : idents_among made ≡ map (λ (step : Step). step.ident) its.steps
      names_are =
          told.same.names
          ∙ (ap (λ l. map (λ (pair : Ident × Meant). pair.0) l ++ map meant_ident told.same.entries)
          front_none
          ∙ (entries_are.0 ∙ ap (map (λ (step : Step). step.ident)) (sym told.same.steps_are)))

      meants_are : (told_of told.same).0 ≡ map (λ (note : Note). note.meant) told.notes
      meants_are =
          ap (λ l. map (λ (pair : Ident × Meant). pair.1) l ++ map meant_in told.same.entries)
          front_none
          ∙ (entries_are.1 ∙ ap (map (λ (note : Note). note.meant)) (sym told.same.notes_are))

  -- ONE STATEMENT
  pub piece : (spot : Spot) (x rest : List Item) (statement : List Element) (made : List Item) →
      IsOwnPart x → IsSpotAt (tree_of p c) spot (x ++ rest) → statement ≡ taken_from spot.place x →
      (its : IsStatedAs p list context c Cjs statement made) →
      IsStatementTold p list context c Cjs statement made its →
      IsPiece p list context c ds spot x statement made
  piece spot x rest statement made part at is its told =
      let top =
      one_part its.top spot.place x statement
      (top_part 1 (parts (tree_of p c)) own.each its.top its.there) part its.states is in
      let here : occurrences_in (tree_of p c) its.top ≡ occurrences_from spot x =
      occurrences-here x rest at its.top top.0 top.1 in
      let inner_is : inner_of p c Cjs its.top ≡ inner_there ds spot x =
      ap (λ os. each_denoted_once (filter (is_inside 0) (map (denoted_of BySymbol Cjs ds) os)))
      here in
      let both =
      all_names p list context c reached common loads (inner_there ds spot x)
      (occurrences_from spot x) its.steps told.notes
      (subst (λ os. AllZip (IsStep p list context c Cjs) os its.steps) here its.each)
      (subst
      (λ inner. AllNoted p list context c Cjs inner (occurrences_from spot x) its.steps told.notes)
      inner_is
      (subst
      (λ os.
      AllNoted p list context c Cjs (inner_of p c Cjs its.top) os its.steps told.notes)
      here told.each)) in
      piece_of spot x rest statement made part at its told (its.is_given ∙ top.1) both.0 both.1
      (told.inner ∙ inner_is)

  -- ALL STATEMENTS
  abbrev pub IsToldOf : List Element → List Item → Type 0
  IsToldOf statement made =
      (its : IsStatedAs p list context c Cjs statement made)
      × IsStatementTold p list context c Cjs statement made its

  abbrev stated_from : ℕ → List (List Item) → List (List Element)
  stated_from n xs =
      flat_map (λ (top : TopItem). stated top.start top.items) (placed n xs)

  abbrev LaysRest : List (List Item) → Type 0
  LaysRest xs =
      (n : ℕ) (spot : Spot) (bodies : List (List Item)) → n ≡ spot.place →
      IsSpotAt (tree_of p c) spot (flat xs ++ h.Close ∷ []) →
      AllZip IsToldOf (stated_from n xs) bodies →
      Laid p list context c ds spot xs (stated_from n xs) bodies

  lay_empty : (n : ℕ) (spot : Spot) (xs : List (List Item)) (bodies : List (List Item)) →
      n ≡ spot.place →
      IsSpotAt (tree_of p c) spot (flat (empty_statement ∷ xs) ++ h.Close ∷ []) →
      AllZip IsToldOf (stated_from n (empty_statement ∷ xs)) bodies → LaysRest xs →
      Laid p list context c ds spot (empty_statement ∷ xs)
      (stated_from n (empty_statement ∷ xs)) bodies
  lay_empty n spot xs bodies is at told rest =
      passed
      (rest (n + 2) (past (past spot (h.Open 0 h.EmptyStmt)) h.Close) bodies (omega (arith, is))
      (at-behind empty_statement (flat xs ++ h.Close ∷ []) at) told)

  lay_stated : (n : ℕ) (spot : Spot) (x : List Item) (xs : List (List Item))
      (bodies : List (List Item)) → IsOwnPart x → n ≡ spot.place →
      IsSpotAt (tree_of p c) spot (flat (x ∷ xs) ++ h.Close ∷ []) →
      AllZip IsToldOf (taken_from n x ∷ stated_from (n + length x) xs) bodies → LaysRest xs →
      Laid p list context c ds spot (x ∷ xs) (taken_from n x ∷ stated_from (n + length x) xs)
      bodies
  lay_stated n spot x xs [] part is at told rest = absurd told
  lay_stated n spot x xs (made ∷ bodies) part is at told rest =
      let there = at-as refl (append_assoc x (flat xs) (h.Close ∷ [])) at in
      laid
      (piece spot x (flat xs ++ h.Close ∷ []) (taken_from n x) made part there
      (ap (λ k. taken_from k x) is) told.0.0 told.0.1)
      (rest (n + length x) (fold past spot x) bodies
      (let place = fold-place spot x in omega (arith, place, is))
      (at-behind x (flat xs ++ h.Close ∷ []) there) told.1)

  lay_part : (n : ℕ) (spot : Spot) (x : List Item) (xs : List (List Item))
      (bodies : List (List Item)) → (part : IsOwnPart x) → n ≡ spot.place →
      IsSpotAt (tree_of p c) spot (flat (x ∷ xs) ++ h.Close ∷ []) →
      AllZip IsToldOf (stated_from n (x ∷ xs)) bodies → LaysRest xs →
      (part.head ≡ h.EmptyStmt)
      ⊎ ((states_itself part.head ≡ true) × ((place : ℕ) → stated place
      (node 0 part.head part.inside)
      ≡ taken_from place (node 0 part.head part.inside) ∷ [])) →
      Laid p list context c ds spot (x ∷ xs) (stated_from n (x ∷ xs)) bodies
  lay_part n spot x xs bodies part is at told rest (inl same) =
      let empty : x ≡ empty_statement = part_empty part.fit part.head part.inside part.is same in
      subst
      (λ l. Laid p list context c ds spot (l ∷ xs) (stated_from n (l ∷ xs)) bodies)
      (sym empty)
      (lay_empty n spot xs bodies is
      (subst (λ l. IsSpotAt (tree_of p c) spot (flat (l ∷ xs) ++ h.Close ∷ [])) empty at)
      (subst (λ l. AllZip IsToldOf (stated_from n (l ∷ xs)) bodies) empty told) rest)
  lay_part n spot x xs bodies part is at told rest (inr (itself, so)) =
      let states : stated n x ≡ taken_from n x ∷ [] =
      ap (stated n) part.is ∙ (so n ∙ ap (λ l. taken_from n l ∷ []) (sym part.is)) in
      subst
      (λ l.
      Laid p list context c ds spot (x ∷ xs) (l ++ stated_from (n + length x) xs) bodies)
      (sym states)
      (lay_stated n spot x xs bodies part is at
      (subst (λ l. AllZip IsToldOf (l ++ stated_from (n + length x) xs) bodies) states told) rest)

  lay : (xs : List (List Item)) → AllByRecursion IsOwnPart xs → LaysRest xs
  lay [] parts_own n spot [] is at told = all_laid
  lay [] parts_own n spot (made ∷ bodies) is at told = absurd told
  lay (x ∷ xs) parts_own n spot bodies is at told =
      lay_part n spot x xs bodies parts_own.0 is at told (lay xs parts_own.1)
      (part_states parts_own.0.head parts_own.0.inside parts_own.0.own)

  told_each : (statements : List (List Element)) (bodies : List (List Item)) →
      AllZip (λ statement made. IsStatedAs p list context c Cjs statement made) statements bodies →
      ((statement : List Element) (made : List Item) → Contains statements statement →
      (its : IsStatedAs p list context c Cjs statement made) →
      IsStatementTold p list context c Cjs statement made its) →
      AllZip IsToldOf statements bodies
  told_each [] [] each told = tt
  told_each [] (made ∷ bodies) each told = absurd each
  told_each (statement ∷ statements) [] each told = absurd each
  told_each (statement ∷ statements) (made ∷ bodies) each told = (
    (each.0, told statement made (0, omega arith, refl) each.0),
    told_each statements bodies each.1
        (λ other its there. told other its (later there)),
  )
    where
      later : {other : List Element} → Contains statements other →
          Contains (statement ∷ statements) other
      later (i, l, e) = (suc i, omega (arith, l), e)

  pub all_pieces : (bodies : List (List Item)) →
      AllZip (λ statement made. IsStatedAs p list context c Cjs statement made)
      (own_statements (tree_of p c)) bodies →
      ((statement : List Element) (made : List Item) →
      Contains (own_statements (tree_of p c)) statement →
      (its : IsStatedAs p list context c Cjs statement made) →
      IsStatementTold p list context c Cjs statement made its) →
      Laid p list context c ds module_start (parts (tree_of p c)) (own_statements (tree_of p c))
      bodies
  all_pieces bodies each told =
      lay (parts (tree_of p c)) own.each 1 module_start bodies refl
      (record { front = h.Open 0 h.Module ∷ []; tree_is = own.is; spot_is = refl })
      (told_each (own_statements (tree_of p c)) bodies each told)
