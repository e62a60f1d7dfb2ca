-- No name that the top binds stands in a literal call of `require`.
-- Lists by numbers that are filled.
-- The names that a module links are found.
use Rattle.std.proofs.Common.{◌≡◌, inl, inr, ℕ, zero, suc, ◌+◌, ◌-◌, ◌<◌, Bool, true, false, not, List, [], ◌∷◌, Option, Some, None, drop, refl, sym, ap, ◌∙◌, subst, if◌then◌else◌, arith, ◌⊎◌, ◌≤◌, ◌++◌, length, ◌≢◌, ◌==◌, take, get_or, map, eq-eqb}
use Rattle.std.specs.Prelude.{Contains, filter, fold, slice_get, slice_set, bytes_eq}
use Rattle.std.proofs.lemmas.Bool.{false≢true, and_parts, cases_lt}
use Rattle.std.proofs.lemmas.List.Elements.{Contains-append_cases, Contains-push_cases, Contains-push, Contains-append_left}
use Rattle.std.proofs.lemmas.Option.{none-some, same_Some}
use Rattle.std.specs.Global.{Global}
use Rattle.std.specs.List.{AllZip, list_any}
use Rattle.std.specs.declared.vec.Vec.{Vec}
use Rattle.std.proofs.lemmas.List.{length-append, length-set, map-append}
use Rattle.std.specs.Borrow.{Bor}
use Rattle.std.proofs.lemmas.Slice.Eq.{bytes_eq-Decides}
use Rattle.indexmap.specs.IndexSet.{insert_key}
use Rattle.bundle_syntax.specs.declared.piece.Role.{Role}
use Rattle.bundle_syntax.specs.Item as in_item
use Rattle.bundle_syntax.specs.Item.{Item, Head}
use Rattle.bundle_order_graph.specs.Walks.{itself, along}
use Rattle.bundle_rules.specs.Places.{Around, Spot, in_field, outer_path, past, path_past, start, spot_before, path_to_option, path_at, occurrence_at}
use Rattle.bundle_rules.specs.Scopes.{Es, Top}
use Rattle.bundle_rules.specs.Declarations.{BySymbol, declared}
use Rattle.bundle_rules.specs.Denotes.{Bound, denoted_at, denoted_of}
use Rattle.bundle_rules.proofs.PlacesLemmas.{fold_past-take}
use Rattle.bundle_rules.specs.Nodes.{Text, has_text, string_of, is_end}
use Rattle.bundle_rules.specs.Entries.{after, is_call, is_require_name, is_plain_argument, ends, only_argument, required_at, RequireCall, call_at, require_calls_from, require_calls, Taken, Named, ExportEntry, Local, Indirect}
use Rattle.bundle_rules.specs.Bound.{is_free, is_global}
use Rattle.bundle_rules.specs.Program.{Program, tree_of, calls_of}
use Rattle.bundle_rules.specs.Meaning.{plain}
use Rattle.bundle_rules.specs.Statements.{default_name}
use Rattle.bundle_rules.specs.Linking
use Rattle.bundle_rules.specs.Linking.{exports, Gives, declaration, namespace_import, taken, given_on, starred, Linked, Origin}
use Rattle.bundle_rules.specs.Tables.{is_star}
use Rattle.bundle_link_tables.proofs.CallLemmas.{fold_past-place as spots-place}
use Rattle.bundle_link_tables.specs.TablesOf.{export_entry_of, entry_by_origin}
use Rattle.bundle_link_tables.specs.declared.table.Export.{Export}
use Rattle.bundle_link_tables.specs.declared.table.Origin.{Origin as From}
use Rattle.bundle_link_tables.proofs.MarkLemmas.{map_put}
use Rattle.bundle_link_tables.specs.declared.table.Origin.TheVariants
use Rattle.bundle_link_index.proofs.AskedLemmas.{none_there as none-there, only_one as only-one}
use Rattle.bundle_link_index.proofs.ProgramLemmas.{filter_back as filter-back, map_back as map-back, map_on as map-on, filter_on as filter-on, there_of_any}
use Rattle.bundle_link_index.specs.declared.target.LinkModule.{LinkModule}
use Rattle.bundle_link_index.specs.declared.target.TargetRef.{TargetRef}
use Rattle.bundle_link_index.specs.declared.kinds.Kinds.{Kinds}
use Rattle.bundle_link_index.specs.Linked.{StarReaches}
use Rattle.bundle_link_index.specs.Programs.{AreModulesKnown}
use Rattle.bundle_link_targets.specs.Meant.{Encloses, LinksTo}
use Rattle.bundle_link_targets.proofs.ListLemmas.{drop-first, take-none, node-begun, real, AreReal, map-some, ident-of}
use Rattle.bundle_link_targets.specs.Lists.{list_in}
use Rattle.bundle_link_targets.specs.Handed.{HoldsOfLists}
use Rattle.bundle_link_targets.specs.Names.{TargetPair, target_pair, IsLinkedTo, NotesTarget, LinksAmong, AreLinkedOf, HasNamesOf, GainsNames, IsNamedBy, IsNameOfModule, IsNameIn}
use Rattle.bundle_link_targets.specs.Found.{target_in}
use Rattle.bundle_link_targets.proofs.TakenLemmas.{map-more}
use Rattle.bundle_link_targets.proofs.AscendingLemmas.{Among, among-both, among-past}

-- ---- nodes that are closed
abbrev AllNot : ℕ → List Around → Type 0
AllNot c [] = Unit {0}
AllNot c (node ∷ outer) = (node.begins ≡ c → ⊥) × AllNot c outer

not-field : (c f : ℕ) (path : List Around) → AllNot c path → AllNot c (in_field f path)
not-field c f [] are = tt
not-field c f (node ∷ outer) are = are

not-outer : (c : ℕ) (path : List Around) → AllNot c path → AllNot c (outer_path path)
not-outer c [] are = tt
not-outer c (node ∷ outer) are = are.1

not-past : (c place : ℕ) (path : List Around) (item : Item) → c < place → AllNot c path → AllNot c (path_past place path item)
not-past c place path (in_item.Open field head) later are = ((λ is. omega (arith, is, later)), not-field c field path are)
not-past c place path (in_item.Ident field symbol ctxt role) later are = are
not-past c place path (in_item.Hole field) later are = are
not-past c place path in_item.Close later are = not-outer c path are

not-later : (tree : List Item) (c k n : ℕ) → c < k → AllNot c (spot_before tree k).path → (at : ℕ) → at ≡ k + n → AllNot c (spot_before tree at).path
not-later tree c k zero later are at is = let same : k ≡ at = omega (arith, is) in subst (λ q. AllNot c (spot_before tree q).path) same are
not-later tree c k (suc n) later are at is = let same : suc (k + n) ≡ at = omega (arith, is) in subst (λ q. AllNot c (spot_before tree q).path) same (by (slice_get tree (k + n)) refl (not-later tree c k n later are (k + n) refl))
  where
    by : (o : Option Item) → slice_get tree (k + n) ≡ o → AllNot c (spot_before tree (k + n)).path → AllNot c (spot_before tree (suc (k + n))).path
    by None e are = subst (λ l. AllNot c (fold past start l).path) (sym (take-none tree (k + n) e)) are
    by (Some item) e are =
        let place = spots-place start tree (k + n) item e in
        subst (λ (s : Spot). AllNot c s.path) (sym (fold_past-take start tree (k + n) item e)) (not-past c (spot_before tree (k + n)).place (spot_before tree (k + n)).path item (omega (arith, place, later)) are)

not-seen : (c : ℕ) (path : List Around) (o : Option Item) → AllNot c path → AllNot c (path_to_option path o)
not-seen c path None are = are
not-seen c path (Some (in_item.Open field head)) are = not-field c field path are
not-seen c path (Some (in_item.Ident field symbol ctxt role)) are = not-field c field path are
not-seen c path (Some (in_item.Hole field)) are = not-field c field path are
not-seen c path (Some in_item.Close) are = are

not-there : (c : ℕ) (path : List Around) (node : Around) → AllNot c path → Contains path node → node.begins ≡ c → ⊥
not-there c [] node are there is = none-there node there
not-there c (x ∷ outer) node are (zero, l, e) is = are.0 (ap (λ (n : Around). n.begins) e ∙ is)
not-there c (x ∷ outer) node are (suc i, l, e) is = not-there c outer node are.1 (i, omega arith, e) is

before-not : (tree : List Item) (c : ℕ) (path : List Around) → AreReal tree c path → AllNot c path
before-not tree c [] are = tt
before-not tree c (node ∷ outer) are = ((λ is. let l = are.0 in omega (arith, is, l)), before-not tree c outer are.2)

-- ---- the elements of a literal call
after-back : (test : Item → Bool) (items : List Item) (y : Item) (more : List Item) → after test items ≡ y ∷ more → (x : Item) × (test x ≡ true) × (items ≡ x ∷ y ∷ more)
after-back test [] y more e = cc
after-back test (x ∷ rest) y more e = by (test x) refl e
  where
    by : (b : Bool) → test x ≡ b → (if b then rest else []) ≡ y ∷ more → (z : Item) × (test z ≡ true) × (x ∷ rest ≡ z ∷ y ∷ more)
    by true is f = (x, is, ap (λ l. x ∷ l) f)
    by false is f = cc

opens-of : (x : Item) → is_call x ≡ true → (f : ℕ) × (head : Head) × (x ≡ in_item.Open f head)
opens-of (in_item.Open f head) e = (f, head, refl)
opens-of (in_item.Ident field symbol ctxt role) e = absurd (false≢true e)
opens-of (in_item.Hole field) e = absurd (false≢true e)
opens-of in_item.Close e = absurd (false≢true e)

argument-of : (x : Item) → is_plain_argument x ≡ true → (f : ℕ) × (head : Head) × (x ≡ in_item.Open f head)
argument-of (in_item.Open f head) e = (f, head, refl)
argument-of (in_item.Ident field symbol ctxt role) e = absurd (false≢true e)
argument-of (in_item.Hole field) e = absurd (false≢true e)
argument-of in_item.Close e = absurd (false≢true e)

string-opens : (x : Item) (rest : List Item) (text : Text) → string_of (x ∷ rest) ≡ Some text → (f : ℕ) × (head : Head) × (x ≡ in_item.Open f head)
string-opens (in_item.Open f head) rest text e = (f, head, refl)
string-opens (in_item.Ident field symbol ctxt role) rest text e = absurd (none-some text e)
string-opens (in_item.Hole field) rest text e = absurd (none-some text e)
string-opens in_item.Close rest text e = absurd (none-some text e)

close-of : (x : Item) → is_end x ≡ true → x ≡ in_item.Close
close-of (in_item.Open f head) e = absurd (false≢true e)
close-of (in_item.Ident field symbol ctxt role) e = absurd (false≢true e)
close-of (in_item.Hole field) e = absurd (false≢true e)
close-of in_item.Close e = refl

one-end : (n : ℕ) (items : List Item) → ends (suc n) items ≡ true → (rest : List Item) × (items ≡ in_item.Close ∷ rest) × (ends n rest ≡ true)
one-end n [] e = absurd (false≢true e)
one-end n (x ∷ rest) e = let r = and_parts (is_end x) (ends n rest) e in (rest, ap (λ y. y ∷ rest) (close-of x r.0), r.1)

argument-back : (items : List Item) (text : Text) → only_argument items ≡ Some text → (x : Item) × (rest : List Item) × (items ≡ x ∷ rest) × (ends 3 rest ≡ true) × (string_of (x ∷ rest) ≡ Some text)
argument-back [] text e = absurd (none-some text e)
argument-back (x ∷ rest) text e = by (ends 3 rest) refl e
  where
    by : (b : Bool) → ends 3 rest ≡ b → (if b then string_of (x ∷ rest) else None) ≡ Some text → (y : Item) × (more : List Item) × (x ∷ rest ≡ y ∷ more) × (ends 3 more ≡ true) × (string_of (y ∷ more) ≡ Some text)
    by true is f = (x, rest, refl, is, f)
    by false is f = absurd (none-some text f)

drop-next : (xs : List Item) (k : ℕ) (x : Item) (rest : List Item) → drop k xs ≡ x ∷ rest → drop (suc k) xs ≡ rest
drop-next [] zero x rest e = cc
drop-next [] (suc k) x rest e = cc
drop-next (y ∷ ys) zero x rest e = let same : ys ≡ rest = cc in same
drop-next (y ∷ ys) (suc k) x rest e = drop-next ys k x rest e

-- what stands behind the beginning of such a call: a name, two beginnings, and three ends
record IsCallAt (tree : List Item) (c : ℕ) : Type 0 where
  f0 : ℕ
  f2 : ℕ
  f3 : ℕ
  h0 : Head
  h2 : Head
  h3 : Head
  x1 : Item
  at0 : slice_get tree c ≡ Some (in_item.Open f0 h0)
  at1 : slice_get tree (suc c) ≡ Some x1
  name : is_require_name x1 ≡ true
  at2 : slice_get tree (suc (suc c)) ≡ Some (in_item.Open f2 h2)
  at3 : slice_get tree (suc (suc (suc c))) ≡ Some (in_item.Open f3 h3)
  at4 : slice_get tree (suc (suc (suc (suc c)))) ≡ Some in_item.Close
  at5 : slice_get tree (suc (suc (suc (suc (suc c))))) ≡ Some in_item.Close
  at6 : slice_get tree (suc (suc (suc (suc (suc (suc c)))))) ≡ Some in_item.Close

call-is : (tree : List Item) (c : ℕ) (text : Text) → required_at (drop c tree) ≡ Some text → IsCallAt tree c
call-is tree c text e =
    let items : List Item = drop c tree in
    let a = argument-back (after is_plain_argument (after is_require_name (after is_call items))) text e in
    let p = after-back is_plain_argument (after is_require_name (after is_call items)) a.0 a.1 a.2 in
    let n = after-back is_require_name (after is_call items) p.0 (a.0 ∷ a.1) p.2 in
    let k = after-back is_call items n.0 (p.0 ∷ a.0 ∷ a.1) n.2 in
    let o = opens-of k.0 k.1 in
    let q = argument-of p.0 p.1 in
    let s = string-opens a.0 a.1 text a.4 in
    let e4 = one-end 2 a.1 a.3 in
    let e5 = one-end 1 e4.0 e4.2 in
    let e6 = one-end 0 e5.0 e5.2 in
    let d1 = drop-next tree c k.0 (n.0 ∷ p.0 ∷ a.0 ∷ a.1) k.2 in
    let d2 = drop-next tree (suc c) n.0 (p.0 ∷ a.0 ∷ a.1) d1 in
    let d3 = drop-next tree (suc (suc c)) p.0 (a.0 ∷ a.1) d2 in
    let d4 = drop-next tree (suc (suc (suc c))) a.0 a.1 d3 ∙ e4.1 in
    let d5 = drop-next tree (suc (suc (suc (suc c)))) in_item.Close e4.0 d4 ∙ e5.1 in
    let d6 = drop-next tree (suc (suc (suc (suc (suc c))))) in_item.Close e5.0 d5 ∙ e6.1 in
    record {
      f0 = o.0;
      f2 = q.0;
      f3 = s.0;
      h0 = o.1;
      h2 = q.1;
      h3 = s.1;
      x1 = n.0;
      at0 = drop-first tree c k.0 (n.0 ∷ p.0 ∷ a.0 ∷ a.1) k.2 ∙ ap (λ x. Some x) o.2;
      at1 = drop-first tree (suc c) n.0 (p.0 ∷ a.0 ∷ a.1) d1;
      name = n.1;
      at2 = drop-first tree (suc (suc c)) p.0 (a.0 ∷ a.1) d2 ∙ ap (λ x. Some x) q.2;
      at3 = drop-first tree (suc (suc (suc c))) a.0 a.1 d3 ∙ ap (λ x. Some x) s.2;
      at4 = drop-first tree (suc (suc (suc (suc c)))) in_item.Close e4.0 d4;
      at5 = drop-first tree (suc (suc (suc (suc (suc c))))) in_item.Close e5.0 d5;
      at6 = drop-first tree (suc (suc (suc (suc (suc (suc c)))))) in_item.Close e6.0 d6;
    }

-- ---- behind the call it is closed
name-ident : (x : Item) → is_require_name x ≡ true → (path : List Around) (place : ℕ) → path_past place path x ≡ path
name-ident (in_item.Open f head) e path place = absurd (false≢true e)
name-ident (in_item.Ident field symbol ctxt role) e path place = refl
name-ident (in_item.Hole field) e path place = refl
name-ident in_item.Close e path place = absurd (false≢true e)

next-path : (tree : List Item) (k : ℕ) (item : Item) → slice_get tree k ≡ Some item → (spot_before tree (suc k)).path ≡ path_past (spot_before tree k).place (spot_before tree k).path item
next-path tree k item e = ap (λ (s : Spot). s.path) (fold_past-take start tree k item e)

closed-behind : (tree : List Item) (c : ℕ) (its : IsCallAt tree c) → (spot_before tree (suc (suc (suc (suc (suc (suc (suc c)))))))).path ≡ in_field its.f0 (spot_before tree c).path
closed-behind tree c its =
    next-path tree (suc (suc (suc (suc (suc (suc c)))))) in_item.Close its.at6
    ∙ ap outer_path (next-path tree (suc (suc (suc (suc (suc c))))) in_item.Close its.at5)
    ∙ ap (λ l. outer_path (outer_path l)) (next-path tree (suc (suc (suc (suc c)))) in_item.Close its.at4)
    ∙ ap (λ l. outer_path (outer_path (outer_path l))) (next-path tree (suc (suc (suc c))) (in_item.Open its.f3 its.h3) its.at3)
    ∙ ap (λ l. outer_path (outer_path (in_field its.f3 l))) (next-path tree (suc (suc c)) (in_item.Open its.f2 its.h2) its.at2)
    ∙ ap (λ l. outer_path (in_field its.f2 l)) (next-path tree (suc c) its.x1 its.at1 ∙ name-ident its.x1 its.name (spot_before tree (suc c)).path (spot_before tree (suc c)).place)
    ∙ ap (λ l. outer_path (in_field its.f2 l)) (next-path tree c (in_item.Open its.f0 its.h0) its.at0)

-- ---- the calls of a module
call-from : (free : ℕ → Bool) (tree items : List Item) (place : ℕ) (call : RequireCall) → drop place tree ≡ items → Contains (require_calls_from free place items) call → (text : Text) × (required_at (drop call.place tree) ≡ Some text) × (free (suc call.place) ≡ true)
call-from free tree [] place call at there = none-there call there
call-from free tree (x ∷ rest) place call at there = elim (Contains-append_cases (call_at free place (required_at (x ∷ rest))) (require_calls_from free (suc place) rest) call there) [
  | inl here ↦ by (required_at (x ∷ rest)) refl here
  | inr more ↦ call-from free tree rest (suc place) call (drop-next tree place x rest at) more
]
  where
    made : (text : Text) → required_at (x ∷ rest) ≡ Some text → (b : Bool) → free (suc place) ≡ b → Contains (if b then record { place = place; specifier = text } ∷ [] else []) call → (word : Text) × (required_at (drop call.place tree) ≡ Some word) × (free (suc call.place) ≡ true)
    made text is true f here =
        let one : RequireCall = record { place = place; specifier = text } in
        let same : place ≡ call.place = ap (λ (k : RequireCall). k.place) (only-one one call here) in
        (text, ap (λ k. required_at (drop k tree)) (sym same) ∙ ap required_at at ∙ is, ap (λ k. free (suc k)) (sym same) ∙ f)
    made text is false f here = none-there call here

    by : (o : Option Text) → required_at (x ∷ rest) ≡ o → Contains (call_at free place o) call → (word : Text) × (required_at (drop call.place tree) ≡ Some word) × (free (suc call.place) ≡ true)
    by None is here = none-there call here
    by (Some text) is here = made text is (free (suc place)) refl here

no-ident-open : (o : Option Item) (field ctxt f : ℕ) (symbol : Text) (role : Role) (head : Head) → o ≡ Some (in_item.Ident field symbol ctxt role) → o ≡ Some (in_item.Open f head) → ⊥
no-ident-open o field ctxt f symbol role head a b = let e : Some (in_item.Ident field symbol ctxt role) ≡ Some (in_item.Open f head) = sym a ∙ b in cc

no-ident-close : (o : Option Item) (field ctxt : ℕ) (symbol : Text) (role : Role) → o ≡ Some (in_item.Ident field symbol ctxt role) → o ≡ Some in_item.Close → ⊥
no-ident-close o field ctxt symbol role a b = let e : Some (in_item.Ident field symbol ctxt role) ≡ Some in_item.Close = sym a ∙ b in cc

module _ (p : Program) (m : ℕ) where
  abbrev tree : List Item
  tree = tree_of p m

  linked-from : (b : Bool) (calls : List RequireCall) (call : RequireCall) → Contains (if b then filter (λ k. not (has_text k.specifier p.settings.external)) calls else []) call → Contains calls call
  linked-from true calls call there = (filter-back (λ (k : RequireCall). not (has_text k.specifier p.settings.external)) calls call there).0
  linked-from false calls call there = none-there call there

  -- no name that the top binds stands in a literal call
  pub free-calls : (place : ℕ) (x : Text) (call : RequireCall) → denoted_at BySymbol Es tree place ≡ Some (Bound Top (plain x)) → Contains (calls_of p m) call → Encloses tree call.place place → ⊥
  free-calls place x call denotes there inside =
      let c : ℕ = call.place in
      let r = call-from (is_free tree) tree tree 0 call refl (linked-from p.settings.require (require_calls (is_free tree) tree) call there) in
      let its = call-is tree c r.0 r.1 in
      let o = map-some (denoted_of BySymbol Es (declared BySymbol Es tree)) (occurrence_at tree place) (Bound Top (plain x)) denotes in
      let ident = ident-of (spot_before tree place) (slice_get tree place) o.0 o.1 in
      let begun = (node-begun tree place inside.node inside.around).0 in
      let after : c < place = let h = inside.here in omega (arith, begun, h) in
      by its r.2 ident.0 ident.2 ident.1 ident.3 ident.4 (place - suc c) (omega (arith, after))
    where
      by : (its : IsCallAt tree call.place) → is_free tree (suc call.place) ≡ true → (field ctxt : ℕ) (symbol : Text) (role : Role) → slice_get tree place ≡ Some (in_item.Ident field symbol ctxt role) → (n : ℕ) → place ≡ suc (call.place + n) → ⊥
      by its free field ctxt symbol role is zero at = let q : place ≡ suc call.place = omega (arith, at) in false≢true (sym (ap is_global denotes) ∙ ap (is_free tree) q ∙ free)
      by its free field ctxt symbol role is (suc zero) at = let q : place ≡ suc (suc call.place) = omega (arith, at) in no-ident-open (slice_get tree place) field ctxt its.f2 symbol role its.h2 is (ap (slice_get tree) q ∙ its.at2)
      by its free field ctxt symbol role is (suc (suc zero)) at = let q : place ≡ suc (suc (suc call.place)) = omega (arith, at) in no-ident-open (slice_get tree place) field ctxt its.f3 symbol role its.h3 is (ap (slice_get tree) q ∙ its.at3)
      by its free field ctxt symbol role is (suc (suc (suc zero))) at = let q : place ≡ suc (suc (suc (suc call.place))) = omega (arith, at) in no-ident-close (slice_get tree place) field ctxt symbol role is (ap (slice_get tree) q ∙ its.at4)
      by its free field ctxt symbol role is (suc (suc (suc (suc zero)))) at = let q : place ≡ suc (suc (suc (suc (suc call.place)))) = omega (arith, at) in no-ident-close (slice_get tree place) field ctxt symbol role is (ap (slice_get tree) q ∙ its.at5)
      by its free field ctxt symbol role is (suc (suc (suc (suc (suc zero))))) at = let q : place ≡ suc (suc (suc (suc (suc (suc call.place))))) = omega (arith, at) in no-ident-close (slice_get tree place) field ctxt symbol role is (ap (slice_get tree) q ∙ its.at6)
      by its free field ctxt symbol role is (suc (suc (suc (suc (suc (suc n)))))) at =
          let c : ℕ = call.place in
          let k : ℕ = suc (suc (suc (suc (suc (suc (suc c)))))) in
          let none : AllNot c (spot_before tree k).path = subst (AllNot c) (sym (closed-behind tree c its)) (not-field c its.f0 (spot_before tree c).path (before-not tree c (spot_before tree c).path (real tree c))) in
          let later = not-later tree c k n (omega arith) none place (omega (arith, at)) in
          not-there c (path_at tree place) inside.node (not-seen c (spot_before tree place).path (slice_get tree place) later) inside.around inside.here

-- ---- what a place of lists has
pub list-past : {T : Type 0} (lists : List (Vec T Global)) (n : ℕ) → length lists ≤ n → list_in lists n ≡ []
list-past [] n h = refl
list-past (x ∷ xs) zero h = absurd (omega (arith, h))
list-past (x ∷ xs) (suc n) h = list-past xs n (omega (arith, h))

pub list-set : {T : Type 0} (lists : List (Vec T Global)) (place : ℕ) (list : Vec T Global) → place < length lists → list_in (slice_set lists place list) place ≡ list.items
list-set [] place list h = absurd (omega (arith, h))
list-set (x ∷ xs) zero list h = refl
list-set (x ∷ xs) (suc n) list h = list-set xs n list (omega (arith, h))

pub list-other : {T : Type 0} (lists : List (Vec T Global)) (place : ℕ) (list : Vec T Global) (n : ℕ) → (n ≡ place → ⊥) → list_in (slice_set lists place list) n ≡ list_in lists n
list-other [] place list n other = refl
list-other (x ∷ xs) zero list zero other = absurd (other refl)
list-other (x ∷ xs) zero list (suc n) other = refl
list-other (x ∷ xs) (suc m) list zero other = refl
list-other (x ∷ xs) (suc m) list (suc n) other = list-other xs m list n (λ e. other (ap (λ k. suc k) e))

pub same-place : (n m : ℕ) → (n ≡ m) ⊎ (n ≡ m → ⊥)
same-place n m = elim (cases_lt n m) [
  | inl l ↦ inr (λ e. absurd (omega (arith, l, e)))
  | inr ge ↦ elim (cases_lt m n) [
    | inl l ↦ inr (λ e. absurd (omega (arith, l, e)))
    | inr le ↦ inl (omega (arith, ge, le))
  ]
]

-- ---- filling
module _ {T : Type 0} (Holds : ℕ → List T → Type 0) where
  pub fills-put : (place : ℕ) (old new : List (Vec T Global)) (list : Vec T Global) → new ≡ slice_set old place list → (place < length old → Holds place list.items) → (length old ≤ place → Holds place []) → HoldsOfLists Holds (λ n. n ≡ place) old new
  fills-put place old new list is here past = subst (HoldsOfLists Holds (λ (n : ℕ). n ≡ place) old) (sym is) (record {
    kept = λ n holds. elim (same-place n place) [
      | inl same ↦ subst (λ k. Holds k (list_in (slice_set old place list) k)) (sym same) at
      | inr other ↦ subst (Holds n) (sym (list-other old place list n other)) holds
    ];
    there = λ n same. subst (λ k. Holds k (list_in (slice_set old place list) k)) (sym same) at;
    long = length-set old place list;
  })
    where
      at : Holds place (list_in (slice_set old place list) place)
      at = elim (cases_lt place (length old)) [
        | inl l ↦ subst (Holds place) (sym (list-set old place list l)) (here l)
        | inr ge ↦ subst (Holds place) (sym (list-past (slice_set old place list) place (omega (arith, ge, length-set old place list)))) (past ge)
      ]

  pub fills-past : (place : ℕ) (old new : List (Vec T Global)) → new ≡ old → length old ≤ place → Holds place [] → HoldsOfLists Holds (λ n. n ≡ place) old new
  fills-past place old new same past holds = subst (HoldsOfLists Holds (λ (n : ℕ). n ≡ place) old) (sym same) (record {
    kept = λ n its. its;
    there = λ n is. subst (λ k. Holds k (list_in old k)) (sym is) (subst (Holds place) (sym (list-past old place past)) holds);
    long = refl;
  })

  pub fills-none : (Those : ℕ → Type 0) (old new : List (Vec T Global)) → new ≡ old → ((n : ℕ) → Those n → ⊥) → HoldsOfLists Holds Those old new
  fills-none Those old new same none = subst (HoldsOfLists Holds Those old) (sym same) (record { kept = λ n its. its; there = λ n its. absurd (none n its); long = refl })

  pub fills-then : (Those More All : ℕ → Type 0) (old met new : List (Vec T Global)) → HoldsOfLists Holds Those old met → HoldsOfLists Holds More met new → ((n : ℕ) → All n → Those n ⊎ More n) → HoldsOfLists Holds All old new
  fills-then Those More All old met new first second splits = record {
    kept = λ n holds. second.kept n (first.kept n holds);
    there = λ n its. elim (splits n its) [ inl those ↦ second.kept n (first.there n those) | inr more ↦ second.there n more ];
    long = second.long ∙ first.long;
  }

  pub fills-same : (Those Others : ℕ → Type 0) (old new : List (Vec T Global)) → ((n : ℕ) → Others n → Those n) → HoldsOfLists Holds Those old new → HoldsOfLists Holds Others old new
  fills-same Those Others old new from fills = record { kept = fills.kept; there = λ n its. fills.there n (from n its); long = fills.long }

-- one more of a list of numbers
pub one-more : (list all : List ℕ) (m : ℕ) → all ≡ list ++ m ∷ [] → (n : ℕ) → Contains all n → Contains list n ⊎ (n ≡ m)
one-more list all m is n there = elim (Contains-push_cases list m n (subst (λ l. Contains l n) is there)) [ inl before ↦ inl before | inr same ↦ inr (sym same) ]

-- ---- lists side by side
pub zip-push : {A B : Type 0} (R : A → B → Type 0) (xs : List A) (ys : List B) (x : A) (y : B) → AllZip R xs ys → R x y → AllZip R (xs ++ x ∷ []) (ys ++ y ∷ [])
zip-push R [] [] x y all r = (r, tt)
zip-push R [] (b ∷ ys) x y all r = absurd all
zip-push R (a ∷ xs) [] x y all r = absurd all
zip-push R (a ∷ xs) (b ∷ ys) x y all r = (all.0, zip-push R xs ys x y all.1 r)

pub zip-at : {A B : Type 0} (R : A → B → Type 0) (xs : List A) (ys : List B) → AllZip R xs ys → (i : ℕ) (x : A) → slice_get xs i ≡ Some x → (y : B) × (slice_get ys i ≡ Some y) × R x y
zip-at R [] [] all i x e = absurd (none-some x e)
zip-at R [] (b ∷ ys) all i x e = absurd all
zip-at R (a ∷ xs) [] all i x e = absurd all
zip-at R (a ∷ xs) (b ∷ ys) all zero x e = (b, refl, subst (λ z. R z b) (same_Some a x e) all.0)
zip-at R (a ∷ xs) (b ∷ ys) all (suc i) x e = zip-at R xs ys all.1 i x e

-- ---- empty lists
pub none-push : {T : Type 0} (lists : List (Vec T Global)) (list : Vec T Global) → list.items ≡ [] → ((n : ℕ) → list_in lists n ≡ []) → (n : ℕ) → list_in (lists ++ list ∷ []) n ≡ []
none-push [] list is none zero = is
none-push [] list is none (suc n) = refl
none-push (x ∷ xs) list is none zero = none zero
none-push (x ∷ xs) list is none (suc n) = none-push xs list is (λ k. none (suc k)) n

pub long-push : {A : Type 0} (xs : List A) (x : A) (n : ℕ) → length xs ≡ n → length (xs ++ x ∷ []) ≡ n + 1
long-push xs x n e = length-append xs (x ∷ []) ∙ ap (λ k. k + 1) e

pub list-none : {T : Type 0} (lists : List (Vec T Global)) (n : ℕ) → lists ≡ [] → list_in lists n ≡ []
list-none lists n e = ap (λ l. list_in l n) e

pub slice_get-past : {A : Type 0} (xs : List A) (i : ℕ) → slice_get xs i ≡ None → length xs ≤ i
slice_get-past [] i e = omega arith
slice_get-past (x ∷ xs) zero e = absurd (none-some x (sym e))
slice_get-past (x ∷ xs) (suc i) e = let r = slice_get-past xs i e in omega (arith, r)

-- ---- names that are put
pub gains-put : (keys new : List (Bor Text)) (k : Bor Text) → new ≡ insert_key (λ x y. bytes_eq x.now y.now) keys k → GainsNames (map (λ key. key.now) keys) (λ x. x ≡ k.now) (map (λ key. key.now) new)
gains-put keys new k e = subst (λ ks. GainsNames (map (λ (key : Bor Text). key.now) keys) (λ x. x ≡ k.now) (map (λ (key : Bor Text). key.now) ks)) (sym e) (by (list_any (λ other. bytes_eq k.now other.now) keys) refl)
  where
    texts : List Text
    texts = map (λ (key : Bor Text). key.now) keys

    by : (b : Bool) → list_any (λ other. bytes_eq k.now other.now) keys ≡ b → GainsNames texts (λ x. x ≡ k.now) (map (λ (key : Bor Text). key.now) (if b then keys else keys ++ k ∷ []))
    by true is = record {
      kept = λ x there. there;
      there = λ x same.
          let r = there_of_any (λ (other : Bor Text). bytes_eq k.now other.now) keys is in
          let one : k.now ≡ r.0.now = (bytes_eq-Decides k.now r.0.now).0 r.2 in
          subst (Contains texts) (sym one ∙ sym same) (map-on (λ (key : Bor Text). key.now) keys r.0 r.1);
    }
    by false is = subst (GainsNames texts (λ x. x ≡ k.now)) (sym (map_put false k keys)) (record {
      kept = λ x there. Contains-append_left texts (k.now ∷ []) x there;
      there = λ x same. subst (Contains (texts ++ k.now ∷ [])) (sym same) (Contains-push texts k.now);
    })

abbrev name-of : Export → Text
name-of export = export.name.now

pub gains-name : (old new : List Text) (export : Export) (own : Bool) → GainsNames old (λ x. x ≡ export.name.now) new → GainsNames old (IsNamedBy (export ∷ []) own) new
gains-name old new export own gains = record { kept = gains.kept; there = λ x named. gains.there x (sym (only-one export.name.now x named.0)) }

pub gains-step : (all : List Export) (i : ℕ) (d : Export) (own : Bool) (old met new : List Text) → i < length all → GainsNames old (IsNamedBy (take i all) own) met → GainsNames met (IsNamedBy (get_or all i d ∷ []) own) new → GainsNames old (IsNamedBy (take (i + 1) all) own) new
gains-step all i d own old met new h first second = record {
  kept = λ x there. second.kept x (first.kept x there);
  there = λ x named. elim (Contains-push_cases (map name-of (take i all)) (name-of (get_or all i d)) x (subst (λ ls. Contains ls x) (map-more name-of all i d h) named.0)) [
    | inl before ↦ second.kept x (first.there x (before, named.1))
    | inr is ↦ second.there x (subst (Contains (name-of (get_or all i d) ∷ [])) is (Contains-push [] (name-of (get_or all i d))), named.1)
  ];
}

-- ---- names that are linked
pub among-none : (p : Program) (m : ℕ) → LinksAmong p m [] []
among-none p m = record { there = λ x t there. none-there x there; right = λ x t there. none-there (x, t) there }

pub among-step : (p : Program) (m : ℕ) (names : List (Bor Text)) (i : ℕ) (d : Bor Text) (pairs more : List TargetPair) (found : Option Linking.Target) → i < length names → IsLinkedTo p m (get_or names i d).now found → NotesTarget pairs (get_or names i d).now found more → LinksAmong p m (map (λ name. name.now) (take i names)) pairs → LinksAmong p m (map (λ name. name.now) (take (i + 1) names)) more
among-step p m names i d pairs more found h linked notes w = subst (λ ls. LinksAmong p m ls more) (sym (map-more (λ (name : Bor Text). name.now) names i d h)) (by found linked notes)
  where
    x : Text
    x = (get_or names i d).now

    before : List Text
    before = map (λ (name : Bor Text). name.now) (take i names)

    by : (found : Option Linking.Target) → IsLinkedTo p m (get_or names i d).now found → NotesTarget pairs (get_or names i d).now found more → LinksAmong p m (map (λ (name : Bor Text). name.now) (take i names) ++ (get_or names i d).now ∷ []) more
    by None missing same = record {
      there = λ y t there is. elim (Contains-push_cases (map (λ (name : Bor Text). name.now) (take i names)) (get_or names i d).now y there) [
        | inl o ↦ subst (λ ls. Contains ls (y, t)) (sym same) (w.there y t o is)
        | inr e ↦ absurd (missing t (subst (λ z. Linked p m z t) (sym e) is))
      ];
      right = λ y t there. w.right y t (subst (λ ls. Contains ls (y, t)) same there);
    }
    by (Some u) is_linked same = record {
      there = λ y t there is. subst (λ ls. Contains ls (y, t)) (sym same) (elim (Contains-push_cases (map (λ (name : Bor Text). name.now) (take i names)) (get_or names i d).now y there) [
        | inl o ↦ Contains-append_left pairs ((((get_or names i d).now, u)) ∷ []) (y, t) (w.there y t o is)
        | inr e ↦
            let target : u ≡ t = (is.only u is_linked.origin (subst (λ z. Gives p m z u is_linked.origin) e is_linked.given)).0 in
            subst (Contains (pairs ++ ((get_or names i d).now, u) ∷ [])) (pair-is e target) (Contains-push pairs ((get_or names i d).now, u))
      ]);
      right = λ y t there. elim (Contains-push_cases pairs ((get_or names i d).now, u) (y, t) (subst (λ ls. Contains ls (y, t)) same there)) [
        | inl o ↦ w.right y t o
        | inr e ↦ subst (λ (pair : TargetPair). Linked p m pair.0 pair.1) e is_linked
      ];
    }
      where
        pair-is : {a b : Text} {s t : Linking.Target} → a ≡ b → s ≡ t → ◌≡◌ {A = TargetPair} (a, s) (b, t)
        pair-is {a = a} {b = b} {s = s} {t = t} e f = ap (λ (z : Text). let pair : TargetPair = (z, s) in pair) e ∙ ap (λ (z : Linking.Target). let pair : TargetPair = (b, z) in pair) f

-- their names stand in the order of these
pub among-order : (names : List (Bor Text)) (i : ℕ) (d : Bor Text) (pairs more : List TargetPair) (found : Option Linking.Target) → i < length names → NotesTarget pairs (get_or names i d).now found more → Among (map (λ pair. pair.0) pairs) (map (λ name. name.now) (take i names)) → Among (map (λ pair. pair.0) more) (map (λ name. name.now) (take (i + 1) names))
among-order names i d pairs more found h notes before = subst (Among (map (λ (pair : TargetPair). pair.0) more)) (sym (map-more (λ (name : Bor Text). name.now) names i d h)) (by found notes)
  where
    by : (found : Option Linking.Target) → NotesTarget pairs (get_or names i d).now found more → Among (map (λ (pair : TargetPair). pair.0) more) (map (λ (name : Bor Text). name.now) (take i names) ++ (get_or names i d).now ∷ [])
    by None same = subst (λ (l : List TargetPair). Among (map (λ (pair : TargetPair). pair.0) l) (map (λ (name : Bor Text). name.now) (take i names) ++ (get_or names i d).now ∷ [])) (sym same) (among-past (get_or names i d).now before)
    by (Some t) same = subst (λ (l : List TargetPair). Among (map (λ (pair : TargetPair). pair.0) l) (map (λ (name : Bor Text). name.now) (take i names) ++ (get_or names i d).now ∷ [])) (sym same)
        (subst (λ l. Among l (map (λ (name : Bor Text). name.now) (take i names) ++ (get_or names i d).now ∷ [])) (sym (map-append (λ (pair : TargetPair). pair.0) pairs (((get_or names i d).now, t) ∷ []))) (among-both (get_or names i d).now before))

pub are-linked : (p : Program) (m : ℕ) (names : List Text) (pairs : List TargetPair) → HasNamesOf p m names → LinksAmong p m names pairs → AreLinkedOf p m pairs
are-linked p m names pairs has among x t = (among.right x t, λ linked. among.there x t (has x t linked) linked)

module _ (p : Program) (m : ℕ) (linked : List (Bor Text × TargetRef)) (are : AreLinkedOf p m (map target_pair linked)) where
  pub target-links : (t : Linking.Target) → Contains (map target_in linked) t → LinksTo p m t
  target-links t there =
      let r = map-back target_in linked t there in
      record { name = r.0.0.now; linked = subst (Linked p m r.0.0.now) r.2 ((are r.0.0.now (target_in r.0)).0 (map-on target_pair linked r.0 r.1)) }

  pub links-target : (t : Linking.Target) → LinksTo p m t → Contains (map target_in linked) t
  links-target t links =
      let r = map-back target_pair linked (links.name, t) ((are links.name t).1 links.linked) in
      subst (Contains (map target_in linked)) (ap (λ (pair : TargetPair). pair.1) r.2) (map-on target_in linked r.0 r.1)

-- ---- all names are met
-- an entry of a name stands in a module that stars reach
pub record EntryIn (p : Program) (m : ℕ) (x : Text) : Type 0 where
  pub d : ℕ
  pub reached : StarReaches p m d
  pub entry : ExportEntry
  pub stands : Contains (exports p d) entry
  pub kind : is_star entry ≡ false
  pub named : (export : Export) → export_entry_of export ≡ entry → export.name.now ≡ x
  pub mine : (d ≡ m) ⊎ (x ≢ default_name)

by-local : (x y : Text) (export : Export) → export_entry_of export ≡ Local x y → export.name.now ≡ x
by-local x y export e = by export.origin e
  where
    by : (origin : From) → entry_by_origin export.name.now origin ≡ Local x y → export.name.now ≡ x
    by (TheVariants.Local of) f = let same : export.name.now ≡ x = cc in same
    by (TheVariants.Indirect specifier what) f = cc

by-indirect : (x s : Text) (what : Taken) (export : Export) → export_entry_of export ≡ Indirect x s what → export.name.now ≡ x
by-indirect x s what export e = by export.origin e
  where
    by : (origin : From) → entry_by_origin export.name.now origin ≡ Indirect x s what → export.name.now ≡ x
    by (TheVariants.Local of) f = cc
    by (TheVariants.Indirect specifier its) f = let same : export.name.now ≡ x = cc in same

pub entry-in : {p : Program} {m : ℕ} {x : Text} {t : Linking.Target} {origin : Option Origin} → Gives p m x t origin → EntryIn p m x
entry-in {m = m} {x = x} (declaration {y = y} stands none) = record { d = m; reached = itself; entry = Local x y; stands = stands; kind = refl; named = by-local x y; mine = inl refl }
entry-in {m = m} {x = x} (namespace_import {y = y} entry stands bound takes) = record { d = m; reached = itself; entry = Local x y; stands = stands; kind = refl; named = by-local x y; mine = inl refl }
entry-in {m = m} {x = x} (taken {s = s} {what = what} stands takes) = record { d = m; reached = itself; entry = Indirect x s what; stands = stands; kind = refl; named = by-indirect x s what; mine = inl refl }
entry-in {m = m} {x = x} (given_on {s = s} {y = y} stands leads more) = record { d = m; reached = itself; entry = Indirect x s (Named y); stands = stands; kind = refl; named = by-indirect x s (Named y); mine = inl refl }
entry-in {m = m} {x = x} (starred {d = d} {s = s} none other star leads more) =
    let r = entry-in more in
    record { d = r.d; reached = along (record { specifier = s; stands = star; leads = leads }) r.reached; entry = r.entry; stands = r.stands; kind = r.kind; named = r.named; mine = inr other }

pub name-in : (p : Program) (kinds : Kinds) → AreModulesKnown p kinds → (m : ℕ) (x : Text) (its : EntryIn p m x) → IsNameIn kinds its.d (its.d == m) x
name-in p kinds are m x its = by (slice_get kinds.modules.now its.d) refl
  where
    own : (its.d ≡ m) ⊎ (x ≢ default_name) → ((its.d == m) ≡ true) ⊎ (x ≢ default_name)
    own (inl same) = inl (eq-eqb its.d m same)
    own (inr other) = inr other

    by : (o : Option LinkModule) → slice_get kinds.modules.now its.d ≡ o → IsNameOfModule o (its.d == m) x
    by None none = none-there its.entry (subst (λ ls. Contains ls its.entry) (are.others its.d none) its.stands)
    by (Some module_its) at =
        let table = are.tables its.d module_its at in
        let kept = filter-on (λ (e : ExportEntry). not (is_star e)) (exports p its.d) its.entry its.stands (ap not its.kind) in
        let r = map-back export_entry_of module_its.tables.now.exports.items its.entry (subst (λ ls. Contains ls its.entry) (sym table.named) kept) in
        (subst (Contains (map (λ (export : Export). export.name.now) module_its.tables.now.exports.items)) (its.named r.0 r.2) (map-on (λ (export : Export). export.name.now) module_its.tables.now.exports.items r.0 r.1), own its.mine)
