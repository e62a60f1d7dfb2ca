-- How what is kept grows, step by step.
-- What was just kept is found.
-- The parts of the judging, one after the other.
-- What is asked of the loader and of the resolver, and which numbers files get, in the order of judging.
-- The requests of a file, each of which leads to a place on the list.
use Rattle.std.proofs.Common.{◌≡◌, ℕ, suc, ◌+◌, ◌<◌, ◌≤◌, Bool, true, false, cond, not, eqb, nat_lt, List, [], ◌∷◌, ◌++◌, length, get_or, map, slice_get, position, Contains, Option, Some, None, Result, Ok, Err, IsOk, OnOk, OnErr, refl, sym, ap, subst, ◌∙◌, inl, inr, arith, true≢false, lt-ltb, append-nil, append_assoc, length-append, ◌&&◌, Bor}
use Rattle.std.specs.Prelude.{IfOk, IfErr, IfSome}
use Rattle.std.specs.List.{position_or_len}
use Rattle.std.specs.Map.{lookup}
use Rattle.std.specs.Option.{IsSome, is_some, option_map}
use Rattle.std.proofs.lemmas.Bool.{cases_lt}
use Rattle.std.proofs.lemmas.Grind.{common_steps}
use Rattle.std.proofs.lemmas.List.{length_push}
use Rattle.std.proofs.lemmas.List.Elements.{Contains-get_or, Contains-append_left, Contains-append_right, Contains-push}
use Rattle.std.proofs.lemmas.List.Folds.{prefix_len-append}
use Rattle.std.proofs.lemmas.List.Quantifiers.{position-Some}
use Rattle.std.proofs.lemmas.List.Sums.{position_or_len_is}
use Rattle.std.proofs.lemmas.Slice.Eq.{bytes_eq-Decides}
use Rattle.std.specs.Result.{IsErrAnd}
use Rattle.std.specs.Str.{bytes_eq}
use Rattle.std.specs.String.{string_bytes}
use Rattle.std.proofs.lemmas.Option.{same_Some}
use Rattle.bundle_tree_names.specs.FileName.{Name, name_of, name_eq}
use Rattle.bundle_tree_names.specs.FileNameLaws.{name_eq-Decides, name_eq_equiv}
use Rattle.bundle_tree_names.specs.declared.error.Error.{Error}
use Rattle.bundle_tree_names.specs.declared.file_name.FileName.{FileName}
use Rattle.bundle_tree_names.proofs.Names.{place-Contains, slice_get-grown, Contains-slice_get}
use Rattle.bundle_tree_names.specs.ModuleIdGenerator.{IsRefusal}
use Rattle.bundle_tree_names.specs.declared.error.Error.TheVariants
use Rattle.bundle_order_graph.proofs.NodeLemmas.{on_err as holds_refused}
use Rattle.bundle_rules.specs.Program.{Loaded}
use Rattle.bundle_rules.specs.Kept.{Asked, Answers, Kept, Stays, asked_eq, kept_file, kept_module, number_in}
use Rattle.bundle_rules.specs.Entries.{Settings}
use Rattle.bundle_rules.specs.Faults.{NumbersUsedUp, last_number, Fault, Parties, fault_of, LoadFails, ResolveFails, TooManyModules, ContextsUsedUp}
use Rattle.bundle_rules.specs.Judging as j
use Rattle.bundle_rules.specs.Judging.{Grows, Outcome, GoesOn, Refused, Stopped, Loads, Resolves, Asks, LoadsAll, Numbers}
use Rattle.bundle_rules.specs.Nodes.{Text}
use Rattle.bundle_tree_ast.specs.declared.expr.Expr.{Expr}
use Rattle.bundle_tree_ast.specs.declared.prop.KeyValueProp.{KeyValueProp}
use Rattle.bundle_tree.specs.declared.load.LoadError.{LoadError}
use Rattle.bundle_tree.specs.declared.load.ModuleData.{ModuleData}
use Rattle.bundle_tree.specs.declared.resolve.ResolveError.{ResolveError}
use Rattle.bundler_call.specs.declared.kept.Request.{Request}
use Rattle.bundler_call.specs.KeptFiles.{asked_of}
use Rattle.bundler_call.proofs.Holding.{kept_or_added, absent_nowhere}
use Rattle.bundle_tree.specs.declared.load.LoadError.TheVariants.{Failed as LoadFailed, OutOfMemory as LoadNoMemory}
use Rattle.bundle_tree.specs.declared.resolve.ResolveError.TheVariants.{Failed as ResolveFailed, OutOfMemory as ResolveNoMemory}
use Rattle.bundler_call.specs.Kept.{answers_of, handed_in, kept_as, Advances, IsBounded, IsKept, IsFileMet, IsRequested, MayBeMet, Remains, parties_of, AreRequested}
use Rattle.bundler_call.specs.Loading.{IsFileSound, AreMet, GoesLast}
use Rattle.bundler_call.specs.Refusal.{load_refusal, resolve_refusal}
use Rattle.bundler_call.specs.Judged.{EndsJudging, LeadsOn, Tells, refused_by}

-- ---- growing

-- what is kept, with other names, trees or files by pair
abbrev pub with_trees : Kept → List (Name × Loaded) → Kept
with_trees c trees = record { names = c.names; trees = trees; resolved = c.resolved }

abbrev pub with_resolved : Kept → List (Asked × Name) → Kept
with_resolved c resolved = record { names = c.names; trees = c.trees; resolved = resolved }

abbrev pub with_names : Kept → List Name → Kept
with_names c names = record { names = names; trees = c.trees; resolved = c.resolved }

-- trees, as they are kept
abbrev pub read_trees : List (Name × ModuleData) → List (Name × Loaded)
read_trees trees = map (λ (e : Name × ModuleData). (e.0, kept_as e.1)) trees

-- the same where all parts are
pub kept_same : (c d : Kept) → d.names ≡ c.names → d.trees ≡ c.trees → d.resolved ≡ c.resolved → d ≡ c
kept_same c d a b e = λ i. record { names = a i; trees = b i; resolved = e i }

as_many : (trees : List (Name × ModuleData)) → length (read_trees trees) ≡ length trees
as_many [] = refl
as_many (e ∷ es) = ap suc (as_many es)

-- there is room for one more
pub has_room : (trees : List (Name × ModuleData)) (count most : ℕ) → count ≡ length trees → count < most → length (read_trees trees) < most
has_room trees count most is less = subst (λ (n : ℕ). n < most) (is ∙ sym (as_many trees)) less

-- there is none
pub is_full : (trees : List (Name × ModuleData)) (count most : ℕ) → count ≡ length trees → most ≤ count → most ≤ length (read_trees trees)
is_full trees count most is full = subst (λ (n : ℕ). most ≤ n) (is ∙ sym (as_many trees)) full

-- where a number is left, one more file may be met
one_left : (c : Kept) (file : Name) → (NumbersUsedUp c → ⊥) → length (c.names ++ file ∷ []) ≤ last_number + 1
one_left c file left =
    let longer : length (c.names ++ file ∷ []) ≡ length c.names + 1 = length_push c.names file in
    elim (cases_lt last_number (length c.names)) [
      | inl above ↦ absurd (left above)
      | inr within ↦ omega (arith, within, longer)
    ]

module _ (answers : Answers) (settings : Settings) (entries : List Name) where
  -- nothing is new
  pub grows_along : (c d : Kept) → d ≡ c → Grows answers settings entries c d
  grows_along c d e = subst (λ (x : Kept). Grows answers settings entries c x) (sym e) j.same

  -- growing goes on
  pub grows_trans : (x y z : Kept) → Grows answers settings entries x y → Grows answers settings entries y z → Grows answers settings entries x z
  grows_trans x y z j.same h = h
  grows_trans x y z (j.met file none room due rest) h = j.met file none room due (grows_trans _ y z rest h)
  grows_trans x y z (j.Grows.loaded file answer there none room may rest) h = j.Grows.loaded file answer there none room may (grows_trans _ y z rest h)
  grows_trans x y z (j.Grows.resolved asked asking file there faultless requested none may rest) h =
      j.Grows.resolved asked asking file there faultless requested none may (grows_trans _ y z rest h)

  -- no more files are met than there are numbers
  pub still_bounded : (x y : Kept) → Grows answers settings entries x y → IsBounded x → IsBounded y
  still_bounded x y j.same bounded = bounded
  still_bounded x y (j.met file none room due rest) bounded = still_bounded _ y rest (one_left x file room)
  still_bounded x y (j.Grows.loaded file answer there none room may rest) bounded = still_bounded _ y rest bounded
  still_bounded x y (j.Grows.resolved asked asking file there faultless requested none may rest) bounded = still_bounded _ y rest bounded

module _ {L R : Type 0} (may_load : L → Name → ModuleData → Type 0) (may_resolve : R → Name → List ℕ → Name → Type 0) (settings : Settings) (entries : List Name) where
  pub advances_refl : (l : L) (r : R) (c : Kept) → Advances may_load may_resolve settings entries l l r r c c
  advances_refl l r c = record { loader = refl; resolver = refl; grows = j.same }

  pub advances_along : (l : L) (r : R) (c d : Kept) → d ≡ c → Advances may_load may_resolve settings entries l l r r c d
  advances_along l r c d e = record { loader = refl; resolver = refl; grows = grows_along _ settings entries c d e }

  pub advances_trans : (l l1 l2 : L) (r r1 r2 : R) (c c1 c2 : Kept) → Advances may_load may_resolve settings entries l l1 r r1 c c1 → Advances may_load may_resolve settings entries l1 l2 r1 r2 c1 c2 → Advances may_load may_resolve settings entries l l2 r r2 c c2
  advances_trans l l1 l2 r r1 r2 c c1 c2 a b =
      let from_l : Grows (answers_of (may_load l) (may_resolve r1)) settings entries c1 c2 = subst (λ (x : L). Grows (answers_of (may_load x) (may_resolve r1)) settings entries c1 c2) a.loader b.grows in
      let from_r : Grows (answers_of (may_load l) (may_resolve r)) settings entries c1 c2 = subst (λ (x : R). Grows (answers_of (may_load l) (may_resolve x)) settings entries c1 c2) a.resolver from_l in
      record { loader = b.loader ∙ a.loader; resolver = b.resolver ∙ a.resolver; grows = grows_trans _ settings entries c c1 c2 a.grows from_r }

-- What stays.

nothing_more : {X : Type 0} (xs ys : List X) → ys ≡ xs → (more : List X) × (ys ≡ xs ++ more)
nothing_more xs ys same = ([], same ∙ sym (append-nil xs))

longer_still : {X : Type 0} (xs ys zs : List X) → (more : List X) × (ys ≡ xs ++ more) → (more : List X) × (zs ≡ ys ++ more) → (more : List X) × (zs ≡ xs ++ more)
longer_still xs ys zs first last = (first.0 ++ last.0, last.1 ∙ ap (λ l. l ++ last.0) first.1 ∙ append_assoc xs first.0 last.0)

-- what is the same stays
pub same_stays : (c d : Kept) → d ≡ c → Stays c d
same_stays c d same = record { names = nothing_more c.names d.names (ap (λ (x : Kept). x.names) same); trees = nothing_more c.trees d.trees (ap (λ (x : Kept). x.trees) same); resolved = nothing_more c.resolved d.resolved (ap (λ (x : Kept). x.resolved) same) }

-- what stays and stays again, stays
pub stays_trans : (c d e : Kept) → Stays c d → Stays d e → Stays c e
stays_trans c d e first last = record { names = longer_still c.names d.names e.names first.names last.names; trees = longer_still c.trees d.trees e.trees first.trees last.trees; resolved = longer_still c.resolved d.resolved e.resolved first.resolved last.resolved }

module _ {L R : Type 0} where
  pub remains_refl : (l : L) (r : R) (c : Kept) → Remains l l r r c c
  remains_refl l r c = record { loader = refl; resolver = refl; stays = same_stays c c refl }

  pub remains_along : (l : L) (r : R) (c d : Kept) → d ≡ c → Remains l l r r c d
  remains_along l r c d same = record { loader = refl; resolver = refl; stays = same_stays c d same }

  pub remains_trans : (l l1 l2 : L) (r r1 r2 : R) (c c1 c2 : Kept) → Remains l l1 r r1 c c1 → Remains l1 l2 r1 r2 c1 c2 → Remains l l2 r r2 c c2
  remains_trans l l1 l2 r r1 r2 c c1 c2 a b = record { loader = b.loader ∙ a.loader; resolver = b.resolver ∙ a.resolver; stays = stays_trans c c1 c2 a.stays b.stays }

-- a look-up that finds something finds it in a longer list
found_longer : {K X : Type 0} (test : K → Bool) (xs more : List (K × X)) → IsSome (lookup test xs) → IsSome (lookup test (xs ++ more))
found_longer test [] more found = cc
found_longer test (e ∷ es) more found = by (test e.0) found (λ h. found_longer test es more h)
  where
    by : (b : Bool) → IsSome (cond b (Some e.1) (lookup test es)) → (IsSome (lookup test es) → IsSome (lookup test (es ++ more))) → IsSome (cond b (Some e.1) (lookup test (es ++ more)))
    by true h further = refl
    by false h further = further h

-- what is kept stays kept
pub still_kept : (c d : Kept) → Stays c d → (file : Name) → IsKept c file → IsKept d file
still_kept c d s file kept = subst (λ (trees : List (Name × Loaded)). IsSome (lookup (name_eq file) trees)) (sym s.trees.1) (found_longer (name_eq file) c.trees s.trees.0 kept)

-- what a look-up finds, it finds in a longer list
same_longer : {K X : Type 0} (test : K → Bool) (xs more : List (K × X)) (x : X) → lookup test xs ≡ Some x → lookup test (xs ++ more) ≡ Some x
same_longer test [] more x is = cc
same_longer test (e ∷ es) more x is = by (test e.0) is (same_longer test es more x)
  where
    by : (b : Bool) → cond b (Some e.1) (lookup test es) ≡ Some x → (lookup test es ≡ Some x → lookup test (es ++ more) ≡ Some x) → cond b (Some e.1) (lookup test (es ++ more)) ≡ Some x
    by true h further = h
    by false h further = further h

-- a module stays as it is kept
pub still_module : (c d : Kept) → Stays c d → (file : Name) (loaded : Loaded) → kept_module c file ≡ Some loaded → kept_module d file ≡ Some loaded
still_module c d s file loaded is =
    subst (λ (trees : List (Name × Loaded)). lookup (name_eq file) trees ≡ Some loaded) (sym s.trees.1) (same_longer (name_eq file) c.trees s.trees.0 loaded is)

-- a request leads where it led
pub still_file : (c d : Kept) → Stays c d → (asked : Asked) (file : Name) → kept_file c asked ≡ Some file → kept_file d asked ≡ Some file
still_file c d s asked file is =
    subst (λ (resolved : List (Asked × Name)). lookup (asked_eq asked) resolved ≡ Some file) (sym s.resolved.1) (same_longer (asked_eq asked) c.resolved s.resolved.0 file is)

-- what is requested stays so
pub still_requested : (settings : Settings) (c d : Kept) → Stays c d → (asked : Asked) → IsRequested settings c asked → IsRequested settings d asked
still_requested settings c d s asked its = record { asking = its.asking; there = still_module c d s asked.file its.asking its.there; faultless = its.faultless; requested = its.requested }

-- and what has no fault has none
pub still_sound : (c d : Kept) → Stays c d → (file : Name) → IsFileSound c file → IsFileSound d file
still_sound c d s file (loaded, is, faultless) = (loaded, still_module c d s file loaded is, faultless)

-- what was met stays so
pub still_met : (c d : Kept) → Stays c d → (file : Name) → IsFileMet c file → IsFileMet d file
still_met c d s file met =
    let at : (i : ℕ) × (slice_get c.names i ≡ Some file) = place-Contains c.names file met in
    let there : slice_get (c.names ++ s.names.0) at.0 ≡ Some file = slice_get-grown c.names s.names.0 at.0 file at.1 in
    subst (λ (names : List Name). Contains names file) (sym s.names.1) (Contains-slice_get (c.names ++ s.names.0) at.0 file there)

-- a first place stays the first
position_grown : (xs more : List Name) (name : Name) (n : ℕ) → position (name_eq name) xs ≡ Some n → position (name_eq name) (xs ++ more) ≡ Some n
position_grown xs more name n is =
    let facts = position-Some (name_eq name) xs n name is in
    let within : n < length xs = facts.0 in
    let le : n ≤ length xs = omega (arith, within) in
    let at : position_or_len (name_eq name) xs ≡ n = position_or_len_is (name_eq name) xs n name le facts.2 (λ _. facts.1) in
    let other : eqb n (length xs) ≡ false = grind (arith, common_steps) in
    let grown : position_or_len (name_eq name) (xs ++ more) ≡ n =
    prefix_len-append (λ x. not (name_eq name x)) xs more ∙ ap (λ (m : ℕ). cond (eqb m (length xs)) (length xs + position_or_len (name_eq name) more) m) at ∙ ap (λ (b : Bool). cond b (length xs + position_or_len (name_eq name) more) n) other in
    let long : length (xs ++ more) ≡ length xs + length more = length-append xs more in
    let inside : n < length (xs ++ more) = omega (arith, within, long) in
    ap (λ (m : ℕ). cond (nat_lt m (length (xs ++ more))) (Some m) None) grown ∙ ap (λ (b : Bool). cond b (Some n) None) (lt-ltb n (length (xs ++ more)) inside)

-- a file keeps its number
pub still_numbered : (c d : Kept) → Stays c d → (file : Name) (n : ℕ) → number_in c file ≡ Some n → number_in d file ≡ Some n
still_numbered c d s file n is = subst (λ (names : List Name). position (name_eq file) names ≡ Some n) (sym s.names.1) (position_grown c.names s.names.0 file n is)

-- a file that has a number was met
pub numbered_met : (c : Kept) (file : Name) (n : ℕ) → number_in c file ≡ Some n → IsFileMet c file
numbered_met c file n is =
    let facts = position-Some (name_eq file) c.names n file is in
    subst (Contains c.names) (sym ((name_eq-Decides file (get_or c.names n file)).0 facts.1)) (Contains-get_or c.names n file facts.0)

pub numbered_is_met : {E : Type 0} (c : Kept) (file : Name) (result : Result ℕ E) → IfOk result (λ n. number_in c file ≡ Some n) → OnOk result (IsFileMet c file)
numbered_is_met c file (Ok n) is = numbered_met c file n is
numbered_is_met c file (Err e) is = tt

-- a file that gets no number was not met
pub unmet : {E : Type 0} (c d : Kept) (file : Name) (result : Result ℕ E) → OnErr result (d.names ≡ c.names) → OnErr result (Contains d.names file → ⊥) → OnErr result (Contains c.names file → ⊥)
unmet c d file (Ok n) unchanged absent = tt
unmet c d file (Err e) unchanged absent = subst (λ (names : List Name). Contains names file → ⊥) unchanged absent

-- The steps.

-- what holds, holds on success
pub holds : {T E : Type 0} (r : Result T E) (P : Type 0) → P → OnOk r P
holds (Ok x) P p = p
holds (Err e) P p = tt

-- a success is no refusal
pub no_err : {T E : Type 0} (r : Result T E) (P : E → Type 0) → IsOk r → IfErr r P
no_err (Ok x) P is = tt
no_err (Err e) P is = absurd (true≢false (sym is))

pub no_err_owes : {T E : Type 0} (r : Result T E) (P : Type 0) → IsOk r → OnErr r P
no_err_owes (Ok x) P is = tt
no_err_owes (Err e) P is = absurd (true≢false (sym is))

-- of what is refused, nothing is owed
pub refused_owes : {T E : Type 0} (r : Result T E) (e : E) (P : Type 0) → r ≡ Err e → OnOk r P
refused_owes r e P is = subst (λ x. OnOk x P) (sym is) tt

-- what a look-up that finds something found
pub found : {X : Type 0} (o : Option X) → IsSome o → (x : X) × (o ≡ Some x)
found None is = cc
found (Some x) is = (x, refl)

-- a file that gets a number got one that was left
pub numbers_left : (c d : Kept) (file : Name) → d.names ≡ c.names ++ file ∷ [] → length d.names ≤ 2147483647 → NumbersUsedUp c → ⊥
numbers_left c d file more bounded used =
    let longer : length d.names ≡ length c.names + 1 = ap length more ∙ length_push c.names file in
    omega (arith, used, longer, bounded)

-- one more name
pub with_one_name : (c d : Kept) (file : Name) → d.names ≡ c.names ++ file ∷ [] → d.trees ≡ c.trees → d.resolved ≡ c.resolved → Stays c d
with_one_name c d file names trees resolved = record { names = (file ∷ [], names); trees = nothing_more c.trees d.trees trees; resolved = nothing_more c.resolved d.resolved resolved }

-- a file has its number, or gets the next
pub id_stays : {E : Type 0} (c d : Kept) (file : Name) (result : Result ℕ E)
    → (Contains c.names file → d.names ≡ c.names) → OnOk result ((Contains c.names file → ⊥) → d.names ≡ c.names ++ file ∷ []) → OnErr result (d.names ≡ c.names)
    → d.trees ≡ c.trees → d.resolved ≡ c.resolved → Stays c d
id_stays c d file (Err e) known added unchanged trees resolved = same_stays c d (kept_same c d unchanged trees resolved)
id_stays c d file (Ok n) known added unchanged trees resolved =
    elim (kept_or_added c.names d.names file known added) [ inl same ↦ same_stays c d (kept_same c d same trees resolved) | inr more ↦ with_one_name c d file more.1 trees resolved ]

-- of what a step refuses nothing is kept
pub id_unchanged : {E : Type 0} (c d : Kept) (result : Result ℕ E) → OnErr result (d.names ≡ c.names) → d.trees ≡ c.trees → d.resolved ≡ c.resolved → OnErr result (d ≡ c)
id_unchanged c d (Ok n) unchanged trees resolved = tt
id_unchanged c d (Err e) unchanged trees resolved = kept_same c d unchanged trees resolved

pub load_unchanged : {T : Type 0} (c r d : Kept) (file : FileName) (loaded : Result ModuleData LoadError) (result : Result T Error) → r ≡ c
    → IfOk loaded (λ tree. IsOk result × (d ≡ with_trees r (r.trees ++ (name_of file, kept_as tree) ∷ [])))
    → IfErr loaded (λ e. (result ≡ Err (load_refusal file e)) × (d ≡ r))
    → OnErr result (d ≡ c)
load_unchanged c r d file (Ok tree) result same given refused = no_err_owes result _ given.0
load_unchanged c r d file (Err e) result same given refused = holds_refused result _ (refused.1 ∙ same)

pub resolve_unchanged : {T : Type 0} (c r d : Kept) (request : Request) (answer : Result FileName ResolveError) (result : Result T Error) → r ≡ c
    → IfOk answer (λ file. IsOk result × (d ≡ with_resolved r (r.resolved ++ (asked_of request, name_of file) ∷ [])))
    → IfErr answer (λ e. (result ≡ Err (resolve_refusal request e)) × (d ≡ r))
    → OnErr result (d ≡ c)
resolve_unchanged c r d request (Ok file) result same given refused = no_err_owes result _ given.0
resolve_unchanged c r d request (Err e) result same given refused = holds_refused result _ (refused.1 ∙ same)

-- a pair is resolved, or not
pub resolve_stays : {T : Type 0} (c r d : Kept) (request : Request) (answer : Result FileName ResolveError) (result : Result T Error) → r ≡ c
    → IfOk answer (λ file. IsOk result × (d ≡ with_resolved r (r.resolved ++ (asked_of request, name_of file) ∷ [])))
    → IfErr answer (λ e. (result ≡ Err (resolve_refusal request e)) × (d ≡ r))
    → Stays c d
resolve_stays c r d request (Ok file) result same given refused =
    let now : Stays r (with_resolved r (r.resolved ++ (asked_of request, name_of file) ∷ [])) = record { names = nothing_more r.names r.names refl; trees = nothing_more r.trees r.trees refl; resolved = ((asked_of request, name_of file) ∷ [], refl) } in
    subst (λ (x : Kept). Stays x d) same (subst (Stays r) (sym given.1) now)
resolve_stays c r d request (Err e) result same given refused = same_stays c d (refused.1 ∙ same)

module _ (may_load : Name → ModuleData → Type 0) (may_resolve : Name → List ℕ → Name → Type 0) (settings : Settings) (entries : List Name) where
  -- a file gets its number
  pub id_grows : {E : Type 0} (c d : Kept) (file : Name) (result : Result ℕ E)
      → (Contains c.names file → d.names ≡ c.names) → OnOk result ((Contains c.names file → ⊥) → d.names ≡ c.names ++ file ∷ []) → OnErr result (d.names ≡ c.names)
      → d.trees ≡ c.trees → d.resolved ≡ c.resolved → length d.names ≤ 2147483647 → MayBeMet c file entries → Grows (answers_of may_load may_resolve) settings entries c d
  id_grows c d file (Err e) known added unchanged trees resolved bounded due = grows_along _ settings entries c d (kept_same c d unchanged trees resolved)
  id_grows c d file (Ok n) known added unchanged trees resolved bounded due =
      elim (kept_or_added c.names d.names file known added) [
        | inl e ↦ grows_along _ settings entries c d (kept_same c d e trees resolved)
        | inr more ↦ j.met file more.0 (numbers_left c d file more.1 bounded) due (grows_along _ settings entries (with_names c (c.names ++ file ∷ [])) d (kept_same (with_names c (c.names ++ file ∷ [])) d more.1 trees resolved))
      ]

  -- a file is loaded
  pub load_grows : {T : Type 0} (c r d : Kept) (n : Name) (file : FileName) (loaded : Result ModuleData LoadError) (result : Result T Error)
      → IsFileMet c n → kept_module c n ≡ None → length c.trees < settings.most_modules → name_of file ≡ n → r ≡ c → IfOk loaded (λ tree. may_load n tree)
      → IfOk loaded (λ tree. IsOk result × (d ≡ with_trees r (r.trees ++ (name_of file, kept_as tree) ∷ [])))
      → IfErr loaded (λ e. (result ≡ Err (load_refusal file e)) × (d ≡ r))
      → Grows (answers_of may_load may_resolve) settings entries c d
  load_grows c r d n file (Ok tree) result met none room named same may given refused =
      let now : Kept = with_trees c (c.trees ++ (n, kept_as tree) ∷ []) in
      let e : d ≡ now = given.1 ∙ ap (λ (x : Kept). with_trees x (x.trees ++ (name_of file, kept_as tree) ∷ [])) same ∙ ap (λ (m : Name). with_trees c (c.trees ++ (m, kept_as tree) ∷ [])) named in
      j.Grows.loaded n (handed_in tree) met none room (record { given = tree; may = may; is = refl }) (grows_along _ settings entries now d e)
  load_grows c r d n file (Err e) result met none room named same may given refused = grows_along _ settings entries c d (refused.1 ∙ same)

  -- a pair is resolved
  pub resolve_grows : {T : Type 0} (c r d : Kept) (asked : Asked) (bytes : List ℕ) (request : Request) (answer : Result FileName ResolveError) (result : Result T Error)
      → IsRequested settings c asked → kept_file c asked ≡ None → asked_of request ≡ asked → r ≡ c → bytes ≡ asked.specifier → IfOk answer (λ file. may_resolve asked.file bytes (name_of file))
      → IfOk answer (λ file. IsOk result × (d ≡ with_resolved r (r.resolved ++ (asked_of request, name_of file) ∷ [])))
      → IfErr answer (λ e. (result ≡ Err (resolve_refusal request e)) × (d ≡ r))
      → Grows (answers_of may_load may_resolve) settings entries c d
  resolve_grows c r d asked bytes request (Ok file) result its none said same spelled may given refused =
      let now : Kept = with_resolved c (c.resolved ++ (asked, name_of file) ∷ []) in
      let e : d ≡ now = given.1 ∙ ap (λ (x : Kept). with_resolved x (x.resolved ++ (asked_of request, name_of file) ∷ [])) same ∙ ap (λ (a : Asked). with_resolved c (c.resolved ++ (a, name_of file) ∷ [])) said in
      j.Grows.resolved asked its.asking (name_of file) its.there its.faultless its.requested none (subst (λ (b : List ℕ). may_resolve asked.file b (name_of file)) spelled may) (grows_along _ settings entries now d e)
  resolve_grows c r d asked bytes request (Err e) result its none said same spelled may given refused = grows_along _ settings entries c d (refused.1 ∙ same)

-- ---- finding

-- a look-up that finds something further on, finds something
found_either : {X : Type 0} (b : Bool) (x : X) (o : Option X) → IsSome o → IsSome (cond b (Some x) o)
found_either true x o found = refl
found_either false x o found = found

-- what goes last is found
pub lookup-added : {K X : Type 0} (test : K → Bool) (xs : List (K × X)) (k : K) (v : X) → test k ≡ true → IsSome (lookup test (xs ++ (k, v) ∷ []))
lookup-added test [] k v is = ap (λ (b : Bool). is_some (cond b (Some v) None)) is
lookup-added test (e ∷ xs) k v is = found_either (test e.0) e.1 _ (lookup-added test xs k v is)

-- a look-up among what is read of values gives what is read of the value
cond_read : {X Y : Type 0} (f : X → Y) (b : Bool) (x : X) (o : Option X) (p : Option Y) → p ≡ option_map f o → cond b (Some (f x)) p ≡ option_map f (cond b (Some x) o)
cond_read f true x o p h = refl
cond_read f false x o p h = h

pub lookup-read : {K X Y : Type 0} (f : X → Y) (test : K → Bool) (es : List (K × X)) → lookup test (map (λ (e : K × X). (e.0, f e.1)) es) ≡ option_map f (lookup test es)
lookup-read f test [] = refl
lookup-read f test (e ∷ es) = cond_read f (test e.0) e.1 _ _ (lookup-read f test es)

-- whether something is found does not change by reading it
pub same_some : {X Y : Type 0} (f : X → Y) (o : Option X) → is_some (option_map f o) ≡ is_some o
same_some f None = refl
same_some f (Some x) = refl

pub read_none : {X Y : Type 0} (f : X → Y) (o : Option X) → o ≡ None → option_map f o ≡ None
read_none f None is = refl
read_none f (Some x) is = cc

pub none_is : {X : Type 0} (o : Option X) → is_some o ≡ false → o ≡ None
none_is None is = refl
none_is (Some x) is = cc

-- what a look-up among trees finds is kept, and what it does not find is not
module _ (test : Name → Bool) (trees : List (Name × ModuleData)) where
  pub seen_same : (result : Option (Bor ModuleData)) (is : Bool) → option_map (λ (loaded : Bor ModuleData). loaded.now) result ≡ lookup test trees → is ≡ is_some result → is ≡ false → lookup test trees ≡ None
  seen_same result is value some never = sym value ∙ read_none (λ (loaded : Bor ModuleData). loaded.now) result (none_is result (sym some ∙ never))

  pub none_if : lookup test trees ≡ None → lookup test (map (λ (e : Name × ModuleData). (e.0, kept_as e.1)) trees) ≡ None
  none_if none = lookup-read kept_as test trees ∙ read_none kept_as (lookup test trees) none

  -- what is kept of a file was handed in
  pub handed : IsSome (lookup test (map (λ (e : Name × ModuleData). (e.0, kept_as e.1)) trees)) → IsSome (lookup test trees)
  handed some = sym (same_some kept_as (lookup test trees)) ∙ sym (ap is_some (lookup-read kept_as test trees)) ∙ some

  pub kept_if : (result : Option (Bor ModuleData)) (is : Bool) → option_map (λ (loaded : Bor ModuleData). loaded.now) result ≡ lookup test trees → is ≡ is_some result → is ≡ true → IsSome (lookup test (map (λ (e : Name × ModuleData). (e.0, kept_as e.1)) trees))
  kept_if result is value some there =
      ap is_some (lookup-read kept_as test trees) ∙ same_some kept_as (lookup test trees) ∙ ap is_some (sym value) ∙ same_some (λ (loaded : Bor ModuleData). loaded.now) result ∙ sym some ∙ there

pub asked_eq-refl : (a : Asked) → asked_eq a a ≡ true
asked_eq-refl a = ap (λ x. x && bytes_eq a.specifier a.specifier) (name_eq_equiv.refl a.file) ∙ (bytes_eq-Decides a.specifier a.specifier).1 refl

module _ {T : Type 0} where
  -- a tree that was kept is found
  pub tree_found : (r d : Kept) (n : Name) (file : FileName) (loaded : Result ModuleData LoadError) (result : Result T Error)
      → name_of file ≡ n
      → IfOk loaded (λ tree. IsOk result × (d ≡ with_trees r (r.trees ++ (name_of file, kept_as tree) ∷ [])))
      → IfErr loaded (λ e. (result ≡ Err (load_refusal file e)) × (d ≡ r))
      → OnOk result (IsKept d n)
  tree_found r d n file (Ok tree) result named given refused =
      let is : name_eq n (name_of file) ≡ true = (name_eq-Decides n (name_of file)).1 (sym named) in
      let found : IsSome (lookup (name_eq n) (r.trees ++ (name_of file, kept_as tree) ∷ [])) = lookup-added (name_eq n) r.trees (name_of file) (kept_as tree) is in
      holds result _ (subst (λ (x : Kept). IsSome (kept_module x n)) (sym given.1) found)
  tree_found r d n file (Err e) result named given refused = refused_owes result (load_refusal file e) _ refused.0

  -- a file that was kept for a request is found
  pub target_found : (r d : Kept) (asked : Asked) (request : Request) (answer : Result FileName ResolveError) (result : Result T Error)
      → asked_of request ≡ asked
      → IfOk answer (λ file. IsOk result × (d ≡ with_resolved r (r.resolved ++ (asked_of request, name_of file) ∷ [])))
      → IfErr answer (λ e. (result ≡ Err (resolve_refusal request e)) × (d ≡ r))
      → OnOk result (IsSome (kept_file d asked))
  target_found r d asked request (Ok file) result said given refused =
      let is : asked_eq asked (asked_of request) ≡ true = subst (λ a. asked_eq asked a ≡ true) (sym said) (asked_eq-refl asked) in
      let found : IsSome (lookup (asked_eq asked) (r.resolved ++ (asked_of request, name_of file) ∷ [])) = lookup-added (asked_eq asked) r.resolved (asked_of request) (name_of file) is in
      holds result _ (subst (λ (x : Kept). IsSome (kept_file x asked)) (sym given.1) found)
  target_found r d asked request (Err e) result said given refused = refused_owes result (resolve_refusal request e) _ refused.0

-- a request, of its parts
abbrev pub ask : Name → List ℕ → Asked
ask name bytes = record { file = name; specifier = bytes }

-- requests are the same whose parts are
pub asked_same : (a b : Name) (x y : List ℕ) → a ≡ b → x ≡ y → ask a x ≡ ask b y
asked_same a b x y e f = ap (λ (n : Name). ask n x) e ∙ ap (ask b) f

-- a refusal that is handed on is as right as it was
pub handed_on : {T E : Type 0} (r : Result T E) (e : E) (Q : E → Type 0) → IsErrAnd r (λ x. x ≡ e) → Q e → IfErr r Q
handed_on (Ok x) e Q is q = tt
handed_on (Err x) e Q is q = subst Q (sym is) q

-- ---- judging

-- What is told.

pub told_as : (o : Option Fault) (P Q : Fault → Type 0) → ((f : Fault) → P f → Q f) → IfSome o P → IfSome o Q
told_as None P Q give told = tt
told_as (Some f) P Q give told = give f told

-- what holds of the fault, if one is told, and else what holds where a growth is refused
pub told_or : (o : Option Fault) (P : Fault → Type 0) (Q : Option Fault → Type 0) → ((f : Fault) → P f → Q (Some f)) → Q None → IfSome o P → Q o
told_or None P Q give stop told = stop
told_or (Some f) P Q give stop told = give f told

-- the same where it is said of how a part of the judging is refused
pub told_by : (o : Option Fault) (P : Outcome → Type 0) (Q : Option Fault → Type 0) → ((f : Fault) → P (Refused f) → Q (Some f)) → (P Stopped → Q None) → P (refused_by o) → Q o
told_by None P Q give stop told = stop told
told_by (Some f) P Q give stop told = give f told

-- what is refused does not go on
pub goes_not_on : (o : Option Fault) → refused_by o ≡ GoesOn → ⊥
goes_not_on None is = cc
goes_not_on (Some f) is = cc

-- what holds of the fault, if one is told
pub told_where : (o : Option Fault) (Q : Fault → Type 0) → ((f : Fault) → o ≡ Some f → Q f) → IfSome o Q
told_where None Q give = tt
told_where (Some f) Q give = give f refl

module _ {T : Type 0} where
  -- a step that is made
  pub tells_ok : (r : Result T Error) (step : Outcome → Type 0) → IsOk r → step GoesOn → Tells r step
  tells_ok (Ok x) step is goes = goes
  tells_ok (Err e) step is goes = absurd (true≢false (sym is))

  -- one that is refused
  pub tells_err : (r : Result T Error) (e : Error) (step : Outcome → Type 0) → r ≡ Err e → IfSome (fault_of e) (λ fault. step (Refused fault)) → Tells r step
  tells_err r e step is told = subst (λ x. Tells x step) (sym is) told

  -- a refusal that is handed on
  pub ends_handed : (r : Result T Error) (e : Error) (part : Outcome → Type 0) → IsErrAnd r (λ x. x ≡ e) → part (refused_by (fault_of e)) → EndsJudging r part
  ends_handed (Ok x) e part is its = absurd is
  ends_handed (Err x) e part is its = subst (λ y. part (refused_by (fault_of y))) (sym is) its

  pub leads_handed : (r : Result T Error) (e : Error) (whole rest : Outcome → Kept → Type 0) (new : Kept) → IsErrAnd r (λ x. x ≡ e) → whole (refused_by (fault_of e)) new → LeadsOn r whole rest new
  leads_handed (Ok x) e whole rest new is its = absurd is
  leads_handed (Err x) e whole rest new is its = subst (λ y. whole (refused_by (fault_of y)) new) (sym is) its

  -- that of a step, which tells of a fault, or is for want of memory
  pub ends_told : (r : Result T Error) (e : Error) (P : Fault → Type 0) (part : Outcome → Type 0) → IsErrAnd r (λ x. x ≡ e) → ((f : Fault) → P f → part (Refused f)) → part Stopped → IfSome (fault_of e) P → EndsJudging r part
  ends_told r e P part is give stop told = ends_handed r e part is (told_or (fault_of e) P (λ o. part (refused_by o)) give stop told)

  pub leads_told : (r : Result T Error) (e : Error) (P : Fault → Type 0) (whole rest : Outcome → Kept → Type 0) (new : Kept) → IsErrAnd r (λ x. x ≡ e) → ((f : Fault) → P f → whole (Refused f) new) → whole Stopped new → IfSome (fault_of e) P → LeadsOn r whole rest new
  leads_told r e P whole rest new is give stop told = leads_handed r e whole rest new is (told_or (fault_of e) P (λ o. whole (refused_by o) new) give stop told)

-- what is so of the loader and the resolver is so of those that they were
pub as_before : {L R : Type 0} (P : L → R → Type 0) (l l1 : L) (r r1 : R) → l1 ≡ l → r1 ≡ r → P l1 r1 → P l r
as_before P l l1 r r1 loader resolver is = subst (λ x. P x r) loader (subst (P l1) resolver is)

-- Requests.

module _ (parties : Parties) (file : Name) where
  -- more requests
  pub asks_then : (xs ys : List Text) (old mid new : Kept) (list longer all : List Name) (o p : Outcome) → Asks parties file xs old list o mid longer → o ≡ GoesOn → Asks parties file ys mid longer p new all → Asks parties file (xs ++ ys) old list p new all
  asks_then xs ys old mid new list longer all o p j.over is rest = rest
  asks_then xs ys old mid new list longer all o p (j.fails its) is rest = cc
  asks_then xs ys old mid new list longer all o p (j.listed its listed more) is rest = j.listed its listed (asks_then _ ys _ mid new list longer all o p more is rest)
  asks_then xs ys old mid new list longer all o p (j.numbered its fresh number more) is rest = j.numbered its fresh number (asks_then _ ys _ mid new _ longer all o p more is rest)
  asks_then xs ys old mid new list longer all o p (j.used_up its fresh number) is rest = cc
  asks_then xs ys old mid new list longer all o p j.Asks.stopped is rest = cc
  asks_then xs ys old mid new list longer all o p (j.stopped_resolved its) is rest = cc
  asks_then xs ys old mid new list longer all o p (j.stopped_numbered its fresh number) is rest = cc

  -- a refusal is one of more requests too
  pub asks_refused : (xs ys : List Text) (old new : Kept) (list all : List Name) (o : Outcome) → Asks parties file xs old list o new all → (o ≡ GoesOn → ⊥) → Asks parties file (xs ++ ys) old list o new all
  asks_refused xs ys old new list all o j.over is = absurd (is refl)
  asks_refused xs ys old new list all o (j.fails its) is = j.fails its
  asks_refused xs ys old new list all o (j.listed its listed more) is = j.listed its listed (asks_refused _ ys _ new list all o more is)
  asks_refused xs ys old new list all o (j.numbered its fresh number more) is = j.numbered its fresh number (asks_refused _ ys _ new _ all o more is)
  asks_refused xs ys old new list all o (j.used_up its fresh number) is = j.used_up its fresh number
  asks_refused xs ys old new list all o j.Asks.stopped is = j.Asks.stopped
  asks_refused xs ys old new list all o (j.stopped_resolved its) is = j.stopped_resolved its
  asks_refused xs ys old new list all o (j.stopped_numbered its fresh number) is = j.stopped_numbered its fresh number

-- The same judging by parties that may do as much.

module _ (p q : Parties) (resolve : (asked : Asked) (file : Name) → p.answers.may_resolve asked file → q.answers.may_resolve asked file) (fail_resolve : (asked : Asked) → p.may_fail_to_resolve asked → q.may_fail_to_resolve asked) where
  resolves_as : (old new : Kept) (asked : Asked) (found : Option Name) → Resolves p old asked found new → Resolves q old asked found new
  resolves_as old new asked found (j.kept is) = j.kept is
  resolves_as old new asked found (j.resolved file none may) = j.resolved file none (resolve asked file may)
  resolves_as old new asked found (j.fails none may) = j.fails none (fail_resolve asked may)

  pub asks_as : (file : Name) (texts : List Text) (old new : Kept) (list all : List Name) (o : Outcome) → Asks p file texts old list o new all → Asks q file texts old list o new all
  asks_as file texts old new list all o j.over = j.over
  asks_as file texts old new list all o (j.fails its) = j.fails (resolves_as _ _ _ _ its)
  asks_as file texts old new list all o (j.listed its listed more) = j.listed (resolves_as _ _ _ _ its) listed (asks_as file _ _ new list all o more)
  asks_as file texts old new list all o (j.numbered its fresh number more) = j.numbered (resolves_as _ _ _ _ its) fresh number (asks_as file _ _ new _ all o more)
  asks_as file texts old new list all o (j.used_up its fresh number) = j.used_up (resolves_as _ _ _ _ its) fresh number
  asks_as file texts old new list all o j.Asks.stopped = j.Asks.stopped
  asks_as file texts old new list all o (j.stopped_resolved its) = j.stopped_resolved (resolves_as _ _ _ _ its)
  asks_as file texts old new list all o (j.stopped_numbered its fresh number) = j.stopped_numbered (resolves_as _ _ _ _ its) fresh number

-- a file is loaded alike by parties that may do as much for one of which nothing is kept
pub loads_as : (p q : Parties) (settings : Settings) (old : Kept)
    → ((file : Name) (answer : Loaded) → kept_module old file ≡ None → p.answers.may_load file answer → q.answers.may_load file answer)
    → ((file : Name) → kept_module old file ≡ None → p.may_fail_to_load file → q.may_fail_to_load file)
    → (new : Kept) (file : Name) (o : Outcome) → Loads p settings old file o new → Loads q settings old file o new
loads_as p q settings old load fail_load new file o (j.kept is) = j.kept is
loads_as p q settings old load fail_load new file o (j.no_room none full) = j.no_room none full
loads_as p q settings old load fail_load new file o (j.fails none room may) = j.fails none room (fail_load file none may)
loads_as p q settings old load fail_load new file o (j.loaded answer none room may) = j.loaded answer none room (load file answer none may)

module _ (p q : Parties) (settings : Settings)
    (load : (file : Name) (answer : Loaded) → p.answers.may_load file answer → q.answers.may_load file answer)
    (fail_load : (file : Name) → p.may_fail_to_load file → q.may_fail_to_load file)
    (resolve : (asked : Asked) (file : Name) → p.answers.may_resolve asked file → q.answers.may_resolve asked file)
    (fail_resolve : (asked : Asked) → p.may_fail_to_resolve asked → q.may_fail_to_resolve asked) where
  file_as : (old new : Kept) (file : Name) (o : Outcome) → Loads p settings old file o new → Loads q settings old file o new
  file_as old new file o its = loads_as p q settings old (λ other answer none. load other answer) (λ other none. fail_load other) new file o its

  requests_as : (file : Name) (texts : List Text) (old new : Kept) (list all : List Name) (o : Outcome) → Asks p file texts old list o new all → Asks q file texts old list o new all
  requests_as = asks_as p q resolve fail_resolve

  pub loads_all_as : (list : List Name) (i : ℕ) (old new : Kept) (o : Outcome) → LoadsAll p settings list i old o new → LoadsAll q settings list i old o new
  loads_all_as list i old new o j.over = j.over
  loads_all_as list i old new o (j.not_loaded there its) = j.not_loaded there (file_as _ _ _ _ its)
  loads_all_as list i old new o (j.faulty there its kept first) = j.faulty there (file_as _ _ _ _ its) kept first
  loads_all_as list i old new o (j.not_resolved there its kept none asks) = j.not_resolved there (file_as _ _ _ _ its) kept none (requests_as _ _ _ _ _ _ _ asks)
  loads_all_as list i old new o (j.goes_on there its kept none asks more) = j.goes_on there (file_as _ _ _ _ its) kept none (requests_as _ _ _ _ _ _ _ asks) (loads_all_as _ _ _ new o more)
  loads_all_as list i old new o j.LoadsAll.stopped = j.LoadsAll.stopped
  loads_all_as list i old new o (j.stopped_loaded there its) = j.stopped_loaded there (file_as _ _ _ _ its)
  loads_all_as list i old new o (j.stopped_asking there its kept none asks) = j.stopped_asking there (file_as _ _ _ _ its) kept none (requests_as _ _ _ _ _ _ _ asks)

-- ---- asking

-- Numbers.

-- a file has its number, gets the next, or there is none left
pub id_judged : (c d : Kept) (file : Name) (result : Result ℕ Error)
    → IfOk result (λ n. number_in d file ≡ Some n) → (Contains c.names file → d.names ≡ c.names) → OnOk result ((Contains c.names file → ⊥) → d.names ≡ c.names ++ file ∷ []) → OnErr result (d.names ≡ c.names)
    → d.trees ≡ c.trees → d.resolved ≡ c.resolved → length d.names ≤ 2147483647 → IfErr result (IsRefusal d.names file) → OnErr result (Contains d.names file → ⊥)
    → Tells result (λ outcome. Numbers c file outcome d)
id_judged c d file (Ok n) number known added unchanged trees resolved bounded refused absent =
    elim (kept_or_added c.names d.names file known added) [
      | inl same ↦ (let is : d ≡ c = kept_same c d same trees resolved in subst (λ x. Numbers c file GoesOn x) (sym is) (j.known (subst (λ x. number_in x file ≡ Some n) is number)))
      | inr more ↦ (let is : d ≡ with_names c (c.names ++ file ∷ []) = kept_same (with_names c (c.names ++ file ∷ [])) d more.1 trees resolved in
          subst (λ x. Numbers c file GoesOn x) (sym is) (j.next more.0 (numbers_left c d file more.1 bounded)))
    ]
id_judged c d file (Err TheVariants.OutOfMemory) number known added unchanged trees resolved bounded refused absent = tt
id_judged c d file (Err (TheVariants.ContextsUsedUp its)) number known added unchanged trees resolved bounded refused absent =
    let is : d ≡ c = kept_same c d unchanged trees resolved in
    let none : number_in c file ≡ None = absent_nowhere c.names file (subst (λ (names : List Name). Contains names file → ⊥) unchanged absent) in
    let count : length c.names ≡ 2147483647 = ap length (sym unchanged) ∙ refused.0 in
    let used : NumbersUsedUp c = omega (arith, count) in
    subst (λ (name : Name). Numbers c file (Refused (ContextsUsedUp name)) d) (sym refused.1) (subst (λ x. Numbers c file (Refused (ContextsUsedUp file)) x) (sym is) (j.none none used))
id_judged c d file (Err _) number known added unchanged trees resolved bounded refused absent = absurd refused

-- What is found.

cond_same : {X : Type 0} (b : Bool) (x y : X) (o : Option X) → b ≡ false → o ≡ Some y → cond b (Some x) o ≡ Some y
cond_same true x y o none is = cc
cond_same false x y o none is = is

none_first : {X : Type 0} (b : Bool) (x : X) (o : Option X) → cond b (Some x) o ≡ None → (b ≡ false) × (o ≡ None)
none_first true x o is = cc
none_first false x o is = (refl, is)

-- what goes last is found, if it was not there
last_found : {K X : Type 0} (test : K → Bool) (xs : List (K × X)) (k : K) (v : X) → lookup test xs ≡ None → test k ≡ true → lookup test (xs ++ (k, v) ∷ []) ≡ Some v
last_found test [] k v none is = ap (λ (b : Bool). cond b (Some v) None) is
last_found test (entry ∷ xs) k v none is =
    let parts = none_first (test entry.0) entry.1 (lookup test xs) none in
    cond_same (test entry.0) entry.1 v _ parts.0 (last_found test xs k v parts.1 is)

-- Loading.

module _ (may_load : Name → ModuleData → Type 0) (may_fail_load : Name → Type 0) (may_resolve : Name → List ℕ → Name → Type 0) (may_fail_resolve : Name → List ℕ → Type 0) (may_give : Name → Bool → List (KeyValueProp Expr) → Type 0) (may_fail_hook : Name → Bool → Type 0) where
  abbrev parties : Parties
  parties = parties_of may_load may_fail_load may_resolve may_fail_resolve may_give may_fail_hook

  module _ (settings : Settings) where
    -- a file that is kept
    pub load_kept : (c : Kept) (n : Name) → IsKept c n → Loads parties settings c n GoesOn c
    load_kept c n kept = j.kept (found (kept_module c n) kept).1

    -- there is no room
    pub load_full : (c : Kept) (n : Name) (file : FileName) → kept_module c n ≡ None → settings.most_modules ≤ length c.trees → name_of file ≡ n
        → Loads parties settings c n (Refused (TooManyModules (name_of file))) c
    load_full c n file none full named =
        subst (λ (m : Name). Loads parties settings c n (Refused (TooManyModules m)) c) (sym named) (j.no_room none full)

    -- the loader is asked
    pub load_judged : {T : Type 0} (c r d : Kept) (n : Name) (file : FileName) (loaded : Result ModuleData LoadError) (result : Result T Error)
        → kept_module c n ≡ None → length c.trees < settings.most_modules → name_of file ≡ n → r ≡ c → IfOk loaded (λ tree. may_load n tree) → (loaded ≡ Err LoadFailed → may_fail_load n)
        → IfOk loaded (λ tree. IsOk result × (d ≡ with_trees r (r.trees ++ (name_of file, kept_as tree) ∷ [])))
        → IfErr loaded (λ e. (result ≡ Err (load_refusal file e)) × (d ≡ r))
        → Tells result (λ outcome. Loads parties settings c n outcome d)
    load_judged c r d n file (Ok tree) result none room named same may fails given refused =
        let now : Kept = with_trees c (c.trees ++ (n, kept_as tree) ∷ []) in
        let is : d ≡ now = given.1 ∙ ap (λ (x : Kept). with_trees x (x.trees ++ (name_of file, kept_as tree) ∷ [])) same ∙ ap (λ (m : Name). with_trees c (c.trees ++ (m, kept_as tree) ∷ [])) named in
        tells_ok result _ given.0 (subst (λ x. Loads parties settings c n GoesOn x) (sym is) (j.loaded (handed_in tree) none room (record { given = tree; may = may; is = refl })))
    load_judged c r d n file (Err LoadFailed) result none room named same may fails given refused =
        let is : d ≡ c = refused.1 ∙ same in
        tells_err result (load_refusal file LoadFailed) (λ outcome. Loads parties settings c n outcome d) refused.0
        (subst (λ x. Loads parties settings c n (Refused (LoadFails (name_of file))) x) (sym is)
        (subst (λ (m : Name). Loads parties settings c n (Refused (LoadFails m)) c) (sym named) (j.fails none room (fails refl))))
    load_judged c r d n file (Err LoadNoMemory) result none room named same may fails given refused = tells_err result TheVariants.OutOfMemory _ refused.0 tt

  -- Resolving.

  -- a pair that is kept
  pub resolve_kept : (c : Kept) (asked : Asked) (file : Name) → kept_file c asked ≡ Some file → Resolves parties c asked (Some file) c
  resolve_kept c asked file is = j.kept is

  -- the resolver is asked, and leads to a file
  pub resolve_judged : {T : Type 0} (c r d : Kept) (asked : Asked) (bytes : List ℕ) (request : Request) (answer : Result FileName ResolveError) (result : Result T Error)
      → kept_file c asked ≡ None → asked_of request ≡ asked → r ≡ c → bytes ≡ asked.specifier → IfOk answer (λ file. may_resolve asked.file bytes (name_of file))
      → IfOk answer (λ file. IsOk result × (d ≡ with_resolved r (r.resolved ++ (asked_of request, name_of file) ∷ [])))
      → IfErr answer (λ e. (result ≡ Err (resolve_refusal request e)) × (d ≡ r))
      → OnOk result ((file : Name) → kept_file d asked ≡ Some file → Resolves parties c asked (Some file) d)
  resolve_judged c r d asked bytes request (Ok target) result none said same spelled may given refused =
      let now : Kept = with_resolved c (c.resolved ++ (asked, name_of target) ∷ []) in
      let is : d ≡ now = given.1 ∙ ap (λ (x : Kept). with_resolved x (x.resolved ++ (asked_of request, name_of target) ∷ [])) same ∙ ap (λ (a : Asked). with_resolved c (c.resolved ++ (a, name_of target) ∷ [])) said in
      let its : kept_file now asked ≡ Some (name_of target) = last_found (asked_eq asked) c.resolved asked (name_of target) none (asked_eq-refl asked) in
      holds result _ (λ file at.
      let same_file : name_of target ≡ file = same_Some (name_of target) file (sym its ∙ ap (λ (x : Kept). kept_file x asked) (sym is) ∙ at) in
      subst (λ (x : Kept). Resolves parties c asked (Some file) x) (sym is)
      (subst (λ (f : Name). Resolves parties c asked (Some f) now) same_file (j.resolved (name_of target) none (subst (λ (b : List ℕ). may_resolve asked.file b (name_of target)) spelled may))))
  resolve_judged c r d asked bytes request (Err x) result none said same spelled may given refused = refused_owes result (resolve_refusal request x) _ refused.0

  -- the resolver is asked, and fails
  pub resolve_failed : {T : Type 0} (c r d : Kept) (asked : Asked) (bytes : List ℕ) (request : Request) (answer : Result FileName ResolveError) (result : Result T Error)
      → kept_file c asked ≡ None → asked_of request ≡ asked → r ≡ c → bytes ≡ asked.specifier → (answer ≡ Err ResolveFailed → may_fail_resolve asked.file bytes)
      → IfOk answer (λ file. IsOk result × (d ≡ with_resolved r (r.resolved ++ (asked_of request, name_of file) ∷ [])))
      → IfErr answer (λ e. (result ≡ Err (resolve_refusal request e)) × (d ≡ r))
      → IfErr result (λ refusal. IfSome (fault_of refusal) (λ fault. (fault ≡ ResolveFails asked.file asked.specifier) × Resolves parties c asked None d))
  resolve_failed c r d asked bytes request (Ok target) result none said same spelled fails given refused = no_err result _ given.0
  resolve_failed c r d asked bytes request (Err ResolveFailed) result none said same spelled fails given refused =
      let is : d ≡ c = refused.1 ∙ same in
      let told : Resolves parties c asked None d = subst (λ (x : Kept). Resolves parties c asked None x) (sym is) (j.fails none (subst (may_fail_resolve asked.file) spelled (fails refl))) in
      let fault : ResolveFails (name_of request.file) (string_bytes request.specifier) ≡ ResolveFails asked.file asked.specifier = ap (λ (a : Asked). ResolveFails a.file a.specifier) said in
      subst (λ x. IfErr x (λ refusal. IfSome (fault_of refusal) (λ fault. (fault ≡ ResolveFails asked.file asked.specifier) × Resolves parties c asked None d))) (sym refused.0) (fault, told)
  resolve_failed c r d asked bytes request (Err ResolveNoMemory) result none said same spelled fails given refused =
      subst (λ x. IfErr x (λ refusal. IfSome (fault_of refusal) (λ fault. (fault ≡ ResolveFails asked.file asked.specifier) × Resolves parties c asked None d))) (sym refused.0) tt

-- ---- placing

-- a file that stands on the list was met
met_listed : (c : Kept) (list : List Name) (file : Name) → AreMet c list → Contains list file → IsFileMet c file
met_listed c list file met there = let at = place-Contains list file there in met at.0 file at.1

module _ (parties : Parties) (file : Name) (text : Text) (request : Request) (of_file : name_of request.file ≡ file) (of_text : string_bytes request.specifier ≡ text) where
  same_pair : asked_of request ≡ ask file text
  same_pair = asked_same _ _ _ _ of_file of_text

  -- the resolver fails
  pub ask_failed : (old new : Kept) (list : List Name) (f : Fault) → (f ≡ ResolveFails (name_of request.file) (string_bytes request.specifier)) × Resolves parties old (asked_of request) None new → Asks parties file (text ∷ []) old list (Refused f) new list
  ask_failed old new list f (is, its) =
      let fails : Asks parties file (text ∷ []) old list (Refused (ResolveFails file text)) new list = j.fails (subst (λ a. Resolves parties old a None new) same_pair its) in
      subst (λ x. Asks parties file (text ∷ []) old list (Refused x) new list) (sym (is ∙ ap (λ (a : Asked). ResolveFails a.file a.specifier) same_pair)) fails

  -- a growth is refused, and nothing is another
  pub ask_stopped : (old new : Kept) (list : List Name) → new ≡ old → Asks parties file (text ∷ []) old list Stopped new list
  ask_stopped old new list same = subst (λ x. Asks parties file (text ∷ []) old list Stopped x list) (sym same) j.Asks.stopped

  -- a growth is refused once the pair is kept
  pub ask_resolved : (old mid new : Kept) (list : List Name) (found : Name) → Resolves parties old (asked_of request) (Some found) mid → new ≡ mid → Asks parties file (text ∷ []) old list Stopped new list
  ask_resolved old mid new list found its same =
      subst (λ x. Asks parties file (text ∷ []) old list Stopped x list) (sym same) (j.stopped_resolved (subst (λ a. Resolves parties old a (Some found) mid) same_pair its))

  -- a growth is refused once the file has its number, before it has a place on the list
  pub ask_unplaced : (old mid new : Kept) (list longer : List Name) (found : Name) → Resolves parties old (asked_of request) (Some found) mid → (Contains list found → ⊥) → Numbers mid found GoesOn new → longer ≡ list → Asks parties file (text ∷ []) old list Stopped new longer
  ask_unplaced old mid new list longer found its fresh number same =
      subst (λ l. Asks parties file (text ∷ []) old list Stopped new l) (sym same) (j.stopped_numbered (subst (λ a. Resolves parties old a (Some found) mid) same_pair its) fresh number)

  -- no number is left for the file
  pub ask_used_up : (old mid new : Kept) (list : List Name) (found : Name) (f : Fault) → Resolves parties old (asked_of request) (Some found) mid → AreMet mid list → (IsFileMet mid found → ⊥) → Numbers mid found (Refused f) new → Asks parties file (text ∷ []) old list (Refused f) new list
  ask_used_up old mid new list found f its met absent number =
      j.used_up (subst (λ a. Resolves parties old a (Some found) mid) same_pair its) (λ there. absent (met_listed mid list found met there)) number

  -- the file has its place
  pub ask_placed : (old mid new : Kept) (list longer : List Name) (found : Name) → Resolves parties old (asked_of request) (Some found) mid → AreMet mid list → (IsFileMet mid found → new ≡ mid) → Numbers mid found GoesOn new → GoesLast list found longer → Asks parties file (text ∷ []) old list GoesOn new longer
  ask_placed old mid new list longer found its met known number (inl (there, same)) =
      let pair : Resolves parties old (ask file text) (Some found) mid = subst (λ a. Resolves parties old a (Some found) mid) same_pair its in
      let listed : Asks parties file (text ∷ []) old list GoesOn mid list = j.listed pair there j.over in
      subst (λ l. Asks parties file (text ∷ []) old list GoesOn new l) (sym same) (subst (λ x. Asks parties file (text ∷ []) old list GoesOn x list) (sym (known (met_listed mid list found met there))) listed)
  ask_placed old mid new list longer found its met known number (inr (fresh, more)) =
      let pair : Resolves parties old (ask file text) (Some found) mid = subst (λ a. Resolves parties old a (Some found) mid) same_pair its in
      let numbered : Asks parties file (text ∷ []) old list GoesOn new (list ++ found ∷ []) = j.numbered pair fresh number j.over in
      subst (λ l. Asks parties file (text ∷ []) old list GoesOn new l) (sym more) numbered

-- One request after the other.

-- what is asked from here on, is asked of the whole
abbrev pub AsksOn : Parties → Name → (texts rest : List Text) → (old now : Kept) → (list longer : List Name) → Type 0
AsksOn parties file texts rest old now list longer =
    (outcome : Outcome) (last : Kept) (all : List Name) → Asks parties file rest now longer outcome last all → Asks parties file texts old list outcome last all

module _ (parties : Parties) (file : Name) where
  pub asks_from_start : (texts rest : List Text) (old : Kept) (list : List Name) → rest ≡ texts → AsksOn parties file texts rest old old list list
  asks_from_start texts rest old list is = λ outcome last all asks. subst (λ x. Asks parties file x old list outcome last all) is asks

  -- one more
  pub asks_next : (texts rest left : List Text) (text : Text) (old now new : Kept) (list longer more : List Name) → rest ≡ text ∷ left → AsksOn parties file texts rest old now list longer → Asks parties file (text ∷ []) now longer GoesOn new more → AsksOn parties file texts left old new list more
  asks_next texts rest left text old now new list longer more is on step = λ outcome last all asks.
      on outcome last all (subst (λ x. Asks parties file x now longer outcome last all) (sym is) (asks_then parties file (text ∷ []) left now new last longer more all GoesOn outcome step refl asks))

  -- a refusal
  pub asks_stop : (texts rest left : List Text) (text : Text) (old now new : Kept) (list longer more : List Name) (o : Outcome) → (o ≡ GoesOn → ⊥) → rest ≡ text ∷ left → AsksOn parties file texts rest old now list longer → Asks parties file (text ∷ []) now longer o new more → Asks parties file texts old list o new more
  asks_stop texts rest left text old now new list longer more o ends is on step =
      on o new more (subst (λ x. Asks parties file x now longer o new more) (sym is) (asks_refused parties file (text ∷ []) left now new longer more o step ends))

  -- the end
  pub asks_end : (texts rest : List Text) (old now : Kept) (list longer : List Name) → rest ≡ [] → AsksOn parties file texts rest old now list longer → Asks parties file texts old list GoesOn now longer
  asks_end texts rest old now list longer is on = on GoesOn now longer (subst (λ x. Asks parties file x now longer GoesOn now longer) (sym is) j.over)

-- What a file requests.

module _ (settings : Settings) where
  -- a request asks what its file requests
  pub requested_as : (kept : Kept) (file : Name) (text : Text) (request : Request) → name_of request.file ≡ file → string_bytes request.specifier ≡ text → IsRequested settings kept (ask file text) → IsRequested settings kept (asked_of request)
  requested_as kept file text request of_file of_text its = subst (IsRequested settings kept) (sym (asked_same _ _ _ _ of_file of_text)) its

  -- the same specifiers
  pub requested_along : (kept : Kept) (file : Name) (texts rest : List Text) → rest ≡ texts → AreRequested settings kept file texts → AreRequested settings kept file rest
  requested_along kept file texts rest same are = subst (AreRequested settings kept file) (sym same) are

  -- the first
  pub requested_first : (kept : Kept) (file : Name) (rest left : List Text) (text : Text) → rest ≡ text ∷ left → AreRequested settings kept file rest → IsRequested settings kept (ask file text)
  requested_first kept file rest left text is are =
      are text (subst (λ xs. Contains xs text) (sym is) (Contains-append_left (text ∷ []) left text (Contains-push [] text)))

  -- and the others, where more is kept
  pub requested_rest : (old new : Kept) → Stays old new → (file : Name) (rest left : List Text) (text : Text) → rest ≡ text ∷ left → AreRequested settings old file rest → AreRequested settings new file left
  requested_rest old new stays file rest left text is are = λ specifier listed.
      still_requested settings old new stays (ask file specifier) (are specifier (subst (λ xs. Contains xs specifier) (sym is) (Contains-append_right (text ∷ []) left specifier listed)))
