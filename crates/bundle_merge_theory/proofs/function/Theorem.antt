-- Theorem of this folder (`function-alone`, `function-made`): the load function that is made for a
-- CommonJS module is right by itself.
-- Used by folders `together`, `undoubled`.
use Rattle.std.proofs.Common.{◌≡◌, inr, Bool, true, false, not, ℕ, Some, Contains, ap, ◌∙◌, refl, if◌then◌else◌, arith, filter, List, ◌∷◌, zero, Option, map, sym, subst, codes}
use Rattle.std.specs.Prelude.{IsTrue, None, [], fold}
use Rattle.std.proofs.lemmas.List.Elements.{Contains-append_right}
use Rattle.std.specs.List.{AllZip, AllByRecursion}
use Rattle.bundle_tree_names.specs.FileName.{Name as FileName, real}
use Rattle.bundle_order_graph.specs.Walks.{itself, along}
use Rattle.bundle_order_graph.proofs.WalkLemmas.{Reaches-trans}
use Rattle.bundle_syntax.specs.Item.{Item}
use Rattle.bundle_rules.specs.Nodes.{has_text, flat, parts}
use Rattle.bundle_rules.specs.Entries.{RequireCall, requests_of, is_script, require_calls}
use Rattle.bundle_rules.specs.Bound.{is_free}
use Rattle.bundle_rules.specs.Program.{Program, tree_of, resolves, calls_of, Requests, IsReached}
use Rattle.bundle_rules.specs.Linking.{IsCommonJs}
use Rattle.bundle_rules.specs.Faults.{required_entry, required_es_module}
use Rattle.bundle_rules.specs.Tables.{IsChecked}
use Rattle.bundle_rules.specs.Idents.{Ident, ident_of}
use Rattle.bundle_rules.specs.Injected.{load_front}
use Rattle.bundle_rules.specs.Statements.{no_notes, Element, own_statements}
use Rattle.bundle_rules.specs.Places.{Spot, past, occurrences_from}
use Rattle.bundle_rules.specs.Scopes.{Cjs, ModuleKind, Top}
use Rattle.bundle_rules.specs.Declarations.{Declared, BySymbol, ByContext, name_of, declared}
use Rattle.bundle_rules.specs.Doubled.{first_doubled}
use Rattle.bundle_rules.specs.Parts.{tree_of_items}
use Rattle.bundle_rules.specs.Meaning.{Meant, OwnMeaning, Label, Load, Helper, HasKind, is_common_js}
use Rattle.bundle_rules.specs.Denotes.{Denoted, is_written_in}
use Rattle.bundle_rules.specs.Symbols.{denoted_symbol}
use Rattle.bundle_rules.specs.Bundle as b
use Rattle.bundle_rules.specs.Bundle.{Defines, Hooks, AsModule, IsDue}
use Rattle.bundle_scope_names.proofs.Numbering.{Numbering}
use Rattle.bundle_merge_injected.specs.Listed as l
use Rattle.bundle_link_index.proofs.AskedLemmas.{none_there as none-there}
use Rattle.bundle_link_index.proofs.ProgramLemmas.{map_on, filter_map_on as some_on, once_on as texts-on}
use Rattle.bundle_scope_names.specs.fit.Sorts.{AnItem, AStmt, Many, slot}
use Rattle.bundle_scope_names.specs.fit.Fits.{AreFit, no_more, over, a_name, a_node, IsFit, node, name}
use Rattle.bundle_merge_theory.specs.loaded.Item.{front_items, load_item, module_start, body_start}
use Rattle.bundle_merge_theory.specs.walked.Names.{idents_among}
use Rattle.bundle_merge_theory.specs.walked.Renaming.{ItemMeaning, HasMarks, HasNoLoneName}
use Rattle.bundle_merge_theory.specs.joined.Joined.{AllOf, own_declared}
use Rattle.bundle_merge_theory.specs.joined.Picked.{IsSingle}
use Rattle.bundle_merge_theory.specs.loaded.Turned.{Turned, over as over_statements, skipped}
use Rattle.bundle_merge_theory.specs.loaded.Loaded.{module_declared, IsLoadedItem}
use Rattle.bundle_merge_theory.specs.loaded.Pieces.{inner_there}
use Rattle.bundle_merge_theory.proofs.loaded.Pieces.{IsPart, first-part, next-part, whole-part}
use Rattle.bundle_merge_theory.proofs.walked.NameLemmas.{idents_from}
use Rattle.bundle_merge_theory.specs.noted.Nodes.{AreNodesInTurn}
use Rattle.bundle_merge_theory.proofs.loaded.Noted.{item-named}
use Rattle.bundle_merge_theory.proofs.noted.Listing.{listed_nodes}
use Rattle.bundle_merge_theory.proofs.planned.OrderLemmas.{numbers-on}
use Rattle.bundle_merge_theory.specs.composed.Noted.{HasPlainMarks, NotedItem, AsFunction, as_function}
use Rattle.bundle_merge_theory.specs.composed.Functions.{load_function_items, function_names, IsOfForm, function_form}
use Rattle.bundle_merge_theory.proofs.composed.Counting.{nodes_in}
use Rattle.bundle_merge_theory.proofs.composed.Naming.{node-count}
use Rattle.bundle_merge_theory.proofs.fit.Clearing.{beside}
use Rattle.bundle_merge_theory.proofs.fit.Facts.{fit_nodes, one_listed}
use Rattle.bundle_merge_theory.specs.made.Given.{HookAnswer, BundleContexts, numbers_in, TopOf, ident_of_label}
use Rattle.bundle_merge_theory.specs.made.Alone as a
use Rattle.bundle_merge_theory.specs.made.Alone.{TellApart, StatementsAlone, StatementsCalled, AreTreesSound, IsItemAlone, DeclaresLabel}
use Rattle.bundle_merge_theory.specs.function.Calls.{IsLoadName}
use Rattle.bundle_merge_theory.specs.function.Pieces.{AllNamed, Laid, all_laid, passed, laid}
use Rattle.bundle_merge_theory.proofs.function.Statement.{laid_turned, all_fit, loaded}
use Rattle.bundle_merge_theory.proofs.function.Strange.{AreStrange, load-listed}
use Rattle.bundle_merge_theory.proofs.function.Naming.{statement-alone, statement-symbols}
use Rattle.bundle_merge_theory.specs.made.Made
use Rattle.bundle_merge_theory.specs.made.Made.{IsStatedAs, IsMade}
use Rattle.bundle_merge_theory.specs.made.Told.{IsStatementTold}
use Rattle.bundle_merge_theory.proofs.function.Parts.{IsOwnPart, IsOwnModule, own_module}
use Rattle.bundle_merge_theory.proofs.function.Given.{all_pieces, load_declares, declares_just}
use Rattle.bundle_merge_theory.proofs.function.Front.{resolved-inside, are_strange, front-alone}

-- ---- called
module _ (p : Program) (checked : IsChecked p None) where
  call_settings : (m : ℕ) (call : RequireCall) → Contains (calls_of p m) call →
      IsTrue p.settings.require
  call_settings m call c = by p.settings.require refl c
    where
      by : (t : Bool) → p.settings.require ≡ t →
          Contains
          (if t then filter (λ (k : RequireCall). not (has_text k.specifier p.settings.external))
          (require_calls (is_free (tree_of p m)) (tree_of p m)) else [])
          call →
          p.settings.require ≡ true
      by true e c = e
      by false e c = none-there call c

  call_requests : (m c : ℕ) (call : RequireCall) → Contains (calls_of p m) call →
      resolves p m call.specifier ≡ Some c → Requests p m c
  call_requests m c call there leads =
      numbers-on _ c
      (some_on (resolves p m) (requests_of p.settings (is_free (tree_of p m))
      (tree_of p m)) call.specifier c
      (texts-on _ call.specifier
      (Contains-append_right _ _ call.specifier
      (map_on (λ (k : RequireCall). k.specifier) (calls_of p m) call there)))
      leads)

  pub call_given : (m c : ℕ) (call : RequireCall) → IsReached p m → Contains (calls_of p m) call →
      resolves p m call.specifier ≡ Some c → IsReached p c × IsCommonJs p c
  call_given m c call reached there leads = (
    Reaches-trans reached (along (call_requests m c call there leads) itself),
    record {
      linked = call_settings m call there;
      other =
          λ e. checked m 0 call.place file _ (λ k. omega (arith, k)) reached
          (required_entry call there (leads ∙ ap (λ n. Some n) e));
      script = by (is_script (tree_of p c)) refl;
      used = inr (m, reached, record { call = call; stands = there; resolved = leads });
    },
  )
    where
      file : FileName
      file = real []

      by : (t : Bool) → is_script (tree_of p c) ≡ t → is_script (tree_of p c) ≡ true
      by true e = e
      by false e =
          absurd
          (checked m 1 call.place file _ (λ k. omega (arith, k)) reached
          (required_es_module call there leads e))

-- ---- form

-- what stands in front has these marks
pub front_marks : (c : ℕ) (load helper m e : Ident) →
    HasPlainMarks (front_items load helper m e) (function_names c) (load_front c)
front_marks c load helper m e = record { plain = refl; its = refl; long = refl }

-- it is fit
pub function_fit : (load helper m e : Ident) (body : List Item) →
    AreFit (slot 0 Many AStmt ∷ []) body →
    IsFit AnItem 0 (load_function_items no_notes load helper m e body)
function_fit load helper m e body fit =
    node refl
    (a_node refl
    (a_node refl (a_name refl no_more)
    (a_node refl
    (a_name refl
    (a_node refl
    (a_node refl
    (over refl
    (a_node refl
    (a_node refl (a_node refl (a_name refl no_more) no_more)
    (a_node refl (a_node refl (a_name refl no_more) no_more)
    (over refl (a_node refl fit no_more))))
    no_more))
    no_more)
    (over refl no_more)))
    no_more))
    (over refl no_more))

-- ---- statements
module _ (p : Program) (list : List ℕ) (context : BundleContexts) (c : ℕ) (ds : List Declared) where
  -- what is told of the statements
  abbrev pub laid_tolds : {s : Spot} {parts : List (List Item)} {statements : List (List Element)}
      {bodies : List (List Item)} → Laid p list context c ds s parts statements bodies → List ItemMeaning
  laid_tolds all_laid = []
  laid_tolds (passed rest) = laid_tolds rest
  laid_tolds (laid one rest) = one.told ∷ laid_tolds rest

  pub laid_marked : {s : Spot} {parts : List (List Item)} {statements : List (List Element)}
      {bodies : List (List Item)} (its : Laid p list context c ds s parts statements bodies) →
      AllZip HasMarks bodies (laid_tolds its)
  laid_marked all_laid = tt
  laid_marked (passed rest) = laid_marked rest
  laid_marked (laid one rest) = (one.marked, laid_marked rest)

  pub laid_means : {s : Spot} {parts : List (List Item)} {statements : List (List Element)}
      {bodies : List (List Item)} (its : Laid p list context c ds s parts statements bodies) →
      AllZip (λ (told : ItemMeaning) statement. OwnMeaning p c statement told.1) (laid_tolds its)
      statements
  laid_means all_laid = tt
  laid_means (passed rest) = laid_means rest
  laid_means (laid one rest) = (one.means, laid_means rest)

  pub laid_lone : {s : Spot} {parts : List (List Item)} {statements : List (List Element)}
      {bodies : List (List Item)} → Laid p list context c ds s parts statements bodies →
      AllOf HasNoLoneName bodies
  laid_lone all_laid = tt
  laid_lone (passed rest) = laid_lone rest
  laid_lone (laid one rest) = (one.lone, laid_lone rest)

  pub laid_bodies : {s : Spot} {parts : List (List Item)} {statements : List (List Element)}
      {bodies : List (List Item)} → Laid p list context c ds s parts statements bodies →
      AllByRecursion (IsFit AStmt 0) bodies
  laid_bodies all_laid = tt
  laid_bodies (passed rest) = laid_bodies rest
  laid_bodies (laid one rest) = (one.fit, laid_bodies rest)

-- each is one node
one_count : {items : List Item} → IsFit AStmt 0 items → nodes_in 0 items ≡ 1
one_count (name it) = refl
one_count (node {head = head} {inside = inside} it in_it) =
    node-count 0 head inside (fit_nodes in_it)

pub all_counts : (bodies : List (List Item)) → AllByRecursion (IsFit AStmt 0) bodies →
    AllOf (λ part. nodes_in 0 part ≡ 1) bodies
all_counts [] fits = tt
all_counts (body ∷ bodies) fits = (one_count fits.0, all_counts bodies fits.1)

pub all_single : (bodies : List (List Item)) → AllByRecursion (IsFit AStmt 0) bodies →
    AllOf IsSingle bodies
all_single [] fits = tt
all_single (body ∷ bodies) fits = (beside fits.0, all_single bodies fits.1)

-- THE STATEMENTS
module _ (p : Program) (list : List ℕ) (context : BundleContexts) (answers : ℕ → Option HookAnswer)
    (apart : TellApart p answers context) (c : ℕ) (reached : IsReached p c)
    (common : IsCommonJs p c) {xs ys : List Item} (tree_is : tree_of p c ≡ tree_of_items xs)
    (w : Turned (IsLoadName p list context) zero xs ys) (load helper m e : Ident)
    (its : IsLoadedItem (numbers_in context c) w load m e)
    (known : AreStrange w (numbers_in context c) load helper m e its)
    (undoubled : first_doubled Cjs (tree_of_items xs) ≡ None) where
  abbrev pub ds : List Declared
  ds = module_declared xs

  abbrev item : List Item
  item = load_item load helper m e ys

  at_body : (inner : List Denoted) (s t : Spot) (x made : List Item) (meants : List Meant) →
      AllNamed p list context c ds inner (occurrences_from s x) (idents_among made) meants →
      AllNamed p list context c ds inner (occurrences_from s x)
      (map ident_of (occurrences_from t made)) meants
  at_body inner s t x made meants named =
      subst (λ names. AllNamed p list context c ds inner (occurrences_from s x) names meants)
      (sym (idents_from t made)) named

  pub laid_alone : {s : Spot} {parts : List (List Item)} {statements : List (List Element)}
      {bodies : List (List Item)} (those : Laid p list context c ds s parts statements bodies)
      (t : Spot) → IsPart w (numbers_in context c) (laid_turned p list context c ds those) s t →
      StatementsAlone p list context answers (Defines c) item t bodies
      (laid_tolds p list context c ds those)
  laid_alone all_laid t part = tt
  laid_alone {s = s} (passed rest) t part =
      laid_alone rest t
      (next-part w (numbers_in context c) (skipped over_statements) (laid_turned p list context c ds rest) s t
      part)
  laid_alone {s = s} (laid {x = x} {made = made} one rest) t part = (
    statement-alone p list context answers apart c reached common tree_is w load helper m e its
        known undoubled one.turned s t
        (first-part w (numbers_in context c) one.turned (laid_turned p list context c ds rest) s t
        part)
        one.told.0 (at_body (inner_there ds s x) s t x made one.told.0 one.each),
    laid_alone rest (fold past t made)
        (next-part w (numbers_in context c) one.turned (laid_turned p list context c ds rest) s t
        part),
  )

  pub laid_called : {s : Spot} {parts : List (List Item)} {statements : List (List Element)}
      {bodies : List (List Item)} (those : Laid p list context c ds s parts statements bodies)
      (t : Spot) → IsPart w (numbers_in context c) (laid_turned p list context c ds those) s t →
      StatementsCalled p c item t bodies (laid_tolds p list context c ds those) statements
  laid_called all_laid t part = tt
  laid_called {s = s} (passed rest) t part =
      laid_called rest t
      (next-part w (numbers_in context c) (skipped over_statements) (laid_turned p list context c ds rest) s t
      part)
  laid_called {s = s} (laid {x = x} {made = made} one rest) t part = (
    statement-symbols p list context answers apart c reached common tree_is w load helper m e its
        known undoubled one.turned s t
        (first-part w (numbers_in context c) one.turned (laid_turned p list context c ds rest) s t
        part)
        one.told.0 (at_body (inner_there ds s x) s t x made one.told.0 one.each)
        ∙ ap (map denoted_symbol) (sym one.called),
    laid_called rest (fold past t made)
        (next-part w (numbers_in context c) one.turned (laid_turned p list context c ds rest) s t
        part),
  )

-- ---- function
module _ (p : Program) (hooks : Hooks) (list : List ℕ) (context : BundleContexts)
    (answers : ℕ → Option HookAnswer) (apart : TellApart p answers context) (c : ℕ)
    (reached : IsReached p c) (common : IsCommonJs p c) where
  -- where the statements of the module are laid out
  laid-function : (pieces : List (List Item)) → AllByRecursion IsOwnPart pieces →
      (tree_is : tree_of p c ≡ tree_of_items (flat pieces)) →
      first_doubled Cjs (tree_of_items (flat pieces)) ≡ None → {bodies : List (List Item)}
      (those : Laid p list context c (module_declared (flat pieces)) module_start pieces
      (own_statements (tree_of p c)) bodies) →
      IsItemAlone p hooks list context answers (Defines c)
      (load_item (ident_of_label p list context (Load c)) (ident_of_label p list context Helper)
      (codes "module", context (TopOf c)) (codes "exports", context (TopOf c)) (flat bodies))
  laid-function pieces own tree_is undoubled {bodies = bodies} those = record {
    noted = noted;
    stands =
        as_function nodes refl
        (front_marks c its_load its_helper its_module its_exports)
        (record {
          single = all_single bodies fits;
          marked = laid_marked p list context c ds those;
          means = laid_means p list context c ds those;
        });
    names = (
      front-alone p list context answers apart c reached common tree_is w its,
      laid_alone p list context answers apart c reached common tree_is w its_load its_helper
          its_module
          its_exports its known undoubled those body_start whole,
    );
    called =
        laid_called p list context answers apart c reached common tree_is w its_load its_helper
        its_module its_exports its known undoubled those body_start whole;
    form =
        subst (λ it. IsOfForm it noted) same
        (function_form no_notes its_load its_helper its_module its_exports
        (laid_marked p list context c ds those));
    one = all_counts bodies fits;
    lone = laid_lone p list context c ds those;
    named = item-named w g its_load its_helper its_module its_exports its;
    single = beside fit;
    fit = fit;
    inner = λ a b la lb is also.
        (resolved-inside w g its_load its_helper its_module its_exports its known).same a b la lb
        is.is;
    declares = declares;
    declared =
        λ x n is. (
          Load c,
          a.adds a.defines,
          declares_just w g its_load its_helper its_module its_exports its x n is,
        );
  }
    where
      ds : List Declared
      ds = module_declared (flat pieces)

      g : Numbering
      g = numbers_in context c

      its_load : Ident
      its_load = ident_of_label p list context (Load c)

      its_helper : Ident
      its_helper = ident_of_label p list context Helper

      its_module : Ident
      its_module = (codes "module", context (TopOf c))

      its_exports : Ident
      its_exports = (codes "exports", context (TopOf c))

      item : List Item
      item = load_item its_load its_helper its_module its_exports (flat bodies)

      w : Turned (IsLoadName p list context) zero (flat pieces) (flat bodies)
      w = laid_turned p list context c ds those

      its : IsLoadedItem g w its_load its_module its_exports
      its = loaded p list context answers apart c reached common pieces own tree_is undoubled those

      known : AreStrange w g its_load its_helper its_module its_exports its
      known = are_strange p list context answers apart c reached common tree_is w its

      whole : IsPart w g w module_start body_start
      whole = whole-part w g its_load its_module its_exports its

      noted : NotedItem
      noted =
          AsFunction (front_items its_load its_helper its_module its_exports) (function_names c)
          bodies (laid_tolds p list context c ds those)

      fits : AllByRecursion (IsFit AStmt 0) bodies
      fits = laid_bodies p list context c ds those

      same : load_function_items no_notes its_load its_helper its_module its_exports (flat bodies) ≡ item
      same = load-listed its_load its_helper its_module its_exports (flat bodies)

      fit : IsFit AnItem 0 item
      fit =
          subst (IsFit AnItem 0) same
          (function_fit its_load its_helper its_module its_exports (flat bodies)
          (all_fit bodies fits))

      nodes : AreNodesInTurn item
      nodes = listed_nodes (one_listed fit)

      declares : (l : Label) → DeclaresLabel p (Defines c) l →
          is_written_in (own_declared item) Top
          (name_of ByContext (ident_of_label p list context l).0
          (ident_of_label p list context l).1)
          ≡ true
      declares l (a.adds a.defines) =
          load_declares w g its_load its_helper its_module its_exports its

-- THE LOAD FUNCTION
pub function-alone : (p : Program) (hooks : Hooks) (list : List ℕ) (context : BundleContexts)
    (answers : ℕ → Option HookAnswer) (c : ℕ) → AreTreesSound p list → TellApart p answers context →
    IsDue p AsModule (Defines c) → (bodies : List (List Item)) →
    AllZip (λ statement made. IsStatedAs p list context c Cjs statement made)
    (own_statements (tree_of p c)) bodies →
    ((statement : List Element) (made : List Item) →
    Contains (own_statements (tree_of p c)) statement →
    (its : IsStatedAs p list context c Cjs statement made) →
    IsStatementTold p list context c Cjs statement made its) →
    (item : List Item) →
    item ≡ l.load_function (ident_of_label p list context (Load c))
    (ident_of_label p list context Helper) (codes "module", context (TopOf c))
    (codes "exports", context (TopOf c)) (flat bodies) →
    IsItemAlone p hooks list context answers (Defines c) item
function-alone p hooks list context answers c sound apart
    (b.defines reached common) bodies stated told item is =
    let own : IsOwnModule (tree_of p c) =
    own_module (tree_of p c) (sound.fit.each c reached) common.script in
    let undoubled : first_doubled Cjs (tree_of_items (flat (parts (tree_of p c)))) ≡ None =
    ap (first_doubled Cjs) (sym own.is) ∙ sound.undoubled c Cjs reached (is_common_js common) in
    subst (IsItemAlone p hooks list context answers (Defines c))
    (sym
    (is
    ∙ load-listed (ident_of_label p list context (Load c)) (ident_of_label p list context Helper)
    (codes "module", context (TopOf c)) (codes "exports", context (TopOf c)) (flat bodies)))
    (laid-function p hooks list context answers apart c reached common (parts
    (tree_of p c)) own.each own.is undoubled
    (subst
    (λ t.
    Laid p list context c (declared BySymbol Cjs t) module_start (parts (tree_of p c))
    (own_statements (tree_of p c)) bodies)
    own.is
    (all_pieces p list context c reached common
    (λ o d called. call_given p sound.checked c d called.call reached called.linked called.leads)
    own bodies stated told)))

-- AS IT IS MADE: where it is told of each statement of a module what its names mean
pub function-made : (p : Program) (hooks : Hooks) (list : List ℕ) (context : BundleContexts)
    (answers : ℕ → Option HookAnswer) (c : ℕ) (item : List Item) → AreTreesSound p list →
    TellApart p answers context → IsDue p AsModule (Defines c) →
    ((m : ℕ) (kind : ModuleKind) (statement : List Element) (made : List Item) → IsReached p m →
    HasKind p m kind → Contains (own_statements (tree_of p m)) statement →
    (its : IsStatedAs p list context m kind statement made) →
    IsStatementTold p list context m kind statement made its) →
    IsMade p hooks list context answers (Defines c) item →
    IsItemAlone p hooks list context answers (Defines c) item
function-made p hooks list context answers c item sound apart (b.defines reached common) told
    (Made.defines bodies stated is) =
    function-alone p hooks list context answers c sound apart (b.defines reached common) bodies
    stated
    (λ statement body there its. told c Cjs statement body reached (is_common_js common) there its)
    item is
