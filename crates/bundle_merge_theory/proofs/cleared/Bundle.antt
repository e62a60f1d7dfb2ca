-- A bundle of a program is one of each program whose modules are the same once their trees are
-- cleared.
-- What is merged right for a program is so for each program whose modules are the same once their
-- trees are cleared.
use Rattle.std.proofs.Common.{◌≡◌, ◌↔◌, ℕ, zero, suc, ◌+◌, ◌<◌, ◌==◌, List, [], ◌∷◌, ◌++◌, Option, Some, None, Contains, length, map, refl, sym, ap, ◌∙◌, subst}
use Rattle.std.specs.Prelude.{IsTrue, filter, flat_map, option_map, bytes_eq}
use Rattle.std.specs.List.{AllZip}
use Rattle.std.proofs.lemmas.Option.{none-some, same_Some}
use Rattle.std.proofs.lemmas.Slice.Zip.{AllZip-long}
use Rattle.bundle_order_graph.specs.Blocks.{BlocksOf}
use Rattle.bundle_syntax.specs.Item.{Item}
use Rattle.bundle_rules.specs.Bundle as c
use Rattle.bundle_rules.specs.Bundle.{Cause, Own, Helps, Loads, HoldsMeta, HoldsNamespace, Defines, Stars, Exports, Form, IsUsed, AsksCommonJs, IsDue, AreNames, AreLinked, Hooks, Labelled, labelled, SameMeaning, IsLoadFunction, MayHold, AreFaultless, Realises, Pairing, IsPaired, Chosen, nothing, chosen, left, externals, import_causes, counted, module_causes, IsBlockLaidOut, lone, cycle, AreBlocksLaidOut, over, next, IsLaidOut, IsBundle, AsModule}
use Rattle.bundle_rules.specs.Declarations.{Reading, ByContext}
use Rattle.bundle_rules.specs.Entries.{Named, Whole, has_import_meta}
use Rattle.bundle_rules.specs.Injected.{NamedTarget}
use Rattle.bundle_rules.specs.Linking.{CommonJs, External, Target, Declared, Namespace}
use Rattle.bundle_rules.specs.Meaning.{Label, Of, IsMeant, Parameter, Load, Meta, Helper, own_view}
use Rattle.bundle_rules.specs.Nodes.{Text, each_once, side_by_side}
use Rattle.bundle_rules.specs.Program.{Loaded, Program, is_external, tree_of, resolves}
use Rattle.bundle_rules.specs.Statements.{Element, TopItem, own_statements, placed}
use Rattle.bundle_rules.proofs.CallLemmas.{has_import_meta-cleared}
use Rattle.bundle_rules.specs.Merged.{IsMerged}
use Rattle.bundle_rules.specs.Scopes.{ModuleKind, Es, Cjs}
use Rattle.bundle_rules.specs.Symbols.{AreCalled, CalledAlike, denoted_symbol, is_number, symbol_of_label, symbol_of_target, taken_name}
use Rattle.bundle_scope_denote.proofs.ChainLemmas.{AllZip-weaker as zip-map}
use Rattle.bundle_link_targets.proofs.CallPlaceLemmas.{zip-at}
use Rattle.bundle_merge_theory.specs.cleared.Programs.{AreSameCleared, ModulesByNumber, with_modules}
use Rattle.bundle_merge_theory.specs.cleared.Elements.{SameElements}
use Rattle.bundle_merge_theory.proofs.cleared.Trees.{zip-through, turned-elements}
use Rattle.bundle_merge_theory.proofs.cleared.Linking.{turned, same-read, same-asked, same-requested, common-on, common-back, linked-on, is-linked-on, list-on, reached-on, requests-on, shares-on, star-on, same-exports, same-imports}
use Rattle.bundle_merge_theory.proofs.cleared.Meaning.{meant-on, own-meaning-on, statements-on, same-inner}

-- ---- lists
counted-zip : {A B : Type 0} (R : A → B → Type 0) (n : ℕ) (xs : List A) (ys : List B) →
    AllZip R xs ys → counted n xs ≡ counted n ys
counted-zip R n [] [] all = refl
counted-zip R n [] (y ∷ ys) all = absurd all
counted-zip R n (x ∷ xs) [] all = absurd all
counted-zip R n (x ∷ xs) (y ∷ ys) all = ap (λ l. n ∷ l) (counted-zip R (suc n) xs ys all.1)

pub names-on : {P Q : Text → Type 0} {names : List Text} → ((x : Text) → P x ↔ Q x) →
    AreNames P names → AreNames Q names
names-on both are = record {
  ascending = are.ascending;
  all = λ x. (λ there. (both x).0 ((are.all x).0 there), λ has. (are.all x).1 ((both x).1 has));
}

chosen-on : {Has Had : Cause → Type 0} → ((cause : Cause) → Has cause ↔ Had cause) →
    {xs ys : List Cause} → Chosen Has xs ys → Chosen Had xs ys
chosen-on both nothing = nothing
chosen-on both (chosen {x = x} has more) = chosen ((both x).0 has) (chosen-on both more)
chosen-on both (left {x = x} not more) = left (λ had. not ((both x).1 had)) (chosen-on both more)

module _ (p : Program) (f g : ModulesByNumber) (w : AreSameCleared f g) where
  -- the two programs
  abbrev first : Program
  first = with_modules p f

  abbrev second : Program
  second = with_modules p g

  -- ---- what is due
  used-on : (s : Text) → IsUsed first s → IsUsed second s
  used-on s used = record {
    which = used.which;
    reached = reached-on p f g w used.which used.reached;
    asks = subst (λ l. Contains l s) (same-asked p f g w used.which) used.asks;
    external = used.external;
  }

  asks-on : (m n : ℕ) → AsksCommonJs first m n → AsksCommonJs second m n
  asks-on m n asks = record {
    specifier = asks.specifier;
    asks = subst (λ l. Contains l asks.specifier) (same-asked p f g w m) asks.asks;
    resolved = asks.resolved;
    common_js = common-on p f g w n asks.common_js;
  }

  long-on : (m k : ℕ) → k < length (own_statements (tree_of first m)) →
      k < length (own_statements (tree_of second m))
  long-on m k =
      subst (λ n. k < n)
      (sym
      (AllZip-long SameElements (own_statements (tree_of first m))
      (own_statements (tree_of second m)) (statements-on p f g w m)))

  pub due-on : {form : Form} {cause : Cause} → IsDue first form cause → IsDue second form cause
  due-on (c.own {m = m} {k = k} reached es inside) =
      c.own (reached-on p f g w m reached) (λ common. es (common-back p f g w m common))
      (long-on m k inside)
  due-on (c.imports_names {s = s} used means) =
      c.imports_names (used-on s used) (meant-on p f g w means)
  due-on (c.imports_whole {s = s} used means) =
      c.imports_whole (used-on s used) (meant-on p f g w means)
  due-on (c.imports_nothing {s = s} used none not) =
      c.imports_nothing (used-on s used) (λ x means. none x (meant-on p g f (turned w) means))
      (λ means. not (meant-on p g f (turned w) means))
  due-on (c.helps {c = n} reached common) =
      c.helps (reached-on p f g w n reached) (common-on p f g w n common)
  due-on (c.defines {c = n} reached common) =
      c.defines (reached-on p f g w n reached) (common-on p f g w n common)
  due-on (c.loads {m = m} {c = n} reached es asks) =
      c.loads (reached-on p f g w m reached) (λ common. es (common-back p f g w m common))
      (asks-on m n asks)
  due-on (c.holds_meta {m = m} reached has) =
      c.holds_meta (reached-on p f g w m reached)
      (subst IsTrue (same-read p f g w has_import_meta has_import_meta-cleared m) has)
  due-on (c.holds_namespace meant) = c.holds_namespace (meant-on p f g w meant)
  due-on (c.stars star) = c.stars (star-on p f g w star)
  due-on (c.exports {x = x} form links) = c.exports form (is-linked-on p f g w p.entry x links)
  due-on (c.returns form) = c.returns form

  -- ---- what each item stands for
  pub may-hold-on : (hooks : Hooks) (m : ℕ) (properties : List Item) →
      MayHold first hooks m properties → MayHold second hooks m properties
  may-hold-on hooks m properties held = by (g m) refl
    where
      by : (o : Option Loaded) → g m ≡ o → MayHold second hooks m properties
      by None is =
          absurd
          (none-some held.loaded.file_name
          (sym (ap (option_map (λ (l : Loaded). l.file_name)) is)
          ∙ (sym (w.names m) ∙ ap (option_map (λ (l : Loaded). l.file_name)) held.kept)))
      by (Some loaded) is =
          let same : held.loaded.file_name ≡ loaded.file_name =
          same_Some held.loaded.file_name loaded.file_name
          (sym (ap (option_map (λ (l : Loaded). l.file_name)) held.kept)
          ∙ (w.names m ∙ ap (option_map (λ (l : Loaded). l.file_name)) is)) in
          record {
            loaded = loaded;
            kept = is;
            answer = held.answer;
            answered =
                subst (λ file. hooks.may_answer file (m == p.entry) held.answer) same held.answered;
            cleared = held.cleared;
          }

  pub faultless-on : (properties : List Item) → AreFaultless first properties →
      AreFaultless second properties
  faultless-on properties are = record {
    undoubled = are.undoubled;
    no_with = are.no_with;
    no_arguments = are.no_arguments;
  }

  module _ (its : Labelled) where
    same-meaning : (m : ℕ) (item : TopItem) (statement other : List Element) →
        SameMeaning first its m item statement → SameElements statement other →
        SameMeaning second its m item other
    same-meaning m item statement other means same =
        (means.0, own-meaning-on p f g w m statement other same means.0 means.1, means.2)

    pub all-mean : (m : ℕ) (items : List TopItem) →
        AllZip (SameMeaning first its m) items (own_statements (tree_of first m)) →
        AllZip (SameMeaning second its m) items (own_statements (tree_of second m))
    all-mean m items all =
        zip-through (SameMeaning first its m) SameElements (SameMeaning second its m)
        (same-meaning m) items (own_statements (tree_of first m))
        (own_statements (tree_of second m)) all (statements-on p f g w m)

    unfoldable pub function-on : (m : ℕ) (item : TopItem) → IsLoadFunction first its m item →
        IsLoadFunction second its m item
    function-on m item is = record {
      front = is.front;
      inside = is.inside;
      back = is.back;
      is = is.is;
      front_means = is.front_means;
      front_length = is.front_length;
      back_means = is.back_means;
      back_length = is.back_length;
      whole = is.whole;
      statements =
          all-mean m (placed (item.start + length is.front) (side_by_side zero is.inside))
          is.statements;
    }

module _ (p : Program) (f g : ModulesByNumber) (w : AreSameCleared f g) where
  -- the two programs
  abbrev one : Program
  one = with_modules p f

  abbrev two : Program
  two = with_modules p g

  linked-pairs : (m : ℕ) (pairs : List NamedTarget) → AreLinked one m pairs → AreLinked two m pairs
  linked-pairs m pairs are = record {
    ascending = are.ascending;
    all = λ x t. (
      λ there. linked-on p f g w m x t ((are.all x t).0 there),
      λ links. (are.all x t).1 (linked-on p g f (turned w) m x t links),
    );
  }

  pub meant-both : (l : Label) → IsMeant one l ↔ IsMeant two l
  meant-both l = (λ meant. meant-on p f g w meant, λ meant. meant-on p g f (turned w) meant)

  pub due-both : (form : Form) (cause : Cause) → IsDue one form cause ↔ IsDue two form cause
  due-both form cause = (λ due. due-on p f g w due, λ due. due-on p g f (turned w) due)

  module _ (hooks : Hooks) (form : Form) (its : Labelled) where
    pub realises-on : (item : TopItem) (cause : Cause) → Realises one hooks form its item cause →
        Realises two hooks form its item cause
    realises-on item _ (c.own {m = m} {k = i} statement at means) =
        let other =
        zip-at SameElements (own_statements (tree_of one m)) (own_statements (tree_of two m))
        (statements-on p f g w m) i statement at in
        c.own other.0 other.1 (same-meaning p f g w its m item statement other.0 means other.2)
    realises-on item _ (c.imports_names {s = s} names are means) =
        c.imports_names names (names-on (λ x. meant-both (Of (External s (Named x)))) are) means
    realises-on item _ (c.imports_whole means) = c.imports_whole means
    realises-on item _ (c.imports_nothing means) = c.imports_nothing means
    realises-on item _ (c.helps means) = c.helps means
    realises-on item _ (c.defines {c = n} is) = c.defines (function-on p f g w its n item is)
    realises-on item _ (c.loads {m = m} {c = n} whole names are both means) =
        let also = meant-both (Of (CommonJs m n Whole)) in
        c.loads whole names (names-on (λ x. meant-both (Of (CommonJs m n (Named x)))) are)
        (λ is. also.0 (both.0 is), λ meant. both.1 (also.1 meant)) means
    realises-on item _ (c.holds_meta {m = m} properties marks held are means its_marks) =
        c.holds_meta properties marks (may-hold-on p f g w hooks m properties held)
        (faultless-on p f g w properties are) means its_marks
    realises-on item _ (c.holds_namespace {d = d} pairs are means) =
        c.holds_namespace pairs (linked-pairs d pairs are) means
    realises-on item _ (c.stars means) = c.stars means
    realises-on item _ (c.exports pairs is are means) =
        c.exports pairs is (linked-pairs p.entry pairs are) means
    realises-on item _ (c.returns pairs is are means) =
        c.returns pairs is (linked-pairs p.entry pairs are) means

  module _ (hooks : Hooks) (form : Form) (reading : Reading) (tree : List Item)
      (pairing : Pairing) where
    pub paired-on : IsPaired one hooks form reading tree pairing →
        IsPaired two hooks form reading tree pairing
    paired-on its = record {
      labels = its.labels;
      body = its.body;
      realised =
          zip-map (Realises one hooks form (labelled tree reading pairing))
          (Realises two hooks form (labelled tree reading pairing))
          (realises-on hooks form (labelled tree reading pairing)) pairing.body pairing.plan
          its.realised;
      due = λ cause. (
        λ there. (due-both form cause).0 ((its.due cause).0 there),
        λ due. (its.due cause).1 ((due-both form cause).1 due),
      );
      once = its.once;
    }

    -- ---- how they are laid out
    same-externals : externals one ≡ externals two
    same-externals =
        λ i list. each_once
        (filter (λ s. is_external p s) (flat_map (λ m. same-asked p f g w m i) list))

    same-causes : module_causes one ≡ module_causes two
    same-causes =
        λ i m. Defines m ∷ HoldsMeta m
        ∷ (map (Loads m) (same-requested p f g w i m)
        ++ map (Own m)
        (counted-zip SameElements zero (own_statements (tree_of one m))
        (own_statements (tree_of two m)) (statements-on p f g w m) i))

    block-on : {members : List ℕ} {plan : List Cause} →
        IsBlockLaidOut one form tree reading pairing members plan →
        IsBlockLaidOut two form tree reading pairing members plan
    block-on {plan = plan} (lone {m = m} apart its) =
        lone (λ by_needs requests. apart by_needs (requests-on p g f (turned w) m m requests))
        (subst
        (λ (causes : ℕ → List Cause). Chosen (IsDue two form) (causes m ++ HoldsNamespace m ∷ [])
        plan)
        same-causes (chosen-on (due-both form) its))
    block-on {members = members} (cycle numbered items order by_needs asks its stand good placed) =
        cycle numbered items order by_needs (λ m is. requests-on p f g w m m (asks m is))
        (subst
        (λ (causes : ℕ → List Cause). Chosen (IsDue two form)
        (flat_map causes members ++ map HoldsNamespace members) numbered)
        same-causes (chosen-on (due-both form) its))
        stand good placed

    blocks-on : {blocks : List (List ℕ)} {plan : List Cause} →
        AreBlocksLaidOut one form tree reading pairing blocks plan →
        AreBlocksLaidOut two form tree reading pairing blocks plan
    blocks-on over = over
    blocks-on (next plan block more) = next plan (block-on block) (blocks-on more)

    pub laid-on : IsLaidOut one form reading tree pairing → IsLaidOut two form reading tree pairing
    laid-on its = record {
      list = its.list;
      is_list = list-on p f g w its.list its.is_list;
      blocks = its.blocks;
      are_blocks =
          subst (λ (shares : ℕ → ℕ → Type 0). BlocksOf shares its.list its.list its.blocks)
          (shares-on p f g w) its.are_blocks;
      follows = λ by_needs i l m n block other at to inside there requests.
          its.follows by_needs i l m n block other at to inside there
          (requests-on p g f (turned w) m n requests);
      front = its.front;
      middle = its.middle;
      back = its.back;
      plan = its.plan;
      in_front =
          subst
          (λ (outside : List ℕ → List Text). Chosen (IsDue two form)
          (flat_map import_causes (outside its.list) ++ Helps ∷ []) its.front)
          same-externals (chosen-on (due-both form) its.in_front);
      in_blocks = blocks-on its.in_blocks;
      behind =
          subst
          (λ (outside : List ℕ → List Text). Chosen (IsDue two form)
          (map Stars (outside its.list) ++ Exports ∷ []) its.back)
          same-externals (chosen-on (due-both form) its.behind);
    }

  unfoldable pub bundle-on : (hooks : Hooks) (form : Form) (reading : Reading) (tree : List Item) →
      IsBundle one hooks form reading tree → IsBundle two hooks form reading tree
  bundle-on hooks form reading tree its = record {
    pairing = its.pairing;
    paired = paired-on hooks form reading tree its.pairing its.paired;
    laid_out = laid-on hooks form reading tree its.pairing its.laid_out;
  }

-- ---- called
module _ (p : Program) (f g : ModulesByNumber) (w : AreSameCleared f g) where
  -- the two programs
  abbrev first_called : Program
  first_called = with_modules p f

  abbrev second_called : Program
  second_called = with_modules p g

  -- ---- what labels are called
  target-symbol : (list : List ℕ) (t : Target) →
      symbol_of_target first_called list t ≡ symbol_of_target second_called list t
  target-symbol list (Declared m x) = refl
  target-symbol list (Namespace m) = refl
  target-symbol list (External s its) =
      λ i. taken_name (bytes_eq s) its (flat_map (λ m. same-imports p f g w m i) list)
      (flat_map (λ m. same-exports p f g w m i) list)
  target-symbol list (CommonJs m n its) =
      λ i. taken_name (λ s. is_number (resolves p m s) n) its (same-imports p f g w m i)
      (same-exports p f g w m i)

  label-symbol : (list : List ℕ) (l : Label) →
      symbol_of_label first_called list l ≡ symbol_of_label second_called list l
  label-symbol list (Of t) = target-symbol list t
  label-symbol list (Parameter m x) = refl
  label-symbol list (Load m) = refl
  label-symbol list (Meta m) = refl
  label-symbol list Helper = refl

  -- ---- what bindings inside items are called
  alike-on : (spelled : Text → Text) (its : Labelled) (m : ℕ) (kind : ModuleKind) (item : TopItem)
      (statement other : List Element) →
      CalledAlike spelled its (own_view first_called m kind) item statement →
      SameElements statement other → CalledAlike spelled its (own_view second_called m kind) item other
  alike-on spelled its m kind item statement other alike same =
      alike
      ∙ ap (λ inner. map spelled (map denoted_symbol inner))
      (same-inner p f g w m kind 0 statement other same)

  all-alike : (spelled : Text → Text) (its : Labelled) (m : ℕ) (kind : ModuleKind)
      (items : List TopItem) →
      AllZip (CalledAlike spelled its (own_view first_called m kind)) items
      (own_statements (tree_of first_called m)) →
      AllZip (CalledAlike spelled its (own_view second_called m kind)) items
      (own_statements (tree_of second_called m))
  all-alike spelled its m kind items all =
      zip-through (CalledAlike spelled its (own_view first_called m kind)) SameElements
      (CalledAlike spelled its (own_view second_called m kind)) (alike-on spelled its m kind) items
      (own_statements (tree_of first_called m)) (own_statements (tree_of second_called m)) all
      (statements-on p f g w m)

  called-on : (spelled : Text → Text) (hooks : Hooks) (its : Labelled) (pairing : Pairing) →
      AreCalled spelled first_called hooks its pairing → AreCalled spelled second_called hooks its pairing
  unfolding function-on
  called-on spelled hooks its pairing called = record {
    list = called.list;
    is_list = list-on p f g w called.list called.is_list;
    outer = λ scope name l there.
        called.outer scope name l there ∙ ap spelled (label-symbol called.list l);
    own = λ m k item statement stands at.
        (let was =
        zip-at SameElements (own_statements (tree_of second_called m)) (own_statements (tree_of first_called m))
        (statements-on p g f (turned w) m) k statement at in
        alike-on spelled its m Es item was.0 statement (called.own m k item was.0 stands was.1)
        (turned-elements statement was.0 was.2));
    common_js = λ m item is stands.
        all-alike spelled its m Cjs
        (placed (item.start + length is.front) (side_by_side zero is.inside))
        (called.common_js m item (function-on p g f (turned w) its m item is) stands);
    helper = called.helper;
    metas = λ m item stands.
        (let answered = called.metas m item stands in
        record {
          properties = answered.properties;
          held = may-hold-on p f g w hooks m answered.properties answered.held;
          marks = answered.marks;
          means = answered.means;
          object = answered.object;
          alike = answered.alike;
        });
  }

  -- merged right
  pub merged-on : (spelled : Text → Text) (local : ℕ → ℕ) (hooks : Hooks) (merged : List Item) →
      IsMerged spelled local first_called hooks merged → IsMerged spelled local second_called hooks merged
  unfolding bundle-on
  merged-on spelled local hooks merged its = record {
    is_bundle = bundle-on p f g w hooks AsModule ByContext merged its.is_bundle;
    resolved = its.resolved;
    named = its.named;
    contexts =
        record {
          declared = its.contexts.declared;
          stands = its.contexts.stands;
          globals = its.contexts.globals;
        };
    binds = its.binds;
    called =
        called-on spelled hooks (labelled merged ByContext its.is_bundle.pairing)
        its.is_bundle.pairing its.called;
  }
