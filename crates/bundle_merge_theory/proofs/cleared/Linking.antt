-- Programs whose modules are the same once their trees are cleared link alike.
use Rattle.std.proofs.Common.{◌≡◌, inl, inr, ℕ, Bool, true, false, List, [], ◌∷◌, Option, Some, None, Contains, sym, ap, subst}
use Rattle.std.specs.Prelude.{IsTrue, codes, filter_map}
use Rattle.std.specs.List.{list_any}
use Rattle.bundle_syntax.specs.Item.{Item}
use Rattle.bundle_order_graph.specs.Walks.{Reaches}
use Rattle.bundle_order_graph.specs.Order.{Lists}
use Rattle.bundle_rules.specs.Bound.{has_free, is_free, top_names}
use Rattle.bundle_rules.specs.Cleared.{cleared}
use Rattle.bundle_rules.specs.Entries.{Taken, Named, ImportEntry, ExportEntry, Local, Indirect, Star, declared_requests, exports_of, has_own_entry, import_of, is_named, imports_of, is_script, linked_calls, requests_of}
use Rattle.bundle_rules.specs.Faults.{StarsExternal}
use Rattle.bundle_rules.specs.Linking.{IsRequired, IsCommonJs, UsesCommonJs, Target, IsModule, Takes, of_external, of_common_js, of_module, Origin, Gives, declaration, namespace_import, taken, given_on, starred, Linked, IsLinked, IsAmbiguous, IsMissing, HasExternalStar, own, through, StandsFor, declared, imported, taken_whole, exports, imports}
use Rattle.bundle_rules.specs.Nodes.{Text, numbers_once}
use Rattle.bundle_rules.specs.Program.{Program, tree_of, calls_of, requested, resolves, IsList, IsReached, Requests, SharesBlock}
use Rattle.bundle_rules.proofs.CallLemmas.{has_free-cleared, is_script-cleared, linked_calls-cleared, requests, top_names-cleared}
use Rattle.bundle_rules.proofs.EntryLemmas.{declared_requests-cleared, exports_of-cleared, imports_of-cleared}
use Rattle.bundle_merge_theory.specs.cleared.Programs.{AreSameCleared, ModulesByNumber, with_modules}
use Rattle.bundle_merge_theory.proofs.cleared.Trees.{alike}

-- the other way round
pub turned : {f g : ModulesByNumber} → AreSameCleared f g → AreSameCleared g f
turned w = record { names = λ m. sym (w.names m); trees = λ m. sym (w.trees m) }

module _ (p : Program) (f g : ModulesByNumber) (w : AreSameCleared f g) where
  -- the two programs
  abbrev first : Program
  first = with_modules p f

  abbrev second : Program
  second = with_modules p g

  -- what is read of the tree of a module
  pub same-read : {A : Type 0} (tell : List Item → A) →
      ((tree : List Item) → tell (cleared tree) ≡ tell tree) → (m : ℕ) →
      tell (tree_of first m) ≡ tell (tree_of second m)
  same-read tell its m = alike tell its (tree_of first m) (tree_of second m) (w.trees m)

  pub same-imports : (m : ℕ) → imports first m ≡ imports second m
  same-imports = same-read imports_of imports_of-cleared

  pub same-exports : (m : ℕ) → exports first m ≡ exports second m
  same-exports = same-read exports_of exports_of-cleared

  pub same-asked : (m : ℕ) →
      declared_requests (tree_of first m) ≡ declared_requests (tree_of second m)
  same-asked = same-read declared_requests declared_requests-cleared

  pub same-calls : (m : ℕ) → calls_of first m ≡ calls_of second m
  same-calls =
      same-read (λ tree. linked_calls p.settings (is_free tree) tree)
      (linked_calls-cleared p.settings)

  pub same-requests : (m : ℕ) →
      requests_of p.settings (is_free (tree_of first m)) (tree_of first m)
      ≡ requests_of p.settings (is_free (tree_of second m)) (tree_of second m)
  same-requests =
      same-read (λ tree. requests_of p.settings (is_free tree) tree) (requests p.settings)

  pub same-free : (x : Text) (m : ℕ) → has_free (tree_of first m) x ≡ has_free (tree_of second m) x
  same-free x = same-read (λ tree. has_free tree x) (λ tree. has_free-cleared tree x)

  -- ---- requests
  pub same-requested : requested first ≡ requested second
  same-requested =
      λ i m. numbers_once (filter_map (resolves p m) (same-requests m i))

  pub reached-on : (m : ℕ) → IsReached first m → IsReached second m
  reached-on m =
      subst (λ (r : ℕ → List ℕ). Reaches (λ n k. Contains (r n) k) p.entry m) same-requested

  pub list-on : (list : List ℕ) → IsList first list → IsList second list
  list-on list = subst (λ (r : ℕ → List ℕ). Lists r [] [] (p.entry ∷ []) list) same-requested

  pub requests-on : (m n : ℕ) → Requests first m n → Requests second m n
  requests-on m n = subst (λ (r : ℕ → List ℕ). Contains (r m) n) same-requested

  -- ---- kinds
  pub required-on : (m : ℕ) → IsRequired first m → IsRequired second m
  required-on m (n, reached, its) = (
    n,
    reached-on n reached,
    record {
      call = its.call;
      stands = subst (λ l. Contains l its.call) (same-calls n) its.stands;
      resolved = its.resolved;
    },
  )

  uses-on : (m : ℕ) → UsesCommonJs first m → UsesCommonJs second m
  uses-on m (inl its) = inl (subst IsTrue (same-free (codes "require") m) its)
  uses-on m (inr (inl its)) = inr (inl (subst IsTrue (same-free (codes "module") m) its))
  uses-on m (inr (inr its)) = inr (inr (subst IsTrue (same-free (codes "exports") m) its))

  pub common-on : (m : ℕ) → IsCommonJs first m → IsCommonJs second m
  common-on m is = record {
    linked = is.linked;
    other = is.other;
    script = subst IsTrue (same-read is_script is_script-cleared m) is.script;
    used = elim is.used [
      | inl uses ↦ inl (uses-on m uses)
      | inr required ↦ inr (required-on m required)
    ];
  }

module _ (p : Program) (f g : ModulesByNumber) (w : AreSameCleared f g) where
  abbrev one : Program
  one = with_modules p f

  abbrev two : Program
  two = with_modules p g

  pub common-back : (m : ℕ) → IsCommonJs two m → IsCommonJs one m
  common-back m = common-on p g f (turned w) m

  -- ---- targets
  pub module-on : (m n : ℕ) (s : Text) → IsModule one m s n → IsModule two m s n
  module-on m n s is = record {
    resolved = is.resolved;
    es = λ common. is.es (common-back n common);
  }

  takes-on : {m : ℕ} {s : Text} {what : Taken} {t : Target} → Takes one m s what t →
      Takes two m s what t
  takes-on (of_external outside) = of_external outside
  takes-on (of_common_js {c = n} is common) = of_common_js is (common-on p f g w n common)
  takes-on {m = m} {s = s} (of_module {d = n} is) = of_module (module-on m n s is)

  has-export : (m : ℕ) (entry : ExportEntry) → Contains (exports one m) entry →
      Contains (exports two m) entry
  has-export m entry = subst (λ l. Contains l entry) (same-exports p f g w m)

  pub same-import : (m : ℕ) (x : Text) (o : Option ImportEntry) → import_of (imports one m) x ≡ o →
      import_of (imports two m) x ≡ o
  same-import m x o = subst (λ l. import_of l x ≡ o) (same-imports p f g w m)

  pub gives-on : {m : ℕ} {x : Text} {t : Target} {origin : Option Origin} → Gives one m x t origin →
      Gives two m x t origin
  gives-on {m = m} {x = x} (declaration {y = y} stands none) =
      declaration (has-export m (Local x y) stands) (same-import m y None none)
  gives-on {m = m} {x = x} (namespace_import {y = y} entry stands bound takes) =
      namespace_import entry (has-export m (Local x y) stands) (same-import m y (Some entry) bound)
      (takes-on takes)
  gives-on {m = m} {x = x} (taken {s = s} {what = what} stands takes) =
      taken (has-export m (Indirect x s what) stands) (takes-on takes)
  gives-on {m = m} {x = x} (given_on {d = n} {s = s} {y = y} stands leads more) =
      given_on (has-export m (Indirect x s (Named y)) stands) (module-on m n s leads)
      (gives-on more)
  gives-on {m = m} {x = x} (starred {d = n} {s = s} none name stands leads more) =
      starred
      (subst (λ (b : Bool). b ≡ false)
      (same-read p f g w (λ tree. has_own_entry tree x) (own-entry x) m) none)
      name (has-export m (Star s) stands) (module-on m n s leads) (gives-on more)
    where
      own-entry : (x : Text) (tree : List Item) →
          has_own_entry (cleared tree) x ≡ has_own_entry tree x
      own-entry x tree = ap (list_any (is_named x)) (exports_of-cleared tree)

  pub star-on : {m : ℕ} {s : Text} → HasExternalStar one m s → HasExternalStar two m s
  star-on {m = m} {s = s} (own stands outside) = own (has-export m (Star s) stands) outside
  star-on {m = m} (through {r = r} stands leads more) =
      through (has-export m (Star r) stands) leads (star-on more)

  pub stars-on : (m : ℕ) → StarsExternal one m → StarsExternal two m
  stars-on m (s, star) = (s, star-on star)

module _ (p : Program) (f g : ModulesByNumber) (w : AreSameCleared f g) where
  abbrev before : Program
  before = with_modules p f

  abbrev after : Program
  after = with_modules p g

  pub linked-on : (m : ℕ) (x : Text) (t : Target) → Linked before m x t → Linked after m x t
  linked-on m x t its = record {
    origin = its.origin;
    given = gives-on p f g w its.given;
    only = λ other origin given. its.only other origin (gives-on p g f (turned w) given);
  }

  pub is-linked-on : (m : ℕ) (x : Text) → IsLinked before m x → IsLinked after m x
  is-linked-on m x (t, its) = (t, linked-on m x t its)

  pub missing-on : (m : ℕ) (x : Text) → IsMissing before m x → IsMissing after m x
  missing-on m x none t origin given = none t origin (gives-on p g f (turned w) given)

  pub ambiguous-on : (m : ℕ) (x : Text) → IsAmbiguous before m x → IsAmbiguous after m x
  ambiguous-on m x its = record {
    first = its.first;
    second = its.second;
    first_origin = its.first_origin;
    second_origin = its.second_origin;
    gives_first = gives-on p f g w its.gives_first;
    gives_second = gives-on p f g w its.gives_second;
    differ = its.differ;
  }

  -- what a name at the top stands for
  pub stands-on : {m : ℕ} {x : Text} {t : Target} → StandsFor before m x t → StandsFor after m x t
  stands-on {m = m} {x = x} (declared there none) =
      declared (subst (λ l. Contains l x) (same-read p f g w top_names top_names-cleared m) there)
      (same-import p f g w m x None none)
  stands-on {m = m} {x = x} {t = t} (imported {y = y} {d = n} entry bound name leads links) =
      imported entry (same-import p f g w m x (Some entry) bound) name
      (module-on p f g w m n entry.specifier leads) (linked-on n y t links)
  stands-on {m = m} {x = x} (taken_whole entry bound takes) =
      taken_whole entry (same-import p f g w m x (Some entry) bound) (takes-on p f g w takes)

  -- ---- blocks
  pub shares-on : SharesBlock before ≡ SharesBlock after
  shares-on =
      λ i m n. Reaches (λ x y. Contains (same-requested p f g w i x) y) m n
      × Reaches (λ x y. Contains (same-requested p f g w i x) y) n m
      × (p.settings.in_standard_order ≡ true → m ≡ n)
