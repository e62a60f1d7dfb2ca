-- Programs whose modules are the same once their trees are cleared have the same faults.
-- How many contexts a bundle may need, and what holds an `import.meta`, in programs whose modules
-- are the same once their trees are cleared.
use Rattle.std.proofs.Common.{◌≡◌, inl, inr, ℕ, Some, None, Contains, sym, ◌∙◌, subst, ◌+◌, List, ◌∷◌}
use Rattle.std.specs.Prelude.{IsTrue, codes, slice_get}
use Rattle.bundle_tree_names.specs.FileName.{Name as FileName}
use Rattle.bundle_syntax.specs.Item.{Item}
use Rattle.bundle_rules.specs.Awaits.{awaits_outside}
use Rattle.bundle_rules.specs.Doubled.{first_doubled}
use Rattle.bundle_rules.specs.Entries.{Star, is_script, Named, has_import_meta}
use Rattle.bundle_rules.specs.Faults as e
use Rattle.bundle_rules.specs.Faults.{Fault, NameFault, ProgramFault, asked_names, CountsTo, InjectedCount, NeedsTooManyContexts, TreesCountTo, properties_count, tree_count}
use Rattle.bundle_rules.specs.Judging.{requests_in}
use Rattle.bundle_rules.specs.Meaning.{HasKind, Of}
use Rattle.bundle_rules.specs.Nodes.{Text}
use Rattle.bundle_rules.specs.Program.{Program, tree_of, IsReached}
use Rattle.bundle_rules.specs.Scopes.{ModuleKind, Es}
use Rattle.bundle_rules.specs.Tables.{IsChecked}
use Rattle.bundle_rules.proofs.CallLemmas.{awaits_outside-cleared, is_script-cleared, has_import_meta-cleared}
use Rattle.bundle_rules.proofs.DenotesLemmas.{first_doubled-cleared}
use Rattle.bundle_rules.proofs.EntryLemmas.{asked_names-cleared}
use Rattle.bundle_rules.specs.Bundle.{Cause, Hooks}
use Rattle.bundle_rules.specs.Linking.{CommonJs, External}
use Rattle.bundle_rules.specs.Merged.{IsMetaItem}
use Rattle.bundle_rules.proofs.CountLemmas.{tree_count-cleared}
use Rattle.bundle_merge_theory.specs.cleared.Programs.{AreSameCleared, ModulesByNumber, with_modules}
use Rattle.bundle_merge_theory.proofs.cleared.Linking.{turned, same-read, same-asked, same-calls, same-exports, same-free, same-requests, ambiguous-on, common-on, common-back, missing-on, module-on, reached-on, stars-on, list-on}
use Rattle.bundle_merge_theory.proofs.cleared.Meaning.{kind-on, meant-on}
use Rattle.bundle_merge_theory.proofs.cleared.Bundle.{due-on, faultless-on, may-hold-on, meant-both, names-on}

-- ---- faults
module _ (p : Program) (f g : ModulesByNumber) (w : AreSameCleared f g) where
  -- the two programs
  abbrev first : Program
  first = with_modules p f

  abbrev second : Program
  second = with_modules p g

  name-fault-on : {n : ℕ} {x : Text} {file : FileName} {fault : Fault} →
      NameFault first n x file fault → NameFault second n x file fault
  name-fault-on {n = n} {x = x} (e.ambiguous its) = e.ambiguous (ambiguous-on p f g w n x its)
  name-fault-on {n = n} {x = x} (e.external_only none named stars) =
      e.external_only (missing-on p f g w n x none) named (stars-on p f g w n stars)
  name-fault-on {n = n} {x = x} (e.missing none either) =
      e.missing (missing-on p f g w n x none)
      (elim either [
        | inl same ↦ inl same
        | inr not ↦ inr (λ stars. not (stars-on p g f (turned w) n stars))
      ])

  pub fault-on : {file : FileName} {m stage place : ℕ} {fault : Fault} →
      ProgramFault first file m stage place fault → ProgramFault second file m stage place fault
  fault-on {m = m} (e.required_entry call stands leads) =
      e.required_entry call (subst (λ l. Contains l call) (same-calls p f g w m) stands) leads
  fault-on {m = m} (e.required_es_module {c = n} call stands leads script) =
      e.required_es_module call (subst (λ l. Contains l call) (same-calls p f g w m) stands) leads
      (sym (same-read p f g w is_script is_script-cleared n) ∙ script)
  fault-on {m = m} (e.doubled_declaration {kind = kind} d has at) =
      e.doubled_declaration d (kind-on p f g w has)
      (sym (same-read p f g w (first_doubled kind) (first_doubled-cleared kind) m) ∙ at)
  fault-on {m = m} (e.await_in_common_js common awaits) =
      e.await_in_common_js (common-on p f g w m common)
      (subst IsTrue (same-read p f g w awaits_outside awaits_outside-cleared m) awaits)
  fault-on {m = m} (e.star_of_common_js {j = j} {c = n} {s = s} at leads common) =
      e.star_of_common_js
      (subst (λ l. slice_get l j ≡ Some (Star s)) (same-exports p f g w m) at) leads
      (common-on p f g w n common)
  fault-on {m = m} (e.name {j = j} {d = n} asked at leads fault) =
      e.name asked
      (subst (λ l. slice_get l j ≡ Some asked)
      (same-read p f g w asked_names asked_names-cleared m) at)
      (module-on p f g w m n asked.specifier leads) (name-fault-on fault)
  fault-on {m = m} (e.namespace_over_external_star meant stars) =
      e.namespace_over_external_star (meant-on p f g w meant) (stars-on p f g w m stars)
  fault-on {m = m} (e.external_under_iife {j = j} {s = s} iife at outside) =
      e.external_under_iife iife
      (subst (λ l. slice_get l j ≡ Some s) (same-asked p f g w m) at) outside
  fault-on {m = m} (e.arguments_under_iife iife es free) =
      e.arguments_under_iife iife (λ common. es (common-back p f g w m common))
      (subst IsTrue (same-free p f g w (codes "arguments") m) free)

module _ (p : Program) (f g : ModulesByNumber) (w : AreSameCleared f g) where
  -- the two programs
  abbrev one : Program
  one = with_modules p f

  abbrev two : Program
  two = with_modules p g

  pub checked-on : IsChecked one None → IsChecked two None
  checked-on none m stage place file fault other reached its =
      none m stage place file fault other (reached-on p g f (turned w) m reached)
      (fault-on p g f (turned w) its)

  pub undoubled-on :
      ((m : ℕ) (kind : ModuleKind) → IsReached one m → HasKind one m kind →
      first_doubled kind (tree_of one m) ≡ None) →
      (m : ℕ) (kind : ModuleKind) → IsReached two m → HasKind two m kind →
      first_doubled kind (tree_of two m) ≡ None
  undoubled-on none m kind reached has =
      sym (same-read p f g w (first_doubled kind) (first_doubled-cleared kind) m)
      ∙ none m kind (reached-on p g f (turned w) m reached) (kind-on p g f (turned w) has)

  -- where each request leads
  pub leads-on :
      ((m : ℕ) (s : Text) → IsReached one m → Contains (requests_in p.settings (tree_of one m)) s →
      (d : ℕ) × (p.leads m s ≡ Some d)) →
      (m : ℕ) (s : Text) → IsReached two m → Contains (requests_in p.settings (tree_of two m)) s →
      (d : ℕ) × (p.leads m s ≡ Some d)
  leads-on all m s reached asked =
      all m s (reached-on p g f (turned w) m reached)
      (subst (λ l. Contains l s) (sym (same-requests p f g w m)) asked)

-- ---- needs
module _ (p : Program) (f g : ModulesByNumber) (w : AreSameCleared f g) where
  -- the two programs
  abbrev first_needs : Program
  first_needs = with_modules p f

  abbrev second_needs : Program
  second_needs = with_modules p g

  -- what holds an `import.meta`
  pub meta-item-on : (hooks : Hooks) (m : ℕ) (item : List Item) → IsMetaItem first_needs hooks m item →
      IsMetaItem second_needs hooks m item
  meta-item-on hooks m item its = record {
    answered = its.answered;
    held = may-hold-on p f g w hooks m its.answered its.held;
    faultless = faultless-on p f g w its.answered its.faultless;
    properties = its.properties;
    local = its.local;
    next = its.next;
    later = its.later;
    inside = its.inside;
    resolved = its.resolved;
    meta = its.meta;
    ctxt = its.ctxt;
    above = its.above;
    own = its.own;
    is = its.is;
  }

  -- ---- scopes and bindings
  injected-on : {cause : Cause} {n : ℕ} → InjectedCount first_needs cause n → InjectedCount second_needs cause n
  injected-on (e.names {s = s} names are) =
      e.names names (names-on (λ x. meant-both p f g w (Of (External s (Named x)))) are)
  injected-on e.whole = e.whole
  injected-on e.helper = e.helper
  injected-on e.load_function = e.load_function
  injected-on (e.loads {m = m} {c = n} names are not) =
      e.loads names (names-on (λ x. meant-both p f g w (Of (CommonJs m n (Named x)))) are)
      (λ meant. not (meant-on p g f (turned w) meant))
  injected-on (e.loads_whole {m = m} {c = n} names are meant) =
      e.loads_whole names (names-on (λ x. meant-both p f g w (Of (CommonJs m n (Named x)))) are)
      (meant-on p f g w meant)
  injected-on e.meta = e.meta
  injected-on e.namespace = e.namespace

module _ (p : Program) (f g : ModulesByNumber) (w : AreSameCleared f g) where
  -- the two programs
  abbrev one_needs : Program
  one_needs = with_modules p f

  abbrev two_needs : Program
  two_needs = with_modules p g

  counts-on : {causes : List Cause} {n : ℕ} → CountsTo one_needs causes n → CountsTo two_needs causes n
  counts-on e.nothing = e.nothing
  counts-on (e.counted its more) = e.counted (injected-on p f g w its) (counts-on more)
  counts-on (e.other none more) =
      e.other (λ n its. none n (injected-on p g f (turned w) its)) (counts-on more)

  module _ (hooks : Hooks) where
    trees-on : {list : List ℕ} {n : ℕ} → TreesCountTo one_needs hooks list n →
        TreesCountTo two_needs hooks list n
    trees-on e.nothing = e.nothing
    trees-on (e.plain {m = m} {more = more} {rest = rest} {kind = kind} has not others) =
        subst (λ n. TreesCountTo two_needs hooks (m ∷ rest) (n + more))
        (sym (same-read p f g w (tree_count kind) (tree_count-cleared kind) m))
        (e.plain (kind-on p f g w has)
        (sym (same-read p f g w has_import_meta has_import_meta-cleared m) ∙ not) (trees-on others))
    trees-on (e.with_meta {m = m} {more = more} {rest = rest} properties has held others) =
        subst (λ n. TreesCountTo two_needs hooks (m ∷ rest) (n + (properties_count properties + more)))
        (sym (same-read p f g w (tree_count Es) (tree_count-cleared Es) m))
        (e.with_meta properties
        (sym (same-read p f g w has_import_meta has_import_meta-cleared m) ∙ has)
        (may-hold-on p f g w hooks m properties held) (trees-on others))
    trees-on (e.unanswered {m = m} {more = more} {rest = rest} has others) =
        subst (λ n. TreesCountTo two_needs hooks (m ∷ rest) (n + more))
        (sym (same-read p f g w (tree_count Es) (tree_count-cleared Es) m))
        (e.unanswered (sym (same-read p f g w has_import_meta has_import_meta-cleared m) ∙ has)
        (trees-on others))

    -- where contexts may be too few
    pub needs-on : (next : ℕ) → NeedsTooManyContexts one_needs hooks next →
        NeedsTooManyContexts two_needs hooks next
    needs-on next its = record {
      list = its.list;
      is_list = list-on p f g w its.list its.is_list;
      causes = its.causes;
      due = λ cause there. due-on p f g w (its.due cause there);
      once = its.once;
      of_trees = its.of_trees;
      trees = trees-on its.trees;
      of_causes = its.of_causes;
      injected = counts-on its.injected;
      above = its.above;
    }
