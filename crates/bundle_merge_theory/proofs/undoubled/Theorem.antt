-- Theorem of this folder (`made-undoubled`): what is made of the modules of a program declares no
-- name where another of its name excludes it.
-- Used by folder `finished`.
use Rattle.std.proofs.Common.{◌≡◌, ℕ, List, Option, None, ap, sym, ◌∙◌, subst, codes, Some}
use Rattle.std.proofs.lemmas.Option.{same_Some}
use Rattle.std.specs.Prelude.{slice_get}
use Rattle.std.specs.List.{AllZip}
use Rattle.bundle_syntax.specs.Item.{Item}
use Rattle.bundle_rules.specs.Scopes.{Cjs}
use Rattle.bundle_rules.specs.Declarations.{BySymbol, declared}
use Rattle.bundle_rules.specs.Doubled.{first_doubled}
use Rattle.bundle_rules.specs.Nodes.{flat, parts}
use Rattle.bundle_rules.specs.Parts.{tree_of_items}
use Rattle.bundle_rules.specs.Statements.{own_statements}
use Rattle.bundle_rules.specs.Program.{Program, tree_of}
use Rattle.bundle_rules.specs.Meaning.{Load, Helper, is_common_js, Of}
use Rattle.bundle_rules.specs.Bundle as b
use Rattle.bundle_rules.specs.Bundle.{Defines, AsModule, Hooks, IsDue, Cause, Own, ImportsNames, ImportsWhole, ImportsNothing, Helps, Loads, HoldsMeta, HoldsNamespace, Stars, Exports}
use Rattle.bundle_rules.specs.Entries.{Whole}
use Rattle.bundle_rules.specs.Linking.{External, Namespace}
use Rattle.bundle_scope_names.specs.Undoubled.{IsUndoubled}
use Rattle.bundle_link.proofs.NumberedModuleLemmas.{zip_at as zip-at}
use Rattle.bundle_merge_theory.specs.joined.Joined.{own_declared, joined_items}
use Rattle.bundle_merge_theory.specs.loaded.Item.{module_start}
use Rattle.bundle_merge_theory.specs.loaded.Loaded.{module_declared}
use Rattle.bundle_merge_theory.proofs.joined.Declarations.{IsNamed}
use Rattle.bundle_merge_theory.specs.made.Given.{HookAnswer, BundleContexts, TopOf, numbers_in, ident_of_label, HelperParameter, HelperVariable}
use Rattle.bundle_merge_theory.specs.made.Made as made
use Rattle.bundle_merge_theory.specs.made.Made.{IsMade, linked_idents}
use Rattle.bundle_merge_theory.specs.made.Alone.{AreTreesSound, TellApart}
use Rattle.bundle_merge_theory.specs.function.Pieces.{Laid}
use Rattle.bundle_merge_theory.specs.undoubled.Clashing.{NoneClash, IsDeclaredFor, of_another}
use Rattle.bundle_merge_theory.proofs.told.Theorem.{told}
use Rattle.bundle_merge_theory.proofs.function.Theorem.{call_given}
use Rattle.bundle_merge_theory.proofs.function.Strange.{load-listed}
use Rattle.bundle_merge_theory.proofs.function.Statement.{laid_turned, loaded}
use Rattle.bundle_merge_theory.proofs.function.Parts.{IsOwnModule, own_module}
use Rattle.bundle_merge_theory.proofs.function.Given.{all_pieces}
use Rattle.bundle_merge_theory.proofs.undoubled.Clash.{none_from, own-declared}
use Rattle.bundle_merge_theory.proofs.undoubled.Function.{load-none, exports-none, namespace-none, helper-none}
use Rattle.bundle_merge_theory.specs.together.Together.{AreMergedTogether}
use Rattle.bundle_merge_theory.proofs.together.Statements.{of-item}
use Rattle.bundle_merge_theory.proofs.undoubled.Added.{whole-none, bare-none, star-none}
use Rattle.bundle_merge_theory.proofs.undoubled.Joined.{meta-none}
use Rattle.bundle_merge_theory.proofs.undoubled.Together.{imports-none, loads-none, together-undoubled}

-- ---- defined
pub defined-none : (p : Program) (hooks : Hooks) (list : List ℕ) (context : BundleContexts)
    (answers : ℕ → Option HookAnswer) (c : ℕ) (item : List Item) → AreTreesSound p list →
    TellApart p answers context → IsDue p AsModule (Defines c) →
    IsMade p hooks list context answers (Defines c) item → NoneClash (own_declared item)
defined-none p hooks list context answers c item sound apart (b.defines reached common)
    (made.defines bodies stated is) =
    let own : IsOwnModule (tree_of p c) =
    own_module (tree_of p c) (sound.fit.each c reached) common.script in
    let undoubled : first_doubled Cjs (tree_of_items (flat (parts (tree_of p c)))) ≡ None =
    ap (first_doubled Cjs) (sym own.is) ∙ sound.undoubled c Cjs reached (is_common_js common) in
    let those :
    Laid p list context c (module_declared (flat (parts (tree_of p c)))) module_start
    (parts (tree_of p c)) (own_statements (tree_of p c)) bodies =
    subst
    (λ t.
    Laid p list context c (declared BySymbol Cjs t) module_start (parts (tree_of p c))
    (own_statements (tree_of p c)) bodies)
    own.is
    (all_pieces p list context c reached common
    (λ o d called. call_given p sound.checked c d called.call reached called.linked called.leads)
    own bodies stated
    (λ statement body there its. told p list context sound reached (is_common_js common) statement there its)) in
    subst (λ l. NoneClash (own_declared l))
    (sym
    (is
    ∙ load-listed (ident_of_label p list context (Load c)) (ident_of_label p list context Helper)
    (codes "module", context (TopOf c)) (codes "exports", context (TopOf c)) (flat bodies)))
    (load-none (laid_turned p list context c (module_declared (flat (parts (tree_of p c)))) those)
    (numbers_in context c) (ident_of_label p list context (Load c))
    (ident_of_label p list context Helper) (codes "module", context (TopOf c))
    (codes "exports", context (TopOf c))
    (loaded p list context answers apart c reached common (parts (tree_of p c)) own.each own.is
    undoubled those)
    (none_from (module_declared (flat (parts (tree_of p c)))) undoubled))

-- ---- made
module _ (p : Program) (hooks : Hooks) (list : List ℕ) (context : BundleContexts)
    (answers : ℕ → Option HookAnswer) (sound : AreTreesSound p list) (apart : TellApart p answers context) where
  -- each item
  declared_for : (cause : Cause) (item : List Item) → IsDue p AsModule cause →
      IsMade p hooks list context answers cause item → IsNamed item → IsDeclaredFor p cause item
  declared_for (Own m k) item due its named =
      own-declared p list context answers sound apart hooks m k item due its named
  declared_for (Defines c) item due its named =
      of_another (λ m k e. cc) (defined-none p hooks list context answers c item sound apart due its)
  declared_for (ImportsWhole s) item due (made.imports_whole is) named =
      of_another (λ m k e. cc)
      (subst (λ l. NoneClash (own_declared l)) (sym is)
      (whole-none s (ident_of_label p list context (Of (External s Whole)))))
  declared_for (ImportsNothing s) item due (made.imports_nothing is) named =
      of_another (λ m k e. cc) (subst (λ l. NoneClash (own_declared l)) (sym is) (bare-none s))
  declared_for (Stars s) item due (made.stars is) named =
      of_another (λ m k e. cc) (subst (λ l. NoneClash (own_declared l)) (sym is) (star-none s))
  declared_for (ImportsNames s) item due its named =
      of_another (λ m k e. cc) (imports-none p hooks list context answers apart s item due its)
  declared_for Helps item due (made.helps is) named =
      of_another (λ m k e. cc)
      (subst (λ l. NoneClash (own_declared l)) (sym is)
      (helper-none (ident_of_label p list context Helper) (codes "fn", context HelperParameter)
      (codes "module", context HelperVariable)))
  declared_for (Loads m c) item due its named =
      of_another (λ n k e. cc) (loads-none p hooks list context answers apart m c due item its)
  declared_for (HoldsMeta m) item due its named =
      of_another (λ n k e. cc) (meta-none p hooks list context answers apart m item due its)
  declared_for (HoldsNamespace d) item due (made.holds_namespace pairs are is) named =
      of_another (λ m k e. cc)
      (subst (λ l. NoneClash (own_declared l)) (sym is)
      (namespace-none (ident_of_label p list context (Of (Namespace d)))
      (linked_idents p list context pairs)))
  declared_for Exports item due (made.exports pairs are is) named =
      of_another (λ m k e. cc)
      (subst (λ l. NoneClash (own_declared l)) (sym is)
      (exports-none (linked_idents p list context pairs)))

  -- no name is declared where another of its name excludes it
  pub made-undoubled : (plan : List Cause) (items : List (List Item)) →
      AreMergedTogether p hooks list context answers plan items →
      AllZip (IsMade p hooks list context answers) plan items → IsUndoubled (joined_items items)
  made-undoubled plan items its all =
      together-undoubled p hooks list context answers plan items its
      (λ n cause item at there.
      let stands = of-item p hooks list context answers plan items its n item there in
      let same = same_cause n at stands.1.cause_there in
      declared_for cause item (subst (IsDue p AsModule) (sym same) stands.1.due)
      (zip-at (IsMade p hooks list context answers) plan items all n cause item at there)
      stands.1.alone.named)
    where
      same_cause : (n : ℕ) {c other : Cause} → slice_get plan n ≡ Some c →
          slice_get plan n ≡ Some other → c ≡ other
      same_cause n {c = c} {other = other} one two = same_Some c other (sym one ∙ two)
