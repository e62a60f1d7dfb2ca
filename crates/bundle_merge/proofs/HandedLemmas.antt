-- What was read of modules one by one is what was read of all, and it is handed on to be linked.
use Rattle.std.proofs.Common.{◌≡◌, ◌-◌, ◌+◌, ◌<◌, ℕ, List, [], ◌∷◌, ◌++◌, Option, Some, None, length, refl, sym, ap, ◌∙◌, subst, inl, inr, arith}
use Rattle.std.specs.Prelude.{Result, Ok, Err, IfErr, IfOk, slice_get}
use Rattle.std.specs.List.{AllZip}
use Rattle.std.proofs.lemmas.Option.{none-some, same_Some}
use Rattle.bundle_tree_ast.specs.declared.module.Module.{Module}
use Rattle.bundle_order_graph.specs.Modules.{Modules}
use Rattle.bundle_order_sort.specs.Plan.{IsPlanOf}
use Rattle.bundle_order_sort.specs.declared.plan.Block.{Block}
use Rattle.bundle_order_sort.specs.declared.plan.Plan.{Plan}
use Rattle.bundle_rules.specs.Program.{Program}
use Rattle.bundle_link.specs.declared.link.Linker.{Linker}
use Rattle.bundle_link.specs.declared.transformed.TransformedModule.{TransformedModule}
use Rattle.bundle_link_index.specs.Programs.{IsLinkProgram}
use Rattle.bundle_link_index.specs.declared.target.LinkModule.{LinkModule}
use Rattle.bundle_link.specs.Judged.{numbers_below}
use Rattle.bundle_link.proofs.NumberLemmas.{held}
use Rattle.bundle_link.proofs.NumbersLemmas.{there_is}
use Rattle.bundle_link_targets.specs.Linked.{HandsOver, IsLinkingOf}
use Rattle.bundle_link_targets.specs.declared.linking.Linking.{Linking}
use Rattle.bundle_merge_names.specs.declared.error.MergeError.{MergeError}
use Rattle.bundle_merge_names.specs.declared.part.BundleInput.{BundleInput}
use Rattle.bundle_merge_names.specs.declared.part.BundleModule.{BundleModule}
use Rattle.bundle_merge_names.proofs.ScopeLemmas.{push-cases}
use Rattle.bundle_merge_items.specs.declared.merge.MergedModule.{MergedModule}
use Rattle.bundle_merge.specs.Handed.{AreReadFrom, IsBundleRead, IsLinkRead, IsLinkedRead, IsMadeOfRead, IsPartRead, MayRefuseRead}
use Rattle.bundle_merge.specs.Read.{AreAllKnown, IsModuleKnown, IsReadAt, IsReadModuleOf}
use Rattle.bundle_merge.specs.Ready.{IsMergedAs, IsRefusedAs, TakesAs}
use Rattle.bundle_merge.specs.declared.read.ReadModule.{ReadModule}

-- nothing was read of no modules
pub none-read : (linker : Linker) (ids list : List ℕ) (copies : List Module) →
    AreReadFrom linker ids list copies 0 []
none-read linker ids list copies = record {
  long = refl;
  each = λ k m its read part at there none handed. absurd (none-some read none);
}

-- what was read of so many modules, and of one more
module _ (linker : Linker) (ids list : List ℕ) (copies : List Module) (n : ℕ) (reads more : List ReadModule) (read : ReadModule) (is : more ≡ reads ++ read ∷ []) where
  -- what was read of the module that stands next
  abbrev IsNext : Type 0
  IsNext =
      (m : ℕ) (its : Module) (part : BundleModule) → slice_get list n ≡ Some m →
      slice_get copies n ≡ Some its → IsPartRead read part → IsReadAt linker ids m its part

  -- it is so where the module is known, and this was read of it
  pub next-read : (m : ℕ) (its : Module) (known : TransformedModule) →
      slice_get list n ≡ Some m → slice_get copies n ≡ Some its → IsModuleKnown linker m known →
      ((part : BundleModule) → IsPartRead read part → IsReadModuleOf linker known ids its.body.items part) →
      IsNext
  next-read m its known at there is_known reads_as other given part its_at its_there handed =
      let same : m ≡ other = same_Some m other (sym at ∙ its_at) in
      let copy : its ≡ given = same_Some its given (sym there ∙ its_there) in
      record {
        known = known;
        is_known = subst (λ (k : ℕ). IsModuleKnown linker k known) same is_known;
        is =
            subst (λ (it : Module). IsReadModuleOf linker known ids it.body.items part) copy
            (reads_as part handed);
      }

  long-more : (xs : List ReadModule) → length (xs ++ read ∷ []) ≡ length xs + 1
  long-more [] = refl
  long-more (x ∷ xs) = let rest = long-more xs in omega (arith, rest)

  pub reads-more : IsNext → AreReadFrom linker ids list copies n reads →
      AreReadFrom linker ids list copies (n + 1) more
  reads-more next are = subst (AreReadFrom linker ids list copies (n + 1)) (sym is) (record {
    long = let long = long-more reads in omega (arith, long, are.long);
    each = λ k m its some part at there found handed.
        elim (push-cases reads read k some found) [
          | inl old ↦ are.each k m its some part at there old handed
          | inr last ↦
              (let place : k ≡ n = last.0 ∙ are.long in
              next m its part (ap (slice_get list) (sym place) ∙ at)
              (ap (slice_get copies) (sym place) ∙ there)
              (subst (λ (one : ReadModule). IsPartRead one part) (sym last.1) handed))
        ];
  })

-- where all modules of a list are there, what was found at a place of it is the module there
module _ (linker : Linker) (list : List ℕ) (known : AreAllKnown linker list) (place : ℕ) (within : place < length list) (found : Option TransformedModule) (finds : (m : ℕ) (its : TransformedModule) → slice_get list place ≡ Some m → IsModuleKnown linker m its → found ≡ Some its) where
  pub found-known : (m : ℕ) × (its : TransformedModule) × (slice_get list place ≡ Some m) × IsModuleKnown linker m its × (found ≡ Some its)
  found-known =
      let m = there_is list place within in
      let its = known m.0 (held list m.0 place m.1) in
      (m.0, its.0, m.1, its.1, finds m.0 its.0 m.1 its.1)

  -- so something was found
  pub some-found : found ≡ None → ⊥
  some-found none = let its = found-known in none-some its.1 (sym none ∙ its.4)

  pub found-is : (its : TransformedModule) → found ≡ Some its → (m : ℕ) × (slice_get list place ≡ Some m) × IsModuleKnown linker m its
  found-is its some =
      let is = found-known in
      (is.0, is.2, subst (IsModuleKnown linker is.0) (same_Some is.1 its (sym is.4 ∙ some)) is.3)

-- modules are linked as they were read
pub linked-read : {E : Type 0} (linker : Linker) (reads : List ReadModule) (links : List LinkModule)
    (result : Result Linking E) → AllZip IsLinkRead reads links →
    IfOk result (λ linking. (p : Program) →
    IsLinkProgram p links (numbers_below (length links)) (length links - 1) linker.config.require →
    IsLinkingOf p linking) →
    IfOk result (λ linking. (p : Program) →
    IsLinkProgram p links (numbers_below (length links)) (length links - 1) linker.config.require →
    HandsOver p (numbers_below (length links)) linking) →
    IfOk result (IsLinkedRead linker reads)
linked-read linker reads links (Ok linking) each linked handed =
    record { links = links; each = each; linked = linked; handed = handed }
linked-read linker reads links (Err error) each linked handed = tt

-- a plan of the same modules
pub planned-same : (g h : Modules) (entry its_entry : ℕ) (list its_list : List ℕ) (plan : Plan) →
    g ≡ h → entry ≡ its_entry → list ≡ its_list → IsPlanOf g entry list plan →
    IsPlanOf h its_entry its_list plan
planned-same g h entry its_entry list its_list plan same same_entry same_list planned =
    subst (λ (it : Modules). IsPlanOf it its_entry its_list plan) same
    (subst (λ (m : ℕ). IsPlanOf g m its_list plan) same_entry
    (subst (λ (l : List ℕ). IsPlanOf g entry l plan) same_list planned))

-- what is merged is made of the modules that were read
pub made-of-read : (reads : List ReadModule) (linking : Linking) (blocks : List Block) (next : ℕ)
    (bundle : BundleInput) (result : Result MergedModule MergeError) → IfOk result (IsMergedAs bundle) →
    IfOk result (TakesAs bundle) → IsBundleRead reads linking blocks next bundle →
    IfOk result (IsMadeOfRead reads linking blocks next)
made-of-read reads linking blocks next bundle (Ok merged) made few is =
    record { bundle = bundle; read = is; made = made; few = few }
made-of-read reads linking blocks next bundle (Err error) made few is = tt

-- or nothing is
pub refused-of-read : (reads : List ReadModule) (linking : Linking) (blocks : List Block) (next : ℕ)
    (bundle : BundleInput) (result : Result MergedModule MergeError) → IfErr result (IsRefusedAs bundle) →
    IsBundleRead reads linking blocks next bundle →
    IfErr result (MayRefuseRead reads linking blocks next)
refused-of-read reads linking blocks next bundle (Ok merged) refused is = tt
refused-of-read reads linking blocks next bundle (Err error) refused is =
    inr (record { bundle = bundle; read = is; refused = refused })
